-- The frames of a turn: each can be said, and takes few polls.
use Rattle.std.proofs.Common.{◌≡◌, ◌≤◌, ℕ, Bool, List, [], ◌∷◌, length, map, refl, sym, ap, subst, arith}
use Rattle.std.specs.Prelude.{⊤}
use Rattle.std.specs.List.{concat}
use Rattle.dex_line.specs.BlockCut.{EachGroupFits, blocks_of}
use Rattle.dex_line.specs.FrameShapes.{FrameShape, Ack0, Ack1, Enq, Nak, Eot, Header, Block, Damaged, Bad}
use Rattle.dex_line.specs.FrameSpelling.{IsSpoken, spelling}
use Rattle.dex_line.specs.TextUnits.{EachFits}
use Rattle.dex_line.specs.declared.cutter.TheConstants.{BLOCK_WRITTEN}
use Rattle.dex_line.proofs.BlockTexts.{EachText, each_text}
use Rattle.dex_line.proofs.Exists.{blocks_cut}
use Rattle.dex_line.proofs.UnitCuts.{no_units}
use Rattle.dxs_envelope.specs.Sending.{IsOutgoing}
use Rattle.dxs_envelope.proofs.LineUnits.{outgoing_fits}
use Rattle.dsd_journal.specs.declared.header.Header.{Header as JournalHeader}
use Rattle.dex_handshake.specs.LineRun.{frame_of_block, load_of}
use Rattle.own_turn.specs.DueSets.{DueSet, texts_of}
use Rattle.own_turn.specs.OwnTurn.{IsLoad}
use Rattle.clean_sessions.specs.CleanTurns.{IsReply}
use Rattle.clean_sessions.specs.Feeding.{AreFed}
use Rattle.clean_sessions.specs.Halls.{IsTurnText}
use Rattle.clean_sessions.proofs.FramesFed.{block_pieces, few_pieces}

-- it can be said, and is heard in at most so many polls
pub record IsBrief (most : ℕ) (frame : FrameShape) : Type 0 where
  pub spoken : IsSpoken frame
  pub few : (pieces : List (List ℕ)) → AreFed (spelling frame) pieces → length pieces ≤ most

abbrev pub AreBrief : ℕ → List FrameShape → Type 0
AreBrief most [] = ⊤
AreBrief most (frame ∷ frames) = IsBrief most frame × AreBrief most frames

pub enq_brief : IsBrief 1 Enq
enq_brief = record { spoken = tt; few = λ pieces fed. few_pieces 1 (spelling Enq) pieces fed (omega arith) }

pub eot_brief : IsBrief 1 Eot
eot_brief = record { spoken = tt; few = λ pieces fed. few_pieces 1 (spelling Eot) pieces fed (omega arith) }

pub reply_brief : (reply : FrameShape) → IsReply reply → IsBrief 1 reply
reply_brief Ack0 is = record { spoken = tt; few = λ pieces fed. few_pieces 1 (spelling Ack0) pieces fed (omega arith) }
reply_brief Ack1 is = record { spoken = tt; few = λ pieces fed. few_pieces 1 (spelling Ack1) pieces fed (omega arith) }
reply_brief Enq is = absurd is
reply_brief Nak is = absurd is
reply_brief Eot is = absurd is
reply_brief (Header text) is = absurd is
reply_brief (Block last text) is = absurd is
reply_brief Damaged is = absurd is
reply_brief Bad is = absurd is

-- ---- the blocks of a load

block_fits : (block joined : List ℕ) → block ≡ joined → length joined ≤ BLOCK_WRITTEN → length block ≤ BLOCK_WRITTEN
block_fits block joined same fits = let size : length block ≡ length joined = ap length same in omega (arith, size, fits)

blocks_brief : (blocks : List (List ℕ × Bool)) (groups : List (List (List ℕ))) → map (λ (b : List ℕ × Bool). b.0) blocks ≡ map concat groups → EachGroupFits groups → EachText blocks
    → AreBrief 4 (map frame_of_block blocks)
blocks_brief [] groups e fits texts = tt
blocks_brief (block ∷ blocks) [] e fits texts = absurd (cc)
blocks_brief (block ∷ blocks) (group ∷ groups) e (fit, fits) (text, texts) =
    let head : block.0 ≡ concat group = cc in
    let rest : map (λ (b : List ℕ × Bool). b.0) blocks ≡ map concat groups = cc in
    (record { spoken = text; few = λ pieces fed. block_pieces block.1 block.0 pieces (block_fits block.0 (concat group) head fit) fed }, blocks_brief blocks groups rest fits texts)

pub load_brief : (text : List ℕ) → IsTurnText text → AreBrief 4 (load_of text)
load_brief text is =
    let cut = blocks_cut text is.units in
    blocks_brief (blocks_of text) cut.groups cut.bytes cut.cut.fits (each_text text (blocks_of text) cut is.bytes)

-- ---- the load of an own turn is such a text

no_text : IsTurnText []
no_text = record { units = subst EachFits (sym no_units) tt; bytes = refl; short = omega arith }

pub load_text : (header : JournalHeader) (control : ℕ) (sets : List DueSet) (load : List ℕ) → IsLoad header control sets load → IsTurnText load
load_text header control [] load is = subst IsTurnText (sym is) no_text
load_text header control (set ∷ more) load is =
    let outgoing : IsOutgoing load = record { sets = texts_of (set ∷ more); sender = header.own; receiver = header.peer; control = control; sent = is } in
    let fits = outgoing_fits load outgoing in
    record { units = fits.0; bytes = fits.1; short = is.short }
