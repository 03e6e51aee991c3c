-- A line that begins to await the reply of a block says that block.
use Rattle.std.specs.Prelude.{◌≡◌, ℕ, ◌+◌, ◌==◌, ◌&&◌, nat_lt, Bool, true, false, List, [], ◌∷◌, length, Option, Some, None}
use Rattle.std.proofs.Common.{refl, ap, inl, inr}
use Rattle.dex_line.specs.FrameShapes.{FrameShape, Enq, Ack0, Ack1, Nak, Eot, Header, Block, Damaged, Bad}
use Rattle.dex_handshake.specs.LineTable.{StageName, FirstStage, SecondStage, TextStage, Partner, Common, Sending, Taking, Line, Ready, Bidding, Awaiting, SentAll, InText, Finished, Ended, LineStep, says, says_nothing, ends, is_odd, same_id, no_quiets, next_frame, again, takes_header, takes_block, hears_block, hears_eot, first_over, second_over, read_header, text_heard, in_text_hears, hears}
use Rattle.dex_handshake.specs.LineLaw.{IsSpokenFirst}
use Rattle.dex_handshake.specs.declared.session_end.SessionEnd.TheVariants.{Complete, TriesSpent, WrongPartner, PartnerRefused}
use Rattle.dex_handshake.proofs.Turning.{if_both, eot_said}
use Rattle.dex_handshake.specs.declared.session_end.TheConstants.{MOST_TRIES}
use Rattle.dxs_envelope.specs.declared.outgoing.TheConstants.{TRANSMISSION_BYTES}

abbrev is_awaiting : Line → Bool
is_awaiting (Awaiting own sending) = true
is_awaiting _ = false

abbrev Elsewhere : LineStep → Type 0
Elsewhere step = is_awaiting step.next ≡ false

elsewhere : (line : Line) (step : LineStep) → Elsewhere step → IsSpokenFirst line step
elsewhere line step other own sending e =
    absurd (let no_such : ⊥ = let awaits : is_awaiting step.next ≡ true = ap is_awaiting e in cc in no_such)

abbrev block_of : Line → ℕ
block_of (Awaiting own sending) = sending.block
block_of _ = 0

abbrev said_of : Line → FrameShape
said_of (Awaiting own sending) = sending.frame
said_of _ = Bad

-- ---- the turn of the other end

header_elsewhere : (own : Common) (taking : Taking) (said before : Option Partner) → Elsewhere (takes_header own taking said before)
header_elsewhere own taking None before = refl
header_elsewhere own taking (Some partner) None = refl
header_elsewhere own taking (Some partner) (Some first) = refl

block_elsewhere : (own : Common) (taking : Taking) (last : Bool) (text : List ℕ) → Elsewhere (takes_block own taking last text)
block_elsewhere own taking last [] = refl
block_elsewhere own taking last (b ∷ more) =
    if_both Elsewhere taking.whole _ _ (λ e. refl)
    (λ e. if_both Elsewhere (nat_lt TRANSMISSION_BYTES (length taking.text + length (b ∷ more))) _ _ (λ f. refl) (λ f. refl))

blocks_elsewhere : (stage : StageName) (own : Common) (taking : Taking) (last : Bool) (text : List ℕ) → Elsewhere (hears_block stage own taking last text)
blocks_elsewhere FirstStage own taking last text = refl
blocks_elsewhere SecondStage own taking last text = refl
blocks_elsewhere TextStage own taking last text = block_elsewhere own taking last text

first_elsewhere : (own : Common) (taking : Taking) (partner : Option Partner) → Elsewhere (first_over own taking partner)
first_elsewhere own taking None = refl
first_elsewhere own taking (Some partner) = refl

second_elsewhere : (own : Common) (taking : Taking) (partner : Option Partner) → Elsewhere (second_over own taking partner)
second_elsewhere own taking None = refl
second_elsewhere own taking (Some partner) =
    if_both Elsewhere (partner.code == 0) _ (ends (PartnerRefused partner.code))
    (λ e. if_both Elsewhere (same_id partner.id own.peer) (says_nothing (Finished (record own { stage = TextStage; partner = None }) [])) (ends (WrongPartner partner.id)) (λ f. refl) (λ f. refl))
    (λ e. refl)

eot_elsewhere : (stage : StageName) (own : Common) (taking : Taking) → Elsewhere (hears_eot stage own taking)
eot_elsewhere FirstStage own taking = first_elsewhere own taking own.partner
eot_elsewhere SecondStage own taking = second_elsewhere own taking own.partner
eot_elsewhere TextStage own taking =
    if_both Elsewhere ((taking.taken == 0) && own.empty) (ends Complete) (says_nothing (Finished (record own { empty = taking.taken == 0 }) (text_heard taking))) (λ e. refl) (λ e. refl)

in_text_elsewhere : (own : Common) (taking : Taking) (frame : FrameShape) → Elsewhere (in_text_hears own taking frame)
in_text_elsewhere own taking (Header text) = header_elsewhere own taking (read_header own.stage text) own.partner
in_text_elsewhere own taking (Block last text) = blocks_elsewhere own.stage own taking last text
in_text_elsewhere own taking Eot = eot_elsewhere own.stage own taking
in_text_elsewhere own taking Enq = refl
in_text_elsewhere own taking Damaged = refl
in_text_elsewhere own taking _ = refl

-- ---- its own turn

next_spoken : (line : Line) (own : Common) (done : ℕ) (left : List FrameShape) → IsSpokenFirst line (next_frame own done left)
next_spoken line own done [] =
    eot_said (IsSpokenFirst line) own (done == 0) (λ o e. elsewhere line (says Eot (SentAll o)) refl) (λ e. elsewhere line (says Eot (Ended e)) refl)
next_spoken line own done (frame ∷ more) = λ after sending e. inr (ap (λ (l : Line). Some (said_of l)) e)

again_spoken : (before own : Common) (sending : Sending) → IsSpokenFirst (Awaiting before sending) (again own sending)
again_spoken before own sending =
    if_both (IsSpokenFirst (Awaiting before sending)) (nat_lt sending.tries MOST_TRIES)
    (says sending.frame (Awaiting own (record sending { tries = sending.tries + 1; asked = false }))) (ends (TriesSpent sending.block))
    (λ t. λ after next e. inl (ap block_of e)) (λ t. elsewhere (Awaiting before sending) (ends (TriesSpent sending.block)) refl)

stays_spoken : (before own : Common) (sending : Sending) (say : Option FrameShape) → IsSpokenFirst (Awaiting before sending) (record { next = Awaiting own sending; say = say })
stays_spoken before own sending say = λ after next e. inl (ap block_of e)

pub spoken_first : (line : Line) (frame : FrameShape) → IsSpokenFirst line (hears line frame)
spoken_first (Ready own) Enq = elsewhere (Ready own) (hears (Ready own) Enq) refl
spoken_first (Ready own) _ = elsewhere (Ready own) (says_nothing (Ready (no_quiets own))) refl
spoken_first (Bidding own load) Ack0 = next_spoken (Bidding own load) (no_quiets own) 0 load
spoken_first (Bidding own load) Eot = elsewhere (Bidding own load) (hears (Bidding own load) Eot) refl
spoken_first (Bidding own load) _ = elsewhere (Bidding own load) (says_nothing (Bidding (no_quiets own) load)) refl
spoken_first (Awaiting own sending) Ack0 =
    if_both (IsSpokenFirst (Awaiting own sending)) (is_odd sending.block) (again (no_quiets own) sending) (next_frame (no_quiets own) sending.block sending.left)
    (λ t. again_spoken own (no_quiets own) sending) (λ t. next_spoken (Awaiting own sending) (no_quiets own) sending.block sending.left)
spoken_first (Awaiting own sending) Ack1 =
    if_both (IsSpokenFirst (Awaiting own sending)) (is_odd sending.block) (next_frame (no_quiets own) sending.block sending.left) (again (no_quiets own) sending)
    (λ t. next_spoken (Awaiting own sending) (no_quiets own) sending.block sending.left) (λ t. again_spoken own (no_quiets own) sending)
spoken_first (Awaiting own sending) Nak =
    if_both (IsSpokenFirst (Awaiting own sending)) sending.asked (says Enq (Awaiting (no_quiets own) sending)) (again (no_quiets own) sending)
    (λ t. stays_spoken own (no_quiets own) sending (Some Enq)) (λ t. again_spoken own (no_quiets own) sending)
spoken_first (Awaiting own sending) _ = stays_spoken own (no_quiets own) sending None
spoken_first (SentAll own) Enq = elsewhere (SentAll own) (hears (SentAll own) Enq) refl
spoken_first (SentAll own) _ = elsewhere (SentAll own) (says_nothing (SentAll (no_quiets own))) refl
spoken_first (InText own taking) frame = elsewhere (InText own taking) (in_text_hears (no_quiets own) taking frame) (in_text_elsewhere (no_quiets own) taking frame)
spoken_first (Finished own text) frame = elsewhere (Finished own text) (says_nothing (Finished (no_quiets own) text)) refl
spoken_first (Ended end) frame = elsewhere (Ended end) (ends end) refl
