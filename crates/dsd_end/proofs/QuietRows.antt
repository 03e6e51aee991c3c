-- How the rows of the table count Quiets: a frame ends a row of them, and a Quiet is one more.
use Rattle.std.proofs.Common.{◌≡◌, ℕ, ◌+◌, ◌<◌, Bool, true, false, List, [], ◌∷◌, Option, Some, None, refl, arith}
use Rattle.std.specs.Prelude.{◌==◌, ◌&&◌, ◌%◌, if◌then◌else◌, length, nat_lt}
use Rattle.std.proofs.lemmas.Bool.Decides.{nat_tests}
use Rattle.dex_line.specs.FrameShapes.{FrameShape, Enq, Ack0, Ack1, Nak, Eot, Header, Block, Damaged, Bad}
use Rattle.dex_handshake.specs.LineTable.{Common, Line, LineStep, Partner, Sending, StageName, Taking, FirstStage, SecondStage, TextStage, Ready, Bidding, Awaiting, SentAll, InText, Finished, Ended, again, awaiting_hears, bidding_hears, ends, eot_again, first_over, hears, hears_block, hears_eot, in_text_hears, is_odd, last_reply, next_frame, no_quiets, one_quiet, quiets, read_header, ready_hears, refused_or, reply_of, same_id, says, says_eot, second_over, sent_all_hears, says_nothing, takes_block, takes_header, text_heard, unless_silent, with_block}
use Rattle.dex_handshake.specs.declared.session_end.SessionEnd.TheVariants.{Complete, PartnerRefused, Silent, TextLimit, TriesSpent, WrongPartner}
use Rattle.dex_handshake.specs.declared.session_end.TheConstants.{MOST_QUIETS, MOST_TRIES}
use Rattle.dxs_envelope.specs.declared.outgoing.TheConstants.{TRANSMISSION_BYTES}
use Rattle.dsd_end.specs.Patience.{quiets_in}
use Rattle.dsd_end.specs.Standings.{has_ended}

-- no Quiets are counted
abbrev IsReset : LineStep → Type 0
IsReset step = quiets_in step.next ≡ 0

either : (b : Bool) (x y : LineStep) → IsReset x → IsReset y → IsReset (if b then x else y)
either true x y p q = p
either false x y p q = q

refuses : (own at : Common) (partner : Option Partner) → at.quiets ≡ 0 → IsReset (refused_or own partner (SentAll at))
refuses own at None q = q
refuses own at (Some partner) q = either (same_id partner.id own.peer) (says Eot (SentAll at)) (says Eot (Ended (WrongPartner partner.id))) q refl

eots : (stage : StageName) (own : Common) (none : Bool) → own.quiets ≡ 0 → IsReset (says_eot stage own none)
eots FirstStage own none q = q
eots SecondStage own none q = refuses own (record own { partner = None }) own.partner q
eots TextStage own none q = either (none && own.empty) (says Eot (Ended Complete)) (says Eot (SentAll (record own { empty = none }))) refl q

goes_on : (own : Common) (done : ℕ) (left : List FrameShape) → own.quiets ≡ 0 → IsReset (next_frame own done left)
goes_on own done [] q = eots own.stage own (done == 0) q
goes_on own done (frame ∷ more) q = q

once_more : (own : Common) (sending : Sending) → own.quiets ≡ 0 → IsReset (again own sending)
once_more own sending q =
    either (nat_lt sending.tries MOST_TRIES) (says sending.frame (Awaiting own (record sending { tries = sending.tries + 1; asked = false }))) (ends (TriesSpent sending.block)) q refl

header : (own : Common) (taking : Taking) (read before : Option Partner) → own.quiets ≡ 0 → IsReset (takes_header own taking read before)
header own taking None before q = q
header own taking (Some partner) None q = q
header own taking (Some partner) (Some old) q = q

block : (own : Common) (taking : Taking) (last : Bool) (text : List ℕ) → own.quiets ≡ 0 → IsReset (takes_block own taking last text)
block own taking last [] q = q
block own taking last (b ∷ more) q =
    either taking.whole (says (last_reply taking) (InText own taking)) _ q
    (either (nat_lt TRANSMISSION_BYTES (length taking.text + length (b ∷ more))) (ends TextLimit) (says (reply_of (taking.taken + 1)) (InText own (with_block taking last (b ∷ more)))) refl q)

blocks : (stage : StageName) (own : Common) (taking : Taking) (last : Bool) (text : List ℕ) → own.quiets ≡ 0 → IsReset (hears_block stage own taking last text)
blocks FirstStage own taking last text q = q
blocks SecondStage own taking last text q = q
blocks TextStage own taking last text q = block own taking last text q

first : (own : Common) (taking : Taking) (partner : Option Partner) → own.quiets ≡ 0 → IsReset (first_over own taking partner)
first own taking None q = q
first own taking (Some partner) q = q

peer : (own : Common) (partner : Partner) → own.quiets ≡ 0
    → IsReset (if same_id partner.id own.peer then says_nothing (Finished (record own { stage = TextStage; partner = None }) []) else ends (WrongPartner partner.id))
peer own partner q =
    either (same_id partner.id own.peer) (says_nothing (Finished (record own { stage = TextStage; partner = None }) [])) (ends (WrongPartner partner.id)) q refl

second : (own : Common) (taking : Taking) (partner : Option Partner) → own.quiets ≡ 0 → IsReset (second_over own taking partner)
second own taking None q = q
second own taking (Some partner) q = either (partner.code == 0) _ (ends (PartnerRefused partner.code)) (peer own partner q) refl

over : (stage : StageName) (own : Common) (taking : Taking) → own.quiets ≡ 0 → IsReset (hears_eot stage own taking)
over FirstStage own taking q = first own taking own.partner q
over SecondStage own taking q = second own taking own.partner q
over TextStage own taking q =
    either ((taking.taken == 0) && own.empty) (ends Complete) (says_nothing (Finished (record own { empty = taking.taken == 0 }) (text_heard taking))) refl q

in_text : (own : Common) (taking : Taking) (frame : FrameShape) → own.quiets ≡ 0 → IsReset (in_text_hears own taking frame)
in_text own taking Enq q = q
in_text own taking Ack0 q = q
in_text own taking Ack1 q = q
in_text own taking Nak q = q
in_text own taking Eot q = over own.stage own taking q
in_text own taking (Header text) q = header own taking (read_header own.stage text) own.partner q
in_text own taking (Block last text) q = blocks own.stage own taking last text q
in_text own taking Damaged q = q
in_text own taking Bad q = q

ready : (own : Common) (frame : FrameShape) → own.quiets ≡ 0 → IsReset (ready_hears own frame)
ready own Enq q = q
ready own Ack0 q = q
ready own Ack1 q = q
ready own Nak q = q
ready own Eot q = q
ready own (Header text) q = q
ready own (Block last text) q = q
ready own Damaged q = q
ready own Bad q = q

bidding : (own : Common) (load : List FrameShape) (frame : FrameShape) → own.quiets ≡ 0 → IsReset (bidding_hears own load frame)
bidding own load Enq q = q
bidding own load Ack0 q = goes_on own 0 load q
bidding own load Ack1 q = q
bidding own load Nak q = q
bidding own load Eot q = q
bidding own load (Header text) q = q
bidding own load (Block last text) q = q
bidding own load Damaged q = q
bidding own load Bad q = q

awaiting : (own : Common) (sending : Sending) (frame : FrameShape) → own.quiets ≡ 0 → IsReset (awaiting_hears own sending frame)
awaiting own sending Enq q = q
awaiting own sending Ack0 q =
    either (is_odd sending.block) (again own sending) (next_frame own sending.block sending.left) (once_more own sending q) (goes_on own sending.block sending.left q)
awaiting own sending Ack1 q =
    either (is_odd sending.block) (next_frame own sending.block sending.left) (again own sending) (goes_on own sending.block sending.left q) (once_more own sending q)
awaiting own sending Nak q = either sending.asked (says Enq (Awaiting own sending)) (again own sending) q (once_more own sending q)
awaiting own sending Eot q = q
awaiting own sending (Header text) q = q
awaiting own sending (Block last text) q = q
awaiting own sending Damaged q = q
awaiting own sending Bad q = q

sent : (own : Common) (frame : FrameShape) → own.quiets ≡ 0 → IsReset (sent_all_hears own frame)
sent own Enq q = q
sent own Ack0 q = q
sent own Ack1 q = q
sent own Nak q = q
sent own Eot q = q
sent own (Header text) q = q
sent own (Block last text) q = q
sent own Damaged q = q
sent own Bad q = q

-- a frame
pub row_resets : (line : Line) (frame : FrameShape) → quiets_in (hears line frame).next ≡ 0
row_resets (Ready own) frame = ready (no_quiets own) frame refl
row_resets (Bidding own load) frame = bidding (no_quiets own) load frame refl
row_resets (Awaiting own sending) frame = awaiting (no_quiets own) sending frame refl
row_resets (SentAll own) frame = sent (no_quiets own) frame refl
row_resets (InText own taking) frame = in_text (no_quiets own) taking frame refl
row_resets (Finished own text) frame = refl
row_resets (Ended end) frame = refl

-- ---- a Quiet

-- one Quiet more is counted, and it is not the thirtieth
pub record CountsOne (before after : ℕ) : Type 0 where
  pub one : after ≡ before + 1
  pub below : after < MOST_QUIETS

unless : (own : Common) (step : LineStep) → quiets_in step.next ≡ own.quiets → has_ended (unless_silent own step).next ≡ false
    → (quiets_in (unless_silent own step).next ≡ own.quiets) × (own.quiets < MOST_QUIETS)
unless own step same on = by_test (nat_lt own.quiets MOST_QUIETS) refl on
  where
    by_test : (b : Bool) → nat_lt own.quiets MOST_QUIETS ≡ b → has_ended (if b then step else ends Silent).next ≡ false
        → (quiets_in (if b then step else ends Silent).next ≡ own.quiets) × (own.quiets < MOST_QUIETS)
    by_test true e on = (same, grind (arith, nat_tests))
    by_test false e on = absurd (cc)

third : (own : Common) → quiets_in (eot_again own).next ≡ own.quiets
third own = by_test (own.quiets % 3 == 0)
  where
    by_test : (b : Bool) → quiets_in (if b then says Eot (SentAll own) else says_nothing (SentAll own)).next ≡ own.quiets
    by_test true = refl
    by_test false = refl

counts : (own : Common) (step : LineStep) → quiets_in step.next ≡ own.quiets + 1 → has_ended (unless_silent (one_quiet own) step).next ≡ false → CountsOne own.quiets (quiets_in (unless_silent (one_quiet own) step).next)
counts own step same on =
    let u = unless (one_quiet own) step same on in
    record { one = u.0; below = omega (arith, u.0, u.1) }

pub quiet_counts : (line : Line) → has_ended (quiets line).next ≡ false → CountsOne (quiets_in line) (quiets_in (quiets line).next)
quiet_counts (Ready own) on = counts own (says_nothing (Ready (one_quiet own))) refl on
quiet_counts (Bidding own load) on = counts own (says Enq (Bidding (one_quiet own) load)) refl on
quiet_counts (Awaiting own sending) on = counts own (says Enq (Awaiting (one_quiet own) (record sending { asked = true }))) refl on
quiet_counts (SentAll own) on = counts own (eot_again (one_quiet own)) (third (one_quiet own)) on
quiet_counts (InText own taking) on = counts own (says_nothing (InText (one_quiet own) taking)) refl on
quiet_counts (Finished own text) on = counts own (says_nothing (Finished (one_quiet own) text)) refl on
quiet_counts (Ended end) on = absurd (cc)
