-- No row of the table that leads to an own turn says anything.
use Rattle.std.proofs.Common.{◌≡◌, ℕ, Bool, true, false, List, [], ◌∷◌, Option, Some, None, refl}
use Rattle.std.specs.Prelude.{◌+◌, ◌==◌, if◌then◌else◌, length, nat_lt}
use Rattle.dex_line.specs.FrameShapes.{FrameShape, Enq, Ack0, Ack1, Nak, Eot, Header, Block, Damaged, Bad}
use Rattle.dex_handshake.specs.LineTable.{Common, Line, LineStep, Partner, Sending, StageName, Taking, FirstStage, SecondStage, TextStage, Ready, Bidding, Awaiting, SentAll, InText, Finished, Ended, again, awaiting_hears, bidding_hears, ends, first_over, hears, hears_block, hears_eot, in_text_hears, last_reply, next_frame, no_quiets, read_header, ready_hears, refused_or, reply_of, same_id, says, says_eot, second_over, sent_all_hears, says_nothing, takes_block, takes_header, with_block}
use Rattle.dex_handshake.specs.declared.session_end.SessionEnd.{SessionEnd}
use Rattle.dex_handshake.specs.declared.session_end.SessionEnd.TheVariants.{PartnerRefused, TextLimit, WrongPartner}
use Rattle.dxs_envelope.specs.declared.outgoing.TheConstants.{TRANSMISSION_BYTES}

abbrev IsStill : LineStep → Type 0
IsStill step = (own : Common) (text : List ℕ) → step.next ≡ Finished own text → step.say ≡ None

still : (line : Line) → IsStill (says_nothing line)
still line own text e = refl

either : (b : Bool) (x y : LineStep) → IsStill x → IsStill y → IsStill (if b then x else y)
either true x y p q = p
either false x y p q = q

says_bidding : (frame : FrameShape) (own : Common) (load : List FrameShape) → IsStill (says frame (Bidding own load))
says_bidding frame own load own' text e = absurd (cc)

says_awaiting : (frame : FrameShape) (own : Common) (sending : Sending) → IsStill (says frame (Awaiting own sending))
says_awaiting frame own sending own' text e = absurd (cc)

says_sent : (frame : FrameShape) (own : Common) → IsStill (says frame (SentAll own))
says_sent frame own own' text e = absurd (cc)

says_in : (frame : FrameShape) (own : Common) (taking : Taking) → IsStill (says frame (InText own taking))
says_in frame own taking own' text e = absurd (cc)

says_ended : (frame : FrameShape) (end : SessionEnd) → IsStill (says frame (Ended end))
says_ended frame end own text e = absurd (cc)

refuses : (own at : Common) (partner : Option Partner) → IsStill (refused_or own partner (SentAll at))
refuses own at None = says_sent Eot at
refuses own at (Some partner) = either _ _ _ (says_sent Eot at) (says_ended Eot _)

eots : (stage : StageName) (own : Common) (none : Bool) → IsStill (says_eot stage own none)
eots FirstStage own none = says_sent Eot own
eots SecondStage own none = refuses own _ own.partner
eots TextStage own none = either _ _ _ (says_ended Eot _) (says_sent Eot _)

goes_on : (own : Common) (done : ℕ) (left : List FrameShape) → IsStill (next_frame own done left)
goes_on own done [] = eots own.stage own _
goes_on own done (frame ∷ more) = says_awaiting frame own _

once_more : (own : Common) (sending : Sending) → IsStill (again own sending)
once_more own sending = either _ _ _ (says_awaiting _ own _) (still _)

header : (own : Common) (taking : Taking) (read before : Option Partner) → IsStill (takes_header own taking read before)
header own taking None before = still _
header own taking (Some partner) None = says_in Ack1 _ _
header own taking (Some partner) (Some old) = says_in _ own taking

room : (own : Common) (taking : Taking) (last : Bool) (text : List ℕ)
    → IsStill (if nat_lt TRANSMISSION_BYTES (length taking.text + length text) then ends TextLimit else says (reply_of (taking.taken + 1)) (InText own (with_block taking last text)))
room own taking last text = either _ _ _ (still _) (says_in _ own _)

block : (own : Common) (taking : Taking) (last : Bool) (text : List ℕ) → IsStill (takes_block own taking last text)
block own taking last [] = still _
block own taking last (b ∷ more) = either taking.whole _ _ (says_in (last_reply taking) own taking) (room own taking last (b ∷ more))

blocks : (stage : StageName) (own : Common) (taking : Taking) (last : Bool) (text : List ℕ) → IsStill (hears_block stage own taking last text)
blocks FirstStage own taking last text = still _
blocks SecondStage own taking last text = still _
blocks TextStage own taking last text = block own taking last text

first : (own : Common) (taking : Taking) (partner : Option Partner) → IsStill (first_over own taking partner)
first own taking None = still _
first own taking (Some partner) = says_bidding Enq _ _

peer : (own : Common) (partner : Partner)
    → IsStill (if same_id partner.id own.peer then says_nothing (Finished (record own { stage = TextStage; partner = None }) []) else ends (WrongPartner partner.id))
peer own partner = either _ _ _ (still _) (still _)

second : (own : Common) (taking : Taking) (partner : Option Partner) → IsStill (second_over own taking partner)
second own taking None = still _
second own taking (Some partner) = either (partner.code == 0) _ _ (peer own partner) (still (Ended (PartnerRefused partner.code)))

over : (stage : StageName) (own : Common) (taking : Taking) → IsStill (hears_eot stage own taking)
over FirstStage own taking = first own taking own.partner
over SecondStage own taking = second own taking own.partner
over TextStage own taking = either _ _ _ (still _) (still _)

in_text : (own : Common) (taking : Taking) (frame : FrameShape) → IsStill (in_text_hears own taking frame)
in_text own taking Enq = says_in _ own taking
in_text own taking Ack0 = still _
in_text own taking Ack1 = still _
in_text own taking Nak = still _
in_text own taking Eot = over own.stage own taking
in_text own taking (Header text) = header own taking (read_header own.stage text) own.partner
in_text own taking (Block last text) = blocks own.stage own taking last text
in_text own taking Damaged = says_in Nak own taking
in_text own taking Bad = still _

ready : (own : Common) (frame : FrameShape) → IsStill (ready_hears own frame)
ready own Enq = says_in Ack0 own _
ready own Ack0 = still _
ready own Ack1 = still _
ready own Nak = still _
ready own Eot = still _
ready own (Header text) = still _
ready own (Block last text) = still _
ready own Damaged = still _
ready own Bad = still _

bidding : (own : Common) (load : List FrameShape) (frame : FrameShape) → IsStill (bidding_hears own load frame)
bidding own load Enq = still _
bidding own load Ack0 = goes_on own 0 load
bidding own load Ack1 = still _
bidding own load Nak = still _
bidding own load Eot = says_bidding Enq own load
bidding own load (Header text) = still _
bidding own load (Block last text) = still _
bidding own load Damaged = still _
bidding own load Bad = still _

awaiting : (own : Common) (sending : Sending) (frame : FrameShape) → IsStill (awaiting_hears own sending frame)
awaiting own sending Enq = still _
awaiting own sending Ack0 = either _ _ _ (once_more own sending) (goes_on own sending.block sending.left)
awaiting own sending Ack1 = either _ _ _ (goes_on own sending.block sending.left) (once_more own sending)
awaiting own sending Nak = either _ _ _ (says_awaiting Enq own sending) (once_more own sending)
awaiting own sending Eot = still _
awaiting own sending (Header text) = still _
awaiting own sending (Block last text) = still _
awaiting own sending Damaged = still _
awaiting own sending Bad = still _

sent : (own : Common) (frame : FrameShape) → IsStill (sent_all_hears own frame)
sent own Enq = says_in Ack0 _ _
sent own Ack0 = still _
sent own Ack1 = still _
sent own Nak = still _
sent own Eot = still _
sent own (Header text) = still _
sent own (Block last text) = still _
sent own Damaged = still _
sent own Bad = still _

pub turns_come_silently : (line : Line) (frame : FrameShape) (own : Common) (text : List ℕ) → (hears line frame).next ≡ Finished own text → (hears line frame).say ≡ None
turns_come_silently (Ready own) frame = ready (no_quiets own) frame
turns_come_silently (Bidding own load) frame = bidding (no_quiets own) load frame
turns_come_silently (Awaiting own sending) frame = awaiting (no_quiets own) sending frame
turns_come_silently (SentAll own) frame = sent (no_quiets own) frame
turns_come_silently (InText own taking) frame = in_text (no_quiets own) taking frame
turns_come_silently (Finished own text) frame = still _
turns_come_silently (Ended end) frame = still _
