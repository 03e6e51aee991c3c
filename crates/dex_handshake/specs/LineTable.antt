-- The state table of the line: what an end says at each thing that it hears, and the state that it is then in.
use Rattle.std.specs.Prelude.{ℕ, ◌+◌, ◌%◌, ◌==◌, Bool, true, false, ◌&&◌, ◌||◌, nat_lt, get_or, nat_eq, if◌then◌else◌, List, [], ◌∷◌, ◌++◌, length, take, drop, codes, Option, Some, None, Result, Ok, Err}
use Rattle.std.specs.Cmp.Lexicographic.{pointwise}
use Rattle.std.specs.Str.Parse.{digits_value}
use Rattle.std.specs.Char.{is_ascii_digit}
use Rattle.std.specs.Int.{is_in_range}
use Rattle.dsd_values.specs.Reading.{comm_id_of}
use Rattle.dsd_values.specs.declared.comm_id.TheConstants.{COMM_ID_BYTES}
use Rattle.dsd_values.specs.declared.fault.ValueFault.{ValueFault}
use Rattle.dsd_values.specs.declared.role.Role.{Role}
use Rattle.dsd_values.specs.declared.role.Role.TheVariants.{Supplier, Receiver}
use Rattle.dex_line.specs.FrameShapes.{FrameShape, Enq, Ack0, Ack1, Nak, Eot, Header, Block, Damaged}
use Rattle.dxs_envelope.specs.declared.outgoing.TheConstants.{TRANSMISSION_BYTES}
use Rattle.dex_handshake.specs.declared.session_end.SessionEnd.{SessionEnd}
use Rattle.dex_handshake.specs.declared.session_end.SessionEnd.TheVariants.{Complete, Silent, TriesSpent, PartnerRefused, WrongPartner, TextLimit, Unplugged}
use Rattle.dex_handshake.specs.declared.session_end.TheConstants.{MOST_TRIES, MOST_QUIETS}

-- ---- states

-- the first header, the second header, and texts
pub data StageName : Type 0 where
  FirstStage : StageName
  SecondStage : StageName
  TextStage : StageName

-- what a header says of the end that it comes from; the first header has no code
pub record Partner : Type 0 where
  pub code : ℕ
  pub id : List ℕ

-- what all states keep: the ids, the stage, the header that was heard, whether the text turn before had no block, and
-- how many Quiets came in a row
pub record Common : Type 0 where
  pub role : Role
  pub own : List ℕ
  pub peer : List ℕ
  pub stage : StageName
  pub partner : Option Partner
  pub empty : Bool
  pub quiets : ℕ

-- the frame of the load that awaits its reply, with its number from 1 and how often it was said; those that come after it; and whether
-- the last thing said was an Enq
pub record Sending : Type 0 where
  pub frame : FrameShape
  pub left : List FrameShape
  pub block : ℕ
  pub tries : ℕ
  pub asked : Bool

-- what was taken of the other end's turn: the text of its blocks, how many frames, and whether one was marked last
pub record Taking : Type 0 where
  pub text : List ℕ
  pub taken : ℕ
  pub whole : Bool

-- the state of an end; a state that bids has its load, and one that has heard a turn the text of it
pub data Line : Type 0 where
  Ready : Common → Line
  Bidding : Common → List FrameShape → Line
  Awaiting : Common → Sending → Line
  SentAll : Common → Line
  InText : Common → Taking → Line
  Finished : Common → List ℕ → Line
  Ended : SessionEnd → Line

-- the state after one thing heard, and what is said at it
pub record LineStep : Type 0 where
  pub next : Line
  pub say : Option FrameShape

abbrev pub says : FrameShape → Line → LineStep
says frame line = record { next = line; say = Some frame }

abbrev pub says_nothing : Line → LineStep
says_nothing line = record { next = line; say = None }

abbrev pub ends : SessionEnd → LineStep
ends end = says_nothing (Ended end)

-- ---- replies and headers

abbrev pub is_odd : ℕ → Bool
is_odd n = n % 2 == 1

-- the reply of frame k of a load, and of the Enq before the first one
abbrev pub reply_of : ℕ → FrameShape
reply_of k = if is_odd k then Ack1 else Ack0

-- the last reply of a turn is that of the frames taken
abbrev pub last_reply : Taking → FrameShape
last_reply taking = reply_of taking.taken

abbrev pub same_id : List ℕ → List ℕ → Bool
same_id a b = pointwise nat_eq a b

-- the supplier's header
abbrev pub first_header : Common → FrameShape
first_header own = Header (own.own ++ codes "SR01L01")

-- the receiver's header: 00 where the id that it heard is its peer, and else 01
abbrev pub second_header : Common → Partner → FrameShape
second_header own partner = Header ((if same_id partner.id own.peer then codes "00" else codes "01") ++ own.own ++ codes "R01L01")

abbrev pub is_letter : ℕ → Bool
is_letter b = is_in_range 65 90 b || is_in_range 97 122 b

abbrev pub from_id : ℕ → Result (List ℕ) ValueFault → Option Partner
from_id code (Ok id) = Some (record { code = code; id = id })
from_id code (Err fault) = None

-- what a first header says: ten characters of an id, a letter, and six characters
abbrev pub read_first : List ℕ → Option Partner
read_first text = if length text == 17 && is_letter (get_or text COMM_ID_BYTES 0) then from_id 0 (comm_id_of (take COMM_ID_BYTES text)) else None

-- what a second header says: two digits, an id, and six characters
abbrev pub read_second : List ℕ → Option Partner
read_second text =
    if length text == 18 && is_ascii_digit (get_or text 0 0) && is_ascii_digit (get_or text 1 0)
    then from_id (digits_value 10 (take 2 text)) (comm_id_of (take COMM_ID_BYTES (drop 2 text)))
    else None

-- what a header says in a stage, or none where it has another form
abbrev pub read_header : StageName → List ℕ → Option Partner
read_header FirstStage text = read_first text
read_header SecondStage text = read_second text
read_header TextStage text = None

-- ---- an own turn

-- it asks for the line, to send this load
abbrev pub bids : Common → List FrameShape → LineStep
bids own load = says Enq (Bidding own load)

-- the receiver's Eot behind its header: where the header that it heard names another end than its peer, this ends it
abbrev pub refused_or : Common → Option Partner → Line → LineStep
refused_or own None line = says Eot line
refused_or own (Some partner) line = if same_id partner.id own.peer then says Eot line else says Eot (Ended (WrongPartner partner.id))

-- the Eot of an own turn, which had no block or some; the second text turn in succession without one ends the session
abbrev pub says_eot : StageName → Common → Bool → LineStep
says_eot FirstStage own none = says Eot (SentAll own)
says_eot SecondStage own none = refused_or own own.partner (SentAll (record own { partner = None }))
says_eot TextStage own none =
    if none && own.empty then says Eot (Ended Complete) else says Eot (SentAll (record own { empty = none }))

-- so many frames of the load are done, and these are left
abbrev pub next_frame : Common → ℕ → List FrameShape → LineStep
next_frame own done [] = says_eot own.stage own (done == 0)
next_frame own done (frame ∷ more) =
    says frame (Awaiting own (record { frame = frame; left = more; block = done + 1; tries = 1; asked = false }))

-- the frame once more, or the end where it was said too often
abbrev pub again : Common → Sending → LineStep
again own sending =
    if nat_lt sending.tries MOST_TRIES
    then says sending.frame (Awaiting own (record sending { tries = sending.tries + 1; asked = false }))
    else ends (TriesSpent sending.block)

-- ---- the other end's turn

abbrev pub nothing_taken : Taking
nothing_taken = record { text = []; taken = 0; whole = false }

-- the stage of the turn behind an own turn of a stage
abbrev pub next_stage : StageName → StageName
next_stage FirstStage = SecondStage
next_stage SecondStage = TextStage
next_stage TextStage = TextStage

abbrev pub enters : Common → LineStep
enters own = says Ack0 (InText own nothing_taken)

-- a header, by what it says and by whether one was heard in this turn
abbrev pub takes_header : Common → Taking → Option Partner → Option Partner → LineStep
takes_header own taking None heard = says_nothing (InText own taking)
takes_header own taking (Some partner) None =
    says Ack1 (InText (record own { partner = Some partner }) (record taking { taken = 1 }))
takes_header own taking (Some partner) (Some before) = says (last_reply taking) (InText own taking)

-- a block more
abbrev pub with_block : Taking → Bool → List ℕ → Taking
with_block taking last text = record { text = taking.text ++ text; taken = taking.taken + 1; whole = last }

-- a block in the text stage; what has no text is no block
abbrev pub takes_block : Common → Taking → Bool → List ℕ → LineStep
takes_block own taking last [] = says_nothing (InText own taking)
takes_block own taking last (b ∷ more) =
    if taking.whole then says (last_reply taking) (InText own taking)
    else if nat_lt TRANSMISSION_BYTES (length taking.text + length (b ∷ more)) then ends TextLimit
    else says (reply_of (taking.taken + 1)) (InText own (with_block taking last (b ∷ more)))

abbrev pub hears_block : StageName → Common → Taking → Bool → List ℕ → LineStep
hears_block FirstStage own taking last text = says_nothing (InText own taking)
hears_block SecondStage own taking last text = says_nothing (InText own taking)
hears_block TextStage own taking last text = takes_block own taking last text

-- the Eot behind the first header: the receiver bids the second one
abbrev pub first_over : Common → Taking → Option Partner → LineStep
first_over own taking None = says_nothing (InText own taking)
first_over own taking (Some partner) = bids (record own { stage = SecondStage }) (second_header own partner ∷ [])

-- the second header has named this end: the supplier gives the first turn of texts, or ends
abbrev pub named_over : Common → Partner → LineStep
named_over own partner =
    if partner.code == 0
    then (if same_id partner.id own.peer
    then says_nothing (Finished (record own { stage = TextStage; partner = None }) [])
    else ends (WrongPartner partner.id))
    else ends (PartnerRefused partner.code)

-- the Eot behind the second header
abbrev pub second_over : Common → Taking → Option Partner → LineStep
second_over own taking None = says_nothing (InText own taking)
second_over own taking (Some partner) = named_over own partner

-- the text of a turn counts where a block was marked last
abbrev pub text_heard : Taking → List ℕ
text_heard taking = if taking.whole then taking.text else []

-- the Eot of a text turn; the second in succession without a block ends the session
abbrev pub text_over : Common → Taking → LineStep
text_over own taking =
    if (taking.taken == 0) && own.empty then ends Complete
    else says_nothing (Finished (record own { empty = taking.taken == 0 }) (text_heard taking))

abbrev pub hears_eot : StageName → Common → Taking → LineStep
hears_eot FirstStage own taking = first_over own taking own.partner
hears_eot SecondStage own taking = second_over own taking own.partner
hears_eot TextStage own taking = text_over own taking

-- ---- the rows; what is not listed is ignored

abbrev pub ready_hears : Common → FrameShape → LineStep
ready_hears own Enq = enters own
ready_hears own _ = says_nothing (Ready own)

abbrev pub bidding_hears : Common → List FrameShape → FrameShape → LineStep
bidding_hears own load Ack0 = next_frame own 0 load
bidding_hears own load Eot = says Enq (Bidding own load)
bidding_hears own load _ = says_nothing (Bidding own load)

abbrev pub awaiting_hears : Common → Sending → FrameShape → LineStep
awaiting_hears own sending Ack0 = if is_odd sending.block then again own sending else next_frame own sending.block sending.left
awaiting_hears own sending Ack1 = if is_odd sending.block then next_frame own sending.block sending.left else again own sending
awaiting_hears own sending Nak = if sending.asked then says Enq (Awaiting own sending) else again own sending
awaiting_hears own sending _ = says_nothing (Awaiting own sending)

abbrev pub sent_all_hears : Common → FrameShape → LineStep
sent_all_hears own Enq = enters (record own { stage = next_stage own.stage })
sent_all_hears own _ = says_nothing (SentAll own)

abbrev pub in_text_hears : Common → Taking → FrameShape → LineStep
in_text_hears own taking Enq = says (last_reply taking) (InText own taking)
in_text_hears own taking (Header text) = takes_header own taking (read_header own.stage text) own.partner
in_text_hears own taking (Block last text) = hears_block own.stage own taking last text
in_text_hears own taking Damaged = says Nak (InText own taking)
in_text_hears own taking Eot = hears_eot own.stage own taking
in_text_hears own taking _ = says_nothing (InText own taking)

-- each frame heard ends a row of Quiets
abbrev pub no_quiets : Common → Common
no_quiets own = record own { quiets = 0 }

abbrev pub hears : Line → FrameShape → LineStep
hears (Ready own) frame = ready_hears (no_quiets own) frame
hears (Bidding own load) frame = bidding_hears (no_quiets own) load frame
hears (Awaiting own sending) frame = awaiting_hears (no_quiets own) sending frame
hears (SentAll own) frame = sent_all_hears (no_quiets own) frame
hears (InText own taking) frame = in_text_hears (no_quiets own) taking frame
hears (Finished own text) frame = says_nothing (Finished (no_quiets own) text)
hears (Ended end) frame = ends end

-- ---- Quiets, unplugging and own turns

abbrev pub one_quiet : Common → Common
one_quiet own = record own { quiets = own.quiets + 1 }

-- the thirtieth Quiet in a row ends the session
abbrev pub unless_silent : Common → LineStep → LineStep
unless_silent own step = if nat_lt own.quiets MOST_QUIETS then step else ends Silent

-- every third Quiet in a row
abbrev pub eot_again : Common → LineStep
eot_again own = if own.quiets % 3 == 0 then says Eot (SentAll own) else says_nothing (SentAll own)

abbrev pub quiets : Line → LineStep
quiets (Ready own) = unless_silent (one_quiet own) (says_nothing (Ready (one_quiet own)))
quiets (Bidding own load) = unless_silent (one_quiet own) (says Enq (Bidding (one_quiet own) load))
quiets (Awaiting own sending) = unless_silent (one_quiet own) (says Enq (Awaiting (one_quiet own) (record sending { asked = true })))
quiets (SentAll own) = unless_silent (one_quiet own) (eot_again (one_quiet own))
quiets (InText own taking) = unless_silent (one_quiet own) (says_nothing (InText (one_quiet own) taking))
quiets (Finished own text) = unless_silent (one_quiet own) (says_nothing (Finished (one_quiet own) text))
quiets (Ended end) = ends end

abbrev pub unplugs : Line → Line
unplugs (Ended end) = Ended end
unplugs _ = Ended Unplugged

-- the text heard, where the own turn must be given
abbrev pub turn_of : Line → Option (List ℕ)
turn_of (Finished own text) = Some text
turn_of _ = None

-- an own turn with this load
abbrev pub gives : Line → List FrameShape → LineStep
gives (Finished own text) load = bids own load
gives line load = says_nothing line

-- ---- the start

abbrev pub beginning : Role → List ℕ → List ℕ → Common
beginning role own peer = record { role = role; own = own; peer = peer; stage = FirstStage; partner = None; empty = false; quiets = 0 }

abbrev pub started : Role → List ℕ → List ℕ → LineStep
started Supplier own peer = bids (beginning Supplier own peer) (first_header (beginning Supplier own peer) ∷ [])
started Receiver own peer = says_nothing (Ready (beginning Receiver own peer))
