-- What a contract sees of a state: its line, put together from the fields of the state.
use Rattle.std.specs.Prelude.{◌≡◌, ℕ, ◌+◌, ◌≤◌, ◌==◌, Bool, false, List, [], ◌∷◌, if◌then◌else◌, length, take, drop, Option, Some, None}
use Rattle.dex_line.specs.FrameShapes.{FrameShape, Bad, Block}
use Rattle.dex_line.specs.TextUnits.{UnitsFit}
use Rattle.dex_line.specs.declared.cutter.TheConstants.{BLOCK_WRITTEN}
use Rattle.dxs_envelope.specs.declared.outgoing.TheConstants.{TRANSMISSION_BYTES}
use Rattle.dex_handshake.specs.LineRun.{load_of}
use Rattle.dex_handshake.specs.LineTable.{StageName, Common, Partner, Sending, Taking, Line, Bidding, Awaiting, InText, Finished}
use Rattle.dex_handshake.specs.declared.header.Partner.{Partner as PartnerRead}

abbrev pub partner_is : PartnerRead → Partner
partner_is partner = record { code = partner.code; id = partner.id }

abbrev pub partner_seen : Option PartnerRead → Option Partner
partner_seen None = None
partner_seen (Some partner) = Some (partner_is partner)

-- what all states keep, at some stage, and the room for a text
pub record CommonKept : Type 0 where
  pub seen : Common
  pub room : List ℕ

abbrev pub at_stage : StageName → CommonKept → Common
at_stage stage common = record common.seen { stage = stage }

abbrev pub present_frame : List FrameShape → Option FrameShape
present_frame [] = None
present_frame (frame ∷ more) = Some frame

abbrev pub behind_first : List FrameShape → List FrameShape
behind_first [] = []
behind_first (frame ∷ more) = more

-- what is left of a load, and how many frames of it are done
pub record LoadSeen : Type 0 where
  pub left : List FrameShape
  pub done : ℕ

-- a header that is sent once
abbrev pub once : FrameShape → Bool → LoadSeen
once frame passed = if passed then record { left = []; done = 1 } else record { left = frame ∷ []; done = 0 }

abbrev pub text_seen : Option (List ℕ) → ℕ → ℕ → LoadSeen
text_seen None from passed = record { left = []; done = passed }
text_seen (Some text) from passed = record { left = load_of (drop from text); done = passed }

-- what is left of a text from a place on, where its first block has this size
abbrev pub from_place : List ℕ → ℕ → ℕ → List FrameShape
from_place text from size =
    if size == 0 then []
    else Block (from + size == length text) (take size (drop from text)) ∷ load_of (drop (from + size) text)

-- a place inside the text, with the size of the first block from there on; each block before has some byte
pub record IsPlacedIn (text : List ℕ) (from size passed : ℕ) : Type 0 where
  pub inside : from + size ≤ length text
  pub short : length text ≤ TRANSMISSION_BYTES
  pub fits : size ≤ BLOCK_WRITTEN
  pub each : passed ≤ from
  pub fit : UnitsFit (drop (from + size) text)
  pub present : load_of (drop from text) ≡ from_place text from size

abbrev pub IsPlaced : Option (List ℕ) → ℕ → ℕ → ℕ → Type 0
IsPlaced None from size passed = passed ≡ 0
IsPlaced (Some text) from size passed = IsPlacedIn text from size passed

-- the first of what is left; there is one while a frame awaits its reply
abbrev pub first_or_bad : List FrameShape → FrameShape
first_or_bad [] = Bad
first_or_bad (frame ∷ more) = frame

abbrev pub sending_seen : List FrameShape → ℕ → ℕ → Bool → Sending
sending_seen left done tries asked =
    record { frame = first_or_bad left; left = behind_first left; block = done + 1; tries = tries; asked = asked }

-- what was taken of a text
pub record TextTaken : Type 0 where
  pub size : ℕ
  pub taken : ℕ
  pub whole : Bool

abbrev pub header_taking : Bool → Taking
header_taking heard = record { text = []; taken = if heard then 1 else 0; whole = false }

abbrev pub text_taking : TextTaken → List ℕ → Taking
text_taking text room = record { text = take text.size room; taken = text.taken; whole = text.whole }

-- the load of a text, or nothing
abbrev pub load_seen : Option (List ℕ) → List FrameShape
load_seen None = []
load_seen (Some text) = load_of text

-- ---- each state as its line

pub record BiddingSeen : Type 0 where
  pub own : Common
  pub load : List FrameShape

pub record AwaitingSeen : Type 0 where
  pub own : Common
  pub sending : Sending

pub record InTextSeen : Type 0 where
  pub own : Common
  pub taking : Taking

pub record FinishedSeen : Type 0 where
  pub own : Common
  pub text : List ℕ

abbrev pub bidding_line : BiddingSeen → Line
bidding_line state = Bidding state.own state.load

abbrev pub awaiting_line : AwaitingSeen → Line
awaiting_line state = Awaiting state.own state.sending

abbrev pub in_text_line : InTextSeen → Line
in_text_line state = InText state.own state.taking

abbrev pub finished_line : FinishedSeen → Line
finished_line state = Finished state.own state.text
