-- Spoken bytes: what an end has said, held against what it has signed.
use Rattle.std.specs.Prelude.{◌≡◌, ℕ, Bool, List, [], ◌∷◌, ◌++◌, All, ⊤}
use Rattle.std.specs.List.{Contains, flat_map}
use Rattle.dex_line.specs.BlockCut.{CutOf}
use Rattle.dex_line.specs.FrameShapes.{FrameShape, Enq, Ack0, Ack1, Nak, Eot, Header, Block, Damaged, Bad}
use Rattle.dex_line.specs.FrameSpelling.{IsSpoken, spelling}
use Rattle.dex_line.specs.Hearing.{AreSpoken}
use Rattle.dsd_journal.specs.declared.entry.Entry.{Entry}
use Rattle.dxs_envelope.specs.Sending.{Sent}
use Rattle.delivery_book.specs.Deeds.{signed_texts}

-- ---- blocks of transmissions

-- The block is one of those into which a written transmission of these sets is cut.
pub record IsCutFrom (sets : List (List ℕ)) (last : Bool) (text : List ℕ) : Type 0 where
  pub sender : List ℕ
  pub receiver : List ℕ
  pub control : ℕ
  pub whole : List ℕ
  pub sent : Sent sets sender receiver control whole
  pub blocks : List (List ℕ × Bool)
  pub cut : CutOf whole blocks
  pub one : Contains blocks (text, last)

-- each of the sets is among those that were signed in these entries
abbrev pub AreSigned : List (List ℕ) → List Entry → Type 0
AreSigned sets entries = All (Contains (signed_texts entries)) sets

-- A data block is cut from a transmission of sets that are signed in each of these lists. Of another frame nothing is asked.
abbrev pub IsBacked : List (List Entry) → FrameShape → Type 0
IsBacked lists (Block last text) = (sets : List (List ℕ)) × IsCutFrom sets last text × All (AreSigned sets) lists
IsBacked lists Enq = ⊤
IsBacked lists Ack0 = ⊤
IsBacked lists Ack1 = ⊤
IsBacked lists Nak = ⊤
IsBacked lists Eot = ⊤
IsBacked lists (Header text) = ⊤
IsBacked lists Damaged = ⊤
IsBacked lists Bad = ⊤

-- ---- frames that have gone out

-- these bytes of the frame have gone out, and not all of it
abbrev pub IsCutShortOf : FrameShape → List ℕ → Type 0
IsCutShortOf frame cut = (b : ℕ) × (more : List ℕ) × IsSpoken frame × (spelling frame ≡ cut ++ b ∷ more)

-- The bytes are spelled frames, of the last of which perhaps a front alone has gone out; and each of them has P. Where none
-- is cut short, the last one is any frame with P of which no byte has gone out.
pub record AreFrames (P : FrameShape → Type 0) (out : List ℕ) : Type 0 where
  pub frames : List FrameShape
  pub last : FrameShape
  pub cut : List ℕ
  pub spoken : AreSpoken frames
  pub short : IsCutShortOf last cut
  pub bytes : out ≡ flat_map spelling frames ++ cut
  pub each : All P frames
  pub and_last : P last

-- What is spoken: spelled frames, the last perhaps cut short, of which each data block, that one too, is cut from a written
-- transmission of sets that are all signed in these entries.
abbrev pub Speaks : List ℕ → List Entry → Type 0
Speaks out entries = AreFrames (IsBacked (entries ∷ [])) out
