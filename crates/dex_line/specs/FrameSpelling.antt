-- How frames are spelled, after the DEX line. The scanner is not spoken of here.
use Rattle.std.specs.Prelude.{◌≡◌, ℕ, ◌/◌, ◌%◌, ◌<◌, ◌≤◌, Bool, true, false, ◌||◌, ◌==◌, List, [], ◌∷◌, ◌++◌, length, Option, Some, None, ⊤}
use Rattle.std.specs.List.{list_all}
use Rattle.block_check.specs.Crc16.{crc_of}
use Rattle.dex_line.specs.Bytes.{soh, stx, etx, eot, enq, dle, nak, etb, is_text}
use Rattle.dex_line.specs.FrameShapes.{FrameShape, Enq, Ack0, Ack1, Nak, Eot, Header, Block, Damaged, Bad}
use Rattle.dex_line.specs.declared.frame.Opened.{Opened}
use Rattle.dex_line.specs.declared.frame.Opened.TheVariants as opens
use Rattle.dex_line.specs.declared.frame.TheConstants.{BLOCK_READ, HEADER_BYTES}

-- ---- headers and blocks: a text between its marks, and the check behind it

-- the byte that opens it, behind a DLE
abbrev pub opening : Opened → ℕ
opening opens.Header = soh
opening opens.Block = stx

-- how many bytes its text may have
abbrev pub most_text : Opened → ℕ
most_text opens.Header = HEADER_BYTES
most_text opens.Block = BLOCK_READ

-- the byte that closes a block, behind a DLE: ETX behind the last one, and else ETB
abbrev pub block_end : Bool → ℕ
block_end true = etx
block_end false = etb

-- the bytes that may close it
abbrev pub is_closing : Opened → ℕ → Bool
is_closing opens.Header b = b == etx
is_closing opens.Block b = b == etx || b == etb

-- a text that a header or block may have
pub record IsTextOf (opened : Opened) (text : List ℕ) : Type 0 where
  pub some : 0 < length text
  pub fits : length text ≤ most_text opened
  pub bytes : list_all is_text text ≡ true

-- a text between its marks, and two bytes behind it
abbrev pub wrapped : Opened → List ℕ → ℕ → ℕ → ℕ → List ℕ
wrapped opened text closing low high = dle ∷ opening opened ∷ (text ++ dle ∷ closing ∷ low ∷ high ∷ [])

-- the check is the CRC-16 of the text and the closing byte, without any DLE: its low byte
abbrev pub low_check : List ℕ → ℕ → ℕ
low_check text closing = crc_of (text ++ closing ∷ []) % 256

-- and its high byte
abbrev pub high_check : List ℕ → ℕ → ℕ
high_check text closing = crc_of (text ++ closing ∷ []) / 256

-- a text between its marks, and its check, the low byte first
abbrev pub guarded : Opened → List ℕ → ℕ → List ℕ
guarded opened text closing = wrapped opened text closing (low_check text closing) (high_check text closing)

-- ---- frames

-- the bytes of a frame that can be said
abbrev pub spelling : FrameShape → List ℕ
spelling Enq = enq ∷ []
spelling Ack0 = dle ∷ 0x30 ∷ []
spelling Ack1 = dle ∷ 0x31 ∷ []
spelling Nak = nak ∷ []
spelling Eot = eot ∷ []
spelling (Header text) = guarded opens.Header text etx
spelling (Block last text) = guarded opens.Block text (block_end last)
spelling Damaged = []
spelling Bad = []

-- a frame that can be said
abbrev pub IsSpoken : FrameShape → Type 0
IsSpoken Enq = ⊤
IsSpoken Ack0 = ⊤
IsSpoken Ack1 = ⊤
IsSpoken Nak = ⊤
IsSpoken Eot = ⊤
IsSpoken (Header text) = IsTextOf opens.Header text
IsSpoken (Block last text) = IsTextOf opens.Block text
IsSpoken Damaged = ⊥
IsSpoken Bad = ⊥

-- a header's or block's spelling in all but the check
pub record IsDamaged (bytes : List ℕ) : Type 0 where
  pub opened : Opened
  pub text : List ℕ
  pub closing : ℕ
  pub low : ℕ
  pub high : ℕ
  pub fits : IsTextOf opened text
  pub closes : is_closing opened closing ≡ true
  pub differs : (low ≡ low_check text closing) × (high ≡ high_check text closing) → ⊥
  pub spelled : bytes ≡ wrapped opened text closing low high

-- the bytes spell the frame
abbrev pub Spelled : FrameShape → List ℕ → Type 0
Spelled Damaged bytes = IsDamaged bytes
Spelled Bad bytes = ⊥
Spelled shape bytes = IsSpoken shape × (bytes ≡ spelling shape)

-- ---- what bytes are to be answered with

-- a proper front of a spelling
abbrev pub IsBegun : List ℕ → Type 0
IsBegun bytes = (shape : FrameShape) × (b : ℕ) × (more : List ℕ) × Spelled shape (bytes ++ b ∷ more)

-- neither a proper front of a spelling nor a spelling
abbrev pub IsNoFrame : List ℕ → Type 0
IsNoFrame bytes = (IsBegun bytes → ⊥) × ((shape : FrameShape) → Spelled shape bytes → ⊥)

-- the answer to the bytes since the last answer: none while a frame has begun, Bad where they are no frame,
-- and else the frame that they spell
abbrev pub Answers : List ℕ → Option FrameShape → Type 0
Answers bytes None = IsBegun bytes
Answers bytes (Some Bad) = IsNoFrame bytes
Answers bytes (Some shape) = Spelled shape bytes
