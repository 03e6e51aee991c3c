-- What bytes are, read from the left: a front of a spelling, the spelling of a frame, or neither. That this is what
-- the spellings say is a law of the scanner's `push`.
use Rattle.std.specs.Prelude.{ℕ, ◌&&◌, ◌==◌, nat_lt, if◌then◌else◌, List, [], ◌∷◌, ◌++◌, length, Option, Some, None}
use Rattle.dex_line.specs.Bytes.{soh, stx, etx, eot, enq, dle, nak, is_text}
use Rattle.dex_line.specs.FrameShapes.{FrameShape, Enq, Ack0, Ack1, Nak, Eot, Header, Block, Damaged, Bad}
use Rattle.dex_line.specs.FrameSpelling.{most_text, is_closing, low_check, high_check}
use Rattle.dex_line.specs.declared.frame.Opened.{Opened}
use Rattle.dex_line.specs.declared.frame.Opened.TheVariants as opens

-- the frame, where nothing follows it
abbrev pub ends : FrameShape → List ℕ → Option FrameShape
ends shape [] = Some shape
ends shape (b ∷ more) = Some Bad

-- a whole header or block
abbrev pub closed : Opened → List ℕ → ℕ → FrameShape
closed opens.Header text closing = Header text
closed opens.Block text closing = Block (closing == etx) text

-- the same, where its check is the right one
abbrev pub checked : Opened → List ℕ → ℕ → ℕ → ℕ → FrameShape
checked opened text closing low high =
    if low == low_check text closing && high == high_check text closing then closed opened text closing else Damaged

-- behind the closing byte
abbrev pub judge_check : Opened → List ℕ → ℕ → List ℕ → Option FrameShape
judge_check opened text closing [] = None
judge_check opened text closing (low ∷ []) = None
judge_check opened text closing (low ∷ high ∷ more) = ends (checked opened text closing low high) more

-- behind the DLE after a text
abbrev pub judge_closing : Opened → List ℕ → List ℕ → Option FrameShape
judge_closing opened text [] = None
judge_closing opened text (b ∷ more) = if is_closing opened b then judge_check opened text b more else Some Bad

-- behind so much text
abbrev pub judge_text : Opened → List ℕ → List ℕ → Option FrameShape
judge_text opened text [] = None
judge_text opened text (b ∷ more) =
    if is_text b
    then (if nat_lt (length text) (most_text opened) then judge_text opened (text ++ b ∷ []) more else Some Bad)
    else (if b == dle && nat_lt 0 (length text) then judge_closing opened text more else Some Bad)

-- behind a first DLE
abbrev pub judge_marked : List ℕ → Option FrameShape
judge_marked [] = None
judge_marked (b ∷ more) =
    if b == 0x30 then ends Ack0 more
    else (if b == 0x31 then ends Ack1 more
    else (if b == soh then judge_text opens.Header [] more
    else (if b == stx then judge_text opens.Block [] more else Some Bad)))

abbrev pub judge : List ℕ → Option FrameShape
judge [] = None
judge (b ∷ more) =
    if b == dle then judge_marked more
    else (if b == enq then ends Enq more
    else (if b == nak then ends Nak more
    else (if b == eot then ends Eot more else Some Bad)))
