-- The first frame of captured bytes, as it is read from the left, and how many bytes it takes. That this is the first
-- frame of the definition is the clause of the call that reads it.
use Rattle.std.specs.Prelude.{ℕ, ◌+◌, ◌&&◌, ◌==◌, nat_lt, nat_le, if◌then◌else◌, List, [], ◌∷◌, length, take, drop, Option, Some, None}
use Rattle.std.specs.List.{position_or_len}
use Rattle.dex_line.specs.Bytes.{soh, stx, eot, enq, dle, nak, is_no_text}
use Rattle.dex_line.specs.FrameShapes.{FrameShape, Enq, Ack0, Ack1, Nak, Eot, Bad, captured_seen}
use Rattle.dex_line.specs.FrameSpelling.{most_text, is_closing}
use Rattle.dex_line.specs.Judging.{checked}
use Rattle.dex_line.specs.declared.frame.Opened.{Opened}
use Rattle.dex_line.specs.declared.frame.Opened.TheVariants as opens
use Rattle.dex_line.specs.declared.lent.Captured.{Captured}

-- what is no frame: its first byte is named for it
abbrev pub no_frame : FrameShape × ℕ
no_frame = (Bad, 1)

-- behind the text of a header or block: its end, whatever the check
abbrev pub first_closed : Opened → List ℕ → List ℕ → FrameShape × ℕ
first_closed opened text [] = no_frame
first_closed opened text (b ∷ []) = no_frame
first_closed opened text (b ∷ c ∷ []) = no_frame
first_closed opened text (b ∷ c ∷ low ∷ []) = no_frame
first_closed opened text (b ∷ c ∷ low ∷ high ∷ more) =
    if b == dle && is_closing opened c then (checked opened text c low high, length text + 6) else no_frame

-- a text of so many bytes, and what is behind it
abbrev pub first_text : Opened → ℕ → List ℕ → FrameShape × ℕ
first_text opened size rest =
    if nat_lt 0 size && nat_le size (most_text opened) then first_closed opened (take size rest) (drop size rest) else no_frame

-- behind what opens a header or block: the text is all up to the first byte that is none
abbrev pub first_opened : Opened → List ℕ → FrameShape × ℕ
first_opened opened rest = first_text opened (position_or_len is_no_text rest) rest

-- behind a first DLE
abbrev pub first_marked : List ℕ → FrameShape × ℕ
first_marked [] = no_frame
first_marked (b ∷ more) =
    if b == 0x30 then (Ack0, 2)
    else (if b == 0x31 then (Ack1, 2)
    else (if b == soh then first_opened opens.Header more
    else (if b == stx then first_opened opens.Block more else no_frame)))

abbrev pub first_of : List ℕ → Option (FrameShape × ℕ)
first_of [] = None
first_of (b ∷ more) = Some (
    if b == dle then first_marked more
    else (if b == enq then (Enq, 1)
    else (if b == nak then (Nak, 1)
    else (if b == eot then (Eot, 1) else no_frame))))

-- ---- what the code answers, seen so

abbrev pub sized_seen : Captured × ℕ → FrameShape × ℕ
sized_seen frame = (captured_seen frame.0, frame.1)

abbrev pub some_sized : Option (Captured × ℕ) → Option (FrameShape × ℕ)
some_sized None = None
some_sized (Some frame) = Some (sized_seen frame)
