-- Where a scanner stands: the bytes since its last answer, by its stage and the text that it keeps.
use Rattle.std.specs.Prelude.{◌≡◌, ℕ, ◌≤◌, true, List, [], ◌∷◌, ◌++◌, length, Option, Some, None, ⊤}
use Rattle.std.specs.List.{list_all}
use Rattle.block_check.specs.Crc16.{crc_of}
use Rattle.dex_line.specs.Bytes.{dle, is_text}
use Rattle.dex_line.specs.FrameShapes.{FrameShape, Enq, Ack0, Ack1, Nak, Eot, Damaged, Bad}
use Rattle.dex_line.specs.FrameSpelling.{is_closing, most_text, opening, IsTextOf}
use Rattle.dex_line.specs.Judging.{closed, judge, judge_marked, judge_text, judge_closing, judge_check}
use Rattle.dex_line.specs.declared.frame.Opened.{Opened}
use Rattle.dex_line.specs.declared.begun.Begun.{Begun}
use Rattle.dex_line.specs.declared.begun.Stage.{Stage}
use Rattle.dex_line.specs.declared.ended.Ended.{Ended}
use Rattle.dex_line.specs.declared.ended.Ended.TheVariants as endings
use Rattle.dex_line.specs.declared.begun.Stage.TheVariants.{Idle, Marked, Text, Closing, Check, Low}

-- the bytes since the last answer
abbrev pub begun : Stage → List ℕ → List ℕ
begun Idle text = []
begun Marked text = dle ∷ []
begun (Text opened) text = dle ∷ opening opened ∷ text
begun (Closing opened) text = dle ∷ opening opened ∷ (text ++ dle ∷ [])
begun (Check opened closing) text = dle ∷ opening opened ∷ (text ++ dle ∷ closing ∷ [])
begun (Low opened closing low) text = dle ∷ opening opened ∷ (text ++ dle ∷ closing ∷ low ∷ [])

-- the same with one more byte
abbrev pub begun_with : Stage → List ℕ → ℕ → List ℕ
begun_with Idle text b = b ∷ []
begun_with Marked text b = dle ∷ b ∷ []
begun_with (Text opened) text b = dle ∷ opening opened ∷ (text ++ b ∷ [])
begun_with (Closing opened) text b = dle ∷ opening opened ∷ (text ++ dle ∷ b ∷ [])
begun_with (Check opened closing) text b = dle ∷ opening opened ∷ (text ++ dle ∷ closing ∷ b ∷ [])
begun_with (Low opened closing low) text b = dle ∷ opening opened ∷ (text ++ dle ∷ closing ∷ low ∷ b ∷ [])

-- what they are with it
abbrev pub judged_at : Stage → List ℕ → ℕ → Option FrameShape
judged_at Idle text b = judge (b ∷ [])
judged_at Marked text b = judge_marked (b ∷ [])
judged_at (Text opened) text b = judge_text opened text (b ∷ [])
judged_at (Closing opened) text b = judge_closing opened text (b ∷ [])
judged_at (Check opened closing) text b = None
judged_at (Low opened closing low) text b = judge_check opened text closing (low ∷ b ∷ [])

-- text so far, with its running check
pub record IsTextSoFar (opened : Opened) (text : List ℕ) (check : ℕ) : Type 0 where
  pub fits : length text ≤ most_text opened
  pub bytes : list_all is_text text ≡ true
  pub running : check ≡ crc_of text

-- a whole text with its closing byte, and the check of both
pub record IsTextClosed (opened : Opened) (closing : ℕ) (text : List ℕ) (check : ℕ) : Type 0 where
  pub whole : IsTextOf opened text
  pub closes : is_closing opened closing ≡ true
  pub running : check ≡ crc_of (text ++ closing ∷ [])

-- the text and the check that are kept fit the stage
abbrev pub IsSound : Stage → List ℕ → ℕ → Type 0
IsSound Idle text check = ⊤
IsSound Marked text check = ⊤
IsSound (Text opened) text check = IsTextSoFar opened text check
IsSound (Closing opened) text check = IsTextOf opened text × (check ≡ crc_of text)
IsSound (Check opened closing) text check = IsTextClosed opened closing text check
IsSound (Low opened closing low) text check = IsTextClosed opened closing text check

-- ---- the same of what is kept

-- the bytes since the last answer
abbrev pub held : Begun → List ℕ
held bytes = begun bytes.stage bytes.text.items

abbrev pub held_with : Begun → ℕ → List ℕ
held_with bytes b = begun_with bytes.stage bytes.text.items b

abbrev pub judged_with : Begun → ℕ → Option FrameShape
judged_with bytes b = judged_at bytes.stage bytes.text.items b

abbrev pub IsHeld : Begun → Type 0
IsHeld bytes = IsSound bytes.stage bytes.text.items bytes.check

-- ---- what has ended

-- a frame by what has ended and its text
abbrev pub ended_seen : Ended → List ℕ → FrameShape
ended_seen endings.Enq text = Enq
ended_seen endings.Ack0 text = Ack0
ended_seen endings.Ack1 text = Ack1
ended_seen endings.Nak text = Nak
ended_seen endings.Eot text = Eot
ended_seen (endings.Closed opened closing) text = closed opened text closing
ended_seen endings.Damaged text = Damaged
ended_seen endings.Bad text = Bad

abbrev pub ending_seen : Option Ended → List ℕ → Option FrameShape
ending_seen None text = None
ending_seen (Some ended) text = Some (ended_seen ended text)

-- the same as a list
abbrev pub endings_seen : Option Ended → List ℕ → List FrameShape
endings_seen None text = []
endings_seen (Some ended) text = ended_seen ended text ∷ []

-- a header or block that has ended may have the text
abbrev pub HasText : Ended → List ℕ → Type 0
HasText endings.Enq text = ⊤
HasText endings.Ack0 text = ⊤
HasText endings.Ack1 text = ⊤
HasText endings.Nak text = ⊤
HasText endings.Eot text = ⊤
HasText (endings.Closed opened closing) text = IsTextOf opened text
HasText endings.Damaged text = ⊤
HasText endings.Bad text = ⊤

abbrev pub HasEnded : Option Ended → List ℕ → Type 0
HasEnded None text = ⊤
HasEnded (Some ended) text = HasText ended text

-- ---- answers

-- what is left of the bytes: with an answer they begin anew
abbrev pub kept : {A : Type 0} → Option A → List ℕ → List ℕ
kept None bytes = bytes
kept (Some answer) bytes = []

-- a silence drops what has begun, and tells that something had
abbrev pub quieted : List ℕ → Option FrameShape
quieted [] = None
quieted (b ∷ more) = Some Bad
