-- How a text of lines is read, line by line: the first line with a reason against it decides, and at a line its first reason.
use Rattle.std.specs.Prelude.{◌≡◌, ℕ, Bool, true, if◌then◌else◌, List, [], ◌∷◌, Option, Some, None, Result, Ok, Err}
use Rattle.dsd_values.specs.Answers.{Gives}
use Rattle.dsd_values.specs.Reading.{word_between}
use Rattle.dsd_values.specs.SignatureRecord.{SignatureRecord}
use Rattle.dsd_values.specs.declared.limits.TheConstants.{MARK_BYTES}
use Rattle.dsd_values.specs.declared.fault.ValueFault.{ValueFault}
use Rattle.dsd_record.specs.declared.draft_fault.DraftFault.{DraftFault}
use Rattle.dsd_record.specs.declared.draft_fault.DraftFault.TheVariants.{Memory, Refused}
use Rattle.dsd_record.specs.declared.draft_fault.DraftReason.{DraftReason}
use Rattle.dsd_record.specs.declared.draft_fault.DraftReason.TheVariants as reasons
use Rattle.plain_lines.specs.PlainText.{LineSeen, LinesLeft, has_words, leads, word_of_line}

-- ---- at one line

-- the line is refused for this reason
abbrev pub refused : {X : Type 0} → LineSeen → DraftReason → Result X DraftFault
refused line reason = Err (Refused line.place reason)

-- the line is refused for this reason where the test holds
abbrev pub refused_if : {X : Type 0} → Bool → LineSeen → DraftReason → Result X DraftFault → Result X DraftFault
refused_if test line reason rest = if test then refused line reason else rest

-- why the line may not stand where one with this leading word and so many words has to
abbrev pub misplaced : LineSeen → List ℕ → ℕ → Option DraftReason
misplaced line word count = if leads line word then (if has_words line count then None else Some reasons.Words) else Some reasons.Line

-- the line is refused where there is a reason
abbrev pub unless : {X : Type 0} → Option DraftReason → LineSeen → Result X DraftFault → Result X DraftFault
unless (Some reason) line rest = refused line reason
unless None line rest = rest

-- it has this leading word and so many words
pub record IsLed (line : LineSeen) (word : List ℕ) (count : ℕ) : Type 0 where
  pub leading : leads line word ≡ true
  pub words : has_words line count ≡ true

-- the value of the word with this number, or its fault
abbrev pub value_at : {V : Type 0} → LineSeen → ℕ → Result V ValueFault → Result V DraftFault
value_at line number (Ok value) = Ok value
value_at line number (Err fault) = refused line (reasons.Value number fault)

infixl 10 ◌>>=◌
-- what follows where nothing was refused
abbrev pub ◌>>=◌ : {A B : Type 0} → Result A DraftFault → (A → Result B DraftFault) → Result B DraftFault
(Ok a) >>= f = f a
(Err fault) >>= f = Err fault

-- the line signs so: a mark, and no name
pub record SaysSignature (signature : SignatureRecord) (line : LineSeen) : Type 0 where
  pub mark : word_between 1 MARK_BYTES (word_of_line line 1) ≡ Ok signature.mark
  pub name : signature.name ≡ []

-- what a line that signs says: a mark, and no name
abbrev pub signature_in : LineSeen → Result SignatureRecord DraftFault
signature_in line = do
  mark ← value_at line 1 (word_between 1 MARK_BYTES (word_of_line line 1))
  Ok (record { mark = mark; name = [] })

-- ---- line by line

-- what is said behind all of these lines, each step being what one more line says
abbrev pub said_by : {M : Type 0} → (M → LineSeen → Result M DraftFault) → M → List LineSeen → Result M DraftFault
said_by step so_far [] = Ok so_far
said_by step so_far (line ∷ lines) = step so_far line >>= λ next. said_by step next lines

-- what these lines say behind what was said, and then what is made of it at the end of their text
abbrev pub said_in : {M X : Type 0} → (M → LineSeen → Result M DraftFault) → (ℕ → M → Result X DraftFault) → LinesLeft → M → Result X DraftFault
said_in step finish left so_far = said_by step so_far left.lines >>= finish left.end

-- a text that ends there is refused for its line where a part is not whole
abbrev pub whole_at : {X : Type 0} → Bool → ℕ → X → Result X DraftFault
whole_at whole end value = if whole then Ok value else Err (Refused end reasons.Line)

-- a call that changes a value by what a line says, or refuses the line
abbrev pub Steps : {M : Type 0} → Result (Unit {0}) DraftFault → M → Result M DraftFault → Type 0
Steps result new wanted = Gives Memory (λ _. new) result wanted
