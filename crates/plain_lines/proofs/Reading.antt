-- Line after line, what is left says what the whole text says.
use Rattle.std.proofs.Common.{◌≡◌, ℕ, List, [], ◌∷◌, Result, Ok, Err, ap, ◌∙◌, sym}
use Rattle.dsd_record.specs.declared.draft_fault.DraftFault.{DraftFault}
use Rattle.plain_lines.specs.PlainText.{LineSeen, LinesLeft}
use Rattle.plain_lines.specs.Refusing.{◌>>=◌, said_by, said_in}

module _ {M X : Type 0} (step : M → LineSeen → Result M DraftFault) (finish : ℕ → M → Result X DraftFault) where
  abbrev behind : ℕ → List LineSeen → Result M DraftFault → Result X DraftFault
  behind end lines next = (next >>= λ m. said_by step m lines) >>= finish end

  -- one more line
  pub step_on : (m next : M) (old new : LinesLeft) (line : LineSeen) → old.lines ≡ line ∷ new.lines → new.end ≡ old.end → step m line ≡ Ok next → said_in step finish new next ≡ said_in step finish old m
  step_on m next old new line lines end says =
      ap (λ (e : ℕ). said_by step next new.lines >>= finish e) end ∙ sym (ap (λ (ls : List LineSeen). said_by step m ls >>= finish old.end) lines ∙ ap (behind old.end new.lines) says)

  -- a line that is refused
  pub step_refused : (m : M) (old new : LinesLeft) (line : LineSeen) (fault : DraftFault) → old.lines ≡ line ∷ new.lines → step m line ≡ Err fault → said_in step finish old m ≡ Err fault
  step_refused m old new line fault lines says = ap (λ (ls : List LineSeen). said_by step m ls >>= finish old.end) lines ∙ ap (behind old.end new.lines) says

  -- no line more
  pub at_end : (m : M) (old : LinesLeft) → old.lines ≡ [] → said_in step finish old m ≡ finish old.end m
  at_end m old lines = ap (λ (ls : List LineSeen). said_by step m ls >>= finish old.end) lines
