use Rattle.std.proofs.Common.{◌≡◌, Result, Err, ap}
use Rattle.dsd_journal.specs.declared.opening.OpenFault.{OpenFault}
use Rattle.dsd_journal.specs.declared.opening.OpenFault.TheVariants.{NotAJournal}
use Rattle.own_turn.proofs.desk.open_desk.Goals as goal

same_fault : {X : Type 0} (one other : OpenFault) → (let r : Result X OpenFault = Err one in r) ≡ Err other → one ≡ other
same_fault one other e = cc

pub returns-in-Err-clause-refused : goal.returns-in-Err-clause-refused
returns-in-Err-clause-refused g c = λ tells place e. c.in-Err.ensures.refused tells place (ap (λ f. Err f) (same_fault c.in-Err.fault (NotAJournal place) e))
