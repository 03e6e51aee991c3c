use Rattle.std.proofs.Common.{◌≤◌, Err, sym, ap, subst}
use Rattle.dsd_end.specs.Patience.{patience}
use Rattle.dsd_end.proofs.Waiting.{first_patient}
use Rattle.dsd_values.specs.declared.role.Role.{Role}
use Rattle.dsd_journal.specs.Devices.{since}
use Rattle.dsd_journal.specs.declared.opening.OpenFault.{OpenFault}
use Rattle.dsd_journal.specs.declared.opening.OpenFault.TheVariants.{NotAJournal}
use Rattle.delivery_book.specs.Signing.{Legal}
use Rattle.dsd_end.specs.RunSoFar.{Runs}
use Rattle.dsd_end.specs.Standings.{Standing}
use Rattle.dsd_end.specs.declared.end.End.{End}
use Rattle.dsd_end.proofs.Opened.{opening_runs, same_fault}
use Rattle.dsd_end.proofs.opening.open_end.Goals as goal

pub returns-in-Ok-clause-runs : goal.returns-in-Ok-clause-runs
returns-in-Ok-clause-runs g c = λ tells.
    let ch = g.D.Decider.chooser c.args.decider in
    let old = g.T.Station.told c.args.station.now in
    let new = g.T.Station.told c.open_core.new.station in
    let book = c.in-Ok.core.book in
    subst (λ (s : Standing). Runs ch book.entries (since old) s new) (sym c.in-Ok.ensures.standing)
    (opening_runs ch book.header book.entries _ old new (subst (λ (r : Role). Legal r book.entries) (sym c.in-Ok.ensures.role) c.in-Ok.ensures.legal) (c.in-Ok.ensures.rests tells) (c.in-Ok.ensures.told tells) (λ f. f))

pub returns-in-Err-clause-refused : goal.returns-in-Err-clause-refused
returns-in-Err-clause-refused g c = λ tells place e. c.in-Err.ensures.refused tells place (ap (λ (f : OpenFault). Err f) (same_fault {A = End g.row.D.Denot} c.in-Err.fault (NotAJournal place) e))

pub returns-in-Ok-clause-most : goal.returns-in-Ok-clause-most
returns-in-Ok-clause-most g c = subst (λ (s : Standing). patience s ≤ 60000031) (sym c.in-Ok.ensures.standing) (first_patient c.in-Ok.core.book.header c.in-Ok.core.book.entries)
