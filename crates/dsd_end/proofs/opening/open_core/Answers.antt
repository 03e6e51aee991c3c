use Rattle.std.proofs.Common.{Err, ap}
use Rattle.dex_handshake.specs.SessionSeen.{step_seen}
use Rattle.dsd_journal.specs.declared.opening.OpenFault.{OpenFault}
use Rattle.dsd_journal.specs.declared.opening.OpenFault.TheVariants.{NotAJournal}
use Rattle.dsd_end.specs.declared.end_core.EndCore.{EndCore}
use Rattle.dsd_end.proofs.Opened.{opened_ready, same_fault}
use Rattle.dsd_end.proofs.opening.open_core.Goals as goal

pub returns-in-Err-clause-refused : goal.returns-in-Err-clause-refused
returns-in-Err-clause-refused g c = λ tells place e. c.in-Err.ensures.refused tells place (ap (λ (f : OpenFault). Err f) (same_fault {A = EndCore} c.in-Err.fault (NotAJournal place) e))

pub starting-requires-clause-ready : goal.starting-requires-clause-ready
starting-requires-clause-ready g c =
    opened_ready c.in-Ok.desk c.args.role (step_seen c.in-Ok-start.step) c.in-Ok.ensures.works c.in-Ok.ensures.staged c.in-Ok.ensures.known c.start.ensures.titled c.in-Ok-start.ensures.step
