use Rattle.std.proofs.Common.{◌≡◌, ℕ, subst}
use Rattle.dsd_journal.specs.declared.opening.OpenFault.TheVariants.{NotAJournal}
use Rattle.dsd_journal.specs.FirstBad.{IsRefused}
use Rattle.dsd_journal.proofs.Ends.{mistitled_refused}
use Rattle.dsd_journal.proofs.reading.read_head.Goals as goal

pub returns-in-Err-begin-clause-refused : goal.returns-in-Err-begin-clause-refused
returns-in-Err-begin-clause-refused g c = λ tells place is.
    let so_far = c.in-Ok.ensures.bytes tells in
    let image = (g.T.Station.told c.args.station.now).journal in
    subst (IsRefused image) (placed c.in-Err-begin.place place is)
    (mistitled_refused image c.read_front.new.bytes.items c.in-Ok.at c.in-Err-begin.place so_far.is so_far.inside (c.in-Ok.ensures.end tells) c.in-Err-begin.ensures.err)
  where
    placed : (at place : ℕ) → NotAJournal at ≡ NotAJournal place → at ≡ place
    placed at place is = cc
