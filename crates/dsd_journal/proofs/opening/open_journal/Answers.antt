use Rattle.std.proofs.Common.{ℕ, List, refl, subst}
use Rattle.dsd_journal.specs.declared.opening.OpenFault.TheVariants.{NotAJournal}
use Rattle.dsd_journal.specs.FirstBad.{IsRefused}
use Rattle.dsd_journal.proofs.Synced.{opens, opens_not, if_err}
use Rattle.dsd_journal.proofs.opening.open_journal.Goals as goal

pub returns-in-Ok-clause-refused : goal.returns-in-Ok-clause-refused
returns-in-Ok-clause-refused g c = λ tells place is.
    subst (λ (image : List ℕ). IsRefused image place) (c.in-Ok.ensures.told tells).ok.0.journal (if_err _ _ c.open_image.result _ (NotAJournal place) (c.open_image.ensures.refused tells) is place refl)

pub returns-in-Ok-clause-told : goal.returns-in-Ok-clause-told
returns-in-Ok-clause-told g c = λ tells.
    opens (g.T.Station.told c.args.station.now) (g.T.Station.told c.sync.new.self) (g.T.Station.told c.open_image.new.station) c.in-Ok.field-0 _ (c.in-Ok.ensures.told tells) (c.open_image.ensures.told tells)

pub returns-in-Err-clause-told : goal.returns-in-Err-clause-told
returns-in-Err-clause-told g c = λ tells. opens_not (g.T.Station.told c.args.station.now) (g.T.Station.told c.sync.new.self) c.in-Err.field-0 (c.in-Err.ensures.told tells) _ refl
