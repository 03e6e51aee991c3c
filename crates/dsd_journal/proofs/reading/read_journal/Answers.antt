use Rattle.std.proofs.Common.{ℕ, List, subst}
use Rattle.dsd_journal.specs.FirstBad.{IsRefused}
use Rattle.dsd_journal.proofs.Looking.{looks_then}
use Rattle.dsd_journal.proofs.reading.read_journal.Goals as goal

pub returns-in-Err-read_entries-clause-refused : goal.returns-in-Err-read_entries-clause-refused
returns-in-Err-read_entries-clause-refused g c = λ tells place is.
    subst (λ (image : List ℕ). IsRefused image place) (c.in-Ok.ensures.told tells).untouched.journal (c.in-Err-read_entries.ensures.refused tells place is)

pub returns-in-Err-read_entries-clause-told : goal.returns-in-Err-read_entries-clause-told
returns-in-Err-read_entries-clause-told g c = λ tells.
    looks_then ⊥ _ (g.T.Station.told c.args.station.now) (g.T.Station.told c.read_head.new.station) (g.T.Station.told c.read_entries.new.station) (c.in-Ok.ensures.told tells) (λ f. f) (c.in-Err-read_entries.ensures.told tells)

pub returns-in-Ok-read_entries-clause-told : goal.returns-in-Ok-read_entries-clause-told
returns-in-Ok-read_entries-clause-told g c = λ tells.
    looks_then ⊥ ⊥ (g.T.Station.told c.args.station.now) (g.T.Station.told c.read_head.new.station) (g.T.Station.told c.read_entries.new.station) (c.in-Ok.ensures.told tells) (λ f. f) (c.in-Ok-read_entries.ensures.told tells)
