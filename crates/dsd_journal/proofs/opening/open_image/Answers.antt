use Rattle.std.proofs.Common.{List, sym, subst}
use Rattle.dsd_journal.specs.declared.entry.Entry.{Entry}
use Rattle.dsd_journal.specs.declared.header.Header.{Header}
use Rattle.dsd_journal.specs.JournalImage.{Holds}
use Rattle.dsd_journal.proofs.opening.open_image.Goals as goal

pub returns-clause-held : goal.returns-clause-held
returns-clause-held g c = λ tells.
    let image = (g.T.Station.told c.args.station.now).journal in
    let reading = c.in-Ok-read_journal.reading in
    subst (λ (es : List Entry). Holds c.holding.result.header es image) (sym c.holding.ensures.entries)
    (subst (λ (h : Header). Holds h reading.entries.list image) (sym c.holding.ensures.header) (c.in-Ok-read_journal.ensures.held tells))
