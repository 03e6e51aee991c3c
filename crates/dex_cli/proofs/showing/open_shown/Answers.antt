use Rattle.dsd_journal.specs.Devices.{IsStationFault}
use Rattle.dsd_journal.proofs.Looking.{keeps_then}
use Rattle.dex_cli.proofs.Rereading.{alone_then, not_a_journal, opening_alone, unfailed_both}
use Rattle.dex_cli.proofs.showing.open_shown.Goals as goal

pub returns-in-Ok-clause-refused : goal.returns-in-Ok-clause-refused
returns-in-Ok-clause-refused g c = λ tells place is.
    not_a_journal c.in-Ok.journal.header c.in-Ok.journal.entries c.role.result (g.T.Station.told c.args.station.now).journal (g.T.Station.told c.open_journal.new.station).journal place
    c.role.ensures (c.in-Ok.ensures.told tells).journal (c.in-Ok.ensures.ok tells).holds (c.open_book.ensures.refused tells place is)

pub returns-in-Ok-clause-unfailed : goal.returns-in-Ok-clause-unfailed
returns-in-Ok-clause-unfailed g c = λ tells.
    unfailed_both (IsStationFault c.open_book.result) (g.T.Station.told c.args.station.now) (g.T.Station.told c.open_journal.new.station) (g.T.Station.told c.open_book.new.station)
    (c.in-Ok.ensures.unfailed tells) (c.open_book.ensures.unfailed tells)

pub returns-in-Ok-clause-alone : goal.returns-in-Ok-clause-alone
returns-in-Ok-clause-alone g c = λ tells.
    alone_then (g.T.Station.told c.args.station.now) (g.T.Station.told c.open_journal.new.station) (g.T.Station.told c.open_book.new.station)
    (opening_alone _ (g.T.Station.told c.args.station.now) (g.T.Station.told c.open_journal.new.station) (c.in-Ok.ensures.told tells))
    (opening_alone _ (g.T.Station.told c.open_journal.new.station) (g.T.Station.told c.open_book.new.station) (c.open_book.ensures.told tells))

pub returns-in-Ok-clause-talk : goal.returns-in-Ok-clause-talk
returns-in-Ok-clause-talk g c = λ tells.
    keeps_then (g.T.Station.told c.args.station.now) (g.T.Station.told c.open_journal.new.station) (g.T.Station.told c.open_book.new.station)
    (c.in-Ok.ensures.told tells).keeps (c.open_book.ensures.told tells).keeps

pub returns-in-Err-clause-alone : goal.returns-in-Err-clause-alone
returns-in-Err-clause-alone g c = λ tells. opening_alone _ (g.T.Station.told c.args.station.now) (g.T.Station.told c.open_journal.new.station) (c.in-Err.ensures.told tells)
