use Rattle.dsd_journal.proofs.Gating.{opened_one, opened_two}
use Rattle.dsd_journal.proofs.steps.open_gate.Goals as goal

pub returns-in-Ok-clause-told : goal.returns-in-Ok-clause-told
returns-in-Ok-clause-told g c = λ tells.
    opened_two c.args.gate c.args.bytes.now (g.T.Station.told c.args.station.now) c.in-Ok.field-0 c.write_through-in-Ok.result (g.T.Station.told c.write_through.new.station) (g.T.Station.told c.write_through-in-Ok.new.station)
    (c.in-Ok.ensures.told tells) (c.write_through-in-Ok.ensures.told tells)

pub returns-in-Err-clause-told : goal.returns-in-Err-clause-told
returns-in-Err-clause-told g c = λ tells. opened_one c.args.gate c.args.bytes.now (g.T.Station.told c.args.station.now) c.in-Err.failed (g.T.Station.told c.write_through.new.station) (c.in-Err.ensures.told tells)
