use Rattle.std.proofs.Common.{rules, Err, subst}
use Rattle.dsd_journal.specs.Devices.{Formats}
use Rattle.dex_cli.proofs.Attaching.{attaches_it, failed, made, not_empty}
use Rattle.dex_cli.proofs.formatting.make_journal.Goals as goal

-- src/formatting.rt:12:1
pub returns-in-Ok-clause-told : goal.returns-in-Ok-clause-told
returns-in-Ok-clause-told g c = λ tells. made c.args.new.now (g.T.Station.told c.args.station.now) (g.T.Station.told c.attach.new.self) (g.T.Station.told c.format.new.station) (attaches_it c.args.new.now (g.T.Station.told c.args.station.now) (g.T.Station.told c.attach.new.self) c.as_str.result.now c.attach.result c.as_str.ensures.value (search rules) (c.attach.ensures.told tells)) (c.in-Ok.ensures.told tells)

-- src/formatting.rt:12:1
pub returns-in-Err-NotEmpty-clause-told : goal.returns-in-Err-NotEmpty-clause-told
returns-in-Err-NotEmpty-clause-told g c = λ tells. not_empty c.args.new.now (g.T.Station.told c.args.station.now) (g.T.Station.told c.attach.new.self) (g.T.Station.told c.format.new.station) (attaches_it c.args.new.now (g.T.Station.told c.args.station.now) (g.T.Station.told c.attach.new.self) c.as_str.result.now c.attach.result c.as_str.ensures.value (search rules) (c.attach.ensures.told tells)) c.in-Err-NotEmpty.size (subst (λ fault. Formats c.args.new.now.header (Err fault) (g.T.Station.told c.attach.new.self) (g.T.Station.told c.format.new.station)) c.in-Err-NotEmpty.field-0-is (c.in-Err-NotEmpty.ensures.told tells))

-- src/formatting.rt:12:1
pub returns-in-Err-Station-clause-told : goal.returns-in-Err-Station-clause-told
returns-in-Err-Station-clause-told g c = (search rules, λ tells. failed c.args.new.now (g.T.Station.told c.args.station.now) (g.T.Station.told c.attach.new.self) (g.T.Station.told c.format.new.station) (attaches_it c.args.new.now (g.T.Station.told c.args.station.now) (g.T.Station.told c.attach.new.self) c.as_str.result.now c.attach.result c.as_str.ensures.value (search rules) (c.attach.ensures.told tells)) (subst (λ fault. Formats c.args.new.now.header (Err fault) (g.T.Station.told c.attach.new.self) (g.T.Station.told c.format.new.station)) c.in-Err-Station.field-0-is (c.in-Err-Station.ensures.told tells)))
