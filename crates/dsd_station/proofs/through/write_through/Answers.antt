use Rattle.std.proofs.Common.{subst}
use Rattle.dsd_station.specs.Effects.{Writes}
use Rattle.dsd_station.proofs.Putting.{puts_done, puts_failed}
use Rattle.dsd_station.proofs.through.write_through.Goals as goal

pub returns-in-Ok-clause-told : goal.returns-in-Ok-clause-told
returns-in-Ok-clause-told g c = λ tells.
    let told = g.T.Station.told in
    let old = told c.args.station.now in
    let mid = told c.write_at.new.self in
    let wrote = subst (λ r. Writes c.args.at c.args.bytes.now r old mid) c.in-Ok.is (c.write_at.ensures.told tells) in
    puts_done c.args.at c.args.bytes.now old (c.requires.synced tells) c.in-Ok.field-0 mid wrote c.sync.result (told c.sync.new.self) (c.sync.ensures.told tells)

pub returns-in-Err-clause-told : goal.returns-in-Err-clause-told
returns-in-Err-clause-told g c = λ tells.
    puts_failed c.args.at c.args.bytes.now (g.T.Station.told c.args.station.now) (c.requires.synced tells) c.in-Err.failed (g.T.Station.told c.write_at.new.self) (c.in-Err.ensures.told tells)
