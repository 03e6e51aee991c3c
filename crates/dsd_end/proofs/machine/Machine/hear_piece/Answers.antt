use Rattle.std.proofs.Common.{◌+◌, length, refl}
use Rattle.dsd_end.specs.MachineSeen.{standing_of}
use Rattle.dsd_end.proofs.PiecesThrough.{piece_comes, piece_steps}
use Rattle.dsd_end.proofs.machine.Machine.hear_piece.Goals as goal

pub returns-in-Ok-clause-step : goal.returns-in-Ok-clause-step
returns-in-Ok-clause-step g c =
    let at = standing_of c.hear_bytes.new.self in
    piece_steps g.T.Station.tells (g.D.Decider.chooser c.args.decider.now) (standing_of c.args.self.now) at (record at { heard = at.heard + length c.args.bytes.now }) c.args.bytes.now (g.T.Station.told c.args.station.now)
    (g.T.Station.told c.hear_bytes.new.station) refl c.in-Ok.ensures.step

pub returns-in-Ok-clause-leaves : goal.returns-in-Ok-clause-leaves
returns-in-Ok-clause-leaves g c = λ tells first before heard so.
    let ch = g.D.Decider.chooser c.args.decider.now in
    let at = standing_of c.hear_bytes.new.self in
    let was = c.in-Ok.ensures.leaves tells first before heard so in (
      was.0,
      piece_comes g.T.Station.tells ch (standing_of c.args.self.now) at (record at { heard = at.heard + length c.args.bytes.now }) c.args.bytes.now (g.T.Station.told c.args.station.now)
          (g.T.Station.told c.hear_bytes.new.station) refl first before heard was.1,
    )
