use Rattle.dsd_end.specs.FullTurns.{PollFull}
use Rattle.dsd_end.proofs.Filling.{end_full_as}
use Rattle.dsd_end.specs.declared.end.Turn.{Turn}
use Rattle.dsd_end.proofs.end.End.poll.Goals as goal

pub returns-in-Err-clause-full : goal.returns-in-Err-clause-full
returns-in-Err-clause-full g c =
    end_full_as (Unit {0}) Turn (PollFull g.T.Station.tells (g.D.Decider.chooser c.args.self.now.decider) c.args.self.now.core.standing (g.T.Station.told c.args.station.now) (g.T.Station.told c.poll.new.station)) c.in-Err.fault
    c.in-Err.ensures.full
