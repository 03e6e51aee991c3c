use Rattle.std.proofs.Common.{◌≡◌, length, false}
use Rattle.dex_handshake.specs.SessionSeen.{session_seen}
use Rattle.dsd_end.specs.BusyTurns.{BytesBusy}
use Rattle.dsd_end.specs.EndCalls.{MakesCalls}
use Rattle.dsd_end.specs.MachineSeen.{IsReady, standing_of}
use Rattle.dsd_end.specs.Standings.{has_ended}
use Rattle.dsd_end.proofs.PiecesThrough.{HeardOn}
use Rattle.dsd_end.proofs.machine.Machine.hear_bytes.Given as goal

abbrev pub invariant-loop-rest : goal.invariant-loop-rest
invariant-loop-rest g l = record {
  ready : IsReady l.self;
  goes_on : has_ended (session_seen l.self.session) ≡ false;
  counted : l.self.heard ≡ l.fn.self.heard;
  faults : g.T.Station.faults l.station ≡ g.T.Station.faults l.fn.station;
  calls : g.T.Station.tells → MakesCalls (g.T.Station.told l.fn.station) (g.T.Station.told l.station);
  busy : BytesBusy (g.D.Decider.chooser l.decider) (standing_of l.self) l.rest → BytesBusy (g.D.Decider.chooser l.decider) (standing_of l.fn.self) l.bytes;
  heard : HeardOn g.T.Station.tells (g.D.Decider.chooser l.decider) (standing_of l.fn.self) l.bytes l.rest (standing_of l.self) (g.T.Station.told l.fn.station) (g.T.Station.told l.station);
}

abbrev pub decreases-loop-rest : goal.decreases-loop-rest
decreases-loop-rest g l = length l.rest
