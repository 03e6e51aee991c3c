use Rattle.std.proofs.Common.{◌≡◌, List, false}
use Rattle.dsd_station.specs.Told.{ReadMayStay, Told}
use Rattle.dsd_journal.specs.Journals.{Rests}
use Rattle.dsd_journal.specs.declared.entry.Entry.{Entry}
use Rattle.dsd_end.specs.EndCalls.{MakesCalls}
use Rattle.dsd_end.specs.Patience.{patience}
use Rattle.dsd_end.specs.Polls.{HearsMore}
use Rattle.dsd_end.specs.RunSoFar.{Runs}
use Rattle.dsd_end.proofs.PollsJoined.{PolledSoFar}
use Rattle.dsd_end.proofs.end.End.run.Given as goal

abbrev pub invariant-loop-end : goal.invariant-loop-end
invariant-loop-end g l = record {
  decider : g.D.Decider.chooser l.self.decider ≡ g.D.Decider.chooser l.fn.self.decider;
  rests : g.T.Station.tells → l.self.core.standing.failed ≡ false → Rests l.self.core.book.header l.self.core.book.known (g.T.Station.told l.station);
  faults : g.T.Station.faults l.station ≡ g.T.Station.faults l.fn.station;
  header : l.self.core.book.header ≡ l.fn.self.core.book.header;
  failing : l.self.core.standing.failed ≡ l.fn.self.core.standing.failed;
  talk : g.T.Station.tells → HearsMore (g.T.Station.told l.fn.station) (g.T.Station.told l.station);
  calls : g.T.Station.tells → MakesCalls (g.T.Station.told l.fn.station) (g.T.Station.told l.station);
  stays : g.T.Station.tells → ReadMayStay (g.T.Station.told l.fn.station) → ReadMayStay (g.T.Station.told l.station);
  steps : PolledSoFar g.T.Station.tells (g.D.Decider.chooser l.fn.self.decider) l.fn.self.core.standing l.self.core.standing (g.T.Station.told l.fn.station) (g.T.Station.told l.station);
  runs : g.T.Station.tells → (first : List Entry) (beginning : Told) → Runs (g.D.Decider.chooser l.fn.self.decider) first beginning l.fn.self.core.standing (g.T.Station.told l.fn.station)
      → Runs (g.D.Decider.chooser l.fn.self.decider) first beginning l.self.core.standing (g.T.Station.told l.station);
}

abbrev pub decreases-loop-end : goal.decreases-loop-end
decreases-loop-end g l = patience l.self.core.standing
