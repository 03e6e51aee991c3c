use Rattle.std.proofs.Common.{◌≡◌, ◌≤◌, ◌+◌, ◌-◌, length}
use Rattle.dsd_values.specs.declared.limits.TheConstants.{SET_BYTES}
use Rattle.dsd_journal.specs.declared.limits.TheConstants.{JOURNAL_BYTES}
use Rattle.dsd_journal.specs.declared.pieces.TheConstants.{PIECE_BYTES}
use Rattle.dsd_journal.specs.Devices.{Looks}
use Rattle.dsd_journal.specs.Pieces.{IsCounted, IsRead}
use Rattle.dsd_journal.proofs.reading.read_entries.Given as goal

abbrev pub invariant-loop-fault : goal.invariant-loop-fault
invariant-loop-fault g l = record {
  counted : IsCounted l.reading;
  piece : length l.piece ≡ PIECE_BYTES;
  later : g.T.Station.faults l.fn.station ≤ g.T.Station.faults l.station;
  kept : g.T.Station.faults l.station ≡ g.T.Station.faults l.fn.station;
  read : g.T.Station.tells → IsRead (g.T.Station.told l.fn.station).journal l.reading;
  told : g.T.Station.tells → Looks ⊥ (g.T.Station.told l.fn.station) (g.T.Station.told l.station);
}

abbrev pub decreases-loop-fault : goal.decreases-loop-fault
decreases-loop-fault g l = JOURNAL_BYTES + SET_BYTES + 6 - l.reading.at
