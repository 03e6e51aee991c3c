use Rattle.std.proofs.Common.{◌≡◌, ◌≤◌, ◌-◌, length, vec_len}
use Rattle.dsd_journal.specs.declared.limits.TheConstants.{HEADER_BYTES}
use Rattle.dsd_journal.specs.declared.pieces.TheConstants.{PIECE_BYTES}
use Rattle.dsd_journal.specs.Devices.{Looks}
use Rattle.dsd_journal.specs.Pieces.{IsSoFar}
use Rattle.dsd_journal.proofs.pieces.read_front.Given as goal

abbrev pub invariant-loop-at : goal.invariant-loop-at
invariant-loop-at g l = record {
  len : vec_len l.bytes ≡ l.at;
  piece : length l.piece ≡ PIECE_BYTES;
  later : g.T.Station.faults l.fn.station ≤ g.T.Station.faults l.station;
  kept : g.T.Station.faults l.station ≡ g.T.Station.faults l.fn.station;
  bytes : g.T.Station.tells → IsSoFar (g.T.Station.told l.fn.station).journal l.at l.bytes.items;
  told : g.T.Station.tells → Looks ⊥ (g.T.Station.told l.fn.station) (g.T.Station.told l.station);
}

abbrev pub decreases-loop-at : goal.decreases-loop-at
decreases-loop-at g l = HEADER_BYTES - l.at
