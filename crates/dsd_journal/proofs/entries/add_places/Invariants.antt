use Rattle.std.proofs.Common.{◌≡◌, ◌+◌, ◌++◌, drop, length, vec_capacity, vec_len}
use Rattle.dsd_journal.specs.JournalImage.{spelled}
use Rattle.dsd_journal.specs.Kept.{places_from}
use Rattle.dsd_journal.proofs.entries.add_places.Given as goal

abbrev pub invariant-loop-entry : goal.invariant-loop-entry
invariant-loop-entry l = record {
  places : l.places.items ++ places_from l.next (drop l.entry-index l.more) ≡ l.fn.places.items ++ places_from l.fn.gate l.more;
  next : l.next + length (spelled (drop l.entry-index l.more)) ≡ l.fn.gate + length (spelled l.more);
  len : vec_len l.places + length (drop l.entry-index l.more) ≡ vec_len l.fn.places + length l.more;
  capacity : vec_capacity l.places ≡ vec_capacity l.fn.places;
}
