-- When an end can be polled over a station in memory.
use Rattle.std.specs.Prelude.{◌≡◌, false}
use Rattle.dsd_station.specs.Logged.{Log, told_by}
use Rattle.dsd_journal.specs.Journals.{Rests}
use Rattle.dsd_end.specs.EndSeen.{EndView}

-- While no call of it has answered a fault, the journal holds what its book knows.
abbrev pub CanPoll : EndView → Log → Type 0
CanPoll core log = core.standing.failed ≡ false → Rests core.book.header core.book.known (told_by log)
