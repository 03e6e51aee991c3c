-- The calls that a station in memory only notes: its bytes stay as they were.
use Rattle.std.specs.Prelude.{◌≤◌, ◌≡◌, length, None}
use Rattle.dsd_station.specs.declared.call.Outcome.TheVariants.{Done, Failing, Stopped}
use Rattle.dsd_station.specs.declared.call.Call.{Call}
use Rattle.dsd_station.specs.declared.call.Call.TheVariants.{Attach, Size, Read, Write, Sync, Listen, Speak, Restart}
use Rattle.dsd_station.specs.Replayed.{State}

abbrev pub IsNote : State → Call → Type 0
IsNote s (Attach journal port answer) = Unit {0}
IsNote s (Size answer) = Unit {0}
IsNote s (Read at room answer) = Unit {0}
IsNote s (Write at bytes Done) = ⊥
IsNote s (Write at bytes Failing) = Unit {0}
IsNote s (Write at bytes (Stopped pick)) = ⊥
IsNote s (Sync Done) = ⊥
IsNote s (Sync Failing) = Unit {0}
IsNote s (Sync (Stopped pick)) = ⊥
IsNote s (Listen answer) = Unit {0}
IsNote s (Speak bytes Done) = ⊥
IsNote s (Speak bytes Failing) = Unit {0}
IsNote s (Speak bytes (Stopped pick)) = ⊥
IsNote s Restart = s.left ≡ None

-- When a call can stand in a record: a write within the journal, and a sync that went well while the station works.
abbrev pub Fits : State → Call → Type 0
Fits s (Attach journal port answer) = Unit {0}
Fits s (Size answer) = Unit {0}
Fits s (Read at room answer) = Unit {0}
Fits s (Write at bytes outcome) = at ≤ length s.journal
Fits s (Sync Done) = s.left ≡ None
Fits s (Sync Failing) = Unit {0}
Fits s (Sync (Stopped pick)) = Unit {0}
Fits s (Listen answer) = Unit {0}
Fits s (Speak bytes outcome) = Unit {0}
Fits s Restart = Unit {0}
