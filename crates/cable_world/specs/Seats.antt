-- What contracts see of one end at its station in memory.
use Rattle.std.specs.Prelude.{◌≡◌, ℕ, Bool, true, false, is_some, List, ◌++◌, Option, Some, None, IsSome, ⊤}
use Rattle.dsd_station.specs.Logged.{Log, image_by}
use Rattle.dsd_journal.specs.JournalImage.{Holds}
use Rattle.cable_world.specs.Players.{PlayerView}
use Rattle.cable_world.specs.Scenes.{Side}
use Rattle.cable_world.specs.declared.answer.Answer.{Answer}
use Rattle.cable_world.specs.declared.answer.Answer.TheVariants.{Broken, Ended, NotOpened, Opened, Running}
use Rattle.cable_world.specs.declared.seat.Seat.TheInside.{Inside}

-- its station, the end where it runs, the frames that it has spoken whole, and how many sets it has refused in its last run
pub record SeatView : Type 0 where
  pub log : Log
  pub player : Option PlayerView
  pub spoken : List (List ℕ)
  pub refused : ℕ

abbrev pub with_log : SeatView → Log → SeatView
with_log seat log = record { log = log; player = seat.player; spoken = seat.spoken; refused = seat.refused }

abbrev pub without_player : SeatView → SeatView
without_player seat = record { log = seat.log; player = None; spoken = seat.spoken; refused = seat.refused }

-- an end that does not run is let go
abbrev pub settled : Bool → SeatView → SeatView
settled true seat = seat
settled false seat = without_player seat

-- these frames were spoken besides
abbrev pub with_spoken : SeatView → List (List ℕ) → SeatView
with_spoken seat frames = record { log = seat.log; player = seat.player; spoken = seat.spoken ++ frames; refused = seat.refused }

-- with this end, which has refused nothing yet
abbrev pub with_player : SeatView → Option PlayerView → SeatView
with_player seat player = record { log = seat.log; player = player; spoken = seat.spoken; refused = 0 }

abbrev pub side_of : SeatView → Side
side_of seat = record { log = seat.log; runs = is_some seat.player; spoken = seat.spoken }

abbrev pub seat_of : Inside → SeatView
seat_of seat = record { log = seat.station; player = seat.player; spoken = seat.spoken.items; refused = seat.refused }

-- ---- an end whose session has ended

-- The image holds what its book knows.
abbrev pub RestsAt : PlayerView → Log → Type 0
RestsAt player log = Holds player.book.header player.book.known (image_by log)

abbrev pub EndedRests : Option PlayerView → Log → Type 0
EndedRests None log = ⊤
EndedRests (Some player) log = RestsAt player log

-- where it is answered that the session has ended, the end rests
abbrev pub RestsIfEnded : Answer → Option PlayerView → Log → Type 0
RestsIfEnded Opened player log = ⊤
RestsIfEnded (NotOpened fault) player log = ⊤
RestsIfEnded Running player log = ⊤
RestsIfEnded (Ended end) player log = EndedRests player log
RestsIfEnded (Broken fault) player log = ⊤

-- Beside an end that runs there is none whose session has ended, and one whose session has ended rests.
pub record IsSeat (seat : Inside) : Type 0 where
  pub alone : IsSome seat.player → seat.ended ≡ None
  pub rests : EndedRests seat.ended seat.station
