-- What contracts see of an end beside its decider, and what holds of it.
use Rattle.std.specs.Prelude.{◌≡◌, false}
use Rattle.delivery_book.specs.Books.{BookView}
use Rattle.dex_handshake.specs.LineTable.{Line, Ready, Bidding, Awaiting, SentAll, InText, Finished, Ended}
use Rattle.dsd_end.specs.EndFaults.{IsQuietSoFar}
use Rattle.dsd_end.specs.MachineSeen.{IsReady, standing_of}
use Rattle.dsd_end.specs.Polls.{with_flags}
use Rattle.dsd_end.specs.Standings.{Standing}
use Rattle.dsd_end.specs.declared.end.Turn.{Turn}
use Rattle.dsd_end.specs.declared.end.Turn.TheVariants as turns
use Rattle.dsd_end.specs.declared.end_core.EndCore.TheInside.{Inside}

-- what it carries from one poll to the next, and its book
pub record EndView : Type 0 where
  pub standing : Standing
  pub book : BookView

abbrev pub view_of : Inside → EndView
view_of core = record { standing = with_flags (standing_of core.machine) core.first core.failed; book = core.machine.desk.book }

-- While no call has answered a fault it can go on, and has not heard noise.
pub record IsWorking (core : Inside) : Type 0 where
  pub ready : core.failed ≡ false → IsReady core.machine
  pub quiet : core.failed ≡ false → IsQuietSoFar (standing_of core.machine)

-- what a poll answers where the line stands so
abbrev pub turn_at : Line → Turn
turn_at (Ended end) = turns.Ended end
turn_at (Ready own) = turns.Running
turn_at (Bidding own load) = turns.Running
turn_at (Awaiting own sending) = turns.Running
turn_at (SentAll own) = turns.Running
turn_at (InText own taking) = turns.Running
turn_at (Finished own text) = turns.Running
