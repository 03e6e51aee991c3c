-- What contracts see of the machine of an end.
use Rattle.std.specs.Prelude.{◌≡◌, true, false, []}
use Rattle.dex_handshake.specs.LineTable.{Line}
use Rattle.dex_handshake.specs.SessionSeen.{session_seen}
use Rattle.dex_handshake.specs.Sound.{IsSayable}
use Rattle.dsd_journal.specs.Headers.{IsHeader}
use Rattle.own_turn.specs.Desks.{DeskView, desk_of}
use Rattle.dsd_end.specs.Standings.{Standing}
use Rattle.dsd_end.specs.declared.machine.Machine.{Machine}

-- its standing, where no first poll is still to come and no fault was answered
abbrev pub standing_of : Machine → Standing
standing_of machine = record {
  header = machine.desk.book.header;
  line = session_seen machine.session;
  begun = machine.scanner;
  desk = desk_of machine.desk;
  heard = machine.heard;
  first = false;
  failed = false;
}

-- It can go on: its book works, all that it knows stands in the journal, and what it is sending can be spelled.
pub record CanGoOn (desk : DeskView) (line : Line) : Type 0 where
  pub works : desk.book.works ≡ true
  pub flushed : desk.book.staged ≡ []
  pub known : desk.book.known ≡ desk.book.entries
  pub titled : IsHeader desk.book.header
  pub sayable : IsSayable desk.book.header.own line

abbrev pub IsReady : Machine → Type 0
IsReady machine = CanGoOn machine.desk (session_seen machine.session)
