-- What an opening and a poll that answer a fault tell of their calls and of the journal.
use Rattle.std.specs.Prelude.{◌≡◌, ℕ, ◌<◌, false, List, [], ◌∷◌, Result, Ok, Err}
use Rattle.dsd_values.specs.declared.role.Role.{Role}
use Rattle.dsd_record.specs.Choices.{Chooser}
use Rattle.dsd_station.specs.declared.call.Call.{Call}
use Rattle.dsd_station.specs.declared.call.Reception.{Reception}
use Rattle.dsd_station.specs.Failures.{failed_in}
use Rattle.dsd_station.specs.Heard.{answers_in}
use Rattle.dsd_journal.specs.declared.opening.OpenFault.{OpenFault}
use Rattle.dsd_journal.specs.declared.opening.OpenFault.TheVariants.{Memory, NotAJournal, Station}
use Rattle.delivery_book.specs.BookImages.{IsBookRefused}
use Rattle.dsd_end.specs.FullTurns.{HearsFull}
use Rattle.dsd_end.specs.Standings.{Standing}
use Rattle.cable_world.specs.Players.{PlayerView}

-- one of these calls failed, stopped the station, or was refused since it had stopped
abbrev pub HasFailed : List Call → Type 0
HasFailed part = 0 < failed_in part

-- In a poll from this standing, none of whose calls failed, an own turn came with what was heard: with the entry that it adds next the journal
-- would have so many bytes, which are too many.
pub record FindsFull (chooser : Chooser) (standing : Standing) (part : List Call) (length : ℕ) : Type 0 where
  pub heard : Reception
  pub full : HearsFull chooser standing heard length
  pub begun : standing.first ≡ false
  pub listened : answers_in part ≡ heard ∷ []
  pub fine : failed_in part ≡ 0

-- An opening that answers Ok had no failed call. Another one had, or the journal is no book of the end of this role.
abbrev pub TellsOpening : Role → Result PlayerView OpenFault → List Call → List ℕ → Type 0
TellsOpening role (Ok player) part journal = failed_in part ≡ 0
TellsOpening role (Err Station) part journal = HasFailed part
TellsOpening role (Err (NotAJournal place)) part journal = IsBookRefused role journal place
TellsOpening role (Err Memory) part journal = ⊥
