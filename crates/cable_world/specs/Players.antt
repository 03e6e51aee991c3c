-- What contracts see of an end that runs.
use Rattle.std.specs.Prelude.{◌≡◌, ◌⊎◌, ℕ, List, Result, Err, IfOk}
use Rattle.dsd_values.specs.declared.role.Role.{Role}
use Rattle.dsd_station.specs.Told.{Told}
use Rattle.dsd_journal.specs.Devices.{IsStationFault, Opens, Unfailed, since}
use Rattle.dsd_journal.specs.Journals.{Rests}
use Rattle.dsd_journal.specs.declared.opening.OpenFault.{OpenFault}
use Rattle.dsd_journal.specs.declared.opening.OpenFault.TheVariants.{NotAJournal}
use Rattle.delivery_book.specs.BookImages.{IsBookRefused}
use Rattle.delivery_book.specs.Signing.{Legal}
use Rattle.dsd_record.specs.Choices.{Chooser}
use Rattle.delivery_book.specs.Books.{BookView}
use Rattle.dsd_end.specs.RunSoFar.{Runs}
use Rattle.dsd_end.specs.Standings.{Standing, first_standing}
use Rattle.handheld_core.specs.Choosing.{supplier}
use Rattle.handheld_core.specs.declared.draft.Draft.{Draft}
use Rattle.receiver_core.specs.Choosing.{receiver}
use Rattle.receiver_core.specs.declared.count.Count.{Count}
use Rattle.cable_world.specs.declared.player.AnyEnd.{AnyEnd}
use Rattle.cable_world.specs.declared.player.AnyEnd.TheVariants.{Handheld, Receiver}

-- what an end chooses by
pub data Choices : Type 0 where
  ByDrafts : (drafts : List Draft) → Choices
  ByCounts : (counts : List Count) → Choices

abbrev pub chooser_by : Choices → Chooser
chooser_by (ByDrafts drafts) = supplier drafts
chooser_by (ByCounts counts) = receiver counts

-- an end that runs: its choices, what it carries from one poll to the next, and its book
pub record PlayerView : Type 0 where
  pub choices : Choices
  pub standing : Standing
  pub book : BookView

abbrev pub player_of : AnyEnd → PlayerView
player_of (Handheld end) = record { choices = ByDrafts end.decider; standing = end.core.standing; book = end.core.book }
player_of (Receiver end) = record { choices = ByCounts end.decider; standing = end.core.standing; book = end.core.book }

-- An end of this role was opened by these choices, or not: whatever it answers, nothing is written or said. Where it went well the entries are those that
-- the image holds, it stands first over them, and a run begins.
pub record IsOpenedBy (role : Role) (chooser : Chooser) (player : PlayerView) (old new : Told) : Type 0 where
  pub chooser_is : chooser_by player.choices ≡ chooser
  pub role_is : player.book.header.role ≡ role
  pub legal : Legal role player.book.entries
  pub known : player.book.known ≡ player.book.entries
  pub standing : player.standing ≡ first_standing player.book.header player.book.entries
  pub rests : Rests player.book.header player.book.entries new
  pub runs : Runs chooser player.book.entries (since old) player.standing new

pub record HasOpened (role : Role) (chooser : Chooser) (result : Result PlayerView OpenFault) (old new : Told) : Type 0 where
  pub opens : Opens (IsStationFault result) old new
  pub unfailed : IsStationFault result ⊎ Unfailed old new
  pub refused : (place : ℕ) → result ≡ Err (NotAJournal place) → IsBookRefused role old.journal place
  pub ok : IfOk result (λ player. IsOpenedBy role chooser player old new)
