-- What finishing does to two ends on one cable.
use Rattle.std.specs.Prelude.{◌≡◌, ℕ, true, false, if◌then◌else◌, List, [], ◌∷◌, ◌++◌, Option, None, Result, Err}
use Rattle.dsd_values.specs.declared.role.Role.{Role}
use Rattle.dsd_values.specs.declared.role.Role.TheVariants.{Receiver, Supplier}
use Rattle.dsd_station.specs.declared.call.Call.{Call}
use Rattle.dsd_station.specs.ByPlan.{fail_off, stop_off}
use Rattle.dsd_station.specs.Logged.{Log, image_by}
use Rattle.dsd_station.specs.Replayed.{state_of}
use Rattle.dsd_journal.specs.declared.entry.Entry.{Entry}
use Rattle.dsd_journal.specs.declared.header.Header.{Header}
use Rattle.dsd_journal.specs.JournalImage.{Holds}
use Rattle.delivery_book.specs.Books.{BookView}
use Rattle.delivery_book.specs.Signing.{Legal}
use Rattle.end_report.specs.declared.ending.LastRun.{LastRun}
use Rattle.end_report.specs.Reports.{are_final_at_both, report_text}
use Rattle.cable_world.specs.Cables.{IsStepIn, cable_of, part_in, seat}
use Rattle.cable_world.specs.LastRuns.{last_behind, last_run_of}
use Rattle.cable_world.specs.Settings.{chooser_at}
use Rattle.cable_world.specs.Steps.{same_role}
use Rattle.cable_world.specs.WorldReports.{IsCounted, heading}
use Rattle.cable_world.specs.declared.cable.Cable.{Cable}
use Rattle.cable_world.specs.declared.left_book.Keeper.{Keeper}
use Rattle.cable_world.specs.declared.left_book.Keeper.TheVariants.{Ended, Opened}
use Rattle.cable_world.specs.StepsKept.{StepView}
use Rattle.cable_world.specs.declared.world_report.WorldReport.{WorldReport}

-- ---- a station

-- a book of this end over the image, as it was opened
pub record IsOver (role : Role) (image : List ℕ) (book : BookView) : Type 0 where
  pub own : book.header.role ≡ role
  pub holds : Holds book.header book.known image
  pub legal : Legal role book.known
  pub unchanged : book.known ≡ book.entries

-- the image holds the journal of this end, with legal entries
pub record HoldsBook (role : Role) (image : List ℕ) : Type 0 where
  pub header : Header
  pub entries : List Entry
  pub own : header.role ≡ role
  pub holds : Holds header entries image
  pub legal : Legal role entries

-- a book of this end that knows what its journal has, and no more
pub record IsWhole (role : Role) (book : BookView) : Type 0 where
  pub own : book.header.role ≡ role
  pub legal : Legal role book.known
  pub unchanged : book.known ≡ book.entries

-- whoever has it
abbrev pub book_in : Keeper → BookView
book_in (Ended player) = player.book
book_in (Opened book) = book

-- A station that works, on which nothing is armed that has not fallen.
pub record IsUnarmed (log : Log) : Type 0 where
  pub unstarved : log.starved ≡ false
  pub works : (state_of log.calls).left ≡ None
  pub failure : fail_off log.plan.failure log.calls ≡ 0
  pub stop : stop_off log.plan.stop log.calls ≡ 0

-- ---- how the last run of one end came out, by its steps and its record

abbrev pub last_after : Role → List Call → LastRun → StepView → LastRun
last_after role calls before step = if same_role role step.role then last_behind before step.answer (part_in calls step) else before

abbrev pub last_along : Role → List Call → LastRun → List StepView → LastRun
last_along role calls before [] = before
last_along role calls before (step ∷ steps) = last_along role calls (last_after role calls before step) steps

-- each step of this end is a part of its record
abbrev pub AreStepsOf : Role → List Call → List StepView → Type 0
AreStepsOf role calls [] = Unit {0}
AreStepsOf role calls (step ∷ steps) = (same_role role step.role ≡ true → IsStepIn calls step) × AreStepsOf role calls steps

-- ---- two ends

-- what is printed of this end, whose journal has these entries
abbrev pub part_of : Cable → Role → List Entry → List ℕ
part_of cable role entries =
    heading role ++ report_text entries (chooser_at cable.setting role).drafts (seat (cable_of cable) role).refused (last_run_of role (cable_of cable).noted)

-- the report of these books and of how the steps show each end's last run
pub record Tells (report : WorldReport) (cable : Cable) (handheld receiver : BookView) : Type 0 where
  pub lines : report.lines.items ≡ part_of cable Supplier handheld.known ++ part_of cable Receiver receiver.known
  pub all_final : report.all_final ≡ are_final_at_both handheld.known receiver.known (chooser_at cable.setting Supplier).drafts
  pub counted : IsCounted report handheld.known receiver.known

-- The images are as they were, and of each end the report is that of a book over its image.
pub record Finishes (report : WorldReport) (old new : Cable) : Type 0 where
  pub handheld : BookView
  pub receiver : BookView
  pub handheld_over : IsOver Supplier (image_by old.handheld.log) handheld
  pub receiver_over : IsOver Receiver (image_by old.receiver.log) receiver
  pub tells : Tells report new handheld receiver
  pub handheld_image : image_by new.handheld.log ≡ image_by old.handheld.log
  pub receiver_image : image_by new.receiver.log ≡ image_by old.receiver.log
  pub handheld_refused : new.handheld.refused ≡ old.handheld.refused
  pub receiver_refused : new.receiver.refused ≡ old.receiver.refused
  pub setting : new.setting ≡ old.setting
  pub noted : (cable_of new).noted ≡ (cable_of old).noted
