-- What is printed of a world.
use Rattle.std.specs.Prelude.{◌≡◌, ℕ, nat_lt, Bool, false, ◌&&◌, is_some, List, ◌++◌, codes, Option, Some, None}
use Rattle.std.specs.List.{count_by, sum_by}
use Rattle.dsd_values.specs.declared.role.Role.{Role}
use Rattle.dsd_values.specs.declared.role.Role.TheVariants.{Receiver, Supplier}
use Rattle.dsd_record.specs.Version.{Version}
use Rattle.dsd_station.specs.Logged.{image_by}
use Rattle.dsd_journal.specs.declared.entry.Entry.{Entry}
use Rattle.dsd_journal.specs.declared.header.Header.{Header}
use Rattle.dsd_journal.specs.JournalImage.{Holds}
use Rattle.delivery_book.specs.Finals.{final_of}
use Rattle.delivery_book.specs.Lookups.{numbers_of}
use Rattle.delivery_book.specs.Signing.{Legal}
use Rattle.end_report.specs.Lines.{line}
use Rattle.end_report.specs.Reports.{are_final_at_both, report_text}
use Rattle.cable_world.specs.LastRuns.{last_run_of}
use Rattle.cable_world.specs.Scenes.{side}
use Rattle.cable_world.specs.Worlds.{WorldView, chooser_of, refused_by}
use Rattle.cable_world.specs.declared.world_report.WorldReport.{WorldReport}

abbrev pub heading : Role → List ℕ
heading Supplier = line (codes "HANDHELD")
heading Receiver = line (codes "RECEIVER")

-- the lines of one end under its heading, where its journal holds these entries
abbrev pub part_text : WorldView → Role → List Entry → List ℕ
part_text world role entries = heading role ++ report_text entries (chooser_of world.script role).drafts (refused_by world role) (last_run_of role world.noted)

-- ---- what is counted, where the journals of both ends hold these entries

abbrev pub is_final_at_both : List Entry → List Entry → List ℕ → Bool
is_final_at_both handheld receiver number = is_some (final_of handheld number) && is_some (final_of receiver number)

-- by the version at which a delivery is final
abbrev pub is_above_base : Option Version → Bool
is_above_base (Some version) = nat_lt 0 version.level
is_above_base None = false

-- final at both, and at a level above 0
abbrev pub is_adjusted_at_both : List Entry → List Entry → List ℕ → Bool
is_adjusted_at_both handheld receiver number = is_final_at_both handheld receiver number && is_above_base (final_of handheld number)

-- what the version at which a delivery is final comes to, and nothing where it is not
abbrev pub quantity_of : Option Version → ℕ
quantity_of (Some version) = version.totals.quantity
quantity_of None = 0

abbrev pub amount_of : Option Version → ℕ
amount_of (Some version) = version.totals.amount
amount_of None = 0

-- of all finals in a list of entries
abbrev pub total_quantity : List Entry → ℕ
total_quantity entries = sum_by (λ (number : List ℕ). quantity_of (final_of entries number)) (numbers_of entries)

abbrev pub total_amount : List Entry → ℕ
total_amount entries = sum_by (λ (number : List ℕ). amount_of (final_of entries number)) (numbers_of entries)

-- How many deliveries are final at both ends, how many of them above level 0, and what the handheld's finals come to.
pub record IsCounted (report : WorldReport) (handheld receiver : List Entry) : Type 0 where
  pub finals : report.finals ≡ count_by (is_final_at_both handheld receiver) (numbers_of handheld)
  pub adjusted : report.adjusted ≡ count_by (is_adjusted_at_both handheld receiver) (numbers_of handheld)
  pub quantity : report.quantity ≡ total_quantity handheld
  pub amount : report.amount ≡ total_amount handheld

-- ---- the report

-- the image that this end's station has is a journal of this role and holds these entries, which its signing rules allow
pub record IsLeftWith (world : WorldView) (role : Role) (entries : List Entry) : Type 0 where
  pub header : Header
  pub own : header.role ≡ role
  pub holds : Holds header entries (image_by (side world.scene role).log)
  pub legal : Legal role entries

-- The report of the books over the images that are left, and of how the steps show each end's last run.
pub record IsReportOf (world : WorldView) (report : WorldReport) : Type 0 where
  pub handheld : List Entry
  pub receiver : List Entry
  pub handheld_left : IsLeftWith world Supplier handheld
  pub receiver_left : IsLeftWith world Receiver receiver
  pub lines : report.lines.items ≡ part_text world Supplier handheld ++ part_text world Receiver receiver
  pub all_final : report.all_final ≡ are_final_at_both handheld receiver (chooser_of world.script Supplier).drafts
  pub counted : IsCounted report handheld receiver
