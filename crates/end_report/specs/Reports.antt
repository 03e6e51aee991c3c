-- What is printed of an end.
use Rattle.std.specs.Prelude.{ℕ, ◌/◌, ◌%◌, ◌==◌, if◌then◌else◌, ℤ, Bool, ◌&&◌, is_some, List, [], ◌∷◌, ◌++◌, length, codes, Option, Some, None}
use Rattle.std.specs.Fmt.{decimal, signed_decimal}
use Rattle.std.specs.List.{flat_map, list_all}
use Rattle.dsd_values.specs.Writing.{day_text, two_digits}
use Rattle.dsd_values.specs.declared.flag.Flag.{Flag}
use Rattle.dsd_values.specs.declared.flag.Flag.TheVariants.{Debit, Credit}
use Rattle.dsd_values.specs.declared.line.Line.{Line}
use Rattle.dsd_pricing.specs.Pricing.{priced}
use Rattle.dsd_pricing.specs.declared.amounts.Totals.{Totals}
use Rattle.base_record_894.specs.BaseRecord.{BaseRecord}
use Rattle.dsd_record.specs.Version.{Version}
use Rattle.dsd_journal.specs.declared.entry.Entry.{Entry}
use Rattle.delivery_book.specs.Finals.{final_of}
use Rattle.delivery_book.specs.Lookups.{numbers_of, seen_of}
use Rattle.dex_handshake.specs.declared.session_end.SessionEnd.{SessionEnd}
use Rattle.dex_handshake.specs.declared.session_end.SessionEnd.TheVariants as sessions
use Rattle.end_report.specs.Lines.{both, line}
use Rattle.end_report.specs.declared.ending.Ending.{Ending}
use Rattle.end_report.specs.declared.ending.Ending.TheVariants as endings
use Rattle.end_report.specs.declared.ending.LastRun.{LastRun}
use Rattle.end_report.specs.declared.ending.LastRun.TheVariants as runs

-- ---- a line of a delivery

-- units of money with four decimals, of a cost in ten-thousandths
abbrev pub money_text : ℕ → List ℕ
money_text cost = decimal (cost / 10_000) ++ (46 ∷ []) ++ two_digits (cost % 10_000 / 100) ++ two_digits (cost % 100)

-- what a line comes to in cents: its extension, and what its own allowances change of it
abbrev pub net_of : Line → ℤ
net_of item = priced (item ∷ []) []

-- its number and quantity
abbrev pub item_name : Line → List ℕ
item_name item = both (codes "ITEM") (both (decimal item.dsd) (decimal item.quantity))

-- its cost, and what it comes to
abbrev pub worth_text : Line → List ℕ
worth_text item = both (money_text item.cost) (signed_decimal (net_of item))

unfoldable pub item_line : Line → List ℕ
item_line item = line (both (item_name item) (worth_text item))

-- ---- a delivery

abbrev pub flag_text : Flag → List ℕ
flag_text Debit = codes "D"
flag_text Credit = codes "C"

abbrev pub final_name : Version → List ℕ
final_name version = both (codes "FINAL") (both version.number (both (flag_text version.flag) (day_text version.day)))

-- the level and the number of lines
abbrev pub size_text : Version → List ℕ
size_text version = both (both (codes "LEVEL") (decimal version.level)) (both (codes "LINES") (decimal (length version.lines)))

abbrev pub totals_text : Totals → List ℕ
totals_text totals = both (both (codes "QUANTITY") (decimal totals.quantity)) (both (codes "AMOUNT") (decimal totals.amount))

abbrev pub heading : Version → List ℕ
heading version = both (final_name version) (both (size_text version) (totals_text version.totals))

-- a final version, and each of its lines
unfoldable pub final_text : Version → List ℕ
final_text version = line (heading version) ++ flat_map item_line version.lines

-- a delivery that is not final, and the level of its highest proposal
unfoldable pub open_text : List ℕ → Version → List ℕ
open_text number version = line (both (both (codes "OPEN") number) (both (codes "LEVEL") (decimal version.level)))

abbrev pub standing_text : List ℕ → Option Version → Option Version → List ℕ
standing_text number (Some version) seen = final_text version
standing_text number None (Some version) = open_text number version
standing_text number None None = []

-- a delivery of these entries; each has a version that its highest proposal makes
abbrev pub delivery_text : List Entry → List ℕ → List ℕ
delivery_text entries number = standing_text number (final_of entries number) (seen_of entries number)

-- the deliveries in the order of their first entries
abbrev pub deliveries_text : List Entry → List ℕ
deliveries_text entries = flat_map (delivery_text entries) (numbers_of entries)

-- ---- drafts

-- a draft of which the entries know nothing; there is no version of it then
abbrev pub unproposed_by : List ℕ → Option Version → List ℕ
unproposed_by number None = line (both (both (codes "OPEN") number) (codes "NONE"))
unproposed_by number (Some version) = []

abbrev pub unproposed_text : List Entry → List BaseRecord → List ℕ
unproposed_text entries drafts = flat_map (λ (draft : BaseRecord). unproposed_by draft.number (seen_of entries draft.number)) drafts

abbrev pub are_numbers_final : List Entry → List (List ℕ) → Bool
are_numbers_final entries numbers = list_all (λ (number : List ℕ). is_some (final_of entries number)) numbers

abbrev pub are_drafts_final : List Entry → List BaseRecord → Bool
are_drafts_final entries drafts = list_all (λ (draft : BaseRecord). is_some (final_of entries draft.number)) drafts

-- each delivery of the entries and each draft is final
abbrev pub are_final : List Entry → List BaseRecord → Bool
are_final entries drafts = are_numbers_final entries (numbers_of entries) && are_drafts_final entries drafts

-- each of these deliveries is final at both ends, of which these are the entries
abbrev pub are_numbers_final_at_both : List Entry → List Entry → List (List ℕ) → Bool
are_numbers_final_at_both one other numbers = are_numbers_final one numbers && are_numbers_final other numbers

abbrev pub are_drafts_final_at_both : List Entry → List Entry → List BaseRecord → Bool
are_drafts_final_at_both one other drafts = are_drafts_final one drafts && are_drafts_final other drafts

-- each delivery of either end's entries and each draft is final at both
abbrev pub are_final_at_both : List Entry → List Entry → List BaseRecord → Bool
are_final_at_both one other drafts =
    are_numbers_final_at_both one other (numbers_of one) && are_numbers_final_at_both one other (numbers_of other) && are_drafts_final_at_both one other drafts

-- ---- the session

-- sets that were refused, where there are some
abbrev pub refused_text : ℕ → List ℕ
refused_text count = if count == 0 then [] else line (both (codes "REFUSED SETS") (decimal count))

abbrev pub session_text : SessionEnd → List ℕ
session_text sessions.Complete = codes "COMPLETE"
session_text sessions.Silent = codes "SILENT"
session_text (sessions.TriesSpent block) = both (codes "TRIES") (decimal block)
session_text (sessions.PartnerRefused code) = both (codes "REFUSED") (two_digits code)
session_text (sessions.WrongPartner id) = both (codes "PARTNER") id
session_text sessions.TextLimit = codes "TEXT"
session_text sessions.Unplugged = codes "UNPLUGGED"

abbrev pub ending_text : Ending → List ℕ
ending_text (endings.Session end) = session_text end
ending_text endings.Noise = codes "NOISE"

abbrev pub last_text : LastRun → List ℕ
last_text runs.Never = codes "NEVER"
last_text runs.Stopped = codes "STOPPED"
last_text runs.StationFault = codes "FAULT STATION"
last_text runs.Full = codes "FULL"
last_text runs.Running = codes "RUNNING"
last_text (runs.Ended ending) = ending_text ending

abbrev pub last_line : LastRun → List ℕ
last_line last = line (both (codes "SESSION") (last_text last))

-- ---- all of it

unfoldable pub report_text : List Entry → List BaseRecord → ℕ → LastRun → List ℕ
report_text entries drafts refused last = deliveries_text entries ++ unproposed_text entries drafts ++ refused_text refused ++ last_line last
