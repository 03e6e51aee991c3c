-- The printed texts.
use Rattle.std.specs.Prelude.{ℕ, ◌+◌, true, false, ◌||◌, ◌==◌, if◌then◌else◌, List, [], ◌∷◌, ◌++◌, length, map, codes}
use Rattle.std.specs.Fmt.{decimal, signed_decimal}
use Rattle.dsd_values.specs.Writing.{check_text, day_text}
use Rattle.dsd_values.specs.declared.fault.ValueFault.{ValueFault}
use Rattle.dsd_values.specs.declared.fault.ValueFault.TheVariants as faults
use Rattle.dsd_values.specs.declared.role.Role.{Role}
use Rattle.dsd_values.specs.declared.role.Role.TheVariants.{Supplier, Receiver}
use Rattle.dsd_journal.specs.declared.entry.EntryKind.{EntryKind}
use Rattle.dsd_journal.specs.declared.entry.EntryKind.TheVariants.{Signed, Took}
use Rattle.dsd_journal.specs.declared.header.Header.{Header as Head}
use Rattle.dex_line.specs.Captured.{frames_in, is_refused}
use Rattle.dex_line.specs.FrameShapes.{FrameShape, Enq, Ack0, Ack1, Nak, Eot, Header, Block, Damaged, Bad}
use Rattle.segments.specs.declared.segment_fault.SegmentFault.{SegmentFault}
use Rattle.segments.specs.declared.segment_fault.SegmentFault.TheVariants as segment_faults
use Rattle.transaction_set.specs.declared.set_fault.SetReason.{SetReason}
use Rattle.transaction_set.specs.declared.set_fault.SetReason.TheVariants as set_reasons
use Rattle.dxs_envelope.specs.declared.fault.EnvelopeReason.{EnvelopeReason}
use Rattle.dxs_envelope.specs.declared.fault.EnvelopeReason.TheVariants as envelope_reasons
use Rattle.dsd_record.specs.declared.draft_fault.DraftReason.{DraftReason}
use Rattle.dsd_record.specs.declared.draft_fault.DraftReason.TheVariants as draft_reasons
use Rattle.end_report.specs.Lines.{both, line}
use Rattle.end_report.specs.Reports.{flag_text}
use Rattle.cable_world.specs.declared.world_report.WorldReport.{WorldReport}
use Rattle.dex_cli.specs.declared.entry_summary.EntryForm.{EntryForm}
use Rattle.dex_cli.specs.declared.entry_summary.EntryForm.TheVariants as entry_forms
use Rattle.dex_cli.specs.declared.entry_summary.EntrySummary.{EntrySummary}
use Rattle.dex_cli.specs.declared.journal_summary.JournalSummary.{JournalSummary}
use Rattle.dex_cli.specs.declared.refusal.Reason.{Reason}
use Rattle.dex_cli.specs.declared.refusal.Reason.TheVariants as reasons
use Rattle.dex_cli.specs.declared.refusal.Refusal.{Refusal}
use Rattle.dex_cli.specs.declared.summary.SetForm.{SetForm}
use Rattle.dex_cli.specs.declared.summary.SetForm.TheVariants as forms
use Rattle.dex_cli.specs.declared.summary.SetSummary.{SetSummary}
use Rattle.dex_cli.specs.declared.text_summary.TextEnding.{TextEnding}
use Rattle.dex_cli.specs.declared.text_summary.TextEnding.TheVariants as endings
use Rattle.dex_cli.specs.declared.verdict.Verdict.{Verdict}
use Rattle.dex_cli.specs.declared.verdict.Verdict.TheVariants as verdicts

-- ---- the lines of a set

abbrev pub name_text : SetForm → List ℕ
name_text (forms.Delivery day) = codes "SET 894"
name_text (forms.Answer level check) = codes "SET 895"

-- the day stands in a set 894 alone
abbrev pub day_behind : SetForm → List ℕ
day_behind (forms.Delivery day) = 32 ∷ day_text day
day_behind (forms.Answer level check) = []

abbrev pub delivery_text : SetSummary → List ℕ
delivery_text set = both (codes "DELIVERY") (both (flag_text set.flag) (set.number ++ day_behind set.form))

-- the level of an answer, and the integrity value of the set that it answers
abbrev pub form_text : SetForm → List ℕ
form_text (forms.Delivery day) = []
form_text (forms.Answer level check) = line (both (codes "LEVEL") (decimal level)) ++ line (both (codes "ANSWERS") (check_text check))

-- number of lines, quantity, amount
abbrev pub totals_text : SetSummary → List ℕ
totals_text set =
    line (both (codes "LINES") (decimal set.lines))
    ++ line (both (codes "QUANTITY") (decimal set.quantity))
    ++ line (both (codes "AMOUNT") (decimal set.amount))

-- control number, delivery, what an answer has besides, and the totals
unfoldable pub set_text : SetSummary → List ℕ
set_text set = line (both (name_text set.form) set.control) ++ line (delivery_text set) ++ form_text set.form ++ totals_text set

-- ---- reasons

abbrev pub fault_text : ValueFault → List ℕ
fault_text faults.Empty = codes "EMPTY"
fault_text (faults.TooLong n) = both (codes "TOOLONG") (decimal n)
fault_text (faults.NotDigit n) = both (codes "NOTDIGIT") (decimal n)
fault_text (faults.TooManyDecimals n) = both (codes "DECIMALS") (decimal n)
fault_text faults.OutOfRange = codes "RANGE"
fault_text faults.NoSuchDay = codes "NOSUCHDAY"

abbrev pub segment_fault_text : SegmentFault → List ℕ
segment_fault_text (segment_faults.NoEnd place) = codes "SEGMENT NOEND"
segment_fault_text (segment_faults.BadByte place byte) = codes "SEGMENT BADBYTE"
segment_fault_text (segment_faults.BadId place) = codes "SEGMENT BADID"
segment_fault_text (segment_faults.TooLong place) = codes "SEGMENT TOOLONG"
segment_fault_text (segment_faults.TooManyElements place) = codes "SEGMENT ELEMENTS"

abbrev pub set_reason_text : SetReason → List ℕ
set_reason_text (set_reasons.Segment fault) = segment_fault_text fault
set_reason_text set_reasons.Order = codes "ORDER"
set_reason_text set_reasons.Limit = codes "LIMIT"
set_reason_text (set_reasons.Value element fault) = both (codes "VALUE") (both (decimal element) (fault_text fault))
set_reason_text (set_reasons.Twice dsd) = both (codes "TWICE") (decimal dsd)
set_reason_text (set_reasons.Totals said computed) = both (codes "TOTALS") (both (decimal said) (signed_decimal computed))
set_reason_text (set_reasons.Check said computed) = both (codes "CHECK") (both (check_text said) (check_text computed))
set_reason_text (set_reasons.Count said found) = both (codes "COUNT") (both (decimal said) (decimal found))
set_reason_text set_reasons.Control = codes "CONTROL"

abbrev pub envelope_reason_text : EnvelopeReason → List ℕ
envelope_reason_text envelope_reasons.NoHeader = codes "NOHEADER"
envelope_reason_text envelope_reasons.NoTrailer = codes "NOTRAILER"
envelope_reason_text (envelope_reasons.Count said found) = both (codes "COUNT") (both (decimal said) (decimal found))
envelope_reason_text envelope_reasons.Control = codes "CONTROL"
envelope_reason_text envelope_reasons.Function = codes "FUNCTION"
envelope_reason_text (envelope_reasons.Segment fault) = segment_fault_text fault
envelope_reason_text envelope_reasons.Tail = codes "TAIL"

-- of a value the number of its word is told, and not what is wrong with it
abbrev pub draft_reason_text : DraftReason → List ℕ
draft_reason_text draft_reasons.Line = codes "LINE"
draft_reason_text draft_reasons.Words = codes "WORDS"
draft_reason_text (draft_reasons.Value word fault) = both (codes "VALUE") (decimal word)
draft_reason_text draft_reasons.Twice = codes "TWICE"
draft_reason_text draft_reasons.Limit = codes "LIMIT"
draft_reason_text draft_reasons.Price = codes "PRICE"

abbrev pub reason_text : Reason → List ℕ
reason_text (reasons.Set reason) = set_reason_text reason
reason_text (reasons.Envelope reason) = envelope_reason_text reason
reason_text (reasons.Draft reason) = draft_reason_text reason
reason_text reasons.Damaged = codes "DAMAGED"
reason_text reasons.Bad = codes "BAD"

abbrev pub refused_line : Refusal → List ℕ
refused_line refusal = line (both (codes "REFUSED") (both (decimal refusal.place) (reason_text refusal.reason)))

-- ---- a transmission

abbrev pub sets_text : List SetSummary → List ℕ
sets_text [] = []
sets_text (set ∷ sets) = set_text set ++ sets_text sets

-- how many sets there are, where the transmission is whole; else where and why it is refused
abbrev pub ending_text : ℕ → TextEnding → List ℕ
ending_text count endings.Whole = line (both (codes "SETS") (decimal count)) ++ line (codes "OK")
ending_text count (endings.Refused refusal) = refused_line refusal

-- ---- frames

-- CR and LF in a header are printed as `.`
abbrev pub shown : ℕ → ℕ
shown byte = if byte == 13 || (byte == 10) then 46 else byte

-- one that is damaged or bad is refused at its first byte
abbrev pub frame_line : ℕ → FrameShape → List ℕ
frame_line place Enq = line (codes "ENQ")
frame_line place Ack0 = line (codes "ACK0")
frame_line place Ack1 = line (codes "ACK1")
frame_line place Nak = line (codes "NAK")
frame_line place Eot = line (codes "EOT")
frame_line place (Header text) = line (both (codes "HEADER") (map shown text))
frame_line place (Block false text) = line (both (codes "BLOCK") (decimal (length text)))
frame_line place (Block true text) = line (both (codes "LAST") (decimal (length text)))
frame_line place Damaged = refused_line (record { place = place; reason = reasons.Damaged })
frame_line place Bad = refused_line (record { place = place; reason = reasons.Bad })

-- a line for each frame, and `OK` where none is refused
abbrev pub frames_text : List (ℕ × FrameShape) → List ℕ
frames_text [] = line (codes "OK")
frames_text (frame ∷ more) = frame_line frame.0 frame.1 ++ (if is_refused frame.1 then [] else frames_text more)

-- ---- a journal

-- the supplier's end is the handheld
abbrev pub title_text : Role → List ℕ
title_text Supplier = codes "JOURNAL HANDHELD"
title_text Receiver = codes "JOURNAL RECEIVER"

-- whose it is: the end, its communication id and its peer's
abbrev pub header_line : Head → List ℕ
header_line header = line (both (title_text header.role) (both header.own header.peer))

abbrev pub kind_text : EntryKind → List ℕ
kind_text Signed = codes "SIGNED"
kind_text Took = codes "TOOK"

abbrev pub set_name_text : EntryForm → List ℕ
set_name_text entry_forms.Base = codes "894"
set_name_text (entry_forms.Adjustment level) = codes "895"
set_name_text (entry_forms.Acceptance level check) = codes "895"

-- the level of a proposal, or the level and the integrity value of the proposal that is accepted
abbrev pub standing_text : EntryForm → List ℕ
standing_text entry_forms.Base = codes "LEVEL 0"
standing_text (entry_forms.Adjustment level) = both (codes "LEVEL") (decimal level)
standing_text (entry_forms.Acceptance level check) = both (codes "ACCEPTS") (both (decimal level) (check_text check))

-- what was done, and with which set
abbrev pub deed_text : EntrySummary → List ℕ
deed_text entry = both (kind_text entry.kind) (set_name_text entry.form)

-- the same, its control number, its delivery, and what it proposes or accepts
unfoldable pub words_text : EntrySummary → List ℕ
words_text entry = both (deed_text entry) (both entry.control (both entry.number (standing_text entry.form)))

-- its number in the journal, its words, and its own integrity value
unfoldable pub entry_line : ℕ → EntrySummary → List ℕ
entry_line number entry = line (both (decimal number) (both (words_text entry) (both (codes "CHECK") (check_text entry.check))))

-- numbered on from this number
abbrev pub entries_text : ℕ → List EntrySummary → List ℕ
entries_text number [] = []
entries_text number (entry ∷ entries) = entry_line number entry ++ entries_text (number + 1) entries

-- whose it is, each entry, and how many there are
unfoldable pub journal_text : JournalSummary → List ℕ
journal_text journal = header_line journal.header ++ entries_text 1 journal.entries.items ++ line (both (codes "ENTRIES") (decimal (length journal.entries.items)))

-- ---- a route

-- a name and a number
abbrev pub count_line : List ℕ → ℕ → List ℕ
count_line name count = line (both name (decimal count))

-- how many deliveries were asked for and are final, and what the handheld's finals come to
unfoldable pub load_text : ℕ → WorldReport → List ℕ
load_text count report =
    count_line (codes "LOAD") count ++ count_line (codes "FINAL") report.finals ++ count_line (codes "ADJUSTED") report.adjusted
    ++ count_line (codes "QUANTITY") report.quantity ++ count_line (codes "AMOUNT") report.amount

-- ---- all that is printed of a run

unfoldable pub printed : Verdict → List ℕ
printed verdicts.Words = line (codes "WORDS")
printed verdicts.SourceFault = line (codes "FAULT SOURCE")
printed verdicts.StationFault = line (codes "FAULT STATION")
printed (verdicts.Refused refusal) = refused_line refusal
printed (verdicts.Set set) = set_text set ++ line (codes "OK")
printed (verdicts.Text text) = sets_text text.sets.items ++ ending_text (length text.sets.items) text.ending
printed (verdicts.Line captured) = frames_text (frames_in captured.items)
printed verdicts.Formatted = line (codes "FORMATTED")
printed (verdicts.NotEmpty size) = line (both (codes "NOT EMPTY") (decimal size))
printed (verdicts.Shown journal) = journal_text journal
printed (verdicts.NotAJournal place) = line (both (codes "NOT A JOURNAL") (decimal place))
printed (verdicts.Ran report) = report.text.items
printed (verdicts.Full length) = line (both (codes "FULL") (decimal length))
printed (verdicts.Replayed report) = report.lines.items
printed (verdicts.Loaded count report) = load_text count report
