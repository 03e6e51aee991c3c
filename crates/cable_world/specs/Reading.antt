-- Reading a script line by line, with the first reason against each line.
use Rattle.std.specs.Prelude.{◌&&◌, ℕ, Bool, false, not, nat_le, List, [], ◌∷◌, ◌++◌, length, codes, Option, Some, None, Result, Ok, Err, if◌then◌else◌}
use Rattle.dsd_values.specs.Reading.{comm_id_of}
use Rattle.dsd_values.specs.declared.role.Role.{Role}
use Rattle.dsd_values.specs.declared.role.Role.TheVariants.{Receiver, Supplier}
use Rattle.dsd_journal.specs.declared.header.Header.{Header}
use Rattle.dsd_record.specs.declared.draft_fault.DraftFault.{DraftFault}
use Rattle.dsd_record.specs.declared.draft_fault.DraftFault.TheVariants.{Refused}
use Rattle.dsd_record.specs.declared.draft_fault.DraftReason.TheVariants as reasons
use Rattle.plain_lines.specs.PlainText.{LineSeen, LinesLeft, has_words, leads, lines_in, word_of_line}
use Rattle.plain_lines.specs.Refusing.{◌>>=◌, misplaced, refused, refused_if, said_in, unless, value_at}
use Rattle.handheld_core.specs.Reading.{SoFar as DraftsSeen, draft_step, is_between as is_between_drafts, nothing as no_drafts}
use Rattle.handheld_core.specs.declared.draft.Draft.{Draft}
use Rattle.receiver_core.specs.Reading.{SoFar as CountsSeen, count_step, is_between as is_between_counts, nothing as no_counts}
use Rattle.receiver_core.specs.declared.count.Count.{Count}
use Rattle.cable_world.specs.EventReading.{deed_of, word_count, event_in}
use Rattle.cable_world.specs.ScriptTexts.{end_word}
use Rattle.cable_world.specs.declared.deed.Deed.{Deed}
use Rattle.cable_world.specs.declared.events.TheConstants.{MOST_EVENTS}
use Rattle.cable_world.specs.declared.reading.ScriptSoFar.{ScriptSoFar}
use Rattle.cable_world.specs.declared.reading.ScriptSoFar.TheVariants as parts
use Rattle.cable_world.specs.declared.script.Ends.{Ends}
use Rattle.cable_world.specs.declared.script.Script.{Script}

-- ---- the lines between the parts

-- whose the journal of this end is
abbrev pub header_in : Role → LineSeen → Result Header DraftFault
header_in role line = do
  own ← value_at line 1 (comm_id_of (word_of_line line 1))
  peer ← value_at line 2 (comm_id_of (word_of_line line 2))
  Ok (record { role = role; own = own; peer = peer })

abbrev pub header_at : Role → LineSeen → Result Header DraftFault
header_at role line = unless (misplaced line (end_word role) 3) line (header_in role line)

abbrev pub with_handheld : LineSeen → Result ScriptSoFar DraftFault
with_handheld line = header_at Supplier line >>= λ handheld. Ok (parts.Handheld handheld)

abbrev pub with_receiver : Header → LineSeen → Result ScriptSoFar DraftFault
with_receiver handheld line = header_at Receiver line >>= λ receiver. Ok (parts.Named (record { handheld = handheld; receiver = receiver }))

-- behind these words the part begins
abbrev pub drafts_begun : Ends → LineSeen → Result ScriptSoFar DraftFault
drafts_begun ends line = unless (misplaced line (codes "DRAFTS") 1) line (Ok (parts.Drafting ends no_drafts))

abbrev pub counts_begun : Ends → List Draft → LineSeen → Result ScriptSoFar DraftFault
counts_begun ends drafts line = unless (misplaced line (codes "COUNTS") 1) line (Ok (parts.Counting ends drafts no_counts))

abbrev pub events_begun : Ends → List Draft → List Count → LineSeen → Result ScriptSoFar DraftFault
events_begun ends drafts counts line =
    unless (misplaced line (codes "EVENTS") 1) line (Ok (parts.Playing (record { ends = ends; drafts = drafts; counts = counts; events = [] })))

-- ---- one more line

-- a line of the drafts; between two of them `COUNTS` may stand
abbrev pub drafting : Ends → DraftsSeen → LineSeen → Result ScriptSoFar DraftFault
drafting ends drafts line =
    if is_between_drafts drafts.part && leads line (codes "COUNTS") then counts_begun ends drafts.done line
    else (draft_step drafts line >>= λ next. Ok (parts.Drafting ends next))

-- a line of the counts; between two of them `EVENTS` may stand
abbrev pub counting : Ends → List Draft → CountsSeen → LineSeen → Result ScriptSoFar DraftFault
counting ends drafts counts line =
    if is_between_counts counts.part && leads line (codes "EVENTS") then events_begun ends drafts counts.done line
    else (count_step counts line >>= λ next. Ok (parts.Counting ends drafts next))

-- an event more: there may be only so many
abbrev pub event_added : Script → LineSeen → Deed → Result ScriptSoFar DraftFault
event_added script line deed =
    refused_if (nat_le MOST_EVENTS (length script.events)) line reasons.Limit (event_in deed line >>= λ event. Ok (parts.Playing (record script { events = script.events ++ event ∷ [] })))

-- its leading word says what it is, and how many words it has
abbrev pub event_by : Option Deed → Script → LineSeen → Result ScriptSoFar DraftFault
event_by None script line = refused line reasons.Line
event_by (Some deed) script line = refused_if (not (has_words line (word_count deed))) line reasons.Words (event_added script line deed)

abbrev pub playing : Script → LineSeen → Result ScriptSoFar DraftFault
playing script line = event_by (deed_of line) script line

-- the line behind which the next part stands
abbrev pub leaves : ScriptSoFar → LineSeen → Bool
leaves parts.Nothing line = false
leaves (parts.Handheld handheld) line = false
leaves (parts.Named ends) line = false
leaves (parts.Drafting ends drafts) line = is_between_drafts drafts.part && leads line (codes "COUNTS")
leaves (parts.Counting ends drafts counts) line = is_between_counts counts.part && leads line (codes "EVENTS")
leaves (parts.Playing script) line = false

unfoldable pub script_step : ScriptSoFar → LineSeen → Result ScriptSoFar DraftFault
script_step parts.Nothing line = with_handheld line
script_step (parts.Handheld handheld) line = with_receiver handheld line
script_step (parts.Named ends) line = drafts_begun ends line
script_step (parts.Drafting ends drafts) line = drafting ends drafts line
script_step (parts.Counting ends drafts counts) line = counting ends drafts counts line
script_step (parts.Playing script) line = playing script line

-- ---- a whole text

-- the script, where the text does not end before its events
abbrev pub finished : ℕ → ScriptSoFar → Result Script DraftFault
finished end parts.Nothing = Err (Refused end reasons.Line)
finished end (parts.Handheld handheld) = Err (Refused end reasons.Line)
finished end (parts.Named ends) = Err (Refused end reasons.Line)
finished end (parts.Drafting ends drafts) = Err (Refused end reasons.Line)
finished end (parts.Counting ends drafts counts) = Err (Refused end reasons.Line)
finished end (parts.Playing script) = Ok script

abbrev pub script_in : LinesLeft → ScriptSoFar → Result Script DraftFault
script_in left so_far = said_in script_step finished left so_far

-- the script that the text says, or its first refusal
abbrev pub script_of : List ℕ → Result Script DraftFault
script_of text = script_in (lines_in text) parts.Nothing
