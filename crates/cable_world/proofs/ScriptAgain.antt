-- The script that a text says is read of it.
use Rattle.std.proofs.Common.{◌≡◌, ◌<◌, ◌≤◌, ℕ, not, nat_le, bytes_eq, Bool, true, false, List, [], ◌∷◌, ◌++◌, length, codes, Option, Result, Ok, refl, sym, ap, subst, ◌∙◌, arith, append_assoc, append-nil, length-append}
use Rattle.std.proofs.lemmas.Slice.Eq.{bytes_eq-Decides}
use Rattle.dsd_values.specs.Answers.{UnlessMemory}
use Rattle.dsd_values.specs.Reading.{comm_id_of}
use Rattle.dsd_values.specs.declared.role.Role.{Role}
use Rattle.dsd_values.specs.declared.role.Role.TheVariants.{Receiver, Supplier}
use Rattle.dsd_journal.specs.declared.header.Header.{Header}
use Rattle.dsd_record.specs.declared.draft_fault.DraftFault.{DraftFault}
use Rattle.dsd_record.specs.declared.draft_fault.DraftFault.TheVariants.{Memory}
use Rattle.plain_lines.specs.PlainText.{LineSeen, has_words, leads, lines_in, piece_of, word_of_line}
use Rattle.plain_lines.specs.Refusing.{IsLed, misplaced, said_by, unless, value_at}
use Rattle.plain_lines.proofs.Unrefused.{few_below, go_bind, go_passed, go_unless, go_value, placed}
use Rattle.handheld_core.specs.Reading.{SoFar as DraftsSeen, draft_step, in_part as in_draft, is_between as is_between_drafts, nothing as no_drafts}
use Rattle.handheld_core.specs.declared.reading.Part.{Part as DraftPart}
use Rattle.handheld_core.specs.declared.reading.Part.TheVariants as draft_parts
use Rattle.handheld_core.proofs.Again.{lines_again as drafts_again}
use Rattle.handheld_core.proofs.Said.{begins_draft}
use Rattle.receiver_core.specs.Reading.{SoFar as CountsSeen, count_step, in_part as in_count, is_between as is_between_counts, nothing as no_counts}
use Rattle.receiver_core.specs.declared.reading.Part.{Part as CountPart}
use Rattle.receiver_core.specs.declared.reading.Part.TheVariants as count_parts
use Rattle.receiver_core.proofs.Again.{lines_again as counts_again}
use Rattle.receiver_core.proofs.Said.{begins_count}
use Rattle.cable_world.specs.EventLines.{SaysEvent}
use Rattle.cable_world.specs.EventReading.{event_in, word_count}
use Rattle.cable_world.specs.Reading.{counts_begun, drafts_begun, event_added, event_by, events_begun, finished, header_at, header_in, script_of, script_step, with_handheld, with_receiver}
use Rattle.cable_world.specs.ScriptTexts.{AreLinesOf, SayEvents, Says, SaysHeader, end_word}
use Rattle.cable_world.specs.declared.deed.Deed.{Deed}
use Rattle.cable_world.specs.declared.event.Event.{Event}
use Rattle.cable_world.specs.declared.reading.ScriptSoFar.{ScriptSoFar}
use Rattle.cable_world.specs.declared.reading.ScriptSoFar.TheVariants as parts
use Rattle.cable_world.specs.declared.script.Ends.{Ends}
use Rattle.cable_world.specs.declared.script.Script.{Script}
use Rattle.cable_world.proofs.Deeds.{deed_led, deed_word}
use Rattle.cable_world.proofs.EventsRead.{deed_in, event_again, event_led}
use Rattle.cable_world.proofs.ScriptParts.{joined_again}
use Rattle.cable_world.proofs.ScriptSaid.{counting_steps, drafting_steps}

-- ---- whose the journals are

header_again : (role : Role) (header : Header) (line : LineSeen) → SaysHeader role header line → header_at role line ≡ Ok header
header_again role header line says =
    go_unless (misplaced line (end_word role) 3) line (header_in role line) (placed line (end_word role) 3 says.led)
    ∙ go_bind (value_at line 1 (comm_id_of (word_of_line line 1))) _ header.own (go_value line 1 _ header.own says.own)
    ∙ go_bind (value_at line 2 (comm_id_of (word_of_line line 2))) _ header.peer (go_value line 2 _ header.peer says.peer)
    ∙ ap (λ (r : Role). Ok (let h : Header = record { role = r; own = header.own; peer = header.peer } in h)) (sym says.role_is)

-- ---- the events

abbrev with_events : Script → List Event → ScriptSoFar
with_events script events = parts.Playing (record script { events = events })

not_so : (b : Bool) → b ≡ true → not b ≡ false
not_so true e = refl
not_so false e = cc (e)

event_step : (script : Script) (before : List Event) (event : Event) (line : LineSeen) → length before < 10_000 → SaysEvent event line
    → script_step (with_events script before) line ≡ Ok (with_events script (before ++ event ∷ []))
unfolding script_step
event_step script before event line room says =
    let deed : Deed = deed_in event in
    let is : IsLed line (deed_word deed) (word_count deed) = event_led event line says in
    let now : Script = record script { events = before } in
    ap (λ (d : Option Deed). event_by d now line) (deed_led line deed is.leading)
    ∙ go_passed (not (has_words line (word_count deed))) line _ (event_added now line deed) (not_so (has_words line (word_count deed)) is.words)
    ∙ go_passed (nat_le 10_000 (length before)) line _ _ (few_below (length before) 10_000 room)
    ∙ go_bind (event_in deed line) _ event (event_again event line says)

events_again : (script : Script) (before events : List Event) (lines : List LineSeen) → length (before ++ events) ≤ 10_000 → SayEvents events lines
    → said_by script_step (with_events script before) lines ≡ Ok (with_events script (before ++ events))
events_again script before [] [] few say = ap (λ (es : List Event). Ok (with_events script es)) (sym (append-nil before))
events_again script before [] (line ∷ lines) few say = absurd say
events_again script before (event ∷ events) [] few say = absurd say
events_again script before (event ∷ events) (line ∷ lines) few say =
    let joined : (before ++ event ∷ []) ++ events ≡ before ++ event ∷ events = append_assoc before (event ∷ []) events in
    let room : length before < 10_000 = omega (arith, length-append before (event ∷ events)) in
    go_bind (script_step (with_events script before) line) (λ m. said_by script_step m lines) (with_events script (before ++ event ∷ [])) (event_step script before event line room say.0)
    ∙ events_again script (before ++ event ∷ []) events lines (subst (λ (es : List Event). length es ≤ 10_000) (sym joined) few) say.1
    ∙ ap (λ (es : List Event). Ok (with_events script es)) joined

-- ---- the parts

other_word : (line : LineSeen) (word other : List ℕ) → leads line word ≡ true → bytes_eq word other ≡ false → leads line other ≡ false
other_word line word other leading differ = ap (λ (piece : List ℕ). bytes_eq piece other) ((bytes_eq-Decides (piece_of line 0) word).0 leading) ∙ differ

no_counts_word : (m n : DraftsSeen) (line : LineSeen) → is_between_drafts m.part ≡ true → draft_step m line ≡ Ok n → leads line (codes "COUNTS") ≡ false
unfolding draft_step
no_counts_word m n line between e = by m.part between e
  where
    by : (part : DraftPart) → is_between_drafts part ≡ true → in_draft part m.done line ≡ Ok n → leads line (codes "COUNTS") ≡ false
    by draft_parts.Between between e = other_word line (codes "DRAFT") (codes "COUNTS") (begins_draft m.done line n e) refl
    by (draft_parts.Headed head) between e = cc (between)
    by (draft_parts.Signed head signature) between e = cc (between)
    by (draft_parts.Open draft) between e = cc (between)

no_events_word : (m n : CountsSeen) (line : LineSeen) → is_between_counts m.part ≡ true → count_step m line ≡ Ok n → leads line (codes "EVENTS") ≡ false
unfolding count_step
no_events_word m n line between e = by m.part between e
  where
    by : (part : CountPart) → is_between_counts part ≡ true → in_count part m.done line ≡ Ok n → leads line (codes "EVENTS") ≡ false
    by count_parts.Between between e = other_word line (codes "COUNT") (codes "EVENTS") (begins_count m.done line n e) refl
    by (count_parts.Headed number) between e = cc (between)
    by (count_parts.Signed number signature) between e = cc (between)
    by (count_parts.Lines count) between e = cc (between)

-- ---- the whole text

begins_again : (line : LineSeen) (word : List ℕ) (next : ScriptSoFar) → IsLed line word 1 → (let r : Result ScriptSoFar DraftFault = Ok next in unless (misplaced line word 1) line r) ≡ Ok next
begins_again line word next is = go_unless (misplaced line word 1) line (Ok next) (placed line word 1 is)

lines_again : (script : Script) (lines : List LineSeen) → AreLinesOf script lines → said_by script_step parts.Nothing lines ≡ Ok (parts.Playing script)
unfolding script_step
lines_again script lines are =
    let ends : Ends = script.ends in
    let begun : Script = record script { events = [] } in
    let third : List LineSeen = are.drafts ++ are.before_counts ∷ (are.counts ++ are.before_events ∷ are.events) in
    let first_step : with_handheld are.handheld ≡ Ok (parts.Handheld ends.handheld) = go_bind (header_at Supplier are.handheld) _ ends.handheld (header_again Supplier ends.handheld are.handheld are.says_handheld) in
    let second_step : with_receiver ends.handheld are.receiver ≡ Ok (parts.Named ends) = go_bind (header_at Receiver are.receiver) _ ends.receiver (header_again Receiver ends.receiver are.receiver are.says_receiver) in
    let drafts = drafts_again script.drafts are.drafts are.say_drafts in
    let counts = counts_again script.counts are.counts are.say_counts in
    ap (said_by script_step parts.Nothing) are.joined
    ∙ go_bind (with_handheld are.handheld) (λ m. said_by script_step m (are.receiver ∷ are.before_drafts ∷ third)) (parts.Handheld ends.handheld) first_step
    ∙ go_bind (with_receiver ends.handheld are.receiver) (λ m. said_by script_step m (are.before_drafts ∷ third)) (parts.Named ends) second_step
    ∙ go_bind (drafts_begun ends are.before_drafts) (λ m. said_by script_step m third) (parts.Drafting ends no_drafts) (begins_again are.before_drafts (codes "DRAFTS") (parts.Drafting ends no_drafts) are.begins_drafts)
    ∙ joined_again draft_step (λ m. is_between_drafts m.part) (codes "COUNTS") (λ m. parts.Drafting ends m) (λ m line. counts_begun ends m.done line) (drafting_steps ends) no_counts_word
    no_drafts (record { done = script.drafts; part = draft_parts.Between }) are.drafts are.before_counts (are.counts ++ are.before_events ∷ are.events) (parts.Counting ends script.drafts no_counts) drafts refl
    are.begins_counts.leading (begins_again are.before_counts (codes "COUNTS") (parts.Counting ends script.drafts no_counts) are.begins_counts)
    ∙ joined_again count_step (λ m. is_between_counts m.part) (codes "EVENTS") (λ m. parts.Counting ends script.drafts m) (λ m line. events_begun ends script.drafts m.done line) (counting_steps ends script.drafts) no_events_word
    no_counts (record { done = script.counts; part = count_parts.Between }) are.counts are.before_events are.events (parts.Playing begun) counts refl
    are.begins_events.leading (begins_again are.before_events (codes "EVENTS") (parts.Playing begun) are.begins_events)
    ∙ events_again begun [] script.events are.events are.few are.say_events

pub again : (text : List ℕ) (script : Script) → Says script text → script_of text ≡ Ok script
again text script says =
    go_bind (said_by script_step parts.Nothing (lines_in text).lines) (finished (lines_in text).end) (parts.Playing script) (lines_again script (lines_in text).lines says)

-- an answer of which want of memory alone is free
pub only : (text : List ℕ) (result : Result Script DraftFault) → UnlessMemory Memory result (script_of text) → (script : Script) → Says script text → UnlessMemory Memory result (Ok script)
only text result told script says = subst (UnlessMemory Memory result) (again text script says) told

-- a text says one thing
pub one : (text : List ℕ) (script other : Script) → Says script text → Says other text → script ≡ other
one text script other says more = let same : (let r : Result Script DraftFault = Ok script in r) ≡ Ok other = sym (again text script says) ∙ again text other more in cc (same)
