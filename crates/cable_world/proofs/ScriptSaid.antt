-- What is read of a text is the script that the text says.
use Rattle.std.proofs.Common.{◌≡◌, ◌<◌, ◌≤◌, ◌&&◌, inl, inr, IfOk, ℕ, not, nat_le, Bool, true, false, List, [], ◌∷◌, ◌++◌, length, codes, Option, Some, None, Result, Ok, Err, if◌then◌else◌, refl, sym, ap, subst, ◌∙◌, arith, append_assoc, append-nil, length-append}
use Rattle.std.proofs.lemmas.Bool.Decides.{nat_tests}
use Rattle.dsd_values.specs.Answers.{UnlessMemory}
use Rattle.dsd_values.specs.Reading.{comm_id_of}
use Rattle.dsd_values.specs.declared.role.Role.{Role}
use Rattle.dsd_values.specs.declared.role.Role.TheVariants.{Receiver, Supplier}
use Rattle.dsd_journal.specs.declared.header.Header.{Header}
use Rattle.dsd_record.specs.declared.draft_fault.DraftFault.{DraftFault}
use Rattle.dsd_record.specs.declared.draft_fault.DraftFault.TheVariants.{Memory}
use Rattle.plain_lines.specs.PlainText.{LineSeen, has_words, leads, lines_in, word_of_line}
use Rattle.plain_lines.specs.Refusing.{◌>>=◌, IsLed, misplaced, said_by, value_at}
use Rattle.plain_lines.proofs.Unrefused.{bind_ok, led, ok_same, passed, unless_ok, value_ok}
use Rattle.handheld_core.specs.DraftTexts.{AreSaid as AreSaidDrafts}
use Rattle.handheld_core.specs.Reading.{SoFar as DraftsSeen, draft_step, is_between as is_between_drafts, nothing as no_drafts}
use Rattle.handheld_core.specs.declared.draft.Draft.{Draft}
use Rattle.handheld_core.specs.declared.reading.Part.{Part as DraftPart}
use Rattle.handheld_core.specs.declared.reading.Part.TheVariants as draft_parts
use Rattle.handheld_core.proofs.Said.{lines_said as drafts_said}
use Rattle.receiver_core.specs.CountTexts.{AreSaid as AreSaidCounts}
use Rattle.receiver_core.specs.Reading.{SoFar as CountsSeen, count_step, is_between as is_between_counts, nothing as no_counts}
use Rattle.receiver_core.specs.declared.count.Count.{Count}
use Rattle.receiver_core.specs.declared.reading.Part.{Part as CountPart}
use Rattle.receiver_core.specs.declared.reading.Part.TheVariants as count_parts
use Rattle.receiver_core.proofs.Said.{lines_said as counts_said}
use Rattle.cable_world.specs.EventLines.{SaysEvent}
use Rattle.cable_world.specs.EventReading.{event_in, deed_of, word_count}
use Rattle.cable_world.specs.Reading.{counts_begun, drafts_begun, event_by, events_begun, finished, header_at, header_in, playing, script_of, script_step}
use Rattle.cable_world.specs.ScriptTexts.{AreLinesOf, SayEvents, Says, SaysHeader, end_word}
use Rattle.cable_world.specs.declared.deed.Deed.{Deed}
use Rattle.cable_world.specs.declared.event.Event.{Event}
use Rattle.cable_world.specs.declared.reading.ScriptSoFar.{ScriptSoFar}
use Rattle.cable_world.specs.declared.reading.ScriptSoFar.TheVariants as parts
use Rattle.cable_world.specs.declared.script.Ends.{Ends}
use Rattle.cable_world.specs.declared.script.Script.{Script}
use Rattle.cable_world.proofs.Deeds.{deed_leads, deed_word}
use Rattle.cable_world.proofs.EventsRead.{event_said}
use Rattle.cable_world.proofs.ScriptParts.{parted}

-- ---- whose the journals are

pub header_said : (role : Role) (line : LineSeen) (header : Header) → header_at role line ≡ Ok header → SaysHeader role header line
header_said role line header e =
    let here = unless_ok (misplaced line (end_word role) 3) line (header_in role line) header e in
    let own = bind_ok (value_at line 1 (comm_id_of (word_of_line line 1))) _ header here.is in
    let peer = bind_ok (value_at line 2 (comm_id_of (word_of_line line 2))) _ header own.goes_on in
    subst (λ (h : Header). SaysHeader role h line) (ok_same _ header peer.goes_on) (record {
      led = led line (end_word role) 3 here.none;
      role_is = refl;
      own = value_ok line 1 _ own.value own.is;
      peer = value_ok line 2 _ peer.value peer.is;
    })

-- ---- the events

abbrev with_events : Script → List Event → ScriptSoFar
with_events script events = parts.Playing (record script { events = events })

record EventTold (script : Script) (events : List Event) (line : LineSeen) (next : ScriptSoFar) : Type 0 where
  event : Event
  says : SaysEvent event line
  is : with_events script (events ++ event ∷ []) ≡ next
  room : length events < 10_000

event_told_by : (deed : Option Deed) (script : Script) (events : List Event) (line : LineSeen) (next : ScriptSoFar) → deed_of line ≡ deed
    → event_by deed (record script { events = events }) line ≡ Ok next → EventTold script events line next
event_told_by None script events line next is e = cc (e)
event_told_by (Some deed) script events line next is e =
    let words = passed (not (has_words line (word_count deed))) line _ _ next e in
    let limit = passed (nat_le 10_000 (length events)) line _ _ next words.is in
    let event = bind_ok (event_in deed line) _ next limit.is in
    let led : IsLed line (deed_word deed) (word_count deed) = record { leading = deed_leads line deed is; words = whole (has_words line (word_count deed)) words.none } in
    record {
      event = event.value;
      says = event_said deed line event.value led event.is;
      is = ok_same _ next event.goes_on;
      room = let none : nat_le 10_000 (length events) ≡ false = limit.none in grind (arith, nat_tests);
    }
  where
    whole : (b : Bool) → not b ≡ false → b ≡ true
    whole true e = refl
    whole false e = cc (e)

record EventsTold (script : Script) (before : List Event) (lines : List LineSeen) (last : ScriptSoFar) : Type 0 where
  events : List Event
  say : SayEvents events lines
  is : with_events script (before ++ events) ≡ last
  few : length (before ++ events) ≤ 10_000

events_told : (script : Script) (before : List Event) (lines : List LineSeen) (last : ScriptSoFar) → length before ≤ 10_000 → said_by script_step (with_events script before) lines ≡ Ok last
    → EventsTold script before lines last
unfolding script_step
events_told script before [] last few e = record {
  events = [];
  say = tt;
  is = ap (with_events script) (append-nil before) ∙ ok_same (with_events script before) last e;
  few = subst (λ (es : List Event). length es ≤ 10_000) (sym (append-nil before)) few;
}
events_told script before (line ∷ lines) last few e =
    let one = bind_ok (playing (record script { events = before }) line) (λ m. said_by script_step m lines) last e in
    let here = event_told_by (deed_of line) script before line one.value refl one.is in
    let longer : length (before ++ here.event ∷ []) ≤ 10_000 = let room = here.room in omega (arith, length-append before (here.event ∷ [])) in
    let rest = events_told script (before ++ here.event ∷ []) lines last longer (subst (λ (m : ScriptSoFar). said_by script_step m lines ≡ Ok last) (sym here.is) one.goes_on) in
    let joined : (before ++ here.event ∷ []) ++ rest.events ≡ before ++ here.event ∷ rest.events = append_assoc before (here.event ∷ []) rest.events in
    record {
      events = here.event ∷ rest.events;
      say = (here.says, rest.say);
      is = ap (with_events script) (sym joined) ∙ rest.is;
      few = subst (λ (es : List Event). length es ≤ 10_000) joined rest.few;
    }

-- ---- the parts

draft_between : (part : DraftPart) → is_between_drafts part ≡ true → part ≡ draft_parts.Between
draft_between draft_parts.Between e = refl
draft_between (draft_parts.Headed head) e = cc (e)
draft_between (draft_parts.Signed head signature) e = cc (e)
draft_between (draft_parts.Open draft) e = cc (e)

count_between : (part : CountPart) → is_between_counts part ≡ true → part ≡ count_parts.Between
count_between count_parts.Between e = refl
count_between (count_parts.Headed number) e = cc (e)
count_between (count_parts.Signed number signature) e = cc (e)
count_between (count_parts.Lines count) e = cc (e)

pub drafting_steps : (ends : Ends) (m : DraftsSeen) (line : LineSeen)
    → script_step (parts.Drafting ends m) line ≡ (if is_between_drafts m.part && leads line (codes "COUNTS") then counts_begun ends m.done line else (draft_step m line >>= λ n. Ok (parts.Drafting ends n)))
unfolding script_step
drafting_steps ends m line = refl

pub counting_steps : (ends : Ends) (drafts : List Draft) (m : CountsSeen) (line : LineSeen)
    → script_step (parts.Counting ends drafts m) line ≡ (if is_between_counts m.part && leads line (codes "EVENTS") then events_begun ends drafts m.done line else (count_step m line >>= λ n. Ok (parts.Counting ends drafts n)))
unfolding script_step
counting_steps ends drafts m line = refl

playing_same : (one other : Script) → parts.Playing one ≡ parts.Playing other → one ≡ other
playing_same one other e = cc (e)

-- behind the drafts: the counts, and then the events
record CountsTold (ends : Ends) (drafts : List Draft) (lines : List LineSeen) (script : Script) : Type 0 where
  counts : List Count
  own : List LineSeen
  line : LineSeen
  rest : List LineSeen
  joined : lines ≡ own ++ line ∷ rest
  say : AreSaidCounts counts own
  begins : IsLed line (codes "EVENTS") 1
  events : List Event
  say_events : SayEvents events rest
  few : length events ≤ 10_000
  is : record { ends = ends; drafts = drafts; counts = counts; events = events } ≡ script

counts_told : (ends : Ends) (drafts : List Draft) (lines : List LineSeen) (script : Script) → said_by script_step (parts.Counting ends drafts no_counts) lines ≡ Ok (parts.Playing script)
    → CountsTold ends drafts lines script
counts_told ends drafts lines script e =
    let p = parted count_step (λ m. is_between_counts m.part) (codes "EVENTS") (λ m. parts.Counting ends drafts m) (λ m line. events_begun ends drafts m.done line) (counting_steps ends drafts)
    no_counts lines (parts.Playing script) (λ m (same : parts.Counting ends drafts m ≡ parts.Playing script). cc (same)) e in
    let begun : Script = record { ends = ends; drafts = drafts; counts = p.to.done; events = [] } in
    let here = unless_ok (misplaced p.line (codes "EVENTS") 1) p.line (Ok (parts.Playing begun)) p.behind p.begins in
    let events = events_told begun [] p.rest (parts.Playing script) (omega arith)
    (subst (λ (m : ScriptSoFar). said_by script_step m p.rest ≡ Ok (parts.Playing script)) (sym (ok_same (parts.Playing begun) p.behind here.is)) p.goes_on) in
    record {
      counts = p.to.done;
      own = p.own;
      line = p.line;
      rest = p.rest;
      joined = p.joined;
      say = counts_said p.own p.to p.said (count_between p.to.part p.whole);
      begins = led p.line (codes "EVENTS") 1 here.none;
      events = events.events;
      say_events = events.say;
      few = events.few;
      is = playing_same (record begun { events = events.events }) script events.is;
    }

-- behind the lines of the two ends and `DRAFTS`
record DraftsTold (ends : Ends) (lines : List LineSeen) (script : Script) : Type 0 where
  drafts : List Draft
  own : List LineSeen
  line : LineSeen
  rest : List LineSeen
  joined : lines ≡ own ++ line ∷ rest
  say : AreSaidDrafts drafts own
  begins : IsLed line (codes "COUNTS") 1
  behind : CountsTold ends drafts rest script

drafts_told : (ends : Ends) (lines : List LineSeen) (script : Script) → said_by script_step (parts.Drafting ends no_drafts) lines ≡ Ok (parts.Playing script) → DraftsTold ends lines script
drafts_told ends lines script e =
    let p = parted draft_step (λ m. is_between_drafts m.part) (codes "COUNTS") (λ m. parts.Drafting ends m) (λ m line. counts_begun ends m.done line) (drafting_steps ends)
    no_drafts lines (parts.Playing script) (λ m (same : parts.Drafting ends m ≡ parts.Playing script). cc (same)) e in
    let begun : ScriptSoFar = parts.Counting ends p.to.done no_counts in
    let here = unless_ok (misplaced p.line (codes "COUNTS") 1) p.line (Ok begun) p.behind p.begins in
    record {
      drafts = p.to.done;
      own = p.own;
      line = p.line;
      rest = p.rest;
      joined = p.joined;
      say = drafts_said p.own p.to p.said (draft_between p.to.part p.whole);
      begins = led p.line (codes "COUNTS") 1 here.none;
      behind = counts_told ends p.to.done p.rest script (subst (λ (m : ScriptSoFar). said_by script_step m p.rest ≡ Ok (parts.Playing script)) (sym (ok_same begun p.behind here.is)) p.goes_on);
    }

-- ---- the whole text

lines_joined : (a b d : LineSeen) (lines drafts : List LineSeen) (c : LineSeen) (behind counts : List LineSeen) (e : LineSeen) (events : List LineSeen) → lines ≡ drafts ++ c ∷ behind → behind ≡ counts ++ e ∷ events
    → a ∷ b ∷ d ∷ lines ≡ a ∷ b ∷ d ∷ (drafts ++ c ∷ (counts ++ e ∷ events))
lines_joined a b d lines drafts c behind counts e events one two = ap (λ (ls : List LineSeen). a ∷ b ∷ d ∷ ls) (one ∙ ap (λ (ls : List LineSeen). drafts ++ c ∷ ls) two)

named_said : (a b : LineSeen) (lines : List LineSeen) (ends : Ends) (script : Script) → said_by script_step (parts.Named ends) lines ≡ Ok (parts.Playing script) → SaysHeader Supplier ends.handheld a
    → SaysHeader Receiver ends.receiver b → AreLinesOf script (a ∷ b ∷ lines)
unfolding script_step
named_said a b [] ends script e handheld receiver = absurd (let same : parts.Named ends ≡ parts.Playing script = ok_same (parts.Named ends) (parts.Playing script) e in cc (same))
named_said a b (d ∷ lines) ends script e handheld receiver =
    let one = bind_ok (drafts_begun ends d) (λ m. said_by script_step m lines) (parts.Playing script) e in
    let here = unless_ok (misplaced d (codes "DRAFTS") 1) d (Ok (parts.Drafting ends no_drafts)) one.value one.is in
    let drafts = drafts_told ends lines script (subst (λ (m : ScriptSoFar). said_by script_step m lines ≡ Ok (parts.Playing script)) (sym (ok_same (parts.Drafting ends no_drafts) one.value here.is)) one.goes_on) in
    let counts = drafts.behind in
    subst (λ (s : Script). AreLinesOf s (a ∷ b ∷ d ∷ lines)) counts.is (record {
      handheld = a;
      receiver = b;
      before_drafts = d;
      drafts = drafts.own;
      before_counts = drafts.line;
      counts = counts.own;
      before_events = counts.line;
      events = counts.rest;
      joined = lines_joined a b d lines drafts.own drafts.line drafts.rest counts.own counts.line counts.rest drafts.joined counts.joined;
      says_handheld = handheld;
      says_receiver = receiver;
      begins_drafts = led d (codes "DRAFTS") 1 here.none;
      say_drafts = drafts.say;
      begins_counts = drafts.begins;
      say_counts = counts.say;
      begins_events = counts.begins;
      say_events = counts.say_events;
      few = counts.few;
    })

lines_said : (lines : List LineSeen) (script : Script) → said_by script_step parts.Nothing lines ≡ Ok (parts.Playing script) → AreLinesOf script lines
unfolding script_step
lines_said [] script e = absurd (let same : parts.Nothing ≡ parts.Playing script = ok_same parts.Nothing (parts.Playing script) e in cc (same))
lines_said (a ∷ []) script e =
    let handheld = bind_ok (header_at Supplier a >>= λ h. Ok (parts.Handheld h)) (λ m. said_by script_step m []) (parts.Playing script) e in
    let header = bind_ok (header_at Supplier a) (λ h. Ok (parts.Handheld h)) handheld.value handheld.is in
    absurd (let same : parts.Handheld header.value ≡ parts.Playing script = ok_same _ handheld.value header.goes_on ∙ ok_same handheld.value (parts.Playing script) handheld.goes_on in cc (same))
lines_said (a ∷ b ∷ lines) script e =
    let first = bind_ok (header_at Supplier a >>= λ h. Ok (parts.Handheld h)) (λ m. said_by script_step m (b ∷ lines)) (parts.Playing script) e in
    let handheld = bind_ok (header_at Supplier a) (λ h. Ok (parts.Handheld h)) first.value first.is in
    let on : said_by script_step (parts.Handheld handheld.value) (b ∷ lines) ≡ Ok (parts.Playing script) = subst (λ (m : ScriptSoFar). said_by script_step m (b ∷ lines) ≡ Ok (parts.Playing script)) (sym (ok_same _ first.value handheld.goes_on)) first.goes_on in
    let second = bind_ok (header_at Receiver b >>= λ r. Ok (parts.Named (record { handheld = handheld.value; receiver = r }))) (λ m. said_by script_step m lines) (parts.Playing script) on in
    let receiver = bind_ok (header_at Receiver b) (λ r. Ok (parts.Named (record { handheld = handheld.value; receiver = r }))) second.value second.is in
    let ends : Ends = record { handheld = handheld.value; receiver = receiver.value } in
    let further : said_by script_step (parts.Named ends) lines ≡ Ok (parts.Playing script) = subst (λ (m : ScriptSoFar). said_by script_step m lines ≡ Ok (parts.Playing script)) (sym (ok_same _ second.value receiver.goes_on)) second.goes_on in
    named_said a b lines ends script further (header_said Supplier a handheld.value handheld.is) (header_said Receiver b receiver.value receiver.is)

ended_by : (last : ScriptSoFar) (end : ℕ) (script : Script) → finished end last ≡ Ok script → last ≡ parts.Playing script
ended_by parts.Nothing end script e = cc (e)
ended_by (parts.Handheld handheld) end script e = cc (e)
ended_by (parts.Named ends) end script e = cc (e)
ended_by (parts.Drafting ends drafts) end script e = cc (e)
ended_by (parts.Counting ends drafts counts) end script e = cc (e)
ended_by (parts.Playing last) end script e = ap (λ (s : Script). parts.Playing s) (ok_same last script e)

pub says : (text : List ℕ) (script : Script) → script_of text ≡ Ok script → Says script text
says text script e =
    let whole = bind_ok (said_by script_step parts.Nothing (lines_in text).lines) (finished (lines_in text).end) script e in
    let last : whole.value ≡ parts.Playing script = ended_by whole.value (lines_in text).end script whole.goes_on in
    lines_said (lines_in text).lines script (whole.is ∙ ap (λ (m : ScriptSoFar). Ok m) last)

-- an answer of which want of memory alone is free
pub found : (text : List ℕ) (result : Result Script DraftFault) → UnlessMemory Memory result (script_of text) → IfOk result (λ script. Says script text)
found text (Ok script) (inl none) = cc (none)
found text (Ok script) (inr is) = says text script (sym is)
found text (Err fault) either = tt
