-- What is read of a text is what the text says.
use Rattle.std.proofs.Common.{◌≡◌, ◌<◌, inl, inr, IfOk, ℕ, bytes_eq, nat_le, Bool, true, false, List, [], ◌∷◌, ◌++◌, length, map, codes, Result, Ok, Err, if◌then◌else◌, refl, sym, ap, subst, ◌∙◌, arith, append_assoc, append-nil}
use Rattle.std.specs.List.{flat_map}
use Rattle.std.proofs.lemmas.List.{map-append}
use Rattle.std.proofs.lemmas.Grind.{flat_map-append}
use Rattle.std.proofs.lemmas.Bool.Decides.{nat_tests}
use Rattle.std.proofs.lemmas.List.Elements.{All-nil}
use Rattle.std.proofs.lemmas.Slice.Eq.{bytes_eq-Decides}
use Rattle.dsd_values.specs.Reading.{delivery_number_of, word_between}
use Rattle.dsd_values.specs.Answers.{UnlessMemory}
use Rattle.dsd_values.specs.SignatureRecord.{SignatureRecord}
use Rattle.dsd_values.specs.declared.fault.ValueFault.{ValueFault}
use Rattle.dsd_values.specs.declared.fault.ValueFault.TheVariants.{OutOfRange}
use Rattle.dsd_record.specs.declared.draft_fault.DraftFault.{DraftFault}
use Rattle.dsd_record.specs.declared.draft_fault.DraftFault.TheVariants.{Memory}
use Rattle.plain_lines.specs.Counting.{AreCounts as AreRight, counts_with}
use Rattle.plain_lines.proofs.Unrefused.{bind_ok, led, ok_same, one_more, passed, unless_ok, value_ok}
use Rattle.plain_lines.specs.PlainText.{LineSeen, leads, lines_in, word_of_line}
use Rattle.plain_lines.specs.Refusing.{misplaced, said_by, signature_in, value_at}
use Rattle.plain_lines.specs.declared.counted.Counted.{Counted}
use Rattle.receiver_core.specs.CountTexts.{AreCounts, Entry, Number, Sign, Counters, Item, End, Say, Says, SaysEntry, answer_text, entries_of, is_known, AreSaid}
use Rattle.receiver_core.specs.Reading.{IsBegun, SoFar, answer_of, count_step, counts_of, finished, in_part, nothing, with_end, with_item}
use Rattle.receiver_core.proofs.Known.{counts_more}
use Rattle.receiver_core.specs.declared.count.Count.{Count}
use Rattle.receiver_core.specs.declared.reading.Part.{Part}
use Rattle.receiver_core.specs.declared.reading.Part.TheVariants as parts

-- ---- one line: what it says

abbrev part_entries : Part → List Entry
part_entries parts.Between = []
part_entries (parts.Headed number) = Number number ∷ []
part_entries (parts.Signed number signature) = Number number ∷ Sign signature ∷ []
part_entries (parts.Lines count) = Number count.number ∷ Sign count.signature ∷ Counters count.counters ∷ map Item count.lines

abbrev entries_so_far : List Count → Part → List Entry
entries_so_far done part = flat_map entries_of done ++ part_entries part

abbrev IsFinePart : Part → List Count → Type 0
IsFinePart parts.Between done = Unit {0}
IsFinePart (parts.Headed number) done = IsBegun number done
IsFinePart (parts.Signed number signature) done = IsBegun number done
IsFinePart (parts.Lines count) done = IsBegun count.number done × AreRight count.lines

record Told (done : List Count) (part : Part) (next : SoFar) (line : LineSeen) : Type 0 where
  entry : Entry
  says : SaysEntry entry line
  more : entries_so_far next.done next.part ≡ entries_so_far done part ++ entry ∷ []
  counts : AreCounts next.done
  fine : IsFinePart next.part next.done

-- where no count is open, the line of one begins
pub begins_count : (done : List Count) (line : LineSeen) (next : SoFar) → in_part parts.Between done line ≡ Ok next → leads line (codes "COUNT") ≡ true
begins_count done line next e = let here = unless_ok (misplaced line (codes "COUNT") 2) line _ next e in (led line (codes "COUNT") 2 here.none).leading

begun_told : (done : List Count) (line : LineSeen) (next : SoFar) → AreCounts done → in_part parts.Between done line ≡ Ok next → Told done parts.Between next line
begun_told done line next are e =
    let here = unless_ok (misplaced line (codes "COUNT") 2) line _ next e in
    let limit = passed (nat_le 200 (length done)) line _ _ next here.is in
    let number = bind_ok (value_at line 1 (delivery_number_of (word_of_line line 1))) _ next limit.is in
    let fresh = passed (is_known number.value done) line _ _ next number.goes_on in
    let room : length done < 200 = let none : nat_le 200 (length done) ≡ false = limit.none in grind (arith, nat_tests) in
    subst (λ (m : SoFar). Told done parts.Between m line) (ok_same _ next fresh.is) (record {
      entry = Number number.value;
      says = (led line (codes "COUNT") 2 here.none, value_ok line 1 _ number.value number.is);
      more = ap (λ (es : List Entry). es ++ Number number.value ∷ []) (sym (append-nil (flat_map entries_of done)));
      counts = are;
      fine = record { fresh = fresh.none; room = room };
    })

signed_told : (done : List Count) (number : List ℕ) (line : LineSeen) (next : SoFar) → AreCounts done → IsBegun number done → in_part (parts.Headed number) done line ≡ Ok next → Told done (parts.Headed number) next line
signed_told done number line next are fine e =
    let here = unless_ok (misplaced line (codes "SIGN") 2) line _ next e in
    let signature = bind_ok (signature_in line) _ next here.is in
    let mark = bind_ok (value_at line 1 (word_between 1 12 (word_of_line line 1))) _ signature.value signature.is in
    let same = ok_same _ signature.value mark.goes_on in
    subst (λ (m : SoFar). Told done (parts.Headed number) m line) (ok_same _ next signature.goes_on) (record {
      entry = Sign signature.value;
      says = (led line (codes "SIGN") 2 here.none, record { mark = value_ok line 1 _ mark.value mark.is ∙ ap (λ (s : SignatureRecord). Ok s.mark) same; name = sym (ap (λ (s : SignatureRecord). s.name) same) });
      more = sym (append_assoc (flat_map entries_of done) (Number number ∷ []) (Sign signature.value ∷ []));
      counts = are;
      fine = fine;
    })

answer_said : (text : List ℕ) (counters : Bool) → answer_of text ≡ Ok counters → text ≡ answer_text counters
answer_said [] counters e = cc (e)
answer_said (b ∷ more) counters e = by (bytes_eq (b ∷ more) (codes "YES")) (bytes_eq (b ∷ more) (codes "NO")) (bytes_eq-Decides (b ∷ more) (codes "YES")).0 (bytes_eq-Decides (b ∷ more) (codes "NO")).0 counters e
  where
    by : (yes_test no_test : Bool) → (yes_test ≡ true → b ∷ more ≡ codes "YES") → (no_test ≡ true → b ∷ more ≡ codes "NO") → (counters : Bool)
        → (let r : Result Bool ValueFault = if yes_test then Ok true else if no_test then Ok false else Err OutOfRange in r) ≡ Ok counters → b ∷ more ≡ answer_text counters
    by true no_test yes_is no_is true e = yes_is refl
    by true no_test yes_is no_is false e = cc (e)
    by false true yes_is no_is false e = no_is refl
    by false true yes_is no_is true e = cc (e)
    by false false yes_is no_is counters e = cc (e)

answered_told : (done : List Count) (number : List ℕ) (signature : SignatureRecord) (line : LineSeen) (next : SoFar) → AreCounts done → IsBegun number done
    → in_part (parts.Signed number signature) done line ≡ Ok next → Told done (parts.Signed number signature) next line
answered_told done number signature line next are fine e =
    let here = unless_ok (misplaced line (codes "COUNTER") 2) line _ next e in
    let counters = bind_ok (value_at line 1 (answer_of (word_of_line line 1))) _ next here.is in
    subst (λ (m : SoFar). Told done (parts.Signed number signature) m line) (ok_same _ next counters.goes_on) (record {
      entry = Counters counters.value;
      says = (led line (codes "COUNTER") 2 here.none, answer_said (word_of_line line 1) counters.value (value_ok line 1 _ counters.value counters.is));
      more = sym (append_assoc (flat_map entries_of done) (Number number ∷ Sign signature ∷ []) (Counters counters.value ∷ []));
      counts = are;
      fine = (fine, record { right = All-nil _; apart = tt; few = omega arith });
    })

lines_told : (done : List Count) (count : Count) (line : LineSeen) (next : SoFar) → AreCounts done → IsBegun count.number done → AreRight count.lines → in_part (parts.Lines count) done line ≡ Ok next
    → Told done (parts.Lines count) next line
lines_told done count line next are begun right e = by (leads line (codes "ITEM")) e
  where
    item : with_item done count line ≡ Ok next → Told done (parts.Lines count) next line
    item e =
        let here = unless_ok (misplaced line (codes "ITEM") 4) line _ next e in
        let is = led line (codes "ITEM") 4 here.none in
        let lines = bind_ok (counts_with count.lines line) _ next here.is in
        let new = one_more count.lines lines.value line right is.words lines.is in
        let head : List Entry = Number count.number ∷ Sign count.signature ∷ Counters count.counters ∷ [] in
        subst (λ (m : SoFar). Told done (parts.Lines count) m line) (ok_same _ next lines.goes_on) (record {
          entry = Item new.counted;
          says = (is, new.says);
          more = ap (λ (xs : List Counted). flat_map entries_of done ++ (head ++ map Item xs)) (sym new.is)
              ∙ ap (λ (es : List Entry). flat_map entries_of done ++ (head ++ es)) (map-append Item count.lines (new.counted ∷ []))
              ∙ sym (append_assoc (flat_map entries_of done) (head ++ map Item count.lines) (Item new.counted ∷ []));
          counts = are;
          fine = (begun, new.right);
        })

    end : with_end done count line ≡ Ok next → Told done (parts.Lines count) next line
    end e =
        let here = unless_ok (misplaced line (codes "END") 1) line _ next e in
        let rows : List Entry = Number count.number ∷ Sign count.signature ∷ Counters count.counters ∷ map Item count.lines in
        subst (λ (m : SoFar). Told done (parts.Lines count) m line) (ok_same _ next here.is) (record {
          entry = End;
          says = led line (codes "END") 1 here.none;
          more = append-nil (flat_map entries_of (done ++ count ∷ [])) ∙ flat_map-append entries_of done (count ∷ []) ∙ ap (λ (es : List Entry). flat_map entries_of done ++ es) (append-nil (entries_of count))
              ∙ sym (append_assoc (flat_map entries_of done) rows (End ∷ []));
          counts = counts_more done count are right begun.fresh begun.room;
          fine = tt;
        })

    by : (b : Bool) → (if b then with_item done count line else with_end done count line) ≡ Ok next → Told done (parts.Lines count) next line
    by true e = item e
    by false e = end e

told : (done : List Count) (part : Part) (line : LineSeen) (next : SoFar) → AreCounts done → IsFinePart part done → in_part part done line ≡ Ok next → Told done part next line
told done parts.Between line next are fine e = begun_told done line next are e
told done (parts.Headed number) line next are fine e = signed_told done number line next are fine e
told done (parts.Signed number signature) line next are fine e = answered_told done number signature line next are fine e
told done (parts.Lines count) line next are fine e = lines_told done count line next are fine.0 fine.1 e

-- ---- all lines

record AllTold (so_far next : SoFar) (lines : List LineSeen) : Type 0 where
  entries : List Entry
  say : Say entries lines
  more : entries_so_far next.done next.part ≡ entries_so_far so_far.done so_far.part ++ entries
  counts : AreCounts next.done

all_told : (so_far next : SoFar) (lines : List LineSeen) → AreCounts so_far.done → IsFinePart so_far.part so_far.done → said_by count_step so_far lines ≡ Ok next → AllTold so_far next lines
unfolding count_step
all_told so_far next [] are fine e =
    subst (λ (m : SoFar). AllTold so_far m []) (ok_same so_far next e) (record { entries = []; say = tt; more = sym (append-nil (entries_so_far so_far.done so_far.part)); counts = are })
all_told so_far next (line ∷ lines) are fine e =
    let one = bind_ok (count_step so_far line) (λ m. said_by count_step m lines) next e in
    let here = told so_far.done so_far.part line one.value are fine one.is in
    let rest = all_told one.value next lines here.counts here.fine one.goes_on in
    record {
      entries = here.entry ∷ rest.entries;
      say = (here.says, rest.say);
      more = rest.more ∙ ap (λ (es : List Entry). es ++ rest.entries) here.more ∙ append_assoc (entries_so_far so_far.done so_far.part) (here.entry ∷ []) rest.entries;
      counts = rest.counts;
    }

-- ---- the whole text

record Ended (so_far : SoFar) (counts : List Count) : Type 0 where
  part : so_far.part ≡ parts.Between
  done : so_far.done ≡ counts

ended_by : (part : Part) (done : List Count) (end : ℕ) (counts : List Count) → finished end (record { done = done; part = part }) ≡ Ok counts → (part ≡ parts.Between) × (done ≡ counts)
ended_by parts.Between done end counts e = (refl, ok_same done counts e)
ended_by (parts.Headed number) done end counts e = cc (e)
ended_by (parts.Signed number signature) done end counts e = cc (e)
ended_by (parts.Lines count) done end counts e = cc (e)

no_counts : AreCounts []
no_counts = record { each = All-nil _; apart = tt; few = omega arith }

-- lines behind which no count is open say the counts that are whole
pub lines_said : (lines : List LineSeen) (next : SoFar) → said_by count_step nothing lines ≡ Ok next → next.part ≡ parts.Between → AreSaid next.done lines
lines_said lines next said between =
    let all = all_told nothing next lines no_counts tt said in
    let entries : flat_map entries_of next.done ≡ all.entries = sym (append-nil (flat_map entries_of next.done)) ∙ sym (ap (λ (part : Part). entries_so_far next.done part) between) ∙ all.more in
    record { lines = subst (λ (es : List Entry). Say es lines) (sym entries) all.say; counts_right = all.counts }

pub says : (text : List ℕ) (counts : List Count) → counts_of text ≡ Ok counts → Says counts text
says text counts e =
    let whole = bind_ok (said_by count_step nothing (lines_in text).lines) (finished (lines_in text).end) counts e in
    let ended = ended_by whole.value.part whole.value.done (lines_in text).end counts whole.goes_on in
    subst (λ (cs : List Count). AreSaid cs (lines_in text).lines) ended.1 (lines_said (lines_in text).lines whole.value whole.is ended.0)

-- an answer of which want of memory alone is free
pub found : (text : List ℕ) (result : Result (List Count) DraftFault) → UnlessMemory Memory result (counts_of text) → IfOk result (λ counts. Says counts text)
found text (Ok counts) (inl none) = cc (none)
found text (Ok counts) (inr is) = says text counts (sym is)
found text (Err fault) either = tt
