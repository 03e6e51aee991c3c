-- What a text says is read of it.
use Rattle.std.proofs.Common.{◌≡◌, ◌<◌, ℕ, bytes_eq, nat_eq, nat_le, Bool, true, false, List, [], ◌∷◌, ◌++◌, length, map, codes, Result, Ok, if◌then◌else◌, refl, sym, ap, subst, ◌∙◌, arith, append_assoc, append-nil, length-append}
use Rattle.std.specs.List.{All, flat_map}
use Rattle.std.proofs.lemmas.List.Elements.{All-head, All-tail}
use Rattle.std.proofs.lemmas.Slice.Eq.{bytes_eq-Decides}
use Rattle.dsd_values.specs.Answers.{UnlessMemory}
use Rattle.dsd_values.specs.Reading.{delivery_number_of}
use Rattle.dsd_values.specs.SignatureRecord.{SignatureRecord}
use Rattle.dsd_record.specs.declared.draft_fault.DraftFault.{DraftFault}
use Rattle.dsd_record.specs.declared.draft_fault.DraftFault.TheVariants.{Memory}
use Rattle.plain_lines.specs.Counting.{AreCounts as AreRight, SaysCounted, counts_with, is_counted, number_of as number_of_counted}
use Rattle.plain_lines.specs.PlainText.{LineSeen, leads, lines_in, piece_of, word_of_line}
use Rattle.plain_lines.specs.Refusing.{IsLed, SaysSignature, misplaced, said_by, signature_in, value_at}
use Rattle.plain_lines.specs.declared.counted.Counted.{Counted}
use Rattle.plain_lines.proofs.Keyed.{last_apart, prefix_apart, turned_numbers, turned_texts}
use Rattle.receiver_core.specs.CountTexts.{AreCounts, Entry, Item, End, Say, Says, answer_text, entries_of, is_known, number_of, AreSaid}
use Rattle.receiver_core.specs.Reading.{SoFar, answer_of, begun, count_step, counts_of, finished, nothing, with_end, with_item}
use Rattle.receiver_core.specs.declared.count.Count.{Count}
use Rattle.receiver_core.specs.declared.reading.Part.TheVariants as parts
use Rattle.plain_lines.proofs.Unrefused.{few_below, go_bind, go_passed, go_unless, go_value, placed, signature_again, with_again}

-- ---- one line

answer_again : (counters : Bool) → answer_of (answer_text counters) ≡ Ok counters
answer_again true = refl
answer_again false = refl

-- a line that ends a count is no counted line
no_item : (line : LineSeen) → leads line (codes "END") ≡ true → leads line (codes "ITEM") ≡ false
no_item line e = ap (λ (word : List ℕ). bytes_eq word (codes "ITEM")) ((bytes_eq-Decides (piece_of line 0) (codes "END")).0 e)

-- ---- the lines of one count

abbrev at : List Count → Count → SoFar
at done count = record { done = done; part = parts.Lines count }

abbrev holding : Count → List Counted → Count
holding count lines = record count { lines = lines }

-- what is left behind some lines: their entries, and what is said behind them
record Left (from to : SoFar) (rest : List Entry) (lines : List LineSeen) : Type 0 where
  left : List LineSeen
  say : Say rest left
  same : said_by count_step from lines ≡ said_by count_step to left

one_step : (from next : SoFar) (line : LineSeen) (lines : List LineSeen) → count_step from line ≡ Ok next → said_by count_step from (line ∷ lines) ≡ said_by count_step next lines
one_step from next line lines e = go_bind (count_step from line) (λ m. said_by count_step m lines) next e

item_step : (done : List Count) (count : Count) (line : LineSeen) (counted : Counted) → IsLed line (codes "ITEM") 4 → SaysCounted counted line → is_counted counted.dsd count.lines ≡ false → length count.lines < 999
    → count_step (at done count) line ≡ Ok (at done (holding count (count.lines ++ counted ∷ [])))
unfolding count_step
item_step done count line counted led says fresh room =
    ap (λ (b : Bool). if b then with_item done count line else with_end done count line) led.leading
    ∙ go_unless (misplaced line (codes "ITEM") 4) line _ (placed line (codes "ITEM") 4 led)
    ∙ go_bind (counts_with count.lines line) _ (count.lines ++ counted ∷ []) (with_again count.lines line counted says fresh room)

items_left : (done : List Count) (count : Count) (items : List Counted) (rest : List Entry) (lines : List LineSeen) → AreRight (count.lines ++ items) → Say (map Item items ++ rest) lines
    → Left (at done count) (at done (holding count (count.lines ++ items))) rest lines
items_left done count [] rest lines right say =
    record { left = lines; say = say; same = ap (λ (xs : List Counted). said_by count_step (at done (holding count xs)) lines) (sym (append-nil count.lines)) }
items_left done count (counted ∷ items) rest [] right say = absurd say
items_left done count (counted ∷ items) rest (line ∷ lines) right say =
    let joined : (count.lines ++ counted ∷ []) ++ items ≡ count.lines ++ counted ∷ items = append_assoc count.lines (counted ∷ []) items in
    let right2 : AreRight ((count.lines ++ counted ∷ []) ++ items) = subst AreRight (sym joined) right in
    let fresh : is_counted counted.dsd count.lines ≡ false = last_apart nat_eq turned_numbers number_of_counted count.lines counted (prefix_apart nat_eq turned_numbers number_of_counted (count.lines ++ counted ∷ []) items right2.apart) in
    let room : length count.lines < 999 = omega (arith, right.few, length-append count.lines (counted ∷ items)) in
    let behind = items_left done (holding count (count.lines ++ counted ∷ [])) items rest lines right2 say.1 in
    record {
      left = behind.left;
      say = behind.say;
      same = one_step (at done count) (at done (holding count (count.lines ++ counted ∷ []))) line lines (item_step done count line counted say.0.0 say.0.1 fresh room)
          ∙ behind.same ∙ ap (λ (xs : List Counted). said_by count_step (at done (holding count xs)) behind.left) joined;
    }

end_left : (done : List Count) (count : Count) (rest : List Entry) (lines : List LineSeen) → Say (End ∷ rest) lines → Left (at done count) (record { done = done ++ count ∷ []; part = parts.Between }) rest lines
unfolding count_step
end_left done count rest [] say = absurd say
end_left done count rest (line ∷ lines) say = record {
  left = lines;
  say = say.1;
  same = one_step (at done count) (record { done = done ++ count ∷ []; part = parts.Between }) line lines
      (ap (λ (b : Bool). if b then with_item done count line else with_end done count line) (no_item line say.0.leading) ∙ go_unless (misplaced line (codes "END") 1) line _ (placed line (codes "END") 1 say.0));
}

number_step : (done : List Count) (number : List ℕ) (line : LineSeen) → IsLed line (codes "COUNT") 2 → delivery_number_of (word_of_line line 1) ≡ Ok number → is_known number done ≡ false → length done < 200
    → count_step (record { done = done; part = parts.Between }) line ≡ Ok (record { done = done; part = parts.Headed number })
unfolding count_step
number_step done number line led says fresh room =
    go_unless (misplaced line (codes "COUNT") 2) line _ (placed line (codes "COUNT") 2 led)
    ∙ go_passed (nat_le 200 (length done)) line _ (begun done line) (few_below (length done) 200 room)
    ∙ go_bind (value_at line 1 (delivery_number_of (word_of_line line 1))) _ number (go_value line 1 _ number says)
    ∙ go_passed (is_known number done) line _ _ fresh

sign_step : (done : List Count) (number : List ℕ) (signature : SignatureRecord) (line : LineSeen) → IsLed line (codes "SIGN") 2 → SaysSignature signature line
    → count_step (record { done = done; part = parts.Headed number }) line ≡ Ok (record { done = done; part = parts.Signed number signature })
unfolding count_step
sign_step done number signature line led says =
    go_unless (misplaced line (codes "SIGN") 2) line _ (placed line (codes "SIGN") 2 led) ∙ go_bind (signature_in line) _ signature (signature_again line signature says)

answer_step : (done : List Count) (number : List ℕ) (signature : SignatureRecord) (counters : Bool) (line : LineSeen) → IsLed line (codes "COUNTER") 2 → word_of_line line 1 ≡ answer_text counters
    → count_step (record { done = done; part = parts.Signed number signature }) line ≡ Ok (at done (record { number = number; signature = signature; counters = counters; lines = [] }))
unfolding count_step
answer_step done number signature counters line led says =
    go_unless (misplaced line (codes "COUNTER") 2) line _ (placed line (codes "COUNTER") 2 led)
    ∙ go_bind (value_at line 1 (answer_of (word_of_line line 1))) _ counters (go_value line 1 _ counters (ap answer_of says ∙ answer_again counters))

-- ---- all counts

count_left : (done : List Count) (count : Count) (rest : List Entry) (lines : List LineSeen) → AreRight count.lines → is_known count.number done ≡ false → length done < 200 → Say (entries_of count ++ rest) lines
    → Left (record { done = done; part = parts.Between }) (record { done = done ++ count ∷ []; part = parts.Between }) rest lines
count_left done count rest [] right fresh room say = absurd say
count_left done count rest (a ∷ []) right fresh room say = absurd say.1
count_left done count rest (a ∷ b ∷ []) right fresh room say = absurd say.1.1
count_left done count rest (a ∷ b ∷ d ∷ lines) right fresh room say =
    let items : Say (map Item count.lines ++ End ∷ rest) lines = subst (λ (es : List Entry). Say es lines) (append_assoc (map Item count.lines) (End ∷ []) rest) say.1.1.1 in
    let bare : Count = holding count [] in
    let behind = items_left done bare count.lines (End ∷ rest) lines right items in
    let end = end_left done count rest behind.left behind.say in
    record {
      left = end.left;
      say = end.say;
      same = one_step (record { done = done; part = parts.Between }) (record { done = done; part = parts.Headed count.number }) a (b ∷ d ∷ lines) (number_step done count.number a say.0.0 say.0.1 fresh room)
          ∙ one_step (record { done = done; part = parts.Headed count.number }) (record { done = done; part = parts.Signed count.number count.signature }) b (d ∷ lines) (sign_step done count.number count.signature b say.1.0.0 say.1.0.1)
          ∙ one_step (record { done = done; part = parts.Signed count.number count.signature }) (at done bare) d lines (answer_step done count.number count.signature count.counters d say.1.1.0.0 say.1.1.0.1)
          ∙ behind.same ∙ end.same;
    }

counts_left : (done counts : List Count) (lines : List LineSeen) → AreCounts (done ++ counts) → All (λ (count : Count). AreRight count.lines) counts → Say (flat_map entries_of counts) lines
    → said_by count_step (record { done = done; part = parts.Between }) lines ≡ Ok (record { done = done ++ counts; part = parts.Between })
counts_left done [] [] are each say = ap (λ (cs : List Count). Ok (let m : SoFar = record { done = cs; part = parts.Between } in m)) (sym (append-nil done))
counts_left done [] (line ∷ lines) are each say = absurd say
counts_left done (count ∷ counts) lines are each say =
    let joined : (done ++ count ∷ []) ++ counts ≡ done ++ count ∷ counts = append_assoc done (count ∷ []) counts in
    let are2 : AreCounts ((done ++ count ∷ []) ++ counts) = subst AreCounts (sym joined) are in
    let fresh : is_known count.number done ≡ false = last_apart bytes_eq turned_texts number_of done count (prefix_apart bytes_eq turned_texts number_of (done ++ count ∷ []) counts are2.apart) in
    let room : length done < 200 = omega (arith, are.few, length-append done (count ∷ counts)) in
    let here = count_left done count (flat_map entries_of counts) lines (All-head (λ (c : Count). AreRight c.lines) count counts each) fresh room say in
    here.same ∙ counts_left (done ++ count ∷ []) counts here.left are2 (All-tail (λ (c : Count). AreRight c.lines) count counts each) here.say
    ∙ ap (λ (cs : List Count). Ok (let m : SoFar = record { done = cs; part = parts.Between } in m)) joined

-- what lines say is read of them
pub lines_again : (counts : List Count) (lines : List LineSeen) → AreSaid counts lines → said_by count_step nothing lines ≡ Ok (record { done = counts; part = parts.Between })
lines_again counts lines are = counts_left [] counts lines are.counts_right are.counts_right.each are.lines

pub again : (text : List ℕ) (counts : List Count) → Says counts text → counts_of text ≡ Ok counts
again text counts says =
    go_bind (said_by count_step nothing (lines_in text).lines) (finished (lines_in text).end) (record { done = counts; part = parts.Between }) (lines_again counts (lines_in text).lines says)

-- an answer of which want of memory alone is free
pub only : (text : List ℕ) (result : Result (List Count) DraftFault) → UnlessMemory Memory result (counts_of text) → (counts : List Count) → Says counts text → UnlessMemory Memory result (Ok counts)
only text result told counts says = subst (UnlessMemory Memory result) (again text counts says) told

-- a text says one thing
pub one : (text : List ℕ) (counts other : List Count) → Says counts text → Says other text → counts ≡ other
one text counts other says more = let same : (let r : Result (List Count) DraftFault = Ok counts in r) ≡ Ok other = sym (again text counts says) ∙ again text other more in cc (same)
