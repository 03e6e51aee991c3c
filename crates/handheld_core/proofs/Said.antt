-- What is read of a text is what the text says.
use Rattle.std.proofs.Common.{◌≡◌, ◌<◌, ◌≤◌, inl, inr, IfOk, ℕ, bytes_eq, nat_le, Bool, true, false, List, [], ◌∷◌, ◌++◌, length, map, codes, Result, Ok, Err, if◌then◌else◌, refl, sym, ap, subst, ◌∙◌, arith, append_assoc, append-nil, length-append}
use Rattle.std.specs.List.{All, flat_map}
use Rattle.std.specs.Result.{IsOk}
use Rattle.std.proofs.lemmas.Bool.Decides.{nat_tests}
use Rattle.std.proofs.lemmas.Grind.{flat_map-append}
use Rattle.std.proofs.lemmas.List.{map-append}
use Rattle.std.proofs.lemmas.List.Elements.{All-append, All-cons, All-nil}
use Rattle.dsd_pricing.specs.declared.amounts.Totals.{Totals}
use Rattle.dsd_pricing.specs.declared.fault.PriceFault.{PriceFault}
use Rattle.dsd_pricing.specs.Pricing.{totals_of}
use Rattle.dsd_values.specs.Answers.{UnlessMemory}
use Rattle.dsd_values.specs.Behind.{with_extra}
use Rattle.dsd_values.specs.Calendar.{day_of}
use Rattle.dsd_values.specs.Reading.{cents_of, cost_of, delivery_number_of, dsd_of, filled_word_of, flag_of, quantity_of, word_between, word_of}
use Rattle.dsd_values.specs.SignatureRecord.{SignatureRecord}
use Rattle.dsd_values.specs.declared.allowance.Allowance.{Allowance}
use Rattle.dsd_values.specs.declared.extra.Extra.{Extra}
use Rattle.dsd_values.specs.declared.extra.Extra.TheVariants.{Allow}
use Rattle.dsd_values.specs.declared.line.Line.{Line}
use Rattle.base_record_894.specs.BaseRecord.{BaseRecord}
use Rattle.base_record_894.specs.Making.{record_made, unless_unpriced}
use Rattle.base_record_894.specs.declared.head.BaseHead.{BaseHead}
use Rattle.dsd_record.specs.declared.draft_fault.DraftFault.{DraftFault}
use Rattle.dsd_record.specs.declared.draft_fault.DraftFault.TheVariants.{Memory}
use Rattle.transaction_set.specs.Reasons.{has_line}
use Rattle.transaction_set.proofs.Behind.{length_extra}
use Rattle.plain_lines.specs.Counting.{AreCounts, counts_with}
use Rattle.plain_lines.specs.Keyed.{AreApartBy}
use Rattle.plain_lines.specs.PlainText.{LineSeen, leads, lines_in, word_of_line}
use Rattle.plain_lines.specs.Refusing.{◌>>=◌, SaysSignature, misplaced, said_by, signature_in, unless, value_at}
use Rattle.plain_lines.proofs.Keyed.{apart_more, turned_texts}
use Rattle.plain_lines.proofs.Unrefused.{bind_ok, led, ok_same, one_more, passed, unless_ok, value_ok}
use Rattle.handheld_core.specs.DraftRows.{AreRows, Rows, SaysAllowance, SaysItem, allowance_in, allowed, beside, form_of, item_in, item_of, size_of, sized, unless_standing, with_allowance, with_item}
use Rattle.handheld_core.specs.DraftTexts.{Entry, Head, Sign, Tolerance, Beside, Item, Counter, End, IsSaid, Say, Says, SaysEntry, SaysHead, entries_of, is_known, item_entries, number_of, AreSaid}
use Rattle.handheld_core.specs.Reading.{IsBegun, SoFar, draft_of, draft_step, drafts_of, finished, going_on, head_in, in_part, is_in_line, nothing, one_allowance, one_item, priced, with_counter, with_end, with_row}
use Rattle.handheld_core.specs.declared.draft.Draft.{Draft}
use Rattle.handheld_core.specs.declared.reading.OpenDraft.{OpenDraft}
use Rattle.handheld_core.specs.declared.reading.Part.{Part}
use Rattle.handheld_core.specs.declared.reading.Part.TheVariants as parts
use Rattle.handheld_core.specs.declared.reading.Stage.{Stage}
use Rattle.handheld_core.specs.declared.reading.Stage.TheVariants as stages
use Rattle.handheld_core.proofs.Plain.{allowance_plain, item_bare, item_plain}
use Rattle.handheld_core.proofs.Rowed.{allowance_more, item_more, no_rows}

-- ---- one line

head_said : (line : LineSeen) (head : BaseHead) → head_in line ≡ Ok head → SaysHead head line
head_said line head e =
    let a = bind_ok (value_at line 1 (delivery_number_of (word_of_line line 1))) _ head e in
    let b = bind_ok (value_at line 2 (flag_of (word_of_line line 2))) _ head a.goes_on in
    let d = bind_ok (value_at line 3 (day_of (word_of_line line 3))) _ head b.goes_on in
    let f = bind_ok (value_at line 4 (word_of (word_of_line line 4))) _ head d.goes_on in
    let g = bind_ok (value_at line 5 (word_of (word_of_line line 5))) _ head f.goes_on in
    let h = bind_ok (value_at line 6 (word_of (word_of_line line 6))) _ head g.goes_on in
    let i = bind_ok (value_at line 7 (word_of (word_of_line line 7))) _ head h.goes_on in
    subst (λ (x : BaseHead). SaysHead x line) (ok_same _ head i.goes_on) (record {
      number = value_ok line 1 _ a.value a.is;
      flag = value_ok line 2 _ b.value b.is;
      day = value_ok line 3 _ d.value d.is;
      receiver_duns = value_ok line 4 _ f.value f.is;
      receiver_place = value_ok line 5 _ g.value g.is;
      supplier_duns = value_ok line 6 _ h.value h.is;
      supplier_place = value_ok line 7 _ i.value i.is;
    })

signature_said : (line : LineSeen) (signature : SignatureRecord) → signature_in line ≡ Ok signature → SaysSignature signature line
signature_said line signature e =
    let mark = bind_ok (value_at line 1 (word_between 1 12 (word_of_line line 1))) _ signature e in
    subst (λ (s : SignatureRecord). SaysSignature s line) (ok_same _ signature mark.goes_on) (record { mark = value_ok line 1 _ mark.value mark.is; name = refl })

record IsItemSaid (line : LineSeen) (item : Line) : Type 0 where
  says : SaysItem item line
  entries : item_entries item ≡ Item item ∷ []

item_said : (line : LineSeen) (item : Line) → item_in line ≡ Ok item → IsItemSaid line item
item_said line item e =
    let a = bind_ok (value_at line 1 (dsd_of (word_of_line line 1))) _ item e in
    let b = bind_ok (value_at line 2 (quantity_of (word_of_line line 2))) _ item a.goes_on in
    let d = bind_ok (value_at line 3 (filled_word_of (word_of_line line 3))) _ item b.goes_on in
    let f = bind_ok (value_at line 4 (word_of (word_of_line line 4))) _ item d.goes_on in
    let g = bind_ok (value_at line 5 (cost_of (word_of_line line 5))) _ item f.goes_on in
    subst (IsItemSaid line) (ok_same (item_of a.value b.value d.value f.value g.value) item g.goes_on) (record {
      says = record {
        dsd = value_ok line 1 _ a.value a.is;
        quantity = value_ok line 2 _ b.value b.is;
        unit = value_ok line 3 _ d.value d.is;
        upc = value_ok line 4 _ f.value f.is;
        cost = value_ok line 5 _ g.value g.is;
        other = refl;
      };
      entries = refl;
    })

allowance_said : (in_line : Bool) (line : LineSeen) (allowance : Allowance) → allowance_in in_line line ≡ Ok allowance → SaysAllowance in_line allowance line
allowance_said in_line line allowance e =
    let a = bind_ok (value_at line 1 (filled_word_of (word_of_line line 1))) _ allowance e in
    let b = bind_ok (value_at line 2 (filled_word_of (word_of_line line 2))) _ allowance a.goes_on in
    let d = bind_ok (value_at line 3 (form_of in_line (word_of_line line 3))) _ allowance b.goes_on in
    let f = bind_ok (value_at line 4 (size_of d.value (word_of_line line 4))) _ allowance d.goes_on in
    subst (λ (x : Allowance). SaysAllowance in_line x line) (ok_same (sized a.value b.value f.value) allowance f.goes_on)
    (d.value, f.value, value_ok line 1 _ a.value a.is, value_ok line 2 _ b.value b.is, value_ok line 3 _ d.value d.is, value_ok line 4 _ f.value f.is, refl)

-- ---- the entries so far

-- those of a draft behind its tolerance
abbrev row_entries : OpenDraft → List Entry
row_entries draft = map (Beside false) draft.rows.extras ++ flat_map item_entries draft.rows.lines ++ map Counter draft.counters

abbrev part_entries : Part → List Entry
part_entries parts.Between = []
part_entries (parts.Headed head) = Head head ∷ []
part_entries (parts.Signed head signature) = Head head ∷ Sign signature ∷ []
part_entries (parts.Open draft) = Head draft.head ∷ Sign draft.signature ∷ Tolerance draft.tolerance ∷ row_entries draft

abbrev entries_so_far : List Draft → Part → List Entry
entries_so_far done part = flat_map entries_of done ++ part_entries part

more_by : (front old new : List Entry) (entry : Entry) → new ≡ old ++ entry ∷ [] → front ++ new ≡ (front ++ old) ++ entry ∷ []
more_by front old new entry e = ap (λ (es : List Entry). front ++ es) e ∙ sym (append_assoc front old (entry ∷ []))

-- with no counters yet, a row goes behind the items
row_last : (extras items counters new : List Entry) (entry : Entry) → counters ≡ [] → new ≡ items ++ entry ∷ [] → (extras ++ new) ++ counters ≡ ((extras ++ items) ++ counters) ++ entry ∷ []
row_last extras items counters new entry none e =
    ap (λ (es : List Entry). (extras ++ es) ++ counters) e ∙ ap (λ (es : List Entry). (extras ++ (items ++ entry ∷ [])) ++ es) none ∙ append-nil (extras ++ (items ++ entry ∷ []))
    ∙ sym (append_assoc extras items (entry ∷ [])) ∙ ap (λ (es : List Entry). es ++ entry ∷ []) (sym (append-nil (extras ++ items))) ∙ ap (λ (es : List Entry). ((extras ++ items) ++ es) ++ entry ∷ []) (sym none)

-- with no items either, an allowance goes behind those of the record
extra_last : (extras items counters new : List Entry) (entry : Entry) → items ≡ [] → counters ≡ [] → new ≡ extras ++ entry ∷ [] → (new ++ items) ++ counters ≡ ((extras ++ items) ++ counters) ++ entry ∷ []
extra_last extras items counters new entry no_items none e =
    ap (λ (es : List Entry). (new ++ es) ++ counters) no_items ∙ ap (λ (es : List Entry). (new ++ []) ++ es) none ∙ append-nil (new ++ []) ∙ append-nil new ∙ e
    ∙ ap (λ (es : List Entry). es ++ entry ∷ []) (sym (append-nil extras) ∙ sym (append-nil (extras ++ [])) ∙ ap (λ (es : List Entry). (extras ++ []) ++ es) (sym none) ∙ ap (λ (es : List Entry). (extras ++ es) ++ counters) (sym no_items))

-- an allowance more behind the last item
items_with : (extra : Extra) (lines : List Line) → 0 < length lines → flat_map item_entries (with_extra extra lines) ≡ flat_map item_entries lines ++ Beside true extra ∷ []
items_with extra [] some = absurd (omega arith)
items_with extra (line ∷ []) some =
    let behind : List Entry = map (Beside true) line.extras in
    ap (λ (es : List Entry). Item (record line { extras = [] }) ∷ (es ++ [])) (map-append (Beside true) line.extras (extra ∷ []))
    ∙ ap (λ (es : List Entry). Item (record line { extras = [] }) ∷ es) (append-nil (behind ++ Beside true extra ∷ []) ∙ ap (λ (es : List Entry). es ++ Beside true extra ∷ []) (sym (append-nil behind)))
items_with extra (line ∷ next ∷ lines) some =
    ap (λ (es : List Entry). item_entries line ++ es) (items_with extra (next ∷ lines) (omega arith)) ∙ sym (append_assoc (item_entries line) (flat_map item_entries (next ∷ lines)) (Beside true extra ∷ []))

-- ---- what stands so far is right

record AreDone (done : List Draft) : Type 0 where
  each : All IsSaid done
  apart : AreApartBy bytes_eq number_of done
  few : length done ≤ 200

abbrev IsFineStage : Stage → OpenDraft → Type 0
IsFineStage stages.Record draft = (draft.rows.lines ≡ []) × (draft.counters ≡ [])
IsFineStage stages.Item draft = (0 < length draft.rows.lines) × (draft.counters ≡ [])
IsFineStage stages.Counter draft = Unit {0}

record IsFineOpen (draft : OpenDraft) (done : List Draft) : Type 0 where
  begun : IsBegun draft.head done
  rows : AreRows draft.rows
  counters : AreCounts draft.counters
  stage : IsFineStage draft.stage draft

abbrev IsFinePart : Part → List Draft → Type 0
IsFinePart parts.Between done = Unit {0}
IsFinePart (parts.Headed head) done = IsBegun head done
IsFinePart (parts.Signed head signature) done = IsBegun head done
IsFinePart (parts.Open draft) done = IsFineOpen draft done

record Told (done : List Draft) (part : Part) (next : SoFar) (line : LineSeen) : Type 0 where
  entry : Entry
  says : SaysEntry entry line
  more : entries_so_far next.done next.part ≡ entries_so_far done part ++ entry ∷ []
  are : AreDone next.done
  fine : IsFinePart next.part next.done

-- ---- the lines in front of the rows

-- where no draft is open, the line of one begins
pub begins_draft : (done : List Draft) (line : LineSeen) (next : SoFar) → in_part parts.Between done line ≡ Ok next → leads line (codes "DRAFT") ≡ true
begins_draft done line next e = let here = unless_ok (misplaced line (codes "DRAFT") 8) line _ next e in (led line (codes "DRAFT") 8 here.none).leading

begun_told : (done : List Draft) (line : LineSeen) (next : SoFar) → AreDone done → in_part parts.Between done line ≡ Ok next → Told done parts.Between next line
begun_told done line next are e =
    let here = unless_ok (misplaced line (codes "DRAFT") 8) line _ next e in
    let limit = passed (nat_le 200 (length done)) line _ _ next here.is in
    let head = bind_ok (head_in line) _ next limit.is in
    let fresh = passed (is_known head.value.number done) line _ _ next head.goes_on in
    let room : length done < 200 = let none : nat_le 200 (length done) ≡ false = limit.none in grind (arith, nat_tests) in
    subst (λ (m : SoFar). Told done parts.Between m line) (ok_same _ next fresh.is) (record {
      entry = Head head.value;
      says = (led line (codes "DRAFT") 8 here.none, head_said line head.value head.is);
      more = ap (λ (es : List Entry). es ++ Head head.value ∷ []) (sym (append-nil (flat_map entries_of done)));
      are = are;
      fine = record { fresh = fresh.none; room = room };
    })

signed_told : (done : List Draft) (head : BaseHead) (line : LineSeen) (next : SoFar) → AreDone done → IsBegun head done → in_part (parts.Headed head) done line ≡ Ok next → Told done (parts.Headed head) next line
signed_told done head line next are begun e =
    let here = unless_ok (misplaced line (codes "SIGN") 2) line _ next e in
    let signature = bind_ok (signature_in line) _ next here.is in
    subst (λ (m : SoFar). Told done (parts.Headed head) m line) (ok_same _ next signature.goes_on) (record {
      entry = Sign signature.value;
      says = (led line (codes "SIGN") 2 here.none, signature_said line signature.value signature.is);
      more = sym (append_assoc (flat_map entries_of done) (Head head ∷ []) (Sign signature.value ∷ []));
      are = are;
      fine = begun;
    })

no_counters : AreCounts []
no_counters = record { right = All-nil _; apart = tt; few = omega arith }

tolerated_told : (done : List Draft) (head : BaseHead) (signature : SignatureRecord) (line : LineSeen) (next : SoFar) → AreDone done → IsBegun head done → in_part (parts.Signed head signature) done line ≡ Ok next
    → Told done (parts.Signed head signature) next line
tolerated_told done head signature line next are begun e =
    let here = unless_ok (misplaced line (codes "TOLERANCE") 2) line _ next e in
    let tolerance = bind_ok (value_at line 1 (cents_of (word_of_line line 1))) _ next here.is in
    subst (λ (m : SoFar). Told done (parts.Signed head signature) m line) (ok_same _ next tolerance.goes_on) (record {
      entry = Tolerance tolerance.value;
      says = (led line (codes "TOLERANCE") 2 here.none, value_ok line 1 _ tolerance.value tolerance.is);
      more = sym (append_assoc (flat_map entries_of done) (Head head ∷ Sign signature ∷ []) (Tolerance tolerance.value ∷ []));
      are = are;
      fine = record { begun = begun; rows = no_rows; counters = no_counters; stage = (refl, refl) };
    })

-- ---- the rows

module _ (done : List Draft) (draft : OpenDraft) (line : LineSeen) (next : SoFar) (are : AreDone done) (fine : IsFineOpen draft done) where
  front : List Entry → List Entry
  front rows = Head draft.head ∷ Sign draft.signature ∷ Tolerance draft.tolerance ∷ rows

  counter_told : with_counter done draft line ≡ Ok next → Told done (parts.Open draft) next line
  unfolding front
  counter_told e =
      let here = unless_ok (misplaced line (codes "COUNTER") 4) line _ next e in
      let is = led line (codes "COUNTER") 4 here.none in
      let counters = bind_ok (counts_with draft.counters line) _ next here.is in
      let new = one_more draft.counters counters.value line fine.counters is.words counters.is in
      let rows : List Entry = map (Beside false) draft.rows.extras ++ flat_map item_entries draft.rows.lines in
      let counted : map Counter counters.value ≡ map Counter draft.counters ++ Counter new.counted ∷ [] = ap (map Counter) (sym new.is) ∙ map-append Counter draft.counters (new.counted ∷ []) in
      subst (λ (m : SoFar). Told done (parts.Open draft) m line) (ok_same _ next counters.goes_on) (record {
        entry = Counter new.counted;
        says = (is, new.says);
        more = more_by (flat_map entries_of done) (front (row_entries draft)) (front (rows ++ map Counter counters.value)) (Counter new.counted)
            (ap front (ap (λ (es : List Entry). rows ++ es) counted ∙ sym (append_assoc rows (map Counter draft.counters) (Counter new.counted ∷ []))));
        are = are;
        fine = record { begun = fine.begun; rows = fine.rows; counters = new.right; stage = tt };
      })

  item_told : draft.counters ≡ [] → one_item done draft line ≡ Ok next → Told done (parts.Open draft) next line
  unfolding front
  item_told none e =
      let here = unless_ok (misplaced line (codes "ITEM") 6) line _ next e in
      let is = led line (codes "ITEM") 6 here.none in
      let rows = bind_ok (with_item draft.rows line) _ next here.is in
      let limit = passed (nat_le 999 (length draft.rows.lines)) line _ _ rows.value rows.is in
      let item = bind_ok (item_in line) (unless_standing draft.rows line) rows.value limit.is in
      let fresh = passed (has_line item.value.dsd draft.rows.lines) line _ _ rows.value item.goes_on in
      let new : Rows = record draft.rows { lines = draft.rows.lines ++ item.value ∷ [] } in
      let same : new ≡ rows.value = ok_same new rows.value fresh.is in
      let said = item_said line item.value item.is in
      let room : length draft.rows.lines < 999 = let below : nat_le 999 (length draft.rows.lines) ≡ false = limit.none in grind (arith, nat_tests) in
      let items : flat_map item_entries (draft.rows.lines ++ item.value ∷ []) ≡ flat_map item_entries draft.rows.lines ++ Item item.value ∷ [] =
      flat_map-append item_entries draft.rows.lines (item.value ∷ []) ∙ ap (λ (es : List Entry). flat_map item_entries draft.rows.lines ++ es) (append-nil (item_entries item.value) ∙ said.entries) in
      subst (λ (m : SoFar). Told done (parts.Open draft) m line) (ap (λ (r : Rows). going_on done (record draft { rows = r; stage = stages.Item })) same ∙ ok_same _ next rows.goes_on) (record {
        entry = Item item.value;
        says = (is, said.says);
        more = more_by (flat_map entries_of done) (front (row_entries draft)) (front (row_entries (record draft { rows = new }))) (Item item.value)
            (ap front (row_last (map (Beside false) draft.rows.extras) (flat_map item_entries draft.rows.lines) (map Counter draft.counters) _ (Item item.value) (ap (map Counter) none) items));
        are = are;
        fine = record {
          begun = fine.begun;
          rows = item_more draft.rows item.value fine.rows (item_plain line item.value item.is) (item_bare line item.value item.is) fresh.none room;
          counters = fine.counters;
          stage = (omega (arith, length-append draft.rows.lines (item.value ∷ [])), none);
        };
      })

  -- an allowance, where its entry goes last
  allowance_told : (in_line : Bool) → ((allowance : Allowance) → row_entries (record draft { rows = allowed in_line draft.rows allowance }) ≡ row_entries draft ++ Beside in_line (Allow allowance) ∷ [])
      → ((allowance : Allowance) → IsFineStage draft.stage (record draft { rows = allowed in_line draft.rows allowance }))
      → unless (misplaced line (codes "ALLOW") 5) line (with_allowance in_line draft.rows line >>= λ rows. Ok (going_on done (record draft { rows = rows }))) ≡ Ok next → Told done (parts.Open draft) next line
  unfolding front
  allowance_told in_line last stage e =
      let here = unless_ok (misplaced line (codes "ALLOW") 5) line _ next e in
      let is = led line (codes "ALLOW") 5 here.none in
      let rows = bind_ok (with_allowance in_line draft.rows line) _ next here.is in
      let limit = passed (nat_le 20 (length (beside in_line draft.rows))) line _ _ rows.value rows.is in
      let allowance = bind_ok (allowance_in in_line line) _ rows.value limit.is in
      let same : allowed in_line draft.rows allowance.value ≡ rows.value = ok_same _ rows.value allowance.goes_on in
      let room : length (beside in_line draft.rows) < 20 = let below : nat_le 20 (length (beside in_line draft.rows)) ≡ false = limit.none in grind (arith, nat_tests) in
      subst (λ (m : SoFar). Told done (parts.Open draft) m line) (ap (λ (r : Rows). going_on done (record draft { rows = r })) same ∙ ok_same _ next rows.goes_on) (record {
        entry = Beside in_line (Allow allowance.value);
        says = (is, allowance_said in_line line allowance.value allowance.is);
        more = more_by (flat_map entries_of done) (front (row_entries draft)) (front (row_entries (record draft { rows = allowed in_line draft.rows allowance.value }))) (Beside in_line (Allow allowance.value))
            (ap front (last allowance.value));
        are = are;
        fine = record { begun = fine.begun; rows = allowance_more in_line draft.rows allowance.value fine.rows (allowance_plain in_line line allowance.value allowance.is) room; counters = fine.counters; stage = stage allowance.value };
      })

  -- ---- the end

  record IsPriced (t : Result Totals PriceFault) (base : BaseRecord) : Type 0 where
    ok : IsOk t
    is : record { done = done ++ draft_of draft base ∷ []; part = parts.Between } ≡ next

  price_by : (t : Result Totals PriceFault) (base : BaseRecord) → priced done draft line (unless_unpriced t base) ≡ Ok next → IsPriced t base
  price_by (Ok totals) base e = record { ok = refl; is = ok_same _ next e }
  price_by (Err fault) base e = cc (e)

  end_told : with_end done draft line ≡ Ok next → Told done (parts.Open draft) next line
  unfolding front
  end_told e =
      let here = unless_ok (misplaced line (codes "END") 1) line _ next e in
      let base : BaseRecord = record_made draft.head draft.rows.lines draft.rows.extras draft.signature in
      let whole = price_by (totals_of draft.rows.lines draft.rows.extras) base here.is in
      let new : Draft = draft_of draft base in
      let said : IsSaid new = record { tail = refl; references = refl; deposit = refl; rows = fine.rows; priced = whole.ok; counters = fine.counters } in
      subst (λ (m : SoFar). Told done (parts.Open draft) m line) whole.is (record {
        entry = End;
        says = led line (codes "END") 1 here.none;
        more = append-nil (flat_map entries_of (done ++ new ∷ [])) ∙ flat_map-append entries_of done (new ∷ []) ∙ ap (λ (es : List Entry). flat_map entries_of done ++ es) (append-nil (entries_of new))
            ∙ sym (append_assoc (flat_map entries_of done) (front (row_entries draft)) (End ∷ []));
        are = record {
          each = All-append IsSaid done (new ∷ []) are.each (All-cons IsSaid new [] said (All-nil IsSaid));
          apart = apart_more bytes_eq turned_texts number_of done new are.apart fine.begun.fresh;
          few = let room = fine.begun.room in omega (arith, length-append done (new ∷ []));
        };
        fine = tt;
      })

  -- ---- all rows

  record_allowance : draft.rows.lines ≡ [] → draft.counters ≡ [] → (allowance : Allowance) → row_entries (record draft { rows = allowed false draft.rows allowance }) ≡ row_entries draft ++ Beside false (Allow allowance) ∷ []
  record_allowance no_lines none allowance =
      extra_last (map (Beside false) draft.rows.extras) (flat_map item_entries draft.rows.lines) (map Counter draft.counters) _ (Beside false (Allow allowance))
      (ap (flat_map item_entries) no_lines) (ap (map Counter) none) (map-append (Beside false) draft.rows.extras (Allow allowance ∷ []))

  item_allowance : 0 < length draft.rows.lines → draft.counters ≡ [] → (allowance : Allowance) → row_entries (record draft { rows = allowed true draft.rows allowance }) ≡ row_entries draft ++ Beside true (Allow allowance) ∷ []
  item_allowance some none allowance =
      row_last (map (Beside false) draft.rows.extras) (flat_map item_entries draft.rows.lines) (map Counter draft.counters) _ (Beside true (Allow allowance)) (ap (map Counter) none) (items_with (Allow allowance) draft.rows.lines some)

row_by : (b : Bool) (done : List Draft) (draft : OpenDraft) (line : LineSeen) (next : SoFar) → AreDone done → IsFineOpen draft done → draft.counters ≡ []
    → (one_allowance done draft line ≡ Ok next → Told done (parts.Open draft) next line) → (if b then one_item done draft line else one_allowance done draft line) ≡ Ok next → Told done (parts.Open draft) next line
row_by true done draft line next are fine none otherwise e = item_told done draft line next are fine none e
row_by false done draft line next are fine none otherwise e = otherwise e

-- the stage as a variable
row_told : (stage : Stage) (done : List Draft) (draft : OpenDraft) (line : LineSeen) (next : SoFar) → draft.stage ≡ stage → AreDone done → IsFineOpen draft done → IsFineStage stage draft
    → with_row stage done draft line ≡ Ok next → Told done (parts.Open draft) next line
row_told stages.Record done draft line next is are fine stage e =
    row_by (leads line (codes "ITEM")) done draft line next are fine stage.1
    (λ o. allowance_told done draft line next are fine false (record_allowance done draft line next are fine stage.0 stage.1)
    (λ a. subst (λ (s : Stage). IsFineStage s (record draft { rows = allowed false draft.rows a })) (sym is) stage)
    (subst (λ (s : Stage). unless (misplaced line (codes "ALLOW") 5) line (with_allowance (is_in_line s) draft.rows line >>= λ rows. Ok (going_on done (record draft { rows = rows }))) ≡ Ok next) is o)) e
row_told stages.Item done draft line next is are fine stage e =
    row_by (leads line (codes "ITEM")) done draft line next are fine stage.1
    (λ o. allowance_told done draft line next are fine true (item_allowance done draft line next are fine stage.0 stage.1)
    (λ a. subst (λ (s : Stage). IsFineStage s (record draft { rows = allowed true draft.rows a })) (sym is) (let some = stage.0 in omega (arith, length_extra (Allow a) draft.rows.lines), stage.1))
    (subst (λ (s : Stage). unless (misplaced line (codes "ALLOW") 5) line (with_allowance (is_in_line s) draft.rows line >>= λ rows. Ok (going_on done (record draft { rows = rows }))) ≡ Ok next) is o)) e
row_told stages.Counter done draft line next is are fine stage e = cc (e)

rows_by : (counter end : Bool) (done : List Draft) (draft : OpenDraft) (line : LineSeen) (next : SoFar) → AreDone done → IsFineOpen draft done
    → (if counter then with_counter done draft line else (if end then with_end done draft line else with_row draft.stage done draft line)) ≡ Ok next → Told done (parts.Open draft) next line
rows_by true end done draft line next are fine e = counter_told done draft line next are fine e
rows_by false true done draft line next are fine e = end_told done draft line next are fine e
rows_by false false done draft line next are fine e = row_told draft.stage done draft line next refl are fine fine.stage e

told : (done : List Draft) (part : Part) (line : LineSeen) (next : SoFar) → AreDone done → IsFinePart part done → in_part part done line ≡ Ok next → Told done part next line
told done parts.Between line next are fine e = begun_told done line next are e
told done (parts.Headed head) line next are fine e = signed_told done head line next are fine e
told done (parts.Signed head signature) line next are fine e = tolerated_told done head signature line next are fine e
told done (parts.Open draft) line next are fine e = rows_by (leads line (codes "COUNTER")) (leads line (codes "END")) done draft line next are fine e

-- ---- all lines

record AllTold (so_far next : SoFar) (lines : List LineSeen) : Type 0 where
  entries : List Entry
  say : Say entries lines
  more : entries_so_far next.done next.part ≡ entries_so_far so_far.done so_far.part ++ entries
  are : AreDone next.done

all_told : (so_far next : SoFar) (lines : List LineSeen) → AreDone so_far.done → IsFinePart so_far.part so_far.done → said_by draft_step so_far lines ≡ Ok next → AllTold so_far next lines
unfolding draft_step
all_told so_far next [] are fine e =
    subst (λ (m : SoFar). AllTold so_far m []) (ok_same so_far next e) (record { entries = []; say = tt; more = sym (append-nil (entries_so_far so_far.done so_far.part)); are = are })
all_told so_far next (line ∷ lines) are fine e =
    let one = bind_ok (draft_step so_far line) (λ m. said_by draft_step m lines) next e in
    let here = told so_far.done so_far.part line one.value are fine one.is in
    let rest = all_told one.value next lines here.are here.fine one.goes_on in
    record {
      entries = here.entry ∷ rest.entries;
      say = (here.says, rest.say);
      more = rest.more ∙ ap (λ (es : List Entry). es ++ rest.entries) here.more ∙ append_assoc (entries_so_far so_far.done so_far.part) (here.entry ∷ []) rest.entries;
      are = rest.are;
    }

-- ---- the whole text

ended_by : (part : Part) (done : List Draft) (end : ℕ) (drafts : List Draft) → finished end (record { done = done; part = part }) ≡ Ok drafts → (part ≡ parts.Between) × (done ≡ drafts)
ended_by parts.Between done end drafts e = (refl, ok_same done drafts e)
ended_by (parts.Headed head) done end drafts e = cc (e)
ended_by (parts.Signed head signature) done end drafts e = cc (e)
ended_by (parts.Open draft) done end drafts e = cc (e)

none_done : AreDone []
none_done = record { each = All-nil IsSaid; apart = tt; few = omega arith }

-- lines behind which no draft is open say the drafts that are whole
pub lines_said : (lines : List LineSeen) (next : SoFar) → said_by draft_step nothing lines ≡ Ok next → next.part ≡ parts.Between → AreSaid next.done lines
lines_said lines next said between =
    let all = all_told nothing next lines none_done tt said in
    let entries : flat_map entries_of next.done ≡ all.entries = sym (append-nil (flat_map entries_of next.done)) ∙ sym (ap (λ (part : Part). entries_so_far next.done part) between) ∙ all.more in
    record { lines = subst (λ (es : List Entry). Say es lines) (sym entries) all.say; each = all.are.each; apart = all.are.apart; few = all.are.few }

pub says : (text : List ℕ) (drafts : List Draft) → drafts_of text ≡ Ok drafts → Says drafts text
says text drafts e =
    let whole = bind_ok (said_by draft_step nothing (lines_in text).lines) (finished (lines_in text).end) drafts e in
    let ended = ended_by whole.value.part whole.value.done (lines_in text).end drafts whole.goes_on in
    subst (λ (ds : List Draft). AreSaid ds (lines_in text).lines) ended.1 (lines_said (lines_in text).lines whole.value whole.is ended.0)

-- an answer of which want of memory alone is free
pub found : (text : List ℕ) (result : Result (List Draft) DraftFault) → UnlessMemory Memory result (drafts_of text) → IfOk result (λ drafts. Says drafts text)
found text (Ok drafts) (inl none) = cc (none)
found text (Ok drafts) (inr is) = says text drafts (sym is)
found text (Err fault) either = tt
