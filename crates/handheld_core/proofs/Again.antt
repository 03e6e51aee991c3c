-- What a text says is read of it.
use Rattle.std.proofs.Common.{◌≡◌, ◌+◌, ◌<◌, ◌≤◌, ℕ, bytes_eq, nat_eq, nat_le, Bool, true, false, List, [], ◌∷◌, ◌++◌, length, map, codes, Option, None, Result, Ok, Err, if◌then◌else◌, refl, sym, ap, subst, ◌∙◌, arith, append_assoc, append-nil, length-append}
use Rattle.std.specs.List.{All, flat_map}
use Rattle.std.specs.Result.{IsOk}
use Rattle.std.proofs.lemmas.List.Elements.{All-head, All-tail}
use Rattle.std.proofs.lemmas.Slice.Eq.{bytes_eq-Decides}
use Rattle.dsd_pricing.specs.Pricing.{totals_of}
use Rattle.dsd_pricing.specs.declared.amounts.Totals.{Totals}
use Rattle.dsd_pricing.specs.declared.fault.PriceFault.{PriceFault}
use Rattle.dsd_values.specs.Answers.{UnlessMemory}
use Rattle.dsd_values.specs.Behind.{with_extra}
use Rattle.dsd_values.specs.Calendar.{day_of}
use Rattle.dsd_values.specs.Reading.{cents_of, cost_of, delivery_number_of, dsd_of, filled_word_of, flag_of, quantity_of, word_of}
use Rattle.dsd_values.specs.SignatureRecord.{SignatureRecord}
use Rattle.dsd_values.specs.declared.allowance.Allowance.{Allowance}
use Rattle.dsd_values.specs.declared.extra.Extra.{Extra}
use Rattle.dsd_values.specs.declared.extra.Extra.TheVariants.{Allow, Note}
use Rattle.dsd_values.specs.declared.line.Line.{Line}
use Rattle.dsd_values.proofs.Behinds.{with_extra_last}
use Rattle.base_record_894.specs.BaseRecord.{BaseRecord}
use Rattle.base_record_894.specs.Making.{record_made, unless_unpriced}
use Rattle.base_record_894.specs.declared.head.BaseHead.{BaseHead}
use Rattle.dsd_record.specs.declared.draft_fault.DraftFault.{DraftFault}
use Rattle.dsd_record.specs.declared.draft_fault.DraftFault.TheVariants.{Memory}
use Rattle.transaction_set.specs.Grammar.{AreApart}
use Rattle.transaction_set.specs.Reasons.{has_line, last_extras}
use Rattle.transaction_set.proofs.Apart.{apart_at}
use Rattle.transaction_set.proofs.Behind.{last_extras_last}
use Rattle.plain_lines.specs.Counting.{AreCounts, SaysCounted, counts_with, is_counted, number_of as number_of_counted}
use Rattle.plain_lines.specs.Keyed.{AreApartBy}
use Rattle.plain_lines.specs.PlainText.{LineSeen, leads, lines_in, piece_of, word_of_line}
use Rattle.plain_lines.specs.Refusing.{◌>>=◌, IsLed, SaysSignature, misplaced, said_by, signature_in, value_at}
use Rattle.plain_lines.specs.declared.counted.Counted.{Counted}
use Rattle.plain_lines.proofs.Keyed.{last_apart, prefix_apart, turned_numbers, turned_texts}
use Rattle.plain_lines.proofs.Unrefused.{few_below, go_bind, go_passed, go_unless, go_value, placed, signature_again, with_again}
use Rattle.handheld_core.specs.DraftRows.{IsItem, Rows, SaysAllowance, SaysItem, allowance_in, allowed, beside, form_of, item_in, size_of, unless_standing, with_allowance, with_item}
use Rattle.handheld_core.specs.DraftTexts.{Entry, Beside, Counter, End, IsSaid, Say, Says, SaysHead, entries_of, head_of, is_known, item_entries, number_of, AreSaid}
use Rattle.handheld_core.specs.Reading.{SoFar, begun, draft_of, draft_step, drafts_of, finished, going_on, head_in, in_rows, is_in_line, nothing, one_allowance, one_item, opened, priced, with_counter, with_end, with_row}
use Rattle.handheld_core.specs.declared.draft.Draft.{Draft}
use Rattle.handheld_core.specs.declared.reading.OpenDraft.{OpenDraft}
use Rattle.handheld_core.specs.declared.reading.Part.TheVariants as parts
use Rattle.handheld_core.specs.declared.reading.Stage.{Stage}
use Rattle.handheld_core.specs.declared.reading.Stage.TheVariants as stages

-- ---- one line: nothing is refused

head_again : (line : LineSeen) (head : BaseHead) → SaysHead head line → head_in line ≡ Ok head
head_again line head says =
    go_bind (value_at line 1 (delivery_number_of (word_of_line line 1))) _ head.number (go_value line 1 _ head.number says.number)
    ∙ go_bind (value_at line 2 (flag_of (word_of_line line 2))) _ head.flag (go_value line 2 _ head.flag says.flag)
    ∙ go_bind (value_at line 3 (day_of (word_of_line line 3))) _ head.day (go_value line 3 _ head.day says.day)
    ∙ go_bind (value_at line 4 (word_of (word_of_line line 4))) _ head.receiver_duns (go_value line 4 _ head.receiver_duns says.receiver_duns)
    ∙ go_bind (value_at line 5 (word_of (word_of_line line 5))) _ head.receiver_place (go_value line 5 _ head.receiver_place says.receiver_place)
    ∙ go_bind (value_at line 6 (word_of (word_of_line line 6))) _ head.supplier_duns (go_value line 6 _ head.supplier_duns says.supplier_duns)
    ∙ go_bind (value_at line 7 (word_of (word_of_line line 7))) _ head.supplier_place (go_value line 7 _ head.supplier_place says.supplier_place)

item_again : (line : LineSeen) (item : Line) → SaysItem item line → item_in line ≡ Ok item
item_again line item says =
    go_bind (value_at line 1 (dsd_of (word_of_line line 1))) _ item.dsd (go_value line 1 _ item.dsd says.dsd)
    ∙ go_bind (value_at line 2 (quantity_of (word_of_line line 2))) _ item.quantity (go_value line 2 _ item.quantity says.quantity)
    ∙ go_bind (value_at line 3 (filled_word_of (word_of_line line 3))) _ item.unit (go_value line 3 _ item.unit says.unit)
    ∙ go_bind (value_at line 4 (word_of (word_of_line line 4))) _ item.upc (go_value line 4 _ item.upc says.upc)
    ∙ go_bind (value_at line 5 (cost_of (word_of_line line 5))) _ item.cost (go_value line 5 _ item.cost says.cost)
    ∙ ap (λ (l : Line). Ok l) (sym says.other)

allowance_again : (in_line : Bool) (line : LineSeen) (allowance : Allowance) → SaysAllowance in_line allowance line → allowance_in in_line line ≡ Ok allowance
allowance_again in_line line allowance (form, size, code, method, says_form, says_size, is) =
    go_bind (value_at line 1 (filled_word_of (word_of_line line 1))) _ allowance.code (go_value line 1 _ allowance.code code)
    ∙ go_bind (value_at line 2 (filled_word_of (word_of_line line 2))) _ allowance.method (go_value line 2 _ allowance.method method)
    ∙ go_bind (value_at line 3 (form_of in_line (word_of_line line 3))) _ form (go_value line 3 _ form says_form)
    ∙ go_bind (value_at line 4 (size_of form (word_of_line line 4))) _ size (go_value line 4 _ size says_size)
    ∙ ap (λ (a : Allowance). Ok a) (sym is)

with_item_again : (rows : Rows) (line : LineSeen) (item : Line) → SaysItem item line → has_line item.dsd rows.lines ≡ false → length rows.lines < 999 → with_item rows line ≡ Ok (record rows { lines = rows.lines ++ item ∷ [] })
with_item_again rows line item says fresh room =
    go_passed (nat_le 999 (length rows.lines)) line _ (item_in line >>= unless_standing rows line) (few_below (length rows.lines) 999 room)
    ∙ go_bind (item_in line) (unless_standing rows line) item (item_again line item says)
    ∙ go_passed (has_line item.dsd rows.lines) line _ _ fresh

with_allowance_again : (in_line : Bool) (rows : Rows) (line : LineSeen) (allowance : Allowance) → SaysAllowance in_line allowance line → length (beside in_line rows) < 20
    → with_allowance in_line rows line ≡ Ok (allowed in_line rows allowance)
with_allowance_again in_line rows line allowance says room =
    go_passed (nat_le 20 (length (beside in_line rows))) line _ _ (few_below (length (beside in_line rows)) 20 room)
    ∙ go_bind (allowance_in in_line line) _ allowance (allowance_again in_line line allowance says)

-- a line that leads with one word does not lead with another
other_word : (line : LineSeen) (word other : List ℕ) → leads line word ≡ true → bytes_eq word other ≡ false → leads line other ≡ false
other_word line word other e differ = ap (λ (w : List ℕ). bytes_eq w other) ((bytes_eq-Decides (piece_of line 0) word).0 e) ∙ differ

-- ---- one line: the step

-- an open draft at another stage
abbrev staged : OpenDraft → Stage → OpenDraft
staged draft stage = record draft { stage = stage }

abbrev with_rows : OpenDraft → Rows → OpenDraft
with_rows draft rows = record draft { rows = rows }

-- behind it a row with a price may stand
abbrev IsOpenStage : Stage → Type 0
IsOpenStage stages.Record = Unit {0}
IsOpenStage stages.Item = Unit {0}
IsOpenStage stages.Counter = ⊥

rows_step : (done : List Draft) (draft : OpenDraft) (line : LineSeen) (word : List ℕ) → leads line word ≡ true → bytes_eq word (codes "COUNTER") ≡ false → bytes_eq word (codes "END") ≡ false
    → in_rows done draft line ≡ with_row draft.stage done draft line
rows_step done draft line word lead counter end =
    ap (λ (b : Bool). if b then with_counter done draft line else (if leads line (codes "END") then with_end done draft line else with_row draft.stage done draft line)) (other_word line word (codes "COUNTER") lead counter)
    ∙ ap (λ (b : Bool). if b then with_end done draft line else with_row draft.stage done draft line) (other_word line word (codes "END") lead end)

item_row : (stage : Stage) (done : List Draft) (draft : OpenDraft) (line : LineSeen) → IsOpenStage stage → leads line (codes "ITEM") ≡ true → with_row stage done draft line ≡ one_item done draft line
item_row stages.Record done draft line is lead = ap (λ (b : Bool). if b then one_item done draft line else one_allowance done draft line) lead
item_row stages.Item done draft line is lead = ap (λ (b : Bool). if b then one_item done draft line else one_allowance done draft line) lead
item_row stages.Counter done draft line is lead = absurd is

item_step : (done : List Draft) (draft : OpenDraft) (line : LineSeen) (item : Line) → IsOpenStage draft.stage → IsLed line (codes "ITEM") 6 → SaysItem item line → has_line item.dsd draft.rows.lines ≡ false → length draft.rows.lines < 999
    → draft_step (going_on done draft) line ≡ Ok (going_on done (staged (with_rows draft (record draft.rows { lines = draft.rows.lines ++ item ∷ [] })) stages.Item))
unfolding draft_step
item_step done draft line item stage led says fresh room =
    rows_step done draft line (codes "ITEM") led.leading refl refl ∙ item_row draft.stage done draft line stage led.leading
    ∙ go_unless (misplaced line (codes "ITEM") 6) line _ (placed line (codes "ITEM") 6 led)
    ∙ go_bind (with_item draft.rows line) _ (record draft.rows { lines = draft.rows.lines ++ item ∷ [] }) (with_item_again draft.rows line item says fresh room)

-- at the level of the record, and behind an item
abbrev stage_of : Bool → Stage
stage_of true = stages.Item
stage_of false = stages.Record

allowance_row : (in_line : Bool) (done : List Draft) (draft : OpenDraft) (line : LineSeen) (allowance : Allowance) → draft.stage ≡ stage_of in_line → IsLed line (codes "ALLOW") 5 → SaysAllowance in_line allowance line → length (beside in_line draft.rows) < 20
    → with_row draft.stage done draft line ≡ Ok (going_on done (with_rows draft (allowed in_line draft.rows allowance)))
allowance_row true done draft line allowance is led says room =
    ap (λ (s : Stage). with_row s done draft line) is ∙ ap (λ (b : Bool). if b then one_item done draft line else one_allowance done draft line) (other_word line (codes "ALLOW") (codes "ITEM") led.leading refl)
    ∙ go_unless (misplaced line (codes "ALLOW") 5) line _ (placed line (codes "ALLOW") 5 led)
    ∙ ap (λ (s : Stage). with_allowance (is_in_line s) draft.rows line >>= λ rows. Ok (going_on done (with_rows draft rows))) is
    ∙ go_bind (with_allowance true draft.rows line) _ (allowed true draft.rows allowance) (with_allowance_again true draft.rows line allowance says room)
allowance_row false done draft line allowance is led says room =
    ap (λ (s : Stage). with_row s done draft line) is ∙ ap (λ (b : Bool). if b then one_item done draft line else one_allowance done draft line) (other_word line (codes "ALLOW") (codes "ITEM") led.leading refl)
    ∙ go_unless (misplaced line (codes "ALLOW") 5) line _ (placed line (codes "ALLOW") 5 led)
    ∙ ap (λ (s : Stage). with_allowance (is_in_line s) draft.rows line >>= λ rows. Ok (going_on done (with_rows draft rows))) is
    ∙ go_bind (with_allowance false draft.rows line) _ (allowed false draft.rows allowance) (with_allowance_again false draft.rows line allowance says room)

allowance_step : (in_line : Bool) (done : List Draft) (draft : OpenDraft) (line : LineSeen) (allowance : Allowance) → draft.stage ≡ stage_of in_line → IsLed line (codes "ALLOW") 5 → SaysAllowance in_line allowance line → length (beside in_line draft.rows) < 20
    → draft_step (going_on done draft) line ≡ Ok (going_on done (with_rows draft (allowed in_line draft.rows allowance)))
unfolding draft_step
allowance_step in_line done draft line allowance is led says room =
    rows_step done draft line (codes "ALLOW") led.leading refl refl ∙ allowance_row in_line done draft line allowance is led says room

counter_step : (done : List Draft) (draft : OpenDraft) (line : LineSeen) (counted : Counted) → IsLed line (codes "COUNTER") 4 → SaysCounted counted line → is_counted counted.dsd draft.counters ≡ false → length draft.counters < 999
    → draft_step (going_on done draft) line ≡ Ok (going_on done (record draft { counters = draft.counters ++ counted ∷ []; stage = stages.Counter }))
unfolding draft_step
counter_step done draft line counted led says fresh room =
    ap (λ (b : Bool). if b then with_counter done draft line else (if leads line (codes "END") then with_end done draft line else with_row draft.stage done draft line)) led.leading
    ∙ go_unless (misplaced line (codes "COUNTER") 4) line _ (placed line (codes "COUNTER") 4 led)
    ∙ go_bind (counts_with draft.counters line) _ (draft.counters ++ counted ∷ []) (with_again draft.counters line counted says fresh room)

-- ---- some lines

-- what is left behind some lines: their entries, and what is said behind them
record Left (from to : SoFar) (rest : List Entry) (lines : List LineSeen) : Type 0 where
  left : List LineSeen
  say : Say rest left
  same : said_by draft_step from lines ≡ said_by draft_step to left

one_step : (from next : SoFar) (line : LineSeen) (lines : List LineSeen) → draft_step from line ≡ Ok next → said_by draft_step from (line ∷ lines) ≡ said_by draft_step next lines
one_step from next line lines e = go_bind (draft_step from line) (λ m. said_by draft_step m lines) next e

-- a draft so far with these rows, at this stage
abbrev at : List Draft → OpenDraft → List Extra → List Line → Stage → SoFar
at done draft extras lines stage = going_on done (record draft { rows = record { extras = extras; lines = lines }; stage = stage })

-- ---- allowances

record_left : (done : List Draft) (draft : OpenDraft) (before extras : List Extra) (lines : List Line) (rest : List Entry) (text : List LineSeen) → length before + length extras ≤ 20 → Say (map (Beside false) extras ++ rest) text
    → Left (at done draft before lines stages.Record) (at done draft (before ++ extras) lines stages.Record) rest text
record_left done draft before [] lines rest text few say =
    record { left = text; say = say; same = ap (λ (es : List Extra). said_by draft_step (at done draft es lines stages.Record) text) (sym (append-nil before)) }
record_left done draft before (extra ∷ extras) lines rest [] few say = absurd say
record_left done draft before (Note note ∷ extras) lines rest (line ∷ text) few say = absurd say.0.1
record_left done draft before (Allow allowance ∷ extras) lines rest (line ∷ text) few say =
    let here : OpenDraft = record draft { rows = record { extras = before; lines = lines }; stage = stages.Record } in
    let joined : (before ++ Allow allowance ∷ []) ++ extras ≡ before ++ Allow allowance ∷ extras = append_assoc before (Allow allowance ∷ []) extras in
    let behind = record_left done draft (before ++ Allow allowance ∷ []) extras lines rest text (omega (arith, length-append before (Allow allowance ∷ []))) say.1 in
    record {
      left = behind.left;
      say = behind.say;
      same = one_step (at done draft before lines stages.Record) (at done draft (before ++ Allow allowance ∷ []) lines stages.Record) line text (allowance_step false done here line allowance refl say.0.0 say.0.1 (omega arith))
          ∙ behind.same ∙ ap (λ (es : List Extra). said_by draft_step (at done draft es lines stages.Record) behind.left) joined;
    }

-- the item with these allowances behind it
abbrev behind_item : Line → List Extra → Line
behind_item item extras = record item { extras = extras }

behind_left : (done : List Draft) (draft : OpenDraft) (record_extras : List Extra) (before : List Line) (item : Line) (first extras : List Extra) (rest : List Entry) (text : List LineSeen) → length first + length extras ≤ 20
    → Say (map (Beside true) extras ++ rest) text
    → Left (at done draft record_extras (before ++ behind_item item first ∷ []) stages.Item) (at done draft record_extras (before ++ behind_item item (first ++ extras) ∷ []) stages.Item) rest text
behind_left done draft record_extras before item first [] rest text few say =
    record { left = text; say = say; same = ap (λ (es : List Extra). said_by draft_step (at done draft record_extras (before ++ behind_item item es ∷ []) stages.Item) text) (sym (append-nil first)) }
behind_left done draft record_extras before item first (extra ∷ extras) rest [] few say = absurd say
behind_left done draft record_extras before item first (Note note ∷ extras) rest (line ∷ text) few say = absurd say.0.1
behind_left done draft record_extras before item first (Allow allowance ∷ extras) rest (line ∷ text) few say =
    let lines : List Line = before ++ behind_item item first ∷ [] in
    let here : OpenDraft = record draft { rows = record { extras = record_extras; lines = lines }; stage = stages.Item } in
    let joined : (first ++ Allow allowance ∷ []) ++ extras ≡ first ++ Allow allowance ∷ extras = append_assoc first (Allow allowance ∷ []) extras in
    let beside_it : last_extras lines ≡ first = last_extras_last before (behind_item item first) in
    let room : length (last_extras lines) < 20 = let same : length (last_extras lines) ≡ length first = ap length beside_it in omega arith in
    let behind = behind_left done draft record_extras before item (first ++ Allow allowance ∷ []) extras rest text (omega (arith, length-append first (Allow allowance ∷ []))) say.1 in
    record {
      left = behind.left;
      say = behind.say;
      same = one_step (at done draft record_extras lines stages.Item) (at done draft record_extras (with_extra (Allow allowance) lines) stages.Item) line text (allowance_step true done here line allowance refl say.0.0 say.0.1 room)
          ∙ ap (λ (ls : List Line). said_by draft_step (at done draft record_extras ls stages.Item) text) (with_extra_last (Allow allowance) before (behind_item item first))
          ∙ behind.same ∙ ap (λ (es : List Extra). said_by draft_step (at done draft record_extras (before ++ behind_item item es ∷ []) stages.Item) behind.left) joined;
    }

-- ---- items

record LeftOpen (done : List Draft) (draft : OpenDraft) (extras : List Extra) (from : SoFar) (lines : List Line) (rest : List Entry) (text : List LineSeen) : Type 0 where
  stage : Stage
  open_stage : IsOpenStage stage
  behind : Left from (at done draft extras lines stage) rest text

items_left : (done : List Draft) (draft : OpenDraft) (extras : List Extra) (before items : List Line) (stage : Stage) (rest : List Entry) (text : List LineSeen) → IsOpenStage stage → AreApart (before ++ items) → length (before ++ items) ≤ 999
    → All IsItem items → Say (flat_map item_entries items ++ rest) text → LeftOpen done draft extras (at done draft extras before stage) (before ++ items) rest text
items_left done draft extras before [] stage rest text is apart few all say = record {
  stage = stage;
  open_stage = is;
  behind = record { left = text; say = say; same = ap (λ (ls : List Line). said_by draft_step (at done draft extras ls stage) text) (sym (append-nil before)) };
}
items_left done draft extras before (item ∷ items) stage rest [] is apart few all say = absurd say
items_left done draft extras before (item ∷ items) stage rest (line ∷ text) is apart few all say =
    let bare : Line = behind_item item [] in
    let here : OpenDraft = record draft { rows = record { extras = extras; lines = before }; stage = stage } in
    let room : length before < 999 = omega (arith, length-append before (item ∷ items)) in
    let joined : (before ++ item ∷ []) ++ items ≡ before ++ item ∷ items = append_assoc before (item ∷ []) items in
    let allowances : Say (map (Beside true) item.extras ++ (flat_map item_entries items ++ rest)) text = subst (λ (es : List Entry). Say es text) (append_assoc (map (Beside true) item.extras) (flat_map item_entries items) rest) say.1 in
    let own : IsItem item = All-head IsItem item items all in
    let mine = behind_left done draft extras before item [] item.extras (flat_map item_entries items ++ rest) text (omega (arith, own.behind.few)) allowances in
    let later = items_left done draft extras (before ++ item ∷ []) items stages.Item rest mine.left tt (subst AreApart (sym joined) apart) (subst (λ (ls : List Line). length ls ≤ 999) (sym joined) few) (All-tail IsItem item items all) mine.say in
    record {
      stage = later.stage;
      open_stage = later.open_stage;
      behind = record {
        left = later.behind.left;
        say = later.behind.say;
        same = one_step (at done draft extras before stage) (at done draft extras (before ++ bare ∷ []) stages.Item) line text (item_step done here line bare is say.0.0 say.0.1 (apart_at before item items apart) room)
            ∙ mine.same ∙ later.behind.same ∙ ap (λ (ls : List Line). said_by draft_step (at done draft extras ls later.stage) later.behind.left) joined;
      };
    }

-- ---- counters

record LeftCountered (done : List Draft) (draft : OpenDraft) (from : SoFar) (counters : List Counted) (rest : List Entry) (text : List LineSeen) : Type 0 where
  stage : Stage
  behind : Left from (going_on done (record draft { counters = counters; stage = stage })) rest text

counters_left : (done : List Draft) (draft : OpenDraft) (before counters : List Counted) (stage : Stage) (rest : List Entry) (text : List LineSeen) → AreCounts (before ++ counters) → Say (map Counter counters ++ rest) text
    → LeftCountered done draft (going_on done (record draft { counters = before; stage = stage })) (before ++ counters) rest text
counters_left done draft before [] stage rest text are say = record {
  stage = stage;
  behind = record { left = text; say = say; same = ap (λ (cs : List Counted). said_by draft_step (going_on done (record draft { counters = cs; stage = stage })) text) (sym (append-nil before)) };
}
counters_left done draft before (counted ∷ counters) stage rest [] are say = absurd say
counters_left done draft before (counted ∷ counters) stage rest (line ∷ text) are say =
    let joined : (before ++ counted ∷ []) ++ counters ≡ before ++ counted ∷ counters = append_assoc before (counted ∷ []) counters in
    let are2 : AreCounts ((before ++ counted ∷ []) ++ counters) = subst AreCounts (sym joined) are in
    let fresh : is_counted counted.dsd before ≡ false = last_apart nat_eq turned_numbers number_of_counted before counted (prefix_apart nat_eq turned_numbers number_of_counted (before ++ counted ∷ []) counters are2.apart) in
    let room : length before < 999 = omega (arith, are.few, length-append before (counted ∷ counters)) in
    let later = counters_left done draft (before ++ counted ∷ []) counters stages.Counter rest text are2 say.1 in
    record {
      stage = later.stage;
      behind = record {
        left = later.behind.left;
        say = later.behind.say;
        same = one_step (going_on done (record draft { counters = before; stage = stage })) (going_on done (record draft { counters = before ++ counted ∷ []; stage = stages.Counter })) line text
            (counter_step done (record draft { counters = before; stage = stage }) line counted say.0.0 say.0.1 fresh room)
            ∙ later.behind.same ∙ ap (λ (cs : List Counted). said_by draft_step (going_on done (record draft { counters = cs; stage = later.stage })) later.behind.left) joined;
      };
    }

-- ---- the end

price_again : (done : List Draft) (draft : OpenDraft) (line : LineSeen) (t : Result Totals PriceFault) (base : BaseRecord) → IsOk t
    → priced done draft line (unless_unpriced t base) ≡ Ok (record { done = done ++ draft_of draft base ∷ []; part = parts.Between })
price_again done draft line (Ok totals) base ok = refl
price_again done draft line (Err fault) base ok = cc (ok)

end_left : (done : List Draft) (draft : OpenDraft) (rest : List Entry) (text : List LineSeen) → IsOk (totals_of draft.rows.lines draft.rows.extras) → Say (End ∷ rest) text
    → Left (going_on done draft) (record { done = done ++ draft_of draft (record_made draft.head draft.rows.lines draft.rows.extras draft.signature) ∷ []; part = parts.Between }) rest text
unfolding draft_step
end_left done draft rest [] ok say = absurd say
end_left done draft rest (line ∷ text) ok say =
    let base : BaseRecord = record_made draft.head draft.rows.lines draft.rows.extras draft.signature in
    record {
      left = text;
      say = say.1;
      same = one_step (going_on done draft) (record { done = done ++ draft_of draft base ∷ []; part = parts.Between }) line text
          (ap (λ (b : Bool). if b then with_counter done draft line else (if leads line (codes "END") then with_end done draft line else with_row draft.stage done draft line)) (other_word line (codes "END") (codes "COUNTER") say.0.leading refl)
          ∙ ap (λ (b : Bool). if b then with_end done draft line else with_row draft.stage done draft line) say.0.leading
          ∙ go_unless (misplaced line (codes "END") 1) line _ (placed line (codes "END") 1 say.0)
          ∙ price_again done draft line (totals_of draft.rows.lines draft.rows.extras) base ok);
    }

-- ---- one draft

head_step : (done : List Draft) (head : BaseHead) (line : LineSeen) → IsLed line (codes "DRAFT") 8 → SaysHead head line → is_known head.number done ≡ false → length done < 200
    → draft_step (record { done = done; part = parts.Between }) line ≡ Ok (record { done = done; part = parts.Headed head })
unfolding draft_step
head_step done head line led says fresh room =
    go_unless (misplaced line (codes "DRAFT") 8) line _ (placed line (codes "DRAFT") 8 led)
    ∙ go_passed (nat_le 200 (length done)) line _ (begun done line) (few_below (length done) 200 room)
    ∙ go_bind (head_in line) _ head (head_again line head says)
    ∙ go_passed (is_known head.number done) line _ _ fresh

sign_step : (done : List Draft) (head : BaseHead) (signature : SignatureRecord) (line : LineSeen) → IsLed line (codes "SIGN") 2 → SaysSignature signature line
    → draft_step (record { done = done; part = parts.Headed head }) line ≡ Ok (record { done = done; part = parts.Signed head signature })
unfolding draft_step
sign_step done head signature line led says =
    go_unless (misplaced line (codes "SIGN") 2) line _ (placed line (codes "SIGN") 2 led) ∙ go_bind (signature_in line) _ signature (signature_again line signature says)

tolerance_step : (done : List Draft) (head : BaseHead) (signature : SignatureRecord) (tolerance : ℕ) (line : LineSeen) → IsLed line (codes "TOLERANCE") 2 → cents_of (word_of_line line 1) ≡ Ok tolerance
    → draft_step (record { done = done; part = parts.Signed head signature }) line ≡ Ok (going_on done (opened head signature tolerance))
unfolding draft_step
tolerance_step done head signature tolerance line led says =
    go_unless (misplaced line (codes "TOLERANCE") 2) line _ (placed line (codes "TOLERANCE") 2 led)
    ∙ go_bind (value_at line 1 (cents_of (word_of_line line 1))) _ tolerance (go_value line 1 _ tolerance says)

-- nothing else stands in the base record
base_again : (base : BaseRecord) → base.tail ≡ [] → base.references ≡ [] → base.deposit ≡ None → record_made (head_of base) base.lines base.extras base.signature ≡ base
base_again base tail references deposit =
    ap (λ (t : List ℕ). let b : BaseRecord = record base { tail = t; references = []; deposit = None } in b) (sym tail)
    ∙ ap (λ (r : List (List ℕ)). let b : BaseRecord = record base { references = r; deposit = None } in b) (sym references)
    ∙ ap (λ (d : Option ℕ). let b : BaseRecord = record base { deposit = d } in b) (sym deposit)

-- the rows of a draft, and its end
rows_left : (done : List Draft) (draft : Draft) (rest : List Entry) (text : List LineSeen) → IsSaid draft
    → Say (map (Beside false) draft.base.extras ++ (flat_map item_entries draft.base.lines ++ (map Counter draft.counters ++ End ∷ rest))) text
    → Left (going_on done (opened (head_of draft.base) draft.base.signature draft.tolerance)) (record { done = done ++ draft ∷ []; part = parts.Between }) rest text
rows_left done draft rest text is say =
    let new : OpenDraft = opened (head_of draft.base) draft.base.signature draft.tolerance in
    let base = draft.base in
    let beside = record_left done new [] base.extras [] (flat_map item_entries base.lines ++ (map Counter draft.counters ++ End ∷ rest)) text (omega (arith, is.rows.beside.few)) say in
    let items = items_left done new base.extras [] base.lines stages.Record (map Counter draft.counters ++ End ∷ rest) beside.left tt is.rows.apart is.rows.few is.rows.items beside.say in
    let priced_draft : OpenDraft = record new { rows = record { extras = base.extras; lines = base.lines } } in
    let counters = counters_left done priced_draft [] draft.counters items.stage (End ∷ rest) items.behind.left is.counters items.behind.say in
    let end = end_left done (record priced_draft { counters = draft.counters; stage = counters.stage }) rest counters.behind.left is.priced counters.behind.say in
    record {
      left = end.left;
      say = end.say;
      same = beside.same ∙ items.behind.same ∙ counters.behind.same ∙ end.same
          ∙ ap (λ (b : BaseRecord). said_by draft_step (record { done = done ++ (record draft { base = b }) ∷ []; part = parts.Between }) end.left) (base_again base is.tail is.references is.deposit);
    }

draft_left : (done : List Draft) (draft : Draft) (rest : List Entry) (lines : List LineSeen) → IsSaid draft → is_known draft.base.number done ≡ false → length done < 200 → Say (entries_of draft ++ rest) lines
    → Left (record { done = done; part = parts.Between }) (record { done = done ++ draft ∷ []; part = parts.Between }) rest lines
draft_left done draft rest [] is fresh room say = absurd say
draft_left done draft rest (a ∷ []) is fresh room say = absurd say.1
draft_left done draft rest (a ∷ b ∷ []) is fresh room say = absurd say.1.1
draft_left done draft rest (a ∷ b ∷ d ∷ lines) is fresh room say =
    let base = draft.base in
    let extras : List Entry = map (Beside false) base.extras in
    let items : List Entry = flat_map item_entries base.lines in
    let counters : List Entry = map Counter draft.counters in
    let split : (((extras ++ items) ++ counters) ++ End ∷ []) ++ rest ≡ extras ++ (items ++ (counters ++ End ∷ rest)) =
    append_assoc ((extras ++ items) ++ counters) (End ∷ []) rest ∙ append_assoc (extras ++ items) counters (End ∷ rest) ∙ append_assoc extras items (counters ++ End ∷ rest) in
    let rows = rows_left done draft rest lines is (subst (λ (es : List Entry). Say es lines) split say.1.1.1) in
    record {
      left = rows.left;
      say = rows.say;
      same = one_step (record { done = done; part = parts.Between }) (record { done = done; part = parts.Headed (head_of base) }) a (b ∷ d ∷ lines) (head_step done (head_of base) a say.0.0 say.0.1 fresh room)
          ∙ one_step (record { done = done; part = parts.Headed (head_of base) }) (record { done = done; part = parts.Signed (head_of base) base.signature }) b (d ∷ lines) (sign_step done (head_of base) base.signature b say.1.0.0 say.1.0.1)
          ∙ one_step (record { done = done; part = parts.Signed (head_of base) base.signature }) (going_on done (opened (head_of base) base.signature draft.tolerance)) d lines
          (tolerance_step done (head_of base) base.signature draft.tolerance d say.1.1.0.0 say.1.1.0.1)
          ∙ rows.same;
    }

-- ---- all drafts

drafts_left : (done drafts : List Draft) (lines : List LineSeen) → AreApartBy bytes_eq number_of (done ++ drafts) → length (done ++ drafts) ≤ 200 → All IsSaid drafts → Say (flat_map entries_of drafts) lines
    → said_by draft_step (record { done = done; part = parts.Between }) lines ≡ Ok (record { done = done ++ drafts; part = parts.Between })
drafts_left done [] [] apart few each say = ap (λ (ds : List Draft). Ok (let m : SoFar = record { done = ds; part = parts.Between } in m)) (sym (append-nil done))
drafts_left done [] (line ∷ lines) apart few each say = absurd say
drafts_left done (draft ∷ drafts) lines apart few each say =
    let joined : (done ++ draft ∷ []) ++ drafts ≡ done ++ draft ∷ drafts = append_assoc done (draft ∷ []) drafts in
    let apart2 : AreApartBy bytes_eq number_of ((done ++ draft ∷ []) ++ drafts) = subst (AreApartBy bytes_eq number_of) (sym joined) apart in
    let fresh : is_known draft.base.number done ≡ false = last_apart bytes_eq turned_texts number_of done draft (prefix_apart bytes_eq turned_texts number_of (done ++ draft ∷ []) drafts apart2) in
    let room : length done < 200 = omega (arith, length-append done (draft ∷ drafts)) in
    let here = draft_left done draft (flat_map entries_of drafts) lines (All-head IsSaid draft drafts each) fresh room say in
    here.same ∙ drafts_left (done ++ draft ∷ []) drafts here.left apart2 (subst (λ (ds : List Draft). length ds ≤ 200) (sym joined) few) (All-tail IsSaid draft drafts each) here.say
    ∙ ap (λ (ds : List Draft). Ok (let m : SoFar = record { done = ds; part = parts.Between } in m)) joined

-- what lines say is read of them
pub lines_again : (drafts : List Draft) (lines : List LineSeen) → AreSaid drafts lines → said_by draft_step nothing lines ≡ Ok (record { done = drafts; part = parts.Between })
lines_again drafts lines are = drafts_left [] drafts lines are.apart are.few are.each are.lines

pub again : (text : List ℕ) (drafts : List Draft) → Says drafts text → drafts_of text ≡ Ok drafts
again text drafts says =
    go_bind (said_by draft_step nothing (lines_in text).lines) (finished (lines_in text).end) (record { done = drafts; part = parts.Between }) (lines_again drafts (lines_in text).lines says)

-- an answer of which want of memory alone is free
pub only : (text : List ℕ) (result : Result (List Draft) DraftFault) → UnlessMemory Memory result (drafts_of text) → (drafts : List Draft) → Says drafts text → UnlessMemory Memory result (Ok drafts)
only text result told drafts says = subst (UnlessMemory Memory result) (again text drafts says) told

-- a text says one thing
pub one : (text : List ℕ) (drafts other : List Draft) → Says drafts text → Says other text → drafts ≡ other
one text drafts other says more = let same : (let r : Result (List Draft) DraftFault = Ok drafts in r) ≡ Ok other = sym (again text drafts says) ∙ again text other more in cc (same)
