-- Segments whose elements are all right say what the grammar asks, and those that say it are right.
use Rattle.std.proofs.Common.{◌≡◌, ℕ, ◌<◌, ◌≤◌, Bool, true, false, List, [], ◌++◌, length, Option, Some, None, Ok, refl, sym, ap, ◌∙◌, subst, if◌then◌else◌}
use Rattle.dsd_values.specs.declared.details.ItemDetails.{ItemDetails}
use Rattle.dsd_values.specs.declared.extra.Extra.{Extra}
use Rattle.dsd_values.specs.declared.line.Line.{Line}
use Rattle.dsd_values.specs.SignatureRecord.{SignatureRecord}
use Rattle.segments.specs.Views.{Seg, element_of}
use Rattle.segments.specs.Elements.{ElementFault, at_element, said}
use Rattle.transaction_set.specs.Tables.{item_fault, details_in, line_in, start_fault, control_in, loop_start_fault, loop_id_in, totals_fault, totals_in, signature_fault, signature_in, integrity_fault, integrity_in, trailer_fault, stated_count_in, control_again_in}
use Rattle.transaction_set.specs.Reasons.{loop_end_fault}
use Rattle.transaction_set.specs.Grammar.{IsStart, IsLoopId, IsItem, IsTotals, IsSignature, IsNoLonger}
use Rattle.transaction_set.specs.declared.stated.StatedTotals.{StatedTotals}
use Rattle.dsd_values.specs.Reading.{check_of, plain_number_of, filled_word_of, word_between}
use Rattle.dsd_values.specs.declared.limits.TheConstants.{MARK_BYTES}
use Rattle.dsd_values.proofs.Laws.{word_between_spelled}
use Rattle.transaction_set.proofs.Small.{both_none, none_then, at_ok, ok_at, ok_said, are_empty, empty_ones, bytes_are, are_bytes}

-- ---- items

pub item_right : (seg : Seg) → item_fault seg ≡ None → IsItem (line_in seg) seg
item_right seg e1 =
    let a1 = both_none _ _ e1 in
    let a2 = both_none _ _ a1.1 in
    let a3 = both_none _ _ a2.1 in
    let a4 = both_none _ _ a3.1 in
    let a5 = both_none _ _ a4.1 in
    let a6 = both_none _ _ a5.1 in
    let a7 = both_none _ _ a6.1 in
    let a8 = both_none _ _ a7.1 in
    let a9 = both_none _ _ a8.1 in
    record {
      dsd = at_ok 1 0 _ a1.0;
      quantity = at_ok 2 0 _ a2.0;
      unit = at_ok 3 [] _ a3.0;
      upc = at_ok 4 [] _ a4.0;
      qualifier = at_ok 5 [] _ a5.0;
      id = at_ok 6 [] _ a6.0;
      case_code = at_ok 7 [] _ a7.0;
      cost = at_ok 8 0 _ a8.0;
      pack = at_ok 9 [] _ a9.0;
      label = at_ok 10 [] _ a9.1;
      tail = refl;
    }

-- what stands behind a line is no element of it
pub item_beside : (extras : List Extra) (line : Line) (seg : Seg) → IsItem line seg → IsItem (record line { extras = line.extras ++ extras }) seg
item_beside extras line seg i = record {
  dsd = i.dsd;
  quantity = i.quantity;
  unit = i.unit;
  upc = i.upc;
  qualifier = i.qualifier;
  id = i.id;
  case_code = i.case_code;
  cost = i.cost;
  pack = i.pack;
  label = i.label;
  tail = i.tail;
}

pub right_item : (line : Line) (seg : Seg) → IsItem line seg → item_fault seg ≡ None
right_item line seg i =
    none_then _ _ (ok_at 1 _ _ i.dsd) (none_then _ _ (ok_at 2 _ _ i.quantity) (none_then _ _ (ok_at 3 _ _ i.unit)
    (none_then _ _ (ok_at 4 _ _ i.upc) (none_then _ _ (ok_at 5 _ _ i.qualifier) (none_then _ _ (ok_at 6 _ _ i.id)
    (none_then _ _ (ok_at 7 _ _ i.case_code) (none_then _ _ (ok_at 8 _ _ i.cost) (none_then _ _ (ok_at 9 _ _ i.pack) (ok_at 10 _ _ i.label)))))))))

abbrev details_of : List ℕ → List ℕ → List ℕ → List ℕ → List ℕ → ItemDetails
details_of qualifier id case_code pack label = record { qualifier = qualifier; id = id; case_code = case_code; pack = pack; label = label }

same_details : (a b : ItemDetails) → a.qualifier ≡ b.qualifier → a.id ≡ b.id → a.case_code ≡ b.case_code → a.pack ≡ b.pack → a.label ≡ b.label → a ≡ b
same_details a b e1 e2 e3 e4 e5 =
    ap (λ (v : List ℕ). details_of v a.id a.case_code a.pack a.label) e1
    ∙ ap (λ (v : List ℕ). details_of b.qualifier v a.case_code a.pack a.label) e2
    ∙ ap (λ (v : List ℕ). details_of b.qualifier b.id v a.pack a.label) e3
    ∙ ap (λ (v : List ℕ). details_of b.qualifier b.id b.case_code v a.label) e4
    ∙ ap (λ (v : List ℕ). details_of b.qualifier b.id b.case_code b.pack v) e5

abbrev line_of : ℕ → ℕ → List ℕ → List ℕ → ItemDetails → ℕ → List ℕ → List Extra → Line
line_of dsd quantity unit upc details cost tail extras = record { dsd = dsd; quantity = quantity; unit = unit; upc = upc; details = details; cost = cost; tail = tail; extras = extras }

same_line : (a b : Line) → a.dsd ≡ b.dsd → a.quantity ≡ b.quantity → a.unit ≡ b.unit → a.upc ≡ b.upc → a.details ≡ b.details → a.cost ≡ b.cost → a.tail ≡ b.tail → a.extras ≡ b.extras → a ≡ b
same_line a b e1 e2 e3 e4 e5 e6 e7 e8 =
    ap (λ (v : ℕ). line_of v a.quantity a.unit a.upc a.details a.cost a.tail a.extras) e1
    ∙ ap (λ (v : ℕ). line_of b.dsd v a.unit a.upc a.details a.cost a.tail a.extras) e2
    ∙ ap (λ (v : List ℕ). line_of b.dsd b.quantity v a.upc a.details a.cost a.tail a.extras) e3
    ∙ ap (λ (v : List ℕ). line_of b.dsd b.quantity b.unit v a.details a.cost a.tail a.extras) e4
    ∙ ap (λ (v : ItemDetails). line_of b.dsd b.quantity b.unit b.upc v a.cost a.tail a.extras) e5
    ∙ ap (λ (v : ℕ). line_of b.dsd b.quantity b.unit b.upc b.details v a.tail a.extras) e6
    ∙ ap (λ (v : List ℕ). line_of b.dsd b.quantity b.unit b.upc b.details b.cost v a.extras) e7
    ∙ ap (λ (v : List Extra). line_of b.dsd b.quantity b.unit b.upc b.details b.cost b.tail v) e8

details_said : (line : Line) (seg : Seg) → IsItem line seg → line.details ≡ details_in seg
details_said line seg i = same_details line.details (details_in seg) (ok_said [] _ _ i.qualifier) (ok_said [] _ _ i.id) (ok_said [] _ _ i.case_code) (ok_said [] _ _ i.pack) (ok_said [] _ _ i.label)

-- a line is what its item says, and the extras behind it
pub line_said : (line : Line) (seg : Seg) → IsItem line seg → line ≡ record (line_in seg) { extras = line.extras }
line_said line seg i = same_line line (record (line_in seg) { extras = line.extras })
    (ok_said 0 _ _ i.dsd) (ok_said 0 _ _ i.quantity) (ok_said [] _ _ i.unit) (ok_said [] _ _ i.upc) (details_said line seg i) (ok_said 0 _ _ i.cost) (sym i.tail) refl

-- ---- starts and labels

pub start_right : (control : List ℕ) (seg : Seg) → start_fault seg ≡ None → control ≡ control_in seg → IsStart control seg
start_right control seg e c =
    let a = both_none _ _ e in
    (at_ok 2 [] _ a.0 ∙ ap (λ (w : List ℕ). Ok w) (sym c), are_empty _ _ a.1)

pub right_start : (control : List ℕ) (seg : Seg) → IsStart control seg → start_fault seg ≡ None
right_start control seg s = none_then _ _ (ok_at 2 _ _ s.0) (empty_ones _ _ s.1)

pub loop_start_right : (seg : Seg) → loop_start_fault seg ≡ None → IsLoopId (loop_id_in seg) seg
loop_start_right seg e = let a = both_none _ _ e in (at_ok 1 [] _ a.0, are_empty _ _ a.1)

pub right_loop_start : (label : List ℕ) (seg : Seg) → IsLoopId label seg → loop_start_fault seg ≡ None
right_loop_start label seg s = none_then _ _ (ok_at 1 _ _ s.0) (empty_ones _ _ s.1)

same_label : (test : Bool) (f : ElementFault) → (if test then None else Some f) ≡ None → test ≡ true
same_label true f e = refl
same_label false f e = cc

label_same : (test : Bool) (f : ElementFault) → test ≡ true → (if test then None else Some f) ≡ None
label_same true f e = refl
label_same false f e = cc

pub loop_end_right : (label : List ℕ) (seg : Seg) → loop_end_fault label seg ≡ None → IsLoopId label seg
loop_end_right label seg e =
    let a = both_none _ _ e in
    let b = both_none _ _ a.1 in
    let same : loop_id_in seg ≡ label = bytes_are _ _ (same_label _ _ b.0) in
    (at_ok 1 [] _ a.0 ∙ ap (λ (w : List ℕ). Ok w) same, are_empty _ _ b.1)

pub right_loop_end : (label : List ℕ) (seg : Seg) → IsLoopId label seg → loop_end_fault label seg ≡ None
right_loop_end label seg s =
    let same : loop_id_in seg ≡ label = sym (ok_said [] _ _ s.0) in
    none_then _ _ (ok_at 1 _ _ s.0) (none_then _ _ (label_same _ _ (are_bytes _ _ same)) (empty_ones _ _ s.1))

-- ---- totals and signature

pub totals_right : (seg : Seg) → totals_fault seg ≡ None → IsTotals (totals_in seg) seg
totals_right seg e =
    let a = both_none _ _ e in
    let b = both_none _ _ a.1 in
    let c = both_none _ _ b.1 in
    record { quantity = at_ok 1 0 _ a.0; amount = at_ok 2 0 _ b.0; deposit = at_ok 3 None _ c.0; ends = are_empty _ _ c.1 }

pub right_totals : (totals : StatedTotals) (seg : Seg) → IsTotals totals seg → totals_fault seg ≡ None
right_totals totals seg s = none_then _ _ (ok_at 1 _ _ s.quantity) (none_then _ _ (ok_at 2 _ _ s.amount) (none_then _ _ (ok_at 3 _ _ s.deposit) (empty_ones _ _ s.ends)))

same_totals : (a b : StatedTotals) → a.quantity ≡ b.quantity → a.amount ≡ b.amount → a.deposit ≡ b.deposit → a ≡ b
same_totals a b e1 e2 e3 =
    ap (λ (v : ℕ). record { quantity = v; amount = a.amount; deposit = a.deposit }) e1
    ∙ ap (λ (v : ℕ). record { quantity = b.quantity; amount = v; deposit = a.deposit }) e2
    ∙ ap (λ (v : Option ℕ). record { quantity = b.quantity; amount = b.amount; deposit = v }) e3

pub totals_said : (totals : StatedTotals) (seg : Seg) → IsTotals totals seg → totals ≡ totals_in seg
totals_said totals seg s = same_totals totals (totals_in seg) (ok_said 0 _ _ s.quantity) (ok_said 0 _ _ s.amount) (ok_said None _ _ s.deposit)

pub signature_right : (seg : Seg) → signature_fault seg ≡ None → IsSignature (signature_in seg) seg
signature_right seg e =
    let a = both_none _ _ e in
    let b = both_none _ _ a.1 in
    record { mark = at_ok 1 [] _ a.0; name = at_ok 2 [] _ b.0; ends = are_empty _ _ b.1 }

-- a mark that was read has its length
pub mark_length : (text mark : List ℕ) → at_element 1 (word_between 1 MARK_BYTES text) ≡ None → mark ≡ said [] (word_between 1 MARK_BYTES text) → (0 < length mark) × (length mark ≤ MARK_BYTES)
mark_length text mark e is =
    let s = (word_between_spelled 1 MARK_BYTES text _ refl _).0 (at_ok 1 [] _ e) in
    let same : text ≡ mark = s.same ∙ sym is in
    subst (λ (word : List ℕ). (0 < length word) × (length word ≤ MARK_BYTES)) same (s.filled, s.short)

pub right_signature : (signature : SignatureRecord) (seg : Seg) → IsSignature signature seg → signature_fault seg ≡ None
right_signature signature seg s = none_then _ _ (ok_at 1 _ _ s.mark) (none_then _ _ (ok_at 2 _ _ s.name) (empty_ones _ _ s.ends))

same_signature : (a b : SignatureRecord) → a.mark ≡ b.mark → a.name ≡ b.name → a ≡ b
same_signature a b e1 e2 = ap (λ (v : List ℕ). record { mark = v; name = a.name }) e1 ∙ ap (λ (v : List ℕ). record { mark = b.mark; name = v }) e2

pub signature_said : (signature : SignatureRecord) (seg : Seg) → IsSignature signature seg → signature ≡ signature_in seg
signature_said signature seg s = same_signature signature (signature_in seg) (ok_said [] _ _ s.mark) (ok_said [] _ _ s.name)

-- ---- integrity value and trailer

pub integrity_right : (seg : Seg) → integrity_fault seg ≡ None → (check_of (element_of seg 1) ≡ Ok (integrity_in seg)) × IsNoLonger 1 seg
integrity_right seg e = let a = both_none _ _ e in (at_ok 1 0 _ a.0, are_empty _ _ a.1)

pub right_integrity : (check : ℕ) (seg : Seg) → check_of (element_of seg 1) ≡ Ok check → IsNoLonger 1 seg → integrity_fault seg ≡ None
right_integrity check seg c ends = none_then _ _ (ok_at 1 _ _ c) (empty_ones _ _ ends)

pub trailer_right : (seg : Seg) → trailer_fault seg ≡ None → (plain_number_of (element_of seg 1) ≡ Ok (stated_count_in seg)) × (filled_word_of (element_of seg 2) ≡ Ok (control_again_in seg)) × IsNoLonger 2 seg
trailer_right seg e =
    let a = both_none _ _ e in
    let b = both_none _ _ a.1 in
    (at_ok 1 0 _ a.0, at_ok 2 [] _ b.0, are_empty _ _ b.1)

pub right_trailer : (found : ℕ) (control : List ℕ) (seg : Seg) → plain_number_of (element_of seg 1) ≡ Ok found → filled_word_of (element_of seg 2) ≡ Ok control → IsNoLonger 2 seg → trailer_fault seg ≡ None
right_trailer found control seg n w ends = none_then _ _ (ok_at 1 _ _ n) (none_then _ _ (ok_at 2 _ _ w) (empty_ones _ _ ends))
