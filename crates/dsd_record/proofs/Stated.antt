-- What an answer states is an amount that a set can state.
use Rattle.std.proofs.Common.{◌≡◌, ◌≤◌, ℕ, true, List, [], ◌∷◌, ◌++◌}
use Rattle.dsd_values.specs.declared.cents.TheConstants.Cents.{MAX as MOST_CENTS}
use Rattle.dsd_values.specs.declared.extra.Extra.{Extra}
use Rattle.dsd_values.specs.declared.line.Line.{Line}
use Rattle.segments.specs.Views.{Seg, element_of}
use Rattle.segments.specs.Elements.{kept_text}
use Rattle.transaction_set.specs.Grammar.{BehindHead, Body, Closing, Extras, IsLoopId, IsStart, Items, Loop, LoopEnd, One, References, Shape, Shared}
use Rattle.transaction_set.specs.declared.kind.Form.{Form}
use Rattle.transaction_set.specs.declared.kind.Form.TheVariants as forms
use Rattle.transaction_set.specs.declared.kind.Kind.{Kind}
use Rattle.transaction_set.specs.declared.kind.Kind.TheVariants as kinds
use Rattle.base_record_894.proofs.Amounts.{cents_low}
use Rattle.adjustment_895.specs.AnswerRecord.{AnswerRecord}
use Rattle.adjustment_895.specs.AnswerText.{IsAnswer}
use Rattle.adjustment_895.specs.Grammar.{FromHead, IsHead, notes, shared_of}

-- ---- the segments behind a part

-- some segments are the rest
record Reached (rest : Shape) : Type 0 where
  before : List Seg
  left : List Seg
  there : rest before left

one_passed : (form : Form) (kind : Kind) (Says : List Seg → Seg → Type 0) (rest : Shape) (before segs : List Seg) → One form kind Says rest before segs → Reached rest
one_passed form kind Says rest before [] s = absurd s
one_passed form kind Says rest before (seg ∷ segs) s = record { before = before ++ seg ∷ []; left = segs; there = s.2 }

extras_passed : (form : Form) (extras : List Extra) (rest : Shape) (before segs : List Seg) → Extras true form extras rest before segs → Reached rest
extras_passed form [] rest before segs s = record { before = before; left = segs; there = s }
extras_passed form (extra ∷ extras) rest before [] s = absurd s
extras_passed form (extra ∷ extras) rest before (seg ∷ segs) s = extras_passed form extras rest (before ++ seg ∷ []) segs s.1

items_passed : (form : Form) (lines : List Line) (rest : Shape) (before segs : List Seg) → Items form lines rest before segs → Reached rest
items_passed form [] rest before segs s = record { before = before; left = segs; there = s }
items_passed form (line ∷ lines) rest before [] s = absurd s
items_passed form (line ∷ lines) rest before (seg ∷ segs) s =
    let r = extras_passed form line.extras (Items form lines rest) (before ++ seg ∷ []) segs s.2 in
    items_passed form lines rest r.before r.left r.there

loop_passed : (form : Form) (lines : List Line) (rest : Shape) (before segs : List Seg) → Loop form lines rest before segs → Reached rest
loop_passed form [] rest before segs s = record { before = before; left = segs; there = s }
loop_passed form (line ∷ lines) rest before [] s = absurd s.1
loop_passed form (line ∷ lines) rest before (seg ∷ segs) (id, s) =
    let r = items_passed form (line ∷ lines) (LoopEnd form id rest) (before ++ seg ∷ []) segs s.2 in
    one_passed form kinds.LoopEnd (λ _ last. IsLoopId id last) rest r.before r.left r.there

references_passed : (texts : List (List ℕ)) (rest : Shape) (before segs : List Seg) → References forms.Answer texts rest before segs → Reached rest
references_passed [] rest before segs s = record { before = before; left = segs; there = s }
references_passed (text ∷ []) rest before segs s = one_passed forms.Answer kinds.Reference (λ _ seg. kept_text seg ≡ text) rest before segs s
references_passed (text ∷ next ∷ texts) rest before segs s = absurd s

-- ---- the totals of an answer

closed_low : (shared : Shared) (before segs : List Seg) → Closing forms.Answer shared before segs → shared.totals.amount ≤ MOST_CENTS
closed_low shared before [] s = absurd s
closed_low shared before (seg ∷ segs) s = cents_low (element_of seg 2) shared.totals.amount s.1.amount

pub answer_low : (answer : AnswerRecord) → IsAnswer answer → answer.amount ≤ MOST_CENTS
answer_low answer is =
    let shared : Shared = shared_of answer is.seal in
    let body : Shape = Body forms.Answer answer.lines [] shared in
    let head = one_passed forms.Answer kinds.Start (λ _ seg. IsStart is.seal.control seg) (FromHead (notes answer.note) answer.lines [] answer is.seal) [] is.segments is.shape in
    let behind = one_passed forms.Answer kinds.Head (λ _ seg. IsHead answer seg) (BehindHead forms.Answer (notes answer.note) answer.lines [] shared) head.before head.left head.there in
    let loop = references_passed (notes answer.note) body behind.before behind.left behind.there in
    let closing = loop_passed forms.Answer answer.lines (Closing forms.Answer shared) loop.before loop.left loop.there in
    closed_low shared closing.before closing.left closing.there
