-- A segment more, which starts at a place of the set.
use Rattle.std.proofs.Common.{◌≡◌, ℕ, ◌+◌, Option, Some, None, Result, Err, refl, sym, ap, ◌∙◌, subst, length, arith}
use Rattle.block_check.specs.Crc16.{crc_from}
use Rattle.segments.specs.Views.{Seg}
use Rattle.segments.specs.Elements.{◌or_else◌}
use Rattle.transaction_set.specs.Kinds.{kind_of, next_phase}
use Rattle.transaction_set.specs.Reasons.{Says, admission}
use Rattle.transaction_set.specs.SoFar.{SoFar, kept, moved, phase_in}
use Rattle.transaction_set.specs.Taking.{HasCounted, in_set}
use Rattle.segments.specs.SegmentSpelling.{SpellsSegment}
use Rattle.segments.proofs.Spelled.{bytes_some}
use Rattle.base_record_894.proofs.Moves.{counted}
use Rattle.transaction_set.specs.declared.kind.Form.TheVariants as forms
use Rattle.transaction_set.specs.declared.kind.Kind.{Kind}
use Rattle.transaction_set.specs.declared.kind.Kind.TheVariants as kinds
use Rattle.transaction_set.specs.declared.phase.Phase.{Phase}
use Rattle.transaction_set.specs.declared.set_fault.SetFault.{SetFault}
use Rattle.transaction_set.specs.declared.set_fault.SetReason.{SetReason}
use Rattle.transaction_set.proofs.Placed.{both_none_of, first_says, same_course, same_kept, same_kind, second_says}
use Rattle.base_record_894.specs.HeadTable.{head_in}
use Rattle.base_record_894.specs.Said.{Said, after, head_after, kept_by, own_reason, reason_of}
use Rattle.base_record_894.specs.declared.head.Head.{Head}

same_own : (m : Said) (place : ℕ) (seg : Seg) (kind : Kind) → own_reason m (in_set place seg) kind ≡ own_reason m seg kind
same_own m place seg kinds.Head = refl
same_own m place seg kinds.Start = same_course m.course place seg kinds.Start
same_own m place seg kinds.Reference = same_course m.course place seg kinds.Reference
same_own m place seg kinds.LoopStart = same_course m.course place seg kinds.LoopStart
same_own m place seg kinds.Item = same_course m.course place seg kinds.Item
same_own m place seg kinds.Allowance = same_course m.course place seg kinds.Allowance
same_own m place seg kinds.LineNote = same_course m.course place seg kinds.LineNote
same_own m place seg kinds.Note = same_course m.course place seg kinds.Note
same_own m place seg kinds.LoopEnd = same_course m.course place seg kinds.LoopEnd
same_own m place seg kinds.Totals = refl
same_own m place seg kinds.Signature = same_course m.course place seg kinds.Signature
same_own m place seg kinds.Integrity = same_course m.course place seg kinds.Integrity
same_own m place seg kinds.Trailer = same_course m.course place seg kinds.Trailer
same_own m place seg kinds.Other = same_course m.course place seg kinds.Other

-- the reason is that against a segment of this kind
own_of : (m : Said) (place : ℕ) (seg : Seg) (kind : Kind) → kind ≡ kind_of forms.Base seg → own_reason m (in_set place seg) (kind_of forms.Base (in_set place seg)) ≡ own_reason m seg kind
own_of m place seg kind is =
    ap (own_reason m (in_set place seg)) (same_kind forms.Base place seg ∙ sym is) ∙ same_own m place seg kind

same_kept_by : (m : Said) (place : ℕ) (seg : Seg) (kind : Kind) (phase : Phase) (count check : ℕ) → kept_by m (in_set place seg) kind phase count check ≡ kept_by m seg kind phase count check
unfolding kept_by
same_kept_by m place seg kind phase count check =
    ap (λ (c : SoFar). record { course = c; head = head_after kind (head_in seg) m.head }) (same_kept m.course place seg kind phase count check)

after_kind : (m : Said) (place : ℕ) (seg : Seg) (kind : Kind) → kind ≡ kind_of forms.Base seg
    → kept_by m seg kind (phase_in (next_phase m.course.phase kind forms.Base)) (m.course.count + 1) (crc_from m.course.check seg.bytes) ≡ after m (in_set place seg)
after_kind m place seg kind is =
    sym (same_kept_by m place seg kind (phase_in (next_phase m.course.phase kind forms.Base)) (m.course.count + 1) (crc_from m.course.check seg.bytes))
    ∙ ap (λ (k : Kind). kept_by m (in_set place seg) k (phase_in (next_phase m.course.phase k forms.Base)) (m.course.count + 1) (crc_from m.course.check seg.bytes)) (is ∙ sym (same_kind forms.Base place seg))

-- what was kept, moved on
kept_moved : (m : Said) (seg : Seg) (kind : Kind) (phase : Phase) → record {
  course = moved (kept_by m seg kind m.course.phase m.course.count m.course.check).course phase (m.course.count + 1) (crc_from m.course.check seg.bytes);
  head = (kept_by m seg kind m.course.phase m.course.count m.course.check).head;
} ≡ kept_by m seg kind phase (m.course.count + 1) (crc_from m.course.check seg.bytes)
unfolding kept_by kept moved
kept_moved m seg kind phase = refl

same_count : (m : Said) (seg : Seg) (kind : Kind) (phase : Phase) (count check : ℕ) → (kept_by m seg kind phase count check).course.count ≡ count
unfolding kept_by kept
same_count m seg kind phase count check = refl

same_check : (m : Said) (seg : Seg) (kind : Kind) (phase : Phase) (count check : ℕ) → (kept_by m seg kind phase count check).course.check ≡ check
unfolding kept_by kept
same_check m seg kind phase count check = refl

pub stepped : (m : Said) (place : ℕ) (seg : Seg) (kind : Kind) (phase : Phase) (course new : SoFar) (head : Option Head) → kind ≡ kind_of forms.Base seg → next_phase m.course.phase kind forms.Base ≡ Some phase
    → record { course = course; head = head } ≡ kept_by m seg kind m.course.phase m.course.count m.course.check
    → new ≡ moved course phase (course.count + 1) (crc_from course.check seg.bytes)
    → record { course = new; head = head } ≡ after m (in_set place seg)
stepped m place seg kind phase course new head is next view same =
    let here : Said = kept_by m seg kind m.course.phase m.course.count m.course.check in
    let count : course.count ≡ m.course.count = ap (λ (s : Said). s.course.count) view ∙ same_count m seg kind m.course.phase m.course.count m.course.check in
    let check : course.check ≡ m.course.check = ap (λ (s : Said). s.course.check) view ∙ same_check m seg kind m.course.phase m.course.count m.course.check in
    ap (λ (c : SoFar). record { course = c; head = head }) (same ∙ ap (λ (n : ℕ). moved course phase (n + 1) (crc_from course.check seg.bytes)) count ∙ ap (λ (k : ℕ). moved course phase (m.course.count + 1) (crc_from k seg.bytes)) check)
    ∙ ap (λ (s : Said). record { course = moved s.course phase (m.course.count + 1) (crc_from m.course.check seg.bytes); head = s.head }) view
    ∙ kept_moved m seg kind phase
    ∙ ap (λ (p : Phase). kept_by m seg kind p (m.course.count + 1) (crc_from m.course.check seg.bytes)) (sym (ap phase_in next))
    ∙ after_kind m place seg kind is

-- ---- answers

admitted_of : (m : Said) (place : ℕ) (seg : Seg) (kind : Kind) (first : Option SetReason) → kind ≡ kind_of forms.Base seg → first ≡ admission forms.Base m.course.phase kind (in_set place seg)
    → (first or_else own_reason m (in_set place seg) (kind_of forms.Base (in_set place seg))) ≡ reason_of m (in_set place seg)
unfolding reason_of
admitted_of m place seg kind first is same =
    ap (λ (o : Option SetReason). o or_else own_reason m (in_set place seg) (kind_of forms.Base (in_set place seg)))
    (same ∙ ap (λ (k : Kind). admission forms.Base m.course.phase k (in_set place seg)) (is ∙ sym (same_kind forms.Base place seg)))

pub not_admitted : (X Y : Type 0) (r : Result X SetFault) (e : SetFault) (m : Said) (course : SoFar) (head : Option Head) (place : ℕ) (seg : Seg) (kind : Kind) (P : Y → Type 0) (Q : X → Type 0) → r ≡ Err e → record { course = course; head = head } ≡ m → kind ≡ kind_of forms.Base seg
    → Says (let u : Result Y SetFault = Err e in u) seg.start (admission forms.Base course.phase kind (in_set place seg)) P → Says r seg.start (reason_of m (in_set place seg)) Q
not_admitted X Y r e m course head place seg kind P Q same view is h =
    subst (λ (o : Option SetReason). Says r seg.start o Q) (admitted_of m place seg kind (admission forms.Base course.phase kind (in_set place seg)) is (ap (λ (p : Phase). admission forms.Base p kind (in_set place seg)) (ap (λ (s : Said). s.course.phase) view)))
    (first_says X Y r e seg.start (admission forms.Base course.phase kind (in_set place seg)) (own_reason m (in_set place seg) (kind_of forms.Base (in_set place seg))) P Q same h)

pub not_kept : (X Y : Type 0) (e : SetFault) (m : Said) (course : SoFar) (head : Option Head) (place : ℕ) (seg : Seg) (kind : Kind) (P : Y → Type 0) (Q : X → Type 0) → record { course = course; head = head } ≡ m → kind ≡ kind_of forms.Base seg → (admission forms.Base course.phase kind (in_set place seg)) ≡ None
    → Says (let u : Result Y SetFault = Err e in u) seg.start (own_reason m seg kind) P → Says (let u : Result X SetFault = Err e in u) seg.start (reason_of m (in_set place seg)) Q
not_kept X Y e m course head place seg kind P Q view is none h =
    subst (λ (o : Option SetReason). Says (let u : Result X SetFault = Err e in u) seg.start o Q) (admitted_of m place seg kind (admission forms.Base course.phase kind (in_set place seg)) is (ap (λ (p : Phase). admission forms.Base p kind (in_set place seg)) (ap (λ (s : Said). s.course.phase) view)))
    (second_says X Y e seg.start (admission forms.Base course.phase kind (in_set place seg)) (own_reason m (in_set place seg) (kind_of forms.Base (in_set place seg))) (own_reason m seg kind) P Q none (own_of m place seg kind is) h)

pub no_reason : (m : Said) (course : SoFar) (head : Option Head) (place : ℕ) (seg : Seg) (kind : Kind) → record { course = course; head = head } ≡ m → kind ≡ kind_of forms.Base seg → (admission forms.Base course.phase kind (in_set place seg)) ≡ None → own_reason m seg kind ≡ None → reason_of m (in_set place seg) ≡ None
no_reason m course head place seg kind view is none own =
    sym (admitted_of m place seg kind (admission forms.Base course.phase kind (in_set place seg)) is (ap (λ (p : Phase). admission forms.Base p kind (in_set place seg)) (ap (λ (s : Said). s.course.phase) view)))
    ∙ both_none_of (admission forms.Base course.phase kind (in_set place seg)) (own_reason m (in_set place seg) (kind_of forms.Base (in_set place seg))) (own_reason m seg kind) none (own_of m place seg kind is) own

-- ---- how many segments were taken

pub counts_on : (m new : Said) (size n : ℕ) (fault : Option SetFault) (seg : Seg) → fault ≡ None → SpellsSegment seg → new ≡ after m (in_set size seg) → n ≡ size + length seg.bytes → HasCounted fault m.course.count size
    → HasCounted fault new.course.count n
counts_on m new size n (Some f) seg none is same long counted_so = tt
counts_on m new size n None seg none is same long counted_so =
    omega (arith, ap (λ (s : Said). s.course.count) same, counted m (in_set size seg), bytes_some seg is, long, counted_so)
