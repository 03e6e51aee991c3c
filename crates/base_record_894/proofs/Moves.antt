-- What is left of a plain base record, by what was said so far; and a segment more of it, both ways.
use Rattle.std.proofs.Common.{◌≡◌, ℕ, ◌+◌, true, false, List, [], ◌∷◌, ◌++◌, Some, None, Option, refl, sym, ap, ◌∙◌, subst, pos}
use Rattle.dsd_values.specs.Calendar.{Date}
use Rattle.dsd_values.specs.declared.flag.Flag.{Flag}
use Rattle.dsd_values.specs.declared.flag.Flag.TheVariants as flags
use Rattle.dsd_pricing.specs.Pricing.{priced, quantities}
use Rattle.dsd_values.specs.declared.extra.Extra.{Extra}
use Rattle.dsd_values.specs.declared.extra.Extra.TheVariants.{Allow, Note}
use Rattle.dsd_values.specs.declared.line.Line.{Line}
use Rattle.segments.specs.Views.{Seg}
use Rattle.transaction_set.specs.Tables.{totals_in}
use Rattle.transaction_set.specs.Kinds.{kind_of, next_phase}
use Rattle.transaction_set.specs.Extras.{is_note}
use Rattle.segments.specs.Elements.{kept_text}
use Rattle.transaction_set.specs.SoFar.{in_line, kept, phase_in}
use Rattle.transaction_set.specs.Reasons.{course_reason}
use Rattle.transaction_set.specs.Grammar.{Shape, Body, Closing, Extras, Items, IsSound}
use Rattle.transaction_set.specs.declared.seal.Seal.{Seal}
use Rattle.transaction_set.specs.declared.kind.Kind.{Kind}
use Rattle.transaction_set.specs.declared.kind.Kind.TheVariants as kinds
use Rattle.transaction_set.specs.declared.kind.Form.TheVariants as forms
use Rattle.transaction_set.specs.declared.phase.Phase.{Phase}
use Rattle.transaction_set.specs.declared.phase.Phase.TheVariants as phases
use Rattle.transaction_set.specs.declared.stated.StatedTotals.{StatedTotals}
use Rattle.transaction_set.proofs.Small.{both_none, none_then, no_value, value_none, at_ok, ok_at, ok_said, when_not, number_same}
use Rattle.transaction_set.proofs.Faultless.{start_right, right_start}
use Rattle.transaction_set.proofs.Rest.{RestAt, Left, Ending, AfterItems, IsAt}
use Rattle.transaction_set.proofs.Back.{moves, is_course, back as course_back}
use Rattle.transaction_set.proofs.Forth as course_forth
use Rattle.base_record_894.specs.BaseRecord.{BaseRecord}
use Rattle.base_record_894.specs.HeadTable.{head_fault, head_in, no_day}
use Rattle.base_record_894.specs.Grammar.{IsHead, FromStart, FromHead, shared_of}
use Rattle.base_record_894.specs.Said.{Said, after, own_reason, kept_by, rows_reason}
use Rattle.base_record_894.specs.declared.head.Head.{Head}
use Rattle.base_record_894.proofs.Amounts.{amount_same}

-- the head of a record
abbrev pub head_of : BaseRecord → Head
head_of b = record {
  flag = b.flag;
  number = b.number;
  receiver_duns = b.receiver_duns;
  receiver_place = b.receiver_place;
  supplier_duns = b.supplier_duns;
  supplier_place = b.supplier_place;
  day = b.day;
  tail = b.tail;
}

-- ---- heads

abbrev IsHeadOf : Head → Seg → Type 0
IsHeadOf h seg = IsHead (record {
  flag = h.flag;
  number = h.number;
  day = h.day;
  receiver_duns = h.receiver_duns;
  receiver_place = h.receiver_place;
  supplier_duns = h.supplier_duns;
  supplier_place = h.supplier_place;
  tail = h.tail;
  references = [];
  lines = [];
  extras = [];
  deposit = None;
  signature = record { mark = []; name = [] };
}) seg

head_right : (seg : Seg) → head_fault seg ≡ None → IsHeadOf (head_in seg) seg
head_right seg e1 =
    let a1 = both_none _ _ e1 in
    let a2 = both_none _ _ a1.1 in
    let a3 = both_none _ _ a2.1 in
    let a4 = both_none _ _ a3.1 in
    let a5 = both_none _ _ a4.1 in
    let a6 = both_none _ _ a5.1 in
    record {
      flag = at_ok 1 flags.Debit _ a1.0;
      number = at_ok 2 [] _ a2.0;
      receiver_duns = at_ok 3 [] _ a3.0;
      receiver_place = at_ok 4 [] _ a4.0;
      supplier_duns = at_ok 5 [] _ a5.0;
      supplier_place = at_ok 6 [] _ a6.0;
      day = at_ok 7 no_day _ a6.1;
      tail = refl;
    }

head_is : (b : BaseRecord) (h : Head) (seg : Seg) → head_of b ≡ h → IsHeadOf h seg → IsHead b seg
head_is b h seg same i =
    let at : IsHeadOf (head_of b) seg = subst (λ (u : Head). IsHeadOf u seg) (sym same) i in
    record {
      flag = at.flag;
      number = at.number;
      receiver_duns = at.receiver_duns;
      receiver_place = at.receiver_place;
      supplier_duns = at.supplier_duns;
      supplier_place = at.supplier_place;
      day = at.day;
      tail = at.tail;
    }

right_head : (b : BaseRecord) (seg : Seg) → IsHead b seg → head_fault seg ≡ None
right_head b seg i =
    none_then _ _ (ok_at 1 _ _ i.flag) (none_then _ _ (ok_at 2 _ _ i.number) (none_then _ _ (ok_at 3 _ _ i.receiver_duns)
    (none_then _ _ (ok_at 4 _ _ i.receiver_place) (none_then _ _ (ok_at 5 _ _ i.supplier_duns) (none_then _ _ (ok_at 6 _ _ i.supplier_place) (ok_at 7 _ _ i.day))))))

abbrev head_with : Flag → List ℕ → List ℕ → List ℕ → List ℕ → List ℕ → Date → List ℕ → Head
head_with flag number receiver_duns receiver_place supplier_duns supplier_place day tail = record { flag = flag; number = number; receiver_duns = receiver_duns; receiver_place = receiver_place; supplier_duns = supplier_duns; supplier_place = supplier_place; day = day; tail = tail }

same_head : (a b : Head) → a.flag ≡ b.flag → a.number ≡ b.number → a.receiver_duns ≡ b.receiver_duns → a.receiver_place ≡ b.receiver_place → a.supplier_duns ≡ b.supplier_duns → a.supplier_place ≡ b.supplier_place → a.day ≡ b.day → a.tail ≡ b.tail → a ≡ b
same_head a b e1 e2 e3 e4 e5 e6 e7 e8 =
    ap (λ (v : Flag). head_with v a.number a.receiver_duns a.receiver_place a.supplier_duns a.supplier_place a.day a.tail) e1
    ∙ ap (λ (v : List ℕ). head_with b.flag v a.receiver_duns a.receiver_place a.supplier_duns a.supplier_place a.day a.tail) e2
    ∙ ap (λ (v : List ℕ). head_with b.flag b.number v a.receiver_place a.supplier_duns a.supplier_place a.day a.tail) e3
    ∙ ap (λ (v : List ℕ). head_with b.flag b.number b.receiver_duns v a.supplier_duns a.supplier_place a.day a.tail) e4
    ∙ ap (λ (v : List ℕ). head_with b.flag b.number b.receiver_duns b.receiver_place v a.supplier_place a.day a.tail) e5
    ∙ ap (λ (v : List ℕ). head_with b.flag b.number b.receiver_duns b.receiver_place b.supplier_duns v a.day a.tail) e6
    ∙ ap (λ (v : Date). head_with b.flag b.number b.receiver_duns b.receiver_place b.supplier_duns b.supplier_place v a.tail) e7
    ∙ ap (λ (v : List ℕ). head_with b.flag b.number b.receiver_duns b.receiver_place b.supplier_duns b.supplier_place b.day v) e8

head_said : (b : BaseRecord) (seg : Seg) → IsHead b seg → head_of b ≡ head_in seg
head_said b seg i = same_head (head_of b) (head_in seg)
    (ok_said flags.Debit _ _ i.flag) (ok_said [] _ _ i.number) (ok_said [] _ _ i.receiver_duns) (ok_said [] _ _ i.receiver_place) (ok_said [] _ _ i.supplier_duns) (ok_said [] _ _ i.supplier_place) (ok_said no_day _ _ i.day) (sym i.tail)

-- ---- what is left

abbrev pub Rest894 : Phase → Said → BaseRecord → Seal → ℕ → Shape
Rest894 phases.Start m b s amount before segs = (texts : List (List ℕ)) × (lines : List Line) × (extras : List Extra)
    × ((b.references ≡ m.course.references ++ texts) × (b.lines ≡ m.course.lines ++ lines) × (b.extras ≡ m.course.extras ++ extras)) × FromStart texts lines extras b s amount before segs
Rest894 phases.Head m b s amount before segs = (texts : List (List ℕ)) × (lines : List Line) × (extras : List Extra)
    × Left m.course (shared_of b s amount) texts [] lines extras × FromHead texts lines extras b s amount before segs
Rest894 phase m b s amount before segs = (Some (head_of b) ≡ m.head) × RestAt phase forms.Base m.course (shared_of b s amount) before segs

pub counted : (m : Said) (seg : Seg) → (after m seg).course.count ≡ m.course.count + 1
unfolding kept_by kept
counted m seg = refl

-- a note of the record
record_note : (kind : Kind) → is_note false kind ≡ true → kind ≡ kinds.Note
record_note kinds.Note e = refl
record_note kinds.LineNote e = cc
record_note _ e = cc

module _ (m : Said) (b : BaseRecord) (s : Seal) (amount : ℕ) (before : List Seg) (seg : Seg) (segs : List Seg) (count check : ℕ) where
  abbrev Behind : Phase → Kind → Type 0
  Behind from kind = Rest894 (phase_in (next_phase from kind forms.Base)) (kept_by m seg kind (phase_in (next_phase from kind forms.Base)) count check) b s amount (before ++ seg ∷ []) segs

  abbrev From : Phase → Kind → Type 0
  From from kind = m.course.phase ≡ from → kind_of forms.Base seg ≡ kind → own_reason m seg kind ≡ None → IsAt before m.course → Behind from kind → Rest894 from m b s amount before (seg ∷ segs)

  start_back : From phases.Start kinds.Start
  unfolding kept kept_by
  start_back p k e at (texts, lines, extras, (r, l, x, c), rest) = (texts, lines, extras, (r, l, x), (k, start_right s.control seg (no_value _ e) c, rest))

  head_back : From phases.Head kinds.Head
  unfolding kept kept_by
  head_back p k e at (h, (texts, lines, extras, left, rest)) =
      let same : head_of b ≡ head_in seg = cc (h) in
      (texts, lines, extras, left, (k, head_is b (head_in seg) seg same (head_right seg (no_value _ e)), rest))

  -- a segment of the course, behind the head
  course_on : (from : Phase) (kind : Kind) → is_course from ≡ true → moves (next_phase from kind forms.Base) ≡ true
      → m.course.phase ≡ from → kind_of forms.Base seg ≡ kind → course_reason m.course seg kind ≡ None → IsAt before m.course
      → RestAt (phase_in (next_phase from kind forms.Base)) forms.Base (kept m.course seg kind (phase_in (next_phase from kind forms.Base)) count check) (shared_of b s amount) (before ++ seg ∷ []) segs
      → RestAt from forms.Base m.course (shared_of b s amount) before (seg ∷ segs)
  course_on from kind c q p k e at rest = course_back m.course (shared_of b s amount) before seg segs count check forms.Base from kind c q p k e at rest

  -- A segment that may stand there and has no reason against it, before the rest.
  pub back : (from : Phase) (kind : Kind) → moves (next_phase from kind forms.Base) ≡ true → From from kind
  unfolding kept_by
  back phases.Start kinds.Start g p k e at r = start_back p k e at r
  back phases.Head kinds.Head g p k e at r = head_back p k e at r
  back phases.References kinds.Reference g p k e at (h, r) = (h, course_on phases.References kinds.Reference refl refl p k e at r)
  back phases.References kinds.LoopStart g p k e at (h, r) = (h, course_on phases.References kinds.LoopStart refl refl p k e at r)
  back phases.References kinds.Allowance g p k e at (h, r) = (h, course_on phases.References kinds.Allowance refl refl p k e at r)
  back phases.References kinds.Note g p k e at (h, r) = (h, course_on phases.References kinds.Note refl refl p k e at r)
  back phases.References kinds.Totals g p k e at (h, r) = (h, course_on phases.References kinds.Totals refl refl p k (both_none _ _ e).0 at r)
  back phases.Body kinds.LoopStart g p k e at (h, r) = (h, course_on phases.Body kinds.LoopStart refl refl p k e at r)
  back phases.Body kinds.Allowance g p k e at (h, r) = (h, course_on phases.Body kinds.Allowance refl refl p k e at r)
  back phases.Body kinds.Note g p k e at (h, r) = (h, course_on phases.Body kinds.Note refl refl p k e at r)
  back phases.Body kinds.Totals g p k e at (h, r) = (h, course_on phases.Body kinds.Totals refl refl p k (both_none _ _ e).0 at r)
  back phases.FirstItem kinds.Item g p k e at (h, r) = (h, course_on phases.FirstItem kinds.Item refl refl p k e at r)
  back phases.Items kinds.Item g p k e at (h, r) = (h, course_on phases.Items kinds.Item refl refl p k e at r)
  back phases.Items kinds.Allowance g p k e at (h, r) = (h, course_on phases.Items kinds.Allowance refl refl p k e at r)
  back phases.Items kinds.LineNote g p k e at (h, r) = (h, course_on phases.Items kinds.LineNote refl refl p k e at r)
  back phases.Items kinds.Note g p k e at (h, r) = (h, course_on phases.Items kinds.Note refl refl p k e at r)
  back phases.Items kinds.LoopEnd g p k e at (h, r) = (h, course_on phases.Items kinds.LoopEnd refl refl p k e at r)
  back phases.Extras kinds.Allowance g p k e at (h, r) = (h, course_on phases.Extras kinds.Allowance refl refl p k e at r)
  back phases.Extras kinds.Note g p k e at (h, r) = (h, course_on phases.Extras kinds.Note refl refl p k e at r)
  back phases.Extras kinds.Totals g p k e at (h, r) = (h, course_on phases.Extras kinds.Totals refl refl p k (both_none _ _ e).0 at r)
  back phases.Signature kinds.Signature g p k e at (h, r) = (h, course_on phases.Signature kinds.Signature refl refl p k e at r)
  back phases.Integrity kinds.Integrity g p k e at (h, r) = (h, course_on phases.Integrity kinds.Integrity refl refl p k e at r)
  back phases.Trailer kinds.Trailer g p k e at (h, r) = (h, course_on phases.Trailer kinds.Trailer refl refl p k e at r)
  back _ _ g p k e at r = cc

  abbrev Goes : Phase → Kind → Type 0
  Goes from kind = (kind_of forms.Base seg ≡ kind) × (own_reason m seg kind ≡ None) × Behind from kind

  pub record Next (from : Phase) : Type 0 where
    pub kind : Kind
    pub moves_on : moves (next_phase from kind forms.Base) ≡ true
    pub goes : Goes from kind

  -- a segment of this kind goes on to this phase
  record Onto (kind : Kind) (to : Phase) : Type 0 where
    is : kind_of forms.Base seg ≡ kind
    right : own_reason m seg kind ≡ None
    rest : Rest894 to (kept_by m seg kind to count check) b s amount (before ++ seg ∷ []) segs

  next : (from to : Phase) (kind : Kind) → next_phase from kind forms.Base ≡ Some to → Onto kind to → Next from
  next from to kind e on = record {
    kind = kind;
    moves_on = ap moves e;
    goes = (on.is, on.right, subst (λ (o : Option Phase). Rest894 (phase_in o) (kept_by m seg kind (phase_in o) count check) b s amount (before ++ seg ∷ []) segs) (sym e) on.rest);
  }

  -- what may stand behind the loop, which may stand behind the references too
  record Ends : Type 0 where
    kind : Kind
    to : Phase
    from_references : next_phase phases.References kind forms.Base ≡ Some to
    from_body : next_phase phases.Body kind forms.Base ≡ Some to
    from_extras : next_phase phases.Extras kind forms.Base ≡ Some to
    onto : Onto kind to

  -- and what may stand behind the references
  record Begins : Type 0 where
    kind : Kind
    to : Phase
    from_references : next_phase phases.References kind forms.Base ≡ Some to
    from_body : next_phase phases.Body kind forms.Base ≡ Some to
    onto : Onto kind to

  module _ (sound : IsSound b.lines b.extras) (price : pos amount ≡ priced b.lines b.extras) (at : IsAt before m.course) where
    start_on : Rest894 phases.Start m b s amount before (seg ∷ segs) → Goes phases.Start kinds.Start
    unfolding kept kept_by
    start_on (texts, lines, extras, (r, l, x), (k, c, rest)) = (k, value_none _ (right_start s.control seg c), (texts, lines, extras, (r, l, x, ok_said [] _ _ c.0), rest))

    head_on : Rest894 phases.Head m b s amount before (seg ∷ segs) → Goes phases.Head kinds.Head
    unfolding kept kept_by
    head_on (texts, lines, extras, left, (k, i, rest)) = (k, value_none _ (right_head b seg i), (ap (λ (u : Head). Some u) (head_said b seg i), (texts, lines, extras, left, rest)))

    -- the totals of a record are those of its rows
    agreed : b.lines ≡ m.course.lines → b.extras ≡ m.course.extras → (shared_of b s amount).totals ≡ totals_in seg → rows_reason (totals_in seg) m.course.lines m.course.extras ≡ None
    agreed l x same =
        let sums : (totals_in seg).quantity ≡ quantities m.course.lines = ap (λ (u : StatedTotals). u.quantity) (sym same) ∙ ap quantities l in
        let cents : pos (totals_in seg).amount ≡ priced m.course.lines m.course.extras =
        ap (λ (u : StatedTotals). pos u.amount) (sym same) ∙ price ∙ ap (λ (u : List Line). priced u b.extras) l ∙ ap (λ (u : List Extra). priced m.course.lines u) x in
        none_then _ _ (when_not _ _ (number_same _ _ sums)) (when_not _ _ (amount_same _ _ cents))

    totals_onto : Some (head_of b) ≡ m.head → Left m.course (shared_of b s amount) [] [] [] [] → Closing forms.Base (shared_of b s amount) before (seg ∷ segs) → Onto kinds.Totals phases.Signature
    unfolding kept kept_by
    totals_onto h left rest =
        let g = course_forth.totals_on forms.Base m.course (shared_of b s amount) before seg segs count check sound at left rest in
        let read = g.2.0 in
        record { is = g.0; right = none_then _ _ g.1 (agreed read.1 read.2 g.2.1); rest = (h, g.2) }

    ends_on : (extras : List Extra) → in_line m.course.phase ≡ false → Some (head_of b) ≡ m.head → Left m.course (shared_of b s amount) [] [] [] extras
        → Ending forms.Base extras (shared_of b s amount) before (seg ∷ segs) → Ends
    unfolding kept_by
    ends_on [] i h left rest =
        record { kind = kinds.Totals; to = phases.Signature; from_references = refl; from_body = refl; from_extras = refl; onto = totals_onto h left rest }
    ends_on (Allow allowance ∷ extras) i h left rest =
        let g = course_forth.allowance_beside_on m.course (shared_of b s amount) before seg segs count check sound at allowance extras i left rest in
        record { kind = kinds.Allowance; to = phases.Extras; from_references = refl; from_body = refl; from_extras = refl; onto = record { is = g.0; right = g.1; rest = (h, g.2) } }
    ends_on (Note text ∷ extras) i h left ((n, t), rest) =
        let g = course_forth.note_beside_on m.course (shared_of b s amount) before seg segs count check sound at text extras i (record_note _ n) left (t, rest) in
        record { kind = kinds.Note; to = phases.Extras; from_references = refl; from_body = refl; from_extras = refl; onto = record { is = g.0; right = g.1; rest = (h, g.2) } }

    begins_on : (lines : List Line) (extras : List Extra) → in_line m.course.phase ≡ false → Some (head_of b) ≡ m.head → Left m.course (shared_of b s amount) [] [] lines extras
        → Body forms.Base lines extras (shared_of b s amount) before (seg ∷ segs) → Begins
    unfolding kept_by
    begins_on [] extras i h left rest =
        let e = ends_on extras i h left rest in
        record { kind = e.kind; to = e.to; from_references = e.from_references; from_body = e.from_body; onto = e.onto }
    begins_on (line ∷ lines) extras i h left rest =
        let g = course_forth.loop_start_on forms.Base m.course (shared_of b s amount) before seg segs count check sound at line lines extras left rest in
        record { kind = kinds.LoopStart; to = phases.FirstItem; from_references = refl; from_body = refl; onto = record { is = g.0; right = g.1; rest = (h, g.2) } }

    note_on : (kind : Kind) (text : List ℕ) (inside : List Extra) (lines : List Line) (extras : List Extra) → kind_of forms.Base seg ≡ kind → is_note true kind ≡ true → m.course.phase ≡ phases.Items → Some (head_of b) ≡ m.head
        → Left m.course (shared_of b s amount) [] (Note text ∷ inside) lines extras
        → (kept_text seg ≡ text) × Extras true forms.Base inside (Items forms.Base lines (AfterItems forms.Base m.course extras (shared_of b s amount))) (before ++ seg ∷ []) segs → Next phases.Items
    unfolding kept_by
    note_on kinds.Note text inside lines extras k n p h left rest =
        let g = course_forth.note_inside_on forms.Base m.course (shared_of b s amount) before seg segs count check sound at kinds.Note text inside lines extras p k refl left rest in
        record { kind = kinds.Note; moves_on = refl; goes = (g.0, g.1, (h, g.2)) }
    note_on kinds.LineNote text inside lines extras k n p h left rest =
        let g = course_forth.note_inside_on forms.Base m.course (shared_of b s amount) before seg segs count check sound at kinds.LineNote text inside lines extras p k refl left rest in
        record { kind = kinds.LineNote; moves_on = refl; goes = (g.0, g.1, (h, g.2)) }
    note_on _ text inside lines extras k n p h left rest = cc

    -- A segment that is the front of the rest.
    pub forth : (from : Phase) → m.course.phase ≡ from → Rest894 from m b s amount before (seg ∷ segs) → Next from
    unfolding kept_by
    forth phases.Start p r = record { kind = kinds.Start; moves_on = refl; goes = start_on r }
    forth phases.Head p r = record { kind = kinds.Head; moves_on = refl; goes = head_on r }
    forth phases.References p (h, (text ∷ texts, lines, extras, left, r)) =
        let g = course_forth.base_reference_on m.course (shared_of b s amount) before seg segs count check sound at text texts lines extras left r in
        record { kind = kinds.Reference; moves_on = refl; goes = (g.0, g.1, (h, g.2)) }
    forth phases.References p (h, ([], lines, extras, left, r)) = let e = begins_on lines extras (ap in_line p) h left r in next phases.References e.to e.kind e.from_references e.onto
    forth phases.Body p (h, (lines, extras, left, r)) = let e = begins_on lines extras (ap in_line p) h left r in next phases.Body e.to e.kind e.from_body e.onto
    forth phases.FirstItem p (h, r) =
        let g = course_forth.first_item_on forms.Base m.course (shared_of b s amount) before seg segs count check sound at r in
        record { kind = kinds.Item; moves_on = refl; goes = (g.0, g.1, (h, g.2)) }
    forth phases.Items p (h, (Allow allowance ∷ inside, lines, extras, left, r)) =
        let g = course_forth.allowance_inside_on forms.Base m.course (shared_of b s amount) before seg segs count check sound at allowance inside lines extras p left r in
        record { kind = kinds.Allowance; moves_on = refl; goes = (g.0, g.1, (h, g.2)) }
    forth phases.Items p (h, (Note text ∷ inside, lines, extras, left, ((n, t), r))) = note_on (kind_of forms.Base seg) text inside lines extras refl n p h left (t, r)
    forth phases.Items p (h, ([], line ∷ lines, extras, left, r)) =
        let g = course_forth.item_on forms.Base m.course (shared_of b s amount) before seg segs count check sound at line lines extras left r in
        record { kind = kinds.Item; moves_on = refl; goes = (g.0, g.1, (h, g.2)) }
    forth phases.Items p (h, ([], [], extras, left, r)) =
        let g = course_forth.loop_end_on forms.Base m.course (shared_of b s amount) before seg segs count check sound at extras left r in
        record { kind = kinds.LoopEnd; moves_on = refl; goes = (g.0, g.1, (h, g.2)) }
    forth phases.Extras p (h, (extras, left, r)) = let e = ends_on extras (ap in_line p) h left r in next phases.Extras e.to e.kind e.from_extras e.onto
    forth phases.Signature p (h, r) =
        let g = course_forth.signature_on forms.Base m.course (shared_of b s amount) before seg segs count check sound at r in
        record { kind = kinds.Signature; moves_on = refl; goes = (g.0, g.1, (h, g.2)) }
    forth phases.Integrity p (h, r) =
        let g = course_forth.integrity_on forms.Base m.course (shared_of b s amount) before seg segs count check sound at r in
        record { kind = kinds.Integrity; moves_on = refl; goes = (g.0, g.1, (h, g.2)) }
    forth phases.Trailer p (h, r) =
        let g = course_forth.trailer_on forms.Base m.course (shared_of b s amount) before seg segs count check sound at r in
        record { kind = kinds.Trailer; moves_on = refl; goes = (g.0, g.1, (h, g.2)) }
    forth phases.Done p (h, (read, totals, g, i, e)) = cc
