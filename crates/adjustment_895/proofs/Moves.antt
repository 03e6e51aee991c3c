-- What is left of an answer, by what was said so far; and a segment more of it, both ways.
use Rattle.std.proofs.Common.{◌≡◌, ℕ, ◌+◌, ◌<◌, ◌==◌, true, false, List, [], ◌∷◌, ◌++◌, length, Ok, Some, None, Option, refl, sym, ap, ◌∙◌, subst, arith}
use Rattle.std.proofs.lemmas.Bool.Decides.{nat_tests}
use Rattle.dsd_values.specs.declared.extra.Extra.{Extra}
use Rattle.dsd_values.specs.declared.extra.Extra.TheVariants.{Allow, Note}
use Rattle.dsd_values.specs.declared.flag.Flag.{Flag}
use Rattle.dsd_values.specs.declared.flag.Flag.TheVariants as flags
use Rattle.dsd_values.specs.declared.line.Line.{Line}
use Rattle.dsd_values.specs.declared.role.Role.{Role}
use Rattle.dsd_values.specs.declared.role.Role.TheVariants as roles
use Rattle.segments.specs.Views.{Seg, element_of}
use Rattle.transaction_set.specs.Kinds.{kind_of, next_phase}
use Rattle.transaction_set.specs.Extras.{is_note}
use Rattle.segments.specs.Elements.{kept_text}
use Rattle.transaction_set.specs.SoFar.{kept, phase_in}
use Rattle.transaction_set.specs.Reasons.{course_reason}
use Rattle.transaction_set.specs.Grammar.{Shape, Body, Closing, Extras, Items, IsSound}
use Rattle.transaction_set.specs.declared.seal.Seal.{Seal}
use Rattle.transaction_set.specs.declared.kind.Kind.{Kind}
use Rattle.transaction_set.specs.declared.kind.Kind.TheVariants as kinds
use Rattle.transaction_set.specs.declared.kind.Form.TheVariants as forms
use Rattle.transaction_set.specs.declared.phase.Phase.{Phase}
use Rattle.transaction_set.specs.declared.phase.Phase.TheVariants as phases
use Rattle.transaction_set.proofs.Small.{both_none, none_then, no_value, value_none, at_ok, ok_at, ok_said, when_not, are_empty, empty_ones}
use Rattle.transaction_set.proofs.Faultless.{start_right, right_start}
use Rattle.transaction_set.proofs.Rest.{RestAt, Left, Ending, AfterItems, IsAt}
use Rattle.transaction_set.proofs.Back.{moves, is_course, back as course_back}
use Rattle.transaction_set.proofs.Forth as course_forth
use Rattle.adjustment_895.specs.AnswerRecord.{AnswerRecord}
use Rattle.adjustment_895.specs.HeadTable.{head_fault, head_in, is_past_levels}
use Rattle.adjustment_895.specs.Grammar.{IsHead, IsLevelled, FromStart, FromHead, notes, shared_of}
use Rattle.adjustment_895.specs.Said.{Said, after, level_in, level_reason, own_reason, kept_by}
use Rattle.adjustment_895.specs.declared.head.AnswerHead.{AnswerHead}
use Rattle.adjustment_895.proofs.Levels.{small_levels}
use Rattle.dsd_values.specs.Reading.{level_of}

-- the head of an answer
abbrev pub head_of : AnswerRecord → AnswerHead
head_of a = record { role = a.role; flag = a.flag; number = a.number; check = a.check; level = a.level; receiver_number = a.receiver_number }

pub counted : (m : Said) (seg : Seg) → (after m seg).course.count ≡ m.course.count + 1
unfolding kept_by kept
counted m seg = refl

-- ---- heads

abbrev answer_with : AnswerHead → AnswerRecord
answer_with h = record {
  role = h.role;
  flag = h.flag;
  number = h.number;
  check = h.check;
  level = h.level;
  receiver_number = h.receiver_number;
  note = None;
  lines = [];
  quantity = 0;
  amount = 0;
  deposit = None;
  signature = record { mark = []; name = [] };
}

abbrev IsHeadOf : AnswerHead → Seg → Type 0
IsHeadOf h seg = IsHead (answer_with h) seg

head_right : (seg : Seg) → head_fault seg ≡ None → IsHeadOf (head_in seg) seg
head_right seg e1 =
    let a1 = both_none _ _ e1 in
    let a2 = both_none _ _ a1.1 in
    let a3 = both_none _ _ a2.1 in
    let a4 = both_none _ _ a3.1 in
    let a5 = both_none _ _ a4.1 in
    let a6 = both_none _ _ a5.1 in
    record {
      role = at_ok 1 roles.Supplier _ a1.0;
      flag = at_ok 2 flags.Debit _ a2.0;
      number = at_ok 3 [] _ a3.0;
      check = at_ok 4 0 _ a4.0;
      level = at_ok 5 0 _ a5.0;
      receiver_number = at_ok 6 [] _ a6.0;
      ends = are_empty _ _ a6.1;
    }

head_is : (a : AnswerRecord) (h : AnswerHead) (seg : Seg) → head_of a ≡ h → IsHeadOf h seg → IsHead a seg
head_is a h seg same i =
    let at : IsHeadOf (head_of a) seg = subst (λ (u : AnswerHead). IsHeadOf u seg) (sym same) i in
    record { role = at.role; flag = at.flag; number = at.number; check = at.check; level = at.level; receiver_number = at.receiver_number; ends = at.ends }

right_head : (a : AnswerRecord) (seg : Seg) → IsHead a seg → head_fault seg ≡ None
right_head a seg i =
    none_then _ _ (ok_at 1 _ _ i.role) (none_then _ _ (ok_at 2 _ _ i.flag) (none_then _ _ (ok_at 3 _ _ i.number)
    (none_then _ _ (ok_at 4 _ _ i.check) (none_then _ _ (ok_at 5 _ _ i.level) (none_then _ _ (ok_at 6 _ _ i.receiver_number) (empty_ones _ _ i.ends))))))

abbrev head_with : Role → Flag → List ℕ → ℕ → ℕ → List ℕ → AnswerHead
head_with role flag number check level receiver_number = record { role = role; flag = flag; number = number; check = check; level = level; receiver_number = receiver_number }

same_head : (a b : AnswerHead) → a.role ≡ b.role → a.flag ≡ b.flag → a.number ≡ b.number → a.check ≡ b.check → a.level ≡ b.level → a.receiver_number ≡ b.receiver_number → a ≡ b
same_head a b e1 e2 e3 e4 e5 e6 =
    ap (λ (v : Role). head_with v a.flag a.number a.check a.level a.receiver_number) e1
    ∙ ap (λ (v : Flag). head_with b.role v a.number a.check a.level a.receiver_number) e2
    ∙ ap (λ (v : List ℕ). head_with b.role b.flag v a.check a.level a.receiver_number) e3
    ∙ ap (λ (v : ℕ). head_with b.role b.flag b.number v a.level a.receiver_number) e4
    ∙ ap (λ (v : ℕ). head_with b.role b.flag b.number b.check v a.receiver_number) e5
    ∙ ap (λ (v : List ℕ). head_with b.role b.flag b.number b.check b.level v) e6

head_said : (a : AnswerRecord) (seg : Seg) → IsHead a seg → head_of a ≡ head_in seg
head_said a seg i = same_head (head_of a) (head_in seg)
    (ok_said roles.Supplier _ _ i.role) (ok_said flags.Debit _ _ i.flag) (ok_said [] _ _ i.number) (ok_said 0 _ _ i.check) (ok_said 0 _ _ i.level) (ok_said [] _ _ i.receiver_number)

-- a text that a level spells is no level past the highest
not_past : (text : List ℕ) (level : ℕ) → level_of text ≡ Ok level → is_past_levels text ≡ false
not_past [] level e = refl
not_past (first ∷ []) level e = refl
not_past (first ∷ second ∷ third ∷ more) level e = refl
not_past (first ∷ second ∷ []) level e = small_levels first second level e

-- ---- what is left

abbrev pub Rest895 : Phase → Said → AnswerRecord → Seal → Shape
Rest895 phases.Start m a s before segs = (texts : List (List ℕ)) × (lines : List Line) × (extras : List Extra)
    × ((notes a.note ≡ m.course.references ++ texts) × (a.lines ≡ m.course.lines ++ lines) × ([] ≡ m.course.extras ++ extras)) × FromStart texts lines extras a s before segs
Rest895 phases.Head m a s before segs = (texts : List (List ℕ)) × (lines : List Line) × (extras : List Extra)
    × Left m.course (shared_of a s) texts [] lines extras × FromHead texts lines extras a s before segs
Rest895 phase m a s before segs = (Some (head_of a) ≡ m.head) × RestAt phase forms.Answer m.course (shared_of a s) before segs

module _ (m : Said) (a : AnswerRecord) (s : Seal) (before : List Seg) (seg : Seg) (segs : List Seg) (count check : ℕ) where
  abbrev Behind : Phase → Kind → Type 0
  Behind from kind = Rest895 (phase_in (next_phase from kind forms.Answer)) (kept_by m seg kind (phase_in (next_phase from kind forms.Answer)) count check) a s (before ++ seg ∷ []) segs

  abbrev From : Phase → Kind → Type 0
  From from kind = m.course.phase ≡ from → kind_of forms.Answer seg ≡ kind → own_reason m seg kind ≡ None → IsAt before m.course → Behind from kind → Rest895 from m a s before (seg ∷ segs)

  start_back : From phases.Start kinds.Start
  unfolding kept kept_by
  start_back p k e at (texts, lines, extras, (r, l, x, c), rest) = (texts, lines, extras, (r, l, x), (k, start_right s.control seg (no_value _ e) c, rest))

  head_back : From phases.Head kinds.Head
  unfolding kept kept_by
  head_back p k e at (h, (texts, lines, extras, left, rest)) =
      let same : head_of a ≡ head_in seg = cc (h) in
      (texts, lines, extras, left, (k, head_is a (head_in seg) seg same (head_right seg (no_value _ (both_none _ _ e).1)), rest))

  -- a segment of the course, behind the head
  course_on : (from : Phase) (kind : Kind) → is_course from ≡ true → moves (next_phase from kind forms.Answer) ≡ true
      → m.course.phase ≡ from → kind_of forms.Answer seg ≡ kind → course_reason m.course seg kind ≡ None → IsAt before m.course
      → RestAt (phase_in (next_phase from kind forms.Answer)) forms.Answer (kept m.course seg kind (phase_in (next_phase from kind forms.Answer)) count check) (shared_of a s) (before ++ seg ∷ []) segs
      → RestAt from forms.Answer m.course (shared_of a s) before (seg ∷ segs)
  course_on from kind c q p k e at rest = course_back m.course (shared_of a s) before seg segs count check forms.Answer from kind c q p k e at rest

  -- A segment that may stand there and has no reason against it, before the rest.
  pub back : (from : Phase) (kind : Kind) → moves (next_phase from kind forms.Answer) ≡ true → From from kind
  unfolding kept_by
  back phases.Start kinds.Start g p k e at r = start_back p k e at r
  back phases.Head kinds.Head g p k e at r = head_back p k e at r
  back phases.References kinds.Reference g p k e at (h, r) = (h, course_on phases.References kinds.Reference refl refl p k e at r)
  back phases.References kinds.LoopStart g p k e at (h, r) = (h, course_on phases.References kinds.LoopStart refl refl p k e at r)
  back phases.References kinds.Totals g p k e at (h, r) = (h, course_on phases.References kinds.Totals refl refl p k e at r)
  back phases.Body kinds.LoopStart g p k e at (h, r) = (h, course_on phases.Body kinds.LoopStart refl refl p k e at r)
  back phases.Body kinds.Totals g p k e at (h, r) = (h, course_on phases.Body kinds.Totals refl refl p k e at r)
  back phases.FirstItem kinds.Item g p k e at (h, r) = (h, course_on phases.FirstItem kinds.Item refl refl p k e at r)
  back phases.Items kinds.Item g p k e at (h, r) = (h, course_on phases.Items kinds.Item refl refl p k e at r)
  back phases.Items kinds.Allowance g p k e at (h, r) = (h, course_on phases.Items kinds.Allowance refl refl p k e at r)
  back phases.Items kinds.LineNote g p k e at (h, r) = (h, course_on phases.Items kinds.LineNote refl refl p k e at r)
  back phases.Items kinds.Note g p k e at (h, r) = (h, course_on phases.Items kinds.Note refl refl p k e at r)
  back phases.Items kinds.LoopEnd g p k e at (h, r) = (h, course_on phases.Items kinds.LoopEnd refl refl p k e at r)
  back phases.Extras kinds.Totals g p k e at (h, r) = (h, course_on phases.Extras kinds.Totals refl refl p k e at r)
  back phases.Signature kinds.Signature g p k e at (h, r) = (h, course_on phases.Signature kinds.Signature refl refl p k e at r)
  back phases.Integrity kinds.Integrity g p k e at (h, r) = (h, course_on phases.Integrity kinds.Integrity refl refl p k e at r)
  back phases.Trailer kinds.Trailer g p k e at (h, r) = (h, course_on phases.Trailer kinds.Trailer refl refl p k e at r)
  back _ _ g p k e at r = cc

  abbrev Goes : Phase → Kind → Type 0
  Goes from kind = (kind_of forms.Answer seg ≡ kind) × (own_reason m seg kind ≡ None) × Behind from kind

  -- the level lets it stand there
  abbrev Lets : Kind → Type 0
  Lets kind = level_reason kind m.head ≡ None

  pub record Next (from : Phase) : Type 0 where
    pub kind : Kind
    pub moves_on : moves (next_phase from kind forms.Answer) ≡ true
    pub lets : Lets kind
    pub goes : Goes from kind

  -- a segment of this kind goes on to this phase
  record Onto (kind : Kind) (to : Phase) : Type 0 where
    is : kind_of forms.Answer seg ≡ kind
    lets : Lets kind
    right : own_reason m seg kind ≡ None
    rest : Rest895 to (kept_by m seg kind to count check) a s (before ++ seg ∷ []) segs

  next : (from to : Phase) (kind : Kind) → next_phase from kind forms.Answer ≡ Some to → Onto kind to → Next from
  next from to kind e on = record {
    kind = kind;
    moves_on = ap moves e;
    lets = on.lets;
    goes = (on.is, on.right, subst (λ (o : Option Phase). Rest895 (phase_in o) (kept_by m seg kind (phase_in o) count check) a s (before ++ seg ∷ []) segs) (sym e) on.rest);
  }

  -- what may stand behind the references, which may stand there too
  record Begins : Type 0 where
    kind : Kind
    to : Phase
    from_references : next_phase phases.References kind forms.Answer ≡ Some to
    from_body : next_phase phases.Body kind forms.Answer ≡ Some to
    onto : Onto kind to

  module _ (sound : IsSound a.lines []) (levelled : IsLevelled a.lines a.level) (at : IsAt before m.course) where
    start_on : Rest895 phases.Start m a s before (seg ∷ segs) → Goes phases.Start kinds.Start
    unfolding kept kept_by
    start_on (texts, lines, extras, (r, l, x), (k, c, rest)) = (k, value_none _ (right_start s.control seg c), (texts, lines, extras, (r, l, x, ok_said [] _ _ c.0), rest))

    head_on : Rest895 phases.Head m a s before (seg ∷ segs) → Goes phases.Head kinds.Head
    unfolding kept kept_by
    head_on (texts, lines, extras, left, (k, i, rest)) =
        (k, none_then _ _ (when_not _ _ (not_past (element_of seg 5) a.level i.level)) (value_none _ (right_head a seg i)), (ap (λ (u : AnswerHead). Some u) (head_said a seg i), (texts, lines, extras, left, rest)))

    -- an adjustment has a level
    some_level : (lines : List Line) (line : Line) (more : List Line) → lines ++ line ∷ more ≡ a.lines → 0 < a.level
    some_level lines line more same = from_one (lines ++ line ∷ more) (some lines) (subst (λ (u : List Line). IsLevelled u a.level) (sym same) levelled)
      where
        some : (front : List Line) → 0 < length (front ++ line ∷ more)
        some [] = omega arith
        some (x ∷ front) = omega arith

        from_one : (all : List Line) → 0 < length all → IsLevelled all a.level → 0 < a.level
        from_one [] none h = absurd (omega arith)
        from_one (x ∷ all) some h = h

    lets_loop : Some (head_of a) ≡ m.head → (lines : List Line) (line : Line) (more : List Line) → lines ++ line ∷ more ≡ a.lines → Lets kinds.LoopStart
    lets_loop h lines line more same =
        let level : 0 < a.level = some_level lines line more same in
        let there : level_in m.head ≡ a.level = sym (ap level_in h) in
        when_not _ _ (ap (λ (n : ℕ). n == 0) there ∙ positive a.level level)
      where
        positive : (n : ℕ) → 0 < n → (n == 0) ≡ false
        positive n some = grind (arith, nat_tests)

    totals_onto : Some (head_of a) ≡ m.head → Left m.course (shared_of a s) [] [] [] [] → Closing forms.Answer (shared_of a s) before (seg ∷ segs) → Onto kinds.Totals phases.Signature
    unfolding kept kept_by
    totals_onto h left rest =
        let g = course_forth.totals_on forms.Answer m.course (shared_of a s) before seg segs count check sound at left rest in
        record { is = g.0; lets = refl; right = g.1; rest = (h, g.2) }

    ends_on : (extras : List Extra) → Some (head_of a) ≡ m.head → Left m.course (shared_of a s) [] [] [] extras
        → Ending forms.Answer extras (shared_of a s) before (seg ∷ segs) → Onto kinds.Totals phases.Signature
    ends_on [] h left rest = totals_onto h left rest
    ends_on (extra ∷ extras) h left rest = absurd rest

    begins_on : (lines : List Line) (extras : List Extra) → Some (head_of a) ≡ m.head → Left m.course (shared_of a s) [] [] lines extras
        → Body forms.Answer lines extras (shared_of a s) before (seg ∷ segs) → Begins
    unfolding kept_by
    begins_on [] extras h left rest =
        record { kind = kinds.Totals; to = phases.Signature; from_references = refl; from_body = refl; onto = ends_on extras h left rest }
    begins_on (line ∷ lines) extras h left rest =
        let g = course_forth.loop_start_on forms.Answer m.course (shared_of a s) before seg segs count check sound at line lines extras left rest in
        record { kind = kinds.LoopStart; to = phases.FirstItem; from_references = refl; from_body = refl; onto = record { is = g.0; lets = lets_loop h m.course.lines line lines (sym left.1); right = g.1; rest = (h, g.2) } }

    note_on : (kind : Kind) (text : List ℕ) (inside : List Extra) (lines : List Line) (extras : List Extra) → kind_of forms.Answer seg ≡ kind → is_note true kind ≡ true → m.course.phase ≡ phases.Items → Some (head_of a) ≡ m.head
        → Left m.course (shared_of a s) [] (Note text ∷ inside) lines extras
        → (kept_text seg ≡ text) × Extras true forms.Answer inside (Items forms.Answer lines (AfterItems forms.Answer m.course extras (shared_of a s))) (before ++ seg ∷ []) segs → Next phases.Items
    unfolding kept_by
    note_on kinds.Note text inside lines extras k n p h left rest =
        let g = course_forth.note_inside_on forms.Answer m.course (shared_of a s) before seg segs count check sound at kinds.Note text inside lines extras p k refl left rest in
        record { kind = kinds.Note; moves_on = refl; lets = refl; goes = (g.0, g.1, (h, g.2)) }
    note_on kinds.LineNote text inside lines extras k n p h left rest =
        let g = course_forth.note_inside_on forms.Answer m.course (shared_of a s) before seg segs count check sound at kinds.LineNote text inside lines extras p k refl left rest in
        record { kind = kinds.LineNote; moves_on = refl; lets = refl; goes = (g.0, g.1, (h, g.2)) }
    note_on _ text inside lines extras k n p h left rest = cc

    -- A segment that is the front of the rest.
    pub forth : (from : Phase) → m.course.phase ≡ from → Rest895 from m a s before (seg ∷ segs) → Next from
    unfolding kept_by
    forth phases.Start p r = record { kind = kinds.Start; moves_on = refl; lets = refl; goes = start_on r }
    forth phases.Head p r = record { kind = kinds.Head; moves_on = refl; lets = refl; goes = head_on r }
    forth phases.References p (h, (text ∷ [], lines, extras, left, r)) =
        let g = course_forth.answer_reference_on m.course (shared_of a s) before seg segs count check sound at text lines extras left r in
        record { kind = kinds.Reference; moves_on = refl; lets = refl; goes = (g.0, g.1, (h, g.2)) }
    forth phases.References p (h, (text ∷ next_text ∷ texts, lines, extras, left, r)) = absurd r
    forth phases.References p (h, ([], lines, extras, left, r)) = let e = begins_on lines extras h left r in next phases.References e.to e.kind e.from_references e.onto
    forth phases.Body p (h, (lines, extras, left, r)) = let e = begins_on lines extras h left r in next phases.Body e.to e.kind e.from_body e.onto
    forth phases.FirstItem p (h, r) =
        let g = course_forth.first_item_on forms.Answer m.course (shared_of a s) before seg segs count check sound at r in
        record { kind = kinds.Item; moves_on = refl; lets = refl; goes = (g.0, g.1, (h, g.2)) }
    forth phases.Items p (h, (Allow allowance ∷ inside, lines, extras, left, r)) =
        let g = course_forth.allowance_inside_on forms.Answer m.course (shared_of a s) before seg segs count check sound at allowance inside lines extras p left r in
        record { kind = kinds.Allowance; moves_on = refl; lets = refl; goes = (g.0, g.1, (h, g.2)) }
    forth phases.Items p (h, (Note text ∷ inside, lines, extras, left, ((n, t), r))) = note_on (kind_of forms.Answer seg) text inside lines extras refl n p h left (t, r)
    forth phases.Items p (h, ([], line ∷ lines, extras, left, r)) =
        let g = course_forth.item_on forms.Answer m.course (shared_of a s) before seg segs count check sound at line lines extras left r in
        record { kind = kinds.Item; moves_on = refl; lets = refl; goes = (g.0, g.1, (h, g.2)) }
    forth phases.Items p (h, ([], [], extras, left, r)) =
        let g = course_forth.loop_end_on forms.Answer m.course (shared_of a s) before seg segs count check sound at extras left r in
        record { kind = kinds.LoopEnd; moves_on = refl; lets = refl; goes = (g.0, g.1, (h, g.2)) }
    forth phases.Extras p (h, (extras, left, r)) = next phases.Extras phases.Signature kinds.Totals refl (ends_on extras h left r)
    forth phases.Signature p (h, r) =
        let g = course_forth.signature_on forms.Answer m.course (shared_of a s) before seg segs count check sound at r in
        record { kind = kinds.Signature; moves_on = refl; lets = refl; goes = (g.0, g.1, (h, g.2)) }
    forth phases.Integrity p (h, r) =
        let g = course_forth.integrity_on forms.Answer m.course (shared_of a s) before seg segs count check sound at r in
        record { kind = kinds.Integrity; moves_on = refl; lets = refl; goes = (g.0, g.1, (h, g.2)) }
    forth phases.Trailer p (h, r) =
        let g = course_forth.trailer_on forms.Answer m.course (shared_of a s) before seg segs count check sound at r in
        record { kind = kinds.Trailer; moves_on = refl; lets = refl; goes = (g.0, g.1, (h, g.2)) }
    forth phases.Done p (h, (read, totals, g, i, e)) = cc
