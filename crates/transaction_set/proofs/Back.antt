-- A segment without a reason against it, before what is the rest behind it, is the front of the rest.
use Rattle.std.proofs.Common.{◌≡◌, ℕ, ◌+◌, Bool, true, false, List, [], ◌∷◌, ◌++◌, length, Ok, Some, None, Option, refl, sym, ap, ◌∙◌, subst, append_assoc, append-nil}
use Rattle.dsd_values.specs.declared.extra.Extra.{Extra}
use Rattle.dsd_values.specs.declared.extra.Extra.TheVariants.{Allow, Note}
use Rattle.dsd_values.specs.declared.line.Line.{Line}
use Rattle.dsd_values.specs.SignatureRecord.{SignatureRecord}
use Rattle.segments.specs.Views.{Seg}
use Rattle.transaction_set.specs.Allowances.{IsAllowance, allowance_in}
use Rattle.transaction_set.specs.Extras.{allowances, extra_in, is_note}
use Rattle.segments.specs.Elements.{kept_text}
use Rattle.transaction_set.specs.Tables.{line_in, loop_id_in, totals_in, stated_count_in, control_again_in}
use Rattle.transaction_set.specs.Kinds.{kind_of, next_phase}
use Rattle.transaction_set.specs.SoFar.{SoFar, in_line, lines_after, extras_after, kept, phase_in}
use Rattle.transaction_set.specs.Reasons.{allowance_reason, beside, course_reason}
use Rattle.transaction_set.specs.Grammar.{Shape, Shared, IsItem, IsSignature, IsTotals, Closing, Record, References, Body}
use Rattle.transaction_set.specs.declared.stated.StatedTotals.{StatedTotals}
use Rattle.transaction_set.specs.declared.kind.Form.{Form}
use Rattle.transaction_set.specs.declared.kind.Form.TheVariants as forms
use Rattle.transaction_set.specs.declared.kind.Kind.{Kind}
use Rattle.transaction_set.specs.declared.kind.Kind.TheVariants as kinds
use Rattle.transaction_set.specs.declared.phase.Phase.{Phase}
use Rattle.transaction_set.specs.declared.phase.Phase.TheVariants as phases
use Rattle.transaction_set.proofs.Small.{both_none, not_when, no_value, same_bytes, same_number, same_some}
use Rattle.transaction_set.proofs.Faultless.{item_right, item_beside, loop_start_right, loop_end_right, totals_right, signature_right, integrity_right, trailer_right}
use Rattle.transaction_set.proofs.RightAllowances.{allowance_right}
use Rattle.transaction_set.proofs.Behind.{with_extras, with_extras_last, extended_by}
use Rattle.transaction_set.proofs.Rest.{RestAt, Left, Read, IsAt}

abbrev pub moves : Option Phase → Bool
moves (Some phase) = true
moves None = false

-- behind the head
abbrev pub is_course : Phase → Bool
is_course phases.Start = false
is_course phases.Head = false
is_course _ = true

-- no extras of the record, and no references
pub record_none : (form : Form) (rest : Shape) (before segs : List Seg) → rest before segs → Record form [] rest before segs
record_none forms.Base rest before segs h = h
record_none forms.Answer rest before segs h = h

pub references_none : (form : Form) (rest : Shape) (before segs : List Seg) → rest before segs → References form [] rest before segs
references_none forms.Base rest before segs h = h
references_none forms.Answer rest before segs h = h

module _ (form : Form) (m : SoFar) (t : Shared) (before : List Seg) (seg : Seg) (segs : List Seg) (count check : ℕ) where
  abbrev Behind : Phase → Kind → Type 0
  Behind from kind = RestAt (phase_in (next_phase from kind form)) form (kept m seg kind (phase_in (next_phase from kind form)) count check) t (before ++ seg ∷ []) segs

  abbrev Here : Phase → Type 0
  Here from = RestAt from form m t before (seg ∷ segs)

  abbrev From : Phase → Kind → Type 0
  From from kind = m.phase ≡ from → kind_of form seg ≡ kind → course_reason m seg kind ≡ None → IsAt before m → Behind from kind → Here from

  -- what may stand behind the references, or behind the loop, may stand behind none of them
  behind_references : Here phases.Body → Here phases.References
  behind_references (lines, extras, left, rest) = ([], lines, extras, left, references_none form (Body form lines extras t) before (seg ∷ segs) rest)

  behind_loop : Here phases.Extras → Here phases.Body
  behind_loop (extras, left, rest) = ([], extras, left, rest)

  -- ---- loops

  loop_start_back : kind_of form seg ≡ kinds.LoopStart → course_reason m seg kinds.LoopStart ≡ None
      → RestAt phases.FirstItem form (kept m seg kinds.LoopStart phases.FirstItem count check) t (before ++ seg ∷ []) segs → Here phases.Body
  unfolding kept
  loop_start_back k e (line, lines, extras, left, rest) =
      (line ∷ lines, extras, left, (loop_id_in seg, (k, loop_start_right seg (no_value _ e), rest)))

  line_is : (inside : List Extra) (lines : List Line) → t.lines ≡ with_extras inside (m.lines ++ line_in seg ∷ []) ++ lines → t.lines ≡ m.lines ++ extended_by (line_in seg) inside ∷ lines
  line_is inside lines l =
      l ∙ ap (λ (u : List Line). u ++ lines) (with_extras_last inside m.lines (line_in seg)) ∙ append_assoc m.lines (extended_by (line_in seg) inside ∷ []) lines

  item_is : (inside : List Extra) → course_reason m seg kinds.Item ≡ None → IsItem (extended_by (line_in seg) inside) seg
  item_is inside e =
      let none = both_none _ _ (both_none _ _ e).1 in
      item_beside inside (line_in seg) seg (item_right seg (no_value _ none.0))

  first_item_back : From phases.FirstItem kinds.Item
  unfolding kept
  first_item_back p k e at (inside, lines, extras, (r, l, x, c), rest) =
      (extended_by (line_in seg) inside, lines, extras, (r, line_is inside lines l, x, c), (k, item_is inside e, rest))

  item_back : From phases.Items kinds.Item
  unfolding kept
  item_back p k e at (inside, lines, extras, (r, l, x, c), rest) =
      ([], extended_by (line_in seg) inside ∷ lines, extras, (r, line_is inside lines l, x, c), (k, item_is inside e, rest))

  loop_end_back : From phases.Items kinds.LoopEnd
  unfolding kept
  loop_end_back p k e at (extras, left, rest) =
      ([], [], extras, left, (k, loop_end_right m.loop_id seg (no_value _ e), rest))

  -- ---- extras

  allowance_is : (b : Bool) → in_line m.phase ≡ b → course_reason m seg kinds.Allowance ≡ None → IsAllowance b (allowance_in seg) seg
  allowance_is b i e =
      let there : allowance_reason b (allowances (beside m)) seg ≡ None = subst (λ (u : Bool). allowance_reason u (allowances (beside m)) seg ≡ None) i e in
      allowance_right b seg (no_value _ (both_none _ _ there).1)

  -- behind the last line
  inside_is : (kind : Kind) (inside : List Extra) (lines : List Line) (now : List Line) → in_line m.phase ≡ true
      → lines_after kind true (line_in seg) (extra_in kind seg) m.lines ≡ now
      → t.lines ≡ with_extras inside (lines_after kind (in_line m.phase) (line_in seg) (extra_in kind seg) m.lines) ++ lines
      → t.lines ≡ with_extras inside now ++ lines
  inside_is kind inside lines now i same l =
      l ∙ ap (λ (b : Bool). with_extras inside (lines_after kind b (line_in seg) (extra_in kind seg) m.lines) ++ lines) i ∙ ap (λ (u : List Line). with_extras inside u ++ lines) same

  kept_beside : (kind : Kind) (extras : List Extra) → in_line m.phase ≡ true
      → extras_after kind true (extra_in kind seg) m.extras ≡ m.extras
      → t.extras ≡ extras_after kind (in_line m.phase) (extra_in kind seg) m.extras ++ extras
      → t.extras ≡ m.extras ++ extras
  kept_beside kind extras i same x =
      x ∙ ap (λ (b : Bool). extras_after kind b (extra_in kind seg) m.extras ++ extras) i ∙ ap (λ (u : List Extra). u ++ extras) same

  allowance_inside : From phases.Items kinds.Allowance
  unfolding kept
  allowance_inside p k e at (inside, lines, extras, (r, l, x, c), rest) =
      let i : in_line m.phase ≡ true = ap in_line p in (
        Allow (allowance_in seg) ∷ inside,
        lines,
        extras,
        (r, inside_is kinds.Allowance inside lines _ i refl l, kept_beside kinds.Allowance extras i refl x, c),
        ((k, allowance_is true i e), rest),
      )

  line_note_inside : From phases.Items kinds.LineNote
  unfolding kept
  line_note_inside p k e at (inside, lines, extras, (r, l, x, c), rest) =
      let i : in_line m.phase ≡ true = ap in_line p in (
        Note (kept_text seg) ∷ inside,
        lines,
        extras,
        (r, inside_is kinds.LineNote inside lines _ i refl l, kept_beside kinds.LineNote extras i refl x, c),
        ((ap (is_note true) k, refl), rest),
      )

  note_inside : From phases.Items kinds.Note
  unfolding kept
  note_inside p k e at (inside, lines, extras, (r, l, x, c), rest) =
      let i : in_line m.phase ≡ true = ap in_line p in (
        Note (kept_text seg) ∷ inside,
        lines,
        extras,
        (r, inside_is kinds.Note inside lines _ i refl l, kept_beside kinds.Note extras i refl x, c),
        ((ap (is_note true) k, refl), rest),
      )

  -- at record level
  beside_is : (kind : Kind) (extra : Extra) (extras : List Extra) → in_line m.phase ≡ false
      → extras_after kind false (extra_in kind seg) m.extras ≡ m.extras ++ extra ∷ []
      → t.extras ≡ extras_after kind (in_line m.phase) (extra_in kind seg) m.extras ++ extras
      → t.extras ≡ m.extras ++ extra ∷ extras
  beside_is kind extra extras i same x =
      x ∙ ap (λ (b : Bool). extras_after kind b (extra_in kind seg) m.extras ++ extras) i ∙ ap (λ (u : List Extra). u ++ extras) same
      ∙ append_assoc m.extras (extra ∷ []) extras

  lines_kept : (kind : Kind) → in_line m.phase ≡ false → lines_after kind false (line_in seg) (extra_in kind seg) m.lines ≡ m.lines
      → t.lines ≡ lines_after kind (in_line m.phase) (line_in seg) (extra_in kind seg) m.lines ++ [] → t.lines ≡ m.lines ++ []
  lines_kept kind i same l =
      l ∙ ap (λ (b : Bool). lines_after kind b (line_in seg) (extra_in kind seg) m.lines ++ []) i ∙ ap (λ (u : List Line). u ++ []) same

  -- ---- the closing

  totals_are : course_reason m seg kinds.Totals ≡ None → t.totals ≡ totals_in seg → IsTotals t.totals seg
  totals_are e same = subst (λ (u : StatedTotals). IsTotals u seg) (sym same) (totals_right seg (no_value _ e))

  nothing_left : Read m t → Left m t [] [] [] []
  nothing_left (r, l, x, c) = (r ∙ sym (append-nil m.references), l ∙ sym (append-nil m.lines), x ∙ sym (append-nil m.extras), c)

  totals_back : kind_of form seg ≡ kinds.Totals → course_reason m seg kinds.Totals ≡ None
      → RestAt phases.Signature form (kept m seg kinds.Totals phases.Signature count check) t (before ++ seg ∷ []) segs → Here phases.Extras
  unfolding kept
  totals_back k e (read, totals, rest) =
      ([], nothing_left read, record_none form (Closing form t) before (seg ∷ segs) (k, totals_are e totals, rest))

  signature_back : From phases.Signature kinds.Signature
  unfolding kept
  signature_back p k e at (read, totals, g, rest) =
      (read, totals, (k, subst (λ (u : SignatureRecord). IsSignature u seg) (sym (same_some _ _ g)) (signature_right seg (no_value _ e)), rest))

  integrity_back : From phases.Integrity kinds.Integrity
  unfolding kept
  integrity_back p k e at (read, totals, g, i, rest) =
      let both = both_none _ _ e in
      let right = integrity_right seg (no_value _ both.0) in
      (read, totals, g, (k, (right.0 ∙ ap (λ (n : ℕ). Ok n) (sym i), i ∙ same_number _ _ (not_when _ _ both.1) ∙ at.1, right.1), rest))

  trailer_back : From phases.Trailer kinds.Trailer
  unfolding kept
  trailer_back p k e at (read, totals, g, i, rest) =
      let both = both_none _ _ e in
      let counted = both_none _ _ both.1 in
      let right = trailer_right seg (no_value _ both.0) in
      let found : stated_count_in seg ≡ length before + 1 = same_number _ _ (not_when _ _ counted.0) ∙ ap (λ (n : ℕ). n + 1) at.0 in
      let again : control_again_in seg ≡ t.control = same_bytes _ _ (not_when _ _ counted.1) ∙ sym read.3 in
      (read, totals, g, i, (k, (right.0 ∙ ap (λ (n : ℕ). Ok n) found, right.1 ∙ ap (λ (w : List ℕ). Ok w) again, right.2), rest))

-- ---- what the two sets have otherwise

module _ (m : SoFar) (t : Shared) (before : List Seg) (seg : Seg) (segs : List Seg) (count check : ℕ) where
  base_reference : From forms.Base m t before seg segs count check phases.References kinds.Reference
  unfolding kept
  base_reference p k e at (texts, lines, extras, (r, l, x, c), rest) =
      (kept_text seg ∷ texts, lines, extras, (r ∙ append_assoc m.references (kept_text seg ∷ []) texts, l, x, c), (k, refl, rest))

  answer_reference : From forms.Answer m t before seg segs count check phases.References kinds.Reference
  unfolding kept
  answer_reference p k e at (lines, extras, (r, l, x, c), rest) =
      (kept_text seg ∷ [], lines, extras, (r ∙ append-nil (m.references ++ kept_text seg ∷ []), l, x, c), (k, refl, rest))

  allowance_beside : in_line m.phase ≡ false → kind_of forms.Base seg ≡ kinds.Allowance → course_reason m seg kinds.Allowance ≡ None
      → RestAt phases.Extras forms.Base (kept m seg kinds.Allowance phases.Extras count check) t (before ++ seg ∷ []) segs → Here forms.Base m t before seg segs count check phases.Extras
  unfolding kept
  allowance_beside i k e (extras, (r, l, x, c), rest) = (
    Allow (allowance_in seg) ∷ extras,
    (r, lines_kept forms.Base m t before seg segs count check kinds.Allowance i refl l, beside_is forms.Base m t before seg segs count check kinds.Allowance (Allow (allowance_in seg)) extras i refl x, c),
    ((k, allowance_is forms.Base m t before seg segs count check false i e), rest),
  )

  note_beside : in_line m.phase ≡ false → kind_of forms.Base seg ≡ kinds.Note
      → RestAt phases.Extras forms.Base (kept m seg kinds.Note phases.Extras count check) t (before ++ seg ∷ []) segs → Here forms.Base m t before seg segs count check phases.Extras
  unfolding kept
  note_beside i k (extras, (r, l, x, c), rest) = (
    Note (kept_text seg) ∷ extras,
    (r, lines_kept forms.Base m t before seg segs count check kinds.Note i refl l, beside_is forms.Base m t before seg segs count check kinds.Note (Note (kept_text seg)) extras i refl x, c),
    ((ap (is_note false) k, refl), rest),
  )

  -- A segment that may stand there and has no reason against it, behind the head.
  pub back : (form : Form) (from : Phase) (kind : Kind) → is_course from ≡ true → moves (next_phase from kind form) ≡ true → From form m t before seg segs count check from kind
  back forms.Base phases.References kinds.Reference h q = base_reference
  back forms.Answer phases.References kinds.Reference h q = answer_reference
  back form phases.References kinds.LoopStart h q = λ p k e at rest. behind_references form m t before seg segs count check (loop_start_back form m t before seg segs count check k e rest)
  back form phases.Body kinds.LoopStart h q = λ p k e at rest. loop_start_back form m t before seg segs count check k e rest
  back form phases.References kinds.Totals h q = λ p k e at rest. behind_references form m t before seg segs count check (behind_loop form m t before seg segs count check (totals_back form m t before seg segs count check k e rest))
  back form phases.Body kinds.Totals h q = λ p k e at rest. behind_loop form m t before seg segs count check (totals_back form m t before seg segs count check k e rest)
  back forms.Base phases.References kinds.Allowance h q = λ p k e at rest. behind_references forms.Base m t before seg segs count check (behind_loop forms.Base m t before seg segs count check (allowance_beside (ap in_line p) k e rest))
  back forms.Base phases.References kinds.Note h q = λ p k e at rest. behind_references forms.Base m t before seg segs count check (behind_loop forms.Base m t before seg segs count check (note_beside (ap in_line p) k rest))
  back forms.Base phases.Body kinds.Allowance h q = λ p k e at rest. behind_loop forms.Base m t before seg segs count check (allowance_beside (ap in_line p) k e rest)
  back forms.Base phases.Body kinds.Note h q = λ p k e at rest. behind_loop forms.Base m t before seg segs count check (note_beside (ap in_line p) k rest)
  back forms.Base phases.Extras kinds.Allowance h q = λ p k e at rest. allowance_beside (ap in_line p) k e rest
  back forms.Base phases.Extras kinds.Note h q = λ p k e at rest. note_beside (ap in_line p) k rest
  back form phases.FirstItem kinds.Item h q = first_item_back form m t before seg segs count check
  back form phases.Items kinds.Item h q = item_back form m t before seg segs count check
  back form phases.Items kinds.Allowance h q = allowance_inside form m t before seg segs count check
  back form phases.Items kinds.LineNote h q = line_note_inside form m t before seg segs count check
  back form phases.Items kinds.Note h q = note_inside form m t before seg segs count check
  back form phases.Items kinds.LoopEnd h q = loop_end_back form m t before seg segs count check
  back form phases.Extras kinds.Totals h q = λ p k e at rest. totals_back form m t before seg segs count check k e rest
  back form phases.Signature kinds.Signature h q = signature_back form m t before seg segs count check
  back form phases.Integrity kinds.Integrity h q = integrity_back form m t before seg segs count check
  back form phases.Trailer kinds.Trailer h q = trailer_back form m t before seg segs count check
  back _ _ _ h q = cc
