-- The front of the rest of a set is a segment without a reason against it, and the rest stands behind it.
use Rattle.std.proofs.Common.{◌≡◌, ℕ, ◌+◌, ◌≤◌, ◌<◌, Bool, true, false, cond, List, [], ◌∷◌, ◌++◌, length, None, refl, sym, ap, ◌∙◌, subst, arith, append_assoc, append-nil, length-append, Some}
use Rattle.std.specs.List.{All}
use Rattle.dsd_values.specs.declared.extra.Extra.{Extra}
use Rattle.dsd_values.specs.declared.extra.Extra.TheVariants.{Allow, Note}
use Rattle.dsd_values.specs.declared.allowance.Allowance.{Allowance}
use Rattle.dsd_values.specs.declared.line.Line.{Line}
use Rattle.dsd_values.specs.declared.limits.TheConstants.{MOST_ALLOWANCES, MOST_LINES}
use Rattle.segments.specs.Views.{Seg}
use Rattle.transaction_set.specs.Allowances.{IsAllowance, allowance_in}
use Rattle.transaction_set.specs.Extras.{AreExtras, HasExtras, allowances, extra_in, is_note}
use Rattle.segments.specs.Elements.{kept_text}
use Rattle.transaction_set.specs.Tables.{line_in, integrity_in, stated_count_in, control_again_in}
use Rattle.transaction_set.specs.Kinds.{kind_of, next_phase}
use Rattle.transaction_set.specs.SoFar.{SoFar, in_line, lines_after, extras_after, kept, phase_in}
use Rattle.transaction_set.specs.Reasons.{allowance_reason, beside, course_reason, has_line, last_extras}
use Rattle.transaction_set.specs.Grammar.{Shared, IsItem, Extras, Items, LoopEnd, Closing, References, Body, OneReference, AreApart, IsSound}
use Rattle.transaction_set.specs.declared.kind.Form.{Form}
use Rattle.transaction_set.specs.declared.kind.Form.TheVariants as forms
use Rattle.transaction_set.specs.declared.kind.Kind.{Kind}
use Rattle.transaction_set.specs.declared.kind.Kind.TheVariants as kinds
use Rattle.transaction_set.specs.declared.phase.Phase.{Phase}
use Rattle.transaction_set.specs.declared.phase.Phase.TheVariants as phases
use Rattle.transaction_set.proofs.Small.{none_then, when_not, value_none, bytes_same, number_same, not_le, ok_said}
use Rattle.transaction_set.proofs.Faultless.{right_item, line_said, right_loop_start, right_loop_end, right_totals, totals_said, right_signature, signature_said, right_integrity, right_trailer}
use Rattle.transaction_set.proofs.RightAllowances.{right_allowance, allowance_said}
use Rattle.transaction_set.proofs.Apart.{apart_at}
use Rattle.transaction_set.proofs.Behind.{extended_by, with_extras, with_extras_last, room_inside, room_beside}
use Rattle.transaction_set.proofs.Rest.{RestAt, Left, Ending, AfterItems, IsAt}

module _ (form : Form) (m : SoFar) (t : Shared) (before : List Seg) (seg : Seg) (segs : List Seg) (count check : ℕ) (sound : IsSound t.lines t.extras) (at : IsAt before m) where
  abbrev pub Goes : Phase → Kind → Type 0
  Goes from kind = (kind_of form seg ≡ kind) × (course_reason m seg kind ≡ None)
      × RestAt (phase_in (next_phase from kind form)) form (kept m seg kind (phase_in (next_phase from kind form)) count check) t (before ++ seg ∷ []) segs

  -- ---- loops

  pub loop_start_on : (line : Line) (lines : List Line) (extras : List Extra) → Left m t [] [] (line ∷ lines) extras → Body form (line ∷ lines) extras t before (seg ∷ segs) → Goes phases.Body kinds.LoopStart
  unfolding kept
  loop_start_on line lines extras left (label, (k, w, rest)) = (
    k,
    value_none _ (right_loop_start label seg w),
    (
      line,
      lines,
      extras,
      left,
      subst (λ (name : List ℕ). Items form (line ∷ lines) (LoopEnd form name (Ending form extras t)) (before ++ seg ∷ []) segs) (ok_said [] _ label w.0) rest,
    ),
  )

  line_behind : (line : Line) (lines : List Line) → IsItem line seg → t.lines ≡ m.lines ++ line ∷ lines → t.lines ≡ with_extras line.extras (m.lines ++ line_in seg ∷ []) ++ lines
  line_behind line lines i l =
      l ∙ ap (λ (u : Line). m.lines ++ u ∷ lines) (line_said line seg i)
      ∙ sym (append_assoc m.lines (extended_by (line_in seg) line.extras ∷ []) lines)
      ∙ ap (λ (u : List Line). u ++ lines) (sym (with_extras_last line.extras m.lines (line_in seg)))

  item_none : (line : Line) (lines : List Line) → IsItem line seg → t.lines ≡ m.lines ++ line ∷ lines → course_reason m seg kinds.Item ≡ None
  item_none line lines i l =
      let most : length (m.lines ++ line ∷ lines) ≤ MOST_LINES = subst (λ (u : List Line). length u ≤ MOST_LINES) l sound.limit in
      let under : length m.lines < MOST_LINES = omega (arith, length-append m.lines (line ∷ lines), most) in
      let new : has_line line.dsd m.lines ≡ false = apart_at m.lines line lines (subst AreApart l sound.apart) in
      none_then _ _ (when_not _ _ (not_le MOST_LINES (length m.lines) under)) (none_then _ _ (value_none _ (right_item line seg i))
      (when_not _ _ (ap (λ (n : ℕ). has_line n m.lines) (sym (ok_said 0 _ _ i.dsd)) ∙ new)))

  pub first_item_on : RestAt phases.FirstItem form m t before (seg ∷ segs) → Goes phases.FirstItem kinds.Item
  unfolding kept
  first_item_on (line, lines, extras, (r, l, x, c), (k, i, rest)) =
      (k, item_none line lines i l, (line.extras, lines, extras, (r, line_behind line lines i l, x, c), rest))

  pub item_on : (line : Line) (lines : List Line) (extras : List Extra) → Left m t [] [] (line ∷ lines) extras → Items form (line ∷ lines) (AfterItems form m extras t) before (seg ∷ segs) → Goes phases.Items kinds.Item
  unfolding kept
  item_on line lines extras (r, l, x, c) (k, i, rest) =
      (k, item_none line lines i l, (line.extras, lines, extras, (r, line_behind line lines i l, x, c), rest))

  pub loop_end_on : (extras : List Extra) → Left m t [] [] [] extras → AfterItems form m extras t before (seg ∷ segs) → Goes phases.Items kinds.LoopEnd
  unfolding kept
  loop_end_on extras left (k, w, rest) = (k, value_none _ (right_loop_end m.loop_id seg w), (extras, left, rest))

  -- ---- extras

  allowance_none : (b : Bool) (allowance : Allowance) → in_line m.phase ≡ b → IsAllowance b allowance seg → allowances (cond b (last_extras m.lines) m.extras) < MOST_ALLOWANCES → course_reason m seg kinds.Allowance ≡ None
  allowance_none b allowance i is room =
      let here : allowances (beside m) < MOST_ALLOWANCES = subst (λ (u : Bool). allowances (cond u (last_extras m.lines) m.extras) < MOST_ALLOWANCES) (sym i) room in
      let there : allowance_reason b (allowances (beside m)) seg ≡ None = none_then _ _ (when_not _ _ (not_le MOST_ALLOWANCES (allowances (beside m)) here)) (value_none _ (right_allowance b allowance seg is)) in
      subst (λ (u : Bool). allowance_reason u (allowances (beside m)) seg ≡ None) (sym i) there

  inside_on : (kind : Kind) (inside : List Extra) (lines : List Line) (now : List Line) → in_line m.phase ≡ true
      → lines_after kind true (line_in seg) (extra_in kind seg) m.lines ≡ now
      → t.lines ≡ with_extras inside now ++ lines
      → t.lines ≡ with_extras inside (lines_after kind (in_line m.phase) (line_in seg) (extra_in kind seg) m.lines) ++ lines
  inside_on kind inside lines now i same l =
      l ∙ ap (λ (u : List Line). with_extras inside u ++ lines) (sym same) ∙ ap (λ (b : Bool). with_extras inside (lines_after kind b (line_in seg) (extra_in kind seg) m.lines) ++ lines) (sym i)

  extras_on : (kind : Kind) (b : Bool) (now extras : List Extra) → in_line m.phase ≡ b
      → extras_after kind b (extra_in kind seg) m.extras ≡ now
      → t.extras ≡ now ++ extras
      → t.extras ≡ extras_after kind (in_line m.phase) (extra_in kind seg) m.extras ++ extras
  extras_on kind b now extras i same x =
      x ∙ ap (λ (u : List Extra). u ++ extras) (sym same) ∙ ap (λ (u : Bool). extras_after kind u (extra_in kind seg) m.extras ++ extras) (sym i)

  lines_on : (kind : Kind) → in_line m.phase ≡ false → lines_after kind false (line_in seg) (extra_in kind seg) m.lines ≡ m.lines
      → t.lines ≡ m.lines ++ [] → t.lines ≡ lines_after kind (in_line m.phase) (line_in seg) (extra_in kind seg) m.lines ++ []
  lines_on kind i same l =
      l ∙ ap (λ (u : List Line). u ++ []) (sym same) ∙ ap (λ (b : Bool). lines_after kind b (line_in seg) (extra_in kind seg) m.lines ++ []) (sym i)

  pub allowance_inside_on : (allowance : Allowance) (inside : List Extra) (lines : List Line) (extras : List Extra) → m.phase ≡ phases.Items → Left m t [] (Allow allowance ∷ inside) lines extras
      → Extras true form (Allow allowance ∷ inside) (Items form lines (AfterItems form m extras t)) before (seg ∷ segs) → Goes phases.Items kinds.Allowance
  unfolding kept
  allowance_inside_on allowance inside lines extras p (r, l, x, c) ((k, is), rest) =
      let i : in_line m.phase ≡ true = ap in_line p in
      let said : Allow allowance ≡ Allow (allowance_in seg) = ap (λ (a : Allowance). Allow a) (allowance_said true allowance seg is) in
      let here : t.lines ≡ with_extras (Allow (allowance_in seg) ∷ inside) m.lines ++ lines = l ∙ ap (λ (e : Extra). with_extras (e ∷ inside) m.lines ++ lines) said in (
        k,
        allowance_none true allowance i is (room_inside allowance inside m.lines lines (subst (λ (u : List Line). All HasExtras u) l sound.behind)),
        (inside, lines, extras, (r, inside_on kinds.Allowance inside lines _ i refl here, extras_on kinds.Allowance true m.extras extras i refl x, c), rest),
      )

  -- G22 and G23 behind an item
  pub note_inside_on : (kind : Kind) (text : List ℕ) (inside : List Extra) (lines : List Line) (extras : List Extra) → m.phase ≡ phases.Items → kind_of form seg ≡ kind → is_note true kind ≡ true
      → Left m t [] (Note text ∷ inside) lines extras
      → (kept_text seg ≡ text) × Extras true form inside (Items form lines (AfterItems form m extras t)) (before ++ seg ∷ []) segs → Goes phases.Items kind
  unfolding kept
  note_inside_on kinds.Note text inside lines extras p k n (r, l, x, c) (is, rest) =
      let i : in_line m.phase ≡ true = ap in_line p in
      let here : t.lines ≡ with_extras (Note (kept_text seg) ∷ inside) m.lines ++ lines = l ∙ ap (λ (u : List ℕ). with_extras (Note u ∷ inside) m.lines ++ lines) (sym is) in
      (k, refl, (inside, lines, extras, (r, inside_on kinds.Note inside lines _ i refl here, extras_on kinds.Note true m.extras extras i refl x, c), rest))
  note_inside_on kinds.LineNote text inside lines extras p k n (r, l, x, c) (is, rest) =
      let i : in_line m.phase ≡ true = ap in_line p in
      let here : t.lines ≡ with_extras (Note (kept_text seg) ∷ inside) m.lines ++ lines = l ∙ ap (λ (u : List ℕ). with_extras (Note u ∷ inside) m.lines ++ lines) (sym is) in
      (k, refl, (inside, lines, extras, (r, inside_on kinds.LineNote inside lines _ i refl here, extras_on kinds.LineNote true m.extras extras i refl x, c), rest))
  note_inside_on _ text inside lines extras p k n left rest = cc

  -- ---- the closing

  pub totals_on : Left m t [] [] [] [] → Closing form t before (seg ∷ segs) → Goes phases.Extras kinds.Totals
  unfolding kept
  totals_on (r, l, x, c) (k, s, rest) =
      (k, value_none _ (right_totals t.totals seg s), ((r ∙ append-nil m.references, l ∙ append-nil m.lines, x ∙ append-nil m.extras, c), totals_said t.totals seg s, rest))

  pub signature_on : RestAt phases.Signature form m t before (seg ∷ segs) → Goes phases.Signature kinds.Signature
  unfolding kept
  signature_on (read, totals, (k, s, rest)) = (k, value_none _ (right_signature t.signature seg s), (read, totals, ap Some (signature_said t.signature seg s), rest))

  pub integrity_on : RestAt phases.Integrity form m t before (seg ∷ segs) → Goes phases.Integrity kinds.Integrity
  unfolding kept
  integrity_on (read, totals, g, (k, (n, c, ends), rest)) =
      let said : t.check ≡ integrity_in seg = ok_said 0 _ _ n in
      (k, none_then _ _ (value_none _ (right_integrity t.check seg n ends)) (when_not _ _ (number_same _ _ (sym said ∙ c ∙ sym at.1))), (read, totals, g, said, rest))

  pub trailer_on : RestAt phases.Trailer form m t before (seg ∷ segs) → Goes phases.Trailer kinds.Trailer
  unfolding kept
  trailer_on (read, totals, g, i, (k, (n, w, ends), rest)) =
      let found : stated_count_in seg ≡ m.count + 1 = sym (ok_said 0 _ _ n) ∙ ap (λ (u : ℕ). u + 1) (sym at.0) in
      let again : control_again_in seg ≡ m.control = sym (ok_said [] _ _ w) ∙ read.3 in (
        k,
        none_then _ _ (value_none _ (right_trailer (length before + 1) t.control seg n w ends)) (none_then _ _ (when_not _ _ (number_same _ _ found)) (when_not _ _ (bytes_same _ _ again))),
        (read, totals, g, i, rest),
      )

-- ---- what a base record has otherwise

module _ (m : SoFar) (t : Shared) (before : List Seg) (seg : Seg) (segs : List Seg) (count check : ℕ) (sound : IsSound t.lines t.extras) (at : IsAt before m) where
  abbrev GoesBase : Phase → Kind → Type 0
  GoesBase from kind = Goes forms.Base m t before seg segs count check sound at from kind

  pub base_reference_on : (text : List ℕ) (texts : List (List ℕ)) (lines : List Line) (extras : List Extra) → Left m t (text ∷ texts) [] lines extras
      → OneReference forms.Base text (References forms.Base texts (Body forms.Base lines extras t)) before (seg ∷ segs) → GoesBase phases.References kinds.Reference
  unfolding kept
  base_reference_on text texts lines extras (r, l, x, c) (k, is, rest) =
      let here : t.references ≡ (m.references ++ kept_text seg ∷ []) ++ texts = r ∙ ap (λ (u : List ℕ). m.references ++ u ∷ texts) (sym is) ∙ sym (append_assoc m.references (kept_text seg ∷ []) texts) in
      (k, refl, (texts, lines, extras, (here, l, x, c), rest))

  pub allowance_beside_on : (allowance : Allowance) (extras : List Extra) → in_line m.phase ≡ false → Left m t [] [] [] (Allow allowance ∷ extras)
      → Ending forms.Base (Allow allowance ∷ extras) t before (seg ∷ segs) → GoesBase phases.Extras kinds.Allowance
  unfolding kept
  allowance_beside_on allowance extras i (r, l, x, c) ((k, is), rest) =
      let said : Allow allowance ≡ Allow (allowance_in seg) = ap (λ (a : Allowance). Allow a) (allowance_said false allowance seg is) in
      let here : t.extras ≡ (m.extras ++ Allow (allowance_in seg) ∷ []) ++ extras = x ∙ ap (λ (e : Extra). m.extras ++ e ∷ extras) said ∙ sym (append_assoc m.extras (Allow (allowance_in seg) ∷ []) extras) in (
        k,
        allowance_none forms.Base m t before seg segs count check sound at false allowance i is (room_beside allowance m.extras extras (subst (λ (u : List Extra). AreExtras false u) x sound.beside).few),
        (extras, (r, lines_on forms.Base m t before seg segs count check sound at kinds.Allowance i refl l, extras_on forms.Base m t before seg segs count check sound at kinds.Allowance false _ extras i refl here, c), rest),
      )

  pub note_beside_on : (text : List ℕ) (extras : List Extra) → in_line m.phase ≡ false → kind_of forms.Base seg ≡ kinds.Note → Left m t [] [] [] (Note text ∷ extras)
      → (kept_text seg ≡ text) × Extras false forms.Base extras (Closing forms.Base t) (before ++ seg ∷ []) segs → GoesBase phases.Extras kinds.Note
  unfolding kept
  note_beside_on text extras i k (r, l, x, c) (is, rest) =
      let here : t.extras ≡ (m.extras ++ Note (kept_text seg) ∷ []) ++ extras = x ∙ ap (λ (u : List ℕ). m.extras ++ Note u ∷ extras) (sym is) ∙ sym (append_assoc m.extras (Note (kept_text seg) ∷ []) extras) in
      (k, refl, (extras, (r, lines_on forms.Base m t before seg segs count check sound at kinds.Note i refl l, extras_on forms.Base m t before seg segs count check sound at kinds.Note false _ extras i refl here, c), rest))

  -- ---- and an answer

  pub answer_reference_on : (text : List ℕ) (lines : List Line) (extras : List Extra) → Left m t (text ∷ []) [] lines extras
      → OneReference forms.Answer text (Body forms.Answer lines extras t) before (seg ∷ segs) → Goes forms.Answer m t before seg segs count check sound at phases.References kinds.Reference
  unfolding kept
  answer_reference_on text lines extras (r, l, x, c) (k, is, rest) =
      let here : t.references ≡ (m.references ++ kept_text seg ∷ []) ++ [] = r ∙ ap (λ (u : List ℕ). m.references ++ u ∷ []) (sym is) ∙ sym (append-nil (m.references ++ kept_text seg ∷ [])) in
      (k, refl, (lines, extras, (here, l, x, c), rest))
