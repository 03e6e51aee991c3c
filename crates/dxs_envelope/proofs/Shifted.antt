-- Segments of a text, as they stand further behind in another one.
use Rattle.std.proofs.Common.{◌≡◌, ℕ, ◌+◌, ◌<◌, ◌≤◌, false, cond, ◌&&◌, List, [], ◌∷◌, ◌++◌, length, codes, map, refl, sym, ◌∙◌, ap, subst, arith, append_assoc, length-append}
use Rattle.std.specs.Prelude.{All}
use Rattle.std.specs.List.{concat}
use Rattle.std.proofs.lemmas.List.Elements.{All-cons, All-nil, All-head, All-tail}
use Rattle.segments.specs.Views.{has_id}
use Rattle.segments.specs.SegmentSpelling.{SpellsSegments}
use Rattle.segments.specs.Views.{Seg}
use Rattle.segments.proofs.Spelled.{bytes_some}
use Rattle.segments.specs.SetUnits.{AreUnits, EndsInReturn, Fits, IsSet, IsSetText, units_of}
use Rattle.dxs_envelope.specs.Sending.{placed}
use Rattle.dxs_envelope.specs.Transmission.{bytes_of, joined_sets, set_at, start_of}
use Rattle.dxs_envelope.specs.Views.{SetAt}

-- ---- a place further behind

abbrev pub further : ℕ → Seg → Seg
further place seg = record { start = place + seg.start; bytes = seg.bytes; parts = seg.parts }

abbrev pub shifted : ℕ → List Seg → List Seg
shifted place [] = []
shifted place (seg ∷ more) = further place seg ∷ shifted place more

shifted-append : (place : ℕ) (a b : List Seg) → shifted place (a ++ b) ≡ shifted place a ++ shifted place b
shifted-append place [] b = refl
shifted-append place (seg ∷ a) b = ap (λ (l : List Seg). further place seg ∷ l) (shifted-append place a b)

pub spelled_shifted : (place n : ℕ) (segs : List Seg) (text : List ℕ) → SpellsSegments n segs text → SpellsSegments (place + n) (shifted place segs) text
spelled_shifted place n [] text h = h
spelled_shifted place n (seg ∷ more) text (is, start, (rest, joined, behind)) =
    let at : place + (n + length seg.bytes) ≡ place + n + length seg.bytes = omega arith in (
      record { segment = is.segment; spelled = is.spelled; short = is.short },
      ap (λ (m : ℕ). place + m) start,
      (rest, joined, subst (λ (m : ℕ). SpellsSegments m (shifted place more) rest) at (spelled_shifted place (n + length seg.bytes) more rest behind)),
    )

pub bytes_spelled : (n : ℕ) (segs : List Seg) (text : List ℕ) → SpellsSegments n segs text → bytes_of segs ≡ text
bytes_spelled n [] text h = sym h
bytes_spelled n (seg ∷ more) text (is, start, (rest, joined, behind)) =
    ap (λ (l : List ℕ). seg.bytes ++ l) (bytes_spelled (n + length seg.bytes) more rest behind) ∙ sym joined

-- ---- one text behind another

pub spelled_append : (a b : List Seg) (n : ℕ) (x y : List ℕ) → SpellsSegments n a x → SpellsSegments (n + length x) b y → SpellsSegments n (a ++ b) (x ++ y)
spelled_append [] b n x y h k =
    let at : n + length x ≡ n = omega (arith, ap length h) in
    subst (λ (l : List ℕ). SpellsSegments n b (l ++ y)) (sym h) (subst (λ (m : ℕ). SpellsSegments m b y) at k)
spelled_append (seg ∷ a) b n x y (is, start, (rest, joined, behind)) k =
    let at : n + length x ≡ n + length seg.bytes + length rest = omega (arith, ap length joined, length-append seg.bytes rest) in (
      is,
      start,
      (
        rest ++ y,
        ap (λ (l : List ℕ). l ++ y) joined ∙ append_assoc seg.bytes rest y,
        spelled_append a b (n + length seg.bytes) rest y behind (subst (λ (m : ℕ). SpellsSegments m b y) at k),
      ),
    )

-- ---- a set

goes_on_shifted : (place : ℕ) (segs : List Seg) → All (λ seg. has_id seg (codes "SE") ≡ false) segs → All (λ seg. has_id seg (codes "SE") ≡ false) (shifted place segs)
goes_on_shifted place [] h = All-nil (λ seg. has_id seg (codes "SE") ≡ false)
goes_on_shifted place (seg ∷ more) h =
    All-cons (λ s. has_id s (codes "SE") ≡ false) (further place seg) (shifted place more)
    (All-head (λ (s : Seg). has_id s (codes "SE") ≡ false) seg more h)
    (goes_on_shifted place more (All-tail (λ (s : Seg). has_id s (codes "SE") ≡ false) seg more h))

pub set_shifted : (place : ℕ) (segs : List Seg) → IsSet segs → IsSet (shifted place segs)
set_shifted place segs s = record {
  first = further place s.first;
  inside = shifted place s.inside;
  last = further place s.last;
  joined = ap (shifted place) s.joined ∙ ap (λ (l : List Seg). further place s.first ∷ l) (shifted-append place s.inside (s.last ∷ []));
  begins = s.begins;
  goes_on = goes_on_shifted place s.inside s.goes_on;
  ends = s.ends;
}

-- a set that is spelled at the front of its own text stands so further behind
set_at_is : (place : ℕ) (text : List ℕ) (segs : List Seg) → SpellsSegments 0 segs text → IsSet segs → record { start = place; bytes = text } ≡ set_at (shifted place segs)
set_at_is place text segs h s =
    let start : start_of (shifted place segs) ≡ place = starts segs s h in
    let bytes : bytes_of (shifted place segs) ≡ text = bytes_spelled (place + 0) (shifted place segs) text (spelled_shifted place 0 segs text h) in
    ap (λ (n : ℕ). record { start = n; bytes = text }) (sym start) ∙ ap (λ (l : List ℕ). record { start = start_of (shifted place segs); bytes = l }) (sym bytes)
  where
    starts : (segs : List Seg) → IsSet segs → SpellsSegments 0 segs text → start_of (shifted place segs) ≡ place
    starts [] s h = let none : [] ≡ s.first ∷ s.inside ++ s.last ∷ [] = s.joined in cc (none)
    starts (seg ∷ more) s h = omega (arith, h.1)

-- ---- units

returns_shifted : (place : ℕ) (segs : List Seg) → All EndsInReturn segs → All EndsInReturn (shifted place segs)
returns_shifted place [] h = All-nil EndsInReturn
returns_shifted place (seg ∷ more) h =
    All-cons EndsInReturn (further place seg) (shifted place more) (All-head EndsInReturn seg more h) (returns_shifted place more (All-tail EndsInReturn seg more h))

same_units : (place : ℕ) (segs : List Seg) → units_of (shifted place segs) ≡ units_of segs
same_units place [] = refl
same_units place (seg ∷ []) = refl
same_units place (seg ∷ next ∷ more) =
    ap (λ (l : List (List ℕ)). cond (has_id seg (codes "G85") && has_id next (codes "SE")) ((seg.bytes ++ next.bytes) ∷ l) (seg.bytes ∷ units_of (further place next ∷ shifted place more))) (same_units place more)
    ∙ ap (λ (l : List (List ℕ)). cond (has_id seg (codes "G85") && has_id next (codes "SE")) ((seg.bytes ++ next.bytes) ∷ units_of more) (seg.bytes ∷ l)) (same_units place (next ∷ more))

units_shifted : (place : ℕ) (segs : List Seg) → AreUnits segs → AreUnits (shifted place segs)
units_shifted place segs u = record { returns = returns_shifted place segs u.returns; fit = subst (All Fits) (sym (same_units place segs)) u.fit }

-- ---- sets, one behind another

pub record AreSpelled (place : ℕ) (sets : List (List ℕ)) : Type 0 where
  pub parted : List (List Seg)
  pub spelled : SpellsSegments place (joined_sets parted) (concat sets)
  pub each : All IsSet parted
  pub are : placed place sets ≡ map set_at parted
  pub count : length parted ≡ length sets
  pub units : All AreUnits parted

pub sets_spelled : (place : ℕ) (sets : List (List ℕ)) → All IsSetText sets → AreSpelled place sets
sets_spelled place [] h = record { parted = []; spelled = refl; each = All-nil IsSet; are = refl; count = refl; units = All-nil AreUnits }
sets_spelled place (text ∷ more) h =
    let set = All-head IsSetText text more h in
    let later = sets_spelled (place + length text) more (All-tail IsSetText text more h) in
    let here : SpellsSegments place (shifted place set.segments) text =
    subst (λ (n : ℕ). SpellsSegments n (shifted place set.segments) text) (omega arith) (spelled_shifted place 0 set.segments text set.spelled) in
    record {
      parted = shifted place set.segments ∷ later.parted;
      spelled = spelled_append (shifted place set.segments) (joined_sets later.parted) place text (concat more) here later.spelled;
      each = All-cons IsSet (shifted place set.segments) later.parted (set_shifted place set.segments set.set) later.each;
      are = ap (λ (s : SetAt). s ∷ placed (place + length text) more) (set_at_is place text set.segments set.spelled set.set)
          ∙ ap (λ (l : List SetAt). set_at (shifted place set.segments) ∷ l) later.are;
      count = omega (arith, later.count);
      units = All-cons AreUnits (shifted place set.segments) later.parted (units_shifted place set.segments set.units) later.units;
    }

-- the sets are found again
pub texts_placed : (place : ℕ) (sets : List (List ℕ)) → map (λ (set : SetAt). set.bytes) (placed place sets) ≡ sets
texts_placed place [] = refl
texts_placed place (text ∷ more) = ap (λ (l : List (List ℕ)). text ∷ l) (texts_placed (place + length text) more)

set_some : (text : List ℕ) → IsSetText text → 0 < length text
set_some text set = some set.segments set.set set.spelled
  where
    some : (segs : List Seg) → IsSet segs → SpellsSegments 0 segs text → 0 < length text
    some [] s h = let none : [] ≡ s.first ∷ s.inside ++ s.last ∷ [] = s.joined in cc (none)
    some (seg ∷ more) s (is, start, (rest, joined, behind)) = omega (arith, ap length joined, length-append seg.bytes rest, bytes_some seg is)

-- there are no more sets than bytes
pub sets_few : (sets : List (List ℕ)) → All IsSetText sets → length sets ≤ length (concat sets)
sets_few [] h = omega arith
sets_few (text ∷ more) h =
    omega (arith, length-append text (concat more), set_some text (All-head IsSetText text more h), sets_few more (All-tail IsSetText text more h))
