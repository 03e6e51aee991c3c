-- Segments up to the end of a text, and a set that is whole there.
use Rattle.std.proofs.Common.{◌≡◌, ℕ, ◌+◌, ◌≤◌, ◌&&◌, Bool, true, false, List, [], ◌∷◌, length, None, Option, refl, ap, ◌∙◌, arith, length-append}
use Rattle.std.specs.List.{All}
use Rattle.std.proofs.lemmas.List.Elements.{All-cons, All-nil}
use Rattle.dsd_values.specs.declared.limits.TheConstants.{SET_BYTES}
use Rattle.segments.specs.Views.{Seg}
use Rattle.transaction_set.specs.Refusal.{Judged, refusal_from}
use Rattle.segments.specs.SegmentSpelling.{IsLongSegment, SpellsSegments}
use Rattle.segments.specs.declared.segment_fault.SegmentFault.{SegmentFault}
use Rattle.transaction_set.proofs.Keeps.{refused_none, ended_none}

-- where the segments end
abbrev pub end_of : ℕ → List Seg → ℕ
end_of place [] = place
end_of place (seg ∷ segs) = end_of (seg.start + length seg.bytes) segs

pub end_at : (segs : List Seg) (place : ℕ) (text : List ℕ) → SpellsSegments place segs text → end_of place segs ≡ place + length text
end_at [] place text e = omega (arith, ap length e)
end_at (seg ∷ segs) place text (is, start, (rest, joined, more)) =
    let later = end_at segs (place + length seg.bytes) rest more in
    let at : seg.start + length seg.bytes ≡ place + length seg.bytes = ap (λ (n : ℕ). n + length seg.bytes) start in
    ap (λ (n : ℕ). end_of n segs) at ∙ later ∙ omega (arith, ap length joined, length-append seg.bytes rest)

abbrev pub AreShort : List Seg → Type 0
AreShort [] = Unit {0}
AreShort (seg ∷ segs) = (seg.start + length seg.bytes ≤ SET_BYTES) × AreShort segs

pub are_short : (segs : List Seg) (place : ℕ) (text : List ℕ) → SpellsSegments place segs text → place + length text ≤ SET_BYTES → AreShort segs
are_short [] place text e h = tt
are_short (seg ∷ segs) place text (is, start, (rest, joined, more)) h =
    let long : length text ≡ length seg.bytes + length rest = omega (arith, ap length joined, length-append seg.bytes rest) in
    let here : place + length seg.bytes + length rest ≤ SET_BYTES = omega arith in
    (omega arith, are_short segs (place + length seg.bytes) rest more here)

pub and_both : (a b : Bool) → (a && b) ≡ true → (a ≡ true) × (b ≡ true)
and_both true b e = (refl, e)
and_both false b e = cc

pub both_and : (a b : Bool) → a ≡ true → b ≡ true → (a && b) ≡ true
both_and true b p q = q
both_and false b p q = cc

pub no_fault : {M : Type 0} (j : Judged M) (segs : List Seg) (m : M) (place : ℕ) (fault : Option SegmentFault) → refusal_from j m place segs fault ≡ None → fault ≡ None
no_fault j [] m place fault e = (ended_none _ place fault e).1
no_fault j (seg ∷ segs) m place fault e = no_fault j segs (j.after m seg) _ fault (refused_none (j.reason m seg) seg.start _ e).1

-- the segments of a text are segments, lengths aside
pub long_ones : (segs : List Seg) (place : ℕ) (text : List ℕ) → SpellsSegments place segs text → All IsLongSegment segs
long_ones [] place text e = All-nil IsLongSegment
long_ones (seg ∷ segs) place text (is, start, (rest, joined, more)) =
    All-cons IsLongSegment seg segs (record { segment = is.segment; spelled = is.spelled }) (long_ones segs (place + length seg.bytes) rest more)
