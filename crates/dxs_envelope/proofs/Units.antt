-- A transmission that is written is whole units that fit.
use Rattle.std.proofs.Common.{◌≡◌, ℕ, Bool, true, false, cond, ◌&&◌, List, [], ◌∷◌, ◌++◌, codes, refl, sym, ◌∙◌, ap, subst, inl, inr, append_assoc}
use Rattle.std.specs.Prelude.{All}
use Rattle.std.specs.Str.{bytes_eq}
use Rattle.std.proofs.lemmas.Bool.{cases_Bool}
use Rattle.std.proofs.lemmas.List.Elements.{All-append, All-cons, All-nil, All-head, All-tail}
use Rattle.std.proofs.lemmas.Slice.Eq.{bytes_eq-Decides}
use Rattle.segments.specs.Views.{has_id}
use Rattle.segments.specs.Views.{Seg, element_of}
use Rattle.segments.specs.SetUnits.{AreUnits, EndsInReturn, Fits, IsSet, units_of}
use Rattle.dxs_envelope.specs.Transmission.{joined_sets}

-- ---- segments behind others

-- an SE is no G85
no_integrity : (seg : Seg) → has_id seg (codes "SE") ≡ true → has_id seg (codes "G85") ≡ false
no_integrity seg e = ap (λ (l : List ℕ). bytes_eq l (codes "G85")) ((bytes_eq-Decides (element_of seg 0) (codes "SE")).0 e)

alone : (last : Seg) (later : List Seg) → has_id last (codes "G85") ≡ false → units_of (last ∷ later) ≡ last.bytes ∷ units_of later
alone last [] e = refl
alone last (next ∷ later) e =
    ap (λ (b : Bool). cond (b && has_id next (codes "SE")) ((last.bytes ++ next.bytes) ∷ units_of later) (last.bytes ∷ units_of (next ∷ later))) e

-- where the last segment is no G85, the units of both are those of each
pub units_apart : (front : List Seg) (last : Seg) (later : List Seg) → has_id last (codes "G85") ≡ false
    → units_of (front ++ last ∷ later) ≡ units_of (front ++ last ∷ []) ++ units_of later
units_apart [] last later e = alone last later e
units_apart (x ∷ []) last later e = elim (cases_Bool (has_id x (codes "G85") && has_id last (codes "SE"))) [
  | inl pair ↦ rw pair refl
  | inr other ↦ rw other (ap (λ (l : List (List ℕ)). x.bytes ∷ l) (alone last later e))
]
units_apart (x ∷ y ∷ front) last later e = elim (cases_Bool (has_id x (codes "G85") && has_id y (codes "SE"))) [
  | inl pair ↦ rw pair (ap (λ (l : List (List ℕ)). (x.bytes ++ y.bytes) ∷ l) (units_apart front last later e))
  | inr other ↦ rw other (ap (λ (l : List (List ℕ)). x.bytes ∷ l) (units_apart (y ∷ front) last later e))
]

-- ---- sets and what stands behind them

set_fits : (segs later : List Seg) → IsSet segs → All Fits (units_of segs) → All Fits (units_of later) → All Fits (units_of (segs ++ later))
set_fits segs later s h k =
    let whole : segs ++ later ≡ (s.first ∷ s.inside) ++ s.last ∷ later =
    ap (λ (l : List Seg). l ++ later) s.joined ∙ append_assoc (s.first ∷ s.inside) (s.last ∷ []) later in
    let apart : units_of (segs ++ later) ≡ units_of segs ++ units_of later =
    ap units_of whole ∙ units_apart (s.first ∷ s.inside) s.last later (no_integrity s.last s.ends)
    ∙ ap (λ (l : List Seg). units_of l ++ units_of later) (sym s.joined) in
    subst (All Fits) (sym apart) (All-append Fits (units_of segs) (units_of later) h k)

pub sets_fit : (parted : List (List Seg)) (later : List Seg) → All IsSet parted → All AreUnits parted → AreUnits later → AreUnits (joined_sets parted ++ later)
sets_fit [] later each units h = h
sets_fit (segs ∷ more) later each units h =
    let first = All-head AreUnits segs more units in
    let rest = sets_fit more later (All-tail IsSet segs more each) (All-tail AreUnits segs more units) h in
    let whole : (segs ++ joined_sets more) ++ later ≡ segs ++ (joined_sets more ++ later) = append_assoc segs (joined_sets more) later in
    record {
      returns = subst (All EndsInReturn) (sym whole) (All-append EndsInReturn segs (joined_sets more ++ later) first.returns rest.returns);
      fit = subst (λ (l : List Seg). All Fits (units_of l)) (sym whole) (set_fits segs (joined_sets more ++ later) (All-head IsSet segs more each) first.fit rest.fit);
    }

-- a segment that is no G85, in front
pub one_fits : (seg : Seg) (later : List Seg) → has_id seg (codes "G85") ≡ false → EndsInReturn seg → Fits seg.bytes → AreUnits later → AreUnits (seg ∷ later)
one_fits seg later other return short h = record {
  returns = All-cons EndsInReturn seg later return h.returns;
  fit = subst (All Fits) (sym (alone seg later other)) (All-cons Fits seg.bytes (units_of later) short h.fit);
}

pub none_fit : AreUnits []
none_fit = record { returns = All-nil EndsInReturn; fit = All-nil Fits }
