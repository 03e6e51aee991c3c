-- Where what is told has no fault, the segments are a transmission of the sets that are told.
use Rattle.std.proofs.Common.{◌≡◌, ℕ, ◌+◌, true, false, List, [], ◌∷◌, ◌++◌, length, codes, map, Option, Some, None, refl, sym, ◌∙◌, ap, subst, inl, inr, arith, append_assoc, append-nil}
use Rattle.std.specs.Prelude.{All}
use Rattle.std.proofs.lemmas.Bool.{cases_Bool}
use Rattle.std.proofs.lemmas.List.Elements.{All-cons, All-nil}
use Rattle.segments.specs.Views.{has_id}
use Rattle.segments.specs.Views.{Seg, element_of}
use Rattle.segments.specs.declared.segment_fault.SegmentFault.{SegmentFault}
use Rattle.dxs_envelope.specs.EnvelopeTable.{has_function, is_header}
use Rattle.dxs_envelope.specs.FirstFault.{Standing, Front, Between, Inside, Behind, after, ended_by, header_reason, longer, reason_at, told_at, told_first, told_from, trailer_reason}
use Rattle.segments.specs.SetUnits.{IsSet}
use Rattle.dxs_envelope.specs.Transmission.{IsTransmission, bytes_of, joined_sets, set_at}
use Rattle.dxs_envelope.specs.Views.{SetAt, Told}
use Rattle.dxs_envelope.specs.declared.fault.EnvelopeReason.{EnvelopeReason}
use Rattle.dxs_envelope.specs.declared.fault.EnvelopeReason.TheVariants as reasons
use Rattle.dxs_envelope.proofs.Transmitted.{Closes, none_unless, reason_closes, unless_none}

-- ---- the segments that are left, from each standing on

-- sets, and the trailer behind them
pub record AreSets (control : List ℕ) (found : ℕ) (segs : List Seg) (sets : List SetAt) : Type 0 where
  pub parted : List (List Seg)
  pub trailer : Seg
  pub joined : segs ≡ joined_sets parted ++ trailer ∷ []
  pub each : All IsSet parted
  pub closes : Closes trailer control (found + length parted)
  pub are : sets ≡ map set_at parted

-- the rest of a set, and what stands behind it
pub record IsSetRest (control : List ℕ) (found : ℕ) (set : SetAt) (segs : List Seg) (sets : List SetAt) : Type 0 where
  pub inside : List Seg
  pub last : Seg
  pub rest : List Seg
  pub later : List SetAt
  pub joined : segs ≡ inside ++ last ∷ rest
  pub goes_on : All (λ seg. has_id seg (codes "SE") ≡ false) inside
  pub ends : has_id last (codes "SE") ≡ true
  pub behind : AreSets control (found + 1) rest later
  pub are : sets ≡ record { start = set.start; bytes = set.bytes ++ bytes_of (inside ++ last ∷ []) } ∷ later

abbrev pub IsRest : Standing → List Seg → List SetAt → Type 0
IsRest Front segs sets = (parted : List (List Seg)) × IsTransmission parted segs × (sets ≡ map set_at parted)
IsRest (Between control found) segs sets = AreSets control found segs sets
IsRest (Inside control found set) segs sets = IsSetRest control found set segs sets
IsRest Behind segs sets = (segs ≡ []) × (sets ≡ [])

-- ---- what has no fault

-- what is told at a segment has no fault where the segment has none, and the rest has none
at_none : (reason : Option EnvelopeReason) (place : ℕ) (later : Told) → (told_at reason place later).fault ≡ None → (reason ≡ None) × (told_at reason place later ≡ later)
at_none (Some reason) place later e = cc
at_none None place later e = (refl, refl)

first_none : (set : Option SetAt) (later : Told) → (told_first set later).fault ≡ later.fault
first_none (Some set) later = refl
first_none None later = refl

-- a text in which a segment cannot be read has a fault
pub fault_told : (segs : List Seg) (s : Standing) (place : ℕ) (fault : SegmentFault) → (told_from s place segs (Some fault)).fault ≡ None → ⊥
unfolding told_from
fault_told [] s place fault e = cc
fault_told (seg ∷ segs) s place fault e =
    let later : Told = told_from (after s seg) (seg.start + length seg.bytes) segs (Some fault) in
    let none = at_none (reason_at s seg) seg.start (told_first (ended_by s seg) later) e in
    fault_told segs (after s seg) (seg.start + length seg.bytes) fault
    (sym (first_none (ended_by s seg) later) ∙ ap (λ (t : Told). t.fault) (sym none.1) ∙ e)

-- ---- a segment more

front_rest : (seg : Seg) (segs : List Seg) (sets : List SetAt) → header_reason seg ≡ None → AreSets (element_of seg 4) 0 segs sets
    → IsRest Front (seg ∷ segs) sets
front_rest seg segs sets right r =
    let first = unless_none (is_header seg) reasons.NoHeader _ right in
    let second = none_unless (has_function seg) reasons.Function first.1 in (
      r.parted,
      record {
        header = seg;
        trailer = r.trailer;
        joined = ap (λ (l : List Seg). seg ∷ l) r.joined;
        opened = first.0;
        function = second;
        each = r.each;
        closed = r.closes.closed;
        control = r.closes.control_is;
        count = omega (arith, r.closes.count);
      },
      r.are,
    )

start_rest : (control : List ℕ) (found : ℕ) (seg : Seg) (segs : List Seg) (sets : List SetAt) → has_id seg (codes "ST") ≡ true
    → IsSetRest control found (record { start = seg.start; bytes = seg.bytes }) segs sets → AreSets control found (seg ∷ segs) sets
start_rest control found seg segs sets begins r =
    let set : List Seg = seg ∷ r.inside ++ r.last ∷ [] in
    let is : IsSet set = record { first = seg; inside = r.inside; last = r.last; joined = refl; begins = begins; goes_on = r.goes_on; ends = r.ends } in
    let parts : r.inside ++ r.last ∷ r.rest ≡ (r.inside ++ r.last ∷ []) ++ r.rest = sym (append_assoc r.inside (r.last ∷ []) r.rest) in
    record {
      parted = set ∷ r.behind.parted;
      trailer = r.behind.trailer;
      joined = ap (λ (l : List Seg). seg ∷ l) (r.joined ∙ parts)
          ∙ ap (λ (l : List Seg). set ++ l) r.behind.joined ∙ sym (append_assoc set (joined_sets r.behind.parted) (r.behind.trailer ∷ []));
      each = All-cons IsSet set r.behind.parted is r.behind.each;
      closes = record { closed = r.behind.closes.closed; control_is = r.behind.closes.control_is; count = omega (arith, r.behind.closes.count) };
      are = r.are ∙ ap (λ (l : List SetAt). set_at set ∷ l) r.behind.are;
    }

trailer_rest : (control : List ℕ) (found : ℕ) (seg : Seg) (segs : List Seg) (sets : List SetAt) → trailer_reason control found seg ≡ None
    → IsRest Behind segs sets → AreSets control found (seg ∷ segs) sets
trailer_rest control found seg segs sets right (none, no_sets) =
    let closes = reason_closes seg control found right in
    record {
      parted = [];
      trailer = seg;
      joined = ap (λ (l : List Seg). seg ∷ l) none;
      each = All-nil IsSet;
      closes = record { closed = closes.closed; control_is = closes.control_is; count = omega (arith, closes.count) };
      are = no_sets;
    }

-- an SE ends the set, and every other segment stands in it
last_rest : (control : List ℕ) (found : ℕ) (set : SetAt) (seg : Seg) (segs : List Seg) (later : List SetAt) → has_id seg (codes "SE") ≡ true
    → AreSets control (found + 1) segs later → IsSetRest control found set (seg ∷ segs) (longer set seg ∷ later)
last_rest control found set seg segs later ends r = record {
  inside = [];
  last = seg;
  rest = segs;
  later = later;
  joined = refl;
  goes_on = All-nil (λ s. has_id s (codes "SE") ≡ false);
  ends = ends;
  behind = r;
  are = ap (λ (l : List ℕ). record { start = set.start; bytes = set.bytes ++ l } ∷ later) (sym (append-nil seg.bytes));
}

inside_rest : (control : List ℕ) (found : ℕ) (set : SetAt) (seg : Seg) (segs : List Seg) (sets : List SetAt) → has_id seg (codes "SE") ≡ false
    → IsSetRest control found (longer set seg) segs sets → IsSetRest control found set (seg ∷ segs) sets
inside_rest control found set seg segs sets goes r = record {
  inside = seg ∷ r.inside;
  last = r.last;
  rest = r.rest;
  later = r.later;
  joined = ap (λ (l : List Seg). seg ∷ l) r.joined;
  goes_on = All-cons (λ s. has_id s (codes "SE") ≡ false) seg r.inside goes r.goes_on;
  ends = r.ends;
  behind = r.behind;
  are = r.are ∙ ap (λ (l : List ℕ). record { start = set.start; bytes = l } ∷ r.later) (append_assoc set.bytes seg.bytes (bytes_of (r.inside ++ r.last ∷ [])));
}

-- ---- all segments

-- what stands at a segment without a reason, by what stands behind it
one_more : (s : Standing) (seg : Seg) (segs : List Seg) (later : Told) → reason_at s seg ≡ None → IsRest (after s seg) segs later.sets
    → IsRest s (seg ∷ segs) (told_first (ended_by s seg) later).sets
one_more Front seg segs later right r = front_rest seg segs later.sets right r
one_more (Between control found) seg segs later right r = elim (cases_Bool (has_id seg (codes "ST"))) [
  | inl yes_start ↦ start_rest control found seg segs later.sets yes_start (rw yes_start at r)
  | inr no_start ↦ trailer_rest control found seg segs later.sets (rw no_start at right) (rw no_start at r)
]
one_more (Inside control found set) seg segs later right r = elim (cases_Bool (has_id seg (codes "SE"))) [
  | inl yes_end ↦ rw yes_end (last_rest control found set seg segs later.sets yes_end (rw yes_end at r))
  | inr no_end ↦ rw no_end (inside_rest control found set seg segs later.sets no_end (rw no_end at r))
]
one_more Behind seg segs later right r = cc

pub rest_told : (segs : List Seg) (s : Standing) (place : ℕ) → (told_from s place segs None).fault ≡ None → IsRest s segs (told_from s place segs None).sets
unfolding told_from
rest_told [] Front place e = cc
rest_told [] (Between control found) place e = cc
rest_told [] (Inside control found set) place e = cc
rest_told [] Behind place e = (refl, refl)
rest_told (seg ∷ segs) s place e =
    let later : Told = told_from (after s seg) (seg.start + length seg.bytes) segs None in
    let none = at_none (reason_at s seg) seg.start (told_first (ended_by s seg) later) e in
    let more = sym (first_none (ended_by s seg) later) ∙ ap (λ (t : Told). t.fault) (sym none.1) ∙ e in
    subst (λ (t : Told). IsRest s (seg ∷ segs) t.sets) (sym none.1)
    (one_more s seg segs later none.0 (rest_told segs (after s seg) (seg.start + length seg.bytes) more))
