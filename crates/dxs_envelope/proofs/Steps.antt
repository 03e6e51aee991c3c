-- The steps of a reading: what each answer of the reader of segments says of what is told, and where the reading stands then.
use Rattle.std.proofs.Common.{◌≡◌, ℕ, ◌+◌, ◌-◌, ◌≤◌, Bool, true, false, cond, List, ◌++◌, length, codes, take, drop, Result, Ok, Err, Option, Some, None, refl, sym, ◌∙◌, ap, subst, arith, length-append, drop-drop}
use Rattle.std.specs.Prelude.{MatchOption, MatchResult}
use Rattle.std.specs.Result.{IsErr, IsErrAnd}
use Rattle.std.proofs.Math.Seq.{drop-append_seam, take-add, take-append_seam}
use Rattle.std.proofs.lemmas.List.{length-drop}
use Rattle.segments.specs.Views.{has_id}
use Rattle.segments.specs.SegmentCut.{left_after, next_of}
use Rattle.segments.specs.SegmentSpelling.{IsFront}
use Rattle.segments.specs.Views.{Left, Seg}
use Rattle.segments.specs.declared.segment_fault.SegmentFault.{SegmentFault}
use Rattle.dxs_envelope.specs.FirstFault.{Standing, Between, Inside, Behind, after, ended_by, end_reason, reason_at, refused, told_at, told_behind, told_first, told_left, trailer_reason, whole}
use Rattle.dxs_envelope.specs.SetsLeft.{IsAt, between, segment_at}
use Rattle.dxs_envelope.specs.Views.{SetAt, Told}
use Rattle.dxs_envelope.specs.declared.fault.EnvelopeFault.{EnvelopeFault}
use Rattle.dxs_envelope.specs.declared.fault.EnvelopeReason.{EnvelopeReason}
use Rattle.dxs_envelope.specs.declared.fault.EnvelopeReason.TheVariants as reasons
use Rattle.dxs_envelope.proofs.Telling.{told_fault, told_nothing, told_segment}

-- ---- the answers

pub segment_ok : (place : ℕ) (answer : Result (Option Seg) SegmentFault) (next : Option Seg) → Ok next ≡ segment_at place answer → answer ≡ Ok next
segment_ok place (Ok o) next e = let same : next ≡ o = cc (e) in ap (λ (u : Option Seg). Ok u) (sym same)
segment_ok place (Err f) next e = cc

segment_err : (place : ℕ) (answer : Result (Option Seg) SegmentFault) (e : EnvelopeFault) → Err e ≡ segment_at place answer
    → (fault : SegmentFault) × (answer ≡ Err fault) × (e ≡ record { place = place; reason = reasons.Segment fault })
segment_err place (Ok o) e eq = cc
segment_err place (Err f) e eq = (f, refl, cc (eq))

-- a refusal, and what is told
pub refuse_tells : {X : Type 0} (r : Result X EnvelopeFault) (e : EnvelopeFault) (P : X → Type 0) (told : Told) → r ≡ Err e → told ≡ refused e
    → MatchResult r P (λ fault. told ≡ refused fault)
refuse_tells r e P told same t = subst (λ (u : _). MatchResult u P (λ fault. told ≡ refused fault)) (sym same) t

pub same_err : {X : Type 0} (r : Result X EnvelopeFault) (e : EnvelopeFault) → IsErr r × IsErrAnd r (λ (f : EnvelopeFault). f ≡ e) → r ≡ Err e
same_err (Ok x) e h = let f : false ≡ true = h.0 in cc (f)
same_err (Err f) e h = ap (λ (u : EnvelopeFault). Err u) h.1

-- a segment that cannot be read
pub fault_tells : {X : Type 0} (r : Result X EnvelopeFault) (e : EnvelopeFault) (P : X → Type 0) (told : Told) (s : Standing) (left : Left) (place : ℕ)
    → told ≡ told_left s left → IsErr r × IsErrAnd r (λ (f : EnvelopeFault). f ≡ e) → Err e ≡ segment_at place (next_of left) → left.place ≡ place
    → MatchResult r P (λ fault. told ≡ refused fault)
fault_tells r e P told s left place same h eq at =
    let f = segment_err place (next_of left) e eq in
    refuse_tells r e P told (same_err r e h)
    (same ∙ told_fault s left f.0 f.1 ∙ ap (λ (p : ℕ). refused (record { place = p; reason = reasons.Segment f.0 })) at ∙ ap refused (sym f.2))

pub none_left : {A : Type 0} (o : Option A) → ((x : A) → o ≡ Some x → ⊥) → o ≡ None
none_left (Some x) apart = absurd (apart x refl)
none_left None apart = refl

-- the text ends where it may not
pub nothing_tells : (s : Standing) (left : Left) (place : ℕ) (reason : EnvelopeReason) → next_of left ≡ Ok None → left.place ≡ place → end_reason s ≡ Some reason
    → told_left s left ≡ refused (record { place = place; reason = reason })
nothing_tells s left place reason next at e =
    told_nothing s left next ∙ ap (λ (r : Option EnvelopeReason). told_at r left.place whole) e
    ∙ ap (λ (p : ℕ). refused (record { place = p; reason = reason })) at

-- a segment with a reason against it
pub reason_tells : (s : Standing) (left : Left) (seg : Seg) (place : ℕ) (reason : EnvelopeReason) → next_of left ≡ Ok (Some seg) → seg.start ≡ place
    → reason_at s seg ≡ Some reason → told_left s left ≡ refused (record { place = place; reason = reason })
reason_tells s left seg place reason next at e =
    told_segment s left seg next
    ∙ ap (λ (r : Option EnvelopeReason). told_at r seg.start (told_first (ended_by s seg) (told_left (after s seg) (left_after left)))) e
    ∙ ap (λ (p : ℕ). refused (record { place = p; reason = reason })) at

-- a segment with none
pub right_tells : (s : Standing) (left : Left) (seg : Seg) → next_of left ≡ Ok (Some seg) → reason_at s seg ≡ None
    → told_left s left ≡ told_first (ended_by s seg) (told_left (after s seg) (left_after left))
right_tells s left seg next e =
    told_segment s left seg next
    ∙ ap (λ (r : Option EnvelopeReason). told_at r seg.start (told_first (ended_by s seg) (told_left (after s seg) (left_after left)))) e

-- ---- where it stands

pub moved : (text : List ℕ) (place : ℕ) (seg : Seg) (old new : Left) → IsAt text place old → IsFront seg old new → IsAt text (seg.start + length seg.bytes) new
moved text place seg old new a f =
    let rest = sym a.rest ∙ f.there in
    let size = ap length rest ∙ length-append seg.bytes new.rest in
    let start : seg.start ≡ place = f.start ∙ a.place_is in
    record {
      place_is = f.place ∙ ap (λ (n : ℕ). n + length seg.bytes) (sym f.start);
      rest = sym (drop-append_seam seg.bytes new.rest) ∙ ap (drop (length seg.bytes)) (sym rest) ∙ drop-drop (length seg.bytes) place text
          ∙ ap (λ (n : ℕ). drop (n + length seg.bytes) text) (sym start);
      inside = omega (arith, size, length-drop place text, a.inside, start);
    }

more_between : (text bytes rest : List ℕ) (start place : ℕ) → drop place text ≡ bytes ++ rest → start ≤ place
    → between start (place + length bytes) text ≡ between start place text ++ bytes
more_between text bytes rest start place e begun =
    let size : place + length bytes - start ≡ place - start + length bytes = omega (arith, begun) in
    let there : start + (place - start) ≡ place = omega (arith, begun) in
    ap (λ (n : ℕ). take n (drop start text)) size
    ∙ take-add (place - start) (length bytes) (drop start text)
    ∙ ap (λ (l : List ℕ). between start place text ++ take (length bytes) l) (drop-drop (place - start) start text ∙ ap (λ (n : ℕ). drop n text) there ∙ e)
    ∙ ap (λ (l : List ℕ). between start place text ++ l) (take-append_seam bytes rest)

pub between_more : (text : List ℕ) (start place : ℕ) (seg : Seg) (old new : Left) → IsAt text place old → IsFront seg old new → start ≤ place
    → between start place text ++ seg.bytes ≡ between start (seg.start + length seg.bytes) text
between_more text start place seg old new a f begun =
    sym (ap (λ (n : ℕ). between start (n + length seg.bytes) text) (f.start ∙ a.place_is)
    ∙ more_between text seg.bytes new.rest start place (sym a.rest ∙ f.there) begun)

-- ---- inside a set

-- the set that starts there, up to this place
abbrev pub set_up_to : List ℕ → ℕ → ℕ → SetAt
set_up_to text start place = record { start = start; bytes = between start place text }

module _ (text : List ℕ) (start place : ℕ) (seg : Seg) (old new : Left) (next : next_of old ≡ Ok (Some seg)) (new_is : new ≡ left_after old)
    (a : IsAt text place old) (f : IsFront seg old new) (begun : start ≤ place) (control : List ℕ) (found : ℕ) where
  step : told_left (Inside control found (set_up_to text start place)) old
      ≡ told_first (cond (has_id seg (codes "SE")) (Some (set_up_to text start (seg.start + length seg.bytes))) None)
      (told_left (cond (has_id seg (codes "SE")) (Between control (found + 1)) (Inside control found (set_up_to text start (seg.start + length seg.bytes)))) new)
  step =
      told_segment (Inside control found (set_up_to text start place)) old seg next
      ∙ ap (λ (l : List ℕ). told_first (cond (has_id seg (codes "SE")) (Some (record { start = start; bytes = l })) None)
      (told_left (cond (has_id seg (codes "SE")) (Between control (found + 1)) (Inside control found (record { start = start; bytes = l }))) (left_after old)))
      (between_more text start place seg old new a f begun)
      ∙ ap (λ (l : Left). told_first (cond (has_id seg (codes "SE")) (Some (set_up_to text start (seg.start + length seg.bytes))) None)
      (told_left (cond (has_id seg (codes "SE")) (Between control (found + 1)) (Inside control found (set_up_to text start (seg.start + length seg.bytes)))) l)) (sym new_is)

  pub goes_on : has_id seg (codes "SE") ≡ false → told_left (Inside control found (set_up_to text start place)) old
      ≡ told_left (Inside control found (set_up_to text start (seg.start + length seg.bytes))) new
  goes_on other =
      step ∙ ap (λ (b : Bool). told_first (cond b (Some (set_up_to text start (seg.start + length seg.bytes))) None)
      (told_left (cond b (Between control (found + 1)) (Inside control found (set_up_to text start (seg.start + length seg.bytes)))) new)) other

  pub ends : has_id seg (codes "SE") ≡ true → told_left (Inside control found (set_up_to text start place)) old
      ≡ told_behind (set_up_to text start (seg.start + length seg.bytes)) (told_left (Between control (found + 1)) new)
  ends last =
      step ∙ ap (λ (b : Bool). told_first (cond b (Some (set_up_to text start (seg.start + length seg.bytes))) None)
      (told_left (cond b (Between control (found + 1)) (Inside control found (set_up_to text start (seg.start + length seg.bytes)))) new)) last

-- ---- at a set or the trailer

pub start_tells : (text : List ℕ) (place : ℕ) (seg : Seg) (old new : Left) → next_of old ≡ Ok (Some seg) → new ≡ left_after old
    → IsAt text place old → IsFront seg old new → (control : List ℕ) (found : ℕ) → has_id seg (codes "ST") ≡ true
    → told_left (Between control found) old ≡ told_left (Inside control found (set_up_to text place (seg.start + length seg.bytes))) new
start_tells text place seg old new next new_is a f control found begins =
    let nothing : place - place ≡ 0 = omega arith in
    let bytes : seg.bytes ≡ between place (seg.start + length seg.bytes) text =
    ap (λ (n : ℕ). take n (drop place text) ++ seg.bytes) (sym nothing) ∙ between_more text place place seg old new a f (omega arith) in
    let right : reason_at (Between control found) seg ≡ None = ap (λ (b : Bool). cond b None (trailer_reason control found seg)) begins in
    right_tells (Between control found) old seg next right
    ∙ ap (λ (b : Bool). told_left (cond b (Inside control found (record { start = seg.start; bytes = seg.bytes })) Behind) (left_after old)) begins
    ∙ ap (λ (n : ℕ). told_left (Inside control found (record { start = n; bytes = seg.bytes })) (left_after old)) (f.start ∙ a.place_is)
    ∙ ap (λ (l : List ℕ). told_left (Inside control found (record { start = place; bytes = l })) (left_after old)) bytes
    ∙ ap (λ (l : Left). told_left (Inside control found (set_up_to text place (seg.start + length seg.bytes))) l) (sym new_is)

-- a segment that is neither an ST nor a right trailer
pub wrong_tells : (control : List ℕ) (found place : ℕ) (seg : Seg) (old : Left) (reason : EnvelopeReason) → next_of old ≡ Ok (Some seg) → seg.start ≡ place
    → has_id seg (codes "ST") ≡ false → trailer_reason control found seg ≡ Some reason → told_left (Between control found) old ≡ refused (record { place = place; reason = reason })
wrong_tells control found place seg old reason next at other e =
    reason_tells (Between control found) old seg place reason next at (ap (λ (b : Bool). cond b None (trailer_reason control found seg)) other ∙ e)

-- a right trailer
pub trailer_tells : (control : List ℕ) (found : ℕ) (seg : Seg) (old new : Left) → next_of old ≡ Ok (Some seg) → new ≡ left_after old
    → has_id seg (codes "ST") ≡ false → trailer_reason control found seg ≡ None → told_left (Between control found) old ≡ told_left Behind new
trailer_tells control found seg old new next new_is other e =
    right_tells (Between control found) old seg next (ap (λ (b : Bool). cond b None (trailer_reason control found seg)) other ∙ e)
    ∙ ap (λ (b : Bool). told_left (cond b (Inside control found (record { start = seg.start; bytes = seg.bytes })) Behind) (left_after old)) other
    ∙ ap (told_left Behind) (sym new_is)

-- the end behind the trailer
pub end_tells : {X : Type 0} (r : Result (Option X) EnvelopeFault) (t u : Told) (Q : X → Type 0) → t ≡ u
    → MatchResult r (λ some. (some ≡ None) × (u ≡ whole)) (λ fault. u ≡ refused fault)
    → MatchResult r (λ some. MatchOption some (t ≡ whole) Q) (λ fault. t ≡ refused fault)
end_tells (Ok (Some x)) t u Q e h = let none : Some x ≡ None = h.0 in cc (none)
end_tells (Ok None) t u Q e h = e ∙ h.1
end_tells (Err fault) t u Q e h = e ∙ h
