-- The cut of a text is the list of segments that a front of it spells.
use Rattle.std.proofs.Common.{◌≡◌, ℕ, zero, suc, ◌+◌, ◌≤◌, List, [], ◌∷◌, ◌++◌, length, take, drop, Result, Ok, Err, Option, Some, None, refl, sym, ◌∙◌, ap, subst, arith, add-zero, append_assoc, append-nil, length-append}
use Rattle.std.proofs.Math.Seq.{drop-append_seam, take-append_seam}
use Rattle.std.specs.Prelude.{All, MatchOption}
use Rattle.std.proofs.lemmas.List.Elements.{All-cons, All-nil}
use Rattle.segments.specs.declared.segment_fault.SegmentFault.{SegmentFault}
use Rattle.segments.specs.Views.{Seg, Left}
use Rattle.segments.specs.SegmentSpelling.{IsFront, SpellsSegment, SpellsSegments}
use Rattle.segments.specs.SegmentCut.{Cut, next_of, left_after, cut_left, cut_of, text_start}
use Rattle.segments.specs.SegmentRefusal.{IsFault}
use Rattle.segments.specs.CutSpelling.{IsCut, StandsIn, StartsFrom}
use Rattle.segments.proofs.Complete.{front_is}
use Rattle.segments.proofs.Refused.{fault_of-next, next_of-fault}
use Rattle.segments.proofs.Spelled.{next_front, end_of-next, next_of-end}
use Rattle.segments.proofs.Stepping.{front_shorter, step_end, step_fault, step_segment}

abbrev Stops : Option SegmentFault → List ℕ → ℕ → Type 0
Stops fault rest place = MatchOption fault (rest ≡ []) (IsFault (record { rest = rest; place = place }))

-- ---- what is cut is spelled

longer : (seg : Seg) (left next : Left) (cut : Cut) → IsFront seg left next → IsCut cut next → IsCut (record { segments = seg ∷ cut.segments; fault = cut.fault }) left
longer seg left next cut f c = record {
  front = seg.bytes ++ c.front;
  rest = c.rest;
  joined = f.there ∙ ap (λ (l : List ℕ). seg.bytes ++ l) c.joined ∙ sym (append_assoc seg.bytes c.front c.rest);
  spelled = (f.spelled, f.start, (c.front, refl, subst (λ (n : ℕ). SpellsSegments n cut.segments c.front) f.place c.spelled));
  stopped = subst (Stops cut.fault c.rest) (place_is left.place next.place seg.bytes c.front f.place) c.stopped;
}
  where
    place_is : (from to : ℕ) (bytes front : List ℕ) → to ≡ from + length bytes → to + length front ≡ from + length (bytes ++ front)
    place_is from to bytes front e = omega (arith, length-append bytes front)

cut_spelled : (calls : ℕ) (left : Left) (answer : Result (Option Seg) SegmentFault) → next_of left ≡ answer → length left.rest ≤ calls → IsCut (cut_left left) left
cut_spelled calls left (Err fault) e h =
    let same : next_of (record { rest = left.rest; place = left.place + 0 }) ≡ Err fault = ap (λ (n : ℕ). next_of (record { rest = left.rest; place = n })) (add-zero left.place) ∙ e in
    let here : IsCut (record { segments = []; fault = Some fault }) left = record { front = []; rest = left.rest; joined = refl; spelled = refl; stopped = fault_of-next (record { rest = left.rest; place = left.place + 0 }) fault same } in
    subst (λ (c : Cut). IsCut c left) (sym (step_fault left fault e)) here
cut_spelled calls left (Ok None) e h =
    let here : IsCut (record { segments = []; fault = None }) left = record { front = []; rest = left.rest; joined = refl; spelled = refl; stopped = end_of-next left e } in
    subst (λ (c : Cut). IsCut c left) (sym (step_end left e)) here
cut_spelled zero left (Ok (Some seg)) e h =
    let shorter = front_shorter seg left (left_after left) (next_front left seg e) in
    absurd (omega arith)
cut_spelled (suc calls) left (Ok (Some seg)) e h =
    let f = next_front left seg e in
    let shorter = front_shorter seg left (left_after left) f in
    let later = cut_spelled calls (left_after left) (next_of (left_after left)) refl (omega arith) in
    subst (λ (c : Cut). IsCut c left) (sym (step_segment left seg e)) (longer seg left (left_after left) (cut_left (left_after left)) f later)

pub is_cut : (left : Left) → IsCut (cut_left left) left
is_cut left = cut_spelled (length left.rest) left (next_of left) refl (omega arith)

-- ---- what is spelled is cut so

end_is : (fault : Option SegmentFault) (left : Left) → Stops fault left.rest left.place → cut_left left ≡ record { segments = []; fault = fault }
end_is None left s = step_end left (next_of-end left s)
end_is (Some fault) left s = step_fault left fault (next_of-fault left fault s)

pub cut_is : (segments : List Seg) (fault : Option SegmentFault) (left : Left) (front rest : List ℕ) → left.rest ≡ front ++ rest → SpellsSegments left.place segments front → Stops fault rest (left.place + length front) → cut_left left ≡ record { segments = segments; fault = fault }
cut_is [] fault left front rest joined spelled stopped =
    let text : rest ≡ left.rest = sym (joined ∙ ap (λ (l : List ℕ). l ++ rest) spelled) in
    let place : left.place + length front ≡ left.place = omega (arith, ap length spelled) in
    end_is fault left (subst (λ (l : List ℕ). Stops fault l left.place) text (subst (Stops fault rest) place stopped))
cut_is (seg ∷ more) fault left front rest joined spelled stopped =
    let later : List ℕ = spelled.2.0 in
    let whole : front ≡ seg.bytes ++ later = spelled.2.1 in
    let next : Left = record { rest = later ++ rest; place = left.place + length seg.bytes } in
    let there : left.rest ≡ seg.bytes ++ (later ++ rest) = joined ∙ ap (λ (l : List ℕ). l ++ rest) whole ∙ append_assoc seg.bytes later rest in
    let f : IsFront seg left next = record { spelled = spelled.0; start = spelled.1; there = there; place = refl } in
    let read = front_is left next seg f in
    let place : left.place + length front ≡ left.place + length seg.bytes + length later = omega (arith, ap length whole, length-append seg.bytes later) in
    let rest_is = cut_is more fault next later rest refl spelled.2.2 (subst (Stops fault rest) place stopped) in
    step_segment left seg read.0
    ∙ ap (λ (l : Left). record { segments = seg ∷ (cut_left l).segments; fault = (cut_left l).fault }) read.1
    ∙ ap (λ (c : Cut). record { segments = seg ∷ c.segments; fault = c.fault }) rest_is

pub cut_of-spelled : (text : List ℕ) (segments : List Seg) → SpellsSegments 0 segments text → cut_of text ≡ record { segments = segments; fault = None }
cut_of-spelled text segments spelled = cut_is segments None (text_start text) text [] (sym (append-nil text)) spelled refl

pub spelled_of-cut : (text : List ℕ) (segments : List Seg) → cut_of text ≡ record { segments = segments; fault = None } → SpellsSegments 0 segments text
spelled_of-cut text segments e = whole text segments (subst (λ (c : Cut). IsCut c (text_start text)) e (is_cut (text_start text)))
  where
    whole : (text : List ℕ) (segments : List Seg) → IsCut (record { segments = segments; fault = None }) (text_start text) → SpellsSegments 0 segments text
    whole text segments c = subst (SpellsSegments 0 segments) (sym (c.joined ∙ ap (λ (l : List ℕ). c.front ++ l) c.stopped ∙ append-nil c.front)) c.spelled

-- ---- each segment

pub all_spelled : (place : ℕ) (segments : List Seg) (text : List ℕ) → SpellsSegments place segments text → All SpellsSegment segments
all_spelled place [] text h = All-nil SpellsSegment
all_spelled place (seg ∷ more) text h = All-cons SpellsSegment seg more h.0 (all_spelled (place + length seg.bytes) more h.2.0 h.2.2)

stands : (text before rest : List ℕ) (seg : Seg) → text ≡ before ++ (seg.bytes ++ rest) → seg.start ≡ length before → StandsIn text seg
stands text before rest seg e s =
    let whole = ap length e ∙ length-append before (seg.bytes ++ rest) in
    let part = length-append seg.bytes rest in
    record {
      within = omega arith;
      there = ap (λ (n : ℕ). take (length seg.bytes) (drop n text)) s ∙ ap (λ (l : List ℕ). take (length seg.bytes) (drop (length before) l)) e
          ∙ ap (take (length seg.bytes)) (drop-append_seam before (seg.bytes ++ rest)) ∙ take-append_seam seg.bytes rest;
    }

pub all_stand : (segments : List Seg) (text before front rest : List ℕ) → text ≡ before ++ (front ++ rest) → SpellsSegments (length before) segments front → All (StandsIn text) segments
all_stand [] text before front rest e h = All-nil (StandsIn text)
all_stand (seg ∷ more) text before front rest e h =
    let later : List ℕ = h.2.0 in
    let there : text ≡ before ++ (seg.bytes ++ (later ++ rest)) = e ∙ ap (λ (l : List ℕ). before ++ (l ++ rest)) h.2.1 ∙ ap (λ (l : List ℕ). before ++ l) (append_assoc seg.bytes later rest) in
    let past : text ≡ (before ++ seg.bytes) ++ (later ++ rest) = there ∙ sym (append_assoc before seg.bytes (later ++ rest)) in
    let spelled = subst (λ (n : ℕ). SpellsSegments n more later) (sym (length-append before seg.bytes)) h.2.2 in
    All-cons (StandsIn text) seg more (stands text before (later ++ rest) seg there h.1) (all_stand more text (before ++ seg.bytes) later rest past spelled)

pub starts_of-spelled : (place : ℕ) (segments : List Seg) (text : List ℕ) → SpellsSegments place segments text → StartsFrom place segments
starts_of-spelled place [] text h = tt
starts_of-spelled place (seg ∷ more) text h = (h.1, starts_of-spelled (place + length seg.bytes) more h.2.0 h.2.2)
