-- Where a delivery stands in a session keeps its place as the course goes on, whatever comes behind what both lists have so far.
use Rattle.std.proofs.Common.{◌≡◌, ◌≤◌, ℕ, Bool, true, false, not, ◌&&◌, ◌==◌, nat_lt, if◌then◌else◌, refl, sym, ap, ◌∙◌, arith}
use Rattle.std.proofs.lemmas.Bool.Decides.{nat_tests}
use Rattle.clean_sessions.specs.Courses.{Course, Stand, TakesTurn, Told, answers, awaits, flips, hears, is_complete, is_due, prepares, proposes, signs, speaks}
use Rattle.clean_sessions.specs.Places.{Holds, IsPlace}
use Rattle.clean_sessions.proofs.CoursesDone.{no_answer, some_answered}
use Rattle.clean_sessions.proofs.DeliveryTurns.{hears_sets}
use Rattle.clean_sessions.proofs.ReadyPlaces.{no_draft, stand}

-- ---- how many sets a turn leaves

spoken_sets : (b : Bool) (s : Stand) → (flips (speaks b s)).sets ≡ s.sets
spoken_sets true s = refl
spoken_sets false s = refl

pub turned_sets : (course : Course) (drafts sent goes : Bool) (old new : Stand) → TakesTurn course drafts sent goes old new → new.sets ≡ (prepares course drafts sent old).sets
turned_sets course drafts sent goes old new turn = ap (λ (s : Stand). s.sets) turn.next ∙ spoken_sets goes (prepares course drafts sent old)

-- an own set that was heard waits for the other end
own_waits : (course : Course) (drafts sent heard last_own : Bool) (n : ℕ) (own partner : Told) → heard ≡ true → last_own ≡ true → 1 ≤ n → (prepares course drafts sent (stand n heard last_own own partner)).sets ≡ n
own_waits course drafts false true true n own partner h l some = ap (λ (s : Stand). s.sets) (no_draft course drafts (stand n true true own partner) some)
own_waits course drafts true true true n own partner h l some = ap (λ (s : Stand). s.sets) (no_draft course drafts (stand n true true (record own { since = true; met = true }) partner) some)
own_waits course drafts sent false last_own n own partner h l some = absurd (cc)
own_waits course drafts sent true false n own partner h l some = absurd (cc)

-- a delivery of which nothing is known is left, where it is not proposed
pub nothing_known : (course : Course) (drafts : Bool) (at : Stand) → at.heard ≡ false → (drafts && at.sets == 0 && nat_lt 0 course.sets) ≡ false → prepares course drafts false at ≡ at
nothing_known course drafts at deaf none =
    let still : answers course at ≡ at = ap (λ (b : Bool). if b && not at.last_own && nat_lt at.sets course.sets then signs course at else at) deaf in
    ap (proposes course drafts) still ∙ ap (λ (b : Bool). if b then signs course at else at) none

-- where nothing is due nothing was signed
pub silent_sets : (course : Course) (drafts sent : Bool) (at : Stand) → 1 ≤ at.sets → is_due course (prepares course drafts sent at) ≡ false → (prepares course drafts sent at).sets ≡ at.sets
silent_sets course drafts sent at some idle =
    let heard : Stand = hears course sent at in
    let there : 1 ≤ heard.sets = let same = hears_sets course sent at in omega (arith, same, some) in
    let left : prepares course drafts sent at ≡ answers course heard = no_draft course drafts (answers course heard) (some_answered course heard there) in
    let none : awaits course heard ≡ false = no_answer course heard (ap (is_due course) (sym left) ∙ idle) in
    ap (λ (s : Stand). s.sets) (left ∙ ap (λ (b : Bool). if b then signs course heard else heard) none) ∙ hears_sets course sent at

-- ---- the place

place_kept : (short course : Course) (heard last_own sent : Bool) (n : ℕ) (own partner : Told) → (heard ≡ true → last_own ≡ true → n ≡ course.sets)
    → is_complete course (stand n heard last_own own partner) ≡ is_complete short (stand n heard last_own own partner) → IsPlace short heard last_own sent (stand n heard last_own own partner) → IsPlace course heard last_own sent (stand n heard last_own own partner)
place_kept short course true true sent n own partner end same p = end refl refl
place_kept short course true false sent n own partner end same p = tt
place_kept short course false true true n own partner end same p = p
place_kept short course false true false n own partner end same p = (p.0, λ complete. p.1 (sym same ∙ complete))
place_kept short course false false true n own partner end same p = tt
place_kept short course false false false n own partner end same p = (p.0, λ complete. p.1 (sym same ∙ complete))

-- the course goes on behind the one that both lists had
pub holds_on : (short course : Course) (drafts sent goes : Bool) (old new : Stand) → Holds short sent old → TakesTurn course drafts sent goes old new → new.sets ≡ course.sets → old.sets ≤ course.sets
    → is_complete course old ≡ is_complete short old → Holds course sent old
holds_on short course drafts sent goes old new h turn whole most same = record {
  some = h.some;
  most = most;
  place = place_kept short course old.heard old.last_own sent old.sets old.own old.partner
      (λ heard last_own. sym (own_waits course drafts sent old.heard old.last_own old.sets old.own old.partner heard last_own h.some) ∙ sym (turned_sets course drafts sent goes old new turn) ∙ whole) same h.place;
}

-- ---- equal courses

pub same_course : (one other : Course) → one.sets ≡ other.sets → one.accepted ≡ other.accepted → one ≡ other
same_course one other e f =
    ap (λ (n : ℕ). let c : Course = record { sets = n; accepted = one.accepted } in c) e
    ∙ ap (λ (b : Bool). let c : Course = record { sets = other.sets; accepted = b } in c) f

pub complete_whole : (course : Course) (at : Stand) → at.sets ≡ course.sets → is_complete course at ≡ course.accepted
complete_whole course at e = let same : (at.sets == course.sets) ≡ true = equal at.sets course.sets e in ap (λ (b : Bool). course.accepted && b) same ∙ and_true course.accepted
  where
    equal : (n m : ℕ) → n ≡ m → (n == m) ≡ true
    equal n m e = grind (arith, nat_tests)

    and_true : (b : Bool) → (b && true) ≡ b
    and_true true = refl
    and_true false = refl
