-- Behind two turns of which neither has a set to speak, both ends have the whole course.
use Rattle.std.proofs.Common.{◌≡◌, ◌≤◌, ◌+◌, ℕ, Bool, true, false, not, ◌&&◌, ◌||◌, ◌==◌, nat_le, if◌then◌else◌, refl, sym, ap, subst, inl, inr, arith}
use Rattle.std.proofs.lemmas.Bool.{cases_Bool}
use Rattle.std.proofs.lemmas.Bool.Decides.{nat_tests}
use Rattle.clean_sessions.specs.Courses.{Course, Stand, Told, TakesTurn, is_due, may_speak, signs, awaits, answers, prepares, flips}
use Rattle.clean_sessions.specs.Places.{ComesAgain, Holds, Begins, IsCourse, IsDone}
use Rattle.clean_sessions.proofs.ReadyPlaces.{Ready, stand, ready, ready_first, no_draft, not_less}
use Rattle.clean_sessions.proofs.BoolTests.{both_true, never_both}

-- a set that was signed just now is due
new_is_due : (complete met accepts : Bool) → (not (complete && (true || false)) || (met || (accepts || complete))) && true ≡ true
new_is_due true true accepts = refl
new_is_due true false true = refl
new_is_due true false false = refl
new_is_due false met accepts = refl

pub signed_due : (course : Course) (at : Stand) → is_due course (signs course at) ≡ true
signed_due course at = new_is_due (course.accepted && at.sets + 1 == course.sets) at.own.met at.own.accepts

-- where an answer would come, something is due
pub no_answer : (course : Course) (at : Stand) → is_due course (answers course at) ≡ false → awaits course at ≡ false
no_answer course at idle = elim (cases_Bool (awaits course at)) [
  | inl yes_it ↦ absurd (never_both _ (signed_due course at) (subst (λ (b : Bool). is_due course (if b then signs course at else at) ≡ false) yes_it idle))
  | inr none ↦ none
]

zero_may : (told : Told) → told.times ≡ 0 → may_speak told ≡ true
zero_may told none = let same : (told.times == 0) ≡ true = grind (arith, nat_tests) in ap (λ (b : Bool). b || (told.times == 1 && told.since)) same

first_false : (a b : Bool) → (a && b) ≡ false → b ≡ true → a ≡ false
first_false true b e t = absurd (never_both b t e)
first_false false b e t = refl

unwanted : (c m : Bool) → (not (c && (true || false)) || m) ≡ false → (c ≡ true) × (m ≡ false)
unwanted true m e = (refl, e)
unwanted false m e = cc

open_is_wanted : (c m : Bool) → (not (c && (false || false)) || m) ≡ true
open_is_wanted true m = refl
open_is_wanted false m = refl

all_true : (a b c : Bool) → a ≡ true → b ≡ true → c ≡ true → (a && (b && c)) ≡ true
all_true true b c e f g = cc
all_true false b c e f g = cc

same_number : (n m : ℕ) → (n == m) ≡ true → n ≡ m
same_number n m e = grind (arith, nat_tests)

two_there : (n : ℕ) → 2 ≤ n → nat_le 2 n ≡ true
two_there n le = grind (arith, nat_tests)

-- a set that was not heard and never spoken is due at its signer or, where it is an old acceptance, the proposal is at the other end
stuck : (course : Course) (n : ℕ) (signer other : Told) → IsCourse course → signer.times ≡ 0 → ComesAgain course (stand n false true signer other) signer other.times
    → is_due course (stand n false true signer other) ≡ false → is_due course (stand n false false other signer) ≡ false → ⊥
stuck course n signer other right never again idle idle_other =
    let c : Bool = course.accepted && n == course.sets in
    let lost = unwanted c (signer.met || signer.accepts) (first_false _ _ idle (zero_may signer never)) in
    let whole = both_true course.accepted (n == course.sets) lost.0 in
    let many : 2 ≤ course.sets = right whole.0 in
    let count : n ≡ course.sets = same_number n course.sets whole.1 in
    let two : 2 ≤ n = omega (arith, many, count) in
    elim (again lost.0) [
      | inl told ↦ never_both _ told lost.1
      | inr silent ↦ never_both _ (all_true (nat_le 2 n) _ _ (two_there n two) (open_is_wanted c (other.met || other.accepts)) (zero_may other silent)) idle_other
    ]

done_by : (course : Course) (heard last_own : Bool) (n : ℕ) (own partner : Told) → IsCourse course → Ready course (stand n heard last_own own partner) → is_due course (stand n heard last_own own partner) ≡ false
    → awaits course (flips (stand n heard last_own own partner)) ≡ false → is_due course (flips (stand n heard last_own own partner)) ≡ false → IsDone course (stand n heard last_own own partner)
done_by course true true n own partner right r idle none idle_other = (not_less n course.sets r.most none, refl)
done_by course true false n own partner right r idle none idle_other = (r.still, refl)
done_by course false true n own partner right r idle none idle_other = absurd (stuck course n own partner right r.still.0 r.still.1 idle idle_other)
done_by course false false n own partner right r idle none idle_other = absurd (stuck course n partner own right r.still.0 r.still.1 idle_other idle)

pub some_answered : (course : Course) (at : Stand) → 1 ≤ at.sets → 1 ≤ (answers course at).sets
some_answered course at some = elim (cases_Bool (awaits course at)) [
  | inl goes ↦ subst (λ (b : Bool). let s : Stand = (if b then signs course at else at) in 1 ≤ s.sets) (sym goes) (omega arith)
  | inr stays ↦ subst (λ (b : Bool). let s : Stand = (if b then signs course at else at) in 1 ≤ s.sets) (sym stays) some
]

-- both turns had nothing to speak
done : (course : Course) (drafts : Bool) (at : Stand) → IsCourse course → Ready course at → is_due course at ≡ false → is_due course (prepares course drafts false (flips at)) ≡ false → IsDone course at
done course drafts at right r idle idle_next =
    let calm : is_due course (answers course (flips at)) ≡ false =
    subst (λ (s : Stand). is_due course s ≡ false) (no_draft course drafts (answers course (flips at)) (some_answered course (flips at) r.some)) idle_next in
    let none = no_answer course (flips at) calm in
    let idle_other : is_due course (flips at) ≡ false = subst (λ (b : Bool). is_due course (if b then signs course (flips at) else flips at) ≡ false) none calm in
    done_by course at.heard at.last_own at.sets at.own at.partner right r idle none idle_other

pub ends : (course : Course) (drafts sent next_drafts : Bool) (old new : Stand) → IsCourse course → Holds course sent old → TakesTurn course drafts sent false old new
    → is_due course (prepares course drafts sent old) ≡ false → is_due course (prepares course next_drafts false new) ≡ false → IsDone course new
ends course drafts sent next_drafts old new right h turn idle idle_next =
    let d = done course next_drafts (prepares course drafts sent old) right (ready course drafts sent old h) idle (subst (λ (s : Stand). is_due course (prepares course next_drafts false s) ≡ false) turn.next idle_next) in
    subst (IsDone course) (sym turn.next) d

pub ends_at_once : (course : Course) (next_drafts : Bool) (old new : Stand) → Begins course old → TakesTurn course true false false old new
    → is_due course (prepares course true false old) ≡ false → is_due course (prepares course next_drafts false new) ≡ false → IsDone course new
ends_at_once course next_drafts old new b turn idle idle_next =
    let d = done course next_drafts (prepares course true false old) b.right (ready_first course old b) idle (subst (λ (s : Stand). is_due course (prepares course next_drafts false s) ≡ false) turn.next idle_next) in
    subst (IsDone course) (sym turn.next) d
