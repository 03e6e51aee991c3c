-- A turn that speaks leaves less, and no turn leaves more.
use Rattle.std.proofs.Common.{◌≡◌, ◌≤◌, ◌+◌, ◌<◌, ℕ, Bool, true, false, not, ◌&&◌, ◌||◌, ◌==◌, nat_lt, if◌then◌else◌, refl, sym, subst, inl, inr, arith}
use Rattle.std.proofs.lemmas.Bool.{cases_Bool}
use Rattle.std.proofs.lemmas.Bool.Decides.{nat_tests}
use Rattle.clean_sessions.specs.Courses.{Course, Stand, Told, TakesTurn, is_complete, has_signed, is_wanted, is_due, may_speak, hears, hears_known, meets, signs, awaits, answers, proposes, prepares, flips, speaks, still_left, as_number}
use Rattle.clean_sessions.specs.Places.{Bounded}
use Rattle.clean_sessions.proofs.ReadyPlaces.{less_is}
use Rattle.clean_sessions.proofs.BoolTests.{both_true}

-- a step of the turn before the speaking
record Step (course : Course) (old new : Stand) : Type 0 where
  bounded : Bounded course new
  less : still_left course new ≤ still_left course old

same : (course : Course) (at : Stand) → Bounded course at → Step course at at
same course at b = record { bounded = b; less = omega arith }

then_step : (course : Course) (a b c : Stand) → Step course a b → Step course b c → Step course a c
then_step course a b c first second = record { bounded = second.bounded; less = omega (arith, first.less, second.less) }

step_if : (course : Course) (at yes_at : Stand) (test : Bool) → Bounded course at → (test ≡ true → Step course at yes_at) → Step course at (if test then yes_at else at)
step_if course at yes_at true b s = s refl
step_if course at yes_at false b s = same course at b

signs_step : (course : Course) (at : Stand) → Bounded course at → at.sets < course.sets → Step course at (signs course at)
signs_step course at b room = record {
  bounded = record { most = omega (arith, room); own = omega arith; partner = b.partner };
  less = omega (arith, room, b.own, b.partner);
}

hears_step : (course : Course) (sent : Bool) (at : Stand) → Bounded course at → Step course at (hears course sent at)
hears_step course false at b = same course at b
hears_step course true at b = elim (cases_Bool (at.last_own || at.heard)) [
  | inl known ↦ subst (λ (t : Bool). Step course at (if t then hears_known course at else record at { heard = true })) (sym known) (known_step course at b (not at.last_own && is_complete course at))
  | inr new ↦ subst (λ (t : Bool). Step course at (if t then hears_known course at else record at { heard = true })) (sym new) (record { bounded = record { most = b.most; own = b.own; partner = b.partner }; less = omega arith })
]
  where
    known_step : (course : Course) (at : Stand) → Bounded course at → (t : Bool) → Step course at (if t then at else meets at)
    known_step course at b true = same course at b
    known_step course at b false = record { bounded = record { most = b.most; own = b.own; partner = b.partner }; less = omega arith }

answers_step : (course : Course) (at : Stand) → Bounded course at → Step course at (answers course at)
answers_step course at b = step_if course at (signs course at) (awaits course at) b (λ e. signs_step course at b (less_is at.sets course.sets (both_true (at.heard && not at.last_own) (nat_lt at.sets course.sets) e).1))

pub first_room : (drafts : Bool) (n m : ℕ) → (drafts && n == 0 && nat_lt 0 m) ≡ true → n < m
first_room true n m e = grind (arith, nat_tests)
first_room false n m e = cc

proposes_step : (course : Course) (drafts : Bool) (at : Stand) → Bounded course at → Step course at (proposes course drafts at)
proposes_step course drafts at b = step_if course at (signs course at) (drafts && at.sets == 0 && nat_lt 0 course.sets) b (λ e. signs_step course at b (first_room drafts at.sets course.sets e))

prepares_step : (course : Course) (drafts sent : Bool) (at : Stand) → Bounded course at → Step course at (prepares course drafts sent at)
prepares_step course drafts sent at b =
    let h = hears_step course sent at b in
    let a = answers_step course (hears course sent at) h.bounded in
    let p = proposes_step course drafts (answers course (hears course sent at)) a.bounded in
    then_step course at (hears course sent at) _ h (then_step course (hears course sent at) (answers course (hears course sent at)) _ a p)

pub may_is : (told : Told) → may_speak told ≡ true → told.times ≤ 1
may_is told e = grind (arith, nat_tests)

spoken_step : (course : Course) (goes : Bool) (at : Stand) → Bounded course at → (goes ≡ true → is_due course at ≡ true)
    → Bounded course (flips (speaks goes at)) × (still_left course (flips (speaks goes at)) + as_number goes ≤ still_left course at)
spoken_step course true at b due =
    let speaks_now = both_true (has_signed at) (is_wanted course at && may_speak at.own) (due refl) in
    let may : at.own.times ≤ 1 = may_is at.own (both_true (is_wanted course at) (may_speak at.own) speaks_now.1).1 in
    (record { most = b.most; own = b.partner; partner = omega (arith, may) }, omega (arith, may, b.partner))
spoken_step course false at b due = (record { most = b.most; own = b.partner; partner = b.own }, omega arith)

pub less_left : (course : Course) (drafts sent goes : Bool) (old new : Stand) → Bounded course old → TakesTurn course drafts sent goes old new
    → Bounded course new × (still_left course new + as_number goes ≤ still_left course old)
less_left course drafts sent goes old new b turn =
    let p = prepares_step course drafts sent old b in
    let s = spoken_step course goes (prepares course drafts sent old) p.bounded turn.due in
    let less : still_left course (flips (speaks goes (prepares course drafts sent old))) + as_number goes ≤ still_left course old = omega (arith, s.1, p.less) in
    subst (λ (x : Stand). Bounded course x × (still_left course x + as_number goes ≤ still_left course old)) (sym turn.next) (s.0, less)
