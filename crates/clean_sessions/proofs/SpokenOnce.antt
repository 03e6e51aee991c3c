-- From two empty lists no set is spoken twice.
use Rattle.std.proofs.Common.{◌≡◌, ◌≤◌, ◌+◌, ℕ, Bool, true, false, not, ◌&&◌, ◌||◌, ◌==◌, nat_lt, nat_le, if◌then◌else◌, refl, sym, ap, subst, arith}
use Rattle.std.proofs.lemmas.Bool.Decides.{nat_tests}
use Rattle.clean_sessions.specs.Courses.{Course, Stand, Told, TakesTurn, nothing_told, has_signed, is_wanted, is_due, may_speak, hears, hears_known, signs, awaits, answers, proposes, prepares, flips, speaks}
use Rattle.clean_sessions.specs.Places.{OnceEach}
use Rattle.clean_sessions.proofs.BoolTests.{both_true, never_both, twice_not}

record Calm (at : Stand) : Type 0 where
  own_calm : at.own.since ≡ false
  partner_calm : at.partner.since ≡ false
  own : has_signed at ≡ true → at.own.times ≡ 0 → (at.last_own ≡ true) × (at.heard ≡ false)
  partner : has_signed (flips at) ≡ true → at.partner.times ≡ 0 → (at.last_own ≡ false) × (at.heard ≡ false)

positive : (n : ℕ) → 1 ≤ n → n ≡ 0 → ⊥
positive n some none = omega (arith, some, none)

neither : (a b : Bool) → a ≡ false → b ≡ false → (a || b) ≡ false
neither true b e f = cc
neither false b e f = f

-- the set on its way is the partner's last one
hears_calm : (course : Course) (sent : Bool) (at : Stand) → OnceEach sent at → Calm (hears course sent at)
hears_calm course false at o = record { own_calm = o.own_calm; partner_calm = o.partner_calm; own = o.own; partner = o.partner }
hears_calm course true at o =
    let now = o.sending refl in
    subst (λ (t : Bool). Calm (if t then hears_known course at else record at { heard = true })) (sym (neither at.last_own at.heard now.0 now.1))
    (record {
      own_calm = o.own_calm;
      partner_calm = o.partner_calm;
      own = λ has none. absurd (never_both at.last_own (o.own has none).0 now.0);
      partner = λ has none. absurd (positive at.partner.times now.2 none);
    })

calm_if : (at yes_at : Stand) (test : Bool) → Calm at → (test ≡ true → Calm yes_at) → Calm (if test then yes_at else at)
calm_if at yes_at true c s = s refl
calm_if at yes_at false c s = c

answers_calm : (course : Course) (at : Stand) → Calm at → Calm (answers course at)
answers_calm course at c = calm_if at (signs course at) (awaits course at) c (λ e.
    let heard = (both_true at.heard (not at.last_own) (both_true (at.heard && not at.last_own) (nat_lt at.sets course.sets) e).0).0 in
    record {
      own_calm = refl;
      partner_calm = c.partner_calm;
      own = λ has none. (refl, refl);
      partner = λ has none. absurd (other_heard at c heard none (both_true at.heard (not at.last_own) (both_true (at.heard && not at.last_own) (nat_lt at.sets course.sets) e).0).1);
    })
  where
    other_heard : (at : Stand) → Calm at → at.heard ≡ true → at.partner.times ≡ 0 → not at.last_own ≡ true → ⊥
    other_heard at c heard none last = never_both at.heard heard (c.partner (ap (λ (b : Bool). b || nat_le 2 at.sets) last) none).1

lone : (n : ℕ) → (n == 0) ≡ true → nat_le 2 (n + 1) ≡ false
lone n e = grind (arith, nat_tests)

proposes_calm : (course : Course) (drafts : Bool) (at : Stand) → Calm at → Calm (proposes course drafts at)
proposes_calm course drafts at c = calm_if at (signs course at) (drafts && at.sets == 0 && nat_lt 0 course.sets) c (λ e.
    let none_yet : (at.sets == 0) ≡ true = (both_true drafts (at.sets == 0) (both_true (drafts && at.sets == 0) (nat_lt 0 course.sets) e).0).1 in
    record {
      own_calm = refl;
      partner_calm = c.partner_calm;
      own = λ has none. (refl, refl);
      partner = λ has none. absurd (never_both (nat_le 2 (at.sets + 1)) has (lone at.sets none_yet));
    })

prepares_calm : (course : Course) (drafts sent : Bool) (at : Stand) → OnceEach sent at → Calm (prepares course drafts sent at)
prepares_calm course drafts sent at o = proposes_calm course drafts (answers course (hears course sent at)) (answers_calm course (hears course sent at) (hears_calm course sent at o))

never_spoken : (told : Told) → told.since ≡ false → may_speak told ≡ true → told.times ≡ 0
never_spoken told calm may = never told.times told.since calm may
  where
    never : (n : ℕ) (b : Bool) → b ≡ false → (n == 0 || (n == 1 && b)) ≡ true → n ≡ 0
    never n true calm may = cc
    never n false calm may = grind (arith, nat_tests)

turned : (b c : Bool) → b ≡ c → not b ≡ not c
turned b c e = ap not e

spoken_once : (course : Course) (goes : Bool) (at : Stand) → Calm at → (goes ≡ true → is_due course at ≡ true) → OnceEach goes (flips (speaks goes at)) × (goes ≡ true → at.own.times ≡ 0)
spoken_once course true at c due =
    let told = both_true (has_signed at) (is_wanted course at && may_speak at.own) (due refl) in
    let none = never_spoken at.own c.own_calm (both_true (is_wanted course at) (may_speak at.own) told.1).1 in
    let place = c.own told.0 none in (
      record {
        own_calm = c.partner_calm;
        partner_calm = refl;
        own = λ has silent. let p = c.partner has silent in (turned at.last_own false p.0, p.1);
        partner = λ has silent. absurd (positive (at.own.times + 1) (omega arith) silent);
        sending = λ e. (turned at.last_own true place.0, place.1, omega arith);
      },
      λ e. none,
    )
spoken_once course false at c due = (
  record {
    own_calm = c.partner_calm;
    partner_calm = c.own_calm;
    own = λ has silent. let p = c.partner has silent in (turned at.last_own false p.0, p.1);
    partner = λ has silent. let p = c.own (subst (λ (b : Bool). (b || nat_le 2 at.sets) ≡ true) (twice_not at.last_own) has) silent in (turned at.last_own true p.0, p.1);
    sending = λ e. cc;
  },
  λ e. cc,
)

pub once : (course : Course) (drafts sent goes : Bool) (old new : Stand) → OnceEach sent old → TakesTurn course drafts sent goes old new
    → OnceEach goes new × (goes ≡ true → (prepares course drafts sent old).own.times ≡ 0)
once course drafts sent goes old new o turn =
    let s = spoken_once course goes (prepares course drafts sent old) (prepares_calm course drafts sent old o) turn.due in
    (subst (OnceEach goes) (sym turn.next) s.0, s.1)

pub nothing_spoken : OnceEach false (record { sets = 0; heard = false; last_own = false; own = nothing_told; partner = nothing_told })
nothing_spoken = record {
  own_calm = refl;
  partner_calm = refl;
  own = λ has none. cc;
  partner = λ has none. (refl, refl);
  sending = λ e. cc;
}
