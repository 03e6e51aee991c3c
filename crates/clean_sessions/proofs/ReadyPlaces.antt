-- Where a delivery stands once an own turn has taken and signed, before it speaks.
use Rattle.std.proofs.Common.{◌≡◌, ◌≤◌, ◌+◌, ◌<◌, ℕ, Bool, true, false, ◌&&◌, ◌||◌, ◌==◌, nat_lt, if◌then◌else◌, refl, sym, ap, subst, inl, inr, arith}
use Rattle.std.proofs.lemmas.Bool.{cases_Bool, cases_eq}
use Rattle.std.proofs.lemmas.Bool.Decides.{nat_tests}
use Rattle.clean_sessions.specs.Courses.{Course, Stand, Told, nothing_told, is_complete, hears, signs, answers, proposes, prepares}
use Rattle.clean_sessions.specs.Places.{ComesAgain, Holds, Begins}

abbrev pub stand : ℕ → Bool → Bool → Told → Told → Stand
stand n heard last_own own partner = record { sets = n; heard = heard; last_own = last_own; own = own; partner = partner }

abbrev pub IsStill : Course → Bool → Bool → Stand → Type 0
IsStill course true true at = Unit {0}
IsStill course true false at = at.sets ≡ course.sets
IsStill course false true at = (at.own.times ≡ 0) × ComesAgain course at at.own at.partner.times
IsStill course false false at = (at.partner.times ≡ 0) × ComesAgain course at at.partner at.own.times

pub record Ready (course : Course) (at : Stand) : Type 0 where
  pub some : 1 ≤ at.sets
  pub most : at.sets ≤ course.sets
  pub still : IsStill course at.heard at.last_own at

abbrev met : Told → Told
met told = record told { since = true; met = true }

either : (a b c : Bool) → c ≡ true → (a || (b || c)) ≡ true
either true b c e = refl
either false true c e = refl
either false false c e = e

-- a set that was signed just now
signed : (course : Course) (n : ℕ) (heard last_own : Bool) (own partner : Told) → n < course.sets → Ready course (signs course (stand n heard last_own own partner))
signed course n heard last_own own partner room = record {
  some = omega arith;
  most = omega (arith, room);
  still = (refl, λ complete. inl (either own.met own.accepts (course.accepted && n + 1 == course.sets) complete));
}

pub less_is : (n m : ℕ) → nat_lt n m ≡ true → n < m
less_is n m e = grind (arith, nat_tests)

pub not_less : (n m : ℕ) → n ≤ m → nat_lt n m ≡ false → n ≡ m
not_less n m le e = grind (arith, nat_tests)

-- the partner's set was heard: it is answered, or the course is at its end
pub answered : (course : Course) (n : ℕ) (own partner : Told) → 1 ≤ n → n ≤ course.sets → Ready course (answers course (stand n true false own partner))
answered course n own partner some most = elim (cases_Bool (nat_lt n course.sets)) [
  | inl goes ↦ subst (λ (b : Bool). Ready course (if b then signs course (stand n true false own partner) else stand n true false own partner)) (sym goes) (signed course n true false own partner (less_is n course.sets goes))
  | inr ends ↦ subst (λ (b : Bool). Ready course (if b then signs course (stand n true false own partner) else stand n true false own partner)) (sym ends) (record { some = some; most = most; still = not_less n course.sets most ends })
]

-- after taking and answering
taken : (course : Course) (sent heard last_own : Bool) (n : ℕ) (own partner : Told) → Holds course sent (stand n heard last_own own partner) → Ready course (answers course (hears course sent (stand n heard last_own own partner)))
taken course false true true n own partner h = record { some = h.some; most = h.most; still = tt }
taken course true true true n own partner h = record { some = h.some; most = h.most; still = tt }
taken course false true false n own partner h = answered course n own partner h.some h.most
taken course true true false n own partner h = elim (cases_Bool (is_complete course (stand n true false own partner))) [
  | inl done ↦ subst (λ (b : Bool). Ready course (answers course (if b then stand n true false own partner else stand n true false (met own) partner))) (sym done) (answered course n own partner h.some h.most)
  | inr more ↦ subst (λ (b : Bool). Ready course (answers course (if b then stand n true false own partner else stand n true false (met own) partner))) (sym more) (answered course n (met own) partner h.some h.most)
]
taken course false false true n own partner h = record { some = h.some; most = h.most; still = h.place }
taken course true false true n own partner h = record { some = h.some; most = h.most; still = (h.place, λ complete. inl refl) }
taken course false false false n own partner h = record { some = h.some; most = h.most; still = h.place }
taken course true false false n own partner h = answered course n own partner h.some h.most

some_no_draft : (drafts : Bool) (n m : ℕ) → 1 ≤ n → (drafts && n == 0 && nat_lt 0 m) ≡ false
some_no_draft true n m some = let other : (n == 0) ≡ false = grind (arith, nat_tests) in ap (λ (b : Bool). b && nat_lt 0 m) other
some_no_draft false n m some = refl

pub no_draft : (course : Course) (drafts : Bool) (at : Stand) → 1 ≤ at.sets → proposes course drafts at ≡ at
no_draft course drafts at some = ap (λ (b : Bool). if b then signs course at else at) (some_no_draft drafts at.sets course.sets some)

-- from a place in the middle of a session
pub ready : (course : Course) (drafts sent : Bool) (at : Stand) → Holds course sent at → Ready course (prepares course drafts sent at)
ready course drafts sent at h =
    let t = taken course sent at.heard at.last_own at.sets at.own at.partner h in
    subst (Ready course) (sym (no_draft course drafts (answers course (hears course sent at)) t.some)) t

-- from where a session begins
begun : (course : Course) (n : ℕ) (heard last_own : Bool) → 1 ≤ n → n ≤ course.sets → Ready course (answers course (stand n heard last_own nothing_told nothing_told))
begun course n true true some most = record { some = some; most = most; still = tt }
begun course n true false some most = answered course n nothing_told nothing_told some most
begun course n false true some most = record { some = some; most = most; still = (refl, λ complete. inr refl) }
begun course n false false some most = record { some = some; most = most; still = (refl, λ complete. inr refl) }

pub first_signed : (course : Course) (n : ℕ) (heard last_own : Bool) (own partner : Told) → n ≡ 0 → heard ≡ false → 1 ≤ course.sets
    → prepares course true false (stand n heard last_own own partner) ≡ signs course (stand n heard last_own own partner)
first_signed course n heard last_own own partner none deaf some =
    let room : nat_lt 0 course.sets ≡ true = grind (arith, nat_tests) in
    let base : prepares course true false (stand 0 false last_own own partner) ≡ signs course (stand 0 false last_own own partner) =
    ap (λ (b : Bool). if b then signs course (stand 0 false last_own own partner) else stand 0 false last_own own partner) room in
    subst (λ (b : Bool). prepares course true false (stand n b last_own own partner) ≡ signs course (stand n b last_own own partner)) (sym deaf)
    (subst (λ (k : ℕ). prepares course true false (stand k false last_own own partner) ≡ signs course (stand k false last_own own partner)) (sym none) base)

some_sets : (n : ℕ) → (n ≡ 0 → ⊥) → 1 ≤ n
some_sets n other = omega (arith, other)

-- from where a session begins
pub ready_first : (course : Course) (at : Stand) → Begins course at → Ready course (prepares course true false at)
ready_first course at b = elim (cases_eq at.sets 0) [
  | inl none ↦ subst (Ready course) (sym (first_signed course at.sets at.heard at.last_own at.own at.partner none (b.none none).0 b.some))
      (signed course at.sets at.heard at.last_own at.own at.partner (omega (arith, none, b.some)))
  | inr other ↦
      let some : 1 ≤ at.sets = some_sets at.sets other in
      let a : Ready course (answers course (stand at.sets at.heard at.last_own at.own at.partner)) =
      subst (λ (t : Told). Ready course (answers course (stand at.sets at.heard at.last_own t at.partner))) (sym b.own)
      (subst (λ (t : Told). Ready course (answers course (stand at.sets at.heard at.last_own nothing_told t))) (sym b.partner) (begun course at.sets at.heard at.last_own some b.most)) in
      subst (Ready course) (sym (no_draft course true (answers course at) a.some)) a
]
