-- The polls of turns, counted by the blocks of their sets.
use Rattle.std.proofs.Common.{◌≡◌, ◌≤◌, ◌+◌, ◌*◌, ℕ, Bool, true, false, ◌==◌, List, [], ◌∷◌, refl, ap, subst, inl, inr, arith}
use Rattle.std.proofs.lemmas.Bool.{cases_Bool}
use Rattle.std.proofs.lemmas.Bool.Decides.{nat_tests}
use Rattle.clean_sessions.specs.Turns.{Turn, IsTurn, EndsWhenEmpty, is_empty, all_alone, polls_in, polls_of}

-- what is still to come beside the blocks: two empty turns, or one behind an empty one
abbrev left : Bool → ℕ
left true = 2
left false = 4

zero_is : (n : ℕ) → (n == 0) ≡ true → n ≡ 0
zero_is n e = grind (arith, nat_tests)

some_is : (n : ℕ) → (n == 0) ≡ false → 1 ≤ n
some_is n e = grind (arith, nat_tests)

-- the polls of one turn
abbrev cost : Bool → Turn → ℕ
cost true turn = 1 + turn.blocks
cost false turn = 2 + turn.pieces

empty_cost : (own : Bool) (turn : Turn) → IsTurn turn → turn.alone ≡ 0 → cost own turn ≤ 2
empty_cost true turn is e = let none = is.none e in omega arith
empty_cost false turn is e = let none = is.none e in omega (arith, is.short)

full_cost : (own : Bool) (turn : Turn) → IsTurn turn → 1 ≤ turn.alone → cost own turn + 4 ≤ 2 + 16 * turn.alone
full_cost true turn is some = omega (arith, is.few)
full_cost false turn is some = omega (arith, is.few, is.short)

least_left : (after_empty : Bool) → 2 ≤ left after_empty
least_left true = omega arith
least_left false = omega arith

joined : (own : Bool) (turn : Turn) (turns : List Turn) (other : Bool) → polls_in other turns + cost own turn ≡ cost own turn + polls_in other turns
joined own turn turns other = omega arith

-- with an empty turn more
behind_empty : (own other after_empty : Bool) (turn : Turn) (turns : List Turn) → IsTurn turn → is_empty turn ≡ true → (after_empty ≡ true → turns ≡ [])
    → (polls_in other turns ≤ 2 + 16 * all_alone turns) → cost own turn + polls_in other turns ≤ left after_empty + 16 * (turn.alone + all_alone turns)
behind_empty own other true turn turns is empty ends few =
    let cheap = empty_cost own turn is (zero_is turn.alone empty) in
    let nothing : polls_in other turns ≡ polls_in other [] = ap (polls_in other) (ends refl) in
    let zero : polls_in other [] ≡ 0 = no_turns other in
    omega (arith, cheap, nothing, zero)
  where
    no_turns : (other : Bool) → polls_in other [] ≡ 0
    no_turns true = refl
    no_turns false = refl
behind_empty own other false turn turns is empty ends few =
    let cheap = empty_cost own turn is (zero_is turn.alone empty) in
    omega (arith, cheap, few)

-- with a turn with blocks more
behind_full : (own other after_empty : Bool) (turn : Turn) (turns : List Turn) → IsTurn turn → is_empty turn ≡ false
    → (polls_in other turns ≤ 4 + 16 * all_alone turns) → cost own turn + polls_in other turns ≤ left after_empty + 16 * (turn.alone + all_alone turns)
behind_full own other after_empty turn turns is full few =
    let dear = full_cost own turn is (some_is turn.alone full) in
    let room = least_left after_empty in
    omega (arith, dear, few, room)

one_more : (own other after_empty : Bool) (turn : Turn) (turns : List Turn) → IsTurn turn → (after_empty ≡ true → is_empty turn ≡ true → turns ≡ [])
    → polls_in other turns ≤ left (is_empty turn) + 16 * all_alone turns → cost own turn + polls_in other turns ≤ left after_empty + 16 * (turn.alone + all_alone turns)
one_more own other after_empty turn turns is ends few = elim (cases_Bool (is_empty turn)) [
  | inl empty ↦ behind_empty own other after_empty turn turns is empty (λ e. ends e empty) (subst (λ (b : Bool). polls_in other turns ≤ left b + 16 * all_alone turns) empty few)
  | inr full ↦ behind_full own other after_empty turn turns is full (subst (λ (b : Bool). polls_in other turns ≤ left b + 16 * all_alone turns) full few)
]

-- by induction over the turns, for either end
pub few_polls : (own after_empty : Bool) (turns : List Turn) → EndsWhenEmpty after_empty turns → polls_in own turns ≤ left after_empty + 16 * all_alone turns
few_polls true true [] all = omega arith
few_polls true false [] all = omega arith
few_polls false true [] all = omega arith
few_polls false false [] all = omega arith
few_polls true after_empty (turn ∷ turns) all = one_more true false after_empty turn turns all.0 all.1 (few_polls false (is_empty turn) turns all.2)
few_polls false after_empty (turn ∷ turns) all = one_more false true after_empty turn turns all.0 all.1 (few_polls true (is_empty turn) turns all.2)

pub few : (supplier : Bool) (turns : List Turn) → EndsWhenEmpty false turns → polls_of supplier turns ≤ 10 + 16 * all_alone turns
few true turns all = let le = few_polls true false turns all in omega (arith, le)
few false turns all = let le = few_polls false false turns all in omega (arith, le)

pub within_bound : (supplier : Bool) (turns : List Turn) → EndsWhenEmpty false turns → polls_of supplier turns ≤ 60 + 24 * all_alone turns
within_bound supplier turns all = let le = few supplier turns all in omega (arith, le)
