-- Two lists of which each one's taken texts are among the other's signed ones are fronts of one course.
use Rattle.std.proofs.Common.{◌≡◌, ◌≤◌, ◌+◌, ◌<◌, ℕ, Bool, true, false, not, List, [], ◌∷◌, refl, sym, ap, ◌∙◌, inl, inr, arith}
use Rattle.clean_sessions.specs.Fronts.{Seen, TakeTurns, HasSigned, Backs, Fronts}

flips_true : (b s : Bool) → b ≡ not s → s ≡ false → b ≡ true
flips_true b s e f = e ∙ ap not f

flips_false : (b s : Bool) → b ≡ not s → s ≡ true → b ≡ false
flips_false b s e f = e ∙ ap not f

module _ (place : List ℕ → ℕ) where
  -- what is signed further on has a later place
  later : (signed : Bool) (n : ℕ) (deeds : List Seen) (text : List ℕ) → TakeTurns place signed n deeds → HasSigned text deeds → n ≤ place text
  later signed n [] text turns has = absurd has
  later signed n (deed ∷ deeds) text turns (inl here) = let same : place text ≡ n = ap place (sym here.1) ∙ turns.1 in omega (arith, same)
  later signed n (deed ∷ deeds) text turns (inr there) = let le = later (not signed) (n + 1) deeds text turns.2 there in omega (arith, le)

  -- the text at a place that the other list has signed there or later is the one there
  is_first : (signed : Bool) (n : ℕ) (deed : Seen) (deeds : List Seen) (text : List ℕ) → TakeTurns place signed (n + 1) deeds → place text ≡ n → HasSigned text (deed ∷ deeds) → deed.text ≡ text
  is_first signed n deed deeds text turns at (inl here) = here.1
  is_first signed n deed deeds text turns at (inr there) = let le = later signed (n + 1) deeds text turns there in absurd (too_far n (place text) le at)
    where
      too_far : (n m : ℕ) → n + 1 ≤ m → m ≡ n → ⊥
      too_far n m le e = omega (arith, le, e)

  -- later texts are not signed at the front
  behind : (signed : Bool) (n m : ℕ) (front : Seen) (others deeds : List Seen) → place front.text ≡ n → n < m → TakeTurns place signed m deeds → Backs (front ∷ others) deeds → Backs others deeds
  behind signed n m front others [] at before turns backs = tt
  behind signed n m front others (deed ∷ deeds) at before turns backs =
      (λ taken. further (backs.0 taken), behind (not signed) n (m + 1) front others deeds at (omega (arith, before)) turns.2 backs.1)
    where
      apart : (a b n m : ℕ) → a ≡ n → b ≡ m → n < m → a ≡ b → ⊥
      apart a b n m e f lt same = omega (arith, e, f, lt, same)

      further : HasSigned deed.text (front ∷ others) → HasSigned deed.text others
      further (inl here) = absurd (apart (place front.text) (place deed.text) n m at turns.1 before (ap place here.1))
      further (inr there) = there

  -- a list behind which the other one is at its end
  alone : (signed : Bool) (n : ℕ) (deed : Seen) (deeds : List Seen) → TakeTurns place signed n (deed ∷ deeds) → Backs [] (deed ∷ deeds) → (deed.signed ≡ true) × (deeds ≡ [])
  alone signed n deed [] turns backs = (not_taken deed.signed backs.0, refl)
    where
      not_taken : (b : Bool) → (b ≡ false → ⊥) → b ≡ true
      not_taken true other = refl
      not_taken false other = absurd (other refl)
  alone true n deed (next ∷ deeds) turns backs = absurd (backs.1.0 turns.2.0)
  alone false n deed (next ∷ deeds) turns backs = absurd (backs.0 turns.0)

  one_text : (signed : Bool) (n : ℕ) (deed other : Seen) (deeds others : List Seen) → TakeTurns place signed n (deed ∷ deeds) → TakeTurns place (not signed) n (other ∷ others)
      → Backs (other ∷ others) (deed ∷ deeds) → Backs (deed ∷ deeds) (other ∷ others) → deed.text ≡ other.text
  one_text true n deed other deeds others turns their backs backed = is_first (not true) n deed deeds other.text turns.2 their.1 (backed.0 their.0)
  one_text false n deed other deeds others turns their backs backed = sym (is_first (not (not false)) n other others deed.text their.2 turns.1 (backs.0 turns.0))

  pub fronts : (signed : Bool) (n : ℕ) (deeds others : List Seen) → TakeTurns place signed n deeds → TakeTurns place (not signed) n others → Backs others deeds → Backs deeds others → Fronts deeds others
  fronts signed n [] [] turns their backs backed = tt
  fronts signed n [] (other ∷ others) turns their backs backed = alone (not signed) n other others their backed
  fronts signed n (deed ∷ deeds) [] turns their backs backed = alone signed n deed deeds turns backs
  fronts signed n (deed ∷ deeds) (other ∷ others) turns their backs backed = (
    one_text signed n deed other deeds others turns their backs backed,
    fronts (not signed) (n + 1) deeds others turns.2 their.2
        (behind (not signed) n (n + 1) other others deeds their.1 (omega arith) turns.2 backs.1)
        (behind (not (not signed)) n (n + 1) deed deeds others turns.1 (omega arith) their.2 backed.1),
  )
