-- What due sets ask, under the numbers of their deliveries.
use Rattle.std.proofs.Common.{◌≡◌, ℕ, Bool, true, false, cond, if◌then◌else◌, bytes_eq, List, [], ◌∷◌, Option, Some, None, refl, sym, ◌∙◌, ap}
use Rattle.std.specs.Map.{lookup}
use Rattle.std.proofs.lemmas.Slice.Eq.{bytes_eq-Decides}
use Rattle.indexmap.specs.IndexMap.{insert_entry}
use Rattle.own_turn.specs.AskedInside.{asked_as, asked_in}
use Rattle.own_turn.specs.DueSets.{Asked, asked_of, unasked, with_asked}
use Rattle.own_turn.specs.declared.asked.Asking.{Asking}

turned : (a b : List ℕ) (s t : Bool) → bytes_eq a b ≡ s → bytes_eq b a ≡ t → s ≡ t
turned a b true true e f = refl
turned a b false false e f = refl
turned a b true false e f = let same : a ≡ b = (bytes_eq-Decides a b).0 e in let other : bytes_eq b a ≡ true = (bytes_eq-Decides b a).1 (sym same) in cc
turned a b false true e f = let same : b ≡ a = (bytes_eq-Decides b a).0 f in let other : bytes_eq a b ≡ true = (bytes_eq-Decides a b).1 (sym same) in cc

bytes_turned : (a b : List ℕ) → bytes_eq a b ≡ bytes_eq b a
bytes_turned a b = turned a b (bytes_eq a b) (bytes_eq b a) refl refl

-- what is found of a delivery, and what is not
abbrev found_as : List ℕ → Option Asking → Asked
found_as number (Some asking) = asked_as number asking
found_as number None = unasked number

looked_up : (entries : List (List ℕ × Asking)) (number : List ℕ) → asked_of number (asked_in entries) ≡ found_as number (lookup (bytes_eq number) entries)
looked_up [] number = refl
looked_up (entry ∷ entries) number =
    ap (λ (b : Bool). if b then asked_as entry.0 entry.1 else asked_of number (asked_in entries)) (bytes_turned entry.0 number) ∙ at (bytes_eq number entry.0) refl (looked_up entries number)
  where
    at : (b : Bool) → bytes_eq number entry.0 ≡ b → asked_of number (asked_in entries) ≡ found_as number (lookup (bytes_eq number) entries)
        → (if b then asked_as entry.0 entry.1 else asked_of number (asked_in entries)) ≡ found_as number (cond b (Some entry.1) (lookup (bytes_eq number) entries))
    at true e rest = ap (λ (n : List ℕ). asked_as n entry.1) (sym ((bytes_eq-Decides number entry.0).0 e))
    at false e rest = rest

pub asked_found : (entries : List (List ℕ × Asking)) (number : List ℕ) (found : Option Asking) → found ≡ lookup (bytes_eq number) entries → found_as number found ≡ asked_of number (asked_in entries)
asked_found entries number found e = ap (found_as number) e ∙ sym (looked_up entries number)

-- what is put under a number
pub asked_inserted : (entries : List (List ℕ × Asking)) (number : List ℕ) (asking : Asking) → asked_in (insert_entry bytes_eq entries number asking) ≡ with_asked (asked_in entries) (asked_as number asking)
asked_inserted [] number asking = refl
asked_inserted (entry ∷ entries) number asking =
    at (bytes_eq number entry.0) refl (asked_inserted entries number asking)
    ∙ sym (ap (λ (b : Bool). if b then asked_as number asking ∷ asked_in entries else asked_as entry.0 entry.1 ∷ with_asked (asked_in entries) (asked_as number asking)) (bytes_turned entry.0 number))
  where
    at : (b : Bool) → bytes_eq number entry.0 ≡ b → asked_in (insert_entry bytes_eq entries number asking) ≡ with_asked (asked_in entries) (asked_as number asking)
        → asked_in (if b then (entry.0, asking) ∷ entries else entry ∷ insert_entry bytes_eq entries number asking)
        ≡ (if b then asked_as number asking ∷ asked_in entries else asked_as entry.0 entry.1 ∷ with_asked (asked_in entries) (asked_as number asking))
    at true e rest = ap (λ (n : List ℕ). asked_as n asking ∷ asked_in entries) (sym ((bytes_eq-Decides number entry.0).0 e))
    at false e rest = ap (λ (l : List Asked). asked_as entry.0 entry.1 ∷ l) rest
