-- Texts that are printed for one thing after another.
use Rattle.std.proofs.Common.{◌≡◌, ℕ, ◌+◌, Bool, true, false, ◌&&◌, List, ◌∷◌, ◌++◌, drop, slice_get, Some, sym, ◌∙◌, ap, append_assoc}
use Rattle.std.specs.List.{flat_map, list_all}
use Rattle.std.specs.Option.{unwrap_or}
use Rattle.std.proofs.lemmas.List.{drop_more}
use Rattle.std.proofs.lemmas.Option.{slice_get_within, unwrap_or-slice_get}

-- what stands at a place is the first of what is left from there on
left_at : {X : Type 0} (xs : List X) (index : ℕ) (x : X) → slice_get xs index ≡ Some x → drop index xs ≡ x ∷ drop (index + 1) xs
left_at xs index x there =
    drop_more xs index x (slice_get_within xs index x there) ∙ ap (λ y. y ∷ drop (index + 1) xs) (sym (unwrap_or-slice_get xs index x) ∙ ap (λ o. unwrap_or o x) there)

-- one thing more is printed
pub printed_more : {X : Type 0} (text : X → List ℕ) (xs : List X) (index : ℕ) (x : X) (done now all : List ℕ) → slice_get xs index ≡ Some x
    → now ≡ done ++ text x → done ++ flat_map text (drop index xs) ≡ all → now ++ flat_map text (drop (index + 1) xs) ≡ all
printed_more text xs index x done now all there made before =
    ap (λ l. l ++ flat_map text (drop (index + 1) xs)) made ∙ append_assoc done (text x) (flat_map text (drop (index + 1) xs))
    ∙ ap (λ l. done ++ flat_map text l) (sym (left_at xs index x there)) ∙ before

-- one more passes the test
pub passes_more : {X : Type 0} (test : X → Bool) (xs : List X) (index : ℕ) (x : X) (all : Bool) → slice_get xs index ≡ Some x
    → test x ≡ true → list_all test (drop index xs) ≡ all → list_all test (drop (index + 1) xs) ≡ all
passes_more test xs index x all there passes before =
    sym (ap (λ b. b && list_all test (drop (index + 1) xs)) passes) ∙ ap (list_all test) (sym (left_at xs index x there)) ∙ before

-- one does not
pub fails_at : {X : Type 0} (test : X → Bool) (xs : List X) (index : ℕ) (x : X) (all : Bool) → slice_get xs index ≡ Some x
    → test x ≡ false → list_all test (drop index xs) ≡ all → false ≡ all
fails_at test xs index x all there fails before =
    sym (ap (λ b. b && list_all test (drop (index + 1) xs)) fails) ∙ ap (list_all test) (sym (left_at xs index x there)) ∙ before
