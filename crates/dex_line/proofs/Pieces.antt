-- Two cuts of the same bytes, and two spellings at one place.
use Rattle.std.proofs.Common.{◌≡◌, ◌⊎◌, ℕ, List, [], ◌∷◌, ◌++◌, refl, sym, ◌∙◌, ap, subst, inl, inr, append-nil}
use Rattle.dex_line.specs.FrameShapes.{FrameShape}
use Rattle.dex_line.specs.FrameSpelling.{Spelled}
use Rattle.dex_line.proofs.Told.{no_front}

-- two cuts of one list in two: one reaches as far as the other and perhaps further, or less far
pub split_bytes : (a b c d : List ℕ) → a ++ b ≡ c ++ d
    → ((r : List ℕ) × (a ≡ c ++ r) × (d ≡ r ++ b)) ⊎ ((u : ℕ) × (r : List ℕ) × (c ≡ a ++ u ∷ r) × (b ≡ (u ∷ r) ++ d))
split_bytes a b [] d e = inl (a, refl, sym e)
split_bytes [] b (u ∷ c) d e = inr (u, c, refl, e)
split_bytes (x ∷ a) b (u ∷ c) d e =
    let h : x ≡ u = cc in
    let t : a ++ b ≡ c ++ d = cc in
    elim (split_bytes a b c d t) [
      | inl (r, p, q) ↦ inl (r, ap (λ y. y ∷ a) h ∙ ap (λ l. u ∷ l) p, q)
      | inr (v, r, p, q) ↦ inr (v, r, ap (λ y. y ∷ c) (sym h) ∙ ap (λ l. x ∷ l) p, q)
    ]

-- what is left behind the same front
pub same_rest : (a b c : List ℕ) → a ++ b ≡ a ++ c → b ≡ c
same_rest [] b c e = e
same_rest (x ∷ a) b c e = let t : a ++ b ≡ a ++ c = cc in same_rest a b c t

-- no spelling has another one as a proper front
longer : (a b : FrameShape) (x y r : List ℕ) → Spelled a x → Spelled b y → x ≡ y ++ r → x ≡ y
longer a b x y [] s t p = p ∙ append-nil y
longer a b x y (u ∷ r) s t p = absurd (no_front b a y u r t (subst (λ l. Spelled a l) p s))

-- two spellings at one place are one
pub same_place : (a b : FrameShape) (x y v w : List ℕ) → Spelled a x → Spelled b y → x ++ v ≡ y ++ w → x ≡ y
same_place a b x y v w s t e =
    elim (split_bytes x v y w e) [
      | inl (r, p, q) ↦ longer a b x y r s t p
      | inr (u, r, p, q) ↦ absurd (no_front a b x u r s (subst (λ l. Spelled b l) p t))
    ]
