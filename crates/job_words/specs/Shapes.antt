-- The shapes of the words of a job: how many stand behind the first, none of them empty or begun with `-`, which is 45.
use Rattle.std.specs.Prelude.{ℕ, ◌≡◌, ◌⊎◌, ◌==◌, Bool, true, false, not, List, [], ◌∷◌, codes}

-- not empty, and not begun with `-`
abbrev pub is_plain : List ℕ → Bool
is_plain [] = false
is_plain (byte ∷ bytes) = not (byte == 45)

-- the first word and one more
pub record HasOne (first : List ℕ) (words : List (List ℕ)) : Type 0 where
  pub one : List ℕ
  pub plain : is_plain one ≡ true
  pub words_are : words ≡ first ∷ one ∷ []

-- the first word and two more
pub record HasTwo (first : List ℕ) (words : List (List ℕ)) : Type 0 where
  pub one : List ℕ
  pub two : List ℕ
  pub one_plain : is_plain one ≡ true
  pub two_plain : is_plain two ≡ true
  pub words_are : words ≡ first ∷ one ∷ two ∷ []

-- the first two words and three more
pub record HasThree (first second : List ℕ) (words : List (List ℕ)) : Type 0 where
  pub one : List ℕ
  pub two : List ℕ
  pub three : List ℕ
  pub one_plain : is_plain one ≡ true
  pub two_plain : is_plain two ≡ true
  pub three_plain : is_plain three ≡ true
  pub words_are : words ≡ first ∷ second ∷ one ∷ two ∷ three ∷ []

-- the words have the shape of a job's
abbrev pub AreShaped : List (List ℕ) → Type 0
AreShaped words = (words ≡ codes "replay" ∷ []) ⊎ (HasOne (codes "check") words ⊎ (HasOne (codes "show") words ⊎ (HasOne (codes "load") words
    ⊎ (HasTwo (codes "handheld") words ⊎ (HasTwo (codes "receiver") words ⊎ (HasThree (codes "format") (codes "handheld") words ⊎ HasThree (codes "format") (codes "receiver") words))))))
