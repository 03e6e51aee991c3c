-- A list of three words, by its elements.
use Rattle.std.proofs.Common.{◌≡◌, ℕ, List, [], ◌∷◌, length, map, get_or, refl, arith}
use Rattle.dsd_values.specs.declared.role.Role.TheVariants.{Supplier, Receiver}
use Rattle.dex_cli.specs.EndWords.{AreNames, IsLedBy, SpellsEnd}
use Rattle.dex_cli.specs.Words.{AsksEnd}
use Rattle.dex_cli.specs.declared.end_words.EndNames.{EndNames}

pub map_three : {X Y : Type 0} (f : X → Y) (xs : List X) (a b c : X) → length xs ≡ 3 → a ≡ get_or xs 0 a → b ≡ get_or xs 1 b → c ≡ get_or xs 2 c → map f xs ≡ f a ∷ f b ∷ f c ∷ []
map_three f [] a b c n p q r = absurd (omega arith)
map_three f (x ∷ []) a b c n p q r = absurd (omega arith)
map_three f (x ∷ y ∷ []) a b c n p q r = absurd (omega arith)
map_three f (x ∷ y ∷ z ∷ []) a b c n p q r = rw (p, q, r) refl
map_three f (x ∷ y ∷ z ∷ w ∷ xs) a b c n p q r = absurd (omega arith)

pub three_as : (words : List (List ℕ)) (a b c x y z : List ℕ) → words ≡ a ∷ b ∷ c ∷ [] → x ≡ a → y ≡ b → z ≡ c → words ≡ x ∷ y ∷ z ∷ []
three_as words a b c x y z is p q r = rw (p, q, r) is

-- the words behind the first name a journal and a port
pub names_led : (wanted first journal port : List ℕ) (names : EndNames) → IsLedBy wanted names (first ∷ journal ∷ port ∷ []) → AreNames names journal port
names_led wanted first journal port names led =
    let is = led.words_are in
    let journal_is : journal ≡ names.journal = cc in
    let port_is : port ≡ names.port = cc in
    record { journal_is = journal_is; port_is = port_is; journal_name = led.journal_name; port_name = led.port_name }

-- the words are those of neither end
pub no_end : (words : List (List ℕ)) → ((names : EndNames) → SpellsEnd Supplier names words → ⊥) → ((names : EndNames) → SpellsEnd Receiver names words → ⊥) → AsksEnd words → ⊥
no_end words none nor (Supplier, names, spells) = none names spells
no_end words none nor (Receiver, names, spells) = nor names spells
