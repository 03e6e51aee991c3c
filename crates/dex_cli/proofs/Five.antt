-- A list of five words, by its elements.
use Rattle.std.proofs.Common.{◌≡◌, ℕ, true, List, [], ◌∷◌, length, map, get_or, codes, refl, ◌∙◌, arith, Result, Ok, Err, IfOk, IsErrOf}
use Rattle.std.specs.Str.{bytes_eq}
use Rattle.std.proofs.lemmas.Slice.Eq.{bytes_eq-Decides}
use Rattle.dex_cli.specs.FormatWords.{format_words, SpellsNew, SpellsFormat}
use Rattle.dex_cli.specs.declared.fault.WordsFault.{WordsFault}
use Rattle.dex_cli.specs.declared.fault.WordsFault.TheVariants.{Memory}
use Rattle.dex_cli.specs.declared.format_words.NewJournal.{NewJournal}

pub map_five : {X Y : Type 0} (f : X → Y) (xs : List X) (a b c d e : X) → length xs ≡ 5 → a ≡ get_or xs 0 a → b ≡ get_or xs 1 b → c ≡ get_or xs 2 c → d ≡ get_or xs 3 d → e ≡ get_or xs 4 e
    → map f xs ≡ f a ∷ f b ∷ f c ∷ f d ∷ f e ∷ []
map_five f [] a b c d e n p q r s t = absurd (omega arith)
map_five f (v ∷ []) a b c d e n p q r s t = absurd (omega arith)
map_five f (v ∷ w ∷ []) a b c d e n p q r s t = absurd (omega arith)
map_five f (v ∷ w ∷ x ∷ []) a b c d e n p q r s t = absurd (omega arith)
map_five f (v ∷ w ∷ x ∷ y ∷ []) a b c d e n p q r s t = absurd (omega arith)
map_five f (v ∷ w ∷ x ∷ y ∷ z ∷ []) a b c d e n p q r s t = rw (p, q, r, s, t) refl
map_five f (v ∷ w ∷ x ∷ y ∷ z ∷ u ∷ xs) a b c d e n p q r s t = absurd (omega arith)

module _ (words : List (List ℕ)) (first v w x y role own peer journal : List ℕ) (is : words ≡ first ∷ v ∷ w ∷ x ∷ y ∷ []) (format : bytes_eq first (codes "format") ≡ true)
    (p : role ≡ v) (q : own ≡ w) (r : peer ≡ x) (t : journal ≡ y) where
  spells_format : (new : NewJournal) → SpellsNew new role own peer journal → SpellsFormat new words
  spells_format new s =
      let first_is : first ≡ codes "format" = (bytes_eq-Decides first (codes "format")).0 format in
      let role_is = s.header.role_is in
      let own_is = s.header.own_is in
      let peer_is = s.header.peer_is in
      let journal_is = s.journal_is in
      let same : first ∷ v ∷ w ∷ x ∷ y ∷ [] ≡ format_words new = cc in
      record { header = s.header.fits; name = s.name; words_are = is ∙ same }

  -- four words behind `format` that say a new journal
  pub five_spell : (answer : Result NewJournal WordsFault) → IfOk answer (λ new. SpellsNew new role own peer journal) → IfOk answer (λ new. SpellsFormat new words)
  five_spell (Err fault) s = tt
  five_spell (Ok new) s = spells_format new s

  pub five_want : (answer : Result NewJournal WordsFault) → (IsErrOf answer Memory → (new : NewJournal) × SpellsNew new role own peer journal) → IsErrOf answer Memory
      → (new : NewJournal) × SpellsFormat new words
  five_want answer want is_memory = let said = want is_memory in (said.0, spells_format said.0 said.1)
