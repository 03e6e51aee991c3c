-- Two words that spell a `show`.
use Rattle.std.proofs.Common.{◌≡◌, ℕ, true, List, [], ◌∷◌, codes, sym, ◌∙◌, subst, Result, Ok, Err, IfOk, IsErrOf}
use Rattle.std.specs.Str.{bytes_eq}
use Rattle.std.proofs.lemmas.Slice.Eq.{bytes_eq-Decides}
use Rattle.dex_cli.specs.Names.{IsName}
use Rattle.dex_cli.specs.Words.{show_words, SpellsShow}
use Rattle.dex_cli.specs.declared.fault.WordsFault.{WordsFault}
use Rattle.dex_cli.specs.declared.fault.WordsFault.TheVariants.{Memory}

module _ (words : List (List ℕ)) (first second journal : List ℕ) (is : words ≡ first ∷ second ∷ []) (show : bytes_eq first (codes "show") ≡ true) (same : journal ≡ second) where
  spells : IsName journal → SpellsShow journal words
  spells name =
      let first_is : first ≡ codes "show" = (bytes_eq-Decides first (codes "show")).0 show in
      let both : first ∷ second ∷ [] ≡ show_words journal = cc in
      record { name = name; words_are = is ∙ both }

  pub show_spells : (answer : Result (List ℕ) WordsFault) → IfOk answer (λ name. name ≡ journal) → IfOk answer IsName → IfOk answer (λ name. SpellsShow name words)
  show_spells (Err fault) found name = tt
  show_spells (Ok other) found name = subst (λ (n : List ℕ). SpellsShow n words) (sym found) (spells (subst IsName found name))

  pub show_wants : (answer : Result (List ℕ) WordsFault) → (IsErrOf answer Memory → IsName journal) → IsErrOf answer Memory → (name : List ℕ) × SpellsShow name words
  show_wants answer want memory = (journal, spells (want memory))
