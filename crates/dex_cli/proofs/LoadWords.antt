-- Two words that spell a `load`, and a text that is read as the route that it says.
use Rattle.std.proofs.Common.{◌≡◌, inl, inr, ℕ, true, List, [], ◌∷◌, codes, ◌∙◌, Option, Some, None, Ok, Err, IfSome}
use Rattle.std.specs.Str.{bytes_eq}
use Rattle.std.proofs.lemmas.Slice.Eq.{bytes_eq-Decides}
use Rattle.dsd_values.specs.Answers.{UnlessMemory}
use Rattle.dsd_values.specs.Reading.{number_of}
use Rattle.dsd_record.specs.declared.draft_fault.DraftFault.TheVariants as faults
use Rattle.dsd_record.specs.declared.draft_fault.DraftReason.{DraftReason}
use Rattle.dex_cli.specs.Words.{SpellsLoad, load_words}

module _ (words : List (List ℕ)) (first second word : List ℕ) (is : words ≡ first ∷ second ∷ []) (load : bytes_eq first (codes "load") ≡ true) (same : word ≡ second) where
  spells : (count : ℕ) → number_of 1 200 word ≡ Ok count → SpellsLoad count words
  spells count number =
      let first_is : first ≡ codes "load" = (bytes_eq-Decides first (codes "load")).0 load in
      let both : first ∷ second ∷ [] ≡ load_words word = cc in
      record { text = word; number = number; words_are = is ∙ both }

  pub load_spells : (answer : Option ℕ) → IfSome answer (λ count. number_of 1 200 word ≡ Ok count) → IfSome answer (λ count. SpellsLoad count words)
  load_spells None found = tt
  load_spells (Some count) found = spells count found

-- ---- a text that says something is read as that

pub never_refused : {X : Type 0} (place : ℕ) (reason : DraftReason) (said : X) → UnlessMemory faults.Memory (Err (faults.Refused place reason)) (Ok said) → ⊥
never_refused place reason said (inl wrong) = (let never : ⊥ = cc in never)
never_refused place reason said (inr wrong) = (let never : ⊥ = cc in never)

pub read_as : {X : Type 0} (read said : X) → UnlessMemory faults.Memory (Ok read) (Ok said) → read ≡ said
read_as read said (inl wrong) = (let never : ⊥ = cc in absurd never)
read_as read said (inr is) = cc
