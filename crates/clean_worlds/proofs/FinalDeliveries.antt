-- A settled delivery that neither end has declined is final at both.
use Rattle.std.proofs.Common.{◌≡◌, ◌≤◌, ℕ, Bool, true, false, List, length, refl, sym, ◌∙◌, ap, subst, inl, inr}
use Rattle.std.specs.Prelude.{◌||◌, is_some}
use Rattle.std.proofs.lemmas.Bool.{cases_Bool}
use Rattle.std.proofs.lemmas.List.{length-map}
use Rattle.dsd_values.specs.declared.role.Role.TheVariants.{Receiver, Supplier}
use Rattle.dsd_record.specs.Choices.{Chooser}
use Rattle.dsd_journal.specs.declared.entry.Entry.{Entry}
use Rattle.delivery_book.specs.Deeds.{Deed, deeds_of, of_delivery}
use Rattle.delivery_book.specs.Lookups.{awaits_us}
use Rattle.delivery_book.specs.Standing.{acceptance_of}
use Rattle.clean_sessions.specs.Declining.{HasAnswered, HasDeclined}
use Rattle.clean_sessions.specs.DeliveryStands.{sets_in}
use Rattle.clean_sessions.specs.Settled.{IsSettled}
use Rattle.clean_worlds.specs.Healing.{IsFinalUnlessDeclined}

either : (a b : Bool) → (a || b) ≡ true → (a ≡ true → ⊥) → (b ≡ true → ⊥) → ⊥
either true b e not_a not_b = not_a refl
either false b e not_a not_b = not_b e

module _ (supplier receiver : Chooser) (number : List ℕ) (one other : List Entry) (settled : IsSettled number one other) (its : HasAnswered Supplier supplier one) (those : HasAnswered Receiver receiver other) where
  -- both lists have as many sets of it
  same_count : sets_in number one ≡ sets_in number other
  same_count =
      sym (length-map (of_delivery number (deeds_of one)) (λ (deed : Deed). deed.text)) ∙ ap length settled.same ∙ length-map (of_delivery number (deeds_of other)) (λ (deed : Deed). deed.text)

  accepted : 1 ≤ sets_in number one → (HasDeclined Supplier supplier number one → ⊥) → (HasDeclined Receiver receiver number other → ⊥) → is_some (acceptance_of number (deeds_of one)) ≡ true
  accepted known not_its not_those = elim (cases_Bool (is_some (acceptance_of number (deeds_of one)))) [
    | inl is ↦ is
    | inr none ↦
        absurd
        (either (awaits_us one number) (awaits_us other number) (settled.awaits none known) (λ awaits. not_its (its.declines number awaits)) (λ awaits. not_those (those.declines number awaits)))
  ]

  pub final_unless : IsFinalUnlessDeclined supplier receiver number one other
  final_unless = record {
    final = λ known not_its not_those. settled.final ∙ accepted known not_its not_those;
    their_final = λ known not_its not_those.
        settled.their_final ∙ sym settled.accepted ∙ accepted (subst (λ (n : ℕ). 1 ≤ n) (sym same_count) known) not_its not_those;
  }
