-- The first set of a delivery is the draft that its supplier chose, and the version that this makes.
use Rattle.std.proofs.Common.{◌≡◌, ◌≤◌, ℕ, List, [], ◌∷◌, ◌++◌, Option, Some, refl, sym, ap, subst, ◌∙◌, inl, inr}
use Rattle.std.specs.Option.{option_and_then, option_map}
use Rattle.std.specs.Result.{result_ok}
use Rattle.dsd_values.specs.declared.role.Role.{Role}
use Rattle.dsd_pricing.specs.Pricing.{quantities}
use Rattle.dsd_pricing.specs.declared.amounts.Totals.{Totals}
use Rattle.transaction_set.specs.declared.seal.Seal.{Seal}
use Rattle.base_record_894.specs.BaseRecord.{BaseRecord}
use Rattle.base_record_894.specs.RecordText.{Is894}
use Rattle.base_record_894.specs.WrittenText.{seal_of}
use Rattle.base_record_894.proofs.WrittenBack.{written_back}
use Rattle.dsd_record.specs.Chain.{chain_from, version_of, version_with}
use Rattle.dsd_record.specs.Choices.{Chooser}
use Rattle.dsd_record.specs.ReadSets.{set_in}
use Rattle.dsd_record.specs.SetTexts.{IsSet}
use Rattle.dsd_record.specs.Version.{Version}
use Rattle.dsd_record.specs.declared.set_view.SetView.{SetView}
use Rattle.dsd_record.specs.declared.set_view.SetView.TheVariants as sets
use Rattle.dsd_record.proofs.ReadOnce.{set_in_is}
use Rattle.dsd_journal.specs.declared.entry.Entry.{Entry}
use Rattle.dsd_journal.specs.declared.entry.EntryKind.TheVariants.{Signed}
use Rattle.delivery_book.specs.Deeds.{Deed, deeds_of, number_in, of_delivery}
use Rattle.delivery_book.specs.Lookups.{seen_of}
use Rattle.delivery_book.specs.Signing.{Allows, AllowsBase, AllowsSet, Legal, next_control}
use Rattle.delivery_book.specs.Standing.{chain_at_base, version_at}
use Rattle.delivery_book.proofs.Chained.{named_new}
use Rattle.delivery_book.proofs.Grown.{legal_last, of_own}
use Rattle.delivery_book.proofs.Listed.{deeds_more}
use Rattle.delivery_book.proofs.Members.{from_contains}
use Rattle.delivery_book.proofs.Standings.{none_of_new}
use Rattle.own_turn.specs.Choosing.{Chosen, ChoosesAnswer, ChoosesDraft}
use Rattle.own_turn.specs.OwnTurn.{StaysLegal, signed}
use Rattle.clean_sessions.specs.ChosenAnswers.{ChoosesRightly, but_for_check, nine_digits}
use Rattle.clean_sessions.proofs.BoolTests.{never_both}
use Rattle.clean_sessions.proofs.DeedsInTurn.{legal_turns}
use Rattle.clean_sessions.proofs.FrontsSeen.{last_top}
use Rattle.clean_sessions.proofs.LastDeeds.{none_awaits}
use Rattle.clean_sessions.proofs.OwnSets.{each_base, signs_sets}

some_set : (a b : SetView) → (let r : Option SetView = Some a in r) ≡ Some b → a ≡ b
some_set a b e = cc

some_version : (a b : Version) → (let r : Option Version = Some a in r) ≡ Some b → a ≡ b
some_version a b e = cc

-- ---- the draft that was chosen

pub record IsDraftSaid (chooser : Chooser) (before : List Entry) (number text : List ℕ) (set : SetView) : Type 0 where
  pub draft : BaseRecord
  pub chosen : ChoosesDraft chooser before draft text
  pub is : set ≡ sets.Base draft (seal_of draft (next_control before))
  pub its : draft.number ≡ number

module _ (role : Role) (chooser : Chooser) (right : ChoosesRightly chooser) (before : List Entry) (number text : List ℕ) (legal : Legal role before) (stays : StaysLegal role before (signed text)) (few : next_control before ≤ nine_digits)
    (none : of_delivery number (deeds_of before) ≡ []) (set : SetView) (read : set_in text ≡ Some set) (its : number_in set ≡ number) where
  not_answer : (own : List ℕ) → ChoosesAnswer role chooser before own text → ⊥
  not_answer own c =
      let o = (signs_sets role chooser right.drafts).answers before own text legal (record { chosen = c; legal = stays }) in
      let same : own ≡ number = sym o.its ∙ ap number_in (some_set o.set set (sym o.read ∙ read)) ∙ its in
      let awaits = (subst (λ (n : List ℕ). ChoosesAnswer role chooser before n text) same c).awaits in
      never_both _ awaits (none_awaits role number before (legal_turns role before number legal) none)

  pub first_draft : Chosen role chooser before text → IsDraftSaid chooser before number text set
  first_draft (inr (own, c)) = absurd (not_answer own c)
  first_draft (inl (draft, c)) =
      let o = (signs_sets role chooser right.drafts).drafts before draft text legal (record { chosen = c; legal = stays }) in
      let base = each_base chooser.drafts draft right.drafts (from_contains chooser.drafts draft c.among) in
      let back = written_back draft (next_control before) text few base c.written in
      record {
        draft = draft;
        chosen = c;
        is = some_set set (sets.Base draft (seal_of draft (next_control before))) (sym read ∙ set_in_is text (sets.Base draft (seal_of draft (next_control before))) back.spelled);
        its = sym o.its ∙ ap number_in (some_set o.set set (sym o.read ∙ read)) ∙ its;
      }

-- ---- the version of a base record

module _ (role : Role) (number : List ℕ) (before : List Entry) (text : List ℕ) (legal : Legal role before) (stays : StaysLegal role before (signed text)) (base : BaseRecord) (seal : Seal) (read : set_in text ≡ Some (sets.Base base seal)) (its : base.number ≡ number) where
  abbrev deed : Deed
  deed = record { kind = Signed; text = text; set = sets.Base base seal }

  abbrev deeds : List Deed
  deeds = deeds_of before

  abbrev more : List Entry
  more = before ++ signed text ∷ []

  allows : Allows role before (signed text)
  allows = legal_last role before (signed text) stays

  same : allows.set ≡ sets.Base base seal
  same = some_set allows.set (sets.Base base seal) (sym (set_in_is text allows.set allows.is_set) ∙ read)

  is : Is894 base seal text
  is = subst (λ (s : SetView). IsSet s text) same allows.is_set

  allowed : AllowsBase role deeds Signed base
  allowed = subst (AllowsSet role deeds Signed) same allows.allowed

  deeds_now : deeds_of more ≡ deeds ++ deed ∷ []
  deeds_now = deeds_more before (signed text) (sets.Base base seal) read

  pub of_first : of_delivery number (deeds_of more) ≡ of_delivery number deeds ++ deed ∷ []
  of_first = ap (of_delivery number) deeds_now ∙ of_own number deeds deed its

  abbrev totals : Totals
  totals = record { quantity = quantities base.lines; amount = is.amount }

  version_made : (check : ℕ) → version_of (chain_from base check) ≡ Some (version_with (chain_from base check) totals)
  version_made check = ap (λ (r : _). option_map (version_with (chain_from base check)) (result_ok r)) is.price

  at : version_at (deeds ++ deed ∷ []) deed ≡ Some (version_with (chain_from base seal.check) totals)
  at =
      let named = named_new base.number 0 seal.check deeds deed refl refl refl refl (λ p i l. none_of_new base.number deeds p allowed.new i.among i.number) in
      ap (option_and_then version_of) (ap chain_at_base named) ∙ version_made seal.check

  pub record IsSeenFirst (made : Version) : Type 0 where
    pub version : Version
    pub seen : seen_of more number ≡ Some version
    pub same : but_for_check version ≡ made

  pub seen_first : (made : Version) → version_of (chain_from base 0) ≡ Some made → IsSeenFirst made
  seen_first made is_made =
      let top = last_top role number more stays (of_delivery number deeds) deed of_first refl in
      record {
        version = version_with (chain_from base seal.check) totals;
        seen = ap (option_and_then (version_at (deeds_of more))) top ∙ ap (λ (l : List Deed). version_at l deed) deeds_now ∙ at;
        same = some_version (version_with (chain_from base 0) totals) made (sym (version_made 0) ∙ is_made);
      }
