-- What is final in some deeds is final behind more of them, at the same version.
use Rattle.std.proofs.Common.{◌≡◌, ℕ, Bool, not, List, [], ◌∷◌, ◌++◌, Option, Some, None, option_and_then, filter, refl, ap, ◌∙◌}
use Rattle.std.proofs.lemmas.List.Elements.{filter-append, filter_map-append}
use Rattle.dsd_record.specs.Chain.{version_of}
use Rattle.dsd_record.specs.Version.{Version}
use Rattle.dsd_record.specs.declared.set_view.SetView.{SetView}
use Rattle.dsd_record.specs.declared.set_view.SetView.TheVariants as sets
use Rattle.dsd_journal.specs.declared.entry.Entry.{Entry}
use Rattle.delivery_book.specs.Deeds.{Deed, acceptances, check_in, deed_of, deeds_of, first_of, level_in, proposes}
use Rattle.delivery_book.specs.Finals.{Settled, accepted_by, final_by, final_in, final_of, settled_by, settled_of, settled_with}
use Rattle.delivery_book.specs.Standing.{acceptance_of, chain_to, named_of, version_to}
use Rattle.delivery_book.proofs.Agreeing.{has_final}
use Rattle.delivery_book.proofs.Chained.{chain_kept, named_kept, of_number}

-- ---- the acceptance

abbrev accepts : Deed → Bool
accepts deed = not (proposes deed.set)

acceptances_on : (number : List ℕ) (deeds more : List Deed) → acceptances number (deeds ++ more) ≡ acceptances number deeds ++ acceptances number more
acceptances_on number deeds more =
    ap (filter accepts) (filter-append (of_number number) deeds more) ∙ filter-append accepts (filter (of_number number) deeds) (filter (of_number number) more)

first_on : (deeds more : List Deed) (deed : Deed) → first_of deeds ≡ Some deed → first_of (deeds ++ more) ≡ Some deed
first_on [] more deed e = cc
first_on (d ∷ deeds) more deed e = e

pub acceptance_kept : (number : List ℕ) (deeds more : List Deed) (a : Deed) → acceptance_of number deeds ≡ Some a → acceptance_of number (deeds ++ more) ≡ Some a
acceptance_kept number deeds more a e = ap first_of (acceptances_on number deeds more) ∙ first_on (acceptances number deeds) (acceptances number more) a e

-- ---- what it settles

module _ (number : List ℕ) (deeds more : List Deed) (s : Settled) where
  with_kept : (a : Deed) (o o' : Option Deed) → ((p : Deed) → o ≡ Some p → o' ≡ Some p) → settled_with o a ≡ Some s → settled_with o' a ≡ Some s
  with_kept a (Some p) o' same e = ap (λ (o : Option Deed). settled_with o a) (same p refl) ∙ e
  with_kept a None o' same e = cc

  by_kept : (a : Deed) (set : SetView) → settled_with (accepted_by set number deeds) a ≡ Some s → settled_with (accepted_by set number (deeds ++ more)) a ≡ Some s
  by_kept a (sets.Base base seal) e = cc
  by_kept a (sets.Answer answer seal) e =
      with_kept a (named_of number answer.level answer.check deeds) (named_of number answer.level answer.check (deeds ++ more)) (named_kept number answer.level answer.check deeds more) e

  settled_step : (o : Option Deed) → acceptance_of number deeds ≡ o → settled_by o number deeds ≡ Some s → settled_of number (deeds ++ more) ≡ Some s
  settled_step (Some a) found e = ap (λ (o : Option Deed). settled_by o number (deeds ++ more)) (acceptance_kept number deeds more a found) ∙ by_kept a a.set e
  settled_step None found e = cc

  settled_kept : settled_of number deeds ≡ Some s → settled_of number (deeds ++ more) ≡ Some s
  settled_kept e = settled_step (acceptance_of number deeds) refl e

-- ---- its version

then_kept : {X Y : Type 0} (f : X → Option Y) (o o' : Option X) → ((x : X) → o ≡ Some x → o' ≡ Some x) → (y : Y) → option_and_then f o ≡ Some y → option_and_then f o' ≡ Some y
then_kept f (Some x) o' same y e = ap (option_and_then f) (same x refl) ∙ e
then_kept f None o' same y e = cc

pub version_kept : (number : List ℕ) (deeds more : List Deed) (level check : ℕ) (version : Version) → version_to number deeds level check ≡ Some version → version_to number (deeds ++ more) level check ≡ Some version
version_kept number deeds more level check version e =
    then_kept version_of (chain_to number deeds level check) (chain_to number (deeds ++ more) level check) (chain_kept number deeds more level check) version e

pub final_kept : (deeds more : List Deed) (number : List ℕ) (version : Version) → final_in deeds number ≡ Some version → final_in (deeds ++ more) number ≡ Some version
final_kept deeds more number version e =
    let f = has_final number deeds version e in
    ap (λ (o : Option Settled). final_by o number (deeds ++ more)) (settled_kept number deeds more f.settled f.found)
    ∙ version_kept number deeds more (level_in f.settled.proposal.set) (check_in f.settled.proposal.set) version f.made

-- ---- entries

pub finals_kept : (entries more : List Entry) (number : List ℕ) (version : Version) → final_of entries number ≡ Some version → final_of (entries ++ more) number ≡ Some version
finals_kept entries more number version e =
    ap (λ (deeds : List Deed). final_in deeds number) (filter_map-append deed_of entries more) ∙ final_kept (deeds_of entries) (deeds_of more) number version e
