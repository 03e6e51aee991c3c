-- Taking leaves deliveries alone of which no set was heard.
use Rattle.std.proofs.Common.{◌≡◌, ◌+◌, ℕ, Bool, true, false, if◌then◌else◌, List, [], ◌∷◌, ◌++◌, Option, Some, None, refl, sym, ap, subst, ◌∙◌, inl, inr, append-nil}
use Rattle.std.specs.Str.{bytes_eq}
use Rattle.std.specs.List.{cons_option}
use Rattle.std.proofs.lemmas.Slice.Eq.{bytes_eq-Decides}
use Rattle.std.proofs.lemmas.Bool.{cases_Bool}
use Rattle.std.proofs.lemmas.List.Elements.{filter_map-append}
use Rattle.dsd_values.specs.declared.role.Role.{Role}
use Rattle.dsd_record.specs.ReadSets.{set_in}
use Rattle.dsd_record.specs.declared.set_view.SetView.{SetView}
use Rattle.dsd_journal.specs.declared.entry.Entry.{Entry}
use Rattle.dxs_envelope.specs.declared.fault.EnvelopeFault.{EnvelopeFault}
use Rattle.delivery_book.specs.Deeds.{deed_of, deed_with, deeds_of, number_in, of_delivery, proposes}
use Rattle.delivery_book.specs.Refusals.{was_taken}
use Rattle.delivery_book.proofs.Grown.{of_other}
use Rattle.delivery_book.proofs.Listed.{deeds_more}
use Rattle.own_turn.specs.DueSets.{Asked, asked_of, with_known, with_known_set}
use Rattle.own_turn.specs.OwnTurn.{Desk, InTurn, Takes, TakesSet, lent, sets_lent, took, with_fault}
use Rattle.clean_sessions.specs.Untouched.{AreOther, IsOther, IsUntouched}
use Rattle.clean_sessions.proofs.AskedApart.{other_asked}
use Rattle.clean_sessions.proofs.BoolTests.{never_both}

-- ---- deeds

module _ (number : List ℕ) (entries : List Entry) (entry : Entry) where
  entry_by : (set : Option SetView) → set_in entry.payload ≡ set → IsOther number entry.payload → of_delivery number (deeds_of (entries ++ entry ∷ [])) ≡ of_delivery number (deeds_of entries)
  entry_by None e other =
      ap (of_delivery number)
      (filter_map-append deed_of entries (entry ∷ []) ∙ ap (λ (o : Option SetView). deeds_of entries ++ cons_option (deed_with entry o) []) e ∙ append-nil (deeds_of entries))
  entry_by (Some set) e other =
      ap (of_delivery number) (deeds_more entries entry set e)
      ∙ of_other number (deeds_of entries) (record { kind = entry.kind; text = entry.payload; set = set })
      (λ same. never_both _ ((bytes_eq-Decides (number_in set) number).1 same) (other set e))

  pub entry_other : IsOther number entry.payload → of_delivery number (deeds_of (entries ++ entry ∷ [])) ≡ of_delivery number (deeds_of entries)
  entry_other other = entry_by (set_in entry.payload) refl other

-- ---- what due sets ask

pub asked_number : (key : List ℕ) (all : List Asked) → (asked_of key all).number ≡ key
asked_number key [] = refl
asked_number key (first ∷ more) = elim (cases_Bool (bytes_eq first.number key)) [
  | inl same ↦ subst (λ (b : Bool). let a : Asked = (if b then first else asked_of key more) in a.number ≡ key) (sym same) ((bytes_eq-Decides first.number key).0 same)
  | inr differs ↦ subst (λ (b : Bool). let a : Asked = (if b then first else asked_of key more) in a.number ≡ key) (sym differs) (asked_number key more)
]

known_other : (number key : List ℕ) (all : List Asked) → bytes_eq key number ≡ false → asked_of number (with_known all key) ≡ asked_of number all
known_other number key all differs =
    other_asked all (record (asked_of key all) { since = true; met = true }) number (ap (λ (n : List ℕ). bytes_eq n number) (asked_number key all) ∙ differs)

known_if : (test : Bool) (number key : List ℕ) (all : List Asked) → bytes_eq key number ≡ false → asked_of number (if test then with_known all key else all) ≡ asked_of number all
known_if true number key all differs = known_other number key all differs
known_if false number key all differs = refl

known_set_other : (number text : List ℕ) (all : List Asked) (set : Option SetView) → set_in text ≡ set → IsOther number text → asked_of number (with_known_set all set) ≡ asked_of number all
known_set_other number text all None e other = refl
known_set_other number text all (Some set) e other = known_if (proposes set) number (number_in set) all (other set e)

-- ---- steps

pub nothing_touched : (number : List ℕ) (desk : Desk) → IsUntouched number desk desk
nothing_touched number desk = record { deeds = refl; asked = refl }

pub then_untouched : (number : List ℕ) (a b c : Desk) → IsUntouched number a b → IsUntouched number b c → IsUntouched number a c
then_untouched number a b c first second = record { deeds = second.deeds ∙ first.deeds; asked = second.asked ∙ first.asked }

module _ (role : Role) (number : List ℕ) where
  passed_if : (known : Bool) (desk : Desk) (text : List ℕ) → IsOther number text
      → IsUntouched number desk (if known then record desk { asked = with_known_set desk.asked (set_in text) } else record desk { refused = desk.refused + 1 })
  passed_if true desk text other = record { deeds = refl; asked = known_set_other number text desk.asked (set_in text) refl other }
  passed_if false desk text other = record { deeds = refl; asked = refl }

  pub one_taken : (text : List ℕ) (old new : Desk) → IsOther number text → TakesSet role text old new → IsUntouched number old new
  one_taken text old new other (inl (legal, e)) =
      subst (IsUntouched number old) (sym e) (record { deeds = entry_other number old.entries (took text) other; asked = refl })
  one_taken text old new other (inr (illegal, e)) = subst (IsUntouched number old) (sym e) (passed_if (was_taken text old.entries) old text other)

  each_taken : (texts : List (List ℕ)) (old new : Desk) → AreOther number texts → InTurn (TakesSet role) texts old new → IsUntouched number old new
  each_taken [] old new others e = subst (IsUntouched number old) (sym e) (nothing_touched number old)
  each_taken (text ∷ more) old new others (next, one, rest) =
      then_untouched number old next new (one_taken text old next others.0 one) (each_taken more next new others.1 rest)

  pub fault_left : (fault : Option EnvelopeFault) (desk : Desk) → IsUntouched number desk (with_fault desk fault)
  fault_left None desk = record { deeds = refl; asked = refl }
  fault_left (Some fault) desk = record { deeds = refl; asked = refl }

  pub taking_untouched : (text : List ℕ) (old new : Desk) → AreOther number (sets_lent text) → Takes role text old new → IsUntouched number old new
  taking_untouched text old new others (behind, each, e) =
      subst (IsUntouched number old) (sym e) (then_untouched number old behind _ (each_taken (sets_lent text) old behind others each) (fault_left (lent text).fault behind))
