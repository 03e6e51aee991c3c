-- The last deed of a delivery in a legal list: those before it are proposals, and allow it.
use Rattle.std.proofs.Common.{◌≡◌, ◌⊎◌, ◌≤◌, ◌+◌, ℕ, zero, suc, Bool, true, false, not, ◌&&◌, cond, nat_lt, is_none, length, List, [], ◌∷◌, ◌++◌, Option, Some, None, refl, sym, ap, subst, ◌∙◌, inl, inr, append_assoc, append-nil, arith}
use Rattle.std.specs.Str.{bytes_eq}
use Rattle.std.specs.List.{filter}
use Rattle.std.proofs.lemmas.Bool.{cases_Bool}
use Rattle.std.proofs.lemmas.Bool.Decides.{nat_tests}
use Rattle.std.proofs.lemmas.List.Elements.{filter-append}
use Rattle.std.proofs.lemmas.Slice.Eq.{bytes_eq-Decides}
use Rattle.dsd_values.specs.declared.role.Role.{Role}
use Rattle.dsd_values.specs.declared.role.Role.TheVariants.{Receiver, Supplier}
use Rattle.dsd_record.specs.declared.set_view.SetView.{SetView}
use Rattle.dsd_record.specs.declared.set_view.SetView.TheVariants as sets
use Rattle.dsd_record.proofs.ReadOnce.{set_in_is}
use Rattle.dsd_journal.specs.declared.entry.Entry.{Entry}
use Rattle.dsd_journal.specs.declared.entry.EntryKind.{EntryKind}
use Rattle.dsd_journal.specs.declared.entry.EntryKind.TheVariants.{Signed, Took}
use Rattle.delivery_book.specs.Deeds.{Deed, deeds_of, first_of, is_signed, level_in, number_in, of_delivery, other_kind, other_role, proposes, signer_of}
use Rattle.delivery_book.specs.Lookups.{awaits_us, is_taken}
use Rattle.delivery_book.specs.Refusals.{is_role}
use Rattle.delivery_book.specs.Signing.{Allows, AllowsSet, Legal, LegalFrom}
use Rattle.delivery_book.specs.Standing.{acceptance_of, higher, highest, highest_of}
use Rattle.delivery_book.proofs.Grown.{of_other, of_own}
use Rattle.delivery_book.proofs.Listed.{deeds_more}
use Rattle.clean_sessions.specs.DeedShapes.{AreInTurn, first_kind, place_of}
use Rattle.clean_sessions.proofs.BoolTests.{never_both}
use Rattle.clean_sessions.proofs.MirroredDeeds.{allowed_alike}

-- ---- a delivery once more

of_step : (number : List ℕ) (deed : Deed) (deeds : List Deed) (b : Bool) → bytes_eq (number_in deed.set) number ≡ b → of_delivery number (of_delivery number deeds) ≡ of_delivery number deeds
    → of_delivery number (cond b (deed ∷ of_delivery number deeds) (of_delivery number deeds)) ≡ cond b (deed ∷ of_delivery number deeds) (of_delivery number deeds)
of_step number deed deeds true e ih = ap (λ (b : Bool). cond b (deed ∷ of_delivery number (of_delivery number deeds)) (of_delivery number (of_delivery number deeds))) e ∙ ap (λ (l : List Deed). deed ∷ l) ih
of_step number deed deeds false e ih = ih

pub of_twice : (number : List ℕ) (deeds : List Deed) → of_delivery number (of_delivery number deeds) ≡ of_delivery number deeds
of_twice number [] = refl
of_twice number (deed ∷ deeds) = of_step number deed deeds (bytes_eq (number_in deed.set) number) refl (of_twice number deeds)

-- ---- the last one

pub record EndsWith (role : Role) (number : List ℕ) (deeds front : List Deed) (last : Deed) : Type 0 where
  pub is : deeds ≡ front ++ last ∷ []
  pub its : number_in last.set ≡ number
  pub own : of_delivery number front ≡ front
  pub allowed : AllowsSet role front last.kind last.set

abbrev pub IsLaid : Role → List ℕ → List Deed → Type 0
IsLaid role number deeds = (deeds ≡ []) ⊎ ((front : List Deed) × (last : Deed) × EndsWith role number deeds front last)

one_laid : (role : Role) (before : List Entry) (entry : Entry) (number : List ℕ) → IsLaid role number (of_delivery number (deeds_of before)) → Allows role before entry
    → IsLaid role number (of_delivery number (deeds_of (before ++ entry ∷ [])))
one_laid role before entry number laid a =
    let deed : Deed = record { kind = entry.kind; text = entry.payload; set = a.set } in
    subst (λ (l : List Deed). IsLaid role number (of_delivery number l)) (sym (deeds_more before entry a.set (set_in_is entry.payload a.set a.is_set)))
    (elim (cases_Bool (bytes_eq (number_in a.set) number)) [
      | inl same ↦
          let equal : number_in a.set ≡ number = (bytes_eq-Decides (number_in a.set) number).0 same in
          inr (
            of_delivery number (deeds_of before),
            deed,
            record {
              is = of_own number (deeds_of before) deed equal;
              its = equal;
              own = of_twice number (deeds_of before);
              allowed = allowed_alike role (deeds_of before) (of_delivery number (deeds_of before)) entry.kind a.set
                  (subst (λ (n : List ℕ). of_delivery n (deeds_of before) ≡ of_delivery n (of_delivery number (deeds_of before))) (sym equal) (sym (of_twice number (deeds_of before)))) a.allowed;
            },
          )
      | inr differs ↦
          subst (IsLaid role number) (sym (of_other number (deeds_of before) deed (λ same. never_both _ ((bytes_eq-Decides (number_in a.set) number).1 same) differs))) laid
    ])

laid_from : (role : Role) (before entries : List Entry) (number : List ℕ) → IsLaid role number (of_delivery number (deeds_of before)) → LegalFrom role before entries
    → IsLaid role number (of_delivery number (deeds_of (before ++ entries)))
laid_from role before [] number laid legal = subst (λ (l : List Entry). IsLaid role number (of_delivery number (deeds_of l))) (sym (append-nil before)) laid
laid_from role before (entry ∷ entries) number laid legal =
    subst (λ (l : List Entry). IsLaid role number (of_delivery number (deeds_of l))) (append_assoc before (entry ∷ []) entries)
    (laid_from role (before ++ entry ∷ []) entries number (one_laid role before entry number laid legal.0) legal.1)

pub legal_laid : (role : Role) (entries : List Entry) (number : List ℕ) → Legal role entries → IsLaid role number (of_delivery number (deeds_of entries))
legal_laid role entries number legal = laid_from role [] entries number (inl refl) legal

-- ---- those before it propose

abbrev pub AllPropose : List Deed → Type 0
AllPropose [] = Unit {0}
AllPropose (deed ∷ deeds) = (proposes deed.set ≡ true) × AllPropose deeds

none_in : (t : Bool) (deed : Deed) (deeds : List Deed) → first_of (cond (not t) (deed ∷ deeds) deeds) ≡ None → (t ≡ true) × (first_of deeds ≡ None)
none_in true deed deeds e = (refl, e)
none_in false deed deeds e = absurd (cc)

all_propose : (deeds : List Deed) → first_of (filter (λ (d : Deed). not (proposes d.set)) deeds) ≡ None → AllPropose deeds
all_propose [] e = tt
all_propose (deed ∷ deeds) e =
    let here = none_in (proposes deed.set) deed (filter (λ (d : Deed). not (proposes d.set)) deeds) e in
    (here.0, all_propose deeds here.1)

allowed_behind : (role : Role) (number : List ℕ) (front : List Deed) (kind : EntryKind) (set : SetView) → number_in set ≡ number → of_delivery number front ≡ front → AllowsSet role front kind set → AllPropose front
allowed_behind role number front kind (sets.Base base seal) same own a =
    let none : front ≡ [] = sym own ∙ subst (λ (n : List ℕ). of_delivery n front ≡ []) same a.new in
    subst AllPropose (sym none) tt
allowed_behind role number front kind (sets.Answer answer seal) same own a =
    all_propose front (sym (ap (λ (l : List Deed). first_of (filter (λ (d : Deed). not (proposes d.set)) l)) own) ∙ subst (λ (n : List ℕ). acceptance_of n front ≡ None) same a.standing)

pub front_proposes : (role : Role) (number : List ℕ) (deeds front : List Deed) (last : Deed) → EndsWith role number deeds front last → AllPropose front
front_proposes role number deeds front last e = allowed_behind role number front last.kind last.set e.its e.own e.allowed

-- ---- the acceptance

pub none_accepting : (front : List Deed) → AllPropose front → filter (λ (d : Deed). not (proposes d.set)) front ≡ []
none_accepting [] all = refl
none_accepting (deed ∷ deeds) all =
    ap (λ (t : Bool). cond (not t) (deed ∷ filter (λ (d : Deed). not (proposes d.set)) deeds) (filter (λ (d : Deed). not (proposes d.set)) deeds)) all.0
    ∙ none_accepting deeds all.1

all_proposing : (deeds : List Deed) → AllPropose deeds → filter (λ (d : Deed). proposes d.set) deeds ≡ deeds
all_proposing [] all = refl
all_proposing (deed ∷ deeds) all =
    ap (λ (t : Bool). cond t (deed ∷ filter (λ (d : Deed). proposes d.set) deeds) (filter (λ (d : Deed). proposes d.set) deeds)) all.0
    ∙ ap (λ (l : List Deed). deed ∷ l) (all_proposing deeds all.1)

last_accepts : (front : List Deed) (last : Deed) → AllPropose front → first_of (filter (λ (d : Deed). not (proposes d.set)) (front ++ last ∷ [])) ≡ cond (proposes last.set) None (Some last)
last_accepts front last all =
    ap first_of (
    filter-append (λ (d : Deed). not (proposes d.set)) front (last ∷ [])
    ∙ ap (λ (l : List Deed). l ++ filter (λ (d : Deed). not (proposes d.set)) (last ∷ [])) (none_accepting front all)
    ) ∙ by (proposes last.set)
  where
    by : (t : Bool) → first_of (cond (not t) (last ∷ []) []) ≡ cond t None (Some last)
    by true = refl
    by false = refl

pub acceptance_is_last : (role : Role) (number : List ℕ) (entries : List Entry) (front : List Deed) (last : Deed) → EndsWith role number (of_delivery number (deeds_of entries)) front last
    → acceptance_of number (deeds_of entries) ≡ cond (proposes last.set) None (Some last)
acceptance_is_last role number entries front last e =
    ap (λ (l : List Deed). first_of (filter (λ (d : Deed). not (proposes d.set)) l)) e.is ∙ last_accepts front last (front_proposes role number _ front last e)

pub none_accepted : (number : List ℕ) (entries : List Entry) → of_delivery number (deeds_of entries) ≡ [] → acceptance_of number (deeds_of entries) ≡ None
none_accepted number entries none = ap (λ (l : List Deed). first_of (filter (λ (d : Deed). not (proposes d.set)) l)) none

-- ---- places and kinds

abbrev pub kind_at : EntryKind → ℕ → EntryKind
kind_at kind zero = kind
kind_at kind (suc n) = kind_at (other_kind kind) n

kind_more : (kind : EntryKind) (n : ℕ) → kind_at (other_kind kind) n ≡ other_kind (kind_at kind n)
kind_more kind zero = refl
kind_more kind (suc n) = kind_more (other_kind kind) n

pub last_kind : (kind : EntryKind) (n : ℕ) (front : List Deed) (last : Deed) → AreInTurn kind n (front ++ last ∷ []) → last.kind ≡ kind_at kind (length front)
last_kind kind n [] last turns = turns.0
last_kind kind n (deed ∷ front) last turns = last_kind (other_kind kind) (n + 1) front last turns.2

pub last_place : (kind : EntryKind) (n : ℕ) (front : List Deed) (last : Deed) → AreInTurn kind n (front ++ last ∷ []) → place_of last ≡ n + length front
last_place kind n [] last turns = let at = turns.1 in omega (arith, at)
last_place kind n (deed ∷ front) last turns = let at = last_place (other_kind kind) (n + 1) front last turns.2 in omega (arith, at)

other_side : (kind : EntryKind) → is_signed (other_kind kind) ≡ not (is_signed kind)
other_side Signed = refl
other_side Took = refl

pub side_of_other : (role other : Role) → is_role (other_role other) role ≡ not (is_role other role)
side_of_other Supplier Supplier = refl
side_of_other Supplier Receiver = refl
side_of_other Receiver Supplier = refl
side_of_other Receiver Receiver = refl

-- whose the set at a place is
pub kind_side : (role : Role) (n : ℕ) → is_signed (kind_at (first_kind role) n) ≡ is_role (signer_of n) role
kind_side Supplier zero = refl
kind_side Receiver zero = refl
kind_side role (suc n) =
    ap is_signed (kind_more (first_kind role) n) ∙ other_side (kind_at (first_kind role) n) ∙ ap not (kind_side role n) ∙ sym (side_of_other role (signer_of n))

-- ---- the highest proposal is the last one

pub level_is : (deed : Deed) → proposes deed.set ≡ true → place_of deed ≡ level_in deed.set
level_is deed e = ap (λ (t : Bool). cond t (level_in deed.set) (level_in deed.set + 1)) e

not_below : (a b : ℕ) → b ≤ a → nat_lt a b ≡ false
not_below a b le = grind (arith, nat_tests)

higher_last : (deed last : Deed) → level_in deed.set ≤ level_in last.set → higher deed (Some last) ≡ last
higher_last deed last le = ap (λ (t : Bool). cond t deed last) (not_below (level_in last.set) (level_in deed.set) le)

pub last_highest : (kind : EntryKind) (n : ℕ) (front : List Deed) (last : Deed) → AreInTurn kind n (front ++ last ∷ []) → AllPropose front → proposes last.set ≡ true → highest (front ++ last ∷ []) ≡ Some last
last_highest kind n [] last turns all proposal = refl
last_highest kind n (deed ∷ front) last turns all proposal =
    let at = last_place (other_kind kind) (n + 1) front last turns.2 in
    let here = turns.1 in
    let level = level_is last proposal in
    let first = level_is deed all.0 in
    ap (λ (o : Option Deed). let r : Option Deed = Some (higher deed o) in r) (last_highest (other_kind kind) (n + 1) front last turns.2 all.1 proposal)
    ∙ ap (λ (d : Deed). let r : Option Deed = Some d in r) (higher_last deed last (omega (arith, at, here, level, first)))

pub all_and_last : (front : List Deed) (last : Deed) → AllPropose front → proposes last.set ≡ true → AllPropose (front ++ last ∷ [])
all_and_last [] last all proposal = (proposal, tt)
all_and_last (deed ∷ front) last all proposal = (all.0, all_and_last front last all.1 proposal)

module _ (role : Role) (number : List ℕ) (entries : List Entry) (turns : AreInTurn (first_kind role) 0 (of_delivery number (deeds_of entries))) where
  pub highest_is_last : (front : List Deed) (last : Deed) → EndsWith role number (of_delivery number (deeds_of entries)) front last → proposes last.set ≡ true → highest_of number (deeds_of entries) ≡ Some last
  highest_is_last front last e proposal =
      let all = front_proposes role number _ front last e in
      ap (λ (l : List Deed). highest (filter (λ (d : Deed). proposes d.set) l)) e.is
      ∙ ap highest (all_proposing (front ++ last ∷ []) (all_and_last front last all proposal))
      ∙ last_highest (first_kind role) 0 front last (subst (AreInTurn (first_kind role) 0) e.is turns) all proposal

  -- a delivery awaits this end where its last set was taken and is a proposal
  pub awaits_last : (front : List Deed) (last : Deed) → EndsWith role number (of_delivery number (deeds_of entries)) front last → awaits_us entries number ≡ (not (is_signed last.kind) && proposes last.set)
  awaits_last front last e = by (proposes last.set) refl (acceptance_is_last role number entries front last e)
    where
      and_false : (b : Bool) → (b && false) ≡ false
      and_false true = refl
      and_false false = refl

      by : (t : Bool) → proposes last.set ≡ t → acceptance_of number (deeds_of entries) ≡ cond t None (Some last) → awaits_us entries number ≡ (not (is_signed last.kind) && t)
      by true proposal none =
          ap (λ (o : Option Deed). is_taken o && is_none (acceptance_of number (deeds_of entries))) (highest_is_last front last e proposal)
          ∙ ap (λ (o : Option Deed). not (is_signed last.kind) && is_none o) none
      by false accepting some =
          ap (λ (o : Option Deed). is_taken (highest_of number (deeds_of entries)) && is_none o) some
          ∙ and_false (is_taken (highest_of number (deeds_of entries))) ∙ sym (and_false (not (is_signed last.kind)))

  pub none_awaits : of_delivery number (deeds_of entries) ≡ [] → awaits_us entries number ≡ false
  none_awaits none = ap (λ (l : List Deed). is_taken (highest (filter (λ (d : Deed). proposes d.set) l)) && is_none (acceptance_of number (deeds_of entries))) none
