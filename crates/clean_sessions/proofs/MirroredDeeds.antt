-- The deeds of a delivery as the other end has them: the same sets, each signed where this end took it. What they allow is the same.
use Rattle.std.proofs.Common.{◌≡◌, ℕ, zero, suc, Bool, true, false, not, cond, if◌then◌else◌, List, [], ◌∷◌, map, Option, Some, None, refl, sym, ap, ◌∙◌}
use Rattle.std.specs.Str.{bytes_eq}
use Rattle.std.specs.List.{filter, find}
use Rattle.std.specs.Option.{option_and_then, option_map}
use Rattle.dsd_values.specs.declared.role.Role.{Role}
use Rattle.dsd_record.specs.Chain.{Chain, version_of, with_adjusted}
use Rattle.dsd_record.specs.declared.set_view.SetView.{SetView}
use Rattle.dsd_record.specs.declared.set_view.SetView.TheVariants as sets
use Rattle.dsd_journal.specs.declared.entry.EntryKind.{EntryKind}
use Rattle.dsd_journal.specs.declared.entry.EntryKind.TheVariants.{Signed, Took}
use Rattle.delivery_book.specs.Deeds.{Deed, acceptances, check_in, first_of, level_in, number_in, of_delivery, other_kind, other_role, proposals, proposes}
use Rattle.delivery_book.specs.Signing.{AllowsSet}
use Rattle.delivery_book.specs.Standing.{acceptance_of, chain_at_base, chain_behind, chain_to, higher, highest, highest_of, is_below, is_named, longer, named_of, version_at, version_to}
use Rattle.delivery_book.proofs.Standings.{highest_is}

abbrev pub mirrored : Deed → Deed
mirrored deed = record { kind = other_kind deed.kind; text = deed.text; set = deed.set }

twice_kind : (kind : EntryKind) → other_kind (other_kind kind) ≡ kind
twice_kind Signed = refl
twice_kind Took = refl

pub twice_mirrored : (deed : Deed) → mirrored (mirrored deed) ≡ deed
twice_mirrored deed = ap (λ (k : EntryKind). let d : Deed = record { kind = k; text = deed.text; set = deed.set } in d) (twice_kind deed.kind)

-- ---- what is looked up by the sets alone

pub filter_mirrored : (f : SetView → Bool) (deeds : List Deed) → filter (λ (d : Deed). f d.set) (map mirrored deeds) ≡ map mirrored (filter (λ (d : Deed). f d.set) deeds)
filter_mirrored f [] = refl
filter_mirrored f (deed ∷ deeds) = by (f deed.set) (filter_mirrored f deeds)
  where
    by : (b : Bool) → filter (λ (d : Deed). f d.set) (map mirrored deeds) ≡ map mirrored (filter (λ (d : Deed). f d.set) deeds)
        → cond b (mirrored deed ∷ filter (λ (d : Deed). f d.set) (map mirrored deeds)) (filter (λ (d : Deed). f d.set) (map mirrored deeds)) ≡ map mirrored (cond b (deed ∷ filter (λ (d : Deed). f d.set) deeds) (filter (λ (d : Deed). f d.set) deeds))
    by true e = ap (λ (l : List Deed). mirrored deed ∷ l) e
    by false e = e

pub of_mirrored : (number : List ℕ) (deeds : List Deed) → of_delivery number (map mirrored deeds) ≡ map mirrored (of_delivery number deeds)
of_mirrored number deeds = filter_mirrored (λ (set : SetView). bytes_eq (number_in set) number) deeds

proposals_mirrored : (number : List ℕ) (deeds : List Deed) → proposals number (map mirrored deeds) ≡ map mirrored (proposals number deeds)
proposals_mirrored number deeds = ap (filter (λ (d : Deed). proposes d.set)) (of_mirrored number deeds) ∙ filter_mirrored proposes (of_delivery number deeds)

acceptances_mirrored : (number : List ℕ) (deeds : List Deed) → acceptances number (map mirrored deeds) ≡ map mirrored (acceptances number deeds)
acceptances_mirrored number deeds =
    ap (filter (λ (d : Deed). not (proposes d.set))) (of_mirrored number deeds) ∙ filter_mirrored (λ (set : SetView). not (proposes set)) (of_delivery number deeds)

-- ---- the highest

higher_mirrored : (deed : Deed) (o : Option Deed) → higher (mirrored deed) (option_map mirrored o) ≡ mirrored (higher deed o)
higher_mirrored deed None = refl
higher_mirrored deed (Some later) = by (is_below later deed)
  where
    by : (b : Bool) → (if b then mirrored deed else mirrored later) ≡ mirrored (if b then deed else later)
    by true = refl
    by false = refl

pub highest_mirrored : (deeds : List Deed) → highest (map mirrored deeds) ≡ option_map mirrored (highest deeds)
highest_mirrored [] = refl
highest_mirrored (deed ∷ deeds) =
    ap (λ (o : Option Deed). let r : Option Deed = Some (higher (mirrored deed) o) in r) (highest_mirrored deeds)
    ∙ ap (λ (d : Deed). let r : Option Deed = Some d in r) (higher_mirrored deed (highest deeds))

some_deed : (a b : Deed) → (let r : Option Deed = Some a in r) ≡ Some b → a ≡ b
some_deed a b e = cc

mirrored_back : (o : Option Deed) (deed : Deed) → option_map mirrored o ≡ Some deed → o ≡ Some (mirrored deed)
mirrored_back None deed e = absurd (cc)
mirrored_back (Some found) deed e =
    ap (λ (d : Deed). let r : Option Deed = Some d in r) (sym (twice_mirrored found) ∙ ap mirrored (some_deed (mirrored found) deed e))

highest_back : (number : List ℕ) (deeds : List Deed) (top : Deed) → highest_of number (map mirrored deeds) ≡ Some top → highest_of number deeds ≡ Some (mirrored top)
highest_back number deeds top e = mirrored_back (highest_of number deeds) top (sym (ap highest (proposals_mirrored number deeds) ∙ highest_mirrored (proposals number deeds)) ∙ e)

none_back : (deeds : List Deed) → first_of (map mirrored deeds) ≡ None → first_of deeds ≡ None
none_back [] e = refl
none_back (deed ∷ deeds) e = absurd (cc)

acceptance_back : (number : List ℕ) (deeds : List Deed) → acceptance_of number (map mirrored deeds) ≡ None → acceptance_of number deeds ≡ None
acceptance_back number deeds e = none_back (acceptances number deeds) (sym (ap first_of (acceptances_mirrored number deeds)) ∙ e)

pub new_back : (deeds : List Deed) → map mirrored deeds ≡ [] → deeds ≡ []
new_back [] e = refl
new_back (deed ∷ deeds) e = absurd (cc)

-- ---- versions

find_mirrored : (f : SetView → Bool) (deeds : List Deed) → find (λ (d : Deed). f d.set) (map mirrored deeds) ≡ option_map mirrored (find (λ (d : Deed). f d.set) deeds)
find_mirrored f [] = refl
find_mirrored f (deed ∷ deeds) = by (f deed.set) (find_mirrored f deeds)
  where
    by : (b : Bool) → find (λ (d : Deed). f d.set) (map mirrored deeds) ≡ option_map mirrored (find (λ (d : Deed). f d.set) deeds)
        → cond b (Some (mirrored deed)) (find (λ (d : Deed). f d.set) (map mirrored deeds)) ≡ option_map mirrored (cond b (Some deed) (find (λ (d : Deed). f d.set) deeds))
    by true e = refl
    by false e = e

named_mirrored : (number : List ℕ) (level check : ℕ) (deeds : List Deed) → named_of number level check (map mirrored deeds) ≡ option_map mirrored (named_of number level check deeds)
named_mirrored number level check deeds =
    ap (find (is_named level check)) (proposals_mirrored number deeds) ∙ find_mirrored (λ (set : SetView). is_named level check (record { kind = Signed; text = []; set = set })) (proposals number deeds)

base_alike : (o : Option Deed) → chain_at_base (option_map mirrored o) ≡ chain_at_base o
base_alike None = refl
base_alike (Some deed) = refl

longer_alike : (set : SetView) (below other : ℕ → Option Chain) → ((check : ℕ) → below check ≡ other check) → longer set below ≡ longer set other
longer_alike (sets.Base base seal) below other same = refl
longer_alike (sets.Answer answer seal) below other same = ap (option_map (λ (chain : Chain). with_adjusted chain (record { answer = answer; check = seal.check }))) (same answer.check)

behind_alike : (o : Option Deed) (below other : ℕ → Option Chain) → ((check : ℕ) → below check ≡ other check) → chain_behind (option_map mirrored o) below ≡ chain_behind o other
behind_alike None below other same = refl
behind_alike (Some deed) below other same = longer_alike deed.set below other same

pub chain_mirrored : (number : List ℕ) (deeds : List Deed) (level check : ℕ) → chain_to number (map mirrored deeds) level check ≡ chain_to number deeds level check
chain_mirrored number deeds zero check = ap chain_at_base (named_mirrored number 0 check deeds) ∙ base_alike (named_of number 0 check deeds)
chain_mirrored number deeds (suc level) check =
    ap (λ (o : Option Deed). chain_behind o (chain_to number (map mirrored deeds) level)) (named_mirrored number (suc level) check deeds)
    ∙ behind_alike (named_of number (suc level) check deeds) (chain_to number (map mirrored deeds) level) (chain_to number deeds level) (chain_mirrored number deeds level)

-- ---- what may be taken

-- what the other end may sign this end may take
pub took_of_signed : (role : Role) (deeds : List Deed) (set : SetView) → AllowsSet (other_role role) (map mirrored deeds) Signed set → AllowsSet role deeds Took set
took_of_signed role deeds (sets.Base base seal) a = record {
  side = a.side;
  new = new_back (of_delivery base.number deeds) (sym (of_mirrored base.number deeds) ∙ a.new);
}
took_of_signed role deeds (sets.Answer answer seal) a = record {
  letter = a.letter;
  highest = mirrored a.highest;
  is_highest = highest_back answer.number deeds a.highest a.is_highest;
  named = a.named;
  turn = ap other_kind a.turn;
  standing = acceptance_back answer.number deeds a.standing;
  version = a.version;
  made = sym (ap (option_and_then version_of) (chain_mirrored (number_in a.highest.set) deeds (level_in a.highest.set) (check_in a.highest.set))) ∙ a.made;
  applies = a.applies;
}

-- ---- by the deeds of the delivery alone

module _ (number : List ℕ) (one other : List Deed) (same : of_delivery number one ≡ of_delivery number other) where
  named_alike : (level check : ℕ) → named_of number level check one ≡ named_of number level check other
  named_alike level check = ap (λ (l : List Deed). find (is_named level check) (filter (λ (d : Deed). proposes d.set) l)) same

  same_behind : (o : Option Deed) (below above : ℕ → Option Chain) → ((check : ℕ) → below check ≡ above check) → chain_behind o below ≡ chain_behind o above
  same_behind None below above alike = refl
  same_behind (Some deed) below above alike = longer_alike deed.set below above alike

  chain_alike : (level check : ℕ) → chain_to number one level check ≡ chain_to number other level check
  chain_alike zero check = ap chain_at_base (named_alike 0 check)
  chain_alike (suc level) check =
      ap (λ (o : Option Deed). chain_behind o (chain_to number one level)) (named_alike (suc level) check)
      ∙ same_behind (named_of number (suc level) check other) (chain_to number one level) (chain_to number other level) (chain_alike level)

  pub version_alike : (level check : ℕ) → version_to number one level check ≡ version_to number other level check
  version_alike level check = ap (option_and_then version_of) (chain_alike level check)

pub allowed_alike : (role : Role) (one other : List Deed) (kind : EntryKind) (set : SetView) → of_delivery (number_in set) one ≡ of_delivery (number_in set) other → AllowsSet role one kind set → AllowsSet role other kind set
allowed_alike role one other kind (sets.Base base seal) same a = record { side = a.side; new = sym same ∙ a.new }
allowed_alike role one other kind (sets.Answer answer seal) same a =
    let h = highest_is answer.number one a.highest a.is_highest in
    let its : version_at one a.highest ≡ version_at other a.highest =
    ap (λ (n : List ℕ). version_to n one (level_in a.highest.set) (check_in a.highest.set)) h.is.number
    ∙ version_alike answer.number one other same (level_in a.highest.set) (check_in a.highest.set)
    ∙ sym (ap (λ (n : List ℕ). version_to n other (level_in a.highest.set) (check_in a.highest.set)) h.is.number) in
    record {
      letter = a.letter;
      highest = a.highest;
      is_highest = sym (ap (λ (l : List Deed). highest (filter (λ (d : Deed). proposes d.set) l)) same) ∙ a.is_highest;
      named = a.named;
      turn = a.turn;
      standing = sym (ap (λ (l : List Deed). first_of (filter (λ (d : Deed). not (proposes d.set)) l)) same) ∙ a.standing;
      version = a.version;
      made = sym its ∙ a.made;
      applies = a.applies;
    }
