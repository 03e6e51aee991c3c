-- How a delivery stands after some deeds: its highest proposal, its acceptance, and the version that each proposal makes.
use Rattle.std.specs.Prelude.{◌≡◌, ℕ, zero, suc, ◌==◌, ◌&&◌, nat_lt, Bool, if◌then◌else◌, List, [], ◌∷◌, Option, Some, None}
use Rattle.std.specs.List.{find}
use Rattle.std.specs.Option.{option_and_then, option_map}
use Rattle.dsd_record.specs.Chain.{Chain, chain_from, version_of, with_adjusted}
use Rattle.dsd_record.specs.Version.{Version}
use Rattle.dsd_record.specs.declared.set_view.SetView.{SetView}
use Rattle.dsd_record.specs.declared.set_view.SetView.TheVariants as sets
use Rattle.delivery_book.specs.Deeds.{Deed, acceptances, check_in, first_of, level_in, number_in, of_delivery, proposals}

-- ---- the highest proposal: the last one of the greatest level

abbrev pub is_below : Deed → Deed → Bool
is_below deed other = nat_lt (level_in deed.set) (level_in other.set)

abbrev pub higher : Deed → Option Deed → Deed
higher deed None = deed
higher deed (Some later) = if is_below later deed then deed else later

abbrev pub highest : List Deed → Option Deed
highest [] = None
highest (deed ∷ deeds) = Some (higher deed (highest deeds))

abbrev pub highest_of : List ℕ → List Deed → Option Deed
highest_of number deeds = highest (proposals number deeds)

-- ---- the acceptance: a legal list has at most one of a delivery

abbrev pub acceptance_of : List ℕ → List Deed → Option Deed
acceptance_of number deeds = first_of (acceptances number deeds)

-- the delivery has no deed
abbrev pub IsNew : List ℕ → List Deed → Type 0
IsNew number deeds = of_delivery number deeds ≡ []

-- ---- which proposal a level and an integrity value name

abbrev pub is_named : ℕ → ℕ → Deed → Bool
is_named level check deed = (level_in deed.set == level) && (check_in deed.set == check)

abbrev pub named_of : List ℕ → ℕ → ℕ → List Deed → Option Deed
named_of number level check deeds = find (is_named level check) (proposals number deeds)

-- ---- the chain that ends at a proposal: a base record alone, or the chain of the proposal that an adjustment names with that behind it

abbrev pub chain_of_base : SetView → Option Chain
chain_of_base (sets.Base base seal) = Some (chain_from base seal.check)
chain_of_base (sets.Answer answer seal) = None

-- the chains below, by the integrity value of the proposal at which they end
abbrev pub longer : SetView → (ℕ → Option Chain) → Option Chain
longer (sets.Base base seal) below = None
longer (sets.Answer answer seal) below = option_map (λ (chain : Chain). with_adjusted chain (record { answer = answer; check = seal.check })) (below answer.check)

abbrev pub chain_at_base : Option Deed → Option Chain
chain_at_base (Some deed) = chain_of_base deed.set
chain_at_base None = None

abbrev pub chain_behind : Option Deed → (ℕ → Option Chain) → Option Chain
chain_behind (Some deed) below = longer deed.set below
chain_behind None below = None

-- the chain that ends at the proposal of this level and integrity value
abbrev pub chain_to : List ℕ → List Deed → ℕ → ℕ → Option Chain
chain_to number deeds zero check = chain_at_base (named_of number 0 check deeds)
chain_to number deeds (suc level) check = chain_behind (named_of number (suc level) check deeds) (chain_to number deeds level)

-- the version that this chain makes
abbrev pub version_to : List ℕ → List Deed → ℕ → ℕ → Option Version
version_to number deeds level check = option_and_then version_of (chain_to number deeds level check)

-- the version that a proposal among them makes
abbrev pub version_at : List Deed → Deed → Option Version
version_at deeds deed = version_to (number_in deed.set) deeds (level_in deed.set) (check_in deed.set)
