-- What the elements of a segment say, and the first of them that is refused.
use Rattle.std.specs.Prelude.{◌≡◌, ℕ, ◌+◌, ◌==◌, List, [], ◌∷◌, length, drop, Option, Some, None, Result, Ok, Err, if◌then◌else◌}
use Rattle.std.specs.List.{join_with_byte}
use Rattle.dsd_values.specs.declared.fault.ValueFault.{ValueFault}
use Rattle.dsd_values.specs.declared.fault.ValueFault.TheVariants as faults
use Rattle.segments.specs.Views.{Seg}
use Rattle.segments.specs.declared.item_fault.ItemFault.{ItemFault}
use Rattle.segments.specs.declared.item_fault.ItemFault.TheVariants as errors

-- an element that is refused, and why
pub record ElementFault : Type 0 where
  pub element : ℕ
  pub fault : ValueFault

infixr 5 ◌or_else◌
-- the first of two that is there
abbrev pub ◌or_else◌ : {A : Type 0} → Option A → Option A → Option A
(Some first) or_else other = Some first
None or_else other = other

-- the fault of the element with this number, where its text spells no value
abbrev pub at_element : {V : Type 0} → ℕ → Result V ValueFault → Option ElementFault
at_element n (Ok v) = None
at_element n (Err fault) = Some (record { element = n; fault = fault })

-- what a right text says
abbrev pub said : {V : Type 0} → V → Result V ValueFault → V
said other (Ok v) = v
said other (Err fault) = other

abbrev pub some_of : {V : Type 0} → Result V ValueFault → Result (Option V) ValueFault
some_of (Ok v) = Ok (Some v)
some_of (Err fault) = Err fault

-- an optional element that is empty has no value
abbrev pub optional : {V : Type 0} → (List ℕ → Result V ValueFault) → List ℕ → Result (Option V) ValueFault
optional reading text = if length text == 0 then Ok None else some_of (reading text)

-- the first of these elements that is not empty, the first one having this number
abbrev pub filled_from : ℕ → List (List ℕ) → Option ElementFault
filled_from number [] = None
filled_from number (text ∷ more) =
    if length text == 0 then filled_from (number + 1) more
    else Some (record { element = number; fault = faults.TooLong (length text) })

-- an element behind the last listed one is refused where it is not empty (this project's profile)
abbrev pub no_more : ℕ → Seg → Option ElementFault
no_more last seg = filled_from (last + 1) (drop (last + 1) seg.parts)

abbrev pub or_star : ℕ → List ℕ → List ℕ
or_star b [] = if b == 42 then [] else b ∷ []
or_star b (next ∷ more) = b ∷ next ∷ more

-- a text without the stars at its end
abbrev pub without_end_stars : List ℕ → List ℕ
without_end_stars [] = []
without_end_stars (b ∷ more) = or_star b (without_end_stars more)

-- the tail that is kept: the elements from this number on, joined, without empty trailing ones
abbrev pub tail_from : ℕ → Seg → List ℕ
tail_from number seg = without_end_stars (join_with_byte 42 (drop number seg.parts))

-- a segment as it is kept: the id and the elements joined, without empty ones at the end and without the terminator
abbrev pub kept_text : Seg → List ℕ
kept_text seg = tail_from 0 seg

-- A call that reads elements refuses the first one that is refused, or answers as said. Want of memory is free.
abbrev pub Reads : {X : Type 0} → Result X ItemFault → Option ElementFault → (X → Type 0) → Type 0
Reads (Ok x) fault P = (fault ≡ None) × P x
Reads (Err errors.Memory) fault P = Unit {0}
Reads (Err (errors.Value element why)) fault P = fault ≡ Some (record { element = element; fault = why })
