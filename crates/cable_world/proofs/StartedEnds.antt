-- An end on a cable is started.
use Rattle.std.proofs.Common.{◌≡◌, Bool, true, false, List, ◌++◌, sym, ◌∙◌, ap, subst}
use Rattle.dsd_values.specs.declared.role.Role.TheVariants.{Receiver, Supplier}
use Rattle.dsd_values.specs.declared.role.Role.{Role}
use Rattle.cable_world.specs.CableSteps.{Goes, IsOpen, IsOpened, IsPolled}
use Rattle.cable_world.specs.Cables.{cable_of, scene_of}
use Rattle.cable_world.specs.Obeying.{IsFirstPolled, IsPolledIf, Nothing, Opens, Starts, StartsIf, Then}
use Rattle.cable_world.specs.Scenes.{Scene, restarted, side}
use Rattle.cable_world.specs.Steps.{WorldStep}
use Rattle.cable_world.specs.declared.cable.Cable.{Cable}
use Rattle.cable_world.proofs.Going.{goes_as, goes_nothing, goes_then}

starts_then : (runs : Bool) (role : Role) (scene : Scene) → runs ≡ false → (made : List WorldStep) (next : Scene) → Then (IsOpened role) (IsFirstPolled role) scene made next → StartsIf runs role scene made next
starts_then true role scene off made next then = absurd (cc)
starts_then false role scene off made next then =
    let (step, one, makes, at) = then.before in
    subst (λ (l : List WorldStep). Opens role (restarted scene role) l next) (sym (then.joined ∙ ap (λ (l : List WorldStep). l ++ then.rest) one)) (makes, subst (λ (s : Scene). IsFirstPolled role s then.rest next) at then.behind)

starts_not : (runs : Bool) (role : Role) (scene : Scene) → runs ≡ true → (made : List WorldStep) (next : Scene) → Nothing scene made next → StartsIf runs role scene made next
starts_not true role scene on made next nothing = nothing
starts_not false role scene on made next nothing = absurd (cc)

pub starts_off : (role : Role) (old mid new : Cable) → (side (scene_of (cable_of old)) role).runs ≡ false → Goes (IsOpened role) old mid → Goes (IsFirstPolled role) mid new → Goes (Starts role) old new
starts_off role old mid new off opened polled =
    goes_as (Then (IsOpened role) (IsFirstPolled role)) (Starts role) old new (starts_then (side (scene_of (cable_of old)) role).runs role (scene_of (cable_of old)) off)
    (goes_then (IsOpened role) (IsFirstPolled role) old mid new opened polled)

pub starts_on : (role : Role) (at : Cable) → (side (scene_of (cable_of at)) role).runs ≡ true → IsOpen at → Goes (Starts role) at at
starts_on role at on ready = goes_as Nothing (Starts role) at at (starts_not (side (scene_of (cable_of at)) role).runs role (scene_of (cable_of at)) on) (goes_nothing at ready)

first_polled : (runs : Bool) (scene : Scene) → runs ≡ true → (made : List WorldStep) (next : Scene) → IsPolled Supplier scene made next → IsPolledIf runs Supplier scene made next
first_polled true scene on made next polled = polled
first_polled false scene on made next polled = absurd (cc)

first_not : (runs : Bool) (scene : Scene) → runs ≡ false → (made : List WorldStep) (next : Scene) → Nothing scene made next → IsPolledIf runs Supplier scene made next
first_not true scene off made next nothing = absurd (cc)
first_not false scene off made next nothing = nothing

pub handheld_polled : (old new : Cable) → (scene_of (cable_of old)).supplier.runs ≡ true → Goes (IsPolled Supplier) old new → Goes (IsFirstPolled Supplier) old new
handheld_polled old new on polled = goes_as (IsPolled Supplier) (IsFirstPolled Supplier) old new (first_polled (scene_of (cable_of old)).supplier.runs (scene_of (cable_of old)) on) polled

pub handheld_not_polled : (at : Cable) → (scene_of (cable_of at)).supplier.runs ≡ false → IsOpen at → Goes (IsFirstPolled Supplier) at at
handheld_not_polled at off ready = goes_as Nothing (IsFirstPolled Supplier) at at (first_not (scene_of (cable_of at)).supplier.runs (scene_of (cable_of at)) off) (goes_nothing at ready)

pub receiver_not_polled : (at : Cable) → IsOpen at → Goes (IsFirstPolled Receiver) at at
receiver_not_polled at ready = goes_as Nothing (IsFirstPolled Receiver) at at (λ made next nothing. nothing) (goes_nothing at ready)
