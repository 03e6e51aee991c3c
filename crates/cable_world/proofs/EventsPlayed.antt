-- The events of a script are played one behind the other.
use Rattle.std.proofs.Common.{◌≡◌, ◌<◌, ◌≤◌, ◌+◌, ℕ, List, ◌∷◌, length, drop, get_or, sym, ◌∙◌, ap, subst}
use Rattle.std.proofs.lemmas.List.{drop_all, drop_more}
use Rattle.cable_world.specs.CableSteps.{Goes, IsOpen}
use Rattle.cable_world.specs.Obeying.{Obeys, Plays}
use Rattle.cable_world.specs.declared.cable.Cable.{Cable}
use Rattle.cable_world.specs.declared.event.Event.{Event}
use Rattle.cable_world.proofs.Going.{goes_nothing, goes_then}

pub obeys_more : (events : List Event) (i : ℕ) (event : Event) (at mid new : Cable) → i < length events → event ≡ get_or events i event → Goes (Plays event) at mid → Goes (Obeys (drop (i + 1) events)) mid new
    → Goes (Obeys (drop i events)) at new
obeys_more events i event at mid new inside is played rest =
    subst (λ (l : List Event). Goes (Obeys l) at new) (sym (drop_more events i event inside ∙ ap (λ (e : Event). e ∷ drop (i + 1) events) (sym is))) (goes_then (Plays event) (Obeys (drop (i + 1) events)) at mid new played rest)

pub obeys_no_more : (events : List Event) (i : ℕ) (at : Cable) → length events ≤ i → IsOpen at → Goes (Obeys (drop i events)) at at
obeys_no_more events i at end ready = subst (λ (l : List Event). Goes (Obeys l) at at) (sym (drop_all i events end)) (goes_nothing at ready)
