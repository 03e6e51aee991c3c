-- A change of a station's plan, and of the frames that wait, is no step.
use Rattle.std.proofs.Common.{◌≡◌, ℕ, List, length, map, refl, sym, ◌∙◌, ap, subst, arith}
use Rattle.dsd_values.specs.declared.role.Role.TheVariants.{Receiver, Supplier}
use Rattle.dsd_values.specs.declared.role.Role.{Role}
use Rattle.dsd_station.specs.Logged.{planned}
use Rattle.dsd_station.specs.Planned.{Plan}
use Rattle.cable_world.specs.CableSteps.{Goes, IsOpen}
use Rattle.cable_world.specs.Cables.{cable_of, scene_of, waiting_as}
use Rattle.cable_world.specs.Changing.{Changes, KeepsEnd}
use Rattle.cable_world.specs.CableLeft.{left_in, left_to_do}
use Rattle.cable_world.specs.Scenes.{Scene, with_log as with_log_in}
use Rattle.cable_world.specs.Seats.{SeatView, side_of, with_log}
use Rattle.cable_world.specs.declared.cable.Cable.{Cable}
use Rattle.cable_world.specs.declared.cable.Waiting.{Waiting}
use Rattle.cable_world.proofs.Going.{goes_becomes, same_end}

planned_end : (seat : SeatView) (plan : Plan) → KeepsEnd seat (with_log seat (planned seat.log plan))
planned_end seat plan = record { calls = refl; starved = refl; player = refl; spoken = refl; refused = refl }

pub left_as : (new old : Cable) → new.handheld.player ≡ old.handheld.player → new.receiver.player ≡ old.receiver.player → length new.waiting.items ≡ length old.waiting.items → left_to_do new ≡ left_to_do old
left_as new old handheld receiver waits =
    let h = ap left_in handheld in
    let r = ap left_in receiver in
    omega (arith, h, r, waits)

pub scene_as : (new : Cable) (handheld receiver : SeatView) (waiting : List Waiting) → new.handheld ≡ handheld → new.receiver ≡ receiver → new.waiting.items ≡ waiting
    → scene_of (cable_of new) ≡ record { supplier = side_of handheld; receiver = side_of receiver; waiting = map waiting_as waiting }
scene_as new handheld receiver waiting h r w =
    ap (λ (s : SeatView). record { supplier = side_of s; receiver = side_of new.receiver; waiting = map waiting_as new.waiting.items }) h
    ∙ ap (λ (s : SeatView). record { supplier = side_of handheld; receiver = side_of s; waiting = map waiting_as new.waiting.items }) r
    ∙ ap (λ (l : List (Role × List ℕ)). record { supplier = side_of handheld; receiver = side_of receiver; waiting = l }) (ap (map waiting_as) w)

module _ (plan : Plan) (after : Scene → Scene) (old new : Cable) (ready : IsOpen old) (waiting : new.waiting.items ≡ old.waiting.items) (setting : new.setting ≡ old.setting) (steps : new.steps.items ≡ old.steps.items) where
  pub plans_handheld : after (scene_of (cable_of old)) ≡ with_log_in (scene_of (cable_of old)) Supplier (planned old.handheld.log plan) → new.handheld ≡ with_log old.handheld (planned old.handheld.log plan) → new.receiver ≡ old.receiver
      → Goes (Changes after) old new
  plans_handheld is handheld receiver =
      goes_becomes old new after ready
      (record { setting = setting; steps = steps; handheld = subst (KeepsEnd old.handheld) (sym handheld) (planned_end old.handheld plan); receiver = subst (KeepsEnd old.receiver) (sym receiver) (same_end old.receiver) })
      (scene_as new (with_log old.handheld (planned old.handheld.log plan)) old.receiver old.waiting.items handheld receiver waiting ∙ sym is)

  pub plans_receiver : after (scene_of (cable_of old)) ≡ with_log_in (scene_of (cable_of old)) Receiver (planned old.receiver.log plan) → new.receiver ≡ with_log old.receiver (planned old.receiver.log plan) → new.handheld ≡ old.handheld
      → Goes (Changes after) old new
  plans_receiver is receiver handheld =
      goes_becomes old new after ready
      (record { setting = setting; steps = steps; handheld = subst (KeepsEnd old.handheld) (sym handheld) (same_end old.handheld); receiver = subst (KeepsEnd old.receiver) (sym receiver) (planned_end old.receiver plan) })
      (scene_as new old.handheld (with_log old.receiver (planned old.receiver.log plan)) old.waiting.items handheld receiver waiting ∙ sym is)
