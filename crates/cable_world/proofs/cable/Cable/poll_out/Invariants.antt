use Rattle.std.proofs.Common.{◌≡◌, ◌<◌, ◌≤◌, true, false}
use Rattle.cable_world.specs.CableSteps.{Goes, IsOpen}
use Rattle.cable_world.specs.Cables.{cable_of, scene_of}
use Rattle.cable_world.specs.Obeying.{IsPolledOut}
use Rattle.cable_world.specs.CableLeft.{left_to_do}
use Rattle.cable_world.specs.Scenes.{is_busy, side}
use Rattle.cable_world.specs.declared.cable.Cable.{Cable}
use Rattle.cable_world.proofs.cable.Cable.poll_out.Given as goal

abbrev pub invariant-loop-role : goal.invariant-loop-role
invariant-loop-role l = record {
  ready : IsOpen l.self;
  goes : (new : Cable) → Goes (IsPolledOut l.role) l.self new → Goes (IsPolledOut l.role) l.fn.self new;
  left : left_to_do l.self ≤ left_to_do l.fn.self;
  less : is_busy (side (scene_of (cable_of l.fn.self)) l.role) ≡ true → is_busy (side (scene_of (cable_of l.self)) l.role) ≡ false → left_to_do l.self < left_to_do l.fn.self;
}

abbrev pub decreases-loop-role : goal.decreases-loop-role
decreases-loop-role l = left_to_do l.self
