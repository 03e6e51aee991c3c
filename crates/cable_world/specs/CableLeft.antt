-- How many polls an end at a seat may still answer, and the end going on.
use Rattle.std.specs.Prelude.{ℕ, ◌+◌, ◌*◌, ◌^◌, length, Option, Some, None}
use Rattle.dsd_values.specs.declared.role.Role.{Role}
use Rattle.dsd_values.specs.declared.role.Role.TheVariants.{Receiver, Supplier}
use Rattle.dsd_end.specs.Patience.{patience}
use Rattle.cable_world.specs.Cables.{cable_of, seat}
use Rattle.cable_world.specs.Players.{PlayerView}
use Rattle.cable_world.specs.declared.cable.Cable.{Cable}

abbrev pub left_in : Option PlayerView → ℕ
left_in None = 0
left_in (Some player) = 1 + patience player.standing

abbrev pub left_at : Cable → Role → ℕ
left_at cable role = left_in (seat (cable_of cable) role).player

-- What is still to come before no end runs: polls first, of which each may let frames wait, and then the frames that wait. A list has fewer than 2 ^ 63 items.
abbrev pub left_to_do : Cable → ℕ
left_to_do cable = (left_at cable Supplier + left_at cable Receiver) * 2 ^ 63 + length cable.waiting.items
