-- The route of so many deliveries: the script that plays it (this project's profile).
use Rattle.std.specs.Prelude.{ℕ, [], ◌∷◌, map, codes}
use Rattle.dsd_values.specs.declared.role.Role.TheVariants.{Receiver, Supplier}
use Rattle.cable_world.specs.declared.event.Event.TheVariants.{Clean}
use Rattle.cable_world.specs.declared.script.Ends.{Ends}
use Rattle.cable_world.specs.declared.script.Script.{Script}
use Rattle.load_route.specs.Deliveries.{counts_at, draft_at, first_numbers}

abbrev pub two_ends : Ends
two_ends = record {
  handheld = record { role = Supplier; own = codes "HH00000001"; peer = codes "RR00000001" };
  receiver = record { role = Receiver; own = codes "RR00000001"; peer = codes "HH00000001" };
}

-- all of them, in one clean exchange
abbrev pub route : ℕ → Script
route count = record {
  ends = two_ends;
  drafts = map draft_at (first_numbers count);
  counts = map counts_at (first_numbers count);
  events = Clean ∷ [];
}
