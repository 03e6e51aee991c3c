-- Two ends that do not run, with nothing on the cable between them.
use Rattle.std.specs.Prelude.{◌≡◌, [], None}
use Rattle.dsd_values.specs.declared.role.Role.TheVariants.{Receiver, Supplier}
use Rattle.dsd_station.specs.Logged.{Log}
use Rattle.cable_world.specs.Seats.{SeatView}
use Rattle.cable_world.specs.Worlds.{IsFormatted}
use Rattle.cable_world.specs.declared.cable.Cable.{Cable}

-- at this station no end runs, and none has run
abbrev pub idle_at : Log → SeatView
idle_at log = record { log = log; player = None; spoken = []; refused = 0 }

-- Both journals are formatted, no end has run, no frame waits, and no step was made.
pub record IsIdle (cable : Cable) : Type 0 where
  pub handheld_is : IsFormatted (record { role = Supplier; own = cable.setting.ends.handheld.own; peer = cable.setting.ends.handheld.peer }) cable.handheld.log
  pub receiver_is : IsFormatted (record { role = Receiver; own = cable.setting.ends.receiver.own; peer = cable.setting.ends.receiver.peer }) cable.receiver.log
  pub handheld : cable.handheld ≡ idle_at cable.handheld.log
  pub receiver : cable.receiver ≡ idle_at cable.receiver.log
  pub waiting : cable.waiting.items ≡ []
  pub steps : cable.steps.items ≡ []
