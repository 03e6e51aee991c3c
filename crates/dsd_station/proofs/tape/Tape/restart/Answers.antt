use Rattle.std.proofs.Common.{rules, ◌≡◌, true}
use Rattle.dsd_station.specs.declared.call.Call.TheVariants.{Restart}
use Rattle.dsd_station.proofs.Tying.{tied_push, restart_tied}
use Rattle.dsd_station.proofs.tape.Tape.restart.Goals as goal

pub invariant_of-self-2 : goal.invariant_of-self-2
invariant_of-self-2 c =
    let stopped : c.self.inside.stopped ≡ true = search rules in
    let journal : c.in_ok-journal.journal.items ≡ c.self.inside.image.items = search rules in
    let sure : c.in_ok-sure.sure.items ≡ c.self.inside.image.items = search rules in
    tied_push c.self.inside.calls.items _ _ _ _ _ _ _ Restart c.in_ok-push.ensures.items (restart_tied _ _ _ _ _ _ _ c.self.invariant _ _ _ stopped journal sure c.clear.ensures.items)
