use Rattle.std.proofs.Common.{rules, ◌≡◌}
use Rattle.dsd_station.specs.declared.call.Outcome.TheVariants.{Done}
use Rattle.dsd_station.specs.declared.call.Call.TheVariants.{Sync}
use Rattle.dsd_station.proofs.Tying.{tied_push, sync_tied}
use Rattle.dsd_station.proofs.tape.Tape.sync.Goals as goal

pub invariant_of-self-2 : goal.invariant_of-self-2
invariant_of-self-2 c =
    let sure : c.in_ok-sure.sure.items ≡ c.self.inside.journal.items = search rules in
    tied_push c.self.inside.calls.items _ _ _ _ _ _ _ (Sync Done) c.in_ok-push.ensures.items (sync_tied _ _ _ _ _ _ _ c.self.invariant _ _ sure c.clear.ensures.items)
