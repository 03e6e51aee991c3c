use Rattle.std.proofs.Common.{ℕ, List, ◌∙◌, ap}
use Rattle.dsd_station.specs.declared.call.Outcome.TheVariants.{Stopped}
use Rattle.dsd_station.specs.declared.call.Call.TheVariants.{Sync}
use Rattle.dsd_station.specs.Replayed.{picked}
use Rattle.dsd_station.proofs.Tying.{tied_push, stop_sync_tied}
use Rattle.dsd_station.proofs.tape.Tape.stop_sync.Goals as goal

pub invariant_of-self-2 : goal.invariant_of-self-2
invariant_of-self-2 c =
    tied_push c.self.inside.calls.items _ _ _ _ _ _ _ (Sync (Stopped c.args.pick)) c.in_ok-push.ensures.items
    (stop_sync_tied _ _ _ _ _ _ _ c.self.invariant _ c.args.pick (c.in_ok-image.ensures ∙ ap (λ (l : List ℕ). picked c.args.pick l c.deref-2.result.now) c.deref.ensures.value ∙ ap (λ (l : List (ℕ × List ℕ)). picked c.args.pick c.self.inside.sure.items l) c.deref-2.ensures.value))
