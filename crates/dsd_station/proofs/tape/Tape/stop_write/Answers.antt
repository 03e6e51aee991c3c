use Rattle.std.proofs.Common.{ℕ, List, length, ◌∙◌, ap}
use Rattle.dsd_station.specs.declared.call.Outcome.TheVariants.{Stopped}
use Rattle.dsd_station.specs.declared.call.Call.TheVariants.{Write}
use Rattle.dsd_station.specs.Replayed.{applied, taken, picked}
use Rattle.dsd_station.proofs.Tying.{tied_push, stop_write_tied}
use Rattle.dsd_station.proofs.tape.Tape.stop_write.Goals as goal

pub invariant_of-self-2 : goal.invariant_of-self-2
invariant_of-self-2 c =
    let image = c.in_ok-put_first.ensures.ok ∙ ap (λ (n : ℕ). applied n c.args.at c.as_slice-2.result.now c.in_ok-image.image.items) c.count_of-count.ensures.count
    ∙ ap (λ (l : List ℕ). applied (taken c.args.pick (length l)) c.args.at c.as_slice-2.result.now c.in_ok-image.image.items) c.as_slice.ensures
    ∙ ap (λ (l : List ℕ). applied (taken c.args.pick (length c.args.bytes)) c.args.at l c.in_ok-image.image.items) c.as_slice-2.ensures
    ∙ ap (λ (l : List ℕ). applied (taken c.args.pick (length c.args.bytes)) c.args.at c.args.bytes l) (c.in_ok-image.ensures ∙ ap (λ (l : List ℕ). picked c.args.pick l c.deref-2.result.now) c.deref.ensures.value ∙ ap (λ (l : List (ℕ × List ℕ)). picked c.args.pick c.self.inside.sure.items l) c.deref-2.ensures.value) in
    tied_push c.self.inside.calls.items _ _ _ _ _ _ _ (Write c.args.at c.args.bytes (Stopped c.args.pick)) c.in_ok-push.ensures.items (stop_write_tied _ _ _ _ _ _ _ c.self.invariant c.args.at c.args.bytes _ c.args.pick image)
