use Rattle.std.proofs.Common.{ℕ, List, [], ◌∷◌, ◌++◌, take, length, ◌∙◌, ap}
use Rattle.dsd_station.specs.declared.call.Outcome.TheVariants.{Stopped}
use Rattle.dsd_station.specs.declared.call.Call.{Call}
use Rattle.dsd_station.specs.declared.call.Call.TheVariants.{Speak}
use Rattle.dsd_station.specs.Replayed.{taken, picked}
use Rattle.dsd_station.proofs.Tying.{tied_push, stop_speak_tied}
use Rattle.dsd_station.proofs.tape.Tape.stop_speak.Goals as goal

pub invariant_of-self-2 : goal.invariant_of-self-2
invariant_of-self-2 c =
    let call = Speak c.args.bytes (Stopped c.args.pick) in
    let calls = c.push_reserved.ensures.items ∙ ap (λ (l : List Call). l ++ call ∷ []) c.in_ok-reserve.ensures.items in
    let count = c.count_of-count.ensures.count ∙ ap (λ (l : List ℕ). taken c.args.pick (length l)) c.as_slice.ensures in
    let spoken = c.add.ensures ∙ ap (λ (l : List ℕ). l ++ take c.count_of-count.result c.as_slice-2.result.now) c.in_ok-reserve-2.ensures.items
    ∙ ap (λ (n : ℕ). c.self.inside.spoken.items ++ take n c.as_slice-2.result.now) count ∙ ap (λ (l : List ℕ). c.self.inside.spoken.items ++ take (taken c.args.pick (length c.args.bytes)) l) c.as_slice-2.ensures in
    tied_push c.self.inside.calls.items _ _ _ _ _ _ _ call calls (stop_speak_tied _ _ _ _ _ _ _ c.self.invariant c.args.bytes _ _ c.args.pick spoken (c.in_ok-image.ensures ∙ ap (λ (l : List ℕ). picked c.args.pick l c.deref-2.result.now) c.deref.ensures.value ∙ ap (λ (l : List (ℕ × List ℕ)). picked c.args.pick c.self.inside.sure.items l) c.deref-2.ensures.value))
