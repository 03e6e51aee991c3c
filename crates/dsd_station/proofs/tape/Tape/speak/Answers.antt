use Rattle.std.proofs.Common.{ℕ, List, [], ◌∷◌, ◌++◌, ◌∙◌, ap}
use Rattle.dsd_station.specs.declared.call.Outcome.TheVariants.{Done}
use Rattle.dsd_station.specs.declared.call.Call.{Call}
use Rattle.dsd_station.specs.declared.call.Call.TheVariants.{Speak}
use Rattle.dsd_station.proofs.Tying.{tied_push, speak_tied}
use Rattle.dsd_station.proofs.tape.Tape.speak.Goals as goal

pub invariant_of-self-2 : goal.invariant_of-self-2
invariant_of-self-2 c =
    let call = Speak c.args.bytes Done in
    let calls = c.push_reserved.ensures.items ∙ ap (λ (l : List Call). l ++ call ∷ []) c.in_ok-reserve.ensures.items in
    let spoken = c.add.ensures ∙ ap (λ (l : List ℕ). l ++ c.as_slice-2.result.now) c.in_ok-reserve-2.ensures.items ∙ ap (λ (l : List ℕ). c.self.inside.spoken.items ++ l) c.as_slice-2.ensures in
    tied_push c.self.inside.calls.items _ _ _ _ _ _ _ call calls (speak_tied _ _ _ _ _ _ _ c.self.invariant c.args.bytes _ spoken)
