use Rattle.std.proofs.Common.{ℕ, List, [], ◌∷◌, ◌++◌, ◌∙◌, ap}
use Rattle.dsd_station.specs.declared.call.Outcome.TheVariants.{Done}
use Rattle.dsd_station.specs.declared.call.Call.{Call}
use Rattle.dsd_station.specs.declared.call.Call.TheVariants.{Write}
use Rattle.dsd_station.specs.Disk.{overwritten}
use Rattle.dsd_station.proofs.Tying.{tied_push, write_tied}
use Rattle.dsd_station.proofs.tape.Tape.write.Goals as goal

pub invariant_of-self-2 : goal.invariant_of-self-2
invariant_of-self-2 c =
    let call = Write c.args.at c.args.bytes Done in
    let calls = c.push_reserved-2.ensures.items ∙ ap (λ (l : List Call). l ++ call ∷ []) c.in_ok-reserve.ensures.items in
    let journal = c.put_all.ensures ∙ ap (λ (l : List ℕ). overwritten l c.args.at c.as_slice-3.result.now) c.in_ok-reserve-3.ensures.items ∙ ap (λ (l : List ℕ). overwritten c.self.inside.journal.items c.args.at l) c.as_slice-3.ensures in
    let range = c.in_ok-range.ensures ∙ ap (λ (l : List ℕ). (c.args.at, l)) c.as_slice.ensures in
    let pending = c.push_reserved.ensures.items ∙ ap (λ (l : List (ℕ × List ℕ)). l ++ c.in_ok-range.range ∷ []) c.in_ok-reserve-2.ensures.items ∙ ap (λ (r : ℕ × List ℕ). c.self.inside.pending.items ++ r ∷ []) range in
    tied_push c.self.inside.calls.items _ _ _ _ _ _ _ call calls (write_tied _ _ _ _ _ _ _ c.self.invariant c.args.at c.args.bytes _ _ journal pending)
