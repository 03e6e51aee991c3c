use Rattle.std.proofs.Common.{◌++◌, List, ℕ, take, ◌∙◌, ap}
use Rattle.std.specs.List.{concat}
use Rattle.dxs_envelope.proofs.Lines.{more_joined}
use Rattle.dxs_envelope.proofs.writing.joined.Goals as goal

pub loop-set-preserved : goal.loop-set-preserved
loop-set-preserved c =
    c.in_ok-extend_from_slice.ensures.items
    ∙ ap (λ (l : List ℕ). l ++ c.as_slice.result.now) c.loop-set.invariant
    ∙ ap (λ (l : List ℕ). (c.args.header.now ++ concat (take c.loop-set.set-index c.args.sets.now)) ++ l) c.as_slice.ensures
    ∙ more_joined c.args.header.now c.args.sets.now c.loop-set.set-index c.set-item.result c.loop-set-test.true c.set-item.is
