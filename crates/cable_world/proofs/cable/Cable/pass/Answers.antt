use Rattle.std.proofs.Common.{arith, sym, ◌∙◌, ◌-◌}
use Rattle.cable_world.specs.Obeying.{Delivers, unchanged}
use Rattle.cable_world.proofs.Delivered.{passes_none}
use Rattle.cable_world.proofs.Exchanged.{goes_none, times_more}
use Rattle.cable_world.proofs.cable.Cable.pass.Goals as goal

pub loop-left-preserved : goal.loop-left-preserved
loop-left-preserved c =
    let n = c.loop-left.left in
    record {
      ready = c.in_ok-deliver.ensures.goes.ready;
      goes = λ new rest. c.loop-left.invariant.goes new (times_more (Delivers unchanged) n (n - 1) c.loop-left.self c.deliver.new.self new (omega (arith, c.loop-left-test.true)) c.in_ok-deliver.ensures.goes rest);
    }

pub returns-then-is_empty : goal.returns-then-is_empty
returns-then-is_empty c =
    let at = c.loop-left.self in
    c.loop-left.invariant.goes at (passes_none c.loop-left.left at (sym c.is_empty.ensures ∙ c.if-is_empty.true) c.loop-left.invariant.ready)

pub returns : goal.returns
returns c =
    let at = c.loop-left.self in
    c.loop-left.invariant.goes at (goes_none (Delivers unchanged) c.loop-left.left at (omega (arith, c.loop-left-test.false)) c.loop-left.invariant.ready)
