use Rattle.std.proofs.Common.{arith, ◌-◌}
use Rattle.dsd_station.specs.declared.feeding.Given.TheVariants as given
use Rattle.cable_world.specs.Obeying.{Hears}
use Rattle.cable_world.proofs.Exchanged.{goes_none, times_more}
use Rattle.cable_world.proofs.cable.Cable.quiet.Goals as goal

pub loop-left-preserved : goal.loop-left-preserved
loop-left-preserved c =
    let n = c.loop-left.left in
    record {
      ready = c.in_ok-hear_quiet.ensures.goes.ready;
      goes = λ new rest. c.loop-left.invariant.goes new
          (times_more (Hears c.args.role (given.Quiet 1)) n (n - 1) c.loop-left.self c.hear_quiet.new.self new (omega (arith, c.loop-left-test.true)) c.in_ok-hear_quiet.ensures.goes rest);
    }

pub returns : goal.returns
returns c =
    let at = c.loop-left.self in
    c.loop-left.invariant.goes at (goes_none (Hears c.args.role (given.Quiet 1)) c.loop-left.left at (omega (arith, c.loop-left-test.false)) c.loop-left.invariant.ready)
