use Rattle.std.proofs.Common.{arith, sym, ◌∙◌}
use Rattle.cable_world.proofs.PolledOut.{less_to_do, polls_more, polls_no_more}
use Rattle.cable_world.proofs.cable.Cable.poll_out.Goals as goal

pub loop-role-preserved : goal.loop-role-preserved
loop-role-preserved c =
    let was = c.loop-role.invariant in
    let at = c.loop-role.self in
    let mid = c.poll.new.self in
    let spent = less_to_do c.args.role at mid c.in_ok-poll.ensures.less c.in_ok-poll.ensures.other in
    let left = was.left in
    record {
      ready = c.in_ok-poll.ensures.goes.ready;
      goes = λ new rest. was.goes new (polls_more c.args.role at mid new (sym c.is_busy.ensures ∙ c.loop-role-test.true) c.in_ok-poll.ensures.goes rest);
      left = omega (arith, spent, left);
      less = λ busy idle. omega (arith, spent, left);
    }

pub returns-clause-goes : goal.returns-clause-goes
returns-clause-goes c = c.loop-role.invariant.goes c.loop-role.self (polls_no_more c.args.role c.loop-role.self (sym c.is_busy.ensures ∙ c.loop-role-test.false) c.loop-role.invariant.ready)
