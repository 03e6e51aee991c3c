use Rattle.std.proofs.Common.{sym, ◌∙◌}
use Rattle.cable_world.proofs.Exchanged.{exchanges_more, exchanges_no_more}
use Rattle.cable_world.proofs.cable.Cable.exchange.Goals as goal

pub loop-self-preserved : goal.loop-self-preserved
loop-self-preserved c = record {
  ready = c.in_ok-round.ensures.goes.ready;
  goes = λ new rest. c.loop-self.invariant.goes new (exchanges_more c.loop-self.self c.round.new.self new (sym c.some_runs.ensures ∙ c.loop-self-test.true) c.in_ok-round.ensures.goes rest);
}

pub returns : goal.returns
returns c = c.loop-self.invariant.goes c.loop-self.self (exchanges_no_more c.loop-self.self (sym c.some_runs.ensures ∙ c.loop-self-test.false) c.loop-self.invariant.ready)
