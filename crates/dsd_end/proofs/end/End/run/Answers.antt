use Rattle.std.proofs.Common.{sym, ◌∙◌, subst}
use Rattle.dsd_record.specs.Choices.{Chooser}
use Rattle.dsd_end.specs.Polls.{Polled}
use Rattle.dsd_end.specs.RunSoFar.{Runs}
use Rattle.dex_handshake.specs.declared.session_end.SessionEnd.{SessionEnd}
use Rattle.dsd_end.specs.FullTurns.{PollFull, RunFull}
use Rattle.dsd_end.specs.declared.end.Turn.{Turn}
use Rattle.dsd_end.proofs.Filling.{end_full_map}
use Rattle.dsd_end.proofs.CallsMade.{calls_then}
use Rattle.dsd_end.proofs.PollsJoined.{hears_then, running_goes, so_far_full, so_far_last, so_far_more}
use Rattle.std.proofs.Common.{◌<◌, false}
use Rattle.dsd_end.specs.EndFaults.{IsNoise}
use Rattle.dsd_end.specs.Patience.{patience}
use Rattle.dsd_end.specs.Polls.{PolledAlong, with_flags}
use Rattle.dsd_end.proofs.NoiseHeard.{noise_both}
use Rattle.dsd_end.proofs.PollsJoined.{so_far_to}
use Rattle.dsd_end.proofs.end.End.run.Goals as goal

pub loop-end-preserved : goal.loop-end-preserved
loop-end-preserved g c =
    let T = g.T.Station.tells in
    let was = c.loop-end.invariant in
    let ch = g.D.Decider.chooser c.args.self.now.decider in
    let old = g.T.Station.told c.args.station.now in
    let mid = g.T.Station.told c.loop-end.station in
    let new = g.T.Station.told c.poll.new.station in
    let at = c.loop-end.self.core.standing in
    let to = c.poll.new.self.core.standing in
    let step = c.in-Ok-Running.ensures.step in
    record {
      decider = c.poll.ensures.decider ∙ was.decider;
      rests = λ tells fine. c.in-Ok-Running.ensures.rests tells;
      faults = c.in-Ok-Running.ensures.cause ∙ was.faults;
      header = c.poll.ensures.header ∙ was.header;
      failing = c.in-Ok-Running.ensures.fine ∙ sym step.next.fine ∙ was.failing;
      talk = λ tells. hears_then old mid new (was.talk tells) (c.poll.ensures.talk tells);
      calls = λ tells. calls_then old mid new (was.calls tells) (c.poll.ensures.calls tells);
      stays = λ tells before. c.poll.ensures.stays tells (was.stays tells before);
      steps = so_far_more T ch c.args.self.now.core.standing old at to mid new was.steps (subst (λ (x : Chooser). Polled T x at to mid new) was.decider step) c.in-Ok-Running.ensures.patience
          (running_goes to.line (sym c.in-Ok-Running.field-0-is ∙ c.in-Ok-Running.ensures.turn));
      runs = λ tells first beginning runs.
          (subst (λ (x : Chooser). Runs x first beginning at mid → Runs x first beginning to new) was.decider (c.poll.ensures.runs tells first beginning)) (was.runs tells first beginning runs);
    }

pub returns-in-Ok-Ended-clause-steps : goal.returns-in-Ok-Ended-clause-steps
returns-in-Ok-Ended-clause-steps g c =
    let T = g.T.Station.tells in
    let was = c.loop-end.invariant in
    let mid = g.T.Station.told c.loop-end.station in
    let new = g.T.Station.told c.poll.new.station in
    let at = c.loop-end.self.core.standing in
    let to = c.poll.new.self.core.standing in
    so_far_last T (g.D.Decider.chooser c.args.self.now.decider) c.args.self.now.core.standing (g.T.Station.told c.args.station.now) at to mid new was.steps
    (subst (λ (x : Chooser). Polled T x at to mid new) was.decider c.in-Ok-Ended.ensures.step) c.in-Ok-Ended.ensures.patience

pub returns-in-Ok-Ended-clause-calls : goal.returns-in-Ok-Ended-clause-calls
returns-in-Ok-Ended-clause-calls g c = λ tells.
    calls_then (g.T.Station.told c.args.station.now) (g.T.Station.told c.loop-end.station) (g.T.Station.told c.poll.new.station) (c.loop-end.invariant.calls tells) (c.poll.ensures.calls tells)

pub returns-in-Err-clause-calls : goal.returns-in-Err-clause-calls
returns-in-Err-clause-calls g c = λ tells.
    calls_then (g.T.Station.told c.args.station.now) (g.T.Station.told c.loop-end.station) (g.T.Station.told c.poll.new.station) (c.loop-end.invariant.calls tells) (c.poll.ensures.calls tells)

pub returns-in-Err-clause-full : goal.returns-in-Err-clause-full
returns-in-Err-clause-full g c =
    let T = g.T.Station.tells in
    let was = c.loop-end.invariant in
    let ch = g.D.Decider.chooser c.args.self.now.decider in
    let at = c.loop-end.self.core.standing in
    let mid = g.T.Station.told c.loop-end.station in
    let new = g.T.Station.told c.poll.new.station in
    end_full_map Turn SessionEnd (PollFull T (g.D.Decider.chooser c.loop-end.self.decider) at mid new) (RunFull ch c.args.self.now.core.standing) c.in-Err.fault
    (λ n k. so_far_full T ch c.args.self.now.core.standing at (g.T.Station.told c.args.station.now) mid new n was.steps (subst (λ (x : Chooser). PollFull T x at mid new n) was.decider k)) c.in-Err.ensures.full

pub returns-in-Err-clause-noise_steps : goal.returns-in-Err-clause-noise_steps
returns-in-Err-clause-noise_steps g c =
    let T = g.T.Station.tells in
    let was = c.loop-end.invariant in
    let ch = g.D.Decider.chooser c.args.self.now.decider in
    let first = c.args.self.now.core.standing in
    let old = g.T.Station.told c.args.station.now in
    let at = c.loop-end.self.core.standing in
    let to = c.poll.new.self.core.standing in
    let mid = g.T.Station.told c.loop-end.station in
    let new = g.T.Station.told c.poll.new.station in
    noise_both Turn SessionEnd (λ n. IsNoise to n × Polled T (g.D.Decider.chooser c.loop-end.self.decider) at (with_flags to false false) mid new) (λ n. 0 < patience at)
    (λ n. PolledAlong T ch first (with_flags to false false) old new) c.in-Err.fault
    (λ n k some. so_far_to T ch first old at (with_flags to false false) mid new was.steps (subst (λ (x : Chooser). Polled T x at (with_flags to false false) mid new) was.decider k.1) some)
    c.in-Err.ensures.noise c.in-Err.ensures.patient

pub returns-in-Err-clause-stays : goal.returns-in-Err-clause-stays
returns-in-Err-clause-stays g c = λ tells before. c.poll.ensures.stays tells (c.loop-end.invariant.stays tells before)
