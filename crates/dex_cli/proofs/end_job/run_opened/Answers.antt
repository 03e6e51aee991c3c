use Rattle.std.proofs.Common.{ℕ, sym, subst}
use Rattle.dsd_end.specs.FullTurns.{RunFull}
use Rattle.end_report.specs.declared.ending.Ending.TheVariants as endings
use Rattle.dex_cli.specs.Formatting.{served_of}
use Rattle.dex_cli.proofs.EndsOf.{told_so}
use Rattle.dex_cli.proofs.end_job.run_opened.Goals as goal

pub returns-in-Ok-clause-told : goal.returns-in-Ok-clause-told
returns-in-Ok-clause-told g c =
    told_so g.T.Station.tells (g.D.Decider.chooser c.args.end.now.decider) (g.D.Decider.chooser c.run.new.self.decider) c.args.end.now.core.standing c.run.new.self.core.standing
    (served_of g.T.Station.told g.T.Station.faults c.args.station.now c.run.new.station) (endings.Session c.in-Ok.ended) c.run.new.self.core.book.header c.run.new.self.core.book.known c.report.result
    c.in-Ok.ensures.decider (c.in-Ok.ensures.ended, c.in-Ok.ensures.steps) c.in-Ok.ensures.entries c.in-Ok.ensures.rests c.report.ensures

pub returns-in-Err-Noise-clause-told : goal.returns-in-Err-Noise-clause-told
returns-in-Err-Noise-clause-told g c =
    let clauses = rw c.in-Err-Noise.field-0-is at c.in-Err-Noise.ensures in
    told_so g.T.Station.tells (g.D.Decider.chooser c.args.end.now.decider) (g.D.Decider.chooser c.run.new.self.decider) c.args.end.now.core.standing c.run.new.self.core.standing
    (served_of g.T.Station.told g.T.Station.faults c.args.station.now c.run.new.station) endings.Noise c.run.new.self.core.book.header c.run.new.self.core.book.known c.report-in-Err-Noise.result
    clauses.decider ((c.in-Err-Noise.field-0-0, clauses.noise), clauses.noise_steps) clauses.entries clauses.noisy c.report-in-Err-Noise.ensures

pub returns-in-Err-Full-clause-told : goal.returns-in-Err-Full-clause-told
returns-in-Err-Full-clause-told g c =
    let clauses = rw c.in-Err-Full.field-0-is at c.in-Err-Full.ensures in
    subst (λ (n : ℕ). RunFull (g.D.Decider.chooser c.args.end.now.decider) c.args.end.now.core.standing n) (sym c.in-Err-Full.length-is) clauses.full
