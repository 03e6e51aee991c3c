use Rattle.std.proofs.Common.{[]}
use Rattle.dsd_station.proofs.Joined.{on_err}
use Rattle.dex_cli.specs.Verdicts.{read_of}
use Rattle.dex_cli.proofs.InPieces.{checked_so}
use Rattle.dex_cli.proofs.checking.check_by.Goals as goal

pub returns-in-Ok-clause-told : goal.returns-in-Ok-clause-told
returns-in-Ok-clause-told g c =
    let read = c.in-Ok.ensures.read in
    checked_so g.C.Checking.kind (read_of g.S.Source.left g.S.Source.faults c.args.source.now c.read_through.new.source) read.0 c.judge.result read.2 (c.judge.ensures read.0 (read.3 [] c.requires.begun) read.1)

pub returns-in-Ok-clause-taken : goal.returns-in-Ok-clause-taken
returns-in-Ok-clause-taken g c =
    let read = c.in-Ok.ensures.read in
    on_err c.judge.result (read.0, read.2.few, read.2.taken)
