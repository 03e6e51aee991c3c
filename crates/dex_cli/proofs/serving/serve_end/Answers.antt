use Rattle.std.proofs.Common.{inl, rules}
use Rattle.dex_cli.specs.Formatting.{served_of}
use Rattle.dex_cli.specs.Verdicts.{read_of}
use Rattle.dex_cli.proofs.ByInput.{input_runs, input_serves, still_idle}
use Rattle.dex_cli.proofs.serving.serve_end.Goals as goal

pub returns-in-Ok-clause-told : goal.returns-in-Ok-clause-told
returns-in-Ok-clause-told g c =
    input_serves g.T.Station.tells c.args.role c.args.names.now (read_of g.S.Source.left g.S.Source.faults c.args.source.now c.read_up_to.new.source)
    (served_of g.T.Station.told g.T.Station.faults c.args.station.now c.serve_input.new.station) c.deref.result.now c.serve_input.result (search rules) c.serve_input.ensures.told

pub returns-in-Ok-clause-left : goal.returns-in-Ok-clause-left
returns-in-Ok-clause-left g c = λ tells.
    input_runs c.args.role c.args.names.now (read_of g.S.Source.left g.S.Source.faults c.args.source.now c.read_up_to.new.source) c.deref.result.now
    (g.T.Station.told c.args.station.now) (g.T.Station.told c.serve_input.new.station) (search rules) (c.serve_input.ensures.left tells)

pub returns-in-Err-Failed-clause-left : goal.returns-in-Err-Failed-clause-left
returns-in-Err-Failed-clause-left g c = λ tells. inl (still_idle c.args.names.now (g.T.Station.told c.args.station.now))

pub returns-in-Err-Memory-clause-left : goal.returns-in-Err-Memory-clause-left
returns-in-Err-Memory-clause-left g c = λ tells. inl (still_idle c.args.names.now (g.T.Station.told c.args.station.now))
