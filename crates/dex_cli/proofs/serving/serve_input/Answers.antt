use Rattle.std.proofs.Common.{inl}
use Rattle.dex_cli.proofs.ByInput.{still_idle}
use Rattle.dex_cli.proofs.serving.serve_input.Goals as goal

pub returns-then-input-gt-INPUT_BYTES-clause-left : goal.returns-then-input-gt-INPUT_BYTES-clause-left
returns-then-input-gt-INPUT_BYTES-clause-left g c = λ tells. inl (still_idle c.args.names.now (g.T.Station.told c.args.station.now))
