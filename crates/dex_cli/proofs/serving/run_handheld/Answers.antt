use Rattle.std.proofs.Common.{inl, refl}
use Rattle.dsd_values.specs.declared.role.Role.TheVariants.{Supplier}
use Rattle.handheld_core.specs.Reading.{drafts_of}
use Rattle.dex_cli.specs.Formatting.{served_of}
use Rattle.dex_cli.proofs.ByInput.{refused_as, refused_so, runs_so, says_none, serves_so, still_idle}
use Rattle.dex_cli.proofs.serving.run_handheld.Goals as goal

pub returns-in-Ok-clause-told : goal.returns-in-Ok-clause-told
returns-in-Ok-clause-told g c =
    serves_so Supplier c.args.names.now c.args.input.now c.requires.short _ (c.in-Ok.drafts, c.in-Ok.ensures.found, refl) g.T.Station.tells
    (served_of g.T.Station.told g.T.Station.faults c.args.station.now c.run_end.new.station) c.run_end.result c.run_end.ensures.told

pub returns-in-Ok-clause-left : goal.returns-in-Ok-clause-left
returns-in-Ok-clause-left g c = λ tells.
    runs_so Supplier c.args.names.now c.args.input.now c.requires.short _ (c.in-Ok.drafts, c.in-Ok.ensures.found, refl) (g.T.Station.told c.args.station.now) (g.T.Station.told c.run_end.new.station)
    (c.run_end.ensures.left tells)

pub returns-in-Err-Refused-clause-told : goal.returns-in-Err-Refused-clause-told
returns-in-Err-Refused-clause-told g c =
    let clauses = rw c.in-Err-Refused.field-0-is at c.in-Err-Refused.ensures in
    refused_so g.T.Station.tells Supplier c.args.names.now c.args.input.now (served_of g.T.Station.told g.T.Station.faults c.args.station.now c.args.station.now) c.refused.result c.in-Err-Refused.place
    c.in-Err-Refused.reason c.requires.short (refused_as c.refused.result _ c.in-Err-Refused.place _ c.in-Err-Refused.reason c.refused.ensures c.in-Err-Refused.place-is c.in-Err-Refused.reason-is)
    (says_none (drafts_of c.args.input.now) c.in-Err-Refused.place c.in-Err-Refused.reason clauses.exact) refl

pub returns-in-Err-Refused-clause-left : goal.returns-in-Err-Refused-clause-left
returns-in-Err-Refused-clause-left g c = λ tells. inl (still_idle c.args.names.now (g.T.Station.told c.args.station.now))

pub returns-in-Err-Memory-clause-left : goal.returns-in-Err-Memory-clause-left
returns-in-Err-Memory-clause-left g c = λ tells. inl (still_idle c.args.names.now (g.T.Station.told c.args.station.now))
