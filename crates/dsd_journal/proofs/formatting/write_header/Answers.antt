use Rattle.std.proofs.Common.{◌∙◌}
use Rattle.dsd_journal.proofs.Formatted.{header_failed, header_written}
use Rattle.dsd_journal.proofs.formatting.write_header.Goals as goal

pub returns-in-Ok-clause-told : goal.returns-in-Ok-clause-told
returns-in-Ok-clause-told g c = λ tells empty.
    header_written c.args.header.now c.deref.result.now (c.deref.ensures.0 ∙ c.formatted_bytes-bytes.ensures.items) c.formatted_bytes-bytes.ensures.titled (g.T.Station.told c.args.station.now) (g.T.Station.told c.write_at.new.self)
    empty c.in-Ok.field-0 (g.T.Station.told c.sync.new.self) (c.in-Ok.ensures.told tells) c.sync.result (c.sync.ensures.told tells)

pub returns-in-Err-clause-told : goal.returns-in-Err-clause-told
returns-in-Err-clause-told g c = λ tells empty.
    header_failed c.args.header.now c.deref.result.now (c.deref.ensures.0 ∙ c.formatted_bytes-bytes.ensures.items) c.formatted_bytes-bytes.ensures.titled (g.T.Station.told c.args.station.now) (g.T.Station.told c.write_at.new.self)
    empty c.in-Err.failed (c.in-Err.ensures.told tells)
