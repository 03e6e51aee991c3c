use Rattle.std.proofs.Common.{rules}
use Rattle.transaction_set.proofs.Small.{none_then}
use Rattle.dsd_record.proofs.Faults.{faultless, first_none}
use Rattle.dsd_record.proofs.record.DsdRecord.apply_by_faults.Goals as goal

pub take-requires-clause-applies : goal.take-requires-clause-applies
take-requires-clause-applies c =
    faultless c.args.self.now c.args.answer.now (none_then _ _ (first_none _ c.check_names.result c.in_ok-check_names.field-0 c.check_names.ensures (search rules)) c.in_ok-after.ensures.0)
