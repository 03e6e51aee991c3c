use Rattle.std.proofs.Common.{◌≤◌, rules, subst}
use Rattle.dsd_values.specs.declared.cents.TheConstants.Cents.{MAX}
use Rattle.dsd_record.proofs.Chains.{chain_kept}
use Rattle.dsd_record.proofs.record.DsdRecord.apply.Goals as goal

pub returns-clause-chain : goal.returns-clause-chain
returns-clause-chain c =
    chain_kept c.apply_by_faults.result c.args.self.now c.apply_by_faults.new.self c.args.answer.now c.args.check (subst (λ n. n ≤ MAX) c.amount.ensures (search rules)) c.apply_by_faults.ensures.exact
