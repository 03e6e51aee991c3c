use Rattle.transaction_set.proofs.RightAllowances.{allowance_found, allowance_sized, allowance_only}
use Rattle.transaction_set.proofs.allowance.read_allowance.Goals as goal

pub returns-clause-found : goal.returns-clause-found
returns-clause-found c = allowance_found c.args.in_line c.args.segment.now c.parse_allowance.result c.parse_allowance.ensures

pub returns-clause-size : goal.returns-clause-size
returns-clause-size c = allowance_sized c.args.in_line c.args.segment.now c.parse_allowance.result (allowance_found c.args.in_line c.args.segment.now c.parse_allowance.result c.parse_allowance.ensures)

pub returns-clause-only : goal.returns-clause-only
returns-clause-only c = allowance_only c.args.in_line c.args.segment.now c.parse_allowance.result c.parse_allowance.ensures
