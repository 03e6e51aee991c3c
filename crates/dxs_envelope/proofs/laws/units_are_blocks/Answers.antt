use Rattle.std.proofs.Common.{lit≤}
use Rattle.dxs_envelope.proofs.LineUnits.{outgoing_fits, units_text}
use Rattle.dxs_envelope.proofs.laws.units_are_blocks.Goals as goal

pub returns-clause-units : goal.returns-clause-units
returns-clause-units c = units_text

pub returns-clause-outgoing : goal.returns-clause-outgoing
returns-clause-outgoing c = outgoing_fits

pub returns-clause-segment : goal.returns-clause-segment
returns-clause-segment c = lit≤ tt
