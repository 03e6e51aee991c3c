use Rattle.std.proofs.Common.{◌+◌}
use Rattle.std.proofs.lemmas.List.{take_min}
use Rattle.segments.specs.declared.segment.TheConstants.{SEGMENT_BYTES}
use Rattle.segments.proofs.segment_reader.first_bytes.Goals as goal

pub returns-clause-value : goal.returns-clause-value
returns-clause-value c = rw c.min.ensures (take_min (SEGMENT_BYTES + 1) c.args.rest.now)
