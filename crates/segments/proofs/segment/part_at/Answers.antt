use Rattle.std.proofs.Common.{◌∙◌}
use Rattle.segments.proofs.Parted.{part_found}
use Rattle.segments.proofs.segment.part_at.Goals as goal

pub between-requires : goal.between-requires
between-requires c =
    let at = part_found c.args.bytes.now c.args.ends.now c.args.number c.part_start.result c.requires.spelled c.requires.inside c.part_start.ensures c.requires.parted in
    record { ordered = at.ordered; inside = at.inside }

pub returns-clause-value : goal.returns-clause-value
returns-clause-value c =
    c.between.ensures.value ∙ (part_found c.args.bytes.now c.args.ends.now c.args.number c.part_start.result c.requires.spelled c.requires.inside c.part_start.ensures c.requires.parted).value
