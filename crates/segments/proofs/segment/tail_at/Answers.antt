use Rattle.std.proofs.Common.{◌∙◌, ◌-◌, length, refl}
use Rattle.segments.proofs.Parted.{tail_found}
use Rattle.segments.proofs.segment.tail_at.Goals as goal

pub between-requires : goal.between-requires
between-requires c =
    let at = tail_found c.args.bytes.now c.args.ends.now c.args.number c.part_start.result c.requires.spelled c.requires.inside c.part_start.ensures (length c.args.ends.now - 1) refl c.requires.parted in
    record { ordered = at.ordered; inside = at.inside }

pub returns-clause-value : goal.returns-clause-value
returns-clause-value c =
    c.between.ensures.value ∙ (tail_found c.args.bytes.now c.args.ends.now c.args.number c.part_start.result c.requires.spelled c.requires.inside c.part_start.ensures (length c.args.ends.now - 1) refl c.requires.parted).value
