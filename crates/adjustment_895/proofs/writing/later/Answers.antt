use Rattle.std.proofs.Common.{◌∙◌}
use Rattle.adjustment_895.proofs.writing.later.Goals as goal

pub body-requires : goal.body-requires
body-requires c = rw (c.as_slice.ensures ∙ c.lines.ensures.value, c.stated.ensures.value, c.signature.ensures) c.requires
