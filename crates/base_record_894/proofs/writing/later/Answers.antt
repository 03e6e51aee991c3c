use Rattle.std.proofs.Common.{◌∙◌}
use Rattle.base_record_894.proofs.writing.later.Goals as goal

pub body-requires : goal.body-requires
body-requires c = rw (c.as_slice.ensures ∙ c.lines.ensures, c.as_slice-2.ensures ∙ c.extras.ensures.value, c.stated.ensures.value, c.signature.ensures) c.requires
