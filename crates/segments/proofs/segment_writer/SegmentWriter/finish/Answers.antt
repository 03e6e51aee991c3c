use Rattle.std.proofs.Common.{◌∙◌, sym, subst}
use Rattle.segments.specs.SegmentWriting.{IsWrittenText}
use Rattle.segments.proofs.Written.{whole_text, whole_written}
use Rattle.segments.proofs.segment_writer.SegmentWriter.finish.Goals as goal

pub returns-clause-value : goal.returns-clause-value
returns-clause-value c =
    c.from_bytes.ensures ∙ whole_text c.self.inside.text.items c.self.inside.ended c.self.inside.filled c.self.invariant c.args.self c.self.view_is c.requires

pub returns-clause-spelled : goal.returns-clause-spelled
returns-clause-spelled c =
    subst IsWrittenText (sym c.from_bytes.ensures) (whole_written c.self.inside.text.items c.self.inside.ended c.self.inside.filled c.self.invariant c.args.self c.self.view_is c.requires)
