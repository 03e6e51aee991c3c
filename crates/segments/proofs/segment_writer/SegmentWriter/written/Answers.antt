use Rattle.std.proofs.Common.{◌∙◌, sym, subst}
use Rattle.segments.specs.SegmentWriting.{IsWrittenText}
use Rattle.segments.proofs.Written.{whole_text, whole_written}
use Rattle.segments.proofs.segment_writer.SegmentWriter.written.Goals as goal

pub returns-clause-value : goal.returns-clause-value
returns-clause-value c =
    c.as_slice.ensures.value ∙ whole_text c.self.inside.text.items c.self.inside.ended c.self.inside.filled c.self.invariant c.args.self.now c.self.view_is c.requires

pub returns-clause-spelled : goal.returns-clause-spelled
returns-clause-spelled c =
    subst IsWrittenText (sym c.as_slice.ensures.value) (whole_written c.self.inside.text.items c.self.inside.ended c.self.inside.filled c.self.invariant c.args.self.now c.self.view_is c.requires)
