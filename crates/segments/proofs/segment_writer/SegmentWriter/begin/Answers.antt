use Rattle.std.proofs.Common.{◌∙◌, sym, subst, ℕ}
use Rattle.segments.specs.SegmentWriting.{KeepsWriter}
use Rattle.segments.proofs.Written.{keeps_begin, sees_begin}
use Rattle.segments.proofs.segment_writer.SegmentWriter.begin.Goals as goal

pub invariant_of-self-2 : goal.invariant_of-self-2
invariant_of-self-2 c =
    subst (λ (n : ℕ). KeepsWriter c.extend.new.text.items c.self.inside.ended n) (sym (c.len-self-inside.ensures ∙ c.extend.new.text.ok.0))
    (keeps_begin c.self.inside.text.items c.self.inside.ended c.self.inside.filled c.self.invariant c.args.self.now c.self.view_is
    c.args.id.now c.extend.new.text.items c.requires.ended c.requires.id c.in_ok-extend.ensures.ok)

pub returns : goal.returns
returns c =
    sees_begin c.self.inside.text.items c.self.inside.ended c.self.inside.filled c.self.invariant c.args.self.now c.self.view_is
    c.args.id.now c.extend.new.text.items c.requires.ended c.requires.id c.in_ok-extend.ensures.ok
