use Rattle.std.proofs.Common.{◌∙◌, sym, subst, ap, ℕ, arith}
use Rattle.segments.specs.SegmentWriting.{Gains, KeepsWriter, Written, parts_of_begun, written_in}
use Rattle.segments.proofs.Written.{filled_inside, line_length, keeps_end, sees_end, gains_end}
use Rattle.segments.proofs.segment_writer.SegmentWriter.end.Goals as goal

pub end_line-requires : goal.end_line-requires
end_line-requires c = filled_inside c.self.inside.text.items c.self.inside.ended c.self.inside.filled c.self.invariant c.args.self.now c.self.view_is

pub returns-then-length-gt-SEGMENT_WRITTEN-clause-judged : goal.returns-then-length-gt-SEGMENT_WRITTEN-clause-judged
returns-then-length-gt-SEGMENT_WRITTEN-clause-judged c =
    let size = line_length c.self.inside.text.items c.self.inside.ended c.self.inside.filled c.self.invariant c.args.self.now c.self.view_is c.requires in
    let long = c.if-length-gt-SEGMENT_WRITTEN.true in
    (omega arith, sym size)

pub returns-clause-judged : goal.returns-clause-judged
returns-clause-judged c =
    let size = line_length c.self.inside.text.items c.self.inside.ended c.self.inside.filled c.self.invariant c.args.self.now c.self.view_is c.requires in
    let short = c.if-length-gt-SEGMENT_WRITTEN.false in
    omega arith

pub invariant_of-self-2 : goal.invariant_of-self-2
invariant_of-self-2 c =
    subst (λ (n : ℕ). KeepsWriter c.end_line.new.text.items n n) (sym (c.len-self-inside.ensures ∙ c.end_line.new.text.ok.0))
    (keeps_end c.self.inside.text.items c.self.inside.ended c.self.inside.filled c.self.invariant c.args.self.now c.self.view_is
    c.end_line.new.text.items c.requires c.if-length-gt-SEGMENT_WRITTEN.false c.in_ok-end_line.ensures.ok)

pub returns-clause-ok : goal.returns-clause-ok
returns-clause-ok c =
    ap (written_in c.end_line.new.text.items) (c.len-self-inside.ensures ∙ c.end_line.new.text.ok.0)
    ∙ sees_end c.self.inside.text.items c.self.inside.ended c.self.inside.filled c.self.invariant c.args.self.now c.self.view_is
    c.end_line.new.text.items c.requires c.in_ok-end_line.ensures.ok

pub returns-clause-gains : goal.returns-clause-gains
returns-clause-gains c =
    let seen = ap (written_in c.end_line.new.text.items) (c.len-self-inside.ensures ∙ c.end_line.new.text.ok.0)
    ∙ sees_end c.self.inside.text.items c.self.inside.ended c.self.inside.filled c.self.invariant c.args.self.now c.self.view_is
    c.end_line.new.text.items c.requires c.in_ok-end_line.ensures.ok in
    subst (λ (w : Written). Gains (parts_of_begun c.args.self.now.begun) c.args.self.now.text w.text) (sym seen)
    (gains_end c.self.inside.text.items c.self.inside.ended c.self.inside.filled c.self.invariant c.args.self.now c.self.view_is
    c.requires c.if-length-gt-SEGMENT_WRITTEN.false)
