use Rattle.std.proofs.Common.{◌<◌, length, sym, ◌∙◌, ap, arith}
use Rattle.dex_line.specs.Hearing.{hearing}
use Rattle.dex_line.specs.Scanning.{held}
use Rattle.dex_line.proofs.Many.{text_heard, byte_heard, none_seen}
use Rattle.dex_line.proofs.begun.Begun.hear.Goals as goal

pub returns-then-place-bytes-clause-heard : goal.returns-then-place-bytes-clause-heard
returns-then-place-bytes-clause-heard c =
    let text = c.pass_text-place.ensures in
    text_heard _ _ _ _ _ _ text.onward c.loop-place.invariant.heard text.left text.begun

pub returns-then-is_some-clause-heard : goal.returns-then-is_some-clause-heard
returns-then-is_some-clause-heard c =
    let text = c.pass_text-place.ensures in
    let before = text_heard _ _ _ _ _ _ text.onward c.loop-place.invariant.heard text.left text.begun in
    let inside : c.pass_text-place.result < length c.args.bytes.now = omega arith in
    byte_heard _ _ _ _ _ _ c.hear_byte-ended.result inside before c.hear_byte-ended.ensures.answer c.hear_byte-ended.ensures.left

pub loop-place-preserved : goal.loop-place-preserved
loop-place-preserved c =
    let text = c.pass_text-place.ensures in
    let before = text_heard _ _ _ _ _ _ text.onward c.loop-place.invariant.heard text.left text.begun in
    let inside : c.pass_text-place.result < length c.args.bytes.now = omega arith in
    let here = byte_heard _ _ _ _ _ _ c.hear_byte-ended.result inside before c.hear_byte-ended.ensures.answer c.hear_byte-ended.ensures.left in
    record {
      heard = here ∙ ap (hearing (held c.hear_byte-ended.new.self)) (none_seen c.hear_byte-ended.result _ (sym c.if-is_some.ensures));
      inside = omega arith;
      sound = c.hear_byte-ended.ensures.sound;
    }
