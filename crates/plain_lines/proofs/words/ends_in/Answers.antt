use Rattle.std.proofs.Common.{arith, sym, ap, ◌∙◌}
use Rattle.plain_lines.proofs.Ends.{kept_full, kept_other, kept_space}
use Rattle.plain_lines.proofs.words.ends_in.Goals as goal
use Rattle.plain_lines.proofs.words.ends_in.Goals.{then-text-place-eq32+else-is_full, else-text-place-eq32}

pub returns-then-is_full : goal.returns-then-is_full
returns-then-is_full c = kept_full c.loop-place.ends.items _ _ 16 c.loop-place.invariant.kept (sym c.is_full.ensures.value ∙ c.if-is_full.true)

pub loop-place-preserved : goal.loop-place-preserved
loop-place-preserved c = record {
  inside = omega arith;
  kept = elim c.if-text-place-eq32.branch [
    | then-text-place-eq32+else-is_full w ↦ kept_space c.args.text.now _ _ _ c.loop-place.place (ap (λ (e : _). e.items) w.ends-is ∙ w.push.ensures.items) c.loop-place-test.true w.if-text-place-eq32.true c.loop-place.invariant.kept
    | else-text-place-eq32 w ↦ kept_other c.args.text.now _ _ _ c.loop-place.place (ap (λ (e : _). e.items) w.ends-is) c.loop-place-test.true w.if-text-place-eq32.false c.loop-place.invariant.kept
  ];
}

pub returns-else-not-is_full : goal.returns-else-not-is_full
returns-else-not-is_full c = kept_full c.loop-place.ends.items _ _ 16 c.loop-place.invariant.kept (sym c.is_full-2.ensures.value ∙ c.if-not-is_full.false)
