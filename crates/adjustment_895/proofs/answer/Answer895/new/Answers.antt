use Rattle.std.proofs.Common.{◌<◌, ◌≤◌, ◌^◌, arith, subst}
use Rattle.dsd_values.specs.declared.cents.TheConstants.Cents.{MAX as MOST_CENTS}
use Rattle.dsd_values.specs.declared.level.TheConstants.Level.{MAX as HIGHEST}
use Rattle.transaction_set.specs.SoundLines.{IsPlainNumber, IsPlainWord}
use Rattle.adjustment_895.specs.Making.{IsPlainHead}
use Rattle.adjustment_895.proofs.Made.{made_answer}
use Rattle.adjustment_895.proofs.answer.Answer895.new.Goals as goal

pub invariant_of-result : goal.invariant_of-result
invariant_of-result c =
    let check : c.args.head.check < 2 ^ 16 = omega arith in
    let level : c.args.head.level ≤ HIGHEST = omega (arith, c.get-2.ensures.value, c.get-2.ensures.within) in
    let amount : c.args.totals.amount ≤ MOST_CENTS = omega (arith, c.get-3.ensures.value, c.get-3.ensures.within) in
    let plain : IsPlainHead c.args.head = record {
      number = subst IsPlainNumber c.as_slice.ensures.value (record { characters = c.as_slice.ensures.characters; filled = c.as_slice.ensures.filled; short = c.as_slice.ensures.short });
      check = check;
      level = level;
      receiver_number = subst IsPlainWord c.as_slice-2.ensures.value (record { characters = c.as_slice-2.ensures.characters; short = c.as_slice-2.ensures.short });
    } in
    made_answer c.args.head c.args.lines c.args.totals c.args.signature plain c.requires.sound c.requires.few c.requires.levelled c.requires.quantity amount c.mark.ensures.invariant
