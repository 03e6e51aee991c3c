use Rattle.std.proofs.Common.{nat_eq, ◌≡◌, ◌≤◌, ◌∷◌, ◌++◌, [], subst}
use Rattle.plain_lines.specs.Counting.{AreCounts, IsRightCounted, counts_numbered, number_of}
use Rattle.plain_lines.proofs.Counts.{pushed_right}
use Rattle.plain_lines.proofs.Keyed.{pushed_is, pushed_under, turned_numbers}
use Rattle.plain_lines.proofs.counted_lines.CountedLines.push.Goals as goal

pub invariant_of-self-2 : goal.invariant_of-self-2
invariant_of-self-2 c =
    let is : c.insert.new.self.entries ≡ counts_numbered (c.args.self.now ++ c.args.counted ∷ []) = pushed_under nat_eq turned_numbers number_of c.self.inside.counts.entries c.insert.new.self.entries c.args.self.now c.args.counted c.self.invariant.0 c.self.view_is c.in_ok-insert.ensures.entries c.requires.apart in
    let right : IsRightCounted c.args.counted = record {
      least = subst (λ n. 1 ≤ n) c.get.ensures.value c.get.ensures.low;
      most = subst (λ n. n ≤ 9_999) c.get.ensures.value c.get.ensures.high;
      quantity = subst (λ n. n ≤ 99_999) c.get-2.ensures.value c.get-2.ensures.within;
      cost = subst (λ n. n ≤ 999_999_999) c.get-3.ensures.value c.get-3.ensures.within;
    } in
    pushed_right c.insert.new.self.entries c.args.self.now c.args.counted is (subst AreCounts c.self.view_is c.self.invariant.1) right c.requires.apart c.requires.room

pub returns : goal.returns
returns c =
    pushed_is nat_eq turned_numbers number_of c.insert.new.self.entries _ (pushed_under nat_eq turned_numbers number_of c.self.inside.counts.entries c.insert.new.self.entries c.args.self.now c.args.counted c.self.invariant.0 c.self.view_is c.in_ok-insert.ensures.entries c.requires.apart)
