use Rattle.std.proofs.Common.{◌≡◌, ◌++◌, drop}
use Rattle.dex_cli.specs.Texts.{sets_text}
use Rattle.dex_cli.proofs.text_summary.put_sets.Given as goal

-- what is printed, and what is still to be printed
abbrev pub invariant-loop-set : goal.invariant-loop-set
invariant-loop-set l = l.out.items ++ sets_text (drop l.set-index l.sets) ≡ l.fn.out.items ++ sets_text l.sets
