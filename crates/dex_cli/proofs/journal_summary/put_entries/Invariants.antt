use Rattle.std.proofs.Common.{◌≡◌, ◌++◌, ◌+◌, drop}
use Rattle.dex_cli.specs.Texts.{entries_text}
use Rattle.dex_cli.proofs.journal_summary.put_entries.Given as goal

-- what is printed, and what is still to be printed
abbrev pub invariant-loop-entry : goal.invariant-loop-entry
invariant-loop-entry l = (l.number ≡ l.entry-index) × (l.out.items ++ entries_text (l.number + 1) (drop l.entry-index l.entries) ≡ l.fn.out.items ++ entries_text 1 l.entries)
