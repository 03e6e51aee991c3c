use Rattle.std.proofs.Common.{◌≡◌, ◌++◌, drop, filter_map}
use Rattle.dex_cli.specs.JournalSummaries.{entry_told}
use Rattle.dex_cli.proofs.journal_summary.entry_summaries.Given as goal

-- what is told, and what is still to be told
abbrev pub invariant-loop-index : goal.invariant-loop-index
invariant-loop-index l = l.entries.items ++ filter_map entry_told (drop l.index l.journal.entries) ≡ filter_map entry_told l.journal.entries
