use Rattle.std.proofs.Common.{rules, ◌≡◌, ◌<◌, ◌+◌, ◌++◌, [], ◌∷◌, List, length, drop, filter_map, sym, subst}
use Rattle.dsd_journal.specs.declared.entry.Entry.{Entry}
use Rattle.dsd_journal.specs.declared.entry.EntryKind.TheVariants.{Signed}
use Rattle.dex_cli.specs.JournalSummaries.{entry_told}
use Rattle.dex_cli.specs.declared.entry_summary.EntrySummary.{EntrySummary}
use Rattle.dex_cli.proofs.LegalSets.{one_told}
use Rattle.dex_cli.proofs.journal_summary.entry_summaries.Goals as goal

pub loop-index-preserved : goal.loop-index-preserved
loop-index-preserved c =
    let none : Entry = record { kind = Signed; payload = [] } in
    let inside : c.loop-index.index < length c.args.journal.now.entries = (search rules) in
    let items : c.push.new.self.items ≡ c.loop-index.entries.items ++ c.in_ok-entry.entry ∷ [] = (search rules) in
    subst (λ (l : List EntrySummary). l ++ filter_map entry_told (drop (c.loop-index.index + 1) c.args.journal.now.entries) ≡ filter_map entry_told c.args.journal.now.entries) (sym items)
    (one_told c.args.journal.now.entries c.loop-index.index none c.loop-index.entries.items (filter_map entry_told c.args.journal.now.entries) c.in_ok-entry.entry inside (c.in_ok-entry.ensures none) c.loop-index.invariant)
