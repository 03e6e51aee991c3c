use Rattle.std.proofs.Common.{[], List, ℕ, sym, subst}
use Rattle.dsd_record.specs.SetTexts.{IsSet}
use Rattle.dsd_journal.specs.declared.entry.Entry.{Entry}
use Rattle.dsd_journal.specs.declared.entry.EntryKind.TheVariants.{Signed}
use Rattle.dex_cli.proofs.LegalSets.{set_at}
use Rattle.dex_cli.proofs.journal_summary.entry_summary.Goals as goal

pub unreachable-requires : goal.unreachable-requires
unreachable-requires c =
    let none : Entry = record { kind = Signed; payload = [] } in
    let its = set_at c.args.journal.now.header.role c.args.journal.now.entries c.args.index none c.requires.legal c.requires.within in
    let text = subst (λ (t : List ℕ). IsSet its.0 t) (sym (c.payload.ensures.value none)) its.1 in
    let clauses = rw c.in-Err-Refused.field-0-is at c.in-Err-Refused.ensures in
    let never = clauses.only its.0 text in
    cc
