use Rattle.std.proofs.Common.{◌++◌, sym, rules}
use Rattle.base_record_894.specs.BaseRecord.{BaseRecord}
use Rattle.delivery_book.specs.Lookups.{seen_of}
use Rattle.end_report.specs.Reports.{unproposed_by, unproposed_text}
use Rattle.end_report.proofs.Printing.{printed_more}
use Rattle.end_report.proofs.report.put_unproposed.Goals as goal

pub loop-index-preserved : goal.loop-index-preserved
loop-index-preserved g c =
    let known = c.args.book.now.known in
    let drafts = (g.D.Decider.chooser c.args.decider.now).drafts in (
      c.drafts-index-end.ensures.value,
      printed_more (λ (draft : BaseRecord). unproposed_by draft.number (seen_of known draft.number)) drafts c.loop-index.index c.in-Some.draft.now c.loop-index.out.items c.put_draft.new.out.items
          (c.args.out.now.items ++ unproposed_text known drafts) (sym c.in-Some.ensures.value) (search rules) c.loop-index.invariant.1,
    )
