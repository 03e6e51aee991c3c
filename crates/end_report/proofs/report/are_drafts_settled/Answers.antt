use Rattle.std.proofs.Common.{sym, is_some, rules}
use Rattle.base_record_894.specs.BaseRecord.{BaseRecord}
use Rattle.delivery_book.specs.Finals.{final_of}
use Rattle.end_report.specs.Reports.{are_drafts_final}
use Rattle.end_report.proofs.Printing.{fails_at, passes_more}
use Rattle.end_report.proofs.report.are_drafts_settled.Goals as goal

pub returns-then-is_none : goal.returns-then-is_none
returns-then-is_none g c =
    let known = c.args.book.now.known in
    let drafts = (g.D.Decider.chooser c.args.decider.now).drafts in
    fails_at (λ (draft : BaseRecord). is_some (final_of known draft.number)) drafts c.loop-index.index c.in-Some.draft.now (are_drafts_final known drafts)
    (sym c.in-Some.ensures.value) (search rules) c.loop-index.invariant.1

pub loop-index-preserved : goal.loop-index-preserved
loop-index-preserved g c =
    let known = c.args.book.now.known in
    let drafts = (g.D.Decider.chooser c.args.decider.now).drafts in (
      c.drafts-index-end.ensures.value,
      passes_more (λ (draft : BaseRecord). is_some (final_of known draft.number)) drafts c.loop-index.index c.in-Some.draft.now (are_drafts_final known drafts)
          (sym c.in-Some.ensures.value) (search rules) c.loop-index.invariant.1,
    )
