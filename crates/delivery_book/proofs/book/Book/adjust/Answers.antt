use Rattle.dsd_journal.specs.declared.entry.EntryKind.TheVariants.{Signed}
use Rattle.delivery_book.specs.Answering.{IsAdjustment}
use Rattle.delivery_book.specs.Refusals.{adjust_fault}
use Rattle.delivery_book.proofs.Staged.{flushes_so}
use Rattle.delivery_book.proofs.book.Book.adjust.Goals as goal

pub returns-clause-told : goal.returns-clause-told
returns-clause-told g c = λ tells asked.
    flushes_so (adjust_fault c.args.self.now.header.role c.args.self.now.known c.args.number.now c.args.changes.now c.args.signature.now) Signed (IsAdjustment c.args.self.now.header.role c.args.self.now.known c.args.number.now c.args.changes.now c.args.signature.now) c.args.self.now c.adjust_later-staged.new.self _ c.make_sure.new.self c.adjust_later-staged.result c.make_sure.result (g.T.Station.told c.args.station.now) (g.T.Station.told c.make_sure.new.station) c.adjust_later-staged.ensures.exact c.requires.none_staged c.make_sure.ensures.refused (c.make_sure.ensures.told tells) asked
