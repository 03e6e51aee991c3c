use Rattle.std.proofs.Common.{◌≡◌, ℕ, List}
use Rattle.dsd_journal.specs.declared.entry.EntryKind.TheVariants.{Took}
use Rattle.delivery_book.specs.Refusals.{take_fault}
use Rattle.delivery_book.proofs.Staged.{flushes_so}
use Rattle.delivery_book.proofs.book.Book.take.Goals as goal

pub returns-clause-told : goal.returns-clause-told
returns-clause-told g c = λ tells asked.
    flushes_so (take_fault c.args.self.now.header.role c.args.self.now.known c.args.set.now) Took (λ (text : List ℕ). text ≡ c.args.set.now) c.args.self.now c.take_later-staged.new.self _ c.make_sure.new.self c.take_later-staged.result c.make_sure.result (g.T.Station.told c.args.station.now) (g.T.Station.told c.make_sure.new.station) c.take_later-staged.ensures.exact c.requires.none_staged c.make_sure.ensures.refused (c.make_sure.ensures.told tells) asked
