use Rattle.std.proofs.Common.{◌≡◌, ℕ, List, Ok}
use Rattle.dsd_journal.specs.declared.entry.EntryKind.TheVariants.{Signed}
use Rattle.base_record_894.specs.WrittenText.{written_of as base_written}
use Rattle.delivery_book.specs.Refusals.{propose_fault}
use Rattle.delivery_book.specs.Signing.{next_control}
use Rattle.delivery_book.proofs.Staged.{flushes_so, rests_still}
use Rattle.delivery_book.proofs.book.Book.propose.Goals as goal

pub make_sure-requires-clause-rests : goal.make_sure-requires-clause-rests
make_sure-requires-clause-rests g c = λ tells.
    rests_still (propose_fault c.args.self.now.header.role c.args.self.now.known c.args.base) Signed (λ (text : List ℕ). base_written c.args.base (next_control c.args.self.now.known) ≡ Ok text) c.args.self.now c.propose_later-staged.new.self c.propose_later-staged.result (g.T.Station.told c.args.station.now) c.propose_later-staged.ensures.exact (c.requires.rests tells)

pub returns-clause-told : goal.returns-clause-told
returns-clause-told g c = λ tells asked.
    flushes_so (propose_fault c.args.self.now.header.role c.args.self.now.known c.args.base) Signed (λ (text : List ℕ). base_written c.args.base (next_control c.args.self.now.known) ≡ Ok text) c.args.self.now c.propose_later-staged.new.self _ c.make_sure.new.self c.propose_later-staged.result c.make_sure.result (g.T.Station.told c.args.station.now) (g.T.Station.told c.make_sure.new.station) c.propose_later-staged.ensures.exact c.requires.none_staged c.make_sure.ensures.refused (c.make_sure.ensures.told tells) asked
