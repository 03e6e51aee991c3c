use Rattle.std.proofs.Common.{arith}
use Rattle.dsd_journal.proofs.Titles.{id_at}
use Rattle.dsd_journal.proofs.header.header_in.Goals as goal

pub id_of-requires : goal.id_of-requires
id_of-requires c = id_at c.args.bytes.now c.requires.whole c.requires.fits 6 (omega arith) (omega arith)

pub id_of-requires-2 : goal.id_of-requires-2
id_of-requires-2 c = id_at c.args.bytes.now c.requires.whole c.requires.fits 16 (omega arith) (omega arith)
