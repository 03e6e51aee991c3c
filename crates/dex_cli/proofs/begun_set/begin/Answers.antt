use Rattle.dex_cli.proofs.BegunSets.{any_ok, set_begins}
use Rattle.dex_cli.proofs.begun_set.begin.Goals as goal

pub returns : goal.returns
returns c = any_ok c.take-taken.result (set_begins c.args.segment.now _ c.take-taken.new.self c.start.ensures c.new.ensures c.take-taken.ensures.start c.take-taken.ensures.taken)
