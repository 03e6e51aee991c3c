use Rattle.dex_cli.proofs.BegunSets.{any_ok, set_goes_on}
use Rattle.dex_cli.proofs.begun_set.take_segment.Goals as goal

pub returns-in-Some : goal.returns-in-Some
returns-in-Some c = any_ok c.take.result (λ set has. set_goes_on set c.args.segment.now _ c.in-Some.set c.take.new.self c.in-Some.is has c.take.ensures.start c.take.ensures.taken)
