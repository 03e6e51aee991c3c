use Rattle.std.proofs.Common.{rules}
use Rattle.set_stream.proofs.Streamed.{goes_on, one_more, set_stops, text_stops}
use Rattle.set_stream.proofs.feeding.feed_one.Goals as goal

pub returns-in_default-clause-goes : goal.returns-in_default-clause-goes
returns-in_default-clause-goes c text reads =
    goes_on text c.args.rest.now c.in-Ok.size c.args.segments.now c.take.new.self c.args.set.now reads c.in-Ok.ensures.took (search rules)

pub returns-in-Ok-take-clause-goes : goal.returns-in-Ok-take-clause-goes
returns-in-Ok-take-clause-goes c text reads =
    one_more text c.args.rest.now c.in-Ok.size c.args.segments.now c.take.new.self c.args.set.now reads c.in-Ok.ensures.took c.in-Some.segment (search rules) c.take-2.new.self (c.take-2.ensures.taken reads.read reads.taken)

pub returns-in-Err-take-clause-stops : goal.returns-in-Err-take-clause-stops
returns-in-Err-take-clause-stops c text reads =
    set_stops text c.args.rest.now c.in-Ok.size c.args.segments.now c.take.new.self c.args.set.now reads c.in-Ok.ensures.took c.in-Some.segment (search rules) c.take-2.new.self c.in-Err-take.fault (c.take-2.ensures.taken reads.read reads.taken) c.in-Err-take.ensures.exact

pub returns-in-Err-clause-stops : goal.returns-in-Err-clause-stops
returns-in-Err-clause-stops c text reads =
    text_stops text c.args.rest.now c.args.segments.now c.args.set.now c.in-Err.fault c.broken.result reads c.in-Err.ensures.refused c.broken.ensures.exact
