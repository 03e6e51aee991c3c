use Rattle.dsd_record.specs.declared.set_view.SetView.{SetView}
use Rattle.set_stream.proofs.Streamed.{all_taken, ends_broken, refused_exact, refused_only, refused_place}
use Rattle.set_stream.proofs.set_stream.finish.Goals as goal

pub returns-in-Ok-clause-found : goal.returns-in-Ok-clause-found
returns-in-Ok-clause-found c text reads = c.finish.ensures.found text (all_taken text c.args.segments.now c.args.set reads (c.in-Ok.ensures.over reads.sound))

pub returns-in-Ok-clause-read : goal.returns-in-Ok-clause-read
returns-in-Ok-clause-read c text reads = c.finish.ensures.read text (all_taken text c.args.segments.now c.args.set reads (c.in-Ok.ensures.over reads.sound))

pub returns-in-Ok-clause-sized : goal.returns-in-Ok-clause-sized
returns-in-Ok-clause-sized c text reads = c.finish.ensures.sized text (all_taken text c.args.segments.now c.args.set reads (c.in-Ok.ensures.over reads.sound))

pub returns-in-Ok-clause-only : goal.returns-in-Ok-clause-only
returns-in-Ok-clause-only c text reads = c.finish.ensures.only text (all_taken text c.args.segments.now c.args.set reads (c.in-Ok.ensures.over reads.sound))

pub returns-in-Ok-clause-exact : goal.returns-in-Ok-clause-exact
returns-in-Ok-clause-exact c text reads = c.finish.ensures.exact text (all_taken text c.args.segments.now c.args.set reads (c.in-Ok.ensures.over reads.sound))

pub returns-in-Ok-clause-within : goal.returns-in-Ok-clause-within
returns-in-Ok-clause-within c text reads = c.finish.ensures.within text (all_taken text c.args.segments.now c.args.set reads (c.in-Ok.ensures.over reads.sound))

pub returns-in-Err-clause-only : goal.returns-in-Err-clause-only
returns-in-Err-clause-only c text reads wanted spelled =
    let is = ends_broken text c.args.segments.now c.args.set c.in-Err.fault c.broken.result reads (c.in-Err.ensures.over reads.sound) c.broken.ensures.exact in
    refused_only text c.broken.result _ is wanted spelled

pub returns-in-Err-clause-exact : goal.returns-in-Err-clause-exact
returns-in-Err-clause-exact c text reads =
    refused_exact text c.broken.result _ (ends_broken text c.args.segments.now c.args.set c.in-Err.fault c.broken.result reads (c.in-Err.ensures.over reads.sound) c.broken.ensures.exact)

pub returns-in-Err-clause-within : goal.returns-in-Err-clause-within
returns-in-Err-clause-within c text reads =
    refused_place SetView text c.broken.result (ends_broken text c.args.segments.now c.args.set c.in-Err.fault c.broken.result reads (c.in-Err.ensures.over reads.sound) c.broken.ensures.exact)
