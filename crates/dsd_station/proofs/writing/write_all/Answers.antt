use Rattle.std.proofs.Common.{arith, take, ◌++◌}
use Rattle.std.proofs.KnownBytes.{Appends-trans}
use Rattle.dsd_station.proofs.Joined.{cut_further}
use Rattle.dsd_station.proofs.writing.write_all.Goals as goal

pub loop-rest-preserved : goal.loop-rest-preserved
loop-rest-preserved g c =
    let kept = c.loop-rest.invariant in (
      omega (arith, kept.0, c.in_ok-count.ensures.cause.kept),
      (
        kept.1.0 ++ take c.in_ok-count.count c.loop-rest.rest.now,
        cut_further c.args.text.now kept.1.0 c.loop-rest.rest.now c.in_ok-count.count kept.1.1,
        Appends-trans _ _ _ _ _ kept.1.2 c.in_ok-count.ensures.bytes,
      ),
    )
