use Rattle.std.proofs.Common.{◌∙◌, arith}
use Rattle.dsd_station.proofs.Handing.{one_more, takes_behind}
use Rattle.dsd_station.proofs.Joined.{on_err}
use Rattle.dsd_station.proofs.reading.read_through.Goals as goal

pub returns-in_err-count-clause-taken : goal.returns-in_err-count-clause-taken
returns-in_err-count-clause-taken g c =
    on_err c.from_residual.result (takes_behind g.T.Taker.holds c.args.limit c.loop-room.room _ _ _ c.args.taker.now c.loop-room.taker c.loop-room.invariant.3 c.in_err-count.ensures.taken)

pub loop-room-preserved : goal.loop-room-preserved
loop-room-preserved g c =
    let so_far = c.loop-room.invariant in
    let last = c.in_ok-count.ensures in
    let given = last.bytes in (
      last.kept ∙ so_far.0,
      last.ended (omega (arith, c.if-count-eq0.false)) ∙ so_far.1,
      omega (arith, so_far.2, last.bound, last.reach),
      one_more g.T.Taker.holds c.args.limit c.loop-room.room c.in_ok-count.count _ _ _ c.args.taker.now c.loop-room.taker c.hand_piece.new.taker so_far.3 last.bound given.0 given.1 given.2 given.3,
    )
