use Rattle.std.proofs.Common.{◌≡◌, ◌+◌, ◌^◌, ◌<◌}
use Rattle.dsd_station.proofs.Handing.{HandsOn}
use Rattle.dsd_station.proofs.reading.read_through.Given as goal

-- what was read so far is handed on, and no end was heard
abbrev pub invariant-loop-room : goal.invariant-loop-room
invariant-loop-room g l =
    let source = g.S.Source in
    (source.faults l.source ≡ source.faults l.fn.source)
    × (source.ends l.source ≡ source.ends l.fn.source)
    × (g.T.Taker.reach l.taker + l.room < 2 ^ 64)
    × HandsOn g.T.Taker.holds l.limit l.room (source.left l.fn.source) (source.left l.source) l.fn.taker l.taker

abbrev pub decreases-loop-room : goal.decreases-loop-room
decreases-loop-room g l = l.room
