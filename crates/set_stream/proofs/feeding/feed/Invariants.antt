use Rattle.std.proofs.Common.{◌≡◌, ◌+◌, ◌^◌, ◌<◌, List, ℕ, length}
use Rattle.segments.specs.Streaming.{reached}
use Rattle.set_stream.specs.StreamedSets.{Reads}
use Rattle.set_stream.proofs.feeding.feed.Given as goal

-- what is read with the rest of the piece to come is read with the whole piece to come
abbrev pub invariant-loop-rest : goal.invariant-loop-rest
invariant-loop-rest l =
    (reached l.segments + length l.rest ≡ reached l.fn.segments + length l.piece)
    × (reached l.segments + length l.rest < 2 ^ 64)
    × ((text : List ℕ) → Reads text l.fn.segments l.fn.set l.piece → Reads text l.segments l.set l.rest)

abbrev pub decreases-loop-rest : goal.decreases-loop-rest
decreases-loop-rest l = length l.rest
