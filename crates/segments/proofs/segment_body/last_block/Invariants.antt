use Rattle.std.proofs.Common.{◌≡◌, ℕ, ◌+◌, ◌-◌, ◌<◌, ◌≤◌, length, get_or}
use Rattle.segments.proofs.segment_body.last_block.Given as goal

abbrev pub invariant-loop-i : goal.invariant-loop-i
invariant-loop-i l =
    (length l.last ≡ 32) × (l.place + l.i ≤ length l.front) × ((k : ℕ) → k < l.i → get_or l.last k 0 ≡ get_or l.front (l.place + k) 0) × ((k : ℕ) → l.i ≤ k → k < 32 → get_or l.last k 0 ≡ 0)

abbrev pub decreases-loop-i : goal.decreases-loop-i
decreases-loop-i l = 32 - l.i
