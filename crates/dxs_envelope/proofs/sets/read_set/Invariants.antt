use Rattle.std.proofs.Common.{◌≡◌, ◌≤◌, ℕ, List, length}
use Rattle.dxs_envelope.specs.FirstFault.{Inside, told_left}
use Rattle.dxs_envelope.specs.SetsLeft.{IsAt}
use Rattle.dxs_envelope.proofs.Steps.{set_up_to}
use Rattle.dxs_envelope.proofs.sets.read_set.Given as goal

-- with the bytes of the set so far the same is told
abbrev pub invariant-loop-segment : goal.invariant-loop-segment
invariant-loop-segment l = record {
  at : IsAt l.fn.text l.place l.segments;
  begun : l.fn.read ≤ l.place;
  told : (control : List ℕ) (found : ℕ) → told_left (Inside control found (set_up_to l.fn.text l.fn.start l.place)) l.segments
      ≡ told_left (Inside control found (set_up_to l.fn.text l.fn.start l.fn.read)) l.fn.segments;
}

abbrev pub decreases-loop-segment : goal.decreases-loop-segment
decreases-loop-segment l = length l.segments.rest
