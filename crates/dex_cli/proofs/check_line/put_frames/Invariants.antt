use Rattle.std.proofs.Common.{◌≡◌, ◌++◌, length}
use Rattle.std.specs.List.{list_any}
use Rattle.dex_line.specs.Captured.{frames_in, is_refused}
use Rattle.dex_cli.specs.Verdicts.{has_refused}
use Rattle.dex_cli.specs.Texts.{frames_text}
use Rattle.dex_cli.proofs.check_line.put_frames.Given as goal

-- what is printed, and what is still to be printed
abbrev pub invariant-loop-place : goal.invariant-loop-place
invariant-loop-place l = (l.out.items ++ frames_text l.frames ≡ l.fn.out.items ++ frames_text (frames_in l.fn.captured))
    × (list_any (λ frame. is_refused frame.1) l.frames ≡ has_refused l.fn.captured)

abbrev pub decreases-loop-place : goal.decreases-loop-place
decreases-loop-place l = length l.frames
