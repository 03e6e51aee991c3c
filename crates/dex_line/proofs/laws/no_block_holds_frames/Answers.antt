use Rattle.dex_line.proofs.Worked.{held_frames, no_text}
use Rattle.dex_line.proofs.laws.no_block_holds_frames.Goals as goal

pub returns-clause-alike : goal.returns-clause-alike
returns-clause-alike c = held_frames

pub returns-clause-none : goal.returns-clause-none
returns-clause-none c bytes (front, back, o) = no_text o.0
