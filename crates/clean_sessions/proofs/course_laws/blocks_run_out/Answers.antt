use Rattle.clean_sessions.proofs.BlocksRunOut.{less_blocks}
use Rattle.clean_sessions.proofs.course_laws.blocks_run_out.Goals as goal

pub returns : goal.returns
returns c = less_blocks
