use Rattle.clean_sessions.proofs.BlocksBounded.{blocks_bounded}
use Rattle.clean_sessions.proofs.delivery_laws.own_turns_speak_few_blocks.Goals as goal

pub returns : goal.returns
returns c = blocks_bounded
