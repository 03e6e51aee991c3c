use Rattle.clean_sessions.proofs.BlocksBounded.{blocks_once}
use Rattle.clean_sessions.proofs.TurnsOnce.{speak_once}
use Rattle.clean_sessions.proofs.delivery_laws.own_turns_speak_once.Goals as goal

pub returns : goal.returns
returns c = record {
  each = speak_once;
  blocks = λ turns near far meet supplier none none_there fresh also t. blocks_once turns near far meet fresh also t (speak_once turns near far meet supplier none none_there fresh also t);
}
