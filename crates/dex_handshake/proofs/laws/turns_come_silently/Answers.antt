use Rattle.dex_handshake.proofs.SilentTurns.{turns_come_silently}
use Rattle.dex_handshake.proofs.laws.turns_come_silently.Goals as goal

pub returns : goal.returns
returns c = turns_come_silently
