use Rattle.dex_line.specs.FrameSpelling.{IsSpoken}
use Rattle.dex_handshake.specs.LineRun.{load_of}
use Rattle.dex_handshake.specs.Sound.{AnyText}
use Rattle.dxs_envelope.proofs.LineUnits.{outgoing_fits}
use Rattle.dex_handshake.proofs.Sayings.{any_goes_on, first_spoken, load_spoken, may_spell, started_soundly}
use Rattle.dex_handshake.proofs.SoundTable.{gives_soundly, hears_soundly, quiets_soundly}
use Rattle.dex_handshake.proofs.laws.what_is_said_can_be_spelled.Goals as goal

pub returns : goal.returns
returns c = record {
  heard = λ id line frame t n s. hears_soundly id IsSpoken (may_spell id t n) AnyText AnyText tt (λ text any. tt) line frame s (any_goes_on frame);
  quiet = λ id line t n s. quiets_soundly id IsSpoken (may_spell id t n) AnyText line s;
  started = λ role id peer t n. started_soundly IsSpoken role id peer (may_spell id t n) (first_spoken id t n);
  given = λ id line text t n s o. gives_soundly id IsSpoken (may_spell id t n) AnyText line (load_of text) s (load_spoken text (outgoing_fits text o).0 (outgoing_fits text o).1);
}
