use Rattle.dex_handshake.specs.LineRun.{load_of}
use Rattle.dex_handshake.specs.LineTable.{Finished}
use Rattle.dex_handshake.specs.Sound.{AnyText, IsOwnFrame}
use Rattle.dex_handshake.proofs.Sayings.{any_goes_on, first_own, load_own, may_send, started_soundly}
use Rattle.dex_handshake.proofs.SoundTable.{gives_soundly, hears_soundly, quiets_soundly}
use Rattle.dex_handshake.proofs.laws.what_is_said_was_given.Goals as goal

pub returns : goal.returns
returns c = record {
  heard = λ id load line frame s. hears_soundly id (IsOwnFrame id load) (may_send id load) AnyText AnyText tt (λ text any. tt) line frame s (any_goes_on frame);
  quiet = λ id load line s. quiets_soundly id (IsOwnFrame id load) (may_send id load) AnyText line s;
  started = λ role id peer load. started_soundly (IsOwnFrame id load) role id peer (may_send id load) (first_own id load);
  given = λ id before own heard text s. gives_soundly id (IsOwnFrame id (load_of text)) (may_send id (load_of text)) AnyText (Finished own heard) (load_of text) s (load_own id text);
}
