use Rattle.dex_line.specs.Captured.{frames_in}
use Rattle.dex_line.proofs.Captures.{frames_are, frames_only}
use Rattle.dex_line.proofs.Covered.{frames_cover, said_captured}
use Rattle.dex_line.proofs.laws.captured_frames_are_found.Goals as goal

pub returns : goal.returns
returns c = record {
  found = frames_are 0;
  one = frames_only 0;
  covered = λ bytes. frames_cover (frames_in bytes) 0 bytes (frames_are 0 bytes);
  said = said_captured;
}
