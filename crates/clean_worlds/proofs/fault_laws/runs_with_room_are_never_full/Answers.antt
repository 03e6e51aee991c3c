use Rattle.clean_worlds.proofs.NeverFull.{never_full}
use Rattle.clean_worlds.proofs.fault_laws.runs_with_room_are_never_full.Goals as goal

pub returns : goal.returns
returns c = λ header chooser entries polls done heard length is along goes room full. never_full header is chooser entries polls done heard length along goes room full
