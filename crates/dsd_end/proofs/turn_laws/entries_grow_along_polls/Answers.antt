use Rattle.own_turn.specs.TurnsGrow.{IsLent}
use Rattle.dsd_end.proofs.Polling.{along_goes}
use Rattle.dsd_end.proofs.turn_laws.entries_grow_along_polls.Goals as goal

pub returns : goal.returns
returns c = record {
  header = λ chooser standing polls done a. (along_goes chooser IsLent (λ text set inside. (text, inside)) standing polls done a).header;
  failed = λ chooser standing polls done a. (along_goes chooser IsLent (λ text set inside. (text, inside)) standing polls done a).failed;
  entries = λ chooser standing polls done a. (along_goes chooser IsLent (λ text set inside. (text, inside)) standing polls done a).grown;
}
