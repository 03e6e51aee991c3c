use Rattle.dsd_end.proofs.SoFarOn.{so_far_adds, so_far_cut, so_far_hears, so_far_lends, so_far_quiets, so_far_runs, so_far_starts, so_far_turns}
use Rattle.dsd_end.proofs.turn_laws.runs_so_far_go_on.Goals as goal

pub returns : goal.returns
returns c = record {
  starts = so_far_starts;
  hears = so_far_hears;
  quiets = so_far_quiets;
  adds = so_far_adds;
  lends = so_far_lends;
  turns = so_far_turns;
  runs = λ chooser header first past rest heard done legal s bytes. so_far_runs chooser header first past rest heard done legal s bytes;
  cut = λ chooser header first past rest heard done frame front back legal s bytes say e.
      so_far_cut chooser header first past rest heard done legal s bytes frame front back say e;
}
