use Rattle.clean_sessions.proofs.LoadsCounted.{load_lent}
use Rattle.clean_sessions.proofs.SessionsTaken.{gathered_sets, spoken_text}
use Rattle.clean_sessions.proofs.turn_laws.loads_are_given.Goals as goal

pub returns : goal.returns
returns c = record {
  lent = λ header control sets load is. let given = load_lent header control sets load is in given.0;
  fault = λ header control sets load is. let given = load_lent header control sets load is in given.1;
  sets = gathered_sets;
  cost = spoken_text;
}
