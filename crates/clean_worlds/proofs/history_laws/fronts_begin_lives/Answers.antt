use Rattle.clean_worlds.proofs.FrontsBegin.{begun_front}
use Rattle.clean_worlds.proofs.history_laws.fronts_begin_lives.Goals as goal

pub returns : goal.returns
returns c = λ role header log front rest begun. begun_front role header log front rest begun
