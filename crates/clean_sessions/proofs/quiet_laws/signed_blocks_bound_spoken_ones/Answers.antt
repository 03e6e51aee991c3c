use Rattle.clean_sessions.proofs.FewSpoken.{spoken_once, spoken_twice}
use Rattle.clean_sessions.proofs.quiet_laws.signed_blocks_bound_spoken_ones.Goals as goal

pub returns : goal.returns
returns c = record {
  twice = λ near far most meet fresh their_fresh few. spoken_twice near far most meet fresh their_fresh few;
  once = λ near far most meet fresh their_fresh role none none_there few. spoken_once near far most meet fresh their_fresh few role none none_there;
}
