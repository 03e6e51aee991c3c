use Rattle.clean_worlds.proofs.CleanPlayed.{begins_clean, plays_clean}
use Rattle.clean_worlds.proofs.session_laws.clean_events_are_clean_sessions.Goals as goal

pub returns : goal.returns
returns c = record {
  begins = λ id other supplier receiver state scene before steps next last is others hear made plays. begins_clean id other is others supplier receiver state scene next before last steps hear made plays;
  plays = λ id other supplier receiver state scene before steps next last is others hear made plays. plays_clean id other is others supplier receiver state scene next before last steps hear made plays;
}
