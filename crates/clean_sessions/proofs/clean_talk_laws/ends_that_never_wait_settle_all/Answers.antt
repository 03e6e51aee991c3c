use Rattle.clean_sessions.proofs.SessionTalks.{all_settled, drafts_settled}
use Rattle.clean_sessions.proofs.clean_talk_laws.ends_that_never_wait_settle_all.Goals as goal

pub returns : goal.returns
returns c = record {
  known = λ id other supplier receiver supplier_entries receiver_entries first more new is others right their_right never their_never backed clean few their_few.
      all_settled id other supplier receiver supplier_entries receiver_entries first more new is others right their_right backed clean few their_few never their_never;
  drafted = λ id other supplier receiver supplier_entries receiver_entries first more new is others right their_right never their_never backed clean few their_few.
      drafts_settled id other supplier receiver supplier_entries receiver_entries first more new is others right their_right backed clean few their_few never their_never;
}
