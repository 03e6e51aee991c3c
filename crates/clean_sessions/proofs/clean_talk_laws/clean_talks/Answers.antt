use Rattle.clean_sessions.proofs.SessionTalks.{session_speaks, session_talks}
use Rattle.clean_sessions.proofs.clean_talk_laws.clean_talks.Goals as goal

pub returns : goal.returns
returns c = record {
  said = λ id other supplier receiver supplier_entries receiver_entries first more new is others right their_right ignores their_ignores apart backed clean few their_few.
      session_talks id other supplier receiver supplier_entries receiver_entries first more new is others right their_right backed clean few their_few ignores their_ignores apart;
  spoken = λ id other supplier receiver supplier_entries receiver_entries first more new is others bases their_bases backed clean.
      session_speaks id other supplier receiver supplier_entries receiver_entries first more new is others bases their_bases backed clean;
}
