use Rattle.clean_sessions.proofs.FewSpoken.{session_spends}
use Rattle.clean_sessions.proofs.quiet_laws.foretold_sessions_spend_few.Goals as goal

pub returns : goal.returns
returns c = λ id other supplier receiver supplier_entries receiver_entries first more new is others drafts their_drafts backed session most few.
    session_spends id other supplier receiver supplier_entries receiver_entries first more new is others drafts their_drafts backed session most few
