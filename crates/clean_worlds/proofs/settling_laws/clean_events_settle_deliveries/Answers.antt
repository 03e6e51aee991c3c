use Rattle.clean_sessions.proofs.SessionsSettled.{session_settled}
use Rattle.clean_worlds.proofs.settling_laws.clean_events_settle_deliveries.Goals as goal

pub returns : goal.returns
returns c = λ id other supplier receiver state steps next last is others drafts their_drafts p backed.
    session_settled id other supplier receiver p.supplier_entries p.receiver_entries p.played.first p.played.more p.played.new is others drafts their_drafts backed p.played.session
