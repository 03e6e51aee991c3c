use Rattle.clean_sessions.proofs.AskedApart.{other_asked, own_asked}
use Rattle.clean_sessions.proofs.talk_laws.deliveries_are_asked_apart.Goals as goal

pub returns : goal.returns
returns c = record { own = own_asked; other = other_asked }
