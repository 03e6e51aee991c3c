use Rattle.clean_sessions.proofs.TalksBacked.{talk_few, talk_once, talk_there}
use Rattle.clean_sessions.proofs.clean_talk_laws.deliveries_have_one_talk.Goals as goal

pub returns : goal.returns
returns c = record { some = talk_there; one = talk_once; few = talk_few }
