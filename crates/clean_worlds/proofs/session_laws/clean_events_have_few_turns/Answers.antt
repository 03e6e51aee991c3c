use Rattle.clean_worlds.proofs.FewTurns.{few_turns}
use Rattle.clean_worlds.proofs.session_laws.clean_events_have_few_turns.Goals as goal

pub returns : goal.returns
returns c = λ id other supplier receiver supplier_entries receiver_entries next last is others lists bases also played.
    few_turns id other is others supplier receiver supplier_entries receiver_entries lists bases also played.first played.more played.new played.session
