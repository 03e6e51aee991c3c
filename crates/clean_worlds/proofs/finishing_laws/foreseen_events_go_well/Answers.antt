use Rattle.clean_worlds.proofs.CleanForeseen.{clean_foreseen}
use Rattle.clean_worlds.proofs.finishing_laws.foreseen_events_go_well.Goals as goal

pub returns : goal.returns
returns c = λ id other supplier receiver most state scene before noted next last is others hear work come calls plays free.
    clean_foreseen id other is others supplier receiver most state scene next before last noted hear work come calls plays free
