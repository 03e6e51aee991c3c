use Rattle.clean_worlds.proofs.CleanUnhindered.{clean_unhindered}
use Rattle.clean_worlds.proofs.fault_laws.unhindered_events_go_well.Goals as goal

pub returns : goal.returns
returns c = λ id other supplier receiver state scene before noted next last is others hear work come calls plays free.
    clean_unhindered id other is others supplier receiver state scene next before last noted hear work come calls plays free
