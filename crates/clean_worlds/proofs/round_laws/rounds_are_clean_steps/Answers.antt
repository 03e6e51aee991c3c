use Rattle.clean_worlds.proofs.RoundsClean.{round_clean}
use Rattle.clean_worlds.proofs.round_laws.rounds_are_clean_steps.Goals as goal

pub returns : goal.returns
returns c = λ chooser header state near far hall scene standing frame noted next last is shows flight goes round come calls well.
    round_clean chooser header is near far hall scene standing shows frame flight goes state noted next last round come calls well
