use Rattle.clean_worlds.proofs.WorldsClean.{ends_in_clean}
use Rattle.clean_worlds.proofs.world_laws.worlds_end_in_clean.Goals as goal

pub returns : goal.returns
returns c = λ world events played match script. ends_in_clean world played match events script
