use Rattle.dsd_record.proofs.Answered.{stated_of_chosen}
use Rattle.dsd_record.proofs.version_laws.chosen_lines_can_be_stated.Goals as goal

pub returns : goal.returns
returns c = stated_of_chosen
