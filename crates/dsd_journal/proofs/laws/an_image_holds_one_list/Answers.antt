use Rattle.dsd_journal.proofs.Apart.{one_list}
use Rattle.dsd_journal.proofs.laws.an_image_holds_one_list.Goals as goal

pub returns : goal.returns
returns c = one_list
