use Rattle.vectors.proofs.Computed.{catalogue, check_of_zero, check_of_letter, check_of_last, check_of_block}
use Rattle.vectors.proofs.laws.checks_are_worked.Goals as goal

pub returns-clause-catalogue : goal.returns-clause-catalogue
returns-clause-catalogue c = catalogue

pub returns-clause-zero : goal.returns-clause-zero
returns-clause-zero c = check_of_zero

pub returns-clause-letter : goal.returns-clause-letter
returns-clause-letter c = check_of_letter

pub returns-clause-last_block : goal.returns-clause-last_block
returns-clause-last_block c = check_of_last

pub returns-clause-block : goal.returns-clause-block
returns-clause-block c = check_of_block
