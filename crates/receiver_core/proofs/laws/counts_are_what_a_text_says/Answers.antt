use Rattle.receiver_core.proofs.Again.{again, one}
use Rattle.receiver_core.proofs.Said.{says}
use Rattle.receiver_core.proofs.laws.counts_are_what_a_text_says.Goals as goal

pub returns-clause-read : goal.returns-clause-read
returns-clause-read c text counts = (says text counts, again text counts)

pub returns-clause-one : goal.returns-clause-one
returns-clause-one c text counts other = one text counts other
