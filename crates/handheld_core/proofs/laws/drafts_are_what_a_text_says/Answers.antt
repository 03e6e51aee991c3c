use Rattle.handheld_core.proofs.Again.{again, one}
use Rattle.handheld_core.proofs.Said.{says}
use Rattle.handheld_core.proofs.laws.drafts_are_what_a_text_says.Goals as goal

pub returns-clause-read : goal.returns-clause-read
returns-clause-read c text drafts = (says text drafts, again text drafts)

pub returns-clause-one : goal.returns-clause-one
returns-clause-one c text drafts other = one text drafts other
