use Rattle.dsd_journal.proofs.Apart.{never_both, one_place}
use Rattle.dsd_journal.proofs.Deciding.{image_decided}
use Rattle.dsd_journal.proofs.laws.an_image_is_held_or_refused.Goals as goal

pub returns-clause-either : goal.returns-clause-either
returns-clause-either c = image_decided

pub returns-clause-never_both : goal.returns-clause-never_both
returns-clause-never_both c = never_both

pub returns-clause-one_place : goal.returns-clause-one_place
returns-clause-one_place c = one_place
