use Rattle.transaction_set.proofs.Sounding.{no_extras, plain_allowance, plain_note}
use Rattle.transaction_set.proofs.sound_laws.sound_extras.Goals as goal

pub returns-clause-none : goal.returns-clause-none
returns-clause-none c = no_extras

pub returns-clause-allowance : goal.returns-clause-allowance
returns-clause-allowance c = plain_allowance

pub returns-clause-note : goal.returns-clause-note
returns-clause-note c = plain_note
