use Rattle.base_record_894.proofs.Made.{base_extras, base_lines, made_base}
use Rattle.base_record_894.proofs.laws.made_of_sound_rows.Goals as goal

pub returns-clause-made : goal.returns-clause-made
returns-clause-made c = made_base

pub returns-clause-lines : goal.returns-clause-lines
returns-clause-lines c = base_lines

pub returns-clause-extras : goal.returns-clause-extras
returns-clause-extras c = base_extras
