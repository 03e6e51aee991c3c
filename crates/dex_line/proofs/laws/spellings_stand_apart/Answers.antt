use Rattle.dex_line.proofs.Told.{one_frame, no_front, spelled_damaged}
use Rattle.dex_line.proofs.laws.spellings_stand_apart.Goals as goal

pub returns : goal.returns
returns c = record { one = one_frame; whole = no_front; damaged = spelled_damaged }
