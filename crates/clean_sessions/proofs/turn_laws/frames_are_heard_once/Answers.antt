use Rattle.clean_sessions.proofs.FramesFed.{block_pieces, heard_once}
use Rattle.clean_sessions.proofs.turn_laws.frames_are_heard_once.Goals as goal

pub returns : goal.returns
returns c = record { once = λ chooser standing frame pieces done spoken listens fed. heard_once chooser frame spoken standing pieces done listens fed; block = block_pieces }
