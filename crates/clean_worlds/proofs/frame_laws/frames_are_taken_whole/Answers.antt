use Rattle.clean_worlds.proofs.FrameTaken.{takes_frame}
use Rattle.clean_worlds.proofs.frame_laws.frames_are_taken_whole.Goals as goal

pub returns : goal.returns
returns c = λ role chooser header state standing frame scene noted next last is attends goes spoken hears comes calls well.
    takes_frame role chooser header standing frame scene is attends goes spoken noted state next last hears comes calls well
