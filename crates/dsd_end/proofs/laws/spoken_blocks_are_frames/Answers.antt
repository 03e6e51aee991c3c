use Rattle.std.proofs.Common.{[], ◌∷◌}
use Rattle.std.proofs.lemmas.List.Elements.{All-head}
use Rattle.dsd_end.specs.Speaking.{AreSigned, IsBacked}
use Rattle.dsd_end.proofs.SpokenFrames.{occurs_frame}
use Rattle.dsd_end.proofs.laws.spoken_blocks_are_frames.Goals as goal

pub returns : goal.returns
returns c = λ out entries last text speaks occurs.
    let (sets, from, each) = occurs_frame (IsBacked (entries ∷ [])) out last text speaks occurs in
    (sets, from, All-head (AreSigned sets) entries [] each)
