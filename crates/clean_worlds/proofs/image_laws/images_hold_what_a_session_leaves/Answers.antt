use Rattle.clean_worlds.proofs.ImagesLeft.{images_left}
use Rattle.clean_worlds.proofs.image_laws.images_hold_what_a_session_leaves.Goals as goal

pub returns : goal.returns
returns c = λ world events ends well. images_left world events ends well
