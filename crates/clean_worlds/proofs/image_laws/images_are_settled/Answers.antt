use Rattle.clean_worlds.proofs.ImagesLeft.{images_settled}
use Rattle.clean_worlds.proofs.WorldsClean.{ids_of}
use Rattle.clean_worlds.proofs.image_laws.images_are_settled.Goals as goal

pub returns : goal.returns
returns c = λ world events played drafts ends well backed lists held.
    let (is, others) = ids_of world played in
    images_settled world events ends well c.an_image_holds_one_list.ensures is others drafts backed lists held
