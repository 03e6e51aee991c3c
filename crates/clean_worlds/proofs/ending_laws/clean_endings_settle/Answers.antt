use Rattle.clean_worlds.proofs.CleanEndings.{settled_empty, settled_lists, settled_lives}
use Rattle.clean_worlds.proofs.ending_laws.clean_endings_settle.Goals as goal

pub returns : goal.returns
returns c = record {
  lists = λ world events played. settled_lists c.an_image_holds_one_list.ensures world played events;
  lives = λ world events played. settled_lives c.an_image_holds_one_list.ensures world played events;
  empty = λ world played. settled_empty c.an_image_holds_one_list.ensures world played;
}
