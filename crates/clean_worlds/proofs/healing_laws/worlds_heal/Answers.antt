use Rattle.clean_worlds.proofs.Healing.{heals_lists, heals_lives}
use Rattle.clean_worlds.proofs.healing_laws.worlds_heal.Goals as goal

pub returns : goal.returns
returns c = record {
  lives = λ world events played match free drafts script clash. heals_lives c.an_image_holds_one_list.ensures world played match events free script drafts clash;
  lists = λ world events played match free drafts script. heals_lists c.an_image_holds_one_list.ensures world played match events free script drafts;
}
