-- A script that ends with a clean event leaves settled lists.
use Rattle.std.proofs.Common.{List, [], refl}
use Rattle.dsd_end.specs.Cabling.{NoClash}
use Rattle.cable_world.specs.Progressing.{OneList}
use Rattle.cable_world.specs.Worlds.{HasPlayed, WorldView}
use Rattle.cable_world.specs.declared.event.Event.{Event}
use Rattle.clean_worlds.specs.CleanEndings.{HasCleanEnd, SettlesInClean, SettlesUnlessSetsClash}
use Rattle.clean_worlds.specs.Healing.{HealsInClean, HealsUnlessSetsClash}
use Rattle.clean_worlds.proofs.Healing.{heals_empty, heals_lists, heals_lives}
use Rattle.clean_worlds.proofs.ImagesLeft.{images_settled}
use Rattle.clean_worlds.proofs.WorldsClean.{ids_of}

module _ (one_list : OneList) (world : WorldView) (played : HasPlayed world) where
  -- an event that heals leaves settled lists
  settled : (events : List Event) → HealsInClean events world → SettlesInClean events world
  settled events h = record {
    ends = h.ends;
    settled = λ free lists held.
        images_settled world events h.ends (h.ends.well free) one_list (ids_of world played).0 (ids_of world played).1 played.bases (h.heals (h.ends.well free)).backed lists held;
  }

  pub settled_lists : (events : List Event) → HasCleanEnd world.script events → SettlesUnlessSetsClash events world
  settled_lists events e =
      let h : HealsUnlessSetsClash events world = heals_lists one_list world played e.match events e.unheard e.last played.bases in
      record {
        ends = h.ends;
        settled = λ free apart lists held.
            images_settled world events h.ends (h.ends.well free) one_list (ids_of world played).0 (ids_of world played).1 played.bases (h.heals (h.ends.well free) apart).backed lists held;
      }

  pub settled_lives : (events : List Event) → HasCleanEnd world.script events → NoClash played.lives.handheld played.lives.receiver → SettlesInClean events world
  settled_lives events e clash = settled events (heals_lives one_list world played e.match events e.unheard e.last played.bases clash)

  pub settled_empty : HasCleanEnd world.script [] → SettlesInClean [] world
  settled_empty e = settled [] (heals_empty one_list world played e.match [] e.unheard e.last refl played.bases)
