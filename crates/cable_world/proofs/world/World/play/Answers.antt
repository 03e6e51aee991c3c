use Rattle.std.proofs.Common.{List, refl, ◌∙◌, ap, subst}
use Rattle.cable_world.specs.CableSteps.{Goes}
use Rattle.cable_world.specs.Obeying.{Obeys}
use Rattle.cable_world.specs.Worlds.{WorldView}
use Rattle.cable_world.specs.declared.event.Event.{Event}
use Rattle.cable_world.specs.declared.setting.Setting.{Setting}
use Rattle.cable_world.proofs.WorldPlayed.{has_played, is_open, script_with}
use Rattle.cable_world.proofs.world.World.play.Goals as goal

pub play_all-requires : goal.play_all-requires
play_all-requires c = record { ready = is_open c.self.inside c.self.invariant (ap (λ (w : WorldView). w.stage) c.self.view_is ∙ c.requires) }

pub invariant_of-self : goal.invariant_of-self
invariant_of-self c = record {
  stands = has_played c.an_image_holds_one_list.ensures c.self.inside c.play_all.new.self c.drafts.ensures.bases c.self.invariant (ap (λ (w : WorldView). w.stage) c.self.view_is ∙ c.requires)
      (subst (λ (l : List Event). Goes (Obeys l) c.self.inside.cable c.play_all.new.self) c.as_slice.ensures.value c.in-Ok.ensures);
  open_at = c.in-Ok.ensures.ready;
}

pub returns-in-Ok : goal.returns-in-Ok
returns-in-Ok c =
    let g = subst (λ (l : List Event). Goes (Obeys l) c.self.inside.cable c.play_all.new.self) c.as_slice.ensures.value c.in-Ok.ensures in
    let played = has_played c.an_image_holds_one_list.ensures c.self.inside c.play_all.new.self c.drafts.ensures.bases c.self.invariant (ap (λ (w : WorldView). w.stage) c.self.view_is ∙ c.requires) g in
    record {
      script = ap (λ (s : Setting). script_with s c.self.inside.events) g.setting ∙ ap (λ (w : WorldView). w.script) c.self.view_is;
      stage = refl;
      played = played;
      lives = played.lives;
    }
