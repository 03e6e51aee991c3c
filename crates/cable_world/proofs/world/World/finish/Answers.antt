use Rattle.std.proofs.Common.{◌∙◌, ap}
use Rattle.cable_world.specs.WorldInside.{world_of}
use Rattle.cable_world.specs.Worlds.{HasPlayed, WorldView}
use Rattle.cable_world.specs.declared.stage.Stage.TheVariants.{Finished}
use Rattle.cable_world.proofs.FinishedWorld.{handheld_book, played_at, played_stays, receiver_book, report_of, world_at}
use Rattle.cable_world.proofs.world.World.finish.Goals as goal

pub finish-requires-clause-handheld : goal.finish-requires-clause-handheld
finish-requires-clause-handheld c =
    handheld_book (world_of c.self.inside) (played_at c.self.inside.stage (world_of c.self.inside) (ap (λ (w : WorldView). w.stage) c.self.view_is ∙ c.requires) c.self.invariant.stands)

pub finish-requires-clause-receiver : goal.finish-requires-clause-receiver
finish-requires-clause-receiver c =
    receiver_book (world_of c.self.inside) (played_at c.self.inside.stage (world_of c.self.inside) (ap (λ (w : WorldView). w.stage) c.self.view_is ∙ c.requires) c.self.invariant.stands)

pub invariant_of-self : goal.invariant_of-self
invariant_of-self c =
    let was : HasPlayed (world_at c.self.inside.cable c.self.inside.events c.self.inside.stage) =
    played_at c.self.inside.stage (world_at c.self.inside.cable c.self.inside.events c.self.inside.stage) (ap (λ (w : WorldView). w.stage) c.self.view_is ∙ c.requires) c.self.invariant.stands in
    record { stands = played_stays c.in-Ok.report c.self.inside.cable c.finish.new.self c.self.inside.events c.self.inside.stage Finished c.in-Ok.ensures.finishes was; open_at = tt }

pub returns-in-Ok-clause-played : goal.returns-in-Ok-clause-played
returns-in-Ok-clause-played c =
    let was : HasPlayed (world_at c.self.inside.cable c.self.inside.events c.self.inside.stage) =
    played_at c.self.inside.stage (world_at c.self.inside.cable c.self.inside.events c.self.inside.stage) (ap (λ (w : WorldView). w.stage) c.self.view_is ∙ c.requires) c.self.invariant.stands in
    played_stays c.in-Ok.report c.self.inside.cable c.finish.new.self c.self.inside.events c.self.inside.stage Finished c.in-Ok.ensures.finishes was

pub returns-in-Ok-clause-report : goal.returns-in-Ok-clause-report
returns-in-Ok-clause-report c = report_of c.in-Ok.report c.self.inside.cable c.finish.new.self c.self.inside.events Finished c.in-Ok.ensures.finishes
