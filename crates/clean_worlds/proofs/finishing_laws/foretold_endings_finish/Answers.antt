use Rattle.dsd_values.specs.declared.role.Role.{Role}
use Rattle.dsd_values.specs.declared.role.Role.TheVariants.{Receiver, Supplier}
use Rattle.clean_sessions.specs.ChosenAnswers.{IgnoresCheck}
use Rattle.cable_world.specs.Worlds.{chooser_of}
use Rattle.cable_world.specs.declared.script.Script.{Script}
use Rattle.clean_worlds.proofs.Foretold.{finishes_lists, finishes_nothing}
use Rattle.clean_worlds.proofs.finishing_laws.foretold_endings_finish.Goals as goal

both : (script : Script) → IgnoresCheck (chooser_of script Supplier) → IgnoresCheck (chooser_of script Receiver) → (role : Role) → IgnoresCheck (chooser_of script role)
both script own theirs Supplier = own
both script own theirs Receiver = theirs

pub returns : goal.returns
returns c = record {
  lists = λ world events most played ends.
      finishes_lists c.an_image_holds_one_list.ensures world (both world.script (c.cores_ignore_checks.ensures.supplier world.script.drafts) (c.cores_ignore_checks.ensures.receiver world.script.counts)) played events most ends;
  empty = λ world most played ends.
      finishes_nothing c.an_image_holds_one_list.ensures world (both world.script (c.cores_ignore_checks.ensures.supplier world.script.drafts) (c.cores_ignore_checks.ensures.receiver world.script.counts)) played most ends;
}
