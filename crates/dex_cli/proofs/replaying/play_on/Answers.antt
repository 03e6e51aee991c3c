use Rattle.dex_cli.proofs.replaying.play_on.Goals as goal

pub returns-in-Ok-clause-told : goal.returns-in-Ok-clause-told
returns-in-Ok-clause-told c = (c.play.new.world, c.replace.ensures.after, c.in-Ok.ensures)
