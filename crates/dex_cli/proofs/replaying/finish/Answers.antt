use Rattle.dex_cli.proofs.replaying.finish.Goals as goal

pub returns-in-Ok : goal.returns-in-Ok
returns-in-Ok c = record {
  script_is = c.in-Ok.ensures.script;
  finished = c.in-Ok.ensures.stage;
  played = c.in-Ok.ensures.played;
  reported = c.in-Ok.ensures.report;
  settles = λ events. c.clean_endings_settle.ensures.lists c.finish.new.self events c.in-Ok.ensures.played;
  completes = c.clean_endings_settle.ensures.empty c.finish.new.self c.in-Ok.ensures.played;
  heals = λ events most. c.foretold_endings_finish.ensures.lists c.finish.new.self events most c.in-Ok.ensures.played;
  finalises = λ most. c.foretold_endings_finish.ensures.empty c.finish.new.self most c.in-Ok.ensures.played;
}
