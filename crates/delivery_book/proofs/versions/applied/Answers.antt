use Rattle.delivery_book.proofs.Bodies.{applied_so, refused_so}
use Rattle.delivery_book.proofs.versions.applied.Goals as goal

pub returns-in-Ok-apply : goal.returns-in-Ok-apply
returns-in-Ok-apply c = applied_so c.args.seen.now c.in-Ok.after c.apply.new.self c.args.answer.now c.args.check c.in-Ok.ensures c.in-Ok-apply.ensures.exact

pub returns-in-Err : goal.returns-in-Err
returns-in-Err c = refused_so c.args.seen.now c.in-Ok.after c.args.answer.now c.in-Err.fault c.in-Ok.ensures c.in-Err.ensures.exact
