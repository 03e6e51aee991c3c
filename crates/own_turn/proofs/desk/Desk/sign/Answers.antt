use Rattle.own_turn.proofs.Answering.{by_accept, by_adjust}
use Rattle.own_turn.proofs.desk.Desk.sign.Goals as goal

pub returns-in-Accept-clause-exact : goal.returns-in-Accept-clause-exact
returns-in-Accept-clause-exact c =
    by_accept c.args.self.now.book.header.role c.args.number.now c.args.signature.now c.accept.result c.args.self.now c.accept.new.self c.args.choice c.in-Accept.is c.accept.ensures.exact

pub returns-in-Adjust-clause-exact : goal.returns-in-Adjust-clause-exact
returns-in-Adjust-clause-exact c =
    by_adjust c.args.self.now.book.header.role c.args.number.now c.args.signature.now c.adjust.result c.args.self.now c.adjust.new.self c.args.choice c.in-Adjust.lines c.in-Adjust.is c.requires.sound c.adjust.ensures.exact
