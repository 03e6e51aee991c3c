use Rattle.std.proofs.Common.{◌≡◌, length, rules, sym, ap, ◌∙◌, arith}
use Rattle.own_turn.proofs.Framing.{envelope_length}
use Rattle.own_turn.proofs.desk.Desk.envelope.Goals as goal

pub returns-clause-value : goal.returns-clause-value
returns-clause-value c =
    let own_is : c.get.result ≡ c.args.self.now.book.header.own = (search rules) in
    let peer_is : c.get-2.result ≡ c.args.self.now.book.header.peer = (search rules) in
    let own : length c.args.self.now.book.header.own ≡ 10 = ap length (sym own_is) ∙ (search rules) in
    let peer : length c.args.self.now.book.header.peer ≡ 10 = ap length (sym peer_is) ∙ (search rules) in
    envelope_length c.args.self.now.book.header.own c.args.self.now.book.header.peer c.args.control c.args.sets c.digits.result c.digits-2.result own peer (omega (arith, c.ranges.sets.fits)) (search rules) c.digits-2.ensures.value
