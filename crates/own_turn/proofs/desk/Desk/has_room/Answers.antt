use Rattle.std.proofs.Common.{◌+◌, ℕ, List, length, nat_le, ap, ◌∙◌}
use Rattle.dxs_envelope.specs.declared.outgoing.TheConstants.{TRANSMISSION_BYTES}
use Rattle.own_turn.proofs.Reached.{room_for}
use Rattle.own_turn.proofs.desk.Desk.has_room.Goals as goal

pub returns-clause-value : goal.returns-clause-value
returns-clause-value c = λ number.
    ap (λ (l : List ℕ). nat_le (c.envelope.result + (c.bytes.result + length l)) TRANSMISSION_BYTES) c.as_slice.ensures
    ∙ room_for c.args.self.now.book.header c.args.control c.args.gathered.now number c.args.text.now c.len.result c.envelope.result c.bytes.result c.len.ensures.value c.bytes.ensures.value c.envelope.ensures.value
