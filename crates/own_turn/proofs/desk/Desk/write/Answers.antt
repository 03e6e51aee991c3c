use Rattle.std.proofs.Common.{◌≡◌, ◌≤◌, ℕ, true, nat_le, List, length, rules, sym, ap, subst, ◌∙◌}
use Rattle.std.specs.Prelude.{All}
use Rattle.segments.specs.SetUnits.{IsSetText}
use Rattle.dxs_envelope.specs.Sending.{text_of_sets}
use Rattle.dxs_envelope.specs.declared.outgoing.TheConstants.{TRANSMISSION_BYTES}
use Rattle.dsd_journal.specs.declared.limits.TheConstants.{MOST_ENTRIES}
use Rattle.own_turn.specs.DueSets.{texts_of}
use Rattle.own_turn.proofs.Reached.{gathered_room, gathered_texts, never_long}
use Rattle.own_turn.proofs.desk.Desk.write.Goals as goal

pub write_transmission-requires-clause-each : goal.write_transmission-requires-clause-each
write_transmission-requires-clause-each c =
    let view = c.args.self.now in
    let few : length view.book.known ≤ MOST_ENTRIES = (search rules) in
    subst (λ (l : List (List ℕ)). All IsSetText l) (sym c.texts.ensures)
    (gathered_texts view.book.header c.args.control view.book.known view.asked c.args.sets.now c.requires.sets view.book.header.role (search rules) few)

pub unreachable-requires : goal.unreachable-requires
unreachable-requires c =
    let view = c.args.self.now in
    let room = gathered_room view.book.header c.args.control view.book.known view.asked c.args.sets.now c.requires.sets c.requires.some in
    let header = view.book.header in
    let own : c.own-own.result ≡ header.own = (search rules) in
    let peer : c.peer-peer.result ≡ header.peer = (search rules) in
    let text : text_of_sets header.own header.peer c.args.control (texts_of c.args.sets.now) ≡ text_of_sets c.own-own.result c.peer-peer.result c.args.control c.texts.result.now =
    ap (λ (l : List ℕ). text_of_sets l header.peer c.args.control (texts_of c.args.sets.now)) (sym own) ∙ ap (λ (l : List ℕ). text_of_sets c.own-own.result l c.args.control (texts_of c.args.sets.now)) (sym peer)
    ∙ ap (text_of_sets c.own-own.result c.peer-peer.result c.args.control) (sym c.texts.ensures) in
    never_long (text_of_sets c.own-own.result c.peer-peer.result c.args.control c.texts.result.now) c.in-Err-LongText.field-0 c.in-Err-LongText.field-0-0 c.in-Err-LongText.field-0-is
    (subst (λ (l : List ℕ). nat_le (length l) TRANSMISSION_BYTES ≡ true) text room) c.in-Err-LongText.ensures.exact
