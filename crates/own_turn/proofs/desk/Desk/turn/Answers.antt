use Rattle.std.proofs.Common.{rules}
use Rattle.std.specs.Prelude.{Contains}
use Rattle.own_turn.specs.Desks.{IsTooLong, desk_of}
use Rattle.own_turn.specs.NextEntry.{TurnAddsNext}
use Rattle.own_turn.specs.OwnTurn.{sets_lent}
use Rattle.own_turn.specs.Staging.{IsStaging}
use Rattle.own_turn.proofs.Stopping.{stores_none}
use Rattle.own_turn.proofs.TurnsGrowing.{staged_grows}
use Rattle.own_turn.proofs.Turning.{grown_full, never_full, stores_turn}
use Rattle.std.proofs.Common.{◌≡◌, ap, ◌∙◌, []}
use Rattle.dsd_journal.specs.Journals.{Rests}
use Rattle.dsd_journal.specs.declared.header.Header.{Header}
use Rattle.own_turn.specs.IdleTurns.{IsIdle}
use Rattle.own_turn.specs.OwnTurn.{gathered}
use Rattle.own_turn.proofs.Idling.{gathered_still, gives_no_memory, no_memory_map}
use Rattle.own_turn.proofs.desk.Desk.turn.Goals as goal

pub returns-in-Ok-clause-full : goal.returns-in-Ok-clause-full
returns-in-Ok-clause-full g c = never_full c.settle.result (IsTooLong (TurnAddsNext c.args.self.now.book.header.role (g.D.Decider.chooser c.args.decider.now) c.args.text.now (desk_of c.args.self.now)) c.settle.new.self.book.known) c.settle.ensures.never_full

pub returns-in-Ok-clause-told : goal.returns-in-Ok-clause-told
returns-in-Ok-clause-told g c = λ tells.
    let old = c.args.self.now in
    let chooser = g.D.Decider.chooser c.args.decider.now in
    let text = c.args.text.now in
    let staging : IsStaging old.book = (search rules) in
    stores_turn chooser (sets_lent text) old.book c.stage.new.self.book (g.T.Station.told c.args.station.now) (g.T.Station.told c.settle.new.station) c.in-Ok.ensures.journal staging c.requires.none_staged
    (staged_grows (Contains (sets_lent text)) old.book.header.role chooser (desk_of old) (desk_of c.stage.new.self) text (λ set inside. inside) c.in-Ok.ensures.exact) (c.settle.ensures.told tells)

pub returns-in-Err-Full-clause-told : goal.returns-in-Err-Full-clause-told
returns-in-Err-Full-clause-told g c = λ tells.
    let old = c.args.self.now in
    let chooser = g.D.Decider.chooser c.args.decider.now in
    let text = c.args.text.now in
    let staging : IsStaging old.book = (search rules) in
    stores_turn chooser (sets_lent text) old.book c.stage.new.self.book (g.T.Station.told c.args.station.now) (g.T.Station.told c.give_up.new.station) c.in-Err-Full.ensures.journal staging c.requires.none_staged
    (grown_full old.book.header.role chooser text old c.stage.new.self c.in-Err-Full.field-0 c.in-Err-Full.length c.in-Err-Full.field-0-is c.in-Err-Full.ensures.exact) (c.give_up.ensures.told tells)

pub returns-in-Err-Memory-clause-told : goal.returns-in-Err-Memory-clause-told
returns-in-Err-Memory-clause-told g c = λ tells.
    stores_none c.args.self.now.book.header (g.D.Decider.chooser c.args.decider.now) (sets_lent c.args.text.now) c.args.self.now.book.entries (g.T.Station.told c.args.station.now) (c.requires.rests tells)

pub returns-in-Ok-clause-memory : goal.returns-in-Ok-clause-memory
returns-in-Ok-clause-memory g c =
    let old = c.args.self.now in
    let chooser = g.D.Decider.chooser c.args.decider.now in
    let header = c.stage.new.self.book.header in
    no_memory_map (gathered header (desk_of c.stage.new.self) ≡ [] → ⊥) (IsIdle old.book.header chooser (desk_of old) c.args.text.now → ⊥) c.settle.result
    (λ busy idle. busy (gathered_still header old.book.header.role chooser c.args.text.now (desk_of old) (desk_of c.stage.new.self) idle.adds c.in-Ok.ensures.exact
    ∙ ap (λ (h : Header). gathered h (desk_of old)) c.in-Ok.ensures.journal.header ∙ idle.gathers)) c.settle.ensures.memory

pub returns-in-Err-Full-clause-memory : goal.returns-in-Err-Full-clause-memory
returns-in-Err-Full-clause-memory g c =
    gives_no_memory c.in-Err-Full.length c.give_up.result (IsIdle c.args.self.now.book.header (g.D.Decider.chooser c.args.decider.now) (desk_of c.args.self.now) c.args.text.now → ⊥) c.give_up.ensures.fault

pub returns-in-Err-Full-clause-left : goal.returns-in-Err-Full-clause-left
returns-in-Err-Full-clause-left g c = λ tells.
    gives_no_memory c.in-Err-Full.length c.give_up.result (Rests c.give_up.new.self.book.header c.give_up.new.self.book.entries (g.T.Station.told c.give_up.new.station)) c.give_up.ensures.fault

pub returns-in-Err-Memory-clause-memory : goal.returns-in-Err-Memory-clause-memory
returns-in-Err-Memory-clause-memory g c = λ idle. let no = c.in-Err-Memory.ensures.idle idle.adds in cc
