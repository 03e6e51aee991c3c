use Rattle.std.proofs.Common.{rules, refl, subst, sym}
use Rattle.dex_cli.specs.Formatting.{served_of}
use Rattle.dex_cli.specs.Showing.{IsNotAJournal}
use Rattle.dex_cli.proofs.Rereading.{attached_as, attached_journal, looks_behind, read_behind, shown_so}
use Rattle.dsd_journal.specs.JournalImage.{Holds}
use Rattle.dex_cli.proofs.showing.show_journal.Goals as goal

pub returns-in-Ok-clause-told : goal.returns-in-Ok-clause-told
returns-in-Ok-clause-told g c =
    shown_so g.T.Station.tells c.args.journal.now (served_of g.T.Station.told g.T.Station.faults c.args.station.now c.open_shown.new.station) c.in-Ok.book.header c.in-Ok.book.entries c.shown.result
    c.shown.ensures c.in-Ok.ensures.legal
    (λ tells. subst (λ image. Holds c.in-Ok.book.header c.in-Ok.book.entries image) (attached_journal c.args.journal.now c.attach.result (g.T.Station.told c.args.station.now) (g.T.Station.told c.attach.new.self) (search rules) (attached_as c.as_str.result.now c.args.journal.now c.attach.result (g.T.Station.told c.args.station.now) (g.T.Station.told c.attach.new.self) c.as_str.ensures.value (c.attach.ensures.told tells))) (c.in-Ok.ensures.holds tells))
    (λ tells. read_behind c.args.journal.now c.attach.result (g.T.Station.told c.args.station.now) (g.T.Station.told c.attach.new.self) (search rules) (attached_as c.as_str.result.now c.args.journal.now c.attach.result (g.T.Station.told c.args.station.now) (g.T.Station.told c.attach.new.self) c.as_str.ensures.value (c.attach.ensures.told tells)) (g.T.Station.told c.open_shown.new.station) ⊥ (λ never. never) (c.in-Ok.ensures.talk tells) (c.in-Ok.ensures.unfailed tells))

pub returns-in-Err-NotAJournal-clause-told : goal.returns-in-Err-NotAJournal-clause-told
returns-in-Err-NotAJournal-clause-told g c = λ tells.
    let clauses = rw c.in-Err-NotAJournal.field-0-is at c.in-Err-NotAJournal.ensures in
    let refused = subst (λ image. IsNotAJournal image c.in-Err-NotAJournal.place) (attached_journal c.args.journal.now c.attach.result (g.T.Station.told c.args.station.now) (g.T.Station.told c.attach.new.self) (search rules) (attached_as c.as_str.result.now c.args.journal.now c.attach.result (g.T.Station.told c.args.station.now) (g.T.Station.told c.attach.new.self) c.as_str.ensures.value (c.attach.ensures.told tells))) (clauses.refused tells c.in-Err-NotAJournal.place refl) in (
      subst (λ place. IsNotAJournal (g.T.Station.told c.args.station.now).journal place) (sym c.in-Err-NotAJournal.place-is) refused,
      read_behind c.args.journal.now c.attach.result (g.T.Station.told c.args.station.now) (g.T.Station.told c.attach.new.self) (search rules) (attached_as c.as_str.result.now c.args.journal.now c.attach.result (g.T.Station.told c.args.station.now) (g.T.Station.told c.attach.new.self) c.as_str.ensures.value (c.attach.ensures.told tells)) (g.T.Station.told c.open_shown.new.station) _ (λ failed. cc) (clauses.talk tells) (clauses.unfailed tells),
    )

pub returns-in-Ok-clause-looked : goal.returns-in-Ok-clause-looked
returns-in-Ok-clause-looked g c = λ tells. looks_behind c.args.journal.now c.attach.result (g.T.Station.told c.args.station.now) (g.T.Station.told c.attach.new.self) (search rules) (attached_as c.as_str.result.now c.args.journal.now c.attach.result (g.T.Station.told c.args.station.now) (g.T.Station.told c.attach.new.self) c.as_str.ensures.value (c.attach.ensures.told tells)) (g.T.Station.told c.open_shown.new.station) (c.in-Ok.ensures.alone tells) (c.in-Ok.ensures.talk tells)

pub returns-in-Err-NotAJournal-clause-looked : goal.returns-in-Err-NotAJournal-clause-looked
returns-in-Err-NotAJournal-clause-looked g c = λ tells. looks_behind c.args.journal.now c.attach.result (g.T.Station.told c.args.station.now) (g.T.Station.told c.attach.new.self) (search rules) (attached_as c.as_str.result.now c.args.journal.now c.attach.result (g.T.Station.told c.args.station.now) (g.T.Station.told c.attach.new.self) c.as_str.ensures.value (c.attach.ensures.told tells)) (g.T.Station.told c.open_shown.new.station) (c.in-Err-NotAJournal.ensures.alone tells) (c.in-Err-NotAJournal.ensures.talk tells)

pub returns-in-Err-Station-clause-looked : goal.returns-in-Err-Station-clause-looked
returns-in-Err-Station-clause-looked g c = λ tells. looks_behind c.args.journal.now c.attach.result (g.T.Station.told c.args.station.now) (g.T.Station.told c.attach.new.self) (search rules) (attached_as c.as_str.result.now c.args.journal.now c.attach.result (g.T.Station.told c.args.station.now) (g.T.Station.told c.attach.new.self) c.as_str.ensures.value (c.attach.ensures.told tells)) (g.T.Station.told c.open_shown.new.station) (c.in-Err-Station.ensures.alone tells) (c.in-Err-Station.ensures.talk tells)

pub returns-in-Err-Memory-clause-looked : goal.returns-in-Err-Memory-clause-looked
returns-in-Err-Memory-clause-looked g c = λ tells. looks_behind c.args.journal.now c.attach.result (g.T.Station.told c.args.station.now) (g.T.Station.told c.attach.new.self) (search rules) (attached_as c.as_str.result.now c.args.journal.now c.attach.result (g.T.Station.told c.args.station.now) (g.T.Station.told c.attach.new.self) c.as_str.ensures.value (c.attach.ensures.told tells)) (g.T.Station.told c.open_shown.new.station) (c.in-Err-Memory.ensures.alone tells) (c.in-Err-Memory.ensures.talk tells)
