use Rattle.std.proofs.Common.{[], ◌∷◌, ◌++◌, List, ap, ◌∙◌, is_ok}
use Rattle.dsd_journal.specs.declared.entry.Entry.{Entry}
use Rattle.dsd_journal.specs.Journals.{View}
use Rattle.dsd_journal.proofs.Appended.{appends_none, flushes_as, flushes_of}
use Rattle.dsd_journal.proofs.journal.Journal.append.Goals as goal

pub returns-then-length-gt-JOURNAL_BYTES-clause-told : goal.returns-then-length-gt-JOURNAL_BYTES-clause-told
returns-then-length-gt-JOURNAL_BYTES-clause-told g c = λ tells. appends_none c.args.self.now.header c.args.self.now.entries (g.T.Station.told c.args.station.now) (c.requires.rests tells) _

pub returns-in-Ok-clause-told : goal.returns-in-Ok-clause-told
returns-in-Ok-clause-told g c = λ tells.
    let e : Entry = record { kind = c.args.kind; payload = c.args.payload.now } in
    let before = c.args.self.now in
    let mid = c.put.new.self in
    (flushes_of mid.header before.header mid.entries before.entries mid.staged (e ∷ []) c.flush.result (g.T.Station.told c.args.station.now) (g.T.Station.told c.flush.new.station)
    (ap (λ (v : View). v.header) c.put.ensures) (ap (λ (v : View). v.entries) c.put.ensures) (ap (λ (v : View). v.staged) c.put.ensures ∙ ap (λ (l : List Entry). l ++ e ∷ []) c.requires.none_staged)
    (c.flush.ensures.told tells)).appends

pub returns-in-Err-clause-told : goal.returns-in-Err-clause-told
returns-in-Err-clause-told g c = λ tells.
    let e : Entry = record { kind = c.args.kind; payload = c.args.payload.now } in
    let before = c.args.self.now in
    let mid = c.put.new.self in
    (flushes_of mid.header before.header mid.entries before.entries mid.staged (e ∷ []) c.flush.result (g.T.Station.told c.args.station.now) (g.T.Station.told c.flush.new.station)
    (ap (λ (v : View). v.header) c.put.ensures) (ap (λ (v : View). v.entries) c.put.ensures) (ap (λ (v : View). v.staged) c.put.ensures ∙ ap (λ (l : List Entry). l ++ e ∷ []) c.requires.none_staged)
    (c.flush.ensures.told tells)).appends

pub returns-in-Ok-clause-flushes : goal.returns-in-Ok-clause-flushes
returns-in-Ok-clause-flushes g c = λ fits tells.
    let e : Entry = record { kind = c.args.kind; payload = c.args.payload.now } in
    let before = c.args.self.now in
    let mid = c.put.new.self in
    flushes_as before.header before.entries (e ∷ []) c.flush.result _ (g.T.Station.told c.args.station.now) (g.T.Station.told c.flush.new.station) (ap is_ok c.in-Ok.is)
    (flushes_of mid.header before.header mid.entries before.entries mid.staged (e ∷ []) c.flush.result (g.T.Station.told c.args.station.now) (g.T.Station.told c.flush.new.station)
    (ap (λ (v : View). v.header) c.put.ensures) (ap (λ (v : View). v.entries) c.put.ensures) (ap (λ (v : View). v.staged) c.put.ensures ∙ ap (λ (l : List Entry). l ++ e ∷ []) c.requires.none_staged)
    (c.flush.ensures.told tells))

pub returns-in-Err-clause-flushes : goal.returns-in-Err-clause-flushes
returns-in-Err-clause-flushes g c = λ fits tells.
    let e : Entry = record { kind = c.args.kind; payload = c.args.payload.now } in
    let before = c.args.self.now in
    let mid = c.put.new.self in
    flushes_as before.header before.entries (e ∷ []) c.flush.result _ (g.T.Station.told c.args.station.now) (g.T.Station.told c.flush.new.station) (ap is_ok c.in-Err.is)
    (flushes_of mid.header before.header mid.entries before.entries mid.staged (e ∷ []) c.flush.result (g.T.Station.told c.args.station.now) (g.T.Station.told c.flush.new.station)
    (ap (λ (v : View). v.header) c.put.ensures) (ap (λ (v : View). v.entries) c.put.ensures) (ap (λ (v : View). v.staged) c.put.ensures ∙ ap (λ (l : List Entry). l ++ e ∷ []) c.requires.none_staged)
    (c.flush.ensures.told tells))
