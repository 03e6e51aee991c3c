use Rattle.std.proofs.Common.{inl, inr, refl, sym, subst, rules}
use Rattle.std.specs.Prelude.{IfOk, List, ℕ}
use Rattle.dsd_record.specs.Choices.{Chooser}
use Rattle.delivery_book.specs.BookImages.{IsBookRefused}
use Rattle.dex_cli.specs.Ends.{Ends, HasRun}
use Rattle.dex_cli.specs.Formatting.{served_of}
use Rattle.dex_cli.proofs.EndsOf.{ends_so, idle_opened, plugs, running, unplugged}
use Rattle.dex_cli.proofs.end_job.run_end.Goals as goal

pub returns-then-is_err-clause-told : goal.returns-then-is_err-clause-told
returns-then-is_err-clause-told g c = (
  search rules,
  λ tells. inl (unplugged c.args.names.now c.as_str.result.now c.as_str-2.result.now c.attach.result (g.T.Station.told c.args.station.now) (g.T.Station.told c.attach.new.self)
      c.as_str.ensures.value c.as_str-2.ensures.value (search rules) (c.attach.ensures.told tells)),
)

pub returns-then-is_err-clause-left : goal.returns-then-is_err-clause-left
returns-then-is_err-clause-left g c = λ tells.
    inl (unplugged c.args.names.now c.as_str.result.now c.as_str-2.result.now c.attach.result (g.T.Station.told c.args.station.now) (g.T.Station.told c.attach.new.self)
    c.as_str.ensures.value c.as_str-2.ensures.value (search rules) (c.attach.ensures.told tells))

pub returns-in-Ok-clause-told : goal.returns-in-Ok-clause-told
returns-in-Ok-clause-told g c =
    let told = g.T.Station.told in
    let before = told c.args.station.now in
    let attached = told c.attach.new.self in
    let opened = told c.open_end.new.station in
    let after = told c.run_opened.new.station in
    let end = c.in-Ok.end in
    let last = c.run_opened.new.end.core.standing in
    let served = served_of told g.T.Station.faults c.args.station.now c.run_opened.new.station in
    subst (λ (chooser : Chooser). IfOk c.run_opened.result (Ends g.T.Station.tells c.args.role chooser c.args.names.now served)) c.in-Ok.ensures.decider
    (ends_so g.T.Station.tells c.args.role (g.D.Decider.chooser end.decider) c.args.names.now served
    (record { header = end.core.book.header; first = end.core.book.entries; attached = attached; opened = opened }) end.core.standing last (g.T.Station.faults c.open_end.new.station) c.run_opened.result
    (search rules) c.in-Ok.ensures.standing
    (λ tells. running c.args.names.now before attached
    (plugs c.args.names.now c.as_str.result.now c.as_str-2.result.now c.attach.result before attached c.as_str.ensures.value c.as_str-2.ensures.value (search rules) (c.attach.ensures.told tells))
    c.args.role (g.D.Decider.chooser end.decider) end.core.book.header end.core.book.entries last opened after c.in-Ok.ensures.role c.in-Ok.ensures.legal (c.in-Ok.ensures.told tells) (c.in-Ok.ensures.rests tells).holds
    (c.run_opened.ensures.hears tells) (c.run_opened.ensures.runs tells end.core.book.entries _ (c.in-Ok.ensures.runs tells)))
    c.run_opened.ensures.told)

pub returns-in-Ok-clause-left : goal.returns-in-Ok-clause-left
returns-in-Ok-clause-left g c = λ tells.
    let told = g.T.Station.told in
    let before = told c.args.station.now in
    let attached = told c.attach.new.self in
    let opened = told c.open_end.new.station in
    let after = told c.run_opened.new.station in
    let end = c.in-Ok.end in
    let last = c.run_opened.new.end.core.standing in
    let runs = running c.args.names.now before attached
    (plugs c.args.names.now c.as_str.result.now c.as_str-2.result.now c.attach.result before attached c.as_str.ensures.value c.as_str-2.ensures.value (search rules) (c.attach.ensures.told tells))
    c.args.role (g.D.Decider.chooser end.decider) end.core.book.header end.core.book.entries last opened after c.in-Ok.ensures.role c.in-Ok.ensures.legal (c.in-Ok.ensures.told tells) (c.in-Ok.ensures.rests tells).holds
    (c.run_opened.ensures.hears tells) (c.run_opened.ensures.runs tells end.core.book.entries _ (c.in-Ok.ensures.runs tells)) in
    inr (subst (λ (chooser : Chooser). HasRun c.args.role chooser c.args.names.now before after) c.in-Ok.ensures.decider (record { opening = _; standing = last; running = runs }))

pub returns-in-Err-NotAJournal-clause-told : goal.returns-in-Err-NotAJournal-clause-told
returns-in-Err-NotAJournal-clause-told g c = λ tells.
    let before = g.T.Station.told c.args.station.now in
    let attached = g.T.Station.told c.attach.new.self in
    let clauses = rw c.in-Err-NotAJournal.field-0-is at c.in-Err-NotAJournal.ensures in
    let plugged = plugs c.args.names.now c.as_str.result.now c.as_str-2.result.now c.attach.result before attached c.as_str.ensures.value c.as_str-2.ensures.value (search rules) (c.attach.ensures.told tells) in (
      subst (λ (place : ℕ). IsBookRefused c.args.role before.journal place) (sym c.in-Err-NotAJournal.place-is)
          (subst (λ (image : List ℕ). IsBookRefused c.args.role image c.in-Err-NotAJournal.place) plugged.ok.journal (clauses.refused tells c.in-Err-NotAJournal.place refl)),
      idle_opened c.args.names.now before attached plugged _ (g.T.Station.told c.open_end.new.station) (clauses.told tells),
    )

pub returns-in-Err-NotAJournal-clause-left : goal.returns-in-Err-NotAJournal-clause-left
returns-in-Err-NotAJournal-clause-left g c = λ tells.
    let before = g.T.Station.told c.args.station.now in
    let attached = g.T.Station.told c.attach.new.self in
    let plugged = plugs c.args.names.now c.as_str.result.now c.as_str-2.result.now c.attach.result before attached c.as_str.ensures.value c.as_str-2.ensures.value (search rules) (c.attach.ensures.told tells) in
    inl (idle_opened c.args.names.now before attached plugged _ (g.T.Station.told c.open_end.new.station) (c.in-Err-NotAJournal.ensures.told tells))

pub returns-in-Err-Station-clause-told : goal.returns-in-Err-Station-clause-told
returns-in-Err-Station-clause-told g c = (
  search rules,
  λ tells.
      let before = g.T.Station.told c.args.station.now in
      let attached = g.T.Station.told c.attach.new.self in
      let plugged = plugs c.args.names.now c.as_str.result.now c.as_str-2.result.now c.attach.result before attached c.as_str.ensures.value c.as_str-2.ensures.value (search rules) (c.attach.ensures.told tells) in
      inl (idle_opened c.args.names.now before attached plugged _ (g.T.Station.told c.open_end.new.station) (c.in-Err-Station.ensures.told tells)),
)

pub returns-in-Err-Station-clause-left : goal.returns-in-Err-Station-clause-left
returns-in-Err-Station-clause-left g c = λ tells.
    let before = g.T.Station.told c.args.station.now in
    let attached = g.T.Station.told c.attach.new.self in
    let plugged = plugs c.args.names.now c.as_str.result.now c.as_str-2.result.now c.attach.result before attached c.as_str.ensures.value c.as_str-2.ensures.value (search rules) (c.attach.ensures.told tells) in
    inl (idle_opened c.args.names.now before attached plugged _ (g.T.Station.told c.open_end.new.station) (c.in-Err-Station.ensures.told tells))

pub returns-in-Err-Memory-clause-left : goal.returns-in-Err-Memory-clause-left
returns-in-Err-Memory-clause-left g c = λ tells.
    let before = g.T.Station.told c.args.station.now in
    let attached = g.T.Station.told c.attach.new.self in
    let plugged = plugs c.args.names.now c.as_str.result.now c.as_str-2.result.now c.attach.result before attached c.as_str.ensures.value c.as_str-2.ensures.value (search rules) (c.attach.ensures.told tells) in
    inl (idle_opened c.args.names.now before attached plugged _ (g.T.Station.told c.open_end.new.station) (c.in-Err-Memory.ensures.told tells))
