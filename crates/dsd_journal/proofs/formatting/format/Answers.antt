use Rattle.std.proofs.Common.{◌≡◌, ℕ, List, [], ◌∷◌, length, refl, sym, ◌∙◌, arith}
use Rattle.dsd_journal.specs.declared.header.Header.{Header}
use Rattle.dsd_journal.proofs.Formatted.{formats_done, formats_failed, formats_full, formats_unasked}
use Rattle.dsd_journal.proofs.formatting.format.Goals as goal

none : (l : List ℕ) → length l ≡ 0 → l ≡ []
none [] e = refl
none (x ∷ l) e = absurd (omega (arith, e))

pub returns-in-Err-clause-told : goal.returns-in-Err-clause-told
returns-in-Err-clause-told g c = λ tells.
    let header : Header = record { role = c.args.role; own = c.args.own; peer = c.args.peer } in
    formats_unasked header (g.T.Station.told c.args.station.now) (g.T.Station.told c.size.new.self) c.in-Err.field-0 (c.in-Err.ensures.told tells)

pub returns-in-Ok-clause-told : goal.returns-in-Ok-clause-told
returns-in-Ok-clause-told g c = λ tells.
    let header : Header = record { role = c.args.role; own = c.args.own; peer = c.args.peer } in
    formats_full header (g.T.Station.told c.args.station.now) (g.T.Station.told c.size.new.self) c.in-Ok.size (c.in-Ok.ensures.size tells) c.in-Ok.size-test.1 (c.in-Ok.ensures.told tells)

pub returns-in-Err-write_header-clause-told : goal.returns-in-Err-write_header-clause-told
returns-in-Err-write_header-clause-told g c = λ tells.
    let header : Header = record { role = c.args.role; own = c.args.own; peer = c.args.peer } in
    let read = c.in-Ok-eq0.ensures.told tells in
    let empty = none (g.T.Station.told c.args.station.now).journal (sym (c.in-Ok-eq0.ensures.size tells) ∙ c.in-Ok-eq0.field-0-test) in
    formats_failed header (g.T.Station.told c.args.station.now) (g.T.Station.told c.size.new.self) c.in-Ok-eq0.field-0 (g.T.Station.told c.write_header.new.station) c.in-Ok-eq0.field-0-test empty read
    c.in-Err-write_header.field-0 (c.in-Err-write_header.ensures.told tells (read.same.journal ∙ empty))

pub returns-in-Ok-write_header-clause-told : goal.returns-in-Ok-write_header-clause-told
returns-in-Ok-write_header-clause-told g c = λ tells.
    let header : Header = record { role = c.args.role; own = c.args.own; peer = c.args.peer } in
    let read = c.in-Ok-eq0.ensures.told tells in
    let empty = none (g.T.Station.told c.args.station.now).journal (sym (c.in-Ok-eq0.ensures.size tells) ∙ c.in-Ok-eq0.field-0-test) in
    formats_done header (g.T.Station.told c.args.station.now) (g.T.Station.told c.size.new.self) c.in-Ok-eq0.field-0 (g.T.Station.told c.write_header.new.station) c.in-Ok-eq0.field-0-test empty read
    c.in-Ok-write_header.field-0 (c.in-Ok-write_header.ensures.told tells (read.same.journal ∙ empty))
