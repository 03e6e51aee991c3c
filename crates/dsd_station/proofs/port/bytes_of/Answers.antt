use Rattle.std.proofs.Common.{List, ℕ, drop, map, sym, ap, ◌∙◌}
use Rattle.std.proofs.lemmas.List.{drop-map, take_rest}
use Rattle.dsd_station.specs.declared.feeding.Given.{Given}
use Rattle.dsd_station.specs.Planned.{DueByte, dues_of}
use Rattle.dsd_station.proofs.port.bytes_of.Goals as goal

pub returns-in-Bytes-clause-rest : goal.returns-in-Bytes-clause-rest
returns-in-Bytes-clause-rest c =
    let bytes : List ℕ = c.as_slice.result.now in
    ap (λ (g : Given). drop c.args.offset (dues_of g)) c.in-Bytes.is
    ∙ ap (λ (l : List ℕ). drop c.args.offset (map DueByte l)) (sym c.as_slice.ensures)
    ∙ drop-map DueByte c.args.offset bytes
    ∙ ap (λ (l : List ℕ). map DueByte l) (sym (take_rest bytes c.args.offset))
