use Rattle.std.proofs.Common.{◌≡◌, ℕ, List, [], ◌<◌, length, arith, subst, sym, ap, ◌∙◌, vec_len}
use Rattle.std.specs.Io.KnownBytes.{Consumes}
use Rattle.dsd_station.proofs.reading.read_up_to.Goals as goal

pub returns-clause-bound : goal.returns-clause-bound
returns-clause-bound g c =
    let read = c.in_ok-read_through.ensures.read in
    let all = read.3 [] c.new-all.ensures.items in
    omega (arith, c.read_through.new.taker.ok.0, ap (λ (l : List ℕ). length l) all, read.2.few)

pub returns-clause-bytes : goal.returns-clause-bytes
returns-clause-bytes g c =
    let read = c.in_ok-read_through.ensures.read in
    subst (λ (l : List ℕ). Consumes (g.S.Source.left c.args.source.now) (g.S.Source.left c.read_through.new.source) l) (sym (read.3 [] c.new-all.ensures.items)) read.2.taken

pub returns-clause-end : goal.returns-clause-end
returns-clause-end g c few =
    let read = c.in_ok-read_through.ensures.read in
    let all = read.3 [] c.new-all.ensures.items in
    read.2.whole (omega (arith, c.read_through.new.taker.ok.0, ap (λ (l : List ℕ). length l) all, few))
