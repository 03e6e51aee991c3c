use Rattle.std.proofs.Common.{arith, ◌≡◌, ◌+◌, length, take, drop, sym, ◌∙◌, ap}
use Rattle.std.proofs.lemmas.List.{drop_all, length-take, length-append, length-drop}
use Rattle.dsd_station.proofs.Fronts.{piece_then_rest}
use Rattle.dsd_station.proofs.memory_source.MemorySourceSource.read.Goals as goal

pub returns-clause-bytes : goal.returns-clause-bytes
returns-clause-bytes c =
    let count = c.min-count.result in
    let inside = c.self.inside in
    let whole : length c.copy_from_slice.new.self ≡ count = omega (arith, c.copy_from_slice.ensures.len, length-take count c.args.into.now) in
    let took : c.copy_from_slice.new.self ≡ take count (drop inside.at inside.bytes.items) = grind arith in (
      ap (λ v. v.left) (sym c.self.view_is) ∙ piece_then_rest inside.bytes.items c.copy_from_slice.new.self c.args.into.now inside.at count took whole,
      λ none some. drop_all (inside.at + count) inside.bytes.items (omega (arith, length-append c.copy_from_slice.new.self (drop count c.args.into.now), length-drop count c.args.into.now)),
    )
