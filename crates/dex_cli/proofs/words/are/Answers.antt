use Rattle.std.proofs.Common.{◌≡◌, string_bytes, sym, arith, length}
use Rattle.dex_cli.proofs.Two.{map_two, both_are, first_differs}
use Rattle.dex_cli.proofs.words.are.Goals as goal

pub returns-then-eq : goal.returns-then-eq
returns-then-eq c =
    let two : length c.args.words.now ≡ 2 = omega arith in
    let whole = map_two string_bytes c.args.words.now c.one-item.result c.two-item.result two c.one-item.is c.two-item.is in
    both_are _ _ _ _ _ _ whole (rw (← c.as_str.ensures.value) (sym c.if-eq.ensures)) (rw (← c.as_str-then-eq.ensures.value) c.eq-then-eq.ensures)

pub returns-else-eq : goal.returns-else-eq
returns-else-eq c =
    let two : length c.args.words.now ≡ 2 = omega arith in
    let whole = map_two string_bytes c.args.words.now c.one-item.result c.two-item.result two c.one-item.is c.two-item.is in
    first_differs _ _ _ _ _ c.eq.result whole (rw (← c.as_str.ensures.value) (sym c.if-eq.ensures)) c.if-eq.false
