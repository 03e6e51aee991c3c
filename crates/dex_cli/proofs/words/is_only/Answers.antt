use Rattle.std.proofs.Common.{◌≡◌, string_bytes, arith, length}
use Rattle.dex_cli.proofs.One.{is_one, map_one}
use Rattle.dex_cli.proofs.words.is_only.Goals as goal

pub returns-in-len1 : goal.returns-in-len1
returns-in-len1 c =
    let one : length c.args.words.now ≡ 1 = omega arith in
    is_one _ _ _ _ (map_one string_bytes c.args.words.now c.one-item.result one c.one-item.is) (rw (← c.as_str.ensures.value) c.eq.ensures)
