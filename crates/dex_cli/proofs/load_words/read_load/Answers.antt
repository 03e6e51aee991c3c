use Rattle.std.proofs.Common.{◌≡◌, string_bytes, sym, arith, length}
use Rattle.dex_cli.proofs.LoadWords.{load_spells}
use Rattle.dex_cli.proofs.Two.{map_two}
use Rattle.dex_cli.proofs.load_words.read_load.Goals as goal

pub returns-in-len2-clause-found : goal.returns-in-len2-clause-found
returns-in-len2-clause-found c =
    let two : length c.args.words.now ≡ 2 = omega arith in
    let whole = map_two string_bytes c.args.words.now c.job-item.result c.count-item.result two c.job-item.is c.count-item.is in
    load_spells _ _ _ _ whole (rw (← c.as_str.ensures.value) (sym c.if-eq.ensures)) c.as_str-in-len2.ensures.value c.read_count.result c.read_count.ensures.found
