use Rattle.std.proofs.Common.{◌≡◌, string_bytes, sym, arith, length}
use Rattle.dex_cli.proofs.ShowWords.{show_spells, show_wants}
use Rattle.dex_cli.proofs.Two.{map_two}
use Rattle.dex_cli.proofs.show_words.read_show.Goals as goal

pub returns-in-len2-clause-found : goal.returns-in-len2-clause-found
returns-in-len2-clause-found c =
    let two : length c.args.words.now ≡ 2 = omega arith in
    let whole = map_two string_bytes c.args.words.now c.job-item.result c.journal-item.result two c.job-item.is c.journal-item.is in
    show_spells _ _ _ _ whole (rw (← c.as_str.ensures.value) (sym c.if-eq.ensures)) c.as_str-in-len2.ensures.value c.read_name.result c.read_name.ensures.found c.read_name.ensures.name

pub returns-in-len2-clause-memory : goal.returns-in-len2-clause-memory
returns-in-len2-clause-memory c =
    let two : length c.args.words.now ≡ 2 = omega arith in
    let whole = map_two string_bytes c.args.words.now c.job-item.result c.journal-item.result two c.job-item.is c.journal-item.is in
    show_wants _ _ _ _ whole (rw (← c.as_str.ensures.value) (sym c.if-eq.ensures)) c.as_str-in-len2.ensures.value c.read_name.result c.read_name.ensures.memory
