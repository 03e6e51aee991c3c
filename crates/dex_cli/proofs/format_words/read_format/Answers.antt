use Rattle.std.proofs.Common.{◌≡◌, string_bytes, sym, arith, length}
use Rattle.dex_cli.proofs.Five.{map_five, five_spell, five_want}
use Rattle.dex_cli.proofs.format_words.read_format.Goals as goal

pub returns-in-len5-clause-found : goal.returns-in-len5-clause-found
returns-in-len5-clause-found c =
    let five : length c.args.words.now ≡ 5 = omega arith in
    let whole =
    map_five string_bytes c.args.words.now c.job-item.result c.role-item.result c.own-item.result c.peer-item.result c.journal-item.result five c.job-item.is c.role-item.is
    c.own-item.is c.peer-item.is c.journal-item.is
    in
    five_spell _ _ _ _ _ _ _ _ _ _ whole (rw (← c.as_str.ensures.value) (sym c.if-eq.ensures)) c.as_str-in-len5.ensures.value c.as_str-in-len5-2.ensures.value
    c.as_str-in-len5-3.ensures.value c.as_str-in-len5-4.ensures.value c.read_new.result c.read_new.ensures.found

pub returns-in-len5-clause-memory : goal.returns-in-len5-clause-memory
returns-in-len5-clause-memory c =
    let five : length c.args.words.now ≡ 5 = omega arith in
    let whole =
    map_five string_bytes c.args.words.now c.job-item.result c.role-item.result c.own-item.result c.peer-item.result c.journal-item.result five c.job-item.is c.role-item.is
    c.own-item.is c.peer-item.is c.journal-item.is
    in
    five_want _ _ _ _ _ _ _ _ _ _ whole (rw (← c.as_str.ensures.value) (sym c.if-eq.ensures)) c.as_str-in-len5.ensures.value c.as_str-in-len5-2.ensures.value
    c.as_str-in-len5-3.ensures.value c.as_str-in-len5-4.ensures.value c.read_new.result c.read_new.ensures.memory
