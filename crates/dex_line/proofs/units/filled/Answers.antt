use Rattle.std.proofs.Common.{◌∙◌, sym, ap, arith}
use Rattle.std.proofs.lemmas.List.{take_rest}
use Rattle.dex_line.specs.TextUnits.{is_set_end}
use Rattle.dex_line.proofs.Filling.{fills_before, fills_behind, fills_trailer}
use Rattle.dex_line.proofs.units.filled.Goals as goal

pub returns-then-not-begins_set_end : goal.returns-then-not-begins_set_end
returns-then-not-begins_set_end c =
    fills_before c.args.text.now c.args.room c.lines_len-size.result (omega arith) c.lines_len-size.ensures
    (ap is_set_end (sym (take_rest c.args.text.now c.lines_len-size.result)) ∙ sym c.begins_set_end.ensures ∙ c.if-not-begins_set_end.true)

pub returns-then-is_trailer_line : goal.returns-then-is_trailer_line
returns-then-is_trailer_line c =
    fills_trailer c.args.text.now c.last_line-line.result.now c.args.room c.lines_len-size.result (omega arith) c.lines_len-size.ensures
    c.last_line-line.ensures (sym c.is_trailer_line.ensures ∙ c.if-is_trailer_line.true)
    (ap is_set_end (sym (take_rest c.args.text.now c.lines_len-size.result)) ∙ sym c.begins_set_end.ensures ∙ c.if-not-begins_set_end.false)

pub returns-else-is_trailer_line : goal.returns-else-is_trailer_line
returns-else-is_trailer_line c =
    fills_behind c.args.text.now c.last_line-line.result.now c.args.room c.lines_len-size.result (omega arith) c.lines_len-size.ensures
    c.last_line-line.ensures (sym c.is_trailer_line.ensures ∙ c.if-is_trailer_line.false)
