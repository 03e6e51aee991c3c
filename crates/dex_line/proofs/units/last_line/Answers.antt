use Rattle.std.proofs.Common.{subst, sym}
use Rattle.std.proofs.lemmas.List.{take_rest}
use Rattle.dex_line.specs.TextUnits.{IsLastLine}
use Rattle.dex_line.proofs.UnitEnds.{last_of}
use Rattle.dex_line.proofs.units.last_line.Goals as goal

pub returns : goal.returns
returns c =
    subst (λ l. IsLastLine c.args.lines.now l) (sym (take_rest c.args.lines.now c.lines_len.result))
    (last_of c.args.lines.now c.in-Some.front.now c.in-Some._feed.now c.lines_len.result c.requires.whole c.in-Some.ensures.cases.0 c.lines_len.ensures)
