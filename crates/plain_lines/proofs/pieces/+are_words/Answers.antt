use Rattle.std.proofs.Common.{◌<◌, rules}
use Rattle.plain_lines.proofs.Cutting.{one_word}
use Rattle.plain_lines.proofs.pieces.+are_words.Goals as goal

pub returns-then-size-text : goal.returns-then-size-text
returns-then-size-text t c =
    let some : 0 < c.first_size-size.result = search rules in
    one_word c.args.text.now c.first_size-size.result c.args.count c.first_size-size.ensures.first (search rules) some
