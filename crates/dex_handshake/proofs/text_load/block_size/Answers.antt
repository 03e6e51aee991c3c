use Rattle.std.proofs.Common.{◌∙◌}
use Rattle.dex_handshake.proofs.Loads.{fit_behind, present_block}
use Rattle.dex_handshake.proofs.text_load.block_size.Goals as goal

pub returns-in-Some-clause-present : goal.returns-in-Some-clause-present
returns-in-Some-clause-present c =
    present_block c.args.text.now c.args.from c.new.result c.in-Some.block.now c.next.new.self c.in-Some._last
    (c.new.ensures ∙ c.behind.ensures) c.requires.inside c.in-Some.ensures.block c.in-Some.ensures.marks c.in-Some.ensures.blocks

pub returns-in-Some-clause-fit : goal.returns-in-Some-clause-fit
returns-in-Some-clause-fit c =
    fit_behind c.args.text.now c.args.from c.new.result c.in-Some.block.now c.next.new.self
    (c.new.ensures ∙ c.behind.ensures) c.in-Some.ensures.block c.next.ensures.left
