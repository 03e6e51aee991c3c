use Rattle.std.proofs.Common.{◌≡◌, take, drop}
use Rattle.dex_line.proofs.UnitCuts.{first_of, fit_after}
use Rattle.dex_line.proofs.cutter.first_block.Goals as goal

pub returns-clause-block : goal.returns-clause-block
returns-clause-block c =
    let f = first_of c.args.text.now c.filled.result c.requires.some c.requires.fit c.filled.ensures in
    let a : c.split_at.result.0.now ≡ take c.filled.result c.args.text.now = c.split_at.ensures.front in
    let b : c.split_at.result.1.now ≡ drop c.filled.result c.args.text.now = c.split_at.ensures.back in
    rw (a, b) f

pub returns-clause-fit : goal.returns-clause-fit
returns-clause-fit c =
    let f = first_of c.args.text.now c.filled.result c.requires.some c.requires.fit c.filled.ensures in
    let b : c.split_at.result.1.now ≡ drop c.filled.result c.args.text.now = c.split_at.ensures.back in
    rw b (fit_after c.args.text.now _ _ c.requires.fit f)
