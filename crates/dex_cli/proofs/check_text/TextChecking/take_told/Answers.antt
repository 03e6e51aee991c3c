use Rattle.std.proofs.Common.{refl}
use Rattle.dex_cli.proofs.Checked.{part_taken, when_ok}
use Rattle.dex_cli.proofs.check_text.TextChecking.take_told.Goals as goal

pub returns-clause-goes : goal.returns-clause-goes
returns-clause-goes c =
    when_ok c.keep.result (λ kept all left goes. part_taken all left c.args.self.now _ c.keep.new.self c.args.self.now.text.told _ c.in_ok-brought-in-Some.brought c.take_part.new.begun c.in-Some.ensures
    c.in_ok-brought-in-Some.ensures c.keep.ensures.begun refl kept goes) c.keep.ensures.kept
