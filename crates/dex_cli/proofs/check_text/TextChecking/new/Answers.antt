use Rattle.std.proofs.Common.{List, ℕ, ap, refl, ◌∙◌}
use Rattle.dxs_envelope.specs.TextPieces.{TextAt, text_left}
use Rattle.dex_cli.proofs.Checked.{begun_left, nothing_checked}
use Rattle.dex_cli.proofs.check_text.TextChecking.new.Goals as goal

pub returns-clause-begun : goal.returns-clause-begun
returns-clause-begun c =
    nothing_checked _ refl c.new-2.ensures.items (λ (more : List ℕ). ap (λ (t : TextAt). text_left t more) c.new.ensures ∙ begun_left more) c.parts_tell_the_sets.ensures
