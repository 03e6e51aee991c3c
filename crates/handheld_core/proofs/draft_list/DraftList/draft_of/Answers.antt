use Rattle.std.proofs.Common.{bytes_eq, ap, ◌∙◌}
use Rattle.std.specs.Map.{lookup}
use Rattle.plain_lines.proofs.Keyed.{turned_texts, under_lookup}
use Rattle.handheld_core.specs.DraftTexts.{draft_under, number_of}
use Rattle.handheld_core.proofs.draft_list.DraftList.draft_of.Goals as goal

pub returns : goal.returns
returns c =
    c.get.ensures.value ∙ ap (lookup (bytes_eq c.args.number.now)) c.self.invariant.0 ∙ under_lookup bytes_eq turned_texts number_of c.args.number.now _ ∙ ap (draft_under c.args.number.now) c.self.view_is
