use Rattle.std.proofs.Common.{rules, Bor, List, ℕ, [], ◌∙◌, ap, ◌∷◌}
use Rattle.std.specs.List.{slice_split}
use Rattle.std.specs.Option.{option_map_or}
use Rattle.segments.specs.SegmentSpelling.{is_star}
use Rattle.transaction_set.proofs.GivenRows.{first_part, rest_asked}
use Rattle.transaction_set.proofs.giving.+give_parted.Goals as goal

pub element-requires-clause-characters : goal.element-requires-clause-characters
element-requires-clause-characters t c = first_part c.args.text.now c.cut.result.0.now _ c.cut.ensures.parts c.requires.characters

pub give_parted-requires : goal.give_parted-requires
give_parted-requires t c =
    let parts = c.cut.ensures.parts ∙ ap (λ o. c.cut.result.0.now ∷ option_map_or (λ (rest : Bor (List ℕ)). slice_split is_star rest.now) o []) c.in-Some.is in
    let asked = rest_asked c.args.text.now c.cut.result.0.now (slice_split is_star c.in-Some.rest.now) c.args.segments.now c.element.new.self parts c.requires.characters c.requires.few c.in_ok-element.ensures in
    let less = rw c.in-Some.is at c.cut.ensures.shorter in
    (search rules, (asked.begun, (asked.characters, asked.few)))
