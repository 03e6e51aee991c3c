use Rattle.std.proofs.Common.{bytes_eq, ◌≡◌, ℕ, List, ◌∷◌, ◌++◌, [], subst, ap, ◌∙◌}
use Rattle.indexmap.specs.IndexMap.{insert_entry}
use Rattle.plain_lines.proofs.Keyed.{pushed_is, pushed_under, turned_texts}
use Rattle.receiver_core.specs.CountTexts.{AreCounts, number_of, numbered}
use Rattle.receiver_core.proofs.Known.{pushed_right}
use Rattle.receiver_core.proofs.count_list.CountList.push.Goals as goal

pub invariant_of-self-2 : goal.invariant_of-self-2
invariant_of-self-2 c =
    let put : c.insert.new.self.entries ≡ insert_entry bytes_eq c.self.inside.counts.entries c.args.count.number c.args.count = c.in_ok-insert.ensures.entries ∙ ap (λ (n : List ℕ). insert_entry bytes_eq c.self.inside.counts.entries n c.args.count) c.copy.ensures in
    let is : c.insert.new.self.entries ≡ numbered (c.args.self.now ++ c.args.count ∷ []) = pushed_under bytes_eq turned_texts number_of c.self.inside.counts.entries c.insert.new.self.entries c.args.self.now c.args.count c.self.invariant.0 c.self.view_is put c.requires.apart in
    pushed_right c.insert.new.self.entries c.args.self.now c.args.count is (subst AreCounts c.self.view_is c.self.invariant.1) c.as_slice.ensures.counts c.requires.apart c.requires.room

pub returns : goal.returns
returns c =
    let put : c.insert.new.self.entries ≡ insert_entry bytes_eq c.self.inside.counts.entries c.args.count.number c.args.count = c.in_ok-insert.ensures.entries ∙ ap (λ (n : List ℕ). insert_entry bytes_eq c.self.inside.counts.entries n c.args.count) c.copy.ensures in
    pushed_is bytes_eq turned_texts number_of c.insert.new.self.entries _ (pushed_under bytes_eq turned_texts number_of c.self.inside.counts.entries c.insert.new.self.entries c.args.self.now c.args.count c.self.invariant.0 c.self.view_is put c.requires.apart)
