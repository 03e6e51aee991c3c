use Rattle.std.proofs.Common.{bytes_eq, ◌≡◌, ℕ, List, ◌∷◌, ◌++◌, [], subst, ap, ◌∙◌}
use Rattle.indexmap.specs.IndexMap.{insert_entry}
use Rattle.plain_lines.proofs.Keyed.{pushed_is, pushed_under, turned_texts}
use Rattle.handheld_core.specs.DraftTexts.{AreDrafts, number_of, numbered}
use Rattle.handheld_core.proofs.Known.{pushed_right}
use Rattle.handheld_core.proofs.draft_list.DraftList.push.Goals as goal

pub invariant_of-self-2 : goal.invariant_of-self-2
invariant_of-self-2 c =
    let put : c.insert.new.self.entries ≡ insert_entry bytes_eq c.self.inside.drafts.entries c.args.draft.base.number c.args.draft = c.in_ok-insert.ensures.entries ∙ ap (λ (n : List ℕ). insert_entry bytes_eq c.self.inside.drafts.entries n c.args.draft) (c.copy.ensures ∙ c.number.ensures) in
    let is : c.insert.new.self.entries ≡ numbered (c.args.self.now ++ c.args.draft ∷ []) = pushed_under bytes_eq turned_texts number_of c.self.inside.drafts.entries c.insert.new.self.entries c.args.self.now c.args.draft c.self.invariant.0 c.self.view_is put c.requires.apart in
    pushed_right c.insert.new.self.entries c.args.self.now c.args.draft is (subst AreDrafts c.self.view_is c.self.invariant.1) (record { base = c.extras.ensures.spelled; counters = c.as_slice.ensures.counts }) c.requires.apart c.requires.room

pub returns : goal.returns
returns c =
    let put : c.insert.new.self.entries ≡ insert_entry bytes_eq c.self.inside.drafts.entries c.args.draft.base.number c.args.draft = c.in_ok-insert.ensures.entries ∙ ap (λ (n : List ℕ). insert_entry bytes_eq c.self.inside.drafts.entries n c.args.draft) (c.copy.ensures ∙ c.number.ensures) in
    pushed_is bytes_eq turned_texts number_of c.insert.new.self.entries _ (pushed_under bytes_eq turned_texts number_of c.self.inside.drafts.entries c.insert.new.self.entries c.args.self.now c.args.draft c.self.invariant.0 c.self.view_is put c.requires.apart)
