use Rattle.std.proofs.Common.{◌<◌, ℕ, List, ap, subst, sym, ◌∙◌, length, arith, ◌+◌, ◌++◌, [], ◌∷◌}
use Rattle.dsd_journal.specs.declared.limits.TheConstants.{HEADER_BYTES, JOURNAL_BYTES}
use Rattle.dsd_journal.specs.JournalImage.{EachFits, gate_place}
use Rattle.dsd_journal.specs.Kept.{Shelf, places_from}
use Rattle.dsd_journal.proofs.Places.{places_append}
use Rattle.dsd_journal.proofs.Refusing.{each_push}
use Rattle.dsd_journal.proofs.Deciding.{gate_push}
use Rattle.dsd_journal.proofs.entries.Entries.push_reserved.Goals as goal

pub invariant_of-self : goal.invariant_of-self
invariant_of-self c =
    let is = c.self.invariant in
    let list = c.self.inside.list.items in
    let near = subst (λ (v : Shelf). gate_place v.list + 6 + length c.args.entry.payload < JOURNAL_BYTES) (sym c.self.view_is) c.requires.near in
    let pushed = c.push_reserved-2.ensures.items in
    let length_is = ap length c.as_slice.ensures in
    record {
      places = c.push_reserved.ensures.items ∙ ap (λ (n : ℕ). c.self.inside.places.items ++ (n + 1) ∷ []) is.gate ∙ ap (λ (l : List ℕ). l ++ (gate_place list + 1) ∷ []) is.places
          ∙ sym (places_append HEADER_BYTES list (c.args.entry ∷ [])) ∙ ap (places_from HEADER_BYTES) (sym pushed);
      gate = omega (arith, is.gate, length_is, gate_push list c.args.entry, ap gate_place pushed);
      below = omega (arith, is.gate, length_is, near);
      each = subst EachFits (sym pushed) (each_push list c.args.entry is.each c.requires.sized);
    }
