use Rattle.std.proofs.Common.{◌≡◌, ◌<◌, ◌+◌, ◌-◌, ◌++◌, ℕ, List, length, ap, subst, sym, ◌∙◌, arith}
use Rattle.dsd_journal.specs.declared.entry.Entry.{Entry}
use Rattle.dsd_journal.specs.declared.limits.TheConstants.{HEADER_BYTES, JOURNAL_BYTES}
use Rattle.dsd_journal.specs.JournalImage.{gate_place, spelled, EachFits}
use Rattle.dsd_journal.specs.Kept.{places_from, Shelf}
use Rattle.dsd_journal.proofs.Places.{gate_append, places_append}
use Rattle.dsd_journal.proofs.Takes.{each_append}
use Rattle.dsd_journal.proofs.entries.Entries.append_reserved.Goals as goal

pub add_places-self-inside-requires-clause-near : goal.add_places-self-inside-requires-clause-near
add_places-self-inside-requires-clause-near c =
    let list = c.self.inside.list.items in
    let more = c.args.more.now.items in
    let near = subst (λ (v : Shelf). gate_place (v.list ++ more) < JOURNAL_BYTES) (sym c.self.view_is) c.requires.near in
    omega (arith, near, c.self.invariant.gate, gate_append list more, ap (λ (l : List Entry). length (spelled l)) c.deref.ensures.value)

pub invariant_of-self : goal.invariant_of-self
invariant_of-self c =
    let is = c.self.invariant in
    let list = c.self.inside.list.items in
    let more = c.args.more.now.items in
    let near = subst (λ (v : Shelf). gate_place (v.list ++ more) < JOURNAL_BYTES) (sym c.self.view_is) c.requires.near in
    let all : c.append.new.self.items ≡ list ++ more = c.in-Ok.ensures.items in
    let lent : c.deref.result.now ≡ more = c.deref.ensures.value in
    let gate : c.add_places-self-inside.result ≡ gate_place (list ++ more) =
    omega (arith, c.add_places-self-inside.ensures.gate, is.gate, gate_append list more, ap (λ (l : List Entry). length (spelled l)) lent) in
    record {
      places = c.add_places-self-inside.ensures.items
          ∙ ap (λ (l : List Entry). c.self.inside.places.items ++ places_from c.self.inside.gate l) lent
          ∙ ap (λ (l : List ℕ). l ++ places_from c.self.inside.gate more) is.places
          ∙ ap (λ (n : ℕ). places_from HEADER_BYTES list ++ places_from n more) is.gate
          ∙ sym (places_append HEADER_BYTES list more)
          ∙ ap (places_from HEADER_BYTES) (sym all);
      gate = gate ∙ ap gate_place (sym all);
      below = omega (arith, gate, near);
      each = subst EachFits (sym all) (each_append list more is.each c.requires.each);
    }
