use Rattle.std.proofs.Common.{◌<◌, ◌+◌, ℕ, List, ap, subst, sym, ◌∙◌, length, take, get_or, arith}
use Rattle.dsd_journal.specs.declared.limits.TheConstants.{HEADER_BYTES}
use Rattle.dsd_journal.specs.JournalImage.{gate_place}
use Rattle.dsd_journal.specs.Kept.{Shelf}
use Rattle.dsd_journal.proofs.Places.{places_length, place_at}
use Rattle.dsd_journal.proofs.entries.Entries.place.Goals as goal

pub index-requires : goal.index-requires
index-requires c =
    let inside = subst (λ (v : Shelf). c.args.index < length v.list) (sym c.self.view_is) c.requires in
    omega (arith, inside, ap length c.self.invariant.places, places_length HEADER_BYTES c.self.inside.list.items)

pub returns : goal.returns
returns c =
    let inside = subst (λ (v : Shelf). c.args.index < length v.list) (sym c.self.view_is) c.requires in
    c.index.ensures ∙ ap (λ (l : List ℕ). get_or l c.args.index c.index.result.now) c.self.invariant.places
    ∙ place_at HEADER_BYTES c.self.inside.list.items c.args.index c.index.result.now inside
    ∙ ap (λ (v : Shelf). gate_place (take c.args.index v.list) + 1) c.self.view_is
