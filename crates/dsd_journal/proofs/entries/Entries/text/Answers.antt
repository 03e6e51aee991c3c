use Rattle.std.proofs.Common.{◌<◌, List, ℕ, ap, subst, sym, length}
use Rattle.dsd_journal.specs.declared.entry.Entry.{Entry}
use Rattle.dsd_journal.specs.JournalImage.{IsPayloadLength}
use Rattle.dsd_journal.specs.Kept.{Shelf}
use Rattle.dsd_journal.proofs.Places.{sized_at}
use Rattle.dsd_journal.proofs.entries.Entries.text.Goals as goal

pub returns-clause-length : goal.returns-clause-length
returns-clause-length c =
    let inside = subst (λ (v : Shelf). c.args.index < length v.list) (sym c.self.view_is) c.requires in
    subst (λ (l : List ℕ). IsPayloadLength (length l)) (sym (ap (λ (e : Entry). e.payload) c.index.ensures))
    (sized_at c.self.inside.list.items c.args.index c.index.result.now c.self.invariant.each inside)
