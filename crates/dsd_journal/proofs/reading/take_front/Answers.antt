use Rattle.std.proofs.Common.{sym, ◌∙◌, subst, inl, inr, arith}
use Rattle.dsd_journal.specs.JournalImage.{gate_place, spelled}
use Rattle.dsd_journal.specs.Reading.{IsWaiting}
use Rattle.dsd_journal.proofs.Takes.{cut_is}
use Rattle.dsd_journal.proofs.reading.take_front.Goals as goal

pub returns-clause-waiting : goal.returns-clause-waiting
returns-clause-waiting c = λ is.
    let taken = c.in-Ok.ensures.taken in
    let same = cut_is c.args.bytes.now.items (spelled taken.more) c.in-Ok.rest.now c.cut_front.new.bytes.items _ c.cut_front.ensures (omega (arith, c.len.ensures)) (sym c.deref.ensures.value ∙ taken.split) in
    subst (IsWaiting (gate_place c.take_entries.new.entries.list)) (sym same) (elim (c.in-Ok.ensures.stuck) [ inl shut ↦ absurd (c.is_shut-shut.ensures.open is shut) | inr waits ↦ waits ])
