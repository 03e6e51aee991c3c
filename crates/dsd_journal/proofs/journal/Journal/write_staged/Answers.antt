use Rattle.std.proofs.Common.{◌<◌, ◌++◌, length, ap, subst, sym, ◌∙◌, arith}
use Rattle.dsd_journal.specs.declared.limits.TheConstants.{JOURNAL_BYTES}
use Rattle.dsd_journal.specs.JournalImage.{gate_place, spelled, EachFits}
use Rattle.dsd_journal.specs.Journals.{View}
use Rattle.dsd_journal.proofs.Appended.{flushes}
use Rattle.dsd_journal.proofs.Places.{spelled_some}
use Rattle.dsd_journal.proofs.journal.Journal.write_staged.Goals as goal

pub write_batch-requires-clause-some : goal.write_batch-requires-clause-some
write_batch-requires-clause-some g c =
    let some = subst (λ (v : View). 0 < length v.staged) (sym c.self.view_is) c.requires.some in
    omega (arith, spelled_some c.self.inside.staged.items some, ap length c.self.invariant.staged.batch)

pub returns-clause-told : goal.returns-clause-told
returns-clause-told g c = λ tells.
    let is = c.self.invariant.staged in
    let before = c.args.self.now in
    flushes before.header before.entries before.staged c.gate.result c.self.inside.batch.items c.write_batch.result (g.T.Station.told c.args.station.now) (g.T.Station.told c.write_batch.new.station) (c.requires.rests tells)
    (c.gate.ensures.value ∙ ap (λ (v : View). gate_place v.entries) c.self.view_is)
    (is.batch ∙ ap (λ (v : View). spelled v.staged) c.self.view_is)
    c.requires.some
    (subst (λ (v : View). EachFits v.staged) c.self.view_is is.each)
    (subst (λ (v : View). gate_place (v.entries ++ v.staged) < JOURNAL_BYTES) c.self.view_is is.below)
    (c.write_batch.ensures.told tells)
