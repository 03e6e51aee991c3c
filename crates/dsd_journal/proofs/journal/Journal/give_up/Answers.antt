use Rattle.std.proofs.Common.{◌<◌, ◌++◌, [], ap, subst, sym, ◌∙◌, arith, List}
use Rattle.dsd_journal.specs.declared.entry.Entry.{Entry}
use Rattle.dsd_journal.specs.declared.limits.TheConstants.{JOURNAL_BYTES}
use Rattle.dsd_journal.specs.JournalImage.{gate_place, spelled, EachFits}
use Rattle.dsd_journal.proofs.Places.{gate_append}
use Rattle.dsd_journal.proofs.journal.Journal.give_up.Goals as goal

pub invariant_of-self : goal.invariant_of-self
invariant_of-self c =
    let is = c.self.invariant in
    let list = c.self.inside.entries.list in
    let none = c.clear.ensures.items in
    record {
      staged = record {
        batch = c.clear-2.ensures.items ∙ ap spelled (sym none);
        each = subst EachFits (sym none) tt;
        below = subst (λ (l : List Entry). gate_place (list ++ l) < JOURNAL_BYTES) (sym none) (omega (arith, gate_append list [], gate_append list c.self.inside.staged.items, is.staged.below));
        entries = omega (arith, c.clear.ensures.len);
        gate = λ some. absurd (omega (arith, some, c.clear.ensures.len));
      };
      entry = λ some. omega (arith, is.entry some, c.clear.ensures.len);
      place = λ some. omega (arith, is.place some, c.clear.ensures.len, c.clear.ensures.capacity);
      payload = is.payload;
      empty = is.empty;
      batch = λ some. omega (arith, is.batch some, c.clear-2.ensures.len, c.clear-2.ensures.capacity);
    }
