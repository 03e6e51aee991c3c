use Rattle.std.specs.Prelude.{◌≡◌, IsTrue}
use Rattle.bench_journal.proofs.stage.Given as goal

abbrev pub invariant-loop : goal.invariant-loop
invariant-loop l = record {
  works : IsTrue l.journal.works;
  header : l.journal.header ≡ l.fn.journal.header;
  entries : l.journal.entries ≡ l.fn.journal.entries;
}
