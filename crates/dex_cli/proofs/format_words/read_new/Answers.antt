use Rattle.std.proofs.Common.{◌≡◌, refl}
use Rattle.dex_cli.specs.declared.fault.WordsFault.TheVariants.{Memory}
use Rattle.dex_cli.proofs.format_words.read_new.Goals as goal

pub returns-in-Err-clause-memory : goal.returns-in-Err-clause-memory
returns-in-Err-clause-memory c = λ is_memory.
    let same : c.in-Err.fault ≡ Memory = cc in (
      record { header = c.in-Some.header; journal = c.args.journal.now },
      record { header = c.in-Some.ensures.found; journal_is = refl; name = c.in-Err.ensures.memory (rw same) },
    )
