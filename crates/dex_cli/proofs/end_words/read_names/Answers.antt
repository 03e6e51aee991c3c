use Rattle.std.proofs.Common.{◌≡◌, refl, rules}
use Rattle.dex_cli.specs.declared.fault.WordsFault.TheVariants.{Memory}
use Rattle.dex_cli.proofs.end_words.read_names.Goals as goal

pub returns-in-Err-read_name-clause-memory : goal.returns-in-Err-read_name-clause-memory
returns-in-Err-read_name-clause-memory c = λ is_memory.
    let same : c.in-Err-read_name.fault ≡ Memory = cc in (
      record { journal = c.args.journal.now; port = c.args.port.now },
      record { journal_is = refl; port_is = refl; journal_name = search rules; port_name = c.in-Err-read_name.ensures.memory (rw same) },
    )

pub returns-in-Err-clause-memory : goal.returns-in-Err-clause-memory
returns-in-Err-clause-memory c = λ is_memory.
    let same : c.in-Err.fault ≡ Memory = cc in (
      record { journal = c.args.journal.now; port = c.args.port.now },
      record { journal_is = refl; port_is = refl; journal_name = c.in-Err.ensures.memory (rw same); port_name = search rules },
    )
