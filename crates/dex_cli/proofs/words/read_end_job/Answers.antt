use Rattle.std.proofs.Common.{◌≡◌, map, string_bytes, refl}
use Rattle.dex_cli.specs.declared.fault.WordsFault.TheVariants.{Refused}
use Rattle.dex_cli.proofs.Three.{no_end}
use Rattle.dex_cli.proofs.words.read_end_job.Goals as goal

pub returns-in-Err-clause-refused : goal.returns-in-Err-clause-refused
returns-in-Err-clause-refused c = λ refused.
    let clauses = rw c.in-Err-Refused.field-0-is at c.in-Err-Refused.ensures in
    let same : c.in-Err.fault ≡ Refused = cc in
    no_end (map string_bytes c.args.words.now) (clauses.refused refl) (c.in-Err.ensures.refused (rw same))
