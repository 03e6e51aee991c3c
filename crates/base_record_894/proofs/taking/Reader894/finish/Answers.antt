use Rattle.std.proofs.Common.{refl, ◌∙◌}
use Rattle.transaction_set.proofs.Reading.{same_err}
use Rattle.base_record_894.proofs.OneRecord.{found_as, only_err, same_read}
use Rattle.base_record_894.proofs.taking.Reader894.finish.Goals as goal

pub returns-in_err-parts-clause-only : goal.returns-in_err-parts-clause-only
returns-in_err-parts-clause-only c = λ text taken base seal is. only_err text _ _ base seal _ _ (same_err _ _ c.from_residual.ensures) (c.in_err-parts.ensures.exact text taken) is

pub returns-clause-found : goal.returns-clause-found
returns-clause-found c = λ text taken.
    let right = c.in_ok-parts.ensures.exact text taken in
    found_as text _ _ _ c.seal_up.ensures.base c.seal_up.ensures.seal right.0 right.1

pub returns-clause-only : goal.returns-clause-only
returns-clause-only c = λ text taken base seal is.
    let same = same_read text _ base seal is (c.in_ok-parts.ensures.exact text taken).1 in
    (refl, (c.seal_up.ensures.base ∙ same.base, c.seal_up.ensures.seal ∙ same.seal))

pub returns-clause-exact : goal.returns-clause-exact
returns-clause-exact c = λ text taken. ((c.in_ok-parts.ensures.exact text taken).0, tt)
