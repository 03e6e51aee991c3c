-- A check whose input comes in pieces.
use Rattle.std.proofs.Common.{◌≡◌, ◌⊎◌, inl, inr, ℕ, ◌+◌, ◌<◌, ◌≤◌, List, length, Option, Result, Ok, Err, IfOk, refl, arith}
use Rattle.dsd_station.specs.Pieces.{HasGiven}
use Rattle.dex_cli.specs.Verdicts.{Checks, IsChecked, IsUnread, Read}
use Rattle.dex_cli.specs.declared.job.TheConstants.{INPUT_BYTES}
use Rattle.dex_cli.specs.declared.refusal.Reason.TheVariants as reasons
use Rattle.transaction_set.specs.declared.set_fault.SetReason.TheVariants as set_reasons
use Rattle.dex_cli.specs.declared.words.CheckKind.{CheckKind}
use Rattle.dex_cli.specs.declared.words.CheckKind.TheVariants as checks
use Rattle.dex_cli.specs.declared.verdict.Verdict.{Verdict}
use Rattle.dex_cli.specs.declared.verdict.Verdict.TheVariants as verdicts

-- the input is what the source gave
pub checked_so : {E : Type 0} (kind : CheckKind) (read : Read) (input : List ℕ) (result : Result Verdict E) → HasGiven (INPUT_BYTES + 1) read.left read.after input
    → IfOk result (Checks kind input) → IfOk result (λ verdict. IsUnread read verdict ⊎ IsChecked kind read verdict)
checked_so kind read input (Ok verdict) given checks = inr (record { input = input; read_is = record { taken = given.taken; few = given.few; whole = λ short. given.whole (omega (arith, short)) }; checks = checks })
checked_so kind read input (Err fault) given checks = tt

-- it is too long for any check
pub too_long : (kind : CheckKind) (input : List ℕ) → INPUT_BYTES < length input → Checks kind input (verdicts.Refused (record { place = INPUT_BYTES; reason = reasons.Set set_reasons.Limit }))
too_long checks.Set input long = inl (record { long = long; place_is = refl; reason_is = refl })
too_long checks.Text input long = record { long = long; place_is = refl; reason_is = refl }
too_long checks.Line input long = record { long = long; place_is = refl; reason_is = refl }
