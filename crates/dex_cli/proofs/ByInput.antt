-- An end that runs by an input, and a station that was not used.
use Rattle.std.proofs.Common.{◌≡◌, ◌⊎◌, inl, inr, ℕ, ◌≤◌, List, [], length, Result, Ok, Err, IfOk, refl, sym, append-nil}
use Rattle.dsd_values.specs.Answers.{UnlessMemory}
use Rattle.dsd_values.specs.declared.role.Role.{Role}
use Rattle.dsd_station.specs.Told.{Told}
use Rattle.dsd_record.specs.Choices.{Chooser}
use Rattle.dsd_record.specs.declared.draft_fault.DraftFault.{DraftFault}
use Rattle.dsd_record.specs.declared.draft_fault.DraftFault.TheVariants as faults
use Rattle.dsd_record.specs.declared.draft_fault.DraftReason.{DraftReason}
use Rattle.dex_cli.specs.Ends.{Ends, HasRun, IsIdle, SaysChoices, SaysNoChoices}
use Rattle.dex_cli.specs.Formatting.{Served}
use Rattle.dex_cli.specs.Verdicts.{HasServed, IsInput, Read, RunsBy, ServesEnd, ServesInput}
use Rattle.dex_cli.specs.declared.end_words.EndNames.{EndNames}
use Rattle.dex_cli.specs.declared.job.TheConstants.{INPUT_BYTES}
use Rattle.dex_cli.specs.declared.refusal.Reason.TheVariants as reasons
use Rattle.dex_cli.specs.declared.verdict.Verdict.{Verdict}
use Rattle.dex_cli.specs.declared.verdict.Verdict.TheVariants as verdicts

-- a station that was not used
pub still_idle : (names : EndNames) (a : Told) → IsIdle names a a
still_idle names a = record {
  alone = record {
    silent = record { heard = refl; gone = refl; plan = refl; goes = record { more = []; calls = sym (append-nil a.calls) } };
    passive = record { more = []; calls = sym (append-nil a.calls); each = tt };
    journal = refl;
    stops = record { during = []; past = sym (append-nil a.past); each = tt; now = λ image out left. inl left };
  };
  attached = inr (record { journal_name = refl; port_name = refl });
}

-- the choices were read, and the end ran by them
module _ (role : Role) (names : EndNames) (input : List ℕ) (short : length input ≤ INPUT_BYTES) (chooser : Chooser) (says : SaysChoices role input chooser) where
  pub serves_so : {E : Type 0} (tells : Type 0) (served : Served) (result : Result Verdict E) → IfOk result (Ends tells role chooser names served) → IfOk result (ServesInput tells role names input served)
  serves_so tells served (Ok verdict) ends = inr (record { short = short; chooser = chooser; says = says; ends = ends })
  serves_so tells served (Err fault) ends = tt

  pub runs_so : (a b : Told) → IsIdle names a b ⊎ HasRun role chooser names a b → IsIdle names a b ⊎ RunsBy role names input a b
  runs_so a b (inl idle) = inl idle
  runs_so a b (inr run) = inr (record { short = short; chooser = chooser; says = says; run = run })

-- what was read tells that they are refused
pub says_none : {X : Type 0} (wanted : Result X DraftFault) (place : ℕ) (reason : DraftReason) → UnlessMemory faults.Memory (Err (faults.Refused place reason)) wanted → wanted ≡ Err (faults.Refused place reason)
says_none wanted place reason (inl wrong) = (let never : ⊥ = cc in absurd never)
says_none wanted place reason (inr is) = sym is

pub refused_as : (verdict : Verdict) (place place' : ℕ) (reason reason' : DraftReason) → verdict ≡ verdicts.Refused (record { place = place; reason = reasons.Draft reason }) → place ≡ place' → reason ≡ reason'
    → verdict ≡ verdicts.Refused (record { place = place'; reason = reasons.Draft reason' })
refused_as verdict place place' reason reason' is p r = rw (← p, ← r) is

-- they are refused
pub refused_so : (tells : Type 0) (role : Role) (names : EndNames) (input : List ℕ) (served : Served) (verdict : Verdict) (place : ℕ) (reason : DraftReason) → length input ≤ INPUT_BYTES
    → verdict ≡ verdicts.Refused (record { place = place; reason = reasons.Draft reason }) → SaysNoChoices role input place reason → served.after ≡ served.before → ServesInput tells role names input served verdict
refused_so tells role names input served verdict place reason short is none unused = inl (record {
  refusal = record { place = place; reason = reasons.Draft reason };
  verdict_is = is;
  refused = inr (short, (reason, refl, none));
  unused = unused;
})

-- the input is that of the source
pub input_serves : {E : Type 0} (tells : Type 0) (role : Role) (names : EndNames) (read : Read) (served : Served) (input : List ℕ) (result : Result Verdict E) → IsInput read.left read.after input
    → IfOk result (ServesInput tells role names input served) → IfOk result (ServesEnd tells role names read served)
input_serves tells role names read served input (Ok verdict) is serves = inr (input, is, serves)
input_serves tells role names read served input (Err fault) is serves = tt

pub input_runs : (role : Role) (names : EndNames) (read : Read) (input : List ℕ) (a b : Told) → IsInput read.left read.after input → IsIdle names a b ⊎ RunsBy role names input a b
    → IsIdle names a b ⊎ HasServed role names read a b
input_runs role names read input a b is (inl idle) = inl idle
input_runs role names read input a b is (inr run) = inr (input, is, run)
