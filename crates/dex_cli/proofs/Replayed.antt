-- A script that is read, or refused, and what comes of it.
use Rattle.std.proofs.Common.{◌≡◌, inr, ℕ, ◌≤◌, List, length, Result, Ok, Err, IfOk, refl, sym, subst}
use Rattle.dsd_record.specs.declared.draft_fault.DraftFault.TheVariants as faults
use Rattle.dsd_record.specs.declared.draft_fault.DraftReason.{DraftReason}
use Rattle.cable_world.specs.Reading.{script_of}
use Rattle.cable_world.specs.ScriptTexts.{Says}
use Rattle.cable_world.specs.declared.script.Script.{Script}
use Rattle.cable_world.specs.declared.world_report.WorldReport.{WorldReport}
use Rattle.dex_cli.specs.Replaying.{IsReplayed, Worlds}
use Rattle.dex_cli.specs.Verdicts.{IsInput, Read, Replays, ReplaysInput}
use Rattle.dex_cli.specs.declared.job.TheConstants.{INPUT_BYTES}
use Rattle.dex_cli.specs.declared.refusal.Reason.TheVariants as reasons
use Rattle.dex_cli.specs.declared.verdict.Verdict.{Verdict}
use Rattle.dex_cli.specs.declared.verdict.Verdict.TheVariants as verdicts

-- the input is that of the source
pub input_replays : {E : Type 0} (read : Read) (worlds : Worlds) (input : List ℕ) (result : Result Verdict E) → IsInput read.left read.after input
    → IfOk result (ReplaysInput input worlds) → IfOk result (Replays read worlds)
input_replays read worlds input (Ok verdict) is replays = inr (input, is, replays)
input_replays read worlds input (Err fault) is replays = tt

-- it says a script, which was played
pub replays_so : (input : List ℕ) (worlds : Worlds) (script : Script) (report : WorldReport) → length input ≤ INPUT_BYTES → Says script input → IsReplayed script worlds report
    → ReplaysInput input worlds (verdicts.Replayed report)
replays_so input worlds script report short says played = (short, (script, says, played))

-- it says none
pub no_script : (input : List ℕ) (worlds : Worlds) (verdict : Verdict) (place : ℕ) (reason : DraftReason) → length input ≤ INPUT_BYTES
    → verdict ≡ verdicts.Refused (record { place = place; reason = reasons.Draft reason }) → script_of input ≡ Err (faults.Refused place reason) → worlds.after ≡ worlds.before
    → ReplaysInput input worlds verdict
no_script input worlds verdict place reason short is none kept =
    subst (λ (v : Verdict). ReplaysInput input worlds v) (sym is) (inr (short, (reason, refl, none)), kept)
