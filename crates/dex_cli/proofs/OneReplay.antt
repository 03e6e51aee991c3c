-- A script, and the world that is left of it, leave one status.
use Rattle.std.proofs.Common.{◌≡◌, ◌⊎◌, inl, inr, ℕ, ◌<◌, ◌≤◌, Bool, List, length, Result, Ok, Err, Some, refl, sym, ap, ◌∙◌, subst, arith}
use Rattle.base_record_894.specs.BaseRecord.{BaseRecord}
use Rattle.dsd_values.specs.declared.role.Role.{Role}
use Rattle.dsd_values.specs.declared.role.Role.TheVariants.{Supplier, Receiver}
use Rattle.dsd_record.specs.declared.draft_fault.DraftFault.{DraftFault}
use Rattle.dsd_record.specs.declared.draft_fault.DraftFault.TheVariants as faults
use Rattle.dsd_station.specs.Logged.{image_by}
use Rattle.dsd_journal.specs.declared.entry.Entry.{Entry}
use Rattle.dsd_journal.proofs.Apart.{one_list}
use Rattle.end_report.specs.Reports.{are_final_at_both}
use Rattle.cable_world.specs.Reading.{script_of}
use Rattle.cable_world.specs.Scenes.{side}
use Rattle.cable_world.specs.ScriptTexts.{Says}
use Rattle.cable_world.specs.WorldReports.{IsLeftWith, IsReportOf}
use Rattle.cable_world.specs.Worlds.{WorldView, chooser_of}
use Rattle.cable_world.specs.declared.script.Script.{Script}
use Rattle.cable_world.specs.declared.world_report.WorldReport.{WorldReport}
use Rattle.cable_world.proofs.ScriptAgain.{again}
use Rattle.load_route.specs.Route.{route}
use Rattle.dex_cli.specs.Replaying.{IsReplayed, Worlds}
use Rattle.dex_cli.specs.Verdicts.{IsNoScript, IsTooLong, Loads, ReplaysInput, status_of, status_of_world}
use Rattle.dex_cli.specs.declared.job.TheConstants.{INPUT_BYTES}
use Rattle.dex_cli.specs.declared.refusal.Refusal.{Refusal}
use Rattle.dex_cli.specs.declared.status.TheConstants.{INPUT_REFUSED}
use Rattle.dex_cli.specs.declared.verdict.Verdict.{Verdict}
use Rattle.dex_cli.specs.declared.verdict.Verdict.TheVariants as verdicts

-- the image of an end's station holds one list
one_left : (world : WorldView) (role : Role) (entries others : List Entry) → IsLeftWith world role entries → IsLeftWith world role others → entries ≡ others
one_left world role entries others left left' =
    (one_list (image_by (side world.scene role).log) left.header left'.header entries others left.holds left'.holds).1

same_final : (drafts : List BaseRecord) (one one' other other' : List Entry) (a b : Bool) → one ≡ one' → other ≡ other' → a ≡ are_final_at_both one other drafts → b ≡ are_final_at_both one' other' drafts → a ≡ b
same_final drafts one one' other other' a b p q is is' = is ∙ (rw (p, q) refl) ∙ sym is'

one_report : (world : WorldView) (report report' : WorldReport) → IsReportOf world report → IsReportOf world report' → report.all_final ≡ report'.all_final
one_report world report report' is is' =
    same_final (chooser_of world.script Supplier).drafts is.handheld is'.handheld is.receiver is'.receiver report.all_final report'.all_final
    (one_left world Supplier is.handheld is'.handheld is.handheld_left is'.handheld_left) (one_left world Receiver is.receiver is'.receiver is.receiver_left is'.receiver_left)
    is.all_final is'.all_final

the_same : (w w' : WorldView) → (let some = Some w in some) ≡ Some w' → w ≡ w'
the_same w w' e = cc

one_world : (script script' : Script) (here there : Worlds) (report report' : WorldReport) → here.after ≡ there.after → IsReplayed script here report → IsReplayed script' there report' → report.all_final ≡ report'.all_final
one_world script script' here there report report' same played played' =
    let is : played.0 ≡ played'.0 = the_same played.0 played'.0 (sym played.1 ∙ same ∙ played'.1) in
    one_report played'.0 report report' (subst (λ (w : WorldView). IsReportOf w report) is played.2.reported) played'.2.reported

-- what a text says is not refused
said_not_refused : (input : List ℕ) (script : Script) (refusal : Refusal) → length input ≤ INPUT_BYTES → Says script input → IsTooLong input refusal ⊎ IsNoScript input refusal → ⊥
said_not_refused input script refusal short says (inl long) = absurd (omega (arith, long.long, short))
said_not_refused input script refusal short says (inr none) = apart (script_of input) (again input script says) none.1.2
  where
    apart : (r : Result Script DraftFault) → r ≡ Ok script → r ≡ Err (faults.Refused refusal.place none.1.0) → ⊥
    apart r p q = (let never : ⊥ = cc in never)

pub input_one : (input : List ℕ) (here there : Worlds) (a b : Verdict) → here.after ≡ there.after → ReplaysInput input here a → ReplaysInput input there b → status_of a ≡ status_of b
input_one input here there (verdicts.Refused refusal) (verdicts.Refused refusal') same p q = refl
input_one input here there (verdicts.Refused refusal) (verdicts.Replayed report) same p q = absurd (said_not_refused input q.1.0 refusal q.0 q.1.1 p.0)
input_one input here there (verdicts.Replayed report) (verdicts.Refused refusal) same p q = absurd (said_not_refused input p.1.0 refusal p.0 p.1.1 q.0)
input_one input here there (verdicts.Replayed report) (verdicts.Replayed report') same p q = ap status_of_world (one_world p.1.0 q.1.0 here there report report' same p.1.2 q.1.2)
input_one input here there (verdicts.Refused refusal) _ same p q = absurd q
input_one input here there (verdicts.Replayed report) _ same p q = absurd q
input_one input here there _ b same p q = absurd p

pub input_long : (input : List ℕ) (worlds : Worlds) (a : Verdict) → INPUT_BYTES < length input → ReplaysInput input worlds a → status_of a ≡ INPUT_REFUSED
input_long input worlds (verdicts.Refused refusal) long p = refl
input_long input worlds (verdicts.Replayed report) long p = absurd (omega (arith, long, p.0))
input_long input worlds _ long p = absurd p

pub load_one : (count count' : ℕ) (here there : Worlds) (a b : Verdict) → here.after ≡ there.after → Loads count here a → Loads count' there b → status_of a ≡ status_of b
load_one count count' here there (verdicts.Loaded asked report) (verdicts.Loaded asked' report') same p q = ap status_of_world (one_world (route count) (route count') here there report report' same p.1 q.1)
load_one count count' here there (verdicts.Loaded asked report) _ same p q = absurd q
load_one count count' here there _ b same p q = absurd p
