-- An end that was attached and opened, and what its polls came to.
use Rattle.std.proofs.Common.{◌≡◌, inl, inr, ℕ, List, true, false, Result, Ok, Err, IfOk, is_err, refl, sym, ◌∙◌, ap, subst}
use Rattle.dsd_values.specs.declared.role.Role.{Role}
use Rattle.dsd_station.specs.Causes.{HasCause, Rose}
use Rattle.dsd_station.specs.Effects.{Attaches}
use Rattle.dsd_station.specs.Told.{Told}
use Rattle.dsd_station.specs.declared.failed.Failed.{Failed}
use Rattle.dsd_record.specs.Choices.{Chooser}
use Rattle.dsd_journal.specs.Devices.{KeepsTalk, Opens, since}
use Rattle.dsd_journal.specs.JournalImage.{Holds}
use Rattle.dsd_journal.specs.Journals.{Rests}
use Rattle.delivery_book.specs.Signing.{Legal}
use Rattle.dsd_journal.specs.declared.entry.Entry.{Entry}
use Rattle.dsd_journal.specs.declared.header.Header.{Header}
use Rattle.dsd_end.specs.FullTurns.{RunFull}
use Rattle.dsd_end.specs.Polls.{HearsMore}
use Rattle.dsd_end.specs.RunSoFar.{Runs}
use Rattle.dsd_end.specs.Standings.{Standing, first_standing}
use Rattle.end_report.specs.Reports.{are_final, report_text}
use Rattle.end_report.specs.declared.ending.Ending.{Ending}
use Rattle.end_report.specs.declared.ending.LastRun.TheVariants as runs
use Rattle.dex_cli.specs.Ends.{Ends, EndsSo, IsIdle, IsReported, IsRunning, IsToldOfEnd, Opening, Polls}
use Rattle.dex_cli.specs.Formatting.{Served}
use Rattle.dex_cli.specs.Showing.{LeavesAlone}
use Rattle.dex_cli.specs.declared.end_words.EndNames.{EndNames}
use Rattle.dex_cli.specs.declared.verdict.Verdict.{Verdict}
use Rattle.dex_cli.specs.declared.verdict.Verdict.TheVariants as verdicts
use Rattle.dex_cli.proofs.Attaching.{went_well}
use Rattle.dex_cli.proofs.Rereading.{alone_by, alone_then, opening_alone}

-- what is told of an end is what its polls came to
pub told_so : {E : Type 0} (tells : Type 0) (chooser other : Chooser) (first last : Standing) (served : Served) (ending : Ending) (header : Header) (entries : List Entry) (result : Result Verdict E)
    → other ≡ chooser → EndsSo ending tells chooser first last served.before served.after → entries ≡ last.desk.entries → (tells → Rests header entries served.after)
    → IfOk result (IsToldOfEnd entries other.drafts last.desk.refused ending) → IfOk result (Polls tells chooser first last served)
told_so tells chooser other first last served ending header entries (Err fault) same ends own rests told = tt
told_so tells chooser other first last served ending header entries (Ok (verdicts.Ran report)) same ends own rests told = record {
  ends = subst (λ (e : Ending). EndsSo e tells chooser first last served.before served.after) (sym told.ending_is) ends;
  header = header;
  entries = entries;
  own = own;
  rests = rests;
  report_is = record {
    text = told.text ∙ ap (λ (c : Chooser). report_text entries c.drafts last.desk.refused (runs.Ended ending)) same ∙ ap (λ (e : Ending). report_text entries chooser.drafts last.desk.refused (runs.Ended e)) (sym told.ending_is);
    ending_is = refl;
    settled = told.settled ∙ ap (λ (c : Chooser). are_final entries c.drafts) same;
  };
}
told_so tells chooser other first last served ending header entries (Ok _) same ends own rests told = absurd told

-- ---- an attachment

pub unplugged : (names : EndNames) (journal port : List ℕ) (r : Result (Unit {0}) Failed) (a b : Told) → journal ≡ names.journal → port ≡ names.port → is_err r ≡ true → Attaches journal port r a b → IsIdle names a b
unplugged names journal port (Ok done) a b p q failed attached = (let never : ⊥ = cc in absurd never)
unplugged names journal port (Err fault) a b p q failed attached = record {
  alone = alone_by journal port (Err fault) a b attached attached.err.journal attached.err.heard attached.err.plan;
  attached = inr (record { journal_name = attached.err.journal_name; port_name = attached.err.port_name });
}

-- one that went well is of the names of the words
pub plugs : (names : EndNames) (journal port : List ℕ) (r : Result (Unit {0}) Failed) (a b : Told) → journal ≡ names.journal → port ≡ names.port → is_err r ≡ false → Attaches journal port r a b
    → Attaches names.journal names.port (Ok tt) a b
plugs names journal port r a b p q well attached =
    subst (λ (n : List ℕ). Attaches n names.port (Ok tt) a b) p (subst (λ (n : List ℕ). Attaches journal n (Ok tt) a b) q
    (subst (λ (r : Result (Unit {0}) Failed). Attaches journal port r a b) (went_well r well) attached))

pub none_rose : (r : Result (Unit {0}) Failed) (before now : ℕ) → is_err r ≡ false → HasCause before now r → now ≡ before
none_rose (Ok done) before now well cause = cause.kept
none_rose (Err fault) before now well cause = (let never : ⊥ = cc in absurd never)

module _ (names : EndNames) (a b : Told) (attached : Attaches names.journal names.port (Ok tt) a b) where
  idle_behind : (c : Told) → LeavesAlone b c → KeepsTalk b c → IsIdle names a c
  idle_behind c alone keeps = record {
    alone = alone_then a b c (alone_by names.journal names.port (Ok tt) a b attached attached.ok.journal attached.ok.heard attached.ok.plan) alone;
    attached = inl (record { journal_name = keeps.journal_name ∙ attached.ok.journal_name; port_name = keeps.port_name ∙ attached.ok.port_name });
  }

  -- an opening behind it, whatever it answers
  pub idle_opened : (F : Type 0) (c : Told) → Opens F b c → IsIdle names a c
  idle_opened F c opens = idle_behind c (opening_alone F b c opens) opens.keeps

  -- and polls behind that
  pub running : (role : Role) (chooser : Chooser) (header : Header) (first : List Entry) (last : Standing) (c d : Told) → header.role ≡ role → Legal role first → Opens ⊥ b c → Holds header first c.journal
      → HearsMore c d → Runs chooser first (since b) last d → IsRunning role chooser names (record { header = header; first = first; attached = b; opened = c }) last a d
  running role chooser header first last c d own legal opens holds hears runs = record {
    opening_is = record { attaches = attached; opens = opens; own = own; legal = legal; holds = subst (λ (image : List ℕ). Holds header first image) (opens.journal ∙ attached.ok.journal) holds };
    plugged = record {
      journal_name = hears.keeps.journal_name ∙ opens.keeps.journal_name ∙ attached.ok.journal_name;
      port_name = hears.keeps.port_name ∙ opens.keeps.port_name ∙ attached.ok.port_name;
    };
    hears = hears;
    runs = runs;
  }

-- ---- the job

pub ends_so : {E : Type 0} (tells : Type 0) (role : Role) (chooser : Chooser) (names : EndNames) (served : Served) (opening : Opening) (first last : Standing) (faults : ℕ) (result : Result Verdict E)
    → faults ≡ served.faults → first ≡ first_standing opening.header opening.first → (tells → IsRunning role chooser names opening last served.before served.after)
    → IfOk result (Polls tells chooser first last (record { before = opening.opened; after = served.after; faults = faults; faults_after = served.faults_after }))
    → IfOk result (Ends tells role chooser names served)
ends_so tells role chooser names served opening first last faults (Err fault) same is running polls = tt
ends_so tells role chooser names served opening first last faults (Ok verdicts.StationFault) same is running polls =
    (subst (λ (n : ℕ). Rose n served.faults_after) same polls, λ t. inr (record { opening = opening; standing = last; running = running t }))
ends_so tells role chooser names served opening first last faults (Ok (verdicts.Ran report)) same is running polls = record {
  opening = opening;
  last = last;
  running = running;
  reported = subst (λ (s : Standing). IsReported tells chooser s last opening.opened served.after report) is polls;
}
ends_so tells role chooser names served opening first last faults (Ok (verdicts.Full length)) same is running polls = record {
  opening = opening;
  last = last;
  running = running;
  full = subst (λ (s : Standing). RunFull chooser s length) is polls;
}
ends_so tells role chooser names served opening first last faults (Ok _) same is running polls = absurd polls
