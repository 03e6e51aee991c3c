-- Choices, a journal and what was heard leave one status of the job of an end.
use Rattle.std.proofs.Common.{◌≡◌, ◌≢◌, ◌⊎◌, inl, inr, ℕ, ◌<◌, ◌≤◌, Bool, true, false, List, ◌++◌, length, Result, Ok, Err, refl, sym, ap, ◌∙◌, subst, arith}
use Rattle.std.proofs.lemmas.List.{append_cancel_left}
use Rattle.dsd_values.specs.declared.role.Role.{Role}
use Rattle.dsd_values.specs.declared.role.Role.TheVariants.{Receiver, Supplier}
use Rattle.dsd_station.specs.Told.{Told}
use Rattle.dsd_station.specs.declared.call.Reception.{Reception}
use Rattle.dsd_record.specs.Choices.{Chooser}
use Rattle.dsd_record.specs.declared.draft_fault.DraftFault.{DraftFault}
use Rattle.dsd_record.specs.declared.draft_fault.DraftFault.TheVariants as faults
use Rattle.dsd_record.specs.declared.draft_fault.DraftReason.{DraftReason}
use Rattle.dsd_journal.specs.declared.entry.Entry.{Entry}
use Rattle.dsd_journal.specs.declared.header.Header.{Header}
use Rattle.dsd_journal.specs.JournalImage.{Holds}
use Rattle.dsd_journal.proofs.Apart.{one_list}
use Rattle.delivery_book.specs.BookImages.{IsBookRefused, NoJournal, NotLegal, OtherRole}
use Rattle.delivery_book.specs.Signing.{Legal}
use Rattle.dex_handshake.specs.LineTable.{Ended, Line}
use Rattle.dex_handshake.specs.declared.session_end.SessionEnd.{SessionEnd}
use Rattle.handheld_core.specs.Choosing.{supplier}
use Rattle.handheld_core.specs.Reading.{drafts_of}
use Rattle.handheld_core.proofs.Again as drafts
use Rattle.receiver_core.specs.Choosing.{receiver}
use Rattle.receiver_core.specs.Reading.{counts_of}
use Rattle.receiver_core.proofs.Again as counts
use Rattle.dsd_end.specs.Polls.{PolledAlong, with_flags}
use Rattle.dsd_end.specs.PollStep.{Along, Done}
use Rattle.dsd_end.specs.PollsHeard.{receptions_of}
use Rattle.dsd_end.specs.Standings.{Standing, first_standing, has_ended}
use Rattle.end_report.specs.Reports.{are_final}
use Rattle.end_report.specs.declared.ending.Ending.{Ending}
use Rattle.end_report.specs.declared.ending.Ending.TheVariants as endings
use Rattle.dex_cli.specs.Ends.{Ends, EndsSo, IsRan, SaysChoices, SaysNoChoices}
use Rattle.dex_cli.specs.Formatting.{Served}
use Rattle.dex_cli.specs.Verdicts.{IsRefusedInput, IsTooLong, IsNoChoice, ServesInput, status_of, status_of_end}
use Rattle.dex_cli.specs.declared.end_job.EndReport.{EndReport}
use Rattle.dex_cli.specs.declared.end_words.EndNames.{EndNames}
use Rattle.dex_cli.specs.declared.job.TheConstants.{INPUT_BYTES}
use Rattle.dex_cli.specs.declared.refusal.Refusal.{Refusal}
use Rattle.dex_cli.specs.declared.status.TheConstants.{INPUT_REFUSED}
use Rattle.dex_cli.specs.declared.verdict.Verdict.{Verdict}
use Rattle.dex_cli.specs.declared.verdict.Verdict.TheVariants as verdicts
use Rattle.dex_cli.proofs.LegalSets.{shown_is_none}
use Rattle.dex_cli.proofs.OnePolls.{first_done, one_outcome, started_goes}

-- ---- the choices

one_chooser : (role : Role) (input : List ℕ) (chooser other : Chooser) → SaysChoices role input chooser → SaysChoices role input other → chooser ≡ other
one_chooser Supplier input chooser other (a, says, is) (b, says', is') = is ∙ ap supplier (drafts.one input a b says says') ∙ sym is'
one_chooser Receiver input chooser other (a, says, is) (b, says', is') = is ∙ ap receiver (counts.one input a b says says') ∙ sym is'

never_err : {X : Type 0} (r : Result X DraftFault) (x : X) (fault : DraftFault) → r ≡ Ok x → r ≡ Err fault → ⊥
never_err r x fault p q = (let never : ⊥ = cc in never)

said_or_refused : (role : Role) (input : List ℕ) (chooser : Chooser) (place : ℕ) (reason : DraftReason) → SaysChoices role input chooser → SaysNoChoices role input place reason → ⊥
said_or_refused Supplier input chooser place reason (a, says, is) none = never_err (drafts_of input) a (faults.Refused place reason) (drafts.again input a says) none
said_or_refused Receiver input chooser place reason (a, says, is) none = never_err (counts_of input) a (faults.Refused place reason) (counts.again input a says) none

-- ---- two runs by the same choices, over the same journal, that heard the same

module _ (role : Role) (chooser : Chooser) (names names' : EndNames) (one other : Served) (same_journal : one.before.journal ≡ other.before.journal) (same_before : one.before.heard ≡ other.before.heard)
    (same_after : one.after.heard ≡ other.after.heard) where
  module _ (report report' : EndReport) (ran : IsRan (Unit {0}) role chooser names one.before one.after report) (ran' : IsRan (Unit {0}) role chooser names' other.before other.after report') where
    opens : (ran.opening.header ≡ ran'.opening.header) × (ran.opening.first ≡ ran'.opening.first)
    opens =
        one_list other.before.journal ran.opening.header ran'.opening.header ran.opening.first ran'.opening.first
        (subst (λ (image : List ℕ). Holds ran.opening.header ran.opening.first image) same_journal (ran.running tt).opening_is.holds) (ran'.running tt).opening_is.holds

    same_first : first_standing ran'.opening.header ran'.opening.first ≡ first_standing ran.opening.header ran.opening.first
    same_first = first_as ran.opening.header ran'.opening.header ran.opening.first ran'.opening.first opens.0 opens.1
      where
        first_as : (h h' : Header) (e e' : List Entry) → h ≡ h' → e ≡ e' → first_standing h' e' ≡ first_standing h e
        first_as h h' e e' p q = rw (p, q) refl

    abbrev begin : Standing
    begin = first_standing ran.opening.header ran.opening.first

    opened_heard : ran.opening.opened.heard ≡ one.before.heard
    opened_heard = (ran.running tt).opening_is.opens.keeps.heard ∙ (ran.running tt).opening_is.attaches.ok.heard

    opened_heard' : ran'.opening.opened.heard ≡ other.before.heard
    opened_heard' = (ran'.running tt).opening_is.opens.keeps.heard ∙ (ran'.running tt).opening_is.attaches.ok.heard

    module _ (to to' : Standing) (along : PolledAlong (Unit {0}) chooser begin to ran.opening.opened one.after)
        (along' : PolledAlong (Unit {0}) chooser (first_standing ran'.opening.header ran'.opening.first) to' ran'.opening.opened other.after) where
      same_heard : receptions_of along.polls ≡ receptions_of along'.polls
      same_heard =
          let here : one.after.heard ≡ one.before.heard ++ receptions_of along.polls = (along.told tt).listened ∙ ap (λ (l : List Reception). l ++ receptions_of along.polls) opened_heard in
          let there : other.after.heard ≡ other.before.heard ++ receptions_of along'.polls = (along'.told tt).listened ∙ ap (λ (l : List Reception). l ++ receptions_of along'.polls) opened_heard' in
          append_cancel_left one.before.heard (receptions_of along.polls) (receptions_of along'.polls)
          (sym here ∙ same_after ∙ there ∙ ap (λ (l : List Reception). l ++ receptions_of along'.polls) (sym same_before))

      same_standing : along.done.standing.first ≡ false → along'.done.standing.first ≡ false → to ≡ to'
      same_standing listened listened' =
          sym along.comes
          ∙ ap (λ (d : Done). d.standing)
          (one_outcome chooser begin along.polls along'.polls along.done along'.done same_heard along.along (subst (λ (s : Standing). Along chooser s along'.polls along'.done) same_first along'.along) listened listened')
          ∙ along'.comes

    -- where the session ended
    ended_first : (s to : Standing) (a b : Told) (end : SessionEnd) → has_ended s.line ≡ false → to.line ≡ Ended end → (along : PolledAlong (Unit {0}) chooser s to a b) → along.done.standing.first ≡ false
    ended_first s to a b end goes ended along =
        first_done chooser s along.polls along.done goes along.along (ap (λ (x : Standing). has_ended x.line) along.comes ∙ ap has_ended ended)

    goes : has_ended begin.line ≡ false
    goes = started_goes ran.opening.header.role ran.opening.header.own ran.opening.header.peer

    goes' : has_ended (first_standing ran'.opening.header ran'.opening.first).line ≡ false
    goes' = started_goes ran'.opening.header.role ran'.opening.header.own ran'.opening.header.peer

    same_settled : ran.last ≡ ran'.last → report.settled ≡ report'.settled
    same_settled is =
        let own : ran.reported.entries ≡ ran'.reported.entries = ran.reported.own ∙ ap (λ (s : Standing). s.desk.entries) is ∙ sym ran'.reported.own in
        ran.reported.report_is.settled ∙ ap (λ (l : List Entry). are_final l chooser.drafts) own ∙ sym ran'.reported.report_is.settled

    by_ending : (e e' : Ending) → EndsSo e (Unit {0}) chooser begin ran.last ran.opening.opened one.after
        → EndsSo e' (Unit {0}) chooser (first_standing ran'.opening.header ran'.opening.first) ran'.last ran'.opening.opened other.after
        → status_of_end e report.settled ≡ status_of_end e' report'.settled
    by_ending endings.Noise endings.Noise p q = refl
    by_ending (endings.Session end) (endings.Session end') (is, along) (is', along') =
        let same = same_standing ran.last ran'.last along along' (ended_first _ _ _ _ end goes is along) (ended_first _ _ _ _ end' goes' is' along') in
        let one_end : end ≡ end' = ended_as end end' (sym is ∙ ap (λ (s : Standing). s.line) same ∙ is') in
        ap (λ (e : SessionEnd). status_of_end (endings.Session e) report.settled) one_end ∙ ap (λ (b : Bool). status_of_end (endings.Session end') b) (same_settled same)
      where
        ended_as : (e e' : SessionEnd) → (let l : Line = Ended e in l) ≡ Ended e' → e ≡ e'
        ended_as e e' p = cc
    by_ending (endings.Session end) endings.Noise (is, along) ((count, noise), along') =
        let same = same_standing ran.last (with_flags ran'.last false false) along along' (ended_first _ _ _ _ end goes is along) (ap (λ (s : Standing). s.first) along'.comes) in
        absurd (apart ran.last ran'.last end is same noise.goes_on)
      where
        apart : (a b : Standing) (end : SessionEnd) → a.line ≡ Ended end → a ≡ with_flags b false false → has_ended b.line ≡ false → ⊥
        apart a b end p q r = (let never : true ≡ false = sym (ap has_ended p) ∙ ap (λ (s : Standing). has_ended s.line) q ∙ r in cc)
    by_ending endings.Noise (endings.Session end') ((count, noise), along) (is', along') =
        let same = same_standing (with_flags ran.last false false) ran'.last along along' (ap (λ (s : Standing). s.first) along.comes) (ended_first _ _ _ _ end' goes' is' along') in
        absurd (apart ran'.last ran.last end' is' (sym same) noise.goes_on)
      where
        apart : (a b : Standing) (end : SessionEnd) → a.line ≡ Ended end → a ≡ with_flags b false false → has_ended b.line ≡ false → ⊥
        apart a b end p q r = (let never : true ≡ false = sym (ap has_ended p) ∙ ap (λ (s : Standing). has_ended s.line) q ∙ r in cc)

    one_run : status_of_end report.ending report.settled ≡ status_of_end report'.ending report'.settled
    one_run = by_ending report.ending report'.ending ran.reported.ends ran'.reported.ends

-- ---- a journal with which the end ran is none that is refused

run_not_refused : (role : Role) (chooser : Chooser) (names : EndNames) (a b : Told) (report : EndReport) (place : ℕ) → IsRan (Unit {0}) role chooser names a b report → IsBookRefused role a.journal place → ⊥
run_not_refused role chooser names a b report place ran refused = by refused
  where
    legal : Legal ran.opening.header.role ran.opening.first
    legal = subst (λ (r : Role). Legal r ran.opening.first) (sym (ran.running tt).opening_is.own) (ran.running tt).opening_is.legal

    by : IsBookRefused role a.journal place → ⊥
    by (NoJournal none) = shown_is_none a.journal ran.opening.header ran.opening.first place legal (ran.running tt).opening_is.holds (inl none)
    by (NotLegal bad) = shown_is_none a.journal ran.opening.header ran.opening.first place legal (ran.running tt).opening_is.holds (inr (role, bad))
    by (OtherRole theirs) =
        theirs.other
        (ap (λ (h : Header). h.role) (one_list a.journal theirs.header ran.opening.header theirs.entries ran.opening.first theirs.holds (ran.running tt).opening_is.holds).0 ∙ (ran.running tt).opening_is.own)

-- ---- the job

module _ (role : Role) (names : EndNames) (one other : Served) (same_journal : one.before.journal ≡ other.before.journal) (same_before : one.before.heard ≡ other.before.heard)
    (same_after : one.after.heard ≡ other.after.heard) where
  ends_one : (chooser : Chooser) (a b : Verdict) → a ≢ verdicts.StationFault → b ≢ verdicts.StationFault → ((n : ℕ) → a ≢ verdicts.Full n) → ((n : ℕ) → b ≢ verdicts.Full n)
      → Ends (Unit {0}) role chooser names one a → Ends (Unit {0}) role chooser names other b → status_of a ≡ status_of b
  ends_one chooser (verdicts.Ran report) (verdicts.Ran report') f g m n p q = one_run role chooser names names one other same_journal same_before same_after report report' p q
  ends_one chooser (verdicts.Ran report) (verdicts.NotAJournal place) f g m n p q =
      absurd (run_not_refused role chooser names one.before one.after report place p (subst (λ (image : List ℕ). IsBookRefused role image place) (sym same_journal) (q tt).0))
  ends_one chooser (verdicts.NotAJournal place) (verdicts.Ran report) f g m n p q =
      absurd (run_not_refused role chooser names other.before other.after report place q (subst (λ (image : List ℕ). IsBookRefused role image place) same_journal (p tt).0))
  ends_one chooser (verdicts.NotAJournal place) (verdicts.NotAJournal place') f g m n p q = refl
  ends_one chooser verdicts.StationFault b f g m n p q = absurd (f refl)
  ends_one chooser (verdicts.Full size) b f g m n p q = absurd (m size refl)
  ends_one chooser (verdicts.Ran report) verdicts.StationFault f g m n p q = absurd (g refl)
  ends_one chooser (verdicts.NotAJournal place) verdicts.StationFault f g m n p q = absurd (g refl)
  ends_one chooser (verdicts.Ran report) (verdicts.Full size) f g m n p q = absurd (n size refl)
  ends_one chooser (verdicts.NotAJournal place) (verdicts.Full size) f g m n p q = absurd (n size refl)
  ends_one chooser (verdicts.Ran report) _ f g m n p q = absurd q
  ends_one chooser (verdicts.NotAJournal place) _ f g m n p q = absurd q
  ends_one chooser _ b f g m n p q = absurd p

  refused_or_served : (input : List ℕ) (refusal : Refusal) (chooser : Chooser) → length input ≤ INPUT_BYTES → SaysChoices role input chooser → IsTooLong input refusal ⊎ IsNoChoice role input refusal → ⊥
  refused_or_served input refusal chooser short says (inl long) = absurd (omega (arith, long.long, short))
  refused_or_served input refusal chooser short says (inr none) = said_or_refused role input chooser refusal.place none.1.0 says none.1.2

  refused_status : (input : List ℕ) (served : Served) (a : Verdict) → IsRefusedInput role input served a → status_of a ≡ INPUT_REFUSED
  refused_status input served a refused = ap status_of refused.verdict_is

  pub end_input_one : (input : List ℕ) (a b : Verdict) → a ≢ verdicts.StationFault → b ≢ verdicts.StationFault → ((n : ℕ) → a ≢ verdicts.Full n) → ((n : ℕ) → b ≢ verdicts.Full n)
      → ServesInput (Unit {0}) role names input one a → ServesInput (Unit {0}) role names input other b → status_of a ≡ status_of b
  end_input_one input a b f g m n (inl p) (inl q) = refused_status input one a p ∙ sym (refused_status input other b q)
  end_input_one input a b f g m n (inl p) (inr q) = absurd (refused_or_served input p.refusal q.chooser q.short q.says p.refused)
  end_input_one input a b f g m n (inr p) (inl q) = absurd (refused_or_served input q.refusal p.chooser p.short p.says q.refused)
  end_input_one input a b f g m n (inr p) (inr q) =
      ends_one q.chooser a b f g m n (subst (λ (c : Chooser). Ends (Unit {0}) role c names one a) (one_chooser role input p.chooser q.chooser p.says q.says) p.ends) q.ends

  pub end_input_long : (input : List ℕ) (served : Served) (a : Verdict) → INPUT_BYTES < length input → ServesInput (Unit {0}) role names input served a → status_of a ≡ INPUT_REFUSED
  end_input_long input served a long (inl p) = refused_status input served a p
  end_input_long input served a long (inr p) = absurd (omega (arith, long, p.short))
