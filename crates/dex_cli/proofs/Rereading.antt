-- An attachment and openings behind it leave the journal alone.
use Rattle.std.proofs.Common.{◌≡◌, ◌⊎◌, inl, inr, ℕ, Bool, false, Result, Ok, Err, IfOk, OnOk, is_err, true, List, [], ◌∷◌, ◌++◌, refl, sym, ◌∙◌, ap, subst, append_assoc, append-nil}
use Rattle.dsd_station.specs.declared.call.Call.{Call}
use Rattle.dsd_station.specs.declared.call.Call.TheVariants.{Attach, Read, Sync}
use Rattle.dsd_station.specs.declared.call.Outcome.{Outcome}
use Rattle.dsd_station.specs.declared.failed.Failed.{Failed}
use Rattle.dsd_station.specs.Effects.{Attaches, Passes, Same, Stays, with_names}
use Rattle.dsd_station.specs.Rows.{IsKept, IsRow}
use Rattle.dsd_station.specs.Stops.{attaches_stops, then, weaken}
use Rattle.dsd_station.specs.Told.{Told, Moment, IsSynced, LeavesAt}
use Rattle.dsd_values.specs.declared.role.Role.{Role}
use Rattle.dsd_journal.specs.declared.entry.Entry.{Entry}
use Rattle.dsd_journal.specs.declared.header.Header.{Header}
use Rattle.dsd_journal.specs.Devices.{AreReads, KeepsTalk, Opens, Unfailed}
use Rattle.dsd_journal.specs.FirstBad.{IsRefused}
use Rattle.dsd_journal.specs.JournalImage.{Holds}
use Rattle.dsd_journal.proofs.Apart.{one_list}
use Rattle.dsd_journal.proofs.Looking.{goes_then, unfailed_then}
use Rattle.delivery_book.specs.BookImages.{IsBookRefused, IsIllegal, NoJournal, NotLegal, OtherRole}
use Rattle.delivery_book.specs.Signing.{Legal}
use Rattle.dex_cli.specs.Formatting.{Served}
use Rattle.dex_cli.specs.Showing.{ArePassive, IsNotAJournal, IsPassive, IsRead, IsShownOf, LeavesAlone, LooksAt, Shows}
use Rattle.dex_cli.specs.declared.verdict.Verdict.{Verdict}
use Rattle.dex_cli.specs.declared.verdict.Verdict.TheVariants as verdicts

-- ---- passive calls

passive_append : (xs ys : List Call) → ArePassive xs → ArePassive ys → ArePassive (xs ++ ys)
passive_append [] ys p q = q
passive_append (Attach journal port answer ∷ xs) ys p q = passive_append xs ys p q
passive_append (Sync outcome ∷ xs) ys p q = passive_append xs ys p q
passive_append (Read at room answer ∷ xs) ys p q = passive_append xs ys p q
passive_append (_ ∷ xs) ys p q = absurd p

passive_then : (a b c : Told) → IsPassive a b → IsPassive b c → IsPassive a c
passive_then a b c x y = record {
  more = x.more ++ y.more;
  calls = y.calls ∙ ap (λ (l : List Call). l ++ y.more) x.calls ∙ append_assoc a.calls x.more y.more;
  each = passive_append x.more y.more x.each y.each;
}

passive_reads : (xs : List Call) → AreReads xs → ArePassive xs
passive_reads [] p = tt
passive_reads (Read at room answer ∷ xs) p = passive_reads xs p
passive_reads (_ ∷ xs) p = absurd p

passive_kept : (outcome : Outcome) (kept rest : List Call) → IsKept (Sync outcome) kept rest → ArePassive rest → ArePassive kept
passive_kept outcome kept rest (inl e) p = rw e p
passive_kept outcome kept rest (inr e) p = rw e p

passive_sync : (went : Bool) (kept : List Call) → IsRow ((λ (outcome : Outcome). Sync outcome) ∷ []) went kept → ArePassive kept
passive_sync went kept (inl (rest, is, (_, e))) = passive_kept _ kept rest is (rw e tt)
passive_sync went kept (inr (outcome, _, _, is)) = passive_kept outcome kept [] is tt

-- ---- what leaves the journal alone

pub alone_then : (a b c : Told) → LeavesAlone a b → LeavesAlone b c → LeavesAlone a c
alone_then a b c x y = record {
  silent = record {
    heard = y.silent.heard ∙ x.silent.heard;
    gone = y.silent.gone ∙ x.silent.gone;
    plan = y.silent.plan ∙ x.silent.plan;
    goes = goes_then a b c x.silent.goes y.silent.goes;
  };
  passive = passive_then a b c x.passive y.passive;
  journal = y.journal ∙ x.journal;
  stops = then x.stops (weaken (λ image out. LeavesAt a.now image out ⊎ ((image ≡ a.journal) × (out ≡ a.now.gone))) y.stops earlier);
}
  where
    earlier : (image out : List ℕ) → LeavesAt b.now image out ⊎ ((image ≡ b.journal) × (out ≡ b.now.gone)) → LeavesAt a.now image out ⊎ ((image ≡ a.journal) × (out ≡ a.now.gone))
    earlier image out (inl left) = x.stops.now image out left
    earlier image out (inr (same, gone)) = inr (same ∙ x.journal, gone ∙ x.silent.gone)

pub opening_alone : (F : Type 0) (a b : Told) → Opens F a b → LeavesAlone a b
opening_alone F a b o = record {
  silent = record { heard = o.keeps.heard; gone = o.gone; plan = o.keeps.plan; goes = o.keeps.goes };
  passive = record {
    more = o.calls.first ++ o.calls.reads;
    calls = o.calls.calls;
    each = passive_append o.calls.first o.calls.reads (passive_sync o.calls.went o.calls.first o.calls.sync) (passive_reads o.calls.reads o.calls.each);
  };
  journal = o.journal;
  stops = o.stops;
}

-- ---- an opening for the role of a journal, and one for its book

pub not_a_journal : (header : Header) (entries : List Entry) (role : Role) (before image : List ℕ) (place : ℕ) → role ≡ header.role → image ≡ before → Holds header entries image → IsBookRefused role image place → IsNotAJournal before place
not_a_journal header entries role before image place own same holds (NoJournal refused) = inl (subst (λ (i : List ℕ). IsRefused i place) same refused)
not_a_journal header entries role before image place own same holds (NotLegal illegal) = inr (role, subst (λ (i : List ℕ). IsIllegal role i place) same illegal)
not_a_journal header entries role before image place own same holds (OtherRole other) =
    let one = one_list image header other.header entries other.entries holds other.holds in
    absurd (other.other (sym (ap (λ (h : Header). h.role) one.0) ∙ sym own))

pub unfailed_both : (F : Type 0) (a b c : Told) → ⊥ ⊎ (Unfailed a b × IsSynced b) → F ⊎ (Unfailed b c × IsSynced c) → F ⊎ (Unfailed a c × IsSynced c)
unfailed_both F a b c (inl never) second = absurd never
unfailed_both F a b c (inr first) (inl failed) = inl failed
unfailed_both F a b c (inr first) (inr second) = inr (unfailed_then a b c first.0 second.0, second.1)

-- ---- an attachment

stood : (a b : Told) → Passes a b [] a.now ⊎ Stays a b → b.now ≡ a.now
stood a b (inl passes) = passes.now
stood a b (inr stays) = stays.now

module _ (journal port : List ℕ) (r : Result (Unit {0}) Failed) (a b : Told) (attached : Attaches journal port r a b) where
  made : (calls : List Call) × (b.calls ≡ a.calls ++ calls) × ArePassive calls
  made = elim attached.calls [ inl e ↦ ([], e ∙ sym (append-nil a.calls), tt) | inr e ↦ (Attach journal port r ∷ [], e, tt) ]

  pub alone_by : b.journal ≡ a.journal → b.heard ≡ a.heard → b.plan ≡ a.plan → LeavesAlone a b
  alone_by same heard plan = record {
    silent = record { heard = heard; gone = ap (λ (m : Moment). m.gone) (stood a b attached.time); plan = plan; goes = record { more = made.0; calls = made.1 } };
    passive = record { more = made.0; calls = made.1; each = made.2 };
    journal = same;
    stops = attaches_stops journal port r a b (λ image out. LeavesAt a.now image out ⊎ ((image ≡ a.journal) × (out ≡ a.now.gone))) attached (λ image out left. inl left);
  }

-- one that failed
pub unattached : (journal : List ℕ) (r : Result (Unit {0}) Failed) (a b : Told) → is_err r ≡ true → Attaches journal [] r a b → LooksAt journal a b
unattached journal (Ok done) a b failed attached = (let never : ⊥ = cc in absurd never)
unattached journal (Err fault) a b failed attached = record {
  alone = alone_by journal [] (Err fault) a b attached attached.err.journal attached.err.heard attached.err.plan;
  names = inr (record { journal_name = attached.err.journal_name; port_name = attached.err.port_name });
}

-- one that went well
module _ (journal : List ℕ) (r : Result (Unit {0}) Failed) (a b : Told) (well : is_err r ≡ false) (attached : Attaches journal [] r a b) where
  same : Same (with_names a journal []) b
  same = fine r well attached.ok
    where
      fine : (r : Result (Unit {0}) Failed) → is_err r ≡ false → OnOk r (Same (with_names a journal []) b) → Same (with_names a journal []) b
      fine (Ok done) w s = s
      fine (Err fault) w s = (let never : ⊥ = cc in absurd never)

  pub attached_journal : b.journal ≡ a.journal
  attached_journal = same.journal

  -- and what looks at the journal behind it
  pub looks_behind : (c : Told) → LeavesAlone b c → KeepsTalk b c → LooksAt journal a c
  looks_behind c alone keeps = record {
    alone = alone_then a b c (alone_by journal [] r a b attached same.journal same.heard same.plan) alone;
    names = inl (record { journal_name = keeps.journal_name ∙ same.journal_name; port_name = keeps.port_name ∙ same.port_name });
  }

  pub read_behind : (c : Told) (F : Type 0) → (F → ⊥) → KeepsTalk b c → F ⊎ (Unfailed b c × IsSynced c) → IsRead journal a c
  read_behind c F never keeps (inl failed) = absurd (never failed)
  read_behind c F never keeps (inr went) = record {
    attached = record { journal_name = keeps.journal_name ∙ same.journal_name; port_name = keeps.port_name ∙ same.port_name };
    synced = went.1;
    unfailed = unfailed_then a b c (none_failed r well attached.calls) went.0;
  }
    where
      none_failed : (r : Result (Unit {0}) Failed) → is_err r ≡ false → (b.calls ≡ a.calls) ⊎ (b.calls ≡ a.calls ++ Attach journal [] r ∷ []) → Unfailed a b
      none_failed (Ok done) w (inl e) = record { more = []; calls = e ∙ sym (append-nil a.calls); each = refl }
      none_failed (Ok done) w (inr e) = record { more = Attach journal [] (Ok done) ∷ []; calls = e; each = refl }
      none_failed (Err fault) w calls = (let never : ⊥ = cc in absurd never)

pub attached_as : (name journal : List ℕ) (r : Result (Unit {0}) Failed) (a b : Told) → name ≡ journal → Attaches name [] r a b → Attaches journal [] r a b
attached_as name journal r a b same attached = subst (λ (n : List ℕ). Attaches n [] r a b) same attached

-- the book was opened
pub shown_so : {E : Type 0} (tells : Type 0) (journal : List ℕ) (served : Served) (header : Header) (entries : List Entry) (result : Result Verdict E) → IfOk result (IsShownOf header entries) → Legal header.role entries
    → (tells → Holds header entries served.before.journal) → (tells → IsRead journal served.before served.after) → IfOk result (Shows tells journal served)
shown_so tells journal served header entries (Err fault) is legal holds read = tt
shown_so tells journal served header entries (Ok (verdicts.Shown summary)) is legal holds read = (record { header = header; entries = entries; legal = legal; told = is; holds = holds }, read)
shown_so tells journal served header entries (Ok _) is legal holds read = absurd is
