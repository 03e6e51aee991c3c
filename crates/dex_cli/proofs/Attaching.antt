-- An attachment that went well, and a format behind it.
use Rattle.std.proofs.Common.{◌≡◌, inl, inr, ℕ, false, Result, Ok, Err, is_err, List, [], ◌∷◌, length, refl, sym, ◌∙◌, ap, subst, append-nil}
use Rattle.dsd_station.specs.declared.call.Call.TheVariants.{Attach}
use Rattle.dsd_station.specs.declared.failed.Failed.{Failed}
use Rattle.dsd_station.specs.Effects.{Attaches}
use Rattle.dsd_station.specs.Puts.{Goes}
use Rattle.dsd_station.specs.Stops.{attaches_stops}
use Rattle.dsd_station.specs.Told.{Told, Moment, LeavesAt}
use Rattle.dsd_journal.specs.Devices.{Formats, KeepsTalk, Unfailed, Untouched}
use Rattle.dsd_journal.specs.declared.formatting.FormatFault.TheVariants.{NotEmpty, Station}
use Rattle.dsd_journal.proofs.Looking.{goes_then, unfailed_then, untouched_then}
use Rattle.dex_cli.specs.Formatting.{IsAttached, IsFailed, IsMade, IsNotEmpty, IsSilent}
use Rattle.dex_cli.specs.declared.format_words.NewJournal.{NewJournal}

-- it went well
pub went_well : (r : Result (Unit {0}) Failed) → is_err r ≡ false → r ≡ Ok tt
went_well (Ok done) is = refl
went_well (Err failed) is = (let no_fault : ⊥ = cc in absurd no_fault)

-- it attached the journal of the words
pub attaches_it : (new : NewJournal) (a b : Told) (name : List ℕ) (r : Result (Unit {0}) Failed) → name ≡ new.journal → is_err r ≡ false → Attaches name [] r a b → Attaches new.journal [] (Ok tt) a b
attaches_it new a b name r is well attached = subst (λ n. Attaches n [] (Ok tt) a b) is (subst (λ r. Attaches name [] r a b) (went_well r well) attached)

module _ (new : NewJournal) (a b c : Told) (attached : Attaches new.journal [] (Ok tt) a b) where
  now_is : b.now ≡ a.now
  now_is = attached.moves.now

  goes : Goes a b
  goes = elim attached.calls [ inl e ↦ record { more = []; calls = e ∙ sym (append-nil a.calls) } | inr e ↦ record { more = Attach new.journal [] (Ok tt) ∷ []; calls = e } ]

  unfailed : Unfailed a b
  unfailed = elim attached.calls [ inl e ↦ record { more = []; calls = e ∙ sym (append-nil a.calls); each = refl } | inr e ↦ record { more = Attach new.journal [] (Ok tt) ∷ []; calls = e; each = refl } ]

  untouched : Untouched a b
  untouched = record {
    journal = attached.ok.journal;
    now = now_is;
    stops = attaches_stops new.journal [] (Ok tt) a b (LeavesAt a.now) attached (λ image out left. left);
  }

  silent : KeepsTalk b c → c.now.gone ≡ b.now.gone → IsSilent a c
  silent keeps gone = record {
    heard = keeps.heard ∙ attached.ok.heard;
    gone = gone ∙ ap (λ (m : Moment). m.gone) now_is;
    plan = keeps.plan ∙ attached.ok.plan;
    goes = goes_then a b c goes keeps.goes;
  }

  named : KeepsTalk b c → IsAttached new.journal c
  named keeps = record {
    journal_name = keeps.journal_name ∙ attached.ok.journal_name;
    port_name = keeps.port_name ∙ attached.ok.port_name;
  }

  pub made : Formats new.header (Ok tt) b c → IsMade new a c
  made formats = record {
    silent = silent formats.keeps formats.gone;
    attached = named formats.keeps;
    empty = sym attached.ok.journal ∙ formats.ok.0;
    bytes = formats.ok.1;
    holds = formats.ok.2;
    synced = formats.ok.3;
    unfailed = elim formats.unfailed [ inl e ↦ (let no_fault : ⊥ = cc in absurd no_fault) | inr went ↦ unfailed_then a b c unfailed went ];
  }

  pub not_empty : (size : ℕ) → Formats new.header (Err (NotEmpty size)) b c → IsNotEmpty new size a c
  not_empty size formats = record {
    silent = silent formats.keeps formats.gone;
    attached = named formats.keeps;
    size_is = (formats.not_empty size refl).0 ∙ ap (λ (l : List ℕ). length l) attached.ok.journal;
    some = (formats.not_empty size refl).1;
    untouched = untouched_then a b c untouched (formats.not_empty size refl).2;
    unfailed = elim formats.unfailed [ inl e ↦ (let no_fault : ⊥ = cc in absurd no_fault) | inr went ↦ unfailed_then a b c unfailed went ];
  }

  pub failed : Formats new.header (Err Station) b c → IsFailed new a c
  failed formats = record {
    silent = silent formats.keeps formats.gone;
    left = inl (record {
      attached = named formats.keeps;
      journal = elim (formats.station refl) [ inl still ↦ inl (untouched_then a b c untouched still) | inr torn ↦ inr (sym attached.ok.journal ∙ torn.0, torn.1) ];
    });
  }
