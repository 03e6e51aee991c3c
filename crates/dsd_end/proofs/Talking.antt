-- From one call of a station to what an end needs of it.
use Rattle.std.proofs.Common.{◌≡◌, ◌⊎◌, inl, inr, ℕ, Bool, true, false, List, [], ◌∷◌, ◌++◌, take, drop, refl, sym, ◌∙◌, ap, subst, arith, append_assoc, append-nil, Result, Ok, Err}
use Rattle.std.specs.Prelude.{is_ok}
use Rattle.std.proofs.lemmas.List.{take-append-drop}
use Rattle.dex_line.specs.FrameShapes.{FrameShape}
use Rattle.dex_line.specs.FrameSpelling.{IsSpoken, spelling}
use Rattle.dsd_station.specs.Disk.{MayLeave}
use Rattle.dsd_station.specs.Effects.{Adds, AddsAs, Listens, Passes, Speaks, Stays, heard_in, sent}
use Rattle.dsd_station.specs.Puts.{Goes}
use Rattle.dsd_station.specs.Stops.{none_passed, speaks_stops}
use Rattle.dsd_station.specs.Told.{Allows, IsSynced, Moment, Told}
use Rattle.dsd_station.specs.declared.call.Call.{Call}
use Rattle.dsd_station.specs.declared.call.Outcome.{Outcome}
use Rattle.dsd_station.specs.declared.call.Reception.{Reception}
use Rattle.dsd_station.specs.declared.failed.Failed.{Failed}
use Rattle.dsd_station.specs.declared.station.Heard.{Heard}
use Rattle.dsd_journal.specs.Devices.{KeepsTalk}
use Rattle.dsd_journal.specs.JournalImage.{Holds}
use Rattle.dsd_journal.specs.Journals.{Rests}
use Rattle.dsd_journal.specs.declared.entry.Entry.{Entry}
use Rattle.dsd_journal.specs.declared.header.Header.{Header}
use Rattle.dsd_journal.proofs.Looking.{keeps_none}
use Rattle.dsd_end.specs.EndSteps.{HasSent, Says}
use Rattle.dsd_end.proofs.CallsMade.{calls_none, calls_spoken}
use Rattle.dsd_end.specs.Polls.{HearsOnce, KeepsHearing}

goes_as : (call : Outcome → Call) (result : Result (Unit {0}) Failed) (old new : Told) → AddsAs call result old new → Goes old new
goes_as call result old new (inl same) = record { more = []; calls = same ∙ sym (append-nil old.calls) }
goes_as call result old new (inr (outcome, is, adds)) = record { more = call outcome ∷ []; calls = adds }

module _ (bytes : List ℕ) (old : Told) (sure : IsSynced old) where
  abbrev Left : List ℕ → List ℕ → Type 0
  Left image out = (image ≡ old.journal) × HasSent bytes old.now.gone out

  is_journal : (image : List ℕ) → MayLeave old.now.sure old.now.writes image → image ≡ old.journal
  is_journal image left = subst (λ w. MayLeave old.now.sure w image) sure.writes left ∙ sure.sure

  here : Allows old.now Left
  here image out left = (is_journal image left.image_of, ([], bytes, refl, left.gone_of ∙ sym (append-nil old.now.gone)))

  at : (n : ℕ) → Allows (sent old.now (take n bytes)) Left
  at n image out left = (is_journal image left.image_of, (take n bytes, drop n bytes, sym (take-append-drop n bytes), left.gone_of))

  keeps_said : (r : Result (Unit {0}) Failed) (new : Told) → Speaks bytes r old new → KeepsTalk old new
  keeps_said r new s = record {
    journal_name = s.same.journal_name;
    port_name = s.same.port_name;
    heard = s.same.heard;
    plan = s.same.plan;
    syncs = omega (arith, s.same.syncs);
    goes = goes_as _ r old new s.calls;
  }

  pub says_spoken : (frame : FrameShape) → IsSpoken frame → bytes ≡ spelling frame → (r : Result (Unit {0}) Failed) (new : Told) → Speaks bytes r old new → Says bytes (is_ok r) old new
  says_spoken frame spoken is (Ok done) new s = record {
    keeps = keeps_said (Ok done) new s;
    made = calls_spoken frame bytes (Ok done) old new spoken is s.calls;
    syncs = s.same.syncs;
    journal = s.same.journal;
    stops = speaks_stops bytes (Ok done) old new Left s here at;
    ok = λ went. (
      ap (λ (m : Moment). m.gone) s.ok.now,
      record {
        sure = ap (λ (m : Moment). m.sure) s.ok.now ∙ sure.sure ∙ sym s.same.journal;
        writes = ap (λ (m : Moment). m.writes) s.ok.now ∙ sure.writes;
      },
    );
  }
  says_spoken frame spoken is (Err failed) new s = record {
    keeps = keeps_said (Err failed) new s;
    made = calls_spoken frame bytes (Err failed) old new spoken is s.calls;
    syncs = s.same.syncs;
    journal = s.same.journal;
    stops = speaks_stops bytes (Err failed) old new Left s here at;
    ok = λ went. absurd (not_so went);
  }
    where
      not_so : false ≡ true → ⊥
      not_so e = cc

-- nothing is said
pub says_none : (told : Told) → IsSynced told → Says [] true told told
says_none told sure = record {
  keeps = keeps_none told;
  made = calls_none told;
  syncs = refl;
  journal = refl;
  stops = none_passed told (λ image out. (image ≡ told.journal) × HasSent [] told.now.gone out) (here [] told sure);
  ok = λ went. (sym (append-nil told.now.gone), sure);
}

pub says_as : (bytes bytes' : List ℕ) (went : Bool) (old new : Told) → bytes ≡ bytes' → Says bytes went old new → Says bytes' went old new
says_as bytes bytes' went old new e s = subst (λ (b : List ℕ). Says b went old new) e s

-- the journal still holds the entries
pub said_rests : (header : Header) (entries : List Entry) (bytes : List ℕ) (old new : Told) → Rests header entries old → Says bytes true old new → Rests header entries new
said_rests header entries bytes old new rests s =
    record { holds = subst (λ (image : List ℕ). Holds header entries image) (sym s.journal) rests.holds; synced = (s.ok refl).1 }

-- ---- a listen

adds_goes : (call : Call) (old new : Told) → Adds call old new → Goes old new
adds_goes call old new (inl same) = record { more = []; calls = same ∙ sym (append-nil old.calls) }
adds_goes call old new (inr adds) = record { more = call ∷ []; calls = adds }

pub listens_something : (into : List ℕ) (heard : Heard) (old new : Told) → Listens into (Ok heard) old new → KeepsHearing (heard_in into heard ∷ []) old new
listens_something into heard old new l = record {
  journal_name = l.ok.journal_name;
  port_name = l.ok.port_name;
  heard = l.ok.heard;
  plan = l.ok.plan;
  syncs = omega (arith, l.ok.syncs);
  goes = adds_goes _ old new l.calls;
}

pub listens_nothing : (into : List ℕ) (failed : Failed) (old new : Told) → Listens into (Err failed) old new → KeepsHearing [] old new
listens_nothing into failed old new l = record {
  journal_name = l.err.journal_name;
  port_name = l.err.port_name;
  heard = l.err.heard ∙ sym (append-nil old.heard);
  plan = l.err.plan;
  syncs = omega (arith, l.err.syncs);
  goes = adds_goes _ old new l.calls;
}

pub hearing_then : (more : List Reception) (old mid new : Told) → KeepsHearing more old mid → KeepsTalk mid new → KeepsHearing more old new
hearing_then more old mid new a b = record {
  journal_name = b.journal_name ∙ a.journal_name;
  port_name = b.port_name ∙ a.port_name;
  heard = b.heard ∙ a.heard;
  plan = b.plan ∙ a.plan;
  syncs = omega (arith, a.syncs, b.syncs);
  goes = record { more = a.goes.more ++ b.goes.more; calls = b.goes.calls ∙ ap (λ (l : List Call). l ++ b.goes.more) a.goes.calls ∙ append_assoc old.calls a.goes.more b.goes.more };
}

pub talk_once : (old new : Told) → KeepsTalk old new → HearsOnce old new
talk_once old new k = record {
  more = [];
  once = omega arith;
  keeps = record {
    journal_name = k.journal_name;
    port_name = k.port_name;
    heard = k.heard ∙ sym (append-nil old.heard);
    plan = k.plan;
    syncs = k.syncs;
    goes = k.goes;
  };
}

pub once_heard : (reception : Reception) (old mid new : Told) → KeepsHearing (reception ∷ []) old mid → KeepsTalk mid new → HearsOnce old new
once_heard reception old mid new a b = record { more = reception ∷ []; once = omega arith; keeps = hearing_then (reception ∷ []) old mid new a b }

pub once_deaf : (old new : Told) → KeepsHearing [] old new → HearsOnce old new
once_deaf old new a = record { more = []; once = omega arith; keeps = a }

-- it leaves the journal
pub listens_rests : (header : Header) (entries : List Entry) (old new : Told) → new.journal ≡ old.journal → Passes old new [] old.now ⊎ Stays old new → Rests header entries old → Rests header entries new
listens_rests header entries old new same time rests =
    let now : new.now ≡ old.now = moment time in
    record {
      holds = subst (λ (image : List ℕ). Holds header entries image) (sym same) rests.holds;
      synced = record {
        sure = ap (λ (m : Moment). m.sure) now ∙ rests.synced.sure ∙ sym same;
        writes = ap (λ (m : Moment). m.writes) now ∙ rests.synced.writes;
      };
    }
  where
    moment : Passes old new [] old.now ⊎ Stays old new → new.now ≡ old.now
    moment (inl passes) = passes.now
    moment (inr stays) = stays.now
