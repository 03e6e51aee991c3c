-- A sync, and calls that only look behind it.
use Rattle.std.proofs.Common.{◌≡◌, ◌⊎◌, inl, inr, ℕ, List, [], ◌∷◌, ◌++◌, sym, ◌∙◌, ap, subst, arith, true, false, refl, append-nil, append_assoc, Result, Ok, Err, IfErr}
use Rattle.dsd_station.specs.declared.failed.Failed.{Failed}
use Rattle.dsd_station.specs.declared.call.Call.{Call}
use Rattle.dsd_station.specs.Effects.{Syncs, Passes, Stays, synced}
use Rattle.dsd_station.specs.Rows.{Makes}
use Rattle.dsd_station.specs.Stops.{then, weaken, passed, stayed, syncs_stops}
use Rattle.dsd_station.specs.Told.{Told, Moment, Allows, EachStop, LeavesAt}
use Rattle.dsd_journal.specs.Devices.{Untouched, Looks, SinceSync, SyncsAndReads, Opens}
use Rattle.dsd_journal.proofs.Calling.{sync_keeps, sync_made, syncing}
use Rattle.dsd_journal.proofs.Looking.{keeps_then}

-- a sync that failed
module _ (a b : Told) (failed : Failed) (s : Syncs (Err failed) a b) where
  untouched_as : Passes a b [] a.now ⊎ Stays a b → Untouched a b
  untouched_as (inl p) = record { journal = s.err.0.journal; now = p.now; stops = passed a b [] a.now (LeavesAt a.now) p (λ image out left. left) tt (λ image out left. left) }
  untouched_as (inr k) = record { journal = s.err.0.journal; now = k.now; stops = stayed a b (LeavesAt a.now) k (λ image out left. left) }

  untouched : Untouched a b
  untouched = untouched_as s.err.1

  pub opens_not : (F : Type 0) → F → Opens F a b
  opens_not F fault = record {
    keeps = sync_keeps (Err failed) a b s;
    gone = ap (λ (m : Moment). m.gone) untouched.now;
    calls = alone (sync_made (Err failed) a b s);
    journal = s.err.0.journal;
    syncs = s.count.1;
    stops = weaken (λ image out. LeavesAt a.now image out ⊎ ((image ≡ a.journal) × (out ≡ a.now.gone))) untouched.stops (λ image out left. inl left);
    later = inl (fault, untouched);
  }
    where
      alone : Makes (syncing ∷ []) false a b → SyncsAndReads a b
      alone m = record { went = false; first = m.kept; reads = []; calls = m.adds ∙ ap (λ (l : List Call). a.calls ++ l) (sym (append-nil m.kept)); sync = m.row; each = tt; ends = λ failed. refl }

module _ (a b c : Told) (done : Unit {0}) (F : Type 0) (s : Syncs (Ok done) a b) (l : Looks F b c) where
  abbrev Sure : List ℕ → List ℕ → Type 0
  Sure image out = (image ≡ a.journal) × (out ≡ a.now.gone)

  sure : Allows (synced a.now a.journal) Sure
  sure image out left = (left.image_of, left.gone_of)

  looking : EachStop b c Sure
  looking = weaken Sure l.untouched.stops (λ image out left. subst (λ (m : Moment). Allows m Sure) (sym s.ok.1.now) sure image out left)

  since : SinceSync a c
  since = record {
    syncs = l.syncs ∙ s.ok.0.syncs;
    during = looking.during;
    past = looking.past ∙ ap (λ (p : List Moment). p ++ looking.during) s.ok.1.past ∙ append_assoc a.past (a.now ∷ []) looking.during;
    each = looking.each;
    now = looking.now;
  }

  abbrev pub Left : List ℕ → List ℕ → Type 0
  Left image out = LeavesAt a.now image out ⊎ ((image ≡ a.journal) × (out ≡ a.now.gone))

  behind : Allows (synced a.now a.journal) Left
  behind image out left = inr (left.image_of, left.gone_of)

  pub opens : Opens F a c
  opens = record {
    keeps = keeps_then a b c (sync_keeps (Ok done) a b s) l.keeps;
    gone = ap (λ (m : Moment). m.gone) l.untouched.now ∙ ap (λ (m : Moment). m.gone) s.ok.1.now;
    calls = behind_sync (sync_made (Ok done) a b s);
    journal = l.untouched.journal ∙ s.ok.0.journal;
    syncs = omega (arith, l.syncs, s.count.1);
    stops = then (syncs_stops (Ok done) a b Left s (λ image out left. inl left) behind)
        (weaken Left l.untouched.stops (λ image out left. subst (λ (m : Moment). Allows m Left) (sym s.ok.1.now) behind image out left));
    later = inr since;
  }
    where
      not_both : true ≡ false → l.only.reads ≡ []
      not_both e = absurd (no e)
        where
          no : true ≡ false → ⊥
          no e = cc

      behind_sync : Makes (syncing ∷ []) true a b → SyncsAndReads a c
      behind_sync m = record {
        went = true;
        first = m.kept;
        reads = l.only.reads;
        calls = l.only.calls ∙ ap (λ (k : List Call). k ++ l.only.reads) m.adds ∙ append_assoc a.calls m.kept l.only.reads;
        sync = m.row;
        each = l.only.each;
        ends = not_both;
      }

pub if_err : (T E : Type 0) (r : Result T E) (P : E → Type 0) (e : E) → IfErr r P → r ≡ Err e → P e
if_err T E (Ok x) P e h is = absurd (no x e is)
  where
    no : (x : T) (e : E) → (let r : Result T E = Ok x in r) ≡ Err e → ⊥
    no x e is = cc
if_err T E (Err f) P e h is = subst P (same f e is) h
  where
    same : (f e : E) → (let r : Result T E = Err f in r) ≡ Err e → f ≡ e
    same f e is = cc
