-- Calls that only look at the journal, one after the other.
use Rattle.std.proofs.Common.{◌≡◌, ◌⊎◌, inl, inr, ℕ, zero, suc, ◌+◌, ◌<◌, ◌≤◌, Bool, false, cond, List, [], ◌∷◌, ◌++◌, length, take, drop, refl, sym, ◌∙◌, ap, subst, arith, append_assoc, append-nil, length-drop}
use Rattle.std.proofs.lemmas.Bool.{cases_lt}
use Rattle.dsd_station.specs.declared.call.Call.{Call}
use Rattle.dsd_station.specs.declared.call.Call.TheVariants.{Read}
use Rattle.dsd_station.specs.Effects.{Passes, Reads, Stays}
use Rattle.dsd_station.specs.Failures.{failed_in, has_failed}
use Rattle.dsd_station.specs.Puts.{Goes}
use Rattle.dsd_station.specs.Rows.{IsKept}
use Rattle.dsd_station.specs.Stops.{reads_stops, then}
use Rattle.dsd_station.specs.Told.{Told, Moment, LeavesAt, EachStop}
use Rattle.dsd_journal.specs.Devices.{AreReads, KeepsTalk, ReadsOnly, Unfailed, Untouched, Looks}
use Rattle.dsd_journal.specs.Pieces.{IsSoFar, ReadsOn}

pub goes_then : (a b c : Told) → Goes a b → Goes b c → Goes a c
goes_then a b c x y = record { more = x.more ++ y.more; calls = y.calls ∙ ap (λ (l : List Call). l ++ y.more) x.calls ∙ append_assoc a.calls x.more y.more }

pub keeps_none : (told : Told) → KeepsTalk told told
keeps_none told = record {
  journal_name = refl;
  port_name = refl;
  heard = refl;
  plan = refl;
  syncs = omega arith;
  goes = record { more = []; calls = sym (append-nil told.calls) };
}

pub keeps_then : (a b c : Told) → KeepsTalk a b → KeepsTalk b c → KeepsTalk a c
keeps_then a b c x y = record {
  journal_name = y.journal_name ∙ x.journal_name;
  port_name = y.port_name ∙ x.port_name;
  heard = y.heard ∙ x.heard;
  plan = y.plan ∙ x.plan;
  syncs = omega (arith, x.syncs, y.syncs);
  goes = goes_then a b c x.goes y.goes;
}

-- ---- reads alone

reads_append : (xs ys : List Call) → AreReads xs → AreReads ys → AreReads (xs ++ ys)
reads_append [] ys p q = q
reads_append (Read at room answer ∷ xs) ys p q = reads_append xs ys p q
reads_append (_ ∷ xs) ys p q = absurd p

reads_then : (a b c : Told) → ReadsOnly a b → ReadsOnly b c → ReadsOnly a c
reads_then a b c x y = record {
  reads = x.reads ++ y.reads;
  calls = y.calls ∙ ap (λ (l : List Call). l ++ y.reads) x.calls ∙ append_assoc a.calls x.reads y.reads;
  each = reads_append x.reads y.reads x.each y.each;
}

-- ---- none has failed

failed_append : (xs ys : List Call) → failed_in (xs ++ ys) ≡ failed_in xs + failed_in ys
failed_append [] ys = omega arith
failed_append (x ∷ xs) ys = omega (arith, failed_append xs ys)

pub unfailed_then : (a b c : Told) → Unfailed a b → Unfailed b c → Unfailed a c
unfailed_then a b c x y = record {
  more = x.more ++ y.more;
  calls = y.calls ∙ ap (λ (l : List Call). l ++ y.more) x.calls ∙ append_assoc a.calls x.more y.more;
  each = omega (arith, failed_append x.more y.more, x.each, y.each);
}

pub untouched_then : (a b c : Told) → Untouched a b → Untouched b c → Untouched a c
untouched_then a b c x y = record {
  journal = y.journal ∙ x.journal;
  now = y.now ∙ x.now;
  stops = then x.stops (subst (λ (m : Moment). EachStop b c (LeavesAt m)) x.now y.stops);
}

pub looks_then : (F G : Type 0) (a b c : Told) → Looks F a b → (F → ⊥) → Looks G b c → Looks G a c
looks_then F G a b c x fine y = record {
  keeps = keeps_then a b c x.keeps y.keeps;
  syncs = y.syncs ∙ x.syncs;
  untouched = untouched_then a b c x.untouched y.untouched;
  only = reads_then a b c x.only y.only;
  unfailed = elim (y.unfailed) [ inl failed ↦ inl failed | inr went ↦ elim (x.unfailed) [ inl failed ↦ absurd (fine failed) | inr before ↦ inr (unfailed_then a b c before went) ] ];
}

-- that it failed may be said otherwise
pub looks_as : (F G : Type 0) (a b : Told) → (F → G) → Looks F a b → Looks G a b
looks_as F G a b f x = record { keeps = x.keeps; syncs = x.syncs; untouched = x.untouched; only = x.only; unfailed = elim (x.unfailed) [ inl failed ↦ inl (f failed) | inr went ↦ inr went ] }

-- ---- one call that looks

module _ (call : Call) (a b : Told) (r : Reads call a b) where
  stood : Passes a b [] a.now ⊎ Stays a b → b.now ≡ a.now
  stood (inl passes) = passes.now
  stood (inr stays) = stays.now

  pub look_now : b.now ≡ a.now
  look_now = stood r.time

  pub look_kept : (kept : List Call) × (b.calls ≡ a.calls ++ kept) × IsKept call kept []
  look_kept = elim (r.calls) [ inl same ↦ ([], same ∙ sym (append-nil a.calls), inr refl) | inr one ↦ (call ∷ [], one, inl refl) ]

  pub look_keeps : KeepsTalk a b
  look_keeps = record {
    journal_name = r.same.journal_name;
    port_name = r.same.port_name;
    heard = r.same.heard;
    plan = r.same.plan;
    syncs = omega (arith, r.same.syncs);
    goes = record { more = look_kept.0; calls = look_kept.1 };
  }

  pub look_untouched : Untouched a b
  look_untouched = record { journal = r.same.journal; now = look_now; stops = reads_stops call a b (LeavesAt a.now) r (λ image out left. left) }

  pub look_unfailed : has_failed call ≡ false → Unfailed a b
  look_unfailed fine = record { more = look_kept.0; calls = look_kept.1; each = none look_kept.0 look_kept.2 }
    where
      none : (kept : List Call) → IsKept call kept [] → failed_in kept ≡ 0
      none kept (inl e) = ap failed_in e ∙ ap (λ (b : Bool). cond b 1 0 + 0) fine
      none kept (inr e) = ap failed_in e

-- ---- the bytes read so far

take_add : (n m : ℕ) (l : List ℕ) → take (n + m) l ≡ take n l ++ take m (drop n l)
take_add zero m l = let same : 0 + m ≡ m = omega arith in ap (λ (k : ℕ). take k l) same
take_add (suc n) m [] = let same : suc n + m ≡ suc (n + m) = omega arith in ap (λ (k : ℕ). take {A = ℕ} k []) same ∙ sym (none m)
  where
    none : (k : ℕ) → take {A = ℕ} k [] ≡ []
    none zero = refl
    none (suc k) = refl
take_add (suc n) m (x ∷ l) = let same : suc n + m ≡ suc (n + m) = omega arith in ap (λ (k : ℕ). take k (x ∷ l)) same ∙ ap (λ (t : List ℕ). x ∷ t) (take_add n m l)

pub taken_on : (image : List ℕ) (at room count : ℕ) (old new : List ℕ) → at ≤ length image → ReadsOn image at room count old new → (take (at + count) image ≡ take at image ++ take count (drop at image)) × (at + count ≤ length image)
taken_on image at room count old new inside r = (take_add at count image, omega (arith, r.within, inside, length-drop at image))

pub so_far_on : (image : List ℕ) (at room count : ℕ) (old new : List ℕ) → IsSoFar image at old → ReadsOn image at room count old new → IsSoFar image (at + count) new
so_far_on image at room count old new s r = let more = taken_on image at room count old new s.inside r in
    record { is = r.more ∙ ap (λ (l : List ℕ). l ++ take count (drop at image)) s.is ∙ sym more.0; inside = more.1 }

-- nothing came
pub ended : (image : List ℕ) (at room : ℕ) (old new : List ℕ) → at ≤ length image → 0 < room → ReadsOn image at room 0 old new → at ≡ length image
ended image at room old new inside some r = elim (cases_lt at (length image)) [ inl less ↦ absurd (omega (arith, r.some less some)) | inr past ↦ omega (arith, past, inside) ]

-- two calls that went well
pub looks_none_failed : (G : Type 0) (a b c : Told) → Looks ⊥ a b → Looks ⊥ b c → Looks G a c
looks_none_failed G a b c p q = looks_then ⊥ G a b c p (λ f. f) (looks_as ⊥ G b c (λ f. absurd f) q)
