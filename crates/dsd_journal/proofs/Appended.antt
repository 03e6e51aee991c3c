-- From the device calls of a flush to the entries of its journal.
use Rattle.std.proofs.Common.{◌≡◌, inl, ℕ, ◌+◌, ◌<◌, List, [], ◌∷◌, ◌++◌, length, drop, refl, sym, ◌∙◌, ap, subst, arith, append_assoc, length-append, Result, Ok, Err, is_ok}
use Rattle.dsd_station.specs.declared.failed.Failed.{Failed}
use Rattle.dsd_station.specs.Disk.{overwritten, MayLeave}
use Rattle.dsd_station.specs.Rows.{Makes}
use Rattle.dsd_station.specs.Stops.{none_passed, weaken}
use Rattle.dsd_station.specs.Told.{Told, Allows, EachStop}
use Rattle.dsd_station.proofs.Making.{row_fine}
use Rattle.dsd_journal.specs.declared.entry.Entry.{Entry}
use Rattle.dsd_journal.specs.declared.header.Header.{Header}
use Rattle.dsd_journal.specs.declared.limits.TheConstants.{JOURNAL_BYTES}
use Rattle.dsd_journal.specs.Devices.{Appends}
use Rattle.dsd_journal.specs.JournalImage.{open_gate, gate_place, body, spelled, EachFits, Holds}
use Rattle.dsd_journal.specs.Journals.{Rests, WithOrWithout}
use Rattle.dsd_journal.specs.Steps.{batch_of, flush_calls, gate_calls, with_batch, Flushes, TornInTwo, Opened}
use Rattle.dsd_journal.proofs.Appending.{stop_leaves, holds_more}
use Rattle.dsd_journal.proofs.Looking.{keeps_none}
use Rattle.dsd_journal.proofs.Peeling.{spelled_append}

-- of a batch of entries behind one gate
module _ (header : Header) (es : List Entry) (first : Entry) (more : List Entry) (gate : ℕ) (bytes : List ℕ) (old new : Told) (rests : Rests header es old) (is_gate : gate ≡ gate_place es)
    (is_batch : bytes ≡ batch_of (first ∷ more)) (each : EachFits (first ∷ more)) (near : gate_place (es ++ first ∷ more) < JOURNAL_BYTES) where
  long : length (batch_of (first ∷ more)) ≡ length (body first ++ spelled more) + 1
  long = omega (arith, length-append (body first) (spelled more ++ 0 ∷ []), length-append (spelled more) (0 ∷ []), length-append (body first) (spelled more))

  room_at : gate_place es + length (batch_of (first ∷ more)) < JOURNAL_BYTES
  room_at = omega (arith, near, long, ap length (spelled_append es (first ∷ more)), length-append (spelled es) (spelled (first ∷ more)))

  left : (image : List ℕ) → TornInTwo gate bytes old.journal image → WithOrWithout header es (first ∷ more) image
  left image torn = stop_leaves header es first more old.journal rests.holds each room_at image
      (subst (λ (g : ℕ). TornInTwo g (batch_of (first ∷ more)) old.journal image) is_gate (subst (λ (b : List ℕ). TornInTwo gate b old.journal image) is_batch torn))

  stops : EachStop old new (λ image out. TornInTwo gate bytes old.journal image × (out ≡ old.now.gone)) → EachStop old new (λ image out. WithOrWithout header es (first ∷ more) image × (out ≡ old.now.gone))
  stops s = weaken (λ image out. WithOrWithout header es (first ∷ more) image × (out ≡ old.now.gone)) s (λ image out k. (left image k.0, k.1))

  appends_so : (r : Result (Unit {0}) Failed) → Opened gate bytes r old new → Appends header es (first ∷ more) old new
  appends_so r o = record { keeps = o.keeps; gone = o.gone; syncs = o.syncs; stops = stops o.stops }

  made_so : (r : Result (Unit {0}) Failed) → Opened gate bytes r old new → Makes (flush_calls (gate_place es) (first ∷ more)) (is_ok r) old new
  made_so r o = subst (λ (g : ℕ). Makes (gate_calls g (batch_of (first ∷ more))) (is_ok r) old new) is_gate (subst (λ (b : List ℕ). Makes (gate_calls gate b) (is_ok r) old new) is_batch o.made)

  bytes_so : (done : Unit {0}) → Opened gate bytes (Ok done) old new → new.journal ≡ with_batch (gate_place es) (first ∷ more) old.journal
  bytes_so done o =
      o.ok.0 ∙ ap (λ (b : List ℕ). overwritten (overwritten old.journal (gate + 1) b) gate (open_gate ∷ [])) is_batch ∙ ap (λ (g : ℕ). with_batch g (first ∷ more) old.journal) is_gate

  flushed_so : (r : Result (Unit {0}) Failed) → Opened gate bytes r old new → Flushes header es (first ∷ more) r old new
  flushed_so (Ok done) o = record {
    appends = appends_so (Ok done) o;
    made = made_so (Ok done) o;
    bytes = bytes_so done o;
    rests = record { holds = holds_more header es first more old.journal rests.holds each room_at new.journal (bytes_so done o); synced = o.ok.1 };
    unfailed = record { more = o.made.kept; calls = o.made.adds; each = row_fine (gate_calls gate bytes) o.made.kept (refl, (refl, (refl, (refl, tt)))) o.made.row };
  }
  flushed_so (Err failed) o = record { appends = appends_so (Err failed) o; made = made_so (Err failed) o; bytes = tt; rests = tt; unfailed = tt }

pub flushes : (header : Header) (es staged : List Entry) (gate : ℕ) (batch : List ℕ) (r : Result (Unit {0}) Failed) (old new : Told) → Rests header es old → gate ≡ gate_place es → batch ≡ spelled staged
    → 0 < length staged → EachFits staged → gate_place (es ++ staged) < JOURNAL_BYTES → Opened gate (drop 1 (batch ++ 0 ∷ [])) r old new → Flushes header es staged r old new
flushes header es [] gate batch r old new rests is_gate is_batch some each near o = absurd (omega (arith, some))
flushes header es (first ∷ more) gate batch r old new rests is_gate is_batch some each near o =
    flushed_so header es first more gate (drop 1 (batch ++ 0 ∷ [])) old new rests is_gate (ap (λ (l : List ℕ). drop 1 (l ++ 0 ∷ [])) is_batch ∙ append_assoc (body first) (spelled more) (0 ∷ [])) each near r o

-- no call is made
module _ (header : Header) (es : List Entry) (told : Told) (rests : Rests header es told) where
  left_alone : (added : List Entry) → Allows told.now (λ image out. WithOrWithout header es added image × (out ≡ told.now.gone))
  left_alone added image out stop = (inl (subst (λ (l : List ℕ). Holds header es l) (sym (subst (λ w. MayLeave told.now.sure w image) rests.synced.writes stop.image_of ∙ rests.synced.sure)) rests.holds), stop.gone_of)

  pub appends_none : (added : List Entry) → Appends header es added told told
  appends_none added = record {
    keeps = keeps_none told;
    gone = refl;
    syncs = omega arith;
    stops = none_passed told (λ image out. WithOrWithout header es added image × (out ≡ told.now.gone)) (left_alone added);
  }

-- how it went may be said otherwise
pub flushes_as : {T E U F : Type 0} (header : Header) (es staged : List Entry) (r : Result T E) (q : Result U F) (old new : Told) → is_ok r ≡ is_ok q → Flushes header es staged r old new → Flushes header es staged q old new
flushes_as {T} {E} {U} {F} header es staged (Ok x) (Ok y) old new same f = record { appends = f.appends; made = f.made; bytes = f.bytes; rests = f.rests; unfailed = f.unfailed }
flushes_as {T} {E} {U} {F} header es staged (Ok x) (Err e) old new same f = absurd (apart same)
  where
    apart : (let r : Result T E = Ok x in is_ok r) ≡ (let q : Result U F = Err e in is_ok q) → ⊥
    apart e = cc
flushes_as {T} {E} {U} {F} header es staged (Err d) (Ok y) old new same f = absurd (apart same)
  where
    apart : (let r : Result T E = Err d in is_ok r) ≡ (let q : Result U F = Ok y in is_ok q) → ⊥
    apart e = cc
flushes_as {T} {E} {U} {F} header es staged (Err d) (Err e) old new same f = record { appends = f.appends; made = f.made; bytes = tt; rests = tt; unfailed = tt }

-- of the same journal
pub flushes_of : {T E : Type 0} (one other : Header) (es fs xs ys : List Entry) (r : Result T E) (old new : Told) → one ≡ other → es ≡ fs → xs ≡ ys → Flushes one es xs r old new → Flushes other fs ys r old new
flushes_of one other es fs xs ys r old new p q s f =
    subst (λ (h : Header). Flushes h fs ys r old new) p (subst (λ (l : List Entry). Flushes one l ys r old new) q (subst (λ (l : List Entry). Flushes one es l r old new) s f))
