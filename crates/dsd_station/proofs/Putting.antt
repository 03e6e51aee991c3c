-- A write and a sync behind it.
use Rattle.std.proofs.Common.{◌≡◌, ℕ, List, [], ◌∷◌, ◌++◌, length, sym, ◌∙◌, ap, subst, Result, Ok, Err, is_ok, arith, inl, inr, ◌⊎◌}
use Rattle.dsd_station.specs.declared.failed.Failed.{Failed}
use Rattle.dsd_station.specs.declared.call.Call.{Call}
use Rattle.dsd_station.specs.declared.call.Outcome.{Outcome}
use Rattle.dsd_station.specs.declared.call.Call.TheVariants.{Write, Sync}
use Rattle.dsd_station.specs.Disk.{Torn, MayLeave}
use Rattle.dsd_station.specs.Told.{Told, Moment, Allows, EachStop, IsSynced}
use Rattle.dsd_station.specs.Effects.{Passes, Stays, Writes, Syncs, written, synced}
use Rattle.dsd_station.specs.Stops.{then, writes_stops, syncs_stops}
use Rattle.dsd_station.specs.Puts.{Puts}
use Rattle.dsd_station.specs.Rows.{Makes, put_calls}
use Rattle.dsd_station.proofs.Making.{makes_one, makes_stop, makes_then}
use Rattle.dsd_station.proofs.Overlay.{torn_same}

sync_gone : (old new : Told) → Passes old new [] old.now ⊎ Stays old new → new.now.gone ≡ old.now.gone
sync_gone old new (inl passes) = ap (λ (m : Moment). m.gone) passes.now
sync_gone old new (inr stays) = ap (λ (m : Moment). m.gone) stays.now

module _ (at : ℕ) (bytes : List ℕ) (old : Told) (sure : IsSynced old) where
  abbrev pub Kept : List ℕ → List ℕ → Type 0
  Kept image out = Torn at (length bytes) old.journal image × (out ≡ old.now.gone)

  -- a stop before the write
  before : Allows old.now Kept
  before image out left = (
    subst (λ l. Torn at (length bytes) old.journal l) (sym (subst (λ w. MayLeave old.now.sure w image) sure.writes left.image_of ∙ sure.sure)) (torn_same at (length bytes) old.journal),
    left.gone_of,
  )

  -- a stop behind the write
  behind : Allows (written old.now at bytes) Kept
  behind image out left =
      let one = subst (λ w. MayLeave old.now.sure (w ++ (at, bytes) ∷ []) image) sure.writes left.image_of in (
        subst (λ l. Torn at (length bytes) old.journal l) (sym one.2) (subst (λ l. Torn at (length bytes) l one.0) sure.sure one.1),
        left.gone_of,
      )

  abbrev writing : Outcome → Call
  writing outcome = Write at bytes outcome

  abbrev syncing : Outcome → Call
  syncing outcome = Sync outcome

  write_gone : (new : Told) → Passes old new [] (written old.now at bytes) ⊎ (Stays old new × (new.journal ≡ old.journal)) → new.now.gone ≡ old.now.gone
  write_gone new (inl passes) = ap (λ (m : Moment). m.gone) passes.now
  write_gone new (inr stays) = ap (λ (m : Moment). m.gone) stays.0.now

  -- the write failed
  pub puts_failed : (failed : Failed) (new : Told) → Writes at bytes (Err failed) old new → Puts at bytes (Err failed) old new
  puts_failed failed new wrote = record {
    journal_name = wrote.same.journal_name;
    port_name = wrote.same.port_name;
    heard = wrote.same.heard;
    gone = write_gone new wrote.time;
    plan = wrote.same.plan;
    syncs = (omega (arith, wrote.same.syncs), omega (arith, wrote.same.syncs));
    made = makes_stop (writing ∷ []) (syncing ∷ []) old new (makes_one writing (Err failed) old new wrote.calls);
    stops = writes_stops at bytes (Err failed) old new Kept wrote before behind;
    ok = tt;
  }

  -- the write went well, and the sync may have
  module _ (done : Unit {0}) (mid : Told) (wrote : Writes at bytes (Ok done) old mid) where
    at_mid : Allows mid.now Kept
    at_mid = subst (λ m. Allows m Kept) (sym wrote.ok.1.now) behind

    mid_gone : mid.now.gone ≡ old.now.gone
    mid_gone = ap (λ (m : Moment). m.gone) wrote.ok.1.now

    after_sync : Allows (synced mid.now mid.journal) Kept
    after_sync image out left = (subst (λ l. Torn at (length bytes) old.journal l) (sym left.image_of) wrote.torn, left.gone_of ∙ mid_gone)

    stops_both : (result : Result (Unit {0}) Failed) (new : Told) → Syncs result mid new → EachStop old new Kept
    stops_both result new sync = then (writes_stops at bytes (Ok done) old mid Kept wrote before behind) (syncs_stops result mid new Kept sync at_mid after_sync)

    made_both : (result : Result (Unit {0}) Failed) (new : Told) → Syncs result mid new → Makes (put_calls at bytes) (is_ok result) old new
    made_both result new sync = makes_then (writing ∷ []) (syncing ∷ []) (is_ok result) old mid new (makes_one writing (Ok done) old mid wrote.calls) (makes_one syncing result mid new sync.calls)

    pub puts_done : (result : Result (Unit {0}) Failed) (new : Told) → Syncs result mid new → Puts at bytes result old new
    puts_done (Ok ended) new sync = record {
      journal_name = sync.ok.0.journal_name ∙ wrote.same.journal_name;
      port_name = sync.ok.0.port_name ∙ wrote.same.port_name;
      heard = sync.ok.0.heard ∙ wrote.same.heard;
      gone = ap (λ (m : Moment). m.gone) sync.ok.1.now ∙ mid_gone;
      plan = sync.ok.0.plan ∙ wrote.same.plan;
      syncs = (omega (arith, wrote.same.syncs, sync.count.0), omega (arith, wrote.same.syncs, sync.count.1));
      made = made_both (Ok ended) new sync;
      stops = stops_both (Ok ended) new sync;
      ok = (
        sync.ok.0.journal ∙ wrote.ok.0,
        record { sure = ap (λ (m : Moment). m.sure) sync.ok.1.now ∙ sym sync.ok.0.journal; writes = ap (λ (m : Moment). m.writes) sync.ok.1.now },
      );
    }
    puts_done (Err failed) new sync = record {
      journal_name = sync.err.0.journal_name ∙ wrote.same.journal_name;
      port_name = sync.err.0.port_name ∙ wrote.same.port_name;
      heard = sync.err.0.heard ∙ wrote.same.heard;
      gone = sync_gone mid new sync.err.1 ∙ mid_gone;
      plan = sync.err.0.plan ∙ wrote.same.plan;
      syncs = (omega (arith, wrote.same.syncs, sync.count.0), omega (arith, wrote.same.syncs, sync.count.1));
      made = made_both (Err failed) new sync;
      stops = stops_both (Err failed) new sync;
      ok = tt;
    }
