-- A write and a sync, as calls of a journal.
use Rattle.std.proofs.Common.{◌≡◌, ◌⊎◌, inl, inr, ℕ, List, [], ◌∷◌, true, false, ap, arith, Result, Ok, Err, is_ok}
use Rattle.dsd_station.specs.declared.failed.Failed.{Failed}
use Rattle.dsd_station.specs.declared.call.Call.{Call}
use Rattle.dsd_station.specs.declared.call.Call.TheVariants.{Sync, Write}
use Rattle.dsd_station.specs.declared.call.Outcome.{Outcome}
use Rattle.dsd_station.specs.Effects.{written, Passes, Stays, Syncs, Writes}
use Rattle.dsd_station.specs.Rows.{Makes}
use Rattle.dsd_station.specs.Told.{Told, Moment}
use Rattle.dsd_station.proofs.Making.{goes_made, makes_one}
use Rattle.dsd_journal.specs.Devices.{KeepsTalk}

abbrev pub writing : ℕ → List ℕ → Outcome → Call
writing at bytes outcome = Write at bytes outcome

abbrev pub syncing : Outcome → Call
syncing outcome = Sync outcome

pub write_gone : (at : ℕ) (bytes : List ℕ) (old new : Told) → Passes old new [] (written old.now at bytes) ⊎ (Stays old new × (new.journal ≡ old.journal)) → new.now.gone ≡ old.now.gone
write_gone at bytes old new (inl passes) = ap (λ (m : Moment). m.gone) passes.now
write_gone at bytes old new (inr stays) = ap (λ (m : Moment). m.gone) stays.0.now

pub write_keeps : (at : ℕ) (bytes : List ℕ) (r : Result (Unit {0}) Failed) (old new : Told) → Writes at bytes r old new → KeepsTalk old new
write_keeps at bytes r old new w = record {
  journal_name = w.same.journal_name;
  port_name = w.same.port_name;
  heard = w.same.heard;
  plan = w.same.plan;
  syncs = omega (arith, w.same.syncs);
  goes = goes_made (writing at bytes ∷ []) (is_ok r) old new (makes_one (writing at bytes) r old new w.calls);
}

pub sync_made : (r : Result (Unit {0}) Failed) (old new : Told) → Syncs r old new → Makes (syncing ∷ []) (is_ok r) old new
sync_made r old new s = makes_one syncing r old new s.calls

pub sync_keeps : (r : Result (Unit {0}) Failed) (old new : Told) → Syncs r old new → KeepsTalk old new
sync_keeps (Ok done) old new s = record {
  journal_name = s.ok.0.journal_name;
  port_name = s.ok.0.port_name;
  heard = s.ok.0.heard;
  plan = s.ok.0.plan;
  syncs = s.count.0;
  goes = goes_made (syncing ∷ []) true old new (sync_made (Ok done) old new s);
}
sync_keeps (Err failed) old new s = record {
  journal_name = s.err.0.journal_name;
  port_name = s.err.0.port_name;
  heard = s.err.0.heard;
  plan = s.err.0.plan;
  syncs = s.count.0;
  goes = goes_made (syncing ∷ []) false old new (sync_made (Err failed) old new s);
}

pub sync_gone : (r : Result (Unit {0}) Failed) (old new : Told) → Syncs r old new → new.now.gone ≡ old.now.gone
sync_gone (Ok done) old new s = ap (λ (m : Moment). m.gone) s.ok.1.now
sync_gone (Err failed) old new s = go s.err.1
  where
    go : Passes old new [] old.now ⊎ Stays old new → new.now.gone ≡ old.now.gone
    go (inl passes) = ap (λ (m : Moment). m.gone) passes.now
    go (inr stays) = ap (λ (m : Moment). m.gone) stays.now
