-- Bytes put behind a closed gate, and the gate opened.
use Rattle.std.proofs.Common.{◌≡◌, inl, inr, ℕ, ◌+◌, List, [], ◌∷◌, ◌∙◌, ap, subst, arith, Result, Ok, Err, OnOk, is_ok}
use Rattle.dsd_station.specs.declared.failed.Failed.{Failed}
use Rattle.dsd_station.specs.Disk.{overwritten, Torn}
use Rattle.dsd_station.specs.Puts.{Puts}
use Rattle.dsd_station.specs.Rows.{put_calls}
use Rattle.dsd_station.specs.Stops.{then, weaken}
use Rattle.dsd_station.specs.Told.{Told, IsSynced}
use Rattle.dsd_station.proofs.Making.{goes_made, makes_stop, makes_then}
use Rattle.dsd_journal.specs.Devices.{KeepsTalk}
use Rattle.dsd_journal.specs.JournalImage.{open_gate}
use Rattle.dsd_journal.specs.Steps.{TornInTwo, Opened}
use Rattle.dsd_journal.proofs.Looking.{keeps_then}

puts_keeps : (at : ℕ) (bytes : List ℕ) (r : Result (Unit {0}) Failed) (a b : Told) → Puts at bytes r a b → KeepsTalk a b
puts_keeps at bytes r a b p = record { journal_name = p.journal_name; port_name = p.port_name; heard = p.heard; plan = p.plan; syncs = p.syncs.0; goes = goes_made (put_calls at bytes) (is_ok r) a b p.made }

on_ok : {T E : Type 0} (X Y : Type 0) (r : Result T E) → (X → Y) → OnOk r X → OnOk r Y
on_ok X Y (Ok v) f x = f x
on_ok X Y (Err e) f x = tt

module _ (gate : ℕ) (bytes : List ℕ) (a : Told) where
  abbrev pub Left : List ℕ → List ℕ → Type 0
  Left image out = TornInTwo gate bytes a.journal image × (out ≡ a.now.gone)

  pub opened_one : (failed : Failed) (b : Told) → Puts (gate + 1) bytes (Err failed) a b → Opened gate bytes (Err failed) a b
  opened_one failed b p = record {
    keeps = puts_keeps (gate + 1) bytes (Err failed) a b p;
    gone = p.gone;
    made = makes_stop (put_calls (gate + 1) bytes) (put_calls gate (open_gate ∷ [])) a b p.made;
    syncs = omega (arith, p.syncs.1);
    stops = weaken Left p.stops (λ image out k. (inl k.0, k.1));
    ok = tt;
  }

  pub opened_two : (done : Unit {0}) (r : Result (Unit {0}) Failed) (b c : Told) → Puts (gate + 1) bytes (Ok done) a b → Puts gate (open_gate ∷ []) r b c → Opened gate bytes r a c
  opened_two done r b c p q = record {
    keeps = keeps_then a b c (puts_keeps (gate + 1) bytes (Ok done) a b p) (puts_keeps gate (open_gate ∷ []) r b c q);
    gone = q.gone ∙ p.gone;
    made = makes_then (put_calls (gate + 1) bytes) (put_calls gate (open_gate ∷ [])) (is_ok r) a b c p.made q.made;
    syncs = omega (arith, p.syncs.1, q.syncs.1);
    stops = then (weaken Left p.stops (λ image out k. (inl k.0, k.1))) (weaken Left q.stops (λ image out k. (inr (subst (λ (j : List ℕ). Torn gate 1 j image) p.ok.0 k.0), k.1 ∙ p.gone)));
    ok = on_ok ((c.journal ≡ overwritten b.journal gate (open_gate ∷ [])) × IsSynced c) ((c.journal ≡ overwritten (overwritten a.journal (gate + 1) bytes) gate (open_gate ∷ [])) × IsSynced c) r
        (λ x. (x.0 ∙ ap (λ (j : List ℕ). overwritten j gate (open_gate ∷ [])) p.ok.0, x.1)) q.ok;
  }
