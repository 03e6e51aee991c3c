-- What a call in the record does is what the trait says of the call.
use Rattle.std.proofs.Common.{◌≡◌, ◌≤◌, ◌-◌, ℕ, min, List, [], ◌∷◌, ◌++◌, length, take, drop, Bool, true, false, if◌then◌else◌, refl, sym, ap, subst, inl, inr, Result, Ok, Err, IfOk, arith, length-drop}
use Rattle.dsd_station.specs.declared.failed.Failed.{Failed}
use Rattle.dsd_station.specs.declared.station.Heard.{Heard}
use Rattle.dsd_station.specs.declared.call.Reception.{Reception}
use Rattle.dsd_station.specs.declared.call.Outcome.{Outcome}
use Rattle.dsd_station.specs.declared.call.Outcome.TheVariants.{Done, Failing, Stopped}
use Rattle.dsd_station.specs.declared.call.Call.{Call}
use Rattle.dsd_station.specs.declared.call.Call.TheVariants.{Attach, Size, Read, Write, Sync, Listen, Speak}
use Rattle.dsd_station.specs.Planned.{Plan}
use Rattle.dsd_station.specs.Told.{Told}
use Rattle.dsd_station.specs.Effects.{Same, Stays, Attaches, Reads, ReadsFront, Writes, Syncs, Listens, Speaks, answer_of, listened, heard_in}
use Rattle.dsd_station.specs.Replayed.{State, step, told_from, taken}
use Rattle.dsd_station.specs.Failures.{has_failed}
use Rattle.dsd_station.specs.Logged.{Log, Plays, told_by}
use Rattle.dsd_station.specs.Replayed.{state_of}
use Rattle.dsd_station.proofs.Overlay.{torn_overwritten, torn_same, taken_fewer}
use Rattle.dsd_station.proofs.Playing.{plays_told}

no_ok : {T : Type 0} (x : T) (r : Result T Failed) → r ≡ Ok x → r ≡ Err (record {}) → ⊥
no_ok x r ok err = cc

same_refl : (t : Told) → Same t t
same_refl t = record { journal_name = refl; port_name = refl; journal = refl; heard = refl; syncs = refl; plan = refl }

stays_refl : (t : Told) → Stays t t
stays_refl t = record { past = refl; now = refl }

-- ---- a call that did nothing, for want of memory

no_answer : (b : Bool) → b ≡ true → b ≡ false → ⊥
no_answer b fails goes = cc

reads_none : (call : Call) (t : Told) → has_failed call ≡ true → Reads call t t
reads_none call t fails = record { same = same_refl t; time = inr (stays_refl t); moves = λ goes. absurd (no_answer (has_failed call) fails goes); calls = inl refl }

attaches_none : (journal port : List ℕ) (t : Told) → Attaches journal port (Err (record {})) t t
attaches_none journal port t = record { ok = tt; err = same_refl t; time = inr (stays_refl t); moves = tt; calls = inl refl }

writes_none : (at : ℕ) (bytes : List ℕ) (t : Told) → Writes at bytes (Err (record {})) t t
writes_none at bytes t = record {
  same = record { journal_name = refl; port_name = refl; journal = refl; heard = refl; syncs = refl; plan = refl };
  ok = tt;
  torn = torn_same at (length bytes) t.journal;
  time = inr (stays_refl t, refl);
  calls = inl refl;
}

syncs_none : (t : Told) → Syncs (Err (record {})) t t
syncs_none t = record {
  ok = tt;
  err = (record { journal_name = refl; port_name = refl; journal = refl; heard = refl; syncs = refl; plan = refl }, inr (stays_refl t));
  count = (omega arith, omega arith);
  calls = inl refl;
}

listens_none : (into : List ℕ) (t : Told) → Listens into (Err (record {})) t t
listens_none into t = record { ok = tt; err = same_refl t; time = inr (stays_refl t); moves = tt; calls = inl refl }

speaks_none : (bytes : List ℕ) (t : Told) → Speaks bytes (Err (record {})) t t
speaks_none bytes t = record { same = same_refl t; ok = tt; err = inr (inr (stays_refl t)); calls = inl refl }

-- ---- a call in the record

module _ (s : State) (calls : List Call) (plan : Plan) where
  attaches_so : (journal port : List ℕ) (answer : Result (Unit {0}) Failed) → Attaches journal port answer (told_from s calls plan) (told_from (step s (Attach journal port answer)) (calls ++ Attach journal port answer ∷ []) plan)
  attaches_so journal port (Ok done) = record {
    ok = record { journal_name = refl; port_name = refl; journal = refl; heard = refl; syncs = refl; plan = refl };
    err = tt;
    time = inl (record { past = refl; now = refl });
    moves = record { past = refl; now = refl };
    calls = inr refl;
  }
  attaches_so journal port (Err failed) = record {
    ok = tt;
    err = record { journal_name = refl; port_name = refl; journal = refl; heard = refl; syncs = refl; plan = refl };
    time = inl (record { past = refl; now = refl });
    moves = tt;
    calls = inr refl;
  }

  size_so : (answer : Result ℕ Failed) → Reads (Size answer) (told_from s calls plan) (told_from (step s (Size answer)) (calls ++ Size answer ∷ []) plan)
  size_so answer = record { same = record { journal_name = refl; port_name = refl; journal = refl; heard = refl; syncs = refl; plan = refl }; time = inl (record { past = refl; now = refl }); moves = λ goes. record { past = refl; now = refl }; calls = inr refl }

  read_so : (at room : ℕ) (answer : Result ℕ Failed) → Reads (Read at room answer) (told_from s calls plan) (told_from (step s (Read at room answer)) (calls ++ Read at room answer ∷ []) plan)
  read_so at room answer = record { same = record { journal_name = refl; port_name = refl; journal = refl; heard = refl; syncs = refl; plan = refl }; time = inl (record { past = refl; now = refl }); moves = λ goes. record { past = refl; now = refl }; calls = inr refl }

  writes_so : (at : ℕ) (bytes : List ℕ) (outcome : Outcome) → at ≤ length s.journal
      → Writes at bytes (answer_of outcome) (told_from s calls plan) (told_from (step s (Write at bytes outcome)) (calls ++ Write at bytes outcome ∷ []) plan)
  writes_so at bytes Done within = record {
    same = record { journal_name = refl; port_name = refl; journal = refl; heard = refl; syncs = refl; plan = refl };
    ok = (refl, record { past = refl; now = refl });
    torn = torn_overwritten at bytes s.journal within;
    time = inl (record { past = refl; now = refl });
    calls = inr (Done, refl, refl);
  }
  writes_so at bytes Failing within = record {
    same = record { journal_name = refl; port_name = refl; journal = refl; heard = refl; syncs = refl; plan = refl };
    ok = tt;
    torn = torn_same at (length bytes) s.journal;
    time = inl (record { past = refl; now = refl });
    calls = inr (Failing, refl, refl);
  }
  writes_so at bytes (Stopped pick) within = record {
    same = record { journal_name = refl; port_name = refl; journal = refl; heard = refl; syncs = refl; plan = refl };
    ok = tt;
    torn = torn_same at (length bytes) s.journal;
    time = inl (record { past = refl; now = refl });
    calls = inr (Stopped pick, refl, refl);
  }

  syncs_so : (outcome : Outcome) → Syncs (answer_of outcome) (told_from s calls plan) (told_from (step s (Sync outcome)) (calls ++ Sync outcome ∷ []) plan)
  syncs_so Done = record {
    ok = (record { journal_name = refl; port_name = refl; journal = refl; heard = refl; syncs = refl; plan = refl }, record { past = refl; now = refl });
    err = tt;
    count = (omega arith, omega arith);
    calls = inr (Done, refl, refl);
  }
  syncs_so Failing = record {
    ok = tt;
    err = (record { journal_name = refl; port_name = refl; journal = refl; heard = refl; syncs = refl; plan = refl }, inl (record { past = refl; now = refl }));
    count = (omega arith, omega arith);
    calls = inr (Failing, refl, refl);
  }
  syncs_so (Stopped pick) = record {
    ok = tt;
    err = (record { journal_name = refl; port_name = refl; journal = refl; heard = refl; syncs = refl; plan = refl }, inl (record { past = refl; now = refl }));
    count = (omega arith, omega arith);
    calls = inr (Stopped pick, refl, refl);
  }

  listens_so : (into : List ℕ) (result : Result Heard Failed)
      → Listens into result (told_from s calls plan) (told_from (step s (Listen (listened into result))) (calls ++ Listen (listened into result) ∷ []) plan)
  listens_so into (Ok heard) = record {
    ok = record { journal_name = refl; port_name = refl; journal = refl; heard = refl; syncs = refl; plan = refl };
    err = tt;
    time = inl (record { past = refl; now = refl });
    moves = record { past = refl; now = refl };
    calls = inr refl;
  }
  listens_so into (Err failed) = record {
    ok = tt;
    err = record { journal_name = refl; port_name = refl; journal = refl; heard = refl; syncs = refl; plan = refl };
    time = inl (record { past = refl; now = refl });
    moves = tt;
    calls = inr refl;
  }

  speaks_so : (bytes : List ℕ) (outcome : Outcome) → Speaks bytes (answer_of outcome) (told_from s calls plan) (told_from (step s (Speak bytes outcome)) (calls ++ Speak bytes outcome ∷ []) plan)
  speaks_so bytes Done = record {
    same = record { journal_name = refl; port_name = refl; journal = refl; heard = refl; syncs = refl; plan = refl };
    ok = record { past = refl; now = refl };
    err = tt;
    calls = inr (Done, refl, refl);
  }
  speaks_so bytes Failing = record {
    same = record { journal_name = refl; port_name = refl; journal = refl; heard = refl; syncs = refl; plan = refl };
    ok = tt;
    err = inr (inl (record { past = refl; now = refl }));
    calls = inr (Failing, refl, refl);
  }
  speaks_so bytes (Stopped pick) = record {
    same = record { journal_name = refl; port_name = refl; journal = refl; heard = refl; syncs = refl; plan = refl };
    ok = tt;
    err = inl (taken pick (length bytes), taken_fewer pick (length bytes), record { past = refl; now = refl });
    calls = inr (Stopped pick, refl, refl);
  }

-- ---- over whole stations in memory

module _ (old new : Log) where
  pub attaches_told : (journal port : List ℕ) (answer result : Result (Unit {0}) Failed) → Plays (Attach journal port answer) answer result old new → Attaches journal port result (told_by old) (told_by new)
  attaches_told journal port answer result plays =
      plays_told (λ r t. Attaches journal port r (told_by old) t) (Attach journal port answer) answer result old new plays (attaches_so (state_of old.calls) old.calls old.plan journal port answer) (attaches_none journal port (told_by old))

  pub writes_told : (at : ℕ) (bytes : List ℕ) (outcome : Outcome) (result : Result (Unit {0}) Failed) → at ≤ length (state_of old.calls).journal → Plays (Write at bytes outcome) (answer_of outcome) result old new → Writes at bytes result (told_by old) (told_by new)
  writes_told at bytes outcome result within plays =
      plays_told (λ r t. Writes at bytes r (told_by old) t) (Write at bytes outcome) (answer_of outcome) result old new plays (writes_so (state_of old.calls) old.calls old.plan at bytes outcome within) (writes_none at bytes (told_by old))

  pub syncs_told : (outcome : Outcome) (result : Result (Unit {0}) Failed) → Plays (Sync outcome) (answer_of outcome) result old new → Syncs result (told_by old) (told_by new)
  syncs_told outcome result plays =
      plays_told (λ r t. Syncs r (told_by old) t) (Sync outcome) (answer_of outcome) result old new plays (syncs_so (state_of old.calls) old.calls old.plan outcome) (syncs_none (told_by old))

  pub speaks_told : (bytes : List ℕ) (outcome : Outcome) (result : Result (Unit {0}) Failed) → Plays (Speak bytes outcome) (answer_of outcome) result old new → Speaks bytes result (told_by old) (told_by new)
  speaks_told bytes outcome result plays =
      plays_told (λ r t. Speaks bytes r (told_by old) t) (Speak bytes outcome) (answer_of outcome) result old new plays (speaks_so (state_of old.calls) old.calls old.plan bytes outcome) (speaks_none bytes (told_by old))

  pub size_told : (answer result : Result ℕ Failed) → Plays (Size answer) answer result old new → Reads (Size result) (told_by old) (told_by new)
  size_told answer result plays =
      plays_told (λ r t. Reads (Size r) (told_by old) t) (Size answer) answer result old new plays (size_so (state_of old.calls) old.calls old.plan answer) (reads_none (Size (Err (record {}))) (told_by old) refl)

  pub read_told : (at room : ℕ) (answer result : Result ℕ Failed) → Plays (Read at room answer) answer result old new → Reads (Read at room result) (told_by old) (told_by new)
  read_told at room answer result plays =
      plays_told (λ r t. Reads (Read at room r) (told_by old) t) (Read at room answer) answer result old new plays (read_so (state_of old.calls) old.calls old.plan at room answer) (reads_none (Read at room (Err (record {}))) (told_by old) refl)

  pub listens_told : (into : List ℕ) (answer : Result Reception Failed) (result : Result Heard Failed) → Plays (Listen answer) answer (listened into result) old new → Listens into result (told_by old) (told_by new)
  listens_told into answer result plays =
      plays_told (λ r t. r ≡ listened into result → Listens into result (told_by old) t) (Listen answer) answer (listened into result) old new plays (done answer) (none result) refl
    where
      done : (a : Result Reception Failed) → a ≡ listened into result → Listens into result (told_by old) (told_from (step (state_of old.calls) (Listen a)) (old.calls ++ Listen a ∷ []) old.plan)
      done a is =
          subst (λ b. Listens into result (told_by old) (told_from (step (state_of old.calls) (Listen b)) (old.calls ++ Listen b ∷ []) old.plan)) (sym is)
          (listens_so (state_of old.calls) old.calls old.plan into result)

      none : (r : Result Heard Failed) → Err (record {}) ≡ listened into r → Listens into r (told_by old) (told_by old)
      none (Ok heard) is = absurd (no_ok (heard_in into heard) (Ok (heard_in into heard)) refl (sym is))
      none (Err failed) is = record { ok = tt; err = same_refl (told_by old); time = inr (stays_refl (told_by old)); moves = tt; calls = inl refl }

answer_at : {T : Type 0} (b : Bool) (v : T) (r : Result T Failed) → r ≡ (if b then Err (record {}) else Ok v) → IfOk r (λ x. x ≡ v)
answer_at true v (Ok x) is = absurd (no_ok x (Ok x) refl is)
answer_at true v (Err e) is = tt
answer_at false v (Ok x) is = cc
answer_at false v (Err e) is = tt

-- an answer is the right one, unless the station has stopped
pub plays_answer : {T : Type 0} (c : Call) (b : Bool) (v : T) (result : Result T Failed) (old new : Log) → Plays c (if b then Err (record {}) else Ok v) result old new → IfOk result (λ x. x ≡ v)
plays_answer c b v result old new (inl (is, so)) = answer_at b v result so
plays_answer c b v result old new (inr (is, so)) = answer_at true v result so

-- a `listen` that failed
pub refuses_told : (into : List ℕ) (result : Result Heard Failed) (old new : Log) → Plays {T = Heard} (Listen (Err (record {}))) (Err (record {})) result old new → Listens into result (told_by old) (told_by new)
refuses_told into result old new (inl (is, so)) = subst (λ r. Listens into r (told_by old) (told_by new)) (sym so) (listens_told old new into (Err (record {})) (Err (record {})) (inl (is, refl)))
refuses_told into result old new (inr (is, so)) = subst (λ r. Listens into r (told_by old) (told_by new)) (sym so) (listens_told old new into (Err (record {})) (Err (record {})) (inr (is, refl)))

-- a read leaves the journal
pub read_keeps : (at room : ℕ) (answer result : Result ℕ Failed) (old new : Log) → Plays (Read at room answer) answer result old new → (state_of new.calls).journal ≡ (state_of old.calls).journal
read_keeps at room answer result old new plays = (read_told old new at room answer result plays).same.journal

-- the bytes that a read gives stand at the front of the buffer
pub reads_front : (at n : ℕ) (journal bytes into : List ℕ) → n ≡ min (length into) (length journal - at) → bytes ≡ take n (drop at journal) → ReadsFront at n journal into (bytes ++ drop n into)
reads_front at n journal bytes into count is = record {
  front = ap (λ (l : List ℕ). l ++ drop n into) is;
  within = omega (arith, count, length-drop at journal);
  some = λ below room. omega (arith, count, below, room);
}
