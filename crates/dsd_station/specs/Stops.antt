-- What is said of each stop within calls in a row, and of each stop since a moment.
use Rattle.std.specs.Prelude.{ℕ, suc, ◌≤◌, ◌≡◌, ◌⊎◌, List, [], ◌∷◌, ◌++◌, length, take, drop, map, Result, Ok, Err, refl}
use Rattle.std.proofs.Common.{sym, ◌∙◌, ap, subst, inl, inr, append_assoc, arith}
use Rattle.std.proofs.lemmas.List.{append-nil, drop_at, take_all}
use Rattle.dsd_station.specs.declared.failed.Failed.{Failed}
use Rattle.dsd_station.specs.declared.station.Heard.{Heard}
use Rattle.dsd_station.specs.declared.call.Call.{Call}
use Rattle.dsd_station.specs.Told.{Told, Moment, LeavesIn, Leaves, Allows, EachAllows, EachStop, clock}
use Rattle.dsd_station.specs.Effects.{Passes, Stays, Reads, Attaches, Listens, Writes, Syncs, Speaks, written, synced, sent, prefixes, sending}

pub each_append : (xs ys : List Moment) (P : List ℕ → List ℕ → Type 0) → EachAllows xs P → EachAllows ys P → EachAllows (xs ++ ys) P
each_append [] ys P a b = b
each_append (x ∷ xs) ys P a b = (a.0, each_append xs ys P a.1 b)

pub each_weaken : (xs : List Moment) (P Q : List ℕ → List ℕ → Type 0) → ((image out : List ℕ) → P image out → Q image out) → EachAllows xs P → EachAllows xs Q
each_weaken [] P Q f a = tt
each_weaken (x ∷ xs) P Q f a = (λ image out left. f image out (a.0 image out left), each_weaken xs P Q f a.1)

-- nothing happened
pub none_passed : (told : Told) (P : List ℕ → List ℕ → Type 0) → Allows told.now P → EachStop told told P
none_passed told P here = record { during = []; past = sym (append-nil told.past); each = tt; now = here }

pub weaken : {old new : Told} {P : List ℕ → List ℕ → Type 0} (Q : List ℕ → List ℕ → Type 0) → EachStop old new P → ((image out : List ℕ) → P image out → Q image out) → EachStop old new Q
weaken {old} {new} {P} Q stops f = record { during = stops.during; past = stops.past; each = each_weaken stops.during P Q f stops.each; now = λ image out left. f image out (stops.now image out left) }

-- one after the other
pub then : {a b c : Told} {P : List ℕ → List ℕ → Type 0} → EachStop a b P → EachStop b c P → EachStop a c P
then {a} {b} {c} {P} x y = record {
  during = x.during ++ y.during;
  past = y.past ∙ ap (λ (l : List Moment). l ++ y.during) x.past ∙ append_assoc a.past x.during y.during;
  each = each_append x.during y.during P x.each y.each;
  now = y.now;
}

left_in : (xs : List Moment) (P : List ℕ → List ℕ → Type 0) (image out : List ℕ) → EachAllows xs P → LeavesIn xs image out → P image out
left_in [] P image out a left = absurd left
left_in (x ∷ xs) P image out a (inl here) = a.0 image out here
left_in (x ∷ xs) P image out a (inr there) = left_in xs P image out a.1 there

-- what is said of each stop, by the clock: of each pair that a stop at a moment since the old one may leave
pub each_left : {old new : Told} {P : List ℕ → List ℕ → Type 0} → EachStop old new P → (image out : List ℕ) → Leaves new (clock old) image out → P image out
each_left {old} {new} {P} stops image out (inr now) = stops.now image out now
each_left {old} {new} {P} stops image out (inl left) =
    left_in stops.during P image out stops.each (subst (λ l. LeavesIn l image out) (ap (λ (l : List Moment). drop (length old.past) l) stops.past ∙ drop_at old.past stops.during (length old.past) refl) left)

-- ---- the stops within one call

-- the clock moved on through these moments, or it stood
pub passed : (old new : Told) (during : List Moment) (last : Moment) (P : List ℕ → List ℕ → Type 0) → Passes old new during last → Allows old.now P → EachAllows during P → Allows last P → EachStop old new P
passed old new during last P passes here each there = record { during = old.now ∷ during; past = passes.past; each = (here, each); now = subst (λ m. Allows m P) (sym passes.now) there }

pub stayed : (old new : Told) (P : List ℕ → List ℕ → Type 0) → Stays old new → Allows old.now P → EachStop old new P
stayed old new P stays here = record { during = []; past = stays.past ∙ sym (append-nil old.past); each = tt; now = subst (λ m. Allows m P) (sym stays.now) here }

at_rest : (old new : Told) (P : List ℕ → List ℕ → Type 0) → Passes old new [] old.now ⊎ Stays old new → Allows old.now P → EachStop old new P
at_rest old new P (inl passes) here = passed old new [] old.now P passes here tt here
at_rest old new P (inr stays) here = stayed old new P stays here

pub attaches_stops : (journal port : List ℕ) (result : Result (Unit {0}) Failed) (old new : Told) (P : List ℕ → List ℕ → Type 0) → Attaches journal port result old new → Allows old.now P → EachStop old new P
attaches_stops journal port result old new P call here = at_rest old new P call.time here

pub reads_stops : (what : Call) (old new : Told) (P : List ℕ → List ℕ → Type 0) → Reads what old new → Allows old.now P → EachStop old new P
reads_stops what old new P call here = at_rest old new P call.time here

pub listens_stops : (into : List ℕ) (result : Result Heard Failed) (old new : Told) (P : List ℕ → List ℕ → Type 0) → Listens into result old new → Allows old.now P → EachStop old new P
listens_stops into result old new P call here = at_rest old new P call.time here

-- A stop within a write leaves what one before it may leave, or what one just behind it may.
pub writes_stops : (at : ℕ) (bytes : List ℕ) (result : Result (Unit {0}) Failed) (old new : Told) (P : List ℕ → List ℕ → Type 0) → Writes at bytes result old new
    → Allows old.now P → Allows (written old.now at bytes) P → EachStop old new P
writes_stops at bytes result old new P call here there = go call.time
  where
    go : Passes old new [] (written old.now at bytes) ⊎ (Stays old new × (new.journal ≡ old.journal)) → EachStop old new P
    go (inl passes) = passed old new [] (written old.now at bytes) P passes here tt there
    go (inr stays) = stayed old new P stays.0 here

pub syncs_stops : (result : Result (Unit {0}) Failed) (old new : Told) (P : List ℕ → List ℕ → Type 0) → Syncs result old new → Allows old.now P → Allows (synced old.now old.journal) P → EachStop old new P
syncs_stops (Ok done) old new P call here there = passed old new [] (synced old.now old.journal) P call.ok.1 here tt there
syncs_stops (Err failed) old new P call here there = at_rest old new P call.err.1 here

map_twice : (g : List ℕ → Moment) (h : List ℕ → List ℕ) (l : List (List ℕ)) → map g (map h l) ≡ map (λ (p : List ℕ). g (h p)) l
map_twice g h [] = refl
map_twice g h (x ∷ l) = ap (λ (t : List Moment). g (h x) ∷ t) (map_twice g h l)

each_prefix : (g : List ℕ → Moment) (P : List ℕ → List ℕ → Type 0) (bytes : List ℕ) → ((n : ℕ) → Allows (g (take n bytes)) P) → EachAllows (map g (prefixes bytes)) P
each_prefix g P [] all = (all 0, tt)
each_prefix g P (x ∷ bytes) all =
    (all 0, subst (λ l. EachAllows l P) (sym (map_twice g (λ (p : List ℕ). x ∷ p) (prefixes bytes))) (each_prefix (λ (p : List ℕ). g (x ∷ p)) P bytes (λ n. all (suc n))))

-- of a `speak`, where P holds whatever first part of the bytes has gone out
pub speaks_stops : (bytes : List ℕ) (result : Result (Unit {0}) Failed) (old new : Told) (P : List ℕ → List ℕ → Type 0) → Speaks bytes result old new
    → Allows old.now P → ((n : ℕ) → Allows (sent old.now (take n bytes)) P) → EachStop old new P
speaks_stops bytes (Ok done) old new P call here all =
    passed old new (sending old.now bytes) (sent old.now bytes) P call.ok here (each_prefix (sent old.now) P bytes all)
    (subst (λ l. Allows (sent old.now l) P) (take_all (length bytes) bytes (omega arith)) (all (length bytes)))
speaks_stops bytes (Err failed) old new P call here all = go call.err
  where
    go : ((n : ℕ) × (n ≤ length bytes) × Passes old new (sending old.now bytes) (sent old.now (take n bytes))) ⊎ (Passes old new [] old.now ⊎ Stays old new) → EachStop old new P
    go (inl some) = passed old new (sending old.now bytes) (sent old.now (take some.0 bytes)) P some.2 here (each_prefix (sent old.now) P bytes all) (all some.0)
    go (inr rest) = at_rest old new P rest here
