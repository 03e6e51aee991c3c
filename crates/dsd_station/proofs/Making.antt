-- The record of calls in a row.
use Rattle.std.proofs.Common.{◌≡◌, inl, inr, ℕ, ◌+◌, Bool, true, false, if◌then◌else◌, List, [], ◌∷◌, ◌++◌, refl, sym, ◌∙◌, ap, subst, append-nil, append_assoc, Result, Ok, Err, is_ok}
use Rattle.dsd_station.specs.declared.failed.Failed.{Failed}
use Rattle.dsd_station.specs.declared.call.Outcome.{Outcome}
use Rattle.dsd_station.specs.declared.call.Outcome.TheVariants.{Done, Failing, Stopped}
use Rattle.dsd_station.specs.declared.call.Call.{Call}
use Rattle.dsd_station.specs.Effects.{AddsAs, answer_of}
use Rattle.dsd_station.specs.Failures.{failed_in, has_failed}
use Rattle.dsd_station.specs.Puts.{Goes}
use Rattle.dsd_station.specs.Rows.{IsKept, IsRow, Makes}
use Rattle.dsd_station.specs.Told.{Told}

differ : {T : Type 0} → true ≡ false → T
differ e = absurd (not_both e)
  where
    not_both : true ≡ false → ⊥
    not_both e = cc

-- ---- one call

pub makes_one : (call : Outcome → Call) (result : Result (Unit {0}) Failed) (old new : Told) → AddsAs call result old new → Makes (call ∷ []) (is_ok result) old new
makes_one call (Ok done) old new (inl same) = record { kept = []; adds = same ∙ sym (append-nil old.calls); row = inl ([], inr refl, (refl, refl)) }
makes_one call (Ok done) old new (inr one) = go one.0 one.1 one.2
  where
    went : (failed : Failed) → (let r : Result (Unit {0}) Failed = Ok done in r) ≡ Err failed → ⊥
    went failed is = cc

    go : (outcome : Outcome) → Ok done ≡ answer_of outcome → new.calls ≡ old.calls ++ call outcome ∷ [] → Makes (call ∷ []) true old new
    go Done is calls = record { kept = call Done ∷ []; adds = calls; row = inl ([], inl refl, (refl, refl)) }
    go Failing is calls = absurd (went (record {}) is)
    go (Stopped pick) is calls = absurd (went (record {}) is)
makes_one call (Err failed) old new (inl same) = record { kept = []; adds = same ∙ sym (append-nil old.calls); row = inr (Failing, refl, refl, inr refl) }
makes_one call (Err failed) old new (inr one) = go one.0 one.1 one.2
  where
    failed_so : (done : Unit {0}) → (let r : Result (Unit {0}) Failed = Err failed in r) ≡ Ok done → ⊥
    failed_so done is = cc

    go : (outcome : Outcome) → Err failed ≡ answer_of outcome → new.calls ≡ old.calls ++ call outcome ∷ [] → Makes (call ∷ []) false old new
    go Done is calls = absurd (failed_so tt is)
    go Failing is calls = record { kept = call Failing ∷ []; adds = calls; row = inr (Failing, refl, refl, inl refl) }
    go (Stopped pick) is calls = record { kept = call (Stopped pick) ∷ []; adds = calls; row = inr (Stopped pick, refl, refl, inl refl) }

-- ---- one after the other

pub row_then : (xs ys : List (Outcome → Call)) (went : Bool) (k l : List Call) → IsRow xs true k → IsRow ys went l → IsRow (xs ++ ys) went (k ++ l)
row_then [] ys went k l p q = subst (λ (m : List Call). IsRow ys went (m ++ l)) (sym p.1) q
row_then (x ∷ xs) ys went k l (inl p) q = inl (p.0 ++ l, kept p.1, row_then xs ys went p.0 l p.2 q)
  where
    kept : IsKept (x Done) k p.0 → IsKept (x Done) (k ++ l) (p.0 ++ l)
    kept (inl e) = inl (ap (λ (m : List Call). m ++ l) e)
    kept (inr e) = inr (ap (λ (m : List Call). m ++ l) e)
row_then (x ∷ xs) ys went k l (inr p) q = differ p.1

-- the first calls failed, and so none behind them is made
pub row_stop : (xs ys : List (Outcome → Call)) (k : List Call) → IsRow xs false k → IsRow (xs ++ ys) false k
row_stop [] ys k p = differ (sym p.0)
row_stop (x ∷ xs) ys k (inl p) = inl (p.0, p.1, row_stop xs ys p.0 p.2)
row_stop (x ∷ xs) ys k (inr p) = inr p

pub makes_then : (xs ys : List (Outcome → Call)) (went : Bool) (a b c : Told) → Makes xs true a b → Makes ys went b c → Makes (xs ++ ys) went a c
makes_then xs ys went a b c p q = record {
  kept = p.kept ++ q.kept;
  adds = q.adds ∙ ap (λ (l : List Call). l ++ q.kept) p.adds ∙ append_assoc a.calls p.kept q.kept;
  row = row_then xs ys went p.kept q.kept p.row q.row;
}

pub makes_stop : (xs ys : List (Outcome → Call)) (a b : Told) → Makes xs false a b → Makes (xs ++ ys) false a b
makes_stop xs ys a b p = record { kept = p.kept; adds = p.adds; row = row_stop xs ys p.kept p.row }

pub makes_none : (told : Told) → Makes [] true told told
makes_none told = record { kept = []; adds = sym (append-nil told.calls); row = (refl, refl) }

pub goes_made : (xs : List (Outcome → Call)) (went : Bool) (a b : Told) → Makes xs went a b → Goes a b
goes_made xs went a b p = record { more = p.kept; calls = p.adds }

-- ---- none of them failed

-- a call that goes well is no failed one
abbrev pub AreFine : List (Outcome → Call) → Type 0
AreFine [] = Unit {0}
AreFine (x ∷ xs) = (has_failed (x Done) ≡ false) × AreFine xs

pub row_fine : (xs : List (Outcome → Call)) (k : List Call) → AreFine xs → IsRow xs true k → failed_in k ≡ 0
row_fine [] k fine p = ap failed_in p.1
row_fine (x ∷ xs) k fine (inl p) = go p.1 (row_fine xs p.0 fine.1 p.2)
  where
    go : IsKept (x Done) k p.0 → failed_in p.0 ≡ 0 → failed_in k ≡ 0
    go (inl e) rest = ap failed_in e ∙ ap (λ (b : Bool). (if b then 1 else 0) + failed_in p.0) fine.0 ∙ ap (λ (n : ℕ). 0 + n) rest
    go (inr e) rest = ap failed_in e ∙ rest
row_fine (x ∷ xs) k fine (inr p) = differ p.1
