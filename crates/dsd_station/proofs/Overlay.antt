-- Bytes put over others.
use Rattle.std.proofs.Common.{◌≡◌, ℕ, zero, suc, ◌+◌, ◌-◌, ◌≤◌, List, [], ◌∷◌, ◌++◌, length, take, drop, replicate, max, min, refl, sym, ◌∙◌, ap, arith, length-append, length-take, length-drop, append_assoc}
use Rattle.std.proofs.lemmas.List.{append-nil, take_all, take_at, drop_at, drop_all, drop-drop, take-append-le, length-replicate}
use Rattle.dsd_station.specs.Disk.{overwritten, Torn}
use Rattle.dsd_station.specs.Replayed.{applied, taken}
use Rattle.dsd_station.specs.declared.call.Pick.{Pick}
use Rattle.dsd_station.specs.declared.call.Pick.TheVariants.{Keep, Drop, Half}

-- dropping past the padding
drop_pad : (n : ℕ) (old : List ℕ) → drop n (old ++ replicate (n - length old) 0) ≡ drop n old
drop_pad zero old = let none : 0 - length old ≡ 0 = omega arith in ap (λ (k : ℕ). old ++ replicate k 0) none ∙ append-nil old
drop_pad (suc n) [] = drop_all (suc n) (replicate (suc n - 0) 0) (omega (arith, length-replicate {A = ℕ} (suc n - 0) 0))
drop_pad (suc n) (x ∷ old) = let less : suc n - suc (length old) ≡ n - length old = omega arith in ap (λ (k : ℕ). drop n (old ++ replicate k 0)) less ∙ drop_pad n old

module _ (at : ℕ) (bytes old : List ℕ) (within : at ≤ length old) where
  front_length : length (take at old) ≡ at
  front_length = omega (arith, length-take at old)

  pub length-overwritten : length (overwritten old at bytes) ≡ max (length old) (at + length bytes)
  length-overwritten =
      omega (arith, length-append (take at old ++ bytes) (drop (at + length bytes) old), length-append (take at old) bytes, front_length, length-drop (at + length bytes) old)

  pub torn_overwritten : Torn at (length bytes) old (overwritten old at bytes)
  torn_overwritten = let most : min at (length old) ≡ at = omega arith in record {
    before = ap (λ (k : ℕ). take k (overwritten old at bytes)) most
        ∙ ap (λ (l : List ℕ). take at l) (append_assoc (take at old) bytes (drop (at + length bytes) old)) ∙ take_at (take at old) (bytes ++ drop (at + length bytes) old) at front_length;
    after = drop_at (take at old ++ bytes) (drop (at + length bytes) old) (at + length bytes) (omega (arith, length-append (take at old) bytes, front_length));
    no_shorter = omega (arith, length-overwritten);
    no_longer = omega (arith, length-overwritten);
  }

pub length-applied : (n at : ℕ) (bytes old : List ℕ) → n ≤ length bytes → at ≤ length old → length (applied n at bytes old) ≡ max (length old) (at + length bytes)
length-applied n at bytes old fewer within =
    omega (
      arith,
      length-overwritten at (take n bytes) (old ++ replicate (at + length bytes - length old) 0) (omega (arith, length-append old (replicate (at + length bytes - length old) 0))),
      length-append old (replicate (at + length bytes - length old) 0),
      length-replicate {A = ℕ} (at + length bytes - length old) 0,
      length-take n bytes,
    )

-- all of the bytes applied are the bytes written
pub applied_all : (at : ℕ) (bytes old : List ℕ) → at ≤ length old → applied (length bytes) at bytes old ≡ overwritten old at bytes
applied_all at bytes old within =
    let zeros : List ℕ = replicate (at + length bytes - length old) 0 in
    let whole : take (length bytes) bytes ≡ bytes = take_all (length bytes) bytes (omega arith) in
    ap (λ (l : List ℕ). take at (old ++ zeros) ++ l ++ drop (at + length l) (old ++ zeros)) whole
    ∙ ap (λ (l : List ℕ). l ++ bytes ++ drop (at + length bytes) (old ++ zeros)) (take-append-le at old zeros within)
    ∙ ap (λ (l : List ℕ). take at old ++ bytes ++ l) (drop_pad (at + length bytes) old)

-- a write may be cut short at any of these
pub torn_applied : (n at : ℕ) (bytes old : List ℕ) → n ≤ length bytes → at ≤ length old → Torn at (length bytes) old (applied n at bytes old)
torn_applied n at bytes old fewer within =
    let zeros : List ℕ = replicate (at + length bytes - length old) 0 in
    let in_padded : at ≤ length (old ++ zeros) = omega (arith, length-append old (replicate (at + length bytes - length old) 0)) in
    let torn = torn_overwritten at (take n bytes) (old ++ zeros) in_padded in
    let count : length (take n bytes) ≡ n = omega (arith, length-take n bytes) in
    let sum : at + length (take n bytes) + (length bytes - n) ≡ at + length bytes = omega (arith, count, fewer) in
    let rest = length bytes - n in
    let most : min at (length old) ≡ min at (length (old ++ zeros)) = omega (arith, in_padded) in
    record {
      before = ap (λ (k : ℕ). take k (applied n at bytes old)) most ∙ torn.before ∙ take-append-le at old zeros within;
      after = ap (λ (k : ℕ). drop k (applied n at bytes old)) (sym sum) ∙ sym (drop-drop rest (at + length (take n bytes)) (applied n at bytes old))
          ∙ ap (λ (l : List ℕ). drop rest l) torn.after ∙ drop-drop rest (at + length (take n bytes)) (old ++ zeros) ∙ ap (λ (k : ℕ). drop k (old ++ zeros)) sum ∙ drop_pad (at + length bytes) old;
      no_shorter = omega (arith, length-applied n at bytes old fewer within);
      no_longer = omega (arith, length-applied n at bytes old fewer within);
    }

pub torn_same : (at n : ℕ) (old : List ℕ) → Torn at n old old
torn_same at n old = record { before = front at old; after = refl; no_shorter = omega arith; no_longer = omega arith }
  where
    front : (k : ℕ) (l : List ℕ) → take (min k (length l)) l ≡ take k l
    front zero l = let none : min 0 (length l) ≡ 0 = omega arith in ap (λ (n : ℕ). take n l) none
    front (suc k) [] = let none : min (suc k) 0 ≡ 0 = omega arith in ap (λ (n : ℕ). take {A = ℕ} n []) none
    front (suc k) (x ∷ l) = let more : min (suc k) (suc (length l)) ≡ suc (min k (length l)) = omega arith in ap (λ (n : ℕ). take n (x ∷ l)) more ∙ ap (λ (t : List ℕ). x ∷ t) (front k l)

pub taken_fewer : (pick : Pick) (n : ℕ) → taken pick n ≤ n
taken_fewer Keep n = omega arith
taken_fewer Drop n = omega arith
taken_fewer Half n = omega arith
