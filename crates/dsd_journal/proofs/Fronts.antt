-- What stands behind an open gate is whole, or ends too early, or is no entry.
use Rattle.std.proofs.Common.{◌≡◌, ◌≢◌, ◌⊎◌, inl, inr, ℕ, suc, ◌+◌, ◌-◌, ◌<◌, ◌≤◌, true, false, ◌==◌, nat_lt, nat_le, if◌then◌else◌, List, [], ◌∷◌, ◌++◌, length, take, drop, replicate, refl, sym, ◌∙◌, ap, subst, arith, append_assoc, length-append, length-take, Option, Some, None, Result, Ok, Err, IfOk, IfErr, MatchOption, Bor}
use Rattle.std.proofs.lemmas.Bool.{cases_Bool}
use Rattle.std.proofs.lemmas.Bool.Decides.{nat_tests}
use Rattle.std.proofs.lemmas.List.{take_all, take_at, take-append-drop, take-append-le, length-replicate, drop-drop}
use Rattle.std.specs.Int.{w32, to_be_bytes}
use Rattle.dsd_journal.specs.declared.limits.TheConstants.{JOURNAL_BYTES}
use Rattle.dsd_journal.specs.declared.entry.EntryKind.{EntryKind}
use Rattle.dsd_journal.specs.declared.entry.EntryKind.TheVariants.{Signed, Took}
use Rattle.dsd_journal.specs.JournalImage.{kind_letter, IsPayloadLength}
use Rattle.dsd_journal.specs.Reading.{StartsSize, EndsSize, StartsEntry, IsWhole, IsUnfinished, IsBad, NoEntry, TooFar, size_of, kind_of_letter, with_size, with_kind, entry_of}
use Rattle.dsd_journal.proofs.Peeling.{heads, tails, body_length}
use Rattle.dsd_journal.proofs.Sizes.{Decides, size_decides}

-- ---- kinds

kind_is : (letter : ℕ) (kind : EntryKind) → kind_of_letter letter ≡ Some kind → letter ≡ kind_letter kind
kind_is letter Signed is = grind (arith, nat_tests)
kind_is letter Took is = grind (arith, nat_tests)

kind_none : (letter : ℕ) (kind : EntryKind) → kind_of_letter letter ≡ None → letter ≢ kind_letter kind
kind_none letter Signed is = λ e. grind (arith, nat_tests)
kind_none letter Took is = λ e. grind (arith, nat_tests)

starts_nothing : StartsEntry []
starts_nothing = record { entry = record { kind = Signed; payload = 0 ∷ [] }; sized = (omega arith, omega arith); tail = 83 ∷ (to_be_bytes w32 1 ++ 0 ∷ []); whole = refl }

-- an entry begins with a kind and the first bytes of a length
starts_size : (kind : EntryKind) (front : List ℕ) → StartsSize front → StartsEntry (kind_letter kind ∷ front)
starts_size kind front s =
    let long : length (replicate s.size 0) ≡ s.size = length-replicate {A = ℕ} s.size 0 in
    record {
      entry = record { kind = kind; payload = replicate s.size 0 };
      sized = subst IsPayloadLength (sym long) s.sized;
      tail = s.rest ++ replicate s.size 0;
      whole = ap (λ (l : List ℕ). kind_letter kind ∷ l)
          (sym (append_assoc front s.rest (replicate s.size 0)) ∙ ap (λ (l : List ℕ). l ++ replicate s.size 0) s.spelled ∙ ap (λ (n : ℕ). to_be_bytes w32 n ++ replicate s.size 0) (sym long));
    }

size_starts : (kind : EntryKind) (front : List ℕ) → length front ≤ 4 → StartsEntry (kind_letter kind ∷ front) → StartsSize front
size_starts kind front few s =
    let bytes = to_be_bytes w32 (length s.entry.payload) in
    let e : front ++ s.tail ≡ bytes ++ s.entry.payload = tails (kind_letter kind) (kind_letter s.entry.kind) (front ++ s.tail) (bytes ++ s.entry.payload) s.whole in
    let cut : front ≡ take (length front) bytes =
    sym (take_at front s.tail (length front) refl) ∙ ap (λ (l : List ℕ). take (length front) l) e ∙ take-append-le (length front) bytes s.entry.payload few in
    record { size = length s.entry.payload; sized = s.sized; rest = drop (length front) bytes; spelled = ap (λ (l : List ℕ). l ++ drop (length front) bytes) cut ∙ take-append-drop (length front) bytes }

-- one place further
take_one : (k : ℕ) (x : ℕ) (l : List ℕ) → take (k + 1) (x ∷ l) ≡ x ∷ take k l
take_one k x l = let one : suc k ≡ k + 1 = omega arith in subst (λ n. take n (x ∷ l) ≡ x ∷ take k l) one refl

pub record DecidesEntry (gate : ℕ) (behind : List ℕ) (answer : Result (Option (EntryKind × List ℕ × List ℕ)) ℕ) : Type 0 where
  pub ok : IfOk answer (λ found. MatchOption found (IsUnfinished gate behind) (λ e. IsWhole gate behind e.0 e.1 e.2))
  pub err : IfErr answer (IsBad gate behind)

module _ (gate : ℕ) (kind : EntryKind) (rest : List ℕ) where
  -- the bytes of the length end or go wrong
  size_fails : (k : ℕ) → EndsSize rest k → DecidesEntry gate (kind_letter kind ∷ rest) (with_size gate kind rest (Err k))
  size_fails k e = elim (cases_Bool (length rest == k)) [
    | inl is ↦ (let end : length rest ≡ k = same is in
        let all : take k rest ≡ rest = take_all k rest (omega (arith, end)) in
        subst (λ t. DecidesEntry gate (kind_letter kind ∷ rest) (if t then Ok None else Err (gate + 2 + k))) (sym is) (record {
          ok = record {
            starts = starts_size kind rest (subst StartsSize all e.before);
            short = omega (arith, end, e.few, body_length (starts_size kind rest (subst StartsSize all e.before)).entry);
            near = λ long. absurd (omega (arith, long, end, e.few));
          };
          err = tt;
        }))
    | inr is ↦ subst (λ t. DecidesEntry gate (kind_letter kind ∷ rest) (if t then Ok None else Err (gate + 2 + k))) (sym is) (record { ok = tt; err = wrong is e.ends })
  ]
    where
      same : (length rest == k) ≡ true → length rest ≡ k
      same is = grind (arith, nat_tests)

      other : (length rest == k) ≡ false → length rest ≢ k
      other is = λ e. grind (arith, nat_tests)

      wrong : (length rest == k) ≡ false → (length rest ≡ k) ⊎ ((k < length rest) × (StartsSize (take (k + 1) rest) → ⊥)) → IsBad gate (kind_letter kind ∷ rest) (gate + 2 + k)
      wrong is (inl end) = absurd (other is end)
      wrong is (inr more) = NoEntry (k + 1) (omega (arith, e.few)) (omega (arith, more.0))
          (subst StartsEntry (sym (take_one k (kind_letter kind) rest)) (starts_size kind (take k rest) e.before))
          (λ s. more.1 (size_starts kind (take (k + 1) rest) (omega (arith, length-take (k + 1) rest, e.few)) (subst StartsEntry (take_one (k + 1) (kind_letter kind) rest) s)))
          (omega arith)

  module _ (size : ℕ) (sized : IsPayloadLength size) (is : rest ≡ to_be_bytes w32 size ++ drop 4 rest) where
    rest_length : length rest ≡ 4 + length (drop 4 rest)
    rest_length = ap length is ∙ length-append (to_be_bytes w32 size) (drop 4 rest)

    abbrev fill : List ℕ
    fill = replicate (size - length (drop 4 rest)) 0

    abbrev answer : Result (Option (EntryKind × List ℕ × List ℕ)) ℕ
    answer = if nat_lt (length rest) (4 + size) then Ok None else Ok (Some (kind, take size (drop 4 rest), drop (4 + size) rest))

    -- the payload ends too early
    cut : gate + 6 + size < JOURNAL_BYTES → length rest < 4 + size → IsUnfinished gate (kind_letter kind ∷ rest)
    cut near short = record {
      starts = record { entry = record { kind = kind; payload = drop 4 rest ++ fill }; sized = subst IsPayloadLength (sym long) sized; tail = fill; whole = whole };
      short = omega (arith, short, long, length-append (to_be_bytes w32 (length (drop 4 rest ++ fill))) (drop 4 rest ++ fill));
      near = λ five. omega (arith, near, long);
    }
      where
        long : length (drop 4 rest ++ replicate (size - length (drop 4 rest)) 0) ≡ size
        long = omega (arith, length-append (drop 4 rest) (replicate (size - length (drop 4 rest)) 0), length-replicate {A = ℕ} (size - length (drop 4 rest)) 0, rest_length, short)

        whole : (kind_letter kind ∷ rest) ++ fill ≡ kind_letter kind ∷ (to_be_bytes w32 (length (drop 4 rest ++ fill)) ++ (drop 4 rest ++ fill))
        whole = ap (λ (l : List ℕ). kind_letter kind ∷ l) (ap (λ (l : List ℕ). l ++ fill) is ∙ append_assoc (to_be_bytes w32 size) (drop 4 rest) fill ∙ ap (λ (n : ℕ). to_be_bytes w32 n ++ (drop 4 rest ++ fill)) (sym long))

    whole_there : gate + 6 + size < JOURNAL_BYTES → 4 + size ≤ length rest → IsWhole gate (kind_letter kind ∷ rest) kind (take size (drop 4 rest)) (drop (4 + size) rest)
    whole_there near enough = record {
      sized = subst IsPayloadLength (sym long) sized;
      split = ap (λ (l : List ℕ). kind_letter kind ∷ l) (is ∙ ap (λ (l : List ℕ). to_be_bytes w32 size ++ l) (sym (take-append-drop size (drop 4 rest)))
          ∙ sym (append_assoc (to_be_bytes w32 size) (take size (drop 4 rest)) (drop size (drop 4 rest)))
          ∙ ap (λ (n : ℕ). (to_be_bytes w32 n ++ take size (drop 4 rest)) ++ drop size (drop 4 rest)) (sym long)
          ∙ ap (λ (l : List ℕ). (to_be_bytes w32 (length (take size (drop 4 rest))) ++ take size (drop 4 rest)) ++ l) (drop-drop size 4 rest));
      near = omega (arith, near, long);
    }
      where
        long : length (take size (drop 4 rest)) ≡ size
        long = omega (arith, length-take size (drop 4 rest), rest_length, enough)

    size_there : DecidesEntry gate (kind_letter kind ∷ rest) (with_size gate kind rest (Ok size))
    size_there = elim (cases_Bool (nat_le JOURNAL_BYTES (gate + 6 + size))) [
      | inl far ↦ subst (λ t. DecidesEntry gate (kind_letter kind ∷ rest) (if t then Err (gate + 1) else answer)) (sym far)
          (record { ok = tt; err = TooFar kind size (drop 4 rest) sized (ap (λ (l : List ℕ). kind_letter kind ∷ l) is) (le_of far) refl })
      | inr near ↦ subst (λ t. DecidesEntry gate (kind_letter kind ∷ rest) (if t then Err (gate + 1) else answer)) (sym near) (enough (lt_of near))
    ]
      where
        le_of : nat_le JOURNAL_BYTES (gate + 6 + size) ≡ true → JOURNAL_BYTES ≤ gate + 6 + size
        le_of h = grind (arith, nat_tests)

        lt_of : nat_le JOURNAL_BYTES (gate + 6 + size) ≡ false → gate + 6 + size < JOURNAL_BYTES
        lt_of h = grind (arith, nat_tests)

        short_of : nat_lt (length rest) (4 + size) ≡ true → length rest < 4 + size
        short_of h = grind (arith, nat_tests)

        long_of : nat_lt (length rest) (4 + size) ≡ false → 4 + size ≤ length rest
        long_of h = grind (arith, nat_tests)

        enough : gate + 6 + size < JOURNAL_BYTES → DecidesEntry gate (kind_letter kind ∷ rest) answer
        enough near = elim (cases_Bool (nat_lt (length rest) (4 + size))) [
          | inl short ↦ subst (λ t. DecidesEntry gate (kind_letter kind ∷ rest) (if t then Ok None else Ok (Some (kind, take size (drop 4 rest), drop (4 + size) rest)))) (sym short)
              (record { ok = cut near (short_of short); err = tt })
          | inr long ↦ subst (λ t. DecidesEntry gate (kind_letter kind ∷ rest) (if t then Ok None else Ok (Some (kind, take size (drop 4 rest), drop (4 + size) rest)))) (sym long)
              (record { ok = whole_there near (long_of long); err = tt })
        ]

  with_size_decides : (answer : Result ℕ ℕ) → Decides rest answer → DecidesEntry gate (kind_letter kind ∷ rest) (with_size gate kind rest answer)
  with_size_decides (Ok size) d = size_there size d.ok.0 d.ok.1
  with_size_decides (Err k) d = size_fails k d.err

pub entry_decides : (gate : ℕ) (behind : List ℕ) → DecidesEntry gate behind (entry_of gate behind)
entry_decides gate [] = record { ok = record { starts = starts_nothing; short = omega (arith, body_length starts_nothing.entry); near = λ long. absurd (omega (arith, long)) }; err = tt }
entry_decides gate (first ∷ rest) = go (kind_of_letter first) refl
  where
    go : (kind : Option EntryKind) → kind_of_letter first ≡ kind → DecidesEntry gate (first ∷ rest) (with_kind gate rest kind)
    go None is = record {
      ok = tt;
      err = NoEntry 0 (omega arith) (omega arith) starts_nothing (λ s. kind_none first s.entry.kind is (heads first (kind_letter s.entry.kind) s.tail (to_be_bytes w32 (length s.entry.payload) ++ s.entry.payload) s.whole)) (omega arith);
    }
    go (Some kind) is = subst (λ b. DecidesEntry gate (b ∷ rest) (with_size gate kind rest (size_of rest))) (sym (kind_is first kind is)) (with_size_decides gate kind rest (size_of rest) (size_decides rest))

found_of : (gate : ℕ) (behind : List ℕ) (found : Option (EntryKind × List ℕ × List ℕ)) → entry_of gate behind ≡ Ok found → MatchOption found (IsUnfinished gate behind) (λ e. IsWhole gate behind e.0 e.1 e.2)
found_of gate behind found is = let d = subst (DecidesEntry gate behind) is (entry_decides gate behind) in d.ok

bad_of : (gate : ℕ) (behind : List ℕ) (place : ℕ) → entry_of gate behind ≡ Err place → IsBad gate behind place
bad_of gate behind place is = let d = subst (DecidesEntry gate behind) is (entry_decides gate behind) in d.err

pub found_all : (gate : ℕ) (behind : List ℕ) (r : Result (Option (EntryKind × Bor (List ℕ) × Bor (List ℕ))) ℕ)
    → IfOk r (λ found. MatchOption found (entry_of gate behind ≡ Ok None) (λ e. entry_of gate behind ≡ Ok (Some (e.0, e.1.now, e.2.now))))
    → IfOk r (λ found. MatchOption found (IsUnfinished gate behind) (λ e. IsWhole gate behind e.0 e.1.now e.2.now))
found_all gate behind (Err place) h = tt
found_all gate behind (Ok None) h = found_of gate behind None h
found_all gate behind (Ok (Some e)) h = found_of gate behind (Some (e.0, e.1.now, e.2.now)) h

pub bad_all : (gate : ℕ) (behind : List ℕ) (r : Result (Option (EntryKind × Bor (List ℕ) × Bor (List ℕ))) ℕ) → IfErr r (λ place. entry_of gate behind ≡ Err place) → IfErr r (λ place. IsBad gate behind place)
bad_all gate behind (Err place) h = bad_of gate behind place h
bad_all gate behind (Ok found) h = tt
