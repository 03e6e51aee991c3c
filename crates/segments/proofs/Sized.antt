-- A segment whose size was found is spelled: its body, and a terminator.
use Rattle.std.proofs.Common.{◌≡◌, ℕ, zero, suc, ◌+◌, ◌<◌, ◌≤◌, true, false, not, cond, List, [], ◌∷◌, ◌++◌, length, take, drop, nat_eq, nat_lt, Result, Ok, Err, ◌⊎◌, inl, inr, refl, sym, ◌∙◌, ap, arith, append_assoc, length-append}
use Rattle.std.specs.List.{All, before_first, slice_split, onto_first, join_with_byte}
use Rattle.std.proofs.lemmas.Bool.{cases_eq, cases_Bool}
use Rattle.std.proofs.lemmas.Bool.Decides.{nat_tests}
use Rattle.std.proofs.lemmas.List.{get_or-take, take-append-drop, length-take, length-take-le, take_at}
use Rattle.std.proofs.lemmas.List.Elements.{All-cons, All-nil, All-head, All-tail}
use Rattle.std.proofs.lemmas.List.Splits.{join_with_byte-slice_split}
use Rattle.std.proofs.lemmas.List.Sums.{fails_before_first, prefix_len-le-length}
use Rattle.segments.specs.declared.segment_fault.SegmentFault.{SegmentFault}
use Rattle.segments.specs.declared.segment_fault.SegmentFault.TheVariants.{TooLong}
use Rattle.segments.specs.SegmentSpelling.{IsEnding, IsPart, is_element_character, is_inside, is_star}
use Rattle.segments.specs.SegmentCut.{is_outside, body_length, limited, after_return, after_body, size_of, parts_of}
use Rattle.segments.specs.PartEnds.{IsSpelled}
use Rattle.segments.specs.declared.segment.TheConstants.{SEGMENT_BYTES}
use Rattle.segments.proofs.Front.{body_length-take}

-- ---- what follows a body

limited_is : (start n size : ℕ) → limited start n ≡ Ok size → (size ≡ n) × (size ≤ SEGMENT_BYTES)
limited_is start n size h = grind (arith, nat_tests)

is_feed : (start body size byte : ℕ) (more : List ℕ) → after_return start body (byte ∷ more) ≡ Ok size → (byte ≡ 10) × (size ≡ body + 2) × (size ≤ SEGMENT_BYTES)
is_feed start body size byte more h =
    elim (cases_eq byte 10) [
      | inl same ↦ let l = limited_is start (body + 2) size (rw same at h) in (same, l.0, l.1)
      | inr other ↦ absurd (grind (arith, nat_tests))
    ]

no_feed : (start body size : ℕ) → after_return start body [] ≡ Ok size → ⊥
no_feed start body size h = grind (arith, nat_tests)

-- a CR is judged by what follows it, except where it is one byte too many itself
past_return : (body size : ℕ) (long after : Result ℕ SegmentFault) → (long ≡ Ok size → ⊥) → cond (nat_eq body SEGMENT_BYTES) long after ≡ Ok size → after ≡ Ok size
past_return body size long after never h = elim (cases_Bool (nat_eq body SEGMENT_BYTES)) [
  | inl full ↦ absurd (never (rw full at h))
  | inr room ↦ rw room at h
]

is_end : (start body size byte : ℕ) (more : List ℕ) → after_body start body (byte ∷ more) ≡ Ok size → ((byte ≡ 10) × (size ≡ body + 1) × (size ≤ SEGMENT_BYTES)) ⊎ ((byte ≡ 13) × (after_return start body more ≡ Ok size))
is_end start body size byte more h =
    elim (cases_eq byte 10) [
      | inl same ↦ let l = limited_is start (body + 1) size (rw same at h) in inl (same, l.0, l.1)
      | inr other ↦ elim (cases_eq byte 13) [
        | inl return ↦ inr (return, past_return body size (Err (TooLong start)) (after_return start body more) (λ e. cc) (rw return at h))
        | inr neither ↦ absurd (grind (arith, nat_tests))
      ]
    ]

-- the ending that stands there, and the size with it
record Ends (body long : ℕ) (after : List ℕ) : Type 0 where
  pub ending : List ℕ
  pub ends : IsEnding ending
  pub size : long ≡ body + length ending
  pub short : long ≤ SEGMENT_BYTES
  pub there : after ≡ ending ++ drop (length ending) after

ends_return : (start body size : ℕ) (more : List ℕ) → after_return start body more ≡ Ok size → Ends body size (13 ∷ more)
ends_return start body size [] h = absurd (no_feed start body size h)
ends_return start body size (byte ∷ more) h =
    let feed = is_feed start body size byte more h in
    record { ending = 13 ∷ 10 ∷ []; ends = inr refl; size = feed.1; short = feed.2; there = ap (λ (x : ℕ). 13 ∷ x ∷ more) feed.0 }

ends_at : (start body size : ℕ) (after : List ℕ) → after_body start body after ≡ Ok size → Ends body size after
ends_at start body size [] h = cc
ends_at start body size (byte ∷ more) h =
    elim (is_end start body size byte more h) [
      | inl feed ↦ record { ending = 10 ∷ []; ends = inl refl; size = feed.1; short = feed.2; there = ap (λ (x : ℕ). x ∷ more) feed.0 }
      | inr return ↦ rw return.0 (ends_return start body size more return.1)
    ]

pub some_ending : (ending : List ℕ) → IsEnding ending → 0 < length ending
some_ending ending (inl feed) = omega (arith, ap length feed)
some_ending ending (inr return) = omega (arith, ap length return)

size_behind : (start size : ℕ) (rest : List ℕ) → size_of start rest ≡ Ok size → after_body start (body_length rest) (drop (body_length rest) rest) ≡ Ok size
size_behind start size rest h = behind_it start size (body_length rest) rest h
  where
    behind_it : (start size body : ℕ) (rest : List ℕ) → cond (nat_lt SEGMENT_BYTES body) (Err (TooLong start)) (after_body start body (drop body rest)) ≡ Ok size → after_body start body (drop body rest) ≡ Ok size
    behind_it start size body rest h = elim (cases_Bool (nat_lt SEGMENT_BYTES body)) [
      | inl long ↦ let e : Err (TooLong start) ≡ Ok size = rw long at h in cc
      | inr short ↦ rw short at h
    ]

-- ---- the parts of a body

inside_is : (byte : ℕ) → is_outside byte ≡ false → is_inside byte ≡ true
inside_is byte h = grind (arith, nat_tests)

character_is : (byte : ℕ) → is_outside byte ≡ false → is_star byte ≡ false → is_element_character byte ≡ true
character_is byte inside other = rw (inside_is byte inside, other) refl

onto_part : (byte : ℕ) (parts : List (List ℕ)) → is_element_character byte ≡ true → All IsPart parts → All IsPart (onto_first byte parts)
onto_part byte [] here h = All-cons IsPart (byte ∷ []) [] (All-cons (λ b. is_element_character b ≡ true) byte [] here (All-nil (λ b. is_element_character b ≡ true))) (All-nil IsPart)
onto_part byte (part ∷ more) here h =
    All-cons IsPart (byte ∷ part) more (All-cons (λ b. is_element_character b ≡ true) byte part here (All-head IsPart part more h)) (All-tail IsPart part more h)

are_parts : (body : List ℕ) → All (λ b. is_outside b ≡ false) body → All IsPart (slice_split is_star body)
are_parts [] h = All-cons IsPart [] [] (All-nil (λ b. is_element_character b ≡ true)) (All-nil IsPart)
are_parts (byte ∷ more) h =
    let later = are_parts more (All-tail (λ b. is_outside b ≡ false) byte more h) in
    let here = All-head (λ b. is_outside b ≡ false) byte more h in
    elim (cases_Bool (is_star byte)) [
      | inl star ↦ rw star (All-cons IsPart [] (slice_split is_star more) (All-nil (λ b. is_element_character b ≡ true)) later)
      | inr other ↦ rw other (onto_part byte (slice_split is_star more) (character_is byte here other) later)
    ]

pub body_inside : (rest : List ℕ) → All (λ b. is_outside b ≡ false) (before_first is_outside rest)
body_inside rest = λ k d under.
    let size = length-take (body_length rest) rest in
    let before : k < body_length rest = omega arith in
    ap is_outside (get_or-take (body_length rest) rest k d before) ∙ fails_before_first is_outside rest k d before

-- ---- the segment

take-take : (n k : ℕ) (xs : List ℕ) → k ≤ n → take k (take n xs) ≡ take k xs
take-take n zero xs h = refl
take-take zero (suc k) xs h = absurd (omega arith)
take-take (suc n) (suc k) [] h = refl
take-take (suc n) (suc k) (x ∷ xs) h = ap (λ (l : List ℕ). x ∷ l) (take-take n k xs (omega arith))

-- what stands behind the body says nothing of the parts
pub parts_of-take : (n : ℕ) (rest : List ℕ) → body_length rest ≤ n → parts_of (take n rest) ≡ parts_of rest
unfolding parts_of
parts_of-take n rest short =
    let same : body_length (take n rest) ≡ body_length rest = omega (arith, body_length-take n rest) in
    ap (λ (k : ℕ). slice_split is_star (take k (take n rest))) same ∙ ap (slice_split is_star) (take-take n (body_length rest) rest short)

-- the segment at the front, of so many bytes
pub record IsSized (rest : List ℕ) (size : ℕ) : Type 0 where
  pub inside : size ≤ length rest
  pub body : body_length rest < size
  pub short : size ≤ SEGMENT_BYTES
  pub spelled : IsSpelled (take size rest)

pub sized : (start size : ℕ) (rest : List ℕ) → size_of start rest ≡ Ok size → IsSized rest size
unfolding parts_of
sized start size rest h =
    let k : ℕ = body_length rest in
    let e = ends_at start k size (drop k rest) (size_behind start size rest h) in
    let text : List ℕ = before_first is_outside rest in
    let behind : List ℕ = drop (length e.ending) (drop k rest) in
    let most : k ≤ length rest = prefix_len-le-length (λ b. not (is_outside b)) rest in
    let long : length text ≡ k = length-take-le k rest most in
    let some : 0 < length e.ending = some_ending e.ending e.ends in
    let there : rest ≡ (text ++ e.ending) ++ behind =
    sym (take-append-drop k rest) ∙ ap (λ (l : List ℕ). text ++ l) e.there ∙ sym (append_assoc text e.ending behind) in
    let sum : length (text ++ e.ending) ≡ size = length-append text e.ending ∙ omega (arith, e.size) in
    let whole : length rest ≡ length (text ++ e.ending) + length behind = ap length there ∙ length-append (text ++ e.ending) behind in
    let bytes : take size rest ≡ text ++ e.ending = ap (take size) there ∙ take_at (text ++ e.ending) behind size sum in
    let under : k < size = omega (arith, e.size) in
    let parts : parts_of (take size rest) ≡ slice_split is_star text = parts_of-take size rest (omega arith) in
    let joined : join_with_byte 42 (parts_of (take size rest)) ≡ text = ap (join_with_byte 42) parts ∙ join_with_byte-slice_split 42 text in
    let characters : All IsPart (parts_of (take size rest)) = rw parts (are_parts text (body_inside rest)) in
    let spelled : take size rest ≡ join_with_byte 42 (parts_of (take size rest)) ++ e.ending = bytes ∙ ap (λ (l : List ℕ). l ++ e.ending) (sym joined) in
    let short : length (take size rest) ≤ SEGMENT_BYTES = omega (arith, ap length bytes, e.short) in
    record {
      inside = omega arith;
      body = under;
      short = e.short;
      spelled = record { spelled = (e.ending, e.ends, spelled); characters = characters; short = short };
    }
