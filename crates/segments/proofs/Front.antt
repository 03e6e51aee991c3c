-- The first 513 bytes of a text decide how many its first segment takes.
use Rattle.std.proofs.Common.{◌≡◌, ℕ, zero, suc, ◌<◌, ◌≤◌, min, not, if◌then◌else◌, nat_lt, List, [], ◌∷◌, length, take, drop, Ok, Err, inl, inr, ◌∙◌, ap, arith, ◌+◌}
use Rattle.std.proofs.lemmas.Bool.{cases_Bool}
use Rattle.std.proofs.lemmas.Bool.Decides.{nat_tests}
use Rattle.std.proofs.lemmas.List.Sums.{prefix_len-le-length}
use Rattle.segments.specs.declared.segment_fault.SegmentFault.TheVariants.{TooLong}
use Rattle.segments.specs.SegmentCut.{is_outside, body_length, after_body, size_of}
use Rattle.segments.specs.declared.segment.TheConstants.{SEGMENT_BYTES}

pub body_length-take : (n : ℕ) (rest : List ℕ) → body_length (take n rest) ≡ min n (body_length rest)
body_length-take zero rest = omega arith
body_length-take (suc n) [] = omega arith
body_length-take (suc n) (byte ∷ rest) =
    let later = body_length-take n rest in
    elim (cases_Bool (is_outside byte)) [ inl outside ↦ rw outside (omega arith) | inr inside ↦ rw inside (omega arith) ]

pub long_is : (start body : ℕ) (rest : List ℕ) → SEGMENT_BYTES < body → (if nat_lt SEGMENT_BYTES body then Err (TooLong start) else after_body start body (drop body rest)) ≡ Err (TooLong start)
long_is start body rest far = grind (arith, nat_tests)

pub short_is : (start body : ℕ) (rest : List ℕ) → body ≤ SEGMENT_BYTES → (if nat_lt SEGMENT_BYTES body then Err (TooLong start) else after_body start body (drop body rest)) ≡ after_body start body (drop body rest)
short_is start body rest short = grind (arith, nat_tests)

pub size_of-long : (start body : ℕ) (rest : List ℕ) → body ≡ body_length (take (SEGMENT_BYTES + 1) rest) → SEGMENT_BYTES < body → size_of start rest ≡ Err (TooLong start)
size_of-long start body rest e long =
    let least = body_length-take (SEGMENT_BYTES + 1) rest in
    let far : SEGMENT_BYTES < body_length rest = omega arith in
    long_is start (body_length rest) rest far

pub size_of-short : (start body : ℕ) (rest : List ℕ) → body ≡ body_length (take (SEGMENT_BYTES + 1) rest) → body ≤ SEGMENT_BYTES → size_of start rest ≡ after_body start body (drop body rest)
size_of-short start body rest e short =
    let least = body_length-take (SEGMENT_BYTES + 1) rest in
    let same : body_length rest ≡ body = omega arith in
    short_is start (body_length rest) rest (omega arith) ∙ ap (λ (n : ℕ). after_body start n (drop n rest)) same

pub body_inside : (body : ℕ) (rest : List ℕ) → body ≡ body_length (take (SEGMENT_BYTES + 1) rest) → body ≤ length rest
body_inside body rest e =
    let least = body_length-take (SEGMENT_BYTES + 1) rest in
    let most : body_length rest ≤ length rest = prefix_len-le-length (λ b. not (is_outside b)) rest in
    omega arith

-- a CR and an LF end a body that leaves room for both
line_end : (start body : ℕ) (more : List ℕ) → body + 2 ≤ SEGMENT_BYTES → after_body start body (13 ∷ 10 ∷ more) ≡ Ok (body + 2)
line_end start body more short = grind (arith, nat_tests)

pub size_of-line_end : (start body : ℕ) (rest more : List ℕ) → body ≡ body_length (take (SEGMENT_BYTES + 1) rest) → body + 2 ≤ SEGMENT_BYTES → drop body rest ≡ 13 ∷ 10 ∷ more → size_of start rest ≡ Ok (body + 2)
size_of-line_end start body rest more e short ends =
    size_of-short start body rest e (omega arith) ∙ ap (after_body start body) ends ∙ line_end start body more short
