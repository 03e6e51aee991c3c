-- A text that begins with a segment's spelling is read as that segment.
use Rattle.std.proofs.Common.{◌≡◌, ℕ, ◌+◌, ◌<◌, ◌≤◌, true, false, cond, nat_eq, nat_lt, List, [], ◌∷◌, ◌++◌, length, take, drop, get_or, Result, Ok, Err, Option, Some, None, inl, inr, refl, sym, ◌∙◌, ap, subst, arith, append-nil, append_assoc, length-append}
use Rattle.std.proofs.Math.Seq.{drop-append_seam, take-append_seam}
use Rattle.std.specs.List.{All, join_with_byte, slice_split}
use Rattle.std.proofs.lemmas.Bool.Decides.{nat_tests}
use Rattle.std.proofs.lemmas.List.Elements.{All-append, All-cons, All-nil, All-head, All-tail}
use Rattle.std.proofs.lemmas.List.Splits.{slice_split_at, slice_split_none}
use Rattle.segments.specs.declared.segment_fault.SegmentFault.{SegmentFault}
use Rattle.segments.specs.declared.segment_fault.SegmentFault.TheVariants.{TooLong}
use Rattle.segments.specs.Views.{Seg, Left}
use Rattle.segments.specs.SegmentSpelling.{IsEnding, IsFront, IsPart, IsSegment, is_element_character, is_id, is_star}
use Rattle.segments.specs.SegmentCut.{is_outside, body_length, after_body, size_of, parts_of, with_parts, seg_at, with_size, first_of, some_of, next_of, behind, left_by, left_after}
use Rattle.segments.specs.declared.segment.TheConstants.{SEGMENT_BYTES}
use Rattle.segments.proofs.Judging.{a_segment}
use Rattle.segments.proofs.Front.{short_is}
use Rattle.segments.proofs.Sized.{some_ending}

-- ---- the body

element_is : (byte : ℕ) → is_element_character byte ≡ true → (is_outside byte ≡ false) × (is_star byte ≡ false)
element_is byte h = grind (arith, nat_tests)

inside_part : (part : List ℕ) → IsPart part → All (λ b. is_outside b ≡ false) part
inside_part part h = λ k d under. (element_is (get_or part k d) (h k d under)).0

no_star : (part : List ℕ) → IsPart part → All (λ b. is_star b ≡ false) part
no_star part h = λ k d under. (element_is (get_or part k d) (h k d under)).1

inside_joined : (parts : List (List ℕ)) → All IsPart parts → All (λ b. is_outside b ≡ false) (join_with_byte 42 parts)
inside_joined [] h = All-nil (λ b. is_outside b ≡ false)
inside_joined (part ∷ []) h = inside_part part (All-head IsPart part [] h)
inside_joined (part ∷ next ∷ later) h =
    let rest = inside_joined (next ∷ later) (All-tail IsPart part (next ∷ later) h) in
    let behind_star = All-cons (λ b. is_outside b ≡ false) 42 (join_with_byte 42 (next ∷ later)) refl rest in
    All-append (λ b. is_outside b ≡ false) part (42 ∷ join_with_byte 42 (next ∷ later)) (inside_part part (All-head IsPart part (next ∷ later) h)) behind_star

pub body_past : (body more : List ℕ) → All (λ b. is_outside b ≡ false) body → body_length (body ++ more) ≡ length body + body_length more
body_past [] more h = omega arith
body_past (byte ∷ body) more h =
    let here = All-head (λ b. is_outside b ≡ false) byte body h in
    let rest = body_past body more (All-tail (λ b. is_outside b ≡ false) byte body h) in
    rw here (omega arith)

split-join : (part : List ℕ) (later : List (List ℕ)) → All IsPart (part ∷ later) → slice_split is_star (join_with_byte 42 (part ∷ later)) ≡ part ∷ later
split-join part [] h = slice_split_none is_star part (no_star part (All-head IsPart part [] h))
split-join part (next ∷ later) h =
    slice_split_at is_star part 42 (join_with_byte 42 (next ∷ later)) (no_star part (All-head IsPart part (next ∷ later) h)) refl
    ∙ ap (λ (parts : List (List ℕ)). part ∷ parts) (split-join next later (All-tail IsPart part (next ∷ later) h))

-- ---- the size

feed_is : (start body : ℕ) (more : List ℕ) → body + 1 ≤ SEGMENT_BYTES → after_body start body (10 ∷ more) ≡ Ok (body + 1)
feed_is start body more short = grind (arith, nat_tests)

return_is : (start body : ℕ) (more : List ℕ) → body + 2 ≤ SEGMENT_BYTES → after_body start body (13 ∷ 10 ∷ more) ≡ Ok (body + 2)
return_is start body more short =
    let room : nat_eq body SEGMENT_BYTES ≡ false = grind (arith, nat_tests) in
    rw room (grind (arith, nat_tests))

ending_is : (start body : ℕ) (ending more : List ℕ) → IsEnding ending → body + length ending ≤ SEGMENT_BYTES → (body_length (ending ++ more) ≡ 0) × (after_body start body (ending ++ more) ≡ Ok (body + length ending))
ending_is start body ending more (inl feed) short =
    let size = ap length feed in
    subst (λ (e : List ℕ). (body_length (e ++ more) ≡ 0) × (after_body start body (e ++ more) ≡ Ok (body + length e))) (sym feed) (refl, feed_is start body more (omega arith))
ending_is start body ending more (inr return) short =
    let size = ap length return in
    subst (λ (e : List ℕ). (body_length (e ++ more) ≡ 0) × (after_body start body (e ++ more) ≡ Ok (body + length e))) (sym return) (refl, return_is start body more (omega arith))

size_is : (start : ℕ) (body ending more : List ℕ) → All (λ b. is_outside b ≡ false) body → IsEnding ending → length body + length ending ≤ SEGMENT_BYTES → (body_length (body ++ (ending ++ more)) ≡ length body) × (size_of start (body ++ (ending ++ more)) ≡ Ok (length body + length ending))
size_is start body ending more inside ends short =
    let e = ending_is start (length body) ending more ends short in
    let long : body_length (body ++ (ending ++ more)) ≡ length body = body_past body (ending ++ more) inside ∙ omega (arith, e.0) in
    let size = short_is start (length body) (body ++ (ending ++ more)) (omega arith) ∙ ap (after_body start (length body)) (drop-append_seam body (ending ++ more)) ∙ e.1 in
    (long, ap (λ (n : ℕ). cond (nat_lt SEGMENT_BYTES n) (Err (TooLong start)) (after_body start n (drop n (body ++ (ending ++ more))))) long ∙ size)

-- ---- the segment

pub parts_are : (parts : List (List ℕ)) (ending : List ℕ) → 0 < length parts → All IsPart parts → IsEnding ending → length (join_with_byte 42 parts) + length ending ≤ SEGMENT_BYTES → parts_of (join_with_byte 42 parts ++ ending) ≡ parts
unfolding parts_of
parts_are [] ending some characters ends short = absurd (omega arith)
parts_are (part ∷ later) ending some characters ends short =
    let body : List ℕ = join_with_byte 42 (part ∷ later) in
    let whole : body ++ (ending ++ []) ≡ body ++ ending = ap (λ (l : List ℕ). body ++ l) (append-nil ending) in
    let long : body_length (body ++ ending) ≡ length body = sym (ap body_length whole) ∙ (size_is 0 body ending [] (inside_joined (part ∷ later) characters) ends short).0 in
    ap (λ (n : ℕ). slice_split is_star (take n (body ++ ending))) long ∙ ap (slice_split is_star) (take-append_seam body ending) ∙ split-join part later characters

-- an id is no part of none
some_of-id : (parts : List (List ℕ)) → is_id (get_or parts 0 []) ≡ true → 0 < length parts
some_of-id [] id = cc
some_of-id (part ∷ later) id = omega arith

-- spelled parts are judged by their id and their number
pub judged_is : (place : ℕ) (parts : List (List ℕ)) (ending more : List ℕ) → 0 < length parts → All IsPart parts → IsEnding ending → length (join_with_byte 42 parts) + length ending ≤ SEGMENT_BYTES
    → first_of place ((join_with_byte 42 parts ++ ending) ++ more) ≡ with_parts (record { start = place; bytes = join_with_byte 42 parts ++ ending; parts = parts })
unfolding first_of
judged_is place parts ending more some characters ends short =
    let body : List ℕ = join_with_byte 42 parts in
    let bytes : List ℕ = body ++ ending in
    let group = append_assoc body ending more in
    let found = (size_is place body ending more (inside_joined parts characters) ends short).1 in
    let size : size_of place (bytes ++ more) ≡ Ok (length bytes) = ap (size_of place) group ∙ found ∙ ap (λ (n : ℕ). Ok n) (sym (length-append body ending)) in
    let cut : take (length bytes) (bytes ++ more) ≡ bytes = take-append_seam bytes more in
    ap (with_size place (bytes ++ more)) size ∙ ap (λ (l : List ℕ). with_parts (seg_at place l)) cut
    ∙ ap (λ (ps : List (List ℕ)). with_parts (record { start = place; bytes = bytes; parts = ps })) (parts_are parts ending some characters ends short)

first_is : (place : ℕ) (parts : List (List ℕ)) (ending more : List ℕ) → IsSegment parts → IsEnding ending → length (join_with_byte 42 parts) + length ending ≤ SEGMENT_BYTES
    → first_of place ((join_with_byte 42 parts ++ ending) ++ more) ≡ Ok (record { start = place; bytes = join_with_byte 42 parts ++ ending; parts = parts })
first_is place parts ending more s ends short =
    judged_is place parts ending more (some_of-id parts s.id) s.characters ends short
    ∙ sym (a_segment (record { start = place; bytes = join_with_byte 42 parts ++ ending; parts = parts }) s.id s.few)

pub some_left : (rest : List ℕ) (answer : Result (Option Seg) SegmentFault) → 0 < length rest → cond (nat_eq (length rest) 0) (Ok None) answer ≡ answer
some_left rest answer some =
    let test : nat_eq (length rest) 0 ≡ false = grind (arith, nat_tests) in
    rw test refl

-- where the reader is behind what it lends
moved : (old new : Left) (seg : Seg) → IsFront seg old new → behind old (length seg.bytes) ≡ new
moved old new seg f =
    let rest : drop (length seg.bytes) old.rest ≡ new.rest = ap (drop (length seg.bytes)) f.there ∙ drop-append_seam seg.bytes new.rest in
    ap (λ (l : List ℕ). record { rest = l; place = old.place + length seg.bytes }) rest ∙ ap (λ (n : ℕ). record { rest = new.rest; place = n }) (sym f.place)

-- the segment at the front, whose bytes are these
first_seg : (old new : Left) (seg : Seg) → IsFront seg old new → first_of old.place old.rest ≡ Ok seg
first_seg old new seg f =
    let ending : List ℕ = f.spelled.spelled.0 in
    let bytes : seg.bytes ≡ join_with_byte 42 seg.parts ++ ending = f.spelled.spelled.2 in
    let size = ap length bytes ∙ length-append (join_with_byte 42 seg.parts) ending in
    let few = f.spelled.short in
    let first = first_is old.place seg.parts ending new.rest f.spelled.segment f.spelled.spelled.1 (omega arith) in
    let text : old.rest ≡ (join_with_byte 42 seg.parts ++ ending) ++ new.rest = f.there ∙ ap (λ (l : List ℕ). l ++ new.rest) bytes in
    ap (first_of old.place) text ∙ first ∙ ap (λ (n : ℕ). Ok (record { start = n; bytes = join_with_byte 42 seg.parts ++ ending; parts = seg.parts })) (sym f.start)
    ∙ ap (λ (b : List ℕ). Ok (record { start = seg.start; bytes = b; parts = seg.parts })) (sym bytes)

some_bytes : (old new : Left) (seg : Seg) → IsFront seg old new → 0 < length old.rest
some_bytes old new seg f =
    let some = some_ending f.spelled.spelled.0 f.spelled.spelled.1 in
    let bytes = ap length f.spelled.spelled.2 in
    let sum = length-append (join_with_byte 42 seg.parts) f.spelled.spelled.0 in
    let whole = ap length f.there in
    let both = length-append seg.bytes new.rest in
    omega arith

-- a segment that is spelled at the front is lent, and the reader passes over it
pub front_is : (old new : Left) (seg : Seg) → IsFront seg old new → (next_of old ≡ Ok (Some seg)) × (left_after old ≡ new)
unfolding next_of left_after
front_is old new seg f =
    let lent : cond (nat_eq (length old.rest) 0) (Ok None) (some_of (first_of old.place old.rest)) ≡ Ok (Some seg) =
    some_left old.rest (some_of (first_of old.place old.rest)) (some_bytes old new seg f) ∙ ap some_of (first_seg old new seg f) in
    (lent, ap (left_by old) lent ∙ moved old new seg f)
