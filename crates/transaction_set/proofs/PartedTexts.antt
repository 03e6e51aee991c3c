-- Texts in which stars part elements: what was joined is parted into the same, empty ones at the end aside.
use Rattle.std.proofs.Common.{◌≡◌, ℕ, ◌+◌, ◌<◌, ◌≤◌, false, IsTrue, List, [], ◌∷◌, ◌++◌, length, take, drop, get_or, refl, sym, ◌∙◌, ap, subst, arith, length-append, drop-drop}
use Rattle.std.specs.List.{All, join_with_byte, position_or_len, slice_split}
use Rattle.std.proofs.Math.Seq.{drop-append_seam, get_or-append_seam, take-append_seam, take-length}
use Rattle.std.proofs.lemmas.List.{drop_all, get_or_append_left, length-drop}
use Rattle.std.proofs.lemmas.List.Elements.{All-drop, All-head, All-nil, All-tail}
use Rattle.std.proofs.lemmas.List.Splits.{slice_split_at, slice_split_none}
use Rattle.std.proofs.lemmas.List.Sums.{position_or_len_is}
use Rattle.segments.specs.Views.{Seg}
use Rattle.segments.specs.Elements.{or_star, tail_from, without_end_stars}
use Rattle.segments.specs.Elements.{kept_text}
use Rattle.segments.specs.SegmentSpelling.{IsPart, IsSegment, is_id, is_star}
use Rattle.segments.specs.SegmentWriting.{in_front, segment_of, without_empty_end}
use Rattle.transaction_set.specs.SetWriting.{kept_row, parted}
use Rattle.segments.specs.declared.segment.TheConstants.{SEGMENT_ELEMENTS}
use Rattle.segments.proofs.EmptyEnds.{trim_all, trim_element, trim_joined, trim_length, trim_tail}
use Rattle.segments.proofs.Written.{no_star}

-- ---- texts that end in no star

or_star_some : (byte : ℕ) (text : List ℕ) → 0 < length text → or_star byte text ≡ byte ∷ text
or_star_some byte [] some = absurd (omega arith)
or_star_some byte (next ∷ more) some = refl

kept_behind : (front text : List ℕ) → without_end_stars text ≡ text → 0 < length text → without_end_stars (front ++ text) ≡ front ++ text
kept_behind [] text e some = e
kept_behind (byte ∷ front) text e some =
    let there : 0 < length (front ++ text) = omega (arith, length-append front text) in
    ap (or_star byte) (kept_behind front text e some) ∙ or_star_some byte (front ++ text) there

or_star_other : (byte : ℕ) (text : List ℕ) → is_star byte ≡ false → or_star byte text ≡ byte ∷ text
or_star_other byte [] other = rw other refl
or_star_other byte (next ∷ more) other = refl

kept_part : (part : List ℕ) → All (λ b. is_star b ≡ false) part → without_end_stars part ≡ part
kept_part [] h = refl
kept_part (byte ∷ more) h =
    ap (or_star byte) (kept_part more (All-tail (λ b. is_star b ≡ false) byte more h)) ∙ or_star_other byte more (All-head (λ b. is_star b ≡ false) byte more h)

-- joined elements of which the last is not empty
record IsJoined (parts : List (List ℕ)) : Type 0 where
  kept : without_end_stars (join_with_byte 42 parts) ≡ join_with_byte 42 parts
  some : 0 < length parts → 0 < length (join_with_byte 42 parts)

joined_in_front : (part : List ℕ) (parts : List (List ℕ)) → IsPart part → IsJoined parts → IsJoined (in_front part parts)
joined_in_front [] [] p j = record { kept = refl; some = λ h. absurd (omega arith) }
joined_in_front [] (next ∷ more) p j =
    let there : 0 < length (join_with_byte 42 (next ∷ more)) = j.some (omega arith) in
    record { kept = ap (or_star 42) j.kept ∙ or_star_some 42 (join_with_byte 42 (next ∷ more)) there; some = λ h. omega arith }
joined_in_front (byte ∷ part) [] p j = record { kept = kept_part (byte ∷ part) (no_star (byte ∷ part) p); some = λ h. omega arith }
joined_in_front (byte ∷ part) (next ∷ more) p j =
    let there : 0 < length (join_with_byte 42 (next ∷ more)) = j.some (omega arith) in
    record {
      kept = kept_behind (byte ∷ part) (42 ∷ join_with_byte 42 (next ∷ more)) (ap (or_star 42) j.kept ∙ or_star_some 42 (join_with_byte 42 (next ∷ more)) there) (omega arith);
      some = λ h. omega arith;
    }

joined_trimmed : (parts : List (List ℕ)) → All IsPart parts → IsJoined (without_empty_end parts)
joined_trimmed [] h = record { kept = refl; some = λ some. absurd (omega arith) }
joined_trimmed (part ∷ more) h = joined_in_front part (without_empty_end more) (All-head IsPart part more h) (joined_trimmed more (All-tail IsPart part more h))

-- ---- joined, and parted again

split_joined : (part : List ℕ) (more : List (List ℕ)) → All IsPart (part ∷ more) → slice_split is_star (join_with_byte 42 (part ∷ more)) ≡ part ∷ more
split_joined part [] h = slice_split_none is_star part (no_star part (All-head IsPart part [] h))
split_joined part (next ∷ more) h =
    slice_split_at is_star part 42 (join_with_byte 42 (next ∷ more)) (no_star part (All-head IsPart part (next ∷ more) h)) refl
    ∙ ap (λ (l : List (List ℕ)). part ∷ l) (split_joined next more (All-tail IsPart part (next ∷ more) h))

parted_some : (text : List ℕ) → 0 < length text → parted text ≡ slice_split is_star text
parted_some [] some = absurd (omega arith)
parted_some (byte ∷ more) some = refl

parted_joined : (parts : List (List ℕ)) → All IsPart parts → IsJoined parts → parted (join_with_byte 42 parts) ≡ parts
parted_joined [] h j = refl
parted_joined (part ∷ more) h j = parted_some (join_with_byte 42 (part ∷ more)) (j.some (omega arith)) ∙ split_joined part more h

-- a text without stars at its end is the joined elements without empty ones at their end
pub text_is : (parts : List (List ℕ)) → All IsPart parts → without_end_stars (join_with_byte 42 parts) ≡ join_with_byte 42 (without_empty_end parts)
text_is parts h = sym (trim_joined parts) ∙ (joined_trimmed parts h).kept

pub parted_text : (parts : List (List ℕ)) → All IsPart parts → parted (without_end_stars (join_with_byte 42 parts)) ≡ without_empty_end parts
parted_text parts h = ap parted (text_is parts h) ∙ parted_joined (without_empty_end parts) (trim_all IsPart parts h) (joined_trimmed parts h)

-- ---- tails

-- a tail that some segment has behind so many parts
pub record IsTail (before : ℕ) (tail : List ℕ) : Type 0 where
  pub same : without_end_stars (join_with_byte 42 (parted tail)) ≡ tail
  pub characters : All IsPart (parted tail)
  pub few : before + length (parted tail) ≤ SEGMENT_ELEMENTS + 1

pub tail_is : (before : ℕ) (seg : Seg) (tail : List ℕ) → before ≤ SEGMENT_ELEMENTS + 1 → IsSegment seg.parts → tail_from before seg ≡ tail → IsTail before tail
tail_is before seg tail low s e = subst (IsTail before) e (record {
  same = ap (λ (l : List (List ℕ)). without_end_stars (join_with_byte 42 l)) (parted_text behind all) ∙ trim_joined behind;
  characters = subst (All IsPart) (sym (parted_text behind all)) (trim_all IsPart behind all);
  few = omega (arith, ap length (parted_text behind all), trim_length behind, length-drop before seg.parts, s.few);
})
  where
    behind : List (List ℕ)
    behind = drop before seg.parts

    all : All IsPart behind
    all = All-drop IsPart before seg.parts s.characters

-- no tail
pub no_tail : (before : ℕ) → before ≤ SEGMENT_ELEMENTS + 1 → IsTail before []
no_tail before low = record { same = refl; characters = All-nil IsPart; few = omega arith }

-- ---- segments as they are kept

star_at : (id rest : List ℕ) → IsPart id → position_or_len is_star (id ++ 42 ∷ rest) ≡ length id
star_at id rest h =
    let size = length-append id (42 ∷ rest) in
    position_or_len_is is_star (id ++ 42 ∷ rest) (length id) 0 (omega arith)
    (λ k under. ap is_star (get_or_append_left id (42 ∷ rest) 0 k under) ∙ no_star id h k 0 under)
    (λ inside. ap is_star (get_or-append_seam id 42 rest 0))

no_star_at : (id : List ℕ) → IsPart id → position_or_len is_star id ≡ length id
no_star_at id h = position_or_len_is is_star id (length id) 0 (omega arith) (λ k under. no_star id h k 0 under) (λ inside. absurd (omega arith))

row_alone : (id : List ℕ) → IsPart id → kept_row id ≡ id ∷ []
row_alone id h =
    let past : length id ≤ length id + 1 = omega arith in
    ap (λ (n : ℕ). take n id ∷ parted (drop (n + 1) id)) (no_star_at id h)
    ∙ ap (λ (text : List ℕ). text ∷ parted (drop (length id + 1) id)) (take-length id)
    ∙ ap (λ (text : List ℕ). id ∷ parted text) (drop_all (length id + 1) id past)

row_more : (id rest : List ℕ) → IsPart id → kept_row (id ++ 42 ∷ rest) ≡ id ∷ parted rest
row_more id rest h =
    ap (λ (n : ℕ). take n (id ++ 42 ∷ rest) ∷ parted (drop (n + 1) (id ++ 42 ∷ rest))) (star_at id rest h)
    ∙ ap (λ (text : List ℕ). text ∷ parted (drop (length id + 1) (id ++ 42 ∷ rest))) (take-append_seam id (42 ∷ rest))
    ∙ ap (λ (text : List ℕ). id ∷ parted text) (sym (drop-drop 1 (length id) (id ++ 42 ∷ rest)) ∙ ap (drop 1) (drop-append_seam id (42 ∷ rest)))

row_joined : (id : List ℕ) (parts : List (List ℕ)) → All IsPart (id ∷ parts) → IsJoined parts → kept_row (join_with_byte 42 (id ∷ parts)) ≡ id ∷ parts
row_joined id [] h j = row_alone id (All-head IsPart id [] h)
row_joined id (next ∷ more) h j =
    row_more id (join_with_byte 42 (next ∷ more)) (All-head IsPart id (next ∷ more) h)
    ∙ ap (λ (l : List (List ℕ)). id ∷ l) (parted_joined (next ∷ more) (All-tail IsPart id (next ∷ more) h) j)

-- an id is not empty
row_trimmed : (parts : List (List ℕ)) → All IsPart parts → IsTrue (is_id (get_or parts 0 [])) → kept_row (join_with_byte 42 (without_empty_end parts)) ≡ without_empty_end parts
row_trimmed [] h id = cc
row_trimmed ([] ∷ more) h id = cc
row_trimmed ((byte ∷ part) ∷ more) h id =
    row_joined (byte ∷ part) (without_empty_end more) (trim_all IsPart ((byte ∷ part) ∷ more) h) (joined_trimmed more (All-tail IsPart (byte ∷ part) more h))

pub kept_is : (seg : Seg) → IsSegment seg.parts → kept_row (kept_text seg) ≡ without_empty_end seg.parts
kept_is seg s = ap kept_row (text_is seg.parts s.characters) ∙ row_trimmed seg.parts s.characters s.id

pub trimmed_segment : (parts : List (List ℕ)) → IsSegment parts → IsSegment (without_empty_end parts)
trimmed_segment parts s = record {
  characters = trim_all IsPart parts s.characters;
  id = subst (λ (id : List ℕ). IsTrue (is_id id)) (sym (trim_element parts 0)) s.id;
  few = omega (arith, trim_length parts, s.few);
}

-- what is written of a kept segment is kept as the same
pub kept_again : (place : ℕ) (seg : Seg) → IsSegment seg.parts → kept_text (segment_of place (kept_row (kept_text seg))) ≡ kept_text seg
kept_again place seg s =
    ap (λ (row : List (List ℕ)). kept_text (segment_of place row)) (kept_is seg s)
    ∙ trim_tail 0 (without_empty_end seg.parts) ∙ trim_tail 0 seg.parts
