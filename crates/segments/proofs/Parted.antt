-- Parts that are joined by '*', and where each begins and ends in the text.
use Rattle.std.proofs.Common.{◌≡◌, ℕ, zero, suc, ◌+◌, ◌-◌, ◌<◌, ◌≤◌, List, [], ◌∷◌, ◌++◌, length, drop, take, min, get_or, refl, sym, ◌∙◌, ap, arith, append_assoc, length-append, drop-drop}
use Rattle.std.proofs.Math.Seq.{drop-append_seam, take-append_seam, drop-cons}
use Rattle.std.proofs.lemmas.List.{drop_all, get_or-take, get_or_past, length-take, take_all}
use Rattle.std.proofs.lemmas.Bool.Decides.{nat_tests}
use Rattle.std.specs.List.{join_with_byte}
use Rattle.segments.specs.SegmentCut.{parts_of}
use Rattle.segments.specs.PartEnds.{IsSpelled, ends_from, start_of}

pub length-ends_from : (place : ℕ) (parts : List (List ℕ)) → length (ends_from place parts) ≡ length parts
length-ends_from place [] = refl
length-ends_from place (part ∷ more) = omega (arith, length-ends_from (place + length part + 1) more)

-- where a part starts, among ends that begin at this place
start_at : ℕ → List ℕ → ℕ → ℕ
start_at place ends zero = place
start_at place ends (suc number) = get_or ends number 0 + 1

start_at-cons : (place end number : ℕ) (ends : List ℕ) → start_at place (end ∷ ends) (suc number) ≡ start_at (end + 1) ends number
unfolding start_at
start_at-cons place end zero ends = refl
start_at-cons place end (suc number) ends = refl

start_of-later : (ends : List ℕ) (number before : ℕ) → number ≡ before + 1 → start_of ends number ≡ get_or ends (number - 1) 0 + 1
start_of-later ends number before e = grind (arith, nat_tests)

-- a few of the ends say the same
start_of-is : (ends all : List ℕ) (number : ℕ) → number < length ends → ends ≡ take (length ends) all → start_of ends number ≡ start_at 0 all number
unfolding start_at
start_of-is ends all zero inside e = refl
start_of-is ends all (suc number) inside e =
    let under : number < length ends = omega arith in
    let there : suc number - 1 ≡ number = omega arith in
    let same : get_or ends number 0 ≡ get_or all number 0 = ap (λ (l : List ℕ). get_or l number 0) e ∙ get_or-take (length ends) all number 0 under in
    start_of-later ends (suc number) number (omega arith) ∙ ap (λ (k : ℕ). get_or ends k 0 + 1) there ∙ ap (λ (k : ℕ). k + 1) same

-- a part ends behind its bytes
end_at : (place number : ℕ) (parts : List (List ℕ)) → number < length parts → get_or (ends_from place parts) number 0 ≡ start_at place (ends_from place parts) number + length (get_or parts number [])
unfolding start_at
end_at place number [] inside = absurd (omega arith)
end_at place zero (part ∷ more) inside = refl
end_at place (suc number) (part ∷ more) inside =
    rw (start_at-cons place (place + length part) number (ends_from (place + length part + 1) more)) (end_at (place + length part + 1) number more (omega arith))

-- behind the separator stand the parts that are left
tail_there : (place number : ℕ) (parts : List (List ℕ)) (text more : List ℕ) → number < length parts → drop place text ≡ join_with_byte 42 parts ++ more → drop (start_at place (ends_from place parts) number) text ≡ join_with_byte 42 (drop number parts) ++ more
unfolding start_at
tail_there place number [] text more inside h = absurd (omega arith)
tail_there place zero (part ∷ later) text more inside h = h
tail_there place (suc number) (part ∷ []) text more inside h = absurd (omega arith)
tail_there place (suc number) (part ∷ next ∷ later) text more inside h =
    let end : ℕ = place + length part in
    let joined : List ℕ = join_with_byte 42 (next ∷ later) in
    let group : (part ++ (42 ∷ joined)) ++ more ≡ part ++ (42 ∷ joined ++ more) = append_assoc part (42 ∷ joined) more in
    let at_star : drop end text ≡ 42 ∷ (joined ++ more) = sym (drop-drop (length part) place text) ∙ ap (drop (length part)) (h ∙ group) ∙ drop-append_seam part (42 ∷ (joined ++ more)) in
    let behind : drop (end + 1) text ≡ joined ++ more = sym (drop-drop 1 end text) ∙ ap (drop 1) at_star in
    rw (start_at-cons place end number (ends_from (end + 1) (next ∷ later))) (tail_there (end + 1) number (next ∷ later) text more (omega arith) behind)

-- the last part ends where all end
last_at : (place : ℕ) (parts : List (List ℕ)) → 0 < length parts → get_or (ends_from place parts) (length parts - 1) 0 ≡ place + length (join_with_byte 42 parts)
last_at place [] some = absurd (omega arith)
last_at place (part ∷ []) some = refl
last_at place (part ∷ next ∷ later) some =
    let n : length (part ∷ next ∷ later) - 1 ≡ suc (length (next ∷ later) - 1) = omega arith in
    let rest = last_at (place + length part + 1) (next ∷ later) (omega arith) in
    let size = length-append part (42 ∷ join_with_byte 42 (next ∷ later)) in
    rw n (rest ∙ omega arith)

-- so much is left of the text at a part
left_at : (place number : ℕ) (parts : List (List ℕ)) → number < length parts → start_at place (ends_from place parts) number + length (join_with_byte 42 (drop number parts)) ≡ place + length (join_with_byte 42 parts)
unfolding start_at
left_at place number [] inside = absurd (omega arith)
left_at place zero (part ∷ later) inside = refl
left_at place (suc number) (part ∷ []) inside = absurd (omega arith)
left_at place (suc number) (part ∷ next ∷ later) inside =
    let end : ℕ = place + length part in
    let rest = left_at (end + 1) number (next ∷ later) (omega arith) in
    let size = length-append part (42 ∷ join_with_byte 42 (next ∷ later)) in
    rw (start_at-cons place end number (ends_from (end + 1) (next ∷ later))) (rest ∙ omega arith)

-- joined parts begin with the first
first_joined : (part more : List ℕ) (later : List (List ℕ)) → (length part ≤ length (join_with_byte 42 (part ∷ later))) × (take (length part) (join_with_byte 42 (part ∷ later) ++ more) ≡ part)
first_joined part more [] = (omega arith, take-append_seam part more)
first_joined part more (next ∷ later) =
    let joined : List ℕ = join_with_byte 42 (next ∷ later) in
    let group = append_assoc part (42 ∷ joined) more in
    let size = length-append part (42 ∷ joined) in
    (omega arith, rw group (take-append_seam part (42 ∷ joined ++ more)))

-- a slice of a text
pub record IsAt (text : List ℕ) (start end : ℕ) (slice : List ℕ) : Type 0 where
  pub ordered : start ≤ end
  pub inside : end ≤ length text
  pub value : take (end - start) (drop start text) ≡ slice

module _ (bytes ends : List ℕ) (number start : ℕ) (s : IsSpelled bytes) (inside : number < length ends) (starts : start ≡ start_of ends number) where
  -- a part lies between its start and its end
  pub part_found : ends ≡ take (length ends) (ends_from 0 (parts_of bytes)) → IsAt bytes start (get_or ends number 0) (get_or (parts_of bytes) number [])
  part_found e =
      let parts : List (List ℕ) = parts_of bytes in
      let all : List ℕ = ends_from 0 parts in
      let many = length-ends_from 0 parts in
      let kept : length ends ≡ min (length ends) (length all) = ap length e ∙ length-take (length ends) all in
      let under : number < length parts = omega arith in
      let same : get_or ends number 0 ≡ get_or all number 0 = ap (λ (l : List ℕ). get_or l number 0) e ∙ get_or-take (length ends) all number 0 inside in
      let begins : start ≡ start_at 0 all number = starts ∙ start_of-is ends all number inside e in
      let ends_there = end_at 0 number parts under in
      let text = tail_there 0 number parts bytes s.spelled.0 under s.spelled.2 in
      let front = drop-cons parts number [] under in
      let first = first_joined (get_or parts number []) s.spelled.0 (drop (suc number) parts) in
      let left = left_at 0 number parts under in
      let long : length (get_or parts number []) ≤ length (join_with_byte 42 (drop number parts)) = rw front first.0 in
      let whole = ap length s.spelled.2 in
      let sum = length-append (join_with_byte 42 parts) s.spelled.0 in
      let size : get_or ends number 0 - start ≡ length (get_or parts number []) = omega arith in
      let there : drop start bytes ≡ join_with_byte 42 (get_or parts number [] ∷ drop (suc number) parts) ++ s.spelled.0 =
      ap (λ (k : ℕ). drop k bytes) begins ∙ text ∙ ap (λ (l : List (List ℕ)). join_with_byte 42 l ++ s.spelled.0) front in
      record {
        ordered = omega arith;
        inside = omega arith;
        value = rw (size, there) first.1;
      }

  -- so do all parts from one on
  pub tail_found : (last : ℕ) → last ≡ length ends - 1 → ends ≡ ends_from 0 (parts_of bytes) → IsAt bytes start (get_or ends last 0) (join_with_byte 42 (drop number (parts_of bytes)))
  tail_found last l e =
      let parts : List (List ℕ) = parts_of bytes in
      let all : List ℕ = ends_from 0 parts in
      let many = length-ends_from 0 parts in
      let as_many = ap length e in
      let under : number < length parts = omega arith in
      let some : 0 < length parts = omega arith in
      let at_last : last ≡ length parts - 1 = omega arith in
      let same : get_or ends last 0 ≡ get_or all (length parts - 1) 0 = ap (λ (xs : List ℕ). get_or xs last 0) e ∙ ap (λ (k : ℕ). get_or all k 0) at_last in
      let few : ends ≡ take (length ends) all = e ∙ sym (take_all (length ends) all (omega arith)) in
      let begins : start ≡ start_at 0 all number = starts ∙ start_of-is ends all number inside few in
      let ends_there = last_at 0 parts some in
      let text = tail_there 0 number parts bytes s.spelled.0 under s.spelled.2 in
      let left = left_at 0 number parts under in
      let whole = ap length s.spelled.2 in
      let sum = length-append (join_with_byte 42 parts) s.spelled.0 in
      let size : get_or ends last 0 - start ≡ length (join_with_byte 42 (drop number parts)) = omega arith in
      let there : drop start bytes ≡ join_with_byte 42 (drop number parts) ++ s.spelled.0 = ap (λ (k : ℕ). drop k bytes) begins ∙ text in
      record {
        ordered = omega arith;
        inside = omega arith;
        value = rw (size, there) (take-append_seam (join_with_byte 42 (drop number parts)) s.spelled.0);
      }

-- past the last there is none
pub part_past : (bytes ends : List ℕ) (number : ℕ) → ends ≡ ends_from 0 (parts_of bytes) → length ends ≤ number → [] ≡ get_or (parts_of bytes) number []
part_past bytes ends number e past =
    let as_many = ap length e in
    let many = length-ends_from 0 (parts_of bytes) in
    sym (get_or_past (parts_of bytes) number [] (omega arith))

pub tail_past : (bytes ends : List ℕ) (number : ℕ) → ends ≡ ends_from 0 (parts_of bytes) → length ends ≤ number → [] ≡ join_with_byte 42 (drop number (parts_of bytes))
tail_past bytes ends number e past =
    let as_many = ap length e in
    let many = length-ends_from 0 (parts_of bytes) in
    sym (ap (join_with_byte 42) (drop_all number (parts_of bytes) (omega arith)))
