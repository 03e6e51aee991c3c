-- A fault is answered exactly where it stands at the front.
use Rattle.std.proofs.Common.{◌≡◌, ◌≢◌, ℕ, suc, ◌+◌, ◌-◌, ◌<◌, ◌≤◌, true, false, not, cond, nat_eq, nat_lt, List, [], ◌∷◌, ◌++◌, length, take, drop, get_or, Result, Ok, Err, Option, None, inl, inr, refl, sym, ◌∙◌, ap, subst, arith, length-append}
use Rattle.std.proofs.Math.Seq.{drop-append_seam}
use Rattle.std.specs.List.{join_with_byte}
use Rattle.std.proofs.lemmas.Bool.{cases_eq, cases_Bool}
use Rattle.std.proofs.lemmas.Bool.Decides.{nat_tests}
use Rattle.std.proofs.lemmas.List.{take-append-drop, length-take-le}
use Rattle.std.proofs.lemmas.List.Sums.{prefix_len-le-length}
use Rattle.segments.specs.declared.segment_fault.SegmentFault.{SegmentFault}
use Rattle.segments.specs.declared.segment_fault.SegmentFault.TheVariants.{NoEnd, BadByte, BadId, TooLong, TooManyElements}
use Rattle.segments.specs.Views.{Seg, Left}
use Rattle.segments.specs.SegmentSpelling.{is_id, is_inside}
use Rattle.segments.specs.SegmentRefusal.{IsThere, EndsInside, HasBadByte, HasLoneReturn, IsTooLong, HasParts, IsFault}
use Rattle.segments.specs.SegmentCut.{is_outside, body_length, limited, after_return, after_body, size_of, parts_of, with_parts, seg_at, with_size, first_of, some_of, next_of}
use Rattle.segments.specs.declared.segment.TheConstants.{SEGMENT_BYTES, SEGMENT_ELEMENTS}
use Rattle.segments.proofs.Front.{short_is, long_is}
use Rattle.segments.proofs.Sized.{IsSized, sized, some_ending, body_inside}
use Rattle.segments.proofs.Complete.{body_past, judged_is, some_left}
use Rattle.segments.proofs.Scan.{some_of-parts}

-- ---- the bytes

inside_is : (byte : ℕ) → is_outside byte ≡ false → is_inside byte ≡ true
inside_is byte h = grind (arith, nat_tests)

not_outside : (byte : ℕ) → is_inside byte ≡ true → is_outside byte ≡ false
not_outside byte h = ap not h

-- the body and what follows it
front_there : (left : Left) → IsThere left (take (body_length left.rest) left.rest) (drop (body_length left.rest) left.rest)
front_there left = record {
  inside = λ k d under. inside_is (get_or (take (body_length left.rest) left.rest) k d) (body_inside left.rest k d under);
  joined = sym (take-append-drop (body_length left.rest) left.rest);
}

front_long : (rest : List ℕ) → length (take (body_length rest) rest) ≡ body_length rest
front_long rest = length-take-le (body_length rest) rest (prefix_len-le-length (λ b. not (is_outside b)) rest)

past_limit : (start n : ℕ) (fault : SegmentFault) → limited start n ≡ Err fault → (SEGMENT_BYTES < n) × (TooLong start ≡ fault)
past_limit start n fault h = elim (cases_Bool (nat_lt SEGMENT_BYTES n)) [
  | inl long ↦ let e : Err (TooLong start) ≡ Err fault = rw long at h in (grind (arith, nat_tests), cc)
  | inr short ↦ let e : Ok n ≡ Err fault = rw short at h in cc
]

no_feed : (byte : ℕ) → byte ≢ 10 → nat_eq byte 10 ≡ false
no_feed byte h = grind (arith, nat_tests)

no_return : (byte : ℕ) → byte ≢ 13 → nat_eq byte 13 ≡ false
no_return byte h = grind (arith, nat_tests)

full_is : (n : ℕ) → nat_eq n SEGMENT_BYTES ≡ true → n ≡ SEGMENT_BYTES
full_is n h = grind (arith, nat_tests)

room_is : (n : ℕ) → n ≤ SEGMENT_BYTES → nat_eq n SEGMENT_BYTES ≡ false → n ≤ SEGMENT_BYTES - 1
room_is n least h = grind (arith, nat_tests)

outside_is : (byte : ℕ) → is_outside byte ≡ true → is_inside byte ≡ false
outside_is byte h = grind (arith, nat_tests)

-- what follows a body begins with a byte that is outside
abbrev BeginsOutside : List ℕ → Type 0
BeginsOutside [] = Unit {0}
BeginsOutside (byte ∷ more) = is_outside byte ≡ true

begins_outside : (rest : List ℕ) → BeginsOutside (drop (body_length rest) rest)
begins_outside [] = tt
begins_outside (byte ∷ more) = elim (cases_Bool (is_outside byte)) [
  | inl outside ↦ rw outside outside
  | inr inside ↦
      let one : suc (body_length more) ≡ 1 + body_length more = omega arith in
      rw inside (subst (λ (n : ℕ). BeginsOutside (drop n (byte ∷ more))) one (begins_outside more))
]

module _ (left : Left) (body : List ℕ) where
  -- a CR of the first 512 bytes
  fault_behind_return : (after : List ℕ) (fault : SegmentFault) → IsThere left body (13 ∷ after) → length body ≤ SEGMENT_BYTES - 1 → after_return left.place (length body) after ≡ Err fault → IsFault left fault
  fault_behind_return [] fault t early h =
      let e : NoEnd left.place ≡ fault = cc in
      let whole = ap length t.joined ∙ length-append body (13 ∷ []) in
      subst (IsFault left) e (refl, record { body = body; after = 13 ∷ []; there = t; over = inr refl; some = omega arith; short = omega arith })
  fault_behind_return (next ∷ more) fault t early h = elim (cases_eq next 10) [
    | inl feed ↦
        let p = past_limit left.place (length body + 2) fault (rw feed at h) in
        let at : IsThere left body (13 ∷ 10 ∷ more) = subst (λ (b : ℕ). IsThere left body (13 ∷ b ∷ more)) feed t in
        subst (IsFault left) p.1 (refl, record { body = body; after = 13 ∷ 10 ∷ more; there = at; long = inr (inr (more, omega arith, refl)) })
    | inr alone ↦
        let test = no_feed next alone in
        let same : Err (BadByte (left.place + length body) 13) ≡ Err fault = rw test at h in
        let e : BadByte (left.place + length body) 13 ≡ fault = cc in
        subst (IsFault left) e (inr (refl, record { body = body; next = next; more = more; there = t; alone = alone; early = early; at = refl }))
  ]

  fault_at_return : (more : List ℕ) (fault : SegmentFault) → IsThere left body (13 ∷ more) → length body ≤ SEGMENT_BYTES → cond (nat_eq (length body) SEGMENT_BYTES) (Err (TooLong left.place)) (after_return left.place (length body) more) ≡ Err fault → IsFault left fault
  fault_at_return more fault t short h = elim (cases_Bool (nat_eq (length body) SEGMENT_BYTES)) [
    | inl full ↦
        let same : Err (TooLong left.place) ≡ Err fault = rw full at h in
        let e : TooLong left.place ≡ fault = cc in
        subst (IsFault left) e (refl, record { body = body; after = 13 ∷ more; there = t; long = inr (inl (more, full_is (length body) full, inr refl)) })
    | inr room ↦ fault_behind_return more fault t (room_is (length body) short room) (rw room at h)
  ]

  fault_behind : (after : List ℕ) (fault : SegmentFault) → IsThere left body after → BeginsOutside after → 0 < length left.rest → length body ≤ SEGMENT_BYTES → after_body left.place (length body) after ≡ Err fault → IsFault left fault
  fault_behind [] fault t begins some short h =
      let e : NoEnd left.place ≡ fault = cc in
      let whole = ap length t.joined ∙ length-append body [] in
      subst (IsFault left) e (refl, record { body = body; after = []; there = t; over = inl refl; some = some; short = omega arith })
  fault_behind (byte ∷ more) fault t begins some short h = elim (cases_eq byte 10) [
    | inl feed ↦
        let p = past_limit left.place (length body + 1) fault (rw feed at h) in
        let at : IsThere left body (10 ∷ more) = subst (λ (b : ℕ). IsThere left body (b ∷ more)) feed t in
        subst (IsFault left) p.1 (refl, record { body = body; after = 10 ∷ more; there = at; long = inr (inl (more, omega arith, inl refl)) })
    | inr other ↦ elim (cases_eq byte 13) [
      | inl return ↦
          let at : IsThere left body (13 ∷ more) = subst (λ (b : ℕ). IsThere left body (b ∷ more)) return t in
          fault_at_return more fault at short (rw return at h)
      | inr neither ↦
          let feed_test = no_feed byte other in
          let return_test = no_return byte neither in
          let same : Err (BadByte (left.place + length body) byte) ≡ Err fault = rw (feed_test, return_test) at h in
          let e : BadByte (left.place + length body) byte ≡ fault = cc in
          subst (IsFault left) e (inl (record { body = body; more = more; there = t; outside = outside_is byte begins; no_feed = other; no_return = neither; early = short; at = refl }))
    ]
  ]

fault_of-size : (left : Left) (fault : SegmentFault) → 0 < length left.rest → size_of left.place left.rest ≡ Err fault → IsFault left fault
fault_of-size left fault some h =
    let long = front_long left.rest in
    let t = front_there left in
    elim (cases_Bool (nat_lt SEGMENT_BYTES (body_length left.rest))) [
      | inl far ↦
          let same : Err (TooLong left.place) ≡ Err fault = rw far at h in
          let e : TooLong left.place ≡ fault = cc in
          subst (IsFault left) e (refl, record { body = take (body_length left.rest) left.rest; after = drop (body_length left.rest) left.rest; there = t; long = inl (rw long (far_is (body_length left.rest) far)) })
      | inr near ↦
          let behind : after_body left.place (body_length left.rest) (drop (body_length left.rest) left.rest) ≡ Err fault = rw near at h in
          let least : length (take (body_length left.rest) left.rest) ≤ SEGMENT_BYTES = rw long (near_is (body_length left.rest) near) in
          fault_behind left (take (body_length left.rest) left.rest) (drop (body_length left.rest) left.rest) fault t (begins_outside left.rest) some least
          (ap (λ (n : ℕ). after_body left.place n (drop (body_length left.rest) left.rest)) long ∙ behind)
    ]
  where
    far_is : (n : ℕ) → nat_lt SEGMENT_BYTES n ≡ true → SEGMENT_BYTES < n
    far_is n h = grind (arith, nat_tests)

    near_is : (n : ℕ) → nat_lt SEGMENT_BYTES n ≡ false → n ≤ SEGMENT_BYTES
    near_is n h = grind (arith, nat_tests)

-- ---- the parts

fault_of-parts : (left : Left) (size : ℕ) (fault : SegmentFault) → IsSized left.rest size → with_parts (seg_at left.place (take size left.rest)) ≡ Err fault → IsFault left fault
fault_of-parts left size fault s h =
    let parts : List (List ℕ) = parts_of (take size left.rest) in
    let has : HasParts left parts = record {
      bytes = take size left.rest;
      more = drop size left.rest;
      joined = sym (take-append-drop size left.rest);
      spelled = s.spelled.spelled;
      characters = s.spelled.characters;
      some = some_of-parts (take size left.rest);
      short = s.spelled.short;
    } in
    elim (cases_Bool (is_id (get_or (parts_of (take size left.rest)) 0 []))) [
      | inl id ↦ elim (cases_Bool (nat_lt (SEGMENT_ELEMENTS + 1) (length (parts_of (take size left.rest))))) [
        | inl many ↦
            let same : Err (TooManyElements left.place) ≡ Err fault = rw (id, many) at h in
            let e : TooManyElements left.place ≡ fault = cc in
            subst (IsFault left) e (refl, (parts, has, id, many_is (length (parts_of (take size left.rest))) many))
        | inr few ↦ let same : Ok (seg_at left.place (take size left.rest)) ≡ Err fault = rw (id, few) at h in cc
      ]
      | inr none ↦
          let same : Err (BadId left.place) ≡ Err fault = rw none at h in
          let e : BadId left.place ≡ fault = cc in
          subst (IsFault left) e (refl, (parts, has, none))
    ]
  where
    many_is : (n : ℕ) → nat_lt (SEGMENT_ELEMENTS + 1) n ≡ true → SEGMENT_ELEMENTS + 1 < n
    many_is n h = grind (arith, nat_tests)

fault_of-answer : (left : Left) (size : Result ℕ SegmentFault) (fault : SegmentFault) → size_of left.place left.rest ≡ size → 0 < length left.rest → with_size left.place left.rest size ≡ Err fault → IsFault left fault
fault_of-answer left (Err other) fault e some h = fault_of-size left fault some (e ∙ ap (λ (f : SegmentFault). Err f) (same other fault h))
  where
    same : (a b : SegmentFault) → (let r : Result Seg SegmentFault = Err a in r) ≡ Err b → a ≡ b
    same a b h = cc
fault_of-answer left (Ok size) fault e some h = fault_of-parts left size fault (sized left.place size left.rest e) h

-- whatever fault is answered stands at the front
pub fault_of-next : (left : Left) (fault : SegmentFault) → next_of left ≡ Err fault → IsFault left fault
unfolding next_of first_of
fault_of-next left fault h = elim (cases_eq (length left.rest) 0) [
  | inl none ↦ let same : Ok None ≡ Err fault = rw none at h in cc
  | inr some ↦
      let there : 0 < length left.rest = omega arith in
      let first = err_is (first_of left.place left.rest) fault (sym (some_left left.rest (some_of (first_of left.place left.rest)) there) ∙ h) in
      fault_of-answer left (size_of left.place left.rest) fault refl there first
]
  where
    err_is : (answer : Result Seg SegmentFault) (fault : SegmentFault) → some_of answer ≡ Err fault → answer ≡ Err fault
    err_is (Err other) fault h = ap (λ (f : SegmentFault). Err f) (other_is other fault h)
      where
        other_is : (a b : SegmentFault) → (let r : Result (Option Seg) SegmentFault = Err a in r) ≡ Err b → a ≡ b
        other_is a b h = cc
    err_is (Ok seg) fault h = cc

-- ---- whatever fault stands at the front is answered

pub next_of-first : (left : Left) (fault : SegmentFault) → 0 < length left.rest → first_of left.place left.rest ≡ Err fault → next_of left ≡ Err fault
unfolding next_of
next_of-first left fault some h = some_left left.rest (some_of (first_of left.place left.rest)) some ∙ ap some_of h

next_of-size : (left : Left) (fault : SegmentFault) → 0 < length left.rest → size_of left.place left.rest ≡ Err fault → next_of left ≡ Err fault
unfolding first_of
next_of-size left fault some h = next_of-first left fault some (ap (with_size left.place left.rest) h)

body_none : (after : List ℕ) → BeginsOutside after → body_length after ≡ 0
body_none [] h = refl
body_none (byte ∷ more) h = rw h refl

module _ (left : Left) (body after : List ℕ) (t : IsThere left body after) where
  body_least : body_length left.rest ≡ length body + body_length after
  body_least = ap body_length t.joined ∙ body_past body after (λ k d under. not_outside (get_or body k d) (t.inside k d under))

  size_behind : BeginsOutside after → length body ≤ SEGMENT_BYTES → size_of left.place left.rest ≡ after_body left.place (length body) after
  size_behind begins short =
      let long : body_length left.rest ≡ length body = body_least ∙ omega (arith, body_none after begins) in
      let behind : drop (length body) left.rest ≡ after = ap (drop (length body)) t.joined ∙ drop-append_seam body after in
      ap (λ (n : ℕ). cond (nat_lt SEGMENT_BYTES n) (Err (TooLong left.place)) (after_body left.place n (drop n left.rest))) long
      ∙ short_is left.place (length body) left.rest short ∙ ap (after_body left.place (length body)) behind

  size_long : SEGMENT_BYTES < length body → size_of left.place left.rest ≡ Err (TooLong left.place)
  size_long far =
      let least = body_least in
      long_is left.place (body_length left.rest) left.rest (omega arith)

  whole_size : length left.rest ≡ length body + length after
  whole_size = ap length t.joined ∙ length-append body after

at_return : (start n : ℕ) (more : List ℕ) → n ≤ SEGMENT_BYTES - 1 → after_body start n (13 ∷ more) ≡ after_return start n more
at_return start n more room =
    let test : nat_eq n SEGMENT_BYTES ≡ false = grind (arith, nat_tests) in
    rw test refl

return_past : (start n : ℕ) (more : List ℕ) → n ≡ SEGMENT_BYTES → after_body start n (13 ∷ more) ≡ Err (TooLong start)
return_past start n more full = rw full refl

feed_past : (start n : ℕ) (more : List ℕ) → n ≡ SEGMENT_BYTES → after_body start n (10 ∷ more) ≡ Err (TooLong start)
feed_past start n more full = rw full refl

return_feed_past : (start n : ℕ) (more : List ℕ) → n ≡ SEGMENT_BYTES - 1 → after_return start n (10 ∷ more) ≡ Err (TooLong start)
return_feed_past start n more full = rw full refl

next_of-no_end : (left : Left) → EndsInside left → next_of left ≡ Err (NoEnd left.place)
next_of-no_end left f = elim f.over [
  | inl over ↦
      let t : IsThere left f.body [] = subst (IsThere left f.body) over f.there in
      let whole = whole_size left f.body [] t in
      let short = f.short in
      next_of-size left (NoEnd left.place) f.some (size_behind left f.body [] t tt (omega arith))
  | inr return ↦
      let t : IsThere left f.body (13 ∷ []) = subst (IsThere left f.body) return f.there in
      let whole = whole_size left f.body (13 ∷ []) t in
      let short = f.short in
      next_of-size left (NoEnd left.place) f.some (size_behind left f.body (13 ∷ []) t refl (omega arith) ∙ at_return left.place (length f.body) [] (omega arith))
]

next_of-bad_byte : (left : Left) (place byte : ℕ) → HasBadByte left place byte → next_of left ≡ Err (BadByte place byte)
next_of-bad_byte left place byte f =
    let whole = whole_size left f.body (byte ∷ f.more) f.there in
    let feed_test = no_feed byte f.no_feed in
    let return_test = no_return byte f.no_return in
    let judged : after_body left.place (length f.body) (byte ∷ f.more) ≡ Err (BadByte (left.place + length f.body) byte) = rw (feed_test, return_test) refl in
    let size = size_behind left f.body (byte ∷ f.more) f.there (ap not f.outside) f.early ∙ judged in
    next_of-size left (BadByte place byte) (omega arith) (size ∙ ap (λ (n : ℕ). Err (BadByte n byte)) (sym f.at))

next_of-return : (left : Left) (place : ℕ) → HasLoneReturn left place → next_of left ≡ Err (BadByte place 13)
next_of-return left place f =
    let whole = whole_size left f.body (13 ∷ f.next ∷ f.more) f.there in
    let early = f.early in
    let feed_test = no_feed f.next f.alone in
    let judged : after_return left.place (length f.body) (f.next ∷ f.more) ≡ Err (BadByte (left.place + length f.body) 13) = rw feed_test refl in
    let size = size_behind left f.body (13 ∷ f.next ∷ f.more) f.there refl (omega arith) ∙ at_return left.place (length f.body) (f.next ∷ f.more) early ∙ judged in
    next_of-size left (BadByte place 13) (omega arith) (size ∙ ap (λ (n : ℕ). Err (BadByte n 13)) (sym f.at))

next_of-long : (left : Left) → IsTooLong left → next_of left ≡ Err (TooLong left.place)
next_of-long left f = elim f.long [
  | inl far ↦
      let whole = whole_size left f.body f.after f.there in
      next_of-size left (TooLong left.place) (omega arith) (size_long left f.body f.after f.there far)
  | inr near ↦ elim near [
    | inl last ↦ elim last.2 [
      | inl feed ↦
          let t : IsThere left f.body (10 ∷ last.0) = subst (IsThere left f.body) feed f.there in
          let whole = whole_size left f.body (10 ∷ last.0) t in
          let full = last.1 in
          next_of-size left (TooLong left.place) (omega arith) (size_behind left f.body (10 ∷ last.0) t refl (omega arith) ∙ feed_past left.place (length f.body) last.0 full)
      | inr return ↦
          let t : IsThere left f.body (13 ∷ last.0) = subst (IsThere left f.body) return f.there in
          let whole = whole_size left f.body (13 ∷ last.0) t in
          let full = last.1 in
          next_of-size left (TooLong left.place) (omega arith) (size_behind left f.body (13 ∷ last.0) t refl (omega arith) ∙ return_past left.place (length f.body) last.0 full)
    ]
    | inr both ↦
        let t : IsThere left f.body (13 ∷ 10 ∷ both.0) = subst (IsThere left f.body) both.2 f.there in
        let whole = whole_size left f.body (13 ∷ 10 ∷ both.0) t in
        let full = both.1 in
        next_of-size left (TooLong left.place) (omega arith)
        (size_behind left f.body (13 ∷ 10 ∷ both.0) t refl (omega arith) ∙ at_return left.place (length f.body) (10 ∷ both.0) (omega arith) ∙ return_feed_past left.place (length f.body) both.0 full)
  ]
]

-- the parts that are spelled are judged
next_of-parts : (left : Left) (parts : List (List ℕ)) (fault : SegmentFault) → HasParts left parts → ((bytes : List ℕ) → with_parts (record { start = left.place; bytes = bytes; parts = parts }) ≡ Err fault) → next_of left ≡ Err fault
next_of-parts left parts fault f judged =
    let ending : List ℕ = f.spelled.0 in
    let bytes : f.bytes ≡ join_with_byte 42 parts ++ ending = f.spelled.2 in
    let size = ap length bytes ∙ length-append (join_with_byte 42 parts) ending in
    let whole = ap length f.joined ∙ length-append f.bytes f.more in
    let some = some_ending ending f.spelled.1 in
    let short = f.short in
    let text : left.rest ≡ (join_with_byte 42 parts ++ ending) ++ f.more = f.joined ∙ ap (λ (l : List ℕ). l ++ f.more) bytes in
    next_of-first left fault (omega arith)
    (ap (first_of left.place) text ∙ judged_is left.place parts ending f.more f.some f.characters f.spelled.1 (omega arith) ∙ judged (join_with_byte 42 parts ++ ending))

no_id : (start : ℕ) (parts : List (List ℕ)) (bytes : List ℕ) → is_id (get_or parts 0 []) ≡ false → with_parts (record { start = start; bytes = bytes; parts = parts }) ≡ Err (BadId start)
no_id start parts bytes none = rw none refl

too_many : (start : ℕ) (parts : List (List ℕ)) (bytes : List ℕ) → is_id (get_or parts 0 []) ≡ true → SEGMENT_ELEMENTS + 1 < length parts → with_parts (record { start = start; bytes = bytes; parts = parts }) ≡ Err (TooManyElements start)
too_many start parts bytes id many =
    let test : nat_lt (SEGMENT_ELEMENTS + 1) (length parts) ≡ true = grind (arith, nat_tests) in
    rw (id, test) refl

pub next_of-fault : (left : Left) (fault : SegmentFault) → IsFault left fault → next_of left ≡ Err fault
next_of-fault left (NoEnd start) f = next_of-no_end left f.1 ∙ ap (λ (n : ℕ). Err (NoEnd n)) (sym f.0)
next_of-fault left (BadByte place byte) (inl f) = next_of-bad_byte left place byte f
next_of-fault left (BadByte place byte) (inr f) = next_of-return left place f.1 ∙ ap (λ (b : ℕ). Err (BadByte place b)) (sym f.0)
next_of-fault left (BadId start) f = next_of-parts left f.1.0 (BadId left.place) f.1.1 (λ bytes. no_id left.place f.1.0 bytes f.1.2) ∙ ap (λ (n : ℕ). Err (BadId n)) (sym f.0)
next_of-fault left (TooLong start) f = next_of-long left f.1 ∙ ap (λ (n : ℕ). Err (TooLong n)) (sym f.0)
next_of-fault left (TooManyElements start) f =
    next_of-parts left f.1.0 (TooManyElements left.place) f.1.1 (λ bytes. too_many left.place f.1.0 bytes f.1.2 f.1.3) ∙ ap (λ (n : ℕ). Err (TooManyElements n)) (sym f.0)
