-- A writer keeps its text, one call after another, and what it ends is spelled.
use Rattle.std.proofs.Common.{◌≡◌, ℕ, ◌+◌, ◌-◌, ◌<◌, ◌≤◌, ◌&&◌, Bool, true, false, nat_le, IsTrue, IsSome, List, [], ◌∷◌, ◌++◌, length, take, drop, get_or, Option, Some, None, inl, inr, refl, sym, ◌∙◌, ap, subst, arith, append-nil, append_assoc, length-append}
use Rattle.std.specs.Char.{is_ascii_uppercase}
use Rattle.std.specs.List.{All, AllPass, join_with_byte, list_all, slice_split, onto_first}
use Rattle.std.proofs.Math.Seq.{take-append-add, take-length}
use Rattle.std.proofs.lemmas.Bool.{cases_Bool}
use Rattle.std.proofs.lemmas.Bool.Decides.{nat_tests}
use Rattle.std.proofs.lemmas.List.{drop-append-le, get_or_append_left, length-drop, length-take-le, take-append-drop, take-append-le, drop_all}
use Rattle.std.proofs.lemmas.List.Elements.{All-cons, All-nil, All-push, All-head, All-tail}
use Rattle.std.proofs.lemmas.List.Splits.{join_with_byte-slice_split, length-slice_split, slice_split_none}
use Rattle.std.proofs.lemmas.List.Sums.{AllPass-from_list_all}
use Rattle.dsd_values.specs.Reading.{IsElementText, is_no_element_byte}
use Rattle.dsd_values.proofs.Refusals.{all_pass}
use Rattle.segments.specs.Views.{Seg}
use Rattle.segments.specs.SegmentSpelling.{IsPart, IsSegment, SpellsSegment, SpellsSegments, is_element_character, is_id, is_id_byte, is_star}
use Rattle.segments.specs.SegmentWriting.{Gains, IsLine, IsWritten, IsWrittenText, KeepsBegun, KeepsOpen, KeepsWriter, Written, begun_in, begun_with, ended, given, line_of, parts_of_begun, segment_of, segments_of, text_of, without_empty_end, written_in}
use Rattle.segments.specs.declared.segment_write_fault.TheConstants.{SEGMENT_WRITTEN}
use Rattle.segments.proofs.EmptyEnds.{trim_filled, trim_empty, trim_twice, trim_element, trim_length, trim_all}

-- ---- parts

no_star_byte : (byte : ℕ) → is_element_character byte ≡ true → is_star byte ≡ false
no_star_byte byte h = grind (arith, nat_tests)

pub no_star : (part : List ℕ) → IsPart part → All (λ b. is_star b ≡ false) part
no_star part h = λ k d under. no_star_byte (get_or part k d) (h k d under)

both : (a b : Bool) → (a && b) ≡ true → (a ≡ true) × (b ≡ true)
both true b e = (refl, e)
both false b e = cc

id_character : (byte : ℕ) → is_id_byte byte ≡ true → is_element_character byte ≡ true
id_character byte h = grind (arith, nat_tests)

id_characters : (text : List ℕ) → AllPass is_id_byte text → IsPart text
id_characters text h = λ k d under. id_character (get_or text k d) (h k d under)

element_character : (byte : ℕ) → is_no_element_byte byte ≡ false → is_element_character byte ≡ true
element_character byte h = grind (arith, nat_tests)

pub element_part : (text : List ℕ) → IsElementText text → IsPart text
element_part text h = all_pass is_no_element_byte (λ byte. is_element_character byte ≡ true) element_character text h

-- ---- a text that is given more

some_split : (body : List ℕ) → 0 < length (slice_split is_star body)
some_split body = omega (arith, length-slice_split is_star body)

onto_first_push : (byte : ℕ) (parts : List (List ℕ)) (part : List ℕ) → 0 < length parts → onto_first byte (parts ++ part ∷ []) ≡ onto_first byte parts ++ part ∷ []
onto_first_push byte [] part some = absurd (omega arith)
onto_first_push byte (first ∷ more) part some = refl

-- a '*' and an element are one more part
pub split_more : (body part : List ℕ) → IsPart part → slice_split is_star (body ++ 42 ∷ part) ≡ slice_split is_star body ++ part ∷ []
split_more [] part h = ap (λ (parts : List (List ℕ)). [] ∷ parts) (slice_split_none is_star part (no_star part h))
split_more (byte ∷ body) part h =
    let rest = split_more body part h in
    elim (cases_Bool (is_star byte)) [
      | inl star ↦ rw star (ap (λ (parts : List (List ℕ)). [] ∷ parts) rest)
      | inr other ↦ rw other (ap (onto_first byte) rest ∙ onto_first_push byte (slice_split is_star body) part (some_split body))
    ]

-- ---- ids

upper_character : (byte : ℕ) → is_ascii_uppercase byte ≡ true → is_element_character byte ≡ true
upper_character byte h = grind (arith, nat_tests)

pub id_part : (id : List ℕ) → IsTrue (is_id id) → IsPart id
id_part [] h = cc
id_part (first ∷ more) h =
    let upper : Bool = is_ascii_uppercase first in
    let inner : Bool = list_all is_id_byte more in
    let short = both (upper && inner && nat_le 1 (length more)) (nat_le (length more) 2) h in
    let long = both (upper && inner) (nat_le 1 (length more)) short.0 in
    let bytes = both upper inner long.0 in
    All-cons (λ byte. is_element_character byte ≡ true) first more (upper_character first bytes.0) (id_characters more (AllPass-from_list_all is_id_byte more bytes.1))

id_some : (id : List ℕ) → IsTrue (is_id id) → 0 < length id
id_some [] h = cc
id_some (first ∷ more) h = omega arith

id_alone : (id : List ℕ) → IsTrue (is_id id) → slice_split is_star id ≡ id ∷ []
id_alone id h = slice_split_none is_star id (no_star id (id_part id h))

trim_alone : (id : List ℕ) → 0 < length id → without_empty_end (id ∷ []) ≡ id ∷ []
trim_alone [] some = absurd (omega arith)
trim_alone (first ∷ more) some = refl

-- ---- the segment that is begun

segment_alone : (id : List ℕ) → IsTrue (is_id id) → IsSegment (id ∷ [])
segment_alone id h = record { characters = All-cons IsPart id [] (id_part id h) (All-nil IsPart); id = h; few = omega arith }

segment_more : (parts : List (List ℕ)) (part : List ℕ) → IsSegment parts → IsPart part → 0 < length parts → length parts ≤ 30 → IsSegment (parts ++ part ∷ [])
segment_more parts part s h some few = record {
  characters = All-push IsPart parts part s.characters h;
  id = subst (λ (id : List ℕ). IsTrue (is_id id)) (sym (get_or_append_left parts (part ∷ []) [] 0 some)) s.id;
  few = omega (arith, length-append parts (part ∷ []));
}

keeps_id : (id : List ℕ) → IsTrue (is_id id) → KeepsBegun id (length id)
keeps_id id h =
    let split = id_alone id h in
    let joined : join_with_byte 42 (without_empty_end (slice_split is_star id)) ≡ id =
    ap (λ (parts : List (List ℕ)). join_with_byte 42 (without_empty_end parts)) split ∙ ap (join_with_byte 42) (trim_alone id (id_some id h)) in
    record { segment = subst IsSegment (sym split) (segment_alone id h); inside = omega arith; front = take-length id ∙ sym joined }

keeps_filled : (body part : List ℕ) (byte filled : ℕ) → KeepsBegun body filled → IsPart (byte ∷ part) → length (slice_split is_star body) ≤ 30 → KeepsBegun (body ++ 42 ∷ byte ∷ part) (length (body ++ 42 ∷ byte ∷ part))
keeps_filled body part byte filled k h few =
    let whole : List ℕ = body ++ 42 ∷ byte ∷ part in
    let split = split_more body (byte ∷ part) h in
    let joined : join_with_byte 42 (without_empty_end (slice_split is_star whole)) ≡ whole =
    ap (λ (parts : List (List ℕ)). join_with_byte 42 (without_empty_end parts)) split
    ∙ ap (join_with_byte 42) (trim_filled (slice_split is_star body) byte part ∙ sym split)
    ∙ join_with_byte-slice_split 42 whole in
    record {
      segment = subst IsSegment (sym split) (segment_more (slice_split is_star body) (byte ∷ part) k.segment h (some_split body) few);
      inside = omega arith;
      front = take-length whole ∙ sym joined;
    }

keeps_empty : (body : List ℕ) (filled : ℕ) → KeepsBegun body filled → length (slice_split is_star body) ≤ 30 → KeepsBegun (body ++ 42 ∷ []) filled
keeps_empty body filled k few =
    let split = split_more body [] (All-nil (λ byte. is_element_character byte ≡ true)) in
    let trimmed = ap without_empty_end split ∙ trim_empty (slice_split is_star body) in
    let inside = k.inside in
    record {
      segment = subst IsSegment (sym split) (segment_more (slice_split is_star body) [] k.segment (All-nil (λ byte. is_element_character byte ≡ true)) (some_split body) few);
      inside = omega (arith, length-append body (42 ∷ []));
      front = take-append-le filled body (42 ∷ []) inside ∙ k.front ∙ ap (join_with_byte 42) (sym trimmed);
    }

keeps_more : (body part : List ℕ) (filled later : ℕ) → KeepsBegun body filled → IsPart part → length (slice_split is_star body) ≤ 30 → (length part ≡ 0 → later ≡ filled) → (0 < length part → later ≡ length (body ++ 42 ∷ part)) → KeepsBegun (body ++ 42 ∷ part) later
keeps_more body [] filled later k h few none some = subst (λ (n : ℕ). KeepsBegun (body ++ 42 ∷ []) n) (sym (none refl)) (keeps_empty body filled k few)
keeps_more body (byte ∷ part) filled later k h few none some =
    let filled_now : 0 < length (byte ∷ part) = omega arith in
    subst (λ (n : ℕ). KeepsBegun (body ++ 42 ∷ byte ∷ part) n) (sym (some filled_now)) (keeps_filled body part byte filled k h few)

-- ---- begun or not

none_body : (body : List ℕ) → begun_in body ≡ None → body ≡ []
none_body [] h = refl
none_body (byte ∷ more) h = cc

some_body : (body : List ℕ) → IsSome (begun_in body) → 0 < length body
some_body [] h = cc
some_body (byte ∷ more) h = omega arith

begun_some : (body : List ℕ) → 0 < length body → begun_in body ≡ Some (slice_split is_star body)
begun_some [] some = absurd (omega arith)
begun_some (byte ∷ more) some = refl

open_begun : (body : List ℕ) (filled : ℕ) → 0 < length body → KeepsOpen body filled → KeepsBegun body filled
open_begun [] filled some k = absurd (omega arith)
open_begun (byte ∷ more) filled some k = k

begun_open : (body : List ℕ) (filled : ℕ) → 0 < length body → KeepsBegun body filled → KeepsOpen body filled
begun_open [] filled some k = absurd (omega arith)
begun_open (byte ∷ more) filled some k = k

-- ---- what is ended is spelled

pub segment_spelled : (place : ℕ) (parts : List (List ℕ)) → IsLine parts → SpellsSegment (segment_of place parts)
segment_spelled place parts line =
    let shorter = trim_length parts in
    let few = line.segment.few in
    let short : length (line_of parts) ≤ SEGMENT_WRITTEN = line.short in
    record {
      segment = record {
        characters = trim_all IsPart parts line.segment.characters;
        id = subst (λ (id : List ℕ). IsTrue (is_id id)) (sym (trim_element parts 0)) line.segment.id;
        few = omega arith;
      };
      spelled = (13 ∷ 10 ∷ [], inr refl, refl);
      short = omega arith;
    }

pub segment_written : (place : ℕ) (parts : List (List ℕ)) → IsLine parts → IsWritten (segment_of place parts)
segment_written place parts line =
    let twice = trim_twice parts in
    record { trimmed = twice; spelled = refl; short = line.short }

spelled_push : (place : ℕ) (segments : List Seg) (text : List ℕ) (seg : Seg) → SpellsSegments place segments text → SpellsSegment seg → seg.start ≡ place + length text → SpellsSegments place (segments ++ seg ∷ []) (text ++ seg.bytes)
spelled_push place [] text seg h s at =
    let none = ap length h in
    let there : place + length text ≡ place = omega arith in
    (s, at ∙ there, ([], ap (λ (l : List ℕ). l ++ seg.bytes) h ∙ sym (append-nil seg.bytes), refl))
spelled_push place (first ∷ more) text seg h s at =
    let rest : List ℕ = h.2.0 in
    let size = ap length h.2.1 ∙ length-append first.bytes rest in
    let behind : place + length text ≡ place + length first.bytes + length rest = omega arith in
    let later = spelled_push (place + length first.bytes) more rest seg h.2.2 s (at ∙ behind) in
    (h.0, h.1, (rest ++ seg.bytes, ap (λ (l : List ℕ). l ++ seg.bytes) h.2.1 ∙ append_assoc first.bytes rest seg.bytes, later))

pub gains_line : (text : List ℕ) (parts : List (List ℕ)) → IsLine parts → Gains parts text (text ++ line_of parts)
gains_line text parts line = λ segments h.
    let here : length text ≡ 0 + length text = omega arith in
    spelled_push 0 segments text (segment_of (length text) parts) h (segment_spelled (length text) parts line) here

pub lines_written : (place : ℕ) (rows : List (List (List ℕ))) → All IsLine rows → All IsWritten (segments_of place rows)
lines_written place [] all = All-nil IsWritten
lines_written place (row ∷ rows) all =
    All-cons IsWritten (segment_of place row) (segments_of (place + length (line_of row)) rows) (segment_written place row (All-head IsLine row rows all))
    (lines_written (place + length (line_of row)) rows (All-tail IsLine row rows all))

written_more : (text : List ℕ) (parts : List (List ℕ)) → IsWrittenText text → IsLine parts → IsWrittenText (text ++ line_of parts)
written_more text parts w line = record {
  segments = w.segments ++ segment_of (length text) parts ∷ [];
  spelled = gains_line text parts line w.segments w.spelled;
  written = All-push IsWritten w.segments (segment_of (length text) parts) w.written (segment_written (length text) parts line);
}

pub lines_spelled : (place : ℕ) (rows : List (List (List ℕ))) → All IsLine rows → SpellsSegments place (segments_of place rows) (text_of rows)
lines_spelled place [] h = refl
lines_spelled place (parts ∷ more) h =
    (segment_spelled place parts (All-head IsLine parts more h), refl, (text_of more, refl, lines_spelled (place + length (line_of parts)) more (All-tail IsLine parts more h)))

-- ---- the writer, call by call

abbrev seen : List ℕ → Option (List (List ℕ)) → Written
seen text begun = record { text = text; begun = begun }

module _ (text : List ℕ) (place filled : ℕ) (k : KeepsWriter text place filled) (old : Written) (is : written_in text place ≡ old) where
  sized : length text ≡ place + length (drop place text)
  sized =
      let inside = k.inside in
      let behind = length-drop place text in
      omega arith

  none_behind : old.begun ≡ None → drop place text ≡ []
  none_behind h = none_body (drop place text) (ap (λ (w : Written). w.begun) is ∙ h)

  some_behind : IsSome old.begun → 0 < length (drop place text)
  some_behind h = some_body (drop place text) (subst (λ (w : Written). IsSome w.begun) (sym is) h)

  parts_behind : IsSome old.begun → parts_of_begun old.begun ≡ slice_split is_star (drop place text)
  parts_behind h = ap (λ (w : Written). parts_of_begun w.begun) (sym is) ∙ ap parts_of_begun (begun_some (drop place text) (some_behind h))

  front_of : (more new : List ℕ) → new ≡ text ++ more → take place new ≡ take place text
  front_of more new e = ap (take place) e ∙ take-append-le place text more k.inside

  back_of : (more new : List ℕ) → new ≡ text ++ more → drop place new ≡ drop place text ++ more
  back_of more new e = ap (drop place) e ∙ drop-append-le place text more k.inside

  -- an id is begun
  back_begin : (id new : List ℕ) → old.begun ≡ None → new ≡ text ++ id → drop place new ≡ id
  back_begin id new none e = back_of id new e ∙ ap (λ (l : List ℕ). l ++ id) (none_behind none)

  pub keeps_begin : (id new : List ℕ) → old.begun ≡ None → IsTrue (is_id id) → new ≡ text ++ id → KeepsWriter new place (length new)
  keeps_begin id new none h e =
      let whole = ap length e ∙ length-append text id in
      let all = sized in
      let nothing = ap length (none_behind none) in
      let size : length new - place ≡ length id = omega arith in
      record {
        inside = omega arith;
        ordered = omega arith;
        written = subst IsWrittenText (sym (front_of id new e)) k.written;
        begun = subst (λ (b : List ℕ). KeepsOpen b (length new - place)) (sym (back_begin id new none e)) (subst (λ (n : ℕ). KeepsOpen id n) (sym size) (begun_open id (length id) (id_some id h) (keeps_id id h)));
      }

  pub sees_begin : (id new : List ℕ) → old.begun ≡ None → IsTrue (is_id id) → new ≡ text ++ id → written_in new place ≡ begun_with id old
  sees_begin id new none h e =
      ap (λ (l : List ℕ). seen l (begun_in (drop place new))) (front_of id new e)
      ∙ ap (seen (take place text)) (ap begun_in (back_begin id new none e) ∙ begun_some id (id_some id h) ∙ ap (λ (parts : List (List ℕ)). Some parts) (id_alone id h))
      ∙ ap (begun_with id) is

  -- an element is given
  pub keeps_given : (part new : List ℕ) (later : ℕ) → IsSome old.begun → IsPart part → length (parts_of_begun old.begun) ≤ 30 → new ≡ text ++ 42 ∷ part → (length part ≡ 0 → later ≡ filled) → (0 < length part → later ≡ length new) → KeepsWriter new place later
  keeps_given part new later begun h few e none some =
      let there = some_behind begun in
      let kept = open_begun (drop place text) (filled - place) there k.begun in
      let whole = ap length e ∙ length-append text (42 ∷ part) in
      let back = back_of (42 ∷ part) new e in
      let size = length-append (drop place text) (42 ∷ part) in
      let all = sized in
      let order = k.ordered in
      let as_few : length (slice_split is_star (drop place text)) ≤ 30 = omega (arith, ap length (parts_behind begun)) in
      let after : place ≤ later = grown part later there none some whole in
      record {
        inside = omega arith;
        ordered = after;
        written = subst IsWrittenText (sym (front_of (42 ∷ part) new e)) k.written;
        begun = subst (λ (b : List ℕ). KeepsOpen b (later - place)) (sym back) (begun_open (drop place text ++ 42 ∷ part) (later - place) (omega arith) (keeps_more (drop place text) part (filled - place) (later - place) kept h as_few (λ z. ap (λ (n : ℕ). n - place) (none z)) (λ s. ap (λ (n : ℕ). n - place) (some s) ∙ left_of whole size all)));
      }
    where
      grown : (part : List ℕ) (later : ℕ) → 0 < length (drop place text) → (length part ≡ 0 → later ≡ filled) → (0 < length part → later ≡ length new) → length new ≡ length text + length (42 ∷ part) → place ≤ later
      grown [] later there none some whole = let same = none refl in let order = k.ordered in omega arith
      grown (byte ∷ part) later there none some whole = let same = some (omega arith) in let inside = k.inside in omega arith

      left_of : length new ≡ length text + length (42 ∷ part) → length (drop place text ++ 42 ∷ part) ≡ length (drop place text) + length (42 ∷ part) → length text ≡ place + length (drop place text) → length new - place ≡ length (drop place text ++ 42 ∷ part)
      left_of whole size all = omega arith

  pub sees_given : (part new : List ℕ) → IsSome old.begun → IsPart part → new ≡ text ++ 42 ∷ part → written_in new place ≡ given part old
  sees_given part new begun h e =
      let some : 0 < length (drop place text ++ 42 ∷ part) = omega (arith, length-append (drop place text) (42 ∷ part)) in
      let parts : begun_in (drop place new) ≡ Some (parts_of_begun old.begun ++ part ∷ []) =
      ap begun_in (back_of (42 ∷ part) new e) ∙ begun_some (drop place text ++ 42 ∷ part) some
      ∙ ap (λ (ps : List (List ℕ)). Some ps) (split_more (drop place text) part h ∙ ap (λ (ps : List (List ℕ)). ps ++ part ∷ []) (sym (parts_behind begun))) in
      ap (λ (l : List ℕ). seen l (begun_in (drop place new))) (front_of (42 ∷ part) new e)
      ∙ ap (seen (take place text)) parts
      ∙ ap (λ (w : Written). seen w.text (Some (parts_of_begun old.begun ++ part ∷ []))) is

  -- the segment is ended
  pub line_length : IsSome old.begun → length (line_of (parts_of_begun old.begun)) ≡ filled - place + 2
  line_length begun =
      let kept = open_begun (drop place text) (filled - place) (some_behind begun) k.begun in
      let inside = kept.inside in
      let front = ap length kept.front in
      let taken = length-take-le (filled - place) (drop place text) inside in
      let joined : List ℕ = join_with_byte 42 (without_empty_end (slice_split is_star (drop place text))) in
      let sum = length-append joined (13 ∷ 10 ∷ []) in
      ap (λ (parts : List (List ℕ)). length (line_of parts)) (parts_behind begun) ∙ omega arith

  line_is : (begun : IsSome old.begun) (short : filled - place + 2 ≤ SEGMENT_WRITTEN) → IsLine (parts_of_begun old.begun)
  line_is begun short =
      let kept = open_begun (drop place text) (filled - place) (some_behind begun) k.begun in
      let size = line_length begun in
      let few : length (line_of (parts_of_begun old.begun)) ≤ SEGMENT_WRITTEN = omega arith in
      record { segment = subst IsSegment (sym (parts_behind begun)) kept.segment; short = few }

  pub filled_inside : filled ≤ length text
  filled_inside =
      let all = sized in
      let order = k.ordered in
      let under = open_under (drop place text) (filled - place) k.begun in
      omega arith
    where
      open_under : (body : List ℕ) (n : ℕ) → KeepsOpen body n → n ≤ length body
      open_under [] n k = omega arith
      open_under (byte ∷ more) n k = k.inside

  -- what is written then
  new_text : (new : List ℕ) → IsSome old.begun → new ≡ take filled text ++ 13 ∷ 10 ∷ [] → new ≡ old.text ++ line_of (parts_of_begun old.begun)
  new_text new begun e =
      let kept = open_begun (drop place text) (filled - place) (some_behind begun) k.begun in
      let front : List ℕ = take place text in
      let size = length-take-le place text k.inside in
      let order = k.ordered in
      let at : filled ≡ length front + (filled - place) = omega arith in
      let cut : take filled text ≡ front ++ take (filled - place) (drop place text) =
      ap (λ (n : ℕ). take n text) at ∙ ap (take (length front + (filled - place))) (sym (take-append-drop place text)) ∙ take-append-add front (drop place text) (filled - place) in
      let body : take (filled - place) (drop place text) ++ 13 ∷ 10 ∷ [] ≡ line_of (slice_split is_star (drop place text)) = ap (λ (l : List ℕ). l ++ 13 ∷ 10 ∷ []) kept.front in
      e ∙ ap (λ (l : List ℕ). l ++ 13 ∷ 10 ∷ []) cut ∙ append_assoc front (take (filled - place) (drop place text)) (13 ∷ 10 ∷ []) ∙ ap (λ (l : List ℕ). front ++ l) body
      ∙ ap (λ (parts : List (List ℕ)). front ++ line_of parts) (sym (parts_behind begun)) ∙ ap (λ (w : Written). w.text ++ line_of (parts_of_begun old.begun)) is

  pub keeps_end : (new : List ℕ) → IsSome old.begun → filled - place + 2 ≤ SEGMENT_WRITTEN → new ≡ take filled text ++ 13 ∷ 10 ∷ [] → KeepsWriter new (length new) (length new)
  keeps_end new begun short e =
      let before : IsWrittenText old.text = subst (λ (w : Written). IsWrittenText w.text) is k.written in
      let after : IsWrittenText new = subst IsWrittenText (sym (new_text new begun e)) (written_more old.text (parts_of_begun old.begun) before (line_is begun short)) in
      let none : drop (length new) new ≡ [] = drop_all (length new) new (omega arith) in
      let zero_left : length new - length new ≡ 0 = omega arith in
      record {
        inside = omega arith;
        ordered = omega arith;
        written = subst IsWrittenText (sym (take-length new)) after;
        begun = subst (λ (b : List ℕ). KeepsOpen b (length new - length new)) (sym none) zero_left;
      }

  pub sees_end : (new : List ℕ) → IsSome old.begun → new ≡ take filled text ++ 13 ∷ 10 ∷ [] → written_in new (length new) ≡ ended old
  sees_end new begun e =
      let none : drop (length new) new ≡ [] = drop_all (length new) new (omega arith) in
      ap (λ (l : List ℕ). seen l (begun_in (drop (length new) new))) (take-length new ∙ new_text new begun e)
      ∙ ap (λ (l : List ℕ). seen (old.text ++ line_of (parts_of_begun old.begun)) (begun_in l)) none

  pub gains_end : IsSome old.begun → filled - place + 2 ≤ SEGMENT_WRITTEN → Gains (parts_of_begun old.begun) old.text (ended old).text
  gains_end begun short = gains_line old.text (parts_of_begun old.begun) (line_is begun short)

  -- nothing is begun: all is written
  pub whole_text : old.begun ≡ None → text ≡ old.text
  whole_text none =
      sym (take-append-drop place text) ∙ ap (λ (l : List ℕ). take place text ++ l) (none_behind none) ∙ append-nil (take place text) ∙ ap (λ (w : Written). w.text) is

  pub whole_written : old.begun ≡ None → IsWrittenText text
  whole_written none = subst IsWrittenText (sym (whole_text none)) (subst (λ (w : Written). IsWrittenText w.text) is k.written)
