-- Segments as lines: each ends in its one LF, and its id tells what line it is.
use Rattle.std.proofs.Common.{◌≡◌, ℕ, ◌+◌, Bool, true, false, ◌&&◌, List, [], ◌∷◌, ◌++◌, length, map, codes, position, None, refl, sym, ◌∙◌, ap, subst, inl, inr, arith, append_assoc, get_or, IsTrue}
use Rattle.std.specs.Prelude.{All}
use Rattle.std.specs.Str.{bytes_eq}
use Rattle.std.specs.List.{concat, join_with_byte, list_all}
use Rattle.std.proofs.lemmas.Bool.Decides.{nat_tests}
use Rattle.std.proofs.lemmas.List.Folds.{list_all-append}
use Rattle.std.proofs.lemmas.List.Sums.{list_all-from_AllPass}
use Rattle.std.proofs.lemmas.List.Elements.{All-append, All-cons, All-nil, All-head, All-tail}
use Rattle.segments.specs.Views.{has_id}
use Rattle.segments.specs.SegmentSpelling.{IsEnding, IsPart, SpellsSegment, SpellsSegments, is_element_character, is_id, is_inside}
use Rattle.segments.specs.Views.{Seg, element_of}
use Rattle.dex_line.specs.Bytes.{ends_id, is_text}
use Rattle.dex_line.specs.TextUnits.{is_feed, is_set_end, is_trailer}
use Rattle.dex_line.proofs.Lines.{AreLines, IsLine, printable_texts}

-- ---- one LF, at the end

no_feed : (byte : ℕ) → is_element_character byte ≡ true → is_feed byte ≡ false
no_feed byte h = grind (arith, nat_tests)

part_feeds : (part : List ℕ) → IsPart part → All (λ b. is_feed b ≡ false) part
part_feeds part h = λ k d under. no_feed (get_or part k d) (h k d under)

joined_feeds : (parts : List (List ℕ)) → All IsPart parts → All (λ b. is_feed b ≡ false) (join_with_byte 42 parts)
joined_feeds [] h = All-nil (λ b. is_feed b ≡ false)
joined_feeds (part ∷ []) h = part_feeds part (All-head IsPart part [] h)
joined_feeds (part ∷ next ∷ more) h =
    let rest = joined_feeds (next ∷ more) (All-tail IsPart part (next ∷ more) h) in
    let behind_star = All-cons (λ b. is_feed b ≡ false) 42 (join_with_byte 42 (next ∷ more)) refl rest in
    All-append (λ b. is_feed b ≡ false) part (42 ∷ join_with_byte 42 (next ∷ more)) (part_feeds part (All-head IsPart part (next ∷ more) h)) behind_star

none_at : (b : ℕ) (text : List ℕ) → is_feed b ≡ false → position is_feed text ≡ None → position is_feed (b ∷ text) ≡ None
none_at b text e h = grind (arith, nat_tests)

no_position : (text : List ℕ) → All (λ b. is_feed b ≡ false) text → position is_feed text ≡ None
no_position [] h = refl
no_position (b ∷ text) h =
    none_at b text (All-head (λ b. is_feed b ≡ false) b text h) (no_position text (All-tail (λ b. is_feed b ≡ false) b text h))

ended_line : (body ending bytes : List ℕ) → IsEnding ending → bytes ≡ body ++ ending → All (λ b. is_feed b ≡ false) body → IsLine bytes
ended_line body ending bytes (inl e) same h = record { front = body; whole = same ∙ ap (λ (t : List ℕ). body ++ t) e; none = no_position body h }
ended_line body ending bytes (inr e) same h = record {
  front = body ++ 13 ∷ [];
  whole = same ∙ ap (λ (t : List ℕ). body ++ t) e ∙ sym (append_assoc body (13 ∷ []) (10 ∷ []));
  none = no_position (body ++ 13 ∷ []) (All-append (λ b. is_feed b ≡ false) body (13 ∷ []) h (All-cons (λ b. is_feed b ≡ false) 13 [] refl (All-nil (λ b. is_feed b ≡ false))));
}

pub segment_line : (seg : Seg) → SpellsSegment seg → IsLine seg.bytes
segment_line seg s = ended_line (join_with_byte 42 seg.parts) s.spelled.0 seg.bytes s.spelled.1 s.spelled.2 (joined_feeds seg.parts s.segment.characters)

abbrev pub lines_in : List Seg → List (List ℕ)
lines_in segs = map (λ (seg : Seg). seg.bytes) segs

pub segments_are_lines : (place : ℕ) (segs : List Seg) (text : List ℕ) → SpellsSegments place segs text → AreLines (lines_in segs)
segments_are_lines place [] text h = tt
segments_are_lines place (seg ∷ more) text h = (segment_line seg h.0, segments_are_lines (place + length seg.bytes) more h.2.0 h.2.2)

-- ---- text bytes

part_texts : (part : List ℕ) → IsPart part → list_all is_text part ≡ true
part_texts part h = printable_texts part (list_all-from_AllPass is_inside part (λ k d under. character_inside (get_or part k d) (h k d under)))
  where
    character_inside : (byte : ℕ) → is_element_character byte ≡ true → is_inside byte ≡ true
    character_inside byte h = grind (arith, nat_tests)

both_true : (a b : Bool) → a ≡ true → b ≡ true → (a && b) ≡ true
both_true a b e f = rw (e, f) refl

star_text : is_text 42 ≡ true
unfolding is_text
star_text = refl

feed_text : list_all is_text (10 ∷ []) ≡ true
unfolding is_text
feed_text = refl

return_text : list_all is_text (13 ∷ 10 ∷ []) ≡ true
unfolding is_text
return_text = refl

joined_texts : (parts : List (List ℕ)) → All IsPart parts → list_all is_text (join_with_byte 42 parts) ≡ true
joined_texts [] h = refl
joined_texts (part ∷ []) h = part_texts part (All-head IsPart part [] h)
joined_texts (part ∷ next ∷ more) h =
    list_all-append is_text part (42 ∷ join_with_byte 42 (next ∷ more))
    ∙ both_true (list_all is_text part) (list_all is_text (42 ∷ join_with_byte 42 (next ∷ more))) (part_texts part (All-head IsPart part (next ∷ more) h))
    (both_true (is_text 42) (list_all is_text (join_with_byte 42 (next ∷ more))) star_text (joined_texts (next ∷ more) (All-tail IsPart part (next ∷ more) h)))

ending_texts : (ending : List ℕ) → IsEnding ending → list_all is_text ending ≡ true
ending_texts ending (inl e) = ap (list_all is_text) e ∙ feed_text
ending_texts ending (inr e) = ap (list_all is_text) e ∙ return_text

segment_texts : (seg : Seg) → SpellsSegment seg → list_all is_text seg.bytes ≡ true
segment_texts seg s =
    ap (list_all is_text) s.spelled.2 ∙ list_all-append is_text (join_with_byte 42 seg.parts) s.spelled.0
    ∙ both_true (list_all is_text (join_with_byte 42 seg.parts)) (list_all is_text s.spelled.0) (joined_texts seg.parts s.segment.characters) (ending_texts s.spelled.0 s.spelled.1)

-- spelled segments are text bytes alone
pub segments_text : (place : ℕ) (segs : List Seg) (text : List ℕ) → SpellsSegments place segs text → list_all is_text text ≡ true
segments_text place [] text h = ap (list_all is_text) h
segments_text place (seg ∷ more) text h =
    ap (list_all is_text) h.2.1 ∙ list_all-append is_text seg.bytes h.2.0
    ∙ both_true (list_all is_text seg.bytes) (list_all is_text h.2.0) (segment_texts seg h.0) (segments_text (place + length seg.bytes) more h.2.0 h.2.2)

-- ---- joined

pub segments_join : (place : ℕ) (segs : List Seg) (text : List ℕ) → SpellsSegments place segs text → text ≡ concat (lines_in segs)
segments_join place [] text h = h
segments_join place (seg ∷ more) text h = h.2.1 ∙ ap (λ (t : List ℕ). seg.bytes ++ t) (segments_join (place + length seg.bytes) more h.2.0 h.2.2)

-- ---- the id

-- an id with what stands behind it: a star or a terminator
record IsHeaded (id bytes : List ℕ) : Type 0 where
  behind : ℕ
  more : List ℕ
  whole : bytes ≡ id ++ behind ∷ more
  ends : ends_id behind ≡ true

headed_end : (id ending : List ℕ) → IsEnding ending → IsHeaded id (id ++ ending)
headed_end id ending (inl e) = record { behind = 10; more = []; whole = ap (λ (t : List ℕ). id ++ t) e; ends = refl }
headed_end id ending (inr e) = record { behind = 13; more = 10 ∷ []; whole = ap (λ (t : List ℕ). id ++ t) e; ends = refl }

headed_parts : (id : List ℕ) (more : List (List ℕ)) (ending : List ℕ) → IsEnding ending → IsHeaded id (join_with_byte 42 (id ∷ more) ++ ending)
headed_parts id [] ending e = headed_end id ending e
headed_parts id (next ∷ more) ending e = record {
  behind = 42;
  more = join_with_byte 42 (next ∷ more) ++ ending;
  whole = append_assoc id (42 ∷ join_with_byte 42 (next ∷ more)) ending;
  ends = refl;
}

false_id : IsTrue (is_id []) → ⊥
false_id h = cc

headed_of : (parts : List (List ℕ)) (ending bytes : List ℕ) → IsTrue (is_id (get_or parts 0 [])) → IsEnding ending → bytes ≡ join_with_byte 42 parts ++ ending → IsHeaded (get_or parts 0 []) bytes
headed_of [] ending bytes id e same = absurd (false_id id)
headed_of (first ∷ more) ending bytes id e same = subst (IsHeaded first) (sym same) (headed_parts first more ending e)

segment_headed : (seg : Seg) → SpellsSegment seg → IsHeaded (element_of seg 0) seg.bytes
segment_headed seg s = headed_of seg.parts s.spelled.0 seg.bytes s.segment.id s.spelled.1 s.spelled.2

trailer_headed : (id : List ℕ) (behind : ℕ) (more : List ℕ) → IsTrue (is_id id) → ends_id behind ≡ true → is_trailer (id ++ behind ∷ more) ≡ bytes_eq id (codes "G85")
trailer_headed [] behind more id e = absurd (false_id id)
trailer_headed (a ∷ []) behind more id e = grind (arith, nat_tests)
trailer_headed (a ∷ b ∷ []) behind [] id e = grind (arith, nat_tests)
trailer_headed (a ∷ b ∷ []) behind (c ∷ more) id e = grind (arith, nat_tests)
trailer_headed (a ∷ b ∷ c ∷ []) behind more id e = grind (arith, nat_tests)
trailer_headed (a ∷ b ∷ c ∷ d ∷ rest) behind more id e = grind (arith, nat_tests)

end_headed : (id : List ℕ) (behind : ℕ) (more : List ℕ) → IsTrue (is_id id) → ends_id behind ≡ true → is_set_end (id ++ behind ∷ more) ≡ bytes_eq id (codes "SE")
end_headed [] behind more id e = absurd (false_id id)
end_headed (a ∷ []) behind more id e = grind (arith, nat_tests)
end_headed (a ∷ b ∷ []) behind more id e = grind (arith, nat_tests)
end_headed (a ∷ b ∷ c ∷ []) behind more id e = grind (arith, nat_tests)
end_headed (a ∷ b ∷ c ∷ d ∷ rest) behind more id e = grind (arith, nat_tests)

pub segment_trailer : (seg : Seg) → SpellsSegment seg → is_trailer seg.bytes ≡ has_id seg (codes "G85")
segment_trailer seg s =
    let h = segment_headed seg s in
    ap is_trailer h.whole ∙ trailer_headed (element_of seg 0) h.behind h.more s.segment.id h.ends

pub segment_end : (seg : Seg) → SpellsSegment seg → is_set_end seg.bytes ≡ has_id seg (codes "SE")
segment_end seg s =
    let h = segment_headed seg s in
    ap is_set_end h.whole ∙ end_headed (element_of seg 0) h.behind h.more s.segment.id h.ends
