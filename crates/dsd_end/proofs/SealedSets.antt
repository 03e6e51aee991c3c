-- The two lines in which the text of a set ends: its G85 and its SE. Where they stand in another set, both are sealed alike.
use Rattle.std.proofs.Common.{◌≡◌, ℕ, ◌+◌, true, false, List, [], ◌∷◌, ◌++◌, length, codes, Ok, refl, sym, ◌∙◌, ap, subst, inl, inr, append-nil, get_or}
use Rattle.std.specs.Prelude.{All, ⊤}
use Rattle.std.specs.Str.{bytes_eq}
use Rattle.std.specs.List.{concat}
use Rattle.std.proofs.lemmas.List.Elements.{All-head, All-tail}
use Rattle.std.proofs.lemmas.List.Folds.{concat-append}
use Rattle.dsd_values.specs.Reading.{check_of, filled_word_of}
use Rattle.segments.specs.Views.{has_id}
use Rattle.segments.specs.SegmentCut.{Cut, cut_of}
use Rattle.segments.specs.SegmentSpelling.{SpellsSegment, SpellsSegments}
use Rattle.segments.specs.Views.{Seg, element_of}
use Rattle.transaction_set.specs.declared.kind.Form.TheVariants as forms
use Rattle.transaction_set.specs.declared.seal.Seal.{Seal}
use Rattle.segments.proofs.Cutting.{cut_of-spelled}
use Rattle.transaction_set.proofs.Small.{bytes_are}
use Rattle.base_record_894.specs.Grammar.{IsHead as IsBaseHead, shared_of as base_shared}
use Rattle.adjustment_895.specs.Grammar.{IsHead as IsAnswerHead, notes, shared_of as answer_shared}
use Rattle.dex_line.specs.TextUnits.{is_set_end, is_trailer, lines_of}
use Rattle.dxs_envelope.proofs.SegmentLines.{lines_in, segment_end, segment_trailer, segments_are_lines, segments_join}
use Rattle.dsd_record.specs.SetTexts.{IsSet}
use Rattle.dsd_record.specs.declared.set_view.SetView.{SetView}
use Rattle.dsd_record.specs.declared.set_view.SetView.TheVariants as sets
use Rattle.dsd_end.specs.Sealing.{seal_in}
use Rattle.dsd_end.proofs.SetEnds.{IsNoIntegrity, IsSealed, set_seals}
use Rattle.dsd_end.proofs.WholeLines.{HasEnds, HasPair, IsWhole, ends_append, lines_then, never_both, pair_left, pair_right, whole_lines}

-- ---- how the text of a set ends

-- the text is segments up to their only G85 and the SE behind it, which say this seal
pub record IsSealedText (seal : Seal) (text : List ℕ) : Type 0 where
  pub segments : List Seg
  pub spelled : SpellsSegments 0 segments text
  pub sealed : IsSealed seal.control seal.check segments

pub sealed_set : (set : SetView) (text : List ℕ) → IsSet set text → IsSealedText (seal_in set) text
sealed_set (sets.Base base seal) text is = record {
  segments = is.segments;
  spelled = is.spelled;
  sealed = set_seals forms.Base seal.control (λ seg. IsBaseHead base seg) base.references base.lines base.extras (base_shared base seal is.amount) is.segments is.shape;
}
sealed_set (sets.Answer answer seal) text is = record {
  segments = is.segments;
  spelled = is.spelled;
  sealed = set_seals forms.Answer seal.control (λ seg. IsAnswerHead answer seg) (notes answer.note) answer.lines [] (answer_shared answer seal) is.segments is.shape;
}

-- ---- its lines

lines_append : (a b : List Seg) → lines_in (a ++ b) ≡ lines_in a ++ lines_in b
lines_append [] b = refl
lines_append (seg ∷ a) b = ap (λ l. seg.bytes ∷ l) (lines_append a b)

abbrev ArePlain : List (List ℕ) → Type 0
ArePlain [] = ⊤
ArePlain (line ∷ more) = (is_trailer line ≡ false) × ArePlain more

plain_ends : (lines : List (List ℕ)) → ArePlain lines → HasEnds lines
plain_ends [] h = tt
plain_ends (line ∷ more) h = ends_append (line ∷ []) more h.0 (plain_ends more h.1)

front_plain : (front rest : List Seg) (place : ℕ) (text : List ℕ) → SpellsSegments place (front ++ rest) text → All IsNoIntegrity front → ArePlain (lines_in front)
front_plain [] rest place text h none = tt
front_plain (seg ∷ front) rest place text h none =
    (segment_trailer seg h.0 ∙ All-head IsNoIntegrity seg front none, front_plain front rest (place + length seg.bytes) h.2.0 h.2.2 (All-tail IsNoIntegrity seg front none))

rest_spelled : (front rest : List Seg) (place : ℕ) (text : List ℕ) → SpellsSegments place (front ++ rest) text → (at : ℕ) × (more : List ℕ) × SpellsSegments at rest more
rest_spelled [] rest place text h = (place, text, h)
rest_spelled (seg ∷ front) rest place text h = rest_spelled front rest (place + length seg.bytes) h.2.0 h.2.2

end_no_integrity : (seg : Seg) → has_id seg (codes "SE") ≡ true → has_id seg (codes "G85") ≡ false
end_no_integrity seg e = ap (λ (l : List ℕ). bytes_eq l (codes "G85")) (bytes_are (element_of seg 0) (codes "SE") e)

-- a pair behind lines that are no G85
pair_behind_plain : (line next : List ℕ) (plain lines : List (List ℕ)) → is_trailer line ≡ true → ArePlain plain → HasPair line next (plain ++ lines) → HasPair line next lines
pair_behind_plain line next [] lines t p h = h
pair_behind_plain line next (first ∷ plain) lines t p h = pair_behind_plain line next plain lines t p.1 (past (plain ++ lines) h)
  where
    past : (more : List (List ℕ)) → HasPair line next (first ∷ more) → HasPair line next more
    past [] h = absurd h
    past (second ∷ more) (inl here) = absurd (never_both (is_trailer line) (ap is_trailer (sym here.0) ∙ p.0) t)
    past (second ∷ more) (inr later) = later

module _ (seal : Seal) (text : List ℕ) (a : IsSealedText seal text) where
  -- its G85, and its SE
  abbrev pub integrity_line : List ℕ
  integrity_line = a.sealed.integrity.bytes

  abbrev pub trailer_line : List ℕ
  trailer_line = a.sealed.trailer.bytes

  abbrev plain : List (List ℕ)
  plain = lines_in a.sealed.front

  all_spelled : SpellsSegments 0 (a.sealed.front ++ a.sealed.integrity ∷ a.sealed.trailer ∷ []) text
  all_spelled = subst (λ (l : List Seg). SpellsSegments 0 l text) a.sealed.joined a.spelled

  last_spelled : SpellsSegment a.sealed.integrity × SpellsSegment a.sealed.trailer
  last_spelled =
      let two = rest_spelled a.sealed.front (a.sealed.integrity ∷ a.sealed.trailer ∷ []) 0 text all_spelled in
      (two.2.0, two.2.2.2.0)

  are_plain : ArePlain plain
  are_plain = front_plain a.sealed.front (a.sealed.integrity ∷ a.sealed.trailer ∷ []) 0 text all_spelled a.sealed.inside

  set_lines : lines_in a.segments ≡ plain ++ integrity_line ∷ trailer_line ∷ []
  set_lines = ap lines_in a.sealed.joined ∙ lines_append a.sealed.front (a.sealed.integrity ∷ a.sealed.trailer ∷ [])

  pub is_trailer_line : is_trailer integrity_line ≡ true
  is_trailer_line = segment_trailer a.sealed.integrity last_spelled.0 ∙ a.sealed.is_integrity

  pub is_end_line : is_set_end trailer_line ≡ true
  is_end_line = segment_end a.sealed.trailer last_spelled.1 ∙ a.sealed.is_trailer

  no_trailer_line : is_trailer trailer_line ≡ false
  no_trailer_line = segment_trailer a.sealed.trailer last_spelled.1 ∙ end_no_integrity a.sealed.trailer a.sealed.is_trailer

  -- the text is lines with their ends
  pub whole_set : IsWhole text
  whole_set = record {
    lines = lines_in a.segments;
    are = segments_are_lines 0 a.segments text a.spelled;
    joined = segments_join 0 a.segments text a.spelled;
    ends = subst HasEnds (sym set_lines)
        (ends_append plain (integrity_line ∷ trailer_line ∷ []) (plain_ends plain are_plain) ((λ t. is_end_line), no_trailer_line));
  }

  lines_of_set : lines_of text ≡ plain ++ integrity_line ∷ trailer_line ∷ []
  unfolding whole_set
  lines_of_set = whole_lines text whole_set ∙ set_lines

  pub ends_in : (front : List ℕ) × (text ≡ front ++ (integrity_line ++ trailer_line))
  ends_in = (
    concat plain,
    segments_join 0 a.segments text a.spelled ∙ ap concat set_lines ∙ concat-append plain (integrity_line ∷ trailer_line ∷ [])
        ∙ ap (λ (t : List ℕ). concat plain ++ (integrity_line ++ t)) (append-nil trailer_line),
  )

  -- where it stands behind whole segments, these two lines do
  pub pair_behind : (front rest : List ℕ) (segs : List Seg) → SpellsSegments 0 segs front → HasPair integrity_line trailer_line (lines_of (front ++ (text ++ rest)))
  pair_behind front rest segs h =
      let first : lines_of (front ++ (text ++ rest)) ≡ lines_in segs ++ lines_of (text ++ rest) =
      ap (λ (t : List ℕ). lines_of (t ++ (text ++ rest))) (segments_join 0 segs front h) ∙ lines_then (lines_in segs) (text ++ rest) (segments_are_lines 0 segs front h) in
      let second : lines_of (text ++ rest) ≡ lines_in a.segments ++ lines_of rest =
      ap (λ (t : List ℕ). lines_of (t ++ rest)) (segments_join 0 a.segments text a.spelled) ∙ lines_then (lines_in a.segments) rest (segments_are_lines 0 a.segments text a.spelled) in
      let two : List (List ℕ) = integrity_line ∷ trailer_line ∷ [] in
      let own : HasPair integrity_line trailer_line (lines_in a.segments) =
      subst (HasPair integrity_line trailer_line) (sym set_lines) (pair_right integrity_line trailer_line plain two (inl (refl, refl))) in
      let there : HasPair integrity_line trailer_line (lines_of (text ++ rest)) =
      subst (HasPair integrity_line trailer_line) (sym second) (pair_left integrity_line trailer_line (lines_in a.segments) (lines_of rest) own) in
      subst (HasPair integrity_line trailer_line) (sym first) (pair_right integrity_line trailer_line (lines_in segs) (lines_of (text ++ rest)) there)

  -- a G85 with a line behind it is these two
  pub only_pair : (line next : List ℕ) → is_trailer line ≡ true → HasPair line next (lines_of text) → (integrity_line ≡ line) × (trailer_line ≡ next)
  only_pair line next t h =
      by_two (pair_behind_plain line next plain (integrity_line ∷ trailer_line ∷ []) t are_plain (subst (HasPair line next) lines_of_set h))
    where
      by_two : HasPair line next (integrity_line ∷ trailer_line ∷ []) → (integrity_line ≡ line) × (trailer_line ≡ next)
      by_two (inl same) = same
      by_two (inr none) = absurd none

-- ---- the two lines of a set, found in a set

abbrev parts_of_first : List Seg → List (List ℕ)
parts_of_first [] = []
parts_of_first (seg ∷ more) = seg.parts

abbrev at_front : Seg → Seg
at_front seg = record { start = 0; bytes = seg.bytes; parts = seg.parts }

one_spelled : (seg : Seg) → SpellsSegment seg → SpellsSegments 0 (at_front seg ∷ []) seg.bytes
one_spelled seg s = (record { segment = s.segment; spelled = s.spelled; short = s.short }, refl, ([], sym (append-nil seg.bytes), refl))

-- segments of the same bytes have the same elements
same_elements : (a b : Seg) (n : ℕ) → SpellsSegment a → SpellsSegment b → a.bytes ≡ b.bytes → element_of a n ≡ element_of b n
same_elements a b n s t e =
    let first = cut_of-spelled a.bytes (at_front a ∷ []) (one_spelled a s) in
    let second = cut_of-spelled b.bytes (at_front b ∷ []) (one_spelled b t) in
    ap (λ (c : Cut). get_or (parts_of_first c.segments) n []) (sym first ∙ ap cut_of e ∙ second)

seals_same : (a b : Seal) → a.control ≡ b.control → a.check ≡ b.check → a ≡ b
seals_same a b e f =
    ap (λ (c : List ℕ). (let s : Seal = record { control = c; check = a.check } in s)) e ∙ ap (λ (k : ℕ). (let s : Seal = record { control = b.control; check = k } in s)) f

-- where the two lines of one set stand in another, both are sealed alike
pub same_seal : (seal other : Seal) (text text' : List ℕ) (a : IsSealedText seal text) (b : IsSealedText other text')
    → HasPair a.sealed.integrity.bytes a.sealed.trailer.bytes (lines_of text') → seal ≡ other
same_seal seal other text text' a b pair =
    let found = only_pair other text' b a.sealed.integrity.bytes a.sealed.trailer.bytes (is_trailer_line seal text a) pair in
    let mine = last_spelled seal text a in
    let its = last_spelled other text' b in
    let controls : Ok seal.control ≡ Ok other.control =
    sym a.sealed.control_is ∙ ap filled_word_of (same_elements a.sealed.trailer b.sealed.trailer 2 mine.1 its.1 (sym found.1)) ∙ b.sealed.control_is in
    let checks : Ok seal.check ≡ Ok other.check =
    sym a.sealed.check_is ∙ ap check_of (same_elements a.sealed.integrity b.sealed.integrity 1 mine.0 its.0 (sym found.0)) ∙ b.sealed.check_is in
    let control : seal.control ≡ other.control = cc in
    let check : seal.check ≡ other.check = cc in
    seals_same seal other control check
