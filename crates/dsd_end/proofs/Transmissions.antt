-- A written transmission is its header, its sets and its trailer, each of which is lines with their ends. So a G85 and the SE behind it stand
-- in one of its sets.
use Rattle.std.proofs.Common.{◌≡◌, ℕ, ◌<◌, ◌≤◌, ◌^◌, true, false, List, [], ◌∷◌, ◌++◌, length, codes, refl, sym, ◌∙◌, ap, subst, inl, inr, arith, append_assoc, append-nil, length-append, get_or}
use Rattle.std.specs.Prelude.{All}
use Rattle.std.specs.Str.{bytes_eq}
use Rattle.std.specs.List.{concat}
use Rattle.std.proofs.lemmas.List.Elements.{All-cons, All-push, All-weaker}
use Rattle.std.proofs.lemmas.List.Folds.{concat-append}
use Rattle.segments.specs.Views.{has_id}
use Rattle.segments.specs.SegmentWriting.{IsLine as IsWrittenLine, line_of, segment_of}
use Rattle.segments.proofs.EmptyEnds.{trim_element}
use Rattle.segments.proofs.Written.{segment_spelled}
use Rattle.dex_line.specs.TextUnits.{is_trailer, lines_of}
use Rattle.dex_line.proofs.Lines.{IsLine, lines_join}
use Rattle.dxs_envelope.specs.Sending.{Sent, header_row, trailer_row}
use Rattle.dxs_envelope.proofs.SegmentLines.{segment_line, segment_trailer}
use Rattle.dxs_envelope.proofs.SentRead.{header_line, trailer_line}
use Rattle.dxs_envelope.proofs.Shifted.{sets_few}
use Rattle.delivery_book.proofs.Members.{In, from_contains, in_more, to_contains}
use Rattle.dsd_end.specs.Sealing.{IsSomeSet, seal_in}
use Rattle.dsd_end.proofs.WholeLines.{HasPair, InOne, IsWhole, one_line, pair_in_one, whole_join}
use Rattle.dsd_end.proofs.SealedSets.{sealed_set, whole_set}

pub set_whole : (text : List ℕ) → IsSomeSet text → IsWhole text
set_whole text (set, is) = whole_set (seal_in set) text (sealed_set set text is)

-- ---- a line that is no G85

abbrev IsPlainLine : List ℕ → Type 0
IsPlainLine line = IsLine line × (is_trailer line ≡ false)

written_line : (parts : List (List ℕ)) → IsWrittenLine parts → bytes_eq (get_or parts 0 []) (codes "G85") ≡ false → IsPlainLine (line_of parts)
written_line parts is other =
    let s = segment_spelled 0 parts is in
    let id : has_id (segment_of 0 parts) (codes "G85") ≡ false = ap (λ (l : List ℕ). bytes_eq l (codes "G85")) (trim_element parts 0) ∙ other in
    (segment_line (segment_of 0 parts) s, segment_trailer (segment_of 0 parts) s ∙ id)

-- a line is not two
not_two : (line first second : List ℕ) → IsPlainLine line → HasPair first second (lines_of line) → ⊥
not_two line first second p h =
    let one : lines_of line ≡ line ∷ [] = ap lines_of (sym (append-nil line)) ∙ lines_join (line ∷ []) (p.0, tt) in
    subst (HasPair first second) one h

module _ (texts : List (List ℕ)) (sender receiver : List ℕ) (control : ℕ) (whole : List ℕ) (sent : Sent texts sender receiver control whole) (are : All IsSomeSet texts) where
  abbrev header : List ℕ
  header = line_of (header_row sender receiver control)

  abbrev trailer : List ℕ
  trailer = line_of (trailer_row control (length texts))

  header_plain : IsPlainLine header
  header_plain = written_line (header_row sender receiver control) (header_line sender receiver control sent.from sent.to sent.high) refl

  few_texts : length texts < 2 ^ 64
  few_texts =
      let short : length whole ≤ 270_000 = sent.short in
      omega (arith, sets_few texts sent.each, ap length sent.written, short, length-append (header ++ concat texts) trailer, length-append header (concat texts))

  trailer_plain : IsPlainLine trailer
  trailer_plain = written_line (trailer_row control (length texts)) (trailer_line control (length texts) sent.high few_texts) refl

  abbrev pieces : List (List ℕ)
  pieces = header ∷ (texts ++ trailer ∷ [])

  pieces_whole : All IsWhole pieces
  pieces_whole =
      All-cons IsWhole header (texts ++ trailer ∷ []) (one_line header header_plain.0 header_plain.1)
      (All-push IsWhole texts trailer (All-weaker IsSomeSet IsWhole set_whole texts are) (one_line trailer trailer_plain.0 trailer_plain.1))

  pieces_join : whole ≡ concat pieces
  pieces_join =
      sent.written ∙ append_assoc header (concat texts) trailer
      ∙ ap (λ (t : List ℕ). header ++ (concat texts ++ t)) (sym (append-nil trailer))
      ∙ ap (λ (t : List ℕ). header ++ t) (sym (concat-append texts (trailer ∷ [])))

  pub transmission_whole : IsWhole whole
  transmission_whole = subst IsWhole (sym pieces_join) (whole_join pieces pieces_whole)

  -- a G85 and the SE behind it in the transmission stand in one of its sets
  pub pair_in_set : (line next : List ℕ) → is_trailer line ≡ true → HasPair line next (lines_of whole) → InOne line next texts
  pair_in_set line next t pair =
      let found = pair_in_one line next pieces t pieces_whole (subst (λ (l : List ℕ). HasPair line next (lines_of l)) pieces_join pair) in
      by_piece found.0 found.2 (from_contains pieces found.0 found.1)
    where
      no_line : (one text : List ℕ) → IsPlainLine one → one ≡ text → HasPair line next (lines_of text) → ⊥
      no_line one text plain same p = not_two one line next plain (subst (λ (l : List ℕ). HasPair line next (lines_of l)) (sym same) p)

      by_piece : (text : List ℕ) → HasPair line next (lines_of text) → In text pieces → InOne line next texts
      by_piece text p (inl same) = absurd (no_line header text header_plain same p)
      by_piece text p (inr among) = elim (in_more texts trailer text among) [
        | inl own ↦ (text, to_contains texts text own, p)
        | inr same ↦ absurd (no_line trailer text trailer_plain same p)
      ]
