-- How long the envelope of a transmission is.
use Rattle.std.proofs.Common.{◌≡◌, ℕ, ◌+◌, ◌*◌, ◌^◌, ◌<◌, List, [], ◌∷◌, ◌++◌, length, codes, refl, ◌∙◌, ap, arith, length-append}
use Rattle.std.specs.List.{concat, join_with_byte}
use Rattle.std.proofs.lemmas.Fmt.{decimal_nonempty}
use Rattle.dsd_values.specs.Writing.{number_text}
use Rattle.segments.specs.SegmentWriting.{in_front, line_of, without_empty_end}
use Rattle.dxs_envelope.specs.Sending.{header_row, text_of_sets, trailer_row}

-- ---- a last element that is not empty

pub in_front_some : (part first : List ℕ) (more : List (List ℕ)) → in_front part (first ∷ more) ≡ part ∷ first ∷ more
in_front_some [] first more = refl
in_front_some (byte ∷ part) first more = refl

pub in_front_filled : (part : List ℕ) (more : List (List ℕ)) → 0 < length part → in_front part more ≡ part ∷ more
in_front_filled [] more some = absurd (omega (arith, some))
in_front_filled (byte ∷ part) more some = refl

in_front_last : (part : List ℕ) (parts : List (List ℕ)) (last : List ℕ) → in_front part (parts ++ last ∷ []) ≡ part ∷ (parts ++ last ∷ [])
in_front_last part [] last = in_front_some part last []
in_front_last part (next ∷ parts) last = in_front_some part next (parts ++ last ∷ [])

kept_all : (parts : List (List ℕ)) (last : List ℕ) → 0 < length last → without_empty_end (parts ++ last ∷ []) ≡ parts ++ last ∷ []
kept_all [] last some = in_front_filled last [] some
kept_all (part ∷ parts) last some = ap (in_front part) (kept_all parts last some) ∙ in_front_last part parts last

-- ---- the header, the trailer, and all of it

joined_six : (a b c d e f : List ℕ) → length (join_with_byte 42 (a ∷ b ∷ c ∷ d ∷ e ∷ f ∷ []) ++ 13 ∷ 10 ∷ []) ≡ length a + length b + length c + length d + length e + length f + 7
joined_six a b c d e f =
    omega (
      arith,
      length-append (join_with_byte 42 (a ∷ b ∷ c ∷ d ∷ e ∷ f ∷ [])) (13 ∷ 10 ∷ []),
      length-append a (42 ∷ join_with_byte 42 (b ∷ c ∷ d ∷ e ∷ f ∷ [])),
      length-append b (42 ∷ join_with_byte 42 (c ∷ d ∷ e ∷ f ∷ [])),
      length-append c (42 ∷ join_with_byte 42 (d ∷ e ∷ f ∷ [])),
      length-append d (42 ∷ join_with_byte 42 (e ∷ f ∷ [])),
      length-append e (42 ∷ f),
    )

joined_three : (a b c : List ℕ) → length (join_with_byte 42 (a ∷ b ∷ c ∷ []) ++ 13 ∷ 10 ∷ []) ≡ length a + length b + length c + 4
joined_three a b c = omega (arith, length-append (join_with_byte 42 (a ∷ b ∷ c ∷ [])) (13 ∷ 10 ∷ []), length-append a (42 ∷ join_with_byte 42 (b ∷ c ∷ [])), length-append b (42 ∷ c))

pub header_length : (own peer : List ℕ) (control : ℕ) → 0 < length peer → length (line_of (header_row own peer control)) ≡ 21 + length own + length peer + length (number_text control)
header_length own peer control some =
    let kept = kept_all (codes "DXS" ∷ own ∷ codes "DX" ∷ codes "004010UCS" ∷ number_text control ∷ []) peer some in
    let all = joined_six (codes "DXS") own (codes "DX") (codes "004010UCS") (number_text control) peer in
    ap (λ (l : List (List ℕ)). length (join_with_byte 42 l ++ 13 ∷ 10 ∷ [])) kept ∙ omega (arith, all)

pub trailer_length : (control sets : ℕ) → sets < 2 ^ 64 → length (line_of (trailer_row control sets)) ≡ 7 + length (number_text control) + length (number_text sets)
trailer_length control sets small =
    let kept = kept_all (codes "DXE" ∷ number_text control ∷ []) (number_text sets) (decimal_nonempty sets small) in
    let all = joined_three (codes "DXE") (number_text control) (number_text sets) in
    ap (λ (l : List (List ℕ)). length (join_with_byte 42 l ++ 13 ∷ 10 ∷ [])) kept ∙ omega (arith, all)

pub transmission_length : (own peer : List ℕ) (control : ℕ) (sets : List (List ℕ)) → length (text_of_sets own peer control sets) ≡ length (line_of (header_row own peer control)) + length (line_of (trailer_row control (length sets))) + length (concat sets)
transmission_length own peer control sets =
    omega (arith, length-append (line_of (header_row own peer control) ++ concat sets) (line_of (trailer_row control (length sets))), length-append (line_of (header_row own peer control)) (concat sets))

-- the envelope of so many sets
pub envelope_length : (own peer : List ℕ) (control sets c n : ℕ) → length own ≡ 10 → length peer ≡ 10 → sets < 2 ^ 64 → c ≡ length (number_text control) → n ≡ length (number_text sets)
    → 48 + 2 * c + n ≡ length (line_of (header_row own peer control)) + length (line_of (trailer_row control sets))
envelope_length own peer control sets c n ten also small of_control of_sets =
    let header = header_length own peer control (omega (arith, also)) in
    let trailer = trailer_length control sets small in
    omega (arith, header, trailer, ten, also, of_control, of_sets)
