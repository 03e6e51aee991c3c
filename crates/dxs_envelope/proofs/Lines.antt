-- The lines of the header and of the trailer.
use Rattle.std.proofs.Common.{◌≡◌, ℕ, ◌+◌, ◌^◌, ◌<◌, ◌≤◌, List, [], ◌∷◌, ◌++◌, length, codes, take, get_or, Some, None, sym, ◌∙◌, ap, arith, append_assoc, append-nil, length-append}
use Rattle.std.specs.List.{concat, join_with_byte}
use Rattle.std.proofs.lemmas.Fmt.{decimal_nonempty}
use Rattle.std.proofs.lemmas.List.{take_more}
use Rattle.std.proofs.lemmas.List.Folds.{concat-append}
use Rattle.dsd_values.specs.Writing.{number_text}
use Rattle.dsd_values.proofs.Again.{twenty_digits}
use Rattle.segments.specs.SegmentWriting.{Written, begun_with, given, line_of, without_empty_end}
use Rattle.segments.specs.declared.segment_write_fault.TheConstants.{SEGMENT_WRITTEN}
use Rattle.segments.proofs.EmptyEnds.{trim_filled}
use Rattle.segments.specs.declared.segment_writer.TheConstants.{MOST_CONTROL_NUMBER}
use Rattle.dxs_envelope.specs.Sending.{header_row, trailer_row}

-- ---- without empty elements at the end

trimmed : (parts : List (List ℕ)) (last : List ℕ) → 0 < length last → without_empty_end (parts ++ last ∷ []) ≡ parts ++ last ∷ []
trimmed parts [] some = absurd (omega arith)
trimmed parts (byte ∷ last) some = trim_filled parts byte last

pub header_trimmed : (sender receiver : List ℕ) (control : ℕ) → length receiver ≡ 10
    → without_empty_end (header_row sender receiver control) ≡ header_row sender receiver control
header_trimmed sender receiver control ten =
    trimmed (codes "DXS" ∷ sender ∷ codes "DX" ∷ codes "004010UCS" ∷ number_text control ∷ []) receiver (omega (arith, ten))

pub trailer_trimmed : (control sets : ℕ) → sets < 2 ^ 64 → without_empty_end (trailer_row control sets) ≡ trailer_row control sets
trailer_trimmed control sets small = trimmed (codes "DXE" ∷ number_text control ∷ []) (number_text sets) (decimal_nonempty sets small)

-- ---- their lengths

joined_length : (part next : List ℕ) (more : List (List ℕ)) → length (join_with_byte 42 (part ∷ next ∷ more)) ≡ length part + 1 + length (join_with_byte 42 (next ∷ more))
joined_length part next more = omega (arith, length-append part (42 ∷ join_with_byte 42 (next ∷ more)))

line_length : (parts : List (List ℕ)) → without_empty_end parts ≡ parts → length (line_of parts) ≡ length (join_with_byte 42 parts) + 2
line_length parts e =
    ap (λ (l : List (List ℕ)). length (join_with_byte 42 l ++ 13 ∷ 10 ∷ [])) e ∙ length-append (join_with_byte 42 parts) (13 ∷ 10 ∷ [])

pub header_length : (sender receiver : List ℕ) (control : ℕ) → length sender ≡ 10 → length receiver ≡ 10
    → length (line_of (header_row sender receiver control)) ≡ 41 + length (number_text control)
header_length sender receiver control from to =
    let version = codes "004010UCS" in
    let number = number_text control in
    omega (
      arith,
      from,
      to,
      line_length (header_row sender receiver control) (header_trimmed sender receiver control to),
      joined_length (codes "DXS") sender (codes "DX" ∷ version ∷ number ∷ receiver ∷ []),
      joined_length sender (codes "DX") (version ∷ number ∷ receiver ∷ []),
      joined_length (codes "DX") version (number ∷ receiver ∷ []),
      joined_length version number (receiver ∷ []),
      joined_length number receiver [],
    )

pub trailer_length : (control sets : ℕ) → sets < 2 ^ 64
    → length (line_of (trailer_row control sets)) ≡ 7 + length (number_text control) + length (number_text sets)
trailer_length control sets small =
    omega (
      arith,
      line_length (trailer_row control sets) (trailer_trimmed control sets small),
      joined_length (codes "DXE") (number_text control) (number_text sets ∷ []),
      joined_length (number_text control) (number_text sets) [],
    )

pub header_short : (sender receiver : List ℕ) (control : ℕ) → length sender ≡ 10 → length receiver ≡ 10 → control ≤ MOST_CONTROL_NUMBER
    → length (line_of (header_row sender receiver control)) ≤ SEGMENT_WRITTEN
header_short sender receiver control from to high =
    omega (arith, header_length sender receiver control from to, twenty_digits control (omega (arith, high)))

pub trailer_short : (control sets : ℕ) → control ≤ MOST_CONTROL_NUMBER → sets < 2 ^ 64 → length (line_of (trailer_row control sets)) ≤ SEGMENT_WRITTEN
trailer_short control sets high small =
    omega (arith, trailer_length control sets small, twenty_digits control (omega (arith, high)), twenty_digits sets small)

-- ---- what a writer has begun

abbrev nothing : Written
nothing = record { text = []; begun = None }

pub header_begun : (sender receiver : List ℕ) (control : ℕ) (e1 e4 e5 : List ℕ) (w0 w1 w2 w3 w4 w5 w6 : Written)
    → w0 ≡ nothing → w1 ≡ begun_with (codes "DXS") w0 → w2 ≡ given e1 w1 → w3 ≡ given (codes "DX") w2 → w4 ≡ given (codes "004010UCS") w3
    → w5 ≡ given e4 w4 → w6 ≡ given e5 w5 → e1 ≡ sender → e4 ≡ number_text control → e5 ≡ receiver
    → w6 ≡ record { text = []; begun = Some (header_row sender receiver control) }
header_begun sender receiver control e1 e4 e5 w0 w1 w2 w3 w4 w5 w6 h0 h1 h2 h3 h4 h5 h6 s n r =
    h6 ∙ ap (given e5) (h5 ∙ ap (given e4) (h4 ∙ ap (given (codes "004010UCS")) (h3 ∙ ap (given (codes "DX")) (h2 ∙ ap (given e1) (h1 ∙ ap (begun_with (codes "DXS")) h0)))))
    ∙ ap (λ (x : List ℕ). record { text = []; begun = Some (codes "DXS" ∷ x ∷ codes "DX" ∷ codes "004010UCS" ∷ e4 ∷ e5 ∷ []) }) s
    ∙ ap (λ (x : List ℕ). record { text = []; begun = Some (codes "DXS" ∷ sender ∷ codes "DX" ∷ codes "004010UCS" ∷ x ∷ e5 ∷ []) }) n
    ∙ ap (λ (x : List ℕ). record { text = []; begun = Some (codes "DXS" ∷ sender ∷ codes "DX" ∷ codes "004010UCS" ∷ number_text control ∷ x ∷ []) }) r

pub trailer_begun : (control sets : ℕ) (e1 e2 : List ℕ) (w0 w1 w2 w3 : Written)
    → w0 ≡ nothing → w1 ≡ begun_with (codes "DXE") w0 → w2 ≡ given e1 w1 → w3 ≡ given e2 w2 → e1 ≡ number_text control → e2 ≡ number_text sets
    → w3 ≡ record { text = []; begun = Some (trailer_row control sets) }
trailer_begun control sets e1 e2 w0 w1 w2 w3 h0 h1 h2 h3 n s =
    h3 ∙ ap (given e2) (h2 ∙ ap (given e1) (h1 ∙ ap (begun_with (codes "DXE")) h0))
    ∙ ap (λ (x : List ℕ). record { text = []; begun = Some (codes "DXE" ∷ x ∷ e2 ∷ []) }) n
    ∙ ap (λ (x : List ℕ). record { text = []; begun = Some (codes "DXE" ∷ number_text control ∷ x ∷ []) }) s

-- ---- sets, one after another

pub more_joined : (front : List ℕ) (sets : List (List ℕ)) (place : ℕ) (set : List ℕ) → place < length sets → set ≡ get_or sets place set
    → (front ++ concat (take place sets)) ++ set ≡ front ++ concat (take (place + 1) sets)
more_joined front sets place set inside is =
    append_assoc front (concat (take place sets)) set
    ∙ ap (λ (l : List ℕ). front ++ (concat (take place sets) ++ l)) (is ∙ sym (append-nil (get_or sets place set)))
    ∙ ap (λ (l : List ℕ). front ++ l) (sym (concat-append (take place sets) (get_or sets place set ∷ [])))
    ∙ ap (λ (l : List (List ℕ)). front ++ concat l) (sym (take_more sets place set inside))
