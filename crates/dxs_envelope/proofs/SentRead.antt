-- A transmission that is written is read as one of its sets.
use Rattle.std.proofs.Common.{◌≡◌, ℕ, ◌+◌, ◌^◌, ◌<◌, ◌≤◌, Bool, true, ◌&&◌, List, [], ◌∷◌, ◌++◌, length, codes, map, get_or, Result, refl, sym, ◌∙◌, ap, subst, arith, append_assoc, append-nil, length-append}
use Rattle.std.specs.Prelude.{All}
use Rattle.std.specs.Char.{is_ascii_digit, IsAsciiDigit}
use Rattle.std.specs.Fmt.{decimal}
use Rattle.std.specs.List.{concat, list_all}
use Rattle.std.specs.Option.{is_none}
use Rattle.std.proofs.lemmas.Bool.Decides.{nat_tests}
use Rattle.std.proofs.lemmas.Fmt.{decimal_is_IsNumeral, decimal_nonempty, length-decimal-le}
use Rattle.std.proofs.lemmas.List.Elements.{All-cons, All-nil}
use Rattle.std.proofs.lemmas.List.Sums.{list_all-from_AllPass}
use Rattle.dsd_values.specs.Writing.{number_text}
use Rattle.dsd_values.specs.declared.fault.ValueFault.{ValueFault}
use Rattle.dsd_values.proofs.Again.{decimal_text_element, plain_read_back}
use Rattle.dsd_values.proofs.Elements.{id_element}
use Rattle.dsd_values.proofs.ReadBack.{all_are}
use Rattle.segments.specs.Elements.{at_element, said}
use Rattle.segments.specs.SegmentSpelling.{IsPart, SpellsSegments}
use Rattle.segments.specs.SegmentWriting.{IsLine, line_of, segment_of}
use Rattle.segments.specs.Views.{Seg, element_of}
use Rattle.segments.proofs.Written.{element_part, segment_spelled}
use Rattle.segments.specs.declared.segment_writer.TheConstants.{MOST_CONTROL_NUMBER}
use Rattle.dxs_envelope.specs.EnvelopeTable.{count_in, has_function, has_length, is_control_number, is_header, is_trailer}
use Rattle.segments.specs.SetUnits.{AreUnits, IsInUnits}
use Rattle.dxs_envelope.specs.Sending.{IsCommId, Sent, header_row, placed, trailer_row}
use Rattle.dxs_envelope.specs.Transmission.{Envelope, joined_sets}
use Rattle.dxs_envelope.specs.Views.{SetAt, Told}
use Rattle.dxs_envelope.proofs.Enveloped.{envelope_told}
use Rattle.dxs_envelope.proofs.Lines.{header_short, header_trimmed, trailer_short, trailer_trimmed}
use Rattle.dxs_envelope.proofs.Units.{none_fit, one_fits, sets_fit}
use Rattle.dxs_envelope.proofs.Shifted.{AreSpelled, sets_few, sets_spelled, spelled_append, texts_placed}

both : (a b : Bool) → a ≡ true → b ≡ true → (a && b) ≡ true
both a b e f = ap (λ (x : Bool). x && b) e ∙ f

of_length : (least most : ℕ) (text : List ℕ) → least ≤ length text → length text ≤ most → has_length least most text ≡ true
of_length least most text low high = grind (arith, nat_tests)

digit_passes : (b : ℕ) → IsAsciiDigit b → is_ascii_digit b ≡ true
digit_passes b h = grind (arith, nat_tests)

digits_pass : (text : List ℕ) → All IsAsciiDigit text → list_all is_ascii_digit text ≡ true
digits_pass text h = list_all-from_AllPass is_ascii_digit text (λ k d under. digit_passes (get_or text k d) (h k d under))

control_is : (control : ℕ) → control ≤ MOST_CONTROL_NUMBER → is_control_number (number_text control) ≡ true
control_is control high =
    let some = decimal_nonempty control (omega (arith, high)) in
    let few = length-decimal-le 9 control (omega arith) (omega (arith, high)) (omega (arith, high)) in
    both (has_length 1 9 (number_text control)) _ (of_length 1 9 (number_text control) (omega (arith, some)) few)
    (digits_pass (number_text control) (all_are (decimal control) (decimal_is_IsNumeral control (omega (arith, high))).0.1))

-- ---- the header

abbrev header_at : List ℕ → List ℕ → ℕ → Seg
header_at sender receiver control = segment_of 0 (header_row sender receiver control)

pub header_line : (sender receiver : List ℕ) (control : ℕ) → IsCommId sender → IsCommId receiver → control ≤ MOST_CONTROL_NUMBER → IsLine (header_row sender receiver control)
header_line sender receiver control from to high =
    let number = element_part (number_text control) (decimal_text_element control (omega (arith, high))) in
    let parts = All-cons IsPart (number_text control) (receiver ∷ []) number
    (All-cons IsPart receiver [] (element_part receiver (id_element receiver to.characters)) (All-nil IsPart)) in
    record {
      segment = record {
        characters = All-cons IsPart (codes "DXS") (sender ∷ codes "DX" ∷ codes "004010UCS" ∷ number_text control ∷ receiver ∷ []) (element_part (codes "DXS") refl)
            (All-cons IsPart sender (codes "DX" ∷ codes "004010UCS" ∷ number_text control ∷ receiver ∷ []) (element_part sender (id_element sender from.characters))
            (All-cons IsPart (codes "DX") (codes "004010UCS" ∷ number_text control ∷ receiver ∷ []) (element_part (codes "DX") refl)
            (All-cons IsPart (codes "004010UCS") (number_text control ∷ receiver ∷ []) (element_part (codes "004010UCS") refl) parts)));
        id = refl;
        few = omega arith;
      };
      short = header_short sender receiver control from.ten to.ten high;
    }

module _ (sender receiver : List ℕ) (control : ℕ) (from : IsCommId sender) (to : IsCommId receiver) (high : control ≤ MOST_CONTROL_NUMBER) where
  plain : header_at sender receiver control ≡ record { start = 0; bytes = line_of (header_row sender receiver control); parts = header_row sender receiver control }
  plain = ap (λ (l : List (List ℕ)). record { start = 0; bytes = line_of (header_row sender receiver control); parts = l }) (header_trimmed sender receiver control to.ten)

  header_right : is_header (record { start = 0; bytes = line_of (header_row sender receiver control); parts = header_row sender receiver control }) ≡ true
  unfolding is_header
  header_right =
      let ten = from.ten in
      let ten_too = to.ten in
      both _ _ (both _ _ (both _ _ (both _ _ (both _ _ (both true _ refl (of_length 1 10 sender (omega arith) (omega arith))) refl)
      (control_is control high)) (of_length 0 10 receiver (omega arith) (omega arith))) refl) refl

  pub header_opens : is_header (header_at sender receiver control) ≡ true
  header_opens = ap is_header plain ∙ header_right

  pub header_function : has_function (header_at sender receiver control) ≡ true
  header_function = ap has_function plain

  pub header_control : element_of (header_at sender receiver control) 4 ≡ number_text control
  header_control = ap (λ (seg : Seg). element_of seg 4) plain

-- ---- the trailer

abbrev trailer_at : ℕ → ℕ → ℕ → Seg
trailer_at place control sets = segment_of place (trailer_row control sets)

pub trailer_line : (control sets : ℕ) → control ≤ MOST_CONTROL_NUMBER → sets < 2 ^ 64 → IsLine (trailer_row control sets)
trailer_line control sets high small =
    let number = element_part (number_text control) (decimal_text_element control (omega (arith, high))) in
    let count = element_part (number_text sets) (decimal_text_element sets small) in
    record {
      segment = record {
        characters = All-cons IsPart (codes "DXE") (number_text control ∷ number_text sets ∷ []) (element_part (codes "DXE") refl)
            (All-cons IsPart (number_text control) (number_text sets ∷ []) number (All-cons IsPart (number_text sets) [] count (All-nil IsPart)));
        id = refl;
        few = omega arith;
      };
      short = trailer_short control sets high small;
    }

module _ (place control sets : ℕ) (high : control ≤ MOST_CONTROL_NUMBER) (few : sets < 10 ^ 15) where
  ended : trailer_at place control sets ≡ record { start = place; bytes = line_of (trailer_row control sets); parts = trailer_row control sets }
  ended = ap (λ (l : List (List ℕ)). record { start = place; bytes = line_of (trailer_row control sets); parts = l }) (trailer_trimmed control sets (omega (arith, few)))

  trailer_right : is_trailer (record { start = place; bytes = line_of (trailer_row control sets); parts = trailer_row control sets }) ≡ true
  unfolding is_trailer
  trailer_right =
      both _ _ (both _ _ (both true _ refl (control_is control high))
      (ap (λ (r : Result ℕ ValueFault). is_none (at_element 2 r)) (plain_read_back sets few))) refl

  pub trailer_closes : is_trailer (trailer_at place control sets) ≡ true
  trailer_closes = ap is_trailer ended ∙ trailer_right

  pub trailer_control : element_of (trailer_at place control sets) 1 ≡ number_text control
  trailer_control = ap (λ (seg : Seg). element_of seg 1) ended

  pub trailer_count : count_in (trailer_at place control sets) ≡ sets
  trailer_count = ap count_in ended ∙ ap (λ (r : Result ℕ ValueFault). said 0 r) (plain_read_back sets few)

-- ---- the transmission

few_sets : (sets : List (List ℕ)) (sender receiver : List ℕ) (control : ℕ) (text : List ℕ) → Sent sets sender receiver control text → length sets < 10 ^ 15
few_sets sets sender receiver control text s =
    let short : length text ≤ 270_000 = s.short in
    omega (
      arith,
      sets_few sets s.each,
      ap length s.written,
      short,
      length-append (line_of (header_row sender receiver control) ++ concat sets) (line_of (trailer_row control (length sets))),
      length-append (line_of (header_row sender receiver control)) (concat sets),
    )

module _ (sets : List (List ℕ)) (sender receiver : List ℕ) (control : ℕ) (text : List ℕ) (s : Sent sets sender receiver control text) where
  abbrev place : ℕ
  place = length (line_of (header_row sender receiver control))

  abbrev header : Seg
  header = header_at sender receiver control

  abbrev last_line : List ℕ
  last_line = line_of (trailer_row control (length sets))

  abbrev trailer : Seg
  trailer = trailer_at (place + length (concat sets)) control (length sets)

  abbrev inside : AreSpelled place sets
  inside = sets_spelled place sets s.each

  few : length sets < 10 ^ 15
  few = few_sets sets sender receiver control text s

  small : length sets < 2 ^ 64
  small = omega (arith, few)

  last_spelled : SpellsSegments (place + length (concat sets)) (trailer ∷ []) last_line
  last_spelled = (segment_spelled (place + length (concat sets)) (trailer_row control (length sets)) (trailer_line control (length sets) s.high small), refl, ([], sym (append-nil last_line), refl))

  behind_header : SpellsSegments (0 + place) (joined_sets inside.parted ++ trailer ∷ []) (concat sets ++ last_line)
  behind_header =
      let at : place ≡ 0 + place = omega arith in
      subst (λ (n : ℕ). SpellsSegments n (joined_sets inside.parted ++ trailer ∷ []) (concat sets ++ last_line)) at
      (spelled_append (joined_sets inside.parted) (trailer ∷ []) place (concat sets) last_line inside.spelled last_spelled)

  all_spelled : SpellsSegments 0 (header ∷ joined_sets inside.parted ++ trailer ∷ []) text
  all_spelled = (
    segment_spelled 0 (header_row sender receiver control) (header_line sender receiver control s.from s.to s.high),
    refl,
    (concat sets ++ last_line, s.written ∙ append_assoc (line_of (header_row sender receiver control)) (concat sets) last_line, behind_header),
  )

  pub sent_envelope : Envelope (placed place sets) text
  sent_envelope = record {
    segments = header ∷ joined_sets inside.parted ++ trailer ∷ [];
    parted = inside.parted;
    spelled = all_spelled;
    transmission = record {
      header = header;
      trailer = trailer;
      joined = refl;
      opened = header_opens sender receiver control s.from s.to s.high;
      function = header_function sender receiver control s.from s.to s.high;
      each = inside.each;
      closed = trailer_closes (place + length (concat sets)) control (length sets) s.high few;
      control = trailer_control (place + length (concat sets)) control (length sets) s.high few ∙ sym (header_control sender receiver control s.from s.to s.high);
      count = trailer_count (place + length (concat sets)) control (length sets) s.high few ∙ sym inside.count;
    };
    are = inside.are;
  }

  -- it is whole units that fit
  pub sent_units : IsInUnits text
  sent_units =
      let last : AreUnits (trailer ∷ []) = one_fits trailer [] refl refl (trailer_short control (length sets) s.high small) none_fit in
      record {
        segments = header ∷ joined_sets inside.parted ++ trailer ∷ [];
        spelled = all_spelled;
        units = one_fits header (joined_sets inside.parted ++ trailer ∷ []) refl refl (header_short sender receiver control s.from.ten s.to.ten s.high)
            (sets_fit inside.parted (trailer ∷ []) inside.each inside.units last);
      }

-- a text is written of one list of sets
pub one_sent : (text : List ℕ) (a b : List (List ℕ)) (sender sender' receiver receiver' : List ℕ) (control control' : ℕ)
    → Sent a sender receiver control text → Sent b sender' receiver' control' text → a ≡ b
one_sent text a b sender sender' receiver receiver' control control' s t =
    let p : ℕ = length (line_of (header_row sender receiver control)) in
    let q : ℕ = length (line_of (header_row sender' receiver' control')) in
    let told = sym (envelope_told text (placed p a) (sent_envelope a sender receiver control text s)) ∙ envelope_told text (placed q b) (sent_envelope b sender' receiver' control' text t) in
    let same : placed p a ≡ placed q b = ap (λ (x : Told). x.sets) told in
    sym (texts_placed p a) ∙ ap (map (λ (set : SetAt). set.bytes)) same ∙ texts_placed q b
