-- Of a transmission its sets are told, and of nothing else are sets told up to an end without a fault.
use Rattle.std.proofs.Common.{◌≡◌, ℕ, ◌+◌, Bool, true, false, cond, ◌&&◌, ◌==◌, List, [], ◌∷◌, ◌++◌, length, codes, map, Option, Some, None, refl, sym, ◌∙◌, ap, arith, append_assoc, append-nil}
use Rattle.std.specs.Prelude.{All}
use Rattle.std.specs.Str.{bytes_eq}
use Rattle.std.proofs.lemmas.Bool.Decides.{nat_tests}
use Rattle.std.proofs.lemmas.List.Elements.{All-head, All-tail}
use Rattle.std.proofs.lemmas.Slice.Eq.{bytes_eq-Decides}
use Rattle.segments.specs.Elements.{◌or_else◌}
use Rattle.segments.specs.Views.{has_id}
use Rattle.segments.specs.Views.{Seg, element_of}
use Rattle.dxs_envelope.specs.EnvelopeTable.{count_in, has_function, is_trailer}
use Rattle.dxs_envelope.specs.FirstFault.{Front, Between, Inside, Behind, longer, told_at, told_behind, told_first, told_from, trailer_reason, unless, whole}
use Rattle.segments.specs.SetUnits.{IsSet}
use Rattle.dxs_envelope.specs.Transmission.{IsTransmission, bytes_of, joined_sets, set_at}
use Rattle.dxs_envelope.specs.Views.{SetAt, Told}
use Rattle.dxs_envelope.specs.declared.fault.EnvelopeReason.{EnvelopeReason}
use Rattle.dxs_envelope.specs.declared.fault.EnvelopeReason.TheVariants as reasons
use Rattle.dxs_envelope.proofs.Telling.{told_cons}

-- ---- the trailer

-- a trailer of a transmission with this control number and so many sets
pub record Closes (seg : Seg) (control : List ℕ) (found : ℕ) : Type 0 where
  pub closed : is_trailer seg ≡ true
  pub control_is : element_of seg 1 ≡ control
  pub count : count_in seg ≡ found

and_left : (a b : Bool) → (a && b) ≡ true → a ≡ true
and_left true b e = refl
and_left false b e = cc

-- a trailer is no ST
no_start : (seg : Seg) → is_trailer seg ≡ true → has_id seg (codes "ST") ≡ false
unfolding is_trailer
no_start seg e =
    let first = and_left (has_id seg (codes "DXE")) _ (and_left _ _ (and_left _ _ e)) in
    let id : element_of seg 0 ≡ codes "DXE" = (bytes_eq-Decides (element_of seg 0) (codes "DXE")).0 first in
    ap (λ (l : List ℕ). bytes_eq l (codes "ST")) id

pub unless_none : (test : Bool) (reason : EnvelopeReason) (other : Option EnvelopeReason) → (unless test reason or_else other) ≡ None → (test ≡ true) × (other ≡ None)
unless_none true reason other e = (refl, e)
unless_none false reason other e = cc

pub none_unless : (test : Bool) (reason : EnvelopeReason) → unless test reason ≡ None → test ≡ true
none_unless true reason e = refl
none_unless false reason e = cc

equal_is : (m n : ℕ) → (m == n) ≡ true → m ≡ n
equal_is m n e = grind (arith, nat_tests)

is_equal : (m n : ℕ) → m ≡ n → (m == n) ≡ true
is_equal m n e = grind (arith, nat_tests)

closes_reason : (seg : Seg) (control : List ℕ) (found : ℕ) → Closes seg control found → trailer_reason control found seg ≡ None
closes_reason seg control found c =
    let same : bytes_eq (element_of seg 1) control ≡ true = (bytes_eq-Decides (element_of seg 1) control).1 c.control_is in
    let count : (count_in seg == found) ≡ true = is_equal (count_in seg) found c.count in
    rw (c.closed, same, count) refl

pub reason_closes : (seg : Seg) (control : List ℕ) (found : ℕ) → trailer_reason control found seg ≡ None → Closes seg control found
reason_closes seg control found e =
    let first = unless_none (is_trailer seg) reasons.NoTrailer _ e in
    let second = unless_none (bytes_eq (element_of seg 1) control) reasons.Control _ first.1 in
    let third = none_unless (count_in seg == found) (reasons.Count (count_in seg) found) second.1 in
    record { closed = first.0; control_is = (bytes_eq-Decides (element_of seg 1) control).0 second.0; count = equal_is (count_in seg) found third }

-- ---- what is told of a set

-- with these bytes more
abbrev grown : SetAt → List ℕ → SetAt
grown set more = record { start = set.start; bytes = set.bytes ++ more }

inside_told : (inside : List Seg) (last : Seg) (rest : List Seg) (c : List ℕ) (n : ℕ) (set : SetAt) (place : ℕ)
    → All (λ seg. has_id seg (codes "SE") ≡ false) inside → has_id last (codes "SE") ≡ true
    → told_from (Inside c n set) place (inside ++ last ∷ rest) None
    ≡ told_behind (grown set (bytes_of (inside ++ last ∷ []))) (told_from (Between c (n + 1)) (last.start + length last.bytes) rest None)
inside_told [] last rest c n set place none ends =
    told_cons (Inside c n set) place last rest None
    ∙ ap (λ (b : Bool). told_first (cond b (Some (longer set last)) None) (told_from (cond b (Between c (n + 1)) (Inside c n (longer set last))) (last.start + length last.bytes) rest None)) ends
    ∙ ap (λ (l : List ℕ). told_behind (grown set l) (told_from (Between c (n + 1)) (last.start + length last.bytes) rest None)) (sym (append-nil last.bytes))
inside_told (seg ∷ inside) last rest c n set place none ends =
    told_cons (Inside c n set) place seg (inside ++ last ∷ rest) None
    ∙ ap (λ (b : Bool). told_first (cond b (Some (longer set seg)) None) (told_from (cond b (Between c (n + 1)) (Inside c n (longer set seg))) (seg.start + length seg.bytes) (inside ++ last ∷ rest) None))
    (All-head (λ (s : Seg). has_id s (codes "SE") ≡ false) seg inside none)
    ∙ inside_told inside last rest c n (longer set seg) (seg.start + length seg.bytes) (All-tail (λ (s : Seg). has_id s (codes "SE") ≡ false) seg inside none) ends
    ∙ ap (λ (l : List ℕ). told_behind (record { start = set.start; bytes = l }) (told_from (Between c (n + 1)) (last.start + length last.bytes) rest None))
    (append_assoc set.bytes seg.bytes (bytes_of (inside ++ last ∷ [])))

set_told : (first : Seg) (inside : List Seg) (last : Seg) (rest : List Seg) (c : List ℕ) (n place : ℕ)
    → has_id first (codes "ST") ≡ true → All (λ seg. has_id seg (codes "SE") ≡ false) inside → has_id last (codes "SE") ≡ true
    → told_from (Between c n) place (first ∷ inside ++ last ∷ rest) None
    ≡ told_behind (set_at (first ∷ inside ++ last ∷ [])) (told_from (Between c (n + 1)) (last.start + length last.bytes) rest None)
set_told first inside last rest c n place begins none ends =
    let set : SetAt = record { start = first.start; bytes = first.bytes } in
    told_cons (Between c n) place first (inside ++ last ∷ rest) None
    ∙ ap (λ (b : Bool). told_at (cond b None (trailer_reason c n first)) first.start (told_from (cond b (Inside c n set) Behind) (first.start + length first.bytes) (inside ++ last ∷ rest) None)) begins
    ∙ inside_told inside last rest c n set (first.start + length first.bytes) none ends

-- ---- a transmission

end_told : (trailer : Seg) (c : List ℕ) (n place : ℕ) → Closes trailer c n → told_from (Between c n) place (trailer ∷ []) None ≡ whole
unfolding told_from
end_told trailer c n place closes =
    let apart = no_start trailer closes.closed in
    ap (λ (b : Bool). told_at (cond b None (trailer_reason c n trailer)) trailer.start (told_from (cond b (Inside c n (record { start = trailer.start; bytes = trailer.bytes })) Behind) (trailer.start + length trailer.bytes) [] None)) apart
    ∙ ap (λ (r : Option EnvelopeReason). told_at r trailer.start whole) (closes_reason trailer c n closes)

abbrev told_all : List SetAt → Told
told_all sets = record { sets = sets; fault = None }

cut_set : (segs : List Seg) (s : IsSet segs) (later : List Seg) → segs ++ later ≡ s.first ∷ s.inside ++ s.last ∷ later
cut_set segs s later = ap (λ (l : List Seg). l ++ later) s.joined ∙ ap (λ (l : List Seg). s.first ∷ l) (append_assoc s.inside (s.last ∷ []) later)

sets_told : (parted : List (List Seg)) (trailer : Seg) (c : List ℕ) (n place : ℕ) → All IsSet parted → Closes trailer c (n + length parted)
    → told_from (Between c n) place (joined_sets parted ++ trailer ∷ []) None ≡ told_all (map set_at parted)
sets_told [] trailer c n place each closes =
    end_told trailer c n place (record { closed = closes.closed; control_is = closes.control_is; count = omega (arith, closes.count) })
sets_told (segs ∷ more) trailer c n place each closes =
    let s = All-head IsSet segs more each in
    let later : List Seg = joined_sets more ++ trailer ∷ [] in
    let parts : (segs ++ joined_sets more) ++ trailer ∷ [] ≡ s.first ∷ s.inside ++ s.last ∷ later = append_assoc segs (joined_sets more) (trailer ∷ []) ∙ cut_set segs s later in
    let rest = sets_told more trailer c (n + 1) (s.last.start + length s.last.bytes) (All-tail IsSet segs more each)
    (record { closed = closes.closed; control_is = closes.control_is; count = omega (arith, closes.count) }) in
    ap (λ (l : List Seg). told_from (Between c n) place l None) parts
    ∙ set_told s.first s.inside s.last later c n place s.begins s.goes_on s.ends
    ∙ ap (told_behind (set_at (s.first ∷ s.inside ++ s.last ∷ []))) rest
    ∙ ap (λ (l : List Seg). told_all (set_at l ∷ map set_at more)) (sym s.joined)

pub transmission_told : (parted : List (List Seg)) (segments : List Seg) (place : ℕ) → IsTransmission parted segments
    → told_from Front place segments None ≡ told_all (map set_at parted)
transmission_told parted segments place t =
    let behind : List Seg = joined_sets parted ++ t.trailer ∷ [] in
    let closes : Closes t.trailer (element_of t.header 4) (0 + length parted) = record { closed = t.closed; control_is = t.control; count = omega (arith, t.count) } in
    ap (λ (l : List Seg). told_from Front place l None) t.joined
    ∙ told_cons Front place t.header behind None
    ∙ ap (λ (b : Bool). told_at (unless b reasons.NoHeader or_else unless (has_function t.header) reasons.Function) t.header.start (told_from (Between (element_of t.header 4) 0) (t.header.start + length t.header.bytes) behind None)) t.opened
    ∙ ap (λ (b : Bool). told_at (unless b reasons.Function) t.header.start (told_from (Between (element_of t.header 4) 0) (t.header.start + length t.header.bytes) behind None)) t.function
    ∙ sets_told parted t.trailer (element_of t.header 4) 0 (t.header.start + length t.header.bytes) t.each closes
