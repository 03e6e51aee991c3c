-- Which bytes begin a header.
use Rattle.std.proofs.Common.{◌≡◌, ◌⊎◌, inl, inr, ℕ, zero, suc, ◌+◌, ◌-◌, ◌<◌, ◌≤◌, Bool, true, false, List, [], ◌∷◌, ◌++◌, length, get_or, take, drop, replicate, codes, refl, sym, ◌∙◌, ap, subst, arith, append_assoc, length-append, length-take, length-drop, position, None}
use Rattle.std.proofs.lemmas.Bool.{cases_lt, cases_eq, false≢true}
use Rattle.std.proofs.lemmas.List.Sums.{fails_before_first, position_or_len_is}
use Rattle.std.specs.List.{position_or_len}
use Rattle.std.proofs.lemmas.Bool.Decides.{nat_tests}
use Rattle.std.proofs.lemmas.List.{take-append-drop, ext_get_or, get_or-append_right, get_or_append_left, get_or-take, get_or-drop}
use Rattle.dsd_values.proofs.Digits.{none_all}
use Rattle.dsd_values.specs.Reading.{IsIdText, is_no_id_byte}
use Rattle.dsd_values.specs.declared.role.Role.{Role}
use Rattle.dsd_values.specs.declared.role.Role.TheVariants.{Supplier, Receiver}
use Rattle.dsd_journal.specs.declared.limits.TheConstants.{HEADER_BYTES}
use Rattle.dsd_journal.specs.declared.entry.Entry.{Entry}
use Rattle.dsd_journal.specs.declared.header.Header.{Header}
use Rattle.dsd_journal.specs.Headers.{IsId, IsHeader, header_bytes, role_letter}
use Rattle.dsd_journal.specs.JournalImage.{spelled, Leads}
use Rattle.dsd_journal.specs.FirstBad.{Begins, IsRefused, Stopped}
use Rattle.dsd_journal.specs.Reading.{header_fits, FitsBelow, header_of, role_of_letter}
use Rattle.dsd_journal.proofs.Peeling.{header_length}

-- ---- ids, byte by byte

-- the byte at an index of a text in which none is outside
id_byte : (text : List ℕ) → IsIdText text → (i : ℕ) → i < length text → is_no_id_byte (get_or text i 0) ≡ false
id_byte text is i inside = let past : length text ≤ position_or_len is_no_id_byte text = none_all is_no_id_byte text is in
    let here : i < position_or_len is_no_id_byte text = omega (arith, past, inside) in fails_before_first is_no_id_byte text i 0 here

-- a text of which each byte is none outside
id_text : (text : List ℕ) → ((i : ℕ) → i < length text → is_no_id_byte (get_or text i 0) ≡ false) → IsIdText text
id_text text each = none_at is_no_id_byte text (position_or_len_is is_no_id_byte text (length text) 0 (omega arith) each (λ past. absurd (omega (arith, past))))
  where
    none_at : (p : ℕ → Bool) (l : List ℕ) → position_or_len p l ≡ length l → position p l ≡ None
    none_at p l whole = grind (arith, nat_tests)

-- ---- what fits where

fits_id : (i b : ℕ) → 6 ≤ i → i < 26 → is_no_id_byte b ≡ false → header_fits i b ≡ true
fits_id i b low high is = grind (arith, nat_tests)

fits_end : (i b : ℕ) → i ≡ 26 → b ≡ 10 → header_fits i b ≡ true
fits_end i b at is = grind (arith, nat_tests)

id_fits : (i b : ℕ) → 6 ≤ i → i < 26 → header_fits i b ≡ true → is_no_id_byte b ≡ false
id_fits i b low high is = grind (arith, nat_tests)

magic : (i b : ℕ) → i < 5 → header_fits i b ≡ true → b ≡ get_or (codes "DEXJ1") i 0
magic i b low is = grind (arith, nat_tests)

end_fits : (i b : ℕ) → i ≡ 26 → header_fits i b ≡ true → b ≡ 10
end_fits i b at is = grind (arith, nat_tests)

letter_fits : (b : ℕ) → header_fits 5 b ≡ true → role_letter (role_of_letter b) ≡ b
letter_fits b is = elim (cases_eq b 72) [
  | inl h ↦ (let e : role_letter (role_of_letter b) ≡ 72 = rw h refl in e ∙ sym h)
  | inr other ↦ (let r : b ≡ 82 = grind (arith, nat_tests) in let e : role_letter (role_of_letter b) ≡ 82 = rw r refl in e ∙ sym r)
]

module _ (h : Header) (is : IsHeader h) where
  fits_front : (i : ℕ) → i < 6 → header_fits i (get_or (header_bytes h) i 0) ≡ true
  fits_front zero less = refl
  fits_front (suc zero) less = refl
  fits_front (suc (suc zero)) less = refl
  fits_front (suc (suc (suc zero))) less = refl
  fits_front (suc (suc (suc (suc zero)))) less = refl
  fits_front (suc (suc (suc (suc (suc zero))))) less = role_fits h.role
    where
      role_fits : (r : Role) → header_fits 5 (role_letter r) ≡ true
      role_fits Supplier = refl
      role_fits Receiver = refl
  fits_front (suc (suc (suc (suc (suc (suc i)))))) less = absurd (omega (arith, less))

  tail_length : length (h.own ++ (h.peer ++ 10 ∷ [])) ≡ 21
  tail_length = omega (arith, length-append h.own (h.peer ++ 10 ∷ []), length-append h.peer (10 ∷ []), is.own.ten, is.peer.ten)

  -- behind the six bytes at the front
  behind_front : (i : ℕ) → 6 ≤ i → get_or (header_bytes h) i 0 ≡ get_or (h.own ++ (h.peer ++ 10 ∷ [])) (i - 6) 0
  behind_front i low = get_or-append_right (take 6 (header_bytes h)) (h.own ++ (h.peer ++ 10 ∷ [])) 6 i 0 refl low

  own_at : (i : ℕ) → 6 ≤ i → i < 16 → get_or (header_bytes h) i 0 ≡ get_or h.own (i - 6) 0
  own_at i low high = behind_front i low ∙ get_or_append_left h.own (h.peer ++ 10 ∷ []) 0 (i - 6) (omega (arith, high, low, is.own.ten))

  behind_own : (i : ℕ) → 16 ≤ i → get_or (header_bytes h) i 0 ≡ get_or (h.peer ++ 10 ∷ []) (i - 6 - 10) 0
  behind_own i low = behind_front i (omega (arith, low)) ∙ get_or-append_right h.own (h.peer ++ 10 ∷ []) 10 (i - 6) 0 is.own.ten (omega (arith, low))

  peer_at : (i : ℕ) → 16 ≤ i → i < 26 → get_or (header_bytes h) i 0 ≡ get_or h.peer (i - 6 - 10) 0
  peer_at i low high = behind_own i low ∙ get_or_append_left h.peer (10 ∷ []) 0 (i - 6 - 10) (omega (arith, high, low, is.peer.ten))

  end_at : (i : ℕ) → i ≡ 26 → get_or (header_bytes h) i 0 ≡ 10
  end_at i last =
      let zero_at : i - 6 - 10 - 10 ≡ 0 = omega (arith, last) in
      behind_own i (omega (arith, last)) ∙ get_or-append_right h.peer (10 ∷ []) 10 (i - 6 - 10) 0 is.peer.ten (omega (arith, last)) ∙ ap (λ (k : ℕ). get_or (10 ∷ []) k 0) zero_at

  fits_own : (i : ℕ) → 6 ≤ i → i < 16 → header_fits i (get_or (header_bytes h) i 0) ≡ true
  fits_own i low high = subst (λ (b : ℕ). header_fits i b ≡ true) (sym (own_at i low high))
      (fits_id i (get_or h.own (i - 6) 0) low (omega (arith, high)) (id_byte h.own is.own.text (i - 6) (omega (arith, high, low, is.own.ten))))

  fits_peer : (i : ℕ) → 16 ≤ i → i < 26 → header_fits i (get_or (header_bytes h) i 0) ≡ true
  fits_peer i low high = subst (λ (b : ℕ). header_fits i b ≡ true) (sym (peer_at i low high))
      (fits_id i (get_or h.peer (i - 6 - 10) 0) (omega (arith, low)) high (id_byte h.peer is.peer.text (i - 6 - 10) (omega (arith, high, low, is.peer.ten))))

  header_fits_at : (i : ℕ) → i < HEADER_BYTES → header_fits i (get_or (header_bytes h) i 0) ≡ true
  header_fits_at i less = elim (cases_lt i 6) [
    | inl front ↦ fits_front i front
    | inr low ↦ elim (cases_lt i 16) [
      | inl own ↦ fits_own i low own
      | inr past ↦ elim (cases_lt i 26) [
        | inl peer ↦ fits_peer i past peer
        | inr last ↦ (let end : i ≡ 26 = omega (arith, last, less) in fits_end i (get_or (header_bytes h) i 0) end (end_at i end))
      ]
    ]
  ]

-- whatever begins with a header fits as far as that
pub titled_fits : (h : Header) (es : List Entry) (x bytes : List ℕ) → Leads h es x bytes → (FitsBelow HEADER_BYTES bytes) × (HEADER_BYTES ≤ length bytes)
titled_fits h es x bytes leads = (
  λ i less. subst (λ (b : ℕ). header_fits i b ≡ true) (sym (at i less)) (header_fits_at h leads.titled i less),
  omega (arith, ap length leads.split, length-append (header_bytes h) (spelled es ++ x), header_length h leads.titled),
)
  where
    at : (i : ℕ) → i < HEADER_BYTES → get_or bytes i 0 ≡ get_or (header_bytes h) i 0
    at i less = ap (λ (l : List ℕ). get_or l i 0) leads.split ∙ get_or_append_left (header_bytes h) (spelled es ++ x) 0 i (omega (arith, less, header_length h leads.titled))

-- ---- the header of 27 bytes that fit

module _ (bytes : List ℕ) (long : length bytes ≡ HEADER_BYTES) (fits : FitsBelow HEADER_BYTES bytes) where
  piece : (start i : ℕ) → i < 10 → start + 10 ≤ HEADER_BYTES → get_or (take 10 (drop start bytes)) i 0 ≡ get_or bytes (start + i) 0
  piece start i less inside = get_or-take 10 (drop start bytes) i 0 less ∙ get_or-drop start bytes i 0

  pub id_at : (start : ℕ) → 6 ≤ start → start + 10 ≤ 26 → IsId (take 10 (drop start bytes))
  id_at start low high = record {
    ten = ten;
    text = id_text (take 10 (drop start bytes)) (λ i inside. (let less : i < 10 = omega (arith, inside, ten) in
        let below : start + i < HEADER_BYTES = omega (arith, less, high) in
        let under : start + i < 26 = omega (arith, less, high) in
        let over : 6 ≤ start + i = omega (arith, low) in
        let room : start + 10 ≤ HEADER_BYTES = omega (arith, high) in
        subst (λ (b : ℕ). is_no_id_byte b ≡ false) (sym (piece start i less room)) (id_fits (start + i) (get_or bytes (start + i) 0) over under (fits (start + i) below))));
  }
    where
      ten : length (take 10 (drop start bytes)) ≡ 10
      ten = omega (arith, length-take 10 (drop start bytes), length-drop start bytes, long, high)

  pub header_of_is : IsHeader (header_of bytes)
  header_of_is = record { own = id_at 6 (omega arith) (omega arith); peer = id_at 16 (omega arith) (omega arith) }

  front_at : (i : ℕ) → i < 6 → get_or (header_bytes (header_of bytes)) i 0 ≡ get_or bytes i 0
  front_at zero less = sym (magic 0 (get_or bytes 0 0) (omega arith) (fits 0 (omega arith)))
  front_at (suc zero) less = sym (magic 1 (get_or bytes 1 0) (omega arith) (fits 1 (omega arith)))
  front_at (suc (suc zero)) less = sym (magic 2 (get_or bytes 2 0) (omega arith) (fits 2 (omega arith)))
  front_at (suc (suc (suc zero))) less = sym (magic 3 (get_or bytes 3 0) (omega arith) (fits 3 (omega arith)))
  front_at (suc (suc (suc (suc zero)))) less = sym (magic 4 (get_or bytes 4 0) (omega arith) (fits 4 (omega arith)))
  front_at (suc (suc (suc (suc (suc zero))))) less = letter_fits (get_or bytes 5 0) (fits 5 (omega arith))
  front_at (suc (suc (suc (suc (suc (suc i)))))) less = absurd (omega (arith, less))

  own_is : (i : ℕ) → 6 ≤ i → i < 16 → get_or (header_bytes (header_of bytes)) i 0 ≡ get_or bytes i 0
  own_is i low high =
      let back : 6 + (i - 6) ≡ i = omega (arith, low) in
      own_at (header_of bytes) header_of_is i low high ∙ piece 6 (i - 6) (omega (arith, high, low)) (omega arith) ∙ ap (λ (n : ℕ). get_or bytes n 0) back

  peer_is : (i : ℕ) → 16 ≤ i → i < 26 → get_or (header_bytes (header_of bytes)) i 0 ≡ get_or bytes i 0
  peer_is i low high =
      let back : 16 + (i - 6 - 10) ≡ i = omega (arith, low) in
      peer_at (header_of bytes) header_of_is i low high ∙ piece 16 (i - 6 - 10) (omega (arith, high, low)) (omega arith) ∙ ap (λ (n : ℕ). get_or bytes n 0) back

  all_at : (i : ℕ) → i < length (header_bytes (header_of bytes)) → get_or (header_bytes (header_of bytes)) i 0 ≡ get_or bytes i 0
  all_at i inside =
      let less : i < HEADER_BYTES = omega (arith, inside, header_length (header_of bytes) header_of_is) in
      elim (cases_lt i 6) [
        | inl front ↦ front_at i front
        | inr low ↦ elim (cases_lt i 16) [
          | inl own ↦ own_is i low own
          | inr past ↦ elim (cases_lt i 26) [
            | inl peer ↦ peer_is i past peer
            | inr last ↦ (let end : i ≡ 26 = omega (arith, last, less) in end_at (header_of bytes) header_of_is i end ∙ sym (end_fits i (get_or bytes i 0) end (fits i less)))
          ]
        ]
      ]

  pub header_of_spelled : header_bytes (header_of bytes) ≡ bytes
  header_of_spelled = ext_get_or 0 (header_bytes (header_of bytes)) bytes (header_length (header_of bytes) header_of_is ∙ sym long) all_at

  pub header_leads : (rest : List ℕ) → Leads (header_of bytes) [] rest (bytes ++ rest)
  header_leads rest = record { titled = header_of_is; each = tt; split = ap (λ (l : List ℕ). l ++ rest) (sym header_of_spelled) }

pub front_leads : (bytes : List ℕ) (n : ℕ) → n ≡ HEADER_BYTES → HEADER_BYTES ≤ length bytes → FitsBelow (length (take n bytes)) (take n bytes) → Leads (header_of (take n bytes)) [] (drop HEADER_BYTES bytes) bytes
front_leads bytes n is long fits =
    let whole : length (take n bytes) ≡ HEADER_BYTES = omega (arith, length-take n bytes, is, long) in
    subst (λ l. Leads (header_of (take n bytes)) [] (drop HEADER_BYTES bytes) l) (ap (λ (k : ℕ). take n bytes ++ drop k bytes) (sym is) ∙ take-append-drop n bytes)
    (header_leads (take n bytes) whole (subst (λ k. FitsBelow k (take n bytes)) whole fits) (drop HEADER_BYTES bytes))

-- ---- an image that is refused in its header

abbrev some_header : Header
some_header = record { role = Supplier; own = replicate 10 48; peer = replicate 10 48 }

some_titled : IsHeader some_header
some_titled = record { own = record { ten = refl; text = refl }; peer = record { ten = refl; text = refl } }

module _ (image : List ℕ) (place : ℕ) (low : place < HEADER_BYTES) (inside : place ≤ length image) (fits : FitsBelow place image) where
  abbrev filled : List ℕ
  filled = take place image ++ drop place (header_bytes some_header)

  filled_length : length filled ≡ HEADER_BYTES
  filled_length = omega (arith, length-append (take place image) (drop place (header_bytes some_header)), length-take place image, length-drop place (header_bytes some_header), header_length some_header some_titled, low, inside)

  filled_fits : FitsBelow HEADER_BYTES filled
  filled_fits i less = elim (cases_lt i place) [
    | inl before ↦ subst (λ (b : ℕ). header_fits i b ≡ true)
        (sym (get_or_append_left (take place image) (drop place (header_bytes some_header)) 0 i (omega (arith, before, length-take place image, inside)) ∙ get_or-take place image i 0 before)) (fits i before)
    | inr past ↦ (let back : place + (i - place) ≡ i = omega (arith, past) in
        let front : length (take place image) ≡ place = omega (arith, length-take place image, inside) in
        subst (λ (b : ℕ). header_fits i b ≡ true)
        (sym (get_or-append_right (take place image) (drop place (header_bytes some_header)) place i 0 front past ∙ get_or-drop place (header_bytes some_header) (i - place) 0 ∙ ap (λ (n : ℕ). get_or (header_bytes some_header) n 0) back))
        (header_fits_at some_header some_titled i less))
  ]

  begins : Begins (take place image)
  begins = record {
    header = header_of filled;
    entries = [];
    tail = drop place (header_bytes some_header) ++ 0 ∷ [];
    journal = record {
      gate = 0;
      rest = [];
      shut = omega arith;
      leads = subst (λ l. Leads (header_of filled) [] (0 ∷ []) l) (append_assoc (take place image) (drop place (header_bytes some_header)) (0 ∷ [])) (header_leads filled filled_length filled_fits (0 ∷ []));
    };
  }

  pub header_refused : (place ≡ length image) ⊎ ((place < length image) × (header_fits place (get_or image place 0) ≡ false)) → IsRefused image place
  header_refused cause = Stopped (λ at o. none (titled_fits o.header o.entries _ image o.leads)) (λ h es held. none (titled_fits h es _ image held.journal.leads)) (record { inside = inside; before = begins; ends = ends cause })
    where
      none : (FitsBelow HEADER_BYTES image) × (HEADER_BYTES ≤ length image) → ⊥
      none both = go cause
        where
          go : (place ≡ length image) ⊎ ((place < length image) × (header_fits place (get_or image place 0) ≡ false)) → ⊥
          go (inl end) = omega (arith, both.1, end, low)
          go (inr bad) = false≢true (sym bad.1 ∙ both.0 place low)

      ends : (place ≡ length image) ⊎ ((place < length image) × (header_fits place (get_or image place 0) ≡ false)) → (place ≡ length image) ⊎ (Begins (take (place + 1) image) → ⊥)
      ends (inl end) = inl end
      ends (inr bad) = inr (λ b. (let both = titled_fits b.header b.entries (b.journal.gate ∷ b.journal.rest) (take (place + 1) image ++ b.tail) b.journal.leads in
          let reach : place < length (take (place + 1) image) = omega (arith, length-take (place + 1) image, bad.0) in
          let at : get_or (take (place + 1) image ++ b.tail) place 0 ≡ get_or image place 0 = get_or_append_left (take (place + 1) image) b.tail 0 place reach ∙ get_or-take (place + 1) image place 0 (omega arith) in
          false≢true (sym bad.1 ∙ ap (λ (x : ℕ). header_fits place x) (sym at) ∙ both.0 place low)))
