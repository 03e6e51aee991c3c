-- What the steps of an append of entries do to an image.
use Rattle.std.proofs.Common.{◌≡◌, inl, inr, ℕ, ◌+◌, ◌<◌, min, List, [], ◌∷◌, ◌++◌, length, get_or, take, drop, sym, ◌∙◌, ap, subst, arith, append_assoc, length-append, take-append-drop}
use Rattle.std.proofs.lemmas.Bool.{cases_eq}
use Rattle.std.proofs.lemmas.List.{take_at, drop_at, drop-drop, drop_more}
use Rattle.dsd_station.specs.Disk.{overwritten, Torn}
use Rattle.dsd_journal.specs.declared.limits.TheConstants.{JOURNAL_BYTES}
use Rattle.dsd_journal.specs.declared.entry.Entry.{Entry}
use Rattle.dsd_journal.specs.declared.header.Header.{Header}
use Rattle.dsd_journal.specs.Headers.{header_bytes}
use Rattle.dsd_journal.specs.JournalImage.{open_gate, body, spelled, gate_place, EachFits, Leads, Holds}
use Rattle.dsd_journal.specs.Journals.{WithOrWithout}
use Rattle.dsd_journal.specs.Steps.{TornInTwo, batch_of}
use Rattle.dsd_journal.proofs.Peeling.{spelled_append, header_length}
use Rattle.dsd_journal.proofs.Refusing.{shut_holds}
use Rattle.dsd_journal.proofs.Takes.{each_append}

module _ (base : List ℕ) (p : ℕ) (place : length base ≡ p) where
  regroup : (g : ℕ) (rest : List ℕ) → base ++ g ∷ rest ≡ (base ++ g ∷ []) ++ rest
  regroup g rest = sym (append_assoc base (g ∷ []) rest)

  long : (g : ℕ) → length (base ++ g ∷ []) ≡ p + 1
  long g = omega (arith, length-append base (g ∷ []), place)

  reach : (g : ℕ) (rest : List ℕ) → p < length (base ++ g ∷ rest)
  reach g rest = omega (arith, length-append base (g ∷ rest), place)

  -- what is torn behind a gate leaves the gate and what is before it
  torn_behind : (g n : ℕ) (rest image : List ℕ) → Torn (p + 1) n (base ++ g ∷ rest) image → image ≡ base ++ g ∷ drop (p + 1) image
  torn_behind g n rest image torn =
      let most : p + 1 ≡ min (p + 1) (length (base ++ g ∷ rest)) = omega (arith, reach g rest) in
      let front : take (p + 1) image ≡ base ++ g ∷ [] =
      ap (λ (k : ℕ). take k image) most ∙ torn.before ∙ ap (λ (l : List ℕ). take (p + 1) l) (regroup g rest) ∙ take_at (base ++ g ∷ []) rest (p + 1) (long g) in
      sym (take-append-drop (p + 1) image) ∙ ap (λ (l : List ℕ). l ++ drop (p + 1) image) front ∙ sym (regroup g (drop (p + 1) image))

  written_behind : (g : ℕ) (rest bytes : List ℕ) → overwritten (base ++ g ∷ rest) (p + 1) bytes ≡ base ++ g ∷ (bytes ++ drop (length bytes) rest)
  written_behind g rest bytes =
      let front : take (p + 1) (base ++ g ∷ rest) ≡ base ++ g ∷ [] = ap (λ (l : List ℕ). take (p + 1) l) (regroup g rest) ∙ take_at (base ++ g ∷ []) rest (p + 1) (long g) in
      let back : drop (p + 1 + length bytes) (base ++ g ∷ rest) ≡ drop (length bytes) rest =
      sym (drop-drop (length bytes) (p + 1) (base ++ g ∷ rest)) ∙ ap (λ (l : List ℕ). drop (length bytes) l) (ap (λ (l : List ℕ). drop (p + 1) l) (regroup g rest) ∙ drop_at (base ++ g ∷ []) rest (p + 1) (long g)) in
      ap (λ (l : List ℕ). l ++ bytes ++ drop (p + 1 + length bytes) (base ++ g ∷ rest)) front ∙ ap (λ (l : List ℕ). (base ++ g ∷ []) ++ bytes ++ l) back
      ∙ append_assoc (base ++ g ∷ []) bytes (drop (length bytes) rest) ∙ sym (regroup g (bytes ++ drop (length bytes) rest))

  -- a torn gate is some byte between what is before it and what is behind
  torn_gate : (g : ℕ) (rest image : List ℕ) → Torn p 1 (base ++ g ∷ rest) image → (h : ℕ) × (image ≡ base ++ h ∷ rest)
  torn_gate g rest image torn =
      let h = get_or image p 0 in
      let most : p ≡ min p (length (base ++ g ∷ rest)) = omega (arith, reach g rest) in
      let front : take p image ≡ base = ap (λ (k : ℕ). take k image) most ∙ torn.before ∙ take_at base (g ∷ rest) p place in
      let back : drop (p + 1) image ≡ rest = torn.after ∙ ap (λ (l : List ℕ). drop (p + 1) l) (regroup g rest) ∙ drop_at (base ++ g ∷ []) rest (p + 1) (long g) in
      let reaches : p < length image = omega (arith, torn.no_shorter, reach g rest) in
      (h, sym (take-append-drop p image) ∙ ap (λ (l : List ℕ). l ++ drop p image) front ∙ ap (λ (l : List ℕ). base ++ l) (drop_more image p 0 reaches ∙ ap (λ (l : List ℕ). h ∷ l) back))

  written_gate : (g h : ℕ) (rest : List ℕ) → overwritten (base ++ g ∷ rest) p (h ∷ []) ≡ base ++ h ∷ rest
  written_gate g h rest =
      let back : drop (p + 1) (base ++ g ∷ rest) ≡ rest = ap (λ (l : List ℕ). drop (p + 1) l) (regroup g rest) ∙ drop_at (base ++ g ∷ []) rest (p + 1) (long g) in
      ap (λ (l : List ℕ). l ++ (h ∷ []) ++ drop (p + 1) (base ++ g ∷ rest)) (take_at base (g ∷ rest) p place) ∙ ap (λ (l : List ℕ). base ++ (h ∷ []) ++ l) back
      ∙ append_assoc base (h ∷ []) rest

module _ (header : Header) (es : List Entry) (first : Entry) (more : List Entry) (old : List ℕ) (holds : Holds header es old)
    (each : EachFits (first ∷ more)) (room : gate_place es + length (batch_of (first ∷ more)) < JOURNAL_BYTES) where
  abbrev base : List ℕ
  base = header_bytes header ++ spelled es

  abbrev batch : List ℕ
  batch = batch_of (first ∷ more)

  place : length (header_bytes header ++ spelled es) ≡ gate_place es
  place = omega (arith, length-append (header_bytes header) (spelled es), header_length header holds.journal.leads.titled)

  split : old ≡ base ++ holds.journal.gate ∷ holds.journal.rest
  split = holds.journal.leads.split ∙ sym (append_assoc (header_bytes header) (spelled es) (holds.journal.gate ∷ holds.journal.rest))

  -- an image with some gate behind the entries
  gated : (h : ℕ) (rest image : List ℕ) → image ≡ base ++ h ∷ rest → Leads header es (h ∷ rest) image
  gated h rest image is = record { titled = holds.journal.leads.titled; each = holds.journal.leads.each; split = is ∙ append_assoc (header_bytes header) (spelled es) (h ∷ rest) }

  batch_length : length batch ≡ length (body first ++ spelled more) + 1
  batch_length = omega (arith, length-append (body first) (spelled more ++ 0 ∷ []), length-append (spelled more) (0 ∷ []), length-append (body first) (spelled more))

  -- with the gate open the image holds the new entries
  opened : (rest image : List ℕ) → image ≡ base ++ open_gate ∷ (batch ++ rest) → Holds header (es ++ first ∷ more) image
  opened rest image is = shut_holds header (es ++ first ∷ more) image near 0 rest (omega arith) (record {
    titled = holds.journal.leads.titled;
    each = each_append es (first ∷ more) holds.journal.leads.each each;
    split = is ∙ append_assoc (header_bytes header) (spelled es) (open_gate ∷ (batch ++ rest)) ∙ ap (λ (l : List ℕ). header_bytes header ++ l)
        (ap (λ (l : List ℕ). spelled es ++ (open_gate ∷ l)) (append_assoc (body first) (spelled more ++ 0 ∷ []) rest ∙ ap (λ (l : List ℕ). body first ++ l) (append_assoc (spelled more) (0 ∷ []) rest)
        ∙ sym (append_assoc (body first) (spelled more) (0 ∷ rest)))
        ∙ sym (append_assoc (spelled es) (open_gate ∷ (body first ++ spelled more)) (0 ∷ rest)) ∙ ap (λ (l : List ℕ). l ++ 0 ∷ rest) (sym (spelled_append es (first ∷ more))));
  })
    where
      near : gate_place (es ++ first ∷ more) < JOURNAL_BYTES
      near = omega (arith, room, batch_length, ap length (spelled_append es (first ∷ more)), length-append (spelled es) (spelled (first ∷ more)))

  with_gate : (h : ℕ) (rest image : List ℕ) → image ≡ base ++ h ∷ (batch ++ rest) → WithOrWithout header es (first ∷ more) image
  with_gate h rest image is = elim (cases_eq h open_gate) [
    | inl is_open ↦ inr (opened rest image (is ∙ ap (λ (g : ℕ). base ++ g ∷ (batch ++ rest)) is_open))
    | inr shut ↦ inl (shut_holds header es image holds.within h (batch ++ rest) shut (gated h (batch ++ rest) image is))
  ]

  middle : overwritten old (gate_place es + 1) batch ≡ base ++ holds.journal.gate ∷ (batch ++ drop (length batch) holds.journal.rest)
  middle = ap (λ (l : List ℕ). overwritten l (gate_place es + 1) batch) split ∙ written_behind base (gate_place es) place holds.journal.gate holds.journal.rest batch

  pub stop_leaves : (image : List ℕ) → TornInTwo (gate_place es) batch old image → WithOrWithout header es (first ∷ more) image
  stop_leaves image (inl torn) =
      let is = torn_behind base (gate_place es) place holds.journal.gate (length batch) holds.journal.rest image (subst (λ (l : List ℕ). Torn (gate_place es + 1) (length batch) l image) split torn) in
      inl (shut_holds header es image holds.within holds.journal.gate (drop (gate_place es + 1) image) holds.journal.shut (gated holds.journal.gate (drop (gate_place es + 1) image) image is))
  stop_leaves image (inr torn) =
      let rest = drop (length batch) holds.journal.rest in
      let gate = torn_gate base (gate_place es) place holds.journal.gate (batch ++ rest) image (subst (λ (l : List ℕ). Torn (gate_place es) 1 l image) middle torn) in
      with_gate gate.0 rest image gate.1

  pub holds_more : (new : List ℕ) → new ≡ overwritten (overwritten old (gate_place es + 1) batch) (gate_place es) (open_gate ∷ []) → Holds header (es ++ first ∷ more) new
  holds_more new is =
      let rest = drop (length batch) holds.journal.rest in
      opened rest new (is ∙ ap (λ (l : List ℕ). overwritten l (gate_place es) (open_gate ∷ [])) middle ∙ written_gate base (gate_place es) place holds.journal.gate open_gate (batch ++ rest))
