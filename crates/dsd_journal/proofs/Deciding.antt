-- An image holds a journal or is refused.
use Rattle.std.proofs.Common.{◌≡◌, ◌⊎◌, inl, inr, ℕ, zero, suc, ◌+◌, ◌<◌, ◌≤◌, true, List, [], ◌∷◌, ◌++◌, length, get_or, take, drop, refl, sym, ap, subst, arith, length-append, length-take, Option, Some, None, Result, Ok, Err}
use Rattle.std.proofs.lemmas.Bool.{cases_eq, cases_lt, cases_Bool}
use Rattle.std.proofs.lemmas.List.{take-append-drop, get_or-take}
use Rattle.dsd_journal.specs.declared.limits.TheConstants.{HEADER_BYTES, JOURNAL_BYTES}
use Rattle.dsd_journal.specs.declared.entry.Entry.{Entry}
use Rattle.dsd_journal.specs.declared.entry.EntryKind.{EntryKind}
use Rattle.dsd_journal.specs.declared.header.Header.{Header}
use Rattle.dsd_journal.specs.JournalImage.{open_gate, body, spelled, gate_place, Leads, Holds}
use Rattle.dsd_journal.specs.FirstBad.{IsRefused}
use Rattle.dsd_journal.specs.Reading.{header_fits, FitsBelow, header_of, entry_of}
use Rattle.dsd_journal.proofs.Peeling.{body_length}
use Rattle.dsd_journal.proofs.Refusing.{leads_on, spelled_push, bad_refused, unfinished_refused, shut_holds, end_refused}
use Rattle.dsd_journal.proofs.Titles.{header_leads, header_refused}
use Rattle.dsd_journal.proofs.Fronts.{DecidesEntry, entry_decides}

abbrev pub Decided : List ℕ → Type 0
Decided image = ((header : Header) × (entries : List Entry) × Holds header entries image) ⊎ ((place : ℕ) × IsRefused image place)

-- where the next gate stands
pub gate_push : (es : List Entry) (e : Entry) → gate_place (es ++ e ∷ []) ≡ gate_place es + 6 + length e.payload
gate_push es e = omega (arith, ap length (spelled_push es e), length-append (spelled es) (open_gate ∷ body e), body_length e)

module _ (header : Header) (image : List ℕ) where
  step : (es : List Entry) (x : List ℕ) → Leads header es x image → gate_place es < JOURNAL_BYTES
      → ((more : List Entry) (y : List ℕ) → Leads header more y image → gate_place more < JOURNAL_BYTES → length y < length x → Decided image) → Decided image
  step es [] leads near again = inr (length image, end_refused header es image near leads)
  step es (byte ∷ behind) leads near again = elim (cases_eq byte open_gate) [
    | inl is ↦ opened (entry_of (gate_place es) behind) (subst (λ b. Leads header es (b ∷ behind) image) is leads) (entry_decides (gate_place es) behind)
    | inr shut ↦ inl (header, es, shut_holds header es image near byte behind shut leads)
  ]
    where
      opened : (answer : Result (Option (EntryKind × List ℕ × List ℕ)) ℕ) → Leads header es (open_gate ∷ behind) image → DecidesEntry (gate_place es) behind answer → Decided image
      opened (Err place) at d = inr (place, bad_refused header es behind image at near place d.err)
      opened (Ok None) at d = inr (length image, unfinished_refused header es behind image at near d.ok)
      opened (Ok (Some e)) at d =
          let entry : Entry = record { kind = e.0; payload = e.1 } in
          let w = d.ok in
          again (es ++ entry ∷ []) e.2 (leads_on header es entry e.2 image w.sized (subst (λ l. Leads header es (open_gate ∷ l) image) w.split at))
          (omega (arith, gate_push es entry, w.near)) (omega (arith, ap length w.split, length-append (body entry) e.2))

  entries_decided : (fuel : ℕ) (es : List Entry) (x : List ℕ) → Leads header es x image → gate_place es < JOURNAL_BYTES → length x < fuel → Decided image
  entries_decided zero es x leads near less = absurd (omega (arith, less))
  entries_decided (suc fuel) es x leads near less = step es x leads near (λ more y at there shorter. entries_decided fuel more y at there (omega (arith, shorter, less)))

header_decided : (image : List ℕ) (left place : ℕ) → place + left ≡ HEADER_BYTES → FitsBelow place image → place ≤ length image → ((FitsBelow HEADER_BYTES image) × (HEADER_BYTES ≤ length image)) ⊎ ((at : ℕ) × IsRefused image at)
header_decided image zero place sum fits inside = let all : place ≡ HEADER_BYTES = omega (arith, sum) in inl (subst (λ n. FitsBelow n image) all fits, omega (arith, all, inside))
header_decided image (suc left) place sum fits inside = elim (cases_eq place (length image)) [
  | inl end ↦ inr (place, header_refused image place low inside fits (inl end))
  | inr other ↦ elim (cases_Bool (header_fits place (get_or image place 0))) [
    | inl is ↦ header_decided image left (place + 1) (omega (arith, sum)) (more is) (omega (arith, inside, other))
    | inr is ↦ inr (place, header_refused image place low inside fits (inr (omega (arith, inside, other), is)))
  ]
]
  where
    low : place < HEADER_BYTES
    low = omega (arith, sum)

    more : header_fits place (get_or image place 0) ≡ true → FitsBelow (place + 1) image
    more is i less = elim (cases_lt i place) [ inl before ↦ fits i before | inr past ↦ (let at : i ≡ place = omega (arith, past, less) in subst (λ (n : ℕ). header_fits n (get_or image n 0) ≡ true) (sym at) is) ]

pub image_decided : (image : List ℕ) → Decided image
image_decided image = elim (header_decided image HEADER_BYTES 0 refl (λ i less. absurd (omega (arith, less))) (omega arith)) [ inl titled ↦ go titled.0 titled.1 | inr refused ↦ inr refused ]
  where
    go : FitsBelow HEADER_BYTES image → HEADER_BYTES ≤ length image → Decided image
    go fits long =
        let cut : length (take HEADER_BYTES image) ≡ HEADER_BYTES = omega (arith, length-take HEADER_BYTES image, long) in
        let front : FitsBelow HEADER_BYTES (take HEADER_BYTES image) = λ i less. subst (λ (b : ℕ). header_fits i b ≡ true) (sym (get_or-take HEADER_BYTES image i 0 less)) (fits i less) in
        let leads = subst (λ l. Leads (header_of (take HEADER_BYTES image)) [] (drop HEADER_BYTES image) l) (take-append-drop HEADER_BYTES image) (header_leads (take HEADER_BYTES image) cut front (drop HEADER_BYTES image)) in
        entries_decided (header_of (take HEADER_BYTES image)) image (length (drop HEADER_BYTES image) + 1) [] (drop HEADER_BYTES image) leads (omega arith) (omega arith)
