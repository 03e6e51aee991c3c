-- An image holds one list, and none that is refused as outgrown.
use Rattle.std.proofs.Common.{◌≡◌, ◌⊎◌, inl, inr, ℕ, ◌+◌, ◌<◌, ◌≤◌, List, [], ◌∷◌, ◌++◌, length, take, drop, sym, ◌∙◌, ap, subst, arith, append_assoc}
use Rattle.std.proofs.lemmas.Bool.{cases_lt}
use Rattle.std.proofs.lemmas.List.{append-nil, take-take, take-append-drop}
use Rattle.std.specs.Int.{w32, to_be_bytes}
use Rattle.dsd_journal.specs.declared.entry.Entry.{Entry}
use Rattle.dsd_journal.specs.declared.entry.EntryKind.{EntryKind}
use Rattle.dsd_journal.specs.declared.header.Header.{Header}
use Rattle.dsd_journal.specs.JournalImage.{open_gate, kind_letter, body, spelled, gate_place, EachFits, IsPayloadLength, IsJournal, Holds}
use Rattle.dsd_journal.specs.FirstBad.{Begins, StopsAt, Outgrows, IsRefused, Outgrown, Stopped}
use Rattle.dsd_journal.proofs.Peeling.{Ahead, one_front, shut_ahead, heads, tails, sized_apart, body_split, gate_ahead}

pub one_list : (image : List ℕ) (one other : Header) (entries others : List Entry) → Holds one entries image → Holds other others image → (one ≡ other) × (entries ≡ others)
one_list image one other entries others p q =
    let both = one_front one other entries others (p.journal.gate ∷ p.journal.rest) (q.journal.gate ∷ q.journal.rest) image p.journal.leads q.journal.leads in (
      both.0,
      elim (both.1) [
        | inl h ↦ sym ((shut_ahead entries others p.journal.gate p.journal.rest (q.journal.gate ∷ q.journal.rest) p.journal.shut h).0)
        | inr h ↦ (shut_ahead others entries q.journal.gate q.journal.rest (p.journal.gate ∷ p.journal.rest) q.journal.shut h).0
      ],
    )

-- What goes on behind an open gate with a kind and a length: that entry, or nothing.
pub size_ahead : (es fs : List Entry) (kind : EntryKind) (n : ℕ) (rest y : List ℕ) → IsPayloadLength n → EachFits fs
    → Ahead es (open_gate ∷ kind_letter kind ∷ (to_be_bytes w32 n ++ rest)) fs y → (fs ≡ es) × (open_gate ∷ kind_letter kind ∷ (to_be_bytes w32 n ++ rest) ≡ y) ⊎ (gate_place es + 6 + n ≤ gate_place fs)
size_ahead es fs kind n rest y sized each h = go h.more h.list h.behind
  where
    fits_ahead : (es' fs' : List Entry) (m : Entry) (ms : List Entry) → fs' ≡ es' ++ m ∷ ms → EachFits fs' → IsPayloadLength (length m.payload)
    fits_ahead es' fs' m ms list e = at es' (subst EachFits list e)
      where
        at : (l : List Entry) → EachFits (l ++ m ∷ ms) → IsPayloadLength (length m.payload)
        at [] f = f.0
        at (x ∷ l) f = at l f.1

    go : (more : List Entry) → fs ≡ es ++ more → open_gate ∷ kind_letter kind ∷ (to_be_bytes w32 n ++ rest) ≡ spelled more ++ y
        → (fs ≡ es) × (open_gate ∷ kind_letter kind ∷ (to_be_bytes w32 n ++ rest) ≡ y) ⊎ (gate_place es + 6 + n ≤ gate_place fs)
    go [] list behind = inl (list ∙ append-nil es, behind)
    go (m ∷ ms) list behind =
        let tail : kind_letter kind ∷ (to_be_bytes w32 n ++ rest) ≡ (body m ++ spelled ms) ++ y = tails open_gate open_gate (kind_letter kind ∷ (to_be_bytes w32 n ++ rest)) ((body m ++ spelled ms) ++ y) behind in
        let parts = sized_apart kind m.kind n (length m.payload) rest (m.payload ++ (spelled ms ++ y)) sized (fits_ahead es fs m ms list each) (tail ∙ append_assoc (body m) (spelled ms) y ∙ body_split m (spelled ms ++ y)) in
        inr (omega (arith, parts.1, gate_ahead es m ms, ap gate_place list))

holds_grown : (image : List ℕ) (header : Header) (entries : List Entry) (place : ℕ) → Holds header entries image → Outgrows image place → ⊥
holds_grown image header entries place p q =
    let x = open_gate ∷ kind_letter q.kind ∷ (to_be_bytes w32 q.size ++ q.rest) in
    let both = one_front q.header header q.entries entries x (p.journal.gate ∷ p.journal.rest) image q.leads p.journal.leads in
    elim (both.1) [
      | inl h ↦ go (size_ahead q.entries entries q.kind q.size q.rest (p.journal.gate ∷ p.journal.rest) q.sized p.journal.leads.each h)
      | inr h ↦ shut (shut_ahead entries q.entries p.journal.gate p.journal.rest x p.journal.shut h)
    ]
  where
    shut : (q.entries ≡ entries) × (p.journal.gate ∷ p.journal.rest ≡ open_gate ∷ kind_letter q.kind ∷ (to_be_bytes w32 q.size ++ q.rest)) → ⊥
    shut e = p.journal.shut (heads p.journal.gate open_gate p.journal.rest (kind_letter q.kind ∷ (to_be_bytes w32 q.size ++ q.rest)) e.1)

    go : (entries ≡ q.entries) × (open_gate ∷ kind_letter q.kind ∷ (to_be_bytes w32 q.size ++ q.rest) ≡ p.journal.gate ∷ p.journal.rest) ⊎ (gate_place q.entries + 6 + q.size ≤ gate_place entries) → ⊥
    go (inl e) = p.journal.shut (sym (heads open_gate p.journal.gate (kind_letter q.kind ∷ (to_be_bytes w32 q.size ++ q.rest)) p.journal.rest e.1))
    go (inr e) = omega (arith, e, q.far, p.within)

pub never_both : (image : List ℕ) (header : Header) (entries : List Entry) (place : ℕ) → Holds header entries image → IsRefused image place → ⊥
never_both image header entries place p (Outgrown q) = holds_grown image header entries place p q
never_both image header entries place p (Stopped none free stops) = free header entries p

one_growth : (image : List ℕ) (place other : ℕ) → Outgrows image place → Outgrows image other → place ≡ other
one_growth image place other p q =
    let x = open_gate ∷ kind_letter p.kind ∷ (to_be_bytes w32 p.size ++ p.rest) in
    let y = open_gate ∷ kind_letter q.kind ∷ (to_be_bytes w32 q.size ++ q.rest) in
    let both = one_front p.header q.header p.entries q.entries x y image p.leads q.leads in
    elim (both.1) [
      | inl h ↦ first (size_ahead p.entries q.entries p.kind p.size p.rest y p.sized q.leads.each h)
      | inr h ↦ second (size_ahead q.entries p.entries q.kind q.size q.rest x q.sized p.leads.each h)
    ]
  where
    first : (q.entries ≡ p.entries) × (open_gate ∷ kind_letter p.kind ∷ (to_be_bytes w32 p.size ++ p.rest) ≡ open_gate ∷ kind_letter q.kind ∷ (to_be_bytes w32 q.size ++ q.rest))
        ⊎ (gate_place p.entries + 6 + p.size ≤ gate_place q.entries) → place ≡ other
    first (inl e) = p.kind_place ∙ ap (λ (es : List Entry). gate_place es + 1) (sym e.0) ∙ sym q.kind_place
    first (inr e) = absurd (omega (arith, e, p.far, q.near))

    second : (p.entries ≡ q.entries) × (open_gate ∷ kind_letter q.kind ∷ (to_be_bytes w32 q.size ++ q.rest) ≡ open_gate ∷ kind_letter p.kind ∷ (to_be_bytes w32 p.size ++ p.rest))
        ⊎ (gate_place q.entries + 6 + q.size ≤ gate_place p.entries) → place ≡ other
    second (inl e) = p.kind_place ∙ ap (λ (es : List Entry). gate_place es + 1) e.0 ∙ sym q.kind_place
    second (inr e) = absurd (omega (arith, e, q.far, p.near))

begins_shorter : (front more : List ℕ) → Begins (front ++ more) → Begins front
begins_shorter front more b = record { header = b.header; entries = b.entries; tail = more ++ b.tail; journal = subst (λ l. IsJournal b.header b.entries l) (append_assoc front more b.tail) b.journal }

begins_within : (image : List ℕ) (n m : ℕ) → n ≤ m → Begins (take m image) → Begins (take n image)
begins_within image n m less b =
    let front : take n (take m image) ≡ take n image = take-take n m image less in
    subst Begins front (begins_shorter (take n (take m image)) (drop n (take m image)) (subst Begins (sym (take-append-drop n (take m image))) b))

earlier : (image : List ℕ) (place other : ℕ) → StopsAt image place → StopsAt image other → place < other → ⊥
earlier image place other p q less = go p.ends
  where
    go : (place ≡ length image) ⊎ (Begins (take (place + 1) image) → ⊥) → ⊥
    go (inl end) = omega (arith, end, less, q.inside)
    go (inr none) = none (begins_within image (place + 1) other (omega (arith, less)) q.before)

one_stop : (image : List ℕ) (place other : ℕ) → StopsAt image place → StopsAt image other → place ≡ other
one_stop image place other p q = elim (cases_lt place other) [
  | inl less ↦ absurd (earlier image place other p q less)
  | inr not_less ↦ elim (cases_lt other place) [
    | inl less ↦ absurd (earlier image other place q p less)
    | inr neither ↦ omega (arith, not_less, neither)
  ]
]

pub one_place : (image : List ℕ) (place other : ℕ) → IsRefused image place → IsRefused image other → place ≡ other
one_place image place other (Outgrown p) (Outgrown q) = one_growth image place other p q
one_place image place other (Outgrown p) (Stopped none free stops) = absurd (none place p)
one_place image place other (Stopped none free stops) (Outgrown q) = absurd (none other q)
one_place image place other (Stopped none free stops) (Stopped none' free' stops') = one_stop image place other stops stops'
