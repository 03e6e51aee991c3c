-- The places of entries.
use Rattle.std.proofs.Common.{◌≡◌, ℕ, zero, suc, ◌+◌, ◌*◌, ◌<◌, ◌≤◌, List, [], ◌∷◌, ◌++◌, length, get_or, take, refl, ◌∙◌, ap, arith, length-append}
use Rattle.dsd_journal.specs.declared.limits.TheConstants.{JOURNAL_BYTES, MOST_ENTRIES}
use Rattle.dsd_journal.specs.declared.entry.Entry.{Entry}
use Rattle.dsd_journal.specs.JournalImage.{body, spelled, gate_place, EachFits, IsPayloadLength}
use Rattle.dsd_journal.specs.Kept.{places_from}
use Rattle.dsd_journal.proofs.Peeling.{body_length, spelled_append}

seven_each : (es : List Entry) → EachFits es → 7 * length es ≤ length (spelled es)
seven_each [] f = omega arith
seven_each (e ∷ es) f = omega (arith, seven_each es f.1, f.0.0, length-append (body e) (spelled es), body_length e)

pub few_entries : (es : List Entry) → EachFits es → gate_place es < JOURNAL_BYTES → length es ≤ MOST_ENTRIES
few_entries es f below = omega (arith, seven_each es f, below)

pub sized_at : (es : List Entry) (i : ℕ) (none : Entry) → EachFits es → i < length es → IsPayloadLength (length (get_or es i none).payload)
sized_at [] i none f inside = absurd (omega (arith, inside))
sized_at (e ∷ es) zero none f inside = f.0
sized_at (e ∷ es) (suc i) none f inside = sized_at es i none f.1 (omega (arith, inside))

pub places_length : (gate : ℕ) (es : List Entry) → length (places_from gate es) ≡ length es
places_length gate [] = refl
places_length gate (e ∷ es) = ap suc (places_length (gate + 1 + length (body e)) es)

pub place_at : (gate : ℕ) (es : List Entry) (i d : ℕ) → i < length es → get_or (places_from gate es) i d ≡ gate + length (spelled (take i es)) + 1
place_at gate [] i d inside = absurd (omega (arith, inside))
place_at gate (e ∷ es) zero d inside = omega arith
place_at gate (e ∷ es) (suc i) d inside = place_at (gate + 1 + length (body e)) es i d (omega (arith, inside)) ∙ omega (arith, length-append (body e) (spelled (take i es)))

pub places_append : (gate : ℕ) (es fs : List Entry) → places_from gate (es ++ fs) ≡ places_from gate es ++ places_from (gate + length (spelled es)) fs
places_append gate [] fs = let same : gate ≡ gate + 0 = omega arith in ap (λ (n : ℕ). places_from n fs) same
places_append gate (e ∷ es) fs =
    let same : gate + 1 + length (body e) + length (spelled es) ≡ gate + length (spelled (e ∷ es)) = omega (arith, length-append (body e) (spelled es)) in
    ap (λ (l : List ℕ). (gate + 1) ∷ l) (places_append (gate + 1 + length (body e)) es fs ∙ ap (λ (n : ℕ). places_from (gate + 1 + length (body e)) es ++ places_from n fs) same)

-- ---- entries behind others

pub gate_append : (es fs : List Entry) → gate_place (es ++ fs) ≡ gate_place es + length (spelled fs)
gate_append es fs = omega (arith, ap length (spelled_append es fs), length-append (spelled es) (spelled fs))

pub spelled_some : (es : List Entry) → 0 < length es → 0 < length (spelled es)
spelled_some [] some = absurd (omega (arith, some))
spelled_some (e ∷ es) some = omega arith

pub none_of : {A : Type 0} (l : List A) → length l ≡ 0 → l ≡ []
none_of [] e = refl
none_of (x ∷ l) e = absurd (omega (arith, e))
