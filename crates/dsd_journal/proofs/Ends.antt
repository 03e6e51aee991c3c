-- From what was read of an image to what the image holds, or where it is refused.
use Rattle.std.proofs.Common.{◌≡◌, ◌⊎◌, inl, inr, ℕ, ◌+◌, ◌<◌, ◌≤◌, true, false, List, ◌∷◌, ◌++◌, length, get_or, take, drop, sym, ◌∙◌, ap, subst, arith, append_assoc, length-append, length-take}
use Rattle.std.proofs.lemmas.List.{take_all, take-append-drop, take-append-le, get_or-take}
use Rattle.std.specs.Int.{w32, to_be_bytes}
use Rattle.dsd_journal.specs.declared.limits.TheConstants.{HEADER_BYTES, JOURNAL_BYTES}
use Rattle.dsd_journal.specs.declared.entry.Entry.{Entry}
use Rattle.dsd_journal.specs.declared.header.Header.{Header}
use Rattle.dsd_journal.specs.JournalImage.{open_gate, kind_letter, gate_place, Leads, Holds}
use Rattle.dsd_journal.specs.FirstBad.{IsRefused}
use Rattle.dsd_journal.specs.Reading.{header_fits, FitsBelow, IsMistitled, StartsEntry, IsBad, NoEntry, TooFar, IsShut, IsWaiting, MeetsBad}
use Rattle.dsd_journal.proofs.Refusing.{leads_more, bad_refused, unfinished_refused, shut_holds, end_refused}
use Rattle.dsd_journal.proofs.Takes.{leads_takes}
use Rattle.dsd_journal.proofs.Titles.{header_refused}

bad_more : (gate : ℕ) (behind more : List ℕ) (place : ℕ) → IsBad gate behind place → IsBad gate (behind ++ more) place
bad_more gate behind more place (NoEntry k few inside starts none is) =
    let here : take k (behind ++ more) ≡ take k behind = take-append-le k behind more (omega (arith, inside)) in
    let next : take (k + 1) (behind ++ more) ≡ take (k + 1) behind = take-append-le (k + 1) behind more (omega (arith, inside)) in
    NoEntry k few (omega (arith, inside, length-append behind more)) (subst StartsEntry (sym here) starts) (λ s. none (subst StartsEntry next s)) is
bad_more gate behind more place (TooFar kind size rest sized is far at) =
    TooFar kind size (rest ++ more) sized (ap (λ (l : List ℕ). l ++ more) is ∙ append_assoc (kind_letter kind ∷ to_be_bytes w32 size) rest more) far at

module _ (header : Header) (es : List Entry) (bytes image : List ℕ) (at : ℕ) (leads : Leads header es bytes (take at image)) where
  whole : (fs : List Entry) (x : List ℕ) → Leads header fs x (take at image) → Leads header fs (x ++ drop at image) image
  whole fs x p = subst (λ l. Leads header fs (x ++ drop at image) l) (take-append-drop at image) (leads_more header fs x (drop at image) (take at image) p)

  pub read_bad : (place : ℕ) → MeetsBad es bytes place → IsRefused image place
  read_bad place m =
      bad_refused header m.new (m.behind ++ drop at image) image (whole m.new (open_gate ∷ m.behind) (leads_takes header es m.new bytes (open_gate ∷ m.behind) (take at image) m.takes leads)) m.near place
      (bad_more (gate_place m.new) m.behind (drop at image) place m.bad)

  module _ (near : gate_place es < JOURNAL_BYTES) where
    pub read_shut : IsShut bytes → Holds header es image
    read_shut s = shut_holds header es image near s.0 (s.1 ++ drop at image) s.3 (subst (λ l. Leads header es (l ++ drop at image) image) s.2 (whole es bytes leads))

    pub read_ended : at ≡ length image → IsWaiting (gate_place es) bytes → IsRefused image at
    read_ended end w = subst (IsRefused image) (sym end) (go w)
      where
        all : Leads header es bytes image
        all = subst (λ l. Leads header es bytes l) (take_all at image (omega (arith, end))) leads

        go : IsWaiting (gate_place es) bytes → IsRefused image (length image)
        go (inl none) = end_refused header es image near (subst (λ l. Leads header es l image) none all)
        go (inr u) = unfinished_refused header es u.0 image (subst (λ l. Leads header es l image) u.1 all) near u.2

pub mistitled_refused : (image bytes : List ℕ) (at place : ℕ) → bytes ≡ take at image → at ≤ length image → (at < HEADER_BYTES → at ≡ length image) → IsMistitled bytes place → IsRefused image place
mistitled_refused image bytes at place is inside end m = header_refused image place m.low (omega (arith, m.inside, long, inside)) fits (cause m.cause)
  where
    long : length bytes ≡ at
    long = omega (arith, ap length is, length-take at image, inside)

    same : (i : ℕ) → i < at → get_or bytes i 0 ≡ get_or image i 0
    same i less = ap (λ (l : List ℕ). get_or l i 0) is ∙ get_or-take at image i 0 less

    fits : FitsBelow place image
    fits i less = let below : i < at = omega (arith, less, m.inside, long) in subst (λ (b : ℕ). header_fits i b ≡ true) (same i below) (m.before i less)

    cause : (place ≡ length bytes) ⊎ ((place < length bytes) × (header_fits place (get_or bytes place 0) ≡ false)) → (place ≡ length image) ⊎ ((place < length image) × (header_fits place (get_or image place 0) ≡ false))
    cause (inl stop) = let all : place ≡ at = omega (arith, stop, long) in let low : at < HEADER_BYTES = omega (arith, all, m.low) in inl (omega (arith, all, end low))
    cause (inr bad) = let below : place < at = omega (arith, bad.0, long) in inr (omega (arith, below, inside), subst (λ (b : ℕ). header_fits place b ≡ false) (same place below) bad.1)
