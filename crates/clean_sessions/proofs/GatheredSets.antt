-- The gathered sets are last signed ones that are due, of deliveries that stand apart.
use Rattle.std.proofs.Common.{◌≡◌, ℕ, Bool, true, false, ◌||◌, cond, List, [], ◌∷◌, ◌++◌, Option, Some, None, refl, sym, ap, subst, ◌∙◌, inl, inr, append_assoc}
use Rattle.std.specs.Str.{bytes_eq}
use Rattle.std.specs.List.{cons_option, filter_map}
use Rattle.std.specs.Option.{option_map}
use Rattle.std.proofs.lemmas.Bool.{cases_Bool}
use Rattle.std.proofs.lemmas.Slice.Eq.{bytes_eq-Decides}
use Rattle.dsd_journal.specs.declared.entry.Entry.{Entry}
use Rattle.dsd_journal.specs.declared.header.Header.{Header}
use Rattle.delivery_book.specs.Lookups.{last_signed, numbers_of}
use Rattle.own_turn.specs.DueSets.{Asked, DueSet, asked_of, due_of, due_sets, has_room, is_due, reached}
use Rattle.own_turn.specs.OwnTurn.{Desk, gathered, next_turn}
use Rattle.clean_sessions.specs.DeliveryStands.{AreLast, is_among}
use Rattle.clean_sessions.proofs.NumbersApart.{Apart, has, numbers_apart}

-- ---- a front of the due sets

-- what holds of a front of them holds of those that are reached
pub reached_front : (P : List DueSet → Type 0) → ((front behind : List DueSet) → P (front ++ behind) → P front) → (header : Header) (control : ℕ) (front sets : List DueSet) → P (front ++ sets) → P (reached header control front sets)
reached_front P closed header control front [] p = closed front [] p
reached_front P closed header control front (set ∷ more) p =
    by (has_room header control (front ++ set ∷ [])) (reached_front P closed header control (front ++ set ∷ []) more (subst P (sym (append_assoc front (set ∷ []) more)) p))
  where
    by : (b : Bool) → P (reached header control (front ++ set ∷ []) more) → P (cond b (reached header control (front ++ set ∷ []) more) front)
    by true on = on
    by false on = closed front (set ∷ more) p

-- ---- one set

pub record IsDueSet (entries : List Entry) (all : List Asked) (number text : List ℕ) : Type 0 where
  pub due : is_due entries (asked_of number all) ≡ true
  pub last : last_signed entries number ≡ Some text

module _ (entries : List Entry) (all : List Asked) where
  record IsMade (number : List ℕ) (set : DueSet) : Type 0 where
    its : set.number ≡ number
    is : IsDueSet entries all set.number set.text

  made_at : (number : List ℕ) (set : DueSet) (last : Option (List ℕ)) → is_due entries (asked_of number all) ≡ true → last_signed entries number ≡ last
      → option_map (λ (t : List ℕ). (let d : DueSet = record { number = number; text = t } in d)) last ≡ Some set → IsMade number set
  made_at number set None due is e = absurd (cc)
  made_at number set (Some text) due is e =
      let same : (let d : DueSet = record { number = number; text = text } in d) ≡ set = cc in
      subst (IsMade number) same (record { its = refl; is = record { due = due; last = is } })

  made_if : (number : List ℕ) (set : DueSet) (b : Bool) → is_due entries (asked_of number all) ≡ b
      → cond b (option_map (λ (t : List ℕ). (let d : DueSet = record { number = number; text = t } in d)) (last_signed entries number)) None ≡ Some set → IsMade number set
  made_if number set true due e = made_at number set (last_signed entries number) due refl e
  made_if number set false due e = absurd (cc)

  made_of : (number : List ℕ) (set : DueSet) → due_of entries all number ≡ Some set → IsMade number set
  made_of number set e = made_if number set (is_due entries (asked_of number all)) refl e

  -- ---- all of them

  two_false : (a b : Bool) → (a || b) ≡ false → (a ≡ false) × (b ≡ false)
  two_false true b e = absurd (cc)
  two_false false b e = (refl, e)

  none_made : (number : List ℕ) (numbers : List (List ℕ)) → has number numbers ≡ false → is_among number (filter_map (due_of entries all) numbers) ≡ false
  none_made number [] none = refl
  none_made number (own ∷ more) none =
      let away = two_false (bytes_eq own number) (has number more) none in
      by (due_of entries all own) refl away.0 (none_made number more away.1)
    where
      by : (o : Option DueSet) → due_of entries all own ≡ o → bytes_eq own number ≡ false → is_among number (filter_map (due_of entries all) more) ≡ false → is_among number (cons_option o (filter_map (due_of entries all) more)) ≡ false
      by None e differs rest = rest
      by (Some set) e differs rest =
          let m = made_of own set e in
          ap (λ (n : List ℕ). bytes_eq n number || is_among number (filter_map (due_of entries all) more)) m.its
          ∙ ap (λ (b : Bool). b || is_among number (filter_map (due_of entries all) more)) differs ∙ rest

  each_last : (numbers : List (List ℕ)) → Apart numbers → AreLast entries (filter_map (due_of entries all) numbers)
  each_last [] apart = tt
  each_last (own ∷ more) apart = by (due_of entries all own) refl (each_last more apart.1)
    where
      by : (o : Option DueSet) → due_of entries all own ≡ o → AreLast entries (filter_map (due_of entries all) more) → AreLast entries (cons_option o (filter_map (due_of entries all) more))
      by None e rest = rest
      by (Some set) e rest =
          let m = made_of own set e in
          (m.is.last, ap (λ (n : List ℕ). is_among n (filter_map (due_of entries all) more)) m.its ∙ none_made own more apart.0, rest)

  -- the one of this delivery is due
  abbrev pub OneIsDue : List ℕ → List DueSet → Type 0
  OneIsDue number sets = is_among number sets ≡ true → (text : List ℕ) × IsDueSet entries all number text

  each_due : (number : List ℕ) (numbers : List (List ℕ)) → OneIsDue number (filter_map (due_of entries all) numbers)
  each_due number [] there = absurd (cc)
  each_due number (own ∷ more) there = by (due_of entries all own) refl (each_due number more) there
    where
      by : (o : Option DueSet) → due_of entries all own ≡ o → OneIsDue number (filter_map (due_of entries all) more) → is_among number (cons_option o (filter_map (due_of entries all) more)) ≡ true
          → (text : List ℕ) × IsDueSet entries all number text
      by None e rest there = rest there
      by (Some set) e rest there = elim (cases_Bool (bytes_eq set.number number)) [
        | inl same ↦ (set.text, subst (λ (n : List ℕ). IsDueSet entries all n set.text) ((bytes_eq-Decides set.number number).0 same) (made_of own set e).is)
        | inr differs ↦ rest (subst (λ (b : Bool). (b || is_among number (filter_map (due_of entries all) more)) ≡ true) differs there)
      ]

-- ---- fronts of them

among_front : (number : List ℕ) (front behind : List DueSet) → is_among number front ≡ true → is_among number (front ++ behind) ≡ true
among_front number [] behind e = absurd (cc)
among_front number (set ∷ more) behind e = by (bytes_eq set.number number) e (among_front number more behind)
  where
    by : (b : Bool) → (b || is_among number more) ≡ true → (is_among number more ≡ true → is_among number (more ++ behind) ≡ true) → (b || is_among number (more ++ behind)) ≡ true
    by true e rest = refl
    by false e rest = rest e

not_among_front : (number : List ℕ) (front behind : List DueSet) → is_among number (front ++ behind) ≡ false → is_among number front ≡ false
not_among_front number [] behind e = refl
not_among_front number (set ∷ more) behind e = by (bytes_eq set.number number) e (not_among_front number more behind)
  where
    by : (b : Bool) → (b || is_among number (more ++ behind)) ≡ false → (is_among number (more ++ behind) ≡ false → is_among number more ≡ false) → (b || is_among number more) ≡ false
    by true e rest = absurd (cc)
    by false e rest = rest e

last_front : (entries : List Entry) (front behind : List DueSet) → AreLast entries (front ++ behind) → AreLast entries front
last_front entries [] behind last = tt
last_front entries (set ∷ more) behind last = (last.0, not_among_front set.number more behind last.1, last_front entries more behind last.2)

pub gathered_last : (header : Header) (desk : Desk) → AreLast desk.entries (gathered header desk)
gathered_last header desk =
    reached_front (AreLast desk.entries) (last_front desk.entries) header (next_turn desk) [] (due_sets desk.entries desk.asked)
    (each_last desk.entries desk.asked (numbers_of desk.entries) (numbers_apart desk.entries))

pub gathered_due : (header : Header) (desk : Desk) (number : List ℕ) → is_among number (gathered header desk) ≡ true → (text : List ℕ) × IsDueSet desk.entries desk.asked number text
gathered_due header desk number =
    reached_front (OneIsDue desk.entries desk.asked number) (λ front behind all there. all (among_front number front behind there)) header (next_turn desk) [] (due_sets desk.entries desk.asked)
    (each_due desk.entries desk.asked number (numbers_of desk.entries))
