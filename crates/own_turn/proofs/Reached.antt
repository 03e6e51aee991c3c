-- The due sets that a transmission reaches.
use Rattle.std.proofs.Common.{◌≡◌, ◌⊎◌, ℕ, zero, suc, ◌+◌, ◌<◌, ◌≤◌, nat_le, nat_lt, Bool, true, false, if◌then◌else◌, List, [], ◌∷◌, ◌++◌, length, drop, get_or, Option, Some, None, Result, Ok, Err, refl, sym, ◌∙◌, ap, subst, inl, inr, arith, append-nil, length-append}
use Rattle.std.specs.Prelude.{All}
use Rattle.std.specs.List.{concat, cons_option, filter_map}
use Rattle.std.specs.Option.{option_map}
use Rattle.std.proofs.lemmas.List.Elements.{All-cons, All-head, All-nil, All-tail}
use Rattle.std.proofs.lemmas.Bool.{leb-true, ltb-true}
use Rattle.std.proofs.lemmas.List.{map-append}
use Rattle.std.proofs.lemmas.List.Folds.{concat-append}
use Rattle.dsd_values.specs.declared.role.Role.{Role}
use Rattle.dsd_values.specs.Answers.{UnlessMemory}
use Rattle.segments.specs.SegmentWriting.{line_of}
use Rattle.segments.specs.SetUnits.{IsSetText}
use Rattle.dxs_envelope.specs.Sending.{header_row, text_of_sets, trailer_row, unless_long}
use Rattle.dxs_envelope.specs.declared.outgoing.EnvelopeWriteFault.{EnvelopeWriteFault}
use Rattle.dxs_envelope.specs.declared.outgoing.EnvelopeWriteFault.TheVariants.{LongText, Memory}
use Rattle.dxs_envelope.specs.declared.outgoing.TheConstants.{TRANSMISSION_BYTES}
use Rattle.dsd_journal.specs.declared.entry.Entry.{Entry}
use Rattle.dsd_journal.specs.declared.header.Header.{Header}
use Rattle.dsd_journal.specs.declared.limits.TheConstants.{MOST_ENTRIES}
use Rattle.delivery_book.specs.Lookups.{last_signed, numbers_of}
use Rattle.delivery_book.specs.Signing.{Legal}
use Rattle.own_turn.specs.DueSets.{Asked, DueSet, asked_of, due_of, due_sets, has_room, is_due, reached, texts_of}
use Rattle.own_turn.proofs.Framing.{transmission_length}
use Rattle.own_turn.proofs.Looping.{next_of_get}
use Rattle.own_turn.proofs.SignedTexts.{last_set}

-- ---- a transmission of them is not too long

abbrev pub HasRoom : Header → ℕ → List DueSet → Type 0
HasRoom header control sets = (sets ≡ []) ⊎ (has_room header control sets ≡ true)

module _ (header : Header) (control : ℕ) where
  pub reached_room : (front sets : List DueSet) → HasRoom header control front → HasRoom header control (reached header control front sets)
  reached_room front [] room = room
  reached_room front (set ∷ more) room = at (has_room header control (front ++ set ∷ [])) refl (λ fits. reached_room (front ++ set ∷ []) more (inr fits))
    where
      at : (b : Bool) → has_room header control (front ++ set ∷ []) ≡ b → (has_room header control (front ++ set ∷ []) ≡ true → HasRoom header control (reached header control (front ++ set ∷ []) more))
          → HasRoom header control (if b then reached header control (front ++ set ∷ []) more else front)
      at true e later = later e
      at false e later = room

  all_more : (P : DueSet → Type 0) (front : List DueSet) (set : DueSet) → All P front → P set → All P (front ++ set ∷ [])
  all_more P [] set a p = All-cons P set [] p (All-nil P)
  all_more P (first ∷ front) set a p = All-cons P first (front ++ set ∷ []) (All-head P first front a) (all_more P front set (All-tail P first front a) p)

  pub reached_all : (P : DueSet → Type 0) (front sets : List DueSet) → All P front → All P sets → All P (reached header control front sets)
  reached_all P front [] a b = a
  reached_all P front (set ∷ more) a b =
      at (has_room header control (front ++ set ∷ [])) (reached_all P (front ++ set ∷ []) more (all_more P front set a (All-head P set more b)) (All-tail P set more b))
    where
      at : (b : Bool) → All P (reached header control (front ++ set ∷ []) more) → All P (if b then reached header control (front ++ set ∷ []) more else front)
      at true later = later
      at false later = a

-- ---- each is the last signed set of its delivery

module _ (entries : List Entry) (all : List Asked) where
  abbrev IsLast : DueSet → Type 0
  IsLast set = last_signed entries set.number ≡ Some set.text

  made_last : (number : List ℕ) (o : Option (List ℕ)) (set : DueSet) → last_signed entries number ≡ o → option_map (λ (text : List ℕ). (let due : DueSet = record { number = number; text = text } in due)) o ≡ Some set → IsLast set
  made_last number None set e is = cc
  made_last number (Some text) set e is =
      let same : (let due : DueSet = record { number = number; text = text } in due) ≡ set = some_same _ set is in
      subst IsLast same e
    where
      some_same : (a b : DueSet) → Some a ≡ Some b → a ≡ b
      some_same a b h = cc

  due_last : (number : List ℕ) (b : Bool) (set : DueSet) → (if b then option_map (λ (text : List ℕ). (let due : DueSet = record { number = number; text = text } in due)) (last_signed entries number) else None) ≡ Some set → IsLast set
  due_last number true set is = made_last number (last_signed entries number) set refl is
  due_last number false set is = cc

  each_last : (numbers : List (List ℕ)) → All IsLast (filter_map (due_of entries all) numbers)
  each_last [] = All-nil IsLast
  each_last (number ∷ numbers) = at (due_of entries all number) refl (each_last numbers)
    where
      at : (o : Option DueSet) → due_of entries all number ≡ o → All IsLast (filter_map (due_of entries all) numbers) → All IsLast (cons_option o (filter_map (due_of entries all) numbers))
      at (Some set) e later = All-cons IsLast set _ (due_last number (is_due entries (asked_of number all)) set e) later
      at None e later = later

  pub due_sets_last : All IsLast (due_sets entries all)
  due_sets_last = each_last (numbers_of entries)

  pub texts_sets : (sets : List DueSet) → ((number text : List ℕ) → last_signed entries number ≡ Some text → IsSetText text) → All IsLast sets → All IsSetText (texts_of sets)
  texts_sets [] each a = All-nil IsSetText
  texts_sets (set ∷ sets) each a = All-cons IsSetText set.text (texts_of sets) (each set.number set.text (All-head IsLast set sets a)) (texts_sets sets each (All-tail IsLast set sets a))

-- ---- one set more

pub concat_more : (texts : List (List ℕ)) (text : List ℕ) → length (concat (texts ++ text ∷ [])) ≡ length (concat texts) + length text
concat_more texts text = ap length (concat-append texts (text ∷ [])) ∙ length-append (concat texts) (text ++ []) ∙ ap (λ (l : List ℕ). length (concat texts) + length l) (append-nil text)

many_texts : (front : List DueSet) → length (texts_of front) ≡ length front
many_texts [] = refl
many_texts (set ∷ front) = let rest = many_texts front in omega (arith, rest)

pub room_for : (header : Header) (control : ℕ) (front : List DueSet) (number text : List ℕ) (sets envelope bytes : ℕ) → sets ≡ length front → bytes ≡ length (concat (texts_of front))
    → envelope ≡ length (line_of (header_row header.own header.peer control)) + length (line_of (trailer_row control (sets + 1)))
    → nat_le (envelope + (bytes + length text)) TRANSMISSION_BYTES ≡ has_room header control (front ++ (let due : DueSet = record { number = number; text = text } in due) ∷ [])
room_for header control front number text sets envelope bytes many sum around =
    let due : DueSet = record { number = number; text = text } in
    let texts : texts_of (front ++ due ∷ []) ≡ texts_of front ++ text ∷ [] = map-append (λ (set : DueSet). set.text) front (due ∷ []) in
    let count : length (texts_of front ++ text ∷ []) ≡ sets + 1 = length-append (texts_of front) (text ∷ []) ∙ ap (λ (n : ℕ). n + 1) (many_texts front ∙ sym many) in
    let whole = transmission_length header.own header.peer control (texts_of front ++ text ∷ []) in
    let trailer : length (line_of (trailer_row control (length (texts_of front ++ text ∷ [])))) ≡ length (line_of (trailer_row control (sets + 1))) = ap (λ (n : ℕ). length (line_of (trailer_row control n))) count in
    let all : envelope + (bytes + length text) ≡ length (text_of_sets header.own header.peer control (texts_of front ++ text ∷ [])) = omega (arith, whole, trailer, around, sum, concat_more (texts_of front) text) in
    ap (λ (n : ℕ). nat_le n TRANSMISSION_BYTES) (all ∙ ap (λ (l : List (List ℕ)). length (text_of_sets header.own header.peer control l)) (sym texts))

-- the last signed set of a delivery, where it is due
module _ (entries : List Entry) (all : List Asked) (number : List ℕ) where
  abbrev made : Option (List ℕ) → Option DueSet
  made found = option_map (λ (text : List ℕ). (let due : DueSet = record { number = number; text = text } in due)) found

  pub due_there : (last : Option (List ℕ)) → is_due entries (asked_of number all) ≡ true → last ≡ last_signed entries number → made last ≡ due_of entries all number
  due_there last due e = ap made e ∙ sym (ap (λ (b : Bool). if b then made (last_signed entries number) else None) due)

  pub due_not : is_due entries (asked_of number all) ≡ false → None ≡ due_of entries all number
  due_not due = sym (ap (λ (b : Bool). if b then made (last_signed entries number) else None) due)

-- the deliveries from a place on
pub due_from : (due : List ℕ → Option DueSet) (numbers : List (List ℕ)) (index : ℕ) → index < length numbers
    → filter_map due (drop index numbers) ≡ cons_option (due (get_or numbers index [])) (filter_map due (drop (index + 1) numbers))
due_from due numbers index within = ap (filter_map due) (next_of_get numbers index (get_or numbers index []) within (get_same numbers index within))
  where
    get_same : (xs : List (List ℕ)) (i : ℕ) → i < length xs → get_or xs i [] ≡ get_or xs i (get_or xs i [])
    get_same [] i within = absurd (omega (arith, within))
    get_same (x ∷ xs) zero within = refl
    get_same (x ∷ xs) (suc i) within = get_same xs i (omega (arith, within))

pub goes_on : (header : Header) (control : ℕ) (due : List ℕ → Option DueSet) (numbers : List (List ℕ)) (index : ℕ) (old new total : List DueSet) (still : Bool) → index < length numbers
    → reached header control old (filter_map due (drop index numbers)) ≡ total
    → ((rest : List DueSet) → reached header control old (cons_option (due (get_or numbers index [])) rest) ≡ (if still then reached header control new rest else new))
    → (if still then reached header control new (filter_map due (drop (index + 1) numbers)) else new) ≡ total
goes_on header control due numbers index old new total still within before step =
    sym (step (filter_map due (drop (index + 1) numbers))) ∙ ap (reached header control old) (sym (due_from due numbers index within)) ∙ before

-- ---- what may be written

not_long : (text : List ℕ) (b : Bool) → nat_lt TRANSMISSION_BYTES (length text) ≡ b → nat_le (length text) TRANSMISSION_BYTES ≡ true → unless_long text ≡ Ok text
not_long text true e fits = absurd (omega (arith, ltb-true TRANSMISSION_BYTES (length text) e, leb-true (length text) TRANSMISSION_BYTES fits))
not_long text false e fits = ap (λ (t : Bool). (if t then Err (LongText (length text)) else Ok text)) e

-- a text that is not too long is not refused for its length
pub never_long : (text : List ℕ) (fault : EnvelopeWriteFault) (n : ℕ) → fault ≡ LongText n → nat_le (length text) TRANSMISSION_BYTES ≡ true
    → (let r : Result (List ℕ) EnvelopeWriteFault = Err fault in UnlessMemory Memory r (unless_long text)) → ⊥
never_long text fault n is fits (inl e) = let same : fault ≡ Memory = fault_same fault Memory e in cc
  where
    fault_same : (a b : EnvelopeWriteFault) → (let r : Result (List ℕ) EnvelopeWriteFault = Err a in r) ≡ Err b → a ≡ b
    fault_same a b h = cc
never_long text fault n is fits (inr e) = let ok = not_long text (nat_lt TRANSMISSION_BYTES (length text)) refl fits in cc

module _ (header : Header) (control : ℕ) (entries : List Entry) (all : List Asked) (sets : List DueSet) (are : sets ≡ reached header control [] (due_sets entries all)) where
  pub gathered_texts : (role : Role) → Legal role entries → length entries ≤ MOST_ENTRIES → All IsSetText (texts_of sets)
  gathered_texts role legal few =
      texts_sets entries all sets (last_set role entries legal few) (subst (λ (l : List DueSet). All (IsLast entries all) l) (sym are) (reached_all header control (IsLast entries all) [] (due_sets entries all) (All-nil (IsLast entries all)) (due_sets_last entries all)))

  pub gathered_room : 0 < length sets → has_room header control sets ≡ true
  gathered_room some = elim (subst (HasRoom header control) (sym are) (reached_room header control [] (due_sets entries all) (inl refl))) [
    | inl none ↦ absurd (omega (arith, ap length none, some))
    | inr room ↦ room
  ]
