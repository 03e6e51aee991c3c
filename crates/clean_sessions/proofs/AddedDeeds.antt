-- A set of a delivery that an end signed in a session was chosen on the entries before it.
use Rattle.std.proofs.Common.{◌≡◌, ◌⊎◌, ◌≤◌, ℕ, Bool, true, false, cond, length, List, [], ◌∷◌, ◌++◌, map, Option, Some, None, refl, sym, ap, subst, ◌∙◌, inl, inr, append_assoc, append-nil, length-append, arith}
use Rattle.std.specs.Str.{bytes_eq}
use Rattle.std.specs.List.{cons_option, filter}
use Rattle.std.proofs.lemmas.Bool.{cases_eq}
use Rattle.std.proofs.lemmas.List.{length-map}
use Rattle.std.proofs.lemmas.List.Elements.{filter-append}
use Rattle.dsd_values.specs.declared.role.Role.{Role}
use Rattle.dsd_record.specs.Choices.{Chooser}
use Rattle.dsd_record.specs.ReadSets.{set_in}
use Rattle.dsd_record.specs.declared.set_view.SetView.{SetView}
use Rattle.dsd_journal.specs.declared.entry.Entry.{Entry}
use Rattle.dsd_journal.specs.declared.entry.EntryKind.{EntryKind}
use Rattle.dsd_journal.specs.declared.entry.EntryKind.TheVariants.{Signed}
use Rattle.delivery_book.specs.Deeds.{Deed, deed_with, deeds_of, is_signed, number_in, of_delivery, signed_texts}
use Rattle.own_turn.specs.Choosing.{Chosen}
use Rattle.own_turn.specs.OwnTurn.{signed}
use Rattle.own_turn.specs.TurnsGrow.{AreNew, IsNewAs}
use Rattle.clean_sessions.specs.DeliveryStands.{sets_in}
use Rattle.clean_sessions.proofs.CoursesBehind.{deeds_grown}

-- ---- lists that are the same

pub parts_same : {X : Type 0} (xs ys : List X) (x y : X) (more rest : List X) → length xs ≡ length ys → xs ++ x ∷ more ≡ ys ++ y ∷ rest → (xs ≡ ys) × (x ≡ y) × (more ≡ rest)
parts_same [] [] x y more rest size e =
    let head : x ≡ y = cc in
    let tail : more ≡ rest = cc in
    (refl, head, tail)
parts_same [] (b ∷ ys) x y more rest size e = absurd (omega (arith, size))
parts_same (a ∷ xs) [] x y more rest size e = absurd (omega (arith, size))
parts_same (a ∷ xs) (b ∷ ys) x y more rest size e =
    let head : a ≡ b = cc in
    let tail : xs ++ x ∷ more ≡ ys ++ y ∷ rest = cc in
    let same = parts_same xs ys x y more rest (omega (arith, size)) tail in
    (ap (λ (z : _). z ∷ xs) head ∙ ap (λ (l : List _). b ∷ l) same.0, same.1, same.2)

-- ---- control numbers grow

pub signed_join : (entries more : List Entry) → length (signed_texts entries) ≤ length (signed_texts (entries ++ more))
signed_join entries more =
    let parts = filter-append (λ (e : Entry). is_signed e.kind) entries more in
    let all = ap (λ (l : List Entry). length (map (λ (e : Entry). e.payload) l)) parts in
    let joined = length-map (filter (λ (e : Entry). is_signed e.kind) entries ++ filter (λ (e : Entry). is_signed e.kind) more) (λ (e : Entry). e.payload) in
    let one = length-map (filter (λ (e : Entry). is_signed e.kind) entries) (λ (e : Entry). e.payload) in
    let sum = length-append (filter (λ (e : Entry). is_signed e.kind) entries) (filter (λ (e : Entry). is_signed e.kind) more) in
    omega (arith, all, joined, one, sum)

-- ---- one entry

module _ (number : List ℕ) where
  abbrev of_entry : Entry → List Deed
  of_entry entry = of_delivery number (deeds_of (entry ∷ []))

  one_deed : (entry : Entry) → (of_entry entry ≡ []) ⊎ ((deed : Deed) × (of_entry entry ≡ deed ∷ []) × (deed.kind ≡ entry.kind) × (deed.text ≡ entry.payload))
  one_deed entry = by (set_in entry.payload)
    where
      test : (b : Bool) (deed : Deed) → deed.kind ≡ entry.kind → deed.text ≡ entry.payload
          → (cond b (deed ∷ []) [] ≡ []) ⊎ ((one : Deed) × (cond b (deed ∷ []) [] ≡ one ∷ []) × (one.kind ≡ entry.kind) × (one.text ≡ entry.payload))
      test true deed kind text = inr (deed, refl, kind, text)
      test false deed kind text = inl refl

      by : (o : Option SetView) → (of_delivery number (cons_option (deed_with entry o) []) ≡ [])
          ⊎ ((deed : Deed) × (of_delivery number (cons_option (deed_with entry o) []) ≡ deed ∷ []) × (deed.kind ≡ entry.kind) × (deed.text ≡ entry.payload))
      by None = inl refl
      by (Some set) = test (bytes_eq (number_in set) number) (record { kind = entry.kind; text = entry.payload; set = set }) refl refl

  -- ---- the entries before a set

  pub record IsAdded (role : Role) (chooser : Chooser) (whole : List Entry) (front : List Deed) (deed : Deed) : Type 0 where
    pub before : List Entry
    pub more : List Entry
    pub is : of_delivery number (deeds_of before) ≡ front
    pub grown : whole ≡ (before ++ signed deed.text ∷ []) ++ more
    pub chosen : Chosen role chooser before deed.text

  same_entry : (entry : Entry) (text : List ℕ) → entry.kind ≡ Signed → entry.payload ≡ text → entry ≡ signed text
  same_entry entry text kind is =
      ap (λ (k : EntryKind). let e : Entry = record { kind = k; payload = entry.payload } in e) kind
      ∙ ap (λ (t : List ℕ). let e : Entry = record { kind = Signed; payload = t } in e) is

  module _ (role : Role) (chooser : Chooser) (P : List ℕ → Type 0) where
    here_added : (old : List Entry) (entry : Entry) (added : List Entry) (front : List Deed) (deed one : Deed) → IsNewAs entry.kind role chooser P old entry.payload → one.kind ≡ entry.kind → one.text ≡ entry.payload
        → one ≡ deed → deed.kind ≡ Signed → of_delivery number (deeds_of old) ≡ front → IsAdded role chooser (old ++ entry ∷ added) front deed
    here_added old entry added front deed one new kind text same signs is =
        let kind_is : entry.kind ≡ Signed = sym kind ∙ ap (λ (d : Deed). d.kind) same ∙ signs in
        let text_is : entry.payload ≡ deed.text = sym text ∙ ap (λ (d : Deed). d.text) same in
        record {
          before = old;
          more = added;
          is = is;
          grown = sym (append_assoc old (entry ∷ []) added) ∙ ap (λ (e : Entry). (old ++ e ∷ []) ++ added) (same_entry entry deed.text kind_is text_is);
          chosen = subst (λ (t : List ℕ). Chosen role chooser old t) text_is (subst (λ (k : EntryKind). IsNewAs k role chooser P old entry.payload) kind_is new);
        }

    moved : (old : List Entry) (entry : Entry) (added : List Entry) (front : List Deed) (deed : Deed) → IsAdded role chooser ((old ++ entry ∷ []) ++ added) front deed → IsAdded role chooser (old ++ entry ∷ added) front deed
    moved old entry added front deed a = subst (λ (l : List Entry). IsAdded role chooser l front deed) (append_assoc old (entry ∷ []) added) a

    pub added_in : (old added : List Entry) (front : List Deed) (deed : Deed) (rest : List Deed) → AreNew role chooser P old added → of_delivery number (deeds_of (old ++ added)) ≡ front ++ deed ∷ rest
        → deed.kind ≡ Signed → sets_in number old ≤ length front → IsAdded role chooser (old ++ added) front deed
    added_in old [] front deed rest new e kind le =
        let size = ap (sets_in number) (append-nil old) in
        let all = ap length e ∙ length-append front (deed ∷ rest) in
        absurd (omega (arith, size, all, le))
    added_in old (entry ∷ added) front deed rest (here, later) e kind le =
        let again = λ (low : sets_in number (old ++ entry ∷ []) ≤ length front). added_in (old ++ entry ∷ []) added front deed rest later shifted kind low in
        elim (one_deed entry) [
          | inl none ↦ moved old entry added front deed (again (next none))
          | inr (one, is, its_kind, its_text) ↦ elim (cases_eq (sets_in number old) (length front)) [
            | inl same ↦
                let parts = parts_same (of_delivery number (deeds_of old)) front one deed (of_delivery number (deeds_of added)) rest same (cut one is) in
                here_added old entry added front deed one here its_kind its_text parts.1 kind parts.0
            | inr other ↦ moved old entry added front deed (again (next_one one is other))
          ]
        ]
      where
        shifted : of_delivery number (deeds_of ((old ++ entry ∷ []) ++ added)) ≡ front ++ deed ∷ rest
        shifted = ap (λ (l : List Entry). of_delivery number (deeds_of l)) (append_assoc old (entry ∷ []) added) ∙ e

        grew : of_delivery number (deeds_of (old ++ entry ∷ [])) ≡ of_delivery number (deeds_of old) ++ of_entry entry
        grew = deeds_grown number old (entry ∷ [])

        next : of_entry entry ≡ [] → sets_in number (old ++ entry ∷ []) ≤ length front
        next none =
            let same = ap length (grew ∙ ap (λ (l : List Deed). of_delivery number (deeds_of old) ++ l) none ∙ append-nil (of_delivery number (deeds_of old))) in
            omega (arith, same, le)

        next_one : (one : Deed) → of_entry entry ≡ one ∷ [] → (sets_in number old ≡ length front → ⊥) → sets_in number (old ++ entry ∷ []) ≤ length front
        next_one one is other =
            let longer = ap length (grew ∙ ap (λ (l : List Deed). of_delivery number (deeds_of old) ++ l) is) ∙ length-append (of_delivery number (deeds_of old)) (one ∷ []) in
            omega (arith, longer, le, other)

        cut : (one : Deed) → of_entry entry ≡ one ∷ [] → of_delivery number (deeds_of old) ++ one ∷ of_delivery number (deeds_of added) ≡ front ++ deed ∷ rest
        cut one is =
            sym (append_assoc (of_delivery number (deeds_of old)) (one ∷ []) (of_delivery number (deeds_of added)))
            ∙ ap (λ (l : List Deed). l ++ of_delivery number (deeds_of added)) (sym (grew ∙ ap (λ (l : List Deed). of_delivery number (deeds_of old) ++ l) is))
            ∙ sym (deeds_grown number (old ++ entry ∷ []) added) ∙ shifted
