-- The texts of legal entries are sets.
use Rattle.std.proofs.Common.{◌≡◌, ℕ, Bool, true, false, not, ◌||◌, bytes_eq, List, [], ◌∷◌, ◌++◌, map, refl, subst, inl, inr}
use Rattle.std.specs.Prelude.{Contains}
use Rattle.std.specs.List.{filter, list_any}
use Rattle.std.proofs.lemmas.Slice.Eq.{bytes_eq-Decides}
use Rattle.dsd_values.specs.declared.role.Role.{Role}
use Rattle.dsd_record.specs.SetTexts.{IsSet}
use Rattle.dsd_record.specs.declared.set_view.SetView.{SetView}
use Rattle.dsd_journal.specs.declared.entry.Entry.{Entry}
use Rattle.delivery_book.specs.Deeds.{is_signed, signed_texts, taken_texts}
use Rattle.delivery_book.specs.Signing.{Legal, LegalFrom}
use Rattle.delivery_book.proofs.Listed.{map_in, text_in}
use Rattle.delivery_book.proofs.Members.{In, filter_in, from_contains}

entry_set : (role : Role) (before entries : List Entry) (entry : Entry) → LegalFrom role before entries → In entry entries → (set : SetView) × IsSet set entry.payload
entry_set role before [] entry legal none = absurd none
entry_set role before (first ∷ entries) entry (allowed, legal) (inl same) = subst (λ (x : Entry). (set : SetView) × IsSet set x.payload) same (allowed.set, allowed.is_set)
entry_set role before (first ∷ entries) entry (allowed, legal) (inr among) = entry_set role (before ++ first ∷ []) entries entry legal among

legal_text : (role : Role) (entries : List Entry) (test : Entry → Bool) (text : List ℕ) → Legal role entries → Contains (map text_in (filter test entries)) text → (set : SetView) × IsSet set text
legal_text role entries test text legal inside =
    let image = map_in text_in (filter test entries) text (from_contains (map text_in (filter test entries)) text inside) in
    subst (λ (l : List ℕ). (set : SetView) × IsSet set l) image.same (entry_set role [] entries image.from legal (filter_in test entries image.from image.among).among)

pub signed_set : (role : Role) (entries : List Entry) (text : List ℕ) → Legal role entries → Contains (signed_texts entries) text → (set : SetView) × IsSet set text
signed_set role entries text legal inside = legal_text role entries (λ (entry : Entry). is_signed entry.kind) text legal inside

pub taken_set : (role : Role) (entries : List Entry) (text : List ℕ) → Legal role entries → Contains (taken_texts entries) text → (set : SetView) × IsSet set text
taken_set role entries text legal inside = legal_text role entries (λ (entry : Entry). not (is_signed entry.kind)) text legal inside

-- ---- a text among others

any_step : (t : List ℕ) (texts : List (List ℕ)) (text : List ℕ) (b : Bool) → bytes_eq t text ≡ b → (list_any (λ (other : List ℕ). bytes_eq other text) texts ≡ true → In text texts)
    → (b || list_any (λ (other : List ℕ). bytes_eq other text) texts) ≡ true → In text (t ∷ texts)
any_step t texts text true s ih e = inl ((bytes_eq-Decides t text).0 s)
any_step t texts text false s ih e = inr (ih e)

pub any_in : (texts : List (List ℕ)) (text : List ℕ) → list_any (λ (other : List ℕ). bytes_eq other text) texts ≡ true → In text texts
any_in [] text e = cc
any_in (t ∷ texts) text e = any_step t texts text (bytes_eq t text) refl (any_in texts text) e
