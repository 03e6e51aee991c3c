-- What is heard of a delivery: its partner's last signed set is taken, or was taken and is known.
use Rattle.std.proofs.Common.{◌≡◌, ◌≤◌, ℕ, Bool, true, false, ◌||◌, cond, length, List, [], ◌∷◌, ◌++◌, Option, Some, None, refl, ap, subst, inl, inr, arith}
use Rattle.std.specs.Prelude.{Contains}
use Rattle.std.specs.Str.{bytes_eq}
use Rattle.std.specs.List.{filter, list_any}
use Rattle.std.specs.Option.{option_map}
use Rattle.std.proofs.lemmas.Slice.Eq.{bytes_eq-Decides}
use Rattle.dsd_record.specs.ReadSets.{set_in}
use Rattle.dsd_journal.specs.declared.entry.Entry.{Entry}
use Rattle.dsd_journal.specs.declared.entry.EntryKind.TheVariants.{Signed, Took}
use Rattle.delivery_book.specs.Deeds.{Deed, deeds_of, is_signed, number_in, of_delivery, signed_of, signed_texts, taken_texts}
use Rattle.delivery_book.specs.Lookups.{last_of, last_signed}
use Rattle.delivery_book.specs.Refusals.{was_taken}
use Rattle.delivery_book.proofs.Listed.{signed_kind, signed_text, taken_text}
use Rattle.delivery_book.proofs.Members.{In, filter_in, from_contains}
use Rattle.clean_sessions.proofs.DeedsOfBoth.{AllRead, all_read}

-- ---- the last signed set

pub last_in : (deeds : List Deed) (deed : Deed) → last_of deeds ≡ Some deed → In deed deeds
last_in [] deed e = absurd (cc)
last_in (one ∷ []) deed e = let same : one ≡ deed = cc in inl same
last_in (one ∷ next ∷ deeds) deed e = inr (last_in (next ∷ deeds) deed e)

pub read_in : (deeds : List Deed) (deed : Deed) → AllRead deeds → In deed deeds → set_in deed.text ≡ Some deed.set
read_in [] deed read h = absurd h
read_in (one ∷ deeds) deed read (inl same) = subst (λ (d : Deed). set_in d.text ≡ Some d.set) same read.0
read_in (one ∷ deeds) deed read (inr h) = read_in deeds deed read.1 h

-- the deed whose text is the last signed one
pub record IsLastDeed (number : List ℕ) (entries : List Entry) (text : List ℕ) : Type 0 where
  pub deed : Deed
  pub is : last_of (signed_of number (deeds_of entries)) ≡ Some deed
  pub text_is : deed.text ≡ text
  pub among : In deed (of_delivery number (deeds_of entries))
  pub there : In deed (deeds_of entries)
  pub kind : deed.kind ≡ Signed
  pub number_is : number_in deed.set ≡ number
  pub read : set_in text ≡ Some deed.set

last_by : (number : List ℕ) (entries : List Entry) (text : List ℕ) (o : Option Deed) → last_of (signed_of number (deeds_of entries)) ≡ o → option_map (λ (deed : Deed). deed.text) o ≡ Some text → IsLastDeed number entries text
last_by number entries text None e is = absurd (cc)
last_by number entries text (Some deed) e is =
    let same : deed.text ≡ text = cc in
    let signed = filter_in (λ (d : Deed). is_signed d.kind) (of_delivery number (deeds_of entries)) deed (last_in (signed_of number (deeds_of entries)) deed e) in
    let its = filter_in (λ (d : Deed). bytes_eq (number_in d.set) number) (deeds_of entries) deed signed.among in
    record {
      deed = deed;
      is = e;
      text_is = same;
      among = signed.among;
      there = its.among;
      kind = signed_kind deed.kind signed.holds;
      number_is = (bytes_eq-Decides (number_in deed.set) number).0 its.holds;
      read = subst (λ (t : List ℕ). set_in t ≡ Some deed.set) same (read_in (deeds_of entries) deed (all_read entries) its.among);
    }

pub last_deed : (number : List ℕ) (entries : List Entry) (text : List ℕ) → last_signed entries number ≡ Some text → IsLastDeed number entries text
last_deed number entries text e = last_by number entries text (last_of (signed_of number (deeds_of entries))) refl e

pub some_in : (deeds : List Deed) (deed : Deed) → In deed deeds → 1 ≤ length deeds
some_in [] deed h = absurd h
some_in (one ∷ deeds) deed h = omega arith

-- it is among the signed texts
pub last_text : (number : List ℕ) (entries : List Entry) (text : List ℕ) → last_signed entries number ≡ Some text → Contains (signed_texts entries) text
last_text number entries text e =
    let l = last_deed number entries text e in
    subst (Contains (signed_texts entries)) l.text_is (signed_text entries l.deed l.there l.kind)

-- a signed deed at the end is the last signed one
pub last_behind : (deeds : List Deed) (deed : Deed) → last_of (deeds ++ deed ∷ []) ≡ Some deed
last_behind [] deed = refl
last_behind (one ∷ []) deed = refl
last_behind (one ∷ next ∷ deeds) deed = last_behind (next ∷ deeds) deed

signed_step : (one : Deed) (deeds : List Deed) (deed : Deed) (b : Bool) → last_of (filter (λ (d : Deed). is_signed d.kind) (deeds ++ deed ∷ [])) ≡ Some deed
    → last_of (cond b (one ∷ filter (λ (d : Deed). is_signed d.kind) (deeds ++ deed ∷ [])) (filter (λ (d : Deed). is_signed d.kind) (deeds ++ deed ∷ []))) ≡ Some deed
signed_step one deeds deed false e = e
signed_step one deeds deed true e = by (filter (λ (d : Deed). is_signed d.kind) (deeds ++ deed ∷ [])) e
  where
    by : (l : List Deed) → last_of l ≡ Some deed → last_of (one ∷ l) ≡ Some deed
    by [] e = absurd (cc)
    by (x ∷ xs) e = e

pub last_signed_behind : (deeds : List Deed) (deed : Deed) → is_signed deed.kind ≡ true → last_of (filter (λ (d : Deed). is_signed d.kind) (deeds ++ deed ∷ [])) ≡ Some deed
last_signed_behind [] deed s = ap (λ (b : Bool). last_of (cond b (deed ∷ []) [])) s
last_signed_behind (one ∷ deeds) deed s = signed_step one deeds deed (is_signed one.kind) (last_signed_behind deeds deed s)

-- ---- whether it was taken

any_step : (t : List ℕ) (texts : List (List ℕ)) (text : List ℕ) (b : Bool) → list_any (λ (other : List ℕ). bytes_eq other text) texts ≡ true → (b || list_any (λ (other : List ℕ). bytes_eq other text) texts) ≡ true
any_step t texts text true e = refl
any_step t texts text false e = e

any_there : (texts : List (List ℕ)) (text : List ℕ) → In text texts → list_any (λ (other : List ℕ). bytes_eq other text) texts ≡ true
any_there [] text h = absurd h
any_there (t ∷ texts) text (inl same) = ap (λ (b : Bool). b || list_any (λ (other : List ℕ). bytes_eq other text) texts) ((bytes_eq-Decides t text).1 same)
any_there (t ∷ texts) text (inr h) = any_step t texts text (bytes_eq t text) (any_there texts text h)

pub taken_before : (entries : List Entry) (deed : Deed) → In deed (deeds_of entries) → deed.kind ≡ Took → was_taken deed.text entries ≡ true
taken_before entries deed h kind = any_there (taken_texts entries) deed.text (from_contains (taken_texts entries) deed.text (taken_text entries deed h kind))
