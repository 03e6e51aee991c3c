-- From entries to deeds and back, and what a legal list keeps.
use Rattle.std.proofs.Common.{◌≡◌, ◌⊎◌, ℕ, true, not, List, [], ◌∷◌, ◌++◌, map, Option, Some, None, Contains, inl, inr, refl, sym, ap, subst, ◌∙◌, append_assoc, append-nil}
use Rattle.std.specs.List.{cons_option}
use Rattle.std.proofs.lemmas.List.Elements.{filter_map-append}
use Rattle.dsd_values.specs.declared.role.Role.{Role}
use Rattle.dsd_record.specs.declared.set_view.SetView.{SetView}
use Rattle.dsd_journal.specs.declared.entry.Entry.{Entry}
use Rattle.dsd_journal.specs.declared.entry.EntryKind.{EntryKind}
use Rattle.dsd_journal.specs.declared.entry.EntryKind.TheVariants.{Signed, Took}
use Rattle.dsd_record.specs.ReadSets.{set_in}
use Rattle.delivery_book.specs.Deeds.{Deed, deed_of, deed_with, deeds_of, is_signed, other_role, signed_texts, taken_texts}
use Rattle.delivery_book.specs.Signing.{Allows, Legal, LegalFrom}
use Rattle.delivery_book.specs.Finals.{is_crossed}
use Rattle.delivery_book.specs.Agreement.{AgreeOnFinals, Backed, FinalsAreSigned}
use Rattle.delivery_book.proofs.Members.{In, filter_in, from_contains, in_filter, to_contains}
use Rattle.dsd_record.proofs.ReadOnce.{set_in_is}
use Rattle.delivery_book.proofs.Kept.{Kept, keeps_set, nothing_kept}
use Rattle.delivery_book.proofs.Agreeing.{as_signed, finals_same, has_final, settles}

-- ---- one entry more

pub deeds_more : (before : List Entry) (entry : Entry) (set : SetView) → set_in entry.payload ≡ Some set
    → deeds_of (before ++ entry ∷ []) ≡ deeds_of before ++ (record { kind = entry.kind; text = entry.payload; set = set }) ∷ []
deeds_more before entry set e =
    filter_map-append deed_of before (entry ∷ []) ∙ ap (λ (o : Option SetView). deeds_of before ++ cons_option (deed_with entry o) []) e

keeps_entry : (role : Role) (before : List Entry) (entry : Entry) → Kept role (deeds_of before) → Allows role before entry → Kept role (deeds_of (before ++ entry ∷ []))
keeps_entry role before entry k a =
    subst (Kept role) (sym (deeds_more before entry a.set (set_in_is entry.payload a.set a.is_set)))
    (keeps_set role (deeds_of before) entry.kind entry.payload a.set k a.allowed)

pub kept_from : (role : Role) (before entries : List Entry) → Kept role (deeds_of before) → LegalFrom role before entries → Kept role (deeds_of (before ++ entries))
kept_from role before [] k legal = subst (λ (l : List Entry). Kept role (deeds_of l)) (sym (append-nil before)) k
kept_from role before (entry ∷ entries) k legal =
    subst (λ (l : List Entry). Kept role (deeds_of l)) (append_assoc before (entry ∷ []) entries)
    (kept_from role (before ++ entry ∷ []) entries (keeps_entry role before entry k legal.0) legal.1)

pub legal_kept : (role : Role) (entries : List Entry) → Legal role entries → Kept role (deeds_of entries)
legal_kept role entries legal = kept_from role [] entries (nothing_kept role) legal

-- ---- deeds and their entries

abbrev pub entry_of : Deed → Entry
entry_of deed = record { kind = deed.kind; payload = deed.text }

record IsFrom (entries : List Entry) (deed : Deed) : Type 0 where
  among : In (entry_of deed) entries
  set : set_in deed.text ≡ Some deed.set

from_step : (entry : Entry) (entries : List Entry) (deed : Deed) (o : Option SetView) → set_in entry.payload ≡ o → (In deed (deeds_of entries) → IsFrom entries deed)
    → In deed (cons_option (deed_with entry o) (deeds_of entries)) → IsFrom (entry ∷ entries) deed
from_step entry entries deed None e ih h = let r = ih h in record { among = inr r.among; set = r.set }
from_step entry entries deed (Some set) e ih (inl same) = subst (IsFrom (entry ∷ entries)) same (record { among = inl refl; set = e })
from_step entry entries deed (Some set) e ih (inr h) = let r = ih h in record { among = inr r.among; set = r.set }

deed_from : (entries : List Entry) (deed : Deed) → In deed (deeds_of entries) → IsFrom entries deed
deed_from [] deed h = absurd h
deed_from (entry ∷ entries) deed h = from_step entry entries deed (set_in entry.payload) refl (deed_from entries deed) h

among_step : (entry : Entry) (entries : List Entry) (deed : Deed) (o : Option SetView) → set_in entry.payload ≡ o → set_in deed.text ≡ Some deed.set → (In (entry_of deed) entries → In deed (deeds_of entries))
    → (entry ≡ entry_of deed) ⊎ In (entry_of deed) entries → In deed (cons_option (deed_with entry o) (deeds_of entries))
among_step entry entries deed o e s ih (inl same) =
    let read : o ≡ Some deed.set = sym e ∙ ap (λ (x : Entry). set_in x.payload) same ∙ s in
    subst (λ (x : Entry). In deed (cons_option (deed_with x o) (deeds_of entries))) (sym same)
    (subst (λ (x : Option SetView). In deed (cons_option (deed_with (entry_of deed) x) (deeds_of entries))) (sym read) (inl refl))
among_step entry entries deed None e s ih (inr h) = ih h
among_step entry entries deed (Some set) e s ih (inr h) = inr (ih h)

pub deed_among : (entries : List Entry) (deed : Deed) → set_in deed.text ≡ Some deed.set → In (entry_of deed) entries → In deed (deeds_of entries)
deed_among [] deed s h = h
deed_among (entry ∷ entries) deed s h = among_step entry entries deed (set_in entry.payload) refl s (deed_among entries deed s) h

-- ---- the texts of each kind

pub in_map : {X Y : Type 0} (f : X → Y) (xs : List X) (x : X) → In x xs → In (f x) (map f xs)
in_map f [] x h = h
in_map f (y ∷ ys) x (inl e) = inl (ap f e)
in_map f (y ∷ ys) x (inr h) = inr (in_map f ys x h)

pub record IsImage {X Y : Type 0} (f : X → Y) (xs : List X) (y : Y) : Type 0 where
  pub from : X
  pub among : In from xs
  pub same : f from ≡ y

pub map_in : {X Y : Type 0} (f : X → Y) (xs : List X) (y : Y) → In y (map f xs) → IsImage f xs y
map_in f [] y h = absurd h
map_in f (x ∷ xs) y (inl e) = record { from = x; among = inl refl; same = e }
map_in f (x ∷ xs) y (inr h) = let r = map_in f xs y h in record { from = r.from; among = inr r.among; same = r.same }

abbrev pub text_in : Entry → List ℕ
text_in entry = entry.payload

pub signed_kind : (kind : EntryKind) → is_signed kind ≡ true → kind ≡ Signed
signed_kind Signed e = refl
signed_kind Took e = cc

pub signed_text : (entries : List Entry) (deed : Deed) → In deed (deeds_of entries) → deed.kind ≡ Signed → Contains (signed_texts entries) deed.text
signed_text entries deed h kind =
    let r = deed_from entries deed h in
    to_contains (signed_texts entries) deed.text
    (in_map text_in _ (entry_of deed) (in_filter (λ (entry : Entry). is_signed entry.kind) entries (entry_of deed) r.among (ap is_signed kind)))

pub taken_text : (entries : List Entry) (deed : Deed) → In deed (deeds_of entries) → deed.kind ≡ Took → Contains (taken_texts entries) deed.text
taken_text entries deed h kind =
    let r = deed_from entries deed h in
    to_contains (taken_texts entries) deed.text
    (in_map text_in _ (entry_of deed) (in_filter (λ (entry : Entry). not (is_signed entry.kind)) entries (entry_of deed) r.among (ap (λ (x : EntryKind). not (is_signed x)) kind)))

-- a text that was signed, and is this set, is a deed
text_signed : (entries : List Entry) (deed : Deed) → set_in deed.text ≡ Some deed.set → Contains (signed_texts entries) deed.text → In (as_signed deed) (deeds_of entries)
text_signed entries deed s c =
    let m = map_in text_in _ deed.text (from_contains (signed_texts entries) deed.text c) in
    let p = filter_in (λ (entry : Entry). is_signed entry.kind) entries m.from m.among in
    let kind : m.from.kind ≡ Signed = signed_kind m.from.kind p.holds in
    let same : m.from ≡ entry_of (as_signed deed) =
    ap (λ (x : EntryKind). (let r : Entry = record { kind = x; payload = m.from.payload } in r)) kind
    ∙ ap (λ (x : List ℕ). (let r : Entry = record { kind = Signed; payload = x } in r)) m.same in
    deed_among entries (as_signed deed) s (subst (λ (x : Entry). In x entries) same p.among)

pub backed_deed : (one other : List Entry) → Backed one other → (deed : Deed) → In deed (deeds_of one) → deed.kind ≡ Took → In (as_signed deed) (deeds_of other)
backed_deed one other backed deed h kind =
    let r = deed_from one deed h in
    text_signed other deed r.set (backed deed.text (taken_text one deed h kind))

-- ---- the agreement

module _ (role : Role) (one other : List Entry) (legal : Legal role one) (legal' : Legal (other_role role) other) (backed : Backed one other) (backing : Backed other one) where
  pub finals_agree : AgreeOnFinals one other
  finals_agree number v w e e' =
      finals_same role (deeds_of one) (deeds_of other) (legal_kept role one legal) (legal_kept (other_role role) other legal') (backed_deed one other backed) (backed_deed other one backing) number v w e e'

crossed_kinds : (a b : EntryKind) → is_crossed a b ≡ true → ((a ≡ Signed) × (b ≡ Took)) ⊎ ((b ≡ Signed) × (a ≡ Took))
crossed_kinds Signed Took e = inl (refl, refl)
crossed_kinds Took Signed e = inr (refl, refl)
crossed_kinds Signed Signed e = cc
crossed_kinds Took Took e = cc

-- what is final was signed by both, whatever else the lists hold
pub finals_signed : (one other : List Entry) → Backed one other → FinalsAreSigned one other
finals_signed one other backed number version e =
    let f = has_final number (deeds_of one) version e in
    let s = settles number (deeds_of one) f.settled f.found in (
      f.settled,
      f.found,
      elim (crossed_kinds f.settled.proposal.kind f.settled.acceptance.kind s.crossed) [
        | inl own ↦ inl (signed_text one f.settled.proposal s.proposal.among own.0, backed f.settled.acceptance.text (taken_text one f.settled.acceptance s.acceptance.among own.1))
        | inr own ↦ inr (signed_text one f.settled.acceptance s.acceptance.among own.0, backed f.settled.proposal.text (taken_text one f.settled.proposal s.proposal.among own.1))
      ],
    )
