-- Legal lists that grow by an entry, and what they keep.
use Rattle.std.proofs.Common.{◌≡◌, ℕ, Bool, true, false, cond, List, [], ◌∷◌, ◌++◌, Option, Some, None, filter, inl, inr, refl, sym, ap, subst, ◌∙◌, bytes_eq, append_assoc, append-nil}
use Rattle.std.proofs.lemmas.List.Elements.{filter-append}
use Rattle.std.proofs.lemmas.Slice.Eq.{bytes_eq-Decides}
use Rattle.dsd_values.specs.declared.role.Role.{Role}
use Rattle.dsd_record.specs.declared.set_view.SetView.{SetView}
use Rattle.dsd_record.specs.declared.set_view.SetView.TheVariants as sets
use Rattle.dsd_journal.specs.declared.entry.Entry.{Entry}
use Rattle.dsd_journal.specs.declared.entry.EntryKind.{EntryKind}
use Rattle.dsd_journal.specs.declared.entry.EntryKind.TheVariants.{Signed, Took}
use Rattle.delivery_book.specs.Deeds.{Deed, acceptances, check_in, deeds_of, level_in, number_in, of_delivery, other_kind, proposals, proposes}
use Rattle.delivery_book.specs.Finals.{Settled, accepted_by, final_by, final_in, is_crossed, settled_by, settled_of, settled_when, settled_with}
use Rattle.delivery_book.specs.Signing.{Allows, AllowsSet, Legal, LegalFrom}
use Rattle.delivery_book.specs.Standing.{acceptance_of, highest, highest_of, is_named, named_of, version_at, version_to}
use Rattle.delivery_book.proofs.Members.{In, in_more}
use Rattle.delivery_book.proofs.Standings.{IsHighest, acceptance_is, first_in, highest_is, is_proposal, none_accepts, none_of_new}
use Rattle.delivery_book.proofs.Agreeing.{named_in, named_is, some_same}
use Rattle.delivery_book.proofs.Chained.{is_named_so}
use Rattle.delivery_book.proofs.TakeExact.{find_some}
use Rattle.delivery_book.proofs.Kept.{accepts, nothing_kept}
use Rattle.delivery_book.proofs.Founded.{Founded, founded_more}
use Rattle.delivery_book.proofs.Listed.{deeds_more}
use Rattle.dsd_record.proofs.ReadOnce.{set_in_is}

-- ---- a legal list is founded

pub nothing_founded : (role : Role) → Founded role []
nothing_founded role = record {
  kept = nothing_kept role;
  rooted = λ deed h. absurd h;
  ends = λ p h. absurd h;
}

pub founded_entry : (role : Role) (before : List Entry) (entry : Entry) → Founded role (deeds_of before) → Allows role before entry → Founded role (deeds_of (before ++ entry ∷ []))
founded_entry role before entry f a =
    subst (Founded role) (sym (deeds_more before entry a.set (set_in_is entry.payload a.set a.is_set)))
    (founded_more role (deeds_of before) entry.kind entry.payload a.set f a.is_set a.allowed)

founded_from : (role : Role) (before entries : List Entry) → Founded role (deeds_of before) → LegalFrom role before entries → Founded role (deeds_of (before ++ entries))
founded_from role before [] f legal = subst (λ (l : List Entry). Founded role (deeds_of l)) (sym (append-nil before)) f
founded_from role before (entry ∷ entries) f legal =
    subst (λ (l : List Entry). Founded role (deeds_of l)) (append_assoc before (entry ∷ []) entries)
    (founded_from role (before ++ entry ∷ []) entries (founded_entry role before entry f legal.0) legal.1)

pub legal_founded : (role : Role) (entries : List Entry) → Legal role entries → Founded role (deeds_of entries)
legal_founded role entries legal = founded_from role [] entries (nothing_founded role) legal

-- ---- one entry more

more_from : (role : Role) (before entries : List Entry) (entry : Entry) → LegalFrom role before entries → Allows role (before ++ entries) entry → LegalFrom role before (entries ++ entry ∷ [])
more_from role before [] entry legal a = (subst (λ (l : List Entry). Allows role l entry) (append-nil before) a, tt)
more_from role before (first ∷ entries) entry legal a =
    (legal.0, more_from role (before ++ first ∷ []) entries entry legal.1 (subst (λ (l : List Entry). Allows role l entry) (sym (append_assoc before (first ∷ []) entries)) a))

pub legal_more : (role : Role) (entries : List Entry) (entry : Entry) → Legal role entries → Allows role entries entry → Legal role (entries ++ entry ∷ [])
legal_more role entries entry legal a = more_from role [] entries entry legal a

last_from : (role : Role) (before entries : List Entry) (entry : Entry) → LegalFrom role before (entries ++ entry ∷ []) → Allows role (before ++ entries) entry
last_from role before [] entry legal = subst (λ (l : List Entry). Allows role l entry) (sym (append-nil before)) legal.0
last_from role before (first ∷ entries) entry legal = subst (λ (l : List Entry). Allows role l entry) (append_assoc before (first ∷ []) entries) (last_from role (before ++ first ∷ []) entries entry legal.1)

pub legal_last : (role : Role) (entries : List Entry) (entry : Entry) → Legal role (entries ++ entry ∷ []) → Allows role entries entry
legal_last role entries entry legal = last_from role [] entries entry legal

front_from : (role : Role) (before entries more : List Entry) → LegalFrom role before (entries ++ more) → LegalFrom role before entries
front_from role before [] more legal = tt
front_from role before (first ∷ entries) more legal = (legal.0, front_from role (before ++ first ∷ []) entries more legal.1)

pub legal_front : (role : Role) (entries more : List Entry) → Legal role (entries ++ more) → Legal role entries
legal_front role entries more legal = front_from role [] entries more legal

-- ---- one deed of another delivery changes nothing of a delivery

pub of_other : (number : List ℕ) (deeds : List Deed) (deed : Deed) → (number_in deed.set ≡ number → ⊥) → of_delivery number (deeds ++ deed ∷ []) ≡ of_delivery number deeds
of_other number deeds deed other =
    filter-append (λ (d : Deed). bytes_eq (number_in d.set) number) deeds (deed ∷ [])
    ∙ ap (λ (b : Bool). of_delivery number deeds ++ cond b (deed ∷ []) []) (unlike (bytes_eq (number_in deed.set) number) refl)
    ∙ append-nil (of_delivery number deeds) where
      unlike : (b : Bool) → bytes_eq (number_in deed.set) number ≡ b → b ≡ false
      unlike true e = absurd (other ((bytes_eq-Decides (number_in deed.set) number).0 e))
      unlike false e = refl

pub of_own : (number : List ℕ) (deeds : List Deed) (deed : Deed) → number_in deed.set ≡ number → of_delivery number (deeds ++ deed ∷ []) ≡ of_delivery number deeds ++ deed ∷ []
of_own number deeds deed own =
    filter-append (λ (d : Deed). bytes_eq (number_in d.set) number) deeds (deed ∷ [])
    ∙ ap (λ (b : Bool). of_delivery number deeds ++ cond b (deed ∷ []) []) ((bytes_eq-Decides (number_in deed.set) number).1 own)

-- ---- what is accepted is the highest

-- the acceptance that stands is one of the highest proposal, which the other end signed
pub record IsSettled (number : List ℕ) (deeds : List Deed) (a : Deed) : Type 0 where
  pub top : Deed
  pub is_top : highest_of number deeds ≡ Some top
  pub level : level_in a.set ≡ level_in top.set
  pub named : named_in a.set ≡ Some (check_in top.set)
  pub crossed : is_crossed top.kind a.kind ≡ true

pub Closes : List Deed → Type 0
Closes deeds = (a : Deed) → In a deeds → proposes a.set ≡ false → IsSettled (number_in a.set) deeds a

settled_on : (number : List ℕ) (deeds more : List Deed) (a : Deed) → of_delivery number more ≡ of_delivery number deeds → IsSettled number deeds a → IsSettled number more a
settled_on number deeds more a same s = record {
  top = s.top;
  is_top = ap (λ (l : List Deed). highest (filter (λ (d : Deed). proposes d.set) l)) same ∙ s.is_top;
  level = s.level;
  named = s.named;
  crossed = s.crossed;
}

crossed_turn : (top kind : EntryKind) → top ≡ other_kind kind → is_crossed top kind ≡ true
crossed_turn top Signed e = ap (λ (x : EntryKind). is_crossed x Signed) e
crossed_turn top Took e = ap (λ (x : EntryKind). is_crossed x Took) e

stands_not : (role : Role) (deeds : List Deed) (kind : EntryKind) (set : SetView) (a : Deed) → AllowsSet role deeds kind set → In a deeds → proposes a.set ≡ false → number_in a.set ≡ number_in set → ⊥
stands_not role deeds kind (sets.Base base seal) a allowed h s e = none_of_new base.number deeds a allowed.new h e
stands_not role deeds kind (sets.Answer answer seal) a allowed h s e = none_accepts answer.number deeds a allowed.standing h e s

not_proposal : (number : List ℕ) (deeds : List Deed) (deed : Deed) → number_in deed.set ≡ number → proposes deed.set ≡ false → proposals number (deeds ++ deed ∷ []) ≡ proposals number deeds
not_proposal number deeds deed own accepts =
    ap (filter (λ (d : Deed). proposes d.set)) (of_own number deeds deed own)
    ∙ filter-append (λ (d : Deed). proposes d.set) (of_delivery number deeds) (deed ∷ [])
    ∙ ap (λ (b : Bool). proposals number deeds ++ cond b (deed ∷ []) []) accepts
    ∙ append-nil (proposals number deeds)

set_settled : (role : Role) (deeds : List Deed) (kind : EntryKind) (text : List ℕ) (set : SetView) → AllowsSet role deeds kind set → proposes set ≡ false
    → IsSettled (number_in set) (deeds ++ (record { kind = kind; text = text; set = set }) ∷ []) (record { kind = kind; text = text; set = set })
set_settled role deeds kind text (sets.Base base seal) allowed s = cc
set_settled role deeds kind text (sets.Answer answer seal) allowed s = record {
  top = allowed.highest;
  is_top = ap highest (not_proposal answer.number deeds (record { kind = kind; text = text; set = sets.Answer answer seal }) refl s) ∙ allowed.is_highest;
  level = accepts answer (level_in allowed.highest.set) allowed.named.level s;
  named = ap Some allowed.named.check;
  crossed = crossed_turn allowed.highest.kind kind allowed.turn;
}

closes_old : (role : Role) (deeds : List Deed) (new a : Deed) → AllowsSet role deeds new.kind new.set → Closes deeds → In a deeds → proposes a.set ≡ false → IsSettled (number_in a.set) (deeds ++ new ∷ []) a
unfolding Closes
closes_old role deeds new a allowed closes h s =
    settled_on (number_in a.set) deeds (deeds ++ new ∷ []) a (of_other (number_in a.set) deeds new (λ e. stands_not role deeds new.kind new.set a allowed h s (sym e))) (closes a h s)

pub closes_more : (role : Role) (deeds : List Deed) (kind : EntryKind) (text : List ℕ) (set : SetView) → AllowsSet role deeds kind set → Closes deeds → Closes (deeds ++ (record { kind = kind; text = text; set = set }) ∷ [])
unfolding Closes
closes_more role deeds kind text set allowed closes a h s =
    let new : Deed = record { kind = kind; text = text; set = set } in
    elim (in_more deeds new a h) [
      | inl old ↦ closes_old role deeds new a allowed closes old s
      | inr e ↦ subst (λ (d : Deed). proposes d.set ≡ false → IsSettled (number_in d.set) (deeds ++ new ∷ []) d) e (set_settled role deeds kind text set allowed) s
    ]

closes_entry : (role : Role) (before : List Entry) (entry : Entry) → Closes (deeds_of before) → Allows role before entry → Closes (deeds_of (before ++ entry ∷ []))
closes_entry role before entry c a =
    subst Closes (sym (deeds_more before entry a.set (set_in_is entry.payload a.set a.is_set)))
    (closes_more role (deeds_of before) entry.kind entry.payload a.set a.allowed c)

closes_from : (role : Role) (before entries : List Entry) → Closes (deeds_of before) → LegalFrom role before entries → Closes (deeds_of (before ++ entries))
closes_from role before [] c legal = subst (λ (l : List Entry). Closes (deeds_of l)) (sym (append-nil before)) c
closes_from role before (entry ∷ entries) c legal =
    subst (λ (l : List Entry). Closes (deeds_of l)) (append_assoc before (entry ∷ []) entries)
    (closes_from role (before ++ entry ∷ []) entries (closes_entry role before entry c legal.0) legal.1)

no_deed_closes : Closes []
unfolding Closes
no_deed_closes a h = absurd h

pub legal_closes : (role : Role) (entries : List Entry) → Legal role entries → Closes (deeds_of entries)
legal_closes role entries legal = closes_from role [] entries no_deed_closes legal

-- ---- what is final is the version of the highest proposal

module _ (role : Role) (number : List ℕ) (deeds : List Deed) (f : Founded role deeds) (c : Closes deeds) where
  named_top : (top : Deed) (level check : ℕ) → IsHighest number deeds top → level ≡ level_in top.set → check ≡ check_in top.set → named_of number level check deeds ≡ Some top
  named_top top level check h l e =
      let found = find_some (is_named level check) (proposals number deeds) top (is_proposal number deeds top h.is) (is_named_so level check top (sym l) (sym e)) in
      let n = named_is number level check deeds found.0 found.1 in
      found.1 ∙ ap Some (f.kept.apart found.0 top n.is.among h.is.among n.is.proposes h.is.proposes (n.is.number ∙ sym h.is.number) (n.level ∙ l))

  accepted_top : (set : SetView) (top : Deed) → IsHighest number deeds top → level_in set ≡ level_in top.set → named_in set ≡ Some (check_in top.set) → accepted_by set number deeds ≡ Some top
  accepted_top (sets.Base base seal) top h l e = cc
  accepted_top (sets.Answer answer seal) top h l e = named_top top answer.level answer.check h l (some_same answer.check (check_in top.set) e)

  pub settled_for : (a : Deed) → acceptance_of number deeds ≡ Some a → IsSettled number deeds a
  unfolding Closes
  settled_for a e =
      let is = acceptance_is number deeds a (first_in (acceptances number deeds) a e) in
      subst (λ (n : List ℕ). IsSettled n deeds a) is.number (c a is.among is.accepts)

  settled_at : (a : Deed) → acceptance_of number deeds ≡ Some a → (top : Deed) × (highest_of number deeds ≡ Some top) × (settled_of number deeds ≡ Some (record { proposal = top; acceptance = a }))
  unfolding Closes
  settled_at a e =
      let is = acceptance_is number deeds a (first_in (acceptances number deeds) a e) in
      let s = subst (λ (n : List ℕ). IsSettled n deeds a) is.number (c a is.among is.accepts) in
      let h = highest_is number deeds s.top s.is_top in (
        s.top,
        s.is_top,
        ap (λ (o : Option Deed). settled_by o number deeds) e
            ∙ ap (λ (o : Option Deed). settled_with o a) (accepted_top a.set s.top h s.level s.named)
            ∙ ap (λ (b : Bool). settled_when b s.top a) s.crossed,
      )

  -- where an acceptance stands, the final is what the highest proposal makes
  pub final_is : (a : Deed) → acceptance_of number deeds ≡ Some a → (top : Deed) × (highest_of number deeds ≡ Some top) × (final_in deeds number ≡ version_at deeds top)
  final_is a e =
      let s = settled_at a e in
      let h = highest_is number deeds s.0 s.1 in
      (s.0, s.1, ap (λ (o : Option Settled). final_by o number deeds) s.2 ∙ ap (λ (n : List ℕ). version_to n deeds (level_in s.0.set) (check_in s.0.set)) (sym h.is.number))

  -- and else there is none
  pub no_final : acceptance_of number deeds ≡ None → final_in deeds number ≡ None
  no_final e = ap (λ (o : Option Deed). final_by (settled_by o number deeds) number deeds) e
