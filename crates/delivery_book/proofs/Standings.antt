-- What the words on a delivery find among some deeds.
use Rattle.std.proofs.Common.{◌≡◌, ◌≤◌, ◌<◌, ℕ, Bool, true, false, not, if◌then◌else◌, List, [], ◌∷◌, Option, Some, None, inl, inr, refl, ap, subst, bytes_eq, arith}
use Rattle.std.proofs.lemmas.Bool.{ltb-true, ltb-false}
use Rattle.std.proofs.lemmas.Slice.Eq.{bytes_eq-Decides}
use Rattle.delivery_book.specs.Deeds.{Deed, acceptances, first_of, level_in, number_in, of_delivery, proposals, proposes}
use Rattle.delivery_book.specs.Standing.{IsNew, acceptance_of, higher, highest, highest_of, is_below}
use Rattle.delivery_book.proofs.Members.{In, filter_in, in_filter}

pub not_true : (b : Bool) → not b ≡ true → b ≡ false
not_true true e = cc
not_true false e = refl

pub not_false : (b : Bool) → b ≡ false → not b ≡ true
not_false true e = cc
not_false false e = refl

-- ---- the first

pub first_in : (deeds : List Deed) (deed : Deed) → first_of deeds ≡ Some deed → In deed deeds
first_in [] deed e = cc
first_in (d ∷ deeds) deed e = let same : d ≡ deed = cc in inl same

none_first : (deeds : List Deed) (deed : Deed) → first_of deeds ≡ None → In deed deeds → ⊥
none_first [] deed e h = h
none_first (d ∷ deeds) deed e h = cc

-- ---- the deeds of a delivery

pub record IsProposal (delivery : List ℕ) (deeds : List Deed) (deed : Deed) : Type 0 where
  pub among : In deed deeds
  pub number : number_in deed.set ≡ delivery
  pub proposes : proposes deed.set ≡ true

pub record IsAcceptance (delivery : List ℕ) (deeds : List Deed) (deed : Deed) : Type 0 where
  pub among : In deed deeds
  pub number : number_in deed.set ≡ delivery
  pub accepts : proposes deed.set ≡ false

same_number : (number : List ℕ) (deed : Deed) → bytes_eq (number_in deed.set) number ≡ true → number_in deed.set ≡ number
same_number number deed e = (bytes_eq-Decides (number_in deed.set) number).0 e

number_same : (number : List ℕ) (deed : Deed) → number_in deed.set ≡ number → bytes_eq (number_in deed.set) number ≡ true
number_same number deed e = (bytes_eq-Decides (number_in deed.set) number).1 e

pub in_delivery : (number : List ℕ) (deeds : List Deed) (deed : Deed) → In deed deeds → number_in deed.set ≡ number → In deed (of_delivery number deeds)
in_delivery number deeds deed h e = in_filter (λ (d : Deed). bytes_eq (number_in d.set) number) deeds deed h (number_same number deed e)

pub proposal_is : (number : List ℕ) (deeds : List Deed) (deed : Deed) → In deed (proposals number deeds) → IsProposal number deeds deed
proposal_is number deeds deed h =
    let p = filter_in (λ (d : Deed). proposes d.set) (of_delivery number deeds) deed h in
    let q = filter_in (λ (d : Deed). bytes_eq (number_in d.set) number) deeds deed p.among in
    record { among = q.among; number = same_number number deed q.holds; proposes = p.holds }

pub is_proposal : (number : List ℕ) (deeds : List Deed) (deed : Deed) → IsProposal number deeds deed → In deed (proposals number deeds)
is_proposal number deeds deed p = in_filter (λ (d : Deed). proposes d.set) (of_delivery number deeds) deed (in_delivery number deeds deed p.among p.number) p.proposes

pub acceptance_is : (number : List ℕ) (deeds : List Deed) (deed : Deed) → In deed (acceptances number deeds) → IsAcceptance number deeds deed
acceptance_is number deeds deed h =
    let p = filter_in (λ (d : Deed). not (proposes d.set)) (of_delivery number deeds) deed h in
    let q = filter_in (λ (d : Deed). bytes_eq (number_in d.set) number) deeds deed p.among in
    record { among = q.among; number = same_number number deed q.holds; accepts = not_true (proposes deed.set) p.holds }

-- where no acceptance stands, no deed of the delivery is one
pub none_accepts : (number : List ℕ) (deeds : List Deed) (deed : Deed) → acceptance_of number deeds ≡ None → In deed deeds → number_in deed.set ≡ number → proposes deed.set ≡ false → ⊥
none_accepts number deeds deed none h e f =
    none_first (acceptances number deeds) deed none
    (in_filter (λ (d : Deed). not (proposes d.set)) (of_delivery number deeds) deed (in_delivery number deeds deed h e) (not_false (proposes deed.set) f))

-- a new delivery has no deed
pub none_of_new : (number : List ℕ) (deeds : List Deed) (deed : Deed) → IsNew number deeds → In deed deeds → number_in deed.set ≡ number → ⊥
none_of_new number deeds deed new h e = subst (λ (ds : List Deed). In deed ds) new (in_delivery number deeds deed h e)

-- ---- the highest

pub record Tops (deeds : List Deed) (top : Deed) : Type 0 where
  pub among : In top deeds
  pub above : (deed : Deed) → In deed deeds → level_in deed.set ≤ level_in top.set

pub none_in : (deeds : List Deed) (deed : Deed) → highest deeds ≡ None → In deed deeds → ⊥
none_in [] deed e h = h
none_in (d ∷ deeds) deed e h = cc

tops_above : (d : Deed) (deeds : List Deed) (later top : Deed) (b : Bool) → is_below later d ≡ b → Tops deeds later → (if b then d else later) ≡ top → Tops (d ∷ deeds) top
tops_above d deeds later top true b t e =
    let lower : level_in later.set < level_in d.set = ltb-true (level_in later.set) (level_in d.set) b in
    let at_top : d ≡ top = e in
    subst (Tops (d ∷ deeds)) at_top (record {
      among = inl refl;
      above = λ deed h. elim h [
        | inl same ↦ let q = ap (λ (x : Deed). level_in x.set) same in omega (arith, q)
        | inr old ↦ let q = t.above deed old in omega (arith, q, lower)
      ];
    })
tops_above d deeds later top false b t e =
    let lower : level_in d.set ≤ level_in later.set = ltb-false (level_in later.set) (level_in d.set) b in
    let at_top : later ≡ top = e in
    subst (Tops (d ∷ deeds)) at_top (record {
      among = inr t.among;
      above = λ deed h. elim h [
        | inl same ↦ let q = ap (λ (x : Deed). level_in x.set) same in omega (arith, q, lower)
        | inr old ↦ t.above deed old
      ];
    })

tops_step : (d : Deed) (deeds : List Deed) (top : Deed) (o : Option Deed) → highest deeds ≡ o → ((t : Deed) → highest deeds ≡ Some t → Tops deeds t) → higher d o ≡ top → Tops (d ∷ deeds) top
tops_step d deeds top None none ih e =
    let at_top : d ≡ top = e in
    subst (Tops (d ∷ deeds)) at_top (record {
      among = inl refl;
      above = λ deed h. elim h [
        | inl same ↦ let q = ap (λ (x : Deed). level_in x.set) same in omega (arith, q)
        | inr old ↦ absurd (none_in deeds deed none old)
      ];
    })
tops_step d deeds top (Some later) is ih e = tops_above d deeds later top (is_below later d) refl (ih later is) e

pub tops : (deeds : List Deed) (top : Deed) → highest deeds ≡ Some top → Tops deeds top
tops [] top e = cc
tops (d ∷ deeds) top e =
    let same : higher d (highest deeds) ≡ top = cc in
    tops_step d deeds top (highest deeds) refl (tops deeds) same

-- the highest proposal of a delivery, and all its proposals are at most as high
pub record IsHighest (number : List ℕ) (deeds : List Deed) (top : Deed) : Type 0 where
  pub is : IsProposal number deeds top
  pub above : (deed : Deed) → In deed deeds → number_in deed.set ≡ number → proposes deed.set ≡ true → level_in deed.set ≤ level_in top.set

pub highest_is : (number : List ℕ) (deeds : List Deed) (top : Deed) → highest_of number deeds ≡ Some top → IsHighest number deeds top
highest_is number deeds top e =
    let t = tops (proposals number deeds) top e in
    record {
      is = proposal_is number deeds top t.among;
      above = λ deed h n p. t.above deed (is_proposal number deeds deed (record { among = h; number = n; proposes = p }));
    }
