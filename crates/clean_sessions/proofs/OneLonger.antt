-- Lists with one more at their end, and whose it is.
use Rattle.std.proofs.Common.{◌≡◌, ◌+◌, ℕ, Bool, true, false, not, length, List, [], ◌∷◌, ◌++◌, map, refl, sym, ap, subst, ◌∙◌, inl, inr, arith}
use Rattle.dsd_values.specs.declared.role.Role.{Role}
use Rattle.dsd_journal.specs.declared.entry.Entry.{Entry}
use Rattle.delivery_book.specs.Deeds.{Deed, deeds_of, is_signed, of_delivery, other_role, proposes}
use Rattle.delivery_book.proofs.Members.{In}
use Rattle.clean_sessions.specs.DeedShapes.{AreInTurn, first_kind}
use Rattle.clean_sessions.specs.DeliveryStands.{AreBacked}
use Rattle.clean_sessions.proofs.BoolTests.{never_both}
use Rattle.clean_sessions.proofs.DeedsInTurn.{legal_turns}
use Rattle.clean_sessions.proofs.LastDeeds.{AllPropose, IsLaid, legal_laid}
use Rattle.clean_sessions.proofs.Meetings.{IsBehind, behind_length, is_last_own, last_is_own, one_longer, own_of_other}
use Rattle.clean_sessions.proofs.MirroredDeeds.{mirrored}

-- ---- lists with one more

pub last_same : {X : Type 0} (xs ys : List X) (x y : X) → xs ++ x ∷ [] ≡ ys ++ y ∷ [] → (xs ≡ ys) × (x ≡ y)
last_same [] [] x y e = let same : x ≡ y = cc in (refl, same)
last_same [] (b ∷ []) x y e = absurd (cc)
last_same [] (b ∷ c ∷ ys) x y e = absurd (cc)
last_same (a ∷ []) [] x y e = absurd (cc)
last_same (a ∷ c ∷ xs) [] x y e = absurd (cc)
last_same (a ∷ xs) (b ∷ ys) x y e =
    let head : a ≡ b = cc in
    let tail : xs ++ x ∷ [] ≡ ys ++ y ∷ [] = cc in
    let rest = last_same xs ys x y tail in
    (ap (λ (z : _). z ∷ xs) head ∙ ap (λ (l : List _). b ∷ l) rest.0, rest.1)

pub propose_in : (deeds : List Deed) (deed : Deed) → AllPropose deeds → In deed deeds → proposes deed.set ≡ true
propose_in [] deed all h = absurd h
propose_in (one ∷ deeds) deed all (inl same) = subst (λ (d : Deed). proposes d.set ≡ true) same all.0
propose_in (one ∷ deeds) deed all (inr h) = propose_in deeds deed all.1 h

-- ---- where the partner has one more, the next one is this end's

module _ (role : Role) (number : List ℕ) (one two : List Entry) (b : AreBacked role one two) (late : IsBehind (of_delivery number (deeds_of one)) (of_delivery number (deeds_of two))) where
  pub late_side : is_last_own role (length (of_delivery number (deeds_of one)) + 1) ≡ false
  late_side = flipped (is_last_own (other_role role) (n + 1)) (is_last_own role (n + 1)) (own_of_other role (n + 1)) (by (legal_laid (other_role role) two number b.others))
    where
      n : ℕ
      n = length (of_delivery number (deeds_of one))

      count : length (of_delivery number (deeds_of two)) ≡ n + 1
      count = behind_length (of_delivery number (deeds_of one)) (of_delivery number (deeds_of two)) late

      flipped : (a c : Bool) → a ≡ not c → a ≡ true → c ≡ false
      flipped a true e f = absurd (never_both a f e)
      flipped a false e f = refl

      by : IsLaid (other_role role) number (of_delivery number (deeds_of two)) → is_last_own (other_role role) (n + 1) ≡ true
      by (inl none) = absurd (never none)
        where
          never : of_delivery number (deeds_of two) ≡ [] → ⊥
          never none = let size : length (of_delivery number (deeds_of two)) ≡ 0 = ap length none in let more = count in omega (arith, size, more)
      by (inr (front, last, e)) =
          let same = last_same (map mirrored (of_delivery number (deeds_of one))) front late.last last (sym late.is ∙ e.is) in
          subst (λ (k : ℕ). is_last_own (other_role role) k ≡ true) (sym (ap length e.is ∙ one_longer front last) ∙ count)
          (last_is_own (other_role role) front last (subst (AreInTurn (first_kind (other_role role)) 0) e.is (legal_turns (other_role role) two number b.others)) ∙ ap (λ (d : Deed). is_signed d.kind) (sym same.1) ∙ ap is_signed late.signed)
