-- An image is refused as a book at one place, and never where it holds one.
use Rattle.std.proofs.Common.{◌≡◌, ◌⊎◌, inl, inr, ℕ, ◌+◌, List, [], ◌∷◌, ◌++◌, append_assoc, refl, sym, ap, subst, ◌∙◌}
use Rattle.dsd_values.specs.declared.role.Role.{Role}
use Rattle.dsd_journal.specs.declared.entry.Entry.{Entry}
use Rattle.dsd_journal.specs.declared.header.Header.{Header}
use Rattle.dsd_journal.specs.JournalImage.{Holds, gate_place}
use Rattle.dsd_journal.proofs.Apart as apart
use Rattle.delivery_book.specs.BookImages.{IsBookRefused, IsFirstIllegal, NoJournal, NotLegal, OtherRole}
use Rattle.delivery_book.specs.Signing.{Legal}
use Rattle.delivery_book.proofs.Grown.{legal_front}

-- ---- the first entry that is not allowed

-- two entries of a list are the same one, or the first stands before the second, or behind it
abbrev Stand : List Entry → List Entry → Entry → Entry → Type 0
Stand xs ys x y = (xs ≡ ys) ⊎ (((rest : List Entry) × (ys ≡ (xs ++ x ∷ []) ++ rest)) ⊎ ((rest : List Entry) × (xs ≡ (ys ++ y ∷ []) ++ rest)))

head_same : (x y : Entry) (xs ys : List Entry) → x ∷ xs ≡ y ∷ ys → x ≡ y
head_same x y xs ys e = cc

tail_same : (x y : Entry) (xs ys : List Entry) → x ∷ xs ≡ y ∷ ys → xs ≡ ys
tail_same x y xs ys e = cc

behind_one : (z w : Entry) (xs ys : List Entry) (x y : Entry) → z ≡ w → Stand xs ys x y → Stand (z ∷ xs) (w ∷ ys) x y
behind_one z w xs ys x y e (inl same) = inl (ap (λ (l : List Entry). z ∷ l) same ∙ ap (λ (t : Entry). t ∷ ys) e)
behind_one z w xs ys x y e (inr (inl (rest, is))) = inr (inl (rest, ap (λ (l : List Entry). w ∷ l) is ∙ ap (λ (t : Entry). t ∷ ((xs ++ x ∷ []) ++ rest)) (sym e)))
behind_one z w xs ys x y e (inr (inr (rest, is))) = inr (inr (rest, ap (λ (l : List Entry). z ∷ l) is ∙ ap (λ (t : Entry). t ∷ ((ys ++ y ∷ []) ++ rest)) e))

stands : (xs ys : List Entry) (x y : Entry) (more others : List Entry) → xs ++ x ∷ more ≡ ys ++ y ∷ others → Stand xs ys x y
stands [] [] x y more others e = inl refl
stands [] (w ∷ ys) x y more others e = inr (inl (ys, ap (λ (t : Entry). t ∷ ys) (sym (head_same x w more (ys ++ y ∷ others) e))))
stands (z ∷ xs) [] x y more others e = inr (inr (xs, ap (λ (t : Entry). t ∷ xs) (head_same z y (xs ++ x ∷ more) others e)))
stands (z ∷ xs) (w ∷ ys) x y more others e =
    behind_one z w xs ys x y (head_same z w (xs ++ x ∷ more) (ys ++ y ∷ others) e) (stands xs ys x y more others (tail_same z w (xs ++ x ∷ more) (ys ++ y ∷ others) e))

first_by : (role : Role) (entries : List Entry) (place other : ℕ) (p : IsFirstIllegal role entries place) (q : IsFirstIllegal role entries other) → Stand p.before q.before p.entry q.entry → place ≡ other
first_by role entries place other p q (inl same) = p.at ∙ ap (λ (l : List Entry). gate_place l + 1) same ∙ sym q.at
first_by role entries place other p q (inr (inl (rest, is))) = absurd (p.illegal (legal_front role (p.before ++ p.entry ∷ []) rest (subst (Legal role) is q.legal)))
first_by role entries place other p q (inr (inr (rest, is))) = absurd (q.illegal (legal_front role (q.before ++ q.entry ∷ []) rest (subst (Legal role) is p.legal)))

first_one : (role : Role) (entries : List Entry) (place other : ℕ) → IsFirstIllegal role entries place → IsFirstIllegal role entries other → place ≡ other
first_one role entries place other p q = first_by role entries place other p q (stands p.before q.before p.entry q.entry p.behind q.behind (sym p.split ∙ q.split))

none_illegal : (role : Role) (entries : List Entry) (place : ℕ) → Legal role entries → IsFirstIllegal role entries place → ⊥
none_illegal role entries place legal p =
    p.illegal (legal_front role (p.before ++ p.entry ∷ []) p.behind (subst (Legal role) (p.split ∙ sym (append_assoc p.before (p.entry ∷ []) p.behind)) legal))

-- ---- images

module _ (image : List ℕ) (one other : Header) (entries others : List Entry) (p : Holds one entries image) (q : Holds other others image) where
  role_same : one.role ≡ other.role
  role_same = ap (λ (h : Header). h.role) (apart.one_list image one other entries others p q).0

  entries_same : entries ≡ others
  entries_same = (apart.one_list image one other entries others p q).1

pub never_both : (role : Role) (image : List ℕ) (header : Header) (entries : List Entry) (place : ℕ) → Holds header entries image → header.role ≡ role → Legal role entries → IsBookRefused role image place → ⊥
never_both role image header entries place holds own legal (NoJournal p) = apart.never_both image header entries place holds p
never_both role image header entries place holds own legal (OtherRole p) = p.other (role_same image p.header header p.entries entries p.holds holds ∙ own)
never_both role image header entries place holds own legal (NotLegal p) =
    none_illegal role entries place legal (subst (λ (l : List Entry). IsFirstIllegal role l place) (entries_same image p.header header p.entries entries p.holds holds) p.first)

pub one_place : (role : Role) (image : List ℕ) (place other : ℕ) → IsBookRefused role image place → IsBookRefused role image other → place ≡ other
one_place role image place other (NoJournal p) (NoJournal q) = apart.one_place image place other p q
one_place role image place other (NoJournal p) (OtherRole q) = absurd (apart.never_both image q.header q.entries place q.holds p)
one_place role image place other (NoJournal p) (NotLegal q) = absurd (apart.never_both image q.header q.entries place q.holds p)
one_place role image place other (OtherRole p) (NoJournal q) = absurd (apart.never_both image p.header p.entries other p.holds q)
one_place role image place other (OtherRole p) (OtherRole q) = p.at ∙ sym q.at
one_place role image place other (OtherRole p) (NotLegal q) = absurd (p.other (role_same image p.header q.header p.entries q.entries p.holds q.holds ∙ q.own))
one_place role image place other (NotLegal p) (NoJournal q) = absurd (apart.never_both image p.header p.entries other p.holds q)
one_place role image place other (NotLegal p) (OtherRole q) = absurd (q.other (role_same image q.header p.header q.entries p.entries q.holds p.holds ∙ p.own))
one_place role image place other (NotLegal p) (NotLegal q) =
    first_one role q.entries place other (subst (λ (l : List Entry). IsFirstIllegal role l place) (entries_same image p.header q.header p.entries q.entries p.holds q.holds) p.first) q.first
