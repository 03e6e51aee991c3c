-- How the lists of both ends meet on one delivery: they have the same sets, or one has one more, which it signed.
use Rattle.std.proofs.Common.{◌≡◌, ◌⊎◌, ◌+◌, ℕ, suc, max, Bool, true, false, not, ◌&&◌, ◌==◌, nat_lt, length, List, [], ◌∷◌, ◌++◌, map, Option, Some, refl, sym, ap, subst, ◌∙◌, inl, inr, length-append, arith}
use Rattle.std.proofs.lemmas.Bool.Decides.{nat_tests}
use Rattle.std.proofs.lemmas.List.{length-map}
use Rattle.dsd_values.specs.declared.role.Role.{Role}
use Rattle.dsd_values.specs.declared.role.Role.TheVariants.{Receiver, Supplier}
use Rattle.dsd_record.specs.ReadSets.{set_in}
use Rattle.dsd_record.specs.declared.set_view.SetView.{SetView}
use Rattle.dsd_journal.specs.declared.entry.Entry.{Entry}
use Rattle.dsd_journal.specs.declared.entry.EntryKind.{EntryKind}
use Rattle.dsd_journal.specs.declared.entry.EntryKind.TheVariants.{Signed, Took}
use Rattle.delivery_book.specs.Deeds.{Deed, deeds_of, is_signed, of_delivery, other_kind, other_role, signer_of}
use Rattle.delivery_book.specs.Refusals.{is_role}
use Rattle.clean_sessions.specs.Courses.{Told}
use Rattle.clean_sessions.specs.DeedShapes.{AreInTurn, deeds_seen, first_kind, seen}
use Rattle.clean_sessions.specs.DeliveryStands.{AreBacked, stand_at}
use Rattle.clean_sessions.specs.Fronts.{Fronts}
use Rattle.clean_sessions.proofs.DeedsInTurn.{legal_turns}
use Rattle.clean_sessions.proofs.DeedsOfBoth.{AllRead, all_read, one_course, read_filter}
use Rattle.clean_sessions.proofs.LastDeeds.{kind_side, last_kind, side_of_other}
use Rattle.clean_sessions.proofs.MirroredDeeds.{mirrored}
use Rattle.clean_sessions.proofs.ReadyPlaces.{stand}

-- ---- the two lists of deeds

-- the second one has one set more, which its end signed
pub record IsBehind (short long : List Deed) : Type 0 where
  pub last : Deed
  pub is : long ≡ map mirrored short ++ last ∷ []
  pub signed : last.kind ≡ Signed

abbrev pub Meet : List Deed → List Deed → Type 0
Meet own partner = (partner ≡ map mirrored own) ⊎ (IsBehind partner own ⊎ IsBehind own partner)

signed_is : (kind : EntryKind) → is_signed kind ≡ true → kind ≡ Signed
signed_is Signed e = refl
signed_is Took e = absurd (cc)

same_deed : (deed other : Deed) → other.kind ≡ other_kind deed.kind → other.text ≡ deed.text → other.set ≡ deed.set → other ≡ mirrored deed
same_deed deed other k t s =
    ap (λ (x : EntryKind). let d : Deed = record { kind = x; text = other.text; set = other.set } in d) k
    ∙ ap (λ (x : List ℕ). let d : Deed = record { kind = other_kind deed.kind; text = x; set = other.set } in d) t
    ∙ ap (λ (x : SetView). let d : Deed = record { kind = other_kind deed.kind; text = deed.text; set = x } in d) s

some_set : (a b : SetView) → (let r : Option SetView = Some a in r) ≡ Some b → a ≡ b
some_set a b e = cc

twice_kind : (kind : EntryKind) → other_kind (other_kind kind) ≡ kind
twice_kind Signed = refl
twice_kind Took = refl

alone_last : (deed : Deed) (deeds : List Deed) → is_signed deed.kind ≡ true → deeds ≡ [] → IsBehind [] (deed ∷ deeds)
alone_last deed deeds signed none = record { last = deed; is = ap (λ (l : List Deed). deed ∷ l) none; signed = signed_is deed.kind signed }

behind_more : (a b : Deed) (short long : List Deed) → b ≡ mirrored a → IsBehind short long → IsBehind (a ∷ short) (b ∷ long)
behind_more a b short long same h = record {
  last = h.last;
  is = ap (λ (d : Deed). d ∷ long) same ∙ ap (λ (l : List Deed). mirrored a ∷ l) h.is;
  signed = h.signed;
}

meet_more : (a b : Deed) (own partner : List Deed) → b ≡ mirrored a → a ≡ mirrored b → Meet own partner → Meet (a ∷ own) (b ∷ partner)
meet_more a b own partner same back (inl even) = inl (ap (λ (d : Deed). d ∷ partner) same ∙ ap (λ (l : List Deed). mirrored a ∷ l) even)
meet_more a b own partner same back (inr (inl ahead)) = inr (inl (behind_more b a partner own back ahead))
meet_more a b own partner same back (inr (inr late)) = inr (inr (behind_more a b own partner same late))

deeds_meet : (kind : EntryKind) (n : ℕ) (own partner : List Deed) → AreInTurn kind n own → AreInTurn (other_kind kind) n partner → AllRead own → AllRead partner → Fronts (map seen own) (map seen partner) → Meet own partner
deeds_meet kind n [] [] turns others read their fronts = inl refl
deeds_meet kind n [] (b ∷ partner) turns others read their fronts = inr (inr (alone_last b partner fronts.0 (none_seen partner fronts.1)))
  where
    none_seen : (l : List Deed) → map seen l ≡ [] → l ≡ []
    none_seen [] e = refl
    none_seen (d ∷ l) e = absurd (cc)
deeds_meet kind n (a ∷ own) [] turns others read their fronts = inr (inl (alone_last a own fronts.0 (none_seen own fronts.1)))
  where
    none_seen : (l : List Deed) → map seen l ≡ [] → l ≡ []
    none_seen [] e = refl
    none_seen (d ∷ l) e = absurd (cc)
deeds_meet kind n (a ∷ own) (b ∷ partner) turns others read their fronts =
    let set : b.set ≡ a.set = some_set b.set a.set (sym their.0 ∙ ap set_in (sym fronts.0) ∙ read.0) in
    let other : b.kind ≡ other_kind a.kind = others.0 ∙ ap other_kind (sym turns.0) in
    let back : a.kind ≡ other_kind b.kind = turns.0 ∙ sym (twice_kind kind) ∙ ap other_kind (sym others.0) in
    meet_more a b own partner (same_deed a b other (sym fronts.0) set) (same_deed b a back fronts.0 (sym set))
    (deeds_meet (other_kind kind) (n + 1) own partner turns.2 others.2 read.1 their.1 fronts.1)

-- ---- of two lists of entries

fronts_turned : (a b : List _) → Fronts a b → Fronts b a
fronts_turned [] [] f = tt
fronts_turned [] (y ∷ ys) f = f
fronts_turned (x ∷ xs) [] f = f
fronts_turned (x ∷ xs) (y ∷ ys) f = (sym f.0, fronts_turned xs ys f.1)

pub backed_fronts : (role : Role) (own partner : List Entry) (number : List ℕ) → AreBacked role own partner → Fronts (deeds_seen number own) (deeds_seen number partner)
backed_fronts Supplier own partner number b = one_course own partner number b.legal b.others b.backed b.backing
backed_fronts Receiver own partner number b = fronts_turned (deeds_seen number partner) (deeds_seen number own) (one_course partner own number b.others b.legal b.backing b.backed)

other_first : (role : Role) → first_kind (other_role role) ≡ other_kind (first_kind role)
other_first Supplier = refl
other_first Receiver = refl

pub lists_meet : (role : Role) (own partner : List Entry) (number : List ℕ) → AreBacked role own partner → Meet (of_delivery number (deeds_of own)) (of_delivery number (deeds_of partner))
lists_meet role own partner number b =
    deeds_meet (first_kind role) 0 (of_delivery number (deeds_of own)) (of_delivery number (deeds_of partner))
    (legal_turns role own number b.legal)
    (subst (λ (k : EntryKind). AreInTurn k 0 (of_delivery number (deeds_of partner))) (other_first role) (legal_turns (other_role role) partner number b.others))
    (read_filter _ (deeds_of own) (all_read own)) (read_filter _ (deeds_of partner) (all_read partner)) (backed_fronts role own partner number b)

-- ---- how many there are

pub one_longer : (xs : List Deed) (x : Deed) → length (xs ++ x ∷ []) ≡ length xs + 1
one_longer xs x = length-append xs (x ∷ [])

pub even_length : (own partner : List Deed) → partner ≡ map mirrored own → length partner ≡ length own
even_length own partner e = ap length e ∙ length-map own mirrored

pub behind_length : (short long : List Deed) → IsBehind short long → length long ≡ length short + 1
behind_length short long h = ap length h.is ∙ one_longer (map mirrored short) h.last ∙ ap (λ (n : ℕ). n + 1) (length-map short mirrored)

-- ---- the stand by that

max_same : (n : ℕ) → max n n ≡ n
max_same n = omega arith

max_more : (n : ℕ) → max (n + 1) n ≡ n + 1
max_more n = omega arith

max_less : (n : ℕ) → max n (n + 1) ≡ n + 1
max_less n = omega arith

-- the last set of so many is own
abbrev pub is_last_own : Role → ℕ → Bool
is_last_own role n = not (is_role (signer_of n) role)

module _ (role : Role) (mine theirs : Told) where
  pub even_stand : (n : ℕ) → stand_at role n n mine theirs ≡ stand n (nat_lt 0 n) (is_last_own role n) mine theirs
  even_stand n =
      let same : (n == n) ≡ true = grind (arith, nat_tests) in
      ap (λ (b : Bool). stand (max n n) (b && nat_lt 0 n) (is_last_own role (max n n)) mine theirs) same
      ∙ ap (λ (m : ℕ). stand m (nat_lt 0 n) (is_last_own role m) mine theirs) (max_same n)

  pub ahead_stand : (n : ℕ) → stand_at role (n + 1) n mine theirs ≡ stand (n + 1) false (is_last_own role (n + 1)) mine theirs
  ahead_stand n =
      let apart : (n + 1 == n) ≡ false = grind (arith, nat_tests) in
      ap (λ (b : Bool). stand (max (n + 1) n) (b && nat_lt 0 (n + 1)) (is_last_own role (max (n + 1) n)) mine theirs) apart
      ∙ ap (λ (m : ℕ). stand m false (is_last_own role m) mine theirs) (max_more n)

  pub late_stand : (n : ℕ) → stand_at role n (n + 1) mine theirs ≡ stand (n + 1) false (is_last_own role (n + 1)) mine theirs
  late_stand n =
      let apart : (n == n + 1) ≡ false = grind (arith, nat_tests) in
      ap (λ (b : Bool). stand (max n (n + 1)) (b && nat_lt 0 n) (is_last_own role (max n (n + 1))) mine theirs) apart
      ∙ ap (λ (m : ℕ). stand m false (is_last_own role m) mine theirs) (max_less n)

-- ---- whose the last one is

twice_not : (b : Bool) → not (not b) ≡ b
twice_not true = refl
twice_not false = refl

signer_more : (n : ℕ) → signer_of (n + 1) ≡ other_role (signer_of n)
signer_more n = let one : n + 1 ≡ suc n = omega arith in ap signer_of one

pub own_more : (role : Role) (n : ℕ) → is_last_own role (n + 1) ≡ is_role (signer_of n) role
own_more role n = ap (λ (r : Role). not (is_role r role)) (signer_more n) ∙ ap not (side_of_other role (signer_of n)) ∙ twice_not (is_role (signer_of n) role)

pub last_is_own : (role : Role) (front : List Deed) (last : Deed) → AreInTurn (first_kind role) 0 (front ++ last ∷ []) → is_last_own role (length front + 1) ≡ is_signed last.kind
last_is_own role front last turns = own_more role (length front) ∙ sym (ap is_signed (last_kind (first_kind role) 0 front last turns) ∙ kind_side role (length front))

role_of_other : (role other : Role) → is_role other (other_role role) ≡ not (is_role other role)
role_of_other Supplier Supplier = refl
role_of_other Supplier Receiver = refl
role_of_other Receiver Supplier = refl
role_of_other Receiver Receiver = refl

pub own_of_other : (role : Role) (n : ℕ) → is_last_own (other_role role) n ≡ not (is_last_own role n)
own_of_other role n = ap not (role_of_other role (signer_of n))
