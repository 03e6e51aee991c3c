-- How a delivery stands once its last signed set was spoken, and seen from the other end.
use Rattle.std.proofs.Common.{◌≡◌, ◌+◌, ℕ, max, Bool, true, false, not, ◌&&◌, ◌||◌, ◌==◌, nat_lt, if◌then◌else◌, List, [], ◌∷◌, map, refl, sym, ap, subst, ◌∙◌, inl, inr, arith}
use Rattle.std.specs.Str.{bytes_eq}
use Rattle.std.specs.List.{fold}
use Rattle.std.proofs.lemmas.Bool.{cases_Bool, cases_eq}
use Rattle.std.proofs.lemmas.Bool.Decides.{nat_tests}
use Rattle.std.proofs.lemmas.Slice.Eq.{bytes_eq-Decides}
use Rattle.dsd_values.specs.declared.role.Role.{Role}
use Rattle.dsd_journal.specs.declared.entry.Entry.{Entry}
use Rattle.delivery_book.specs.Deeds.{other_role, signer_of}
use Rattle.delivery_book.specs.Refusals.{is_role}
use Rattle.own_turn.specs.DueSets.{Asked, DueSet, asked_of, with_spoken}
use Rattle.own_turn.specs.OwnTurn.{Desk, spoken}
use Rattle.own_turn.proofs.TurnsGrowing.{spoken_entries}
use Rattle.clean_sessions.specs.Courses.{Told, flips, speaks}
use Rattle.clean_sessions.specs.DeliveryStands.{AreLast, is_among, sets_in, stand_at, stand_of, told_by, told_in}
use Rattle.clean_sessions.proofs.AskedApart.{other_asked, own_asked}
use Rattle.clean_sessions.proofs.Meetings.{own_of_other}
use Rattle.clean_sessions.proofs.ReadyPlaces.{stand}
use Rattle.clean_sessions.proofs.TakingApart.{asked_number}

-- ---- what due sets ask then

abbrev pub told_spoken : Told → Told
told_spoken told = record { times = told.times + 1; since = false; met = told.met; accepts = told.accepts }

spoken_own : (number : List ℕ) (all : List Asked) → asked_of number (with_spoken all number) ≡ record (asked_of number all) { times = (asked_of number all).times + 1; since = false }
spoken_own number all =
    let new : Asked = record (asked_of number all) { times = (asked_of number all).times + 1; since = false } in
    let same : new.number ≡ number = asked_number number all in
    subst (λ (n : List ℕ). asked_of n (with_spoken all number) ≡ new) same (own_asked all new)

spoken_other : (number own : List ℕ) (all : List Asked) → bytes_eq own number ≡ false → asked_of number (with_spoken all own) ≡ asked_of number all
spoken_other number own all differs =
    other_asked all (record (asked_of own all) { times = (asked_of own all).times + 1; since = false }) number (ap (λ (n : List ℕ). bytes_eq n number) (asked_number own all) ∙ differs)

two_false : (a b : Bool) → (a || b) ≡ false → (a ≡ false) × (b ≡ false)
two_false true b e = absurd (cc)
two_false false b e = (refl, e)

abbrev after : List DueSet → List Asked → List Asked
after sets all = fold with_spoken all (map (λ (due : DueSet). due.number) sets)

none_spoken : (number : List ℕ) (sets : List DueSet) (all : List Asked) → is_among number sets ≡ false → asked_of number (after sets all) ≡ asked_of number all
none_spoken number [] all none = refl
none_spoken number (set ∷ more) all none =
    let away = two_false (bytes_eq set.number number) (is_among number more) none in
    none_spoken number more (with_spoken all set.number) away.1 ∙ spoken_other number set.number all away.0

one_spoken : (entries : List Entry) (number : List ℕ) (sets : List DueSet) (all : List Asked) → AreLast entries sets → is_among number sets ≡ true
    → told_by (asked_of number (after sets all)) ≡ told_spoken (told_by (asked_of number all))
one_spoken entries number [] all last there = absurd (cc)
one_spoken entries number (set ∷ more) all last there = elim (cases_Bool (bytes_eq set.number number)) [
  | inl same ↦
      let its = (bytes_eq-Decides set.number number).0 same in
      ap told_by (none_spoken number more (with_spoken all set.number) (subst (λ (n : List ℕ). is_among n more ≡ false) its last.1))
      ∙ ap (λ (n : List ℕ). told_by (asked_of number (with_spoken all n))) its ∙ ap told_by (spoken_own number all)
  | inr differs ↦
      one_spoken entries number more (with_spoken all set.number) last.2 (subst (λ (b : Bool). (b || is_among number more) ≡ true) differs there)
      ∙ ap (λ (a : Asked). told_spoken (told_by a)) (spoken_other number set.number all differs)
]

spoken_asked : (desk : Desk) (sets : List DueSet) → (spoken desk sets).asked ≡ after sets desk.asked
spoken_asked desk [] = refl
spoken_asked desk (set ∷ more) = refl

pub spoken_told : (number : List ℕ) (desk : Desk) (sets : List DueSet) → AreLast desk.entries sets → told_in number (spoken desk sets) ≡ (if is_among number sets then told_spoken (told_in number desk) else told_in number desk)
spoken_told number desk sets last = ap (λ (all : List Asked). told_by (asked_of number all)) (spoken_asked desk sets) ∙ by (is_among number sets) refl
  where
    by : (b : Bool) → is_among number sets ≡ b → told_by (asked_of number (after sets desk.asked)) ≡ (if b then told_spoken (told_in number desk) else told_in number desk)
    by true there = one_spoken desk.entries number sets desk.asked last there
    by false away = ap told_by (none_spoken number sets desk.asked away)

-- ---- seen from the other end

even_turned : (a b : ℕ) → (a == b && nat_lt 0 a) ≡ (b == a && nat_lt 0 b)
even_turned a b = elim (cases_eq a b) [
  | inl same ↦ subst (λ (c : ℕ). (a == c && nat_lt 0 a) ≡ (c == a && nat_lt 0 c)) same refl
  | inr apart ↦
      let one : (a == b) ≡ false = grind (arith, nat_tests) in
      let other : (b == a) ≡ false = grind (arith, nat_tests) in
      ap (λ (t : Bool). t && nat_lt 0 a) one ∙ sym (ap (λ (t : Bool). t && nat_lt 0 b) other)
]

max_turned : (a b : ℕ) → max a b ≡ max b a
max_turned a b = omega arith

pub stand_turned : (role : Role) (own partner : ℕ) (mine theirs : Told) → stand_at (other_role role) partner own theirs mine ≡ flips (stand_at role own partner mine theirs)
stand_turned role own partner mine theirs =
    ap (λ (n : ℕ). stand n (partner == own && nat_lt 0 partner) (not (is_role (signer_of n) (other_role role))) theirs mine) (max_turned partner own)
    ∙ ap (λ (b : Bool). stand (max own partner) b (not (is_role (signer_of (max own partner)) (other_role role))) theirs mine) (even_turned partner own)
    ∙ ap (λ (b : Bool). stand (max own partner) (own == partner && nat_lt 0 own) b theirs mine) (own_of_other role (max own partner))

speaks_told : (goes : Bool) (role : Role) (own partner : ℕ) (mine theirs : Told) → stand_at role own partner (if goes then told_spoken mine else mine) theirs ≡ speaks goes (stand_at role own partner mine theirs)
speaks_told true role own partner mine theirs = refl
speaks_told false role own partner mine theirs = refl

pub spoken_stand : (number : List ℕ) (role : Role) (desk partner : Desk) (sets : List DueSet) → AreLast desk.entries sets
    → stand_of number (other_role role) partner (spoken desk sets) ≡ flips (speaks (is_among number sets) (stand_of number role desk partner))
spoken_stand number role desk partner sets last =
    stand_turned role (sets_in number (spoken desk sets).entries) (sets_in number partner.entries) (told_in number (spoken desk sets)) (told_in number partner)
    ∙ ap (λ (l : List Entry). flips (stand_at role (sets_in number l) (sets_in number partner.entries) (told_in number (spoken desk sets)) (told_in number partner))) (spoken_entries desk sets)
    ∙ ap (λ (t : Told). flips (stand_at role (sets_in number desk.entries) (sets_in number partner.entries) t (told_in number partner))) (spoken_told number desk sets last)
    ∙ ap flips (speaks_told (is_among number sets) role (sets_in number desk.entries) (sets_in number partner.entries) (told_in number desk) (told_in number partner))
