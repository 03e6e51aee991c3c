-- What answering and proposing make of one delivery is what its course has for the end to sign.
use Rattle.std.proofs.Common.{◌≡◌, ◌≤◌, ◌+◌, ℕ, Bool, true, false, not, ◌&&◌, ◌||◌, ◌==◌, if◌then◌else◌, nat_lt, length, List, refl, sym, ap, ◌∙◌, inl, inr, arith}
use Rattle.std.proofs.lemmas.Bool.{cases_Bool}
use Rattle.std.proofs.lemmas.Bool.Decides.{nat_tests}
use Rattle.dsd_values.specs.declared.role.Role.{Role}
use Rattle.dsd_values.specs.declared.role.Role.TheVariants.{Supplier}
use Rattle.dsd_record.specs.Choices.{Chooser}
use Rattle.dsd_journal.specs.declared.entry.Entry.{Entry}
use Rattle.delivery_book.specs.Refusals.{is_role}
use Rattle.own_turn.specs.OwnTurn.{Desk, with_signature}
use Rattle.clean_sessions.specs.Courses.{Course, Stand, answers, awaits, proposes, signs}
use Rattle.clean_sessions.specs.DeliveryStands.{IsFront, SignsSets, is_open, may_propose, sets_in, stand_at, stand_of, told_in}
use Rattle.clean_sessions.specs.Untouched.{IsUntouched}
use Rattle.clean_sessions.proofs.BoolTests.{never_both}
use Rattle.clean_sessions.proofs.Meetings.{even_stand, is_last_own}
use Rattle.clean_sessions.proofs.ReadyPlaces.{no_draft, stand}
use Rattle.clean_sessions.proofs.SignedStands.{answered_open, awaits_sign, first_sign, one_more, signs_stand}
use Rattle.clean_sessions.proofs.SigningTurns.{Awaits, Good, IsNewIn, SignsOne, SignsOrNot}
use Rattle.clean_sessions.proofs.TakingApart.{then_untouched}
use Rattle.clean_sessions.proofs.TakingTurns.{front_untouched, stand_untouched}

both_false : (a b : Bool) → (a || b) ≡ false → (a ≡ false) × (b ≡ false)
both_false true b e = absurd (cc)
both_false false b e = (refl, e)

not_more : (n : ℕ) → n ≡ n + 1 → ⊥
not_more n e = omega (arith, e)

module _ (role : Role) (chooser : Chooser) (signing : SignsSets role chooser) (number : List ℕ) (course : Course) (partner : Desk) where
  abbrev at : Desk → Stand
  at desk = stand_of number role desk partner

  -- what the course makes of it
  abbrev prepared : Desk → Stand
  prepared desk = proposes course (may_propose role) (answers course (at desk))

  quiet : (old new : Desk) → IsUntouched number old new → (is_open course role (at old) ≡ true → (at new).sets ≡ (at old).sets + 1) → at new ≡ prepared old
  quiet old new left opened = elim (cases_Bool (is_open course role (at old))) [
    | inl open_it ↦ absurd (not_more (at old).sets (sym (ap (λ (s : Stand). s.sets) (stand_untouched number role old new partner left)) ∙ opened open_it))
    | inr closed ↦
        let none = both_false (awaits course (at old)) (may_propose role && (at old).sets == 0 && nat_lt 0 course.sets) closed in
        stand_untouched number role old new partner left
        ∙ sym (ap (λ (b : Bool). if b then signs course (at old) else at old) none.1)
        ∙ sym (ap (λ (b : Bool). proposes course (may_propose role) (if b then signs course (at old) else at old)) none.0)
  ]

  answered : (old new : Desk) → SignsOne (Awaits role chooser signing partner.entries number) (Good role chooser signing partner.entries number) number old new → IsFront course number new.entries → at new ≡ prepared old
  answered old new s fits =
      let may = awaits_sign role number course partner s.before.entries s.good s.when in
      let signed = signs_stand role number course partner (Awaits role chooser signing partner.entries number) old new s fits may.0 in
      let test = answered_open role number course partner (Awaits role chooser signing partner.entries number) old new s fits may.0 may.1 in
      let some : 1 ≤ (at old).sets + 1 = omega arith in
      signed
      ∙ sym (no_draft course (may_propose role) (signs course (at old)) some)
      ∙ sym (ap (λ (b : Bool). proposes course (may_propose role) (if b then signs course (at old) else at old)) test)

  -- a first set is no acceptance
  proposed : (old new : Desk) → (s : SignsOne (IsNewIn role chooser signing partner.entries number) (Good role chooser signing partner.entries number) number old new) → IsFront course number new.entries → at new ≡ prepared old
  proposed old new s fits =
      let f = first_sign role number course partner s.before.entries s.text s.acceptance s.own s.when.0 s.good s.behind in
      let signed = signs_stand role number course partner (IsNewIn role chooser signing partner.entries number) old new s fits f.may in
      let behind : Desk = with_signature s.before number s.acceptance s.text in
      let front = front_untouched course number new.entries behind.entries (sym s.last.deeds) fits in
      let count = one_more number s.text s.acceptance s.own s.before.entries in
      let most = front.most in
      let none = f.none in
      let some : 1 ≤ course.sets = omega (arith, count, most, none) in
      let zero : at old ≡ stand 0 false (is_last_own role 0) (told_in number s.before) (told_in number partner) =
      sym (stand_untouched number role old s.before partner s.first)
      ∙ ap (λ (k : ℕ). stand_at role (sets_in number s.before.entries) k (told_in number s.before) (told_in number partner)) f.may.even
      ∙ ap (λ (k : ℕ). stand_at role k k (told_in number s.before) (told_in number partner)) f.none
      ∙ even_stand role (told_in number s.before) (told_in number partner) 0 in
      signed ∙ sym (ap (λ (x : Stand). proposes course (may_propose role) (answers course x)) zero ∙ drafted f.side some ∙ ap (signs course) (sym zero))
    where
      drafted : role ≡ Supplier → 1 ≤ course.sets → proposes course (may_propose role) (stand 0 false (is_last_own role 0) (told_in number s.before) (told_in number partner))
          ≡ signs course (stand 0 false (is_last_own role 0) (told_in number s.before) (told_in number partner))
      drafted side some =
          let room : nat_lt 0 course.sets ≡ true = grind (arith, nat_tests) in
          ap (λ (r : Role). if is_role r Supplier && true && nat_lt 0 course.sets then signs course (zero_stand) else zero_stand) side
          ∙ ap (λ (b : Bool). if b then signs course zero_stand else zero_stand) room
        where
          zero_stand : Stand
          zero_stand = stand 0 false (is_last_own role 0) (told_in number s.before) (told_in number partner)

  -- ---- both parts

  extended : (When : List Entry → Type 0) (old mid new : Desk) → SignsOne When (Good role chooser signing partner.entries number) number old mid → IsUntouched number mid new → SignsOne When (Good role chooser signing partner.entries number) number old new
  extended When old mid new s left = record {
    before = s.before;
    text = s.text;
    acceptance = s.acceptance;
    own = s.own;
    when = s.when;
    good = s.good;
    first = s.first;
    behind = s.behind;
    last = then_untouched number _ mid new s.last left;
  }

  begun : (When : List Entry → Type 0) (old mid new : Desk) → IsUntouched number old mid → SignsOne When (Good role chooser signing partner.entries number) number mid new → SignsOne When (Good role chooser signing partner.entries number) number old new
  begun When old mid new left s = record {
    before = s.before;
    text = s.text;
    acceptance = s.acceptance;
    own = s.own;
    when = s.when;
    good = s.good;
    first = then_untouched number old mid s.before left s.first;
    behind = s.behind;
    last = s.last;
  }

  -- what was answered is not new
  never_twice : (old mid new : Desk) → SignsOne (Awaits role chooser signing partner.entries number) (Good role chooser signing partner.entries number) number old mid
      → SignsOne (IsNewIn role chooser signing partner.entries number) (Good role chooser signing partner.entries number) number mid new → ⊥
  never_twice old mid new s t =
      let count = one_more number s.text s.acceptance s.own s.before.entries in
      let there = ap length s.last.deeds in
      let same = ap length t.first.deeds in
      let none = ap length t.when.0 in
      omega (arith, count, there, same, none)

  pub prepared_so : (old mid new : Desk) → SignsOrNot (Awaits role chooser signing partner.entries number) (Good role chooser signing partner.entries number) number old mid
      → SignsOrNot (IsNewIn role chooser signing partner.entries number) (Good role chooser signing partner.entries number) number mid new
      → IsFront course number new.entries → (is_open course role (at old) ≡ true → (at new).sets ≡ (at old).sets + 1) → at new ≡ prepared old
  prepared_so old mid new (inl a) (inl p) fits opened = quiet old new (then_untouched number old mid new a p) opened
  prepared_so old mid new (inr s) (inl p) fits opened = answered old new (extended (Awaits role chooser signing partner.entries number) old mid new s p) fits
  prepared_so old mid new (inl a) (inr t) fits opened = proposed old new (begun (IsNewIn role chooser signing partner.entries number) old mid new a t) fits
  prepared_so old mid new (inr s) (inr t) fits opened = absurd (never_twice old mid new s t)

  -- ---- where the course ends with what is there then

  closed : (heard last_own drafts : Bool) (n m : ℕ) → n ≡ m → (heard && not last_own && nat_lt n m || (drafts && n == 0 && nat_lt 0 m)) ≡ false
  closed heard last_own drafts n m e =
      let full : nat_lt n m ≡ false = grind (arith, nat_tests) in
      ap (λ (b : Bool). heard && not last_own && b || (drafts && n == 0 && nat_lt 0 m)) full ∙ by heard last_own drafts
    where
      none : (b : Bool) → (n == 0) ≡ b → (b && nat_lt 0 m) ≡ false
      none false z = refl
      none true z = grind (arith, nat_tests)

      by : (heard last_own drafts : Bool) → (heard && not last_own && false || (drafts && n == 0 && nat_lt 0 m)) ≡ false
      by true true true = none (n == 0) refl
      by true false true = none (n == 0) refl
      by false last_own true = none (n == 0) refl
      by true true false = refl
      by true false false = refl
      by false last_own false = refl

  -- a set is then signed where the course had one to sign
  pub grown_so : (old mid new : Desk) → SignsOrNot (Awaits role chooser signing partner.entries number) (Good role chooser signing partner.entries number) number old mid
      → SignsOrNot (IsNewIn role chooser signing partner.entries number) (Good role chooser signing partner.entries number) number mid new
      → IsFront course number new.entries → (at new).sets ≡ course.sets → is_open course role (at old) ≡ true → (at new).sets ≡ (at old).sets + 1
  unfolding begun extended
  grown_so old mid new (inl a) (inl p) fits whole open_it =
      let still : (at old).sets ≡ course.sets = sym (ap (λ (s : Stand). s.sets) (stand_untouched number role old new partner (then_untouched number old mid new a p))) ∙ whole in
      absurd (never_both _ open_it (closed (at old).heard (at old).last_own (may_propose role) (at old).sets course.sets still))
  grown_so old mid new (inr s) (inl p) fits whole open_it =
      let more = extended (Awaits role chooser signing partner.entries number) old mid new s p in
      let may = awaits_sign role number course partner s.before.entries s.good s.when in
      ap (λ (x : Stand). x.sets) (signs_stand role number course partner (Awaits role chooser signing partner.entries number) old new more fits may.0)
  grown_so old mid new (inl a) (inr t) fits whole open_it =
      let more = begun (IsNewIn role chooser signing partner.entries number) old mid new a t in
      let f = first_sign role number course partner t.before.entries t.text t.acceptance t.own t.when.0 t.good t.behind in
      ap (λ (x : Stand). x.sets) (signs_stand role number course partner (IsNewIn role chooser signing partner.entries number) old new more fits f.may)
  grown_so old mid new (inr s) (inr t) fits whole open_it = absurd (never_twice old mid new s t)
