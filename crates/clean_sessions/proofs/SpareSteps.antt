-- What is left to be spoken of a delivery falls with each own turn that speaks of it, whatever its course is.
use Rattle.std.proofs.Common.{◌≡◌, ◌⊎◌, ◌≤◌, ◌+◌, ℕ, max, Bool, true, false, not, ◌&&◌, ◌||◌, nat_lt, List, refl, sym, ap, subst, ◌∙◌, inl, inr, arith}
use Rattle.std.specs.Prelude.{Contains, if◌then◌else◌}
use Rattle.std.proofs.lemmas.Bool.Decides.{nat_tests}
use Rattle.dsd_values.specs.declared.role.Role.{Role}
use Rattle.base_record_894.specs.BaseRecord.{BaseRecord}
use Rattle.dsd_record.specs.Choices.{Chooser}
use Rattle.dsd_journal.specs.declared.entry.Entry.{Entry}
use Rattle.dsd_journal.specs.declared.header.Header.{Header}
use Rattle.delivery_book.specs.Deeds.{deeds_of, of_delivery, other_role}
use Rattle.own_turn.specs.DueSets.{DueSet, asked_of, is_wanted as is_asked_for}
use Rattle.own_turn.specs.OwnTurn.{Desk, Turned, gathered, lent, with_fault}
use Rattle.clean_sessions.specs.Courses.{Course, Stand, as_number, flips, hears, is_complete, may_speak, meets, signs, speaks, still_left}
use Rattle.clean_sessions.specs.DeliveryStands.{AreBacked, IsBetweenTurns, SignsSets, is_among, sets_in, stand_of, told_in}
use Rattle.clean_sessions.proofs.BoolTests.{both_true}
use Rattle.clean_sessions.proofs.DeliveryTurns.{answered_good, heard_turn, proposed_good, taken_good}
use Rattle.clean_sessions.proofs.GatheredSets.{gathered_due, gathered_last}
use Rattle.clean_sessions.proofs.HearingTurns.{last_deed, some_in}
use Rattle.clean_sessions.proofs.SignedStands.{MaySign, awaits_sign, first_sign, signs_stand}
use Rattle.clean_sessions.proofs.SigningTurns.{Awaits, IsNewIn, SignsOne, SignsOrNot, answered_all, proposed_all}
use Rattle.clean_sessions.proofs.SpareTurns.{course_so_far, few_sets, fits_so_far}
use Rattle.clean_sessions.proofs.SpokenStands.{spoken_stand}
use Rattle.clean_sessions.proofs.TakingApart.{fault_left}
use Rattle.clean_sessions.proofs.TakingTurns.{stand_untouched, taken_all}
use Rattle.clean_sessions.proofs.TurnsRunOut.{may_is}

-- the longest course that there is
abbrev pub longest : Course
longest = record { sets = 11; accepted = false }

-- What a step leaves: no more than before, and a delivery that was not known before is one of these.
pub record Leaves (Drafted : Type 0) (a b : Stand) : Type 0 where
  pub less : still_left longest b ≤ still_left longest a
  pub own : a.own.times ≤ 2 → b.own.times ≤ 2
  pub partner : b.partner.times ≡ a.partner.times
  pub known : 1 ≤ b.sets → (1 ≤ a.sets) ⊎ Drafted

leaves_same : (Drafted : Type 0) (a b : Stand) → b ≡ a → Leaves Drafted a b
leaves_same Drafted a b e = subst (Leaves Drafted a) (sym e) (record { less = omega arith; own = λ low. low; partner = refl; known = λ some. inl some })

leaves_then : (Drafted : Type 0) (a b c : Stand) → Leaves Drafted a b → Leaves Drafted b c → Leaves Drafted a c
leaves_then Drafted a b c first second = record {
  less = let x = first.less in let y = second.less in omega (arith, x, y);
  own = λ low. second.own (first.own low);
  partner = second.partner ∙ first.partner;
  known = λ some. elim (second.known some) [
    | inl there ↦ first.known there
    | inr drafted ↦ inr drafted
  ];
}

leaves_heard : (Drafted : Type 0) (course : Course) (sent : Bool) (a : Stand) → Leaves Drafted a (hears course sent a)
leaves_heard Drafted course false a = leaves_same Drafted a a refl
leaves_heard Drafted course true a = by (a.last_own || a.heard) (not a.last_own && is_complete course a)
  where
    by : (known done : Bool) → Leaves Drafted a (if known then (if done then a else meets a) else record a { heard = true })
    by true true = leaves_same Drafted a a refl
    by true false = record { less = omega arith; own = λ low. low; partner = refl; known = λ some. inl some }
    by false done = record { less = omega arith; own = λ low. low; partner = refl; known = λ some. inl some }

leaves_signed : (Drafted : Type 0) (course : Course) (a : Stand) → (signs course a).sets ≤ 11 → (1 ≤ a.sets) ⊎ Drafted → Leaves Drafted a (signs course a)
leaves_signed Drafted course a few known = record {
  less = omega (arith, few);
  own = λ low. omega arith;
  partner = refl;
  known = λ some. known;
}

max_low : (a b : ℕ) → a ≤ 11 → b ≤ 11 → max a b ≤ 11
max_low a b x y = omega (arith, x, y)

-- ---- the parts of a turn

module _ (role : Role) (chooser : Chooser) (signing : SignsSets role chooser) (number : List ℕ) (partner : Desk) where
  abbrev at : Desk → Stand
  at desk = stand_of number role desk partner

  abbrev Backed : Desk → Type 0
  Backed desk = AreBacked role desk.entries partner.entries

  -- one of the drafts is of this delivery
  abbrev pub IsDrafted : Type 0
  IsDrafted = (draft : BaseRecord) × Contains chooser.drafts draft × (draft.number ≡ number)

  few_at : (desk : Desk) → Backed desk → (at desk).sets ≤ 11
  few_at desk b = max_low (sets_in number desk.entries) (sets_in number partner.entries) (few_sets role number desk.entries b.legal) (few_sets (other_role role) number partner.entries b.others)

  by_sign : (When : List Entry → Type 0) (old new : Desk) → (s : SignsOne When Backed number old new) → MaySign role number s.before.entries partner.entries → Backed new → (1 ≤ (at old).sets) ⊎ IsDrafted → Leaves IsDrafted (at old) (at new)
  by_sign When old new s may good known =
      let course = course_so_far number new.entries in
      let signed = signs_stand role number course partner When old new s (fits_so_far number new.entries) may in
      subst (Leaves IsDrafted (at old)) (sym signed)
      (leaves_signed IsDrafted course (at old) (subst (λ (x : Stand). x.sets ≤ 11) signed (few_at new good)) known)

  some_sets : (n m : ℕ) → nat_lt 0 n ≡ true → 1 ≤ max n m
  some_sets n m e = let some : 1 ≤ n = grind (arith, nat_tests) in omega (arith, some)

  pub answers_leave : (old new : Desk) → Backed new → SignsOrNot (Awaits role chooser signing partner.entries number) Backed number old new → Leaves IsDrafted (at old) (at new)
  answers_leave old new good (inl left) = leaves_same IsDrafted (at old) (at new) (stand_untouched number role old new partner left)
  answers_leave old new good (inr s) =
      let may = awaits_sign role number (course_so_far number new.entries) partner s.before.entries s.good s.when in
      let some : 1 ≤ (at s.before).sets = some_sets (sets_in number s.before.entries) (sets_in number partner.entries) may.1 in
      by_sign (Awaits role chooser signing partner.entries number) old new s may.0 good
      (inl (subst (λ (x : Stand). 1 ≤ x.sets) (stand_untouched number role old s.before partner s.first) some))

  pub drafts_leave : (old new : Desk) → Backed new → SignsOrNot (IsNewIn role chooser signing partner.entries number) Backed number old new → Leaves IsDrafted (at old) (at new)
  drafts_leave old new good (inl left) = leaves_same IsDrafted (at old) (at new) (stand_untouched number role old new partner left)
  drafts_leave old new good (inr s) =
      let f = first_sign role number (course_so_far number new.entries) partner s.before.entries s.text s.acceptance s.own s.when.0 s.good s.behind in
      by_sign (IsNewIn role chooser signing partner.entries number) old new s f.may good (inr s.when.1)

-- ---- the turn

-- What a turn leaves of a delivery, seen from the other end, whose turn comes.
pub record TurnLeaves (Drafted : Type 0) (goes : Bool) (a b : Stand) : Type 0 where
  pub less : still_left longest b + as_number goes ≤ still_left longest a
  pub partner : b.partner.times ≤ 2
  pub own : b.own.times ≡ a.partner.times
  pub known : 1 ≤ b.sets → (1 ≤ a.sets) ⊎ Drafted
  pub spoken : goes ≡ true → 1 ≤ b.sets

spoken_leaves : (Drafted : Type 0) (goes : Bool) (a b : Stand) → Leaves Drafted a b → a.own.times ≤ 2 → b.partner.times ≤ 2 → (goes ≡ true → b.own.times ≤ 1) → (goes ≡ true → 1 ≤ b.sets) → TurnLeaves Drafted goes a (flips (speaks goes b))
spoken_leaves Drafted true a b l low other once some =
    let less = l.less in
    let may = once refl in
    record { less = omega (arith, less, may, other); partner = omega (arith, may); own = l.partner; known = l.known; spoken = some }
spoken_leaves Drafted false a b l low other once some =
    let less = l.less in
    record { less = omega (arith, less); partner = l.own low; own = l.partner; known = l.known; spoken = λ e. absurd (cc) }

module _ (header : Header) (chooser : Chooser) (signing : SignsSets header.role chooser) (old partner new : Desk) (sets : List DueSet) (text load : List ℕ)
    (between : IsBetweenTurns header.role old partner sets text) (t : Turned header chooser old text new load) (number : List ℕ) where
  abbrev stand_with : Desk → Stand
  stand_with desk = stand_of number header.role desk partner

  abbrev Drafts : Type 0
  Drafts = IsDrafted header.role chooser signing number partner

  abbrev goes : Bool
  goes = is_among number (gathered header t.proposed)

  prepared_leaves : Leaves Drafts (stand_with old) (stand_with t.proposed)
  prepared_leaves =
      let taken = taken_good header chooser signing old partner new sets text load between t in
      let answered = answered_good header chooser signing old partner new sets text load between t in
      let proposed = proposed_good header chooser signing old partner new sets text load between t in
      let course = course_so_far number old.entries in
      let heard = taken_all header.role course number old t.takes.0 partner sets between.lists (fits_so_far number old.entries) between.heard.last (heard_turn header chooser signing old partner new sets text load between t) in
      let at_taken : stand_with t.taken ≡ hears course (is_among number sets) (stand_with old) =
      ap stand_with t.takes.2 ∙ stand_untouched number header.role t.takes.0 (with_fault t.takes.0 (lent text).fault) partner (fault_left header.role number (lent text).fault t.takes.0) ∙ heard.stand in
      let a = answered_all header.role chooser signing partner.entries number t.taken t.answered taken t.answers in
      let p = proposed_all header.role chooser signing partner.entries number chooser.drafts t.answered t.proposed answered t.proposes in
      leaves_then Drafts (stand_with old) (stand_with t.taken) (stand_with t.proposed)
      (subst (Leaves Drafts (stand_with old)) (sym at_taken) (leaves_heard Drafts course (is_among number sets) (stand_with old)))
      (leaves_then Drafts (stand_with t.taken) (stand_with t.answered) (stand_with t.proposed)
      (answers_leave header.role chooser signing number partner t.taken t.answered answered a.made)
      (drafts_leave header.role chooser signing number partner t.answered t.proposed proposed p.made))

  left_some : (a b : ℕ) → 1 ≤ a → 1 ≤ max a b
  left_some a b some = omega (arith, some)

  gathered_some : goes ≡ true → 1 ≤ (stand_with t.proposed).sets
  gathered_some there =
      let d = gathered_due header t.proposed number there in
      let y = last_deed number t.proposed.entries d.0 d.1.last in
      left_some (sets_in number t.proposed.entries) (sets_in number partner.entries) (some_in (of_delivery number (deeds_of t.proposed.entries)) y.deed y.among)

  pub gathered_once : goes ≡ true → (stand_with t.proposed).own.times ≤ 1
  gathered_once there =
      let d = gathered_due header t.proposed number there in
      may_is (told_in number t.proposed) (both_true (is_asked_for t.proposed.entries (asked_of number t.proposed.asked)) (may_speak (told_in number t.proposed)) d.1.due).1

  -- what the turn leaves of a delivery that neither end has spoken of more than twice
  pub turn_leaves : (stand_with old).own.times ≤ 2 → (stand_with old).partner.times ≤ 2 → TurnLeaves Drafts goes (stand_with old) (stand_of number (other_role header.role) partner new)
  turn_leaves low other =
      subst (TurnLeaves Drafts goes (stand_with old))
      (sym (ap (λ (d : Desk). stand_of number (other_role header.role) partner d) t.speaks ∙ spoken_stand number header.role t.proposed partner (gathered header t.proposed) (gathered_last header t.proposed)))
      (spoken_leaves Drafts goes (stand_with old) (stand_with t.proposed) prepared_leaves low (subst (λ (n : ℕ). n ≤ 2) (sym prepared_leaves.partner) other) gathered_once gathered_some)
