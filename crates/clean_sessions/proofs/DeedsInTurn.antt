-- The deeds of one delivery in a legal list.
use Rattle.std.proofs.Common.{◌≡◌, ◌≤◌, ◌+◌, ℕ, Bool, true, false, not, nat_lt, if◌then◌else◌, List, [], ◌∷◌, ◌++◌, Option, Some, None, refl, sym, ap, subst, ◌∙◌, inl, inr, append_assoc, append-nil, arith}
use Rattle.std.specs.Str.{bytes_eq}
use Rattle.std.specs.List.{filter}
use Rattle.std.proofs.lemmas.Slice.Eq.{bytes_eq-Decides}
use Rattle.std.proofs.lemmas.Bool.{cases_Bool}
use Rattle.std.proofs.lemmas.Bool.Decides.{nat_tests}
use Rattle.dsd_values.specs.declared.role.Role.{Role}
use Rattle.dsd_values.specs.declared.role.Role.TheVariants.{Receiver, Supplier}
use Rattle.adjustment_895.specs.Grammar.{has_none}
use Rattle.dsd_record.specs.declared.set_view.SetView.{SetView}
use Rattle.dsd_record.specs.declared.set_view.SetView.TheVariants as sets
use Rattle.dsd_record.proofs.ReadOnce.{set_in_is}
use Rattle.dsd_journal.specs.declared.entry.Entry.{Entry}
use Rattle.dsd_journal.specs.declared.entry.EntryKind.{EntryKind}
use Rattle.dsd_journal.specs.declared.entry.EntryKind.TheVariants.{Signed, Took}
use Rattle.delivery_book.specs.Deeds.{Deed, deeds_of, first_of, level_in, number_in, of_delivery, other_kind, proposes, signer}
use Rattle.delivery_book.specs.Signing.{Allows, AllowsSet, Legal, LegalFrom}
use Rattle.delivery_book.specs.Standing.{higher, highest}
use Rattle.delivery_book.proofs.Grown.{of_other, of_own}
use Rattle.delivery_book.proofs.Listed.{deeds_more}
use Rattle.clean_sessions.specs.DeedShapes.{AreInTurn, first_kind, place_of}
use Rattle.clean_sessions.proofs.BoolTests.{never_both}

-- ---- a list with proposals alone

abbrev AllPropose : List Deed → Type 0
AllPropose [] = Unit {0}
AllPropose (deed ∷ deeds) = (proposes deed.set ≡ true) × AllPropose deeds

none_in : (t : Bool) (deed : Deed) (deeds : List Deed) → first_of (if not t then deed ∷ deeds else deeds) ≡ None → (t ≡ true) × (first_of deeds ≡ None)
none_in true deed deeds e = (refl, e)
none_in false deed deeds e = absurd (cc)

-- no acceptance stands
all_propose : (deeds : List Deed) → first_of (filter (λ (d : Deed). not (proposes d.set)) deeds) ≡ None → AllPropose deeds
all_propose [] e = tt
all_propose (deed ∷ deeds) e =
    let here = none_in (proposes deed.set) deed (filter (λ (d : Deed). not (proposes d.set)) deeds) e in
    (here.0, all_propose deeds here.1)

proposals_all : (deeds : List Deed) → AllPropose deeds → filter (λ (d : Deed). proposes d.set) deeds ≡ deeds
proposals_all [] all = refl
proposals_all (deed ∷ deeds) all =
    ap (λ (t : Bool). if t then deed ∷ filter (λ (d : Deed). proposes d.set) deeds else filter (λ (d : Deed). proposes d.set) deeds) all.0
    ∙ ap (λ (l : List Deed). deed ∷ l) (proposals_all deeds all.1)

level_is : (deed : Deed) → proposes deed.set ≡ true → place_of deed ≡ level_in deed.set
level_is deed e = ap (λ (t : Bool). if t then level_in deed.set else level_in deed.set + 1) e

-- ---- the highest of them is the last

some_is : (a b : Deed) → (let r : Option Deed = Some a in r) ≡ Some b → a ≡ b
some_is a b e = cc

higher_of : (deed later : Deed) → level_in deed.set ≤ level_in later.set → higher deed (Some later) ≡ later
higher_of deed later le =
    ap (λ (t : Bool). if t then deed else later) (not_below (level_in later.set) (level_in deed.set) le)
  where
    not_below : (a b : ℕ) → b ≤ a → nat_lt a b ≡ false
    not_below a b le = grind (arith, nat_tests)

-- what is behind a front has a highest of at least this level, at the end of it
record Top (n : ℕ) (deeds : List Deed) : Type 0 where
  top : Deed
  is : highest deeds ≡ Some top
  least : n ≤ level_in top.set
  proposal : proposes top.set ≡ true

top_of : (kind : EntryKind) (n : ℕ) (deed : Deed) (deeds : List Deed) → AreInTurn kind n (deed ∷ deeds) → AllPropose (deed ∷ deeds) → Top n (deed ∷ deeds)
top_of kind n deed [] turns all =
    let same : level_in deed.set ≡ n = sym (level_is deed all.0) ∙ turns.1 in
    record { top = deed; is = refl; least = omega (arith, same); proposal = all.0 }
top_of kind n deed (next ∷ deeds) turns all =
    let t = top_of (other_kind kind) (n + 1) next deeds turns.2 all.1 in
    let same : level_in deed.set ≡ n = sym (level_is deed all.0) ∙ turns.1 in
    let least = t.least in
    record {
      top = t.top;
      is = ap (λ (o : Option Deed). let r : Option Deed = Some (higher deed o) in r) t.is ∙ ap (λ (d : Deed). let r : Option Deed = Some d in r) (higher_of deed t.top (omega (arith, same, least)));
      least = omega (arith, least);
      proposal = t.proposal;
    }

-- one more behind the highest
turn_more : (kind : EntryKind) (n : ℕ) (deed : Deed) (deeds : List Deed) (top new : Deed) → AreInTurn kind n (deed ∷ deeds) → AllPropose (deed ∷ deeds) → highest (deed ∷ deeds) ≡ Some top
    → new.kind ≡ other_kind top.kind → place_of new ≡ level_in top.set + 1 → AreInTurn kind n ((deed ∷ deeds) ++ new ∷ [])
turn_more kind n deed [] top new turns all is other place =
    let same : deed ≡ top = some_is deed top is in
    let level : level_in deed.set ≡ n = sym (level_is deed all.0) ∙ turns.1 in
    let its : level_in deed.set ≡ level_in top.set = ap (λ (d : Deed). level_in d.set) same in
    (turns.0, turns.1, (other ∙ ap (λ (d : Deed). other_kind d.kind) (sym same) ∙ ap other_kind turns.0, omega (arith, place, level, its), tt))
turn_more kind n deed (next ∷ deeds) top new turns all is other place =
    let t = top_of (other_kind kind) (n + 1) next deeds turns.2 all.1 in
    let level : level_in deed.set ≡ n = sym (level_is deed all.0) ∙ turns.1 in
    let least = t.least in
    let whole : highest (deed ∷ next ∷ deeds) ≡ Some t.top = ap (λ (o : Option Deed). let r : Option Deed = Some (higher deed o) in r) t.is ∙ ap (λ (d : Deed). let r : Option Deed = Some d in r) (higher_of deed t.top (omega (arith, level, least))) in
    let same : t.top ≡ top = some_is t.top top (sym whole ∙ is) in
    (turns.0, turns.1, turn_more (other_kind kind) (n + 1) next deeds top new turns.2 all.1 (t.is ∙ ap (λ (d : Deed). let r : Option Deed = Some d in r) same) other place)

-- ---- one entry more

first_is : (role : Role) (kind : EntryKind) → signer role kind ≡ Supplier → kind ≡ first_kind role
first_is Supplier Signed e = refl
first_is Supplier Took e = absurd (cc)
first_is Receiver Signed e = absurd (cc)
first_is Receiver Took e = refl

flip_kind : (a b : EntryKind) → a ≡ other_kind b → b ≡ other_kind a
flip_kind a Signed e = sym (ap other_kind e)
flip_kind a Took e = sym (ap other_kind e)

next_place : (none : Bool) (own level : ℕ) → own ≡ (if none then level else level + 1) → (if not none then own else own + 1) ≡ level + 1
next_place true own level e = ap (λ (n : ℕ). n + 1) e
next_place false own level e = e

behind_top : (kind : EntryKind) (deeds : List Deed) (top new : Deed) → AreInTurn kind 0 deeds → AllPropose deeds → highest deeds ≡ Some top
    → new.kind ≡ other_kind top.kind → place_of new ≡ level_in top.set + 1 → AreInTurn kind 0 (deeds ++ new ∷ [])
behind_top kind [] top new turns all is other place = absurd (cc)
behind_top kind (deed ∷ deeds) top new turns all is other place = turn_more kind 0 deed deeds top new turns all is other place

alone : (kind : EntryKind) (deeds : List Deed) (new : Deed) → deeds ≡ [] → new.kind ≡ kind → place_of new ≡ 0 → AreInTurn kind 0 (deeds ++ new ∷ [])
alone kind deeds new none same place = subst (λ (l : List Deed). AreInTurn kind 0 (l ++ new ∷ [])) (sym none) (same, place, tt)

base_more : (role : Role) (deeds : List Deed) (kind : EntryKind) (text : List ℕ) (set : SetView) → signer role kind ≡ Supplier → of_delivery (number_in set) deeds ≡ []
    → proposes set ≡ true → level_in set ≡ 0 → AreInTurn (first_kind role) 0 (of_delivery (number_in set) deeds ++ record { kind = kind; text = text; set = set } ∷ [])
base_more role deeds kind text set side new proposal zero =
    let deed : Deed = record { kind = kind; text = text; set = set } in
    alone (first_kind role) (of_delivery (number_in set) deeds) deed new (first_is role kind side) (level_is deed proposal ∙ zero)

more_of : (role : Role) (deeds : List Deed) (kind : EntryKind) (text : List ℕ) (set : SetView) → AreInTurn (first_kind role) 0 (of_delivery (number_in set) deeds)
    → AllowsSet role deeds kind set → AreInTurn (first_kind role) 0 (of_delivery (number_in set) deeds ++ record { kind = kind; text = text; set = set } ∷ [])
more_of role deeds kind text (sets.Base base seal) turns allowed = base_more role deeds kind text (sets.Base base seal) allowed.side allowed.new refl refl
more_of role deeds kind text (sets.Answer answer seal) turns allowed =
    let all = all_propose (of_delivery answer.number deeds) allowed.standing in
    let is : highest (of_delivery answer.number deeds) ≡ Some allowed.highest = ap highest (sym (proposals_all (of_delivery answer.number deeds) all)) ∙ allowed.is_highest in
    behind_top (first_kind role) (of_delivery answer.number deeds) allowed.highest (record { kind = kind; text = text; set = sets.Answer answer seal }) turns all is
    (flip_kind allowed.highest.kind kind allowed.turn) (next_place (has_none answer.lines) answer.level (level_in allowed.highest.set) allowed.named.level)

one_more : (role : Role) (before : List Entry) (entry : Entry) (number : List ℕ) → AreInTurn (first_kind role) 0 (of_delivery number (deeds_of before)) → Allows role before entry
    → AreInTurn (first_kind role) 0 (of_delivery number (deeds_of (before ++ entry ∷ [])))
one_more role before entry number turns a =
    let deed : Deed = record { kind = entry.kind; text = entry.payload; set = a.set } in
    subst (λ (l : List Deed). AreInTurn (first_kind role) 0 (of_delivery number l)) (sym (deeds_more before entry a.set (set_in_is entry.payload a.set a.is_set)))
    (elim (cases_Bool (bytes_eq (number_in a.set) number)) [
      | inl same ↦
          let equal : number_in a.set ≡ number = (bytes_eq-Decides (number_in a.set) number).0 same in
          subst (λ (n : List ℕ). AreInTurn (first_kind role) 0 (of_delivery n (deeds_of before ++ deed ∷ []))) equal
          (subst (AreInTurn (first_kind role) 0) (sym (of_own (number_in a.set) (deeds_of before) deed refl))
          (more_of role (deeds_of before) entry.kind entry.payload a.set (subst (λ (n : List ℕ). AreInTurn (first_kind role) 0 (of_delivery n (deeds_of before))) (sym equal) turns) a.allowed))
      | inr differs ↦
          subst (AreInTurn (first_kind role) 0) (sym (of_other number (deeds_of before) deed (λ same. never_both _ ((bytes_eq-Decides (number_in a.set) number).1 same) differs))) turns
    ])

turns_from : (role : Role) (before entries : List Entry) (number : List ℕ) → AreInTurn (first_kind role) 0 (of_delivery number (deeds_of before)) → LegalFrom role before entries
    → AreInTurn (first_kind role) 0 (of_delivery number (deeds_of (before ++ entries)))
turns_from role before [] number turns legal = subst (λ (l : List Entry). AreInTurn (first_kind role) 0 (of_delivery number (deeds_of l))) (sym (append-nil before)) turns
turns_from role before (entry ∷ entries) number turns legal =
    subst (λ (l : List Entry). AreInTurn (first_kind role) 0 (of_delivery number (deeds_of l))) (append_assoc before (entry ∷ []) entries)
    (turns_from role (before ++ entry ∷ []) entries number (one_more role before entry number turns legal.0) legal.1)

pub legal_turns : (role : Role) (entries : List Entry) (number : List ℕ) → Legal role entries → AreInTurn (first_kind role) 0 (of_delivery number (deeds_of entries))
legal_turns role entries number legal = turns_from role [] entries number tt legal
