-- An own turn is a turn of the course of each delivery.
use Rattle.std.proofs.Common.{◌≡◌, ◌≤◌, ◌+◌, ℕ, Bool, true, false, not, ◌&&◌, ◌||◌, List, [], ◌∷◌, Option, Some, None, refl, sym, ap, subst, ◌∙◌}
use Rattle.std.specs.Prelude.{if◌then◌else◌}
use Rattle.dsd_values.specs.declared.role.Role.{Role}
use Rattle.dsd_record.specs.Choices.{Chooser}
use Rattle.dxs_envelope.specs.declared.fault.EnvelopeFault.{EnvelopeFault}
use Rattle.dsd_journal.specs.declared.entry.Entry.{Entry}
use Rattle.dsd_journal.specs.declared.header.Header.{Header}
use Rattle.delivery_book.specs.Deeds.{other_role}
use Rattle.own_turn.specs.DueSets.{DueSet, reached, texts_of}
use Rattle.own_turn.specs.OwnTurn.{Answers, Desk, InTurn, Proposes, TakesSet, Turned, awaiting, gathered, lent, next_turn, with_fault}
use Rattle.own_turn.proofs.TurnsGrowing.{spoken_entries}
use Rattle.clean_sessions.specs.CourseTurns.{NothingDue}
use Rattle.clean_sessions.specs.Courses.{Course, Stand, TakesTurn, flips, hears, is_complete, is_due, meets, prepares, speaks}
use Rattle.clean_sessions.specs.DeliveryStands.{AreBacked, AreLast, FollowsCourse, IsBetweenTurns, IsFront, SignsSets, is_among, is_open, may_propose, stand_of}
use Rattle.clean_sessions.proofs.DueStands.{backed_turned, due_there}
use Rattle.clean_sessions.proofs.GatheredSets.{gathered_due, gathered_last}
use Rattle.clean_sessions.proofs.HearingTurns.{last_text}
use Rattle.clean_sessions.proofs.KeyedSteps.{turn_of_map}
use Rattle.clean_sessions.proofs.LoadsCounted.{load_lent}
use Rattle.clean_sessions.proofs.NothingDueStands.{not_due}
use Rattle.clean_sessions.proofs.PreparedTurns.{prepared_so}
use Rattle.clean_sessions.proofs.SigningTurns.{answer_good, answered_all, draft_good, proposed_all}
use Rattle.clean_sessions.proofs.SpokenStands.{spoken_stand}
use Rattle.clean_sessions.proofs.TakingApart.{fault_left}
use Rattle.clean_sessions.proofs.TakingTurns.{keeps_backed, stand_untouched, taken_all}

-- ---- the lists

-- what each step keeps all of them keep
pub each_keeps : {A : Type 0} (Step : A → Desk → Desk → Type 0) (Good : Desk → Type 0) (items : List A) (old new : Desk) → ((item : A) (a b : Desk) → Good a → Step item a b → Good b) → Good old → InTurn Step items old new → Good new
each_keeps Step Good [] old new keep good e = subst Good (sym e) good
each_keeps Step Good (item ∷ items) old new keep good (next, step, more) = each_keeps Step Good items next new keep (keep item old next good step) more

pub hears_sets : (course : Course) (b : Bool) (s : Stand) → (hears course b s).sets ≡ s.sets
hears_sets course false s = refl
hears_sets course true s = by (s.last_own || s.heard) (not s.last_own && is_complete course s)
  where
    by : (known done : Bool) → (if known then (if done then s else meets s) else record s { heard = true }).sets ≡ s.sets
    by true true = refl
    by true false = refl
    by false done = refl

module _ (header : Header) (chooser : Chooser) (signing : SignsSets header.role chooser) (old partner new : Desk) (sets : List DueSet) (text load : List ℕ)
    (between : IsBetweenTurns header.role old partner sets text) (t : Turned header chooser old text new load) where
  abbrev role : Role
  role = header.role

  abbrev Good : Desk → Type 0
  Good desk = AreBacked role desk.entries partner.entries

  -- the sets that were heard, one after the other
  pub heard_turn : InTurn (TakesSet role) (texts_of sets) old t.takes.0
  heard_turn = subst (λ (l : List (List ℕ)). InTurn (TakesSet role) l old t.takes.0) between.heard.lends t.takes.1

  fault_entries : (desk : Desk) (fault : Option EnvelopeFault) → (with_fault desk fault).entries ≡ desk.entries
  fault_entries desk None = refl
  fault_entries desk (Some fault) = refl

  behind_good : Good t.takes.0 → Good t.taken
  behind_good good = subst (λ (l : List Entry). AreBacked role l partner.entries) (sym (ap (λ (d : Desk). d.entries) t.takes.2 ∙ fault_entries t.takes.0 (lent text).fault)) good

  heard_good : (items : List DueSet) (one two : Desk) → AreLast partner.entries items → Good one → InTurn (λ (set : DueSet). TakesSet role set.text) items one two → Good two
  heard_good [] one two last good e = subst Good (sym e) good
  heard_good (set ∷ more) one two last good (next, step, rest) =
      heard_good more next two last.2 (keeps_backed role partner.entries set.text one next (last_text set.number partner.entries set.text last.0) good step) rest

  pub taken_good : Good t.taken
  taken_good = behind_good (heard_good sets old t.takes.0 between.heard.last between.lists (turn_of_map (λ (set : DueSet). set.text) (TakesSet role) sets old t.takes.0 heard_turn))

  pub answered_good : Good t.answered
  answered_good = each_keeps (Answers role chooser) Good (awaiting t.taken.entries) t.taken t.answered (answer_good role chooser signing partner.entries []) taken_good t.answers

  pub proposed_good : Good t.proposed
  proposed_good = each_keeps (Proposes role chooser) Good chooser.drafts t.answered t.proposed (draft_good role chooser signing partner.entries []) answered_good t.proposes

  pub new_entries : new.entries ≡ t.proposed.entries
  new_entries = ap (λ (d : Desk). d.entries) t.speaks ∙ spoken_entries t.proposed (gathered header t.proposed)

  pub between_next : IsBetweenTurns (other_role role) partner new (gathered header t.proposed) load
  between_next =
      let lends = load_lent header (next_turn t.proposed) (gathered header t.proposed) load t.loads in
      record {
        lists = backed_turned role new.entries partner.entries (subst (λ (l : List Entry). AreBacked role l partner.entries) (sym new_entries) proposed_good);
        heard = record { lends = lends.0; last = subst (λ (l : List Entry). AreLast l (gathered header t.proposed)) (sym new_entries) (gathered_last header t.proposed) };
      }

  -- ---- one delivery

  module _ (course : Course) (number : List ℕ) (f : FollowsCourse course number role old partner new sets) where
    abbrev at : Desk → Stand
    at desk = stand_of number role desk partner

    abbrev sent : Bool
    sent = is_among number sets

    abbrev goes : Bool
    goes = is_among number (gathered header t.proposed)

    taken_at : at t.taken ≡ hears course sent (at old)
    taken_at =
        let heard = taken_all role course number old t.takes.0 partner sets between.lists f.before between.heard.last heard_turn in
        ap at t.takes.2 ∙ stand_untouched number role t.takes.0 (with_fault t.takes.0 (lent text).fault) partner (fault_left role number (lent text).fault t.takes.0) ∙ heard.stand

    new_at : stand_of number (other_role role) partner new ≡ flips (speaks goes (at t.proposed))
    new_at = ap (λ (d : Desk). stand_of number (other_role role) partner d) t.speaks ∙ spoken_stand number role t.proposed partner (gathered header t.proposed) (gathered_last header t.proposed)

    same_sets : (b : Bool) (s : Stand) → (flips (speaks b s)).sets ≡ s.sets
    same_sets true s = refl
    same_sets false s = refl

    proposed_front : IsFront course number t.proposed.entries
    proposed_front = subst (IsFront course number) new_entries f.behind

    opened : is_open course role (at t.taken) ≡ true → (at t.proposed).sets ≡ (at t.taken).sets + 1
    opened open_it =
        let more = f.goes_on (ap (is_open course role) (sym taken_at) ∙ open_it) in
        sym (ap (λ (s : Stand). s.sets) new_at ∙ same_sets goes (at t.proposed)) ∙ more
        ∙ ap (λ (n : ℕ). n + 1) (sym (ap (λ (s : Stand). s.sets) taken_at ∙ hears_sets course sent (at old)))

    pub proposed_at : at t.proposed ≡ prepares course (may_propose role) sent (at old)
    proposed_at =
        let a = answered_all role chooser signing partner.entries number t.taken t.answered taken_good t.answers in
        let p = proposed_all role chooser signing partner.entries number chooser.drafts t.answered t.proposed answered_good t.proposes in
        prepared_so role chooser signing number course partner t.taken t.answered t.proposed a.made p.made proposed_front opened
        ∙ ap (λ (s : Stand). prepares course (may_propose role) false s) taken_at

    goes_due : goes ≡ true → is_due course (prepares course (may_propose role) sent (at old)) ≡ true
    goes_due there =
        let d = gathered_due header t.proposed number there in
        sym (ap (is_due course) proposed_at) ∙ due_there role number course t.proposed partner proposed_good proposed_front f.others d.0 d.1.last d.1.due

    pub turn_taken : TakesTurn course (may_propose role) sent goes (at old) (stand_of number (other_role role) partner new)
    turn_taken = record { due = goes_due; next = new_at ∙ ap (λ (s : Stand). flips (speaks goes s)) proposed_at }

    -- where nothing is due, none of this delivery is
    pub silent_turn : NothingDue t.proposed → 1 ≤ (prepares course (may_propose role) sent (at old)).sets → (goes ≡ false) × (is_due course (prepares course (may_propose role) sent (at old)) ≡ false)
    silent_turn none some = (
      ap (λ (due : List DueSet). is_among number (reached header (next_turn t.proposed) [] due)) none,
      sym (ap (is_due course) proposed_at)
          ∙ not_due role number course t.proposed partner proposed_good proposed_front f.others none (subst (λ (s : Stand). 1 ≤ s.sets) (sym proposed_at) some),
    )
