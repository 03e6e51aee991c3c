-- The entry that an own turn adds next: where there is no room for it, the turn goes no further.
use Rattle.std.specs.Prelude.{◌≡◌, ◌⊎◌, ℕ, List, [], ◌∷◌, ◌++◌}
use Rattle.dsd_values.specs.declared.role.Role.{Role}
use Rattle.dsd_record.specs.Choices.{Chooser}
use Rattle.dsd_journal.specs.declared.entry.Entry.{Entry}
use Rattle.own_turn.specs.OwnTurn.{Answers, AnswersEach, Desk, Proposes, Takes, TakesSet, awaiting, sets_lent}

-- The step adds this entry behind these.
pub record AddsNext (Step : Desk → Desk → Type 0) (old : Desk) (entries : List Entry) (entry : Entry) : Type 0 where
  pub new : Desk
  pub step : Step old new
  pub behind : old.entries ≡ entries
  pub added : new.entries ≡ entries ++ entry ∷ []

-- one of these steps adds it, behind those before it
abbrev pub AddsInTurn : {A : Type 0} → (A → Desk → Desk → Type 0) → List A → Desk → List Entry → Entry → Type 0
AddsInTurn Step [] old entries entry = ⊥
AddsInTurn Step (item ∷ items) old entries entry = AddsNext (Step item) old entries entry ⊎ ((next : Desk) × Step item old next × AddsInTurn Step items next entries entry)

-- a set that the text lends is taken
abbrev pub TakesNext : Role → List ℕ → Desk → List Entry → Entry → Type 0
TakesNext role text old entries entry = AddsInTurn (TakesSet role) (sets_lent text) old entries entry

-- a delivery is answered
abbrev pub AnswersNext : Role → Chooser → Desk → List Entry → Entry → Type 0
AnswersNext role chooser taken entries entry = AddsInTurn (Answers role chooser) (awaiting taken.entries) taken entries entry

-- a draft is proposed
abbrev pub ProposesNext : Role → Chooser → Desk → List Entry → Entry → Type 0
ProposesNext role chooser answered entries entry = AddsInTurn (Proposes role chooser) chooser.drafts answered entries entry

-- behind these entries an own turn adds this one
pub data TurnAddsNext (role : Role) (chooser : Chooser) (text : List ℕ) (old : Desk) (entries : List Entry) (entry : Entry) : Type 0 where
  Taking : TakesNext role text old entries entry → TurnAddsNext role chooser text old entries entry
  Answering : (taken : Desk) → Takes role text old taken → AnswersNext role chooser taken entries entry → TurnAddsNext role chooser text old entries entry
  Proposing : (taken answered : Desk) → Takes role text old taken → AnswersEach role chooser taken answered → ProposesNext role chooser answered entries entry → TurnAddsNext role chooser text old entries entry
