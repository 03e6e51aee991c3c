-- Steps on one delivery after another, as loops make them.
use Rattle.std.proofs.Common.{◌≡◌, ℕ, zero, suc, ◌+◌, ◌<◌, true, List, [], ◌∷◌, length, drop, get_or, slice_get, Some, Result, Ok, Err, refl, sym, ◌∙◌, ap, subst, inl, inr, arith}
use Rattle.std.specs.Prelude.{Contains}
use Rattle.std.proofs.lemmas.List.Elements.{Contains-append_left, Contains-append_right, Contains-push}
use Rattle.dsd_values.specs.SignatureRecord.{SignatureRecord}
use Rattle.dsd_values.specs.declared.role.Role.{Role}
use Rattle.base_record_894.specs.BaseRecord.{BaseRecord}
use Rattle.dsd_record.specs.Choices.{Chooser}
use Rattle.dsd_record.specs.Version.{Version}
use Rattle.dsd_record.specs.declared.choice.Choice.{Choice}
use Rattle.dsd_journal.specs.declared.adding_fault.StageFault.{StageFault}
use Rattle.dsd_journal.specs.declared.adding_fault.StageFault.TheVariants as stages
use Rattle.delivery_book.specs.Lookups.{awaits_us, own_amount}
use Rattle.own_turn.specs.Choosing.{AnswersBy, accepts}
use Rattle.own_turn.specs.Desks.{DeskView, desk_of}
use Rattle.own_turn.specs.NextEntry.{AddsInTurn, AddsNext}
use Rattle.own_turn.specs.OwnTurn.{Answers, Desk, InTurn, Proposes, with_signature}
use Rattle.own_turn.specs.Staging.{IsChoice, KeepsJournal, ProposesDraft, SignsChoice, StagesTo}
use Rattle.dsd_journal.specs.declared.header.Header.{Header}
use Rattle.own_turn.proofs.Composing.{Leads, leads_full, leads_on}

-- ---- lists that a loop goes over

pub next_of_drop : {X : Type 0} (xs : List X) (i : ℕ) (x : X) → slice_get xs i ≡ Some x → drop i xs ≡ x ∷ drop (i + 1) xs
next_of_drop [] i x e = cc
next_of_drop (y ∷ xs) zero x e = ap (λ z. z ∷ xs) (some_same y x e)
  where
    some_same : {X : Type 0} (a b : X) → Some a ≡ Some b → a ≡ b
    some_same a b h = cc
next_of_drop (y ∷ xs) (suc i) x e = let same : suc (i + 1) ≡ suc i + 1 = omega arith in next_of_drop xs i x e ∙ ap (λ (n : ℕ). x ∷ drop n (y ∷ xs)) same

pub next_of_get : {X : Type 0} (xs : List X) (i : ℕ) (x : X) → i < length xs → x ≡ get_or xs i x → drop i xs ≡ x ∷ drop (i + 1) xs
next_of_get [] i x within e = absurd (omega (arith, within))
next_of_get (y ∷ xs) zero x within e = ap (λ z. z ∷ xs) (sym e)
next_of_get (y ∷ xs) (suc i) x within e = let same : suc (i + 1) ≡ suc i + 1 = omega arith in next_of_get xs i x (omega (arith, within)) e ∙ ap (λ (n : ℕ). x ∷ drop n (y ∷ xs)) same

pub there_at : {X : Type 0} (xs : List X) (i : ℕ) → i < length xs → (x : X) × (slice_get xs i ≡ Some x)
there_at [] i within = absurd (omega (arith, within))
there_at (x ∷ xs) zero within = (x, refl)
there_at (x ∷ xs) (suc i) within = there_at xs i (omega (arith, within))

-- a draft at a place is among them
pub among_at : {X : Type 0} (xs : List X) (i : ℕ) (x : X) → slice_get xs i ≡ Some x → Contains xs x
among_at [] i x e = cc
among_at (y ∷ xs) zero x e = subst (λ z. Contains (z ∷ xs) x) (sym (first_same y x e)) (Contains-append_left (x ∷ []) xs x (Contains-push [] x))
  where
    first_same : {X : Type 0} (a b : X) → Some a ≡ Some b → a ≡ b
    first_same a b h = cc
among_at (y ∷ xs) (suc i) x e = Contains-append_right (y ∷ []) xs x (among_at xs i x e)

-- ---- a step that there is no room for

pub steps_stop : {A : Type 0} (Step : A → Desk → Desk → Type 0) (items : List A) (item : A) (rest : List A) (first now next : DeskView) (fault : StageFault) → Leads Step items (item ∷ rest) (desk_of first) (desk_of now)
    → (let r : Result (Unit {0}) StageFault = Err fault in StagesTo r (Step item) (AddsNext (Step item)) now next) → (let r : Result (Unit {0}) StageFault = Err fault in StagesTo r (InTurn Step items) (AddsInTurn Step items) first next)
steps_stop Step items item rest first now next stages.Memory leads told = tt
steps_stop Step items item rest first now next (stages.Full n) leads told = leads_full Step items item rest (desk_of first) (desk_of now) next.book.known n leads told

-- a step may be said otherwise
pub step_as : (One Other : Desk → Desk → Type 0) (result : Result (Unit {0}) StageFault) (old new : DeskView) → ((desk : Desk) → One (desk_of old) desk → Other (desk_of old) desk) → StagesTo result One (AddsNext One) old new → StagesTo result Other (AddsNext Other) old new
step_as One Other (Ok done) old new as_other told = as_other (desk_of new) told
step_as One Other (Err (stages.Full n)) old new as_other told = record { entry = told.entry; next = record { new = told.next.new; step = as_other told.next.new told.next.step; behind = told.next.behind; added = told.next.added }; size = told.size; long = told.long }
step_as One Other (Err stages.Memory) old new as_other told = tt

-- ---- an answer, and a draft

module _ (role : Role) (chooser : Chooser) where
  -- what a choice asks for is the answer of the delivery
  choice_answers : (number : List ℕ) (choice : Choice) (signature : SignatureRecord) (old new : Desk) → awaits_us old.entries number ≡ true → IsChoice chooser old.entries number choice → chooser.signature number ≡ Some signature
      → SignsChoice role choice number signature old new → Answers role chooser number old new
  choice_answers number choice signature old new awaits is signs (inl (text, made, legal, e)) = inl (
    text,
    record {
      chosen = record {
        awaits = awaits;
        version = is.version;
        seen = is.seen;
        signature = signature;
        signs = signs;
        answers = subst (λ (c : Choice). AnswersBy c role old.entries number signature text) is.chosen made;
      };
      legal = legal;
    },
    e ∙ ap (λ (c : Choice). with_signature old number (accepts c) text) is.chosen,
  )
  choice_answers number choice signature old new awaits is signs (inr (none, e)) = inr (
    λ text may.
        let version : may.chosen.version ≡ is.version = same_version _ _ (sym may.chosen.seen ∙ is.seen) in
        let by : may.chosen.signature ≡ signature = same_signature _ _ (sym may.chosen.signs ∙ signs) in
        let choice_is : chooser.choice may.chosen.version (own_amount old.entries number) ≡ choice = ap (λ (v : Version). chooser.choice v (own_amount old.entries number)) version ∙ sym is.chosen in
        none text
        (subst (λ (c : Choice). AnswersBy c role old.entries number signature text) choice_is
        (subst (λ (s : SignatureRecord). AnswersBy (chooser.choice may.chosen.version (own_amount old.entries number)) role old.entries number s text) by may.chosen.answers)) may.legal,
    e,
  )
    where
      same_version : (a b : Version) → Some a ≡ Some b → a ≡ b
      same_version a b h = cc

      same_signature : (a b : SignatureRecord) → Some a ≡ Some b → a ≡ b
      same_signature a b h = cc

  pub answers_so : (number : List ℕ) (choice : Choice) (signature : SignatureRecord) (result : Result (Unit {0}) StageFault) (old new : DeskView) → awaits_us old.book.known number ≡ true → IsChoice chooser old.book.known number choice
      → chooser.signature number ≡ Some signature → StagesTo result (SignsChoice role choice number signature) (AddsNext (SignsChoice role choice number signature)) old new
      → StagesTo result (Answers role chooser number) (AddsNext (Answers role chooser number)) old new
  answers_so number choice signature result old new awaits is signs told =
      step_as (SignsChoice role choice number signature) (Answers role chooser number) result old new (λ desk step. choice_answers number choice signature (desk_of old) desk awaits is signs step) told

  -- a draft of this end that is new
  draft_proposes : (draft : BaseRecord) (old new : Desk) → Contains chooser.drafts draft → ProposesDraft role draft old new → Proposes role chooser draft old new
  draft_proposes draft old new among (inl (text, made, legal, e)) = inl (text, record { chosen = record { among = among; new = made.0; written = made.1 }; legal = legal }, e)
  draft_proposes draft old new among (inr (none, e)) = inr (λ text may. none text (may.chosen.new, may.chosen.written) may.legal, e)

  pub proposes_so : (draft : BaseRecord) (result : Result (Unit {0}) StageFault) (old new : DeskView) → Contains chooser.drafts draft → StagesTo result (ProposesDraft role draft) (AddsNext (ProposesDraft role draft)) old new
      → StagesTo result (Proposes role chooser draft) (AddsNext (Proposes role chooser draft)) old new
  proposes_so draft result old new among told = step_as (ProposesDraft role draft) (Proposes role chooser draft) result old new (λ desk step. draft_proposes draft (desk_of old) desk among step) told

-- ---- one step of a loop, by the role of the desk that it starts on

module _ {A : Type 0} (Step : Role → A → Desk → Desk → Type 0) (items : List A) (item : A) (rest more : List A) (first now next : DeskView) (journal : KeepsJournal first.book now.book)
    (leads : Leads (Step first.book.header.role) items rest (desk_of first) (desk_of now)) (is : rest ≡ item ∷ more) where
  own_role : now.book.header.role ≡ first.book.header.role
  own_role = ap (λ (h : Header). h.role) journal.header

  pub leads_next : Step now.book.header.role item (desk_of now) (desk_of next) → Leads (Step first.book.header.role) items more (desk_of first) (desk_of next)
  leads_next step =
      leads_on (Step first.book.header.role) items item more (desk_of first) (desk_of now) (desk_of next) (subst (λ (l : List A). Leads (Step first.book.header.role) items l (desk_of first) (desk_of now)) is leads)
      (subst (λ (r : Role). Step r item (desk_of now) (desk_of next)) own_role step)

  pub leads_stop : (fault : StageFault) → (let r : Result (Unit {0}) StageFault = Err fault in StagesTo r (Step now.book.header.role item) (AddsNext (Step now.book.header.role item)) now next)
      → (let r : Result (Unit {0}) StageFault = Err fault in StagesTo r (InTurn (Step first.book.header.role) items) (AddsInTurn (Step first.book.header.role) items) first next)
  leads_stop fault told =
      steps_stop (Step first.book.header.role) items item more first now next fault (subst (λ (l : List A). Leads (Step first.book.header.role) items l (desk_of first) (desk_of now)) is leads)
      (subst (λ (r : Role). (let f : Result (Unit {0}) StageFault = Err fault in StagesTo f (Step r item) (AddsNext (Step r item)) now next)) own_role told)
