-- The refusals by how a delivery stands are those by the entries.
use Rattle.std.proofs.Common.{◌≡◌, ℕ, Bool, true, false, cond, not, ◌&&◌, nat_lt, List, [], ◌∷◌, map, is_some, Option, Some, None, option_map, filter, find, refl, sym, ap, ◌∙◌}
use Rattle.std.specs.Option.{option_and_then}
use Rattle.dsd_values.specs.declared.level.TheConstants.Level.{MAX as HIGHEST}
use Rattle.dsd_values.specs.declared.role.Role.{Role}
use Rattle.dsd_values.specs.declared.role.Role.TheVariants.{Receiver, Supplier}
use Rattle.transaction_set.specs.declared.seal.Seal.{Seal}
use Rattle.base_record_894.specs.BaseRecord.{BaseRecord}
use Rattle.adjustment_895.specs.AnswerRecord.{AnswerRecord}
use Rattle.dsd_record.specs.Applying.{apply_fault}
use Rattle.dsd_record.specs.Chain.{version_of}
use Rattle.dsd_record.specs.Version.{Version}
use Rattle.dsd_record.specs.declared.set_view.SetView.{SetView}
use Rattle.dsd_record.specs.declared.set_view.SetView.TheVariants as sets
use Rattle.dsd_journal.specs.declared.entry.Entry.{Entry}
use Rattle.delivery_book.specs.declared.fault.RuleFault.{RuleFault}
use Rattle.delivery_book.specs.declared.fault.RuleFault.TheVariants.{AlreadyFinal, AlreadySigned, LevelLimit, NotOurTurn, Stale, WrongSide}
use Rattle.delivery_book.specs.Deeds.{Deed, check_in, deeds_of, is_signed, level_in, number_in, proposals, proposes}
use Rattle.delivery_book.specs.declared.history.Offer.{Offer}
use Rattle.delivery_book.specs.Index.{IsKept, IsStand, Stand, offer_by}
use Rattle.delivery_book.specs.Refusals.{◌else_try◌, answer_fault, applying_fault, as_apply, by, check_named, final_fault, is_lower, is_right_level, is_role, known_fault, level_fault, level_named, named_fault, offer_fault, own_named, set_fault, top_level, turn_fault, when}
use Rattle.delivery_book.specs.StandFaults.{is_offer, named_by_stand, offered, stand_answer_fault, stand_fault, stand_known_fault, stand_level_fault, stand_named_fault, stand_offer_fault}
use Rattle.delivery_book.specs.Standing.{acceptance_of, highest_of, is_named, version_at}
use Rattle.delivery_book.proofs.Standings.{highest_is}
use Rattle.delivery_book.proofs.Agreeing.{named_in, some_same}
use Rattle.delivery_book.proofs.Founded.{Founded}
use Rattle.delivery_book.proofs.Grown.{Closes, settled_for}
use Rattle.delivery_book.proofs.TakeExact.{is_top, new_highest, own_is}

-- ---- a search among some that are told by their level and check

find_told_step : {X Y : Type 0} (f : X → Y) (p : X → Bool) (test : Y → Bool) (x : X) (xs : List X) (a b : Bool) → p x ≡ a → test (f x) ≡ b
    → find test (map f (filter p xs)) ≡ option_map f (find (λ (z : X). p z && test (f z)) xs)
    → find test (map f (cond a (x ∷ filter p xs) (filter p xs))) ≡ option_map f (cond (a && b) (Some x) (find (λ (z : X). p z && test (f z)) xs))
find_told_step f p test x xs true true e t ih = ap (λ (c : Bool). cond c (Some (f x)) (find test (map f (filter p xs)))) t
find_told_step f p test x xs true false e t ih = ap (λ (c : Bool). cond c (Some (f x)) (find test (map f (filter p xs)))) t ∙ ih
find_told_step f p test x xs false b e t ih = ih

find_told : {X Y : Type 0} (f : X → Y) (p : X → Bool) (test : Y → Bool) (xs : List X) → find test (map f (filter p xs)) ≡ option_map f (find (λ (x : X). p x && test (f x)) xs)
find_told f p test [] = refl
find_told f p test (x ∷ xs) = find_told_step f p test x xs (p x) (test (f x)) refl refl (find_told f p test xs)

-- ---- how it stands

module _ (role : Role) (number : List ℕ) (entries : List Entry) (f : Founded role (deeds_of entries)) (c : Closes (deeds_of entries)) (stand : Stand) (s : IsStand number entries stand) where
  abbrev deeds : List Deed
  deeds = deeds_of entries

  seen_is : (level_in s.top.set ≡ stand.seen.level) × (check_in s.top.set ≡ stand.seen.check)
  seen_is =
      let h = highest_is number deeds s.top s.is_top in
      let end = f.ends s.top h.is.among h.is.proposes in
      let same : end.version ≡ stand.seen = some_same _ _ (sym (ap (option_and_then version_of) end.to ∙ end.made) ∙ s.seen) in
      (sym end.level ∙ ap (λ (v : Version). v.level) same, sym end.check ∙ ap (λ (v : Version). v.check) same)

  pub seen_number : stand.seen.number ≡ number
  seen_number =
      let h = highest_is number deeds s.top s.is_top in
      let end = f.ends s.top h.is.among h.is.proposes in
      let same : end.version ≡ stand.seen = some_same _ _ (sym (ap (option_and_then version_of) end.to ∙ end.made) ∙ s.seen) in
      ap (λ (v : Version). v.number) (sym same) ∙ end.number ∙ h.is.number

  -- the acceptance that stands
  accepted_check : (a : Deed) → acceptance_of number deeds ≡ Some a → check_named a.set ≡ stand.seen.check
  accepted_check a e =
      let t = settled_for role number deeds f c a e in
      let same : t.top ≡ s.top = some_same _ _ (sym t.is_top ∙ s.is_top) in
      named_so a.set (check_in t.top.set) t.named ∙ ap (λ (d : Deed). check_in d.set) same ∙ seen_is.1 where
        named_so : (set : SetView) (n : ℕ) → named_in set ≡ Some n → check_named set ≡ n
        named_so (sets.Base base seal) n e = cc
        named_so (sets.Answer answer seal) n e = some_same answer.check n e

  final_as : (o : Option Deed) → acceptance_of number deeds ≡ o → by o (λ (deed : Deed). AlreadyFinal (check_named deed.set)) ≡ when (is_some o) (AlreadyFinal stand.seen.check)
  final_as (Some a) e = ap (λ (n : ℕ). Some (AlreadyFinal n)) (accepted_check a e)
  final_as None e = refl

  final_by_stand : final_fault number deeds ≡ when stand.accepted (AlreadyFinal stand.seen.check)
  final_by_stand = final_as (acceptance_of number deeds) refl ∙ ap (λ (b : Bool). when b (AlreadyFinal stand.seen.check)) s.accepted

  -- ---- answering

  pub answer_by_stand : answer_fault deeds number ≡ stand_answer_fault (Some stand)
  answer_by_stand =
      ap (λ (o : Option Deed). known_fault o else_try (final_fault number deeds else_try turn_fault o)) s.is_top
      ∙ ap (λ (x : Option RuleFault). x else_try when (is_signed s.top.kind) (NotOurTurn (level_in s.top.set))) final_by_stand
      ∙ ap (λ (b : Bool). when stand.accepted (AlreadyFinal stand.seen.check) else_try when b (NotOurTurn (level_in s.top.set))) s.ours
      ∙ ap (λ (n : ℕ). when stand.accepted (AlreadyFinal stand.seen.check) else_try when stand.ours (NotOurTurn n)) seen_is.0

-- ---- taking an answer

module _ (role : Role) (answer : AnswerRecord) (entries : List Entry) (f : Founded role (deeds_of entries)) (c : Closes (deeds_of entries)) (stand : Stand) (s : IsStand answer.number entries stand) where
  abbrev told : List Deed
  told = deeds_of entries

  offered_is : option_map offer_by (own_named answer told) ≡ offered answer stand
  offered_is =
      sym (find_told offer_by (λ (d : Deed). is_signed d.kind) (is_offer (level_named answer) answer.check) (proposals answer.number told))
      ∙ ap (find (is_offer (level_named answer) answer.check)) s.history.offers

  stale_as : (deed : Deed) (b : Bool) → own_named answer told ≡ Some deed → is_lower deed (Some s.top) ≡ b
      → (when b (Stale stand.seen.level) else_try as_apply (applying_fault (version_at told deed) answer)) ≡ (when b (Stale stand.seen.level) else_try as_apply (apply_fault stand.seen answer))
  stale_as deed true e l = refl
  stale_as deed false e l =
      let same : s.top ≡ deed = is_top role told f answer deed s.top (own_is role told f answer deed e) s.is_top l in
      ap (λ (o : Option Version). as_apply (applying_fault o answer)) (sym (ap (version_at told) same) ∙ s.seen)

  named_as : (o : Option Deed) → own_named answer told ≡ o → named_fault o told answer ≡ named_by_stand (option_map offer_by o) stand answer
  named_as None e = refl
  named_as (Some deed) e =
      let seen = seen_is role answer.number entries f c stand s in
      ap (λ (x : Option RuleFault). x else_try (when (is_lower deed (highest_of answer.number told)) (Stale (top_level (highest_of answer.number told))) else_try as_apply (applying_fault (version_at told deed) answer)))
      (final_by_stand role answer.number entries f c stand s)
      ∙ ap (λ (o : Option Deed). when stand.accepted (AlreadyFinal stand.seen.check) else_try (when (is_lower deed o) (Stale (top_level o)) else_try as_apply (applying_fault (version_at told deed) answer))) s.is_top
      ∙ ap (λ (n : ℕ). when stand.accepted (AlreadyFinal stand.seen.check) else_try (when (is_lower deed (Some s.top)) (Stale n) else_try as_apply (applying_fault (version_at told deed) answer))) seen.0
      ∙ ap (λ (x : Option RuleFault). when stand.accepted (AlreadyFinal stand.seen.check) else_try x) (stale_as deed (is_lower deed (Some s.top)) e refl)
      ∙ ap (λ (n : ℕ). when stand.accepted (AlreadyFinal stand.seen.check) else_try (when (nat_lt (level_in deed.set) n) (Stale stand.seen.level) else_try as_apply (apply_fault stand.seen answer))) seen.0

  pub named_told : named_fault (own_named answer told) told answer ≡ stand_named_fault (Some stand) answer
  named_told = named_as (own_named answer told) refl ∙ ap (λ (o : Option Offer). named_by_stand o stand answer) offered_is

  pub taking_by_stand : (seal : Seal) → set_fault role told (sets.Answer answer seal) ≡ stand_fault role (Some stand) (sets.Answer answer seal)
  taking_by_stand seal = ap (λ (x : Option RuleFault). when (is_role answer.role role) WrongSide else_try (when (not (is_right_level answer)) WrongSide else_try x)) named_told

-- ---- taking any set

base_by_stand : (role : Role) (base : BaseRecord) (entries : List Entry) (f : Founded role (deeds_of entries)) (c : Closes (deeds_of entries)) (stand : Stand) (s : IsStand base.number entries stand) (seal : Seal)
    → set_fault role (deeds_of entries) (sets.Base base seal) ≡ stand_fault role (Some stand) (sets.Base base seal)
base_by_stand role base entries f c stand s seal =
    ap (λ (o : Option Deed). when (is_role role Supplier) WrongSide else_try by o (λ (top : Deed). Stale (level_in top.set))) s.is_top
    ∙ ap (λ (n : ℕ). when (is_role role Supplier) WrongSide else_try Some (Stale n)) (seen_is role base.number entries f c stand s).0

pub taking_by : (role : Role) (entries : List Entry) → Founded role (deeds_of entries) → Closes (deeds_of entries) → (set : SetView) (o : Option Stand) → IsKept (number_in set) entries o
    → set_fault role (deeds_of entries) set ≡ stand_fault role o set
taking_by role entries f c (sets.Base base seal) (Some stand) m = base_by_stand role base entries f c stand m seal
taking_by role entries f c (sets.Base base seal) None m =
    ap (λ (o : Option Deed). when (is_role role Supplier) WrongSide else_try by o (λ (top : Deed). Stale (level_in top.set))) (new_highest (deeds_of entries) base.number m)
taking_by role entries f c (sets.Answer answer seal) (Some stand) m = taking_by_stand role answer entries f c stand m seal
taking_by role entries f c (sets.Answer answer seal) None m =
    ap (λ (l : List Deed). when (is_role answer.role role) WrongSide else_try (when (not (is_right_level answer)) WrongSide
    else_try named_fault (find (λ (d : Deed). is_signed d.kind && is_named (level_named answer) answer.check d) (filter (λ (d : Deed). proposes d.set) l)) (deeds_of entries) answer)) m

-- ---- signing

offer_by_stand : (role : Role) (number : List ℕ) (entries : List Entry) (f : Founded role (deeds_of entries)) (c : Closes (deeds_of entries)) (o : Option Stand) → IsKept number entries o
    → by (highest_of number (deeds_of entries)) (λ (top : Deed). AlreadySigned (level_in top.set)) ≡ stand_known_fault o
offer_by_stand role number entries f c (Some stand) s = ap (λ (o : Option Deed). by o (λ (top : Deed). AlreadySigned (level_in top.set))) s.is_top ∙ ap (λ (n : ℕ). Some (AlreadySigned n)) (seen_is role number entries f c stand s).0
offer_by_stand role number entries f c None new = ap (λ (o : Option Deed). by o (λ (top : Deed). AlreadySigned (level_in top.set))) (new_highest (deeds_of entries) number new)

pub offering_by : (role : Role) (number : List ℕ) (entries : List Entry) (f : Founded role (deeds_of entries)) (c : Closes (deeds_of entries)) (o : Option Stand) → IsKept number entries o
    → offer_fault role (deeds_of entries) number ≡ stand_offer_fault role o
offering_by role number entries f c o k = ap (λ (x : Option RuleFault). when (is_role role Receiver) (NotOurTurn 0) else_try x) (offer_by_stand role number entries f c o k)

pub answering_by : (role : Role) (number : List ℕ) (entries : List Entry) (f : Founded role (deeds_of entries)) (c : Closes (deeds_of entries)) (o : Option Stand) → IsKept number entries o
    → answer_fault (deeds_of entries) number ≡ stand_answer_fault o
answering_by role number entries f c (Some stand) s = answer_by_stand role number entries f c stand s
answering_by role number entries f c None new = ap (λ (o : Option Deed). known_fault o else_try (final_fault number (deeds_of entries) else_try turn_fault o)) (new_highest (deeds_of entries) number new)

pub levelling_by : (role : Role) (number : List ℕ) (entries : List Entry) (f : Founded role (deeds_of entries)) (c : Closes (deeds_of entries)) (o : Option Stand) → IsKept number entries o
    → level_fault (deeds_of entries) number ≡ stand_level_fault o
levelling_by role number entries f c (Some stand) s =
    ap (λ (x : Option RuleFault). x else_try when (not (nat_lt (top_level (highest_of number (deeds_of entries))) HIGHEST)) LevelLimit) (answer_by_stand role number entries f c stand s)
    ∙ ap (λ (o : Option Deed). stand_answer_fault (Some stand) else_try when (not (nat_lt (top_level o) HIGHEST)) LevelLimit) s.is_top
    ∙ ap (λ (n : ℕ). stand_answer_fault (Some stand) else_try when (not (nat_lt n HIGHEST)) LevelLimit) (seen_is role number entries f c stand s).0
levelling_by role number entries f c None new = ap (λ (x : Option RuleFault). x else_try when (not (nat_lt (top_level (highest_of number (deeds_of entries))) HIGHEST)) LevelLimit) (answering_by role number entries f c None new)
