-- A set may be taken exactly where no test refuses it.
use Rattle.std.proofs.Common.{◌≡◌, ◌⊎◌, ◌≤◌, ◌+◌, ◌-◌, ℕ, Bool, true, false, not, ◌&&◌, ◌||◌, ◌==◌, if◌then◌else◌, bytes_eq, List, [], ◌∷◌, Option, Some, None, filter, find, inl, inr, refl, sym, ap, subst, ◌∙◌, arith}
use Rattle.std.specs.List.{list_any}
use Rattle.std.specs.Option.{option_and_then}
use Rattle.std.proofs.lemmas.Bool.{eqb-true, ltb-false, le-ltb}
use Rattle.std.proofs.lemmas.Slice.Eq.{bytes_eq-Decides}
use Rattle.dsd_values.specs.declared.role.Role.{Role}
use Rattle.dsd_values.specs.declared.role.Role.TheVariants.{Supplier, Receiver}
use Rattle.transaction_set.specs.Refusal.{Refusal}
use Rattle.adjustment_895.specs.AnswerRecord.{AnswerRecord}
use Rattle.adjustment_895.specs.Grammar.{IsLevelled, has_none}
use Rattle.dsd_record.specs.Applying.{apply_fault}
use Rattle.dsd_record.specs.Chain.{version_of}
use Rattle.dsd_record.specs.Naming.{answered_level}
use Rattle.dsd_record.specs.SetTexts.{IsSet, set_refusal}
use Rattle.dsd_record.specs.Version.{Version}
use Rattle.dsd_record.specs.declared.fault.ApplyFault.{ApplyFault}
use Rattle.dsd_record.specs.declared.set_view.SetView.{SetView}
use Rattle.dsd_record.specs.declared.set_view.SetView.TheVariants as sets
use Rattle.dsd_record.proofs.Faults.{fault_none, faultless}
use Rattle.dsd_record.proofs.Sets.{not_refused, some_set}
use Rattle.dsd_journal.specs.declared.entry.Entry.{Entry}
use Rattle.dsd_journal.specs.declared.entry.EntryKind.{EntryKind}
use Rattle.dsd_journal.specs.declared.entry.EntryKind.TheVariants.{Signed, Took}
use Rattle.delivery_book.specs.declared.fault.RuleFault.{RuleFault}
use Rattle.delivery_book.specs.declared.fault.RuleFault.TheVariants.{WrongSide}
use Rattle.dsd_record.specs.ReadSets.{set_in}
use Rattle.delivery_book.specs.Deeds.{Deed, check_in, deeds_of, is_signed, level_in, number_in, of_delivery, other_role, proposals, proposes, signer, signer_of, taken_texts}
use Rattle.delivery_book.specs.Refusals.{◌else_try◌, applying_fault, as_apply, by, final_fault, is_lower, is_right_level, is_role, level_named, named_fault, own_named, read_fault, refused_as, set_fault, take_fault, was_taken, when}
use Rattle.delivery_book.specs.Signing.{Allows, AllowsAnswer, AllowsSet}
use Rattle.delivery_book.specs.Standing.{IsNew, acceptance_of, highest, highest_of, is_named, version_at}
use Rattle.delivery_book.proofs.Members.{In, filter_in, find_in}
use Rattle.delivery_book.proofs.Standings.{IsProposal, highest_is, is_proposal, none_accepts, none_in, none_of_new, proposal_is}
use Rattle.delivery_book.proofs.Kept.{adjusts}
use Rattle.delivery_book.proofs.Agreeing.{left_of, right_of, twice_other}
use Rattle.delivery_book.proofs.Chained.{both_of, is_named_so}
use Rattle.delivery_book.proofs.Founded.{Founded}
use Rattle.delivery_book.proofs.Listed.{deed_among, entry_of, map_in, signed_kind, text_in}
use Rattle.dsd_record.proofs.ReadOnce.{set_in_is}

-- ---- words of the tests

pub first_none : (a b : Option RuleFault) → (a else_try b) ≡ None → a ≡ None
first_none None b e = refl
first_none (Some x) b e = cc

pub second_none : (a b : Option RuleFault) → (a else_try b) ≡ None → b ≡ None
second_none None b e = e
second_none (Some x) b e = cc

pub both_none : (a b : Option RuleFault) → a ≡ None → b ≡ None → (a else_try b) ≡ None
both_none None b e f = f
both_none (Some x) b e f = cc

pub when_false : (test : Bool) (fault : RuleFault) → when test fault ≡ None → test ≡ false
when_false true fault e = cc
when_false false fault e = refl

when_none : (test : Bool) (fault : RuleFault) → test ≡ false → when test fault ≡ None
when_none true fault e = cc
when_none false fault e = refl

pub by_none : (o : Option Deed) (fault : Deed → RuleFault) → by o fault ≡ None → o ≡ None
by_none None fault e = refl
by_none (Some deed) fault e = cc

none_by : (o : Option Deed) (fault : Deed → RuleFault) → o ≡ None → by o fault ≡ None
none_by None fault e = refl
none_by (Some deed) fault e = cc

apply_none : (o : Option ApplyFault) → as_apply o ≡ None → o ≡ None
apply_none None e = refl
apply_none (Some fault) e = cc

-- ---- roles

other_of : (a b : Role) → is_role a b ≡ false → a ≡ other_role b
other_of Supplier Supplier e = cc
other_of Receiver Receiver e = cc
other_of Supplier Receiver e = refl
other_of Receiver Supplier e = refl

not_own : (a b : Role) → a ≡ other_role b → is_role a b ≡ false
not_own Supplier Supplier e = cc
not_own Receiver Receiver e = cc
not_own Supplier Receiver e = refl
not_own Receiver Supplier e = refl

pub is_own : (a b : Role) → a ≡ b → is_role a b ≡ true
is_own Supplier Supplier e = refl
is_own Receiver Receiver e = refl
is_own Supplier Receiver e = cc
is_own Receiver Supplier e = cc

not_not : (b : Bool) → b ≡ true → not b ≡ false
not_not true e = refl
not_not false e = cc

takes_side : (role : Role) → is_role role Supplier ≡ false → signer role Took ≡ Supplier
takes_side Supplier e = cc
takes_side Receiver e = refl

side_takes : (role : Role) → signer role Took ≡ Supplier → is_role role Supplier ≡ false
side_takes Supplier e = cc
side_takes Receiver e = refl

-- ---- a new delivery

empty_list : {X : Type 0} (xs : List X) → ((x : X) → In x xs → ⊥) → xs ≡ []
empty_list [] none = refl
empty_list (x ∷ xs) none = absurd (none x (inl refl))

pub none_highest : (role : Role) (deeds : List Deed) (number : List ℕ) → Founded role deeds → highest_of number deeds ≡ None → IsNew number deeds
none_highest role deeds number f none =
    empty_list (of_delivery number deeds) (λ deed h.
    let p = filter_in (λ (d : Deed). bytes_eq (number_in d.set) number) deeds deed h in
    let same : number_in deed.set ≡ number = (bytes_eq-Decides (number_in deed.set) number).0 p.holds in
    let r = f.rooted deed p.among in
    none_in (proposals number deeds) r.0 none (is_proposal number deeds r.0 (subst (λ (n : List ℕ). IsProposal n deeds r.0) same r.1)))

pub new_highest : (deeds : List Deed) (number : List ℕ) → IsNew number deeds → highest_of number deeds ≡ None
new_highest deeds number new = ap (λ (l : List Deed). highest (filter (λ (d : Deed). proposes d.set) l)) new

some_top : (deeds : List Deed) (deed : Deed) → In deed deeds → (top : Deed) × (highest deeds ≡ Some top)
some_top [] deed h = absurd h
some_top (d ∷ deeds) deed h = (_, refl)

pub find_some : {X : Type 0} (test : X → Bool) (xs : List X) (x : X) → In x xs → test x ≡ true → (y : X) × (find test xs ≡ Some y)
find_some test [] x h t = absurd h
find_some test (y ∷ ys) x h t = find_from test y ys x (test y) refl h t (find_some test ys x) where
  find_from : {X : Type 0} (test : X → Bool) (y : X) (ys : List X) (x : X) (b : Bool) → test y ≡ b → (y ≡ x) ⊎ In x ys → test x ≡ true → (In x ys → test x ≡ true → (z : X) × (find test ys ≡ Some z))
      → (z : X) × ((if b then Some y else find test ys) ≡ Some z)
  find_from test y ys x true e h t ih = (y, refl)
  find_from test y ys x false e (inl same) t ih = let never : false ≡ true = sym e ∙ ap test same ∙ t in cc
  find_from test y ys x false e (inr h) t ih = ih h t

-- ---- the level that an answer names

named_by : (lines : _) (level n : ℕ) → level ≡ answered_level lines n → n ≡ (if has_none lines then level else level - 1)
named_by lines level n e = named_when (has_none lines) level n e where
  named_when : (b : Bool) (level n : ℕ) → level ≡ (if b then n else n + 1) → n ≡ (if b then level else level - 1)
  named_when true level n e = sym e
  named_when false level n e = omega (arith, e)

answered_by : (answer : AnswerRecord) (n : ℕ) → IsLevelled answer.lines answer.level → n ≡ level_named answer → answer.level ≡ answered_level answer.lines n
answered_by answer n levelled e = answered_when answer.lines answer.level n levelled e where
  answered_when : (lines : _) (level n : ℕ) → IsLevelled lines level → n ≡ (if has_none lines then level else level - 1) → level ≡ answered_level lines n
  answered_when [] level n levelled e = sym e
  answered_when (line ∷ lines) level n levelled e = omega (arith, e, levelled)

-- ---- no test is true: then it is allowed

module _ (role : Role) (deeds : List Deed) (f : Founded role deeds) (answer : AnswerRecord) where
  abbrev test : Deed → Bool
  test deed = is_signed deed.kind && is_named (level_named answer) answer.check deed

  pub record IsOwnNamed (deed : Deed) : Type 0 where
    pub is : IsProposal answer.number deeds deed
    pub kind : deed.kind ≡ Signed
    pub level : level_in deed.set ≡ level_named answer
    pub check : check_in deed.set ≡ answer.check

  pub own_is : (deed : Deed) → own_named answer deeds ≡ Some deed → IsOwnNamed deed
  own_is deed e =
      let p = find_in test (proposals answer.number deeds) deed e in
      let named : is_named (level_named answer) answer.check deed ≡ true = right_of (is_signed deed.kind) (is_named (level_named answer) answer.check deed) p.holds in
      record {
        is = proposal_is answer.number deeds deed p.among;
        kind = signed_kind deed.kind (left_of (is_signed deed.kind) (is_named (level_named answer) answer.check deed) p.holds);
        level = eqb-true (level_in deed.set) (level_named answer) (left_of (level_in deed.set == level_named answer) (check_in deed.set == answer.check) named);
        check = eqb-true (check_in deed.set) answer.check (right_of (level_in deed.set == level_named answer) (check_in deed.set == answer.check) named);
      }

  -- not below the highest, it is the highest
  pub is_top : (deed top : Deed) → IsOwnNamed deed → highest_of answer.number deeds ≡ Some top → is_lower deed (Some top) ≡ false → top ≡ deed
  is_top deed top own e low =
      let h = highest_is answer.number deeds top e in
      let up = h.above deed own.is.among own.is.number own.is.proposes in
      let down : level_in top.set ≤ level_in deed.set = ltb-false (level_in deed.set) (level_in top.set) low in
      let same : level_in top.set ≡ level_in deed.set = omega (arith, up, down) in
      f.kept.apart top deed h.is.among own.is.among h.is.proposes own.is.proposes (h.is.number ∙ sym own.is.number) same

  faultless_at : (o : Option Version) (version : Version) → o ≡ Some version → applying_fault o answer ≡ None → apply_fault version answer ≡ None
  faultless_at o version e n = subst (λ (x : Option Version). applying_fault x answer ≡ None) e n

  named_allowed : IsLevelled answer.lines answer.level → answer.role ≡ other_role role → (o : Option Deed) → own_named answer deeds ≡ o → named_fault o deeds answer ≡ None → AllowsAnswer role deeds Took answer
  named_allowed levelled letter None found e = cc
  named_allowed levelled letter (Some deed) found e =
      let own = own_is deed found in
      let fin = first_none (final_fault answer.number deeds) _ e in
      let rest = second_none (final_fault answer.number deeds) _ e in
      let top = some_top (proposals answer.number deeds) deed (is_proposal answer.number deeds deed own.is) in
      let low : is_lower deed (highest_of answer.number deeds) ≡ false = when_false (is_lower deed (highest_of answer.number deeds)) _ (first_none _ _ rest) in
      let same : top.0 ≡ deed = is_top deed top.0 own top.1 (subst (λ (o : Option Deed). is_lower deed o ≡ false) top.1 low) in
      let end = f.ends deed own.is.among own.is.proposes in
      let made : version_at deeds deed ≡ Some end.version = ap (option_and_then version_of) end.to ∙ end.made in
      record {
        letter = letter;
        highest = deed;
        is_highest = top.1 ∙ ap Some same;
        named = record { number = sym own.is.number; level = answered_by answer (level_in deed.set) levelled own.level; check = sym own.check };
        turn = own.kind;
        standing = by_none (acceptance_of answer.number deeds) _ fin;
        version = end.version;
        made = made;
        applies = faultless (end.version) answer (faultless_at (version_at deeds deed) (end.version) made (apply_none _ (second_none _ _ rest)));
      }

  -- ---- and what is allowed meets no test

  allowed_named : AllowsAnswer role deeds Took answer → named_fault (own_named answer deeds) deeds answer ≡ None
  allowed_named a =
      let h = highest_is answer.number deeds a.highest a.is_highest in
      let level : level_in a.highest.set ≡ level_named answer = named_by answer.lines answer.level (level_in a.highest.set) a.named.level in
      let passes : test a.highest ≡ true = both_of (is_signed a.highest.kind) (is_named (level_named answer) answer.check a.highest) (ap is_signed a.turn) (is_named_so (level_named answer) answer.check a.highest level (sym a.named.check)) in
      let found = find_some test (proposals answer.number deeds) a.highest (is_proposal answer.number deeds a.highest h.is) passes in
      let own = own_is found.0 found.1 in
      let same : found.0 ≡ a.highest = f.kept.apart found.0 a.highest own.is.among h.is.among own.is.proposes h.is.proposes (own.is.number ∙ sym h.is.number) (own.level ∙ sym level) in
      let low : is_lower a.highest (highest_of answer.number deeds) ≡ false =
      ap (is_lower a.highest) a.is_highest ∙ le-ltb (level_in a.highest.set) (level_in a.highest.set) (omega arith) in
      ap (λ (o : Option Deed). named_fault o deeds answer) (found.1 ∙ ap Some same)
      ∙ both_none (final_fault answer.number deeds) _ (none_by (acceptance_of answer.number deeds) _ a.standing)
      (both_none _ _ (when_none (is_lower a.highest (highest_of answer.number deeds)) _ low)
      (ap (λ (o : Option Version). as_apply (applying_fault o answer)) a.made ∙ ap as_apply (fault_none a.version answer a.applies)))

  right_level : AllowsAnswer role deeds Took answer → is_right_level answer ≡ true
  right_level a =
      let h = highest_is answer.number deeds a.highest a.is_highest in
      let level : level_in a.highest.set ≡ level_named answer = named_by answer.lines answer.level (level_in a.highest.set) a.named.level in
      is_own (signer_of (level_named answer)) (other_role answer.role)
      (ap signer_of (sym level) ∙ f.kept.sided a.highest h.is.among h.is.proposes ∙ ap (signer role) a.turn ∙ sym (twice_other role) ∙ ap other_role (sym a.letter))

pub set_allowed : (role : Role) (deeds : List Deed) (set : SetView) (text : List ℕ) → Founded role deeds → IsSet set text → set_fault role deeds set ≡ None → AllowsSet role deeds Took set
set_allowed role deeds (sets.Base base seal) text f is e = record {
  side = takes_side role (when_false (is_role role Supplier) WrongSide (first_none _ _ e));
  new = none_highest role deeds base.number f (by_none (highest_of base.number deeds) _ (second_none (when (is_role role Supplier) WrongSide) _ e));
}
set_allowed role deeds (sets.Answer answer seal) text f is e =
    named_allowed role deeds f answer is.levelled (other_of answer.role role (when_false (is_role answer.role role) WrongSide (first_none _ _ e)))
    (own_named answer deeds) refl
    (second_none (when (not (is_right_level answer)) WrongSide) _ (second_none (when (is_role answer.role role) WrongSide) _ e))

pub allowed_set : (role : Role) (deeds : List Deed) (set : SetView) → Founded role deeds → AllowsSet role deeds Took set → set_fault role deeds set ≡ None
allowed_set role deeds (sets.Base base seal) f a =
    both_none _ _ (when_none (is_role role Supplier) WrongSide (side_takes role a.side)) (none_by (highest_of base.number deeds) _ (new_highest deeds base.number a.new))
allowed_set role deeds (sets.Answer answer seal) f a =
    both_none _ _ (when_none (is_role answer.role role) WrongSide (not_own answer.role role a.letter))
    (both_none _ _ (when_none (not (is_right_level answer)) WrongSide (not_not (is_right_level answer) (right_level role deeds f answer a))) (allowed_named role deeds f answer a))

-- ---- a text that was taken is not allowed again

not_again : (role : Role) (deeds : List Deed) (set : SetView) (deed : Deed) → AllowsSet role deeds Took set → In deed deeds → deed.set ≡ set → ⊥
not_again role deeds (sets.Base base seal) deed a h e = none_of_new base.number deeds deed a.new h (ap number_in e)
not_again role deeds (sets.Answer answer seal) deed a h e = answer_again (has_none answer.lines) refl where
  answer_again : (b : Bool) → has_none answer.lines ≡ b → ⊥
  answer_again true n = none_accepts answer.number deeds deed a.standing h (ap number_in e) (ap proposes e ∙ ap not n)
  answer_again false n =
      let top = highest_is answer.number deeds a.highest a.is_highest in
      let up = top.above deed h (ap number_in e) (ap proposes e ∙ ap not n) in
      let level = adjusts answer (level_in a.highest.set) a.named.level (ap not n) in
      let same : level_in deed.set ≡ answer.level = ap level_in e in
      omega (arith, up, level, same)

any_step : (t : List ℕ) (texts : List (List ℕ)) (text : List ℕ) (b : Bool) → bytes_eq t text ≡ b → (list_any (λ (taken : List ℕ). bytes_eq taken text) texts ≡ true → In text texts)
    → (b || list_any (λ (taken : List ℕ). bytes_eq taken text) texts) ≡ true → In text (t ∷ texts)
any_step t texts text true s ih e = inl ((bytes_eq-Decides t text).0 s)
any_step t texts text false s ih e = inr (ih e)

any_in : (texts : List (List ℕ)) (text : List ℕ) → list_any (λ (taken : List ℕ). bytes_eq taken text) texts ≡ true → In text texts
any_in [] text e = cc
any_in (t ∷ texts) text e = any_step t texts text (bytes_eq t text) refl (any_in texts text) e

pub taken_kind : (kind : EntryKind) → not (is_signed kind) ≡ true → kind ≡ Took
taken_kind Signed e = cc
taken_kind Took e = refl

pub taken_deed : (entries : List Entry) (text : List ℕ) (set : SetView) → set_in text ≡ Some set → was_taken text entries ≡ true → In (record { kind = Took; text = text; set = set }) (deeds_of entries)
taken_deed entries text set s e =
    let deed : Deed = record { kind = Took; text = text; set = set } in
    let m = map_in text_in _ text (any_in (taken_texts entries) text e) in
    let p = filter_in (λ (entry : Entry). not (is_signed entry.kind)) entries m.from m.among in
    let kind : m.from.kind ≡ Took = taken_kind m.from.kind p.holds in
    let same : m.from ≡ entry_of deed =
    ap (λ (x : EntryKind). (let r : Entry = record { kind = x; payload = m.from.payload } in r)) kind
    ∙ ap (λ (x : List ℕ). (let r : Entry = record { kind = Took; payload = x } in r)) m.same in
    deed_among entries deed s (subst (λ (x : Entry). In x entries) same p.among)

-- ---- the law

module _ (role : Role) (entries : List Entry) (text : List ℕ) (f : Founded role (deeds_of entries)) where
  abbrev new : Entry
  new = record { kind = Took; payload = text }

  refused_none : (r : Option Refusal) → refused_as r ≡ None → r ≡ None
  refused_none None e = refl
  refused_none (Some refusal) e = cc

  pub faultless_taken : take_fault role entries text ≡ None → Allows role entries new
  faultless_taken e =
      let read = some_set text (refused_none (set_refusal text) (first_none (refused_as (set_refusal text)) _ e)) in
      let later = second_none (when (was_taken text entries) _) _ (second_none (refused_as (set_refusal text)) _ e) in
      let none : set_fault role (deeds_of entries) read.0 ≡ None = sym (ap (λ (o : Option SetView). read_fault o role (deeds_of entries)) (set_in_is text read.0 read.1)) ∙ later in
      record {
        set = read.0;
        is_set = read.1;
        allowed = set_allowed role (deeds_of entries) read.0 text f read.1 none;
        signed = tt;
      }

  known_none : (a : Allows role entries new) (b : Bool) → was_taken text entries ≡ b → b ≡ false
  known_none a true e = absurd (not_again role (deeds_of entries) a.set _ a.allowed (taken_deed entries text a.set (set_in_is text a.set a.is_set) e) refl)
  known_none a false e = refl

  pub taken_faultless : Allows role entries new → take_fault role entries text ≡ None
  taken_faultless a =
      both_none _ _ (ap refused_as (not_refused text a.set a.is_set))
      (both_none _ _ (when_none (was_taken text entries) _ (known_none a (was_taken text entries) refl))
      (ap (λ (o : Option SetView). read_fault o role (deeds_of entries)) (set_in_is text a.set a.is_set) ∙ allowed_set role (deeds_of entries) a.set f a.allowed))
