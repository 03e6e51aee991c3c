-- What this end may sign: an answer that applies to the highest proposal where no test refuses it, and the base record of a new delivery.
use Rattle.std.proofs.Common.{◌≡◌, ◌≤◌, ◌<◌, ◌+◌, ℕ, Bool, true, false, not, nat_lt, bytes_eq, List, Contains, Option, Some, None, refl, sym, ap, subst, ◌∙◌, arith}
use Rattle.std.specs.Option.{option_and_then}
use Rattle.std.proofs.lemmas.Bool.{ltb-true}
use Rattle.std.proofs.lemmas.Slice.Eq.{bytes_eq-Decides}
use Rattle.dsd_values.specs.declared.level.TheConstants.Level.{MAX as HIGHEST}
use Rattle.dsd_values.specs.declared.role.Role.{Role}
use Rattle.dsd_values.specs.declared.role.Role.TheVariants.{Supplier, Receiver}
use Rattle.transaction_set.specs.declared.seal.Seal.{Seal}
use Rattle.base_record_894.specs.BaseRecord.{BaseRecord}
use Rattle.adjustment_895.specs.AnswerRecord.{AnswerRecord}
use Rattle.adjustment_895.specs.AnswerText.{Is895}
use Rattle.adjustment_895.specs.Grammar.{has_none}
use Rattle.dsd_record.specs.Applying.{Applies}
use Rattle.dsd_record.specs.Chain.{version_of}
use Rattle.dsd_record.specs.Naming.{Names, Proposal, proposal_of}
use Rattle.dsd_record.specs.SetTexts.{IsSet}
use Rattle.dsd_record.specs.Version.{Version}
use Rattle.dsd_record.specs.declared.set_view.SetView.TheVariants as sets
use Rattle.dsd_journal.specs.declared.entry.Entry.{Entry}
use Rattle.dsd_journal.specs.declared.entry.EntryKind.{EntryKind}
use Rattle.dsd_journal.specs.declared.entry.EntryKind.TheVariants.{Signed, Took}
use Rattle.delivery_book.specs.declared.fault.RuleFault.TheVariants.{LevelLimit, NotOurTurn}
use Rattle.delivery_book.specs.Deeds.{Deed, deeds_of, is_signed, level_in, number_in, of_delivery, proposal_in, proposes, signed_of}
use Rattle.delivery_book.specs.Refusals.{answer_fault, final_fault, is_role, known_fault, level_fault, offer_fault, top_level, turn_fault, when}
use Rattle.delivery_book.specs.Signing.{Allows, AllowsAnswer, IsOwnLevel, IsWritten, next_control}
use Rattle.delivery_book.specs.Standing.{IsNew, acceptance_of, highest_of, version_at}
use Rattle.delivery_book.proofs.Members.{In, filter_in, from_contains}
use Rattle.delivery_book.proofs.Standings.{IsHighest, highest_is, none_accepts, not_true}
use Rattle.delivery_book.proofs.Kept.{adjusts}
use Rattle.delivery_book.proofs.Agreeing.{some_same}
use Rattle.delivery_book.proofs.Founded.{Founded, founded_more, in_last}
use Rattle.delivery_book.proofs.TakeExact.{by_none, first_none, none_highest, second_none, when_false}

-- ---- no test refuses it

signed_not : (kind : EntryKind) → is_signed kind ≡ false → kind ≡ Took
signed_not Signed e = cc
signed_not Took e = refl

pub record IsReady (number : List ℕ) (deeds : List Deed) : Type 0 where
  pub top : Deed
  pub is_top : highest_of number deeds ≡ Some top
  pub taken : top.kind ≡ Took
  pub standing : acceptance_of number deeds ≡ None

ready_at : (number : List ℕ) (deeds : List Deed) (o : Option Deed) → highest_of number deeds ≡ o → acceptance_of number deeds ≡ None → known_fault o ≡ None → turn_fault o ≡ None → IsReady number deeds
ready_at number deeds (Some top) e none known turn = record { top = top; is_top = e; taken = signed_not top.kind (when_false (is_signed top.kind) _ turn); standing = none }
ready_at number deeds None e none known turn = cc

pub is_ready : (number : List ℕ) (deeds : List Deed) → answer_fault deeds number ≡ None → IsReady number deeds
is_ready number deeds e =
    let known = first_none (known_fault (highest_of number deeds)) _ e in
    let rest = second_none (known_fault (highest_of number deeds)) _ e in
    ready_at number deeds (highest_of number deeds) refl (by_none (acceptance_of number deeds) _ (first_none (final_fault number deeds) _ rest)) known (second_none (final_fault number deeds) _ rest)

pub adjust_ready : (number : List ℕ) (deeds : List Deed) → level_fault deeds number ≡ None → IsReady number deeds
adjust_ready number deeds e = is_ready number deeds (first_none (answer_fault deeds number) _ e)

below_limit : (b : Bool) → not b ≡ false → b ≡ true
below_limit true e = refl
below_limit false e = cc

pub adjust_level : (number : List ℕ) (deeds : List Deed) (top : Deed) → level_fault deeds number ≡ None → highest_of number deeds ≡ Some top → level_in top.set < HIGHEST
adjust_level number deeds top e is =
    let below = below_limit _ (when_false (not (nat_lt (top_level (highest_of number deeds)) HIGHEST)) LevelLimit (second_none (answer_fault deeds number) _ e)) in
    ltb-true (level_in top.set) HIGHEST (subst (λ (o : Option Deed). nat_lt (top_level o) HIGHEST ≡ true) is below)

-- ---- an answer of this end

same_proposal : (a b : Proposal) → a.number ≡ b.number → a.level ≡ b.level → a.check ≡ b.check → a ≡ b
same_proposal a b n l c =
    ap (λ (x : List ℕ). (let p : Proposal = record { number = x; level = a.level; check = a.check } in p)) n
    ∙ ap (λ (x : ℕ). (let p : Proposal = record { number = b.number; level = x; check = a.check } in p)) l
    ∙ ap (λ (x : ℕ). (let p : Proposal = record { number = b.number; level = b.level; check = x } in p)) c

module _ (role : Role) (entries : List Entry) (f : Founded role (deeds_of entries)) (answer : AnswerRecord) (seal : Seal) (text : List ℕ) where
  abbrev deeds : List Deed
  deeds = deeds_of entries

  -- the version of the highest proposal is the one that it names
  pub version_names : (top : Deed) (version : Version) → highest_of answer.number deeds ≡ Some top → version_at deeds top ≡ Some version → proposal_of version ≡ proposal_in top.set
  version_names top version is made =
      let h = highest_is answer.number deeds top is in
      let end = f.ends top h.is.among h.is.proposes in
      let same : version ≡ end.version = some_same _ _ (sym made ∙ ap (option_and_then version_of) end.to ∙ end.made) in
      ap proposal_of same ∙ same_proposal (proposal_of end.version) (proposal_in top.set) end.number end.level end.check

  signed_allowed : (r : IsReady answer.number deeds) (version : Version) → version_at deeds r.top ≡ Some version → Applies version answer → answer.role ≡ role → AllowsAnswer role deeds Signed answer
  signed_allowed r version made applies letter = record {
    letter = letter;
    highest = r.top;
    is_highest = r.is_top;
    named = subst (Names answer) (version_names r.top version r.is_top made) applies.named;
    turn = r.taken;
    standing = r.standing;
    version = version;
    made = made;
    applies = applies;
  }

  own_above : AllowsAnswer role deeds Signed answer → has_none answer.lines ≡ false → (deed : Deed) → Contains (signed_of answer.number deeds) deed → level_in deed.set < answer.level
  own_above a has deed c =
      let h = highest_is answer.number deeds a.highest a.is_highest in
      let level = adjusts answer (level_in a.highest.set) a.named.level (ap not has) in
      let p = filter_in (λ (d : Deed). is_signed d.kind) (of_delivery answer.number deeds) deed (from_contains (signed_of answer.number deeds) deed c) in
      let q = filter_in (λ (d : Deed). bytes_eq (number_in d.set) answer.number) deeds deed p.among in
      let number : number_in deed.set ≡ answer.number = (bytes_eq-Decides (number_in deed.set) answer.number).0 q.holds in
      own_below (proposes deed.set) refl h level q.among number where
        own_below : (b : Bool) → proposes deed.set ≡ b → IsHighest answer.number deeds a.highest → answer.level ≡ level_in a.highest.set + 1 → In deed deeds → number_in deed.set ≡ answer.number → level_in deed.set < answer.level
        own_below true s h level i n = let up = h.above deed i n s in omega (arith, up, level)
        own_below false s h level i n = absurd (none_accepts answer.number deeds deed a.standing i n s)

  pub own_level : Is895 answer seal text → AllowsAnswer role deeds Signed answer → answer.level ≤ HIGHEST → proposes (sets.Answer answer seal) ≡ true → IsOwnLevel role deeds (sets.Answer answer seal)
  own_level is_text a most s =
      let new : Deed = record { kind = Signed; text = text; set = sets.Answer answer seal } in
      record {
        parity = (founded_more role deeds Signed text (sets.Answer answer seal) f is_text a).kept.sided new (in_last deeds new) s;
        above = own_above a (not_true (has_none answer.lines) s);
        most = most;
      }

  -- An answer that applies to the highest proposal, where it is this end's turn, may be signed.
  pub signs_answer : (r : IsReady answer.number deeds) (version : Version) → version_at deeds r.top ≡ Some version → Applies version answer → answer.role ≡ role → answer.level ≤ HIGHEST
      → IsSet (sets.Answer answer seal) text → IsWritten (sets.Answer answer seal) (next_control entries) text → Allows role entries (record { kind = Signed; payload = text })
  signs_answer r version made applies letter most is written =
      let a = signed_allowed r version made applies letter in
      record {
        set = sets.Answer answer seal;
        is_set = is;
        allowed = a;
        signed = record { written = written; level = own_level is a most };
      }

-- ---- a base record of this end

supplier_is : (role : Role) → is_role role Receiver ≡ false → role ≡ Supplier
supplier_is Supplier e = refl
supplier_is Receiver e = cc

module _ (role : Role) (entries : List Entry) (f : Founded role (deeds_of entries)) (base : BaseRecord) (seal : Seal) (text : List ℕ) where
  pub none_before : IsNew base.number (deeds_of entries) → (deed : Deed) → Contains (signed_of base.number (deeds_of entries)) deed → level_in deed.set < 0
  none_before new deed c =
      let p = filter_in (λ (d : Deed). is_signed d.kind) (of_delivery base.number (deeds_of entries)) deed (from_contains (signed_of base.number (deeds_of entries)) deed c) in
      absurd (subst (λ (l : List Deed). In deed l) new p.among)

  -- The base record of a new delivery may be signed by the supplier.
  pub signs_base : offer_fault role (deeds_of entries) base.number ≡ None → IsSet (sets.Base base seal) text → IsWritten (sets.Base base seal) (next_control entries) text → Allows role entries (record { kind = Signed; payload = text })
  signs_base e is written =
      let own : role ≡ Supplier = supplier_is role (when_false (is_role role Receiver) (NotOurTurn 0) (first_none _ _ e)) in
      let new : IsNew base.number (deeds_of entries) = none_highest role (deeds_of entries) base.number f (by_none (highest_of base.number (deeds_of entries)) _ (second_none (when (is_role role Receiver) (NotOurTurn 0)) _ e)) in
      record {
        set = sets.Base base seal;
        is_set = is;
        allowed = record { side = own; new = new };
        signed = record { written = written; level = λ s. record { parity = sym own; above = none_before new; most = omega arith } };
      }
