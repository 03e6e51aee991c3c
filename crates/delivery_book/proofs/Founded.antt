-- What else a legal list keeps: each deed's delivery has a proposal, and each proposal ends a chain of its level.
use Rattle.std.proofs.Common.{◌≡◌, ◌≢◌, ℕ, suc, ◌+◌, Bool, true, false, not, if◌then◌else◌, List, [], ◌∷◌, ◌++◌, Option, Some, option_map, inl, inr, refl, sym, ap, subst, ◌∙◌, add-one, Result, Ok, arith}
use Rattle.std.specs.Option.{option_and_then}
use Rattle.std.specs.Result.{result_ok}
use Rattle.dsd_pricing.specs.Pricing.{quantities, totals_of}
use Rattle.dsd_pricing.specs.declared.amounts.Totals.{Totals}
use Rattle.dsd_pricing.specs.declared.fault.PriceFault.{PriceFault}
use Rattle.dsd_values.specs.declared.role.Role.{Role}
use Rattle.transaction_set.specs.declared.seal.Seal.{Seal}
use Rattle.base_record_894.specs.BaseRecord.{BaseRecord}
use Rattle.base_record_894.specs.RecordText.{Is894}
use Rattle.adjustment_895.specs.AnswerRecord.{AnswerRecord}
use Rattle.adjustment_895.specs.AnswerText.{Is895}
use Rattle.adjustment_895.specs.Grammar.{has_none}
use Rattle.dsd_record.specs.Applying.{Applies, adjusted}
use Rattle.dsd_record.specs.Chain.{Chain, IsChained, chain_from, version_of, version_with, with_adjusted}
use Rattle.dsd_record.specs.Version.{Version}
use Rattle.dsd_record.specs.declared.set_view.SetView.{SetView}
use Rattle.dsd_record.specs.declared.set_view.SetView.TheVariants as sets
use Rattle.adjustment_895.proofs.OneAnswer.{is_answer}
use Rattle.dsd_record.proofs.Chains.{goes_on}
use Rattle.dsd_record.proofs.Stated.{answer_low}
use Rattle.dsd_record.specs.SetTexts.{IsSet}
use Rattle.dsd_journal.specs.declared.entry.EntryKind.{EntryKind}
use Rattle.delivery_book.specs.Deeds.{Deed, check_in, level_in, number_in, proposes}
use Rattle.delivery_book.specs.Signing.{AllowsAnswer, AllowsBase, AllowsSet}
use Rattle.delivery_book.specs.Standing.{chain_at_base, chain_behind, chain_to, named_of}
use Rattle.delivery_book.proofs.Members.{In, in_more}
use Rattle.delivery_book.proofs.Standings.{IsHighest, IsProposal, highest_is, none_of_new, not_true}
use Rattle.delivery_book.proofs.Kept.{Kept, adjusts, keeps_set}
use Rattle.delivery_book.proofs.Agreeing.{some_same}
use Rattle.delivery_book.proofs.Chained.{chain_kept, named_new}

-- a chain ends at the proposal, and its version is the one of the proposal's delivery, level and check
pub record Ends (deeds : List Deed) (p : Deed) : Type 0 where
  pub chain : Chain
  pub to : chain_to (number_in p.set) deeds (level_in p.set) (check_in p.set) ≡ Some chain
  pub chained : IsChained chain
  pub version : Version
  pub made : version_of chain ≡ Some version
  pub number : version.number ≡ number_in p.set
  pub level : version.level ≡ level_in p.set
  pub check : version.check ≡ check_in p.set

pub record Founded (role : Role) (deeds : List Deed) : Type 0 where
  pub kept : Kept role deeds
  pub rooted : (deed : Deed) → In deed deeds → (p : Deed) × IsProposal (number_in deed.set) deeds p
  pub ends : (p : Deed) → In p deeds → proposes p.set ≡ true → Ends deeds p

-- ---- what is there stays

in_left : {X : Type 0} (xs ys : List X) (x : X) → In x xs → In x (xs ++ ys)
in_left [] ys x h = absurd h
in_left (z ∷ xs) ys x (inl e) = inl e
in_left (z ∷ xs) ys x (inr h) = inr (in_left xs ys x h)

pub in_last : {X : Type 0} (xs : List X) (x : X) → In x (xs ++ x ∷ [])
in_last [] x = inl refl
in_last (z ∷ xs) x = inr (in_last xs x)

proposal_on : (number : List ℕ) (deeds more : List Deed) (p : Deed) → IsProposal number deeds p → IsProposal number (deeds ++ more) p
proposal_on number deeds more p is = record { among = in_left deeds more p is.among; number = is.number; proposes = is.proposes }

ends_on : (deeds more : List Deed) (p : Deed) → Ends deeds p → Ends (deeds ++ more) p
ends_on deeds more p e = record {
  chain = e.chain;
  to = chain_kept (number_in p.set) deeds more (level_in p.set) (check_in p.set) e.chain e.to;
  chained = e.chained;
  version = e.version;
  made = e.made;
  number = e.number;
  level = e.level;
  check = e.check;
}

-- ---- a base record more

-- the version that a base record makes, which the text spells
pub record IsFirstOf (base : BaseRecord) (check : ℕ) : Type 0 where
  pub version : Version
  pub made : version_of (chain_from base check) ≡ Some version
  pub chained : IsChained (chain_from base check)
  pub number : version.number ≡ base.number
  pub level : version.level ≡ 0
  pub check_is : version.check ≡ check
  pub price : totals_of base.lines base.extras ≡ Ok version.totals

pub first_of_base : (base : BaseRecord) (seal : Seal) (text : List ℕ) (check : ℕ) → Is894 base seal text → IsFirstOf base check
first_of_base base seal text check is =
    let totals : Totals = record { quantity = quantities base.lines; amount = is.amount } in
    record {
      version = version_with (chain_from base check) totals;
      made = ap (λ (r : Result Totals PriceFault). option_map (version_with (chain_from base check)) (result_ok r)) is.price;
      chained = record { totals = totals; price = is.price; follow = tt };
      number = refl;
      level = refl;
      check_is = refl;
      price = is.price;
    }

base_ends : (role : Role) (deeds : List Deed) (kind : EntryKind) (text : List ℕ) (base : BaseRecord) (seal : Seal) → Is894 base seal text → AllowsBase role deeds kind base
    → Ends (deeds ++ (record { kind = kind; text = text; set = sets.Base base seal }) ∷ []) (record { kind = kind; text = text; set = sets.Base base seal })
base_ends role deeds kind text base seal is allowed =
    let new : Deed = record { kind = kind; text = text; set = sets.Base base seal } in
    let named = named_new base.number 0 seal.check deeds new refl refl refl refl (λ p i l. none_of_new base.number deeds p allowed.new i.among i.number) in
    let first = first_of_base base seal text seal.check is in
    record {
      chain = chain_from base seal.check;
      to = ap chain_at_base named;
      chained = first.chained;
      version = first.version;
      made = first.made;
      number = first.number;
      level = first.level;
      check = first.check_is;
    }

-- ---- an adjustment more

some_lines : (answer : AnswerRecord) → has_none answer.lines ≡ false → answer.lines ≢ []
some_lines answer none e = let never : true ≡ false = sym (ap has_none e) ∙ none in cc

module _ (role : Role) (deeds : List Deed) (kind : EntryKind) (text : List ℕ) (answer : AnswerRecord) (seal : Seal) (f : Founded role deeds) (is : Is895 answer seal text) (allowed : AllowsAnswer role deeds kind answer) (has : has_none answer.lines ≡ false) where
  abbrev pub here : Deed
  here = record { kind = kind; text = text; set = sets.Answer answer seal }

  pub top : IsHighest answer.number deeds allowed.highest
  top = highest_is answer.number deeds allowed.highest allowed.is_highest

  pub level_is : answer.level ≡ level_in allowed.highest.set + 1
  level_is = adjusts answer (level_in allowed.highest.set) allowed.named.level (ap not has)

  pub below : Ends deeds allowed.highest
  below = f.ends allowed.highest top.is.among top.is.proposes

  version_is : below.version ≡ allowed.version
  version_is = some_same _ _ (sym (ap (option_and_then version_of) below.to ∙ below.made) ∙ allowed.made)

  applies : Applies below.version answer
  applies = subst (λ (v : Version). Applies v answer) (sym version_is) allowed.applies

  abbrev pub chain : Chain
  chain = with_adjusted below.chain (record { answer = answer; check = seal.check })

  abbrev pub behind : Version
  behind = adjusted below.version answer seal.check

  on : IsChained chain × (version_of chain ≡ Some behind)
  on =
      goes_on below.version behind answer seal.check (answer_low answer (is_answer text answer seal is)) applies
      (sym (ap (λ (b : Bool). if b then below.version else adjusted below.version answer seal.check) has)) (some_lines answer has)
      below.chain below.chained below.made

  pub version_now : version_of chain ≡ Some behind
  version_now = on.1

  named : named_of answer.number (suc (level_in allowed.highest.set)) seal.check (deeds ++ here ∷ []) ≡ Some here
  named =
      named_new answer.number (suc (level_in allowed.highest.set)) seal.check deeds here refl (ap not has) (level_is ∙ add-one (level_in allowed.highest.set)) refl
      (λ p i l. let above = top.above p i.among i.number i.proposes in absurd (omega (arith, above, l)))

  to_below : chain_to answer.number (deeds ++ here ∷ []) (level_in allowed.highest.set) answer.check ≡ Some below.chain
  to_below =
      subst (λ (n : List ℕ). chain_to n (deeds ++ here ∷ []) (level_in allowed.highest.set) answer.check ≡ Some below.chain) top.is.number
      (subst (λ (c : ℕ). chain_to (number_in allowed.highest.set) (deeds ++ here ∷ []) (level_in allowed.highest.set) c ≡ Some below.chain) (sym allowed.named.check)
      (chain_kept (number_in allowed.highest.set) deeds (here ∷ []) (level_in allowed.highest.set) (check_in allowed.highest.set) below.chain below.to))

  pub to_here : chain_to answer.number (deeds ++ here ∷ []) (suc (level_in allowed.highest.set)) seal.check ≡ Some chain
  to_here =
      ap (λ (o : Option Deed). chain_behind o (chain_to answer.number (deeds ++ here ∷ []) (level_in allowed.highest.set))) named
      ∙ ap (option_map (λ (x : Chain). with_adjusted x (record { answer = answer; check = seal.check }))) to_below

  answer_ends : Ends (deeds ++ here ∷ []) here
  answer_ends = record {
    chain = chain;
    to = subst (λ (n : ℕ). chain_to answer.number (deeds ++ here ∷ []) n seal.check ≡ Some chain) (sym (level_is ∙ add-one (level_in allowed.highest.set))) to_here;
    chained = on.0;
    version = behind;
    made = version_now;
    number = below.number ∙ top.is.number;
    level = refl;
    check = refl;
  }

-- ---- one deed more

pub set_ends : (role : Role) (deeds : List Deed) (kind : EntryKind) (text : List ℕ) (set : SetView) → Founded role deeds → IsSet set text → AllowsSet role deeds kind set → proposes set ≡ true
    → Ends (deeds ++ (record { kind = kind; text = text; set = set }) ∷ []) (record { kind = kind; text = text; set = set })
set_ends role deeds kind text (sets.Base base seal) f is allowed p = base_ends role deeds kind text base seal is allowed
set_ends role deeds kind text (sets.Answer answer seal) f is allowed p = answer_ends role deeds kind text answer seal f is allowed (not_true (has_none answer.lines) p)

set_rooted : (role : Role) (deeds : List Deed) (kind : EntryKind) (text : List ℕ) (set : SetView) → AllowsSet role deeds kind set
    → (p : Deed) × IsProposal (number_in set) (deeds ++ (record { kind = kind; text = text; set = set }) ∷ []) p
set_rooted role deeds kind text (sets.Base base seal) allowed =
    let new : Deed = record { kind = kind; text = text; set = sets.Base base seal } in
    (new, record { among = in_last deeds new; number = refl; proposes = refl })
set_rooted role deeds kind text (sets.Answer answer seal) allowed =
    (allowed.highest, proposal_on answer.number deeds _ allowed.highest (highest_is answer.number deeds allowed.highest allowed.is_highest).is)

pub founded_more : (role : Role) (deeds : List Deed) (kind : EntryKind) (text : List ℕ) (set : SetView) → Founded role deeds → IsSet set text → AllowsSet role deeds kind set
    → Founded role (deeds ++ (record { kind = kind; text = text; set = set }) ∷ [])
founded_more role deeds kind text set f is allowed =
    let new : Deed = record { kind = kind; text = text; set = set } in
    record {
      kept = keeps_set role deeds kind text set f.kept allowed;
      rooted = λ deed h. elim (in_more deeds new deed h) [
        | inl old ↦ let r = f.rooted deed old in (r.0, proposal_on (number_in deed.set) deeds (new ∷ []) r.0 r.1)
        | inr e ↦ subst (λ (d : Deed). (p : Deed) × IsProposal (number_in d.set) (deeds ++ new ∷ []) p) e (set_rooted role deeds kind text set allowed)
      ];
      ends = λ p h s. elim (in_more deeds new p h) [
        | inl old ↦ ends_on deeds (new ∷ []) p (f.ends p old s)
        | inr e ↦ subst (λ (d : Deed). proposes d.set ≡ true → Ends (deeds ++ new ∷ []) d) e (set_ends role deeds kind text set f is allowed) s
      ];
    }
