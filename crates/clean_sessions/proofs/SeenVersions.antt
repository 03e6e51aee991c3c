-- The versions that the proposals of a legal list make have sound rows and their price.
use Rattle.std.proofs.Common.{◌≡◌, ℕ, suc, true, false, List, [], ◌∷◌, ◌++◌, Option, Some, refl, sym, ap, subst, ◌∙◌, inl, inr, append_assoc, append-nil, add-one}
use Rattle.std.specs.Option.{option_and_then, option_map}
use Rattle.std.specs.Result.{result_ok}
use Rattle.dsd_values.specs.declared.role.Role.{Role}
use Rattle.dsd_pricing.specs.Pricing.{quantities}
use Rattle.dsd_pricing.specs.declared.amounts.Totals.{Totals}
use Rattle.base_record_894.proofs.OneRecord.{is_base}
use Rattle.adjustment_895.specs.Grammar.{has_none}
use Rattle.adjustment_895.proofs.OneAnswer.{is_answer}
use Rattle.dsd_record.specs.Applying.{Applies}
use Rattle.dsd_record.specs.Chain.{chain_from, version_of, version_with}
use Rattle.dsd_record.specs.SetTexts.{IsSet}
use Rattle.dsd_record.specs.Version.{IsVersion, Version}
use Rattle.dsd_record.specs.declared.set_view.SetView.{SetView}
use Rattle.dsd_record.specs.declared.set_view.SetView.TheVariants as sets
use Rattle.dsd_record.proofs.ReadOnce.{set_in_is}
use Rattle.dsd_record.proofs.Stated.{answer_low}
use Rattle.dsd_record.proofs.Versions.{adjusted_right, first_right}
use Rattle.dsd_journal.specs.declared.entry.Entry.{Entry}
use Rattle.dsd_journal.specs.declared.entry.EntryKind.{EntryKind}
use Rattle.delivery_book.specs.Deeds.{Deed, check_in, deeds_of, level_in, number_in, proposes}
use Rattle.delivery_book.specs.Signing.{AllowsSet, Legal, LegalFrom}
use Rattle.delivery_book.specs.Standing.{chain_at_base, chain_to, version_at}
use Rattle.delivery_book.proofs.Chained.{named_new}
use Rattle.delivery_book.proofs.Founded.{Founded, behind as adjusted_by, below, chain as chain_now, level_is, to_here, version_now}
use Rattle.delivery_book.proofs.Grown.{founded_entry, nothing_founded}
use Rattle.delivery_book.proofs.Listed.{deeds_more}
use Rattle.delivery_book.proofs.Members.{In, in_more}
use Rattle.delivery_book.proofs.Standings.{highest_is, none_of_new, not_true}
use Rattle.delivery_book.proofs.Stays.{version_kept}

abbrev pub AreRight : List Deed → Type 0
AreRight deeds = (p : Deed) → In p deeds → proposes p.set ≡ true → (version : Version) → version_at deeds p ≡ Some version → IsVersion version

one_of : (a b : Version) (o : Option Version) → o ≡ Some a → o ≡ Some b → a ≡ b
one_of a b o e f = let same : (let s : Option Version = Some a in s) ≡ Some b = sym e ∙ f in cc

-- ---- a base record more

base_right : (deeds : List Deed) (kind : EntryKind) (text : List ℕ) (set : SetView) (role : Role) → IsSet set text → AllowsSet role deeds kind set → Founded role deeds → AreRight deeds → proposes set ≡ true
    → (version : Version) → version_at (deeds ++ record { kind = kind; text = text; set = set } ∷ []) (record { kind = kind; text = text; set = set }) ≡ Some version → IsVersion version
base_right deeds kind text (sets.Base base seal) role is allowed f right proposal version e =
    let new : Deed = record { kind = kind; text = text; set = sets.Base base seal } in
    let totals : Totals = record { quantity = quantities base.lines; amount = is.amount } in
    let first : Version = version_with (chain_from base seal.check) totals in
    let named = named_new base.number 0 seal.check deeds new refl refl refl refl (λ p i l. none_of_new base.number deeds p allowed.new i.among i.number) in
    let made : version_of (chain_from base seal.check) ≡ Some first = ap (λ (r : _). option_map (version_with (chain_from base seal.check)) (result_ok r)) is.price in
    let at : version_at (deeds ++ new ∷ []) new ≡ Some first = ap (option_and_then version_of) (ap chain_at_base named) ∙ made in
    subst IsVersion (one_of first version (version_at (deeds ++ new ∷ []) new) at e) (first_right base seal.check totals (is_base text base seal is) is.price)
base_right deeds kind text (sets.Answer answer seal) role is allowed f right proposal version e =
    let has : has_none answer.lines ≡ false = not_true (has_none answer.lines) proposal in
    let new : Deed = record { kind = kind; text = text; set = sets.Answer answer seal } in
    let top = highest_is answer.number deeds allowed.highest allowed.is_highest in
    let b = below role deeds kind text answer seal f is allowed has in
    let below_is : version_at deeds allowed.highest ≡ Some b.version = ap (option_and_then version_of) b.to ∙ b.made in
    let old : IsVersion b.version = right allowed.highest top.is.among top.is.proposes b.version below_is in
    let same : allowed.version ≡ b.version = one_of allowed.version b.version (version_at deeds allowed.highest) allowed.made below_is in
    let applies : Applies b.version answer = subst (λ (v : Version). Applies v answer) same allowed.applies in
    let given = is_answer text answer seal is in
    let level : suc (level_in allowed.highest.set) ≡ answer.level = sym (level_is role deeds kind text answer seal f is allowed has ∙ add-one (level_in allowed.highest.set)) in
    let chain = subst (λ (n : ℕ). chain_to answer.number (deeds ++ new ∷ []) n seal.check ≡ Some (chain_now role deeds kind text answer seal f is allowed has)) level (to_here role deeds kind text answer seal f is allowed has) in
    let at = ap (option_and_then version_of) chain ∙ version_now role deeds kind text answer seal f is allowed has in
    subst IsVersion (one_of (adjusted_by role deeds kind text answer seal f is allowed has) version (version_at (deeds ++ new ∷ []) new) at e)
    (adjusted_right b.version answer seal.check old given (answer_low answer given) applies)

-- ---- one entry more

right_more : (role : Role) (deeds : List Deed) (new : Deed) → Founded role deeds → AreRight deeds → (proposes new.set ≡ true → (version : Version) → version_at (deeds ++ new ∷ []) new ≡ Some version → IsVersion version) → AreRight (deeds ++ new ∷ [])
right_more role deeds new f right here_right p h proposal version e = elim (in_more deeds new p h) [
  | inl old ↦
      let end = f.ends p old proposal in
      let before : version_at deeds p ≡ Some end.version = ap (option_and_then version_of) end.to ∙ end.made in
      let kept = version_kept (number_in p.set) deeds (new ∷ []) (level_in p.set) (check_in p.set) end.version before in
      subst IsVersion (one_of end.version version (version_at (deeds ++ new ∷ []) p) kept e) (right p old proposal end.version before)
  | inr same ↦ subst (λ (d : Deed). proposes d.set ≡ true → version_at (deeds ++ new ∷ []) d ≡ Some version → IsVersion version) same (λ s at. here_right s version at) proposal e
]

right_from : (role : Role) (before entries : List Entry) → Founded role (deeds_of before) → AreRight (deeds_of before) → LegalFrom role before entries → AreRight (deeds_of (before ++ entries))
right_from role before [] f right legal = subst (λ (l : List Entry). AreRight (deeds_of l)) (sym (append-nil before)) right
right_from role before (entry ∷ entries) f right legal =
    let a = legal.0 in
    let new : Deed = record { kind = entry.kind; text = entry.payload; set = a.set } in
    let more : AreRight (deeds_of before ++ new ∷ []) = right_more role (deeds_of before) new f right (base_right (deeds_of before) entry.kind entry.payload a.set role a.is_set a.allowed f right) in
    subst (λ (l : List Entry). AreRight (deeds_of l)) (append_assoc before (entry ∷ []) entries)
    (right_from role (before ++ entry ∷ []) entries (founded_entry role before entry f a)
    (subst AreRight (sym (deeds_more before entry a.set (set_in_is entry.payload a.set a.is_set))) more) legal.1)

pub legal_right : (role : Role) (entries : List Entry) → Legal role entries → AreRight (deeds_of entries)
legal_right role entries legal = right_from role [] entries (nothing_founded role) (λ p h. absurd h) legal
