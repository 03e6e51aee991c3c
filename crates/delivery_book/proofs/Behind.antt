-- How each delivery stands behind an entry that is allowed.
use Rattle.std.proofs.Common.{◌≡◌, ℕ, suc, Bool, true, false, cond, not, if◌then◌else◌, bytes_eq, List, [], ◌∷◌, ◌++◌, length, Option, Some, None, filter, refl, sym, ap, subst, ◌∙◌, add-one, arith}
use Rattle.std.specs.Option.{option_and_then}
use Rattle.std.proofs.lemmas.Slice.Eq.{bytes_eq-Decides}
use Rattle.dsd_pricing.specs.declared.amounts.Totals.{Totals}
use Rattle.dsd_values.specs.declared.role.Role.{Role}
use Rattle.transaction_set.specs.declared.seal.Seal.{Seal}
use Rattle.base_record_894.specs.BaseRecord.{BaseRecord}
use Rattle.base_record_894.specs.RecordText.{Is894}
use Rattle.base_record_894.proofs.Amounts.{have_totals}
use Rattle.adjustment_895.specs.AnswerRecord.{AnswerRecord}
use Rattle.adjustment_895.specs.AnswerText.{Is895}
use Rattle.adjustment_895.specs.Grammar.{has_none}
use Rattle.dsd_record.specs.Applying.{adjusted, applied}
use Rattle.dsd_record.specs.Chain.{version_of}
use Rattle.dsd_record.specs.ReadSets.{set_in}
use Rattle.dsd_record.specs.SetTexts.{IsSet}
use Rattle.dsd_record.specs.Version.{Version}
use Rattle.dsd_record.specs.declared.set_view.SetView.{SetView}
use Rattle.dsd_record.specs.declared.set_view.SetView.TheVariants as sets
use Rattle.dsd_record.proofs.ReadOnce.{set_in_is}
use Rattle.dsd_journal.specs.declared.entry.Entry.{Entry}
use Rattle.dsd_journal.specs.declared.entry.EntryKind.{EntryKind}
use Rattle.delivery_book.specs.Deeds.{Deed, deeds_of, first_of, is_signed, level_in, number_in, of_delivery, proposes}
use Rattle.delivery_book.specs.Index.{IsFirst, IsKept, IsMade, IsStand, Stand, accepts, history_after, no_history, stand_after}
use Rattle.delivery_book.specs.Signing.{Allows, AllowsAnswer, AllowsBase, AllowsSet}
use Rattle.delivery_book.specs.Standing.{IsNew, acceptance_of, chain_at_base, version_at, version_to}
use Rattle.delivery_book.proofs.Standings.{highest_is, none_of_new, proposal_is}
use Rattle.delivery_book.proofs.Agreeing.{some_same}
use Rattle.delivery_book.proofs.Chained.{named_new}
use Rattle.delivery_book.proofs.Founded.{Founded, below, first_of_base, level_is, to_here, version_now}
use Rattle.delivery_book.proofs.Grown.{of_other}
use Rattle.delivery_book.proofs.Indexed.{nothing_of, stand_closed, stand_offered, stand_other}
use Rattle.delivery_book.proofs.Listed.{deeds_more}

-- none of a new delivery stands
pub new_unaccepted : (number : List ℕ) (deeds : List Deed) → IsNew number deeds → acceptance_of number deeds ≡ None
new_unaccepted number deeds new = ap (λ (l : List Deed). first_of (filter (λ (deed : Deed). not (proposes deed.set)) l)) new

-- a delivery that stands is not new
pub stands_not_new : (number : List ℕ) (entries : List Entry) (stand : Stand) → IsStand number entries stand → IsNew number (deeds_of entries) → ⊥
stands_not_new number entries stand s new =
    let h = highest_is number (deeds_of entries) s.top s.is_top in
    none_of_new number (deeds_of entries) s.top new h.is.among h.is.number

module _ (role : Role) (entries : List Entry) (f : Founded role (deeds_of entries)) (kind : EntryKind) (text : List ℕ) where
  abbrev entry : Entry
  entry = record { kind = kind; payload = text }

  abbrev before : List Deed
  before = deeds_of entries

  abbrev after : List Deed
  after = deeds_of (entries ++ entry ∷ [])

  -- ---- a base record

  base_stands : (base : BaseRecord) (seal : Seal) (seen : Version) → Is894 base seal text → set_in text ≡ Some (sets.Base base seal) → AllowsBase role before kind base → IsFirst base seal.check seen
      → IsStand base.number (entries ++ entry ∷ []) (record { seen = seen; ours = is_signed kind; accepted = false; history = history_after kind (length entries) (Some seen) no_history })
  base_stands base seal seen is read allowed made =
      let new : Deed = record { kind = kind; text = text; set = sets.Base base seal } in
      let named = named_new base.number 0 seal.check before new refl refl refl refl (λ p i l. none_of_new base.number before p allowed.new i.among i.number) in
      let first = first_of_base base seal text seal.check is in
      let same : first.version ≡ seen = some_same _ _ (sym first.made ∙ made) in
      let totals = have_totals base.lines base.extras first.version.totals first.price in
      let there : version_at (before ++ new ∷ []) new ≡ Some seen = ap (option_and_then version_of) (ap chain_at_base named) ∙ made in
      stand_offered base.number entries entry (sets.Base base seal) read refl no_history seen refl
      (record {
        amount = sym (ap (λ (t : Totals). t.amount) totals.stated) ∙ ap (λ (v : Version). v.totals.amount) same;
        level = sym first.level ∙ ap (λ (v : Version). v.level) same;
        check = sym first.check_is ∙ ap (λ (v : Version). v.check) same;
      })
      (λ p h. absurd (none_of_new base.number before p allowed.new (proposal_is base.number before p h).among (proposal_is base.number before p h).number))
      (new_unaccepted base.number before allowed.new)
      (subst (λ (l : List Deed). version_at l new ≡ Some seen) (sym (deeds_more entries entry (sets.Base base seal) read)) there)
      (nothing_of base.number entries allowed.new)

  -- ---- an answer

  answer_stands : (answer : AnswerRecord) (seal : Seal) (old : Stand) → Is895 answer seal text → set_in text ≡ Some (sets.Answer answer seal) → AllowsAnswer role before kind answer → IsStand answer.number entries old → (b : Bool) → has_none answer.lines ≡ b
      → IsStand answer.number (entries ++ entry ∷ []) (stand_after kind (length entries) b (if b then old.seen else adjusted old.seen answer seal.check) (Some old))
  answer_stands answer seal old is read allowed s true has =
      let h = highest_is answer.number before s.top s.is_top in
      let end = f.ends s.top h.is.among h.is.proposes in
      stand_closed answer.number entries entry (sets.Answer answer seal) read refl old (ap not has) s end.chain end.to
  answer_stands answer seal old is read allowed s false has =
      let new : Deed = record { kind = kind; text = text; set = sets.Answer answer seal } in
      let h = highest_is answer.number before allowed.highest allowed.is_highest in
      let level = level_is role before kind text answer seal f is allowed has in
      let low = below role before kind text answer seal f is allowed has in
      let tops : s.top ≡ allowed.highest = some_same _ _ (sym s.is_top ∙ allowed.is_highest) in
      let seen : low.version ≡ old.seen = some_same _ _ (sym (ap (option_and_then version_of) low.to ∙ low.made) ∙ ap (version_at before) (sym tops) ∙ s.seen) in
      let behind : Version = adjusted old.seen answer seal.check in
      let here : version_to answer.number (before ++ new ∷ []) (suc (level_in allowed.highest.set)) seal.check ≡ Some behind =
      ap (option_and_then version_of) (to_here role before kind text answer seal f is allowed has)
      ∙ version_now role before kind text answer seal f is allowed has
      ∙ ap (λ (v : Version). Some (adjusted v answer seal.check)) seen in
      let made : version_at (before ++ new ∷ []) new ≡ Some behind =
      ap (λ (n : ℕ). version_to answer.number (before ++ new ∷ []) n seal.check) (level ∙ add-one (level_in allowed.highest.set)) ∙ here in
      stand_offered answer.number entries entry (sets.Answer answer seal) read refl old.history behind (ap not has)
      (record { amount = refl; level = refl; check = refl })
      (λ p i. let q = proposal_is answer.number before p i in let up = h.above p q.among q.number q.proposes in omega (arith, up, level))
      allowed.standing
      (subst (λ (l : List Deed). version_at l new ≡ Some behind) (sym (deeds_more entries entry (sets.Answer answer seal) read)) made)
      s.history

  answer_behind : (answer : AnswerRecord) (seal : Seal) (old : Stand) (seen : Version) → Is895 answer seal text → set_in text ≡ Some (sets.Answer answer seal) → AllowsAnswer role before kind answer → IsStand answer.number entries old
      → seen ≡ applied old.seen answer seal.check → IsStand answer.number (entries ++ entry ∷ []) (stand_after kind (length entries) (has_none answer.lines) seen (Some old))
  answer_behind answer seal old seen is read allowed s made =
      subst (λ (v : Version). IsStand answer.number (entries ++ entry ∷ []) (stand_after kind (length entries) (has_none answer.lines) v (Some old))) (sym made)
      (answer_stands answer seal old is read allowed s (has_none answer.lines) refl)

-- ---- any set

base_behind : (role : Role) (entries : List Entry) (f : Founded role (deeds_of entries)) (kind : EntryKind) (text : List ℕ) (base : BaseRecord) (seal : Seal) (old : Option Stand) (seen : Version)
    → Is894 base seal text → set_in text ≡ Some (sets.Base base seal) → AllowsBase role (deeds_of entries) kind base → IsKept base.number entries old → IsFirst base seal.check seen
    → IsStand base.number (entries ++ (record { kind = kind; payload = text }) ∷ []) (stand_after kind (length entries) false seen old)
base_behind role entries f kind text base seal (Some stand) seen is read allowed k made = absurd (stands_not_new base.number entries stand k allowed.new)
base_behind role entries f kind text base seal None seen is read allowed k made = base_stands role entries f kind text base seal seen is read allowed made

-- how the delivery of a set stands behind it
pub set_stands : (role : Role) (entries : List Entry) (kind : EntryKind) (text : List ℕ) (set : SetView) (old : Option Stand) (seen : Version) → Founded role (deeds_of entries) → IsSet set text → AllowsSet role (deeds_of entries) kind set
    → IsKept (number_in set) entries old → IsMade old set seen
    → IsStand (number_in set) (entries ++ (record { kind = kind; payload = text }) ∷ []) (stand_after kind (length entries) (accepts set) seen old)
set_stands role entries kind text (sets.Base base seal) old seen f is allowed k made =
    base_behind role entries f kind text base seal old seen is (set_in_is text (sets.Base base seal) is) allowed k made
set_stands role entries kind text (sets.Answer answer seal) (Some old) seen f is allowed k made =
    answer_behind role entries f kind text answer seal old seen is (set_in_is text (sets.Answer answer seal) is) allowed k made
set_stands role entries kind text (sets.Answer answer seal) None seen f is allowed k made = absurd made

-- ---- all deliveries

new_other : (number : List ℕ) (entries : List Entry) (entry : Entry) (set : SetView) → set_in entry.payload ≡ Some set → (number_in set ≡ number → ⊥) → IsNew number (deeds_of entries) → IsNew number (deeds_of (entries ++ entry ∷ []))
new_other number entries entry set read other new = ap (of_delivery number) (deeds_more entries entry set read) ∙ of_other number (deeds_of entries) _ other ∙ new

others_kept : (number : List ℕ) (entries : List Entry) (entry : Entry) (set : SetView) (old : Option Stand) → set_in entry.payload ≡ Some set → (number_in set ≡ number → ⊥) → IsKept number entries old → IsKept number (entries ++ entry ∷ []) old
others_kept number entries entry set (Some old) read other k = stand_other number entries entry set read old other k
others_kept number entries entry set None read other k = new_other number entries entry set read other k

never_both : (b : Bool) → b ≡ true → b ≡ false → ⊥
never_both true e f = cc
never_both false e f = cc

-- What is kept is right behind an entry, where its delivery is kept as it then stands.
pub kept_more : (role : Role) (entries : List Entry) (entry : Entry) (a : Allows role entries entry) (kept : List ℕ → Option Stand) (stand : Stand) → ((number : List ℕ) → IsKept number entries (kept number))
    → IsStand (number_in a.set) (entries ++ entry ∷ []) stand → (number : List ℕ) → IsKept number (entries ++ entry ∷ []) (cond (bytes_eq (number_in a.set) number) (Some stand) (kept number))
kept_more role entries entry a kept stand knows s number = kept_when (bytes_eq (number_in a.set) number) refl where
  kept_when : (b : Bool) → bytes_eq (number_in a.set) number ≡ b → IsKept number (entries ++ entry ∷ []) (cond b (Some stand) (kept number))
  kept_when true e = subst (λ (n : List ℕ). IsStand n (entries ++ entry ∷ []) stand) ((bytes_eq-Decides (number_in a.set) number).0 e) s
  kept_when false e =
      others_kept number entries entry a.set (kept number) (set_in_is entry.payload a.set a.is_set)
      (λ same. never_both (bytes_eq (number_in a.set) number) ((bytes_eq-Decides (number_in a.set) number).1 same) e) (knows number)
