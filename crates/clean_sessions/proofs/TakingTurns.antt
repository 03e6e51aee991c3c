-- The sets that an end hears of its partner, and what they make of one delivery.
use Rattle.std.proofs.Common.{◌≡◌, ◌≤◌, ℕ, Bool, true, false, not, ◌&&◌, ◌||◌, ◌==◌, is_some, length, List, [], ◌∷◌, ◌++◌, map, Option, Some, refl, sym, ap, subst, ◌∙◌, inl, inr, append-nil}
use Rattle.std.specs.Prelude.{Contains}
use Rattle.std.specs.Str.{bytes_eq}
use Rattle.std.specs.List.{filter}
use Rattle.std.proofs.lemmas.Bool.{cases_Bool}
use Rattle.std.proofs.lemmas.List.{map-append}
use Rattle.std.proofs.lemmas.List.Elements.{filter-append}
use Rattle.std.proofs.lemmas.Slice.Eq.{bytes_eq-Decides}
use Rattle.dsd_values.specs.declared.role.Role.{Role}
use Rattle.dsd_record.specs.declared.set_view.SetView.{SetView}
use Rattle.dsd_journal.specs.declared.entry.Entry.{Entry}
use Rattle.delivery_book.specs.Agreement.{Backed}
use Rattle.delivery_book.specs.Deeds.{Deed, deeds_of, first_of, is_signed, number_in, of_delivery, proposes, signed_texts, taken_texts}
use Rattle.delivery_book.specs.Lookups.{last_signed}
use Rattle.delivery_book.proofs.Members.{In, from_contains, in_more, to_contains}
use Rattle.own_turn.specs.DueSets.{Asked, DueSet, texts_of}
use Rattle.own_turn.specs.OwnTurn.{Desk, InTurn, TakesSet, took}
use Rattle.own_turn.proofs.TurnsGrowing.{passed_entries}
use Rattle.clean_sessions.specs.Courses.{Course, hears}
use Rattle.clean_sessions.specs.DeliveryStands.{AreBacked, AreLast, IsFront, is_among, sets_in, stand_at, stand_of, told_by, told_in}
use Rattle.clean_sessions.specs.Untouched.{IsOther, IsUntouched}
use Rattle.clean_sessions.proofs.HeardStands.{heard}
use Rattle.clean_sessions.proofs.HearingTurns.{last_deed, last_text}
use Rattle.clean_sessions.proofs.KeyedSteps.{IsThereOnce, Keeps, is_there, once, passed, turn_of_map}
use Rattle.clean_sessions.proofs.TakingApart.{one_taken}

-- ---- what an untouched delivery keeps

pub stand_untouched : (number : List ℕ) (role : Role) (a b partner : Desk) → IsUntouched number a b → stand_of number role b partner ≡ stand_of number role a partner
stand_untouched number role a b partner u =
    ap (λ (l : List Deed). stand_at role (length l) (sets_in number partner.entries) (told_in number b) (told_in number partner)) u.deeds
    ∙ ap (λ (k : Asked). stand_at role (sets_in number a.entries) (sets_in number partner.entries) (told_by k) (told_in number partner)) u.asked

pub front_untouched : (course : Course) (number : List ℕ) (a b : List Entry) → of_delivery number (deeds_of b) ≡ of_delivery number (deeds_of a) → IsFront course number a → IsFront course number b
front_untouched course number a b same f = record {
  most = subst (λ (l : List Deed). length l ≤ course.sets) (sym same) f.most;
  ends = subst (λ (l : List Deed). is_some (first_of (filter (λ (d : Deed). not (proposes d.set)) l)) ≡ (course.accepted && length l == course.sets)) (sym same) f.ends;
}

-- ---- backing

taken_more : (entries : List Entry) (text : List ℕ) → taken_texts (entries ++ took text ∷ []) ≡ taken_texts entries ++ text ∷ []
taken_more entries text =
    ap (map (λ (e : Entry). e.payload)) (filter-append (λ (e : Entry). not (is_signed e.kind)) entries (took text ∷ []))
    ∙ map-append (λ (e : Entry). e.payload) (filter (λ (e : Entry). not (is_signed e.kind)) entries) (took text ∷ [])

signed_still : (entries : List Entry) (text : List ℕ) → signed_texts (entries ++ took text ∷ []) ≡ signed_texts entries
signed_still entries text =
    ap (map (λ (e : Entry). e.payload)) (filter-append (λ (e : Entry). is_signed e.kind) entries (took text ∷ []) ∙ append-nil (filter (λ (e : Entry). is_signed e.kind) entries))

module _ (role : Role) (partner : List Entry) where
  abbrev Good : Desk → Type 0
  Good desk = AreBacked role desk.entries partner

  backed_more : (entries : List Entry) (text : List ℕ) → Contains (signed_texts partner) text → Backed entries partner → Backed (entries ++ took text ∷ []) partner
  backed_more entries text signed backed one there =
      elim (in_more (taken_texts entries) text one (from_contains (taken_texts entries ++ text ∷ []) one (subst (λ (l : List (List ℕ)). Contains l one) (taken_more entries text) there))) [
        | inl old ↦ backed one (to_contains (taken_texts entries) one old)
        | inr same ↦ subst (Contains (signed_texts partner)) same signed
      ]

  backing_still : (entries : List Entry) (text : List ℕ) → Backed partner entries → Backed partner (entries ++ took text ∷ [])
  backing_still entries text backing one there = subst (λ (l : List (List ℕ)). Contains l one) (sym (signed_still entries text)) (backing one there)

  pub keeps_backed : (text : List ℕ) (old new : Desk) → Contains (signed_texts partner) text → Good old → TakesSet role text old new → Good new
  keeps_backed text old new signed good (inl (stays, e)) = subst Good (sym e) (record {
    legal = stays;
    others = good.others;
    backed = backed_more old.entries text signed good.backed;
    backing = backing_still old.entries text good.backing;
  })
  keeps_backed text old new signed good (inr (illegal, e)) =
      subst (λ (l : List Entry). AreBacked role l partner) (sym (ap (λ (d : Desk). d.entries) e ∙ passed_entries old text)) good

  -- ---- the sets in turn

  some_set : (a b : SetView) → (let r : Option SetView = Some a in r) ≡ Some b → a ≡ b
  some_set a b e = cc

  other_text : (number own text : List ℕ) → last_signed partner own ≡ Some text → bytes_eq own number ≡ false → IsOther number text
  other_text number own text e differs set read =
      let y = last_deed own partner text e in
      ap (λ (s : SetView). bytes_eq (number_in s) number) (some_set set y.deed.set (sym read ∙ y.read)) ∙ ap (λ (n : List ℕ). bytes_eq n number) y.number_is ∙ differs

  abbrev Step : DueSet → Desk → Desk → Type 0
  Step set = TakesSet role set.text

  abbrev key : DueSet → List ℕ
  key set = set.number

  all_keep : (number : List ℕ) (sets : List DueSet) → AreLast partner sets → Keeps Step key Good number sets
  all_keep number [] last = tt
  all_keep number (set ∷ more) last = (
    (λ old new good step. keeps_backed set.text old new (last_text set.number partner set.text last.0) good step),
    (λ old new good differs step. one_taken role number set.text old new (other_text number set.number set.text last.0 differs) step),
    all_keep number more last.2,
  )

  among_there : (number : List ℕ) (sets : List DueSet) → is_there Step key Good number sets ≡ is_among number sets
  among_there number [] = refl
  among_there number (set ∷ more) = ap (λ (b : Bool). bytes_eq set.number number || b) (among_there number more)

  there_once : (number : List ℕ) (sets : List DueSet) → AreLast partner sets → IsThereOnce Step key Good number sets
  there_once number [] last = tt
  there_once number (set ∷ more) last = (
    (λ same. among_there number more ∙ subst (λ (n : List ℕ). is_among n more ≡ false) ((bytes_eq-Decides set.number number).0 same) last.1),
    there_once number more last.2,
  )

  last_of_one : (sets : List DueSet) (set : DueSet) → AreLast partner sets → In set sets → last_signed partner set.number ≡ Some set.text
  last_of_one [] set last h = absurd h
  last_of_one (one ∷ more) set last (inl same) = subst (λ (s : DueSet). last_signed partner s.number ≡ Some s.text) same last.0
  last_of_one (one ∷ more) set last (inr h) = last_of_one more set last.2 h

-- ---- what they make of a delivery

pub record Taken (role : Role) (course : Course) (number : List ℕ) (sent : Bool) (old new partner : Desk) : Type 0 where
  pub backed : AreBacked role new.entries partner.entries
  pub stand : stand_of number role new partner ≡ hears course sent (stand_of number role old partner)

module _ (role : Role) (course : Course) (number : List ℕ) (old new partner : Desk) (sets : List DueSet) where
  pub taken_all : AreBacked role old.entries partner.entries → IsFront course number old.entries → AreLast partner.entries sets → InTurn (TakesSet role) (texts_of sets) old new
      → Taken role course number (is_among number sets) old new partner
  taken_all good fits last steps = elim (cases_Bool (is_among number sets)) [
    | inl there ↦ subst (λ (b : Bool). Taken role course number b old new partner) (sym there) (one_heard there)
    | inr away ↦ subst (λ (b : Bool). Taken role course number b old new partner) (sym away) (none_heard away)
  ]
    where
      each : InTurn (Step role partner.entries) sets old new
      each = turn_of_map (λ (set : DueSet). set.text) (TakesSet role) sets old new steps

      keeps : Keeps (Step role partner.entries) (key role partner.entries) (Good role partner.entries) number sets
      keeps = all_keep role partner.entries number sets last

      none_heard : is_among number sets ≡ false → Taken role course number false old new partner
      none_heard away =
          let p = passed (Step role partner.entries) (key role partner.entries) (Good role partner.entries) number sets old new keeps good (among_there role partner.entries number sets ∙ away) each in
          record { backed = p.good; stand = stand_untouched number role old new partner p.left }

      one_heard : is_among number sets ≡ true → Taken role course number true old new partner
      one_heard there =
          let o = once (Step role partner.entries) (key role partner.entries) (Good role partner.entries) number sets old new keeps good (among_there role partner.entries number sets ∙ there) (there_once role partner.entries number sets last) each in
          let signed : last_signed partner.entries number ≡ Some o.item.text = subst (λ (n : List ℕ). last_signed partner.entries n ≡ Some o.item.text) o.its (last_of_one role partner.entries sets o.item last o.inside) in
          let y = last_deed number partner.entries o.item.text signed in
          let front = front_untouched course number old.entries o.before.entries o.first.deeds fits in
          record {
            backed = o.end;
            stand =
                stand_untouched number role o.behind new partner o.last
                ∙ heard role number o.item.text course o.before partner o.good front y o.behind o.step
                ∙ ap (hears course true) (stand_untouched number role old o.before partner o.first);
          }
