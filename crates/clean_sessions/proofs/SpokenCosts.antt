-- What an own turn speaks of a delivery is taken off what may still be spoken of it.
use Rattle.std.proofs.Common.{◌≡◌, ◌≤◌, ◌+◌, ◌*◌, ℕ, Bool, true, false, if◌then◌else◌, cond, length, List, [], ◌∷◌, ◌++◌, Option, Some, None, refl, sym, ap, subst, ◌∙◌, inl, inr, append-nil, arith}
use Rattle.std.specs.Str.{bytes_eq}
use Rattle.std.specs.List.{filter, cons_option}
use Rattle.std.proofs.lemmas.Bool.{cases_Bool}
use Rattle.std.proofs.lemmas.List.Elements.{filter-append, filter_map-append}
use Rattle.std.proofs.lemmas.Slice.Eq.{bytes_eq-Decides}
use Rattle.dsd_values.specs.declared.role.Role.{Role}
use Rattle.dsd_record.specs.Choices.{Chooser}
use Rattle.dsd_record.specs.ReadSets.{set_in}
use Rattle.dsd_record.specs.declared.set_view.SetView.{SetView}
use Rattle.dsd_journal.specs.declared.entry.Entry.{Entry}
use Rattle.dsd_journal.specs.declared.entry.EntryKind.TheVariants.{Signed, Took}
use Rattle.dsd_journal.specs.declared.header.Header.{Header}
use Rattle.delivery_book.specs.Deeds.{Deed, deed_of, deed_with, deeds_of, is_signed, number_in, of_delivery, proposes, signed_of}
use Rattle.delivery_book.specs.Refusals.{was_taken}
use Rattle.delivery_book.proofs.Grown.{of_own}
use Rattle.delivery_book.proofs.Listed.{deeds_more}
use Rattle.own_turn.specs.DueSets.{Asked, DueSet, asked_of, with_known, with_known_set}
use Rattle.own_turn.specs.OwnTurn.{Desk, TakesSet, Turned, gathered, lent, sets_lent, signed, took, with_signature}
use Rattle.own_turn.proofs.TurnsGrowing.{spoken_entries}
use Rattle.clean_sessions.specs.Courses.{Told}
use Rattle.clean_sessions.specs.DeliveryStands.{IsBetweenTurns, SignsSets, is_among, told_in}
use Rattle.clean_sessions.specs.Untouched.{IsUntouched}
use Rattle.clean_sessions.proofs.AskedApart.{other_asked, own_asked}
use Rattle.clean_sessions.proofs.DeliveryTurns.{answered_good, each_keeps, taken_good}
use Rattle.clean_sessions.proofs.GatheredSets.{gathered_last}
use Rattle.clean_sessions.proofs.SignedSpare.{AreSpare, cost, most_times, share, spare, spare_same, spare_signed, spare_then, since, spoken_spare, times_then}
use Rattle.clean_sessions.proofs.SigningTurns.{SignsOrNot, answered_all, proposed_all, signed_asked}
use Rattle.clean_sessions.proofs.SpareSteps.{gathered_once}
use Rattle.clean_sessions.proofs.SpokenStands.{spoken_told}
use Rattle.clean_sessions.proofs.TakingApart.{asked_number, fault_left}

module _ (number : List ℕ) where
  -- the sets of it that the end of this desk has signed, and how often the last was spoken
  abbrev pub own_sets : Desk → List Deed
  own_sets desk = signed_of number (deeds_of desk.entries)

  abbrev pub times_of : Desk → ℕ
  times_of desk = (told_in number desk).times

  -- ---- taking

  took_none : (entries : List Entry) (text : List ℕ) → signed_of number (deeds_of (entries ++ took text ∷ [])) ≡ signed_of number (deeds_of entries)
  took_none entries text =
      ap (signed_of number) (filter_map-append deed_of entries (took text ∷ []))
      ∙ ap (filter (λ (d : Deed). is_signed d.kind)) (filter-append (λ (d : Deed). bytes_eq (number_in d.set) number) (deeds_of entries) (deeds_of (took text ∷ [])))
      ∙ filter-append (λ (d : Deed). is_signed d.kind) (of_delivery number (deeds_of entries)) (of_delivery number (deeds_of (took text ∷ [])))
      ∙ ap (λ (l : List Deed). signed_of number (deeds_of entries) ++ l) (by_set (set_in text))
      ∙ append-nil (signed_of number (deeds_of entries))
    where
      by_number : (set : SetView) (b : Bool) → filter (λ (d : Deed). is_signed d.kind) (cond b ((record { kind = Took; text = text; set = set }) ∷ []) []) ≡ []
      by_number set true = refl
      by_number set false = refl

      by_set : (set : Option SetView) → filter (λ (d : Deed). is_signed d.kind) (of_delivery number (cons_option (deed_with (took text) set) [])) ≡ []
      by_set None = refl
      by_set (Some set) = by_number set (bytes_eq (number_in set) number)

  known_times : (all : List Asked) (key : List ℕ) → (asked_of number (with_known all key)).times ≡ (asked_of number all).times
  known_times all key = elim (cases_Bool (bytes_eq key number)) [
    | inl same ↦
        let equal : key ≡ number = (bytes_eq-Decides key number).0 same in
        let new : Asked = record (asked_of number all) { since = true; met = true } in
        ap (λ (k : List ℕ). (asked_of number (with_known all k)).times) equal
        ∙ subst (λ (n : List ℕ). (asked_of n (with_known all number)).times ≡ (asked_of number all).times) (asked_number number all) (ap (λ (a : Asked). a.times) (own_asked all new))
    | inr differs ↦
        ap (λ (a : Asked). a.times) (other_asked all (record (asked_of key all) { since = true; met = true }) number (ap (λ (n : List ℕ). bytes_eq n number) (asked_number key all) ∙ differs))
  ]

  known_set_times : (all : List Asked) (set : Option SetView) → (asked_of number (with_known_set all set)).times ≡ (asked_of number all).times
  known_set_times all None = refl
  known_set_times all (Some set) = by (proposes set)
    where
      by : (b : Bool) → (asked_of number (if b then with_known all (number_in set) else all)).times ≡ (asked_of number all).times
      by true = known_times all (number_in set)
      by false = refl

  abbrev Same : Desk → Desk → Type 0
  Same old new = (own_sets new ≡ own_sets old) × (times_of new ≡ times_of old)

  passed_same : (old : Desk) (text : List ℕ) (b : Bool) → Same old (if b then record old { asked = with_known_set old.asked (set_in text) } else record old { refused = old.refused + 1 })
  passed_same old text true = (refl, known_set_times old.asked (set_in text))
  passed_same old text false = (refl, refl)

  takes_same : (role : Role) (first : Desk) (text : List ℕ) (old new : Desk) → Same first old → TakesSet role text old new → Same first new
  takes_same role first text old new same (inl (legal, e)) = subst (Same first) (sym e) (took_none old.entries text ∙ same.0, same.1)
  takes_same role first text old new same (inr (none, e)) =
      let p = passed_same old text (was_taken text old.entries) in
      subst (Same first) (sym e) (p.0 ∙ same.0, p.1 ∙ same.1)

  -- ---- signing

  abbrev pub Moves : Bool → ℕ → Desk → Desk → Type 0
  Moves once count old new = AreSpare once count (own_sets old) (times_of old) (own_sets new) (times_of new)

  pub moves_then : (once : Bool) (count : ℕ) (a b c : Desk) → Moves once count a b → Moves once count b c → Moves once count a c
  moves_then once count a b c first second = spare_then once count (own_sets a) (times_of a) (own_sets b) (times_of b) (own_sets c) (times_of c) first second

  moves_same : (once : Bool) (count : ℕ) (a b : Desk) → Same a b → Moves once count a b
  moves_same once count a b same = spare_same once count (own_sets a) (times_of a) (own_sets b) (times_of b) same.0 same.1

  untouched_moves : (once : Bool) (count : ℕ) (a b : Desk) → IsUntouched number a b → Moves once count a b
  untouched_moves once count a b u = moves_same once count a b (ap (filter (λ (d : Deed). is_signed d.kind)) u.deeds, ap (λ (k : Asked). k.times) u.asked)

  signs_moves : (When : List Entry → Type 0) (Good : Desk → Type 0) (once : Bool) (count : ℕ) (old new : Desk) → SignsOrNot When Good number old new → Moves once count old new
  signs_moves When Good once count old new (inl left) = untouched_moves once count old new left
  signs_moves When Good once count old new (inr s) =
      let behind : Desk = with_signature s.before number s.acceptance s.text in
      let deed : Deed = record { kind = Signed; text = s.text; set = s.own.set } in
      let more : own_sets behind ≡ own_sets s.before ++ deed ∷ [] =
      ap (signed_of number) (deeds_more s.before.entries (signed s.text) s.own.set s.own.read)
      ∙ ap (filter (λ (d : Deed). is_signed d.kind)) (of_own number (deeds_of s.before.entries) deed s.own.its)
      ∙ filter-append (λ (d : Deed). is_signed d.kind) (of_delivery number (deeds_of s.before.entries)) (deed ∷ []) in
      let none : times_of behind ≡ 0 = ap (λ (a : Asked). a.times) (signed_asked number s.before.asked s.acceptance) in
      let made : Moves once count s.before behind =
      subst (λ (l : List Deed). AreSpare once count (own_sets s.before) (times_of s.before) l (times_of behind)) (sym more)
      (subst (AreSpare once count (own_sets s.before) (times_of s.before) (own_sets s.before ++ deed ∷ [])) (sym none) (spare_signed once count (own_sets s.before) (times_of s.before) deed)) in
      moves_then once count old s.before new (untouched_moves once count old s.before s.first) (moves_then once count s.before behind new made (untouched_moves once count behind new s.last))

-- ---- the turn

module _ (header : Header) (chooser : Chooser) (signing : SignsSets header.role chooser) (old partner new : Desk) (sets : List DueSet) (text load : List ℕ)
    (between : IsBetweenTurns header.role old partner sets text) (t : Turned header chooser old text new load) (number : List ℕ) where
  abbrev pub goes : Bool
  goes = is_among number (gathered header t.proposed)

  taken_same : Same number old t.taken
  taken_same =
      let each = each_keeps (TakesSet header.role) (Same number old) (sets_lent text) old t.takes.0 (λ set a b same step. takes_same number header.role old set a b same step) (refl, refl) t.takes.1 in
      let fault = fault_left header.role number (lent text).fault t.takes.0 in
      subst (Same number old) (sym t.takes.2) (ap (filter (λ (d : Deed). is_signed d.kind)) fault.deeds ∙ each.0, ap (λ (k : Asked). k.times) fault.asked ∙ each.1)

  proposed_moves : (once : Bool) (count : ℕ) → Moves number once count old t.proposed
  proposed_moves once count =
      let role = header.role in
      let taken = taken_good header chooser signing old partner new sets text load between t in
      let answered = answered_good header chooser signing old partner new sets text load between t in
      let a = answered_all role chooser signing partner.entries number t.taken t.answered taken t.answers in
      let p = proposed_all role chooser signing partner.entries number chooser.drafts t.answered t.proposed answered t.proposes in
      moves_then number once count old t.taken t.proposed (moves_same number once count old t.taken taken_same)
      (moves_then number once count t.taken t.answered t.proposed (signs_moves number _ _ once count t.taken t.answered a.made) (signs_moves number _ _ once count t.answered t.proposed p.made))

  new_sets : own_sets number new ≡ own_sets number t.proposed
  new_sets = ap (λ (d : Desk). own_sets number d) t.speaks ∙ ap (λ (l : List Entry). signed_of number (deeds_of l)) (spoken_entries t.proposed (gathered header t.proposed))

  new_times : times_of number new ≡ times_then goes (times_of number t.proposed)
  new_times =
      ap (λ (d : Desk). times_of number d) t.speaks ∙ ap (λ (k : Told). k.times) (spoken_told number t.proposed (gathered header t.proposed) (gathered_last header t.proposed))
      ∙ by goes
    where
      by : (b : Bool) → (let k : Told = (if b then record { times = (told_in number t.proposed).times + 1; since = false; met = (told_in number t.proposed).met; accepts = (told_in number t.proposed).accepts } else told_in number t.proposed) in k).times
          ≡ times_then b (times_of number t.proposed)
      by true = refl
      by false = refl

  pub record Costs (once : Bool) (count : ℕ) : Type 0 where
    pub less : share once (cost goes (own_sets number t.proposed)) + spare once (own_sets number new) (times_of number new) + 2 * since count (own_sets number old) ≤ spare once (own_sets number old) (times_of number old) + 2 * since count (own_sets number new)
    pub kept : count ≤ length (own_sets number new)

  pub spoken_low : goes ≡ true → times_of number t.proposed ≤ 1
  spoken_low there = gathered_once header chooser signing old partner new sets text load between t number there

  pub turn_costs : (once : Bool) (count : ℕ) → (goes ≡ true → times_of number t.proposed ≤ most_times once) → count ≤ length (own_sets number old) → Costs once count
  turn_costs once count low there =
      let m = proposed_moves once count there in
      let before = m.less in
      let spoken_less = spoken_spare once goes (own_sets number t.proposed) (times_of number t.proposed) low in
      let later : spare once (own_sets number new) (times_of number new) ≡ spare once (own_sets number t.proposed) (times_then goes (times_of number t.proposed)) =
      ap (λ (l : List Deed). spare once l (times_of number new)) new_sets ∙ ap (spare once (own_sets number t.proposed)) new_times in
      let same : since count (own_sets number new) ≡ since count (own_sets number t.proposed) = ap (since count) new_sets in
      record { less = omega (arith, before, spoken_less, later, same); kept = subst (λ (l : List Deed). count ≤ length l) (sym new_sets) m.kept }
