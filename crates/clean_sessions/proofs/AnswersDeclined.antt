-- Behind an own turn each delivery that still awaits the end was declined in it.
use Rattle.std.proofs.Common.{◌≡◌, ◌≤◌, ℕ, Bool, true, false, not, ◌&&◌, ◌||◌, if◌then◌else◌, is_none, length, List, [], ◌∷◌, ◌++◌, refl, sym, ap, subst, ◌∙◌, inl, inr, append_assoc, append-nil, length-append, arith}
use Rattle.std.specs.Str.{bytes_eq}
use Rattle.std.specs.List.{filter}
use Rattle.std.proofs.lemmas.Bool.{cases_Bool}
use Rattle.std.proofs.lemmas.Slice.Eq.{bytes_eq-Decides}
use Rattle.dsd_values.specs.declared.role.Role.{Role}
use Rattle.base_record_894.specs.BaseRecord.{BaseRecord}
use Rattle.dsd_record.specs.Choices.{Chooser}
use Rattle.dsd_journal.specs.declared.entry.Entry.{Entry}
use Rattle.dsd_journal.specs.declared.entry.EntryKind.TheVariants.{Signed}
use Rattle.dsd_journal.specs.declared.header.Header.{Header}
use Rattle.delivery_book.specs.Deeds.{Deed, deeds_of, first_of, is_signed, of_delivery, proposes}
use Rattle.delivery_book.specs.Lookups.{awaits_us, is_taken, numbers_of}
use Rattle.delivery_book.specs.Signing.{Legal}
use Rattle.delivery_book.specs.Standing.{highest}
use Rattle.own_turn.specs.DueSets.{DueSet}
use Rattle.own_turn.specs.OwnTurn.{Answers, Desk, InTurn, Proposes, Turned, awaiting, is_acceptance, signed}
use Rattle.clean_sessions.specs.Declining.{DeclinesOpen, HasDeclined}
use Rattle.clean_sessions.specs.DeedShapes.{AreInTurn, first_kind}
use Rattle.clean_sessions.specs.DeliveryStands.{AreBacked, IsBetweenTurns, IsOwnSet, SignsSets, sets_in}
use Rattle.clean_sessions.proofs.BoolTests.{never_both}
use Rattle.clean_sessions.proofs.CoursesBehind.{deeds_grown}
use Rattle.clean_sessions.proofs.DeedsInTurn.{legal_turns}
use Rattle.clean_sessions.proofs.DeliveriesCovered.{known_has}
use Rattle.clean_sessions.proofs.DeliveryTurns.{answered_good, new_entries, taken_good}
use Rattle.clean_sessions.proofs.LastDeeds.{IsLaid, awaits_last, legal_laid, none_awaits}
use Rattle.clean_sessions.proofs.NumbersApart.{has}
use Rattle.clean_sessions.proofs.OneLonger.{last_same}
use Rattle.clean_sessions.proofs.SignedStands.{deeds_then, one_more}
use Rattle.clean_sessions.proofs.SigningTurns.{SignsOrNot, answered_all, proposed_all}

-- ---- lists that grow

abbrev pub Grows : List Entry → List Entry → Type 0
Grows old new = (more : List Entry) × (new ≡ old ++ more)

pub grows_then : (a b c : List Entry) → Grows a b → Grows b c → Grows a c
grows_then a b c (one, e) (two, f) = (one ++ two, f ∙ ap (λ (l : List Entry). l ++ two) e ∙ append_assoc a one two)

pub grows_not : (a b : List Entry) → b ≡ a → Grows a b
grows_not a b e = ([], e ∙ sym (append-nil a))

pub grows_sets : (number : List ℕ) (a b : List Entry) → Grows a b → sets_in number a ≤ sets_in number b
grows_sets number a b (more, e) =
    let same = ap (sets_in number) e in
    let longer = ap length (deeds_grown number a more) ∙ length-append (of_delivery number (deeds_of a)) (of_delivery number (deeds_of more)) in
    omega (arith, same, longer)

-- with as many sets of a delivery they have the same ones
pub grown_alike : (number : List ℕ) (a more : List Entry) → sets_in number (a ++ more) ≡ sets_in number a → of_delivery number (deeds_of (a ++ more)) ≡ of_delivery number (deeds_of a)
grown_alike number a more same = by (of_delivery number (deeds_of more)) (deeds_grown number a more)
  where
    by : (rest : List Deed) → of_delivery number (deeds_of (a ++ more)) ≡ of_delivery number (deeds_of a) ++ rest → of_delivery number (deeds_of (a ++ more)) ≡ of_delivery number (deeds_of a)
    by [] e = e ∙ append-nil (of_delivery number (deeds_of a))
    by (deed ∷ rest) e =
        let longer = ap length e ∙ length-append (of_delivery number (deeds_of a)) (deed ∷ rest) in
        absurd (omega (arith, longer, same))

-- ---- the step that answers a delivery

module _ (role : Role) (chooser : Chooser) (number : List ℕ) where
  answer_grows : (own : List ℕ) (old new : Desk) → Answers role chooser own old new → Grows old.entries new.entries
  answer_grows own old new (inl (text, may, e)) = (signed text ∷ [], ap (λ (d : Desk). d.entries) e)
  answer_grows own old new (inr (none, e)) = grows_not old.entries new.entries (ap (λ (d : Desk). d.entries) e)

  answer_legal : (own : List ℕ) (old new : Desk) → Legal role old.entries → Answers role chooser own old new → Legal role new.entries
  answer_legal own old new legal (inl (text, may, e)) = subst (λ (d : Desk). Legal role d.entries) (sym e) may.legal
  answer_legal own old new legal (inr (none, e)) = subst (λ (d : Desk). Legal role d.entries) (sym e) legal

  answers_grow : (numbers : List (List ℕ)) (old new : Desk) → InTurn (Answers role chooser) numbers old new → Grows old.entries new.entries
  answers_grow [] old new e = grows_not old.entries new.entries (ap (λ (d : Desk). d.entries) e)
  answers_grow (own ∷ more) old new (next, step, rest) = grows_then old.entries next.entries new.entries (answer_grows own old next step) (answers_grow more next new rest)

  pub draft_grows : (draft : BaseRecord) (old new : Desk) → Proposes role chooser draft old new → Grows old.entries new.entries
  draft_grows draft old new (inl (text, may, e)) = (signed text ∷ [], ap (λ (d : Desk). d.entries) e)
  draft_grows draft old new (inr (none, e)) = grows_not old.entries new.entries (ap (λ (d : Desk). d.entries) e)

  pub drafts_grow : (drafts : List BaseRecord) (old new : Desk) → InTurn (Proposes role chooser) drafts old new → Grows old.entries new.entries
  drafts_grow [] old new e = grows_not old.entries new.entries (ap (λ (d : Desk). d.entries) e)
  drafts_grow (draft ∷ more) old new (next, step, rest) = grows_then old.entries next.entries new.entries (draft_grows draft old next step) (drafts_grow more next new rest)

  record Found (old new : Desk) : Type 0 where
    before : Desk
    behind : Desk
    step : Answers role chooser number before behind
    legal : Legal role before.entries
    first : Grows old.entries before.entries
    last : Grows behind.entries new.entries

  find_answer : (numbers : List (List ℕ)) (old new : Desk) → Legal role old.entries → has number numbers ≡ true → InTurn (Answers role chooser) numbers old new → Found old new
  find_answer [] old new legal there e = absurd (cc)
  find_answer (own ∷ more) old new legal there (next, step, rest) = elim (cases_Bool (bytes_eq own number)) [
    | inl same ↦ record {
      before = old;
      behind = next;
      step = subst (λ (n : List ℕ). Answers role chooser n old next) ((bytes_eq-Decides own number).0 same) step;
      legal = legal;
      first = grows_not old.entries old.entries refl;
      last = answers_grow more next new rest;
    }
    | inr differs ↦
        let f = find_answer more next new (answer_legal own old next legal step) (subst (λ (b : Bool). (b || has number more) ≡ true) differs there) rest in
        record {
          before = f.before;
          behind = f.behind;
          step = f.step;
          legal = f.legal;
          first = grows_then old.entries next.entries f.before.entries (answer_grows own old next step) f.first;
          last = f.last;
        }
  ]

  -- ---- whether it still awaits

  awaits_alike : (a b : List Entry) → of_delivery number (deeds_of a) ≡ of_delivery number (deeds_of b) → awaits_us a number ≡ awaits_us b number
  awaits_alike a b same =
      ap (λ (l : List Deed). is_taken (highest (filter (λ (d : Deed). proposes d.set) l)) && is_none (first_of (filter (λ (d : Deed). not (proposes d.set)) l))) same

  -- behind an own set nothing awaits this end
  own_last : (entries : List Entry) (text : List ℕ) (acceptance : Bool) → IsOwnSet number acceptance text → Legal role (entries ++ signed text ∷ []) → awaits_us (entries ++ signed text ∷ []) number ≡ false
  own_last entries text acceptance own legal = by (legal_laid role (entries ++ signed text ∷ []) number legal)
    where
      deed : Deed
      deed = record { kind = Signed; text = text; set = own.set }

      is : of_delivery number (deeds_of (entries ++ signed text ∷ [])) ≡ of_delivery number (deeds_of entries) ++ deed ∷ []
      is = deeds_then number text acceptance own entries

      turns : AreInTurn (first_kind role) 0 (of_delivery number (deeds_of (entries ++ signed text ∷ [])))
      turns = legal_turns role (entries ++ signed text ∷ []) number legal

      by : IsLaid role number (of_delivery number (deeds_of (entries ++ signed text ∷ []))) → awaits_us (entries ++ signed text ∷ []) number ≡ false
      by (inl none) = none_awaits role number (entries ++ signed text ∷ []) turns none
      by (inr (front, last, w)) =
          let same = last_same (of_delivery number (deeds_of entries)) front deed last (sym is ∙ w.is) in
          awaits_last role number (entries ++ signed text ∷ []) turns front last w ∙ ap (λ (d : Deed). not (is_signed d.kind) && proposes d.set) (sym same.1)

  not_signed : (When : List Entry → Type 0) (partner : List Entry) (old new : Desk) → SignsOrNot When (λ (d : Desk). AreBacked role d.entries partner) number old new → awaits_us new.entries number ≡ true
      → of_delivery number (deeds_of new.entries) ≡ of_delivery number (deeds_of old.entries)
  not_signed When partner old new (inl left) awaits = left.deeds
  not_signed When partner old new (inr s) awaits =
      let away = own_last s.before.entries s.text s.acceptance s.own s.behind.legal in
      absurd (never_both _ awaits (awaits_alike new.entries (s.before.entries ++ signed s.text ∷ []) s.last.deeds ∙ away))

-- ---- the turn

module _ (header : Header) (chooser : Chooser) (signing : SignsSets header.role chooser) (old partner new : Desk) (sets : List DueSet) (text load : List ℕ)
    (between : IsBetweenTurns header.role old partner sets text) (t : Turned header chooser old text new load) where
  abbrev role : Role
  role = header.role

  abbrev deeds : List ℕ → Desk → List Deed
  deeds number desk = of_delivery number (deeds_of desk.entries)

  some_known : (number : List ℕ) (entries : List Entry) → Legal role entries → awaits_us entries number ≡ true → 1 ≤ sets_in number entries
  some_known number entries legal awaits = by (of_delivery number (deeds_of entries)) refl
    where
      by : (l : List Deed) → of_delivery number (deeds_of entries) ≡ l → 1 ≤ sets_in number entries
      by [] none = absurd (never_both _ awaits (none_awaits role number entries (legal_turns role entries number legal) none))
      by (one ∷ more) e = let count = ap length e in omega (arith, count)

  has_filter : (test : List ℕ → Bool) (number : List ℕ) (numbers : List (List ℕ)) → has number numbers ≡ true → test number ≡ true → has number (filter test numbers) ≡ true
  has_filter test number [] there yes_it = absurd (cc)
  has_filter test number (own ∷ more) there yes_it = elim (cases_Bool (bytes_eq own number)) [
    | inl same ↦
        let here : test own ≡ true = ap test ((bytes_eq-Decides own number).0 same) ∙ yes_it in
        subst (λ (b : Bool). has number (if b then own ∷ filter test more else filter test more) ≡ true) (sym here) (ap (λ (b : Bool). b || has number (filter test more)) same)
    | inr differs ↦ by (test own) (has_filter test number more (subst (λ (b : Bool). (b || has number more) ≡ true) differs there) yes_it)
  ]
    where
      or_true : (b : Bool) → (b || true) ≡ true
      or_true true = refl
      or_true false = refl

      by : (b : Bool) → has number (filter test more) ≡ true → has number (if b then own ∷ filter test more else filter test more) ≡ true
      by true e = ap (λ (c : Bool). bytes_eq own number || c) e ∙ or_true (bytes_eq own number)
      by false e = e

  pub declines_open : DeclinesOpen role chooser new.entries
  declines_open number awaits =
      let taken = taken_good header chooser signing old partner new sets text load between t in
      let answered = answered_good header chooser signing old partner new sets text load between t in
      let a = answered_all role chooser signing partner.entries number t.taken t.answered taken t.answers in
      let p = proposed_all role chooser signing partner.entries number chooser.drafts t.answered t.proposed answered t.proposes in
      let last : deeds number new ≡ deeds number t.proposed = ap (λ (l : List Entry). of_delivery number (deeds_of l)) (new_entries header chooser signing old partner new sets text load between t) in
      let there : awaits_us t.proposed.entries number ≡ true = sym (awaits_alike role chooser number new.entries t.proposed.entries last) ∙ awaits in
      let second : deeds number t.proposed ≡ deeds number t.answered = not_signed role chooser number _ partner.entries t.answered t.proposed p.made there in
      let still : awaits_us t.answered.entries number ≡ true = sym (awaits_alike role chooser number t.proposed.entries t.answered.entries second) ∙ there in
      let first : deeds number t.answered ≡ deeds number t.taken = not_signed role chooser number _ partner.entries t.taken t.answered a.made still in
      let begun : awaits_us t.taken.entries number ≡ true = sym (awaits_alike role chooser number t.answered.entries t.taken.entries first) ∙ still in
      let f = find_answer role chooser number (awaiting t.taken.entries) t.taken t.answered taken.legal
      (has_filter (awaits_us t.taken.entries) number (numbers_of t.taken.entries) (known_has number t.taken.entries (some_known number t.taken.entries taken.legal begun)) begun) t.answers in
      by f (ap length first) (ap length (last ∙ second ∙ first))
    where
      by : Found role chooser number t.taken t.answered → sets_in number t.answered.entries ≡ sets_in number t.taken.entries → sets_in number new.entries ≡ sets_in number t.taken.entries
          → HasDeclined role chooser number new.entries
      by f same all = at f.step
        where
          begun_sets : sets_in number t.taken.entries ≤ sets_in number f.before.entries
          begun_sets = grows_sets number t.taken.entries f.before.entries f.first

          at : Answers role chooser number f.before f.behind → HasDeclined role chooser number new.entries
          at (inl (text, may, e)) =
              let own = signing.answers f.before.entries number text f.legal may in
              let count = one_more number text (is_acceptance chooser f.before.entries number may.chosen.version) own f.before.entries in
              let made : sets_in number f.behind.entries ≡ sets_in number (f.before.entries ++ signed text ∷ []) = ap (λ (d : Desk). sets_in number d.entries) e in
              let grew = grows_sets number f.behind.entries t.answered.entries f.last in
              let least = begun_sets in
              absurd (omega (arith, count, made, grew, least, same))
          at (inr (none, e)) =
              let later : Grows f.before.entries new.entries =
              grows_then f.before.entries t.answered.entries new.entries (subst (λ (d : Desk). Grows d.entries t.answered.entries) e f.last)
              (grows_then t.answered.entries t.proposed.entries new.entries (drafts_grow role chooser number chooser.drafts t.answered t.proposed t.proposes)
              (grows_not t.proposed.entries new.entries (new_entries header chooser signing old partner new sets text load between t))) in
              let size = ap (sets_in number) later.1 in
              let grew = grows_sets number f.before.entries new.entries later in
              let least = begun_sets in
              record {
                before = f.before.entries;
                more = later.0;
                grown = later.1;
                alike = ap (λ (l : List Entry). of_delivery number (deeds_of l)) later.1 ∙ grown_alike number f.before.entries later.0 (omega (arith, size, grew, least, all));
                none = none;
              }
