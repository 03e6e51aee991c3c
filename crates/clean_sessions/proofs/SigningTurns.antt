-- What an own turn signs of one delivery: its answer, or its first set.
use Rattle.std.proofs.Common.{◌≡◌, ◌⊎◌, ℕ, Bool, true, false, not, ◌||◌, List, [], ◌∷◌, ◌++◌, map, Option, Some, refl, sym, ap, subst, ◌∙◌, inl, inr, append-nil}
use Rattle.std.specs.Prelude.{Contains}
use Rattle.std.specs.Str.{bytes_eq}
use Rattle.std.specs.List.{filter}
use Rattle.std.proofs.lemmas.Bool.{cases_Bool}
use Rattle.std.proofs.lemmas.List.{map-append}
use Rattle.std.proofs.lemmas.List.Elements.{filter-append}
use Rattle.std.proofs.lemmas.Slice.Eq.{bytes_eq-Decides}
use Rattle.dsd_values.specs.declared.role.Role.{Role}
use Rattle.base_record_894.specs.BaseRecord.{BaseRecord}
use Rattle.dsd_record.specs.Choices.{Chooser}
use Rattle.dsd_record.specs.declared.set_view.SetView.{SetView}
use Rattle.dsd_journal.specs.declared.entry.Entry.{Entry}
use Rattle.delivery_book.specs.Agreement.{Backed}
use Rattle.delivery_book.specs.Deeds.{Deed, deeds_of, is_signed, number_in, of_delivery, signed_texts, taken_texts}
use Rattle.delivery_book.specs.Lookups.{awaits_us, numbers_of}
use Rattle.delivery_book.specs.Signing.{Legal}
use Rattle.delivery_book.specs.Standing.{IsNew}
use Rattle.delivery_book.proofs.Grown.{of_own}
use Rattle.delivery_book.proofs.Listed.{deeds_more}
use Rattle.delivery_book.proofs.Members.{In, from_contains, to_contains}
use Rattle.own_turn.specs.DueSets.{Asked, asked_of, with_signed}
use Rattle.own_turn.specs.OwnTurn.{Answers, Desk, InTurn, Proposes, awaiting, is_acceptance, signed, with_signature}
use Rattle.clean_sessions.specs.DeliveryStands.{AreBacked, IsOwnSet, SignsSets}
use Rattle.clean_sessions.specs.Untouched.{IsUntouched}
use Rattle.clean_sessions.proofs.AskedApart.{other_asked, own_asked}
use Rattle.clean_sessions.proofs.KeyedSteps.{Once, IsThereOnce, Keeps, is_there, once, passed}
use Rattle.clean_sessions.proofs.NumbersApart.{Apart, apart_filter, has, numbers_apart}
use Rattle.clean_sessions.proofs.TakingApart.{asked_number, entry_other, nothing_touched, then_untouched}

-- ---- a text more that was signed

signed_more : (entries : List Entry) (text : List ℕ) → signed_texts (entries ++ signed text ∷ []) ≡ signed_texts entries ++ text ∷ []
signed_more entries text =
    ap (map (λ (e : Entry). e.payload)) (filter-append (λ (e : Entry). is_signed e.kind) entries (signed text ∷ []))
    ∙ map-append (λ (e : Entry). e.payload) (filter (λ (e : Entry). is_signed e.kind) entries) (signed text ∷ [])

taken_still : (entries : List Entry) (text : List ℕ) → taken_texts (entries ++ signed text ∷ []) ≡ taken_texts entries
taken_still entries text =
    ap (map (λ (e : Entry). e.payload)) (filter-append (λ (e : Entry). not (is_signed e.kind)) entries (signed text ∷ []) ∙ append-nil (filter (λ (e : Entry). not (is_signed e.kind)) entries))

in_front : {X : Type 0} (xs ys : List X) (x : X) → In x xs → In x (xs ++ ys)
in_front [] ys x h = absurd h
in_front (z ∷ xs) ys x (inl e) = inl e
in_front (z ∷ xs) ys x (inr h) = inr (in_front xs ys x h)

still_backs : (partner entries : List Entry) (text : List ℕ) → Backed partner entries → Backed partner (entries ++ signed text ∷ [])
still_backs partner entries text backing one there =
    subst (λ (l : List (List ℕ)). Contains l one) (sym (signed_more entries text))
    (to_contains (signed_texts entries ++ text ∷ []) one (in_front (signed_texts entries) (text ∷ []) one (from_contains (signed_texts entries) one (backing one there))))

signs_backed : (role : Role) (entries partner : List Entry) (text : List ℕ) → AreBacked role entries partner → Legal role (entries ++ signed text ∷ []) → AreBacked role (entries ++ signed text ∷ []) partner
signs_backed role entries partner text good legal = record {
  legal = legal;
  others = good.others;
  backed = λ one there. good.backed one (subst (λ (l : List (List ℕ)). Contains l one) (taken_still entries text) there);
  backing = still_backs partner entries text good.backing;
}

-- ---- what due sets ask then

pub signed_asked : (number : List ℕ) (all : List Asked) (acceptance : Bool)
    → asked_of number (with_signed all number acceptance) ≡ record (asked_of number all) { times = 0; since = false; accepts = (asked_of number all).accepts || acceptance }
signed_asked number all acceptance =
    let new : Asked = record (asked_of number all) { times = 0; since = false; accepts = (asked_of number all).accepts || acceptance } in
    let same : new.number ≡ number = asked_number number all in
    subst (λ (n : List ℕ). asked_of n (with_signed all number acceptance) ≡ new) same (own_asked all new)

signed_other : (number own : List ℕ) (all : List Asked) (acceptance : Bool) → bytes_eq own number ≡ false → asked_of number (with_signed all own acceptance) ≡ asked_of number all
signed_other number own all acceptance differs =
    other_asked all (record (asked_of own all) { times = 0; since = false; accepts = (asked_of own all).accepts || acceptance }) number
    (ap (λ (n : List ℕ). bytes_eq n number) (asked_number own all) ∙ differs)

some_set : (a b : SetView) → (let r : Option SetView = Some a in r) ≡ Some b → a ≡ b
some_set a b e = cc

other_signed : (number own text : List ℕ) (acceptance : Bool) (desk : Desk) → IsOwnSet own acceptance text → bytes_eq own number ≡ false → IsUntouched number desk (with_signature desk own acceptance text)
other_signed number own text acceptance desk is differs = record {
  deeds = entry_other number desk.entries (signed text) (λ set read. ap (λ (s : SetView). bytes_eq (number_in s) number) (some_set set is.set (sym read ∙ is.read)) ∙ ap (λ (n : List ℕ). bytes_eq n number) is.its ∙ differs);
  asked = signed_other number own desk.asked acceptance differs;
}

-- ---- one set of the delivery was signed

pub record SignsOne (When : List Entry → Type 0) (Good : Desk → Type 0) (number : List ℕ) (old new : Desk) : Type 0 where
  pub before : Desk
  pub text : List ℕ
  pub acceptance : Bool
  pub own : IsOwnSet number acceptance text
  pub when : When before.entries
  pub good : Good before
  pub first : IsUntouched number old before
  pub behind : Good (with_signature before number acceptance text)
  pub last : IsUntouched number (with_signature before number acceptance text) new

abbrev pub SignsOrNot : (List Entry → Type 0) → (Desk → Type 0) → List ℕ → Desk → Desk → Type 0
SignsOrNot When Good number old new = IsUntouched number old new ⊎ SignsOne When Good number old new

-- ---- answering

module _ (role : Role) (chooser : Chooser) (signs : SignsSets role chooser) (partner : List Entry) (number : List ℕ) where
  abbrev pub Good : Desk → Type 0
  Good desk = AreBacked role desk.entries partner

  abbrev key : List ℕ → List ℕ
  key own = own

  pub answer_good : (own : List ℕ) (old new : Desk) → Good old → Answers role chooser own old new → Good new
  answer_good own old new good (inl (text, may, e)) = subst Good (sym e) (signs_backed role old.entries partner text good may.legal)
  answer_good own old new good (inr (none, e)) = subst Good (sym e) good

  answer_other : (own : List ℕ) (old new : Desk) → Good old → bytes_eq own number ≡ false → Answers role chooser own old new → IsUntouched number old new
  answer_other own old new good differs (inl (text, may, e)) =
      subst (IsUntouched number old) (sym e) (other_signed number own text (is_acceptance chooser old.entries own may.chosen.version) old (signs.answers old.entries own text good.legal may) differs)
  answer_other own old new good differs (inr (none, e)) = subst (IsUntouched number old) (sym e) (nothing_touched number old)

  answers_keep : (numbers : List (List ℕ)) → Keeps (Answers role chooser) key Good number numbers
  answers_keep [] = tt
  answers_keep (own ∷ more) = (answer_good own, answer_other own, answers_keep more)

  has_there : (own : List ℕ) (numbers : List (List ℕ)) → is_there (Answers role chooser) key Good own numbers ≡ has own numbers
  has_there own [] = refl
  has_there own (one ∷ more) = ap (λ (b : Bool). bytes_eq one own || b) (has_there own more)

  there_once : (numbers : List (List ℕ)) → Apart numbers → IsThereOnce (Answers role chooser) key Good number numbers
  there_once [] apart = tt
  there_once (own ∷ more) apart = (
    (λ same. has_there number more ∙ subst (λ (n : List ℕ). has n more ≡ false) ((bytes_eq-Decides own number).0 same) apart.0),
    there_once more apart.1,
  )

  abbrev pub Awaits : List Entry → Type 0
  Awaits entries = awaits_us entries number ≡ true

  pub record AfterAnswers (old new : Desk) : Type 0 where
    pub good : Good new
    pub made : SignsOrNot Awaits Good number old new

  one_answered : (old before behind new : Desk) (own : List ℕ) → own ≡ number → Good before → IsUntouched number old before → Good behind → IsUntouched number behind new → Answers role chooser own before behind
      → SignsOrNot Awaits Good number old new
  one_answered old before behind new own its good first good_behind last (inr (none, e)) =
      inl (then_untouched number old before new first (then_untouched number before behind new (subst (IsUntouched number before) (sym e) (nothing_touched number before)) last))
  one_answered old before behind new own its good first good_behind last (inl (text, may, e)) =
      let acceptance : Bool = is_acceptance chooser before.entries own may.chosen.version in
      let made : behind ≡ with_signature before number acceptance text = e ∙ ap (λ (n : List ℕ). with_signature before n acceptance text) its in
      inr (record {
        before = before;
        text = text;
        acceptance = acceptance;
        own = subst (λ (n : List ℕ). IsOwnSet n acceptance text) its (signs.answers before.entries own text good.legal may);
        when = subst (λ (n : List ℕ). awaits_us before.entries n ≡ true) its may.chosen.awaits;
        good = good;
        first = first;
        behind = subst Good made good_behind;
        last = subst (λ (d : Desk). IsUntouched number d new) made last;
      })

  -- where the delivery awaits this end
  pub answered_once : (old new : Desk) → Good old → InTurn (Answers role chooser) (awaiting old.entries) old new → has number (awaiting old.entries) ≡ true → Once (Answers role chooser) key Good number (awaiting old.entries) old new
  answered_once old new good steps there =
      once (Answers role chooser) key Good number (awaiting old.entries) old new (answers_keep (awaiting old.entries)) good (has_there number (awaiting old.entries) ∙ there)
      (there_once (awaiting old.entries) (apart_filter (awaits_us old.entries) (numbers_of old.entries) (numbers_apart old.entries))) steps

  pub answered_all : (old new : Desk) → Good old → InTurn (Answers role chooser) (awaiting old.entries) old new → AfterAnswers old new
  answered_all old new good steps = elim (cases_Bool (is_there (Answers role chooser) key Good number (awaiting old.entries))) [
    | inl there ↦
        let o = once (Answers role chooser) key Good number (awaiting old.entries) old new (answers_keep (awaiting old.entries)) good there
        (there_once (awaiting old.entries) (apart_filter (awaits_us old.entries) (numbers_of old.entries) (numbers_apart old.entries))) steps in
        record { good = o.end; made = one_answered old o.before o.behind new o.item o.its o.good o.first o.good_behind o.last o.step }
    | inr away ↦
        let p = passed (Answers role chooser) key Good number (awaiting old.entries) old new (answers_keep (awaiting old.entries)) good away steps in
        record { good = p.good; made = inl p.left }
  ]

  -- ---- proposing

  pub draft_good : (draft : BaseRecord) (old new : Desk) → Good old → Proposes role chooser draft old new → Good new
  draft_good draft old new good (inl (text, may, e)) = subst Good (sym e) (signs_backed role old.entries partner text good may.legal)
  draft_good draft old new good (inr (none, e)) = subst Good (sym e) good

  draft_other : (draft : BaseRecord) (old new : Desk) → Good old → bytes_eq draft.number number ≡ false → Proposes role chooser draft old new → IsUntouched number old new
  draft_other draft old new good differs (inl (text, may, e)) =
      subst (IsUntouched number old) (sym e) (other_signed number draft.number text false old (signs.drafts old.entries draft text good.legal may) differs)
  draft_other draft old new good differs (inr (none, e)) = subst (IsUntouched number old) (sym e) (nothing_touched number old)

  -- it is new, and a draft
  abbrev pub IsNewIn : List Entry → Type 0
  IsNewIn entries = IsNew number (deeds_of entries) × ((draft : BaseRecord) × Contains chooser.drafts draft × (draft.number ≡ number))

  -- a delivery that is known is not proposed
  known_left : (drafts : List BaseRecord) (old new : Desk) → Good old → (IsNew number (deeds_of old.entries) → ⊥) → InTurn (Proposes role chooser) drafts old new → Good new × IsUntouched number old new
  known_left [] old new good known e = (subst Good (sym e) good, subst (IsUntouched number old) (sym e) (nothing_touched number old))
  known_left (draft ∷ drafts) old new good known (next, step, more) =
      let left = by (bytes_eq draft.number number) refl step in
      let rest = known_left drafts next new (draft_good draft old next good step) (λ new_there. known (sym left.deeds ∙ new_there)) more in
      (rest.0, then_untouched number old next new left rest.1)
    where
      by : (b : Bool) → bytes_eq draft.number number ≡ b → Proposes role chooser draft old next → IsUntouched number old next
      by false differs s = draft_other draft old next good differs s
      by true same (inl (text, may, e)) = absurd (known (subst (λ (n : List ℕ). IsNew n (deeds_of old.entries)) ((bytes_eq-Decides draft.number number).0 same) may.chosen.new))
      by true same (inr (none, e)) = subst (IsUntouched number old) (sym e) (nothing_touched number old)

  pub record AfterDrafts (old new : Desk) : Type 0 where
    pub good : Good new
    pub made : SignsOrNot IsNewIn Good number old new

  some_there : (entries : List Entry) (text : List ℕ) → IsOwnSet number false text → IsNew number (deeds_of (entries ++ signed text ∷ [])) → ⊥
  some_there entries text own none =
      let one : Deed = record { kind = (signed text).kind; text = text; set = own.set } in
      never (of_delivery number (deeds_of entries)) one (sym (ap (of_delivery number) (deeds_more entries (signed text) own.set own.read) ∙ of_own number (deeds_of entries) one own.its) ∙ none)
    where
      never : (deeds : List Deed) (deed : Deed) → deeds ++ deed ∷ [] ≡ [] → ⊥
      never [] deed e = cc
      never (one ∷ deeds) deed e = cc

  moved : (old next new : Desk) → IsUntouched number old next → SignsOrNot IsNewIn Good number next new → SignsOrNot IsNewIn Good number old new
  moved old next new left (inl rest) = inl (then_untouched number old next new left rest)
  moved old next new left (inr s) = inr (record {
    before = s.before;
    text = s.text;
    acceptance = s.acceptance;
    own = s.own;
    when = s.when;
    good = s.good;
    first = then_untouched number old next s.before left s.first;
    behind = s.behind;
    last = s.last;
  })

  pub proposed_all : (drafts : List BaseRecord) (old new : Desk) → Good old → InTurn (Proposes role chooser) drafts old new → AfterDrafts old new
  proposed_all [] old new good e = record { good = subst Good (sym e) good; made = inl (subst (IsUntouched number old) (sym e) (nothing_touched number old)) }
  proposed_all (draft ∷ drafts) old new good (next, step, more) = by (λ good_next. proposed_all drafts next new good_next more) (bytes_eq draft.number number) refl step
    where
      on : AfterDrafts next new → IsUntouched number old next → AfterDrafts old new
      on rest left = record { good = rest.good; made = moved old next new left rest.made }

      first_one : (text : List ℕ) (own : IsOwnSet number false text) → IsNewIn old.entries → next ≡ with_signature old number false text → AfterDrafts old new
      first_one text own new_there made =
          let good_next = draft_good draft old next good step in
          let rest = known_left drafts next new good_next (λ none. some_there old.entries text own (subst (λ (d : Desk). IsNew number (deeds_of d.entries)) made none)) more in
          record {
            good = rest.0;
            made = inr (record {
              before = old;
              text = text;
              acceptance = false;
              own = own;
              when = new_there;
              good = good;
              first = nothing_touched number old;
              behind = subst Good made good_next;
              last = subst (λ (d : Desk). IsUntouched number d new) made rest.1;
            });
          }

      by : (Good next → AfterDrafts next new) → (b : Bool) → bytes_eq draft.number number ≡ b → Proposes role chooser draft old next → AfterDrafts old new
      by later false differs s = on (later (draft_good draft old next good step)) (draft_other draft old next good differs s)
      by later true same (inr (none, e)) = on (later (draft_good draft old next good step)) (subst (IsUntouched number old) (sym e) (nothing_touched number old))
      by later true same (inl (text, may, e)) =
          let its = (bytes_eq-Decides draft.number number).0 same in
          first_one text (subst (λ (n : List ℕ). IsOwnSet n false text) its (signs.drafts old.entries draft text good.legal may))
          (subst (λ (n : List ℕ). IsNew n (deeds_of old.entries)) its may.chosen.new, (draft, may.chosen.among, its)) (e ∙ ap (λ (n : List ℕ). with_signature old n false text) its)
