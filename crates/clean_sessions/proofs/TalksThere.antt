-- Each delivery of two backed lists has a talk, of at most so many sets as there are levels, and an acceptance.
use Rattle.std.proofs.Common.{◌≡◌, ◌⊎◌, ◌≤◌, ◌+◌, ℕ, Bool, true, false, cond, is_some, length, List, [], ◌∷◌, ◌++◌, map, Option, Some, None, Result, Ok, Err, refl, sym, ap, subst, ◌∙◌, inl, inr, length-append, arith}
use Rattle.std.specs.Prelude.{if◌then◌else◌}
use Rattle.std.specs.Str.{bytes_eq}
use Rattle.std.specs.Option.{option_map}
use Rattle.std.specs.Result.{result_ok}
use Rattle.std.proofs.lemmas.Bool.{cases_Bool}
use Rattle.std.proofs.lemmas.List.{length-map, map-append}
use Rattle.dsd_pricing.specs.Pricing.{totals_of}
use Rattle.dsd_pricing.specs.declared.amounts.Totals.{Totals}
use Rattle.dsd_pricing.specs.declared.fault.PriceFault.{PriceFault}
use Rattle.dsd_pricing.specs.declared.fault.WriteFault.{WriteFault}
use Rattle.dsd_values.specs.declared.level.TheConstants.Level.{MAX as HIGHEST}
use Rattle.dsd_values.specs.declared.role.Role.{Role}
use Rattle.dsd_values.specs.declared.role.Role.TheVariants.{Receiver, Supplier}
use Rattle.base_record_894.specs.BaseRecord.{BaseRecord, amount_of}
use Rattle.base_record_894.specs.WrittenText.{after_price, written_of}
use Rattle.dsd_record.specs.Chain.{chain_from, version_of, version_with}
use Rattle.dsd_record.specs.Choices.{Chooser}
use Rattle.dsd_record.specs.Version.{Version}
use Rattle.dsd_record.specs.declared.set_view.SetView.TheVariants as sets
use Rattle.dsd_record.proofs.ReadOnce.{is_set_in}
use Rattle.dsd_journal.specs.declared.entry.Entry.{Entry}
use Rattle.dsd_journal.specs.declared.entry.EntryKind.{EntryKind}
use Rattle.dsd_journal.specs.declared.entry.EntryKind.TheVariants.{Signed, Took}
use Rattle.delivery_book.specs.Deeds.{Deed, deeds_of, level_in, number_in, of_delivery, other_kind, other_role, proposes}
use Rattle.delivery_book.specs.Lookups.{own_amount}
use Rattle.delivery_book.specs.Standing.{acceptance_of}
use Rattle.delivery_book.proofs.Members.{In, filter_in}
use Rattle.clean_sessions.specs.ChosenAnswers.{but_for_check, nine_digits}
use Rattle.clean_sessions.specs.DeedShapes.{AreInTurn, first_kind}
use Rattle.clean_sessions.specs.DeliveryStands.{AreBacked, sets_in}
use Rattle.clean_sessions.specs.Talks.{IsAnswered, IsLeftOut, IsNewTalk, IsOver, IsProposed, IsTalk, Talk, TalkStand, as_answer, draft_of, said_in, unsealed}
use Rattle.clean_sessions.proofs.AnswersOne.{answers_few, some_answers}
use Rattle.clean_sessions.proofs.DeedsInTurn.{legal_turns}
use Rattle.clean_sessions.proofs.DeedsOfBoth.{all_read}
use Rattle.clean_sessions.proofs.FrontsSeen.{ends_open, last_ends, last_top}
use Rattle.clean_sessions.proofs.HearingTurns.{read_in}
use Rattle.clean_sessions.proofs.LastDeeds.{IsLaid, acceptance_is_last, last_place, legal_laid, level_is}
use Rattle.clean_sessions.proofs.Meetings.{Meet, behind_length, even_length, lists_meet}
use Rattle.clean_sessions.proofs.MirroredDeeds.{mirrored}
use Rattle.clean_sessions.proofs.SpareTurns.{set_low}
use Rattle.clean_sessions.proofs.TalksOne.{is_none_of, legal_of, same_version, version_of_last}
use Rattle.clean_sessions.proofs.TalksWalked.{in_middle, said}

-- ---- the version of a draft that can be written

priced : (base : BaseRecord) (written : Result (List ℕ) WriteFault) (text : List ℕ) (price : Result Totals PriceFault) → after_price price written ≡ Ok text
    → (version : Version) × (option_map (version_with (chain_from base 0)) (result_ok price) ≡ Some version)
priced base written text (Ok totals) e = (version_with (chain_from base 0) totals, refl)
priced base written text (Err fault) e = absurd (cc)

made_version : (base : BaseRecord) (text : List ℕ) → written_of base nine_digits ≡ Ok text → (version : Version) × (version_of (chain_from base 0) ≡ Some version)
made_version base text e = priced base _ text (totals_of base.lines base.extras) e

base_level : (base : BaseRecord) (version : Version) → version_of (chain_from base 0) ≡ Some version → version.level ≡ 0
base_level base version e = by (result_ok (totals_of base.lines base.extras)) e
  where
    by : (o : Option Totals) → option_map (version_with (chain_from base 0)) o ≡ Some version → version.level ≡ 0
    by None e = absurd (cc)
    by (Some totals) e =
        let same : version_with (chain_from base 0) totals ≡ version = cc in
        sym (ap (λ (v : Version). v.level) same)

module _ (choosers : Role → Chooser) (lists : Role → List Entry) (backed : (role : Role) → AreBacked role (lists role) (lists (other_role role))) (number : List ℕ) where
  abbrev have : Role → List Deed
  have role = of_delivery number (deeds_of (lists role))

  abbrev Found : Type 0
  Found = (talk : Talk) × IsTalk choosers lists number talk

  -- ---- an acceptance stands

  over : (role : Role) → is_some (acceptance_of number (deeds_of (lists role))) ≡ true → Found
  over role accepted = (record { known = said_in number (lists role); new = [] }, inl (record { role = role; accepted = accepted; known = refl; new = refl }))

  -- ---- a last proposal

  answered : (role : Role) (front : List Deed) (last : Deed) → have (other_role role) ≡ front ++ last ∷ [] → last.kind ≡ Signed → sets_in number (lists role) ≤ sets_in number (lists (other_role role))
      → acceptance_of number (deeds_of (lists (other_role role))) ≡ None → Found
  answered role front last is kind longest none =
      let legal = legal_of choosers lists backed number (other_role role) in
      let w = last_ends (other_role role) number (lists (other_role role)) legal front last is in
      let proposal : proposes last.set ≡ true = proposing (proposes last.set) (sym (acceptance_is_last (other_role role) number (lists (other_role role)) front last w) ∙ none) in
      let top = last_top (other_role role) number (lists (other_role role)) legal front last is proposal in
      let v = version_of_last choosers lists backed number (other_role role) last top in
      let at : TalkStand = record { version = but_for_check v.version; own = own_amount (lists role) number; partner = own_amount (lists (other_role role)) number } in
      let a = some_answers choosers number 10 role at (omega arith) in (
        record { known = said_in number (lists (other_role role)); new = map as_answer a.0 },
        inr (inl (record {
          role = role;
          longest = longest;
          none = none;
          last = last;
          highest = top;
          signed = kind;
          version = v.version;
          seen = v.seen;
          answers = a.0;
          turns = a.1;
          known = refl;
          new = refl;
        })),
      )
    where
      proposing : (t : Bool) → cond t (let none : Option Deed = None in none) (Some last) ≡ None → t ≡ true
      proposing true e = refl
      proposing false e = absurd (cc)

  -- ---- no set yet

  begun : ((role : Role) → have role ≡ []) → Found
  begun unknown = by (draft_of (choosers Supplier) number) refl
    where
      left_out : ((draft : BaseRecord) (text : List ℕ) → draft_of (choosers Supplier) number ≡ Some draft → written_of draft nine_digits ≡ Ok text → ⊥) → Found
      left_out none = (record { known = []; new = [] }, inr (inr (record { unknown = unknown; known = refl; begins = inr (record { none = none; new = refl }) })))

      proposed : (draft : BaseRecord) → draft_of (choosers Supplier) number ≡ Some draft → (r : Result (List ℕ) WriteFault) → written_of draft nine_digits ≡ r → Found
      proposed draft drafted (Err fault) failed = left_out (λ other text found written. never text (sym failed ∙ ap (λ (d : BaseRecord). written_of d nine_digits) (same_draft draft other (sym drafted ∙ found)) ∙ written))
        where
          never : (text : List ℕ) → (let r : Result (List ℕ) WriteFault = Err fault in r) ≡ Ok text → ⊥
          never text e = cc

          same_draft : (a b : BaseRecord) → (let r : Option BaseRecord = Some a in r) ≡ Some b → a ≡ b
          same_draft a b e = cc
      proposed draft drafted (Ok text) written =
          let v = made_version draft text written in
          let at : TalkStand = record { version = v.0; own = None; partner = Some (amount_of draft) } in
          let a = some_answers choosers number 10 Receiver at (omega arith) in (
            record { known = []; new = sets.Base draft unsealed ∷ map as_answer a.0 },
            inr (inr (record {
              unknown = unknown;
              known = refl;
              begins = inl (record { draft = draft; drafted = drafted; text = text; written = written; version = v.0; made = v.1; answers = a.0; turns = a.1; new = refl });
            })),
          )

      by : (o : Option BaseRecord) → draft_of (choosers Supplier) number ≡ o → Found
      by None none = left_out (λ draft text found written. never draft (sym none ∙ found))
        where
          never : (draft : BaseRecord) → (let r : Option BaseRecord = None in r) ≡ Some draft → ⊥
          never draft e = cc
      by (Some draft) drafted = proposed draft drafted (written_of draft nine_digits) refl

  -- ---- whatever both lists hold

  still : (is_some (acceptance_of number (deeds_of (lists Supplier))) ≡ false) → (is_some (acceptance_of number (deeds_of (lists Receiver))) ≡ false) → Found
  still none their_none = by (lists_meet Supplier (lists Supplier) (lists Receiver) number (backed Supplier))
    where
      open_one : acceptance_of number (deeds_of (lists Supplier)) ≡ None
      open_one = is_none_of (acceptance_of number (deeds_of (lists Supplier))) none

      open_other : acceptance_of number (deeds_of (lists Receiver)) ≡ None
      open_other = is_none_of (acceptance_of number (deeds_of (lists Receiver))) their_none

      last_of_both : (front : List Deed) (last : Deed) (kind : EntryKind) → last.kind ≡ kind → have Supplier ≡ front ++ last ∷ [] → have Receiver ≡ map mirrored (have Supplier) → Found
      last_of_both front last Signed kind is even =
          let size = even_length (have Supplier) (have Receiver) even in
          answered Receiver front last is kind (omega (arith, size)) open_one
      last_of_both front last Took kind is even =
          let size = even_length (have Supplier) (have Receiver) even in
          answered Supplier (map mirrored front) (mirrored last) (even ∙ ap (map mirrored) is ∙ map-append mirrored front (last ∷ [])) (ap other_kind kind) (omega (arith, size)) open_other

      none_of_both : have Supplier ≡ [] → have Receiver ≡ map mirrored (have Supplier) → (role : Role) → have role ≡ []
      none_of_both empty even Supplier = empty
      none_of_both empty even Receiver = even ∙ ap (map mirrored) empty

      by_even : have Receiver ≡ map mirrored (have Supplier) → IsLaid Supplier number (have Supplier) → Found
      by_even even (inl empty) = begun (none_of_both empty even)
      by_even even (inr (front, last, w)) = last_of_both front last last.kind refl w.is even

      by : Meet (have Supplier) (have Receiver) → Found
      by (inl even) = by_even even (legal_laid Supplier (lists Supplier) number (backed Supplier).legal)
      by (inr (inl ahead)) = let more = behind_length (have Receiver) (have Supplier) ahead in answered Receiver (map mirrored (have Receiver)) ahead.last ahead.is ahead.signed (omega (arith, more)) open_one
      by (inr (inr late)) = let more = behind_length (have Supplier) (have Receiver) late in answered Supplier (map mirrored (have Supplier)) late.last late.is late.signed (omega (arith, more)) open_other

  pub some_talk : Found
  some_talk = elim (cases_Bool (is_some (acceptance_of number (deeds_of (lists Supplier))))) [
    | inl accepted ↦ over Supplier accepted
    | inr none ↦ elim (cases_Bool (is_some (acceptance_of number (deeds_of (lists Receiver))))) [
      | inl accepted ↦ over Receiver accepted
      | inr their_none ↦ still none their_none
    ]
  ]

  -- ---- how many sets it has

  -- the place of the last set is one of a level, or that behind the highest one
  place_low : (role : Role) (last : Deed) → In last (have role) → level_in last.set ≤ HIGHEST
  place_low role last there =
      let p = filter_in (λ (d : Deed). bytes_eq (number_in d.set) number) (deeds_of (lists role)) last there in
      set_low last.set last.text (is_set_in last.text last.set (read_in (deeds_of (lists role)) last (all_read (lists role)) p.among))

  most_sets : (role : Role) → sets_in number (lists role) ≤ 11
  most_sets role = by (legal_laid role (lists role) number (legal_of choosers lists backed number role))
    where
      by : IsLaid role number (have role) → sets_in number (lists role) ≤ 11
      by (inl none) = let size = ap length none in omega (arith, size)
      by (inr (front, last, w)) =
          let place = last_place (first_kind role) 0 front last (subst (AreInTurn (first_kind role) 0) w.is (legal_turns role (lists role) number (legal_of choosers lists backed number role))) in
          let low = place_low role last (subst (In last) (sym w.is) (in_middle front last [])) in
          let size = ap length w.is ∙ length-append front (last ∷ []) in
          let high = most_place (proposes last.set) (level_in last.set) low in
          omega (arith, place, size, high)
        where
          most_place : (t : Bool) (n : ℕ) → n ≤ HIGHEST → (if t then n else n + 1) ≤ 10
          most_place true n le = omega (arith, le)
          most_place false n le = omega (arith, le)

  few_over : (talk : Talk) → IsOver lists number talk → length talk.known + length talk.new ≤ HIGHEST + 2
  few_over talk o =
      let known = ap length o.known ∙ length-map (have o.role) said in
      let new = ap length o.new in
      let most = most_sets o.role in
      omega (arith, known, new, most)

  few_answered : (talk : Talk) → IsAnswered choosers lists number talk → length talk.known + length talk.new ≤ HIGHEST + 2
  few_answered talk a =
      let partner : Role = other_role a.role in
      let legal = legal_of choosers lists backed number partner in
      let o = ends_open partner number (lists partner) legal a.last a.highest a.none in
      let v = version_of_last choosers lists backed number partner a.last a.highest in
      let same : v.version ≡ a.version = same_version v.version a.version (sym v.seen ∙ a.seen) in
      let level = ap (λ (x : Version). x.level) same in
      let its = v.level in
      let low = v.low in
      let place = last_place (first_kind partner) 0 o.front a.last (subst (AreInTurn (first_kind partner) 0) o.is (legal_turns partner (lists partner) number legal)) in
      let of_level = level_is a.last o.proposal in
      let size = ap length o.is ∙ length-append o.front (a.last ∷ []) in
      let few = answers_few choosers number a.answers a.role (record { version = but_for_check a.version; own = own_amount (lists a.role) number; partner = own_amount (lists partner) number }) (omega (arith, level, its, low)) a.turns in
      let known = ap length a.known ∙ length-map (have partner) said in
      let new = ap length a.new ∙ length-map a.answers as_answer in
      omega (arith, level, its, place, of_level, size, few, known, new)

  few_begun : (talk : Talk) → IsNewTalk choosers lists number talk → length talk.known + length talk.new ≤ HIGHEST + 2
  few_begun talk n = by n.begins (ap length n.known)
    where
      by : IsProposed choosers number talk.new ⊎ IsLeftOut choosers number talk.new → length talk.known ≡ 0 → length talk.known + length talk.new ≤ HIGHEST + 2
      by (inl p) known =
          let level = base_level p.draft p.version p.made in
          let few = answers_few choosers number p.answers Receiver (record { version = p.version; own = None; partner = Some (amount_of p.draft) }) (omega (arith, level)) p.turns in
          let new = ap length p.new in
          let size = length-map p.answers as_answer in
          omega (arith, few, level, new, size, known)
      by (inr out) known = let new = ap length out.new in omega (arith, new, known)

  pub few_sets : (talk : Talk) → IsTalk choosers lists number talk → length talk.known + length talk.new ≤ HIGHEST + 2
  few_sets talk (inl o) = few_over talk o
  few_sets talk (inr (inl a)) = few_answered talk a
  few_sets talk (inr (inr n)) = few_begun talk n
