-- A clean session says the talks of its deliveries, and no more; and where neither end ever waits it settles all.
use Rattle.std.proofs.Common.{◌≡◌, ◌<◌, ◌≤◌, ℕ, Bool, true, false, not, ◌||◌, is_some, length, List, [], ◌∷◌, ◌++◌, map, Ok, refl, sym, ap, subst, ◌∙◌, inl, inr, arith}
use Rattle.std.specs.Prelude.{All, Contains}
use Rattle.std.specs.List.{filter}
use Rattle.std.proofs.lemmas.Bool.{cases_Bool}
use Rattle.std.proofs.lemmas.List.{length-map}
use Rattle.std.proofs.lemmas.List.Filters.{length-filter_both}
use Rattle.dsd_values.specs.declared.role.Role.{Role}
use Rattle.dsd_values.specs.declared.role.Role.TheVariants.{Receiver, Supplier}
use Rattle.base_record_894.specs.BaseRecord.{BaseRecord}
use Rattle.base_record_894.specs.RecordText.{IsBase}
use Rattle.base_record_894.specs.WrittenText.{written_of}
use Rattle.dsd_record.specs.Choices.{AreDraftsApart, Chooser}
use Rattle.dsd_journal.specs.Headers.{IsId}
use Rattle.dsd_journal.specs.declared.entry.Entry.{Entry}
use Rattle.delivery_book.specs.Deeds.{Deed, deeds_of, is_signed, of_delivery, other_role}
use Rattle.delivery_book.specs.Finals.{final_of}
use Rattle.delivery_book.specs.Lookups.{awaits_us}
use Rattle.delivery_book.specs.Signing.{Legal, next_control}
use Rattle.delivery_book.specs.Standing.{acceptance_of}
use Rattle.delivery_book.proofs.Grown.{legal_front}
use Rattle.own_turn.specs.DueSets.{texts_of}
use Rattle.own_turn.specs.OwnTurn.{Desk}
use Rattle.own_turn.specs.TurnsGrow.{IsGrown}
use Rattle.clean_sessions.specs.Beginnings.{IsCleanSession, receiver_header, seat_before, supplier_header}
use Rattle.clean_sessions.specs.ChosenAnswers.{ChoosesRightly, IgnoresCheck, nine_digits}
use Rattle.clean_sessions.specs.Declining.{HasAnswered}
use Rattle.clean_sessions.specs.DeliveryStands.{AreBacked, sets_in}
use Rattle.clean_sessions.specs.Halls.{Hall}
use Rattle.clean_sessions.specs.SeatTurns.{Seat}
use Rattle.clean_sessions.specs.Sessions.{Spoken, post_behind}
use Rattle.clean_sessions.specs.Settled.{LeavesSettled}
use Rattle.clean_sessions.specs.SinceLast.{desk_behind}
use Rattle.clean_sessions.specs.TalkedSets.{AreSaid, FollowsTalks, IsFinalInBoth, NeverWaits, SpeaksFew}
use Rattle.clean_sessions.specs.Talks.{HasAcceptance, IsTalk, Talk, by_role, said_in}
use Rattle.clean_sessions.proofs.AddedDeeds.{signed_join}
use Rattle.clean_sessions.proofs.AnswersDeclined.{grows_not}
use Rattle.clean_sessions.proofs.BlocksBounded.{speak_twice}
use Rattle.clean_sessions.proofs.ChosenSigned.{chosen_signed}
use Rattle.clean_sessions.proofs.DueStands.{backed_turned}
use Rattle.clean_sessions.proofs.EvenLists.{mirrors}
use Rattle.clean_sessions.proofs.FrontsSeen.{awaits_by}
use Rattle.clean_sessions.proofs.MirroredDeeds.{mirrored}
use Rattle.clean_sessions.proofs.SessionsGrown.{both_backed, both_grown}
use Rattle.clean_sessions.proofs.SessionsSettled.{all_turns, first_sets, later, meet, session_settled}
use Rattle.clean_sessions.proofs.SpokenSince.{speak_since}
use Rattle.clean_sessions.proofs.TalksBegun.{accepting}
use Rattle.clean_sessions.proofs.TalksFollowed.{not_held, talk_followed}
use Rattle.clean_sessions.proofs.TalksWalked.{IsEnd}
use Rattle.clean_sessions.proofs.TurnsOnce.{speak_once}

-- ---- control numbers that there are

few_controls : (entries : List Entry) → length entries < 999_000_000 → next_control entries ≤ nine_digits
few_controls entries few =
    let both = length-filter_both (λ (e : Entry). is_signed e.kind) (λ (e : Entry). not (is_signed e.kind)) (λ e. refl) entries in
    let texts = length-map (filter (λ (e : Entry). is_signed e.kind) entries) (λ (e : Entry). e.payload) in
    omega (arith, both, texts, few)

-- ---- how often a set is spoken

module _ (id other : List ℕ) (supplier receiver : Chooser) (supplier_entries receiver_entries : List Entry) (first : Spoken) (more : List Spoken) (new : Hall)
    (is : IsId id) (others : IsId other) (bases : All IsBase supplier.drafts) (their_bases : All IsBase receiver.drafts) (backed : AreBacked Supplier supplier_entries receiver_entries)
    (c : IsCleanSession id other supplier receiver supplier_entries receiver_entries first more new) where
  pub session_speaks : SpeaksFew (seat_before (supplier_header id other) supplier supplier_entries) (seat_before (receiver_header id other) receiver receiver_entries) first more
  session_speaks =
      let own : Seat = seat_before (supplier_header id other) supplier supplier_entries in
      let theirs : Seat = seat_before (receiver_header id other) receiver receiver_entries in
      let l = later id other supplier receiver supplier_entries receiver_entries first more new is others bases their_bases backed c in
      let sets = first_sets id other supplier receiver supplier_entries receiver_entries first more new is others bases their_bases backed c in
      let t = all_turns id other supplier receiver supplier_entries receiver_entries first more new is others bases their_bases backed c in
      let m = meet id other supplier receiver supplier_entries receiver_entries first more new is others bases their_bases backed c in
      record {
        turns = sets ∷ l.turns;
        taken = t;
        sets = ap (λ (s : List (List ℕ)). s ∷ map (λ (spoken : Spoken). spoken.sets) more) c.sets ∙ ap (λ (s : List (List (List ℕ))). texts_of sets ∷ s) l.sets;
        since = speak_since (sets ∷ l.turns) own theirs [] [] m supplier_entries receiver_entries (grows_not supplier_entries supplier_entries refl) (grows_not receiver_entries receiver_entries refl) t;
        twice = speak_twice (sets ∷ l.turns) own theirs m t;
        once = λ none none_there. speak_once (sets ∷ l.turns) own theirs m refl none none_there refl refl t;
      }

module _ (id other : List ℕ) (supplier receiver : Chooser) (supplier_entries receiver_entries : List Entry) (first : Spoken) (more : List Spoken) (new : Hall)
    (is : IsId id) (others : IsId other) (right : ChoosesRightly supplier) (their_right : ChoosesRightly receiver) (backed : AreBacked Supplier supplier_entries receiver_entries)
    (c : IsCleanSession id other supplier receiver supplier_entries receiver_entries first more new)
    (few : length (post_behind true more new).standing.desk.entries < 999_000_000) (their_few : length (post_behind false more new).standing.desk.entries < 999_000_000) where
  abbrev one : List Entry
  one = (post_behind true more new).standing.desk.entries

  abbrev two : List Entry
  two = (post_behind false more new).standing.desk.entries

  abbrev own_seat : Seat
  own_seat = seat_before (supplier_header id other) supplier supplier_entries

  abbrev their_seat : Seat
  their_seat = seat_before (receiver_header id other) receiver receiver_entries

  settled : LeavesSettled own_seat their_seat first more new
  settled = session_settled id other supplier receiver supplier_entries receiver_entries first more new is others right.drafts their_right.drafts backed c

  new_backed : AreBacked Supplier one two
  new_backed =
      let l = later id other supplier receiver supplier_entries receiver_entries first more new is others right.drafts their_right.drafts backed c in
      let sets = first_sets id other supplier receiver supplier_entries receiver_entries first more new is others right.drafts their_right.drafts backed c in
      let t = all_turns id other supplier receiver supplier_entries receiver_entries first more new is others right.drafts their_right.drafts backed c in
      let m = meet id other supplier receiver supplier_entries receiver_entries first more new is others right.drafts their_right.drafts backed c in
      subst (λ (d : Desk). AreBacked Supplier one d.entries) (sym (l.desks false))
      (subst (λ (d : Desk). AreBacked Supplier d.entries (desk_behind false (sets ∷ l.turns) own_seat their_seat [] t).entries) (sym (l.desks true))
      (both_backed (sets ∷ l.turns) own_seat their_seat [] [] m t))

  -- ---- an end that never waits

  no_wait : (role : Role) (chooser : Chooser) (entries : List Entry) → ChoosesRightly chooser → NeverWaits role chooser → Legal role entries → length entries < 999_000_000 → HasAnswered role chooser entries → (number : List ℕ) → awaits_us entries number ≡ true → ⊥
  no_wait role chooser entries right never legal few answered number awaits =
      let d = answered.declines number awaits in
      let before_legal : Legal role d.before = legal_front role d.before d.more (subst (Legal role) d.grown legal) in
      let chosen = never d.before number before_legal (sym (ap awaits_by d.alike) ∙ awaits) in
      let count = signed_join d.before d.more in
      let all = ap next_control d.grown in
      let low = few_controls entries few in
      let may = chosen_signed role chooser d.before number chosen.0 chosen.1 right before_legal (omega (arith, count, all, low)) chosen.2 in
      d.none may.text may.may

  final_both : (number : List ℕ) → is_some (acceptance_of number (deeds_of one)) ≡ true → IsFinalInBoth number one two
  final_both number accepted =
      let s = settled.settled number in
      (s.final ∙ accepted, s.their_final ∙ sym s.accepted ∙ accepted)

  pub all_settled : NeverWaits Supplier supplier → NeverWaits Receiver receiver → (number : List ℕ) → 1 ≤ sets_in number one → IsFinalInBoth number one two
  all_settled never their_never number some = elim (cases_Bool (is_some (acceptance_of number (deeds_of one)))) [
    | inl accepted ↦ final_both number accepted
    | inr open_still ↦ absurd (by (awaits_us one number) (awaits_us two number) refl refl ((settled.settled number).awaits open_still some))
  ]
    where
      by : (a b : Bool) → awaits_us one number ≡ a → awaits_us two number ≡ b → (a || b) ≡ true → ⊥
      by true b e f both = no_wait Supplier supplier one right never new_backed.legal few settled.answered number e
      by false true e f both = no_wait Receiver receiver two their_right their_never new_backed.others their_few settled.their_answered number f
      by false false e f both = cc

  -- a draft that can be written is settled too
  pub drafts_settled : NeverWaits Supplier supplier → NeverWaits Receiver receiver → (draft : BaseRecord) (text : List ℕ) → Contains supplier.drafts draft → written_of draft nine_digits ≡ Ok text → IsFinalInBoth draft.number one two
  drafts_settled never their_never draft text there written = all_settled never their_never draft.number (some (of_delivery draft.number (deeds_of one)) refl)
    where
      some : (l : List Deed) → of_delivery draft.number (deeds_of one) ≡ l → 1 ≤ sets_in draft.number one
      some [] none = absurd (not_held supplier one right.drafts new_backed.legal settled.answered (few_controls one few) draft text there written none)
      some (deed ∷ rest) is = let size = ap length is in omega (arith, size)

  -- ---- both ends as one function

  module _ (ignores : IgnoresCheck supplier) (their_ignores : IgnoresCheck receiver) where
    abbrev choosers : Role → Chooser
    choosers = by_role supplier receiver

    abbrev old_lists : Role → List Entry
    old_lists = by_role supplier_entries receiver_entries

    abbrev new_lists : Role → List Entry
    new_lists = by_role one two

    grown : IsGrown Supplier supplier (λ _. Unit {0}) supplier_entries one × IsGrown Receiver receiver (λ _. Unit {0}) receiver_entries two
    grown =
        let l = later id other supplier receiver supplier_entries receiver_entries first more new is others right.drafts their_right.drafts backed c in
        let sets = first_sets id other supplier receiver supplier_entries receiver_entries first more new is others right.drafts their_right.drafts backed c in
        let t = all_turns id other supplier receiver supplier_entries receiver_entries first more new is others right.drafts their_right.drafts backed c in
        let both = both_grown (sets ∷ l.turns) own_seat their_seat [] t in (
          subst (λ (d : Desk). IsGrown Supplier supplier (λ _. Unit {0}) supplier_entries d.entries) (sym (l.desks true)) both.0,
          subst (λ (d : Desk). IsGrown Receiver receiver (λ _. Unit {0}) receiver_entries d.entries) (sym (l.desks false)) both.1,
        )

    ends : (role : Role) → IsEnd role (choosers role) (old_lists role) (new_lists role)
    ends Supplier = record { right = right; ignores = ignores; legal = new_backed.legal; grown = grown.0; answered = settled.answered; few = few_controls one few }
    ends Receiver = record { right = their_right; ignores = their_ignores; legal = new_backed.others; grown = grown.1; answered = settled.their_answered; few = few_controls two their_few }

    as_many : (number : List ℕ) → sets_in number one ≡ sets_in number two
    as_many number =
        let same = ap length (settled.settled number).same in
        let a = length-map (of_delivery number (deeds_of one)) (λ (d : Deed). d.text) in
        let b = length-map (of_delivery number (deeds_of two)) (λ (d : Deed). d.text) in
        omega (arith, same, a, b)

    even : (number : List ℕ) (role : Role) → of_delivery number (deeds_of (new_lists (other_role role))) ≡ map mirrored (of_delivery number (deeds_of (new_lists role)))
    even number Supplier = mirrors Supplier number one two new_backed (as_many number)
    even number Receiver = mirrors Receiver number two one (backed_turned Supplier one two new_backed) (sym (as_many number))

    old_backed : (role : Role) → AreBacked role (old_lists role) (old_lists (other_role role))
    old_backed Supplier = backed
    old_backed Receiver = backed_turned Supplier supplier_entries receiver_entries backed

    module _ (apart : AreDraftsApart supplier.drafts) where
      said_so : (number : List ℕ) (talk : Talk) → IsTalk choosers old_lists number talk → (role : Role) → AreSaid talk (said_in number (new_lists role))
      said_so number talk t role = talk_followed number choosers old_lists new_lists ends (even number) old_backed apart talk t role

      exact : (number : List ℕ) (talk : Talk) → HasAcceptance (talk.known ++ talk.new) → AreSaid talk (said_in number one) → HasAcceptance (said_in number one)
      exact number talk accepted (inl same) = subst HasAcceptance (sym same) accepted
      exact number talk accepted (inr beyond) = absurd (beyond.declined accepted)

      final_so : (number : List ℕ) (talk : Talk) → IsTalk choosers old_lists number talk → HasAcceptance (talk.known ++ talk.new) → (role : Role) → is_some (final_of (new_lists role) number) ≡ true
      final_so number talk t accepted role =
          by role (final_both number (accepting (of_delivery number (deeds_of one)) (exact number talk accepted (said_so number talk t Supplier))))
        where
          by : (role : Role) → IsFinalInBoth number one two → is_some (final_of (new_lists role) number) ≡ true
          by Supplier f = f.0
          by Receiver f = f.1

      pub session_talks : FollowsTalks choosers old_lists new_lists
      session_talks = record { said = said_so; final = final_so }
