-- An own turn signs the answer that is chosen for a delivery, in that very turn.
use Rattle.std.proofs.Common.{◌≡◌, ◌≤◌, ◌+◌, ℕ, Bool, true, false, not, ◌&&◌, ◌||◌, is_none, cond, length, List, [], ◌∷◌, ◌++◌, Option, Some, None, refl, sym, ap, subst, ◌∙◌, inl, inr, arith}
use Rattle.std.specs.Str.{bytes_eq}
use Rattle.std.specs.List.{filter}
use Rattle.std.specs.Option.{option_and_then, option_map}
use Rattle.std.proofs.lemmas.Bool.{cases_Bool}
use Rattle.std.proofs.lemmas.Slice.Eq.{bytes_eq-Decides}
use Rattle.dsd_values.specs.declared.role.Role.{Role}
use Rattle.adjustment_895.specs.AnswerRecord.{AnswerRecord}
use Rattle.dsd_record.specs.Choices.{Chooser}
use Rattle.dsd_record.specs.Version.{Version}
use Rattle.dsd_journal.specs.declared.entry.Entry.{Entry}
use Rattle.dsd_journal.specs.declared.header.Header.{Header}
use Rattle.delivery_book.specs.Deeds.{Deed, check_in, deeds_of, first_of, level_in, is_signed, of_delivery, proposes}
use Rattle.delivery_book.specs.Lookups.{amount_in, awaits_us, is_taken, last_of, numbers_of, own_amount, seen_of}
use Rattle.delivery_book.specs.Signing.{next_control}
use Rattle.delivery_book.specs.Standing.{acceptance_of, highest, highest_of, version_at, version_to}
use Rattle.delivery_book.proofs.Standings.{highest_is}
use Rattle.own_turn.specs.DueSets.{DueSet}
use Rattle.own_turn.specs.OwnTurn.{Answers, Desk, InTurn, MayAnswer, Turned, awaiting, is_acceptance, signed}
use Rattle.clean_sessions.specs.ChosenAnswers.{ChoosesRightly, IsChosenOn, answer_of, nine_digits}
use Rattle.clean_sessions.specs.DeliveryStands.{AreBacked, IsBetweenTurns, SignsSets, sets_in}
use Rattle.clean_sessions.proofs.AddedDeeds.{signed_join}
use Rattle.clean_sessions.proofs.BoolTests.{both_true}
use Rattle.clean_sessions.proofs.ChosenSigned.{chosen_signed}
use Rattle.clean_sessions.proofs.DeliveriesCovered.{known_has}
use Rattle.clean_sessions.proofs.DeliveryTurns.{taken_good}
use Rattle.clean_sessions.proofs.KeyedSteps.{Once}
use Rattle.clean_sessions.proofs.MirroredDeeds.{version_alike}
use Rattle.clean_sessions.proofs.NumbersApart.{has}
use Rattle.clean_sessions.proofs.OwnSets.{signs_sets}
use Rattle.clean_sessions.proofs.SignedStands.{one_more}
use Rattle.clean_sessions.proofs.SigningTurns.{answered_once}

-- ---- control numbers grow

answers_count : (role : Role) (chooser : Chooser) (numbers : List (List ℕ)) (old new : Desk) → InTurn (Answers role chooser) numbers old new → next_control old.entries ≤ next_control new.entries
answers_count role chooser [] old new e = let same = ap (λ (d : Desk). next_control d.entries) e in omega (arith, same)
answers_count role chooser (number ∷ numbers) old new (next, step, more) =
    let here = one step in
    let rest = answers_count role chooser numbers next new more in
    omega (arith, here, rest)
  where
    one : Answers role chooser number old next → next_control old.entries ≤ next_control next.entries
    one (inl (text, may, e)) = let same = ap (λ (d : Desk). next_control d.entries) e in let less = signed_join old.entries (signed text ∷ []) in omega (arith, same, less)
    one (inr (none, e)) = let same = ap (λ (d : Desk). next_control d.entries) e in omega (arith, same)

-- ---- what is looked up of an untouched delivery

module _ (number : List ℕ) (one other : List Entry) (same : of_delivery number (deeds_of one) ≡ of_delivery number (deeds_of other)) where
  awaits_alike : awaits_us one number ≡ awaits_us other number
  awaits_alike = ap (λ (l : List Deed). is_taken (highest (filter (λ (d : Deed). proposes d.set) l)) && is_none (first_of (filter (λ (d : Deed). not (proposes d.set)) l))) same

  amount_alike : own_amount one number ≡ own_amount other number
  amount_alike = ap (λ (l : List Deed). option_map (λ (deed : Deed). amount_in deed.set) (last_of (filter (λ (deed : Deed). proposes deed.set) (filter (λ (deed : Deed). is_signed deed.kind) l)))) same

  seen_by : (o : Option Deed) → highest_of number (deeds_of one) ≡ o → option_and_then (version_at (deeds_of one)) o ≡ option_and_then (version_at (deeds_of other)) o
  seen_by None e = refl
  seen_by (Some top) e =
      let h = highest_is number (deeds_of one) top e in
      ap (λ (n : List ℕ). version_to n (deeds_of one) (level_in top.set) (check_in top.set)) h.is.number
      ∙ version_alike number (deeds_of one) (deeds_of other) same (level_in top.set) (check_in top.set)
      ∙ sym (ap (λ (n : List ℕ). version_to n (deeds_of other) (level_in top.set) (check_in top.set)) h.is.number)

  seen_alike : seen_of one number ≡ seen_of other number
  seen_alike =
      seen_by (highest_of number (deeds_of one)) refl
      ∙ ap (λ (l : List Deed). option_and_then (version_at (deeds_of other)) (highest (filter (λ (d : Deed). proposes d.set) l))) same

  chosen_alike : (role : Role) (chooser : Chooser) (version : Version) (answer : AnswerRecord) → IsChosenOn role chooser one number version answer → IsChosenOn role chooser other number version answer
  chosen_alike role chooser version answer c = record {
    awaits = sym awaits_alike ∙ c.awaits;
    seen = sym seen_alike ∙ c.seen;
    chosen = ap (answer_of role chooser number version) (sym amount_alike) ∙ c.chosen;
    level = c.level;
    text = c.text;
    written = c.written;
  }

-- ---- the answer of this turn

module _ (role : Role) (chooser : Chooser) (right : ChoosesRightly chooser) (number : List ℕ) (partner : List Entry) (version : Version) (answer : AnswerRecord) where
  abbrev Backs : Desk → Type 0
  Backs desk = AreBacked role desk.entries partner

  abbrev signs : SignsSets role chooser
  signs = signs_sets role chooser right.drafts

  some_known : (l : List Deed) (o : Option Deed) → highest (filter (λ (d : Deed). proposes d.set) l) ≡ o → is_taken o ≡ true → 1 ≤ length l
  some_known [] o e t = absurd (never o e t)
    where
      never : (o : Option Deed) → (let none : Option Deed = None in none) ≡ o → is_taken o ≡ true → ⊥
      never None e t = cc
      never (Some d) e t = cc
  some_known (d ∷ l) o e t = omega arith

  -- it is among the deliveries that await this end
  there : (entries : List Entry) → awaits_us entries number ≡ true → has number (awaiting entries) ≡ true
  there entries awaits =
      let taken = both_true (is_taken (highest_of number (deeds_of entries))) (is_none (acceptance_of number (deeds_of entries))) awaits in
      kept (numbers_of entries) (known_has number entries (some_known (of_delivery number (deeds_of entries)) (highest_of number (deeds_of entries)) refl taken.0))
    where
      kept : (numbers : List (List ℕ)) → has number numbers ≡ true → has number (filter (awaits_us entries) numbers) ≡ true
      kept [] e = absurd (cc)
      kept (one ∷ more) e = elim (cases_Bool (bytes_eq one number)) [
        | inl same ↦
            let passes : awaits_us entries one ≡ true = ap (awaits_us entries) ((bytes_eq-Decides one number).0 same) ∙ awaits in
            ap (λ (b : Bool). has number (cond b (one ∷ filter (awaits_us entries) more) (filter (awaits_us entries) more))) passes ∙ ap (λ (b : Bool). b || has number (filter (awaits_us entries) more)) same
        | inr differs ↦ by (awaits_us entries one) (kept more (subst (λ (b : Bool). (b || has number more) ≡ true) differs e))
      ]
        where
          by : (b : Bool) → has number (filter (awaits_us entries) more) ≡ true → has number (cond b (one ∷ filter (awaits_us entries) more) (filter (awaits_us entries) more)) ≡ true
          by true rest = or_more (bytes_eq one number) (has number (filter (awaits_us entries) more)) rest
            where
              or_more : (a c : Bool) → c ≡ true → (a || c) ≡ true
              or_more true c e = refl
              or_more false c e = e
          by false rest = rest

  answered_now : (old new : Desk) → Backs old → InTurn (Answers role chooser) (awaiting old.entries) old new → next_control new.entries ≤ nine_digits → IsChosenOn role chooser old.entries number version answer
      → sets_in number new.entries ≡ sets_in number old.entries + 1
  answered_now old new good steps few c =
      let o = answered_once role chooser signs partner number old new good steps (there old.entries c.awaits) in
      by o (o.step)
    where
      by : (o : Once (Answers role chooser) (λ (n : List ℕ). n) Backs number (awaiting old.entries) old new) → Answers role chooser o.item o.before o.behind → sets_in number new.entries ≡ sets_in number old.entries + 1
      by o (inl (text, may, e)) =
          let own = signs.answers o.before.entries o.item text o.good.legal may in
          let count = one_more o.item text (is_acceptance chooser o.before.entries o.item may.chosen.version) own o.before.entries in
          let at : sets_in number o.behind.entries ≡ sets_in number o.before.entries + 1 = ap (λ (d : Desk). sets_in number d.entries) e ∙ subst (λ (n : List ℕ). sets_in n (o.before.entries ++ signed text ∷ []) ≡ sets_in n o.before.entries + 1) o.its count in
          ap length o.last.deeds ∙ at ∙ ap (λ (n : ℕ). n + 1) (ap length o.first.deeds)
      by o (inr (none, e)) =
          let same : next_control o.before.entries ≡ next_control o.behind.entries = ap (λ (d : Desk). next_control d.entries) (sym e) in
          let rest = answers_count role chooser o.more o.behind new o.rest in
          let here = chosen_alike number old.entries o.before.entries (sym o.first.deeds) role chooser version answer c in
          let s = chosen_signed role chooser o.before.entries number version answer right o.good.legal (omega (arith, same, rest, few)) here in
          absurd (none s.text (subst (λ (n : List ℕ). MayAnswer role chooser o.before.entries n s.text) (sym o.its) s.may))

pub turn_answers : (header : Header) (chooser : Chooser) (old partner new : Desk) (sets : List DueSet) (text load : List ℕ) → ChoosesRightly chooser → IsBetweenTurns header.role old partner sets text
    → (turned : Turned header chooser old text new load) → next_control turned.answered.entries ≤ nine_digits → (number : List ℕ) (version : Version) (answer : AnswerRecord)
    → IsChosenOn header.role chooser turned.taken.entries number version answer → sets_in number turned.answered.entries ≡ sets_in number turned.taken.entries + 1
turn_answers header chooser old partner new sets text load right between turned few number version answer c =
    answered_now header.role chooser right number partner.entries version answer turned.taken turned.answered
    (taken_good header chooser (signs_sets header.role chooser right.drafts) old partner new sets text load between turned) turned.answers few c
