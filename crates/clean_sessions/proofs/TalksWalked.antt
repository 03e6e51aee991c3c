-- A talk is followed by the sets of its delivery in both lists, answer by answer.
use Rattle.std.proofs.Common.{◌≡◌, ◌⊎◌, ◌≤◌, ◌+◌, ℕ, Bool, true, false, not, ◌||◌, cond, is_some, length, List, [], ◌∷◌, ◌++◌, map, Option, Some, None, refl, sym, ap, subst, ◌∙◌, inl, inr, append_assoc, append-nil, length-append, arith}
use Rattle.std.specs.Str.{bytes_eq}
use Rattle.std.specs.List.{filter, list_any}
use Rattle.std.specs.Option.{option_map}
use Rattle.std.proofs.lemmas.Bool.{cases_Bool}
use Rattle.std.proofs.lemmas.List.{length-map, map-append}
use Rattle.std.proofs.lemmas.Slice.Eq.{bytes_eq-Decides}
use Rattle.dsd_values.specs.declared.level.TheConstants.Level.{MAX as HIGHEST}
use Rattle.dsd_values.specs.declared.role.Role.{Role}
use Rattle.adjustment_895.specs.AnswerRecord.{AnswerRecord}
use Rattle.adjustment_895.specs.Grammar.{has_none}
use Rattle.adjustment_895.specs.WrittenText.{seal_of, written_of}
use Rattle.dsd_record.specs.Applying.{adjusted}
use Rattle.dsd_record.specs.Choices.{Chooser}
use Rattle.dsd_record.specs.ReadSets.{set_in}
use Rattle.dsd_record.specs.Version.{Version}
use Rattle.dsd_record.specs.declared.set_view.SetView.{SetView}
use Rattle.dsd_record.specs.declared.set_view.SetView.TheVariants as sets
use Rattle.dsd_journal.specs.declared.entry.Entry.{Entry}
use Rattle.dsd_journal.specs.declared.entry.EntryKind.{EntryKind}
use Rattle.dsd_journal.specs.declared.entry.EntryKind.TheVariants.{Signed, Took}
use Rattle.delivery_book.specs.Deeds.{Deed, deeds_of, first_of, number_in, of_delivery, other_kind, other_role, proposes}
use Rattle.delivery_book.specs.Lookups.{amount_in, seen_of}
use Rattle.delivery_book.specs.Signing.{IsWritten, Legal, next_control}
use Rattle.delivery_book.proofs.Agreeing.{twice_other}
use Rattle.delivery_book.proofs.Grown.{legal_front}
use Rattle.delivery_book.proofs.Members.{In, filter_in}
use Rattle.own_turn.specs.OwnTurn.{StaysLegal, signed}
use Rattle.own_turn.specs.TurnsGrow.{IsGrown}
use Rattle.clean_sessions.specs.ChosenAnswers.{ChoosesRightly, IgnoresCheck, IsChosenOn, answer_of, but_for_check, but_for_named, naming, nine_digits}
use Rattle.clean_sessions.specs.Declining.{HasAnswered, HasDeclined}
use Rattle.clean_sessions.specs.DeedShapes.{AreInTurn}
use Rattle.clean_sessions.specs.DeliveryStands.{sets_in}
use Rattle.clean_sessions.specs.Talks.{AreAnswers, HasAcceptance, Says, TalkStand, as_answer, behind, but_for_seal}
use Rattle.clean_sessions.proofs.AddedDeeds.{added_in, signed_join}
use Rattle.clean_sessions.proofs.AnswersAlike.{alike}
use Rattle.clean_sessions.proofs.BoolTests.{never_both}
use Rattle.clean_sessions.proofs.ChosenSigned.{chosen_signed}
use Rattle.clean_sessions.proofs.CoursesBehind.{accepts_in as has_acceptance, early}
use Rattle.clean_sessions.proofs.DeedsOfBoth.{AllRead, all_read, read_filter}
use Rattle.clean_sessions.proofs.FrontsSeen.{amount_by, amount_signed, amount_took, awaits_by, last_awaits, mirrored_twice, of_more, same_deed, seen_mirrored, seen_more}
use Rattle.clean_sessions.proofs.LowerControls.{answer_written_too}
use Rattle.clean_sessions.proofs.MirroredDeeds.{mirrored}
use Rattle.clean_sessions.proofs.NextSaid.{next_answer}

-- ---- plain lists

abbrev pub said : Deed → SetView
said deed = but_for_seal deed.set

pub said_mirrored : (deeds : List Deed) → map said (map mirrored deeds) ≡ map said deeds
said_mirrored [] = refl
said_mirrored (deed ∷ deeds) = ap (λ (l : List SetView). said deed ∷ l) (said_mirrored deeds)

pub turns_mirrored : (kind : EntryKind) (n : ℕ) (deeds : List Deed) → AreInTurn kind n deeds → AreInTurn (other_kind kind) n (map mirrored deeds)
turns_mirrored kind n [] turns = tt
turns_mirrored kind n (deed ∷ deeds) turns = (ap other_kind turns.0, turns.1, turns_mirrored (other_kind kind) (n + 1) deeds turns.2)

read_at : (front : List Deed) (deed : Deed) (rest : List Deed) → AllRead (front ++ deed ∷ rest) → set_in deed.text ≡ Some deed.set
read_at [] deed rest all = all.0
read_at (one ∷ front) deed rest all = read_at front deed rest all.1

pub in_middle : {X : Type 0} (front : List X) (x : X) (rest : List X) → In x (front ++ x ∷ rest)
in_middle [] x rest = inl refl
in_middle (y ∷ front) x rest = inr (in_middle front x rest)

-- ---- answers but for the value that they name

pub some_answer : (o : Option AnswerRecord) (answer : AnswerRecord) → option_map but_for_named o ≡ Some answer → (real : AnswerRecord) × (o ≡ Some real) × (but_for_named real ≡ answer)
some_answer None answer e = absurd (cc)
some_answer (Some real) answer e = let same : but_for_named real ≡ answer = cc in (real, refl, same)

-- ---- what follows

-- more than these sets, behind an end that declines
pub record GoesBeyond (new rest : List SetView) : Type 0 where
  pub next : SetView
  pub more : List SetView
  pub is : rest ≡ new ++ next ∷ more
  pub long : (text : List ℕ) → IsWritten next nine_digits text → ⊥
  pub declined : HasAcceptance new → ⊥

-- ---- both ends behind a session

-- The new list of an end, which is legal, and has answered; what it added is chosen.
pub record IsEnd (role : Role) (chooser : Chooser) (old new : List Entry) : Type 0 where
  pub right : ChoosesRightly chooser
  pub ignores : IgnoresCheck chooser
  pub legal : Legal role new
  pub grown : IsGrown role chooser (λ _. Unit {0}) old new
  pub answered : HasAnswered role chooser new
  pub few : next_control new ≤ nine_digits

module _ (number : List ℕ) (choosers : Role → Chooser) (old new : Role → List Entry) (ends : (role : Role) → IsEnd role (choosers role) (old role) (new role))
    (even : (role : Role) → of_delivery number (deeds_of (new (other_role role))) ≡ map mirrored (of_delivery number (deeds_of (new role)))) where
  abbrev mine : Role → List Deed
  mine role = of_delivery number (deeds_of (new role))

  -- the end of this role answers the last of these sets; the others follow in its new list
  pub record Comes (role : Role) (front rest : List Deed) (at : TalkStand) : Type 0 where
    pub is : mine role ≡ front ++ rest
    pub some : 1 ≤ length front
    pub newer : sets_in number (old role) ≤ length front
    pub their_newer : sets_in number (old (other_role role)) ≤ length front
    pub turns : AreInTurn Signed (length front) rest
    pub awaits : awaits_by front ≡ true
    pub version : Version
    pub seen : (entries : List Entry) → of_delivery number (deeds_of entries) ≡ front → seen_of entries number ≡ Some version
    pub same : but_for_check version ≡ at.version
    pub own : amount_by front ≡ at.own
    pub partner : amount_by (map mirrored front) ≡ at.partner

  abbrev pub Follows : List AnswerRecord → List Deed → Type 0
  Follows answers rest = (map said rest ≡ map as_answer answers) ⊎ GoesBeyond (map as_answer answers) (map said rest)

  module _ (role : Role) (front : List Deed) (at : TalkStand) where
    abbrev chooser : Chooser
    chooser = choosers role

    alike_here : (rest : List Deed) (c : Comes role front rest at) → option_map but_for_named (answer_of role chooser number c.version at.own) ≡ option_map but_for_named (answer_of role chooser number at.version at.own)
    alike_here rest c = alike role chooser number c.version at.version at.own (ends role).ignores (ap but_for_check c.same)

    -- ---- an end that has an answer does not stop

    no_stop : (answer : AnswerRecord) → Comes role front [] at → Says role chooser number at answer → ⊥
    no_stop answer c says =
        let own : mine role ≡ front = c.is ∙ append-nil front in
        let d : HasDeclined role chooser number (new role) = (ends role).answered.declines number (ap awaits_by own ∙ c.awaits) in
        let before_is : of_delivery number (deeds_of d.before) ≡ front = sym d.alike ∙ own in
        let real = some_answer (answer_of role chooser number c.version at.own) answer (alike_here [] c ∙ says.chosen) in
        let named : naming answer real.0.check ≡ real.0 = ap (λ (a : AnswerRecord). naming a real.0.check) (sym real.2) in
        let too = answer_written_too answer real.0.check nine_digits says.text (omega arith) says.written in
        let chosen : IsChosenOn role chooser d.before number c.version real.0 =
        record {
          awaits = ap awaits_by before_is ∙ c.awaits;
          seen = c.seen d.before before_is;
          chosen = ap (answer_of role chooser number c.version) (ap amount_by before_is ∙ c.own) ∙ real.1;
          level = subst (λ (a : AnswerRecord). a.level ≤ HIGHEST) (sym real.2) says.level;
          text = too.0;
          written = ap (λ (a : AnswerRecord). written_of a nine_digits) (sym named) ∙ too.1;
        } in
        let legal : Legal role d.before = legal_front role d.before d.more (subst (Legal role) d.grown (ends role).legal) in
        let count = signed_join d.before d.more in
        let all = ap next_control d.grown in
        let low = (ends role).few in
        let may = chosen_signed role chooser d.before number c.version real.0 (ends role).right legal (omega (arith, count, all, low)) chosen in
        d.none may.text may.may

    -- ---- the next set

    pub record IsNext (deed : Deed) (version : Version) : Type 0 where
      pub before : List Entry
      pub legal : Legal role before
      pub stays : StaysLegal role before (signed deed.text)
      pub front_is : of_delivery number (deeds_of before) ≡ front
      pub read : set_in deed.text ≡ Some deed.set
      pub real : AnswerRecord
      pub set : deed.set ≡ sets.Answer real (seal_of real (next_control before))
      pub its : real.number ≡ number
      pub level : real.level ≤ HIGHEST
      pub chosen : option_map but_for_named (answer_of role chooser number at.version at.own) ≡ Some (but_for_named real)

    next_said : (deed : Deed) (rest : List Deed) (c : Comes role front (deed ∷ rest) at) → IsNext deed c.version
    next_said deed rest c =
        let end = ends role in
        let whole : mine role ≡ of_delivery number (deeds_of (old role ++ end.grown.added)) = ap (λ (l : List Entry). of_delivery number (deeds_of l)) end.grown.grown in
        let a = added_in number role chooser (λ _. Unit {0}) (old role) end.grown.added front deed rest end.grown.each (sym whole ∙ c.is) c.turns.0 c.newer in
        let all : new role ≡ (a.before ++ signed deed.text ∷ []) ++ a.more = end.grown.grown ∙ a.grown in
        let stays : StaysLegal role a.before (signed deed.text) = legal_front role (a.before ++ signed deed.text ∷ []) a.more (subst (Legal role) all end.legal) in
        let legal : Legal role a.before = legal_front role a.before (signed deed.text ∷ []) stays in
        let count = signed_join a.before (signed deed.text ∷ []) in
        let grew = signed_join (a.before ++ signed deed.text ∷ []) a.more in
        let same = ap next_control all in
        let low = end.few in
        let read = read_at front deed rest (subst AllRead c.is (read_filter _ (deeds_of (new role)) (all_read (new role)))) in
        let its = its_number deed (subst (In deed) (sym c.is) (in_middle front deed rest)) in
        let some : 1 ≤ length (of_delivery number (deeds_of a.before)) = subst (λ (l : List Deed). 1 ≤ length l) (sym a.is) c.some in
        let n = next_answer role chooser end.right a.before number deed.text legal stays (omega (arith, count, grew, same, low)) deed.set read its some a.chosen in
        let version : n.version ≡ c.version = one_version n.version c.version (sym n.seen ∙ c.seen a.before a.is) in
        let chosen : answer_of role chooser number c.version at.own ≡ Some n.answer =
        ap (λ (v : Version). answer_of role chooser number v at.own) (sym version) ∙ ap (answer_of role chooser number n.version) (sym (ap amount_by a.is ∙ c.own)) ∙ n.chosen in
        record {
          before = a.before;
          legal = legal;
          stays = stays;
          front_is = a.is;
          read = read;
          real = n.answer;
          set = n.is;
          its = n.its;
          level = n.level;
          chosen = sym (alike_here (deed ∷ rest) c) ∙ ap (option_map but_for_named) chosen;
        }
      where
        one_version : (a b : Version) → (let r : Option Version = Some a in r) ≡ Some b → a ≡ b
        one_version a b e = cc

        its_number : (deed : Deed) → In deed (mine role) → number_in deed.set ≡ number
        its_number deed there =
            let p = filter_in (λ (d : Deed). bytes_eq (number_in d.set) number) (deeds_of (new role)) deed there in
            (bytes_eq-Decides (number_in deed.set) number).0 p.holds

    -- ---- behind an adjustment the other end answers

    adjusted_on : (deed : Deed) (rest : List Deed) (answer : AnswerRecord) (c : Comes role front (deed ∷ rest) at) (n : IsNext deed c.version) → has_none answer.lines ≡ false → but_for_named n.real ≡ answer
        → Comes (other_role role) (map mirrored (front ++ deed ∷ [])) (map mirrored rest) (behind at answer)
    adjusted_on deed rest answer c n adjusts same =
        let has : has_none n.real.lines ≡ false = ap (λ (a : AnswerRecord). has_none a.lines) same ∙ adjusts in
        let kind = c.turns.0 in
        let proposal : proposes deed.set ≡ true = ap proposes n.set ∙ ap not has in
        let read : set_in deed.text ≡ Some (sets.Answer n.real (seal_of n.real (next_control n.before))) = n.read ∙ ap (λ (s : SetView). let r : Option SetView = Some s in r) n.set in
        let more : List Entry = n.before ++ signed deed.text ∷ [] in
        let now : of_delivery number (deeds_of more) ≡ front ++ deed ∷ [] =
        of_more role number n.before deed.text n.legal n.stays n.real (seal_of n.real (next_control n.before)) read n.its has c.version (c.seen n.before n.front_is)
        ∙ ap (λ (d : Deed). of_delivery number (deeds_of n.before) ++ d ∷ []) (sym (same_deed deed (sets.Answer n.real (seal_of n.real (next_control n.before))) kind n.set))
        ∙ ap (λ (l : List Deed). l ++ deed ∷ []) n.front_is in
        let seen : seen_of more number ≡ Some (adjusted c.version n.real (seal_of n.real (next_control n.before)).check) =
        seen_more role number n.before deed.text n.legal n.stays n.real (seal_of n.real (next_control n.before)) read n.its has c.version (c.seen n.before n.front_is) in
        let size : length (map mirrored (front ++ deed ∷ [])) ≡ length front + 1 = length-map (front ++ deed ∷ []) mirrored ∙ length-append front (deed ∷ []) in
        let low = c.newer in
        let their_low = c.their_newer in
        record {
          is = even role ∙ ap (map mirrored) (c.is ∙ sym (append_assoc front (deed ∷ []) rest)) ∙ map-append mirrored (front ++ deed ∷ []) rest;
          some = omega (arith, size);
          newer = omega (arith, size, their_low);
          their_newer = subst (λ (r : Role). sets_in number (old r) ≤ length (map mirrored (front ++ deed ∷ []))) (sym (twice_other role)) (omega (arith, size, low));
          turns = subst (λ (k : ℕ). AreInTurn Signed k (map mirrored rest)) (sym size) (turns_mirrored Took (length front + 1) rest c.turns.2);
          awaits = last_awaits role number more n.stays front deed now kind proposal;
          version = adjusted c.version n.real (seal_of n.real (next_control n.before)).check;
          seen = λ entries is. seen_mirrored number entries more (is ∙ ap (map mirrored) (sym now)) ∙ seen;
          same = ap (λ (v : Version). adjusted v (but_for_named n.real) 0) c.same ∙ ap (λ (a : AnswerRecord). adjusted at.version a 0) same;
          own = ap amount_by (map-append mirrored front (deed ∷ [])) ∙ amount_took (map mirrored front) (mirrored deed) (ap other_kind kind) ∙ c.partner;
          partner = ap amount_by (mirrored_twice (front ++ deed ∷ [])) ∙ amount_signed front deed kind proposal
              ∙ ap (λ (s : SetView). let r : Option ℕ = Some (amount_in s) in r) n.set ∙ ap (λ (a : AnswerRecord). let r : Option ℕ = Some a.amount in r) same;
        }

    -- ---- behind an acceptance nothing follows

    accepts_last : (deeds : List Deed) (deed : Deed) → proposes deed.set ≡ false → has_acceptance (deeds ++ deed ∷ []) ≡ true
    accepts_last [] deed accepts = ap (λ (b : Bool). is_some (first_of (cond (not b) (deed ∷ []) []))) accepts
    accepts_last (one ∷ deeds) deed accepts = by (proposes one.set) (accepts_last deeds deed accepts)
      where
        by : (b : Bool) → has_acceptance (deeds ++ deed ∷ []) ≡ true
            → is_some (first_of (cond (not b) (one ∷ filter (λ (d : Deed). not (proposes d.set)) (deeds ++ deed ∷ [])) (filter (λ (d : Deed). not (proposes d.set)) (deeds ++ deed ∷ [])))) ≡ true
        by true e = e
        by false e = refl

    none_behind : (deed : Deed) (rest : List Deed) → mine role ≡ front ++ deed ∷ rest → proposes deed.set ≡ false → rest ≡ []
    none_behind deed [] is accepts = refl
    none_behind deed (next ∷ later) is accepts =
        absurd (never_both _ (accepts_last front deed accepts) (early role number (new role) (front ++ deed ∷ []) next later (ends role).legal (is ∙ sym (append_assoc front (deed ∷ []) (next ∷ later)))))

    -- ---- one set more

    follow : (deed : Deed) (rest : List Deed) (answer : AnswerRecord) (more : List AnswerRecord) → said deed ≡ as_answer answer → has_none answer.lines ≡ false → Follows more (map mirrored rest) → Follows (answer ∷ more) (deed ∷ rest)
    follow deed rest answer more is adjusts (inl e) =
        inl (ap (λ (s : SetView). s ∷ map said rest) is ∙ ap (λ (l : List SetView). as_answer answer ∷ l) (sym (said_mirrored rest) ∙ e))
    follow deed rest answer more is adjusts (inr b) = inr (record {
      next = b.next;
      more = b.more;
      is = ap (λ (s : SetView). s ∷ map said rest) is ∙ ap (λ (l : List SetView). as_answer answer ∷ l) (sym (said_mirrored rest) ∙ b.is);
      long = b.long;
      declined = λ e. b.declined (sym (ap (λ (t : Bool). not (not t) || list_any (λ (set : SetView). not (proposes set)) (map as_answer more)) adjusts) ∙ e);
    })

  same_answer : (a b : AnswerRecord) → (let r : Option AnswerRecord = Some a in r) ≡ Some b → a ≡ b
  same_answer a b e = cc

  pub walk : (answers : List AnswerRecord) (role : Role) (front rest : List Deed) (at : TalkStand) → Comes role front rest at → AreAnswers choosers number role at answers → Follows answers rest
  walk [] role front [] at c declines = inl refl
  walk [] role front (deed ∷ rest) at c declines =
      let n = next_said role front at deed rest c in
      inr (record {
        next = as_answer (but_for_named n.real);
        more = map said rest;
        is = ap (λ (s : SetView). but_for_seal s ∷ map said rest) n.set;
        long = λ text w. declines (but_for_named n.real) (record { chosen = n.chosen; level = n.level; text = text; written = w });
        declined = λ e. absurd (cc);
      })
  walk (answer ∷ more) role front [] at c (says, ends_it, goes) = absurd (no_stop role front at answer c says)
  walk (answer ∷ more) role front (deed ∷ rest) at c (says, ends_it, goes) =
      let n = next_said role front at deed rest c in
      let same : but_for_named n.real ≡ answer = same_answer (but_for_named n.real) answer (sym n.chosen ∙ says.chosen) in
      let is : said deed ≡ as_answer answer = ap but_for_seal n.set ∙ ap as_answer same in
      elim (cases_Bool (has_none answer.lines)) [
        | inl accepts ↦
            let accepting : proposes deed.set ≡ false = ap proposes n.set ∙ ap (λ (a : AnswerRecord). not (has_none a.lines)) same ∙ ap not accepts in
            let none = none_behind role front at deed rest c.is accepting in
            inl (ap (λ (s : SetView). s ∷ map said rest) is ∙ ap (λ (l : List Deed). as_answer answer ∷ map said l) none ∙ ap (λ (l : List AnswerRecord). as_answer answer ∷ map as_answer l) (sym (ends_it accepts)))
        | inr adjusts ↦
            follow role front at deed rest answer more is adjusts
            (walk more (other_role role) (map mirrored (front ++ deed ∷ [])) (map mirrored rest) (behind at answer)
            (adjusted_on role front at deed rest answer c n adjusts same) (goes adjusts))
      ]
