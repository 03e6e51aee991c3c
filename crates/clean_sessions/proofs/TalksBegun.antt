-- Where the talk of a delivery begins, its sets are in the new lists of both ends.
use Rattle.std.proofs.Common.{◌≡◌, ◌⊎◌, ◌+◌, ℕ, suc, Bool, true, false, not, ◌||◌, cond, is_some, length, List, [], ◌∷◌, ◌++◌, map, refl, sym, ap, subst, ◌∙◌, inl, inr, append_assoc, append-nil, length-append, arith}
use Rattle.std.specs.List.{filter, list_any}
use Rattle.std.proofs.lemmas.List.{length-map, map-append}
use Rattle.dsd_values.specs.declared.role.Role.{Role}
use Rattle.dsd_values.specs.declared.role.Role.TheVariants.{Receiver, Supplier}
use Rattle.dsd_record.specs.Choices.{Chooser}
use Rattle.dsd_record.specs.declared.set_view.SetView.{SetView}
use Rattle.dsd_record.specs.declared.set_view.SetView.TheVariants as sets
use Rattle.dsd_journal.specs.declared.entry.Entry.{Entry}
use Rattle.dsd_journal.specs.declared.entry.EntryKind.{EntryKind}
use Rattle.dsd_journal.specs.declared.entry.EntryKind.TheVariants.{Signed}
use Rattle.delivery_book.specs.Deeds.{Deed, deeds_of, first_of, of_delivery, other_kind, other_role, proposes}
use Rattle.delivery_book.specs.Lookups.{own_amount}
use Rattle.delivery_book.proofs.Agreeing.{twice_other}
use Rattle.clean_sessions.specs.ChosenAnswers.{but_for_check}
use Rattle.clean_sessions.specs.DeedShapes.{AreInTurn, first_kind}
use Rattle.clean_sessions.specs.DeliveryStands.{AreBacked, sets_in}
use Rattle.clean_sessions.specs.TalkedSets.{AreSaid}
use Rattle.clean_sessions.specs.Talks.{HasAcceptance, IsAnswered, IsOver, Talk, TalkStand, but_for_seal, said_in}
use Rattle.clean_sessions.proofs.BoolTests.{never_both}
use Rattle.clean_sessions.proofs.CoursesBehind.{accepts_in as has_acceptance, deeds_grown, early}
use Rattle.clean_sessions.proofs.DeedsInTurn.{legal_turns}
use Rattle.clean_sessions.proofs.FrontsSeen.{amount_by, amount_took, awaits_by, ends_open, last_awaits, mirrored_twice, seen_mirrored}
use Rattle.clean_sessions.proofs.LastDeeds.{AllPropose}
use Rattle.clean_sessions.proofs.Meetings.{Meet, behind_length, lists_meet}
use Rattle.clean_sessions.proofs.MirroredDeeds.{mirrored}
use Rattle.clean_sessions.proofs.TalksWalked.{Comes, GoesBeyond, IsEnd, said, said_mirrored, walk}

-- ---- both ends

pub of_both : (P : Role → Type 0) (role : Role) → P role → P (other_role role) → (other : Role) → P other
of_both P Supplier here there Supplier = here
of_both P Supplier here there Receiver = there
of_both P Receiver here there Supplier = there
of_both P Receiver here there Receiver = here

-- ---- acceptances among what was said

proposes_still : (set : SetView) → proposes (but_for_seal set) ≡ proposes set
proposes_still (sets.Base base seal) = refl
proposes_still (sets.Answer answer seal) = refl

pub none_accepts : (deeds : List Deed) → AllPropose deeds → (more : List SetView) → HasAcceptance (map said deeds ++ more) → HasAcceptance more
none_accepts [] all more e = e
none_accepts (deed ∷ deeds) all more e =
    none_accepts deeds all.1 more (sym (ap (λ (b : Bool). not b || list_any (λ (set : SetView). not (proposes set)) (map said deeds ++ more)) (proposes_still deed.set ∙ all.0)) ∙ e)

pub accepting : (deeds : List Deed) → HasAcceptance (map said deeds) → has_acceptance deeds ≡ true
accepting [] e = absurd (cc)
accepting (deed ∷ deeds) e = by (proposes deed.set) (accepting deeds) (sym (ap (λ (b : Bool). not b || list_any (λ (set : SetView). not (proposes set)) (map said deeds)) (proposes_still deed.set)) ∙ e)
  where
    by : (b : Bool) → (HasAcceptance (map said deeds) → has_acceptance deeds ≡ true) → (not b || list_any (λ (set : SetView). not (proposes set)) (map said deeds)) ≡ true
        → is_some (first_of (cond (not b) (deed ∷ filter (λ (d : Deed). not (proposes d.set)) deeds) (filter (λ (d : Deed). not (proposes d.set)) deeds))) ≡ true
    by true rest e = rest e
    by false rest e = refl

-- ---- the kinds behind a set

pub turns_behind : (kind : EntryKind) (n : ℕ) (front : List Deed) (last : Deed) (rest : List Deed) → AreInTurn kind n ((front ++ last ∷ []) ++ rest) → AreInTurn (other_kind last.kind) (n + (length front + 1)) rest
turns_behind kind n [] last rest turns =
    subst (λ (k : EntryKind). AreInTurn (other_kind k) (n + (0 + 1)) rest) (sym turns.0) (subst (λ (k : ℕ). AreInTurn (other_kind kind) k rest) (sums n) turns.2)
  where
    sums : (n : ℕ) → n + 1 ≡ n + (0 + 1)
    sums n = omega arith
turns_behind kind n (deed ∷ front) last rest turns =
    subst (λ (k : ℕ). AreInTurn (other_kind last.kind) k rest) (sums n (length front)) (turns_behind (other_kind kind) (n + 1) front last rest turns.2)
  where
    sums : (n k : ℕ) → (n + 1) + (k + 1) ≡ n + (suc k + 1)
    sums n k = omega arith

-- ---- what follows a front is what a talk says behind it

pub goes_so : (talk : Talk) (front rest : List Deed) → talk.known ≡ map said front → AllPropose front → (map said rest ≡ talk.new) ⊎ GoesBeyond talk.new (map said rest) → AreSaid talk (map said (front ++ rest))
goes_so talk front rest known all (inl e) = inl (map-append said front rest ∙ ap (λ (l : List SetView). l ++ map said rest) (sym known) ∙ ap (λ (l : List SetView). talk.known ++ l) e)
goes_so talk front rest known all (inr b) = inr (record {
  next = b.next;
  more = b.more;
  is = map-append said front rest ∙ ap (λ (l : List SetView). l ++ map said rest) (sym known) ∙ ap (λ (l : List SetView). talk.known ++ l) b.is ∙ sym (append_assoc talk.known talk.new (b.next ∷ b.more));
  long = b.long;
  declined = λ e. b.declined (none_accepts front all talk.new (subst (λ (l : List SetView). HasAcceptance (l ++ talk.new)) known e));
})

module _ (number : List ℕ) (choosers : Role → Chooser) (old new : Role → List Entry) (ends : (role : Role) → IsEnd role (choosers role) (old role) (new role))
    (even : (role : Role) → of_delivery number (deeds_of (new (other_role role))) ≡ map mirrored (of_delivery number (deeds_of (new role)))) (backed : (role : Role) → AreBacked role (old role) (old (other_role role))) where
  abbrev mine : Role → List Deed
  mine role = of_delivery number (deeds_of (new role))

  abbrev before : Role → List Deed
  before role = of_delivery number (deeds_of (old role))

  abbrev added : Role → List Deed
  added role = of_delivery number (deeds_of (ends role).grown.added)

  grown : (role : Role) → mine role ≡ before role ++ added role
  grown role = ap (λ (l : List Entry). of_delivery number (deeds_of l)) (ends role).grown.grown ∙ deeds_grown number (old role) (ends role).grown.added

  -- the sets of both new lists are the same
  pub said_there : (role : Role) (said_so : List SetView) (P : List SetView → Type 0) → map said (mine role) ≡ said_so → P said_so → (other : Role) → P (said_in number (new other))
  said_there role said_so P e p other =
      of_both (λ (r : Role). P (said_in number (new r))) role (subst P (sym e) p)
      (subst P (sym (ap (map said) (even role) ∙ said_mirrored (mine role) ∙ e)) p) other

  -- ---- an acceptance stands

  pub over_so : (talk : Talk) → IsOver old number talk → (other : Role) → AreSaid talk (said_in number (new other))
  over_so talk o other =
      let none = nothing_more (added o.role) (grown o.role) in
      let all : mine o.role ≡ before o.role = grown o.role ∙ ap (λ (l : List Deed). before o.role ++ l) none ∙ append-nil (before o.role) in
      said_there o.role (said_in number (old o.role)) (AreSaid talk) (ap (map said) all)
      (inl (sym (ap (λ (l : List SetView). talk.known ++ l) o.new ∙ append-nil talk.known ∙ o.known))) other
    where
      nothing_more : (more : List Deed) → mine o.role ≡ before o.role ++ more → more ≡ []
      nothing_more [] e = refl
      nothing_more (next ∷ more) e = absurd (never_both _ o.accepted (early o.role number (new o.role) (before o.role) next more (ends o.role).legal e))

  -- ---- the last proposal is answered

  even_back : (role : Role) → mine role ≡ map mirrored (mine (other_role role))
  even_back role = subst (λ (r : Role). mine r ≡ map mirrored (mine (other_role role))) (twice_other role) (even (other_role role))

  module _ (talk : Talk) (a : IsAnswered choosers old number talk) where
    abbrev role : Role
    role = a.role

    abbrev partner : Role
    partner = other_role a.role

    abbrev front : List Deed
    front = map mirrored (before partner)

    abbrev rest : List Deed
    rest = map mirrored (added partner)

    abbrev at : TalkStand
    at = record { version = but_for_check a.version; own = own_amount (old role) number; partner = own_amount (old partner) number }

    whole : mine role ≡ front ++ rest
    whole = even_back role ∙ ap (map mirrored) (grown partner) ∙ map-append mirrored (before partner) (added partner)

    own_amount_is : amount_by front ≡ own_amount (old role) number
    own_amount_is = by (lists_meet role (old role) (old partner) number (backed role))
      where
        by : Meet (before role) (before partner) → amount_by front ≡ own_amount (old role) number
        by (inl even_now) = ap amount_by (ap (map mirrored) even_now ∙ mirrored_twice (before role))
        by (inr (inl ahead)) = let more = behind_length (before partner) (before role) ahead in let longest = a.longest in absurd (omega (arith, more, longest))
        by (inr (inr late)) =
            ap amount_by (ap (map mirrored) late.is ∙ map-append mirrored (map mirrored (before role)) (late.last ∷ []) ∙ ap (λ (l : List Deed). l ++ mirrored late.last ∷ []) (mirrored_twice (before role)))
            ∙ amount_took (before role) (mirrored late.last) (ap other_kind late.signed)

    answered_comes : Comes number choosers old new ends even role front rest at
    answered_comes =
        let o = ends_open partner number (old partner) (backed role).others a.last a.highest a.none in
        let size : length front ≡ sets_in number (old partner) = length-map (before partner) mirrored in
        let count = ap length o.is ∙ length-append o.front (a.last ∷ []) in
        let longest = a.longest in
        let turned : front ≡ map mirrored o.front ++ mirrored a.last ∷ [] = ap (map mirrored) o.is ∙ map-append mirrored o.front (a.last ∷ []) in
        let long : length (map mirrored o.front) ≡ length o.front = length-map o.front mirrored in
        let turns = turns_behind (first_kind role) 0 (map mirrored o.front) (mirrored a.last) rest
        (subst (λ (l : List Deed). AreInTurn (first_kind role) 0 (l ++ rest)) turned (subst (AreInTurn (first_kind role) 0) whole (legal_turns role (new role) number (ends role).legal))) in
        let signed_next : other_kind (mirrored a.last).kind ≡ Signed = ap (λ (k : EntryKind). other_kind (other_kind k)) a.signed in
        let place : 0 + (length (map mirrored o.front) + 1) ≡ length front = omega (arith, size, count, long) in
        record {
          is = whole;
          some = omega (arith, size, count);
          newer = omega (arith, size, longest);
          their_newer = omega (arith, size);
          turns = subst (λ (k : ℕ). AreInTurn Signed k rest) place (subst (λ (k : EntryKind). AreInTurn k (0 + (length (map mirrored o.front) + 1)) rest) signed_next turns);
          awaits = subst (λ (l : List Deed). awaits_by (map mirrored l) ≡ true) (sym o.is) (last_awaits partner number (old partner) (backed role).others o.front a.last o.is a.signed o.proposal);
          version = a.version;
          seen = λ entries is. seen_mirrored number entries (old partner) is ∙ a.seen;
          same = refl;
          own = own_amount_is;
          partner = ap amount_by (mirrored_twice (before partner));
        }

    propose_mirrored : (deeds : List Deed) → AllPropose deeds → AllPropose (map mirrored deeds)
    propose_mirrored [] all = tt
    propose_mirrored (deed ∷ deeds) all = (all.0, propose_mirrored deeds all.1)

    pub answered_so : (other : Role) → AreSaid talk (said_in number (new other))
    answered_so other =
        let o = ends_open partner number (old partner) (backed role).others a.last a.highest a.none in
        let follows = walk number choosers old new ends even a.answers role front rest at answered_comes a.turns in
        let known : talk.known ≡ map said front = a.known ∙ sym (said_mirrored (before partner)) in
        let turned = subst (λ (l : List SetView). (map said rest ≡ l) ⊎ GoesBeyond l (map said rest)) (sym a.new) follows in
        said_there role (map said (front ++ rest)) (AreSaid talk) (ap (map said) whole) (goes_so talk front rest known (propose_mirrored (before partner) o.all) turned) other
