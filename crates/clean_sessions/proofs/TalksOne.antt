-- Each delivery of two backed lists has one talk.
use Rattle.std.proofs.Common.{◌≡◌, ◌⊎◌, ◌≤◌, ℕ, true, false, is_some, List, [], ◌∷◌, map, Option, Some, None, refl, sym, ap, subst, ◌∙◌, inl, inr, arith}
use Rattle.std.specs.List.{filter}
use Rattle.std.specs.Option.{option_and_then, option_map}
use Rattle.dsd_values.specs.declared.level.TheConstants.Level.{MAX as HIGHEST}
use Rattle.dsd_values.specs.declared.role.Role.{Role}
use Rattle.dsd_values.specs.declared.role.Role.TheVariants.{Receiver, Supplier}
use Rattle.base_record_894.specs.BaseRecord.{BaseRecord, amount_of}
use Rattle.adjustment_895.specs.AnswerRecord.{AnswerRecord}
use Rattle.dsd_record.specs.Chain.{chain_from, version_of}
use Rattle.dsd_record.specs.Choices.{Chooser}
use Rattle.dsd_record.specs.Version.{Version}
use Rattle.dsd_record.specs.declared.set_view.SetView.{SetView}
use Rattle.dsd_record.specs.declared.set_view.SetView.TheVariants as sets
use Rattle.dsd_record.proofs.ReadOnce.{is_set_in}
use Rattle.dsd_journal.specs.declared.entry.Entry.{Entry}
use Rattle.dsd_journal.specs.declared.entry.EntryKind.{EntryKind}
use Rattle.dsd_journal.specs.declared.entry.EntryKind.TheVariants.{Signed, Took}
use Rattle.delivery_book.specs.Deeds.{Deed, deeds_of, level_in, of_delivery, other_kind, other_role, proposes}
use Rattle.delivery_book.specs.Lookups.{own_amount, seen_of}
use Rattle.delivery_book.specs.Signing.{Legal}
use Rattle.delivery_book.specs.Standing.{acceptance_of, highest, highest_of, version_at}
use Rattle.delivery_book.proofs.Agreeing.{twice_other}
use Rattle.delivery_book.proofs.Grown.{legal_founded}
use Rattle.delivery_book.proofs.Standings.{highest_is}
use Rattle.clean_sessions.specs.ChosenAnswers.{but_for_check}
use Rattle.clean_sessions.specs.DeliveryStands.{AreBacked, sets_in}
use Rattle.clean_sessions.specs.Talks.{AreAnswers, IsAnswered, IsLeftOut, IsNewTalk, IsOver, IsProposed, IsTalk, Talk, as_answer, said_in, unsealed}
use Rattle.clean_sessions.proofs.AnswersOne.{same_answers}
use Rattle.clean_sessions.proofs.BoolTests.{never_both}
use Rattle.clean_sessions.proofs.CoursesBehind.{accepts_in as has_acceptance, accepts_mirrored, early}
use Rattle.clean_sessions.proofs.DeedsOfBoth.{all_read}
use Rattle.clean_sessions.proofs.FrontsSeen.{highest_there}
use Rattle.clean_sessions.proofs.HearingTurns.{read_in}
use Rattle.clean_sessions.proofs.LastDeeds.{none_accepted}
use Rattle.clean_sessions.proofs.Meetings.{IsBehind, Meet, behind_length, lists_meet}
use Rattle.clean_sessions.proofs.MirroredDeeds.{mirrored}
use Rattle.clean_sessions.proofs.SpareTurns.{set_low}
use Rattle.clean_sessions.proofs.TalksWalked.{said, said_mirrored}

-- ---- options

pub is_none_of : {X : Type 0} (o : Option X) → is_some o ≡ false → o ≡ None
is_none_of None e = refl
is_none_of (Some x) e = absurd (cc)

pub some_not : {X : Type 0} (o : Option X) → o ≡ None → is_some o ≡ true → ⊥
some_not None e f = cc
some_not (Some x) e f = cc

pub some_deed : (a b : Deed) → (let r : Option Deed = Some a in r) ≡ Some b → a ≡ b
some_deed a b e = cc

pub same_version : (a b : Version) → (let r : Option Version = Some a in r) ≡ Some b → a ≡ b
same_version a b e = cc

same_draft : (a b : BaseRecord) → (let r : Option BaseRecord = Some a in r) ≡ Some b → a ≡ b
same_draft a b e = cc

same_talk : (one other : Talk) → one.known ≡ other.known → one.new ≡ other.new → one ≡ other
same_talk one other known new =
    ap (λ (l : List SetView). let t : Talk = record { known = l; new = one.new } in t) known
    ∙ ap (λ (l : List SetView). let t : Talk = record { known = other.known; new = l } in t) new

-- one role or the other
roles : (P : Role → Role → Type 0) → P Supplier Supplier → P Supplier Receiver → P Receiver Supplier → P Receiver Receiver → (one other : Role) → P one other
roles P a b c d Supplier Supplier = a
roles P a b c d Supplier Receiver = b
roles P a b c d Receiver Supplier = c
roles P a b c d Receiver Receiver = d

alike_or_not : (one other : Role) → (one ≡ other) ⊎ (other ≡ other_role one)
alike_or_not one other = roles (λ a b. (a ≡ b) ⊎ (b ≡ other_role a)) (inl refl) (inr refl) (inr refl) (inl refl) one other

module _ (choosers : Role → Chooser) (lists : Role → List Entry) (backed : (role : Role) → AreBacked role (lists role) (lists (other_role role))) (number : List ℕ) where
  abbrev have : Role → List Deed
  have role = of_delivery number (deeds_of (lists role))

  -- ---- acceptances in both lists

  -- a list that goes on behind all sets of the other one has no acceptance there
  none_in_shorter : (role : Role) → IsBehind (have (other_role role)) (have role) → has_acceptance (have (other_role role)) ≡ false
  none_in_shorter role longer =
      sym (accepts_mirrored (have (other_role role)))
      ∙ early role number (lists role) (map mirrored (have (other_role role))) longer.last [] (backed role).legal longer.is

  none_in_own : (role : Role) → IsBehind (have role) (have (other_role role)) → has_acceptance (have role) ≡ false
  none_in_own role longer = sym (accepts_mirrored (have role)) ∙ early (other_role role) number (lists (other_role role)) (map mirrored (have role)) longer.last [] (backed role).others longer.is

  both_accepted : (role : Role) → has_acceptance (have role) ≡ true → has_acceptance (have (other_role role)) ≡ true → said_in number (lists (other_role role)) ≡ said_in number (lists role)
  both_accepted role here there = by (lists_meet role (lists role) (lists (other_role role)) number (backed role))
    where
      by : Meet (have role) (have (other_role role)) → said_in number (lists (other_role role)) ≡ said_in number (lists role)
      by (inl even) = ap (map said) even ∙ said_mirrored (have role)
      by (inr (inl ahead)) = absurd (never_both _ there (none_in_shorter role ahead))
      by (inr (inr late)) = absurd (never_both _ here (none_in_own role late))

  -- an acceptance is in the longer list too
  accepted_longest : (role : Role) → sets_in number (lists role) ≤ sets_in number (lists (other_role role)) → has_acceptance (have role) ≡ true → has_acceptance (have (other_role role)) ≡ true
  accepted_longest role longest here = by (lists_meet role (lists role) (lists (other_role role)) number (backed role))
    where
      by : Meet (have role) (have (other_role role)) → has_acceptance (have (other_role role)) ≡ true
      by (inl even) = ap has_acceptance even ∙ accepts_mirrored (have role) ∙ here
      by (inr (inl ahead)) = let more = behind_length (have (other_role role)) (have role) ahead in absurd (omega (arith, more, longest))
      by (inr (inr late)) = absurd (never_both _ here (none_in_own role late))

  open_there : (talk : Talk) (a : IsAnswered choosers lists number talk) (role : Role) → has_acceptance (have role) ≡ true → ⊥
  open_there talk a role here = elim (alike_or_not a.role role) [
    | inl same ↦
        some_not (acceptance_of number (deeds_of (lists (other_role a.role)))) a.none
        (accepted_longest a.role a.longest (subst (λ (r : Role). has_acceptance (have r) ≡ true) (sym same) here))
    | inr other ↦ some_not (acceptance_of number (deeds_of (lists (other_role a.role)))) a.none (subst (λ (r : Role). has_acceptance (have r) ≡ true) other here)
  ]

  -- ---- the last set

  none_highest : (role : Role) (last : Deed) → have role ≡ [] → highest_of number (deeds_of (lists role)) ≡ Some last → ⊥
  none_highest role last none e = never (sym (ap (λ (l : List Deed). highest (filter (λ (d : Deed). proposes d.set) l)) none) ∙ e)
    where
      never : (let r : Option Deed = None in r) ≡ Some last → ⊥
      never e = cc

  pub legal_of : (role : Role) → Legal role (lists role)
  legal_of role = (backed role).legal

  -- the version of the last proposal
  pub record IsVersionOf (role : Role) (last : Deed) : Type 0 where
    pub version : Version
    pub seen : seen_of (lists role) number ≡ Some version
    pub level : version.level ≡ level_in last.set
    pub low : level_in last.set ≤ HIGHEST

  pub version_of_last : (role : Role) (last : Deed) → highest_of number (deeds_of (lists role)) ≡ Some last → IsVersionOf role last
  version_of_last role last top =
      let h = highest_is number (deeds_of (lists role)) last top in
      let end = (legal_founded role (lists role) (legal_of role)).ends last h.is.among h.is.proposes in
      record {
        version = end.version;
        seen = ap (option_and_then (version_at (deeds_of (lists role)))) top ∙ ap (option_and_then version_of) end.to ∙ end.made;
        level = end.level;
        low = set_low last.set last.text (is_set_in last.text last.set (read_in (deeds_of (lists role)) last (all_read (lists role)) h.is.among));
      }

  -- ---- one talk at most

  same_over : (one other : Talk) (a : IsOver lists number one) (b : IsOver lists number other) → one ≡ other
  same_over one other a b = same_talk one other (a.known ∙ known (alike_or_not a.role b.role) ∙ sym b.known) (a.new ∙ sym b.new)
    where
      known : (a.role ≡ b.role) ⊎ (b.role ≡ other_role a.role) → said_in number (lists a.role) ≡ said_in number (lists b.role)
      known (inl same) = ap (λ (r : Role). said_in number (lists r)) same
      known (inr differs) =
          sym (both_accepted a.role a.accepted (subst (λ (r : Role). has_acceptance (have r) ≡ true) differs b.accepted)) ∙ ap (λ (r : Role). said_in number (lists r)) (sym differs)

  same_answered : (one other : Talk) (a : IsAnswered choosers lists number one) (b : IsAnswered choosers lists number other) → a.role ≡ b.role → one ≡ other
  same_answered one other a b same =
      let versions : a.version ≡ b.version = same_version a.version b.version (sym a.seen ∙ ap (λ (r : Role). seen_of (lists (other_role r)) number) same ∙ b.seen) in
      let answers : a.answers ≡ b.answers =
      same_answers choosers number a.answers b.answers b.role (record { version = but_for_check b.version; own = own_amount (lists b.role) number; partner = own_amount (lists (other_role b.role)) number })
      (subst (λ (v : Version). AreAnswers choosers number b.role (record { version = but_for_check v; own = own_amount (lists b.role) number; partner = own_amount (lists (other_role b.role)) number }) a.answers) versions
      (subst (λ (r : Role). AreAnswers choosers number r (record { version = but_for_check a.version; own = own_amount (lists r) number; partner = own_amount (lists (other_role r)) number }) a.answers) same a.turns)) b.turns in
      same_talk one other (a.known ∙ ap (λ (r : Role). said_in number (lists (other_role r))) same ∙ sym b.known) (a.new ∙ ap (map as_answer) answers ∙ sym b.new)

  -- of a last set one end alone is the signer
  one_signer : (role : Role) (mine theirs : Deed) → sets_in number (lists role) ≤ sets_in number (lists (other_role role)) → sets_in number (lists (other_role role)) ≤ sets_in number (lists role)
      → highest_of number (deeds_of (lists role)) ≡ Some mine → highest_of number (deeds_of (lists (other_role role))) ≡ Some theirs → mine.kind ≡ Signed → theirs.kind ≡ Signed → ⊥
  one_signer role mine theirs less more top their_top kind their_kind = by (lists_meet role (lists role) (lists (other_role role)) number (backed role))
    where
      by : Meet (have role) (have (other_role role)) → ⊥
      by (inl even) =
          let there = highest_there number (lists (other_role role)) (lists role) even in
          let same : mirrored mine ≡ theirs = some_deed (mirrored mine) theirs (sym (there ∙ ap (option_map mirrored) top) ∙ their_top) in
          crossed mine.kind kind (ap (λ (d : Deed). d.kind) same ∙ their_kind)
        where
          crossed : (k : EntryKind) → k ≡ Signed → other_kind k ≡ Signed → ⊥
          crossed Signed e f = cc
          crossed Took e f = cc
      by (inr (inl ahead)) = let long = behind_length (have (other_role role)) (have role) ahead in omega (arith, long, less)
      by (inr (inr late)) = let long = behind_length (have role) (have (other_role role)) late in omega (arith, long, more)

  one_answered : (one other : Talk) (a : IsAnswered choosers lists number one) (b : IsAnswered choosers lists number other) → one ≡ other
  one_answered one other a b = elim (alike_or_not a.role b.role) [
    | inl same ↦ same_answered one other a b same
    | inr differs ↦
        let back : other_role b.role ≡ a.role = ap other_role differs ∙ twice_other a.role in
        absurd (one_signer a.role b.last a.last a.longest
        (subst (λ (r : Role). sets_in number (lists (other_role a.role)) ≤ sets_in number (lists r)) back (subst (λ (r : Role). sets_in number (lists r) ≤ sets_in number (lists (other_role b.role))) differs b.longest))
        (subst (λ (r : Role). highest_of number (deeds_of (lists r)) ≡ Some b.last) back b.highest) a.highest b.signed a.signed)
  ]

  same_begun : (one other : Talk) (a : IsNewTalk choosers lists number one) (b : IsNewTalk choosers lists number other) → one ≡ other
  same_begun one other a b = same_talk one other (a.known ∙ sym b.known) (by a.begins b.begins)
    where
      by : IsProposed choosers number one.new ⊎ IsLeftOut choosers number one.new → IsProposed choosers number other.new ⊎ IsLeftOut choosers number other.new → one.new ≡ other.new
      by (inl p) (inl q) =
          let draft : p.draft ≡ q.draft = same_draft p.draft q.draft (sym p.drafted ∙ q.drafted) in
          let versions : p.version ≡ q.version = same_version p.version q.version (sym p.made ∙ ap (λ (d : BaseRecord). version_of (chain_from d 0)) draft ∙ q.made) in
          let answers : p.answers ≡ q.answers =
          same_answers choosers number p.answers q.answers Receiver (record { version = q.version; own = None; partner = Some (amount_of q.draft) })
          (subst (λ (v : Version). AreAnswers choosers number Receiver (record { version = v; own = None; partner = Some (amount_of q.draft) }) p.answers) versions
          (subst (λ (d : BaseRecord). AreAnswers choosers number Receiver (record { version = p.version; own = None; partner = Some (amount_of d) }) p.answers) draft p.turns)) q.turns in
          p.new ∙ ap (λ (d : BaseRecord). let s : SetView = sets.Base d unsealed in s ∷ map as_answer p.answers) draft ∙ ap (λ (l : List AnswerRecord). let s : SetView = sets.Base q.draft unsealed in s ∷ map as_answer l) answers ∙ sym q.new
      by (inl p) (inr out) = absurd (out.none p.draft p.text p.drafted p.written)
      by (inr out) (inl q) = absurd (out.none q.draft q.text q.drafted q.written)
      by (inr out) (inr also) = out.new ∙ sym also.new

  not_begun_over : (one other : Talk) → IsOver lists number one → IsNewTalk choosers lists number other → ⊥
  not_begun_over one other a b = some_not (acceptance_of number (deeds_of (lists a.role))) (none_accepted number (lists a.role) (b.unknown a.role)) a.accepted

  not_begun_answered : (one other : Talk) → IsAnswered choosers lists number one → IsNewTalk choosers lists number other → ⊥
  not_begun_answered one other a b = none_highest (other_role a.role) a.last (b.unknown (other_role a.role)) a.highest

  pub one_talk : (one other : Talk) → IsTalk choosers lists number one → IsTalk choosers lists number other → one ≡ other
  one_talk one other (inl a) (inl b) = same_over one other a b
  one_talk one other (inl a) (inr (inl b)) = absurd (open_there other b a.role a.accepted)
  one_talk one other (inl a) (inr (inr b)) = absurd (not_begun_over one other a b)
  one_talk one other (inr (inl a)) (inl b) = absurd (open_there one a b.role b.accepted)
  one_talk one other (inr (inl a)) (inr (inl b)) = one_answered one other a b
  one_talk one other (inr (inl a)) (inr (inr b)) = absurd (not_begun_answered one other a b)
  one_talk one other (inr (inr a)) (inl b) = absurd (not_begun_over other one b a)
  one_talk one other (inr (inr a)) (inr (inl b)) = absurd (not_begun_answered other one b a)
  one_talk one other (inr (inr a)) (inr (inr b)) = same_begun one other a b
