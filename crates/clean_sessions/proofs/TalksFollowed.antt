-- Whatever the talk of a delivery is, its sets are in the new lists of both ends.
use Rattle.std.proofs.Common.{◌≡◌, ◌⊎◌, ◌≤◌, ◌+◌, ℕ, Bool, true, false, ◌||◌, cond, length, List, [], ◌∷◌, ◌++◌, map, Option, Some, None, Ok, refl, sym, ap, subst, ◌∙◌, inl, inr, arith}
use Rattle.std.specs.Prelude.{All, Contains}
use Rattle.std.specs.Str.{bytes_eq}
use Rattle.std.specs.List.{find}
use Rattle.std.proofs.lemmas.Bool.{cases_Bool}
use Rattle.std.proofs.lemmas.Slice.Eq.{bytes_eq-Decides}
use Rattle.dsd_values.specs.declared.role.Role.{Role}
use Rattle.dsd_values.specs.declared.role.Role.TheVariants.{Receiver, Supplier}
use Rattle.transaction_set.specs.declared.seal.Seal.{Seal}
use Rattle.base_record_894.specs.BaseRecord.{BaseRecord, amount_of}
use Rattle.base_record_894.specs.RecordText.{IsBase}
use Rattle.base_record_894.specs.WrittenText.{seal_of, written_of}
use Rattle.dsd_record.specs.Chain.{chain_from, version_of}
use Rattle.dsd_record.specs.Choices.{AreDraftsApart, Chooser, has_draft}
use Rattle.dsd_record.specs.ReadSets.{set_in}
use Rattle.dsd_record.specs.declared.set_view.SetView.{SetView}
use Rattle.dsd_record.specs.declared.set_view.SetView.TheVariants as sets
use Rattle.dsd_journal.specs.declared.entry.Entry.{Entry}
use Rattle.dsd_journal.specs.declared.entry.EntryKind.TheVariants.{Signed, Took}
use Rattle.delivery_book.specs.Deeds.{Deed, deeds_of, number_in, of_delivery, other_kind, other_role, proposes}
use Rattle.delivery_book.specs.Lookups.{amount_in}
use Rattle.delivery_book.specs.Signing.{Legal, next_control}
use Rattle.delivery_book.proofs.Grown.{legal_front}
use Rattle.delivery_book.proofs.Members.{In, filter_in, find_in, from_contains, to_contains}
use Rattle.own_turn.specs.OwnTurn.{StaysLegal, signed}
use Rattle.clean_sessions.specs.ChosenAnswers.{nine_digits}
use Rattle.clean_sessions.specs.Declining.{HasAnswered, HoldsBack}
use Rattle.clean_sessions.specs.DeedShapes.{AreInTurn}
use Rattle.clean_sessions.specs.DeliveryStands.{AreBacked}
use Rattle.clean_sessions.specs.TalkedSets.{AreSaid}
use Rattle.clean_sessions.specs.Talks.{IsLeftOut, IsNewTalk, IsProposed, IsTalk, Talk, TalkStand, as_answer, but_for_seal, draft_of, said_in, unsealed}
use Rattle.clean_sessions.proofs.AddedDeeds.{added_in, signed_join}
use Rattle.clean_sessions.proofs.CoursesBehind.{deeds_grown}
use Rattle.clean_sessions.proofs.DeedsInTurn.{legal_turns}
use Rattle.clean_sessions.proofs.DeedsOfBoth.{AllRead, all_read, read_filter}
use Rattle.clean_sessions.proofs.DraftsSigned.{draft_signed}
use Rattle.clean_sessions.proofs.FirstSaid.{IsDraftSaid, first_draft, of_first, seen_first}
use Rattle.clean_sessions.proofs.FrontsSeen.{amount_by, amount_signed, amount_took, last_awaits, mirrored_twice, same_deed, seen_mirrored}
use Rattle.clean_sessions.proofs.MirroredDeeds.{mirrored}
use Rattle.clean_sessions.proofs.TalksBegun.{answered_so, goes_so, over_so, said_there}
use Rattle.clean_sessions.proofs.TalksWalked.{Comes, GoesBeyond, IsEnd, said, said_mirrored, turns_mirrored, walk}

-- ---- drafts that stand apart

found_here : (number : List ℕ) (one : BaseRecord) (more : List BaseRecord) (draft : BaseRecord) → In draft more → draft.number ≡ number → has_draft one.number more ≡ false → bytes_eq one.number number ≡ false
found_here number one more draft there its apart = elim (cases_Bool (bytes_eq one.number number)) [
  | inl same ↦ absurd (never more there apart ((bytes_eq-Decides one.number number).0 same))
  | inr differs ↦ differs
]
  where
    never : (l : List BaseRecord) → In draft l → has_draft one.number l ≡ false → one.number ≡ number → ⊥
    never [] h e same = h
    never (x ∷ l) (inl is) e same =
        let yes_it : bytes_eq x.number one.number ≡ true = (bytes_eq-Decides x.number one.number).1 (ap (λ (d : BaseRecord). d.number) is ∙ its ∙ sym same) in
        or_never (bytes_eq x.number one.number) (has_draft one.number l) yes_it e
      where
        or_never : (a b : Bool) → a ≡ true → (a || b) ≡ false → ⊥
        or_never true b e f = cc
        or_never false b e f = cc
    never (x ∷ l) (inr h) e same = never l h (rest_of (bytes_eq x.number one.number) (has_draft one.number l) e) same
      where
        rest_of : (a b : Bool) → (a || b) ≡ false → b ≡ false
        rest_of true b e = absurd (cc)
        rest_of false b e = e

pub draft_found : (number : List ℕ) (drafts : List BaseRecord) (draft : BaseRecord) → AreDraftsApart drafts → In draft drafts → draft.number ≡ number → find (λ (d : BaseRecord). bytes_eq d.number number) drafts ≡ Some draft
draft_found number [] draft apart there its = absurd there
draft_found number (one ∷ more) draft apart (inl same) its =
    ap (λ (b : Bool). cond b (Some one) (find (λ (d : BaseRecord). bytes_eq d.number number) more)) ((bytes_eq-Decides one.number number).1 (ap (λ (d : BaseRecord). d.number) same ∙ its))
    ∙ ap (λ (d : BaseRecord). let r : Option BaseRecord = Some d in r) same
draft_found number (one ∷ more) draft apart (inr there) its =
    ap (λ (b : Bool). cond b (Some one) (find (λ (d : BaseRecord). bytes_eq d.number number) more)) (found_here number one more draft there its apart.0)
    ∙ draft_found number more draft apart.1 there its

-- ---- a draft that can be written is proposed

first_empty : {X : Type 0} (xs ys : List X) → xs ++ ys ≡ [] → xs ≡ []
first_empty [] ys e = refl
first_empty (x ∷ xs) ys e = absurd (cc)

pub not_held : (chooser : Chooser) (entries : List Entry) → All IsBase chooser.drafts → Legal Supplier entries → HasAnswered Supplier chooser entries → next_control entries ≤ nine_digits
    → (draft : BaseRecord) (text : List ℕ) → Contains chooser.drafts draft → written_of draft nine_digits ≡ Ok text → of_delivery draft.number (deeds_of entries) ≡ [] → ⊥
not_held chooser entries bases legal answered low draft text there written none =
    let h : HoldsBack Supplier chooser draft entries = answered.holds draft there none in
    let before_new = first_empty (of_delivery draft.number (deeds_of h.before)) (of_delivery draft.number (deeds_of h.more))
    (sym (ap (λ (l : List Entry). of_delivery draft.number (deeds_of l)) h.grown ∙ deeds_grown draft.number h.before h.more) ∙ none) in
    let before_legal : Legal Supplier h.before = legal_front Supplier h.before h.more (subst (Legal Supplier) h.grown legal) in
    let count = signed_join h.before h.more in
    let all = ap next_control h.grown in
    let may = draft_signed chooser h.before draft text bases before_legal (omega (arith, count, all, low)) there before_new written in
    h.none may.text may.may

some_draft : (a b : BaseRecord) → (let r : Option BaseRecord = Some a in r) ≡ Some b → a ≡ b
some_draft a b e = cc

module _ (number : List ℕ) (choosers : Role → Chooser) (old new : Role → List Entry) (ends : (role : Role) → IsEnd role (choosers role) (old role) (new role))
    (even : (role : Role) → of_delivery number (deeds_of (new (other_role role))) ≡ map mirrored (of_delivery number (deeds_of (new role)))) (backed : (role : Role) → AreBacked role (old role) (old (other_role role)))
    (apart : AreDraftsApart (choosers Supplier).drafts) where
  abbrev mine : Role → List Deed
  mine role = of_delivery number (deeds_of (new role))

  abbrev supplier : IsEnd Supplier (choosers Supplier) (old Supplier) (new Supplier)
  supplier = ends Supplier

  -- ---- the first set that was added

  record IsFirst (deed : Deed) : Type 0 where
    before : List Entry
    legal : Legal Supplier before
    stays : StaysLegal Supplier before (signed deed.text)
    none : of_delivery number (deeds_of before) ≡ []
    read : set_in deed.text ≡ Some deed.set
    kind : deed.kind ≡ Signed
    first : IsDraftSaid (choosers Supplier) before number deed.text deed.set
    drafted : draft_of (choosers Supplier) number ≡ Some first.draft

  first_said : (deed : Deed) (rest : List Deed) → mine Supplier ≡ deed ∷ rest → of_delivery number (deeds_of (old Supplier)) ≡ [] → IsFirst deed
  first_said deed rest is unknown =
      let turns = subst (AreInTurn Signed 0) is (legal_turns Supplier (new Supplier) number supplier.legal) in
      let size = ap length unknown in
      let whole : mine Supplier ≡ of_delivery number (deeds_of (old Supplier ++ supplier.grown.added)) = ap (λ (l : List Entry). of_delivery number (deeds_of l)) supplier.grown.grown in
      let a = added_in number Supplier (choosers Supplier) (λ _. Unit {0}) (old Supplier) supplier.grown.added [] deed rest supplier.grown.each (sym whole ∙ is) turns.0 (omega (arith, size)) in
      let all : new Supplier ≡ (a.before ++ signed deed.text ∷ []) ++ a.more = supplier.grown.grown ∙ a.grown in
      let stays : StaysLegal Supplier a.before (signed deed.text) = legal_front Supplier (a.before ++ signed deed.text ∷ []) a.more (subst (Legal Supplier) all supplier.legal) in
      let legal : Legal Supplier a.before = legal_front Supplier a.before (signed deed.text ∷ []) stays in
      let count = signed_join a.before (signed deed.text ∷ []) in
      let grew = signed_join (a.before ++ signed deed.text ∷ []) a.more in
      let same = ap next_control all in
      let low = supplier.few in
      let reads = subst AllRead is (read_filter _ (deeds_of (new Supplier)) (all_read (new Supplier))) in
      let passes = filter_in (λ (d : Deed). bytes_eq (number_in d.set) number) (deeds_of (new Supplier)) deed (subst (In deed) (sym is) (inl refl)) in
      let f = first_draft Supplier (choosers Supplier) supplier.right a.before number deed.text legal stays (omega (arith, count, grew, same, low)) a.is deed.set reads.0 ((bytes_eq-Decides (number_in deed.set) number).0 passes.holds) a.chosen in
      record {
        before = a.before;
        legal = legal;
        stays = stays;
        none = a.is;
        read = reads.0;
        kind = turns.0;
        first = f;
        drafted = draft_found number (choosers Supplier).drafts f.draft apart (from_contains (choosers Supplier).drafts f.draft f.chosen.among) f.its;
      }

  -- ---- the draft is answered

  module _ (talk : Talk) (n : IsNewTalk choosers old number talk) where
    abbrev at : IsProposed choosers number talk.new → TalkStand
    at p = record { version = p.version; own = None; partner = Some (amount_of p.draft) }

    first_comes : (deed : Deed) (rest : List Deed) → mine Supplier ≡ deed ∷ rest → (f : IsFirst deed) (p : IsProposed choosers number talk.new) → f.first.draft ≡ p.draft → Comes number choosers old new ends even Receiver (mirrored deed ∷ []) (map mirrored rest) (at p)
    first_comes deed rest is f p same =
        let seal : Seal = seal_of f.first.draft (next_control f.before) in
        let more : List Entry = f.before ++ signed deed.text ∷ [] in
        let read : set_in deed.text ≡ Some (sets.Base f.first.draft seal) = f.read ∙ ap (λ (s : SetView). let r : Option SetView = Some s in r) f.first.is in
        let proposal : proposes deed.set ≡ true = ap proposes f.first.is in
        let now : of_delivery number (deeds_of more) ≡ deed ∷ [] =
        of_first Supplier number f.before deed.text f.legal f.stays f.first.draft seal read f.first.its
        ∙ ap (λ (l : List Deed). l ++ record { kind = Signed; text = deed.text; set = sets.Base f.first.draft seal } ∷ []) f.none
        ∙ ap (λ (d : Deed). d ∷ []) (sym (same_deed deed (sets.Base f.first.draft seal) f.kind f.first.is)) in
        let v = seen_first Supplier number f.before deed.text f.legal f.stays f.first.draft seal read f.first.its p.version (ap (λ (d : BaseRecord). version_of (chain_from d 0)) same ∙ p.made) in
        let one : 0 + 1 ≡ length (mirrored deed ∷ []) = omega arith in
        let turns = subst (AreInTurn Signed 0) is (legal_turns Supplier (new Supplier) number supplier.legal) in
        let none = ap length (n.unknown Receiver) in
        let their_none = ap length (n.unknown Supplier) in
        record {
          is = even Supplier ∙ ap (map mirrored) is;
          some = omega arith;
          newer = omega (arith, none);
          their_newer = omega (arith, their_none);
          turns = subst (λ (k : ℕ). AreInTurn Signed k (map mirrored rest)) one (turns_mirrored Took (0 + 1) rest turns.2);
          awaits = last_awaits Supplier number more f.stays [] deed now f.kind proposal;
          version = v.version;
          seen = λ entries there. seen_mirrored number entries more (there ∙ ap (map mirrored) (sym now)) ∙ v.seen;
          same = v.same;
          own = amount_took [] (mirrored deed) (ap other_kind f.kind);
          partner = ap amount_by (mirrored_twice (deed ∷ [])) ∙ amount_signed [] deed f.kind proposal
              ∙ ap (λ (s : SetView). let r : Option ℕ = Some (amount_in s) in r) f.first.is ∙ ap (λ (d : BaseRecord). let r : Option ℕ = Some (amount_of d) in r) same;
        }

    held : IsProposed choosers number talk.new → mine Supplier ≡ [] → ⊥
    held p none =
        let found = find_in (λ (d : BaseRecord). bytes_eq d.number number) (choosers Supplier).drafts p.draft p.drafted in
        let its : p.draft.number ≡ number = (bytes_eq-Decides p.draft.number number).0 found.holds in
        not_held (choosers Supplier) (new Supplier) supplier.right.drafts supplier.legal supplier.answered supplier.few p.draft p.text (to_contains (choosers Supplier).drafts p.draft found.among) p.written
        (subst (λ (n : List ℕ). of_delivery n (deeds_of (new Supplier)) ≡ []) (sym its) none)

    -- ---- what both lists have

    new_after : (deed : Deed) (rest : List Deed) (p : IsProposed choosers number talk.new) → said deed ≡ sets.Base p.draft unsealed
        → (map said (map mirrored rest) ≡ map as_answer p.answers) ⊎ GoesBeyond (map as_answer p.answers) (map said (map mirrored rest)) → (map said (deed ∷ rest) ≡ talk.new) ⊎ GoesBeyond talk.new (map said (deed ∷ rest))
    new_after deed rest p is (inl e) = inl (ap (λ (s : SetView). s ∷ map said rest) is ∙ ap (λ (l : List SetView). sets.Base p.draft unsealed ∷ l) (sym (said_mirrored rest) ∙ e) ∙ sym p.new)
    new_after deed rest p is (inr b) = inr (subst (λ (l : List SetView). GoesBeyond l (map said (deed ∷ rest))) (sym p.new) (record {
      next = b.next;
      more = b.more;
      is = ap (λ (s : SetView). s ∷ map said rest) is ∙ ap (λ (l : List SetView). sets.Base p.draft unsealed ∷ l) (sym (said_mirrored rest) ∙ b.is);
      long = b.long;
      declined = b.declined;
    }))

    left_out : (deed : Deed) (rest : List Deed) (f : IsFirst deed) → IsLeftOut choosers number talk.new → GoesBeyond talk.new (map said (deed ∷ rest))
    left_out deed rest f out = subst (λ (l : List SetView). GoesBeyond l (map said (deed ∷ rest))) (sym out.new) (record {
      next = sets.Base f.first.draft unsealed;
      more = map said rest;
      is = ap (λ (s : SetView). but_for_seal s ∷ map said rest) f.first.is;
      long = λ text w. out.none f.first.draft text f.drafted w;
      declined = λ e. absurd (cc);
    })

    new_so : (other : Role) → AreSaid talk (said_in number (new other))
    new_so other = by (mine Supplier) refl n.begins
      where
        proposed : (deed : Deed) (rest : List Deed) → mine Supplier ≡ deed ∷ rest → IsFirst deed → (p : IsProposed choosers number talk.new) → AreSaid talk (map said (deed ∷ rest))
        proposed deed rest is f p =
            let same : f.first.draft ≡ p.draft = some_draft f.first.draft p.draft (sym f.drafted ∙ p.drafted) in
            let follows = walk number choosers old new ends even p.answers Receiver (mirrored deed ∷ []) (map mirrored rest) (at p) (first_comes deed rest is f p same) p.turns in
            goes_so talk [] (deed ∷ rest) n.known tt
            (new_after deed rest p (ap but_for_seal f.first.is ∙ ap (λ (d : BaseRecord). let s : SetView = sets.Base d unsealed in s) same) follows)

        by : (l : List Deed) → mine Supplier ≡ l → IsProposed choosers number talk.new ⊎ IsLeftOut choosers number talk.new → AreSaid talk (said_in number (new other))
        by [] is (inl p) = absurd (held p is)
        by [] is (inr out) =
            said_there number choosers old new ends even backed Supplier [] (AreSaid talk) (ap (map said) is)
            (inl (sym (ap (λ (l : List SetView). l ++ talk.new) n.known ∙ out.new))) other
        by (deed ∷ rest) is (inl p) =
            said_there number choosers old new ends even backed Supplier (map said (deed ∷ rest)) (AreSaid talk) (ap (map said) is) (proposed deed rest is (first_said deed rest is (n.unknown Supplier)) p) other
        by (deed ∷ rest) is (inr out) =
            said_there number choosers old new ends even backed Supplier (map said (deed ∷ rest)) (AreSaid talk) (ap (map said) is)
            (goes_so talk [] (deed ∷ rest) n.known tt (inr (left_out deed rest (first_said deed rest is (n.unknown Supplier)) out))) other

  pub talk_followed : (talk : Talk) → IsTalk choosers old number talk → (other : Role) → AreSaid talk (said_in number (new other))
  talk_followed talk (inl over) other = over_so number choosers old new ends even backed talk over other
  talk_followed talk (inr (inl answered)) other = answered_so number choosers old new ends even backed talk answered other
  talk_followed talk (inr (inr begun)) other = new_so talk begun other
