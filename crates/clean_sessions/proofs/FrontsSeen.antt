-- What an end sees of a delivery by the sets that it has: the version of the last proposal, and the amounts of the last own ones; and how one more set changes that.
use Rattle.std.proofs.Common.{◌≡◌, ℕ, suc, Bool, true, false, not, ◌&&◌, is_none, cond, List, [], ◌∷◌, ◌++◌, map, Option, Some, None, refl, sym, ap, subst, ◌∙◌, inl, inr, append-nil, add-one}
use Rattle.std.specs.List.{filter}
use Rattle.std.specs.Option.{option_and_then, option_map}
use Rattle.std.proofs.lemmas.List.Elements.{filter-append}
use Rattle.dsd_values.specs.declared.role.Role.{Role}
use Rattle.transaction_set.specs.declared.seal.Seal.{Seal}
use Rattle.adjustment_895.specs.AnswerRecord.{AnswerRecord}
use Rattle.adjustment_895.specs.AnswerText.{Is895}
use Rattle.adjustment_895.specs.Grammar.{has_none}
use Rattle.dsd_record.specs.Applying.{adjusted}
use Rattle.dsd_record.specs.Chain.{version_of}
use Rattle.dsd_record.specs.ReadSets.{set_in}
use Rattle.dsd_record.specs.SetTexts.{IsSet}
use Rattle.dsd_record.specs.Version.{Version}
use Rattle.dsd_record.specs.declared.set_view.SetView.{SetView}
use Rattle.dsd_record.specs.declared.set_view.SetView.TheVariants as sets
use Rattle.dsd_record.proofs.ReadOnce.{set_in_is}
use Rattle.dsd_journal.specs.declared.entry.Entry.{Entry}
use Rattle.dsd_journal.specs.declared.entry.EntryKind.{EntryKind}
use Rattle.dsd_journal.specs.declared.entry.EntryKind.TheVariants.{Signed, Took}
use Rattle.delivery_book.specs.Deeds.{Deed, check_in, deeds_of, first_of, is_signed, level_in, of_delivery, proposes}
use Rattle.delivery_book.specs.Lookups.{amount_in, is_taken, last_of, seen_of}
use Rattle.delivery_book.specs.Signing.{Allows, AllowsAnswer, AllowsSet, Legal}
use Rattle.delivery_book.specs.Standing.{acceptance_of, chain_to, highest, highest_of, version_at, version_to}
use Rattle.delivery_book.proofs.Founded.{below, chain as chain_now, level_is, to_here, version_now}
use Rattle.delivery_book.proofs.Grown.{legal_founded, legal_last, of_own}
use Rattle.delivery_book.proofs.Listed.{deeds_more}
use Rattle.delivery_book.proofs.Standings.{highest_is}
use Rattle.own_turn.specs.OwnTurn.{StaysLegal, signed}
use Rattle.clean_sessions.proofs.DeedsInTurn.{legal_turns}
use Rattle.clean_sessions.proofs.LastDeeds.{AllPropose, EndsWith, IsLaid, acceptance_is_last, all_and_last, front_proposes, highest_is_last, legal_laid, of_twice}
use Rattle.clean_sessions.proofs.MirroredDeeds.{chain_mirrored, filter_mirrored, highest_mirrored, mirrored, of_mirrored, twice_mirrored, version_alike}
use Rattle.clean_sessions.proofs.OneLonger.{last_same}

-- ---- by the sets alone

-- the last proposal was taken, and none is accepted
abbrev pub awaits_by : List Deed → Bool
awaits_by deeds = is_taken (highest (filter (λ (d : Deed). proposes d.set) deeds)) && is_none (first_of (filter (λ (d : Deed). not (proposes d.set)) deeds))

-- what the last own proposal comes to
abbrev pub amount_by : List Deed → Option ℕ
amount_by deeds = option_map (λ (deed : Deed). amount_in deed.set) (last_of (filter (λ (deed : Deed). proposes deed.set) (filter (λ (deed : Deed). is_signed deed.kind) deeds)))

pub mirrored_twice : (deeds : List Deed) → map mirrored (map mirrored deeds) ≡ deeds
mirrored_twice [] = refl
mirrored_twice (deed ∷ deeds) = ap (λ (d : Deed). d ∷ map mirrored (map mirrored deeds)) (twice_mirrored deed) ∙ ap (λ (l : List Deed). deed ∷ l) (mirrored_twice deeds)

pub same_deed : (deed : Deed) (set : SetView) → deed.kind ≡ Signed → deed.set ≡ set → deed ≡ record { kind = Signed; text = deed.text; set = set }
same_deed deed set kind is =
    ap (λ (k : EntryKind). let d : Deed = record { kind = k; text = deed.text; set = deed.set } in d) kind
    ∙ ap (λ (s : SetView). let d : Deed = record { kind = Signed; text = deed.text; set = s } in d) is

-- ---- seen by either end

module _ (number : List ℕ) (one other : List Entry) (same : of_delivery number (deeds_of one) ≡ map mirrored (of_delivery number (deeds_of other))) where
  abbrev theirs : List Deed
  theirs = of_delivery number (deeds_of other)

  pub highest_there : highest_of number (deeds_of one) ≡ option_map mirrored (highest_of number (deeds_of other))
  highest_there =
      ap (λ (l : List Deed). highest (filter (λ (d : Deed). proposes d.set) l)) same
      ∙ ap highest (filter_mirrored proposes theirs) ∙ highest_mirrored (filter (λ (d : Deed). proposes d.set) theirs)

  version_there : (level check : ℕ) → version_to number (deeds_of one) level check ≡ version_to number (deeds_of other) level check
  version_there level check =
      version_alike number (deeds_of one) (map mirrored theirs) (same ∙ sym (of_mirrored number theirs ∙ ap (map mirrored) (of_twice number (deeds_of other)))) level check
      ∙ ap (option_and_then version_of) (chain_mirrored number theirs level check)
      ∙ version_alike number theirs (deeds_of other) (of_twice number (deeds_of other)) level check

  seen_by : (o : Option Deed) → highest_of number (deeds_of other) ≡ o → option_and_then (version_at (deeds_of one)) (option_map mirrored o) ≡ option_and_then (version_at (deeds_of other)) o
  seen_by None e = refl
  seen_by (Some top) e =
      let h = highest_is number (deeds_of other) top e in
      ap (λ (n : List ℕ). version_to n (deeds_of one) (level_in top.set) (check_in top.set)) h.is.number
      ∙ version_there (level_in top.set) (check_in top.set)
      ∙ sym (ap (λ (n : List ℕ). version_to n (deeds_of other) (level_in top.set) (check_in top.set)) h.is.number)

  pub seen_mirrored : seen_of one number ≡ seen_of other number
  seen_mirrored = ap (option_and_then (version_at (deeds_of one))) highest_there ∙ seen_by (highest_of number (deeds_of other)) refl ∙ refl

-- ---- the last proposal was signed by one end, and so awaits the other one

no_first : (deeds : List Deed) → first_of deeds ≡ None → first_of (map mirrored deeds) ≡ None
no_first [] e = refl
no_first (deed ∷ deeds) e = absurd (cc)

pub awaits_other : (deeds : List Deed) (last : Deed) → highest (filter (λ (d : Deed). proposes d.set) deeds) ≡ Some last → last.kind ≡ Signed → first_of (filter (λ (d : Deed). not (proposes d.set)) deeds) ≡ None
    → awaits_by (map mirrored deeds) ≡ true
awaits_other deeds last top kind none =
    let high : highest (filter (λ (d : Deed). proposes d.set) (map mirrored deeds)) ≡ Some (mirrored last) =
    ap highest (filter_mirrored proposes deeds) ∙ highest_mirrored (filter (λ (d : Deed). proposes d.set) deeds) ∙ ap (option_map mirrored) top in
    let open_still : first_of (filter (λ (d : Deed). not (proposes d.set)) (map mirrored deeds)) ≡ None =
    ap first_of (filter_mirrored (λ (set : SetView). not (proposes set)) deeds) ∙ no_first (filter (λ (d : Deed). not (proposes d.set)) deeds) none in
    ap (λ (o : Option Deed). is_taken o && is_none (first_of (filter (λ (d : Deed). not (proposes d.set)) (map mirrored deeds)))) high
    ∙ ap (λ (o : Option Deed). is_taken (Some (mirrored last)) && is_none o) open_still
    ∙ taken last.kind kind
  where
    taken : (kind : EntryKind) → kind ≡ Signed → (is_taken (Some (mirrored (record { kind = kind; text = last.text; set = last.set }))) && true) ≡ true
    taken Signed e = refl
    taken Took e = absurd (cc)

-- ---- amounts

signed_last : (front : List Deed) (deed : Deed) → filter (λ (d : Deed). is_signed d.kind) (front ++ deed ∷ []) ≡ filter (λ (d : Deed). is_signed d.kind) front ++ cond (is_signed deed.kind) (deed ∷ []) []
signed_last front deed = filter-append (λ (d : Deed). is_signed d.kind) front (deed ∷ [])

pub amount_took : (front : List Deed) (deed : Deed) → deed.kind ≡ Took → amount_by (front ++ deed ∷ []) ≡ amount_by front
amount_took front deed kind =
    ap (λ (l : List Deed). option_map (λ (d : Deed). amount_in d.set) (last_of (filter (λ (d : Deed). proposes d.set) l)))
    (signed_last front deed ∙ ap (λ (k : EntryKind). filter (λ (d : Deed). is_signed d.kind) front ++ cond (is_signed k) (deed ∷ []) []) kind ∙ append-nil (filter (λ (d : Deed). is_signed d.kind) front))

last_is : (front : List Deed) (deed : Deed) → last_of (front ++ deed ∷ []) ≡ Some deed
last_is [] deed = refl
last_is (one ∷ []) deed = refl
last_is (one ∷ two ∷ front) deed = last_is (two ∷ front) deed

pub amount_signed : (front : List Deed) (deed : Deed) → deed.kind ≡ Signed → proposes deed.set ≡ true → amount_by (front ++ deed ∷ []) ≡ Some (amount_in deed.set)
amount_signed front deed kind proposal =
    ap (λ (l : List Deed). option_map (λ (d : Deed). amount_in d.set) (last_of (filter (λ (d : Deed). proposes d.set) l)))
    (signed_last front deed ∙ ap (λ (k : EntryKind). filter (λ (d : Deed). is_signed d.kind) front ++ cond (is_signed k) (deed ∷ []) []) kind)
    ∙ ap (λ (l : List Deed). option_map (λ (d : Deed). amount_in d.set) (last_of l))
    (filter-append (λ (d : Deed). proposes d.set) (filter (λ (d : Deed). is_signed d.kind) front) (deed ∷ [])
    ∙ ap (λ (b : Bool). filter (λ (d : Deed). proposes d.set) (filter (λ (d : Deed). is_signed d.kind) front) ++ cond b (deed ∷ []) []) proposal)
    ∙ ap (option_map (λ (d : Deed). amount_in d.set)) (last_is (filter (λ (d : Deed). proposes d.set) (filter (λ (d : Deed). is_signed d.kind) front)) deed)

-- ---- the last of a legal list

module _ (role : Role) (number : List ℕ) (entries : List Entry) (legal : Legal role entries) (front : List Deed) (last : Deed) (is : of_delivery number (deeds_of entries) ≡ front ++ last ∷ []) where
  pub last_ends : EndsWith role number (of_delivery number (deeds_of entries)) front last
  last_ends = by (legal_laid role entries number legal)
    where
      never : (l : List Deed) → l ++ last ∷ [] ≡ [] → ⊥
      never [] e = cc
      never (one ∷ l) e = cc

      by : IsLaid role number (of_delivery number (deeds_of entries)) → EndsWith role number (of_delivery number (deeds_of entries)) front last
      by (inl none) = absurd (never front (sym is ∙ none))
      by (inr (others, one, w)) =
          let same = last_same front others last one (sym is ∙ w.is) in
          subst (λ (d : Deed). EndsWith role number (of_delivery number (deeds_of entries)) front d) (sym same.1)
          (subst (λ (l : List Deed). EndsWith role number (of_delivery number (deeds_of entries)) l one) (sym same.0) w)

  pub last_top : proposes last.set ≡ true → highest_of number (deeds_of entries) ≡ Some last
  last_top proposal = highest_is_last role number entries (legal_turns role entries number legal) front last last_ends proposal

  pub last_open : proposes last.set ≡ true → acceptance_of number (deeds_of entries) ≡ None
  last_open proposal = acceptance_is_last role number entries front last last_ends ∙ ap (λ (t : Bool). cond t None (Some last)) proposal

  -- it awaits the other end
  pub last_awaits : last.kind ≡ Signed → proposes last.set ≡ true → awaits_by (map mirrored (front ++ last ∷ [])) ≡ true
  last_awaits kind proposal =
      subst (λ (l : List Deed). awaits_by (map mirrored l) ≡ true) is (awaits_other (of_delivery number (deeds_of entries)) last (last_top proposal) kind (last_open proposal))

-- ---- a last set that is the highest proposal

some_deed : (a b : Deed) → (let r : Option Deed = Some a in r) ≡ Some b → a ≡ b
some_deed a b e = cc

-- it is the last one, and all of them propose
pub record EndsOpen (number : List ℕ) (entries : List Entry) (last : Deed) : Type 0 where
  pub front : List Deed
  pub is : of_delivery number (deeds_of entries) ≡ front ++ last ∷ []
  pub all : AllPropose (of_delivery number (deeds_of entries))
  pub proposal : proposes last.set ≡ true

pub ends_open : (role : Role) (number : List ℕ) (entries : List Entry) → Legal role entries → (last : Deed) → highest_of number (deeds_of entries) ≡ Some last → acceptance_of number (deeds_of entries) ≡ None → EndsOpen number entries last
ends_open role number entries legal last top none = by (legal_laid role entries number legal)
  where
    never : (let r : Option Deed = None in r) ≡ Some last → ⊥
    never e = cc

    open_set : (t : Bool) (one : Deed) → cond t (let r : Option Deed = None in r) (Some one) ≡ None → t ≡ true
    open_set true one e = refl
    open_set false one e = absurd (cc)

    by : IsLaid role number (of_delivery number (deeds_of entries)) → EndsOpen number entries last
    by (inl empty) = absurd (never (sym (ap (λ (l : List Deed). highest (filter (λ (d : Deed). proposes d.set) l)) empty) ∙ top))
    by (inr (front, one, w)) =
        let proposal : proposes one.set ≡ true = open_set (proposes one.set) one (sym (acceptance_is_last role number entries front one w) ∙ none) in
        let same : one ≡ last = some_deed one last (sym (highest_is_last role number entries (legal_turns role entries number legal) front one w proposal) ∙ top) in
        record {
          front = front;
          is = w.is ∙ ap (λ (d : Deed). front ++ d ∷ []) same;
          all = subst AllPropose (sym w.is) (all_and_last front one (front_proposes role number (of_delivery number (deeds_of entries)) front one w) proposal);
          proposal = subst (λ (d : Deed). proposes d.set ≡ true) same proposal;
        }

-- ---- an adjustment more

some_version : (a b : Version) (o : Option Version) → o ≡ Some a → o ≡ Some b → a ≡ b
some_version a b o e f = let same : (let s : Option Version = Some a in s) ≡ Some b = sym e ∙ f in cc

some_set : (a b : SetView) → (let r : Option SetView = Some a in r) ≡ Some b → a ≡ b
some_set a b e = cc

module _ (role : Role) (number : List ℕ) (before : List Entry) (text : List ℕ) (legal : Legal role before) (stays : StaysLegal role before (signed text)) (answer : AnswerRecord) (seal : Seal) (read : set_in text ≡ Some (sets.Answer answer seal))
    (its : answer.number ≡ number) (has : has_none answer.lines ≡ false) (version : Version) (seen : seen_of before number ≡ Some version) where
  abbrev deed : Deed
  deed = record { kind = Signed; text = text; set = sets.Answer answer seal }

  abbrev deeds : List Deed
  deeds = deeds_of before

  abbrev more : List Entry
  more = before ++ signed text ∷ []

  allows : Allows role before (signed text)
  allows = legal_last role before (signed text) stays

  same : allows.set ≡ sets.Answer answer seal
  same = some_set allows.set (sets.Answer answer seal) (sym (set_in_is text allows.set allows.is_set) ∙ read)

  is : Is895 answer seal text
  is = subst (λ (s : SetView). IsSet s text) same allows.is_set

  allowed : AllowsAnswer role deeds Signed answer
  allowed = subst (AllowsSet role deeds Signed) same allows.allowed

  deeds_now : deeds_of more ≡ deeds ++ deed ∷ []
  deeds_now = deeds_more before (signed text) (sets.Answer answer seal) read

  pub of_more : of_delivery number (deeds_of more) ≡ of_delivery number deeds ++ deed ∷ []
  of_more = ap (of_delivery number) deeds_now ∙ of_own number deeds deed its

  top : highest_of number (deeds_of more) ≡ Some deed
  top = last_top role number more stays (of_delivery number deeds) deed of_more (ap not has)

  version_below : (below role deeds Signed text answer seal (legal_founded role before legal) is allowed has).version ≡ version
  version_below =
      let b = below role deeds Signed text answer seal (legal_founded role before legal) is allowed has in
      let there : version_at deeds allowed.highest ≡ Some b.version = ap (option_and_then version_of) b.to ∙ b.made in
      let high : highest_of number deeds ≡ Some allowed.highest = ap (λ (n : List ℕ). highest_of n deeds) (sym its) ∙ allowed.is_highest in
      some_version b.version version (seen_of before number) (ap (option_and_then (version_at deeds)) high ∙ there) seen

  at : version_at (deeds ++ deed ∷ []) deed ≡ Some (adjusted version answer seal.check)
  at =
      let f = legal_founded role before legal in
      let level : suc (level_in allowed.highest.set) ≡ answer.level = sym (level_is role deeds Signed text answer seal f is allowed has ∙ add-one (level_in allowed.highest.set)) in
      let chain = subst (λ (n : ℕ). chain_to answer.number (deeds ++ deed ∷ []) n seal.check ≡ Some (chain_now role deeds Signed text answer seal f is allowed has)) level (to_here role deeds Signed text answer seal f is allowed has) in
      ap (option_and_then version_of) chain ∙ version_now role deeds Signed text answer seal f is allowed has
      ∙ ap (λ (v : Version). let r : Option Version = Some (adjusted v answer seal.check) in r) version_below

  pub seen_more : seen_of more number ≡ Some (adjusted version answer seal.check)
  seen_more = ap (option_and_then (version_at (deeds_of more))) top ∙ ap (λ (l : List Deed). version_at l deed) deeds_now ∙ at
