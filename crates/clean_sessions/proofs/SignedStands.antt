-- How a delivery stands once an own turn has signed of it what it signs.
use Rattle.std.proofs.Common.{◌≡◌, ◌≤◌, ◌+◌, ℕ, Bool, true, false, not, ◌&&◌, ◌||◌, ◌==◌, nat_lt, cond, is_some, length, List, [], ◌∷◌, ◌++◌, Option, Some, None, refl, sym, ap, subst, ◌∙◌, inl, inr, arith}
use Rattle.std.proofs.lemmas.Bool.Decides.{nat_tests}
use Rattle.dsd_values.specs.declared.role.Role.{Role}
use Rattle.dsd_values.specs.declared.role.Role.TheVariants.{Supplier}
use Rattle.dsd_record.specs.declared.set_view.SetView.{SetView}
use Rattle.dsd_record.specs.declared.set_view.SetView.TheVariants as sets
use Rattle.dsd_record.proofs.ReadOnce.{set_in_is}
use Rattle.dsd_journal.specs.declared.entry.Entry.{Entry}
use Rattle.dsd_journal.specs.declared.entry.EntryKind.TheVariants.{Signed}
use Rattle.delivery_book.specs.Deeds.{Deed, deeds_of, is_signed, number_in, of_delivery, proposes, signer_of}
use Rattle.delivery_book.specs.Lookups.{awaits_us}
use Rattle.delivery_book.specs.Refusals.{is_role}
use Rattle.delivery_book.specs.Signing.{AllowsSet}
use Rattle.delivery_book.specs.Standing.{IsNew, acceptance_of, highest_of}
use Rattle.delivery_book.proofs.Grown.{legal_last, of_own}
use Rattle.delivery_book.proofs.Listed.{deeds_more}
use Rattle.delivery_book.proofs.TakeExact.{new_highest}
use Rattle.own_turn.specs.OwnTurn.{Desk, signed, with_signature}
use Rattle.clean_sessions.specs.Courses.{Course, Told, awaits, signs}
use Rattle.clean_sessions.specs.DeedShapes.{AreInTurn, first_kind}
use Rattle.clean_sessions.specs.DeliveryStands.{AreBacked, IsFront, IsOwnSet, sets_in, stand_at, stand_of, told_by, told_in}
use Rattle.clean_sessions.proofs.BoolTests.{never_both}
use Rattle.clean_sessions.proofs.DeedsInTurn.{legal_turns}
use Rattle.clean_sessions.proofs.OneLonger.{last_same, late_side}
use Rattle.clean_sessions.proofs.LastDeeds.{IsLaid, acceptance_is_last, awaits_last, legal_laid, none_awaits}
use Rattle.clean_sessions.proofs.Meetings.{Meet, ahead_stand, behind_length, even_length, even_stand, is_last_own, last_is_own, lists_meet, one_longer, own_more}
use Rattle.clean_sessions.proofs.ReadyPlaces.{stand}
use Rattle.clean_sessions.proofs.SigningTurns.{SignsOne, signed_asked}
use Rattle.clean_sessions.proofs.TakingTurns.{front_untouched, stand_untouched}

-- ---- one set more

module _ (number text : List ℕ) (acceptance : Bool) (own : IsOwnSet number acceptance text) (entries : List Entry) where
  abbrev deed : Deed
  deed = record { kind = Signed; text = text; set = own.set }

  pub deeds_then : of_delivery number (deeds_of (entries ++ signed text ∷ [])) ≡ of_delivery number (deeds_of entries) ++ deed ∷ []
  deeds_then = ap (of_delivery number) (deeds_more entries (signed text) own.set own.read) ∙ of_own number (deeds_of entries) deed own.its

  pub one_more : sets_in number (entries ++ signed text ∷ []) ≡ sets_in number entries + 1
  one_more = ap length deeds_then ∙ one_longer (of_delivery number (deeds_of entries)) deed

  -- an acceptance stands then where this one is one
  accepted_then : (role : Role) (partner : List Entry) → AreBacked role (entries ++ signed text ∷ []) partner → is_some (acceptance_of number (deeds_of (entries ++ signed text ∷ []))) ≡ acceptance
  accepted_then role partner b = by (legal_laid role (entries ++ signed text ∷ []) number b.legal)
    where
      never : (deeds : List Deed) → deeds ++ deed ∷ [] ≡ [] → ⊥
      never [] e = cc
      never (one ∷ more) e = cc

      flag : (t : Bool) (last : Deed) → t ≡ not acceptance → is_some (cond t None (Some last)) ≡ acceptance
      flag true last e = at acceptance e
        where
          at : (a : Bool) → true ≡ not a → false ≡ a
          at true e = sym e
          at false e = refl
      flag false last e = at acceptance e
        where
          at : (a : Bool) → false ≡ not a → true ≡ a
          at true e = refl
          at false e = sym e

      by : IsLaid role number (of_delivery number (deeds_of (entries ++ signed text ∷ []))) → is_some (acceptance_of number (deeds_of (entries ++ signed text ∷ []))) ≡ acceptance
      by (inl none) = absurd (never (of_delivery number (deeds_of entries)) (sym deeds_then ∙ none))
      by (inr (front, last, e)) =
          let same = last_same (of_delivery number (deeds_of entries)) front deed last (sym deeds_then ∙ e.is) in
          ap is_some (acceptance_is_last role number (entries ++ signed text ∷ []) front last e)
          ∙ flag (proposes last.set) last (sym (ap (λ (d : Deed). proposes d.set) same.1) ∙ own.proposes)

-- ---- where this end may sign

-- both have the same sets, and the next one is this end's
pub record MaySign (role : Role) (number : List ℕ) (entries partner : List Entry) : Type 0 where
  pub even : sets_in number partner ≡ sets_in number entries
  pub turn : is_last_own role (sets_in number entries) ≡ false

module _ (role : Role) (number : List ℕ) (course : Course) (partner : Desk) where
  abbrev Good : Desk → Type 0
  Good desk = AreBacked role desk.entries partner.entries

  signed_at : (n : ℕ) (h l a : Bool) (mine theirs : Told) → (course.accepted && n + 1 == course.sets) ≡ a
      → signs course (stand n h l mine theirs) ≡ stand (n + 1) false true (record { times = 0; since = false; met = mine.met; accepts = mine.accepts || a }) theirs
  signed_at n h l a mine theirs e = ap (λ (t : Bool). stand (n + 1) false true (record { times = 0; since = false; met = mine.met; accepts = mine.accepts || t }) theirs) e

  turned : (n : ℕ) → is_last_own role n ≡ false → is_last_own role (n + 1) ≡ true
  turned n e = own_more role n ∙ by (is_role (signer_of n) role) e
    where
      by : (b : Bool) → not b ≡ false → b ≡ true
      by true e = refl
      by false e = absurd (cc)

  pub signs_stand : (When : List Entry → Type 0) (old new : Desk) → (s : SignsOne When Good number old new) → IsFront course number new.entries → MaySign role number s.before.entries partner.entries
      → stand_of number role new partner ≡ signs course (stand_of number role old partner)
  signs_stand When old new s fits may =
      let n : ℕ = sets_in number s.before.entries in
      let mine : Told = told_in number s.before in
      let theirs : Told = told_in number partner in
      let behind : Desk = with_signature s.before number s.acceptance s.text in
      let front = front_untouched course number new.entries behind.entries (sym s.last.deeds) fits in
      let count = one_more number s.text s.acceptance s.own s.before.entries in
      let flag : (course.accepted && n + 1 == course.sets) ≡ s.acceptance =
      ap (λ (k : ℕ). course.accepted && k == course.sets) (sym count) ∙ sym front.ends ∙ accepted_then number s.text s.acceptance s.own s.before.entries role partner.entries s.behind in
      let told : Told = record { times = 0; since = false; met = mine.met; accepts = mine.accepts || s.acceptance } in
      let now : stand_of number role behind partner ≡ stand (n + 1) false true told theirs =
      ap (λ (k : ℕ). stand_at role k (sets_in number partner.entries) (told_in number behind) theirs) count
      ∙ ap (λ (k : ℕ). stand_at role (n + 1) k (told_in number behind) theirs) may.even
      ∙ ap (λ (t : Told). stand_at role (n + 1) n t theirs) (ap told_by (signed_asked number s.before.asked s.acceptance))
      ∙ ahead_stand role told theirs n
      ∙ ap (λ (b : Bool). stand (n + 1) false b told theirs) (turned n may.turn) in
      let before : stand_of number role s.before partner ≡ stand n (nat_lt 0 n) (is_last_own role n) mine theirs = ap (λ (k : ℕ). stand_at role n k mine theirs) may.even ∙ even_stand role mine theirs n in
      stand_untouched number role behind new partner s.last
      ∙ now
      ∙ sym (signed_at n (nat_lt 0 n) (is_last_own role n) s.acceptance mine theirs flag)
      ∙ ap (signs course) (sym before ∙ stand_untouched number role old s.before partner s.first)

  -- ---- an answer

  pub awaits_sign : (entries : List Entry) → AreBacked role entries partner.entries → awaits_us entries number ≡ true → MaySign role number entries partner.entries × (nat_lt 0 (sets_in number entries) ≡ true)
  awaits_sign entries b awaiting = by (legal_laid role entries number b.legal) (lists_meet role entries partner.entries number b)
    where
      turns : AreInTurn (first_kind role) 0 (of_delivery number (deeds_of entries))
      turns = legal_turns role entries number b.legal

      first_of_both : (x y : Bool) → (not x && y) ≡ true → x ≡ false
      first_of_both true y e = absurd (cc)
      first_of_both false y e = refl

      some : (n m : ℕ) → n ≡ m + 1 → nat_lt 0 n ≡ true
      some n m e = grind (arith, nat_tests)

      by : IsLaid role number (of_delivery number (deeds_of entries)) → Meet (of_delivery number (deeds_of entries)) (of_delivery number (deeds_of partner.entries))
          → MaySign role number entries partner.entries × (nat_lt 0 (sets_in number entries) ≡ true)
      by (inl none) meet = absurd (never_both (awaits_us entries number) awaiting (none_awaits role number entries turns none))
      by (inr (front, last, e)) meet =
          let took : is_signed last.kind ≡ false = first_of_both (is_signed last.kind) (proposes last.set) (sym (awaits_last role number entries turns front last e) ∙ awaiting) in
          let count = ap length e.is ∙ one_longer front last in
          let side : is_last_own role (sets_in number entries) ≡ false = ap (is_last_own role) count ∙ last_is_own role front last (subst (AreInTurn (first_kind role) 0) e.is turns) ∙ took in
          (record { even = at meet took side; turn = side }, some (sets_in number entries) (length front) count)
        where
          at : Meet (of_delivery number (deeds_of entries)) (of_delivery number (deeds_of partner.entries)) → is_signed last.kind ≡ false → is_last_own role (sets_in number entries) ≡ false
              → sets_in number partner.entries ≡ sets_in number entries
          at (inl even) took side = even_length (of_delivery number (deeds_of entries)) (of_delivery number (deeds_of partner.entries)) even
          at (inr (inl ahead)) took side =
              let same = last_same _ front ahead.last last (sym ahead.is ∙ e.is) in
              absurd (never_both (is_signed last.kind) (ap (λ (d : Deed). is_signed d.kind) (sym same.1) ∙ ap is_signed ahead.signed) took)
          at (inr (inr late)) took side = absurd (never_both (is_last_own role (sets_in number entries + 1)) (turned (sets_in number entries) side) (late_side role number entries partner.entries b late))

  -- the course goes on
  awaits_true : (n : ℕ) (mine theirs : Told) → nat_lt 0 n ≡ true → is_last_own role n ≡ false → n + 1 ≤ course.sets → awaits course (stand n (nat_lt 0 n) (is_last_own role n) mine theirs) ≡ true
  awaits_true n mine theirs some turn more =
      let room : nat_lt n course.sets ≡ true = grind (arith, nat_tests) in
      ap (λ (b : Bool). b && not (is_last_own role n) && nat_lt n course.sets) some ∙ ap (λ (b : Bool). not b && nat_lt n course.sets) turn ∙ room

  pub answered_open : (When : List Entry → Type 0) (old new : Desk) → (s : SignsOne When Good number old new) → IsFront course number new.entries → MaySign role number s.before.entries partner.entries
      → nat_lt 0 (sets_in number s.before.entries) ≡ true → awaits course (stand_of number role old partner) ≡ true
  answered_open When old new s fits may some =
      let n : ℕ = sets_in number s.before.entries in
      let behind : Desk = with_signature s.before number s.acceptance s.text in
      let front = front_untouched course number new.entries behind.entries (sym s.last.deeds) fits in
      let most : n + 1 ≤ course.sets = subst (λ (k : ℕ). k ≤ course.sets) (one_more number s.text s.acceptance s.own s.before.entries) front.most in
      let before : stand_of number role s.before partner ≡ stand n (nat_lt 0 n) (is_last_own role n) (told_in number s.before) (told_in number partner) =
      ap (λ (k : ℕ). stand_at role n k (told_in number s.before) (told_in number partner)) may.even ∙ even_stand role (told_in number s.before) (told_in number partner) n in
      ap (awaits course) (sym (stand_untouched number role old s.before partner s.first) ∙ before) ∙ awaits_true n (told_in number s.before) (told_in number partner) some may.turn most

  -- ---- a first set

  pub record FirstSign (entries : List Entry) : Type 0 where
    pub side : role ≡ Supplier
    pub none : sets_in number entries ≡ 0
    pub may : MaySign role number entries partner.entries

  some_set : (a b : SetView) → (let r : Option SetView = Some a in r) ≡ Some b → a ≡ b
  some_set a b e = cc

  pub first_sign : (entries : List Entry) (text : List ℕ) (acceptance : Bool) (own : IsOwnSet number acceptance text) → IsNew number (deeds_of entries) → AreBacked role entries partner.entries → AreBacked role (entries ++ signed text ∷ []) partner.entries → FirstSign entries
  first_sign entries text acceptance own new b after =
      let a = legal_last role entries (signed text) after.legal in
      let same : own.set ≡ a.set = some_set own.set a.set (sym own.read ∙ set_in_is text a.set a.is_set) in
      let side = by a.set (ap number_in (sym same) ∙ own.its) a.allowed in
      let none : sets_in number entries ≡ 0 = ap length new in
      let turn : is_last_own role (sets_in number entries) ≡ false = ap (is_last_own role) none ∙ ap (λ (r : Role). is_last_own r 0) side in
      record { side = side; none = none; may = record { even = at (lists_meet role entries partner.entries number b) none turn; turn = turn } }
    where
      by : (set : SetView) → number_in set ≡ number → AllowsSet role (deeds_of entries) Signed set → role ≡ Supplier
      by (sets.Base base seal) its allowed = allowed.side
      by (sets.Answer answer seal) its allowed =
          let top : highest_of answer.number (deeds_of entries) ≡ None = new_highest (deeds_of entries) answer.number (subst (λ (k : List ℕ). IsNew k (deeds_of entries)) (sym its) new) in
          let found = allowed.is_highest in
          absurd (cc)

      at : Meet (of_delivery number (deeds_of entries)) (of_delivery number (deeds_of partner.entries)) → sets_in number entries ≡ 0 → is_last_own role (sets_in number entries) ≡ false → sets_in number partner.entries ≡ sets_in number entries
      at (inl even) none turn = even_length (of_delivery number (deeds_of entries)) (of_delivery number (deeds_of partner.entries)) even
      at (inr (inl ahead)) none turn = let more = behind_length (of_delivery number (deeds_of partner.entries)) (of_delivery number (deeds_of entries)) ahead in absurd (omega (arith, none, more))
      at (inr (inr late)) none turn = absurd (never_both (is_last_own role (sets_in number entries + 1)) (turned (sets_in number entries) turn) (late_side role number entries partner.entries b late))
