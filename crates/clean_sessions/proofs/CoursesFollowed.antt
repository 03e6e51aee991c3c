-- Own turns that follow a course come to its end in both lists.
use Rattle.std.proofs.Common.{◌≡◌, ◌⊎◌, ◌≤◌, ℕ, max, Bool, true, false, not, ◌&&◌, ◌==◌, nat_lt, if◌then◌else◌, is_none, is_some, List, [], ◌∷◌, Option, Some, None, refl, sym, ap, subst, ◌∙◌, inl, inr, arith}
use Rattle.std.proofs.lemmas.Bool.Decides.{nat_tests}
use Rattle.dsd_values.specs.declared.role.Role.{Role}
use Rattle.dsd_values.specs.declared.role.Role.TheVariants.{Supplier}
use Rattle.dsd_record.specs.Version.{Version}
use Rattle.dsd_journal.specs.declared.entry.Entry.{Entry}
use Rattle.delivery_book.specs.Deeds.{deeds_of, other_role, signer_of}
use Rattle.delivery_book.specs.Finals.{final_of}
use Rattle.delivery_book.specs.Refusals.{is_role}
use Rattle.delivery_book.specs.Signing.{Legal}
use Rattle.delivery_book.specs.Standing.{acceptance_of}
use Rattle.own_turn.specs.DueSets.{Asked, DueSet, asked_of}
use Rattle.own_turn.specs.OwnTurn.{Desk, Turned, gathered}
use Rattle.clean_sessions.specs.CourseTurns.{BothHave, EndSilent, FollowCourse, HasCourse, NothingDue, blocks_in}
use Rattle.clean_sessions.specs.Courses.{Course, Stand, TakesTurn, answers, blocks_left, flips, is_due, nothing_told, prepares, proposes, signs, speaks}
use Rattle.clean_sessions.specs.DeliveryStands.{AreBacked, FollowsCourse, IsFront, is_among, may_propose, sets_in, stand_of, told_by}
use Rattle.clean_sessions.specs.Places.{Begins, Holds, IsCourse, IsDone}
use Rattle.clean_sessions.specs.SeatTurns.{AreOwnTurns, IsFresh, MeetForTurns, Seat, at_desk}
use Rattle.clean_sessions.proofs.BlocksRunOut.{less_blocks}
use Rattle.clean_sessions.proofs.BoolTests.{both_true}
use Rattle.clean_sessions.proofs.CoursesDone.{ends, ends_at_once}
use Rattle.clean_sessions.proofs.DeliveryTurns.{silent_turn, turn_taken}
use Rattle.clean_sessions.proofs.DueStands.{final_none}
use Rattle.clean_sessions.proofs.OwnSets.{signs_sets}
use Rattle.clean_sessions.proofs.PlacesKept.{first, kept}
use Rattle.clean_sessions.proofs.ReadyPlaces.{no_draft, ready, ready_first}
use Rattle.clean_sessions.proofs.SeatsMeet.{meet_next}

-- ---- behind two silent turns

nothing_more : (course : Course) (drafts : Bool) (at : Stand) → 1 ≤ course.sets → IsDone course at → prepares course drafts false at ≡ at
nothing_more course drafts at some done =
    let end : nat_lt at.sets course.sets ≡ false = full at.sets course.sets done.0 in
    let still : answers course at ≡ at = ap (λ (b : Bool). if at.heard && not at.last_own && b then signs course at else at) end ∙ by (at.heard && not at.last_own) in
    ap (proposes course drafts) still ∙ no_draft course drafts at (subst (λ (n : ℕ). 1 ≤ n) (sym done.0) some)
  where
    full : (n m : ℕ) → n ≡ m → nat_lt n m ≡ false
    full n m e = grind (arith, nat_tests)

    by : (b : Bool) → (if b && false then signs course at else at) ≡ at
    by true = refl
    by false = refl

done_behind : (course : Course) (drafts : Bool) (mid new : Stand) → 1 ≤ course.sets → IsDone course mid → TakesTurn course drafts false false mid new → IsDone course new
done_behind course drafts mid new some done turn =
    subst (IsDone course) (sym (turn.next ∙ ap (λ (s : Stand). flips (speaks false s)) (nothing_more course drafts mid some done))) done

-- where a delivery stands in a session: as it begins, or later
abbrev pub Stands : Course → Bool → Bool → Stand → Type 0
Stands course drafts sent at = (Begins course at × (drafts ≡ true) × (sent ≡ false)) ⊎ Holds course sent at

pub some_prepared : (course : Course) (drafts sent : Bool) (at : Stand) → Stands course drafts sent at → 1 ≤ (prepares course drafts sent at).sets
some_prepared course drafts sent at (inr h) = let r = ready course drafts sent at h in r.some
some_prepared course drafts sent at (inl (b, d, s)) =
    let r = ready_first course at b in
    subst (λ (t : Bool). 1 ≤ (prepares course t sent at).sets) (sym d) (subst (λ (t : Bool). 1 ≤ (prepares course true t at).sets) (sym s) r.some)

pub holds_next : (course : Course) (drafts sent goes : Bool) (old new : Stand) → Stands course drafts sent old → TakesTurn course drafts sent goes old new → Holds course goes new
holds_next course drafts sent goes old new (inr h) turn = kept course drafts sent goes old new h turn
holds_next course drafts sent goes old new (inl (b, d, s)) turn =
    first course goes old new b (subst (λ (t : Bool). TakesTurn course t false goes old new) d (subst (λ (t : Bool). TakesTurn course drafts t goes old new) s turn))

silent_done : (course : Course) (drafts sent next_drafts : Bool) (old new : Stand) → IsCourse course → Stands course drafts sent old → TakesTurn course drafts sent false old new
    → is_due course (prepares course drafts sent old) ≡ false → is_due course (prepares course next_drafts false new) ≡ false → IsDone course new
silent_done course drafts sent next_drafts old new right (inr h) turn idle idle_next = ends course drafts sent next_drafts old new right h turn idle idle_next
silent_done course drafts sent next_drafts old new right (inl (b, d, s)) turn idle idle_next =
    ends_at_once course next_drafts old new b (subst (λ (t : Bool). TakesTurn course t false false old new) d (subst (λ (t : Bool). TakesTurn course drafts t false old new) s turn))
    (subst (λ (t : Bool). is_due course (prepares course t false old) ≡ false) d (subst (λ (t : Bool). is_due course (prepares course drafts t old) ≡ false) s idle)) idle_next

-- ---- what the lists then hold

same_of : (n m : ℕ) → (n == m && nat_lt 0 n) ≡ true → n ≡ m
same_of n m e = let both = both_true (n == m) (nat_lt 0 n) e in equal n m both.0
  where
    equal : (n m : ℕ) → (n == m) ≡ true → n ≡ m
    equal n m e = grind (arith, nat_tests)

pub some_final : (o : Option Version) → is_none o ≡ false → is_some o ≡ true
some_final (Some version) e = refl
some_final None e = absurd (cc)

has_course : (role : Role) (course : Course) (number : List ℕ) (entries : List Entry) → Legal role entries → IsFront course number entries → sets_in number entries ≡ course.sets → HasCourse course number entries
has_course role course number entries legal fits whole = record {
  sets = whole;
  final = λ accepted.
      let same : (sets_in number entries == course.sets) ≡ true = equal (sets_in number entries) course.sets whole in
      let stands : is_some (acceptance_of number (deeds_of entries)) ≡ true = fits.ends ∙ ap (λ (b : Bool). course.accepted && b) same ∙ ap (λ (b : Bool). b && true) accepted in
      some_final (final_of entries number) (final_none role number entries legal ∙ ap not stands);
}
  where
    equal : (n m : ℕ) → n ≡ m → (n == m) ≡ true
    equal n m e = grind (arith, nat_tests)

both_have : (role : Role) (course : Course) (number : List ℕ) (own partner : Desk) → AreBacked role own.entries partner.entries → IsFront course number own.entries → IsFront course number partner.entries
    → IsDone course (stand_of number role own partner) → HasCourse course number own.entries × HasCourse course number partner.entries
both_have role course number own partner b mine theirs done =
    let same = same_of (sets_in number own.entries) (sets_in number partner.entries) done.1 in
    let whole = done.0 in
    (has_course role course number own.entries b.legal mine (omega (arith, same, whole)), has_course (other_role role) course number partner.entries b.others theirs (omega (arith, same, whole)))

-- ---- turn after turn

module _ (course : Course) (number : List ℕ) where
  abbrev pub at : Seat → Seat → Stand
  at near far = stand_of number near.header.role near.desk far.desk

  module _ (near far : Seat) (sets : List DueSet) (text : List ℕ) (m : MeetForTurns near far sets text) (desk : Desk) (load : List ℕ) (turned : Turned near.header near.chooser near.desk text desk load)
      (f : FollowsCourse course number near.header.role near.desk far.desk desk sets) where
    pub turn_at : TakesTurn course (may_propose near.header.role) (is_among number sets) (is_among number (gathered near.header turned.proposed)) (at near far) (at far (at_desk near desk))
    turn_at =
        subst (λ (r : Role). TakesTurn course (may_propose near.header.role) (is_among number sets) (is_among number (gathered near.header turned.proposed)) (at near far) (stand_of number r far.desk desk)) (sym m.roles)
        (turn_taken near.header near.chooser (signs_sets near.header.role near.chooser m.near_drafts) near.desk far.desk desk sets text load m.between turned course number f)

    pub silent_at : NothingDue turned.proposed → 1 ≤ (prepares course (may_propose near.header.role) (is_among number sets) (at near far)).sets
        → (is_among number (gathered near.header turned.proposed) ≡ false) × (is_due course (prepares course (may_propose near.header.role) (is_among number sets) (at near far)) ≡ false)
    silent_at none some = silent_turn near.header near.chooser (signs_sets near.header.role near.chooser m.near_drafts) near.desk far.desk desk sets text load m.between turned course number f none some

  -- the last two turns
  pub ended : (near far : Seat) (sets first second : List DueSet) (text : List ℕ) → IsCourse course → 1 ≤ course.sets → MeetForTurns near far sets text → (t : AreOwnTurns (first ∷ second ∷ []) near far text)
      → FollowCourse course number (first ∷ second ∷ []) near far sets text t → Stands course (may_propose near.header.role) (is_among number sets) (at near far) → EndSilent (first ∷ second ∷ []) near far text t → BothHave course number (first ∷ second ∷ []) near far text t
  ended near far sets first second text right some m (desk, load, turned, is, (desk', load', turned', is', rest)) (f, (f', _)) stands (none, none') =
      let drafts : Bool = may_propose near.header.role in
      let sent : Bool = is_among number sets in
      let s = silent_at near far sets text m desk load turned f none (some_prepared course drafts sent (at near far) stands) in
      let turn : TakesTurn course drafts sent false (at near far) (at far (at_desk near desk)) = subst (λ (b : Bool). TakesTurn course drafts sent b (at near far) (at far (at_desk near desk))) s.0 (turn_at near far sets text m desk load turned f) in
      let silent : is_among number first ≡ false = ap (is_among number) is ∙ s.0 in
      let m' = subst (λ (l : List DueSet). MeetForTurns far (at_desk near desk) l load) (sym is) (meet_next near far sets text m desk load turned) in
      let drafts' : Bool = may_propose far.header.role in
      let holds : Holds course (is_among number first) (at far (at_desk near desk)) = subst (λ (b : Bool). Holds course b (at far (at_desk near desk))) (sym silent) (holds_next course drafts sent false (at near far) (at far (at_desk near desk)) stands turn) in
      let s' = silent_at far (at_desk near desk) first load m' desk' load' turned' f' none' (some_prepared course drafts' (is_among number first) (at far (at_desk near desk)) (inr holds)) in
      let turn' : TakesTurn course drafts' false false (at far (at_desk near desk)) (at (at_desk near desk) (at_desk far desk')) =
      subst (λ (b : Bool). TakesTurn course drafts' b false (at far (at_desk near desk)) (at (at_desk near desk) (at_desk far desk'))) silent
      (subst (λ (b : Bool). TakesTurn course drafts' (is_among number first) b (at far (at_desk near desk)) (at (at_desk near desk) (at_desk far desk'))) s'.0 (turn_at far (at_desk near desk) first load m' desk' load' turned' f')) in
      let done = silent_done course drafts sent drafts' (at near far) (at far (at_desk near desk)) right stands turn s.1
      (subst (λ (b : Bool). is_due course (prepares course drafts' b (at far (at_desk near desk))) ≡ false) silent s'.1) in
      let last = meet_next far (at_desk near desk) first load m' desk' load' turned' in
      both_have near.header.role course number desk desk' last.between.lists f'.others f'.behind (done_behind course drafts' (at far (at_desk near desk)) (at (at_desk near desk) (at_desk far desk')) some done turn')

  followed : (turns : List (List DueSet)) (near far : Seat) (sets : List DueSet) (text : List ℕ) → IsCourse course → 1 ≤ course.sets → MeetForTurns near far sets text → (t : AreOwnTurns turns near far text) → FollowCourse course number turns near far sets text t
      → Stands course (may_propose near.header.role) (is_among number sets) (at near far) → EndSilent turns near far text t → BothHave course number turns near far text t
  followed [] near far sets text right some m t f stands silent = absurd silent
  followed (first ∷ []) near far sets text right some m t f stands silent = absurd silent
  followed (first ∷ second ∷ []) near far sets text right some m t f stands silent = ended near far sets first second text right some m t f stands silent
  followed (first ∷ second ∷ third ∷ more) near far sets text right some m (desk, load, turned, is, rest) (f, later) stands silent =
      let m' = subst (λ (l : List DueSet). MeetForTurns far (at_desk near desk) l load) (sym is) (meet_next near far sets text m desk load turned) in
      let turn = turn_at near far sets text m desk load turned f in
      let holds = holds_next course (may_propose near.header.role) (is_among number sets) (is_among number (gathered near.header turned.proposed)) (at near far) (at far (at_desk near desk)) stands turn in
      followed (second ∷ third ∷ more) far (at_desk near desk) first load right some m' rest later
      (inr (subst (λ (l : List DueSet). Holds course (is_among number l) (at far (at_desk near desk))) (sym is) holds)) silent

  -- ---- blocks

  blocks_few : (weight : ℕ → ℕ) (turns : List (List DueSet)) (near far : Seat) (sets : List DueSet) (text : List ℕ) → MeetForTurns near far sets text → (t : AreOwnTurns turns near far text) → FollowCourse course number turns near far sets text t
      → blocks_in weight course number turns near far sets text t ≤ blocks_left weight course (at near far)
  blocks_few weight [] near far sets text m t f = omega arith
  blocks_few weight (first ∷ more) near far sets text m (desk, load, turned, is, rest) (f, later) =
      let m' = subst (λ (l : List DueSet). MeetForTurns far (at_desk near desk) l load) (sym is) (meet_next near far sets text m desk load turned) in
      let turn : TakesTurn course (may_propose near.header.role) (is_among number sets) (is_among number first) (at near far) (at far (at_desk near desk)) =
      subst (λ (l : List DueSet). TakesTurn course (may_propose near.header.role) (is_among number sets) (is_among number l) (at near far) (at far (at_desk near desk))) (sym is) (turn_at near far sets text m desk load turned f) in
      let here = less_blocks weight course (may_propose near.header.role) (is_among number sets) (is_among number first) (at near far) (at far (at_desk near desk)) turn in
      let behind = blocks_few weight more far (at_desk near desk) first load m' rest later in
      omega (arith, here, behind)

-- ---- from the start of a session

pub fresh_told : (number : List ℕ) (asked : List Asked) → asked ≡ [] → told_by (asked_of number asked) ≡ nothing_told
fresh_told number asked e = ap (λ (all : List Asked). told_by (asked_of number all)) e

pub zero_no : (n m : ℕ) → max n m ≡ 0 → (n == m && nat_lt 0 n) ≡ false
zero_no n m e =
    let none : n ≡ 0 = omega (arith, e) in
    ap (λ (k : ℕ). n == m && nat_lt 0 k) none ∙ and_false (n == m)
  where
    and_false : (b : Bool) → (b && false) ≡ false
    and_false true = refl
    and_false false = refl

pub max_low : (n m k : ℕ) → n ≤ k → m ≤ k → max n m ≤ k
max_low n m k a b = omega (arith, a, b)

module _ (course : Course) (number : List ℕ) (turns : List (List DueSet)) (near far : Seat) (m : MeetForTurns near far [] []) (t : AreOwnTurns turns near far []) (f : FollowCourse course number turns near far [] [] t) where
  -- where a session begins
  begins : near.header.role ≡ Supplier → IsFresh near → IsFresh far → IsCourse course → 1 ≤ course.sets → IsFront course number near.desk.entries → IsFront course number far.desk.entries → Begins course (at course number near far)
  begins supplier fresh also right some mine theirs = record {
    right = right;
    some = some;
    most = max_low (sets_in number near.desk.entries) (sets_in number far.desk.entries) course.sets mine.most theirs.most;
    none = λ none. (
      zero_no (sets_in number near.desk.entries) (sets_in number far.desk.entries) none,
      ap (λ (n : ℕ). not (is_role (signer_of n) near.header.role)) none ∙ ap (λ (r : Role). not (is_role Supplier r)) supplier,
    );
    own = fresh_told number near.desk.asked fresh;
    partner = fresh_told number far.desk.asked also;
  }

  courses_end : near.header.role ≡ Supplier → IsFresh near → IsFresh far → IsCourse course → 1 ≤ course.sets → IsFront course number near.desk.entries → IsFront course number far.desk.entries
      → EndSilent turns near far [] t → BothHave course number turns near far [] t
  courses_end supplier fresh also right some mine theirs silent =
      followed course number turns near far [] [] right some m t f (inl (begins supplier fresh also right some mine theirs, ap may_propose supplier, refl)) silent

  pub blocks_end : (weight : ℕ → ℕ) → blocks_in weight course number turns near far [] [] t ≤ blocks_left weight course (at course number near far)
  blocks_end weight = blocks_few course number weight turns near far [] [] m t f

pub course_ends : (course : Course) (number : List ℕ) (turns : List (List DueSet)) (near far : Seat) → MeetForTurns near far [] [] → near.header.role ≡ Supplier → IsFresh near → IsFresh far → IsCourse course → 1 ≤ course.sets
    → (t : AreOwnTurns turns near far []) → FollowCourse course number turns near far [] [] t → EndSilent turns near far [] t → BothHave course number turns near far [] t
course_ends course number [] near far m supplier fresh also right some t f silent = absurd silent
course_ends course number (first ∷ more) near far m supplier fresh also right some t f silent =
    courses_end course number (first ∷ more) near far m t f supplier fresh also right some f.0.before f.0.others silent
