-- A reader that has taken segments stands where their joined bytes end, whatever follows.
use Rattle.std.proofs.Common.{◌≡◌, ℕ, ◌+◌, ◌≤◌, Bool, true, false, List, [], ◌∷◌, ◌++◌, length, Option, Some, None, Result, Ok, Err, refl, sym, ap, ◌∙◌, subst, arith, append_assoc, append-nil, length-append}
use Rattle.segments.specs.Views.{Seg, Left}
use Rattle.segments.specs.SegmentCut.{cut_left, cut_of, left_after, next_of, text_start}
use Rattle.segments.specs.SegmentSpelling.{IsFront, SpellsSegment, SpellsSegments}
use Rattle.segments.specs.declared.segment_fault.SegmentFault.{SegmentFault}
use Rattle.segments.proofs.Complete.{front_is}
use Rattle.segments.proofs.Spelled.{next_of-end}
use Rattle.transaction_set.specs.Reasons.{Says}
use Rattle.transaction_set.specs.Refusal.{Answers, IsWithin, Judged, Refusal, ended_at, first_refusal, refused_at, said_by}
use Rattle.transaction_set.specs.Taking.{AreRight, IsFaultOf, IsTaken, StandsWith, Taken, Takes, TakesBehind, broken_by, first_reason, in_set, none_taken, taken_with, told_at}
use Rattle.transaction_set.specs.declared.set_fault.SetFault.{SetFault}
use Rattle.transaction_set.specs.declared.set_fault.SetFault.TheVariants as errors
use Rattle.transaction_set.specs.declared.set_fault.SetReason.{SetReason}
use Rattle.transaction_set.specs.declared.set_fault.SetReason.TheVariants as reasons
use Rattle.transaction_set.proofs.Reading.{end_refused, end_said, fault_refused, refusal_in, said_in, said_on, step_on, step_refused}

-- ---- one segment behind others

spelled_more : (segs : List Seg) (n : ℕ) (text : List ℕ) (seg : Seg) → SpellsSegments n segs text → SpellsSegment seg → SpellsSegments n (segs ++ in_set (n + length text) seg ∷ []) (text ++ seg.bytes)
spelled_more [] n text seg h is =
    let none : length text ≡ 0 = ap length h in (
      record { segment = is.segment; spelled = is.spelled; short = is.short },
      omega (arith, none),
      ([], ap (λ (l : List ℕ). l ++ seg.bytes) h ∙ sym (append-nil seg.bytes), refl),
    )
spelled_more (first ∷ segs) n text seg (is_first, start, (rest, joined, behind)) is =
    let long : length text ≡ length first.bytes + length rest = ap length joined ∙ length-append first.bytes rest in
    let at : n + length first.bytes + length rest ≡ n + length text = omega (arith, long) in (
      is_first,
      start,
      (
        rest ++ seg.bytes,
        ap (λ (l : List ℕ). l ++ seg.bytes) joined ∙ append_assoc first.bytes rest seg.bytes,
        subst (λ (m : ℕ). SpellsSegments (n + length first.bytes) (segs ++ in_set m seg ∷ []) (rest ++ seg.bytes)) at
            (spelled_more segs (n + length first.bytes) rest seg behind is),
      ),
    )

no_more : (n : ℕ) → 0 + n ≡ n
no_more n = omega arith

passed : (r : Option SetReason) (place : ℕ) (later other : Option Refusal) → refused_at r place later ≡ None → refused_at r place other ≡ other
passed None place later other e = refl
passed (Some r) place later other e = cc

no_reason : (r : Option SetReason) (place : ℕ) (later : Option Refusal) → refused_at r place later ≡ None → r ≡ None
no_reason None place later e = refl
no_reason (Some r) place later e = cc

later_none : (r : Option SetReason) (place : ℕ) (later : Option Refusal) → refused_at r place later ≡ None → later ≡ None
later_none None place later e = e
later_none (Some r) place later e = cc

kept_some : (r : Option SetReason) (place : ℕ) (later other : Option Refusal) (refusal : Refusal) → refused_at r place later ≡ Some refusal → (later ≡ Some refusal → other ≡ Some refusal) → refused_at r place other ≡ Some refusal
kept_some None place later other refusal e f = f e
kept_some (Some r) place later other refusal e f = e

with_reason : (r : Option SetReason) (why : SetReason) (place : ℕ) → r ≡ Some why → refused_at r place None ≡ Some (record { place = place; reason = why })
with_reason (Some r) why place e = let same : r ≡ why = cc (e) in ap (λ (u : SetReason). Some (record { place = place; reason = u })) same
with_reason None why place e = cc

without_reason : (r : Option SetReason) (place : ℕ) → r ≡ None → refused_at r place None ≡ None
without_reason None place e = refl
without_reason (Some r) place e = cc

abbrev one_refusal : ℕ → SetReason → Option Refusal
one_refusal place why = Some (record { place = place; reason = why })

place_of : (p q : ℕ) (why : SetReason) → p ≡ q → one_refusal p why ≡ one_refusal q why
place_of p q why e = ap (λ (n : ℕ). one_refusal n why) e

same_place : (at : ℕ) (why : SetReason) (refusal : Refusal) → one_refusal at why ≡ Some refusal → at ≡ refusal.place
same_place at why refusal e =
    let same : (record { place = at; reason = why }) ≡ refusal = cc (e) in
    ap (λ (u : Refusal). u.place) same

ended_place : (whole : Bool) (size place : ℕ) (reason : SetReason) → ended_at whole size None ≡ Some (record { place = place; reason = reason }) → size ≡ place
ended_place true size place reason e = cc
ended_place false size place reason e =
    let same : record { place = size; reason = reasons.Order } ≡ record { place = place; reason = reason } = cc (e) in
    ap (λ (u : Refusal). u.place) same

tells : (X : Type 0) (e : SetFault) (refused : Option Refusal) (P : X → Type 0) → IsFaultOf e refused → Answers (let r : Result X SetFault = Err e in r) refused P
tells X errors.Memory refused P h = tt
tells X (errors.Refused place reason) refused P h = h

module _ {M : Type 0} (j : Judged M) where
  said_more : (segs : List Seg) (m : M) (seg : Seg) → said_by j m (segs ++ seg ∷ []) ≡ j.after (said_by j m segs) seg
  said_more [] m seg = refl
  said_more (first ∷ segs) m seg = said_more segs (j.after m first) seg

  -- where there is nothing against these, the first reason is that against what follows
  reason_more : (segs : List Seg) (m : M) (more : List Seg) → first_reason j m segs ≡ None → first_reason j m (segs ++ more) ≡ first_reason j (said_by j m segs) more
  reason_more [] m more e = refl
  reason_more (first ∷ segs) m more e =
      passed (j.reason m first) first.start (first_reason j (j.after m first) segs) (first_reason j (j.after m first) (segs ++ more)) e
      ∙ reason_more segs (j.after m first) more (later_none (j.reason m first) first.start (first_reason j (j.after m first) segs) e)

  -- and a reason against one of these stays the first
  reason_stays : (segs : List Seg) (m : M) (more : List Seg) (refusal : Refusal) → first_reason j m segs ≡ Some refusal → first_reason j m (segs ++ more) ≡ Some refusal
  reason_stays [] m more refusal e = cc
  reason_stays (first ∷ segs) m more refusal e =
      kept_some (j.reason m first) first.start (first_reason j (j.after m first) segs) (first_reason j (j.after m first) (segs ++ more)) refusal e
      (λ later. reason_stays segs (j.after m first) more refusal later)

  -- ---- the first of some segments, and what is left

  abbrev FirstOf : Seg → List ℕ → List ℕ → ℕ → Type 0
  FirstOf seg text rest n = (next_of (record { rest = text; place = n }) ≡ Ok (Some seg)) × (left_after (record { rest = text; place = n }) ≡ record { rest = rest; place = n + length seg.bytes })

  first_is : (seg : Seg) (segs : List Seg) (n : ℕ) (text rest : List ℕ) (s : SpellsSegments n (seg ∷ segs) text) → FirstOf seg (text ++ rest) (s.2.0 ++ rest) n
  first_is seg segs n text rest (is, start, (later, joined, behind)) =
      let there : text ++ rest ≡ seg.bytes ++ (later ++ rest) = ap (λ (l : List ℕ). l ++ rest) joined ∙ append_assoc seg.bytes later rest in
      front_is (record { rest = text ++ rest; place = n }) (record { rest = later ++ rest; place = n + length seg.bytes }) seg (record { spelled = is; start = start; there = there; place = refl })

  at_end : (seg : Seg) (later text : List ℕ) (n : ℕ) → text ≡ seg.bytes ++ later → n + length seg.bytes + length later ≡ n + length text
  at_end seg later text n joined = omega (arith, ap length joined, length-append seg.bytes later)

  -- what is refused behind them is what is refused of all
  refused_behind : (segs : List Seg) (m : M) (n : ℕ) (text rest : List ℕ) → SpellsSegments n segs text → first_reason j m segs ≡ None
      → refusal_in j m n (cut_left (record { rest = text ++ rest; place = n })) ≡ refusal_in j (said_by j m segs) (n + length text) (cut_left (record { rest = rest; place = n + length text }))
  refused_behind [] m n text rest s none =
      let at : n ≡ n + length text = omega (arith, ap length s) in
      ap (λ (l : List ℕ). refusal_in j m n (cut_left (record { rest = l ++ rest; place = n }))) s
      ∙ ap (λ (k : ℕ). refusal_in j m k (cut_left (record { rest = rest; place = k }))) at
  refused_behind (seg ∷ segs) m n text rest s none =
      let f = first_is seg segs n text rest s in
      let later : List ℕ = s.2.0 in
      let start : seg.start ≡ n = s.1 in
      let right : j.reason m seg ≡ None = no_reason (j.reason m seg) seg.start (first_reason j (j.after m seg) segs) none in
      sym (step_on j m n (record { rest = text ++ rest; place = n }) seg f.0 right)
      ∙ ap (λ (l : Left). refusal_in j (j.after m seg) (seg.start + length seg.bytes) (cut_left l)) f.1
      ∙ ap (λ (k : ℕ). refusal_in j (j.after m seg) (k + length seg.bytes) (cut_left (record { rest = later ++ rest; place = n + length seg.bytes }))) start
      ∙ refused_behind segs (j.after m seg) (n + length seg.bytes) later rest s.2.2 (later_none (j.reason m seg) seg.start (first_reason j (j.after m seg) segs) none)
      ∙ ap (λ (k : ℕ). refusal_in j (said_by j (j.after m seg) segs) k (cut_left (record { rest = rest; place = k }))) (at_end seg later text n s.2.1)

  -- they say what stands before what is said of the rest
  said_behind : (segs : List Seg) (m : M) (n : ℕ) (text rest : List ℕ) → SpellsSegments n segs text
      → said_in j m (cut_left (record { rest = text ++ rest; place = n })) ≡ said_in j (said_by j m segs) (cut_left (record { rest = rest; place = n + length text }))
  said_behind [] m n text rest s =
      let at : n ≡ n + length text = omega (arith, ap length s) in
      ap (λ (l : List ℕ). said_in j m (cut_left (record { rest = l ++ rest; place = n }))) s
      ∙ ap (λ (k : ℕ). said_in j m (cut_left (record { rest = rest; place = k }))) at
  said_behind (seg ∷ segs) m n text rest s =
      let f = first_is seg segs n text rest s in
      let later : List ℕ = s.2.0 in
      sym (said_on j m (record { rest = text ++ rest; place = n }) seg f.0)
      ∙ ap (λ (l : Left). said_in j (j.after m seg) (cut_left l)) f.1
      ∙ said_behind segs (j.after m seg) (n + length seg.bytes) later rest s.2.2
      ∙ ap (λ (k : ℕ). said_in j (said_by j (j.after m seg) segs) (cut_left (record { rest = rest; place = k }))) (at_end seg later text n s.2.1)

  -- a reason against one of them is the first refusal, whatever follows
  refused_among : (segs : List Seg) (m : M) (n : ℕ) (text rest : List ℕ) (refusal : Refusal) → SpellsSegments n segs text → first_reason j m segs ≡ Some refusal
      → refusal_in j m n (cut_left (record { rest = text ++ rest; place = n })) ≡ Some refusal
  refused_among [] m n text rest refusal s some = cc
  refused_among (seg ∷ segs) m n text rest refusal s some =
      by_reason (first_is seg segs n text rest s) (j.reason m seg) refl
      (λ later. refused_among segs (j.after m seg) (n + length seg.bytes) s.2.0 rest refusal s.2.2 later)
    where
      by_reason : FirstOf seg (text ++ rest) (s.2.0 ++ rest) n → (r : Option SetReason) → j.reason m seg ≡ r
          → (first_reason j (j.after m seg) segs ≡ Some refusal → refusal_in j (j.after m seg) (n + length seg.bytes) (cut_left (record { rest = s.2.0 ++ rest; place = n + length seg.bytes })) ≡ Some refusal)
          → refusal_in j m n (cut_left (record { rest = text ++ rest; place = n })) ≡ Some refusal
      by_reason f (Some why) e later =
          step_refused j m n (record { rest = text ++ rest; place = n }) seg why f.0 e
          ∙ sym (ap (λ (o : Option SetReason). refused_at o seg.start (first_reason j (j.after m seg) segs)) e) ∙ some
      by_reason f None e later =
          sym (step_on j m n (record { rest = text ++ rest; place = n }) seg f.0 e)
          ∙ ap (λ (l : Left). refusal_in j (j.after m seg) (seg.start + length seg.bytes) (cut_left l)) f.1
          ∙ ap (λ (k : ℕ). refusal_in j (j.after m seg) (k + length seg.bytes) (cut_left (record { rest = s.2.0 ++ rest; place = n + length seg.bytes }))) s.1
          ∙ later (sym (ap (λ (o : Option SetReason). refused_at o seg.start (first_reason j (j.after m seg) segs)) e) ∙ some)

  -- it stands within them
  reason_within : (segs : List Seg) (m : M) (n : ℕ) (text : List ℕ) (refusal : Refusal) → SpellsSegments n segs text → first_reason j m segs ≡ Some refusal → refusal.place ≤ n + length text
  reason_within [] m n text refusal s some = cc
  reason_within (seg ∷ segs) m n text refusal s some =
      by_reason (j.reason m seg) refl (λ later. reason_within segs (j.after m seg) (n + length seg.bytes) s.2.0 refusal s.2.2 later)
    where
      by_reason : (r : Option SetReason) → j.reason m seg ≡ r → (first_reason j (j.after m seg) segs ≡ Some refusal → refusal.place ≤ n + length seg.bytes + length s.2.0) → refusal.place ≤ n + length text
      by_reason (Some why) e later =
          let at = same_place seg.start why refusal (sym (ap (λ (o : Option SetReason). refused_at o seg.start (first_reason j (j.after m seg) segs)) e) ∙ some) in
          omega (arith, at, s.1)
      by_reason None e later =
          let within = later (sym (ap (λ (o : Option SetReason). refused_at o seg.start (first_reason j (j.after m seg) segs)) e) ∙ some) in
          omega (arith, within, at_end seg s.2.0 text n s.2.1)

module _ {M : Type 0} (j : Judged M) (start : M) where
  pub nothing_taken : IsTaken j start [] (none_taken start)
  nothing_taken = record { segments = []; spelled = refl; stands = record { said = refl; size = refl; right = refl } }

  -- ---- one segment more

  more_right : (segs : List Seg) (text : List ℕ) (old new : Taken M) (seg : Seg) → AreRight j start segs text old → j.reason old.said (in_set old.size seg) ≡ None → new ≡ taken_with j old (in_set old.size seg)
      → AreRight j start (segs ++ in_set (length text) seg ∷ []) (text ++ seg.bytes) new
  more_right segs text old new seg are none same =
      let placed : in_set old.size seg ≡ in_set (length text) seg = ap (λ (n : ℕ). in_set n seg) are.size in
      let after : j.after old.said (in_set old.size seg) ≡ j.after (said_by j start segs) (in_set (length text) seg) =
      ap (λ (m : M). j.after m (in_set old.size seg)) are.said ∙ ap (λ (s : Seg). j.after (said_by j start segs) s) placed in
      let reason : j.reason (said_by j start segs) (in_set (length text) seg) ≡ None =
      sym (ap (λ (m : M). j.reason m (in_set old.size seg)) are.said ∙ ap (λ (s : Seg). j.reason (said_by j start segs) s) placed) ∙ none in
      record {
        said = ap (λ (t : Taken M). t.said) same ∙ after ∙ sym (said_more j segs start (in_set (length text) seg));
        size = ap (λ (t : Taken M). t.size) same ∙ ap (λ (n : ℕ). n + length seg.bytes) are.size ∙ sym (length-append text seg.bytes);
        right = reason_more j segs start (in_set (length text) seg ∷ []) are.right ∙ without_reason (j.reason (said_by j start segs) (in_set (length text) seg)) (length text) reason;
      }

  more_refused : (segs : List Seg) (text : List ℕ) (old : Taken M) (seg : Seg) (at : ℕ) (why : SetReason) → AreRight j start segs text old → at ≡ old.size → j.reason old.said (in_set old.size seg) ≡ Some why
      → first_reason j start (segs ++ in_set (length text) seg ∷ []) ≡ Some (record { place = at; reason = why })
  more_refused segs text old seg at why are there because =
      let placed : in_set old.size seg ≡ in_set (length text) seg = ap (λ (n : ℕ). in_set n seg) are.size in
      let reason : j.reason (said_by j start segs) (in_set (length text) seg) ≡ Some why =
      sym (ap (λ (m : M). j.reason m (in_set old.size seg)) are.said ∙ ap (λ (s : Seg). j.reason (said_by j start segs) s) placed) ∙ because in
      reason_more j segs start (in_set (length text) seg ∷ []) are.right ∙ with_reason (j.reason (said_by j start segs) (in_set (length text) seg)) why (length text) reason
      ∙ place_of (length text) at why (sym (there ∙ are.size))

  stands_on : (segs : List Seg) (text : List ℕ) (old new : Taken M) (seg : Seg) (fault : Option SetFault) (answer : Result Bool SetFault) → StandsWith j start segs text old fault → old.fault ≡ fault
      → TakesBehind j fault old (in_set old.size seg) answer new → StandsWith j start (segs ++ in_set (length text) seg ∷ []) (text ++ seg.bytes) new new.fault
  stands_on segs text old new seg (Some errors.Memory) answer stands is (said, same) =
      subst (λ (o : Option SetFault). StandsWith j start (segs ++ in_set (length text) seg ∷ []) (text ++ seg.bytes) new o) (sym (ap (λ (t : Taken M). t.fault) same ∙ is)) tt
  stands_on segs text old new seg (Some (errors.Refused place reason)) answer stands is (said, same) =
      subst (λ (o : Option SetFault). StandsWith j start (segs ++ in_set (length text) seg ∷ []) (text ++ seg.bytes) new o) (sym (ap (λ (t : Taken M). t.fault) same ∙ is))
      (reason_stays j segs start (in_set (length text) seg ∷ []) (record { place = place; reason = reason }) stands)
  stands_on segs text old new seg None (Ok whole) stands is (says, kept) =
      subst (λ (o : Option SetFault). StandsWith j start (segs ++ in_set (length text) seg ∷ []) (text ++ seg.bytes) new o) (sym kept)
      (more_right segs text old new seg stands says.0 says.1.1)
  stands_on segs text old new seg None (Err errors.Memory) stands is (says, kept) =
      subst (λ (o : Option SetFault). StandsWith j start (segs ++ in_set (length text) seg ∷ []) (text ++ seg.bytes) new o) (sym kept) tt
  stands_on segs text old new seg None (Err (errors.Refused at why)) stands is (says, kept) =
      subst (λ (o : Option SetFault). StandsWith j start (segs ++ in_set (length text) seg ∷ []) (text ++ seg.bytes) new o) (sym kept)
      (more_refused segs text old seg at why stands says.0 says.1)

  pub taken_more : (text : List ℕ) (old new : Taken M) (seg : Seg) (answer : Result Bool SetFault) → SpellsSegment seg → Takes j old seg answer new → IsTaken j start text old → IsTaken j start (text ++ seg.bytes) new
  taken_more text old new seg answer is takes taken = record {
    segments = taken.segments ++ in_set (length text) seg ∷ [];
    spelled = subst (λ (n : ℕ). SpellsSegments 0 (taken.segments ++ in_set n seg ∷ []) (text ++ seg.bytes)) (no_more (length text)) (spelled_more taken.segments 0 text seg taken.spelled is);
    stands = stands_on taken.segments text old new seg old.fault answer taken.stands refl takes;
  }

  -- as the body of a reader has it
  pub right_next : (m new : M) (size n : ℕ) (fault : Option SetFault) (seg : Seg) → fault ≡ None → SpellsSegment seg → (j.reason m (in_set size seg) ≡ None) × (new ≡ j.after m (in_set size seg)) → n ≡ size + length seg.bytes
      → (text : List ℕ) → IsTaken j start text (record { said = m; size = size; fault = fault }) → IsTaken j start (text ++ seg.bytes) (record { said = new; size = n; fault = fault })
  right_next m new size n (Some f) seg none is right long text taken = cc
  right_next m new size n None seg none is right long text taken =
      taken_more text (record { said = m; size = size; fault = None }) (record { said = new; size = n; fault = None }) seg (Ok (j.whole new)) is
      ((right.0, (refl, ap (λ (u : M). record { said = u; size = n; fault = None }) right.1 ∙ ap (λ (k : ℕ). record { said = j.after m (in_set size seg); size = k; fault = None }) long)), refl) taken

  pub refused_next : (X : Type 0) (m new : M) (size : ℕ) (fault : Option SetFault) (e told : SetFault) (place : ℕ) (seg : Seg) (P : X → Type 0) → fault ≡ None → SpellsSegment seg
      → Says (let u : Result X SetFault = Err e in u) place (j.reason m (in_set size seg)) P → told ≡ told_at size e
      → (text : List ℕ) → IsTaken j start text (record { said = m; size = size; fault = fault }) → IsTaken j start (text ++ seg.bytes) (record { said = new; size = size; fault = Some told })
  refused_next X m new size (Some f) e told place seg P none is says same text taken = cc
  refused_next X m new size None errors.Memory told place seg P none is says same text taken =
      taken_more text (record { said = m; size = size; fault = None }) (record { said = new; size = size; fault = Some told }) seg (Err errors.Memory) is (tt, ap (λ (f : SetFault). Some f) same) taken
  refused_next X m new size None (errors.Refused at why) told place seg P none is says same text taken =
      taken_more text (record { said = m; size = size; fault = None }) (record { said = new; size = size; fault = Some told }) seg (Err (errors.Refused size why)) is ((refl, says.1), ap (λ (f : SetFault). Some f) same) taken

  pub stopped_next : (old : Taken M) (f : SetFault) (seg : Seg) → old.fault ≡ Some f → SpellsSegment seg → (text : List ℕ) → IsTaken j start text old → IsTaken j start (text ++ seg.bytes) old
  stopped_next old f seg is spelled text taken =
      taken_more text old old seg (Err f) spelled (subst (λ (o : Option SetFault). TakesBehind j o old (in_set old.size seg) (Err f) old) (sym is) (refl, refl)) taken

  -- ---- the end, and what follows

  are_right : (text : List ℕ) (t : Taken M) (taken : IsTaken j start text t) → t.fault ≡ None → AreRight j start taken.segments text t
  are_right text t taken e = subst (λ (o : Option SetFault). StandsWith j start taken.segments text t o) e taken.stands

  behind_taken : (text rest : List ℕ) (t : Taken M) → IsTaken j start text t → t.fault ≡ None
      → first_refusal j start (text ++ rest) ≡ refusal_in j t.said t.size (cut_left (record { rest = rest; place = length text }))
  behind_taken text rest t taken e =
      let are = are_right text t taken e in
      refused_behind j taken.segments start 0 text rest taken.spelled are.right
      ∙ ap (λ (n : ℕ). refusal_in j (said_by j start taken.segments) n (cut_left (record { rest = rest; place = n }))) (no_more (length text))
      ∙ sym (ap (λ (m : M). refusal_in j m t.size (cut_left (record { rest = rest; place = length text }))) are.said
      ∙ ap (λ (n : ℕ). refusal_in j (said_by j start taken.segments) n (cut_left (record { rest = rest; place = length text }))) are.size)

  -- a whole text is refused where it ends too early
  pub whole_refusal : (text : List ℕ) (t : Taken M) → IsTaken j start text t → t.fault ≡ None → ended_at (j.whole t.said) t.size None ≡ first_refusal j start text
  whole_refusal text t taken e =
      sym (ap (first_refusal j start) (sym (append-nil text)) ∙ behind_taken text [] t taken e
      ∙ end_refused j t.said t.size (record { rest = []; place = length text }) (next_of-end (record { rest = []; place = length text }) refl))

  -- and says what was said
  pub whole_said : (text : List ℕ) (t : Taken M) → IsTaken j start text t → t.fault ≡ None → t.said ≡ said_by j start (cut_of text).segments
  whole_said text t taken e =
      let are = are_right text t taken e in
      sym (ap (λ (l : List ℕ). said_in j start (cut_left (text_start l))) (sym (append-nil text)) ∙ said_behind j taken.segments start 0 text [] taken.spelled
      ∙ ap (λ (n : ℕ). said_in j (said_by j start taken.segments) (cut_left (record { rest = []; place = n }))) (no_more (length text))
      ∙ end_said j (said_by j start taken.segments) (record { rest = []; place = length text }) (next_of-end (record { rest = []; place = length text }) refl) ∙ sym are.said)

  -- the fault of a reader that has stopped tells the refusal of each text that goes on so
  pub stopped : (text rest : List ℕ) (t : Taken M) (fault : SetFault) → IsTaken j start text t → t.fault ≡ Some fault → IsFaultOf fault (first_refusal j start (text ++ rest))
  stopped text rest t errors.Memory taken e = tt
  stopped text rest t (errors.Refused place reason) taken e =
      refused_among j taken.segments start 0 text rest (record { place = place; reason = reason }) taken.spelled (subst (λ (o : Option SetFault). StandsWith j start taken.segments text t o) e taken.stands)

  pub stopped_within : (X : Type 0) (text : List ℕ) (t : Taken M) (fault : SetFault) → IsTaken j start text t → t.fault ≡ Some fault → IsWithin (let r : Result X SetFault = Err fault in r) (length text)
  stopped_within X text t errors.Memory taken e = tt
  stopped_within X text t (errors.Refused place reason) taken e =
      let within = reason_within j taken.segments start 0 text (record { place = place; reason = reason }) taken.spelled (subst (λ (o : Option SetFault). StandsWith j start taken.segments text t o) e taken.stands) in
      omega (arith, within)

  -- no segment can be read behind those taken
  pub broken : (text rest : List ℕ) (t : Taken M) (fault : SegmentFault) (stop : Option SetFault) → IsTaken j start text t → t.fault ≡ stop → next_of (record { rest = rest; place = length text }) ≡ Err fault
      → IsFaultOf (broken_by t fault stop) (first_refusal j start (text ++ rest))
  broken text rest t fault (Some stop) taken is next = stopped text rest t stop taken is
  broken text rest t fault None taken is next =
      behind_taken text rest t taken is ∙ fault_refused j t.said t.size (record { rest = rest; place = length text }) fault next

  pub broken_within : (X : Type 0) (text : List ℕ) (t : Taken M) (fault : SegmentFault) (stop : Option SetFault) → IsTaken j start text t → t.fault ≡ stop → IsWithin (let r : Result X SetFault = Err (broken_by t fault stop) in r) (length text)
  broken_within X text t fault (Some stop) taken is = stopped_within X text t stop taken is
  broken_within X text t fault None taken is = omega (arith, (are_right text t taken is).size)

  -- ---- a reader within a text

  -- it has taken what stands before what is left of the text
  pub record StandsIn (text : List ℕ) (reader : Taken M) (left : Left) : Type 0 where
    pub done : List ℕ
    pub taken : IsTaken j start done reader
    pub joined : text ≡ done ++ left.rest
    pub place : left.place ≡ length done

  pub begins_in : (text : List ℕ) → StandsIn text (none_taken start) (text_start text)
  begins_in text = record { done = []; taken = nothing_taken; joined = refl; place = refl }

  pub goes_on_in : (text : List ℕ) (old new : Taken M) (left behind : Left) (seg : Seg) → StandsIn text old left → IsFront seg left behind → ((done : List ℕ) → IsTaken j start done old → IsTaken j start (done ++ seg.bytes) new)
      → StandsIn text new behind
  goes_on_in text old new left behind seg s front more = record {
    done = s.done ++ seg.bytes;
    taken = more s.done s.taken;
    joined = s.joined ∙ ap (λ (l : List ℕ). s.done ++ l) front.there ∙ sym (append_assoc s.done seg.bytes behind.rest);
    place = omega (arith, front.place, s.place, length-append s.done seg.bytes);
  }

  pub whole_in : (text : List ℕ) (reader : Taken M) (left : Left) → StandsIn text reader left → left.rest ≡ [] → IsTaken j start text reader
  whole_in text reader left s end =
      subst (λ (l : List ℕ). IsTaken j start l reader) (sym (s.joined ∙ ap (λ (l : List ℕ). s.done ++ l) end ∙ append-nil s.done)) s.taken

  done_within : (text : List ℕ) (reader : Taken M) (left : Left) (s : StandsIn text reader left) → length s.done ≤ length text
  done_within text reader left s = omega (arith, ap length s.joined, length-append s.done left.rest)

  within_more : (X : Type 0) (f : SetFault) (m n : ℕ) → IsWithin (let r : Result X SetFault = Err f in r) m → m ≤ n → IsWithin (let r : Result X SetFault = Err f in r) n
  within_more X errors.Memory m n h le = tt
  within_more X (errors.Refused place reason) m n h le = omega (arith, h, le)

  pub takes_fault : (old new : Taken M) (seg : Seg) (e : SetFault) → Takes j old seg (Err e) new → new.fault ≡ Some e
  takes_fault old new seg e takes = by_fault old.fault refl takes
    where
      by_fault : (fault : Option SetFault) → old.fault ≡ fault → TakesBehind j fault old (in_set old.size seg) (Err e) new → new.fault ≡ Some e
      by_fault (Some f) is (said, same) =
          let one : f ≡ e = cc (said) in
          ap (λ (t : Taken M). t.fault) same ∙ is ∙ ap (λ (u : SetFault). Some u) one
      by_fault None is (says, kept) = kept

  pub refused_in : (X : Type 0) (text : List ℕ) (reader : Taken M) (left : Left) (r : Result X SetFault) (e : SetFault) (P : X → Type 0) → StandsIn text reader left → reader.fault ≡ Some e → r ≡ Err e
      → Answers r (first_refusal j start text) P
  refused_in X text reader left r e P s is same =
      subst (λ (u : Result X SetFault). Answers u (first_refusal j start text) P) (sym same)
      (tells X e (first_refusal j start text) P (subst (λ (l : List ℕ). IsFaultOf e (first_refusal j start l)) (sym s.joined) (stopped s.done left.rest reader e s.taken is)))

  pub refused_in_within : (X : Type 0) (text : List ℕ) (reader : Taken M) (left : Left) (r : Result X SetFault) (e : SetFault) → StandsIn text reader left → reader.fault ≡ Some e → r ≡ Err e → IsWithin r (length text)
  refused_in_within X text reader left r e s is same =
      subst (λ (u : Result X SetFault). IsWithin u (length text)) (sym same)
      (within_more X e (length s.done) (length text) (stopped_within X s.done reader e s.taken is) (done_within text reader left s))

  pub broken_in : (X : Type 0) (text : List ℕ) (reader : Taken M) (left : Left) (fault : SegmentFault) (e : SetFault) (P : X → Type 0) → StandsIn text reader left → next_of left ≡ Err fault
      → e ≡ broken_by reader fault reader.fault → Answers (let u : Result X SetFault = Err e in u) (first_refusal j start text) P
  broken_in X text reader left fault e P s next value =
      tells X e (first_refusal j start text) P (subst (λ (l : List ℕ). IsFaultOf e (first_refusal j start l)) (sym s.joined)
      (subst (λ (f : SetFault). IsFaultOf f (first_refusal j start (s.done ++ left.rest))) (sym value)
      (broken s.done left.rest reader fault reader.fault s.taken refl (ap (λ (n : ℕ). next_of (record { rest = left.rest; place = n })) (sym s.place) ∙ next))))

  pub broken_in_within : (X : Type 0) (text : List ℕ) (reader : Taken M) (left : Left) (fault : SegmentFault) (e : SetFault) → StandsIn text reader left
      → e ≡ broken_by reader fault reader.fault → IsWithin (let u : Result X SetFault = Err e in u) (length text)
  broken_in_within X text reader left fault e s value =
      subst (λ (f : SetFault). IsWithin (let u : Result X SetFault = Err f in u) (length text)) (sym value)
      (within_more X (broken_by reader fault reader.fault) (length s.done) (length text) (broken_within X s.done reader fault reader.fault s.taken refl) (done_within text reader left s))

  -- a reader that has stopped answers so for its text
  pub stops : (X : Type 0) (text : List ℕ) (t : Taken M) (e : SetFault) (P : X → Type 0) → IsTaken j start text t → t.fault ≡ Some e → Answers (let u : Result X SetFault = Err e in u) (first_refusal j start text) P
  stops X text t e P taken is =
      refused_in X text t (record { rest = []; place = length text }) (Err e) e P (record { done = text; taken = taken; joined = sym (append-nil text); place = refl }) is refl

  -- and one that has not answers by what was said
  pub ends : (X : Type 0) (text : List ℕ) (t : Taken M) (r : Result X SetFault) (Read : M → X → Type 0) → IsTaken j start text t → t.fault ≡ None → Answers r (ended_at (j.whole t.said) t.size None) (Read t.said)
      → Answers r (first_refusal j start text) (Read (said_by j start (cut_of text).segments))
  ends X text t r Read taken is h =
      subst (λ (o : Option Refusal). Answers r o (Read (said_by j start (cut_of text).segments))) (whole_refusal text t taken is)
      (subst (λ (m : M). Answers r (ended_at (j.whole t.said) t.size None) (Read m)) (whole_said text t taken is) h)

  pub ends_within : (X : Type 0) (text : List ℕ) (t : Taken M) (r : Result X SetFault) (P : X → Type 0) → IsTaken j start text t → t.fault ≡ None → Answers r (ended_at (j.whole t.said) t.size None) P → IsWithin r (length text)
  ends_within X text t (Ok x) P taken is h = tt
  ends_within X text t (Err errors.Memory) P taken is h = tt
  ends_within X text t (Err (errors.Refused place reason)) P taken is h =
      let at = ended_place (j.whole t.said) t.size place reason h in
      omega (arith, at, (are_right text t taken is).size)
