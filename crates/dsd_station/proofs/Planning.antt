-- The plan and the record go along with what is due and what is armed.
use Rattle.std.proofs.Common.{◌≡◌, ℕ, ◌+◌, ◌-◌, ◌≤◌, ◌<◌, ◌==◌, if◌then◌else◌, Bool, true, false, List, [], ◌∷◌, ◌++◌, length, drop, refl, sym, ◌∙◌, ap, subst, arith, Option, Some, None, Ok, Err, length-append, append_assoc, append-nil}
use Rattle.std.proofs.lemmas.List.{drop-append-le}
use Rattle.std.proofs.lemmas.Bool.Decides.{nat_tests}
use Rattle.dsd_station.specs.declared.arming.ArmedFail.{ArmedFail}
use Rattle.dsd_station.specs.declared.arming.ArmedStop.{ArmedStop}
use Rattle.dsd_station.specs.declared.feeding.Fed.{Fed}
use Rattle.dsd_station.specs.declared.port.Cursor.{Cursor}
use Rattle.dsd_station.specs.declared.call.Call.{Call}
use Rattle.dsd_station.specs.declared.call.Call.TheVariants.{Attach, Size, Read, Write, Sync, Listen, Speak, Restart}
use Rattle.dsd_station.specs.Planned.{Due, dues_of, fed_at}
use Rattle.dsd_station.specs.ByPlan.{is_counted, counted_in, still_off, fail_off, stop_off, due_after, due_from, due_by}
use Rattle.dsd_station.specs.Cursors.{due_of, due_behind, due_at, IsInPiece, IsIn}
use Rattle.dsd_station.specs.Placed.{EachFedBy, FailArmedBy, StopArmedBy}

-- ---- armings

counted_in-push : (calls : List Call) (c : Call) → counted_in (calls ++ c ∷ []) ≡ counted_in calls + (if is_counted c then 1 else 0)
counted_in-push [] c = omega arith
counted_in-push (x ∷ calls) c = let more = counted_in-push calls c in omega (arith, more)

still_off-push : (number at : ℕ) (calls : List Call) (c : Call) → at ≤ length calls → still_off number at calls - (if is_counted c then 1 else 0) ≡ still_off number at (calls ++ c ∷ [])
still_off-push number at calls c before =
    let count : counted_in (drop at (calls ++ c ∷ [])) ≡ counted_in (drop at calls) + (if is_counted c then 1 else 0) = ap counted_in (drop-append-le at calls (c ∷ []) before) ∙ counted_in-push (drop at calls) c in
    omega (arith, count)

pub fail_off-push : (armed : Option ArmedFail) (calls : List Call) (c : Call) → FailArmedBy (length calls) armed → fail_off armed calls - (if is_counted c then 1 else 0) ≡ fail_off armed (calls ++ c ∷ [])
fail_off-push None calls c before = omega arith
fail_off-push (Some a) calls c before = still_off-push a.number a.at calls c before

pub stop_off-push : (armed : Option ArmedStop) (calls : List Call) (c : Call) → StopArmedBy (length calls) armed → stop_off armed calls - (if is_counted c then 1 else 0) ≡ stop_off armed (calls ++ c ∷ [])
stop_off-push None calls c before = omega arith
stop_off-push (Some a) calls c before = still_off-push a.number a.at calls c before

pub fail_armed_later : (armed : Option ArmedFail) (n m : ℕ) → n ≤ m → FailArmedBy n armed → FailArmedBy m armed
fail_armed_later None n m more before = tt
fail_armed_later (Some a) n m more before = omega (arith, more, before)

pub stop_armed_later : (armed : Option ArmedStop) (n m : ℕ) → n ≤ m → StopArmedBy n armed → StopArmedBy m armed
stop_armed_later None n m more before = tt
stop_armed_later (Some a) n m more before = omega (arith, more, before)

pub fed_later : (fed : List Fed) (n m : ℕ) → n ≤ m → EachFedBy n fed → EachFedBy m fed
fed_later [] n m more before = tt
fed_later (one ∷ fed) n m more before = (omega (arith, more, before.0), fed_later fed n m more before.1)

pub fed_more : (fed : List Fed) (one : Fed) (n : ℕ) → EachFedBy n fed → one.at ≤ n → EachFedBy n (fed ++ one ∷ [])
fed_more [] one n before at = (at, tt)
fed_more (x ∷ fed) one n before at = (before.0, fed_more fed one n before.1 at)

-- ---- what is due

-- nothing was fed later than the last
fed_at_none : (fed : List Fed) (n m : ℕ) → n < m → EachFedBy n fed → fed_at fed m ≡ []
fed_at_none [] n m less before = refl
fed_at_none (one ∷ fed) n m less before =
    let test : (one.at == m) ≡ false = let under : one.at < m = omega (arith, less, before.0) in grind (arith, nat_tests) in
    ap (λ (b : Bool). (if b then dues_of one.given else []) ++ fed_at fed m) test ∙ fed_at_none fed n m less before.1

due_from-push : (fed : List Fed) (at : ℕ) (calls : List Call) (c : Call) (dues : List Due) → due_from fed at (calls ++ c ∷ []) dues ≡ due_after c (due_from fed at calls dues) ++ fed_at fed (at + length calls + 1)
due_from-push fed at [] c dues = let n : at + 1 ≡ at + 0 + 1 = omega arith in ap (λ (k : ℕ). due_after c (dues ++ fed_at fed at) ++ fed_at fed k) n
due_from-push fed at (x ∷ calls) c dues =
    let n : at + 1 + length calls + 1 ≡ at + length (x ∷ calls) + 1 = omega arith in
    due_from-push fed (at + 1) calls c (due_after x (dues ++ fed_at fed at)) ∙ ap (λ (k : ℕ). due_after c (due_from fed (at + 1) calls (due_after x (dues ++ fed_at fed at))) ++ fed_at fed k) n

pub due_by-push : (fed : List Fed) (calls : List Call) (c : Call) → EachFedBy (length calls) fed → due_after c (due_by fed calls) ≡ due_by fed (calls ++ c ∷ [])
due_by-push fed calls c before =
    sym (
    due_from-push fed 0 calls c []
    ∙ ap (λ (l : List Due). due_after c (due_by fed calls) ++ l) (fed_at_none fed (length calls) (0 + length calls + 1) (omega arith) before)
    ∙ append-nil (due_after c (due_by fed calls))
    )

fed_at-append : (fed : List Fed) (one : Fed) (n : ℕ) → fed_at (fed ++ one ∷ []) n ≡ fed_at fed n ++ (if one.at == n then dues_of one.given else [])
fed_at-append [] one n = append-nil (if one.at == n then dues_of one.given else [])
fed_at-append (x ∷ fed) one n =
    ap (λ (l : List Due). (if x.at == n then dues_of x.given else []) ++ l) (fed_at-append fed one n)
    ∙ sym (append_assoc (if x.at == n then dues_of x.given else []) (fed_at fed n) (if one.at == n then dues_of one.given else []))

fed_at_other : (fed : List Fed) (one : Fed) (n : ℕ) → n < one.at → fed_at (fed ++ one ∷ []) n ≡ fed_at fed n
fed_at_other fed one n less =
    let test : (one.at == n) ≡ false = grind (arith, nat_tests) in
    fed_at-append fed one n ∙ ap (λ (b : Bool). fed_at fed n ++ (if b then dues_of one.given else [])) test ∙ append-nil (fed_at fed n)

fed_at_same : (fed : List Fed) (one : Fed) (n : ℕ) → one.at ≡ n → fed_at (fed ++ one ∷ []) n ≡ fed_at fed n ++ dues_of one.given
fed_at_same fed one n same =
    let test : (one.at == n) ≡ true = grind (arith, nat_tests) in
    fed_at-append fed one n ∙ ap (λ (b : Bool). fed_at fed n ++ (if b then dues_of one.given else [])) test

due_from-fed : (fed : List Fed) (one : Fed) (at : ℕ) (calls : List Call) (dues : List Due) → one.at ≡ at + length calls → due_from (fed ++ one ∷ []) at calls dues ≡ due_from fed at calls dues ++ dues_of one.given
due_from-fed fed one at [] dues now =
    let here : one.at ≡ at = omega (arith, now) in
    ap (λ (l : List Due). dues ++ l) (fed_at_same fed one at here) ∙ sym (append_assoc dues (fed_at fed at) (dues_of one.given))
due_from-fed fed one at (x ∷ calls) dues now =
    let later : at < one.at = omega (arith, now) in
    let next : one.at ≡ at + 1 + length calls = omega (arith, now) in
    ap (λ (l : List Due). due_from (fed ++ one ∷ []) (at + 1) calls (due_after x (dues ++ l))) (fed_at_other fed one at later)
    ∙ due_from-fed fed one (at + 1) calls (due_after x (dues ++ fed_at fed at)) next

pub due_by-fed : (fed : List Fed) (one : Fed) (calls : List Call) → one.at ≡ length calls → due_by (fed ++ one ∷ []) calls ≡ due_by fed calls ++ dues_of one.given
due_by-fed fed one calls now = let at : one.at ≡ 0 + length calls = omega (arith, now) in due_from-fed fed one 0 calls [] at

due_after_none : (c : Call) → due_after c [] ≡ []
due_after_none (Attach journal port answer) = refl
due_after_none (Size answer) = refl
due_after_none (Read at room answer) = refl
due_after_none (Write at bytes outcome) = refl
due_after_none (Sync outcome) = refl
due_after_none (Listen (Ok answer)) = refl
due_after_none (Listen (Err failed)) = refl
due_after_none (Speak bytes outcome) = refl
due_after_none Restart = refl

due_from_none : (at : ℕ) (calls : List Call) → due_from [] at calls [] ≡ []
due_from_none at [] = refl
due_from_none at (x ∷ calls) = ap (λ (l : List Due). due_from [] (at + 1) calls l) (due_after_none x) ∙ due_from_none (at + 1) calls

pub due_by_none : (calls : List Call) → [] ≡ due_by [] calls
due_by_none calls = sym (due_from_none 0 calls)

-- ---- the place in what was fed

due_of-append : (fed : List Fed) (one : Fed) → due_of (fed ++ one ∷ []) ≡ due_of fed ++ dues_of one.given
due_of-append [] one = append-nil (dues_of one.given)
due_of-append (x ∷ fed) one = ap (λ (l : List Due). dues_of x.given ++ l) (due_of-append fed one) ∙ sym (append_assoc (dues_of x.given) (due_of fed) (dues_of one.given))

due_behind-append : (offset : ℕ) (fed : List Fed) (one : Fed) → IsInPiece offset fed → due_behind offset (fed ++ one ∷ []) ≡ due_behind offset fed ++ dues_of one.given
due_behind-append offset [] one none = ap (λ (n : ℕ). drop n (dues_of one.given) ++ []) none ∙ append-nil (dues_of one.given)
due_behind-append offset (x ∷ fed) one inside =
    ap (λ (l : List Due). drop offset (dues_of x.given) ++ l) (due_of-append fed one) ∙ sym (append_assoc (drop offset (dues_of x.given)) (due_of fed) (dues_of one.given))

pub due_at-append : (fed : List Fed) (one : Fed) (at : Cursor) → IsIn fed at → due_at (fed ++ one ∷ []) at ≡ due_at fed at ++ dues_of one.given
due_at-append fed one at inside = ap (λ (l : List Fed). due_behind at.offset l) (drop-append-le at.head fed (one ∷ []) inside.head) ∙ due_behind-append at.offset (drop at.head fed) one inside.piece

in_piece-append : (offset : ℕ) (fed : List Fed) (one : Fed) → IsInPiece offset fed → IsInPiece offset (fed ++ one ∷ [])
in_piece-append offset [] one none = omega (arith, none)
in_piece-append offset (x ∷ fed) one inside = inside

pub is_in-append : (fed : List Fed) (one : Fed) (at : Cursor) → IsIn fed at → IsIn (fed ++ one ∷ []) at
is_in-append fed one at inside = record {
  head = omega (arith, inside.head, length-append fed (one ∷ []));
  piece = subst (λ l. IsInPiece at.offset l) (sym (drop-append-le at.head fed (one ∷ []) inside.head)) (in_piece-append at.offset (drop at.head fed) one inside.piece);
}
