-- What a station in memory answers to the listens of a poll.
use Rattle.std.proofs.Common.{◌≡◌, ◌≤◌, ℕ, zero, suc, Bool, true, false, List, [], ◌∷◌, ◌++◌, length, take, drop, map, refl, sym, ◌∙◌, ap, subst, arith, append_assoc, append-nil, length-append, Result, Ok, Err}
use Rattle.std.proofs.lemmas.List.{drop-map}
use Rattle.std.specs.Prelude.{if◌then◌else◌, is_some}
use Rattle.dsd_station.specs.declared.failed.Failed.{Failed}
use Rattle.dsd_station.specs.declared.call.Reception.{Reception}
use Rattle.dsd_station.specs.declared.call.Reception.TheVariants.{Piece}
use Rattle.dsd_station.specs.declared.call.Call.{Call}
use Rattle.dsd_station.specs.declared.call.Call.TheVariants.{Attach, Size, Read, Write, Sync, Listen, Speak, Restart}
use Rattle.dsd_station.specs.ByPlan.{EachAnswered, answered, due_after, due_by, unless_stopped}
use Rattle.dsd_station.specs.Heard.{answers_in, heard_by}
use Rattle.dsd_station.specs.Placed.{EachFedBy}
use Rattle.dsd_station.specs.Planned.{Due, DueByte, Plan, heard_of, leading, left_due}
use Rattle.dsd_station.specs.Replayed.{state_of}
use Rattle.dsd_station.proofs.Planning.{due_by-push, fed_later}

-- ---- bytes that are due

leading_bytes : (bytes : List ℕ) → leading (map DueByte bytes) ≡ bytes
leading_bytes [] = refl
leading_bytes (b ∷ bytes) = ap (λ (l : List ℕ). b ∷ l) (leading_bytes bytes)

drop_taken : (n : ℕ) (bytes : List ℕ) → drop (length (take n bytes)) bytes ≡ drop n bytes
drop_taken zero bytes = refl
drop_taken (suc n) [] = refl
drop_taken (suc n) (b ∷ bytes) = drop_taken n bytes

pub piece_heard : (b : ℕ) (more : List ℕ) → heard_of (map DueByte (b ∷ more)) ≡ Piece (take 64 (b ∷ more))
piece_heard b more = ap (λ (l : List ℕ). Piece (take 64 (b ∷ l))) (leading_bytes more)

pub piece_left : (b : ℕ) (more : List ℕ) → left_due (map DueByte (b ∷ more)) ≡ map DueByte (drop 64 (b ∷ more))
piece_left b more =
    ap (λ (l : List ℕ). drop (length (take 64 (b ∷ l))) (map DueByte (b ∷ more))) (leading_bytes more)
    ∙ drop-map DueByte (length (take 64 (b ∷ more))) (b ∷ more)
    ∙ ap (map DueByte) (drop_taken 64 (b ∷ more))

-- ---- what is heard of what is due

abbrev pub AreHeard : List Reception → List Due → List Due → Type 0
AreHeard [] dues left = left ≡ dues
AreHeard (one ∷ more) dues left = (one ≡ heard_of dues) × AreHeard more (left_due dues) left

answer_is : (stopped : Bool) (one answer : Reception) → (let r : Result Reception Failed = Ok answer in r) ≡ (if stopped then Err (record {}) else Ok one) → answer ≡ one
answer_is true one answer e = absurd (cc)
answer_is false one answer e = cc

one_call : (plan : Plan) (calls : List Call) (call : Call) (more : List Reception) (left : List Due) → call ≡ answered plan calls call → AreHeard more (due_after call (due_by plan.fed calls)) left
    → AreHeard (heard_by call ++ more) (due_by plan.fed calls) left
one_call plan calls (Attach journal port answer) more left e rest = rest
one_call plan calls (Size answer) more left e rest = rest
one_call plan calls (Read at room answer) more left e rest = rest
one_call plan calls (Write at bytes outcome) more left e rest = rest
one_call plan calls (Sync outcome) more left e rest = rest
one_call plan calls (Listen (Ok answer)) more left e rest =
    let one : Reception = heard_of (due_by plan.fed calls) in
    let same : Ok answer ≡ unless_stopped calls one = cc in
    (answer_is (is_some (state_of calls).left) one answer same, rest)
one_call plan calls (Listen (Err failed)) more left e rest = rest
one_call plan calls (Speak bytes outcome) more left e rest = rest
one_call plan calls Restart more left e rest = rest

pub are_heard : (plan : Plan) (calls part : List Call) → EachFedBy (length calls) plan.fed → EachAnswered plan calls part → AreHeard (answers_in part) (due_by plan.fed calls) (due_by plan.fed (calls ++ part))
are_heard plan calls [] fed each = ap (due_by plan.fed) (append-nil calls)
are_heard plan calls (call ∷ part) fed each =
    let now : List Call = calls ++ call ∷ [] in
    let longer : length calls ≤ length now = omega (arith, length-append calls (call ∷ [])) in
    let on : AreHeard (answers_in part) (due_by plan.fed now) (due_by plan.fed (now ++ part)) = are_heard plan now part (fed_later plan.fed (length calls) (length now) longer fed) each.1 in
    one_call plan calls call (answers_in part) (due_by plan.fed (calls ++ call ∷ part)) each.0
    (subst (λ (l : List Due). AreHeard (answers_in part) l (due_by plan.fed (calls ++ call ∷ part))) (sym (due_by-push plan.fed calls call fed))
    (subst (λ (l : List Call). AreHeard (answers_in part) (due_by plan.fed now) (due_by plan.fed l)) (append_assoc calls (call ∷ []) part) on))
