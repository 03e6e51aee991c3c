-- What an end hears and what its port is still due to give are together what it was due to give.
use Rattle.std.proofs.Common.{◌≡◌, ℕ, zero, suc, ◌≤◌, Bool, true, false, List, [], ◌∷◌, ◌++◌, length, take, drop, map, replicate, refl, sym, ◌∙◌, ap, arith, append_assoc, append-nil, length-append, if◌then◌else◌, Result, Ok, Err}
use Rattle.std.specs.Prelude.{is_some}
use Rattle.dsd_station.specs.declared.failed.Failed.{Failed}
use Rattle.dsd_station.specs.declared.call.Reception.{Reception}
use Rattle.dsd_station.specs.declared.call.Reception.TheVariants.{Piece, Silence, Cut}
use Rattle.dsd_station.specs.declared.call.Call.{Call}
use Rattle.dsd_station.specs.declared.call.Call.TheVariants.{Attach, Size, Read, Write, Sync, Listen, Speak, Restart}
use Rattle.dsd_station.specs.ByPlan.{EachAnswered, answered, due_after, due_by, unless_stopped}
use Rattle.dsd_station.specs.Heard.{answers_in, heard_by}
use Rattle.dsd_station.specs.Logged.{Log, played}
use Rattle.dsd_station.specs.Placed.{EachFedBy}
use Rattle.dsd_station.specs.Planned.{Due, DueByte, DueCut, DueQuiet, Plan, heard_of, leading, left_due}
use Rattle.dsd_station.specs.Replayed.{state_of}
use Rattle.dsd_station.proofs.Planning.{due_by-push, fed_later}
use Rattle.dsd_end.specs.Runs.{bytes_heard}
use Rattle.cable_world.specs.Scenes.{all_played}

-- the bytes among what is due
abbrev pub due_bytes : List Due → List ℕ
due_bytes [] = []
due_bytes (DueByte byte ∷ dues) = byte ∷ due_bytes dues
due_bytes (DueQuiet ∷ dues) = due_bytes dues
due_bytes (DueCut ∷ dues) = due_bytes dues

pub due_bytes-append : (a b : List Due) → due_bytes (a ++ b) ≡ due_bytes a ++ due_bytes b
due_bytes-append [] b = refl
due_bytes-append (DueByte byte ∷ a) b = ap (λ (l : List ℕ). byte ∷ l) (due_bytes-append a b)
due_bytes-append (DueQuiet ∷ a) b = due_bytes-append a b
due_bytes-append (DueCut ∷ a) b = due_bytes-append a b

pub due_bytes-bytes : (bytes : List ℕ) → due_bytes (map DueByte bytes) ≡ bytes
due_bytes-bytes [] = refl
due_bytes-bytes (b ∷ bytes) = ap (λ (l : List ℕ). b ∷ l) (due_bytes-bytes bytes)

pub due_bytes-quiet : (n : ℕ) → due_bytes (replicate n DueQuiet) ≡ []
due_bytes-quiet zero = refl
due_bytes-quiet (suc n) = due_bytes-quiet n

pub bytes_more : (a b : List Reception) → bytes_heard (a ++ b) ≡ bytes_heard a ++ bytes_heard b
bytes_more [] b = refl
bytes_more (Piece bytes ∷ a) b = ap (λ (t : List ℕ). bytes ++ t) (bytes_more a b) ∙ sym (append_assoc bytes (bytes_heard a) (bytes_heard b))
bytes_more (Silence ∷ a) b = bytes_more a b
bytes_more (Cut ∷ a) b = bytes_more a b

pub answers_more : (a b : List Call) → answers_in (a ++ b) ≡ answers_in a ++ answers_in b
answers_more [] b = refl
answers_more (call ∷ a) b = ap (λ (l : List Reception). heard_by call ++ l) (answers_more a b) ∙ sym (append_assoc (heard_by call) (answers_in a) (answers_in b))

-- ---- one call

front_taken : (n : ℕ) (dues : List Due) → take n (leading dues) ++ due_bytes (drop (length (take n (leading dues))) dues) ≡ due_bytes dues
front_taken zero dues = refl
front_taken (suc n) [] = refl
front_taken (suc n) (DueByte byte ∷ dues) = ap (λ (l : List ℕ). byte ∷ l) (front_taken n dues)
front_taken (suc n) (DueQuiet ∷ dues) = refl
front_taken (suc n) (DueCut ∷ dues) = refl

one_answer : (dues : List Due) → bytes_heard (heard_of dues ∷ []) ++ due_bytes (left_due dues) ≡ due_bytes dues
one_answer [] = refl
one_answer (DueByte byte ∷ dues) =
    let all : List Due = DueByte byte ∷ dues in
    let piece : List ℕ = take 64 (leading all) in
    ap (λ (l : List ℕ). l ++ due_bytes (drop (length piece) all)) (append-nil piece) ∙ front_taken 64 all
one_answer (DueQuiet ∷ dues) = refl
one_answer (DueCut ∷ dues) = refl

told : (stopped : Bool) (one : Reception) (result : Result Reception Failed) (dues : List Due) → one ≡ heard_of dues → result ≡ (if stopped then Err (record {}) else Ok one)
    → bytes_heard (heard_by (Listen result)) ++ due_bytes (due_after (Listen result) dues) ≡ due_bytes dues
told true one (Ok answer) dues is e = absurd (cc)
told true one (Err failed) dues is e = refl
told false one (Err failed) dues is e = absurd (cc)
told false one (Ok answer) dues is e =
    let same : answer ≡ heard_of dues = cc in
    ap (λ (a : Reception). bytes_heard (a ∷ []) ++ due_bytes (left_due dues)) same ∙ one_answer dues

one_call : (plan : Plan) (calls : List Call) (call : Call) → call ≡ answered plan calls call
    → bytes_heard (heard_by call) ++ due_bytes (due_after call (due_by plan.fed calls)) ≡ due_bytes (due_by plan.fed calls)
one_call plan calls (Attach journal port answer) e = refl
one_call plan calls (Size answer) e = refl
one_call plan calls (Read at room answer) e = refl
one_call plan calls (Write at bytes outcome) e = refl
one_call plan calls (Sync outcome) e = refl
one_call plan calls (Listen result) e =
    let one : Reception = heard_of (due_by plan.fed calls) in
    let same : result ≡ unless_stopped calls one = cc in
    told (is_some (state_of calls).left) one result (due_by plan.fed calls) refl same
one_call plan calls (Speak bytes outcome) e = refl
one_call plan calls Restart e = refl

-- ---- a part of the record

pub part_heard : (plan : Plan) (calls part : List Call) → EachFedBy (length calls) plan.fed → EachAnswered plan calls part
    → bytes_heard (answers_in part) ++ due_bytes (due_by plan.fed (calls ++ part)) ≡ due_bytes (due_by plan.fed calls)
part_heard plan calls [] fed each = ap (λ (l : List Call). due_bytes (due_by plan.fed l)) (append-nil calls)
part_heard plan calls (call ∷ part) fed each =
    let now : List Call = calls ++ call ∷ [] in
    let longer : length calls ≤ length now = omega (arith, length-append calls (call ∷ [])) in
    let on : bytes_heard (answers_in part) ++ due_bytes (due_by plan.fed (now ++ part)) ≡ due_bytes (due_by plan.fed now) =
    part_heard plan now part (fed_later plan.fed (length calls) (length now) longer fed) each.1 in
    let behind : List ℕ = due_bytes (due_by plan.fed (calls ++ call ∷ part)) in
    ap (λ (l : List ℕ). l ++ behind) (bytes_more (heard_by call) (answers_in part))
    ∙ append_assoc (bytes_heard (heard_by call)) (bytes_heard (answers_in part)) behind
    ∙ ap (λ (l : List Call). bytes_heard (heard_by call) ++ (bytes_heard (answers_in part) ++ due_bytes (due_by plan.fed l))) (sym (append_assoc calls (call ∷ []) part))
    ∙ ap (λ (l : List ℕ). bytes_heard (heard_by call) ++ l) on
    ∙ ap (λ (l : List Due). bytes_heard (heard_by call) ++ due_bytes l) (sym (due_by-push plan.fed calls call fed))
    ∙ one_call plan calls call each.0

pub all_played_calls : (log : Log) (part : List Call) → (all_played log part).calls ≡ log.calls ++ part
all_played_calls log [] = sym (append-nil log.calls)
all_played_calls log (call ∷ part) = all_played_calls (played log call) part ∙ append_assoc log.calls (call ∷ []) part

pub all_played_plan : (log : Log) (part : List Call) → (all_played log part).plan ≡ log.plan
all_played_plan log [] = refl
all_played_plan log (call ∷ part) = all_played_plan (played log call) part
