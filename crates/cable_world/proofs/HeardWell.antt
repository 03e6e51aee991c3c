-- What is kept while a world goes on: what one end hears was spoken whole by the other.
use Rattle.std.proofs.Common.{◌≡◌, ℕ, ◌≤◌, Bool, true, false, List, [], ◌∷◌, ◌++◌, length, refl, sym, ◌∙◌, ap, subst, arith, append_assoc, append-nil, length-append}
use Rattle.std.specs.Prelude.{⊤}
use Rattle.std.specs.List.{concat}
use Rattle.dsd_values.specs.declared.role.Role.{Role}
use Rattle.dsd_station.specs.declared.call.Call.{Call}
use Rattle.dsd_station.specs.declared.feeding.Fed.{Fed}
use Rattle.dsd_station.specs.declared.feeding.Given.{Given}
use Rattle.dsd_station.specs.declared.feeding.Given.TheVariants as given
use Rattle.dsd_station.specs.ByPlan.{EachAnswered, due_by}
use Rattle.dsd_station.specs.Heard.{answers_in}
use Rattle.dsd_station.specs.Logged.{Log}
use Rattle.dsd_station.specs.Placed.{EachFedBy}
use Rattle.dsd_station.specs.Planned.{Due, Plan, dues_of}
use Rattle.dsd_station.specs.Plans.{after_restart, with_fed}
use Rattle.dsd_station.specs.Replayed.{}
use Rattle.dsd_station.proofs.Planning.{due_by-fed, due_by_none, fed_later, fed_more}
use Rattle.dex_line.specs.FrameShapes.{FrameShape}
use Rattle.dex_line.specs.FrameSpelling.{IsSpoken, spelling}
use Rattle.cable_world.specs.Delivering.{AreDelivered, AreDeliveries, IsDelivered, WentOut}
use Rattle.dsd_end.specs.Runs.{Run, bytes_heard}
use Rattle.cable_world.proofs.Deliveries.{front_delivered}
use Rattle.cable_world.specs.Living.{Parts, parts_of, with_part}
use Rattle.cable_world.specs.Scenes.{Scene, Side, all_played, due, sent_to, side, side_stepped}
use Rattle.cable_world.specs.Steps.{WorldStep, frames_in, other}
use Rattle.cable_world.proofs.RunFrames.{frames_more}
use Rattle.cable_world.proofs.Taking.{all_played_calls, all_played_plan, answers_more, bytes_more, due_bytes, due_bytes-append, due_bytes-bytes, due_bytes-quiet, part_heard}

-- a frame that went out whole in one of these runs
abbrev pub IsWhole : List Run → List ℕ → Type 0
IsWhole others bytes = (frame : FrameShape) × IsSpoken frame × (bytes ≡ spelling frame) × WentOut others frame

abbrev pub AreWhole : List Run → List (List ℕ) → Type 0
AreWhole others [] = ⊤
AreWhole others (bytes ∷ more) = IsWhole others bytes × AreWhole others more

pub whole_both : (others : List Run) (a b : List (List ℕ)) → AreWhole others a → AreWhole others b → AreWhole others (a ++ b)
whole_both others [] b x y = y
whole_both others (f ∷ a) b x y = (x.0, whole_both others a b x.1 y)

pub whole_front : (others : List Run) (a b : List (List ℕ)) → AreWhole others (a ++ b) → AreWhole others a × AreWhole others b
whole_front others [] b x = (tt, x)
whole_front others (f ∷ a) b x = let (l, r) = whole_front others a b x.1 in ((x.0, l), r)

-- each frame that waits for this end is one
abbrev pub WaitWhole : Role → List Run → List (Role × List ℕ) → Type 0
WaitWhole role others [] = ⊤
WaitWhole role others (one ∷ more) = (one.0 ≡ role → IsWhole others one.1) × WaitWhole role others more

pub wait_both : (role : Role) (others : List Run) (a b : List (Role × List ℕ)) → WaitWhole role others a → WaitWhole role others b → WaitWhole role others (a ++ b)
wait_both role others [] b x y = y
wait_both role others (f ∷ a) b x y = (x.0, wait_both role others a b x.1 y)

pub wait_sent : (role : Role) (others : List Run) (frames : List (List ℕ)) → AreWhole others frames → WaitWhole role others (sent_to role frames)
wait_sent role others [] x = tt
wait_sent role others (f ∷ frames) x = (λ same. x.0, wait_sent role others frames x.1)

pub wait_other : (role to : Role) (others : List Run) (frames : List (List ℕ)) → (to ≡ role → ⊥) → WaitWhole role others (sent_to to frames)
wait_other role to others [] not = tt
wait_other role to others (f ∷ frames) not = (λ same. absurd (not same), wait_other role to others frames not)

-- what was heard in the run and what is still due are together frames that were delivered
abbrev pub Going : List Run → List ℕ → Side → Type 0
Going others h its = (items : List (List ℕ)) × AreDelivered others items × (concat items ≡ h ++ due_bytes (due its))

-- so far this end has heard these bytes in its run
pub record FineOf (role : Role) (others : List Run) (h : List ℕ) (its : Side) (spoken : List (List ℕ)) (waiting : List (Role × List ℕ)) : Type 0 where
  pub fed : EachFedBy (length its.log.calls) its.log.plan.fed
  pub whole : AreWhole others spoken
  pub waits : WaitWhole role others waiting
  pub heard : AreDeliveries others h
  pub going : its.runs ≡ true → Going others h its

abbrev pub Fine : Role → List Run → List ℕ → Scene → Type 0
Fine role others h scene = FineOf role others h (side scene role) (side scene (other role)).spoken scene.waiting

pub going_heard : (others : List Run) (h : List ℕ) (its : Side) → Going others h its → AreDeliveries others h
going_heard others h its (items, each, joined) = front_delivered others items h (due_bytes (due its)) each joined

played_fed : (log : Log) (part : List Call) → EachFedBy (length log.calls) log.plan.fed → EachFedBy (length (all_played log part).calls) (all_played log part).plan.fed
played_fed log part fed =
    let longer : length log.calls ≤ length (log.calls ++ part) = omega (arith, length-append log.calls part) in
    let on : EachFedBy (length (log.calls ++ part)) log.plan.fed = fed_later log.plan.fed (length log.calls) (length (log.calls ++ part)) longer fed in
    let calls : EachFedBy (length (all_played log part).calls) log.plan.fed = subst (λ (l : List Call). EachFedBy (length l) log.plan.fed) (sym (all_played_calls log part)) on in
    subst (λ (p : Plan). EachFedBy (length (all_played log part).calls) p.fed) (sym (all_played_plan log part)) calls

played_due : (log : Log) (part : List Call) → due_by (all_played log part).plan.fed (all_played log part).calls ≡ due_by log.plan.fed (log.calls ++ part)
played_due log part =
    ap (λ (p : Plan). due_by p.fed (all_played log part).calls) (all_played_plan log part) ∙ ap (λ (l : List Call). due_by log.plan.fed l) (all_played_calls log part)

-- ---- a poll of this end

abbrev pub heard_by_part : WorldStep → List ℕ
heard_by_part step = bytes_heard (answers_in step.part)

pub own_going : (others : List Run) (h : List ℕ) (its : Side) (step : WorldStep) → EachFedBy (length its.log.calls) its.log.plan.fed → EachAnswered its.log.plan its.log.calls step.part
    → Going others h its → Going others (h ++ heard_by_part step) (side_stepped its step)
own_going others h its step fed each (items, are, joined) =
    let new : List ℕ = heard_by_part step in
    let left : List ℕ = due_bytes (due_by its.log.plan.fed (its.log.calls ++ step.part)) in
    let all : new ++ left ≡ due_bytes (due its) = part_heard its.log.plan its.log.calls step.part fed each in
    (items, are, joined ∙ ap (λ (l : List ℕ). h ++ l) (sym all) ∙ sym (append_assoc h new left) ∙ ap (λ (l : List Due). (h ++ new) ++ due_bytes l) (sym (played_due its.log step.part)))

pub own_poll : (role : Role) (others : List Run) (h : List ℕ) (its : Side) (step : WorldStep) (spoken : List (List ℕ)) (waiting : List (Role × List ℕ))
    → EachAnswered its.log.plan its.log.calls step.part → its.runs ≡ true → (other role ≡ role → ⊥)
    → FineOf role others h its spoken waiting
    → FineOf role others (h ++ heard_by_part step) (side_stepped its step) spoken (waiting ++ sent_to (other role) (frames_in step.part))
own_poll role others h its step spoken waiting each runs not fine =
    let go : Going others (h ++ heard_by_part step) (side_stepped its step) = own_going others h its step fine.fed each (fine.going runs) in
    record {
      fed = played_fed its.log step.part fine.fed;
      whole = fine.whole;
      waits = wait_both role others waiting (sent_to (other role) (frames_in step.part)) fine.waits (wait_other role (other role) others (frames_in step.part) not);
      heard = going_heard others (h ++ heard_by_part step) (side_stepped its step) go;
      going = λ on. go;
    }

-- ---- a step of the other end

pub other_step : (role : Role) (others : List Run) (h : List ℕ) (its : Side) (step : WorldStep) (spoken : List (List ℕ)) (waiting : List (Role × List ℕ))
    → AreWhole others (frames_in step.part)
    → FineOf role others h its spoken waiting → FineOf role others h its (spoken ++ frames_in step.part) (waiting ++ sent_to role (frames_in step.part))
other_step role others h its step spoken waiting frames fine = record {
  fed = fine.fed;
  whole = whole_both others spoken (frames_in step.part) fine.whole frames;
  waits = wait_both role others waiting (sent_to role (frames_in step.part)) fine.waits (wait_sent role others (frames_in step.part) frames);
  heard = fine.heard;
  going = fine.going;
}

-- ---- an opening of this end, behind the restart, after which nothing is due

nothing_both : (a b : List ℕ) → a ++ b ≡ [] → a ≡ []
nothing_both [] b e = refl
nothing_both (x ∷ a) b e = absurd (cc)

pub opening_hears_nothing : (its : Side) (step : WorldStep) → its.log.plan.fed ≡ [] → EachAnswered its.log.plan its.log.calls step.part → heard_by_part step ≡ []
opening_hears_nothing its step none each =
    let fed : EachFedBy (length its.log.calls) its.log.plan.fed = subst (EachFedBy (length its.log.calls)) (sym none) tt in
    let nothing : due_bytes (due its) ≡ [] = ap (λ (l : List Fed). due_bytes (due_by l its.log.calls)) none ∙ ap due_bytes (sym (due_by_none its.log.calls)) in
    nothing_both (heard_by_part step) (due_bytes (due_by its.log.plan.fed (its.log.calls ++ step.part))) (part_heard its.log.plan its.log.calls step.part fed each ∙ nothing)

pub nothing_delivered : (others : List Run) → AreDeliveries others []
nothing_delivered others = front_delivered others [] [] [] tt refl

opening_going : (others : List Run) (its : Side) (step : WorldStep) → its.log.plan.fed ≡ [] → EachAnswered its.log.plan its.log.calls step.part → Going others (heard_by_part step) (side_stepped its step)
opening_going others its step none each =
    let fed : EachFedBy (length its.log.calls) its.log.plan.fed = subst (EachFedBy (length its.log.calls)) (sym none) tt in
    let nothing : due_bytes (due its) ≡ [] = ap (λ (l : List Fed). due_bytes (due_by l its.log.calls)) none ∙ ap due_bytes (sym (due_by_none its.log.calls)) in
    own_going others [] its step fed each ([], tt, sym nothing)

-- it begins a run
pub own_opening : (role : Role) (others : List Run) (h : List ℕ) (its : Side) (step : WorldStep) (spoken : List (List ℕ)) (waiting : List (Role × List ℕ))
    → EachAnswered its.log.plan its.log.calls step.part → its.log.plan.fed ≡ [] → (other role ≡ role → ⊥)
    → FineOf role others h its spoken waiting
    → FineOf role others (heard_by_part step) (side_stepped its step) spoken (waiting ++ sent_to (other role) (frames_in step.part))
own_opening role others h its step spoken waiting each none not fine =
    let go : Going others (heard_by_part step) (side_stepped its step) = opening_going others its step none each in
    record {
      fed = played_fed its.log step.part fine.fed;
      whole = fine.whole;
      waits = wait_both role others waiting (sent_to (other role) (frames_in step.part)) fine.waits (wait_other role (other role) others (frames_in step.part) not);
      heard = going_heard others (heard_by_part step) (side_stepped its step) go;
      going = λ on. go;
    }

-- it failed
pub own_failed : (role : Role) (others : List Run) (h : List ℕ) (its : Side) (step : WorldStep) (spoken : List (List ℕ)) (waiting : List (Role × List ℕ))
    → EachAnswered its.log.plan its.log.calls step.part → its.log.plan.fed ≡ [] → step.runs ≡ false → (other role ≡ role → ⊥)
    → FineOf role others h its spoken waiting
    → FineOf role others (h ++ heard_by_part step) (side_stepped its step) spoken (waiting ++ sent_to (other role) (frames_in step.part))
own_failed role others h its step spoken waiting each none rests not fine =
    let same : h ≡ h ++ heard_by_part step = sym (append-nil h) ∙ ap (λ (l : List ℕ). h ++ l) (sym (opening_hears_nothing its step none each)) in
    record {
      fed = played_fed its.log step.part fine.fed;
      whole = fine.whole;
      waits = wait_both role others waiting (sent_to (other role) (frames_in step.part)) fine.waits (wait_other role (other role) others (frames_in step.part) not);
      heard = subst (AreDeliveries others) same fine.heard;
      going = λ on. let no : true ≡ false = sym on ∙ rests in absurd (cc);
    }

-- ---- what the world does to a station

pub own_restart : (role : Role) (others : List Run) (h : List ℕ) (its : Side) (spoken : List (List ℕ)) (waiting : List (Role × List ℕ)) → its.runs ≡ false
    → FineOf role others h its spoken waiting → FineOf role others h (record its { log = after_restart its.log }) spoken waiting
own_restart role others h its spoken waiting rests fine = record {
  fed = tt;
  whole = fine.whole;
  waits = fine.waits;
  heard = fine.heard;
  going = λ on. let no : true ≡ false = sym on ∙ rests in absurd (cc);
}

-- bytes that are fed are a delivered frame
abbrev pub Fits : List Run → Given → Type 0
Fits others (given.Bytes bytes) = IsDelivered others bytes
Fits others (given.Quiet times) = ⊤
Fits others given.Unplugged = ⊤

pub delivered_both : (others : List Run) (a b : List (List ℕ)) → AreDelivered others a → AreDelivered others b → AreDelivered others (a ++ b)
delivered_both others [] b x y = y
delivered_both others (f ∷ a) b x y = (x.0, delivered_both others a b x.1 y)

concat_more : (items : List (List ℕ)) (bytes : List ℕ) → concat (items ++ bytes ∷ []) ≡ concat items ++ bytes
concat_more [] bytes = append-nil bytes
concat_more (x ∷ items) bytes = ap (λ (l : List ℕ). x ++ l) (concat_more items bytes) ∙ sym (append_assoc x (concat items) bytes)

-- what is fed is due behind the rest
fed_due : (its : Side) (what : Given) → due_bytes (due (record its { log = with_fed its.log what })) ≡ due_bytes (due its) ++ due_bytes (dues_of what)
fed_due its what =
    ap due_bytes (due_by-fed its.log.plan.fed (record { given = what; at = length its.log.calls }) its.log.calls refl) ∙ due_bytes-append (due its) (dues_of what)

fed_going : (others : List Run) (h : List ℕ) (its : Side) (what : Given) → Fits others what → Going others h its → Going others h (record its { log = with_fed its.log what })
fed_going others h its (given.Bytes bytes) fits (items, are, joined) =
    let old : List ℕ = due_bytes (due its) in (
      items ++ bytes ∷ [],
      delivered_both others items (bytes ∷ []) are (fits, tt),
      concat_more items bytes ∙ ap (λ (l : List ℕ). l ++ bytes) joined ∙ append_assoc h old bytes
          ∙ ap (λ (l : List ℕ). h ++ (old ++ l)) (sym (due_bytes-bytes bytes)) ∙ ap (λ (l : List ℕ). h ++ l) (sym (fed_due its (given.Bytes bytes))),
    )
fed_going others h its (given.Quiet times) fits (items, are, joined) =
    let old : List ℕ = due_bytes (due its) in
    (items, are, joined ∙ ap (λ (l : List ℕ). h ++ l) (sym (append-nil old) ∙ ap (λ (l : List ℕ). old ++ l) (sym (due_bytes-quiet times)) ∙ sym (fed_due its (given.Quiet times))))
fed_going others h its given.Unplugged fits (items, are, joined) =
    let old : List ℕ = due_bytes (due its) in
    (items, are, joined ∙ ap (λ (l : List ℕ). h ++ l) (sym (append-nil old) ∙ sym (fed_due its given.Unplugged)))

pub own_feed : (role : Role) (others : List Run) (h : List ℕ) (its : Side) (what : Given) (spoken : List (List ℕ)) (waiting : List (Role × List ℕ)) → Fits others what
    → FineOf role others h its spoken waiting → FineOf role others h (record its { log = with_fed its.log what }) spoken waiting
own_feed role others h its what spoken waiting fits fine = record {
  fed = fed_more its.log.plan.fed (record { given = what; at = length its.log.calls }) (length its.log.calls) fine.fed (omega arith);
  whole = fine.whole;
  waits = fine.waits;
  heard = fine.heard;
  going = λ on. fed_going others h its what fits (fine.going on);
}

-- ---- what is still to come

-- of the calls of each run: the bytes that it heard are delivered frames
abbrev pub AllHeard : List Run → List (List Call) → Type 0
AllHeard others [] = ⊤
AllHeard others (calls ∷ more) = AreDeliveries others (bytes_heard (answers_in calls)) × AllHeard others more

-- the run that has heard so much ends so, and each run behind it
abbrev pub HeldBy : List Run → List ℕ → Parts → Type 0
HeldBy others h parts = AreDeliveries others (h ++ bytes_heard (answers_in parts.before)) × AllHeard others parts.runs

abbrev pub Held : Role → List Run → List ℕ → List WorldStep → Type 0
Held role others h steps = HeldBy others h (parts_of role steps)

bytes_both : (part before : List Call) → bytes_heard (answers_in (part ++ before)) ≡ bytes_heard (answers_in part) ++ bytes_heard (answers_in before)
bytes_both part before = ap bytes_heard (answers_more part before) ∙ bytes_more (answers_in part) (answers_in before)

pub held_on : (others : List Run) (h : List ℕ) (part : List Call) (parts : Parts) → HeldBy others (h ++ bytes_heard (answers_in part)) parts → HeldBy others h (with_part true false part parts)
held_on others h part parts held =
    let new : List ℕ = bytes_heard (answers_in part) in
    let behind : List ℕ = bytes_heard (answers_in parts.before) in
    (subst (AreDeliveries others) (append_assoc h new behind ∙ ap (λ (l : List ℕ). h ++ l) (sym (bytes_both part parts.before))) held.0, held.1)

pub held_begun : (others : List Run) (h : List ℕ) (part : List Call) (parts : Parts) → AreDeliveries others h → HeldBy others (bytes_heard (answers_in part)) parts → HeldBy others h (with_part true true part parts)
held_begun others h part parts heard held =
    (subst (AreDeliveries others) (sym (append-nil h)) heard, (subst (AreDeliveries others) (sym (bytes_both part parts.before)) held.0, held.1))

-- the frames of the other end's runs, those of the run that goes on and of each behind it, are whole
abbrev pub AllWhole : List Run → List (List Call) → Type 0
AllWhole others [] = ⊤
AllWhole others (calls ∷ more) = AreWhole others (frames_in calls) × AllWhole others more

pub record AheadBy (others : List Run) (goes : Bool) (parts : Parts) : Type 0 where
  pub before : goes ≡ true → AreWhole others (frames_in parts.before)
  pub runs : AllWhole others parts.runs

pub ahead_split : (others : List Run) (part : List Call) (parts : Parts) → AreWhole others (frames_in (part ++ parts.before)) → AreWhole others (frames_in part) × AreWhole others (frames_in parts.before)
ahead_split others part parts whole = whole_front others (frames_in part) (frames_in parts.before) (subst (AreWhole others) (frames_more part parts.before) whole)
