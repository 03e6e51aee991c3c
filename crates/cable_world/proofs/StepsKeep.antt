-- Each step keeps what one end hears to what the other spoke, and so does what a script does between steps.
use Rattle.std.proofs.Common.{◌≡◌, ℕ, Bool, true, false, List, [], ◌∷◌, ◌++◌, refl, sym, ◌∙◌, ap, subst}
use Rattle.dsd_values.specs.declared.role.Role.{Role}
use Rattle.dsd_values.specs.declared.role.Role.TheVariants.{Receiver, Supplier}
use Rattle.dsd_station.specs.declared.call.Call.{Call}
use Rattle.dsd_station.specs.declared.call.Pick.{Pick}
use Rattle.dsd_station.specs.declared.feeding.Given.{Given}
use Rattle.dsd_station.specs.ByPlan.{EachAnswered}
use Rattle.dsd_station.specs.Plans.{with_failure, with_stop}
use Rattle.dsd_end.specs.Runs.{Run}
use Rattle.cable_world.specs.Living.{Parts, parts_of, with_part}
use Rattle.cable_world.proofs.RunFrames.{SpeakFrames}
use Rattle.cable_world.specs.Obeying.{Course, Makes}
use Rattle.cable_world.specs.Scenes.{Scene, fed, restarted, side, stepped, with_log, with_waiting}
use Rattle.cable_world.specs.Steps.{Opening, Poll, StepKind, WorldStep, frames_in, other}
use Rattle.cable_world.proofs.HeardWell.{AheadBy, AreWhole, Fine, Fits, Held, WaitWhole, ahead_split, held_begun, held_on, heard_by_part, other_step, own_failed, own_feed, own_opening, own_poll, own_restart}

module _ (others : List Run) where
  -- ---- where things stand

  -- what holds of the end that hears, and what is to come of the other one
  abbrev pub Stands : Role → List ℕ → Scene → List WorldStep → Type 0
  Stands role h scene steps = Fine role others h scene × AheadBy others (side scene (other role)).runs (parts_of (other role) steps) × SpeakFrames steps

  -- and so the rest is heard well
  abbrev pub Onward : Role → Scene → List WorldStep → Type 0
  Onward role scene rest = (h : List ℕ) → Stands role h scene rest → Held role others h rest

  abbrev pub Keeps : Role → Course → Type 0
  Keeps role course = (scene : Scene) (made : List WorldStep) (next : Scene) (rest : List WorldStep) → course scene made next → Onward role next rest → Onward role scene (made ++ rest)

  pub moved : (role : Role) (h : List ℕ) (scene : Scene) (steps : List WorldStep) (waiting : List (Role × List ℕ)) → WaitWhole role others waiting → Stands role h scene steps → Stands role h (with_waiting scene waiting) steps
  moved Supplier h scene steps waiting waits s = (record { fed = s.0.fed; whole = s.0.whole; waits = waits; heard = s.0.heard; going = s.0.going }, s.1, s.2)
  moved Receiver h scene steps waiting waits s = (record { fed = s.0.fed; whole = s.0.whole; waits = waits; heard = s.0.heard; going = s.0.going }, s.1, s.2)

  pub feeding : (role who : Role) (what : Given) (h : List ℕ) (scene : Scene) (steps : List WorldStep) → (who ≡ role → Fits others what) → Stands role h scene steps → Stands role h (fed scene who what) steps
  feeding Supplier Supplier what h scene steps fits s = (own_feed Supplier others h scene.supplier what scene.receiver.spoken scene.waiting (fits refl) s.0, s.1, s.2)
  feeding Receiver Receiver what h scene steps fits s = (own_feed Receiver others h scene.receiver what scene.supplier.spoken scene.waiting (fits refl) s.0, s.1, s.2)
  feeding Supplier Receiver what h scene steps fits s = (record { fed = s.0.fed; whole = s.0.whole; waits = s.0.waits; heard = s.0.heard; going = s.0.going }, s.1, s.2)
  feeding Receiver Supplier what h scene steps fits s = (record { fed = s.0.fed; whole = s.0.whole; waits = s.0.waits; heard = s.0.heard; going = s.0.going }, s.1, s.2)

  pub restarting : (role who : Role) (h : List ℕ) (scene : Scene) (steps : List WorldStep) → (side scene who).runs ≡ false → Stands role h scene steps → Stands role h (restarted scene who) steps
  restarting Supplier Supplier h scene steps rests s = (own_restart Supplier others h scene.supplier scene.receiver.spoken scene.waiting rests s.0, s.1, s.2)
  restarting Receiver Receiver h scene steps rests s = (own_restart Receiver others h scene.receiver scene.supplier.spoken scene.waiting rests s.0, s.1, s.2)
  restarting Supplier Receiver h scene steps rests s = (record { fed = s.0.fed; whole = s.0.whole; waits = s.0.waits; heard = s.0.heard; going = s.0.going }, s.1, s.2)
  restarting Receiver Supplier h scene steps rests s = (record { fed = s.0.fed; whole = s.0.whole; waits = s.0.waits; heard = s.0.heard; going = s.0.going }, s.1, s.2)

  pub stopping : (role who : Role) (n : ℕ) (pick : Pick) (h : List ℕ) (scene : Scene) (steps : List WorldStep) → Stands role h scene steps → Stands role h (with_log scene who (with_stop (side scene who).log n pick)) steps
  stopping Supplier Supplier n pick h scene steps s = (record { fed = s.0.fed; whole = s.0.whole; waits = s.0.waits; heard = s.0.heard; going = s.0.going }, s.1, s.2)
  stopping Receiver Receiver n pick h scene steps s = (record { fed = s.0.fed; whole = s.0.whole; waits = s.0.waits; heard = s.0.heard; going = s.0.going }, s.1, s.2)
  stopping Supplier Receiver n pick h scene steps s = (record { fed = s.0.fed; whole = s.0.whole; waits = s.0.waits; heard = s.0.heard; going = s.0.going }, s.1, s.2)
  stopping Receiver Supplier n pick h scene steps s = (record { fed = s.0.fed; whole = s.0.whole; waits = s.0.waits; heard = s.0.heard; going = s.0.going }, s.1, s.2)

  pub failing : (role who : Role) (n : ℕ) (h : List ℕ) (scene : Scene) (steps : List WorldStep) → Stands role h scene steps → Stands role h (with_log scene who (with_failure (side scene who).log n)) steps
  failing Supplier Supplier n h scene steps s = (record { fed = s.0.fed; whole = s.0.whole; waits = s.0.waits; heard = s.0.heard; going = s.0.going }, s.1, s.2)
  failing Receiver Receiver n h scene steps s = (record { fed = s.0.fed; whole = s.0.whole; waits = s.0.waits; heard = s.0.heard; going = s.0.going }, s.1, s.2)
  failing Supplier Receiver n h scene steps s = (record { fed = s.0.fed; whole = s.0.whole; waits = s.0.waits; heard = s.0.heard; going = s.0.going }, s.1, s.2)
  failing Receiver Supplier n h scene steps s = (record { fed = s.0.fed; whole = s.0.whole; waits = s.0.waits; heard = s.0.heard; going = s.0.going }, s.1, s.2)

  -- ---- a poll

  abbrev step_of : Role → StepKind → Bool → List Call → WorldStep
  step_of role kind runs part = record { role = role; kind = kind; runs = runs; part = part }

  supplier_other : Receiver ≡ Supplier → ⊥
  supplier_other e = cc

  receiver_other : Supplier ≡ Receiver → ⊥
  receiver_other e = cc

  abbrev Stepping : Role → StepKind → Role → Type 0
  Stepping role kind who = (runs : Bool) (part : List Call) (h : List ℕ) (scene : Scene) (rest : List WorldStep)
      → EachAnswered (side scene who).log.plan (side scene who).log.calls part
      → Onward role (stepped scene (step_of who kind runs part)) rest → Stands role h scene (step_of who kind runs part ∷ rest) → Held role others h (step_of who kind runs part ∷ rest)

  whole_now : (goes : Bool) (part : List Call) (parts : Parts) → goes ≡ true → AheadBy others goes (with_part true false part parts) → AreWhole others (frames_in part) × AreWhole others (frames_in parts.before)
  whole_now goes part parts on ahead = ahead_split others part parts (ahead.before on)

  polling : (role who : Role) (runs : Bool) (part : List Call) (h : List ℕ) (scene : Scene) (rest : List WorldStep)
      → EachAnswered (side scene who).log.plan (side scene who).log.calls part → (side scene who).runs ≡ true
      → Onward role (stepped scene (step_of who Poll runs part)) rest → Stands role h scene (step_of who Poll runs part ∷ rest) → Held role others h (step_of who Poll runs part ∷ rest)
  polling Supplier Supplier runs part h scene rest each on onward (fine, ahead, speak) =
      let step : WorldStep = step_of Supplier Poll runs part in
      let now = own_poll Supplier others h scene.supplier step scene.receiver.spoken scene.waiting each on supplier_other fine in
      held_on others h part (parts_of Supplier rest) (onward (h ++ heard_by_part step) (now, record { before = ahead.before; runs = ahead.runs }, speak.1))
  polling Receiver Receiver runs part h scene rest each on onward (fine, ahead, speak) =
      let step : WorldStep = step_of Receiver Poll runs part in
      let now = own_poll Receiver others h scene.receiver step scene.supplier.spoken scene.waiting each on receiver_other fine in
      held_on others h part (parts_of Receiver rest) (onward (h ++ heard_by_part step) (now, record { before = ahead.before; runs = ahead.runs }, speak.1))
  polling Supplier Receiver runs part h scene rest each on onward (fine, ahead, speak) =
      let step : WorldStep = step_of Receiver Poll runs part in
      let whole = whole_now scene.receiver.runs part (parts_of Receiver rest) on ahead in
      let now = other_step Supplier others h scene.supplier step scene.receiver.spoken scene.waiting whole.0 fine in
      onward h (now, record { before = λ goes. whole.1; runs = ahead.runs }, speak.1)
  polling Receiver Supplier runs part h scene rest each on onward (fine, ahead, speak) =
      let step : WorldStep = step_of Supplier Poll runs part in
      let whole = whole_now scene.supplier.runs part (parts_of Supplier rest) on ahead in
      let now = other_step Receiver others h scene.receiver step scene.supplier.spoken scene.waiting whole.0 fine in
      onward h (now, record { before = λ goes. whole.1; runs = ahead.runs }, speak.1)

  -- ---- an opening

  none_whole : (frames : List (List ℕ)) → frames ≡ [] → AreWhole others frames
  none_whole frames none = subst (AreWhole others) (sym none) tt

  opening : (role who : Role) (runs : Bool) (part : List Call) (h : List ℕ) (scene : Scene) (rest : List WorldStep)
      → EachAnswered (side scene who).log.plan (side scene who).log.calls part → (side scene who).log.plan.fed ≡ []
      → Onward role (stepped scene (step_of who Opening runs part)) rest → Stands role h scene (step_of who Opening runs part ∷ rest) → Held role others h (step_of who Opening runs part ∷ rest)
  opening Supplier Supplier true part h scene rest each none onward (fine, ahead, speak) =
      let step : WorldStep = step_of Supplier Opening true part in
      let now = own_opening Supplier others h scene.supplier step scene.receiver.spoken scene.waiting each none supplier_other fine in
      held_begun others h part (parts_of Supplier rest) fine.heard (onward (heard_by_part step) (now, record { before = ahead.before; runs = ahead.runs }, speak.1))
  opening Receiver Receiver true part h scene rest each none onward (fine, ahead, speak) =
      let step : WorldStep = step_of Receiver Opening true part in
      let now = own_opening Receiver others h scene.receiver step scene.supplier.spoken scene.waiting each none receiver_other fine in
      held_begun others h part (parts_of Receiver rest) fine.heard (onward (heard_by_part step) (now, record { before = ahead.before; runs = ahead.runs }, speak.1))
  opening Supplier Supplier false part h scene rest each none onward (fine, ahead, speak) =
      let step : WorldStep = step_of Supplier Opening false part in
      let now = own_failed Supplier others h scene.supplier step scene.receiver.spoken scene.waiting each none refl supplier_other fine in
      held_on others h part (parts_of Supplier rest) (onward (h ++ heard_by_part step) (now, record { before = ahead.before; runs = ahead.runs }, speak.1))
  opening Receiver Receiver false part h scene rest each none onward (fine, ahead, speak) =
      let step : WorldStep = step_of Receiver Opening false part in
      let now = own_failed Receiver others h scene.receiver step scene.supplier.spoken scene.waiting each none refl receiver_other fine in
      held_on others h part (parts_of Receiver rest) (onward (h ++ heard_by_part step) (now, record { before = ahead.before; runs = ahead.runs }, speak.1))
  opening Supplier Receiver true part h scene rest each none onward (fine, ahead, speak) =
      let step : WorldStep = step_of Receiver Opening true part in
      let whole = ahead_split others part (parts_of Receiver rest) ahead.runs.0 in
      let now = other_step Supplier others h scene.supplier step scene.receiver.spoken scene.waiting whole.0 fine in
      onward h (now, record { before = λ goes. whole.1; runs = ahead.runs.1 }, speak.1)
  opening Receiver Supplier true part h scene rest each none onward (fine, ahead, speak) =
      let step : WorldStep = step_of Supplier Opening true part in
      let whole = ahead_split others part (parts_of Supplier rest) ahead.runs.0 in
      let now = other_step Receiver others h scene.receiver step scene.supplier.spoken scene.waiting whole.0 fine in
      onward h (now, record { before = λ goes. whole.1; runs = ahead.runs.1 }, speak.1)
  opening Supplier Receiver false part h scene rest each none onward (fine, ahead, speak) =
      let step : WorldStep = step_of Receiver Opening false part in
      let now = other_step Supplier others h scene.supplier step scene.receiver.spoken scene.waiting (none_whole (frames_in part) speak.0) fine in
      onward h (now, record { before = λ (goes : false ≡ true). absurd (cc); runs = ahead.runs }, speak.1)
  opening Receiver Supplier false part h scene rest each none onward (fine, ahead, speak) =
      let step : WorldStep = step_of Supplier Opening false part in
      let now = other_step Receiver others h scene.receiver step scene.supplier.spoken scene.waiting (none_whole (frames_in part) speak.0) fine in
      onward h (now, record { before = λ (goes : false ≡ true). absurd (cc); runs = ahead.runs }, speak.1)

  -- a step is what it says it is
  as_said : (who : Role) (kind : StepKind) (step : WorldStep) → step.role ≡ who → step.kind ≡ kind → step_of who kind step.runs step.part ≡ step
  as_said who kind step r k =
      ap (λ (x : Role). step_of x kind step.runs step.part) (sym r) ∙ ap (λ (x : StepKind). step_of step.role x step.runs step.part) (sym k)

  pub poll_on : (role who : Role) (scene : Scene) (step : WorldStep) (h : List ℕ) (rest : List WorldStep) → Makes who Poll scene step → (side scene who).runs ≡ true
      → Onward role (stepped scene step) rest → Stands role h scene (step ∷ rest) → Held role others h (step ∷ rest)
  poll_on role who scene step h rest makes on =
      subst (λ (st : WorldStep). Onward role (stepped scene st) rest → Stands role h scene (st ∷ rest) → Held role others h (st ∷ rest)) (as_said who Poll step makes.role makes.kind)
      (polling role who step.runs step.part h scene rest makes.answers on)

  pub opening_on : (role who : Role) (scene : Scene) (step : WorldStep) (h : List ℕ) (rest : List WorldStep) → Makes who Opening scene step → (side scene who).log.plan.fed ≡ []
      → Onward role (stepped scene step) rest → Stands role h scene (step ∷ rest) → Held role others h (step ∷ rest)
  opening_on role who scene step h rest makes none =
      subst (λ (st : WorldStep). Onward role (stepped scene st) rest → Stands role h scene (st ∷ rest) → Held role others h (st ∷ rest)) (as_said who Opening step makes.role makes.kind)
      (opening role who step.runs step.part h scene rest makes.answers none)
