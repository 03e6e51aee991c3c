-- The stops within the functions of a machine.
use Rattle.std.proofs.Common.{◌≡◌, inr, ℕ, Bool, true, false, List, [], ◌∷◌, ◌++◌, refl, sym, ◌∙◌, ap, subst, append-nil, Option, Some, Result, OnOk}
use Rattle.std.specs.List.{flat_map}
use Rattle.dex_line.specs.FrameShapes.{FrameShape, Bad}
use Rattle.dex_line.specs.FrameSpelling.{spelling}
use Rattle.dex_line.specs.Scanning.{quieted}
use Rattle.dex_handshake.specs.LineRun.{load_of, said_of}
use Rattle.dex_handshake.specs.LineTable.{Line, LineStep, Finished, gives, hears, quiets, turn_of}
use Rattle.dex_handshake.specs.Sound.{AreSaid}
use Rattle.dsd_record.specs.Choices.{Chooser}
use Rattle.dsd_station.specs.Stops.{then, weaken}
use Rattle.dsd_station.specs.Told.{EachStop, Told}
use Rattle.dsd_station.specs.declared.call.Reception.{Reception}
use Rattle.dsd_journal.specs.Headers.{IsHeader}
use Rattle.dsd_journal.specs.Journals.{Rests}
use Rattle.dsd_journal.specs.declared.entry.Entry.{Entry}
use Rattle.dsd_end.specs.EndSteps.{HasDone, Says, StepsTo}
use Rattle.own_turn.specs.OwnTurn.{Desk, Turned, sets_lent}
use Rattle.own_turn.specs.Desks.{GrowsTo}
use Rattle.dsd_end.specs.PollStep.{Done, HearsFrame, bytes_of, nothing, stepped}
use Rattle.dsd_end.specs.RunSoFar.{ComesTo, IsHeardAs, LeavesHearing, LeavesPushing, LeavesRun, LeavesRuns}
use Rattle.dsd_end.specs.SoFar.{CarriesText, MayGoOut}
use Rattle.dsd_end.specs.Standings.{Standing, has_ended, with_begun, with_line}
use Rattle.dex_handshake.specs.Sound.{IsSound}
use Rattle.dsd_end.proofs.RunsComing.{comes_begun, comes_frame, comes_row, comes_same, quiet_soundly, row_soundly, turned_soundly}
use Rattle.dsd_end.proofs.RunsLeft.{stops_grown, stops_said, stops_still}
use Rattle.dsd_end.proofs.StepsGoing.{line_at_turn, on_ok}

module _ (chooser : Chooser) (first : List Entry) (before : List ℕ) (heard : List Reception) (left : List ℕ) (standing : Standing) (old : Told)
    (c : ComesTo chooser first before heard left standing old.now.gone) where
  -- an own turn that failed, or was made
  pub turn_stops : (text : List ℕ) (entries : List Entry) (new : Told) → turn_of standing.line ≡ Some text → standing.desk.entries ≡ entries
      → EachStop old new (λ image out. GrowsTo standing.header chooser (sets_lent text) entries image × (out ≡ old.now.gone)) → EachStop old new (LeavesRun standing.header chooser first before heard)
  turn_stops text entries new some same stops =
      let (own, line) = line_at_turn standing.line text some in
      stops_grown chooser first before heard standing old.now.gone left c own text line old new refl
      (weaken (λ image out. GrowsTo standing.header chooser (sets_lent text) standing.desk.entries image × (out ≡ old.now.gone)) stops
      (λ image out k. (subst (λ (l : List Entry). GrowsTo standing.header chooser (sets_lent text) l image) (sym same) k.0, k.1)))

  -- and then its load is given
  pub act_stops : IsHeader standing.header → (text load : List ℕ) (frames : List FrameShape) (desk : Desk) (entries : List Entry) (went : Bool) (mid new : Told) → turn_of standing.line ≡ Some text → frames ≡ load_of load → standing.desk.entries ≡ entries
      → Turned standing.header chooser standing.desk text desk load → EachStop old mid (λ image out. GrowsTo standing.header chooser (sets_lent text) entries image × (out ≡ old.now.gone))
      → mid.now.gone ≡ old.now.gone → Rests standing.header desk.entries mid → Says (flat_map spelling (said_of (gives standing.line frames).say)) went mid new
      → EachStop old new (LeavesRun standing.header chooser first before heard)
  act_stops titled text load frames desk entries went mid new some is same turned stops still rests says =
      let (own, line) = line_at_turn standing.line text some in
      let sound : IsSound standing.header.own (MayGoOut standing.desk.entries) (CarriesText c.past) (Finished own text) =
      subst (IsSound standing.header.own (MayGoOut standing.desk.entries) (CarriesText c.past)) line c.so_far.line in
      let there : ComesTo chooser first before heard left (record standing { desk = desk }) (old.now.gone ++ []) =
      comes_same chooser first before heard standing old.now.gone left c (nothing (record standing { desk = desk }))
      (turned_soundly chooser standing.header titled standing refl c.past c.so_far.line text load desk sound.1 turned) c.going in
      then (turn_stops text entries mid some same stops)
      (stops_said chooser first before heard (record standing { desk = desk }) (old.now.gone ++ []) left there (gives standing.line frames).say
      (subst (λ (l : Line). AreSaid (MayGoOut desk.entries) (said_of (gives l frames).say)) (sym line) ((tt, tt), tt)) mid new (still ∙ sym (append-nil old.now.gone)) rests says.stops)

  -- the row of a frame says something
  pub row_stops : (piece still : List ℕ) (frame : FrameShape) (step : LineStep) (went : Bool) (mid : Told) → left ≡ piece ++ still → IsHeader standing.header → IsHeardAs piece frame → step ≡ hears standing.line frame
      → Rests standing.header standing.desk.entries old → Says (flat_map spelling (said_of step.say)) went old mid → EachStop old mid (LeavesRun standing.header chooser first before heard)
  row_stops piece still frame step went mid split is heard_as seen rests says =
      stops_said chooser first before heard standing old.now.gone left c step.say
      (subst (λ (x : LineStep). AreSaid (MayGoOut standing.desk.entries) (said_of x.say)) (sym seen) (row_soundly chooser standing.header is standing refl c.past c.so_far.line piece frame heard_as).said)
      old mid refl rests says.stops

  -- the row of a Quiet
  pub quiet_stops : (step : LineStep) (went : Bool) (mid : Told) → IsHeader standing.header → step ≡ quiets standing.line
      → Rests standing.header standing.desk.entries old → Says (flat_map spelling (said_of step.say)) went old mid → EachStop old mid (LeavesRun standing.header chooser first before heard)
  quiet_stops step went mid is seen rests says =
      stops_said chooser first before heard standing old.now.gone left c step.say
      (subst (λ (x : LineStep). AreSaid (MayGoOut standing.desk.entries) (said_of x.say)) (sym seen) (quiet_soundly chooser standing.header is standing refl c.past c.so_far.line).said)
      old mid refl rests says.stops

-- what a step leaves of the run, of the bytes that its station tells
pub comes_stepped : (chooser : Chooser) (first : List Entry) (before : List ℕ) (heard : List Reception) (still : List ℕ) (to : Standing) (old new : Told) (done : Done) → done.standing ≡ to → HasDone done to old new
    → ComesTo chooser first before heard still done.standing (old.now.gone ++ bytes_of done) → ComesTo chooser first before heard still to new.now.gone
comes_stepped chooser first before heard still to old new done comes has c =
    subst (λ (l : List ℕ). ComesTo chooser first before heard still to l) (sym has.gone)
    (subst (λ (s : Standing). ComesTo chooser first before heard still s (old.now.gone ++ bytes_of done)) comes c)

module _ (tells : Type 0) (t : tells) (chooser : Chooser) (standing : Standing) (titled : IsHeader standing.header) where
  -- ---- a frame

  pub hear_leaves : (at : Standing) (frame : FrameShape) (step : LineStep) (old mid new : Told) → has_ended standing.line ≡ false → standing.begun ≡ [] → step ≡ hears standing.line frame
      → at ≡ with_line standing step.next → Rests standing.header standing.desk.entries old → Says (flat_map spelling (said_of step.say)) true old mid → LeavesRuns chooser at mid new
      → LeavesHearing chooser standing frame old new
  hear_leaves at frame step old mid new goes none seen is rests says leaves = λ first before heard piece left heard_as c.
      let same : at ≡ (stepped standing (hears standing.line frame)).standing = is ∙ ap (λ (x : LineStep). with_line standing x.next) seen in
      let row = comes_row chooser first before heard standing titled old.now.gone left piece frame none goes heard_as c in
      let gone : mid.now.gone ≡ old.now.gone ++ bytes_of (stepped standing (hears standing.line frame)) =
      (says.ok refl).0 ∙ ap (λ (x : LineStep). old.now.gone ++ flat_map spelling (said_of x.say)) seen in
      let there : ComesTo chooser first before heard left at mid.now.gone =
      subst (λ (l : List ℕ). ComesTo chooser first before heard left at l) (sym gone)
      (subst (λ (s : Standing). ComesTo chooser first before heard left s (old.now.gone ++ bytes_of (stepped standing (hears standing.line frame)))) (sym same) row) in
      then (row_stops chooser first before heard (piece ++ left) standing old c piece left frame step true mid refl titled heard_as seen rests says)
      (subst (λ (s : Standing). EachStop mid new (LeavesRun s.header chooser first before heard)) is (leaves first before heard left there))

  -- where the row could not be said
  pub hear_fails : (frame : FrameShape) (step : LineStep) (went : Bool) (old mid : Told) → step ≡ hears standing.line frame → Rests standing.header standing.desk.entries old
      → Says (flat_map spelling (said_of step.say)) went old mid → LeavesHearing chooser standing frame old mid
  hear_fails frame step went old mid seen rests says = λ first before heard piece left heard_as c.
      row_stops chooser first before heard (piece ++ left) standing old c piece left frame step went mid refl titled heard_as seen rests says

  -- the run behind a frame
  pub frame_comes : (first : List Entry) (before : List ℕ) (heard : List Reception) (piece left : List ℕ) (frame : FrameShape) (to : Standing) (old new : Told) → has_ended standing.line ≡ false → standing.begun ≡ []
      → IsHeardAs piece frame → ComesTo chooser first before heard (piece ++ left) standing old.now.gone → StepsTo tells (HearsFrame chooser standing frame) to old new
      → ComesTo chooser first before heard left to new.now.gone
  frame_comes first before heard piece left frame to old new goes none heard_as c steps =
      comes_stepped chooser first before heard left to old new steps.done steps.comes (steps.told t)
      (comes_frame chooser first before heard standing titled old.now.gone left piece frame steps.done none goes heard_as steps.step c)

  -- ---- a silence

  -- nothing had begun
  pub unbroken_leaves : (to : Standing) (told : Told) → to ≡ with_begun standing [] → standing.begun ≡ [] → Rests standing.header standing.desk.entries told
      → (first : List Entry) (before : List ℕ) (heard : List Reception) → ComesTo chooser first before heard [] standing told.now.gone
      → EachStop told told (LeavesRun standing.header chooser first before heard) × ComesTo chooser first before heard [] to told.now.gone
  unbroken_leaves to told is none rests first before heard c = (
    stops_still chooser first before heard standing told.now.gone [] c told refl rests,
    subst (λ (s : Standing). ComesTo chooser first before heard [] s told.now.gone) (sym is)
        (comes_begun chooser first before heard standing told.now.gone [] [] [] c (append-nil standing.begun ∙ none)),
  )

  pub broken_leaves : {E : Type 0} (r : Result (Unit {0}) E) (frame : FrameShape) (to : Standing) (old new : Told) → has_ended standing.line ≡ false → Some frame ≡ quieted standing.begun
      → LeavesHearing chooser (with_begun standing []) frame old new → OnOk r (StepsTo tells (HearsFrame chooser (with_begun standing []) frame) to old new)
      → LeavesPushing chooser standing [] r to old new
  broken_leaves r frame to old new goes is leaves steps = λ first before heard c.
      let bad : frame ≡ Bad = broken standing.begun is in
      let there : ComesTo chooser first before heard (standing.begun ++ []) (with_begun standing []) old.now.gone =
      comes_begun chooser first before heard standing old.now.gone [] [] (standing.begun ++ []) c refl in (
        leaves first before heard standing.begun [] (inr bad) there,
        on_ok r (λ (s : StepsTo tells (HearsFrame chooser (with_begun standing []) frame) to old new).
            comes_stepped chooser first before heard [] to old new s.done s.comes (s.told t)
            (comes_frame chooser first before heard (with_begun standing []) titled old.now.gone [] standing.begun frame s.done refl goes (inr bad) s.step there)) steps,
      )
    where
      broken : (begun : List ℕ) → Some frame ≡ quieted begun → frame ≡ Bad
      broken [] e = absurd (cc)
      broken (b ∷ more) e = same frame Bad e
        where
          same : (a b : FrameShape) → (let o : Option FrameShape = Some a in o) ≡ Some b → a ≡ b
          same a b e = cc
