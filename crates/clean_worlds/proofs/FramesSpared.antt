-- An end that hears a frame quietly goes well poll by poll, where nothing armed is left.
use Rattle.std.proofs.Common.{◌≡◌, ◌≢◌, ◌<◌, ◌+◌, inl, inr, ℕ, Bool, true, false, List, [], ◌∷◌, ◌++◌, length, take, drop, map, Option, Some, None, refl, sym, ◌∙◌, ap, subst, append_assoc, append-nil, length-append, arith}
use Rattle.std.specs.Prelude.{not}
use Rattle.std.proofs.lemmas.List.{take-append-drop}
use Rattle.dsd_values.specs.declared.role.Role.{Role}
use Rattle.dsd_record.specs.Choices.{Chooser}
use Rattle.dsd_station.specs.declared.call.Call.{Call}
use Rattle.dsd_station.specs.declared.call.Reception.{Reception}
use Rattle.dsd_station.specs.declared.call.Reception.TheVariants.{Piece}
use Rattle.dsd_station.specs.declared.feeding.Given.{Given}
use Rattle.dsd_station.specs.declared.feeding.Given.TheVariants as given
use Rattle.dsd_station.specs.ByPlan.{due_by}
use Rattle.dsd_station.specs.Heard.{answers_in}
use Rattle.dsd_station.specs.Placed.{EachFedBy}
use Rattle.dsd_station.specs.Planned.{Due, DueByte}
use Rattle.dsd_station.specs.Plans.{with_fed}
use Rattle.dsd_station.specs.Replayed.{State, state_of}
use Rattle.dsd_journal.specs.declared.header.Header.{Header}
use Rattle.dex_line.specs.FrameShapes.{FrameShape}
use Rattle.dex_line.specs.FrameSpelling.{IsBegun, IsSpoken, Spelled, spelling}
use Rattle.dex_line.specs.Hearing.{Hearing, hear_all, hearing}
use Rattle.dex_line.proofs.Heard.{begun_heard}
use Rattle.dex_line.proofs.Spoken.{said}
use Rattle.dsd_end.specs.EndFaults.{IsNoise}
use Rattle.dsd_end.specs.FullTurns.{FrameFull, FramesFull, HearsFull}
use Rattle.dsd_end.specs.PollStep.{Done, Next, scanned}
use Rattle.dsd_end.specs.Polls.{with_flags}
use Rattle.dsd_end.specs.Standings.{Standing, has_ended, with_begun}
use Rattle.dsd_end.specs.declared.fault.TheConstants.{NOISE_BYTES}
use Rattle.clean_sessions.proofs.FramesFed.{all_heard}
use Rattle.cable_world.specs.Diligence.{ComesBy, Follows, Steps}
use Rattle.cable_world.specs.Faulting.{FindsFull}
use Rattle.cable_world.specs.Leaving.{behind_if, state_behind}
use Rattle.cable_world.specs.Living.{CallSo}
use Rattle.cable_world.specs.Noted.{Noted, step_of, steps_of}
use Rattle.cable_world.specs.Obeying.{Hears, HearsIf, IsPolledOut}
use Rattle.cable_world.specs.Scenes.{Scene, Side, due, fed, side, stepped}
use Rattle.cable_world.specs.Steps.{same_role}
use Rattle.clean_worlds.specs.Faultless.{IsSpared, WorksIfRunning}
use Rattle.clean_worlds.specs.WholeFrames.{Attends, GoWell, GoesWell, is_fault}
use Rattle.clean_worlds.proofs.AnswersWell.{Excludes, poll_well}
use Rattle.clean_worlds.proofs.BytesBounded.{next_counts}
use Rattle.clean_worlds.proofs.FrameTaken.{spelled_some}
use Rattle.clean_worlds.proofs.Pieces.{AreHeard, are_heard, piece_heard}
use Rattle.clean_worlds.proofs.PolledOnce.{follows_own, hears_piece, polls_once}
use Rattle.clean_worlds.proofs.PolledOut.{middle_poll}
use Rattle.clean_worlds.proofs.SparedCalls.{calls_well, spared_fed, spared_stepped, works_stepped}
use Rattle.clean_worlds.proofs.Stepped.{bytes_due, bytes_fed, fed_own, not_busy, not_idle}

-- ---- one piece

module _ (chooser : Chooser) (frame : FrameShape) (spoken : IsSpoken frame) (standing : Standing) where
  -- the journal has room in the own turn that comes with the frame
  abbrev pub FindsPlace : Type 0
  FindsPlace = (n : ℕ) → FrameFull chooser standing frame n → ⊥

  -- a piece that completes nothing makes no turn
  middle_place : (front piece : List ℕ) (b : ℕ) (more : List ℕ) → spelling frame ≡ (front ++ piece) ++ b ∷ more → standing.begun ≡ front → (n : ℕ) → HearsFull chooser standing (Piece piece) n → ⊥
  middle_place front piece b more whole begun n full =
      let is_begun : IsBegun (front ++ piece) = (frame, b, more, subst (Spelled frame) whole (said frame spoken)) in
      let heard : scanned standing piece ≡ hearing (front ++ piece) [] = ap (λ (l : List ℕ). hear_all (hearing l []) piece) begun ∙ begun_heard front piece [] is_begun in
      subst (λ (h : Hearing). FramesFull chooser (with_begun standing []) h.shapes n) heard full

  only_frame : FindsPlace → (n : ℕ) → FramesFull chooser (with_begun standing []) (frame ∷ []) n → ⊥
  only_frame place n (inl full) = place n full
  only_frame place n (inr more) = more.1.1

  -- the last one makes the turn of the frame
  last_place : FindsPlace → (front : List ℕ) (b : ℕ) (more : List ℕ) → spelling frame ≡ front ++ b ∷ more → standing.begun ≡ front → (n : ℕ) → HearsFull chooser standing (Piece (b ∷ more)) n → ⊥
  last_place place front b more whole begun n full =
      let heard : scanned standing (b ∷ more) ≡ hearing [] (frame ∷ []) = ap (λ (l : List ℕ). hear_all (hearing l []) (b ∷ more)) begun ∙ all_heard frame front b more spoken whole in
      only_frame place n (subst (λ (h : Hearing). FramesFull chooser (with_begun standing []) h.shapes n) heard full)

  by_rest : FindsPlace → (front rest piece after : List ℕ) → rest ≡ piece ++ after → rest ≢ [] → spelling frame ≡ front ++ rest → standing.begun ≡ front → (n : ℕ) → HearsFull chooser standing (Piece piece) n → ⊥
  by_rest place front rest piece (b ∷ more) parted some whole begun n full =
      middle_place front piece b more (whole ∙ ap (λ (l : List ℕ). front ++ l) parted ∙ sym (append_assoc front piece (b ∷ more))) begun n full
  by_rest place front rest [] [] parted some whole begun n full = absurd (some parted)
  by_rest place front rest (b ∷ more) [] parted some whole begun n full =
      last_place place front b more (whole ∙ ap (λ (l : List ℕ). front ++ l) (parted ∙ append-nil (b ∷ more))) begun n full

  pub piece_place : FindsPlace → (front : List ℕ) (b : ℕ) (more : List ℕ) → spelling frame ≡ front ++ b ∷ more → standing.begun ≡ front → (n : ℕ) → HearsFull chooser standing (Piece (take 64 (b ∷ more))) n → ⊥
  piece_place place front b more whole begun n full =
      by_rest place front (b ∷ more) (take 64 (b ∷ more)) (drop 64 (b ∷ more)) (sym (take-append-drop 64 (b ∷ more))) (λ none. absurd (cc)) whole begun n full

-- what the poll found full is what was due
full_piece : (its : Side) (part : List Call) (chooser : Chooser) (standing : Standing) (b : ℕ) (more : List ℕ) (n : ℕ) → due its ≡ map DueByte (b ∷ more)
    → AreHeard (answers_in part) (due its) (due_by its.log.plan.fed (its.log.calls ++ part)) → (f : FindsFull chooser standing part n) → f.heard ≡ Piece (take 64 (b ∷ more))
full_piece its part chooser standing b more n some are f =
    let left : List Due = due_by its.log.plan.fed (its.log.calls ++ part) in
    let (is, rest) : AreHeard (f.heard ∷ []) (map DueByte (b ∷ more)) left =
    subst (λ (l : List Due). AreHeard (f.heard ∷ []) l left) some (subst (λ (l : List Reception). AreHeard l (due its) left) f.listened are) in
    is ∙ piece_heard b more

-- ---- one poll

taken_less : (bytes : List ℕ) → length (take 64 bytes) + length (drop 64 bytes) ≡ length bytes
taken_less bytes = sym (length-append (take 64 bytes) (drop 64 bytes)) ∙ ap length (take-append-drop 64 bytes)

module _ (its : Side) (part : List Call) (chooser : Chooser) (frame : FrameShape) (spoken : IsSpoken frame) (standing : Standing) (front : List ℕ) (b : ℕ) (more : List ℕ) where
  pub excluded : spelling frame ≡ front ++ b ∷ more → standing.begun ≡ front → standing.first ≡ false → EachFedBy (length its.log.calls) its.log.plan.fed → due its ≡ map DueByte (b ∷ more)
      → AreHeard (answers_in part) (due its) (due_by its.log.plan.fed (its.log.calls ++ part)) → standing.heard + length (b ∷ more) < NOISE_BYTES → FindsPlace chooser frame spoken standing → Excludes chooser standing part
  excluded whole begun later fed some are quiet place = record { full = full; noise = noise }
    where
      full : (n : ℕ) → FindsFull chooser standing part n → ⊥
      full n f =
          piece_place chooser frame spoken standing place front b more whole begun n
          (subst (λ (r : Reception). HearsFull chooser standing r n) (full_piece its part chooser standing b more n some are f) f.full)

      noise : (last : Standing) (count : ℕ) (done : Done) → IsNoise last count → Steps chooser standing part done → done.standing ≡ with_flags last false false → ⊥
      noise last count done n steps same =
          let piece : List ℕ = take 64 (b ∷ more) in
          let hears = hears_piece chooser standing its part b more done later fed some are steps in
          let counts = next_counts chooser standing (Some (Piece piece)) done hears.next in
          let last_heard : done.standing.heard ≡ last.heard = ap (λ (s : Standing). s.heard) same in
          let is_count = n.heard in
          let many = n.many in
          let long = length-append piece [] in
          let less = taken_less (b ∷ more) in
          omega (arith, counts, last_heard, is_count, many, long, less, quiet)

-- ---- all of them

-- They go well, and nothing armed is left behind them.
pub record GoesSpared (role : Role) (noted : List Noted) (next : Scene) : Type 0 where
  pub well : GoWell noted
  pub spared : IsSpared (side next role).log
  pub works : WorksIfRunning (side next role)

module _ (role : Role) (chooser : Chooser) (header : Header) (frame : FrameShape) (spoken : IsSpoken frame) where
  -- nothing more is due
  at_end : (noted : List Noted) (scene next : Scene) → due (side scene role) ≡ [] → IsSpared (side scene role).log → (state_of (side scene role).log.calls).left ≡ None → IsPolledOut role scene (steps_of noted) next
      → GoesSpared role noted next
  at_end [] scene next none spared works out = record {
    well = tt;
    spared = subst (λ (s : Scene). IsSpared (side s role).log) (sym out.1) spared;
    works = subst (λ (s : Scene). WorksIfRunning (side s role)) (sym out.1) (λ runs. works);
  }
  at_end (one ∷ noted) scene next none spared works out = absurd (not_busy (side scene role) none out.0)

  abbrev Rests : List Noted → Type 0
  Rests noted =
      (state : State) (front rest : List ℕ) (standing : Standing) (scene next : Scene) (last : Option Standing) → spelling frame ≡ front ++ rest → rest ≢ [] → standing.begun ≡ front → standing.first ≡ false
      → has_ended standing.line ≡ false → (side scene role).runs ≡ true → EachFedBy (length (side scene role).log.calls) (side scene role).log.plan.fed → due (side scene role) ≡ map DueByte rest
      → IsPolledOut role scene (steps_of noted) next → ComesBy role chooser header state (Some standing) noted last → CallSo (steps_of noted) → IsSpared (side scene role).log
      → (state_of (side scene role).log.calls).left ≡ None → standing.heard + length rest < NOISE_BYTES → FindsPlace chooser frame spoken standing → GoesSpared role noted next

  -- what comes behind a piece: the end of the frame, or more of it
  behind : (noted : List Noted) (state : State) (front piece after : List ℕ) (standing : Standing) (done : Done) (new next : Scene) (last : Option Standing) → Rests noted → spelling frame ≡ (front ++ piece) ++ after
      → standing.begun ≡ front → standing.first ≡ false → has_ended standing.line ≡ false → Next chooser standing (Some (Piece piece)) done → (side new role).runs ≡ not (has_ended done.standing.line)
      → EachFedBy (length (side new role).log.calls) (side new role).log.plan.fed → due (side new role) ≡ map DueByte after → IsPolledOut role new (steps_of noted) next
      → ComesBy role chooser header state (Some done.standing) noted last → CallSo (steps_of noted) → IsSpared (side new role).log → (state_of (side new role).log.calls).left ≡ None
      → standing.heard + (length piece + length after) < NOISE_BYTES → FindsPlace chooser frame spoken standing → GoesSpared role noted next
  behind noted state front piece [] standing done new next last rests whole begun later runs polls on fed left out comes calls spared works quiet place = at_end noted new next left spared works out
  behind noted state front piece (b ∷ more) standing done new next last rests whole begun later runs polls on fed left out comes calls spared works quiet place =
      let mid : Standing = record standing { begun = front ++ piece; heard = standing.heard + length piece } in
      let silent : done.standing ≡ mid = ap (λ (d : Done). d.standing) (middle_poll chooser frame front piece b more standing done spoken whole begun later runs polls) in
      let goes : (side new role).runs ≡ true = on ∙ ap (λ (s : Standing). not (has_ended s.line)) silent ∙ ap not runs in
      rests state (front ++ piece) (b ∷ more) mid new next last whole (λ none. absurd (cc)) refl later runs goes fed left out
      (subst (λ (s : Standing). ComesBy role chooser header state (Some s) noted last) silent comes) calls spared works (omega (arith, quiet)) place

  rest_spared : (noted : List Noted) → Rests noted
  rest_spared noted state front [] standing scene next last whole some begun later runs on fed left out comes calls spared works quiet place = absurd (some refl)
  rest_spared [] state front (b ∷ more) standing scene next last whole some begun later runs on fed left out comes calls spared works quiet place =
      absurd (not_idle (side scene role) (DueByte b) (map DueByte more) on left out.0)
  rest_spared (one ∷ noted) state front (b ∷ more) standing scene next last whole some begun later runs on fed left (busy, makes, out) (after, follows, comes) calls spared works quiet place =
      let its : Side = side scene role in
      let journal : List ℕ = (state_behind state (step_of one)).journal in
      let fine = calls_well its.log one.part works spared makes.answers in
      let own : Follows chooser header journal one.answer one.part (Some standing) after = follows_own role chooser header state one (Some standing) after makes.role follows in
      let well : is_fault one.answer ≡ false =
      poll_well chooser header journal one.answer one.part standing after makes.kind fine.none
      (excluded its one.part chooser frame spoken standing front b more whole begun later fed left (are_heard its.log.plan its.log.calls one.part fed makes.answers) quiet place) own in
      let goes : GoesWell one = record { answer = well; calls = fine.none } in
      let poll = polls_once role chooser header state standing b more scene one after later fed left makes calls.0 goes follows in
      let there : spelling frame ≡ (front ++ take 64 (b ∷ more)) ++ drop 64 (b ∷ more) =
      whole ∙ ap (λ (l : List ℕ). front ++ l) (sym (take-append-drop 64 (b ∷ more))) ∙ sym (append_assoc front (take 64 (b ∷ more)) (drop 64 (b ∷ more))) in
      let then_comes = subst (λ (s : Option Standing). ComesBy role chooser header (behind_if (same_role role one.role) state (step_of one)) s noted last) poll.stands comes in
      let less = taken_less (b ∷ more) in
      let rest = behind noted (behind_if (same_role role one.role) state (step_of one)) front (take 64 (b ∷ more)) (drop 64 (b ∷ more)) standing poll.done (stepped scene (step_of one)) next last
      (λ st f r s c n l. rest_spared noted st f r s c n l) there begun later runs poll.next poll.runs poll.fed poll.left out then_comes calls.1 (spared_stepped role scene (step_of one) makes.role spared)
      (works_stepped role scene (step_of one) makes.role fine) (omega (arith, less, quiet)) place in
      record { well = (goes, rest.well); spared = rest.spared; works = rest.works }

  -- the whole frame
  pub frame_spared : (standing : Standing) (scene : Scene) → Attends header standing (side scene role) → has_ended standing.line ≡ false → (noted : List Noted) (state : State) (next : Scene) (last : Option Standing)
      → Hears role (given.Bytes (spelling frame)) scene (steps_of noted) next → ComesBy role chooser header state (Some standing) noted last → CallSo (steps_of noted) → IsSpared (side scene role).log
      → WorksIfRunning (side scene role) → standing.heard + length (spelling frame) < NOISE_BYTES → FindsPlace chooser frame spoken standing → GoesSpared role noted next
  frame_spared standing scene attends goes noted state next last hears comes calls spared works quiet place =
      let what : Given = given.Bytes (spelling frame) in
      let runs : (side scene role).runs ≡ true = attends.runs ∙ ap not goes in
      let out : IsPolledOut role (fed scene role what) (steps_of noted) next = subst (λ (b : Bool). HearsIf b role what scene (steps_of noted) next) runs hears in
      let there : side (fed scene role what) role ≡ record (side scene role) { log = with_fed (side scene role).log what } = fed_own role scene what in
      rest_spared noted state [] (spelling frame) standing (fed scene role what) next last refl (spelled_some frame spoken) attends.calm.none attends.calm.later goes (ap (λ (s : Side). s.runs) there ∙ runs)
      (subst (λ (s : Side). EachFedBy (length s.log.calls) s.log.plan.fed) (sym there) (bytes_fed (side scene role) what attends.fed))
      (ap due there ∙ bytes_due (side scene role) (spelling frame) attends.taken) out comes calls
      (subst (λ (s : Side). IsSpared s.log) (sym there) (spared_fed (side scene role).log what spared)) (subst (λ (s : Side). (state_of s.log.calls).left ≡ None) (sym there) (works runs)) quiet place
