-- An end that is fed a frame and polled out hears the frame piece by piece.
use Rattle.std.proofs.Common.{◌≡◌, ◌≢◌, ◌+◌, ℕ, Bool, true, false, List, [], ◌∷◌, ◌++◌, length, take, drop, map, Option, Some, refl, sym, ◌∙◌, ap, subst, append_assoc, append-nil}
use Rattle.std.specs.Prelude.{not}
use Rattle.std.specs.List.{flat_map}
use Rattle.std.proofs.lemmas.List.{map-append, take-append-drop}
use Rattle.std.proofs.lemmas.List.Concat.{flat_map-append}
use Rattle.dsd_values.specs.declared.role.Role.{Role}
use Rattle.dsd_record.specs.Choices.{Chooser}
use Rattle.dsd_station.specs.declared.call.Reception.TheVariants.{Piece}
use Rattle.dsd_station.specs.Placed.{EachFedBy}
use Rattle.dsd_station.specs.Planned.{DueByte}
use Rattle.dsd_station.specs.Replayed.{State}
use Rattle.dsd_journal.specs.declared.header.Header.{Header}
use Rattle.dex_line.specs.FrameShapes.{FrameShape}
use Rattle.dex_line.specs.FrameSpelling.{IsBegun, IsSpoken, Spelled, spelling}
use Rattle.dex_line.specs.Hearing.{AreSpoken, Hearing, hear_all, hearing}
use Rattle.dex_line.proofs.Heard.{begun_heard}
use Rattle.dex_line.proofs.Spoken.{said}
use Rattle.dsd_end.specs.PollStep.{Along, Done, HearsFrames, HearsPiece, HearsUnless, Next, PollsAt, behind_piece, bytes_of, joined, nothing, scanned}
use Rattle.dsd_end.specs.Standings.{Standing, has_ended, with_begun}
use Rattle.dsd_end.proofs.LinedPolls.{begun_kept}
use Rattle.dsd_end.proofs.RunsComing.{bytes_joined}
use Rattle.clean_sessions.specs.Feeding.{AreFed, heard_each}
use Rattle.cable_world.specs.Diligence.{ComesBy}
use Rattle.cable_world.specs.Leaving.{behind_if}
use Rattle.cable_world.specs.Living.{CallSo}
use Rattle.cable_world.specs.Noted.{Noted, step_of, steps_of}
use Rattle.cable_world.specs.Obeying.{IsPolledOut}
use Rattle.cable_world.specs.Scenes.{Scene, due, sent_to, side, stepped}
use Rattle.cable_world.specs.Steps.{other, same_role}
use Rattle.clean_worlds.specs.WholeFrames.{GoWell}
use Rattle.clean_worlds.proofs.FramesSaid.{spoken_both}
use Rattle.clean_worlds.proofs.PolledOnce.{PollsOnce, polls_once}
use Rattle.clean_worlds.proofs.Stepped.{not_busy, not_idle, sent_more}

-- ---- a piece that completes nothing

pub middle_poll : (chooser : Chooser) (frame : FrameShape) (front piece : List ℕ) (b : ℕ) (more : List ℕ) (standing : Standing) (done : Done) → IsSpoken frame → spelling frame ≡ (front ++ piece) ++ b ∷ more
    → standing.begun ≡ front → standing.first ≡ false → has_ended standing.line ≡ false → Next chooser standing (Some (Piece piece)) done
    → done ≡ nothing (record standing { begun = front ++ piece; heard = standing.heard + length piece })
middle_poll chooser frame front piece b more standing done spoken whole begun later runs next =
    let is_begun : IsBegun (front ++ piece) = (frame, b, more, subst (Spelled frame) whole (said frame spoken)) in
    let heard : scanned standing piece ≡ hearing (front ++ piece) [] = ap (λ (l : List ℕ). hear_all (hearing l []) piece) begun ∙ begun_heard front piece [] is_begun in
    let (frames, each, e) : HearsPiece chooser standing piece done =
    subst (λ (b : Bool). HearsUnless b chooser standing (Piece piece) done) runs (subst (λ (b : Bool). PollsAt b chooser standing (Some (Piece piece)) done) later next.polls) in
    let none : frames ≡ nothing (with_begun standing []) = subst (λ (h : Hearing). HearsFrames chooser (with_begun standing []) h.shapes frames) heard each in
    e
    ∙ ap (λ (h : Hearing). let d : Done = record frames { standing = behind_piece frames.standing (length piece) h.begun } in d) heard
    ∙ ap (λ (f : Done). let d : Done = record f { standing = behind_piece f.standing (length piece) (front ++ piece) } in d) none
    ∙ ap (λ (l : List ℕ). nothing (record standing { begun = l; heard = standing.heard + length piece })) (sym (begun_kept standing.line (front ++ piece) runs))

-- ---- all pieces

pub record PollsOut (role : Role) (chooser : Chooser) (standing : Standing) (bytes : List ℕ) (scene next : Scene) (last : Option Standing) : Type 0 where
  pub pieces : List (List ℕ)
  pub done : Done
  pub cut : AreFed bytes pieces
  pub polls : Along chooser standing (heard_each pieces) done
  pub stands : last ≡ Some done.standing
  pub runs : (side next role).runs ≡ not (has_ended done.standing.line)
  pub fed : EachFedBy (length (side next role).log.calls) (side next role).log.plan.fed
  pub taken : due (side next role) ≡ []
  pub frames : List FrameShape
  pub spoken : AreSpoken frames
  pub said : flat_map spelling frames ≡ bytes_of done
  pub waits : next.waiting ≡ scene.waiting ++ sent_to (other role) (map spelling frames)
  pub apart : side next (other role) ≡ side scene (other role)

-- one poll, and then the others
polls_on : (role : Role) (chooser : Chooser) (standing : Standing) (b : ℕ) (bytes : List ℕ) (scene new next : Scene) (after last : Option Standing) → (one : PollsOnce role chooser standing (b ∷ bytes) scene new after)
    → PollsOut role chooser one.done.standing (drop 64 (b ∷ bytes)) new next last → PollsOut role chooser standing (b ∷ bytes) scene next last
polls_on role chooser standing b bytes scene new next after last one rest = record {
  pieces = take 64 (b ∷ bytes) ∷ rest.pieces;
  done = joined one.done rest.done;
  cut = ((λ none. absurd (cc)), refl, rest.cut);
  polls = (one.done, rest.done, one.next, rest.polls, refl);
  stands = rest.stands;
  runs = rest.runs;
  fed = rest.fed;
  taken = rest.taken;
  frames = one.frames ++ rest.frames;
  spoken = spoken_both one.frames rest.frames one.spoken rest.spoken;
  said =
      flat_map-append spelling one.frames rest.frames ∙ ap (λ (l : List ℕ). l ++ flat_map spelling rest.frames) one.said
      ∙ ap (λ (l : List ℕ). bytes_of one.done ++ l) rest.said ∙ sym (bytes_joined one.done rest.done);
  waits =
      rest.waits ∙ ap (λ (l : List (Role × List ℕ)). l ++ sent_to (other role) (map spelling rest.frames)) one.waits
      ∙ append_assoc scene.waiting (sent_to (other role) (map spelling one.frames)) (sent_to (other role) (map spelling rest.frames))
      ∙ ap (λ (l : List (Role × List ℕ)). scene.waiting ++ l)
      (sym (sent_more (other role) (map spelling one.frames) (map spelling rest.frames)) ∙ ap (sent_to (other role)) (sym (map-append spelling one.frames rest.frames)));
  apart = rest.apart ∙ one.apart;
}

-- nothing is due
polls_none : (role : Role) (chooser : Chooser) (standing : Standing) (scene : Scene) → (side scene role).runs ≡ not (has_ended standing.line)
    → EachFedBy (length (side scene role).log.calls) (side scene role).log.plan.fed → due (side scene role) ≡ [] → PollsOut role chooser standing [] scene scene (Some standing)
polls_none role chooser standing scene runs fed none = record {
  pieces = [];
  done = nothing standing;
  cut = refl;
  polls = refl;
  stands = refl;
  runs = runs;
  fed = fed;
  taken = none;
  frames = [];
  spoken = tt;
  said = refl;
  waits = sym (append-nil scene.waiting);
  apart = refl;
}

module _ (role : Role) (chooser : Chooser) (header : Header) (frame : FrameShape) (spoken : IsSpoken frame) where
  -- all is taken
  at_end : (noted : List Noted) (state : State) (standing : Standing) (scene next : Scene) (last : Option Standing) → (side scene role).runs ≡ not (has_ended standing.line)
      → EachFedBy (length (side scene role).log.calls) (side scene role).log.plan.fed → due (side scene role) ≡ [] → IsPolledOut role scene (steps_of noted) next
      → ComesBy role chooser header state (Some standing) noted last → PollsOut role chooser standing [] scene next last
  at_end [] state standing scene next last runs fed none out comes =
      subst (λ (s : Scene). PollsOut role chooser standing [] scene s last) (sym out.1) (subst (PollsOut role chooser standing [] scene scene) (sym comes) (polls_none role chooser standing scene runs fed none))
  at_end (one ∷ noted) state standing scene next last runs fed none out comes = absurd (not_busy (side scene role) none out.0)

  -- the rest of a frame that has begun so
  abbrev Rests : List Noted → Type 0
  Rests noted =
      (state : State) (front rest : List ℕ) (standing : Standing) (scene next : Scene) (last : Option Standing) → spelling frame ≡ front ++ rest → rest ≢ [] → standing.begun ≡ front → standing.first ≡ false
      → has_ended standing.line ≡ false → (side scene role).runs ≡ true → EachFedBy (length (side scene role).log.calls) (side scene role).log.plan.fed → due (side scene role) ≡ map DueByte rest
      → IsPolledOut role scene (steps_of noted) next → ComesBy role chooser header state (Some standing) noted last → CallSo (steps_of noted) → GoWell noted → PollsOut role chooser standing rest scene next last

  -- what comes behind a piece: the end of the frame, or more of it
  behind : (noted : List Noted) (state : State) (front piece after : List ℕ) (standing : Standing) (done : Done) (new next : Scene) (last : Option Standing) → Rests noted → spelling frame ≡ (front ++ piece) ++ after
      → standing.begun ≡ front → standing.first ≡ false → has_ended standing.line ≡ false → Next chooser standing (Some (Piece piece)) done → (side new role).runs ≡ not (has_ended done.standing.line)
      → EachFedBy (length (side new role).log.calls) (side new role).log.plan.fed → due (side new role) ≡ map DueByte after → IsPolledOut role new (steps_of noted) next
      → ComesBy role chooser header state (Some done.standing) noted last → CallSo (steps_of noted) → GoWell noted → PollsOut role chooser done.standing after new next last
  behind noted state front piece [] standing done new next last rests whole begun later runs polls on fed left out comes calls well = at_end noted state done.standing new next last on fed left out comes
  behind noted state front piece (b ∷ more) standing done new next last rests whole begun later runs polls on fed left out comes calls well =
      let mid : Standing = record standing { begun = front ++ piece; heard = standing.heard + length piece } in
      let silent : done.standing ≡ mid = ap (λ (d : Done). d.standing) (middle_poll chooser frame front piece b more standing done spoken whole begun later runs polls) in
      let goes : (side new role).runs ≡ true = on ∙ ap (λ (s : Standing). not (has_ended s.line)) silent ∙ ap not runs in
      subst (λ (s : Standing). PollsOut role chooser s (b ∷ more) new next last) (sym silent)
      (rests state (front ++ piece) (b ∷ more) mid new next last whole (λ none. absurd (cc)) refl later runs goes fed left out
      (subst (λ (s : Standing). ComesBy role chooser header state (Some s) noted last) silent comes) calls well)

  polled_rest : (noted : List Noted) → Rests noted
  polled_rest noted state front [] standing scene next last whole some begun later runs on fed left out comes calls well = absurd (some refl)
  polled_rest [] state front (b ∷ more) standing scene next last whole some begun later runs on fed left out comes calls well = absurd (not_idle (side scene role) (DueByte b) (map DueByte more) on left out.0)
  polled_rest (one ∷ noted) state front (b ∷ more) standing scene next last whole some begun later runs on fed left (busy, makes, out) (after, follows, comes) calls well =
      let poll = polls_once role chooser header state standing b more scene one after later fed left makes calls.0 well.0 follows in
      let there : spelling frame ≡ (front ++ take 64 (b ∷ more)) ++ drop 64 (b ∷ more) =
      whole ∙ ap (λ (l : List ℕ). front ++ l) (sym (take-append-drop 64 (b ∷ more))) ∙ sym (append_assoc front (take 64 (b ∷ more)) (drop 64 (b ∷ more))) in
      let then_comes = subst (λ (s : Option Standing). ComesBy role chooser header (behind_if (same_role role one.role) state (step_of one)) s noted last) poll.stands comes in
      polls_on role chooser standing b more scene (stepped scene (step_of one)) next after last poll
      (behind noted (behind_if (same_role role one.role) state (step_of one)) front (take 64 (b ∷ more)) (drop 64 (b ∷ more)) standing poll.done (stepped scene (step_of one)) next last
      (λ st f r s c n l. polled_rest noted st f r s c n l) there begun later runs poll.next poll.runs poll.fed poll.left out then_comes calls.1 well.1)

  pub polled_whole : (noted : List Noted) (state : State) (standing : Standing) (scene next : Scene) (last : Option Standing) → spelling frame ≢ [] → standing.begun ≡ [] → standing.first ≡ false
      → has_ended standing.line ≡ false → (side scene role).runs ≡ true → EachFedBy (length (side scene role).log.calls) (side scene role).log.plan.fed → due (side scene role) ≡ map DueByte (spelling frame)
      → IsPolledOut role scene (steps_of noted) next → ComesBy role chooser header state (Some standing) noted last → CallSo (steps_of noted) → GoWell noted
      → PollsOut role chooser standing (spelling frame) scene next last
  polled_whole noted state standing scene next last some begun = polled_rest noted state [] (spelling frame) standing scene next last refl some begun
