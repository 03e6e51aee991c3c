-- What the functions of a machine need of its parts.
use Rattle.std.proofs.Common.{◌≡◌, inl, inr, ℕ, ◌+◌, ◌≤◌, Bool, true, List, [], ◌∷◌, refl, sym, ◌∙◌, ap, subst, Option, Some, None, Result, Ok, Err, OnOk}
use Rattle.std.specs.Prelude.{is_ok}
use Rattle.std.specs.List.{flat_map}
use Rattle.dex_line.specs.FrameShapes.{FrameShape, frame_seen, shapes_seen}
use Rattle.dex_line.specs.Hearing.{Hearing, hearing}
use Rattle.dex_line.specs.declared.frame.Frame.{Frame}
use Rattle.dex_line.specs.FrameSpelling.{IsSpoken, spelling}
use Rattle.dex_line.specs.Scanning.{quieted}
use Rattle.dex_handshake.specs.LineRun.{load_of, said_of}
use Rattle.dex_handshake.specs.LineTable.{Line, LineStep, gives, hears, quiets, turn_of}
use Rattle.dex_handshake.specs.Sound.{AreSaid, IsSaid, IsSayable}
use Rattle.dsd_record.specs.Choices.{Chooser}
use Rattle.dsd_station.specs.Told.{Told}
use Rattle.dsd_journal.specs.Headers.{IsHeader}
use Rattle.dsd_journal.specs.Journals.{Rests}
use Rattle.dsd_journal.specs.declared.entry.Entry.{Entry}
use Rattle.dsd_journal.specs.declared.header.Header.{Header}
use Rattle.own_turn.specs.Desks.{DeskView}
use Rattle.own_turn.specs.OwnTurn.{Desk, Turned}
use Rattle.dsd_end.specs.EndSteps.{Says, StepsTo}
use Rattle.dsd_end.specs.MachineSeen.{CanGoOn}
use Rattle.dsd_end.specs.PiecesHeard.{HearsFront}
use Rattle.dsd_end.specs.PollStep.{Acts, HearsBroken, HearsFrame, HearsSilence, nothing, scanned}
use Rattle.dsd_end.specs.Standings.{Standing, with_begun, with_line}
use Rattle.dsd_end.proofs.StepsGoing.{acts_turn, done_nothing, gives_sayable, hears_sayable, quiets_sayable, silence_steps, steps_as, steps_none}

-- ---- answers

-- what holds whatever is answered
pub always : {T E P : Type 0} (r : Result T E) → P → OnOk r P
always (Ok x) p = p
always (Err e) p = tt

-- what holds where the call went well
pub on_went : {E P : Type 0} (r : Result (Unit {0}) E) → (is_ok r ≡ true → P) → OnOk r P
on_went (Ok tt) f = f refl
on_went (Err e) f = tt

pub went_on : {E : Type 0} (r : Result (Unit {0}) E) → OnOk r (is_ok r ≡ true)
went_on (Ok tt) = refl
went_on (Err e) = tt

pub said_all : (bytes : List ℕ) (went : Bool) (old new : Told) → went ≡ true → Says bytes went old new → Says bytes true old new
said_all bytes went old new e s = subst (λ (b : Bool). Says bytes b old new) e s

pub rests_as : (header header' : Header) (entries entries' : List Entry) (told : Told) → header ≡ header' → entries ≡ entries' → Rests header entries told → Rests header' entries' told
rests_as header header' entries entries' told h e r =
    subst (λ (x : Header). Rests x entries' told) h (subst (λ (x : List Entry). Rests header x told) e r)

-- ---- whether it can go on

-- behind a row of the table
pub row_ready : (desk desk' : DeskView) (line line' : Line) (frame : FrameShape) (step : LineStep) → CanGoOn desk line → desk' ≡ desk → step ≡ hears line frame → line' ≡ step.next → CanGoOn desk' line'
row_ready desk desk' line line' frame step can same seen next =
    subst (λ (d : DeskView). CanGoOn d line') (sym same)
    (subst (CanGoOn desk) (sym (next ∙ ap (λ (x : LineStep). x.next) seen)) (record {
      works = can.works;
      flushed = can.flushed;
      known = can.known;
      titled = can.titled;
      sayable = (hears_sayable desk.book.header can.titled line frame can.sayable).0;
    }))

pub row_spoken : (desk : DeskView) (line : Line) (frame : FrameShape) (step : LineStep) → CanGoOn desk line → step ≡ hears line frame → IsSaid IsSpoken step.say
row_spoken desk line frame step can seen =
    subst (λ (x : LineStep). IsSaid IsSpoken x.say) (sym seen) (hears_sayable desk.book.header can.titled line frame can.sayable).1

-- behind a Quiet
pub quiet_ready : (desk desk' : DeskView) (line line' : Line) (step : LineStep) → CanGoOn desk line → desk' ≡ desk → step ≡ quiets line → line' ≡ step.next → CanGoOn desk' line'
quiet_ready desk desk' line line' step can same seen next =
    subst (λ (d : DeskView). CanGoOn d line') (sym same)
    (subst (CanGoOn desk) (sym (next ∙ ap (λ (x : LineStep). x.next) seen)) (record {
      works = can.works;
      flushed = can.flushed;
      known = can.known;
      titled = can.titled;
      sayable = (quiets_sayable desk.book.header can.titled line can.sayable).0;
    }))

pub quiet_spoken : (desk : DeskView) (line : Line) (step : LineStep) → CanGoOn desk line → step ≡ quiets line → IsSaid IsSpoken step.say
quiet_spoken desk line step can seen = subst (λ (x : LineStep). IsSaid IsSpoken x.say) (sym seen) (quiets_sayable desk.book.header can.titled line can.sayable).1

-- behind an own turn
pub turn_ready : (desk turned after : DeskView) (line line' : Line) (load : List FrameShape) → CanGoOn desk line → after ≡ turned → turned.book.works ≡ true → turned.book.staged ≡ [] → turned.book.known ≡ turned.book.entries
    → turned.book.header ≡ desk.book.header → AreSaid IsSpoken load → line' ≡ (gives line load).next → CanGoOn after line'
turn_ready desk turned after line line' load can same works staged known header spoken next =
    subst (λ (d : DeskView). CanGoOn d line') (sym same)
    (subst (CanGoOn turned) (sym next) (record {
      works = works;
      flushed = staged;
      known = known;
      titled = subst IsHeader (sym header) can.titled;
      sayable = subst (λ (h : Header). IsSayable h.own (gives line load).next) (sym header) (gives_sayable desk.book.header can.titled line load can.sayable spoken).0;
    }))

-- ---- steps

module _ (tells : Type 0) (chooser : Chooser) (standing : Standing) where
  -- an own turn
  pub act_step : {E : Type 0} (r : Result (Unit {0}) E) (text load : List ℕ) (frames : List FrameShape) (desk : Desk) (to : Standing) (old mid new : Told) → turn_of standing.line ≡ Some text → frames ≡ load_of load
      → Turned standing.header chooser standing.desk text desk load → to ≡ with_line (record standing { desk = desk }) (gives standing.line frames).next → (tells → mid.now.gone ≡ old.now.gone)
      → (tells → mid.syncs ≤ old.syncs + 2) → (tells → Rests standing.header desk.entries mid) → (tells → Says (flat_map spelling (said_of (gives standing.line frames).say)) (is_ok r) mid new)
      → OnOk r (StepsTo tells (Acts chooser standing) to old new)
  act_step r text load frames desk to old mid new some same turned is still syncs rests says = on_went r (λ went.
      acts_turn tells chooser standing old new text load desk to mid some turned (is ∙ ap (λ (l : List FrameShape). with_line (record standing { desk = desk }) (gives standing.line l).next) same) still syncs rests
      (λ t. subst (λ (l : List FrameShape). Says (flat_map spelling (said_of (gives standing.line l).say)) true mid new) same (said_all (flat_map spelling (said_of (gives standing.line frames).say)) (is_ok r) mid new went (says t))))

  -- nothing had begun
  pub unbroken_step : (to : Standing) (told : Told) → to ≡ with_begun standing [] → None ≡ quieted standing.begun → (tells → Rests standing.header standing.desk.entries told)
      → StepsTo tells (HearsBroken chooser (with_begun standing []) (quieted standing.begun)) to told told
  unbroken_step to told is none rests =
      subst (λ (s : Standing). StepsTo tells (HearsBroken chooser (with_begun standing []) (quieted standing.begun)) s told told) (sym is)
      (steps_none tells (HearsBroken chooser (with_begun standing []) (quieted standing.begun)) (with_begun standing []) told rests
      (subst (λ (o : Option FrameShape). HearsBroken chooser (with_begun standing []) o (nothing (with_begun standing []))) none refl))

  -- what had begun breaks off
  pub broken_step : {T E : Type 0} (r : Result T E) (at to : Standing) (frame : FrameShape) (old new : Told) → at ≡ with_begun standing [] → Some frame ≡ quieted standing.begun
      → OnOk r (StepsTo tells (HearsFrame chooser at frame) to old new) → OnOk r (StepsTo tells (HearsBroken chooser (with_begun standing []) (quieted standing.begun)) to old new)
  broken_step r at to frame old new is some steps =
      subst (λ (o : Option FrameShape). OnOk r (StepsTo tells (HearsBroken chooser (with_begun standing []) o) to old new)) some
      (subst (λ (s : Standing). OnOk r (StepsTo tells (HearsFrame chooser s frame) to old new)) is steps)

  -- a silence
  pub silence_step : {E : Type 0} (r : Result (Unit {0}) E) (at to : Standing) (step : LineStep) (old mid new : Told) → step ≡ quiets at.line → to ≡ with_line at step.next
      → StepsTo tells (HearsBroken chooser (with_begun standing []) (quieted standing.begun)) at old mid → (tells → Says (flat_map spelling (said_of step.say)) (is_ok r) mid new)
      → OnOk r (StepsTo tells (HearsSilence chooser standing) to old new)
  silence_step r at to step old mid new seen is broke says = on_went r (λ went.
      silence_steps tells chooser standing at to step old mid new seen is broke (λ t. said_all (flat_map spelling (said_of step.say)) (is_ok r) mid new went (says t)))

pub nothing_begun : (begun : List ℕ) → None ≡ quieted begun → begun ≡ []
nothing_begun [] e = refl
nothing_begun (b ∷ more) e = absurd (cc)

-- ---- a front of a piece

module _ (tells : Type 0) (chooser : Chooser) (standing : Standing) (front : List ℕ) where
  -- it goes on what has begun
  pub begins_step : (begun : List ℕ) (to : Standing) (told : Told) → to ≡ with_begun standing begun → scanned standing front ≡ hearing begun [] → (tells → Rests standing.header standing.desk.entries told)
      → StepsTo tells (HearsFront chooser standing front) to told told
  begins_step begun to told is same rests =
      subst (λ (s : Standing). StepsTo tells (HearsFront chooser standing front) s told told) (sym is) (record {
        done = nothing (with_begun standing begun);
        step = inl (begun, same, refl);
        comes = refl;
        told = λ t. done_nothing (with_begun standing begun) told (rests t);
      })

  -- it completes a frame
  pub ends_step : (at to : Standing) (frame : FrameShape) (old new : Told) → at ≡ with_begun standing [] → scanned standing front ≡ hearing [] (frame ∷ []) → StepsTo tells (HearsFrame chooser at frame) to old new
      → StepsTo tells (HearsFront chooser standing front) to old new
  ends_step at to frame old new is same steps =
      steps_as tells (HearsFrame chooser at frame) (HearsFront chooser standing front) to old new
      (λ done hears_it. inr (frame, same, subst (λ (s : Standing). HearsFrame chooser s frame done) is hears_it)) steps

-- what a scanner says of the bytes that it took
pub scanned_none : (h : Hearing) (begun : List ℕ) (answer : Option Frame) → h ≡ hearing begun (shapes_seen answer) → answer ≡ None → h ≡ hearing begun []
scanned_none h begun answer heard none = heard ∙ ap (λ (o : Option Frame). hearing begun (shapes_seen o)) none

pub scanned_some : (h : Hearing) (begun : List ℕ) (answer : Option Frame) (frame : Frame) → h ≡ hearing begun (shapes_seen answer) → answer ≡ Some frame → begun ≡ [] → h ≡ hearing [] (frame_seen frame ∷ [])
scanned_some h begun answer frame heard some none =
    heard ∙ ap (λ (o : Option Frame). hearing begun (shapes_seen o)) some ∙ ap (λ (l : List ℕ). hearing l (frame_seen frame ∷ [])) none
