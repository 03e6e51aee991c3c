-- The steps of a machine, from those of its functions.
use Rattle.std.proofs.Common.{◌≡◌, ℕ, ◌+◌, ◌≤◌, Bool, true, List, [], ◌∷◌, ◌++◌, refl, sym, ◌∙◌, ap, subst, arith, append-nil, length-append, map, Option, Some, None, Result, Ok, Err, OnOk}
use Rattle.std.specs.List.{flat_map}
use Rattle.dex_line.specs.FrameShapes.{FrameShape}
use Rattle.dex_line.specs.FrameSpelling.{IsSpoken, spelling}
use Rattle.dex_line.proofs.Exists.{blocks_empty}
use Rattle.dex_line.specs.Scanning.{quieted}
use Rattle.dex_handshake.specs.LineRun.{frame_of_block, load_of, said_of}
use Rattle.dex_handshake.specs.LineTable.{Common, Line, LineStep, Ready, Bidding, Awaiting, SentAll, InText, Finished, Ended, gives, hears, quiets, started, turn_of}
use Rattle.dex_handshake.specs.Sound.{AnyText, AreSaid, IsSaid, IsSayable, IsSayableStep}
use Rattle.dex_handshake.specs.StateSeen.{load_seen}
use Rattle.dex_handshake.proofs.Sayings.{any_goes_on, first_spoken, may_spell, started_soundly}
use Rattle.dex_handshake.proofs.SoundTable.{gives_soundly, hears_soundly, quiets_soundly}
use Rattle.dsd_record.specs.Choices.{Chooser}
use Rattle.dsd_station.specs.Told.{Told}
use Rattle.dsd_values.specs.declared.role.Role.{Role}
use Rattle.dsd_journal.specs.Headers.{IsHeader, IsId}
use Rattle.dsd_journal.specs.Journals.{Rests}
use Rattle.dsd_journal.specs.declared.entry.Entry.{Entry}
use Rattle.dsd_end.specs.EndSteps.{HasDone, Says, StepsTo}
use Rattle.own_turn.specs.OwnTurn.{Desk, Turned}
use Rattle.own_turn.specs.Desks.{text_of}
use Rattle.dsd_end.specs.PollStep.{Acts, ActsAt, Done, HearsBroken, HearsFrame, HearsSilence, bytes_of, gave, joined, nothing, stepped}
use Rattle.dsd_end.specs.SoFar.{MayGoOut}
use Rattle.dsd_end.specs.Standings.{Standing, with_begun, with_line}
use Rattle.dsd_end.proofs.RunsComing.{gone_joined}
use Rattle.dsd_end.proofs.SoundTurns.{turn_goes_out}
use Rattle.dsd_end.proofs.Talking.{said_rests}

pub on_ok : {T E P Q : Type 0} (r : Result T E) → (P → Q) → OnOk r P → OnOk r Q
on_ok (Ok x) f p = f p
on_ok (Err e) f p = tt

-- ---- what can be spelled

pub hears_sayable : (header : _) → IsHeader header → (line : Line) (frame : FrameShape) → IsSayable header.own line → IsSayableStep header.own (hears line frame)
hears_sayable header is line frame s =
    hears_soundly header.own IsSpoken (may_spell header.own is.own.text is.own.ten) AnyText AnyText tt (λ text any. tt) line frame s (any_goes_on frame)

pub quiets_sayable : (header : _) → IsHeader header → (line : Line) → IsSayable header.own line → IsSayableStep header.own (quiets line)
quiets_sayable header is line s = quiets_soundly header.own IsSpoken (may_spell header.own is.own.text is.own.ten) AnyText line s

pub gives_sayable : (header : _) → IsHeader header → (line : Line) (load : List FrameShape) → IsSayable header.own line → AreSaid IsSpoken load → IsSayableStep header.own (gives line load)
gives_sayable header is line load s spoken = gives_soundly header.own IsSpoken (may_spell header.own is.own.text is.own.ten) AnyText line load s spoken

-- what gives a load says Enq, or nothing
pub gives_spoken : (line : Line) (load : List FrameShape) → IsSaid IsSpoken (gives line load).say
gives_spoken (Ready own) load = tt
gives_spoken (Bidding own before) load = tt
gives_spoken (Awaiting own sending) load = tt
gives_spoken (SentAll own) load = tt
gives_spoken (InText own taking) load = tt
gives_spoken (Finished own text) load = tt
gives_spoken (Ended end) load = tt

all_spoken : (entries : List Entry) (frames : List FrameShape) → AreSaid (MayGoOut entries) frames → AreSaid IsSpoken frames
all_spoken entries [] s = tt
all_spoken entries (frame ∷ frames) ((spoken, backed), s) = (spoken, all_spoken entries frames s)

-- the load of an own turn
pub turned_spoken : (chooser : Chooser) (standing : Standing) (text load : List ℕ) (desk : Desk) → Turned standing.header chooser standing.desk text desk load → AreSaid IsSpoken (load_of load)
turned_spoken chooser standing text load desk turned = all_spoken desk.entries (load_of load) (turn_goes_out standing.header chooser standing text load desk turned)

-- the load that a session is given, of a text or of none
pub load_is : (load : Option (List ℕ)) → load_seen load ≡ load_of (text_of load)
load_is None = ap (λ (blocks : List (List ℕ × Bool)). map frame_of_block blocks) (sym (blocks_empty [] refl))
load_is (Some text) = refl

-- ---- own turns

pub line_at_turn : (line : Line) (text : List ℕ) → turn_of line ≡ Some text → (own : Common) × (line ≡ Finished own text)
line_at_turn (Ready own) text e = absurd (cc)
line_at_turn (Bidding own load) text e = absurd (cc)
line_at_turn (Awaiting own sending) text e = absurd (cc)
line_at_turn (SentAll own) text e = absurd (cc)
line_at_turn (InText own taking) text e = absurd (cc)
line_at_turn (Finished own heard) text e = (own, ap (λ (t : List ℕ). Finished own t) (same heard text e))
  where
    same : (a b : List ℕ) → (let o : Option (List ℕ) = Some a in o) ≡ Some b → a ≡ b
    same a b e = cc
line_at_turn (Ended end) text e = absurd (cc)

acts_not_at : (chooser : Chooser) (standing : Standing) (line : Line) → turn_of line ≡ None → ActsAt chooser standing line (nothing standing)
acts_not_at chooser standing (Ready own) e = refl
acts_not_at chooser standing (Bidding own load) e = refl
acts_not_at chooser standing (Awaiting own sending) e = refl
acts_not_at chooser standing (SentAll own) e = refl
acts_not_at chooser standing (InText own taking) e = refl
acts_not_at chooser standing (Finished own text) e = absurd (cc)
acts_not_at chooser standing (Ended end) e = refl

-- nothing is done
pub done_nothing : (standing : Standing) (told : Told) → Rests standing.header standing.desk.entries told → HasDone (nothing standing) standing told told
done_nothing standing told rests = record { gone = sym (append-nil told.now.gone); syncs = omega arith; rests = rests }

pub done_joined : (one two : Done) (at to : Standing) (old mid new : Told) → HasDone one at old mid → HasDone two to mid new → HasDone (joined one two) to old new
done_joined one two at to old mid new a b = record {
  gone = b.gone ∙ ap (λ (l : List ℕ). l ++ bytes_of two) a.gone ∙ sym (gone_joined old.now.gone one two);
  syncs = omega (arith, a.syncs, b.syncs, length-append one.loads two.loads);
  rests = b.rests;
}

module _ (tells : Type 0) where
  pub steps_none : (Step : Done → Type 0) (standing : Standing) (told : Told) → (tells → Rests standing.header standing.desk.entries told) → Step (nothing standing) → StepsTo tells Step standing told told
  steps_none Step standing told rests step = record { done = nothing standing; step = step; comes = refl; told = λ t. done_nothing standing told (rests t) }

  pub acts_not : (chooser : Chooser) (standing : Standing) (told : Told) → turn_of standing.line ≡ None → (tells → Rests standing.header standing.desk.entries told)
      → StepsTo tells (Acts chooser standing) standing told told
  acts_not chooser standing told none rests = steps_none (Acts chooser standing) standing told rests (acts_not_at chooser standing standing.line none)

  module _ (chooser : Chooser) (standing : Standing) (old new : Told) where
    -- a turn is made, and its load is given
    pub acts_turn : (text load : List ℕ) (desk : Desk) (to : Standing) (mid : Told) → turn_of standing.line ≡ Some text → Turned standing.header chooser standing.desk text desk load
        → to ≡ with_line (record standing { desk = desk }) (gives standing.line (load_of load)).next → (tells → mid.now.gone ≡ old.now.gone) → (tells → mid.syncs ≤ old.syncs + 2)
        → (tells → Rests standing.header desk.entries mid) → (tells → Says (flat_map spelling (said_of (gives standing.line (load_of load)).say)) true mid new) → StepsTo tells (Acts chooser standing) to old new
    acts_turn text load desk to mid some turned is same syncs rests says =
        let (own, line) = line_at_turn standing.line text some in
        let done : Done = gave standing standing.line desk load in
        record {
          done = done;
          step = subst (λ (l : Line). ActsAt chooser standing l (gave standing l desk load)) (sym line) (desk, load, turned, refl);
          comes = sym is;
          told = λ t. record {
            gone = ((says t).ok refl).0 ∙ ap (λ (l : List ℕ). l ++ bytes_of done) (same t);
            syncs = omega (arith, syncs t, (says t).syncs);
            rests = subst (λ (s : Standing). Rests s.header s.desk.entries new) (sym is) (said_rests standing.header desk.entries (bytes_of done) mid new (rests t) (says t));
          };
        }

    -- a row says something
    pub row_steps : (step : LineStep) (to : Standing) → to ≡ with_line standing step.next → (tells → Rests standing.header standing.desk.entries old) → (tells → Says (flat_map spelling (said_of step.say)) true old new)
        → StepsTo tells (λ (done : Done). done ≡ stepped standing step) to old new
    row_steps step to is rests says = record {
      done = stepped standing step;
      step = refl;
      comes = sym is;
      told = λ t. record {
        gone = ((says t).ok refl).0;
        syncs = omega (arith, (says t).syncs);
        rests = subst (λ (s : Standing). Rests s.header s.desk.entries new) (sym is) (said_rests standing.header standing.desk.entries (flat_map spelling (said_of step.say)) old new (rests t) (says t));
      };
    }

  -- one step, and then another
  pub steps_joined : (First Second All : Done → Type 0) (one two : Standing) (old mid new : Told)
      → ((a b : Done) → a.standing ≡ one → First a → Second b → All (joined a b)) → StepsTo tells First one old mid → StepsTo tells Second two mid new → StepsTo tells All two old new
  steps_joined First Second All one two old mid new both a b = record {
    done = joined a.done b.done;
    step = both a.done b.done a.comes a.step b.step;
    comes = b.comes;
    told = λ t. done_joined a.done b.done one two old mid new (a.told t) (b.told t);
  }

  pub steps_as : (One Other : Done → Type 0) (to : Standing) (old new : Told) → ((done : Done) → One done → Other done) → StepsTo tells One to old new → StepsTo tells Other to old new
  steps_as One Other to old new f s = record { done = s.done; step = f s.done s.step; comes = s.comes; told = s.told }

  -- a frame: its row, and then the own turn where it has come
  pub frame_steps : {T E : Type 0} (r : Result T E) (chooser : Chooser) (standing at to : Standing) (frame : FrameShape) (step : LineStep) (old mid new : Told) → step ≡ hears standing.line frame
      → at ≡ with_line standing step.next → (tells → Rests standing.header standing.desk.entries old) → (tells → Says (flat_map spelling (said_of step.say)) true old mid)
      → OnOk r (StepsTo tells (Acts chooser at) to mid new) → OnOk r (StepsTo tells (HearsFrame chooser standing frame) to old new)
  frame_steps r chooser standing at to frame step old mid new seen is rests says acts =
      on_ok r (λ (a : StepsTo tells (Acts chooser at) to mid new).
      steps_joined (λ (done : Done). done ≡ stepped standing step) (Acts chooser at) (HearsFrame chooser standing frame) at to old mid new
      (λ one turn comes row act. (
        turn,
        subst (λ (s : Standing). Acts chooser s turn) (is ∙ ap (λ (x : LineStep). with_line standing x.next) seen) act,
        ap (λ (d : Done). joined d turn) (row ∙ ap (stepped standing) seen),
      ))
      (row_steps chooser standing old mid step at is rests says) a) acts

  -- a silence: what had begun is heard, and then a Quiet
  pub silence_steps : (chooser : Chooser) (standing at to : Standing) (step : LineStep) (old mid new : Told) → step ≡ quiets at.line → to ≡ with_line at step.next
      → StepsTo tells (HearsBroken chooser (with_begun standing []) (quieted standing.begun)) at old mid → (tells → Says (flat_map spelling (said_of step.say)) true mid new)
      → StepsTo tells (HearsSilence chooser standing) to old new
  silence_steps chooser standing at to step old mid new seen is broke says =
      steps_joined (HearsBroken chooser (with_begun standing []) (quieted standing.begun)) (λ (done : Done). done ≡ stepped at step) (HearsSilence chooser standing) at to old mid new
      (λ broken quiet comes heard row. (broken, heard, ap (joined broken) (row ∙ ap (stepped at) seen ∙ ap (λ (s : Standing). stepped s (quiets s.line)) (sym comes))))
      broke (row_steps chooser at mid new step to is (λ t. (broke.told t).rests) says)

-- a session that begins
pub started_sayable : (role : Role) (own peer : List ℕ) → IsId own → IsSayable own (started role own peer).next
started_sayable role own peer is = (started_soundly IsSpoken role own peer (may_spell own is.text is.ten) (first_spoken own is.text is.ten)).0
