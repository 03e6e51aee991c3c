-- The bytes of a piece are pushed, front by front.
use Rattle.std.proofs.Common.{◌≡◌, inl, ℕ, ◌+◌, true, false, List, [], ◌∷◌, ◌++◌, length, take, drop, refl, sym, ◌∙◌, ap, subst, append_assoc}
use Rattle.std.proofs.lemmas.List.{take-append-drop}
use Rattle.dex_line.specs.FrameShapes.{FrameShape}
use Rattle.dex_line.specs.Hearing.{hear_all, hearing}
use Rattle.dsd_record.specs.Choices.{Chooser}
use Rattle.dsd_station.specs.Stops.{then}
use Rattle.dsd_station.specs.Told.{EachStop, Told}
use Rattle.dsd_station.specs.declared.call.Reception.{Reception}
use Rattle.dsd_journal.specs.Devices.{KeepsTalk}
use Rattle.dsd_journal.specs.Headers.{IsHeader}
use Rattle.dsd_journal.specs.Journals.{Rests}
use Rattle.dsd_journal.specs.declared.entry.Entry.{Entry}
use Rattle.dsd_journal.specs.declared.header.Header.{Header}
use Rattle.dsd_journal.proofs.Looking.{keeps_none, keeps_then}
use Rattle.dsd_end.specs.EndSteps.{HasDone, StepsTo}
use Rattle.dsd_end.specs.FullTurns.{BytesFull}
use Rattle.dsd_end.specs.PiecesHeard.{HearsBytes, HearsFront}
use Rattle.dsd_end.specs.PollStep.{Done, HearsFrame, HearsPiece, joined, nothing}
use Rattle.dsd_end.specs.RunSoFar.{ComesTo, IsHeardAs, LeavesHearing, LeavesRun}
use Rattle.dsd_end.specs.Standings.{Standing, has_ended, with_begun}
use Rattle.dsd_end.proofs.FrontsHeard.{bytes_ended, bytes_none, front_begun, front_ended, front_judged, front_then, full_behind}
use Rattle.dsd_end.proofs.Polling.{joined_nothing, joined_on}
use Rattle.dsd_end.proofs.RunsComing.{comes_begun, comes_ended, comes_counted}
use Rattle.dsd_end.proofs.RunsLeft.{stops_still}
use Rattle.dsd_end.proofs.RunsThrough.{frame_comes}
use Rattle.dsd_end.proofs.StepsGoing.{done_joined, done_nothing}

-- what a stop leaves where bytes are pushed, and the run with those that are left
abbrev pub Takes : Chooser → Standing → List ℕ → List ℕ → Standing → Told → Told → Type 0
Takes chooser standing bytes rest to old new = (first : List Entry) (before : List ℕ) (heard : List Reception) → ComesTo chooser first before heard bytes standing old.now.gone
    → EachStop old new (LeavesRun standing.header chooser first before heard) × ComesTo chooser first before heard rest to new.now.gone

module _ (tells : Type 0) (t : tells) (chooser : Chooser) (standing : Standing) (titled : IsHeader standing.header) (bytes : List ℕ) (count : ℕ) where
  cut : bytes ≡ take count bytes ++ drop count bytes
  cut = sym (take-append-drop count bytes)

  -- they go on what has begun
  pub begins_leaves : (to : Standing) (begun : List ℕ) (told : Told) → to ≡ with_begun standing begun → hear_all (hearing standing.begun []) (take count bytes) ≡ hearing begun []
      → Rests standing.header standing.desk.entries told → Takes chooser standing bytes (drop count bytes) to told told
  begins_leaves to begun told is heard_so rests first before heard c =
      let all : standing.begun ++ bytes ≡ begun ++ drop count bytes =
      ap (λ (l : List ℕ). standing.begun ++ l) cut ∙ sym (append_assoc standing.begun (take count bytes) (drop count bytes))
      ∙ ap (λ (l : List ℕ). l ++ drop count bytes) (front_begun standing.begun (take count bytes) begun heard_so) in (
        stops_still chooser first before heard standing told.now.gone bytes c told refl rests,
        subst (λ (s : Standing). ComesTo chooser first before heard (drop count bytes) s told.now.gone) (sym is)
            (comes_begun chooser first before heard standing told.now.gone bytes begun (drop count bytes) c all),
      )

  module _ (frame : FrameShape) (heard_so : hear_all (hearing standing.begun []) (take count bytes) ≡ hearing [] (frame ∷ [])) where
    abbrev piece : List ℕ
    piece = standing.begun ++ take count bytes

    piece_is : IsHeardAs piece frame
    piece_is = inl (front_judged standing.begun (take count bytes) frame heard_so)

    to_hear : (first : List Entry) (before : List ℕ) (heard : List Reception) (gone : List ℕ) → ComesTo chooser first before heard bytes standing gone
        → ComesTo chooser first before heard (piece ++ drop count bytes) (with_begun standing []) gone
    to_hear first before heard gone c = comes_begun chooser first before heard standing gone bytes [] (piece ++ drop count bytes) c
        (ap (λ (l : List ℕ). standing.begun ++ l) cut ∙ sym (append_assoc standing.begun (take count bytes) (drop count bytes)))

    -- they complete a frame
    pub frame_leaves : (at : Standing) (old new : Told) → at ≡ with_begun standing [] → LeavesHearing chooser at frame old new
        → (first : List Entry) (before : List ℕ) (heard : List Reception) → ComesTo chooser first before heard bytes standing old.now.gone → EachStop old new (LeavesRun standing.header chooser first before heard)
    frame_leaves at old new is leaves first before heard c =
        (subst (λ (s : Standing). LeavesHearing chooser s frame old new) is leaves) first before heard piece (drop count bytes) piece_is (to_hear first before heard old.now.gone c)

    pub frame_takes : (at to : Standing) (old new : Told) → at ≡ with_begun standing [] → has_ended standing.line ≡ false → LeavesHearing chooser at frame old new → StepsTo tells (HearsFrame chooser at frame) to old new
        → Takes chooser standing bytes (drop count bytes) to old new
    frame_takes at to old new is goes leaves steps first before heard c = (
      frame_leaves at old new is leaves first before heard c,
      frame_comes tells t chooser (with_begun standing []) titled first before heard piece (drop count bytes) frame to old new goes refl piece_is (to_hear first before heard old.now.gone c)
          (subst (λ (s : Standing). StepsTo tells (HearsFrame chooser s frame) to old new) is steps),
    )

-- ---- the loop

-- what its station tells of some first bytes that were heard
pub record HeardTold (chooser : Chooser) (standing : Standing) (bytes rest : List ℕ) (to : Standing) (done : Done) (old new : Told) : Type 0 where
  pub keeps : KeepsTalk old new
  pub has : HasDone done to old new
  pub takes : Takes chooser standing bytes rest to old new

-- Some first bytes were heard: whatever those that are left do, all do behind what was done; and each stop leaves a run.
pub record HeardOn (tells : Type 0) (chooser : Chooser) (standing : Standing) (bytes rest : List ℕ) (to : Standing) (old new : Told) : Type 0 where
  pub title : to.header ≡ standing.header
  pub done : Done
  pub comes : done.standing ≡ to
  pub on : (later : Done) → HearsBytes chooser to rest later → HearsBytes chooser standing bytes (joined done later)
  pub full : (n : ℕ) → BytesFull chooser to rest n → BytesFull chooser standing bytes n
  pub told : tells → HeardTold chooser standing bytes rest to done old new

module _ (tells : Type 0) (chooser : Chooser) (standing : Standing) (bytes : List ℕ) (old : Told) where
  pub heard_none : (tells → Rests standing.header standing.desk.entries old) → HeardOn tells chooser standing bytes bytes standing old old
  heard_none rests = record {
    title = refl;
    done = nothing standing;
    comes = refl;
    on = λ later hears. hears;
    full = λ n k. k;
    told = λ t. record {
      keeps = keeps_none old;
      has = done_nothing standing old (rests t);
      takes = λ first before heard c. (stops_still chooser first before heard standing old.now.gone bytes c old refl (rests t), c);
    };
  }

  module _ (rest : List ℕ) (at : Standing) (mid new : Told) (k : HeardOn tells chooser standing bytes rest at old mid) where
    -- whatever the next front did
    pub heard_stops : (t : tells) → ((first : List Entry) (before : List ℕ) (heard : List Reception) → ComesTo chooser first before heard rest at mid.now.gone → EachStop mid new (LeavesRun at.header chooser first before heard))
        → (first : List Entry) (before : List ℕ) (heard : List Reception) → ComesTo chooser first before heard bytes standing old.now.gone → EachStop old new (LeavesRun standing.header chooser first before heard)
    heard_stops t leaves first before heard c =
        let was = (k.told t).takes first before heard c in
        then was.0 (subst (λ (h : Header). EachStop mid new (LeavesRun h chooser first before heard)) k.title (leaves first before heard was.1))

    pub heard_push : (count : ℕ) (to : Standing) → to.header ≡ at.header → StepsTo tells (HearsFront chooser at (take count rest)) to mid new → (tells → KeepsTalk mid new)
        → (tells → Takes chooser at rest (drop count rest) to mid new) → HeardOn tells chooser standing bytes (drop count rest) to old new
    heard_push count to title steps keeps takes = record {
      title = title ∙ k.title;
      done = joined k.done steps.done;
      comes = steps.comes;
      on = λ later hears.
          subst (HearsBytes chooser standing bytes) (sym (joined_on k.done steps.done later))
          (k.on (joined steps.done later)
          (subst (λ (l : List ℕ). HearsBytes chooser at l (joined steps.done later)) (take-append-drop count rest)
          (front_then chooser at (take count rest) (drop count rest) steps.done later steps.step
          (subst (λ (s : Standing). HearsBytes chooser s (drop count rest) later) (sym steps.comes) hears))));
      full = λ n f. k.full n (subst (λ (l : List ℕ). BytesFull chooser at l n) (take-append-drop count rest)
          (full_behind chooser at (take count rest) (drop count rest) n steps.done steps.step (subst (λ (s : Standing). BytesFull chooser s (drop count rest) n) (sym steps.comes) f)));
      told = λ t. record {
        keeps = keeps_then old mid new (k.told t).keeps (keeps t);
        has = done_joined k.done steps.done at to old mid new (k.told t).has (steps.told t);
        takes = λ first before heard c.
            let was = (k.told t).takes first before heard c in
            let now = takes t first before heard was.1 in
            (heard_stops t (λ f b h d. (takes t f b h d).0) first before heard c, now.1);
      };
    }

  module _ (rest : List ℕ) (to : Standing) (new : Told) (k : HeardOn tells chooser standing bytes rest to old new) where
    heard_steps : HearsBytes chooser to rest (nothing to) → StepsTo tells (HearsBytes chooser standing bytes) to old new
    heard_steps hears = record {
      done = k.done;
      step = subst (HearsBytes chooser standing bytes) (ap (λ (s : Standing). joined k.done (nothing s)) (sym k.comes) ∙ joined_nothing k.done) (k.on (nothing to) hears);
      comes = k.comes;
      told = λ t. (k.told t).has;
    }

    -- the session has ended
    pub ended_steps : has_ended to.line ≡ true → to.begun ≡ [] → StepsTo tells (HearsBytes chooser standing bytes) to old new
    ended_steps ended none = heard_steps (bytes_ended chooser to rest ended none)

    pub ended_takes : tells → has_ended to.line ≡ true → Takes chooser standing bytes [] to old new
    ended_takes t ended first before heard c =
        let was = (k.told t).takes first before heard c in
        (was.0, comes_ended chooser first before heard to new.now.gone rest [] ended was.1)

    -- all bytes were heard
    pub all_steps : has_ended to.line ≡ false → rest ≡ [] → StepsTo tells (HearsBytes chooser standing bytes) to old new
    all_steps goes none = heard_steps (subst (λ (l : List ℕ). HearsBytes chooser to l (nothing to)) (sym none) (bytes_none chooser to goes))

    pub all_takes : tells → rest ≡ [] → Takes chooser standing bytes [] to old new
    all_takes t none first before heard c =
        let was = (k.told t).takes first before heard c in
        (was.0, subst (λ (l : List ℕ). ComesTo chooser first before heard l to new.now.gone) none was.1)

-- ---- a piece, whose bytes are counted

module _ (tells : Type 0) (chooser : Chooser) (standing at to : Standing) (bytes : List ℕ) (old new : Told) (is : to ≡ record at { heard = at.heard + length bytes }) where
  pub piece_steps : StepsTo tells (HearsBytes chooser standing bytes) at old new → StepsTo tells (HearsPiece chooser standing bytes) to old new
  piece_steps s =
      let (frames, hears, e) = s.step in
      record {
        done = record s.done { standing = record s.done.standing { heard = s.done.standing.heard + length bytes } };
        step = (frames, hears, ap (λ (d : Done). record d { standing = record d.standing { heard = d.standing.heard + length bytes } }) e);
        comes = ap (λ (x : Standing). record x { heard = x.heard + length bytes }) s.comes ∙ sym is;
        told = λ t. let has = s.told t in record {
          gone = has.gone;
          syncs = has.syncs;
          rests = subst (λ (x : Standing). Rests x.header x.desk.entries new) (sym is) has.rests;
        };
      }

  pub piece_comes : (first : List Entry) (before : List ℕ) (heard : List Reception) → ComesTo chooser first before heard [] at new.now.gone → ComesTo chooser first before heard [] to new.now.gone
  piece_comes first before heard c =
      subst (λ (x : Standing). ComesTo chooser first before heard [] x new.now.gone) (sym is) (comes_counted chooser first before heard at new.now.gone [] (length bytes) c)

-- a front with which the session ends leaves nothing begun
pub ended_none : (tells : Type 0) (chooser : Chooser) (standing to : Standing) (front : List ℕ) (old new : Told) → StepsTo tells (HearsFront chooser standing front) to old new → has_ended standing.line ≡ false → has_ended to.line ≡ true
    → to.begun ≡ []
ended_none tells chooser standing to front old new steps goes ended =
    ap (λ (x : Standing). x.begun) (sym steps.comes) ∙ front_ended chooser standing front steps.done steps.step goes (ap (λ (x : Standing). has_ended x.line) steps.comes ∙ ended)
