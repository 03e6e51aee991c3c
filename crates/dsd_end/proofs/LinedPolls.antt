-- Along polls the line part is a run of the line, whose own turns are given the loads.
use Rattle.std.proofs.Common.{◌≡◌, ℕ, Bool, true, false, List, [], ◌∷◌, ◌++◌, Option, Some, None, refl, sym, ◌∙◌, ap, subst, append-nil}
use Rattle.std.specs.List.{fold}
use Rattle.std.specs.Prelude.{⊤}
use Rattle.dsd_values.specs.declared.role.Role.{Role}
use Rattle.dsd_values.specs.declared.role.Role.TheVariants.{Supplier, Receiver}
use Rattle.dex_line.specs.FrameShapes.{FrameShape, Enq}
use Rattle.dex_line.specs.Hearing.{hear_all, hearing}
use Rattle.dex_line.specs.Scanning.{quieted}
use Rattle.dex_handshake.specs.LineTable.{Line, Ready, Bidding, Awaiting, SentAll, InText, Finished, Ended, hears, quiets, started, turn_of, unplugs}
use Rattle.dex_handshake.specs.declared.session_end.SessionEnd.{SessionEnd}
use Rattle.dex_handshake.specs.LineRun.{Heard, HeardFrame, HeardQuiet, HeardUnplugged, Lined, Run, Turns, end_of, run_hears, run_step, said_of, took_after}
use Rattle.dsd_record.specs.Choices.{Chooser}
use Rattle.dsd_station.specs.declared.call.Reception.{Reception}
use Rattle.dsd_station.specs.declared.call.Reception.TheVariants.{Piece, Silence, Cut}
use Rattle.dsd_journal.specs.declared.entry.Entry.{Entry}
use Rattle.dsd_journal.specs.declared.header.Header.{Header}
use Rattle.dsd_end.specs.PollsHeard.{frames_heard, heard_in, silence_heard}
use Rattle.dsd_end.specs.PollStep.{ActsAt, Along, Done, Hears, HearsBroken, HearsFrame, HearsFrames, HearsUnless, PollsAt, begins, begun_at, joined, nothing, scanned, stepped}
use Rattle.dsd_end.specs.Standings.{Standing, first_standing, has_ended, with_begun}
use Rattle.dsd_end.proofs.Polling.{next_goes}
use Rattle.dex_handshake.proofs.SilentTurns.{turns_come_silently}
use Rattle.dsd_end.proofs.LineFollows.{Acted, Follows, IsShut, StaysShut, acted, acts_shut, follows_alike, follows_as, follows_nothing, follows_on, quiets_shut, run_at, shut_front, unplugs_shut}

module _ (chooser : Chooser) where
  turn_follows : (standing : Standing) (frame : FrameShape) (turn : Done)
      → ActsAt chooser (stepped standing (hears standing.line frame)).standing (hears standing.line frame).next turn
      → Follows standing.line (HeardFrame frame ∷ []) (joined (stepped standing (hears standing.line frame)) turn)
  turn_follows standing frame turn acts turns said more shut waits =
      let step = hears standing.line frame in
      let took : Turns = record turns { took = took_after turns.took standing.line frame step.next } in
      let a : Acted took step turn more = acted chooser (stepped standing step).standing took step.next step.say turn more refl (turns_come_silently standing.line frame) acts waits in
      let there = ap (run_step (run_at standing.line turns said)) a.is ∙ ap (λ (s : List FrameShape). run_at turn.standing.line a.after (said ++ s)) a.said in
      let after_shut = acts_shut chooser (stepped standing step).standing step.next turn refl acts in
      record {
        after = a.after;
        waits = a.waits;
        is = there;
        shut = after_shut;
        stays = (shut, ap (λ (run : Run). turn_of run.end.line) there ∙ after_shut);
      }

  frame_follows : (standing : Standing) (frame : FrameShape) (done : Done) → HearsFrame chooser standing frame done → Follows standing.line (HeardFrame frame ∷ []) done
  frame_follows standing frame done (turn, acts, e) = follows_as standing.line (HeardFrame frame ∷ []) done _ e (turn_follows standing frame turn acts)

  frames_follow : (standing : Standing) (frames : List FrameShape) (done : Done) → HearsFrames chooser standing frames done → Follows standing.line (frames_heard frames) done
  frames_follow standing [] done e = follows_as standing.line [] done _ e (follows_nothing standing)
  frames_follow standing (frame ∷ frames) done (one, rest, h, hs, e) = follows_as standing.line (frames_heard (frame ∷ frames)) done _ e
      (follows_on standing.line (HeardFrame frame ∷ []) (frames_heard frames) one rest (frame_follows standing frame one h) (frames_follow one.standing frames rest hs))

  -- ---- other answers

  quiet_follows : (standing : Standing) → Follows standing.line (HeardQuiet ∷ []) (stepped standing (quiets standing.line))
  quiet_follows standing turns said more shut waits =
      record { after = turns; waits = waits; is = refl; shut = quiets_shut standing.line shut; stays = (shut, quiets_shut standing.line shut) }

  silence_follows : (standing : Standing) (frame : Option FrameShape) (broken : Done) → HearsBroken chooser standing frame broken
      → Follows standing.line (silence_heard frame) (joined broken (stepped broken.standing (quiets broken.standing.line)))
  silence_follows standing None broken e =
      follows_as standing.line (HeardQuiet ∷ []) _ _ (ap (λ (d : Done). joined d (stepped d.standing (quiets d.standing.line))) e) (quiet_follows standing)
  silence_follows standing (Some frame) broken h =
      follows_on standing.line (HeardFrame frame ∷ []) (HeardQuiet ∷ []) broken _ (frame_follows standing frame broken h) (quiet_follows broken.standing)

  cut_follows : (standing standing' : Standing) → standing'.line ≡ unplugs standing.line → Follows standing.line (HeardUnplugged ∷ []) (nothing standing')
  cut_follows standing standing' e turns said more shut waits = record {
    after = turns;
    waits = waits;
    is = ap (λ (l : Line). run_at l turns (said ++ [])) (sym e);
    shut = ap turn_of e ∙ unplugs_shut standing.line;
    stays = (shut, unplugs_shut standing.line);
  }

-- ---- polls

pub has_come : (line : Line) → has_ended line ≡ true → (end : SessionEnd) × (line ≡ Ended end)
has_come (Ended end) e = (end, refl)
has_come (Ready own) e = absurd (cc)
has_come (Bidding own load) e = absurd (cc)
has_come (Awaiting own sending) e = absurd (cc)
has_come (SentAll own) e = absurd (cc)
has_come (InText own taking) e = absurd (cc)
has_come (Finished own text) e = absurd (cc)

-- an ended session says nothing more
stays_ended : (end : SessionEnd) (turns : Turns) (said : List FrameShape) (heard : List Heard) → fold run_hears (run_at (Ended end) turns said) heard ≡ run_at (Ended end) turns said
stays_ended end turns said [] = refl
stays_ended end turns said (HeardFrame frame ∷ heard) = stays_ended end turns (said ++ []) heard ∙ ap (run_at (Ended end) turns) (append-nil said)
stays_ended end turns said (HeardQuiet ∷ heard) = stays_ended end turns (said ++ []) heard ∙ ap (run_at (Ended end) turns) (append-nil said)
stays_ended end turns said (HeardUnplugged ∷ heard) = stays_ended end turns (said ++ []) heard ∙ ap (run_at (Ended end) turns) (append-nil said)

ended_shut : (end : SessionEnd) (turns : Turns) (said : List FrameShape) (heard : List Heard) → StaysShut (run_at (Ended end) turns said) heard
ended_shut end turns said [] = refl
ended_shut end turns said (HeardFrame frame ∷ heard) = (refl, ended_shut end turns (said ++ []) heard)
ended_shut end turns said (HeardQuiet ∷ heard) = (refl, ended_shut end turns (said ++ []) heard)
ended_shut end turns said (HeardUnplugged ∷ heard) = (refl, ended_shut end turns (said ++ []) heard)

ended_follows : (standing : Standing) (heard : List Heard) → has_ended standing.line ≡ true → Follows standing.line heard (nothing standing)
ended_follows standing heard e turns said more shut waits =
    let (end, is) = has_come standing.line e in
    record {
      after = turns;
      waits = waits;
      is = ap (λ (l : Line). fold run_hears (run_at l turns said) heard) is ∙ stays_ended end turns said heard
          ∙ ap (λ (l : Line). run_at l turns said) (sym is) ∙ ap (run_at standing.line turns) (sym (append-nil said));
      shut = shut;
      stays = subst (λ (l : Line). StaysShut (run_at l turns said) heard) (sym is) (ended_shut end turns said heard);
    }

-- what a reception is heard as, and what has begun behind it
abbrev heard_at : List ℕ → Reception → List Heard
heard_at begun (Piece bytes) = frames_heard (hear_all (hearing begun []) bytes).shapes
heard_at begun Silence = silence_heard (quieted begun)
heard_at begun Cut = HeardUnplugged ∷ []

abbrev begun_behind : List ℕ → Reception → List ℕ
begun_behind begun (Piece bytes) = (hear_all (hearing begun []) bytes).begun
begun_behind begun Silence = []
begun_behind begun Cut = []

-- these bytes are those that have begun, as long as the session goes on
abbrev pub AreBegun : List ℕ → Standing → Type 0
AreBegun begun standing = has_ended standing.line ≡ false → begun ≡ standing.begun

pub begun_kept : (line : Line) (begun : List ℕ) → has_ended line ≡ false → begun ≡ begun_at line begun
begun_kept (Ended end) begun e = absurd (cc)
begun_kept (Ready own) begun e = refl
begun_kept (Bidding own load) begun e = refl
begun_kept (Awaiting own sending) begun e = refl
begun_kept (SentAll own) begun e = refl
begun_kept (InText own taking) begun e = refl
begun_kept (Finished own text) begun e = refl

pub cut_ends : (line : Line) → has_ended (unplugs line) ≡ true
cut_ends (Ended end) = refl
cut_ends (Ready own) = refl
cut_ends (Bidding own load) = refl
cut_ends (Awaiting own sending) = refl
cut_ends (SentAll own) = refl
cut_ends (InText own taking) = refl
cut_ends (Finished own text) = refl

pub not_both : (b : Bool) → b ≡ true → b ≡ false → ⊥
not_both true e f = absurd (cc)
not_both false e f = absurd (cc)

module _ (chooser : Chooser) where
  acts_keep : (standing : Standing) (line : Line) (done : Done) → ActsAt chooser standing line done → done.standing.begun ≡ standing.begun
  acts_keep standing (Finished own text) done (desk, load, turn, e) = ap (λ (d : Done). d.standing.begun) e
  acts_keep standing (Ready own) done e = ap (λ (d : Done). d.standing.begun) e
  acts_keep standing (Bidding own load) done e = ap (λ (d : Done). d.standing.begun) e
  acts_keep standing (Awaiting own sending) done e = ap (λ (d : Done). d.standing.begun) e
  acts_keep standing (SentAll own) done e = ap (λ (d : Done). d.standing.begun) e
  acts_keep standing (InText own taking) done e = ap (λ (d : Done). d.standing.begun) e
  acts_keep standing (Ended end) done e = ap (λ (d : Done). d.standing.begun) e

  pub broken_keeps : (standing : Standing) (frame : Option FrameShape) (done : Done) → HearsBroken chooser standing frame done → done.standing.begun ≡ standing.begun
  broken_keeps standing None done e = ap (λ (d : Done). d.standing.begun) e
  broken_keeps standing (Some frame) done (turn, acts, e) =
      ap (λ (d : Done). d.standing.begun) e ∙ acts_keep (stepped standing (hears standing.line frame)).standing (hears standing.line frame).next turn acts

  -- what a reception does while the session goes on
  hears_follow : (standing : Standing) (reception : Reception) (done : Done) → Hears chooser standing reception done
      → Follows standing.line (heard_at standing.begun reception) done × AreBegun (begun_behind standing.begun reception) done.standing
  hears_follow standing (Piece bytes) done (frames, hs, e) = (
    follows_alike standing.line (heard_at standing.begun (Piece bytes)) frames done
        (ap (λ (d : Done). d.standing.line) e) (ap (λ (d : Done). d.said) e) (ap (λ (d : Done). d.loads) e)
        (frames_follow chooser (with_begun standing []) (scanned standing bytes).shapes frames hs),
    subst (λ (d : Done). AreBegun (begun_behind standing.begun (Piece bytes)) d.standing) (sym e)
        (begun_kept frames.standing.line (scanned standing bytes).begun),
  )
  hears_follow standing Silence done (broken, h, e) = (
    follows_as standing.line (heard_at standing.begun Silence) done _ e (silence_follows chooser (with_begun standing []) (quieted standing.begun) broken h),
    λ goes. sym (ap (λ (d : Done). d.standing.begun) e ∙ broken_keeps (with_begun standing []) (quieted standing.begun) broken h),
  )
  hears_follow standing Cut done e = (
    follows_as standing.line (heard_at standing.begun Cut) done _ e (cut_follows chooser standing (record standing { line = unplugs standing.line; begun = [] }) refl),
    λ goes. absurd (not_both (has_ended (unplugs standing.line)) (cut_ends standing.line) (ap (λ (d : Done). has_ended d.standing.line) (sym e) ∙ goes)),
  )

  unless_follows : (ended : Bool) (standing : Standing) (reception : Reception) (done : Done) (begun : List ℕ) → has_ended standing.line ≡ ended → AreBegun begun standing
      → HearsUnless ended chooser standing reception done
      → Follows standing.line (heard_at begun reception) done × AreBegun (begun_behind begun reception) done.standing
  unless_follows true standing reception done begun ended are e = (
    follows_as standing.line (heard_at begun reception) done _ e (ended_follows standing (heard_at begun reception) ended),
    λ goes. absurd (not_both (has_ended standing.line) ended (ap (λ (d : Done). has_ended d.standing.line) (sym e) ∙ goes)),
  )
  unless_follows false standing reception done begun ended are h =
      subst (λ (b : List ℕ). Follows standing.line (heard_at b reception) done × AreBegun (begun_behind b reception) done.standing) (sym (are ended))
      (hears_follow standing reception done h)

  heard_first : (begun : List ℕ) (reception : Reception) (polls : List (Option Reception)) → heard_in begun (Some reception ∷ polls) ≡ heard_at begun reception ++ heard_in (begun_behind begun reception) polls
  heard_first begun (Piece bytes) polls = refl
  heard_first begun Silence polls = refl
  heard_first begun Cut polls = refl

  polls_heard : (first : Bool) (standing : Standing) (reception : Reception) (done : Done) → standing.first ≡ first → first ≡ false → PollsAt first chooser standing (Some reception) done
      → HearsUnless (has_ended standing.line) chooser standing reception done
  polls_heard true standing reception done e f p = absurd p
  polls_heard false standing reception done e f p = p

  no_answer : (first : Bool) (standing : Standing) (done : Done) → first ≡ false → PollsAt first chooser standing None done → ⊥
  no_answer true standing done f p = absurd (cc)
  no_answer false standing done f p = p

  -- polls behind the first
  along_follows : (standing : Standing) (polls : List (Option Reception)) (done : Done) (begun : List ℕ) → AreBegun begun standing → standing.first ≡ false
      → Along chooser standing polls done → Follows standing.line (heard_in begun polls) done
  along_follows standing [] done begun are first e = follows_as standing.line [] done _ e (follows_nothing standing)
  along_follows standing (None ∷ polls) done begun are first (one, rest, step, on, e) = absurd (no_answer standing.first standing one first step.polls)
  along_follows standing (Some reception ∷ polls) done begun are first (one, rest, step, on, e) =
      let heard = polls_heard standing.first standing reception one refl first step.polls in
      let (follows, behind) = unless_follows (has_ended standing.line) standing reception one begun refl are heard in
      let later : one.standing.first ≡ false = (next_goes chooser (λ _. ⊤) (λ _ _ _. tt) standing (Some reception) one step).first first in
      follows_as standing.line (heard_in begun (Some reception ∷ polls)) done _ e
      (subst (λ (h : List Heard). Follows standing.line h (joined one rest)) (sym (heard_first begun reception polls))
      (follows_on standing.line (heard_at begun reception) (heard_in (begun_behind begun reception) polls) one rest follows
      (along_follows one.standing polls rest (begun_behind begun reception) behind later on)))

  -- ---- from the first standing on

  started_shut : (role : Role) (own peer : List ℕ) → IsShut (started role own peer).next
  started_shut Supplier own peer = refl
  started_shut Receiver own peer = refl

  lined_from : (role : Role) (own peer : List ℕ) (said : List FrameShape) (heard : List Heard) (done : Done) → said ≡ said_of (started role own peer).say
      → Follows (started role own peer).next heard done → Lined role own peer heard done.loads (said ++ done.said) (end_of done.standing.line)
  lined_from role own peer said heard done e f =
      let turns : Turns = record { waiting = done.loads; given = []; handed = []; took = [] } in
      let r = f turns said [] (started_shut role own peer) (sym (append-nil done.loads)) in
      let is = ap (λ (s : List FrameShape). fold run_hears (run_at (started role own peer).next turns s) heard) (sym e) ∙ r.is in
      record {
        told = ap (λ (run : Run). run.said) is;
        over = ap (λ (run : Run). end_of run.end.line) is;
        all = ap (λ (run : Run). run.end.turns.waiting) is ∙ r.waits;
        given = λ front back parts. shut_front (run_at (started role own peer).next turns (said_of (started role own peer).say)) heard front back parts
            (subst (λ (s : List FrameShape). StaysShut (run_at (started role own peer).next turns s) heard) e r.stays);
      }

  lined_receiver : (own peer : List ℕ) (entries : List Entry) (polls : List (Option Reception)) (done : Done)
      → Along chooser (first_standing (record { role = Receiver; own = own; peer = peer }) entries) polls done
      → Lined Receiver own peer (heard_in [] polls) done.loads done.said (end_of done.standing.line)
  lined_receiver own peer entries polls done a =
      lined_from Receiver own peer [] (heard_in [] polls) done refl
      (along_follows (first_standing (record { role = Receiver; own = own; peer = peer }) entries) polls done [] (λ _. refl) refl a)

  lined_supplier : (own peer : List ℕ) (entries : List Entry) (polls : List (Option Reception)) (done : Done)
      → Along chooser (first_standing (record { role = Supplier; own = own; peer = peer }) entries) polls done → done.standing.first ≡ false
      → Lined Supplier own peer (heard_in [] polls) done.loads done.said (end_of done.standing.line)
  lined_supplier own peer entries [] done e begun = absurd (not_both done.standing.first (ap (λ (d : Done). d.standing.first) e) begun)
  lined_supplier own peer entries (Some reception ∷ polls) done (one, rest, step, on, e) begun = absurd step.polls
  lined_supplier own peer entries (None ∷ polls) done (one, rest, step, on, e) begun =
      let start = first_standing (record { role = Supplier; own = own; peer = peer }) entries in
      let on : Along chooser (begins start).standing polls rest = subst (λ (d : Done). Along chooser d.standing polls rest) step.polls on in
      let lined = lined_from Supplier own peer (Enq ∷ []) (heard_in [] polls) rest refl
      (along_follows (begins start).standing polls rest [] (λ _. refl) refl on) in
      subst (λ (d : Done). Lined Supplier own peer (heard_in [] polls) d.loads d.said (end_of d.standing.line))
      (sym (e ∙ ap (λ (d : Done). joined d rest) step.polls)) lined

  lined : (role : Role) (own peer : List ℕ) (entries : List Entry) (polls : List (Option Reception)) (done : Done)
      → Along chooser (first_standing (record { role = role; own = own; peer = peer }) entries) polls done → done.standing.first ≡ false
      → Lined role own peer (heard_in [] polls) done.loads done.said (end_of done.standing.line)
  lined Receiver own peer entries polls done a begun = lined_receiver own peer entries polls done a
  lined Supplier own peer entries polls done a begun = lined_supplier own peer entries polls done a begun

  pub polls_are_lined : (header : Header) (entries : List Entry) (polls : List (Option Reception)) (done : Done)
      → Along chooser (first_standing header entries) polls done → done.standing.first ≡ false
      → Lined header.role header.own header.peer (heard_in [] polls) done.loads done.said (end_of done.standing.line)
  polls_are_lined header entries polls done a begun = lined header.role header.own header.peer entries polls done a begun
