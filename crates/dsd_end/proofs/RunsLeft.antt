-- What a stop leaves of a run that has come to a standing.
use Rattle.std.proofs.Common.{◌≡◌, ℕ, List, [], ◌∷◌, ◌++◌, Option, Some, None, refl, sym, ◌∙◌, ap, subst, append_assoc, append-nil}
use Rattle.std.specs.Prelude.{Contains}
use Rattle.std.specs.List.{flat_map}
use Rattle.dsd_values.specs.declared.role.Role.{Role}
use Rattle.dex_line.specs.FrameShapes.{FrameShape}
use Rattle.dex_line.specs.FrameSpelling.{spelling}
use Rattle.dex_handshake.specs.LineRun.{said_of}
use Rattle.dex_handshake.specs.LineTable.{Common, Finished}
use Rattle.dex_handshake.specs.Sound.{AreSaid, IsSound}
use Rattle.dsd_record.specs.Choices.{Chooser}
use Rattle.dsd_station.specs.Disk.{MayLeave}
use Rattle.dsd_station.specs.Stops.{none_passed, weaken}
use Rattle.dsd_station.specs.Told.{Allows, EachStop, Told}
use Rattle.dsd_station.specs.declared.call.Reception.{Reception}
use Rattle.dsd_journal.specs.JournalImage.{Holds}
use Rattle.dsd_journal.specs.Journals.{Rests}
use Rattle.dsd_journal.specs.declared.entry.Entry.{Entry}
use Rattle.dsd_end.specs.Carrying.{Carried}
use Rattle.dsd_end.specs.EndSteps.{HasSent}
use Rattle.dsd_end.specs.Lives.{IsRunOf}
use Rattle.own_turn.specs.Desks.{GrowsTo}
use Rattle.own_turn.specs.OwnTurn.{sets_lent}
use Rattle.dsd_end.specs.RunSoFar.{ComesTo, LeavesRun, said_at}
use Rattle.dsd_end.specs.Runs.{Run, bytes_heard}
use Rattle.dsd_end.specs.SoFar.{CarriesText, MayGoOut}
use Rattle.dsd_end.specs.Standings.{Standing}
use Rattle.own_turn.specs.TurnsGrow.{IsGrown}
use Rattle.dsd_end.proofs.CarriedTexts.{lent_carried}
use Rattle.dsd_end.proofs.Onward.{carried_more}
use Rattle.dsd_end.proofs.RunsComing.{bytes_more}
use Rattle.dsd_end.proofs.RunsGrown.{grown_weaker, run_of, said_grows}
use Rattle.dsd_end.proofs.SoFarOn.{so_far_cut, so_far_runs}
use Rattle.dsd_end.proofs.SoundTurns.{grows_of}
use Rattle.own_turn.proofs.TurnsGrowing.{grown_on}

-- what a stop at this moment may leave, where all of the journal is sure
pub rests_image : (told : Told) (standing : Standing) → Rests standing.header standing.desk.entries told → (image : List ℕ) → MayLeave told.now.sure told.now.writes image → image ≡ told.journal
rests_image told standing rests image left = subst (λ w. MayLeave told.now.sure w image) rests.synced.writes left ∙ rests.synced.sure

module _ (chooser : Chooser) (first : List Entry) (before : List ℕ) (heard : List Reception) (standing : Standing) (gone left : List ℕ) (c : ComesTo chooser first before heard left standing gone) where
  -- nothing more has gone out
  pub leaves_here : (image out : List ℕ) → Holds standing.header standing.desk.entries image → out ≡ gone → LeavesRun standing.header chooser first before heard image out
  leaves_here image out holds is = record {
    last = standing.desk.entries;
    holds = holds;
    gone = flat_map spelling c.said;
    split = is ∙ c.split;
    run = so_far_runs chooser standing.header first c.past c.behind heard (said_at standing c.said) c.legal c.so_far c.bytes;
  }

  -- a front of a frame has gone out
  leaves_front : (frame : FrameShape) → MayGoOut standing.desk.entries frame → (front back image out : List ℕ) → Holds standing.header standing.desk.entries image → spelling frame ≡ front ++ back → out ≡ gone ++ front
      → LeavesRun standing.header chooser first before heard image out
  leaves_front frame may front back image out holds split is = record {
    last = standing.desk.entries;
    holds = holds;
    gone = flat_map spelling c.said ++ front;
    split = is ∙ ap (λ (l : List ℕ). l ++ front) c.split ∙ append_assoc before (flat_map spelling c.said) front;
    run = so_far_cut chooser standing.header first c.past c.behind heard (said_at standing c.said) c.legal c.so_far c.bytes frame front back may split;
  }

  -- a front of what is said, if something is
  leaves_said : (say : Option FrameShape) → AreSaid (MayGoOut standing.desk.entries) (said_of say) → (image out : List ℕ) → Holds standing.header standing.desk.entries image
      → HasSent (flat_map spelling (said_of say)) gone out → LeavesRun standing.header chooser first before heard image out
  leaves_said None may image out holds (front, back, split, is) = leaves_here image out holds (is ∙ ap (λ (l : List ℕ). gone ++ l) (none front back split) ∙ append-nil gone)
    where
      none : (front back : List ℕ) → [] ≡ front ++ back → front ≡ []
      none [] back e = refl
      none (b ∷ front) back e = absurd (cc)
  leaves_said (Some frame) may image out holds (front, back, split, is) = leaves_front frame may.0 front back image out holds (sym (append-nil (spelling frame)) ∙ split) is

  -- the journal holds a list to which the entries have grown in an own turn
  leaves_grown : (own : Common) (text : List ℕ) → standing.line ≡ Finished own text → (image out : List ℕ) (last : List Entry) → Holds standing.header last image
      → IsGrown standing.header.role chooser (Contains (sets_lent text)) standing.desk.entries last → out ≡ gone → LeavesRun standing.header chooser first before heard image out
  leaves_grown own text e image out last holds grown is =
      let sound : IsSound standing.header.own (MayGoOut standing.desk.entries) (CarriesText c.past) (Finished own text) =
      subst (IsSound standing.header.own (MayGoOut standing.desk.entries) (CarriesText c.past)) e c.so_far.line in
      let carried : (set : List ℕ) → Contains (sets_lent text) set → Carried (c.past ++ c.behind) set =
      λ set inside. carried_more c.past c.behind set (lent_carried c.past text set sound.1 inside) in
      let P = Carried (c.past ++ c.behind) in
      let new = grown_weaker standing.header.role chooser (Contains (sets_lent text)) P carried standing.desk.entries last grown in
      let old = grown_weaker standing.header.role chooser (Carried c.past) P (carried_more c.past c.behind) first standing.desk.entries c.so_far.grown in
      let all = grown_on standing.header.role chooser P first standing.desk.entries last old new in
      record {
        last = last;
        holds = holds;
        gone = flat_map spelling c.said;
        split = is ∙ c.split;
        run = run_of standing.header.role chooser first last heard c.said c.legal
            (subst (λ (b : List ℕ). IsGrown standing.header.role chooser (Carried b) first last) (sym c.bytes) all)
            (said_grows standing.desk.entries last c.said (grows_of standing.header.role chooser P standing.desk.entries last new) c.so_far.said);
      }

  -- ---- each stop

  pub allows_here : (told : Told) → told.now.gone ≡ gone → Rests standing.header standing.desk.entries told → Allows told.now (LeavesRun standing.header chooser first before heard)
  allows_here told same rests image out left_so =
      leaves_here image out (subst (λ (i : List ℕ). Holds standing.header standing.desk.entries i) (sym (rests_image told standing rests image left_so.image_of)) rests.holds) (left_so.gone_of ∙ same)

  pub stops_still : (told : Told) → told.now.gone ≡ gone → Rests standing.header standing.desk.entries told → EachStop told told (LeavesRun standing.header chooser first before heard)
  stops_still told same rests = none_passed told (LeavesRun standing.header chooser first before heard) (allows_here told same rests)

  pub stops_said : (say : Option FrameShape) → AreSaid (MayGoOut standing.desk.entries) (said_of say) → (old new : Told) → old.now.gone ≡ gone → Rests standing.header standing.desk.entries old
      → EachStop old new (λ image out. (image ≡ old.journal) × HasSent (flat_map spelling (said_of say)) old.now.gone out) → EachStop old new (LeavesRun standing.header chooser first before heard)
  stops_said say may old new same rests stops = weaken (LeavesRun standing.header chooser first before heard) stops (λ image out k.
      leaves_said say may image out (subst (λ (i : List ℕ). Holds standing.header standing.desk.entries i) (sym k.0) rests.holds)
      (subst (λ (l : List ℕ). HasSent (flat_map spelling (said_of say)) l out) same k.1))

  pub stops_grown : (own : Common) (text : List ℕ) → standing.line ≡ Finished own text → (old new : Told) → old.now.gone ≡ gone
      → EachStop old new (λ image out. GrowsTo standing.header chooser (sets_lent text) standing.desk.entries image × (out ≡ old.now.gone))
      → EachStop old new (LeavesRun standing.header chooser first before heard)
  stops_grown own text e old new same stops = weaken (LeavesRun standing.header chooser first before heard) stops (λ image out k.
      leaves_grown own text e image out k.0.last k.0.holds k.0.grown (k.1 ∙ same))

-- ---- more is heard

pub run_more : (role : Role) (chooser : Chooser) (run : Run) (more : List Reception) → IsRunOf role chooser run → IsRunOf role chooser (record run { heard = run.heard ++ more })
run_more role chooser run more r = record {
  is = record {
    added = r.is.added;
    grown = r.is.grown;
    legal = r.is.legal;
    taken = λ text inside. subst (λ (b : List ℕ). Carried b text) (sym (bytes_more run.heard more)) (carried_more (bytes_heard run.heard) (bytes_heard more) text (r.is.taken text inside));
    speaks = r.is.speaks;
  };
  chosen = r.chosen;
}
