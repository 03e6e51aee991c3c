-- The rounds of CLEAN go well while the session goes quietly, where nothing armed is left.
use Rattle.std.proofs.Common.{◌≡◌, inl, inr, ℕ, zero, suc, true, false, List, [], ◌∷◌, Option, Some, sym, ◌∙◌, ap, subst}
use Rattle.std.specs.Prelude.{not}
use Rattle.dsd_values.specs.declared.role.Role.{Role}
use Rattle.dsd_record.specs.Choices.{Chooser}
use Rattle.dsd_station.specs.declared.feeding.Given.TheVariants as given
use Rattle.dsd_station.specs.Replayed.{State}
use Rattle.dsd_journal.specs.Headers.{IsHeader}
use Rattle.dsd_journal.specs.declared.header.Header.{Header}
use Rattle.dex_line.specs.FrameShapes.{FrameShape}
use Rattle.dex_line.specs.FrameSpelling.{IsSpoken, spelling}
use Rattle.dex_line.specs.Hearing.{AreSpoken}
use Rattle.dsd_end.specs.FullTurns.{FrameFull}
use Rattle.dsd_end.specs.Standings.{Standing}
use Rattle.clean_sessions.specs.Halls.{CleanStep, Hall}
use Rattle.clean_sessions.specs.QuietHalls.{GoesQuietly, HaveEnded, HearsQuietly}
use Rattle.cable_world.specs.Diligence.{ComesBy}
use Rattle.cable_world.specs.Leaving.{state_after}
use Rattle.cable_world.specs.Living.{CallSo}
use Rattle.cable_world.specs.Noted.{Noted, steps_of}
use Rattle.cable_world.specs.Obeying.{AreRounds, Exchanges, IsRound, Then}
use Rattle.cable_world.specs.Scenes.{Scene, Side, side, some_runs, with_waiting}
use Rattle.cable_world.specs.Steps.{WorldStep, other}
use Rattle.clean_worlds.specs.Faultless.{AreSpared, IsSpared, RunningWork, WorksIfRunning}
use Rattle.clean_worlds.specs.WholeFrames.{Attends, GoWell}
use Rattle.clean_worlds.specs.WorldHalls.{BothCome, ShowsHall}
use Rattle.clean_worlds.proofs.FramesSpared.{GoesSpared, frame_spared}
use Rattle.clean_worlds.proofs.NotedParts.{come_parts}
use Rattle.clean_worlds.proofs.RoundsClean.{one_waits, round_clean, round_hears, waits_not}
use Rattle.clean_worlds.proofs.RoundsWell.{joined_well}
use Rattle.clean_worlds.proofs.ScriptsKept.{each_role, heard_beside}
use Rattle.clean_worlds.proofs.SessionPlayed.{none_runs}

none_well : (noted : List Noted) → steps_of noted ≡ [] → GoWell noted
none_well [] none = tt
none_well (one ∷ noted) none = absurd (cc)

-- These steps go well, and nothing armed is left behind them.
pub record RoundSpared (noted : List Noted) (next : Scene) : Type 0 where
  pub well : GoWell noted
  pub spared : AreSpared next
  pub work : RunningWork next

module _ (chooser : Role → Chooser) (header : Role → Header) (is : (role : Role) → IsHeader (header role)) where
  -- ---- one round

  round_spared : (near far : Role) (hall : Hall) (scene : Scene) (standing : Role → Option Standing) (shows : ShowsHall chooser header near far hall scene standing) (frame : FrameShape) → HearsQuietly hall frame
      → (state : Role → State) (noted : List Noted) (next : Scene) (last : Role → Option Standing) → IsRound scene (steps_of noted) next → BothCome chooser header state standing noted last → CallSo (steps_of noted)
      → AreSpared scene → RunningWork scene → RoundSpared noted next
  round_spared near far hall scene standing shows frame quietly state noted next last round come calls spared work =
      let bare : Scene = with_waiting scene [] in
      let hears = round_hears near frame scene next (steps_of noted) (one_waits chooser header is near far hall scene standing shows frame quietly.flight quietly.runs) round in
      let spoken : IsSpoken frame = (subst AreSpoken quietly.flight shows.spoken).0 in
      let same : side bare near ≡ side scene near = waits_not near scene [] in
      let attends : Attends (header near) hall.near.standing (side bare near) = subst (Attends (header near) hall.near.standing) (sym same) shows.near_attends in
      let comes : ComesBy near (chooser near) (header near) (state near) (Some hall.near.standing) noted (last near) =
      subst (λ (s : Option Standing). ComesBy near (chooser near) (header near) (state near) s noted (last near)) shows.near_stands (come near) in
      let own : GoesSpared near noted next =
      frame_spared near (chooser near) (header near) frame spoken hall.near.standing bare attends quietly.runs noted (state near) next (last near) hears comes calls
      (subst (λ (s : Side). IsSpared s.log) (sym same) (spared near)) (subst WorksIfRunning (sym same) (work near)) quietly.quiet
      (λ n full. quietly.place n (subst (λ (c : Chooser). FrameFull c hall.near.standing frame n) (sym shows.choosers.0) full)) in
      let beside : side next (other near) ≡ side scene (other near) = heard_beside (side bare near).runs near (given.Bytes (spelling frame)) noted bare next hears ∙ waits_not (other near) scene [] in
      record {
        well = own.well;
        spared = each_role (λ (role : Role). IsSpared (side next role).log) near own.spared (subst (λ (s : Side). IsSpared s.log) (sym beside) (spared (other near)));
        work = each_role (λ (role : Role). WorksIfRunning (side next role)) near own.works (subst WorksIfRunning (sym beside) (work (other near)));
      }

  -- ---- round after round

  -- no round is made behind the end of both sessions
  none_made : (near far : Role) (hall : Hall) (scene : Scene) (standing : Role → Option Standing) → ShowsHall chooser header near far hall scene standing → HaveEnded hall → some_runs scene ≡ true → ⊥
  none_made near far hall scene standing shows ended on =
      let near_off : (side scene near).runs ≡ false = shows.near_attends.runs ∙ ap not ended.near in
      let far_off : (side scene far).runs ≡ false = shows.far_attends.runs ∙ ap not ended.far in
      let off : some_runs scene ≡ false = none_runs near far scene shows.roles.0 near_off far_off in
      cc

  abbrev RoundsGoWell : ℕ → Type 0
  RoundsGoWell rounds =
      (near far : Role) (hall : Hall) (scene next : Scene) (standing last : Role → Option Standing) (state : Role → State) (noted : List Noted) → ShowsHall chooser header near far hall scene standing → GoesQuietly rounds hall
      → AreRounds rounds scene (steps_of noted) next → BothCome chooser header state standing noted last → CallSo (steps_of noted) → AreSpared scene → RunningWork scene → GoWell noted

  first_round : (rounds : ℕ) → RoundsGoWell rounds → (near far : Role) (hall : Hall) (scene next : Scene) (standing last : Role → Option Standing) (state : Role → State) (noted : List Noted)
      → (shows : ShowsHall chooser header near far hall scene standing) → (frame : FrameShape) → HearsQuietly hall frame → ((new : Hall) → CleanStep hall new → GoesQuietly rounds new)
      → Then IsRound (AreRounds rounds) scene (steps_of noted) next → BothCome chooser header state standing noted last → CallSo (steps_of noted) → AreSpared scene → RunningWork scene → GoWell noted
  first_round rounds others near far hall scene next standing last state noted shows frame quietly later both come calls spared work =
      let p = come_parts chooser header state standing noted both.first both.rest last come calls both.joined in
      let round : IsRound scene (steps_of p.front) both.between = subst (λ (l : List WorldStep). IsRound scene l both.between) (sym p.is) both.before in
      let one = round_spared near far hall scene standing shows frame quietly state p.front both.between p.mid round p.come p.calls spared work in
      let c = round_clean chooser header is near far hall scene standing shows frame quietly.flight quietly.runs state p.front both.between p.mid round p.come p.calls one.well in
      let rest = others far near c.new both.between next p.mid last (λ (role : Role). state_after role (state role) both.first) p.back c.shows (later c.new c.step)
      (subst (λ (l : List WorldStep). AreRounds rounds both.between l next) (sym p.then_is) both.behind) p.come_then p.calls_then one.spared one.work in
      subst GoWell (sym p.parts) (joined_well p.front p.back one.well rest)

  rounds_spared : (rounds : ℕ) → RoundsGoWell rounds
  rounds_spared zero near far hall scene next standing last state noted shows quietly (off, (none, same)) come calls spared work = none_well noted none
  rounds_spared (suc rounds) near far hall scene next standing last state noted shows (inl ended, later) (on, both) come calls spared work = absurd (none_made near far hall scene standing shows ended on)
  rounds_spared (suc rounds) near far hall scene next standing last state noted shows (inr (frame, quietly), later) (on, both) come calls spared work =
      first_round rounds (λ n f h s x t l st no sh q r c ca sp w. rounds_spared rounds n f h s x t l st no sh q r c ca sp w) near far hall scene next standing last state noted shows frame quietly later both come calls spared work

  pub exchanges_spared : (near far : Role) (hall : Hall) (scene next : Scene) (standing last : Role → Option Standing) (state : Role → State) (noted : List Noted) → ShowsHall chooser header near far hall scene standing
      → ((frames : ℕ) → GoesQuietly frames hall) → Exchanges scene (steps_of noted) next → BothCome chooser header state standing noted last → CallSo (steps_of noted) → AreSpared scene → RunningWork scene → GoWell noted
  exchanges_spared near far hall scene next standing last state noted shows quietly (rounds, made) come calls spared work =
      rounds_spared rounds near far hall scene next standing last state noted shows (quietly rounds) made come calls spared work
