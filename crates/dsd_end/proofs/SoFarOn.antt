-- A run so far goes on by each step of an end, and at each moment it is a run.
use Rattle.std.proofs.Common.{◌≡◌, ℕ, List, [], ◌∷◌, ◌++◌, Some, refl, sym, subst, append-nil}
use Rattle.std.specs.Prelude.{Contains}
use Rattle.dex_line.specs.FrameShapes.{FrameShape}
use Rattle.dex_line.specs.FrameSpelling.{spelling}
use Rattle.dex_line.specs.Judging.{judge}
use Rattle.dex_handshake.specs.LineTable.{Common, Finished, hears, quiets}
use Rattle.dsd_record.specs.Choices.{Chooser}
use Rattle.dsd_station.specs.declared.call.Reception.{Reception}
use Rattle.dsd_journal.specs.Headers.{IsHeader}
use Rattle.dsd_journal.specs.declared.entry.Entry.{Entry}
use Rattle.dsd_journal.specs.declared.header.Header.{Header}
use Rattle.delivery_book.specs.Signing.{Legal}
use Rattle.dsd_end.specs.Carrying.{Carried}
use Rattle.dsd_end.specs.Lives.{IsRunOf}
use Rattle.own_turn.specs.OwnTurn.{Desk, StaysLegal, Turned, sets_lent}
use Rattle.dsd_end.specs.PollStep.{Done, bytes_of, gave, joined, nothing, stepped}
use Rattle.dsd_end.specs.Runs.{bytes_heard}
use Rattle.dsd_end.specs.SoFar.{CarriesText, MayGoOut, SoFar, with_entries}
use Rattle.dex_handshake.specs.Sound.{IsSound}
use Rattle.dsd_end.specs.Standings.{first_standing}
use Rattle.own_turn.specs.TurnsGrow.{IsGrown, IsNewAs}
use Rattle.dsd_end.proofs.CarriedTexts.{carries_more, carries_nothing, frame_goes_on, lent_carried}
use Rattle.dsd_end.proofs.GoingOut.{front_speaks}
use Rattle.dsd_end.proofs.Onward.{carried_more}
use Rattle.dsd_end.proofs.PollsRun.{greets, start_sound}
use Rattle.dsd_end.proofs.RunsGrown.{grown_weaker, run_of, said_grows, with_gone}
use Rattle.dsd_end.proofs.SoundTurns.{acts_soundly, grows_of, said_one, soundly_on, sound_more}
use Rattle.dex_handshake.proofs.SoundTable.{hears_soundly, quiets_soundly}
use Rattle.own_turn.proofs.TurnsGrowing.{grown_not, grown_on, grown_one}

pub so_far_starts : (chooser : Chooser) (header : Header) (entries : List Entry) → IsHeader header → SoFar header chooser entries [] (nothing (first_standing header entries))
so_far_starts chooser header entries is = record {
  is = refl;
  grown = grown_not header.role chooser (Carried []) entries;
  line = start_sound header.role header.own header.peer entries (CarriesText []) is.own;
  said = tt;
}

pub so_far_hears : (chooser : Chooser) (header : Header) (first : List Entry) (past piece : List ℕ) (frame : FrameShape) (done : Done) → IsHeader header → SoFar header chooser first past done
    → judge piece ≡ Some frame → SoFar header chooser first (past ++ piece) (joined done (stepped done.standing (hears done.standing.line frame)))
so_far_hears chooser header first past piece frame done is s judged =
    let standing = done.standing in
    let step = hears standing.line frame in
    let sound = hears_soundly header.own (MayGoOut standing.desk.entries) (greets header.own is.own standing.desk.entries) (CarriesText past) (CarriesText (past ++ piece)) (carries_nothing (past ++ piece))
    (λ text c. carries_more past piece text c) standing.line frame s.line (frame_goes_on past piece frame judged) in
    soundly_on header chooser first past piece done (stepped standing step) s (record {
      is = s.is;
      grown = grown_not header.role chooser (Carried (past ++ piece)) standing.desk.entries;
      line = sound.0;
      said = said_one (MayGoOut standing.desk.entries) step.say sound.1;
    })

-- one thing, and then another over the same bytes
soundly_same : (chooser : Chooser) (header : Header) (first : List Entry) (past : List ℕ) (one rest : Done) → SoFar header chooser first past one
    → SoFar header chooser one.standing.desk.entries past rest → SoFar header chooser first past (joined one rest)
soundly_same chooser header first past one rest a b =
    subst (λ (l : List ℕ). SoFar header chooser first l (joined one rest)) (append-nil past)
    (soundly_on header chooser first past [] one rest a (subst (λ (l : List ℕ). SoFar header chooser one.standing.desk.entries l rest) (sym (append-nil past)) b))

pub so_far_quiets : (chooser : Chooser) (header : Header) (first : List Entry) (past : List ℕ) (done : Done) → IsHeader header → SoFar header chooser first past done
    → SoFar header chooser first past (joined done (stepped done.standing (quiets done.standing.line)))
so_far_quiets chooser header first past done is s =
    let standing = done.standing in
    let sound = quiets_soundly header.own (MayGoOut standing.desk.entries) (greets header.own is.own standing.desk.entries) (CarriesText past) standing.line s.line in
    let quiet : SoFar header chooser standing.desk.entries past (stepped standing (quiets standing.line)) = record {
      is = s.is;
      grown = grown_not header.role chooser (Carried past) standing.desk.entries;
      line = sound.0;
      said = said_one (MayGoOut standing.desk.entries) (quiets standing.line).say sound.1;
    } in
    soundly_same chooser header first past done (stepped standing (quiets standing.line)) s quiet

pub so_far_adds : (chooser : Chooser) (header : Header) (first : List Entry) (past : List ℕ) (done : Done) (entry : Entry) → SoFar header chooser first past done
    → StaysLegal header.role done.standing.desk.entries entry → IsNewAs entry.kind header.role chooser (Carried past) done.standing.desk.entries entry.payload
    → SoFar header chooser first past (with_entries done (done.standing.desk.entries ++ entry ∷ []))
so_far_adds chooser header first past done entry s legal new =
    let old = done.standing.desk.entries in
    let one = grown_one header.role chooser (Carried past) old entry legal new in
    let more = grows_of header.role chooser (Carried past) old (old ++ entry ∷ []) one in
    record {
      is = s.is;
      grown = grown_on header.role chooser (Carried past) first old (old ++ entry ∷ []) s.grown one;
      line = sound_more header.own old (old ++ entry ∷ []) (CarriesText past) (CarriesText past) more (λ text c. c) done.standing.line s.line;
      said = said_grows old (old ++ entry ∷ []) done.said more s.said;
    }

-- a set that the text heard in this turn lends was carried
pub so_far_lends : (chooser : Chooser) (header : Header) (first : List Entry) (past : List ℕ) (done : Done) (own : Common) (text set : List ℕ) → SoFar header chooser first past done
    → done.standing.line ≡ Finished own text → Contains (sets_lent text) set → Carried past set
so_far_lends chooser header first past done own text set s e inside =
    let sound : IsSound header.own (MayGoOut done.standing.desk.entries) (CarriesText past) (Finished own text) =
    subst (IsSound header.own (MayGoOut done.standing.desk.entries) (CarriesText past)) e s.line in
    lent_carried past text set sound.1 inside

pub so_far_turns : (chooser : Chooser) (header : Header) (first : List Entry) (past : List ℕ) (done : Done) (own : Common) (text load : List ℕ) (desk : Desk) → SoFar header chooser first past done
    → done.standing.line ≡ Finished own text → Turned header chooser done.standing.desk text desk load
    → SoFar header chooser first past (joined done (gave done.standing (Finished own text) desk load))
so_far_turns chooser header first past done own text load desk s e turned =
    let sound : IsSound header.own (MayGoOut done.standing.desk.entries) (CarriesText past) (Finished own text) =
    subst (IsSound header.own (MayGoOut done.standing.desk.entries) (CarriesText past)) e s.line in
    let here : Turned done.standing.header chooser done.standing.desk text desk load =
    subst (λ (head : Header). Turned head chooser done.standing.desk text desk load) (sym s.is) turned in
    let turn = acts_soundly header chooser done.standing (Finished own text) past (gave done.standing (Finished own text) desk load) e s.is sound (desk, load, here, refl) in
    soundly_same chooser header first past done (gave done.standing (Finished own text) desk load) s turn

-- ---- at each moment it is a run

module _ (chooser : Chooser) (header : Header) (first : List Entry) (past rest : List ℕ) (heard : List Reception) (done : Done) (legal : Legal header.role first)
    (s : SoFar header chooser first past done) (bytes : bytes_heard heard ≡ past ++ rest) where
  pub so_far_runs : IsRunOf header.role chooser (record { before = first; heard = heard; gone = bytes_of done; after = done.standing.desk.entries })
  so_far_runs =
      run_of header.role chooser first done.standing.desk.entries heard done.said legal
      (subst (λ (b : List ℕ). IsGrown header.role chooser (Carried b) first done.standing.desk.entries) (sym bytes)
      (grown_weaker header.role chooser (Carried past) (Carried (past ++ rest)) (carried_more past rest) first done.standing.desk.entries s.grown))
      s.said

  -- where a front of a frame more has gone out
  pub so_far_cut : (frame : FrameShape) (front back : List ℕ) → MayGoOut done.standing.desk.entries frame → spelling frame ≡ front ++ back
      → IsRunOf header.role chooser (record { before = first; heard = heard; gone = bytes_of done ++ front; after = done.standing.desk.entries })
  so_far_cut frame front back may e =
      with_gone header.role chooser (record { before = first; heard = heard; gone = bytes_of done; after = done.standing.desk.entries }) (bytes_of done ++ front) so_far_runs
      (front_speaks done.standing.desk.entries done.said frame front back s.said may e)
