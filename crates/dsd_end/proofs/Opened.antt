-- An end is opened.
use Rattle.std.proofs.Common.{◌≡◌, ◌⊎◌, inl, inr, ℕ, true, List, [], ◌∷◌, sym, ◌∙◌, subst, append_assoc, append-nil, Result, Err}
use Rattle.dex_handshake.specs.LineTable.{LineStep, started}
use Rattle.dex_handshake.specs.Sound.{IsSayable}
use Rattle.dsd_values.specs.declared.role.Role.{Role}
use Rattle.dsd_record.specs.Choices.{Chooser}
use Rattle.dsd_station.specs.Stops.{weaken}
use Rattle.dsd_station.specs.Told.{Told}
use Rattle.dsd_journal.specs.Devices.{Opens, SinceSync, Untouched, since}
use Rattle.dsd_journal.specs.Headers.{IsHeader}
use Rattle.dsd_journal.specs.JournalImage.{Holds}
use Rattle.dsd_journal.specs.Journals.{Rests}
use Rattle.dsd_journal.specs.declared.entry.Entry.{Entry}
use Rattle.dsd_journal.specs.declared.header.Header.{Header}
use Rattle.delivery_book.specs.Signing.{Legal}
use Rattle.own_turn.specs.Desks.{DeskView}
use Rattle.dsd_end.specs.MachineSeen.{CanGoOn}
use Rattle.dsd_end.specs.RunSoFar.{ComesTo, LeavesRun, Runs}
use Rattle.dsd_end.specs.Standings.{first_standing}
use Rattle.dsd_end.proofs.RunsComing.{comes_as, comes_first}
use Rattle.dsd_end.proofs.RunsLeft.{leaves_here}
use Rattle.dsd_end.proofs.StepsGoing.{started_sayable}

-- the fault of a call that hands it on
pub same_fault : {A F : Type 0} (a b : F) → (let r : Result A F = Err a in r) ≡ Err b → a ≡ b
same_fault a b e = cc

-- a session that begins at this desk
pub opened_ready : (desk : DeskView) (role : Role) (step : LineStep) → desk.book.works ≡ true → desk.book.staged ≡ [] → desk.book.known ≡ desk.book.entries → IsHeader desk.book.header
    → step ≡ started role desk.book.header.own desk.book.header.peer → CanGoOn desk step.next
opened_ready desk role step works staged known titled seen = record {
  works = works;
  flushed = staged;
  known = known;
  titled = titled;
  sayable = subst (λ (x : LineStep). IsSayable desk.book.header.own x.next) (sym seen) (started_sayable role desk.book.header.own desk.book.header.peer titled.own);
}

module _ (chooser : Chooser) (header : Header) (entries : List Entry) (F : Type 0) (old new : Told) (legal : Legal header.role entries) (rests : Rests header entries new) (opens : Opens F old new) (fine : F → ⊥) where
  synced : (F × Untouched old new) ⊎ SinceSync old new → SinceSync old new
  synced (inl failed) = absurd (fine failed.0)
  synced (inr s) = s

  begins : ComesTo chooser entries old.now.gone [] [] (first_standing header entries) old.now.gone
  begins = comes_first chooser header entries old.now.gone rests.holds.journal.leads.titled legal

  pub opening_runs : Runs chooser entries (since old) (first_standing header entries) new
  opening_runs =
      let s = synced opens.later in
      record {
        heard = [];
        since = opens.keeps.heard ∙ sym (append-nil old.heard);
        stops = weaken (LeavesRun header chooser entries old.now.gone [])
            (record { during = s.during; past = s.past ∙ sym (append_assoc old.past (old.now ∷ []) s.during); each = s.each; now = s.now })
            (λ image out k. leaves_here chooser entries old.now.gone [] (first_standing header entries) old.now.gone [] begins image out
            (subst (λ (i : List ℕ). Holds header entries i) (opens.journal ∙ sym k.0) rests.holds) k.1);
        comes = λ on. comes_as chooser entries old.now.gone [] (first_standing header entries) old.now.gone new.now.gone [] opens.gone begins;
      }
