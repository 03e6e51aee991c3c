-- What stays of a journal while other calls are made.
use Rattle.std.proofs.Common.{◌≡◌, ℕ, List, [], ◌∷◌, sym, ◌∙◌, subst, append_assoc}
use Rattle.dsd_station.specs.Stops.{then, weaken}
use Rattle.dsd_station.specs.Told.{Told, EachStop}
use Rattle.dsd_journal.specs.declared.entry.Entry.{Entry}
use Rattle.dsd_journal.specs.declared.header.Header.{Header}
use Rattle.dsd_journal.specs.Devices.{since, SinceSync}
use Rattle.dsd_journal.specs.JournalImage.{Holds}
use Rattle.dsd_journal.specs.Journals.{Rests}

-- over calls that leave the journal and what stops may leave of it
pub rests_kept : (header : Header) (entries : List Entry) (old new : Told) → new.journal ≡ old.journal → new.now.sure ≡ old.now.sure → new.now.writes ≡ old.now.writes
    → Rests header entries old → Rests header entries new
rests_kept header entries old new journal sure writes rests = record {
  holds = subst (λ (l : List ℕ). Holds header entries l) (sym journal) rests.holds;
  synced = record { sure = sure ∙ rests.synced.sure ∙ sym journal; writes = writes ∙ rests.synced.writes };
}

-- what is said of each stop since a sync, and of each stop within the calls behind it
pub since_then : (a b c : Told) (P : List ℕ → List ℕ → Type 0) → SinceSync a b → ((image out : List ℕ) → image ≡ a.journal → out ≡ a.now.gone → P image out) → EachStop b c P → EachStop (since a) c P
since_then a b c P s has later = then (weaken P first (λ image out k. has image out k.0 k.1)) later
  where
    first : EachStop (since a) b (λ image out. (image ≡ a.journal) × (out ≡ a.now.gone))
    first = record { during = s.during; past = s.past ∙ sym (append_assoc a.past (a.now ∷ []) s.during); each = s.each; now = s.now }
