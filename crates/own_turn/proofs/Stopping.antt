-- What a turn leaves of its station.
use Rattle.std.proofs.Common.{◌≡◌, ℕ, true, List, [], ◌∷◌, ◌++◌, refl, sym, ◌∙◌, subst, inl, inr, is_ok, arith}
use Rattle.std.specs.Prelude.{Contains}
use Rattle.dsd_station.specs.Disk.{MayLeave}
use Rattle.dsd_station.specs.Stops.{none_passed, weaken}
use Rattle.dsd_station.specs.Told.{Told}
use Rattle.dsd_station.proofs.Making.{makes_none}
use Rattle.dsd_record.specs.Choices.{Chooser}
use Rattle.dsd_journal.specs.JournalImage.{Holds}
use Rattle.dsd_journal.specs.Journals.{Rests, WithOrWithout}
use Rattle.dsd_journal.specs.declared.entry.Entry.{Entry}
use Rattle.dsd_journal.specs.declared.header.Header.{Header}
use Rattle.dsd_journal.proofs.Looking.{keeps_none}
use Rattle.own_turn.specs.Desks.{GrowsTo, Stores}
use Rattle.own_turn.specs.Staging.{IsFlushed}
use Rattle.own_turn.specs.TurnsGrow.{IsGrown}
use Rattle.own_turn.proofs.TurnsGrowing.{grown_not}

module _ (header : Header) (chooser : Chooser) (sets : List (List ℕ)) (entries : List Entry) where
  abbrev Grows : List ℕ → Type 0
  Grows image = GrowsTo header chooser sets entries image

  -- the entries themselves
  holds_them : (image : List ℕ) → Holds header entries image → Grows image
  holds_them image h = record { last = entries; holds = h; grown = grown_not header.role chooser (Contains sets) entries }

  holds_some : (added : List Entry) (image : List ℕ) → IsGrown header.role chooser (Contains sets) entries (entries ++ added) → WithOrWithout header entries added image → Grows image
  holds_some added image g (inl h) = holds_them image h
  holds_some added image g (inr h) = record { last = entries ++ added; holds = h; grown = g }

  -- a flush of what was added
  pub stores_flushed : (added : List Entry) (old new : Told) → IsGrown header.role chooser (Contains sets) entries (entries ++ added) → IsFlushed header entries added old new → Stores header chooser sets entries old new
  stores_flushed added old new g f = record {
    keeps = f.flushes.appends.keeps;
    gone = f.flushes.appends.gone;
    syncs = f.flushes.appends.syncs;
    made = (added, (is_ok f.result, f.flushes.made));
    stops = weaken (λ image out. Grows image × (out ≡ old.now.gone)) f.flushes.appends.stops (λ image out k. (holds_some added image g k.0, k.1));
  }

  left_sure : (sure image : List ℕ) (writes : List (ℕ × List ℕ)) → writes ≡ [] → MayLeave sure writes image → image ≡ sure
  left_sure sure image [] e left = left
  left_sure sure image (write ∷ writes) e left = cc

  -- nothing was flushed
  pub stores_none : (told : Told) → Rests header entries told → Stores header chooser sets entries told told
  stores_none told rests = record {
    keeps = keeps_none told;
    gone = refl;
    syncs = omega arith;
    made = ([], (true, makes_none told));
    stops = none_passed told (λ image out. Grows image × (out ≡ told.now.gone)) (λ image out left.
        let same : image ≡ told.journal = left_sure told.now.sure image told.now.writes rests.synced.writes left.image_of ∙ rests.synced.sure in
        (holds_them image (subst (Holds header entries) (sym same) rests.holds), left.gone_of));
  }
