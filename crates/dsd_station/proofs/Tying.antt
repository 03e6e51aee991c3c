-- The fields of a tape go along with its record.
use Rattle.std.proofs.Common.{◌≡◌, ℕ, List, [], ◌∷◌, ◌++◌, length, take, refl, sym, ◌∙◌, ap, subst, Bool, true, false, cond, Some, None, Ok, Err}
use Rattle.dsd_station.specs.declared.call.Pick.{Pick}
use Rattle.dsd_station.specs.declared.call.Outcome.TheVariants.{Done, Failing, Stopped}
use Rattle.dsd_station.specs.declared.call.Call.{Call}
use Rattle.dsd_station.specs.declared.call.Call.TheVariants.{Attach, Size, Read, Write, Sync, Listen, Speak, Restart}
use Rattle.dsd_station.specs.Disk.{overwritten}
use Rattle.dsd_station.specs.Replayed.{State, step, replay, state_of, fresh, restarted, picked, applied, taken}
use Rattle.dsd_station.specs.Notes.{IsNote}
use Rattle.dsd_station.specs.Tied.{IsTiedTo}

replay-push : (s : State) (calls : List Call) (c : Call) → replay s (calls ++ c ∷ []) ≡ step (replay s calls) c
replay-push s [] c = refl
replay-push s (x ∷ calls) c = replay-push (step s x) calls c

pub state_push : (calls all : List Call) (c : Call) → all ≡ calls ++ c ∷ [] → state_of all ≡ step (state_of calls) c
state_push calls all c is = ap state_of is ∙ replay-push fresh calls c

-- one write more is one write more that a stop leaves
pub picked-push : (pick : Pick) (sure : List ℕ) (writes : List (ℕ × List ℕ)) (w : ℕ × List ℕ)
    → picked pick sure (writes ++ w ∷ []) ≡ applied (taken pick (length w.1)) w.0 w.1 (picked pick sure writes)
picked-push pick sure [] w = refl
picked-push pick sure (x ∷ writes) w = picked-push pick (applied (taken pick (length x.1)) x.0 x.1 sure) writes w

module _ (calls all : List Call) (journal sure : List ℕ) (pending : List (ℕ × List ℕ)) (spoken : List ℕ) (stopped : Bool) (image : List ℕ) where
  -- of the record with one call more
  pub tied_push : (c : Call) → all ≡ calls ++ c ∷ [] → IsTiedTo (step (state_of calls) c) journal sure pending spoken stopped image → IsTiedTo (state_of all) journal sure pending spoken stopped image
  tied_push c is tied = subst (λ s. IsTiedTo s journal sure pending spoken stopped image) (sym (state_push calls all c is)) tied

module _ (s : State) (journal sure : List ℕ) (pending : List (ℕ × List ℕ)) (spoken : List ℕ) (stopped : Bool) (image : List ℕ) (was : IsTiedTo s journal sure pending spoken stopped image) where
  pub note_tied : (c : Call) → IsNote s c → IsTiedTo (step s c) journal sure pending spoken stopped image
  note_tied (Attach name port (Ok done)) note = record { journal = was.journal; sure = was.sure; pending = was.pending; spoken = was.spoken; left = was.left }
  note_tied (Attach name port (Err failed)) note = record { journal = was.journal; sure = was.sure; pending = was.pending; spoken = was.spoken; left = was.left }
  note_tied (Size answer) note = record { journal = was.journal; sure = was.sure; pending = was.pending; spoken = was.spoken; left = was.left }
  note_tied (Read at room answer) note = record { journal = was.journal; sure = was.sure; pending = was.pending; spoken = was.spoken; left = was.left }
  note_tied (Write at bytes Done) note = absurd note
  note_tied (Write at bytes Failing) note = record { journal = was.journal; sure = was.sure; pending = was.pending; spoken = was.spoken; left = was.left }
  note_tied (Write at bytes (Stopped pick)) note = absurd note
  note_tied (Sync Done) note = absurd note
  note_tied (Sync Failing) note = record { journal = was.journal; sure = was.sure; pending = was.pending; spoken = was.spoken; left = was.left }
  note_tied (Sync (Stopped pick)) note = absurd note
  note_tied (Listen (Ok answer)) note = record { journal = was.journal; sure = was.sure; pending = was.pending; spoken = was.spoken; left = was.left }
  note_tied (Listen (Err failed)) note = record { journal = was.journal; sure = was.sure; pending = was.pending; spoken = was.spoken; left = was.left }
  note_tied (Speak bytes Done) note = absurd note
  note_tied (Speak bytes Failing) note = record { journal = was.journal; sure = was.sure; pending = was.pending; spoken = was.spoken; left = was.left }
  note_tied (Speak bytes (Stopped pick)) note = absurd note
  note_tied Restart note = subst (λ l. IsTiedTo (restarted s l) journal sure pending spoken stopped image) (sym note) was

  pub write_tied : (at : ℕ) (bytes journal' : List ℕ) (pending' : List (ℕ × List ℕ)) → journal' ≡ overwritten journal at bytes → pending' ≡ pending ++ (at, bytes) ∷ []
      → IsTiedTo (step s (Write at bytes Done)) journal' sure pending' spoken stopped image
  write_tied at bytes journal' pending' over more = record {
    journal = over ∙ ap (λ (l : List ℕ). overwritten l at bytes) was.journal;
    sure = was.sure;
    pending = more ∙ ap (λ (l : List (ℕ × List ℕ)). l ++ (at, bytes) ∷ []) was.pending;
    spoken = was.spoken;
    left = was.left;
  }

  pub stop_write_tied : (at : ℕ) (bytes image' : List ℕ) (pick : Pick) → image' ≡ applied (taken pick (length bytes)) at bytes (picked pick sure pending)
      → IsTiedTo (step s (Write at bytes (Stopped pick))) journal sure pending spoken true image'
  stop_write_tied at bytes image' pick is = record {
    journal = was.journal;
    sure = was.sure;
    pending = was.pending;
    spoken = was.spoken;
    left = ap Some (
        picked-push pick s.now.sure s.pending (at, bytes)
        ∙ ap (λ (l : List ℕ). applied (taken pick (length bytes)) at bytes (picked pick l s.pending)) (sym was.sure)
        ∙ ap (λ (l : List (ℕ × List ℕ)). applied (taken pick (length bytes)) at bytes (picked pick sure l)) (sym was.pending)
        ∙ sym is
        );
  }

  pub sync_tied : (sure' : List ℕ) (pending' : List (ℕ × List ℕ)) → sure' ≡ journal → pending' ≡ [] → IsTiedTo (step s (Sync Done)) journal sure' pending' spoken stopped image
  sync_tied sure' pending' is none = record { journal = was.journal; sure = is ∙ was.journal; pending = none; spoken = was.spoken; left = was.left }

  image_is : (image' : List ℕ) (pick : Pick) → image' ≡ picked pick sure pending → Some (picked pick s.now.sure s.pending) ≡ Some image'
  image_is image' pick is = ap Some (ap (λ (l : List ℕ). picked pick l s.pending) (sym was.sure) ∙ ap (λ (l : List (ℕ × List ℕ)). picked pick sure l) (sym was.pending) ∙ sym is)

  pub stop_sync_tied : (image' : List ℕ) (pick : Pick) → image' ≡ picked pick sure pending → IsTiedTo (step s (Sync (Stopped pick))) journal sure pending spoken true image'
  stop_sync_tied image' pick is = record { journal = was.journal; sure = was.sure; pending = was.pending; spoken = was.spoken; left = image_is image' pick is }

  pub speak_tied : (bytes spoken' : List ℕ) → spoken' ≡ spoken ++ bytes → IsTiedTo (step s (Speak bytes Done)) journal sure pending spoken' stopped image
  speak_tied bytes spoken' more = record { journal = was.journal; sure = was.sure; pending = was.pending; spoken = more ∙ ap (λ (l : List ℕ). l ++ bytes) was.spoken; left = was.left }

  pub stop_speak_tied : (bytes spoken' image' : List ℕ) (pick : Pick) → spoken' ≡ spoken ++ take (taken pick (length bytes)) bytes → image' ≡ picked pick sure pending
      → IsTiedTo (step s (Speak bytes (Stopped pick))) journal sure pending spoken' true image'
  stop_speak_tied bytes spoken' image' pick more is = record {
    journal = was.journal;
    sure = was.sure;
    pending = was.pending;
    spoken = more ∙ ap (λ (l : List ℕ). l ++ take (taken pick (length bytes)) bytes) was.spoken;
    left = image_is image' pick is;
  }

  pub restart_tied : (journal' sure' : List ℕ) (pending' : List (ℕ × List ℕ)) → stopped ≡ true → journal' ≡ image → sure' ≡ image → pending' ≡ []
      → IsTiedTo (step s Restart) journal' sure' pending' spoken false image
  restart_tied journal' sure' pending' stops j su none =
      let left : s.left ≡ Some image = was.left ∙ left_is stopped stops in
      subst (λ l. IsTiedTo (restarted s l) journal' sure' pending' spoken false image) (sym left)
      (record { journal = j; sure = su; pending = none; spoken = was.spoken; left = refl })
    where
      left_is : (b : Bool) → b ≡ true → cond b (Some image) None ≡ Some image
      left_is b e = ap (λ (b : Bool). cond b (Some image) None) e
