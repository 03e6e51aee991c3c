-- The image that a stop leaves is one that the station allows just then.
use Rattle.std.proofs.Common.{◌≡◌, ℕ, ◌≤◌, List, [], ◌∷◌, ◌++◌, length, refl, sym, ◌∙◌, ap, subst, arith, Option, Some, None, Ok, Err}
use Rattle.dsd_station.specs.declared.call.Pick.{Pick}
use Rattle.dsd_station.specs.declared.call.Pick.TheVariants.{Keep}
use Rattle.dsd_station.specs.declared.call.Outcome.TheVariants.{Done, Failing, Stopped}
use Rattle.dsd_station.specs.declared.call.Call.{Call}
use Rattle.dsd_station.specs.declared.call.Call.TheVariants.{Attach, Size, Read, Write, Sync, Listen, Speak, Restart}
use Rattle.dsd_station.specs.Disk.{MayLeave, Torn, overwritten}
use Rattle.dsd_station.specs.Replayed.{State, step, restarted, fresh, picked, taken, IsFine}
use Rattle.dsd_station.specs.Notes.{Fits}
use Rattle.dsd_station.proofs.Overlay.{torn_applied, torn_same, length-applied, length-overwritten, taken_fewer, applied_all}
use Rattle.dsd_station.proofs.Tying.{picked-push}

-- a write more, torn
pub may_push : (sure : List ℕ) (writes : List (ℕ × List ℕ)) (w : ℕ × List ℕ) (before image : List ℕ) → MayLeave sure writes before → Torn w.0 (length w.1) before image → MayLeave sure (writes ++ w ∷ []) image
may_push sure [] w before image may torn = (image, subst (λ l. Torn w.0 (length w.1) l image) may torn, refl)
may_push sure (v ∷ writes) w before image may torn = (may.0, may.1, may_push may.0 writes w before image may.2 torn)

module _ (s : State) (fine : IsFine s) (at : ℕ) (bytes : List ℕ) (within : at ≤ length s.journal) where
  applied_may : (pick : Pick) → MayLeave s.now.sure (s.now.writes ++ (at, bytes) ∷ []) (picked pick s.now.sure (s.pending ++ (at, bytes) ∷ []))
  applied_may pick =
      subst (λ l. MayLeave s.now.sure (s.now.writes ++ (at, bytes) ∷ []) l) (sym (picked-push pick s.now.sure s.pending (at, bytes)))
      (may_push s.now.sure s.now.writes (at, bytes) (picked pick s.now.sure s.pending) _ (fine.may pick)
      (torn_applied (taken pick (length bytes)) at bytes (picked pick s.now.sure s.pending) (taken_fewer pick (length bytes)) (omega (arith, fine.long pick, within))))

  same_may : (x : List ℕ) → MayLeave s.now.sure s.now.writes x → MayLeave s.now.sure (s.now.writes ++ (at, bytes) ∷ []) x
  same_may x m = may_push s.now.sure s.now.writes (at, bytes) x x m (torn_same at (length bytes) x)

  applied_long : (pick : Pick) → length (picked pick s.now.sure (s.pending ++ (at, bytes) ∷ [])) ≡ length (overwritten s.journal at bytes)
  applied_long pick =
      ap length (picked-push pick s.now.sure s.pending (at, bytes))
      ∙ length-applied (taken pick (length bytes)) at bytes (picked pick s.now.sure s.pending) (taken_fewer pick (length bytes)) (omega (arith, fine.long pick, within))
      ∙ omega (arith, fine.long pick, length-overwritten at bytes s.journal within)

  applied_keeps : picked Keep s.now.sure (s.pending ++ (at, bytes) ∷ []) ≡ overwritten s.journal at bytes
  applied_keeps =
      picked-push Keep s.now.sure s.pending (at, bytes)
      ∙ applied_all at bytes (picked Keep s.now.sure s.pending) (omega (arith, fine.long Keep, within))
      ∙ ap (λ (l : List ℕ). overwritten l at bytes) fine.keeps

some_is : (a b : List ℕ) → Some a ≡ Some b → a ≡ b
some_is a b e = cc

not_both : (o : Option (List ℕ)) (a : List ℕ) → o ≡ None → o ≡ Some a → ⊥
not_both o a none some = cc

pub fine_step : (s : State) (c : Call) → IsFine s → Fits s c → IsFine (step s c)
fine_step s (Attach journal port (Ok done)) fine fits = record { keeps = fine.keeps; may = fine.may; long = fine.long; left = fine.left }
fine_step s (Attach journal port (Err failed)) fine fits = record { keeps = fine.keeps; may = fine.may; long = fine.long; left = fine.left }
fine_step s (Size answer) fine fits = record { keeps = fine.keeps; may = fine.may; long = fine.long; left = fine.left }
fine_step s (Read at room answer) fine fits = record { keeps = fine.keeps; may = fine.may; long = fine.long; left = fine.left }
fine_step s (Write at bytes Done) fine fits = record {
  keeps = applied_keeps s fine at bytes fits;
  may = applied_may s fine at bytes fits;
  long = applied_long s fine at bytes fits;
  left = λ image is. same_may s fine at bytes fits image (fine.left image is);
}
fine_step s (Write at bytes Failing) fine fits = record {
  keeps = fine.keeps;
  may = λ pick. same_may s fine at bytes fits _ (fine.may pick);
  long = fine.long;
  left = λ image is. same_may s fine at bytes fits image (fine.left image is);
}
fine_step s (Write at bytes (Stopped pick)) fine fits = record {
  keeps = fine.keeps;
  may = λ p. same_may s fine at bytes fits _ (fine.may p);
  long = fine.long;
  left = λ image is. subst (λ i. MayLeave s.now.sure (s.now.writes ++ (at, bytes) ∷ []) i) (some_is _ image is) (applied_may s fine at bytes fits pick);
}
fine_step s (Sync Done) fine fits = record { keeps = refl; may = λ pick. refl; long = λ pick. refl; left = λ image is. absurd (not_both s.left image fits is) }
fine_step s (Sync Failing) fine fits = record { keeps = fine.keeps; may = fine.may; long = fine.long; left = fine.left }
fine_step s (Sync (Stopped pick)) fine fits = record {
  keeps = fine.keeps;
  may = fine.may;
  long = fine.long;
  left = λ image is. subst (λ i. MayLeave s.now.sure s.now.writes i) (some_is _ image is) (fine.may pick);
}
fine_step s (Listen (Ok answer)) fine fits = record { keeps = fine.keeps; may = fine.may; long = fine.long; left = fine.left }
fine_step s (Listen (Err failed)) fine fits = record { keeps = fine.keeps; may = fine.may; long = fine.long; left = fine.left }
fine_step s (Speak bytes Done) fine fits = record { keeps = fine.keeps; may = fine.may; long = fine.long; left = fine.left }
fine_step s (Speak bytes Failing) fine fits = record { keeps = fine.keeps; may = fine.may; long = fine.long; left = fine.left }
fine_step s (Speak bytes (Stopped pick)) fine fits = record {
  keeps = fine.keeps;
  may = fine.may;
  long = fine.long;
  left = λ image is. subst (λ i. MayLeave s.now.sure s.now.writes i) (some_is _ image is) (fine.may pick);
}
fine_step s Restart fine fits = go s.left refl
  where
    go : (left : Option (List ℕ)) → s.left ≡ left → IsFine (restarted s left)
    go None is = fine
    go (Some image) is = record { keeps = refl; may = λ pick. refl; long = λ pick. refl; left = λ other some. absurd (not_both _ other refl some) }

pub fine_fresh : IsFine fresh
fine_fresh = record { keeps = refl; may = λ pick. refl; long = λ pick. refl; left = λ image is. absurd (not_both _ image refl is) }

-- what a read gives may be left
pub read_stays : (s : State) → IsFine s → MayLeave s.now.sure s.now.writes s.journal
read_stays s fine = subst (λ l. MayLeave s.now.sure s.now.writes l) fine.keeps (fine.may Keep)
