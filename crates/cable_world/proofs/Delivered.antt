-- Frames on a cable are delivered, or dropped.
use Rattle.std.proofs.Common.{◌≡◌, ◌<◌, ◌≤◌, ◌+◌, ◌-◌, true, false, ℕ, List, [], ◌∷◌, ◌++◌, Result, OnOk, Option, Some, None, refl, sym, ◌∙◌, ap, subst, arith, drop, length, map, slice_get, ◌==◌}
use Rattle.std.proofs.lemmas.Bool.Decides.{nat_tests}
use Rattle.std.proofs.lemmas.List.{length-map}
use Rattle.dsd_values.specs.declared.fault.Memory.{Memory}
use Rattle.dsd_values.specs.declared.role.Role.{Role}
use Rattle.dsd_values.specs.declared.role.Role.TheVariants.{Receiver, Supplier}
use Rattle.dsd_station.specs.declared.feeding.Given.TheVariants as given
use Rattle.dex_line.specs.Occurrence.{broken}
use Rattle.cable_world.specs.CableSteps.{Goes, IsOpen}
use Rattle.cable_world.specs.Cables.{cable_of, scene_of, waiting_as}
use Rattle.cable_world.specs.Changing.{Changes, KeepsEnd, KeepsEnds}
use Rattle.cable_world.specs.Obeying.{Delivers, DeliversOf, Hears, HearsAgain, Nothing, Plays, Then, Times, Unplugs, unchanged, without_first}
use Rattle.cable_world.specs.CableLeft.{left_in, left_to_do}
use Rattle.cable_world.specs.Scenes.{Scene, side, with_waiting}
use Rattle.cable_world.specs.Steps.{WorldStep, other}
use Rattle.cable_world.specs.declared.event.Event.TheVariants.{Again, Lose}
use Rattle.cable_world.specs.declared.cable.Cable.{Cable}
use Rattle.cable_world.specs.declared.cable.Waiting.{Waiting}
use Rattle.cable_world.proofs.Going.{after_change, goes_as, goes_becomes, goes_nothing, goes_then, on_ok_so, open_still, same_end}
use Rattle.cable_world.proofs.Exchanged.{goes_no_more}
use Rattle.cable_world.proofs.PlannedSeats.{scene_as}

-- with these frames waiting
abbrev pub left_waiting : List Waiting → Scene → Scene
left_waiting waiting scene = with_waiting scene (map waiting_as waiting)

first_dropped : (frames : List Waiting) → without_first (map waiting_as frames) ≡ map waiting_as (drop 1 frames)
first_dropped [] = refl
first_dropped (one ∷ more) = refl

-- ---- other frames wait

module _ (old mid : Cable) (ready : IsOpen old) (handheld : mid.handheld ≡ old.handheld) (receiver : mid.receiver ≡ old.receiver) (setting : mid.setting ≡ old.setting) (steps : mid.steps.items ≡ old.steps.items) where
  ends_kept : KeepsEnds old mid
  ends_kept = record {
    setting = setting;
    steps = steps;
    handheld = subst (KeepsEnd old.handheld) (sym handheld) (same_end old.handheld);
    receiver = subst (KeepsEnd old.receiver) (sym receiver) (same_end old.receiver);
  }

  pub ready_waiting : IsOpen mid
  ready_waiting = open_still old mid ends_kept ready

  pub waits_else : (after : Scene → Scene) → after (scene_of (cable_of old)) ≡ left_waiting mid.waiting.items (scene_of (cable_of old)) → Goes (Changes after) old mid
  waits_else after is = goes_becomes old mid after ready ends_kept (scene_as mid old.handheld old.receiver mid.waiting.items handheld receiver refl ∙ sym is)

  -- ---- one frame is delivered

  deliver_first : (change : List ℕ → List ℕ) (one : Waiting) (waits : List (Role × List ℕ)) (rest : List (Role × List ℕ)) (scene : Scene) → waits ≡ waiting_as one ∷ rest → (made : List WorldStep) (next : Scene)
      → Hears one.to (given.Bytes (change one.bytes)) (with_waiting scene rest) made next → DeliversOf waits change scene made next
  deliver_first change one waits rest scene is made next hears = subst (λ (w : List (Role × List ℕ)). DeliversOf w change scene made next) (sym is) hears

  pub delivers : (change : List ℕ → List ℕ) (one : Waiting) (bytes : List ℕ) (new : Cable) → old.waiting.items ≡ one ∷ mid.waiting.items → bytes ≡ change one.bytes → Goes (Hears one.to (given.Bytes bytes)) mid new
      → Goes (Delivers change) old new
  delivers change one bytes new is same hears =
      let what = given.Bytes (change one.bytes) in
      let after = left_waiting mid.waiting.items in
      goes_as (Then (Changes after) (Hears one.to what)) (Delivers change) old new
      (λ made next then.
      deliver_first change one (map waiting_as old.waiting.items) (map waiting_as mid.waiting.items) (scene_of (cable_of old)) (ap (map waiting_as) is) made next
      (after_change after (Hears one.to what) (scene_of (cable_of old)) made next then))
      (goes_then (Changes after) (Hears one.to what) old mid new (waits_else after refl) (subst (λ (b : List ℕ). Goes (Hears one.to (given.Bytes b)) mid new) same hears))

  pub delivers_none : (change : List ℕ → List ℕ) → old.waiting.items ≡ [] → mid.waiting.items ≡ [] → Goes (Delivers change) old mid
  delivers_none change none still =
      goes_as (Changes (λ (scene : Scene). scene)) (Delivers change) old mid (λ made next same. subst (λ (w : List (Role × List ℕ)). DeliversOf w change (scene_of (cable_of old)) made next) (sym (ap (map waiting_as) none)) same)
      (goes_becomes old mid (λ (scene : Scene). scene) ready ends_kept (scene_as mid old.handheld old.receiver old.waiting.items handheld receiver (still ∙ sym none)))

  pub delivered_less : (one : Waiting) (new : Cable) (r : Result (Unit {0}) Memory) → old.waiting.items ≡ one ∷ mid.waiting.items → OnOk r (left_to_do new ≤ left_to_do mid) → OnOk r (left_to_do new < left_to_do old)
  delivered_less one new r is left =
      let h = ap (λ s. left_in s.player) handheld in
      let k = ap (λ s. left_in s.player) receiver in
      let n : length old.waiting.items ≡ length mid.waiting.items + 1 = ap (λ (l : List Waiting). length l) is ∙ (omega arith) in
      on_ok_so r left (λ (l : left_to_do new ≤ left_to_do mid). omega (arith, h, k, n, l))

  pub loses : mid.waiting.items ≡ drop 1 old.waiting.items → Goes (Plays Lose) old mid
  loses rest = waits_else (λ (scene : Scene). with_waiting scene (without_first scene.waiting)) (ap (with_waiting (scene_of (cable_of old))) (first_dropped old.waiting.items ∙ ap (map waiting_as) (sym rest)))

  -- ---- the cable is unplugged

  pub unplugs : (new : Cable) → mid.waiting.items ≡ [] → Goes (Then (Hears Supplier given.Unplugged) (Hears Receiver given.Unplugged)) mid new → Goes Unplugs old new
  unplugs new none both =
      let after : Scene → Scene = λ scene. with_waiting scene [] in
      goes_as (Then (Changes after) (Then (Hears Supplier given.Unplugged) (Hears Receiver given.Unplugged))) Unplugs old new
      (after_change after (Then (Hears Supplier given.Unplugged) (Hears Receiver given.Unplugged)) (scene_of (cable_of old)))
      (goes_then (Changes after) (Then (Hears Supplier given.Unplugged) (Hears Receiver given.Unplugged)) old mid new
      (waits_else after (ap (with_waiting (scene_of (cable_of old))) (sym (ap (map waiting_as) none)))) both)

-- ---- none waits

none_long : (frames : List Waiting) → length frames ≡ 0 → frames ≡ []
none_long [] e = refl
none_long (one ∷ more) e = absurd (omega (arith, e))

pub none_waits : (cable : Cable) → cable.waiting.len ≡ 0 → cable.waiting.items ≡ []
none_waits cable e = let (is, wrapped) = cable.waiting.ok in none_long cable.waiting.items (omega (arith, e, is))

pub passes_none : (n : ℕ) (at : Cable) → (at.waiting.len == 0) ≡ true → IsOpen at → Goes (Times n (Delivers unchanged)) at at
passes_none n at e ready =
    let none : at.waiting.len ≡ 0 = grind (arith, nat_tests) in
    goes_no_more (Delivers unchanged) n at ready (subst (λ (w : List (Role × List ℕ)). DeliversOf w unchanged (scene_of (cable_of at)) [] (scene_of (cable_of at))) (sym (ap (map waiting_as) (none_waits at none))) (refl, refl))

pub none_by : (cable : Cable) → (cable.waiting.len == 0) ≡ true → map waiting_as cable.waiting.items ≡ []
none_by cable e = let none : cable.waiting.len ≡ 0 = grind (arith, nat_tests) in ap (map waiting_as) (none_waits cable none)

pub some_by : (cable : Cable) → (cable.waiting.len == 0) ≡ false → 0 < length (map waiting_as cable.waiting.items)
some_by cable e =
    let (is, wrapped) = cable.waiting.ok in
    let some : 0 < cable.waiting.len = grind (arith, nat_tests) in
    let same = length-map cable.waiting.items waiting_as in
    omega (arith, is, some, same)

-- ---- again

module _ (role : Role) (k : ℕ) (at : Cable) where
  abbrev spoken_before : Option (List ℕ)
  spoken_before = slice_get (side (scene_of (cable_of at)) (other role)).spoken (k - 1)

  again_here : (spoken : Option (List ℕ)) (new : Cable) → spoken_before ≡ spoken → Goes (HearsAgain spoken role) at new → Goes (Plays (Again role k)) at new
  again_here spoken new is hears = goes_as (HearsAgain spoken role) (Plays (Again role k)) at new (λ made next h. subst (λ (s : Option (List ℕ)). HearsAgain s role (scene_of (cable_of at)) made next) (sym is) h) hears

  pub again_none : spoken_before ≡ None → IsOpen at → Goes (Plays (Again role k)) at at
  again_none none ready = again_here None at none (goes_as Nothing (HearsAgain None role) at at (λ made next nothing. nothing) (goes_nothing at ready))

  pub again_some : (frame bytes : List ℕ) (new : Cable) → spoken_before ≡ Some frame → bytes ≡ frame → Goes (Hears role (given.Bytes bytes)) at new → Goes (Plays (Again role k)) at new
  again_some frame bytes new is same hears =
      again_here (Some bytes) new (is ∙ ap Some (sym same)) (goes_as (Hears role (given.Bytes bytes)) (HearsAgain (Some bytes) role) at new (λ made next h. h) hears)

-- ---- the last byte

pub broken_last : (front : List ℕ) (last : ℕ) → front ++ (255 - last) ∷ [] ≡ broken (front ++ last ∷ [])
broken_last [] last = refl
broken_last (a ∷ []) last = refl
broken_last (a ∷ b ∷ front) last = ap (λ (l : List ℕ). a ∷ l) (broken_last (b ∷ front) last)
