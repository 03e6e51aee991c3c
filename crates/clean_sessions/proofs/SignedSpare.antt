-- What may still be spoken of the signed sets of a delivery, and what each set that is signed adds to it.
use Rattle.std.proofs.Common.{◌≡◌, ◌≤◌, ◌+◌, ◌-◌, ◌*◌, ℕ, zero, suc, Bool, true, false, if◌then◌else◌, length, drop, List, [], ◌∷◌, ◌++◌, Option, Some, None, refl, sym, ap, subst, ◌∙◌, length-append, arith}
use Rattle.dex_line.specs.BlockCut.{blocks_of}
use Rattle.delivery_book.specs.Deeds.{Deed}
use Rattle.delivery_book.specs.Lookups.{last_of}
use Rattle.clean_sessions.specs.SinceLast.{blocks_of_deeds, from_last}
use Rattle.clean_sessions.proofs.HearingTurns.{last_behind}

abbrev pub blocks_of_one : Option Deed → ℕ
blocks_of_one None = 0
blocks_of_one (Some deed) = length (blocks_of deed.text)

abbrev pub last_blocks : List Deed → ℕ
last_blocks deeds = blocks_of_one (last_of deeds)

-- how often it may still be spoken: each time counts twice where it is spoken once at most
abbrev pub left : Bool → ℕ → ℕ
left false times = 2 - times
left true times = 2 * (1 - times)

abbrev pub share : Bool → ℕ → ℕ
share false blocks = blocks
share true blocks = 2 * blocks

-- the most times before it is spoken
abbrev pub most_times : Bool → ℕ
most_times false = 1
most_times true = 0

-- the last one as often as it may still be spoken
abbrev pub spare : Bool → List Deed → ℕ → ℕ
spare once deeds times = left once times * last_blocks deeds

abbrev pub since : ℕ → List Deed → ℕ
since count deeds = blocks_of_deeds (from_last count deeds)

-- from these signed sets, of which the last was spoken so often, to those
pub record Spares (once : Bool) (count : ℕ) (old : List Deed) (times : ℕ) (new : List Deed) (later : ℕ) : Type 0 where
  pub less : spare once new later + 2 * since count old ≤ spare once old times + 2 * since count new
  pub kept : count ≤ length new

abbrev pub AreSpare : Bool → ℕ → List Deed → ℕ → List Deed → ℕ → Type 0
AreSpare once count old times new later = count ≤ length old → Spares once count old times new later

pub spare_same : (once : Bool) (count : ℕ) (old : List Deed) (times : ℕ) (new : List Deed) (later : ℕ) → new ≡ old → later ≡ times → AreSpare once count old times new later
spare_same once count old times new later e f there =
    subst (λ (l : List Deed). Spares once count old times l later) (sym e) (subst (Spares once count old times old) (sym f) (record { less = omega arith; kept = there }))

pub spare_then : (once : Bool) (count : ℕ) (a : List Deed) (s : ℕ) (b : List Deed) (t : ℕ) (c : List Deed) (u : ℕ) → AreSpare once count a s b t → AreSpare once count b t c u → AreSpare once count a s c u
spare_then once count a s b t c u first second there =
    let one = first there in
    let two = second one.kept in
    let x = one.less in
    let y = two.less in
    record { less = omega (arith, x, y); kept = two.kept }

-- ---- a set that is signed

one_more : (deeds : List Deed) (deed : Deed) → blocks_of_deeds (deeds ++ deed ∷ []) ≡ blocks_of_deeds deeds + length (blocks_of deed.text)
one_more [] deed = omega arith
one_more (first ∷ deeds) deed = let rest = one_more deeds deed in omega (arith, rest)

dropped_more : (count : ℕ) (deeds : List Deed) (deed : Deed) → count ≤ length deeds → blocks_of_deeds (drop count (deeds ++ deed ∷ [])) ≡ blocks_of_deeds (drop count deeds) + length (blocks_of deed.text)
dropped_more zero deeds deed le = one_more deeds deed
dropped_more (suc count) [] deed le = absurd (omega (arith, le))
dropped_more (suc count) (first ∷ deeds) deed le = dropped_more count deeds deed (omega (arith, le))

pub left_first : (once : Bool) → left once 0 ≡ 2
left_first true = refl
left_first false = refl

pub spare_signed : (once : Bool) (count : ℕ) (old : List Deed) (times : ℕ) (deed : Deed) → AreSpare once count old times (old ++ deed ∷ []) 0
spare_signed once count old times deed there =
    let more = dropped_more (count - 1) old deed (omega (arith, there)) in
    let last : last_blocks (old ++ deed ∷ []) ≡ length (blocks_of deed.text) = ap blocks_of_one (last_behind old deed) in
    let size = length-append old (deed ∷ []) in
    let both : spare once (old ++ deed ∷ []) 0 ≡ 2 * length (blocks_of deed.text) = ap (λ (n : ℕ). n * last_blocks (old ++ deed ∷ [])) (left_first once) ∙ ap (λ (n : ℕ). 2 * n) last in
    record { less = omega (arith, more, both); kept = omega (arith, there, size) }

-- ---- a set that is spoken

abbrev pub cost : Bool → List Deed → ℕ
cost goes deeds = if goes then last_blocks deeds else 0

abbrev pub times_then : Bool → ℕ → ℕ
times_then goes times = if goes then times + 1 else times

pub spoken_spare : (once goes : Bool) (deeds : List Deed) (times : ℕ) → (goes ≡ true → times ≤ most_times once) → share once (cost goes deeds) + spare once deeds (times_then goes times) ≤ spare once deeds times
spoken_spare true false deeds times low = omega arith
spoken_spare false false deeds times low = omega arith
spoken_spare once true deeds times low = by once times (last_blocks deeds) (low refl)
  where
    by : (b : Bool) (n w : ℕ) → n ≤ most_times b → share b w + left b (n + 1) * w ≤ left b n * w
    by false zero w le = omega arith
    by false (suc zero) w le = omega arith
    by false (suc (suc n)) w le = absurd (omega (arith, le))
    by true zero w le = omega arith
    by true (suc n) w le = absurd (omega (arith, le))

-- ---- as a session begins

pub since_all : (deeds : List Deed) → since (length deeds) deeds ≡ last_blocks deeds
since_all [] = refl
since_all (one ∷ []) = omega arith
since_all (one ∷ two ∷ deeds) = subst (λ (n : ℕ). blocks_of_deeds (drop n (one ∷ two ∷ deeds)) ≡ last_blocks (two ∷ deeds)) (whole (length deeds)) (rest (since_all (two ∷ deeds)))
  where
    whole : (n : ℕ) → suc n ≡ suc (suc n) - 1
    whole n = omega arith

    rest : since (length (two ∷ deeds)) (two ∷ deeds) ≡ last_blocks (two ∷ deeds) → blocks_of_deeds (drop (length deeds) (two ∷ deeds)) ≡ last_blocks (two ∷ deeds)
    rest e = subst (λ (n : ℕ). blocks_of_deeds (drop n (two ∷ deeds)) ≡ last_blocks (two ∷ deeds)) (less (length deeds)) e
      where
        less : (n : ℕ) → suc n - 1 ≡ n
        less n = omega arith
