-- The text bytes at the front of others, as many at a time as a vector has lanes.
use Rattle.std.proofs.Common.{◌≡◌, ℕ, ◌+◌, ◌<◌, ◌≤◌, ◌%◌, ◌^◌, Bool, true, not, cond, eqb, List, [], ◌∷◌, length, take, drop, map, Fits, w8, refl, sym, ◌∙◌, ap, ap₂, arith, drop-drop}
use Rattle.std.specs.List.{position_or_len}
use Rattle.std.proofs.lemmas.Bool.{agree_below, agree_below_at}
use Rattle.std.proofs.lemmas.Bool.Decides.{nat_tests}
use Rattle.std.proofs.lemmas.List.{length-drop, length-map, length-take-le, take-append-drop}
use Rattle.std.proofs.lemmas.List.Folds.{prefix_len-append}
use Rattle.std.proofs.lemmas.List.Sums.{prefix_len-le-length}
use Rattle.std.proofs.lemmas.Simd.{map-map, mask_l-mod}
use lib.Lanes.{mask_l, top, Each1}
use Rattle.dex_line.specs.Bytes.{is_no_text}

-- ---- the mask of a vector

-- two tests that agree on each byte
same_tests : (p q : ℕ → Bool) (bytes : List ℕ) → agree_below p q 256 ≡ true → Each1 (Fits w8) bytes → map p bytes ≡ map q bytes
same_tests p q [] agree fits = refl
same_tests p q (b ∷ bytes) agree fits =
    ap₂ (λ x l. x ∷ l) (agree_below_at p q 256 b agree fits.0.fits) (same_tests p q bytes agree fits.1)

-- lanes whose highest bits are a test of the bytes
pub mask_is : (f : ℕ → ℕ) (q : ℕ → Bool) (lanes tested : List ℕ) → tested ≡ map f lanes
    → (length lanes ≡ 32) × Each1 (Fits w8) lanes → agree_below (λ b. top 7 (f b)) q 256 ≡ true
    → mask_l (map (top 7) tested) % 2 ^ 64 ≡ mask_l (map q lanes)
mask_is f q lanes tested each fits agree =
    ap (λ l. mask_l (map (top 7) l) % 2 ^ 64) each
    ∙ ap (λ l. mask_l l % 2 ^ 64) (map-map (top 7) f lanes ∙ same_tests (λ b. top 7 (f b)) q lanes agree fits.1)
    ∙ mask_l-mod (map q lanes) 64 (omega (arith, length-map lanes q, fits.0))

-- ---- one vector more

-- the text bytes of the first n bytes, and those behind them
text_cut : (n : ℕ) (bytes : List ℕ) → n ≤ length bytes
    → position_or_len is_no_text bytes ≡ cond (eqb (position_or_len is_no_text (take n bytes)) n) (n + position_or_len is_no_text (drop n bytes)) (position_or_len is_no_text (take n bytes))
text_cut n bytes inside =
    let front = take n bytes in
    let behind = position_or_len is_no_text (drop n bytes) in
    let run = position_or_len is_no_text front in
    ap (λ l. position_or_len is_no_text l) (sym (take-append-drop n bytes))
    ∙ prefix_len-append (λ b. not (is_no_text b)) front (drop n bytes)
    ∙ ap (λ k. cond (eqb run k) (k + behind) run) (length-take-le n bytes inside)

module _ (bytes : List ℕ) (size run : ℕ) (room : size + 32 ≤ length bytes)
    (here : run ≡ position_or_len is_no_text (take 32 (drop size bytes)))
    (before : position_or_len is_no_text bytes ≡ size + position_or_len is_no_text (drop size bytes)) where
  left : 32 ≤ length (drop size bytes)
  left = omega (arith, length-drop size bytes)

  cut_here : position_or_len is_no_text (drop size bytes) ≡ cond (eqb run 32) (32 + position_or_len is_no_text (drop 32 (drop size bytes))) run
  cut_here =
      text_cut 32 (drop size bytes) left
      ∙ ap (λ n. cond (eqb n 32) (32 + position_or_len is_no_text (drop 32 (drop size bytes))) n) (sym here)

  -- another byte ends the text in it
  pub run_ends : run < 32 → size + run ≡ position_or_len is_no_text bytes
  run_ends short = let cut = cut_here in grind (arith, nat_tests)

  -- or the text goes on behind it
  pub run_goes_on : 32 ≤ run
      → position_or_len is_no_text bytes ≡ size + 32 + position_or_len is_no_text (drop (size + 32) bytes)
  run_goes_on whole =
      let most = prefix_len-le-length (λ b. not (is_no_text b)) (take 32 (drop size bytes)) in
      let long = length-take-le 32 (drop size bytes) left in
      let same : run ≡ 32 = omega arith in
      let cut = cut_here in
      let next = ap (λ l. position_or_len is_no_text l) (drop-drop 32 size bytes) in
      grind (arith, nat_tests)
