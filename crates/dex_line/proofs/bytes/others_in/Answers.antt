use Rattle.std.proofs.Common.{ℕ, ltb, eqb, not, cond, bit_and, bit_or, refl}
use Rattle.std.proofs.lemmas.Simd.{zip2_of_maps, zip2_splat, zip2_splat_left}
use Rattle.dex_line.specs.Bytes.{is_no_text, is_text}
use Rattle.dex_line.proofs.TextLanes.{mask_is}
use Rattle.dex_line.proofs.bytes.others_in.Goals as goal

abbrev below : ℕ → ℕ → ℕ
below a b = cond (ltb a b) 255 0

abbrev differs : ℕ → ℕ → ℕ
differs a b = cond (not (eqb a b)) 255 0

pub returns : goal.returns
unfolding is_text
returns c =
    let v = c.args.lanes in
    let long = c.fits-lanes.0 in
    mask_is _ is_no_text v _
    (zip2_of_maps bit_and _ _ v
    (zip2_of_maps bit_and _ _ v
    (zip2_of_maps bit_or _ _ v (zip2_splat below v 32 32 long) (zip2_splat_left below 126 32 v long))
    (zip2_splat differs v 32 13 long))
    (zip2_splat differs v 32 10 long))
    c.fits-lanes refl
