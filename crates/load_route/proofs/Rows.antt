-- A row of texts, one for each of the first numbers, as a loop writes it.
use Rattle.std.proofs.Common.{◌≡◌, ℕ, suc, ◌+◌, ◌-◌, ◌<◌, List, ◌++◌, ap, sym, ◌∙◌, append_assoc, arith}
use Rattle.std.specs.List.{flat_map, range_with_len}

-- the texts that are left behind the first so many
abbrev pub left : (ℕ → List ℕ) → ℕ → ℕ → List ℕ
left text done count = flat_map text (range_with_len (done + 1) (count - done))

pub one_more : (text : ℕ → List ℕ) (index count : ℕ) (done now all : List ℕ) → index < count → now ≡ done ++ text (index + 1) → done ++ left text index count ≡ all → now ++ left text (index + 1) count ≡ all
one_more text index count done now all below made before =
    let rest : List ℕ = left text (index + 1) count in
    let next : count - index ≡ suc (count - (index + 1)) = omega arith in
    ap (λ (l : List ℕ). l ++ rest) made ∙ append_assoc done (text (index + 1)) rest
    ∙ sym (ap (λ (n : ℕ). done ++ flat_map text (range_with_len (index + 1) n)) next) ∙ before
