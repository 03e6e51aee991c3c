-- What a read of k bytes moves out of the bytes from a place on.
use Rattle.std.proofs.Common.{◌≡◌, ℕ, ◌+◌, List, ◌++◌, length, take, drop, sym, ap, ◌∙◌, arith}
use Rattle.std.proofs.lemmas.List.{take-append-drop, take-append-le, take_all, drop-drop}

-- a list that begins with a piece, from the piece on
pub piece_then_rest : (bytes piece into : List ℕ) (at k : ℕ) → piece ≡ take k (drop at bytes) → length piece ≡ k → drop at bytes ≡ take k (piece ++ drop k into) ++ drop (at + k) bytes
piece_then_rest bytes piece into at k e len =
    let seam : take k (piece ++ drop k into) ≡ piece = take-append-le k piece (drop k into) (omega arith) ∙ take_all k piece (omega arith) in
    sym (take-append-drop k (drop at bytes)) ∙ ap (λ t. t ++ drop k (drop at bytes)) (sym e)
    ∙ ap (λ t. piece ++ t) (drop-drop k at bytes) ∙ ap (λ t. t ++ drop (at + k) bytes) (sym seam)
