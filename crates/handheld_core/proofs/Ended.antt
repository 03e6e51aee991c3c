-- Which word leads a line where a draft is open.
use Rattle.std.proofs.Common.{◌≡◌, ℕ, bytes_eq, codes, true, false, List, ap}
use Rattle.std.proofs.lemmas.Slice.Eq.{bytes_eq-Decides}
use Rattle.plain_lines.specs.PlainText.{LineSeen, leads, piece_of}

-- what leads with END does not lead with COUNTER
pub end_is_no_counter : (line : LineSeen) → leads line (codes "END") ≡ true → leads line (codes "COUNTER") ≡ false
end_is_no_counter line leading = ap (λ (piece : List ℕ). bytes_eq piece (codes "COUNTER")) ((bytes_eq-Decides (piece_of line 0) (codes "END")).0 leading)
