-- The first LF of a text, as a search finds it.
use Rattle.std.proofs.Common.{◌≡◌, ℕ, Bool, true, false, not, List, length, get_or, Option, Some, None, refl, sym, ap, ◌∙◌, arith}
use Rattle.std.specs.List.{position_or_len}
use Rattle.std.specs.Option.{unwrap_or}
use Rattle.std.proofs.lemmas.List.Sums.{prefix_len_is}
use Rattle.memchr.specs.Find.{IsFirstByte, is_byte}
use Rattle.plain_lines.specs.PlainText.{is_line_feed}

other : (test : Bool) → (test ≡ true → ⊥) → not test ≡ true
other true differs = absurd (differs refl)
other false differs = refl

pub feed_is : (text : List ℕ) (found : Option ℕ) (size : ℕ) → IsFirstByte (is_byte 10) text found → size ≡ unwrap_or found (length text) → size ≡ position_or_len is_line_feed text
feed_is text None size first is =
    is ∙ sym (prefix_len_is (λ (b : ℕ). not (is_line_feed b)) text (length text) 0 (omega arith) (λ k below. other (is_line_feed (get_or text k 0)) (first k (omega arith) below)) (λ below. absurd (omega arith)))
feed_is text (Some place) size first is =
    is ∙ sym (prefix_len_is (λ (b : ℕ). not (is_line_feed b)) text place 0 (let high = first.0.high in omega arith)
    (λ k below. other (is_line_feed (get_or text k 0)) (first.0.before k (omega arith) below)) (λ below. ap (λ (b : Bool). not b) first.1))
