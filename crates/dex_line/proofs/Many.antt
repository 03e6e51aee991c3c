-- Many bytes at once: what a scanner has begun, and what it hears.
use Rattle.std.proofs.Common.{◌≡◌, ℕ, ◌+◌, ◌-◌, ◌<◌, ◌≤◌, List, [], ◌∷◌, ◌++◌, length, take, drop, get_or, Some, None, Option, refl, sym, ◌∙◌, ap, subst, arith, append-nil, take-take, false}
use Rattle.std.specs.Prelude.{is_some}
use Rattle.std.proofs.lemmas.List.{take_more, take-append-drop, drop-take}
use Rattle.std.proofs.lemmas.List.Sums.{fold-append}
use Rattle.dex_line.specs.Bytes.{dle}
use Rattle.dex_line.specs.FrameShapes.{Ack0}
use Rattle.dex_line.specs.FrameSpelling.{opening, IsBegun}
use Rattle.dex_line.specs.Hearing.{after_answer, hear, hear_all, hearing}
use Rattle.dex_line.specs.Judging.{judge}
use Rattle.dex_line.specs.Scanning.{begun, ended_seen, ending_seen, endings_seen, kept, IsSound}
use Rattle.dex_line.specs.declared.ended.Ended.{Ended}
use Rattle.dex_line.specs.declared.begun.Stage.{Stage}
use Rattle.dex_line.specs.declared.begun.Stage.TheVariants.{Idle, Marked, Text, Closing, Check, Low}
use Rattle.dex_line.proofs.Told.{Told, told_begun, told_so_far, told_marked_end, told_closed, told_low}
use Rattle.dex_line.proofs.Heard.{nothing_begun, begun_heard}

-- what a scanner keeps has begun a frame
pub sound_begun : (stage : Stage) (text : List ℕ) (check : ℕ) → IsSound stage text check → IsBegun (begun stage text)
unfolding Told
sound_begun Idle text check s = nothing_begun
sound_begun Marked text check s = told_begun (dle ∷ []) Ack0 0x30 [] (tt, refl)
sound_begun (Text o) text check s =
    subst (λ l. IsBegun (dle ∷ opening o ∷ l)) (append-nil text) (told_so_far o text s.fits s.bytes)
sound_begun (Closing o) text check s = told_marked_end o text s.0
sound_begun (Check o c) text check s = told_closed o text c s.whole s.closes
sound_begun (Low o c low) text check s = told_low o text c low s.whole s.closes

-- a further piece of the bytes
further : (place next : ℕ) (bytes : List ℕ) → place ≤ next
    → take next bytes ≡ take place bytes ++ take (next - place) (drop place bytes)
further place next bytes on =
    let split : take place (take next bytes) ≡ take place bytes = take-take place next bytes on in
    let n : next ≡ place + (next - place) = omega arith in
    sym (take-append-drop place (take next bytes)) ∙ ap (λ l. l ++ drop place (take next bytes)) split
    ∙ ap (λ m. take place bytes ++ drop place (take m bytes)) n
    ∙ ap (λ l. take place bytes ++ l) (drop-take place (next - place) bytes)

-- text is heard without an answer
pub text_heard : (start bytes old new : List ℕ) (place next : ℕ) → place ≤ next
    → hear_all (hearing start []) (take place bytes) ≡ hearing old []
    → new ≡ old ++ take (next - place) (drop place bytes) → IsBegun new
    → hear_all (hearing start []) (take next bytes) ≡ hearing new []
text_heard start bytes old new place next on heard grows begins =
    let piece : List ℕ = take (next - place) (drop place bytes) in
    ap (hear_all (hearing start [])) (further place next bytes on)
    ∙ fold-append hear (hearing start []) (take place bytes) piece
    ∙ ap (λ h. hear_all h piece) heard ∙ begun_heard old piece [] (subst (λ l. IsBegun l) grows begins)
    ∙ ap (λ l. hearing l []) (sym grows)

-- where nothing has ended there is no frame
pub none_seen : (ended : Option Ended) (text : List ℕ) → is_some ended ≡ false → endings_seen ended text ≡ []
none_seen None text none = refl
none_seen (Some ended) text none = absurd (cc)

-- what one byte leaves is what is heard
step_heard : (bytes new text : List ℕ) (ended : Option Ended) → ending_seen ended text ≡ judge bytes → new ≡ kept ended bytes
    → after_answer [] bytes (judge bytes) ≡ hearing new (endings_seen ended text)
step_heard bytes new text None told left = ap (after_answer [] bytes) (sym told) ∙ ap (λ b. hearing b []) (sym left)
step_heard bytes new text (Some ended) told left =
    ap (after_answer [] bytes) (sym told) ∙ ap (λ b. hearing b (ended_seen ended text ∷ [])) (sym left)

-- a byte is heard with what has ended
pub byte_heard : (start bytes old new text : List ℕ) (place : ℕ) (ended : Option Ended) → place < length bytes
    → hear_all (hearing start []) (take place bytes) ≡ hearing old []
    → ending_seen ended text ≡ judge (old ++ get_or bytes place 0 ∷ [])
    → new ≡ kept ended (old ++ get_or bytes place 0 ∷ [])
    → hear_all (hearing start []) (take (place + 1) bytes) ≡ hearing new (endings_seen ended text)
byte_heard start bytes old new text place ended inside heard told left =
    let b : ℕ = get_or bytes place 0 in
    ap (hear_all (hearing start [])) (take_more bytes place 0 inside)
    ∙ fold-append hear (hearing start []) (take place bytes) (b ∷ [])
    ∙ ap (λ h. hear h b) heard ∙ step_heard (old ++ b ∷ []) new text ended told left
