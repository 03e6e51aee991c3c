-- Any pieces of a stream are heard as the whole, and that is as the frames of the definition.
use Rattle.std.proofs.Common.{◌≡◌, ℕ, List, [], ◌∷◌, ◌++◌, Option, Some, None, refl, sym, ◌∙◌, ap, subst, append_assoc, append-nil}
use Rattle.std.specs.List.{fold, concat}
use Rattle.std.proofs.lemmas.List.Sums.{fold-append}
use Rattle.dex_line.specs.FrameShapes.{FrameShape, Enq}
use Rattle.dex_line.specs.FrameSpelling.{IsBegun, Answers, Spelled}
use Rattle.dex_line.specs.Judging.{judge}
use Rattle.dex_line.specs.Hearing.{IsAnswered, HeardAs, Hearing, after_answer, hear, hear_all, hearing, nothing_heard}
use Rattle.dex_line.proofs.Answered.{answers_judged, judged_answer, begun_judged}

-- in any pieces
pub any_pieces : (h : Hearing) (pieces : List (List ℕ)) → fold hear_all h pieces ≡ hear_all h (concat pieces)
any_pieces h [] = refl
any_pieces h (piece ∷ pieces) = any_pieces (hear_all h piece) pieces ∙ sym (fold-append hear h piece (concat pieces))

-- a front of what has begun has begun
begun_front : (front more : List ℕ) → IsBegun (front ++ more) → IsBegun front
begun_front front [] s = subst (λ b. IsBegun b) (append-nil front) s
begun_front front (x ∷ more) (shape, b, rest, s) =
    (shape, x, more ++ b ∷ rest, subst (λ bytes. Spelled shape bytes) (append_assoc front (x ∷ more) (b ∷ rest)) s)

-- no bytes are a proper front of a spelling
pub nothing_begun : IsBegun []
nothing_begun = (Enq, 5, [], (tt, refl))

-- what has begun is heard without an answer
pub begun_heard : (done more : List ℕ) (shapes : List FrameShape) → IsBegun (done ++ more)
    → hear_all (hearing done shapes) more ≡ hearing (done ++ more) shapes
begun_heard done [] shapes s = ap (λ b. hearing b shapes) (sym (append-nil done))
begun_heard done (b ∷ more) shapes s =
    let group = append_assoc done (b ∷ []) more in
    let on : IsBegun ((done ++ b ∷ []) ++ more) = subst (λ x. IsBegun x) (sym group) s in
    let none : judge (done ++ b ∷ []) ≡ None = begun_judged (done ++ b ∷ []) (begun_front (done ++ b ∷ []) more on) in
    ap (λ a. hear_all (after_answer shapes (done ++ b ∷ []) a) more) none
    ∙ begun_heard (done ++ b ∷ []) more shapes on
    ∙ ap (λ x. hearing x shapes) group

-- an answered piece is heard as its frame
piece_heard : (shape : FrameShape) (piece after : List ℕ) (shapes : List FrameShape) → IsAnswered shape piece
    → hear_all (hearing [] shapes) (piece ++ after) ≡ hear_all (hearing [] (shapes ++ shape ∷ [])) after
piece_heard shape piece after shapes a =
    let start : Hearing = hearing [] shapes in
    let answered : judge (a.front ++ a.last ∷ []) ≡ Some shape = ap judge (sym a.whole) ∙ judged_answer piece (Some shape) a.answer in
    fold-append hear start piece after
    ∙ ap (λ p. hear_all (hear_all start p) after) a.whole
    ∙ ap (λ h. hear_all h after) (fold-append hear start a.front (a.last ∷ []))
    ∙ ap (λ h. hear_all (hear h a.last) after) (begun_heard [] a.front shapes a.begun)
    ∙ ap (λ x. hear_all (after_answer shapes (a.front ++ a.last ∷ []) x) after) answered

-- the frames of the definition are heard behind others
heard_from : (bytes : List ℕ) (shapes : List FrameShape) (rest : List ℕ) (before : List FrameShape)
    → HeardAs bytes shapes rest
    → hear_all (hearing [] before) bytes ≡ hearing rest (before ++ shapes)
heard_from bytes [] rest before (same, s) =
    ap (λ b. hear_all (hearing [] before) b) same
    ∙ begun_heard [] rest before s
    ∙ ap (λ x. hearing rest x) (sym (append-nil before))
heard_from bytes (shape ∷ shapes) rest before (piece, after, a, same, h) =
    ap (λ b. hear_all (hearing [] before) b) same
    ∙ piece_heard shape piece after before a
    ∙ heard_from after shapes rest (before ++ shape ∷ []) h
    ∙ ap (λ x. hearing rest x) (append_assoc before (shape ∷ []) shapes)

-- the frames of the definition are the frames heard, and no others
pub heard_is : (bytes : List ℕ) (shapes : List FrameShape) (rest : List ℕ) → HeardAs bytes shapes rest
    → hear_all nothing_heard bytes ≡ hearing rest shapes
heard_is bytes shapes rest h = heard_from bytes shapes rest [] h

-- ---- the frames heard are frames of the definition

-- what is heard from here on: the answers are added to those before
abbrev Adds : List ℕ → List ℕ → List FrameShape → Hearing → Type 0
Adds begun bytes before to =
    (shapes : List FrameShape) × (to.shapes ≡ before ++ shapes) × HeardAs (begun ++ bytes) shapes to.begun

-- nothing more is heard
adds_nothing : (begun : List ℕ) (before : List FrameShape) → IsBegun begun
    → Adds begun [] before (hearing begun before)
adds_nothing begun before s = ([], sym (append-nil before), (append-nil begun, s))

-- a byte without an answer
adds_begun : (begun more : List ℕ) (b : ℕ) (before : List FrameShape) (to : Hearing)
    → Adds (begun ++ b ∷ []) more before to → Adds begun (b ∷ more) before to
adds_begun begun more b before to (shapes, e, h) =
    (shapes, e, subst (λ x. HeardAs x shapes to.begun) (append_assoc begun (b ∷ []) more) h)

-- a byte with an answer
adds_answer : (begun more : List ℕ) (b : ℕ) (shape : FrameShape) (before : List FrameShape) (to : Hearing)
    → IsBegun begun → Answers (begun ++ b ∷ []) (Some shape) → Adds [] more (before ++ shape ∷ []) to
    → Adds begun (b ∷ more) before to
adds_answer begun more b shape before to s a (shapes, e, h) = (
  shape ∷ shapes,
  e ∙ append_assoc before (shape ∷ []) shapes,
  (begun ++ b ∷ [], more, record { front = begun; last = b; whole = refl; begun = s; answer = a }, sym (append_assoc begun (b ∷ []) more), h),
)

adds_step : (begun more : List ℕ) (b : ℕ) (before : List FrameShape) (a : Option FrameShape) → IsBegun begun
    → Answers (begun ++ b ∷ []) a
    → ((next : List ℕ) (shapes : List FrameShape) → IsBegun next → Adds next more shapes (hear_all (hearing next shapes) more))
    → Adds begun (b ∷ more) before (hear_all (after_answer before (begun ++ b ∷ []) a) more)
adds_step begun more b before None s a on = adds_begun begun more b before _ (on (begun ++ b ∷ []) before a)
adds_step begun more b before (Some shape) s a on =
    adds_answer begun more b shape before _ s a (on [] (before ++ shape ∷ []) nothing_begun)

-- what is heard is added
heard_adds : (bytes begun : List ℕ) (before : List FrameShape) → IsBegun begun
    → Adds begun bytes before (hear_all (hearing begun before) bytes)
heard_adds [] begun before s = adds_nothing begun before s
heard_adds (b ∷ more) begun before s =
    adds_step begun more b before (judge (begun ++ b ∷ [])) s (answers_judged (begun ++ b ∷ []) (judge (begun ++ b ∷ [])) refl) (λ next shapes t. heard_adds more next shapes t)

-- what is heard are the frames of the definition
pub heard_frames : (bytes : List ℕ)
    → HeardAs bytes (hear_all nothing_heard bytes).shapes (hear_all nothing_heard bytes).begun
heard_frames bytes =
    let r : Adds [] bytes [] (hear_all nothing_heard bytes) = heard_adds bytes [] [] nothing_begun in
    subst (λ shapes. HeardAs bytes shapes (hear_all nothing_heard bytes).begun) (sym r.1) r.2

-- ---- what was heard before stays in front

abbrev Behind : List FrameShape → Hearing → Hearing → Type 0
Behind before all later = all ≡ hearing later.begun (before ++ later.shapes)

behind_answer : (before : List FrameShape) (bytes text : List ℕ) (shapes : List FrameShape)
    → ((begun : List ℕ) (shapes : List FrameShape)
    → Behind before (hear_all (hearing begun (before ++ shapes)) bytes) (hear_all (hearing begun shapes) bytes))
    → (answer : Option FrameShape)
    → Behind before (hear_all (after_answer (before ++ shapes) text answer) bytes) (hear_all (after_answer shapes text answer) bytes)
behind_answer before bytes text shapes on None = on text shapes
behind_answer before bytes text shapes on (Some shape) =
    ap (λ (l : List FrameShape). hear_all (hearing [] l) bytes) (append_assoc before shapes (shape ∷ [])) ∙ on [] (shapes ++ shape ∷ [])

pub heard_behind : (before : List FrameShape) (bytes begun : List ℕ) (shapes : List FrameShape)
    → Behind before (hear_all (hearing begun (before ++ shapes)) bytes) (hear_all (hearing begun shapes) bytes)
heard_behind before [] begun shapes = refl
heard_behind before (b ∷ bytes) begun shapes =
    behind_answer before bytes (begun ++ b ∷ []) shapes (λ begun shapes. heard_behind before bytes begun shapes) (judge (begun ++ b ∷ []))
