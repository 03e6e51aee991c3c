-- The frames of captured bytes: there is one such list, and it is what a scanner answers.
use Rattle.std.proofs.Common.{◌≡◌, ◌⊎◌, ℕ, ◌+◌, Bool, true, false, Some, None, Option, List, [], ◌∷◌, ◌++◌, length, drop, refl, sym, ◌∙◌, ap, subst, inl, inr, append_assoc, append-nil}
use Rattle.std.specs.Prelude.{◌≢◌, if◌then◌else◌}
use Rattle.dex_line.specs.FrameShapes.{FrameShape, Enq, Ack0, Ack1, Nak, Eot, Header, Block, Damaged, Bad}
use Rattle.dex_line.specs.FrameSpelling.{IsBegun, IsNoFrame, Spelled, spelling}
use Rattle.dex_line.specs.Hearing.{IsAnswered, HeardAs, hear_all, nothing_heard}
use Rattle.dex_line.specs.Scanning.{quieted}
use Rattle.dex_line.specs.Captured.{BeginsWith, BeginsNone, IsFirstFrame, FramesIn, is_refused, left_behind, with_places, and_quiet, frames_from, IsFrameOfSize}
use Rattle.dex_line.proofs.Told.{one_frame, no_front, judged_whole}
use Rattle.dex_line.proofs.Heard.{heard_frames}
use Rattle.dex_line.proofs.Pieces.{split_bytes, same_rest, same_place}

-- ---- bytes that begin with no frame

-- a spelling is no proper front of another one, however long that is
past : (a b : FrameShape) (piece after : List ℕ) (x : ℕ) (more : List ℕ) → Spelled a piece
    → Spelled b ((piece ++ after) ++ x ∷ more) → ⊥
past a b piece [] x more s t =
    no_front a b piece x more s (subst (λ l. Spelled b (l ++ x ∷ more)) (append-nil piece) t)
past a b piece (y ∷ after) x more s t =
    no_front a b piece y (after ++ x ∷ more) s (subst (λ l. Spelled b l) (append_assoc piece (y ∷ after) (x ∷ more)) t)

-- what has begun a frame begins with none
pub begun_none : (bytes : List ℕ) → IsBegun bytes → BeginsNone bytes
begun_none bytes (next, b, more, s) shape after (piece, t, e) =
    past shape next piece after b more t (subst (λ l. Spelled next (l ++ b ∷ more)) e s)

-- a spelling that reaches so far as the byte with which there is no frame, or further
reaches : (front : List ℕ) (last u : ℕ) (r : List ℕ) (shape : FrameShape) → IsNoFrame (front ++ last ∷ []) → last ≡ u
    → Spelled shape (front ++ u ∷ r) → ⊥
reaches front last u [] shape none same t = none.1 shape (subst (λ x. Spelled shape (front ++ x ∷ [])) (sym same) t)
reaches front last u (z ∷ r) shape none same t =
    let whole : Spelled shape (front ++ last ∷ z ∷ r) = subst (λ x. Spelled shape (front ++ x ∷ z ∷ r)) (sym same) t in
    none.0 (shape, z, r, subst (λ l. Spelled shape l) (sym (append_assoc front (last ∷ []) (z ∷ r))) whole)

-- bytes with which what had begun is no frame begin with none
pub answered_none : (front : List ℕ) (last : ℕ) (after : List ℕ) → IsBegun front → IsNoFrame (front ++ last ∷ [])
    → BeginsNone (front ++ last ∷ after)
answered_none front last after (next, b, more, s) none shape rest (piece, t, e) =
    elim (split_bytes front (last ∷ after) piece rest e) [
      | inl (r, p, q) ↦ past shape next piece r b more t (subst (λ l. Spelled next (l ++ b ∷ more)) p s)
      | inr (u, r, p, q) ↦ let same : last ≡ u = cc in reaches front last u r shape none same (subst (λ l. Spelled shape l) p t)
    ]

-- a list with an element is not empty
never_empty : (front : List ℕ) (last : ℕ) (after : List ℕ) → front ++ last ∷ after ≡ [] → ⊥
never_empty [] last after e = cc
never_empty (x ∷ front) last after e = cc

-- ---- the first frame

-- what has begun at the end of the bytes is bad
pub first_open : (bytes : List ℕ) → IsBegun bytes → bytes ≢ [] → IsFirstFrame Bad bytes []
first_open bytes s some = (begun_none bytes s, some, refl)

-- the first piece that is answered is the first frame
pub first_answered : (shape : FrameShape) (piece after : List ℕ) → IsAnswered shape piece
    → IsFirstFrame shape (piece ++ after) (left_behind shape after)
first_answered Enq piece after a = (piece, a.answer, refl)
first_answered Ack0 piece after a = (piece, a.answer, refl)
first_answered Ack1 piece after a = (piece, a.answer, refl)
first_answered Nak piece after a = (piece, a.answer, refl)
first_answered Eot piece after a = (piece, a.answer, refl)
first_answered (Header text) piece after a = (piece, a.answer, refl)
first_answered (Block last text) piece after a = (piece, a.answer, refl)
first_answered Damaged piece after a = ((after, (piece, a.answer, refl)), refl)
first_answered Bad piece after a =
    let same : piece ++ after ≡ a.front ++ a.last ∷ after = ap (λ p. p ++ after) a.whole ∙ append_assoc a.front (a.last ∷ []) after in
    let none : BeginsNone (a.front ++ a.last ∷ after) = answered_none a.front a.last after a.begun (subst (λ p. IsNoFrame p) a.whole a.answer) in
    (subst (λ l. BeginsNone l) (sym same) none, λ e. never_empty a.front a.last after (sym same ∙ e), refl)

-- a first frame is bad, or its spelling stands first
seen : (shape : FrameShape) (bytes left : List ℕ) → IsFirstFrame shape bytes left
    → ((shape ≡ Bad) × BeginsNone bytes × (bytes ≢ []) × (left ≡ [])) ⊎ ((after : List ℕ) × BeginsWith shape bytes after × (left ≡ left_behind shape after))
seen Enq bytes left f = inr (left, f, refl)
seen Ack0 bytes left f = inr (left, f, refl)
seen Ack1 bytes left f = inr (left, f, refl)
seen Nak bytes left f = inr (left, f, refl)
seen Eot bytes left f = inr (left, f, refl)
seen (Header text) bytes left f = inr (left, f, refl)
seen (Block last text) bytes left f = inr (left, f, refl)
seen Damaged bytes left f = inr (f.0.0, f.0.1, f.1)
seen Bad bytes left f = inl (refl, f.0, f.1, f.2)

-- no frame is spelled by no bytes
no_bytes : (shape : FrameShape) (bytes : List ℕ) → bytes ≡ [] → Spelled shape bytes → ⊥
no_bytes shape bytes none s = let e = judged_whole shape [] (subst (λ l. Spelled shape l) none s) in cc

front_empty : (piece after : List ℕ) → piece ++ after ≡ [] → piece ≡ []
front_empty [] after e = refl
front_empty (x ∷ piece) after e = absurd (cc)

-- no frame is first where there are no bytes
first_some : (shape : FrameShape) (bytes left : List ℕ) → IsFirstFrame shape bytes left → bytes ≡ [] → ⊥
first_some shape bytes left f none =
    elim (seen shape bytes left f) [
      | inl (bad, begins, some, e) ↦ some none
      | inr (after, (piece, s, e), g) ↦ no_bytes shape piece (front_empty piece after (sym e ∙ none)) s
    ]

-- there is one first frame
one_first : (a b : FrameShape) (bytes v w : List ℕ) → IsFirstFrame a bytes v → IsFirstFrame b bytes w
    → (a ≡ b) × (v ≡ w)
one_first a b bytes v w f g =
    elim (seen a bytes v f) [
      | inl (bad, none, some, e) ↦ elim (seen b bytes w g) [
        | inl (bad', none', some', e') ↦ (bad ∙ sym bad', e ∙ sym e')
        | inr (after, begins, e') ↦ absurd (none b after begins)
      ]
      | inr (after, (piece, s, i), e) ↦ elim (seen b bytes w g) [
        | inl (bad', none', some', e') ↦ absurd (none' a after (piece, s, i))
        | inr (after', (piece', s', i'), e') ↦
            let same : piece ≡ piece' = same_place a b piece piece' after after' s s' (sym i ∙ i') in
            let shapes : a ≡ b = one_frame a b piece' (subst (λ l. Spelled a l) same s) s' in
            let rest : after ≡ after' = same_rest piece' after after' (ap (λ l. l ++ after) (sym same) ∙ sym i ∙ i') in
            (shapes, e ∙ ap (λ x. left_behind x after) shapes ∙ ap (λ l. left_behind b l) rest ∙ sym e')
      ]
    ]

-- ---- all frames

-- there is one list of frames
pub frames_one : (xs ys : List (ℕ × FrameShape)) (place : ℕ) (bytes : List ℕ) → FramesIn place bytes xs
    → FramesIn place bytes ys → xs ≡ ys
frames_one [] [] place bytes f g = refl
frames_one [] (y ∷ ys) place bytes f (at, left, first, more) = absurd (first_some y.1 bytes left first f)
frames_one (x ∷ xs) [] place bytes (at, left, first, more) g = absurd (first_some x.1 bytes left first g)
frames_one ((p, a) ∷ xs) ((q, b) ∷ ys) place bytes (at, v, first, more) (at', w, first', more') =
    let (shapes, rest) = one_first a b bytes v w first first' in
    let next = subst (λ l. FramesIn (place + length (spelling b)) l xs) rest (subst (λ x. FramesIn (place + length (spelling x)) v xs) shapes more) in
    let on : xs ≡ ys = frames_one xs ys (place + length (spelling b)) w next more' in
    let places : p ≡ q = at ∙ sym at' in
    cc

-- a silence comes behind all answers
and_quiet-cons : (shape : FrameShape) (shapes : List FrameShape) (answer : Option FrameShape)
    → and_quiet (shape ∷ shapes) answer ≡ shape ∷ and_quiet shapes answer
and_quiet-cons shape shapes None = refl
and_quiet-cons shape shapes (Some last) = refl

-- a first frame, and those behind it where it is not refused
pub frames_on : (refused : Bool) (shape : FrameShape) (place : ℕ) (bytes after : List ℕ) (more : List (ℕ × FrameShape))
    → IsFirstFrame shape bytes (if refused then [] else after) → FramesIn (place + length (spelling shape)) after more
    → FramesIn place bytes ((place, shape) ∷ (if refused then [] else more))
frames_on true shape place bytes after more first on = (refl, [], first, refl)
frames_on false shape place bytes after more first on = (refl, after, first, on)

-- what is heard, with a silence behind it, is such a list
frames_heard : (shapes : List FrameShape) (place : ℕ) (bytes rest : List ℕ) → HeardAs bytes shapes rest
    → FramesIn place bytes (with_places place (and_quiet shapes (quieted rest)))
frames_heard [] place bytes [] (same, s) = same
frames_heard [] place bytes (b ∷ rest) (same, s) =
    (refl, [], subst (λ l. IsFirstFrame Bad l []) (sym same) (first_open (b ∷ rest) s (λ e. cc)), refl)
frames_heard (shape ∷ shapes) place bytes rest (piece, after, a, same, h) =
    let on = frames_heard shapes (place + length (spelling shape)) after rest h in
    let first = subst (λ l. IsFirstFrame shape l (left_behind shape after)) (sym same) (first_answered shape piece after a) in
    subst (λ l. FramesIn place bytes (with_places place l)) (sym (and_quiet-cons shape shapes (quieted rest)))
    (frames_on (is_refused shape) shape place bytes after (with_places (place + length (spelling shape)) (and_quiet shapes (quieted rest))) first on)

-- the frames of a scanner are those of the definition
pub frames_are : (place : ℕ) (bytes : List ℕ) → FramesIn place bytes (frames_from place bytes)
unfolding frames_from
frames_are place bytes =
    frames_heard (hear_all nothing_heard bytes).shapes place bytes (hear_all nothing_heard bytes).begun (heard_frames bytes)

-- and no other list is
pub frames_only : (place : ℕ) (bytes : List ℕ) (frames : List (ℕ × FrameShape)) → FramesIn place bytes frames
    → frames ≡ frames_from place bytes
frames_only place bytes frames f = frames_one frames (frames_from place bytes) place bytes f (frames_are place bytes)

-- no bytes, no frames
pub frames_end : (place : ℕ) → frames_from place [] ≡ []
unfolding frames_from
frames_end place = refl

pub frames_none : (place : ℕ) (bytes : List ℕ) → bytes ≡ [] → frames_from place bytes ≡ []
frames_none place bytes none = ap (frames_from place) none ∙ frames_end place

-- ---- one step

-- the first frame, and those of what is then to be read
frames_step : (place : ℕ) (bytes : List ℕ) (shape : FrameShape) (left : List ℕ) → IsFirstFrame shape bytes left
    → frames_from place bytes ≡ (place, shape) ∷ frames_from (place + length (spelling shape)) left
frames_step place bytes shape left first =
    sym (frames_only place bytes ((place, shape) ∷ frames_from (place + length (spelling shape)) left) (refl, left, first, frames_are (place + length (spelling shape)) left))

-- where a refused frame was, and how long, does not count behind it
same_after : (refused : Bool) (p q : ℕ) (after : List ℕ) → (refused ≡ false → p ≡ q)
    → frames_from p (if refused then [] else after) ≡ frames_from q (if refused then [] else after)
same_after true p q after same = frames_end p ∙ sym (frames_end q)
same_after false p q after same = ap (λ n. frames_from n after) (same refl)

-- the same by the number of bytes that the frame took
pub frames_next : (place size : ℕ) (bytes : List ℕ) (shape : FrameShape) → IsFrameOfSize shape bytes size
    → frames_from place bytes ≡ (place, shape) ∷ frames_from (place + size) (left_behind shape (drop size bytes))
frames_next place size bytes shape f =
    let after : List ℕ = drop size bytes in
    frames_step place bytes shape (left_behind shape after) f.first
    ∙ ap (λ l. (place, shape) ∷ l) (same_after (is_refused shape) (place + length (spelling shape)) (place + size) after (λ n. ap (λ m. place + m) (sym (f.counts n))))
