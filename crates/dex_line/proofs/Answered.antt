-- What bytes are judged to be is what they are to be answered with, and nothing else is.
use Rattle.std.proofs.Common.{◌≡◌, ◌⊎◌, ℕ, Bool, true, false, List, [], ◌∷◌, ◌++◌, length, Option, Some, None, refl, sym, ◌∙◌, ap, subst, inl, inr, arith, append_assoc, ◌&&◌, ◌==◌, nat_lt}
use Rattle.std.specs.Prelude.{if◌then◌else◌}
use Rattle.std.proofs.lemmas.Bool.Decides.{nat_tests}
use Rattle.dex_line.specs.FrameShapes.{FrameShape, Enq, Ack0, Ack1, Nak, Eot, Header, Block, Damaged, Bad}
use Rattle.dex_line.specs.Bytes.{is_text}
use Rattle.dex_line.specs.FrameSpelling.{most_text, is_closing, Spelled, IsBegun, IsNoFrame, Answers}
use Rattle.dex_line.specs.Judging.{ends, closed, checked, judge, judge_marked, judge_text, judge_closing, judge_check}
use Rattle.dex_line.specs.declared.frame.Opened.{Opened}
use Rattle.dex_line.specs.declared.frame.Opened.TheVariants as opens
use Rattle.dex_line.proofs.Told.{Told, told_if, told_bad, told_ends, told_begun, told_text, judged_whole, never_bad, no_front}

is_eq : (b n : ℕ) → (b == n) ≡ true → b ≡ n
is_eq b n h = grind (arith, nat_tests)

-- a frame of these bytes, with more behind it
told_at : (shape : FrameShape) (front : List ℕ) (n b : ℕ) (more : List ℕ) → (b == n) ≡ true
    → Spelled shape (front ++ n ∷ []) → Told (front ++ b ∷ more) (ends shape more)
told_at shape front n b more h s =
    subst (λ m. Told (front ++ m ∷ more) (ends shape more)) (sym (is_eq b n h))
    (subst (λ x. Told x (ends shape more)) (append_assoc front (n ∷ []) more) (told_ends shape (front ++ n ∷ []) more s))

-- the same where the byte that opens a text is known by a test
told_opened : (b n : ℕ) (more : List ℕ) (a : Option FrameShape) → (b == n) ≡ true → Told (16 ∷ n ∷ more) a
    → Told (16 ∷ b ∷ more) a
told_opened b n more a h t = subst (λ m. Told (16 ∷ m ∷ more) a) (sym (is_eq b n h)) t

-- behind a first DLE
told_marked : (rest : List ℕ) → Told (16 ∷ rest) (judge_marked rest)
told_marked [] = told_begun (16 ∷ []) Ack0 0x30 [] (tt, refl)
told_marked (b ∷ more) =
    let bytes : List ℕ = 16 ∷ b ∷ more in
    let last : Option FrameShape = if b == 2 then judge_text opens.Block [] more else Some Bad in
    let third : Option FrameShape = if b == 1 then judge_text opens.Header [] more else last in
    let second : Option FrameShape = if b == 0x31 then ends Ack1 more else third in
    told_if bytes (b == 0x30) (ends Ack0 more) second (λ h. told_at Ack0 (16 ∷ []) 0x30 b more h (tt, refl)) (λ _.
    told_if bytes (b == 0x31) (ends Ack1 more) third (λ h. told_at Ack1 (16 ∷ []) 0x31 b more h (tt, refl)) (λ _.
    told_if bytes (b == 1) (judge_text opens.Header [] more) last (λ h. told_opened b 1 more (judge_text opens.Header [] more) h (told_text opens.Header [] more (omega arith) refl)) (λ _.
    told_if bytes (b == 2) (judge_text opens.Block [] more) (Some Bad) (λ h. told_opened b 2 more (judge_text opens.Block [] more) h (told_text opens.Block [] more (omega arith) refl)) (λ _. told_bad bytes))))

-- what bytes are judged to be is told of them
told : (bytes : List ℕ) → Told bytes (judge bytes)
told [] = told_begun [] Enq 5 [] (tt, refl)
told (b ∷ more) =
    let bytes : List ℕ = b ∷ more in
    let last : Option FrameShape = if b == 4 then ends Eot more else Some Bad in
    let third : Option FrameShape = if b == 21 then ends Nak more else last in
    let second : Option FrameShape = if b == 5 then ends Enq more else third in
    told_if bytes (b == 16) (judge_marked more) second (λ h. subst (λ m. Told (m ∷ more) (judge_marked more)) (sym (is_eq b 16 h)) (told_marked more)) (λ _.
    told_if bytes (b == 5) (ends Enq more) third (λ h. told_at Enq [] 5 b more h (tt, refl)) (λ _.
    told_if bytes (b == 21) (ends Nak more) last (λ h. told_at Nak [] 21 b more h (tt, refl)) (λ _.
    told_if bytes (b == 4) (ends Eot more) (Some Bad) (λ h. told_at Eot [] 4 b more h (tt, refl)) (λ _. told_bad bytes))))

-- ---- what is no frame stays so

-- once bad, bad with more behind it
abbrev Stays : Option FrameShape → Option FrameShape → Type 0
Stays a b = a ≡ Some Bad → b ≡ Some Bad

stays_if : (t : Bool) (x y v w : Option FrameShape) → Stays x v → Stays y w
    → Stays (if t then x else y) (if t then v else w)
stays_if true x y v w f g = f
stays_if false x y v w f g = g

-- a whole frame, with more behind it
stays_ends : (shape : FrameShape) (rest more : List ℕ) → (shape ≡ Bad → ⊥)
    → Stays (ends shape rest) (ends shape (rest ++ more))
stays_ends shape [] more n h = let e : shape ≡ Bad = cc in absurd (n e)
stays_ends shape (b ∷ rest) more n h = refl

-- a header or block is never judged bad at its end
closed_not_bad : (o : Opened) (text : List ℕ) (c : ℕ) → closed o text c ≡ Bad → ⊥
closed_not_bad opens.Header text c h = cc
closed_not_bad opens.Block text c h = cc

if_not_bad : (t : Bool) (x y : FrameShape) → (x ≡ Bad → ⊥) → (y ≡ Bad → ⊥) → (if t then x else y) ≡ Bad → ⊥
if_not_bad true x y f g = f
if_not_bad false x y f g = g

checked_not_bad : (o : Opened) (text : List ℕ) (c low high : ℕ) → checked o text c low high ≡ Bad → ⊥
checked_not_bad o text c low high = if_not_bad _ (closed o text c) Damaged (closed_not_bad o text c) (λ h. cc)

-- each step of the decision stays bad
stays_check : (o : Opened) (text : List ℕ) (c : ℕ) (rest more : List ℕ)
    → Stays (judge_check o text c rest) (judge_check o text c (rest ++ more))
stays_check o text c [] more h = absurd (cc)
stays_check o text c (low ∷ []) more h = absurd (cc)
stays_check o text c (low ∷ high ∷ rest) more h =
    stays_ends (checked o text c low high) rest more (checked_not_bad o text c low high) h

stays_closing : (o : Opened) (text rest more : List ℕ)
    → Stays (judge_closing o text rest) (judge_closing o text (rest ++ more))
stays_closing o text [] more h = absurd (cc)
stays_closing o text (c ∷ rest) more h =
    stays_if (is_closing o c) (judge_check o text c rest) (Some Bad) (judge_check o text c (rest ++ more)) (Some Bad) (stays_check o text c rest more) (λ e. refl) h

stays_text : (o : Opened) (text rest more : List ℕ)
    → Stays (judge_text o text rest) (judge_text o text (rest ++ more))
stays_text o text [] more h = absurd (cc)
stays_text o text (b ∷ rest) more h =
    let grown : List ℕ = text ++ b ∷ [] in
    let room : Bool = nat_lt (length text) (most_text o) in
    let mark : Bool = b == 16 && nat_lt 0 (length text) in
    stays_if (is_text b) (if room then judge_text o grown rest else Some Bad) (if mark then judge_closing o text rest else Some Bad)
    (if room then judge_text o grown (rest ++ more) else Some Bad) (if mark then judge_closing o text (rest ++ more) else Some Bad)
    (stays_if room (judge_text o grown rest) (Some Bad) (judge_text o grown (rest ++ more)) (Some Bad) (stays_text o grown rest more) (λ e. refl))
    (stays_if mark (judge_closing o text rest) (Some Bad) (judge_closing o text (rest ++ more)) (Some Bad) (stays_closing o text rest more) (λ e. refl))
    h

stays_marked : (rest more : List ℕ) → Stays (judge_marked rest) (judge_marked (rest ++ more))
stays_marked [] more h = absurd (cc)
stays_marked (b ∷ rest) more h =
    stays_if (b == 0x30) _ _ _ _ (stays_ends Ack0 rest more (λ e. cc))
    (stays_if (b == 0x31) _ _ _ _ (stays_ends Ack1 rest more (λ e. cc))
    (stays_if (b == 1) _ _ _ _ (stays_text opens.Header [] rest more)
    (stays_if (b == 2) _ (Some Bad) _ (Some Bad) (stays_text opens.Block [] rest more) (λ e. refl)))) h

-- the decision stays bad
stays : (bytes more : List ℕ) → Stays (judge bytes) (judge (bytes ++ more))
stays [] more h = absurd (cc)
stays (b ∷ rest) more h =
    stays_if (b == 16) _ _ _ _ (stays_marked rest more)
    (stays_if (b == 5) _ _ _ _ (stays_ends Enq rest more (λ e. cc))
    (stays_if (b == 21) _ _ _ _ (stays_ends Nak rest more (λ e. cc))
    (stays_if (b == 4) _ (Some Bad) _ (Some Bad) (stays_ends Eot rest more (λ e. cc)) (λ e. refl)))) h

-- ---- the laws

-- what is judged to be nothing yet has begun
told_none : (bytes : List ℕ) → judge bytes ≡ None → IsBegun bytes
unfolding Told
told_none bytes e = subst (λ a. Told bytes a) e (told bytes)

-- what is judged to be a frame is bad, or its spelling
told_some : (bytes : List ℕ) (shape : FrameShape) → judge bytes ≡ Some shape → (shape ≡ Bad) ⊎ Spelled shape bytes
unfolding Told
told_some bytes shape e = subst (λ a. Told bytes a) e (told bytes)

told_good : (bytes : List ℕ) (shape : FrameShape) → judge bytes ≡ Some shape → (shape ≡ Bad → ⊥) → Spelled shape bytes
told_good bytes shape e n = elim (told_some bytes shape e) [ inl bad ↦ absurd (n bad) | inr s ↦ s ]

-- what has begun is no frame yet
begun_not : (bytes : List ℕ) (shape : FrameShape) → IsBegun bytes → judge bytes ≡ Some shape → ⊥
begun_not bytes shape (next, b, more, s) e =
    elim (told_some bytes shape e) [
      | inl bad ↦
          let still = stays bytes (b ∷ more) (e ∙ ap (λ f. Some f) bad) in
          let whole = judged_whole next (bytes ++ b ∷ more) s in
          let same : next ≡ Bad = cc in
          never_bad next (bytes ++ b ∷ more) s same
      | inr t ↦ no_front shape next bytes b more t s
    ]

begun_as : (bytes : List ℕ) (a : Option FrameShape) → judge bytes ≡ a → IsBegun bytes → a ≡ None
begun_as bytes None e s = refl
begun_as bytes (Some shape) e s = absurd (begun_not bytes shape s e)

-- what has begun is judged to be nothing yet
pub begun_judged : (bytes : List ℕ) → IsBegun bytes → judge bytes ≡ None
begun_judged bytes s = begun_as bytes (judge bytes) refl s

-- the answer by what the bytes are judged to be
answers_as : (bytes : List ℕ) (a : Option FrameShape) → judge bytes ≡ a → Answers bytes a
answers_as bytes None e = told_none bytes e
answers_as bytes (Some Enq) e = told_good bytes Enq e (λ h. cc)
answers_as bytes (Some Ack0) e = told_good bytes Ack0 e (λ h. cc)
answers_as bytes (Some Ack1) e = told_good bytes Ack1 e (λ h. cc)
answers_as bytes (Some Nak) e = told_good bytes Nak e (λ h. cc)
answers_as bytes (Some Eot) e = told_good bytes Eot e (λ h. cc)
answers_as bytes (Some (Header text)) e = told_good bytes (Header text) e (λ h. cc)
answers_as bytes (Some (Block last text)) e = told_good bytes (Block last text) e (λ h. cc)
answers_as bytes (Some Damaged) e = told_good bytes Damaged e (λ h. cc)
answers_as bytes (Some Bad) e =
    (λ s. begun_not bytes Bad s e, λ shape s. let f = judged_whole shape bytes s in let bad : shape ≡ Bad = cc in never_bad shape bytes s bad)

-- the bytes are answered as they are judged
pub answers_judged : (bytes : List ℕ) (a : Option FrameShape) → a ≡ judge bytes → Answers bytes a
answers_judged bytes a e = answers_as bytes a (sym e)

-- what is neither begun nor spelled is judged to be bad
none_left : (bytes : List ℕ) (a : Option FrameShape) → judge bytes ≡ a → IsNoFrame bytes → a ≡ Some Bad
none_left bytes None e n = absurd (n.0 (told_none bytes e))
none_left bytes (Some shape) e n =
    elim (told_some bytes shape e) [ inl bad ↦ ap (λ f. Some f) bad | inr s ↦ absurd (n.1 shape s) ]

-- and there is no other answer
pub judged_answer : (bytes : List ℕ) (a : Option FrameShape) → Answers bytes a → judge bytes ≡ a
judged_answer bytes None s = begun_judged bytes s
judged_answer bytes (Some Enq) s = judged_whole Enq bytes s
judged_answer bytes (Some Ack0) s = judged_whole Ack0 bytes s
judged_answer bytes (Some Ack1) s = judged_whole Ack1 bytes s
judged_answer bytes (Some Nak) s = judged_whole Nak bytes s
judged_answer bytes (Some Eot) s = judged_whole Eot bytes s
judged_answer bytes (Some (Header text)) s = judged_whole (Header text) bytes s
judged_answer bytes (Some (Block last text)) s = judged_whole (Block last text) bytes s
judged_answer bytes (Some Damaged) s = judged_whole Damaged bytes s
judged_answer bytes (Some Bad) s = none_left bytes (judge bytes) refl s

-- there is one answer
pub one_answer : (bytes : List ℕ) (a b : Option FrameShape) → Answers bytes a → Answers bytes b → a ≡ b
one_answer bytes a b s t = sym (judged_answer bytes a s) ∙ judged_answer bytes b t
