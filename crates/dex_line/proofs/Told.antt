-- The laws of spellings, through what bytes are judged to be.
use Rattle.std.proofs.Common.{◌≡◌, ◌⊎◌, ℕ, ◌<◌, ◌≤◌, Bool, true, false, List, [], ◌∷◌, ◌++◌, length, Option, Some, None, refl, sym, ◌∙◌, ap, subst, inl, inr, arith, append_assoc, append-nil, length-append, ◌&&◌, ◌==◌, nat_lt}
use Rattle.std.specs.Prelude.{if◌then◌else◌}
use Rattle.std.specs.List.{list_all}
use Rattle.std.proofs.lemmas.Bool.{cases_eq}
use Rattle.std.proofs.lemmas.Bool.Decides.{nat_tests}
use Rattle.std.proofs.lemmas.List.Folds.{list_all-append}
use Rattle.dex_line.specs.FrameShapes.{FrameShape, Enq, Ack0, Ack1, Nak, Eot, Header, Block, Damaged, Bad}
use Rattle.dex_line.specs.Bytes.{is_text}
use Rattle.dex_line.specs.FrameSpelling.{opening, most_text, is_closing, block_end, low_check, high_check, wrapped, guarded, IsTextOf, Spelled, IsBegun}
use Rattle.dex_line.specs.Judging.{ends, closed, checked, judge, judge_text, judge_closing, judge_check}
use Rattle.dex_line.specs.declared.frame.Opened.{Opened}
use Rattle.dex_line.specs.declared.frame.Opened.TheVariants as opens
use Rattle.dex_line.proofs.Judged.{judge_behind_closing}

-- ---- what is spelled is judged so, and with more behind it as no frame

-- the right check gives the header or block
right_check : (o : Opened) (text : List ℕ) (c : ℕ)
    → checked o text c (low_check text c) (high_check text c) ≡ closed o text c
right_check o text c = grind (arith, nat_tests)

-- another check gives Damaged
wrong_check : (o : Opened) (text : List ℕ) (c low high : ℕ)
    → ((low ≡ low_check text c) × (high ≡ high_check text c) → ⊥) → checked o text c low high ≡ Damaged
wrong_check o text c low high h =
    elim (cases_eq low (low_check text c)) [
      | inl one ↦ elim (cases_eq high (high_check text c)) [
        | inl two ↦ absurd (h (one, two))
        | inr other ↦ grind (arith, nat_tests)
      ]
      | inr other ↦ grind (arith, nat_tests)
    ]

-- a text between its marks is judged by its check
wrapped_judged : (o : Opened) (text : List ℕ) (c low high : ℕ) (more : List ℕ) → IsTextOf o text
    → is_closing o c ≡ true → judge (wrapped o text c low high ++ more) ≡ ends (checked o text c low high) more
wrapped_judged o text c low high more t h =
    ap (λ r. judge (16 ∷ opening o ∷ r)) (append_assoc text (16 ∷ c ∷ low ∷ high ∷ []) more)
    ∙ judge_behind_closing o text c (low ∷ high ∷ more) t h

-- a spelling is judged to be its frame, and with more behind it to be bad
spelled_judged : (shape : FrameShape) (bytes more : List ℕ) → Spelled shape bytes
    → judge (bytes ++ more) ≡ ends shape more
spelled_judged Enq bytes more s = ap (λ b. judge (b ++ more)) s.1
spelled_judged Ack0 bytes more s = ap (λ b. judge (b ++ more)) s.1
spelled_judged Ack1 bytes more s = ap (λ b. judge (b ++ more)) s.1
spelled_judged Nak bytes more s = ap (λ b. judge (b ++ more)) s.1
spelled_judged Eot bytes more s = ap (λ b. judge (b ++ more)) s.1
spelled_judged (Header text) bytes more s =
    ap (λ b. judge (b ++ more)) s.1
    ∙ wrapped_judged opens.Header text 3 (low_check text 3) (high_check text 3) more s.0 refl
    ∙ ap (λ f. ends f more) (right_check opens.Header text 3)
spelled_judged (Block true text) bytes more s =
    ap (λ b. judge (b ++ more)) s.1
    ∙ wrapped_judged opens.Block text 3 (low_check text 3) (high_check text 3) more s.0 refl
    ∙ ap (λ f. ends f more) (right_check opens.Block text 3)
spelled_judged (Block false text) bytes more s =
    ap (λ b. judge (b ++ more)) s.1
    ∙ wrapped_judged opens.Block text 23 (low_check text 23) (high_check text 23) more s.0 refl
    ∙ ap (λ f. ends f more) (right_check opens.Block text 23)
spelled_judged Damaged bytes more s =
    ap (λ b. judge (b ++ more)) s.spelled
    ∙ wrapped_judged s.opened s.text s.closing s.low s.high more s.fits s.closes
    ∙ ap (λ f. ends f more) (wrong_check s.opened s.text s.closing s.low s.high s.differs)
spelled_judged Bad bytes more s = absurd s

-- a spelling is judged to be its frame
pub judged_whole : (shape : FrameShape) (bytes : List ℕ) → Spelled shape bytes → judge bytes ≡ Some shape
judged_whole shape bytes s = ap judge (sym (append-nil bytes)) ∙ spelled_judged shape bytes [] s

-- no bytes spell two frames
pub one_frame : (a b : FrameShape) (bytes : List ℕ) → Spelled a bytes → Spelled b bytes → a ≡ b
one_frame a b bytes x y = let e = judged_whole a bytes x in let f = judged_whole b bytes y in cc

-- no spelling is one of Bad
pub never_bad : (shape : FrameShape) (bytes : List ℕ) → Spelled shape bytes → shape ≡ Bad → ⊥
never_bad shape bytes s e = subst (λ f. Spelled f bytes) e s

-- no spelling is a proper front of another
pub no_front : (a b : FrameShape) (bytes : List ℕ) (x : ℕ) (more : List ℕ) → Spelled a bytes
    → Spelled b (bytes ++ x ∷ more) → ⊥
no_front a b bytes x more s t =
    let e = spelled_judged a bytes (x ∷ more) s in
    let f = judged_whole b (bytes ++ x ∷ more) t in
    let bad : b ≡ Bad = cc in
    never_bad b (bytes ++ x ∷ more) t bad

-- ---- what is judged so is spelled so

-- what is to be shown of bytes and of what they are judged to be
unfoldable pub Told : List ℕ → Option FrameShape → Type 0
Told bytes None = IsBegun bytes
Told bytes (Some shape) = (shape ≡ Bad) ⊎ Spelled shape bytes

-- of each side of a test
pub told_if : (bytes : List ℕ) (t : Bool) (x y : Option FrameShape) → (t ≡ true → Told bytes x)
    → (t ≡ false → Told bytes y) → Told bytes (if t then x else y)
told_if bytes true x y f g = f refl
told_if bytes false x y f g = g refl

-- of Bad
pub told_bad : (bytes : List ℕ) → Told bytes (Some Bad)
unfolding Told
told_bad bytes = inl refl

-- of a whole frame, with more behind it
pub told_ends : (shape : FrameShape) (bytes more : List ℕ) → Spelled shape bytes
    → Told (bytes ++ more) (ends shape more)
unfolding Told
told_ends shape bytes [] s = inr (subst (λ b. Spelled shape b) (sym (append-nil bytes)) s)
told_ends shape bytes (b ∷ more) s = inl refl

-- of a front of a spelling
pub told_begun : (bytes : List ℕ) (shape : FrameShape) (b : ℕ) (more : List ℕ) → Spelled shape (bytes ++ b ∷ more)
    → Told bytes None
unfolding Told
told_begun bytes shape b more s = (shape, b, more, s)

-- a block is closed by ETX where it is the last one, and else by ETB
closing_of_block : (c : ℕ) → is_closing opens.Block c ≡ true → block_end (c == 3) ≡ c
closing_of_block c h = elim (cases_eq c 3) [ inl same ↦ rw same refl | inr other ↦ grind (arith, nat_tests) ]

-- a header or block with its check is spelled so
spelled_closed : (o : Opened) (text : List ℕ) (c : ℕ) → IsTextOf o text → is_closing o c ≡ true
    → Spelled (closed o text c) (guarded o text c)
spelled_closed opens.Header text c t h = let e : c ≡ 3 = grind (arith, nat_tests) in (t, ap (λ n. guarded opens.Header text n) e)
spelled_closed opens.Block text c t h = (t, ap (λ n. guarded opens.Block text n) (sym (closing_of_block c h)))

-- so many bytes of a whole text's spelling
told_part : (o : Opened) (text : List ℕ) (c : ℕ) (front : List ℕ) (b : ℕ) (more : List ℕ) → IsTextOf o text
    → is_closing o c ≡ true → guarded o text c ≡ front ++ b ∷ more → Told front None
told_part o text c front b more t h e =
    told_begun front (closed o text c) b more (subst (λ x. Spelled (closed o text c) x) e (spelled_closed o text c t h))

closes_all : (o : Opened) → is_closing o 3 ≡ true
closes_all opens.Header = refl
closes_all opens.Block = refl

a_byte : is_text 32 ≡ true
unfolding is_text
a_byte = refl

-- the shortest text
least_text : (o : Opened) → IsTextOf o (32 ∷ [])
least_text opens.Header = record { some = omega arith; fits = omega arith; bytes = (let a = a_byte in grind (arith, nat_tests)) }
least_text opens.Block = record { some = omega arith; fits = omega arith; bytes = (let a = a_byte in grind (arith, nat_tests)) }

-- of a text that goes on
pub told_so_far : (o : Opened) (text : List ℕ) → length text ≤ most_text o → list_all is_text text ≡ true
    → Told (16 ∷ opening o ∷ (text ++ [])) None
told_so_far o [] fits all =
    told_part o (32 ∷ []) 3 (16 ∷ opening o ∷ []) 32 (16 ∷ 3 ∷ low_check (32 ∷ []) 3 ∷ high_check (32 ∷ []) 3 ∷ []) (least_text o) (closes_all o) refl
told_so_far o (x ∷ text) fits all =
    let t : IsTextOf o (x ∷ text) = record { some = omega arith; fits = fits; bytes = all } in
    told_part o (x ∷ text) 3 (16 ∷ opening o ∷ ((x ∷ text) ++ [])) 16 (3 ∷ low_check (x ∷ text) 3 ∷ high_check (x ∷ text) 3 ∷ []) t (closes_all o)
    (ap (λ r. 16 ∷ opening o ∷ (r ++ 16 ∷ 3 ∷ low_check (x ∷ text) 3 ∷ high_check (x ∷ text) 3 ∷ [])) (sym (append-nil (x ∷ text))))

-- of a text with the DLE behind it
pub told_marked_end : (o : Opened) (text : List ℕ) → IsTextOf o text → Told (16 ∷ opening o ∷ (text ++ 16 ∷ [])) None
told_marked_end o text t =
    told_part o text 3 (16 ∷ opening o ∷ (text ++ 16 ∷ [])) 3 (low_check text 3 ∷ high_check text 3 ∷ []) t (closes_all o)
    (ap (λ r. 16 ∷ opening o ∷ r) (sym (append_assoc text (16 ∷ []) (3 ∷ low_check text 3 ∷ high_check text 3 ∷ []))))

-- of a text with its closing byte
pub told_closed : (o : Opened) (text : List ℕ) (c : ℕ) → IsTextOf o text → is_closing o c ≡ true
    → Told (16 ∷ opening o ∷ (text ++ 16 ∷ c ∷ [])) None
told_closed o text c t h =
    told_part o text c (16 ∷ opening o ∷ (text ++ 16 ∷ c ∷ [])) (low_check text c) (high_check text c ∷ []) t h
    (ap (λ r. 16 ∷ opening o ∷ r) (sym (append_assoc text (16 ∷ c ∷ []) (low_check text c ∷ high_check text c ∷ []))))

-- a text between its marks with another check behind it
pub spelled_damaged : (o : Opened) (text : List ℕ) (c low high : ℕ) → IsTextOf o text → is_closing o c ≡ true
    → ((low ≡ low_check text c) × (high ≡ high_check text c) → ⊥) → Spelled Damaged (wrapped o text c low high)
spelled_damaged o text c low high t h d = record { opened = o; text = text; closing = c; low = low; high = high; fits = t; closes = h; differs = d; spelled = refl }

-- of the same with some byte for the low one of the check
pub told_low : (o : Opened) (text : List ℕ) (c low : ℕ) → IsTextOf o text → is_closing o c ≡ true
    → Told (16 ∷ opening o ∷ (text ++ 16 ∷ c ∷ low ∷ [])) None
told_low o text c low t h =
    elim (cases_eq low (low_check text c)) [
      | inl same ↦ told_part o text c (16 ∷ opening o ∷ (text ++ 16 ∷ c ∷ low ∷ [])) (high_check text c) [] t h
          (ap (λ n. 16 ∷ opening o ∷ (text ++ 16 ∷ c ∷ n ∷ high_check text c ∷ [])) (sym same)
          ∙ ap (λ r. 16 ∷ opening o ∷ r) (sym (append_assoc text (16 ∷ c ∷ low ∷ []) (high_check text c ∷ []))))
      | inr other ↦ told_begun (16 ∷ opening o ∷ (text ++ 16 ∷ c ∷ low ∷ [])) Damaged 0 []
          (subst (λ x. Spelled Damaged x) (ap (λ r. 16 ∷ opening o ∷ r) (sym (append_assoc text (16 ∷ c ∷ low ∷ []) (0 ∷ []))))
          (spelled_damaged o text c low 0 t h (λ p. other p.0)))
    ]

-- a text between its marks is spelled as its check says
spelled_checked : (o : Opened) (text : List ℕ) (c low high : ℕ) → IsTextOf o text → is_closing o c ≡ true
    → Spelled (checked o text c low high) (wrapped o text c low high)
spelled_checked o text c low high t h =
    elim (cases_eq low (low_check text c)) [
      | inl one ↦ elim (cases_eq high (high_check text c)) [
        | inl two ↦
            let w : wrapped o text c low high ≡ guarded o text c = ap (λ n. wrapped o text c n high) one ∙ ap (λ n. wrapped o text c (low_check text c) n) two in
            let s : checked o text c low high ≡ closed o text c = ap (λ n. checked o text c n high) one ∙ ap (λ n. checked o text c (low_check text c) n) two ∙ right_check o text c in
            subst (λ x. Spelled (checked o text c low high) x) (sym w) (subst (λ f. Spelled f (guarded o text c)) (sym s) (spelled_closed o text c t h))
        | inr other ↦
            let d : (low ≡ low_check text c) × (high ≡ high_check text c) → ⊥ = λ p. other p.1 in
            subst (λ f. Spelled f (wrapped o text c low high)) (sym (wrong_check o text c low high d)) (spelled_damaged o text c low high t h d)
      ]
      | inr other ↦
          let d : (low ≡ low_check text c) × (high ≡ high_check text c) → ⊥ = λ p. other p.0 in
          subst (λ f. Spelled f (wrapped o text c low high)) (sym (wrong_check o text c low high d)) (spelled_damaged o text c low high t h d)
    ]

-- behind the closing byte
told_check : (o : Opened) (text : List ℕ) (c : ℕ) (rest : List ℕ) → IsTextOf o text → is_closing o c ≡ true
    → Told (16 ∷ opening o ∷ (text ++ 16 ∷ c ∷ rest)) (judge_check o text c rest)
told_check o text c [] t h = told_closed o text c t h
told_check o text c (low ∷ []) t h = told_low o text c low t h
told_check o text c (low ∷ high ∷ more) t h =
    subst (λ r. Told (16 ∷ opening o ∷ r) (ends (checked o text c low high) more)) (append_assoc text (16 ∷ c ∷ low ∷ high ∷ []) more)
    (told_ends (checked o text c low high) (wrapped o text c low high) more (spelled_checked o text c low high t h))

-- behind the DLE after a text
told_closing : (o : Opened) (text rest : List ℕ) → IsTextOf o text
    → Told (16 ∷ opening o ∷ (text ++ 16 ∷ rest)) (judge_closing o text rest)
told_closing o text [] t = told_marked_end o text t
told_closing o text (c ∷ more) t =
    told_if (16 ∷ opening o ∷ (text ++ 16 ∷ c ∷ more)) (is_closing o c) (judge_check o text c more) (Some Bad)
    (λ h. told_check o text c more t h) (λ _. told_bad (16 ∷ opening o ∷ (text ++ 16 ∷ c ∷ more)))

is_mark : (b : ℕ) (text : List ℕ) → (b == 16 && nat_lt 0 (length text)) ≡ true → (b ≡ 16) × (0 < length text)
is_mark b text h = (grind (arith, nat_tests), grind (arith, nat_tests))

-- behind so much text
pub told_text : (o : Opened) (text rest : List ℕ) → length text ≤ most_text o → list_all is_text text ≡ true
    → Told (16 ∷ opening o ∷ (text ++ rest)) (judge_text o text rest)
told_text o text [] fits all = told_so_far o text fits all
told_text o text (b ∷ more) fits all =
    let bytes : List ℕ = 16 ∷ opening o ∷ (text ++ b ∷ more) in
    let grow : is_text b ≡ true → list_all is_text (text ++ b ∷ []) ≡ true = λ is. list_all-append is_text text (b ∷ []) ∙ (grind (arith, nat_tests)) in
    told_if bytes (is_text b)
    (if nat_lt (length text) (most_text o) then judge_text o (text ++ b ∷ []) more else Some Bad)
    (if b == 16 && nat_lt 0 (length text) then judge_closing o text more else Some Bad)
    (λ is. told_if bytes (nat_lt (length text) (most_text o)) (judge_text o (text ++ b ∷ []) more) (Some Bad)
    (λ room.
    let r : length text < most_text o = grind (arith, nat_tests) in
    let f : length (text ++ b ∷ []) ≤ most_text o = omega (arith, length-append text (b ∷ [])) in
    subst (λ x. Told (16 ∷ opening o ∷ x) (judge_text o (text ++ b ∷ []) more)) (append_assoc text (b ∷ []) more)
    (told_text o (text ++ b ∷ []) more f (grow is)))
    (λ _. told_bad bytes))
    (λ no. told_if bytes (b == 16 && nat_lt 0 (length text)) (judge_closing o text more) (Some Bad)
    (λ mark.
    let m = is_mark b text mark in
    let t : IsTextOf o text = record { some = m.1; fits = fits; bytes = all } in
    subst (λ n. Told (16 ∷ opening o ∷ (text ++ n ∷ more)) (judge_closing o text more)) (sym m.0) (told_closing o text more t))
    (λ _. told_bad bytes))
