-- The first frame that is read from the left is the one of the definition.
use Rattle.std.proofs.Common.{◌≡◌, ◌⊎◌, ℕ, ◌+◌, ◌<◌, ◌≤◌, Bool, true, false, List, [], ◌∷◌, ◌++◌, length, take, drop, Option, Some, None, refl, sym, ◌∙◌, ap, subst, inl, inr, arith, append_assoc, length-append, ◌&&◌, ◌==◌, nat_lt}
use Rattle.std.specs.Prelude.{if◌then◌else◌, nat_le, MatchOption}
use Rattle.std.specs.List.{list_all, position_or_len}
use Rattle.std.proofs.Math.Seq.{take-append_seam, drop-append_seam}
use Rattle.std.proofs.lemmas.Bool.Decides.{nat_tests}
use Rattle.std.proofs.lemmas.List.{take-append-drop, length-take-le}
use Rattle.dex_line.specs.Bytes.{is_no_text, is_text}
use Rattle.dex_line.specs.FrameShapes.{FrameShape, Enq, Ack0, Ack1, Nak, Eot, Header, Block, Damaged, Bad, captured_seen}
use Rattle.dex_line.specs.FrameSpelling.{opening, most_text, is_closing, low_check, high_check, wrapped, spelling, IsTextOf, Spelled, Answers}
use Rattle.dex_line.specs.Judging.{checked, judge}
use Rattle.dex_line.specs.Captured.{BeginsNone, IsFirstFrame, is_refused, left_behind, IsFrameOfSize}
use Rattle.dex_line.specs.FirstFrame.{no_frame, first_closed, first_text, first_opened, first_marked, first_of, some_sized}
use Rattle.dex_line.specs.declared.frame.Opened.{Opened}
use Rattle.dex_line.specs.declared.frame.Opened.TheVariants as opens
use Rattle.dex_line.specs.declared.lent.Captured.{Captured}
use Rattle.dex_line.proofs.Judged.{judge_behind_closing, not_text, text_before}
use Rattle.dex_line.proofs.Told.{judged_whole, never_bad}
use Rattle.dex_line.proofs.Answered.{answers_judged}

-- ---- what is spelled at the front is read there

-- a text ends at the DLE behind it
text_ends : (text more : List ℕ) → list_all is_text text ≡ true
    → position_or_len is_no_text (text ++ 16 ∷ more) ≡ length text
text_ends [] more all = let n = not_text in grind (arith, nat_tests)
text_ends (b ∷ text) more all =
    let on : list_all is_text text ≡ true = grind (arith, nat_tests) in
    let is : is_text b ≡ true = grind (arith, nat_tests) in
    let e = text_ends text more on in
    grind (arith, nat_tests)

-- a text of a right size
sized_text : (o : Opened) (size : ℕ) (rest : List ℕ) → 0 < size → size ≤ most_text o
    → first_text o size rest ≡ first_closed o (take size rest) (drop size rest)
sized_text o size rest some fits = grind (arith, nat_tests)

-- a text that is closed
closed_text : (o : Opened) (text : List ℕ) (c low high : ℕ) (more : List ℕ) → is_closing o c ≡ true
    → first_closed o text (16 ∷ c ∷ low ∷ high ∷ more) ≡ (checked o text c low high, length text + 6)
closed_text o text c low high more h = grind (arith, nat_tests)

opened_first : (o : Opened) (rest : List ℕ) → first_of (16 ∷ opening o ∷ rest) ≡ Some (first_opened o rest)
opened_first opens.Header rest = refl
opened_first opens.Block rest = refl

text_first : (o : Opened) (text : List ℕ) (c low high : ℕ) (more : List ℕ) → IsTextOf o text → is_closing o c ≡ true
    → first_opened o (text ++ 16 ∷ c ∷ low ∷ high ∷ more) ≡ (checked o text c low high, length text + 6)
text_first o text c low high more t h =
    let behind : List ℕ = 16 ∷ c ∷ low ∷ high ∷ more in
    ap (λ n. first_text o n (text ++ behind)) (text_ends text (c ∷ low ∷ high ∷ more) t.bytes)
    ∙ sized_text o (length text) (text ++ behind) t.some t.fits
    ∙ ap (λ x. first_closed o x (drop (length text) (text ++ behind))) (take-append_seam text behind)
    ∙ ap (λ x. first_closed o text x) (drop-append_seam text behind)
    ∙ closed_text o text c low high more h

wrapped_first : (o : Opened) (text : List ℕ) (c low high : ℕ) (more : List ℕ) → IsTextOf o text
    → is_closing o c ≡ true → first_of (wrapped o text c low high ++ more) ≡ Some (checked o text c low high, length text + 6)
wrapped_first o text c low high more t h =
    ap (λ r. first_of (16 ∷ opening o ∷ r)) (append_assoc text (16 ∷ c ∷ low ∷ high ∷ []) more)
    ∙ opened_first o (text ++ 16 ∷ c ∷ low ∷ high ∷ more)
    ∙ ap (λ r. Some r) (text_first o text c low high more t h)

-- a text between its marks is judged by its check
wrapped_judged : (o : Opened) (text : List ℕ) (c low high : ℕ) → IsTextOf o text → is_closing o c ≡ true
    → judge (wrapped o text c low high) ≡ Some (checked o text c low high)
wrapped_judged o text c low high t h = judge_behind_closing o text c (low ∷ high ∷ []) t h

-- the frame is read first, whatever its size
abbrev Reads : FrameShape → List ℕ → Type 0
Reads shape bytes = (size : ℕ) × (first_of bytes ≡ Some (shape, size))

wrapped_read : (shape : FrameShape) (bytes : List ℕ) (o : Opened) (text : List ℕ) (c low high : ℕ) (more : List ℕ)
    → Spelled shape bytes → IsTextOf o text → is_closing o c ≡ true → bytes ≡ wrapped o text c low high
    → Reads shape (bytes ++ more)
wrapped_read shape bytes o text c low high more s t h e =
    let one : judge bytes ≡ Some shape = judged_whole shape bytes s in
    let two : judge bytes ≡ Some (checked o text c low high) = ap judge e ∙ wrapped_judged o text c low high t h in
    let same : checked o text c low high ≡ shape = cc in
    (length text + 6, ap (λ b. first_of (b ++ more)) e ∙ wrapped_first o text c low high more t h ∙ ap (λ f. Some (f, length text + 6)) same)

spelled_read : (shape : FrameShape) (bytes more : List ℕ) → Spelled shape bytes → Reads shape (bytes ++ more)
spelled_read Enq bytes more s = (1, ap (λ b. first_of (b ++ more)) s.1)
spelled_read Ack0 bytes more s = (2, ap (λ b. first_of (b ++ more)) s.1)
spelled_read Ack1 bytes more s = (2, ap (λ b. first_of (b ++ more)) s.1)
spelled_read Nak bytes more s = (1, ap (λ b. first_of (b ++ more)) s.1)
spelled_read Eot bytes more s = (1, ap (λ b. first_of (b ++ more)) s.1)
spelled_read (Header text) bytes more s =
    wrapped_read (Header text) bytes opens.Header text 3 (low_check text 3) (high_check text 3) more s s.0 refl s.1
spelled_read (Block true text) bytes more s =
    wrapped_read (Block true text) bytes opens.Block text 3 (low_check text 3) (high_check text 3) more s s.0 refl s.1
spelled_read (Block false text) bytes more s =
    wrapped_read (Block false text) bytes opens.Block text 23 (low_check text 23) (high_check text 23) more s s.0 refl s.1
spelled_read Damaged bytes more s =
    wrapped_read Damaged bytes s.opened s.text s.closing s.low s.high more s s.fits s.closes s.spelled
spelled_read Bad bytes more s = absurd s

-- the frame that is read
abbrev read_as : Option (FrameShape × ℕ) → FrameShape
read_as None = Bad
read_as (Some frame) = frame.0

-- so where none is read, the bytes begin with none
bad_none : (bytes : List ℕ) (size : ℕ) → first_of bytes ≡ Some (Bad, size) → BeginsNone bytes
bad_none bytes size e shape after (piece, s, whole) =
    let (taken, read) = spelled_read shape piece after s in
    let here : first_of bytes ≡ Some (shape, taken) = ap first_of whole ∙ read in
    let bad : shape ≡ Bad = sym (ap read_as here) ∙ ap read_as e in
    never_bad shape piece s bad

-- ---- what is read stands at the front

-- the bytes begin with a piece that is to be answered so, of this size
abbrev Fronts : FrameShape × ℕ → List ℕ → Type 0
Fronts frame bytes =
    (piece : List ℕ) × (after : List ℕ) × Answers piece (Some frame.0) × (bytes ≡ piece ++ after) × (frame.1 ≡ length piece)

-- or the frame is Bad
unfoldable Stands : FrameShape × ℕ → List ℕ → Type 0
Stands frame bytes = ((frame.0 ≡ Bad) × (frame.1 ≤ length bytes)) ⊎ Fronts frame bytes

stands_if : (bytes : List ℕ) (t : Bool) (x y : FrameShape × ℕ) → (t ≡ true → Stands x bytes)
    → (t ≡ false → Stands y bytes) → Stands (if t then x else y) bytes
stands_if bytes true x y f g = f refl
stands_if bytes false x y f g = g refl

stands_bad : (b : ℕ) (more : List ℕ) → Stands no_frame (b ∷ more)
unfolding Stands
stands_bad b more = inl (refl, omega arith)

-- of a text between its marks
stands_checked : (o : Opened) (text : List ℕ) (c low high : ℕ) (more : List ℕ) → IsTextOf o text
    → is_closing o c ≡ true
    → Stands (checked o text c low high, length text + 6) (16 ∷ opening o ∷ (text ++ 16 ∷ c ∷ low ∷ high ∷ more))
unfolding Stands
stands_checked o text c low high more t h =
    let size : length text + 6 ≡ length (wrapped o text c low high) = omega (arith, length-append text (16 ∷ c ∷ low ∷ high ∷ [])) in
    inr (
      wrapped o text c low high,
      more,
      answers_judged (wrapped o text c low high) (Some (checked o text c low high)) (sym (wrapped_judged o text c low high t h)),
      ap (λ r. 16 ∷ opening o ∷ r) (sym (append_assoc text (16 ∷ c ∷ low ∷ high ∷ []) more)),
      size,
    )

is_mark : (b : ℕ) (t : Bool) → (b == 16 && t) ≡ true → (b ≡ 16) × (t ≡ true)
is_mark b t h = (grind (arith, nat_tests), grind (arith, nat_tests))

stands_closed : (o : Opened) (text behind : List ℕ) → IsTextOf o text
    → Stands (first_closed o text behind) (16 ∷ opening o ∷ (text ++ behind))
stands_closed o text [] t = stands_bad 16 (opening o ∷ (text ++ []))
stands_closed o text (b ∷ []) t = stands_bad 16 (opening o ∷ (text ++ b ∷ []))
stands_closed o text (b ∷ c ∷ []) t = stands_bad 16 (opening o ∷ (text ++ b ∷ c ∷ []))
stands_closed o text (b ∷ c ∷ low ∷ []) t = stands_bad 16 (opening o ∷ (text ++ b ∷ c ∷ low ∷ []))
stands_closed o text (b ∷ c ∷ low ∷ high ∷ more) t =
    let bytes : List ℕ = 16 ∷ opening o ∷ (text ++ b ∷ c ∷ low ∷ high ∷ more) in
    stands_if bytes (b == 16 && is_closing o c) (checked o text c low high, length text + 6) no_frame
    (λ h.
    let m = is_mark b (is_closing o c) h in
    subst (λ n. Stands (checked o text c low high, length text + 6) (16 ∷ opening o ∷ (text ++ n ∷ c ∷ low ∷ high ∷ more))) (sym m.0) (stands_checked o text c low high more t m.1))
    (λ _. stands_bad 16 (opening o ∷ (text ++ b ∷ c ∷ low ∷ high ∷ more)))

-- a text ends inside the bytes
pub ends_inside : (bytes : List ℕ) → position_or_len is_no_text bytes ≤ length bytes
ends_inside [] = grind (arith, nat_tests)
ends_inside (b ∷ bytes) = let on = ends_inside bytes in grind (arith, nat_tests)

is_sized : (size most : ℕ) → (nat_lt 0 size && nat_le size most) ≡ true → (0 < size) × (size ≤ most)
is_sized size most h = (grind (arith, nat_tests), grind (arith, nat_tests))

stands_opened : (o : Opened) (rest : List ℕ) → Stands (first_opened o rest) (16 ∷ opening o ∷ rest)
stands_opened o rest =
    let size : ℕ = position_or_len is_no_text rest in
    stands_if (16 ∷ opening o ∷ rest) (nat_lt 0 size && nat_le size (most_text o)) (first_closed o (take size rest) (drop size rest)) no_frame
    (λ h.
    let fit = is_sized size (most_text o) h in
    let long : length (take size rest) ≡ size = length-take-le size rest (ends_inside rest) in
    let some : 0 < length (take size rest) = omega arith in
    let fits : length (take size rest) ≤ most_text o = omega arith in
    let t : IsTextOf o (take size rest) = record { some = some; fits = fits; bytes = text_before rest } in
    subst (λ r. Stands (first_closed o (take size rest) (drop size rest)) (16 ∷ opening o ∷ r)) (take-append-drop size rest) (stands_closed o (take size rest) (drop size rest) t))
    (λ _. stands_bad 16 (opening o ∷ rest))

is_eq : (b n : ℕ) → (b == n) ≡ true → b ≡ n
is_eq b n h = grind (arith, nat_tests)

-- of a frame of these bytes
stands_at : (shape : FrameShape) (front : List ℕ) (n b size : ℕ) (more : List ℕ) → (b == n) ≡ true
    → Answers (front ++ n ∷ []) (Some shape) → size ≡ length (front ++ n ∷ []) → Stands (shape, size) (front ++ b ∷ more)
unfolding Stands
stands_at shape front n b size more h a long =
    inr (
      front ++ n ∷ [],
      more,
      a,
      ap (λ m. front ++ m ∷ more) (is_eq b n h) ∙ sym (append_assoc front (n ∷ []) more),
      long,
    )

-- where the byte that opens a text is known by a test
stands_behind : (b n : ℕ) (more : List ℕ) (frame : FrameShape × ℕ) → (b == n) ≡ true → Stands frame (16 ∷ n ∷ more)
    → Stands frame (16 ∷ b ∷ more)
stands_behind b n more frame h s = subst (λ m. Stands frame (16 ∷ m ∷ more)) (sym (is_eq b n h)) s

stands_marked : (rest : List ℕ) → Stands (first_marked rest) (16 ∷ rest)
stands_marked [] = stands_bad 16 []
stands_marked (b ∷ more) =
    let bytes : List ℕ = 16 ∷ b ∷ more in
    let last : FrameShape × ℕ = if b == 2 then first_opened opens.Block more else no_frame in
    let third : FrameShape × ℕ = if b == 1 then first_opened opens.Header more else last in
    let second : FrameShape × ℕ = if b == 0x31 then (Ack1, 2) else third in
    stands_if bytes (b == 0x30) (Ack0, 2) second (λ h. stands_at Ack0 (16 ∷ []) 0x30 b 2 more h (tt, refl) refl) (λ _.
    stands_if bytes (b == 0x31) (Ack1, 2) third (λ h. stands_at Ack1 (16 ∷ []) 0x31 b 2 more h (tt, refl) refl) (λ _.
    stands_if bytes (b == 1) (first_opened opens.Header more) last (λ h. stands_behind b 1 more (first_opened opens.Header more) h (stands_opened opens.Header more)) (λ _.
    stands_if bytes (b == 2) (first_opened opens.Block more) no_frame (λ h. stands_behind b 2 more (first_opened opens.Block more) h (stands_opened opens.Block more)) (λ _. stands_bad 16 (b ∷ more)))))

-- what is read of bytes
abbrev StandsSome : Option (FrameShape × ℕ) → List ℕ → Type 0
StandsSome None bytes = bytes ≡ []
StandsSome (Some frame) bytes = Stands frame bytes

stands : (bytes : List ℕ) → StandsSome (first_of bytes) bytes
stands [] = refl
stands (b ∷ more) =
    let bytes : List ℕ = b ∷ more in
    let last : FrameShape × ℕ = if b == 4 then (Eot, 1) else no_frame in
    let third : FrameShape × ℕ = if b == 21 then (Nak, 1) else last in
    let second : FrameShape × ℕ = if b == 5 then (Enq, 1) else third in
    stands_if bytes (b == 16) (first_marked more) second (λ h. subst (λ m. Stands (first_marked more) (m ∷ more)) (sym (is_eq b 16 h)) (stands_marked more)) (λ _.
    stands_if bytes (b == 5) (Enq, 1) third (λ h. stands_at Enq [] 5 b 1 more h (tt, refl) refl) (λ _.
    stands_if bytes (b == 21) (Nak, 1) last (λ h. stands_at Nak [] 21 b 1 more h (tt, refl) refl) (λ _.
    stands_if bytes (b == 4) (Eot, 1) no_frame (λ h. stands_at Eot [] 4 b 1 more h (tt, refl) refl) (λ _. stands_bad b more))))

-- ---- the first frame

-- a piece that is to be answered so, and what is left behind it
left_first : (shape : FrameShape) (bytes piece after : List ℕ) → Answers piece (Some shape) → bytes ≡ piece ++ after
    → (shape ≡ Bad → IsFirstFrame Bad bytes []) → IsFirstFrame shape bytes (left_behind shape after)
left_first Enq bytes piece after a e bad = (piece, a, e)
left_first Ack0 bytes piece after a e bad = (piece, a, e)
left_first Ack1 bytes piece after a e bad = (piece, a, e)
left_first Nak bytes piece after a e bad = (piece, a, e)
left_first Eot bytes piece after a e bad = (piece, a, e)
left_first (Header text) bytes piece after a e bad = (piece, a, e)
left_first (Block last text) bytes piece after a e bad = (piece, a, e)
left_first Damaged bytes piece after a e bad = ((after, (piece, a, e)), refl)
left_first Bad bytes piece after a e bad = bad refl

said_piece : (shape : FrameShape) (piece : List ℕ) → is_refused shape ≡ false → Answers piece (Some shape)
    → piece ≡ spelling shape
said_piece Enq piece fine a = a.1
said_piece Ack0 piece fine a = a.1
said_piece Ack1 piece fine a = a.1
said_piece Nak piece fine a = a.1
said_piece Eot piece fine a = a.1
said_piece (Header text) piece fine a = a.1
said_piece (Block last text) piece fine a = a.1
said_piece Damaged piece fine a = absurd (cc)
said_piece Bad piece fine a = absurd (cc)

-- where Bad is read
bad_first : (shape : FrameShape) (size : ℕ) (bytes : List ℕ) → first_of bytes ≡ Some (shape, size) → shape ≡ Bad
    → IsFirstFrame Bad bytes []
bad_first shape size bytes e bad =
    let read : first_of bytes ≡ Some (Bad, size) = e ∙ ap (λ f. Some (f, size)) bad in
    (bad_none bytes size read, (λ none. let nothing : first_of bytes ≡ None = ap first_of none in cc), refl)

read_is : (shape : FrameShape) (size : ℕ) (bytes : List ℕ) → first_of bytes ≡ Some (shape, size) → Stands (shape, size) bytes
    → IsFrameOfSize shape bytes size
unfolding Stands
read_is shape size bytes e (inl (bad, inside)) = record {
  inside = inside;
  first = subst (λ f. IsFirstFrame f bytes (left_behind f (drop size bytes))) (sym bad) (bad_first shape size bytes e bad);
  counts = λ fine. absurd (let clash : is_refused Bad ≡ false = ap is_refused (sym bad) ∙ fine in cc);
}
read_is shape size bytes e (inr (piece, after, a, whole, long)) =
    let behind : drop size bytes ≡ after = ap (λ n. drop n bytes) long ∙ ap (λ l. drop (length piece) l) whole ∙ drop-append_seam piece after in
    record {
      inside = omega (arith, length-append piece after, ap length whole);
      first = subst (λ l. IsFirstFrame shape bytes (left_behind shape l)) (sym behind) (left_first shape bytes piece after a whole (bad_first shape size bytes e));
      counts = λ fine. long ∙ ap length (said_piece shape piece fine a);
    }

-- what is read is the first frame
pub first_found : (answer : Option (Captured × ℕ)) (bytes : List ℕ) → some_sized answer ≡ first_of bytes
    → MatchOption answer (bytes ≡ []) (λ x. IsFrameOfSize (captured_seen x.0) bytes x.1)
first_found None bytes e = subst (λ f. StandsSome f bytes) (sym e) (stands bytes)
first_found (Some x) bytes e =
    read_is (captured_seen x.0) x.1 bytes (sym e) (subst (λ f. StandsSome f bytes) (sym e) (stands bytes))
