-- What an item of a line is: with which byte it begins, and that no data block begins behind that byte.
use Rattle.std.proofs.Common.{◌≡◌, ◌⊎◌, ℕ, ◌-◌, Bool, true, false, List, [], ◌∷◌, ◌++◌, refl, sym, ◌∙◌, ap, subst, inl, inr, arith, ◌&&◌, ◌==◌}
use Rattle.std.specs.List.{list_all}
use Rattle.std.proofs.lemmas.Bool.{cases_eq}
use Rattle.std.proofs.lemmas.Bool.Decides.{nat_tests}
use Rattle.dex_line.specs.FrameShapes.{FrameShape, Enq, Ack0, Ack1, Nak, Eot, Header, Block, Damaged, Bad}
use Rattle.dex_line.specs.Bytes.{is_text}
use Rattle.dex_line.specs.FrameSpelling.{opening, is_closing, low_check, high_check, wrapped, guarded, spelling, IsTextOf, IsSpoken, Spelled}
use Rattle.dex_line.specs.Occurrence.{broken}
use Rattle.dex_line.specs.declared.frame.Opened.{Opened}
use Rattle.dex_line.specs.declared.frame.Opened.TheVariants as opens

-- DLE, STX and a text byte: so a block begins, and nothing else
abbrev pub starts_block : List ℕ → Bool
starts_block (a ∷ b ∷ c ∷ more) = a == 16 && b == 2 && is_text c
starts_block _ = false

and_false : (a b : Bool) → b ≡ false → (a && b) ≡ false
and_false true b h = h
and_false false b h = refl

-- no block begins at another byte than DLE
not_mark : (x : ℕ) (l : List ℕ) → (x == 16) ≡ false → starts_block (x ∷ l) ≡ false
not_mark x [] h = refl
not_mark x (y ∷ []) h = refl
not_mark x (y ∷ z ∷ l) h = ap (λ t. t && y == 2 && is_text z) h

-- nor where another byte than STX is behind it
not_open : (x y : ℕ) (l : List ℕ) → (y == 2) ≡ false → starts_block (x ∷ y ∷ l) ≡ false
not_open x y [] h = refl
not_open x y (z ∷ l) h = ap (λ t. t && is_text z) (and_false (x == 16) (y == 2) h)

-- nor where no text byte is behind both
not_text_next : (x y z : ℕ) (l : List ℕ) → is_text z ≡ false → starts_block (x ∷ y ∷ z ∷ l) ≡ false
not_text_next x y z l h = and_false (x == 16 && y == 2) (is_text z) h

-- what may follow an item: nothing, or a byte that is neither a text byte nor STX
abbrev pub Follows : List ℕ → Type 0
Follows [] = Unit {0}
Follows (b ∷ more) = (is_text b ≡ false) × ((b == 2) ≡ false)

-- nor at the last two bytes of an item
last_two : (x y : ℕ) (next : List ℕ) → Follows next → starts_block (x ∷ y ∷ next) ≡ false
last_two x y [] f = refl
last_two x y (z ∷ next) f = not_text_next x y z next f.0

last_one : (x : ℕ) (next : List ℕ) → Follows next → starts_block (x ∷ next) ≡ false
last_one x [] f = refl
last_one x (y ∷ next) f = not_open x y next f.1

-- no block begins at any of these bytes
abbrev pub Clean : List ℕ → List ℕ → Type 0
Clean [] next = Unit {0}
Clean (x ∷ more) next = (starts_block (x ∷ (more ++ next)) ≡ false) × Clean more next

-- no block begins at a byte behind such a front
pub clean_at : (front : List ℕ) (u : ℕ) (more next : List ℕ) → Clean (front ++ u ∷ more) next
    → starts_block (u ∷ (more ++ next)) ≡ false
clean_at [] u more next c = c.0
clean_at (x ∷ front) u more next c = clean_at front u more next c.1

-- a DLE is no text byte
not_sixteen : is_text 16 ≡ false
unfolding is_text
not_sixteen = refl

-- a text byte is no DLE
text_not_mark : (x : ℕ) → is_text x ≡ true → (x == 16) ≡ false
text_not_mark x h = elim (cases_eq x 16) [
  | inl same ↦ let e : true ≡ false = sym h ∙ ap is_text same ∙ not_sixteen in absurd (cc)
  | inr other ↦ grind (arith, nat_tests)
]

-- a closing byte is neither STX nor DLE
closing_not : (o : Opened) (c : ℕ) → is_closing o c ≡ true → ((c == 2) ≡ false) × ((c == 16) ≡ false)
closing_not opens.Header c h = (grind (arith, nat_tests), grind (arith, nat_tests))
closing_not opens.Block c h = (grind (arith, nat_tests), grind (arith, nat_tests))

pub all_first : (x : ℕ) (text : List ℕ) → list_all is_text (x ∷ text) ≡ true
    → (is_text x ≡ true) × (list_all is_text text ≡ true)
all_first x text h = (grind (arith, nat_tests), grind (arith, nat_tests))

-- no block begins in a text and what closes it
clean_text : (o : Opened) (text : List ℕ) (c low high : ℕ) (next : List ℕ) → list_all is_text text ≡ true
    → is_closing o c ≡ true → Follows next → Clean (text ++ 16 ∷ c ∷ low ∷ high ∷ []) next
clean_text o [] c low high next all h f =
    let n = closing_not o c h in
    (not_open 16 c (low ∷ high ∷ next) n.0, (not_mark c (low ∷ high ∷ next) n.1, (last_two low high next f, (last_one high next f, tt))))
clean_text o (x ∷ text) c low high next all h f =
    let a = all_first x text all in
    (not_mark x ((text ++ 16 ∷ c ∷ low ∷ high ∷ []) ++ next) (text_not_mark x a.0), clean_text o text c low high next a.1 h f)

opening_not : (o : Opened) → (opening o == 16) ≡ false
opening_not opens.Header = refl
opening_not opens.Block = refl

-- ---- what an item is: first byte, and no block begins behind it

-- an item is the spelling of a frame, or no block begins with it
abbrev pub IsSpelledOr : List ℕ → Type 0
IsSpelledOr item =
    ((shape : FrameShape) × Spelled shape item) ⊎ ((rest : List ℕ) → starts_block (item ++ rest) ≡ false)

-- what is to be known of an item
pub record Known (item : List ℕ) : Type 0 where
  pub first : ℕ
  pub more : List ℕ
  pub whole : item ≡ first ∷ more
  pub follows : (is_text first ≡ false) × ((first == 2) ≡ false)
  pub clean : (next : List ℕ) → Follows next → Clean more next
  pub kind : IsSpelledOr item

-- control bytes, and their inverses, are no text
no_text : (is_text 5 ≡ false) × (is_text 21 ≡ false) × (is_text 4 ≡ false) × (is_text 250 ≡ false) × (is_text 234 ≡ false) × (is_text 251 ≡ false)
unfolding is_text
no_text = (refl, refl, refl, refl, refl, refl)

-- a text between its marks, whatever the check
known_wrapped : (o : Opened) (text : List ℕ) (c low high : ℕ) (shape : FrameShape) → IsTextOf o text
    → is_closing o c ≡ true → Spelled shape (wrapped o text c low high) → Known (wrapped o text c low high)
known_wrapped o text c low high shape t h s = record {
  first = 16;
  more = opening o ∷ (text ++ 16 ∷ c ∷ low ∷ high ∷ []);
  whole = refl;
  follows = (not_sixteen, refl);
  clean = λ next f. (not_mark (opening o) ((text ++ 16 ∷ c ∷ low ∷ high ∷ []) ++ next) (opening_not o), clean_text o text c low high next t.bytes h f);
  kind = inl (shape, s);
}

-- inverting the last byte inverts the high byte of the check
broken_end : (text : List ℕ) (c low high : ℕ) (a b : ℕ)
    → broken (a ∷ b ∷ (text ++ 16 ∷ c ∷ low ∷ high ∷ [])) ≡ a ∷ b ∷ (text ++ 16 ∷ c ∷ low ∷ (255 - high) ∷ [])
broken_end [] c low high a b = refl
broken_end (x ∷ text) c low high a b = ap (λ l. a ∷ l) (broken_end text c low high b x)

-- no byte is its own inverse
never_inverted : (n : ℕ) → 255 - n ≡ n → ⊥
never_inverted n e = omega arith

-- so what it gives is damaged
damaged : (o : Opened) (text : List ℕ) (c : ℕ) → IsTextOf o text → is_closing o c ≡ true
    → Spelled Damaged (wrapped o text c (low_check text c) (255 - high_check text c))
damaged o text c t h = record { opened = o; text = text; closing = c; low = low_check text c; high = 255 - high_check text c; fits = t; closes = h; differs = λ p. never_inverted (high_check text c) p.1; spelled = refl }

known_guarded : (o : Opened) (text : List ℕ) (c : ℕ) (shape : FrameShape) (item : List ℕ) → IsTextOf o text
    → is_closing o c ≡ true → Spelled shape (guarded o text c)
    → (item ≡ guarded o text c) ⊎ (item ≡ broken (guarded o text c)) → Known item
known_guarded o text c shape item t h s (inl e) =
    subst (λ i. Known i) (sym e) (known_wrapped o text c (low_check text c) (high_check text c) shape t h s)
known_guarded o text c shape item t h s (inr e) =
    subst (λ i. Known i) (sym (e ∙ broken_end text c (low_check text c) (high_check text c) 16 (opening o)))
    (known_wrapped o text c (low_check text c) (255 - high_check text c) Damaged t h (damaged o text c t h))

-- a frame of one byte
known_one : (b : ℕ) (item : List ℕ) → item ≡ b ∷ [] → is_text b ≡ false → (b == 2) ≡ false → (b == 16) ≡ false
    → Known item
known_one b item e n two mark = subst (λ i. Known i) (sym e) (record {
  first = b;
  more = [];
  whole = refl;
  follows = (n, two);
  clean = λ next f. tt;
  kind = inr (λ rest. not_mark b rest mark);
})

-- a frame of two bytes
known_two : (b : ℕ) (item : List ℕ) → item ≡ 16 ∷ b ∷ [] → (b == 2) ≡ false → (b == 16) ≡ false → Known item
known_two b item e two mark = subst (λ i. Known i) (sym e) (record {
  first = 16;
  more = b ∷ [];
  whole = refl;
  follows = (not_sixteen, refl);
  clean = λ next f. (not_mark b next mark, tt);
  kind = inr (λ rest. not_open 16 b rest two);
})

-- each item is known
pub known : (shape : FrameShape) (item : List ℕ) → IsSpoken shape
    → (item ≡ spelling shape) ⊎ (item ≡ broken (spelling shape)) → Known item
known Enq item s (inl e) = known_one 5 item e no_text.0 refl refl
known Enq item s (inr e) = known_one 250 item e no_text.3 refl refl
known Nak item s (inl e) = known_one 21 item e no_text.1 refl refl
known Nak item s (inr e) = known_one 234 item e no_text.4 refl refl
known Eot item s (inl e) = known_one 4 item e no_text.2 refl refl
known Eot item s (inr e) = known_one 251 item e no_text.5 refl refl
known Ack0 item s (inl e) = known_two 0x30 item e refl refl
known Ack0 item s (inr e) = known_two 207 item e refl refl
known Ack1 item s (inl e) = known_two 0x31 item e refl refl
known Ack1 item s (inr e) = known_two 206 item e refl refl
known (Header text) item s e = known_guarded opens.Header text 3 (Header text) item s refl (s, refl) e
known (Block true text) item s e = known_guarded opens.Block text 3 (Block true text) item s refl (s, refl) e
known (Block false text) item s e = known_guarded opens.Block text 23 (Block false text) item s refl (s, refl) e
known Damaged item s e = absurd s
known Bad item s e = absurd s
