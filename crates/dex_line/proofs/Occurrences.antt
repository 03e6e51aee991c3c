-- In a join of frames each spelling of a data block is one whole frame.
use Rattle.std.proofs.Common.{◌≡◌, ◌⊎◌, ℕ, Bool, true, false, List, [], ◌∷◌, ◌++◌, length, refl, sym, ◌∙◌, ap, subst, inl, inr, arith, append_assoc, append-nil, length-append}
use Rattle.std.specs.List.{concat}
use Rattle.dex_line.specs.FrameShapes.{Block}
use Rattle.dex_line.specs.FrameSpelling.{spelling, IsTextOf, IsSpoken}
use Rattle.dex_line.specs.Occurrence.{IsItem, AreItems, IsOneItem, IsCutShort, Occurs}
use Rattle.dex_line.specs.declared.frame.Opened.TheVariants as opens
use Rattle.dex_line.proofs.Items.{starts_block, Follows, Clean, IsSpelledOr, clean_at, all_first, known}
use Rattle.dex_line.proofs.Pieces.{split_bytes, same_rest, same_place}

-- each item begins with a byte that neither is text nor opens a block
items_follow : (items : List (List ℕ)) → AreItems items → Follows (concat items)
items_follow [] a = tt
items_follow (item ∷ items) ((shape, s, e), a) =
    let k = known shape item s e in
    subst (λ i. Follows (i ++ concat items)) (sym k.whole) k.follows

-- a block begins as blocks do
block_starts : (last : Bool) (text : List ℕ) (back : List ℕ) → IsTextOf opens.Block text
    → starts_block (spelling (Block last text) ++ back) ≡ true
block_starts last [] back t = let some = t.some in absurd (omega arith)
block_starts last (x ∷ text) back t = (all_first x text t.bytes).0

-- a block that stands where an item begins is the item
aligned : (last : Bool) (text : List ℕ) (item next back : List ℕ) → IsTextOf opens.Block text → IsSpelledOr item
    → spelling (Block last text) ++ back ≡ item ++ next → item ≡ spelling (Block last text)
aligned last text item next back t (inl (shape, s)) e =
    sym (same_place (Block last text) shape (spelling (Block last text)) item back next (t, refl) s e)
aligned last text item next back t (inr not) e =
    let yes_it = block_starts last text back t in
    let no_it = not next in
    let clash : true ≡ false = sym yes_it ∙ ap starts_block e ∙ no_it in
    absurd (cc)

-- one item more in front
further : (last : Bool) (text : List ℕ) (item : List ℕ) (items : List (List ℕ)) (r front back : List ℕ)
    → front ≡ item ++ r → IsOneItem items r (spelling (Block last text)) back
    → IsOneItem (item ∷ items) front (spelling (Block last text)) back
further last text item items r front back p (before, after, e, f, g) =
    (item ∷ before, after, ap (λ l. item ∷ l) e, p ∙ ap (λ x. item ++ x) f, g)

tail_same : (x y : ℕ) (a b : List ℕ) → x ∷ a ≡ y ∷ b → a ≡ b
tail_same x y a b e = cc

-- a block in a join of items is one whole item
pub one_item : (last : Bool) (text : List ℕ) (items : List (List ℕ)) (front back : List ℕ)
    → IsSpoken (Block last text) → AreItems items → concat items ≡ front ++ (spelling (Block last text) ++ back)
    → IsOneItem items front (spelling (Block last text)) back
one_item last text [] front back t a e = let l = ap length e in absurd (omega (arith, length-append front (spelling (Block last text) ++ back)))
one_item last text (item ∷ items) [] back t ((shape, s, i), a) e =
    let k = known shape item s i in
    let same = aligned last text item (concat items) back t k.kind (sym e) in
    let rest : concat items ≡ back = same_rest (spelling (Block last text)) (concat items) back (ap (λ x. x ++ concat items) (sym same) ∙ e) in
    ([], items, ap (λ x. x ∷ items) same, refl, sym rest)
one_item last text (item ∷ items) (b ∷ front) back t ((shape, s, i), a) e =
    let k = known shape item s i in
    elim (split_bytes (b ∷ front) (spelling (Block last text) ++ back) item (concat items) (sym e)) [
      | inl (r, p, q) ↦
          let on = one_item last text items r back t a q in
          further last text item items r (b ∷ front) back p on
      | inr (u, r, p, q) ↦
          let w : k.more ≡ front ++ u ∷ r = tail_same k.first b k.more (front ++ u ∷ r) (sym k.whole ∙ p) in
          let c = clean_at front u r (concat items) (subst (λ m. Clean m (concat items)) w (k.clean (concat items) (items_follow items a))) in
          let clash : true ≡ false = sym (block_starts last text back t) ∙ ap starts_block q ∙ c in
          absurd (cc)
    ]

-- ---- where the last frame is cut short

-- one item more behind
whole_items : (items : List (List ℕ)) (item : List ℕ) → AreItems items → IsItem item → AreItems (items ++ item ∷ [])
whole_items [] item a i = (i, tt)
whole_items (x ∷ items) item a i = (a.0, whole_items items item a.1 i)

-- the join with one item more behind
join_last : (items : List (List ℕ)) (item : List ℕ) → concat (items ++ item ∷ []) ≡ concat items ++ item
join_last [] item = append-nil item
join_last (x ∷ items) item = ap (λ l. x ++ l) (join_last items item) ∙ sym (append_assoc x (concat items) item)

-- a list whose last element is known, cut at another
last_of : (items : List (List ℕ)) (item piece : List ℕ) (before after : List (List ℕ))
    → items ++ item ∷ [] ≡ before ++ piece ∷ after
    → ((after ≡ []) × (piece ≡ item)) ⊎ ((more : List (List ℕ)) × (after ≡ more ++ item ∷ []) × (items ≡ before ++ piece ∷ more))
last_of [] item piece [] [] e = inl (refl, cc)
last_of [] item piece [] (y ∷ after) e = absurd (cc)
last_of [] item piece (x ∷ []) after e = absurd (cc)
last_of [] item piece (x ∷ y ∷ before) after e = absurd (cc)
last_of (x ∷ items) item piece [] after e = let h : piece ≡ x = cc in let t : after ≡ items ++ item ∷ [] = cc in inr (items, t, ap (λ y. y ∷ items) (sym h))
last_of (x ∷ items) item piece (y ∷ before) after e =
    let h : x ≡ y = cc in
    let t : items ++ item ∷ [] ≡ before ++ piece ∷ after = cc in
    elim (last_of items item piece before after t) [
      | inl last ↦ inl last
      | inr (more, p, q) ↦ inr (more, p, ap (λ z. z ∷ items) h ∙ ap (λ l. y ∷ l) q)
    ]

-- what is left in front of the same back
same_front : (a b c : List ℕ) → a ++ c ≡ b ++ c → a ≡ b
same_front [] [] c e = refl
same_front [] (y ∷ b) c e = let l = ap length e in absurd (omega (arith, length-append b c))
same_front (x ∷ a) [] c e = let l = ap length e in absurd (omega (arith, length-append a c))
same_front (x ∷ a) (y ∷ b) c e = let h : x ≡ y = cc in let t : a ++ c ≡ b ++ c = cc in ap (λ z. z ∷ a) h ∙ ap (λ l. y ∷ l) (same_front a b c t)

-- the same where the last frame is cut short: with the rest of it the items are whole
pub item_before_cut : (last : Bool) (text : List ℕ) (items : List (List ℕ)) (cut front back : List ℕ)
    → IsSpoken (Block last text) → AreItems items → IsCutShort cut
    → concat items ++ cut ≡ front ++ (spelling (Block last text) ++ back)
    → (before : List (List ℕ)) × (after : List (List ℕ)) × (items ≡ before ++ spelling (Block last text) ∷ after) × (front ≡ concat before) × (back ≡ concat after ++ cut)
item_before_cut last text items cut front back t a (shape, b, more, s, e) same =
    let block : List ℕ = spelling (Block last text) in
    let item : List ℕ = spelling shape in
    let tail : List ℕ = b ∷ more in
    let all : concat (items ++ item ∷ []) ≡ front ++ (block ++ (back ++ tail)) =
    join_last items item ∙ ap (λ x. concat items ++ x) e ∙ sym (append_assoc (concat items) cut tail)
    ∙ ap (λ x. x ++ tail) same ∙ append_assoc front (block ++ back) tail
    ∙ ap (λ x. front ++ x) (append_assoc block back tail) in
    let (before, after, i, f, g) = one_item last text (items ++ item ∷ []) front (back ++ tail) t (whole_items items item a (shape, s, inl refl)) all in
    elim (last_of items item block before after i) [
      | inl none ↦ let l : length (back ++ tail) ≡ 0 = ap length (g ∙ ap concat none.0) in absurd (omega (arith, length-append back tail))
      | inr (rest, p, q) ↦
          let h : back ++ tail ≡ (concat rest ++ cut) ++ tail = g ∙ ap concat p ∙ join_last rest item ∙ ap (λ x. concat rest ++ x) e ∙ sym (append_assoc (concat rest) cut tail) in
          (before, rest, q, f, same_front back (concat rest ++ cut) tail h)
    ]

-- so a block that occurs is an item
pub item_of : (last : Bool) (text : List ℕ) (items : List (List ℕ)) (cut : List ℕ)
    → AreItems items → IsCutShort cut → Occurs last text (concat items ++ cut)
    → (before : List (List ℕ)) × (after : List (List ℕ)) × (items ≡ before ++ spelling (Block last text) ∷ after)
item_of last text items cut a s (front, back, o) =
    let (before, after, found, f, g) = item_before_cut last text items cut front back o.0 a s o.1 in
    (before, after, found)
