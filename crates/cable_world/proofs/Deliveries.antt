-- Where frames are delivered, each data block that is heard was spoken whole.
use Rattle.std.proofs.Common.{◌≡◌, ◌⊎◌, ℕ, ◌-◌, Bool, true, false, List, [], ◌∷◌, ◌++◌, length, refl, sym, ◌∙◌, ap, subst, inl, inr, arith, append_assoc, append-nil, length-append, get_or}
use Rattle.std.specs.List.{concat}
use Rattle.dex_line.specs.FrameShapes.{FrameShape, Enq, Ack0, Ack1, Nak, Eot, Header, Block, Damaged, Bad}
use Rattle.dex_line.specs.FrameSpelling.{IsSpoken, IsTextOf, Spelled, block_end, high_check, is_closing, low_check, spelling, wrapped}
use Rattle.dex_line.specs.Occurrence.{AreItems, IsCutShort, broken}
use Rattle.dex_line.specs.declared.frame.Opened.TheVariants as opens
use Rattle.dex_line.proofs.Occurrences.{item_of}
use Rattle.dex_line.proofs.Spoken.{said}
use Rattle.dex_line.proofs.Told.{one_frame, spelled_damaged}
use Rattle.dsd_end.specs.Cabling.{HearsFrom}
use Rattle.cable_world.specs.Delivering.{AreDelivered, AreDeliveries, IsDelivered, WentOut}
use Rattle.dsd_end.specs.Runs.{Run, bytes_heard}
use Rattle.dex_line.proofs.Pieces.{split_bytes}

-- inverting the last byte inverts the high byte of the check
broken_end : (text : List ℕ) (c low high a b : ℕ) → broken (a ∷ b ∷ (text ++ 16 ∷ c ∷ low ∷ high ∷ [])) ≡ a ∷ b ∷ (text ++ 16 ∷ c ∷ low ∷ (255 - high) ∷ [])
broken_end [] c low high a b = refl
broken_end (x ∷ text) c low high a b = ap (λ (l : List ℕ). a ∷ l) (broken_end text c low high b x)

never_inverted : (n : ℕ) → 255 - n ≡ n → ⊥
never_inverted n e = omega arith

closes : (last : Bool) → is_closing opens.Block (block_end last) ≡ true
closes true = refl
closes false = refl

damaged_block : (last : Bool) (text : List ℕ) → IsTextOf opens.Block text → Spelled Damaged (broken (spelling (Block last text)))
damaged_block last text t =
    let c : ℕ = block_end last in
    let low : ℕ = low_check text c in
    let high : ℕ = high_check text c in
    let is : Spelled Damaged (wrapped opens.Block text c low (255 - high)) = spelled_damaged opens.Block text c low (255 - high) t (closes last) (λ p. never_inverted high p.1) in
    subst (Spelled Damaged) (sym (broken_end text c low high 16 2)) is

too_short : (text : List ℕ) (c low high : ℕ) (item : List ℕ) → length item ≡ 2 → item ≡ 16 ∷ 2 ∷ (text ++ 16 ∷ c ∷ low ∷ high ∷ []) → ⊥
too_short text c low high item two e = omega (arith, ap length e, length-append text (16 ∷ c ∷ low ∷ high ∷ []))

second_differs : (a b : ℕ) (x y : List ℕ) → a ∷ 1 ∷ x ≡ b ∷ 2 ∷ y → ⊥
second_differs a b x y e = omega (arith, ap (λ (l : List ℕ). get_or l 1 0) e)

-- a frame with its last byte inverted is no block
broken_no_block : (frame : FrameShape) (last : Bool) (text : List ℕ) → IsSpoken frame → IsSpoken (Block last text) → broken (spelling frame) ≡ spelling (Block last text) → ⊥
broken_no_block Enq last text s t e = cc
broken_no_block Nak last text s t e = cc
broken_no_block Eot last text s t e = cc
broken_no_block Ack0 last text s t e = too_short text (block_end last) (low_check text (block_end last)) (high_check text (block_end last)) (broken (spelling Ack0)) refl e
broken_no_block Ack1 last text s t e = too_short text (block_end last) (low_check text (block_end last)) (high_check text (block_end last)) (broken (spelling Ack1)) refl e
broken_no_block (Header inside) last text s t e =
    second_differs 16 16 _ _ (sym (broken_end inside 3 (low_check inside 3) (high_check inside 3) 16 1) ∙ e)
broken_no_block (Block mark inside) last text s t e =
    let is : Spelled Damaged (spelling (Block last text)) = subst (Spelled Damaged) e (damaged_block mark inside s) in
    let same : Damaged ≡ Block last text = one_frame Damaged (Block last text) (spelling (Block last text)) is (said (Block last text) t) in
    cc
broken_no_block Damaged last text s t e = s
broken_no_block Bad last text s t e = s

item_kind : (runs : List Run) (frame : FrameShape) (item : List ℕ) → ((item ≡ spelling frame) × WentOut runs frame) ⊎ (item ≡ broken (spelling frame)) → (item ≡ spelling frame) ⊎ (item ≡ broken (spelling frame))
item_kind runs frame item (inl whole) = inl whole.0
item_kind runs frame item (inr hurt) = inr hurt

items_of : (runs : List Run) (items : List (List ℕ)) → AreDelivered runs items → AreItems items
items_of runs [] each = tt
items_of runs (item ∷ more) ((frame, spoken, kind), each) = ((frame, spoken, item_kind runs frame item kind), items_of runs more each)

delivered_at : (runs : List Run) (items before after : List (List ℕ)) (piece : List ℕ) → AreDelivered runs items → items ≡ before ++ piece ∷ after → IsDelivered runs piece
delivered_at runs [] before after piece each e = let l = ap length e in absurd (omega (arith, length-append before (piece ∷ after)))
delivered_at runs (item ∷ more) [] after piece each e = let same : item ≡ piece = cc in subst (IsDelivered runs) same each.0
delivered_at runs (item ∷ more) (x ∷ before) after piece each e = let on : more ≡ before ++ piece ∷ after = cc in delivered_at runs more before after piece each.1 on

block_went_out : (runs : List Run) (last : Bool) (text : List ℕ) → IsSpoken (Block last text) → IsDelivered runs (spelling (Block last text)) → WentOut runs (Block last text)
block_went_out runs last text t (frame, spoken, inl (e, out)) =
    let first : Spelled frame (spelling (Block last text)) = subst (Spelled frame) (sym e) (said frame spoken) in
    let same : frame ≡ Block last text = one_frame frame (Block last text) (spelling (Block last text)) first (said (Block last text) t) in
    subst (WentOut runs) same out
block_went_out runs last text t (frame, spoken, inr e) = absurd (broken_no_block frame last text spoken t (sym e))

-- so it is of what a run heard
pub deliveries_heard : (others : List Run) (run : Run) → AreDeliveries others (bytes_heard run.heard) → HearsFrom others run
deliveries_heard others run d last text (front, back, o) =
    let found = item_of last text d.items d.short (items_of others d.items d.each) d.cut (front, back, (o.0, sym d.joined ∙ o.1)) in
    let out = block_went_out others last text o.0 (delivered_at others d.items found.0 found.1 (spelling (Block last text)) d.each found.2) in
    (out.0, out.1, (out.2.0, out.2.1, (o.0, out.2.2)))

-- ---- a front of what is delivered

-- a proper front of a frame with its last byte inverted is one of the frame
broken_front : (text front : List ℕ) (b : ℕ) (more : List ℕ) → broken text ≡ front ++ b ∷ more → (c : ℕ) × (rest : List ℕ) × (text ≡ front ++ c ∷ rest)
broken_front [] front b more e = let l = ap length e in absurd (omega (arith, length-append front (b ∷ more)))
broken_front (x ∷ []) [] b more e = (x, [], refl)
broken_front (x ∷ []) (y ∷ front) b more e = let l = ap length e in absurd (omega (arith, length-append front (b ∷ more)))
broken_front (x ∷ z ∷ text) [] b more e = (x, z ∷ text, refl)
broken_front (x ∷ z ∷ text) (y ∷ front) b more e =
    let same : x ≡ y = cc in
    let on : broken (z ∷ text) ≡ front ++ b ∷ more = cc in
    let (c, rest, found) = broken_front (z ∷ text) front b more on in
    (c, rest, ap (λ (h : ℕ). h ∷ z ∷ text) same ∙ ap (λ (t : List ℕ). y ∷ t) found)

front_of_item : (runs : List Run) (item front : List ℕ) (b : ℕ) (more : List ℕ) → IsDelivered runs item → item ≡ front ++ b ∷ more → IsCutShort front
front_of_item runs item front b more (frame, spoken, inl (is, out)) e = (frame, b, more, spoken, sym is ∙ e)
front_of_item runs item front b more (frame, spoken, inr is) e =
    let (c, rest, found) = broken_front (spelling frame) front b more (sym is ∙ e) in
    (frame, c, rest, spoken, found)

nothing_cut : IsCutShort []
nothing_cut = (Enq, 5, [], tt, refl)

none_delivered : (runs : List Run) (bytes : List ℕ) → bytes ≡ [] → AreDeliveries runs bytes
none_delivered runs bytes e = record { items = []; short = []; joined = e; each = tt; cut = nothing_cut }

no_bytes : (bytes rest : List ℕ) → [] ≡ bytes ++ rest → bytes ≡ []
no_bytes [] rest e = refl
no_bytes (b ∷ bytes) rest e = absurd (cc)

one_more_item : (runs : List Run) (item bytes later : List ℕ) → IsDelivered runs item → bytes ≡ item ++ later → AreDeliveries runs later → AreDeliveries runs bytes
one_more_item runs item bytes later is e d = record {
  items = item ∷ d.items;
  short = d.short;
  joined = e ∙ ap (λ (t : List ℕ). item ++ t) d.joined ∙ sym (append_assoc item (concat d.items) d.short);
  each = (is, d.each);
  cut = d.cut;
}

-- what a run has heard of delivered frames, up to anywhere
pub front_delivered : (runs : List Run) (items : List (List ℕ)) (bytes rest : List ℕ) → AreDelivered runs items → concat items ≡ bytes ++ rest → AreDeliveries runs bytes
front_delivered runs [] bytes rest each e = none_delivered runs bytes (no_bytes bytes rest e)
front_delivered runs (item ∷ more) bytes rest each e = elim (split_bytes item (concat more) bytes rest e) [
  | inl ([], p, q) ↦ one_more_item runs item bytes [] each.0 (sym (append-nil bytes) ∙ sym p ∙ sym (append-nil item)) (none_delivered runs [] refl)
  | inl (x ∷ r, p, q) ↦ record { items = []; short = bytes; joined = refl; each = tt; cut = front_of_item runs item bytes x r each.0 p }
  | inr (u, r, p, q) ↦ one_more_item runs item bytes (u ∷ r) each.0 p (front_delivered runs more (u ∷ r) rest each.1 q)
]
