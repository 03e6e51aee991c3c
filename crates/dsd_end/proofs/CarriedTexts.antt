-- A text that was heard is put together from blocks that occur in the bytes, and so the sets that it lends are carried.
use Rattle.std.proofs.Common.{◌≡◌, ℕ, Bool, List, [], ◌∷◌, ◌++◌, length, take, drop, Some, refl, sym, ◌∙◌, ap, subst, append_assoc, append-nil}
use Rattle.std.specs.Prelude.{Contains}
use Rattle.std.specs.List.{concat}
use Rattle.std.proofs.lemmas.List.{take-append-drop}
use Rattle.std.proofs.lemmas.List.Elements.{All-contains}
use Rattle.dex_line.specs.FrameShapes.{FrameShape, Enq, Ack0, Ack1, Nak, Eot, Header, Block, Damaged, Bad}
use Rattle.dex_line.specs.FrameSpelling.{IsSpoken, spelling}
use Rattle.dex_line.specs.Judging.{judge}
use Rattle.dex_line.proofs.Answered.{answers_judged}
use Rattle.dxs_envelope.specs.FirstFault.{told_of}
use Rattle.dxs_envelope.specs.Transmission.{StandsIn}
use Rattle.dxs_envelope.specs.Views.{SetAt}
use Rattle.dxs_envelope.proofs.Standing.{told_stand}
use Rattle.dsd_end.specs.Carrying.{Carried, OccurInOrder, texts_in}
use Rattle.dsd_end.specs.SoFar.{CarriesText}
use Rattle.own_turn.specs.OwnTurn.{sets_lent}
use Rattle.delivery_book.proofs.Listed.{map_in}
use Rattle.delivery_book.proofs.Members.{from_contains, to_contains}
use Rattle.dsd_end.proofs.Onward.{occur_more}
use Rattle.dex_handshake.proofs.SoundTable.{GoesOn}

pub carries_nothing : (bytes : List ℕ) → CarriesText bytes []
carries_nothing bytes = record { blocks = []; occur = tt; joined = refl }

pub carries_more : (bytes more text : List ℕ) → CarriesText bytes text → CarriesText (bytes ++ more) text
carries_more bytes more text c = record { blocks = c.blocks; occur = occur_more c.blocks bytes more c.occur; joined = c.joined }

-- ---- a block more

occur_last : (blocks : List (List ℕ × Bool)) (bytes : List ℕ) (block : List ℕ × Bool) → OccurInOrder blocks bytes → IsSpoken (Block block.1 block.0)
    → OccurInOrder (blocks ++ block ∷ []) (bytes ++ spelling (Block block.1 block.0))
occur_last [] bytes block o s =
    (bytes, [], (s, ap (λ (t : List ℕ). bytes ++ t) (sym (append-nil (spelling (Block block.1 block.0))))), tt)
occur_last (first ∷ blocks) bytes block (front, back, here, later) s =
    let piece : List ℕ = spelling (Block first.1 first.0) in
    let more : List ℕ = spelling (Block block.1 block.0) in (
      front,
      back ++ more,
      (here.0, ap (λ (t : List ℕ). t ++ more) here.1 ∙ append_assoc front (piece ++ back) more ∙ ap (λ (t : List ℕ). front ++ t) (append_assoc piece back more)),
      occur_last blocks back block later s,
    )

joined_last : (blocks : List (List ℕ × Bool)) (block : List ℕ × Bool)
    → concat (texts_in (blocks ++ block ∷ [])) ≡ concat (texts_in blocks) ++ block.0
joined_last [] block = append-nil block.0
joined_last (first ∷ blocks) block =
    ap (λ (t : List ℕ). first.0 ++ t) (joined_last blocks block) ∙ sym (append_assoc first.0 (concat (texts_in blocks)) block.0)

pub carries_block : (bytes text block : List ℕ) (last : Bool) → CarriesText bytes text → IsSpoken (Block last block)
    → CarriesText (bytes ++ spelling (Block last block)) (text ++ block)
carries_block bytes text block last c s = record {
  blocks = c.blocks ++ (block, last) ∷ [];
  occur = occur_last c.blocks bytes (block, last) c.occur s;
  joined = joined_last c.blocks (block, last) ∙ ap (λ (t : List ℕ). t ++ block) c.joined;
}

-- a frame that was heard behind these bytes
pub frame_goes_on : (bytes piece : List ℕ) (frame : FrameShape) → judge piece ≡ Some frame → GoesOn (CarriesText bytes) (CarriesText (bytes ++ piece)) frame
frame_goes_on bytes piece (Block last text) e =
    let spelled : IsSpoken (Block last text) × (piece ≡ spelling (Block last text)) = answers_judged piece (Some (Block last text)) (sym e) in
    λ before c. subst (λ (p : List ℕ). CarriesText (bytes ++ p) (before ++ text)) (sym spelled.1) (carries_block bytes before text last c spelled.0)
frame_goes_on bytes piece Enq e = tt
frame_goes_on bytes piece Ack0 e = tt
frame_goes_on bytes piece Ack1 e = tt
frame_goes_on bytes piece Nak e = tt
frame_goes_on bytes piece Eot e = tt
frame_goes_on bytes piece (Header text) e = tt
frame_goes_on bytes piece Damaged e = tt
frame_goes_on bytes piece Bad e = tt

-- ---- the sets that a text lends

set_carried : (bytes text : List ℕ) (set : SetAt) → CarriesText bytes text → StandsIn text set → Carried bytes set.bytes
set_carried bytes text set c stands =
    let later : List ℕ = drop set.start text in
    let behind : later ≡ set.bytes ++ drop (length set.bytes) later =
    sym (take-append-drop (length set.bytes) later) ∙ ap (λ (t : List ℕ). t ++ drop (length set.bytes) later) stands.there in
    record {
      blocks = c.blocks;
      occur = c.occur;
      before = take set.start text;
      rest = drop (length set.bytes) later;
      joined = c.joined ∙ sym (take-append-drop set.start text) ∙ ap (λ (t : List ℕ). take set.start text ++ t) behind;
      segments = stands.before;
      spelled = stands.behind;
    }

-- a set that such a text lends was carried
pub lent_carried : (bytes text set : List ℕ) → CarriesText bytes text → Contains (sets_lent text) set → Carried bytes set
lent_carried bytes [] set c inside = absurd (from_contains [] set inside)
lent_carried bytes (b ∷ text) set c inside =
    let told : List SetAt = (told_of (b ∷ text)).sets in
    let image = map_in (λ (s : SetAt). s.bytes) told set (from_contains (sets_lent (b ∷ text)) set inside) in
    let stands = All-contains (StandsIn (b ∷ text)) told image.from (told_stand (b ∷ text)) (to_contains told image.from image.among) in
    subst (Carried bytes) image.same (set_carried bytes (b ∷ text) image.from c stands)
