-- More is heard, and more entries stand: what was carried stays so, and what was backed.
use Rattle.std.proofs.Common.{ℕ, Bool, List, [], ◌∷◌, ◌++◌, ◌∙◌, ap, append_assoc}
use Rattle.std.proofs.lemmas.List.Elements.{All-cons, All-nil, All-head}
use Rattle.dex_line.specs.FrameShapes.{FrameShape, Enq, Ack0, Ack1, Nak, Eot, Header, Block, Damaged, Bad}
use Rattle.dex_line.specs.FrameSpelling.{spelling}
use Rattle.dsd_journal.specs.declared.entry.Entry.{Entry}
use Rattle.dsd_end.specs.Carrying.{Carried, OccurInOrder}
use Rattle.dsd_end.specs.Speaking.{AreSigned, IsBacked}
use Rattle.dsd_end.proofs.Growing.{Grows, all_signed_grow}

pub occur_more : (blocks : List (List ℕ × Bool)) (bytes more : List ℕ) → OccurInOrder blocks bytes → OccurInOrder blocks (bytes ++ more)
occur_more [] bytes more o = tt
occur_more (block ∷ blocks) bytes more (front, back, here, later) =
    let piece : List ℕ = spelling (Block block.1 block.0) in (
      front,
      back ++ more,
      (here.0, ap (λ (t : List ℕ). t ++ more) here.1 ∙ append_assoc front (piece ++ back) more ∙ ap (λ (t : List ℕ). front ++ t) (append_assoc piece back more)),
      occur_more blocks back more later,
    )

-- what was carried stays so when more is heard
pub carried_more : (bytes more set : List ℕ) → Carried bytes set → Carried (bytes ++ more) set
carried_more bytes more set c = record {
  blocks = c.blocks;
  occur = occur_more c.blocks bytes more c.occur;
  before = c.before;
  rest = c.rest;
  joined = c.joined;
  segments = c.segments;
  spelled = c.spelled;
}

pub backed_grows : (old new : List Entry) → Grows old new → (frame : FrameShape) → IsBacked (old ∷ []) frame → IsBacked (new ∷ []) frame
backed_grows old new g (Block last text) (sets, from, each) =
    (sets, from, All-cons (AreSigned sets) new [] (all_signed_grow sets old new g (All-head (AreSigned sets) old [] each)) (All-nil (AreSigned sets)))
backed_grows old new g Enq b = tt
backed_grows old new g Ack0 b = tt
backed_grows old new g Ack1 b = tt
backed_grows old new g Nak b = tt
backed_grows old new g Eot b = tt
backed_grows old new g (Header text) b = tt
backed_grows old new g Damaged b = tt
backed_grows old new g Bad b = tt
