-- The trailer lemma: the G85 and the SE of a set that stands in a join of blocks of written transmissions stand in one block of one of their sets.
use Rattle.std.proofs.Common.{◌≡◌, ℕ, Bool, true, List, [], ◌∷◌, ◌++◌, sym, ap, subst, inl, inr}
use Rattle.std.specs.Prelude.{All, Contains}
use Rattle.std.specs.List.{concat}
use Rattle.std.proofs.lemmas.List.Elements.{All-contains, All-map, All-weaker}
use Rattle.segments.specs.SegmentSpelling.{SpellsSegments}
use Rattle.segments.specs.Views.{Seg}
use Rattle.transaction_set.specs.declared.seal.Seal.{Seal}
use Rattle.dex_line.specs.TextUnits.{is_trailer, lines_of}
use Rattle.dex_line.proofs.Fewest.{blocks_joined}
use Rattle.dsd_record.specs.SetTexts.{IsSet}
use Rattle.dsd_record.specs.declared.set_view.SetView.{SetView}
use Rattle.delivery_book.proofs.Listed.{map_in}
use Rattle.delivery_book.proofs.Members.{In, from_contains, to_contains}
use Rattle.dsd_end.specs.Carrying.{texts_in}
use Rattle.dsd_end.specs.Sealing.{IsBlockOf, IsSealedByOne, IsSomeSet, seal_in}
use Rattle.dsd_end.specs.Speaking.{IsCutFrom}
use Rattle.dsd_end.proofs.WholeLines.{HasPair, InOne, IsWhole, blocks_whole, pair_in_join, pair_in_one, pair_stands}
use Rattle.dsd_end.proofs.SealedSets.{ends_in, is_end_line, is_trailer_line, pair_behind, same_seal, sealed_set}
use Rattle.dsd_end.proofs.Transmissions.{pair_in_set, set_whole, transmission_whole}

in_texts : (blocks : List (List ℕ × Bool)) (block : List ℕ × Bool) → In block blocks → In block.0 (texts_in blocks)
in_texts [] block none = none
in_texts (first ∷ blocks) block (inl same) = inl (ap (λ (b : List ℕ × Bool). b.0) same)
in_texts (first ∷ blocks) block (inr among) = inr (in_texts blocks block among)

-- ---- a block of a transmission of sets

module _ (texts : List (List ℕ)) (last : Bool) (text : List ℕ) (cut : IsCutFrom texts last text) (are : All IsSomeSet texts) where
  blocks_are : All IsWhole (texts_in cut.blocks)
  blocks_are = blocks_whole cut.whole cut.blocks cut.cut (transmission_whole texts cut.sender cut.receiver cut.control cut.whole cut.sent are)

  inside : Contains (texts_in cut.blocks) text
  inside = to_contains (texts_in cut.blocks) text (in_texts cut.blocks (text, last) (from_contains cut.blocks (text, last) cut.one))

  block_whole : IsWhole text
  block_whole = All-contains IsWhole (texts_in cut.blocks) text blocks_are inside

  -- a G85 and the SE behind it in the block stand in one of the sets
  pair_of_block : (line next : List ℕ) → is_trailer line ≡ true → HasPair line next (lines_of text) → InOne line next texts
  pair_of_block line next t pair =
      let joined : HasPair line next (lines_of (concat (texts_in cut.blocks))) = pair_in_join line next (texts_in cut.blocks) text blocks_are inside pair in
      let there : HasPair line next (lines_of cut.whole) = subst (λ (l : List ℕ). HasPair line next (lines_of l)) (blocks_joined cut.whole cut.blocks cut.cut) joined in
      pair_in_set texts cut.sender cut.receiver cut.control cut.whole cut.sent are line next t there

-- ---- blocks of such transmissions, taken in any order, repeated or left out

module _ (P : List ℕ → Type 0) (sets : (text : List ℕ) → P text → IsSomeSet text) where
  are_sets : (texts : List (List ℕ)) → All P texts → All IsSomeSet texts
  are_sets texts each = All-weaker P IsSomeSet sets texts each

  each_whole : (blocks : List (List ℕ × Bool)) → All (IsBlockOf P) blocks → All IsWhole (texts_in blocks)
  each_whole blocks are =
      All-map IsWhole (λ (block : List ℕ × Bool). block.0) blocks
      (All-weaker (IsBlockOf P) (λ (block : List ℕ × Bool). IsWhole block.0) (λ block of. block_whole of.0 block.1 block.0 of.1 (are_sets of.0 of.2)) blocks are)

  -- where a set stands behind whole segments in the join of such blocks, it is sealed by one of their sets
  pub sealed_by_one : (blocks : List (List ℕ × Bool)) (before text rest : List ℕ) (segs : List Seg) (set : SetView) → All (IsBlockOf P) blocks
      → concat (texts_in blocks) ≡ before ++ (text ++ rest) → SpellsSegments 0 segs before → IsSet set text → IsSealedByOne P blocks text set
  sealed_by_one blocks before text rest segs set are joined spelled is =
      let seal : Seal = seal_in set in
      let a = sealed_set set text is in
      let line : List ℕ = a.sealed.integrity.bytes in
      let next : List ℕ = a.sealed.trailer.bytes in
      let t = is_trailer_line seal text a in
      let pair = subst (λ (l : List ℕ). HasPair line next (lines_of l)) (sym joined) (pair_behind seal text a before rest segs spelled) in
      let found = pair_in_one line next (texts_in blocks) t (each_whole blocks are) pair in
      let image = map_in (λ (block : List ℕ × Bool). block.0) blocks found.0 (from_contains (texts_in blocks) found.0 found.1) in
      let block : List ℕ × Bool = image.from in
      let among = to_contains blocks block image.among in
      let of = All-contains (IsBlockOf P) blocks block are among in
      let texts : List (List ℕ) = of.0 in
      let are_texts = are_sets texts of.2 in
      let here : HasPair line next (lines_of block.0) = subst (λ (l : List ℕ). HasPair line next (lines_of l)) (sym image.same) found.2 in
      let one = pair_of_block texts block.1 block.0 of.1 are_texts line next t here in
      let some = All-contains IsSomeSet texts one.0 are_texts one.1 in
      let ending = ends_in seal text a in
      record {
        integrity = line;
        trailer = next;
        is_integrity = t;
        is_trailer = is_end_line seal text a;
        front = ending.0;
        ends = ending.1;
        block = block;
        among = among;
        in_block = pair_stands line next block.0 (block_whole texts block.1 block.0 of.1 are_texts) here;
        texts = texts;
        cut = of.1;
        one = one.0;
        sent = one.1;
        has = All-contains P texts one.0 of.2 one.1;
        in_one = pair_stands line next one.0 (set_whole one.0 some) one.2;
        other = some.0;
        is = some.1;
        alike = same_seal seal (seal_in some.0) text one.0 a (sealed_set some.0 one.0 some.1) one.2;
      }
