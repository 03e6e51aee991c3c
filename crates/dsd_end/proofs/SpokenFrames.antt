-- From bytes to frames: a data block that occurs in bytes that have gone out is one of the frames.
use Rattle.std.proofs.Common.{◌≡◌, ℕ, Bool, List, [], ◌∷◌, ◌++◌, map, refl, sym, ◌∙◌, ap, subst, inl, inr}
use Rattle.std.specs.Prelude.{Contains}
use Rattle.std.specs.List.{concat, flat_map}
use Rattle.std.proofs.lemmas.List.Elements.{All-contains, All-weaker, Contains-append_left, Contains-append_right, Contains-push}
use Rattle.dex_line.specs.FrameShapes.{FrameShape, Block}
use Rattle.dex_line.specs.FrameSpelling.{IsSpoken, Spelled, spelling}
use Rattle.dex_line.specs.Hearing.{AreSpoken}
use Rattle.dex_line.specs.Occurrence.{AreItems, Occurs}
use Rattle.dex_line.proofs.Occurrences.{item_of}
use Rattle.dex_line.proofs.Spoken.{said}
use Rattle.dex_line.proofs.Told.{one_frame}
use Rattle.delivery_book.proofs.Listed.{map_in}
use Rattle.delivery_book.proofs.Members.{In, from_contains, to_contains}
use Rattle.dsd_end.specs.Speaking.{AreFrames}

spelled_join : (frames : List FrameShape) → concat (map spelling frames) ≡ flat_map spelling frames
spelled_join [] = refl
spelled_join (frame ∷ more) = ap (λ (t : List ℕ). spelling frame ++ t) (spelled_join more)

spoken_items : (frames : List FrameShape) → AreSpoken frames → AreItems (map spelling frames)
spoken_items [] s = tt
spoken_items (frame ∷ more) s = ((frame, s.0, inl refl), spoken_items more s.1)

spoken_at : (frames : List FrameShape) (frame : FrameShape) → AreSpoken frames → In frame frames → IsSpoken frame
spoken_at [] frame s none = absurd none
spoken_at (first ∷ more) frame s (inl same) = subst IsSpoken same s.0
spoken_at (first ∷ more) frame s (inr among) = spoken_at more frame s.1 among

in_middle : (before after : List (List ℕ)) (item : List ℕ) → Contains (before ++ item ∷ after) item
in_middle before after item = Contains-append_right before (item ∷ after) item (Contains-append_left (item ∷ []) after item (Contains-push [] item))

-- a data block that occurs in frames, the last one perhaps cut short, is one of them
pub occurs_frame : (P : FrameShape → Type 0) (out : List ℕ) (last : Bool) (text : List ℕ) → AreFrames P out → Occurs last text out → P (Block last text)
occurs_frame P out last text f occurs =
    let there : Occurs last text (concat (map spelling f.frames) ++ f.cut) = subst (Occurs last text) (f.bytes ∙ ap (λ (t : List ℕ). t ++ f.cut) (sym (spelled_join f.frames))) occurs in
    let found = item_of last text (map spelling f.frames) f.cut (spoken_items f.frames f.spoken) (f.last, f.short.0, f.short.1, f.short.2, f.short.3) there in
    let piece : List ℕ = spelling (Block last text) in
    let inside : Contains (map spelling f.frames) piece = subst (λ (l : List (List ℕ)). Contains l piece) (sym found.2) (in_middle found.0 found.1 piece) in
    let image = map_in spelling f.frames piece (from_contains (map spelling f.frames) piece inside) in
    let first : Spelled image.from piece = subst (Spelled image.from) image.same (said image.from (spoken_at f.frames image.from f.spoken image.among)) in
    let same : image.from ≡ Block last text = one_frame image.from (Block last text) piece first (said (Block last text) occurs.2.0) in
    subst P same (All-contains P f.frames image.from f.each (to_contains f.frames image.from image.among))

-- the same frames, of which more is known
pub frames_weaker : (P Q : FrameShape → Type 0) (out : List ℕ) → ((frame : FrameShape) → P frame → Q frame) → AreFrames P out → AreFrames Q out
frames_weaker P Q out h f = record {
  frames = f.frames;
  last = f.last;
  cut = f.cut;
  spoken = f.spoken;
  short = f.short;
  bytes = f.bytes;
  each = All-weaker P Q h f.frames f.each;
  and_last = h f.last f.and_last;
}
