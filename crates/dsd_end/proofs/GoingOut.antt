-- What goes out: whole frames, and a front of one more.
use Rattle.std.proofs.Common.{◌≡◌, ℕ, List, [], ◌∷◌, ◌++◌, refl, sym, ◌∙◌, ap, subst, append_assoc, append-nil}
use Rattle.std.specs.Prelude.{All}
use Rattle.std.specs.List.{flat_map}
use Rattle.std.proofs.lemmas.List.Elements.{All-cons, All-nil}
use Rattle.dex_line.specs.FrameShapes.{FrameShape, Enq}
use Rattle.dex_line.specs.FrameSpelling.{spelling}
use Rattle.dex_line.specs.Hearing.{AreSpoken}
use Rattle.dex_handshake.specs.Sound.{AreSaid}
use Rattle.dsd_journal.specs.declared.entry.Entry.{Entry}
use Rattle.dsd_end.specs.SoFar.{MayGoOut}
use Rattle.dsd_end.specs.Speaking.{IsBacked, Speaks}

all_spoken : (entries : List Entry) (frames : List FrameShape) → AreSaid (MayGoOut entries) frames → AreSpoken frames
all_spoken entries [] h = tt
all_spoken entries (frame ∷ frames) ((s, b), h) = (s, all_spoken entries frames h)

all_backed : (entries : List Entry) (frames : List FrameShape) → AreSaid (MayGoOut entries) frames → All (IsBacked (entries ∷ [])) frames
all_backed entries [] h = All-nil (IsBacked (entries ∷ []))
all_backed entries (frame ∷ frames) ((s, b), h) = All-cons (IsBacked (entries ∷ [])) frame frames b (all_backed entries frames h)

-- whole frames, of which none is cut short
pub whole_speaks : (entries : List Entry) (frames : List FrameShape) → AreSaid (MayGoOut entries) frames → Speaks (flat_map spelling frames) entries
whole_speaks entries frames h = record {
  frames = frames;
  last = Enq;
  cut = [];
  spoken = all_spoken entries frames h;
  short = (5, [], tt, refl);
  bytes = sym (append-nil (flat_map spelling frames));
  each = all_backed entries frames h;
  and_last = tt;
}

said_more : (entries : List Entry) (frames : List FrameShape) (frame : FrameShape) → AreSaid (MayGoOut entries) frames → MayGoOut entries frame → AreSaid (MayGoOut entries) (frames ++ frame ∷ [])
said_more entries [] frame h m = (m, tt)
said_more entries (first ∷ frames) frame h m = (h.0, said_more entries frames frame h.1 m)

spelled_more : (frames : List FrameShape) (frame : FrameShape) → flat_map spelling (frames ++ frame ∷ []) ≡ flat_map spelling frames ++ spelling frame
spelled_more [] frame = append-nil (spelling frame)
spelled_more (first ∷ frames) frame = ap (λ (t : List ℕ). spelling first ++ t) (spelled_more frames frame) ∙ sym (append_assoc (spelling first) (flat_map spelling frames) (spelling frame))

-- and any front of one frame more
pub front_speaks : (entries : List Entry) (frames : List FrameShape) (frame : FrameShape) (front back : List ℕ) → AreSaid (MayGoOut entries) frames → MayGoOut entries frame
    → spelling frame ≡ front ++ back → Speaks (flat_map spelling frames ++ front) entries
front_speaks entries frames frame front [] h m e =
    subst (λ (t : List ℕ). Speaks t entries) (spelled_more frames frame ∙ ap (λ (t : List ℕ). flat_map spelling frames ++ t) (e ∙ append-nil front))
    (whole_speaks entries (frames ++ frame ∷ []) (said_more entries frames frame h m))
front_speaks entries frames frame front (byte ∷ back) h m e = record {
  frames = frames;
  last = frame;
  cut = front;
  spoken = all_spoken entries frames h;
  short = (byte, back, m.0, e);
  bytes = refl;
  each = all_backed entries frames h;
  and_last = m.1;
}
