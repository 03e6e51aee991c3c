-- What is spelled is heard.
use Rattle.std.proofs.Common.{◌≡◌, ℕ, true, ◌&&◌, List, [], ◌∷◌, ◌++◌, Some, refl, sym, ◌∙◌, ap, subst, arith, append_assoc}
use Rattle.std.specs.List.{flat_map, list_all}
use Rattle.std.proofs.lemmas.Bool.Decides.{nat_tests}
use Rattle.std.proofs.lemmas.List.Folds.{list_all-append}
use Rattle.dex_line.specs.BlockCut.{IsFirstBlock}
use Rattle.dex_line.specs.declared.frame.Opened.TheVariants as opens
use Rattle.dex_line.specs.FrameShapes.{FrameShape, Enq, Ack0, Ack1, Nak, Eot, Header, Block, Damaged, Bad}
use Rattle.dex_line.specs.Bytes.{is_text}
use Rattle.dex_line.specs.FrameSpelling.{IsTextOf, IsBegun, Spelled, IsSpoken, spelling}
use Rattle.dex_line.specs.Hearing.{IsAnswered, HeardAs, Hearing, hear_all, hearing, nothing_heard, AreSpoken}
use Rattle.dex_line.specs.Occurrence.{IsCutShort}
use Rattle.dex_line.proofs.Told.{judged_whole}
use Rattle.dex_line.proofs.Answered.{answers_judged}
use Rattle.dex_line.proofs.Heard.{heard_is}

-- a frame that can be said is spelled by its spelling
pub said : (shape : FrameShape) → IsSpoken shape → Spelled shape (spelling shape)
said Enq s = (s, refl)
said Ack0 s = (s, refl)
said Ack1 s = (s, refl)
said Nak s = (s, refl)
said Eot s = (s, refl)
said (Header text) s = (s, refl)
said (Block last text) s = (s, refl)
said Damaged s = absurd s
said Bad s = absurd s

-- bytes and the last of them
last_byte : (b : ℕ) (more : List ℕ) → (front : List ℕ) × (last : ℕ) × (b ∷ more ≡ front ++ last ∷ [])
last_byte b [] = ([], b, refl)
last_byte b (c ∷ more) = let (front, last, e) = last_byte c more in (b ∷ front, last, ap (λ l. b ∷ l) e)

-- bytes that spell a frame are answered by it, and no sooner
answered_as : (shape : FrameShape) (bytes : List ℕ) → Spelled shape bytes → IsAnswered shape bytes
answered_as shape [] s = let e = judged_whole shape [] s in absurd (cc)
answered_as shape (b ∷ more) s =
    let (front, last, e) = last_byte b more in
    record { front = front; last = last; whole = e; begun = (shape, last, [], subst (λ x. Spelled shape x) e s); answer = answers_judged (b ∷ more) (Some shape) (sym (judged_whole shape (b ∷ more) s)) }

-- a frame that is cut short has begun
cut_begun : (cut : List ℕ) → IsCutShort cut → IsBegun cut
cut_begun cut (shape, b, more, s, e) = (shape, b, more, subst (λ x. Spelled shape x) e (said shape s))

-- frames that are said, the last one perhaps cut short, are heard so by the definition
heard_as : (shapes : List FrameShape) (cut : List ℕ) → AreSpoken shapes → IsCutShort cut
    → HeardAs (flat_map spelling shapes ++ cut) shapes cut
heard_as [] cut a s = (refl, cut_begun cut s)
heard_as (shape ∷ shapes) cut a s =
    (spelling shape, flat_map spelling shapes ++ cut, answered_as shape (spelling shape) (said shape a.0), append_assoc (spelling shape) (flat_map spelling shapes) cut, heard_as shapes cut a.1 s)

-- frames, the last perhaps cut short, are heard as themselves
pub spoken_heard : (shapes : List FrameShape) (cut : List ℕ) → AreSpoken shapes → IsCutShort cut
    → hear_all nothing_heard (flat_map spelling shapes ++ cut) ≡ hearing cut shapes
spoken_heard shapes cut a s = heard_is (flat_map spelling shapes ++ cut) shapes cut (heard_as shapes cut a s)

-- so no bytes are two lists of frames
pub one_parse : (a b : List FrameShape) (v w : List ℕ) → AreSpoken a → AreSpoken b → IsCutShort v → IsCutShort w
    → flat_map spelling a ++ v ≡ flat_map spelling b ++ w → (a ≡ b) × (v ≡ w)
one_parse a b v w x y s t e =
    let f : hearing v a ≡ hearing w b = sym (spoken_heard a v x s) ∙ ap (hear_all nothing_heard) e ∙ spoken_heard b w y t in
    (ap (λ (h : Hearing). h.shapes) f, ap (λ (h : Hearing). h.begun) f)

-- a block of a text of text bytes can be said
pub both_all : (a b : List ℕ) → list_all is_text (a ++ b) ≡ true
    → (list_all is_text a ≡ true) × (list_all is_text b ≡ true)
both_all a b h = let e = list_all-append is_text a b in let f : (list_all is_text a && list_all is_text b) ≡ true = sym e ∙ h in (grind (arith, nat_tests), grind (arith, nat_tests))

-- a block of a text of text bytes can be said, and what is left is such a text
pub block_said : (text block after : List ℕ) → list_all is_text text ≡ true → IsFirstBlock text block after
    → IsTextOf opens.Block block × (list_all is_text after ≡ true)
block_said text block after h f =
    let b = both_all block after (sym (ap (list_all is_text) f.joined) ∙ h) in
    let some = f.some in
    let fits = f.fits in
    (record { some = some; fits = omega arith; bytes = b.0 }, b.1)
