-- Loads: the frame that goes out, and the place behind a block.
use Rattle.std.specs.Prelude.{◌≡◌, ℕ, ◌+◌, ◌==◌, Bool, List, [], ◌∷◌, ◌++◌, length, take, drop, map, Some, None}
use Rattle.std.proofs.Common.{refl, sym, ◌∙◌, ap, subst, arith, drop-drop, length-append, length-drop, true, false, ◌≤◌, suc, if◌then◌else◌}
use Rattle.std.proofs.Math.Seq.{drop-append_seam, take-append_seam}
use Rattle.std.proofs.lemmas.Grind.{common_steps}
use Rattle.std.proofs.lemmas.Bool.Decides.{nat_tests}
use Rattle.dex_line.specs.BlockCut.{blocks_of, IsFirstBlock, Marks}
use Rattle.dex_line.specs.FrameShapes.{FrameShape, Block}
use Rattle.dex_line.specs.TextUnits.{UnitsFit}
use Rattle.dxs_envelope.specs.Sending.{IsOutgoing}
use Rattle.dxs_envelope.specs.declared.outgoing.TheConstants.{TRANSMISSION_BYTES}
use Rattle.dex_handshake.specs.LineTable.{Common, says, says_eot, next_frame, unplugs, Line, Ready, Bidding, Awaiting, SentAll, InText, Finished, Ended}
use Rattle.dex_handshake.specs.LineRun.{load_of, frame_of_block, end_of}
use Rattle.dex_handshake.specs.declared.session_end.SessionEnd.{SessionEnd}
use Rattle.dex_handshake.specs.declared.session_end.SessionEnd.TheVariants.{Unplugged}
use Rattle.dex_handshake.specs.StateSeen.{present_frame, first_or_bad, from_place, sending_seen}

pub next_some : (own : Common) (done : ℕ) (left : List FrameShape) (frame : FrameShape) → Some frame ≡ present_frame left
    → says frame (Awaiting own (sending_seen left done 1 false)) ≡ next_frame own done left
next_some own done [] frame e = absurd (let no_such : ⊥ = let z : Some frame ≡ None = e in cc in no_such)
next_some own done (first ∷ more) frame e =
    let same : frame ≡ first = let z : Some frame ≡ Some first = e in cc in
    ap (λ (f : FrameShape). says f (Awaiting own (sending_seen (first ∷ more) done 1 false))) same

pub next_none : (own : Common) (done : ℕ) (left : List FrameShape) → None ≡ present_frame left
    → says_eot own.stage own (done + 1 == 1) ≡ next_frame own done left
next_none own done [] e = ap (λ (b : Bool). says_eot own.stage own b) (let same : (done + 1 == 1) ≡ (done == 0) = grind (arith, nat_tests) in same)
next_none own done (first ∷ more) e = absurd (let no_such : ⊥ = let z : None ≡ Some first = e in cc in no_such)

pub first_is : (left : List FrameShape) (frame : FrameShape) → Some frame ≡ present_frame left → frame ≡ first_or_bad left
first_is [] frame e = absurd (let no_such : ⊥ = let z : Some frame ≡ None = e in cc in no_such)
first_is (first ∷ more) frame e = let z : Some frame ≡ Some first = e in cc

-- ---- a block of a text

behind_block : (text : List ℕ) (from : ℕ) (block after : List ℕ) → IsFirstBlock (drop from text) block after → drop (from + length block) text ≡ after
behind_block text from block after b =
    sym (drop-drop (length block) from text) ∙ ap (λ (l : List ℕ). drop (length block) l) b.joined ∙ drop-append_seam block after

-- the block ends inside the text
block_inside : (text : List ℕ) (from : ℕ) (old block after : List ℕ) → old ≡ drop from text → from ≤ length text → IsFirstBlock old block after
    → from + length block ≤ length text
block_inside text from old block after is inside b =
    let size : length (drop from text) ≡ length block + length after = ap length (sym is ∙ b.joined) ∙ length-append block after in
    omega (arith, length-drop from text)

-- it is the last one where the text ends behind it
is_last : (text : List ℕ) (end : ℕ) (after : List ℕ) (last : Bool) → end ≤ length text → drop end text ≡ after → Marks last after
    → last ≡ (end == length text)
is_last text end after last inside is (none, marked) = by_rest after is none marked
  where
    by_rest : (rest : List ℕ) → drop end text ≡ rest → (last ≡ true → rest ≡ []) → (rest ≡ [] → last ≡ true) → last ≡ (end == length text)
    by_rest [] e f g =
        let size : length (drop end text) ≡ 0 = ap length e in
        g refl ∙ sym (let same : (end == length text) ≡ true = grind (arith, nat_tests, length-drop end text) in same)
    by_rest (x ∷ more) e f g =
        let size : length (drop end text) ≡ suc (length more) = ap length e in
        not_last last f ∙ sym (let other : (end == length text) ≡ false = grind (arith, nat_tests, length-drop end text) in other)
      where
        not_last : (mark : Bool) → (mark ≡ true → x ∷ more ≡ []) → mark ≡ false
        not_last true f = let no_such : x ∷ more ≡ [] = f refl in cc
        not_last false f = refl

-- so it is the present one of what is left
pub present_block : (text : List ℕ) (from : ℕ) (old block after : List ℕ) (last : Bool) → old ≡ drop from text → from ≤ length text
    → IsFirstBlock old block after → Marks last after → blocks_of old ≡ (block, last) ∷ blocks_of after
    → load_of (drop from text) ≡ from_place text from (length block)
present_block text from old block after last is inside b marks e =
    let here : IsFirstBlock (drop from text) block after = subst (λ (l : List ℕ). IsFirstBlock l block after) is b in
    let end : from + length block ≤ length text = block_inside text from old block after is inside b in
    let rest : drop (from + length block) text ≡ after = behind_block text from block after here in
    let mark : last ≡ (from + length block == length text) = is_last text (from + length block) after last end rest marks in
    let front : take (length block) (drop from text) ≡ block = ap (take (length block)) here.joined ∙ take-append_seam block after in
    let some : (length block == 0) ≡ false = let more = b.some in grind (arith, nat_tests) in
    ap load_of (sym is)
    ∙ ap (map frame_of_block) e
    ∙ ap (λ (m : Bool). Block m block ∷ load_of after) mark
    ∙ ap (λ (l : List ℕ). Block (from + length block == length text) l ∷ load_of after) (sym front)
    ∙ ap (λ (l : List ℕ). Block (from + length block == length text) (take (length block) (drop from text)) ∷ load_of l) (sym rest)
    ∙ ap (λ (b : Bool). if b then [] else Block (from + length block == length text) (take (length block) (drop from text)) ∷ load_of (drop (from + length block) text)) (sym some)

-- whole units are left behind it
pub fit_behind : (text : List ℕ) (from : ℕ) (old block after : List ℕ) → old ≡ drop from text → IsFirstBlock old block after → UnitsFit after
    → UnitsFit (drop (from + length block) text)
fit_behind text from old block after is b fit =
    subst UnitsFit (sym (behind_block text from block after (subst (λ (l : List ℕ). IsFirstBlock l block after) is b))) fit

-- a transmission that goes out is not too long
pub outgoing_short : (text : List ℕ) → IsOutgoing text → length text ≤ TRANSMISSION_BYTES
outgoing_short text o = o.sent.short

-- ---- the room of a text

pub put_behind : (room block : List ℕ) (size : ℕ) → size + length block ≤ length room
    → take (size + length block) (take size room ++ block ++ drop (size + length block) room) ≡ take size room ++ block
put_behind room block size fits =
    let front : length (take size room) ≡ size = grind (arith, common_steps) in
    let same : length (take size room ++ block) ≡ size + length block = length-append (take size room) block ∙ ap (λ (k : ℕ). k + length block) front in
    ap (λ (k : ℕ). take k (take size room ++ block ++ drop (size + length block) room)) (sym same)
    ∙ take-append_seam (take size room ++ block) (drop (size + length block) room)

-- ---- ends

pub over_stays : (line : Line) (end : SessionEnd) → Some end ≡ end_of line → line ≡ unplugs line
over_stays (Ready own) end e = absurd (let no_such : ⊥ = let z : Some end ≡ None = e in cc in no_such)
over_stays (Bidding own load) end e = absurd (let no_such : ⊥ = let z : Some end ≡ None = e in cc in no_such)
over_stays (Awaiting own sending) end e = absurd (let no_such : ⊥ = let z : Some end ≡ None = e in cc in no_such)
over_stays (SentAll own) end e = absurd (let no_such : ⊥ = let z : Some end ≡ None = e in cc in no_such)
over_stays (InText own taking) end e = absurd (let no_such : ⊥ = let z : Some end ≡ None = e in cc in no_such)
over_stays (Finished own text) end e = absurd (let no_such : ⊥ = let z : Some end ≡ None = e in cc in no_such)
over_stays (Ended over) end e = refl

pub unplugged_ends : (line : Line) → None ≡ end_of line → Ended Unplugged ≡ unplugs line
unplugged_ends (Ready own) e = refl
unplugged_ends (Bidding own load) e = refl
unplugged_ends (Awaiting own sending) e = refl
unplugged_ends (SentAll own) e = refl
unplugged_ends (InText own taking) e = refl
unplugged_ends (Finished own text) e = refl
unplugged_ends (Ended over) e = absurd (let no_such : ⊥ = let z : None ≡ Some over = e in cc in no_such)
