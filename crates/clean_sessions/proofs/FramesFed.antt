-- A frame that is fed in pieces is heard once.
use Rattle.std.proofs.Common.{◌≡◌, ◌≢◌, ◌≤◌, ◌+◌, ◌*◌, ℕ, zero, suc, Bool, false, List, [], ◌∷◌, ◌++◌, length, drop, Some, refl, sym, ◌∙◌, ap, subst, append_assoc, append-nil, length-append, length-drop, arith}
use Rattle.std.proofs.lemmas.List.{take-append-drop}
use Rattle.std.proofs.lemmas.List.Sums.{fold-append}
use Rattle.dex_line.specs.FrameShapes.{FrameShape, Enq, Block}
use Rattle.dex_line.specs.FrameSpelling.{IsBegun, IsSpoken, Spelled, spelling}
use Rattle.dex_line.specs.Hearing.{Hearing, hear, hear_all, hearing, nothing_heard}
use Rattle.dex_line.specs.declared.cutter.TheConstants.{BLOCK_WRITTEN}
use Rattle.dex_line.proofs.Heard.{begun_heard}
use Rattle.dex_line.proofs.Spoken.{said, spoken_heard}
use Rattle.dex_handshake.specs.LineTable.{Line, Ready, Bidding, Awaiting, SentAll, InText, Finished, Ended, hears}
use Rattle.dsd_record.specs.Choices.{Chooser}
use Rattle.dsd_station.specs.declared.call.Reception.TheVariants.{Piece}
use Rattle.dsd_end.specs.PollStep.{ActsAt, Along, Done, HearsFrame, HearsFrames, HearsPiece, HearsUnless, Next, PollsAt, behind_piece, gave, joined, nothing, scanned, stepped}
use Rattle.dsd_end.specs.Standings.{Standing, has_ended, with_begun, with_line}
use Rattle.dsd_end.proofs.LinedPolls.{begun_kept}
use Rattle.dsd_end.proofs.Polling.{joined_nothing}
use Rattle.clean_sessions.specs.Feeding.{AreFed, HearsOnce, IsFed, IsListening, counted, heard_each}

-- ---- bytes of a frame

begun_front : (frame : FrameShape) (front : List ℕ) (b : ℕ) (more : List ℕ) → IsSpoken frame → spelling frame ≡ front ++ b ∷ more → IsBegun front
begun_front frame front b more spoken e = (frame, b, more, subst (Spelled frame) e (said frame spoken))

-- up to the last piece nothing is heard
none_heard : (frame : FrameShape) (front piece : List ℕ) (b : ℕ) (more : List ℕ) → IsSpoken frame → spelling frame ≡ (front ++ piece) ++ b ∷ more
    → hear_all (hearing front []) piece ≡ hearing (front ++ piece) []
none_heard frame front piece b more spoken e = begun_heard front piece [] (begun_front frame (front ++ piece) b more spoken e)

frame_alone : (frame : FrameShape) → IsSpoken frame → hear_all nothing_heard (spelling frame) ≡ hearing [] (frame ∷ [])
frame_alone frame spoken =
    ap (hear_all nothing_heard) (sym (append-nil (spelling frame ++ []) ∙ append-nil (spelling frame)))
    ∙ spoken_heard (frame ∷ []) [] (spoken, tt) (Enq, 5, [], tt, refl)

-- the last piece completes it
pub all_heard : (frame : FrameShape) (front : List ℕ) (b : ℕ) (more : List ℕ) → IsSpoken frame → spelling frame ≡ front ++ b ∷ more
    → hear_all (hearing front []) (b ∷ more) ≡ hearing [] (frame ∷ [])
all_heard frame front b more spoken e =
    ap (λ (h : Hearing). hear_all h (b ∷ more)) (sym (begun_heard [] front [] (begun_front frame front b more spoken e)))
    ∙ sym (fold-append hear nothing_heard front (b ∷ more))
    ∙ ap (hear_all nothing_heard) (sym e)
    ∙ frame_alone frame spoken

-- ---- bytes that were counted before the frame

abbrev later : ℕ → Standing → Standing
later size standing = record standing { heard = standing.heard + size }

abbrev done_later : ℕ → Done → Done
done_later size done = record done { standing = later size done.standing }

record Sooner (P : Done → Type 0) (size : ℕ) (turn : Done) : Type 0 where
  first : Done
  does : P first
  same : turn ≡ done_later size first

acts_sooner : (chooser : Chooser) (size : ℕ) (standing : Standing) (line : Line) (turn : Done) → ActsAt chooser (later size standing) line turn → Sooner (ActsAt chooser standing line) size turn
acts_sooner chooser size standing (Finished own text) turn (desk, load, turned, e) = record { first = gave standing (Finished own text) desk load; does = (desk, load, turned, refl); same = e }
acts_sooner chooser size standing (Ready own) turn e = record { first = nothing standing; does = refl; same = e }
acts_sooner chooser size standing (Bidding own load) turn e = record { first = nothing standing; does = refl; same = e }
acts_sooner chooser size standing (Awaiting own sending) turn e = record { first = nothing standing; does = refl; same = e }
acts_sooner chooser size standing (SentAll own) turn e = record { first = nothing standing; does = refl; same = e }
acts_sooner chooser size standing (InText own taking) turn e = record { first = nothing standing; does = refl; same = e }
acts_sooner chooser size standing (Ended end) turn e = record { first = nothing standing; does = refl; same = e }

hears_sooner : (chooser : Chooser) (size : ℕ) (standing : Standing) (frame : FrameShape) (turn : Done) → HearsFrame chooser (later size standing) frame turn → Sooner (HearsFrame chooser standing frame) size turn
hears_sooner chooser size standing frame turn (act, acts, e) =
    let s = acts_sooner chooser size (with_line standing (hears standing.line frame).next) (hears standing.line frame).next act acts in
    record {
      first = joined (stepped standing (hears standing.line frame)) s.first;
      does = (s.first, s.does, refl);
      same = e ∙ ap (joined (stepped (later size standing) (hears standing.line frame))) s.same;
    }

-- ---- one piece after another

-- a poll that hears a piece
piece_polled : (chooser : Chooser) (standing : Standing) (piece : List ℕ) (done : Done) → standing.first ≡ false → has_ended standing.line ≡ false
    → Next chooser standing (Some (Piece piece)) done → HearsPiece chooser standing piece done
piece_polled chooser standing piece done later runs next =
    subst (λ (b : Bool). HearsUnless b chooser standing (Piece piece) done) runs
    (subst (λ (b : Bool). PollsAt b chooser standing (Some (Piece piece)) done) later next.polls)

-- behind so many bytes, of which these are the front of a frame
record HearsRest (chooser : Chooser) (standing : Standing) (frame : FrameShape) (size : ℕ) (done : Done) : Type 0 where
  turn : Done
  hears : HearsFrame chooser (with_begun standing []) frame turn
  whole : done ≡ counted size turn

one_frame : (chooser : Chooser) (standing : Standing) (frame : FrameShape) (frames : Done) → HearsFrames chooser standing (frame ∷ []) frames → HearsFrame chooser standing frame frames
one_frame chooser standing frame frames (one, rest, first, none, e) =
    subst (HearsFrame chooser standing frame) (sym (e ∙ ap (joined one) none ∙ joined_nothing one)) first

last_piece : (chooser : Chooser) (standing : Standing) (frame : FrameShape) (piece : List ℕ) (done : Done) → scanned standing piece ≡ hearing [] (frame ∷ [])
    → HearsPiece chooser standing piece done → HearsRest chooser standing frame (length piece) done
last_piece chooser standing frame piece done heard (frames, hears_all, e) = record {
  turn = frames;
  hears = one_frame chooser (with_begun standing []) frame frames (subst (λ (h : Hearing). HearsFrames chooser (with_begun standing []) h.shapes frames) heard hears_all);
  whole = e ∙ ap (λ (h : Hearing). let d : Done = record frames { standing = behind_piece frames.standing (length piece) h.begun } in d) heard;
}

abbrev in_middle : Standing → List ℕ → ℕ → Standing
in_middle standing begun size = record standing { begun = begun; heard = standing.heard + size }

middle_piece : (chooser : Chooser) (standing : Standing) (piece begun : List ℕ) (done : Done) → has_ended standing.line ≡ false → scanned standing piece ≡ hearing begun []
    → HearsPiece chooser standing piece done → done ≡ nothing (in_middle standing begun (length piece))
middle_piece chooser standing piece begun done runs heard (frames, hears_all, e) =
    let none : frames ≡ nothing (with_begun standing []) = subst (λ (h : Hearing). HearsFrames chooser (with_begun standing []) h.shapes frames) heard hears_all in
    e
    ∙ ap (λ (h : Hearing). let d : Done = record frames { standing = behind_piece frames.standing (length piece) h.begun } in d) heard
    ∙ ap (λ (f : Done). let d : Done = record f { standing = behind_piece f.standing (length piece) begun } in d) none
    ∙ ap (λ (l : List ℕ). nothing (in_middle standing l (length piece))) (sym (begun_kept standing.line begun runs))

joined_first : (standing : Standing) (done : Done) → joined (nothing standing) done ≡ done
joined_first standing done = refl

-- what a middle piece leaves to those behind it
rest_on : (chooser : Chooser) (standing : Standing) (frame : FrameShape) (begun : List ℕ) (size more all : ℕ) (done : Done) → all ≡ size + more
    → HearsRest chooser (in_middle standing begun size) frame more done → HearsRest chooser standing frame all done
rest_on chooser standing frame begun size more all done sum rest =
    let s = hears_sooner chooser size (with_begun standing []) frame rest.turn rest.hears in
    let count : s.first.standing.heard + size + more ≡ s.first.standing.heard + all = sums s.first.standing.heard size more all sum in
    record {
      turn = s.first;
      hears = s.does;
      whole =
          rest.whole ∙ ap (counted more) s.same
          ∙ ap (λ (n : ℕ). let d : Done = record s.first { standing = record (behind_piece s.first.standing all []) { heard = n } } in d) count;
    }
  where
    sums : (before size more all : ℕ) → all ≡ size + more → before + size + more ≡ before + all
    sums before size more all e = omega (arith, e)

none_left : (pieces : List (List ℕ)) → AreFed [] pieces → pieces ≡ []
none_left [] fed = refl
none_left (piece ∷ pieces) fed = absurd (fed.0 refl)

-- a first piece, and what is left behind it
abbrev Rests : Chooser → FrameShape → List (List ℕ) → Type 0
Rests chooser frame pieces =
    (front rest : List ℕ) (standing : Standing) (done : Done) → spelling frame ≡ front ++ rest → rest ≢ [] → AreFed rest pieces → standing.begun ≡ front → standing.first ≡ false
    → has_ended standing.line ≡ false → Along chooser standing (heard_each pieces) done → HearsRest chooser standing frame (length rest) done

module _ (chooser : Chooser) (frame : FrameShape) (spoken : IsSpoken frame) where
  -- the last one
  ends_here : (front piece : List ℕ) (standing : Standing) (done : Done) → spelling frame ≡ front ++ piece → piece ≢ [] → standing.begun ≡ front → standing.first ≡ false → has_ended standing.line ≡ false
      → Along chooser standing (heard_each (piece ∷ [])) done → HearsRest chooser standing frame (length piece) done
  ends_here front [] standing done whole some begun later runs along = absurd (some refl)
  ends_here front (b ∷ more) standing done whole some begun later runs (one, rest, next, none, e) =
      let heard : scanned standing (b ∷ more) ≡ hearing [] (frame ∷ []) =
      ap (λ (l : List ℕ). hear_all (hearing l []) (b ∷ more)) begun ∙ all_heard frame front b more spoken whole in
      subst (HearsRest chooser standing frame (length (b ∷ more))) (sym (e ∙ ap (joined one) none ∙ joined_nothing one))
      (last_piece chooser standing frame (b ∷ more) one heard (piece_polled chooser standing (b ∷ more) one later runs next))

  goes_on : (front rest piece : List ℕ) (b : ℕ) (more : List ℕ) (pieces : List (List ℕ)) (standing : Standing) (done : Done) → Rests chooser frame pieces → spelling frame ≡ front ++ rest
      → rest ≡ piece ++ b ∷ more → AreFed (b ∷ more) pieces → standing.begun ≡ front → standing.first ≡ false → has_ended standing.line ≡ false
      → Along chooser standing (heard_each (piece ∷ pieces)) done → HearsRest chooser standing frame (length rest) done
  goes_on front rest piece b more pieces standing done rests whole parted fed begun later runs (one, behind, next, along, e) =
      let there : spelling frame ≡ (front ++ piece) ++ b ∷ more = whole ∙ ap (λ (l : List ℕ). front ++ l) parted ∙ sym (append_assoc front piece (b ∷ more)) in
      let heard : scanned standing piece ≡ hearing (front ++ piece) [] =
      ap (λ (l : List ℕ). hear_all (hearing l []) piece) begun ∙ none_heard frame front piece b more spoken there in
      let mid : Standing = in_middle standing (front ++ piece) (length piece) in
      let silent : one ≡ nothing mid = middle_piece chooser standing piece (front ++ piece) one runs heard (piece_polled chooser standing piece one later runs next) in
      let on : Along chooser mid (heard_each pieces) behind = subst (λ (d : Done). Along chooser d.standing (heard_each pieces) behind) silent along in
      let rest_heard : HearsRest chooser mid frame (length (b ∷ more)) behind =
      rests (front ++ piece) (b ∷ more) mid behind there (λ none. absurd (cc)) fed refl later runs on in
      let size : length rest ≡ length piece + length (b ∷ more) = ap length parted ∙ length-append piece (b ∷ more) in
      subst (HearsRest chooser standing frame (length rest)) (sym (e ∙ ap (λ (d : Done). joined d behind) silent ∙ joined_first mid behind))
      (rest_on chooser standing frame (front ++ piece) (length piece) (length (b ∷ more)) (length rest) behind size rest_heard)

  by_rest : (front rest piece : List ℕ) (after : List ℕ) (pieces : List (List ℕ)) (standing : Standing) (done : Done) → Rests chooser frame pieces → spelling frame ≡ front ++ rest → rest ≢ []
      → rest ≡ piece ++ after → AreFed after pieces → standing.begun ≡ front → standing.first ≡ false → has_ended standing.line ≡ false
      → Along chooser standing (heard_each (piece ∷ pieces)) done → HearsRest chooser standing frame (length rest) done
  by_rest front rest piece [] pieces standing done rests whole some parted fed begun later runs along =
      let same : rest ≡ piece = parted ∙ append-nil piece in
      let alone : Along chooser standing (heard_each (piece ∷ [])) done = subst (λ (l : List (List ℕ)). Along chooser standing (heard_each (piece ∷ l)) done) (none_left pieces fed) along in
      subst (λ (l : List ℕ). HearsRest chooser standing frame (length l) done) (sym same)
      (ends_here front piece standing done (whole ∙ ap (λ (l : List ℕ). front ++ l) same) (λ none. some (same ∙ none)) begun later runs alone)
  by_rest front rest piece (b ∷ more) pieces standing done rests whole some parted fed begun later runs along =
      goes_on front rest piece b more pieces standing done rests whole parted fed begun later runs along

  fed_on : (pieces : List (List ℕ)) → Rests chooser frame pieces
  fed_on [] front rest standing done whole some fed begun later runs along = absurd (some fed)
  fed_on (piece ∷ pieces) front rest standing done whole some fed begun later runs along =
      let parted : rest ≡ piece ++ drop 64 rest = sym (take-append-drop 64 rest) ∙ ap (λ (l : List ℕ). l ++ drop 64 rest) (sym fed.1) in
      by_rest front rest piece (drop 64 rest) pieces standing done (λ f r s d. fed_on pieces f r s d) whole some parted fed.2 begun later runs along

  some_spelled : spelling frame ≢ []
  some_spelled = spelled_some frame spoken
    where
      spelled_some : (shape : FrameShape) → IsSpoken shape → spelling shape ≢ []
      spelled_some shape spoken none =
          let a : hearing [] (shape ∷ []) ≡ hearing [] [] = sym (frame_alone shape spoken) ∙ ap (hear_all nothing_heard) none in
          let b : shape ∷ [] ≡ [] = ap (λ (h : Hearing). h.shapes) a in
          absurd (cc)

  pub heard_once : (standing : Standing) (pieces : List (List ℕ)) (done : Done) → IsListening standing → IsFed chooser standing frame pieces done → HearsOnce chooser standing frame done
  heard_once standing pieces done listens fed =
      let r = fed_on pieces [] (spelling frame) standing done refl some_spelled fed.cut listens.calm.none listens.calm.later listens.runs fed.polls in
      record {
        turn = r.turn;
        hears = subst (λ (l : List ℕ). HearsFrame chooser (with_begun standing l) frame r.turn) (sym listens.calm.none) r.hears;
        whole = r.whole;
      }

-- ---- in how many polls

pub few_pieces : (n : ℕ) (bytes : List ℕ) (pieces : List (List ℕ)) → AreFed bytes pieces → length bytes ≤ 64 * n → length pieces ≤ n
few_pieces n bytes [] fed le = omega arith
few_pieces zero [] (piece ∷ pieces) fed le = absurd (fed.0 refl)
few_pieces zero (b ∷ more) (piece ∷ pieces) fed le = absurd (omega (arith, le))
few_pieces (suc n) bytes (piece ∷ pieces) fed le =
    let size = length-drop 64 bytes in
    let rest : length (drop 64 bytes) ≤ 64 * n = omega (arith, size, le) in
    let few = few_pieces n (drop 64 bytes) pieces fed.2 rest in
    omega (arith, few)

-- a block of the load has at most 251 bytes on the line
pub block_pieces : (last : Bool) (text : List ℕ) (pieces : List (List ℕ)) → length text ≤ BLOCK_WRITTEN → AreFed (spelling (Block last text)) pieces → length pieces ≤ 4
block_pieces last text pieces fits fed = few_pieces 4 (spelling (Block last text)) pieces fed (block_size text _ _ _ fits)
  where
    block_size : (text : List ℕ) (closing low high : ℕ) → length text ≤ BLOCK_WRITTEN → length (0x10 ∷ 0x02 ∷ (text ++ 0x10 ∷ closing ∷ low ∷ high ∷ [])) ≤ 64 * 4
    block_size text closing low high fits = let size = length-append text (0x10 ∷ closing ∷ low ∷ high ∷ []) in omega (arith, size, fits)
