-- The bytes of a piece are heard front by front.
use Rattle.std.proofs.Common.{◌≡◌, inl, inr, ℕ, ◌<◌, Bool, true, false, List, [], ◌∷◌, ◌++◌, length, take, drop, Some, refl, sym, ◌∙◌, ap, subst, arith, append-nil}
use Rattle.std.proofs.lemmas.List.{take-append-drop}
use Rattle.std.proofs.lemmas.List.Sums.{fold-append}
use Rattle.std.specs.List.{concat}
use Rattle.dex_line.specs.FrameShapes.{FrameShape}
use Rattle.dex_line.specs.Hearing.{Hearing, hear, hear_all, hearing}
use Rattle.dex_line.specs.Judging.{judge}
use Rattle.dex_line.proofs.Heard.{heard_behind}
use Rattle.dex_line.proofs.Scanned.{ArePieces, Parted, parted}
use Rattle.dex_handshake.specs.LineTable.{Line, Ready, Bidding, Awaiting, SentAll, InText, Finished, Ended}
use Rattle.dex_handshake.specs.declared.session_end.SessionEnd.{SessionEnd}
use Rattle.dsd_record.specs.Choices.{Chooser}
use Rattle.dsd_end.specs.FullTurns.{BytesFull, FrameFull, FramesFull}
use Rattle.dsd_end.specs.PiecesHeard.{EndsFrame, GoesOn, HearsBytes, HearsFront, with_begun_at}
use Rattle.dsd_end.specs.PollStep.{Done, HearsFrames, begun_at, joined, nothing, scanned}
use Rattle.dsd_end.specs.Standings.{Standing, has_ended, with_begun, with_line}
use Rattle.dsd_end.proofs.LinedPolls.{begun_kept, has_come}
use Rattle.dsd_end.proofs.RunsComing.{frame_keeps}

pub begun_again : (standing : Standing) (begun : List ℕ) → standing.begun ≡ begun → with_begun standing begun ≡ standing
begun_again standing begun is = ap (λ (l : List ℕ). with_begun standing l) (sym is)

-- no bytes
pub bytes_none : (chooser : Chooser) (standing : Standing) → has_ended standing.line ≡ false → HearsBytes chooser standing [] (nothing standing)
bytes_none chooser standing on =
    (nothing (with_begun standing []), refl, ap (λ (l : List ℕ). nothing (with_begun standing l)) (begun_kept standing.line standing.begun on))

-- once the session has ended frames do nothing
frames_at_end : (chooser : Chooser) (standing : Standing) (end : SessionEnd) (frames : List FrameShape)
    → HearsFrames chooser (with_line standing (Ended end)) frames (nothing (with_line standing (Ended end)))
frames_at_end chooser standing end [] = refl
frames_at_end chooser standing end (frame ∷ frames) =
    let still = nothing (with_line standing (Ended end)) in
    (still, still, (still, refl, refl), frames_at_end chooser standing end frames, refl)

pub frames_ended : (chooser : Chooser) (standing : Standing) (frames : List FrameShape) → has_ended standing.line ≡ true → HearsFrames chooser standing frames (nothing standing)
frames_ended chooser standing frames ended =
    let (end, is) = has_come standing.line ended in
    let same : with_line standing (Ended end) ≡ standing = ap (λ (l : Line). with_line standing l) (sym is) in
    subst (λ (s : Standing). HearsFrames chooser s frames (nothing s)) same (frames_at_end chooser standing end frames)

-- and nothing begins
ended_begun : (line : Line) (begun : List ℕ) → has_ended line ≡ true → begun_at line begun ≡ []
ended_begun (Ended end) begun e = refl
ended_begun (Ready own) begun e = absurd (cc)
ended_begun (Bidding own load) begun e = absurd (cc)
ended_begun (Awaiting own sending) begun e = absurd (cc)
ended_begun (SentAll own) begun e = absurd (cc)
ended_begun (InText own taking) begun e = absurd (cc)
ended_begun (Finished own text) begun e = absurd (cc)

pub bytes_ended : (chooser : Chooser) (standing : Standing) (bytes : List ℕ) → has_ended standing.line ≡ true → standing.begun ≡ [] → HearsBytes chooser standing bytes (nothing standing)
bytes_ended chooser standing bytes ended none =
    let frames = frames_ended chooser (with_begun standing []) (scanned standing bytes).shapes ended in (
      nothing (with_begun standing []),
      frames,
      ap nothing (sym (begun_again standing [] none) ∙ ap (λ (l : List ℕ). with_begun standing l) (sym (ended_begun standing.line (scanned standing bytes).begun ended))),
    )

-- ---- a front, and then the rest

pub scanned_on : (standing : Standing) (front rest : List ℕ) → scanned standing (front ++ rest) ≡ hear_all (scanned standing front) rest
scanned_on standing front rest = fold-append hear (hearing standing.begun []) front rest

module _ (chooser : Chooser) (standing : Standing) (front rest : List ℕ) where
  on_begun : (one later : Done) → GoesOn standing front one → HearsBytes chooser one.standing rest later → HearsBytes chooser standing (front ++ rest) (joined one later)
  on_begun one later (begun, same, is) (frames, hears_all, e) =
      let all : scanned standing (front ++ rest) ≡ hear_all (hearing begun []) rest = scanned_on standing front rest ∙ ap (λ (h : Hearing). hear_all h rest) same in
      let there : scanned one.standing rest ≡ hear_all (hearing begun []) rest = ap (λ (d : Done). scanned d.standing rest) is in
      let whole : scanned one.standing rest ≡ scanned standing (front ++ rest) = there ∙ sym all in
      let clear : with_begun one.standing [] ≡ with_begun standing [] = ap (λ (d : Done). with_begun d.standing []) is in
      let here : HearsFrames chooser (with_begun standing []) (scanned standing (front ++ rest)).shapes frames =
      subst (λ (s : Standing). HearsFrames chooser s (scanned standing (front ++ rest)).shapes frames) clear
      (subst (λ (h : Hearing). HearsFrames chooser (with_begun one.standing []) h.shapes frames) whole hears_all) in
      (frames, here, ap (λ (d : Done). joined d later) is ∙ e ∙ ap (λ (h : Hearing). with_begun_at frames h.begun) whole)

  on_frame : (one later : Done) → EndsFrame chooser standing front one → HearsBytes chooser one.standing rest later → HearsBytes chooser standing (front ++ rest) (joined one later)
  on_frame one later (frame, same, hears_it) (frames, hears_all, e) =
      let none : one.standing.begun ≡ [] = frame_keeps chooser (with_begun standing []) frame one hears_it in
      let h : Hearing = hear_all (hearing [] []) rest in
      let all : scanned standing (front ++ rest) ≡ hearing h.begun (frame ∷ h.shapes) =
      scanned_on standing front rest ∙ ap (λ (x : Hearing). hear_all x rest) same ∙ heard_behind (frame ∷ []) rest [] [] in
      let there : scanned one.standing rest ≡ h = ap (λ (l : List ℕ). hear_all (hearing l []) rest) none in
      let more : HearsFrames chooser one.standing h.shapes frames =
      subst (λ (s : Standing). HearsFrames chooser s h.shapes frames) (begun_again one.standing [] none)
      (subst (λ (x : Hearing). HearsFrames chooser (with_begun one.standing []) x.shapes frames) there hears_all) in
      let here : HearsFrames chooser (with_begun standing []) (scanned standing (front ++ rest)).shapes (joined one frames) =
      subst (λ (x : Hearing). HearsFrames chooser (with_begun standing []) x.shapes (joined one frames)) (sym all) (one, frames, hears_it, more, refl) in (
        joined one frames,
        here,
        ap (joined one) e ∙ ap (λ (x : Hearing). with_begun_at (joined one frames) x.begun) there ∙ ap (λ (x : Hearing). with_begun_at (joined one frames) x.begun) (sym all),
      )

  pub front_then : (one later : Done) → HearsFront chooser standing front one → HearsBytes chooser one.standing rest later → HearsBytes chooser standing (front ++ rest) (joined one later)
  front_then one later (inl begun) more = on_begun one later begun more
  front_then one later (inr ends) more = on_frame one later ends more

-- ---- where the journal is full

-- in the own turn that comes with the frame of a front
pub front_full : (chooser : Chooser) (standing : Standing) (bytes : List ℕ) (count n : ℕ) (frame : FrameShape) → scanned standing (take count bytes) ≡ hearing [] (frame ∷ []) → FrameFull chooser (with_begun standing []) frame n
    → BytesFull chooser standing bytes n
front_full chooser standing bytes count n frame same full =
    let h : Hearing = hear_all (hearing [] []) (drop count bytes) in
    let all : scanned standing bytes ≡ hearing h.begun (frame ∷ h.shapes) =
    ap (scanned standing) (sym (take-append-drop count bytes)) ∙ scanned_on standing (take count bytes) (drop count bytes) ∙ ap (λ (x : Hearing). hear_all x (drop count bytes)) same
    ∙ heard_behind (frame ∷ []) (drop count bytes) [] [] in
    subst (λ (x : Hearing). FramesFull chooser (with_begun standing []) x.shapes n) (sym all) (inl full)

-- behind a front
pub full_behind : (chooser : Chooser) (standing : Standing) (front rest : List ℕ) (n : ℕ) (one : Done) → HearsFront chooser standing front one → BytesFull chooser one.standing rest n → BytesFull chooser standing (front ++ rest) n
full_behind chooser standing front rest n one (inl (begun, same, is)) full =
    let all : scanned standing (front ++ rest) ≡ hear_all (hearing begun []) rest = scanned_on standing front rest ∙ ap (λ (h : Hearing). hear_all h rest) same in
    let whole : scanned one.standing rest ≡ scanned standing (front ++ rest) = ap (λ (d : Done). scanned d.standing rest) is ∙ sym all in
    subst (λ (s : Standing). FramesFull chooser s (scanned standing (front ++ rest)).shapes n) (ap (λ (d : Done). with_begun d.standing []) is)
    (subst (λ (h : Hearing). FramesFull chooser (with_begun one.standing []) h.shapes n) whole full)
full_behind chooser standing front rest n one (inr (frame, same, hears_it)) full =
    let none : one.standing.begun ≡ [] = frame_keeps chooser (with_begun standing []) frame one hears_it in
    let h : Hearing = hear_all (hearing [] []) rest in
    let all : scanned standing (front ++ rest) ≡ hearing h.begun (frame ∷ h.shapes) =
    scanned_on standing front rest ∙ ap (λ (x : Hearing). hear_all x rest) same ∙ heard_behind (frame ∷ []) rest [] [] in
    let there : scanned one.standing rest ≡ h = ap (λ (l : List ℕ). hear_all (hearing l []) rest) none in
    let more : FramesFull chooser one.standing h.shapes n =
    subst (λ (s : Standing). FramesFull chooser s h.shapes n) (begun_again one.standing [] none) (subst (λ (x : Hearing). FramesFull chooser (with_begun one.standing []) x.shapes n) there full) in
    subst (λ (x : Hearing). FramesFull chooser (with_begun standing []) x.shapes n) (sym all) (inr (one, (hears_it, more)))

-- the front with which the session ends leaves nothing begun
pub front_ended : (chooser : Chooser) (standing : Standing) (front : List ℕ) (one : Done) → HearsFront chooser standing front one → has_ended standing.line ≡ false → has_ended one.standing.line ≡ true
    → one.standing.begun ≡ []
front_ended chooser standing front one (inl (begun, same, is)) on ended = absurd (not_both (has_ended one.standing.line) (ap (λ (d : Done). has_ended d.standing.line) is ∙ on) ended)
  where
    not_both : (x : Bool) → x ≡ false → x ≡ true → ⊥
    not_both x p q = cc
front_ended chooser standing front one (inr (frame, same, hears_it)) on ended = frame_keeps chooser (with_begun standing []) frame one hears_it

-- ---- what is heard of a front

-- the piece that a front completes
one_piece : (pieces : List (List ℕ)) (frame : FrameShape) → ArePieces pieces (frame ∷ []) → (judge (concat pieces) ≡ Some frame)
one_piece [] frame are = absurd are
one_piece (piece ∷ []) frame are = ap judge (append-nil piece) ∙ are.0
one_piece (piece ∷ other ∷ more) frame are = absurd are.1

pub front_judged : (begun front : List ℕ) (frame : FrameShape) → hear_all (hearing begun []) front ≡ hearing [] (frame ∷ []) → judge (begun ++ front) ≡ Some frame
front_judged begun front frame same =
    let p : Parted begun front (hear_all (hearing begun []) front) [] = parted front begun [] in
    let frames : p.frames ≡ frame ∷ [] = sym p.shapes ∙ ap (λ (h : Hearing). h.shapes) same in
    let none : (hear_all (hearing begun []) front).begun ≡ [] = ap (λ (h : Hearing). h.begun) same in
    let all : begun ++ front ≡ concat p.pieces = p.joined ∙ ap (λ (l : List ℕ). concat p.pieces ++ l) none ∙ append-nil (concat p.pieces) in
    ap judge all ∙ one_piece p.pieces frame (subst (ArePieces p.pieces) frames p.are)

-- what has begun behind a front that completes no frame
pub front_begun : (begun front still : List ℕ) → hear_all (hearing begun []) front ≡ hearing still [] → begun ++ front ≡ still
front_begun begun front still same =
    let p : Parted begun front (hear_all (hearing begun []) front) [] = parted front begun [] in
    let frames : p.frames ≡ [] = sym p.shapes ∙ ap (λ (h : Hearing). h.shapes) same in
    let there : (hear_all (hearing begun []) front).begun ≡ still = ap (λ (h : Hearing). h.begun) same in
    p.joined ∙ ap (λ (l : List ℕ). l ++ (hear_all (hearing begun []) front).begun) (no_pieces p.pieces (subst (ArePieces p.pieces) frames p.are)) ∙ there
  where
    no_pieces : (pieces : List (List ℕ)) → ArePieces pieces [] → concat pieces ≡ []
    no_pieces [] are = refl
    no_pieces (piece ∷ pieces) are = absurd are

-- a front that completes a frame has some byte
pub front_some : (begun front : List ℕ) (frame : FrameShape) → hear_all (hearing begun []) front ≡ hearing [] (frame ∷ []) → 0 < length front
front_some begun [] frame same =
    let none : [] ≡ frame ∷ [] = ap (λ (h : Hearing). h.shapes) same in
    absurd (some_frame frame none)
  where
    some_frame : (frame : FrameShape) → [] ≡ frame ∷ [] → ⊥
    some_frame frame e = cc
front_some begun (b ∷ front) frame same = omega arith
