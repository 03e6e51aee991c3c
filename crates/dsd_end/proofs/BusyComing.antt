-- What is said of a call that finds no memory, from one call to the call above it.
use Rattle.std.proofs.Common.{◌≡◌, inl, inr, ℕ, List, [], ◌∷◌, ◌++◌, take, drop, sym, ◌∙◌, ap, subst, Some, Result, Err}
use Rattle.std.proofs.lemmas.List.{take-append-drop}
use Rattle.dex_line.specs.FrameShapes.{FrameShape}
use Rattle.dex_line.specs.Hearing.{Hearing, hear_all, hearing}
use Rattle.dex_line.proofs.Heard.{heard_behind}
use Rattle.dex_handshake.specs.LineTable.{hears, turn_of}
use Rattle.dsd_record.specs.Choices.{Chooser}
use Rattle.own_turn.specs.IdleTurns.{IfNoMemory, IsIdle}
use Rattle.own_turn.specs.declared.turn_fault.TurnFault.{TurnFault}
use Rattle.own_turn.specs.declared.turn_fault.TurnFault.TheVariants as turns
use Rattle.dsd_end.specs.BusyTurns.{BytesBusy, FrameBusy, FramesBusy, TurnBusy}
use Rattle.dsd_end.specs.PiecesHeard.{HearsFront}
use Rattle.dsd_end.specs.PollStep.{Done, scanned}
use Rattle.dsd_end.specs.Standings.{Standing, with_begun}
use Rattle.dsd_end.proofs.FrontsHeard.{begun_again, scanned_on}
use Rattle.dsd_end.proofs.RunsComing.{frame_keeps}
use Rattle.dsd_end.proofs.StepsGoing.{line_at_turn}

-- of a fault that is handed on, whatever the calls give
pub memory_as : (T U P Q : Type 0) (fault : TurnFault) → (let r : Result T TurnFault = Err fault in IfNoMemory r P) → (P → Q) → (let r : Result U TurnFault = Err fault in IfNoMemory r Q)
memory_as T U P Q turns.Station k f = tt
memory_as T U P Q (turns.Full n) k f = tt
memory_as T U P Q turns.Memory k f = f k

-- ---- from the turn up to the poll

pub turn_busy : (chooser : Chooser) (standing : Standing) (text : List ℕ) → turn_of standing.line ≡ Some text → (IsIdle standing.header chooser standing.desk text → ⊥) → TurnBusy chooser standing
turn_busy chooser standing text some busy =
    let (own, line) = line_at_turn standing.line text some in
    (own, text, line, busy)

-- in the own turn that comes with the frame of a front
pub front_busy : (chooser : Chooser) (standing : Standing) (bytes : List ℕ) (count : ℕ) (frame : FrameShape) → scanned standing (take count bytes) ≡ hearing [] (frame ∷ []) → FrameBusy chooser (with_begun standing []) frame
    → BytesBusy chooser standing bytes
front_busy chooser standing bytes count frame same busy =
    let h : Hearing = hear_all (hearing [] []) (drop count bytes) in
    let all : scanned standing bytes ≡ hearing h.begun (frame ∷ h.shapes) =
    ap (scanned standing) (sym (take-append-drop count bytes)) ∙ scanned_on standing (take count bytes) (drop count bytes) ∙ ap (λ (x : Hearing). hear_all x (drop count bytes)) same
    ∙ heard_behind (frame ∷ []) (drop count bytes) [] [] in
    subst (λ (x : Hearing). FramesBusy chooser (with_begun standing []) x.shapes) (sym all) (inl busy)

-- behind a front
behind_front : (chooser : Chooser) (standing : Standing) (front rest : List ℕ) (one : Done) → HearsFront chooser standing front one → BytesBusy chooser one.standing rest → BytesBusy chooser standing (front ++ rest)
behind_front chooser standing front rest one (inl (begun, same, is)) busy =
    let all : scanned standing (front ++ rest) ≡ hear_all (hearing begun []) rest = scanned_on standing front rest ∙ ap (λ (h : Hearing). hear_all h rest) same in
    let whole : scanned one.standing rest ≡ scanned standing (front ++ rest) = ap (λ (d : Done). scanned d.standing rest) is ∙ sym all in
    subst (λ (s : Standing). FramesBusy chooser s (scanned standing (front ++ rest)).shapes) (ap (λ (d : Done). with_begun d.standing []) is)
    (subst (λ (h : Hearing). FramesBusy chooser (with_begun one.standing []) h.shapes) whole busy)
behind_front chooser standing front rest one (inr (frame, same, hears_it)) busy =
    let none : one.standing.begun ≡ [] = frame_keeps chooser (with_begun standing []) frame one hears_it in
    let h : Hearing = hear_all (hearing [] []) rest in
    let all : scanned standing (front ++ rest) ≡ hearing h.begun (frame ∷ h.shapes) =
    scanned_on standing front rest ∙ ap (λ (x : Hearing). hear_all x rest) same ∙ heard_behind (frame ∷ []) rest [] [] in
    let there : scanned one.standing rest ≡ h = ap (λ (l : List ℕ). hear_all (hearing l []) rest) none in
    let more : FramesBusy chooser one.standing h.shapes =
    subst (λ (s : Standing). FramesBusy chooser s h.shapes) (begun_again one.standing [] none) (subst (λ (x : Hearing). FramesBusy chooser (with_begun one.standing []) x.shapes) there busy) in
    subst (λ (x : Hearing). FramesBusy chooser (with_begun standing []) x.shapes) (sym all) (inr (one, (hears_it, more)))

-- with the bytes that are left behind so many
pub behind_busy : (chooser : Chooser) (standing to : Standing) (bytes : List ℕ) (count : ℕ) (one : Done) → one.standing ≡ to → HearsFront chooser standing (take count bytes) one → BytesBusy chooser to (drop count bytes)
    → BytesBusy chooser standing bytes
behind_busy chooser standing to bytes count one comes hears busy =
    subst (λ (l : List ℕ). BytesBusy chooser standing l) (take-append-drop count bytes)
    (behind_front chooser standing (take count bytes) (drop count bytes) one hears (subst (λ (s : Standing). BytesBusy chooser s (drop count bytes)) (sym comes) busy))
