-- How many bytes an end has heard, by its polls.
use Rattle.std.proofs.Common.{◌≡◌, ◌≤◌, ◌+◌, ◌*◌, ℕ, zero, suc, Bool, true, false, List, [], ◌∷◌, ◌++◌, length, take, drop, Some, sym, ◌∙◌, ap, subst, length-append, length-drop, arith}
use Rattle.std.proofs.lemmas.List.{take-append-drop}
use Rattle.dsd_record.specs.Choices.{Chooser}
use Rattle.dsd_station.specs.declared.call.Reception.TheVariants.{Piece}
use Rattle.dex_line.specs.FrameShapes.{FrameShape}
use Rattle.dex_handshake.specs.LineRun.{load_of}
use Rattle.dex_handshake.specs.LineTable.{Common, Line, Ready, Bidding, Awaiting, SentAll, InText, Finished, Ended, hears}
use Rattle.dsd_end.specs.PollStep.{ActsAt, Along, Done, HearsFrame, HearsFrames, HearsUnless, PollsAt, stepped}
use Rattle.dsd_end.specs.Standings.{Standing, has_ended, with_begun}
use Rattle.clean_sessions.specs.Beginnings.{AreHeadersTaken}
use Rattle.clean_sessions.specs.CleanTurns.{has_none, next_hearer, next_owner}
use Rattle.clean_sessions.specs.Feeding.{AreFed, heard_each}
use Rattle.clean_sessions.specs.Halls.{AreExchanged, CleanStep, Hall, IsTurnTaken}
use Rattle.clean_sessions.specs.Sessions.{AreTaken, Spoken, post_behind}

-- ---- a poll

acts_heard : (chooser : Chooser) (standing : Standing) (line : Line) (act : Done) → ActsAt chooser standing line act → act.standing.heard ≡ standing.heard
acts_heard chooser standing (Finished own text) act (desk, load, turned, e) = ap (λ (d : Done). d.standing.heard) e
acts_heard chooser standing (Ready own) act e = ap (λ (d : Done). d.standing.heard) e
acts_heard chooser standing (Bidding own load) act e = ap (λ (d : Done). d.standing.heard) e
acts_heard chooser standing (Awaiting own sending) act e = ap (λ (d : Done). d.standing.heard) e
acts_heard chooser standing (SentAll own) act e = ap (λ (d : Done). d.standing.heard) e
acts_heard chooser standing (InText own taking) act e = ap (λ (d : Done). d.standing.heard) e
acts_heard chooser standing (Ended end) act e = ap (λ (d : Done). d.standing.heard) e

frame_heard : (chooser : Chooser) (standing : Standing) (frame : FrameShape) (done : Done) → HearsFrame chooser standing frame done → done.standing.heard ≡ standing.heard
frame_heard chooser standing frame done (act, acts, e) =
    ap (λ (d : Done). d.standing.heard) e ∙ acts_heard chooser (stepped standing (hears standing.line frame)).standing (hears standing.line frame).next act acts

frames_heard : (chooser : Chooser) (standing : Standing) (frames : List FrameShape) (done : Done) → HearsFrames chooser standing frames done → done.standing.heard ≡ standing.heard
frames_heard chooser standing [] done e = ap (λ (d : Done). d.standing.heard) e
frames_heard chooser standing (frame ∷ frames) done (one, rest, first, others, e) =
    ap (λ (d : Done). d.standing.heard) e ∙ frames_heard chooser one.standing frames rest others ∙ frame_heard chooser standing frame one first

unless_heard : (ended : Bool) (chooser : Chooser) (standing : Standing) (piece : List ℕ) (done : Done) → HearsUnless ended chooser standing (Piece piece) done
    → done.standing.heard ≤ standing.heard + length piece
unless_heard true chooser standing piece done e = let same : done.standing.heard ≡ standing.heard = ap (λ (d : Done). d.standing.heard) e in omega (arith, same)
unless_heard false chooser standing piece done (frames, each, e) =
    let count : done.standing.heard ≡ frames.standing.heard + length piece = ap (λ (d : Done). d.standing.heard) e in
    let same : frames.standing.heard ≡ standing.heard = frames_heard chooser (with_begun standing []) _ frames each in
    omega (arith, count, same)

poll_heard : (first : Bool) (chooser : Chooser) (standing : Standing) (piece : List ℕ) (done : Done) → PollsAt first chooser standing (Some (Piece piece)) done
    → done.standing.heard ≤ standing.heard + length piece
poll_heard true chooser standing piece done polls = absurd polls
poll_heard false chooser standing piece done polls = unless_heard (has_ended standing.line) chooser standing piece done polls

piece_short : (bytes piece : List ℕ) → piece ≡ take 64 bytes → length piece ≤ 64
piece_short bytes piece is =
    let same : length piece ≡ length (take 64 bytes) = ap length is in
    let parts : length (take 64 bytes ++ drop 64 bytes) ≡ length bytes = ap length (take-append-drop 64 bytes) in
    let joined = length-append (take 64 bytes) (drop 64 bytes) in
    let rest = length-drop 64 bytes in
    omega (arith, same, parts, joined, rest)

pieces_heard : (chooser : Chooser) (pieces : List (List ℕ)) (bytes : List ℕ) (standing : Standing) (done : Done) → AreFed bytes pieces → Along chooser standing (heard_each pieces) done
    → done.standing.heard ≤ standing.heard + 64 * length pieces
pieces_heard chooser [] bytes standing done fed e = let same : done.standing.heard ≡ standing.heard = ap (λ (d : Done). d.standing.heard) e in omega (arith, same)
pieces_heard chooser (piece ∷ pieces) bytes standing done fed (one, rest, next, along, e) =
    let same : done.standing.heard ≡ rest.standing.heard = ap (λ (d : Done). d.standing.heard) e in
    let first = poll_heard standing.first chooser standing piece one next.polls in
    let short = piece_short bytes piece fed.1 in
    let others = pieces_heard chooser pieces (drop 64 bytes) one.standing rest fed.2 along in
    omega (arith, same, first, short, others)

-- ---- halls

-- neither end has heard more than 64 bytes a poll
pub record IsHeardLow (hall : Hall) : Type 0 where
  pub near : hall.near.standing.heard ≤ 64 * hall.near.polls
  pub far : hall.far.standing.heard ≤ 64 * hall.far.polls

pub step_low : (old new : Hall) → CleanStep old new → IsHeardLow old → IsHeardLow new
step_low old new step low =
    let more = pieces_heard old.near.chooser step.pieces _ old.near.standing step.done step.fed.cut step.fed.polls in
    let near = low.near in
    subst IsHeardLow (sym step.next) (record { near = low.far; far = far_low step.done.standing.heard old.near.standing.heard old.near.polls (length step.pieces) more near })
  where
    far_low : (now before polls count : ℕ) → now ≤ before + 64 * count → before ≤ 64 * polls → now ≤ 64 * (polls + count)
    far_low now before polls count a b = omega (arith, a, b)

pub exchanged_low : (n : ℕ) (old new : Hall) → AreExchanged n old new → IsHeardLow old → IsHeardLow new
exchanged_low zero old new e low = subst IsHeardLow e low
exchanged_low (suc n) old new (middle, next, one, two, rest) low = exchanged_low n next new rest (step_low middle next two (step_low old middle one low))

pub turn_low : (blocks : ℕ) (old new : Hall) → IsTurnTaken blocks old new → IsHeardLow old → IsHeardLow new
turn_low blocks old new (behind, exchanged, last) low = step_low behind new last (exchanged_low (suc blocks) old behind exchanged low)

pub headers_low : (old new : Hall) → AreHeadersTaken old new → IsHeardLow old → IsHeardLow new
headers_low old new (behind, bids, answered, one, two, three, four) low =
    step_low answered new four (exchanged_low 2 bids answered three (step_low behind bids two (exchanged_low 2 old behind one low)))

pub turns_low : (more : List Spoken) (owner hearer : Common) (text : List ℕ) (old new : Hall) → AreTaken more owner hearer text old new → IsHeardLow old → IsHeardLow new
turns_low [] owner hearer text old new (taken, both) low = turn_low (length (load_of text)) old new taken low
turns_low (spoken ∷ more) owner hearer text old new (next, taken, both, desk, turned, sets, rest) low =
    turns_low more (next_owner hearer (has_none text)) (next_hearer owner (has_none text)) spoken.text next new rest (turn_low (length (load_of text)) old next taken low)

pub post_low : (own : Bool) (more : List Spoken) (hall : Hall) → IsHeardLow hall → (post_behind own more hall).standing.heard ≤ 64 * (post_behind own more hall).polls
post_low true [] hall low = low.near
post_low false [] hall low = low.far
post_low true (spoken ∷ more) hall low = post_low false more hall low
post_low false (spoken ∷ more) hall low = post_low true more hall low
