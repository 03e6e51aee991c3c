-- Which end stands where at the end of a clean session, by the headers.
use Rattle.std.proofs.Common.{◌≡◌, ℕ, zero, suc, true, false, List, [], ◌∷◌, refl, sym, ◌∙◌, subst}
use Rattle.dsd_record.specs.Choices.{Chooser}
use Rattle.dsd_journal.specs.declared.entry.Entry.{Entry}
use Rattle.dsd_journal.specs.declared.header.Header.{Header}
use Rattle.dex_handshake.specs.LineTable.{Common}
use Rattle.dex_line.specs.FrameShapes.{FrameShape}
use Rattle.dsd_end.specs.PollStep.{Done}
use Rattle.dsd_end.specs.Standings.{Standing}
use Rattle.dsd_end.proofs.Polling.{along_goes}
use Rattle.clean_sessions.specs.Beginnings.{IsCleanSession, opened, receiver_header, supplier_header}
use Rattle.clean_sessions.specs.CleanTurns.{has_none, next_hearer, next_owner}
use Rattle.clean_sessions.specs.Feeding.{IsFed, heard_each}
use Rattle.clean_sessions.specs.Halls.{AreExchanged, CleanStep, Hall, IsTurnTaken}
use Rattle.clean_sessions.specs.Sessions.{AreTaken, Spoken, post_behind}

fed_header : (chooser : Chooser) (standing : Standing) (frame : FrameShape) (pieces : List (List ℕ)) (done : Done) → IsFed chooser standing frame pieces done → done.standing.header ≡ standing.header
fed_header chooser standing frame pieces done fed = (along_goes chooser (λ (set : List ℕ). Unit {0}) (λ text set lent. tt) standing (heard_each pieces) done fed.polls).header

-- whose journals both ends of a hall have
record HaveHeaders (near far : Header) (hall : Hall) : Type 0 where
  near_is : hall.near.standing.header ≡ near
  far_is : hall.far.standing.header ≡ far

step_headers : (near far : Header) (old new : Hall) → CleanStep old new → HaveHeaders near far old → HaveHeaders far near new
step_headers near far old new step have =
    subst (HaveHeaders far near) (sym step.next)
    (record { near_is = have.far_is; far_is = fed_header old.near.chooser old.near.standing step.frame step.pieces step.done step.fed ∙ have.near_is })

exchanged_headers : (count : ℕ) (near far : Header) (old new : Hall) → AreExchanged count old new → HaveHeaders near far old → HaveHeaders near far new
exchanged_headers zero near far old new same have = subst (HaveHeaders near far) same have
exchanged_headers (suc count) near far old new (middle, next, one, other, rest) have =
    exchanged_headers count near far next new rest (step_headers far near middle next other (step_headers near far old middle one have))

turn_headers : (blocks : ℕ) (near far : Header) (old new : Hall) → IsTurnTaken blocks old new → HaveHeaders near far old → HaveHeaders far near new
turn_headers blocks near far old new (behind, exchanged, last) have = step_headers near far behind new last (exchanged_headers (suc blocks) near far old behind exchanged have)

-- the two ends behind turns, the one first whose own turn the first one was
abbrev HeadersBehind : List Spoken → Header → Header → Hall → Type 0
HeadersBehind more own other new = ((post_behind true more new).standing.header ≡ own) × ((post_behind false more new).standing.header ≡ other)

taken_headers : (more : List Spoken) (owner hearer : Common) (text : List ℕ) (near far : Header) (old new : Hall) → AreTaken more owner hearer text old new → HaveHeaders near far old → HeadersBehind more far near new
taken_headers [] owner hearer text near far old new (taken, last) have =
    let behind : HaveHeaders far near new = turn_headers _ near far old new taken have in
    (behind.near_is, behind.far_is)
taken_headers (spoken ∷ more) owner hearer text near far old new (next, taken, both, desk, turned, sets, rest) have =
    let (one, other) = taken_headers more (next_owner hearer (has_none text)) (next_hearer owner (has_none text)) spoken.text far near next new rest (turn_headers _ near far old next taken have) in
    (other, one)

pub session_headers : (id other_id : List ℕ) (supplier receiver : Chooser) (supplier_entries receiver_entries : List Entry) (first : Spoken) (more : List Spoken) (new : Hall)
    → IsCleanSession id other_id supplier receiver supplier_entries receiver_entries first more new → HeadersBehind more (supplier_header id other_id) (receiver_header id other_id) new
session_headers id other_id supplier receiver supplier_entries receiver_entries first more new session =
    let own : Header = supplier_header id other_id in
    let their : Header = receiver_header id other_id in
    let begun : Hall = opened id other_id supplier receiver supplier_entries receiver_entries in
    let (behind, bids, answered, one, bid, other, last) = session.headers in
    let at_bids : HaveHeaders own their bids = step_headers their own behind bids bid (exchanged_headers 2 their own begun behind one (record { near_is = refl; far_is = refl })) in
    let at_middle : HaveHeaders their own session.middle = step_headers own their answered session.middle last (exchanged_headers 2 own their bids answered other at_bids) in
    taken_headers more _ _ first.text their own session.middle new session.turns at_middle
