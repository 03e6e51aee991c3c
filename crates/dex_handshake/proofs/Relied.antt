-- The law of the line, from the invariant.
use Rattle.std.specs.Prelude.{◌≡◌, ◌⊎◌, ℕ, ◌+◌, nat_lt, true, false, List, [], ◌∷◌, ◌++◌, Option, Some, None}
use Rattle.std.specs.List.{fold}
use Rattle.std.proofs.Common.{refl, sym, ◌∙◌, ap, subst, inl, inr}
use Rattle.std.proofs.lemmas.List.Sums.{fold-append}
use Rattle.dsd_values.specs.declared.role.Role.{Role}
use Rattle.dsd_values.specs.declared.role.Role.TheVariants.{Supplier, Receiver}
use Rattle.dex_line.specs.FrameShapes.{FrameShape, Enq, Ack0, Ack1, Nak, Eot, Damaged, Bad}
use Rattle.dex_handshake.specs.LineTable.{StageName, FirstStage, SecondStage, TextStage, Common, Sending, Line, Ready, Bidding, Awaiting, SentAll, InText, Finished, Ended, LineStep, says, ends, is_odd, reply_of, next_stage, no_quiets, one_quiet, next_frame, again, hears, quiets}
use Rattle.dex_handshake.specs.LineRun.{load_of, Turns, LineEnd}
use Rattle.dex_handshake.specs.Wire.{Wire, WireEvent, Flight, wire_of}
use Rattle.dex_handshake.specs.LineLaw.{AreFit, IsLast, HandsOn, HasSaidEot, IsTaken, IsAskedNext, IsHandedOn, StaysAt}
use Rattle.dex_handshake.specs.declared.session_end.SessionEnd.{SessionEnd}
use Rattle.dex_handshake.specs.declared.session_end.SessionEnd.TheVariants.{Silent, TriesSpent}
use Rattle.dex_handshake.proofs.Facing.{Stand, AtStart, Bids, Bid, Open, Done, Closed, Left, Rests, Gone, Way, Still, Forth, Back, turned, Flying, Nothing, Closing, Refusal, NoiseForth, NoiseBack, Stray, noise, way_of, Flies, FliesClosed, FliesRests, FliesGone, Owed, Past, TookLast, LastOf, Facts, Holds, GoesOn, sender_line, hearer_line}
use Rattle.dex_handshake.proofs.Turning.{if_both, if_yes, if_no, past_of, took_last}
use Rattle.dex_handshake.proofs.Wires.{Stands, flight_of, stands}
use Rattle.dex_handshake.specs.declared.session_end.TheConstants.{MOST_TRIES, MOST_QUIETS}

-- ---- what was handed on

past_at : (bx by : List (List ℕ)) (tx ty : Turns) (stand : Stand) → Facts stand bx tx by ty → Past bx tx by ty
past_at bx by tx ty (AtStart own its load) a = past_of FirstStage bx by tx ty a.0 a.1.2
past_at bx by tx ty (Bids own its load) a = past_of (next_stage a.0) bx by tx ty a.1 a.2.2
past_at bx by tx ty (Bid own its load) a = past_of a.0 bx by tx ty a.1 a.2.2
past_at bx by tx ty (Open own its sending taking) a = past_of a.0 bx by tx ty a.1 a.2.2
past_at bx by tx ty (Done own its sending taking) a = past_of a.0 bx by tx ty a.1 a.2.2
past_at bx by tx ty (Closed own its taking) a = past_of a.0 bx by tx ty a.1 a.2.2
past_at bx by tx ty (Left e its taking) a = past_of a.0 bx by tx ty a.1 a.2.2
past_at bx by tx ty (Rests own its text) a = a.0
past_at bx by tx ty (Gone e line) a = a.0

hands_on_of : (role : Role) (wire : Wire) (way : Way) → GoesOn [] wire.supplier ([] ∷ []) wire.receiver way → HandsOn role wire
hands_on_of Supplier wire way (inl h) = (past_at [] ([] ∷ []) wire.supplier.turns wire.receiver.turns h.stand h.facts).mine
hands_on_of Supplier wire way (inr h) = (past_at ([] ∷ []) [] wire.receiver.turns wire.supplier.turns h.stand h.facts).its
hands_on_of Receiver wire way (inl h) = (past_at [] ([] ∷ []) wire.supplier.turns wire.receiver.turns h.stand h.facts).its
hands_on_of Receiver wire way (inr h) = (past_at ([] ∷ []) [] wire.receiver.turns wire.supplier.turns h.stand h.facts).mine

-- ---- what was taken

second : List ℕ → List ℕ → List ℕ
second a b = b

last_same : (a b : List (List ℕ)) (x y : List ℕ) → a ++ x ∷ [] ≡ b ++ y ∷ [] → x ≡ y
unfolding second
last_same a b x y e =
    sym (fold-append second [] a (x ∷ [])) ∙ ap (λ (l : List (List ℕ)). fold second [] l) e ∙ fold-append second [] b (y ∷ [])

no_last : (a : List (List ℕ)) (x : List ℕ) → a ++ x ∷ [] ≡ [] → ⊥
no_last [] x e = cc
no_last (b ∷ more) x e = cc

sender_last : (bx by : List (List ℕ)) (tx ty : Turns) (stand : Stand) (own : Common) → sender_line stand ≡ SentAll own → Facts stand bx tx by ty → TookLast tx ty
sender_last bx by tx ty (AtStart me its load) own e a = absurd (let no_such : ⊥ = let f : Bidding me load ≡ SentAll own = e in cc in no_such)
sender_last bx by tx ty (Bids me its load) own e a = absurd (let no_such : ⊥ = let f : Bidding me load ≡ SentAll own = e in cc in no_such)
sender_last bx by tx ty (Bid me its load) own e a = absurd (let no_such : ⊥ = let f : Bidding me load ≡ SentAll own = e in cc in no_such)
sender_last bx by tx ty (Open me its sending taking) own e a = absurd (let no_such : ⊥ = let f : Awaiting me sending ≡ SentAll own = e in cc in no_such)
sender_last bx by tx ty (Done me its sending taking) own e a = absurd (let no_such : ⊥ = let f : Awaiting me sending ≡ SentAll own = e in cc in no_such)
sender_last bx by tx ty (Closed me its taking) own e a = took_last a.0 bx by tx ty taking a.1 a.2.2 a.3
sender_last bx by tx ty (Left z its taking) own e a = absurd (let no_such : ⊥ = let f : Ended z ≡ SentAll own = e in cc in no_such)
sender_last bx by tx ty (Rests me its text) own e a = a.1
sender_last bx by tx ty (Gone z line) own e a = absurd (let no_such : ⊥ = let f : Ended z ≡ SentAll own = e in cc in no_such)

hearer_last : (bx by : List (List ℕ)) (tx ty : Turns) (stand : Stand) (own : Common) → hearer_line stand ≡ SentAll own → Facts stand bx tx by ty → TookLast ty tx
hearer_last bx by tx ty (AtStart me its load) own e a = absurd (let no_such : ⊥ = let f : Ready its ≡ SentAll own = e in cc in no_such)
hearer_last bx by tx ty (Bids me its load) own e a = a.4
hearer_last bx by tx ty (Bid me its load) own e a = absurd (let no_such : ⊥ = let f : hearer_line (Bid me its load) ≡ SentAll own = e in cc in no_such)
hearer_last bx by tx ty (Open me its sending taking) own e a = absurd (let no_such : ⊥ = let f : InText its taking ≡ SentAll own = e in cc in no_such)
hearer_last bx by tx ty (Done me its sending taking) own e a = absurd (let no_such : ⊥ = let f : InText its taking ≡ SentAll own = e in cc in no_such)
hearer_last bx by tx ty (Closed me its taking) own e a = absurd (let no_such : ⊥ = let f : InText its taking ≡ SentAll own = e in cc in no_such)
hearer_last bx by tx ty (Left z its taking) own e a = absurd (let no_such : ⊥ = let f : InText its taking ≡ SentAll own = e in cc in no_such)
hearer_last bx by tx ty (Rests me its text) own e a = absurd (let no_such : ⊥ = let f : Finished its text ≡ SentAll own = e in cc in no_such)
hearer_last bx by tx ty (Gone z line) own e a = subst (λ (l : Line). LastOf l ty tx) e a.1

-- the last text that was given is the one
took_is : (tx ty : Turns) (text : List ℕ) → IsLast tx.given text → TookLast tx ty → ty.took ≡ load_of text
took_is tx ty text l (inl e) = absurd (no_last l.0 text (sym l.1 ∙ e))
took_is tx ty text l (inr t) = t.2 ∙ ap load_of (last_same t.1.0 l.0 t.0 text (sym t.1.1 ∙ l.1))

holds_taken : (bx by : List (List ℕ)) (x y : LineEnd) (way : Way) (own : Common) (text : List ℕ) → GoesOn bx x by y way → x.line ≡ SentAll own → IsLast x.turns.given text → y.turns.took ≡ load_of text
holds_taken bx by x y way own text (inl h) e l = took_is x.turns y.turns text l (sender_last bx by x.turns y.turns h.stand own (sym h.sender ∙ e) h.facts)
holds_taken bx by x y way own text (inr h) e l = took_is x.turns y.turns text l (hearer_last by bx y.turns x.turns h.stand own (sym h.hearer ∙ e) h.facts)

turn_twice : (way : Way) → turned (turned way) ≡ way
turn_twice Still = refl
turn_twice (Forth frame) = refl
turn_twice (Back frame) = refl

goes_turned : (bx by : List (List ℕ)) (x y : LineEnd) (way : Way) → GoesOn bx x by y way → GoesOn by y bx x (turned way)
goes_turned bx by x y way (inl h) = inr (subst (λ (w : Way). Holds bx x by y w) (sym (turn_twice way)) h)
goes_turned bx by x y way (inr h) = inl h

taken_of : (role : Role) (wire : Wire) (text : List ℕ) (way : Way) → GoesOn [] wire.supplier ([] ∷ []) wire.receiver way → HasSaidEot role wire text → IsTaken role wire text
taken_of Supplier wire text way g s = holds_taken [] ([] ∷ []) wire.supplier wire.receiver way s.0 text g s.1 s.2
taken_of Receiver wire text way g s =
    holds_taken ([] ∷ []) [] wire.receiver wire.supplier (turned way) s.0 text (goes_turned [] ([] ∷ []) wire.supplier wire.receiver way g) s.1 s.2

-- ---- the next Enq

others_of : (stage : StageName) (bx by : List (List ℕ)) (tx ty : Turns) (text : List ℕ) → Owed (next_stage stage) bx tx by ty text → tx.handed ≡ by ++ ty.given
others_of FirstStage bx by tx ty text o = o.handed ∙ sym (ap (λ (b : List (List ℕ)). b ++ ty.given) o.behinds ∙ o.given)
others_of SecondStage bx by tx ty text o = sym o.0.others
others_of TextStage bx by tx ty text o = sym o.0.others

-- an Enq to the hearer, where it has said its Eot
gone_unasked : (e : SessionEnd) (line : Line) (flying : Flying) → FliesGone flying → way_of (Gone e line) flying ≡ Forth Enq → ⊥
gone_unasked e line Nothing f w = let z : Still ≡ Forth Enq = w in cc
gone_unasked e line (Stray frame) f w = let z : Back frame ≡ Forth Enq = w in cc
gone_unasked e line _ f w = absurd f

hearer_asked : (bx by : List (List ℕ)) (tx ty : Turns) (stand : Stand) (flying : Flying) (own : Common) → Flies stand flying → Facts stand bx tx by ty
    → way_of stand flying ≡ Forth Enq → hearer_line stand ≡ SentAll own → tx.handed ≡ by ++ ty.given
hearer_asked bx by tx ty (AtStart me its load) flying own f a w e = absurd (let no_such : ⊥ = let z : Ready its ≡ SentAll own = e in cc in no_such)
hearer_asked bx by tx ty (Bids me its load) flying own f a w e = others_of a.0 bx by tx ty a.1 a.2.2
hearer_asked bx by tx ty (Bid me its load) flying own f a w e = absurd (let no_such : ⊥ = let z : hearer_line (Bid me its load) ≡ SentAll own = e in cc in no_such)
hearer_asked bx by tx ty (Open me its sending taking) flying own f a w e = absurd (let no_such : ⊥ = let z : InText its taking ≡ SentAll own = e in cc in no_such)
hearer_asked bx by tx ty (Done me its sending taking) flying own f a w e = absurd (let no_such : ⊥ = let z : InText its taking ≡ SentAll own = e in cc in no_such)
hearer_asked bx by tx ty (Closed me its taking) flying own f a w e = absurd (let no_such : ⊥ = let z : InText its taking ≡ SentAll own = e in cc in no_such)
hearer_asked bx by tx ty (Left k its taking) flying own f a w e = absurd (let no_such : ⊥ = let z : InText its taking ≡ SentAll own = e in cc in no_such)
hearer_asked bx by tx ty (Rests me its text) flying own f a w e = absurd (let no_such : ⊥ = let z : Finished its text ≡ SentAll own = e in cc in no_such)
hearer_asked bx by tx ty (Gone k line) flying own f a w e = absurd (gone_unasked k line flying f w)

sender_asked : (bx by : List (List ℕ)) (tx ty : Turns) (stand : Stand) (flying : Flying) (own : Common) → Flies stand flying
    → way_of stand flying ≡ Back Enq → sender_line stand ≡ SentAll own → ⊥
sender_asked bx by tx ty (AtStart me its load) flying own f w e = let z : Bidding me load ≡ SentAll own = e in cc
sender_asked bx by tx ty (Bids me its load) flying own f w e = let z : Bidding me load ≡ SentAll own = e in cc
sender_asked bx by tx ty (Bid me its load) flying own f w e = let z : Bidding me load ≡ SentAll own = e in cc
sender_asked bx by tx ty (Open me its sending taking) flying own f w e = let z : Awaiting me sending ≡ SentAll own = e in cc
sender_asked bx by tx ty (Done me its sending taking) flying own f w e = let z : Awaiting me sending ≡ SentAll own = e in cc
sender_asked bx by tx ty (Closed me its taking) flying own f w e = closed_asked flying f w
  where
    closed_asked : (flying : Flying) → FliesClosed flying → way_of (Closed me its taking) flying ≡ Back Enq → ⊥
    closed_asked Nothing f w = let z : Still ≡ Back Enq = w in cc
    closed_asked Closing f w = let z : Forth Eot ≡ Back Enq = w in cc
    closed_asked Refusal f w = let z : Back Nak ≡ Back Enq = w in cc
    closed_asked (NoiseForth d) f w = let z : Forth (noise d) ≡ Back Enq = w in cc
    closed_asked (NoiseBack true) f w = let z : Back Damaged ≡ Back Enq = w in cc
    closed_asked (NoiseBack false) f w = let z : Back Bad ≡ Back Enq = w in cc
    closed_asked _ f w = absurd f
sender_asked bx by tx ty (Left k its taking) flying own f w e = let z : Ended k ≡ SentAll own = e in cc
sender_asked bx by tx ty (Rests me its text) flying own f w e = rests_asked flying f w
  where
    rests_asked : (flying : Flying) → FliesRests flying → way_of (Rests me its text) flying ≡ Back Enq → ⊥
    rests_asked Nothing f w = let z : Still ≡ Back Enq = w in cc
    rests_asked Closing f w = let z : Forth Eot ≡ Back Enq = w in cc
    rests_asked (NoiseForth d) f w = let z : Forth (noise d) ≡ Back Enq = w in cc
    rests_asked _ f w = absurd f
sender_asked bx by tx ty (Gone k line) flying own f w e = let z : Ended k ≡ SentAll own = e in cc

-- an Enq toward an end that has said its Eot
holds_asked : (bx by : List (List ℕ)) (x y : LineEnd) (way : Way) (own : Common) → GoesOn bx x by y way → way ≡ Forth Enq → y.line ≡ SentAll own → x.turns.handed ≡ by ++ y.turns.given
holds_asked bx by x y way own (inl h) w e =
    hearer_asked bx by x.turns y.turns h.stand h.flying own h.flies h.facts (sym h.flown ∙ w) (sym h.hearer ∙ e)
holds_asked bx by x y way own (inr h) w e =
    absurd (sender_asked by bx y.turns x.turns h.stand h.flying own h.flies (sym h.flown ∙ ap turned w) (sym h.sender ∙ e))

to_of : Option Flight → Role
to_of None = Supplier
to_of (Some flight) = flight.to

frame_of : Option Flight → FrameShape
frame_of None = Bad
frame_of (Some flight) = flight.frame

to_receiver : (way : Way) → flight_of way ≡ Some (record { to = Receiver; frame = Enq }) → way ≡ Forth Enq
unfolding to_of frame_of
to_receiver Still e = absurd (let no_such : ⊥ = let z : Supplier ≡ Receiver = ap to_of e in cc in no_such)
to_receiver (Forth frame) e = ap Forth (ap frame_of e)
to_receiver (Back frame) e = absurd (let no_such : ⊥ = let z : Supplier ≡ Receiver = ap to_of e in cc in no_such)

to_supplier : (way : Way) → flight_of way ≡ Some (record { to = Supplier; frame = Enq }) → turned way ≡ Forth Enq
unfolding to_of frame_of
to_supplier Still e = absurd (let no_such : ⊥ = let z : Bad ≡ Enq = ap frame_of e in cc in no_such)
to_supplier (Forth frame) e = absurd (let no_such : ⊥ = let z : Receiver ≡ Supplier = ap to_of e in cc in no_such)
to_supplier (Back frame) e = ap Forth (ap frame_of e)

asked_of : (role : Role) (wire : Wire) (way : Way) → wire.flight ≡ flight_of way → GoesOn [] wire.supplier ([] ∷ []) wire.receiver way → IsAskedNext role wire → IsHandedOn role wire
asked_of Supplier wire way f g s =
    holds_asked ([] ∷ []) [] wire.receiver wire.supplier (turned way) s.0 (goes_turned [] ([] ∷ []) wire.supplier wire.receiver way g) (to_supplier way (sym f ∙ s.2)) s.1
asked_of Receiver wire way f g s = holds_asked [] ([] ∷ []) wire.supplier wire.receiver way s.0 g (to_receiver way (sym f ∙ s.2)) s.1

-- ---- the law

module _ (own peer its theirs : List ℕ) (texts others : List (List ℕ)) (events : List WireEvent) (fx : AreFit texts) (fy : AreFit others) where
  reached : Stands (wire_of own peer its theirs texts others events)
  reached = stands own peer its theirs texts others events fx fy

  pub law_texts : (role : Role) → HandsOn role (wire_of own peer its theirs texts others events)
  law_texts role = hands_on_of role (wire_of own peer its theirs texts others events) reached.0 reached.2

  pub law_blocks : (role : Role) (text : List ℕ) → HasSaidEot role (wire_of own peer its theirs texts others events) text → IsTaken role (wire_of own peer its theirs texts others events) text
  law_blocks role text = taken_of role (wire_of own peer its theirs texts others events) text reached.0 reached.2

  pub law_turns : (role : Role) → IsAskedNext role (wire_of own peer its theirs texts others events) → IsHandedOn role (wire_of own peer its theirs texts others events)
  law_turns role = asked_of role (wire_of own peer its theirs texts others events) reached.0 reached.1 reached.2

-- ---- one block after another

again_stays : (own : Common) (sending : Sending) → StaysAt sending.block (again own sending).next
again_stays own sending =
    if_both (λ (step : LineStep). StaysAt sending.block step.next) (nat_lt sending.tries MOST_TRIES)
    (says sending.frame (Awaiting own (record sending { tries = sending.tries + 1; asked = false }))) (ends (TriesSpent sending.block)) (λ e. refl) (λ e. refl)

-- it moves past a block at the reply of its parity alone
pub moves : (own : Common) (sending : Sending) (frame : FrameShape) → (frame ≡ reply_of sending.block) ⊎ StaysAt sending.block (hears (Awaiting own sending) frame).next
moves own sending Ack0 =
    if_both (λ (step : LineStep). (Ack0 ≡ reply_of sending.block) ⊎ StaysAt sending.block step.next) (is_odd sending.block)
    (again (no_quiets own) sending) (next_frame (no_quiets own) sending.block sending.left)
    (λ e. inr (again_stays (no_quiets own) sending))
    (λ e. inl (if_no (λ (f : FrameShape). Ack0 ≡ f) (is_odd sending.block) Ack1 Ack0 e refl))
moves own sending Ack1 =
    if_both (λ (step : LineStep). (Ack1 ≡ reply_of sending.block) ⊎ StaysAt sending.block step.next) (is_odd sending.block)
    (next_frame (no_quiets own) sending.block sending.left) (again (no_quiets own) sending)
    (λ e. inl (if_yes (λ (f : FrameShape). Ack1 ≡ f) (is_odd sending.block) Ack1 Ack0 e refl))
    (λ e. inr (again_stays (no_quiets own) sending))
moves own sending Nak =
    if_both (λ (step : LineStep). (Nak ≡ reply_of sending.block) ⊎ StaysAt sending.block step.next) sending.asked
    (says Enq (Awaiting (no_quiets own) sending)) (again (no_quiets own) sending) (λ e. inr refl) (λ e. inr (again_stays (no_quiets own) sending))
moves own sending _ = inr refl

pub waits : (own : Common) (sending : Sending) → StaysAt sending.block (quiets (Awaiting own sending)).next
waits own sending =
    if_both (λ (step : LineStep). StaysAt sending.block step.next) (nat_lt (own.quiets + 1) MOST_QUIETS)
    (says Enq (Awaiting (one_quiet own) (record sending { asked = true }))) (ends Silent) (λ e. refl) (λ e. tt)
