-- The law of the line: the invariant of a wire, and what follows from it.
use Rattle.std.specs.Prelude.{◌≡◌, ℕ, Bool, List, [], ◌∷◌, Option, Some, None, true, false}
use Rattle.std.specs.List.{fold}
use Rattle.std.proofs.Common.{refl, sym, subst, inl, inr}
use Rattle.dsd_values.specs.declared.role.Role.{Role}
use Rattle.dsd_values.specs.declared.role.Role.TheVariants.{Supplier, Receiver}
use Rattle.dex_line.specs.FrameShapes.{FrameShape, Enq, Damaged, Bad}
use Rattle.dex_handshake.specs.LineTable.{quiets}
use Rattle.dex_handshake.specs.LineRun.{LineEnd, end_hears, end_quiets}
use Rattle.dex_handshake.specs.Wire.{Wire, WireEvent, Deliver, Lose, Damage, Spoil, QuietAt, Flight, toward, delivers, in_place, silences, wire_after, first_wire, wire_of}
use Rattle.dex_handshake.specs.LineLaw.{AreFit}
use Rattle.dex_handshake.proofs.Facing.{AtStart, Way, Still, Forth, Back, turned, forth, back, Enquiry, Holds, GoesOn, SenderWaits, HearerWaits, Delivered}
use Rattle.dex_handshake.proofs.Hearing.{delivered}
use Rattle.dex_handshake.proofs.Quiets.{sender_waited, hearer_waited, lost, damaged, garbled_way}

-- ---- either end may be the sender

flip_back : (bx by : List (List ℕ)) (x y : LineEnd) (say : Option FrameShape) → GoesOn by y bx x (forth say) → GoesOn bx x by y (back say)
flip_back bx by x y None (inl h) = inr h
flip_back bx by x y None (inr h) = inl h
flip_back bx by x y (Some frame) (inl h) = inr h
flip_back bx by x y (Some frame) (inr h) = inl h

flip_forth : (bx by : List (List ℕ)) (x y : LineEnd) (say : Option FrameShape) → GoesOn by y bx x (back say) → GoesOn bx x by y (forth say)
flip_forth bx by x y None (inl h) = inr h
flip_forth bx by x y None (inr h) = inl h
flip_forth bx by x y (Some frame) (inl h) = inr h
flip_forth bx by x y (Some frame) (inr h) = inl h

flip_delivered : (bx by : List (List ℕ)) (x y : LineEnd) (way : Way) → Delivered by y bx x (turned way) → Delivered bx x by y way
flip_delivered bx by x y Still d = tt
flip_delivered bx by x y (Forth frame) d = flip_back bx by x (end_hears y frame).end (end_hears y frame).say d
flip_delivered bx by x y (Back frame) d = flip_forth bx by (end_hears x frame).end y (end_hears x frame).say d

goes_delivered : (bx by : List (List ℕ)) (x y : LineEnd) (way : Way) → GoesOn bx x by y way → Delivered bx x by y way
goes_delivered bx by x y way (inl h) = delivered bx by x y way h
goes_delivered bx by x y way (inr h) = flip_delivered bx by x y way (delivered by bx y x (turned way) h)

goes_sender_waits : (bx by : List (List ℕ)) (x y : LineEnd) (way : Way) → GoesOn bx x by y way → SenderWaits bx x by y (quiets x.line)
goes_sender_waits bx by x y way (inl h) = sender_waited bx by x y way h
goes_sender_waits bx by x y way (inr h) = flip_forth bx by (end_quiets x).end y (quiets x.line).say (hearer_waited by bx y x (turned way) h)

goes_hearer_waits : (bx by : List (List ℕ)) (x y : LineEnd) (way : Way) → GoesOn bx x by y way → HearerWaits bx x by y (quiets y.line)
goes_hearer_waits bx by x y way (inl h) = hearer_waited bx by x y way h
goes_hearer_waits bx by x y way (inr h) = flip_back bx by x (end_quiets y).end (quiets y.line).say (sender_waited by bx y x (turned way) h)

goes_lost : (bx by : List (List ℕ)) (x y : LineEnd) (way : Way) → GoesOn bx x by y way → GoesOn bx x by y Still
goes_lost bx by x y way (inl h) = inl (lost bx by x y way h)
goes_lost bx by x y way (inr h) = inr (lost by bx y x (turned way) h)

turned_garbled : (d : Bool) (way : Way) → garbled_way d (turned way) ≡ turned (garbled_way d way)
turned_garbled d Still = refl
turned_garbled d (Forth frame) = refl
turned_garbled d (Back frame) = refl

goes_damaged : (d : Bool) (bx by : List (List ℕ)) (x y : LineEnd) (way : Way) → GoesOn bx x by y way → GoesOn bx x by y (garbled_way d way)
goes_damaged d bx by x y way (inl h) = inl (damaged d bx by x y way h)
goes_damaged d bx by x y way (inr h) = inr (subst (λ (w : Way). Holds by y bx x w) (turned_garbled d way) (damaged d by bx y x (turned way) h))

-- ---- wires

-- forth is toward the receiver
abbrev pub flight_of : Way → Option Flight
flight_of Still = None
flight_of (Forth frame) = Some (record { to = Receiver; frame = frame })
flight_of (Back frame) = Some (record { to = Supplier; frame = frame })

-- the two ends stand so, whichever sends; before what the receiver gives stands its header turn
abbrev pub Stands : Wire → Type 0
Stands wire = (way : Way) × (wire.flight ≡ flight_of way) × GoesOn [] wire.supplier ([] ∷ []) wire.receiver way

toward_receiver : (say : Option FrameShape) → toward Receiver say ≡ flight_of (forth say)
toward_receiver None = refl
toward_receiver (Some frame) = refl

toward_supplier : (say : Option FrameShape) → toward Supplier say ≡ flight_of (back say)
toward_supplier None = refl
toward_supplier (Some frame) = refl

stands_delivered : (wire : Wire) (way : Way) → wire.flight ≡ flight_of way → GoesOn [] wire.supplier ([] ∷ []) wire.receiver way → Stands (delivers wire (flight_of way))
stands_delivered wire Still e g = (Still, e, g)
stands_delivered wire (Forth frame) e g =
    (back (end_hears wire.receiver frame).say, toward_supplier (end_hears wire.receiver frame).say, goes_delivered [] ([] ∷ []) wire.supplier wire.receiver (Forth frame) g)
stands_delivered wire (Back frame) e g =
    (forth (end_hears wire.supplier frame).say, toward_receiver (end_hears wire.supplier frame).say, goes_delivered [] ([] ∷ []) wire.supplier wire.receiver (Back frame) g)

stands_damaged : (wire : Wire) (way : Way) → wire.flight ≡ flight_of way → GoesOn [] wire.supplier ([] ∷ []) wire.receiver way → Stands (in_place wire (flight_of way) Damaged)
stands_damaged wire Still e g = (Still, e, g)
stands_damaged wire (Forth frame) e g = (Forth Damaged, refl, goes_damaged true [] ([] ∷ []) wire.supplier wire.receiver (Forth frame) g)
stands_damaged wire (Back frame) e g = (Back Damaged, refl, goes_damaged true [] ([] ∷ []) wire.supplier wire.receiver (Back frame) g)

stands_spoiled : (wire : Wire) (way : Way) → wire.flight ≡ flight_of way → GoesOn [] wire.supplier ([] ∷ []) wire.receiver way → Stands (in_place wire (flight_of way) Bad)
stands_spoiled wire Still e g = (Still, e, g)
stands_spoiled wire (Forth frame) e g = (Forth Bad, refl, goes_damaged false [] ([] ∷ []) wire.supplier wire.receiver (Forth frame) g)
stands_spoiled wire (Back frame) e g = (Back Bad, refl, goes_damaged false [] ([] ∷ []) wire.supplier wire.receiver (Back frame) g)

stands_silent : (wire : Wire) (role : Role) (way : Way) → wire.flight ≡ flight_of way → GoesOn [] wire.supplier ([] ∷ []) wire.receiver way → Stands (silences wire (flight_of way) role)
stands_silent wire Supplier Still e g =
    (forth (quiets wire.supplier.line).say, toward_receiver (quiets wire.supplier.line).say, goes_sender_waits [] ([] ∷ []) wire.supplier wire.receiver Still g)
stands_silent wire Receiver Still e g =
    (back (quiets wire.receiver.line).say, toward_supplier (quiets wire.receiver.line).say, goes_hearer_waits [] ([] ∷ []) wire.supplier wire.receiver Still g)
stands_silent wire role (Forth frame) e g = (Forth frame, e, g)
stands_silent wire role (Back frame) e g = (Back frame, e, g)

pub stands_after : (wire : Wire) (event : WireEvent) → Stands wire → Stands (wire_after wire event)
stands_after wire Deliver s = subst (λ (f : Option Flight). Stands (delivers wire f)) (sym s.1) (stands_delivered wire s.0 s.1 s.2)
stands_after wire Lose s = (Still, refl, goes_lost [] ([] ∷ []) wire.supplier wire.receiver s.0 s.2)
stands_after wire Damage s = subst (λ (f : Option Flight). Stands (in_place wire f Damaged)) (sym s.1) (stands_damaged wire s.0 s.1 s.2)
stands_after wire Spoil s = subst (λ (f : Option Flight). Stands (in_place wire f Bad)) (sym s.1) (stands_spoiled wire s.0 s.1 s.2)
stands_after wire (QuietAt role) s = subst (λ (f : Option Flight). Stands (silences wire f role)) (sym s.1) (stands_silent wire role s.0 s.1 s.2)

pub stands_all : (wire : Wire) (events : List WireEvent) → Stands wire → Stands (fold wire_after wire events)
stands_all wire [] s = s
stands_all wire (event ∷ more) s = stands_all (wire_after wire event) more (stands_after wire event s)

pub stands_first : (own peer its theirs : List ℕ) (texts others : List (List ℕ)) → AreFit texts → AreFit others → Stands (first_wire own peer its theirs texts others)
stands_first own peer its theirs texts others fx fy = (
  Forth Enq,
  refl,
  inl (record {
    stand = AtStart _ _ _;
    flying = Enquiry;
    sender = refl;
    hearer = refl;
    flown = refl;
    flies = tt;
    facts = ([], (refl, refl, record { gave = refl; handed = refl; given = refl; handed_on = refl; fronts = refl; behinds = refl }), (tt, refl));
    mine = fx;
    other = fy;
  }),
)

-- every wire that can be reached stands so
pub stands : (own peer its theirs : List ℕ) (texts others : List (List ℕ)) (events : List WireEvent) → AreFit texts → AreFit others
    → Stands (wire_of own peer its theirs texts others events)
stands own peer its theirs texts others events fx fy =
    stands_all (first_wire own peer its theirs texts others) events (stands_first own peer its theirs texts others fx fy)
