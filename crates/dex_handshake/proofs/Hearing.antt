-- What is in flight is delivered: how the two then stand.
use Rattle.std.specs.Prelude.{◌≡◌, ℕ, ◌+◌, nat_lt, ◌==◌, Bool, true, false, if◌then◌else◌, List, [], ◌∷◌, ◌++◌, length, map, Option, Some, None}
use Rattle.std.proofs.Common.{refl, sym, ◌∙◌, ap, subst, inl, inr, append-nil, append_assoc}
use Rattle.std.specs.List.{concat}
use Rattle.dex_line.specs.BlockCut.{blocks_of, MarksLast}
use Rattle.dex_line.specs.TextUnits.{UnitsFit}
use Rattle.dex_line.specs.FrameShapes.{FrameShape, Enq, Ack0, Ack1, Nak, Eot, Header, Block, Damaged, Bad}
use Rattle.dex_line.proofs.Exists.{blocks_cut}
use Rattle.dex_line.proofs.Fewest.{blocks_joined}
use Rattle.dex_handshake.specs.LineTable.{StageName, FirstStage, SecondStage, TextStage, Partner, Common, Sending, Taking, Line, Ready, Bidding, Awaiting, SentAll, InText, Finished, Ended, reply_of, is_odd, nothing_taken, next_stage, last_reply, read_header, with_block, says, says_nothing, ends, no_quiets, next_frame, again, second_header, takes_header, takes_block, hears_block, hears_eot, in_text_hears, awaiting_hears, says_eot}
use Rattle.dex_handshake.specs.LineLaw.{AreFit}
use Rattle.dex_handshake.specs.LineRun.{load_of, frame_of_block, Turns, LineEnd, with_turn, with_text}
use Rattle.dex_handshake.specs.declared.session_end.SessionEnd.{SessionEnd}
use Rattle.dex_handshake.specs.declared.session_end.SessionEnd.TheVariants.{TextLimit, TriesSpent}
use Rattle.dex_handshake.proofs.Facing.{Stand, AtStart, Bids, Bid, Open, Done, Closed, Left, Rests, Gone, Way, Still, Forth, Back, back, Flying, Nothing, Enquiry, Carried, Closing, Reply, Refusal, Reminder, NoiseForth, NoiseBack, Stray, noise, way_of, Flies, FliesBids, FliesBid, FliesOpen, FliesDone, FliesClosed, FliesRests, FliesGone, Leaves, IsHeaderLoad, IsBid, IsOpen, IsDone, IsClosed, Owes, Owed, Past, TookLast, LastOf, InTurn, Facts, Holds, GoesOn, SenderHears, HearerHears, Delivered, sender_line, hearer_line}
use Rattle.dex_handshake.proofs.Turning.{if_both, if_yes, if_no, even_next, odd_next, not_below, below_next, below_one, eot_said, eot_heard, closed_bid, open_bid, closed_done, open_done, past_of, swap_past, owes_of, took_last}
use Rattle.dex_handshake.specs.declared.session_end.TheConstants.{MOST_TRIES}
use Rattle.dxs_envelope.specs.declared.outgoing.TheConstants.{TRANSMISSION_BYTES}

abbrev pub end_at : Line → Turns → LineEnd
end_at line turns = record { line = line; turns = turns }

pub leaves_blocks : (front : List ℕ) (blocks : List (List ℕ × Bool)) → MarksLast blocks
    → Leaves front (map frame_of_block blocks) (front ++ concat (map (λ block. block.0) blocks))
leaves_blocks front [] m = sym (append-nil front)
leaves_blocks front (block ∷ []) m = (m, ap (λ (l : List ℕ). front ++ l) (sym (append-nil block.0)))
leaves_blocks front (block ∷ next ∷ more) m = (
  m.0,
  subst (λ (t : List ℕ). Leaves (front ++ block.0) (map frame_of_block (next ∷ more)) t)
      (append_assoc front block.0 (concat (map (λ (b : List ℕ × Bool). b.0) (next ∷ more))))
      (leaves_blocks (front ++ block.0) (next ∷ more) m.1),
)

-- the load of a text is the text
pub leaves_of : (text : List ℕ) → UnitsFit text → Leaves [] (load_of text) text
leaves_of text fit =
    let cut = blocks_cut text fit in
    subst (λ (t : List ℕ). Leaves [] (load_of text) t) (blocks_joined text (blocks_of text) cut) (leaves_blocks [] (blocks_of text) cut.marks)

module _ (bx by : List (List ℕ)) (tx ty : Turns) (fx : AreFit tx.waiting) (fy : AreFit ty.waiting) where
  -- ---- ends that are gone

  pub gone : (e : SessionEnd) (line : Line) → Past bx tx by ty → LastOf line ty tx → Holds bx (end_at (Ended e) tx) by (end_at line ty) Still
  gone e line past last = record {
    stand = Gone e line;
    flying = Nothing;
    sender = refl;
    hearer = refl;
    flown = refl;
    flies = tt;
    facts = (past, last);
    mine = fx;
    other = fy;
  }

  pub hearer_gone : (e : SessionEnd) (line : Line) → Past bx tx by ty → LastOf line tx ty → Holds by (end_at (Ended e) ty) bx (end_at line tx) Still
  hearer_gone e line past last = record {
    stand = Gone e line;
    flying = Nothing;
    sender = refl;
    hearer = refl;
    flown = refl;
    flies = tt;
    facts = (swap_past bx by tx ty past, last);
    mine = fy;
    other = fx;
  }

  -- ---- the hearer keeps its turn

  -- it has taken as many frames as before
  pub stays : (x : LineEnd) (frame : FrameShape) (its after : Common) (taking : Taking) (say : Option FrameShape)
      → GoesOn bx x by (end_at (InText after taking) ty) (back say)
      → HearerHears bx x by (end_at (InText its taking) ty) frame (record { next = InText after taking; say = say })
  stays x frame its after taking say g =
      if_no (λ (took : List FrameShape). GoesOn bx x by (end_at (InText after taking) (record ty { took = took })) (back say))
      (nat_lt taking.taken taking.taken) (ty.took ++ frame ∷ []) ty.took (not_below taking.taken) g

  -- it has taken one more
  pub takes : (x : LineEnd) (frame : FrameShape) (its after : Common) (old new : Taking) (say : Option FrameShape)
      → nat_lt old.taken new.taken ≡ true
      → GoesOn bx x by (end_at (InText after new) (record ty { took = ty.took ++ frame ∷ [] })) (back say)
      → HearerHears bx x by (end_at (InText its old) ty) frame (record { next = InText after new; say = say })
  takes x frame its after old new say more g =
      if_yes (λ (took : List FrameShape). GoesOn bx x by (end_at (InText after new) (record ty { took = took })) (back say))
      (nat_lt old.taken new.taken) (ty.took ++ frame ∷ []) ty.took more g

  -- ---- the sender bids

  begins_gets : (own its : Common) (load : List FrameShape) (flying : Flying) → FliesBids flying
      → (text : List ℕ) → InTurn FirstStage FirstStage own its bx tx by ty text → IsBid FirstStage load text
      → Delivered bx (end_at (Bidding own load) tx) by (end_at (Ready its) ty) (way_of (AtStart own its load) flying)
  begins_gets own its load Nothing f text i b = tt
  begins_gets own its load Enquiry f text i b = inl (record {
    stand = Bid own (no_quiets its) load;
    flying = Reply;
    sender = refl;
    hearer = refl;
    flown = refl;
    flies = tt;
    facts = (FirstStage, text, i, b, refl);
    mine = fx;
    other = fy;
  })
  begins_gets own its load Reminder f text i b = inl (record {
    stand = AtStart (no_quiets own) its load;
    flying = Enquiry;
    sender = refl;
    hearer = refl;
    flown = refl;
    flies = tt;
    facts = (text, i, b);
    mine = fx;
    other = fy;
  })
  begins_gets own its load (NoiseForth true) f text i b = inl (record {
    stand = AtStart own (no_quiets its) load;
    flying = Nothing;
    sender = refl;
    hearer = refl;
    flown = refl;
    flies = tt;
    facts = (text, i, b);
    mine = fx;
    other = fy;
  })
  begins_gets own its load (NoiseForth false) f text i b = inl (record {
    stand = AtStart own (no_quiets its) load;
    flying = Nothing;
    sender = refl;
    hearer = refl;
    flown = refl;
    flies = tt;
    facts = (text, i, b);
    mine = fx;
    other = fy;
  })
  begins_gets own its load (NoiseBack true) f text i b = inl (record {
    stand = AtStart (no_quiets own) its load;
    flying = Nothing;
    sender = refl;
    hearer = refl;
    flown = refl;
    flies = tt;
    facts = (text, i, b);
    mine = fx;
    other = fy;
  })
  begins_gets own its load (NoiseBack false) f text i b = inl (record {
    stand = AtStart (no_quiets own) its load;
    flying = Nothing;
    sender = refl;
    hearer = refl;
    flown = refl;
    flies = tt;
    facts = (text, i, b);
    mine = fx;
    other = fy;
  })
  begins_gets own its load Carried f text i b = absurd f
  begins_gets own its load Closing f text i b = absurd f
  begins_gets own its load Reply f text i b = absurd f
  begins_gets own its load Refusal f text i b = absurd f
  begins_gets own its load (Stray frame) f text i b = absurd f

  bids_gets : (own its : Common) (load : List FrameShape) (flying : Flying) → FliesBids flying
      → (stage : StageName) (text : List ℕ) → InTurn (next_stage stage) stage own its bx tx by ty text → IsBid (next_stage stage) load text → TookLast ty tx
      → Delivered bx (end_at (Bidding own load) tx) by (end_at (SentAll its) ty) (way_of (Bids own its load) flying)
  bids_gets own its load Nothing f stage text i b t = tt
  bids_gets own its load Enquiry f stage text i b t = inl (record {
    stand = Bid own (record its { stage = next_stage its.stage; quiets = 0 }) load;
    flying = Reply;
    sender = refl;
    hearer = refl;
    flown = refl;
    flies = tt;
    facts = (next_stage stage, text, (i.0, ap next_stage i.1, i.2), b, refl);
    mine = fx;
    other = fy;
  })
  bids_gets own its load Reminder f stage text i b t = inl (record {
    stand = Bids (no_quiets own) its load;
    flying = Enquiry;
    sender = refl;
    hearer = refl;
    flown = refl;
    flies = tt;
    facts = (stage, text, i, b, t);
    mine = fx;
    other = fy;
  })
  bids_gets own its load (NoiseForth true) f stage text i b t = inl (record {
    stand = Bids own (no_quiets its) load;
    flying = Nothing;
    sender = refl;
    hearer = refl;
    flown = refl;
    flies = tt;
    facts = (stage, text, i, b, t);
    mine = fx;
    other = fy;
  })
  bids_gets own its load (NoiseForth false) f stage text i b t = inl (record {
    stand = Bids own (no_quiets its) load;
    flying = Nothing;
    sender = refl;
    hearer = refl;
    flown = refl;
    flies = tt;
    facts = (stage, text, i, b, t);
    mine = fx;
    other = fy;
  })
  bids_gets own its load (NoiseBack true) f stage text i b t = inl (record {
    stand = Bids (no_quiets own) its load;
    flying = Nothing;
    sender = refl;
    hearer = refl;
    flown = refl;
    flies = tt;
    facts = (stage, text, i, b, t);
    mine = fx;
    other = fy;
  })
  bids_gets own its load (NoiseBack false) f stage text i b t = inl (record {
    stand = Bids (no_quiets own) its load;
    flying = Nothing;
    sender = refl;
    hearer = refl;
    flown = refl;
    flies = tt;
    facts = (stage, text, i, b, t);
    mine = fx;
    other = fy;
  })
  bids_gets own its load Carried f stage text i b t = absurd f
  bids_gets own its load Closing f stage text i b t = absurd f
  bids_gets own its load Reply f stage text i b t = absurd f
  bids_gets own its load Refusal f stage text i b t = absurd f
  bids_gets own its load (Stray frame) f stage text i b t = absurd f

  -- the Eot goes out, where all is taken
  closes : (line : Line) (frame : FrameShape) (own its : Common) (none : Bool) (taking : Taking) (stage : StageName) (text : List ℕ)
      → ((o : Common) → GoesOn bx (end_at (SentAll o) tx) by (end_at (InText its taking) ty) (Forth Eot)
      → SenderHears bx (end_at line tx) by (end_at (InText its taking) ty) frame (says Eot (SentAll o)))
      → ((e : SessionEnd) → GoesOn bx (end_at (Ended e) tx) by (end_at (InText its taking) ty) (Forth Eot)
      → SenderHears bx (end_at line tx) by (end_at (InText its taking) ty) frame (says Eot (Ended e)))
      → InTurn stage stage own its bx tx by ty text → IsClosed stage ty.took taking text
      → SenderHears bx (end_at line tx) by (end_at (InText its taking) ty) frame (says_eot own.stage own none)
  closes line frame own its none taking stage text on over i c =
      eot_said (SenderHears bx (end_at line tx) by (end_at (InText its taking) ty) frame) own none
      (λ o e. on o (inl (record {
        stand = Closed o its taking;
        flying = Closing;
        sender = refl;
        hearer = refl;
        flown = refl;
        flies = tt;
        facts = (stage, text, (e ∙ i.0, i.1, i.2), c);
        mine = fx;
        other = fy;
      })))
      (λ e. over e (inl (record {
        stand = Left e its taking;
        flying = Closing;
        sender = refl;
        hearer = refl;
        flown = refl;
        flies = tt;
        facts = (stage, text, (i.1, i.1, i.2), c);
        mine = fx;
        other = fy;
      })))

  -- a bid is answered: the first frame goes out, or the Eot where there is none
  bid_taken : (own its : Common) (load : List FrameShape) (stage : StageName) (text : List ℕ)
      → InTurn stage stage own its bx tx by ty text → IsBid stage load text → ty.took ≡ []
      → SenderHears bx (end_at (Bidding own load) tx) by (end_at (InText its nothing_taken) ty) Ack0 (next_frame (no_quiets own) 0 load)
  bid_taken own its [] stage text i b e =
      closes (Bidding own []) Ack0 (no_quiets own) its true nothing_taken stage text (λ o g. g) (λ o g. g) i (closed_bid stage ty.took text b e)
  bid_taken own its (frame ∷ more) stage text i b e = inl (record {
    stand = Open (no_quiets own) its (record { frame = frame; left = more; block = 1; tries = 1; asked = false }) nothing_taken;
    flying = Carried;
    sender = refl;
    hearer = refl;
    flown = refl;
    flies = tt;
    facts = (stage, text, i, refl, open_bid stage ty.took text frame more b e);
    mine = fx;
    other = fy;
  })

  -- the hearer stands as before, with this in flight
  bid_stays : (own its : Common) (load : List FrameShape) (flying : Flying) → FliesBid flying
      → (stage : StageName) (text : List ℕ) → InTurn stage stage own its bx tx by ty text → IsBid stage load text → ty.took ≡ []
      → GoesOn bx (end_at (Bidding own load) tx) by (end_at (InText its nothing_taken) ty) (way_of (Bid own its load) flying)
  bid_stays own its load flying f stage text i b e = inl (record {
    stand = Bid own its load;
    flying = flying;
    sender = refl;
    hearer = refl;
    flown = refl;
    flies = f;
    facts = (stage, text, i, b, e);
    mine = fx;
    other = fy;
  })

  bid_gets : (own its : Common) (load : List FrameShape) (flying : Flying) → FliesBid flying
      → (stage : StageName) (text : List ℕ) → InTurn stage stage own its bx tx by ty text → IsBid stage load text → ty.took ≡ []
      → Delivered bx (end_at (Bidding own load) tx) by (end_at (InText its nothing_taken) ty) (way_of (Bid own its load) flying)
  bid_gets own its load Nothing f stage text i b e = tt
  bid_gets own its load Enquiry f stage text i b e =
      stays (end_at (Bidding own load) tx) Enq its (no_quiets its) nothing_taken (Some Ack0) (bid_stays own (no_quiets its) load Reply tt stage text i b e)
  bid_gets own its load Reply f stage text i b e = bid_taken own its load stage text i b e
  bid_gets own its load Refusal f stage text i b e = bid_stays (no_quiets own) its load Nothing tt stage text i b e
  bid_gets own its load (NoiseForth true) f stage text i b e =
      stays (end_at (Bidding own load) tx) Damaged its (no_quiets its) nothing_taken (Some Nak) (bid_stays own (no_quiets its) load Refusal tt stage text i b e)
  bid_gets own its load (NoiseForth false) f stage text i b e =
      stays (end_at (Bidding own load) tx) Bad its (no_quiets its) nothing_taken None (bid_stays own (no_quiets its) load Nothing tt stage text i b e)
  bid_gets own its load (NoiseBack true) f stage text i b e = bid_stays (no_quiets own) its load Nothing tt stage text i b e
  bid_gets own its load (NoiseBack false) f stage text i b e = bid_stays (no_quiets own) its load Nothing tt stage text i b e
  bid_gets own its load Carried f stage text i b e = absurd f
  bid_gets own its load Closing f stage text i b e = absurd f
  bid_gets own its load Reminder f stage text i b e = absurd f
  bid_gets own its load (Stray frame) f stage text i b e = absurd f

  -- ---- a frame of the load

  open_on : (own its : Common) (sending : Sending) (taking : Taking) (flying : Flying) → FliesOpen flying
      → (stage : StageName) (text : List ℕ) → InTurn stage stage own its bx tx by ty text → taking.taken + 1 ≡ sending.block
      → IsOpen stage ty.took sending.frame sending.left sending.block taking text
      → GoesOn bx (end_at (Awaiting own sending) tx) by (end_at (InText its taking) ty) (way_of (Open own its sending taking) flying)
  open_on own its sending taking flying f stage text i n o = inl (record {
    stand = Open own its sending taking;
    flying = flying;
    sender = refl;
    hearer = refl;
    flown = refl;
    flies = f;
    facts = (stage, text, i, n, o);
    mine = fx;
    other = fy;
  })

  done_on : (own its : Common) (sending : Sending) (taking : Taking) (flying : Flying) → FliesDone sending.asked flying
      → (stage : StageName) (text : List ℕ) → InTurn stage stage own its bx tx by ty text → taking.taken ≡ sending.block
      → IsDone stage ty.took sending.left taking text
      → GoesOn bx (end_at (Awaiting own sending) tx) by (end_at (InText its taking) ty) (way_of (Done own its sending taking) flying)
  done_on own its sending taking flying f stage text i n d = inl (record {
    stand = Done own its sending taking;
    flying = flying;
    sender = refl;
    hearer = refl;
    flown = refl;
    flies = f;
    facts = (stage, text, i, n, d);
    mine = fx;
    other = fy;
  })

  -- it is said once more, or was said too often
  said_again : (heard : FrameShape) (own its : Common) (sending : Sending) (taking : Taking)
      → (stage : StageName) (text : List ℕ) → InTurn stage stage own its bx tx by ty text → taking.taken + 1 ≡ sending.block
      → IsOpen stage ty.took sending.frame sending.left sending.block taking text
      → SenderHears bx (end_at (Awaiting own sending) tx) by (end_at (InText its taking) ty) heard (again (no_quiets own) sending)
  said_again heard own its sending taking stage text i n o =
      if_both (SenderHears bx (end_at (Awaiting own sending) tx) by (end_at (InText its taking) ty) heard) (nat_lt sending.tries MOST_TRIES)
      (says sending.frame (Awaiting (no_quiets own) (record sending { tries = sending.tries + 1; asked = false }))) (ends (TriesSpent sending.block))
      (λ e. open_on (no_quiets own) its (record sending { tries = sending.tries + 1; asked = false }) taking Carried tt stage text i n o)
      (λ e. inl (gone (TriesSpent sending.block) (InText its taking) (past_of stage bx by tx ty text i.2) tt))

  -- the reply of the frames before it
  open_reply : (own its : Common) (sending : Sending) (taking : Taking)
      → (stage : StageName) (text : List ℕ) → InTurn stage stage own its bx tx by ty text → taking.taken + 1 ≡ sending.block
      → IsOpen stage ty.took sending.frame sending.left sending.block taking text
      → (odd : Bool) → is_odd taking.taken ≡ odd
      → SenderHears bx (end_at (Awaiting own sending) tx) by (end_at (InText its taking) ty) (if odd then Ack1 else Ack0)
      (awaiting_hears (no_quiets own) sending (if odd then Ack1 else Ack0))
  open_reply own its sending taking stage text i n o true e =
      if_no (SenderHears bx (end_at (Awaiting own sending) tx) by (end_at (InText its taking) ty) Ack1) (is_odd sending.block)
      (next_frame (no_quiets own) sending.block sending.left) (again (no_quiets own) sending) (even_next taking.taken sending.block n e)
      (said_again Ack1 own its sending taking stage text i n o)
  open_reply own its sending taking stage text i n o false e =
      if_yes (SenderHears bx (end_at (Awaiting own sending) tx) by (end_at (InText its taking) ty) Ack0) (is_odd sending.block)
      (again (no_quiets own) sending) (next_frame (no_quiets own) sending.block sending.left) (odd_next taking.taken sending.block n e)
      (said_again Ack0 own its sending taking stage text i n o)

  -- a header is heard, by what it says and by whether one was heard before
  open_header : (own its : Common) (sending : Sending) (taking : Taking) (content : List ℕ) (said before : Option Partner)
      → (stage : StageName) (text : List ℕ) → InTurn stage stage own its bx tx by ty text → taking.taken + 1 ≡ sending.block
      → IsOpen stage ty.took sending.frame sending.left sending.block taking text
      → sending.block ≡ 1 → IsDone stage (ty.took ++ Header content ∷ []) sending.left (record taking { taken = 1 }) text
      → HearerHears bx (end_at (Awaiting own sending) tx) by (end_at (InText its taking) ty) (Header content)
      (takes_header (no_quiets its) taking said before)
  open_header own its sending taking content None before stage text i n o one d =
      stays (end_at (Awaiting own sending) tx) (Header content) its (no_quiets its) taking None (open_on own (no_quiets its) sending taking Nothing tt stage text i n o)
  open_header own its sending taking content (Some partner) None stage text i n o one d =
      takes (end_at (Awaiting own sending) tx) (Header content) its (record its { partner = Some partner; quiets = 0 }) taking (record taking { taken = 1 }) (Some Ack1)
      (below_one taking.taken (n ∙ one))
      (inl (record {
        stand = Done own (record its { partner = Some partner; quiets = 0 }) sending (record taking { taken = 1 });
        flying = Reply;
        sender = refl;
        hearer = refl;
        flown = refl;
        flies = tt;
        facts = (stage, text, i, sym one, d);
        mine = fx;
        other = fy;
      }))
  open_header own its sending taking content (Some partner) (Some before) stage text i n o one d =
      stays (end_at (Awaiting own sending) tx) (Header content) its (no_quiets its) taking (Some (last_reply taking)) (open_on own (no_quiets its) sending taking Reply tt stage text i n o)

  -- a block is heard
  open_block : (own its : Common) (sending : Sending) (taking : Taking) (last : Bool) (piece : List ℕ)
      → (text : List ℕ) → InTurn TextStage TextStage own its bx tx by ty text → taking.taken + 1 ≡ sending.block
      → sending.frame ≡ Block last piece
      → IsOpen TextStage ty.took (Block last piece) sending.left sending.block taking text
      → HearerHears bx (end_at (Awaiting own sending) tx) by (end_at (InText its taking) ty) (Block last piece)
      (takes_block (no_quiets its) taking last piece)
  open_block own its sending taking last [] text i n e o =
      stays (end_at (Awaiting own sending) tx) (Block last []) its (no_quiets its) taking None
      (open_on own (no_quiets its) sending taking Nothing tt TextStage text i n (subst (λ (f : FrameShape). IsOpen TextStage ty.took f sending.left sending.block taking text) (sym e) o))
  open_block own its sending taking last (b ∷ more) text i n e o =
      if_no (HearerHears bx (end_at (Awaiting own sending) tx) by (end_at (InText its taking) ty) (Block last (b ∷ more))) taking.whole _ _ o.0
      (if_both (HearerHears bx (end_at (Awaiting own sending) tx) by (end_at (InText its taking) ty) (Block last (b ∷ more)))
      (nat_lt TRANSMISSION_BYTES (length taking.text + length (b ∷ more))) _ _
      (λ z. inr (hearer_gone TextLimit (Awaiting own sending) (past_of TextStage bx by tx ty text i.2) tt))
      (λ z. takes (end_at (Awaiting own sending) tx) (Block last (b ∷ more)) its (no_quiets its) taking (with_block taking last (b ∷ more)) (Some (reply_of (taking.taken + 1)))
      (below_next taking.taken)
      (inl (record {
        stand = Done own (no_quiets its) sending (with_block taking last (b ∷ more));
        flying = Reply;
        sender = refl;
        hearer = refl;
        flown = refl;
        flies = tt;
        facts = (TextStage, text, i, n, (o.1.0, o.1.1, append_assoc ty.took (Block last (b ∷ more) ∷ []) sending.left ∙ o.2));
        mine = fx;
        other = fy;
      }))))

  -- the frame is heard
  open_carried : (own its : Common) (frame : FrameShape) (left : List FrameShape) (block tries : ℕ) (asked : Bool) (taking : Taking)
      → (stage : StageName) (text : List ℕ) → InTurn stage stage own its bx tx by ty text → taking.taken + 1 ≡ block
      → IsOpen stage ty.took frame left block taking text
      → HearerHears bx (end_at (Awaiting own (record { frame = frame; left = left; block = block; tries = tries; asked = asked })) tx) by (end_at (InText its taking) ty)
      frame (in_text_hears (no_quiets its) taking frame)
  open_carried own its (Header content) [] block tries asked taking FirstStage text i n o =
      open_header own its (record { frame = Header content; left = []; block = block; tries = tries; asked = asked }) taking content
      (read_header its.stage content) its.partner FirstStage text i n o o.1 (refl, o.2)
  open_carried own its (Header content) (next ∷ more) block tries asked taking FirstStage text i n o = absurd o.0
  open_carried own its _ left block tries asked taking FirstStage text i n o = absurd o.0
  open_carried own its (Header content) [] block tries asked taking SecondStage text i n o =
      open_header own its (record { frame = Header content; left = []; block = block; tries = tries; asked = asked }) taking content
      (read_header its.stage content) its.partner SecondStage text i n o o.1 (refl, o.2)
  open_carried own its (Header content) (next ∷ more) block tries asked taking SecondStage text i n o = absurd o.0
  open_carried own its _ left block tries asked taking SecondStage text i n o = absurd o.0
  open_carried own its (Block last piece) left block tries asked taking TextStage text i n o =
      subst (λ (s : StageName). HearerHears bx (end_at (Awaiting own (record { frame = Block last piece; left = left; block = block; tries = tries; asked = asked })) tx) by
      (end_at (InText its taking) ty) (Block last piece) (hears_block s (no_quiets its) taking last piece)) (sym i.1)
      (open_block own its (record { frame = Block last piece; left = left; block = block; tries = tries; asked = asked }) taking last piece text i n refl o)
  open_carried own its _ left block tries asked taking TextStage text i n o = absurd o.1

  open_gets : (own its : Common) (sending : Sending) (taking : Taking) (flying : Flying) → FliesOpen flying
      → (stage : StageName) (text : List ℕ) → InTurn stage stage own its bx tx by ty text → taking.taken + 1 ≡ sending.block
      → IsOpen stage ty.took sending.frame sending.left sending.block taking text
      → Delivered bx (end_at (Awaiting own sending) tx) by (end_at (InText its taking) ty) (way_of (Open own its sending taking) flying)
  open_gets own its sending taking Nothing f stage text i n o = tt
  open_gets own its sending taking Enquiry f stage text i n o =
      stays (end_at (Awaiting own sending) tx) Enq its (no_quiets its) taking (Some (last_reply taking)) (open_on own (no_quiets its) sending taking Reply tt stage text i n o)
  open_gets own its sending taking Carried f stage text i n o =
      open_carried own its sending.frame sending.left sending.block sending.tries sending.asked taking stage text i n o
  open_gets own its sending taking Reply f stage text i n o = open_reply own its sending taking stage text i n o (is_odd taking.taken) refl
  open_gets own its sending taking Refusal f stage text i n o =
      if_both (SenderHears bx (end_at (Awaiting own sending) tx) by (end_at (InText its taking) ty) Nak) sending.asked
      (says Enq (Awaiting (no_quiets own) sending)) (again (no_quiets own) sending)
      (λ e. open_on (no_quiets own) its sending taking Enquiry tt stage text i n o)
      (λ e. said_again Nak own its sending taking stage text i n o)
  open_gets own its sending taking (NoiseForth true) f stage text i n o =
      stays (end_at (Awaiting own sending) tx) Damaged its (no_quiets its) taking (Some Nak) (open_on own (no_quiets its) sending taking Refusal tt stage text i n o)
  open_gets own its sending taking (NoiseForth false) f stage text i n o =
      stays (end_at (Awaiting own sending) tx) Bad its (no_quiets its) taking None (open_on own (no_quiets its) sending taking Nothing tt stage text i n o)
  open_gets own its sending taking (NoiseBack true) f stage text i n o = open_on (no_quiets own) its sending taking Nothing tt stage text i n o
  open_gets own its sending taking (NoiseBack false) f stage text i n o = open_on (no_quiets own) its sending taking Nothing tt stage text i n o
  open_gets own its sending taking Closing f stage text i n o = absurd f
  open_gets own its sending taking Reminder f stage text i n o = absurd f
  open_gets own its sending taking (Stray frame) f stage text i n o = absurd f

  -- ---- a frame that is taken

  done_next : (heard : FrameShape) (own its : Common) (frame : FrameShape) (left : List FrameShape) (block tries : ℕ) (asked : Bool) (taking : Taking)
      → (stage : StageName) (text : List ℕ) → InTurn stage stage own its bx tx by ty text → taking.taken ≡ block
      → IsDone stage ty.took left taking text
      → SenderHears bx (end_at (Awaiting own (record { frame = frame; left = left; block = block; tries = tries; asked = asked })) tx) by (end_at (InText its taking) ty)
      heard (next_frame (no_quiets own) block left)
  done_next heard own its frame [] block tries asked taking stage text i n d =
      closes (Awaiting own (record { frame = frame; left = []; block = block; tries = tries; asked = asked })) heard (no_quiets own) its (block == 0) taking stage text
      (λ o g. g) (λ o g. g) i (closed_done stage ty.took taking text d)
  done_next heard own its frame (next ∷ more) block tries asked taking stage text i n d =
      open_on (no_quiets own) its (record { frame = next; left = more; block = block + 1; tries = 1; asked = false }) taking Carried tt stage text i
      (ap (λ (k : ℕ). k + 1) n) (open_done stage ty.took next more (block + 1) taking text d)

  done_reply : (own its : Common) (sending : Sending) (taking : Taking)
      → (stage : StageName) (text : List ℕ) → InTurn stage stage own its bx tx by ty text → taking.taken ≡ sending.block
      → IsDone stage ty.took sending.left taking text
      → (odd : Bool) → is_odd taking.taken ≡ odd
      → SenderHears bx (end_at (Awaiting own sending) tx) by (end_at (InText its taking) ty) (if odd then Ack1 else Ack0)
      (awaiting_hears (no_quiets own) sending (if odd then Ack1 else Ack0))
  done_reply own its sending taking stage text i n d true e =
      if_yes (SenderHears bx (end_at (Awaiting own sending) tx) by (end_at (InText its taking) ty) Ack1) (is_odd sending.block)
      (next_frame (no_quiets own) sending.block sending.left) (again (no_quiets own) sending) (sym (ap (λ (k : ℕ). is_odd k) n) ∙ e)
      (done_next Ack1 own its sending.frame sending.left sending.block sending.tries sending.asked taking stage text i n d)
  done_reply own its sending taking stage text i n d false e =
      if_no (SenderHears bx (end_at (Awaiting own sending) tx) by (end_at (InText its taking) ty) Ack0) (is_odd sending.block)
      (again (no_quiets own) sending) (next_frame (no_quiets own) sending.block sending.left) (sym (ap (λ (k : ℕ). is_odd k) n) ∙ e)
      (done_next Ack0 own its sending.frame sending.left sending.block sending.tries sending.asked taking stage text i n d)

  done_gets : (own its : Common) (sending : Sending) (taking : Taking) (flying : Flying) → FliesDone sending.asked flying
      → (stage : StageName) (text : List ℕ) → InTurn stage stage own its bx tx by ty text → taking.taken ≡ sending.block
      → IsDone stage ty.took sending.left taking text
      → Delivered bx (end_at (Awaiting own sending) tx) by (end_at (InText its taking) ty) (way_of (Done own its sending taking) flying)
  done_gets own its sending taking Nothing f stage text i n d = tt
  done_gets own its sending taking Enquiry f stage text i n d =
      stays (end_at (Awaiting own sending) tx) Enq its (no_quiets its) taking (Some (last_reply taking)) (done_on own (no_quiets its) sending taking Reply tt stage text i n d)
  done_gets own its sending taking Reply f stage text i n d = done_reply own its sending taking stage text i n d (is_odd taking.taken) refl
  done_gets own its sending taking Refusal f stage text i n d =
      if_yes (SenderHears bx (end_at (Awaiting own sending) tx) by (end_at (InText its taking) ty) Nak) sending.asked
      (says Enq (Awaiting (no_quiets own) sending)) (again (no_quiets own) sending) f
      (done_on (no_quiets own) its sending taking Enquiry f stage text i n d)
  done_gets own its sending taking (NoiseForth true) f stage text i n d =
      stays (end_at (Awaiting own sending) tx) Damaged its (no_quiets its) taking (Some Nak) (done_on own (no_quiets its) sending taking Refusal f stage text i n d)
  done_gets own its sending taking (NoiseForth false) f stage text i n d =
      stays (end_at (Awaiting own sending) tx) Bad its (no_quiets its) taking None (done_on own (no_quiets its) sending taking Nothing tt stage text i n d)
  done_gets own its sending taking (NoiseBack true) f stage text i n d = done_on (no_quiets own) its sending taking Nothing tt stage text i n d
  done_gets own its sending taking (NoiseBack false) f stage text i n d = done_on (no_quiets own) its sending taking Nothing tt stage text i n d
  done_gets own its sending taking Carried f stage text i n d = absurd f
  done_gets own its sending taking Closing f stage text i n d = absurd f
  done_gets own its sending taking Reminder f stage text i n d = absurd f
  done_gets own its sending taking (Stray frame) f stage text i n d = absurd f

  -- ---- all is taken

  closed_on : (own its : Common) (taking : Taking) (flying : Flying) → FliesClosed flying
      → (stage : StageName) (text : List ℕ) → InTurn stage stage own its bx tx by ty text → IsClosed stage ty.took taking text
      → GoesOn bx (end_at (SentAll own) tx) by (end_at (InText its taking) ty) (way_of (Closed own its taking) flying)
  closed_on own its taking flying f stage text i c = inl (record {
    stand = Closed own its taking;
    flying = flying;
    sender = refl;
    hearer = refl;
    flown = refl;
    flies = f;
    facts = (stage, text, i, c);
    mine = fx;
    other = fy;
  })

  left_on : (e : SessionEnd) (its : Common) (taking : Taking) (flying : Flying) → FliesClosed flying
      → (stage : StageName) (text : List ℕ) → InTurn stage stage its its bx tx by ty text → IsClosed stage ty.took taking text
      → GoesOn bx (end_at (Ended e) tx) by (end_at (InText its taking) ty) (way_of (Left e its taking) flying)
  left_on e its taking flying f stage text i c = inl (record {
    stand = Left e its taking;
    flying = flying;
    sender = refl;
    hearer = refl;
    flown = refl;
    flies = f;
    facts = (stage, text, i, c);
    mine = fx;
    other = fy;
  })

  -- the turns where the hearer gives this text
  owed_next : (stage : StageName) (taking : Taking) (text heard given : List ℕ) → next_stage stage ≡ TextStage → Owed stage bx tx by ty text → IsClosed stage ty.took taking text → heard ≡ text
      → Owes by (ty.given ++ given ∷ []) (ty.handed ++ heard ∷ []) bx tx.given tx.handed given
  owed_next stage taking text heard given e o c h =
      let owes : Owes bx tx.given tx.handed by ty.given ty.handed text = owes_of stage bx by tx ty ty.took taking text e o c in
      record {
        this = sym (append_assoc by ty.given (given ∷ [])) ∙ ap (λ (l : List (List ℕ)). l ++ given ∷ []) owes.others;
        others = owes.this ∙ ap (λ (w : List ℕ). ty.handed ++ w ∷ []) (sym h);
      }

  -- the hearer has heard the turn, and gives its own where a text waits
  turns_on : (own o : Common) (heard : List ℕ) (stage : StageName) (taking : Taking) (text : List ℕ)
      → own.stage ≡ stage → Owed stage bx tx by ty text → IsClosed stage ty.took taking text
      → next_stage stage ≡ TextStage → o.stage ≡ TextStage → heard ≡ text
      → (waiting : List (List ℕ)) → ty.waiting ≡ waiting → AreFit waiting
      → GoesOn bx (end_at (SentAll own) tx) by (with_turn ty (says_nothing (Finished o heard)) (Finished o heard) waiting).end (back (with_turn ty (says_nothing (Finished o heard)) (Finished o heard) waiting).say)
  turns_on own o heard stage taking text s w c e t h [] is fit = inl (record {
    stand = Rests own o heard;
    flying = Nothing;
    sender = refl;
    hearer = refl;
    flown = refl;
    flies = tt;
    facts = (past_of stage bx by tx ty text w, took_last stage bx by tx ty taking text w c, is);
    mine = fx;
    other = fy;
  })
  turns_on own o heard stage taking text s w c e t h (given ∷ more) is fit = inr (record {
    stand = Bids o own (load_of given);
    flying = Enquiry;
    sender = refl;
    hearer = refl;
    flown = refl;
    flies = tt;
    facts = (
      stage,
      given,
      (t ∙ sym e, s, subst (λ (k : StageName). Owed k by (with_text ty heard given more) bx tx given) (sym e) (owed_next stage taking text heard given e w c h, (ty.given, refl))),
      subst (λ (k : StageName). IsBid k (load_of given) given) (sym e) (leaves_of given fit.0, refl),
      took_last stage bx by tx ty taking text w c,
    );
    mine = fit.1;
    other = fx;
  })

  -- the receiver bids its header
  first_bids : (own its : Common) (load : List FrameShape) (stage : StageName) (text : List ℕ) → stage ≡ FirstStage → its.stage ≡ SecondStage → own.stage ≡ stage
      → Owed stage bx tx by ty text → IsHeaderLoad load
      → GoesOn bx (end_at (SentAll own) tx) by (end_at (Bidding its load) ty) (Back Enq)
  first_bids own its load FirstStage text e t s w h = inr (record {
    stand = Bids its own load;
    flying = Enquiry;
    sender = refl;
    hearer = refl;
    flown = refl;
    flies = tt;
    facts = (FirstStage, [], (t, s, record { gave = w.given; handed = w.handed_on; given = w.gave; handed_on = w.handed; fronts = w.behinds; behinds = w.fronts }), (h, refl), inl w.gave);
    mine = fy;
    other = fx;
  })
  first_bids own its load SecondStage text e t s w h = absurd (let no_such : ⊥ = let f : SecondStage ≡ FirstStage = e in cc in no_such)
  first_bids own its load TextStage text e t s w h = absurd (let no_such : ⊥ = let f : TextStage ≡ FirstStage = e in cc in no_such)

  closed_over : (own its : Common) (taking : Taking)
      → (stage : StageName) (text : List ℕ) → InTurn stage stage own its bx tx by ty text → IsClosed stage ty.took taking text
      → HearerHears bx (end_at (SentAll own) tx) by (end_at (InText its taking) ty) Eot (hears_eot its.stage (no_quiets its) taking)
  closed_over own its taking stage text i c =
      subst (λ (s : StageName). HearerHears bx (end_at (SentAll own) tx) by (end_at (InText its taking) ty) Eot (hears_eot s (no_quiets its) taking)) (sym i.1)
      (eot_heard (HearerHears bx (end_at (SentAll own) tx) by (end_at (InText its taking) ty) Eot) (no_quiets its) taking ty.took text stage i.1 c
      (stays (end_at (SentAll own) tx) Eot its (no_quiets its) taking None (closed_on own (no_quiets its) taking Nothing tt stage text i c))
      (λ e. inr (hearer_gone e (SentAll own) (past_of stage bx by tx ty text i.2) (took_last stage bx by tx ty taking text i.2 c)))
      (λ partner e. first_bids own (record its { stage = SecondStage; quiets = 0 }) (second_header (no_quiets its) partner ∷ []) stage text e refl i.0 i.2 tt)
      (λ o heard e t h. turns_on own o heard stage taking text i.0 i.2 c e t h ty.waiting refl fy))

  closed_gets : (own its : Common) (taking : Taking) (flying : Flying) → FliesClosed flying
      → (stage : StageName) (text : List ℕ) → InTurn stage stage own its bx tx by ty text → IsClosed stage ty.took taking text
      → Delivered bx (end_at (SentAll own) tx) by (end_at (InText its taking) ty) (way_of (Closed own its taking) flying)
  closed_gets own its taking Nothing f stage text i c = tt
  closed_gets own its taking Closing f stage text i c = closed_over own its taking stage text i c
  closed_gets own its taking Refusal f stage text i c = closed_on (no_quiets own) its taking Nothing tt stage text i c
  closed_gets own its taking (NoiseForth true) f stage text i c =
      stays (end_at (SentAll own) tx) Damaged its (no_quiets its) taking (Some Nak) (closed_on own (no_quiets its) taking Refusal tt stage text i c)
  closed_gets own its taking (NoiseForth false) f stage text i c =
      stays (end_at (SentAll own) tx) Bad its (no_quiets its) taking None (closed_on own (no_quiets its) taking Nothing tt stage text i c)
  closed_gets own its taking (NoiseBack true) f stage text i c = closed_on (no_quiets own) its taking Nothing tt stage text i c
  closed_gets own its taking (NoiseBack false) f stage text i c = closed_on (no_quiets own) its taking Nothing tt stage text i c
  closed_gets own its taking Enquiry f stage text i c = absurd f
  closed_gets own its taking Carried f stage text i c = absurd f
  closed_gets own its taking Reply f stage text i c = absurd f
  closed_gets own its taking Reminder f stage text i c = absurd f
  closed_gets own its taking (Stray frame) f stage text i c = absurd f

  -- ---- the sender has ended as it said the Eot

  -- what the hearer then says is heard no more
  pub stray : (e : SessionEnd) (line : Line) (say : FrameShape) → Past bx tx by ty → LastOf line ty tx → GoesOn bx (end_at (Ended e) tx) by (end_at line ty) (Back say)
  stray e line say past last = inl (record {
    stand = Gone e line;
    flying = Stray say;
    sender = refl;
    hearer = refl;
    flown = refl;
    flies = tt;
    facts = (past, last);
    mine = fx;
    other = fy;
  })

  left_turns_on : (e : SessionEnd) (o : Common) (heard : List ℕ) (stage : StageName) (taking : Taking) (text : List ℕ)
      → Owed stage bx tx by ty text → IsClosed stage ty.took taking text → next_stage stage ≡ TextStage → heard ≡ text
      → (waiting : List (List ℕ)) → ty.waiting ≡ waiting → AreFit waiting
      → GoesOn bx (end_at (Ended e) tx) by (with_turn ty (says_nothing (Finished o heard)) (Finished o heard) waiting).end (back (with_turn ty (says_nothing (Finished o heard)) (Finished o heard) waiting).say)
  left_turns_on e o heard stage taking text w c n h [] is fit = inl (gone e (Finished o heard) (past_of stage bx by tx ty text w) tt)
  left_turns_on e o heard stage taking text w c n h (given ∷ more) is fit =
      let owes : Owes by (ty.given ++ given ∷ []) (ty.handed ++ heard ∷ []) bx tx.given tx.handed given = owed_next stage taking text heard given n w c h in
      inl (record {
        stand = Gone e (Bidding o (load_of given));
        flying = Stray Enq;
        sender = refl;
        hearer = refl;
        flown = refl;
        flies = tt;
        facts = (
          record {
            mine = (given ∷ [], owes.this);
            its = ([], owes.others ∙ sym (append-nil (ty.handed ++ heard ∷ [])));
          },
          tt,
        );
        mine = fx;
        other = fit.1;
      })

  left_over : (e : SessionEnd) (its : Common) (taking : Taking)
      → (stage : StageName) (text : List ℕ) → InTurn stage stage its its bx tx by ty text → IsClosed stage ty.took taking text
      → HearerHears bx (end_at (Ended e) tx) by (end_at (InText its taking) ty) Eot (hears_eot its.stage (no_quiets its) taking)
  left_over e its taking stage text i c =
      subst (λ (s : StageName). HearerHears bx (end_at (Ended e) tx) by (end_at (InText its taking) ty) Eot (hears_eot s (no_quiets its) taking)) (sym i.1)
      (eot_heard (HearerHears bx (end_at (Ended e) tx) by (end_at (InText its taking) ty) Eot) (no_quiets its) taking ty.took text stage i.1 c
      (stays (end_at (Ended e) tx) Eot its (no_quiets its) taking None (left_on e (no_quiets its) taking Nothing tt stage text i c))
      (λ z. inl (gone e (Ended z) (past_of stage bx by tx ty text i.2) tt))
      (λ partner z. stray e (Bidding (record its { stage = SecondStage; quiets = 0 }) (second_header (no_quiets its) partner ∷ [])) Enq (past_of stage bx by tx ty text i.2) tt)
      (λ o heard n t h. left_turns_on e o heard stage taking text i.2 c n h ty.waiting refl fy))

  left_gets : (e : SessionEnd) (its : Common) (taking : Taking) (flying : Flying) → FliesClosed flying
      → (stage : StageName) (text : List ℕ) → InTurn stage stage its its bx tx by ty text → IsClosed stage ty.took taking text
      → Delivered bx (end_at (Ended e) tx) by (end_at (InText its taking) ty) (way_of (Left e its taking) flying)
  left_gets e its taking Nothing f stage text i c = tt
  left_gets e its taking Closing f stage text i c = left_over e its taking stage text i c
  left_gets e its taking Refusal f stage text i c = left_on e its taking Nothing tt stage text i c
  left_gets e its taking (NoiseForth true) f stage text i c =
      stays (end_at (Ended e) tx) Damaged its (no_quiets its) taking (Some Nak) (left_on e (no_quiets its) taking Refusal tt stage text i c)
  left_gets e its taking (NoiseForth false) f stage text i c =
      stays (end_at (Ended e) tx) Bad its (no_quiets its) taking None (left_on e (no_quiets its) taking Nothing tt stage text i c)
  left_gets e its taking (NoiseBack damaged) f stage text i c = left_on e its taking Nothing tt stage text i c
  left_gets e its taking Enquiry f stage text i c = absurd f
  left_gets e its taking Carried f stage text i c = absurd f
  left_gets e its taking Reply f stage text i c = absurd f
  left_gets e its taking Reminder f stage text i c = absurd f
  left_gets e its taking (Stray frame) f stage text i c = absurd f

  -- ---- the hearer has no text to give, or an end is gone

  rests_on : (own its : Common) (text : List ℕ) (flying : Flying) → FliesRests flying → Past bx tx by ty → TookLast tx ty → ty.waiting ≡ []
      → GoesOn bx (end_at (SentAll own) tx) by (end_at (Finished its text) ty) (way_of (Rests own its text) flying)
  rests_on own its text flying f p t w = inl (record {
    stand = Rests own its text;
    flying = flying;
    sender = refl;
    hearer = refl;
    flown = refl;
    flies = f;
    facts = (p, t, w);
    mine = fx;
    other = fy;
  })

  rests_hears : (own its : Common) (text : List ℕ) (frame : FrameShape) → Past bx tx by ty → TookLast tx ty → ty.waiting ≡ []
      → HearerHears bx (end_at (SentAll own) tx) by (end_at (Finished its text) ty) frame (says_nothing (Finished (no_quiets its) text))
  rests_hears own its text frame p t w =
      subst (λ (l : List (List ℕ)). GoesOn bx (end_at (SentAll own) tx) by (with_turn ty (says_nothing (Finished (no_quiets its) text)) (Finished (no_quiets its) text) l).end
      (back (with_turn ty (says_nothing (Finished (no_quiets its) text)) (Finished (no_quiets its) text) l).say)) (sym w)
      (rests_on own (no_quiets its) text Nothing tt p t w)

  rests_gets : (own its : Common) (text : List ℕ) (flying : Flying) → FliesRests flying → Past bx tx by ty → TookLast tx ty → ty.waiting ≡ []
      → Delivered bx (end_at (SentAll own) tx) by (end_at (Finished its text) ty) (way_of (Rests own its text) flying)
  rests_gets own its text Nothing f p t w = tt
  rests_gets own its text Closing f p t w = rests_hears own its text Eot p t w
  rests_gets own its text (NoiseForth damaged) f p t w = rests_hears own its text (noise damaged) p t w
  rests_gets own its text Enquiry f p t w = absurd f
  rests_gets own its text Carried f p t w = absurd f
  rests_gets own its text Reply f p t w = absurd f
  rests_gets own its text Refusal f p t w = absurd f
  rests_gets own its text Reminder f p t w = absurd f
  rests_gets own its text (NoiseBack damaged) f p t w = absurd f
  rests_gets own its text (Stray frame) f p t w = absurd f

  gone_gets : (e : SessionEnd) (line : Line) (flying : Flying) → FliesGone flying → Past bx tx by ty → LastOf line ty tx
      → Delivered bx (end_at (Ended e) tx) by (end_at line ty) (way_of (Gone e line) flying)
  gone_gets e line Nothing f p l = tt
  gone_gets e line (Stray frame) f p l = inl (gone e line p l)
  gone_gets e line Enquiry f p l = absurd f
  gone_gets e line Carried f p l = absurd f
  gone_gets e line Closing f p l = absurd f
  gone_gets e line Reply f p l = absurd f
  gone_gets e line Refusal f p l = absurd f
  gone_gets e line Reminder f p l = absurd f
  gone_gets e line (NoiseForth damaged) f p l = absurd f
  gone_gets e line (NoiseBack damaged) f p l = absurd f

  -- ---- all of them

  delivered_at : (stand : Stand) (flying : Flying) → Flies stand flying → Facts stand bx tx by ty
      → Delivered bx (end_at (sender_line stand) tx) by (end_at (hearer_line stand) ty) (way_of stand flying)
  delivered_at (AtStart own its load) flying f a = begins_gets own its load flying f a.0 a.1 a.2
  delivered_at (Bids own its load) flying f a = bids_gets own its load flying f a.0 a.1 a.2 a.3 a.4
  delivered_at (Bid own its load) flying f a = bid_gets own its load flying f a.0 a.1 a.2 a.3 a.4
  delivered_at (Open own its sending taking) flying f a = open_gets own its sending taking flying f a.0 a.1 a.2 a.3 a.4
  delivered_at (Done own its sending taking) flying f a = done_gets own its sending taking flying f a.0 a.1 a.2 a.3 a.4
  delivered_at (Closed own its taking) flying f a = closed_gets own its taking flying f a.0 a.1 a.2 a.3
  delivered_at (Left e its taking) flying f a = left_gets e its taking flying f a.0 a.1 a.2 a.3
  delivered_at (Rests own its text) flying f a = rests_gets own its text flying f a.0 a.1 a.2
  delivered_at (Gone e line) flying f a = gone_gets e line flying f a.0 a.1

-- where two ends stand so, they do behind a delivery
pub delivered : (bx by : List (List ℕ)) (x y : LineEnd) (way : Way) → Holds bx x by y way → Delivered bx x by y way
delivered bx by x y way h =
    subst (λ (w : Way). Delivered bx x by y w) (sym h.flown)
    (subst (λ (l : Line). Delivered bx (end_at l x.turns) by y (way_of h.stand h.flying)) (sym h.sender)
    (subst (λ (l : Line). Delivered bx (end_at (sender_line h.stand) x.turns) by (end_at l y.turns) (way_of h.stand h.flying)) (sym h.hearer)
    (delivered_at bx by x.turns y.turns h.mine h.other h.stand h.flying h.flies h.facts)))
