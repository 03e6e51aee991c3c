-- An end hears a Quiet, or what is in flight is lost or damaged: how the two then stand.
use Rattle.std.specs.Prelude.{◌≡◌, ℕ, ◌+◌, ◌%◌, ◌==◌, nat_lt, Bool, true, List}
use Rattle.std.proofs.Common.{refl, sym, ◌∙◌, ap, subst, inl, inr}
use Rattle.dex_line.specs.FrameShapes.{Enq, Eot}
use Rattle.dex_handshake.specs.LineTable.{FirstStage, Common, Line, Ready, Bidding, Awaiting, SentAll, InText, Finished, Ended, nothing_taken, next_stage, LineStep, says, says_nothing, ends, one_quiet, unless_silent, eot_again, quiets}
use Rattle.dex_handshake.specs.LineLaw.{AreFit}
use Rattle.dex_handshake.specs.LineRun.{Turns, LineEnd}
use Rattle.dex_handshake.specs.declared.session_end.SessionEnd.{SessionEnd}
use Rattle.dex_handshake.specs.declared.session_end.SessionEnd.TheVariants.{Silent}
use Rattle.dex_handshake.proofs.Facing.{Stand, AtStart, Bids, Bid, Open, Done, Closed, Left, Rests, Gone, Way, Still, Forth, Back, Flying, Nothing, Enquiry, Carried, Closing, Reply, Refusal, Reminder, NoiseForth, NoiseBack, Stray, noise, way_of, Flies, FliesBids, FliesBid, FliesOpen, FliesDone, FliesClosed, FliesRests, FliesGone, Past, LastOf, Facts, Holds, SenderWaits, HearerWaits, sender_line, hearer_line}
use Rattle.dex_handshake.proofs.Turning.{if_both, past_of, took_last}
use Rattle.dex_handshake.proofs.Hearing.{end_at, gone, hearer_gone, stray}
use Rattle.dex_handshake.specs.declared.session_end.TheConstants.{MOST_QUIETS}

module _ (bx by : List (List ℕ)) (tx ty : Turns) (fx : AreFit tx.waiting) (fy : AreFit ty.waiting) where
  -- the thirtieth Quiet ends it
  sender_quiet : (own : Common) (line its : Line) (step : LineStep) → Past bx tx by ty → LastOf its ty tx
      → SenderWaits bx (end_at line tx) by (end_at its ty) step
      → SenderWaits bx (end_at line tx) by (end_at its ty) (unless_silent own step)
  sender_quiet own line its step p l g =
      if_both (SenderWaits bx (end_at line tx) by (end_at its ty)) (nat_lt own.quiets MOST_QUIETS) step (ends Silent)
      (λ e. g) (λ e. inl (gone bx by tx ty fx fy Silent its p l))

  hearer_quiet : (its : Common) (line other : Line) (step : LineStep) → Past bx tx by ty → LastOf line tx ty
      → HearerWaits bx (end_at line tx) by (end_at other ty) step
      → HearerWaits bx (end_at line tx) by (end_at other ty) (unless_silent its step)
  hearer_quiet its line other step p l g =
      if_both (HearerWaits bx (end_at line tx) by (end_at other ty)) (nat_lt its.quiets MOST_QUIETS) step (ends Silent)
      (λ e. g) (λ e. inr (hearer_gone bx by tx ty fx fy Silent line p l))

  sender_waits : (stand : Stand) → Facts stand bx tx by ty → SenderWaits bx (end_at (sender_line stand) tx) by (end_at (hearer_line stand) ty) (quiets (sender_line stand))
  sender_waits (AtStart own its load) a =
      sender_quiet (one_quiet own) (Bidding own load) (Ready its) (says Enq (Bidding (one_quiet own) load)) (past_of FirstStage bx by tx ty a.0 a.1.2) tt (inl (record {
        stand = AtStart (one_quiet own) its load;
        flying = Enquiry;
        sender = refl;
        hearer = refl;
        flown = refl;
        flies = tt;
        facts = a;
        mine = fx;
        other = fy;
      }))
  sender_waits (Bids own its load) a =
      sender_quiet (one_quiet own) (Bidding own load) (SentAll its) (says Enq (Bidding (one_quiet own) load)) (past_of (next_stage a.0) bx by tx ty a.1 a.2.2) a.4 (inl (record {
        stand = Bids (one_quiet own) its load;
        flying = Enquiry;
        sender = refl;
        hearer = refl;
        flown = refl;
        flies = tt;
        facts = a;
        mine = fx;
        other = fy;
      }))
  sender_waits (Bid own its load) a =
      sender_quiet (one_quiet own) (Bidding own load) (InText its nothing_taken) (says Enq (Bidding (one_quiet own) load)) (past_of a.0 bx by tx ty a.1 a.2.2) tt (inl (record {
        stand = Bid (one_quiet own) its load;
        flying = Enquiry;
        sender = refl;
        hearer = refl;
        flown = refl;
        flies = tt;
        facts = a;
        mine = fx;
        other = fy;
      }))
  sender_waits (Open own its sending taking) a =
      sender_quiet (one_quiet own) (Awaiting own sending) (InText its taking) (says Enq (Awaiting (one_quiet own) (record sending { asked = true }))) (past_of a.0 bx by tx ty a.1 a.2.2) tt (inl (record {
        stand = Open (one_quiet own) its (record sending { asked = true }) taking;
        flying = Enquiry;
        sender = refl;
        hearer = refl;
        flown = refl;
        flies = tt;
        facts = a;
        mine = fx;
        other = fy;
      }))
  sender_waits (Done own its sending taking) a =
      sender_quiet (one_quiet own) (Awaiting own sending) (InText its taking) (says Enq (Awaiting (one_quiet own) (record sending { asked = true }))) (past_of a.0 bx by tx ty a.1 a.2.2) tt (inl (record {
        stand = Done (one_quiet own) its (record sending { asked = true }) taking;
        flying = Enquiry;
        sender = refl;
        hearer = refl;
        flown = refl;
        flies = refl;
        facts = a;
        mine = fx;
        other = fy;
      }))
  sender_waits (Closed own its taking) a =
      sender_quiet (one_quiet own) (SentAll own) (InText its taking) (eot_again (one_quiet own)) (past_of a.0 bx by tx ty a.1 a.2.2) tt
      (if_both (SenderWaits bx (end_at (SentAll own) tx) by (end_at (InText its taking) ty)) ((own.quiets + 1) % 3 == 0) (says Eot (SentAll (one_quiet own))) (says_nothing (SentAll (one_quiet own)))
      (λ e. inl (record {
        stand = Closed (one_quiet own) its taking;
        flying = Closing;
        sender = refl;
        hearer = refl;
        flown = refl;
        flies = tt;
        facts = a;
        mine = fx;
        other = fy;
      }))
      (λ e. inl (record {
        stand = Closed (one_quiet own) its taking;
        flying = Nothing;
        sender = refl;
        hearer = refl;
        flown = refl;
        flies = tt;
        facts = a;
        mine = fx;
        other = fy;
      })))
  sender_waits (Left e its taking) a = inl (record {
    stand = Left e its taking;
    flying = Nothing;
    sender = refl;
    hearer = refl;
    flown = refl;
    flies = tt;
    facts = a;
    mine = fx;
    other = fy;
  })
  sender_waits (Rests own its text) a =
      sender_quiet (one_quiet own) (SentAll own) (Finished its text) (eot_again (one_quiet own)) a.0 tt
      (if_both (SenderWaits bx (end_at (SentAll own) tx) by (end_at (Finished its text) ty)) ((own.quiets + 1) % 3 == 0) (says Eot (SentAll (one_quiet own))) (says_nothing (SentAll (one_quiet own)))
      (λ e. inl (record {
        stand = Rests (one_quiet own) its text;
        flying = Closing;
        sender = refl;
        hearer = refl;
        flown = refl;
        flies = tt;
        facts = a;
        mine = fx;
        other = fy;
      }))
      (λ e. inl (record {
        stand = Rests (one_quiet own) its text;
        flying = Nothing;
        sender = refl;
        hearer = refl;
        flown = refl;
        flies = tt;
        facts = a;
        mine = fx;
        other = fy;
      })))
  sender_waits (Gone e line) a = inl (gone bx by tx ty fx fy e line a.0 a.1)

  -- what an end says to one that is gone
  gone_quiet : (e : SessionEnd) (own : Common) (line : Line) (step : LineStep) → Past bx tx by ty
      → HearerWaits bx (end_at (Ended e) tx) by (end_at line ty) step
      → HearerWaits bx (end_at (Ended e) tx) by (end_at line ty) (unless_silent own step)
  gone_quiet e own line step p g =
      if_both (HearerWaits bx (end_at (Ended e) tx) by (end_at line ty)) (nat_lt own.quiets MOST_QUIETS) step (ends Silent)
      (λ z. g) (λ z. inl (gone bx by tx ty fx fy e (Ended Silent) p tt))

  gone_waits : (e : SessionEnd) (line : Line) → Past bx tx by ty → LastOf line ty tx → HearerWaits bx (end_at (Ended e) tx) by (end_at line ty) (quiets line)
  gone_waits e (Ready own) p l = gone_quiet e (one_quiet own) (Ready own) (says_nothing (Ready (one_quiet own))) p (inl (gone bx by tx ty fx fy e (Ready (one_quiet own)) p tt))
  gone_waits e (Bidding own load) p l = gone_quiet e (one_quiet own) (Bidding own load) (says Enq (Bidding (one_quiet own) load)) p (stray bx by tx ty fx fy e (Bidding (one_quiet own) load) Enq p tt)
  gone_waits e (Awaiting own sending) p l =
      gone_quiet e (one_quiet own) (Awaiting own sending) (says Enq (Awaiting (one_quiet own) (record sending { asked = true }))) p
      (stray bx by tx ty fx fy e (Awaiting (one_quiet own) (record sending { asked = true })) Enq p tt)
  gone_waits e (SentAll own) p l =
      gone_quiet e (one_quiet own) (SentAll own) (eot_again (one_quiet own)) p
      (if_both (HearerWaits bx (end_at (Ended e) tx) by (end_at (SentAll own) ty)) ((own.quiets + 1) % 3 == 0) (says Eot (SentAll (one_quiet own))) (says_nothing (SentAll (one_quiet own)))
      (λ z. stray bx by tx ty fx fy e (SentAll (one_quiet own)) Eot p l) (λ z. inl (gone bx by tx ty fx fy e (SentAll (one_quiet own)) p l)))
  gone_waits e (InText own taking) p l = gone_quiet e (one_quiet own) (InText own taking) (says_nothing (InText (one_quiet own) taking)) p (inl (gone bx by tx ty fx fy e (InText (one_quiet own) taking) p tt))
  gone_waits e (Finished own text) p l = gone_quiet e (one_quiet own) (Finished own text) (says_nothing (Finished (one_quiet own) text)) p (inl (gone bx by tx ty fx fy e (Finished (one_quiet own) text) p tt))
  gone_waits e (Ended z) p l = inl (gone bx by tx ty fx fy e (Ended z) p tt)

  hearer_waits : (stand : Stand) → Facts stand bx tx by ty → HearerWaits bx (end_at (sender_line stand) tx) by (end_at (hearer_line stand) ty) (quiets (hearer_line stand))
  hearer_waits (AtStart own its load) a =
      hearer_quiet (one_quiet its) (Bidding own load) (Ready its) (says_nothing (Ready (one_quiet its))) (past_of FirstStage bx by tx ty a.0 a.1.2) tt (inl (record {
        stand = AtStart own (one_quiet its) load;
        flying = Nothing;
        sender = refl;
        hearer = refl;
        flown = refl;
        flies = tt;
        facts = a;
        mine = fx;
        other = fy;
      }))
  hearer_waits (Bids own its load) a =
      hearer_quiet (one_quiet its) (Bidding own load) (SentAll its) (eot_again (one_quiet its)) (past_of (next_stage a.0) bx by tx ty a.1 a.2.2) tt
      (if_both (HearerWaits bx (end_at (Bidding own load) tx) by (end_at (SentAll its) ty)) ((its.quiets + 1) % 3 == 0) (says Eot (SentAll (one_quiet its))) (says_nothing (SentAll (one_quiet its)))
      (λ e. inl (record {
        stand = Bids own (one_quiet its) load;
        flying = Reminder;
        sender = refl;
        hearer = refl;
        flown = refl;
        flies = tt;
        facts = a;
        mine = fx;
        other = fy;
      }))
      (λ e. inl (record {
        stand = Bids own (one_quiet its) load;
        flying = Nothing;
        sender = refl;
        hearer = refl;
        flown = refl;
        flies = tt;
        facts = a;
        mine = fx;
        other = fy;
      })))
  hearer_waits (Bid own its load) a =
      hearer_quiet (one_quiet its) (Bidding own load) (InText its nothing_taken) (says_nothing (InText (one_quiet its) nothing_taken)) (past_of a.0 bx by tx ty a.1 a.2.2) tt (inl (record {
        stand = Bid own (one_quiet its) load;
        flying = Nothing;
        sender = refl;
        hearer = refl;
        flown = refl;
        flies = tt;
        facts = a;
        mine = fx;
        other = fy;
      }))
  hearer_waits (Open own its sending taking) a =
      hearer_quiet (one_quiet its) (Awaiting own sending) (InText its taking) (says_nothing (InText (one_quiet its) taking)) (past_of a.0 bx by tx ty a.1 a.2.2) tt (inl (record {
        stand = Open own (one_quiet its) sending taking;
        flying = Nothing;
        sender = refl;
        hearer = refl;
        flown = refl;
        flies = tt;
        facts = a;
        mine = fx;
        other = fy;
      }))
  hearer_waits (Done own its sending taking) a =
      hearer_quiet (one_quiet its) (Awaiting own sending) (InText its taking) (says_nothing (InText (one_quiet its) taking)) (past_of a.0 bx by tx ty a.1 a.2.2) tt (inl (record {
        stand = Done own (one_quiet its) sending taking;
        flying = Nothing;
        sender = refl;
        hearer = refl;
        flown = refl;
        flies = tt;
        facts = a;
        mine = fx;
        other = fy;
      }))
  hearer_waits (Closed own its taking) a =
      hearer_quiet (one_quiet its) (SentAll own) (InText its taking) (says_nothing (InText (one_quiet its) taking)) (past_of a.0 bx by tx ty a.1 a.2.2) (took_last a.0 bx by tx ty taking a.1 a.2.2 a.3) (inl (record {
        stand = Closed own (one_quiet its) taking;
        flying = Nothing;
        sender = refl;
        hearer = refl;
        flown = refl;
        flies = tt;
        facts = a;
        mine = fx;
        other = fy;
      }))
  hearer_waits (Left e its taking) a =
      hearer_quiet (one_quiet its) (Ended e) (InText its taking) (says_nothing (InText (one_quiet its) taking)) (past_of a.0 bx by tx ty a.1 a.2.2) tt (inl (record {
        stand = Left e (one_quiet its) taking;
        flying = Nothing;
        sender = refl;
        hearer = refl;
        flown = refl;
        flies = tt;
        facts = a;
        mine = fx;
        other = fy;
      }))
  hearer_waits (Rests own its text) a =
      hearer_quiet (one_quiet its) (SentAll own) (Finished its text) (says_nothing (Finished (one_quiet its) text)) a.0 a.1 (inl (record {
        stand = Rests own (one_quiet its) text;
        flying = Nothing;
        sender = refl;
        hearer = refl;
        flown = refl;
        flies = tt;
        facts = a;
        mine = fx;
        other = fy;
      }))
  hearer_waits (Gone e line) a = gone_waits e line a.0 a.1

pub sender_waited : (bx by : List (List ℕ)) (x y : LineEnd) (way : Way) → Holds bx x by y way → SenderWaits bx x by y (quiets x.line)
sender_waited bx by x y way h =
    subst (λ (l : Line). SenderWaits bx (end_at l x.turns) by y (quiets l)) (sym h.sender)
    (subst (λ (l : Line). SenderWaits bx (end_at (sender_line h.stand) x.turns) by (end_at l y.turns) (quiets (sender_line h.stand))) (sym h.hearer)
    (sender_waits bx by x.turns y.turns h.mine h.other h.stand h.facts))

pub hearer_waited : (bx by : List (List ℕ)) (x y : LineEnd) (way : Way) → Holds bx x by y way → HearerWaits bx x by y (quiets y.line)
hearer_waited bx by x y way h =
    subst (λ (l : Line). HearerWaits bx (end_at l x.turns) by y (quiets y.line)) (sym h.sender)
    (subst (λ (l : Line). HearerWaits bx (end_at (sender_line h.stand) x.turns) by (end_at l y.turns) (quiets l)) (sym h.hearer)
    (hearer_waits bx by x.turns y.turns h.mine h.other h.stand h.facts))

-- ---- losses and damage

nothing_flies : (stand : Stand) → Flies stand Nothing
nothing_flies (AtStart own its load) = tt
nothing_flies (Bids own its load) = tt
nothing_flies (Bid own its load) = tt
nothing_flies (Open own its sending taking) = tt
nothing_flies (Done own its sending taking) = tt
nothing_flies (Closed own its taking) = tt
nothing_flies (Left e its taking) = tt
nothing_flies (Rests own its text) = tt
nothing_flies (Gone e line) = tt

pub lost : (bx by : List (List ℕ)) (x y : LineEnd) (way : Way) → Holds bx x by y way → Holds bx x by y Still
lost bx by x y way h = record {
  stand = h.stand;
  flying = Nothing;
  sender = h.sender;
  hearer = h.hearer;
  flown = refl;
  flies = nothing_flies h.stand;
  facts = h.facts;
  mine = h.mine;
  other = h.other;
}

abbrev pub garbled_way : Bool → Way → Way
garbled_way damaged Still = Still
garbled_way damaged (Forth frame) = Forth (noise damaged)
garbled_way damaged (Back frame) = Back (noise damaged)

abbrev pub garbled : Bool → Flying → Flying
garbled damaged Nothing = Nothing
garbled damaged Enquiry = NoiseForth damaged
garbled damaged Carried = NoiseForth damaged
garbled damaged Closing = NoiseForth damaged
garbled damaged Reply = NoiseBack damaged
garbled damaged Refusal = NoiseBack damaged
garbled damaged Reminder = NoiseBack damaged
garbled damaged (NoiseForth before) = NoiseForth damaged
garbled damaged (NoiseBack before) = NoiseBack damaged
garbled damaged (Stray frame) = Stray (noise damaged)

garbled_is : (damaged : Bool) (stand : Stand) (flying : Flying) → garbled_way damaged (way_of stand flying) ≡ way_of stand (garbled damaged flying)
garbled_is damaged stand Nothing = refl
garbled_is damaged stand Enquiry = refl
garbled_is damaged stand Carried = refl
garbled_is damaged stand Closing = refl
garbled_is damaged stand Reply = refl
garbled_is damaged stand Refusal = refl
garbled_is damaged stand Reminder = refl
garbled_is damaged stand (NoiseForth before) = refl
garbled_is damaged stand (NoiseBack before) = refl
garbled_is damaged stand (Stray frame) = refl

bids_garbled : (d : Bool) (flying : Flying) → FliesBids flying → FliesBids (garbled d flying)
bids_garbled d Nothing f = tt
bids_garbled d Enquiry f = tt
bids_garbled d Reminder f = tt
bids_garbled d (NoiseForth before) f = tt
bids_garbled d (NoiseBack before) f = tt
bids_garbled d _ f = absurd f

bid_garbled : (d : Bool) (flying : Flying) → FliesBid flying → FliesBid (garbled d flying)
bid_garbled d Nothing f = tt
bid_garbled d Enquiry f = tt
bid_garbled d Reply f = tt
bid_garbled d Refusal f = tt
bid_garbled d (NoiseForth before) f = tt
bid_garbled d (NoiseBack before) f = tt
bid_garbled d _ f = absurd f

open_garbled : (d : Bool) (flying : Flying) → FliesOpen flying → FliesOpen (garbled d flying)
open_garbled d Nothing f = tt
open_garbled d Enquiry f = tt
open_garbled d Carried f = tt
open_garbled d Reply f = tt
open_garbled d Refusal f = tt
open_garbled d (NoiseForth before) f = tt
open_garbled d (NoiseBack before) f = tt
open_garbled d _ f = absurd f

done_garbled : (d asked : Bool) (flying : Flying) → FliesDone asked flying → FliesDone asked (garbled d flying)
done_garbled d asked Nothing f = tt
done_garbled d asked Enquiry f = f
done_garbled d asked Reply f = tt
done_garbled d asked Refusal f = tt
done_garbled d asked (NoiseForth before) f = f
done_garbled d asked (NoiseBack before) f = tt
done_garbled d asked _ f = absurd f

closed_garbled : (d : Bool) (flying : Flying) → FliesClosed flying → FliesClosed (garbled d flying)
closed_garbled d Nothing f = tt
closed_garbled d Closing f = tt
closed_garbled d Refusal f = tt
closed_garbled d (NoiseForth before) f = tt
closed_garbled d (NoiseBack before) f = tt
closed_garbled d _ f = absurd f

rests_garbled : (d : Bool) (flying : Flying) → FliesRests flying → FliesRests (garbled d flying)
rests_garbled d Nothing f = tt
rests_garbled d Closing f = tt
rests_garbled d (NoiseForth before) f = tt
rests_garbled d _ f = absurd f

gone_garbled : (d : Bool) (flying : Flying) → FliesGone flying → FliesGone (garbled d flying)
gone_garbled d Nothing f = tt
gone_garbled d (Stray frame) f = tt
gone_garbled d _ f = absurd f

flies_garbled : (d : Bool) (stand : Stand) (flying : Flying) → Flies stand flying → Flies stand (garbled d flying)
flies_garbled d (AtStart own its load) flying f = bids_garbled d flying f
flies_garbled d (Bids own its load) flying f = bids_garbled d flying f
flies_garbled d (Bid own its load) flying f = bid_garbled d flying f
flies_garbled d (Open own its sending taking) flying f = open_garbled d flying f
flies_garbled d (Done own its sending taking) flying f = done_garbled d sending.asked flying f
flies_garbled d (Closed own its taking) flying f = closed_garbled d flying f
flies_garbled d (Left e its taking) flying f = closed_garbled d flying f
flies_garbled d (Rests own its text) flying f = rests_garbled d flying f
flies_garbled d (Gone e line) flying f = gone_garbled d flying f

pub damaged : (d : Bool) (bx by : List (List ℕ)) (x y : LineEnd) (way : Way) → Holds bx x by y way → Holds bx x by y (garbled_way d way)
damaged d bx by x y way h = record {
  stand = h.stand;
  flying = garbled d h.flying;
  sender = h.sender;
  hearer = h.hearer;
  flown = ap (λ (w : Way). garbled_way d w) h.flown ∙ garbled_is d h.stand h.flying;
  flies = flies_garbled d h.stand h.flying h.flies;
  facts = h.facts;
  mine = h.mine;
  other = h.other;
}
