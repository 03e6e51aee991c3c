-- The turns with the headers and their polls, up to the first turn of texts.
use Rattle.std.proofs.Common.{◌≡◌, ◌<◌, ◌≤◌, ◌+◌, ◌*◌, ℕ, true, false, List, [], ◌∷◌, ◌++◌, length, codes, Some, refl, sym, ◌∙◌, ap, subst, length-append, arith}
use Rattle.dsd_values.specs.declared.role.Role.TheVariants.{Supplier}
use Rattle.dsd_journal.specs.declared.entry.Entry.{Entry}
use Rattle.dsd_journal.specs.Headers.{IsId}
use Rattle.dsd_record.specs.Choices.{Chooser}
use Rattle.dex_line.specs.FrameShapes.{FrameShape, Enq, Eot, Header}
use Rattle.dex_line.specs.FrameSpelling.{IsSpoken, spelling}
use Rattle.dex_handshake.specs.LineRun.{load_of}
use Rattle.dex_handshake.specs.LineTable.{Common, Line, SecondStage, Taking, Bidding, Finished, InText, beginning, first_header, nothing_taken, says_nothing}
use Rattle.dex_handshake.proofs.Sayings.{first_spoken, may_spell}
use Rattle.own_turn.specs.OwnTurn.{Desk, Turned, gathered, next_turn}
use Rattle.dsd_end.specs.PollStep.{Done, gave, joined, stepped}
use Rattle.dsd_end.proofs.OneOutcome.{one_turn}
use Rattle.clean_sessions.specs.Beginnings.{AreHeadersTaken, BeginsTexts, EndsClean, IsCleanSession, supplier_header, opened}
use Rattle.clean_sessions.specs.CleanHeaders.{first_sent, receiver_ready, second_both, second_frame, second_sent, started_both, supplier_ready}
use Rattle.clean_sessions.specs.CleanTurns.{ArePair, ExchangesAll, Volley}
use Rattle.clean_sessions.specs.Feeding.{counted}
use Rattle.clean_sessions.specs.Sessions.{IsSpokenText, Spoken}
use Rattle.clean_sessions.specs.Halls.{AreExchanged, BeginsTurn, CleanStep, Hall, Post, polled}
use Rattle.clean_sessions.proofs.BriefFrames.{IsBrief, enq_brief, eot_brief, load_text}
use Rattle.clean_sessions.proofs.BytesHeard.{headers_low, post_low, turns_low}
use Rattle.clean_sessions.proofs.FramesFed.{few_pieces}
use Rattle.clean_sessions.proofs.HallsWalked.{Ends, StandsAs, eot_step, exchange, post_at, says_step, standing_at}
use Rattle.clean_sessions.proofs.HeadersPassed.{headers_pass}
use Rattle.clean_sessions.proofs.SessionsTaken.{gathered_sets, short_session, spoken_text, whole_session}

-- a header is heard in one poll
header_brief : (text : List ℕ) → IsSpoken (Header text) → IsBrief 1 (Header text)
header_brief text spoken = record { spoken = spoken; few = λ pieces fed. few_pieces 1 (spelling (Header text)) pieces fed (size text _ _ _ spoken.fits) }
  where
    size : (text : List ℕ) (closing low high : ℕ) → length text ≤ 32 → length (0x10 ∷ 0x01 ∷ (text ++ 0x10 ∷ closing ∷ low ∷ high ∷ [])) ≤ 64 * 1
    size text closing low high fits = let all = length-append text (0x10 ∷ closing ∷ low ∷ high ∷ []) in omega (arith, all, fits)

module _ (near far : Post) (near_later : near.standing.first ≡ false) (far_later : far.standing.first ≡ false) (near_polls far_polls : ℕ) where
  -- a turn of two frames
  two_exchanged : (first second : FrameShape) (old new : Volley) (hall next : Hall) → ExchangesAll (first ∷ second ∷ []) old new → IsBrief 1 first → IsBrief 1 second
      → StandsAs near far old near_polls far_polls 0 0 hall → AreExchanged 2 hall next → StandsAs near far new near_polls far_polls 2 2 next
  two_exchanged first second old new hall next (here, between, ex, (there, last, then_ex, same)) brief then_brief at (m, h, one, two, (n, k, three, four, done)) =
      let a = exchange near far near_later far_later near_polls far_polls old between 0 0 1 hall m h ex (subst (IsBrief 1) (sym here) brief) at one two in
      let b = exchange near far near_later far_later near_polls far_polls between last 1 1 1 h n k then_ex (subst (IsBrief 1) (sym there) then_brief) a three four in
      subst (λ (v : Volley). StandsAs near far v near_polls far_polls 2 2 next) same (subst (λ (l : Hall). StandsAs near far last near_polls far_polls 2 2 l) done b)

-- the first own turn of the supplier, behind the receiver's Eot
record TakesFirst (near far : Post) (own : Common) (text : List ℕ) (polls : ℕ) (left : Line) (far_heard far_now : ℕ) (new : Hall) : Type 0 where
  desk : Desk
  load : List ℕ
  turned : Turned near.standing.header near.chooser near.standing.desk text desk load
  heard : ℕ
  count : ℕ
  few : count ≤ 1
  is : new ≡ record {
    near = post_at far left far_heard far_now;
    far = record { chooser = near.chooser; standing = record near.standing { line = Bidding own (load_of load); begun = []; heard = heard; desk = desk }; polls = polls + count };
    flight = Enq ∷ [];
  }

takes_first : (near far : Post) (its own : Common) (taking : Taking) (text : List ℕ) (heard polls : ℕ) (left : Line) (far_heard far_now : ℕ) (new : Hall)
    → Ends near (post_at far left far_heard far_now) (InText its taking) heard polls (says_nothing (Finished own text)) new → TakesFirst near far own text polls left far_heard far_now new
takes_first near far its own taking text heard polls left far_heard far_now new e = taken e.acts.0 e.acts.1 e.acts.2 e.acts.3
  where
    taken : (desk : Desk) (load : List ℕ) → Turned near.standing.header near.chooser near.standing.desk text desk load
        → e.act ≡ gave (standing_at near.standing (Finished own text) heard) (Finished own text) desk load → TakesFirst near far own text polls left far_heard far_now new
    taken desk load turned is = record {
      desk = desk;
      load = load;
      turned = turned;
      heard = heard + 1;
      count = e.count;
      few = e.few;
      is = e.is ∙ ap (λ (act : Done). let h : Hall = record {
        near = post_at far left far_heard far_now;
        far = polled (post_at near (InText its taking) heard polls) e.count (counted 1 (joined (stepped (standing_at near.standing (InText its taking) heard) (says_nothing (Finished own text))) act)).standing;
        flight = [] ++ act.said;
      } in h) is;
    }

module _ (id other : List ℕ) (is : IsId id) (others : IsId other) (supplier receiver : Chooser) (supplier_entries receiver_entries : List Entry) where
  abbrev start : Hall
  start = opened id other supplier receiver supplier_entries receiver_entries

  begun : StandsAs start.near start.far (started_both id other) 0 1 0 0 start
  begun = record { near_heard = 0; far_heard = 0; near_now = 0; far_now = 1; near_few = omega arith; far_few = omega arith; is = refl }

  pub first_brief : IsBrief 1 (first_header (beginning Supplier id other))
  first_brief = header_brief (id ++ codes "SR01L01") (first_spoken id is.text is.ten)

  pub second_brief : IsBrief 1 (second_frame other)
  second_brief = let may = may_spell other others.text others.ten in header_brief (codes "00" ++ other ++ codes "R01L01") (may.greets true)

  -- as the supplier has heard the receiver's header
  abbrev heard_own : Common
  heard_own = record (beginning Supplier id other) { stage = SecondStage; partner = Some (record { code = 0; id = other }) }

  abbrev heard_taking : Taking
  heard_taking = record nothing_taken { taken = 1 }

  pub texts_begun : (new : Hall) → AreHeadersTaken start new → BeginsTexts id other start new
  texts_begun new (behind, bids, answered, one, two, three, four) =
      let pass = headers_pass id other is others in
      let a = two_exchanged start.near start.far refl refl 0 1 Enq (first_header (beginning Supplier id other)) (started_both id other) (first_sent id other) start behind pass.first enq_brief first_brief begun one in
      let b = says_step start.near (post_at start.far (first_sent id other).owner a.far_heard a.far_now) (first_sent id other).hearer (second_both id other).owner a.near_heard a.near_now 1 Eot Enq bids refl
      eot_brief pass.then_bids (subst (λ (h : Hall). CleanStep h bids) a.is two) in
      let begins_second : StandsAs start.far start.near (second_both id other) a.far_now (a.near_now + b.count) 0 0 bids = record {
        near_heard = a.far_heard;
        far_heard = b.bytes;
        near_now = a.far_now;
        far_now = a.near_now + b.count;
        near_few = omega arith;
        far_few = omega arith;
        is = b.is;
      } in
      let c = two_exchanged start.far start.near refl refl a.far_now (a.near_now + b.count) Enq (second_frame other) (second_both id other) (second_sent id other) bids answered pass.second enq_brief second_brief
      begins_second three in
      let e = eot_step start.far (post_at start.near (second_sent id other).owner c.far_heard c.far_now) heard_own heard_taking c.near_heard c.near_now (says_nothing (Finished (supplier_ready id other) [])) new refl pass.then_texts
      (subst (λ (h : Hall). CleanStep h new) c.is four) in
      let t = takes_first start.far start.near heard_own (supplier_ready id other) heard_taking [] c.near_heard c.near_now (second_sent id other).owner c.far_heard c.far_now new e in
      ready new a.far_now (a.near_now + b.count) c.near_now c.far_now a.far_few (receiver_polled a.near_now b.count a.near_few b.few) c.near_few c.far_few c.far_heard pass.pair t
    where
      receiver_polled : (now count : ℕ) → now ≤ 0 + 2 → count ≤ 1 → now + count ≤ 3
      receiver_polled now count a b = omega (arith, a, b)

      ready : (new : Hall) (supplier_before receiver_before near_now far_now : ℕ) → supplier_before ≤ 1 + 2 → receiver_before ≤ 3 → near_now ≤ supplier_before + 2 → far_now ≤ receiver_before + 2 → (far_heard : ℕ)
          → ArePair (supplier_ready id other) (receiver_ready id other)
          → TakesFirst start.far start.near (supplier_ready id other) [] near_now (second_sent id other).owner far_heard far_now new → BeginsTexts id other start new
      ready new supplier_before receiver_before near_now far_now supplier_few receiver_few near_few far_few far_heard pair t =
          let supplier_now : new.far.polls ≡ near_now + t.count = ap (λ (h : Hall). h.far.polls) t.is in
          let receiver_now : new.near.polls ≡ far_now = ap (λ (h : Hall). h.near.polls) t.is in
          let few = t.few in
          record {
            desk = t.desk;
            load = t.load;
            turned = t.turned;
            left = ap (λ (h : Hall). h.far.standing.desk) t.is;
            begins = subst (BeginsTurn (supplier_ready id other) (receiver_ready id other) t.load) (sym t.is) (record {
              bids = refl;
              waits = refl;
              pair = pair;
              load = load_text (supplier_header id other) (next_turn t.turned.proposed) (gathered (supplier_header id other) t.turned.proposed) t.load t.turned.loads;
              far_calm = record { later = refl; none = refl };
              near_calm = record { later = refl; none = refl };
              flight = refl;
            });
            supplier = omega (arith, supplier_now, near_few, supplier_few, few);
            receiver = omega (arith, receiver_now, far_few, receiver_few);
            desks = ap (λ (h : Hall). h.near.standing.desk) t.is;
            choosers = (ap (λ (h : Hall). h.near.chooser) t.is, ap (λ (h : Hall). h.far.chooser) t.is);
            headers = (ap (λ (h : Hall). h.near.standing.header) t.is, ap (λ (h : Hall). h.far.standing.header) t.is);
          }

  -- the whole session
  pub session_clean : (first : Spoken) (more : List Spoken) (new : Hall) → IsCleanSession id other supplier receiver supplier_entries receiver_entries first more new → EndsClean first more new
  session_clean first more new c =
      let t = texts_begun c.middle c.headers in
      let same = one_turn (supplier_header id other) supplier start.far.standing.desk [] t.desk c.desk t.load first.text t.turned c.turned in
      let begins : BeginsTurn (supplier_ready id other) (receiver_ready id other) first.text c.middle =
      subst (λ (load : List ℕ). BeginsTurn (supplier_ready id other) (receiver_ready id other) load c.middle) same.1 t.begins in
      let text : IsSpokenText first =
      spoken_text (supplier_header id other) (gathered (supplier_header id other) c.turned.proposed) (next_turn c.turned.proposed) first c.turned.loads (gathered_sets (supplier_header id other) c.turned.proposed) c.sets in
      let whole = whole_session first more (supplier_ready id other) (receiver_ready id other) c.middle new begins text c.turns in
      let few = short_session first more (supplier_ready id other) (receiver_ready id other) c.middle new begins text c.turns refl t.supplier t.receiver in
      let low = turns_low more (supplier_ready id other) (receiver_ready id other) first.text c.middle new c.turns (headers_low start c.middle c.headers (record { near = omega arith; far = omega arith })) in
      record {
        near = whole.near;
        far = whole.far;
        flight = whole.flight;
        polls = few;
        heard = λ own blocks. quiet _ _ _ (post_low own more new low) (few own) blocks;
      }
    where
      quiet : (heard polls alone : ℕ) → heard ≤ 64 * polls → polls ≤ 60 + 24 * alone → alone ≤ 1_299 → heard < 2_000_000
      quiet heard polls alone a b c = omega (arith, a, b, c)
