-- A session whose own turns speak few blocks and find room goes quietly.
use Rattle.std.proofs.Common.{◌≡◌, ◌≤◌, ◌<◌, ◌+◌, ◌*◌, ◌==◌, ◌&&◌, inl, inr, ℕ, zero, suc, Bool, true, false, List, [], ◌∷◌, length, refl, sym, ◌∙◌, ap, subst, arith}
use Rattle.dsd_values.specs.declared.role.Role.TheVariants.{Supplier}
use Rattle.dsd_journal.specs.declared.entry.Entry.{Entry}
use Rattle.dsd_journal.specs.Headers.{IsId}
use Rattle.dsd_record.specs.Choices.{Chooser}
use Rattle.dex_line.specs.FrameShapes.{FrameShape, Enq, Eot}
use Rattle.dex_handshake.specs.LineRun.{load_of}
use Rattle.dex_handshake.specs.LineTable.{Common, Finished, InText, Line, beginning, ends, first_header, hears, says_nothing}
use Rattle.dex_handshake.specs.declared.session_end.SessionEnd.TheVariants.{Complete}
use Rattle.own_turn.specs.DueSets.{DueSet, texts_of}
use Rattle.own_turn.specs.OwnTurn.{Desk, Turned, gathered, next_turn}
use Rattle.dsd_end.specs.Standings.{has_ended}
use Rattle.dsd_end.specs.declared.fault.TheConstants.{NOISE_BYTES}
use Rattle.std.specs.Prelude.{if◌then◌else◌}
use Rattle.clean_sessions.specs.Beginnings.{opened, receiver_header, seat_before, supplier_header}
use Rattle.clean_sessions.specs.BlocksAlone.{blocks_alone}
use Rattle.clean_sessions.specs.CleanHeaders.{first_sent, receiver_ready, second_both, second_frame, second_sent, started_both, supplier_ready}
use Rattle.clean_sessions.specs.CleanTurns.{Passes, begins, has_none, next_hearer, next_owner}
use Rattle.clean_sessions.specs.FewBlocks.{HasPlaceBehind, HaveRoom, SpeakAtMost, most_blocks}
use Rattle.clean_sessions.specs.Halls.{AreExchanged, BeginsTurn, CleanStep, GoesOn, Hall, IsComplete, LeavesHall, TakesNext}
use Rattle.clean_sessions.specs.QuietHalls.{GoesQuietly, HearsQuietly}
use Rattle.clean_sessions.specs.SeatTurns.{AreOwnTurns, EndsWhenSilent, Seat, at_desk, has_none as has_no_set}
use Rattle.clean_sessions.specs.Sessions.{IsSpokenText, Spoken}
use Rattle.clean_sessions.specs.SinceLast.{blocks_spoken_in}
use Rattle.clean_sessions.proofs.BoolTests.{never_both}
use Rattle.clean_sessions.proofs.BriefFrames.{IsBrief, enq_brief, eot_brief, load_brief}
use Rattle.clean_sessions.proofs.BytesHeard.{IsHeardLow, headers_low, step_low, turn_low}
use Rattle.clean_sessions.proofs.HallsWalked.{Says, StandsAs, begun, post_at, says_step, turn_taken}
use Rattle.clean_sessions.proofs.HeadersPassed.{headers_pass}
use Rattle.clean_sessions.proofs.LoadsCounted.{no_blocks}
use Rattle.clean_sessions.proofs.QuietTurns.{Later, eot_quietly, eot_said, walks_quietly}
use Rattle.clean_sessions.proofs.SessionSeats.{same_seat, seat_of}
use Rattle.clean_sessions.proofs.SessionsBegun.{first_brief, second_brief, texts_begun}
use Rattle.clean_sessions.proofs.SilentLoads.{none_alike}
use Rattle.clean_sessions.proofs.SessionsTaken.{gathered_sets, spoken_text}
use Rattle.clean_sessions.proofs.TurnsPassed.{passes}

-- ---- what is still allowed

-- polls of an empty turn, behind one
abbrev pad : Bool → ℕ
pad true = 2
pad false = 0

-- own turns behind a turn without a set, or with some, where the one before it had none or some
abbrev EndsSo : Bool → Bool → List (List DueSet) → Type 0
EndsSo silent none turns = (silent ≡ true → none ≡ true → turns ≡ []) × EndsWhenSilent none turns

-- So many blocks were spoken before the turn of this text, which has so many; and own turns behind it speak no more than are left, and find room. Neither end was polled
-- more often than all that costs.
record Allows (empty : Bool) (text : List ℕ) (hall : Hall) : Type 0 where
  before : ℕ
  now : ℕ
  few : (turns : List (List DueSet)) → AreOwnTurns turns (seat_of hall.near) (seat_of hall.far) text → EndsSo empty (has_none text) turns → before + now + blocks_spoken_in turns ≤ most_blocks
  room : (turns : List (List DueSet)) → (t : AreOwnTurns turns (seat_of hall.near) (seat_of hall.far) text) → EndsSo empty (has_none text) turns → HasPlaceBehind turns (seat_of hall.near) (seat_of hall.far) text t
  size : length (load_of text) ≤ now + 2
  none : (now == 0) ≡ has_none text
  near : hall.near.polls ≤ 40 + 24 * before + pad empty
  far : hall.far.polls ≤ 40 + 24 * before + pad empty
  low : IsHeardLow hall

-- behind an own turn that gives a load, where the turn before was not the last one
allows_next : (own theirs : Seat) (text load : List ℕ) (desk : Desk) (before : ℕ) (silent none : Bool) (new : Hall) → (turned : Turned own.header own.chooser own.desk text desk load) → (silent ≡ true → none ≡ true → ⊥)
    → ((turns : List (List DueSet)) → AreOwnTurns turns own theirs text → EndsSo silent none turns → before + blocks_spoken_in turns ≤ most_blocks)
    → ((turns : List (List DueSet)) → (t : AreOwnTurns turns own theirs text) → EndsSo silent none turns → HasPlaceBehind turns own theirs text t) → seat_of new.near ≡ theirs → seat_of new.far ≡ at_desk own desk
    → new.near.polls ≤ 40 + 24 * before + pad none → new.far.polls ≤ 40 + 24 * before + pad none → IsHeardLow new → Allows none load new
allows_next own theirs text load desk before silent none new turned goes few room near_seat far_seat near_polls far_polls low =
    let sets : List DueSet = gathered own.header turned.proposed in
    let spoken : Spoken = record { sets = texts_of sets; text = load } in
    let cost : IsSpokenText spoken = spoken_text own.header sets (next_turn turned.proposed) spoken turned.loads (gathered_sets own.header turned.proposed) refl in
    let now : ℕ = blocks_alone (texts_of sets) in
    let alike : has_no_set sets ≡ has_none load = none_alike own.header (next_turn turned.proposed) sets load turned.loads in
    let longer : (turns : List (List DueSet)) → EndsSo none (has_none load) turns → EndsSo silent none (sets ∷ turns) =
    λ turns e. ((λ s n. absurd (goes s n)), ((λ n none_there. e.0 n (sym alike ∙ none_there)), subst (λ (b : Bool). EndsWhenSilent b turns) (sym alike) e.1)) in
    let Few : Seat → Seat → Type 0 = λ (n f : Seat). (turns : List (List DueSet)) → AreOwnTurns turns n f load → EndsSo none (has_none load) turns → before + now + blocks_spoken_in turns ≤ most_blocks in
    let still : Few theirs (at_desk own desk) = λ turns t e. (let all = few (sets ∷ turns) (desk, load, turned, refl, t) (longer turns e) in omega (arith, all)) in
    let Room : Seat → Seat → Type 0 = λ (n f : Seat). (turns : List (List DueSet)) → (t : AreOwnTurns turns n f load) → EndsSo none (has_none load) turns → HasPlaceBehind turns n f load t in
    let rooms : Room theirs (at_desk own desk) = λ turns t e. room (sets ∷ turns) (desk, load, turned, refl, t) (longer turns e) in
    record {
      before = before;
      now = now;
      few = subst (λ (n : Seat). Few n (seat_of new.far)) (sym near_seat) (subst (Few theirs) (sym far_seat) still);
      room = subst (λ (n : Seat). Room n (seat_of new.far)) (sym near_seat) (subst (Room theirs) (sym far_seat) rooms);
      size = cost.few;
      none = cost.none;
      near = near_polls;
      far = far_polls;
      low = low;
    }

-- ---- one turn

few_bytes : (blocks : ℕ) → blocks ≤ most_blocks → 64 * (60 + 24 * blocks) < NOISE_BYTES
few_bytes blocks few = omega (arith, few)

more_brief : (frame : FrameShape) → IsBrief 1 frame → IsBrief 4 frame
more_brief frame brief = record { spoken = brief.spoken; few = λ pieces fed. (let few = brief.few pieces fed in omega (arith, few)) }

nothing_said : (text : List ℕ) → has_none text ≡ true → text ≡ []
nothing_said [] none = refl
nothing_said (byte ∷ text) none = absurd (cc)

some_blocks : (now : ℕ) → (now == 0) ≡ false → 1 ≤ now
some_blocks zero e = absurd (cc)
some_blocks (suc n) e = omega arith

within_next : (polls old len before now : ℕ) (empty none : Bool) → (none && empty) ≡ false → (none ≡ true → len ≡ 0) → (none ≡ false → 1 ≤ now) → len ≤ now + 2 → polls ≤ old + (2 + 4 * len)
    → old ≤ 40 + 24 * before + pad empty → polls ≤ 40 + 24 * (before + now) + pad none
within_next polls old len before now true true both silent spoken size cost bound = absurd (cc)
within_next polls old len before now false true both silent spoken size cost bound = let zero_len = silent refl in omega (arith, zero_len, cost, bound)
within_next polls old len before now true false both silent spoken size cost bound = let one = spoken refl in omega (arith, one, size, cost, bound)
within_next polls old len before now false false both silent spoken size cost bound = let one = spoken refl in omega (arith, one, size, cost, bound)

owner_cost : (polls old len : ℕ) → polls ≤ old + (1 + len) → polls ≤ old + (2 + 4 * len)
owner_cost polls old len cost = omega (arith, cost)

walk_within : (polls len before now : ℕ) (empty : Bool) → polls ≤ 40 + 24 * before + pad empty → len ≤ now + 2 → polls + 4 * (suc len) + 1 ≤ 60 + 24 * (before + now)
walk_within polls len before now true bound size = omega (arith, bound, size)
walk_within polls len before now false bound size = omega (arith, bound, size)

-- behind the end of both sessions nothing is on its way
over_quietly : (frames : ℕ) (old new : Hall) → IsComplete old new → GoesQuietly frames new
over_quietly zero old new done = tt
over_quietly (suc frames) old new done = (
  inl (record { near = ap has_ended done.near; far = ap has_ended done.far }),
  λ next step. (let nothing : step.frame ∷ [] ≡ [] = sym step.flight ∙ done.flight in absurd (cc)),
)

abbrev TheOthers : ℕ → Type 0
TheOthers most = (frames : ℕ) (owner hearer : Common) (text : List ℕ) (hall : Hall) → frames ≤ most → BeginsTurn owner hearer text hall → Allows owner.empty text hall → GoesQuietly frames hall

module _ (owner hearer : Common) (text : List ℕ) (hall : Hall) (b : BeginsTurn owner hearer text hall) (a : Allows owner.empty text hall) where
  abbrev limit : ℕ
  limit = 60 + 24 * (a.before + a.now)

  few_heard : 64 * limit < NOISE_BYTES
  few_heard = let all = a.few [] tt ((λ silent none. refl), tt) in few_bytes (a.before + a.now) (omega (arith, all))

  abbrev p : Passes owner hearer text
  p = passes owner hearer b.pair text b.load.units b.load.short

  -- the turn that comes behind this one
  next_allows : (new : Hall) → IsHeardLow new → (l : LeavesHall owner hearer text hall new) → (has_none text && owner.empty) ≡ false → (goes : TakesNext owner hearer text hall new) → Allows (has_none text) goes.load new
  next_allows new low l both goes =
      let len : ℕ = length (load_of text) in
      let silent : has_none text ≡ true → len ≡ 0 = λ none. no_blocks text (nothing_said text none) in
      let heard : has_none text ≡ false → 1 ≤ a.now = λ none. some_blocks a.now (a.none ∙ none) in
      allows_next (seat_of hall.near) (seat_of hall.far) text goes.load goes.desk (a.before + a.now) owner.empty (has_none text) new goes.turned (λ quiet none. never_both _ (ap (λ (b : Bool). b && owner.empty) none ∙ quiet) both) (λ turns t e. a.few turns t e) a.room
      (same_seat (seat_of new.near) (seat_of hall.far) l.costs.headers.0 l.costs.choosers.0 l.costs.desk)
      (same_seat (seat_of new.far) (at_desk (seat_of hall.near) goes.desk) l.costs.headers.1 l.costs.choosers.1 goes.left)
      (within_next new.near.polls hall.far.polls len a.before a.now owner.empty (has_none text) both silent heard a.size (owner_cost new.near.polls hall.far.polls len l.costs.owner) a.far)
      (within_next new.far.polls hall.near.polls len a.before a.now owner.empty (has_none text) both silent heard a.size l.costs.hearer a.near) low

  goes_so : (most frames : ℕ) → TheOthers most → frames ≤ most → (new : Hall) → IsHeardLow new → (l : LeavesHall owner hearer text hall new) → (both : Bool) → (has_none text && owner.empty) ≡ both
      → GoesOn both owner hearer text hall new → GoesQuietly frames new
  goes_so most frames others less new low l true both goes = over_quietly frames hall new goes
  goes_so most frames others less new low l false both goes =
      others frames (next_owner hearer (has_none text)) (next_hearer owner (has_none text)) goes.load new less goes.begins (next_allows new low l both goes)

  turn_quietly : (most frames : ℕ) → TheOthers most → frames ≤ suc most → GoesQuietly frames hall
  turn_quietly most frames others less =
      walks_quietly hall.near hall.far b.near_calm.later b.far_calm.later hall.near.polls hall.far.polls limit (suc (length (load_of text))) few_heard hall (Enq ∷ load_of text) (begins owner hearer (load_of text)) p.volley 0 0 hall frames p.frames
      (more_brief Enq enq_brief, load_brief text b.load) (begun owner hearer text hall b) a.low (let bound = walk_within hall.near.polls (length (load_of text)) a.before a.now owner.empty a.near a.size in omega (arith, bound))
      (let bound = walk_within hall.far.polls (length (load_of text)) a.before a.now owner.empty a.far a.size in omega (arith, bound)) (λ behind e. e) at_eot
    where
      at_eot : Later hall.near hall.far b.near_calm.later b.far_calm.later hall.near.polls hall.far.polls limit (suc (length (load_of text))) few_heard hall p.volley frames
      at_eot zero fewer behind is = tt
      at_eot (suc left) fewer behind is =
          let at = is.at in
          let here : behind ≡ record { near = post_at hall.near (InText p.common p.taking) at.near_heard at.near_now; far = post_at hall.far p.volley.owner at.far_heard at.far_now; flight = Eot ∷ [] } =
          at.is
          ∙ ap (λ (l : Line). let h : Hall = record { near = post_at hall.near l at.near_heard at.near_now; far = post_at hall.far p.volley.owner at.far_heard at.far_now; flight = p.volley.frame ∷ [] } in h) p.takes
          ∙ ap (λ (f : FrameShape). let h : Hall = record { near = post_at hall.near (InText p.common p.taking) at.near_heard at.near_now; far = post_at hall.far p.volley.owner at.far_heard at.far_now; flight = f ∷ [] } in h) p.last in
          let row : hears (InText p.common p.taking) Eot ≡ (if has_none text && owner.empty then ends Complete else says_nothing (Finished (next_owner hearer (has_none text)) text)) =
          ap (λ (l : Line). hears l Eot) (sym p.takes) ∙ p.handed in
          let low : at.near_heard ≤ 64 * at.near_now = (subst IsHeardLow at.is is.low).near in
          let now = at.near_few in
          let within = is.near_within in
          let hears_it : HearsQuietly behind Eot =
          subst (λ (h : Hall). HearsQuietly h Eot) (sym here)
          (eot_quietly hall.near (post_at hall.far p.volley.owner at.far_heard at.far_now) (InText p.common p.taking) at.near_heard at.near_now limit (has_none text && owner.empty) (next_owner hearer (has_none text)) text refl row
          (λ none. a.room [] tt ((λ silent nothing. refl), tt)) eot_brief low (omega (arith, now, within)) few_heard) in (
            inr (Eot, hears_it),
            λ next step.
                let l = turn_taken owner hearer text hall b next (behind, is.taken, step) in
                goes_so most left others (omega (arith, fewer, less)) next (turn_low (length (load_of text)) hall next (behind, is.taken, step) a.low) l (has_none text && owner.empty) refl l.goes,
          )

turns_quietly : (most : ℕ) → TheOthers most
turns_quietly zero zero owner hearer text hall less b a = tt
turns_quietly zero (suc frames) owner hearer text hall less b a = absurd (omega (arith, less))
turns_quietly (suc most) frames owner hearer text hall less b a = turn_quietly owner hearer text hall b a most frames (λ f o h t x l y z. turns_quietly most f o h t x l y z) less

-- ---- from the opening on

module _ (id other : List ℕ) (is : IsId id) (others : IsId other) (supplier receiver : Chooser) (supplier_entries receiver_entries : List Entry) where
  abbrev start : Hall
  start = opened id other supplier receiver supplier_entries receiver_entries

  abbrev near : Seat
  near = seat_before (supplier_header id other) supplier supplier_entries

  abbrev far : Seat
  far = seat_before (receiver_header id other) receiver receiver_entries

  started : StandsAs start.near start.far (started_both id other) 0 1 0 0 start
  started = record { near_heard = 0; far_heard = 0; near_now = 0; far_now = 1; near_few = omega arith; far_few = omega arith; is = refl }

  start_low : IsHeardLow start
  start_low = record { near = omega arith; far = omega arith }

  module _ (few : SpeakAtMost most_blocks near far []) (room : HaveRoom near far []) where
    -- the supplier's first own turn, and those behind it
    texts_quietly : (frames : ℕ) (behind bids answered new : Hall) → AreExchanged 2 start behind → CleanStep behind bids → AreExchanged 2 bids answered → CleanStep answered new → GoesQuietly frames new
    texts_quietly frames behind bids answered new one two three four =
        let t = texts_begun id other is others supplier receiver supplier_entries receiver_entries new (behind, bids, answered, one, two, three, four) in
        let supplier_polls = t.supplier in
        let receiver_polls = t.receiver in
        turns_quietly frames frames (supplier_ready id other) (receiver_ready id other) t.load new (omega arith) t.begins
        (allows_next near far [] t.load t.desk 0 false false new t.turned (λ quiet none. absurd (cc)) (λ turns own e. (let all = few turns own e.1 in omega (arith, all))) (λ turns own e. room turns own e.1) (same_seat (seat_of new.near) far t.headers.0 t.choosers.0 t.desks)
        (same_seat (seat_of new.far) (at_desk near t.desk) t.headers.1 t.choosers.1 t.left) (omega (arith, receiver_polls)) (omega (arith, supplier_polls))
        (headers_low start new (behind, bids, answered, one, two, three, four) start_low))

    -- the turn with the receiver's header
    second_quietly : (frames : ℕ) (behind bids : Hall) → AreExchanged 2 start behind → CleanStep behind bids → IsHeardLow bids → (near_polls far_polls : ℕ) → near_polls ≤ 12 → far_polls ≤ 13
        → StandsAs start.far start.near (second_both id other) near_polls far_polls 0 0 bids → GoesQuietly frames bids
    second_quietly frames behind bids one two low near_polls far_polls near_few far_few at =
        let pass = headers_pass id other is others in
        walks_quietly start.far start.near refl refl near_polls far_polls 60 2 (omega arith) bids (Enq ∷ second_frame other ∷ []) (second_both id other) (second_sent id other) 0 0 bids frames pass.second
        (more_brief Enq enq_brief, (more_brief (second_frame other) (second_brief id other is others supplier receiver supplier_entries receiver_entries), tt)) at low (omega (arith, near_few)) (omega (arith, far_few)) (λ h e. e) at_eot
      where
        at_eot : Later start.far start.near refl refl near_polls far_polls 60 2 (omega arith) bids (second_sent id other) frames
        at_eot zero fewer answered is_behind = tt
        at_eot (suc left) fewer answered is_behind =
            let pass = headers_pass id other is others in
            let a = is_behind.at in
            let heard_low : a.near_heard ≤ 64 * a.near_now = (subst IsHeardLow a.is is_behind.low).near in
            let now = a.near_few in
            let within = is_behind.near_within in (
              inr (
                Eot,
                subst (λ (h : Hall). HearsQuietly h Eot) (sym a.is) (eot_quietly start.far (post_at start.near (second_sent id other).owner a.far_heard a.far_now) (second_sent id other).hearer a.near_heard a.near_now 60 false
                    (supplier_ready id other) [] refl pass.then_texts (λ none. room [] tt tt) eot_brief heard_low (omega (arith, now, within)) (omega arith)),
              ),
              λ new four. texts_quietly left behind bids answered new one two is_behind.taken four,
            )

    pub session_quietly : (frames : ℕ) → GoesQuietly frames start
    session_quietly frames =
        let pass = headers_pass id other is others in
        walks_quietly start.near start.far refl refl 0 1 12 2 (omega arith) start (Enq ∷ first_header (beginning Supplier id other) ∷ []) (started_both id other) (first_sent id other) 0 0 start frames pass.first
        (more_brief Enq enq_brief, (more_brief (first_header (beginning Supplier id other)) (first_brief id other is others supplier receiver supplier_entries receiver_entries), tt)) started start_low (omega arith) (omega arith)
        (λ h e. e) at_eot
      where
        at_eot : Later start.near start.far refl refl 0 1 12 2 (omega arith) start (first_sent id other) frames
        at_eot zero fewer behind is_behind = tt
        at_eot (suc left) fewer behind is_behind =
            let pass = headers_pass id other is others in
            let a = is_behind.at in
            let heard_low : a.near_heard ≤ 64 * a.near_now = (subst IsHeardLow a.is is_behind.low).near in
            let now = a.near_few in
            let within = is_behind.near_within in
            let far_now = a.far_few in
            let far_within = is_behind.far_within in (
              inr (
                Eot,
                subst (λ (h : Hall). HearsQuietly h Eot) (sym a.is) (eot_said start.near (post_at start.far (first_sent id other).owner a.far_heard a.far_now) (first_sent id other).hearer (second_both id other).owner a.near_heard a.near_now
                    12 Enq pass.then_bids eot_brief heard_low (omega (arith, now, within)) (omega arith)),
              ),
              λ bids two.
                  let b : Says start.near (post_at start.far (first_sent id other).owner a.far_heard a.far_now) (second_both id other).owner a.near_heard a.near_now 1 Enq bids =
                  says_step start.near (post_at start.far (first_sent id other).owner a.far_heard a.far_now) (first_sent id other).hearer (second_both id other).owner a.near_heard a.near_now 1 Eot Enq bids refl eot_brief pass.then_bids
                  (subst (λ (h : Hall). CleanStep h bids) a.is two) in
                  let one_more = b.few in
                  let begins_second : StandsAs start.far start.near (second_both id other) a.far_now (a.near_now + b.count) 0 0 bids = record {
                    near_heard = a.far_heard;
                    far_heard = b.bytes;
                    near_now = a.far_now;
                    far_now = a.near_now + b.count;
                    near_few = omega arith;
                    far_few = omega arith;
                    is = b.is;
                  } in
                  second_quietly left behind bids is_behind.taken two (step_low behind bids two is_behind.low) a.far_now (a.near_now + b.count) (omega (arith, far_now, far_within)) (omega (arith, now, within, one_more)) begins_second,
            )
