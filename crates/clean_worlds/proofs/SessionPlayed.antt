-- The rounds of CLEAN, from two ends that were opened and whose ids match, are a clean session.
use Rattle.std.proofs.Common.{◌≡◌, ◌+◌, ℕ, zero, suc, Bool, true, false, ◌||◌, List, [], ◌∷◌, Option, refl, sym, ◌∙◌, ap, subst, arith}
use Rattle.std.specs.Prelude.{not}
use Rattle.dsd_values.specs.declared.role.Role.{Role}
use Rattle.dsd_values.specs.declared.role.Role.TheVariants.{Receiver, Supplier}
use Rattle.dsd_record.specs.Choices.{Chooser}
use Rattle.dsd_station.specs.Replayed.{State}
use Rattle.dsd_journal.specs.Headers.{IsHeader, IsId}
use Rattle.dsd_journal.specs.declared.entry.Entry.{Entry}
use Rattle.dsd_journal.specs.declared.header.Header.{Header}
use Rattle.dex_line.specs.FrameShapes.{Enq, Eot}
use Rattle.dex_line.specs.FrameSpelling.{IsSpoken}
use Rattle.dex_handshake.specs.LineTable.{Line, Ended, beginning, first_header}
use Rattle.dex_handshake.specs.declared.session_end.SessionEnd.TheVariants.{Complete}
use Rattle.dex_handshake.proofs.Sayings.{first_spoken, may_spell}
use Rattle.own_turn.specs.DueSets.{texts_of}
use Rattle.own_turn.specs.OwnTurn.{gathered}
use Rattle.dsd_end.specs.Standings.{Standing, has_ended}
use Rattle.clean_sessions.specs.Beginnings.{AreHeadersTaken, IsCleanSession, opened, supplier_header}
use Rattle.clean_sessions.specs.CleanHeaders.{first_sent, receiver_ready, second_both, second_frame, second_sent, started_both, supplier_ready}
use Rattle.clean_sessions.specs.Halls.{CleanStep, Hall}
use Rattle.clean_sessions.specs.Sessions.{Spoken}
use Rattle.clean_sessions.proofs.BriefFrames.{eot_brief}
use Rattle.clean_sessions.proofs.HallsWalked.{StandsAs, post_at, says_step}
use Rattle.clean_sessions.proofs.HeadersPassed.{headers_pass}
use Rattle.clean_sessions.proofs.SessionsBegun.{session_clean, texts_begun}
use Rattle.cable_world.specs.Diligence.{ComesBy}
use Rattle.cable_world.specs.Noted.{Noted, steps_of}
use Rattle.cable_world.specs.Obeying.{AreRounds}
use Rattle.cable_world.specs.Scenes.{Scene, side, some_runs}
use Rattle.cable_world.specs.Steps.{other}
use Rattle.clean_worlds.specs.CleanPlays.{PlaysSession, choosers, headers}
use Rattle.clean_worlds.specs.WorldHalls.{ShowsHall}
use Rattle.clean_worlds.proofs.RoundsPlayed.{StillPlays, one_round, walks}
use Rattle.clean_worlds.proofs.TurnsPlayed.{turns_played}

-- ---- behind the end of both ends no round is made

pub none_runs : (near far : Role) (scene : Scene) → other near ≡ far → (side scene near).runs ≡ false → (side scene far).runs ≡ false → some_runs scene ≡ false
none_runs Supplier far scene is near_off far_off =
    ap (λ (b : Bool). b || scene.receiver.runs) near_off ∙ ap (λ (r : Role). (side scene r).runs) is ∙ far_off
none_runs Receiver far scene is near_off far_off =
    ap (λ (b : Bool). b || scene.receiver.runs) (ap (λ (r : Role). (side scene r).runs) is ∙ far_off) ∙ near_off

pub no_steps : (role : Role) (chooser : Chooser) (header : Header) (state : State) (before after : Option Standing) (noted : List Noted) → steps_of noted ≡ [] → ComesBy role chooser header state before noted after → after ≡ before
no_steps role chooser header state before after [] none comes = comes
no_steps role chooser header state before after (one ∷ noted) none comes = absurd (cc)

module _ (chooser : Role → Chooser) (header : Role → Header) (is : (role : Role) → IsHeader (header role)) (end : Scene) (last : Role → Option Standing) where
  -- so the last scene shows the hall
  shows_last : (near far : Role) (hall : Hall) (left : ℕ) (p : StillPlays chooser header is end last near far hall left) → hall.near.standing.line ≡ Ended Complete → hall.far.standing.line ≡ Ended Complete
      → AreRounds left p.scene p.steps end → ShowsHall chooser header near far hall end last
  shows_last near far hall zero p near_ended far_ended (off, (none, same)) =
      let still : (role : Role) → last role ≡ p.standing role = λ role. no_steps role (chooser role) (header role) (p.state role) (p.standing role) (last role) p.made.noted (p.made.is ∙ none) (p.made.come role) in
      let here : ShowsHall chooser header near far hall end p.standing = subst (λ (s : Scene). ShowsHall chooser header near far hall s p.standing) (sym same) p.shows in
      record {
        roles = here.roles;
        choosers = here.choosers;
        near_attends = here.near_attends;
        far_attends = here.far_attends;
        near_stands = still near ∙ here.near_stands;
        far_stands = still far ∙ here.far_stands;
        waiting = here.waiting;
        spoken = here.spoken;
      }
  shows_last near far hall (suc left) p near_ended far_ended (on, both) =
      let near_off : (side p.scene near).runs ≡ false = p.shows.near_attends.runs ∙ ap (λ (l : Line). not (has_ended l)) near_ended in
      let far_off : (side p.scene far).runs ≡ false = p.shows.far_attends.runs ∙ ap (λ (l : Line). not (has_ended l)) far_ended in
      let off : some_runs p.scene ≡ false = none_runs near far p.scene p.shows.roles.0 near_off far_off in
      absurd (cc)

module _ (id other_id : List ℕ) (is_id : IsId id) (others : IsId other_id) (supplier receiver : Chooser) (supplier_entries receiver_entries : List Entry) where
  pub are_headers : (role : Role) → IsHeader (headers id other_id role)
  are_headers Supplier = record { own = is_id; peer = others }
  are_headers Receiver = record { own = others; peer = is_id }

  abbrev start : Hall
  start = opened id other_id supplier receiver supplier_entries receiver_entries

  begun : StandsAs start.near start.far (started_both id other_id) 0 1 0 0 start
  begun = record { near_heard = 0; far_heard = 0; near_now = 0; far_now = 1; near_few = omega arith; far_few = omega arith; is = refl }

  second_spoken : IsSpoken (second_frame other_id)
  second_spoken = let may = may_spell other_id others.text others.ten in may.greets true

  module _ (end : Scene) (last : Role → Option Standing) where
    abbrev Plays : Role → Role → Hall → ℕ → Type 0
    Plays near far hall rounds = StillPlays (choosers supplier receiver) (headers id other_id) are_headers end last near far hall rounds

    -- the two turns with the headers
    record HeadersPlayed : Type 0 where
      new : Hall
      taken : AreHeadersTaken start new
      left : ℕ
      plays : Plays Receiver Supplier new left

    headers_played : (rounds : ℕ) → Plays Receiver Supplier start rounds → HeadersPlayed
    headers_played rounds p =
        let pass = headers_pass id other_id is_id others in
        let a = walks (choosers supplier receiver) (headers id other_id) are_headers end last start.near start.far refl refl 0 1 Receiver Supplier (Enq ∷ first_header (beginning Supplier id other_id) ∷ []) (started_both id other_id)
        (first_sent id other_id) 0 0 start rounds pass.first (tt, (first_spoken id is_id.text is_id.ten, tt)) begun p in
        let one = one_round (choosers supplier receiver) (headers id other_id) are_headers end last Receiver Supplier a.next a.left Eot a.plays (ap (λ (h : Hall). h.flight) a.at.is) (ap (λ (h : Hall). has_ended h.near.standing.line) a.at.is) in
        let b = says_step start.near (post_at start.far (first_sent id other_id).owner a.at.far_heard a.at.far_now) (first_sent id other_id).hearer (second_both id other_id).owner a.at.near_heard a.at.near_now 1 Eot Enq one.new refl
        eot_brief pass.then_bids (subst (λ (h : Hall). CleanStep h one.new) a.at.is one.step) in
        let turned : StandsAs start.far start.near (second_both id other_id) a.at.far_now (a.at.near_now + b.count) 0 0 one.new = record {
          near_heard = a.at.far_heard;
          far_heard = b.bytes;
          near_now = a.at.far_now;
          far_now = a.at.near_now + b.count;
          near_few = omega arith;
          far_few = omega arith;
          is = b.is;
        } in
        let c = walks (choosers supplier receiver) (headers id other_id) are_headers end last start.far start.near refl refl a.at.far_now (a.at.near_now + b.count) Supplier Receiver (Enq ∷ second_frame other_id ∷ []) (second_both id other_id)
        (second_sent id other_id) 0 0 one.new one.left pass.second (tt, (second_spoken, tt)) turned one.plays in
        let two = one_round (choosers supplier receiver) (headers id other_id) are_headers end last Supplier Receiver c.next c.left Eot c.plays (ap (λ (h : Hall). h.flight) c.at.is) (ap (λ (h : Hall). has_ended h.near.standing.line) c.at.is) in
        record { new = two.new; taken = (a.next, one.new, c.next, a.exchanged, one.step, c.exchanged, two.step); left = two.left; plays = two.plays }

    pub session_played : (rounds : ℕ) → Plays Receiver Supplier start rounds → PlaysSession id other_id supplier receiver supplier_entries receiver_entries end last
    session_played rounds p =
        let h = headers_played rounds p in
        let t = texts_begun id other_id is_id others supplier receiver supplier_entries receiver_entries h.new h.taken in
        let turns = turns_played (choosers supplier receiver) (headers id other_id) are_headers end last h.left Receiver Supplier (supplier_ready id other_id) (receiver_ready id other_id) t.load h.new h.left (omega arith) t.begins h.plays in
        let first : Spoken = record { sets = texts_of (gathered (supplier_header id other_id) t.turned.proposed); text = t.load } in
        let session : IsCleanSession id other_id supplier receiver supplier_entries receiver_entries first turns.more turns.new =
        record { middle = h.new; headers = h.taken; desk = t.desk; turned = t.turned; sets = refl; turns = turns.taken } in
        let ends = session_clean id other_id is_id others supplier receiver supplier_entries receiver_entries first turns.more turns.new session in
        record {
          first = first;
          more = turns.more;
          new = turns.new;
          session = session;
          ends = ends;
          near = turns.near;
          far = turns.far;
          shows = shows_last (choosers supplier receiver) (headers id other_id) are_headers end last turns.near turns.far turns.new turns.left turns.plays ends.near ends.far turns.plays.are;
        }
