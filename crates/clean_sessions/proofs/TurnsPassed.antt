-- A turn of a text, frame by frame.
use Rattle.std.proofs.Common.{◌≡◌, ◌≢◌, ◌≤◌, ◌+◌, ℕ, Bool, true, false, ◌&&◌, ◌==◌, nat_lt, if◌then◌else◌, List, [], ◌∷◌, ◌++◌, length, refl, sym, ap, subst, ◌∙◌, inl, inr, append_assoc, length-append, arith}
use Rattle.std.proofs.lemmas.Bool.Decides.{nat_tests}
use Rattle.dex_line.specs.FrameShapes.{FrameShape, Enq, Ack0, Ack1, Eot, Block}
use Rattle.dex_line.specs.TextUnits.{UnitsFit}
use Rattle.dxs_envelope.specs.declared.outgoing.TheConstants.{TRANSMISSION_BYTES}
use Rattle.dex_handshake.specs.LineRun.{load_of}
use Rattle.dex_handshake.specs.LineTable.{Common, LineStep, Sending, StageName, TextStage, SentAll, Awaiting, InText, Finished, Ended, says, says_nothing, ends, hears, no_quiets, next_stage, next_frame, nothing_taken, awaiting_hears, takes_block, again, reply_of, is_odd, says_eot, enters}
use Rattle.dex_handshake.specs.declared.session_end.SessionEnd.TheVariants.{Complete, TextLimit}
use Rattle.clean_sessions.specs.CleanTurns.{Volley, Exchanges, ExchangesAll, IsReply, begins, has_none, ArePair, Passes, PassesAs, next_owner, next_hearer}
use Rattle.clean_sessions.proofs.LoadFrames.{HasBlocks, HaveText, frames_of, load_had, text_of}

-- as the hearer stands in the turn
abbrev hearing : Common → Common
hearing hearer = record hearer { stage = TextStage; quiets = 0 }

-- behind the last reply of a turn with blocks
abbrev sent : Common → Common → List ℕ → ℕ → Volley
sent owner hearer text count = record {
  owner = SentAll (record owner { empty = false; quiets = 0 });
  hearer = InText (hearing hearer) (record { text = text; taken = count; whole = true });
  frame = Eot;
}

-- behind the reply to the Enq of a turn without
abbrev sent_nothing : Common → Common → Volley
sent_nothing owner hearer = record {
  owner = if owner.empty then Ended Complete else SentAll (record owner { empty = true; quiets = 0 });
  hearer = InText (hearing hearer) nothing_taken;
  frame = Eot;
}

-- the reply of its number moves the sender on
moves_by : (odd : Bool) (own : Common) (sending : Sending) → is_odd sending.block ≡ odd → awaiting_hears own sending (if odd then Ack1 else Ack0) ≡ next_frame own sending.block sending.left
moves_by true own sending e = ap (λ (b : Bool). if b then next_frame own sending.block sending.left else again own sending) e
moves_by false own sending e = ap (λ (b : Bool). if b then again own sending else next_frame own sending.block sending.left) e

reply_moves : (own : Common) (sending : Sending) → awaiting_hears own sending (reply_of sending.block) ≡ next_frame own sending.block sending.left
reply_moves own sending = moves_by (is_odd sending.block) own sending refl

reply_is : (block : ℕ) → IsReply (reply_of block)
reply_is block = either (is_odd block)
  where
    either : (odd : Bool) → IsReply (if odd then Ack1 else Ack0)
    either true = tt
    either false = tt

-- a block that has a text, and fits, is taken
no_more : (size : ℕ) → size ≤ TRANSMISSION_BYTES → nat_lt TRANSMISSION_BYTES size ≡ false
no_more size le = grind (arith, nat_tests)

block_taken : (own : Common) (text : List ℕ) (count : ℕ) (last : Bool) (block : List ℕ) → block ≢ [] → length text + length block ≤ TRANSMISSION_BYTES
    → takes_block own (record { text = text; taken = count; whole = false }) last block ≡ says (reply_of (count + 1)) (InText own (record { text = text ++ block; taken = count + 1; whole = last }))
block_taken own text count last [] some fits = absurd (some refl)
block_taken own text count last (b ∷ more) some fits =
    ap (λ (t : Bool). if t then ends TextLimit else says (reply_of (count + 1)) (InText own (record { text = text ++ b ∷ more; taken = count + 1; whole = last }))) (no_more (length text + length (b ∷ more)) fits)

-- in the middle of a turn: so many blocks are done

abbrev first_frame : List ℕ → List (List ℕ) → FrameShape
first_frame block [] = Block true block
first_frame block (next ∷ more) = Block false block

abbrev left_frames : List (List ℕ) → List FrameShape
left_frames [] = []
left_frames (next ∷ more) = frames_of next more

frames_are : (block : List ℕ) (more : List (List ℕ)) → frames_of block more ≡ first_frame block more ∷ left_frames more
frames_are block [] = refl
frames_are block (next ∷ more) = refl

abbrev sending_at : ℕ → List ℕ → List (List ℕ) → Sending
sending_at done block more = record { frame = first_frame block more; left = left_frames more; block = done + 1; tries = 1; asked = false }

abbrev middle : Common → Common → ℕ → List ℕ → List ℕ → List (List ℕ) → Volley
middle owner hearer done text block more = record {
  owner = Awaiting (no_quiets owner) (sending_at done block more);
  hearer = InText (hearing hearer) (record { text = text; taken = done; whole = false });
  frame = first_frame block more;
}

module _ (owner hearer : Common) (stage : owner.stage ≡ TextStage) (their_stage : next_stage hearer.stage ≡ TextStage) where
  one_more : (done : ℕ) (text block next : List ℕ) (more : List (List ℕ)) → block ≢ [] → length text + length block ≤ TRANSMISSION_BYTES
      → Exchanges (middle owner hearer done text block (next ∷ more)) (middle owner hearer (done + 1) (text ++ block) next more)
  one_more done text block next more some fits = record {
    reply = reply_of (done + 1);
    is_reply = reply_is (done + 1);
    heard = block_taken (hearing hearer) text done false block some fits;
    next = reply_moves (no_quiets owner) (sending_at done block (next ∷ more)) ∙ ap (next_frame (no_quiets owner) (done + 1)) (frames_are next more);
  }

  not_none : (n : ℕ) → (n + 1 == 0) ≡ false
  not_none n = grind (arith, nat_tests)

  eot_said : (done : ℕ) → says_eot owner.stage (no_quiets owner) (done + 1 == 0) ≡ says Eot (SentAll (record owner { empty = false; quiets = 0 }))
  eot_said done =
      ap (λ (s : StageName). says_eot s (no_quiets owner) (done + 1 == 0)) stage
      ∙ ap (λ (t : Bool). if t && owner.empty then says Eot (Ended Complete) else says Eot (SentAll (record owner { empty = t; quiets = 0 }))) (not_none done)

  last_one : (done : ℕ) (text block : List ℕ) → block ≢ [] → length text + length block ≤ TRANSMISSION_BYTES
      → Exchanges (middle owner hearer done text block []) (sent owner hearer (text ++ block) (done + 1))
  last_one done text block some fits = record {
    reply = reply_of (done + 1);
    is_reply = reply_is (done + 1);
    heard = block_taken (hearing hearer) text done true block some fits;
    next = reply_moves (no_quiets owner) (sending_at done block []) ∙ eot_said done;
  }

  front_fits : (text block more : List ℕ) → length (text ++ (block ++ more)) ≤ TRANSMISSION_BYTES → length text + length block ≤ TRANSMISSION_BYTES
  front_fits text block more le = let a = length-append text (block ++ more) in let b = length-append block more in omega (arith, le, a, b)

  from_middle : (done : ℕ) (text block : List ℕ) (more : List (List ℕ)) → HaveText block more → length (text ++ text_of block more) ≤ TRANSMISSION_BYTES
      → ExchangesAll (frames_of block more) (middle owner hearer done text block more) (sent owner hearer (text ++ text_of block more) (done + (1 + length more)))
  from_middle done text block [] have fits =
      let count : done + 1 ≡ done + (1 + 0) = omega arith in
      let room : length text + length block ≤ TRANSMISSION_BYTES = let a = length-append text block in omega (arith, fits, a) in
      (refl, sent owner hearer (text ++ block) (done + 1), last_one done text block have room, ap (sent owner hearer (text ++ block)) count)
  from_middle done text block (next ∷ more) have fits =
      let there : (text ++ block) ++ text_of next more ≡ text ++ (block ++ text_of next more) = append_assoc text block (text_of next more) in
      let count : done + 1 + (1 + length more) ≡ done + (1 + length (next ∷ more)) = omega arith in
      let room = front_fits text block (text_of next more) fits in
      let rest = from_middle (done + 1) (text ++ block) next more have.1 (subst (λ (t : List ℕ). length t ≤ TRANSMISSION_BYTES) (sym there) fits) in (
        refl,
        middle owner hearer (done + 1) (text ++ block) next more,
        one_more done text block next more have.0 room,
        subst (λ (n : ℕ). ExchangesAll (frames_of next more) (middle owner hearer (done + 1) (text ++ block) next more) (sent owner hearer (text ++ (block ++ text_of next more)) n)) count
            (subst (λ (t : List ℕ). ExchangesAll (frames_of next more) (middle owner hearer (done + 1) (text ++ block) next more) (sent owner hearer t (done + 1 + (1 + length more)))) there rest),
      )

  -- the hearer's reply to the Enq
  entered : hears (SentAll hearer) Enq ≡ says Ack0 (InText (hearing hearer) nothing_taken)
  entered = ap (λ (s : StageName). enters (record hearer { stage = s; quiets = 0 })) their_stage

  begun : (block : List ℕ) (more : List (List ℕ)) → next_frame (no_quiets owner) 0 (frames_of block more) ≡ says (first_frame block more) (Awaiting (no_quiets owner) (sending_at 0 block more))
  begun block more = ap (next_frame (no_quiets owner) 0) (frames_are block more)

  with_blocks : (block : List ℕ) (more : List (List ℕ)) → HaveText block more → length (text_of block more) ≤ TRANSMISSION_BYTES
      → ExchangesAll (Enq ∷ frames_of block more) (begins owner hearer (frames_of block more)) (sent owner hearer (text_of block more) (1 + length more))
  with_blocks block more have fits =
      let count : 0 + (1 + length more) ≡ 1 + length more = omega arith in (
        refl,
        middle owner hearer 0 [] block more,
        record { reply = Ack0; is_reply = tt; heard = entered; next = begun block more },
        subst (λ (n : ℕ). ExchangesAll (frames_of block more) (middle owner hearer 0 [] block more) (sent owner hearer (text_of block more) n)) count (from_middle 0 [] block more have fits),
      )

  eot_at_once : (empty : Bool) → (if empty then says Eot (Ended Complete) else says Eot (SentAll (record owner { empty = true; quiets = 0 }))) ≡ says Eot (if empty then Ended Complete else SentAll (record owner { empty = true; quiets = 0 }))
  eot_at_once true = refl
  eot_at_once false = refl

  without_blocks : ExchangesAll (Enq ∷ []) (begins owner hearer []) (sent_nothing owner hearer)
  without_blocks =
      (refl, sent_nothing owner hearer, record { reply = Ack0; is_reply = tt; heard = entered; next = ap (λ (s : StageName). says_eot s (no_quiets owner) true) stage ∙ eot_at_once owner.empty }, refl)

-- ---- the turn as a whole

same_end : (empty other : Bool) (a b : LineStep) → other ≡ empty → (if other then a else b) ≡ (if empty then a else b)
same_end empty other a b e = ap (λ (t : Bool). if t then a else b) e

module _ (owner hearer : Common) (pair : ArePair owner hearer) where
  passes_empty : PassesAs owner hearer [] [] true
  passes_empty = record {
    volley = sent_nothing owner hearer;
    frames = without_blocks owner hearer pair.stage pair.their_stage;
    last = refl;
    common = hearing hearer;
    taking = nothing_taken;
    takes = refl;
    left = refl;
    handed = same_end owner.empty hearer.empty (ends Complete) (says_nothing (Finished (next_owner hearer true) [])) (sym pair.same);
  }

  some_taken : (n : ℕ) → (1 + n == 0) ≡ false
  some_taken n = grind (arith, nat_tests)

  blocks_over : (text : List ℕ) (n : ℕ) → hears (InText (hearing hearer) (record { text = text; taken = 1 + n; whole = true })) Eot ≡ says_nothing (Finished (next_owner hearer false) text)
  blocks_over text n = ap (λ (t : Bool). if t && hearer.empty then ends Complete else says_nothing (Finished (record (hearing hearer) { empty = t }) text)) (some_taken n)

  passes_blocks : (block : List ℕ) (more : List (List ℕ)) → HaveText block more → length (text_of block more) ≤ TRANSMISSION_BYTES → PassesAs owner hearer (frames_of block more) (text_of block more) false
  passes_blocks block more have fits = record {
    volley = sent owner hearer (text_of block more) (1 + length more);
    frames = with_blocks owner hearer pair.stage pair.their_stage block more have fits;
    last = refl;
    common = hearing hearer;
    taking = record { text = text_of block more; taken = 1 + length more; whole = true };
    takes = refl;
    left = refl;
    handed = blocks_over (text_of block more) (length more);
  }

  some_text : (block : List ℕ) (more : List (List ℕ)) → HaveText block more → has_none (text_of block more) ≡ false
  some_text [] [] have = absurd (have refl)
  some_text (byte ∷ block) [] have = refl
  some_text [] (next ∷ more) have = absurd (have.0 refl)
  some_text (byte ∷ block) (next ∷ more) have = refl

  passes_had : (text : List ℕ) (load : List FrameShape) → HasBlocks text load → length text ≤ TRANSMISSION_BYTES → PassesAs owner hearer load text (has_none text)
  passes_had text load had fits =
      let room : length (text_of had.block had.more) ≤ TRANSMISSION_BYTES = subst (λ (t : List ℕ). length t ≤ TRANSMISSION_BYTES) (sym had.joined) fits in
      subst (λ (t : List ℕ). PassesAs owner hearer load t (has_none t)) had.joined
      (subst (PassesAs owner hearer load (text_of had.block had.more)) (sym (some_text had.block had.more had.have))
      (subst (λ (l : List FrameShape). PassesAs owner hearer l (text_of had.block had.more) false) (sym had.frames) (passes_blocks had.block had.more had.have room)))

  passes_none : (text : List ℕ) → text ≡ [] → load_of text ≡ [] → Passes owner hearer text
  passes_none text none no_load =
      subst (λ (l : List FrameShape). PassesAs owner hearer l text (has_none text)) (sym no_load)
      (subst (λ (t : List ℕ). PassesAs owner hearer [] t (has_none t)) (sym none) passes_empty)

  pub passes : (text : List ℕ) → UnitsFit text → length text ≤ TRANSMISSION_BYTES → Passes owner hearer text
  passes text fit fits = elim (load_had text fit) [ inl none ↦ passes_none text none.0 none.1 | inr had ↦ passes_had text (load_of text) had fits ]

pub still_pair : (owner hearer : Common) (none : Bool) → ArePair owner hearer → ArePair (next_owner hearer none) (next_hearer owner none)
still_pair owner hearer none pair = record { stage = refl; their_stage = ap next_stage pair.stage; same = refl }
