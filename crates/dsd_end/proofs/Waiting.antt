-- An end waits no longer than its patience, and each poll that goes on costs some of it.
use Rattle.std.proofs.Common.{◌≡◌, ℕ, ◌+◌, ◌<◌, ◌≤◌, Bool, true, false, List, [], ◌∷◌, ◌++◌, length, Option, Some, None, refl, sym, ◌∙◌, ap, subst, arith}
use Rattle.dsd_values.specs.declared.role.Role.{Role}
use Rattle.dsd_values.specs.declared.role.Role.TheVariants.{Supplier, Receiver}
use Rattle.dex_line.specs.FrameShapes.{FrameShape, Bad}
use Rattle.dex_line.specs.Hearing.{after_answer}
use Rattle.dex_line.specs.Judging.{judge}
use Rattle.dex_line.specs.Scanning.{quieted}
use Rattle.dex_handshake.specs.LineTable.{Line, Ready, Bidding, Awaiting, SentAll, InText, Finished, Ended, hears, quiets}
use Rattle.dex_handshake.specs.declared.session_end.TheConstants.{MOST_QUIETS}
use Rattle.dsd_record.specs.Choices.{Chooser}
use Rattle.dsd_station.specs.declared.call.Reception.{Reception}
use Rattle.dsd_station.specs.declared.call.Reception.TheVariants.{Piece, Silence, Cut}
use Rattle.dsd_journal.specs.declared.entry.Entry.{Entry}
use Rattle.dsd_journal.specs.declared.header.Header.{Header}
use Rattle.dsd_end.specs.EndFaults.{IsQuietSoFar}
use Rattle.dsd_end.specs.Patience.{CostsPatience, begun_patience, first_patience, patience, quiets_in}
use Rattle.dsd_end.specs.PollStep.{ActsAt, Done, HearsBroken, HearsFrame, HearsFrames, HearsPiece, HearsUnless, Next, PollsAt, begins, begun_at, joined, scanned, stepped}
use Rattle.dsd_station.specs.Told.{Told}
use Rattle.dsd_end.specs.Polls.{IsSomething, Polled, with_flags}
use Rattle.dsd_end.specs.Standings.{Standing, first_standing, has_ended, with_begun}
use Rattle.dsd_end.specs.declared.fault.TheConstants.{NOISE_BYTES}
use Rattle.dsd_end.proofs.QuietRows.{quiet_counts, row_resets}
use Rattle.dsd_end.proofs.RunsComing.{unplugged_ends}

both : (x : Bool) → x ≡ false → x ≡ true → ⊥
both x p q = cc

-- ---- what frames leave

-- the counts of what was heard and begun stay, and no Quiets are counted where none were
pub record Leaves (old new : Standing) : Type 0 where
  pub heard : new.heard ≡ old.heard
  pub begun : new.begun ≡ old.begun
  pub first : new.first ≡ old.first

leaves_as : (standing : Standing) (done done' : Done) → done ≡ done' → Leaves standing done'.standing → Leaves standing done.standing
leaves_as standing done done' e l = subst (λ (d : Done). Leaves standing d.standing) (sym e) l

leaves_all : (standing : Standing) → Leaves standing standing
leaves_all standing = record { heard = refl; begun = refl; first = refl }

acts_leave : (chooser : Chooser) (standing : Standing) (line : Line) (done : Done) → ActsAt chooser standing line done → Leaves standing done.standing
acts_leave chooser standing (Finished own text) done (desk, load, turned, is) = leaves_as standing done _ is (record { heard = refl; begun = refl; first = refl })
acts_leave chooser standing (Ready own) done is = leaves_as standing done _ is (leaves_all standing)
acts_leave chooser standing (Bidding own load) done is = leaves_as standing done _ is (leaves_all standing)
acts_leave chooser standing (Awaiting own sending) done is = leaves_as standing done _ is (leaves_all standing)
acts_leave chooser standing (SentAll own) done is = leaves_as standing done _ is (leaves_all standing)
acts_leave chooser standing (InText own taking) done is = leaves_as standing done _ is (leaves_all standing)
acts_leave chooser standing (Ended end) done is = leaves_as standing done _ is (leaves_all standing)

-- an own turn counts no Quiets where none were counted
acts_reset : (chooser : Chooser) (standing : Standing) (line : Line) (done : Done) → standing.line ≡ line → ActsAt chooser standing line done → quiets_in line ≡ 0 → quiets_in done.standing.line ≡ 0
acts_reset chooser standing (Finished own text) done e (desk, load, turned, is) q = ap (λ (d : Done). quiets_in d.standing.line) is ∙ q
acts_reset chooser standing (Ready own) done e is q = ap (λ (d : Done). quiets_in d.standing.line) is ∙ ap quiets_in e ∙ q
acts_reset chooser standing (Bidding own load) done e is q = ap (λ (d : Done). quiets_in d.standing.line) is ∙ ap quiets_in e ∙ q
acts_reset chooser standing (Awaiting own sending) done e is q = ap (λ (d : Done). quiets_in d.standing.line) is ∙ ap quiets_in e ∙ q
acts_reset chooser standing (SentAll own) done e is q = ap (λ (d : Done). quiets_in d.standing.line) is ∙ ap quiets_in e ∙ q
acts_reset chooser standing (InText own taking) done e is q = ap (λ (d : Done). quiets_in d.standing.line) is ∙ ap quiets_in e ∙ q
acts_reset chooser standing (Ended end) done e is q = ap (λ (d : Done). quiets_in d.standing.line) is ∙ ap quiets_in e ∙ q

module _ (chooser : Chooser) where
  frame_leaves : (standing : Standing) (frame : FrameShape) (done : Done) → HearsFrame chooser standing frame done → Leaves standing done.standing
  frame_leaves standing frame done (turn, acts, e) =
      let step = stepped standing (hears standing.line frame) in
      let l = acts_leave chooser step.standing step.standing.line turn acts in
      leaves_as standing done (joined step turn) e (record { heard = l.heard; begun = l.begun; first = l.first })

  -- a frame ends a row of Quiets
  pub frame_resets : (standing : Standing) (frame : FrameShape) (done : Done) → HearsFrame chooser standing frame done → quiets_in done.standing.line ≡ 0
  frame_resets standing frame done (turn, acts, e) =
      let step = stepped standing (hears standing.line frame) in
      ap (λ (d : Done). quiets_in d.standing.line) e ∙ acts_reset chooser step.standing step.standing.line turn refl acts (row_resets standing.line frame)

  frames_leave : (standing : Standing) (frames : List FrameShape) (done : Done) → HearsFrames chooser standing frames done → Leaves standing done.standing
  frames_leave standing [] done e = leaves_as standing done _ e (leaves_all standing)
  frames_leave standing (frame ∷ frames) done (one, rest, hears_it, more, e) =
      let a = frame_leaves standing frame one hears_it in
      let b = frames_leave one.standing frames rest more in
      leaves_as standing done (joined one rest) e (record { heard = b.heard ∙ a.heard; begun = b.begun ∙ a.begun; first = b.first ∙ a.first })

  frames_quiet : (standing : Standing) (frames : List FrameShape) (done : Done) → HearsFrames chooser standing frames done → quiets_in standing.line < MOST_QUIETS → quiets_in done.standing.line < MOST_QUIETS
  frames_quiet standing [] done e q = subst (λ (d : Done). quiets_in d.standing.line < MOST_QUIETS) (sym e) q
  frames_quiet standing (frame ∷ frames) done (one, rest, hears_it, more, e) q =
      let none : quiets_in one.standing.line ≡ 0 = frame_resets standing frame one hears_it in
      subst (λ (d : Done). quiets_in d.standing.line < MOST_QUIETS) (sym e) (frames_quiet one.standing frames rest more (omega (arith, none)))

-- ---- a poll

begun_bound : (begun : List ℕ) → begun_patience begun ≤ 29
begun_bound [] = omega arith
begun_bound (b ∷ more) = omega arith

no_begun : (line : Line) → begun_patience (begun_at line []) ≡ 0
no_begun (Ended end) = refl
no_begun (Ready own) = refl
no_begun (Bidding own load) = refl
no_begun (Awaiting own sending) = refl
no_begun (SentAll own) = refl
no_begun (InText own taking) = refl
no_begun (Finished own text) = refl

-- what is less of the one patience, where bytes were counted
module _ (standing new : Standing) (first : new.first ≡ standing.first) (before : quiets_in standing.line < MOST_QUIETS) (below : new.heard < NOISE_BYTES) where
  -- two bytes or more
  more_bytes : (size : ℕ) → new.heard ≡ standing.heard + size → 1 < size → patience new < patience standing
  more_bytes size heard some =
      let bound = begun_bound new.begun in
      let same : first_patience new.first ≡ first_patience standing.first = ap first_patience first in
      omega (arith, bound, same, before, below, heard, some)

  -- one byte, with which something has begun
  one_begun : new.heard ≡ standing.heard + 1 → quiets_in new.line ≡ quiets_in standing.line → patience new < patience standing
  one_begun heard quiet =
      let bound = begun_bound new.begun in
      let same : first_patience new.first ≡ first_patience standing.first = ap first_patience first in
      omega (arith, bound, same, before, below, heard, quiet)

  -- one byte, with which a frame ends
  one_frame : new.heard ≡ standing.heard + 1 → begun_patience new.begun ≡ 0 → patience new < patience standing
  one_frame heard none =
      let same : first_patience new.first ≡ first_patience standing.first = ap first_patience first in
      omega (arith, same, before, below, heard, none)

-- one Quiet more
one_quiet_less : (standing new : Standing) → new.first ≡ standing.first → new.heard ≡ standing.heard → begun_patience new.begun ≡ 0 → quiets_in new.line ≡ quiets_in standing.line + 1 → quiets_in new.line < MOST_QUIETS
    → patience new < patience standing
one_quiet_less standing new first heard none one below =
    let same : first_patience new.first ≡ first_patience standing.first = ap first_patience first in
    omega (arith, same, heard, none, one, below)

-- the first Quiet behind what has broken off
broken_less : (standing new : Standing) → new.first ≡ standing.first → new.heard ≡ standing.heard → begun_patience new.begun ≡ 0 → begun_patience standing.begun ≡ 29 → quiets_in new.line ≡ 1 → quiets_in standing.line < MOST_QUIETS
    → patience new < patience standing
broken_less standing new first heard none some one below =
    let same : first_patience new.first ≡ first_patience standing.first = ap first_patience first in
    omega (arith, same, heard, none, some, one, below)

module _ (chooser : Chooser) (standing : Standing) (goes : has_ended standing.line ≡ false) (quiet : IsQuietSoFar standing) where
  before : quiets_in standing.line < MOST_QUIETS
  before = (quiet goes).1

  -- a piece
  one_byte : (byte : ℕ) (text : List ℕ) (o : Option FrameShape) (frames : Done) → HearsFrames chooser (with_begun standing []) (after_answer [] text o).shapes frames
      → (new : Standing) → new ≡ record frames.standing { begun = begun_at frames.standing.line (after_answer [] text o).begun; heard = frames.standing.heard + 1 } → new.heard < NOISE_BYTES → patience new < patience standing
  one_byte byte text None frames e new is below =
      let l = frames_leave chooser (with_begun standing []) [] frames e in
      one_begun standing new (ap (λ (s : Standing). s.first) is ∙ l.first) before below (ap (λ (s : Standing). s.heard) is ∙ ap (λ (n : ℕ). n + 1) l.heard)
      (ap (λ (s : Standing). quiets_in s.line) is ∙ ap (λ (d : Done). quiets_in d.standing.line) e)
  one_byte byte text (Some frame) frames hears_it new is below =
      let l = frames_leave chooser (with_begun standing []) (frame ∷ []) frames hears_it in
      one_frame standing new (ap (λ (s : Standing). s.first) is ∙ l.first) before below (ap (λ (s : Standing). s.heard) is ∙ ap (λ (n : ℕ). n + 1) l.heard)
      (ap (λ (s : Standing). begun_patience s.begun) is ∙ no_begun frames.standing.line)

  piece_less : (bytes : List ℕ) (done : Done) → 0 < length bytes → HearsPiece chooser standing bytes done → done.standing.heard < NOISE_BYTES → patience done.standing < patience standing
  piece_less [] done some hears_it below = absurd (omega (arith, some))
  piece_less (b ∷ []) done some (frames, hears_it, e) below =
      one_byte b (standing.begun ++ b ∷ []) (judge (standing.begun ++ b ∷ [])) frames hears_it done.standing (ap (λ (d : Done). d.standing) e) below
  piece_less (b ∷ b' ∷ more) done some (frames, hears_it, e) below =
      let l = frames_leave chooser (with_begun standing []) (scanned standing (b ∷ b' ∷ more)).shapes frames hears_it in
      more_bytes standing done.standing (ap (λ (d : Done). d.standing.first) e ∙ l.first) before below (length (b ∷ b' ∷ more))
      (ap (λ (d : Done). d.standing.heard) e ∙ ap (λ (n : ℕ). n + length (b ∷ b' ∷ more)) l.heard) (omega arith)

  -- a silence
  silence_less : (begun : List ℕ) → standing.begun ≡ begun → (done broken : Done) → HearsBroken chooser (with_begun standing []) (quieted begun) broken
      → done ≡ joined broken (stepped broken.standing (quiets broken.standing.line)) → has_ended done.standing.line ≡ false → patience done.standing < patience standing
  silence_less [] none done broken e is on =
      let next : done.standing ≡ (stepped broken.standing (quiets broken.standing.line)).standing = ap (λ (d : Done). d.standing) is in
      let c = quiet_counts broken.standing.line (sym (ap (λ (s : Standing). has_ended s.line) next) ∙ on) in
      let counted : quiets_in done.standing.line ≡ quiets_in (quiets broken.standing.line).next = ap (λ (s : Standing). quiets_in s.line) next in
      let q : quiets_in broken.standing.line ≡ quiets_in standing.line = ap (λ (d : Done). quiets_in d.standing.line) e in
      one_quiet_less standing done.standing (ap (λ (s : Standing). s.first) next ∙ ap (λ (d : Done). d.standing.first) e) (ap (λ (s : Standing). s.heard) next ∙ ap (λ (d : Done). d.standing.heard) e)
      (ap (λ (s : Standing). begun_patience s.begun) next ∙ ap (λ (d : Done). begun_patience d.standing.begun) e) (omega (arith, counted, c.one, q)) (omega (arith, counted, c.below))
  silence_less (b ∷ more) some done broken hears_it is on =
      let next : done.standing ≡ (stepped broken.standing (quiets broken.standing.line)).standing = ap (λ (d : Done). d.standing) is in
      let c = quiet_counts broken.standing.line (sym (ap (λ (s : Standing). has_ended s.line) next) ∙ on) in
      let counted : quiets_in done.standing.line ≡ quiets_in (quiets broken.standing.line).next = ap (λ (s : Standing). quiets_in s.line) next in
      let q : quiets_in broken.standing.line ≡ 0 = frame_resets chooser (with_begun standing []) Bad broken hears_it in
      let l = frame_leaves chooser (with_begun standing []) Bad broken hears_it in
      broken_less standing done.standing (ap (λ (s : Standing). s.first) next ∙ l.first) (ap (λ (s : Standing). s.heard) next ∙ l.heard)
      (ap (λ (s : Standing). begun_patience s.begun) next ∙ ap begun_patience l.begun) (ap begun_patience some) (omega (arith, counted, c.one, q)) before

  hears_less : (reception : Reception) (done : Done) → IsSomething (Some reception) → HearsUnless false chooser standing reception done → done.standing.heard < NOISE_BYTES → has_ended done.standing.line ≡ false
      → patience done.standing < patience standing
  hears_less (Piece bytes) done some hears_it below on = piece_less bytes done some hears_it below
  hears_less Silence done some (broken, hears_it, is) below on = silence_less standing.begun refl done broken hears_it is on
  hears_less Cut done some is below on =
      absurd (both (has_ended done.standing.line) on (ap (λ (d : Done). has_ended d.standing.line) is ∙ unplugged_ends standing.line))

  hears_quiet : (reception : Reception) (done : Done) → HearsUnless false chooser standing reception done → has_ended done.standing.line ≡ false → quiets_in done.standing.line < MOST_QUIETS
  hears_quiet (Piece bytes) done (frames, hears_it, e) on =
      subst (λ (d : Done). quiets_in d.standing.line < MOST_QUIETS) (sym e) (frames_quiet chooser (with_begun standing []) (scanned standing bytes).shapes frames hears_it before)
  hears_quiet Silence done (broken, hears_it, is) on =
      let next : done.standing ≡ (stepped broken.standing (quiets broken.standing.line)).standing = ap (λ (d : Done). d.standing) is in
      let c = quiet_counts broken.standing.line (sym (ap (λ (s : Standing). has_ended s.line) next) ∙ on) in
      let counted : quiets_in done.standing.line ≡ quiets_in (quiets broken.standing.line).next = ap (λ (s : Standing). quiets_in s.line) next in
      omega (arith, counted, c.below)
  hears_quiet Cut done is on = absurd (both (has_ended done.standing.line) on (ap (λ (d : Done). has_ended d.standing.line) is ∙ unplugged_ends standing.line))

module _ (chooser : Chooser) (standing : Standing) (quiet : IsQuietSoFar standing) where
  unless_less : (ended : Bool) → has_ended standing.line ≡ ended → (reception : Reception) (done : Done) → IsSomething (Some reception) → HearsUnless ended chooser standing reception done → done.standing.heard < NOISE_BYTES
      → has_ended done.standing.line ≡ false → patience done.standing < patience standing
  unless_less true ended reception done some is below on = absurd (both (has_ended done.standing.line) on (ap (λ (d : Done). has_ended d.standing.line) is ∙ ended))
  unless_less false goes reception done some hears_it below on = hears_less chooser standing goes quiet reception done some hears_it below on

  unless_quiet : (ended : Bool) → has_ended standing.line ≡ ended → (reception : Reception) (done : Done) → HearsUnless ended chooser standing reception done → has_ended done.standing.line ≡ false
      → quiets_in done.standing.line < MOST_QUIETS
  unless_quiet true ended reception done is on = absurd (both (has_ended done.standing.line) on (ap (λ (d : Done). has_ended d.standing.line) is ∙ ended))
  unless_quiet false goes reception done hears_it on = hears_quiet chooser standing goes quiet reception done hears_it on

  polls_less : (first : Bool) → standing.first ≡ first → (heard : Option Reception) (done : Done) → IsSomething heard → PollsAt first chooser standing heard done → done.standing.heard < NOISE_BYTES
      → has_ended done.standing.line ≡ false → patience done.standing < patience standing
  polls_less true due None done some is below on =
      let one : first_patience standing.first ≡ 1 = ap first_patience due in
      let next : patience done.standing ≡ patience (begins standing).standing = ap (λ (d : Done). patience d.standing) is in
      omega (arith, one, next)
  polls_less true due (Some reception) done some p below on = absurd p
  polls_less false due None done some p below on = absurd p
  polls_less false due (Some reception) done some hears_it below on = unless_less (has_ended standing.line) refl reception done some hears_it below on

  polls_quiet : (first : Bool) (heard : Option Reception) (done : Done) → PollsAt first chooser standing heard done → has_ended done.standing.line ≡ false → quiets_in done.standing.line < MOST_QUIETS
  polls_quiet true None done is on =
      subst (λ (d : Done). quiets_in d.standing.line < MOST_QUIETS) (sym is) (quiet (sym (ap (λ (d : Done). has_ended d.standing.line) is) ∙ on)).1
  polls_quiet true (Some reception) done p on = absurd p
  polls_quiet false None done p on = absurd p
  polls_quiet false (Some reception) done hears_it on = unless_quiet (has_ended standing.line) refl reception done hears_it on

  -- a poll that goes on costs some patience
  pub next_less : (heard : Option Reception) (done : Done) → IsSomething heard → Next chooser standing heard done → done.standing.heard < NOISE_BYTES → has_ended done.standing.line ≡ false → patience done.standing < patience standing
  next_less heard done some next below on = polls_less standing.first refl heard done some next.polls below on

  pub next_quiet : (heard : Option Reception) (done : Done) → Next chooser standing heard done → has_ended done.standing.line ≡ false → quiets_in done.standing.line < MOST_QUIETS
  next_quiet heard done next on = polls_quiet standing.first heard done next.polls on

-- a poll leaves fewer Quiets in a row than end a session
pub polled_quiet : (tells : Type 0) (chooser : Chooser) (standing to : Standing) (f : Bool) (old new : Told) → Polled tells chooser (with_flags standing f false) to old new → IsQuietSoFar standing → has_ended to.line ≡ false
    → quiets_in to.line < MOST_QUIETS
polled_quiet tells chooser standing to f old new p quiet on =
    subst (λ (s : Standing). quiets_in s.line < MOST_QUIETS) p.comes
    (next_quiet chooser (with_flags standing f false) quiet p.heard p.done p.next (ap (λ (s : Standing). has_ended s.line) p.comes ∙ on))

-- a poll that goes on costs some patience
pub polled_less : (tells : Type 0) (chooser : Chooser) (standing to : Standing) (old new : Told) → Polled tells chooser standing to old new → IsQuietSoFar standing → IsQuietSoFar to → has_ended to.line ≡ false
    → patience to < patience standing
polled_less tells chooser standing to old new p quiet still on =
    subst (λ (s : Standing). patience s < patience standing) p.comes
    (next_less chooser standing quiet p.heard p.done p.something p.next (subst (λ (s : Standing). s.heard < NOISE_BYTES) (sym p.comes) (still on).0) (ap (λ (s : Standing). has_ended s.line) p.comes ∙ on))

ended_quiets : (line : Line) → has_ended line ≡ true → quiets_in line ≡ 0
ended_quiets (Ended end) e = refl
ended_quiets (Ready own) e = absurd (cc)
ended_quiets (Bidding own load) e = absurd (cc)
ended_quiets (Awaiting own sending) e = absurd (cc)
ended_quiets (SentAll own) e = absurd (cc)
ended_quiets (InText own taking) e = absurd (cc)
ended_quiets (Finished own text) e = absurd (cc)

pub some_patience : (standing : Standing) → IsQuietSoFar standing → 0 < patience standing
some_patience standing quiet = by_end (has_ended standing.line) refl
  where
    by_end : (ended : Bool) → has_ended standing.line ≡ ended → 0 < patience standing
    by_end true e = let none = ended_quiets standing.line e in omega (arith, none)
    by_end false e = let below = (quiet e).1 in omega (arith, below)

pub polled_costs : (tells : Type 0) (chooser : Chooser) (standing to : Standing) (f : Bool) (old new : Told) → Polled tells chooser (with_flags standing f false) to old new → IsQuietSoFar standing → IsQuietSoFar to
    → CostsPatience (with_flags standing f false) to
polled_costs tells chooser standing to f old new p quiet still = record {
  some = some_patience (with_flags standing f false) quiet;
  less = λ on. polled_less tells chooser (with_flags standing f false) to old new p quiet still on;
}

pub first_patient : (header : Header) (entries : List Entry) → patience (first_standing header entries) ≤ 60000031
first_patient header entries = by_role header.role
  where
    by_role : (role : Role) → patience (first_standing (record header { role = role }) entries) ≤ 60000031
    by_role Supplier = omega arith
    by_role Receiver = omega arith
