-- A poll counts no more bytes than it hears.
use Rattle.std.proofs.Common.{◌≡◌, ◌+◌, ◌≤◌, Bool, true, false, List, [], ◌∷◌, length, Option, Some, None, ◌∙◌, ap, arith, length-append}
use Rattle.dsd_record.specs.Choices.{Chooser}
use Rattle.dsd_station.specs.declared.call.Reception.{Reception}
use Rattle.dsd_station.specs.declared.call.Reception.TheVariants.{Piece, Silence, Cut}
use Rattle.dex_line.specs.FrameShapes.{FrameShape}
use Rattle.dex_line.specs.Scanning.{quieted}
use Rattle.dex_handshake.specs.LineTable.{Line, Ready, Bidding, Awaiting, SentAll, InText, Finished, Ended, hears}
use Rattle.dsd_end.specs.PollStep.{ActsAt, Done, Hears, HearsBroken, HearsFrame, HearsFrames, HearsUnless, Next, PollsAt, stepped}
use Rattle.dsd_end.specs.PollsHeard.{receptions_of}
use Rattle.dsd_end.specs.Runs.{bytes_heard}
use Rattle.dsd_end.specs.Standings.{Standing, has_ended, with_begun}

module _ (chooser : Chooser) where
  acts_count : (standing : Standing) (line : Line) (act : Done) → ActsAt chooser standing line act → act.standing.heard ≡ standing.heard
  acts_count standing (Finished own text) act (desk, load, turned, e) = ap (λ (d : Done). d.standing.heard) e
  acts_count standing (Ready own) act e = ap (λ (d : Done). d.standing.heard) e
  acts_count standing (Bidding own load) act e = ap (λ (d : Done). d.standing.heard) e
  acts_count standing (Awaiting own sending) act e = ap (λ (d : Done). d.standing.heard) e
  acts_count standing (SentAll own) act e = ap (λ (d : Done). d.standing.heard) e
  acts_count standing (InText own taking) act e = ap (λ (d : Done). d.standing.heard) e
  acts_count standing (Ended end) act e = ap (λ (d : Done). d.standing.heard) e

  frame_counts : (standing : Standing) (frame : FrameShape) (done : Done) → HearsFrame chooser standing frame done → done.standing.heard ≡ standing.heard
  frame_counts standing frame done (act, acts, e) =
      ap (λ (d : Done). d.standing.heard) e ∙ acts_count (stepped standing (hears standing.line frame)).standing (hears standing.line frame).next act acts

  frames_count : (standing : Standing) (frames : List FrameShape) (done : Done) → HearsFrames chooser standing frames done → done.standing.heard ≡ standing.heard
  frames_count standing [] done e = ap (λ (d : Done). d.standing.heard) e
  frames_count standing (frame ∷ frames) done (one, rest, first, others, e) =
      ap (λ (d : Done). d.standing.heard) e ∙ frames_count one.standing frames rest others ∙ frame_counts standing frame one first

  broken_counts : (standing : Standing) (frame : Option FrameShape) (done : Done) → HearsBroken chooser standing frame done → done.standing.heard ≡ standing.heard
  broken_counts standing None done e = ap (λ (d : Done). d.standing.heard) e
  broken_counts standing (Some frame) done hears_it = frame_counts standing frame done hears_it

  hears_count : (standing : Standing) (heard : Reception) (done : Done) → Hears chooser standing heard done → done.standing.heard ≤ standing.heard + length (bytes_heard (heard ∷ []))
  hears_count standing (Piece piece) done (frames, each, e) =
      let count : done.standing.heard ≡ frames.standing.heard + length piece = ap (λ (d : Done). d.standing.heard) e in
      let same : frames.standing.heard ≡ standing.heard = frames_count (with_begun standing []) _ frames each in
      let long = length-append piece [] in
      omega (arith, count, same, long)
  hears_count standing Silence done (broken, hears_it, e) =
      let same : done.standing.heard ≡ standing.heard = ap (λ (d : Done). d.standing.heard) e ∙ broken_counts (with_begun standing []) (quieted standing.begun) broken hears_it in
      omega (arith, same)
  hears_count standing Cut done e = let same : done.standing.heard ≡ standing.heard = ap (λ (d : Done). d.standing.heard) e in omega (arith, same)

  unless_counts : (ended : Bool) (standing : Standing) (heard : Reception) (done : Done) → HearsUnless ended chooser standing heard done → done.standing.heard ≤ standing.heard + length (bytes_heard (heard ∷ []))
  unless_counts true standing heard done e = let same : done.standing.heard ≡ standing.heard = ap (λ (d : Done). d.standing.heard) e in omega (arith, same)
  unless_counts false standing heard done hears_it = hears_count standing heard done hears_it

  polls_count : (first : Bool) (standing : Standing) (heard : Option Reception) (done : Done) → PollsAt first chooser standing heard done
      → done.standing.heard ≤ standing.heard + length (bytes_heard (receptions_of (heard ∷ [])))
  polls_count true standing None done e = let same : done.standing.heard ≡ standing.heard = ap (λ (d : Done). d.standing.heard) e in omega (arith, same)
  polls_count true standing (Some heard) done polls = absurd polls
  polls_count false standing None done polls = absurd polls
  polls_count false standing (Some heard) done polls = unless_counts (has_ended standing.line) standing heard done polls

  pub next_counts : (standing : Standing) (heard : Option Reception) (done : Done) → Next chooser standing heard done → done.standing.heard ≤ standing.heard + length (bytes_heard (receptions_of (heard ∷ [])))
  next_counts standing heard done next = polls_count standing.first standing heard done next.polls
