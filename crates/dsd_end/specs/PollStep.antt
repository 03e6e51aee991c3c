-- One poll: the table over the frames that it hears completed, and an own turn where it has come.
use Rattle.std.specs.Prelude.{◌≡◌, ℕ, ◌+◌, Bool, true, false, List, [], ◌∷◌, ◌++◌, length, Option, Some, None}
use Rattle.std.specs.List.{flat_map}
use Rattle.dex_line.specs.FrameShapes.{FrameShape, Enq}
use Rattle.dex_line.specs.FrameSpelling.{spelling}
use Rattle.dex_line.specs.Hearing.{Hearing, hear_all, hearing}
use Rattle.dex_line.specs.Scanning.{quieted}
use Rattle.dex_handshake.specs.LineRun.{load_of, said_of}
use Rattle.dex_handshake.specs.LineTable.{Line, LineStep, Ready, Bidding, Awaiting, SentAll, InText, Finished, Ended, gives, hears, quiets, unplugs}
use Rattle.dsd_record.specs.Choices.{Chooser}
use Rattle.dsd_station.specs.declared.call.Reception.{Reception}
use Rattle.dsd_station.specs.declared.call.Reception.TheVariants.{Piece, Silence, Cut}
use Rattle.own_turn.specs.OwnTurn.{Desk, Turned}
use Rattle.dsd_end.specs.Standings.{Standing, has_ended, with_begun, with_line}

-- what an end has done: the standing that it has come to, the frames that it said, and the loads that it gave in its own turns
pub record Done : Type 0 where
  pub standing : Standing
  pub said : List FrameShape
  pub loads : List (List ℕ)

abbrev pub nothing : Standing → Done
nothing standing = record { standing = standing; said = []; loads = [] }

-- the one, and then the other
abbrev pub joined : Done → Done → Done
joined one other = record { standing = other.standing; said = one.said ++ other.said; loads = one.loads ++ other.loads }

-- the bytes said
abbrev pub bytes_of : Done → List ℕ
bytes_of done = flat_map spelling done.said

-- a step of the line that says something
abbrev pub stepped : Standing → LineStep → Done
stepped standing step = record { standing = with_line standing step.next; said = said_of step.say; loads = [] }

-- ---- own turns

-- the load is given, and the turn leaves the desk so
abbrev pub gave : Standing → Line → Desk → List ℕ → Done
gave standing line desk load = record {
  standing = record standing { line = (gives line (load_of load)).next; desk = desk };
  said = said_of (gives line (load_of load)).say;
  loads = load ∷ [];
}

-- the own turn of a standing, where its line has come to one
abbrev pub ActsAt : Chooser → Standing → Line → Done → Type 0
ActsAt chooser standing (Finished own text) done =
    (desk : Desk) × (load : List ℕ) × Turned standing.header chooser standing.desk text desk load × (done ≡ gave standing (Finished own text) desk load)
ActsAt chooser standing (Ready own) done = done ≡ nothing standing
ActsAt chooser standing (Bidding own load) done = done ≡ nothing standing
ActsAt chooser standing (Awaiting own sending) done = done ≡ nothing standing
ActsAt chooser standing (SentAll own) done = done ≡ nothing standing
ActsAt chooser standing (InText own taking) done = done ≡ nothing standing
ActsAt chooser standing (Ended end) done = done ≡ nothing standing

abbrev pub Acts : Chooser → Standing → Done → Type 0
Acts chooser standing done = ActsAt chooser standing standing.line done

-- ---- frames

-- a frame: the row of the table, and then the own turn where it has come
abbrev pub HearsFrame : Chooser → Standing → FrameShape → Done → Type 0
HearsFrame chooser standing frame done =
    (turn : Done) × Acts chooser (stepped standing (hears standing.line frame)).standing turn
    × (done ≡ joined (stepped standing (hears standing.line frame)) turn)

abbrev pub HearsFrames : Chooser → Standing → List FrameShape → Done → Type 0
HearsFrames chooser standing [] done = done ≡ nothing standing
HearsFrames chooser standing (frame ∷ frames) done =
    (one : Done) × (rest : Done) × HearsFrame chooser standing frame one × HearsFrames chooser one.standing frames rest × (done ≡ joined one rest)

-- ---- what a listen hears

-- nothing begins once the session has ended
abbrev pub begun_at : Line → List ℕ → List ℕ
begun_at (Ended end) begun = []
begun_at (Ready own) begun = begun
begun_at (Bidding own load) begun = begun
begun_at (Awaiting own sending) begun = begun
begun_at (SentAll own) begun = begun
begun_at (InText own taking) begun = begun
begun_at (Finished own text) begun = begun

-- behind a piece: what has begun in it, and its bytes are counted
abbrev pub behind_piece : Standing → ℕ → List ℕ → Standing
behind_piece standing size begun = record standing { begun = begun_at standing.line begun; heard = standing.heard + size }

-- the frames that a piece completes
abbrev pub scanned : Standing → List ℕ → Hearing
scanned standing bytes = hear_all (hearing standing.begun []) bytes

abbrev pub HearsPiece : Chooser → Standing → List ℕ → Done → Type 0
HearsPiece chooser standing bytes done =
    (frames : Done) × HearsFrames chooser (with_begun standing []) (scanned standing bytes).shapes frames
    × (done ≡ record frames { standing = behind_piece frames.standing (length bytes) (scanned standing bytes).begun })

-- a silence: what has begun is Bad, and then it is a Quiet of the table
abbrev pub HearsBroken : Chooser → Standing → Option FrameShape → Done → Type 0
HearsBroken chooser standing None done = done ≡ nothing standing
HearsBroken chooser standing (Some frame) done = HearsFrame chooser standing frame done

abbrev pub HearsSilence : Chooser → Standing → Done → Type 0
HearsSilence chooser standing done =
    (broken : Done) × HearsBroken chooser (with_begun standing []) (quieted standing.begun) broken
    × (done ≡ joined broken (stepped broken.standing (quiets broken.standing.line)))

abbrev pub HearsCut : Standing → Done → Type 0
HearsCut standing done = done ≡ nothing (record standing { line = unplugs standing.line; begun = [] })

abbrev pub Hears : Chooser → Standing → Reception → Done → Type 0
Hears chooser standing (Piece bytes) done = HearsPiece chooser standing bytes done
Hears chooser standing Silence done = HearsSilence chooser standing done
Hears chooser standing Cut done = HearsCut standing done

-- once the session has ended, nothing changes
abbrev pub HearsUnless : Bool → Chooser → Standing → Reception → Done → Type 0
HearsUnless true chooser standing heard done = done ≡ nothing standing
HearsUnless false chooser standing heard done = Hears chooser standing heard done

-- ---- polls

-- the supplier's first poll says Enq, and listens to nothing
abbrev pub begins : Standing → Done
begins standing = record { standing = record standing { first = false }; said = Enq ∷ []; loads = [] }

-- whether the first poll is still to come, and what is heard, if it listens
abbrev pub PollsAt : Bool → Chooser → Standing → Option Reception → Done → Type 0
PollsAt true chooser standing None done = done ≡ begins standing
PollsAt true chooser standing (Some heard) done = ⊥
PollsAt false chooser standing None done = ⊥
PollsAt false chooser standing (Some heard) done = HearsUnless (has_ended standing.line) chooser standing heard done

-- One poll that answers no fault, with what its listen heard, if it listened
pub record Next (chooser : Chooser) (standing : Standing) (heard : Option Reception) (done : Done) : Type 0 where
  pub fine : standing.failed ≡ false
  pub polls : PollsAt standing.first chooser standing heard done

-- some polls, one after another, each with what it heard, if it listened
abbrev pub Along : Chooser → Standing → List (Option Reception) → Done → Type 0
Along chooser standing [] done = done ≡ nothing standing
Along chooser standing (heard ∷ more) done =
    (one : Done) × (rest : Done) × Next chooser standing heard one × Along chooser one.standing more rest × (done ≡ joined one rest)
