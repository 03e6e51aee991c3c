-- What an end does with the bytes of a piece, a front of them after another.
use Rattle.std.specs.Prelude.{◌≡◌, ◌⊎◌, ℕ, List, [], ◌∷◌}
use Rattle.dex_line.specs.FrameShapes.{FrameShape}
use Rattle.dex_line.specs.Hearing.{hearing}
use Rattle.dsd_record.specs.Choices.{Chooser}
use Rattle.dsd_end.specs.PollStep.{Done, HearsFrame, HearsFrames, begun_at, nothing, scanned}
use Rattle.dsd_end.specs.Standings.{Standing, with_begun}

-- the bytes go on what has begun
abbrev pub GoesOn : Standing → List ℕ → Done → Type 0
GoesOn standing front done = (begun : List ℕ) × (scanned standing front ≡ hearing begun []) × (done ≡ nothing (with_begun standing begun))

-- the bytes end a frame, which is heard
abbrev pub EndsFrame : Chooser → Standing → List ℕ → Done → Type 0
EndsFrame chooser standing front done =
    (frame : FrameShape) × (scanned standing front ≡ hearing [] (frame ∷ [])) × HearsFrame chooser (with_begun standing []) frame done

-- the bytes up to the first frame that they complete, or all of them
abbrev pub HearsFront : Chooser → Standing → List ℕ → Done → Type 0
HearsFront chooser standing front done = GoesOn standing front done ⊎ EndsFrame chooser standing front done

-- what has begun behind some frames
abbrev pub with_begun_at : Done → List ℕ → Done
with_begun_at done begun = record done { standing = with_begun done.standing (begun_at done.standing.line begun) }

-- all frames that the bytes complete, and what has begun behind them
abbrev pub HearsBytes : Chooser → Standing → List ℕ → Done → Type 0
HearsBytes chooser standing bytes done =
    (frames : Done) × HearsFrames chooser (with_begun standing []) (scanned standing bytes).shapes frames × (done ≡ with_begun_at frames (scanned standing bytes).begun)
