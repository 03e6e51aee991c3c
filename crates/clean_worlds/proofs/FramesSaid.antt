-- Calls that go well say frames, each in one `speak`.
use Rattle.std.proofs.Common.{◌≡◌, ℕ, ◌+◌, Bool, true, false, List, [], ◌∷◌, ◌++◌, map, if◌then◌else◌, refl, sym, ◌∙◌, ap, arith, append-nil}
use Rattle.std.specs.List.{flat_map}
use Rattle.std.proofs.lemmas.List.{map-append}
use Rattle.std.proofs.lemmas.List.Concat.{flat_map-append}
use Rattle.dsd_station.specs.declared.call.Call.{Call}
use Rattle.dsd_station.specs.declared.call.Call.TheVariants.{Attach, Size, Read, Write, Sync, Listen, Speak, Restart}
use Rattle.dsd_station.specs.declared.call.Outcome.TheVariants.{Done, Failing, Stopped}
use Rattle.dsd_station.specs.Failures.{failed_in, has_failed}
use Rattle.dsd_station.specs.Heard.{said_by, said_in}
use Rattle.dex_line.specs.FrameShapes.{FrameShape, Enq}
use Rattle.dex_line.specs.FrameSpelling.{spelling}
use Rattle.dex_line.specs.Hearing.{AreSpoken}
use Rattle.dex_line.proofs.Spoken.{one_parse}
use Rattle.cable_world.specs.Living.{AreCallsOf, MayPoll}
use Rattle.cable_world.specs.Steps.{Poll, frames_in, whole_by}

pub spoken_both : (a b : List FrameShape) → AreSpoken a → AreSpoken b → AreSpoken (a ++ b)
spoken_both [] b x y = y
spoken_both (frame ∷ a) b x y = (x.0, spoken_both a b x.1 y)

-- these bytes were said, frame by frame
pub record SaysFrames (whole : List (List ℕ)) (said : List ℕ) : Type 0 where
  pub frames : List FrameShape
  pub spoken : AreSpoken frames
  pub each : whole ≡ map spelling frames
  pub bytes : said ≡ flat_map spelling frames

says_none : SaysFrames [] []
says_none = record { frames = []; spoken = tt; each = refl; bytes = refl }

call_says : (call : Call) → MayPoll call → has_failed call ≡ false → SaysFrames (whole_by call) (said_by call)
call_says (Attach journal port answer) may fine = says_none
call_says (Size answer) may fine = says_none
call_says (Read at room answer) may fine = says_none
call_says (Write at bytes outcome) may fine = says_none
call_says (Sync outcome) may fine = says_none
call_says (Listen answer) may fine = says_none
call_says (Speak bytes Done) (frame, spoken, is) fine = record {
  frames = frame ∷ [];
  spoken = (spoken, tt);
  each = ap (λ (l : List ℕ). l ∷ []) is;
  bytes = is ∙ sym (append-nil (spelling frame));
}
call_says (Speak bytes Failing) may fine = absurd (cc)
call_says (Speak bytes (Stopped pick)) may fine = absurd (cc)
call_says Restart may fine = says_none

first_fine : (failed : Bool) (n : ℕ) → (if failed then 1 else 0) + n ≡ 0 → (failed ≡ false) × (n ≡ 0)
first_fine true n none = absurd (omega (arith, none))
first_fine false n none = (refl, omega (arith, none))

pub part_says : (part : List Call) → AreCallsOf Poll part → failed_in part ≡ 0 → SaysFrames (frames_in part) (said_in part)
part_says [] may fine = says_none
part_says (call ∷ part) may fine =
    let (here, behind) = first_fine (has_failed call) (failed_in part) fine in
    let one = call_says call may.0 here in
    let rest = part_says part may.1 behind in
    record {
      frames = one.frames ++ rest.frames;
      spoken = spoken_both one.frames rest.frames one.spoken rest.spoken;
      each =
          ap (λ (l : List (List ℕ)). l ++ frames_in part) one.each ∙ ap (λ (l : List (List ℕ)). map spelling one.frames ++ l) rest.each
          ∙ sym (map-append spelling one.frames rest.frames);
      bytes =
          ap (λ (l : List ℕ). l ++ said_in part) one.bytes ∙ ap (λ (l : List ℕ). flat_map spelling one.frames ++ l) rest.bytes
          ∙ sym (flat_map-append spelling one.frames rest.frames);
    }

-- the same bytes are the same frames
pub same_frames : (a b : List FrameShape) → AreSpoken a → AreSpoken b → flat_map spelling a ≡ flat_map spelling b → a ≡ b
same_frames a b x y same =
    (one_parse a b [] [] x y (Enq, 5, [], tt, refl) (Enq, 5, [], tt, refl) (append-nil (flat_map spelling a) ∙ same ∙ sym (append-nil (flat_map spelling b)))).0
