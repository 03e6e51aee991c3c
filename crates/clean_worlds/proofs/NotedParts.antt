-- The steps of a world in two parts.
use Rattle.std.proofs.Common.{◌≡◌, List, [], ◌∷◌, ◌++◌, Option, refl, ◌∙◌, ap, subst}
use Rattle.std.proofs.lemmas.List.{map-append}
use Rattle.dsd_values.specs.declared.role.Role.{Role}
use Rattle.dsd_record.specs.Choices.{Chooser}
use Rattle.dsd_station.specs.Replayed.{State}
use Rattle.dsd_journal.specs.declared.header.Header.{Header}
use Rattle.dsd_end.specs.Standings.{Standing}
use Rattle.cable_world.specs.Diligence.{ComesBy}
use Rattle.cable_world.specs.Leaving.{behind_if, state_after}
use Rattle.cable_world.specs.Living.{CallSo}
use Rattle.cable_world.specs.Noted.{Noted, step_of, steps_of}
use Rattle.cable_world.specs.Steps.{WorldStep, same_role}
use Rattle.clean_worlds.specs.CleanBeginnings.{MadeWell}
use Rattle.clean_worlds.specs.WholeFrames.{GoWell}
use Rattle.clean_worlds.specs.WorldHalls.{BothCome}

pub split_steps : (first rest : List WorldStep) (noted : List Noted) → steps_of noted ≡ first ++ rest → (front : List Noted) × (back : List Noted) × (noted ≡ front ++ back) × (steps_of front ≡ first) × (steps_of back ≡ rest)
split_steps [] rest noted e = ([], noted, refl, refl, e)
split_steps (step ∷ first) rest [] e = absurd (cc)
split_steps (step ∷ first) rest (one ∷ noted) e =
    let head : step_of one ≡ step = cc in
    let tail : steps_of noted ≡ first ++ rest = cc in
    let (front, back, both, is, then_is) = split_steps first rest noted tail in
    (one ∷ front, back, ap (λ (l : List Noted). one ∷ l) both, ap (λ (l : List WorldStep). step_of one ∷ l) is ∙ ap (λ (s : WorldStep). s ∷ first) head, then_is)

pub split_comes : (role : Role) (chooser : Chooser) (header : Header) (front back : List Noted) (state : State) (before after : Option Standing) → ComesBy role chooser header state before (front ++ back) after
    → (mid : Option Standing) × ComesBy role chooser header state before front mid × ComesBy role chooser header (state_after role state (steps_of front)) mid back after
split_comes role chooser header [] back state before after comes = (before, refl, comes)
split_comes role chooser header (one ∷ front) back state before after (next, follows, comes) =
    let (mid, a, b) = split_comes role chooser header front back (behind_if (same_role role one.role) state (step_of one)) next after comes in
    (mid, (next, follows, a), b)

pub split_called : (front back : List WorldStep) → CallSo (front ++ back) → CallSo front × CallSo back
split_called [] back calls = (tt, calls)
split_called (one ∷ front) back calls = let (a, b) = split_called front back calls.1 in ((calls.0, a), b)

pub split_calls : (front back : List Noted) → CallSo (steps_of (front ++ back)) → CallSo (steps_of front) × CallSo (steps_of back)
split_calls front back calls = split_called (steps_of front) (steps_of back) (subst CallSo (map-append step_of front back) calls)

pub split_well : (front back : List Noted) → GoWell (front ++ back) → GoWell front × GoWell back
split_well [] back well = (tt, well)
split_well (one ∷ front) back well = let (a, b) = split_well front back well.1 in ((well.0, a), b)

-- steps by which both ends come, in two parts
pub record ComeParts (chooser : Role → Chooser) (header : Role → Header) (state : Role → State) (before : Role → Option Standing) (noted : List Noted) (first rest : List WorldStep) (after : Role → Option Standing) : Type 0 where
  pub front : List Noted
  pub back : List Noted
  pub parts : noted ≡ front ++ back
  pub is : steps_of front ≡ first
  pub then_is : steps_of back ≡ rest
  pub mid : Role → Option Standing
  pub come : BothCome chooser header state before front mid
  pub come_then : BothCome chooser header (λ (role : Role). state_after role (state role) first) mid back after
  pub calls : CallSo (steps_of front)
  pub calls_then : CallSo (steps_of back)

pub come_parts : (chooser : Role → Chooser) (header : Role → Header) (state : Role → State) (before : Role → Option Standing) (noted : List Noted) (first rest : List WorldStep) (after : Role → Option Standing)
    → BothCome chooser header state before noted after → CallSo (steps_of noted) → steps_of noted ≡ first ++ rest → ComeParts chooser header state before noted first rest after
come_parts chooser header state before noted first rest after come calls joined =
    let (front, back, both, is, then_is) = split_steps first rest noted joined in
    let (now, later) = split_calls front back (subst (λ (l : List Noted). CallSo (steps_of l)) both calls) in
    let cut = λ (role : Role). split_comes role (chooser role) (header role) front back (state role) (before role) (after role)
    (subst (λ (l : List Noted). ComesBy role (chooser role) (header role) (state role) (before role) l (after role)) both (come role)) in
    record {
      front = front;
      back = back;
      parts = both;
      is = is;
      then_is = then_is;
      mid = λ (role : Role). (cut role).0;
      come = λ role. (cut role).1;
      come_then = λ role. subst (λ (l : List WorldStep). ComesBy role (chooser role) (header role) (state_after role (state role) l) (cut role).0 back (after role)) is (cut role).2;
      calls = now;
      calls_then = later;
    }

-- the first of these steps, and then the others
pub record MadeBoth (chooser : Role → Chooser) (header : Role → Header) (state : Role → State) (before : Role → Option Standing) (first rest : List WorldStep) (after : Role → Option Standing) : Type 0 where
  pub mid : Role → Option Standing
  pub front : MadeWell chooser header state before first mid
  pub back : MadeWell chooser header (λ (role : Role). state_after role (state role) first) mid rest after

pub split_made : (chooser : Role → Chooser) (header : Role → Header) (state : Role → State) (before : Role → Option Standing) (steps first rest : List WorldStep) (after : Role → Option Standing)
    → MadeWell chooser header state before steps after → steps ≡ first ++ rest → MadeBoth chooser header state before first rest after
split_made chooser header state before steps first rest after made parts =
    let (front, back, both, is, then_is) = split_steps first rest made.noted (made.is ∙ parts) in
    let come : BothCome chooser header state before (front ++ back) after = subst (λ (l : List Noted). BothCome chooser header state before l after) both made.come in
    let calls = split_calls front back (subst (λ (l : List Noted). CallSo (steps_of l)) both made.calls) in
    let well = split_well front back (subst GoWell both made.well) in
    let cut = λ (role : Role). split_comes role (chooser role) (header role) front back (state role) (before role) (after role) (come role) in
    record {
      mid = λ (role : Role). (cut role).0;
      front = record { noted = front; is = is; come = λ role. (cut role).1; calls = calls.0; well = well.0 };
      back = record {
        noted = back;
        is = then_is;
        come = λ role. subst (λ (l : List WorldStep). ComesBy role (chooser role) (header role) (state_after role (state role) l) (cut role).0 back (after role)) is (cut role).2;
        calls = calls.1;
        well = well.1;
      };
    }
