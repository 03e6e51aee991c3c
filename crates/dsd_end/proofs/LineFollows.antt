-- How a run of the line follows what an end does: it comes to the same line, says the same, and no own turn stands open.
use Rattle.std.proofs.Common.{◌≡◌, ℕ, Bool, true, false, List, [], ◌∷◌, ◌++◌, Option, None, refl, sym, ◌∙◌, ap, subst, append_assoc, append-nil}
use Rattle.std.specs.List.{fold}
use Rattle.std.specs.Prelude.{◌%◌, ◌==◌, if◌then◌else◌, nat_lt}
use Rattle.dex_line.specs.FrameShapes.{FrameShape, Enq, Eot}
use Rattle.dex_handshake.specs.LineTable.{Common, Line, LineStep, Ready, Bidding, Awaiting, SentAll, InText, Finished, Ended, ends, eot_again, gives, one_quiet, quiets, says, says_nothing, turn_of, unless_silent, unplugs}
use Rattle.dex_handshake.specs.declared.session_end.SessionEnd.TheVariants.{Silent}
use Rattle.dex_handshake.specs.declared.session_end.TheConstants.{MOST_QUIETS}
use Rattle.dex_handshake.specs.LineRun.{Heard, Run, Turns, ended_step, load_of, run_hears, said_of, with_text, with_turn}
use Rattle.dsd_record.specs.Choices.{Chooser}
use Rattle.dsd_end.specs.PollStep.{ActsAt, Done, joined, nothing}
use Rattle.dsd_end.specs.Standings.{Standing}

abbrev pub run_at : Line → Turns → List FrameShape → Run
run_at line turns said = record { end = record { line = line; turns = turns }; said = said }

-- no own turn stands open
abbrev pub IsShut : Line → Type 0
IsShut line = turn_of line ≡ None

-- so it is behind each front of what is heard
abbrev pub StaysShut : Run → List Heard → Type 0
StaysShut run [] = IsShut run.end.line
StaysShut run (heard ∷ more) = IsShut run.end.line × StaysShut (run_hears run heard) more

shut_on : (run : Run) (a b : List Heard) → StaysShut run a → StaysShut (fold run_hears run a) b → StaysShut run (a ++ b)
shut_on run [] b s t = t
shut_on run (heard ∷ a) b s t = (s.0, shut_on (run_hears run heard) a b s.1 t)

pub shut_front : (run : Run) (heard front back : List Heard) → heard ≡ front ++ back → StaysShut run heard → IsShut (fold run_hears run front).end.line
shut_front run [] [] back e s = s
shut_front run (first ∷ heard) [] back e s = s.0
shut_front run [] (first ∷ front) back e s = absurd (cc)
shut_front run (first ∷ heard) (next ∷ front) back e s =
    let same : first ≡ next = cc in
    let on : heard ≡ front ++ back = cc in
    shut_front (run_hears run next) heard front back on (subst (λ (h : Heard). StaysShut (run_hears run h) heard) same s.1)

-- over what is heard the run comes to where the end has come, with these texts still waiting, and no own turn stands open
pub record Reaches (line : Line) (turns : Turns) (said : List FrameShape) (heard : List Heard) (done : Done) (more : List (List ℕ)) : Type 0 where
  pub after : Turns
  pub waits : after.waiting ≡ more
  pub is : fold run_hears (run_at line turns said) heard ≡ run_at done.standing.line after (said ++ done.said)
  pub shut : IsShut done.standing.line
  pub stays : StaysShut (run_at line turns said) heard

-- it does so from any turns for which the loads wait
abbrev pub Follows : Line → List Heard → Done → Type 0
Follows line heard done = (turns : Turns) (said : List FrameShape) (more : List (List ℕ)) → IsShut line → turns.waiting ≡ done.loads ++ more → Reaches line turns said heard done more

fold_on : (run : Run) (a b : List Heard) → fold run_hears run (a ++ b) ≡ fold run_hears (fold run_hears run a) b
fold_on run [] b = refl
fold_on run (heard ∷ a) b = fold_on (run_hears run heard) a b

pub follows_nothing : (standing : Standing) → Follows standing.line [] (nothing standing)
follows_nothing standing turns said more shut e = record { after = turns; waits = e; is = ap (run_at standing.line turns) (sym (append-nil said)); shut = shut; stays = shut }

pub follows_on : (line : Line) (a b : List Heard) (one rest : Done) → Follows line a one → Follows one.standing.line b rest → Follows line (a ++ b) (joined one rest)
follows_on line a b one rest f g turns said more shut e =
    let first = f turns said (rest.loads ++ more) shut (e ∙ append_assoc one.loads rest.loads more) in
    let second = g first.after (said ++ one.said) more first.shut first.waits in
    record {
      after = second.after;
      waits = second.waits;
      is = fold_on (run_at line turns said) a b ∙ ap (λ (run : Run). fold run_hears run b) first.is ∙ second.is
          ∙ ap (run_at rest.standing.line second.after) (append_assoc said one.said rest.said);
      shut = second.shut;
      stays = shut_on (run_at line turns said) a b first.stays (subst (λ (run : Run). StaysShut run b) (sym first.is) second.stays);
    }

pub follows_as : (line : Line) (heard : List Heard) (done done' : Done) → done ≡ done' → Follows line heard done' → Follows line heard done
follows_as line heard done done' e f = subst (λ (d : Done). Follows line heard d) (sym e) f

-- what the run comes to is known by the line, by what was said and by the loads
pub follows_alike : (line : Line) (heard : List Heard) (done done' : Done) → done'.standing.line ≡ done.standing.line → done'.said ≡ done.said → done'.loads ≡ done.loads
    → Follows line heard done → Follows line heard done'
follows_alike line heard done done' same said_same loads_same f turns said more shut waits =
    let r = f turns said more shut (waits ∙ ap (λ (loads : List (List ℕ)). loads ++ more) loads_same) in
    record {
      after = r.after;
      waits = r.waits;
      is = r.is ∙ ap (λ (l : Line). run_at l r.after (said ++ done.said)) (sym same)
          ∙ ap (λ (s : List FrameShape). run_at done'.standing.line r.after (said ++ s)) (sym said_same);
      shut = ap turn_of same ∙ r.shut;
      stays = r.stays;
    }

-- ---- a frame

-- what the run does at a step, and where it comes to
pub record Acted (turns : Turns) (step : LineStep) (turn : Done) (more : List (List ℕ)) : Type 0 where
  pub after : Turns
  pub waits : after.waiting ≡ more
  pub say : Option FrameShape
  pub is : with_turn turns step step.next turns.waiting ≡ record { end = record { line = turn.standing.line; turns = after }; say = say }
  pub said : said_of say ≡ said_of step.say ++ turn.said

acted_plain : (turns : Turns) (step : LineStep) (standing : Standing) (turn : Done) (more : List (List ℕ)) → turn ≡ nothing standing → standing.line ≡ step.next
    → turns.waiting ≡ turn.loads ++ more → with_turn turns step step.next turns.waiting ≡ ended_step turns step → Acted turns step turn more
acted_plain turns step standing turn more e line waits is = record {
  after = turns;
  waits = waits ∙ ap (λ (d : Done). d.loads ++ more) e;
  say = step.say;
  is = is ∙ ap (λ (l : Line). record { end = record { line = l; turns = turns }; say = step.say }) (sym line ∙ ap (λ (d : Done). d.standing.line) (sym e));
  said = sym (append-nil (said_of step.say)) ∙ ap (λ (d : Done). said_of step.say ++ d.said) (sym e);
}

pub acted : (chooser : Chooser) (standing : Standing) (turns : Turns) (next : Line) (say : Option FrameShape) (turn : Done) (more : List (List ℕ)) → standing.line ≡ next
    → ((own : Common) (text : List ℕ) → next ≡ Finished own text → say ≡ None) → ActsAt chooser standing next turn → turns.waiting ≡ turn.loads ++ more
    → Acted turns (record { next = next; say = say }) turn more
acted chooser standing turns (Finished own text) say turn more line still (desk, load, _, e) waits =
    let wait : turns.waiting ≡ load ∷ more = waits ∙ ap (λ (d : Done). d.loads ++ more) e in
    let quiet : say ≡ None = still own text refl in
    record {
      after = with_text turns text load more;
      waits = refl;
      say = (gives (Finished own text) (load_of load)).say;
      is = ap (λ (texts : List (List ℕ)). with_turn turns (record { next = Finished own text; say = say }) (Finished own text) texts) wait
          ∙ ap (λ (l : Line). record { end = record { line = l; turns = with_text turns text load more }; say = (gives (Finished own text) (load_of load)).say })
          (ap (λ (d : Done). d.standing.line) (sym e));
      said = ap (λ (d : Done). d.said) (sym e) ∙ ap (λ (s : Option FrameShape). said_of s ++ turn.said) (sym quiet);
    }
acted chooser standing turns (Ready own) say turn more line still e waits = acted_plain turns _ standing turn more e line waits refl
acted chooser standing turns (Bidding own load) say turn more line still e waits = acted_plain turns _ standing turn more e line waits refl
acted chooser standing turns (Awaiting own sending) say turn more line still e waits = acted_plain turns _ standing turn more e line waits refl
acted chooser standing turns (SentAll own) say turn more line still e waits = acted_plain turns _ standing turn more e line waits refl
acted chooser standing turns (InText own taking) say turn more line still e waits = acted_plain turns _ standing turn more e line waits refl
acted chooser standing turns (Ended end) say turn more line still e waits = acted_plain turns _ standing turn more e line waits refl

-- behind an own turn none stands open
pub acts_shut : (chooser : Chooser) (standing : Standing) (next : Line) (turn : Done) → standing.line ≡ next → ActsAt chooser standing next turn → IsShut turn.standing.line
acts_shut chooser standing (Finished own text) turn line (desk, load, _, e) = ap (λ (d : Done). turn_of d.standing.line) e
acts_shut chooser standing (Ready own) turn line e = ap (λ (d : Done). turn_of d.standing.line) e ∙ ap turn_of line
acts_shut chooser standing (Bidding own load) turn line e = ap (λ (d : Done). turn_of d.standing.line) e ∙ ap turn_of line
acts_shut chooser standing (Awaiting own sending) turn line e = ap (λ (d : Done). turn_of d.standing.line) e ∙ ap turn_of line
acts_shut chooser standing (SentAll own) turn line e = ap (λ (d : Done). turn_of d.standing.line) e ∙ ap turn_of line
acts_shut chooser standing (InText own taking) turn line e = ap (λ (d : Done). turn_of d.standing.line) e ∙ ap turn_of line
acts_shut chooser standing (Ended end) turn line e = ap (λ (d : Done). turn_of d.standing.line) e ∙ ap turn_of line

shut_if : (b : Bool) (x y : LineStep) → IsShut x.next → IsShut y.next → IsShut (if b then x else y).next
shut_if true x y p q = p
shut_if false x y p q = q

unless_shut : (own : Common) (step : LineStep) → IsShut step.next → IsShut (unless_silent own step).next
unless_shut own step s = shut_if (nat_lt own.quiets MOST_QUIETS) step (ends Silent) s refl

-- a Quiet opens none
pub quiets_shut : (line : Line) → IsShut line → IsShut (quiets line).next
quiets_shut (Ready own) s = unless_shut (one_quiet own) (says_nothing (Ready (one_quiet own))) refl
quiets_shut (Bidding own load) s = unless_shut (one_quiet own) (says Enq (Bidding (one_quiet own) load)) refl
quiets_shut (Awaiting own sending) s = unless_shut (one_quiet own) (says Enq (Awaiting (one_quiet own) (record sending { asked = true }))) refl
quiets_shut (SentAll own) s =
    let at : Common = one_quiet own in
    unless_shut at (eot_again at) (shut_if (at.quiets % 3 == 0) (says Eot (SentAll at)) (says_nothing (SentAll at)) refl refl)
quiets_shut (InText own taking) s = unless_shut (one_quiet own) (says_nothing (InText (one_quiet own) taking)) refl
quiets_shut (Finished own text) s = absurd (cc)
quiets_shut (Ended end) s = refl

pub unplugs_shut : (line : Line) → IsShut (unplugs line)
unplugs_shut (Ready own) = refl
unplugs_shut (Bidding own load) = refl
unplugs_shut (Awaiting own sending) = refl
unplugs_shut (SentAll own) = refl
unplugs_shut (InText own taking) = refl
unplugs_shut (Finished own text) = refl
unplugs_shut (Ended end) = refl
