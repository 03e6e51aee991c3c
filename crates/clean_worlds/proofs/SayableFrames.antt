-- What an end says at a frame can be spelled.
use Rattle.std.proofs.Common.{◌≡◌, [], Option, Some, None, refl, sym, ◌∙◌, ap, subst}
use Rattle.dsd_record.specs.Choices.{Chooser}
use Rattle.dsd_journal.specs.Headers.{IsHeader}
use Rattle.dsd_journal.specs.declared.header.Header.{Header}
use Rattle.dex_line.specs.FrameShapes.{FrameShape}
use Rattle.dex_line.specs.FrameSpelling.{IsSpoken}
use Rattle.dex_line.specs.Hearing.{AreSpoken}
use Rattle.dex_handshake.specs.LineRun.{load_of, said_of}
use Rattle.dex_handshake.specs.LineTable.{Line, Ready, Bidding, Awaiting, SentAll, InText, Finished, Ended, gives, hears}
use Rattle.dex_handshake.specs.Sound.{IsSaid, IsSayable}
use Rattle.dsd_end.specs.PollStep.{ActsAt, Done, HearsFrame, begun_at, gave, joined, nothing, stepped}
use Rattle.dsd_end.specs.Standings.{Standing}
use Rattle.dsd_end.proofs.StepsGoing.{gives_sayable, hears_sayable, turned_spoken}
use Rattle.clean_sessions.specs.Feeding.{HearsOnce}
use Rattle.clean_worlds.proofs.FramesSaid.{spoken_both}

-- behind what it has done, the end says so on
pub record SaysOn (header : Header) (standing : Standing) (done : Done) : Type 0 where
  pub titled : done.standing.header ≡ standing.header
  pub first : done.standing.first ≡ standing.first
  pub sayable : IsSayable header.own done.standing.line
  pub spoken : AreSpoken done.said

is_spoken : (say : Option FrameShape) → IsSaid IsSpoken say → AreSpoken (said_of say)
is_spoken None said = tt
is_spoken (Some frame) said = (said, tt)

says_on_as : (header : Header) (standing : Standing) (done wanted : Done) → done ≡ wanted → SaysOn header standing wanted → SaysOn header standing done
says_on_as header standing done wanted e says = subst (SaysOn header standing) (sym e) says

says_nothing_on : (header : Header) (standing : Standing) (line : Line) → standing.line ≡ line → IsSayable header.own line → SaysOn header standing (nothing standing)
says_nothing_on header standing line at s = record { titled = refl; first = refl; sayable = subst (IsSayable header.own) (sym at) s; spoken = tt }

acts_on : (chooser : Chooser) (header : Header) (standing : Standing) (line : Line) (act : Done) → IsHeader header → standing.line ≡ line → IsSayable header.own line → ActsAt chooser standing line act → SaysOn header standing act
acts_on chooser header standing (Finished own text) act is at s (desk, load, turned, e) =
    let (next, said) = gives_sayable header is (Finished own text) (load_of load) s (turned_spoken chooser standing text load desk turned) in
    says_on_as header standing act (gave standing (Finished own text) desk load) e (record { titled = refl; first = refl; sayable = next; spoken = is_spoken (gives (Finished own text) (load_of load)).say said })
acts_on chooser header standing (Ready own) act is at s e = says_on_as header standing act (nothing standing) e (says_nothing_on header standing _ at s)
acts_on chooser header standing (Bidding own load) act is at s e = says_on_as header standing act (nothing standing) e (says_nothing_on header standing _ at s)
acts_on chooser header standing (Awaiting own sending) act is at s e = says_on_as header standing act (nothing standing) e (says_nothing_on header standing _ at s)
acts_on chooser header standing (SentAll own) act is at s e = says_on_as header standing act (nothing standing) e (says_nothing_on header standing _ at s)
acts_on chooser header standing (InText own taking) act is at s e = says_on_as header standing act (nothing standing) e (says_nothing_on header standing _ at s)
acts_on chooser header standing (Ended end) act is at s e = says_on_as header standing act (nothing standing) e (says_nothing_on header standing _ at s)

pub frame_says_on : (chooser : Chooser) (header : Header) (standing : Standing) (frame : FrameShape) (done : Done) → IsHeader header → IsSayable header.own standing.line → HearsFrame chooser standing frame done
    → SaysOn header standing done
frame_says_on chooser header standing frame done is s (act, acts, e) =
    let row = hears_sayable header is standing.line frame s in
    let there : Standing = (stepped standing (hears standing.line frame)).standing in
    let on = acts_on chooser header there there.line act is refl row.0 acts in
    says_on_as header standing done (joined (stepped standing (hears standing.line frame)) act) e (record {
      titled = on.titled;
      first = on.first;
      sayable = on.sayable;
      spoken = spoken_both (said_of (hears standing.line frame).say) act.said (is_spoken (hears standing.line frame).say row.1) on.spoken;
    })

none_begun : (line : Line) → begun_at line [] ≡ []
none_begun (Ended end) = refl
none_begun (Ready own) = refl
none_begun (Bidding own load) = refl
none_begun (Awaiting own sending) = refl
none_begun (SentAll own) = refl
none_begun (InText own taking) = refl
none_begun (Finished own text) = refl

-- a frame that is heard once leaves the end calm
pub once_says_on : (chooser : Chooser) (header : Header) (standing : Standing) (frame : FrameShape) (done : Done) → IsHeader header → IsSayable header.own standing.line → HearsOnce chooser standing frame done
    → SaysOn header standing done × (done.standing.begun ≡ [])
once_says_on chooser header standing frame done is s once =
    let on = frame_says_on chooser header standing frame once.turn is s once.hears in (
      record {
        titled = ap (λ (d : Done). d.standing.header) once.whole ∙ on.titled;
        first = ap (λ (d : Done). d.standing.first) once.whole ∙ on.first;
        sayable = subst (IsSayable header.own) (sym (ap (λ (d : Done). d.standing.line) once.whole)) on.sayable;
        spoken = subst AreSpoken (sym (ap (λ (d : Done). d.said) once.whole)) on.spoken;
      },
      ap (λ (d : Done). d.standing.begun) once.whole ∙ none_begun once.turn.standing.line,
    )
