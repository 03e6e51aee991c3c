-- Frames and own turns go soundly: what is said is spoken from the entries, and what is taken was carried.
use Rattle.std.proofs.Common.{◌≡◌, ℕ, Bool, List, [], ◌∷◌, ◌++◌, Option, Some, None, refl, sym, ◌∙◌, ap, subst, append_assoc, append-nil}
use Rattle.std.specs.Prelude.{map}
use Rattle.std.specs.List.{concat}
use Rattle.dsd_values.specs.declared.role.Role.{Role}
use Rattle.dex_line.specs.FrameShapes.{FrameShape}
use Rattle.dex_line.proofs.Exists.{blocks_empty}
use Rattle.dex_handshake.specs.LineTable.{Line, Ready, Bidding, Awaiting, SentAll, InText, Finished, Ended, hears}
use Rattle.dex_handshake.specs.LineRun.{frame_of_block, load_of, said_of}
use Rattle.dex_handshake.specs.Sound.{AreSaid, IsSaid, IsSound}
use Rattle.dsd_record.specs.Choices.{Chooser}
use Rattle.dsd_journal.specs.declared.entry.Entry.{Entry}
use Rattle.dsd_journal.specs.declared.header.Header.{Header}
use Rattle.dsd_end.specs.Carrying.{Carried}
use Rattle.own_turn.specs.DueSets.{DueSet, texts_of}
use Rattle.own_turn.specs.OwnTurn.{Desk, IsLoad, Turned, gathered, next_turn}
use Rattle.dsd_end.specs.PollStep.{ActsAt, Done, HearsFrame, HearsFrames, gave, joined, nothing, stepped}
use Rattle.dsd_end.specs.Speaking.{AreSigned}
use Rattle.dsd_end.specs.Standings.{Standing}
use Rattle.dsd_end.specs.SoFar.{CarriesText, MayGoOut, SoFar}
use Rattle.own_turn.specs.TurnsGrow.{IsGrown}
use Rattle.dsd_end.proofs.CarriedTexts.{carries_more, carries_nothing, frame_goes_on, lent_carried}
use Rattle.dsd_end.proofs.Growing.{Grows}
use Rattle.dsd_end.proofs.LoadsSaid.{gathered_signed, load_goes_out}
use Rattle.dsd_end.proofs.Onward.{carried_more}
use Rattle.dsd_end.proofs.RunsGrown.{grown_weaker, said_grows, said_more}
use Rattle.dex_line.proofs.Scanned.{ArePieces}
use Rattle.dex_handshake.proofs.SoundTable.{GoesOn, MaySay, hears_soundly}
use Rattle.own_turn.proofs.TurnsGrowing.{grown_not, grown_on, spoken_entries, turn_grows}

pub grows_of : (role : Role) (chooser : Chooser) (P : List ℕ → Type 0) (old new : List Entry) → IsGrown role chooser P old new → Grows old new
grows_of role chooser P old new g = record { added = g.added; grown = g.grown }

-- a sound line stays so when more is heard and entries are added
pub sound_more : (id : List ℕ) (old new : List Entry) (C D : List ℕ → Type 0) → Grows old new → ((text : List ℕ) → C text → D text) → (line : Line) → IsSound id (MayGoOut old) C line → IsSound id (MayGoOut new) D line
sound_more id old new C D g keeps (Ready own) s = s
sound_more id old new C D g keeps (Bidding own load) (s, l) = (s, said_grows old new load g l)
sound_more id old new C D g keeps (Awaiting own sending) (s, f, l) = (s, (said_grows old new (sending.frame ∷ []) g (f, tt)).0, said_grows old new sending.left g l)
sound_more id old new C D g keeps (SentAll own) s = s
sound_more id old new C D g keeps (InText own taking) (s, t) = (s, keeps taking.text t)
sound_more id old new C D g keeps (Finished own text) (s, t) = (s, keeps text t)
sound_more id old new C D g keeps (Ended end) s = tt

-- this end may say its control frames and its header over any entries
abbrev pub Greets : List ℕ → Type 0
Greets id = (entries : List Entry) → MaySay id (MayGoOut entries)

-- what is said may be said
pub said_one : (P : FrameShape → Type 0) (say : Option FrameShape) → IsSaid P say → AreSaid P (said_of say)
said_one P None h = tt
said_one P (Some frame) h = (h, tt)

-- ---- a load

load_said : (header : Header) (control : ℕ) (due : List DueSet) (load : List ℕ) (entries : List Entry) → AreSigned (texts_of due) entries → IsLoad header control due load
    → AreSaid (MayGoOut entries) (load_of load)
load_said header control [] load entries signed none =
    subst (λ (blocks : List (List ℕ × Bool)). AreSaid (MayGoOut entries) (map frame_of_block blocks)) (sym (blocks_empty load none)) tt
load_said header control (set ∷ more) load entries signed sent = load_goes_out entries (texts_of (set ∷ more)) header.own header.peer control load sent signed

-- ---- own turns and frames

module _ (header : Header) (chooser : Chooser) where
  -- and then more
  pub soundly_on : (old : List Entry) (bytes more : List ℕ) (one rest : Done) → SoFar header chooser old bytes one → SoFar header chooser one.standing.desk.entries (bytes ++ more) rest
      → SoFar header chooser old (bytes ++ more) (joined one rest)
  soundly_on old bytes more one rest a b = record {
    is = b.is;
    grown = grown_on header.role chooser (Carried (bytes ++ more)) old one.standing.desk.entries rest.standing.desk.entries
        (grown_weaker header.role chooser (Carried bytes) (Carried (bytes ++ more)) (carried_more bytes more) old one.standing.desk.entries a.grown) b.grown;
    line = b.line;
    said = said_more rest.standing.desk.entries one.said rest.said
        (said_grows one.standing.desk.entries rest.standing.desk.entries one.said (grows_of header.role chooser (Carried (bytes ++ more)) one.standing.desk.entries rest.standing.desk.entries b.grown) a.said) b.said;
  }

  pub soundly_as : (old : List Entry) (bytes : List ℕ) (done done' : Done) → done ≡ done' → SoFar header chooser old bytes done' → SoFar header chooser old bytes done
  soundly_as old bytes done done' e s = subst (SoFar header chooser old bytes) (sym e) s

  pub soundly_nothing : (standing : Standing) (bytes : List ℕ) → standing.header ≡ header → IsSound header.own (MayGoOut standing.desk.entries) (CarriesText bytes) standing.line
      → SoFar header chooser standing.desk.entries bytes (nothing standing)
  soundly_nothing standing bytes h s = record { is = h; grown = grown_not header.role chooser (Carried bytes) standing.desk.entries; line = s; said = tt }

  -- ---- own turns

  pub turn_goes_out : (standing : Standing) (text load : List ℕ) (desk : Desk) → Turned standing.header chooser standing.desk text desk load → AreSaid (MayGoOut desk.entries) (load_of load)
  turn_goes_out standing text load desk t =
      let same : desk.entries ≡ t.proposed.entries = ap (λ (d : Desk). d.entries) t.speaks ∙ spoken_entries t.proposed (gathered standing.header t.proposed) in
      subst (λ (entries : List Entry). AreSaid (MayGoOut entries) (load_of load)) (sym same)
      (load_said standing.header (next_turn t.proposed) (gathered standing.header t.proposed) load t.proposed.entries
      (gathered_signed standing.header (next_turn t.proposed) t.proposed.entries t.proposed.asked) t.loads)

  pub acts_soundly : (standing : Standing) (line : Line) (bytes : List ℕ) (turn : Done) → standing.line ≡ line → standing.header ≡ header
      → IsSound header.own (MayGoOut standing.desk.entries) (CarriesText bytes) line → ActsAt chooser standing line turn → SoFar header chooser standing.desk.entries bytes turn
  acts_soundly standing (Finished own text) bytes turn e h (s, t) (desk, load, turned, is) =
      let grown = turn_grows (Carried bytes) standing.header chooser standing.desk desk text load (λ set inside. lent_carried bytes text set t inside) turned in
      soundly_as standing.desk.entries bytes turn (gave standing (Finished own text) desk load) is (record {
        is = h;
        grown = subst (λ (head : Header). IsGrown head.role chooser (Carried bytes) standing.desk.entries desk.entries) h grown;
        line = (s, turn_goes_out standing text load desk turned);
        said = ((tt, tt), tt);
      })
  acts_soundly standing (Ready own) bytes turn e h s is = soundly_as standing.desk.entries bytes turn (nothing standing) is (soundly_nothing standing bytes h (subst (IsSound header.own (MayGoOut standing.desk.entries) (CarriesText bytes)) (sym e) s))
  acts_soundly standing (Bidding own load) bytes turn e h s is = soundly_as standing.desk.entries bytes turn (nothing standing) is (soundly_nothing standing bytes h (subst (IsSound header.own (MayGoOut standing.desk.entries) (CarriesText bytes)) (sym e) s))
  acts_soundly standing (Awaiting own sending) bytes turn e h s is = soundly_as standing.desk.entries bytes turn (nothing standing) is (soundly_nothing standing bytes h (subst (IsSound header.own (MayGoOut standing.desk.entries) (CarriesText bytes)) (sym e) s))
  acts_soundly standing (SentAll own) bytes turn e h s is = soundly_as standing.desk.entries bytes turn (nothing standing) is (soundly_nothing standing bytes h (subst (IsSound header.own (MayGoOut standing.desk.entries) (CarriesText bytes)) (sym e) s))
  acts_soundly standing (InText own taking) bytes turn e h s is = soundly_as standing.desk.entries bytes turn (nothing standing) is (soundly_nothing standing bytes h (subst (IsSound header.own (MayGoOut standing.desk.entries) (CarriesText bytes)) (sym e) s))
  acts_soundly standing (Ended end) bytes turn e h s is = soundly_as standing.desk.entries bytes turn (nothing standing) is (soundly_nothing standing bytes h (subst (IsSound header.own (MayGoOut standing.desk.entries) (CarriesText bytes)) (sym e) s))
  -- ---- frames

module _ (header : Header) (chooser : Chooser) (greets : Greets header.own) where
  pub frame_soundly : (standing : Standing) (frame : FrameShape) (bytes piece : List ℕ) (done : Done) → standing.header ≡ header
      → IsSound header.own (MayGoOut standing.desk.entries) (CarriesText bytes) standing.line → GoesOn (CarriesText bytes) (CarriesText (bytes ++ piece)) frame
      → HearsFrame chooser standing frame done → SoFar header chooser standing.desk.entries (bytes ++ piece) done
  frame_soundly standing frame bytes piece done h s g (turn, acts, e) =
      let step = hears standing.line frame in
      let sound = hears_soundly header.own (MayGoOut standing.desk.entries) (greets standing.desk.entries) (CarriesText bytes) (CarriesText (bytes ++ piece)) (carries_nothing (bytes ++ piece))
      (λ text c. carries_more bytes piece text c) standing.line frame s g in
      let first : SoFar header chooser standing.desk.entries (bytes ++ piece) (stepped standing step) = record {
        is = h;
        grown = grown_not header.role chooser (Carried (bytes ++ piece)) standing.desk.entries;
        line = sound.0;
        said = said_one (MayGoOut standing.desk.entries) step.say sound.1;
      } in
      let turned = acts_soundly header chooser (stepped standing step).standing step.next (bytes ++ piece) turn refl h sound.0 acts in
      let both = soundly_on header chooser standing.desk.entries (bytes ++ piece) [] (stepped standing step) turn first
      (subst (λ (b : List ℕ). SoFar header chooser standing.desk.entries b turn) (sym (append-nil (bytes ++ piece))) turned) in
      soundly_as header chooser standing.desk.entries (bytes ++ piece) done _ e
      (subst (λ (b : List ℕ). SoFar header chooser standing.desk.entries b (joined (stepped standing step) turn)) (append-nil (bytes ++ piece)) both)

  pub frames_soundly : (standing : Standing) (frames : List FrameShape) (pieces : List (List ℕ)) (bytes : List ℕ) (done : Done) → standing.header ≡ header
      → IsSound header.own (MayGoOut standing.desk.entries) (CarriesText bytes) standing.line → ArePieces pieces frames
      → HearsFrames chooser standing frames done → SoFar header chooser standing.desk.entries (bytes ++ concat pieces) done
  frames_soundly standing [] [] bytes done h s are e =
      soundly_as header chooser standing.desk.entries (bytes ++ []) done (nothing standing) e
      (soundly_nothing header chooser standing (bytes ++ []) h (subst (λ (b : List ℕ). IsSound header.own (MayGoOut standing.desk.entries) (CarriesText b) standing.line) (sym (append-nil bytes)) s))
  frames_soundly standing [] (piece ∷ pieces) bytes done h s are e = absurd are
  frames_soundly standing (frame ∷ frames) [] bytes done h s are e = absurd are
  frames_soundly standing (frame ∷ frames) (piece ∷ pieces) bytes done h s (judged, are) (one, rest, step, more, e) =
      let a = frame_soundly standing frame bytes piece one h s (frame_goes_on bytes piece frame judged) step in
      let b = frames_soundly one.standing frames pieces (bytes ++ piece) rest a.is a.line are more in
      soundly_as header chooser standing.desk.entries (bytes ++ concat (piece ∷ pieces)) done _ e
      (subst (λ (l : List ℕ). SoFar header chooser standing.desk.entries l (joined one rest)) (append_assoc bytes piece (concat pieces))
      (soundly_on header chooser standing.desk.entries (bytes ++ piece) (concat pieces) one rest a b))
