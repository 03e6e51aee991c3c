-- Along polls what is said is spoken from the entries, and what is taken was carried.
use Rattle.std.proofs.Common.{◌≡◌, ℕ, Bool, true, false, List, [], ◌∷◌, ◌++◌, length, Option, Some, None, refl, sym, ◌∙◌, ap, subst, append_assoc, append-nil}
use Rattle.std.specs.List.{concat}
use Rattle.dex_line.specs.FrameShapes.{Bad}
use Rattle.dex_line.specs.Scanning.{quieted}
use Rattle.dex_handshake.specs.LineTable.{Line, Ready, Bidding, Awaiting, SentAll, InText, Finished, Ended, quiets, unplugs}
use Rattle.dex_handshake.specs.Sound.{AreSaid, IsSound}
use Rattle.dsd_record.specs.Choices.{Chooser}
use Rattle.dsd_station.specs.declared.call.Reception.{Reception}
use Rattle.dsd_station.specs.declared.call.Reception.TheVariants.{Piece, Silence, Cut}
use Rattle.dsd_journal.specs.declared.entry.Entry.{Entry}
use Rattle.dsd_journal.specs.declared.header.Header.{Header}
use Rattle.dsd_end.specs.Carrying.{Carried}
use Rattle.dsd_end.specs.PollsHeard.{receptions_of}
use Rattle.dsd_end.specs.PollStep.{Along, Done, Hears, HearsBroken, HearsUnless, PollsAt, begins, behind_piece, joined, nothing, scanned, stepped}
use Rattle.dsd_end.specs.Runs.{bytes_heard}
use Rattle.dsd_end.specs.Standings.{Standing, has_ended, with_begun}
use Rattle.dsd_end.specs.SoFar.{CarriesText, MayGoOut, SoFar}
use Rattle.own_turn.specs.TurnsGrow.{IsGrown}
use Rattle.dsd_end.proofs.LinedPolls.{AreBegun, begun_kept, broken_keeps, cut_ends, not_both}
use Rattle.dsd_end.proofs.Onward.{carried_more}
use Rattle.dsd_end.proofs.RunsGrown.{grown_weaker, said_grows, said_more}
use Rattle.dex_line.proofs.Scanned.{ArePieces, parted}
use Rattle.dex_handshake.proofs.SoundTable.{quiets_soundly}
use Rattle.own_turn.proofs.TurnsGrowing.{grown_not, grown_on}
use Rattle.dsd_end.proofs.SoundTurns.{Greets, frame_soundly, frames_soundly, grows_of, said_one, soundly_as, soundly_nothing}

-- ---- polls

-- of these bytes, which an end has heard, the last have begun, and its line is sound over those before them
pub record IsAt (header : Header) (bytes : List ℕ) (standing : Standing) : Type 0 where
  pub past : List ℕ
  pub rest : List ℕ
  pub split : bytes ≡ past ++ rest
  pub line : IsSound header.own (MayGoOut standing.desk.entries) (CarriesText past) standing.line
  pub begun : AreBegun rest standing

pub record PollsSoundly (header : Header) (chooser : Chooser) (old : List Entry) (bytes : List ℕ) (done : Done) : Type 0 where
  pub is : done.standing.header ≡ header
  pub grown : IsGrown header.role chooser (Carried bytes) old done.standing.desk.entries
  pub said : AreSaid (MayGoOut done.standing.desk.entries) done.said
  pub at : IsAt header bytes done.standing

module _ (header : Header) (chooser : Chooser) (greets : Greets header.own) where
  polls_of : (old : List Entry) (bytes past rest : List ℕ) (done : Done) → SoFar header chooser old past done → bytes ≡ past ++ rest → AreBegun rest done.standing
      → PollsSoundly header chooser old bytes done
  polls_of old bytes past rest done s e begun = record {
    is = s.is;
    grown = subst (λ (b : List ℕ). IsGrown header.role chooser (Carried b) old done.standing.desk.entries) (sym e)
        (grown_weaker header.role chooser (Carried past) (Carried (past ++ rest)) (carried_more past rest) old done.standing.desk.entries s.grown);
    said = s.said;
    at = record { past = past; rest = rest; split = e; line = s.line; begun = begun };
  }

  polls_as : (old : List Entry) (bytes : List ℕ) (done done' : Done) → done ≡ done' → PollsSoundly header chooser old bytes done' → PollsSoundly header chooser old bytes done
  polls_as old bytes done done' e p = subst (PollsSoundly header chooser old bytes) (sym e) p

  polls_on : (old : List Entry) (bytes more : List ℕ) (one rest : Done) → PollsSoundly header chooser old bytes one
      → PollsSoundly header chooser one.standing.desk.entries (bytes ++ more) rest → PollsSoundly header chooser old (bytes ++ more) (joined one rest)
  polls_on old bytes more one rest a b = record {
    is = b.is;
    grown = grown_on header.role chooser (Carried (bytes ++ more)) old one.standing.desk.entries rest.standing.desk.entries
        (grown_weaker header.role chooser (Carried bytes) (Carried (bytes ++ more)) (carried_more bytes more) old one.standing.desk.entries a.grown) b.grown;
    said = said_more rest.standing.desk.entries one.said rest.said
        (said_grows one.standing.desk.entries rest.standing.desk.entries one.said
        (grows_of header.role chooser (Carried (bytes ++ more)) one.standing.desk.entries rest.standing.desk.entries b.grown) a.said) b.said;
    at = b.at;
  }

  pub soundly_then : (old : List Entry) (bytes : List ℕ) (one rest : Done) → SoFar header chooser old bytes one → SoFar header chooser one.standing.desk.entries bytes rest
      → SoFar header chooser old bytes (joined one rest)
  soundly_then old bytes one rest a b = record {
    is = b.is;
    grown = grown_on header.role chooser (Carried bytes) old one.standing.desk.entries rest.standing.desk.entries a.grown b.grown;
    line = b.line;
    said = said_more rest.standing.desk.entries one.said rest.said
        (said_grows one.standing.desk.entries rest.standing.desk.entries one.said (grows_of header.role chooser (Carried bytes) one.standing.desk.entries rest.standing.desk.entries b.grown) a.said) b.said;
  }

  -- what was heard up to the reception ends with what has begun
  split_at : (bytes more : List ℕ) (standing : Standing) (at : IsAt header bytes standing) → has_ended standing.line ≡ false → bytes ++ more ≡ at.past ++ (standing.begun ++ more)
  split_at bytes more standing at goes =
      ap (λ (l : List ℕ). l ++ more) (at.split ∙ ap (λ (l : List ℕ). at.past ++ l) (at.begun goes)) ∙ append_assoc at.past standing.begun more

  piece_soundly : (standing : Standing) (piece bytes : List ℕ) (done : Done) → standing.header ≡ header → IsAt header bytes standing → has_ended standing.line ≡ false
      → Hears chooser standing (Piece piece) done → PollsSoundly header chooser standing.desk.entries (bytes ++ piece) done
  piece_soundly standing piece bytes done h at goes (frames, hs, e) =
      let p = parted piece standing.begun [] in
      let are : ArePieces p.pieces (scanned standing piece).shapes = subst (ArePieces p.pieces) (sym p.shapes) p.are in
      let a = frames_soundly header chooser greets (with_begun standing []) (scanned standing piece).shapes p.pieces at.past frames h at.line are hs in
      let split : bytes ++ piece ≡ (at.past ++ concat p.pieces) ++ (scanned standing piece).begun =
      split_at bytes piece standing at goes ∙ ap (λ (l : List ℕ). at.past ++ l) p.joined ∙ sym (append_assoc at.past (concat p.pieces) (scanned standing piece).begun) in
      polls_as standing.desk.entries (bytes ++ piece) done _ e
      (polls_of standing.desk.entries (bytes ++ piece) (at.past ++ concat p.pieces) (scanned standing piece).begun
      (record frames { standing = behind_piece frames.standing (length piece) (scanned standing piece).begun })
      (record { is = a.is; grown = a.grown; line = a.line; said = a.said }) split (begun_kept frames.standing.line (scanned standing piece).begun))

  broken_soundly : (standing : Standing) (begun past : List ℕ) (broken : Done) → standing.header ≡ header → IsSound header.own (MayGoOut standing.desk.entries) (CarriesText past) standing.line
      → HearsBroken chooser standing (quieted begun) broken → SoFar header chooser standing.desk.entries (past ++ begun) broken
  broken_soundly standing [] past broken h s e =
      soundly_as header chooser standing.desk.entries (past ++ []) broken (nothing standing) e
      (soundly_nothing header chooser standing (past ++ []) h (subst (λ (b : List ℕ). IsSound header.own (MayGoOut standing.desk.entries) (CarriesText b) standing.line) (sym (append-nil past)) s))
  broken_soundly standing (b ∷ more) past broken h s heard = frame_soundly header chooser greets standing Bad past (b ∷ more) broken h s tt heard

  silence_soundly : (standing : Standing) (bytes : List ℕ) (done : Done) → standing.header ≡ header → IsAt header bytes standing → has_ended standing.line ≡ false
      → Hears chooser standing Silence done → PollsSoundly header chooser standing.desk.entries (bytes ++ []) done
  silence_soundly standing bytes done h at goes (broken, heard, e) =
      let past = at.past ++ standing.begun in
      let a = broken_soundly (with_begun standing []) standing.begun at.past broken h at.line heard in
      let q = quiets_soundly header.own (MayGoOut broken.standing.desk.entries) (greets broken.standing.desk.entries) (CarriesText past) broken.standing.line a.line in
      let quiet : SoFar header chooser broken.standing.desk.entries past (stepped broken.standing (quiets broken.standing.line)) = record {
        is = a.is;
        grown = grown_not header.role chooser (Carried past) broken.standing.desk.entries;
        line = q.0;
        said = said_one (MayGoOut broken.standing.desk.entries) (quiets broken.standing.line).say q.1;
      } in
      let both = soundly_then standing.desk.entries past broken (stepped broken.standing (quiets broken.standing.line)) a quiet in
      polls_as standing.desk.entries (bytes ++ []) done _ e
      (polls_of standing.desk.entries (bytes ++ []) past [] (joined broken (stepped broken.standing (quiets broken.standing.line))) both
      (split_at bytes [] standing at goes ∙ sym (append_assoc at.past standing.begun []))
      (λ _. sym (broken_keeps chooser (with_begun standing []) (quieted standing.begun) broken heard)))

  unplugged_sound : (entries : List Entry) (C : List ℕ → Type 0) (line : Line) → IsSound header.own (MayGoOut entries) C (unplugs line)
  unplugged_sound entries C (Ended end) = tt
  unplugged_sound entries C (Ready own) = tt
  unplugged_sound entries C (Bidding own load) = tt
  unplugged_sound entries C (Awaiting own sending) = tt
  unplugged_sound entries C (SentAll own) = tt
  unplugged_sound entries C (InText own taking) = tt
  unplugged_sound entries C (Finished own text) = tt

  cut_soundly : (standing : Standing) (bytes : List ℕ) (done : Done) → standing.header ≡ header → IsAt header bytes standing → Hears chooser standing Cut done
      → PollsSoundly header chooser standing.desk.entries (bytes ++ []) done
  cut_soundly standing bytes done h at e =
      let after : Standing = record standing { line = unplugs standing.line; begun = [] } in
      polls_as standing.desk.entries (bytes ++ []) done _ e
      (polls_of standing.desk.entries (bytes ++ []) at.past at.rest (nothing after)
      (soundly_nothing header chooser after at.past h (unplugged_sound standing.desk.entries (CarriesText at.past) standing.line))
      (append-nil bytes ∙ at.split) (λ goes. absurd (not_both (has_ended (unplugs standing.line)) (cut_ends standing.line) goes)))

  abbrev bytes_in : Reception → List ℕ
  bytes_in (Piece bytes) = bytes
  bytes_in Silence = []
  bytes_in Cut = []

  unless_soundly : (ended : Bool) (standing : Standing) (reception : Reception) (bytes : List ℕ) (done : Done) → has_ended standing.line ≡ ended → standing.header ≡ header
      → IsAt header bytes standing → HearsUnless ended chooser standing reception done → PollsSoundly header chooser standing.desk.entries (bytes ++ bytes_in reception) done
  unless_soundly true standing reception bytes done ended h at e =
      polls_as standing.desk.entries (bytes ++ bytes_in reception) done (nothing standing) e
      (polls_of standing.desk.entries (bytes ++ bytes_in reception) at.past (at.rest ++ bytes_in reception) (nothing standing) (soundly_nothing header chooser standing at.past h at.line)
      (ap (λ (l : List ℕ). l ++ bytes_in reception) at.split ∙ append_assoc at.past at.rest (bytes_in reception)) (λ goes. absurd (not_both (has_ended standing.line) ended goes)))
  unless_soundly false standing (Piece piece) bytes done goes h at e = piece_soundly standing piece bytes done h at goes e
  unless_soundly false standing Silence bytes done goes h at e = silence_soundly standing bytes done h at goes e
  unless_soundly false standing Cut bytes done goes h at e = cut_soundly standing bytes done h at e

  abbrev bytes_at : Option Reception → List ℕ
  bytes_at None = []
  bytes_at (Some reception) = bytes_in reception

  polls_soundly : (first : Bool) (standing : Standing) (poll : Option Reception) (bytes : List ℕ) (done : Done) → standing.header ≡ header → IsAt header bytes standing
      → PollsAt first chooser standing poll done → PollsSoundly header chooser standing.desk.entries (bytes ++ bytes_at poll) done
  polls_soundly true standing None bytes done h at e =
      polls_as standing.desk.entries (bytes ++ []) done (begins standing) e
      (polls_of standing.desk.entries (bytes ++ []) at.past at.rest (begins standing)
      (record { is = h; grown = grown_not header.role chooser (Carried at.past) standing.desk.entries; line = at.line; said = ((tt, tt), tt) })
      (append-nil bytes ∙ at.split) at.begun)
  polls_soundly true standing (Some reception) bytes done h at p = absurd p
  polls_soundly false standing None bytes done h at p = absurd p
  polls_soundly false standing (Some reception) bytes done h at p = unless_soundly (has_ended standing.line) standing reception bytes done refl h at p

  first_bytes : (poll : Option Reception) (polls : List (Option Reception)) → bytes_heard (receptions_of (poll ∷ polls)) ≡ bytes_at poll ++ bytes_heard (receptions_of polls)
  first_bytes None polls = refl
  first_bytes (Some (Piece bytes)) polls = refl
  first_bytes (Some Silence) polls = refl
  first_bytes (Some Cut) polls = refl

  pub along_soundly : (standing : Standing) (polls : List (Option Reception)) (bytes : List ℕ) (done : Done) → standing.header ≡ header → IsAt header bytes standing
      → Along chooser standing polls done → PollsSoundly header chooser standing.desk.entries (bytes ++ bytes_heard (receptions_of polls)) done
  along_soundly standing [] bytes done h at e =
      polls_as standing.desk.entries (bytes ++ []) done (nothing standing) e
      (polls_of standing.desk.entries (bytes ++ []) at.past at.rest (nothing standing) (soundly_nothing header chooser standing at.past h at.line) (append-nil bytes ∙ at.split) at.begun)
  along_soundly standing (poll ∷ polls) bytes done h at (one, rest, step, on, e) =
      let a = polls_soundly standing.first standing poll bytes one h at step.polls in
      let b = along_soundly one.standing polls (bytes ++ bytes_at poll) rest a.is a.at on in
      let all : (bytes ++ bytes_at poll) ++ bytes_heard (receptions_of polls) ≡ bytes ++ bytes_heard (receptions_of (poll ∷ polls)) =
      append_assoc bytes (bytes_at poll) (bytes_heard (receptions_of polls)) ∙ ap (λ (l : List ℕ). bytes ++ l) (sym (first_bytes poll polls)) in
      polls_as standing.desk.entries (bytes ++ bytes_heard (receptions_of (poll ∷ polls))) done _ e
      (subst (λ (l : List ℕ). PollsSoundly header chooser standing.desk.entries l (joined one rest)) all
      (polls_on standing.desk.entries (bytes ++ bytes_at poll) (bytes_heard (receptions_of polls)) one rest a b))
