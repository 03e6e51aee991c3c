-- Where the journal of a run has room, no own turn of it finds it full.
use Rattle.std.proofs.Common.{◌≡◌, inl, inr, ℕ, ◌+◌, ◌≤◌, false, List, [], ◌∷◌, ◌++◌, length, Option, refl, sym, ◌∙◌, ap, subst, arith, append_assoc, append-nil, length-append}
use Rattle.std.specs.Prelude.{Contains}
use Rattle.std.specs.List.{concat}
use Rattle.std.proofs.lemmas.List.Elements.{Contains-append_right}
use Rattle.dsd_values.specs.declared.role.Role.{Role}
use Rattle.base_record_894.specs.BaseRecord.{BaseRecord}
use Rattle.dex_line.specs.FrameShapes.{Bad, FrameShape}
use Rattle.dex_line.specs.Scanning.{quieted}
use Rattle.dex_line.proofs.Scanned.{ArePieces, parted}
use Rattle.dex_handshake.specs.LineTable.{Finished, hears}
use Rattle.dex_handshake.specs.Sound.{IsSound}
use Rattle.dsd_record.specs.Choices.{Chooser}
use Rattle.dsd_station.specs.declared.call.Reception.{Reception}
use Rattle.dsd_station.specs.declared.call.Reception.TheVariants.{Piece, Silence, Cut}
use Rattle.dsd_journal.specs.Headers.{IsHeader}
use Rattle.dsd_journal.specs.JournalImage.{gate_place, spelled}
use Rattle.dsd_journal.specs.declared.entry.Entry.{Entry}
use Rattle.dsd_journal.specs.declared.header.Header.{Header}
use Rattle.dsd_journal.specs.declared.limits.TheConstants.{JOURNAL_BYTES}
use Rattle.own_turn.specs.NextEntry.{AddsInTurn, Answering, Proposing, Taking, TurnAddsNext}
use Rattle.own_turn.specs.OwnTurn.{Answers, Desk, Proposes, TakesSet, awaiting, sets_lent, signed, took}
use Rattle.own_turn.specs.TurnsGrow.{IsGrown}
use Rattle.own_turn.proofs.TurnsGrowing.{grown_on, grown_one, grown_same, passed_entries, turn_next_grows}
use Rattle.dsd_end.specs.Carrying.{Carried}
use Rattle.dsd_end.specs.FullTurns.{BrokenFull, FrameFull, FramesFull, HearsFull, TurnFull}
use Rattle.dsd_end.specs.PollStep.{Along, Done, scanned, stepped}
use Rattle.dsd_end.specs.PollsHeard.{receptions_of}
use Rattle.dsd_end.specs.RunSoFar.{IsHeardAs}
use Rattle.dsd_end.specs.Runs.{bytes_heard}
use Rattle.dsd_end.specs.SoFar.{CarriesText, MayGoOut}
use Rattle.dsd_end.specs.Standings.{Standing, first_standing, has_ended, with_begun}
use Rattle.dsd_end.proofs.CarriedTexts.{frame_goes_on, lent_carried}
use Rattle.dsd_end.proofs.Onward.{carried_more}
use Rattle.dsd_end.proofs.PollsRun.{greets, start_sound}
use Rattle.dsd_end.proofs.RunsComing.{row_soundly}
use Rattle.dsd_end.proofs.RunsGrown.{grown_weaker}
use Rattle.dsd_end.proofs.SoundPolls.{IsAt, along_soundly}
use Rattle.dsd_end.proofs.SoundTurns.{frame_soundly}
use Rattle.clean_worlds.specs.Faultless.{HasRoom}

-- ---- the entry that is added next

spelled_more : (a b : List Entry) → length (spelled (a ++ b)) ≡ length (spelled a) + length (spelled b)
spelled_more [] b = omega arith
spelled_more (entry ∷ a) b =
    let more = spelled_more a b in
    let one = length-append entry.payload (spelled (a ++ b)) in
    let its = length-append entry.payload (spelled a) in
    omega (arith, more, one, its)

gate_more : (entries : List Entry) (entry : Entry) → gate_place (entries ++ entry ∷ []) ≡ gate_place entries + 6 + length entry.payload
gate_more entries entry =
    let more = spelled_more entries (entry ∷ []) in
    let one = length-append entry.payload [] in
    omega (arith, more, one)

module _ (P : List ℕ → Type 0) (role : Role) (chooser : Chooser) where
  set_added : (set : List ℕ) (old new : Desk) → P set → TakesSet role set old new → IsGrown role chooser P old.entries new.entries
  set_added set old new p (inl (legal, e)) = subst (λ (d : Desk). IsGrown role chooser P old.entries d.entries) (sym e) (grown_one role chooser P old.entries (took set) legal p)
  set_added set old new p (inr (not, e)) = grown_same role chooser P old.entries new.entries (ap (λ (d : Desk). d.entries) e ∙ passed_entries old set)

  answer_added : (number : List ℕ) (old new : Desk) → Answers role chooser number old new → IsGrown role chooser P old.entries new.entries
  answer_added number old new (inl (text, may, e)) = subst (λ (d : Desk). IsGrown role chooser P old.entries d.entries) (sym e) (grown_one role chooser P old.entries (signed text) may.legal (inr (number, may.chosen)))
  answer_added number old new (inr (not, e)) = grown_same role chooser P old.entries new.entries (ap (λ (d : Desk). d.entries) e)

  draft_added : (draft : BaseRecord) (old new : Desk) → Proposes role chooser draft old new → IsGrown role chooser P old.entries new.entries
  draft_added draft old new (inl (text, may, e)) = subst (λ (d : Desk). IsGrown role chooser P old.entries d.entries) (sym e) (grown_one role chooser P old.entries (signed text) may.legal (inl (draft, may.chosen)))
  draft_added draft old new (inr (not, e)) = grown_same role chooser P old.entries new.entries (ap (λ (d : Desk). d.entries) e)

  last_added : {A : Type 0} (Step : A → Desk → Desk → Type 0) (items : List A) (old : Desk) (entries : List Entry) (entry : Entry)
      → ((item : A) (one new : Desk) → Contains items item → Step item one new → IsGrown role chooser P one.entries new.entries) → AddsInTurn Step items old entries entry → IsGrown role chooser P entries (entries ++ entry ∷ [])
  last_added Step [] old entries entry each adds = absurd adds
  last_added Step (item ∷ items) old entries entry each (inl adds) =
      subst (λ (l : List Entry). IsGrown role chooser P l (entries ++ entry ∷ [])) adds.behind
      (subst (λ (l : List Entry). IsGrown role chooser P old.entries l) adds.added (each item old adds.new (0, omega arith, refl) adds.step))
  last_added Step (item ∷ items) old entries entry each (inr (next, step, more)) =
      last_added Step items next entries entry (λ one a b inside. each one a b (Contains-append_right (item ∷ []) items one inside)) more

  turn_added : (old : Desk) (text : List ℕ) (entries : List Entry) (entry : Entry) → ((set : List ℕ) → Contains (sets_lent text) set → P set) → TurnAddsNext role chooser text old entries entry
      → IsGrown role chooser P entries (entries ++ entry ∷ [])
  turn_added old text entries entry all (Taking adds) = last_added (TakesSet role) (sets_lent text) old entries entry (λ set a b inside step. set_added set a b (all set inside) step) adds
  turn_added old text entries entry all (Answering taken takes adds) = last_added (Answers role chooser) (awaiting taken.entries) taken entries entry (λ number a b inside step. answer_added number a b step) adds
  turn_added old text entries entry all (Proposing taken answered takes answers adds) = last_added (Proposes role chooser) chooser.drafts answered entries entry (λ draft a b inside step. draft_added draft a b step) adds

-- ---- where an own turn finds the journal full

-- These entries may grow to a list for which there is no room.
pub record Outgrows (role : Role) (chooser : Chooser) (entries : List Entry) (bytes : List ℕ) : Type 0 where
  pub last : List Entry
  pub grown : IsGrown role chooser (Carried bytes) entries last
  pub far : JOURNAL_BYTES ≤ gate_place last

outgrows_more : (role : Role) (chooser : Chooser) (entries : List Entry) (bytes more : List ℕ) → Outgrows role chooser entries bytes → Outgrows role chooser entries (bytes ++ more)
outgrows_more role chooser entries bytes more o =
    record { last = o.last; grown = grown_weaker role chooser (Carried bytes) (Carried (bytes ++ more)) (carried_more bytes more) entries o.last o.grown; far = o.far }

pub outgrows_behind : (role : Role) (chooser : Chooser) (first entries : List Entry) (bytes more : List ℕ) → IsGrown role chooser (Carried bytes) first entries → Outgrows role chooser entries (bytes ++ more)
    → Outgrows role chooser first (bytes ++ more)
outgrows_behind role chooser first entries bytes more g o = record {
  last = o.last;
  grown = grown_on role chooser (Carried (bytes ++ more)) first entries o.last
      (grown_weaker role chooser (Carried bytes) (Carried (bytes ++ more)) (carried_more bytes more) first entries g) o.grown;
  far = o.far;
}

-- so there is no room
pub not_outgrown : (role : Role) (chooser : Chooser) (entries : List Entry) (bytes more : List ℕ) → HasRoom role chooser entries (bytes ++ more) → Outgrows role chooser entries bytes → ⊥
not_outgrown role chooser entries bytes more room o =
    let more_so = outgrows_more role chooser entries bytes more o in
    let far = more_so.far in
    let near = room more_so.last more_so.grown in
    omega (arith, far, near)

module _ (header : Header) (is : IsHeader header) (chooser : Chooser) where
  abbrev Sound : List ℕ → Standing → Type 0
  Sound past standing = IsSound header.own (MayGoOut standing.desk.entries) (CarriesText past) standing.line

  turn_full : (standing : Standing) (past : List ℕ) (n : ℕ) → standing.header ≡ header → Sound past standing → TurnFull chooser standing n → Outgrows header.role chooser standing.desk.entries past
  turn_full standing past n h sound (own, text, at, (entries, long)) =
      let finished : IsSound header.own (MayGoOut standing.desk.entries) (CarriesText past) (Finished own text) = subst (IsSound header.own (MayGoOut standing.desk.entries) (CarriesText past)) at sound in
      let next : TurnAddsNext header.role chooser text standing.desk entries long.entry = subst (λ (x : Header). TurnAddsNext x.role chooser text standing.desk entries long.entry) h long.next in
      let lends = λ (set : List ℕ) (inside : Contains (sets_lent text) set). lent_carried past text set finished.1 inside in
      let size = long.size in
      let far = long.long in
      let place = gate_more entries long.entry in
      record {
        last = entries ++ long.entry ∷ [];
        grown = grown_on header.role chooser (Carried past) standing.desk.entries entries (entries ++ long.entry ∷ []) (turn_next_grows (Carried past) header.role chooser standing.desk text entries long.entry lends next)
            (turn_added (Carried past) header.role chooser standing.desk text entries long.entry lends next);
        far = omega (arith, size, far, place);
      }

  frame_full : (standing : Standing) (frame : FrameShape) (past piece : List ℕ) (n : ℕ) → standing.header ≡ header → Sound past standing → IsHeardAs piece frame → FrameFull chooser standing frame n
      → Outgrows header.role chooser standing.desk.entries (past ++ piece)
  frame_full standing frame past piece n h sound heard full =
      let row = row_soundly chooser header is standing h past sound piece frame heard in
      turn_full (stepped standing (hears standing.line frame)).standing (past ++ piece) n row.is row.line full

  frames_full : (standing : Standing) (frames : List FrameShape) (pieces : List (List ℕ)) (past : List ℕ) (n : ℕ) → standing.header ≡ header → Sound past standing → ArePieces pieces frames → FramesFull chooser standing frames n
      → Outgrows header.role chooser standing.desk.entries (past ++ concat pieces)
  frames_full standing [] pieces past n h sound are full = absurd full
  frames_full standing (frame ∷ frames) [] past n h sound are full = absurd are
  frames_full standing (frame ∷ frames) (piece ∷ pieces) past n h sound (judged, are) (inl full) =
      subst (Outgrows header.role chooser standing.desk.entries) (append_assoc past piece (concat pieces))
      (outgrows_more header.role chooser standing.desk.entries (past ++ piece) (concat pieces) (frame_full standing frame past piece n h sound (inl judged) full))
  frames_full standing (frame ∷ frames) (piece ∷ pieces) past n h sound (judged, are) (inr (one, (hears_it, full))) =
      let a = frame_soundly header chooser (greets header.own is.own) standing frame past piece one h sound (frame_goes_on past piece frame judged) hears_it in
      subst (Outgrows header.role chooser standing.desk.entries) (append_assoc past piece (concat pieces))
      (outgrows_behind header.role chooser standing.desk.entries one.standing.desk.entries (past ++ piece) (concat pieces) a.grown (frames_full one.standing frames pieces (past ++ piece) n a.is a.line are full))

  broken_full : (standing : Standing) (begun past : List ℕ) (n : ℕ) → standing.header ≡ header → Sound past standing → BrokenFull chooser standing (quieted begun) n → Outgrows header.role chooser standing.desk.entries (past ++ begun)
  broken_full standing [] past n h sound full = absurd full
  broken_full standing (b ∷ more) past n h sound full = frame_full standing Bad past (b ∷ more) n h sound (inr refl) full

  -- what was heard up to now ends with what has begun
  heard_so : (standing : Standing) (bytes : List ℕ) (at : IsAt header bytes standing) → has_ended standing.line ≡ false → bytes ≡ at.past ++ standing.begun
  heard_so standing bytes at goes = at.split ∙ ap (λ (l : List ℕ). at.past ++ l) (at.begun goes)

  piece_full : (standing : Standing) (piece bytes : List ℕ) (n : ℕ) → standing.header ≡ header → (at : IsAt header bytes standing) → has_ended standing.line ≡ false → HearsFull chooser standing (Piece piece) n
      → Outgrows header.role chooser standing.desk.entries (bytes ++ piece)
  piece_full standing piece bytes n h at goes full =
      let p = parted piece standing.begun [] in
      let are : ArePieces p.pieces (scanned standing piece).shapes = subst (ArePieces p.pieces) (sym p.shapes) p.are in
      let split : bytes ++ piece ≡ (at.past ++ concat p.pieces) ++ (scanned standing piece).begun =
      ap (λ (l : List ℕ). l ++ piece) (heard_so standing bytes at goes) ∙ append_assoc at.past standing.begun piece ∙ ap (λ (l : List ℕ). at.past ++ l) p.joined
      ∙ sym (append_assoc at.past (concat p.pieces) (scanned standing piece).begun) in
      subst (Outgrows header.role chooser standing.desk.entries) (sym split)
      (outgrows_more header.role chooser standing.desk.entries (at.past ++ concat p.pieces) (scanned standing piece).begun
      (frames_full (with_begun standing []) (scanned standing piece).shapes p.pieces at.past n h at.line are full))

  pub hears_full : (standing : Standing) (heard : Reception) (bytes : List ℕ) (n : ℕ) → standing.header ≡ header → (at : IsAt header bytes standing) → has_ended standing.line ≡ false → HearsFull chooser standing heard n
      → Outgrows header.role chooser standing.desk.entries (bytes ++ bytes_heard (heard ∷ []))
  hears_full standing (Piece piece) bytes n h at goes full =
      subst (λ (l : List ℕ). Outgrows header.role chooser standing.desk.entries (bytes ++ l)) (sym (append-nil piece)) (piece_full standing piece bytes n h at goes full)
  hears_full standing Silence bytes n h at goes full =
      subst (Outgrows header.role chooser standing.desk.entries) (sym (append-nil bytes ∙ heard_so standing bytes at goes))
      (broken_full (with_begun standing []) standing.begun at.past n h at.line full)
  hears_full standing Cut bytes n h at goes full = absurd full

  pub starts_at : (entries : List Entry) (bytes : List ℕ) → IsAt header bytes (first_standing header entries)
  starts_at entries bytes = record {
    past = bytes;
    rest = [];
    split = sym (append-nil bytes);
    line = start_sound header.role header.own header.peer entries (CarriesText bytes) is.own;
    begun = λ _. refl;
  }

  -- from the opening on
  pub never_full : (entries : List Entry) (polls : List (Option Reception)) (done : Done) (heard : Reception) (n : ℕ) → Along chooser (first_standing header entries) polls done → has_ended done.standing.line ≡ false
      → HasRoom header.role chooser entries (bytes_heard (receptions_of polls) ++ bytes_heard (heard ∷ [])) → HearsFull chooser done.standing heard n → ⊥
  never_full entries polls done heard n along goes room full =
      let so = along_soundly header chooser (greets header.own is.own) (first_standing header entries) polls [] done refl (starts_at entries []) along in
      let bytes : List ℕ = bytes_heard (receptions_of polls) in
      let more : List ℕ = bytes_heard (heard ∷ []) in
      not_outgrown header.role chooser entries (bytes ++ more) [] (subst (HasRoom header.role chooser entries) (sym (append-nil (bytes ++ more))) room)
      (outgrows_behind header.role chooser entries done.standing.desk.entries bytes more so.grown (hears_full done.standing heard bytes n so.is so.at goes full))
