-- A run that has come to a standing goes on by each step of an end.
use Rattle.std.proofs.Common.{◌≡◌, inl, inr, ℕ, ◌+◌, Bool, true, false, List, [], ◌∷◌, ◌++◌, refl, sym, ◌∙◌, ap, subst, append_assoc, append-nil}
use Rattle.std.specs.List.{flat_map}
use Rattle.std.proofs.lemmas.List.Concat.{flat_map-append}
use Rattle.dex_line.specs.FrameShapes.{FrameShape}
use Rattle.dex_line.specs.FrameSpelling.{spelling}
use Rattle.dex_handshake.specs.LineTable.{Line, Ready, Bidding, Awaiting, SentAll, InText, Finished, Ended, hears, quiets, unplugs}
use Rattle.dex_handshake.specs.Sound.{IsSound}
use Rattle.dex_handshake.proofs.SoundTable.{GoesOn, hears_soundly, quiets_soundly}
use Rattle.dsd_record.specs.Choices.{Chooser}
use Rattle.dsd_station.specs.declared.call.Reception.{Reception}
use Rattle.dsd_station.specs.declared.call.Reception.TheVariants.{Piece, Silence, Cut}
use Rattle.dsd_journal.specs.Headers.{IsHeader}
use Rattle.dsd_journal.specs.declared.entry.Entry.{Entry}
use Rattle.dsd_journal.specs.declared.header.Header.{Header}
use Rattle.delivery_book.specs.Signing.{Legal}
use Rattle.dsd_end.specs.Carrying.{Carried}
use Rattle.own_turn.specs.OwnTurn.{Desk, Turned}
use Rattle.dsd_end.specs.PollStep.{Acts, ActsAt, Done, HearsFrame, begins, bytes_of, joined, nothing, stepped}
use Rattle.dsd_end.specs.RunSoFar.{ComesTo, IsHeardAs, bytes_in, said_at}
use Rattle.dsd_end.specs.Runs.{bytes_heard}
use Rattle.dsd_end.specs.SoFar.{CarriesText, MayGoOut, SoFar}
use Rattle.dsd_end.specs.Standings.{Standing, first_standing, has_ended, with_begun}
use Rattle.own_turn.specs.TurnsGrow.{IsGrown}
use Rattle.dsd_end.proofs.CarriedTexts.{carries_more, carries_nothing, frame_goes_on, lent_carried}
use Rattle.dsd_end.proofs.PollsRun.{greets}
use Rattle.dsd_end.proofs.SoFarOn.{so_far_starts}
use Rattle.dsd_end.proofs.SoundTurns.{acts_soundly, grows_of, said_one, soundly_on, sound_more}
use Rattle.own_turn.proofs.TurnsGrowing.{grown_not, turn_grows}

both : (x : Bool) → x ≡ false → x ≡ true → ⊥
both x p q = cc

-- ---- single steps, over the bytes before them

pub goes_on_as : (past piece : List ℕ) (frame : FrameShape) → IsHeardAs piece frame → GoesOn (CarriesText past) (CarriesText (past ++ piece)) frame
goes_on_as past piece frame (inl judged) = frame_goes_on past piece frame judged
goes_on_as past piece frame (inr bad) = subst (GoesOn (CarriesText past) (CarriesText (past ++ piece))) (sym bad) tt

module _ (chooser : Chooser) (header : Header) (is : IsHeader header) (standing : Standing) (at : standing.header ≡ header) (past : List ℕ)
    (line : IsSound header.own (MayGoOut standing.desk.entries) (CarriesText past) standing.line) where
  pub row_soundly : (piece : List ℕ) (frame : FrameShape) → IsHeardAs piece frame → SoFar header chooser standing.desk.entries (past ++ piece) (stepped standing (hears standing.line frame))
  row_soundly piece frame heard =
      let sound = hears_soundly header.own (MayGoOut standing.desk.entries) (greets header.own is.own standing.desk.entries) (CarriesText past) (CarriesText (past ++ piece)) (carries_nothing (past ++ piece))
      (λ text c. carries_more past piece text c) standing.line frame line (goes_on_as past piece frame heard) in
      record {
        is = at;
        grown = grown_not header.role chooser (Carried (past ++ piece)) standing.desk.entries;
        line = sound.0;
        said = said_one (MayGoOut standing.desk.entries) (hears standing.line frame).say sound.1;
      }

  pub quiet_soundly : SoFar header chooser standing.desk.entries past (stepped standing (quiets standing.line))
  quiet_soundly =
      let sound = quiets_soundly header.own (MayGoOut standing.desk.entries) (greets header.own is.own standing.desk.entries) (CarriesText past) standing.line line in
      record {
        is = at;
        grown = grown_not header.role chooser (Carried past) standing.desk.entries;
        line = sound.0;
        said = said_one (MayGoOut standing.desk.entries) (quiets standing.line).say sound.1;
      }

  -- an own turn, before its load is given
  pub turned_soundly : (text load : List ℕ) (desk : Desk) → CarriesText past text → Turned standing.header chooser standing.desk text desk load
      → SoFar header chooser standing.desk.entries past (nothing (record standing { desk = desk }))
  turned_soundly text load desk carried turned =
      let grown = turn_grows (Carried past) standing.header chooser standing.desk desk text load (λ set inside. lent_carried past text set carried inside) turned in
      record {
        is = at;
        grown = subst (λ (h : Header). IsGrown h.role chooser (Carried past) standing.desk.entries desk.entries) at grown;
        line = sound_more header.own standing.desk.entries desk.entries (CarriesText past) (CarriesText past) (grows_of standing.header.role chooser (Carried past) standing.desk.entries desk.entries grown) (λ text c. c) standing.line line;
        said = tt;
      }

-- ---- the run goes on

module _ (chooser : Chooser) (first : List Entry) (before : List ℕ) (heard : List Reception) where
  -- by what is sound over its bytes and these
  pub comes_by : (standing : Standing) (gone left : List ℕ) (c : ComesTo chooser first before heard left standing gone) (piece : List ℕ) (one : Done)
      → SoFar standing.header chooser standing.desk.entries (c.past ++ piece) one → (behind still : List ℕ) → c.behind ≡ piece ++ behind
      → (has_ended one.standing.line ≡ false → behind ≡ one.standing.begun ++ still) → ComesTo chooser first before heard still one.standing (gone ++ bytes_of one)
  comes_by standing gone left c piece one s behind still split going =
      let both_so = soundly_on standing.header chooser first c.past piece (said_at standing c.said) one c.so_far s in
      let at_one : SoFar standing.header chooser first (c.past ++ piece) (said_at one.standing (c.said ++ one.said)) =
      record { is = both_so.is; grown = both_so.grown; line = both_so.line; said = both_so.said } in
      record {
        legal = subst (λ (h : Header). Legal h.role first) (sym s.is) c.legal;
        said = c.said ++ one.said;
        split = ap (λ (l : List ℕ). l ++ bytes_of one) c.split ∙ append_assoc before (flat_map spelling c.said) (bytes_of one)
            ∙ ap (λ (l : List ℕ). before ++ l) (sym (flat_map-append spelling c.said one.said));
        past = c.past ++ piece;
        so_far = subst (λ (h : Header). SoFar h chooser first (c.past ++ piece) (said_at one.standing (c.said ++ one.said))) (sym s.is) at_one;
        behind = behind;
        bytes = c.bytes ∙ ap (λ (l : List ℕ). c.past ++ l) split ∙ sym (append_assoc c.past piece behind);
        going = going;
      }

  -- by what is sound over its bytes alone
  pub comes_same : (standing : Standing) (gone left : List ℕ) (c : ComesTo chooser first before heard left standing gone) (one : Done)
      → SoFar standing.header chooser standing.desk.entries c.past one
      → (has_ended one.standing.line ≡ false → c.behind ≡ one.standing.begun ++ left) → ComesTo chooser first before heard left one.standing (gone ++ bytes_of one)
  comes_same standing gone left c one s going =
      comes_by standing gone left c [] one (subst (λ (l : List ℕ). SoFar standing.header chooser standing.desk.entries l one) (sym (append-nil c.past)) s) c.behind left refl going

  -- bytes gone, written otherwise
  pub comes_as : (standing : Standing) (gone gone' left : List ℕ) → gone' ≡ gone → ComesTo chooser first before heard left standing gone → ComesTo chooser first before heard left standing gone'
  comes_as standing gone gone' left e c = subst (λ (l : List ℕ). ComesTo chooser first before heard left standing l) (sym e) c

  -- what is told of the bytes that begin changes alone
  pub comes_begun : (standing : Standing) (gone left begun still : List ℕ) (c : ComesTo chooser first before heard left standing gone)
      → standing.begun ++ left ≡ begun ++ still → ComesTo chooser first before heard still (with_begun standing begun) gone
  comes_begun standing gone left begun still c e = record {
    legal = c.legal;
    said = c.said;
    split = c.split;
    past = c.past;
    so_far = record { is = refl; grown = c.so_far.grown; line = c.so_far.line; said = c.so_far.said };
    behind = c.behind;
    bytes = c.bytes;
    going = λ on. c.going on ∙ e;
  }

  -- more bytes are counted
  pub comes_counted : (standing : Standing) (gone left : List ℕ) (size : ℕ) → ComesTo chooser first before heard left standing gone
      → ComesTo chooser first before heard left (record standing { heard = standing.heard + size }) gone
  comes_counted standing gone left size c = record {
    legal = c.legal;
    said = c.said;
    split = c.split;
    past = c.past;
    so_far = record { is = refl; grown = c.so_far.grown; line = c.so_far.line; said = c.so_far.said };
    behind = c.behind;
    bytes = c.bytes;
    going = c.going;
  }

  -- what is left is not told once the session has ended
  pub comes_ended : (standing : Standing) (gone left still : List ℕ) → has_ended standing.line ≡ true → ComesTo chooser first before heard left standing gone
      → ComesTo chooser first before heard still standing gone
  comes_ended standing gone left still ended c = record {
    legal = c.legal;
    said = c.said;
    split = c.split;
    past = c.past;
    so_far = c.so_far;
    behind = c.behind;
    bytes = c.bytes;
    going = λ on. absurd (both (has_ended standing.line) on ended);
  }

-- ---- frames and own turns

row_on : (line : Line) (frame : FrameShape) → has_ended (hears line frame).next ≡ false → has_ended line ≡ false
row_on (Ended end) frame on = on
row_on (Ready own) frame on = refl
row_on (Bidding own load) frame on = refl
row_on (Awaiting own sending) frame on = refl
row_on (SentAll own) frame on = refl
row_on (InText own taking) frame on = refl
row_on (Finished own text) frame on = refl

quiet_on : (line : Line) → has_ended (quiets line).next ≡ false → has_ended line ≡ false
quiet_on (Ended end) on = on
quiet_on (Ready own) on = refl
quiet_on (Bidding own load) on = refl
quiet_on (Awaiting own sending) on = refl
quiet_on (SentAll own) on = refl
quiet_on (InText own taking) on = refl
quiet_on (Finished own text) on = refl

-- an own turn leaves what has begun, and goes on where it went on
pub record Keeps (old new : Standing) : Type 0 where
  pub begun : new.begun ≡ old.begun
  pub on : has_ended new.line ≡ false → has_ended old.line ≡ false

keeps_as : (standing : Standing) (done done' : Done) → done ≡ done' → Keeps standing done'.standing → Keeps standing done.standing
keeps_as standing done done' e k = subst (λ (d : Done). Keeps standing d.standing) (sym e) k

keeps_all : (standing : Standing) → Keeps standing standing
keeps_all standing = record { begun = refl; on = λ on. on }

pub acts_keep : (chooser : Chooser) (standing : Standing) (line : Line) (done : Done) → standing.line ≡ line → ActsAt chooser standing line done → Keeps standing done.standing
acts_keep chooser standing (Finished own text) done e (desk, load, turned, is) =
    keeps_as standing done _ is (record { begun = refl; on = λ on. ap has_ended e })
acts_keep chooser standing (Ready own) done e is = keeps_as standing done _ is (keeps_all standing)
acts_keep chooser standing (Bidding own load) done e is = keeps_as standing done _ is (keeps_all standing)
acts_keep chooser standing (Awaiting own sending) done e is = keeps_as standing done _ is (keeps_all standing)
acts_keep chooser standing (SentAll own) done e is = keeps_as standing done _ is (keeps_all standing)
acts_keep chooser standing (InText own taking) done e is = keeps_as standing done _ is (keeps_all standing)
acts_keep chooser standing (Ended end) done e is = keeps_as standing done _ is (keeps_all standing)

pub frame_keeps : (chooser : Chooser) (standing : Standing) (frame : FrameShape) (done : Done) → HearsFrame chooser standing frame done → done.standing.begun ≡ standing.begun
frame_keeps chooser standing frame done (turn, acts, e) =
    let step = stepped standing (hears standing.line frame) in
    ap (λ (d : Done). d.standing.begun) e ∙ (acts_keep chooser step.standing step.standing.line turn refl acts).begun

module _ (chooser : Chooser) (first : List Entry) (before : List ℕ) (heard : List Reception) (standing : Standing) (is : IsHeader standing.header) (gone left : List ℕ) where
  -- the row of a frame
  pub comes_row : (piece : List ℕ) (frame : FrameShape) → standing.begun ≡ [] → has_ended standing.line ≡ false → IsHeardAs piece frame → ComesTo chooser first before heard (piece ++ left) standing gone
      → ComesTo chooser first before heard left (stepped standing (hears standing.line frame)).standing (gone ++ bytes_of (stepped standing (hears standing.line frame)))
  comes_row piece frame none goes heard_as c =
      comes_by chooser first before heard standing gone (piece ++ left) c piece (stepped standing (hears standing.line frame))
      (row_soundly chooser standing.header is standing refl c.past c.so_far.line piece frame heard_as) left left
      (c.going goes ∙ ap (λ (l : List ℕ). l ++ (piece ++ left)) none) (λ on. ap (λ (l : List ℕ). l ++ left) (sym none))

  pub comes_acts : (turn : Done) → Acts chooser standing turn → ComesTo chooser first before heard left standing gone
      → ComesTo chooser first before heard left turn.standing (gone ++ bytes_of turn)
  comes_acts turn acts c =
      let k = acts_keep chooser standing standing.line turn refl acts in
      comes_same chooser first before heard standing gone left c turn
      (acts_soundly standing.header chooser standing standing.line c.past turn refl refl c.so_far.line acts)
      (λ on. c.going (k.on on) ∙ ap (λ (l : List ℕ). l ++ left) (sym k.begun))

  pub comes_quiet : ComesTo chooser first before heard left standing gone
      → ComesTo chooser first before heard left (stepped standing (quiets standing.line)).standing (gone ++ bytes_of (stepped standing (quiets standing.line)))
  comes_quiet c = comes_same chooser first before heard standing gone left c (stepped standing (quiets standing.line))
      (quiet_soundly chooser standing.header is standing refl c.past c.so_far.line) (λ on. c.going (quiet_on standing.line on))

  pub comes_begins : ComesTo chooser first before heard left standing gone → ComesTo chooser first before heard left (begins standing).standing (gone ++ bytes_of (begins standing))
  comes_begins c = comes_same chooser first before heard standing gone left c (begins standing)
      (record { is = refl; grown = grown_not standing.header.role chooser (Carried c.past) standing.desk.entries; line = c.so_far.line; said = ((tt, tt), tt) }) c.going

pub bytes_joined : (one other : Done) → bytes_of (joined one other) ≡ bytes_of one ++ bytes_of other
bytes_joined one other = flat_map-append spelling one.said other.said

-- the bytes of two steps
pub gone_joined : (gone : List ℕ) (one other : Done) → gone ++ bytes_of (joined one other) ≡ (gone ++ bytes_of one) ++ bytes_of other
gone_joined gone one other = ap (λ (l : List ℕ). gone ++ l) (bytes_joined one other) ∙ sym (append_assoc gone (bytes_of one) (bytes_of other))

-- a frame, and the own turn where it has come
pub comes_frame : (chooser : Chooser) (first : List Entry) (before : List ℕ) (heard : List Reception) (standing : Standing) → IsHeader standing.header → (gone left piece : List ℕ) (frame : FrameShape) (done : Done)
    → standing.begun ≡ [] → has_ended standing.line ≡ false → IsHeardAs piece frame → HearsFrame chooser standing frame done
    → ComesTo chooser first before heard (piece ++ left) standing gone → ComesTo chooser first before heard left done.standing (gone ++ bytes_of done)
comes_frame chooser first before heard standing is gone left piece frame done none goes heard_as (turn, acts, e) c =
    let step = stepped standing (hears standing.line frame) in
    let row = comes_row chooser first before heard standing is gone left piece frame none goes heard_as c in
    let there = comes_acts chooser first before heard step.standing is (gone ++ bytes_of step) left turn acts row in
    subst (λ (d : Done). ComesTo chooser first before heard left d.standing (gone ++ bytes_of d)) (sym e)
    (comes_as chooser first before heard turn.standing ((gone ++ bytes_of step) ++ bytes_of turn) (gone ++ bytes_of (joined step turn)) left (gone_joined gone step turn) there)

-- ---- what a listen hears

pub bytes_more : (heard more : List Reception) → bytes_heard (heard ++ more) ≡ bytes_heard heard ++ bytes_heard more
bytes_more [] more = refl
bytes_more (Piece bytes ∷ heard) more = ap (λ (l : List ℕ). bytes ++ l) (bytes_more heard more) ∙ sym (append_assoc bytes (bytes_heard heard) (bytes_heard more))
bytes_more (Silence ∷ heard) more = bytes_more heard more
bytes_more (Cut ∷ heard) more = bytes_more heard more

one_more : (heard : List Reception) (reception : Reception) → bytes_heard (heard ++ reception ∷ []) ≡ bytes_heard heard ++ bytes_in reception
one_more heard reception = bytes_more heard (reception ∷ []) ∙ ap (λ (l : List ℕ). bytes_heard heard ++ l) (one reception)
  where
    one : (reception : Reception) → bytes_heard (reception ∷ []) ≡ bytes_in reception
    one (Piece bytes) = append-nil bytes
    one Silence = refl
    one Cut = refl

-- it is still to be pushed
pub comes_listening : (chooser : Chooser) (first : List Entry) (before : List ℕ) (heard : List Reception) (standing : Standing) (gone : List ℕ) (reception : Reception)
    → ComesTo chooser first before heard [] standing gone → ComesTo chooser first before (heard ++ reception ∷ []) (bytes_in reception) standing gone
comes_listening chooser first before heard standing gone reception c = record {
  legal = c.legal;
  said = c.said;
  split = c.split;
  past = c.past;
  so_far = c.so_far;
  behind = c.behind ++ bytes_in reception;
  bytes = one_more heard reception ∙ ap (λ (l : List ℕ). l ++ bytes_in reception) c.bytes ∙ append_assoc c.past c.behind (bytes_in reception);
  going = λ on. ap (λ (l : List ℕ). l ++ bytes_in reception) (c.going on ∙ append-nil standing.begun);
}

pub unplugged_sound : (id : List ℕ) (P : FrameShape → Type 0) (C : List ℕ → Type 0) (line : Line) → IsSound id P C (unplugs line)
unplugged_sound id P C (Ended end) = tt
unplugged_sound id P C (Ready own) = tt
unplugged_sound id P C (Bidding own load) = tt
unplugged_sound id P C (Awaiting own sending) = tt
unplugged_sound id P C (SentAll own) = tt
unplugged_sound id P C (InText own taking) = tt
unplugged_sound id P C (Finished own text) = tt

pub unplugged_ends : (line : Line) → has_ended (unplugs line) ≡ true
unplugged_ends (Ended end) = refl
unplugged_ends (Ready own) = refl
unplugged_ends (Bidding own load) = refl
unplugged_ends (Awaiting own sending) = refl
unplugged_ends (SentAll own) = refl
unplugged_ends (InText own taking) = refl
unplugged_ends (Finished own text) = refl

-- the cable was unplugged
pub comes_cut : (chooser : Chooser) (first : List Entry) (before : List ℕ) (heard : List Reception) (standing : Standing) (gone left : List ℕ)
    → ComesTo chooser first before heard left standing gone → ComesTo chooser first before heard [] (record standing { line = unplugs standing.line; begun = [] }) gone
comes_cut chooser first before heard standing gone left c = record {
  legal = c.legal;
  said = c.said;
  split = c.split;
  past = c.past;
  so_far = record {
    is = refl;
    grown = c.so_far.grown;
    line = unplugged_sound standing.header.own (MayGoOut standing.desk.entries) (CarriesText c.past) standing.line;
    said = c.so_far.said;
  };
  behind = c.behind;
  bytes = c.bytes;
  going = λ on. absurd (both (has_ended (unplugs standing.line)) on (unplugged_ends standing.line));
}

-- a run begins
pub comes_first : (chooser : Chooser) (header : Header) (entries : List Entry) (gone : List ℕ) → IsHeader header → Legal header.role entries
    → ComesTo chooser entries gone [] [] (first_standing header entries) gone
comes_first chooser header entries gone is legal =
    let s = so_far_starts chooser header entries is in
    record {
      legal = legal;
      said = [];
      split = sym (append-nil gone);
      past = [];
      so_far = record { is = refl; grown = s.grown; line = s.line; said = tt };
      behind = [];
      bytes = refl;
      going = λ on. refl;
    }
