-- The load of an own turn: how many blocks it has, and what is lent of it.
use Rattle.std.proofs.Common.{◌≡◌, ◌≢◌, ◌≤◌, ◌<◌, ◌+◌, ◌*◌, ◌^◌, ◌==◌, ℕ, Bool, false, List, [], ◌∷◌, ◌++◌, length, codes, get_or, map, None, refl, sym, ◌∙◌, ap, subst, inl, inr, append_assoc, append-nil, length-append, arith}
use Rattle.std.specs.Prelude.{All}
use Rattle.std.specs.Str.{bytes_eq}
use Rattle.std.specs.List.{concat}
use Rattle.std.proofs.lemmas.Bool.Decides.{nat_tests}
use Rattle.std.proofs.lemmas.List.{length-map}
use Rattle.std.proofs.lemmas.List.Elements.{All-cons, All-head, All-nil, All-tail}
use Rattle.segments.specs.Views.{has_id}
use Rattle.segments.specs.SegmentWriting.{IsLine as IsWrittenLine, line_of, segment_of}
use Rattle.segments.specs.SetUnits.{IsSetText}
use Rattle.segments.proofs.EmptyEnds.{trim_element}
use Rattle.segments.proofs.Written.{segment_spelled}
use Rattle.dex_line.specs.BlockCut.{blocks_of}
use Rattle.dex_line.specs.TextUnits.{UnitsFit, is_trailer, lines_of, paired, units_of}
use Rattle.dex_line.specs.FrameShapes.{FrameShape}
use Rattle.dex_line.proofs.Exists.{blocks_empty}
use Rattle.dex_line.proofs.Lines.{IsLine, lines_join}
use Rattle.dxs_envelope.specs.FirstFault.{told_of}
use Rattle.dxs_envelope.specs.Sending.{Sent, header_row, placed, trailer_row}
use Rattle.dxs_envelope.specs.Views.{SetAt, Told}
use Rattle.dxs_envelope.proofs.Enveloped.{envelope_told}
use Rattle.dxs_envelope.proofs.LineUnits.{outgoing_fits, units_fit_blocks}
use Rattle.dxs_envelope.proofs.Lines.{header_length, header_short, trailer_short}
use Rattle.dxs_envelope.proofs.SegmentLines.{segment_line, segment_trailer}
use Rattle.dxs_envelope.proofs.SentRead.{header_line, sent_envelope, trailer_line}
use Rattle.dxs_envelope.proofs.Shifted.{sets_few, texts_placed}
use Rattle.dsd_journal.specs.declared.header.Header.{Header}
use Rattle.dex_handshake.specs.LineRun.{frame_of_block, load_of}
use Rattle.own_turn.specs.DueSets.{DueSet, texts_of}
use Rattle.own_turn.specs.OwnTurn.{IsLoad, lent, sets_lent}
use Rattle.dsd_end.specs.Sealing.{IsSomeSet}
use Rattle.dsd_end.proofs.Transmissions.{set_whole}
use Rattle.dsd_end.proofs.WholeLines.{HasEnds, IsWhole, lines_then, one_line, whole_lines}
use Rattle.clean_sessions.specs.BlocksAlone.{AllFit, EndsApart, all_units, blocks_alone}
use Rattle.clean_sessions.specs.CleanTurns.{has_none}
use Rattle.clean_sessions.specs.Turns.{IsTurn}
use Rattle.clean_sessions.proofs.BlocksCounted.{two_more}
use Rattle.clean_sessions.proofs.LoadFrames.{frames_of, load_had}
use Rattle.clean_sessions.proofs.UnitsJoined.{paired_apart}

-- ---- units of lines with their ends

ends_apart : (lines : List (List ℕ)) → HasEnds lines → EndsApart lines
ends_apart [] ends = tt
ends_apart (line ∷ []) ends = ends
ends_apart (line ∷ next ∷ more) ends = ends_apart (next ∷ more) ends.1

units_then : (text rest : List ℕ) → IsWhole text → units_of (text ++ rest) ≡ units_of text ++ units_of rest
unfolding units_of
units_then text rest w =
    ap (λ (t : List ℕ). paired (lines_of (t ++ rest))) w.joined
    ∙ ap paired (lines_then w.lines rest w.are)
    ∙ paired_apart w.lines (lines_of rest) (ends_apart w.lines w.ends)
    ∙ ap (λ (l : List (List ℕ)). paired l ++ paired (lines_of rest)) (sym (whole_lines text w))

-- a line is one unit
units_line : (line : List ℕ) → IsLine line → units_of line ≡ line ∷ []
unfolding units_of paired
units_line line is = ap (λ (t : List ℕ). paired (lines_of t)) (sym (append-nil line)) ∙ ap paired (lines_join (line ∷ []) (is, tt))

units_all : (texts : List (List ℕ)) (rest : List ℕ) → All IsSomeSet texts → units_of (concat texts ++ rest) ≡ all_units texts ++ units_of rest
units_all [] rest each = refl
units_all (text ∷ more) rest each =
    ap units_of (append_assoc text (concat more) rest)
    ∙ units_then text (concat more ++ rest) (set_whole text (All-head IsSomeSet text more each))
    ∙ ap (λ (l : List (List ℕ)). units_of text ++ l) (units_all more rest (All-tail IsSomeSet text more each))
    ∙ sym (append_assoc (units_of text) (all_units more) (units_of rest))

all_fit : (texts : List (List ℕ)) → All IsSetText texts → AllFit texts
all_fit [] each = tt
all_fit (text ∷ more) each =
    let set = All-head IsSetText text more each in
    (units_fit_blocks text (record { segments = set.segments; spelled = set.spelled; units = set.units }), all_fit more (All-tail IsSetText text more each))

-- ---- a transmission

record IsPlain (line : List ℕ) : Type 0 where
  is : IsLine line
  plain : is_trailer line ≡ false

plain_line : (parts : List (List ℕ)) → IsWrittenLine parts → bytes_eq (get_or parts 0 []) (codes "G85") ≡ false → IsPlain (line_of parts)
plain_line parts is other =
    let s = segment_spelled 0 parts is in
    let id : has_id (segment_of 0 parts) (codes "G85") ≡ false = ap (λ (l : List ℕ). bytes_eq l (codes "G85")) (trim_element parts 0) ∙ other in
    record { is = segment_line (segment_of 0 parts) s; plain = segment_trailer (segment_of 0 parts) s ∙ id }

module _ (sets : List (List ℕ)) (sender receiver : List ℕ) (control : ℕ) (text : List ℕ) (sent : Sent sets sender receiver control text) where
  abbrev head : List ℕ
  head = line_of (header_row sender receiver control)

  abbrev tail : List ℕ
  tail = line_of (trailer_row control (length sets))

  few_sets : length sets < 2 ^ 64
  few_sets =
      let short : length text ≤ 270_000 = sent.short in
      omega (arith, sets_few sets sent.each, ap length sent.written, short, length-append (head ++ concat sets) tail, length-append head (concat sets))

  pub head_some : text ≢ []
  head_some none =
      let empty : length text ≡ 0 = ap length none in
      omega (arith, empty, ap length sent.written, length-append (head ++ concat sets) tail, length-append head (concat sets), header_length sender receiver control sent.from.ten sent.to.ten)

  told : told_of text ≡ record { sets = placed (length head) sets; fault = None }
  told = envelope_told text (placed (length head) sets) (sent_envelope sets sender receiver control text sent)

  units_parted : All IsSomeSet sets → units_of text ≡ head ∷ (all_units sets ++ tail ∷ [])
  units_parted each =
      let first = plain_line (header_row sender receiver control) (header_line sender receiver control sent.from sent.to sent.high) refl in
      let last = plain_line (trailer_row control (length sets)) (trailer_line control (length sets) sent.high few_sets) refl in
      ap units_of (sent.written ∙ append_assoc head (concat sets) tail)
      ∙ units_then head (concat sets ++ tail) (one_line head first.is first.plain)
      ∙ ap (λ (l : List (List ℕ)). l ++ units_of (concat sets ++ tail)) (units_line head first.is)
      ∙ ap (λ (l : List (List ℕ)). head ∷ l) (units_all sets tail each)
      ∙ ap (λ (l : List (List ℕ)). head ∷ (all_units sets ++ l)) (units_line tail last.is)

  sent_cost : UnitsFit text → All IsSomeSet sets → length (load_of text) ≤ blocks_alone sets + 2
  sent_cost fit each =
      let few = two_more text head tail sets fit (all_fit sets sent.each) (header_short sender receiver control sent.from.ten sent.to.ten sent.high)
      (trailer_short control (length sets) sent.high few_sets) (units_parted each) in
      let size = length-map (blocks_of text) frame_of_block in
      omega (arith, few, size)

-- ---- at least a block for each set

frames_some : (block : List ℕ) (more : List (List ℕ)) → 1 ≤ length (frames_of block more)
frames_some block [] = omega arith
frames_some block (next ∷ more) = omega arith

not_empty : (text : List ℕ) → 1 ≤ length text → text ≡ [] → ⊥
not_empty text some none = let size : length text ≡ 0 = ap length none in omega (arith, some, size)

some_blocks : (text : List ℕ) → UnitsFit text → 1 ≤ length text → 1 ≤ length (blocks_of text)
some_blocks text fit some = elim (load_had text fit) [
  | inl none ↦ absurd (not_empty text some none.0)
  | inr had ↦
      let least : 1 ≤ length (load_of text) = subst (λ (l : List FrameShape). 1 ≤ length l) (sym had.frames) (frames_some had.block had.more) in
      let size = length-map (blocks_of text) frame_of_block in
      omega (arith, least, size)
]

set_some : (text : List ℕ) → IsSetText text → 1 ≤ length text
set_some text set =
    let few : length (text ∷ []) ≤ length (concat (text ∷ [])) = sets_few (text ∷ []) (All-cons IsSetText text [] set (All-nil IsSetText)) in
    let size : length (concat (text ∷ [])) ≡ length text = ap length (append-nil text) in
    omega (arith, few, size)

alone_some : (text : List ℕ) (more : List (List ℕ)) → All IsSetText (text ∷ more) → 1 ≤ blocks_alone (text ∷ more)
alone_some text more each =
    let set = All-head IsSetText text more each in
    let first = some_blocks text (units_fit_blocks text (record { segments = set.segments; spelled = set.spelled; units = set.units })) (set_some text set) in
    omega (arith, first)

-- ---- own turns

pub no_blocks : (load : List ℕ) → load ≡ [] → length (load_of load) ≡ 0
no_blocks load none = ap (λ (blocks : List (List ℕ × Bool)). length (map frame_of_block blocks)) (blocks_empty load none)

pub load_turn : (header : Header) (control : ℕ) (sets : List DueSet) (load : List ℕ) (pieces : ℕ) → IsLoad header control sets load → All IsSomeSet (texts_of sets)
    → pieces ≤ 4 * length (load_of load) → IsTurn (record { blocks = length (load_of load); pieces = pieces; alone = blocks_alone (texts_of sets) })
load_turn header control [] load pieces is each short =
    let none = no_blocks load is in
    record { few = omega (arith, none); none = λ alone. none; short = short }
load_turn header control (set ∷ more) load pieces is each short =
    let some = alone_some set.text (texts_of more) is.each in
    let fits = outgoing_fits load (record { sets = texts_of (set ∷ more); sender = header.own; receiver = header.peer; control = control; sent = is }) in
    record {
      few = sent_cost (texts_of (set ∷ more)) header.own header.peer control load is fits.0 each;
      none = λ alone. absurd (clash (blocks_alone (texts_of (set ∷ more))) some alone);
      short = short;
    }
  where
    clash : (n : ℕ) → 1 ≤ n → n ≡ 0 → ⊥
    clash n some none = omega (arith, some, none)

-- without a set there is no text, and with one there is some
pub load_empty : (header : Header) (control : ℕ) (sets : List DueSet) (load : List ℕ) → IsLoad header control sets load → (blocks_alone (texts_of sets) == 0) ≡ has_none load
load_empty header control [] load is = sym (ap has_none is)
load_empty header control (set ∷ more) load is =
    some_none (blocks_alone (texts_of (set ∷ more))) (alone_some set.text (texts_of more) is.each) ∙ sym (text_some load (head_some (texts_of (set ∷ more)) header.own header.peer control load is))
  where
    some_none : (n : ℕ) → 1 ≤ n → (n == 0) ≡ false
    some_none n some = grind (arith, nat_tests)

    text_some : (text : List ℕ) → text ≢ [] → has_none text ≡ false
    text_some [] some = absurd (some refl)
    text_some (byte ∷ more) some = refl

lent_some : (load : List ℕ) → load ≢ [] → lent load ≡ told_of load
lent_some [] some = absurd (some refl)
lent_some (byte ∷ more) some = refl

-- what the other end lends of it is what was gathered
pub load_lent : (header : Header) (control : ℕ) (sets : List DueSet) (load : List ℕ) → IsLoad header control sets load → (sets_lent load ≡ texts_of sets) × ((lent load).fault ≡ None)
load_lent header control [] load is = (ap sets_lent is, ap (λ (l : List ℕ). (lent l).fault) is)
load_lent header control (set ∷ more) load is =
    let place = length (line_of (header_row header.own header.peer control)) in
    let all = lent_some load (head_some (texts_of (set ∷ more)) header.own header.peer control load is) ∙ told (texts_of (set ∷ more)) header.own header.peer control load is in
    (ap (λ (t : Told). map (λ (s : SetAt). s.bytes) t.sets) all ∙ texts_placed place (texts_of (set ∷ more)), ap (λ (t : Told). t.fault) all)
