-- The units of a transmission, by its segments and by its lines, are the same; so whatever is written as a transmission can be cut.
use Rattle.std.proofs.Common.{◌≡◌, ℕ, ◌+◌, Bool, cond, ◌&&◌, List, [], ◌∷◌, ◌++◌, length, codes, true, refl, sym, ◌∙◌, ap, subst}
use Rattle.std.specs.Prelude.{All}
use Rattle.std.specs.List.{list_all}
use Rattle.std.proofs.lemmas.List.Elements.{All-head, All-tail}
use Rattle.segments.specs.Views.{has_id}
use Rattle.segments.specs.SegmentSpelling.{SpellsSegment, SpellsSegments}
use Rattle.segments.specs.Views.{Seg}
use Rattle.dex_line.specs.Bytes.{is_text}
use Rattle.dex_line.specs.TextUnits.{EachFits, UnitsFit, is_set_end, is_trailer, lines_of, paired, units_of}
use Rattle.dex_line.proofs.Lines.{lines_join}
use Rattle.segments.specs.SetUnits.{Fits, IsInUnits, units_of as segment_units}
use Rattle.dxs_envelope.proofs.SegmentLines.{lines_in, segment_end, segment_trailer, segments_are_lines, segments_join, segments_text}
use Rattle.dxs_envelope.proofs.SentRead.{sent_units}
use Rattle.dxs_envelope.specs.Sending.{IsOutgoing}

abbrev pair_or : Bool → Seg → Seg → List (List ℕ) → List (List ℕ) → List (List ℕ)
pair_or b seg next more other = cond b ((seg.bytes ++ next.bytes) ∷ more) (seg.bytes ∷ other)

units_same : (segs : List Seg) (place : ℕ) (text : List ℕ) → SpellsSegments place segs text → paired (lines_in segs) ≡ segment_units segs
unfolding paired
units_same [] place text h = refl
units_same (seg ∷ []) place text h = refl
units_same (seg ∷ next ∷ more) place text h =
    let is : SpellsSegment seg = h.0 in
    let later = h.2.2 in
    let also : SpellsSegment next = later.0 in
    let skip = units_same more (place + length seg.bytes + length next.bytes) later.2.0 later.2.2 in
    let on = units_same (next ∷ more) (place + length seg.bytes) h.2.0 later in
    let tests : (is_trailer seg.bytes && is_set_end next.bytes) ≡ (has_id seg (codes "G85") && has_id next (codes "SE")) =
    ap (λ (b : Bool). b && is_set_end next.bytes) (segment_trailer seg is) ∙ ap (λ (b : Bool). has_id seg (codes "G85") && b) (segment_end next also) in
    ap (λ (b : Bool). pair_or b seg next (paired (lines_in more)) (paired (lines_in (next ∷ more)))) tests
    ∙ ap (λ (l : List (List ℕ)). pair_or (has_id seg (codes "G85") && has_id next (codes "SE")) seg next l (paired (lines_in (next ∷ more)))) skip
    ∙ ap (λ (l : List (List ℕ)). pair_or (has_id seg (codes "G85") && has_id next (codes "SE")) seg next (segment_units more) l) on

each_fits : (units : List (List ℕ)) → All Fits units → EachFits units
each_fits [] h = tt
each_fits (unit ∷ more) h = (All-head Fits unit more h, each_fits more (All-tail Fits unit more h))

-- segments in units that fit are a text whose units fit into blocks
pub units_fit_blocks : (text : List ℕ) → IsInUnits text → UnitsFit text
unfolding units_of
units_fit_blocks text is =
    let lines : lines_of text ≡ lines_in is.segments =
    ap lines_of (segments_join 0 is.segments text is.spelled) ∙ lines_join (lines_in is.segments) (segments_are_lines 0 is.segments text is.spelled) in
    let same : paired (lines_of text) ≡ segment_units is.segments = ap paired lines ∙ units_same is.segments 0 text is.spelled in
    subst EachFits (sym same) (each_fits (segment_units is.segments) is.units.fit)

pub units_text : (text : List ℕ) → IsInUnits text → UnitsFit text × (list_all is_text text ≡ true)
units_text text is = (units_fit_blocks text is, segments_text 0 is.segments text is.spelled)

-- a transmission that goes out can be cut into blocks
pub outgoing_fits : (text : List ℕ) → IsOutgoing text → UnitsFit text × (list_all is_text text ≡ true)
outgoing_fits text o = units_text text (sent_units o.sets o.sender o.receiver o.control text o.sent)
