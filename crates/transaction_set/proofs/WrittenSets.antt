-- A set in segments as they are written is the text of a set in whole units that fit.
use Rattle.std.proofs.Common.{◌≡◌, ℕ, ◌+◌, ◌≤◌, Bool, true, false, cond, ◌&&◌, List, [], ◌∷◌, ◌++◌, length, drop, codes, position, Ok, refl, sym, ◌∙◌, ap, subst, inl, inr, arith, append_assoc, length-append, get_or, suc}
use Rattle.std.specs.Prelude.{All, bytes_eq}
use Rattle.std.specs.List.{join_with_byte}
use Rattle.std.specs.Str.Parse.{digits_value}
use Rattle.std.proofs.lemmas.Bool.{cases_Bool}
use Rattle.std.proofs.lemmas.List.Elements.{All-append, All-cons, All-nil, All-head, All-tail}
use Rattle.dsd_values.specs.Reading.{check_of, complete, filled_word_of, is_no_check_byte, is_no_digit, is_no_element_byte, plain_number_of}
use Rattle.dsd_values.specs.declared.extra.Extra.{Extra}
use Rattle.dsd_values.specs.declared.extra.Extra.TheVariants.{Allow, Note}
use Rattle.dsd_values.specs.declared.line.Line.{Line}
use Rattle.dsd_values.proofs.Refusals.{filled_ok}
use Rattle.transaction_set.specs.Extras.{IsExtra, is_note}
use Rattle.segments.specs.Elements.{kept_text}
use Rattle.transaction_set.specs.Grammar.{AreEmpty, BehindHead, Body, Closing, Extras, Integrity, IsIntegrity, IsItem, IsLoopId, IsSignature, IsTotals, IsTrailer, Items, Loop, LoopEnd, One, Record, References, Shape, Shared, Signed}
use Rattle.transaction_set.specs.Kinds.{kind_of}
use Rattle.segments.specs.Views.{has_id}
use Rattle.segments.specs.SegmentCut.{Cut}
use Rattle.segments.specs.SegmentSpelling.{SpellsSegments}
use Rattle.segments.specs.SegmentWriting.{IsWritten, IsWrittenText, in_front, without_empty_end}
use Rattle.segments.specs.SetUnits.{AreUnits, EndsInReturn, Fits, IsSet, IsSetText, units_of}
use Rattle.segments.specs.Views.{Seg, element_of}
use Rattle.transaction_set.specs.declared.kind.Form.{Form}
use Rattle.transaction_set.specs.declared.kind.Form.TheVariants as forms
use Rattle.transaction_set.specs.declared.kind.Kind.{Kind}
use Rattle.transaction_set.specs.declared.kind.Kind.TheVariants as kinds
use Rattle.transaction_set.proofs.KindsById.{integrity_id, kind_by_id, start_of_kind, trailer_id}
use Rattle.segments.proofs.Cutting.{cut_of-spelled}
use Rattle.segments.proofs.EmptyEnds.{length_in_front}
use Rattle.transaction_set.proofs.RowKinds.{integrity_kind, trailer_kind}
use Rattle.transaction_set.proofs.Rows.{all_front}
use Rattle.transaction_set.proofs.SetRows.{FromStart}
use Rattle.transaction_set.proofs.Small.{bytes_are}

-- ---- segments inside a set

abbrev is_closing : Kind → Bool
is_closing kinds.Integrity = true
is_closing kinds.Trailer = true
is_closing _ = false

-- a segment of another kind has not the id
not_so : (seg : Seg) (id : List ℕ) (kind last : Kind) → (has_id seg id ≡ true → kind ≡ last) → is_closing last ≡ true → is_closing kind ≡ false → has_id seg id ≡ false
not_so seg id kind last gives closes none = elim (cases_Bool (has_id seg id)) [
  | inl there ↦ absurd (true_false (sym closes ∙ ap is_closing (sym (gives there)) ∙ none))
  | inr absent ↦ absent
]
  where
    true_false : true ≡ false → ⊥
    true_false e = cc

-- neither a G85 nor an SE
record IsInner (seg : Seg) : Type 0 where
  integrity : has_id seg (codes "G85") ≡ false
  trailer : has_id seg (codes "SE") ≡ false

inner : (form : Form) (seg : Seg) (kind : Kind) → kind_of form seg ≡ kind → is_closing kind ≡ false → IsInner seg
inner form seg kind k none = record {
  integrity = not_so seg (codes "G85") kind kinds.Integrity (λ e. sym k ∙ kind_by_id form seg (codes "G85") (bytes_are (element_of seg 0) (codes "G85") e) ∙ integrity_kind form (element_of seg 1)) refl none;
  trailer = not_so seg (codes "SE") kind kinds.Trailer (λ e. sym k ∙ kind_by_id form seg (codes "SE") (bytes_are (element_of seg 0) (codes "SE") e) ∙ trailer_kind form (element_of seg 1)) refl none;
}

-- a note is none of the closing
note_inner : (in_line : Bool) (kind : Kind) → is_note in_line kind ≡ true → is_closing kind ≡ false
note_inner in_line kinds.Note e = refl
note_inner in_line kinds.LineNote e = refl
note_inner in_line _ e = cc

extra_inner : (in_line : Bool) (form : Form) (extra : Extra) (seg : Seg) → IsExtra in_line extra (kind_of form seg) seg → IsInner seg
extra_inner in_line form (Allow allowance) seg (k, is) = inner form seg kinds.Allowance k refl
extra_inner in_line form (Note text) seg (k, e) = inner form seg (kind_of form seg) refl (note_inner in_line (kind_of form seg) k)

-- ---- the lengths of the two last segments

empty_end : (parts : List (List ℕ)) → AreEmpty parts → without_empty_end parts ≡ []
empty_end [] e = refl
empty_end (part ∷ parts) e = ap (λ (p : List ℕ). in_front p (without_empty_end parts)) e.0 ∙ ap (in_front []) (empty_end parts e.1)

-- a written segment whose elements behind the n-th are empty has no more than n + 1 parts
two_parts : (parts : List (List ℕ)) → without_empty_end parts ≡ parts → AreEmpty (drop 2 parts) → length parts ≤ 2
two_parts [] same e = omega arith
two_parts (a ∷ []) same e = omega arith
two_parts (a ∷ b ∷ more) same e =
    let none = empty_end more e in
    let l = ap length same in
    let m : length (in_front b (without_empty_end more)) ≤ suc 0 = subst (λ (k : ℕ). length (in_front b (without_empty_end more)) ≤ suc k) (ap length none) (length_in_front b (without_empty_end more)) in
    omega (arith, length_in_front a (in_front b (without_empty_end more)))

three_parts : (parts : List (List ℕ)) → without_empty_end parts ≡ parts → AreEmpty (drop 3 parts) → length parts ≤ 3
three_parts [] same e = omega arith
three_parts (a ∷ []) same e = omega arith
three_parts (a ∷ b ∷ []) same e = omega arith
three_parts (a ∷ b ∷ c ∷ more) same e =
    let none = empty_end more e in
    let l = ap length same in
    let m : length (in_front c (without_empty_end more)) ≤ suc 0 = subst (λ (k : ℕ). length (in_front c (without_empty_end more)) ≤ suc k) (ap length none) (length_in_front c (without_empty_end more)) in
    omega (arith, length_in_front a (in_front b (in_front c (without_empty_end more))), length_in_front b (in_front c (without_empty_end more)))

-- how many bytes few parts take
joined_three : (parts : List (List ℕ)) → length parts ≤ 3 → length (join_with_byte 42 parts) ≤ length (get_or parts 0 []) + length (get_or parts 1 []) + length (get_or parts 2 []) + 2
joined_three [] few = omega arith
joined_three (a ∷ []) few = omega arith
joined_three (a ∷ b ∷ []) few = omega (arith, length-append a (42 ∷ b))
joined_three (a ∷ b ∷ c ∷ []) few = omega (arith, length-append a (42 ∷ (b ++ 42 ∷ c)), length-append b (42 ∷ c))
joined_three (a ∷ b ∷ c ∷ d ∷ more) few = absurd (omega arith)

written_length : (seg : Seg) → IsWritten seg → length seg.bytes ≡ length (join_with_byte 42 seg.parts) + 2
written_length seg w = ap length w.spelled ∙ length-append (join_with_byte 42 seg.parts) (13 ∷ 10 ∷ [])

past_two : (parts : List (List ℕ)) → length parts ≤ 2 → length (get_or parts 2 []) ≡ 0
past_two [] few = refl
past_two (a ∷ []) few = refl
past_two (a ∷ b ∷ []) few = refl
past_two (a ∷ b ∷ c ∷ more) few = absurd (omega arith)

check_short : (text : List ℕ) (n : ℕ) → check_of text ≡ Ok n → length text ≤ 4
check_short text n e = (filled_ok ℕ 4 (position is_no_check_byte text) text (complete 4 text (Ok (digits_value 16 text))) n e).short

number_short : (text : List ℕ) (n : ℕ) → plain_number_of text ≡ Ok n → length text ≤ 15
number_short text n e = (filled_ok ℕ 15 (position is_no_digit text) text (Ok (digits_value 10 text)) n e).short

word_short : (text word : List ℕ) → filled_word_of text ≡ Ok word → length text ≤ 35
word_short text word e = (filled_ok (List ℕ) 35 (position is_no_element_byte text) text (Ok text) word e).short

integrity_short : (t : Shared) (before : List Seg) (seg : Seg) → IsWritten seg → has_id seg (codes "G85") ≡ true → IsIntegrity t before seg → length seg.bytes ≤ 11
integrity_short t before seg w e is =
    let few = two_parts seg.parts w.trimmed is.2 in
    let id : length (element_of seg 0) ≡ 3 = ap length (bytes_are (element_of seg 0) (codes "G85") e) in
    let four = check_short (element_of seg 1) t.check is.0 in
    omega (arith, written_length seg w, joined_three seg.parts (omega (arith, few)), past_two seg.parts few)

trailer_short : (t : Shared) (before : List Seg) (seg : Seg) → IsWritten seg → has_id seg (codes "SE") ≡ true → IsTrailer t before seg → length seg.bytes ≤ 60
trailer_short t before seg w e is =
    let few = three_parts seg.parts w.trimmed is.2 in
    let id : length (element_of seg 0) ≡ 2 = ap length (bytes_are (element_of seg 0) (codes "SE") e) in
    let number = number_short (element_of seg 1) (length before + 1) is.0 in
    let word = word_short (element_of seg 2) t.control is.1 in
    omega (arith, written_length seg w, joined_three seg.parts few)

-- ---- a set ends in a G85 and an SE, which are one unit

record IsEnded (segs : List Seg) : Type 0 where
  front : List Seg
  integrity : Seg
  trailer : Seg
  joined : segs ≡ front ++ integrity ∷ trailer ∷ []
  inside : All IsInner front
  is_g85 : has_id integrity (codes "G85") ≡ true
  is_se : has_id trailer (codes "SE") ≡ true
  short : Fits (integrity.bytes ++ trailer.bytes)

-- segments of this shape end so where they are written
abbrev Ends : Shape → Type 0
Ends shape = (before segs : List Seg) → shape before segs → All IsWritten segs → IsEnded segs

behind : (seg : Seg) (segs : List Seg) → IsInner seg → IsEnded segs → IsEnded (seg ∷ segs)
behind seg segs is e = record {
  front = seg ∷ e.front;
  integrity = e.integrity;
  trailer = e.trailer;
  joined = ap (λ (l : List Seg). seg ∷ l) e.joined;
  inside = All-cons IsInner seg e.front is e.inside;
  is_g85 = e.is_g85;
  is_se = e.is_se;
  short = e.short;
}

one_ends : (form : Form) (kind : Kind) (Says : List Seg → Seg → Type 0) (rest : Shape) → is_closing kind ≡ false → Ends rest → Ends (One form kind Says rest)
one_ends form kind Says rest none later before [] s all = absurd s
one_ends form kind Says rest none later before (seg ∷ segs) (k, says, s) all = behind seg segs (inner form seg kind k none) (later (before ++ seg ∷ []) segs s (All-tail IsWritten seg segs all))

integrity_ends : (form : Form) (t : Shared) → Ends (Integrity form t)
integrity_ends form t before [] s all = absurd s
integrity_ends form t before (seg ∷ []) s all = absurd s.2
integrity_ends form t before (seg ∷ last ∷ []) (k, is, (l, also, e)) all =
    let is_g85 = integrity_id form seg k in
    let is_se = trailer_id form last l in
    let a = integrity_short t before seg (All-head IsWritten seg (last ∷ []) all) is_g85 is in
    let b = trailer_short t (before ++ seg ∷ []) last (All-head IsWritten last [] (All-tail IsWritten seg (last ∷ []) all)) is_se also in
    record {
      front = [];
      integrity = seg;
      trailer = last;
      joined = refl;
      inside = All-nil IsInner;
      is_g85 = is_g85;
      is_se = is_se;
      short = omega (arith, length-append seg.bytes last.bytes);
    }
integrity_ends form t before (seg ∷ last ∷ next ∷ more) (k, is, (l, also, e)) all = cc

closing_ends : (form : Form) (t : Shared) → Ends (Closing form t)
closing_ends form t =
    one_ends form kinds.Totals (λ _ seg. IsTotals t.totals seg) (Signed form t) refl
    (one_ends form kinds.Signature (λ _ seg. IsSignature t.signature seg) (Integrity form t) refl (integrity_ends form t))

extras_end : (in_line : Bool) (form : Form) (extras : List Extra) (rest : Shape) → Ends rest → Ends (Extras in_line form extras rest)
extras_end in_line form [] rest later before segs s all = later before segs s all
extras_end in_line form (extra ∷ extras) rest later before [] s all = absurd s
extras_end in_line form (extra ∷ extras) rest later before (seg ∷ segs) (is, s) all =
    behind seg segs (extra_inner in_line form extra seg is) (extras_end in_line form extras rest later (before ++ seg ∷ []) segs s (All-tail IsWritten seg segs all))

items_end : (form : Form) (lines : List Line) (rest : Shape) → Ends rest → Ends (Items form lines rest)
items_end form [] rest later = λ before segs s all. later before segs s all
items_end form (line ∷ lines) rest later =
    one_ends form kinds.Item (λ _ seg. IsItem line seg) (Extras true form line.extras (Items form lines rest)) refl (extras_end true form line.extras (Items form lines rest) (items_end form lines rest later))

loop_ends : (form : Form) (lines : List Line) (rest : Shape) → Ends rest → Ends (Loop form lines rest)
loop_ends form [] rest later before segs s all = later before segs s all
loop_ends form (line ∷ lines) rest later before segs (id, s) all =
    one_ends form kinds.LoopStart (λ _ seg. IsLoopId id seg) (Items form (line ∷ lines) (LoopEnd form id rest)) refl
    (items_end form (line ∷ lines) (LoopEnd form id rest) (one_ends form kinds.LoopEnd (λ _ seg. IsLoopId id seg) rest refl later)) before segs s all

record_ends : (form : Form) (extras : List Extra) (rest : Shape) → Ends rest → Ends (Record form extras rest)
record_ends forms.Base extras rest later = extras_end false forms.Base extras rest later
record_ends forms.Answer [] rest later = λ before segs s all. later before segs s all
record_ends forms.Answer (extra ∷ extras) rest later = λ before segs s all. absurd s

references_end : (form : Form) (texts : List (List ℕ)) (rest : Shape) → Ends rest → Ends (References form texts rest)
references_end form [] rest later = λ before segs s all. later before segs s all
references_end forms.Base (text ∷ texts) rest later =
    one_ends forms.Base kinds.Reference (λ _ seg. kept_text seg ≡ text) (References forms.Base texts rest) refl (references_end forms.Base texts rest later)
references_end forms.Answer (text ∷ []) rest later = one_ends forms.Answer kinds.Reference (λ _ seg. kept_text seg ≡ text) rest refl later
references_end forms.Answer (text ∷ next ∷ texts) rest later = λ before segs s all. absurd s

-- ---- the units of a set

both_tests : (a b : Bool) (x y : List (List ℕ)) → a ≡ true → b ≡ true → cond (a && b) x y ≡ x
both_tests a b x y e f = ap (λ (t : Bool). cond (t && b) x y) e ∙ ap (λ (t : Bool). cond t x y) f

pub alone : (seg : Seg) (more : List Seg) → has_id seg (codes "G85") ≡ false → units_of (seg ∷ more) ≡ seg.bytes ∷ units_of more
alone seg [] e = refl
alone seg (next ∷ more) e =
    ap (λ (b : Bool). cond (b && has_id next (codes "SE")) ((seg.bytes ++ next.bytes) ∷ units_of more) (seg.bytes ∷ units_of (next ∷ more))) e

units_end : (front : List Seg) (integrity trailer : Seg) → All IsInner front → All IsWritten front → has_id integrity (codes "G85") ≡ true → has_id trailer (codes "SE") ≡ true
    → Fits (integrity.bytes ++ trailer.bytes) → All Fits (units_of (front ++ integrity ∷ trailer ∷ []))
units_end [] integrity trailer inside written e f fits =
    subst (All Fits) (sym (both_tests (has_id integrity (codes "G85")) (has_id trailer (codes "SE")) ((integrity.bytes ++ trailer.bytes) ∷ []) (integrity.bytes ∷ trailer.bytes ∷ []) e f))
    (All-cons Fits (integrity.bytes ++ trailer.bytes) [] fits (All-nil Fits))
units_end (seg ∷ front) integrity trailer inside written e f fits =
    subst (All Fits) (sym (alone seg (front ++ integrity ∷ trailer ∷ []) (All-head IsInner seg front inside).integrity))
    (All-cons Fits seg.bytes (units_of (front ++ integrity ∷ trailer ∷ [])) (All-head IsWritten seg front written).short
    (units_end front integrity trailer (All-tail IsInner seg front inside) (All-tail IsWritten seg front written) e f fits))

abbrev NoEnd : Seg → Type 0
NoEnd seg = has_id seg (codes "SE") ≡ false

no_other : (seg : Seg) (a b : List ℕ) → has_id seg a ≡ true → bytes_eq a b ≡ false → has_id seg b ≡ false
no_other seg a b e other = ap (λ (l : List ℕ). bytes_eq l b) (bytes_are (element_of seg 0) a e) ∙ other

written_returns : (segs : List Seg) → All IsWritten segs → All EndsInReturn segs
written_returns segs all = λ k d inside. (all k d inside).spelled

front_written : (front : List Seg) (integrity trailer : Seg) (segs : List Seg) → segs ≡ front ++ integrity ∷ trailer ∷ [] → All IsWritten segs → All IsWritten front
front_written front integrity trailer segs e all = all_front IsWritten front (integrity ∷ trailer ∷ []) (subst (All IsWritten) e all)

split : (l : List Seg) (integrity trailer : Seg) → l ++ integrity ∷ trailer ∷ [] ≡ (l ++ integrity ∷ []) ++ trailer ∷ []
split l integrity trailer = sym (append_assoc l (integrity ∷ []) (trailer ∷ []))

-- an ST, and behind it what ends so
units : (start : Seg) (segs : List Seg) → has_id start (codes "ST") ≡ true → IsWritten start → All IsWritten segs → IsEnded segs → IsSet (start ∷ segs) × AreUnits (start ∷ segs)
units start segs is_st w all e =
    let inside : All IsInner (start ∷ e.front) = All-cons IsInner start e.front (record { integrity = no_other start (codes "ST") (codes "G85") is_st refl; trailer = no_other start (codes "ST") (codes "SE") is_st refl }) e.inside in
    let written : All IsWritten (start ∷ e.front) = All-cons IsWritten start e.front w (front_written e.front e.integrity e.trailer segs e.joined all) in (
      record {
        first = start;
        inside = e.front ++ e.integrity ∷ [];
        last = e.trailer;
        joined = ap (λ (l : List Seg). start ∷ l) (e.joined ∙ split e.front e.integrity e.trailer);
        begins = is_st;
        goes_on = All-append NoEnd e.front (e.integrity ∷ []) (λ k d under. (e.inside k d under).trailer) (All-cons NoEnd e.integrity [] (no_other e.integrity (codes "G85") (codes "SE") e.is_g85 refl) (All-nil NoEnd));
        ends = e.is_se;
      },
      record {
        returns = written_returns (start ∷ segs) (All-cons IsWritten start segs w all);
        fit = subst (λ (l : List Seg). All Fits (units_of (start ∷ l))) (sym e.joined) (units_end (start ∷ e.front) e.integrity e.trailer inside written e.is_g85 e.is_se e.short);
      },
    )

-- the start of a set is its ST
start_id : (form : Form) (seg : Seg) → kind_of form seg ≡ kinds.Start → has_id seg (codes "ST") ≡ true
start_id form seg k = both_parts (has_id seg (codes "ST")) _ (start_of_kind form seg k)
  where
    both_parts : (a b : Bool) → (a && b) ≡ true → a ≡ true
    both_parts true b e = refl
    both_parts false b e = e

-- segments as they are written, in the shape of a set
pub written_set : (form : Form) (control : List ℕ) (IsHead : Seg → Type 0) (texts : List (List ℕ)) (lines : List Line) (extras : List Extra) (t : Shared) (segs : List Seg) (text : List ℕ)
    → FromStart form control IsHead texts lines extras t [] segs → All IsWritten segs → SpellsSegments 0 segs text → IsSetText text
written_set form control IsHead texts lines extras t [] text s all spelled = absurd s
written_set form control IsHead texts lines extras t (start ∷ segs) text (k, is, s) all spelled =
    let later = All-tail IsWritten start segs all in
    let ended : IsEnded segs = one_ends form kinds.Head (λ _ seg. IsHead seg) (BehindHead form texts lines extras t) refl
    (references_end form texts (Body form lines extras t) (loop_ends form lines (Record form extras (Closing form t)) (record_ends form extras (Closing form t) (closing_ends form t)))) (start ∷ []) segs s later in
    let both = units start segs (start_id form start k) (All-head IsWritten start segs all) later ended in
    record { segments = start ∷ segs; spelled = spelled; set = both.0; units = both.1 }

-- the same of a text that is some segments as they are written
pub written_set_text : (form : Form) (control : List ℕ) (IsHead : Seg → Type 0) (texts : List (List ℕ)) (lines : List Line) (extras : List Extra) (t : Shared) (segs : List Seg) (text : List ℕ)
    → FromStart form control IsHead texts lines extras t [] segs → SpellsSegments 0 segs text → IsWrittenText text → IsSetText text
written_set_text form control IsHead texts lines extras t segs text s spelled w =
    let same : w.segments ≡ segs = ap (λ (c : Cut). c.segments) (sym (cut_of-spelled text w.segments w.spelled) ∙ cut_of-spelled text segs spelled) in
    written_set form control IsHead texts lines extras t segs text s (subst (All IsWritten) same w.written) spelled
