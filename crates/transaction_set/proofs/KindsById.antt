-- What a segment is tells its id; and what stands behind an item is the same in both sets.
use Rattle.std.proofs.Common.{◌≡◌, Bool, true, false, List, [], ◌∷◌, ◌++◌, codes, if◌then◌else◌, refl, sym, ◌∙◌, ap, ℕ}
use Rattle.transaction_set.specs.Extras.{is_note}
use Rattle.transaction_set.specs.Kinds.{head_id, is_start_of, item_id, kind_of, reference_id}
use Rattle.segments.specs.Views.{has_id}
use Rattle.segments.specs.Views.{Seg, element_of}
use Rattle.transaction_set.specs.declared.kind.Form.{Form}
use Rattle.transaction_set.specs.declared.kind.Kind.{Kind}
use Rattle.transaction_set.specs.declared.kind.Kind.TheVariants as kinds
use Rattle.transaction_set.proofs.RowKinds.{allowance_kind, kind_is, kind_with, line_note_kind, note_kind}
use Rattle.transaction_set.proofs.Small.{bytes_are}

-- ---- kinds as rows of tests

record Row : Type 0 where
  test : Bool
  kind : Kind

abbrev row : Bool → Kind → Row
row test kind = record { test = test; kind = kind }

-- the kind of the first row whose test holds
abbrev first_kind : List Row → Kind
first_kind [] = kinds.Other
first_kind (r ∷ rows) = if r.test then r.kind else first_kind rows

-- no row has such a kind
abbrev HaveNone : (Kind → Bool) → List Row → Type 0
HaveNone is [] = is kinds.Other ≡ false
HaveNone is (r ∷ rows) = (is r.kind ≡ false) × HaveNone is rows

neither : (b : Bool) (is : Kind → Bool) (x y : Kind) → is x ≡ false → is y ≡ false → is (if b then x else y) ≡ false
neither true is x y h k = h
neither false is x y h k = k

none_first : (is : Kind → Bool) (rows : List Row) → HaveNone is rows → is (first_kind rows) ≡ false
none_first is [] h = h
none_first is (r ∷ rows) h = neither r.test is r.kind (first_kind rows) h.0 (none_first is rows h.1)

passed : (b : Bool) (is : Kind → Bool) (x y : Kind) → is x ≡ false → is (if b then x else y) ≡ true → is y ≡ true
passed true is x y h e = let never : false ≡ true = sym h ∙ e in cc
passed false is x y h e = e

met : (b : Bool) (is : Kind → Bool) (x y : Kind) → is y ≡ false → is (if b then x else y) ≡ true → b ≡ true
met true is x y h e = refl
met false is x y h e = let never : false ≡ true = sym h ∙ e in cc

-- the one row with such a kind is the one whose test holds
its_test : (is : Kind → Bool) (before : List Row) (test : Bool) (kind : Kind) (after : List Row) → HaveNone is before → HaveNone is after → is kinds.Other ≡ false
    → is (first_kind (before ++ row test kind ∷ after)) ≡ true → test ≡ true
its_test is [] test kind after b a o e = met test is kind (first_kind after) (none_first is after a) e
its_test is (r ∷ before) test kind after b a o e = its_test is before test kind after b.1 a o (passed r.test is r.kind (first_kind (before ++ row test kind ∷ after)) b.0 e)

-- the rows of a segment in a set of this form: those before an allowance, and those behind the notes
abbrev before_allowance : Form → Seg → List Row
before_allowance form seg =
    row (is_start_of form seg) kinds.Start ∷ row (has_id seg (head_id form)) kinds.Head ∷ row (has_id seg (reference_id form)) kinds.Reference
    ∷ row (has_id seg (codes "LS")) kinds.LoopStart ∷ row (has_id seg (item_id form)) kinds.Item ∷ []

abbrev behind_notes : Seg → List Row
behind_notes seg =
    row (has_id seg (codes "LE")) kinds.LoopEnd ∷ row (has_id seg (codes "G84")) kinds.Totals ∷ row (has_id seg (codes "G86")) kinds.Signature
    ∷ row (has_id seg (codes "G85")) kinds.Integrity ∷ row (has_id seg (codes "SE")) kinds.Trailer ∷ []

abbrev allowance_row : Seg → Row
allowance_row seg = row (has_id seg (codes "G72")) kinds.Allowance

abbrev line_note_row : Seg → Row
line_note_row seg = row (has_id seg (codes "G22")) kinds.LineNote

abbrev note_row : Seg → Row
note_row seg = row (has_id seg (codes "G23")) kinds.Note

abbrev is_start : Kind → Bool
is_start kinds.Start = true
is_start _ = false

abbrev is_allowance : Kind → Bool
is_allowance kinds.Allowance = true
is_allowance _ = false

abbrev is_line_note : Kind → Bool
is_line_note kinds.LineNote = true
is_line_note _ = false

abbrev is_plain_note : Kind → Bool
is_plain_note kinds.Note = true
is_plain_note _ = false

-- the start of a set is its ST
pub start_of_kind : (form : Form) (seg : Seg) → kind_of form seg ≡ kinds.Start → is_start_of form seg ≡ true
unfolding kind_of
start_of_kind form seg e =
    its_test is_start [] (is_start_of form seg) kinds.Start
    (row (has_id seg (head_id form)) kinds.Head ∷ row (has_id seg (reference_id form)) kinds.Reference ∷ row (has_id seg (codes "LS")) kinds.LoopStart ∷ row (has_id seg (item_id form)) kinds.Item
    ∷ allowance_row seg ∷ line_note_row seg ∷ note_row seg ∷ behind_notes seg)
    refl (refl, (refl, (refl, (refl, (refl, (refl, (refl, (refl, (refl, (refl, (refl, (refl, refl)))))))))))) refl (ap is_start e)

allowance_id : (form : Form) (seg : Seg) → kind_of form seg ≡ kinds.Allowance → element_of seg 0 ≡ codes "G72"
unfolding kind_of
allowance_id form seg e = bytes_are (element_of seg 0) (codes "G72")
    (its_test is_allowance (before_allowance form seg) (has_id seg (codes "G72")) kinds.Allowance (line_note_row seg ∷ note_row seg ∷ behind_notes seg)
    (refl, (refl, (refl, (refl, (refl, refl))))) (refl, (refl, (refl, (refl, (refl, (refl, (refl, refl))))))) refl (ap is_allowance e))

line_note_id : (form : Form) (seg : Seg) → kind_of form seg ≡ kinds.LineNote → element_of seg 0 ≡ codes "G22"
unfolding kind_of
line_note_id form seg e = bytes_are (element_of seg 0) (codes "G22")
    (its_test is_line_note (before_allowance form seg ++ allowance_row seg ∷ []) (has_id seg (codes "G22")) kinds.LineNote (note_row seg ∷ behind_notes seg)
    (refl, (refl, (refl, (refl, (refl, (refl, refl)))))) (refl, (refl, (refl, (refl, (refl, (refl, refl)))))) refl (ap is_line_note e))

note_id : (form : Form) (seg : Seg) → kind_of form seg ≡ kinds.Note → element_of seg 0 ≡ codes "G23"
unfolding kind_of
note_id form seg e = bytes_are (element_of seg 0) (codes "G23")
    (its_test is_plain_note (before_allowance form seg ++ allowance_row seg ∷ line_note_row seg ∷ []) (has_id seg (codes "G23")) kinds.Note (behind_notes seg)
    (refl, (refl, (refl, (refl, (refl, (refl, (refl, refl))))))) (refl, (refl, (refl, (refl, (refl, refl))))) refl (ap is_plain_note e))

abbrev is_integrity : Kind → Bool
is_integrity kinds.Integrity = true
is_integrity _ = false

abbrev is_trailer : Kind → Bool
is_trailer kinds.Trailer = true
is_trailer _ = false

-- the rows before an integrity value
abbrev before_integrity : Form → Seg → List Row
before_integrity form seg =
    before_allowance form seg ++ allowance_row seg ∷ line_note_row seg ∷ note_row seg ∷ row (has_id seg (codes "LE")) kinds.LoopEnd ∷ row (has_id seg (codes "G84")) kinds.Totals ∷ row (has_id seg (codes "G86")) kinds.Signature ∷ []

pub integrity_id : (form : Form) (seg : Seg) → kind_of form seg ≡ kinds.Integrity → has_id seg (codes "G85") ≡ true
unfolding kind_of
integrity_id form seg e =
    its_test is_integrity (before_integrity form seg) (has_id seg (codes "G85")) kinds.Integrity (row (has_id seg (codes "SE")) kinds.Trailer ∷ [])
    (refl, (refl, (refl, (refl, (refl, (refl, (refl, (refl, (refl, (refl, (refl, refl))))))))))) (refl, refl) refl (ap is_integrity e)

pub trailer_id : (form : Form) (seg : Seg) → kind_of form seg ≡ kinds.Trailer → has_id seg (codes "SE") ≡ true
unfolding kind_of
trailer_id form seg e =
    its_test is_trailer (before_integrity form seg ++ row (has_id seg (codes "G85")) kinds.Integrity ∷ []) (has_id seg (codes "SE")) kinds.Trailer []
    (refl, (refl, (refl, (refl, (refl, (refl, (refl, (refl, (refl, (refl, (refl, (refl, refl)))))))))))) refl refl (ap is_trailer e)

-- ---- the same in both sets

pub kind_by_id : (form : Form) (seg : Seg) (id : List ℕ) → element_of seg 0 ≡ id → kind_of form seg ≡ kind_with form id (element_of seg 1)
kind_by_id form seg id e = kind_is form seg ∙ ap (λ (text : List ℕ). kind_with form text (element_of seg 1)) e

pub same_allowance : (form other : Form) (seg : Seg) → kind_of form seg ≡ kinds.Allowance → kind_of other seg ≡ kinds.Allowance
same_allowance form other seg e = kind_by_id other seg (codes "G72") (allowance_id form seg e) ∙ allowance_kind other (element_of seg 1)

same_line_note : (form other : Form) (seg : Seg) → kind_of form seg ≡ kinds.LineNote → kind_of other seg ≡ kinds.LineNote
same_line_note form other seg e = kind_by_id other seg (codes "G22") (line_note_id form seg e) ∙ line_note_kind other (element_of seg 1)

same_plain_note : (form other : Form) (seg : Seg) → kind_of form seg ≡ kinds.Note → kind_of other seg ≡ kinds.Note
same_plain_note form other seg e = kind_by_id other seg (codes "G23") (note_id form seg e) ∙ note_kind other (element_of seg 1)

note_at : (in_line : Bool) (k : Kind) (form other : Form) (seg : Seg) → kind_of form seg ≡ k → is_note in_line k ≡ true → is_note in_line (kind_of other seg) ≡ true
note_at in_line kinds.Note form other seg e h = ap (is_note in_line) (same_plain_note form other seg e)
note_at in_line kinds.LineNote form other seg e h = ap (is_note in_line) (same_line_note form other seg e) ∙ h
note_at in_line _ form other seg e h = cc

-- a note of a line is one in either set, and one of a record
pub same_note : (in_line : Bool) (form other : Form) (seg : Seg) → is_note in_line (kind_of form seg) ≡ true → is_note in_line (kind_of other seg) ≡ true
same_note in_line form other seg h = note_at in_line (kind_of form seg) form other seg refl h
