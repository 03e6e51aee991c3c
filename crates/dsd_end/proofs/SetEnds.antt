-- The two last segments of a set are its only G85 and its SE, which say how it is sealed.
use Rattle.std.proofs.Common.{◌≡◌, ℕ, Bool, true, false, List, [], ◌∷◌, ◌++◌, codes, Ok, refl, sym, ◌∙◌, ap, inl, inr}
use Rattle.std.specs.Prelude.{All}
use Rattle.std.proofs.lemmas.Bool.{cases_Bool}
use Rattle.std.proofs.lemmas.List.Elements.{All-cons, All-nil}
use Rattle.dsd_values.specs.Reading.{check_of, filled_word_of}
use Rattle.dsd_values.specs.declared.extra.Extra.{Extra}
use Rattle.dsd_values.specs.declared.extra.Extra.TheVariants.{Allow, Note}
use Rattle.dsd_values.specs.declared.line.Line.{Line}
use Rattle.transaction_set.specs.Extras.{is_note}
use Rattle.segments.specs.Elements.{kept_text}
use Rattle.transaction_set.specs.Grammar.{BehindHead, Body, Closing, Extras, Integrity, IsItem, IsLoopId, IsSignature, IsStart, IsTotals, Items, Loop, LoopEnd, One, OneExtra, Record, References, Shape, Shared, Signed}
use Rattle.transaction_set.specs.Kinds.{kind_of}
use Rattle.segments.specs.Views.{has_id}
use Rattle.segments.specs.Views.{Seg, element_of}
use Rattle.transaction_set.specs.declared.kind.Form.{Form}
use Rattle.transaction_set.specs.declared.kind.Form.TheVariants as forms
use Rattle.transaction_set.specs.declared.kind.Kind.{Kind}
use Rattle.transaction_set.specs.declared.kind.Kind.TheVariants as kinds
use Rattle.transaction_set.proofs.KindsById.{integrity_id, kind_by_id, trailer_id}
use Rattle.transaction_set.proofs.RowKinds.{integrity_kind}
use Rattle.transaction_set.proofs.SetRows.{FromStart}
use Rattle.transaction_set.proofs.Small.{bytes_are}

abbrev pub IsNoIntegrity : Seg → Type 0
IsNoIntegrity seg = has_id seg (codes "G85") ≡ false

-- segments up to their only G85 and the SE behind it, which say this check and this control number
pub record IsSealed (control : List ℕ) (check : ℕ) (segs : List Seg) : Type 0 where
  pub front : List Seg
  pub integrity : Seg
  pub trailer : Seg
  pub joined : segs ≡ front ++ integrity ∷ trailer ∷ []
  pub inside : All IsNoIntegrity front
  pub is_integrity : has_id integrity (codes "G85") ≡ true
  pub is_trailer : has_id trailer (codes "SE") ≡ true
  pub check_is : check_of (element_of integrity 1) ≡ Ok check
  pub control_is : filled_word_of (element_of trailer 2) ≡ Ok control

-- ---- a segment of another kind is no G85

abbrev is_seal : Kind → Bool
is_seal kinds.Integrity = true
is_seal _ = false

true_false : true ≡ false → ⊥
true_false e = cc

inner : (form : Form) (seg : Seg) (kind : Kind) → kind_of form seg ≡ kind → is_seal kind ≡ false → IsNoIntegrity seg
inner form seg kind k other = elim (cases_Bool (has_id seg (codes "G85"))) [
  | inl there ↦
      let same : kind_of form seg ≡ kinds.Integrity = kind_by_id form seg (codes "G85") (bytes_are (element_of seg 0) (codes "G85") there) ∙ integrity_kind form (element_of seg 1) in
      absurd (true_false (ap is_seal (sym same ∙ k) ∙ other))
  | inr absent ↦ absent
]

note_inner : (in_line : Bool) (kind : Kind) → is_note in_line kind ≡ true → is_seal kind ≡ false
note_inner in_line kinds.Note e = refl
note_inner in_line kinds.LineNote e = refl
note_inner in_line _ e = cc

-- ---- along the grammar, from its end

-- whatever segments have this shape end so
abbrev Seals : Shared → Shape → Type 0
Seals t shape = (before segs : List Seg) → shape before segs → IsSealed t.control t.check segs

one_more : (control : List ℕ) (check : ℕ) (seg : Seg) (segs : List Seg) → IsNoIntegrity seg → IsSealed control check segs → IsSealed control check (seg ∷ segs)
one_more control check seg segs other s = record {
  front = seg ∷ s.front;
  integrity = s.integrity;
  trailer = s.trailer;
  joined = ap (λ (l : List Seg). seg ∷ l) s.joined;
  inside = All-cons IsNoIntegrity seg s.front other s.inside;
  is_integrity = s.is_integrity;
  is_trailer = s.is_trailer;
  check_is = s.check_is;
  control_is = s.control_is;
}

one_seals : (form : Form) (kind : Kind) (Says : List Seg → Seg → Type 0) (rest : Shape) (t : Shared) → is_seal kind ≡ false → Seals t rest → Seals t (One form kind Says rest)
one_seals form kind Says rest t other h before [] s = absurd s
one_seals form kind Says rest t other h before (seg ∷ segs) s =
    one_more t.control t.check seg segs (inner form seg kind s.0 other) (h (before ++ seg ∷ []) segs s.2)

extra_seals : (in_line : Bool) (form : Form) (extra : Extra) (rest : Shape) (t : Shared) → Seals t rest → Seals t (OneExtra in_line form extra rest)
extra_seals in_line form extra rest t h before [] s = absurd s
extra_seals in_line form (Allow allowance) rest t h before (seg ∷ segs) s =
    one_more t.control t.check seg segs (inner form seg kinds.Allowance s.0.0 refl) (h (before ++ seg ∷ []) segs s.1)
extra_seals in_line form (Note text) rest t h before (seg ∷ segs) s =
    one_more t.control t.check seg segs (inner form seg (kind_of form seg) refl (note_inner in_line (kind_of form seg) s.0.0)) (h (before ++ seg ∷ []) segs s.1)

extras_seal : (in_line : Bool) (form : Form) (extras : List Extra) (rest : Shape) (t : Shared) → Seals t rest → Seals t (Extras in_line form extras rest)
extras_seal in_line form [] rest t h = h
extras_seal in_line form (extra ∷ extras) rest t h = extra_seals in_line form extra (Extras in_line form extras rest) t (extras_seal in_line form extras rest t h)

items_seal : (form : Form) (lines : List Line) (rest : Shape) (t : Shared) → Seals t rest → Seals t (Items form lines rest)
items_seal form [] rest t h = h
items_seal form (line ∷ lines) rest t h =
    one_seals form kinds.Item (λ _ seg. IsItem line seg) (Extras true form line.extras (Items form lines rest)) t refl
    (extras_seal true form line.extras (Items form lines rest) t (items_seal form lines rest t h))

loop_seals : (form : Form) (lines : List Line) (rest : Shape) (t : Shared) → Seals t rest → Seals t (Loop form lines rest)
loop_seals form [] rest t h = h
loop_seals form (line ∷ lines) rest t h = λ before segs s.
    let id : List ℕ = s.0 in
    one_seals form kinds.LoopStart (λ _ seg. IsLoopId id seg) (Items form (line ∷ lines) (LoopEnd form id rest)) t refl
    (items_seal form (line ∷ lines) (LoopEnd form id rest) t (one_seals form kinds.LoopEnd (λ _ seg. IsLoopId id seg) rest t refl h)) before segs s.1

record_seals : (form : Form) (extras : List Extra) (rest : Shape) (t : Shared) → Seals t rest → Seals t (Record form extras rest)
record_seals forms.Base extras rest t h = extras_seal false forms.Base extras rest t h
record_seals forms.Answer [] rest t h = h
record_seals forms.Answer (extra ∷ extras) rest t h = λ before segs s. absurd s

-- G85 and SE themselves
integrity_seals : (form : Form) (t : Shared) → Seals t (Integrity form t)
integrity_seals form t before [] s = absurd s
integrity_seals form t before (seg ∷ []) s = absurd s.2
integrity_seals form t before (seg ∷ next ∷ more) s = record {
  front = [];
  integrity = seg;
  trailer = next;
  joined = ap (λ (l : List Seg). seg ∷ next ∷ l) s.2.2;
  inside = All-nil IsNoIntegrity;
  is_integrity = integrity_id form seg s.0;
  is_trailer = trailer_id form next s.2.0;
  check_is = s.1.0;
  control_is = s.2.1.1;
}

closing_seals : (form : Form) (t : Shared) → Seals t (Closing form t)
closing_seals form t =
    one_seals form kinds.Totals (λ _ seg. IsTotals t.totals seg) (Signed form t) t refl
    (one_seals form kinds.Signature (λ _ seg. IsSignature t.signature seg) (Integrity form t) t refl (integrity_seals form t))

references_seal : (form : Form) (texts : List (List ℕ)) (rest : Shape) (t : Shared) → Seals t rest → Seals t (References form texts rest)
references_seal form [] rest t h = h
references_seal forms.Base (text ∷ texts) rest t h =
    one_seals forms.Base kinds.Reference (λ _ seg. kept_text seg ≡ text) (References forms.Base texts rest) t refl (references_seal forms.Base texts rest t h)
references_seal forms.Answer (text ∷ []) rest t h = one_seals forms.Answer kinds.Reference (λ _ seg. kept_text seg ≡ text) rest t refl h
references_seal forms.Answer (text ∷ next ∷ texts) rest t h = λ before segs s. absurd s

-- and so the segments of a set
pub set_seals : (form : Form) (control : List ℕ) (IsHead : Seg → Type 0) (texts : List (List ℕ)) (lines : List Line) (extras : List Extra) (t : Shared) (segs : List Seg)
    → FromStart form control IsHead texts lines extras t [] segs → IsSealed t.control t.check segs
set_seals form control IsHead texts lines extras t segs s =
    one_seals form kinds.Start (λ _ seg. IsStart control seg) (One form kinds.Head (λ _ seg. IsHead seg) (BehindHead form texts lines extras t)) t refl
    (one_seals form kinds.Head (λ _ seg. IsHead seg) (BehindHead form texts lines extras t) t refl
    (references_seal form texts (Body form lines extras t) t
    (loop_seals form lines (Record form extras (Closing form t)) t (record_seals form extras (Closing form t) t (closing_seals form t)))))
    [] segs s
