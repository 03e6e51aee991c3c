-- How a text begins: its first segment, as it is read and as the grammar of a set has it.
use Rattle.std.proofs.Common.{◌≡◌, ℕ, ◌+◌, length, true, false, List, ◌∷◌, codes, get_or, Option, Some, None, Result, Ok, Err, refl, sym, ◌∙◌, ap, arith}
use Rattle.std.specs.Str.{bytes_eq}
use Rattle.transaction_set.specs.Kinds.{is_start_of, kind_of, set_code}
use Rattle.segments.specs.Views.{has_id}
use Rattle.segments.specs.SegmentCut.{left_after, next_of, text_start}
use Rattle.segments.specs.SegmentSpelling.{IsFront, SpellsSegments}
use Rattle.segments.specs.Views.{Left, Seg, element_of}
use Rattle.transaction_set.specs.declared.kind.Form.{Form}
use Rattle.transaction_set.specs.declared.kind.Form.TheVariants as forms
use Rattle.transaction_set.specs.declared.kind.Kind.TheVariants as kinds
use Rattle.segments.specs.declared.segment_fault.SegmentFault.{SegmentFault}
use Rattle.segments.proofs.Complete.{front_is}
use Rattle.transaction_set.proofs.Small.{bytes_are}
use Rattle.segments.proofs.Spelled.{next_front}
use Rattle.transaction_set.proofs.Whole.{and_both}
use Rattle.dsd_record.specs.SetTexts.{BeginsAs, begins_as, starts}
use Rattle.transaction_set.proofs.KindsById.{start_of_kind}

-- ---- the start of a set

-- the first element of an ST is the number of its set
code_is : (form : Form) (seg : Seg) → is_start_of form seg ≡ true → element_of seg 1 ≡ set_code form
code_is form seg h = bytes_are (element_of seg 1) (set_code form) (and_both (has_id seg (codes "ST")) (bytes_eq (element_of seg 1) (set_code form)) h).1

-- an ST of one set is none of the other
pub one_form : (seg : Seg) → is_start_of forms.Base seg ≡ true → is_start_of forms.Answer seg ≡ true → ⊥
one_form seg base answer =
    let last : get_or (codes "894") 2 0 ≡ get_or (codes "895") 2 0 = ap (λ (l : List ℕ). get_or l 2 0) (sym (code_is forms.Base seg base) ∙ code_is forms.Answer seg answer) in
    omega (arith, last)

-- what is no ST of a set is no start in its grammar
pub kind_is_start : (form : Form) (seg : Seg) → is_start_of form seg ≡ false → kind_of form seg ≡ kinds.Start → ⊥
kind_is_start form seg no_start e = let never : false ≡ true = sym no_start ∙ start_of_kind form seg e in cc

-- ---- the first segment of a text

starts_at : (form : Form) (text : List ℕ) (answer : Result (Option Seg) SegmentFault) → next_of (text_start text) ≡ answer → starts form answer ≡ true → BeginsAs form text
starts_at form text (Ok (Some first)) e h = record { first = first; behind = left_after (text_start text); front = next_front (text_start text) first e; start = h }
starts_at form text (Ok None) e h = cc
starts_at form text (Err fault) e h = cc

pub begins_of : (form : Form) (text : List ℕ) → begins_as form text ≡ true → BeginsAs form text
unfolding begins_as
begins_of form text h = starts_at form text (next_of (text_start text)) refl h

-- where a segment is spelled at the front, it is what is asked
pub begins_with : (form : Form) (text : List ℕ) (first : Seg) (behind : Left) → IsFront first (text_start text) behind → begins_as form text ≡ is_start_of form first
unfolding begins_as
begins_with form text first behind front = ap (starts form) (front_is (text_start text) behind first front).0

pub of_begins : (form : Form) (text : List ℕ) → BeginsAs form text → begins_as form text ≡ true
of_begins form text b = begins_with form text b.first b.behind b.front ∙ b.start

-- the first of the segments that a text is
pub front_of : (first : Seg) (more : List Seg) (text : List ℕ) (form : Form) → SpellsSegments 0 (first ∷ more) text → kind_of form first ≡ kinds.Start → BeginsAs form text
front_of first more text form s k = record {
  first = first;
  behind = record { rest = s.2.0; place = 0 + length first.bytes };
  front = record { spelled = s.0; start = s.1; there = s.2.1; place = refl };
  start = start_of_kind form first k;
}
