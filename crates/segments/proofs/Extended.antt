-- What a reader answers at a front of a text, where the text goes on.
use Rattle.std.proofs.Common.{◌≡◌, ℕ, ◌+◌, ◌<◌, ◌≤◌, List, ◌∷◌, ◌++◌, length, take, drop, Ok, Err, Some, None, inl, inr, refl, sym, ◌∙◌, ap, append_assoc}
use Rattle.std.proofs.lemmas.Bool.{cases_lt}
use Rattle.std.proofs.lemmas.List.{take-append-drop, take-append-le}
use Rattle.std.proofs.Math.Seq.{take-append_seam}
use Rattle.segments.specs.declared.segment_fault.SegmentFault.{SegmentFault}
use Rattle.segments.specs.declared.segment_fault.SegmentFault.TheVariants.{NoEnd, BadByte, BadId, TooLong, TooManyElements}
use Rattle.segments.specs.Views.{Seg, Left}
use Rattle.segments.specs.SegmentSpelling.{IsFront}
use Rattle.segments.specs.SegmentCut.{next_of, left_after}
use Rattle.segments.specs.SegmentRefusal.{HasBadByte, HasLoneReturn, HasParts, IsFault, IsThere, IsTooLong}
use Rattle.segments.specs.Streaming.{IsOpen, ahead, lasting}
use Rattle.segments.proofs.Complete.{front_is}
use Rattle.segments.proofs.Refused.{fault_of-next, next_of-fault}
use Rattle.segments.proofs.Spelled.{next_front}

-- ---- a segment

front_more : (left next : Left) (more : List ℕ) (seg : Seg) → IsFront seg left next → IsFront seg (ahead left more) (ahead next more)
front_more left next more seg f = record {
  spelled = f.spelled;
  start = f.start;
  there = ap (λ (l : List ℕ). l ++ more) f.there ∙ append_assoc seg.bytes next.rest more;
  place = f.place;
}

-- a segment that is lent is lent, whatever follows
pub segment_more : (left : Left) (more : List ℕ) (seg : Seg) → next_of left ≡ Ok (Some seg)
    → (next_of (ahead left more) ≡ Ok (Some seg)) × (left_after (ahead left more) ≡ ahead (left_after left) more)
segment_more left more seg e = front_is (ahead left more) (ahead (left_after left) more) seg (front_more left (left_after left) more seg (next_front left seg e))

-- nothing is lent of what is waits
open_lends_none : (left : Left) (seg : Seg) → IsOpen left → next_of left ≡ Ok (Some seg) → ⊥
open_lends_none left seg (inl none) e = let no : Ok None ≡ Ok (Some seg) = sym none ∙ e in cc
open_lends_none left seg (inr none) e = let no : Err (NoEnd left.place) ≡ Ok (Some seg) = sym none ∙ e in cc

within_front : (left : Left) (more : List ℕ) (seg : Seg) (next : Left) → IsFront seg (ahead left more) next → length seg.bytes ≤ length left.rest
    → IsFront seg left (record { rest = drop (length seg.bytes) left.rest; place = left.place + length seg.bytes })
within_front left more seg next f short =
    let bytes : seg.bytes ≡ take (length seg.bytes) left.rest =
    sym (take-append_seam seg.bytes next.rest) ∙ ap (take (length seg.bytes)) (sym f.there) ∙ take-append-le (length seg.bytes) left.rest more short in
    record {
      spelled = f.spelled;
      start = f.start;
      there = sym (take-append-drop (length seg.bytes) left.rest) ∙ ap (λ (l : List ℕ). l ++ drop (length seg.bytes) left.rest) (sym bytes);
      place = refl;
    }

-- a segment that ends behind what is waits has more bytes
pub open_shorter : (left : Left) (more : List ℕ) (seg : Seg) → IsOpen left → next_of (ahead left more) ≡ Ok (Some seg) → length left.rest < length seg.bytes
open_shorter left more seg waits e = elim (cases_lt (length left.rest) (length seg.bytes)) [
  | inl under ↦ under
  | inr over ↦
      let f = within_front left more seg (left_after (ahead left more)) (next_front (ahead left more) seg e) over in
      absurd (open_lends_none left seg waits (front_is left (record { rest = drop (length seg.bytes) left.rest; place = left.place + length seg.bytes }) seg f).0)
]

-- ---- a fault

module _ (left : Left) (more : List ℕ) where
  there_more : (body after : List ℕ) → IsThere left body after → IsThere (ahead left more) body (after ++ more)
  there_more body after t = record {
    inside = t.inside;
    joined = ap (λ (l : List ℕ). l ++ more) t.joined ∙ append_assoc body after more;
  }

  bad_more : (place byte : ℕ) → HasBadByte left place byte → HasBadByte (ahead left more) place byte
  bad_more place byte f = record {
    body = f.body;
    more = f.more ++ more;
    there = there_more f.body (byte ∷ f.more) f.there;
    outside = f.outside;
    no_feed = f.no_feed;
    no_return = f.no_return;
    early = f.early;
    at = f.at;
  }

  return_more : (place : ℕ) → HasLoneReturn left place → HasLoneReturn (ahead left more) place
  return_more place f = record {
    body = f.body;
    next = f.next;
    more = f.more ++ more;
    there = there_more f.body (13 ∷ f.next ∷ f.more) f.there;
    alone = f.alone;
    early = f.early;
    at = f.at;
  }

  long_more : IsTooLong left → IsTooLong (ahead left more)
  long_more f = record {
    body = f.body;
    after = f.after ++ more;
    there = there_more f.body f.after f.there;
    long = elim f.long [
      | inl far ↦ inl far
      | inr near ↦ inr (elim near [
        | inl last ↦ inl (
          last.0 ++ more,
          last.1,
          elim last.2 [
            | inl feed ↦ inl (ap (λ (l : List ℕ). l ++ more) feed)
            | inr return ↦ inr (ap (λ (l : List ℕ). l ++ more) return)
          ],
        )
        | inr both ↦ inr (both.0 ++ more, both.1, ap (λ (l : List ℕ). l ++ more) both.2)
      ])
    ];
  }

  parts_more : (parts : List (List ℕ)) → HasParts left parts → HasParts (ahead left more) parts
  parts_more parts f = record {
    bytes = f.bytes;
    more = f.more ++ more;
    joined = ap (λ (l : List ℕ). l ++ more) f.joined ∙ append_assoc f.bytes f.more more;
    spelled = f.spelled;
    characters = f.characters;
    some = f.some;
    short = f.short;
  }

  stays : (fault : SegmentFault) → lasting fault ≡ Some fault → IsFault left fault → IsFault (ahead left more) fault
  stays (NoEnd start) e f = cc
  stays (BadByte place byte) e (inl f) = inl (bad_more place byte f)
  stays (BadByte place byte) e (inr f) = inr (f.0, return_more place f.1)
  stays (BadId start) e f = (f.0, (f.1.0, parts_more f.1.0 f.1.1, f.1.2))
  stays (TooLong start) e f = (f.0, long_more f.1)
  stays (TooManyElements start) e f = (f.0, (f.1.0, parts_more f.1.0 f.1.1, f.1.2, f.1.3))

-- a fault but that of a segment without an end is answered, whatever follows
pub fault_more : (left : Left) (more : List ℕ) (fault : SegmentFault) → lasting fault ≡ Some fault → next_of left ≡ Err fault → next_of (ahead left more) ≡ Err fault
fault_more left more fault lasts e = next_of-fault (ahead left more) fault (stays left more fault lasts (fault_of-next left fault e))

-- what lasts is the fault itself
pub lasting_is : (fault stands : SegmentFault) → lasting fault ≡ Some stands → stands ≡ fault
lasting_is (NoEnd start) stands e = cc
lasting_is (BadByte place byte) stands e = cc
lasting_is (BadId start) stands e = cc
lasting_is (TooLong start) stands e = cc
lasting_is (TooManyElements start) stands e = cc

-- the place of a segment without an end is where it begins
pub no_end_at : (left : Left) (fault : SegmentFault) → lasting fault ≡ None → next_of left ≡ Err fault → IsOpen left
no_end_at left (NoEnd start) lasts e = inr (e ∙ ap (λ (n : ℕ). Err (NoEnd n)) (fault_of-next left (NoEnd start) e).0)
no_end_at left (BadByte place byte) lasts e = cc
no_end_at left (BadId start) lasts e = cc
no_end_at left (TooLong start) lasts e = cc
no_end_at left (TooManyElements start) lasts e = cc
