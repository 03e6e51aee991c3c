-- A text that is taken piece by piece.
use Rattle.std.proofs.Common.{◌≡◌, ℕ, ◌+◌, ◌≤◌, Bool, List, [], ◌∷◌, ◌++◌, length, drop, Option, Some, None, Result, Ok, Err, IfOk, IfErr, OnOk, MatchOption, refl, sym, ap, ◌∙◌, subst, arith, append_assoc, append-nil, length-append}
use Rattle.segments.specs.Views.{Left, Seg}
use Rattle.segments.specs.SegmentCut.{left_after, next_of}
use Rattle.segments.specs.Streaming.{EndsSo, MovesOn, Stops, Stream, Takes, ahead, fault_at_end, stream_start}
use Rattle.segments.specs.declared.segment_fault.SegmentFault.{SegmentFault}
use Rattle.segments.proofs.Spelled.{end_of-next, next_front}
use Rattle.transaction_set.specs.Refusal.{Answers, IsWithin, Refusal}
use Rattle.transaction_set.specs.Taking.{IsFaultOf}
use Rattle.transaction_set.specs.declared.set_fault.SetFault.{SetFault}
use Rattle.transaction_set.specs.declared.set_fault.SetFault.TheVariants as errors
use Rattle.dsd_record.specs.SetTexts.{IsSet, set_refusal}
use Rattle.dsd_record.specs.TakenSets.{HasTaken, TakesNext}
use Rattle.dsd_record.specs.declared.set_reader.Begun.{Begun}
use Rattle.dsd_record.specs.declared.set_view.SetView.{SetView}
use Rattle.dsd_record.proofs.Sets.{refused_not}
use Rattle.dsd_record.proofs.TakenSets.{set_stopped}
use Rattle.set_stream.specs.StreamedSets.{IsRefusedBy, IsStreamOf, Reads, SetSoFar}
use Rattle.set_stream.proofs.Places.{IsUpTo, refused_within}

-- nothing was taken
pub nothing_read : (set : Begun) → HasTaken [] set → Reads [] stream_start set []
nothing_read set taken = record { sound = refl; read = []; taken = taken; place = refl; joined = refl }

-- a piece comes
pub piece_comes : (text piece : List ℕ) (segments : Stream) (set : Begun) → Reads text segments set [] → Reads (text ++ piece) segments set piece
piece_comes text piece segments set r =
    let held = segments.begun.rest in
    record {
      sound = r.sound;
      read = r.read;
      taken = r.taken;
      place = r.place;
      joined = ap (λ l. l ++ piece) (r.joined ∙ ap (λ l. r.read ++ l) (append-nil held)) ∙ append_assoc r.read held piece;
    }

-- ---- what is left of the text

-- the text and what follows it
with_more : (text read held more behind : List ℕ) → text ≡ read ++ (held ++ more) → text ++ behind ≡ read ++ (held ++ (more ++ behind))
with_more text read held more behind e =
    ap (λ l. l ++ behind) e ∙ append_assoc read (held ++ more) behind ∙ ap (λ l. read ++ l) (append_assoc held more behind)

module _ (text rest : List ℕ) (size : ℕ) (old new : Stream) (set : Begun) (r : Reads text old set rest) where
  -- no segment ended
  pub goes_on : Takes old new rest size → new.told ≡ None → Reads text new set (drop size rest)
  goes_on takes none =
      let same : ahead new.begun (drop size rest ++ []) ≡ ahead old.begun (rest ++ []) =
      subst (λ (told : Option Seg). MovesOn told (ahead old.begun (rest ++ [])) (ahead new.begun (drop size rest ++ []))) none (takes.moves []) in
      let left : new.begun.rest ++ drop size rest ≡ old.begun.rest ++ rest =
      ap (λ l. new.begun.rest ++ l) (sym (append-nil (drop size rest))) ∙ ap (λ (l : Left). l.rest) same ∙ ap (λ l. old.begun.rest ++ l) (append-nil rest) in
      record {
        sound = takes.goes;
        read = r.read;
        taken = r.taken;
        place = ap (λ (l : Left). l.place) same ∙ r.place;
        joined = r.joined ∙ ap (λ l. r.read ++ l) (sym left);
      }

  -- a segment ended, and was taken
  pub one_more : Takes old new rest size → (seg : Seg) → new.told ≡ Some seg → (set' : Begun) → HasTaken (r.read ++ seg.bytes) set' → Reads text new set' (drop size rest)
  one_more takes seg some set' taken =
      let before = ahead old.begun (rest ++ []) in
      let behind = ahead new.begun (drop size rest ++ []) in
      let moved : MovesOn (Some seg) before behind =
      subst (λ (told : Option Seg). MovesOn told (ahead old.begun (rest ++ [])) (ahead new.begun (drop size rest ++ []))) some (takes.moves []) in
      let front = next_front before seg moved.0 in
      let there : old.begun.rest ++ rest ≡ seg.bytes ++ (new.begun.rest ++ drop size rest) =
      ap (λ l. old.begun.rest ++ l) (sym (append-nil rest)) ∙ front.there
      ∙ ap (λ (l : Left). seg.bytes ++ l.rest) moved.1 ∙ ap (λ l. seg.bytes ++ (new.begun.rest ++ l)) (append-nil (drop size rest)) in
      record {
        sound = takes.goes;
        read = r.read ++ seg.bytes;
        taken = taken;
        place = ap (λ (l : Left). l.place) (sym moved.1) ∙ front.place ∙ ap (λ (n : ℕ). n + length seg.bytes) r.place ∙ sym (length-append r.read seg.bytes);
        joined = r.joined ∙ ap (λ l. r.read ++ l) there ∙ sym (append_assoc r.read seg.bytes (new.begun.rest ++ drop size rest));
      }

  -- a segment ended, and was refused
  pub set_stops : Takes old new rest size → (seg : Seg) → new.told ≡ Some seg → (set' : Begun) (fault : SetFault) → HasTaken (r.read ++ seg.bytes) set' → TakesNext set seg (Err fault) set' → IsRefusedBy text fault
  set_stops takes seg some set' fault taken stops more =
      let whole = one_more takes seg some set' taken in
      let stands = with_more text whole.read new.begun.rest (drop size rest) more whole.joined in
      subst (λ (l : List ℕ). IsFaultOf fault (set_refusal l)) (sym stands) (set_stopped set set' seg fault stops whole.read (new.begun.rest ++ (drop size rest ++ more)) whole.taken)

-- no segment can be read
pub text_stops : (text rest : List ℕ) (old : Stream) (set : Begun) (fault : SegmentFault) (answer : SetFault) → Reads text old set rest → Stops old rest fault
    → ((read left : List ℕ) → HasTaken read set → next_of (record { rest = left; place = length read }) ≡ Err fault → IsFaultOf answer (set_refusal (read ++ left)))
    → IsRefusedBy text answer
text_stops text rest old set fault answer r stops broken more =
    let next = (subst (λ (known : Option SegmentFault). MatchOption known ((after : List ℕ) → next_of (ahead old.begun (rest ++ after)) ≡ Err fault) (λ told. told ≡ fault)) r.sound stops) more in
    let left = old.begun.rest ++ (rest ++ more) in
    let here : next_of (record { rest = left; place = length r.read }) ≡ Err fault = subst (λ (n : ℕ). next_of (record { rest = left; place = n }) ≡ Err fault) r.place next in
    subst (λ (l : List ℕ). IsFaultOf answer (set_refusal l)) (sym (with_more text r.read old.begun.rest rest more r.joined)) (broken r.read left r.taken here)

-- ---- the end of the text

-- whatever follows, and so nothing
pub refused_itself : (text : List ℕ) (fault : SetFault) → IsRefusedBy text fault → IsFaultOf fault (set_refusal text)
refused_itself text fault refused = subst (λ (l : List ℕ). IsFaultOf fault (set_refusal l)) (append-nil text) (refused [])

module _ {X : Type 0} (text : List ℕ) where
  pub refused_exact : (fault : SetFault) (P : X → Type 0) → IsFaultOf fault (set_refusal text) → (let r : Result X SetFault = Err fault in Answers r (set_refusal text) P)
  refused_exact errors.Memory P is = tt
  refused_exact (errors.Refused place reason) P is = is

  pub refused_only : (fault : SetFault) (P : X → Type 0) → IsFaultOf fault (set_refusal text) → (set : SetView) → IsSet set text → (let r : Result X SetFault = Err fault in Answers r None P)
  refused_only errors.Memory P is set spelled = tt
  refused_only (errors.Refused place reason) P is set spelled = absurd (refused_not text (record { place = place; reason = reason }) is set spelled)

pub refused_place : (X : Type 0) (text : List ℕ) (fault : SetFault) → IsFaultOf fault (set_refusal text) → (let r : Result X SetFault = Err fault in IsWithin r (length text))
refused_place X text errors.Memory is = tt
refused_place X text (errors.Refused place reason) is = subst (IsUpTo (length text)) is (refused_within text)

-- nothing is begun: all of the text was taken
pub all_taken : (text : List ℕ) (segments : Stream) (set : Begun) → Reads text segments set [] → next_of segments.begun ≡ Ok None → HasTaken text set
all_taken text segments set r e =
    subst (λ (l : List ℕ). HasTaken l set) (sym (r.joined ∙ ap (λ l. r.read ++ (l ++ [])) (end_of-next segments.begun e) ∙ append-nil r.read)) r.taken

-- a segment is begun
pub ends_broken : (text : List ℕ) (segments : Stream) (set : Begun) (fault : SegmentFault) (answer : SetFault) → Reads text segments set [] → next_of segments.begun ≡ Err fault
    → ((read left : List ℕ) → HasTaken read set → next_of (record { rest = left; place = length read }) ≡ Err fault → IsFaultOf answer (set_refusal (read ++ left)))
    → IsFaultOf answer (set_refusal text)
ends_broken text segments set fault answer r next broken =
    let held = segments.begun.rest in
    let here : next_of (record { rest = held; place = length r.read }) ≡ Err fault = subst (λ (n : ℕ). next_of (record { rest = held; place = n }) ≡ Err fault) r.place next in
    subst (λ (l : List ℕ). IsFaultOf answer (set_refusal l)) (sym (r.joined ∙ ap (λ l. r.read ++ l) (append-nil held))) (broken r.read held r.taken here)

-- the stream was given up
pub given_up : (text : List ℕ) (stream : SetSoFar) (fault : SetFault) → stream.fault ≡ Some fault → IsStreamOf text stream → IsFaultOf fault (set_refusal text)
given_up text stream fault is taken =
    refused_itself text fault (subst (λ (known : Option SetFault). MatchOption known (Reads text stream.segments stream.set []) (IsRefusedBy text)) is taken)

pub gives_up : (text piece : List ℕ) (old new : SetSoFar) (fault : SetFault) → old.fault ≡ None → new.fault ≡ Some fault → ((t : List ℕ) → Reads t old.segments old.set piece → IsRefusedBy t fault)
    → IsStreamOf text old → IsStreamOf (text ++ piece) new
gives_up text piece old new fault none some stops taken =
    let reads : Reads text old.segments old.set [] = subst (λ (known : Option SetFault). MatchOption known (Reads text old.segments old.set []) (IsRefusedBy text)) none taken in
    subst (λ (known : Option SetFault). MatchOption known (Reads (text ++ piece) new.segments new.set []) (IsRefusedBy (text ++ piece))) (sym some)
    (stops (text ++ piece) (piece_comes text piece old.segments old.set reads))

-- what holds anyhow holds of a value
pub on_ok : {V E P : Type 0} (r : Result V E) → P → OnOk r P
on_ok (Ok x) p = p
on_ok (Err e) p = tt
