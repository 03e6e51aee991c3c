-- A text is a transmission exactly where what is told of it has no fault.
use Rattle.std.proofs.Common.{◌≡◌, ℕ, List, Option, Some, None, refl, sym, ◌∙◌, ap, subst}
use Rattle.segments.specs.SegmentCut.{Cut, cut_of}
use Rattle.segments.specs.Views.{Seg}
use Rattle.segments.specs.declared.segment_fault.SegmentFault.{SegmentFault}
use Rattle.segments.proofs.Cutting.{cut_of-spelled, spelled_of-cut}
use Rattle.dxs_envelope.specs.FirstFault.{Front, told_from, told_of}
use Rattle.dxs_envelope.specs.Transmission.{Envelope}
use Rattle.dxs_envelope.specs.Views.{SetAt, Told}
use Rattle.dxs_envelope.proofs.Transmitted.{transmission_told}
use Rattle.dxs_envelope.proofs.Found.{fault_told, rest_told}

abbrev told_cut : Cut → Told
told_cut cut = told_from Front 0 cut.segments cut.fault

pub envelope_told : (text : List ℕ) (sets : List SetAt) → Envelope sets text → told_of text ≡ record { sets = sets; fault = None }
envelope_told text sets e =
    ap told_cut (cut_of-spelled text e.segments e.spelled)
    ∙ transmission_told e.parted e.segments 0 e.transmission
    ∙ ap (λ (l : List SetAt). record { sets = l; fault = None }) (sym e.are)

found_in : (text : List ℕ) (segs : List Seg) (fault : Option SegmentFault) → cut_of text ≡ record { segments = segs; fault = fault }
    → (told_from Front 0 segs fault).fault ≡ None → Envelope (told_from Front 0 segs fault).sets text
found_in text segs (Some fault) cut none = absurd (fault_told segs Front 0 fault none)
found_in text segs None cut none =
    let r = rest_told segs Front 0 none in
    record { segments = segs; parted = r.0; spelled = spelled_of-cut text segs cut; transmission = r.1; are = r.2 }

pub envelope_found : (text : List ℕ) → (told_of text).fault ≡ None → Envelope (told_of text).sets text
envelope_found text none = found_in text (cut_of text).segments (cut_of text).fault refl none

pub told_envelope : (text : List ℕ) (sets : List SetAt) → told_of text ≡ record { sets = sets; fault = None } → Envelope sets text
told_envelope text sets e =
    subst (λ (t : Told). Envelope t.sets text) e (envelope_found text (ap (λ (t : Told). t.fault) e))
