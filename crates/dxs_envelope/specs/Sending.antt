-- The one text that is written of a transmission, and the sets of which one is written (this project's profile).
use Rattle.std.specs.Prelude.{◌≡◌, ℕ, ◌+◌, ◌≤◌, nat_lt, if◌then◌else◌, List, [], ◌∷◌, ◌++◌, length, codes, All, Result, Ok, Err}
use Rattle.std.specs.List.{concat}
use Rattle.dsd_values.specs.Reading.{IsIdText}
use Rattle.dsd_values.specs.Writing.{number_text}
use Rattle.dsd_values.specs.declared.comm_id.TheConstants.{COMM_ID_BYTES}
use Rattle.segments.specs.SegmentWriting.{line_of}
use Rattle.segments.specs.SetUnits.{IsSetText}
use Rattle.segments.specs.declared.segment_writer.TheConstants.{MOST_CONTROL_NUMBER}
use Rattle.dxs_envelope.specs.Views.{SetAt}
use Rattle.dxs_envelope.specs.declared.outgoing.TheConstants.{TRANSMISSION_BYTES}
use Rattle.dxs_envelope.specs.declared.outgoing.EnvelopeWriteFault.{EnvelopeWriteFault}
use Rattle.dxs_envelope.specs.declared.outgoing.EnvelopeWriteFault.TheVariants.{LongText}

-- ---- the text

-- DXS: the sender's id, the function, the version, the control number and the receiver's id
abbrev pub header_row : List ℕ → List ℕ → ℕ → List (List ℕ)
header_row sender receiver control = codes "DXS" ∷ sender ∷ codes "DX" ∷ codes "004010UCS" ∷ number_text control ∷ receiver ∷ []

-- DXE: the control number and the number of sets
abbrev pub trailer_row : ℕ → ℕ → List (List ℕ)
trailer_row control sets = codes "DXE" ∷ number_text control ∷ number_text sets ∷ []

-- the header, the sets and the trailer
abbrev pub text_of_sets : List ℕ → List ℕ → ℕ → List (List ℕ) → List ℕ
text_of_sets sender receiver control sets =
    line_of (header_row sender receiver control) ++ concat sets ++ line_of (trailer_row control (length sets))

-- ---- the transmission

pub record IsCommId (id : List ℕ) : Type 0 where
  pub characters : IsIdText id
  pub ten : length id ≡ COMM_ID_BYTES

-- the text is the transmission of these sets as it is written
pub record Sent (sets : List (List ℕ)) (sender receiver : List ℕ) (control : ℕ) (text : List ℕ) : Type 0 where
  pub from : IsCommId sender
  pub to : IsCommId receiver
  pub low : 1 ≤ control
  pub high : control ≤ MOST_CONTROL_NUMBER
  pub each : All IsSetText sets
  pub written : text ≡ text_of_sets sender receiver control sets
  pub short : length text ≤ TRANSMISSION_BYTES

-- the text is some transmission as it is written
pub record IsOutgoing (text : List ℕ) : Type 0 where
  pub sets : List (List ℕ)
  pub sender : List ℕ
  pub receiver : List ℕ
  pub control : ℕ
  pub sent : Sent sets sender receiver control text

-- a text that is not too long
abbrev pub unless_long : List ℕ → Result (List ℕ) EnvelopeWriteFault
unless_long text = if nat_lt TRANSMISSION_BYTES (length text) then Err (LongText (length text)) else Ok text

-- sets with their places, one behind another, the first of which starts there
abbrev pub placed : ℕ → List (List ℕ) → List SetAt
placed place [] = []
placed place (bytes ∷ more) = record { start = place; bytes = bytes } ∷ placed (place + length bytes) more
