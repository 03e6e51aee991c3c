-- What a line says can be spelled, and is its own or of its load, from the start on.
use Rattle.std.specs.Prelude.{◌≡◌, ℕ, ◌+◌, ◌&&◌, if◌then◌else◌, Bool, true, false, codes, List, [], ◌∷◌, ◌++◌, length, map, position, Contains, None}
use Rattle.std.specs.List.{list_all}
use Rattle.std.proofs.Common.{refl, ◌∙◌, ap, inl, inr, arith, length-append}
use Rattle.std.proofs.lemmas.List.Folds.{list_all-append}
use Rattle.std.proofs.lemmas.List.Elements.{Contains-append_right}
use Rattle.std.proofs.lemmas.Bool.Decides.{nat_tests}
use Rattle.dsd_values.specs.Reading.{IsIdText, is_no_id_byte}
use Rattle.dsd_values.specs.declared.comm_id.TheConstants.{COMM_ID_BYTES}
use Rattle.dsd_values.specs.declared.role.Role.{Role}
use Rattle.dsd_values.specs.declared.role.Role.TheVariants.{Supplier, Receiver}
use Rattle.dex_line.specs.Bytes.{is_text}
use Rattle.dex_line.specs.BlockCut.{blocks_of}
use Rattle.dex_line.specs.FrameShapes.{FrameShape, Enq, Ack0, Ack1, Nak, Eot, Header, Block, Damaged, Bad}
use Rattle.dex_line.specs.FrameSpelling.{IsSpoken, IsTextOf}
use Rattle.dex_line.specs.TextUnits.{UnitsFit}
use Rattle.dex_line.specs.declared.frame.Opened.TheVariants as opens
use Rattle.dex_line.proofs.BlockTexts.{EachText, each_text}
use Rattle.dex_line.proofs.Exists.{blocks_cut}
use Rattle.dex_handshake.specs.LineRun.{load_of, frame_of_block}
use Rattle.dex_handshake.specs.LineTable.{started}
use Rattle.dex_handshake.specs.Sound.{AnyText, AreSaid, IsOwnFrame, IsSoundStep}
use Rattle.dex_handshake.proofs.SoundTable.{GoesOn, MaySay}

-- every frame goes on with any text
pub any_goes_on : (frame : FrameShape) → GoesOn AnyText AnyText frame
any_goes_on Enq = tt
any_goes_on Ack0 = tt
any_goes_on Ack1 = tt
any_goes_on Nak = tt
any_goes_on Eot = tt
any_goes_on (Header text) = tt
any_goes_on (Block last text) = λ before any. tt
any_goes_on Damaged = tt
any_goes_on Bad = tt

-- the start
pub started_soundly : (P : FrameShape → Type 0) (role : Role) (own peer : List ℕ) → MaySay own P → P (Header (own ++ codes "SR01L01"))
    → IsSoundStep own P AnyText (started role own peer)
started_soundly P Supplier own peer may first = ((refl, (first, tt)), may.enq)
started_soundly P Receiver own peer may first = (refl, tt)

-- ---- what can be spelled

both_true : (a b : Bool) → a ≡ true → b ≡ true → (a && b) ≡ true
both_true a b e f = rw (e, f) refl

code_text : (ready : Bool) → list_all is_text (if ready then codes "00" else codes "01") ≡ true
unfolding is_text
code_text true = refl
code_text false = refl

code_length : (ready : Bool) → length (if ready then codes "00" else codes "01") ≡ 2
code_length true = refl
code_length false = refl

words_text : list_all is_text (codes "R01L01") ≡ true
unfolding is_text
words_text = refl

header_text : (ready : Bool) (own : List ℕ) → list_all is_text own ≡ true → length own ≡ COMM_ID_BYTES
    → IsTextOf opens.Header ((if ready then codes "00" else codes "01") ++ own ++ codes "R01L01")
header_text ready own t n =
    let code : List ℕ = if ready then codes "00" else codes "01" in
    let front : length (code ++ own) ≡ 12 = length-append code own ∙ ap (λ (k : ℕ). k + length own) (code_length ready) ∙ ap (λ (k : ℕ). 2 + k) n in
    let size : length (code ++ own ++ codes "R01L01") ≡ 18 = length-append (code ++ own) (codes "R01L01") ∙ ap (λ (k : ℕ). k + 6) front in
    record {
      some = omega (arith, size);
      fits = omega (arith, size);
      bytes = list_all-append is_text (code ++ own) (codes "R01L01")
          ∙ both_true (list_all is_text (code ++ own)) (list_all is_text (codes "R01L01"))
          (list_all-append is_text code own ∙ both_true (list_all is_text code) (list_all is_text own) (code_text ready) t) words_text;
    }

id_text : (id : List ℕ) → IsIdText id → list_all is_text id ≡ true
unfolding is_text
id_text [] h = refl
id_text (b ∷ id) h =
    let here : is_text b ≡ true = grind (arith, nat_tests) in
    let on : position is_no_id_byte id ≡ None = grind (arith, nat_tests) in
    both_true (is_text b) (list_all is_text id) here (id_text id on)

first_words_text : list_all is_text (codes "SR01L01") ≡ true
unfolding is_text
first_words_text = refl

pub first_spoken : (own : List ℕ) → IsIdText own → length own ≡ COMM_ID_BYTES → IsSpoken (Header (own ++ codes "SR01L01"))
first_spoken own t n =
    let size : length (own ++ codes "SR01L01") ≡ 17 = length-append own (codes "SR01L01") ∙ ap (λ (k : ℕ). k + 7) n in
    record {
      some = omega (arith, size);
      fits = omega (arith, size);
      bytes = list_all-append is_text own (codes "SR01L01") ∙ both_true (list_all is_text own) (list_all is_text (codes "SR01L01")) (id_text own t) first_words_text;
    }

pub may_spell : (own : List ℕ) → IsIdText own → length own ≡ COMM_ID_BYTES → MaySay own IsSpoken
may_spell own t n = record { enq = tt; ack0 = tt; ack1 = tt; nak = tt; eot = tt; greets = λ ready. header_text ready own (id_text own t) n }

spoken_blocks : (blocks : List (List ℕ × Bool)) → EachText blocks → AreSaid IsSpoken (map frame_of_block blocks)
spoken_blocks [] each = tt
spoken_blocks (block ∷ more) (is, each) = (is, spoken_blocks more each)

-- the blocks of a text that fits and has text bytes alone
pub load_spoken : (text : List ℕ) → UnitsFit text → list_all is_text text ≡ true → AreSaid IsSpoken (load_of text)
load_spoken text fit bytes = spoken_blocks (blocks_of text) (each_text text (blocks_of text) (blocks_cut text fit) bytes)

-- ---- what is its own, or of its load

pub may_send : (own : List ℕ) (load : List FrameShape) → MaySay own (IsOwnFrame own load)
may_send own load = record { enq = tt; ack0 = tt; ack1 = tt; nak = tt; eot = tt; greets = greets }
  where
    greets : (ready : Bool) → IsOwnFrame own load (Header ((if ready then codes "00" else codes "01") ++ own ++ codes "R01L01"))
    greets true = inr (inl refl)
    greets false = inr (inr refl)

pub first_own : (own : List ℕ) (load : List FrameShape) → IsOwnFrame own load (Header (own ++ codes "SR01L01"))
first_own own load = inl refl

own_blocks : (id : List ℕ) (load : List FrameShape) (blocks : List (List ℕ × Bool))
    → ((frame : FrameShape) → Contains (map frame_of_block blocks) frame → Contains load frame) → AreSaid (IsOwnFrame id load) (map frame_of_block blocks)
own_blocks id load [] f = tt
own_blocks id load (block ∷ more) f =
    (f (frame_of_block block) (0, omega arith, refl), own_blocks id load more (λ frame inside. f frame (Contains-append_right (frame_of_block block ∷ []) (map frame_of_block more) frame inside)))

pub load_own : (id text : List ℕ) → AreSaid (IsOwnFrame id (load_of text)) (load_of text)
load_own id text = own_blocks id (load_of text) (blocks_of text) (λ frame inside. inside)
