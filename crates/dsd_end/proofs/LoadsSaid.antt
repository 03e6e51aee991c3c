-- What an own turn gives may go out: its blocks are cut from a transmission of sets that are signed.
use Rattle.std.proofs.Common.{◌≡◌, ℕ, Bool, true, false, cond, List, [], ◌∷◌, ◌++◌, map, Option, Some, None, refl, ap, subst, inl, inr}
use Rattle.std.specs.Prelude.{Contains, ⊤}
use Rattle.std.specs.Option.{option_map}
use Rattle.std.specs.List.{cons_option, filter_map}
use Rattle.std.proofs.lemmas.List.Elements.{All-cons, All-nil, Contains-append_left, Contains-append_right, Contains-push}
use Rattle.dex_line.specs.BlockCut.{blocks_of}
use Rattle.dex_line.specs.FrameSpelling.{IsSpoken}
use Rattle.dex_line.proofs.Exists.{blocks_cut}
use Rattle.dex_handshake.specs.LineRun.{frame_of_block, load_of}
use Rattle.dex_handshake.specs.Sound.{AreSaid}
use Rattle.dex_handshake.proofs.Sayings.{load_spoken}
use Rattle.dxs_envelope.specs.Sending.{IsOutgoing, Sent}
use Rattle.dxs_envelope.proofs.LineUnits.{outgoing_fits}
use Rattle.dsd_journal.specs.declared.entry.Entry.{Entry}
use Rattle.dsd_journal.specs.declared.header.Header.{Header}
use Rattle.delivery_book.specs.Deeds.{Deed, deeds_of, is_signed, signed_of, signed_texts}
use Rattle.delivery_book.specs.Lookups.{last_of, last_signed, numbers_of}
use Rattle.delivery_book.proofs.Listed.{signed_kind, signed_text}
use Rattle.delivery_book.proofs.Members.{In, filter_in}
use Rattle.own_turn.specs.DueSets.{Asked, DueSet, asked_of, due_of, due_sets, has_room, is_due, reached, texts_of}
use Rattle.dsd_end.specs.SoFar.{MayGoOut}
use Rattle.dsd_end.specs.Speaking.{AreSigned, IsCutFrom}

-- ---- due sets are signed

last_in : (deeds : List Deed) (deed : Deed) → last_of deeds ≡ Some deed → In deed deeds
last_in [] deed e = absurd (cc)
last_in (one ∷ []) deed e = let same : one ≡ deed = cc in inl same
last_in (one ∷ next ∷ deeds) deed e = inr (last_in (next ∷ deeds) deed e)

some_text : (a b : DueSet) → Some a ≡ Some b → a.text ≡ b.text
some_text a b e = let same : a ≡ b = cc in ap (λ (d : DueSet). d.text) same

is_deed_signed : (entries : List Entry) (number : List ℕ) (deed : Deed) → last_of (signed_of number (deeds_of entries)) ≡ Some deed → Contains (signed_texts entries) deed.text
is_deed_signed entries number deed e =
    let p = filter_in (λ (d : Deed). is_signed d.kind) _ deed (last_in (signed_of number (deeds_of entries)) deed e) in
    let q = filter_in _ (deeds_of entries) deed p.among in
    signed_text entries deed q.among (signed_kind deed.kind p.holds)

text_same : (a b : List ℕ) → Some a ≡ Some b → a ≡ b
text_same a b e = cc

last_is_signed : (entries : List Entry) (number text : List ℕ) → last_signed entries number ≡ Some text → Contains (signed_texts entries) text
last_is_signed entries number text e = by_deed (last_of (signed_of number (deeds_of entries))) refl e
  where
    by_deed : (o : Option Deed) → last_of (signed_of number (deeds_of entries)) ≡ o → option_map (λ (deed : Deed). deed.text) o ≡ Some text → Contains (signed_texts entries) text
    by_deed (Some deed) at e = subst (Contains (signed_texts entries)) (text_same deed.text text e) (is_deed_signed entries number deed at)
    by_deed None at e = absurd (cc)

due_signed : (entries : List Entry) (all : List Asked) (number : List ℕ) (due : DueSet) → due_of entries all number ≡ Some due → Contains (signed_texts entries) due.text
due_signed entries all number due e = by_due (is_due entries (asked_of number all)) (last_signed entries number) refl e
  where
    by_due : (b : Bool) (o : Option (List ℕ)) → last_signed entries number ≡ o
        → cond b (option_map (λ (text : List ℕ). record { number = number; text = text }) o) None ≡ Some due → Contains (signed_texts entries) due.text
    by_due true (Some text) at e =
        let same : text ≡ due.text = some_text (record { number = number; text = text }) due e in
        subst (Contains (signed_texts entries)) same (last_is_signed entries number text at)
    by_due true None at e = absurd (cc)
    by_due false o at e = absurd (cc)

abbrev EachSigned : List Entry → List DueSet → Type 0
EachSigned entries [] = ⊤
EachSigned entries (due ∷ more) = Contains (signed_texts entries) due.text × EachSigned entries more

dues_signed : (entries : List Entry) (all : List Asked) (numbers : List (List ℕ)) → EachSigned entries (filter_map (due_of entries all) numbers)
dues_signed entries all [] = tt
dues_signed entries all (number ∷ numbers) = by_due (due_of entries all number) refl (dues_signed entries all numbers)
  where
    by_due : (o : Option DueSet) → due_of entries all number ≡ o → EachSigned entries (filter_map (due_of entries all) numbers)
        → EachSigned entries (cons_option o (filter_map (due_of entries all) numbers))
    by_due (Some due) e rest = (due_signed entries all number due e, rest)
    by_due None e rest = rest

each_more : (entries : List Entry) (a b : List DueSet) → EachSigned entries a → EachSigned entries b → EachSigned entries (a ++ b)
each_more entries [] b h k = k
each_more entries (due ∷ a) b (h, hs) k = (h, each_more entries a b hs k)

reached_signed : (header : Header) (control : ℕ) (entries : List Entry) (front due : List DueSet) → EachSigned entries front → EachSigned entries due
    → EachSigned entries (reached header control front due)
reached_signed header control entries front [] h k = h
reached_signed header control entries front (set ∷ more) h (s, k) =
    by_room (has_room header control (front ++ set ∷ [])) (reached_signed header control entries (front ++ set ∷ []) more (each_more entries front (set ∷ []) h (s, tt)) k)
  where
    by_room : (b : Bool) → EachSigned entries (reached header control (front ++ set ∷ []) more)
        → EachSigned entries (cond b (reached header control (front ++ set ∷ []) more) front)
    by_room true on = on
    by_room false on = h

all_signed : (entries : List Entry) (due : List DueSet) → EachSigned entries due → AreSigned (texts_of due) entries
all_signed entries [] h = All-nil (Contains (signed_texts entries))
all_signed entries (set ∷ more) (h, hs) = All-cons (Contains (signed_texts entries)) set.text (texts_of more) h (all_signed entries more hs)

-- what is gathered was signed
pub gathered_signed : (header : Header) (control : ℕ) (entries : List Entry) (all : List Asked)
    → AreSigned (texts_of (reached header control [] (due_sets entries all))) entries
gathered_signed header control entries all =
    all_signed entries _ (reached_signed header control entries [] (due_sets entries all) tt (dues_signed entries all (numbers_of entries)))

-- ---- a load

backed_blocks : (entries : List Entry) (sets : List (List ℕ)) (blocks : List (List ℕ × Bool)) → AreSigned sets entries → AreSaid IsSpoken (map frame_of_block blocks)
    → ((block : List ℕ × Bool) → Contains blocks block → IsCutFrom sets block.1 block.0) → AreSaid (MayGoOut entries) (map frame_of_block blocks)
backed_blocks entries sets [] signed spoken cut = tt
backed_blocks entries sets (block ∷ blocks) signed (is, spoken) cut = (
  (is, (sets, cut block (Contains-append_left (block ∷ []) blocks block (Contains-push [] block)), All-cons (AreSigned sets) entries [] signed (All-nil (AreSigned sets)))),
  backed_blocks entries sets blocks signed spoken (λ b inside. cut b (Contains-append_right (block ∷ []) blocks b inside)),
)

-- the load of a transmission of signed sets may go out
pub load_goes_out : (entries : List Entry) (sets : List (List ℕ)) (sender receiver : List ℕ) (control : ℕ) (load : List ℕ) → Sent sets sender receiver control load
    → AreSigned sets entries → AreSaid (MayGoOut entries) (load_of load)
load_goes_out entries sets sender receiver control load sent signed =
    let outgoing : IsOutgoing load = record { sets = sets; sender = sender; receiver = receiver; control = control; sent = sent } in
    let fits = outgoing_fits load outgoing in
    let cut = blocks_cut load fits.0 in
    backed_blocks entries sets (blocks_of load) signed (load_spoken load fits.0 fits.1)
    (λ block inside. record { sender = sender; receiver = receiver; control = control; whole = load; sent = sent; blocks = blocks_of load; cut = cut; one = inside })
