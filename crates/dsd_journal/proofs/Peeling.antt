-- What two readings of the same bytes have in common.
use Rattle.std.proofs.Common.{◌≡◌, ◌≢◌, ◌⊎◌, inl, inr, ℕ, ◌+◌, ◌≤◌, List, [], ◌∷◌, ◌++◌, length, get_or, take, drop, refl, sym, ◌∙◌, ap, subst, arith, append_assoc, length-append}
use Rattle.std.proofs.lemmas.List.{take_at, drop_at, append-nil}
use Rattle.std.specs.Int.{w32, to_be_bytes}
use Rattle.dsd_values.specs.declared.role.Role.{Role}
use Rattle.dsd_values.specs.declared.role.Role.TheVariants.{Supplier, Receiver}
use Rattle.dsd_journal.specs.declared.limits.TheConstants.{HEADER_BYTES}
use Rattle.dsd_journal.specs.declared.entry.Entry.{Entry}
use Rattle.dsd_journal.specs.declared.entry.EntryKind.{EntryKind}
use Rattle.dsd_journal.specs.declared.entry.EntryKind.TheVariants.{Signed, Took}
use Rattle.dsd_journal.specs.declared.header.Header.{Header}
use Rattle.dsd_journal.specs.Headers.{IsHeader, header_bytes, role_letter}
use Rattle.dsd_journal.specs.JournalImage.{open_gate, kind_letter, body, spelled, gate_place, EachFits, IsPayloadLength, Leads}

pub append_apart : (a b x y : List ℕ) → length a ≡ length b → a ++ x ≡ b ++ y → (a ≡ b) × (x ≡ y)
append_apart a b x y same e = (
  sym (take_at a x (length a) refl) ∙ ap (λ (l : List ℕ). take (length a) l) e ∙ take_at b y (length a) (sym same),
  sym (drop_at a x (length a) refl) ∙ ap (λ (l : List ℕ). drop (length a) l) e ∙ drop_at b y (length a) (sym same),
)

pub heads : (x y : ℕ) (xs ys : List ℕ) → x ∷ xs ≡ y ∷ ys → x ≡ y
heads x y xs ys e = ap (λ (l : List ℕ). get_or l 0 0) e

pub tails : (x y : ℕ) (xs ys : List ℕ) → x ∷ xs ≡ y ∷ ys → xs ≡ ys
tails x y xs ys e = ap (λ (l : List ℕ). drop 1 l) e

pub kinds : (a b : EntryKind) → kind_letter a ≡ kind_letter b → a ≡ b
kinds Signed Signed e = refl
kinds Signed Took e = absurd (omega (arith, e))
kinds Took Signed e = absurd (omega (arith, e))
kinds Took Took e = refl

-- the same four bytes stand for the same length
pub sizes : (n m : ℕ) (x y : List ℕ) → IsPayloadLength n → IsPayloadLength m → to_be_bytes w32 n ++ x ≡ to_be_bytes w32 m ++ y → (n ≡ m) × (x ≡ y)
sizes n m x y hn hm e =
    let e1 = ap (λ (l : List ℕ). get_or l 1 0) e in
    let e2 = ap (λ (l : List ℕ). get_or l 2 0) e in
    let e3 = ap (λ (l : List ℕ). get_or l 3 0) e in
    (omega (arith, e1, e2, e3, hn.1, hm.1), ap (λ (l : List ℕ). drop 4 l) e)

pub entry_is : (a b : Entry) → a.kind ≡ b.kind → a.payload ≡ b.payload → a ≡ b
entry_is a b k p =
    ap (λ (x : EntryKind). let e : Entry = record { kind = x; payload = a.payload } in e) k ∙ ap (λ (x : List ℕ). let e : Entry = record { kind = b.kind; payload = x } in e) p

-- a kind and a length, read in two ways
pub sized_apart : (a b : EntryKind) (n m : ℕ) (x y : List ℕ) → IsPayloadLength n → IsPayloadLength m
    → kind_letter a ∷ (to_be_bytes w32 n ++ x) ≡ kind_letter b ∷ (to_be_bytes w32 m ++ y) → (a ≡ b) × (n ≡ m) × (x ≡ y)
sized_apart a b n m x y hn hm e = let rest = sizes n m x y hn hm (tails (kind_letter a) (kind_letter b) (to_be_bytes w32 n ++ x) (to_be_bytes w32 m ++ y) e) in (
  kinds a b (heads (kind_letter a) (kind_letter b) (to_be_bytes w32 n ++ x) (to_be_bytes w32 m ++ y) e),
  rest.0,
  rest.1,
)

pub body_split : (e : Entry) (x : List ℕ) → body e ++ x ≡ kind_letter e.kind ∷ (to_be_bytes w32 (length e.payload) ++ (e.payload ++ x))
body_split e x = ap (λ (l : List ℕ). kind_letter e.kind ∷ l) (append_assoc (to_be_bytes w32 (length e.payload)) e.payload x)

pub body_apart : (a b : Entry) (x y : List ℕ) → IsPayloadLength (length a.payload) → IsPayloadLength (length b.payload) → body a ++ x ≡ body b ++ y → (a ≡ b) × (x ≡ y)
body_apart a b x y ha hb e =
    let parts = sized_apart a.kind b.kind (length a.payload) (length b.payload) (a.payload ++ x) (b.payload ++ y) ha hb (sym (body_split a x) ∙ e ∙ body_split b y) in
    let rest = append_apart a.payload b.payload x y parts.1 parts.2 in (entry_is a b parts.0 rest.0, rest.1)

-- these entries and what is behind them go on to those and what is behind those
pub record Ahead (es : List Entry) (x : List ℕ) (fs : List Entry) (y : List ℕ) : Type 0 where
  pub more : List Entry
  pub list : fs ≡ es ++ more
  pub behind : x ≡ spelled more ++ y

ahead_more : (a : Entry) (es fs : List Entry) (x y : List ℕ) → Ahead es x fs y → Ahead (a ∷ es) x (a ∷ fs) y
ahead_more a es fs x y h = record { more = h.more; list = ap (λ (l : List Entry). a ∷ l) h.list; behind = h.behind }

pub peel : (es fs : List Entry) (x y : List ℕ) → EachFits es → EachFits fs → spelled es ++ x ≡ spelled fs ++ y → Ahead es x fs y ⊎ Ahead fs y es x
peel [] fs x y he hf e = inl (record { more = fs; list = refl; behind = e })
peel (a ∷ es) [] x y he hf e = inr (record { more = a ∷ es; list = refl; behind = sym e })
peel (a ∷ es) (b ∷ fs) x y he hf e =
    let tail : body a ++ (spelled es ++ x) ≡ body b ++ (spelled fs ++ y) = sym (append_assoc (body a) (spelled es) x) ∙ ap (λ (l : List ℕ). drop 1 l) e ∙ append_assoc (body b) (spelled fs) y in
    let parts = body_apart a b (spelled es ++ x) (spelled fs ++ y) he.0 hf.0 tail in
    elim (peel es fs x y he.1 hf.1 parts.1) [
      | inl h ↦ inl (subst (λ (c : Entry). Ahead (a ∷ es) x (c ∷ fs) y) parts.0 (ahead_more a es fs x y h))
      | inr h ↦ inr (subst (λ (c : Entry). Ahead (c ∷ fs) y (a ∷ es) x) parts.0 (ahead_more a fs es y x h))
    ]

-- ---- headers

roles : (a b : Role) → role_letter a ≡ role_letter b → a ≡ b
roles Supplier Supplier e = refl
roles Supplier Receiver e = absurd (omega (arith, e))
roles Receiver Supplier e = absurd (omega (arith, e))
roles Receiver Receiver e = refl

pub header_length : (h : Header) → IsHeader h → length (header_bytes h) ≡ HEADER_BYTES
header_length h is = omega (arith, length-append h.own (h.peer ++ 10 ∷ []), length-append h.peer (10 ∷ []), is.own.ten, is.peer.ten)

header_is : (a b : Header) → a.role ≡ b.role → a.own ≡ b.own → a.peer ≡ b.peer → a ≡ b
header_is a b r o p =
    ap (λ (x : Role). let h : Header = record { role = x; own = a.own; peer = a.peer } in h) r
    ∙ ap (λ (x : List ℕ). let h : Header = record { role = b.role; own = x; peer = a.peer } in h) o
    ∙ ap (λ (x : List ℕ). let h : Header = record { role = b.role; own = b.own; peer = x } in h) p

pub header_apart : (a b : Header) (x y : List ℕ) → IsHeader a → IsHeader b → header_bytes a ++ x ≡ header_bytes b ++ y → (a ≡ b) × (x ≡ y)
header_apart a b x y ha hb e =
    let whole = append_apart (header_bytes a) (header_bytes b) x y (header_length a ha ∙ sym (header_length b hb)) e in
    let ids : a.own ++ (a.peer ++ 10 ∷ []) ≡ b.own ++ (b.peer ++ 10 ∷ []) = ap (λ (l : List ℕ). drop 6 l) whole.0 in
    let own = append_apart a.own b.own (a.peer ++ 10 ∷ []) (b.peer ++ 10 ∷ []) (ha.own.ten ∙ sym hb.own.ten) ids in
    let peer = append_apart a.peer b.peer (10 ∷ []) (10 ∷ []) (ha.peer.ten ∙ sym hb.peer.ten) own.1 in
    (header_is a b (roles a.role b.role (ap (λ (l : List ℕ). get_or l 5 0) whole.0)) own.0 peer.0, whole.1)

-- two readings of one image
pub one_front : (a b : Header) (es fs : List Entry) (x y image : List ℕ) → Leads a es x image → Leads b fs y image → (a ≡ b) × (Ahead es x fs y ⊎ Ahead fs y es x)
one_front a b es fs x y image p q =
    let parts = header_apart a b (spelled es ++ x) (spelled fs ++ y) p.titled q.titled (sym p.split ∙ q.split) in
    (parts.0, peel es fs x y p.each q.each parts.1)

-- ---- what stands ahead

pub spelled_append : (es fs : List Entry) → spelled (es ++ fs) ≡ spelled es ++ spelled fs
spelled_append [] fs = refl
spelled_append (e ∷ es) fs =
    ap (λ (l : List ℕ). open_gate ∷ l) (ap (λ (l : List ℕ). body e ++ l) (spelled_append es fs) ∙ sym (append_assoc (body e) (spelled es) (spelled fs)))

pub body_length : (e : Entry) → length (body e) ≡ length e.payload + 5
body_length e = omega (arith, length-append (to_be_bytes w32 (length e.payload)) e.payload)

-- the gate behind an entry more, and any others
pub gate_ahead : (es : List Entry) (m : Entry) (ms : List Entry) → gate_place es + 6 + length m.payload ≤ gate_place (es ++ m ∷ ms)
gate_ahead es m ms = omega (arith, ap length (spelled_append es (m ∷ ms)), length-append (spelled es) (spelled (m ∷ ms)), length-append (body m) (spelled ms), body_length m)

-- Behind a closed gate no entry begins.
pub shut_ahead : (es fs : List Entry) (gate : ℕ) (rest y : List ℕ) → gate ≢ open_gate → Ahead es (gate ∷ rest) fs y → (fs ≡ es) × (gate ∷ rest ≡ y)
shut_ahead es fs gate rest y shut h = go h.more h.list h.behind
  where
    go : (more : List Entry) → fs ≡ es ++ more → gate ∷ rest ≡ spelled more ++ y → (fs ≡ es) × (gate ∷ rest ≡ y)
    go [] list behind = (list ∙ append-nil es, behind)
    go (m ∷ ms) list behind = absurd (shut (heads gate open_gate rest ((body m ++ spelled ms) ++ y) behind))
