-- The two turns with the headers, frame by frame.
use Rattle.std.proofs.Common.{◌≡◌, ◌++◌, ℕ, Bool, true, false, if◌then◌else◌, List, [], ◌∷◌, length, position, Option, Some, None, Result, Ok, refl, sym, ap, subst, arith}
use Rattle.std.specs.Prelude.{codes}
use Rattle.std.proofs.lemmas.Slice.Eq.{bytes_eq-Decides}
use Rattle.dsd_values.specs.Reading.{bounded, is_no_id_byte}
use Rattle.dsd_values.specs.declared.fault.ValueFault.{ValueFault}
use Rattle.dsd_values.specs.declared.role.Role.TheVariants.{Supplier, Receiver}
use Rattle.dex_line.specs.FrameShapes.{Ack0, Ack1, Eot, Header}
use Rattle.dsd_journal.specs.Headers.{IsId}
use Rattle.dex_handshake.specs.LineTable.{Common, Partner, SecondStage, Awaiting, SentAll, InText, Finished, Ended, beginning, bids, ends, first_header, from_id, nothing_taken, read_first, read_second, same_id, says, says_nothing, takes_header}
use Rattle.dex_handshake.specs.declared.session_end.SessionEnd.TheVariants.{WrongPartner}
use Rattle.clean_sessions.specs.CleanTurns.{Volley, Exchanges}
use Rattle.clean_sessions.specs.CleanHeaders.{HeadersPass, first_sent, receiver_ready, second_both, second_frame, second_sent, started_both, supplier_ready}

-- ---- an id is read back from the header that says it

record IsTen (id : List ℕ) : Type 0 where
  a : ℕ
  b : ℕ
  c : ℕ
  d : ℕ
  e : ℕ
  f : ℕ
  g : ℕ
  h : ℕ
  i : ℕ
  j : ℕ
  is : id ≡ a ∷ b ∷ c ∷ d ∷ e ∷ f ∷ g ∷ h ∷ i ∷ j ∷ []

ten : (id : List ℕ) → length id ≡ 10 → IsTen id
ten [] size = absurd (omega (arith, size))
ten (a ∷ []) size = absurd (omega (arith, size))
ten (a ∷ b ∷ []) size = absurd (omega (arith, size))
ten (a ∷ b ∷ c ∷ []) size = absurd (omega (arith, size))
ten (a ∷ b ∷ c ∷ d ∷ []) size = absurd (omega (arith, size))
ten (a ∷ b ∷ c ∷ d ∷ e ∷ []) size = absurd (omega (arith, size))
ten (a ∷ b ∷ c ∷ d ∷ e ∷ f ∷ []) size = absurd (omega (arith, size))
ten (a ∷ b ∷ c ∷ d ∷ e ∷ f ∷ g ∷ []) size = absurd (omega (arith, size))
ten (a ∷ b ∷ c ∷ d ∷ e ∷ f ∷ g ∷ h ∷ []) size = absurd (omega (arith, size))
ten (a ∷ b ∷ c ∷ d ∷ e ∷ f ∷ g ∷ h ∷ i ∷ []) size = absurd (omega (arith, size))
ten (a ∷ b ∷ c ∷ d ∷ e ∷ f ∷ g ∷ h ∷ i ∷ j ∷ []) size = record { a = a; b = b; c = c; d = d; e = e; f = f; g = g; h = h; i = i; j = j; is = refl }
ten (a ∷ b ∷ c ∷ d ∷ e ∷ f ∷ g ∷ h ∷ i ∷ j ∷ k ∷ more) size = absurd (omega (arith, size))

module _ (a b c d e f g h i j : ℕ) where
  abbrev bytes : List ℕ
  bytes = a ∷ b ∷ c ∷ d ∷ e ∷ f ∷ g ∷ h ∷ i ∷ j ∷ []

  first_back : position is_no_id_byte bytes ≡ None → read_first (bytes ++ codes "SR01L01") ≡ Some (record { code = 0; id = bytes })
  first_back good = ap (λ (outside : Option ℕ). from_id 0 (bounded 10 outside bytes (let r : Result (List ℕ) ValueFault = Ok bytes in r))) good

  second_back : position is_no_id_byte bytes ≡ None → read_second (codes "00" ++ bytes ++ codes "R01L01") ≡ Some (record { code = 0; id = bytes })
  second_back good = ap (λ (outside : Option ℕ). from_id 0 (bounded 10 outside bytes (let r : Result (List ℕ) ValueFault = Ok bytes in r))) good

first_read : (id : List ℕ) → IsId id → read_first (id ++ codes "SR01L01") ≡ Some (record { code = 0; id = id })
first_read id is =
    let t = ten id is.ten in
    subst (λ (l : List ℕ). read_first (l ++ codes "SR01L01") ≡ Some (record { code = 0; id = l })) (sym t.is)
    (first_back t.a t.b t.c t.d t.e t.f t.g t.h t.i t.j (subst (λ (l : List ℕ). position is_no_id_byte l ≡ None) t.is is.text))

second_read : (id : List ℕ) → IsId id → read_second (codes "00" ++ id ++ codes "R01L01") ≡ Some (record { code = 0; id = id })
second_read id is =
    let t = ten id is.ten in
    subst (λ (l : List ℕ). read_second (codes "00" ++ l ++ codes "R01L01") ≡ Some (record { code = 0; id = l })) (sym t.is)
    (second_back t.a t.b t.c t.d t.e t.f t.g t.h t.i t.j (subst (λ (l : List ℕ). position is_no_id_byte l ≡ None) t.is is.text))

same_self : (id : List ℕ) → same_id id id ≡ true
same_self id = (bytes_eq-Decides id id).1 refl

-- ---- both turns

module _ (id other : List ℕ) (is : IsId id) (others : IsId other) where
  abbrev supplier : Common
  supplier = beginning Supplier id other

  abbrev receiver : Common
  receiver = beginning Receiver other id

  abbrev bidding_second : Common
  bidding_second = record receiver { stage = SecondStage; partner = Some (record { code = 0; id = id }) }

  abbrev first_on : Volley
  first_on = record {
    owner = Awaiting supplier (record { frame = first_header supplier; left = []; block = 1; tries = 1; asked = false });
    hearer = InText receiver nothing_taken;
    frame = first_header supplier;
  }

  abbrev second_on : Volley
  second_on = record {
    owner = Awaiting bidding_second (record { frame = second_frame other; left = []; block = 1; tries = 1; asked = false });
    hearer = InText (record supplier { stage = SecondStage }) nothing_taken;
    frame = second_frame other;
  }

  first_begun : Exchanges (started_both id other) first_on
  first_begun = record { reply = Ack0; is_reply = tt; heard = refl; next = refl }

  first_done : Exchanges first_on (first_sent id other)
  first_done = record { reply = Ack1; is_reply = tt; heard = ap (λ (p : Option Partner). takes_header receiver nothing_taken p None) (first_read id is); next = refl }

  second_begun : Exchanges (second_both id other) second_on
  second_begun = record { reply = Ack0; is_reply = tt; heard = refl; next = refl }

  second_done : Exchanges second_on (second_sent id other)
  second_done = record {
    reply = Ack1;
    is_reply = tt;
    heard = ap (λ (p : Option Partner). takes_header (record supplier { stage = SecondStage }) nothing_taken p None) (second_read other others);
    next = ap (λ (t : Bool). if t then says Eot (SentAll (receiver_ready id other)) else says Eot (Ended (WrongPartner id))) (same_self id);
  }

  pub headers_pass : HeadersPass id other
  headers_pass = record {
    first = (refl, first_on, first_begun, (refl, first_sent id other, first_done, refl));
    then_bids = ap (λ (t : Bool). bids bidding_second (Header ((if t then codes "00" else codes "01") ++ other ++ codes "R01L01") ∷ [])) (same_self id);
    second = (refl, second_on, second_begun, (refl, second_sent id other, second_done, refl));
    then_texts = ap (λ (t : Bool). if t then says_nothing (Finished (supplier_ready id other) []) else ends (WrongPartner other)) (same_self other);
    pair = record { stage = refl; their_stage = refl; same = refl };
  }
