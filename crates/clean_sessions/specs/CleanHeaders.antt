-- The two turns with the headers, where every frame is delivered.
use Rattle.std.specs.Prelude.{◌≡◌, ◌++◌, ℕ, List, [], ◌∷◌, codes, Some}
use Rattle.dsd_values.specs.declared.role.Role.TheVariants.{Receiver, Supplier}
use Rattle.dex_line.specs.FrameShapes.{FrameShape, Enq, Eot, Header}
use Rattle.dex_handshake.specs.LineTable.{Bidding, Common, Finished, InText, Ready, SecondStage, SentAll, TextStage, beginning, first_header, hears, nothing_taken, says, says_nothing}
use Rattle.clean_sessions.specs.CleanTurns.{ArePair, ExchangesAll, Volley}

-- as a session starts
abbrev pub started_both : List ℕ → List ℕ → Volley
started_both id other = record {
  owner = Bidding (beginning Supplier id other) (first_header (beginning Supplier id other) ∷ []);
  hearer = Ready (beginning Receiver other id);
  frame = Enq;
}

-- the receiver's header, where the supplier's names its peer
abbrev pub second_frame : List ℕ → FrameShape
second_frame other = Header (codes "00" ++ other ++ codes "R01L01")

-- the receiver bids its header
abbrev pub second_both : List ℕ → List ℕ → Volley
second_both id other = record {
  owner = Bidding (record (beginning Receiver other id) { stage = SecondStage; partner = Some (record { code = 0; id = id }) }) (second_frame other ∷ []);
  hearer = SentAll (beginning Supplier id other);
  frame = Enq;
}

-- the supplier, and the receiver, as they begin the turns of texts
abbrev pub supplier_ready : List ℕ → List ℕ → Common
supplier_ready id other = record (beginning Supplier id other) { stage = TextStage }

abbrev pub receiver_ready : List ℕ → List ℕ → Common
receiver_ready id other = record (beginning Receiver other id) { stage = SecondStage }

-- the receiver has replied to the first header, and the supplier to the second one
abbrev pub first_sent : List ℕ → List ℕ → Volley
first_sent id other = record {
  owner = SentAll (beginning Supplier id other);
  hearer = InText (record (beginning Receiver other id) { partner = Some (record { code = 0; id = id }) }) (record nothing_taken { taken = 1 });
  frame = Eot;
}

abbrev pub second_sent : List ℕ → List ℕ → Volley
second_sent id other = record {
  owner = SentAll (receiver_ready id other);
  hearer = InText (record (beginning Supplier id other) { stage = SecondStage; partner = Some (record { code = 0; id = other }) }) (record nothing_taken { taken = 1 });
  frame = Eot;
}

-- both turns with the headers, up to the first turn of texts, which is the supplier's
pub record HeadersPass (id other : List ℕ) : Type 0 where
  pub first : ExchangesAll (Enq ∷ first_header (beginning Supplier id other) ∷ []) (started_both id other) (first_sent id other)
  pub then_bids : hears (first_sent id other).hearer Eot ≡ says Enq (second_both id other).owner
  pub second : ExchangesAll (Enq ∷ second_frame other ∷ []) (second_both id other) (second_sent id other)
  pub then_texts : hears (second_sent id other).hearer Eot ≡ says_nothing (Finished (supplier_ready id other) [])
  pub pair : ArePair (supplier_ready id other) (receiver_ready id other)
