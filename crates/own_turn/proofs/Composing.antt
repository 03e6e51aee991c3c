-- How the parts of a turn are put together.
use Rattle.std.proofs.Common.{ℕ, List, [], ◌∷◌, refl, ◌∙◌, inl, inr}
use Rattle.dsd_journal.specs.declared.entry.Entry.{Entry}
use Rattle.delivery_book.specs.Books.{BookView}
use Rattle.own_turn.specs.Desks.{IsTooLong}
use Rattle.own_turn.specs.NextEntry.{AddsInTurn, AddsNext}
use Rattle.own_turn.specs.OwnTurn.{Desk, InTurn}
use Rattle.own_turn.specs.Staging.{KeepsJournal}

-- ---- the journal stays

pub kept_then : (a b c : BookView) → KeepsJournal a b → KeepsJournal b c → KeepsJournal a c
kept_then a b c x y = record { header = y.header ∙ x.header; entries = y.entries ∙ x.entries; staging = λ s. y.staging (x.staging s) }

-- ---- steps in a row

module _ {A : Type 0} (Step : A → Desk → Desk → Type 0) where
  -- Whatever the steps that are left come to, all of them come to.
  pub record Leads (items rest : List A) (old now : Desk) : Type 0 where
    pub done : (new : Desk) → InTurn Step rest now new → InTurn Step items old new
    pub next : (entries : List Entry) (entry : Entry) → AddsInTurn Step rest now entries entry → AddsInTurn Step items old entries entry

  pub leads_on : (items : List A) (item : A) (rest : List A) (old now then' : Desk) → Leads items (item ∷ rest) old now → Step item now then' → Leads items rest old then'
  leads_on items item rest old now then' l step = record { done = λ new d. l.done new (then', step, d); next = λ entries entry n. l.next entries entry (inr (then', step, n)) }

  pub leads_done : (items : List A) (old now : Desk) → Leads items [] old now → InTurn Step items old now
  leads_done items old now l = l.done now refl

  pub leads_full : (items : List A) (item : A) (rest : List A) (old now : Desk) (entries : List Entry) (n : ℕ) → Leads items (item ∷ rest) old now → IsTooLong (AddsNext (Step item) now) entries n → IsTooLong (AddsInTurn Step items old) entries n
  leads_full items item rest old now entries n l t = record { entry = t.entry; next = l.next entries t.entry (inl t.next); size = t.size; long = t.long }
