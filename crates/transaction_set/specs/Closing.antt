-- What a set that was read comes to, besides its head.
use Rattle.std.specs.Prelude.{◌≡◌, ◌&&◌, Bool, Some}
use Rattle.std.specs.Option.{is_some}
use Rattle.transaction_set.specs.Kinds.{is_done}
use Rattle.transaction_set.specs.SoFar.{SoFar}
use Rattle.transaction_set.specs.declared.stated.Closed.{Closed}

-- The trailer has come. A signature has then come too, and is asked for because it may be none.
abbrev pub is_closed : SoFar → Bool
is_closed m = is_done m.phase && is_some m.signature

pub record IsClosed (m : SoFar) (closed : Closed) : Type 0 where
  pub control : closed.control ≡ m.control
  pub references : closed.references.items ≡ m.references
  pub lines : closed.lines ≡ m.lines
  pub extras : closed.extras ≡ m.extras
  pub totals : closed.totals ≡ m.totals
  pub signature : Some closed.signature ≡ m.signature
  pub check : closed.check ≡ m.integrity
