use Rattle.std.proofs.Common.{◌≡◌, ◌+◌, ◌++◌, ℕ, length, ap, ◌∙◌, arith}
use Rattle.dsd_journal.specs.JournalImage.{gate_place}
use Rattle.dsd_journal.specs.Journals.{length_with, View}
use Rattle.dsd_journal.proofs.Places.{gate_append}
use Rattle.dsd_journal.proofs.journal.Journal.length_with.Goals as goal

pub returns : goal.returns
returns c =
    let j = c.self.inside in
    let all : c.gate.result + c.len.result ≡ gate_place (j.entries.list ++ j.staged.items) =
    omega (arith, c.gate.ensures.value, c.len.ensures, ap length c.self.invariant.staged.batch, gate_append j.entries.list j.staged.items) in
    ap (λ (n : ℕ). n + 7 + length c.args.payload.now) all ∙ ap (λ (v : View). length_with v (length c.args.payload.now)) c.self.view_is
