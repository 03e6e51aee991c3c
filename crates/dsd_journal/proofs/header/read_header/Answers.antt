use Rattle.std.proofs.Common.{◌≡◌, ◌≤◌, [], arith, subst, sym, drop, length}
use Rattle.dsd_journal.specs.declared.limits.TheConstants.{HEADER_BYTES}
use Rattle.dsd_journal.specs.declared.header.Header.{Header}
use Rattle.dsd_journal.specs.JournalImage.{Leads}
use Rattle.dsd_journal.proofs.Titles.{front_leads}
use Rattle.dsd_journal.proofs.header.read_header.Goals as goal

pub returns-clause-ok : goal.returns-clause-ok
returns-clause-ok c =
    let long : HEADER_BYTES ≤ length c.args.bytes.now = c.if-bytes-lt-HEADER_BYTES.false in
    let all : c.min.result ≡ HEADER_BYTES = omega (arith, c.min.ensures, long) in
    subst (λ (h : Header). Leads h [] (drop HEADER_BYTES c.args.bytes.now) c.args.bytes.now) (sym c.header_in.ensures) (front_leads c.args.bytes.now c.min.result all long c.in_default.ensures)
