-- A journal to which entries are staged rests as it did.
use Rattle.std.proofs.Common.{◌≡◌, List, subst, sym}
use Rattle.dsd_station.specs.Told.{Told}
use Rattle.dsd_journal.specs.declared.entry.Entry.{Entry}
use Rattle.dsd_journal.specs.declared.header.Header.{Header}
use Rattle.dsd_journal.specs.Journals.{Rests}

pub still_rests : (header kept : Header) (entries held : List Entry) (told : Told) → kept ≡ header → held ≡ entries
    → Rests header entries told → Rests kept held told
still_rests header kept entries held told same alike rests = subst (λ h. Rests h held told) (sym same) (subst (λ es. Rests header es told) (sym alike) rests)
