-- The polls of an end that was opened over legal entries make a run.
use Rattle.std.proofs.Common.{ℕ, List, [], Option, refl}
use Rattle.dsd_values.specs.declared.role.Role.{Role}
use Rattle.dsd_values.specs.declared.role.Role.TheVariants.{Supplier, Receiver}
use Rattle.dex_handshake.specs.LineTable.{started}
use Rattle.dex_handshake.specs.Sound.{IsSound}
use Rattle.dex_handshake.proofs.Sayings.{first_spoken, may_spell}
use Rattle.dsd_record.specs.Choices.{Chooser}
use Rattle.dsd_station.specs.declared.call.Reception.{Reception}
use Rattle.dsd_journal.specs.Headers.{IsHeader, IsId}
use Rattle.dsd_journal.specs.declared.entry.Entry.{Entry}
use Rattle.dsd_journal.specs.declared.header.Header.{Header}
use Rattle.delivery_book.specs.Signing.{Legal}
use Rattle.dsd_end.specs.Lives.{IsRunOf}
use Rattle.dsd_end.specs.PollsHeard.{receptions_of}
use Rattle.dsd_end.specs.PollStep.{Along, Done, bytes_of}
use Rattle.dsd_end.specs.SoFar.{CarriesText, MayGoOut}
use Rattle.dsd_end.specs.Standings.{first_standing}
use Rattle.dsd_end.proofs.RunsGrown.{run_of}
use Rattle.dsd_end.proofs.SoundTurns.{Greets}
use Rattle.dsd_end.proofs.SoundPolls.{IsAt, along_soundly}

-- what an end with this id may say besides the blocks of its loads
pub greets : (id : List ℕ) → IsId id → Greets id
greets id is = λ entries.
    let m = may_spell id is.text is.ten in
    record { enq = (tt, tt); ack0 = (tt, tt); ack1 = (tt, tt); nak = (tt, tt); eot = (tt, tt); greets = λ ready. (m.greets ready, tt) }

-- ---- from the first standing on

pub start_sound : (role : Role) (own peer : List ℕ) (entries : List Entry) (C : List ℕ → Type 0) → IsId own → IsSound own (MayGoOut entries) C (started role own peer).next
start_sound Receiver own peer entries C is = refl
start_sound Supplier own peer entries C is = (refl, ((first_spoken own is.text is.ten, tt), tt))

start_at : (header : Header) (entries : List Entry) → IsHeader header → IsAt header [] (first_standing header entries)
start_at header entries is = record {
  past = [];
  rest = [];
  split = refl;
  line = start_sound header.role header.own header.peer entries (CarriesText []) is.own;
  begun = λ _. refl;
}

pub polls_run : (chooser : Chooser) (header : Header) (entries : List Entry) (polls : List (Option Reception)) (done : Done) → IsHeader header → Legal header.role entries
    → Along chooser (first_standing header entries) polls done
    → IsRunOf header.role chooser (record { before = entries; heard = receptions_of polls; gone = bytes_of done; after = done.standing.desk.entries })
polls_run chooser header entries polls done is legal along =
    let p = along_soundly header chooser (greets header.own is.own) (first_standing header entries) polls [] done refl (start_at header entries is) along in
    run_of header.role chooser entries done.standing.desk.entries (receptions_of polls) done.said legal p.grown p.said
