-- A header written over an empty journal.
use Rattle.std.proofs.Common.{◌≡◌, ◌⊎◌, inl, inr, ℕ, ◌+◌, ◌<◌, ◌≤◌, Bool, true, false, List, [], ◌∷◌, ◌++◌, length, refl, sym, ◌∙◌, ap, subst, arith, append-nil, append_assoc, length-append, Result, Ok, Err, is_ok}
use Rattle.std.proofs.lemmas.Bool.{cases_eq}
use Rattle.std.proofs.lemmas.List.{drop_all}
use Rattle.dsd_station.specs.declared.failed.Failed.{Failed}
use Rattle.dsd_station.specs.declared.call.Call.{Call}
use Rattle.dsd_station.specs.declared.call.Call.TheVariants.{Size}
use Rattle.dsd_station.specs.Disk.{overwritten, Torn}
use Rattle.dsd_station.specs.Effects.{Reads, Syncs, Writes}
use Rattle.dsd_station.specs.Rows.{Makes, put_calls}
use Rattle.dsd_station.specs.Told.{Told, Moment}
use Rattle.dsd_station.proofs.Making.{makes_one, makes_stop, makes_then, row_fine}
use Rattle.dsd_journal.specs.declared.limits.TheConstants.{FORMATTED_BYTES}
use Rattle.dsd_journal.specs.declared.header.Header.{Header}
use Rattle.dsd_journal.specs.declared.formatting.FormatFault.{FormatFault}
use Rattle.dsd_journal.specs.declared.formatting.FormatFault.TheVariants.{NotEmpty, Station}
use Rattle.dsd_journal.specs.Devices.{AsksAndPuts, Unfailed, WritesHeader, Formats}
use Rattle.dsd_journal.specs.Headers.{formatted, header_bytes, IsHeader}
use Rattle.dsd_journal.specs.JournalImage.{Holds}
use Rattle.dsd_journal.proofs.Calling.{sync_gone, sync_keeps, sync_made, syncing, write_gone, write_keeps, writing}
use Rattle.dsd_journal.proofs.Looking.{keeps_then, unfailed_then, look_kept, look_keeps, look_now, look_unfailed, look_untouched}
use Rattle.dsd_journal.proofs.Peeling.{header_length}
use Rattle.dsd_journal.proofs.Refusing.{shut_holds}

formatted_length : (h : Header) → IsHeader h → length (formatted h) ≡ FORMATTED_BYTES
formatted_length h is = omega (arith, length-append (header_bytes h) (0 ∷ []), header_length h is)

over_nothing : (bytes : List ℕ) → overwritten [] 0 bytes ≡ bytes
over_nothing bytes = ap (λ (l : List ℕ). bytes ++ l) (drop_all (0 + length bytes) [] (omega arith)) ∙ append-nil bytes

module _ (header : Header) (bytes : List ℕ) (is : bytes ≡ formatted header) (titled : IsHeader header) (a b : Told) (empty : a.journal ≡ []) where
  torn_at : (r : Result (Unit {0}) Failed) → Writes 0 bytes r a b → Torn 0 FORMATTED_BYTES [] b.journal
  torn_at r w = subst (λ (n : ℕ). Torn 0 n [] b.journal) (ap length is ∙ formatted_length header titled) (subst (λ (j : List ℕ). Torn 0 (length bytes) j b.journal) empty w.torn)

  pub header_failed : (failed : Failed) → Writes 0 bytes (Err failed) a b → WritesHeader header (Err failed) a b
  header_failed failed w = record {
    keeps = write_keeps 0 bytes (Err failed) a b w;
    gone = write_gone 0 bytes a b w.time;
    syncs = omega (arith, w.same.syncs);
    made = subst (λ (l : List ℕ). Makes (put_calls 0 l) false a b) is (makes_stop (writing 0 bytes ∷ []) (syncing ∷ []) a b (makes_one (writing 0 bytes) (Err failed) a b w.calls));
    ok = tt;
    torn = torn_at (Err failed) w;
  }

  module _ (done : Unit {0}) (c : Told) (w : Writes 0 bytes (Ok done) a b) where
    journal_is : b.journal ≡ formatted header
    journal_is = w.ok.0 ∙ ap (λ (j : List ℕ). overwritten j 0 bytes) empty ∙ over_nothing bytes ∙ is

    made_both : (r : Result (Unit {0}) Failed) → Syncs r b c → Makes (put_calls 0 (formatted header)) (is_ok r) a c
    made_both r s = subst (λ (l : List ℕ). Makes (put_calls 0 l) (is_ok r) a c) is
        (makes_then (writing 0 bytes ∷ []) (syncing ∷ []) (is_ok r) a b c (makes_one (writing 0 bytes) (Ok done) a b w.calls) (sync_made r b c s))

    count : (r : Result (Unit {0}) Failed) → Syncs r b c → c.syncs ≤ a.syncs + 1
    count r s = omega (arith, s.count.1, w.same.syncs)

    unfailed : Makes (put_calls 0 (formatted header)) true a c → Unfailed a c
    unfailed m = record { more = m.kept; calls = m.adds; each = row_fine (put_calls 0 (formatted header)) m.kept (refl, (refl, tt)) m.row }

    pub header_written : (r : Result (Unit {0}) Failed) → Syncs r b c → WritesHeader header r a c
    header_written (Ok ended) s = record {
      keeps = keeps_then a b c (write_keeps 0 bytes (Ok done) a b w) (sync_keeps (Ok ended) b c s);
      gone = sync_gone (Ok ended) b c s ∙ write_gone 0 bytes a b w.time;
      syncs = count (Ok ended) s;
      made = made_both (Ok ended) s;
      ok = (
        s.ok.0.journal ∙ journal_is,
        titled,
        record { sure = ap (λ (m : Moment). m.sure) s.ok.1.now ∙ sym s.ok.0.journal; writes = ap (λ (m : Moment). m.writes) s.ok.1.now },
        unfailed (made_both (Ok ended) s),
      );
      torn = subst (λ (j : List ℕ). Torn 0 FORMATTED_BYTES [] j) (sym s.ok.0.journal) (torn_at (Ok done) w);
    }
    header_written (Err failed) s = record {
      keeps = keeps_then a b c (write_keeps 0 bytes (Ok done) a b w) (sync_keeps (Err failed) b c s);
      gone = sync_gone (Err failed) b c s ∙ write_gone 0 bytes a b w.time;
      syncs = count (Err failed) s;
      made = made_both (Err failed) s;
      ok = tt;
      torn = subst (λ (j : List ℕ). Torn 0 FORMATTED_BYTES [] j) (sym s.err.0.journal) (torn_at (Ok done) w);
    }

-- ---- behind the size

pub formatted_holds : (header : Header) → IsHeader header → Holds header [] (formatted header)
formatted_holds header titled = shut_holds header [] (formatted header) (omega arith) 0 [] (omega arith) (record { titled = titled; each = tt; split = refl })

differ : (one other : FormatFault) → (let r : Result (Unit {0}) FormatFault = Err one in r) ≡ Err other → one ≡ other
differ one other is = cc

not_ok : (fault : FormatFault) → (let r : Result (Unit {0}) FormatFault = Ok tt in r) ≡ Err fault → ⊥
not_ok fault is = cc

size_apart : (n m : ℕ) → (let r : Result ℕ Failed = Ok n in r) ≡ Ok m → n ≡ m
size_apart n m is = cc

size_failed : (failed : Failed) (m : ℕ) → (let r : Result ℕ Failed = Err failed in r) ≡ Ok m → ⊥
size_failed failed m is = cc

module _ (header : Header) (a b : Told) where
  -- nothing is made behind the question
  unasked : (size : Result ℕ Failed) (went : Bool) → Reads (Size size) a b → (size ≡ Ok 0 → ⊥) → AsksAndPuts header went a b
  unasked size went r some =
      let kept = look_kept (Size size) a b r in
      record { size = size; first = kept.0; made = []; calls = kept.1 ∙ ap (λ (l : List Call). a.calls ++ l) (sym (append-nil kept.0)); asked = kept.2; puts = inr (some, refl) }

  -- the size could not be had
  pub formats_unasked : (failed : Failed) → Reads (Size (Err failed)) a b → Formats header (Err Station) a b
  formats_unasked failed r = record {
    keeps = look_keeps (Size (Err failed)) a b r;
    gone = ap (λ (m : Moment). m.gone) (look_now (Size (Err failed)) a b r);
    syncs = omega (arith, r.same.syncs);
    calls = unasked (Err failed) false r (size_failed failed 0);
    ok = tt;
    not_empty = λ size is. absurd (other size (differ Station (NotEmpty size) is));
    station = λ is. inl (look_untouched (Size (Err failed)) a b r);
    unfailed = inl refl;
  }
    where
      other : (size : ℕ) → Station ≡ NotEmpty size → ⊥
      other size is = cc

  -- the journal has bytes
  pub formats_full : (size : ℕ) → size ≡ length a.journal → (size ≡ 0 → ⊥) → Reads (Size (Ok size)) a b → Formats header (Err (NotEmpty size)) a b
  formats_full size long some r = record {
    keeps = look_keeps (Size (Ok size)) a b r;
    gone = ap (λ (m : Moment). m.gone) (look_now (Size (Ok size)) a b r);
    syncs = omega (arith, r.same.syncs);
    calls = unasked (Ok size) false r (λ is. some (size_apart size 0 is));
    ok = tt;
    not_empty = λ other is. (sym (same other (differ (NotEmpty size) (NotEmpty other) is)) ∙ long, more other (same other (differ (NotEmpty size) (NotEmpty other) is)) (cases_eq size 0), look_untouched (Size (Ok size)) a b r);
    station = λ is. absurd (apart (differ (NotEmpty size) Station is));
    unfailed = inr (look_unfailed (Size (Ok size)) a b r refl);
  }
    where
      same : (other : ℕ) → NotEmpty size ≡ NotEmpty other → size ≡ other
      same other is = cc

      apart : NotEmpty size ≡ Station → ⊥
      apart is = cc

      more : (other : ℕ) → size ≡ other → (size ≡ 0) ⊎ (size ≡ 0 → ⊥) → 0 < other
      more other is (inl none) = absurd (some none)
      more other is (inr any) = omega (arith, is, any)

  module _ (size : ℕ) (c : Told) (none : size ≡ 0) (empty : a.journal ≡ []) (r : Reads (Size (Ok size)) a b) where
    asked : (went : Bool) → Makes (put_calls 0 (formatted header)) went b c → AsksAndPuts header went a c
    asked went m =
        let kept = look_kept (Size (Ok size)) a b r in
        record {
          size = Ok size;
          first = kept.0;
          made = m.kept;
          calls = m.adds ∙ ap (λ (l : List Call). l ++ m.kept) kept.1 ∙ append_assoc a.calls kept.0 m.kept;
          asked = kept.2;
          puts = inl (ap (λ (n : ℕ). let q : Result ℕ Failed = Ok n in q) none, m.row);
        }

    gone_both : c.now.gone ≡ b.now.gone → c.now.gone ≡ a.now.gone
    gone_both e = e ∙ ap (λ (m : Moment). m.gone) (look_now (Size (Ok size)) a b r)

    pub formats_done : (done : Unit {0}) → WritesHeader header (Ok done) b c → Formats header (Ok tt) a c
    formats_done done w = record {
      keeps = keeps_then a b c (look_keeps (Size (Ok size)) a b r) w.keeps;
      gone = gone_both w.gone;
      syncs = omega (arith, r.same.syncs, w.syncs);
      calls = asked true w.made;
      ok = (empty, w.ok.0, subst (λ (j : List ℕ). Holds header [] j) (sym w.ok.0) (formatted_holds header w.ok.1), w.ok.2);
      not_empty = λ size is. absurd (not_ok (NotEmpty size) is);
      station = λ is. absurd (not_ok Station is);
      unfailed = inr (unfailed_then a b c (look_unfailed (Size (Ok size)) a b r refl) w.ok.3);
    }

    pub formats_failed : (failed : Failed) → WritesHeader header (Err failed) b c → Formats header (Err Station) a c
    formats_failed failed w = record {
      keeps = keeps_then a b c (look_keeps (Size (Ok size)) a b r) w.keeps;
      gone = gone_both w.gone;
      syncs = omega (arith, r.same.syncs, w.syncs);
      calls = asked false w.made;
      ok = tt;
      not_empty = λ size is. absurd (other size (differ Station (NotEmpty size) is));
      station = λ is. inr (empty, w.torn);
      unfailed = inl refl;
    }
      where
        other : (size : ℕ) → Station ≡ NotEmpty size → ⊥
        other size is = cc
