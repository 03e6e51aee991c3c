use Rattle.std.proofs.Common.{◌≡◌, ◌<◌, ◌≤◌, ◌++◌, ◌+◌, [], ◌∷◌, ℕ, List, length, ap, subst, sym, ◌∙◌, arith, length-append, vec_len}
use Rattle.dsd_journal.specs.declared.entry.Entry.{Entry}
use Rattle.dsd_journal.specs.declared.limits.TheConstants.{JOURNAL_BYTES}
use Rattle.dsd_journal.specs.JournalImage.{body, gate_place, open_gate, spelled, EachFits, IsPayloadLength}
use Rattle.dsd_journal.specs.Journals.{length_with, View}
use Rattle.dsd_journal.proofs.Peeling.{body_length}
use Rattle.dsd_journal.proofs.Places.{gate_append, none_of}
use Rattle.dsd_journal.proofs.Refusing.{each_push, spelled_push}
use Rattle.dsd_journal.proofs.journal.Journal.put.Goals as goal

pub invariant_of-self : goal.invariant_of-self
invariant_of-self c =
    let is = c.self.invariant in
    let list = c.self.inside.entries.list in
    let old = c.self.inside.staged.items in
    let text : c.from_bytes-payload.result ≡ c.args.payload.now =
    c.from_bytes-payload.ensures ∙ c.shrink_to_fit.ensures.items ∙ ap (λ v. v.items) c.replace-bytes.ensures.value ∙ c.add.ensures.items
    ∙ ap (λ (l : List ℕ). l ++ c.args.payload.now) (none_of c.self.inside.payload.items (omega (arith, is.empty))) in
    let e : Entry = record { kind = c.args.kind; payload = c.from_bytes-payload.result } in
    let pushed : c.push_reserved.new.self.items ≡ old ++ e ∷ [] = c.push_reserved.ensures.items in
    let sized = subst (λ (l : List ℕ). IsPayloadLength (length l)) (sym text) c.requires.length in
    let room : length c.args.payload.now ≤ c.self.inside.spare = subst (λ (v : View). length c.args.payload.now ≤ v.spare) (sym c.self.view_is) c.requires.room in
    let some : 0 < c.self.inside.spare = omega (arith, room, c.requires.length.0) in
    let near : gate_place (list ++ old) + 7 + length c.args.payload.now ≤ JOURNAL_BYTES =
    subst (λ (v : View). length_with v (length c.args.payload.now) ≤ JOURNAL_BYTES) (sym c.self.view_is) c.requires.near in
    let bytes = is.batch some in
    let more = c.add_entry.ensures.len in
    record {
      staged = record {
        batch = c.add_entry.ensures.items
            ∙ ap (λ (l : List ℕ). l ++ open_gate ∷ body (record { kind = c.args.kind; payload = c.args.payload.now })) is.staged.batch
            ∙ ap (λ (t : List ℕ). spelled old ++ open_gate ∷ body (record { kind = c.args.kind; payload = t })) (sym text)
            ∙ sym (spelled_push old e)
            ∙ ap spelled (sym pushed);
        each = subst EachFits (sym pushed) (each_push old e is.staged.each sized);
        below = subst (λ (l : List Entry). gate_place (list ++ l) < JOURNAL_BYTES) (sym pushed)
            (omega (arith, near, gate_append list old, gate_append list (old ++ e ∷ []), ap length (spelled_push old e), length-append (spelled old) (open_gate ∷ body e), body_length e, ap length text));
        entries = omega (arith, c.push_reserved.ensures.len, is.entry some);
        gate = λ any. omega (arith, bytes, more, room, c.add_entry.ensures.capacity);
      };
      entry = λ none. absurd (omega (arith, none));
      place = λ none. absurd (omega (arith, none));
      payload = omega arith;
      empty = ap (λ v. vec_len v) c.replace-bytes.ensures.after ∙ c.new.ensures.len;
      batch = λ none. absurd (omega (arith, none));
    }
