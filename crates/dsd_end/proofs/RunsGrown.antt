-- Entries that are new and frames that may be said make a run.
use Rattle.std.proofs.Common.{◌≡◌, ℕ, cond, List, [], ◌∷◌, ◌++◌, map, sym, subst, inl, inr, append_assoc, append-nil}
use Rattle.std.specs.Prelude.{Contains, not}
use Rattle.std.specs.List.{filter, flat_map}
use Rattle.dsd_values.specs.declared.role.Role.{Role}
use Rattle.dex_line.specs.FrameShapes.{FrameShape}
use Rattle.dex_line.specs.FrameSpelling.{spelling}
use Rattle.dex_handshake.specs.Sound.{AreSaid}
use Rattle.dsd_record.specs.Choices.{Chooser}
use Rattle.dsd_station.specs.declared.call.Reception.{Reception}
use Rattle.dsd_journal.specs.declared.entry.Entry.{Entry}
use Rattle.dsd_journal.specs.declared.entry.EntryKind.{EntryKind}
use Rattle.dsd_journal.specs.declared.entry.EntryKind.TheVariants.{Signed, Took}
use Rattle.own_turn.specs.Choosing.{Chosen}
use Rattle.delivery_book.specs.Deeds.{is_signed, taken_texts}
use Rattle.delivery_book.specs.Signing.{Legal}
use Rattle.dsd_end.specs.Carrying.{Carried}
use Rattle.dsd_end.specs.Lives.{IsRunOf}
use Rattle.dsd_end.specs.Runs.{Run, bytes_heard}
use Rattle.dsd_end.specs.Speaking.{Speaks}
use Rattle.own_turn.specs.TurnsGrow.{AreNew, IsGrown, IsNewAs}
use Rattle.dsd_end.proofs.GoingOut.{whole_speaks}
use Rattle.dsd_end.proofs.Growing.{Grows}
use Rattle.delivery_book.proofs.Members.{from_contains, to_contains}
use Rattle.dsd_end.proofs.Onward.{backed_grows}
use Rattle.dsd_end.specs.SoFar.{MayGoOut}

-- ---- what grows

module _ (role : Role) (chooser : Chooser) (P Q : List ℕ → Type 0) (weaker : (text : List ℕ) → P text → Q text) where
  new_as : (kind : EntryKind) (before : List Entry) (text : List ℕ) → IsNewAs kind role chooser P before text → IsNewAs kind role chooser Q before text
  new_as Signed before text h = h
  new_as Took before text h = weaker text h

  new_weaker : (before added : List Entry) → AreNew role chooser P before added → AreNew role chooser Q before added
  new_weaker before [] h = tt
  new_weaker before (entry ∷ more) (h, hs) = (new_as entry.kind before entry.payload h, new_weaker (before ++ entry ∷ []) more hs)

  pub grown_weaker : (old new : List Entry) → IsGrown role chooser P old new → IsGrown role chooser Q old new
  grown_weaker old new g = record { added = g.added; grown = g.grown; each = new_weaker old g.added g.each; legal = g.legal }

pub said_grows : (old new : List Entry) (frames : List FrameShape) → Grows old new → AreSaid (MayGoOut old) frames → AreSaid (MayGoOut new) frames
said_grows old new [] g h = tt
said_grows old new (frame ∷ frames) g ((s, b), h) = ((s, backed_grows old new g frame b), said_grows old new frames g h)

pub said_more : (entries : List Entry) (a b : List FrameShape) → AreSaid (MayGoOut entries) a → AreSaid (MayGoOut entries) b → AreSaid (MayGoOut entries) (a ++ b)
said_more entries [] b h k = k
said_more entries (frame ∷ a) b (h, hs) k = (h, said_more entries a b hs k)

-- ---- a run

new_taken : (role : Role) (chooser : Chooser) (P : List ℕ → Type 0) (before added : List Entry) (text : List ℕ) → AreNew role chooser P before added
    → Contains (taken_texts added) text → P text
new_taken role chooser P before [] text h inside = absurd (from_contains [] text inside)
new_taken role chooser P before (entry ∷ more) text (h, hs) inside =
    by_kind entry.kind entry.payload h (new_taken role chooser P (before ++ entry ∷ []) more text hs) inside
  where
    by_kind : (kind : EntryKind) (payload : List ℕ) → IsNewAs kind role chooser P before payload → (Contains (taken_texts more) text → P text)
        → Contains (map (λ (e : Entry). e.payload) (cond (not (is_signed kind)) (record { kind = kind; payload = payload } ∷ filter (λ (e : Entry). not (is_signed e.kind)) more) (filter (λ (e : Entry). not (is_signed e.kind)) more))) text
        → P text
    by_kind Signed payload h on inside = on inside
    by_kind Took payload h on inside = elim (from_contains (payload ∷ taken_texts more) text inside) [
      | inl same ↦ subst P same h
      | inr there ↦ on (to_contains (taken_texts more) text there)
    ]

new_chosen : (role : Role) (chooser : Chooser) (P : List ℕ → Type 0) (before front rest : List Entry) (entry : Entry) → AreNew role chooser P before (front ++ entry ∷ rest)
    → entry.kind ≡ Signed → Chosen role chooser (before ++ front) entry.payload
new_chosen role chooser P before [] rest entry (h, hs) kind =
    let chosen : Chosen role chooser before entry.payload = subst (λ (k : EntryKind). IsNewAs k role chooser P before entry.payload) kind h in
    subst (λ (l : List Entry). Chosen role chooser l entry.payload) (sym (append-nil before)) chosen
new_chosen role chooser P before (first ∷ front) rest entry (h, hs) kind =
    subst (λ (l : List Entry). Chosen role chooser l entry.payload) (append_assoc before (first ∷ []) front)
    (new_chosen role chooser P (before ++ first ∷ []) front rest entry hs kind)

pub run_of : (role : Role) (chooser : Chooser) (before after : List Entry) (heard : List Reception) (said : List FrameShape) → Legal role before
    → IsGrown role chooser (Carried (bytes_heard heard)) before after → AreSaid (MayGoOut after) said
    → IsRunOf role chooser (record { before = before; heard = heard; gone = flat_map spelling said; after = after })
run_of role chooser before after heard said legal g s = record {
  is = record {
    added = g.added;
    grown = g.grown;
    legal = g.legal legal;
    taken = λ text inside. new_taken role chooser (Carried (bytes_heard heard)) before g.added text g.each inside;
    speaks = whole_speaks after said s;
  };
  chosen = λ front rest entry e kind.
      new_chosen role chooser (Carried (bytes_heard heard)) before front rest entry (subst (AreNew role chooser (Carried (bytes_heard heard)) before) e g.each) kind;
}

-- the same run, of which other bytes have gone out
pub with_gone : (role : Role) (chooser : Chooser) (run : Run) (out : List ℕ) → IsRunOf role chooser run → Speaks out run.after → IsRunOf role chooser (record run { gone = out })
with_gone role chooser run out r speaks = record {
  is = record { added = r.is.added; grown = r.is.grown; legal = r.is.legal; taken = r.is.taken; speaks = speaks };
  chosen = r.chosen;
}
