-- Behind an own turn each draft whose delivery is still new was held back in it.
use Rattle.std.proofs.Common.{◌≡◌, ℕ, false, length, List, [], ◌∷◌, ◌++◌, sym, ap, subst, inl, inr, arith}
use Rattle.dsd_values.specs.declared.role.Role.{Role}
use Rattle.base_record_894.specs.BaseRecord.{BaseRecord}
use Rattle.dsd_record.specs.Choices.{Chooser}
use Rattle.dsd_journal.specs.declared.header.Header.{Header}
use Rattle.delivery_book.specs.Signing.{Legal}
use Rattle.delivery_book.proofs.Members.{In, from_contains}
use Rattle.own_turn.specs.DueSets.{DueSet}
use Rattle.own_turn.specs.OwnTurn.{Desk, InTurn, Proposes, Turned, signed}
use Rattle.clean_sessions.specs.Declining.{HasAnswered, HoldsBack, HoldsNew}
use Rattle.clean_sessions.specs.DeliveryStands.{IsBetweenTurns, SignsSets, sets_in}
use Rattle.clean_sessions.proofs.AnswersDeclined.{Grows, declines_open, drafts_grow, grows_not, grows_sets, grows_then}
use Rattle.clean_sessions.proofs.DeliveryTurns.{answered_good, new_entries}
use Rattle.clean_sessions.proofs.SignedStands.{one_more}

module _ (role : Role) (chooser : Chooser) where
  draft_legal : (draft : BaseRecord) (old new : Desk) → Legal role old.entries → Proposes role chooser draft old new → Legal role new.entries
  draft_legal draft old new legal (inl (text, may, e)) = subst (λ (d : Desk). Legal role d.entries) (sym e) may.legal
  draft_legal draft old new legal (inr (none, e)) = subst (λ (d : Desk). Legal role d.entries) (sym e) legal

  record Found (draft : BaseRecord) (new : Desk) : Type 0 where
    before : Desk
    behind : Desk
    step : Proposes role chooser draft before behind
    legal : Legal role before.entries
    last : Grows behind.entries new.entries

  find_draft : (draft : BaseRecord) (drafts : List BaseRecord) (old new : Desk) → Legal role old.entries → In draft drafts → InTurn (Proposes role chooser) drafts old new → Found draft new
  find_draft draft [] old new legal there e = absurd there
  find_draft draft (own ∷ more) old new legal (inl same) (next, step, rest) = record {
    before = old;
    behind = next;
    step = subst (λ (d : BaseRecord). Proposes role chooser d old next) same step;
    legal = legal;
    last = drafts_grow role chooser [] more next new rest;
  }
  find_draft draft (own ∷ more) old new legal (inr there) (next, step, rest) = find_draft draft more next new (draft_legal own old next legal step) there rest

module _ (header : Header) (chooser : Chooser) (signing : SignsSets header.role chooser) (old partner new : Desk) (sets : List DueSet) (text load : List ℕ)
    (between : IsBetweenTurns header.role old partner sets text) (t : Turned header chooser old text new load) where
  abbrev role : Role
  role = header.role

  same_entries : new.entries ≡ t.proposed.entries
  same_entries = new_entries header chooser signing old partner new sets text load between t

  holds_new : HoldsNew role chooser new.entries
  holds_new draft there none_known =
      let answered = answered_good header chooser signing old partner new sets text load between t in
      by (find_draft role chooser draft chooser.drafts t.answered t.proposed answered.legal (from_contains chooser.drafts draft there) t.proposes) (ap length none_known)
    where
      by : Found role chooser draft t.proposed → sets_in draft.number new.entries ≡ 0 → HoldsBack role chooser draft new.entries
      by f none_there = at f.step
        where
          at : Proposes role chooser draft f.before f.behind → HoldsBack role chooser draft new.entries
          at (inl (text, may, e)) =
              let count = one_more draft.number text false (signing.drafts f.before.entries draft text f.legal may) f.before.entries in
              let made : sets_in draft.number f.behind.entries ≡ sets_in draft.number (f.before.entries ++ signed text ∷ []) = ap (λ (d : Desk). sets_in draft.number d.entries) e in
              let grew = grows_sets draft.number f.behind.entries t.proposed.entries f.last in
              let same = ap (sets_in draft.number) same_entries in
              absurd (omega (arith, count, made, grew, same, none_there))
          at (inr (none, e)) =
              let later : Grows f.before.entries new.entries =
              grows_then f.before.entries t.proposed.entries new.entries (subst (λ (d : Desk). Grows d.entries t.proposed.entries) e f.last) (grows_not t.proposed.entries new.entries same_entries) in
              record { before = f.before.entries; more = later.0; grown = later.1; none = none }

  pub has_answered : HasAnswered role chooser new.entries
  has_answered = record { declines = declines_open header chooser signing old partner new sets text load between t; holds = holds_new }
