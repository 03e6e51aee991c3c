-- Each entry of a legal list is a set, and the front of a legal list is legal.
use Rattle.std.proofs.Common.{◌≡◌, inl, inr, ℕ, zero, suc, ◌+◌, ◌<◌, List, [], ◌∷◌, ◌++◌, length, drop, get_or, Some, filter_map, refl, sym, ◌∙◌, ap, subst, arith, append_assoc}
use Rattle.std.proofs.lemmas.List.{drop_more}
use Rattle.dsd_values.specs.declared.role.Role.{Role}
use Rattle.dsd_record.specs.SetTexts.{IsSet}
use Rattle.dsd_record.specs.declared.set_view.SetView.{SetView}
use Rattle.dsd_journal.specs.declared.entry.Entry.{Entry}
use Rattle.dsd_journal.specs.declared.header.Header.{Header}
use Rattle.dsd_journal.specs.JournalImage.{Holds}
use Rattle.dsd_journal.proofs.Apart.{never_both, one_list}
use Rattle.delivery_book.specs.Signing.{Legal, LegalFrom}
use Rattle.dex_cli.specs.JournalSummaries.{entry_told}
use Rattle.dex_cli.specs.Showing.{IsNotAJournal}
use Rattle.dex_cli.specs.declared.entry_summary.EntrySummary.{EntrySummary}

set_from : (role : Role) (before entries : List Entry) (index : ℕ) (none : Entry) → LegalFrom role before entries → index < length entries → (set : SetView) × IsSet set (get_or entries index none).payload
set_from role before [] index none legal i = absurd (omega (arith, i))
set_from role before (entry ∷ entries) zero none legal i = (legal.0.set, legal.0.is_set)
set_from role before (entry ∷ entries) (suc index) none legal i = set_from role (before ++ entry ∷ []) entries index none legal.1 (omega (arith, i))

pub set_at : (role : Role) (entries : List Entry) (index : ℕ) (none : Entry) → Legal role entries → index < length entries → (set : SetView) × IsSet set (get_or entries index none).payload
set_at role entries index none legal i = set_from role [] entries index none legal i

front_from : (role : Role) (before front behind : List Entry) → LegalFrom role before (front ++ behind) → LegalFrom role before front
front_from role before [] behind legal = tt
front_from role before (entry ∷ front) behind legal = (legal.0, front_from role (before ++ entry ∷ []) front behind legal.1)

-- an image of legal entries is not refused
pub shown_is_none : (image : List ℕ) (header : Header) (entries : List Entry) (place : ℕ) → Legal header.role entries → Holds header entries image → IsNotAJournal image place → ⊥
shown_is_none image header entries place legal holds (inl refused) = never_both image header entries place holds refused
shown_is_none image header entries place legal holds (inr (role, bad)) =
    let first = bad.first in
    let same = one_list image header bad.header entries bad.entries holds bad.holds in
    let its_role : header.role ≡ role = ap (λ (h : Header). h.role) same.0 ∙ bad.own in
    let parts : entries ≡ (first.before ++ first.entry ∷ []) ++ first.behind = same.1 ∙ first.split ∙ sym (append_assoc first.before (first.entry ∷ []) first.behind) in
    let all : Legal role ((first.before ++ first.entry ∷ []) ++ first.behind) = subst (λ (r : Role). Legal r ((first.before ++ first.entry ∷ []) ++ first.behind)) its_role (subst (λ (l : List Entry). Legal header.role l) parts legal) in
    first.illegal (front_from role [] (first.before ++ first.entry ∷ []) first.behind all)

-- one entry more is told
pub one_told : (entries : List Entry) (index : ℕ) (none : Entry) (told all : List EntrySummary) (summary : EntrySummary) → index < length entries → entry_told (get_or entries index none) ≡ Some summary
    → told ++ filter_map entry_told (drop index entries) ≡ all → (told ++ summary ∷ []) ++ filter_map entry_told (drop (index + 1) entries) ≡ all
one_told entries index none told all summary i is so_far =
    let next : filter_map entry_told (drop index entries) ≡ filter_map entry_told (get_or entries index none ∷ drop (index + 1) entries) = ap (λ (l : List Entry). filter_map entry_told l) (drop_more entries index none i) in
    let first : filter_map entry_told (get_or entries index none ∷ drop (index + 1) entries) ≡ summary ∷ filter_map entry_told (drop (index + 1) entries) = rw is refl in
    append_assoc told (summary ∷ []) (filter_map entry_told (drop (index + 1) entries)) ∙ ap (λ (l : List EntrySummary). told ++ l) (sym (next ∙ first)) ∙ so_far
