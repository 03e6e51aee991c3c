-- An own turn follows the course that the lists behind it have so far.
use Rattle.std.proofs.Common.{◌≡◌, ◌+◌, ℕ, max, List, sym, ap, subst, ◌∙◌, arith}
use Rattle.dsd_values.specs.declared.role.Role.{Role}
use Rattle.dsd_record.specs.Choices.{Chooser}
use Rattle.dsd_journal.specs.declared.entry.Entry.{Entry}
use Rattle.dsd_journal.specs.declared.header.Header.{Header}
use Rattle.delivery_book.specs.Deeds.{other_role}
use Rattle.delivery_book.specs.Signing.{Legal}
use Rattle.own_turn.specs.DueSets.{DueSet}
use Rattle.own_turn.specs.OwnTurn.{Desk, Turned, lent, with_fault}
use Rattle.own_turn.specs.TurnsGrow.{IsGrown}
use Rattle.own_turn.proofs.TurnsGrowing.{turn_grows}
use Rattle.clean_sessions.specs.Courses.{Course, Stand, hears}
use Rattle.clean_sessions.specs.DeliveryStands.{AreBacked, FollowsCourse, GoesOn, IsBetweenTurns, IsFront, SignsSets, is_among, is_open, sets_in, stand_of}
use Rattle.clean_sessions.proofs.CoursesBehind.{both_fit, course_of, fits_before}
use Rattle.clean_sessions.proofs.DeliveryTurns.{answered_good, heard_turn, hears_sets, new_entries, proposed_good, taken_good}
use Rattle.clean_sessions.proofs.PreparedTurns.{grown_so}
use Rattle.clean_sessions.proofs.SigningTurns.{answered_all, proposed_all}
use Rattle.clean_sessions.proofs.TakingApart.{fault_left}
use Rattle.clean_sessions.proofs.TakingTurns.{stand_untouched, taken_all}

module _ (header : Header) (chooser : Chooser) (signing : SignsSets header.role chooser) (old partner new : Desk) (sets : List DueSet) (text load : List ℕ)
    (between : IsBetweenTurns header.role old partner sets text) (t : Turned header chooser old text new load) (number : List ℕ) where
  abbrev role : Role
  role = header.role

  abbrev course : Course
  course = course_of number new.entries partner.entries

  abbrev at : Desk → Stand
  at desk = stand_of number role desk partner

  same_entries : new.entries ≡ t.proposed.entries
  same_entries = new_entries header chooser signing old partner new sets text load between t

  pub behind_good : AreBacked role new.entries partner.entries
  behind_good = subst (λ (l : List Entry). AreBacked role l partner.entries) (sym same_entries) (proposed_good header chooser signing old partner new sets text load between t)

  grows : IsGrown role chooser (λ _. Unit {0}) old.entries new.entries
  grows = turn_grows (λ _. Unit {0}) header chooser old new text load (λ _ _. tt) t

  fits : IsFront course number new.entries × IsFront course number partner.entries
  fits = both_fit role number new.entries partner.entries behind_good

  old_fits : IsFront course number old.entries
  old_fits =
      let g = grows in
      fits_before role course number old.entries g.added (subst (Legal role) g.grown behind_good.legal) (subst (IsFront course number) g.grown fits.0)

  taken_at : at t.taken ≡ hears course (is_among number sets) (at old)
  taken_at =
      let heard = taken_all role course number old t.takes.0 partner sets between.lists old_fits between.heard.last (heard_turn header chooser signing old partner new sets text load between t) in
      ap at t.takes.2 ∙ stand_untouched number role t.takes.0 (with_fault t.takes.0 (lent text).fault) partner (fault_left role number (lent text).fault t.takes.0) ∙ heard.stand

  goes_on : GoesOn course role (is_among number sets) (at old) (stand_of number (other_role role) partner new)
  goes_on open_it =
      let e : sets_in number new.entries ≡ sets_in number t.proposed.entries = ap (sets_in number) same_entries in
      let answered = answered_good header chooser signing old partner new sets text load between t in
      let a = answered_all role chooser signing partner.entries number t.taken t.answered (taken_good header chooser signing old partner new sets text load between t) t.answers in
      let p = proposed_all role chooser signing partner.entries number chooser.drafts t.answered t.proposed answered t.proposes in
      let whole : (at t.proposed).sets ≡ course.sets = ap (λ (n : ℕ). max n (sets_in number partner.entries)) (sym e) in
      let more = grown_so role chooser signing number course partner t.taken t.answered t.proposed a.made p.made (subst (IsFront course number) same_entries fits.0) whole (ap (is_open course role) taken_at ∙ open_it) in
      let before : (at t.taken).sets ≡ (at old).sets = ap (λ (s : Stand). s.sets) taken_at ∙ hears_sets course (is_among number sets) (at old) in
      let turned : max (sets_in number partner.entries) (sets_in number new.entries) ≡ max (sets_in number t.proposed.entries) (sets_in number partner.entries) = omega (arith, e) in
      turned ∙ more ∙ ap (λ (n : ℕ). n + 1) before

  pub follows_behind : FollowsCourse course number role old partner new sets
  follows_behind = record { before = old_fits; others = fits.1; behind = fits.0; goes_on = goes_on }
