-- What an opening that goes well finds, the list left at the end begins with.
use Rattle.std.proofs.Common.{◌≡◌, ℕ, Bool, true, false, List, [], ◌∷◌, ◌++◌, map, refl, sym, ◌∙◌, ap, subst, inl, append_assoc}
use Rattle.std.specs.List.{Contains, filter}
use Rattle.std.specs.Prelude.{not}
use Rattle.std.proofs.lemmas.List.{map-append}
use Rattle.std.proofs.lemmas.List.Elements.{Contains-append_left, filter-append}
use Rattle.dsd_values.specs.declared.role.Role.{Role}
use Rattle.dsd_station.specs.declared.call.Reception.{Reception}
use Rattle.dsd_station.specs.Heard.{answers_in, said_in}
use Rattle.dsd_station.specs.Logged.{Log}
use Rattle.dsd_station.specs.Replayed.{IsFine, State, state_of}
use Rattle.dsd_journal.specs.JournalImage.{Holds}
use Rattle.dsd_journal.specs.declared.entry.Entry.{Entry}
use Rattle.dsd_journal.specs.declared.header.Header.{Header}
use Rattle.delivery_book.specs.Deeds.{is_signed}
use Rattle.dsd_end.specs.Cabling.{AreToldApart}
use Rattle.dsd_end.specs.Lives.{IsLifeFrom, last_from}
use Rattle.dsd_end.specs.Runs.{Run}
use Rattle.dsd_end.proofs.Growing.{Grows, run_of}
use Rattle.cable_world.specs.Leaving.{Begins, BeginsRun, GoesOn, IsBegun, behind_if, image_left, recorded, run_to, state_after, state_behind}
use Rattle.cable_world.specs.Living.{begins_run, is_opening, parts_of}
use Rattle.cable_world.specs.Progressing.{OneList}
use Rattle.cable_world.specs.Steps.{WorldStep, same_role}
use Rattle.cable_world.proofs.JoinedRuns.{going, still_fine}
use Rattle.clean_worlds.proofs.CleanPlayed.{after_more}

module _ (one_list : OneList) (role : Role) (header : Header) (opening : WorldStep) (rest : List WorldStep) (own : same_role role opening.role ≡ true) (anew : begins_run opening ≡ true) where
  -- a run begins with this opening, and goes on by the steps behind it
  record BeginsThere (state : State) : Type 0 where
    next : List Entry
    fine : IsFine (state_behind state opening)
    begins : BeginsRun role header state opening next
    goes : GoesOn role header (state_behind state opening) next (answers_in opening.part) (said_in opening.part) rest

  abbrev ComesThere : List WorldStep → Type 0
  ComesThere before = (state : State) (first : List Entry) (heard : List Reception) (gone : List ℕ) → IsFine state → GoesOn role header state first heard gone (before ++ opening ∷ rest) → BeginsThere (state_after role state before)

  goes_there : (before : List WorldStep) (state : State) (first : List Entry) (heard : List Reception) (gone : List ℕ) → IsFine state → GoesOn role header state first heard gone (before ++ opening ∷ rest)
      → BeginsThere (state_after role state before)
  goes_there [] state first heard gone fine on =
      let (next, begun, goes) = on.4 own anew in
      record { next = next; fine = still_fine state (recorded opening) fine begun.0; begins = begun; goes = goes }
  goes_there (one ∷ before) state first heard gone fine on = by (goes_there before) (same_role role one.role) (begins_run one) (is_opening one.kind) refl refl refl
    where
      by : ComesThere before → (its begins opens : Bool) → same_role role one.role ≡ its → begins_run one ≡ begins → is_opening one.kind ≡ opens → BeginsThere (state_after role (behind_if its state one) before)
      by again false begins opens o b k = again state first heard gone fine (on.0 o)
      by again true false false o b k = again (state_behind state one) first (heard ++ answers_in one.part) (gone ++ said_in one.part) (on.1 o b k).0 (on.3 o b)
      by again true false true o b k = again (state_behind state one) first (heard ++ answers_in one.part) (gone ++ said_in one.part) (still_fine state (recorded one) fine (on.2 o b k).0) (on.3 o b)
      by again true true opens o b k =
          let (next, begun, goes) = on.4 o b in
          again (state_behind state one) next (answers_in one.part) (said_in one.part) (still_fine state (recorded one) fine begun.0) goes

  begins_there : (before : List WorldStep) (state : State) → IsFine state → Begins role header state (before ++ opening ∷ rest) → BeginsThere (state_after role state before)
  begins_there [] state fine begins =
      let (next, begun, goes) = begins.2 own anew in
      record { next = next; fine = still_fine state (recorded opening) fine begun.0; begins = begun; goes = goes }
  begins_there (one ∷ before) state fine begins = by (begins_there before) (same_role role one.role) (begins_run one) refl refl
    where
      by : ((state : State) → IsFine state → Begins role header state (before ++ opening ∷ rest) → BeginsThere (state_after role state before)) → (its first : Bool) → same_role role one.role ≡ its → begins_run one ≡ first
          → BeginsThere (state_after role (behind_if its state one) before)
      by again false first o b = again state fine (begins.0 o)
      by again true false o b = let (unwriting, more) = begins.1 o b in again (state_behind state one) (still_fine state (recorded one) fine unwriting) more
      by again true true o b =
          let (next, begun, goes) = begins.2 o b in
          goes_there before (state_behind state one) next (answers_in one.part) (said_in one.part) (still_fine state (recorded one) fine begun.0) goes

  run_on : (state : State) (b : BeginsThere state) → (last : List Entry) × Grows b.next last × Holds header last (image_left (state_after role (state_behind state opening) rest))
  run_on state b =
      let j = going one_list role header rest (state_behind state opening) b.next (answers_in opening.part) (said_in opening.part) b.fine b.begins.2 b.goes in
      let run : Run = run_to b.next (answers_in opening.part ++ answers_in (parts_of role rest).before) (said_in opening.part ++ said_in (parts_of role rest).before) j.after in
      let life : IsLifeFrom role b.next (run ∷ j.runs) = (refl, j.is, j.life) in
      let (is, more) = run_of role b.next (run ∷ j.runs) run life (inl refl) in
      (last_from j.after j.runs, record { added = is.added ++ more.added; grown = more.grown ∙ ap (λ (l : List Entry). l ++ more.added) is.grown ∙ append_assoc b.next is.added more.added }, j.holds)

  pub list_grows : (log : Log) (before : List WorldStep) (first last : List Entry) → IsBegun role header log (before ++ opening ∷ rest)
      → Holds header first (state_behind (state_after role (state_of log.calls) before) opening).journal → Holds header last (image_left (state_after role (state_of log.calls) (before ++ opening ∷ rest))) → Grows first last
  list_grows log before first last begun finds left =
      let here : State = state_after role (state_of log.calls) before in
      let b = begins_there before (state_of log.calls) begun.fine begun.tells in
      let (end, grows, holds) = run_on here b in
      let at_end : state_after role (state_of log.calls) (before ++ opening ∷ rest) ≡ state_after role (state_behind here opening) rest =
      after_more role (state_of log.calls) before (opening ∷ rest) ∙ ap (λ (its : Bool). state_after role (behind_if its here opening) rest) own in
      let same : b.next ≡ first = (one_list (state_behind here opening).journal header header b.next first b.begins.1 finds).1 in
      let there : end ≡ last = (one_list (image_left (state_after role (state_behind here opening) rest)) header header end last holds (subst (λ (s : State). Holds header last (image_left s)) at_end left)).1 in
      subst (λ (l : List Entry). Grows l last) same (subst (Grows b.next) there grows)

-- ---- sets of shorter lists

texts_grow : (test : Entry → Bool) (old new : List Entry) (text : List ℕ) → Grows old new → Contains (map (λ (entry : Entry). entry.payload) (filter test old)) text
    → Contains (map (λ (entry : Entry). entry.payload) (filter test new)) text
texts_grow test old new text g inside =
    subst (λ (l : List (List ℕ)). Contains l text)
    (sym (ap (λ (l : List Entry). map (λ (entry : Entry). entry.payload) (filter test l)) g.grown ∙ ap (map (λ (entry : Entry). entry.payload)) (filter-append test old g.added)
    ∙ map-append (λ (entry : Entry). entry.payload) (filter test old) (filter test g.added)))
    (Contains-append_left (map (λ (entry : Entry). entry.payload) (filter test old)) (map (λ (entry : Entry). entry.payload) (filter test g.added)) text inside)

pub still_apart : (one other longer more : List Entry) → Grows one longer → Grows other more → AreToldApart longer more → AreToldApart one other
still_apart one other longer more grows also apart = λ taken signed set set' there their is its alike.
    apart taken signed set set' (texts_grow (λ (entry : Entry). not (is_signed entry.kind)) one longer taken grows there) (texts_grow (λ (entry : Entry). is_signed entry.kind) other more signed also their) is its alike
