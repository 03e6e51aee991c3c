-- A script whose clean event was foretold to go well finishes.
use Rattle.std.proofs.Common.{◌≡◌, ◌≤◌, ◌<◌, ℕ, List, [], ◌∷◌, length, refl, sym, subst, length-append, arith}
use Rattle.std.specs.Prelude.{is_some, true}
use Rattle.std.proofs.lemmas.List.Elements.{All-nil}
use Rattle.dsd_values.specs.declared.role.Role.{Role}
use Rattle.dsd_values.specs.declared.role.Role.TheVariants.{Receiver, Supplier}
use Rattle.base_record_894.specs.RecordText.{IsBase}
use Rattle.dsd_record.specs.Choices.{Chooser}
use Rattle.dsd_station.specs.Logged.{image_by}
use Rattle.dsd_journal.specs.JournalImage.{Holds, body, spelled}
use Rattle.dsd_journal.specs.declared.entry.Entry.{Entry}
use Rattle.dsd_journal.specs.declared.header.Header.{Header}
use Rattle.delivery_book.specs.Finals.{final_of}
use Rattle.clean_sessions.specs.ChosenAnswers.{IgnoresCheck}
use Rattle.clean_sessions.specs.DeliveryStands.{sets_in}
use Rattle.clean_sessions.specs.TalkedSets.{AreSaid, FollowsTalks, IsFinalInBoth}
use Rattle.clean_sessions.specs.Talks.{by_role, said_in}
use Rattle.clean_sessions.proofs.FewSpoken.{session_spends}
use Rattle.clean_sessions.proofs.SessionTalks.{all_settled, session_talks}
use Rattle.cable_world.specs.Noted.{steps_of}
use Rattle.cable_world.specs.Obeying.{first_scene}
use Rattle.cable_world.specs.Progressing.{OneList}
use Rattle.cable_world.specs.Scenes.{side}
use Rattle.cable_world.specs.Worlds.{HasPlayed, WorldView, chooser_of, header_of}
use Rattle.cable_world.specs.declared.event.Event.{Event}
use Rattle.clean_worlds.specs.CleanBeginnings.{PlaysClean}
use Rattle.clean_worlds.specs.CleanEndings.{HasCleanEnd}
use Rattle.clean_worlds.specs.CleanWorlds.{EndsInClean, come_to}
use Rattle.clean_worlds.specs.Finishing.{Finishes, FinishesFromNothing, FinishesIfForetold}
use Rattle.clean_worlds.specs.Foreseen.{AreFew}
use Rattle.clean_worlds.specs.Healing.{Heals}
use Rattle.clean_worlds.specs.LeftLists.{LeavesLists, entries_left}
use Rattle.clean_worlds.specs.WholeFrames.{GoWell}
use Rattle.clean_worlds.proofs.Healing.{apart_empty, heals_unless, opens_nothing}
use Rattle.clean_worlds.proofs.ImagesLeft.{images_left, images_settled}
use Rattle.clean_worlds.proofs.SparedScripts.{spares_script, unarmed_first}
use Rattle.clean_worlds.proofs.WorldsClean.{both_complete, ends_in_clean, ids_of}

-- ---- how many entries a journal holds

as_long : (entries : List Entry) → length entries ≤ length (spelled entries)
as_long [] = omega arith
as_long (entry ∷ entries) =
    let rest = as_long entries in
    let size = length-append (body entry) (spelled entries) in
    omega (arith, rest, size)

few_held : (header : Header) (entries : List Entry) (image : List ℕ) → Holds header entries image → length entries < 999_000_000
few_held header entries image held =
    let within = held.within in
    let long = as_long entries in
    omega (arith, within, long)

follows_so : (choosers : Role → Chooser) (old one other : Role → List Entry) → ((role : Role) → one role ≡ other role) → FollowsTalks choosers old one → FollowsTalks choosers old other
follows_so choosers old one other same f = record {
  said = λ number talk is role. subst (λ (l : List Entry). AreSaid talk (said_in number l)) (same role) (f.said number talk is role);
  final = λ number talk is accepted role. subst (λ (l : List Entry). is_some (final_of l number) ≡ true) (same role) (f.final number talk is accepted role);
}

module _ (one_list : OneList) (world : WorldView) (ignores : (role : Role) → IgnoresCheck (chooser_of world.script role)) (played : HasPlayed world) where
  abbrev id : List ℕ
  id = world.script.ends.handheld.own

  abbrev other_id : List ℕ
  other_id = world.script.ends.handheld.peer

  abbrev own : Chooser
  own = chooser_of world.script Supplier

  abbrev theirs : Chooser
  theirs = chooser_of world.script Receiver

  module _ (events : List Event) (most : ℕ) (ends : EndsInClean events world) (well : GoWell ends.behind) (heal : Heals _ _ _ _ _ _ _ _ (ends.clean well))
      (few : AreFew most id other_id own theirs (ends.clean well).supplier_entries (ends.clean well).receiver_entries) where
    abbrev plays : PlaysClean id other_id own theirs (come_to ends.handheld ends.receiver ends.before) (steps_of ends.behind) ends.last ends.standing
    plays = ends.clean well

    abbrev left : Role → List Entry
    left = entries_left plays.played.more plays.played.new

    left_few : (role : Role) → length (left role) < 999_000_000
    left_few role = few_held (header_of world.script role) (left role) (image_by (side world.scene role).log) (images_left world events ends well role)

    module _ (lists : Role → List Entry) (held : LeavesLists world lists) where
      same : (role : Role) → left role ≡ lists role
      same role = (one_list (image_by (side world.scene role).log) (header_of world.script role) (header_of world.script role) (left role) (lists role) (images_left world events ends well role) (held role)).1

      same_by : (role : Role) → by_role (left Supplier) (left Receiver) role ≡ lists role
      same_by Supplier = same Supplier
      same_by Receiver = same Receiver

    finished : Finishes most events world ends
    finished = record {
      well = well;
      complete = both_complete id other_id own theirs plays.supplier_entries plays.receiver_entries ends.last ends.standing plays.played;
      spends = session_spends id other_id own theirs plays.supplier_entries plays.receiver_entries plays.played.first plays.played.more plays.played.new (ids_of world played).0 (ids_of world played).1 played.bases (All-nil IsBase)
          heal.backed plays.played.session most few.blocks;
      settled = λ lists held. images_settled world events ends well one_list (ids_of world played).0 (ids_of world played).1 played.bases heal.backed lists held;
      talks = λ right lists held.
          follows_so (by_role own theirs) (by_role plays.supplier_entries plays.receiver_entries) (by_role (left Supplier) (left Receiver)) lists (same_by lists held)
          (session_talks id other_id own theirs plays.supplier_entries plays.receiver_entries plays.played.first plays.played.more plays.played.new (ids_of world played).0 (ids_of world played).1 right.handheld right.receiver
          heal.backed plays.played.session (left_few Supplier) (left_few Receiver) (ignores Supplier) (ignores Receiver) right.apart);
      finals = λ right never their_never lists held number some.
          subst (λ (l : List Entry). IsFinalInBoth number l (lists Receiver)) (same lists held Supplier) (subst (λ (l : List Entry). IsFinalInBoth number (left Supplier) l) (same lists held Receiver)
          (all_settled id other_id own theirs plays.supplier_entries plays.receiver_entries plays.played.first plays.played.more plays.played.new (ids_of world played).0 (ids_of world played).1 right.handheld right.receiver
          heal.backed plays.played.session (left_few Supplier) (left_few Receiver) never their_never number (subst (λ (l : List Entry). 1 ≤ sets_in number l) (sym (same lists held Supplier)) some)));
    }

  pub finishes_lists : (events : List Event) (most : ℕ) → HasCleanEnd world.script events → FinishesIfForetold most events world
  finishes_lists events most e =
      let ends = ends_in_clean world played e.match events e.last in
      record {
        ends = ends;
        finishes = λ told.
            let well = ends.foreseen most told.foreseen in
            let plays = ends.clean well in
            finished events most ends well
            (heals_unless one_list world played e.match events e.unheard e.last played.bases well (told.apart plays.supplier_entries plays.receiver_entries plays.supplier_opens plays.receiver_opens))
            (told.foreseen.few plays.supplier_entries plays.receiver_entries plays.supplier_opens plays.receiver_opens);
      }

  -- ---- from two empty journals

  empty_few : (most : ℕ) (s r : List Entry) → s ≡ [] → r ≡ [] → AreFew most id other_id own theirs [] [] → AreFew most id other_id own theirs s r
  empty_few most s r none nothing few =
      subst (λ (l : List Entry). AreFew most id other_id own theirs l r) (sym none) (subst (λ (l : List Entry). AreFew most id other_id own theirs [] l) (sym nothing) few)

  pub finishes_nothing : (most : ℕ) → HasCleanEnd world.script [] → FinishesFromNothing most world
  finishes_nothing most e =
      let ends = ends_in_clean world played e.match [] e.last in
      let nothing = opens_nothing one_list world played e.match [] e.unheard e.last refl in
      record {
        ends = ends;
        finishes = λ few.
            let well = ends.foreseen most (record {
              spared = spares_script [] tt (first_scene ends.handheld ends.receiver) (steps_of ends.before) ends.between ends.obeys (unarmed_first ends.handheld ends.receiver (ends.unarmed Supplier) (ends.unarmed Receiver));
              few = λ s r opens their_opens. empty_few most s r (nothing Supplier s opens) (nothing Receiver r their_opens) few;
            }) in
            let plays = ends.clean well in
            let none : plays.supplier_entries ≡ [] = nothing Supplier plays.supplier_entries plays.supplier_opens in
            let none_there : plays.receiver_entries ≡ [] = nothing Receiver plays.receiver_entries plays.receiver_opens in
            finished [] most ends well
            (heals_unless one_list world played e.match [] e.unheard e.last played.bases well
            (apart_empty one_list world played e.match [] e.unheard e.last plays.supplier_entries plays.receiver_entries none none_there))
            (empty_few most plays.supplier_entries plays.receiver_entries none none_there few);
      }
