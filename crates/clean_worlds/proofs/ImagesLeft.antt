-- What the images hold behind a clean event.
use Rattle.std.proofs.Common.{◌≡◌, ◌⊎◌, inl, inr, ℕ, Bool, true, false, List, [], ◌∷◌, Option, Some, refl, sym, ◌∙◌, ap, subst}
use Rattle.std.specs.Prelude.{All}
use Rattle.std.proofs.lemmas.List.Elements.{All-nil}
use Rattle.dsd_values.specs.declared.role.Role.{Role}
use Rattle.dsd_values.specs.declared.role.Role.TheVariants.{Receiver, Supplier}
use Rattle.base_record_894.specs.RecordText.{IsBase}
use Rattle.dsd_record.specs.Choices.{Chooser}
use Rattle.dsd_station.specs.Logged.{image_by}
use Rattle.dsd_journal.specs.Headers.{IsId}
use Rattle.dsd_journal.specs.declared.entry.Entry.{Entry}
use Rattle.dsd_journal.specs.declared.header.Header.{Header}
use Rattle.dsd_end.specs.Standings.{Standing}
use Rattle.clean_sessions.specs.Declining.{HasAnswered}
use Rattle.clean_sessions.specs.DeliveryStands.{AreBacked}
use Rattle.clean_sessions.specs.Halls.{Hall, Post}
use Rattle.clean_sessions.specs.Sessions.{Spoken, post_behind}
use Rattle.clean_sessions.specs.Settled.{IsSettled}
use Rattle.clean_sessions.proofs.SessionsSettled.{session_settled}
use Rattle.cable_world.specs.Noted.{steps_of}
use Rattle.cable_world.specs.Progressing.{OneList}
use Rattle.cable_world.specs.Scenes.{Scene, side}
use Rattle.cable_world.specs.Worlds.{WorldView, chooser_of, header_of}
use Rattle.cable_world.specs.declared.event.Event.{Event}
use Rattle.clean_worlds.specs.CleanBeginnings.{PlaysClean}
use Rattle.clean_worlds.specs.CleanPlays.{choosers, headers}
use Rattle.clean_worlds.specs.CleanWorlds.{EndsInClean, come_to}
use Rattle.clean_worlds.specs.LeftLists.{AreSettledLists, LeavesLists, entries_left}
use Rattle.clean_worlds.specs.WholeFrames.{GoWell}
use Rattle.clean_worlds.specs.WorldHalls.{ShowsHall}
use Rattle.clean_worlds.proofs.HeadersKept.{session_headers}

-- ---- both ends of a hall

near_or_far : (own : Bool) (more : List Spoken) (new : Hall) → (post_behind own more new ≡ new.near) ⊎ (post_behind own more new ≡ new.far)
near_or_far true [] new = inl refl
near_or_far false [] new = inr refl
near_or_far true (spoken ∷ more) new = near_or_far false more new
near_or_far false (spoken ∷ more) new = near_or_far true more new

role_by : (id other_id : List ℕ) (role at : Role) → headers id other_id role ≡ headers id other_id at → role ≡ at
role_by id other_id Supplier Supplier same = refl
role_by id other_id Supplier Receiver same = let no : Supplier ≡ Receiver = ap (λ (h : Header). h.role) same in absurd (cc)
role_by id other_id Receiver Supplier same = let no : Receiver ≡ Supplier = ap (λ (h : Header). h.role) same in absurd (cc)
role_by id other_id Receiver Receiver same = refl

module _ (id other_id : List ℕ) (chooser : Role → Chooser) (near far : Role) (new : Hall) (scene : Scene) (standing : Role → Option Standing) (shows : ShowsHall chooser (headers id other_id) near far new scene standing) where
  at_post : (role at : Role) (post its : Post) → post ≡ its → post.standing.header ≡ headers id other_id role → its.standing.header ≡ headers id other_id at → standing at ≡ Some its.standing
      → standing role ≡ Some post.standing
  at_post role at post its is header titled stands =
      let same : role ≡ at = role_by id other_id role at (sym header ∙ ap (λ (p : Post). p.standing.header) is ∙ titled) in
      ap standing same ∙ stands ∙ sym (ap (λ (p : Post). Some p.standing) is)

  stands_at : (own : Bool) (more : List Spoken) (role : Role) → (post_behind own more new).standing.header ≡ headers id other_id role → standing role ≡ Some (post_behind own more new).standing
  stands_at own more role header = go (near_or_far own more new)
    where
      go : (post_behind own more new ≡ new.near) ⊎ (post_behind own more new ≡ new.far) → standing role ≡ Some (post_behind own more new).standing
      go (inl is) = at_post role near (post_behind own more new) new.near is header shows.near_attends.titled shows.near_stands
      go (inr is) = at_post role far (post_behind own more new) new.far is header shows.far_attends.titled shows.far_stands

-- ---- the images

module _ (world : WorldView) (events : List Event) (ends : EndsInClean events world) (well : GoWell ends.behind) where
  abbrev plays : PlaysClean world.script.ends.handheld.own world.script.ends.handheld.peer (chooser_of world.script Supplier) (chooser_of world.script Receiver) (come_to ends.handheld ends.receiver ends.before) (steps_of ends.behind) ends.last
      ends.standing
  plays = ends.clean well

  abbrev left : Role → List Entry
  left = entries_left plays.played.more plays.played.new

  whose : ((post_behind true plays.played.more plays.played.new).standing.header ≡ headers world.script.ends.handheld.own world.script.ends.handheld.peer Supplier)
      × ((post_behind false plays.played.more plays.played.new).standing.header ≡ headers world.script.ends.handheld.own world.script.ends.handheld.peer Receiver)
  whose =
      session_headers world.script.ends.handheld.own world.script.ends.handheld.peer (chooser_of world.script Supplier) (chooser_of world.script Receiver) plays.supplier_entries plays.receiver_entries plays.played.first plays.played.more plays.played.new
      plays.played.session

  stands : (own : Bool) (role : Role) → (post_behind own plays.played.more plays.played.new).standing.header ≡ headers world.script.ends.handheld.own world.script.ends.handheld.peer role
      → ends.standing role ≡ Some (post_behind own plays.played.more plays.played.new).standing
  stands own role header =
      stands_at world.script.ends.handheld.own world.script.ends.handheld.peer (choosers (chooser_of world.script Supplier) (chooser_of world.script Receiver)) plays.played.near plays.played.far plays.played.new ends.last ends.standing plays.played.shows own plays.played.more role header

  pub images_left : LeavesLists world left
  images_left Supplier = ends.holds well Supplier (post_behind true plays.played.more plays.played.new).standing (stands true Supplier whose.0)
  images_left Receiver = ends.holds well Receiver (post_behind false plays.played.more plays.played.new).standing (stands false Receiver whose.1)

  module _ (one_list : OneList) (is : IsId world.script.ends.handheld.own) (others : IsId world.script.ends.handheld.peer) (drafts : All IsBase (chooser_of world.script Supplier).drafts)
      (backed : AreBacked Supplier plays.supplier_entries plays.receiver_entries) (lists : Role → List Entry) (held : LeavesLists world lists) where
    same : (role : Role) → left role ≡ lists role
    same role = (one_list (image_by (side world.scene role).log) (header_of world.script role) (header_of world.script role) (left role) (lists role) (images_left role) (held role)).1

    pub images_settled : AreSettledLists world.script lists
    images_settled =
        let s = session_settled world.script.ends.handheld.own world.script.ends.handheld.peer (chooser_of world.script Supplier) (chooser_of world.script Receiver) plays.supplier_entries plays.receiver_entries plays.played.first plays.played.more
        plays.played.new is others drafts (All-nil IsBase) backed plays.played.session in
        record {
          settled = λ number.
              subst (λ (l : List Entry). IsSettled number l (lists Receiver)) (same Supplier) (subst (λ (l : List Entry). IsSettled number (left Supplier) l) (same Receiver) (s.settled number));
          answered = go s.answered s.their_answered;
        }
      where
        go : HasAnswered Supplier (chooser_of world.script Supplier) (left Supplier) → HasAnswered Receiver (chooser_of world.script Receiver) (left Receiver) → (role : Role) → HasAnswered role (chooser_of world.script role) (lists role)
        go own theirs Supplier = subst (HasAnswered Supplier (chooser_of world.script Supplier)) (same Supplier) own
        go own theirs Receiver = subst (HasAnswered Receiver (chooser_of world.script Receiver)) (same Receiver) theirs
