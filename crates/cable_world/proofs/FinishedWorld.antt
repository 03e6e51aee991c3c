-- A world of which the report was made is as it was played.
use Rattle.std.proofs.Common.{◌≡◌, ℕ, List, [], refl, sym, ◌∙◌, ap, subst, None}
use Rattle.std.specs.List.{All}
use Rattle.dsd_values.specs.declared.role.Role.{Role}
use Rattle.base_record_894.specs.RecordText.{IsBase}
use Rattle.dsd_values.specs.declared.role.Role.TheVariants.{Receiver, Supplier}
use Rattle.dsd_station.specs.Logged.{Log, image_by}
use Rattle.dsd_journal.specs.JournalImage.{Holds}
use Rattle.dsd_station.specs.Replayed.{state_of}
use Rattle.delivery_book.specs.Books.{BookView}
use Rattle.dsd_end.specs.Lives.{last_list}
use Rattle.dsd_end.specs.Runs.{Run}
use Rattle.dsd_end.proofs.Growing.{last_legal}
use Rattle.cable_world.specs.Finishing.{Finishes, HoldsBook, IsOver}
use Rattle.cable_world.specs.Diligence.{ComesBy}
use Rattle.cable_world.specs.Holding.{HoldsLast}
use Rattle.cable_world.specs.Leaving.{IsBegun}
use Rattle.cable_world.specs.Living.{AreRunsOf, CallSo, HasNoHear, parts_of}
use Rattle.cable_world.specs.Noted.{Noted, steps_of}
use Rattle.cable_world.specs.Obeying.{Obeys, first_scene}
use Rattle.cable_world.specs.Scenes.{side}
use Rattle.cable_world.specs.WorldInside.{world_of}
use Rattle.cable_world.specs.WorldReports.{IsLeftWith, IsReportOf}
use Rattle.cable_world.specs.Worlds.{HasPlayed, IsFormatted, IsLifeIn, IsTold, StandsAt, WorldView, chooser_of, header_of, refused_by}
use Rattle.cable_world.specs.declared.cable.Cable.{Cable}
use Rattle.cable_world.specs.declared.events.Events.{Events}
use Rattle.cable_world.specs.declared.script.Script.{Script}
use Rattle.cable_world.specs.declared.setting.Setting.{Setting}
use Rattle.cable_world.specs.declared.stage.Stage.{Stage}
use Rattle.cable_world.specs.declared.stage.Stage.TheVariants as stages
use Rattle.cable_world.specs.declared.world_report.WorldReport.{WorldReport}

pub played_at : (stage : Stage) (world : WorldView) → stage ≡ stages.Played → StandsAt stage world → HasPlayed world
played_at stage world is stands = subst (λ (s : Stage). StandsAt s world) is stands

-- what the steps tell of an end, where script, steps and its refused sets stay
told_left : (world left : WorldView) (role : Role) (first : Log) → left.script ≡ world.script → left.noted ≡ world.noted → refused_by left role ≡ refused_by world role
    → image_by (side left.scene role).log ≡ image_by (side world.scene role).log → IsTold world role first → IsTold left role first
told_left world left role first script noted refused image t = record {
  begun = subst (λ (s : Script). IsBegun role (header_of s role) first (steps_of left.noted)) (sym script) (subst (λ (n : List Noted). IsBegun role (header_of world.script role) first (steps_of n)) (sym noted) t.begun);
  last = t.last;
  diligent = subst (λ (s : Script). ComesBy role (chooser_of s role) (header_of s role) (state_of first.calls) None left.noted t.last) (sym script)
      (subst (λ (n : List Noted). ComesBy role (chooser_of world.script role) (header_of world.script role) (state_of first.calls) None n t.last) (sym noted) t.diligent);
  refused = t.refused ∙ sym refused;
  holds = subst (λ (s : Script). HoldsLast (header_of s role) t.last (image_by (side left.scene role).log)) (sym script) (subst (λ (b : List ℕ). HoldsLast (header_of world.script role) t.last b) (sym image) t.holds);
}

life_left : (world left : WorldView) (role : Role) (runs : List Run) → left.script ≡ world.script → left.noted ≡ world.noted → image_by (side left.scene role).log ≡ image_by (side world.scene role).log → IsLifeIn world role runs → IsLifeIn left role runs
life_left world left role runs script noted image l = record {
  are = subst (λ (n : List Noted). AreRunsOf (parts_of role (steps_of n)).runs runs) (sym noted) l.are;
  life = l.life;
  holds = subst (λ (s : Script). Holds (header_of s role) (last_list runs) (image_by (side left.scene role).log)) (sym script) (subst (λ (b : List ℕ). Holds (header_of world.script role) (last_list runs) b) (sym image) l.holds);
}

-- it is told by the script, the steps, how many sets were refused, and the images
played_left : (world left : WorldView) → left.script ≡ world.script → left.noted ≡ world.noted → image_by left.scene.supplier.log ≡ image_by world.scene.supplier.log → image_by left.scene.receiver.log ≡ image_by world.scene.receiver.log
    → left.handheld_refused ≡ world.handheld_refused → left.receiver_refused ≡ world.receiver_refused → HasPlayed world → HasPlayed left
played_left world left script noted its those handheld_refused receiver_refused p = record {
  handheld = p.handheld;
  receiver = p.receiver;
  handheld_is = subst (λ (s : Script). IsFormatted (header_of s Supplier) p.handheld) (sym script) p.handheld_is;
  receiver_is = subst (λ (s : Script). IsFormatted (header_of s Receiver) p.receiver) (sym script) p.receiver_is;
  last = p.last;
  obeys = subst (λ (s : Script). Obeys s.events (first_scene p.handheld p.receiver) (steps_of left.noted) p.last) (sym script)
      (subst (λ (n : List Noted). Obeys world.script.events (first_scene p.handheld p.receiver) (steps_of n) p.last) (sym noted) p.obeys);
  calls = subst (λ (n : List Noted). CallSo (steps_of n)) (sym noted) p.calls;
  handheld_told = told_left world left Supplier p.handheld script noted handheld_refused its p.handheld_told;
  receiver_told = told_left world left Receiver p.receiver script noted receiver_refused those p.receiver_told;
  lives = record {
    handheld = p.lives.handheld;
    receiver = p.lives.receiver;
    handheld_is = life_left world left Supplier p.lives.handheld script noted its p.lives.handheld_is;
    receiver_is = life_left world left Receiver p.lives.receiver script noted those p.lives.receiver_is;
    honest = λ free. p.lives.honest (subst (λ (s : Script). HasNoHear s.events) script free);
    agree = p.lives.agree;
  };
  bases = subst (λ (s : Script). All IsBase (chooser_of s Supplier).drafts) (sym script) p.bases;
  handheld_image = its ∙ p.handheld_image;
  receiver_image = those ∙ p.receiver_image;
}

abbrev pub world_at : Cable → Events → Stage → WorldView
world_at cable events stage = world_of (record { cable = cable; events = events; stage = stage })

pub script_stays : (old new : Cable) (events : Events) (stage later : Stage) → new.setting ≡ old.setting → (world_at new events later).script ≡ (world_at old events stage).script
script_stays old new events stage later setting = ap (λ (s : Setting). record { ends = s.ends; drafts = s.drafts; counts = s.counts; events = events }) setting

pub played_stays : (report : WorldReport) (old new : Cable) (events : Events) (stage later : Stage) → Finishes report old new → HasPlayed (world_at old events stage) → HasPlayed (world_at new events later)
played_stays report old new events stage later f played =
    played_left (world_at old events stage) (world_at new events later) (script_stays old new events stage later f.setting) f.noted f.handheld_image f.receiver_image
    f.handheld_refused f.receiver_refused played

-- a life leaves the journal of its end, with legal entries
book_left : (world : WorldView) (role : Role) (runs : List Run) → IsLifeIn world role runs → HoldsBook role (image_by (side world.scene role).log)
book_left world role runs is = record {
  header = header_of world.script role;
  entries = last_list runs;
  own = own role;
  holds = is.holds;
  legal = last_legal role [] runs tt is.life;
}
  where
    own : (role : Role) → (header_of world.script role).role ≡ role
    own Supplier = refl
    own Receiver = refl

pub handheld_book : (world : WorldView) → HasPlayed world → HoldsBook Supplier (image_by world.scene.supplier.log)
handheld_book world played = book_left world Supplier played.lives.handheld played.lives.handheld_is

pub receiver_book : (world : WorldView) → HasPlayed world → HoldsBook Receiver (image_by world.scene.receiver.log)
receiver_book world played = book_left world Receiver played.lives.receiver played.lives.receiver_is

left_with : (world : WorldView) (role : Role) (book : BookView) (image : List ℕ) → image ≡ image_by (side world.scene role).log → IsOver role image book → IsLeftWith world role book.known
left_with world role book image same over = record {
  header = book.header;
  own = over.own;
  holds = subst (λ (l : List ℕ). Holds book.header book.known l) same over.holds;
  legal = over.legal;
}

pub report_of : (report : WorldReport) (old new : Cable) (events : Events) (later : Stage) → Finishes report old new → IsReportOf (world_at new events later) report
report_of report old new events later f =
    let left = world_at new events later in
    record {
      handheld = f.handheld.known;
      receiver = f.receiver.known;
      handheld_left = left_with left Supplier f.handheld (image_by old.handheld.log) (sym f.handheld_image) f.handheld_over;
      receiver_left = left_with left Receiver f.receiver (image_by old.receiver.log) (sym f.receiver_image) f.receiver_over;
      lines = f.tells.lines;
      all_final = f.tells.all_final;
      counted = f.tells.counted;
    }
