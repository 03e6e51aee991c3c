-- Polls one after the other: they join, they part, and what they add is chosen or lent.
use Rattle.std.proofs.Common.{◌≡◌, ℕ, Bool, true, false, List, [], ◌∷◌, ◌++◌, Option, Some, None, refl, sym, ◌∙◌, ap, subst, append_assoc, append-nil}
use Rattle.std.specs.Prelude.{Contains}
use Rattle.dex_line.specs.FrameShapes.{FrameShape}
use Rattle.dex_line.specs.Scanning.{quieted}
use Rattle.dex_handshake.specs.LineTable.{Line, Ready, Bidding, Awaiting, SentAll, InText, Finished, Ended, hears}
use Rattle.dsd_record.specs.Choices.{Chooser}
use Rattle.dsd_station.specs.declared.call.Reception.{Reception}
use Rattle.dsd_station.specs.declared.call.Reception.TheVariants.{Piece, Silence, Cut}
use Rattle.own_turn.specs.OwnTurn.{sets_lent}
use Rattle.dsd_end.specs.PollStep.{ActsAt, Along, Done, Hears, HearsBroken, HearsFrame, HearsFrames, HearsUnless, Next, PollsAt, joined, nothing, scanned, stepped}
use Rattle.dsd_end.specs.Standings.{Standing, has_ended, with_begun}
use Rattle.own_turn.specs.TurnsGrow.{IsGrown}
use Rattle.own_turn.proofs.TurnsGrowing.{grown_on, grown_same, turn_grows}

-- ---- joining

pub joined_on : (a b c : Done) → joined (joined a b) c ≡ joined a (joined b c)
joined_on a b c =
    ap (λ (said : List FrameShape). record { standing = c.standing; said = said; loads = (a.loads ++ b.loads) ++ c.loads }) (append_assoc a.said b.said c.said)
    ∙ ap (λ (loads : List (List ℕ)). record { standing = c.standing; said = a.said ++ (b.said ++ c.said); loads = loads }) (append_assoc a.loads b.loads c.loads)

pub joined_nothing : (a : Done) → joined a (nothing a.standing) ≡ a
joined_nothing a =
    ap (λ (said : List FrameShape). record { standing = a.standing; said = said; loads = a.loads ++ [] }) (append-nil a.said)
    ∙ ap (λ (loads : List (List ℕ)). record { standing = a.standing; said = a.said; loads = loads }) (append-nil a.loads)

-- some polls, and then others
pub along_more : (chooser : Chooser) (standing : Standing) (one more : List (Option Reception)) (first rest : Done) → Along chooser standing one first
    → Along chooser first.standing more rest → Along chooser standing (one ++ more) (joined first rest)
along_more chooser standing [] more first rest e b =
    subst (λ (d : Done). Along chooser standing more (joined d rest)) (sym e) (subst (λ (d : Done). Along chooser d.standing more rest) e b)
along_more chooser standing (poll ∷ one) more first rest (now, later, step, on, e) b =
    let there : Along chooser later.standing more rest = subst (λ (d : Done). Along chooser d.standing more rest) e b in
    (now, joined later rest, step, along_more chooser now.standing one more later rest on there, ap (λ (d : Done). joined d rest) e ∙ joined_on now later rest)

-- and they part again
pub along_parts : (chooser : Chooser) (standing : Standing) (one more : List (Option Reception)) (done : Done) → Along chooser standing (one ++ more) done
    → (first : Done) × (rest : Done) × Along chooser standing one first × Along chooser first.standing more rest × (done ≡ joined first rest)
along_parts chooser standing [] more done a = (nothing standing, done, refl, a, refl)
along_parts chooser standing (poll ∷ one) more done (now, later, step, on, e) =
    let (first, rest, a, b, f) = along_parts chooser now.standing one more later on in
    (joined now first, rest, (now, first, step, a, refl), b, e ∙ ap (joined now) f ∙ sym (joined_on now first rest))

-- ---- what is added

-- the header stays, no fault comes, and entries are added that are chosen or have P
pub record Goes (chooser : Chooser) (P : List ℕ → Type 0) (old new : Standing) : Type 0 where
  pub header : new.header ≡ old.header
  pub failed : new.failed ≡ old.failed
  pub first : old.first ≡ false → new.first ≡ false
  pub grown : IsGrown old.header.role chooser P old.desk.entries new.desk.entries

module _ (chooser : Chooser) (P : List ℕ → Type 0) (lends : (text set : List ℕ) → Contains (sets_lent text) set → P set) where
  goes_same : (old new : Standing) → new.header ≡ old.header → new.failed ≡ old.failed → new.desk.entries ≡ old.desk.entries → (old.first ≡ false → new.first ≡ false)
      → Goes chooser P old new
  goes_same old new h f e first = record { header = h; failed = f; first = first; grown = grown_same old.header.role chooser P old.desk.entries new.desk.entries e }

  goes_on : (a b c : Standing) → Goes chooser P a b → Goes chooser P b c → Goes chooser P a c
  goes_on a b c g h = record {
    header = h.header ∙ g.header;
    failed = h.failed ∙ g.failed;
    first = λ f. h.first (g.first f);
    grown = grown_on a.header.role chooser P a.desk.entries b.desk.entries c.desk.entries g.grown
        (subst (λ header. IsGrown header.role chooser P b.desk.entries c.desk.entries) g.header h.grown);
  }

  goes_as : (old : Standing) (done done' : Done) → done ≡ done' → Goes chooser P old done'.standing → Goes chooser P old done.standing
  goes_as old done done' e g = subst (λ (d : Done). Goes chooser P old d.standing) (sym e) g

  acts_go : (standing : Standing) (line : Line) (done : Done) → ActsAt chooser standing line done → Goes chooser P standing done.standing
  acts_go standing (Finished own text) done (desk, load, turn, e) = goes_as standing done _ e (record {
    header = refl;
    failed = refl;
    first = λ f. f;
    grown = turn_grows P standing.header chooser standing.desk desk text load (lends text) turn;
  })
  acts_go standing (Ready own) done e = goes_as standing done _ e (goes_same standing standing refl refl refl (λ f. f))
  acts_go standing (Bidding own load) done e = goes_as standing done _ e (goes_same standing standing refl refl refl (λ f. f))
  acts_go standing (Awaiting own sending) done e = goes_as standing done _ e (goes_same standing standing refl refl refl (λ f. f))
  acts_go standing (SentAll own) done e = goes_as standing done _ e (goes_same standing standing refl refl refl (λ f. f))
  acts_go standing (InText own taking) done e = goes_as standing done _ e (goes_same standing standing refl refl refl (λ f. f))
  acts_go standing (Ended end) done e = goes_as standing done _ e (goes_same standing standing refl refl refl (λ f. f))

  frame_goes : (standing : Standing) (frame : FrameShape) (done : Done) → HearsFrame chooser standing frame done → Goes chooser P standing done.standing
  frame_goes standing frame done (turn, acts, e) =
      let step = stepped standing (hears standing.line frame) in
      goes_as standing done (joined step turn) e
      (goes_on standing step.standing turn.standing (goes_same standing step.standing refl refl refl (λ f. f)) (acts_go step.standing step.standing.line turn acts))

  frames_go : (standing : Standing) (frames : List FrameShape) (done : Done) → HearsFrames chooser standing frames done → Goes chooser P standing done.standing
  frames_go standing [] done e = goes_as standing done _ e (goes_same standing standing refl refl refl (λ f. f))
  frames_go standing (frame ∷ frames) done (one, rest, h, hs, e) =
      goes_as standing done (joined one rest) e (goes_on standing one.standing rest.standing (frame_goes standing frame one h) (frames_go one.standing frames rest hs))

  broken_goes : (standing : Standing) (frame : Option FrameShape) (done : Done) → HearsBroken chooser standing frame done → Goes chooser P standing done.standing
  broken_goes standing None done e = goes_as standing done _ e (goes_same standing standing refl refl refl (λ f. f))
  broken_goes standing (Some frame) done h = frame_goes standing frame done h

  hears_go : (standing : Standing) (reception : Reception) (done : Done) → Hears chooser standing reception done → Goes chooser P standing done.standing
  hears_go standing (Piece bytes) done (frames, hs, e) =
      let clear = with_begun standing [] in
      goes_as standing done _ e (goes_on standing frames.standing _
      (goes_on standing clear frames.standing (goes_same standing clear refl refl refl (λ f. f)) (frames_go clear (scanned standing bytes).shapes frames hs))
      (goes_same frames.standing _ refl refl refl (λ f. f)))
  hears_go standing Silence done (broken, h, e) =
      let clear = with_begun standing [] in
      goes_as standing done _ e (goes_on standing broken.standing _
      (goes_on standing clear broken.standing (goes_same standing clear refl refl refl (λ f. f)) (broken_goes clear (quieted standing.begun) broken h))
      (goes_same broken.standing _ refl refl refl (λ f. f)))
  hears_go standing Cut done e = goes_as standing done _ e (goes_same standing _ refl refl refl (λ f. f))

  pub unless_goes : (ended : Bool) (standing : Standing) (reception : Reception) (done : Done) → HearsUnless ended chooser standing reception done → Goes chooser P standing done.standing
  unless_goes true standing reception done e = goes_as standing done _ e (goes_same standing standing refl refl refl (λ f. f))
  unless_goes false standing reception done h = hears_go standing reception done h

  polls_go : (first : Bool) (standing : Standing) (reception : Option Reception) (done : Done) → PollsAt first chooser standing reception done → Goes chooser P standing done.standing
  polls_go true standing None done e = goes_as standing done _ e (goes_same standing _ refl refl refl (λ f. refl))
  polls_go true standing (Some reception) done h = absurd h
  polls_go false standing None done h = absurd h
  polls_go false standing (Some reception) done h = unless_goes (has_ended standing.line) standing reception done h

  pub next_goes : (standing : Standing) (reception : Option Reception) (done : Done) → Next chooser standing reception done → Goes chooser P standing done.standing
  next_goes standing reception done n = polls_go standing.first standing reception done n.polls

  pub along_goes : (standing : Standing) (polls : List (Option Reception)) (done : Done) → Along chooser standing polls done → Goes chooser P standing done.standing
  along_goes standing [] done e = goes_as standing done _ e (goes_same standing standing refl refl refl (λ f. f))
  along_goes standing (poll ∷ polls) done (one, rest, step, on, e) =
      goes_as standing done (joined one rest) e (goes_on standing one.standing rest.standing (next_goes standing poll one step) (along_goes one.standing polls rest on))
