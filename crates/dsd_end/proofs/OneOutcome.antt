-- A poll has one outcome: what an own turn signs, takes and gives is fixed by what is before it.
use Rattle.std.proofs.Common.{◌≡◌, ℕ, Bool, true, false, List, [], ◌∷◌, Option, Some, None, Result, Ok, length, sym, ◌∙◌, ap, ap₂, subst, inl, inr}
use Rattle.dsd_values.specs.SignatureRecord.{SignatureRecord}
use Rattle.dsd_values.specs.declared.line.Line.{Line}
use Rattle.dsd_values.specs.declared.role.Role.{Role}
use Rattle.dsd_pricing.specs.declared.amounts.Totals.{Totals}
use Rattle.base_record_894.specs.BaseRecord.{BaseRecord}
use Rattle.base_record_894.specs.WrittenText.{written_of as base_written}
use Rattle.adjustment_895.specs.WrittenText.{written_of as answer_written}
use Rattle.dex_line.specs.FrameShapes.{FrameShape}
use Rattle.dex_line.specs.Scanning.{quieted}
use Rattle.dex_handshake.specs.LineTable.{Line as LineState, Ready, Bidding, Awaiting, SentAll, InText, Finished, Ended, hears, quiets}
use Rattle.dsd_record.specs.ChangedPrice.{price_with}
use Rattle.dsd_record.specs.Choices.{Chooser}
use Rattle.dsd_record.specs.Version.{Version}
use Rattle.dsd_record.specs.declared.choice.Choice.{Choice}
use Rattle.dsd_record.specs.declared.choice.Choice.TheVariants.{Accept, Adjust, Wait}
use Rattle.dsd_station.specs.declared.call.Reception.{Reception}
use Rattle.dsd_station.specs.declared.call.Reception.TheVariants.{Piece, Silence, Cut}
use Rattle.dsd_journal.specs.declared.entry.Entry.{Entry}
use Rattle.dsd_journal.specs.declared.header.Header.{Header}
use Rattle.delivery_book.specs.Answering.{IsAcceptance, IsAdjustment, answer_to}
use Rattle.delivery_book.specs.Lookups.{own_amount}
use Rattle.delivery_book.specs.Signing.{next_control}
use Rattle.own_turn.specs.Choosing.{AnswersBy, ChoosesAnswer, ChoosesDraft}
use Rattle.own_turn.specs.DueSets.{DueSet}
use Rattle.own_turn.specs.OwnTurn.{Answers, AnswersEach, Desk, InTurn, IsLoad, Proposes, ProposesEach, Takes, TakesSet, Turned, awaiting, gathered, is_acceptance, lent, next_turn, sets_lent, spoken, with_fault, with_signature}
use Rattle.dsd_end.specs.PollStep.{ActsAt, Done, Hears, HearsBroken, HearsFrame, HearsFrames, HearsUnless, Next, PollsAt, behind_piece, gave, joined, scanned, stepped}
use Rattle.dsd_end.specs.Standings.{Standing, has_ended, with_begun}

some_same : {X : Type 0} (x y : X) → Some x ≡ Some y → x ≡ y
some_same x y e = cc

ok_same : {X E : Type 0} (x y : X) (r : Result X E) → r ≡ Ok x → r ≡ Ok y → x ≡ y
ok_same x y r e f = cc

-- ---- one answer

module _ (role : Role) (entries : List Entry) (number : List ℕ) (signature : SignatureRecord) (text text' : List ℕ) where
  one_acceptance : IsAcceptance role entries number signature text → IsAcceptance role entries number signature text' → text ≡ text'
  one_acceptance a b =
      let version : a.version ≡ b.version = some_same a.version b.version (sym a.seen ∙ b.seen) in
      ok_same text text' (answer_written (answer_to role a.version [] a.version.totals signature) (next_control entries)) a.written
      (ap (λ (v : Version). answer_written (answer_to role v [] v.totals signature) (next_control entries)) version ∙ b.written)

  one_adjustment : (changes : List Line) → IsAdjustment role entries number changes signature text → IsAdjustment role entries number changes signature text' → text ≡ text'
  one_adjustment changes a b =
      let version : a.version ≡ b.version = some_same a.version b.version (sym a.seen ∙ b.seen) in
      let totals : a.totals ≡ b.totals = ok_same a.totals b.totals (price_with a.version changes) a.price (ap (λ (v : Version). price_with v changes) version ∙ b.price) in
      ok_same text text' (answer_written (answer_to role a.version changes a.totals signature) (next_control entries)) a.written
      (ap₂ (λ (v : Version) (t : Totals). answer_written (answer_to role v changes t signature) (next_control entries)) version totals ∙ b.written)

  one_by : (choice : Choice) → AnswersBy choice role entries number signature text → AnswersBy choice role entries number signature text' → text ≡ text'
  one_by Accept a b = one_acceptance a b
  one_by (Adjust []) a b = absurd a
  one_by (Adjust (line ∷ lines)) a b = one_adjustment (line ∷ lines) a b
  one_by Wait a b = absurd a

one_answer : (role : Role) (chooser : Chooser) (entries : List Entry) (number text text' : List ℕ) (a : ChoosesAnswer role chooser entries number text) (b : ChoosesAnswer role chooser entries number text')
    → (a.version ≡ b.version) × (text ≡ text')
one_answer role chooser entries number text text' a b =
    let version : a.version ≡ b.version = some_same a.version b.version (sym a.seen ∙ b.seen) in
    let signature : a.signature ≡ b.signature = some_same a.signature b.signature (sym a.signs ∙ b.signs) in
    let other : AnswersBy (chooser.choice a.version (own_amount entries number)) role entries number a.signature text' =
    subst (λ (v : Version). AnswersBy (chooser.choice v (own_amount entries number)) role entries number a.signature text') (sym version)
    (subst (λ (s : SignatureRecord). AnswersBy (chooser.choice b.version (own_amount entries number)) role entries number s text') (sym signature) b.answers) in
    (version, one_by role entries number a.signature text text' (chooser.choice a.version (own_amount entries number)) a.answers other)

one_draft : (chooser : Chooser) (entries : List Entry) (draft : BaseRecord) (text text' : List ℕ) → ChoosesDraft chooser entries draft text → ChoosesDraft chooser entries draft text' → text ≡ text'
one_draft chooser entries draft text text' a b = ok_same text text' (base_written draft (next_control entries)) a.written b.written

-- ---- one turn

one_set : (role : Role) (text : List ℕ) (old new new' : Desk) → TakesSet role text old new → TakesSet role text old new' → new ≡ new'
one_set role text old new new' (inl (legal, e)) (inl (legal', f)) = e ∙ sym f
one_set role text old new new' (inl (legal, e)) (inr (none, f)) = absurd (none legal)
one_set role text old new new' (inr (none, e)) (inl (legal, f)) = absurd (none legal)
one_set role text old new new' (inr (none, e)) (inr (none', f)) = e ∙ sym f

sets_once : (role : Role) (texts : List (List ℕ)) (old new new' : Desk) → InTurn (TakesSet role) texts old new → InTurn (TakesSet role) texts old new' → new ≡ new'
sets_once role [] old new new' e f = e ∙ sym f
sets_once role (text ∷ texts) old new new' (next, step, more) (next', step', more') =
    let same : next' ≡ next = one_set role text old next' next step' step in
    sets_once role texts next new new' more (subst (λ (d : Desk). InTurn (TakesSet role) texts d new') same more')

one_taking : (role : Role) (text : List ℕ) (old new new' : Desk) → Takes role text old new → Takes role text old new' → new ≡ new'
one_taking role text old new new' (behind, h, e) (behind', h', f) =
    e ∙ ap (λ (d : Desk). with_fault d (lent text).fault) (sets_once role (sets_lent text) old behind behind' h h') ∙ sym f

one_answering : (role : Role) (chooser : Chooser) (number : List ℕ) (old new new' : Desk) → Answers role chooser number old new → Answers role chooser number old new' → new ≡ new'
one_answering role chooser number old new new' (inl (text, may, e)) (inl (text', may', f)) =
    let (version, same) = one_answer role chooser old.entries number text text' may.chosen may'.chosen in
    e ∙ ap₂ (λ (v : Version) (t : List ℕ). with_signature old number (is_acceptance chooser old.entries number v) t) version same ∙ sym f
one_answering role chooser number old new new' (inl (text, may, e)) (inr (none, f)) = absurd (none text may)
one_answering role chooser number old new new' (inr (none, e)) (inl (text, may, f)) = absurd (none text may)
one_answering role chooser number old new new' (inr (none, e)) (inr (none', f)) = e ∙ sym f

answers_once : (role : Role) (chooser : Chooser) (numbers : List (List ℕ)) (old new new' : Desk) → InTurn (Answers role chooser) numbers old new
    → InTurn (Answers role chooser) numbers old new' → new ≡ new'
answers_once role chooser [] old new new' e f = e ∙ sym f
answers_once role chooser (number ∷ numbers) old new new' (next, step, more) (next', step', more') =
    let same : next' ≡ next = one_answering role chooser number old next' next step' step in
    answers_once role chooser numbers next new new' more (subst (λ (d : Desk). InTurn (Answers role chooser) numbers d new') same more')

one_proposing : (role : Role) (chooser : Chooser) (draft : BaseRecord) (old new new' : Desk) → Proposes role chooser draft old new → Proposes role chooser draft old new' → new ≡ new'
one_proposing role chooser draft old new new' (inl (text, may, e)) (inl (text', may', f)) =
    e ∙ ap (with_signature old draft.number false) (one_draft chooser old.entries draft text text' may.chosen may'.chosen) ∙ sym f
one_proposing role chooser draft old new new' (inl (text, may, e)) (inr (none, f)) = absurd (none text may)
one_proposing role chooser draft old new new' (inr (none, e)) (inl (text, may, f)) = absurd (none text may)
one_proposing role chooser draft old new new' (inr (none, e)) (inr (none', f)) = e ∙ sym f

drafts_once : (role : Role) (chooser : Chooser) (drafts : List BaseRecord) (old new new' : Desk) → InTurn (Proposes role chooser) drafts old new
    → InTurn (Proposes role chooser) drafts old new' → new ≡ new'
drafts_once role chooser [] old new new' e f = e ∙ sym f
drafts_once role chooser (draft ∷ drafts) old new new' (next, step, more) (next', step', more') =
    let same : next' ≡ next = one_proposing role chooser draft old next' next step' step in
    drafts_once role chooser drafts next new new' more (subst (λ (d : Desk). InTurn (Proposes role chooser) drafts d new') same more')

one_load : (header : Header) (control : ℕ) (due : List DueSet) (load load' : List ℕ) → IsLoad header control due load → IsLoad header control due load' → load ≡ load'
one_load header control [] load load' e f = e ∙ sym f
one_load header control (set ∷ more) load load' s t = s.written ∙ sym t.written

pub one_turn : (header : Header) (chooser : Chooser) (old : Desk) (text : List ℕ) (new new' : Desk) (load load' : List ℕ) → Turned header chooser old text new load
    → Turned header chooser old text new' load' → (new ≡ new') × (load ≡ load')
one_turn header chooser old text new new' load load' t u =
    let role = header.role in
    let taken : u.taken ≡ t.taken = one_taking role text old u.taken t.taken u.takes t.takes in
    let answered : u.answered ≡ t.answered = answers_once role chooser (awaiting t.taken.entries) t.taken u.answered t.answered
    (subst (λ (d : Desk). AnswersEach role chooser d u.answered) taken u.answers) t.answers in
    let proposed : u.proposed ≡ t.proposed = drafts_once role chooser chooser.drafts t.answered u.proposed t.proposed
    (subst (λ (d : Desk). ProposesEach role chooser d u.proposed) answered u.proposes) t.proposes in (
      t.speaks ∙ ap (λ (d : Desk). spoken d (gathered header d)) (sym proposed) ∙ sym u.speaks,
      one_load header (next_turn t.proposed) (gathered header t.proposed) load load' t.loads
          (subst (λ (d : Desk). IsLoad header (next_turn d) (gathered header d) load') proposed u.loads),
    )

-- ---- one poll

acts_once : (chooser : Chooser) (standing : Standing) (line : LineState) (done done' : Done) → ActsAt chooser standing line done → ActsAt chooser standing line done' → done ≡ done'
acts_once chooser standing (Finished own text) done done' (desk, load, t, e) (desk', load', u, f) =
    let (same, loads) = one_turn standing.header chooser standing.desk text desk desk' load load' t u in
    e ∙ ap₂ (gave standing (Finished own text)) same loads ∙ sym f
acts_once chooser standing (Ready own) done done' e f = e ∙ sym f
acts_once chooser standing (Bidding own load) done done' e f = e ∙ sym f
acts_once chooser standing (Awaiting own sending) done done' e f = e ∙ sym f
acts_once chooser standing (SentAll own) done done' e f = e ∙ sym f
acts_once chooser standing (InText own taking) done done' e f = e ∙ sym f
acts_once chooser standing (Ended end) done done' e f = e ∙ sym f

frame_once : (chooser : Chooser) (standing : Standing) (frame : FrameShape) (done done' : Done) → HearsFrame chooser standing frame done → HearsFrame chooser standing frame done' → done ≡ done'
frame_once chooser standing frame done done' (turn, a, e) (turn', a', f) =
    let step = stepped standing (hears standing.line frame) in
    e ∙ ap (joined step) (acts_once chooser step.standing step.standing.line turn turn' a a') ∙ sym f

frames_once : (chooser : Chooser) (standing : Standing) (frames : List FrameShape) (done done' : Done) → HearsFrames chooser standing frames done
    → HearsFrames chooser standing frames done' → done ≡ done'
frames_once chooser standing [] done done' e f = e ∙ sym f
frames_once chooser standing (frame ∷ frames) done done' (one, rest, h, hs, e) (one', rest', h', hs', f) =
    let same : one' ≡ one = frame_once chooser standing frame one' one h' h in
    let more : rest' ≡ rest = frames_once chooser one.standing frames rest' rest (subst (λ (d : Done). HearsFrames chooser d.standing frames rest') same hs') hs in
    e ∙ ap₂ joined (sym same) (sym more) ∙ sym f

broken_once : (chooser : Chooser) (standing : Standing) (frame : Option FrameShape) (done done' : Done) → HearsBroken chooser standing frame done → HearsBroken chooser standing frame done' → done ≡ done'
broken_once chooser standing None done done' e f = e ∙ sym f
broken_once chooser standing (Some frame) done done' h h' = frame_once chooser standing frame done done' h h'

hears_once : (chooser : Chooser) (standing : Standing) (reception : Reception) (done done' : Done) → Hears chooser standing reception done → Hears chooser standing reception done' → done ≡ done'
hears_once chooser standing (Piece bytes) done done' (frames, h, e) (frames', h', f) =
    let same = frames_once chooser (with_begun standing []) (scanned standing bytes).shapes frames frames' h h' in
    e ∙ ap (λ (d : Done). (let r : Done = record d { standing = behind_piece d.standing (length bytes) (scanned standing bytes).begun } in r)) same ∙ sym f
hears_once chooser standing Silence done done' (broken, h, e) (broken', h', f) =
    let same = broken_once chooser (with_begun standing []) (quieted standing.begun) broken broken' h h' in
    e ∙ ap (λ (d : Done). joined d (stepped d.standing (quiets d.standing.line))) same ∙ sym f
hears_once chooser standing Cut done done' e f = e ∙ sym f

unless_once : (ended : Bool) (chooser : Chooser) (standing : Standing) (reception : Reception) (done done' : Done) → HearsUnless ended chooser standing reception done
    → HearsUnless ended chooser standing reception done' → done ≡ done'
unless_once true chooser standing reception done done' e f = e ∙ sym f
unless_once false chooser standing reception done done' h h' = hears_once chooser standing reception done done' h h'

polls_once : (first : Bool) (chooser : Chooser) (standing : Standing) (poll : Option Reception) (done done' : Done) → PollsAt first chooser standing poll done
    → PollsAt first chooser standing poll done' → done ≡ done'
polls_once true chooser standing None done done' e f = e ∙ sym f
polls_once true chooser standing (Some reception) done done' p q = absurd p
polls_once false chooser standing None done done' p q = absurd p
polls_once false chooser standing (Some reception) done done' p q = unless_once (has_ended standing.line) chooser standing reception done done' p q

pub next_once : (chooser : Chooser) (standing : Standing) (poll : Option Reception) (done done' : Done) → Next chooser standing poll done → Next chooser standing poll done' → done ≡ done'
next_once chooser standing poll done done' n m = polls_once standing.first chooser standing poll done done' n.polls m.polls
