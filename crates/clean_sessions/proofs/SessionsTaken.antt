-- Turn after turn, to the end of a clean session.
use Rattle.std.proofs.Common.{◌≡◌, ◌≤◌, ◌+◌, ◌*◌, ℕ, Bool, true, false, ◌&&◌, ◌==◌, List, [], ◌∷◌, ◌++◌, length, map, Option, Some, None, refl, sym, ◌∙◌, ap, subst, arith}
use Rattle.std.specs.Prelude.{All, ⊤, cond, if◌then◌else◌}
use Rattle.std.specs.List.{cons_option, filter_map}
use Rattle.std.specs.Option.{option_map}
use Rattle.std.proofs.lemmas.Bool.Decides.{nat_tests}
use Rattle.std.proofs.lemmas.List.Elements.{All-cons, All-nil}
use Rattle.dex_handshake.specs.LineRun.{load_of}
use Rattle.dex_handshake.specs.LineTable.{Common}
use Rattle.dsd_journal.specs.declared.entry.Entry.{Entry}
use Rattle.dsd_journal.specs.declared.header.Header.{Header}
use Rattle.dsd_record.specs.ReadSets.{set_in}
use Rattle.dsd_record.proofs.ReadOnce.{is_set_in}
use Rattle.delivery_book.specs.Deeds.{Deed, deeds_of, signed_of}
use Rattle.delivery_book.specs.Lookups.{last_of, last_signed, numbers_of}
use Rattle.own_turn.specs.DueSets.{Asked, DueSet, asked_of, due_of, due_sets, has_room, is_due, reached, texts_of}
use Rattle.own_turn.specs.OwnTurn.{Desk, IsLoad, gathered, next_turn}
use Rattle.dsd_end.specs.Sealing.{IsSomeSet}
use Rattle.dsd_end.proofs.OneOutcome.{one_turn}
use Rattle.clean_sessions.specs.BlocksAlone.{blocks_alone}
use Rattle.clean_sessions.specs.CleanTurns.{has_none, next_hearer, next_owner}
use Rattle.clean_sessions.specs.Halls.{BeginsTurn, GoesOn, Hall, IsComplete, LeavesHall, TakesNext}
use Rattle.clean_sessions.specs.Sessions.{AreTaken, IsSession, IsSpokenText, Spoken, post_before, post_behind, turn_of}
use Rattle.clean_sessions.specs.Turns.{EndsWhenEmpty, IsTurn, all_alone, polls_in}
use Rattle.clean_sessions.proofs.DeedsOfBoth.{AllRead, all_read, read_filter}
use Rattle.clean_sessions.proofs.HallsWalked.{turn_taken}
use Rattle.clean_sessions.proofs.PollsCounted.{within_bound}
use Rattle.clean_sessions.proofs.LoadsCounted.{load_empty, load_turn, no_blocks}

-- ---- what is gathered are sets

last_read : (deeds : List Deed) (deed : Deed) → AllRead deeds → last_of deeds ≡ Some deed → set_in deed.text ≡ Some deed.set
last_read [] deed all e = absurd (cc)
last_read (one ∷ []) deed all e = let same : one ≡ deed = cc in subst (λ (d : Deed). set_in d.text ≡ Some d.set) same all.0
last_read (one ∷ next ∷ deeds) deed all e = last_read (next ∷ deeds) deed all.1 e

text_read : (deeds : List Deed) (last : Option Deed) (text : List ℕ) → AllRead deeds → last_of deeds ≡ last → option_map (λ (deed : Deed). deed.text) last ≡ Some text → IsSomeSet text
text_read deeds None text all is e = absurd (cc)
text_read deeds (Some deed) text all is e =
    let same : deed.text ≡ text = cc in
    subst IsSomeSet same (deed.set, is_set_in deed.text deed.set (last_read deeds deed all is))

last_set : (entries : List Entry) (number text : List ℕ) → last_signed entries number ≡ Some text → IsSomeSet text
last_set entries number text e =
    text_read (signed_of number (deeds_of entries)) (last_of (signed_of number (deeds_of entries))) text (read_filter _ _ (read_filter _ (deeds_of entries) (all_read entries))) refl e

due_text : (due : Bool) (number : List ℕ) (text : Option (List ℕ)) (set : DueSet)
    → (let none : Option DueSet = None in if due then option_map (λ (t : List ℕ). (let d : DueSet = record { number = number; text = t } in d)) text else none) ≡ Some set → text ≡ Some set.text
due_text true number None set e = absurd (cc)
due_text true number (Some text) set e = let same : (let d : DueSet = record { number = number; text = text } in d) ≡ set = cc in ap (λ (d : DueSet). let o : Option (List ℕ) = Some d.text in o) same
due_text false number text set e = absurd (cc)

due_is_set : (entries : List Entry) (all : List Asked) (number : List ℕ) (set : DueSet) → due_of entries all number ≡ Some set → IsSomeSet set.text
due_is_set entries all number set e = last_set entries number set.text (due_text (is_due entries (asked_of number all)) number (last_signed entries number) set e)

abbrev pub AreSets : List DueSet → Type 0
AreSets [] = ⊤
AreSets (set ∷ more) = IsSomeSet set.text × AreSets more

pub dues_are : (entries : List Entry) (all : List Asked) (numbers : List (List ℕ)) → AreSets (filter_map (due_of entries all) numbers)
dues_are entries all [] = tt
dues_are entries all (number ∷ numbers) = by_due (due_of entries all number) refl (dues_are entries all numbers)
  where
    by_due : (due : Option DueSet) → due_of entries all number ≡ due → AreSets (filter_map (due_of entries all) numbers) → AreSets (cons_option due (filter_map (due_of entries all) numbers))
    by_due None e rest = rest
    by_due (Some set) e rest = (due_is_set entries all number set e, rest)

sets_more : (a b : List DueSet) → AreSets a → AreSets b → AreSets (a ++ b)
sets_more [] b h k = k
sets_more (set ∷ a) b (h, hs) k = (h, sets_more a b hs k)

reached_are : (header : Header) (control : ℕ) (front due : List DueSet) → AreSets front → AreSets due → AreSets (reached header control front due)
reached_are header control front [] h k = h
reached_are header control front (set ∷ more) h (s, k) =
    by_room (has_room header control (front ++ set ∷ [])) (reached_are header control (front ++ set ∷ []) more (sets_more front (set ∷ []) h (s, tt)) k)
  where
    by_room : (room : Bool) → AreSets (reached header control (front ++ set ∷ []) more) → AreSets (cond room (reached header control (front ++ set ∷ []) more) front)
    by_room true on = on
    by_room false on = h

all_sets : (sets : List DueSet) → AreSets sets → All IsSomeSet (texts_of sets)
all_sets [] h = All-nil IsSomeSet
all_sets (set ∷ more) (h, hs) = All-cons IsSomeSet set.text (texts_of more) h (all_sets more hs)

pub gathered_sets : (header : Header) (desk : Desk) → All IsSomeSet (texts_of (gathered header desk))
gathered_sets header desk = all_sets _ (reached_are header (next_turn desk) [] (due_sets desk.entries desk.asked) tt (dues_are desk.entries desk.asked (numbers_of desk.entries)))

-- ---- what is spoken in a turn

turned_spoken : (header : Header) (control : ℕ) (sets : List DueSet) (load : List ℕ) → IsLoad header control sets load → All IsSomeSet (texts_of sets) → IsSpokenText (record { sets = texts_of sets; text = load })
turned_spoken header control sets load is each =
    let turn = load_turn header control sets load (4 * length (load_of load)) is each (omega arith) in
    record { few = turn.few; none = load_empty header control sets load is }

pub spoken_text : (header : Header) (sets : List DueSet) (control : ℕ) (spoken : Spoken) → IsLoad header control sets spoken.text → All IsSomeSet (texts_of sets) → spoken.sets ≡ texts_of sets → IsSpokenText spoken
spoken_text header sets control spoken is each same =
    subst (λ (s : List (List ℕ)). IsSpokenText (record { sets = s; text = spoken.text })) (sym same) (turned_spoken header control sets spoken.text is each)

empty_blocks : (spoken : Spoken) → IsSpokenText spoken → blocks_alone spoken.sets ≡ 0 → length (load_of spoken.text) ≡ 0
empty_blocks spoken is alone = no_load spoken.text (sym is.none ∙ zero_empty (blocks_alone spoken.sets) alone)
  where
    zero_empty : (n : ℕ) → n ≡ 0 → (n == 0) ≡ true
    zero_empty n e = grind (arith, nat_tests)

    no_load : (text : List ℕ) → has_none text ≡ true → length (load_of text) ≡ 0
    no_load [] e = no_blocks [] refl
    no_load (byte ∷ more) e = absurd (cc)

is_turn : (spoken : Spoken) → IsSpokenText spoken → IsTurn (turn_of spoken)
is_turn spoken is = record { few = is.few; none = empty_blocks spoken is; short = omega arith }

-- ---- turn after turn

not_second : (none empty : Bool) → (none && empty) ≡ false → empty ≡ true → none ≡ true → ⊥
not_second true true e f g = cc
not_second true false e f g = cc
not_second false empty e f g = cc

record Taken (first : Spoken) (more : List Spoken) (empty : Bool) (old new : Hall) : Type 0 where
  session : IsSession first more old new
  ends : EndsWhenEmpty empty (turn_of first ∷ map turn_of more)

last_taken : (first : Spoken) (owner hearer : Common) (old new : Hall) → IsSpokenText first → LeavesHall owner hearer first.text old new → (has_none first.text && owner.empty) ≡ true
    → Taken first [] owner.empty old new
last_taken first owner hearer old new is l both =
    let done : IsComplete old new = subst (λ (t : Bool). GoesOn t owner hearer first.text old new) both l.goes in
    record {
      session = record { near = done.near; far = done.far; flight = done.flight; polls = last_polls };
      ends = (is_turn first is, (λ empty none. refl), tt);
    }
  where
    last_polls : (own : Bool) → (post_behind own [] new).polls ≤ (post_before own old).polls + polls_in own (turn_of first ∷ [])
    last_polls true = let few = l.costs.owner in omega (arith, few)
    last_polls false = let few = l.costs.hearer in omega (arith, few)

more_taken : (first spoken : Spoken) (more : List Spoken) (owner hearer : Common) (old next new : Hall) → IsSpokenText first → LeavesHall owner hearer first.text old next
    → (has_none first.text && owner.empty) ≡ false → Taken spoken more (has_none first.text) next new → Taken first (spoken ∷ more) owner.empty old new
more_taken first spoken more owner hearer old next new is l both t = record {
  session = record { near = t.session.near; far = t.session.far; flight = t.session.flight; polls = all_polls };
  ends = (
    is_turn first is,
    (λ empty none. absurd (not_second (has_none first.text) owner.empty both empty (sym is.none ∙ none))),
    subst (λ (e : Bool). EndsWhenEmpty e (turn_of spoken ∷ map turn_of more)) (sym is.none) t.ends,
  );
}
  where
    all_polls : (own : Bool) → (post_behind own (spoken ∷ more) new).polls ≤ (post_before own old).polls + polls_in own (turn_of first ∷ turn_of spoken ∷ map turn_of more)
    all_polls true = let few = l.costs.owner in let rest = t.session.polls false in omega (arith, few, rest)
    all_polls false = let few = l.costs.hearer in let rest = t.session.polls true in omega (arith, few, rest)

taken_all : (more : List Spoken) (first : Spoken) (owner hearer : Common) (old new : Hall) → BeginsTurn owner hearer first.text old → IsSpokenText first → AreTaken more owner hearer first.text old new
    → Taken first more owner.empty old new
taken_all [] first owner hearer old new b is (taken, both) = last_taken first owner hearer old new is (turn_taken owner hearer first.text old b new taken) both
taken_all (spoken ∷ more) first owner hearer old new b is (next, taken, both, desk, turned, sets, rest) =
    let l = turn_taken owner hearer first.text old b next taken in
    let g : TakesNext owner hearer first.text old next = subst (λ (t : Bool). GoesOn t owner hearer first.text old next) both l.goes in
    let same = one_turn old.near.standing.header old.near.chooser old.near.standing.desk first.text g.desk desk g.load spoken.text g.turned turned in
    let begins = subst (λ (load : List ℕ). BeginsTurn (next_owner hearer (has_none first.text)) (next_hearer owner (has_none first.text)) load next) same.1 g.begins in
    let text = spoken_text old.near.standing.header (gathered old.near.standing.header turned.proposed) (next_turn turned.proposed) spoken turned.loads
    (gathered_sets old.near.standing.header turned.proposed) sets in
    more_taken first spoken more owner hearer old next new is l both
    (taken_all more spoken (next_owner hearer (has_none first.text)) (next_hearer owner (has_none first.text)) next new begins text rest)

pub whole_session : (first : Spoken) (more : List Spoken) (owner hearer : Common) (old new : Hall) → BeginsTurn owner hearer first.text old → IsSpokenText first
    → AreTaken more owner hearer first.text old new → IsSession first more old new
whole_session first more owner hearer old new b is taken = let t = taken_all more first owner hearer old new b is taken in t.session

-- from the first turn of texts on, behind the turns with the headers
pub short_session : (first : Spoken) (more : List Spoken) (owner hearer : Common) (old new : Hall) → BeginsTurn owner hearer first.text old → IsSpokenText first
    → AreTaken more owner hearer first.text old new → owner.empty ≡ false → old.far.polls ≤ 6 → old.near.polls ≤ 5
    → (own : Bool) → (post_behind own more new).polls ≤ 60 + 24 * all_alone (turn_of first ∷ map turn_of more)
short_session first more owner hearer old new b is taken fresh far near own =
    let t = taken_all more first owner hearer old new b is taken in
    let ends : EndsWhenEmpty false (turn_of first ∷ map turn_of more) = subst (λ (e : Bool). EndsWhenEmpty e (turn_of first ∷ map turn_of more)) fresh t.ends in
    by_end own ends (t.session.polls own)
  where
    by_end : (own : Bool) → EndsWhenEmpty false (turn_of first ∷ map turn_of more)
        → (post_behind own more new).polls ≤ (post_before own old).polls + polls_in own (turn_of first ∷ map turn_of more)
        → (post_behind own more new).polls ≤ 60 + 24 * all_alone (turn_of first ∷ map turn_of more)
    by_end true ends few = let bound = within_bound true (turn_of first ∷ map turn_of more) ends in omega (arith, few, bound, far)
    by_end false ends few = let bound = within_bound false (turn_of first ∷ map turn_of more) ends in omega (arith, few, bound, near)
