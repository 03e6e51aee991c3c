-- How a delivery stands after one entry more.
use Rattle.std.proofs.Common.{◌≡◌, ◌≤◌, ℕ, zero, suc, Bool, true, false, cond, not, if◌then◌else◌, List, [], ◌∷◌, ◌++◌, map, length, slice_get, is_some, Option, Some, None, option_map, filter, find, inl, inr, refl, sym, ap, subst, ◌∙◌, append-nil}
use Rattle.std.specs.Option.{option_and_then}
use Rattle.std.proofs.lemmas.Bool.{le-ltb}
use Rattle.std.proofs.lemmas.List.Elements.{filter-append}
use Rattle.dsd_record.specs.Chain.{Chain, version_of, with_adjusted}
use Rattle.dsd_record.specs.ReadSets.{set_in}
use Rattle.dsd_record.specs.Version.{Version}
use Rattle.dsd_record.specs.declared.set_view.SetView.{SetView}
use Rattle.dsd_record.specs.declared.set_view.SetView.TheVariants as sets
use Rattle.dsd_journal.specs.declared.entry.Entry.{Entry}
use Rattle.dsd_journal.specs.declared.entry.EntryKind.{EntryKind}
use Rattle.dsd_journal.specs.declared.entry.EntryKind.TheVariants.{Signed, Took}
use Rattle.delivery_book.specs.Deeds.{Deed, acceptances, check_in, deeds_of, first_of, is_signed, level_in, number_in, of_delivery, proposals, proposes, signed_of}
use Rattle.delivery_book.specs.declared.history.Offer.{Offer}
use Rattle.delivery_book.specs.Index.{History, IsHistory, IsStand, Stand, history_after, no_history, offer_by, offer_of, text_at}
use Rattle.delivery_book.specs.Lookups.{amount_in, last_of}
use Rattle.delivery_book.specs.Standing.{acceptance_of, chain_at_base, chain_behind, chain_to, higher, highest, highest_of, is_named, longer, named_of, version_at, version_to}
use Rattle.delivery_book.proofs.Members.{In}
use Rattle.delivery_book.proofs.Standings.{highest_is, not_false}
use Rattle.delivery_book.proofs.Chained.{chain_kept}
use Rattle.delivery_book.proofs.Grown.{of_other, of_own}
use Rattle.delivery_book.proofs.Listed.{deeds_more}

-- ---- one more behind some

abbrev offers : Deed → Bool
offers deed = proposes deed.set

abbrev mine : Deed → Bool
mine deed = is_signed deed.kind

abbrev theirs : Deed → Bool
theirs deed = not (is_signed deed.kind)

abbrev closes : Deed → Bool
closes deed = not (proposes deed.set)

filter_keeps : (test : Deed → Bool) (xs : List Deed) (x : Deed) → test x ≡ true → filter test (xs ++ x ∷ []) ≡ filter test xs ++ x ∷ []
filter_keeps test xs x e = filter-append test xs (x ∷ []) ∙ ap (λ (b : Bool). filter test xs ++ cond b (x ∷ []) []) e

filter_drops : (test : Deed → Bool) (xs : List Deed) (x : Deed) → test x ≡ false → filter test (xs ++ x ∷ []) ≡ filter test xs
filter_drops test xs x e = filter-append test xs (x ∷ []) ∙ ap (λ (b : Bool). filter test xs ++ cond b (x ∷ []) []) e ∙ append-nil (filter test xs)

last_push : (xs : List Deed) (x : Deed) → last_of (xs ++ x ∷ []) ≡ Some x
last_push [] x = refl
last_push (y ∷ []) x = refl
last_push (y ∷ z ∷ xs) x = last_push (z ∷ xs) x

highest_push : (xs : List Deed) (x : Deed) → ((y : Deed) → In y xs → level_in y.set ≤ level_in x.set) → highest (xs ++ x ∷ []) ≡ Some x
highest_push [] x above = refl
highest_push (y ∷ xs) x above =
    let low : level_in y.set ≤ level_in x.set = above y (inl refl) in
    ap (λ (o : Option Deed). Some (higher y o)) (highest_push xs x (λ z h. above z (inr h)))
    ∙ ap (λ (b : Bool). Some (if b then y else x)) (le-ltb (level_in x.set) (level_in y.set) low)

-- ---- a delivery is told by its own deeds

longer_so : (set : SetView) (f g : ℕ → Option Chain) → ((check : ℕ) → f check ≡ g check) → longer set f ≡ longer set g
longer_so (sets.Base base seal) f g same = refl
longer_so (sets.Answer answer seal) f g same = ap (option_map (λ (chain : Chain). with_adjusted chain (record { answer = answer; check = seal.check }))) (same answer.check)

chain_below : (o : Option Deed) (f g : ℕ → Option Chain) → ((check : ℕ) → f check ≡ g check) → chain_behind o f ≡ chain_behind o g
chain_below (Some deed) f g same = longer_so deed.set f g same
chain_below None f g same = refl

chain_same : (number : List ℕ) (deeds more : List Deed) → of_delivery number deeds ≡ of_delivery number more → (level check : ℕ) → chain_to number deeds level check ≡ chain_to number more level check
chain_same number deeds more e zero check = ap (λ (l : List Deed). chain_at_base (find (is_named 0 check) (filter offers l))) e
chain_same number deeds more e (suc level) check =
    ap (λ (l : List Deed). chain_behind (find (is_named (suc level) check) (filter offers l)) (chain_to number deeds level)) e
    ∙ chain_below (named_of number (suc level) check more) (chain_to number deeds level) (chain_to number more level) (chain_same number deeds more e level)

version_same : (number : List ℕ) (deeds more : List Deed) → of_delivery number deeds ≡ of_delivery number more → (level check : ℕ) → version_to number deeds level check ≡ version_to number more level check
version_same number deeds more e level check = ap (option_and_then version_of) (chain_same number deeds more e level check)

-- ---- the places of sets stay

get_front : {X : Type 0} (xs more : List X) (k : ℕ) → is_some (slice_get xs k) ≡ true → slice_get (xs ++ more) k ≡ slice_get xs k
get_front [] more k e = cc
get_front (x ∷ xs) more zero e = refl
get_front (x ∷ xs) more (suc k) e = get_front xs more k e

pub get_last : {X : Type 0} (xs : List X) (x : X) → slice_get (xs ++ x ∷ []) (length xs) ≡ Some x
get_last [] x = refl
get_last (y ∷ xs) x = get_last xs x

text_there : (entries : List Entry) (k : ℕ) (text : List ℕ) → text_at entries k ≡ Some text → is_some (slice_get entries k) ≡ true
text_there entries k text e = there (slice_get entries k) e where
  there : (o : Option Entry) → option_map (λ (entry : Entry). entry.payload) o ≡ Some text → is_some o ≡ true
  there (Some entry) e = refl
  there None e = cc

text_stays : (entries more : List Entry) (place : Option ℕ) → ((k : ℕ) → place ≡ Some k → is_some (slice_get entries k) ≡ true) → option_and_then (text_at (entries ++ more)) place ≡ option_and_then (text_at entries) place
text_stays entries more None within = refl
text_stays entries more (Some k) within = ap (option_map (λ (entry : Entry). entry.payload)) (get_front entries more k (within k refl))

within_stays : (entries more : List Entry) (k : ℕ) → is_some (slice_get entries k) ≡ true → is_some (slice_get (entries ++ more) k) ≡ true
within_stays entries more k e = ap is_some (get_front entries more k e) ∙ e

texts_stay : (entries more : List Entry) (deeds : List Deed) (places : List ℕ) → map (λ (deed : Deed). Some deed.text) deeds ≡ map (text_at entries) places → map (λ (deed : Deed). Some deed.text) deeds ≡ map (text_at (entries ++ more)) places
texts_stay entries more [] [] e = refl
texts_stay entries more [] (k ∷ places) e = cc
texts_stay entries more (d ∷ deeds) [] e = cc
texts_stay entries more (d ∷ deeds) (k ∷ places) e =
    let first : Some d.text ≡ text_at entries k = cc in
    let rest : map (λ (deed : Deed). Some deed.text) deeds ≡ map (text_at entries) places = cc in
    ap (λ (o : Option (List ℕ)). o ∷ map (λ (deed : Deed). Some deed.text) deeds) (first ∙ sym (ap (option_map (λ (entry : Entry). entry.payload)) (get_front entries more k (text_there entries k d.text (sym first)))))
    ∙ ap (λ (l : List (Option (List ℕ))). text_at (entries ++ more) k ∷ l) (texts_stay entries more deeds places rest)

map_more : {X Y : Type 0} (f : X → Y) (xs : List X) (x : X) → map f (xs ++ x ∷ []) ≡ map f xs ++ f x ∷ []
map_more f [] x = refl
map_more f (y ∷ ys) x = ap (λ (l : List _). f y ∷ l) (map_more f ys x)

-- ---- another delivery

module _ (number : List ℕ) (entries : List Entry) (entry : Entry) (set : SetView) (read : set_in entry.payload ≡ Some set) where
  abbrev deed : Deed
  deed = record { kind = entry.kind; text = entry.payload; set = set }

  abbrev before : List Deed
  before = deeds_of entries

  abbrev after : List Deed
  after = deeds_of (entries ++ entry ∷ [])

  history_other : of_delivery number after ≡ of_delivery number before → (history : History) → IsHistory number entries history → IsHistory number (entries ++ entry ∷ []) history
  history_other same history s = record {
    amount = ap (λ (l : List Deed). option_map (λ (d : Deed). amount_in d.set) (last_of (filter offers (filter mine l)))) same ∙ s.amount;
    last = ap (λ (l : List Deed). option_map (λ (d : Deed). d.text) (last_of (filter mine l))) same ∙ s.last ∙ sym (text_stays entries (entry ∷ []) history.last s.within);
    within = λ k e. within_stays entries (entry ∷ []) k (s.within k e);
    offers = ap (λ (l : List Deed). map offer_by (filter mine (filter offers l))) same ∙ s.offers;
    taken = ap (λ (l : List Deed). map (λ (d : Deed). Some d.text) (filter theirs l)) same ∙ texts_stay entries (entry ∷ []) (filter theirs (of_delivery number before)) history.taken s.taken;
  }

  -- the version of a proposal stays where the deeds of its delivery do
  version_there : (top : Deed) (version : Version) → of_delivery number before ≡ of_delivery number after → highest_of number before ≡ Some top → version_at before top ≡ Some version → version_at after top ≡ Some version
  version_there top version e is made =
      let h = highest_is number before top is in
      ap (λ (n : List ℕ). version_to n after (level_in top.set) (check_in top.set)) h.is.number
      ∙ sym (version_same number before after e (level_in top.set) (check_in top.set))
      ∙ ap (λ (n : List ℕ). version_to n before (level_in top.set) (check_in top.set)) (sym h.is.number)
      ∙ made

  pub stand_other : (stand : Stand) → (number_in set ≡ number → ⊥) → IsStand number entries stand → IsStand number (entries ++ entry ∷ []) stand
  stand_other stand other s =
      let same : of_delivery number after ≡ of_delivery number before = ap (of_delivery number) (deeds_more entries entry set read) ∙ of_other number before deed other in
      record {
        top = s.top;
        is_top = ap (λ (l : List Deed). highest (filter offers l)) same ∙ s.is_top;
        seen = version_there s.top stand.seen (sym same) s.is_top s.seen;
        ours = s.ours;
        accepted = ap (λ (l : List Deed). is_some (first_of (filter closes l))) same ∙ s.accepted;
        history = history_other same stand.history s.history;
      }

  -- ---- the delivery of the entry

  module _ (same : number_in set ≡ number) where
    one_more : of_delivery number after ≡ of_delivery number before ++ deed ∷ []
    one_more = ap (of_delivery number) (deeds_more entries entry set read) ∙ of_own number before deed same

    proposals_keep : proposes set ≡ true → proposals number after ≡ proposals number before ++ deed ∷ []
    proposals_keep e = ap (filter offers) one_more ∙ filter_keeps offers (of_delivery number before) deed e

    proposals_drop : proposes set ≡ false → proposals number after ≡ proposals number before
    proposals_drop e = ap (filter offers) one_more ∙ filter_drops offers (of_delivery number before) deed e

    acceptances_keep : proposes set ≡ false → acceptances number after ≡ acceptances number before ++ deed ∷ []
    acceptances_keep e = ap (filter closes) one_more ∙ filter_keeps closes (of_delivery number before) deed (not_false (proposes set) e)

    acceptances_drop : proposes set ≡ true → acceptances number after ≡ acceptances number before
    acceptances_drop e = ap (filter closes) one_more ∙ filter_drops closes (of_delivery number before) deed (ap not e)

    signed_keep : entry.kind ≡ Signed → signed_of number after ≡ signed_of number before ++ deed ∷ []
    signed_keep e = ap (filter mine) one_more ∙ filter_keeps mine (of_delivery number before) deed (ap is_signed e)

    signed_drop : entry.kind ≡ Took → signed_of number after ≡ signed_of number before
    signed_drop e = ap (filter mine) one_more ∙ filter_drops mine (of_delivery number before) deed (ap is_signed e)

    taken_keep : entry.kind ≡ Took → filter theirs (of_delivery number after) ≡ filter theirs (of_delivery number before) ++ deed ∷ []
    taken_keep e = ap (filter theirs) one_more ∙ filter_keeps theirs (of_delivery number before) deed (ap (λ (k : EntryKind). not (is_signed k)) e)

    taken_drop : entry.kind ≡ Signed → filter theirs (of_delivery number after) ≡ filter theirs (of_delivery number before)
    taken_drop e = ap (filter theirs) one_more ∙ filter_drops theirs (of_delivery number before) deed (ap (λ (k : EntryKind). not (is_signed k)) e)

    taken_same : (history : History) → entry.kind ≡ Signed → IsHistory number entries history → map (λ (d : Deed). Some d.text) (filter theirs (of_delivery number after)) ≡ map (text_at (entries ++ entry ∷ [])) history.taken
    taken_same history kind s = ap (map (λ (d : Deed). Some d.text)) (taken_drop kind) ∙ texts_stay entries (entry ∷ []) (filter theirs (of_delivery number before)) history.taken s.taken

    -- a set that was taken
    mine_drop : (b : Bool) → proposes set ≡ b → entry.kind ≡ Took → filter mine (proposals number after) ≡ filter mine (proposals number before)
    mine_drop true p kind = ap (filter mine) (proposals_keep p) ∙ filter_drops mine (proposals number before) deed (ap is_signed kind)
    mine_drop false p kind = ap (filter mine) (proposals_drop p)

    history_took : (history : History) → entry.kind ≡ Took → IsHistory number entries history → IsHistory number (entries ++ entry ∷ []) (record history { taken = history.taken ++ length entries ∷ [] })
    history_took history kind s = record {
      amount = ap (λ (l : List Deed). option_map (λ (d : Deed). amount_in d.set) (last_of (filter offers l))) (signed_drop kind) ∙ s.amount;
      last = ap (λ (l : List Deed). option_map (λ (d : Deed). d.text) (last_of l)) (signed_drop kind) ∙ s.last ∙ sym (text_stays entries (entry ∷ []) history.last s.within);
      within = λ k e. within_stays entries (entry ∷ []) k (s.within k e);
      offers = ap (map offer_by) (mine_drop (proposes set) refl kind) ∙ s.offers;
      taken =
          ap (map (λ (d : Deed). Some d.text)) (taken_keep kind)
          ∙ map_more (λ (d : Deed). Some d.text) (filter theirs (of_delivery number before)) deed
          ∙ ap (λ (l : List (Option (List ℕ))). l ++ Some entry.payload ∷ []) (texts_stay entries (entry ∷ []) (filter theirs (of_delivery number before)) history.taken s.taken)
          ∙ ap (λ (o : Option (List ℕ)). map (text_at (entries ++ entry ∷ [])) history.taken ++ o ∷ []) (sym (ap (option_map (λ (x : Entry). x.payload)) (get_last entries entry)))
          ∙ sym (map_more (text_at (entries ++ entry ∷ [])) history.taken (length entries));
    }

    last_there : (place : ℕ) → Some (length entries) ≡ Some place → is_some (slice_get (entries ++ entry ∷ []) place) ≡ true
    last_there place e =
        let at : length entries ≡ place = cc in
        subst (λ (n : ℕ). is_some (slice_get (entries ++ entry ∷ []) n) ≡ true) at (ap is_some (get_last entries entry))

    last_signed_is : entry.kind ≡ Signed → option_map (λ (d : Deed). d.text) (last_of (signed_of number after)) ≡ text_at (entries ++ entry ∷ []) (length entries)
    last_signed_is kind =
        ap (λ (l : List Deed). option_map (λ (d : Deed). d.text) (last_of l)) (signed_keep kind)
        ∙ ap (option_map (λ (d : Deed). d.text)) (last_push (signed_of number before) deed)
        ∙ sym (ap (option_map (λ (x : Entry). x.payload)) (get_last entries entry))

    -- a proposal that this end signed, which makes this version
    history_offered : (history : History) (made : Version) → entry.kind ≡ Signed → proposes set ≡ true → amount_in set ≡ made.totals.amount → level_in set ≡ made.level → check_in set ≡ made.check → IsHistory number entries history
        → IsHistory number (entries ++ entry ∷ []) (record history { amount = Some made.totals.amount; last = Some (length entries); offers = history.offers ++ offer_of made ∷ [] })
    history_offered history made kind p amount level check s = record {
      amount =
          ap (λ (l : List Deed). option_map (λ (d : Deed). amount_in d.set) (last_of l)) (ap (filter offers) (signed_keep kind) ∙ filter_keeps offers (signed_of number before) deed p)
          ∙ ap (option_map (λ (d : Deed). amount_in d.set)) (last_push (filter offers (signed_of number before)) deed)
          ∙ ap (λ (n : ℕ). Some n) amount;
      last = last_signed_is kind;
      within = last_there;
      offers =
          ap (map offer_by) (ap (filter mine) (proposals_keep p) ∙ filter_keeps mine (proposals number before) deed (ap is_signed kind))
          ∙ map_more offer_by (filter mine (proposals number before)) deed
          ∙ ap (λ (l : List Offer). l ++ offer_by deed ∷ []) s.offers
          ∙ ap (λ (n : ℕ). history.offers ++ (record { level = n; check = check_in set }) ∷ []) level
          ∙ ap (λ (n : ℕ). history.offers ++ (record { level = made.level; check = n }) ∷ []) check;
      taken = taken_same history kind s;
    }

    -- an acceptance that this end signed
    history_closed : (history : History) → entry.kind ≡ Signed → proposes set ≡ false → IsHistory number entries history → IsHistory number (entries ++ entry ∷ []) (record history { last = Some (length entries) })
    history_closed history kind p s = record {
      amount =
          ap (λ (l : List Deed). option_map (λ (d : Deed). amount_in d.set) (last_of l)) (ap (filter offers) (signed_keep kind) ∙ filter_drops offers (signed_of number before) deed p) ∙ s.amount;
      last = last_signed_is kind;
      within = last_there;
      offers = ap (λ (l : List Deed). map offer_by (filter mine l)) (proposals_drop p) ∙ s.offers;
      taken = taken_same history kind s;
    }

    -- the proposal makes this version
    pub record Matches (made : Version) : Type 0 where
      pub amount : amount_in set ≡ made.totals.amount
      pub level : level_in set ≡ made.level
      pub check : check_in set ≡ made.check

    history_made : (history : History) (made : Version) (kind : EntryKind) → entry.kind ≡ kind → proposes set ≡ true → Matches made → IsHistory number entries history
        → IsHistory number (entries ++ entry ∷ []) (history_after kind (length entries) (Some made) history)
    history_made history made Signed e p m s = history_offered history made e p m.amount m.level m.check s
    history_made history made Took e p m s = history_took history e s

    history_ended : (history : History) (kind : EntryKind) → entry.kind ≡ kind → proposes set ≡ false → IsHistory number entries history → IsHistory number (entries ++ entry ∷ []) (history_after kind (length entries) None history)
    history_ended history Signed e p s = history_closed history e p s
    history_ended history Took e p s = history_took history e s

    -- with a proposal, as high as all before it
    pub stand_offered : (history : History) (version : Version) → proposes set ≡ true → Matches version → ((p : Deed) → In p (proposals number before) → level_in p.set ≤ level_in set) → acceptance_of number before ≡ None → version_at after deed ≡ Some version
        → IsHistory number entries history → IsStand number (entries ++ entry ∷ []) (record { seen = version; ours = is_signed entry.kind; accepted = false; history = history_after entry.kind (length entries) (Some version) history })
    stand_offered history version p m above none made s = record {
      top = deed;
      is_top = ap highest (proposals_keep p) ∙ highest_push (proposals number before) deed above;
      seen = made;
      ours = refl;
      accepted = ap (λ (l : List Deed). is_some (first_of l)) (acceptances_drop p) ∙ ap is_some none;
      history = history_made history version entry.kind refl p m s;
    }

    some_pushed : (xs : List Deed) → is_some (first_of (xs ++ deed ∷ [])) ≡ true
    some_pushed [] = refl
    some_pushed (x ∷ xs) = refl

    -- the chains of proposals stay behind an acceptance
    version_stays : (top : Deed) (version : Version) → version_at before top ≡ Some version → (chain : Chain) → chain_to (number_in top.set) before (level_in top.set) (check_in top.set) ≡ Some chain → version_at after top ≡ Some version
    version_stays top version made chain to =
        ap (option_and_then version_of) (subst (λ (l : List Deed). chain_to (number_in top.set) l (level_in top.set) (check_in top.set) ≡ Some chain) (sym (deeds_more entries entry set read))
        (chain_kept (number_in top.set) before (deed ∷ []) (level_in top.set) (check_in top.set) chain to))
        ∙ sym (ap (option_and_then version_of) to) ∙ made

    -- with an acceptance
    pub stand_closed : (old : Stand) → proposes set ≡ false → (s : IsStand number entries old) → (chain : Chain) → chain_to (number_in s.top.set) before (level_in s.top.set) (check_in s.top.set) ≡ Some chain
        → IsStand number (entries ++ entry ∷ []) (record { seen = old.seen; ours = old.ours; accepted = true; history = history_after entry.kind (length entries) None old.history })
    stand_closed old p s chain to = record {
      top = s.top;
      is_top = ap highest (proposals_drop p) ∙ s.is_top;
      seen = version_stays s.top old.seen s.seen chain to;
      ours = s.ours;
      accepted = ap (λ (l : List Deed). is_some (first_of l)) (acceptances_keep p) ∙ some_pushed (acceptances number before);
      history = history_ended old.history entry.kind refl p s.history;
    }

-- before the first deed of a delivery
pub nothing_of : (number : List ℕ) (entries : List Entry) → of_delivery number (deeds_of entries) ≡ [] → IsHistory number entries no_history
nothing_of number entries new = record {
  amount = ap (λ (l : List Deed). option_map (λ (d : Deed). amount_in d.set) (last_of (filter offers (filter mine l)))) new;
  last = ap (λ (l : List Deed). option_map (λ (d : Deed). d.text) (last_of (filter mine l))) new;
  within = λ place e. cc;
  offers = ap (λ (l : List Deed). map offer_by (filter mine (filter offers l))) new;
  taken = ap (λ (l : List Deed). map (λ (d : Deed). Some d.text) (filter theirs l)) new;
}
