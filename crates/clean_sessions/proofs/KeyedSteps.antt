-- Steps in a row, each of one delivery, of which at most one is of this delivery.
use Rattle.std.proofs.Common.{◌≡◌, ℕ, Bool, true, false, ◌||◌, List, [], ◌∷◌, map, refl, sym, subst, inl, inr}
use Rattle.std.specs.Prelude.{⊤}
use Rattle.std.specs.Str.{bytes_eq}
use Rattle.std.proofs.lemmas.Bool.{cases_Bool}
use Rattle.std.proofs.lemmas.Slice.Eq.{bytes_eq-Decides}
use Rattle.delivery_book.proofs.Members.{In}
use Rattle.own_turn.specs.OwnTurn.{Desk, InTurn}
use Rattle.clean_sessions.specs.Untouched.{IsUntouched}
use Rattle.clean_sessions.proofs.TakingApart.{nothing_touched, then_untouched}

-- steps over what items are made into are steps over the items
pub turn_of_map : {A B : Type 0} (f : A → B) (Step : B → Desk → Desk → Type 0) (items : List A) (old new : Desk) → InTurn Step (map f items) old new → InTurn (λ (item : A). Step (f item)) items old new
turn_of_map f Step [] old new e = e
turn_of_map f Step (item ∷ items) old new (next, step, more) = (next, step, turn_of_map f Step items next new more)

module _ {A : Type 0} (Step : A → Desk → Desk → Type 0) (key : A → List ℕ) (Good : Desk → Type 0) (number : List ℕ) where
  -- each keeps what is good, and leaves this delivery alone if it is of another
  abbrev pub Keeps : List A → Type 0
  Keeps [] = ⊤
  Keeps (item ∷ items) =
      ((old new : Desk) → Good old → Step item old new → Good new)
      × ((old new : Desk) → Good old → bytes_eq (key item) number ≡ false → Step item old new → IsUntouched number old new)
      × Keeps items

  abbrev pub is_there : List A → Bool
  is_there [] = false
  is_there (item ∷ items) = bytes_eq (key item) number || is_there items

  -- behind the one of this delivery there is no other
  abbrev pub IsThereOnce : List A → Type 0
  IsThereOnce [] = ⊤
  IsThereOnce (item ∷ items) = (bytes_eq (key item) number ≡ true → is_there items ≡ false) × IsThereOnce items

  neither : (a b : Bool) → (a || b) ≡ false → (a ≡ false) × (b ≡ false)
  neither true b e = absurd (cc)
  neither false b e = (refl, e)

  -- where none of them is of this delivery
  pub record Passed (old new : Desk) : Type 0 where
    pub good : Good new
    pub left : IsUntouched number old new

  pub passed : (items : List A) (old new : Desk) → Keeps items → Good old → is_there items ≡ false → InTurn Step items old new → Passed old new
  passed [] old new keeps good none e = record { good = subst Good (sym e) good; left = subst (IsUntouched number old) (sym e) (nothing_touched number old) }
  passed (item ∷ items) old new keeps good none (next, step, more) =
      let away = neither (bytes_eq (key item) number) (is_there items) none in
      let rest = passed items next new keeps.2 (keeps.0 old next good step) away.1 more in
      record { good = rest.good; left = then_untouched number old next new (keeps.1 old next good away.0 step) rest.left }

  -- where one is
  pub record Once (items : List A) (old new : Desk) : Type 0 where
    pub item : A
    pub inside : In item items
    pub before : Desk
    pub behind : Desk
    pub its : key item ≡ number
    pub first : IsUntouched number old before
    pub good : Good before
    pub step : Step item before behind
    pub good_behind : Good behind
    pub last : IsUntouched number behind new
    pub end : Good new
    pub more : List A
    pub rest : InTurn Step more behind new

  pub once : (items : List A) (old new : Desk) → Keeps items → Good old → is_there items ≡ true → IsThereOnce items → InTurn Step items old new → Once items old new
  once [] old new keeps good there apart e = absurd (cc)
  once (item ∷ items) old new keeps good there apart (next, step, more) = elim (cases_Bool (bytes_eq (key item) number)) [
    | inl same ↦
        let rest = passed items next new keeps.2 (keeps.0 old next good step) (apart.0 same) more in
        record {
          item = item;
          inside = inl refl;
          before = old;
          behind = next;
          its = (bytes_eq-Decides (key item) number).0 same;
          first = nothing_touched number old;
          good = good;
          step = step;
          good_behind = keeps.0 old next good step;
          last = rest.left;
          end = rest.good;
          more = items;
          rest = more;
        }
    | inr other ↦
        let left = keeps.1 old next good other step in
        let later : is_there items ≡ true = subst (λ (b : Bool). (b || is_there items) ≡ true) other there in
        let o = once items next new keeps.2 (keeps.0 old next good step) later apart.1 more in
        record {
          item = o.item;
          inside = inr o.inside;
          before = o.before;
          behind = o.behind;
          its = o.its;
          first = then_untouched number old next o.before left o.first;
          good = o.good;
          step = o.step;
          good_behind = o.good_behind;
          last = o.last;
          end = o.end;
          more = o.more;
          rest = o.rest;
        }
  ]
