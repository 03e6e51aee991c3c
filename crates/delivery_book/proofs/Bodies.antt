-- What the bodies look up and ask of calls below.
use Rattle.std.proofs.Common.{◌≡◌, ◌⊎◌, ◌<◌, ℕ, zero, suc, Bool, true, false, not, ◌&&◌, ◌||◌, if◌then◌else◌, bytes_eq, List, [], ◌∷◌, ◌++◌, get_or, slice_get, length, position, is_some, is_none, IfSome, MatchOption, Option, Some, None, Result, Err, inl, inr, refl, sym, ap, subst, ◌∙◌}
use Rattle.std.specs.List.{list_any}
use Rattle.std.specs.Map.{keys_of, lookup}
use Rattle.std.proofs.lemmas.List.Quantifiers.{position-Some}
use Rattle.indexmap.specs.IndexMap.{insert_entry}
use Rattle.indexmap.specs.IndexSet.{insert_key}
use Rattle.transaction_set.proofs.Small.{bytes_are}
use Rattle.adjustment_895.specs.AnswerRecord.{AnswerRecord}
use Rattle.dsd_record.specs.Applying.{applied, apply_fault}
use Rattle.dsd_record.specs.Version.{Version}
use Rattle.dsd_record.specs.declared.fault.ApplyFault.{ApplyFault}
use Rattle.dsd_record.specs.declared.fault.ApplyFault.TheVariants as faults
use Rattle.dsd_values.specs.declared.role.Role.{Role}
use Rattle.dsd_journal.specs.declared.entry.EntryKind.{EntryKind}
use Rattle.delivery_book.specs.Admissions.{Decides, as_unapplied, is_stand_answered, is_turn}
use Rattle.delivery_book.specs.Deeds.{signer}
use Rattle.delivery_book.specs.Index.{Stand}
use Rattle.delivery_book.specs.Refusals.{is_role}
use Rattle.delivery_book.specs.declared.fault.AdmitFault.{AdmitFault}

-- ---- keys of a map

some_same : {X : Type 0} (x y : X) → Some x ≡ Some y → x ≡ y
some_same x y e = cc

pub key_at : {V : Type 0} (es : List (List ℕ × V)) (index : ℕ) (key : List ℕ) (value : V) → slice_get es index ≡ Some (key, value) → get_or (keys_of es) index [] ≡ key
key_at [] index key value e = cc
key_at (e ∷ es) zero key value is = ap (λ (p : List ℕ × _). p.0) (some_same e (key, value) is)
key_at (e ∷ es) (suc index) key value is = key_at es index key value is

there_or_last : (first : List ℕ) (keys : List (List ℕ)) (key : List ℕ) (b : Bool) → first ∷ (if b then keys else keys ++ key ∷ []) ≡ (if b then first ∷ keys else (first ∷ keys) ++ key ∷ [])
there_or_last first keys key true = refl
there_or_last first keys key false = refl

keys_step : {V : Type 0} (e : List ℕ × V) (es : List (List ℕ × V)) (key : List ℕ) (value : V) (b : Bool) → keys_of (insert_entry bytes_eq es key value) ≡ insert_key bytes_eq (keys_of es) key
    → keys_of (if b then (e.0, value) ∷ es else e ∷ insert_entry bytes_eq es key value) ≡ (if b || list_any (bytes_eq key) (keys_of es) then keys_of (e ∷ es) else keys_of (e ∷ es) ++ key ∷ [])
keys_step e es key value true ih = refl
keys_step e es key value false ih = ap (λ (l : List (List ℕ)). e.0 ∷ l) ih ∙ there_or_last e.0 (keys_of es) key (list_any (bytes_eq key) (keys_of es))

-- the keys behind an insertion
pub keys_inserted : {V : Type 0} (es : List (List ℕ × V)) (key : List ℕ) (value : V) → keys_of (insert_entry bytes_eq es key value) ≡ insert_key bytes_eq (keys_of es) key
keys_inserted [] key value = refl
keys_inserted (e ∷ es) key value = keys_step e es key value (bytes_eq key e.0) (keys_inserted es key value)

none_is : {X : Type 0} (o : Option X) → is_some o ≡ false → o ≡ None
none_is None e = refl
none_is (Some x) e = cc

-- the index of a key
pub found_at : {V : Type 0} (es : List (List ℕ × V)) (key : List ℕ) (result : Option ℕ) → result ≡ position (bytes_eq key) (keys_of es) → is_some result ≡ is_some (lookup (bytes_eq key) es) → IfSome result (λ (i : ℕ). i < length es)
    → MatchOption result (lookup (bytes_eq key) es ≡ None) (λ (i : ℕ). (i < length es) × (get_or (keys_of es) i [] ≡ key))
found_at es key (Some i) at found within = (within, sym (bytes_are key (get_or (keys_of es) i []) (position-Some (bytes_eq key) (keys_of es) i [] (sym at)).1))
found_at es key None at found within = none_is (lookup (bytes_eq key) es) (sym found)

-- ---- answers that are applied

pub applied_so : (seen after new : Version) (answer : AnswerRecord) (check : ℕ) → after ≡ seen → (apply_fault after answer ≡ None) × (new ≡ applied after answer check) → (apply_fault seen answer ≡ None) × (new ≡ applied seen answer check)
applied_so seen after new answer check e h = subst (λ (v : Version). (apply_fault v answer ≡ None) × (new ≡ applied v answer check)) e h

pub refused_so : (seen after : Version) (answer : AnswerRecord) (fault : ApplyFault) → after ≡ seen → (fault ≡ faults.Memory) ⊎ (apply_fault after answer ≡ Some fault) → (fault ≡ faults.Memory) ⊎ (apply_fault seen answer ≡ Some fault)
refused_so seen after answer fault e h = subst (λ (v : Version). (fault ≡ faults.Memory) ⊎ (apply_fault v answer ≡ Some fault)) e h

-- ---- tests in a row

pub all_pass : (letter closed turn : Bool) (fault : Option ApplyFault) → letter ≡ true → closed ≡ false → turn ≡ true → fault ≡ None → (letter && (not closed && (turn && is_none fault))) ≡ true
all_pass letter closed turn fault a b c d =
    ap (λ (x : Bool). x && (not closed && (turn && is_none fault))) a ∙ ap (λ (x : Bool). not x && (turn && is_none fault)) b ∙ ap (λ (x : Bool). x && is_none fault) c ∙ ap is_none d

last_fails : (fault : ApplyFault) (o : Option ApplyFault) (letter closed turn : Bool) → o ≡ Some fault → (letter && (not closed && (turn && is_none o))) ≡ false
last_fails fault o letter closed turn e = ap (λ (x : Option ApplyFault). letter && (not closed && (turn && is_none x))) e ∙ never letter closed turn where
  never : (letter closed turn : Bool) → (letter && (not closed && (turn && false))) ≡ false
  never false closed turn = refl
  never true true turn = refl
  never true false true = refl
  never true false false = refl

pub not_applied_so : {X : Type 0} (fault : ApplyFault) (o : Option ApplyFault) (letter closed turn : Bool) (P : X → Type 0) → (fault ≡ faults.Memory) ⊎ (o ≡ Some fault)
    → (let r : Result X AdmitFault = Err (as_unapplied fault) in Decides r (letter && (not closed && (turn && is_none o))) P)
not_applied_so faults.Memory o letter closed turn P h = tt
not_applied_so fault o letter closed turn P (inl e) = cc
not_applied_so fault o letter closed turn P (inr e) = last_fails fault o letter closed turn e

-- ---- an answer that may stand

pub answered_yes : (role : Role) (kind : EntryKind) (stand : Stand) (seen : Version) (answer : AnswerRecord) (check : ℕ) (after : Version) → is_role answer.role (signer role kind) ≡ true → stand.accepted ≡ false → is_turn stand.ours kind ≡ true
    → seen ≡ stand.seen → (apply_fault seen answer ≡ None) × (after ≡ applied seen answer check) → (is_stand_answered role kind stand answer ≡ true) × (after ≡ applied stand.seen answer check)
answered_yes role kind stand seen answer check after letter closed turn e h =
    let there = applied_so stand.seen seen after answer check e h in
    (all_pass (is_role answer.role (signer role kind)) stand.accepted (is_turn stand.ours kind) (apply_fault stand.seen answer) letter closed turn there.0, there.1)

pub answered_no : {X : Type 0} (role : Role) (kind : EntryKind) (stand : Stand) (seen : Version) (answer : AnswerRecord) (fault : ApplyFault) (told : AdmitFault) (P : X → Type 0) → seen ≡ stand.seen → told ≡ as_unapplied fault
    → (fault ≡ faults.Memory) ⊎ (apply_fault seen answer ≡ Some fault) → (let r : Result X AdmitFault = Err told in Decides r (is_stand_answered role kind stand answer) P)
answered_no {X} role kind stand seen answer fault told P e t h =
    subst (λ (x : AdmitFault). (let r : Result X AdmitFault = Err x in Decides r (is_stand_answered role kind stand answer) P)) (sym t)
    (not_applied_so fault (apply_fault stand.seen answer) (is_role answer.role (signer role kind)) stand.accepted (is_turn stand.ours kind) P (refused_so stand.seen seen answer fault e h))
