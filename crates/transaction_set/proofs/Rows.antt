-- Rows, one after another: what is asked of them, and what a writer of them answers.
use Rattle.std.proofs.Common.{◌≡◌, ◌⊎◌, ℕ, zero, suc, ◌+◌, ◌<◌, ◌≤◌, ◌==◌, true, false, IsTrue, inl, inr, nat_lt, List, [], ◌∷◌, ◌++◌, length, map, drop, get_or, Option, Some, None, Result, Ok, Err, refl, sym, ◌∙◌, ap, subst, arith, append-nil, append_assoc, length-append}
use Rattle.std.specs.List.{All, flat_map}
use Rattle.std.proofs.lemmas.Bool.{cases_Bool}
use Rattle.std.proofs.lemmas.Bool.Decides.{nat_tests}
use Rattle.std.proofs.lemmas.List.{drop_all, drop_more, get_or-map, length-map}
use Rattle.std.proofs.lemmas.List.Concat.{flat_map_single}
use Rattle.std.proofs.lemmas.List.Elements.{All-cons, All-get_or, All-nil, All-head, All-tail}
use Rattle.std.specs.Result.{IsErr, IsErrAnd}
use Rattle.dsd_values.specs.Answers.{Gives, UnlessMemory}
use Rattle.segments.specs.Elements.{◌or_else◌}
use Rattle.transaction_set.specs.RowsWritten.{SetSoFar, after_writing, first_long, unless_long, with_rows}
use Rattle.segments.specs.SegmentSpelling.{IsPart, IsSegment, is_id}
use Rattle.segments.specs.declared.segment_write_fault.TheConstants.{SEGMENT_WRITTEN}
use Rattle.segments.proofs.Written.{element_part, id_part}
use Rattle.dsd_values.specs.Reading.{IsElementText}
use Rattle.segments.specs.SegmentWriting.{line_of, text_of}
use Rattle.transaction_set.specs.SetWriting.{Row, line_rows, loop_end_row, loop_rows, loop_start_row, parted, row_of}
use Rattle.transaction_set.specs.declared.kind.Form.{Form}
use Rattle.dsd_values.specs.declared.line.Line.{Line}
use Rattle.segments.specs.declared.segment_write_fault.SegmentWriteFault.{SegmentWriteFault}
use Rattle.segments.specs.declared.segment_write_fault.SegmentWriteFault.TheVariants.{LongSegment, Memory}

module _ {X : Type 0} (P : X → Type 0) where
  pub all_front : (xs ys : List X) → All P (xs ++ ys) → All P xs
  all_front [] ys h = All-nil P
  all_front (x ∷ xs) ys h = All-cons P x xs (All-head P x (xs ++ ys) h) (all_front xs ys (All-tail P x (xs ++ ys) h))

  pub all_back : (xs ys : List X) → All P (xs ++ ys) → All P ys
  all_back [] ys h = h
  all_back (x ∷ xs) ys h = all_back xs ys (All-tail P x (xs ++ ys) h)

-- the elements of a row, and those of its tail
pub row_elements : (id : List ℕ) (elements : List (List ℕ)) (tail : List ℕ) → IsSegment (row_of id elements tail) → All IsPart elements
row_elements id elements tail s = all_front IsPart elements (parted tail) (All-tail IsPart id (elements ++ parted tail) s.characters)

pub row_tail : (id : List ℕ) (elements : List (List ℕ)) (tail : List ℕ) → IsSegment (row_of id elements tail) → All IsPart (parted tail)
row_tail id elements tail s = all_back IsPart elements (parted tail) (All-tail IsPart id (elements ++ parted tail) s.characters)

-- ---- rows and more rows

pub text_of-append : (rows more : List Row) → text_of (rows ++ more) ≡ text_of rows ++ text_of more
text_of-append [] more = refl
text_of-append (row ∷ rows) more = ap (λ (text : List ℕ). line_of row ++ text) (text_of-append rows more) ∙ sym (append_assoc (line_of row) (text_of rows) (text_of more))

pub first_long-append : (rows more : List Row) → first_long (rows ++ more) ≡ (first_long rows or_else first_long more)
first_long-append [] more = refl
first_long-append (row ∷ rows) more =
    elim (cases_Bool (nat_lt SEGMENT_WRITTEN (length (line_of row)))) [
      | inl long ↦ rw long refl
      | inr short ↦ rw short (first_long-append rows more)
    ]

seen : List ℕ → ℕ → SetSoFar
seen text count = record { text = text; count = count }

pub with_more : (rows more : List Row) (old : SetSoFar) → with_rows more (with_rows rows old) ≡ with_rows (rows ++ more) old
unfolding seen
with_more rows more old =
    let text : (old.text ++ text_of rows) ++ text_of more ≡ old.text ++ text_of (rows ++ more) = append_assoc old.text (text_of rows) (text_of more) ∙ ap (λ (t : List ℕ). old.text ++ t) (sym (text_of-append rows more)) in
    let count : old.count + length rows + length more ≡ old.count + length (rows ++ more) = omega (arith, length-append rows more) in
    ap (λ (t : List ℕ). seen t (old.count + length rows + length more)) text ∙ ap (seen (old.text ++ text_of (rows ++ more))) count

pub no_more_rows : (old : SetSoFar) → after_writing [] old ≡ Ok old
unfolding seen
no_more_rows old =
    let count : old.count + 0 ≡ old.count = omega arith in
    ap (λ (t : List ℕ). Ok (seen t (old.count + 0))) (append-nil old.text) ∙ ap (λ (n : ℕ). Ok (seen old.text n)) count

-- what is left to do where these rows were written
then_long : (first second : Option ℕ) (old mid : SetSoFar) (new : SetSoFar) → Ok mid ≡ unless_long first old → unless_long second new ≡ unless_long (first or_else second) new
then_long (Some size) second old mid new e = cc
then_long None second old mid new e = refl

pub were_written : (first : Option ℕ) (old mid : SetSoFar) → Ok mid ≡ unless_long first old → mid ≡ old
were_written (Some size) old mid e = cc
were_written None old mid e = cc

pub then_rows : (rows more : List Row) (old mid : SetSoFar) → Ok mid ≡ after_writing rows old → after_writing more mid ≡ after_writing (rows ++ more) old
then_rows rows more old mid e =
    let is : mid ≡ with_rows rows old = were_written (first_long rows) (with_rows rows old) mid e in
    ap (after_writing more) is
    ∙ ap (unless_long (first_long more)) (with_more rows more old)
    ∙ then_long (first_long rows) (first_long more) (with_rows rows old) mid (with_rows (rows ++ more) old) e
    ∙ ap (λ (long : Option ℕ). unless_long long (with_rows (rows ++ more) old)) (sym (first_long-append rows more))

long_first : (first second : Option ℕ) (old new : SetSoFar) (fault : SegmentWriteFault) → Err fault ≡ unless_long first old → Err fault ≡ unless_long (first or_else second) new
long_first (Some size) second old new fault e =
    let same : fault ≡ LongSegment size = cc in
    ap (λ (f : SegmentWriteFault). Err f) same
long_first None second old new fault e = cc

pub long_rows : (rows more : List Row) (old : SetSoFar) (fault : SegmentWriteFault) → Err fault ≡ after_writing rows old → Err fault ≡ after_writing (rows ++ more) old
long_rows rows more old fault e =
    long_first (first_long rows) (first_long more) (with_rows rows old) (with_rows (rows ++ more) old) fault e
    ∙ ap (λ (long : Option ℕ). unless_long long (with_rows (rows ++ more) old)) (sym (first_long-append rows more))

-- ---- the answers of calls, one after another

abbrev pub Answer : Type 0
Answer = Result SetSoFar SegmentWriteFault

abbrev pub Answers : Answer → Answer → Type 0
Answers answer wanted = UnlessMemory Memory answer wanted

pub was_written : (answer : Answer) (mid : SetSoFar) (wanted : Answer) → answer ≡ Ok mid → Answers answer wanted → Ok mid ≡ wanted
was_written answer mid wanted e (inl none) = let no : Ok mid ≡ Err Memory = sym e ∙ none in cc
was_written answer mid wanted e (inr is) = sym e ∙ is

-- a call on these rows, and then one on more of them
pub both_written : (rows more : List Row) (old mid : SetSoFar) (first second : Answer) → first ≡ Ok mid → Answers first (after_writing rows old) → Answers second (after_writing more mid) → Answers second (after_writing (rows ++ more) old)
both_written rows more old mid first second e h (inl none) = inl none
both_written rows more old mid first second e h (inr is) = inr (is ∙ then_rows rows more old mid (was_written first mid (after_writing rows old) e h))

-- the first of them was refused
pub first_refused : (rows more : List Row) (old : SetSoFar) (first second : Answer) (fault : SegmentWriteFault) → first ≡ Err fault → second ≡ Err fault → Answers first (after_writing rows old) → Answers second (after_writing (rows ++ more) old)
first_refused rows more old first second fault e f (inl none) = inl (f ∙ sym e ∙ none)
first_refused rows more old first second fault e f (inr is) = inr (f ∙ long_rows rows more old fault (sym e ∙ is))

-- ---- rows of the elements of a list

-- what is left to write of them answers as all of them do
abbrev pub IsLeft : {X : Type 0} → (X → List Row) → List X → SetSoFar → ℕ → SetSoFar → Type 0
IsLeft rows_of xs start place now = after_writing (flat_map rows_of (drop place xs)) now ≡ after_writing (flat_map rows_of xs) start

-- an error that is passed on
pub same_err : {X F : Type 0} (r : Result X F) (e : F) → IsErr r × IsErrAnd r (λ (f : F). f ≡ e) → r ≡ Err e
same_err (Ok x) e h = let f : false ≡ true = h.0 in cc (f)
same_err (Err f) e h = ap (λ u. Err u) h.1

-- and one that is passed on by a call whose value is seen by a view
pub passed_on : {X Y E : Type 0} (memory : E) (view : X → Y) (r : Result X E) (e : E) (wanted : Result Y E) → IsErr r × IsErrAnd r (λ (f : E). f ≡ e) → (e ≡ memory) ⊎ (wanted ≡ Err e) → Gives memory view r wanted
passed_on memory view (Ok x) e wanted h given = let f : false ≡ true = h.0 in cc (f)
passed_on memory view (Err f) e wanted h given = subst (λ u. (u ≡ memory) ⊎ (wanted ≡ Err u)) (sym h.1) given

-- at an element of the list
module _ {X : Type 0} (rows_of : X → List Row) (xs : List X) (start now : SetSoFar) (place : ℕ) (x : X) (is : x ≡ get_or xs place x) (inside : place < length xs) (left : IsLeft rows_of xs start place now) where
  left_is : flat_map rows_of (drop place xs) ≡ rows_of x ++ flat_map rows_of (drop (place + 1) xs)
  left_is = ap (flat_map rows_of) (drop_more xs place x inside) ∙ ap (λ (y : X). rows_of y ++ flat_map rows_of (drop (place + 1) xs)) (sym is)

  pub next_left : (answer : Answer) (mid : SetSoFar) → answer ≡ Ok mid → Answers answer (after_writing (rows_of x) now) → IsLeft rows_of xs start (place + 1) mid
  next_left answer mid e h =
      then_rows (rows_of x) (flat_map rows_of (drop (place + 1) xs)) now mid (was_written answer mid (after_writing (rows_of x) now) e h)
      ∙ ap (λ (rows : List Row). after_writing rows now) (sym left_is)
      ∙ left

  pub next_refused : (first second : Answer) (fault : SegmentWriteFault) → first ≡ Err fault → second ≡ Err fault → Answers first (after_writing (rows_of x) now) → Answers second (after_writing (flat_map rows_of xs) start)
  next_refused first second fault e f h =
      subst (Answers second) left
      (subst (λ (rows : List Row). Answers second (after_writing rows now)) (sym left_is)
      (first_refused (rows_of x) (flat_map rows_of (drop (place + 1) xs)) now first second fault e f h))

-- ---- what is asked of the rows of a list's elements

pub mapped_at : {X : Type 0} (row : X → Row) (xs : List X) (place : ℕ) (x : X) → x ≡ get_or xs place x → place < length xs → All IsSegment (map row xs) → IsSegment (row x)
mapped_at row xs place x is inside all =
    let there : place < length (map row xs) = omega (arith, length-map xs row) in
    subst IsSegment (get_or-map row xs place x [] inside ∙ ap row (sym is)) (All-get_or IsSegment (map row xs) place [] there all)

pub rows_at : {X : Type 0} (rows_of : X → List Row) (xs : List X) (place : ℕ) (x : X) → x ≡ get_or xs place x → place < length xs → All IsSegment (flat_map rows_of xs) → All IsSegment (rows_of x)
rows_at rows_of xs place x is inside all =
    let split : flat_map rows_of (drop place xs) ≡ rows_of x ++ flat_map rows_of (drop (place + 1) xs) =
    ap (flat_map rows_of) (drop_more xs place x inside) ∙ ap (λ y. rows_of y ++ flat_map rows_of (drop (place + 1) xs)) (sym is) in
    all_front IsSegment (rows_of x) (flat_map rows_of (drop (place + 1) xs)) (subst (All IsSegment) split (rows_from rows_of xs place all))
  where
    rows_from : {X : Type 0} (rows_of : X → List Row) (xs : List X) (place : ℕ) → All IsSegment (flat_map rows_of xs) → All IsSegment (flat_map rows_of (drop place xs))
    rows_from rows_of xs zero all = all
    rows_from rows_of [] (suc place) all = all
    rows_from rows_of (x ∷ xs) (suc place) all = rows_from rows_of xs place (all_back IsSegment (rows_of x) (flat_map rows_of xs) all)

-- one row for each element
abbrev pub IsLeftOf : {X : Type 0} → (X → Row) → List X → SetSoFar → ℕ → SetSoFar → Type 0
IsLeftOf row xs start place now = IsLeft (λ x. row x ∷ []) xs start place now

-- none is left
pub none_left : {X : Type 0} (rows_of : X → List Row) (xs : List X) (start now : SetSoFar) (place : ℕ) (answer : Answer) → IsLeft rows_of xs start place now → length xs ≤ place → answer ≡ Ok now → Answers answer (after_writing (flat_map rows_of xs) start)
none_left {X} rows_of xs start now place answer left all e =
    inr (e ∙ sym (no_more_rows now) ∙ ap (λ (l : List X). after_writing (flat_map rows_of l) now) (sym (drop_all place xs all)) ∙ left)

pub one_each : {X : Type 0} (row : X → Row) (xs : List X) (start : SetSoFar) (answer : Answer) → Answers answer (after_writing (flat_map (λ (x : X). row x ∷ []) xs) start) → Answers answer (after_writing (map row xs) start)
one_each row xs start answer h = subst (λ (rows : List Row). Answers answer (after_writing rows start)) (flat_map_single row xs) h

-- a loop is there where there are lines
pub loop_is : (form : Form) (lines : List Line) → 0 < length lines → loop_rows form lines ≡ loop_start_row ∷ (flat_map (line_rows form) lines ++ loop_end_row ∷ [])
loop_is form [] some = absurd (omega arith)
loop_is form (line ∷ lines) some = refl

-- rows of one or two elements
pub one_element : (id text : List ℕ) → IsTrue (is_id id) → IsElementText text → IsSegment (row_of id (text ∷ []) [])
one_element id text i h = record {
  characters = All-cons IsPart id (text ∷ []) (id_part id i) (All-cons IsPart text [] (element_part text h) (All-nil IsPart));
  id = i;
  few = omega arith;
}

pub two_elements : (id text next : List ℕ) → IsTrue (is_id id) → IsElementText text → IsElementText next → IsSegment (row_of id (text ∷ next ∷ []) [])
two_elements id text next i h k = record {
  characters = All-cons IsPart id (text ∷ next ∷ []) (id_part id i) (All-cons IsPart text (next ∷ []) (element_part text h) (All-cons IsPart next [] (element_part next k) (All-nil IsPart)));
  id = i;
  few = omega arith;
}

pub not_empty : (size : ℕ) → (size == 0) ≡ false → 0 < size
not_empty size e = grind (arith, nat_tests)
