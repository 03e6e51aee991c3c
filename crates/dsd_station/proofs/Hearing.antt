-- What is due, from one place to the next.
use Rattle.std.proofs.Common.{◌≡◌, ℕ, suc, ◌+◌, ◌-◌, ◌≤◌, ◌<◌, nat_lt, if◌then◌else◌, Bool, true, false, List, [], ◌∷◌, ◌++◌, length, take, drop, map, replicate, get_or, refl, sym, ◌∙◌, ap, subst, arith, length-take, length-drop, append_assoc, append-nil, add-one, inl, inr}
use Rattle.std.proofs.lemmas.List.{drop-map, map-append, length-map, drop-replicate, length-replicate, drop_at, take_at, take_all, drop_all, drop-drop, take-append-drop, length-append}
use Rattle.std.proofs.Math.Seq.{drop-cons}
use Rattle.std.proofs.lemmas.Bool.{cases_lt}
use Rattle.std.proofs.lemmas.Bool.Decides.{nat_tests}
use Rattle.dsd_station.specs.declared.call.Reception.TheVariants.{Piece}
use Rattle.dsd_station.specs.declared.feeding.Fed.{Fed}
use Rattle.dsd_station.specs.declared.feeding.Given.{Given}
use Rattle.dsd_station.specs.declared.feeding.Given.TheVariants.{Bytes, Quiet, Unplugged}
use Rattle.dsd_station.specs.declared.port.Cursor.{Cursor}
use Rattle.dsd_station.specs.Planned.{Due, DueByte, DueQuiet, DueCut, dues_of, leading, heard_of, left_due}
use Rattle.dsd_station.specs.Cursors.{due_of, due_behind, due_at, IsInPiece, IsIn, IsMark, NoByteNext, mark_of, advanced}

leading-append : (bytes : List ℕ) (rest : List Due) → leading (map DueByte bytes ++ rest) ≡ bytes ++ leading rest
leading-append [] rest = refl
leading-append (b ∷ bytes) rest = ap (λ (l : List ℕ). b ∷ l) (leading-append bytes rest)

-- these are as many bytes as one `listen` takes
front_of : (bytes after : List ℕ) → length bytes ≤ 64 → (length bytes < 64 → after ≡ []) → take 64 (bytes ++ after) ≡ bytes
front_of bytes after most end = elim (cases_lt (length bytes) 64) [
  | inl less ↦ ap (λ (l : List ℕ). take 64 (bytes ++ l)) (end less) ∙ ap (λ (l : List ℕ). take 64 l) (append-nil bytes) ∙ take_all 64 bytes most
  | inr all ↦ take_at bytes after 64 (omega (arith, most, all))
]

bytes_heard : (bytes : List ℕ) (rest dues : List Due) → dues ≡ map DueByte bytes ++ rest → 0 < length bytes → length bytes ≤ 64 → (length bytes < 64 → leading rest ≡ []) → heard_of dues ≡ Piece bytes
bytes_heard [] rest dues is some most end = absurd (omega (arith, some))
bytes_heard (b ∷ bytes) rest dues is some most end =
    ap heard_of is ∙ ap (λ (l : List ℕ). Piece (take 64 l)) (leading-append (b ∷ bytes) rest) ∙ ap Piece (front_of (b ∷ bytes) (leading rest) most end)

bytes_left : (bytes : List ℕ) (rest dues : List Due) → dues ≡ map DueByte bytes ++ rest → 0 < length bytes → length bytes ≤ 64 → (length bytes < 64 → leading rest ≡ []) → rest ≡ left_due dues
bytes_left [] rest dues is some most end = absurd (omega (arith, some))
bytes_left (b ∷ bytes) rest dues is some most end =
    let all : List Due = map DueByte (b ∷ bytes) ++ rest in
    let count : length (take 64 (leading all)) ≡ length (b ∷ bytes) = ap (λ (l : List ℕ). length (take 64 l)) (leading-append (b ∷ bytes) rest) ∙ ap length (front_of (b ∷ bytes) (leading rest) most end) in
    sym (ap left_due is ∙ ap (λ (n : ℕ). drop n all) count ∙ drop_at (map DueByte (b ∷ bytes)) rest (length (b ∷ bytes)) (length-map (b ∷ bytes) DueByte))

replicate_some : (n k : ℕ) → n ≡ k + 1 → replicate n DueQuiet ≡ DueQuiet ∷ replicate k DueQuiet
replicate_some n k is = ap (λ (m : ℕ). replicate m DueQuiet) (is ∙ add-one k)

-- a time of a quiet piece that is left
quiet_is : (times offset : ℕ) → offset < times → drop offset (replicate times DueQuiet) ≡ DueQuiet ∷ drop (offset + 1) (replicate times DueQuiet)
quiet_is times offset less =
    let left : times - offset ≡ (times - (offset + 1)) + 1 = omega (arith, less) in
    drop-replicate offset times DueQuiet ∙ replicate_some (times - offset) (times - (offset + 1)) left ∙ ap (λ (l : List Due). DueQuiet ∷ l) (sym (drop-replicate (offset + 1) times DueQuiet))

pub mark_heard : (given : Given) (offset : ℕ) (rest : List Due) → IsMark given offset → heard_of (drop offset (dues_of given) ++ rest) ≡ mark_of given
mark_heard (Bytes bytes) offset rest mark = absurd mark
mark_heard (Quiet times) offset rest mark = ap (λ (l : List Due). heard_of (l ++ rest)) (quiet_is times offset mark)
mark_heard Unplugged offset rest mark = ap (λ (n : ℕ). heard_of (drop n (DueCut ∷ []) ++ rest)) mark

pub mark_left : (given : Given) (offset : ℕ) (rest : List Due) → IsMark given offset → drop (offset + 1) (dues_of given) ++ rest ≡ left_due (drop offset (dues_of given) ++ rest)
mark_left (Bytes bytes) offset rest mark = absurd mark
mark_left (Quiet times) offset rest mark = sym (ap (λ (l : List Due). left_due (l ++ rest)) (quiet_is times offset mark))
mark_left Unplugged offset rest mark = ap (λ (n : ℕ). drop (n + 1) (DueCut ∷ []) ++ rest) mark ∙ sym (ap (λ (n : ℕ). left_due (drop n (DueCut ∷ []) ++ rest)) mark)

pub mark_within : (given : Given) (offset : ℕ) → IsMark given offset → offset + 1 ≤ length (dues_of given)
mark_within (Bytes bytes) offset mark = absurd mark
mark_within (Quiet times) offset mark = omega (arith, mark, length-replicate times DueQuiet)
mark_within Unplugged offset mark = omega (arith, mark)

mark_leads : (given : Given) (offset : ℕ) (rest : List Due) → IsMark given offset → leading (drop offset (dues_of given) ++ rest) ≡ []
mark_leads (Bytes bytes) offset rest mark = absurd mark
mark_leads (Quiet times) offset rest mark = ap (λ (l : List Due). leading (l ++ rest)) (quiet_is times offset mark)
mark_leads Unplugged offset rest mark = ap (λ (n : ℕ). leading (drop n (DueCut ∷ []) ++ rest)) mark

no_byte_leads : (offset : ℕ) (fed : List Fed) → NoByteNext offset fed → leading (due_behind offset fed) ≡ []
no_byte_leads offset [] none = refl
no_byte_leads offset (one ∷ fed) none = mark_leads one.given offset (due_of fed) none

-- after the bytes that were taken
pub heard_bytes : (fed : List Fed) (from at : Cursor) (into : List ℕ) (count : ℕ) → due_at fed from ≡ map DueByte (take count into) ++ due_at fed at → 0 < count → count ≤ 64 → length into ≡ 64
    → (count < 64 → NoByteNext at.offset (drop at.head fed)) → Piece (take count into) ≡ heard_of (due_at fed from)
heard_bytes fed from at into count is some most long end =
    let size : length (take count into) ≡ count = omega (arith, length-take count into) in
    sym (bytes_heard (take count into) (due_at fed at) (due_at fed from) is (omega (arith, size)) (omega (arith, size)) (λ less. no_byte_leads at.offset (drop at.head fed) (end (omega (arith, size, less)))))

pub left_behind_bytes : (fed : List Fed) (from at : Cursor) (into : List ℕ) (count : ℕ) → due_at fed from ≡ map DueByte (take count into) ++ due_at fed at → 0 < count → count ≤ 64 → length into ≡ 64
    → (count < 64 → NoByteNext at.offset (drop at.head fed)) → due_at fed at ≡ left_due (due_at fed from)
left_behind_bytes fed from at into count is some most long end =
    let size : length (take count into) ≡ count = omega (arith, length-take count into) in
    bytes_left (take count into) (due_at fed at) (due_at fed from) is (omega (arith, size)) (omega (arith, size)) (λ less. no_byte_leads at.offset (drop at.head fed) (end (omega (arith, size, less))))

-- the piece at a head
pub head_is : (fed : List Fed) (head : ℕ) (one : Fed) → head < length fed → one ≡ get_or fed head one → drop head fed ≡ one ∷ drop (head + 1) fed
head_is fed head one less is = drop-cons fed head one less ∙ ap (λ (o : Fed). o ∷ drop (suc head) fed) (sym is) ∙ ap (λ (n : ℕ). one ∷ drop n fed) (sym (add-one head))

due_behind_none : (fed : List Fed) → due_behind 0 fed ≡ due_of fed
due_behind_none [] = refl
due_behind_none (one ∷ fed) = refl

none_in_piece : (fed : List Fed) → IsInPiece 0 fed
none_in_piece [] = refl
none_in_piece (one ∷ fed) = omega arith

-- a place further within the head, or behind it
module _ (fed : List Fed) (at : Cursor) (one : Fed) (rest : List ℕ) (taken : ℕ) (here : drop at.head fed ≡ one ∷ drop (at.head + 1) fed) (left : drop at.offset (dues_of one.given) ≡ map DueByte rest) where
  due_here : due_at fed at ≡ map DueByte rest ++ due_of (drop (at.head + 1) fed)
  due_here = ap (λ (l : List Fed). due_behind at.offset l) here ∙ ap (λ (l : List Due). l ++ due_of (drop (at.head + 1) fed)) left

  within_due : taken < length rest → due_at fed (record { head = at.head; offset = at.offset + taken }) ≡ map DueByte (drop taken rest) ++ due_of (drop (at.head + 1) fed)
  within_due less =
      ap (λ (l : List Fed). due_behind (at.offset + taken) l) here
      ∙ ap (λ (l : List Due). l ++ due_of (drop (at.head + 1) fed)) (sym (drop-drop taken at.offset (dues_of one.given)) ∙ ap (λ (l : List Due). drop taken l) left ∙ drop-map DueByte taken rest)

  further_within : taken < length rest → due_at fed at ≡ map DueByte (take taken rest) ++ due_at fed (record { head = at.head; offset = at.offset + taken })
  further_within less =
      let joined : map DueByte rest ≡ map DueByte (take taken rest) ++ map DueByte (drop taken rest) = ap (λ (l : List ℕ). map DueByte l) (sym (take-append-drop taken rest)) ∙ map-append DueByte (take taken rest) (drop taken rest) in
      due_here ∙ ap (λ (l : List Due). l ++ due_of (drop (at.head + 1) fed)) joined ∙ append_assoc (map DueByte (take taken rest)) (map DueByte (drop taken rest)) (due_of (drop (at.head + 1) fed))
      ∙ ap (λ (l : List Due). map DueByte (take taken rest) ++ l) (sym (within_due less))

  further_behind : length rest ≤ taken → due_at fed at ≡ map DueByte (take taken rest) ++ due_at fed (record { head = at.head + 1; offset = 0 })
  further_behind all =
      due_here ∙ ap (λ (l : List ℕ). map DueByte l ++ due_of (drop (at.head + 1) fed)) (sym (take_all taken rest all))
      ∙ ap (λ (l : List Due). map DueByte (take taken rest) ++ l) (sym (due_behind_none (drop (at.head + 1) fed)))

  long : length (dues_of one.given) - at.offset ≡ length rest
  long = sym (length-drop at.offset (dues_of one.given)) ∙ ap length left ∙ length-map rest DueByte

  in_within : at.head < length fed → taken < length rest → IsIn fed (record { head = at.head; offset = at.offset + taken })
  in_within some less = record { head = omega (arith, some); piece = subst (λ l. IsInPiece (at.offset + taken) l) (sym here) (omega (arith, long, less)) }

  in_behind : at.head < length fed → IsIn fed (record { head = at.head + 1; offset = 0 })
  in_behind some = record { head = omega (arith, some); piece = none_in_piece (drop (at.head + 1) fed) }

  pub further_due : taken ≤ length rest → due_at fed at ≡ map DueByte (take taken rest) ++ due_at fed (advanced at taken (length rest))
  further_due most = elim (cases_lt taken (length rest)) [
    | inl less ↦ let yes : nat_lt taken (length rest) ≡ true = grind (arith, nat_tests) in
        further_within less ∙ ap (λ (b : Bool). map DueByte (take taken rest) ++ due_at fed (if b then record { head = at.head; offset = at.offset + taken } else record { head = at.head + 1; offset = 0 })) (sym yes)
    | inr all ↦ let no : nat_lt taken (length rest) ≡ false = grind (arith, nat_tests) in
        further_behind all ∙ ap (λ (b : Bool). map DueByte (take taken rest) ++ due_at fed (if b then record { head = at.head; offset = at.offset + taken } else record { head = at.head + 1; offset = 0 })) (sym no)
  ]

  pub further_in : at.head < length fed → IsIn fed (advanced at taken (length rest))
  further_in some = elim (cases_lt taken (length rest)) [
    | inl less ↦ let yes : nat_lt taken (length rest) ≡ true = grind (arith, nat_tests) in
        subst (λ (b : Bool). IsIn fed (if b then record { head = at.head; offset = at.offset + taken } else record { head = at.head + 1; offset = 0 })) (sym yes) (in_within some less)
    | inr all ↦ let no : nat_lt taken (length rest) ≡ false = grind (arith, nat_tests) in
        subst (λ (b : Bool). IsIn fed (if b then record { head = at.head; offset = at.offset + taken } else record { head = at.head + 1; offset = 0 })) (sym no) (in_behind some)
  ]

pub here_at : (fed : List Fed) (head : ℕ) (d : Fed) → head < length fed → drop head fed ≡ get_or fed head d ∷ drop (head + 1) fed
here_at fed head d less = drop-cons fed head d less ∙ ap (λ (n : ℕ). get_or fed head d ∷ drop n fed) (sym (add-one head))

pub in_here : (fed : List Fed) (at : Cursor) (one : Fed) → drop at.head fed ≡ one ∷ drop (at.head + 1) fed → IsIn fed at → at.offset ≤ length (dues_of one.given)
in_here fed at one here inside = subst (λ l. IsInPiece at.offset l) here inside.piece

-- with the bytes of one piece more
pub heard_more : (fed : List Fed) (from at next : Cursor) (one : Fed) (rest into filled : List ℕ) (count taken : ℕ) → drop at.head fed ≡ one ∷ drop (at.head + 1) fed
    → drop at.offset (dues_of one.given) ≡ map DueByte rest → taken ≤ length rest → next ≡ advanced at taken (length rest) → take (count + taken) filled ≡ take count into ++ take taken rest
    → due_at fed from ≡ map DueByte (take count into) ++ due_at fed at → due_at fed from ≡ map DueByte (take (count + taken) filled) ++ due_at fed next
heard_more fed from at next one rest into filled count taken here left most is fills was =
    let front : List Due = map DueByte (take count into) in
    was
    ∙ ap (λ (d : List Due). front ++ d) (further_due fed at one rest taken here left most)
    ∙ sym (append_assoc front (map DueByte (take taken rest)) (due_at fed (advanced at taken (length rest))))
    ∙ ap (λ (d : List Due). d ++ due_at fed (advanced at taken (length rest))) (sym (map-append DueByte (take count into) (take taken rest)) ∙ ap (λ (l : List ℕ). map DueByte l) (sym fills))
    ∙ ap (λ (c : Cursor). map DueByte (take (count + taken) filled) ++ due_at fed c) (sym is)

pub inside_more : (fed : List Fed) (at next : Cursor) (one : Fed) (rest : List ℕ) (taken : ℕ) → drop at.head fed ≡ one ∷ drop (at.head + 1) fed → drop at.offset (dues_of one.given) ≡ map DueByte rest
    → next ≡ advanced at taken (length rest) → at.head < length fed → IsIn fed next
inside_more fed at next one rest taken here left is some = subst (λ c. IsIn fed c) (sym is) (further_in fed at one rest taken here left some)

-- a piece that gives no byte next
module _ (fed : List Fed) (at : Cursor) (one : Fed) (here : drop at.head fed ≡ one ∷ drop (at.head + 1) fed) (mark : IsMark one.given at.offset) where
  pub mark_heard_at : heard_of (due_at fed at) ≡ mark_of one.given
  mark_heard_at = ap (λ (l : List Fed). heard_of (due_behind at.offset l)) here ∙ mark_heard one.given at.offset (due_of (drop (at.head + 1) fed)) mark

  pub mark_left_at : due_at fed (record { head = at.head; offset = at.offset + 1 }) ≡ left_due (due_at fed at)
  mark_left_at =
      ap (λ (l : List Fed). due_behind (at.offset + 1) l) here ∙ mark_left one.given at.offset (due_of (drop (at.head + 1) fed)) mark
      ∙ ap (λ (l : List Fed). left_due (due_behind at.offset l)) (sym here)

  pub mark_in : at.head < length fed → IsIn fed (record { head = at.head; offset = at.offset + 1 })
  mark_in some = record { head = omega (arith, some); piece = subst (λ l. IsInPiece (at.offset + 1) l) (sym here) (mark_within one.given at.offset mark) }

pub mark_here : (fed : List Fed) (at : Cursor) (one : Fed) → drop at.head fed ≡ one ∷ drop (at.head + 1) fed → NoByteNext at.offset (drop at.head fed) → IsMark one.given at.offset
mark_here fed at one here none = subst (λ l. NoByteNext at.offset l) here none

due_from_start : (fed : List Fed) → due_of fed ≡ due_behind 0 fed
due_from_start [] = refl
due_from_start (one ∷ fed) = refl

-- nothing more comes of this piece
pub none_here : (fed : List Fed) (at : Cursor) (one : Fed) → drop at.head fed ≡ one ∷ drop (at.head + 1) fed → length (dues_of one.given) ≤ at.offset → due_at fed at ≡ due_at fed (record { head = at.head + 1; offset = 0 })
none_here fed at one here none =
    ap (λ (l : List Fed). due_behind at.offset l) here ∙ ap (λ (l : List Due). l ++ due_of (drop (at.head + 1) fed)) (drop_all at.offset (dues_of one.given) none)
    ∙ due_from_start (drop (at.head + 1) fed)

pub some_here : (fed : List Fed) (at : Cursor) (one : Fed) → drop at.head fed ≡ one ∷ drop (at.head + 1) fed → at.offset < length (dues_of one.given) → 0 < length (due_at fed at)
some_here fed at one here some =
    omega (arith, ap (λ (l : List Fed). length (due_behind at.offset l)) here, length-append (drop at.offset (dues_of one.given)) (due_of (drop (at.head + 1) fed)), length-drop at.offset (dues_of one.given), some)

pub none_behind : (fed : List Fed) (at : Cursor) → length fed ≤ at.head → due_at fed at ≡ []
none_behind fed at all = ap (λ (l : List Fed). due_behind at.offset l) (drop_all at.head fed all)
