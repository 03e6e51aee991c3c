-- What is judged behind a text, and how a text grows.
use Rattle.std.proofs.Common.{◌≡◌, ℕ, suc, Bool, ◌+◌, ◌<◌, ◌≤◌, true, false, List, [], ◌∷◌, ◌++◌, length, take, position, None, refl, sym, ◌∙◌, ap, arith, append_assoc, append-nil, length-append}
use Rattle.std.specs.List.{list_all, position_or_len}
use Rattle.std.proofs.lemmas.Bool.Decides.{nat_tests}
use Rattle.std.proofs.lemmas.List.Folds.{list_all-append}
use Rattle.std.proofs.lemmas.List.Sums.{fold-append}
use Rattle.block_check.specs.Crc16.{crc_from, crc_of, crc_step}
use Rattle.dex_line.specs.Bytes.{is_no_text, is_text}
use Rattle.dex_line.specs.FrameSpelling.{opening, most_text, is_closing, IsTextOf}
use Rattle.dex_line.specs.Judging.{judge, judge_text, judge_closing, judge_check}
use Rattle.dex_line.specs.Scanning.{begun, begun_with, judged_at, IsSound, IsTextSoFar, IsTextClosed}
use Rattle.dex_line.specs.declared.frame.Opened.{Opened}
use Rattle.dex_line.specs.declared.frame.Opened.TheVariants as opens
use Rattle.dex_line.specs.declared.begun.Stage.{Stage}
use Rattle.dex_line.specs.declared.begun.Stage.TheVariants.{Idle, Marked, Text, Closing, Check, Low}

-- a text byte goes on the text
text_more : (o : Opened) (done : List ℕ) (b : ℕ) (more : List ℕ) → is_text b ≡ true → length done < most_text o
    → judge_text o done (b ∷ more) ≡ judge_text o (done ++ b ∷ []) more
text_more o done b more is room = grind (arith, nat_tests)

all_head : (b : ℕ) (text : List ℕ) → list_all is_text (b ∷ text) ≡ true
    → (is_text b ≡ true) × (list_all is_text text ≡ true)
all_head b text h = (grind (arith, nat_tests), grind (arith, nat_tests))

-- text bytes go on the text
pub text_past : (o : Opened) (done text rest : List ℕ) → length done + length text ≤ most_text o
    → list_all is_text text ≡ true → judge_text o done (text ++ rest) ≡ judge_text o (done ++ text) rest
text_past o done [] rest fits all = ap (λ t. judge_text o t rest) (sym (append-nil done))
text_past o done (b ∷ text) rest fits all =
    let h = all_head b text all in
    let room : length done < most_text o = omega arith in
    let fits_on : length (done ++ b ∷ []) + length text ≤ most_text o = omega (arith, length-append done (b ∷ [])) in
    text_more o done b (text ++ rest) h.0 room
    ∙ text_past o (done ++ b ∷ []) text rest fits_on h.1
    ∙ ap (λ t. judge_text o t rest) (append_assoc done (b ∷ []) text)

-- behind the opening
pub judge_opened : (o : Opened) (rest : List ℕ) → judge (16 ∷ opening o ∷ rest) ≡ judge_text o [] rest
judge_opened opens.Header rest = refl
judge_opened opens.Block rest = refl

-- behind a text
pub judge_behind : (o : Opened) (text rest : List ℕ) → length text ≤ most_text o → list_all is_text text ≡ true
    → judge (16 ∷ opening o ∷ (text ++ rest)) ≡ judge_text o text rest
judge_behind o text rest fits all = let room : 0 + length text ≤ most_text o = omega arith in judge_opened o (text ++ rest) ∙ text_past o [] text rest room all

pub judge_at_text : (o : Opened) (text : List ℕ) (check b : ℕ) → IsTextSoFar o text check
    → judge (begun (Text o) text ++ b ∷ []) ≡ judge_text o text (b ∷ [])
judge_at_text o text check b s = judge_behind o text (b ∷ []) s.fits s.bytes

-- a DLE is no text byte
pub not_text : is_text 16 ≡ false
unfolding is_text
not_text = refl

-- a DLE ends the text
marks_end : (o : Opened) (text more : List ℕ) → 0 < length text
    → judge_text o text (16 ∷ more) ≡ judge_closing o text more
marks_end o text more some = let n = not_text in grind (arith, nat_tests)

pub judge_behind_mark : (o : Opened) (text more : List ℕ) → IsTextOf o text
    → judge (16 ∷ opening o ∷ (text ++ 16 ∷ more)) ≡ judge_closing o text more
judge_behind_mark o text more t = judge_behind o text (16 ∷ more) t.fits t.bytes ∙ marks_end o text more t.some

pub judge_at_closing : (o : Opened) (text : List ℕ) (b : ℕ) → IsTextOf o text
    → judge (begun (Closing o) text ++ b ∷ []) ≡ judge_closing o text (b ∷ [])
judge_at_closing o text b t =
    ap (λ r. judge (16 ∷ opening o ∷ r)) (append_assoc text (16 ∷ []) (b ∷ [])) ∙ judge_behind_mark o text (b ∷ []) t

-- a closing byte closes it
closing_takes : (o : Opened) (text : List ℕ) (c : ℕ) (more : List ℕ) → is_closing o c ≡ true
    → judge_closing o text (c ∷ more) ≡ judge_check o text c more
closing_takes o text c more h = grind (arith, nat_tests)

pub judge_behind_closing : (o : Opened) (text : List ℕ) (c : ℕ) (more : List ℕ) → IsTextOf o text
    → is_closing o c ≡ true → judge (16 ∷ opening o ∷ (text ++ 16 ∷ c ∷ more)) ≡ judge_check o text c more
judge_behind_closing o text c more t h = judge_behind_mark o text (c ∷ more) t ∙ closing_takes o text c more h

pub judge_at_check : (o : Opened) (c : ℕ) (text : List ℕ) (check b : ℕ) → IsTextClosed o c text check
    → judge (begun (Check o c) text ++ b ∷ []) ≡ None
judge_at_check o c text check b s =
    ap (λ r. judge (16 ∷ opening o ∷ r)) (append_assoc text (16 ∷ c ∷ []) (b ∷ []))
    ∙ judge_behind_closing o text c (b ∷ []) s.whole s.closes

pub judge_at_low : (o : Opened) (c low : ℕ) (text : List ℕ) (check b : ℕ) → IsTextClosed o c text check
    → judge (begun (Low o c low) text ++ b ∷ []) ≡ judge_check o text c (low ∷ b ∷ [])
judge_at_low o c low text check b s =
    ap (λ r. judge (16 ∷ opening o ∷ r)) (append_assoc text (16 ∷ c ∷ low ∷ []) (b ∷ []))
    ∙ judge_behind_closing o text c (low ∷ b ∷ []) s.whole s.closes

-- one more byte
pub text_grows : (o : Opened) (text : List ℕ) (check b : ℕ) → IsTextSoFar o text check → is_text b ≡ true
    → length text < most_text o → IsTextSoFar o (text ++ b ∷ []) (crc_step check b)
text_grows o text check b s is room = record {
  fits = omega (arith, length-append text (b ∷ []));
  bytes = list_all-append is_text text (b ∷ []) ∙ (let a = s.bytes in grind (arith, nat_tests));
  running = ap (λ n. crc_step n b) s.running ∙ sym (fold-append crc_step 0 text (b ∷ []));
}

-- a text with some byte may be closed
pub text_whole : (o : Opened) (text : List ℕ) (check : ℕ) → IsTextSoFar o text check → 0 < length text
    → IsTextOf o text
text_whole o text check s some = record { some = some; fits = s.fits; bytes = s.bytes }

-- a text is closed, and its check with it
pub closes : (o : Opened) (c : ℕ) (text : List ℕ) (check : ℕ) → IsTextOf o text → check ≡ crc_of text
    → is_closing o c ≡ true → IsTextClosed o c text (crc_step check c)
closes o c text check t e h = record { whole = t; closes = h; running = ap (λ n. crc_step n c) e ∙ sym (fold-append crc_step 0 text (c ∷ [])) }

-- at each stage the decision goes on with the next byte
pub judged : (stage : Stage) (text : List ℕ) (check b : ℕ) → IsSound stage text check
    → judge (begun stage text ++ b ∷ []) ≡ judged_at stage text b
judged Idle text check b s = refl
judged Marked text check b s = refl
judged (Text o) text check b s = judge_at_text o text check b s
judged (Closing o) text check b s = judge_at_closing o text b s.0
judged (Check o c) text check b s = judge_at_check o c text check b s
judged (Low o c low) text check b s = judge_at_low o c low text check b s

-- at each stage the bytes grow by the next one
pub grown : (stage : Stage) (text : List ℕ) (b : ℕ) → begun stage text ++ b ∷ [] ≡ begun_with stage text b
grown Idle text b = refl
grown Marked text b = refl
grown (Text o) text b = refl
grown (Closing o) text b = ap (λ r. 16 ∷ opening o ∷ r) (append_assoc text (16 ∷ []) (b ∷ []))
grown (Check o c) text b = ap (λ r. 16 ∷ opening o ∷ r) (append_assoc text (16 ∷ c ∷ []) (b ∷ []))
grown (Low o c low) text b = ap (λ r. 16 ∷ opening o ∷ r) (append_assoc text (16 ∷ c ∷ low ∷ []) (b ∷ []))

-- ---- many bytes of text at once

-- one byte more in front
more_before : (b : ℕ) (bytes : List ℕ) (text : Bool) → is_text b ≡ text
    → list_all is_text (take (position_or_len is_no_text bytes) bytes) ≡ true
    → list_all is_text (take (position_or_len is_no_text (b ∷ bytes)) (b ∷ bytes)) ≡ true
more_before b bytes true is on =
    let one : position_or_len is_no_text (b ∷ bytes) ≡ suc (position_or_len is_no_text bytes) = grind (arith, nat_tests) in
    ap (λ n. list_all is_text (take n (b ∷ bytes))) one ∙ grind (arith, nat_tests)
more_before b bytes false is on =
    let none : position_or_len is_no_text (b ∷ bytes) ≡ 0 = grind (arith, nat_tests) in
    ap (λ n. list_all is_text (take n (b ∷ bytes))) none

-- what stands before the first byte that is no text
pub text_before : (bytes : List ℕ) → list_all is_text (take (position_or_len is_no_text bytes) bytes) ≡ true
text_before [] = refl
text_before (b ∷ bytes) = more_before b bytes (is_text b) refl (text_before bytes)

none_more : (b : ℕ) (bytes : List ℕ) (text : Bool) → is_text b ≡ text → position is_no_text (b ∷ bytes) ≡ None
    → (position is_no_text bytes ≡ None → length bytes ≡ position_or_len is_no_text bytes)
    → length (b ∷ bytes) ≡ position_or_len is_no_text (b ∷ bytes)
none_more b bytes true is none on =
    let next : position is_no_text bytes ≡ None = grind (arith, nat_tests) in
    let e = on next in
    grind (arith, nat_tests)
none_more b bytes false is none on = absurd (grind (arith, nat_tests))

-- where there is no other byte, all are text
pub none_other : (bytes : List ℕ) → position is_no_text bytes ≡ None → length bytes ≡ position_or_len is_no_text bytes
none_other [] none = refl
none_other (b ∷ bytes) none = none_more b bytes (is_text b) refl none (λ next. none_other bytes next)

-- no bytes more
pub grown_none : (stage : Stage) (text bytes : List ℕ) → begun stage text ≡ begun stage text ++ take 0 bytes
grown_none stage text bytes = sym (append-nil (begun stage text))

-- more of a text
pub text_goes_on : (o : Opened) (text run : List ℕ) (check : ℕ) → IsTextSoFar o text check
    → list_all is_text run ≡ true → length text + length run ≤ most_text o
    → IsTextSoFar o (text ++ run) (crc_from check run)
text_goes_on o text run check s is room = record {
  fits = omega (arith, length-append text run);
  bytes = list_all-append is_text text run ∙ (let a = s.bytes in grind (arith, nat_tests));
  running = ap (λ n. crc_from n run) s.running ∙ sym (fold-append crc_step 0 text run);
}
