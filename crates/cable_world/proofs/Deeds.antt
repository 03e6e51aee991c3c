-- What the leading word of an event says, and what the words behind it say.
use Rattle.std.proofs.Common.{◌≡◌, ℕ, bytes_eq, Bool, true, false, List, [], ◌∷◌, position, codes, Option, Some, None, Result, Ok, Err, if◌then◌else◌, refl, sym, ap, ◌∙◌, arith}
use Rattle.std.specs.Option.{option_or}
use Rattle.std.proofs.lemmas.Bool.Decides.{nat_tests}
use Rattle.std.proofs.lemmas.Slice.Eq.{bytes_eq-Decides}
use Rattle.hex.specs.Hex.{decode_of, is_hex_digit}
use Rattle.hex.specs.declared.error.FromHexError.{FromHexError}
use Rattle.hex.proofs.HexLemmas.{decode_of-ok}
use Rattle.dsd_values.proofs.Refusals.{filled_gives, filled_ok, none_outside}
use Rattle.dsd_values.specs.declared.fault.ValueFault.{ValueFault}
use Rattle.dsd_values.specs.declared.fault.ValueFault.TheVariants.{OutOfRange}
use Rattle.dsd_values.specs.declared.role.Role.{Role}
use Rattle.dsd_values.specs.declared.role.Role.TheVariants.{Receiver, Supplier}
use Rattle.dsd_station.specs.declared.call.Pick.{Pick}
use Rattle.dsd_station.specs.declared.call.Pick.TheVariants.{Drop, Half, Keep}
use Rattle.plain_lines.specs.PlainText.{LineSeen, leads, piece_of}
use Rattle.cable_world.specs.EventLines.{SpellsBytes, end_text, pick_text}
use Rattle.cable_world.specs.EventReading.{bytes_of, cable_deed, deed_named, deed_of, end_deed, end_of, is_no_digit, pick_of, unless_odd}
use Rattle.cable_world.specs.declared.deed.Deed.{Deed}
use Rattle.cable_world.specs.declared.deed.Deed.TheVariants as deeds

-- ---- the leading word

-- the leading word of each
abbrev pub deed_word : Deed → List ℕ
deed_word deeds.Start = codes "START"
deed_word deeds.Pass = codes "PASS"
deed_word deeds.Lose = codes "LOSE"
deed_word deeds.Break = codes "BREAK"
deed_word deeds.Again = codes "AGAIN"
deed_word deeds.Quiet = codes "QUIET"
deed_word deeds.Unplug = codes "UNPLUG"
deed_word deeds.Hear = codes "HEAR"
deed_word deeds.Stop = codes "STOP"
deed_word deeds.Fail = codes "FAIL"
deed_word deeds.Clean = codes "CLEAN"

-- of tests in a row the first that holds decides
row : (word other : List ℕ) (one deed : Deed) (rest : Option Deed) → deed_word one ≡ other → (rest ≡ Some deed → bytes_eq word (deed_word deed) ≡ true)
    → (if bytes_eq word other then Some one else rest) ≡ Some deed → bytes_eq word (deed_word deed) ≡ true
row word other one deed rest is otherwise e = by (bytes_eq word other) refl e
  where
    by : (b : Bool) → bytes_eq word other ≡ b → (if b then Some one else rest) ≡ Some deed → bytes_eq word (deed_word deed) ≡ true
    by true holds e = let same : one ≡ deed = cc (e) in ap (λ (d : Deed). bytes_eq word (deed_word d)) (sym same) ∙ ap (bytes_eq word) is ∙ holds
    by false holds e = otherwise e

none_left : (word : List ℕ) (deed : Deed) → (let o : Option Deed = None in o) ≡ Some deed → bytes_eq word (deed_word deed) ≡ true
none_left word deed e = cc (e)

end_deed_is : (word : List ℕ) (deed : Deed) → end_deed word ≡ Some deed → bytes_eq word (deed_word deed) ≡ true
end_deed_is word deed =
    row word (codes "START") deeds.Start deed _ refl
    (row word (codes "AGAIN") deeds.Again deed _ refl
    (row word (codes "QUIET") deeds.Quiet deed _ refl
    (row word (codes "HEAR") deeds.Hear deed _ refl
    (row word (codes "STOP") deeds.Stop deed _ refl
    (row word (codes "FAIL") deeds.Fail deed _ refl (none_left word deed))))))

cable_deed_is : (word : List ℕ) (deed : Deed) → cable_deed word ≡ Some deed → bytes_eq word (deed_word deed) ≡ true
cable_deed_is word deed =
    row word (codes "PASS") deeds.Pass deed _ refl
    (row word (codes "LOSE") deeds.Lose deed _ refl
    (row word (codes "BREAK") deeds.Break deed _ refl
    (row word (codes "UNPLUG") deeds.Unplug deed _ refl
    (row word (codes "CLEAN") deeds.Clean deed _ refl (none_left word deed)))))

pub deed_leads : (line : LineSeen) (deed : Deed) → deed_of line ≡ Some deed → leads line (deed_word deed) ≡ true
deed_leads line deed e = by (cable_deed (piece_of line 0)) refl e
  where
    by : (o : Option Deed) → cable_deed (piece_of line 0) ≡ o → option_or o (end_deed (piece_of line 0)) ≡ Some deed → leads line (deed_word deed) ≡ true
    by (Some one) is e = cable_deed_is (piece_of line 0) deed (is ∙ e)
    by None is e = end_deed_is (piece_of line 0) deed e

deed_of_word : (deed : Deed) → deed_named (deed_word deed) ≡ Some deed
deed_of_word deeds.Start = refl
deed_of_word deeds.Pass = refl
deed_of_word deeds.Lose = refl
deed_of_word deeds.Break = refl
deed_of_word deeds.Again = refl
deed_of_word deeds.Quiet = refl
deed_of_word deeds.Unplug = refl
deed_of_word deeds.Hear = refl
deed_of_word deeds.Stop = refl
deed_of_word deeds.Fail = refl
deed_of_word deeds.Clean = refl

pub deed_led : (line : LineSeen) (deed : Deed) → leads line (deed_word deed) ≡ true → deed_of line ≡ Some deed
deed_led line deed leading = ap deed_named ((bytes_eq-Decides (piece_of line 0) (deed_word deed)).0 leading) ∙ deed_of_word deed

-- ---- the words behind it

pub end_said : (text : List ℕ) (role : Role) → end_of text ≡ Ok role → text ≡ end_text role
end_said [] role e = cc (e)
end_said (b ∷ more) role e = by (bytes_eq (b ∷ more) (codes "H")) (bytes_eq (b ∷ more) (codes "R")) (bytes_eq-Decides (b ∷ more) (codes "H")).0 (bytes_eq-Decides (b ∷ more) (codes "R")).0 role e
  where
    by : (h r : Bool) → (h ≡ true → b ∷ more ≡ codes "H") → (r ≡ true → b ∷ more ≡ codes "R") → (role : Role)
        → (let x : Result Role ValueFault = if h then Ok Supplier else if r then Ok Receiver else Err OutOfRange in x) ≡ Ok role → b ∷ more ≡ end_text role
    by true r h_is r_is Supplier e = h_is refl
    by true r h_is r_is Receiver e = cc (e)
    by false true h_is r_is Receiver e = r_is refl
    by false true h_is r_is Supplier e = cc (e)
    by false false h_is r_is role e = cc (e)

pub end_again : (role : Role) → end_of (end_text role) ≡ Ok role
end_again Supplier = refl
end_again Receiver = refl

pub pick_said : (text : List ℕ) (pick : Pick) → pick_of text ≡ Ok pick → text ≡ pick_text pick
pick_said [] pick e = cc (e)
pick_said (b ∷ more) pick e =
    by (bytes_eq (b ∷ more) (codes "KEEP")) (bytes_eq (b ∷ more) (codes "DROP")) (bytes_eq (b ∷ more) (codes "HALF"))
    (bytes_eq-Decides (b ∷ more) (codes "KEEP")).0 (bytes_eq-Decides (b ∷ more) (codes "DROP")).0 (bytes_eq-Decides (b ∷ more) (codes "HALF")).0 pick e
  where
    by : (k d h : Bool) → (k ≡ true → b ∷ more ≡ codes "KEEP") → (d ≡ true → b ∷ more ≡ codes "DROP") → (h ≡ true → b ∷ more ≡ codes "HALF") → (pick : Pick)
        → (let x : Result Pick ValueFault = if k then Ok Keep else if d then Ok Drop else if h then Ok Half else Err OutOfRange in x) ≡ Ok pick → b ∷ more ≡ pick_text pick
    by true d h k_is d_is h_is pick e = let same : Keep ≡ pick = cc (e) in k_is refl ∙ ap pick_text same
    by false true h k_is d_is h_is pick e = let same : Drop ≡ pick = cc (e) in d_is refl ∙ ap pick_text same
    by false false true k_is d_is h_is pick e = let same : Half ≡ pick = cc (e) in h_is refl ∙ ap pick_text same
    by false false false k_is d_is h_is pick e = cc (e)

pub pick_again : (pick : Pick) → pick_of (pick_text pick) ≡ Ok pick
pick_again Keep = refl
pick_again Drop = refl
pick_again Half = refl

-- ---- digits

odd_gone : (r : Result (List ℕ) FromHexError) (bytes : List ℕ) → unless_odd r ≡ Ok bytes → r ≡ Ok bytes
odd_gone (Ok x) bytes e = let same : x ≡ bytes = cc (e) in ap (λ (y : List ℕ). Ok y) same
odd_gone (Err fault) bytes e = cc (e)

digit_passes : (b : ℕ) → is_hex_digit b ≡ true → is_no_digit b ≡ false
digit_passes b h = grind (arith, nat_tests)

pub bytes_said : (text bytes : List ℕ) → bytes_of text ≡ Ok bytes → SpellsBytes bytes text
bytes_said text bytes e =
    let h = filled_ok (List ℕ) 1_024 (position is_no_digit text) text (unless_odd (decode_of text)) bytes e in
    record { filled = h.some; short = h.short; digits = odd_gone (decode_of text) bytes h.is }

pub bytes_again : (text bytes : List ℕ) → SpellsBytes bytes text → bytes_of text ≡ Ok bytes
bytes_again text bytes s =
    let digits = decode_of-ok text bytes s.digits in
    filled_gives (List ℕ) 1_024 (position is_no_digit text) text (unless_odd (decode_of text)) s.filled s.short (none_outside is_no_digit (λ (b : ℕ). is_hex_digit b ≡ true) digit_passes text digits.1)
    ∙ ap unless_odd s.digits
