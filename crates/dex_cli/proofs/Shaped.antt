-- The words of each job have a shape that is taken.
use Rattle.std.proofs.Common.{◌≡◌, inl, inr, ◌<◌, ◌≤◌, ℕ, ◌==◌, not, true, false, List, [], ◌∷◌, length, codes, Ok, refl, arith}
use Rattle.std.specs.Char.{IsAsciiDigit}
use Rattle.std.specs.List.{All}
use Rattle.std.proofs.lemmas.Bool.Decides.{nat_tests}
use Rattle.std.proofs.lemmas.List.Elements.{All-head}
use Rattle.dsd_values.specs.Reading.{is_no_id_byte, number_of}
use Rattle.dsd_values.proofs.Laws.{number_law}
use Rattle.dsd_values.proofs.Refusals.{all_pass}
use Rattle.dsd_journal.specs.Headers.{IsId}
use Rattle.dsd_values.specs.declared.role.Role.{Role}
use Rattle.dsd_values.specs.declared.role.Role.TheVariants.{Receiver, Supplier}
use Rattle.job_words.specs.Shapes.{AreShaped, HasOne, HasThree, HasTwo, is_plain}
use Rattle.dex_cli.specs.EndWords.{SpellsEnd}
use Rattle.dex_cli.specs.FormatWords.{role_word}
use Rattle.dex_cli.specs.Names.{IsName}
use Rattle.dex_cli.specs.Words.{IsOfNoJob, Spells}
use Rattle.dex_cli.specs.declared.end_words.EndNames.{EndNames}
use Rattle.dex_cli.specs.declared.words.CheckKind.{CheckKind}
use Rattle.dex_cli.specs.declared.words.CheckKind.TheVariants as checks
use Rattle.dex_cli.specs.declared.words.Job.{Job}
use Rattle.dex_cli.specs.declared.words.Job.TheVariants as jobs

name_plain : (word : List ℕ) → IsName word → is_plain word ≡ true
name_plain [] name = absurd name
name_plain (byte ∷ bytes) name = grind (arith, nat_tests)

digits_plain : (text : List ℕ) → 0 < length text → All IsAsciiDigit text → is_plain text ≡ true
digits_plain [] some digits = absurd (omega arith)
digits_plain (byte ∷ bytes) some digits = let first = All-head IsAsciiDigit byte bytes digits in let least : 48 ≤ byte = first.0 in grind (arith, nat_tests)

number_plain : (text : List ℕ) (count : ℕ) → number_of 1 200 text ≡ Ok count → is_plain text ≡ true
number_plain text count is = let s = (number_law 1 200 text count).0 is in digits_plain text s.filled s.digits

check_shaped : (kind : CheckKind) (words : List (List ℕ)) → Spells (jobs.Check kind) words → HasOne (codes "check") words
check_shaped checks.Set words is = record { one = codes "set"; plain = refl; words_are = is }
check_shaped checks.Text words is = record { one = codes "text"; plain = refl; words_are = is }
check_shaped checks.Line words is = record { one = codes "line"; plain = refl; words_are = is }

id_byte_plain : (byte : ℕ) → is_no_id_byte byte ≡ false → not (byte == 45) ≡ true
id_byte_plain byte h = grind (arith, nat_tests)

id_plain : (id : List ℕ) → IsId id → is_plain id ≡ true
id_plain [] is = absurd (omega (arith, is.ten))
id_plain (byte ∷ bytes) is = All-head (λ (b : ℕ). not (b == 45) ≡ true) byte bytes (all_pass is_no_id_byte (λ (b : ℕ). not (b == 45) ≡ true) id_byte_plain (byte ∷ bytes) is.text)

two_shaped : (role : Role) (names : EndNames) (words : List (List ℕ)) → SpellsEnd role names words → HasTwo (role_word role) words
two_shaped role names words s =
    record { one = names.journal; two = names.port; one_plain = name_plain names.journal s.journal_name; two_plain = name_plain names.port s.port_name; words_are = s.words_are }

three_shaped : (role : Role) (own peer journal : List ℕ) (words : List (List ℕ)) → IsId own → IsId peer → IsName journal → words ≡ codes "format" ∷ role_word role ∷ own ∷ peer ∷ journal ∷ []
    → HasThree (codes "format") (role_word role) words
three_shaped role own peer journal words p q r is =
    record { one = own; two = peer; three = journal; one_plain = id_plain own p; two_plain = id_plain peer q; three_plain = name_plain journal r; words_are = is }

new_shaped : (role : Role) (own peer journal : List ℕ) (words : List (List ℕ)) → IsId own → IsId peer → IsName journal → words ≡ codes "format" ∷ role_word role ∷ own ∷ peer ∷ journal ∷ [] → AreShaped words
new_shaped Supplier own peer journal words p q r is = inr (inr (inr (inr (inr (inr (inl (three_shaped Supplier own peer journal words p q r is)))))))
new_shaped Receiver own peer journal words p q r is = inr (inr (inr (inr (inr (inr (inr (three_shaped Receiver own peer journal words p q r is)))))))

job_shaped : (job : Job) (words : List (List ℕ)) → Spells job words → AreShaped words
job_shaped (jobs.Check kind) words s = inr (inl (check_shaped kind words s))
job_shaped (jobs.Format new) words s = new_shaped new.header.role new.header.own new.header.peer new.journal words s.header.own s.header.peer s.name s.words_are
job_shaped (jobs.Show journal) words s = inr (inr (inl (record { one = journal; plain = name_plain journal s.name; words_are = s.words_are })))
job_shaped (jobs.Handheld names) words s = inr (inr (inr (inr (inl (two_shaped Supplier names words s)))))
job_shaped (jobs.Receiver names) words s = inr (inr (inr (inr (inr (inl (two_shaped Receiver names words s))))))
job_shaped jobs.Replay words s = inl s
job_shaped (jobs.Load count) words s = inr (inr (inr (inl (record { one = s.text; plain = number_plain s.text count s.number; words_are = s.words_are }))))

-- words of no such shape are those of no job
pub no_job : (words : List (List ℕ)) → (AreShaped words → ⊥) → IsOfNoJob words
no_job words none job spells = none (job_shaped job words spells)
