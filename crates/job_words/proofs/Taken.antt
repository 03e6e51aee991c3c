-- The words of each job are taken.
use Rattle.std.proofs.Common.{◌≡◌, inl, inr, ◌&&◌, ℕ, Bool, not, List, [], ◌∷◌, true, false, eqb, refl, ap, ◌∙◌, codes, Result, Ok, Err, IfOk}
use Rattle.std.specs.List.{list_all}
use Rattle.clap.specs.Words.{AddsSubcommand, App, app_of, takes, with_subcommand}
use Rattle.clap.specs.declared.builder.command.Command.{Command}
use Rattle.clap.proofs.OnLiterals.{clap_on_literals}
use Rattle.job_words.specs.Command.{dex}
use Rattle.job_words.specs.Shapes.{AreShaped, is_plain}

replay_taken : takes dex (codes "replay" ∷ []) ≡ true
unfolding clap_on_literals
replay_taken = refl

show_taken : (b : ℕ) (rest : List ℕ) → eqb b 45 ≡ false → takes dex (codes "show" ∷ (b ∷ rest) ∷ []) ≡ true
unfolding clap_on_literals
show_taken b rest no_hyphen = simp no_hyphen refl

check_taken : (b : ℕ) (rest : List ℕ) → eqb b 45 ≡ false → takes dex (codes "check" ∷ (b ∷ rest) ∷ []) ≡ true
unfolding clap_on_literals
check_taken b rest no_hyphen = simp no_hyphen refl

load_taken : (b : ℕ) (rest : List ℕ) → eqb b 45 ≡ false → takes dex (codes "load" ∷ (b ∷ rest) ∷ []) ≡ true
unfolding clap_on_literals
load_taken b rest no_hyphen = simp no_hyphen refl

handheld_taken : (b c : ℕ) (rest more : List ℕ) → eqb b 45 ≡ false → eqb c 45 ≡ false → takes dex (codes "handheld" ∷ (b ∷ rest) ∷ (c ∷ more) ∷ []) ≡ true
unfolding clap_on_literals
handheld_taken b c rest more no_hyphen nor = simp (no_hyphen, nor) refl

receiver_taken : (b c : ℕ) (rest more : List ℕ) → eqb b 45 ≡ false → eqb c 45 ≡ false → takes dex (codes "receiver" ∷ (b ∷ rest) ∷ (c ∷ more) ∷ []) ≡ true
unfolding clap_on_literals
receiver_taken b c rest more no_hyphen nor = simp (no_hyphen, nor) refl

new_handheld_taken : (c d e : ℕ) (cs ds es : List ℕ) → eqb c 45 ≡ false → eqb d 45 ≡ false → eqb e 45 ≡ false → takes dex (codes "format" ∷ codes "handheld" ∷ (c ∷ cs) ∷ (d ∷ ds) ∷ (e ∷ es) ∷ []) ≡ true
unfolding clap_on_literals
new_handheld_taken c d e cs ds es q r s = rw q (rw q (rw r (rw r (rw s (rw s refl)))))

new_receiver_taken : (c d e : ℕ) (cs ds es : List ℕ) → eqb c 45 ≡ false → eqb d 45 ≡ false → eqb e 45 ≡ false → takes dex (codes "format" ∷ codes "receiver" ∷ (c ∷ cs) ∷ (d ∷ ds) ∷ (e ∷ es) ∷ []) ≡ true
unfolding clap_on_literals
new_receiver_taken c d e cs ds es q r s = rw q (rw q (rw r (rw r (rw s (rw s refl)))))

-- ---- by their shapes

no_hyphen : (test : Bool) → not test ≡ true → test ≡ false
no_hyphen true h = cc (h)
no_hyphen false h = refl

-- what is taken with any one word behind it that does not begin with a hyphen
one_by : (first one : List ℕ) → ((b : ℕ) (rest : List ℕ) → eqb b 45 ≡ false → takes dex (first ∷ (b ∷ rest) ∷ []) ≡ true) → is_plain one ≡ true → takes dex (first ∷ one ∷ []) ≡ true
one_by first [] each plain = (let never : false ≡ true = plain in cc)
one_by first (b ∷ rest) each plain = each b rest (no_hyphen (eqb b 45) plain)

two_by : (first one two : List ℕ) → ((b c : ℕ) (rest more : List ℕ) → eqb b 45 ≡ false → eqb c 45 ≡ false → takes dex (first ∷ (b ∷ rest) ∷ (c ∷ more) ∷ []) ≡ true) → is_plain one ≡ true → is_plain two ≡ true
    → takes dex (first ∷ one ∷ two ∷ []) ≡ true
two_by first [] two each p q = (let never : false ≡ true = p in cc)
two_by first (b ∷ rest) [] each p q = (let never : false ≡ true = q in cc)
two_by first (b ∷ rest) (c ∷ more) each p q = each b c rest more (no_hyphen (eqb b 45) p) (no_hyphen (eqb c 45) q)

three_by : (first second one two three : List ℕ)
    → ((c d e : ℕ) (cs ds es : List ℕ) → eqb c 45 ≡ false → eqb d 45 ≡ false → eqb e 45 ≡ false → takes dex (first ∷ second ∷ (c ∷ cs) ∷ (d ∷ ds) ∷ (e ∷ es) ∷ []) ≡ true)
    → is_plain one ≡ true → is_plain two ≡ true → is_plain three ≡ true → takes dex (first ∷ second ∷ one ∷ two ∷ three ∷ []) ≡ true
three_by first second [] two three each p q r = (let never : false ≡ true = p in cc)
three_by first second (c ∷ cs) [] three each p q r = (let never : false ≡ true = q in cc)
three_by first second (c ∷ cs) (d ∷ ds) [] each p q r = (let never : false ≡ true = r in cc)
three_by first second (c ∷ cs) (d ∷ ds) (e ∷ es) each p q r = each c d e cs ds es (no_hyphen (eqb c 45) p) (no_hyphen (eqb d 45) q) (no_hyphen (eqb e 45) r)

pub shaped_taken : (words : List (List ℕ)) → AreShaped words → takes dex words ≡ true
shaped_taken words (inl is) = ap (takes dex) is ∙ replay_taken
shaped_taken words (inr (inl has)) = ap (takes dex) has.words_are ∙ one_by (codes "check") has.one check_taken has.plain
shaped_taken words (inr (inr (inl has))) = ap (takes dex) has.words_are ∙ one_by (codes "show") has.one show_taken has.plain
shaped_taken words (inr (inr (inr (inl has)))) = ap (takes dex) has.words_are ∙ one_by (codes "load") has.one load_taken has.plain
shaped_taken words (inr (inr (inr (inr (inl has))))) = ap (takes dex) has.words_are ∙ two_by (codes "handheld") has.one has.two handheld_taken has.one_plain has.two_plain
shaped_taken words (inr (inr (inr (inr (inr (inl has)))))) = ap (takes dex) has.words_are ∙ two_by (codes "receiver") has.one has.two receiver_taken has.one_plain has.two_plain
shaped_taken words (inr (inr (inr (inr (inr (inr (inl has))))))) = ap (takes dex) has.words_are ∙ three_by (codes "format") (codes "handheld") has.one has.two has.three new_handheld_taken has.one_plain has.two_plain has.three_plain
shaped_taken words (inr (inr (inr (inr (inr (inr (inr has))))))) = ap (takes dex) has.words_are ∙ three_by (codes "format") (codes "receiver") has.one has.two has.three new_receiver_taken has.one_plain has.two_plain has.three_plain

-- and none of the words is refused before
pub shaped_plain : (words : List (List ℕ)) → AreShaped words → list_all is_plain words ≡ true
shaped_plain words (inl is) = ap (list_all is_plain) is
shaped_plain words (inr (inl has)) = ap (list_all is_plain) has.words_are ∙ (rw has.plain refl)
shaped_plain words (inr (inr (inl has))) = ap (list_all is_plain) has.words_are ∙ (rw has.plain refl)
shaped_plain words (inr (inr (inr (inl has)))) = ap (list_all is_plain) has.words_are ∙ (rw has.plain refl)
shaped_plain words (inr (inr (inr (inr (inl has))))) = ap (list_all is_plain) has.words_are ∙ (rw (has.one_plain, has.two_plain) refl)
shaped_plain words (inr (inr (inr (inr (inr (inl has)))))) = ap (list_all is_plain) has.words_are ∙ (rw (has.one_plain, has.two_plain) refl)
shaped_plain words (inr (inr (inr (inr (inr (inr (inl has))))))) = ap (list_all is_plain) has.words_are ∙ (rw (has.one_plain, has.two_plain, has.three_plain) refl)
shaped_plain words (inr (inr (inr (inr (inr (inr (inr has))))))) = ap (list_all is_plain) has.words_are ∙ (rw (has.one_plain, has.two_plain, has.three_plain) refl)

-- words that are refused have no such shape
pub none_shaped : {E : Type 0} (words : List (List ℕ)) (result : Result Bool E) (Wanting : Type 0) → (takes dex words ≡ true → Wanting) → (Wanting → IfOk result (λ taken. ⊥))
    → IfOk result (λ taken. taken ≡ false → AreShaped words → ⊥)
none_shaped words (Ok taken) Wanting passes wanting = λ no shaped. wanting (passes (shaped_taken words shaped))
none_shaped words (Err fault) Wanting passes wanting = tt

-- the third of these tests is one that fails
third_fails : (a b c rest : Bool) → (a && (not b && (not c && rest))) ≡ true → c ≡ false
third_fails true true c rest h = cc (h)
third_fails true false true rest h = cc (h)
third_fails true false false rest h = refl
third_fails false b c rest h = cc (h)

-- one subcommand more, where no word is of all of them
pub plus_so : (command leaf next : Command) (app : App) → AddsSubcommand command leaf next → app_of leaf ≡ app → app.top.is_plain ≡ true → app_of next ≡ with_subcommand (app_of command) app.top
plus_so command leaf next app adds is plain =
    adds.shape (third_fails _ _ _ _ (ap (λ (a : App). a.top.is_plain) is ∙ plain)) ∙ ap (λ (a : App). with_subcommand (app_of command) a.top) is
