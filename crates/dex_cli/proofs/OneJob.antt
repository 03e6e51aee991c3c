-- Words spell at most one job.
use Rattle.std.proofs.Common.{◌≡◌, ℕ, List, [], length, get_or, Result, Ok, refl, sym, ap, subst, ◌∙◌, arith}
use Rattle.dsd_values.specs.Reading.{number_of}
use Rattle.dsd_values.specs.declared.fault.ValueFault.{ValueFault}
use Rattle.dsd_values.specs.declared.role.Role.{Role}
use Rattle.dsd_values.specs.declared.role.Role.TheVariants.{Supplier, Receiver}
use Rattle.dsd_journal.specs.declared.header.Header.{Header}
use Rattle.dex_cli.specs.FormatWords.{format_words, role_word}
use Rattle.dex_cli.specs.EndWords.{SpellsEnd, end_words}
use Rattle.dex_cli.specs.Words.{AsksCheck, AsksEnd, AsksFormat, AsksLoad, AsksReplay, AsksShow, check_words, load_words, replay_words, show_words, Spells}
use Rattle.dex_cli.specs.declared.end_words.EndNames.{EndNames}
use Rattle.dex_cli.specs.declared.format_words.NewJournal.{NewJournal}
use Rattle.dex_cli.specs.declared.words.Job.{Job}
use Rattle.dex_cli.specs.declared.words.Job.TheVariants as jobs
use Rattle.dex_cli.specs.declared.words.CheckKind.{CheckKind}
use Rattle.dex_cli.specs.declared.words.CheckKind.TheVariants as checks

-- the first letter of the first word
abbrev first_letter : List (List ℕ) → ℕ
first_letter words = get_or (get_or words 0 []) 0 0

-- the first letter of the second word
abbrev kind_letter : List (List ℕ) → ℕ
kind_letter words = get_or (get_or words 1 []) 0 0

pub one_kind : (kind other : CheckKind) → check_words kind ≡ check_words other → kind ≡ other
one_kind checks.Set checks.Set e = refl
one_kind checks.Set checks.Text e = let never : 115 ≡ 116 = ap kind_letter e in absurd (omega (arith, never))
one_kind checks.Set checks.Line e = let never : 115 ≡ 108 = ap kind_letter e in absurd (omega (arith, never))
one_kind checks.Text checks.Set e = let never : 116 ≡ 115 = ap kind_letter e in absurd (omega (arith, never))
one_kind checks.Text checks.Text e = refl
one_kind checks.Text checks.Line e = let never : 116 ≡ 108 = ap kind_letter e in absurd (omega (arith, never))
one_kind checks.Line checks.Set e = let never : 108 ≡ 115 = ap kind_letter e in absurd (omega (arith, never))
one_kind checks.Line checks.Text e = let never : 108 ≡ 116 = ap kind_letter e in absurd (omega (arith, never))
one_kind checks.Line checks.Line e = refl

one_role : (role other : Role) → role_word role ≡ role_word other → role ≡ other
one_role Supplier Supplier e = refl
one_role Supplier Receiver e = let never : 104 ≡ 114 = ap (λ (l : List ℕ). get_or l 0 0) e in absurd (omega (arith, never))
one_role Receiver Supplier e = let never : 114 ≡ 104 = ap (λ (l : List ℕ). get_or l 0 0) e in absurd (omega (arith, never))
one_role Receiver Receiver e = refl

same_header : (role role' : Role) (own own' peer peer' : List ℕ) → role ≡ role' → own ≡ own' → peer ≡ peer'
    → (let h : Header = record { role = role; own = own; peer = peer } in h) ≡ record { role = role'; own = own'; peer = peer' }
same_header role role' own own' peer peer' p q r = rw (p, q, r) refl

same_new : (header header' : Header) (journal journal' : List ℕ) → header ≡ header' → journal ≡ journal'
    → (let n : NewJournal = record { header = header; journal = journal } in n) ≡ record { header = header'; journal = journal' }
same_new header header' journal journal' p q = rw (p, q) refl

one_new : (new other : NewJournal) → format_words new ≡ format_words other → new ≡ other
one_new new other e =
    let word : role_word new.header.role ≡ role_word other.header.role = cc in
    let own : new.header.own ≡ other.header.own = cc in
    let peer : new.header.peer ≡ other.header.peer = cc in
    let journal : new.journal ≡ other.journal = cc in
    same_new new.header other.header new.journal other.journal
    (same_header new.header.role other.header.role new.header.own other.header.own new.header.peer other.header.peer (one_role new.header.role other.header.role word) own peer) journal

pub check_is_format : (kind : CheckKind) (new : NewJournal) → check_words kind ≡ format_words new → ⊥
check_is_format checks.Set new e = cc
check_is_format checks.Text new e = cc
check_is_format checks.Line new e = cc

pub check_is_show : (kind : CheckKind) (journal : List ℕ) → check_words kind ≡ show_words journal → ⊥
check_is_show kind journal e = first_differs (check_first kind) e
  where
    -- the first letter of the first word
    letter : List (List ℕ) → ℕ
    letter words = get_or (get_or words 0 []) 0 0

    check_first : (kind : CheckKind) → letter (check_words kind) ≡ 99
    check_first checks.Set = refl
    check_first checks.Text = refl
    check_first checks.Line = refl

    first_differs : letter (check_words kind) ≡ 99 → check_words kind ≡ show_words journal → ⊥
    first_differs c e = let never : 99 ≡ 115 = sym c ∙ ap letter e in absurd (omega (arith, never))

pub show_is_format : (journal : List ℕ) (new : NewJournal) → show_words journal ≡ format_words new → ⊥
show_is_format journal new e = cc

pub one_show : (journal other : List ℕ) → show_words journal ≡ show_words other → journal ≡ other
one_show journal other e = cc

-- the words of an end
end_is_check : (kind : CheckKind) (role : Role) (names : EndNames) → check_words kind ≡ end_words role names → ⊥
end_is_check kind role names e = let never : 2 ≡ 3 = sym (two kind) ∙ ap length e in absurd (omega (arith, never))
  where
    two : (kind : CheckKind) → length (check_words kind) ≡ 2
    two checks.Set = refl
    two checks.Text = refl
    two checks.Line = refl

end_is_format : (new : NewJournal) (role : Role) (names : EndNames) → format_words new ≡ end_words role names → ⊥
end_is_format new role names e = let never : 5 ≡ 3 = ap length e in absurd (omega (arith, never))

end_is_show : (journal : List ℕ) (role : Role) (names : EndNames) → show_words journal ≡ end_words role names → ⊥
end_is_show journal role names e = let never : 2 ≡ 3 = ap length e in absurd (omega (arith, never))

same_names : (journal journal' port port' : List ℕ) → journal ≡ journal' → port ≡ port' → (let n : EndNames = record { journal = journal; port = port } in n) ≡ record { journal = journal'; port = port' }
same_names journal journal' port port' p q = rw (p, q) refl

one_names : (role other : Role) (names names' : EndNames) → end_words role names ≡ end_words other names' → names ≡ names'
one_names role other names names' e =
    let journal : names.journal ≡ names'.journal = cc in
    let port : names.port ≡ names'.port = cc in
    same_names names.journal names'.journal names.port names'.port journal port

pub one_end : (role other : Role) (names names' : EndNames) → end_words role names ≡ end_words other names' → role ≡ other
one_end role other names names' e = let word : role_word role ≡ role_word other = cc in one_role role other word

-- the words of an end are those of no other job
pub end_only : (role : Role) (names : EndNames) (words : List (List ℕ)) → SpellsEnd role names words → (AsksCheck words → ⊥) × (AsksFormat words → ⊥) × (AsksShow words → ⊥)
end_only role names words s = (
  λ (kind, t). end_is_check kind role names (sym t ∙ s.words_are),
  λ (new, t). end_is_format new role names (sym t.words_are ∙ s.words_are),
  λ (journal, t). end_is_show journal role names (sym t.words_are ∙ s.words_are),
)

-- the word of a `replay` is those of no other job
replay_is_check : (kind : CheckKind) → check_words kind ≡ replay_words → ⊥
replay_is_check kind e = let never : 2 ≡ 1 = sym (two kind) ∙ ap length e in absurd (omega (arith, never))
  where
    two : (kind : CheckKind) → length (check_words kind) ≡ 2
    two checks.Set = refl
    two checks.Text = refl
    two checks.Line = refl

replay_is_format : (new : NewJournal) → format_words new ≡ replay_words → ⊥
replay_is_format new e = let never : 5 ≡ 1 = ap length e in absurd (omega (arith, never))

replay_is_show : (journal : List ℕ) → show_words journal ≡ replay_words → ⊥
replay_is_show journal e = let never : 2 ≡ 1 = ap length e in absurd (omega (arith, never))

replay_is_end : (role : Role) (names : EndNames) → end_words role names ≡ replay_words → ⊥
replay_is_end role names e = let never : 3 ≡ 1 = ap length e in absurd (omega (arith, never))

pub replay_only : (words : List (List ℕ)) → AsksReplay words → (AsksCheck words → ⊥) × (AsksFormat words → ⊥) × (AsksShow words → ⊥) × (AsksEnd words → ⊥)
replay_only words s = (
  λ (kind, t). replay_is_check kind (sym t ∙ s),
  λ (new, t). replay_is_format new (sym t.words_are ∙ s),
  λ (journal, t). replay_is_show journal (sym t.words_are ∙ s),
  λ (role, names, t). replay_is_end role names (sym t.words_are ∙ s),
)

-- the words of a `load` are those of no other job
load_is_check : (kind : CheckKind) (text : List ℕ) → check_words kind ≡ load_words text → ⊥
load_is_check checks.Set text e = let never : 99 ≡ 108 = ap first_letter e in absurd (omega (arith, never))
load_is_check checks.Text text e = let never : 99 ≡ 108 = ap first_letter e in absurd (omega (arith, never))
load_is_check checks.Line text e = let never : 99 ≡ 108 = ap first_letter e in absurd (omega (arith, never))

load_is_format : (new : NewJournal) (text : List ℕ) → format_words new ≡ load_words text → ⊥
load_is_format new text e = let never : 5 ≡ 2 = ap length e in absurd (omega (arith, never))

load_is_show : (journal text : List ℕ) → show_words journal ≡ load_words text → ⊥
load_is_show journal text e = let never : 115 ≡ 108 = ap first_letter e in absurd (omega (arith, never))

load_is_end : (role : Role) (names : EndNames) (text : List ℕ) → end_words role names ≡ load_words text → ⊥
load_is_end role names text e = let never : 3 ≡ 2 = ap length e in absurd (omega (arith, never))

load_is_replay : (text : List ℕ) → replay_words ≡ load_words text → ⊥
load_is_replay text e = let never : 1 ≡ 2 = ap length e in absurd (omega (arith, never))

pub load_only : (words : List (List ℕ)) → AsksLoad words → (AsksCheck words → ⊥) × (AsksFormat words → ⊥) × (AsksShow words → ⊥) × (AsksEnd words → ⊥) × (AsksReplay words → ⊥)
load_only words (count, s) = (
  λ (kind, t). load_is_check kind s.text (sym t ∙ s.words_are),
  λ (new, t). load_is_format new s.text (sym t.words_are ∙ s.words_are),
  λ (journal, t). load_is_show journal s.text (sym t.words_are ∙ s.words_are),
  λ (role, names, t). load_is_end role names s.text (sym t.words_are ∙ s.words_are),
  λ t. load_is_replay s.text (sym t ∙ s.words_are),
)

one_count : (text other : List ℕ) (count count' : ℕ) → load_words text ≡ load_words other → number_of 1 200 text ≡ Ok count → number_of 1 200 other ≡ Ok count' → count ≡ count'
one_count text other count count' e p q =
    let same : text ≡ other = cc in
    ok_same count count' (sym p ∙ ap (number_of 1 200) same ∙ q)
  where
    ok_same : (n m : ℕ) → (let r : Result ℕ ValueFault = Ok n in r) ≡ Ok m → n ≡ m
    ok_same n m e = cc

-- what holds of one end whose words they are holds of the other
pub same_end : (words : List (List ℕ)) (role role' : Role) (names names' : EndNames) (P : Role → EndNames → Type 0) → SpellsEnd role names words → SpellsEnd role' names' words → P role names → P role' names'
same_end words role role' names names' P s t p =
    let e = sym s.words_are ∙ t.words_are in
    subst (λ (r : Role). P r names') (one_end role role' names names' e) (subst (P role) (one_names role role' names names' e) p)

handheld_is_receiver : (names names' : EndNames) → end_words Supplier names ≡ end_words Receiver names' → ⊥
handheld_is_receiver names names' e = (let wrong = one_end Supplier Receiver names names' e in cc)

pub one_job : (words : List (List ℕ)) (one other : Job) → Spells one words → Spells other words → one ≡ other
one_job words (jobs.Check kind) (jobs.Check kind') s t = ap (λ (k : CheckKind). jobs.Check k) (one_kind kind kind' (sym s ∙ t))
one_job words (jobs.Format new) (jobs.Format new') s t = ap (λ (n : NewJournal). jobs.Format n) (one_new new new' (sym s.words_are ∙ t.words_are))
one_job words (jobs.Check kind) (jobs.Format new) s t = absurd (check_is_format kind new (sym s ∙ t.words_are))
one_job words (jobs.Format new) (jobs.Check kind) s t = absurd (check_is_format kind new (sym t ∙ s.words_are))
one_job words (jobs.Show journal) (jobs.Show other) s t = ap (λ (j : List ℕ). jobs.Show j) (one_show journal other (sym s.words_are ∙ t.words_are))
one_job words (jobs.Check kind) (jobs.Show journal) s t = absurd (check_is_show kind journal (sym s ∙ t.words_are))
one_job words (jobs.Show journal) (jobs.Check kind) s t = absurd (check_is_show kind journal (sym t ∙ s.words_are))
one_job words (jobs.Format new) (jobs.Show journal) s t = absurd (show_is_format journal new (sym t.words_are ∙ s.words_are))
one_job words (jobs.Show journal) (jobs.Format new) s t = absurd (show_is_format journal new (sym s.words_are ∙ t.words_are))
one_job words (jobs.Handheld names) (jobs.Handheld names') s t = ap (λ (n : EndNames). jobs.Handheld n) (one_names Supplier Supplier names names' (sym s.words_are ∙ t.words_are))
one_job words (jobs.Receiver names) (jobs.Receiver names') s t = ap (λ (n : EndNames). jobs.Receiver n) (one_names Receiver Receiver names names' (sym s.words_are ∙ t.words_are))
one_job words (jobs.Handheld names) (jobs.Receiver names') s t = absurd (handheld_is_receiver names names' (sym s.words_are ∙ t.words_are))
one_job words (jobs.Receiver names) (jobs.Handheld names') s t = absurd (handheld_is_receiver names' names (sym t.words_are ∙ s.words_are))
one_job words (jobs.Check kind) (jobs.Handheld names) s t = absurd (end_is_check kind Supplier names (sym s ∙ t.words_are))
one_job words (jobs.Handheld names) (jobs.Check kind) s t = absurd (end_is_check kind Supplier names (sym t ∙ s.words_are))
one_job words (jobs.Format new) (jobs.Handheld names) s t = absurd (end_is_format new Supplier names (sym s.words_are ∙ t.words_are))
one_job words (jobs.Handheld names) (jobs.Format new) s t = absurd (end_is_format new Supplier names (sym t.words_are ∙ s.words_are))
one_job words (jobs.Show journal) (jobs.Handheld names) s t = absurd (end_is_show journal Supplier names (sym s.words_are ∙ t.words_are))
one_job words (jobs.Handheld names) (jobs.Show journal) s t = absurd (end_is_show journal Supplier names (sym t.words_are ∙ s.words_are))
one_job words (jobs.Check kind) (jobs.Receiver names) s t = absurd (end_is_check kind Receiver names (sym s ∙ t.words_are))
one_job words (jobs.Receiver names) (jobs.Check kind) s t = absurd (end_is_check kind Receiver names (sym t ∙ s.words_are))
one_job words (jobs.Format new) (jobs.Receiver names) s t = absurd (end_is_format new Receiver names (sym s.words_are ∙ t.words_are))
one_job words (jobs.Receiver names) (jobs.Format new) s t = absurd (end_is_format new Receiver names (sym t.words_are ∙ s.words_are))
one_job words (jobs.Show journal) (jobs.Receiver names) s t = absurd (end_is_show journal Receiver names (sym s.words_are ∙ t.words_are))
one_job words (jobs.Receiver names) (jobs.Show journal) s t = absurd (end_is_show journal Receiver names (sym t.words_are ∙ s.words_are))
one_job words jobs.Replay jobs.Replay s t = refl
one_job words (jobs.Check kind) jobs.Replay s t = absurd (replay_is_check kind (sym s ∙ t))
one_job words jobs.Replay (jobs.Check kind) s t = absurd (replay_is_check kind (sym t ∙ s))
one_job words (jobs.Format new) jobs.Replay s t = absurd (replay_is_format new (sym s.words_are ∙ t))
one_job words jobs.Replay (jobs.Format new) s t = absurd (replay_is_format new (sym t.words_are ∙ s))
one_job words (jobs.Show journal) jobs.Replay s t = absurd (replay_is_show journal (sym s.words_are ∙ t))
one_job words jobs.Replay (jobs.Show journal) s t = absurd (replay_is_show journal (sym t.words_are ∙ s))
one_job words (jobs.Handheld names) jobs.Replay s t = absurd (replay_is_end Supplier names (sym s.words_are ∙ t))
one_job words jobs.Replay (jobs.Handheld names) s t = absurd (replay_is_end Supplier names (sym t.words_are ∙ s))
one_job words (jobs.Receiver names) jobs.Replay s t = absurd (replay_is_end Receiver names (sym s.words_are ∙ t))
one_job words jobs.Replay (jobs.Receiver names) s t = absurd (replay_is_end Receiver names (sym t.words_are ∙ s))
one_job words (jobs.Load count) (jobs.Load count') s t = ap (λ (n : ℕ). jobs.Load n) (one_count s.text t.text count count' (sym s.words_are ∙ t.words_are) s.number t.number)
one_job words (jobs.Load count) (jobs.Check kind) s t = absurd ((load_only words (count, s)).0 (kind, t))
one_job words (jobs.Check kind) (jobs.Load count) s t = absurd ((load_only words (count, t)).0 (kind, s))
one_job words (jobs.Load count) (jobs.Format new) s t = absurd ((load_only words (count, s)).1 (new, t))
one_job words (jobs.Format new) (jobs.Load count) s t = absurd ((load_only words (count, t)).1 (new, s))
one_job words (jobs.Load count) (jobs.Show journal) s t = absurd ((load_only words (count, s)).2 (journal, t))
one_job words (jobs.Show journal) (jobs.Load count) s t = absurd ((load_only words (count, t)).2 (journal, s))
one_job words (jobs.Load count) (jobs.Handheld names) s t = absurd ((load_only words (count, s)).3 (Supplier, names, t))
one_job words (jobs.Handheld names) (jobs.Load count) s t = absurd ((load_only words (count, t)).3 (Supplier, names, s))
one_job words (jobs.Load count) (jobs.Receiver names) s t = absurd ((load_only words (count, s)).3 (Receiver, names, t))
one_job words (jobs.Receiver names) (jobs.Load count) s t = absurd ((load_only words (count, t)).3 (Receiver, names, s))
one_job words (jobs.Load count) jobs.Replay s t = absurd ((load_only words (count, s)).4 t)
one_job words jobs.Replay (jobs.Load count) s t = absurd ((load_only words (count, t)).4 s)
