-- Words and bytes leave one status.
use Rattle.std.proofs.Common.{◌≡◌, ◌≢◌, ℕ, ◌<◌, ◌≤◌, ◌⊎◌, inl, inr, List, [], ◌∷◌, ◌++◌, length, Option, Some, None, refl, sym, ap, ◌∙◌, subst, arith, append-nil, length-append}
use Rattle.std.proofs.lemmas.Bool.{cases_lt}
use Rattle.dsd_record.specs.SetTexts.{IsSet}
use Rattle.dsd_record.specs.declared.set_view.SetView.{SetView}
use Rattle.dxs_envelope.specs.FirstFault.{told_of}
use Rattle.dxs_envelope.specs.Views.{SetAt}
use Rattle.dxs_envelope.specs.declared.fault.EnvelopeFault.{EnvelopeFault}
use Rattle.dex_cli.specs.Summaries.{IsNoSet, SumsUp}
use Rattle.dex_cli.specs.declared.summary.SetSummary.{SetSummary}
use Rattle.dex_cli.specs.declared.text_summary.TextEnding.{TextEnding}
use Rattle.dex_cli.specs.declared.text_summary.TextEnding.TheVariants as endings
use Rattle.dsd_values.specs.declared.role.Role.{Role}
use Rattle.dsd_values.specs.declared.role.Role.TheVariants.{Supplier, Receiver}
use Rattle.dex_cli.specs.EndWords.{SpellsEnd}
use Rattle.dex_cli.specs.declared.end_words.EndNames.{EndNames}
use Rattle.dex_cli.specs.Words.{AsksEnd, Spells}
use Rattle.dex_cli.specs.Formatting.{Served, Formats}
use Rattle.dex_cli.specs.Showing.{Shows, IsNotAJournal}
use Rattle.dex_cli.specs.Replaying.{Worlds}
use Rattle.dex_cli.specs.Verdicts.{IsInput, ReplaysInput, ServesEnd, ServesInput, ChecksSet, ChecksText, ChecksLine, Read, IsChecked, Does, MayCome, status_at, status_of, status_of_line}
use Rattle.dex_cli.specs.declared.verdict.Verdict.{Verdict}
use Rattle.dex_cli.specs.declared.verdict.Verdict.TheVariants as verdicts
use Rattle.dex_cli.specs.declared.refusal.Reason.{Reason}
use Rattle.dex_cli.specs.declared.refusal.Reason.TheVariants as reasons
use Rattle.dex_cli.specs.declared.job.TheConstants.{INPUT_BYTES}
use Rattle.dex_cli.specs.declared.words.Job.{Job}
use Rattle.dex_cli.specs.declared.words.Job.TheVariants as jobs
use Rattle.dex_cli.specs.declared.words.CheckKind.{CheckKind}
use Rattle.dex_cli.specs.declared.words.CheckKind.TheVariants as checks
use Rattle.dex_cli.specs.declared.format_words.NewJournal.{NewJournal}
use Rattle.dex_cli.proofs.LegalSets.{shown_is_none}
use Rattle.dex_cli.proofs.OneJob.{check_is_format, check_is_show, end_only, load_only, one_kind, replay_only, same_end, show_is_format}
use Rattle.dex_cli.proofs.OneEnds.{end_input_long, end_input_one}
use Rattle.dex_cli.proofs.ServedEnds.{no_other}
use Rattle.dex_cli.proofs.OneReplay.{input_long, input_one, load_one}
use Rattle.dex_cli.specs.declared.status.TheConstants.{DONE, INPUT_REFUSED}

-- ---- one input

-- an input that is not too long is all that was left
all_left : (left after input : List ℕ) → IsInput (Some left) (Some after) input → length input ≤ INPUT_BYTES → left ≡ input
all_left left after input is short =
    let end : after ≡ [] = is.whole short in
    is.taken ∙ ap (λ (t : List ℕ). input ++ t) end ∙ append-nil input

-- the bytes left are no fewer than those of an input
no_fewer : (left after input : List ℕ) → IsInput (Some left) (Some after) input → length input ≤ length left
no_fewer left after input is = let front : left ≡ input ++ after = is.taken in omega (arith, ap length front, length-append input after)

-- two inputs of the same bytes are the same, or both are too long
inputs : (left after after' input input' : List ℕ) → IsInput (Some left) (Some after) input → IsInput (Some left) (Some after') input'
    → (input ≡ input') ⊎ ((INPUT_BYTES < length input) × (INPUT_BYTES < length input'))
inputs left after after' input input' one other = elim (cases_lt INPUT_BYTES (length input)) [
  | inl long ↦ elim (cases_lt INPUT_BYTES (length input')) [
    | inl long' ↦ inr (long, long')
    | inr short' ↦ let whole = all_left left after' input' other short' in absurd (omega (arith, long, short', ap length whole, no_fewer left after input one))
  ]
  | inr short ↦ let whole = all_left left after input one short in elim (cases_lt INPUT_BYTES (length input')) [
    | inl long' ↦ absurd (omega (arith, long', short, ap length whole, no_fewer left after' input' other))
    | inr short' ↦ inl (sym whole ∙ all_left left after' input' other short')
  ]
]

-- ---- one status of each job to an input

abbrev IsBad : List ℕ → Type 0
IsBad input = (set : SetView) → IsSet set input → ⊥

abbrev IsGood : List ℕ → Type 0
IsGood input = (set : SetView) × IsSet set input

-- a set that is refused is none
none_spelled : (input : List ℕ) (place : ℕ) (reason : Reason) → IsNoSet input place reason → IsBad input
none_spelled input place (reasons.Set reason) no_set = no_set.none
none_spelled input place (reasons.Envelope reason) no_set = absurd no_set
none_spelled input place (reasons.Draft reason) no_set = absurd no_set
none_spelled input place reasons.Damaged no_set = absurd no_set
none_spelled input place reasons.Bad no_set = absurd no_set

set_verdict : (input : List ℕ) (a : Verdict) → ChecksSet input a
    → (((INPUT_BYTES < length input) ⊎ IsBad input) × (status_of a ≡ INPUT_REFUSED)) ⊎ ((length input ≤ INPUT_BYTES) × IsGood input × (status_of a ≡ DONE))
set_verdict input (verdicts.Refused refusal) (inl long) = inl (inl long.long, refl)
set_verdict input (verdicts.Refused refusal) (inr refused) = inl (inr (none_spelled input refusal.place refusal.reason refused.1), refl)
set_verdict input (verdicts.Set summary) (short, is) = inr (short, (is.set, is.spelled), refl)
set_verdict input _ c = absurd c

-- each set is right, and the transmission has no fault
abbrev AllGood : List SetAt → Option EnvelopeFault → Type 0
AllGood [] None = Unit {0}
AllGood [] (Some fault) = ⊥
AllGood (set ∷ sets) fault = IsGood set.bytes × AllGood sets fault

text_ends : (sets : List SetAt) (fault : Option EnvelopeFault) (summaries : List SetSummary) (ending : TextEnding) → SumsUp sets fault summaries ending
    → (AllGood sets fault × (status_at ending ≡ DONE)) ⊎ ((AllGood sets fault → ⊥) × (status_at ending ≡ INPUT_REFUSED))
text_ends [] None [] endings.Whole up = inl (tt, refl)
text_ends [] None [] (endings.Refused refusal) up = absurd up
text_ends [] (Some fault) [] endings.Whole up = absurd up
text_ends [] (Some fault) [] (endings.Refused refusal) up = inr (λ good. good, refl)
text_ends (set ∷ sets) fault [] endings.Whole up = absurd up
text_ends (set ∷ sets) fault [] (endings.Refused refusal) up = inr (λ good. none_spelled set.bytes up.inside refusal.reason up.no_set good.0.0 good.0.1, refl)
text_ends [] fault (summary ∷ summaries) ending up = absurd up
text_ends (set ∷ sets) fault (summary ∷ summaries) ending (is, up) = elim (text_ends sets fault summaries ending up) [
  | inl whole ↦ inl (((is.set, is.spelled), whole.0), whole.1)
  | inr broken ↦ inr (λ good. broken.0 good.1, broken.1)
]

abbrev IsGoodText : List ℕ → Type 0
IsGoodText input = AllGood (told_of input).sets (told_of input).fault

text_verdict : (input : List ℕ) (a : Verdict) → ChecksText input a
    → ((INPUT_BYTES < length input) × (status_of a ≡ INPUT_REFUSED))
    ⊎ ((length input ≤ INPUT_BYTES) × ((IsGoodText input × (status_of a ≡ DONE)) ⊎ ((IsGoodText input → ⊥) × (status_of a ≡ INPUT_REFUSED))))
text_verdict input (verdicts.Refused refusal) long = inl (long.long, refl)
text_verdict input (verdicts.Text text) (short, up) = inr (short, text_ends (told_of input).sets (told_of input).fault text.sets.items text.ending up)
text_verdict input _ c = absurd c

line_verdict : (input : List ℕ) (a : Verdict) → ChecksLine input a
    → ((INPUT_BYTES < length input) × (status_of a ≡ INPUT_REFUSED)) ⊎ ((length input ≤ INPUT_BYTES) × (status_of a ≡ status_of_line input))
line_verdict input (verdicts.Refused refusal) long = inl (long.long, refl)
line_verdict input (verdicts.Line captured) (short, same) = inr (short, ap status_of_line same)
line_verdict input _ c = absurd c

-- an input that is too long is refused
set_long : (input : List ℕ) (a : Verdict) → INPUT_BYTES < length input → ChecksSet input a → status_of a ≡ INPUT_REFUSED
set_long input a long c = elim (set_verdict input a c) [ inl bad ↦ bad.1 | inr good ↦ absurd (omega (arith, long, good.0)) ]

text_long : (input : List ℕ) (a : Verdict) → INPUT_BYTES < length input → ChecksText input a → status_of a ≡ INPUT_REFUSED
text_long input a long c = elim (text_verdict input a c) [ inl bad ↦ bad.1 | inr good ↦ absurd (omega (arith, long, good.0)) ]

line_long : (input : List ℕ) (a : Verdict) → INPUT_BYTES < length input → ChecksLine input a → status_of a ≡ INPUT_REFUSED
line_long input a long c = elim (line_verdict input a c) [ inl bad ↦ bad.1 | inr good ↦ absurd (omega (arith, long, good.0)) ]

bad_apart : (input : List ℕ) → (INPUT_BYTES < length input) ⊎ IsBad input → length input ≤ INPUT_BYTES → IsGood input → ⊥
bad_apart input (inl long) short good = absurd (omega (arith, long, short))
bad_apart input (inr bad) short good = bad good.0 good.1

set_one : (input : List ℕ) (a b : Verdict) → ChecksSet input a → ChecksSet input b → status_of a ≡ status_of b
set_one input a b c d = elim (set_verdict input a c) [
  | inl bad ↦ elim (set_verdict input b d) [ inl bad' ↦ bad.1 ∙ sym bad'.1 | inr good' ↦ absurd (bad_apart input bad.0 good'.0 good'.1) ]
  | inr good ↦ elim (set_verdict input b d) [ inl bad' ↦ absurd (bad_apart input bad'.0 good.0 good.1) | inr good' ↦ good.2 ∙ sym good'.2 ]
]

short_text : (input : List ℕ) (a b : Verdict) → (IsGoodText input × (status_of a ≡ DONE)) ⊎ ((IsGoodText input → ⊥) × (status_of a ≡ INPUT_REFUSED))
    → (IsGoodText input × (status_of b ≡ DONE)) ⊎ ((IsGoodText input → ⊥) × (status_of b ≡ INPUT_REFUSED)) → status_of a ≡ status_of b
short_text input a b (inl good) (inl good') = good.1 ∙ sym good'.1
short_text input a b (inl good) (inr bad) = absurd (bad.0 good.0)
short_text input a b (inr bad) (inl good) = absurd (bad.0 good.0)
short_text input a b (inr bad) (inr bad') = bad.1 ∙ sym bad'.1

text_one : (input : List ℕ) (a b : Verdict) → ChecksText input a → ChecksText input b → status_of a ≡ status_of b
text_one input a b c d = elim (text_verdict input a c) [
  | inl long ↦ long.1 ∙ sym (text_long input b long.0 d)
  | inr short ↦ elim (text_verdict input b d) [ inl long' ↦ absurd (omega (arith, short.0, long'.0)) | inr short' ↦ short_text input a b short.1 short'.1 ]
]

line_one : (input : List ℕ) (a b : Verdict) → ChecksLine input a → ChecksLine input b → status_of a ≡ status_of b
line_one input a b c d = elim (line_verdict input a c) [
  | inl long ↦ long.1 ∙ sym (line_long input b long.0 d)
  | inr short ↦ elim (line_verdict input b d) [ inl long' ↦ absurd (omega (arith, short.0, long'.0)) | inr short' ↦ short.1 ∙ sym short'.1 ]
]

-- ---- one status of words

module _ (left after after' : List ℕ) (faults now now' : ℕ) (one other : Served) (here there : Worlds) (a b : Verdict) where
  abbrev read : Read
  read = record { left = Some left; after = Some after; faults = faults; faults_after = now }

  abbrev read' : Read
  read' = record { left = Some left; after = Some after'; faults = faults; faults_after = now' }

  set_job : IsChecked checks.Set read a → IsChecked checks.Set read' b → status_of a ≡ status_of b
  set_job x y = elim (inputs left after after' x.input y.input x.read_is y.read_is) [
    | inl same ↦ set_one y.input a b (subst (λ (t : List ℕ). ChecksSet t a) same x.checks) y.checks
    | inr long ↦ set_long x.input a long.0 x.checks ∙ sym (set_long y.input b long.1 y.checks)
  ]

  text_job : IsChecked checks.Text read a → IsChecked checks.Text read' b → status_of a ≡ status_of b
  text_job x y = elim (inputs left after after' x.input y.input x.read_is y.read_is) [
    | inl same ↦ text_one y.input a b (subst (λ (t : List ℕ). ChecksText t a) same x.checks) y.checks
    | inr long ↦ text_long x.input a long.0 x.checks ∙ sym (text_long y.input b long.1 y.checks)
  ]

  line_job : IsChecked checks.Line read a → IsChecked checks.Line read' b → status_of a ≡ status_of b
  line_job x y = elim (inputs left after after' x.input y.input x.read_is y.read_is) [
    | inl same ↦ line_one y.input a b (subst (λ (t : List ℕ). ChecksLine t a) same x.checks) y.checks
    | inr long ↦ line_long x.input a long.0 x.checks ∙ sym (line_long y.input b long.1 y.checks)
  ]

  check_job : (kind : CheckKind) → Does (Unit {0}) (jobs.Check kind) read one here a → Does (Unit {0}) (jobs.Check kind) read' other there b → a ≢ verdicts.SourceFault → b ≢ verdicts.SourceFault → status_of a ≡ status_of b
  check_job kind (inl unread) q f g = absurd (f unread.verdict_is)
  check_job kind (inr x) (inl unread) f g = absurd (g unread.verdict_is)
  check_job checks.Set (inr x) (inr y) f g = set_job x y
  check_job checks.Text (inr x) (inr y) f g = text_job x y
  check_job checks.Line (inr x) (inr y) f g = line_job x y

  replay_job : here.after ≡ there.after → Does (Unit {0}) jobs.Replay read one here a → Does (Unit {0}) jobs.Replay read' other there b → a ≢ verdicts.SourceFault → b ≢ verdicts.SourceFault → status_of a ≡ status_of b
  replay_job same (inl unread) q f g = absurd (f unread.0.verdict_is)
  replay_job same (inr x) (inl unread) f g = absurd (g unread.0.verdict_is)
  replay_job same (inr x) (inr y) f g = elim (inputs left after after' x.0 y.0 x.1 y.1) [
    | inl is ↦ input_one y.0 here there a b same (subst (λ (t : List ℕ). ReplaysInput t here a) is x.2) y.2
    | inr long ↦ input_long x.0 here a long.0 x.2 ∙ sym (input_long y.0 there b long.1 y.2)
  ]

-- an empty journal is made, and any other is not
format_job : (new new' : NewJournal) (one other : Served) (a b : Verdict) → one.before.journal ≡ other.before.journal → Formats (Unit {0}) new one a → Formats (Unit {0}) new' other b
    → a ≢ verdicts.StationFault → b ≢ verdicts.StationFault → status_of a ≡ status_of b
format_job new new' one other verdicts.Formatted verdicts.Formatted same p q f g = refl
format_job new new' one other verdicts.Formatted (verdicts.NotEmpty size) same p q f g =
    let made = p tt in
    let full = q tt in
    absurd (omega (arith, ap length (sym same ∙ made.empty), full.size_is, full.some))
format_job new new' one other (verdicts.NotEmpty size) verdicts.Formatted same p q f g =
    let made = q tt in
    let full = p tt in
    absurd (omega (arith, ap length (same ∙ made.empty), full.size_is, full.some))
format_job new new' one other (verdicts.NotEmpty size) (verdicts.NotEmpty size') same p q f g = refl
format_job new new' one other verdicts.StationFault b same p q f g = absurd (f refl)
format_job new new' one other verdicts.Formatted verdicts.StationFault same p q f g = absurd (g refl)
format_job new new' one other (verdicts.NotEmpty size) verdicts.StationFault same p q f g = absurd (g refl)
format_job new new' one other verdicts.Formatted _ same p q f g = absurd q
format_job new new' one other (verdicts.NotEmpty size) _ same p q f g = absurd q
format_job new new' one other _ b same p q f g = absurd p

-- a journal of legal entries is shown, and any other is not
show_job : (journal journal' : List ℕ) (one other : Served) (a b : Verdict) → one.before.journal ≡ other.before.journal → Shows (Unit {0}) journal one a → Shows (Unit {0}) journal' other b
    → a ≢ verdicts.StationFault → b ≢ verdicts.StationFault → status_of a ≡ status_of b
show_job journal journal' one other (verdicts.Shown shown) (verdicts.Shown shown') same p q f g = refl
show_job journal journal' one other (verdicts.Shown shown) (verdicts.NotAJournal place) same p q f g =
    absurd (shown_is_none one.before.journal p.0.header p.0.entries place p.0.legal (p.0.holds tt) (subst (λ (image : List ℕ). IsNotAJournal image place) (sym same) (q tt).0))
show_job journal journal' one other (verdicts.NotAJournal place) (verdicts.Shown shown) same p q f g =
    absurd (shown_is_none other.before.journal q.0.header q.0.entries place q.0.legal (q.0.holds tt) (subst (λ (image : List ℕ). IsNotAJournal image place) same (p tt).0))
show_job journal journal' one other (verdicts.NotAJournal place) (verdicts.NotAJournal place') same p q f g = refl
show_job journal journal' one other verdicts.StationFault b same p q f g = absurd (f refl)
show_job journal journal' one other (verdicts.Shown shown) verdicts.StationFault same p q f g = absurd (g refl)
show_job journal journal' one other (verdicts.NotAJournal place) verdicts.StationFault same p q f g = absurd (g refl)
show_job journal journal' one other (verdicts.Shown shown) _ same p q f g = absurd q
show_job journal journal' one other (verdicts.NotAJournal place) _ same p q f g = absurd q
show_job journal journal' one other _ b same p q f g = absurd p

module _ (words : List (List ℕ)) (left after after' : List ℕ) (faults now now' : ℕ) (one other : Served) (here there : Worlds) (a b : Verdict) (no_end : AsksEnd words → ⊥) (f : a ≢ verdicts.SourceFault) (f' : a ≢ verdicts.StationFault)
    (g : b ≢ verdicts.SourceFault) (g' : b ≢ verdicts.StationFault) (same : one.before.journal ≡ other.before.journal) (left_same : here.after ≡ there.after) where
  by_jobs : (job job' : Job) → Spells job words → Spells job' words → Does (Unit {0}) job (read left after after' faults now now' one other here there a b) one here a
      → Does (Unit {0}) job' (read' left after after' faults now now' one other here there a b) other there b → status_of a ≡ status_of b
  by_jobs (jobs.Format new) (jobs.Format new') s t p q = format_job new new' one other a b same p.1 q.1 f' g'
  by_jobs (jobs.Format new) (jobs.Check kind) s t p q = absurd (check_is_format kind new (sym t ∙ s.words_are))
  by_jobs (jobs.Check kind) (jobs.Format new) s t p q = absurd (check_is_format kind new (sym s ∙ t.words_are))
  by_jobs (jobs.Show journal) (jobs.Show journal') s t p q = show_job journal journal' one other a b same p.1 q.1 f' g'
  by_jobs (jobs.Show journal) (jobs.Check kind) s t p q = absurd (check_is_show kind journal (sym t ∙ s.words_are))
  by_jobs (jobs.Check kind) (jobs.Show journal) s t p q = absurd (check_is_show kind journal (sym s ∙ t.words_are))
  by_jobs (jobs.Show journal) (jobs.Format new) s t p q = absurd (show_is_format journal new (sym s.words_are ∙ t.words_are))
  by_jobs (jobs.Format new) (jobs.Show journal) s t p q = absurd (show_is_format journal new (sym t.words_are ∙ s.words_are))
  by_jobs (jobs.Check kind) (jobs.Check kind') s t p q =
      let same_kind : kind' ≡ kind = one_kind kind' kind (sym t ∙ s) in
      check_job left after after' faults now now' one other here there a b kind p
      (subst (λ (k : CheckKind). Does (Unit {0}) (jobs.Check k) (read' left after after' faults now now' one other here there a b) other there b) same_kind q) f g
  by_jobs (jobs.Handheld names) job' s t p q = absurd (no_end (Supplier, names, s))
  by_jobs (jobs.Receiver names) job' s t p q = absurd (no_end (Receiver, names, s))
  by_jobs (jobs.Check kind) (jobs.Handheld names) s t p q = absurd (no_end (Supplier, names, t))
  by_jobs (jobs.Check kind) (jobs.Receiver names) s t p q = absurd (no_end (Receiver, names, t))
  by_jobs (jobs.Format new) (jobs.Handheld names) s t p q = absurd (no_end (Supplier, names, t))
  by_jobs (jobs.Format new) (jobs.Receiver names) s t p q = absurd (no_end (Receiver, names, t))
  by_jobs (jobs.Show journal) (jobs.Handheld names) s t p q = absurd (no_end (Supplier, names, t))
  by_jobs (jobs.Show journal) (jobs.Receiver names) s t p q = absurd (no_end (Receiver, names, t))
  by_jobs jobs.Replay jobs.Replay s t p q = replay_job left after after' faults now now' one other here there a b left_same p q f g
  by_jobs jobs.Replay (jobs.Check kind) s t p q = absurd ((replay_only words s).0 (kind, t))
  by_jobs jobs.Replay (jobs.Format new) s t p q = absurd ((replay_only words s).1 (new, t))
  by_jobs jobs.Replay (jobs.Show journal) s t p q = absurd ((replay_only words s).2 (journal, t))
  by_jobs jobs.Replay (jobs.Handheld names) s t p q = absurd ((replay_only words s).3 (Supplier, names, t))
  by_jobs jobs.Replay (jobs.Receiver names) s t p q = absurd ((replay_only words s).3 (Receiver, names, t))
  by_jobs (jobs.Load count) (jobs.Load count') s t p q = load_one count count' here there a b left_same p.1 q.1
  by_jobs (jobs.Load count) (jobs.Check kind) s t p q = absurd ((load_only words (count, s)).0 (kind, t))
  by_jobs (jobs.Load count) (jobs.Format new) s t p q = absurd ((load_only words (count, s)).1 (new, t))
  by_jobs (jobs.Load count) (jobs.Show journal) s t p q = absurd ((load_only words (count, s)).2 (journal, t))
  by_jobs (jobs.Load count) (jobs.Handheld names) s t p q = absurd ((load_only words (count, s)).3 (Supplier, names, t))
  by_jobs (jobs.Load count) (jobs.Receiver names) s t p q = absurd ((load_only words (count, s)).3 (Receiver, names, t))
  by_jobs (jobs.Load count) jobs.Replay s t p q = absurd ((load_only words (count, s)).4 t)
  by_jobs (jobs.Check kind) (jobs.Load count) s t p q = absurd ((load_only words (count, t)).0 (kind, s))
  by_jobs (jobs.Format new) (jobs.Load count) s t p q = absurd ((load_only words (count, t)).1 (new, s))
  by_jobs (jobs.Show journal) (jobs.Load count) s t p q = absurd ((load_only words (count, t)).2 (journal, s))
  by_jobs jobs.Replay (jobs.Load count) s t p q = absurd ((load_only words (count, t)).4 s)
  by_jobs (jobs.Check kind) jobs.Replay s t p q = absurd ((replay_only words t).0 (kind, s))
  by_jobs (jobs.Format new) jobs.Replay s t p q = absurd ((replay_only words t).1 (new, s))
  by_jobs (jobs.Show journal) jobs.Replay s t p q = absurd ((replay_only words t).2 (journal, s))

  by_words : MayCome (Unit {0}) words (read left after after' faults now now' one other here there a b) one here a → MayCome (Unit {0}) words (read' left after after' faults now now' one other here there a b) other there b
      → status_of a ≡ status_of b
  by_words (inl p) (inl q) = ap status_of (p.verdict_is ∙ sym q.verdict_is)
  by_words (inl p) (inr q) = absurd (p.none q.job q.spells)
  by_words (inr p) (inl q) = absurd (q.none p.job p.spells)
  by_words (inr p) (inr q) = by_jobs p.job q.job p.spells q.spells p.does q.does

pub one_status : (words : List (List ℕ)) (left after after' : List ℕ) (faults now now' : ℕ) (one other : Served) (here there : Worlds) (a b : Verdict) → (AsksEnd words → ⊥) → a ≢ verdicts.SourceFault → a ≢ verdicts.StationFault
    → b ≢ verdicts.SourceFault → b ≢ verdicts.StationFault → one.before.journal ≡ other.before.journal → here.after ≡ there.after
    → MayCome (Unit {0}) words (record { left = Some left; after = Some after; faults = faults; faults_after = now }) one here a
    → MayCome (Unit {0}) words (record { left = Some left; after = Some after'; faults = faults; faults_after = now' }) other there b
    → status_of a ≡ status_of b
one_status words left after after' faults now now' one other here there a b no_end f f' g g' same left_same p q = by_words words left after after' faults now now' one other here there a b no_end f f' g g' same left_same p q

-- ---- the jobs of an end

serves_end : (words : List (List ℕ)) (role : Role) (names : EndNames) → SpellsEnd role names words → (given : Read) (served : Served) (worlds : Worlds) (v : Verdict) (job : Job) → Spells job words
    → Does (Unit {0}) job given served worlds v → ServesEnd (Unit {0}) role names given served v
serves_end words role names asked given served worlds v (jobs.Check kind) s d = absurd ((end_only role names words asked).0 (kind, s))
serves_end words role names asked given served worlds v (jobs.Format new) s d = absurd ((end_only role names words asked).1 (new, s))
serves_end words role names asked given served worlds v (jobs.Show journal) s d = absurd ((end_only role names words asked).2 (journal, s))
serves_end words role names asked given served worlds v (jobs.Load count) s d = absurd ((load_only words (count, s)).3 (role, names, asked))
serves_end words role names asked given served worlds v jobs.Replay s d = absurd ((replay_only words s).3 (role, names, asked))
serves_end words role names asked given served worlds v (jobs.Handheld names') s d =
    same_end words Supplier role names' names (λ (r : Role) (its : EndNames). ServesEnd (Unit {0}) r its given served v) s asked d
serves_end words role names asked given served worlds v (jobs.Receiver names') s d =
    same_end words Receiver role names' names (λ (r : Role) (its : EndNames). ServesEnd (Unit {0}) r its given served v) s asked d

module _ (words : List (List ℕ)) (role : Role) (names : EndNames) (left after after' : List ℕ) (faults now now' : ℕ) (one other : Served) (here there : Worlds) (a b : Verdict) (f : a ≢ verdicts.SourceFault) (f' : a ≢ verdicts.StationFault)
    (m : (n : ℕ) → a ≢ verdicts.Full n) (g : b ≢ verdicts.SourceFault) (g' : b ≢ verdicts.StationFault) (n : (n : ℕ) → b ≢ verdicts.Full n) (same : one.before.journal ≡ other.before.journal)
    (same_before : one.before.heard ≡ other.before.heard) (same_after : one.after.heard ≡ other.after.heard) where
  end_job : ServesEnd (Unit {0}) role names (read left after after' faults now now' one other here there a b) one a
      → ServesEnd (Unit {0}) role names (read' left after after' faults now now' one other here there a b) other b → status_of a ≡ status_of b
  end_job (inl unread) q = absurd (f unread.0.verdict_is)
  end_job (inr x) (inl unread) = absurd (g unread.0.verdict_is)
  end_job (inr x) (inr y) = elim (inputs left after after' x.0 y.0 x.1 y.1) [
    | inl is ↦ end_input_one role names one other same same_before same_after y.0 a b f' g' m n (subst (λ (t : List ℕ). ServesInput (Unit {0}) role names t one a) is x.2) y.2
    | inr long ↦ end_input_long role names one other same same_before same_after x.0 one a long.0 x.2 ∙ sym (end_input_long role names one other same same_before same_after y.0 other b long.1 y.2)
  ]

  by_words_of_end : SpellsEnd role names words → MayCome (Unit {0}) words (read left after after' faults now now' one other here there a b) one here a
      → MayCome (Unit {0}) words (read' left after after' faults now now' one other here there a b) other there b → status_of a ≡ status_of b
  by_words_of_end asked (inl p) q = absurd (no_other words (λ (r : Role) (its : EndNames). ⊥) p.none role names asked)
  by_words_of_end asked (inr p) (inl q) = absurd (no_other words (λ (r : Role) (its : EndNames). ⊥) q.none role names asked)
  by_words_of_end asked (inr p) (inr q) =
      end_job (serves_end words role names asked (read left after after' faults now now' one other here there a b) one here a p.job p.spells p.does)
      (serves_end words role names asked (read' left after after' faults now now' one other here there a b) other there b q.job q.spells q.does)

pub one_status_of_ends : (words : List (List ℕ)) (left after after' : List ℕ) (faults now now' : ℕ) (one other : Served) (here there : Worlds) (a b : Verdict) → AsksEnd words → a ≢ verdicts.SourceFault
    → a ≢ verdicts.StationFault → ((n : ℕ) → a ≢ verdicts.Full n) → b ≢ verdicts.SourceFault → b ≢ verdicts.StationFault → ((n : ℕ) → b ≢ verdicts.Full n)
    → one.before.journal ≡ other.before.journal → one.before.heard ≡ other.before.heard → one.after.heard ≡ other.after.heard
    → MayCome (Unit {0}) words (record { left = Some left; after = Some after; faults = faults; faults_after = now }) one here a
    → MayCome (Unit {0}) words (record { left = Some left; after = Some after'; faults = faults; faults_after = now' }) other there b
    → status_of a ≡ status_of b
one_status_of_ends words left after after' faults now now' one other here there a b (role, names, asked) f f' m g g' n same same_before same_after p q =
    by_words_of_end words role names left after after' faults now now' one other here there a b f f' m g g' n same same_before same_after asked p q
