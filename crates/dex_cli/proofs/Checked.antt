-- A text is checked piece by piece.
use Rattle.std.proofs.Common.{◌≡◌, ℕ, List, [], ◌∷◌, ◌++◌, Option, Some, None, Result, Ok, Err, OnOk, is_some, Bool, true, nat_eq, MatchOption, refl, sym, ap, ◌∙◌, subst, append_assoc, append-nil, length, arith}
use Rattle.std.proofs.lemmas.Bool.Decides.{nat_tests}
use Rattle.dxs_envelope.specs.FirstFault.{told_behind, told_of}
use Rattle.dxs_envelope.specs.TextParts.{PartAt, Parts, begun_by, closed_by, grouped, no_parts, parts_behind, parts_of}
use Rattle.dxs_envelope.specs.TextPieces.{TextAt, text_begun, text_left, told_then}
use Rattle.dxs_envelope.specs.Views.{SetAt, Told}
use Rattle.dxs_envelope.specs.declared.fault.EnvelopeFault.{EnvelopeFault}
use Rattle.dex_cli.specs.Summaries.{Ends, IsNoSetAt, IsSummary, SumsUp, refusal_of}
use Rattle.dex_cli.specs.TextSteps.{Brings, BringsSets, GoesOn, HasBegun, HasChecked, IsBrought, IsKept, IsRefusedSo, StandsAt, Summed, told_as}
use Rattle.dex_cli.specs.declared.begun_set.BegunSet.{BegunSet}
use Rattle.dex_cli.specs.declared.begun_set.Brought.{Brought}
use Rattle.dex_cli.specs.declared.begun_set.Brought.TheVariants as brings
use Rattle.dex_cli.specs.declared.check_text.TextChecking.{TextChecking}
use Rattle.dex_cli.specs.declared.refusal.Refusal.{Refusal}
use Rattle.dex_cli.specs.declared.summary.SetSummary.{SetSummary}
use Rattle.dex_cli.specs.declared.text_summary.TextEnding.{TextEnding}
use Rattle.dex_cli.specs.declared.text_summary.TextEnding.TheVariants as endings
use Rattle.dex_cli.proofs.SumUp.{ended, one_more, stopped}

-- what is told behind a part: the set that ends in it, and then the rest
told_part : (set : Option SetAt) (part : PartAt) (later : Parts)
    → told_as set (parts_behind part later) ≡ record { sets = closed_by part.kind set part.segment ++ (told_as (begun_by part.kind set part.segment) later).sets; fault = later.fault }
unfolding grouped
told_part set part later = refl

told_none : (fault : EnvelopeFault) (set : Option SetAt) → told_as set (no_parts (Some fault)) ≡ record { sets = []; fault = Some fault }
unfolding grouped
told_none fault set = refl

-- a checking with nothing refused
module _ (all : List ℕ → Told) (left : List ℕ → Parts) (old new : TextChecking) (set : Option SetAt) (part : PartAt) where
  abbrev Sums : Type 0
  Sums = (more : List ℕ) → Summed (all more) old.summaries.items (told_as set (parts_behind part (left more)))

  next_set : Option SetAt
  next_set = begun_by part.kind set part.segment

  -- what is told behind the part
  behind_part : Sums → (sets : List SetAt) → closed_by part.kind set part.segment ≡ sets → (more : List ℕ)
      → Summed (all more) old.summaries.items (record { sets = sets ++ (told_as (begun_by part.kind set part.segment) (left more)).sets; fault = (left more).fault })
  behind_part sums sets is more = subst (λ (t : Told). Summed (all more) old.summaries.items t) (told_part set part (left more) ∙ ap (λ (l : List SetAt). record { sets = l ++ (told_as (begun_by part.kind set part.segment) (left more)).sets; fault = (left more).fault }) is) (sums more)

  -- what the part brings was kept
  pub kept_so : Sums → (brought : Brought) → BringsSets (closed_by part.kind set part.segment) brought → HasBegun (begun_by part.kind set part.segment) new.begun → IsKept brought old new → StandsAt all left new
  kept_so sums brought says begun kept = by_sets (closed_by part.kind set part.segment) refl brought says kept
    where
      is_open : new.ending ≡ None → GoesOn all left new → StandsAt all left new
      is_open none goes = subst (λ (ending : Option Refusal). MatchOption ending (GoesOn all left new) (IsRefusedSo all new)) (sym none) goes

      goes_with : (done : List SetSummary) → new.summaries.items ≡ done → ((more : List ℕ) → Summed (all more) done (told_as (begun_by part.kind set part.segment) (left more))) → GoesOn all left new
      goes_with done is so = record { set = begun_by part.kind set part.segment; begun = begun; sums = λ more. subst (λ (l : List SetSummary). Summed (all more) l (told_as (begun_by part.kind set part.segment) (left more))) (sym is) (so more) }

      by_sets : (sets : List SetAt) → closed_by part.kind set part.segment ≡ sets → (b : Brought) → BringsSets sets b → IsKept b old new → StandsAt all left new
      by_sets [] is brings.Nothing says k = is_open k.1 (goes_with old.summaries.items k.0 (λ more. behind_part sums [] is more))
      by_sets [] is (brings.Set summary) says k = (let never : ⊥ = cc in absurd never)
      by_sets [] is (brings.Refused refusal) says k = (let never : ⊥ = cc in absurd never)
      by_sets (one ∷ sets) is brings.Nothing says k = absurd says.1
      by_sets (one ∷ sets) is (brings.Set summary) says k =
          let only : closed_by part.kind set part.segment ≡ one ∷ [] = is ∙ ap (λ (l : List SetAt). one ∷ l) says.0 in
          is_open k.1 (goes_with (old.summaries.items ++ summary ∷ []) k.0 (λ more. one_more (all more) (told_as (begun_by part.kind set part.segment) (left more)) old.summaries.items one summary (behind_part sums (one ∷ []) only more) says.1))
      by_sets (one ∷ sets) is (brings.Refused refusal) says k =
          let only : closed_by part.kind set part.segment ≡ one ∷ [] = is ∙ ap (λ (l : List SetAt). one ∷ l) says.0 in
          let refused : IsRefusedSo all new refusal = λ more. subst (λ (l : List SetSummary). SumsUp (all more).sets (all more).fault l (endings.Refused refusal)) (sym k.0)
          (stopped (all more) (told_as (begun_by part.kind set part.segment) (left more)) old.summaries.items one refusal (behind_part sums (one ∷ []) only more) says.1) in
          subst (λ (ending : Option Refusal). MatchOption ending (GoesOn all left new) (IsRefusedSo all new)) (sym k.1) refused

kept_from : (brought : Brought) (old mid new : TextChecking) → mid.summaries.items ≡ old.summaries.items → IsKept brought mid new → IsKept brought old new
kept_from brings.Nothing old mid new same k = (k.0 ∙ same, k.1)
kept_from (brings.Set summary) old mid new same k = (k.0 ∙ ap (λ (l : List SetSummary). l ++ summary ∷ []) same, k.1)
kept_from (brings.Refused refusal) old mid new same k = (k.0 ∙ same, k.1)

-- the part that was told is taken
pub part_taken : (all : List ℕ → Told) (left : List ℕ → Parts) (old mid new : TextChecking) (told : Option PartAt) (part : PartAt) (brought : Brought) (begun : Option BegunSet) → Some part ≡ told
    → ((set : Option SetAt) → HasBegun set old.begun → Brings set part brought begun) → new.begun ≡ begun → mid.summaries.items ≡ old.summaries.items → IsKept brought mid new
    → GoesOn all (λ more. told_then told (left more)) old → StandsAt all left new
part_taken all left old mid new told part brought begun is comes same unchanged kept goes =
    let says = comes goes.set goes.begun in
    kept_so all left old new goes.set part
    (λ more. subst (λ (t : Option PartAt). Summed (all more) old.summaries.items (told_as goes.set (told_then t (left more)))) (sym is) (goes.sums more))
    brought says.0 (subst (λ (b : Option BegunSet). HasBegun (begun_by part.kind goes.set part.segment) b) (sym same) says.1) (kept_from brought old mid new unchanged kept)

-- so of a value
pub when_ok : {V E P Q : Type 0} (r : Result V E) → (P → Q) → OnOk r P → OnOk r Q
when_ok (Ok x) f p = f p
when_ok (Err e) f p = tt

-- while nothing is refused
pub goes_open : (all : List ℕ → Told) (left : List ℕ → Parts) (checking : TextChecking) → checking.ending ≡ None → StandsAt all left checking → GoesOn all left checking
goes_open all left checking none stands = subst (λ (ending : Option Refusal). MatchOption ending (GoesOn all left checking) (IsRefusedSo all checking)) none stands

-- the same is left, told otherwise
pub same_left : (all : List ℕ → Told) (left left' : List ℕ → Parts) (old new : TextChecking) → ((more : List ℕ) → left more ≡ left' more) → new.begun ≡ old.begun → new.summaries.items ≡ old.summaries.items → GoesOn all left old → GoesOn all left' new
same_left all left left' old new same begun summaries goes = record {
  set = goes.set;
  begun = subst (λ (b : Option BegunSet). HasBegun goes.set b) (sym begun) goes.begun;
  sums = λ more. subst (λ (l : List SetSummary). Summed (all more) l (told_as goes.set (left' more))) (sym summaries) (subst (λ (p : Parts). Summed (all more) old.summaries.items (told_as goes.set p)) (same more) (goes.sums more));
}

-- the text is refused
pub text_refused : (all : List ℕ → Told) (left : List ℕ → Parts) (old : TextChecking) (fault : EnvelopeFault) (refusal : Refusal) → ((more : List ℕ) → left more ≡ no_parts (Some fault))
    → refusal ≡ refusal_of fault → GoesOn all left old → IsRefusedSo all old refusal
text_refused all left old fault refusal stops is goes more =
    ended (all more) (record { sets = []; fault = Some fault }) old.summaries.items (endings.Refused refusal)
    (subst (λ (t : Told). Summed (all more) old.summaries.items t) (ap (told_as goes.set) (stops more) ∙ told_none fault goes.set) (goes.sums more)) is

-- where it is refused, what is left does not matter
pub refused_still : (all : List ℕ → Told) (left left' : List ℕ → Parts) (checking : TextChecking) → is_some checking.ending ≡ true → StandsAt all left checking → StandsAt all left' checking
refused_still all left left' checking some stands = by_ending checking.ending some stands
  where
    by_ending : (ending : Option Refusal) → is_some ending ≡ true → MatchOption ending (GoesOn all left checking) (IsRefusedSo all checking) → MatchOption ending (GoesOn all left' checking) (IsRefusedSo all checking)
    by_ending None is has = (let never : ⊥ = cc in absurd never)
    by_ending (Some refusal) is has = has

pub none_left : (rest : List ℕ) (empty : Bool) → empty ≡ nat_eq (length rest) 0 → empty ≡ true → length rest ≡ 0
none_left rest empty is holds =
    let none : nat_eq (length rest) 0 ≡ true = sym is ∙ holds in
    grind (arith, nat_tests)

-- the piece was taken
pub piece_taken : (all : List ℕ → Told) (rest : List ℕ) (checking : TextChecking) → length rest ≡ 0 → StandsAt all (λ more. text_left checking.text (rest ++ more)) checking → StandsAt all (λ more. text_left checking.text more) checking
piece_taken all [] checking none stands = stands
piece_taken all (byte ∷ rest) checking none stands = absurd (omega (arith, none))

-- how the text ends
pub ends_whole : {T : Type 0} (x y : T) (set : Option SetAt) (parts : Parts) → MatchOption parts.fault ((let r : Result T EnvelopeFault = Ok x in r) ≡ Ok y) (λ fault. (let r : Result T EnvelopeFault = Ok x in r) ≡ Err fault) → parts.parts ≡ []
    → Ends (grouped set parts.parts) parts.fault endings.Whole
unfolding grouped
ends_whole {T} x y set parts answer none = subst (λ (l : List PartAt). Ends (grouped set l) parts.fault endings.Whole) (sym none) (by_fault parts.fault answer)
  where
    by_fault : (fault : Option EnvelopeFault) → MatchOption fault ((let r : Result T EnvelopeFault = Ok x in r) ≡ Ok y) (λ f. (let r : Result T EnvelopeFault = Ok x in r) ≡ Err f) → Ends (grouped set []) fault endings.Whole
    by_fault None is = tt
    by_fault (Some fault) is = (let never : ⊥ = cc in absurd never)

pub ends_refused : {T : Type 0} (y : T) (set : Option SetAt) (parts : Parts) (fault : EnvelopeFault) (refusal : Refusal) → MatchOption parts.fault ((let r : Result T EnvelopeFault = Err fault in r) ≡ Ok y) (λ f. (let r : Result T EnvelopeFault = Err fault in r) ≡ Err f) → parts.parts ≡ []
    → refusal ≡ refusal_of fault → Ends (grouped set parts.parts) parts.fault (endings.Refused refusal)
unfolding grouped
ends_refused {T} y set parts fault refusal answer none is = subst (λ (l : List PartAt). Ends (grouped set l) parts.fault (endings.Refused refusal)) (sym none) (by_fault parts.fault answer)
  where
    same : (a b : EnvelopeFault) → (let r : Result T EnvelopeFault = Err a in r) ≡ Err b → a ≡ b
    same a b e = cc

    by_fault : (known : Option EnvelopeFault) → MatchOption known ((let r : Result T EnvelopeFault = Err fault in r) ≡ Ok y) (λ f. (let r : Result T EnvelopeFault = Err fault in r) ≡ Err f) → Ends (grouped set []) known (endings.Refused refusal)
    by_fault None e = (let never : ⊥ = cc in absurd never)
    by_fault (Some known) e = is ∙ ap refusal_of (same fault known e)

-- a text is summed up where no more bytes come
pub summed_up : (input : List ℕ) (checking : TextChecking) (ending : TextEnding) → HasChecked input checking
    → MatchOption checking.ending ((set : Option SetAt) → Ends (told_as set (text_left checking.text [])).sets (told_as set (text_left checking.text [])).fault ending) (λ refusal. ending ≡ endings.Refused refusal)
    → SumsUp (told_of input).sets (told_of input).fault checking.summaries.items ending
summed_up input checking ending has ends =
    subst (λ (l : List ℕ). SumsUp (told_of l).sets (told_of l).fault checking.summaries.items ending) (append-nil input) (by_ending checking.ending has ends)
  where
    by_ending : (known : Option Refusal) → MatchOption known (GoesOn (λ more. told_of (input ++ more)) (λ more. text_left checking.text more) checking) (IsRefusedSo (λ more. told_of (input ++ more)) checking)
        → MatchOption known ((set : Option SetAt) → Ends (told_as set (text_left checking.text [])).sets (told_as set (text_left checking.text [])).fault ending) (λ refusal. ending ≡ endings.Refused refusal)
        → SumsUp (told_of (input ++ [])).sets (told_of (input ++ [])).fault checking.summaries.items ending
    by_ending None goes ends = ended (told_of (input ++ [])) (told_as goes.set (text_left checking.text [])) checking.summaries.items ending (goes.sums []) (ends goes.set)
    by_ending (Some refusal) refused is = subst (λ (e : TextEnding). SumsUp (told_of (input ++ [])).sets (told_of (input ++ [])).fault checking.summaries.items e) (sym is) (refused [])

-- a piece comes
pub piece_comes : (input piece : List ℕ) (checking : TextChecking) → HasChecked input checking → StandsAt (λ more. told_of ((input ++ piece) ++ more)) (λ more. text_left checking.text (piece ++ more)) checking
piece_comes input piece checking has = by_ending checking.ending refl
  where
    by_ending : (ending : Option Refusal) → checking.ending ≡ ending → StandsAt (λ more. told_of ((input ++ piece) ++ more)) (λ more. text_left checking.text (piece ++ more)) checking
    by_ending None is =
        let goes : GoesOn (λ more. told_of (input ++ more)) (λ more. text_left checking.text more) checking = goes_open (λ more. told_of (input ++ more)) (λ more. text_left checking.text more) checking is has in
        let more_goes : GoesOn (λ more. told_of ((input ++ piece) ++ more)) (λ more. text_left checking.text (piece ++ more)) checking = record {
          set = goes.set;
          begun = goes.begun;
          sums = λ more. subst (λ (l : List ℕ). Summed (told_of l) checking.summaries.items (told_as goes.set (text_left checking.text (piece ++ more)))) (sym (append_assoc input piece more)) (goes.sums (piece ++ more));
        } in
        subst (λ (ending : Option Refusal). MatchOption ending (GoesOn (λ more. told_of ((input ++ piece) ++ more)) (λ more. text_left checking.text (piece ++ more)) checking) (IsRefusedSo (λ more. told_of ((input ++ piece) ++ more)) checking)) (sym is) more_goes
    by_ending (Some refusal) is =
        let refused : IsRefusedSo (λ more. told_of (input ++ more)) checking refusal =
        subst (λ (ending : Option Refusal). MatchOption ending (GoesOn (λ more. told_of (input ++ more)) (λ more. text_left checking.text more) checking) (IsRefusedSo (λ more. told_of (input ++ more)) checking)) is has in
        let still : IsRefusedSo (λ more. told_of ((input ++ piece) ++ more)) checking refusal = λ more.
        subst (λ (l : List ℕ). SumsUp (told_of l).sets (told_of l).fault checking.summaries.items (endings.Refused refusal)) (sym (append_assoc input piece more)) (refused (piece ++ more)) in
        subst (λ (ending : Option Refusal). MatchOption ending (GoesOn (λ more. told_of ((input ++ piece) ++ more)) (λ more. text_left checking.text (piece ++ more)) checking) (IsRefusedSo (λ more. told_of ((input ++ piece) ++ more)) checking)) (sym is) still

-- nothing was taken
pub nothing_checked : (checking : TextChecking) → checking.begun ≡ None → checking.summaries.items ≡ []
    → ((more : List ℕ) → text_left checking.text more ≡ parts_of more) → ((text : List ℕ) → told_of text ≡ record { sets = grouped None (parts_of text).parts; fault = (parts_of text).fault })
    → GoesOn (λ more. told_of more) (λ more. text_left checking.text more) checking
nothing_checked checking begun summaries left law = record {
  set = None;
  begun = subst (λ (b : Option BegunSet). HasBegun None b) (sym begun) tt;
  sums = λ more. subst (λ (l : List SetSummary). Summed (told_of more) l (told_as None (text_left checking.text more))) (sym summaries)
      (λ later ending up. subst (λ (t : Told). SumsUp t.sets t.fault later ending) (ap (told_as None) (left more) ∙ sym (law more)) up);
}

pub begun_left : (more : List ℕ) → text_left text_begun more ≡ parts_of more
begun_left more = refl
