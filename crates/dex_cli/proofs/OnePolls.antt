-- What was heard leaves one outcome of polls.
use Rattle.std.proofs.Common.{◌≡◌, inl, inr, ℕ, Bool, true, false, List, [], ◌∷◌, Option, Some, None, refl, sym, ◌∙◌, ap, subst}
use Rattle.std.proofs.lemmas.Bool.{cases_Bool}
use Rattle.dsd_values.specs.declared.role.Role.{Role}
use Rattle.dsd_values.specs.declared.role.Role.TheVariants.{Receiver, Supplier}
use Rattle.dex_handshake.specs.LineTable.{started}
use Rattle.dsd_record.specs.Choices.{Chooser}
use Rattle.dsd_station.specs.declared.call.Reception.{Reception}
use Rattle.dsd_end.specs.PollStep.{Along, Done, Next, PollsAt, joined}
use Rattle.dsd_end.specs.PollsHeard.{receptions_of}
use Rattle.dsd_end.specs.Standings.{Standing, has_ended}
use Rattle.dsd_end.proofs.OneOutcome.{next_once}
use Rattle.dsd_end.proofs.Polling.{along_goes, next_goes}

module _ (chooser : Chooser) where
  -- a poll that listens comes where the first one is done, and one that does not where it is to come
  listens : (s : Standing) (heard : Reception) (one : Done) → s.first ≡ true → Next chooser s (Some heard) one → ⊥
  listens s heard one first n = subst (λ (b : Bool). PollsAt b chooser s (Some heard) one) first n.polls

  begins : (s : Standing) (one : Done) → s.first ≡ false → Next chooser s None one → ⊥
  begins s one first n = subst (λ (b : Bool). PollsAt b chooser s None one) first n.polls

  -- and then the first one is done
  begun : (s : Standing) (one : Done) → s.first ≡ true → Next chooser s None one → one.standing.first ≡ false
  begun s one first n =
      let is = subst (λ (b : Bool). PollsAt b chooser s None one) first n.polls in
      ap (λ (d : Done). d.standing.first) is

  still : (s : Standing) (poll : Option Reception) (one : Done) → s.first ≡ false → Next chooser s poll one → one.standing.first ≡ false
  still s poll one first n = (next_goes chooser (λ set. Unit {0}) (λ text set c. tt) s poll one n).first first

  both : (one one' rest rest' done done' : Done) → one ≡ one' → rest ≡ rest' → done ≡ joined one rest → done' ≡ joined one' rest' → done ≡ done'
  both one one' rest rest' done done' p q is is' = is ∙ rw (p, q) refl ∙ sym is'

  unlistened : (s : Standing) (done : Done) → s.first ≡ true → done ≡ record { standing = s; said = []; loads = [] } → done.standing.first ≡ false → ⊥
  unlistened s done first is listened = (let never : false ≡ true = sym listened ∙ ap (λ (d : Done). d.standing.first) is ∙ first in cc)

  same_polls : (s : Standing) (polls others : List (Option Reception)) (done done' : Done) → s.first ≡ false → receptions_of polls ≡ receptions_of others
      → Along chooser s polls done → Along chooser s others done' → done ≡ done'
  same_polls s [] [] done done' first same p q = p ∙ sym q
  same_polls s [] (None ∷ others) done done' first same p (one', rest', n', on', is') = absurd (begins s one' first n')
  same_polls s [] (Some heard ∷ others) done done' first same p q = (let never : ⊥ = cc in absurd never)
  same_polls s (None ∷ polls) others done done' first same (one, rest, n, on, is) q = absurd (begins s one first n)
  same_polls s (Some heard ∷ polls) [] done done' first same p q = (let never : ⊥ = cc in absurd never)
  same_polls s (Some heard ∷ polls) (None ∷ others) done done' first same p (one', rest', n', on', is') = absurd (begins s one' first n')
  same_polls s (Some heard ∷ polls) (Some heard' ∷ others) done done' first same (one, rest, n, on, is) (one', rest', n', on', is') =
      let head : heard' ≡ heard = cc in
      let tail : receptions_of polls ≡ receptions_of others = cc in
      let once : one ≡ one' = next_once chooser s (Some heard) one one' n (subst (λ (h : Reception). Next chooser s (Some h) one') head n') in
      let later : Along chooser one.standing others rest' = subst (λ (d : Done). Along chooser d.standing others rest') (sym once) on' in
      both one one' rest rest' done done' once (same_polls one.standing polls others rest rest' (still s (Some heard) one first n) tail on later) is is'

  from_first : (s : Standing) (polls others : List (Option Reception)) (done done' : Done) → s.first ≡ true → receptions_of polls ≡ receptions_of others
      → Along chooser s polls done → Along chooser s others done' → done.standing.first ≡ false → done'.standing.first ≡ false → done ≡ done'
  from_first s [] others done done' first same p q listened listened' = absurd (unlistened s done first p listened)
  from_first s (None ∷ polls) [] done done' first same p q listened listened' = absurd (unlistened s done' first q listened')
  from_first s (Some heard ∷ polls) others done done' first same (one, rest, n, on, is) q listened listened' = absurd (listens s heard one first n)
  from_first s (None ∷ polls) (Some heard ∷ others) done done' first same p (one', rest', n', on', is') listened listened' = absurd (listens s heard one' first n')
  from_first s (None ∷ polls) (None ∷ others) done done' first same (one, rest, n, on, is) (one', rest', n', on', is') listened listened' =
      let once : one ≡ one' = next_once chooser s None one one' n n' in
      let later : Along chooser one.standing others rest' = subst (λ (d : Done). Along chooser d.standing others rest') (sym once) on' in
      both one one' rest rest' done done' once (same_polls one.standing polls others rest rest' (begun s one first n) same on later) is is'

  pub one_outcome : (s : Standing) (polls others : List (Option Reception)) (done done' : Done) → receptions_of polls ≡ receptions_of others
      → Along chooser s polls done → Along chooser s others done' → done.standing.first ≡ false → done'.standing.first ≡ false → done ≡ done'
  one_outcome s polls others done done' same p q listened listened' = elim (cases_Bool s.first) [
    | inl to_come ↦ from_first s polls others done done' to_come same p q listened listened'
    | inr done_with ↦ same_polls s polls others done done' done_with same p q
  ]

  still_along : (s : Standing) (polls : List (Option Reception)) (done : Done) → s.first ≡ false → Along chooser s polls done → done.standing.first ≡ false
  still_along s polls done first along = (along_goes chooser (λ set. Unit {0}) (λ text set c. tt) s polls done along).first first

  -- where the session has ended, the first poll was done
  pub first_done : (s : Standing) (polls : List (Option Reception)) (done : Done) → has_ended s.line ≡ false → Along chooser s polls done → has_ended done.standing.line ≡ true → done.standing.first ≡ false
  first_done s polls done goes along ended = elim (cases_Bool s.first) [
    | inl to_come ↦ by polls along to_come
    | inr done_with ↦ still_along s polls done done_with along
  ]
    where
      by : (polls : List (Option Reception)) → Along chooser s polls done → s.first ≡ true → done.standing.first ≡ false
      by [] is to_come = (let never : false ≡ true = sym goes ∙ sym (ap (λ (d : Done). has_ended d.standing.line) is) ∙ ended in cc)
      by (None ∷ polls) (one, rest, n, on, is) to_come = ap (λ (d : Done). d.standing.first) is ∙ still_along one.standing polls rest (begun s one to_come n) on
      by (Some heard ∷ polls) (one, rest, n, on, is) to_come = absurd (listens s heard one to_come n)

pub started_goes : (role : Role) (own peer : List ℕ) → has_ended (started role own peer).next ≡ false
started_goes Supplier own peer = refl
started_goes Receiver own peer = refl
