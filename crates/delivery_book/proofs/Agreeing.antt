-- Two lists of deeds, one of each role, of which each one's taken sets are among the other's signed ones, have the same finals.
use Rattle.std.proofs.Common.{◌≡◌, ◌⊎◌, ◌≤◌, ℕ, zero, suc, Bool, true, false, ◌&&◌, ◌==◌, List, Option, Some, None, option_and_then, option_map, inl, inr, refl, sym, ap, subst, ◌∙◌, arith}
use Rattle.std.proofs.lemmas.Bool.{eqb-true}
use Rattle.dsd_values.specs.declared.role.Role.{Role}
use Rattle.dsd_values.specs.declared.role.Role.TheVariants.{Supplier, Receiver}
use Rattle.transaction_set.specs.declared.seal.Seal.{Seal}
use Rattle.adjustment_895.specs.AnswerRecord.{AnswerRecord}
use Rattle.dsd_record.specs.Chain.{Chain, version_of, with_adjusted}
use Rattle.dsd_record.specs.Version.{Version}
use Rattle.dsd_record.specs.declared.set_view.SetView.{SetView}
use Rattle.dsd_record.specs.declared.set_view.SetView.TheVariants as sets
use Rattle.dsd_journal.specs.declared.entry.EntryKind.{EntryKind}
use Rattle.dsd_journal.specs.declared.entry.EntryKind.TheVariants.{Signed, Took}
use Rattle.delivery_book.specs.Deeds.{Deed, acceptances, check_in, level_in, number_in, other_role, proposals, proposes, signer, signer_of}
use Rattle.delivery_book.specs.Standing.{acceptance_of, chain_at_base, chain_behind, chain_of_base, chain_to, is_named, longer, named_of, version_to}
use Rattle.delivery_book.specs.Finals.{Settled, accepted_by, final_by, final_in, is_crossed, settled_by, settled_of, settled_when, settled_with}
use Rattle.delivery_book.proofs.Members.{In, find_in}
use Rattle.delivery_book.proofs.Standings.{IsAcceptance, IsProposal, acceptance_is, first_in, proposal_is}
use Rattle.delivery_book.proofs.Kept.{Kept}

-- ---- small things

pub kind_is : (kind : EntryKind) → (kind ≡ Signed) ⊎ (kind ≡ Took)
kind_is Signed = inl refl
kind_is Took = inr refl

role_apart : (role : Role) → role ≡ other_role role → ⊥
role_apart Supplier e = cc
role_apart Receiver e = cc

pub twice_other : (role : Role) → other_role (other_role role) ≡ role
twice_other Supplier = refl
twice_other Receiver = refl

pub some_same : {X : Type 0} (x y : X) → Some x ≡ Some y → x ≡ y
some_same x y e = cc

pub left_of : (a b : Bool) → (a && b) ≡ true → a ≡ true
left_of true b e = refl
left_of false b e = cc

pub right_of : (a b : Bool) → (a && b) ≡ true → b ≡ true
right_of true b e = e
right_of false b e = cc

crossed_took : (kind : EntryKind) → is_crossed kind Signed ≡ true → kind ≡ Took
crossed_took Signed e = cc
crossed_took Took e = refl

crossed_signed : (kind : EntryKind) → is_crossed kind Took ≡ true → kind ≡ Signed
crossed_signed Signed e = refl
crossed_signed Took e = cc

-- the same set where it was signed
abbrev pub as_signed : Deed → Deed
as_signed deed = record { kind = Signed; text = deed.text; set = deed.set }

-- ---- what a level and a check name

pub record IsNamed (number : List ℕ) (n c : ℕ) (deeds : List Deed) (deed : Deed) : Type 0 where
  pub is : IsProposal number deeds deed
  pub level : level_in deed.set ≡ n
  pub check : check_in deed.set ≡ c

pub named_is : (number : List ℕ) (level check : ℕ) (deeds : List Deed) (deed : Deed) → named_of number level check deeds ≡ Some deed → IsNamed number level check deeds deed
named_is number level check deeds deed e =
    let p = find_in (is_named level check) (proposals number deeds) deed e in
    record {
      is = proposal_is number deeds deed p.among;
      level = eqb-true (level_in deed.set) level (left_of (level_in deed.set == level) (check_in deed.set == check) p.holds);
      check = eqb-true (check_in deed.set) check (right_of (level_in deed.set == level) (check_in deed.set == check) p.holds);
    }

-- ---- an acceptance and what it names

-- the integrity value of the set that it answers, if it answers one
abbrev pub named_in : SetView → Option ℕ
named_in (sets.Base base seal) = None
named_in (sets.Answer answer seal) = Some answer.check

pub record Settles (number : List ℕ) (deeds : List Deed) (s : Settled) : Type 0 where
  pub proposal : IsProposal number deeds s.proposal
  pub acceptance : IsAcceptance number deeds s.acceptance
  pub level : level_in s.proposal.set ≡ level_in s.acceptance.set
  pub named : named_in s.acceptance.set ≡ Some (check_in s.proposal.set)
  pub crossed : is_crossed s.proposal.kind s.acceptance.kind ≡ true

module _ (number : List ℕ) (deeds : List Deed) (s : Settled) where
  settles_when : (p a : Deed) (b : Bool) → is_crossed p.kind a.kind ≡ b → IsProposal number deeds p → IsAcceptance number deeds a → level_in p.set ≡ level_in a.set → named_in a.set ≡ Some (check_in p.set)
      → settled_when b p a ≡ Some s → Settles number deeds s
  settles_when p a true b is accepts level named e =
      subst (Settles number deeds) (some_same _ s e) (record { proposal = is; acceptance = accepts; level = level; named = named; crossed = b })
  settles_when p a false b is accepts level named e = cc

  settles_named : (a : Deed) (answer : AnswerRecord) (seal : Seal) (o : Option Deed) → a.set ≡ sets.Answer answer seal → IsAcceptance number deeds a → named_of number answer.level answer.check deeds ≡ o
      → settled_with o a ≡ Some s → Settles number deeds s
  settles_named a answer seal (Some p) is accepts found e =
      let n = named_is number answer.level answer.check deeds p found in
      settles_when p a (is_crossed p.kind a.kind) refl n.is accepts (n.level ∙ sym (ap level_in is)) (ap named_in is ∙ ap Some (sym n.check)) e
  settles_named a answer seal None is accepts found e = cc

  settles_set : (a : Deed) (set : SetView) → a.set ≡ set → IsAcceptance number deeds a → settled_with (accepted_by set number deeds) a ≡ Some s → Settles number deeds s
  settles_set a (sets.Base base seal) is accepts e = cc
  settles_set a (sets.Answer answer seal) is accepts e = settles_named a answer seal (named_of number answer.level answer.check deeds) is accepts refl e

  settles_by : (o : Option Deed) → acceptance_of number deeds ≡ o → settled_by o number deeds ≡ Some s → Settles number deeds s
  settles_by (Some a) found e =
      settles_set a a.set refl (acceptance_is number deeds a (first_in (acceptances number deeds) a found)) e
  settles_by None found e = cc

  pub settles : settled_of number deeds ≡ Some s → Settles number deeds s
  settles e = settles_by (acceptance_of number deeds) refl e

-- ---- equal chains from equal sets

map_same : {X Y : Type 0} (f : X → Y) (o o' : Option X) → ((x y : X) → o ≡ Some x → o' ≡ Some y → x ≡ y) → (a b : Y) → option_map f o ≡ Some a → option_map f o' ≡ Some b → a ≡ b
map_same f (Some x) (Some y) same a b e e' = some_same a b (sym e ∙ ap (λ (z : _). Some (f z)) (same x y refl refl) ∙ e')
map_same f (Some x) None same a b e e' = cc
map_same f None o' same a b e e' = cc

then_same : {X Y : Type 0} (f : X → Option Y) (o o' : Option X) → ((x y : X) → o ≡ Some x → o' ≡ Some y → x ≡ y) → (a b : Y) → option_and_then f o ≡ Some a → option_and_then f o' ≡ Some b → a ≡ b
then_same f (Some x) (Some y) same a b e e' = some_same a b (sym e ∙ ap f (same x y refl refl) ∙ e')
then_same f (Some x) None same a b e e' = cc
then_same f None o' same a b e e' = cc

base_same : (o o' : Option Deed) → ((p q : Deed) → o ≡ Some p → o' ≡ Some q → p.set ≡ q.set) → (x y : Chain) → chain_at_base o ≡ Some x → chain_at_base o' ≡ Some y → x ≡ y
base_same (Some p) (Some q) same x y e e' = some_same x y (sym e ∙ ap chain_of_base (same p q refl refl) ∙ e')
base_same (Some p) None same x y e e' = cc
base_same None o' same x y e e' = cc

longer_same : (set : SetView) (below below' : ℕ → Option Chain) → ((check : ℕ) (x y : Chain) → below check ≡ Some x → below' check ≡ Some y → x ≡ y) → (x y : Chain) → longer set below ≡ Some x → longer set below' ≡ Some y → x ≡ y
longer_same (sets.Base base seal) below below' ih x y e e' = cc
longer_same (sets.Answer answer seal) below below' ih x y e e' =
    map_same (λ (chain : Chain). with_adjusted chain (record { answer = answer; check = seal.check })) (below answer.check) (below' answer.check) (ih answer.check) x y e e'

behind_same : (o o' : Option Deed) (below below' : ℕ → Option Chain) → ((p q : Deed) → o ≡ Some p → o' ≡ Some q → p.set ≡ q.set) → ((check : ℕ) (x y : Chain) → below check ≡ Some x → below' check ≡ Some y → x ≡ y)
    → (x y : Chain) → chain_behind o below ≡ Some x → chain_behind o' below' ≡ Some y → x ≡ y
behind_same (Some p) (Some q) below below' same ih x y e e' =
    longer_same p.set below below' ih x y e (subst (λ (set : SetView). longer set below' ≡ Some y) (sym (same p q refl refl)) e')
behind_same (Some p) None below below' same ih x y e e' = cc
behind_same None o' below below' same ih x y e e' = cc

-- ---- two lists

pub record SameNamed (s t : Settled) : Type 0 where
  pub level : level_in s.proposal.set ≡ level_in t.proposal.set
  pub check : check_in s.proposal.set ≡ check_in t.proposal.set

by_acceptance : (number : List ℕ) (one other : List Deed) (s t : Settled) → Settles number one s → Settles number other t → s.acceptance.set ≡ t.acceptance.set → SameNamed s t
by_acceptance number one other s t i j e = record {
  level = i.level ∙ ap level_in e ∙ sym j.level;
  check = some_same _ _ (sym i.named ∙ ap named_in e ∙ j.named);
}

pub record HasFinal (number : List ℕ) (deeds : List Deed) (version : Version) : Type 0 where
  pub settled : Settled
  pub found : settled_of number deeds ≡ Some settled
  pub made : version_to number deeds (level_in settled.proposal.set) (check_in settled.proposal.set) ≡ Some version

has_final_by : (number : List ℕ) (deeds : List Deed) (version : Version) (o : Option Settled) → settled_of number deeds ≡ o → final_by o number deeds ≡ Some version → HasFinal number deeds version
has_final_by number deeds version (Some s) found e = record { settled = s; found = found; made = e }
has_final_by number deeds version None found e = cc

pub has_final : (number : List ℕ) (deeds : List Deed) (version : Version) → final_in deeds number ≡ Some version → HasFinal number deeds version
has_final number deeds version e = has_final_by number deeds version (settled_of number deeds) refl e

module _ (role : Role) (one other : List Deed) (k : Kept role one) (l : Kept (other_role role) other)
    (backed : (deed : Deed) → In deed one → deed.kind ≡ Took → In (as_signed deed) other)
    (backing : (deed : Deed) → In deed other → deed.kind ≡ Took → In (as_signed deed) one) where
  -- a proposal of one level is the same set in both
  same_signed : (p q : Deed) → In p one → In q other → proposes p.set ≡ true → proposes q.set ≡ true → number_in p.set ≡ number_in q.set → level_in p.set ≡ level_in q.set → p.kind ≡ Signed
      → (q.kind ≡ Signed) ⊎ (q.kind ≡ Took) → p.set ≡ q.set
  same_signed p q h i s t n e kind (inl also) =
      absurd (role_apart role (
      sym (ap (signer role) kind) ∙ sym (k.sided p h s) ∙ ap signer_of e ∙ l.sided q i t ∙ ap (signer (other_role role)) also
      ))
  same_signed p q h i s t n e kind (inr took) = ap (λ (deed : Deed). deed.set) (k.apart p (as_signed q) h (backing q i took) s t n e)

  pub same_set : (p q : Deed) → In p one → In q other → proposes p.set ≡ true → proposes q.set ≡ true → number_in p.set ≡ number_in q.set → level_in p.set ≡ level_in q.set → p.set ≡ q.set
  same_set p q h i s t n e =
      elim (kind_is p.kind) [
        | inl signed ↦ same_signed p q h i s t n e signed (kind_is q.kind)
        | inr took ↦ ap (λ (deed : Deed). deed.set) (l.apart (as_signed p) q (backed p h took) i s t n e)
      ]

  named_same : (number : List ℕ) (level check : ℕ) (p q : Deed) → named_of number level check one ≡ Some p → named_of number level check other ≡ Some q → p.set ≡ q.set
  named_same number level check p q e e' =
      let m = named_is number level check one p e in
      let n = named_is number level check other q e' in
      same_set p q m.is.among n.is.among m.is.proposes n.is.proposes (m.is.number ∙ sym n.is.number) (m.level ∙ sym n.level)

  -- downwards over the levels
  pub chain_same : (number : List ℕ) (level check : ℕ) (x y : Chain) → chain_to number one level check ≡ Some x → chain_to number other level check ≡ Some y → x ≡ y
  chain_same number zero check x y e e' = base_same (named_of number 0 check one) (named_of number 0 check other) (named_same number 0 check) x y e e'
  chain_same number (suc level) check x y e e' =
      behind_same (named_of number (suc level) check one) (named_of number (suc level) check other) (chain_to number one level) (chain_to number other level)
      (named_same number (suc level) check) (chain_same number level) x y e e'

  version_same : (number : List ℕ) (level check : ℕ) (v w : Version) → version_to number one level check ≡ Some v → version_to number other level check ≡ Some w → v ≡ w
  version_same number level check v w e e' = then_same version_of (chain_to number one level check) (chain_to number other level check) (chain_same number level check) v w e e'

  -- ---- both ends name the same proposal

  both_signed : (number : List ℕ) (s t : Settled) → Settles number one s → Settles number other t → s.acceptance.kind ≡ Signed → t.acceptance.kind ≡ Signed → SameNamed s t
  both_signed number s t i j a b =
      let s_took : s.proposal.kind ≡ Took = crossed_took s.proposal.kind (subst (λ (x : EntryKind). is_crossed s.proposal.kind x ≡ true) a i.crossed) in
      let t_took : t.proposal.kind ≡ Took = crossed_took t.proposal.kind (subst (λ (x : EntryKind). is_crossed t.proposal.kind x ≡ true) b j.crossed) in
      let up : level_in s.proposal.set ≤ level_in t.acceptance.set =
      l.closed t.acceptance (as_signed s.proposal) j.acceptance.among (backed s.proposal i.proposal.among s_took) j.acceptance.accepts i.proposal.proposes (j.acceptance.number ∙ sym i.proposal.number) in
      let down : level_in t.proposal.set ≤ level_in s.acceptance.set =
      k.closed s.acceptance (as_signed t.proposal) i.acceptance.among (backing t.proposal j.proposal.among t_took) i.acceptance.accepts j.proposal.proposes (i.acceptance.number ∙ sym j.proposal.number) in
      let m = i.level in
      let n = j.level in
      let same : level_in s.proposal.set ≡ level_in t.proposal.set = omega (arith, up, down, m, n) in
      absurd (role_apart role (sym (
      sym (ap (signer role) s_took) ∙ sym (k.sided s.proposal i.proposal.among i.proposal.proposes) ∙ ap signer_of same
      ∙ l.sided t.proposal j.proposal.among j.proposal.proposes ∙ ap (signer (other_role role)) t_took ∙ twice_other role
      )))

  same_named : (number : List ℕ) (s t : Settled) → Settles number one s → Settles number other t → (s.acceptance.kind ≡ Signed) ⊎ (s.acceptance.kind ≡ Took) → (t.acceptance.kind ≡ Signed) ⊎ (t.acceptance.kind ≡ Took) → SameNamed s t
  same_named number s t i j (inr took) b =
      by_acceptance number one other s t i j (ap (λ (deed : Deed). deed.set)
      (l.one (as_signed s.acceptance) t.acceptance (backed s.acceptance i.acceptance.among took) j.acceptance.among i.acceptance.accepts j.acceptance.accepts (i.acceptance.number ∙ sym j.acceptance.number)))
  same_named number s t i j (inl signed) (inr took) =
      by_acceptance number one other s t i j (ap (λ (deed : Deed). deed.set)
      (k.one s.acceptance (as_signed t.acceptance) i.acceptance.among (backing t.acceptance j.acceptance.among took) i.acceptance.accepts j.acceptance.accepts (i.acceptance.number ∙ sym j.acceptance.number)))
  same_named number s t i j (inl signed) (inl also) = both_signed number s t i j signed also

  pub finals_same : (number : List ℕ) (v w : Version) → final_in one number ≡ Some v → final_in other number ≡ Some w → v ≡ w
  finals_same number v w e e' =
      let f = has_final number one v e in
      let g = has_final number other w e' in
      let named = same_named number f.settled g.settled (settles number one f.settled f.found) (settles number other g.settled g.found) (kind_is f.settled.acceptance.kind) (kind_is g.settled.acceptance.kind) in
      version_same number (level_in g.settled.proposal.set) (check_in g.settled.proposal.set) v w
      (subst (λ (n : ℕ). version_to number one n (check_in g.settled.proposal.set) ≡ Some v) named.level
      (subst (λ (c : ℕ). version_to number one (level_in f.settled.proposal.set) c ≡ Some v) named.check f.made))
      g.made
