-- The phases tell what may follow.
use Rattle.std.proofs.Common.{◌≡◌, true, List, [], ◌∷◌, ◌++◌, Option, Some, None, refl, sym, ap, ◌∙◌, subst, inl, inr, append-nil, ◌↔◌}
use Rattle.transaction_set.specs.declared.kind.Kind.{Kind}
use Rattle.transaction_set.specs.declared.kind.Kind.TheVariants as kinds
use Rattle.transaction_set.specs.declared.kind.Form.{Form}
use Rattle.transaction_set.specs.declared.kind.Form.TheVariants as forms
use Rattle.transaction_set.specs.declared.phase.Phase.{Phase}
use Rattle.transaction_set.specs.declared.phase.Phase.TheVariants as phases
use Rattle.transaction_set.specs.Kinds.{next_phase}
use Rattle.transaction_set.specs.SoFar.{phase_in}
use Rattle.transaction_set.specs.Order.{Kinds, This, Nothing, Record, Behind, Body, References, InOrder, MayFollow, from_phase, phase_behind}
use Rattle.transaction_set.proofs.Back.{moves}

-- what may come from a phase on
abbrev pub Left : Phase → Form → Kinds
Left phases.Start form = InOrder form
Left phases.Head form = This kinds.Head (References form)
Left phases.References form = References form
Left phases.Body form = Body form
Left phases.FirstItem form = This kinds.Item (Behind (Record form))
Left phases.Items form = Behind (Record form)
Left phases.Extras form = Record form
Left phases.Signature form = This kinds.Signature (This kinds.Integrity (This kinds.Trailer Nothing))
Left phases.Integrity form = This kinds.Integrity (This kinds.Trailer Nothing)
Left phases.Trailer form = This kinds.Trailer Nothing
Left phases.Done form = Nothing

abbrev On : Phase → Form → List Kind → Kind → Type 0
On p form ks k = (moves (next_phase p k form) ≡ true) × Left (phase_in (next_phase p k form)) form ks

record_on : (form : Form) (k : Kind) (ks : List Kind) → Record form (k ∷ ks) → On phases.Extras form ks k
record_on forms.Base k ks (inl e) = subst (On phases.Extras forms.Base ks) (sym e.0) (refl, e.1)
record_on forms.Base k ks (inr (inl e)) = subst (On phases.Extras forms.Base ks) (sym e.0) (refl, e.1)
record_on forms.Base k ks (inr (inr e)) = subst (On phases.Extras forms.Base ks) (sym e.0) (refl, e.1)
record_on forms.Answer k ks e = subst (On phases.Extras forms.Answer ks) (sym e.0) (refl, e.1)

body_on : (form : Form) (k : Kind) (ks : List Kind) → Body form (k ∷ ks) → On phases.Body form ks k × On phases.References form ks k
body_on form k ks (inl e) = (subst (On phases.Body form ks) (sym e.0) (refl, e.1), subst (On phases.References form ks) (sym e.0) (refl, e.1))
body_on forms.Base k ks (inr (inl e)) = (subst (On phases.Body forms.Base ks) (sym e.0) (refl, e.1), subst (On phases.References forms.Base ks) (sym e.0) (refl, e.1))
body_on forms.Base k ks (inr (inr (inl e))) = (subst (On phases.Body forms.Base ks) (sym e.0) (refl, e.1), subst (On phases.References forms.Base ks) (sym e.0) (refl, e.1))
body_on forms.Base k ks (inr (inr (inr e))) = (subst (On phases.Body forms.Base ks) (sym e.0) (refl, e.1), subst (On phases.References forms.Base ks) (sym e.0) (refl, e.1))
body_on forms.Answer k ks (inr e) = (subst (On phases.Body forms.Answer ks) (sym e.0) (refl, e.1), subst (On phases.References forms.Answer ks) (sym e.0) (refl, e.1))

-- what may come begins with what may stand there
on : (p : Phase) (form : Form) (k : Kind) (ks : List Kind) → Left p form (k ∷ ks) → On p form ks k
on phases.Start form k ks e = subst (On phases.Start form ks) (sym e.0) (refl, e.1)
on phases.Head form k ks e = subst (On phases.Head form ks) (sym e.0) (refl, e.1)
on phases.References forms.Base k ks (inl e) = subst (On phases.References forms.Base ks) (sym e.0) (refl, e.1)
on phases.References forms.Base k ks (inr e) = (body_on forms.Base k ks e).1
on phases.References forms.Answer k ks (inl e) = subst (On phases.References forms.Answer ks) (sym e.0) (refl, e.1)
on phases.References forms.Answer k ks (inr e) = (body_on forms.Answer k ks e).1
on phases.Body form k ks e = (body_on form k ks e).0
on phases.FirstItem form k ks e = subst (On phases.FirstItem form ks) (sym e.0) (refl, e.1)
on phases.Items form k ks (inl e) = subst (On phases.Items form ks) (sym e.0) (refl, e.1)
on phases.Items form k ks (inr (inl e)) = subst (On phases.Items form ks) (sym e.0) (refl, e.1)
on phases.Items form k ks (inr (inr (inl e))) = subst (On phases.Items form ks) (sym e.0) (refl, e.1)
on phases.Items form k ks (inr (inr (inr (inl e)))) = subst (On phases.Items form ks) (sym e.0) (refl, e.1)
on phases.Items form k ks (inr (inr (inr (inr e)))) = subst (On phases.Items form ks) (sym e.0) (refl, e.1)
on phases.Extras form k ks e = record_on form k ks e
on phases.Signature form k ks e = subst (On phases.Signature form ks) (sym e.0) (refl, e.1)
on phases.Integrity form k ks e = subst (On phases.Integrity form ks) (sym e.0) (refl, e.1)
on phases.Trailer form k ks e = subst (On phases.Trailer form ks) (sym e.0) (refl, e.1)
on phases.Done form k ks e = cc

-- what may stand there, before what may come behind it
off : (p : Phase) (k : Kind) (form : Form) (ks : List Kind) → moves (next_phase p k form) ≡ true → Left (phase_in (next_phase p k form)) form ks → Left p form (k ∷ ks)
off phases.Start kinds.Start form ks m r = (refl, r)
off phases.Head kinds.Head form ks m r = (refl, r)
off phases.References kinds.Reference forms.Base ks m r = inl (refl, r)
off phases.References kinds.Reference forms.Answer ks m r = inl (refl, r)
off phases.References kinds.LoopStart forms.Base ks m r = inr (inl (refl, r))
off phases.References kinds.LoopStart forms.Answer ks m r = inr (inl (refl, r))
off phases.References kinds.Allowance forms.Base ks m r = inr (inr (inl (refl, r)))
off phases.References kinds.Note forms.Base ks m r = inr (inr (inr (inl (refl, r))))
off phases.References kinds.Totals forms.Base ks m r = inr (inr (inr (inr (refl, r))))
off phases.References kinds.Totals forms.Answer ks m r = inr (inr (refl, r))
off phases.Body kinds.LoopStart form ks m r = inl (refl, r)
off phases.Body kinds.Allowance forms.Base ks m r = inr (inl (refl, r))
off phases.Body kinds.Note forms.Base ks m r = inr (inr (inl (refl, r)))
off phases.Body kinds.Totals forms.Base ks m r = inr (inr (inr (refl, r)))
off phases.Body kinds.Totals forms.Answer ks m r = inr (refl, r)
off phases.FirstItem kinds.Item form ks m r = (refl, r)
off phases.Items kinds.Allowance form ks m r = inl (refl, r)
off phases.Items kinds.LineNote form ks m r = inr (inl (refl, r))
off phases.Items kinds.Note form ks m r = inr (inr (inl (refl, r)))
off phases.Items kinds.Item form ks m r = inr (inr (inr (inl (refl, r))))
off phases.Items kinds.LoopEnd form ks m r = inr (inr (inr (inr (refl, r))))
off phases.Extras kinds.Allowance forms.Base ks m r = inl (refl, r)
off phases.Extras kinds.Note forms.Base ks m r = inr (inl (refl, r))
off phases.Extras kinds.Totals forms.Base ks m r = inr (inr (refl, r))
off phases.Extras kinds.Totals forms.Answer ks m r = (refl, r)
off phases.Signature kinds.Signature form ks m r = (refl, r)
off phases.Integrity kinds.Integrity form ks m r = (refl, r)
off phases.Trailer kinds.Trailer form ks m r = (refl, r)
off _ _ _ ks m r = cc

abbrev end : List Kind
end = kinds.Totals ∷ kinds.Signature ∷ kinds.Integrity ∷ kinds.Trailer ∷ []

closed : (form : Form) → Record form end
closed forms.Base = inr (inr (refl, (refl, (refl, (refl, refl)))))
closed forms.Answer = (refl, (refl, (refl, (refl, refl))))

noted : (form : Form) → References form end
noted forms.Base = inr (inr (closed forms.Base))
noted forms.Answer = inr (inr (closed forms.Answer))

-- from each phase on something may come
live : (p : Phase) (form : Form) → (ks : List Kind) × Left p form ks
live phases.Start form = (kinds.Start ∷ kinds.Head ∷ end, (refl, (refl, noted form)))
live phases.Head form = (kinds.Head ∷ end, (refl, noted form))
live phases.References form = (end, noted form)
live phases.Body form = (end, inr (closed form))
live phases.FirstItem form = (kinds.Item ∷ kinds.LoopEnd ∷ end, (refl, inr (inr (inr (inr (refl, closed form))))))
live phases.Items form = (kinds.LoopEnd ∷ end, inr (inr (inr (inr (refl, closed form)))))
live phases.Extras form = (end, closed form)
live phases.Signature form = (kinds.Signature ∷ kinds.Integrity ∷ kinds.Trailer ∷ [], (refl, (refl, (refl, refl))))
live phases.Integrity form = (kinds.Integrity ∷ kinds.Trailer ∷ [], (refl, (refl, refl)))
live phases.Trailer form = (kinds.Trailer ∷ [], (refl, refl))
live phases.Done form = ([], refl)

from_some : (o : Option Phase) (f : Phase → Option Phase) (p : Phase) → from_phase o f ≡ Some p → (moves o ≡ true) × (f (phase_in o) ≡ Some p)
from_some None f p e = cc
from_some (Some q) f p e = (refl, e)

-- along segments that may stand, both ways
along : (ks : List Kind) (q p : Phase) (form : Form) (rest : List Kind) → phase_behind form q ks ≡ Some p → Left q form (ks ++ rest) → Left p form rest
along [] q p form rest e r = let same : q ≡ p = cc (e) in subst (λ (x : Phase). Left x form rest) same r
along (k ∷ ks) q p form rest e r =
    let f = from_some (next_phase q k form) (λ (x : Phase). phase_behind form x ks) p e in
    along ks (phase_in (next_phase q k form)) p form rest f.1 (on q form k (ks ++ rest) r).1

back_along : (ks : List Kind) (q p : Phase) (form : Form) (rest : List Kind) → phase_behind form q ks ≡ Some p → Left p form rest → Left q form (ks ++ rest)
back_along [] q p form rest e r = let same : p ≡ q = cc (e) in subst (λ (x : Phase). Left x form rest) same r
back_along (k ∷ ks) q p form rest e r =
    let f = from_some (next_phase q k form) (λ (x : Phase). phase_behind form x ks) p e in
    off q k form (ks ++ rest) f.0 (back_along ks (phase_in (next_phase q k form)) p form rest f.1 r)

-- Behind these a segment may stand exactly where the phase behind them has a next one.
pub may_follow : (form : Form) (ks : List Kind) (p : Phase) (k : Kind) → phase_behind form phases.Start ks ≡ Some p → MayFollow form ks k → moves (next_phase p k form) ≡ true
may_follow form ks p k e (rest, o) = (on p form k rest (along ks phases.Start p form (k ∷ rest) e o)).0

pub follows : (form : Form) (ks : List Kind) (p : Phase) (k : Kind) → phase_behind form phases.Start ks ≡ Some p → moves (next_phase p k form) ≡ true → MayFollow form ks k
follows form ks p k e m =
    let l = live (phase_in (next_phase p k form)) form in
    (l.0, back_along ks phases.Start p form (k ∷ l.0) e (off p k form l.0 m l.1))

no_base : Body forms.Base [] → ⊥
no_base (inl e) = e
no_base (inr e) = e

no_answer : Body forms.Answer [] → ⊥
no_answer (inl e) = e
no_answer (inr e) = e

-- from each phase on, the set is whole exactly behind what may come from there

done_left : (p : Phase) (form : Form) → Left p form [] → p ≡ phases.Done
done_left phases.Start form e = absurd e
done_left phases.Head form e = absurd e
done_left phases.References forms.Base e = absurd (no_base e)
done_left phases.References forms.Answer (inl e) = absurd e
done_left phases.References forms.Answer (inr e) = absurd (no_answer e)
done_left phases.Body forms.Base e = absurd (no_base e)
done_left phases.Body forms.Answer e = absurd (no_answer e)
done_left phases.FirstItem form e = absurd e
done_left phases.Items form e = absurd e
done_left phases.Extras forms.Base e = absurd e
done_left phases.Extras forms.Answer e = absurd e
done_left phases.Signature form e = absurd e
done_left phases.Integrity form e = absurd e
done_left phases.Trailer form e = absurd e
done_left phases.Done form e = refl

on_behind : (o : Option Phase) (f : Phase → Option Phase) → moves o ≡ true → from_phase o f ≡ f (phase_in o)
on_behind None f m = cc
on_behind (Some p) f m = refl

whole_behind : (ks : List Kind) (p : Phase) (form : Form) → Left p form ks → phase_behind form p ks ≡ Some phases.Done
whole_behind [] p form e = ap (λ (x : Phase). Some x) (done_left p form e)
whole_behind (k ∷ ks) p form e =
    let o = on p form k ks e in
    on_behind (next_phase p k form) (λ (x : Phase). phase_behind form x ks) o.0 ∙ whole_behind ks (phase_in (next_phase p k form)) form o.1

pub whole_order : (form : Form) (ks : List Kind) → InOrder form ks ↔ (phase_behind form phases.Start ks ≡ Some phases.Done)
whole_order form ks = (λ e. whole_behind ks phases.Start form e, λ e. subst (InOrder form) (append-nil ks) (back_along ks phases.Start phases.Done form [] e refl))
