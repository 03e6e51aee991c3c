use Rattle.std.proofs.Common.{◌≡◌, ◌+◌, ◌++◌, ℕ, List, None, length, sym, subst, ap, ◌∙◌, arith}
use Rattle.transaction_set.specs.Taking.{IsTaken, Taken}
use Rattle.transaction_set.proofs.Taking.{refused_next, right_next, stopped_next}
use Rattle.base_record_894.specs.FirstRefusal.{judged}
use Rattle.base_record_894.specs.Said.{Said, nothing}
use Rattle.base_record_894.proofs.Steps.{counts_on}
use Rattle.base_record_894.proofs.taking.Reader894.take.Goals as goal

pub returns-in-Some-clause-taken : goal.returns-in-Some-clause-taken
returns-in-Some-clause-taken c = λ text taken. stopped_next judged nothing c.args.self.now c.in-Some.fault c.args.segment.now (sym (ap (λ (t : Taken Said). t.fault) c.self.view_is) ∙ c.in-Some.is) c.bytes-size.ensures.spelled text taken

pub invariant_of-self : goal.invariant_of-self
invariant_of-self c =
    let none : c.self.inside.fault ≡ None = c.in_default.is in
    let long : c.self.inside.size + length c.bytes-size.result.now ≡ c.self.inside.size + length c.args.segment.now.bytes = ap (λ (l : List ℕ). c.self.inside.size + length l) c.bytes-size.ensures.value in (
      counts_on c.self.inside.reader c.step.new.self c.self.inside.size (c.self.inside.size + length c.bytes-size.result.now) c.self.inside.fault c.args.segment.now none c.bytes-size.ensures.spelled c.in-Ok.ensures.exact.1 long c.self.invariant.0,
      omega (arith, long, c.in-Ok.ensures.short),
      (
        c.self.invariant.2.0 ++ c.args.segment.now.bytes,
        right_next judged nothing c.self.inside.reader c.step.new.self c.self.inside.size (c.self.inside.size + length c.bytes-size.result.now) c.self.inside.fault c.args.segment.now none c.bytes-size.ensures.spelled c.in-Ok.ensures.exact long c.self.invariant.2.0 c.self.invariant.2.1,
      ),
    )

pub invariant_of-self-in-Err : goal.invariant_of-self-in-Err
invariant_of-self-in-Err c =
    let none : c.self.inside.fault ≡ None = c.in_default.is in (
      tt,
      c.self.invariant.1,
      (
        c.self.invariant.2.0 ++ c.args.segment.now.bytes,
        refused_next judged nothing _ c.self.inside.reader c.step.new.self c.self.inside.size c.self.inside.fault c.in-Err.fault c.told_at.result _ c.args.segment.now _ none c.bytes-size.ensures.spelled c.in-Err.ensures.exact c.told_at.ensures c.self.invariant.2.0 c.self.invariant.2.1,
      ),
    )

pub returns-in-Ok-clause-taken : goal.returns-in-Ok-clause-taken
returns-in-Ok-clause-taken c = λ text taken.
    let none : c.self.inside.fault ≡ None = c.in_default.is in
    let long : c.self.inside.size + length c.bytes-size.result.now ≡ c.self.inside.size + length c.args.segment.now.bytes = ap (λ (l : List ℕ). c.self.inside.size + length l) c.bytes-size.ensures.value in
    right_next judged nothing c.self.inside.reader c.step.new.self c.self.inside.size (c.self.inside.size + length c.bytes-size.result.now) c.self.inside.fault c.args.segment.now none c.bytes-size.ensures.spelled c.in-Ok.ensures.exact long
    text (subst (IsTaken judged nothing text) (sym c.self.view_is) taken)

pub returns-in-Err-clause-taken : goal.returns-in-Err-clause-taken
returns-in-Err-clause-taken c = λ text taken.
    let none : c.self.inside.fault ≡ None = c.in_default.is in
    refused_next judged nothing _ c.self.inside.reader c.step.new.self c.self.inside.size c.self.inside.fault c.in-Err.fault c.told_at.result _ c.args.segment.now _ none c.bytes-size.ensures.spelled c.in-Err.ensures.exact c.told_at.ensures
    text (subst (IsTaken judged nothing text) (sym c.self.view_is) taken)
