use Rattle.std.proofs.Common.{inl, inr, length, subst, ◌∙◌, arith}
use Rattle.dsd_journal.specs.Pieces.{ReadsOn}
use Rattle.dsd_journal.proofs.Looking.{looks_then, so_far_on}
use Rattle.dsd_journal.proofs.pieces.read_front.Goals as goal

pub returns-in-Err-clause-told : goal.returns-in-Err-clause-told
returns-in-Err-clause-told g c = λ tells.
    looks_then ⊥ _ (g.T.Station.told c.args.station.now) (g.T.Station.told c.loop-at.station) (g.T.Station.told c.read_more.new.station) (c.loop-at.invariant.told tells) (λ f. f) (c.in-Err.ensures.told tells)

pub returns-in-Ok-eq0-clause-told : goal.returns-in-Ok-eq0-clause-told
returns-in-Ok-eq0-clause-told g c = λ tells.
    looks_then ⊥ ⊥ (g.T.Station.told c.args.station.now) (g.T.Station.told c.loop-at.station) (g.T.Station.told c.read_more.new.station) (c.loop-at.invariant.told tells) (λ f. f) (c.in-Ok-eq0.ensures.told tells)

pub loop-at-preserved : goal.loop-at-preserved
loop-at-preserved g c =
    let was = c.loop-at.invariant in
    record {
      len = omega (arith, c.in-Ok.ensures.len, was.len);
      piece = c.in-Ok.ensures.piece ∙ was.piece;
      later = omega (arith, was.later, c.in-Ok.ensures.later);
      kept = elim (c.in-Ok.ensures.kept) [ inl failed ↦ absurd failed | inr same ↦ same ∙ was.kept ];
      bytes = λ tells. so_far_on (g.T.Station.told c.args.station.now).journal c.loop-at.at (length c.loop-at.piece) c.in-Ok.count c.loop-at.bytes.items c.read_more.new.bytes.items (was.bytes tells)
          (subst (λ j. ReadsOn j c.loop-at.at (length c.loop-at.piece) c.in-Ok.count c.loop-at.bytes.items c.read_more.new.bytes.items) (was.told tells).untouched.journal (c.in-Ok.ensures.bytes tells));
      told = λ tells. looks_then ⊥ ⊥ (g.T.Station.told c.args.station.now) (g.T.Station.told c.loop-at.station) (g.T.Station.told c.read_more.new.station) (was.told tells) (λ f. f) (c.in-Ok.ensures.told tells);
    }
