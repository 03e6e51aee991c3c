use Rattle.std.proofs.Common.{rules, ◌≡◌, ◌+◌, ◌-◌, ◌≤◌, ℕ, List, ◌∷◌, ◌++◌, length, take, drop, get_or, ap, sym, ◌∙◌, arith, length-take}
use Rattle.std.proofs.lemmas.Slice.{take-put_mid, drop-put_mid}
use Rattle.std.proofs.lemmas.List.{drop-drop}
use Rattle.dsd_station.specs.declared.feeding.Fed.{Fed}
use Rattle.dsd_station.proofs.Hearing.{here_at, heard_more, inside_more}
use Rattle.dsd_station.proofs.port.take_bytes.Goals as goal

pub loop-count-preserved : goal.loop-count-preserved
loop-count-preserved c =
    let fed = c.args.fed.now in
    let at = c.loop-count.at in
    let rest : List ℕ = c.in-Some.rest.now in
    let taken = c.min-taken.result in
    let one : Fed = get_or fed at.head c.index-fed-at.result in
    let here : drop at.head fed ≡ one ∷ drop (at.head + 1) fed = here_at fed at.head c.index-fed-at.result c.if-at-fed.true in
    let most : taken ≤ length rest = omega (arith, c.min-taken.ensures) in
    let l = c.loop-count in
    let few : c.loop-count.count + taken ≤ 64 = omega (arith, c.min-taken.ensures, c.loop-count-test.true) in
    let long : length c.loop-count.into ≡ 64 = search rules in
    let piece : c.copy_from_slice.new.self ≡ take taken rest = c.copy_from_slice.ensures.after in
    let count : length c.copy_from_slice.new.self ≡ taken = omega (arith, ap length piece, length-take taken rest, most) in
    let fills = take-put_mid c.loop-count.count (c.loop-count.count + taken - c.loop-count.count) c.loop-count.into c.copy_from_slice.new.self (c.loop-count.count + taken) (omega (arith, count)) (omega (arith, few, long))
    ∙ ap (λ (l : List ℕ). take c.loop-count.count c.loop-count.into ++ l) piece in
    record {
      count = few;
      rest = drop-put_mid l.count (l.count + taken - l.count) l.into c.copy_from_slice.new.self (l.count + taken) (omega (arith, few)) (omega (arith, few, long)) (omega (arith, count))
          ∙ sym (drop-drop taken l.count l.into) ∙ ap (drop taken) l.invariant.rest ∙ drop-drop taken l.count c.args.into.now;
      bytes = heard_more fed c.args.from at c.behind-at.result one rest c.loop-count.into _ c.loop-count.count taken here c.in-Some.ensures.rest most c.behind-at.ensures fills c.loop-count.invariant.bytes;
      inside = inside_more fed at c.behind-at.result one rest taken here c.in-Some.ensures.rest c.behind-at.ensures c.if-at-fed.true;
    }
