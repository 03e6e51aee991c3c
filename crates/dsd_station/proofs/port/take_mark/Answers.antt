use Rattle.std.proofs.Common.{rules, ◌≡◌, ◌+◌, ◌<◌, ℕ, ◌∷◌, length, drop, get_or, sym, ap, ◌∙◌}
use Rattle.dsd_station.specs.declared.feeding.Fed.{Fed}
use Rattle.dsd_station.specs.Cursors.{due_at}
use Rattle.dsd_station.proofs.Hearing.{here_at, mark_here, mark_heard_at, mark_left_at}
use Rattle.dsd_station.proofs.port.take_mark.Goals as goal

pub returns-clause-heard : goal.returns-clause-heard
returns-clause-heard c =
    let fed = c.args.fed.now in
    let at = c.args.at in
    let some : at.head < length fed = search rules in
    let one : Fed = get_or fed at.head c.index-fed-at.result in
    let here : drop at.head fed ≡ one ∷ drop (at.head + 1) fed = here_at fed at.head c.index-fed-at.result some in
    c.mark-heard.ensures.heard ∙ sym (mark_heard_at fed at one here (mark_here fed at one here c.requires.mark))

pub returns-clause-left : goal.returns-clause-left
returns-clause-left c =
    let fed = c.args.fed.now in
    let at = c.args.at in
    let some : at.head < length fed = search rules in
    let one : Fed = get_or fed at.head c.index-fed-at.result in
    let here : drop at.head fed ≡ one ∷ drop (at.head + 1) fed = here_at fed at.head c.index-fed-at.result some in
    ap (λ (n : ℕ). due_at fed (record { head = at.head; offset = n })) c.mark-heard.ensures.offset ∙ mark_left_at fed at one here (mark_here fed at one here c.requires.mark)
