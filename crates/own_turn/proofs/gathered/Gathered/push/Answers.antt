use Rattle.std.proofs.Common.{◌≡◌, ℕ, List, [], ◌∷◌, ◌++◌, length, arith, length-append, ap, sym, ◌∙◌}
use Rattle.std.specs.List.{concat}
use Rattle.own_turn.specs.DueSets.{DueSet, texts_of}
use Rattle.own_turn.specs.GatheredInside.{due_sets_of}
use Rattle.own_turn.proofs.GatheredAs.{pushed-due_sets_of, texts-due_sets_of}
use Rattle.own_turn.proofs.Reached.{concat_more}
use Rattle.own_turn.proofs.gathered.Gathered.push.Goals as goal

pub returns : goal.returns
returns c =
    let numbers = c.self.inside.numbers.items in
    let texts = c.self.inside.texts.items in
    let first : c.push_reserved.new.self.items ≡ numbers ++ c.args.number.now ∷ [] =
    c.push_reserved.ensures.items ∙ ap (λ (l : List (List ℕ)). l ++ c.copy.result ∷ []) c.in_ok-reserve.ensures.items ∙ ap (λ (l : List ℕ). numbers ++ l ∷ []) c.copy.ensures in
    let second : c.push_reserved-2.new.self.items ≡ texts ++ c.args.text.now ∷ [] =
    c.push_reserved-2.ensures.items ∙ ap (λ (l : List (List ℕ)). l ++ c.in_ok-text.text ∷ []) c.in_ok-reserve-2.ensures.items ∙ ap (λ (l : List ℕ). texts ++ l ∷ []) c.in_ok-text.ensures in
    ap (λ (l : List (List ℕ)). due_sets_of l c.push_reserved-2.new.self.items) first ∙ ap (due_sets_of (numbers ++ c.args.number.now ∷ [])) second
    ∙ pushed-due_sets_of numbers texts c.args.number.now c.args.text.now c.self.invariant.0
    ∙ ap (λ (l : List DueSet). l ++ (let due : DueSet = record { number = c.args.number.now; text = c.args.text.now } in due) ∷ []) c.self.view_is

pub invariant_of-self-2 : goal.invariant_of-self-2
invariant_of-self-2 c =
    let numbers = c.self.inside.numbers.items in
    let texts = c.self.inside.texts.items in
    let text = c.in_ok-text.text in
    let first : c.push_reserved.new.self.items ≡ numbers ++ c.copy.result ∷ [] = c.push_reserved.ensures.items ∙ ap (λ (l : List (List ℕ)). l ++ c.copy.result ∷ []) c.in_ok-reserve.ensures.items in
    let second : c.push_reserved-2.new.self.items ≡ texts ++ text ∷ [] = c.push_reserved-2.ensures.items ∙ ap (λ (l : List (List ℕ)). l ++ text ∷ []) c.in_ok-reserve-2.ensures.items in
    let held : length (concat (texts_of c.args.self.now)) ≡ c.self.inside.bytes =
    ap (λ (sets : List DueSet). length (concat (texts_of sets))) (sym c.self.view_is) ∙ ap (λ (l : List (List ℕ)). length (concat l)) (texts-due_sets_of numbers texts c.self.invariant.0) ∙ sym c.self.invariant.1 in
    let same : length c.as_slice.result.now ≡ length text = ap length c.as_slice.ensures in
    let given : length text ≡ length c.args.text.now = ap length c.in_ok-text.ensures in
    let more = concat_more texts text in (
      omega (arith, ap length first, ap length second, length-append numbers (c.copy.result ∷ []), length-append texts (text ∷ []), c.self.invariant.0),
      omega (arith, ap (λ (l : List (List ℕ)). length (concat l)) second, more, c.self.invariant.1, same),
      omega (arith, c.requires, held, same, given),
    )
