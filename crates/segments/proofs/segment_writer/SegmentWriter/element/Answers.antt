use Rattle.std.proofs.Common.{◌≡◌, ◌∙◌, ◌==◌, ℕ, suc, true, false, List, [], ◌∷◌, refl, sym, ap, length, arith}
use Rattle.std.proofs.lemmas.Bool.Decides.{nat_tests}
use Rattle.std.proofs.lemmas.List.Elements.{All-nil}
use Rattle.segments.specs.SegmentSpelling.{is_element_character}
use Rattle.segments.specs.SegmentWriting.{given}
use Rattle.segments.proofs.Written.{element_part, keeps_given, sees_given}
use Rattle.segments.proofs.segment_writer.SegmentWriter.element.Goals as goal

empty_is : (text : List ℕ) → (length text == 0) ≡ true → [] ≡ text
empty_is [] none = refl
empty_is (byte ∷ more) none = absurd (not_some (length more) none)
  where
    not_some : (n : ℕ) → (suc n == 0) ≡ true → ⊥
    not_some n none = grind (arith, nat_tests)

not_neither : (n : ℕ) → (n == 0) ≡ false → n ≡ 0 → ⊥
not_neither n some none = grind (arith, nat_tests)

pub invariant_of-self-then-is_empty : goal.invariant_of-self-then-is_empty
invariant_of-self-then-is_empty c =
    keeps_given c.self.inside.text.items c.self.inside.ended c.self.inside.filled c.self.invariant c.args.self.now c.self.view_is
    [] c.push_star.new.text.items c.self.inside.filled c.requires.begun (All-nil (λ byte. is_element_character byte ≡ true)) c.requires.few c.in_ok-push_star.ensures.ok
    (λ none. refl) (λ some. absurd (omega arith))

pub returns-then-is_empty : goal.returns-then-is_empty
returns-then-is_empty c =
    sees_given c.self.inside.text.items c.self.inside.ended c.self.inside.filled c.self.invariant c.args.self.now c.self.view_is
    [] c.push_star.new.text.items c.requires.begun (All-nil (λ byte. is_element_character byte ≡ true)) c.in_ok-push_star.ensures.ok
    ∙ ap (λ (text : List ℕ). given text c.args.self.now) (empty_is c.args.text.now (sym c.is_empty.ensures ∙ c.if-is_empty.true))

pub invariant_of-self-2 : goal.invariant_of-self-2
invariant_of-self-2 c =
    keeps_given c.self.inside.text.items c.self.inside.ended c.self.inside.filled c.self.invariant c.args.self.now c.self.view_is
    c.args.text.now c.push_element.new.text.items c.len-self-inside.result c.requires.begun (element_part c.args.text.now c.requires.characters) c.requires.few c.in_ok-push_element.ensures.ok
    (λ none. absurd (not_neither (length c.args.text.now) (sym c.is_empty.ensures ∙ c.if-is_empty.false) none)) (λ some. c.len-self-inside.ensures ∙ c.push_element.new.text.ok.0)

pub returns : goal.returns
returns c =
    sees_given c.self.inside.text.items c.self.inside.ended c.self.inside.filled c.self.invariant c.args.self.now c.self.view_is
    c.args.text.now c.push_element.new.text.items c.requires.begun (element_part c.args.text.now c.requires.characters) c.in_ok-push_element.ensures.ok
