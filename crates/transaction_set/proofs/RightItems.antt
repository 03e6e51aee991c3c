-- What an answer about an item says: a line that the segment says, and each such line.
use Rattle.std.proofs.Common.{◌≡◌, List, [], Result, Ok, Err, refl, sym, ◌∙◌, ap, subst, inl, inr}
use Rattle.std.specs.Prelude.{IfOk}
use Rattle.dsd_values.specs.Answers.{UnlessMemory}
use Rattle.dsd_values.specs.declared.extra.Extra.{Extra}
use Rattle.dsd_values.specs.declared.line.Line.{Line}
use Rattle.segments.specs.Elements.{Reads}
use Rattle.transaction_set.specs.Grammar.{IsItem}
use Rattle.transaction_set.specs.Tables.{item_fault, line_in}
use Rattle.segments.specs.Views.{Seg}
use Rattle.segments.specs.declared.item_fault.ItemFault.{ItemFault}
use Rattle.segments.specs.declared.item_fault.ItemFault.TheVariants as errors
use Rattle.transaction_set.proofs.Faultless.{item_right, line_said, right_item}

pub item_found : (seg : Seg) (answer : Result Line ItemFault) → Reads answer (item_fault seg) (λ line. line ≡ line_in seg) → IfOk answer (λ line. IsItem line seg × (line.extras ≡ []))
item_found seg (Ok line) h = (subst (λ (l : Line). IsItem l seg) (sym h.1) (item_right seg h.0), ap (λ (l : Line). l.extras) h.1)
item_found seg (Err fault) h = tt

pub item_only : (seg : Seg) (answer : Result Line ItemFault) → Reads answer (item_fault seg) (λ line. line ≡ line_in seg) → (line : Line) → IsItem line seg → line.extras ≡ [] → UnlessMemory errors.Memory answer (Ok line)
item_only seg (Ok read) h line i none =
    let same : read ≡ line = h.1 ∙ sym (line_said line seg i ∙ ap (λ (x : List Extra). record (line_in seg) { extras = x }) none) in
    inr (ap (λ (l : Line). Ok l) same)
item_only seg (Err errors.Memory) h line i none = inl refl
item_only seg (Err (errors.Value element why)) h line i none = let right = right_item line seg i in cc
