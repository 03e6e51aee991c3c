-- The text that is kept, wherever it stands.
use Rattle.std.specs.Prelude.{ℕ, List}
use Rattle.dsd_values.specs.declared.kept.Held.{Held}
use Rattle.dsd_values.specs.declared.kept.Held.TheVariants.{Short, Long}

abbrev pub held_text : Held → List ℕ
held_text (Short text) = text.items
held_text (Long text) = text.items
