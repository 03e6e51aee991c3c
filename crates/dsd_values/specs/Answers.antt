-- What a call answers where want of memory is the one answer that is free.
use Rattle.std.specs.Prelude.{◌≡◌, ◌⊎◌, Result, Ok, Err}

-- the answer is the wanted one, or says that memory is wanting
abbrev pub UnlessMemory : {T E : Type 0} → E → Result T E → Result T E → Type 0
UnlessMemory memory answer wanted = (answer ≡ Err memory) ⊎ (answer ≡ wanted)

-- the same of an answer whose value is seen by a view
abbrev pub Gives : {X Y E : Type 0} → E → (X → Y) → Result X E → Result Y E → Type 0
Gives memory view (Ok x) wanted = wanted ≡ Ok (view x)
Gives memory view (Err e) wanted = (e ≡ memory) ⊎ (wanted ≡ Err e)
