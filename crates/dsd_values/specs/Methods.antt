-- What the method of an allowance does to an amount (this project's profile).
use Rattle.std.specs.Prelude.{ℕ, Bool, true, false, List, bytes_eq, codes, if◌then◌else◌}
use Rattle.dsd_values.specs.declared.method.Method.{Method}
use Rattle.dsd_values.specs.declared.method.Method.TheVariants.{Lowers, Raises, Other}

-- the method that a text names
abbrev pub method_of : List ℕ → Method
method_of text = if bytes_eq text (codes "02") then Lowers else (if bytes_eq text (codes "06") then Raises else Other)

abbrev pub changes_price : Method → Bool
changes_price Lowers = true
changes_price Raises = true
changes_price Other = false

-- the method that a text names changes a price
abbrev pub counts : List ℕ → Bool
counts text = changes_price (method_of text)
