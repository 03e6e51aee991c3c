-- A part of a script: its lines, and the line behind them.
use Rattle.std.proofs.Common.{◌≡◌, ℕ, ◌&&◌, Bool, true, false, List, [], ◌∷◌, ◌++◌, Result, Ok, if◌then◌else◌, refl, sym, ap, subst, ◌∙◌}
use Rattle.dsd_record.specs.declared.draft_fault.DraftFault.{DraftFault}
use Rattle.plain_lines.specs.PlainText.{LineSeen, leads}
use Rattle.plain_lines.specs.Refusing.{◌>>=◌, said_by}
use Rattle.plain_lines.proofs.Unrefused.{bind_ok, go_bind, ok_same}
use Rattle.cable_world.specs.Reading.{script_step}
use Rattle.cable_world.specs.declared.reading.ScriptSoFar.{ScriptSoFar}

-- The part has a reading of its own, and between two of its items this word may stand, behind which the next part begins.
module _ {M : Type 0} (step : M → LineSeen → Result M DraftFault) (is_between : M → Bool) (word : List ℕ) (part : M → ScriptSoFar) (next : M → LineSeen → Result ScriptSoFar DraftFault)
    (steps : (m : M) (line : LineSeen) → script_step (part m) line ≡ (if is_between m && leads line word then next m line else (step m line >>= λ n. Ok (part n)))) where
  -- the lines of the part, what they say, and the line behind them
  pub record Parted (from : M) (lines : List LineSeen) (last : ScriptSoFar) : Type 0 where
    pub own : List LineSeen
    pub line : LineSeen
    pub rest : List LineSeen
    pub joined : lines ≡ own ++ line ∷ rest
    pub to : M
    pub said : said_by step from own ≡ Ok to
    pub whole : is_between to ≡ true
    pub leading : leads line word ≡ true
    pub behind : ScriptSoFar
    pub begins : next to line ≡ Ok behind
    pub goes_on : said_by script_step behind rest ≡ Ok last

  Ends : M → ScriptSoFar → Type 0
  Ends m last = part m ≡ last → ⊥

  parted_by : (own_line : Bool) (from : M) (line : LineSeen) (lines : List LineSeen) (last : ScriptSoFar) → (is_between from && leads line word) ≡ own_line
      → ((m : M) → said_by script_step (part m) lines ≡ Ok last → Parted m lines last)
      → ((if own_line then next from line else (step from line >>= λ n. Ok (part n))) >>= λ m. said_by script_step m lines) ≡ Ok last → Parted from (line ∷ lines) last
  parted_by true from line lines last test on e =
      let begun = bind_ok (next from line) (λ m. said_by script_step m lines) last e in
      let both = and_both (is_between from) (leads line word) test in
      record { own = []; line = line; rest = lines; joined = refl; to = from; said = refl; whole = both.0; leading = both.1; behind = begun.value; begins = begun.is; goes_on = begun.goes_on }
    where
      and_both : (a b : Bool) → (a && b) ≡ true → (a ≡ true) × (b ≡ true)
      and_both true b e = (refl, e)
      and_both false b e = cc (e)
  parted_by false from line lines last test on e =
      let begun = bind_ok (step from line >>= λ n. Ok (part n)) (λ m. said_by script_step m lines) last e in
      let one = bind_ok (step from line) (λ n. Ok (part n)) begun.value begun.is in
      let same : part one.value ≡ begun.value = ok_same (part one.value) begun.value one.goes_on in
      let later = on one.value (subst (λ (m : ScriptSoFar). said_by script_step m lines ≡ Ok last) (sym same) begun.goes_on) in
      record {
        own = line ∷ later.own;
        line = later.line;
        rest = later.rest;
        joined = ap (λ (ls : List LineSeen). line ∷ ls) later.joined;
        to = later.to;
        said = go_bind (step from line) (λ m. said_by step m later.own) one.value one.is ∙ later.said;
        whole = later.whole;
        leading = later.leading;
        behind = later.behind;
        begins = later.begins;
        goes_on = later.goes_on;
      }

  -- where the text goes on behind the part, its lines are parted so
  pub parted : (from : M) (lines : List LineSeen) (last : ScriptSoFar) → ((m : M) → part m ≡ last → ⊥) → said_by script_step (part from) lines ≡ Ok last → Parted from lines last
  parted from [] last other e = absurd (other from (ok_same (part from) last e))
  parted from (line ∷ lines) last other e =
      parted_by (is_between from && leads line word) from line lines last refl (λ m. parted m lines last other) (ap (λ (r : Result ScriptSoFar DraftFault). r >>= λ m. said_by script_step m lines) (sym (steps from line)) ∙ e)

  -- ---- the other way round

  -- between two items no line of the part leads with the word
  abbrev pub Apart : Type 0
  Apart = (m n : M) (line : LineSeen) → is_between m ≡ true → step m line ≡ Ok n → leads line word ≡ false

  own_line : (a b : Bool) → (a ≡ true → b ≡ false) → (a && b) ≡ false
  own_line true b e = e refl
  own_line false b e = refl

  pub joined_again : Apart → (from to : M) (own : List LineSeen) (line : LineSeen) (rest : List LineSeen) (behind : ScriptSoFar) → said_by step from own ≡ Ok to → is_between to ≡ true → leads line word ≡ true
      → next to line ≡ Ok behind → said_by script_step (part from) (own ++ line ∷ rest) ≡ said_by script_step behind rest
  joined_again apart from to [] line rest behind said whole leading begins =
      let same : from ≡ to = ok_same from to said in
      go_bind (script_step (part from) line) (λ m. said_by script_step m rest) behind
      (steps from line ∙ ap (λ (m : M). if is_between m && leads line word then next m line else (step m line >>= λ n. Ok (part n))) same ∙ rw (whole, leading) begins)
  joined_again apart from to (first ∷ own) line rest behind said whole leading begins =
      let one = bind_ok (step from first) (λ m. said_by step m own) to said in
      let test : (is_between from && leads first word) ≡ false = own_line (is_between from) (leads first word) (λ between. apart from one.value first between one.is) in
      go_bind (script_step (part from) first) (λ m. said_by script_step m (own ++ line ∷ rest)) (part one.value)
      (steps from first ∙ ap (λ (b : Bool). if b then next from first else (step from first >>= λ n. Ok (part n))) test ∙ go_bind (step from first) (λ n. Ok (part n)) one.value one.is)
      ∙ joined_again apart one.value to own line rest behind one.goes_on whole leading begins
