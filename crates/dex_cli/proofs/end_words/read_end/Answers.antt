use Rattle.std.proofs.Common.{◌≡◌, string_bytes, sym, subst, arith, length, List, ℕ, IfOk, IsErrOf}
use Rattle.dex_cli.specs.EndWords.{IsLedBy}
use Rattle.dex_cli.specs.declared.end_words.EndNames.{EndNames}
use Rattle.dex_cli.specs.declared.fault.WordsFault.TheVariants.{Memory, Refused}
use Rattle.dex_cli.proofs.Three.{map_three, three_as}
use Rattle.dex_cli.proofs.end_words.read_end.Goals as goal

pub returns-in-len3-clause-found : goal.returns-in-len3-clause-found
returns-in-len3-clause-found c =
    let three : length c.args.words.now ≡ 3 = omega arith in
    let whole = map_three string_bytes c.args.words.now c.job-item.result c.journal-item.result c.port-item.result three c.job-item.is c.journal-item.is c.port-item.is in
    let spoken = three_as _ _ _ _ c.as_str.result.now c.as_str-in-len3.result.now c.as_str-in-len3-2.result.now whole c.as_str.ensures.value c.as_str-in-len3.ensures.value c.as_str-in-len3-2.ensures.value in
    subst (λ (w : List (List ℕ)). IfOk c.read_led.result (λ names. IsLedBy c.args.first.now names w)) (sym spoken) c.read_led.ensures.found

pub returns-in-len3-clause-refused : goal.returns-in-len3-clause-refused
returns-in-len3-clause-refused c =
    let three : length c.args.words.now ≡ 3 = omega arith in
    let whole = map_three string_bytes c.args.words.now c.job-item.result c.journal-item.result c.port-item.result three c.job-item.is c.journal-item.is c.port-item.is in
    let spoken = three_as _ _ _ _ c.as_str.result.now c.as_str-in-len3.result.now c.as_str-in-len3-2.result.now whole c.as_str.ensures.value c.as_str-in-len3.ensures.value c.as_str-in-len3-2.ensures.value in
    subst (λ (w : List (List ℕ)). IsErrOf c.read_led.result Refused → (names : EndNames) → IsLedBy c.args.first.now names w → ⊥) (sym spoken) c.read_led.ensures.refused

pub returns-in-len3-clause-memory : goal.returns-in-len3-clause-memory
returns-in-len3-clause-memory c =
    let three : length c.args.words.now ≡ 3 = omega arith in
    let whole = map_three string_bytes c.args.words.now c.job-item.result c.journal-item.result c.port-item.result three c.job-item.is c.journal-item.is c.port-item.is in
    let spoken = three_as _ _ _ _ c.as_str.result.now c.as_str-in-len3.result.now c.as_str-in-len3-2.result.now whole c.as_str.ensures.value c.as_str-in-len3.ensures.value c.as_str-in-len3-2.ensures.value in
    subst (λ (w : List (List ℕ)). IsErrOf c.read_led.result Memory → (names : EndNames) × IsLedBy c.args.first.now names w) (sym spoken) c.read_led.ensures.memory
