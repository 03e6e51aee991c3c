use Rattle.std.proofs.Common.{◌≡◌, ◌∙◌, ◌<◌, ◌^◌, ap, arith}
use Rattle.std.specs.Int.{w16, to_be_bytes}
use Rattle.hex.specs.Hex.{encode_lower}
use Rattle.dsd_values.proofs.Hexadecimal.{check_written, check_read_back}
use Rattle.dsd_values.proofs.Elements.{check_element}
use Rattle.dsd_values.proofs.writers.write_check.Goals as goal

pub returns-clause-text : goal.returns-clause-text
returns-clause-text c =
    let lower : c.lower_case-digits.result ≡ encode_lower (to_be_bytes w16 c.args.value) =
    c.lower_case-digits.ensures ∙ ap (λ n. encode_lower (to_be_bytes w16 n)) c.get.ensures in
    check_written c.args.value c.loop-digit.text.items c.lower_case-digits.result c.loop-digit.digit-index c.loop-digit.invariant c.loop-digit-test.false lower

pub returns-clause-read_back : goal.returns-clause-read_back
returns-clause-read_back c =
    let small : c.args.value < 2 ^ 16 = omega (arith, c.get.ensures) in
    check_read_back c.args.value c.loop-digit.text.items small (returns-clause-text c)

pub returns-clause-element : goal.returns-clause-element
returns-clause-element c = check_element c.loop-digit.text.items c.args.value (returns-clause-read_back c)
