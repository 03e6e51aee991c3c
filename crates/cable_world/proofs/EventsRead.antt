-- The event that is read of a line is the one that the line says.
use Rattle.std.proofs.Common.{◌≡◌, ℕ, Ok, refl, ap, subst, ◌∙◌}
use Rattle.dsd_values.specs.Reading.{number_of}
use Rattle.dsd_values.specs.declared.role.Role.{Role}
use Rattle.plain_lines.specs.PlainText.{LineSeen, word_of_line}
use Rattle.plain_lines.specs.Refusing.{IsLed, value_at}
use Rattle.plain_lines.proofs.Unrefused.{bind_ok, go_bind, go_value, ok_same, value_ok}
use Rattle.cable_world.specs.EventLines.{SaysEnd, SaysEvent, SaysNumber}
use Rattle.cable_world.specs.EventReading.{bytes_of, end_in, end_of, event_in, number_in, pick_of, word_count}
use Rattle.cable_world.specs.declared.deed.Deed.{Deed}
use Rattle.cable_world.specs.declared.deed.Deed.TheVariants as deeds
use Rattle.cable_world.specs.declared.event.Event.{Event}
use Rattle.cable_world.specs.declared.event.Event.TheVariants.{Start, Pass, Lose, Break, Again, Quiet, Unplug, Hear, Stop, Fail, Clean}
use Rattle.cable_world.proofs.Deeds.{bytes_again, bytes_said, deed_word, end_again, end_said, pick_again, pick_said}

-- ---- what is read is said

abbrev Led : Deed → LineSeen → Type 0
Led deed line = IsLed line (deed_word deed) (word_count deed)

end_read : (line : LineSeen) (role : Role) → end_in line ≡ Ok role → SaysEnd role line
end_read line role e = end_said (word_of_line line 1) role (value_ok line 1 (end_of (word_of_line line 1)) role e)

number_read : (line : LineSeen) (word most n : ℕ) → number_in line word most ≡ Ok n → SaysNumber word most n line
number_read line word most n e = value_ok line word (number_of 1 most (word_of_line line word)) n e

pub event_said : (deed : Deed) (line : LineSeen) (event : Event) → Led deed line → event_in deed line ≡ Ok event → SaysEvent event line
event_said deeds.Start line event led e =
    let role = bind_ok (end_in line) _ event e in
    subst (λ (x : Event). SaysEvent x line) (ok_same _ event role.goes_on) (led, end_read line role.value role.is)
event_said deeds.Pass line event led e =
    let n = bind_ok (number_in line 1 100_000) _ event e in
    subst (λ (x : Event). SaysEvent x line) (ok_same _ event n.goes_on) (led, number_read line 1 100_000 n.value n.is)
event_said deeds.Lose line event led e = subst (λ (x : Event). SaysEvent x line) (ok_same Lose event e) led
event_said deeds.Break line event led e = subst (λ (x : Event). SaysEvent x line) (ok_same Break event e) led
event_said deeds.Again line event led e =
    let role = bind_ok (end_in line) _ event e in
    let k = bind_ok (number_in line 2 999_999_999) _ event role.goes_on in
    subst (λ (x : Event). SaysEvent x line) (ok_same _ event k.goes_on) (led, end_read line role.value role.is, number_read line 2 999_999_999 k.value k.is)
event_said deeds.Quiet line event led e =
    let role = bind_ok (end_in line) _ event e in
    let n = bind_ok (number_in line 2 100) _ event role.goes_on in
    subst (λ (x : Event). SaysEvent x line) (ok_same _ event n.goes_on) (led, end_read line role.value role.is, number_read line 2 100 n.value n.is)
event_said deeds.Unplug line event led e = subst (λ (x : Event). SaysEvent x line) (ok_same Unplug event e) led
event_said deeds.Hear line event led e =
    let role = bind_ok (end_in line) _ event e in
    let bytes = bind_ok (value_at line 2 (bytes_of (word_of_line line 2))) _ event role.goes_on in
    subst (λ (x : Event). SaysEvent x line) (ok_same _ event bytes.goes_on)
    (led, end_read line role.value role.is, bytes_said (word_of_line line 2) bytes.value (value_ok line 2 (bytes_of (word_of_line line 2)) bytes.value bytes.is))
event_said deeds.Stop line event led e =
    let role = bind_ok (end_in line) _ event e in
    let n = bind_ok (number_in line 2 100_000) _ event role.goes_on in
    let pick = bind_ok (value_at line 3 (pick_of (word_of_line line 3))) _ event n.goes_on in
    subst (λ (x : Event). SaysEvent x line) (ok_same _ event pick.goes_on)
    (led, end_read line role.value role.is, number_read line 2 100_000 n.value n.is, pick_said (word_of_line line 3) pick.value (value_ok line 3 (pick_of (word_of_line line 3)) pick.value pick.is))
event_said deeds.Fail line event led e =
    let role = bind_ok (end_in line) _ event e in
    let n = bind_ok (number_in line 2 100_000) _ event role.goes_on in
    subst (λ (x : Event). SaysEvent x line) (ok_same _ event n.goes_on) (led, end_read line role.value role.is, number_read line 2 100_000 n.value n.is)
event_said deeds.Clean line event led e = subst (λ (x : Event). SaysEvent x line) (ok_same Clean event e) led

-- ---- what is said is read

go_end : (line : LineSeen) (role : Role) → SaysEnd role line → end_in line ≡ Ok role
go_end line role says = go_value line 1 (end_of (word_of_line line 1)) role (ap end_of says ∙ end_again role)

go_number : (line : LineSeen) (word most n : ℕ) → SaysNumber word most n line → number_in line word most ≡ Ok n
go_number line word most n says = go_value line word (number_of 1 most (word_of_line line word)) n says

pub deed_in : Event → Deed
deed_in (Start role) = deeds.Start
deed_in (Pass n) = deeds.Pass
deed_in Lose = deeds.Lose
deed_in Break = deeds.Break
deed_in (Again role k) = deeds.Again
deed_in (Quiet role n) = deeds.Quiet
deed_in Unplug = deeds.Unplug
deed_in (Hear role bytes) = deeds.Hear
deed_in (Stop role n pick) = deeds.Stop
deed_in (Fail role n) = deeds.Fail
deed_in Clean = deeds.Clean

pub event_led : (event : Event) (line : LineSeen) → SaysEvent event line → Led (deed_in event) line
unfolding deed_in
event_led (Start role) line says = says.0
event_led (Pass n) line says = says.0
event_led Lose line says = says
event_led Break line says = says
event_led (Again role k) line says = says.0
event_led (Quiet role n) line says = says.0
event_led Unplug line says = says
event_led (Hear role bytes) line says = says.0
event_led (Stop role n pick) line says = says.0
event_led (Fail role n) line says = says.0
event_led Clean line says = says

pub event_again : (event : Event) (line : LineSeen) → SaysEvent event line → event_in (deed_in event) line ≡ Ok event
unfolding deed_in
event_again (Start role) line says = go_bind (end_in line) _ role (go_end line role says.1)
event_again (Pass n) line says = go_bind (number_in line 1 100_000) _ n (go_number line 1 100_000 n says.1)
event_again Lose line says = refl
event_again Break line says = refl
event_again (Again role k) line says = go_bind (end_in line) _ role (go_end line role says.1) ∙ go_bind (number_in line 2 999_999_999) _ k (go_number line 2 999_999_999 k says.2)
event_again (Quiet role n) line says = go_bind (end_in line) _ role (go_end line role says.1) ∙ go_bind (number_in line 2 100) _ n (go_number line 2 100 n says.2)
event_again Unplug line says = refl
event_again (Hear role bytes) line says =
    go_bind (end_in line) _ role (go_end line role says.1)
    ∙ go_bind (value_at line 2 (bytes_of (word_of_line line 2))) _ bytes (go_value line 2 (bytes_of (word_of_line line 2)) bytes (bytes_again (word_of_line line 2) bytes says.2))
event_again (Stop role n pick) line says =
    go_bind (end_in line) _ role (go_end line role says.1)
    ∙ go_bind (number_in line 2 100_000) _ n (go_number line 2 100_000 n says.2)
    ∙ go_bind (value_at line 3 (pick_of (word_of_line line 3))) _ pick (go_value line 3 (pick_of (word_of_line line 3)) pick (ap pick_of says.3 ∙ pick_again pick))
event_again (Fail role n) line says = go_bind (end_in line) _ role (go_end line role says.1) ∙ go_bind (number_in line 2 100_000) _ n (go_number line 2 100_000 n says.2)
event_again Clean line says = refl
