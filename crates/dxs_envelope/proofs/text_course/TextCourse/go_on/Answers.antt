use Rattle.std.proofs.Common.{◌≡◌, ◌≤◌, ℕ, List, length, sym, ◌∙◌, ap, subst, arith}
use Rattle.segments.proofs.Ids.{no_place}
use Rattle.segments.specs.Views.{element_of}
use Rattle.segments.proofs.Spelled.{bytes_some}
use Rattle.dxs_envelope.specs.FirstFault.{Standing, Between}
use Rattle.dxs_envelope.specs.TextParts.{Course, found_at, kind_at, standing_in}
use Rattle.dxs_envelope.specs.declared.text_course.PartKind.TheVariants.{Header, SetEnd}
use Rattle.dxs_envelope.proofs.Courses.{control_short, counted, header_after}
use Rattle.dxs_envelope.proofs.text_course.TextCourse.go_on.Goals as goal

pub new-self-inside-requires-clause-characters : goal.new-self-inside-requires-clause-characters
new-self-inside-requires-clause-characters c = no_place c.element.result.now c.element.ensures.characters

pub new-self-inside-requires-clause-short : goal.new-self-inside-requires-clause-short
new-self-inside-requires-clause-short c =
    let kind : Header ≡ kind_at c.args.self.now.standing c.args.segment.now = sym c.in-Header.is ∙ c.requires.kind in
    subst (λ (l : List ℕ). length l ≤ 35) (sym c.element.ensures.value) (control_short c.args.self.now.standing c.args.segment.now kind c.requires.right)

pub overflow_add-self : goal.overflow_add-self
overflow_add-self c =
    let own = c.self.inside in
    let at : standing_in own.stage own.control own.found ≡ c.args.self.now.standing = ap (λ (k : Course). k.standing) c.self.view_is in
    let kind : SetEnd ≡ kind_at (standing_in own.stage own.control own.found) c.args.segment.now =
    sym c.in-SetEnd.is ∙ c.requires.kind ∙ ap (λ (t : Standing). kind_at t c.args.segment.now) (sym at) in
    let count : found_at c.args.self.now.standing ≡ own.found = ap found_at (sym at) ∙ counted own.stage own.control own.found c.args.segment.now kind in
    omega (arith, count, c.requires.placed, bytes_some c.args.segment.now c.bytes.ensures.spelled, c.end.ensures, c.end.type_inv)

pub returns-in-Header-clause-stands : goal.returns-in-Header-clause-stands
returns-in-Header-clause-stands c =
    let kind : Header ≡ kind_at c.args.self.now.standing c.args.segment.now = sym c.in-Header.is ∙ c.requires.kind in
    let control : List ℕ = element_of c.args.segment.now 4 in
    ap (λ (l : List ℕ). record { standing = Between l 0; fault = c.self.inside.fault }) (c.new-self-inside.ensures ∙ c.element.ensures.value)
    ∙ ap (λ (k : Course). record { standing = Between control 0; fault = k.fault }) c.self.view_is
    ∙ ap (λ (t : Standing). record { standing = t; fault = c.args.self.now.fault }) (sym (header_after c.args.self.now.standing c.args.segment.now kind))
