-- What stays along a course.
use Rattle.std.proofs.Common.{◌≡◌, ℕ, ◌+◌, ◌≤◌, ◌<◌, Bool, true, false, cond, List, [], ◌∷◌, ◌++◌, length, Some, None, Option, refl, sym, ap, ◌∙◌, arith, length-append}
use Rattle.block_check.specs.Crc16.{crc_from, crc_of}
use Rattle.dsd_values.specs.declared.line.Line.{Line}
use Rattle.dsd_values.specs.declared.limits.TheConstants.{MOST_ALLOWANCES, MOST_LINES, SET_BYTES}
use Rattle.dsd_values.specs.Behind.{with_extra}
use Rattle.dsd_values.specs.declared.extra.Extra.{Extra}
use Rattle.dsd_values.specs.declared.extra.Extra.TheVariants.{Allow, Note}
use Rattle.std.specs.List.{All}
use Rattle.segments.specs.declared.segment_fault.SegmentFault.{SegmentFault}
use Rattle.transaction_set.specs.declared.set_fault.SetReason.{SetReason}
use Rattle.transaction_set.specs.declared.kind.Form.{Form}
use Rattle.transaction_set.specs.declared.kind.Kind.{Kind}
use Rattle.transaction_set.specs.declared.kind.Kind.TheVariants as kinds
use Rattle.transaction_set.specs.declared.phase.Phase.{Phase}
use Rattle.transaction_set.specs.declared.phase.Phase.TheVariants as phases
use Rattle.segments.specs.Views.{Seg}
use Rattle.transaction_set.specs.Tables.{line_in}
use Rattle.transaction_set.specs.Kinds.{next_phase, is_done}
use Rattle.transaction_set.specs.SoFar.{SoFar, extras_after, in_line, kept, lines_after, phase_in}
use Rattle.transaction_set.specs.Allowances.{allowance_in}
use Rattle.transaction_set.specs.Extras.{AreExtras, HasExtras, IsSized, allowances}
use Rattle.segments.specs.Elements.{kept_text}
use Rattle.transaction_set.specs.Numbers.{HasRoom}
use Rattle.transaction_set.specs.Reasons.{allowance_reason, course_reason, admission, last_extras, order_reason}
use Rattle.transaction_set.specs.Refusal.{Refusal, refused_at, ended_at}
use Rattle.transaction_set.specs.Grammar.{AreApart, IsSound, bytes_of}
use Rattle.transaction_set.proofs.Small.{both_none, none_then, no_value, not_when, when_not, less, at_most, not_lt}
use Rattle.transaction_set.proofs.Apart.{apart_push, check_on, bytes_more}
use Rattle.transaction_set.proofs.Rest.{IsAt}
use Rattle.transaction_set.proofs.Back.{moves}
use Rattle.transaction_set.proofs.Behind.{apart_extra, behind_extra, behind_push, extras_push, length_extra}
use Rattle.transaction_set.proofs.RightAllowances.{allowance_right}

pub refused_none : (r : Option SetReason) (place : ℕ) (later : Option Refusal) → refused_at r place later ≡ None → (r ≡ None) × (later ≡ None)
refused_none (Some r) place later e = cc
refused_none None place later e = (refl, e)

pub none_refused : (r : Option SetReason) (place : ℕ) (later : Option Refusal) → r ≡ None → later ≡ None → refused_at r place later ≡ None
none_refused (Some r) place later p q = cc
none_refused None place later p q = q

pub ended_none : (whole : Bool) (place : ℕ) (fault : Option SegmentFault) → ended_at whole place fault ≡ None → (whole ≡ true) × (fault ≡ None)
ended_none whole place (Some f) e = cc
ended_none true place None e = (refl, refl)
ended_none false place None e = cc

pub none_ended : (whole : Bool) (place : ℕ) → whole ≡ true → ended_at whole place None ≡ None
none_ended true place e = refl
none_ended false place e = cc

pub done_is : (p : Phase) → is_done p ≡ true → phases.Done ≡ p
done_is phases.Done e = refl
done_is _ e = cc

pub some_moves : (p : Option Phase) → moves p ≡ true → p ≡ Some (phase_in p)
some_moves (Some p) e = refl
some_moves None e = cc

pub moves_some : (p : Option Phase) (phase : Phase) → p ≡ Some phase → moves p ≡ true
moves_some (Some p) phase e = refl
moves_some None phase e = cc

-- the running values behind one more segment
pub at_next : (m : SoFar) (before : List Seg) (seg : Seg) (kind : Kind) (phase : Phase) → IsAt before m → IsAt (before ++ seg ∷ []) (kept m seg kind phase (m.count + 1) (crc_from m.check seg.bytes))
unfolding kept
at_next m before seg kind phase at = (
  omega (arith, at.0, length-append before (seg ∷ [])),
  ap (λ (c : ℕ). crc_from c seg.bytes) at.1 ∙ sym (check_on 0 (bytes_of before) seg.bytes) ∙ ap (λ (bytes : List ℕ). crc_of bytes) (sym (bytes_more before seg)),
)

-- what holds of the lines and of the extras of the record, all along
abbrev pub Sound : List Line → List Extra → Type 0
Sound lines extras = AreApart lines × (length lines ≤ MOST_LINES) × All HasExtras lines × AreExtras false extras

-- one more extra leaves it so
sound_inside : (extra : Extra) (lines : List Line) (extras : List Extra) → IsSized true extra → HasRoom extra (last_extras lines) → Sound lines extras → Sound (with_extra extra lines) extras
sound_inside extra lines extras sized room (apart, most, behind, right) =
    (apart_extra extra lines apart, omega (arith, length_extra extra lines, most), behind_extra extra lines behind sized room, right)

sound_beside : (extra : Extra) (lines : List Line) (extras : List Extra) → IsSized false extra → HasRoom extra extras → Sound lines extras → Sound lines (extras ++ extra ∷ [])
sound_beside extra lines extras sized room (apart, most, behind, right) = (apart, most, behind, extras_push false extras extra right sized room)

allowance_sound : (b : Bool) (line : Line) (seg : Seg) (lines : List Line) (extras : List Extra) → allowance_reason b (allowances (cond b (last_extras lines) extras)) seg ≡ None → Sound lines extras
    → Sound (lines_after kinds.Allowance b line (Allow (allowance_in seg)) lines) (extras_after kinds.Allowance b (Allow (allowance_in seg)) extras)
allowance_sound true line seg lines extras e s =
    let room = both_none _ _ e in
    sound_inside (Allow (allowance_in seg)) lines extras (allowance_right true seg (no_value _ room.1)).size (less MOST_ALLOWANCES (allowances (last_extras lines)) (not_when _ _ room.0)) s
allowance_sound false line seg lines extras e s =
    let room = both_none _ _ e in
    sound_beside (Allow (allowance_in seg)) lines extras (allowance_right false seg (no_value _ room.1)).size (less MOST_ALLOWANCES (allowances extras) (not_when _ _ room.0)) s

line_note_sound : (b : Bool) (line : Line) (text : List ℕ) (lines : List Line) (extras : List Extra) → Sound lines extras
    → Sound (lines_after kinds.LineNote b line (Note text) lines) (extras_after kinds.LineNote b (Note text) extras)
line_note_sound true line text lines extras s = sound_inside (Note text) lines extras tt tt s
line_note_sound false line text lines extras s = sound_beside (Note text) lines extras tt tt s

note_sound : (b : Bool) (line : Line) (text : List ℕ) (lines : List Line) (extras : List Extra) → Sound lines extras
    → Sound (lines_after kinds.Note b line (Note text) lines) (extras_after kinds.Note b (Note text) extras)
note_sound true line text lines extras s = sound_inside (Note text) lines extras tt tt s
note_sound false line text lines extras s = sound_beside (Note text) lines extras tt tt s

pub keeps : (kind : Kind) (m : SoFar) (seg : Seg) (phase : Phase) (count check : ℕ) → course_reason m seg kind ≡ None → Sound m.lines m.extras
    → Sound (kept m seg kind phase count check).lines (kept m seg kind phase count check).extras
unfolding kept
keeps kinds.Item m seg phase count check e (apart, most, behind, right) =
    let room = both_none _ _ e in
    let new = both_none _ _ room.1 in
    let under : length m.lines < MOST_LINES = less MOST_LINES (length m.lines) (not_when _ _ room.0) in
    let long : length (m.lines ++ line_in seg ∷ []) ≡ length m.lines + 1 = length-append m.lines (line_in seg ∷ []) in
    (apart_push m.lines (line_in seg) apart (not_when _ _ new.1), omega (arith, long, under), behind_push m.lines (line_in seg) behind refl, right)
keeps kinds.Allowance m seg phase count check e s = allowance_sound (in_line m.phase) (line_in seg) seg m.lines m.extras e s
keeps kinds.LineNote m seg phase count check e s = line_note_sound (in_line m.phase) (line_in seg) (kept_text seg) m.lines m.extras s
keeps kinds.Note m seg phase count check e s = note_sound (in_line m.phase) (line_in seg) (kept_text seg) m.lines m.extras s
keeps _ m seg phase count check e s = s

pub is_sound : (lines : List Line) (extras : List Extra) → Sound lines extras → IsSound lines extras
is_sound lines extras (apart, most, behind, right) = record { apart = apart; limit = most; behind = behind; beside = right }

-- A segment of this kind may stand there, and ends where a set may end.
pub record MayStand (form : Form) (phase : Phase) (kind : Kind) (seg : Seg) : Type 0 where
  pub moves_on : moves (next_phase phase kind form) ≡ true
  pub short : seg.start + length seg.bytes ≤ SET_BYTES

order_moves : (next : Option Phase) → order_reason next ≡ None → moves next ≡ true
order_moves None e = cc
order_moves (Some phase) e = refl

moves_order : (next : Option Phase) → moves next ≡ true → order_reason next ≡ None
moves_order None e = cc
moves_order (Some phase) e = refl

pub may_stand : (form : Form) (phase : Phase) (kind : Kind) (seg : Seg) → admission form phase kind seg ≡ None → MayStand form phase kind seg
unfolding admission
may_stand form phase kind seg e =
    let a = both_none _ _ e in
    record { moves_on = order_moves _ a.0; short = at_most SET_BYTES _ (not_when _ _ a.1) }

pub admitted : (form : Form) (phase : Phase) (kind : Kind) (seg : Seg) → moves (next_phase phase kind form) ≡ true → seg.start + length seg.bytes ≤ SET_BYTES → admission form phase kind seg ≡ None
unfolding admission
admitted form phase kind seg m s = none_then _ _ (moves_order _ m) (when_not _ _ (not_lt SET_BYTES _ s))
