-- The rows of a draft: one more of them, and that sets may state them.
use Rattle.std.proofs.Common.{◌≡◌, ◌<◌, Bool, true, false, List, [], ◌∷◌, ◌++◌, length, Result, Ok, Err, OnOk, OnErr, sym, subst, arith, length-append}
use Rattle.std.specs.List.{All}
use Rattle.std.proofs.lemmas.List.Elements.{All-append, All-cons, All-head, All-nil, All-tail}
use Rattle.std.proofs.lemmas.List.Sums.{count_by-le-length}
use Rattle.dsd_values.specs.Behind.{extended, with_extra}
use Rattle.dsd_values.specs.declared.allowance.Allowance.{Allowance}
use Rattle.dsd_values.specs.declared.extra.Extra.{Extra}
use Rattle.dsd_values.specs.declared.extra.Extra.TheVariants.{Allow}
use Rattle.dsd_values.specs.declared.fault.Memory.{Memory}
use Rattle.dsd_values.specs.declared.line.Line.{Line}
use Rattle.transaction_set.specs.Extras.{is_allowance}
use Rattle.transaction_set.specs.Reasons.{has_line, last_extras}
use Rattle.transaction_set.specs.SoundLines.{AreSoundLines, IsPlainAllowance, IsPlainLine, IsSoundExtra, IsSoundLine}
use Rattle.transaction_set.proofs.Apart.{apart_push}
use Rattle.transaction_set.proofs.Behind.{apart_extra, extras_push, length_extra}
use Rattle.transaction_set.proofs.Sounding.{no_extras, plain_allowance, plain_line}
use Rattle.handheld_core.specs.DraftRows.{AreAllowances, AreRows, IsItem, Rows, allowed, beside}

-- ---- allowances

allowances_more : (in_line : Bool) (extras : List Extra) (allowance : Allowance) → AreAllowances in_line extras → IsPlainAllowance in_line allowance → length extras < 20 → AreAllowances in_line (extras ++ Allow allowance ∷ [])
allowances_more in_line extras allowance are plain room =
    let count = count_by-le-length is_allowance extras in
    record {
      sound = record {
        each = All-append (IsSoundExtra in_line) extras (Allow allowance ∷ []) are.sound.each (All-cons (IsSoundExtra in_line) (Allow allowance) [] (plain_allowance in_line allowance plain) (All-nil (IsSoundExtra in_line)));
        limit = extras_push in_line extras (Allow allowance) are.sound.limit plain.size (omega arith);
        few = omega (arith, length-append extras (Allow allowance ∷ []));
      };
      few = omega (arith, length-append extras (Allow allowance ∷ []));
    }

no_allowances : (in_line : Bool) → AreAllowances in_line []
no_allowances in_line = record { sound = no_extras in_line; few = omega arith }

-- ---- items

-- a plain line stays one with another extra behind it
plain_extended : (line : Line) (extra : Extra) → IsPlainLine line → IsPlainLine (extended extra line)
plain_extended line extra is = record {
  least = is.least;
  most = is.most;
  quantity = is.quantity;
  unit = is.unit;
  filled = is.filled;
  upc = is.upc;
  qualifier = is.qualifier;
  id = is.id;
  case_code = is.case_code;
  cost = is.cost;
  pack = is.pack;
  label = is.label;
  tail = is.tail;
}

items_extra : (allowance : Allowance) (lines : List Line) → All IsItem lines → IsPlainAllowance true allowance → length (last_extras lines) < 20 → All IsItem (with_extra (Allow allowance) lines)
items_extra allowance [] all plain room = All-nil IsItem
items_extra allowance (line ∷ []) all plain room =
    let is : IsItem line = All-head IsItem line [] all in
    All-cons IsItem (extended (Allow allowance) line) [] (record { plain = plain_extended line (Allow allowance) is.plain; behind = allowances_more true line.extras allowance is.behind plain room }) (All-nil IsItem)
items_extra allowance (line ∷ next ∷ lines) all plain room =
    All-cons IsItem line (with_extra (Allow allowance) (next ∷ lines)) (All-head IsItem line (next ∷ lines) all) (items_extra allowance (next ∷ lines) (All-tail IsItem line (next ∷ lines) all) plain room)

pub item_more : (rows : Rows) (item : Line) → AreRows rows → IsPlainLine item → item.extras ≡ [] → has_line item.dsd rows.lines ≡ false → length rows.lines < 999 → AreRows (record rows { lines = rows.lines ++ item ∷ [] })
item_more rows item are plain bare fresh room = record {
  items = All-append IsItem rows.lines (item ∷ []) are.items (All-cons IsItem item [] (record { plain = plain; behind = subst (AreAllowances true) (sym bare) (no_allowances true) }) (All-nil IsItem));
  apart = apart_push rows.lines item are.apart fresh;
  few = omega (arith, length-append rows.lines (item ∷ []));
  beside = are.beside;
}

pub allowance_more : (in_line : Bool) (rows : Rows) (allowance : Allowance) → AreRows rows → IsPlainAllowance in_line allowance → length (beside in_line rows) < 20 → AreRows (allowed in_line rows allowance)
allowance_more true rows allowance are plain room = record {
  items = items_extra allowance rows.lines are.items plain room;
  apart = apart_extra (Allow allowance) rows.lines are.apart;
  few = omega (arith, are.few, length_extra (Allow allowance) rows.lines);
  beside = are.beside;
}
allowance_more false rows allowance are plain room = record {
  items = are.items;
  apart = are.apart;
  few = are.few;
  beside = allowances_more false rows.extras allowance are.beside plain room;
}

pub no_rows : AreRows (record { extras = []; lines = [] })
no_rows = record { items = All-nil IsItem; apart = tt; few = omega arith; beside = no_allowances false }

-- ---- sets may state them

items_sound : (lines : List Line) → All IsItem lines → All IsSoundLine lines
items_sound [] all = All-nil IsSoundLine
items_sound (line ∷ lines) all =
    let is : IsItem line = All-head IsItem line lines all in
    All-cons IsSoundLine line lines (plain_line line is.plain is.behind.sound) (items_sound lines (All-tail IsItem line lines all))

pub lines_sound : (rows : Rows) → AreRows rows → AreSoundLines rows.lines
lines_sound rows are = record { sound = items_sound rows.lines are.items; apart = are.apart }

-- what is kept where a call fails, and holds where it does not, holds behind it
pub pushed : {X : Type 0} (P : X → Type 0) (result : Result (Unit {0}) Memory) (old new wanted : X) → OnOk result (new ≡ wanted) → OnErr result (new ≡ old) → P old → P wanted → P new
pushed P (Ok done) old new wanted ok err before after = subst P (sym ok) after
pushed P (Err fault) old new wanted ok err before after = subst P (sym err) before
