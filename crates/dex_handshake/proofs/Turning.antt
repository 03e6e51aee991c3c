-- What an end's step can be, and what the two then stand in: lemmas that the events share.
use Rattle.std.specs.Prelude.{◌≡◌, ℕ, ◌+◌, ◌==◌, nat_lt, Bool, true, false, ◌&&◌, if◌then◌else◌, List, [], ◌∷◌, ◌++◌, Option, Some, None}
use Rattle.std.proofs.Common.{refl, sym, ◌∙◌, ap, inl, inr, arith, append-nil}
use Rattle.std.proofs.lemmas.Bool.Decides.{nat_tests}
use Rattle.dex_line.specs.FrameShapes.{FrameShape, Eot}
use Rattle.dex_handshake.specs.LineTable.{StageName, FirstStage, SecondStage, TextStage, Partner, Common, Taking, SentAll, InText, Finished, Ended, is_odd, same_id, nothing_taken, next_stage, text_heard, LineStep, says, says_nothing, ends, says_eot, refused_or, hears_eot, first_over, second_over, bids, second_header}
use Rattle.dex_handshake.specs.LineRun.{Turns}
use Rattle.dex_handshake.specs.declared.session_end.SessionEnd.{SessionEnd}
use Rattle.dex_handshake.specs.declared.session_end.SessionEnd.TheVariants.{Complete, WrongPartner, PartnerRefused}
use Rattle.dex_handshake.proofs.Facing.{IsBid, IsOpen, IsDone, IsClosed, Owes, Owed, Past, TookLast}

-- ---- tests

pub if_both : {A : Type 0} (P : A → Type 0) (b : Bool) (x y : A) → (b ≡ true → P x) → (b ≡ false → P y) → P (if b then x else y)
if_both P true x y f g = f refl
if_both P false x y f g = g refl

pub if_yes : {A : Type 0} (P : A → Type 0) (b : Bool) (x y : A) → b ≡ true → P x → P (if b then x else y)
if_yes P true x y e p = p
if_yes P false x y e p = absurd (let no_such : ⊥ = cc in no_such)

pub if_no : {A : Type 0} (P : A → Type 0) (b : Bool) (x y : A) → b ≡ false → P y → P (if b then x else y)
if_no P true x y e p = absurd (let no_such : ⊥ = cc in no_such)
if_no P false x y e p = p

pub even_next : (n m : ℕ) → n + 1 ≡ m → is_odd n ≡ true → is_odd m ≡ false
even_next n m e h = grind (arith, nat_tests)

pub odd_next : (n m : ℕ) → n + 1 ≡ m → is_odd n ≡ false → is_odd m ≡ true
odd_next n m e h = grind (arith, nat_tests)

pub not_below : (n : ℕ) → nat_lt n n ≡ false
not_below n = grind (arith, nat_tests)

pub below_next : (n : ℕ) → nat_lt n (n + 1) ≡ true
below_next n = grind (arith, nat_tests)

pub below_one : (n : ℕ) → n + 1 ≡ 1 → nat_lt n 1 ≡ true
below_one n e = grind (arith, nat_tests)

-- ---- steps of the table, by what they come to

-- the Eot of an own turn is said, and the end goes on or ends
pub eot_said : (P : LineStep → Type 0) (own : Common) (none : Bool)
    → ((o : Common) → o.stage ≡ own.stage → P (says Eot (SentAll o)))
    → ((e : SessionEnd) → P (says Eot (Ended e)))
    → P (says_eot own.stage own none)
eot_said P own none on over = by_stage own.stage
  where
    by_partner : (partner : Option Partner) → P (refused_or own partner (SentAll (record own { partner = None })))
    by_partner None = on (record own { partner = None }) refl
    by_partner (Some partner) =
        if_both P (same_id partner.id own.peer) (says Eot (SentAll (record own { partner = None }))) (says Eot (Ended (WrongPartner partner.id)))
        (λ e. on (record own { partner = None }) refl) (λ e. over (WrongPartner partner.id))

    by_stage : (stage : StageName) → P (says_eot stage own none)
    by_stage FirstStage = on own refl
    by_stage SecondStage = by_partner own.partner
    by_stage TextStage =
        if_both P (none && own.empty) (says Eot (Ended Complete)) (says Eot (SentAll (record own { empty = none })))
        (λ e. over Complete) (λ e. on (record own { empty = none }) refl)

-- the Eot of the other's turn is heard: it may be ignored or end the session; the receiver bids its header; or the text
-- is heard
pub eot_heard : (P : LineStep → Type 0) (its : Common) (taking : Taking) (took : List FrameShape) (text : List ℕ) (stage : StageName)
    → its.stage ≡ stage → IsClosed stage took taking text
    → P (says_nothing (InText its taking))
    → ((e : SessionEnd) → P (ends e))
    → ((partner : Partner) → stage ≡ FirstStage → P (bids (record its { stage = SecondStage }) (second_header its partner ∷ [])))
    → ((o : Common) (heard : List ℕ) → next_stage stage ≡ TextStage → o.stage ≡ TextStage → heard ≡ text → P (says_nothing (Finished o heard)))
    → P (hears_eot stage its taking)
eot_heard P its taking took text FirstStage e c stay over bid on = by_partner its.partner
  where
    by_partner : (partner : Option Partner) → P (first_over its taking partner)
    by_partner None = stay
    by_partner (Some partner) = bid partner refl
eot_heard P its taking took text SecondStage e c stay over bid on = by_partner its.partner
  where
    by_partner : (partner : Option Partner) → P (second_over its taking partner)
    by_partner None = stay
    by_partner (Some partner) =
        if_both P (partner.code == 0) _ (ends (PartnerRefused partner.code))
        (λ z. if_both P (same_id partner.id its.peer) (says_nothing (Finished (record its { stage = TextStage; partner = None }) [])) (ends (WrongPartner partner.id))
        (λ y. on (record its { stage = TextStage; partner = None }) [] refl refl (sym c)) (λ y. over (WrongPartner partner.id)))
        (λ z. over (PartnerRefused partner.code))
eot_heard P its taking took text TextStage e c stay over bid on =
    if_both P ((taking.taken == 0) && its.empty) (ends Complete) (says_nothing (Finished (record its { empty = taking.taken == 0 }) (text_heard taking)))
    (λ z. over Complete) (λ z. on (record its { empty = taking.taken == 0 }) (text_heard taking) refl e c.0)

-- ---- loads

pub closed_bid : (stage : StageName) (took : List FrameShape) (text : List ℕ) → IsBid stage [] text → took ≡ [] → IsClosed stage took nothing_taken text
closed_bid FirstStage took text b e = absurd b.0
closed_bid SecondStage took text b e = absurd b.0
closed_bid TextStage took text b e = (b.0, e ∙ b.1)

pub open_bid : (stage : StageName) (took : List FrameShape) (text : List ℕ) (frame : FrameShape) (more : List FrameShape)
    → IsBid stage (frame ∷ more) text → took ≡ [] → IsOpen stage took frame more 1 nothing_taken text
open_bid FirstStage took text frame more b e = (b.0, refl, b.1)
open_bid SecondStage took text frame more b e = (b.0, refl, b.1)
open_bid TextStage took text frame more b e = (refl, b.0, ap (λ (l : List FrameShape). l ++ frame ∷ more) e ∙ b.1)

pub closed_done : (stage : StageName) (took : List FrameShape) (taking : Taking) (text : List ℕ) → IsDone stage took [] taking text → IsClosed stage took taking text
closed_done FirstStage took taking text d = d.1
closed_done SecondStage took taking text d = d.1
closed_done TextStage took taking text d =
    (if_yes (λ (l : List ℕ). l ≡ text) taking.whole taking.text [] d.0 d.1, sym (append-nil took) ∙ d.2)

pub open_done : (stage : StageName) (took : List FrameShape) (frame : FrameShape) (more : List FrameShape) (block : ℕ) (taking : Taking) (text : List ℕ)
    → IsDone stage took (frame ∷ more) taking text → IsOpen stage took frame more block taking text
open_done FirstStage took frame more block taking text d = absurd (let no_such : ⊥ = let e : frame ∷ more ≡ [] = d.0 in cc in no_such)
open_done SecondStage took frame more block taking text d = absurd (let no_such : ⊥ = let e : frame ∷ more ≡ [] = d.0 in cc in no_such)
open_done TextStage took frame more block taking text d = d

-- ---- the turns before

pub past_of : (stage : StageName) (bx by : List (List ℕ)) (tx ty : Turns) (text : List ℕ) → Owed stage bx tx by ty text → Past bx tx by ty
past_of FirstStage bx by tx ty text o = record {
  mine = (by ++ ty.given, ap (λ (h : List (List ℕ)). h ++ (by ++ ty.given)) (sym o.handed));
  its = (bx ++ tx.given, ap (λ (h : List (List ℕ)). h ++ (bx ++ tx.given)) (sym o.handed_on));
}
past_of SecondStage bx by tx ty text o = record {
  mine = (by ++ ty.given, ap (λ (h : List (List ℕ)). h ++ (by ++ ty.given)) (sym o.handed));
  its = (bx ++ tx.given, ap (λ (h : List (List ℕ)). h ++ (bx ++ tx.given)) (sym o.handed_on));
}
past_of TextStage bx by tx ty text o = record {
  mine = ([], o.0.others ∙ sym (append-nil tx.handed));
  its = (text ∷ [], o.0.this);
}

pub swap_past : (bx by : List (List ℕ)) (tx ty : Turns) → Past bx tx by ty → Past by ty bx tx
swap_past bx by tx ty p = record { mine = p.its; its = p.mine }

-- the texts behind a second header turn, or behind a turn of a text
pub owes_of : (stage : StageName) (bx by : List (List ℕ)) (tx ty : Turns) (took : List FrameShape) (taking : Taking) (text : List ℕ)
    → next_stage stage ≡ TextStage → Owed stage bx tx by ty text → IsClosed stage took taking text
    → Owes bx tx.given tx.handed by ty.given ty.handed text
owes_of FirstStage bx by tx ty took taking text e o c = absurd (let no_such : ⊥ = let f : SecondStage ≡ TextStage = e in cc in no_such)
owes_of SecondStage bx by tx ty took taking text e o c = record {
  this = ap (λ (b : List (List ℕ)). b ++ tx.given) o.fronts ∙ ap (λ (g : List (List ℕ)). ([] ∷ []) ++ g) o.gave
      ∙ sym (ap (λ (h : List (List ℕ)). h ++ text ∷ []) o.handed_on ∙ ap (λ (w : List ℕ). w ∷ []) c);
  others = ap (λ (b : List (List ℕ)). b ++ ty.given) o.behinds ∙ o.given ∙ sym o.handed;
}
owes_of TextStage bx by tx ty took taking text e o c = o.0

pub took_last : (stage : StageName) (bx by : List (List ℕ)) (tx ty : Turns) (taking : Taking) (text : List ℕ)
    → Owed stage bx tx by ty text → IsClosed stage ty.took taking text → TookLast tx ty
took_last FirstStage bx by tx ty taking text o c = inl o.gave
took_last SecondStage bx by tx ty taking text o c = inl o.gave
took_last TextStage bx by tx ty taking text o c = inr (text, o.1, c.1)
