-- Two lives over one cable agree.
use Rattle.std.proofs.Common.{◌≡◌, ℕ, Bool, List, [], ◌∷◌, ◌++◌, map, sym, ◌∙◌, ap, subst, inl, inr, append_assoc}
use Rattle.std.specs.Prelude.{All, Contains}
use Rattle.std.proofs.lemmas.List.Elements.{All-cons, All-contains, All-head, All-nil, All-weaker}
use Rattle.dsd_values.specs.declared.role.Role.{Role}
use Rattle.dsd_values.specs.declared.role.Role.TheVariants.{Receiver, Supplier}
use Rattle.dsd_journal.specs.declared.entry.Entry.{Entry}
use Rattle.dex_line.specs.FrameShapes.{FrameShape, Enq, Ack0, Ack1, Nak, Eot, Header, Block, Damaged, Bad}
use Rattle.dex_line.specs.FrameSpelling.{spelling}
use Rattle.dex_line.specs.Occurrence.{Occurs}
use Rattle.delivery_book.specs.Agreement.{Backed}
use Rattle.delivery_book.specs.Deeds.{signed_texts, taken_texts}
use Rattle.delivery_book.proofs.Listed.{finals_agree, finals_signed}
use Rattle.delivery_book.proofs.Members.{from_contains}
use Rattle.dsd_end.specs.Agreement.{Agree, HoldsWhatItSpoke}
use Rattle.dsd_end.specs.Cabling.{AreToldApart, HearsFrom, IsHonestCable, NoClash}
use Rattle.dsd_end.specs.Carrying.{Carried, OccurInOrder}
use Rattle.dsd_end.specs.Lives.{IsLife, IsLifeFrom, last_list}
use Rattle.dsd_end.specs.Runs.{Run, bytes_heard}
use Rattle.dsd_end.specs.Sealing.{IsBlockOf}
use Rattle.dsd_end.specs.Speaking.{AreSigned, IsBacked}
use Rattle.own_turn.proofs.LegalTexts.{signed_set, taken_set}
use Rattle.dsd_end.proofs.Growing.{Grows, all_signed_grow, each_grows, last_legal, run_of, taken_carried}
use Rattle.dsd_end.proofs.SpokenFrames.{frames_weaker, occurs_frame}
use Rattle.dsd_end.proofs.Trailers.{sealed_by_one}

-- ---- an end holds what it spoke

backed_on : (list : List Entry) (lists : List (List Entry)) → All (Grows list) lists → (frame : FrameShape) → IsBacked (list ∷ []) frame → IsBacked (list ∷ lists) frame
backed_on list lists grow (Block last text) (sets, from, each) =
    let signed = All-head (AreSigned sets) list [] each in
    (sets, from, All-cons (AreSigned sets) list lists signed (All-weaker (Grows list) (AreSigned sets) (λ next g. all_signed_grow sets list next g signed) lists grow))
backed_on list lists grow Enq b = tt
backed_on list lists grow Ack0 b = tt
backed_on list lists grow Ack1 b = tt
backed_on list lists grow Nak b = tt
backed_on list lists grow Eot b = tt
backed_on list lists grow (Header text) b = tt
backed_on list lists grow Damaged b = tt
backed_on list lists grow Bad b = tt

holds_what_it_spoke : (role : Role) (entries : List Entry) (runs : List Run) → IsLifeFrom role entries runs → HoldsWhatItSpoke runs
holds_what_it_spoke role entries [] life = tt
holds_what_it_spoke role entries (run ∷ later) (e, r, life) =
    let lists : List (List Entry) = map (λ (next : Run). next.after) later in (
      frames_weaker (IsBacked (run.after ∷ [])) (IsBacked (run.after ∷ lists)) run.gone (backed_on run.after lists (each_grows role run.after later life)) r.speaks,
      holds_what_it_spoke role run.after later life,
    )

-- ---- each one's taken sets are among the other's signed ones

further : (front back : List ℕ) (block : List ℕ × Bool) (bytes : List ℕ) → bytes ≡ front ++ (spelling (Block block.1 block.0) ++ back) → (last : Bool) (text : List ℕ) → Occurs last text back → Occurs last text bytes
further front back block bytes here last text (f, b, o) =
    let piece : List ℕ = spelling (Block block.1 block.0) in
    let behind : List ℕ = spelling (Block last text) ++ b in (
      front ++ (piece ++ f),
      b,
      (o.0, here ∙ ap (λ (t : List ℕ). front ++ (piece ++ t)) o.1 ∙ ap (λ (t : List ℕ). front ++ t) (sym (append_assoc piece f behind)) ∙ sym (append_assoc front (piece ++ f) behind)),
    )

-- blocks that occur one behind another each occur
abbrev OccursIn : List ℕ → List ℕ × Bool → Type 0
OccursIn bytes block = Occurs block.1 block.0 bytes

each_occurs : (blocks : List (List ℕ × Bool)) (bytes : List ℕ) → OccurInOrder blocks bytes → All (OccursIn bytes) blocks
each_occurs [] bytes o = All-nil (OccursIn bytes)
each_occurs (block ∷ more) bytes (front, back, here, later) =
    All-cons (OccursIn bytes) block more (front, back, here)
    (All-weaker (OccursIn back) (OccursIn bytes) (λ b o. further front back block bytes here.1 b.1 b.0 o) more (each_occurs more back later))

module _ (role its_role : Role) (runs others : List Run) (life : IsLife role runs) (its_life : IsLife its_role others) (cable : All (HearsFrom others) runs)
    (apart : AreToldApart (last_list runs) (last_list others)) where
  abbrev signed : List (List ℕ)
  signed = signed_texts (last_list others)

  -- a block that some run heard is one of sets that the other end signed
  heard_block : (run : Run) → Contains runs run → (block : List ℕ × Bool) → Occurs block.1 block.0 (bytes_heard run.heard) → IsBlockOf (Contains signed) block
  heard_block run inside block occurs =
      let (other, there, spoke) = All-contains (HearsFrom others) runs run cable inside block.1 block.0 occurs in
      let (is, grows) = run_of its_role [] others other its_life (from_contains others other there) in
      let (sets, from, each) = occurs_frame (IsBacked (other.after ∷ [])) other.gone block.1 block.0 is.speaks spoke in
      (sets, from, all_signed_grow sets other.after (last_list others) grows (All-head (AreSigned sets) other.after [] each))

  carried_signed : (run : Run) (text : List ℕ) → Contains runs run → Contains (taken_texts (last_list runs)) text → Carried (bytes_heard run.heard) text → Contains signed text
  carried_signed run text inside taken c =
      let (set, is) = taken_set role (last_list runs) text (last_legal role [] runs tt life) taken in
      let blocks = All-weaker (OccursIn (bytes_heard run.heard)) (IsBlockOf (Contains signed)) (heard_block run inside) c.blocks (each_occurs c.blocks (bytes_heard run.heard) c.occur) in
      let legal = last_legal its_role [] others tt its_life in
      let s = sealed_by_one (Contains signed) (λ other there. signed_set its_role (last_list others) other legal there) c.blocks c.before text c.rest c.segments set blocks c.joined c.spelled is in
      subst (Contains signed) (sym (apart text s.one set s.other taken s.has is s.is s.alike)) s.has

  -- what the one took the other signed
  pub backed : Backed (last_list runs) (last_list others)
  backed text taken = elim (taken_carried role [] runs text life taken) [
    | inl none ↦ absurd (from_contains [] text none)
    | inr (run, inside, carried) ↦ carried_signed run text inside taken carried
  ]

-- ---- the headline

pub agree : (supplier receiver : List Run) → IsLife Supplier supplier → IsLife Receiver receiver → IsHonestCable supplier receiver → NoClash supplier receiver → Agree supplier receiver
agree supplier receiver s r cable clash =
    let there = backed Supplier Receiver supplier receiver s r cable.there clash.there in
    let back = backed Receiver Supplier receiver supplier r s cable.back clash.back in
    record {
      finals = finals_agree Supplier (last_list supplier) (last_list receiver) (last_legal Supplier [] supplier tt s) (last_legal Receiver [] receiver tt r) there back;
      supplier_side = finals_signed (last_list supplier) (last_list receiver) there;
      receiver_side = finals_signed (last_list receiver) (last_list supplier) back;
      supplier_holds = holds_what_it_spoke Supplier [] supplier s;
      receiver_holds = holds_what_it_spoke Receiver [] receiver r;
    }
