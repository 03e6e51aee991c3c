-- Entries taken one after the other.
use Rattle.std.proofs.Common.{◌≡◌, inl, inr, ℕ, ◌+◌, ◌<◌, ◌≤◌, List, [], ◌∷◌, ◌++◌, ◌-◌, length, drop, refl, sym, ◌∙◌, ap, subst, arith, append_assoc, length-append, Result, Ok, Err, IsErrAnd}
use Rattle.std.proofs.lemmas.List.{append-nil, drop_at}
use Rattle.dsd_values.specs.declared.limits.TheConstants.{SET_BYTES}
use Rattle.dsd_journal.specs.declared.limits.TheConstants.{JOURNAL_BYTES}
use Rattle.dsd_journal.specs.declared.entry.Entry.{Entry}
use Rattle.dsd_journal.specs.declared.header.Header.{Header}
use Rattle.dsd_journal.specs.Headers.{header_bytes}
use Rattle.dsd_journal.specs.JournalImage.{open_gate, spelled, gate_place, EachFits, Leads}
use Rattle.dsd_journal.specs.Reading.{IsBad, IsWaiting, Takes, MeetsBad}
use Rattle.dsd_journal.proofs.Peeling.{spelled_append, body_length}

pub each_append : (es fs : List Entry) → EachFits es → EachFits fs → EachFits (es ++ fs)
each_append [] fs f g = g
each_append (e ∷ es) fs f g = (f.0, each_append es fs f.1 g)

pub takes_none : (es : List Entry) (bytes : List ℕ) → Takes es es bytes bytes
takes_none es bytes = record { more = []; each = tt; list = sym (append-nil es); split = refl }

pub takes_then : (a b c : List Entry) (x y z : List ℕ) → Takes a b x y → Takes b c y z → Takes a c x z
takes_then a b c x y z p q = record {
  more = p.more ++ q.more;
  each = each_append p.more q.more p.each q.each;
  list = q.list ∙ ap (λ (l : List Entry). l ++ q.more) p.list ∙ append_assoc a p.more q.more;
  split = p.split ∙ ap (λ (l : List ℕ). spelled p.more ++ l) q.split ∙ sym (append_assoc (spelled p.more) (spelled q.more) z) ∙ ap (λ (l : List ℕ). l ++ z) (sym (spelled_append p.more q.more));
}

pub meets_then : (a b : List Entry) (x y : List ℕ) (place : ℕ) → Takes a b x y → MeetsBad b y place → MeetsBad a x place
meets_then a b x y place p m = record { new = m.new; behind = m.behind; takes = takes_then a b m.new x y (open_gate ∷ m.behind) p m.takes; near = m.near; bad = m.bad }

pub meets_here : (es : List Entry) (behind bytes : List ℕ) (gate place : ℕ) → bytes ≡ open_gate ∷ behind → gate ≡ gate_place es → gate < JOURNAL_BYTES → IsBad gate behind place → MeetsBad es bytes place
meets_here es behind bytes gate place is at near bad = record {
  new = es;
  behind = behind;
  takes = subst (λ l. Takes es es l (open_gate ∷ behind)) (sym is) (takes_none es (open_gate ∷ behind));
  near = subst (λ g. g < JOURNAL_BYTES) at near;
  bad = subst (λ g. IsBad g behind place) at bad;
}

-- what is read of an image goes on
pub leads_takes : (header : Header) (es fs : List Entry) (x y image : List ℕ) → Takes es fs x y → Leads header es x image → Leads header fs y image
leads_takes header es fs x y image t p = record {
  titled = p.titled;
  each = subst EachFits (sym t.list) (each_append es t.more p.each t.each);
  split = p.split ∙ ap (λ (l : List ℕ). header_bytes header ++ l) (ap (λ (l : List ℕ). spelled es ++ l) t.split ∙ sym (append_assoc (spelled es) (spelled t.more) y)
      ∙ ap (λ (l : List ℕ). l ++ y) (sym (spelled_append es t.more) ∙ ap spelled (sym t.list)));
}

-- an error that is handed on
pub same_err : (T U E : Type 0) (r : Result T E) (x y : E) → IsErrAnd r (λ e. e ≡ x) → r ≡ Err y → (let a : Result U E = Err x in a) ≡ Err y
same_err T U E (Ok v) x y h is = absurd h
same_err T U E (Err e) x y h is = cc

-- what is left of bytes of which a front was taken
pub cut_is : (bytes front rest new : List ℕ) (n : ℕ) → new ≡ drop n bytes → n ≡ length bytes - length rest → bytes ≡ front ++ rest → new ≡ rest
cut_is bytes front rest new n is count split =
    let long : length front ≡ n = omega (arith, count, ap length split, length-append front rest) in is ∙ ap (λ (l : List ℕ). drop n l) split ∙ drop_at front rest n long

-- the place behind the entries and the bytes stays
pub takes_counted : (es fs : List Entry) (x y : List ℕ) → Takes es fs x y → gate_place es + length x ≡ gate_place fs + length y
takes_counted es fs x y t = omega (arith, ap length t.split, length-append (spelled t.more) y, ap gate_place t.list, ap length (spelled_append es t.more), length-append (spelled es) (spelled t.more))

-- bytes that wait for more are few
pub waiting_short : (gate : ℕ) (bytes : List ℕ) → IsWaiting gate bytes → length bytes ≤ SET_BYTES + 5
waiting_short gate bytes (inl none) = omega (arith, ap length none)
waiting_short gate bytes (inr w) = omega (arith, ap length w.1, w.2.short, body_length w.2.starts.entry, w.2.starts.sized.1)

-- while bytes wait for more, the place is not far
pub low_place : (at : ℕ) (es fs : List Entry) (x y : List ℕ) → at ≡ gate_place es + length x → Takes es fs x y → gate_place fs < JOURNAL_BYTES → IsWaiting (gate_place fs) y → at < JOURNAL_BYTES + SET_BYTES + 6
low_place at es fs x y counted taken near waits = omega (arith, counted, takes_counted es fs x y taken, near, waiting_short (gate_place fs) y waits)
