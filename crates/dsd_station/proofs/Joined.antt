-- Bytes that come or go in two parts.
use Rattle.std.proofs.Common.{◌≡◌, ℕ, ◌+◌, ◌-◌, ◌≤◌, List, ◌++◌, Option, Some, None, Result, Ok, Err, OnErr, arith, length-append, length, take, drop, append_assoc, sym, ap, ◌∙◌}
use Rattle.dsd_station.specs.Causes.{TakesUpTo}
use Rattle.std.proofs.KnownBytes.{Consumes-trans}
use Rattle.std.proofs.lemmas.List.{take-append-drop, take_rest}
use Rattle.std.specs.Io.KnownBytes.{Consumes, Keeps, ReadConsumes, WriteAppends}

-- a front is longer by the first n bytes of what was left
pub cut_further : (text front rest : List ℕ) (n : ℕ) → text ≡ front ++ rest → text ≡ (front ++ take n rest) ++ take (length rest - n) (drop n rest)
cut_further text front rest n e =
    e ∙ ap (λ t. front ++ t) (sym (take-append-drop n rest)) ∙ sym (append_assoc front (take n rest) (drop n rest))
    ∙ ap (λ t. (front ++ take n rest) ++ t) (sym (take_rest rest n))

-- what is known of the bytes stays, and then a read or a write comes
pub kept_reads : {E : Type 0} (a b c : Option (List ℕ)) (r : Result ℕ E) (into : List ℕ) → Keeps a b → ReadConsumes b c r into → ReadConsumes a c r into
kept_reads None b c (Ok n) into k e = (tt, λ none room. e.1 none room)
kept_reads (Some x) None c r into k e = absurd k
kept_reads (Some x) (Some y) None (Ok n) into k e = absurd e.0
kept_reads (Some x) (Some y) (Some z) (Ok n) into k e = (sym k ∙ e.0, e.1)
kept_reads None b c (Err f) into k e = tt
kept_reads (Some x) (Some y) None (Err f) into k e = absurd e
kept_reads (Some x) (Some y) (Some z) (Err f) into k e = e ∙ k

pub kept_writes : {E : Type 0} (a b c : Option (List ℕ)) (r : Result ℕ E) (from : List ℕ) → Keeps a b → WriteAppends b c r from → WriteAppends a c r from
kept_writes None b c (Ok n) from k e = tt
kept_writes (Some x) None c r from k e = absurd k
kept_writes (Some x) (Some y) None (Ok n) from k e = absurd e
kept_writes (Some x) (Some y) (Some z) (Ok n) from k e = e ∙ ap (λ l. l ++ take n from) k
kept_writes None b c (Err f) from k e = tt
kept_writes (Some x) (Some y) None (Err f) from k e = absurd e
kept_writes (Some x) (Some y) (Some z) (Err f) from k e = e ∙ k

pub takes_more : (limit : ℕ) (a b c : Option (List ℕ)) (x y : List ℕ) → Consumes a b x → length x + length y ≤ limit → Consumes b c y → TakesUpTo limit a c
takes_more limit a b c x y p room q = (x ++ y, omega (arith, length-append x y), Consumes-trans a b c x y p q)

-- what holds anyhow holds of an error
pub on_err : {V E P : Type 0} (r : Result V E) → P → OnErr r P
on_err (Ok x) p = tt
on_err (Err e) p = p
