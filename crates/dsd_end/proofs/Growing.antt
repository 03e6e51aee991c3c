-- Entries only grow along a life.
use Rattle.std.proofs.Common.{◌≡◌, ◌⊎◌, ℕ, Bool, not, List, [], ◌∷◌, ◌++◌, map, sym, ◌∙◌, ap, subst, inl, inr, append_assoc, append-nil}
use Rattle.std.specs.Prelude.{All, Contains}
use Rattle.std.specs.List.{filter}
use Rattle.std.proofs.lemmas.List.Elements.{All-cons, All-nil, All-weaker, Contains-append_cases, Contains-append_left, Contains-append_right, Contains-push, filter-append}
use Rattle.std.proofs.lemmas.List.{map-append}
use Rattle.dsd_values.specs.declared.role.Role.{Role}
use Rattle.dsd_journal.specs.declared.entry.Entry.{Entry}
use Rattle.delivery_book.specs.Deeds.{is_signed, signed_texts, taken_texts}
use Rattle.delivery_book.specs.Signing.{Legal}
use Rattle.delivery_book.proofs.Listed.{text_in}
use Rattle.delivery_book.proofs.Members.{In}
use Rattle.dsd_end.specs.Carrying.{Carried}
use Rattle.dsd_end.specs.Lives.{IsLifeFrom, IsRun, last_from}
use Rattle.dsd_end.specs.Runs.{Run, bytes_heard}
use Rattle.dsd_end.specs.Speaking.{AreSigned}

-- ---- the texts of more entries

texts_append : (test : Entry → Bool) (a b : List Entry) → map text_in (filter test (a ++ b)) ≡ map text_in (filter test a) ++ map text_in (filter test b)
texts_append test a b = ap (map text_in) (filter-append test a b) ∙ map-append text_in (filter test a) (filter test b)

-- the later list begins with the earlier one
pub record Grows (old new : List Entry) : Type 0 where
  pub added : List Entry
  pub grown : new ≡ old ++ added

grows_not : (entries : List Entry) → Grows entries entries
grows_not entries = record { added = []; grown = sym (append-nil entries) }

grows_on : (a b c : List Entry) → Grows a b → Grows b c → Grows a c
grows_on a b c p q = record { added = p.added ++ q.added; grown = q.grown ∙ ap (λ (l : List Entry). l ++ q.added) p.grown ∙ append_assoc a p.added q.added }

signed_grows : (old new : List Entry) (text : List ℕ) → Grows old new → Contains (signed_texts old) text → Contains (signed_texts new) text
signed_grows old new text g inside =
    subst (λ (l : List (List ℕ)). Contains l text) (sym (ap signed_texts g.grown ∙ texts_append (λ (entry : Entry). is_signed entry.kind) old g.added))
    (Contains-append_left (signed_texts old) (signed_texts g.added) text inside)

pub all_signed_grow : (sets : List (List ℕ)) (old new : List Entry) → Grows old new → AreSigned sets old → AreSigned sets new
all_signed_grow sets old new g each = All-weaker (Contains (signed_texts old)) (Contains (signed_texts new)) (λ text inside. signed_grows old new text g inside) sets each

-- ---- along a life

run_grows : (role : Role) (entries : List Entry) (run : Run) → run.before ≡ entries → IsRun role run → Grows entries run.after
run_grows role entries run e r = record { added = r.added; grown = r.grown ∙ ap (λ (l : List Entry). l ++ r.added) e }

life_grows : (role : Role) (entries : List Entry) (runs : List Run) → IsLifeFrom role entries runs → Grows entries (last_from entries runs)
life_grows role entries [] life = grows_not entries
life_grows role entries (run ∷ later) (e, r, life) =
    grows_on entries run.after (last_from run.after later) (run_grows role entries run e r) (life_grows role run.after later life)

-- the list with which each of these runs ended begins with the first one
pub each_grows : (role : Role) (entries : List Entry) (runs : List Run) → IsLifeFrom role entries runs → All (Grows entries) (map (λ (run : Run). run.after) runs)
each_grows role entries [] life = All-nil (Grows entries)
each_grows role entries (run ∷ later) (e, r, life) =
    let here = run_grows role entries run e r in
    let lists : List (List Entry) = map (λ (next : Run). next.after) later in
    All-cons (Grows entries) run.after lists here
    (All-weaker (Grows run.after) (Grows entries) (λ list g. grows_on entries run.after list here g) lists (each_grows role run.after later life))

pub last_legal : (role : Role) (entries : List Entry) (runs : List Run) → Legal role entries → IsLifeFrom role entries runs → Legal role (last_from entries runs)
last_legal role entries [] legal life = legal
last_legal role entries (run ∷ later) legal (e, r, life) = last_legal role run.after later r.legal life

first_run : (run : Run) (later : List Run) → Contains (run ∷ later) run
first_run run later = Contains-append_left (run ∷ []) later run (Contains-push [] run)

-- what was taken was carried in what some run heard
pub taken_carried : (role : Role) (entries : List Entry) (runs : List Run) (text : List ℕ) → IsLifeFrom role entries runs → Contains (taken_texts (last_from entries runs)) text
    → Contains (taken_texts entries) text ⊎ ((run : Run) × Contains runs run × Carried (bytes_heard run.heard) text)
taken_carried role entries [] text life inside = inl inside
taken_carried role entries (run ∷ later) text (e, r, life) inside = elim (taken_carried role run.after later text life inside) [
  | inl before ↦
      let texts : taken_texts run.after ≡ taken_texts entries ++ taken_texts r.added =
      ap taken_texts (r.grown ∙ ap (λ (l : List Entry). l ++ r.added) e) ∙ texts_append (λ (entry : Entry). not (is_signed entry.kind)) entries r.added in
      elim (Contains-append_cases (taken_texts entries) (taken_texts r.added) text (subst (λ (l : List (List ℕ)). Contains l text) texts before)) [
        | inl old ↦ inl old
        | inr new ↦ inr (run, first_run run later, r.taken text new)
      ]
  | inr (next, there, carried) ↦ inr (next, Contains-append_right (run ∷ []) later next there, carried)
]

-- a run of a life is one, and the last list begins with the one with which it ended
pub run_of : (role : Role) (entries : List Entry) (runs : List Run) (run : Run) → IsLifeFrom role entries runs → In run runs → IsRun role run × Grows run.after (last_from entries runs)
run_of role entries [] run life none = absurd none
run_of role entries (first ∷ later) run (e, r, life) (inl same) =
    subst (λ (x : Run). IsRun role x × Grows x.after (last_from first.after later)) same (r, life_grows role first.after later life)
run_of role entries (first ∷ later) run (e, r, life) (inr among) = run_of role first.after later run life among
