-- From where a reading stops to where the image is refused.
use Rattle.std.proofs.Common.{◌≡◌, ◌≢◌, ◌⊎◌, inl, inr, ℕ, ◌+◌, ◌<◌, ◌≤◌, List, [], ◌∷◌, ◌++◌, length, take, drop, replicate, refl, sym, ◌∙◌, ap, subst, arith, append_assoc, length-append, length-take}
use Rattle.std.proofs.lemmas.List.{append-nil, take_all, take_at, take-append-drop, take-append-le, length-replicate}
use Rattle.std.specs.Int.{w32, to_be_bytes}
use Rattle.dsd_journal.specs.declared.limits.TheConstants.{JOURNAL_BYTES}
use Rattle.dsd_journal.specs.declared.entry.Entry.{Entry}
use Rattle.dsd_journal.specs.declared.entry.EntryKind.{EntryKind}
use Rattle.dsd_journal.specs.declared.header.Header.{Header}
use Rattle.dsd_journal.specs.Headers.{header_bytes}
use Rattle.dsd_journal.specs.JournalImage.{open_gate, kind_letter, body, spelled, gate_place, EachFits, IsPayloadLength, Leads, IsJournal, Holds}
use Rattle.dsd_journal.specs.FirstBad.{Begins, Outgrows, IsRefused, Outgrown, Stopped}
use Rattle.dsd_journal.specs.Reading.{StartsEntry, IsUnfinished, IsBad, NoEntry, TooFar}
use Rattle.dsd_journal.proofs.Peeling.{one_front, shut_ahead, heads, tails, sized_apart, body_apart, body_split, body_length, gate_ahead, spelled_append, header_length}
use Rattle.dsd_journal.proofs.Apart.{size_ahead}

-- ---- an entry more

pub each_push : (es : List Entry) (e : Entry) → EachFits es → IsPayloadLength (length e.payload) → EachFits (es ++ e ∷ [])
each_push [] e f h = (h, tt)
each_push (x ∷ es) e f h = (f.0, each_push es e f.1 h)

pub spelled_push : (es : List Entry) (e : Entry) → spelled (es ++ e ∷ []) ≡ spelled es ++ open_gate ∷ body e
spelled_push es e = spelled_append es (e ∷ []) ∙ ap (λ (l : List ℕ). spelled es ++ open_gate ∷ l) (append-nil (body e))

-- a whole entry behind an open gate is taken
pub leads_on : (header : Header) (es : List Entry) (e : Entry) (rest bytes : List ℕ) → IsPayloadLength (length e.payload) → Leads header es (open_gate ∷ (body e ++ rest)) bytes → Leads header (es ++ e ∷ []) rest bytes
leads_on header es e rest bytes sized p = record {
  titled = p.titled;
  each = each_push es e p.each sized;
  split = p.split ∙ ap (λ (l : List ℕ). header_bytes header ++ l) (sym (append_assoc (spelled es) (open_gate ∷ body e) rest) ∙ ap (λ (l : List ℕ). l ++ rest) (sym (spelled_push es e)));
}

-- more bytes stand behind
pub leads_more : (header : Header) (es : List Entry) (x y bytes : List ℕ) → Leads header es x bytes → Leads header es (x ++ y) (bytes ++ y)
leads_more header es x y bytes p = record {
  titled = p.titled;
  each = p.each;
  split = ap (λ (l : List ℕ). l ++ y) p.split ∙ append_assoc (header_bytes header) (spelled es ++ x) y ∙ ap (λ (l : List ℕ). header_bytes header ++ l) (append_assoc (spelled es) x y);
}

pub leads_length : (header : Header) (es : List Entry) (x bytes : List ℕ) → Leads header es x bytes → length bytes ≡ gate_place es + length x
leads_length header es x bytes p = omega (arith, ap length p.split, length-append (header_bytes header) (spelled es ++ x), length-append (spelled es) x, header_length header p.titled)

-- ---- what else the bytes behind an open gate may be

-- a kind and a length stand there
record Sized (behind : List ℕ) : Type 0 where
  kind : EntryKind
  size : ℕ
  rest : List ℕ
  sized : IsPayloadLength size
  is : behind ≡ kind_letter kind ∷ (to_be_bytes w32 size ++ rest)

-- an entry stands there
record Whole (behind : List ℕ) : Type 0 where
  entry : Entry
  rest : List ℕ
  sized : IsPayloadLength (length entry.payload)
  is : behind ≡ body entry ++ rest

first_of : (es : List Entry) (m : Entry) (ms : List Entry) → EachFits (es ++ m ∷ ms) → IsPayloadLength (length m.payload)
first_of [] m ms f = f.0
first_of (x ∷ es) m ms f = first_of es m ms f.1

module _ (header : Header) (es : List Entry) (behind image : List ℕ) (leads : Leads header es (open_gate ∷ behind) image) where
  -- another reading of the image, of entries that are no fewer
  whole_ahead : (fs : List Entry) (m : Entry) (ms : List Entry) (y : List ℕ) → EachFits fs → fs ≡ es ++ m ∷ ms → open_gate ∷ behind ≡ spelled (m ∷ ms) ++ y → Whole behind
  whole_ahead fs m ms y each list e = record {
    entry = m;
    rest = spelled ms ++ y;
    sized = first_of es m ms (subst EachFits list each);
    is = tails open_gate open_gate behind ((body m ++ spelled ms) ++ y) e ∙ append_assoc (body m) (spelled ms) y;
  }

  held_whole : (other : Header) (fs : List Entry) → IsJournal other fs image → Whole behind
  held_whole other fs j = elim ((one_front header other es fs (open_gate ∷ behind) (j.gate ∷ j.rest) image leads j.leads).1) [
    | inl h ↦ go h.more h.list h.behind
    | inr h ↦ absurd (j.shut (heads j.gate open_gate j.rest behind (shut_ahead fs es j.gate j.rest (open_gate ∷ behind) j.shut h).1))
  ]
    where
      go : (more : List Entry) → fs ≡ es ++ more → open_gate ∷ behind ≡ spelled more ++ (j.gate ∷ j.rest) → Whole behind
      go [] list e = absurd (j.shut (sym (heads open_gate j.gate behind j.rest e)))
      go (m ∷ ms) list e = whole_ahead fs m ms (j.gate ∷ j.rest) j.leads.each list e

  -- an entry that outgrows the last place is this one, or behind it
  grown_here : (at : ℕ) → gate_place es < JOURNAL_BYTES → Outgrows image at → ((s : Sized behind) × (JOURNAL_BYTES ≤ gate_place es + 6 + s.size)) ⊎ Whole behind
  grown_here at near o = elim ((one_front header o.header es o.entries (open_gate ∷ behind) x image leads o.leads).1) [
    | inl h ↦ first h.more h.list h.behind
    | inr h ↦ second h.more h.list h.behind
  ]
    where
      x : List ℕ
      x = open_gate ∷ kind_letter o.kind ∷ (to_be_bytes w32 o.size ++ o.rest)

      first : (more : List Entry) → o.entries ≡ es ++ more → open_gate ∷ behind ≡ spelled more ++ x → ((s : Sized behind) × (JOURNAL_BYTES ≤ gate_place es + 6 + s.size)) ⊎ Whole behind
      first [] list e =
          let same : gate_place o.entries ≡ gate_place es = ap gate_place (list ∙ append-nil es) in
          inl (
            record { kind = o.kind; size = o.size; rest = o.rest; sized = o.sized; is = tails open_gate open_gate behind (kind_letter o.kind ∷ (to_be_bytes w32 o.size ++ o.rest)) e },
            omega (arith, o.far, same),
          )
      first (m ∷ ms) list e = inr (whole_ahead o.entries m ms x o.leads.each list e)

      second : (more : List Entry) → es ≡ o.entries ++ more → x ≡ spelled more ++ (open_gate ∷ behind) → ((s : Sized behind) × (JOURNAL_BYTES ≤ gate_place es + 6 + s.size)) ⊎ Whole behind
      second [] list e =
          let same : gate_place es ≡ gate_place o.entries = ap gate_place (list ∙ append-nil o.entries) in
          inl (
            record { kind = o.kind; size = o.size; rest = o.rest; sized = o.sized; is = sym (tails open_gate open_gate (kind_letter o.kind ∷ (to_be_bytes w32 o.size ++ o.rest)) behind e) },
            omega (arith, o.far, same),
          )
      second (m ∷ ms) list e =
          let tail = tails open_gate open_gate (kind_letter o.kind ∷ (to_be_bytes w32 o.size ++ o.rest)) ((body m ++ spelled ms) ++ (open_gate ∷ behind)) e in
          let parts = sized_apart o.kind m.kind o.size (length m.payload) o.rest (m.payload ++ (spelled ms ++ (open_gate ∷ behind))) o.sized (first_of o.entries m ms (subst EachFits list leads.each))
          (tail ∙ append_assoc (body m) (spelled ms) (open_gate ∷ behind) ∙ body_split m (spelled ms ++ (open_gate ∷ behind))) in
          absurd (omega (arith, parts.1, gate_ahead o.entries m ms, ap gate_place list, near, o.far))

  -- the image up to a place behind the gate
  front_is : (k : ℕ) → k ≤ length behind → take (gate_place es + 1 + k) image ≡ header_bytes header ++ (spelled es ++ (open_gate ∷ take k behind))
  front_is k fewer = ap (λ (l : List ℕ). take (gate_place es + 1 + k) l) image_is ∙ take_at (header_bytes header ++ (spelled es ++ (open_gate ∷ take k behind))) (drop k behind) (gate_place es + 1 + k) long
    where
      image_is : image ≡ (header_bytes header ++ (spelled es ++ (open_gate ∷ take k behind))) ++ drop k behind
      image_is = leads.split ∙ ap (λ (l : List ℕ). header_bytes header ++ (spelled es ++ (open_gate ∷ l))) (sym (take-append-drop k behind))
          ∙ sym (append_assoc (header_bytes header) (spelled es ++ (open_gate ∷ take k behind)) (drop k behind) ∙ ap (λ (l : List ℕ). header_bytes header ++ l) (append_assoc (spelled es) (open_gate ∷ take k behind) (drop k behind)))

      long : length (header_bytes header ++ (spelled es ++ (open_gate ∷ take k behind))) ≡ gate_place es + 1 + k
      long = omega (arith, length-append (header_bytes header) (spelled es ++ (open_gate ∷ take k behind)), length-append (spelled es) (open_gate ∷ take k behind), header_length header leads.titled, length-take k behind, fewer)

  -- a journal begins with the image up to here where an entry does
  begun : (k : ℕ) → k ≤ length behind → StartsEntry (take k behind) → Begins (take (gate_place es + 1 + k) image)
  begun k fewer s = record {
    header = header;
    entries = es ++ s.entry ∷ [];
    tail = s.tail ++ 0 ∷ [];
    journal = record { gate = 0; rest = []; shut = omega arith; leads = subst (λ l. Leads header (es ++ s.entry ∷ []) (0 ∷ []) l) whole front };
  }
    where
      front : Leads header (es ++ s.entry ∷ []) (0 ∷ []) (header_bytes header ++ (spelled es ++ (open_gate ∷ (body s.entry ++ 0 ∷ []))))
      front = leads_on header es s.entry (0 ∷ []) (header_bytes header ++ (spelled es ++ (open_gate ∷ (body s.entry ++ 0 ∷ [])))) s.sized
          (record { titled = leads.titled; each = leads.each; split = refl })

      whole : header_bytes header ++ (spelled es ++ (open_gate ∷ (body s.entry ++ 0 ∷ []))) ≡ take (gate_place es + 1 + k) image ++ (s.tail ++ 0 ∷ [])
      whole = sym (ap (λ (l : List ℕ). l ++ (s.tail ++ 0 ∷ [])) (front_is k fewer) ∙ append_assoc (header_bytes header) (spelled es ++ (open_gate ∷ take k behind)) (s.tail ++ 0 ∷ [])
          ∙ ap (λ (l : List ℕ). header_bytes header ++ l) (append_assoc (spelled es) (open_gate ∷ take k behind) (s.tail ++ 0 ∷ [])
          ∙ ap (λ (l : List ℕ). spelled es ++ (open_gate ∷ l)) (sym (append_assoc (take k behind) s.tail (0 ∷ [])) ∙ ap (λ (l : List ℕ). l ++ 0 ∷ []) s.whole)))

-- ---- from the first bytes of an entry

starts_front : (front tail rest : List ℕ) (m : Entry) → IsPayloadLength (length m.payload) → length front ≤ 5 → front ++ tail ≡ body m ++ rest → StartsEntry front
starts_front front tail rest m sized few e =
    let n = length front in
    let cut : front ≡ take n (body m) =
    sym (take_at front tail n refl) ∙ ap (λ (l : List ℕ). take n l) e ∙ take-append-le n (body m) rest (omega (arith, few, body_length m)) in
    record { entry = m; sized = sized; tail = drop n (body m); whole = ap (λ (l : List ℕ). l ++ drop n (body m)) cut ∙ take-append-drop n (body m) }

sized_starts : (behind : List ℕ) (j : ℕ) → j ≤ 5 → Sized behind → StartsEntry (take j behind)
sized_starts behind j few s =
    let m : Entry = record { kind = s.kind; payload = replicate s.size 0 } in
    let long : length m.payload ≡ s.size = length-replicate {A = ℕ} s.size 0 in
    let front : take j behind ≡ take j (kind_letter s.kind ∷ to_be_bytes w32 s.size) =
    ap (λ (l : List ℕ). take j l) s.is ∙ take-append-le j (kind_letter s.kind ∷ to_be_bytes w32 s.size) s.rest few in
    let whole : take j (kind_letter s.kind ∷ to_be_bytes w32 s.size) ≡ take j (body m) =
    sym (take-append-le j (kind_letter s.kind ∷ to_be_bytes w32 s.size) m.payload few) ∙ ap (λ (n : ℕ). take j (kind_letter s.kind ∷ (to_be_bytes w32 n ++ m.payload))) (sym long) in
    record {
      entry = m;
      sized = subst IsPayloadLength (sym long) s.sized;
      tail = drop j (body m);
      whole = ap (λ (l : List ℕ). l ++ drop j (body m)) (front ∙ whole) ∙ take-append-drop j (body m);
    }

whole_sized : (behind : List ℕ) → Whole behind → Sized behind
whole_sized behind w = record { kind = w.entry.kind; size = length w.entry.payload; rest = w.entry.payload ++ w.rest; sized = w.sized; is = w.is ∙ body_split w.entry w.rest }

-- a journal that begins with the image up to here has an entry that begins so
starts_back : (header : Header) (es : List Entry) (behind image : List ℕ) → Leads header es (open_gate ∷ behind) image → (k : ℕ) → k ≤ 5 → k ≤ length behind
    → Begins (take (gate_place es + 1 + k) image) → StartsEntry (take k behind)
starts_back header es behind image leads k few fewer b =
    let front = take (gate_place es + 1 + k) image in
    let here : Leads header es (open_gate ∷ take k behind) front = record { titled = leads.titled; each = leads.each; split = front_is header es behind image leads k fewer } in
    let w = held_whole header es (take k behind ++ b.tail) (front ++ b.tail) (leads_more header es (open_gate ∷ take k behind) b.tail front here) b.header b.entries b.journal in
    starts_front (take k behind) b.tail w.rest w.entry w.sized (omega (arith, length-take k behind, few)) w.is

-- ---- the refusals

module _ (header : Header) (es : List Entry) (behind image : List ℕ) (leads : Leads header es (open_gate ∷ behind) image) (near : gate_place es < JOURNAL_BYTES) where
  pub bad_refused : (place : ℕ) → IsBad (gate_place es) behind place → IsRefused image place
  bad_refused place (NoEntry k few inside starts none is) = Stopped no_growth (λ other fs h. none (sized_starts behind (k + 1) (omega (arith, few)) (whole_sized behind (held_whole header es behind image leads other fs h.journal)))) (record {
    inside = omega (arith, is, leads_length header es (open_gate ∷ behind) image leads, inside);
    before = subst (λ (n : ℕ). Begins (take n image)) (sym is) (begun header es behind image leads k (omega (arith, inside)) starts);
    ends = inr (λ b. none (starts_back header es behind image leads (k + 1) (omega (arith, few)) (omega (arith, inside)) (subst (λ (n : ℕ). Begins (take n image)) one_more b)));
  })
    where
      one_more : place + 1 ≡ gate_place es + 1 + (k + 1)
      one_more = omega (arith, is)

      no_growth : (at : ℕ) → Outgrows image at → ⊥
      no_growth at o = elim (grown_here header es behind image leads at near o) [
        | inl s ↦ none (sized_starts behind (k + 1) (omega (arith, few)) s.0)
        | inr w ↦ none (sized_starts behind (k + 1) (omega (arith, few)) (whole_sized behind w))
      ]
  bad_refused place (TooFar kind size rest sized is far at) = Outgrown (record {
    header = header;
    entries = es;
    kind = kind;
    size = size;
    rest = rest;
    sized = sized;
    leads = subst (λ (l : List ℕ). Leads header es (open_gate ∷ l) image) is leads;
    near = near;
    far = far;
    kind_place = at;
  })

  pub unfinished_refused : IsUnfinished (gate_place es) behind → IsRefused image (length image)
  unfinished_refused u = Stopped no_growth (λ other fs h. no_whole (held_whole header es behind image leads other fs h.journal)) (record {
    inside = omega arith;
    before = subst (λ (n : ℕ). Begins (take n image)) (sym end) (begun header es behind image leads (length behind) (omega arith) (subst StartsEntry (sym (take_all (length behind) behind (omega arith))) u.starts));
    ends = inl refl;
  })
    where
      end : length image ≡ gate_place es + 1 + length behind
      end = omega (arith, leads_length header es (open_gate ∷ behind) image leads)

      no_whole : Whole behind → ⊥
      no_whole w =
          let e : body w.entry ++ (w.rest ++ u.starts.tail) ≡ body u.starts.entry ++ [] =
          sym (append_assoc (body w.entry) w.rest u.starts.tail) ∙ ap (λ (l : List ℕ). l ++ u.starts.tail) (sym w.is) ∙ u.starts.whole ∙ sym (append-nil (body u.starts.entry)) in
          let same = (body_apart w.entry u.starts.entry (w.rest ++ u.starts.tail) [] w.sized u.starts.sized e).0 in
          omega (arith, u.short, ap length w.is, length-append (body w.entry) w.rest, ap (λ (m : Entry). length (body m)) same)

      no_growth : (at : ℕ) → Outgrows image at → ⊥
      no_growth at o = elim (grown_here header es behind image leads at near o) [
        | inl s ↦ far_and_near s.0 s.1
        | inr w ↦ no_whole w
      ]
        where
          far_and_near : (s : Sized behind) → JOURNAL_BYTES ≤ gate_place es + 6 + s.size → ⊥
          far_and_near s far =
              let e : kind_letter s.kind ∷ (to_be_bytes w32 s.size ++ (s.rest ++ u.starts.tail)) ≡ body u.starts.entry =
              sym (ap (λ (l : List ℕ). l ++ u.starts.tail) s.is ∙ append_assoc (kind_letter s.kind ∷ to_be_bytes w32 s.size) s.rest u.starts.tail) ∙ u.starts.whole in
              let same = (sized_apart s.kind u.starts.entry.kind s.size (length u.starts.entry.payload) (s.rest ++ u.starts.tail) u.starts.entry.payload s.sized u.starts.sized e).1 in
              let long : 5 ≤ length behind = omega (arith, ap length s.is, length-append (to_be_bytes w32 s.size) s.rest) in
              omega (arith, same, far, u.near long)

module _ (header : Header) (es : List Entry) (image : List ℕ) (near : gate_place es < JOURNAL_BYTES) where
  pub shut_holds : (gate : ℕ) (rest : List ℕ) → gate ≢ open_gate → Leads header es (gate ∷ rest) image → Holds header es image
  shut_holds gate rest shut leads = record { journal = record { gate = gate; rest = rest; shut = shut; leads = leads }; within = near }

  pub end_refused : Leads header es [] image → IsRefused image (length image)
  end_refused leads = Stopped no_growth no_journal (record {
    inside = omega arith;
    before = subst Begins (sym (take_all (length image) image (omega arith))) (record {
      header = header;
      entries = es;
      tail = 0 ∷ [];
      journal = record { gate = 0; rest = []; shut = omega arith; leads = leads_more header es [] (0 ∷ []) image leads };
    });
    ends = inl refl;
  })
    where
      empty : (more : List Entry) (x : ℕ) (y : List ℕ) → [] ≡ spelled more ++ (x ∷ y) → ⊥
      empty more x y e = omega (arith, ap length e, length-append (spelled more) (x ∷ y))

      no_journal : (other : Header) (fs : List Entry) → Holds other fs image → ⊥
      no_journal other fs h = elim ((one_front header other es fs [] (h.journal.gate ∷ h.journal.rest) image leads h.journal.leads).1) [
        | inl a ↦ empty a.more h.journal.gate h.journal.rest a.behind
        | inr a ↦ none (shut_ahead fs es h.journal.gate h.journal.rest [] h.journal.shut a).1
      ]
        where
          none : h.journal.gate ∷ h.journal.rest ≡ [] → ⊥
          none e = omega (arith, ap length e)

      no_growth : (at : ℕ) → Outgrows image at → ⊥
      no_growth at o = elim ((one_front header o.header es o.entries [] (open_gate ∷ kind_letter o.kind ∷ (to_be_bytes w32 o.size ++ o.rest)) image leads o.leads).1) [
        | inl a ↦ empty a.more open_gate (kind_letter o.kind ∷ (to_be_bytes w32 o.size ++ o.rest)) a.behind
        | inr a ↦ none (size_ahead o.entries es o.kind o.size o.rest [] o.sized leads.each a)
      ]
        where
          none : (es ≡ o.entries) × (open_gate ∷ kind_letter o.kind ∷ (to_be_bytes w32 o.size ++ o.rest) ≡ []) ⊎ (gate_place o.entries + 6 + o.size ≤ gate_place es) → ⊥
          none (inl e) = omega (arith, ap length e.1)
          none (inr far) = omega (arith, far, o.far, near)
