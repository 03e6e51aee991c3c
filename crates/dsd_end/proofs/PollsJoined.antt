-- Polls, one after another.
use Rattle.std.proofs.Common.{◌≡◌, ℕ, ◌+◌, ◌≤◌, ◌<◌, false, List, [], ◌∷◌, ◌++◌, length, Option, Some, None, refl, sym, ◌∙◌, ap, subst, arith, append_assoc, append-nil, length-append}
use Rattle.dex_handshake.specs.declared.session_end.SessionEnd.{SessionEnd}
use Rattle.dex_handshake.specs.LineTable.{Line, Ready, Bidding, Awaiting, SentAll, InText, Finished, Ended}
use Rattle.dsd_record.specs.Choices.{Chooser}
use Rattle.dsd_station.specs.Told.{Told}
use Rattle.dsd_station.specs.declared.call.Call.{Call}
use Rattle.dsd_station.specs.declared.call.Reception.{Reception}
use Rattle.dsd_end.specs.EndSeen.{turn_at}
use Rattle.dsd_end.specs.FullTurns.{HearsFull, PollFull, RunFull}
use Rattle.dsd_end.specs.Patience.{CostsPatience, patience}
use Rattle.dsd_end.specs.PollStep.{Along, Done, Next, bytes_of, joined, nothing}
use Rattle.dsd_end.specs.Polls.{HearsAndSays, HearsMore, HearsOnce, Polled, PolledAlong}
use Rattle.dsd_end.specs.PollsHeard.{receptions_of}
use Rattle.dsd_end.specs.Standings.{Standing, has_ended}
use Rattle.dsd_end.specs.declared.end.Turn.TheVariants as turns
use Rattle.dsd_end.proofs.Polling.{along_more, joined_nothing}
use Rattle.dsd_end.proofs.RunsComing.{gone_joined}

receptions_more : (one more : List (Option Reception)) → receptions_of (one ++ more) ≡ receptions_of one ++ receptions_of more
receptions_more [] more = refl
receptions_more (None ∷ one) more = receptions_more one more
receptions_more (Some reception ∷ one) more = ap (λ (l : List Reception). reception ∷ l) (receptions_more one more)

along_one : (chooser : Chooser) (standing : Standing) (heard : Option Reception) (done : Done) → Next chooser standing heard done → Along chooser standing (heard ∷ []) done
along_one chooser standing heard done next = (done, nothing done.standing, next, refl, sym (joined_nothing done))

-- some polls so far, and the patience that is left
pub record PolledSoFar (tells : Type 0) (chooser : Chooser) (old now : Standing) (before at : Told) : Type 0 where
  pub polls : List (Option Reception)
  pub left : length polls + patience now ≤ patience old
  pub done : Done
  pub along : Along chooser old polls done
  pub comes : done.standing ≡ now
  pub told : tells → HearsAndSays (receptions_of polls) done before at

module _ (tells : Type 0) (chooser : Chooser) (old : Standing) (before : Told) where
  pub so_far_none : PolledSoFar tells chooser old old before before
  so_far_none = record {
    polls = [];
    left = omega arith;
    done = nothing old;
    along = refl;
    comes = refl;
    told = λ t. record { listened = sym (append-nil before.heard); gone = sym (append-nil before.now.gone); syncs = omega arith };
  }

  module _ (now next : Standing) (at after : Told) (s : PolledSoFar tells chooser old now before at) (p : Polled tells chooser now next at after) where
    all : List (Option Reception)
    all = s.polls ++ p.heard ∷ []

    along_all : Along chooser old (s.polls ++ p.heard ∷ []) (joined s.done p.done)
    along_all = along_more chooser old s.polls (p.heard ∷ []) s.done p.done s.along
        (subst (λ (x : Standing). Along chooser x (p.heard ∷ []) p.done) (sym s.comes) (along_one chooser now p.heard p.done p.next))

    told_all : tells → HearsAndSays (receptions_of (s.polls ++ p.heard ∷ [])) (joined s.done p.done) before after
    told_all t =
        let a = s.told t in
        let b = p.told t in
        record {
          listened = b.listened ∙ ap (λ (l : List Reception). l ++ receptions_of (p.heard ∷ [])) a.listened
              ∙ append_assoc before.heard (receptions_of s.polls) (receptions_of (p.heard ∷ [])) ∙ ap (λ (l : List Reception). before.heard ++ l) (sym (receptions_more s.polls (p.heard ∷ [])));
          gone = b.gone ∙ ap (λ (l : List ℕ). l ++ bytes_of p.done) a.gone ∙ sym (gone_joined before.now.gone s.done p.done);
          syncs = omega (arith, a.syncs, b.syncs, length-append s.done.loads p.done.loads);
        }

    -- the session goes on
    pub so_far_more : CostsPatience now next → has_ended next.line ≡ false → PolledSoFar tells chooser old next before after
    so_far_more costs on =
        let less = costs.less on in
        record {
          polls = s.polls ++ p.heard ∷ [];
          left = omega (arith, s.left, less, length-append s.polls (p.heard ∷ []));
          done = joined s.done p.done;
          along = along_all;
          comes = p.comes;
          told = told_all;
        }

    -- or this was the last poll, for which there was patience
    pub so_far_to : 0 < patience now → PolledAlong tells chooser old next before after
    so_far_to some =
        record {
          polls = s.polls ++ p.heard ∷ [];
          most = omega (arith, s.left, some, length-append s.polls (p.heard ∷ []));
          done = joined s.done p.done;
          along = along_all;
          comes = p.comes;
          told = told_all;
        }

    pub so_far_last : CostsPatience now next → PolledAlong tells chooser old next before after
    so_far_last costs = so_far_to costs.some

-- ---- what was heard

pub hears_none : (told : Told) → HearsMore told told
hears_none told = record {
  more = [];
  keeps = record { journal_name = refl; port_name = refl; heard = sym (append-nil told.heard); plan = refl; syncs = omega arith; goes = record { more = []; calls = sym (append-nil told.calls) } };
}

pub hears_then : (a b c : Told) → HearsMore a b → HearsOnce b c → HearsMore a c
hears_then a b c x y = record {
  more = x.more ++ y.more;
  keeps = record {
    journal_name = y.keeps.journal_name ∙ x.keeps.journal_name;
    port_name = y.keeps.port_name ∙ x.keeps.port_name;
    heard = y.keeps.heard ∙ ap (λ (l : List Reception). l ++ y.more) x.keeps.heard ∙ append_assoc a.heard x.more y.more;
    plan = y.keeps.plan ∙ x.keeps.plan;
    syncs = omega (arith, x.keeps.syncs, y.keeps.syncs);
    goes = record {
      more = x.keeps.goes.more ++ y.keeps.goes.more;
      calls = y.keeps.goes.calls ∙ ap (λ (l : List Call). l ++ y.keeps.goes.more) x.keeps.goes.calls ∙ append_assoc a.calls x.keeps.goes.more y.keeps.goes.more;
    };
  };
}

-- ---- what a poll answers

pub running_goes : (line : Line) → turns.Running ≡ turn_at line → has_ended line ≡ false
running_goes (Ended end) e = absurd (cc)
running_goes (Ready own) e = refl
running_goes (Bidding own load) e = refl
running_goes (Awaiting own sending) e = refl
running_goes (SentAll own) e = refl
running_goes (InText own taking) e = refl
running_goes (Finished own text) e = refl

pub ended_line : (line : Line) (end : SessionEnd) → turns.Ended end ≡ turn_at line → line ≡ Ended end
ended_line (Ended other) end e = ap (λ (x : SessionEnd). Ended x) (sym (same end other e))
  where
    same : (a b : SessionEnd) → turns.Ended a ≡ turns.Ended b → a ≡ b
    same a b e = cc
ended_line (Ready own) end e = absurd (cc)
ended_line (Bidding own load) end e = absurd (cc)
ended_line (Awaiting own sending) end e = absurd (cc)
ended_line (SentAll own) end e = absurd (cc)
ended_line (InText own taking) end e = absurd (cc)
ended_line (Finished own text) end e = absurd (cc)

-- the journal was full at a poll behind those so far
pub so_far_full : (tells : Type 0) (chooser : Chooser) (old now : Standing) (before at after : Told) (n : ℕ) → PolledSoFar tells chooser old now before at → PollFull tells chooser now at after n → RunFull chooser old n
so_far_full tells chooser old now before at after n s full =
    record { polls = s.polls; done = s.done; along = s.along; heard = full.heard; full = subst (λ (x : Standing). HearsFull chooser x full.heard n) (sym s.comes) full.full }
