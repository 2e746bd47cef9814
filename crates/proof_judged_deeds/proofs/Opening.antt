-- An open of the manager, an operator's decision and a thread's work as steps of the judge.
use Rattle.std.proofs.Common.{◌≡◌, ℕ, Bool, true, false, not, Option, Some, None, List, [], ◌∷◌, length, Result, Ok, Err, refl, ap, sym, subst, ◌∙◌, inl, inr, arith}
use Rattle.std.specs.Prelude.{◌⊎◌, is_some, nat_eq, Contains, MatchResult, if◌then◌else◌}
use Rattle.std.proofs.lemmas.Bool.{false≢true}
use Rattle.std.proofs.lemmas.List.Elements.{Contains-append_right}
use Rattle.xa_codes.specs.declared.code.Code.{Code}
use Rattle.xa_words.specs.code
use Rattle.xa_codes.specs.declared.flags.Flags.{Flags}
use Rattle.xa_tables.specs.declared.call.Call.{Call}
use Rattle.xa_words.specs.call
use Rattle.xa_tables.specs.declared.states.InitState.{InitState}
use Rattle.xa_tables.specs.declared.states.InitState.TheVariants.{R0, R1}
use Rattle.xa_tables.specs.declared.states.AssocState.TheVariants.{T0, T1}
use Rattle.xa_tables.specs.declared.states.BranchState.{BranchState}
use Rattle.xa_tables.specs.declared.states.BranchState.TheVariants.{S3, S5}
use Rattle.xa_xid.specs.declared.xid.Xid.{Xid}
use Rattle.xa_branch.specs.Names.{same}
use Rattle.xa_branch.specs.Branches.{BranchList, state_in}
use Rattle.xa_assoc.specs.declared.states.States.{States}
use Rattle.std.specs.Map.{lookup}
use Rattle.xa_assoc.specs.Associations.{AreThreadsListedOnce, AssocList, is_holder}
use Rattle.xa_assoc.specs.Answers.{Opened, OpensManager, TakesTableRow}
use Rattle.xa_assoc.specs.Ready.{is_closed}
use Rattle.proof_xa.proofs.Reached.{bare_moved, empty_states}
use Rattle.protocol.specs.declared.names.Outcome.{Outcome}
use Rattle.protocol.specs.declared.names.Outcome.TheVariants.{Committed, Aborted}
use Rattle.judge_state.specs.declared.parts.JudgedBranch.{JudgedBranch}
use Rattle.judge_state.specs.declared.parts.JudgedDecision.{JudgedDecision}
use Rattle.judge_words.specs.decision
use Rattle.judge_state.specs.declared.parts.Link.{Link}
use Rattle.judge_state.specs.declared.parts.Listed.{Listed}
use Rattle.judge_words.specs.stand
use Rattle.judge_state.specs.Moves.{decided, is_prepared_at, opened, scans_without, standing}
use Rattle.judge_state.specs.Sights.{Sight}
use Rattle.judge_rules.specs.declared.calls.JudgedAnswer.{JudgedAnswer}
use Rattle.judge_words.specs.answer
use Rattle.judge_rules.specs.declared.calls.JudgedCall.{JudgedCall}
use Rattle.judge_rules.specs.declared.replies.Reply.{Reply}
use Rattle.judge_words.specs.reply
use Rattle.judge_rules.specs.Defects.{open_defects}
use Rattle.judge_rules.specs.Falls.{failed}
use Rattle.judge_rules.specs.Flags.{wrong_elsewhere}
use Rattle.judge_rules.specs.Passes.{one, one_if}
use Rattle.judge_rules.specs.Replies.{is_among, is_defective, reply_of}
use Rattle.judge_rules.specs.Scans.{write_row}
use Rattle.judge_rules.specs.Steps.{decide_next, may_fail, next, next_by, open_passes, open_rows, outcome}
use Rattle.proof_judged_deeds.specs.Names.{NameNumbers, lacks_forced}
use Rattle.proof_judged_deeds.proofs.Branches.{stood_branches}
use Rattle.proof_judged_deeds.proofs.Finishing.{HasTables, quiet_free, unheld, unmoved_free}
use Rattle.proof_judged_deeds.specs.Deeds.{decision_of, is_commit}
use Rattle.proof_judged_deeds.proofs.Flags.{AreRight, plain_async, plain_errs, plain_legal, plain_reads, plain_wrong}
use Rattle.proof_judged_deeds.proofs.Ledgers.{Carries, ledger}
use Rattle.proof_judged_deeds.proofs.Links.{Tied, is_one, is_two}
use Rattle.proof_judged_deeds.proofs.Losing.{AreLost, prepared_same}
use Rattle.proof_judged_deeds.proofs.Mirrors.{AreBranches, IsFree, IsOrderly, Mirrors, is_begun, is_quiet}
use Rattle.proof_judged_deeds.proofs.Orderly.{orderly_finished}
use Rattle.proof_judged_deeds.proofs.Scanning.{AreScans, scans_more, scans_stay}
use Rattle.proof_judged_deeds.proofs.Rows.{IsDefect, Inval, Async, first_in, has_code, in_else, in_if, in_then, is_clean, is_defect}

-- the judge goes on, by a call and its answer, to a state that is that of the tables after it
pub record Moves (n : NameNumbers) (s : Sight) (c : JudgedCall) (a : JudgedAnswer) (old new : States)
    (d : Xid → JudgedDecision) (l : Xid → Bool)
    : Type 0 where
  pub sight : Sight
  pub row : Contains (next lacks_forced s c a) sight
  pub mirrors : Mirrors n new d sight
  pub lost : AreLost n l sight.lost
  pub books : Carries n s sight (state_in old.branches.branches) (state_in new.branches.branches) c a

pub in_next : (s : Sight) (c : JudgedCall) (a : JudgedAnswer) (u : Sight) → s.hung ≡ false
    → Contains (next_by lacks_forced s c a) u
    → Contains (next lacks_forced s c a) u
in_next s c a u h row = in_else s.hung (one s) (next_by lacks_forced s c a) u h row

-- Opens.

open_told : (f : ℕ) (s : Sight) (a : Reply) → IsDefect (open_defects f) a
    → Contains (open_rows lacks_forced (open_defects f) true s a) s
open_told f s a h = Contains-append_right (if may_fail a then failed lacks_forced s a else [])
    (if is_defective (open_defects f) then one_if (is_among (open_defects f) a) s else open_passes true s a) s
    (in_then (is_defective (open_defects f)) (one_if (is_among (open_defects f) a) s) (open_passes true s a) s
    (is_defect (open_defects f) a h) (in_if (is_among (open_defects f) a) s (has_code (open_defects f) a h)))

open_made : (f : ℕ) (s : Sight) → AreRight wrong_elsewhere f
    → Contains (open_rows lacks_forced (open_defects f) true s reply.Ok) (opened true s)
open_made f s right = Contains-append_right (if may_fail reply.Ok then failed lacks_forced s reply.Ok else [])
    (if is_defective (open_defects f) then one_if (is_among (open_defects f) reply.Ok) s
    else open_passes true s reply.Ok)
    (opened true s)
    (in_else (is_defective (open_defects f)) (one_if (is_among (open_defects f) reply.Ok) s)
    (open_passes true s reply.Ok)
    (opened true s)
    (is_clean (open_defects f) (record {
      inval = right.right;
      asynchronous = right.sync;
      proto = refl;
      dup_id = refl;
      not_a = refl;
    })) (first_in (opened true s) []))

pub no_holders : (es : List (ℕ × Option Xid)) (t : ℕ) → length es ≡ 0 → is_some (lookup (nat_eq t) es) ≡ true
    → ⊥
no_holders [] t h k = false≢true k
no_holders (e ∷ es) t h k = omega arith

-- two lists of associations in which no thread has any are alike
free_tied : (n : NameNumbers) (a b : AssocList) (ls : List Link) (ms : List ℕ) → IsFree a → IsFree b
    → Tied n a ls ms
    → Tied n b ls ms
free_tied n a b ls ms none free tied = record {
  one = λ t x. tied.one t x ∙ ap is_one (none.0 t x ∙ sym (free.0 t x));
  two = λ t x. tied.two t x ∙ ap is_two (none.0 t x ∙ sym (free.0 t x));
  named = tied.named;
  moved = λ x. tied.moved x ∙ none.1 x ∙ sym (free.1 x);
  moved_named = tied.moved_named;
}

free_orderly : (bs : List (Xid × BranchState)) (a b : AssocList) → IsFree a → IsFree b
    → AreThreadsListedOnce b.holders
    → ((t : ℕ) → is_holder b t ≡ true → ⊥)
    → IsOrderly bs a → IsOrderly bs b
free_orderly bs a b none free once idle orderly = record {
  once = once;
  here = orderly.here;
  named = orderly.named;
  busy = λ x e. let w = orderly.busy x e in absurd (let f : T0 ≡ T1 = sym (none.0 w.0 x) ∙ w.1 in cc);
  quiet = λ t x e. free.0 t x;
  unmoved = λ x e. free.1 x;
  kept = λ t x. inl (free.0 t x);
  holding = λ t h. absurd (idle t h);
}

module _ (n : NameNumbers) (old new : States) (d : Xid → JudgedDecision) (s : Sight) (flags : Flags)
    (migrates : Bool) (c : Code)
    (mirrors : Mirrors n old d s) (once : AreThreadsListedOnce new.associations.holders) where
  abbrev Opens_so : Type 0
  Opens_so = (u : Sight) × Contains (open_rows lacks_forced (open_defects flags.0) true s (reply_of c)) u
      × Mirrors n new d u
      × (ledger u ≡ ledger s)

  -- the manager was closed
  from_closed : Opened old new migrates c → old.init ≡ R0 → Mirrors n new d (opened true s)
  from_closed h e =
      let none = mirrors.shut e in
      let bare = h.anew e in
      let free : IsFree new.associations =
      (λ t x. empty_states new.associations bare.0 bare.1 t x, λ x. bare_moved new.associations bare.0 x) in
      record {
        opened = sym (ap (λ i. not (is_closed i)) h.init);
        waits = mirrors.waits;
        tied = free_tied n old.associations new.associations s.links s.migrated none free mirrors.tied;
        branches = subst (λ (b : BranchList). AreBranches n (state_in b.branches) d s.branches)
            (sym h.branches) mirrors.branches;
        orderly = subst (λ (b : BranchList). IsOrderly b.branches new.associations) (sym h.branches)
            (free_orderly old.branches.branches old.associations new.associations none free once
            (λ t h. no_holders new.associations.holders t bare.0.holders h) mirrors.orderly);
        shut = λ q. free;
        scans = subst (λ (b : BranchList). AreScans n b.scans s.scans s.listed)
            (sym h.branches) mirrors.scans;
      }

  -- it was open
  again : Opened old new migrates c → old.init ≡ R1 → Mirrors n new d (opened true s)
  again h e = subst (λ (m : States). Mirrors n m d (opened true s)) (sym (h.again e)) (record {
    opened = sym (ap (λ i. not (is_closed i)) e);
    waits = mirrors.waits;
    tied = mirrors.tied;
    branches = mirrors.branches;
    orderly = mirrors.orderly;
    shut = mirrors.shut;
    scans = mirrors.scans;
  })

  by_init : (i : InitState) → old.init ≡ i → Opened old new migrates c → Mirrors n new d (opened true s)
  by_init R0 e h = from_closed h e
  by_init R1 e h = again h e

  open_by : (l : Result Call Code) → plain_legal call.Open flags.0 ≡ l
      → MatchResult l (λ k. Opened old new migrates c) (λ e. (c ≡ e) × (new ≡ old)) → Opens_so
  open_by (Ok k) e h = (
    opened true s,
    subst (λ (z : Code). Contains (open_rows lacks_forced (open_defects flags.0) true s (reply_of z))
        (opened true s))
        (sym h.answers) (open_made flags.0 s (plain_reads call.Open k flags.0 e).0),
    by_init old.init refl h,
    refl,
  )
  open_by (Err k) e h = (
    s,
    subst (λ (z : Code). Contains (open_rows lacks_forced (open_defects flags.0) true s (reply_of z)) s)
        (sym h.0)
        (told (plain_errs call.Open flags.0 k e)),
    subst (λ (m : States). Mirrors n m d s) (sym h.1) mirrors,
    refl,
  )
    where
      told : (k ≡ code.Inval) ⊎ (k ≡ code.Async)
          → Contains (open_rows lacks_forced (open_defects flags.0) true s (reply_of k)) s
      told (inl is) = subst (λ (z : Code). Contains
          (open_rows lacks_forced (open_defects flags.0) true s (reply_of z)) s)
          (sym is) (open_told flags.0 s reply.Inval
          (Inval (plain_wrong call.Open flags.0 (e ∙ ap (λ z. Err z) is))))
      told (inr is) = subst (λ (z : Code). Contains
          (open_rows lacks_forced (open_defects flags.0) true s (reply_of z)) s)
          (sym is) (open_told flags.0 s reply.Async
          (Async (plain_async call.Open flags.0 (e ∙ ap (λ z. Err z) is))))

  pub open_goes : OpensManager old new flags.0 migrates c → Opens_so
  open_goes h = open_by (plain_legal call.Open flags.0) refl h

-- Operators' decisions.

decide_mirrors : (n : NameNumbers) (old new : States) (d d' : Xid → JudgedDecision) (s u : Sight) (x : Xid)
    (c : JudgedDecision)
    → Mirrors n old d s → state_in old.branches.branches x ≡ S3 → TakesTableRow old new x S5 → d' x ≡ c
    → ((y : Xid) → same x y ≡ false → d' y ≡ d y) → u.opened ≡ s.opened → u.hung ≡ s.hung → u.links ≡ s.links
    → u.migrated ≡ s.migrated → u.branches ≡ standing (n.xid x) (stand.Heuristic c) s.branches
    → AreScans n old.branches.scans u.scans u.listed → Mirrors n new d' u
decide_mirrors n old new d d' s u x c mirrors q takes is others o w l m b scanned =
    let free = quiet_free n old d s x mirrors (ap is_quiet q) in
    record {
      opened = o ∙ mirrors.opened ∙ ap (λ i. not (is_closed i)) (sym takes.init);
      waits = w ∙ mirrors.waits;
      tied = subst (λ (a : AssocList). Tied n a u.links u.migrated) (sym takes.associations)
          (subst (λ (ls : List Link). Tied n old.associations ls u.migrated) (sym l)
          (subst (λ (ms : List ℕ). Tied n old.associations s.links ms) (sym m) mirrors.tied));
      branches = subst (λ (bs : List JudgedBranch). AreBranches n (state_in new.branches.branches) d' bs)
          (sym b)
          (stood_branches n (state_in old.branches.branches) (state_in new.branches.branches) d d' x S5
          (stand.Heuristic c)
          s.branches (record { own = takes.branch.own; others = takes.branch.others; decided = others })
          (ap (λ k. Some (stand.Heuristic k)) is) (ap is_begun q) refl mirrors.branches);
      orderly = subst (λ (a : AssocList). IsOrderly new.branches.branches a) (sym takes.associations)
          (orderly_finished n old.branches new.branches old.associations x S5 mirrors.orderly
          takes.branch refl
          (unheld old.associations x free) (unmoved_free old.associations x free));
      shut = λ e. subst IsFree (sym takes.associations) (mirrors.shut (sym takes.init ∙ e));
      scans = scans_stay n old.branches.scans new.branches.scans u.scans u.listed takes.branch.scans scanned;
    }

pub decide_goes : (n : NameNumbers) (old new : States) (d d' : Xid → JudgedDecision) (s : Sight)
    (x : Xid) (o : Outcome)
    → Mirrors n old d s → state_in old.branches.branches x ≡ S3 → TakesTableRow old new x S5
    → d' x ≡ decision_of o
    → ((y : Xid) → same x y ≡ false → d' y ≡ d y)
    → (u : Sight) × Contains (decide_next s (n.xid x) (is_commit o) answer.Done) u × Mirrors n new d' u
    × (u.lost ≡ s.lost)
    × (ledger u ≡ ledger (decided (n.xid x) (outcome (is_commit o)) s))
decide_goes n old new d d' s x Committed mirrors q takes is others = (
  decided (n.xid x) decision.Commit s,
  in_if (is_prepared_at (n.xid x) s) (decided (n.xid x) decision.Commit s)
      (prepared_same n old d s x mirrors q),
  decide_mirrors n old new d d' s (decided (n.xid x) decision.Commit s) x decision.Commit mirrors q takes is
      others refl refl
      refl refl refl
      (scans_more n (n.xid x) (scans_without (n.xid x) s.listed s.scans) old.branches.scans s.scans
      s.listed mirrors.scans),
  refl,
  refl,
)
decide_goes n old new d d' s x Aborted mirrors q takes is others = (
  decided (n.xid x) decision.Rollback s,
  in_if (is_prepared_at (n.xid x) s) (decided (n.xid x) decision.Rollback s)
      (prepared_same n old d s x mirrors q),
  decide_mirrors n old new d d' s (decided (n.xid x) decision.Rollback s) x decision.Rollback mirrors q
      takes is others refl
      refl refl refl refl
      (scans_more n (n.xid x) (scans_without (n.xid x) s.listed s.scans) old.branches.scans s.scans
      s.listed mirrors.scans),
  refl,
  refl,
)

-- A thread's work.

pub like_mirrors : (n : NameNumbers) (m : States) (d : Xid → JudgedDecision) (u s : Sight) → HasTables u s
    → Mirrors n m d s
    → Mirrors n m d u
like_mirrors n m d u s h mirrors = record {
  opened = h.opened ∙ mirrors.opened;
  waits = h.waits ∙ mirrors.waits;
  tied = subst (λ (ls : List Link). Tied n m.associations ls u.migrated) (sym h.links)
      (subst (λ (ms : List ℕ). Tied n m.associations s.links ms) (sym h.migrated) mirrors.tied);
  branches = subst (λ (bs : List JudgedBranch). AreBranches n (state_in m.branches.branches) d bs)
      (sym h.branches)
      mirrors.branches;
  orderly = mirrors.orderly;
  shut = mirrors.shut;
  scans = subst (λ (ts : List ℕ). AreScans n m.branches.scans ts u.listed) (sym h.scans)
      (subst (λ (ls : List Listed). AreScans n m.branches.scans s.scans ls) (sym h.listed) mirrors.scans);
}

-- a write leaves the tables
pub written_tables : (o : Option ℕ) (t k v : ℕ) (s : Sight) → HasTables (write_row o t k v s) s
written_tables None t k v s = record {
  opened = refl;
  waits = refl;
  links = refl;
  migrated = refl;
  branches = refl;
  scans = refl;
  listed = refl;
}
written_tables (Some x) t k v s = record {
  opened = refl;
  waits = refl;
  links = refl;
  migrated = refl;
  branches = refl;
  scans = refl;
  listed = refl;
}
