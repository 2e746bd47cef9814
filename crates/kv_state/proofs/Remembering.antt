-- What is remembered of a log, and read on from.
use Rattle.std.proofs.Common.{◌≡◌, ◌∙◌, ◌⊎◌, inl, inr, ℕ, Bool, true, false, ◌||◌, cond, Option, Some, None, is_some, List, [], ◌∷◌, map, refl, sym, ap, subst, arith}
use Rattle.std.specs.Map.{lookup}
use Rattle.xa_xid.specs.declared.xid.Xid.{Xid}
use Rattle.protocol.specs.declared.records.LogRecord.{LogRecord}
use Rattle.protocol.specs.Store.{data_of, stored}
use Rattle.log_rules.specs.order.Orders.{SeenLog, nothing_seen, same}
use Rattle.kv_state.specs.Replays.{ReplayLeaves, seen_after}
use Rattle.kv_store.specs.Pairs.{ArePairsOf, AreSet, found_in, keys_rise}
use Rattle.kv_store.specs.Versions.{VersionTable}
use Rattle.kv_store.proofs.Pairs.{same_pairs}
use Rattle.xa_branch.specs.declared.decision.Decision.{Decision}
use Rattle.xa_branch.specs.Cases.{DecisionTable, NotesDecision, SameDecisions, decision_in, decision_or, open_cases}
use Rattle.kv_state.specs.Decisions.{KnowDecided}
use Rattle.kv_state.specs.Remembered.{LeavesNow, LogMemory, ReadsNow, RemembersData}
use Rattle.kv_state.specs.declared.replayed.Replayed.{Replayed}
use Rattle.kv_state.proofs.Lawful.{lawful_of}
use Rattle.kv_state.proofs.Lookups.{apart_turns, same_is, true_is_false}
use Rattle.kv_state.proofs.Noting.{nothing_decided}

-- Decisions are copied.

-- the branch is one of these
abbrev pub is_listed : Xid → List Xid → Bool
is_listed x [] = false
is_listed x (k ∷ ks) = same x k || is_listed x ks

-- with the decisions of these branches still to be copied
pub record IsCopying (t : DecisionTable) (rest : List Xid) (copy : DecisionTable) : Type 0 where
  pub each : (x : Xid)
      → (decision_in copy x ≡ decision_in t x) ⊎ ((decision_in copy x ≡ None) × (is_listed x rest ≡ true))

-- a branch of which nothing is decided, or that is listed
listed_or_none : (x : Xid) (es : List (Xid × Decision))
    → (lookup (same x) es ≡ None) ⊎ (is_listed x (map (λ (e : Xid × Decision). e.0) es) ≡ true)
listed_or_none x [] = inl refl
listed_or_none x (e ∷ es) = by_test (same x e.0) (listed_or_none x es)
  where
    by_test : (b : Bool)
        → (lookup (same x) es ≡ None) ⊎ (is_listed x (map (λ (e : Xid × Decision). e.0) es) ≡ true)
        → (cond b (Some e.1) (lookup (same x) es) ≡ None)
        ⊎ ((b || is_listed x (map (λ (e : Xid × Decision). e.0) es)) ≡ true)
    by_test true rest = inr refl
    by_test false rest = rest

pub copying_starts : (t copy : DecisionTable) → copy.decisions ≡ [] → IsCopying t (open_cases t) copy
copying_starts t copy none = record {
  each = λ x. elim (listed_or_none x t.decisions) [
    | inl out ↦ inl (ap (lookup (same x)) none ∙ sym out)
    | inr listed ↦ inr (ap (lookup (same x)) none, listed)
  ];
}

module _ (t : DecisionTable) (k : Xid) (rest : List Xid) (copy : DecisionTable)
    (copying : IsCopying t (k ∷ rest) copy) where
  -- a branch that is not the next one is among the rest
  among_rest : (x : Xid) → same x k ≡ false → is_listed x (k ∷ rest) ≡ true → is_listed x rest ≡ true
  among_rest x apart listed = sym (ap (λ b. b || is_listed x rest) apart) ∙ listed

  pub copying_goes_on : (new : DecisionTable) (d : Decision) → decision_in t k ≡ Some d
      → NotesDecision copy new k (Some d)
      → IsCopying t rest new
  copying_goes_on new d found notes = record { each = λ x. by_test x (same k x) refl }
    where
      by_test : (x : Xid) (b : Bool) → same k x ≡ b
          → (decision_in new x ≡ decision_in t x) ⊎ ((decision_in new x ≡ None) × (is_listed x rest ≡ true))
      by_test x true is = inl (subst (λ y. decision_in new y ≡ decision_in t y) (same_is k x is)
          (notes.own ∙ sym found))
      by_test x false is = elim (copying.each x) [
        | inl one ↦ inl (notes.others x is ∙ one)
        | inr out ↦ inr (notes.others x is ∙ out.0, among_rest x (apart_turns k x is) out.1)
      ]

  pub copying_passes : decision_in t k ≡ None → IsCopying t rest copy
  copying_passes none = record { each = λ x. by_test x (same x k) refl (copying.each x) }
    where
      by_test : (x : Xid) (b : Bool) → same x k ≡ b
          → (decision_in copy x ≡ decision_in t x)
          ⊎ ((decision_in copy x ≡ None) × (is_listed x (k ∷ rest) ≡ true))
          → (decision_in copy x ≡ decision_in t x) ⊎ ((decision_in copy x ≡ None) × (is_listed x rest ≡ true))
      by_test x b is (inl one) = inl one
      by_test x true is (inr out) =
          inl (out.0 ∙ sym (subst (λ y. decision_in t y ≡ None) (sym (same_is x k is)) none))
      by_test x false is (inr out) = inr (out.0, among_rest x is out.1)

pub copying_ends : (t copy : DecisionTable) → IsCopying t [] copy → SameDecisions t copy
copying_ends t copy copying = λ x. elim (copying.each x) [
  | inl one ↦ one
  | inr out ↦ true_is_false (sym out.1)
]

-- what is known of the decisions is known of their copy
pub know_copied : (ls : List LogRecord) (t copy : DecisionTable) → SameDecisions t copy → KnowDecided ls t
    → KnowDecided ls copy
know_copied ls t copy alike know = record {
  each = λ x. ap decision_or (alike x) ∙ know.each x;
  known = λ x says. ap is_some (alike x) ∙ know.known x says;
}

-- What is remembered.

-- of no records
pub remembers_nothing : (m : LogMemory) → m.seen ≡ nothing_seen → m.decisions.decisions ≡ [] → m.count ≡ 0
    → m.pairs ≡ [] → RemembersData [] m
unfolding seen_after stored
remembers_nothing m seen decided count pairs = record {
  read = ap Some (sym seen);
  decided = nothing_decided m.decisions decided;
  count = count;
  pairs = pairs;
  counted = omega arith;
}

-- the data that the pairs set are those of the records
pub remembered_data : (ls : List LogRecord) (m : LogMemory) (v : VersionTable) (ps : List (List ℕ × List ℕ))
    → ps ≡ m.pairs → RemembersData ls m → AreSet v m.count ps → (keys_rise ps ≡ true → ArePairsOf v ps)
    → ReadsNow ls m.seen v
remembered_data ls m v ps alike is set of =
    let rise : keys_rise ps ≡ true =
    ap keys_rise (alike ∙ is.pairs) ∙ (lawful_of ls m.seen is.read).tied.rise in
    record {
      read = is.read;
      stored = record {
        count = set.count ∙ is.count;
        unstaged = set.unstaged;
        values = λ k. sym ((of rise).values k) ∙ ap (λ qs. found_in qs k) (alike ∙ is.pairs);
      };
      counted = is.counted;
    }

-- what was read is to be remembered
pub remembers_read : (ls : List LogRecord) (s : SeenLog) (v : VersionTable) (m : LogMemory) → ReadsNow ls s v
    → m.seen ≡ s → KnowDecided ls m.decisions → m.count ≡ v.count → ArePairsOf v m.pairs → RemembersData ls m
remembers_read ls s v m reads seen decided count pairs = record {
  read = reads.read ∙ ap Some (sym seen);
  decided = decided;
  count = count ∙ reads.stored.count;
  pairs = same_pairs m.pairs (data_of ls).pairs pairs.rise (lawful_of ls s reads.read).tied.rise
      (λ k. pairs.values k ∙ reads.stored.values k);
  counted = reads.counted;
}

-- what records leave, but for what the data were before
pub leaves_now : (ls : List LogRecord) (r : Replayed)
    → ReplayLeaves ls r.boot r.left.items r.data r.writes r.locks r.decisions → LeavesNow ls r
leaves_now ls r leaves = record {
  seen = leaves.seen;
  read = leaves.read;
  boots = leaves.boots;
  in_doubt = leaves.in_doubt;
  stored = leaves.stored;
  counted = leaves.counted;
  promises = leaves.promises;
  locks_held = leaves.locks_held;
  decided = leaves.decided;
}
