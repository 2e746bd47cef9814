-- What all processes leave stands for one run.
use Rattle.std.proofs.Common.{◌≡◌, ◌∙◌, ◌+◌, ◌<◌, sym, ap, subst, refl, ℕ, Bool, true, false, if◌then◌else◌, ◌||◌, inl, inr, Option, Some, None, is_some, List, [], ◌∷◌, ◌++◌, map, length, get_or, take, All, slice_set}
use Rattle.std.proofs.lemmas.List.{set-get_or, take_more}
use Rattle.std.proofs.lemmas.List.Elements.{All-push}
use Rattle.protocol.specs.declared.names.ProcessId.{ProcessId}
use Rattle.protocol.specs.declared.events.JournalEntry.{JournalEntry}
use Rattle.protocol.specs.declared.records.LogRecord.{LogRecord}
use Rattle.protocol.specs.declared.trees.TreeProcess.{TreeProcess}
use Rattle.protocol.specs.Names.{same_process}
use Rattle.protocol.specs.NameLaws.{same_process_tells}
use Rattle.protocol.specs.Nodes.{Node, is_listed}
use Rattle.protocol.specs.Trees.{IsTree}
use Rattle.protocol.specs.World.{entries_of, made_by}
use Rattle.resource_manager.specs.Data.{ManagerData}
use Rattle.process_state.specs.States.{CoreState}
use Rattle.process_state.specs.Turns.{this_version}
use Rattle.proof_cuts.specs.Alone.{MadeTogether, RunsAlone}
use Rattle.tree_state.specs.Cuts.{IsCut, net_of}
use Rattle.proof_cuts.specs.Owns.{CutHolds, IsAtEnd, OwnRun}
use Rattle.proof_cuts.proofs.Alone.{alone_is_together}
use Rattle.proof_cuts.proofs.Cuts.{made_by_all, runs_are_cut, self}
use Rattle.proof_cuts.proofs.Owns.{ends_modelled}
use Rattle.cluster_ties.specs.Views.{entries_in}
use Rattle.cluster_process.specs.Locked.{LeavesLog}
use Rattle.cluster_process.specs.Passes.{PassState}
use Rattle.cluster_tree.specs.Closing.{AreMet, IsClosed, IsMet, LeaveLogs, log_by}
use Rattle.cluster_tree.proofs.Apart.{Apart, tree_apart}

-- what a process keeps, and its data
pub record Kept : Type 0 where
  pub core : CoreState
  pub held : ManagerData

-- the first of these that is there, or else this one
abbrev kept_or : Kept → Option Kept → Kept
kept_or d None = d
kept_or d (Some k) = k

abbrev core_some : Option Kept → Option CoreState
core_some None = None
core_some (Some k) = Some k.core

module _ (tree : List TreeProcess) (xs : List JournalEntry) where
  -- what the process keeps, by the first entry of its name
  pub kept_in : (es : List TreeProcess) (ls : List (List LogRecord)) → LeaveLogs tree xs es ls → ProcessId
      → Option Kept
  kept_in [] [] h q = None
  kept_in [] (l ∷ ls) h q = None
  kept_in (e ∷ es) [] h q = None
  kept_in (e ∷ es) (l ∷ ls) h q =
      if same_process e.id q then Some (record { core = h.0.core; held = h.0.held }) else kept_in es ls h.1 q

  listed_in : (es : List TreeProcess) (ls : List (List LogRecord)) (h : LeaveLogs tree xs es ls)
      (q : ProcessId) → is_some (kept_in es ls h q) ≡ is_listed es q
  unfolding is_listed kept_in
  listed_in [] [] h q = refl
  listed_in [] (l ∷ ls) h q = absurd h
  listed_in (e ∷ es) [] h q = absurd h
  listed_in (e ∷ es) (l ∷ ls) h q = by_test (same_process e.id q) (listed_in es ls h.1 q)
    where
      by_test : (b : Bool) → is_some (kept_in es ls h.1 q) ≡ is_listed es q
          → is_some (if b then Some (record { core = h.0.core; held = h.0.held }) else kept_in es ls h.1 q)
          ≡ (b || is_listed es q)
      by_test true rest = refl
      by_test false rest = rest

  some_one : (a b : Kept) → Some a ≡ Some b → a ≡ b
  some_one a b h = cc

  -- what is known of it
  abbrev Fact : ProcessId → Kept → Type 0
  Fact q k = OwnRun tree q (entries_of q xs) k.core × RunsAlone tree q (entries_of q xs) k.core k.held

  fact_in : (es : List TreeProcess) (ls : List (List LogRecord)) (h : LeaveLogs tree xs es ls)
      (q : ProcessId) (k : Kept) → kept_in es ls h q ≡ Some k → Fact q k
  unfolding kept_in
  fact_in [] [] h q k at = absurd (cc)
  fact_in [] (l ∷ ls) h q k at = absurd h
  fact_in (e ∷ es) [] h q k at = absurd h
  fact_in (e ∷ es) (l ∷ ls) h q k at =
      let mine : Kept = record { core = h.0.core; held = h.0.held } in
      elim (same_process_tells e.id q) [
        | inl t ↦
            let is : mine ≡ k = some_one mine k
            (sym (ap (λ b. if b then Some mine else kept_in es ls h.1 q) t.0) ∙ at) in
            subst (λ p. Fact p k) t.1 (subst (λ d. Fact e.id d) is (h.0.own, h.0.alone))
        | inr z ↦ fact_in es ls h.1 q k
            (sym (ap (λ b. if b then Some mine else kept_in es ls h.1 q) z.0) ∙ at)
      ]

  -- the logs are those of what each process keeps
  logs_in : (es : List TreeProcess) (ls : List (List LogRecord)) (h : LeaveLogs tree xs es ls)
      (f : ProcessId → Option CoreState) → Apart es
      → ((q : ProcessId) → is_listed es q ≡ true → f q ≡ core_some (kept_in es ls h q))
      → ls ≡ map (λ e. log_by (f e.id)) es
  unfolding is_listed kept_in same_process
  logs_in [] [] h f apart agree = refl
  logs_in [] (l ∷ ls) h f apart agree = absurd h
  logs_in (e ∷ es) [] h f apart agree = absurd h
  logs_in (e ∷ es) (l ∷ ls) h f apart agree =
      let own : Kept = record { core = h.0.core; held = h.0.held } in
      let mine : f e.id ≡ Some h.0.core =
      agree e.id (ap (λ b. b || is_listed es e.id) (self e.id))
      ∙ ap (λ b. core_some (if b then Some own else kept_in es ls h.1 e.id)) (self e.id) in
      let rest = logs_in es ls h.1 f apart.1 (λ q there. elim (same_process_tells e.id q) [
        | inl t ↦ absurd (unlisted there (ap (is_listed es) (sym t.1) ∙ apart.0))
        | inr z ↦ agree q (or_true (same_process e.id q) (is_listed es q) there)
            ∙ ap (λ b. core_some (if b then Some own else kept_in es ls h.1 q)) z.0
      ]) in
      ap (λ t. l ∷ t) rest ∙ ap (λ t. t ∷ map (λ y. log_by (f y.id)) es) (h.0.log_is ∙ sym (ap log_by mine))
    where
      unlisted : {b : Bool} → b ≡ true → b ≡ false → ⊥
      unlisted h k = cc

      or_true : (b c : Bool) → c ≡ true → (b || c) ≡ true
      or_true true c h = refl
      or_true false c h = h

  -- what each process keeps, and this where there is none
  module _ (d : Kept) (ls : List (List LogRecord)) (h : LeaveLogs tree xs tree ls) where
    abbrev pub core_at : ProcessId → CoreState
    core_at q = (kept_or d (kept_in tree ls h q)).core

    abbrev pub held_at : ProcessId → ManagerData
    held_at q = (kept_or d (kept_in tree ls h q)).held

    fact_or : (q : ProcessId) (o : Option Kept) → is_some o ≡ true → ((k : Kept) → o ≡ Some k → Fact q k)
        → Fact q (kept_or d o)
    fact_or q None is facts = absurd (cc)
    fact_or q (Some k) is facts = facts k refl

    pub fact_at : (q : ProcessId) → is_listed tree q ≡ true → Fact q (kept_or d (kept_in tree ls h q))
    fact_at q is = fact_or q (kept_in tree ls h q) (listed_in tree ls h q ∙ is) (fact_in tree ls h q)

    some_or : (o : Option Kept) → is_some o ≡ true → Some (kept_or d o).core ≡ core_some o
    some_or None is = absurd (cc)
    some_or (Some k) is = refl

    pub some_at : (q : ProcessId) → is_listed tree q ≡ true
        → Some (core_at q) ≡ core_some (kept_in tree ls h q)
    some_at q is = some_or (kept_in tree ls h q) (listed_in tree ls h q ∙ is)

    pub logs_at : (f : ProcessId → Option CoreState) → IsTree tree
        → ((q : ProcessId) → is_listed tree q ≡ true → f q ≡ Some (core_at q))
        → ls ≡ map (λ e. log_by (f e.id)) tree
    logs_at f is_tree agree =
        logs_in tree ls h f (tree_apart tree is_tree) (λ q is. agree q is ∙ some_at q is)

-- a run of the whole tree falls apart by process
cut_of : (tree : List TreeProcess) (xs : List JournalEntry) (h : CutHolds tree xs) → IsCut tree xs h.world.at
cut_of tree xs h = record {
  moves = λ q. made_by q h.moves;
  made = λ q. (runs_are_cut tree h.moves h.world h.is_run q).0;
  by_this = made_by_all this_version h.moves h.by_this;
  shown = λ q. (runs_are_cut tree h.moves h.world h.is_run q).1 ∙ ap (entries_of q) h.are_entries;
  given = h.given;
}

-- the state that a tree on one thread comes to has them all
at_end : (tree : List TreeProcess) (xs : List JournalEntry) (core : ProcessId → CoreState)
    (held : ProcessId → ManagerData)
    (left : ProcessId → Node) → IsCut tree xs left → (again : MadeTogether tree xs core held)
    → ((q : ProcessId) → is_listed tree q ≡ true → OwnRun tree q (entries_of q xs) (core q))
    → IsAtEnd again.end left
at_end tree xs core held left cut again own = record {
  cut = subst (λ t. IsCut t again.end.entries left) (sym again.tree_is)
      (subst (λ l. IsCut tree l left) (sym again.entries) cut);
  net = again.net ∙ ap net_of (sym again.entries);
  listed = λ q. listed_by q (is_listed tree q) refl ∙ ap (λ t. is_listed t q) (sym again.tree_is);
  own = λ q c at. subst (λ t. OwnRun t q (entries_of q again.end.entries) c) (sym again.tree_is)
      (subst (λ l. OwnRun tree q (entries_of q l) c) (sym again.entries)
      (own_by q (is_listed tree q) refl c at));
}
  where
    listed_by : (q : ProcessId) (b : Bool) → is_listed tree q ≡ b
        → is_some (again.end.node_at q) ≡ is_listed tree q
    listed_by q true is = ap is_some (again.nodes q is) ∙ sym is
    listed_by q false is = ap is_some (again.listed q is) ∙ sym is

    some_core : (a b : CoreState) → Some a ≡ Some b → a ≡ b
    some_core a b h = cc

    nothing : (c : CoreState) → None ≡ Some c → ⊥
    nothing c h = cc

    own_by : (q : ProcessId) (b : Bool) → is_listed tree q ≡ b → (c : CoreState)
        → again.end.node_at q ≡ Some c
        → OwnRun tree q (entries_of q xs) c
    own_by q true is c at =
        subst (λ d. OwnRun tree q (entries_of q xs) d)
        (some_core (core q) c (sym (again.nodes q is) ∙ at)) (own q is)
    own_by q false is c at = absurd (nothing c (sym (again.listed q is) ∙ at))

-- a closed cluster, of which some process keeps this
closes_with : (d : Kept) (tree : List TreeProcess) (journal : List (ℕ × JournalEntry))
    (logs : List (List LogRecord))
    → IsTree tree → CutHolds tree (entries_in journal) → LeaveLogs tree (entries_in journal) tree logs
    → IsClosed tree journal logs
closes_with d tree journal logs is_tree run left =
    let xs = entries_in journal in
    let core = core_at tree xs d logs left in
    let held = held_at tree xs d logs left in
    let fact = fact_at tree xs d logs left in
    let again = alone_is_together tree xs core held run.given (λ q is. (fact q is).1) in
    let cut = cut_of tree xs run in
    let is_tree' = subst IsTree (sym again.tree_is) is_tree in
    record {
      run = run;
      start = again.start;
      state = again.end;
      events = again.events;
      opens = again.opens;
      ask = again.ask;
      leads = again.leads;
      tree_is = again.tree_is;
      entries_are = again.entries;
      modelled = ends_modelled again.end run.world.at is_tree'
          (at_end tree xs core held run.world.at cut again (λ q is. (fact q is).0));
      logs_are = logs_at tree xs d logs left again.end.node_at is_tree again.nodes;
    }

-- a closed cluster
pub closes : (tree : List TreeProcess) (journal : List (ℕ × JournalEntry)) (logs : List (List LogRecord))
    → IsTree tree
    → CutHolds tree (entries_in journal) → LeaveLogs tree (entries_in journal) tree logs
    → IsClosed tree journal logs
closes [] journal logs is_tree run left = absurd (never is_tree.not_empty)
  where
    never : true ≡ false → ⊥
    never h = cc
closes (e ∷ es) journal [] is_tree run left = absurd left
closes (e ∷ es) journal (l ∷ ls) is_tree run left =
    closes_with (record { core = left.0.core; held = left.0.held }) (e ∷ es) journal (l ∷ ls) is_tree run left

-- the logs of one process more
pub leave_more : (tree : List TreeProcess) (xs : List JournalEntry) (es : List TreeProcess)
    (ls : List (List LogRecord))
    (e : TreeProcess) (l : List LogRecord) → LeaveLogs tree xs es ls
    → LeavesLog tree xs e.id l
    → LeaveLogs tree xs (es ++ e ∷ []) (ls ++ l ∷ [])
leave_more tree xs [] [] e l h one = (one, tt)
leave_more tree xs [] (k ∷ ls) e l h one = absurd h
leave_more tree xs (d ∷ es) [] e l h one = absurd h
leave_more tree xs (d ∷ es) (k ∷ ls) e l h one = (h.0, leave_more tree xs es ls e l h.1 one)

-- the log of the process at this place, after those before it
pub leave_at : (tree : List TreeProcess) (xs : List JournalEntry) (es : List TreeProcess)
    (ls more : List (List LogRecord)) (i : ℕ)
    (e : TreeProcess) (l : List LogRecord) → i < length es → e ≡ get_or es i e → more ≡ ls ++ l ∷ []
    → LeavesLog tree xs e.id l → LeaveLogs tree xs (take i es) ls → LeaveLogs tree xs (take (i + 1) es) more
leave_at tree xs es ls more i e l lt is pushed one h =
    rw (take_more es i e lt, ← is) (subst (λ ms. LeaveLogs tree xs (take i es ++ e ∷ []) ms) (sym pushed)
    (leave_more tree xs (take i es) ls e l h one))

-- what a cluster leaves that has met its passes, placed its entries and gathered its logs
pub closed : (tree listed : List TreeProcess) (met left placed journal : List (ℕ × JournalEntry))
    (logs : List (List LogRecord)) (passes : List PassState) → IsTree tree → listed ≡ tree → left ≡ met
    → placed ≡ left → journal ≡ placed → CutHolds tree (entries_in journal)
    → LeaveLogs tree (entries_in left) listed logs → AreMet met passes
    → IsClosed tree journal logs × AreMet journal passes
closed tree listed met left placed journal logs passes is_tree same behind stay given run logged meets =
    let all : left ≡ journal = sym (given ∙ stay) in (
      closes tree journal logs is_tree run
          (subst (λ xs. LeaveLogs tree (entries_in xs) tree logs) all
          (subst (λ es. LeaveLogs tree (entries_in left) es logs) same logged)),
      subst (λ xs. AreMet xs passes) (sym behind ∙ all) meets,
    )

-- passes of which one is put back as it was
pub same_put : (ps : List PassState) (i : ℕ) (d new : PassState) → new ≡ get_or ps i d
    → slice_set ps i new ≡ ps
same_put ps i d new same = ap (slice_set ps i) same ∙ set-get_or ps i d

-- one pass more is met
pub met_more : (journal : List (ℕ × JournalEntry)) (ps : List PassState) (i : ℕ) (d : PassState)
    → i < length ps
    → All (IsMet journal) (take i ps) → IsMet journal (get_or ps i d) → All (IsMet journal) (take (i + 1) ps)
met_more journal ps i d lt met one =
    rw (take_more ps i d lt) (All-push (IsMet journal) (take i ps) (get_or ps i d) met one)
