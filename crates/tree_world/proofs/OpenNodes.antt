-- The processes of a tree, opened one after another.
use Rattle.std.proofs.Common.{◌≡◌, ◌≢◌, ◌∙◌, sym, ap, subst, ℕ, zero, suc, ◌+◌, ◌<◌, Bool, true, false, if◌then◌else◌, ◌||◌, Option, Some, None, is_some, IsSomeAnd, List, [], ◌∷◌, length, get_or, take, drop, refl, ◌⊎◌, inl, inr, arith}
use Rattle.std.specs.List.{list_any}
use Rattle.protocol.specs.declared.names.ProcessId.{ProcessId}
use Rattle.protocol.specs.declared.trees.TreeProcess.{TreeProcess}
use Rattle.protocol.specs.Names.{same_process}
use Rattle.protocol.specs.NameLaws.{same_process_tells}
use Rattle.protocol.specs.Nodes.{is_listed, role_by, role_of}
use Rattle.process_state.specs.States.{CoreState}
use Rattle.tree_state.specs.Runs.{IsOpenedTree, NodeOpened}
use Rattle.tree_journal.specs.Journals.{JournalState}
use Rattle.resource_manager.specs.Data.{DataRests, no_data}
use Rattle.tree_world.specs.Nodes.{NodesSight}
use Rattle.tree_process.proofs.Same.{rests}
use Rattle.tree_process.specs.Openings.{OpenedAs}
use Rattle.tree_world.specs.Openings.{AreOpened}
use Rattle.tree_world.proofs.Handling.{world}
use Rattle.tree_world.proofs.Processes.{itself}

-- the role of a process is that of the entry that lists it first
pub first_role : (es : List TreeProcess) (i : ℕ) (e : TreeProcess) → i < length es → e ≡ get_or es i e
    → is_listed (take i es) e.id ≡ false
    → role_of es e.id ≡ role_by e.kind e.parent
unfolding is_listed role_of
first_role [] i e lt is fresh = absurd (omega (arith, lt))
first_role (x ∷ es) zero e lt is fresh =
    ap (λ (y : TreeProcess). role_of (y ∷ es) e.id) (sym is)
    ∙ ap (λ b. if b then role_by e.kind e.parent else role_of es e.id) (itself e.id)
first_role (x ∷ es) (suc i) e lt is fresh =
    by_test (same_process x.id e.id) refl fresh (first_role es i e (omega (arith, lt)) is)
  where
    by_test : (b : Bool) → same_process x.id e.id ≡ b
        → (b || list_any (λ y. same_process y.id e.id) (take i es)) ≡ false
        → (list_any (λ y. same_process y.id e.id) (take i es) ≡ false
        → role_of es e.id ≡ role_by e.kind e.parent)
        → (if b then role_by x.kind x.parent else role_of es e.id) ≡ role_by e.kind e.parent
    by_test true at h later = absurd (cc)
    by_test false at h later = later h

some_true : (o : Option CoreState) (P : CoreState → Type 0) → IsSomeAnd o P → is_some o ≡ true
some_true None P h = absurd h
some_true (Some l) P h = refl

-- no process is listed, none is open
pub none : (tree : List TreeProcess) (ns : NodesSight)
    → ((q : ProcessId) → ns.node_at q ≡ None) → ((q : ProcessId) → ns.data_at q ≡ no_data)
    → AreOpened tree [] ns
unfolding is_listed
none tree ns empty bare = record {
  opened = λ q s stands. absurd (no_some (ns.node_at q) s (empty q) stands);
  listed_are = λ q. ap is_some (empty q);
  holdings = λ q. subst (λ d. DataRests no_data d) (sym (bare q)) (rests no_data);
}
  where
    no_some : (o : Option CoreState) (s : CoreState) → o ≡ None → o ≡ Some s → ⊥
    no_some o s e f = absurd (cc)

-- the entries from a place on begin with the one that is there, and after it come those from the next place
-- on
drop_behind : (es : List TreeProcess) (i j : ℕ) (e : TreeProcess) → j ≡ suc i → i < length es
    → e ≡ get_or es i e
    → drop i es ≡ e ∷ drop j es
drop_behind [] i j e next lt is = absurd (omega (arith, lt))
drop_behind (x ∷ es) zero j e next lt is =
    subst (λ k. (x ∷ es) ≡ e ∷ drop k (x ∷ es)) (sym next) (ap (λ (y : TreeProcess). y ∷ es) (sym is))
drop_behind (x ∷ es) (suc i) j e next lt is =
    subst (λ k. drop i es ≡ e ∷ drop k (x ∷ es)) (sym next)
    (drop_behind es i (suc i) e refl (omega (arith, lt)) is)

-- the entries from a place on begin with the one that is there
pub drop_at : (es : List TreeProcess) (i : ℕ) (e : TreeProcess) → i < length es → e ≡ get_or es i e
    → drop i es ≡ e ∷ drop (i + 1) es
drop_at es i e lt is = drop_behind es i (i + 1) e (omega arith) lt is

-- a process more, in front of those that are open
pub opens_more : (es : List TreeProcess) (i : ℕ) (e : TreeProcess)
    (old new : NodesSight) → i < length es
    → e ≡ get_or es i e → is_listed (take i es) e.id ≡ false → IsSomeAnd (new.node_at e.id) (OpenedAs es e)
    → DataRests no_data (new.data_at e.id)
    → ((q : ProcessId) → same_process e.id q ≡ false → new.node_at q ≡ old.node_at q)
    → ((q : ProcessId) → same_process e.id q ≡ false → new.data_at q ≡ old.data_at q)
    → AreOpened es (drop (i + 1) es) old → AreOpened es (drop i es) new
unfolding is_listed
opens_more es i e old new lt is fresh own bare others others_data h = rw here_first (record {
  opened = λ q s stands. opened_by q s stands (same_process_tells e.id q);
  listed_are = λ q. listed_by q (same_process_tells e.id q);
  holdings = λ q. held_by q (same_process_tells e.id q);
})
  where
    here_first : drop i es ≡ e ∷ drop (i + 1) es
    here_first = drop_at es i e lt is

    role : role_of es e.id ≡ role_by e.kind e.parent
    role = first_role es i e lt is fresh

    here_opened : (s : CoreState) → OpenedAs es e s → NodeOpened es e.id s
    here_opened s o = subst (λ r. NodeOpened es e.id s) role (record {
      failures = o.failures;
      opened = rw role o.opened;
    })

    held_by : (q : ProcessId) → ((same_process e.id q ≡ true) × (e.id ≡ q)) ⊎
        ((same_process e.id q ≡ false) × (e.id ≢ q)) → DataRests no_data (new.data_at q)
    held_by q (inl here) = subst (λ p. DataRests no_data (new.data_at p)) here.1 bare
    held_by q (inr there) = subst (λ d. DataRests no_data d) (sym (others_data q there.0)) (h.holdings q)

    opened_by : (q : ProcessId) (s : CoreState) → new.node_at q ≡ Some s
        → ((same_process e.id q ≡ true) × (e.id ≡ q)) ⊎
        ((same_process e.id q ≡ false) × (e.id ≢ q)) → NodeOpened es q s
    opened_by q s stands (inl here) =
        let at : new.node_at e.id ≡ Some s = ap new.node_at here.1 ∙ stands in
        let it : IsSomeAnd (Some s) (OpenedAs es e) = subst (λ o. IsSomeAnd o (OpenedAs es e)) at own in
        subst (λ p. NodeOpened es p s) here.1 (here_opened s it)
    opened_by q s stands (inr there) = h.opened q s (sym (others q there.0) ∙ stands)

    listed_by : (q : ProcessId)
        → ((same_process e.id q ≡ true) × (e.id ≡ q)) ⊎ ((same_process e.id q ≡ false) × (e.id ≢ q))
        → is_some (new.node_at q) ≡ (same_process e.id q || is_listed (drop (i + 1) es) q)
    listed_by q (inl here) =
        ap (λ p. is_some (new.node_at p)) (sym here.1) ∙ some_true (new.node_at e.id) (OpenedAs es e) own
        ∙ ap (λ b. b || is_listed (drop (i + 1) es) q) (sym here.0)
    listed_by q (inr there) =
        ap is_some (others q there.0) ∙ h.listed_are q
        ∙ ap (λ b. b || is_listed (drop (i + 1) es) q) (sym there.0)

-- a tree of which every process is open, and that has done nothing
pub opened_tree : (tree : List TreeProcess) (ns : NodesSight) (j : JournalState)
    → AreOpened tree tree ns
    → j.net ≡ [] → j.delivered ≡ [] → j.entries ≡ [] → IsOpenedTree (world tree ns j) tree
opened_tree tree ns j nodes net delivered entries = record {
  tree_is = refl;
  nodes = nodes.opened;
  listed = nodes.listed_are;
  holdings = nodes.holdings;
  net = net;
  delivered = delivered;
  entries = entries;
}
