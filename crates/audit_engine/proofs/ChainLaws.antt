-- What each process finds, and the steps from a case upward.
use Rattle.std.proofs.Common.{◌≡◌, ◌∙◌, ◌<◌, ◌≤◌, ◌+◌, ◌-◌, ℕ, zero, suc, Bool, true, false, if◌then◌else◌, Option, Some, None, List, [], ◌∷◌, ◌++◌, find, length, get_or, take, Result, Ok, Err, OnOk, refl, sym, ap, subst, append_assoc, arith}
use Rattle.std.proofs.lemmas.List.{take_all, take_more}
use Rattle.std.specs.Map.{lookup}
use Rattle.protocol.specs.declared.names.Case.{Case}
use Rattle.protocol.specs.declared.names.ProcessId.{ProcessId}
use Rattle.protocol.specs.declared.names.Ticket.{Ticket}
use Rattle.protocol.specs.declared.trees.TreeProcess.{TreeProcess}
use Rattle.protocol.specs.Names.{process_of, same_process}
use Rattle.protocol.specs.Nodes.{is_listed}
use Rattle.protocol.specs.Trees.{IsTree, entry_parent, parent_of}
use Rattle.protocol.specs.Audits.{KeptLogs}
use Rattle.audit_cases.specs.Notes.{LogNotes, log_notes_of, notes_of}
use Rattle.audit_tree.specs.Tables.{AreNotes, TreeTables, same_id}
use Rattle.audit_tree.proofs.Passes.{apart_of, listed_more, lookup_inserted, same_is, same_self}
use Rattle.audit_tree.proofs.TreePlaces.{is_one, parent_listed, true_not_false}
use Rattle.audit_engine.specs.declared.steps.StepFound.{StepFound}
use Rattle.audit_engine.specs.declared.steps.AuditStep.{AuditStep}
use Rattle.audit_engine.specs.Chains.{Adds, AreNamings, TreeFounds, asks_on, chain_of, found_by_table, found_in, steps_by, steps_from, steps_on, steps_within}
use Rattle.audit_engine.specs.Namings.{AreNamed, Founds, finds, found_at}

-- What the processes find.

-- this is what a process finds by its kept list
abbrev FindsAt : KeptLogs → ProcessId → TreeFounds → Type 0
FindsAt logs q ns = (s : Founds) × (lookup (same_id q) ns ≡ Some s) × AreNamed (notes_of (logs q)) s

-- it is what the processes of these entries find
unfoldable pub NamedTo : List TreeProcess → TreeTables → List TreeProcess → TreeFounds → Type 0
NamedTo tree ts es ns = (logs : KeptLogs) → AreNotes tree logs ts → (q : ProcessId) → is_listed es q ≡ true
    → is_listed tree q ≡ true → FindsAt logs q ns

pub none_named : (tree : List TreeProcess) (ts : TreeTables) (ns : TreeFounds) → NamedTo tree ts [] ns
unfolding NamedTo is_listed
none_named tree ts ns = λ logs notes q h listed. absurd (true_not_false (sym h))

some_notes : (a b : LogNotes) → Some a ≡ Some b → a ≡ b
some_notes a b e = cc

named_more : (tree : List TreeProcess) (ts : TreeTables) (es : List TreeProcess)
    (e : TreeProcess) (old new : TreeFounds)
    → Adds (lookup (same_id e.id) ts) e.id old new → NamedTo tree ts es old
    → NamedTo tree ts (es ++ e ∷ []) new
unfolding NamedTo
named_more tree ts es e old new adds before =
    λ logs notes q h listed. by_name logs notes q h listed (same_id q e.id) refl
  where
    earlier : (q : ProcessId) → is_listed (es ++ e ∷ []) q ≡ true
        → same_id q e.id ≡ false → is_listed es q ≡ true
    earlier q h apart = listed_more es e q h
        (apart_of (same_process e.id q)
        (λ one. true_not_false (sym (same_self q) ∙ ap (same_id q) (sym (is_one e.id q one)) ∙ apart)))

    by_table : (logs : KeptLogs) → AreNotes tree logs ts → (q : ProcessId) → is_listed (es ++ e ∷ []) q ≡ true
        → is_listed tree q ≡ true → (b : Bool) → same_id q e.id ≡ b → (a : Option LogNotes)
        → lookup (same_id e.id) ts ≡ a
        → Adds a e.id old new → FindsAt logs q new
    by_table logs notes q h listed true here None is added =
        absurd (nothing (sym is ∙ ap (λ p. lookup (same_id p) ts)
        (sym (same_is q e.id here)) ∙ notes.tables q listed))
      where
        nothing : {n : LogNotes} → None ≡ Some n → ⊥
        nothing e = cc
    by_table logs notes q h listed true here (Some t) is added =
        let own : t ≡ log_notes_of (logs q) =
        some_notes t (log_notes_of (logs q))
        (sym is ∙ ap (λ p. lookup (same_id p) ts) (sym (same_is q e.id here)) ∙ notes.tables q listed) in (
          added.0,
          ap (lookup (same_id q)) added.2 ∙ lookup_inserted old e.id q added.0
              ∙ ap (λ b. if b then Some added.0 else lookup (same_id q) old) here,
          subst (λ n. AreNamed n.table added.0) own added.1,
        )
    by_table logs notes q h listed false apart None is added =
        subst (FindsAt logs q) (sym added) (before logs notes q (earlier q h apart) listed)
    by_table logs notes q h listed false apart (Some t) is added =
        let found = before logs notes q (earlier q h apart) listed in (
          found.0,
          ap (lookup (same_id q)) added.2 ∙ lookup_inserted old e.id q added.0
              ∙ ap (λ b. if b then Some added.0 else lookup (same_id q) old) apart ∙ found.1,
          found.2,
        )

    by_name : (logs : KeptLogs) → AreNotes tree logs ts → (q : ProcessId) → is_listed (es ++ e ∷ []) q ≡ true
        → is_listed tree q ≡ true → (b : Bool) → same_id q e.id ≡ b → FindsAt logs q new
    by_name logs notes q h listed b is = by_table logs notes q h listed b is
        (lookup (same_id e.id) ts) refl adds

-- the next process
pub named_next : (tree : List TreeProcess) (ts : TreeTables) (es : List TreeProcess) (i : ℕ) (e : TreeProcess)
    (old new : TreeFounds) → i < length es → e ≡ get_or es i e → Adds (lookup (same_id e.id) ts) e.id old new
    → NamedTo tree ts (take i es) old → NamedTo tree ts (take (i + 1) es) new
named_next tree ts es i e old new lt at adds before =
    rw (take_more es i e lt, ← at) (named_more tree ts (take i es) e old new adds before)

-- all processes
pub named_all : (tree : List TreeProcess) (ts : TreeTables) (es : List TreeProcess) (i : ℕ)
    (ns : TreeFounds) → es ≡ tree
    → length es ≤ i → NamedTo tree ts (take i es) ns → (logs : KeptLogs)
    → AreNotes tree logs ts → AreNamings tree logs ns
unfolding NamedTo
named_all tree ts es i ns same enough named = λ logs notes q listed.
    named logs notes q (ap (λ xs. is_listed xs q) (take_all i es enough ∙ same) ∙ listed) listed

-- The steps.

-- a parent is listed
up_listed : (tree : List TreeProcess) → IsTree tree → (q p : ProcessId)
    → parent_of tree q ≡ Some p → is_listed tree p ≡ true
unfolding parent_of
up_listed tree t q p up = by_entry (find (λ e. same_process e.id q) tree) refl up
  where
    nothing : None ≡ Some p → ⊥
    nothing e = cc

    by_entry : (o : Option TreeProcess) → find (λ e. same_process e.id q) tree ≡ o → entry_parent o ≡ Some p
        → is_listed tree p ≡ true
    by_entry None is h = absurd (nothing h)
    by_entry (Some e) is h = parent_listed tree t q p e is h

-- what is found of a case with a ticket
pub found_so : (tree : List TreeProcess) → IsTree tree
    → (logs : KeptLogs) (ns : TreeFounds) → AreNamings tree logs ns
    → (c : Case) (t : Ticket) → c.ticket ≡ Some t → (p : ProcessId) → parent_of tree (process_of c) ≡ Some p
    → found_by_table (lookup (same_id p) ns) c ≡ finds (notes_of (logs p)) c.txn t
found_so tree is_tree logs ns are c t ticket p up =
    let here = are p (up_listed tree is_tree (process_of c) p up) in
    ap (λ a. found_by_table a c) here.1
    ∙ ap (found_at here.0) (ap (λ o. record { txn = c.txn; ticket = o }) ticket)
    ∙ here.2 c.txn t

module _ (tree : List TreeProcess) (logs : KeptLogs) where
  -- with no step left there is none
  pub no_step : (c : Case) (most : ℕ) → most ≡ 0 → steps_within most tree logs c ≡ []
  no_step c most is = ap (λ k. steps_within k tree logs c) is

  -- without a ticket there is none
  pub no_ticket : (c : Case) (most : ℕ) → c.ticket ≡ None → steps_within most tree logs c ≡ []
  no_ticket c zero is = refl
  no_ticket c (suc k) is =
      ap (λ o. steps_by (steps_within k tree logs) (found_in logs c.txn c.ticket) o
      (parent_of tree (process_of c))) is

  -- without a parent there is none
  pub no_parent : (c : Case) (most : ℕ) → parent_of tree (process_of c) ≡ None
      → steps_within most tree logs c ≡ []
  no_parent c zero is = refl
  no_parent c (suc k) is =
      ap (steps_by (steps_within k tree logs) (found_in logs c.txn c.ticket) c.ticket) is ∙ by_ticket c.ticket
    where
      by_ticket : (o : Option Ticket) → steps_by (steps_within k tree logs)
          (found_in logs c.txn c.ticket) o None ≡ []
      by_ticket None = refl
      by_ticket (Some t) = refl

  one_less : (most : ℕ) → (most ≡ 0 → ⊥) → (k : ℕ) × (most ≡ suc k)
  one_less zero some = absurd (some refl)
  one_less (suc k) some = (k, refl)

  -- a step and those after it
  pub one_step : (c : Case) (t : Ticket) (p : ProcessId) (most : ℕ) → (most ≡ 0 → ⊥) → c.ticket ≡ Some t
      → parent_of tree (process_of c) ≡ Some p
      → steps_within most tree logs c
      ≡ steps_from (steps_within (most - 1) tree logs) t p (finds (notes_of (logs p)) c.txn t)
  one_step c t p most some ticket up =
      let less = one_less most some in
      let k : most - 1 ≡ less.0 = omega (arith, less.1) in
      ap (λ n. steps_within n tree logs c) less.1
      ∙ ap (λ o. steps_by (steps_within less.0 tree logs) (found_in logs c.txn o) o
      (parent_of tree (process_of c))) ticket
      ∙ ap (steps_by (steps_within less.0 tree logs) (found_in logs c.txn (Some t)) (Some t)) up
      ∙ ap (λ n. steps_from (steps_within n tree logs) t p (finds (notes_of (logs p)) c.txn t)) (sym k)

module _ (tree : List TreeProcess) (is_tree : IsTree tree) (ns : TreeFounds) (c : Case)
    (t : Ticket) (p q : ProcessId)
    (most : ℕ) (some : most ≡ 0 → ⊥) (ticket : c.ticket ≡ Some t) (own : q ≡ process_of c)
    (up : parent_of tree q ≡ Some p)
    (found : StepFound) (finding : found ≡ found_by_table (lookup (same_id p) ns) c) where
  abbrev step : AuditStep
  step = record { ticket = t; process = p; found = found }

  stepped : (logs : KeptLogs) → AreNamings tree logs ns
      → steps_within most tree logs c ≡ step ∷ steps_on (steps_within (most - 1) tree logs) (asks_on found)
  stepped logs are =
      let above : parent_of tree (process_of c) ≡ Some p = ap (parent_of tree) (sym own) ∙ up in
      one_step tree logs c t p most some ticket above
      ∙ ap (steps_from (steps_within (most - 1) tree logs) t p)
      (sym (finding ∙ found_so tree is_tree logs ns are c t ticket p above))

  -- the last step
  pub step_ends : (old new : List AuditStep) → new ≡ old ++ step ∷ [] → asks_on found ≡ None
      → (logs : KeptLogs)
      → AreNamings tree logs ns → new ≡ old ++ steps_within most tree logs c
  step_ends old new is asks = λ logs are.
      is ∙ ap (λ o. old ++ step ∷ steps_on (steps_within (most - 1) tree logs) o) (sym asks)
      ∙ ap (λ ss. old ++ ss) (sym (stepped logs are))

  -- a step, and those of the case that asks in its turn
  pub step_goes_on : (old mid new : List AuditStep) (next : Case)
      → mid ≡ old ++ step ∷ [] → asks_on found ≡ Some next
      → ((logs : KeptLogs) → AreNamings tree logs ns
      → new ≡ mid ++ steps_within (most - 1) tree logs next) → (logs : KeptLogs)
      → AreNamings tree logs ns → new ≡ old ++ steps_within most tree logs c
  step_goes_on old mid new next is asks more = λ logs are.
      more logs are ∙ ap (λ ss. ss ++ steps_within (most - 1) tree logs next) is
      ∙ append_assoc old (step ∷ []) (steps_within (most - 1) tree logs next)
      ∙ ap (λ o. old ++ step ∷ steps_on (steps_within (most - 1) tree logs) o) (sym asks)
      ∙ ap (λ ss. old ++ ss) (sym (stepped logs are))

pub on_ok : {A E : Type 0} {P Q : Type 0} (r : Result A E) → (P → Q) → OnOk r P → OnOk r Q
on_ok (Ok a) f h = f h
on_ok (Err e) f h = h

-- all the steps
pub all_steps : (tree : List TreeProcess) (ns : TreeFounds) (c : Case)
    (es : List TreeProcess) (none new : List AuditStep)
    → es ≡ tree → none ≡ []
    → ((logs : KeptLogs) → AreNamings tree logs ns
    → new ≡ none ++ steps_within (length es) tree logs c) → (logs : KeptLogs)
    → AreNamings tree logs ns → new ≡ chain_of tree logs c
unfolding chain_of
all_steps tree ns c es none new same is more = λ logs are.
    more logs are ∙ ap (λ ss. ss ++ steps_within (length es) tree logs c) is
    ∙ ap (λ fs. steps_within (length fs) tree logs c) same
