-- What each process keeps of its records, over every run: they are its own, and an Opened is among them.
use Rattle.std.proofs.Common.{◌≡◌, ◌∙◌, inl, inr, ◌&&◌, ℕ, zero, suc, Bool, true, false, Option, Some, None, List, [], ◌∷◌, ◌++◌, refl, sym, ap, subst}
use Rattle.std.specs.List.{list_all}
use Rattle.protocol.specs.declared.names.Case.{Case}
use Rattle.protocol.specs.declared.names.ProcessId.{ProcessId}
use Rattle.protocol.specs.declared.names.Ticket.{Ticket}
use Rattle.protocol.specs.declared.names.Txn.{Txn}
use Rattle.protocol.specs.declared.messages.Envelope.{Envelope}
use Rattle.protocol.specs.declared.records.Record.{Record}
use Rattle.protocol.specs.declared.trees.TreeProcess.{TreeProcess}
use Rattle.protocol.specs.LogNames.{is_own_by, is_own_record, is_ticketed, parent_of, same_parent}
use Rattle.protocol.specs.NameLaws.{same_case-refl, same_process_tells}
use Rattle.protocol.specs.Names.{process_of, same_process}
use Rattle.protocol.specs.Nodes.{AtLeaf, AtRoot, Below, Effect, Node, Place, Role, entries_written, is_any_forced, is_listed, kept, place_of, role_of}
use Rattle.protocol.specs.Outcomes.{sent}
use Rattle.protocol.specs.Records.{has, is_opened, record_case}
use Rattle.protocol.specs.Restarts.{trim_fails, trimmed}
use Rattle.protocol.specs.Trees.{IsTree, root_of}
use Rattle.protocol.specs.World.{IsRun, Made, Move, World, makes, opens}
use Rattle.protocol.proofs.RunLaws.{makes_at}
use Rattle.proof_pairs.specs.readings.ReadingOf.{gives_case}
use Rattle.proof_pairs.specs.turns.Steps.{StepOf, failed_in, failed_passing, failed_reopening, failed_trimming, handled, passed, reopened, trims_log}
use Rattle.proof_pairs.proofs.turns.Steps.{step_of}
use Rattle.proof_processes.specs.Lasts.{Logs}
use Rattle.proof_processes.specs.WorldHolds.{AllGo, NodeHolds, is_of, is_record_of}
use Rattle.proof_processes.proofs.Appends.{either_logs}
use Rattle.proof_processes.proofs.Giving.{never_given}
use Rattle.proof_processes.proofs.PairOf.{given, is_pair}
use Rattle.proof_processes.proofs.RootsHold.{nodes_hold}
use Rattle.proof_processes.proofs.Tests.{in_first, left, right}
use Rattle.proof_processes.proofs.Worlds.{put}
use Rattle.proof_headline.proofs.runs.NetsHold.{nets_hold}
use Rattle.tree_state.specs.Fits.{HasOpened, KeepsOwn, OpenFits}
use Rattle.proof_runs.proofs.worlds.Tops.{top_is_root}

-- Tests.

same_self : (q : ProcessId) → same_process q q ≡ true
same_self q = elim (same_process_tells q q) [ inl t ↦ t.0 | inr f ↦ absurd (f.1 refl) ]

both_so : (a b : Bool) → a ≡ true → b ≡ true → (a && b) ≡ true
both_so true b e f = f
both_so false b e f = absurd (cc)

-- each record passes, where each case of which there is a record does
all_own : (place : Place) (rs : List Record)
    → ((c : Case) → has (is_record_of c) rs ≡ true → is_own_by place (Some c) ≡ true)
    → list_all (is_own_record place) rs ≡ true
unfolding has
all_own place [] own = refl
all_own place (r ∷ rs) own =
    both_so _ _ (by_case (record_case r) (λ c e. own c (left (is_record_of c r) _ e)))
    (all_own place rs (λ c e. own c (right (is_record_of c r) _ e)))
  where
    by_case : (o : Option Case) → ((c : Case) → is_of c o ≡ true → is_own_by place (Some c) ≡ true)
        → is_own_by place o ≡ true
    by_case None f = refl
    by_case (Some c) f = f c (same_case-refl c)

-- A case of the process's own.

is_own_so : (tree : List TreeProcess) (q : ProcessId) (role : Role) (c : Case) → c.txn.root ≡ root_of tree
    → process_of c ≡ q → is_ticketed role c.ticket ≡ true
    → is_own_by (record { me = q; role = role; tree = tree }) (Some c) ≡ true
is_own_so tree q role c root own ticketed =
    both_so _ _ (ap (λ p. same_process p (root_of tree)) root ∙ same_self (root_of tree))
    (both_so _ _ (ap (λ p. same_process p q) own ∙ same_self q)
    (both_so _ _ ticketed (alike (parent_of role))))
  where
    alike : (p : Option ProcessId) → same_parent p p ≡ true
    alike None = refl
    alike (Some p) = same_self p

has_no_ticket : (o : Option Ticket) → o ≡ None → is_ticketed AtRoot o ≡ true
has_no_ticket None e = refl
has_no_ticket (Some t) e = absurd (cc)

of_root : (c : Case) (q : ProcessId) → c.ticket ≡ None → process_of c ≡ q → c.txn.root ≡ q
of_root c q none own = by_ticket c.ticket none own
  where
    by_ticket : (o : Option Ticket) → o ≡ None → process_of (record { txn = c.txn; ticket = o }) ≡ q
        → c.txn.root ≡ q
    by_ticket None e f = f
    by_ticket (Some t) e f = absurd (cc)

-- a case that was given is of a transaction of the tree's root, and has a ticket
record GivenIn (tree : List TreeProcess) (c : Case) : Type 0 where
  root : c.txn.root ≡ root_of tree
  ticketed : (p : ProcessId) → (is_ticketed (Below p) c.ticket ≡ true)
      × (is_ticketed (AtLeaf p) c.ticket ≡ true)

given_in : (tree : List TreeProcess) (net : List Envelope) → IsTree tree → AllGo tree net → (c : Case)
    → sent (gives_case c) net ≡ true → GivenIn tree c
given_in tree net is_tree goes c e = by_ticket c.txn c.ticket e
  where
    by_ticket : (x : Txn) (o : Option Ticket) → sent (gives_case (record { txn = x; ticket = o })) net ≡ true
        → GivenIn tree (record { txn = x; ticket = o })
    by_ticket x None f = absurd (never_given x net f)
    by_ticket x (Some t) f =
        let k = given net x t f in
        let pair = is_pair tree net k.of t goes k.joined in
        record {
          root = ap (λ (y : Txn). y.root) (sym k.same)
              ∙ top_is_root tree is_tree k.of.txn.root pair.parent.top_listed pair.parent.top;
          ticketed = λ p. (refl, refl);
        }

module _ (tree : List TreeProcess) (es : List Made) (w : World) (is_tree : IsTree tree)
    (run : IsRun tree es w)
    (q : ProcessId) (listed : is_listed tree q ≡ true) where
  abbrev n : Node
  n = w.at q

  abbrev at : Role → Place
  at role = record { me = q; role = role; tree = tree }

  holds : (role : Role) → role_of tree q ≡ role → NodeHolds (at role) w.net n
  holds role e = subst (λ r. NodeHolds (at r) w.net n) e (nodes_hold tree es w run q)

  own_case : (role : Role) → role_of tree q ≡ role → (c : Case) → has (is_record_of c) (kept n) ≡ true
      → is_own_by (at role) (Some c) ≡ true
  own_case AtRoot e c there =
      let h = holds AtRoot e in
      let g = h.role.1.own_records c (h.lasts.nested.kept_was_written (is_record_of c) (λ k. refl) there) in
      is_own_so tree q AtRoot c (of_root c q g.0 g.1.0 ∙ top_is_root tree is_tree q listed e) g.1.0
      (has_no_ticket c.ticket g.0)
  own_case (Below p) e c there =
      let h = holds (Below p) e in
      let g = h.role.1.1.recorded_is_given c
      (h.lasts.nested.kept_was_written (is_record_of c) (λ k. refl) there) in
      let i = given_in tree w.net is_tree (nets_hold tree es w run).go c g.1 in
      is_own_so tree q (Below p) c i.root g.0 (i.ticketed p).0
  own_case (AtLeaf p) e c there =
      let h = holds (AtLeaf p) e in
      let g = h.role.1.recorded_is_given c
      (h.lasts.nested.kept_was_written (is_record_of c) (λ k. refl) there) in
      let i = given_in tree w.net is_tree (nets_hold tree es w run).go c g.1 in
      is_own_so tree q (AtLeaf p) c i.root g.0 (i.ticketed p).1

  pub keeps_own : KeepsOwn (place_of tree q) n
  keeps_own = all_own (place_of tree q) (kept n) (own_case (role_of tree q) refl)

-- Open cases.

pub open_fits : (tree : List TreeProcess) (es : List Made) (w : World) → IsRun tree es w → (q : ProcessId)
    → (w.at q).failed ≡ false → OpenFits (role_of tree q) (place_of tree q) (w.at q)
open_fits tree es w run q up = by_role (role_of tree q) refl
  where
    at : Role → Place
    at role = record { me = q; role = role; tree = tree }

    holds : (role : Role) → role_of tree q ≡ role → NodeHolds (at role) w.net (w.at q)
    holds role e = subst (λ r. NodeHolds (at r) w.net (w.at q)) e (nodes_hold tree es w run q)

    by_role : (role : Role) → role_of tree q ≡ role → OpenFits (role_of tree q) (place_of tree q) (w.at q)
    by_role AtRoot e = subst (λ r. OpenFits r (at r) (w.at q)) (sym e) ((holds AtRoot e).role.0.alike up)
    by_role (Below p) e = subst (λ r. OpenFits r (at r) (w.at q)) (sym e)
        ((holds (Below p) e).role.0.alike up)
    by_role (AtLeaf p) e =
        subst (λ r. OpenFits r (at r) (w.at q)) (sym e) ((holds (AtLeaf p) e).role.0.open_is_unmarked up)

-- An Opened is in the forced front.

abbrev Opens : Node → Type 0
Opens n = has is_opened n.forced ≡ true

trims_open : (role : Role) (rs : List Record) → has is_opened (trimmed role rs) ≡ true
unfolding has trimmed
trims_open role rs = refl

front_opened : (xs ys : List Record) → has is_opened xs ≡ true → has is_opened (xs ++ ys) ≡ true
front_opened xs ys e = in_first is_opened xs ys e

still_opened : (place : Place) (n : Node) → Opens n
    → (m : Move) (e : Effect) (k : Node) → StepOf place n m e k
    → Opens k
still_opened place n old m _ _ (handled i g happens heard does) =
    either_logs n (entries_written g.written) (is_any_forced g.written)
    (λ (l : Logs). has is_opened l.forced ≡ true)
    (λ b. front_opened (kept n) _ (front_opened n.forced n.unforced old)) (λ b. old)
still_opened place n old m _ _ (failed_in i f g fault happens heard does) = front_opened n.forced _ old
still_opened place n old m _ _ (passed i happens heard) = old
still_opened place n old m _ _ (failed_passing i f fault happens heard) = old
still_opened place n old m _ _ (reopened k happens) =
    front_opened (n.forced ++ _) _ (front_opened n.forced _ old)
still_opened place n old m _ _ (failed_reopening k f fault happens) = front_opened n.forced _ old
still_opened place n old m _ _ (trims_log happens was) = trims_open place.role (kept n)
still_opened place n old m _ _ (failed_trimming f fault happens was) = fails f.appended
  where
    fails : (a : ℕ) → Opens (trim_fails place n a)
    fails zero = old
    fails (suc a) = trims_open place.role (kept n)

front_of : (tree : List TreeProcess) (es : List Made) (w : World) → IsRun tree es w
    → (q : ProcessId) → Opens (w.at q)
unfolding has
front_of tree _ _ opens q = refl
front_of tree _ _ (makes es w m e w' run stands step) q =
    let now = makes_at tree w m e w' step in
    let x = m.step.process in
    subst (λ (z : World). Opens (z.at q)) (sym now.world)
    (put (λ (y : ProcessId) (k : Node). Opens k) x q now.node w.at
    (still_opened (place_of tree x) (w.at x) (front_of tree es w run x) m e now.node
    (step_of (place_of tree x) (w.at x) m e now.node now.made))
    (front_of tree es w run q))

pub all_opened : (tree : List TreeProcess) (es : List Made) (w : World) → IsRun tree es w → (q : ProcessId)
    → HasOpened (w.at q)
all_opened tree es w run q = front_opened (w.at q).forced (w.at q).unforced (front_of tree es w run q)
