-- In every run, each step of a manager keeps the invariant of its pairs.
use Rattle.std.proofs.Common.{◌≡◌, ◌⊎◌, inl, inr, ℕ, Bool, true, false, List, [], ◌++◌, refl, sym, subst}
use Rattle.protocol.specs.declared.names.Case.{Case}
use Rattle.protocol.specs.declared.names.ProcessId.{ProcessId}
use Rattle.protocol.specs.declared.names.Ticket.{Ticket}
use Rattle.protocol.specs.declared.messages.Message.{Message}
use Rattle.protocol.specs.declared.messages.Message.TheVariants.{Join, Joined, Work, Prepare, Yes, No, Read, Commit, Abort, Ack, Inquire}
use Rattle.protocol.specs.declared.messages.Envelope.{Envelope}
use Rattle.protocol.specs.declared.events.Act.TheVariants.{Ask}
use Rattle.protocol.specs.declared.events.Happening.{Happening}
use Rattle.protocol.specs.declared.events.Input.{Input}
use Rattle.protocol_words.specs.Variants.{ActInput, MessageInput}
use Rattle.protocol.specs.declared.trees.TreeProcess.{TreeProcess}
use Rattle.protocol.specs.Names.{child_case, process_of, same_case, same_process}
use Rattle.protocol.specs.NameLaws.{same_case_tells, same_process_tells}
use Rattle.protocol.specs.Nodes.{Place, Role, AtLeaf, Node, Heard, Effect, place_of, after, fails_in, entries_written, is_any_forced}
use Rattle.protocol.specs.Outcomes.{is_commit_outcome}
use Rattle.protocol.specs.Restarts.{restart_fails, trims, trim_fails}
use Rattle.protocol.specs.World.{Move, MayHappen, InputStands}
use Rattle.proof_pairs.specs.Reading.{Reading}
use Rattle.proof_pairs.specs.readings.ReadingOf.{reading_from, is_root_ticket, parent_half, child_half, wire, ParentHalf, Wire}
use Rattle.proof_pairs.specs.turns.Steps.{StepOf, heard_in, handled, failed_in, passed, failed_passing, reopened, failed_reopening, trims_log, failed_trimming}
use Rattle.proof_pairs.proofs.turns.Steps.{turn_of}
use Rattle.proof_processes.specs.Lasts.{Logs, logs_of, Lasts}
use Rattle.proof_processes.proofs.Appends.{either_logs}
use Rattle.proof_processes.specs.Owns.{is_own_case, AllGoToOwners}
use Rattle.proof_processes.specs.Numbers.{IsIssuer}
use Rattle.proof_processes.specs.WorldHolds.{InvariantOf}
use Rattle.proof_processes.proofs.Issuing.{Issued}
use Rattle.proof_processes.proofs.Lasting.{lasts}
use Rattle.proof_processes.proofs.GivenCases.{Remembered}
use Rattle.proof_processes.proofs.ManagerBranches.{still_remembered}
use Rattle.proof_processes.proofs.ManagersHold.{all_issued, all_remembered}
use Rattle.proof_processes.proofs.Owning.{delivered}
use Rattle.proof_processes.proofs.Yesses.{nets_go, own_process}
use Rattle.proof_steps.specs.children.ManagerSteps.{ManagerSteps}
use Rattle.proof_steps.proofs.children.FaultTurns.{turn_fails}
use Rattle.proof_steps.proofs.children.Joins.{join_fits}
use Rattle.proof_steps.proofs.children.Moves.{Fits}
use Rattle.proof_steps.proofs.children.Opens.{IsNoJoin, IsRow}
use Rattle.proof_steps.proofs.children.RestartFaults.{restart_breaks}
use Rattle.proof_steps.proofs.children.Restarts.{restart_fits}
use Rattle.proof_steps.proofs.children.Rows.{turn_fits}
use Rattle.proof_steps.proofs.children.StepAt.{manager_lasts, step_at}
use Rattle.proof_steps.proofs.children.Trims.{trim_fits, trim_breaks}
use Rattle.proof_steps.proofs.children.Wires.{wire-none}

-- a case of the manager is not the parent's
not_parents : (t : Ticket) (c x : Case) → same_process t.child (process_of c) ≡ false
    → is_own_case t.child x ≡ true → same_case x c ≡ false
not_parents t c x apart mine = elim (same_case_tells x c) [
  | inl same ↦ absurd
      (elim (same_process_tells t.child (process_of c)) [
        | inl one ↦ (let e = one.0 in cc)
        | inr two ↦ two.1 (sym
            (own_process t.child c.txn c.ticket
            (subst (λ (z : Case). is_own_case t.child z ≡ true) same.1 mine)))
      ])
  | inr other ↦ other.0
]

-- an input that is handled leaves the process up
still_up : (n : Node) (h : Heard) (e : Effect) → n.failed ≡ false → (after n h e).failed ≡ false
still_up n h e up =
    either_logs n (entries_written e.written) (is_any_forced e.written) (λ (l : Logs). l.failed ≡ false)
    (λ b. up) (λ b. up)

-- JOIN, or an input that gives no ticket
record IsJoin (i : Input) : Type 0 where
  number : ℕ
  parents : Case
  is : i ≡ MessageInput number (Join parents)

message_is : (j : ℕ) (x : Message) → IsJoin (MessageInput j x) ⊎ IsNoJoin x
message_is j (Join d) = inl (record { number = j; parents = d; is = refl })
message_is j (Joined d t) = inr tt
message_is j (Work d k op) = inr tt
message_is j (Prepare d k) = inr tt
message_is j (Yes d) = inr tt
message_is j (No d) = inr tt
message_is j (Read d) = inr tt
message_is j (Commit d) = inr tt
message_is j (Abort d) = inr tt
message_is j (Ack d o fs) = inr tt
message_is j (Inquire d) = inr tt

input_is : (i : Input) → IsJoin i ⊎ IsRow i
input_is (ActInput a) = inr tt
input_is (MessageInput j x) = message_is j x

module _ (c : Case) (t : Ticket) (p : ProcessId) (tree : List TreeProcess) (n : Node) (net : List Envelope)
    (last : Lasts (AtLeaf p) (logs_of n)) (goes : AllGoToOwners net)
    (issued : Issued (record { me = t.child; role = AtLeaf p; tree = tree }) net n)
    (known : Remembered (record { me = t.child; role = AtLeaf p; tree = tree }) net n)
    (apart : same_process t.child (process_of c) ≡ false)
    (root outcome above : Bool) (half : ParentHalf) where
  abbrev place : Place
  place = record { me = t.child; role = AtLeaf p; tree = tree }

  abbrev R : Node → List Envelope → Reading
  R k ls = reading_from root true outcome above half (child_half place k (child_case c.txn t)) (wire c t ls)

  abbrev Keeps : Node → List Envelope → Type 0
  Keeps k ls = Fits c.txn.presumption (R n net) (R k (net ++ ls))

  -- a step that sends nothing
  silent : (k : Node) → Fits c.txn.presumption (R n net) (R k net) → Keeps k []
  silent k f =
      subst (λ (z : Wire). Fits c.txn.presumption (R n net)
      (reading_from root true outcome above half (child_half place k (child_case c.txn t)) z))
      (sym (wire-none c t t.child p net)) f

  pub step_fits : InvariantOf c.txn.presumption (R n net) → (m : Move)
      → MayHappen net t.child m.step.happening
      → (e : Effect) (k : Node) → StepOf place n m e k → Keeps k e.messages
  step_fits inv m stands _ _ (handled i g hp np r) =
      let h = heard_in m i in
      let turn = turn_of place n h g r in
      let here : InputStands net t.child i = subst (λ (x : Happening). MayHappen net t.child x) hp stands in
      let then = still_remembered t.child p tree net n last issued known m stands _ _ (handled i g hp np r) in
      elim (input_is i) [
        | inl join ↦ join_fits c t p tree n h net apart issued turn.up c.txn.presumption root outcome
            above half inv
            join.number join.parents join.is g r turn.turn
            (then.open_is_unmarked (still_up n h g turn.up) (child_case c.txn t))
        | inr row ↦ turn_fits (record {
          c = c;
          t = t;
          p = p;
          tree = tree;
          n = n;
          h = h;
          net = net;
          up = turn.up;
          nested = last.nested;
          m = last.by_role;
          stands = here;
          row = row;
          own = λ x j k f. not_parents t c x apart (delivered net t.child i j (Prepare x k) goes here f);
          pr = c.txn.presumption;
          of = refl;
          root = root;
          outcome = outcome;
          above = above;
          half = half;
          inv = inv;
        }) g turn.turn
      ]
  step_fits inv m stands _ _ (failed_in i f g fl hp np r) =
      let h = heard_in m i in
      let turn = turn_of place n h g r in
      let here : InputStands net t.child i = subst (λ (x : Happening). MayHappen net t.child x) hp stands in
      silent (fails_in n h g f.appended f.forced) (turn_fails (record {
        c = c;
        t = t;
        p = p;
        tree = tree;
        n = n;
        h = h;
        net = net;
        up = turn.up;
        nested = last.nested;
        m = last.by_role;
        stands = here;
        pr = c.txn.presumption;
        root = root;
        outcome = outcome;
        above = above;
        half = half;
        inv = inv;
      }) g turn.turn f.appended f.forced (lasts place n last m _ _ (failed_in i f g fl hp np r)))
  step_fits inv m stands _ _ (passed i hp r) = absurd (cc)
  step_fits inv m stands _ _ (failed_passing i f fl hp r) = absurd (cc)
  step_fits inv m stands _ _ (reopened k hp) =
      restart_fits c t p tree n net last k c.txn.presumption root outcome above half inv
  step_fits inv m stands _ _ (failed_reopening k f fl hp) =
      silent (restart_fails place n k f.appended f.forced)
      (restart_breaks c t p tree n (wire c t net) c.txn.presumption root outcome above half
      (heard_in m (ActInput (Ask (child_case c.txn t)))) last k inv f.appended f.forced
      (lasts place n last m _ _ (failed_reopening k f fl hp)))
  step_fits inv m stands _ _ (trims_log hp up) =
      silent (trims place n) (trim_fits c t p tree n (wire c t net) last up c.txn.presumption root outcome
      above half inv
      (known.open_is_unmarked up (child_case c.txn t)))
  step_fits inv m stands _ _ (failed_trimming f fl hp up) =
      silent (trim_fails place n f.appended)
      (trim_breaks c t p tree n (wire c t net) last up c.txn.presumption root outcome above half inv
      f.appended)

pub manager_steps : ManagerSteps
manager_steps tree es w run c t p pair above m e w' here stands made inv =
    let place : (r : Role) → Place = λ r. record { me = t.child; role = r; tree = tree } in
    step_at tree w c t p pair above m e w' here made
    (λ i k s. step_fits c t p tree (w.at t.child) w.net (manager_lasts tree es w run c t p pair)
    (nets_go tree es w run)
    (subst (λ (r : Role). Issued (place r) w.net (w.at t.child)) pair.leaf
    (all_issued tree es w run t.child (subst IsIssuer (sym pair.leaf) tt)))
    (all_remembered tree es w run t.child p pair.leaf)
    pair.parent_elsewhere (is_root_ticket c.ticket) (is_commit_outcome w c.txn) above
    (parent_half (place_of tree (process_of c)) (w.at (process_of c)) c t) i m
    (subst (λ (q : ProcessId). MayHappen w.net q m.step.happening) here stands) e k s) inv
