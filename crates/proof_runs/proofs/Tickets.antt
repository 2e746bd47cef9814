-- The active tickets of a manager: one at most for each case of the parent, and PREPARE and ABORT end their
-- time.
use Rattle.std.proofs.Common.{◌≡◌, ℕ, Bool, true, false, cond, not, if◌then◌else◌, Option, Some, None, List, [], ◌∷◌, ◌++◌, refl, sym, ap, subst, ◌∙◌, arith}
use Rattle.std.specs.Prelude.{⊤, fold, filter}
use Rattle.protocol.specs.declared.names.Case.{Case}
use Rattle.protocol.specs.declared.names.ProcessId.{ProcessId}
use Rattle.protocol.specs.declared.names.Ticket.{Ticket}
use Rattle.protocol.specs.declared.messages.Message.{Message}
use Rattle.protocol.specs.declared.messages.Message.TheVariants.{Join, Joined, Work, Prepare, Yes, No, Read, Commit, Abort, Ack, Inquire}
use Rattle.protocol.specs.declared.events.Input.{Input}
use Rattle.protocol_words.specs.Variants.{ActInput, MessageInput}
use Rattle.protocol.specs.declared.trees.TreeProcess.{TreeProcess}
use Rattle.protocol.specs.Names.{same_case, child_case}
use Rattle.protocol.specs.NameLaws.{same_case_tells}
use Rattle.protocol.specs.Records.{boot_of}
use Rattle.protocol.specs.Nodes.{AtLeaf, DataAnswer, Heard, Node, kept}
use Rattle.protocol.specs.Memory.{Memory, active_ticket, fresh_memory, memory_of, remembers, without_ticket}
use Rattle.protocol.specs.Views.{leaf_place}
use Rattle.proof_model.proofs.ManagerViewLaws.{Givens, gives_fresh, gives_heard, gives_next, givens_of, remembers_gives}

abbrev pub Actives : Type 0
Actives = List (Case × Ticket)

-- no case of the parent has two
abbrev pub IsOnce : Actives → Type 0
IsOnce [] = ⊤
IsOnce (a ∷ more) = (active_ticket more a.0 ≡ None) × IsOnce more

pub one_case : (c d : Case) → same_case c d ≡ true → c ≡ d
one_case c d h = grind (arith, same_case_tells)

-- Leaving a ticket out.

abbrev stays : Case → Case × Ticket → Bool
stays c a = not (same_case (child_case a.0.txn a.1) c)

still_none : (c d : Case) (active : Actives) → active_ticket active d ≡ None
    → active_ticket (without_ticket active c) d ≡ None
unfolding active_ticket without_ticket
still_none c d [] none = none
still_none c d (a ∷ more) none = by_tests (stays c a) (same_case a.0 d) refl none (still_none c d more)
  where
    by_tests : (b t : Bool) → same_case a.0 d ≡ t → cond t (Some a.1) (active_ticket more d) ≡ None
        → (active_ticket more d ≡ None → active_ticket (filter (stays c) more) d ≡ None)
        → active_ticket (cond b (a ∷ filter (stays c) more) (filter (stays c) more)) d ≡ None
    by_tests b true is e rest = absurd (cc)
    by_tests true false is e rest = ap (λ t. cond t (Some a.1) (active_ticket (filter (stays c) more) d)) is
        ∙ rest e
    by_tests false false is e rest = rest e

pub once_without : (c : Case) (active : Actives) → IsOnce active → IsOnce (without_ticket active c)
unfolding without_ticket
once_without c [] once = tt
once_without c (a ∷ more) once = by_test (stays c a) (once_without c more once.1)
  where
    by_test : (b : Bool) → IsOnce (filter (stays c) more)
        → IsOnce (cond b (a ∷ filter (stays c) more) (filter (stays c) more))
    by_test true rest = (still_none c a.0 more once.0, rest)
    by_test false rest = rest

-- the ticket of the parent's case d, unless it is of the case c
abbrev pub unless_of : Case → Case → Option Ticket → Option Ticket
unless_of c d None = None
unless_of c d (Some t) = if same_case (child_case d.txn t) c then None else Some t

pub found_without : (c d : Case) (active : Actives) → IsOnce active
    → active_ticket (without_ticket active c) d ≡ unless_of c d (active_ticket active d)
unfolding active_ticket without_ticket
found_without c d [] once = refl
found_without c d (a ∷ more) once = by_test (same_case a.0 d) refl (found_without c d more once.1)
  where
    own : (b : Bool) → same_case (child_case d.txn a.1) c ≡ b → a.0 ≡ d
        → active_ticket (cond (not b) (a ∷ filter (stays c) more) (filter (stays c) more)) d
        ≡ (if b then None else Some a.1)
    own true of is = still_none c d more (ap (active_ticket more) (sym is) ∙ once.0)
    own false of is = ap (λ t. cond t (Some a.1) (active_ticket (filter (stays c) more) d))
        (ap (λ e. same_case e d) is ∙ same_itself d)
      where
        same_itself : (e : Case) → same_case e e ≡ true
        same_itself e = grind (arith, same_case_tells)

    other : (b : Bool) → same_case a.0 d ≡ false
        → active_ticket (filter (stays c) more) d ≡ unless_of c d (active_ticket more d)
        → active_ticket (cond b (a ∷ filter (stays c) more) (filter (stays c) more)) d
        ≡ unless_of c d (active_ticket more d)
    other true is rest = ap (λ t. cond t (Some a.1) (active_ticket (filter (stays c) more) d)) is ∙ rest
    other false is rest = rest

    by_test : (b : Bool) → same_case a.0 d ≡ b
        → active_ticket (filter (stays c) more) d ≡ unless_of c d (active_ticket more d)
        → active_ticket (cond (stays c a) (a ∷ filter (stays c) more) (filter (stays c) more)) d
        ≡ unless_of c d (cond b (Some a.1) (active_ticket more d))
    by_test true is rest =
        let one : a.0 ≡ d = one_case a.0 d is in
        ap (λ e. active_ticket (cond (not (same_case (child_case e.txn a.1) c)) (a ∷ filter (stays c) more)
        (filter (stays c) more)) d) one
        ∙ own (same_case (child_case d.txn a.1) c) refl one
    by_test false is rest = other (stays c a) is rest

-- A fresh ticket.

pub found_more : (d e : Case) (t : Ticket) (active : Actives)
    → active_ticket active d ≡ None → same_case d e ≡ false
    → active_ticket (active ++ (d, t) ∷ []) e ≡ active_ticket active e
unfolding active_ticket
found_more d e t [] none apart = ap (λ b. cond b (Some t) None) apart
found_more d e t (a ∷ more) none apart = ap (λ o. cond (same_case a.0 e) (Some a.1) o)
    (found_more d e t more (by_test (same_case a.0 d) none) apart)
  where
    by_test : (b : Bool) → cond b (Some a.1) (active_ticket more d) ≡ None → active_ticket more d ≡ None
    by_test true h = absurd (cc)
    by_test false h = h

pub found_fresh : (d : Case) (t : Ticket) (active : Actives) → active_ticket active d ≡ None
    → active_ticket (active ++ (d, t) ∷ []) d ≡ Some t
unfolding active_ticket
found_fresh d t [] none = ap (λ b. cond b (Some t) None) (same_itself d)
  where
    same_itself : (e : Case) → same_case e e ≡ true
    same_itself e = grind (arith, same_case_tells)
found_fresh d t (a ∷ more) none = by_test (same_case a.0 d) none (found_fresh d t more)
  where
    by_test : (b : Bool) → cond b (Some a.1) (active_ticket more d) ≡ None
        → (active_ticket more d ≡ None → active_ticket (more ++ (d, t) ∷ []) d ≡ Some t)
        → cond b (Some a.1) (active_ticket (more ++ (d, t) ∷ []) d) ≡ Some t
    by_test true h rest = absurd (cc)
    by_test false h rest = rest h

pub once_more : (d : Case) (t : Ticket) (active : Actives) → active_ticket active d ≡ None → IsOnce active
    → IsOnce (active ++ (d, t) ∷ [])
unfolding active_ticket
once_more d t [] none once = (refl, tt)
once_more d t (a ∷ more) none once = by_test (same_case a.0 d) refl none (λ h. once_more d t more h once.1)
  where
    by_test : (b : Bool) → same_case a.0 d ≡ b → cond b (Some a.1) (active_ticket more d) ≡ None
        → (active_ticket more d ≡ None → IsOnce (more ++ (d, t) ∷ []))
        → (active_ticket (more ++ (d, t) ∷ []) a.0 ≡ None) × IsOnce (more ++ (d, t) ∷ [])
    by_test true is h rest = absurd (cc)
    by_test false is h rest = (found_more d a.0 t more h (flipped d a.0 is) ∙ once.0, rest h)
      where
        flipped : (c e : Case) → same_case e c ≡ false → same_case c e ≡ false
        flipped c e z = grind (arith, same_case_tells)

-- Of whatever was heard.

once_fresh : (me : ProcessId) (boot : ℕ) (d : Case) (g : Givens) (o : Option Ticket)
    → active_ticket g.1 d ≡ o → IsOnce g.1
    → IsOnce (gives_fresh me boot d g o).1
once_fresh me boot d g (Some t) is once = once
once_fresh me boot d g None is once = once_more d _ g.1 is once

once_joins : (me : ProcessId) (boot : ℕ) (d : Case) (g : Givens) (b : Bool) → IsOnce g.1
    → IsOnce (if b then gives_fresh me boot d g (active_ticket g.1 d) else g).1
once_joins me boot d g true once = once_fresh me boot d g (active_ticket g.1 d) refl once
once_joins me boot d g false once = once

once_next : (me : ProcessId) (boot : ℕ) (g : Givens) (a : DataAnswer) (m : Message) → IsOnce g.1
    → IsOnce (gives_next me boot g a m).1
once_next me boot g a (Join d) once = once_joins me boot d g a.starts once
once_next me boot g a (Prepare d k) once = once_without d g.1 once
once_next me boot g a (Abort d) once = once_without d g.1 once
once_next me boot g a (Joined d t) once = once
once_next me boot g a (Work d i op) once = once
once_next me boot g a (Yes d) once = once
once_next me boot g a (No d) once = once
once_next me boot g a (Read d) once = once
once_next me boot g a (Commit d) once = once
once_next me boot g a (Ack d o fs) once = once
once_next me boot g a (Inquire d) once = once

once_heard : (me : ProcessId) (boot : ℕ) (g : Givens) (a : DataAnswer) (i : Input) → IsOnce g.1
    → IsOnce (gives_heard me boot g a i).1
once_heard me boot g a (ActInput x) once = once
once_heard me boot g a (MessageInput k m) once = once_next me boot g a m once

once_fold : (me : ProcessId) (boot : ℕ) (g : Givens) (hs : List Heard) → IsOnce g.1
    → IsOnce (fold (λ g h. gives_heard me boot g h.data_answer h.input) g hs).1
once_fold me boot g [] once = once
once_fold me boot g (h ∷ hs) once = once_fold me boot (gives_heard me boot g h.data_answer h.input) hs
    (once_heard me boot g h.data_answer h.input once)

fold_gives : (me p : ProcessId) (boot : ℕ) (c : Case) (m : Memory) (hs : List Heard)
    → givens_of (fold (remembers me (AtLeaf p) boot c) m hs)
    ≡ fold (λ g h. gives_heard me boot g h.data_answer h.input) (givens_of m) hs
fold_gives me p boot c m [] = refl
fold_gives me p boot c m (h ∷ hs) =
    fold_gives me p boot c (remembers me (AtLeaf p) boot c m h) hs
    ∙ ap (λ g. fold (λ g h. gives_heard me boot g h.data_answer h.input) g hs)
    (remembers_gives me p boot c m h.data_answer h.input)

pub manager_once : (me p : ProcessId) (tree : List TreeProcess) (n : Node) (c : Case)
    → IsOnce (memory_of (leaf_place me p tree) n c).active
unfolding memory_of
manager_once me p tree n c =
    subst (λ (g : Givens). IsOnce g.1) (sym (fold_gives me p (boot_of (kept n)) c fresh_memory n.heard))
    (once_fold me (boot_of (kept n)) (givens_of fresh_memory) n.heard tt)
