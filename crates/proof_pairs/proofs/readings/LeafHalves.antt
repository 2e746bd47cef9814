-- What a manager's rows do to its half of a reading.
use Rattle.std.proofs.Common.{◌≡◌, Bool, true, false, ◌||◌, List, refl, arith}
use Rattle.protocol.specs.declared.names.Case.{Case}
use Rattle.protocol.specs.declared.names.ProcessId.{ProcessId}
use Rattle.protocol_words.specs.Variants.{CaseBranch, PreparedRecord}
use Rattle.protocol.specs.declared.records.Write.{Write}
use Rattle.protocol.specs.declared.trees.TreeProcess.{TreeProcess}
use Rattle.protocol.specs.NameLaws.{same_case-refl}
use Rattle.protocol.specs.Records.{same_branch}
use Rattle.protocol.specs.Nodes.{Place, AtLeaf, Node, kept, Heard, Effect, after}
use Rattle.protocol.specs.Memory.{memory_of}
use Rattle.protocol.specs.CoordinatorRows.{forced}
use Rattle.protocol.specs.Standings.{manager_view, mark_of, marked_branch}
use Rattle.protocol.specs.declared.standings.Standing.{Standing}
use Rattle.protocol.specs.declared.standings.Standing.TheVariants.{Prepared}
use Rattle.proof_pairs.specs.readings.ReadingOf.{child_half, child_half_at}
use Rattle.proof_pairs.specs.readings.Halves.{promised}
use Rattle.proof_pairs.proofs.readings.Lists.{has-push, has-nil, has-cons, has-history, mark_of-push}

ruleset lists = (has-push, has-nil, has-cons, has-history, mark_of-push, same_case-refl)

same_branch-refl : (d : Case) → same_branch (CaseBranch d) (CaseBranch d) ≡ true
unfolding same_branch
same_branch-refl d = same_case-refl d

leaf_view : (place : Place) (n : Node) (c : Case)
    → manager_view place n c ≡ marked_branch (memory_of place n c) (mark_of (CaseBranch c) (kept n))
unfolding manager_view
leaf_view place n c = refl

or_twice : (a b : Bool) → (a || (a || b)) ≡ (a || b)
or_twice a b = grind arith

-- the half, wherever the case stood before
half_promised : (s : Standing) (k : Node) (h : Heard) (e : Effect) (d : Case) (ws : List Write)
    → e.written ≡ forced (PreparedRecord (CaseBranch d) ws) → k.failed ≡ false
    → child_half_at Prepared (after k h e) d ≡ promised (child_half_at s k d)
half_promised s k h e d ws one up = rw (one, up) (simp (lists, or_twice))

-- where the case stands
stands_promised : (place : Place) (k : Node) (h : Heard) (e : Effect) (d : Case) (ws : List Write)
    → e.written ≡ forced (PreparedRecord (CaseBranch d) ws)
    → (manager_view place (after k h e) d).standing ≡ Prepared
stands_promised place k h e d ws one = rw (leaf_view, one) (simp (mark_of-push, same_branch-refl))

pub leaf_promised : (me p : ProcessId) (tree : List TreeProcess) (k : Node) (h : Heard) (e : Effect)
    (d : Case) (ws : List Write) → e.written ≡ forced (PreparedRecord (CaseBranch d) ws) → k.failed ≡ false
    → child_half (record { me = me; role = AtLeaf p; tree = tree }) (after k h e) d ≡ promised
    (child_half (record { me = me; role = AtLeaf p; tree = tree }) k d)
leaf_promised me p tree k h e d ws one up =
    let place : Place = record { me = me; role = AtLeaf p; tree = tree } in
    rw (stands_promised place k h e d ws one)
    (half_promised (manager_view place k d).standing k h e d ws one up)
