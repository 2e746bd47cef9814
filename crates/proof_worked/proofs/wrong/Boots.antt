-- The restart that gives out the last boot again: the ticket that was given in it is not after what is
-- given next.
use Rattle.std.proofs.Common.{◌≡◌, inl, inr, ℕ, true, false, List, refl, arith}
use Rattle.protocol.specs.declared.names.Presumption.TheVariants.{PresumeAbort}
use Rattle.protocol.specs.declared.names.ProcessId.{ProcessId}
use Rattle.protocol.specs.declared.messages.Envelope.{Envelope}
use Rattle.protocol.specs.Memory.{memory_of}
use Rattle.protocol.specs.Nodes.{Role, AtLeaf, Place, place_of, role_of, is_listed, Node, kept}
use Rattle.protocol.specs.Outcomes.{sent, is_joined_message}
use Rattle.protocol.specs.Records.{boot_of}
use Rattle.protocol.specs.Rows.{process, tree_a}
use Rattle.protocol.specs.Standings.{some_case}
use Rattle.proof_processes.specs.WorldHolds.{WorldHolds, RoleHolds, Issues, IsGivenOut}
use Rattle.proof_worked.specs.wrong.WrongSteps.{Breaks}
use Rattle.proof_worked.specs.wrong.WrongBodies.{top, second}
use Rattle.proof_worked.specs.wrong.WrongBodies
use Rattle.proof_worked.proofs.wrong.Computing.{computing}
use Rattle.proof_worked.proofs.wrong.PlayedRuns.{goes_on}
use Rattle.proof_worked.proofs.wrong.Breaking.{play_of, left_by, by_world}
use Rattle.proof_worked.proofs.wrong.Trees.{tree_a_is_tree}

-- what holds of a manager, by its role
leaf_issues : (r : Role) (p : ProcessId) (place : Place) (net : List Envelope) (n : Node) → r ≡ AtLeaf p
    → RoleHolds r place net n → Issues place net n
leaf_issues (AtLeaf q) p place net n e h = h.1
leaf_issues _ p place net n e h = absurd (cc)

-- in this boot no ticket was given, so the first one was not given in it
not_given_out : (now count : ℕ) → now ≡ 1 → count ≡ 0 → IsGivenOut 1 1 now count → ⊥
not_given_out now count e f (inl less) = omega arith
not_given_out now count e f (inr both) = omega arith

abbrev restarted : Node
restarted = (left_by WrongBodies.boot_reused).at (process 2)

abbrev place : Place
place = place_of tree_a (process 2)

reused_goes : goes_on (play_of WrongBodies.boot_reused) ≡ true
unfolding computing
reused_goes = refl

second_listed : is_listed tree_a (process 2) ≡ true
unfolding computing
second_listed = refl

second_role : role_of tree_a (process 2) ≡ AtLeaf (process 1)
unfolding computing
second_role = refl

is_up : restarted.failed ≡ false
unfolding computing
is_up = refl

was_joined : sent (is_joined_message (top PresumeAbort) second) (left_by WrongBodies.boot_reused).net ≡ true
unfolding computing
was_joined = refl

boot_now : boot_of (kept restarted) ≡ 1
unfolding computing
boot_now = refl

given_now : (memory_of place restarted (some_case place)).given ≡ 0
unfolding computing
given_now = refl

falls : WorldHolds tree_a (left_by WrongBodies.boot_reused) → ⊥
falls holds =
    let node = holds.nodes (process 2) second_listed in
    let issues = leaf_issues (role_of tree_a (process 2)) (process 1) place
    (left_by WrongBodies.boot_reused).net
    restarted second_role node.role in
    not_given_out (boot_of (kept restarted)) (memory_of place restarted (some_case place)).given boot_now
    given_now (issues.given_once is_up (top PresumeAbort) second refl was_joined)

pub boot_reused : Breaks WrongBodies.boot_reused
boot_reused = by_world WrongBodies.boot_reused reused_goes refl tree_a_is_tree tt falls
