-- What a tree says of a process is what the first entry of it says.
use Rattle.std.proofs.Common.{◌≡◌, Bool, true, false, List, [], ◌∷◌, Option, Some, None, refl, if◌then◌else◌, find}
use Rattle.protocol.specs.declared.names.ProcessId.{ProcessId}
use Rattle.protocol.specs.declared.trees.TreeProcess.{TreeProcess}
use Rattle.protocol.specs.Names.{same_process}
use Rattle.protocol.specs.Nodes.{Role, is_child, is_parent, is_leaf, role_by, role_of}

abbrev pub child_by : ProcessId → Option TreeProcess → Bool
child_by p None = false
child_by p (Some e) = is_parent p e.parent

child_by_test : {below : Bool} (p : ProcessId) (e : TreeProcess) (b : Bool)
    (found : Option TreeProcess) → below ≡ child_by p found
    → (if b then is_parent p e.parent else below) ≡ child_by p (if b then Some e else found)
child_by_test p e true found h = refl
child_by_test p e false found h = h

pub child_of_entry : (es : List TreeProcess) (q p : ProcessId)
    → is_child es q p ≡ child_by p (find (λ e. same_process e.id q) es)
unfolding is_child
child_of_entry [] q p = refl
child_of_entry (e ∷ es) q p = child_by_test p e (same_process e.id q)
    (find (λ e. same_process e.id q) es) (child_of_entry es q p)

abbrev pub leaf_by : Option TreeProcess → Bool
leaf_by None = false
leaf_by (Some e) = is_leaf (role_by e.kind e.parent)

leaf_by_test : (e : TreeProcess) (b : Bool) (below : Role) (found : Option TreeProcess)
    → is_leaf below ≡ leaf_by found
    → is_leaf (if b then role_by e.kind e.parent else below) ≡ leaf_by (if b then Some e else found)
leaf_by_test e true below found h = refl
leaf_by_test e false below found h = h

pub leaf_of_entry : (es : List TreeProcess) (q : ProcessId)
    → is_leaf (role_of es q) ≡ leaf_by (find (λ e. same_process e.id q) es)
unfolding role_of
leaf_of_entry [] q = refl
leaf_of_entry (e ∷ es) q = leaf_by_test e (same_process e.id q) (role_of es q)
    (find (λ e. same_process e.id q) es) (leaf_of_entry es q)
