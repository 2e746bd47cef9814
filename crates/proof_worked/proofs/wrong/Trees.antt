-- The trees of the wrong steps, and their pairs.
use Rattle.std.proofs.Common.{refl}
use Rattle.protocol.specs.declared.names.Presumption.{Presumption}
use Rattle.protocol.specs.Rows.{tree_a, tree_b, tree_c}
use Rattle.protocol.specs.Trees.{IsTree}
use Rattle.proof_processes.specs.WorldHolds.{IsPair}
use Rattle.proof_worked.specs.wrong.WrongBodies.{top, case_at, second, third}
use Rattle.proof_worked.proofs.wrong.Computing.{computing}

pub tree_a_is_tree : IsTree tree_a
unfolding computing
tree_a_is_tree = record {
  not_empty = refl;
  not_too_many = refl;
  listed_once = refl;
  parents_listed = refl;
  climbs_end = refl;
  one_coordinator_on_top = refl;
  managers_are_leaves = refl;
  not_too_deep = refl;
}

pub tree_b_is_tree : IsTree tree_b
unfolding computing
tree_b_is_tree = record {
  not_empty = refl;
  not_too_many = refl;
  listed_once = refl;
  parents_listed = refl;
  climbs_end = refl;
  one_coordinator_on_top = refl;
  managers_are_leaves = refl;
  not_too_deep = refl;
}

pub tree_c_is_tree : IsTree tree_c
unfolding computing
tree_c_is_tree = record {
  not_empty = refl;
  not_too_many = refl;
  listed_once = refl;
  parents_listed = refl;
  climbs_end = refl;
  one_coordinator_on_top = refl;
  managers_are_leaves = refl;
  not_too_deep = refl;
}

-- the root and manager 2; the root and manager 3; coordinator 2 and manager 3
pub root_and_second : (p : Presumption) → IsPair tree_a (top p) second
unfolding computing
root_and_second p = record {
  parent = record { listed = refl; role = tt; top_listed = refl; top = refl };
  listed = refl;
  child = refl;
}

pub root_and_third : (p : Presumption) → IsPair tree_a (top p) third
unfolding computing
root_and_third p = record {
  parent = record { listed = refl; role = tt; top_listed = refl; top = refl };
  listed = refl;
  child = refl;
}

pub second_and_third : (p : Presumption) → IsPair tree_b (case_at p second) third
unfolding computing
second_and_third p = record {
  parent = record { listed = refl; role = tt; top_listed = refl; top = refl };
  listed = refl;
  child = refl;
}

-- the same where the root has another manager
pub second_and_third_of_c : (p : Presumption) → IsPair tree_c (case_at p second) third
unfolding computing
second_and_third_of_c p = record {
  parent = record { listed = refl; role = tt; top_listed = refl; top = refl };
  listed = refl;
  child = refl;
}
