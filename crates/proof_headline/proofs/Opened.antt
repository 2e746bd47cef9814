-- The world's invariant holds of a tree that was just opened.
use Rattle.std.proofs.Common.{◌≡◌, ◌∙◌, ◌⊎◌, inl, inr, ℕ, zero, suc, Bool, true, false, Option, Some, None, List, [], length, refl, sym, ap, subst, arith}
use Rattle.protocol.specs.declared.names.Case.{Case}
use Rattle.protocol.specs.declared.names.Presumption.{Presumption}
use Rattle.protocol.specs.declared.names.Presumption.TheVariants.{PresumeAbort, PresumeCommit}
use Rattle.protocol.specs.declared.names.Ticket.{Ticket}
use Rattle.protocol.specs.declared.standings.Standing.{Standing}
use Rattle.protocol.specs.declared.standings.Standing.TheVariants.{Unknown}
use Rattle.protocol.specs.declared.trees.TreeProcess.{TreeProcess}
use Rattle.protocol.specs.Names.{child_case, process_of}
use Rattle.protocol.specs.Records.{has, in_list, none_of, owing_by}
use Rattle.protocol.specs.Nodes.{Role, AtRoot, Below, AtLeaf, Place, is_leaf, kept, opened_node, place_of, role_of}
use Rattle.protocol.specs.Memory.{Asked, Idle, Open, Phase, active_ticket, has_acked, memory_of}
use Rattle.protocol.specs.Standings.{coordinator_view, manager_view, mark_of, standing_in}
use Rattle.protocol.specs.Outcomes.{is_commit_outcome, sent}
use Rattle.protocol.specs.Views.{IsOpenAlike}
use Rattle.protocol.specs.World.{opened_world}
use Rattle.proof_pairs.specs.Opened.{opened}
use Rattle.proof_pairs.proofs.Opened.{opened_abort, opened_commit}
use Rattle.proof_pairs.specs.readings.ReadingOf.{ChildHalf, ParentHalf, child_half, child_half_at, is_dead, is_root_ticket, parent_half, parent_half_at, reading_from, wire}
use Rattle.proof_processes.specs.WorldHolds.{RootHolds, Branches, Cascades, Coordinates, InvariantOf, Issues, NamesBy, NodeHolds, RoleHolds, WorldHolds, pair_reading, part_within, takes_part}
use Rattle.proof_processes.proofs.Lasting.{opened_lasts}

-- One process.

opened_phase : (place : Place) (c : Case) → (memory_of place opened_node c).phase ≡ Idle
unfolding memory_of
opened_phase place c = refl

neither_phase : {A : Type 0} (p : Phase) → p ≡ Idle → (p ≡ Open) ⊎ (p ≡ Asked) → A
neither_phase p e (inl f) = absurd (let y = sym f ∙ e in cc)
neither_phase p e (inr f) = absurd (let y = sym f ∙ e in cc)

opened_view : (place : Place) (c : Case) → (coordinator_view place opened_node c).standing ≡ Unknown
unfolding coordinator_view memory_of has none_of
opened_view place c = refl

opened_branch : (place : Place) (c : Case) → (manager_view place opened_node c).standing ≡ Unknown
unfolding manager_view memory_of mark_of
opened_branch place c = refl

opened_standing : (role : Role) (place : Place) (c : Case) → standing_in role place opened_node c ≡ Unknown
opened_standing AtRoot place c = opened_view place c
opened_standing (Below p) place c = opened_view place c
opened_standing (AtLeaf p) place c = opened_branch place c

opened_alike : (place : Place) (c : Case) → IsOpenAlike place opened_node c
unfolding has
opened_alike place c = record {
  open_is_active = λ e. neither_phase _ (opened_phase place c) (inl e);
  asked_is_collecting = λ e. neither_phase _ (opened_phase place c) (inr e);
  collecting_is_asked = λ e. absurd (let y = sym (opened_view place c) ∙ e in cc);
  no_record_collects = λ e. refl;
}

opened_names : (p : Presumption) (c : Case) → NamesBy p c (kept opened_node)
unfolding has none_of owing_by
opened_names PresumeAbort c = (λ e. absurd (cc), λ e. absurd (cc))
opened_names PresumeCommit c = λ e. absurd (cc)

opened_coordinates : (place : Place) → Coordinates place [] opened_node
unfolding has memory_of in_list sent
opened_coordinates place = record {
  alike = λ up c. opened_alike place c;
  votes = λ up c t v e. neither_phase _ (opened_phase place c) e;
  remembered_accepted = λ c t e. absurd (cc);
  named_accepted = λ c t e. absurd (cc);
  voted_accepted = λ c t v e. absurd (cc);
  accepted_was_joined = λ c t e. absurd (cc);
  in_order = λ c. record {
    promise_commit = refl;
    promise_abort = refl;
    collecting_promise = refl;
    collecting_commit = refl;
    collecting_abort = refl;
    collecting_end = refl;
    commit_end = refl;
    abort_end = refl;
  };
  names = λ c. opened_names c.txn.presumption c;
  promise_names = λ c e. absurd (cc);
  open_has_no_commit = λ up c e. refl;
}

opened_cascades : (place : Place) → Cascades place [] opened_node
unfolding memory_of in_list
opened_cascades place = record {
  accepted_is_given = λ c t e. absurd (cc);
  issued = λ c e. absurd (e (opened_phase place c));
  idle_accepts_none = λ c t e. refl;
  asked_was_prepared = λ up c e. neither_phase _ (opened_phase place c) (inr e);
}

opened_issues : (place : Place) → Issues place [] opened_node
unfolding has memory_of sent active_ticket
opened_issues place = record {
  given_once = λ up d t own e. absurd (cc);
  given_before = λ d t own e. absurd (cc);
  recorded_is_given = λ d e. absurd (cc);
  remembered_is_given = λ up d e. absurd (e (opened_phase place d));
  active_was_joined = λ up d e t f. absurd (cc);
  promised_was_asked = λ d e. absurd (cc);
}

opened_begins : (place : Place) → RootHolds place opened_node
unfolding has memory_of
opened_begins place = record {
  begun_once = λ up x e. absurd (cc);
  begun_before = λ x e. absurd (cc);
  own_records = λ d e. absurd (cc);
  accepted_is_begun = λ d t e. absurd (cc);
  own_memory = λ d e. absurd (e (opened_phase place d));
  told_never_commits = λ x e. absurd (cc);
  aborted_never_commits = λ x e. absurd (cc);
  found_undecided_never_commits = λ x e. absurd (cc);
}

opened_branches : (place : Place) → Branches place opened_node
opened_branches place = record {
  open_is_unmarked = λ up d e. neither_phase _ (opened_phase place d) (inl e);
  accepts_none = refl;
}

opened_role : (role : Role) (place : Place) → RoleHolds role place [] opened_node
opened_role AtRoot place = (opened_coordinates place, opened_begins place)
opened_role (Below p) place = (opened_coordinates place, (opened_cascades place, opened_issues place))
opened_role (AtLeaf p) place = (opened_branches place, opened_issues place)

opened_holds : (place : Place) → NodeHolds place [] opened_node
unfolding memory_of
opened_holds place = record {
  lasts = opened_lasts place.role;
  boots = record { boot_is_forced = λ up. refl; boot_only_rises = omega arith };
  self = λ c d. record { begun = refl; given = refl; issued = refl; active = refl };
  role = opened_role place.role place;
}

-- One pair.

opened_up : (place : Place) (c : Case) (t : Ticket)
    → parent_half place opened_node c t
    ≡ parent_half_at Unknown (memory_of place opened_node c) opened_node c t
opened_up place c t = ap (λ (s : Standing). parent_half_at s (memory_of place opened_node c) opened_node c t)
    (opened_standing place.role place c)

opened_down : (place : Place) (d : Case) → child_half place opened_node d
    ≡ child_half_at Unknown opened_node d
opened_down place d = ap (λ (s : Standing). child_half_at s opened_node d)
    (opened_standing place.role place d)

read_so : (root leaf part : Bool) (place : Place) (c : Case) (t : Ticket) → (root ≡ false → part ≡ false)
    → reading_from root leaf false part
    (parent_half_at Unknown (memory_of place opened_node c) opened_node c t)
    (child_half_at Unknown opened_node (child_case c.txn t)) (wire c t []) ≡ opened root leaf
unfolding has memory_of in_list sent is_dead has_acked
read_so true leaf part place c t f = refl
read_so false leaf part place c t f = rw (f refl) refl

opened_part : (tree : List TreeProcess) (c : Case) → is_root_ticket c.ticket ≡ false
    → takes_part tree opened_world c ≡ false
unfolding takes_part
opened_part tree c e = by_climb (length tree) c.ticket refl
  where
    by_climb : (k : ℕ) (o : Option Ticket) → c.ticket ≡ o → part_within k tree opened_world c ≡ false
    by_climb k None f = absurd (let y = sym (ap is_root_ticket f) ∙ e in cc)
    by_climb zero (Some u) f = e
    by_climb (suc k) (Some u) f = rw f refl

opened_reading : (tree : List TreeProcess) (c : Case) (t : Ticket)
    → pair_reading tree opened_world c t ≡ opened (is_root_ticket c.ticket) (is_leaf (role_of tree t.child))
unfolding is_commit_outcome has
opened_reading tree c t =
    ap (λ (p : ParentHalf). reading_from (is_root_ticket c.ticket) (is_leaf (role_of tree t.child)) false
    (takes_part tree opened_world c) p (child_half (place_of tree t.child) opened_node (child_case c.txn t))
    (wire c t []))
    (opened_up (place_of tree (process_of c)) c t)
    ∙ (ap (λ (k : ChildHalf). reading_from (is_root_ticket c.ticket) (is_leaf (role_of tree t.child)) false
    (takes_part tree opened_world c)
    (parent_half_at Unknown (memory_of (place_of tree (process_of c)) opened_node c)
    opened_node c t) k (wire c t [])) (opened_down (place_of tree t.child) (child_case c.txn t))
    ∙ read_so (is_root_ticket c.ticket) (is_leaf (role_of tree t.child)) (takes_part tree opened_world c)
    (place_of tree (process_of c)) c t (opened_part tree c))

opened_has : (p : Presumption) (root leaf : Bool) → InvariantOf p (opened root leaf)
opened_has PresumeAbort root leaf = opened_abort root leaf
opened_has PresumeCommit root leaf = opened_commit root leaf

pub opened_world_holds : (tree : List TreeProcess) → WorldHolds tree opened_world
unfolding sent
opened_world_holds tree = record {
  nodes = λ q listed. opened_holds (place_of tree q);
  unlisted = λ q unlisted. refl;
  net = tt;
  joined_once = λ c d t e f. absurd (cc);
  about_given = λ d e. absurd (cc);
  pairs = λ c t pair free. subst (InvariantOf c.txn.presumption) (sym (opened_reading tree c t))
      (opened_has c.txn.presumption (is_root_ticket c.ticket) (is_leaf (role_of tree t.child)));
}
