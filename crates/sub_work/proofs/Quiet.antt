-- A manager at which no thread is at work.
use Rattle.std.proofs.Common.{◌≡◌, ◌≢◌, ◌∙◌, ℕ, Bool, true, false, not, List, Option, Some, None, Ok, Result, refl, sym, ap, subst}
use Rattle.std.specs.Prelude.{◌||◌, is_some, unwrap_or, nat_lt, if◌then◌else◌}
use Rattle.std.specs.List.{list_any}
use Rattle.std.specs.Map.{lookup}
use Rattle.std.specs.Option.{option_map_or}
use Rattle.xa_codes.specs.declared.code.Code.{Code}
use Rattle.xa_tables.specs.Calls.{legal}
use Rattle.xa_tables.specs.Tables.{branch_rows}
use Rattle.xa_tables.specs.declared.call.Call.{Call}
use Rattle.xa_tables.specs.declared.call.Verb.{Verb}
use Rattle.xa_tables.specs.declared.states.BranchState.{BranchState}
use Rattle.xa_tables.specs.declared.states.BranchState.TheVariants.{S0}
use Rattle.xa_xid.specs.declared.xid.Xid.{Xid}
use Rattle.xa_xid.specs.Xids.{null_xid}
use Rattle.xa_assoc.specs.declared.held.Suspended.{Suspended}
use Rattle.xa_assoc.specs.Names.{same}
use Rattle.xa_assoc.specs.Associations.{AssocList, has_active, has_suspended, moved_of}
use Rattle.xa_branch.proofs.Names.{same_is}
use Rattle.xa_branch.specs.Branches.{is_known}
use Rattle.xa_assoc.specs.declared.states.States.{States}
use Rattle.xa_assoc.specs.Answers.{SameStates, is_held, state_at}
use Rattle.xa_assoc.specs.Ready.{finish_refusal, has_rows, is_closed, judged, ready, unless_refused}
use Rattle.resource_manager.specs.Sights.{ManagerSight}
use Rattle.sub_work.specs.Deeds.{IsIdle, IsQuiet}

-- no branch is held
pub not_held : (a : AssocList) (x : Xid) → IsQuiet a → is_held a x ≡ false
not_held a x quiet =
    let active : has_active a x ≡ false =
    ap (λ hs. list_any (λ e. option_map_or (λ y. same y x) e.1 false) hs) quiet.holders in
    let suspended : has_suspended a x ≡ false =
    ap (λ (ss : List Suspended). list_any (λ s. same s.xid x) ss) quiet.seats in
    ap (λ b. b || has_suspended a x || nat_lt 0 (moved_of a x)) active
    ∙ ap (λ b. b || nat_lt 0 (moved_of a x)) suspended ∙ ap (λ n. nat_lt 0 n) (quiet.moved x)

known_by : (o : Option BranchState) (s : BranchState) → unwrap_or o S0 ≡ s → (s ≡ S0 → ⊥) → is_some o ≡ true
known_by None s e n = absurd (n (sym e))
known_by (Some q) s e n = refl

-- a branch in a state but S0 is known
pub known : (m : States) (x : Xid) (s : BranchState) → state_at m x ≡ s → (s ≡ S0 → ⊥)
    → is_known m.branches.branches x ≡ true
known m x s e n = known_by (lookup (same x) m.branches.branches) s e n

abbrev by_checks : Code → Code → Code → Bool → Bool → Bool → Bool → Option Code
by_checks p i n closed null listed out =
    if closed then Some p else if null then Some i else if not listed then Some n
    else if out then Some p else None

none_by : (p i n : Code) (closed null listed out : Bool) → closed ≡ false → null ≡ false
    → listed ≡ true → out ≡ false
    → by_checks p i n closed null listed out ≡ None
none_by p i n false false true false a b c d = refl
none_by p i n true null listed out a b c d = absurd cc
none_by p i n false true listed out a b c d = absurd cc
none_by p i n false false false out a b c d = absurd cc
none_by p i n false false true true a b c d = absurd cc

out_by : (held has : Bool) → held ≡ false → has ≡ true → (held || not has) ≡ false
out_by false true a b = refl
out_by true has a b = absurd cc
out_by false false a b = absurd cc

-- a call that finishes a branch in a state for which the table has rows comes to one
pub ready_is : (m : ManagerSight) (v : Verb) (x : Xid) (flags : ℕ) (c : Call) (s : BranchState) → IsIdle m
    → same x null_xid ≡ false → legal v flags ≡ Ok c → state_at m.tables x ≡ s → (s ≡ S0 → ⊥)
    → has_rows (branch_rows s c) ≡ true → ready m.tables v x flags ≡ Ok c
ready_is m v x flags c s idle named is at here rows =
    let has : has_rows (branch_rows (state_at m.tables x) c) ≡ true =
    ap (λ (q : BranchState). has_rows (branch_rows q c)) at ∙ rows in
    let none : finish_refusal m.tables c x ≡ None =
    none_by _ _ _ (is_closed m.tables.init) (same x null_xid) (is_known m.tables.branches.branches x)
    (is_held m.tables.associations x || not (has_rows (branch_rows (state_at m.tables x) c)))
    (ap is_closed idle.opened) named (known m.tables x s at here)
    (out_by _ _ (not_held m.tables.associations x idle.quiet) has) in
    ap (λ (l : Result Call Code). judged m.tables x l) is ∙ ap (λ (o : Option Code). unless_refused o c) none

-- a manager that has not changed is idle as before
pub same_idle : (old new : ManagerSight) → SameStates old.tables new.tables → IsIdle old → IsIdle new
same_idle old new same idle = record {
  opened = same.init ∙ idle.opened;
  quiet = subst (λ (a : AssocList). IsQuiet a) (sym same.associations) idle.quiet;
}

named_by : (x : Xid) (b : Bool) → same x null_xid ≡ b → x ≢ null_xid → b ≡ false
named_by x true e n = absurd (n (same_is x null_xid e))
named_by x false e n = refl

-- a name that is not null
pub not_null : (x : Xid) → x ≢ null_xid → same x null_xid ≡ false
not_null x n = named_by x (same x null_xid) refl n
