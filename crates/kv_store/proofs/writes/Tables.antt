-- The branches' writes, as the map holds them.
use Rattle.std.proofs.Common.{rules, ◌≡◌, Bool, true, false, cond, Option, Some, List, [], ◌∷◌, subst, refl, sym, ap, ◌∙◌, option_map}
use Rattle.std.specs.Global.{Vec}
use Rattle.std.specs.Map.{lookup}
use Rattle.xa_xid.specs.declared.xid.Xid.{Xid}
use Rattle.protocol.specs.declared.records.Write.{Write}
use Rattle.kv_store.specs.writes.Writes.{AreKept, AreWrites, LeavesWrites, SameWrites, Workspace, room_of, room_in, same, table_of, workspace_of, writes_in, writes_of}
use Rattle.kv_store.proofs.writes.Lists.{none_kept}

pub same_is : (a b : Xid) → same a b ≡ true → a ≡ b
same_is a b h = search rules

-- what the map holds
abbrev pub Lists : Type 0
Lists = List (Xid × Vec Write)

-- what the table says of a branch is what the map holds
pub space_is : (es : Lists) (x : Xid) → lookup (same x) (table_of es)
    ≡ option_map workspace_of (lookup (same x) es)
space_is [] x = refl
space_is (e ∷ es) x = by_test (same x e.0) (space_is es x)
  where
    by_test : (b : Bool) → lookup (same x) (table_of es) ≡ option_map workspace_of (lookup (same x) es)
        → cond b (Some (workspace_of e.1)) (lookup (same x) (table_of es))
        ≡ option_map workspace_of (cond b (Some e.1) (lookup (same x) es))
    by_test true h = refl
    by_test false h = h

pub writes_are : (es : Lists) (x : Xid) (o : Option (Vec Write)) → lookup (same x) es ≡ o
    → writes_of (table_of es) x ≡ writes_in (option_map workspace_of o)
writes_are es x o found = ap writes_in (space_is es x ∙ ap (option_map workspace_of) found)

pub room_is : (es : Lists) (x : Xid) (o : Option (Vec Write)) → lookup (same x) es ≡ o
    → room_of (table_of es) x ≡ room_in (option_map workspace_of o)
room_is es x o found = ap room_in (space_is es x ∙ ap (option_map workspace_of) found)

-- the map has another list at one branch
pub leaves : (es fs : Lists) (x : Xid) (o : Option (Vec Write)) (ws : List Write)
    → ((y : Xid) → lookup (same y) fs ≡ cond (same x y) o (lookup (same y) es))
    → lookup (same x) fs ≡ o → writes_in (option_map workspace_of o) ≡ ws
    → LeavesWrites (table_of es) (table_of fs) x ws
leaves es fs x o ws each here is = record {
  own = writes_are fs x o here ∙ is;
  others = λ y apart. writes_are fs y (lookup (same y) es)
      (each y ∙ ap (λ b. cond b o (lookup (same y) es)) apart)
      ∙ sym (writes_are es y (lookup (same y) es) refl);
}

pub leaves_same : (t u : List (Xid × Workspace)) (x : Xid) → LeavesWrites t u x (writes_of t x)
    → SameWrites t u
leaves_same t u x left y = by_test (same x y) refl
  where
    by_test : (b : Bool) → same x y ≡ b → writes_of u y ≡ writes_of t y
    by_test true e = subst (λ z. writes_of u z ≡ writes_of t z) (same_is x y e) left.own
    by_test false e = left.others y e

-- what a branch can have written stays so
pub kept_left : (t u : List (Xid × Workspace)) (x : Xid) (ws : List Write) → AreKept t
    → LeavesWrites t u x ws → AreWrites ws → AreKept u
kept_left t u x ws kept left new y = by_test (same x y) refl
  where
    by_test : (b : Bool) → same x y ≡ b → AreWrites (writes_of u y)
    by_test true e = subst AreWrites (sym left.own ∙ ap (writes_of u) (same_is x y e)) new
    by_test false e = subst AreWrites (sym (left.others y e)) (kept y)

pub kept_same : (t u : List (Xid × Workspace)) → AreKept t → SameWrites t u → AreKept u
kept_same t u kept stays y = subst AreWrites (sym (stays y)) (kept y)

pub kept_nothing : (es : Lists) → es ≡ [] → AreKept (table_of es)
kept_nothing es none x = subst (λ fs. AreWrites (writes_of (table_of fs) x)) (sym none) none_kept
