-- Where the lists of the branches are in the map.
use Rattle.std.proofs.Common.{rules, ◌≡◌, ◌+◌, ◌-◌, ◌≤◌, ◌<◌, ℕ, Bool, true, false, cond, Option, Some, None, List, [], ◌∷◌, refl, sym, ap, subst, ◌∙◌, arith, slice_get, position, option_map}
use Rattle.std.proofs.lemmas.Grind.{common_steps}
use Rattle.std.specs.Global.{Vec}
use Rattle.std.specs.List.{position_or_len}
use Rattle.std.specs.Map.{keys_of, lookup, values_of}
use Rattle.std.specs.Vec.{vec_capacity, vec_len}
use Rattle.std.specs.Prelude.{IfNone, IfSome}
use Rattle.indexmap.specs.IndexMap.{IndexMap, Updates, insert_entry, set_value_at}
use Rattle.indexmap.proofs.MapLemmas.{Found-position, Missing-position, insert_entry-first}
use Rattle.xa_xid.specs.declared.xid.Xid.{Xid}
use Rattle.protocol.specs.declared.records.Write.{Write}
use Rattle.protocol.specs.Plays.{with_write}
use Rattle.log_rules.specs.order.Orders.{names_key}
use Rattle.kv_store.specs.writes.Writes.{AreKept, HasRoomAt, LeavesWrites, SameWrites, is_within_limit, room_of, same, table_of, workspace_of, writes_in, writes_of}
use Rattle.kv_store.proofs.writes.Lists.{none_kept}
use Rattle.kv_store.proofs.writes.Tables.{Lists, kept_left, leaves, leaves_same, room_is, same_is, writes_are}

same_itself : (a : Xid) → same a a ≡ true
same_itself a = search rules

same_flips : (a b : Xid) → same a b ≡ false → same b a ≡ false
same_flips a b h = grind (arith, same_is b a, same_itself a)

-- the table has the keys of the map
keys_are : (es : Lists) → keys_of (table_of es) ≡ keys_of es
keys_are [] = refl
keys_are (e ∷ es) = ap (λ ks. e.0 ∷ ks) (keys_are es)

put_own : (es : Lists) (x : Xid) (v : Vec Write) → lookup (same x) (insert_entry same es x v) ≡ Some v
put_own [] x v = grind (arith, same_itself x)
put_own (e ∷ es) x v = grind (arith, put_own es x v)

put_others : (es : Lists) (x y : Xid) (v : Vec Write) → same x y ≡ false
    → lookup (same y) (insert_entry same es x v) ≡ lookup (same y) es
put_others [] x y v apart = grind (arith, same_flips x y apart)
put_others (e ∷ es) x y v apart =
    grind (arith, put_others es x y v apart, same_is x e.0, same_flips x y apart)

-- a list is after an insertion where its branch stood, or after all others
put_place : (es : Lists) (x : Xid) (v : Vec Write)
    → position (same x) (keys_of (insert_entry same es x v)) ≡ Some (position_or_len (same x) (keys_of es))
put_place [] x v = grind (arith, common_steps, same_itself x)
put_place (e ∷ es) x v = grind (arith, common_steps, put_place es x v)

-- the list of a branch is in the table where it is in the map
pub stands_is : (es : Lists) (x : Xid) (o : Option ℕ) → position (same x) (keys_of es) ≡ o
    → position (same x) (keys_of (table_of es)) ≡ o
stands_is es x o at = ap (position (same x)) (keys_are es) ∙ at

-- the list at the place of a branch is its own
pub list_at : (es : Lists) (x : Xid) (i : ℕ) (v : Vec Write) → position (same x) (keys_of es) ≡ Some i
    → slice_get (values_of es) i ≡ Some v → lookup (same x) es ≡ Some v
list_at es x i v at is = (Found-position (same x) es i at).value ∙ is

-- a list that is written at the place of a branch is put at the branch
set_is_put : (es : Lists) (x : Xid) (i : ℕ) (v : Vec Write) → position (same x) (keys_of es) ≡ Some i
    → set_value_at es i v ≡ insert_entry same es x v
set_is_put es x i v at = sym (insert_entry-first same x v es i (Found-position (same x) es i at).first)

-- the map has another list at a branch
module _ (es fs : Lists) (x : Xid) (v : Vec Write) (put : fs ≡ insert_entry same es x v) where
  own : lookup (same x) fs ≡ Some v
  own = ap (lookup (same x)) put ∙ put_own es x v

  each : (y : Xid) → lookup (same y) fs ≡ cond (same x y) (Some v) (lookup (same y) es)
  each y = by_test (same x y) refl
    where
      by_test : (b : Bool) → same x y ≡ b → lookup (same y) fs ≡ cond b (Some v) (lookup (same y) es)
      by_test true e = subst (λ z. lookup (same z) fs ≡ Some v) (same_is x y e) own
      by_test false e = ap (lookup (same y)) put ∙ put_others es x y v e

  put_leaves : (ws : List Write) → v.items ≡ ws → LeavesWrites (table_of es) (table_of fs) x ws
  put_leaves ws is = leaves es fs x (Some v) ws each own is

  put_stays : (o : Option (Vec Write)) → lookup (same x) es ≡ o
      → v.items ≡ writes_in (option_map workspace_of o)
      → SameWrites (table_of es) (table_of fs)
  put_stays o had is = leaves_same _ _ x
      (put_leaves (writes_of (table_of es) x) (is ∙ sym (writes_are es x o had)))

  put_room : (place : ℕ) → place ≡ position_or_len (same x) (keys_of es) → vec_len v + 1 ≤ vec_capacity v
      → HasRoomAt (table_of fs) x place
  put_room place at fits = record {
    stands = stands_is fs x (Some place) (ap (λ gs. position (same x) (keys_of gs)) put ∙ put_place es x v
        ∙ ap Some (sym at));
    room = let room : room_of (table_of fs) x ≡ vec_capacity v - vec_len v = room_is fs x (Some v) own in
        omega arith;
  }

-- a list without a write begins at a branch that has none
pub begun_stays : (es fs : Lists) (x : Xid) (v : Vec Write) → fs ≡ insert_entry same es x v
    → lookup (same x) es ≡ None
    → v.items ≡ [] → SameWrites (table_of es) (table_of fs)
begun_stays es fs x v put none empty = put_stays es fs x v put None none empty

pub begun_room : (es fs : Lists) (x : Xid) (v : Vec Write) (place : ℕ) → fs ≡ insert_entry same es x v
    → place ≡ position_or_len (same x) (keys_of es) → vec_len v ≡ 0
    → 1 ≤ vec_capacity v → HasRoomAt (table_of fs) x place
begun_room es fs x v place put at empty fits = put_room es fs x v put place at (omega arith)

-- the list at the place of a branch grows
module _ (es : Lists) (x : Xid) (i : ℕ) (w v : Vec Write) (at : position (same x) (keys_of es) ≡ Some i)
    (had : slice_get (values_of es) i ≡ Some w) (is : v.items ≡ w.items) where
  pub grown_stays : SameWrites (table_of es) (table_of (set_value_at es i v))
  grown_stays = put_stays es (set_value_at es i v) x v (set_is_put es x i v at) (Some w)
      (list_at es x i w at had) is

  pub grown_room : vec_len v + 1 ≤ vec_capacity v → HasRoomAt (table_of (set_value_at es i v)) x i
  grown_room fits = put_room es (set_value_at es i v) x v (set_is_put es x i v at) i
      (sym (Found-position (same x) es i at).or_len) fits

-- the list at the place of a branch has room
pub room_at : (es : Lists) (x : Xid) (i : ℕ) (w : Vec Write) → HasRoomAt (table_of es) x i
    → slice_get (values_of es) i ≡ Some w → vec_len w < vec_capacity w
room_at es x i w has had =
    let at : position (same x) (keys_of es) ≡ Some i =
    ap (position (same x)) (sym (keys_are es)) ∙ has.stands in
    let room : room_of (table_of es) x ≡ vec_capacity w - vec_len w =
    room_is es x (Some w) (list_at es x i w at had) in
    let some = has.room in
    omega arith

-- a write is put into the list at the place of a branch
pub wrote_at : (es : Lists) (x : Xid) (i : ℕ) (w v : Vec Write) (k : List ℕ) (u : Option (List ℕ))
    → position (same x) (keys_of (table_of es)) ≡ Some i → slice_get (values_of es) i ≡ Some w
    → v.items ≡ with_write w.items k u → LeavesWrites (table_of es) (table_of (set_value_at es i v)) x
    (with_write (writes_of (table_of es) x) k u)
wrote_at es x i w v k u stands had is =
    let at : position (same x) (keys_of es) ≡ Some i = ap (position (same x)) (sym (keys_are es)) ∙ stands in
    put_leaves es (set_value_at es i v) x v (set_is_put es x i v at) _ (is ∙ ap (λ ws. with_write ws k u)
    (sym (writes_are es x (Some w) (list_at es x i w at had))))

-- what a branch has written is the list at its place
pub writes_at : (es : Lists) (x : Xid) (i : ℕ) (v : Vec Write) → position (same x) (keys_of es) ≡ Some i
    → slice_get (values_of es) i ≡ Some v → writes_of (table_of es) x ≡ v.items
writes_at es x i v at had = writes_are es x (Some v) (list_at es x i v at had)

-- a branch that has written nothing may write any key
pub none_within : (es : Lists) (x : Xid) (k : List ℕ) → lookup (same x) es ≡ None
    → is_within_limit (writes_of (table_of es) x) k ≡ true
unfolding names_key
none_within es x k none = ap (λ ws. is_within_limit ws k) (writes_are es x None none)

-- a branch has no list in the table if it has none in the map
pub not_listed : (es : Lists) (x : Xid) → position (same x) (keys_of (table_of es)) ≡ None
    → writes_of (table_of es) x ≡ []
not_listed es x none = writes_are es x None
    (Missing-position (same x) es (ap (position (same x)) (sym (keys_are es)) ∙ none)).value

-- where the table has the list of a branch, the map has it
pub listed : (es : Lists) (x : Xid) (o : Option ℕ) → position (same x) (keys_of (table_of es)) ≡ o
    → position (same x) (keys_of es) ≡ o
listed es x o stands = ap (position (same x)) (sym (keys_are es)) ∙ stands

-- A list is taken out.

-- the map has lost the list of a branch
pub taken_out : {H : Type 0} (m n : IndexMap Xid (Vec Write) H) (x : Xid) → Updates same m n x None
    → LeavesWrites (table_of m.entries) (table_of n.entries) x []
taken_out m n x out = leaves m.entries n.entries x None [] out.0 out.1 refl

-- what each branch has is what a branch can have written, whichever entry is taken out
pub kept_taken : {H : Type 0} (m n : IndexMap Xid (Vec Write) H) (r : Option (Xid × Vec Write))
    → AreKept (table_of m.entries) → IfSome r (λ e. Updates same m n e.0 None)
    → IfNone r (n.entries ≡ m.entries) → AreKept (table_of n.entries)
kept_taken m n None kept out stays = subst (λ es. AreKept (table_of es)) (sym stays) kept
kept_taken m n (Some e) kept out stays = kept_left _ _ e.0 [] kept (taken_out m n e.0 out) none_kept

-- a branch without a list stays without writes
pub not_taken : (es : Lists) (x : Xid) → position (same x) (keys_of (table_of es)) ≡ None
    → LeavesWrites (table_of es) (table_of es) x []
not_taken es x none = record { own = not_listed es x none; others = λ y apart. refl }
