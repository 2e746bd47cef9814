-- A branch at work names no key that another promised, and there is room for its promise.
use Rattle.std.proofs.Common.{◌≡◌, ◌<◌, ℕ, Bool, true, false, not, ◌&&◌, ◌||◌, cond, List, [], ◌∷◌, Option, Some, None, map, refl, sym, ap, ◌∙◌, is_some, length, arith}
use Rattle.std.specs.Prelude.{IsSome}
use Rattle.std.proofs.lemmas.Map.Steps.{length-le_from_keys}
use Rattle.std.proofs.lemmas.Map.Entries.{length-keys_of}
use Rattle.std.specs.List.{AllByRecursion, IsDistinct, list_any}
use Rattle.std.specs.Map.{keys_of, lookup}
use Rattle.xa_xid.specs.declared.xid.Xid.{Xid}
use Rattle.protocol.specs.declared.records.Write.{Write}
use Rattle.protocol.specs.Records.{same_bytes}
use Rattle.log_rules.specs.declared.order.seen.Promise.{Promise}
use Rattle.log_rules.specs.order.Orders.{holds, is_open, key_open, keys_free, names_key, opens, promised_by, same}
use Rattle.kv_store.proofs.Order.{same_itself as key_itself}
use Rattle.kv_state.proofs.Lookups.{Live, same_is, same_itself, same_laws, true_is_false}

both : (a b : Bool) → (a && b) ≡ true → (a ≡ true) × (b ≡ true)
both true true h = (refl, refl)
both true false h = absurd (cc)
both false b h = absurd (cc)

-- none of these keys is of a branch that is not found
not_among : (x : Xid) (es : Live) → AllByRecursion (λ y. same x y ≡ false) (keys_of es)
    → lookup (same x) es ≡ None
not_among x [] all = refl
not_among x (e ∷ es) all = ap (λ b. cond b (Some e.1) (lookup (same x) es)) all.0 ∙ not_among x es all.1

pub apart_all : (x : Xid) (es : Live) → is_some (lookup (same x) es) ≡ false
    → AllByRecursion (λ y. same x y ≡ false) (keys_of es)
apart_all x [] h = tt
apart_all x (e ∷ es) h = by_test (same x e.0) refl h (apart_all x es)
  where
    by_test : (b : Bool) → same x e.0 ≡ b → is_some (cond b (Some e.1) (lookup (same x) es)) ≡ false
        → (is_some (lookup (same x) es) ≡ false → AllByRecursion (λ y. same x y ≡ false) (keys_of es))
        → AllByRecursion (λ y. same x y ≡ false) (keys_of (e ∷ es))
    by_test true t g more = absurd (cc)
    by_test false t g more = (t, more g)

-- A key that is open.

-- the key is of a write that this open branch promised
pub record IsOf (es : Live) (k : List ℕ) : Type 0 where
  pub branch : Xid
  pub opened : is_open (lookup (same branch) es) ≡ true
  pub named : names_key (promised_by (lookup (same branch) es)) k ≡ true

names_own : (b : Bool) (ws : List Write) (k : List ℕ) → b ≡ true → names_key ws k ≡ true
    → names_key (cond b ws []) k ≡ true
names_own true ws k e h = h
names_own false ws k e h = absurd (cc)

pub open_key : (es : Live) (k : List ℕ) → IsDistinct same (keys_of es)
    → key_open (map (λ e. e.1) es) k ≡ true → IsOf es k
unfolding key_open IsDistinct
open_key [] k d h = absurd (cc)
open_key (e ∷ es) k d h = by_test (holds e.1 k) refl h (open_key es k d.1)
  where
    own : holds e.1 k ≡ true → IsOf (e ∷ es) k
    own h =
        let parts = both (opens e.1.mark) (names_key e.1.writes k) h in
        record {
          branch = e.0;
          opened = ap (λ b. is_open (cond b (Some e.1) (lookup (same e.0) es))) (same_itself e.0) ∙ parts.0;
          named = ap (λ b. names_key (promised_by (cond b (Some e.1) (lookup (same e.0) es))) k)
              (same_itself e.0)
              ∙ names_own (opens e.1.mark) e.1.writes k parts.0 parts.1;
        }

    apart : (y : Xid) → is_open (lookup (same y) es) ≡ true → (b : Bool) → same y e.0 ≡ b → b ≡ false
    apart y opened false t = refl
    apart y opened true t =
        true_is_false (sym opened ∙ ap (λ z. is_open (lookup (same z) es)) (same_is y e.0 t)
        ∙ ap is_open (not_among e.0 es d.0))

    by_test : (b : Bool) → holds e.1 k ≡ b → (b || key_open (map (λ e. e.1) es) k) ≡ true
        → (key_open (map (λ e. e.1) es) k ≡ true → IsOf es k) → IsOf (e ∷ es) k
    by_test true t g more = own t
    by_test false t g more =
        let of = more g in
        let other : same of.branch e.0 ≡ false = apart of.branch of.opened (same of.branch e.0) refl in
        record {
          branch = of.branch;
          opened = ap (λ b. is_open (cond b (Some e.1) (lookup (same of.branch) es))) other ∙ of.opened;
          named = ap (λ b. names_key (promised_by (cond b (Some e.1) (lookup (same of.branch) es))) k) other
              ∙ of.named;
        }

-- writes are free each key of which is of no open branch
pub free_where : (ps : List Promise) (ws : List Write)
    → ((k : List ℕ) → names_key ws k ≡ true → key_open ps k ≡ false) → keys_free ps ws ≡ true
unfolding keys_free names_key
free_where ps [] shut = refl
free_where ps (w ∷ ws) shut =
    by_parts (key_open ps w.key) (keys_free ps ws)
    (shut w.key (ap (λ b. b || names_key ws w.key) (key_itself w.key)))
    (free_where ps ws (λ k h. shut k (ap (λ b. same_bytes w.key k || b) h ∙ or_true (same_bytes w.key k))))
  where
    or_true : (b : Bool) → (b || true) ≡ true
    or_true true = refl
    or_true false = refl

    by_parts : (a b : Bool) → a ≡ false → b ≡ true → (not a && b) ≡ true
    by_parts a b p q = ap (λ c. not c && b) p ∙ q

-- How many there are.

any_found : (q : Xid) (es : Live) → list_any (same q) (keys_of es) ≡ is_some (lookup (same q) es)
any_found q [] = refl
any_found q (e ∷ es) = by_test (same q e.0) (any_found q es)
  where
    by_test : (b : Bool) → list_any (same q) (keys_of es) ≡ is_some (lookup (same q) es)
        → (b || list_any (same q) (keys_of es)) ≡ is_some (cond b (Some e.1) (lookup (same q) es))
    by_test true h = refl
    by_test false h = h

is_there : {A : Type 0} (o : Option A) → is_some o ≡ true → IsSome o
is_there o h = h

-- with one that is known and not among them, branches that are all known are fewer than the known ones
pub fewer : {V : Type 0} (es : Live) (x : Xid) (bs : List (Xid × V)) → IsDistinct same (keys_of es)
    → is_some (lookup (same x) es) ≡ false → is_some (lookup (same x) bs) ≡ true
    → ((y : Xid) → is_some (lookup (same y) es) ≡ true → is_some (lookup (same y) bs) ≡ true)
    → length es < length bs
unfolding IsDistinct
fewer {V} es x bs d off own each =
    let all = length-le_from_keys same_laws (x ∷ keys_of es) bs (apart_all x es off, d) within in
    let long = length-keys_of es in
    omega (arith, all, long)
  where
    within : (q : Xid) → list_any (same q) (x ∷ keys_of es) ≡ true → IsSome (lookup (same q) bs)
    within q h = is_there (lookup (same q) bs) (by_test (same q x) refl h)
      where
        by_test : (b : Bool) → same q x ≡ b → (b || list_any (same q) (keys_of es)) ≡ true
            → is_some (lookup (same q) bs) ≡ true
        by_test true t g = ap (λ z. is_some (lookup (same z) bs)) (same_is q x t) ∙ own
        by_test false t g = each q (sym (any_found q es) ∙ g)
