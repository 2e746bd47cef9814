-- Each branch stands once, and no key is promised twice: each change keeps it.
use Rattle.std.proofs.Common.{◌≡◌, ℕ, Bool, true, false, not, ◌&&◌, ◌||◌, cond, List, [], ◌∷◌, Some, None, map, refl, sym, ap, subst, ◌∙◌}
use Rattle.std.specs.List.{IsDistinct}
use Rattle.std.specs.Map.{keys_of, lookup}
use Rattle.xa_xid.specs.declared.xid.Xid.{Xid}
use Rattle.protocol.specs.declared.records.Write.{Write}
use Rattle.protocol.specs.Records.{same_bytes}
use Rattle.log_rules.specs.declared.order.seen.DoubtMark.{DoubtMark}
use Rattle.log_rules.specs.declared.order.seen.DoubtMark.TheVariants.{Open}
use Rattle.log_rules.specs.declared.order.seen.Promise.{Promise}
use Rattle.log_rules.specs.order.Orders.{SeenLog, found, holds, key_open, keys_free, keys_once, names_key, opens, promised, promised_by, promises, same, with_promise, without_promise}
use Rattle.kv_store.proofs.Order.{same_is as key_is}
use Rattle.kv_state.specs.Replays.{IsOrderly}
use Rattle.kv_state.proofs.Lookups.{Live, apart_turns, distinct_out, distinct_put, found_out, found_put, same_is, same_itself, true_is_false}

-- the live branches are the same
pub orderly_stays : (s t : SeenLog) → t.live ≡ s.live → IsOrderly s → IsOrderly t
orderly_stays s t h o = record {
  distinct = subst (λ es. IsDistinct same (keys_of es)) (sym h) o.distinct;
  once = λ x. subst (λ es. keys_once (promised_by (lookup (same x) es)) ≡ true) (sym h) (o.once x);
  apart = λ x y k. subst (λ es. same x y ≡ false → names_key (promised_by (lookup (same x) es)) k ≡ true
      → names_key (promised_by (lookup (same y) es)) k ≡ false) (sym h) (o.apart x y k);
}

-- no other branch promised a key of this promise
abbrev pub IsApart : SeenLog → Xid → Promise → Type 0
IsApart s x p = (y : Xid) (k : List ℕ) → same x y ≡ false → names_key (promised_by (Some p)) k ≡ true
    → names_key (promised s y) k ≡ false

no_key : (a b : Bool) → (a ≡ true → b ≡ false) → b ≡ true → a ≡ false
no_key false b h e = refl
no_key true b h e = true_is_false (sym e ∙ h refl)

-- a branch has this promise now
pub orderly_put : (s : SeenLog) (x : Xid) (p : Promise) → keys_once (promised_by (Some p)) ≡ true
    → IsApart s x p
    → IsOrderly s → IsOrderly (with_promise s x p)
orderly_put s x p once apart o = record {
  distinct = distinct_put x p s.live o.distinct;
  once = λ y. ap (λ q. keys_once (promised_by q)) (found_put x y p s.live) ∙ once_by y (same y x);
  apart = λ y z k other names. ap (λ q. names_key (promised_by q) k) (found_put x z p s.live)
      ∙ apart_by y z k (same y x) (same z x) refl refl other
      (sym (ap (λ q. names_key (promised_by q) k) (found_put x y p s.live)) ∙ names);
}
  where
    once_by : (y : Xid) (b : Bool) → keys_once (promised_by (cond b (Some p) (found s y))) ≡ true
    once_by y true = once
    once_by y false = o.once y

    apart_by : (y z : Xid) (k : List ℕ) (a b : Bool) → same y x ≡ a → same z x ≡ b → same y z ≡ false
        → names_key (promised_by (cond a (Some p) (found s y))) k ≡ true
        → names_key (promised_by (cond b (Some p) (found s z))) k ≡ false
    apart_by y z k true true e f other names =
        true_is_false (sym (same_itself y) ∙ ap (same y) (same_is y x e ∙ sym (same_is z x f)) ∙ other)
    apart_by y z k true false e f other names = apart z k (apart_turns z x f) names
    apart_by y z k false true e f other names =
        no_key (names_key (promised_by (Some p)) k) (names_key (promised s y) k)
        (apart y k (apart_turns y x e)) names
    apart_by y z k false false e f other names = o.apart y z k other names

-- a branch is gone
pub orderly_out : (s : SeenLog) (x : Xid) → IsOrderly s → IsOrderly (without_promise s x)
unfolding keys_once names_key
orderly_out s x o = record {
  distinct = distinct_out x s.live o.distinct;
  once = λ y. ap (λ q. keys_once (promised_by q)) (found_out x y s.live o.distinct) ∙ once_by y (same x y);
  apart = λ y z k other names. ap (λ q. names_key (promised_by q) k) (found_out x z s.live o.distinct)
      ∙ apart_by y z k (same x y) (same x z) other
      (sym (ap (λ q. names_key (promised_by q) k) (found_out x y s.live o.distinct)) ∙ names);
}
  where
    once_by : (y : Xid) (b : Bool) → keys_once (promised_by (cond b None (found s y))) ≡ true
    once_by y true = refl
    once_by y false = o.once y

    apart_by : (y z : Xid) (k : List ℕ) (a b : Bool) → same y z ≡ false
        → names_key (promised_by (cond a None (found s y))) k ≡ true
        → names_key (promised_by (cond b None (found s z))) k ≡ false
    apart_by y z k a true other names = refl
    apart_by y z k true false other names = true_is_false (sym names)
    apart_by y z k false false other names = o.apart y z k other names

-- a promise that the order lets in

both : (a b : Bool) → (a && b) ≡ true → (a ≡ true) × (b ≡ true)
both true true h = (refl, refl)
both true false h = absurd (cc)
both false b h = absurd (cc)

neither : (a b : Bool) → (a || b) ≡ false → (a ≡ false) × (b ≡ false)
neither false false h = (refl, refl)
neither false true h = absurd (cc)
neither true b h = absurd (cc)

not_so : (a : Bool) → not a ≡ true → a ≡ false
not_so false h = refl
not_so true h = absurd (cc)

-- a key of writes that are free is of no open branch
free_key : (ps : List Promise) (ws : List Write) (k : List ℕ) → keys_free ps ws ≡ true → names_key ws k ≡ true
    → key_open ps k ≡ false
unfolding keys_free names_key
free_key ps [] k free names = true_is_false (sym names)
free_key ps (w ∷ ws) k free names =
    let parts = both (not (key_open ps w.key)) (keys_free ps ws) free in
    by_test (same_bytes w.key k) refl (not_so (key_open ps w.key) parts.0) names (free_key ps ws k parts.1)
  where
    by_test : (b : Bool) → same_bytes w.key k ≡ b → key_open ps w.key ≡ false → (b || names_key ws k) ≡ true
        → (names_key ws k ≡ true → key_open ps k ≡ false) → key_open ps k ≡ false
    by_test true e closed n rest = ap (key_open ps) (sym (key_is w.key k e)) ∙ closed
    by_test false e closed n rest = rest n

-- a key of no open branch is not promised by this one
closed_key : (es : Live) (y : Xid) (k : List ℕ) → key_open (map (λ e. e.1) es) k ≡ false
    → names_key (promised_by (lookup (same y) es)) k ≡ false
unfolding key_open names_key
closed_key [] y k closed = refl
closed_key (e ∷ es) y k closed =
    let parts = neither (holds e.1 k) (key_open (map (λ e. e.1) es) k) closed in
    by_test (same y e.0) (names_none (opens e.1.mark) e.1.writes parts.0) (closed_key es y k parts.1)
  where
    names_none : (b : Bool) (ws : List Write) → (b && names_key ws k) ≡ false
        → names_key (cond b ws []) k ≡ false
    names_none true ws h = h
    names_none false ws h = refl

    by_test : (b : Bool) → names_key (promised_by (Some e.1)) k ≡ false
        → names_key (promised_by (lookup (same y) es)) k ≡ false
        → names_key (promised_by (cond b (Some e.1) (lookup (same y) es))) k ≡ false
    by_test true own rest = own
    by_test false own rest = rest

pub apart_where_free : (s : SeenLog) (x : Xid) (ws : List Write) → keys_free (promises s) ws ≡ true
    → IsApart s x (record { mark = Open; writes = ws })
apart_where_free s x ws free y k other names = closed_key s.live y k (free_key (promises s) ws k free names)

-- a branch that is not open promises nothing
pub orderly_mark : (s : SeenLog) (x : Xid) (m : DoubtMark) → opens m ≡ false → IsOrderly s
    → IsOrderly (with_promise s x (record { mark = m; writes = [] }))
unfolding keys_once names_key
orderly_mark s x m closed o = orderly_put s x (record { mark = m; writes = [] }) (once_by (opens m))
    (λ y k other names. true_is_false (sym names ∙ none_by (opens m) k)) o
  where
    once_by : (b : Bool) → keys_once (cond b [] []) ≡ true
    once_by true = refl
    once_by false = refl

    none_by : (b : Bool) (k : List ℕ) → names_key (cond b [] []) k ≡ false
    none_by true k = refl
    none_by false k = refl
