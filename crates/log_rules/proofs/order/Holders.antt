-- For which branch a key is listed, after each change; and that this finds the open branch that promised it.
use Rattle.std.proofs.Common.{◌≡◌, ℕ, Bool, true, false, cond, not, ◌&&◌, ◌||◌, if◌then◌else◌, None, Some, Option, List, [], ◌∷◌, map, subst, refl, sym, ap, ◌∙◌, arith, rules, inl, inr, ◌⊎◌, length}
use Rattle.std.specs.Global.{Vec}
use Rattle.std.specs.List.{AllByRecursion, IsDistinct}
use Rattle.std.specs.Map.{KeepsOthers, keys_of, lookup, remove_entry}
use Rattle.indexmap.specs.IndexMap.{insert_entry}
use Rattle.key_lists.specs.Tables.{same_key}
use Rattle.key_lists.proofs.Tables.{apart_keys, key_test, tests_key}
use Rattle.xa_xid.specs.declared.xid.Xid.{Xid}
use Rattle.protocol.specs.declared.records.Write.{Write}
use Rattle.protocol.specs.Records.{same_bytes}
use Rattle.log_rules.specs.declared.order.seen.Promise.{Promise}
use Rattle.log_rules.specs.order.Orders.{holds, key_open, keys_free, names_key, opens, same}
use Rattle.log_rules.specs.order.Holders.{AreHolders, IsListed, holder_of, holds_at}
use Rattle.log_rules.proofs.order.Keys.{same_bytes_is_equality}

same_is : (a b : Xid) → same a b ≡ true → a ≡ b
same_is a b h = search rules

same_itself : (a : Xid) → same a a ≡ true
same_itself a = search rules

bytes_same : (a b : List ℕ) → same_bytes a b ≡ true → a ≡ b
bytes_same a b h = let one : same_key a b ≡ true = same_bytes_is_equality a b ∙ h in search rules

-- Lists of what is known of branches.

all_inserted : (P : Xid × Promise → Type 0) (es : List (Xid × Promise)) (x : Xid)
    (p : Promise) → AllByRecursion P es
    → ((y : Xid) → same x y ≡ true → P (y, p)) → AllByRecursion P (insert_entry same es x p)
all_inserted P [] x p all new = (new x (same_itself x), tt)
all_inserted P (e ∷ es) x p all new = by_test (same x e.0) refl (all_inserted P es x p all.1 new)
  where
    by_test : (b : Bool) → same x e.0 ≡ b → AllByRecursion P (insert_entry same es x p)
        → AllByRecursion P (if b then (e.0, p) ∷ es else e ∷ insert_entry same es x p)
    by_test true h rest = (new e.0 h, all.1)
    by_test false h rest = (all.0, rest)

all_removed : (P : Xid × Promise → Type 0) (test : Xid → Bool)
    (es : List (Xid × Promise)) → AllByRecursion P es
    → AllByRecursion P (remove_entry test es)
all_removed P test [] all = all
all_removed P test (e ∷ es) all = by_test (test e.0) (all_removed P test es all.1)
  where
    by_test : (b : Bool) → AllByRecursion P (remove_entry test es)
        → AllByRecursion P (cond b es (e ∷ remove_entry test es))
    by_test true rest = all.1
    by_test false rest = (all.0, rest)

-- What is kept.

pub kept_nothing : (held : List (Vec ℕ × Xid)) (live : List (Xid × Promise)) → live ≡ []
    → AreHolders held live
kept_nothing held live none = subst (λ es. AreHolders held es) (sym none) (record { listed = tt })

-- a branch is not open any more
pub kept_shut : (held : List (Vec ℕ × Xid)) (live : List (Xid × Promise)) (x : Xid)
    (p : Promise) → AreHolders held live
    → opens p.mark ≡ false → AreHolders held (insert_entry same live x p)
kept_shut held live x p kept shut = record {
  listed = all_inserted (IsListed held) live x p kept.listed (λ y one k h. absurd (never k h));
}
  where
    never : (k : List ℕ) → holds p k ≡ true → ⊥
    never k h = let shuts : holds p k ≡ false = ap (λ b. b && names_key p.writes k) shut in cc

pub kept_removed : (held : List (Vec ℕ × Xid)) (live : List (Xid × Promise))
    (test : Xid → Bool) → AreHolders held live
    → AreHolders held (remove_entry test live)
kept_removed held live test kept = record { listed = all_removed (IsListed held) test live kept.listed }

-- a key of writes that are free is of no open branch
free_key : (ps : List Promise) (ws : List Write) (k : List ℕ) → keys_free ps ws ≡ true → names_key ws k ≡ true
    → key_open ps k ≡ false
unfolding keys_free names_key
free_key ps [] k free named = absurd (cc)
free_key ps (w ∷ ws) k free named =
    by_test (same_bytes w.key k) refl (key_open ps w.key) refl free named (free_key ps ws k)
  where
    by_test : (b : Bool) → same_bytes w.key k ≡ b → (c : Bool) → key_open ps w.key ≡ c
        → (not c && keys_free ps ws) ≡ true → (b || names_key ws k) ≡ true
        → (keys_free ps ws ≡ true → names_key ws k ≡ true → key_open ps k ≡ false) → key_open ps k ≡ false
    by_test b e true some h named behind = absurd (cc)
    by_test true e false none h named behind = subst (λ j. key_open ps j ≡ false) (bytes_same w.key k e) none
    by_test false e false none h named behind = behind h named

-- where keys of no open branch are listed again, those of the open ones stay
relisted : (old new : List (Vec ℕ × Xid)) (es : List (Xid × Promise)) (ws : List Write)
    → ((k : List ℕ) → names_key ws k ≡ true → key_open (map (λ e. e.1) es) k ≡ false)
    → ((k : List ℕ) → names_key ws k ≡ false → holder_of new k ≡ holder_of old k)
    → AllByRecursion (IsListed old) es → AllByRecursion (IsListed new) es
unfolding key_open
relisted old new [] ws free others all = tt
relisted old new (e ∷ es) ws free others all =
    (λ k h. here k h (names_key ws k) refl, relisted old new es ws behind others all.1)
  where
    either : (b c : Bool) → (b || c) ≡ false → c ≡ false
    either true c h = absurd (cc)
    either false c h = h

    here : (k : List ℕ) → holds e.1 k ≡ true → (b : Bool) → names_key ws k ≡ b → holder_of new k ≡ Some e.0
    here k h true named =
        absurd (let shut : key_open (e.1 ∷ map (λ e. e.1) es) k ≡ false = free k named in
        let some : key_open (e.1 ∷ map (λ e. e.1) es) k ≡ true =
        ap (λ b. b || key_open (map (λ e. e.1) es) k) h in cc)
    here k h false other = others k other ∙ all.0 k h

    behind : (k : List ℕ) → names_key ws k ≡ true → key_open (map (λ e. e.1) es) k ≡ false
    behind k named =
        let shut : key_open (e.1 ∷ map (λ e. e.1) es) k ≡ false = free k named in
        either (holds e.1 k) (key_open (map (λ e. e.1) es) k) shut

pub kept_relisted : (old new : List (Vec ℕ × Xid)) (live : List (Xid × Promise))
    (ws : List Write) → AreHolders old live
    → keys_free (map (λ e. e.1) live) ws ≡ true
    → ((k : List ℕ) → names_key ws k ≡ false → holder_of new k ≡ holder_of old k) → AreHolders new live
kept_relisted old new live ws kept free others = record {
  listed = relisted old new live ws (λ k named. free_key (map (λ e. e.1) live) ws k
      free named) others kept.listed;
}

-- a branch promises writes whose keys are listed for it
pub kept_promised : (held : List (Vec ℕ × Xid)) (live : List (Xid × Promise)) (x : Xid)
    (p : Promise) → AreHolders held live
    → ((k : List ℕ) → names_key p.writes k ≡ true → holder_of held k ≡ Some x)
    → AreHolders held (insert_entry same live x p)
kept_promised held live x p kept own = record {
  listed = all_inserted (IsListed held) live x p kept.listed
      (λ y one k h. own k (both (opens p.mark) (names_key p.writes k) h) ∙ ap Some (same_is x y one));
}
  where
    both : (b c : Bool) → (b && c) ≡ true → c ≡ true
    both true c h = h
    both false c h = absurd (cc)

-- A key is of an open branch where the branch that it is listed for is open and has promised it, and only
-- there.

-- the branch that a key is listed for, where it is for any, is open and promised a write of the key
abbrev pub open_by : List (Xid × Promise) → List ℕ → Option Xid → Bool
open_by live k None = false
open_by live k (Some x) = holds_at (lookup (same x) live) k

sound : (es : List (Xid × Promise)) (k : List ℕ) (x : Xid) → holds_at (lookup (same x) es) k ≡ true
    → key_open (map (λ e. e.1) es) k ≡ true
unfolding key_open
sound [] k x h = absurd (cc)
sound (e ∷ es) k x h = by_test (same x e.0) h (sound es k x)
  where
    either : (b c : Bool) → c ≡ true → (b || c) ≡ true
    either true c h = refl
    either false c h = h

    by_test : (b : Bool) → holds_at (cond b (Some e.1) (lookup (same x) es)) k ≡ true
        → (holds_at (lookup (same x) es) k ≡ true → key_open (map (λ e. e.1) es) k ≡ true)
        → (holds e.1 k || key_open (map (λ e. e.1) es) k) ≡ true
    by_test true h behind = ap (λ b. b || key_open (map (λ e. e.1) es) k) h
    by_test false h behind = either (holds e.1 k) (key_open (map (λ e. e.1) es) k) (behind h)

none_found : (es : List (Xid × Promise)) (x : Xid) → AllByRecursion (λ y. same x y ≡ false) (keys_of es)
    → lookup (same x) es ≡ None
none_found [] x apart = refl
none_found (e ∷ es) x apart = ap (λ b. cond b (Some e.1) (lookup (same x) es))
    apart.0 ∙ none_found es x apart.1

complete : (held : List (Vec ℕ × Xid)) (es : List (Xid × Promise)) (k : List ℕ) → IsDistinct same (keys_of es)
    → AllByRecursion (IsListed held) es → key_open (map (λ e. e.1) es) k ≡ true
    → open_by es k (holder_of held k) ≡ true
unfolding IsDistinct key_open
complete held [] k apart all some = absurd (cc)
complete held (e ∷ es) k apart all some = by_test (holds e.1 k) refl some (complete held es k apart.1 all.1)
  where
    own : (b : Bool) → same e.0 e.0 ≡ b → holds e.1 k ≡ true → b ≡ true
        → holds_at (cond b (Some e.1) (lookup (same e.0) es)) k ≡ true
    own true e h one = h
    own false e h one = absurd (cc)

    found : (r : Option Xid) → open_by es k r ≡ true → open_by (e ∷ es) k r ≡ true
    found None h = h
    found (Some x) h = at (same x e.0) refl
      where
        at : (b : Bool) → same x e.0 ≡ b → holds_at (cond b (Some e.1) (lookup (same x) es)) k ≡ true
        at false other = h
        at true one =
            absurd (let none : lookup (same x) es ≡ None = ap (λ y. lookup (same y) es) (same_is x e.0 one)
            ∙ none_found es e.0 apart.0 in
            let never : holds_at (lookup (same x) es) k ≡ false = ap (λ r. holds_at r k) none in cc)

    by_test : (b : Bool) → holds e.1 k ≡ b → (b || key_open (map (λ e. e.1) es) k) ≡ true
        → (key_open (map (λ e. e.1) es) k ≡ true → open_by es k (holder_of held k) ≡ true)
        → open_by (e ∷ es) k (holder_of held k) ≡ true
    by_test true h some behind =
        ap (open_by (e ∷ es) k) (all.0 k h) ∙ own (same e.0 e.0) refl h (same_itself e.0)
    by_test false h some behind = found (holder_of held k) (behind some)

pub open_is_listed : (held : List (Vec ℕ × Xid)) (live : List (Xid × Promise)) (k : List ℕ)
    → IsDistinct same (keys_of live) → AreHolders held live
    → open_by live k (holder_of held k) ≡ key_open (map (λ e. e.1) live) k
open_is_listed held live k apart kept = by_test (key_open (map (λ e. e.1) live) k)
    refl (holder_of held k) refl
  where
    shut : (b : Bool) (x : Xid) → holds_at (lookup (same x) live) k ≡ b
        → key_open (map (λ e. e.1) live) k ≡ false → b ≡ false
    shut true x h none = absurd (let some : key_open (map (λ e. e.1) live) k ≡ true = sound live k x h in cc)
    shut false x h none = refl

    by_test : (b : Bool) → key_open (map (λ e. e.1) live) k ≡ b → (r : Option Xid) → holder_of held k ≡ r
        → open_by live k (holder_of held k) ≡ b
    by_test true some r at = complete held live k apart kept.listed some
    by_test false none None at = ap (open_by live k) at
    by_test false none (Some x) at = ap (open_by live k) at
        ∙ shut (holds_at (lookup (same x) live) k) x refl none

pub none_open : (live : List (Xid × Promise)) (k : List ℕ) → length live ≡ 0
    → false ≡ key_open (map (λ e. e.1) live) k
unfolding key_open
none_open [] k none = refl
none_open (e ∷ es) k none = absurd (omega arith)

pub none_listed : (held : List (Vec ℕ × Xid)) (live : List (Xid × Promise)) (k : List ℕ)
    → IsDistinct same (keys_of live) → AreHolders held live → holder_of held k ≡ None
    → false ≡ key_open (map (λ e. e.1) live) k
none_listed held live k apart kept none = sym (ap (open_by live k) none)
    ∙ open_is_listed held live k apart kept

pub one_listed : (held : List (Vec ℕ × Xid)) (live : List (Xid × Promise)) (k : List ℕ) (x : Xid)
    → IsDistinct same (keys_of live) → AreHolders held live → holder_of held k ≡ Some x
    → holds_at (lookup (same x) live) k ≡ key_open (map (λ e. e.1) live) k
one_listed held live k x apart kept one = sym (ap (open_by live k) one)
    ∙ open_is_listed held live k apart kept

-- Listing.

-- a key is listed for a branch
pub key_kept : (old new : List (Vec ℕ × Xid)) (k l : List ℕ)
    → KeepsOthers (λ q r. same_key q.items r.items) (key_test k) old new → same_key k l ≡ false
    → holder_of new l ≡ holder_of old l
unfolding KeepsOthers
key_kept old new k l keeps apart = keeps (key_test l) (tests_key l) (apart_keys k l apart)

-- while keys are listed for a branch: the others are as they were, and those that are done are listed
pub record IsListing (old new : List (Vec ℕ × Xid)) (all rest : List Write) (x : Xid) : Type 0 where
  pub within : (k : List ℕ) → names_key all k ≡ false → names_key rest k ≡ false
  pub others : (k : List ℕ) → names_key all k ≡ false → holder_of new k ≡ holder_of old k
  pub done : (k : List ℕ) → names_key all k ≡ true → (names_key rest k ≡ true) ⊎ (holder_of new k ≡ Some x)

pub listing_begins : (held : List (Vec ℕ × Xid)) (ws : List Write) (x : Xid) → IsListing held held ws ws x
listing_begins held ws x = record { within = λ k h. h; others = λ k h. refl; done = λ k h. inl h }

head_apart : (w : Write) (ws : List Write) (k : List ℕ) → names_key (w ∷ ws) k ≡ false
    → (same_key w.key k ≡ false) × (names_key ws k ≡ false)
unfolding names_key
head_apart w ws k h = neither (same_bytes w.key k) (names_key ws k) (same_bytes_is_equality w.key k) h
  where
    neither : (b c : Bool) → same_key w.key k ≡ b → (b || c) ≡ false
        → (same_key w.key k ≡ false) × (c ≡ false)
    neither true c e h = absurd (cc)
    neither false c e h = (e, h)

-- what a failure leaves
pub listing_stops : (old new next : List (Vec ℕ × Xid)) (all ws : List Write) (w : Write) (x : Xid)
    → IsListing old new all (w ∷ ws) x
    → ((k : List ℕ) → same_key w.key k ≡ false → holder_of next k ≡ holder_of new k)
    → (k : List ℕ) → names_key all k ≡ false → holder_of next k ≡ holder_of old k
listing_stops old new next all ws w x so_far kept k h =
    kept k (head_apart w ws k (so_far.within k h)).0 ∙ so_far.others k h

pub listing_goes_on : (old new next : List (Vec ℕ × Xid)) (all ws : List Write) (w : Write) (x : Xid)
    → IsListing old new all (w ∷ ws) x
    → ((k : List ℕ) → same_key w.key k ≡ false → holder_of next k ≡ holder_of new k)
    → holder_of next w.key ≡ Some x → IsListing old next all ws x
unfolding names_key
listing_goes_on old new next all ws w x so_far kept own = record {
  within = λ k h. (head_apart w ws k (so_far.within k h)).1;
  others = λ k h. listing_stops old new next all ws w x so_far kept k h;
  done = λ k h. done k (same_key w.key k) refl (so_far.done k h);
}
  where
    named : (b : Bool) (k : List ℕ) → same_bytes w.key k ≡ b → b ≡ false
        → (b || names_key ws k) ≡ true → names_key ws k ≡ true
    named true k e apart h = absurd (cc)
    named false k e apart h = h

    done : (k : List ℕ) (b : Bool) → same_key w.key k ≡ b
        → (names_key (w ∷ ws) k ≡ true) ⊎ (holder_of new k ≡ Some x)
        → (names_key ws k ≡ true) ⊎ (holder_of next k ≡ Some x)
    done k true e before =
        let one : w.key ≡ k = search rules in
        inr (subst (λ j. holder_of next j ≡ Some x) one own)
    done k false e before =
        elim before [
          | inl there ↦ inl (named (same_bytes w.key k) k refl
              (sym (same_bytes_is_equality w.key k) ∙ e) there)
          | inr was ↦ inr (kept k e ∙ was)
        ]

pub listing_ends : (old new : List (Vec ℕ × Xid)) (all : List Write) (x : Xid) → IsListing old new all [] x
    → (k : List ℕ) → names_key all k ≡ true → holder_of new k ≡ Some x
unfolding names_key
listing_ends old new all x so_far k h =
    elim (so_far.done k h) [
      | inl there ↦ absurd (cc)
      | inr was ↦ was
    ]
