-- What has been seen of a case is no higher than its records allow; so each record of a coordinator may
-- follow.
use Rattle.std.proofs.Common.{◌≡◌, ◌∙◌, ◌≤◌, ◌<◌, ◌||◌, ◌&&◌, nat_le, nat_lt, ℕ, suc, Bool, true, false, is_some, unwrap_or, Option, Some, None, List, [], ◌∷◌, ◌++◌, map, refl, sym, ap, subst, append_assoc, arith, if◌then◌else◌}
use Rattle.std.proofs.lemmas.Bool.Decides.{nat_tests}
use Rattle.std.specs.List.{list_all}
use Rattle.std.specs.Map.{lookup}
use Rattle.indexmap.specs.IndexMap.{insert_entry}
use Rattle.xa_xid.specs.declared.xid.Xid.{Xid}
use Rattle.protocol.specs.declared.names.Case.{Case}
use Rattle.protocol.specs.declared.names.ProcessId.{ProcessId}
use Rattle.protocol.specs.declared.records.LogRecord.{LogRecord}
use Rattle.protocol.specs.declared.records.Record.{Record}
use Rattle.protocol.specs.declared.records.Record.TheVariants.{Opened}
use Rattle.protocol_words.specs.Variants.{AbortRecord, ClearedRecord, CollectingRecord, CommitRecord, EndRecord, PrepareRecord}
use Rattle.protocol.specs.Names.{same_case}
use Rattle.protocol.specs.NameLaws.{same_case-refl}
use Rattle.protocol.specs.LogNames.{in_log, is_own, is_own_by, is_own_record, parent_of}
use Rattle.protocol.specs.Records.{has, is_abort, is_collecting, is_commit, is_end, is_prepare, is_reported, boot_of, record_case, reported_after}
use Rattle.protocol.specs.Nodes.{IsCoordinator, Place}
use Rattle.proof_processes.proofs.CaseOrders.{AllFit, Fits, Undecided}
use Rattle.proof_processes.proofs.Reported.{reported_end}
use Rattle.proof_processes.proofs.Tests.{both, case_is, has-append, has-cons, has-nil}
use Rattle.log_rules.specs.declared.order.seen.Data.TheVariants.{Other}
use Rattle.log_rules.specs.order.Orders.{SeenLog, after, boot_rises, followed, nothing_seen, opened, rank_in, ranked, same}
use Rattle.log_rules.proofs.trim.Names.{same_by_parts}
use Rattle.kv_state.specs.Replays.{seen_after, seen_of}
use Rattle.proof_log_order.specs.Orders.{AreOrdered, NameFits, NamesFit}
use Rattle.proof_log_order.proofs.Follows.{AllFollow, Begins, Follows, boot_behind, opened_first, reported_behind}
use Rattle.proof_log_order.proofs.Names.{own_is_one, xid_of}

-- A table by name.

abbrev Ranks : Type 0
Ranks = List (Xid × ℕ)

met_once : (b : Bool) (v w o : Option ℕ) → (if b then v else o) ≡ (if b then v else (if b then w else o))
met_once true v w o = refl
met_once false v w o = refl

in_turn : (a b : Bool) (v w o : Option ℕ) → (a ≡ true → b ≡ true → ⊥)
    → (if b then w else (if a then v else o)) ≡ (if a then v else (if b then w else o))
in_turn true true v w o h = absurd (h refl refl)
in_turn true false v w o h = refl
in_turn false true v w o h = refl
in_turn false false v w o h = refl

inserted_by : (x y : Xid) (v : ℕ) (e : Xid × ℕ) (t more : Ranks) (b : Bool) → same y e.0 ≡ b
    → lookup (same x) more ≡ (if same x y then Some v else lookup (same x) t)
    → lookup (same x) (if b then (e.0, v) ∷ t else e ∷ more)
    ≡ (if same x y then Some v else lookup (same x) (e ∷ t))
inserted_by x y v e t more true s h =
    let is : e.0 ≡ y = sym ((same_by_parts y e.0).0 s) in
    ap (λ z. if same x z then Some v else lookup (same x) t) is
    ∙ met_once (same x y) (Some v) (Some e.1) (lookup (same x) t)
    ∙ ap (λ z. if same x y then Some v else (if same x z then Some e.1 else lookup (same x) t)) (sym is)
inserted_by x y v e t more false s h =
    ap (λ o. if same x e.0 then Some e.1 else o) h
    ∙ in_turn (same x y) (same x e.0) (Some v) (Some e.1) (lookup (same x) t)
    (λ a c. absurd (true_is_false (sym ((same_by_parts y e.0).1
    (sym ((same_by_parts x y).0 a) ∙ (same_by_parts x e.0).0 c)) ∙ s)))
  where
    true_is_false : true ≡ false → ⊥
    true_is_false q = absurd (cc)

inserted : (x y : Xid) (v : ℕ) (t : Ranks)
    → lookup (same x) (insert_entry same t y v) ≡ (if same x y then Some v else lookup (same x) t)
inserted x y v [] = refl
inserted x y v (e ∷ t) = inserted_by x y v e t (insert_entry same t y v) (same y e.0) refl (inserted x y v t)

-- How far the records of a case go.

-- by End, whichever it is, a decision, Prepare and Collecting
abbrev rank_by : Bool → Bool → Bool → Bool → ℕ
rank_by true d p k = 6
rank_by false true p k = 3
rank_by false false true k = 2
rank_by false false false true = 1
rank_by false false false false = 0

at_most_6 : (e d p k : Bool) → rank_by e d p k ≤ 6
at_most_6 true d p k = omega arith
at_most_6 false true p k = omega arith
at_most_6 false false true k = omega arith
at_most_6 false false false true = omega arith
at_most_6 false false false false = omega arith

at_most_3 : (d p k : Bool) → rank_by false d p k ≤ 3
at_most_3 true p k = omega arith
at_most_3 false true k = omega arith
at_most_3 false false true = omega arith
at_most_3 false false false = omega arith

at_most_2 : (p k : Bool) → rank_by false false p k ≤ 2
at_most_2 true k = omega arith
at_most_2 false true = omega arith
at_most_2 false false = omega arith

at_most_1 : (k : Bool) → rank_by false false false k ≤ 1
at_most_1 true = omega arith
at_most_1 false = omega arith

-- more records go no less far
grows : (e d p k e' d' p' k' : Bool) → rank_by e d p k ≤ rank_by (e || e') (d || d') (p || p') (k || k')
grows true d p k e' d' p' k' = omega arith
grows false d p k true d' p' k' = at_most_6 false d p k
grows false true p k false d' p' k' = omega arith
grows false false p k false true p' k' = at_most_3 false p k
grows false false true k false false p' k' = omega arith
grows false false false k false false true k' = at_most_2 false k
grows false false false true false false false k' = omega arith
grows false false false false false false false true = omega arith
grows false false false false false false false false = omega arith

abbrev rank_of : List Record → Case → ℕ
rank_of rs c =
    rank_by (has (is_end c) rs) (has (is_commit c) rs || has (is_abort c) rs) (has (is_prepare c) rs)
    (has (is_collecting c) rs)

rank_grows : (rs : List Record) (x : Record) (c : Case) → rank_of rs c ≤ rank_of (rs ++ x ∷ []) c
rank_grows rs x c =
    subst (λ (n : ℕ). rank_of rs c ≤ n) (sym parts)
    (grows (has (is_end c) rs) (has (is_commit c) rs || has (is_abort c) rs) (has (is_prepare c) rs)
    (has (is_collecting c) rs) (has (is_end c) (x ∷ []))
    (has (is_commit c) (x ∷ []) || has (is_abort c) (x ∷ []))
    (has (is_prepare c) (x ∷ [])) (has (is_collecting c) (x ∷ [])))
  where
    paired : (a b a' b' : Bool) → ((a || a') || (b || b')) ≡ ((a || b) || (a' || b'))
    paired a b a' b' = grind arith

    parts : rank_of (rs ++ x ∷ []) c
        ≡ rank_by (has (is_end c) rs || has (is_end c) (x ∷ []))
        ((has (is_commit c) rs || has (is_abort c) rs)
        || (has (is_commit c) (x ∷ []) || has (is_abort c) (x ∷ [])))
        (has (is_prepare c) rs || has (is_prepare c) (x ∷ []))
        (has (is_collecting c) rs || has (is_collecting c) (x ∷ []))
    parts =
        rw (
          has-append (is_end c) rs (x ∷ []),
          has-append (is_commit c) rs (x ∷ []),
          has-append (is_abort c) rs (x ∷ []),
          has-append (is_prepare c) rs (x ∷ []),
          has-append (is_collecting c) rs (x ∷ []),
          paired (has (is_commit c) rs) (has (is_abort c) rs) (has (is_commit c) (x ∷ []))
              (has (is_abort c) (x ∷ [])),
        )
        refl

-- a record that passes goes at least as far as it does
module _ (rs : List Record) (c : Case) where
  last_passes : (q : Record → Bool) (x : Record) → q x ≡ true → has q (rs ++ x ∷ []) ≡ true
  last_passes q x e =
      has-append q rs (x ∷ []) ∙ (ap (λ b. has q rs || b) (has-cons q x [] ∙ first_so (q x) (has q []) e)
      ∙ second_so (has q rs))
    where
      first_so : (a b : Bool) → a ≡ true → (a || b) ≡ true
      first_so a b f = grind arith

      second_so : (a : Bool) → (a || true) ≡ true
      second_so a = grind arith

  abbrev behind : Record → ℕ
  behind x = rank_of (rs ++ x ∷ []) c

  collected : (x : Record) → is_collecting c x ≡ true → 1 ≤ behind x
  collected x e =
      by_bool (has (is_end c) (rs ++ x ∷ []))
      (has (is_commit c) (rs ++ x ∷ []) || has (is_abort c) (rs ++ x ∷ []))
      (has (is_prepare c) (rs ++ x ∷ [])) (has (is_collecting c) (rs ++ x ∷ []))
      (last_passes (is_collecting c) x e)
    where
      by_bool : (e d p k : Bool) → k ≡ true → 1 ≤ rank_by e d p k
      by_bool true d p k f = omega arith
      by_bool false true p k f = omega arith
      by_bool false false true k f = omega arith
      by_bool false false false true f = omega arith
      by_bool false false false false f = absurd (cc)

  promised : (x : Record) → is_prepare c x ≡ true → 2 ≤ behind x
  promised x e =
      by_bool (has (is_end c) (rs ++ x ∷ []))
      (has (is_commit c) (rs ++ x ∷ []) || has (is_abort c) (rs ++ x ∷ []))
      (has (is_prepare c) (rs ++ x ∷ [])) (has (is_collecting c) (rs ++ x ∷ []))
      (last_passes (is_prepare c) x e)
    where
      by_bool : (e d p k : Bool) → p ≡ true → 2 ≤ rank_by e d p k
      by_bool true d p k f = omega arith
      by_bool false true p k f = omega arith
      by_bool false false true k f = omega arith
      by_bool false false false k f = absurd (cc)

  decided : (x : Record) → (is_commit c x || is_abort c x) ≡ true → 3 ≤ behind x
  decided x e =
      by_bool (has (is_end c) (rs ++ x ∷ []))
      (has (is_commit c) (rs ++ x ∷ []) || has (is_abort c) (rs ++ x ∷ []))
      (has (is_prepare c) (rs ++ x ∷ [])) (has (is_collecting c) (rs ++ x ∷ []))
      (either_way (is_commit c x) (is_abort c x)
      (has (is_commit c) (rs ++ x ∷ [])) (has (is_abort c) (rs ++ x ∷ [])) e (last_passes (is_commit c) x)
      (last_passes (is_abort c) x))
    where
      either_way : (a b a' b' : Bool) → (a || b) ≡ true → (a ≡ true → a' ≡ true) → (b ≡ true → b' ≡ true)
          → (a' || b') ≡ true
      either_way true b a' b' f g h = rw (g refl) refl
      either_way false true true b' f g h = refl
      either_way false true false b' f g h = h refl
      either_way false false a' b' f g h = absurd (cc)

      by_bool : (e d p k : Bool) → d ≡ true → 3 ≤ rank_by e d p k
      by_bool true d p k f = omega arith
      by_bool false true p k f = omega arith
      by_bool false false p k f = absurd (cc)

  ended : (x : Record) → is_end c x ≡ true → 6 ≤ behind x
  ended x e = rw (last_passes (is_end c) x e) (omega arith)

  -- and what its place asks keeps the records before it below

  before_end : has (is_end c) rs ≡ false → rank_of rs c ≤ 3
  before_end e =
      rw e (at_most_3 (has (is_commit c) rs || has (is_abort c) rs) (has (is_prepare c) rs)
      (has (is_collecting c) rs))

  before_decision : Undecided rs c → rank_of rs c ≤ 2
  before_decision u =
      rw (u.no_end, u.no_commit, u.no_abort) (at_most_2 (has (is_prepare c) rs) (has (is_collecting c) rs))

  before_promise : Undecided rs c → has (is_prepare c) rs ≡ false → rank_of rs c ≤ 1
  before_promise u e = rw (u.no_end, u.no_commit, u.no_abort, e) (at_most_1 (has (is_collecting c) rs))

  before_collecting : Undecided rs c → has (is_prepare c) rs ≡ false → has (is_collecting c) rs ≡ false
      → rank_of rs c ≤ 0
  before_collecting u e f = rw (u.no_end, u.no_commit, u.no_abort, e, f) (omega arith)

-- a record of one case says nothing of what is reported of another
others_reported : (x : Record) (c d : Case) (b : Bool) → record_case x ≡ Some c → same_case c d ≡ false
    → reported_after d b x ≡ b
others_reported (EndRecord a rep) c d b of apart =
    let is : a ≡ c = cc in ap (λ z. if z then is_some rep else b) (ap (λ y. same_case y d) is ∙ apart)
others_reported (ClearedRecord a) c d b of apart =
    let is : a ≡ c = cc in ap (λ z. if z then false else b) (ap (λ y. same_case y d) is ∙ apart)
others_reported x c d b of apart = refl

-- What has been seen.

module _ (place : Place) (coordinator : IsCoordinator place.role) where
  abbrev p : Option ProcessId
  p = parent_of place.role

  -- a case of the process's own whose numbers fit
  record IsNamed (c : Case) : Type 0 where
    own : is_own place p c ≡ true
    fits : NameFits p (Some c)

  record Seen (rs : List Record) (s : SeenLog) : Type 0 where
    boot : s.boot ≡ Some (boot_of rs)
    ranks : (c : Case) → IsNamed c → rank_in s.ranks (xid_of p c) ≤ rank_of rs c
    reported : (c : Case) → IsNamed c → is_reported rs c ≡ true → rank_in s.ranks (xid_of p c) ≡ 5

  abbrev ranks_on : SeenLog → Case → ℕ → SeenLog
  ranks_on s c r = record {
    boot = s.boot;
    before = Other;
    ranks = insert_entry same s.ranks (xid_of p c) r;
    live = s.live;
  }

  rank_now : (s : SeenLog) (x y : Xid) (r : ℕ)
      → rank_in (insert_entry same s.ranks y r) x ≡ (if same x y then r else rank_in s.ranks x)
  rank_now s x y r = ap (λ o. unwrap_or o 0) (inserted x y r s.ranks) ∙ by_test (same x y)
    where
      by_test : (b : Bool) → unwrap_or (if b then Some r else lookup (same x) s.ranks) 0
          ≡ (if b then r else unwrap_or (lookup (same x) s.ranks) 0)
      by_test true = refl
      by_test false = refl

  module _ (rs : List Record) (s : SeenLog) (seen : Seen rs s) (c : Case) (named : IsNamed c) (x : Record)
      (least most r : ℕ) (above : least ≤ rank_in s.ranks (xid_of p c))
      (below : rank_in s.ranks (xid_of p c) ≤ most)
      (reached : r ≤ rank_of (rs ++ x ∷ []) c) (no_boot : boot_of (rs ++ x ∷ []) ≡ boot_of rs)
      (of : record_case x ≡ Some c) (then_reported : is_reported (rs ++ x ∷ []) c ≡ true → r ≡ 5)
    where
      seen_so : Seen (rs ++ x ∷ []) (ranks_on s c r)
      seen_so = record {
        boot = seen.boot ∙ ap Some (sym no_boot);
        ranks = λ d is. subst (λ (n : ℕ). n ≤ rank_of (rs ++ x ∷ []) d)
            (sym (rank_now s (xid_of p d) (xid_of p c) r))
            (by_test d is (same (xid_of p d) (xid_of p c)) refl);
        reported = λ d is e. rank_now s (xid_of p d) (xid_of p c) r
            ∙ five d is e (same (xid_of p d) (xid_of p c)) refl;
      }
        where
          no_less : (a b k : ℕ) → a ≤ b → b ≤ k → a ≤ k
          no_less a b k f g = omega arith

          apart : (d : Case) → same (xid_of p d) (xid_of p c) ≡ false → same_case c d ≡ false
          apart d e = by_same (same_case c d) refl
            where
              by_same : (b : Bool) → same_case c d ≡ b → same_case c d ≡ false
              by_same false f = f
              by_same true f = absurd (let clash : true ≡ false =
                  sym ((same_by_parts (xid_of p d) (xid_of p c)).1 (ap (xid_of p) (sym (case_is c d f)))) ∙ e
                  in cc)

          five : (d : Case) → IsNamed d → is_reported (rs ++ x ∷ []) d ≡ true → (b : Bool)
              → same (xid_of p d) (xid_of p c) ≡ b → (if b then r else rank_in s.ranks (xid_of p d)) ≡ 5
          five d is e true g =
              let one : d ≡ c = own_is_one place coordinator d c is.own named.own is.fits named.fits
              ((same_by_parts (xid_of p d) (xid_of p c)).0 g) in
              then_reported (ap (is_reported (rs ++ x ∷ [])) (sym one) ∙ e)
          five d is e false g =
              seen.reported d is
              (sym (reported_behind rs x d ∙ others_reported x c d (is_reported rs d) of (apart d g)) ∙ e)

          by_test : (d : Case) → IsNamed d → (b : Bool) → same (xid_of p d) (xid_of p c) ≡ b
              → (if b then r else rank_in s.ranks (xid_of p d)) ≤ rank_of (rs ++ x ∷ []) d
          by_test d is true e =
              let one : d ≡ c = own_is_one place coordinator d c is.own named.own is.fits named.fits
              ((same_by_parts (xid_of p d) (xid_of p c)).0 e) in
              subst (λ (k : Case). r ≤ rank_of (rs ++ x ∷ []) k) (sym one) reached
          by_test d is false e =
              no_less (rank_in s.ranks (xid_of p d)) (rank_of rs d) (rank_of (rs ++ x ∷ []) d)
              (seen.ranks d is)
              (rank_grows rs x d)

      ranked_so : ranked s (xid_of p c) least most r ≡ Some (ranks_on s c r)
      ranked_so = by_le least (rank_in s.ranks (xid_of p c)) most above below
        where
          by_le : (k a b : ℕ) → k ≤ a → a ≤ b
              → (if nat_le k a && nat_le a b then Some (ranks_on s c r) else None) ≡ Some (ranks_on s c r)
          by_le k a b f g = rw (is_within k a f, is_within a b g) refl
            where
              is_within : (a b : ℕ) → a ≤ b → nat_le a b ≡ true
              is_within a b f = grind (arith, nat_tests)

  -- One record more.

  -- the case that a record is of, where it is of one, is named so
  abbrev RecordNamed : Record → Type 0
  RecordNamed x = (c : Case) → record_case x ≡ Some c → IsNamed c

  abbrev AllNamed : List Record → Type 0
  AllNamed [] = Unit {0}
  AllNamed (x ∷ xs) = RecordNamed x × AllNamed xs

  record Stepped (rs : List Record) (s : SeenLog) (x : Record) : Type 0 where
    then_seen : SeenLog
    is : after s (in_log p x) ≡ Some then_seen
    seen : Seen (rs ++ x ∷ []) then_seen

  after_so : (rs : List Record) (s : SeenLog) → Seen rs s → (l : LogRecord)
      → after s l ≡ followed s l.parent l.entry
  unfolding after
  after_so rs s seen l = rw seen.boot refl

  module _ (rs : List Record) (s : SeenLog) (seen : Seen rs s) where
    between_step : (x : Record) (c : Case) (least most r : ℕ) → IsNamed c
        → least ≤ rank_in s.ranks (xid_of p c)
        → rank_in s.ranks (xid_of p c) ≤ most → r ≤ rank_of (rs ++ x ∷ []) c
        → boot_of (rs ++ x ∷ []) ≡ boot_of rs → record_case x ≡ Some c
        → (is_reported (rs ++ x ∷ []) c ≡ true → r ≡ 5)
        → followed s (in_log p x).parent (in_log p x).entry ≡ ranked s (xid_of p c) least most r
        → Stepped rs s x
    between_step x c least most r named above below reached no_boot of known e = record {
      then_seen = ranks_on s c r;
      is = after_so rs s seen (in_log p x)
          ∙ (e ∙ ranked_so rs s seen c named x least most r above below reached no_boot of known);
      seen = seen_so rs s seen c named x least most r above below reached no_boot of known;
    }

    ranked_step : (x : Record) (c : Case) (most r : ℕ) → IsNamed c → rank_of rs c ≤ most
        → r ≤ rank_of (rs ++ x ∷ []) c
        → boot_of (rs ++ x ∷ []) ≡ boot_of rs → record_case x ≡ Some c
        → (is_reported (rs ++ x ∷ []) c ≡ true → r ≡ 5)
        → followed s (in_log p x).parent (in_log p x).entry ≡ ranked s (xid_of p c) 0 most r → Stepped rs s x
    ranked_step x c most r named below reached no_boot of known e =
        between_step x c 0 most r named (omega arith)
        (within_both (rank_in s.ranks (xid_of p c)) (rank_of rs c) most (seen.ranks c named) below)
        reached no_boot of known e
      where
        within_both : (a b k : ℕ) → a ≤ b → b ≤ k → a ≤ k
        within_both a b k f g = omega arith

    -- a record of a case that has not ended reports nothing of it
    unreported : (x : Record) (c : Case) (r : ℕ) → has (is_end c) rs ≡ false
        → reported_after c (is_reported rs c) x ≡ is_reported rs c → is_reported (rs ++ x ∷ []) c ≡ true
        → r ≡ 5
    unreported x c r none same e =
        absurd (let clash : false ≡ true = sym none ∙ reported_end rs c
        (sym (reported_behind rs x c ∙ same) ∙ e) in cc)

    opened_step : (k : ℕ) → boot_of rs < k → Stepped rs s (Opened k)
    opened_step k h = record {
      then_seen = record { boot = Some k; before = Other; ranks = s.ranks; live = s.live };
      is = after_so rs s seen (in_log p (Opened k)) ∙ opens_so;
      seen = record {
        boot = ap Some (sym (boot_behind rs (Opened k)));
        ranks = λ c is. no_less (rank_in s.ranks (xid_of p c)) (rank_of rs c)
            (rank_of (rs ++ Opened k ∷ []) c)
            (seen.ranks c is) (rank_grows rs (Opened k) c);
        reported = λ c is e. seen.reported c is (sym (reported_behind rs (Opened k) c) ∙ e);
      };
    }
      where
        no_less : (a b n : ℕ) → a ≤ b → b ≤ n → a ≤ n
        no_less a b n f g = omega arith

        is_less : (a b : ℕ) → a < b → nat_lt a b ≡ true
        is_less a b f = grind arith

        opens_so : opened s k ≡ Some (record {
          boot = Some k;
          before = Other;
          ranks = s.ranks;
          live = s.live;
        })
        opens_so = rw (seen.boot, is_less (boot_of rs) k h) refl

    step : (x : Record) → Fits rs x → Follows rs x → RecordNamed x → Stepped rs s x
    step (Opened k) f g n = opened_step k g
    step (CollectingRecord c ts) f g n =
        ranked_step (CollectingRecord c ts) c 0 1 (n c refl) (before_collecting rs c f.1.0 f.1.1.0 f.1.1.1)
        (collected rs c (CollectingRecord c ts) (same_case-refl c))
        (boot_behind rs (CollectingRecord c ts)) refl
        (unreported (CollectingRecord c ts) c 1 f.1.0.no_end refl) refl
    step (PrepareRecord c ts) f g n =
        ranked_step (PrepareRecord c ts) c 1 2 (n c refl) (before_promise rs c f.1.0 f.1.1)
        (promised rs c (PrepareRecord c ts) (same_case-refl c)) (boot_behind rs (PrepareRecord c ts)) refl
        (unreported (PrepareRecord c ts) c 2 f.1.0.no_end refl) refl
    step (CommitRecord c ts) f g n =
        ranked_step (CommitRecord c ts) c 2 3 (n c refl) (before_decision rs c f.1)
        (decided rs c (CommitRecord c ts) (first_so (same_case c c) false (same_case-refl c)))
        (boot_behind rs (CommitRecord c ts)) refl (unreported (CommitRecord c ts) c 3 f.1.no_end refl) refl
      where
        first_so : (a b : Bool) → a ≡ true → (a || b) ≡ true
        first_so a b e = grind arith
    step (AbortRecord c ts) f g n =
        ranked_step (AbortRecord c ts) c 2 3 (n c refl) (before_decision rs c f.1)
        (decided rs c (AbortRecord c ts) (same_case-refl c)) (boot_behind rs (AbortRecord c ts)) refl
        (unreported (AbortRecord c ts) c 3 f.1.no_end refl) refl
    step (EndRecord c None) f g n =
        ranked_step (EndRecord c None) c 3 4 (n c refl) (before_end rs c g)
        (no_more 4 (rank_of (rs ++ EndRecord c None ∷ []) c) (omega arith)
        (ended rs c (EndRecord c None) (same_case-refl c))) (boot_behind rs (EndRecord c None)) refl
        (λ e. absurd (plain e)) refl
      where
        plain : is_reported (rs ++ EndRecord c None ∷ []) c ≡ true → ⊥
        plain e =
            let now : is_reported (rs ++ EndRecord c None ∷ []) c ≡ false =
            reported_behind rs (EndRecord c None) c
            ∙ ap (λ z. if z then false else is_reported rs c) (same_case-refl c) in
            absurd (let clash : false ≡ true = sym now ∙ e in cc)

        no_more : (a b : ℕ) → a ≤ 6 → 6 ≤ b → a ≤ b
        no_more a b f g = omega arith
    step (EndRecord c (Some r)) f g n =
        ranked_step (EndRecord c (Some r)) c 3 5 (n c refl) (before_end rs c g)
        (no_more 5 (rank_of (rs ++ EndRecord c (Some r) ∷ []) c) (omega arith)
        (ended rs c (EndRecord c (Some r)) (same_case-refl c))) (boot_behind rs (EndRecord c (Some r))) refl
        (λ e. refl) refl
      where
        no_more : (a b : ℕ) → a ≤ 6 → 6 ≤ b → a ≤ b
        no_more a b f g = omega arith
    step (ClearedRecord c) f g n =
        let five : rank_in s.ranks (xid_of p c) ≡ 5 = seen.reported c (n c refl) g in
        between_step (ClearedRecord c) c 5 5 6 (n c refl) (at_least (rank_in s.ranks (xid_of p c)) five)
        (at_most (rank_in s.ranks (xid_of p c)) five) over
        (boot_behind rs (ClearedRecord c)) refl (λ e. absurd (seen_to e)) refl
      where
        at_least : (a : ℕ) → a ≡ 5 → 5 ≤ a
        at_least a e = omega (arith, e)

        at_most : (a : ℕ) → a ≡ 5 → a ≤ 5
        at_most a e = omega (arith, e)

        over : 6 ≤ rank_of (rs ++ ClearedRecord c ∷ []) c
        over = rw (has-append (is_end c) rs (ClearedRecord c ∷ []), reported_end rs c g) (omega arith)

        seen_to : is_reported (rs ++ ClearedRecord c ∷ []) c ≡ true → ⊥
        seen_to e =
            let now : is_reported (rs ++ ClearedRecord c ∷ []) c ≡ false =
            reported_behind rs (ClearedRecord c) c
            ∙ ap (λ z. if z then false else is_reported rs c) (same_case-refl c) in
            absurd (let clash : false ≡ true = sym now ∙ e in cc)
    step x f g n = absurd g

  follow_on : (rs xs : List Record) → AllFit rs xs → AllFollow rs xs → AllNamed xs → (s : SeenLog) → Seen rs s
      → is_some (seen_after (Some s) (map (in_log p) xs)) ≡ true
  unfolding seen_after
  follow_on rs [] f g n s seen = refl
  follow_on rs (x ∷ xs) f g n s seen =
      let t = step rs s seen x f.0 g.0 n.0 in
      subst (λ (o : Option SeenLog). is_some (seen_after o (map (in_log p) xs)) ≡ true) (sym t.is)
      (follow_on (rs ++ x ∷ []) xs f.1 g.1 n.1 t.then_seen t.seen)

  whole : (rs : List Record) → Begins rs → AllFit [] rs → AllFollow [] rs → AllNamed rs → AreOrdered p rs
  unfolding seen_after after boot_of is_reported
  whole _ (opened_first k rs h) f g n =
      follow_on (Opened k ∷ []) rs f.1 g.1 n.1
      (record { boot = Some k; before = Other; ranks = []; live = [] })
      (record {
        boot = refl;
        ranks = λ c is. least (rank_of (Opened k ∷ []) c);
        reported = λ c is e. absurd (cc);
      })
    where
      least : (a : ℕ) → 0 ≤ a
      least a = omega arith

  all_named : (rs : List Record) → list_all (is_own_record place) rs ≡ true → NamesFit p rs → AllNamed rs
  all_named [] e f = tt
  all_named (x ∷ xs) e f =
      let g = both (is_own_record place x) (list_all (is_own_record place) xs) e in (
        by_case (record_case x) g.0 f.0,
        all_named xs g.1 f.1,
      )
    where
      by_case : (o : Option Case) → is_own_by place o ≡ true → NameFits p o → (c : Case) → o ≡ Some c
          → IsNamed c
      by_case None g h c q = absurd (cc)
      by_case (Some d) g h c q =
          subst IsNamed (some_is d c q) (record { own = g; fits = h })
        where
          some_is : (d c : Case) → Some d ≡ Some c → d ≡ c
          some_is d c q = cc

  pub ordered : (rs : List Record) → Begins rs → AllFit [] rs → AllFollow [] rs
      → list_all (is_own_record place) rs ≡ true → NamesFit p rs → AreOrdered p rs
  ordered rs b f g e n = whole rs b f g (all_named rs e n)
