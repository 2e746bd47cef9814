-- What a fault does to a manager's half of a reading.
use Rattle.std.proofs.Common.{◌≡◌, ◌∙◌, ℕ, zero, suc, Bool, true, false, ◌||◌, ◌&&◌, List, [], ◌∷◌, ◌++◌, take, drop, append_assoc, refl, ap, subst, arith}
use Rattle.std.proofs.lemmas.List.{take-append-drop}
use Rattle.std.proofs.Math.Seq.{take-nil}
use Rattle.std.proofs.lemmas.List.Folds.{list_any-append}
use Rattle.protocol.specs.declared.names.Case.{Case}
use Rattle.protocol_words.specs.Variants.{CaseBranch, CommittedOutcome, PreparedRecord}
use Rattle.protocol.specs.declared.records.Record.{Record}
use Rattle.protocol.specs.declared.records.Write.{Write}
use Rattle.protocol.specs.declared.standings.Standing.{Standing}
use Rattle.protocol.specs.NameLaws.{same_case-refl}
use Rattle.protocol.specs.Records.{has, is_heuristic, is_decided, is_forgot}
use Rattle.protocol.specs.Nodes.{Node, Heard, Effect, fails_in}
use Rattle.protocol.specs.CoordinatorRows.{forced}
use Rattle.proof_pairs.specs.readings.ReadingOf.{child_half_at, reading_from, ParentHalf, ChildHalf, Wire, is_dead}
use Rattle.protocol.specs.Audits.{is_promise}
use Rattle.proof_pairs.specs.ChildCrash
use Rattle.proof_pairs.specs.ChildCrash.{ChildFront}
use Rattle.proof_pairs.proofs.readings.LeafRows.{and-false, dead-live, dead-promised}
use Rattle.proof_pairs.specs.readings.Halves.{child_front, failed_half, failed_promise}
use Rattle.proof_pairs.proofs.readings.Lists.{has-append, has-push_behind, has-nil_behind, has-cons}

has-cut : (q : Record → Bool) (fo : List Record) (f : ℕ) (b : List Record)
    → has q ((fo ++ take f b) ++ drop f b) ≡ has q (fo ++ b)
has-cut q fo f b = ap (has q) (append_assoc fo (take f b) (drop f b)
    ∙ ap (λ l. fo ++ l) (take-append-drop f b))

-- what was forced was ever forced
abbrev IsOld : (Record → Bool) → Node → Type 0
IsOld q n = has q n.forced ≡ true → has q n.durable ≡ true

ever-cut : (q : Record → Bool) (fo : List Record) (f : ℕ) (b dur : List Record)
    → (has q fo ≡ true → has q dur ≡ true)
    → has q (take f b ++ dur) ≡ (has q (fo ++ take f b) || has q dur)
unfolding has
ever-cut q fo f b dur old = grind (arith, list_any-append)

or-subset' : (a c d : Bool) → (d ≡ true → a ≡ true) → (a || (c || d)) ≡ (a || c)
or-subset' a c d s = grind arith

front-in : (q : Record → Bool) (fo x y : List Record) → has q x ≡ true → has q (fo ++ (x ++ y)) ≡ true
unfolding has
front-in q fo x y e = grind (arith, list_any-append)

has-take : (q : Record → Bool) (fo : List Record) (f : ℕ) (b : List Record) → has q (take f b) ≡ true
    → has q (fo ++ b) ≡ true
has-take q fo f b e = subst (λ (l : List Record). has q (fo
    ++ l) ≡ true) (take-append-drop f b) (front-in q fo (take f b) (drop f b) e)

-- an operator's decision is kept, or was ever forced: the new front adds nothing
decided-cut : (q : Record → Bool) (fo : List Record) (f : ℕ) (b dur : List Record)
    → (has q (fo ++ b) || has q (take f b ++ dur)) ≡ (has q (fo ++ b) || has q dur)
decided-cut q fo f b dur = rw (has-append q (take f b) dur) (or-subset' (has q (fo
    ++ b)) (has q dur) (has q (take f b)) (has-take q fo f b))

decided-nil : (q : Record → Bool) (fo l : List Record) (f : ℕ) (dur : List Record)
    → (has q (fo ++ l) || has q (take f (l ++ []) ++ dur)) ≡ (has q (fo ++ l) || has q dur)
decided-nil q fo l f dur = subst (λ (x : Bool). (x || has q (take f (l ++ [])
    ++ dur)) ≡ (x || has q dur)) (has-nil_behind q fo l) (decided-cut q fo f (l ++ []) dur)

pub half_fails : (s s' : Standing) (n : Node) (h : Heard) (e : Effect) (f : ℕ) (d : Case)
    → IsOld (is_promise d) n → IsOld (is_heuristic d) n → IsOld (is_forgot d) n
    → child_half_at s' (fails_in n h e zero f) d ≡ failed_half (child_front d (n.forced
    ++ take f (n.unforced ++ [])) n.durable) (child_half_at s n d)
half_fails s s' n h e f d o1 o2 o3 =
    let b = n.unforced ++ [] in
    simp (
      ever-cut (is_promise d) n.forced f b n.durable o1,
      ever-cut (is_heuristic d) n.forced f b
          n.durable o2,
      ever-cut (is_forgot d) n.forced f b n.durable o3,
      has-cut,
      decided-nil (is_decided d CommittedOutcome) n.forced n.unforced f n.durable,
      has-nil_behind,
    )

decided-push : (q : Record → Bool) (fo l : List Record) (r : Record) (f : ℕ) (dur : List Record) → q r ≡ false
    → (has q (fo ++ l) || has q (take f (l ++ r ∷ []) ++ dur)) ≡ (has q (fo ++ l) || has q dur)
decided-push q fo l r f dur e =
    subst (λ (x : Bool). (x || has q (take f (l ++ r ∷ [])
    ++ dur)) ≡ (x || has q dur)) (has-push_behind q fo l r
    ∙ ap (λ (x : Bool). x || has q (fo ++ l)) e) (decided-cut q fo f (l ++ r ∷ []) dur)

pub half_fails_to_promise : (s s' : Standing) (n : Node) (h : Heard) (e : Effect) (a f : ℕ) (d : Case)
    (ws : List Write) → e.written ≡ forced (PreparedRecord (CaseBranch d) ws)
    → IsOld (is_promise d) n → IsOld (is_heuristic d) n → IsOld (is_forgot d) n
    → child_half_at s' (fails_in n h e (suc a) f) d
    ≡ failed_promise (child_front d (n.forced
    ++ take f (n.unforced ++ PreparedRecord (CaseBranch d) ws ∷ [])) n.durable) (child_half_at s n d)
half_fails_to_promise s s' n h e a f d ws one o1 o2 o3 =
    let r = PreparedRecord (CaseBranch d) ws in
    let b = n.unforced ++ r ∷ [] in
    rw (one, take-nil {A = Record} a)
    (simp (
      ever-cut (is_promise d) n.forced f b n.durable o1,
      ever-cut (is_heuristic d) n.forced f b
          n.durable o2,
      ever-cut (is_forgot d) n.forced f b n.durable o3,
      has-cut,
      decided-push (is_decided d CommittedOutcome) n.forced n.unforced r f n.durable refl,
      has-push_behind,
      has-cons,
      same_case-refl,
    ))

-- The reading.

abbrev pub QuietWhileOpen : (open' issued promised ever read : Bool) → Type 0
QuietWhileOpen open' issued promised ever read = (issued && open') ≡ true
    → (promised ≡ false) × (ever ≡ false) × (read ≡ false)

refused-fails : (o p e f n i r : Bool) → QuietWhileOpen n i p e r → (f ≡ true → p ≡ true)
    → (o || is_dead (p || (f || e)) false i r) ≡ ((i && n) || (o || is_dead (p || e) n i r))
unfolding is_dead
refused-fails o p e f n i r quiet sub = grind arith

pub reading-fails : (root outcome above : Bool) (p : ParentHalf) (k : ChildHalf) (v : Wire)
    (front : ChildFront)
    → QuietWhileOpen k.is_open v.issued k.prepared_kept k.prepared_ever v.read
    → (front.prepared ≡ true → k.prepared_kept ≡ true)
    → reading_from root true outcome above p (failed_half front k) v ≡ ChildCrash.hardens_failed_child front
    (ChildCrash.child_fails (reading_from root true outcome above p k v))
reading-fails root outcome above p k v front quiet sub =
    rw (
      and-false v.issued,
      refused-fails k.obeyed_abort k.prepared_kept k.prepared_ever front.prepared
          k.is_open v.issued v.read quiet sub,
    )

pub reading-fails_to_promise : (root outcome above : Bool) (p : ParentHalf) (k : ChildHalf) (v : Wire)
    (front : ChildFront) → k.is_open ≡ true
    → reading_from root true outcome above p (failed_promise front k) v
    ≡ ChildCrash.hardens_failed_child front
    (ChildCrash.fails_to_promise (reading_from root true outcome above p k v))
reading-fails_to_promise root outcome above p k v front e = rw e (simp (and-false, dead-live, dead-promised))

-- what the new front holds was kept
front-out : (q : Record → Bool) (fo x y : List Record) → has q (fo ++ x) ≡ true
    → has q (fo ++ (x ++ y)) ≡ true
unfolding has
front-out q fo x y e = grind (arith, list_any-append)

pub front-kept : (q : Record → Bool) (fo : List Record) (f : ℕ) (b : List Record)
    → has q (fo ++ take f b) ≡ true → has q (fo ++ b) ≡ true
front-kept q fo f b e = subst (λ (l : List Record). has q (fo
    ++ l) ≡ true) (take-append-drop f b) (front-out q fo (take f b) (drop f b) e)
