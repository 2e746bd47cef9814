-- Boots rise along a log, and while a process is up its last one is in the forced front.
use Rattle.std.proofs.Common.{◌≡◌, ◌∙◌, ◌≤◌, ◌<◌, ◌+◌, ℕ, zero, suc, Bool, true, false, Option, Some, None, List, [], ◌∷◌, ◌++◌, take, drop, refl, sym, ap, subst, append_assoc, if◌then◌else◌, arith}
use Rattle.std.specs.Prelude.{fold}
use Rattle.std.proofs.Math.Nat.{le_trans, le_refl}
use Rattle.std.proofs.lemmas.Grind.{fold-append}
use Rattle.std.proofs.lemmas.List.{append-nil, take-append-drop}
use Rattle.protocol.specs.declared.names.Case.{Case}
use Rattle.protocol.specs.declared.names.ProcessId.{ProcessId}
use Rattle.protocol.specs.declared.names.Outcome.{Outcome}
use Rattle.protocol_words.specs.Variants.{AbortedOutcome, CommittedOutcome}
use Rattle.protocol.specs.declared.messages.Envelope.{Envelope}
use Rattle.protocol.specs.declared.records.Record.{Record}
use Rattle.protocol.specs.declared.events.Input.{Input}
use Rattle.protocol.specs.Records.{has, is_opened, boot_of, boot_after, cases_in}
use Rattle.protocol.specs.Nodes.{Role, AtRoot, Below, AtLeaf, Place, Node, Heard, Effect, kept, Written, entries_written, is_any_forced, after}
use Rattle.protocol.specs.Memory.{memory_of}
use Rattle.protocol.specs.ManagerRows.{Leaf, ends_record, decides_record}
use Rattle.protocol.specs.Reactions.{leaf_of}
use Rattle.protocol.specs.Restarts.{reopens, stays, staying, data_records, trimmed, left_of, restarted, trims, trim_fails}
use Rattle.protocol.specs.World.{Move}
use Rattle.proof_pairs.specs.turns.LeafTurns.{LeafTurn, does_nothing, gives_again, gives_fresh, votes_yes, votes_read, votes_no, repeats_yes, refuses, obeys, notes, acknowledges_told, acknowledges, drops, asks, decides, forgets}
use Rattle.proof_pairs.specs.turns.Written.{is_coordinators, AtMostOne, wrote_none, wrote_one, MayWrite, writes_nothing, for_act, for_report, for_child, for_parent, presumes, gives}
use Rattle.proof_pairs.specs.turns.Steps.{StepOf, heard_in, handled, failed_in, passed, failed_passing, reopened, failed_reopening, trims_log, failed_trimming, TurnAt}
use Rattle.proof_pairs.proofs.turns.Operators.{all_none}
use Rattle.proof_pairs.proofs.turns.Steps.{turn_of}
use Rattle.proof_processes.specs.Lasts.{Logs, logs_of, standing}
use Rattle.proof_processes.proofs.Tests.{neither, first_false, second_false, has-cons, has-nil, in_none}
use Rattle.proof_processes.proofs.Appends.{forces, writes, breaks, loses, replaces, either_logs, breaks_keeps}
use Rattle.proof_processes.proofs.Trims.{data_is_other}

-- no record of the list is of an earlier boot than those before it
abbrev pub BootsRise : ℕ → List Record → Type 0
BootsRise b [] = Unit {0}
BootsRise b (r ∷ rs) = (b ≤ boot_after b r) × BootsRise (boot_after b r) rs

rise_push : (b : ℕ) (xs ys : List Record) → BootsRise b xs → BootsRise (fold boot_after b xs) ys
    → BootsRise b (xs ++ ys)
rise_push b [] ys h k = k
rise_push b (x ∷ xs) ys h k = (h.0, rise_push (boot_after b x) xs ys h.1 k)

pub rise_front : (b : ℕ) (xs ys : List Record) → BootsRise b (xs ++ ys) → BootsRise b xs
rise_front b [] ys h = tt
rise_front b (x ∷ xs) ys h = (h.0, rise_front (boot_after b x) xs ys h.1)

rise_rest : (b : ℕ) (xs ys : List Record) → BootsRise b (xs ++ ys) → BootsRise (fold boot_after b xs) ys
rise_rest b [] ys h = h
rise_rest b (x ∷ xs) ys h = rise_rest (boot_after b x) xs ys h.1

rise_most : (b : ℕ) (xs : List Record) → BootsRise b xs → b ≤ fold boot_after b xs
rise_most b [] h = le_refl b
rise_most b (x ∷ xs) h = le_trans h.0 (rise_most (boot_after b x) xs h.1)

-- a record that is no Opened leaves the boot
same_boot : (b : ℕ) (r : Record) → is_opened r ≡ false → boot_after b r ≡ b
same_boot b r e = grind arith

pub others_boot : (b : ℕ) (xs : List Record) → has is_opened xs ≡ false → fold boot_after b xs ≡ b
unfolding has
others_boot b [] e = refl
others_boot b (x ∷ xs) e =
    ap (λ y. fold boot_after y xs) (same_boot b x (first_false (is_opened x) (has is_opened xs) e))
    ∙ others_boot b xs (second_false (is_opened x) (has is_opened xs) e)

others_rise : (b : ℕ) (xs : List Record) → has is_opened xs ≡ false → BootsRise b xs
unfolding has
others_rise b [] e = tt
others_rise b (x ∷ xs) e =
    let same = same_boot b x (first_false (is_opened x) (has is_opened xs) e) in (
      subst (λ y. b ≤ y) (sym same) (le_refl b),
      others_rise (boot_after b x) xs (second_false (is_opened x) (has is_opened xs) e),
    )

pub boot_append : (xs ys : List Record) → boot_of (xs ++ ys) ≡ fold boot_after (boot_of xs) ys
unfolding boot_of
boot_append xs ys = fold-append boot_after 0 xs ys

boot_others : (xs ys : List Record) → has is_opened ys ≡ false → boot_of (xs ++ ys) ≡ boot_of xs
boot_others xs ys e = boot_append xs ys ∙ others_boot (boot_of xs) ys e

abbrev pub Rises : List Record → Type 0
Rises rs = BootsRise 0 rs

rest_rises : (xs ys : List Record) → Rises (xs ++ ys) → BootsRise (boot_of xs) ys
unfolding boot_of
rest_rises xs ys h = rise_rest 0 xs ys h

push_rises : (xs ys : List Record) → Rises xs → BootsRise (boot_of xs) ys → Rises (xs ++ ys)
unfolding boot_of
push_rises xs ys h k = rise_push 0 xs ys h k

pub front_below : (xs ys : List Record) → Rises (xs ++ ys) → boot_of xs ≤ boot_of (xs ++ ys)
front_below xs ys h = subst (λ y. boot_of xs ≤ y) (sym (boot_append xs ys))
    (rise_most (boot_of xs) ys (rest_rises xs ys h))

-- What holds of a log.
pub record Booted (l : Logs) : Type 0 where
  pub rises : Rises (standing l)
  pub boot_is_forced : l.failed ≡ false → boot_of (standing l) ≡ boot_of l.forced

pub forced_below : (l : Logs) → Booted l → boot_of l.forced ≤ boot_of (standing l)
forced_below l h = front_below l.forced l.unforced h.rises

-- What an input appends: no Opened.

one_none : (c : Case) (ws : List Written) → AtMostOne c ws → has is_opened (entries_written ws) ≡ false
unfolding has
one_none c _ wrote_none = refl
one_none c _ (wrote_one r b of kind) = neither _ _ (own r kind) refl
  where
    own : (r : Record) → is_coordinators r ≡ true → is_opened r ≡ false
    own r e = grind arith

nothing_none : (ws : List Written) → ws ≡ [] → has is_opened (entries_written ws) ≡ false
nothing_none ws e = ap (λ x. has is_opened (entries_written x)) e ∙ has-nil is_opened

writes_none : (place : Place) (parent : Option ProcessId) (n : Node) (i : Input) (ws : List Written)
    (ls : List Envelope) → MayWrite place parent n i ws ls → has is_opened (entries_written ws) ≡ false
writes_none place parent n i ws ls (writes_nothing e f) = nothing_none ws e
writes_none place parent n i ws ls (for_act a c e f one sent) = one_none c ws one
writes_none place parent n i ws ls (for_report c e f g one h) = one_none c ws one
writes_none place parent n i ws ls (for_child c x t e one sent) = one_none c ws one
writes_none place parent n i ws ls (for_parent c k m e f one sent) = one_none c ws one
writes_none place parent n i ws ls (presumes x t o e f) = nothing_none ws e
writes_none place parent n i ws ls (gives p d t e f k j a) = nothing_none ws e

record_none : (r : Record) → is_opened r ≡ false → has is_opened (r ∷ []) ≡ false
unfolding has
record_none r e = rw e refl

ends_none : (l : Leaf) (o : Outcome) → is_opened (ends_record l o) ≡ false
ends_none l CommittedOutcome = refl
ends_none l AbortedOutcome = refl

decides_none : (l : Leaf) (o : Outcome) → is_opened (decides_record l o) ≡ false
decides_none l CommittedOutcome = refl
decides_none l AbortedOutcome = refl

leaf_none : (place : Place) (p : ProcessId) (n : Node) (h : Heard) (e : Effect) → LeafTurn place p n h e
    → has is_opened (entries_written e.written) ≡ false
leaf_none place p n h _ (votes_yes d k ws i a) = record_none _ refl
leaf_none place p n h _ (obeys d o i k) = record_none _ (ends_none (leaf_of place p d) o)
leaf_none place p n h _ (notes d o i k) = record_none _ refl
leaf_none place p n h _ (decides d o i k) = record_none _ (decides_none (leaf_of place p d) o)
leaf_none place p n h _ (forgets d i k) = record_none _ refl
leaf_none place p n h _ does_nothing = has-nil is_opened
leaf_none place p n h _ (gives_again d t i a) = has-nil is_opened
leaf_none place p n h _ (gives_fresh d i a s) = has-nil is_opened
leaf_none place p n h _ (votes_read d k i a) = has-nil is_opened
leaf_none place p n h _ (votes_no d k i a) = has-nil is_opened
leaf_none place p n h _ (repeats_yes d k i a) = has-nil is_opened
leaf_none place p n h _ (refuses d k i a) = has-nil is_opened
leaf_none place p n h _ (acknowledges_told d o i k) = has-nil is_opened
leaf_none place p n h _ (acknowledges d o i k) = has-nil is_opened
leaf_none place p n h _ (drops d i a) = has-nil is_opened
leaf_none place p n h _ (asks d i k) = has-nil is_opened

pub turn_none : (role : Role) (place : Place) (n : Node) (h : Heard) (e : Effect) → TurnAt role place n h e
    → has is_opened (entries_written e.written) ≡ false
turn_none (AtLeaf p) place n h e t = leaf_none place p n h e t
turn_none AtRoot place n h e t = writes_none place None n h.input e.written e.messages t
turn_none (Below p) place n h e t = writes_none place (Some p) n h.input e.written e.messages t

-- Each kind of step.

booted_writes : (l : Logs) (new : List Record) → has is_opened new ≡ false → Booted l → Booted (writes l new)
booted_writes l new none h = record {
  rises = subst Rises (append_assoc l.forced l.unforced new)
      (push_rises (standing l) new h.rises (others_rise (boot_of (standing l)) new none));
  boot_is_forced = λ up. ap boot_of (sym (append_assoc l.forced l.unforced new))
      ∙ (boot_others (standing l) new none ∙ h.boot_is_forced up);
}

booted_forces : (l : Logs) (new : List Record) → Rises (standing l)
    → BootsRise (boot_of (standing l)) new → Booted (forces l new)
booted_forces l new h k = record {
  rises = subst Rises (sym (append-nil (standing l ++ new))) (push_rises (standing l) new h k);
  boot_is_forced = λ up. ap boot_of (append-nil (standing l ++ new));
}

booted_breaks : (l : Logs) (new : List Record) (a f : ℕ) → Rises (standing l)
    → BootsRise (boot_of (standing l)) new → Booted (breaks l new a f)
booted_breaks l new a f h k = record {
  rises = subst Rises (sym (breaks_keeps l new a f))
      (push_rises (standing l) (take a new) h
      (rise_front (boot_of (standing l)) (take a new) (drop a new)
      (subst (λ x. BootsRise (boot_of (standing l)) x) (sym (take-append-drop a new)) k)));
  boot_is_forced = λ up. absurd (cc);
}

pub lost_rises : (l : Logs) (k : ℕ) → Rises (standing l) → Rises (standing (loses l k))
lost_rises l k h =
    rise_front 0 (l.forced ++ take k l.unforced) (drop k l.unforced)
    (subst Rises (sym (append_assoc l.forced (take k l.unforced) (drop k l.unforced)
    ∙ ap (λ x. l.forced ++ x) (take-append-drop k l.unforced))) h)

next_boot : (b : ℕ) → b ≤ b + 1
next_boot b = omega arith

reopens_rise : (role : Role) (rs : List Record) → BootsRise (boot_of rs) (reopens role rs)
reopens_rise (AtLeaf p) rs = (next_boot (boot_of rs), tt)
reopens_rise AtRoot rs = (
  next_boot (boot_of rs),
  others_rise (boot_of rs + 1) _ (all_none is_opened (λ c ts. refl) rs (cases_in rs)),
)
reopens_rise (Below p) rs = (
  next_boot (boot_of rs),
  others_rise (boot_of rs + 1) _ (all_none is_opened (λ c ts. refl) rs (cases_in rs)),
)

reopens_boot : (role : Role) (rs : List Record)
    → fold boot_after (boot_of rs) (reopens role rs) ≡ boot_of rs + 1
reopens_boot (AtLeaf p) rs = refl
reopens_boot AtRoot rs = others_boot (boot_of rs + 1) _ (all_none is_opened (λ c ts. refl) rs (cases_in rs))
reopens_boot (Below p) rs = others_boot (boot_of rs + 1) _
    (all_none is_opened (λ c ts. refl) rs (cases_in rs))

-- the boot after a restart is the next
pub reopened_boot : (role : Role) (rs : List Record) → boot_of (rs ++ reopens role rs) ≡ boot_of rs + 1
reopened_boot role rs = boot_append rs (reopens role rs) ∙ reopens_boot role rs

-- What a trim leaves.

no_more : (r : Record) (b : Bool) (rest : List Record) → (b ≡ true → is_opened r ≡ false)
    → has is_opened rest ≡ false → has is_opened (if b then r ∷ rest else rest) ≡ false
no_more r true rest e f = has-cons is_opened r rest ∙ neither _ _ (e refl) f
no_more r false rest e f = f

stays_none : (role : Role) (rs behind : List Record) (r : Record) → stays role rs behind r ≡ true
    → is_opened r ≡ false
stays_none (AtLeaf p) rs behind r e = grind arith
stays_none AtRoot rs behind r e = grind arith
stays_none (Below p) rs behind r e = grind arith

staying_none : (role : Role) (whole rs : List Record) → has is_opened (staying role whole rs) ≡ false
staying_none role whole [] = has-nil is_opened
staying_none role whole (r ∷ rs) = no_more r (stays role whole rs r) (staying role whole rs)
    (stays_none role whole rs r) (staying_none role whole rs)

left_none : (role : Role) (rs : List Record) → has is_opened (staying role rs rs ++ data_records role rs)
    ≡ false
left_none role rs = in_none is_opened (staying role rs rs) (data_records role rs) (staying_none role rs rs)
    (data_is_other is_opened (λ k v. refl) (λ k. refl) role rs)

pub trimmed_boot : (role : Role) (rs : List Record) → boot_of (trimmed role rs) ≡ boot_of rs
unfolding boot_of trimmed
trimmed_boot role rs = others_boot (fold boot_after 0 rs) _ (left_none role rs)

zero_below : (b : ℕ) → 0 ≤ b
zero_below b = omega arith

trimmed_rises : (role : Role) (rs : List Record) → Rises (trimmed role rs)
unfolding trimmed
trimmed_rises role rs = (zero_below (boot_of rs), others_rise (boot_of rs) _ (left_none role rs))

booted_replaces : (role : Role) (l : Logs) → Booted (replaces role l)
booted_replaces role l = record {
  rises = subst Rises (sym (append-nil (trimmed role (standing l)))) (trimmed_rises role (standing l));
  boot_is_forced = λ up. ap boot_of (append-nil (trimmed role (standing l)));
}

-- an input leaves the boot
pub boot_written : (n : Node) (h : Heard) (e : Effect) → has is_opened (entries_written e.written) ≡ false
    → boot_of (kept (after n h e)) ≡ boot_of (kept n)
boot_written n h e none =
    let new = entries_written e.written in
    either_logs n new (is_any_forced e.written) (λ (l : Logs). boot_of (standing l) ≡ boot_of (kept n))
    (λ b. ap boot_of (append-nil (kept n ++ new)) ∙ boot_others (kept n) new none)
    (λ b. ap boot_of (sym (append_assoc n.forced n.unforced new)) ∙ boot_others (kept n) new none)

module _ (place : Place) (n : Node) (h : Booted (logs_of n)) where
  appended : (i : Heard) (e : Effect) → has is_opened (entries_written e.written) ≡ false
      → Booted (logs_of (after n i e))
  appended i e none =
      let new = entries_written e.written in
      either_logs n new (is_any_forced e.written) Booted
      (λ b. booted_forces (logs_of n) new h.rises (others_rise (boot_of (kept n)) new none))
      (λ b. booted_writes (logs_of n) new none h)

  trim_failed : (a : ℕ) → Booted (logs_of (trim_fails place n a))
  trim_failed zero = record { rises = h.rises; boot_is_forced = λ up. absurd (cc) }
  trim_failed (suc a) =
      record { rises = (booted_replaces place.role (logs_of n)).rises; boot_is_forced = λ up. absurd (cc) }

  pub still_booted : (m : Move) (e : Effect) (k : Node) → StepOf place n m e k → Booted (logs_of k)
  still_booted m _ _ (handled i g hp np r) =
      appended (heard_in m i) g (turn_none place.role place n (heard_in m i) g
      (turn_of place n (heard_in m i) g r).turn)
  still_booted m _ _ (failed_in i f g fl hp np r) =
      let new = entries_written g.written in
      booted_breaks (logs_of n) new f.appended f.forced h.rises
      (others_rise (boot_of (kept n)) new
      (turn_none place.role place n (heard_in m i) g (turn_of place n (heard_in m i) g r).turn))
  still_booted m _ _ (passed i hp r) = h
  still_booted m _ _ (failed_passing i f fl hp r) =
      record { rises = h.rises; boot_is_forced = λ up. absurd (cc) }
  still_booted m _ _ (reopened k hp) =
      let l = loses (logs_of n) k in
      let b = booted_forces l (reopens place.role (standing l)) (lost_rises (logs_of n) k h.rises)
      (reopens_rise place.role (standing l)) in
      record {
        rises = b.rises;
        boot_is_forced = λ up. ap boot_of
            (append-nil (standing l ++ reopens place.role (standing l)));
      }
  still_booted m _ _ (failed_reopening k f fl hp) =
      let l = loses (logs_of n) k in
      booted_breaks l (reopens place.role (standing l)) f.appended f.forced (lost_rises (logs_of n) k h.rises)
      (reopens_rise place.role (standing l))
  still_booted m _ _ (trims_log hp up) = booted_replaces place.role (logs_of n)
  still_booted m _ _ (failed_trimming f fl hp up) = trim_failed f.appended

  -- The forced boot only rises, and a restart's is higher.

  longer : (xs ys : List Record) → Rises ((n.forced ++ xs) ++ ys)
      → boot_of n.forced ≤ boot_of (n.forced ++ xs)
  longer xs ys r = front_below n.forced xs (rise_front 0 (n.forced ++ xs) ys r)

  grown_by : (i : Heard) (e : Effect) → has is_opened (entries_written e.written) ≡ false
      → boot_of n.forced ≤ boot_of (after n i e).forced
  grown_by i e none =
      let new = entries_written e.written in
      either_logs n new (is_any_forced e.written) (λ (l : Logs). boot_of n.forced ≤ boot_of l.forced)
      (λ b. subst (λ y. boot_of n.forced ≤ y) (sym (boot_others (kept n) new none))
      (forced_below (logs_of n) h))
      (λ b. le_refl (boot_of n.forced))

  trimmed_below : boot_of n.forced ≤ boot_of (trims place n).forced
  trimmed_below = subst (λ y. boot_of n.forced ≤ y) (sym (trimmed_boot place.role (kept n)))
      (forced_below (logs_of n) h)

  trim_failed_below : (a : ℕ) → boot_of n.forced ≤ boot_of (trim_fails place n a).forced
  trim_failed_below zero = le_refl (boot_of n.forced)
  trim_failed_below (suc a) = trimmed_below

  left_below : (k : ℕ) → boot_of n.forced ≤ boot_of (left_of n k)
  left_below k = front_below n.forced (take k n.unforced) (lost_rises (logs_of n) k h.rises)

  pub restart_rises : (k : ℕ) → boot_of n.forced < boot_of (kept (restarted place n k))
  restart_rises k =
      subst (λ y. boot_of n.forced < y)
      (sym (ap boot_of (append-nil (left_of n k ++ reopens place.role (left_of n k)))
      ∙ reopened_boot place.role (left_of n k)))
      (below_next (boot_of n.forced) (boot_of (left_of n k)) (left_below k))
    where
      below_next : (a b : ℕ) → a ≤ b → a < b + 1
      below_next a b e = omega arith

  fault_below : (new : List Record) (m : Move) (e : Effect) (k : Node) → StepOf place n m e k
      → k.forced ≡ (n.forced ++ new) → boot_of n.forced ≤ boot_of k.forced
  fault_below new m e k s same =
      subst (λ (x : List Record). boot_of n.forced ≤ boot_of x) (sym same)
      (longer new k.unforced (subst (λ (x : List Record). Rises (x ++ k.unforced)) same
      (still_booted m e k s).rises))

  pub forced_rises : (m : Move) (e : Effect) (k : Node) → StepOf place n m e k
      → boot_of n.forced ≤ boot_of k.forced
  forced_rises m _ _ (handled i g hp np r) =
      grown_by (heard_in m i) g (turn_none place.role place n (heard_in m i) g
      (turn_of place n (heard_in m i) g r).turn)
  forced_rises m _ _ (failed_in i f g fl hp np r) =
      fault_below (take f.forced (n.unforced ++ take f.appended (entries_written g.written))) m _ _
      (failed_in i f g fl hp np r) refl
  forced_rises m _ _ (passed i hp r) = le_refl (boot_of n.forced)
  forced_rises m _ _ (failed_passing i f fl hp r) = le_refl (boot_of n.forced)
  forced_rises m _ _ (reopened k hp) =
      subst (λ y. boot_of n.forced ≤ y) (sym (reopened_boot place.role (left_of n k)))
      (le_trans (left_below k) (next_boot (boot_of (left_of n k))))
  forced_rises m _ _ (failed_reopening k f fl hp) =
      fault_below (take f.forced (take k n.unforced ++ take f.appended (reopens place.role (left_of n k)))) m
      _ _ (failed_reopening k f fl hp) refl
  forced_rises m _ _ (trims_log hp up) = trimmed_below
  forced_rises m _ _ (failed_trimming f fl hp up) = trim_failed_below f.appended

-- A trim leaves what is remembered.
pub trims_memory : (place : Place) (n : Node) (c : Case)
    → memory_of place (trims place n) c ≡ memory_of place n c
unfolding memory_of
trims_memory place n c = rw (ap boot_of (append-nil (trims place n).forced)
    ∙ trimmed_boot place.role (kept n)) refl
