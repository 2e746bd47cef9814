-- What lasts of the cases of a coordinator; and what stands of a case after records of others.
use Rattle.std.proofs.Common.{◌≡◌, ◌∙◌, ◌||◌, ℕ, Bool, true, false, Option, Some, None, List, [], ◌∷◌, ◌++◌, refl, sym, ap, arith, append_assoc}
use Rattle.std.specs.Prelude.{fold}
use Rattle.std.specs.List.{flat_map}
use Rattle.std.proofs.lemmas.Grind.{fold-append}
use Rattle.std.proofs.lemmas.List.{append-nil}
use Rattle.protocol.specs.declared.names.Case.{Case}
use Rattle.protocol.specs.declared.names.ProcessId.{ProcessId}
use Rattle.protocol.specs.declared.names.Ticket.{Ticket}
use Rattle.protocol.specs.declared.records.Record.{Record}
use Rattle.protocol_words.specs.Variants.{AbortRecord, CommitRecord}
use Rattle.protocol.specs.declared.standings.Standing.TheVariants.{Active, Collecting}
use Rattle.protocol.specs.declared.standings.Vote.{Vote}
use Rattle.protocol.specs.declared.trees.TreeProcess.{TreeProcess}
use Rattle.protocol.specs.Records.{has, in_list, is_end, is_commit, is_abort, is_prepare, is_collecting, owing_by, owing_in, boot_of}
use Rattle.protocol.specs.Nodes.{Place, Node, Heard, kept}
use Rattle.protocol.specs.Memory.{Memory, Phase, Idle, Open, Asked, Over, memory_of, remembers, fresh_memory, voted_so, same_vote}
use Rattle.protocol.specs.Outcomes.{has_accepted, has_heard_vote}
use Rattle.proof_processes.specs.WorldHolds.{is_record_of}
use Rattle.protocol.specs.Audits.{is_naming}
use Rattle.proof_processes.proofs.CaseSteps.{heard_so}
use Rattle.proof_processes.proofs.Phases.{standing_at, Together, unrecorded_stands}
use Rattle.proof_processes.proofs.Remembering.{role_below, coordinator_place, remembers_at}
use Rattle.proof_processes.proofs.RootKnown.{no_end, no_commit, no_abort, no_prepare, no_collecting}
use Rattle.proof_processes.proofs.RowNeeds.{is_needless}
use Rattle.proof_processes.proofs.Tests.{has-append, has-cons, first_false, second_false, not_both}
use Rattle.proof_processes.proofs.Worlds.{has_other}

-- the case can still be decided
abbrev pub IsLive : Phase → Type 0
IsLive Open = Unit {0}
IsLive Asked = Unit {0}
IsLive Idle = ⊥
IsLive Over = ⊥

-- A case's phase goes with its records; who is remembered, has voted or is named was accepted; the votes of a
-- live case are those that were heard, and it has no Commit.
pub record Coordinated (place : Place) (n : Node) : Type 0 where
  pub together : n.failed ≡ false → (c : Case) → Together (kept n) c (memory_of place n c).phase
  pub needless : has is_needless (kept n) ≡ false
  pub remembered_accepted : (c : Case) (t : Ticket) → in_list (memory_of place n c).accepted t ≡ true
      → has_accepted n c t ≡ true
  pub voted_accepted : (c : Case) (t : Ticket) (v : Vote) → has_heard_vote n c t (same_vote v) ≡ true
      → has_accepted n c t ≡ true
  pub named_accepted : (c : Case) (t : Ticket) → has (is_naming c t) n.life ≡ true → has_accepted n c t ≡ true
  pub votes : n.failed ≡ false → (c : Case) → IsLive (memory_of place n c).phase → (t : Ticket) (v : Vote)
      → heard_so c t v n.voted ≡ voted_so v (memory_of place n c).votes t
  pub uncommitted : n.failed ≡ false → (c : Case) → IsLive (memory_of place n c).phase
      → has (is_commit c) n.life ≡ false

-- Memory.

remembers_so : (me : ProcessId) (parent : Option ProcessId) (boot : ℕ) (c : Case) (m : Memory) (h : Heard)
    → remembers me (role_below parent) boot c m h ≡ remembers_at parent me boot c m h.input
remembers_so me None boot c m h = refl
remembers_so me (Some p) boot c m h = refl

-- what is remembered after an input, where the boot stays
pub memory_behind : (me : ProcessId) (parent : Option ProcessId) (tree : List TreeProcess) (n : Node)
    (h : Heard)
    (k : Node) (c : Case) → k.heard ≡ n.heard ++ h ∷ [] → boot_of (kept k) ≡ boot_of (kept n)
    → memory_of (coordinator_place me parent tree) k c
    ≡ remembers_at parent me (boot_of (kept n)) c (memory_of (coordinator_place me parent tree) n c) h.input
unfolding memory_of
memory_behind me parent tree n h k c e b =
    ap (λ hs. fold (remembers me (role_below parent) (boot_of (kept k)) c) fresh_memory hs) e
    ∙ (ap (λ (j : ℕ). fold (remembers me (role_below parent) j c) fresh_memory (n.heard ++ h ∷ [])) b
    ∙ (fold-append _ _ n.heard (h ∷ [])
    ∙ remembers_so me parent (boot_of (kept n)) c (memory_of (coordinator_place me parent tree) n c) h))

-- what is remembered is the same where nothing more was heard, in the same boot
pub memory_same : (place : Place) (n k : Node) (c : Case) → k.heard ≡ n.heard
    → boot_of (kept k) ≡ boot_of (kept n) → memory_of place k c ≡ memory_of place n c
unfolding memory_of
memory_same place n k c e b =
    ap (λ hs. fold (remembers place.me place.role (boot_of (kept k)) c) fresh_memory hs) e
    ∙ ap (λ (j : ℕ). fold (remembers place.me place.role j c) fresh_memory n.heard) b

-- nothing is remembered if nothing was heard
pub memory_empty : (place : Place) (k : Node) (c : Case) → k.heard ≡ [] → memory_of place k c ≡ fresh_memory
unfolding memory_of
memory_empty place k c e =
    ap (λ hs. fold (remembers place.me place.role (boot_of (kept k)) c) fresh_memory hs) e

-- Records of others.

module _ (c : Case) (rs new : List Record) (none : has (is_record_of c) new ≡ false) where
  none_new : (q : Record → Bool) → ((r : Record) → q r ≡ true → is_record_of c r ≡ true) → has q new ≡ false
  none_new q f = by_test (has q new) refl
    where
      by_test : (b : Bool) → has q new ≡ b → has q new ≡ false
      by_test true e = not_both q (has (is_record_of c) new) (has_other q (is_record_of c) new f e) none
      by_test false e = e

  pub as_before : (q : Record → Bool) → ((r : Record) → q r ≡ true → is_record_of c r ≡ true)
      → has q (rs ++ new) ≡ has q rs
  as_before q f = has-append q rs new ∙ or_none (has q rs) (has q new) (none_new q f)
    where
      or_none : (a b : Bool) → b ≡ false → (a || b) ≡ a
      or_none a b e = grind arith

owes_none : (c : Case) (r : Record) → is_record_of c r ≡ false → owing_in c r ≡ []
owes_none c (CommitRecord d ts) e = rw e refl
owes_none c (AbortRecord d ts) e = rw e refl
owes_none c r e = refl

owing_none : (c : Case) (new : List Record) → has (is_record_of c) new ≡ false → owing_by c new ≡ []
unfolding owing_by
owing_none c [] e = refl
owing_none c (r ∷ rs) e =
    let f = sym (has-cons (is_record_of c) r rs) ∙ e in
    ap (λ ts. ts ++ flat_map (owing_in c) rs) (owes_none c r (first_false _ _ f))
    ∙ owing_none c rs (second_false (is_record_of c r) _ f)

owing-append : (c : Case) (xs ys : List Record) → owing_by c (xs ++ ys) ≡ owing_by c xs ++ owing_by c ys
unfolding owing_by
owing-append c [] ys = refl
owing-append c (x ∷ xs) ys =
    ap (λ ts. owing_in c x ++ ts) (owing-append c xs ys)
    ∙ sym (append_assoc (owing_in c x) (flat_map (owing_in c) xs) _)

-- a case stands as before after records of others
pub stands_as_before : (c : Case) (rs new : List Record) (ph : Phase) → has (is_record_of c) new ≡ false
    → standing_at (rs ++ new) c ph ≡ standing_at rs c ph
stands_as_before c rs new ph e =
    rw (
      as_before c rs new e (is_end c) (λ r f. grind arith),
      as_before c rs new e (is_commit c) (λ r f. grind arith),
      as_before c rs new e (is_abort c) (λ r f. grind arith),
      as_before c rs new e (is_prepare c) (λ r f. grind arith),
      as_before c rs new e (is_collecting c) (λ r f. grind arith),
      owing-append c rs new
          ∙ (ap (λ ts. owing_by c rs ++ ts) (owing_none c new e) ∙ append-nil (owing_by c rs)),
    ) refl

-- a case that begins, of which there is no record, is Active
pub begins_together : (c : Case) (rs : List Record) → has (is_record_of c) rs ≡ false → Together rs c Open
begins_together c rs none =
    let s : standing_at rs c Open ≡ Active =
    unrecorded_stands rs c Open (record {
      no_end = no_end c rs none;
      no_commit = no_commit c rs none;
      no_abort = no_abort c rs none;
      no_prepare = no_prepare c rs none;
      no_collecting = no_collecting c rs none;
    }) in
    record {
      open_is_active = λ f. s;
      asked_is_collecting = λ f. absurd (cc);
      collecting_is_asked = λ f. absurd (not_so (sym s ∙ f));
    }
  where
    not_so : Active ≡ Collecting → ⊥
    not_so f = cc
