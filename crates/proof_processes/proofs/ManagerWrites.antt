-- What an input lets a manager write: a promise of a branch that is Active, or what ends an open one, or
-- nothing.
use Rattle.std.proofs.Common.{◌≡◌, ◌∙◌, ℕ, true, false, Some, List, [], ◌∷◌, ◌++◌, refl, sym, ap, append_assoc}
use Rattle.std.proofs.lemmas.List.{append-nil}
use Rattle.protocol.specs.declared.names.Case.{Case}
use Rattle.protocol.specs.declared.names.ProcessId.{ProcessId}
use Rattle.protocol.specs.declared.names.Outcome.{Outcome}
use Rattle.protocol_words.specs.Variants.{AbortedOutcome, CaseBranch, CommittedOutcome, MessageInput, PreparedRecord}
use Rattle.protocol.specs.declared.messages.Message.TheVariants.{Join, Prepare}
use Rattle.protocol.specs.declared.records.Record.{Record}
use Rattle.protocol.specs.declared.records.Record.TheVariants.{Told, Forgot}
use Rattle.protocol.specs.declared.records.Write.{Write}
use Rattle.protocol.specs.Records.{record_branch}
use Rattle.protocol.specs.Nodes.{Place, Node, Heard, Effect, kept, entries_written, is_any_forced, after}
use Rattle.protocol.specs.CoordinatorRows.{tells_outcome}
use Rattle.protocol.specs.ManagerRows.{Leaf, ends_record, decides_record}
use Rattle.protocol.specs.Reactions.{leaf_of}
use Rattle.protocol.specs.Restarts.{is_open}
use Rattle.protocol.specs.Audits.{is_promise}
use Rattle.proof_pairs.specs.turns.LeafTurns.{LeafTurn, Hears, mark_at, IsActive, IsDecided, untold, told, does_nothing, gives_again, gives_fresh, votes_yes, votes_read, votes_no, repeats_yes, refuses, obeys, notes, acknowledges_told, acknowledges, drops, asks, decides, forgets}
use Rattle.proof_processes.specs.Lasts.{Logs, standing}
use Rattle.proof_processes.proofs.Appends.{either_logs}

-- a record that ends an open branch, or tells or forgets it: not for JOIN, and no promise
pub record Ends (n : Node) (h : Heard) (d : Case) (r : Record) : Type 0 where
  pub of : record_branch r ≡ Some (CaseBranch d)
  pub is_open : is_open (mark_at n d) ≡ true
  pub no_join : (j : ℕ) (x : Case) → h.input ≡ MessageInput j (Join x) → ⊥
  pub no_promise : (x : Case) → is_promise x r ≡ false

pub data Wrote (place : Place) (n : Node) (h : Heard) : List Record → Type 0 where
  nothing : Wrote place n h []
  promise : (d : Case) (k : ℕ) (ws : List Write) → Hears h (Prepare d k) → IsActive place n d
      → Wrote place n h (PreparedRecord (CaseBranch d) ws ∷ [])
  ending : (d : Case) (r : Record) → Ends n h d r → Wrote place n h (r ∷ [])

module _ (place : Place) (p : ProcessId) (n : Node) (h : Heard) where
  told_no_join : (d : Case) (o : Outcome) → Hears h (tells_outcome o d) → (j : ℕ) (x : Case)
      → h.input ≡ MessageInput j (Join x) → ⊥
  told_no_join d CommittedOutcome i j x e = absurd (let f = sym i.1 ∙ e in cc)
  told_no_join d AbortedOutcome i j x e = absurd (let f = sym i.1 ∙ e in cc)

  ended : (l : Leaf) (o : Outcome) → record_branch (ends_record l o) ≡ Some (CaseBranch l.own)
  ended l CommittedOutcome = refl
  ended l AbortedOutcome = refl

  ends_no_promise : (l : Leaf) (o : Outcome) (x : Case) → is_promise x (ends_record l o) ≡ false
  ends_no_promise l CommittedOutcome x = refl
  ends_no_promise l AbortedOutcome x = refl

  decided : (l : Leaf) (o : Outcome) → record_branch (decides_record l o) ≡ Some (CaseBranch l.own)
  decided l CommittedOutcome = refl
  decided l AbortedOutcome = refl

  decides_no_promise : (l : Leaf) (o : Outcome) (x : Case) → is_promise x (decides_record l o) ≡ false
  decides_no_promise l CommittedOutcome x = refl
  decides_no_promise l AbortedOutcome x = refl

  decided_open : (d : Case) → IsDecided (mark_at n d) → is_open (mark_at n d) ≡ true
  decided_open d k = by_mark (mark_at n d) k
    where
      by_mark : (m : _) → IsDecided m → is_open m ≡ true
      by_mark _ untold = refl
      by_mark _ (told o) = refl

  pub leaf_wrote : (e : Effect) → LeafTurn place p n h e → Wrote place n h (entries_written e.written)
  leaf_wrote _ (votes_yes d k ws i a) = promise d k ws i a
  leaf_wrote _ (obeys d o i e) = ending d (ends_record (leaf_of place p d) o) (record {
    of = ended (leaf_of place p d) o;
    is_open = ap is_open e;
    no_join = told_no_join d o i;
    no_promise = ends_no_promise (leaf_of place p d) o;
  })
  leaf_wrote _ (notes d o i e) = ending d (Told (CaseBranch d) o) (record {
    of = refl;
    is_open = ap is_open e;
    no_join = told_no_join d o i;
    no_promise = λ x. refl;
  })
  leaf_wrote _ (decides d o i e) = ending d (decides_record (leaf_of place p d) o) (record {
    of = decided (leaf_of place p d) o;
    is_open = ap is_open e;
    no_join = λ j x f. absurd (let g = sym i ∙ f in cc);
    no_promise = decides_no_promise (leaf_of place p d) o;
  })
  leaf_wrote _ (forgets d i k) = ending d (Forgot (CaseBranch d)) (record {
    of = refl;
    is_open = decided_open d k;
    no_join = λ j x f. absurd (let g = sym i ∙ f in cc);
    no_promise = λ x. refl;
  })
  leaf_wrote _ does_nothing = nothing
  leaf_wrote _ (gives_again d t i a) = nothing
  leaf_wrote _ (gives_fresh d i a s) = nothing
  leaf_wrote _ (votes_read d k i a) = nothing
  leaf_wrote _ (votes_no d k i a) = nothing
  leaf_wrote _ (repeats_yes d k i a) = nothing
  leaf_wrote _ (refuses d k i a) = nothing
  leaf_wrote _ (acknowledges_told d o i k) = nothing
  leaf_wrote _ (acknowledges d o i k) = nothing
  leaf_wrote _ (drops d i a) = nothing
  leaf_wrote _ (asks d i k) = nothing

  pub leaf_accepts : (e : Effect) → LeafTurn place p n h e → e.accepts ≡ []
  leaf_accepts _ does_nothing = refl
  leaf_accepts _ (votes_yes d k ws i a) = refl
  leaf_accepts _ (obeys d o i e) = refl
  leaf_accepts _ (notes d o i e) = refl
  leaf_accepts _ (decides d o i e) = refl
  leaf_accepts _ (forgets d i k) = refl
  leaf_accepts _ (gives_again d t i a) = refl
  leaf_accepts _ (gives_fresh d i a s) = refl
  leaf_accepts _ (votes_read d k i a) = refl
  leaf_accepts _ (votes_no d k i a) = refl
  leaf_accepts _ (repeats_yes d k i a) = refl
  leaf_accepts _ (refuses d k i a) = refl
  leaf_accepts _ (acknowledges_told d o i k) = refl
  leaf_accepts _ (acknowledges d o i k) = refl
  leaf_accepts _ (drops d i a) = refl
  leaf_accepts _ (asks d i k) = refl

-- the records that are after an input
pub kept_after : (n : Node) (h : Heard) (e : Effect)
    → kept (after n h e) ≡ kept n ++ entries_written e.written
kept_after n h e =
    let new = entries_written e.written in
    either_logs n new (is_any_forced e.written) (λ (l : Logs). standing l ≡ kept n ++ new)
    (λ b. append-nil (kept n ++ new)) (λ b. sym (append_assoc n.forced n.unforced new))
