-- A cascaded coordinator that said READ of a case never promised it, and what a crash took of a promise was
-- not forced.
use Rattle.std.proofs.Common.{◌≡◌, ◌∙◌, ◌||◌, ◌&&◌, ◌⊎◌, inl, inr, Bool, true, false, List, [], ◌∷◌, ◌++◌, refl, sym, ap, arith}
use Rattle.std.specs.Prelude.{reverse}
use Rattle.std.specs.List.{list_any}
use Rattle.std.proofs.lemmas.List.Folds.{list_any-append}
use Rattle.protocol.specs.declared.names.Case.{Case}
use Rattle.protocol.specs.declared.names.ProcessId.{ProcessId}
use Rattle.protocol.specs.declared.messages.Envelope.{Envelope}
use Rattle.protocol.specs.declared.records.Record.{Record}
use Rattle.protocol.specs.Names.{same_process}
use Rattle.protocol.specs.NameLaws.{same_process_tells}
use Rattle.protocol.specs.Records.{has, is_collecting, is_prepare}
use Rattle.protocol.specs.Memory.{memory_of}
use Rattle.protocol.specs.Nodes.{Node, Place, kept}
use Rattle.protocol.specs.Outcomes.{is_read_message, sent}
use Rattle.proof_pairs.specs.readings.ReadingOf.{gives_case}
use Rattle.proof_processes.proofs.Tests.{either, has-reverse, in_either, in_first, in_second, left, neither, not_both, right}
use Rattle.proof_steps.specs.cascades.Messages.{AllSentBy}
use Rattle.proof_steps.proofs.cascades.Opens.{live}

-- the process said READ of the case
abbrev pub said_read : ProcessId → Case → List Envelope → Bool
said_read me c ls = list_any (λ l. same_process l.from me && is_read_message c l.message) ls

-- What it keeps of its own cases.
pub record Reads (place : Place) (net : List Envelope) (n : Node) : Type 0 where
  pub read_promised_nothing : (c : Case) → said_read place.me c net ≡ true → has (is_prepare c) n.life ≡ false
  pub open_read_nothing : n.failed ≡ false → (c : Case) → live (memory_of place n c).phase ≡ true
      → said_read place.me c net ≡ false
  pub read_is_given : (c : Case) → said_read place.me c net ≡ true → sent (gives_case c) net ≡ true
  pub open_promised_nothing : n.failed ≡ false → (c : Case) → live (memory_of place n c).phase ≡ true
      → has (is_prepare c) n.life ≡ false
  pub promise_is_once : (c : Case) → has (is_prepare c) (kept n) ≡ true → has (is_prepare c) n.durable ≡ true
      → has (is_prepare c) n.forced ≡ true
  pub collected_promise : (c : Case) → has (is_prepare c) n.life ≡ true → has (is_collecting c) (kept n)
      ≡ true
      → (has (is_prepare c) (kept n) ≡ true) ⊎ (has (is_prepare c) n.durable ≡ false)

-- Messages.

pub read_append : (me : ProcessId) (c : Case) (xs ys : List Envelope)
    → said_read me c (xs ++ ys) ≡ (said_read me c xs || said_read me c ys)
read_append me c xs ys = list_any-append _ xs ys

second_true : (a b : Bool) → (a && b) ≡ true → b ≡ true
second_true a b e = grind arith

-- a message that says READ
pub read_sent : (me : ProcessId) (c : Case) (ls : List Envelope) → said_read me c ls ≡ true
    → sent (is_read_message c) ls ≡ true
unfolding sent
read_sent me c [] e = e
read_sent me c (l ∷ ls) e = elim (either (same_process l.from me && is_read_message c l.message)
    (said_read me c ls) e) [
      | inl now ↦ left (is_read_message c l.message) (sent (is_read_message c) ls)
          (second_true (same_process l.from me) (is_read_message c l.message) now)
      | inr rest ↦ right (is_read_message c l.message) (sent (is_read_message c) ls) (read_sent me c ls rest)
    ]

pub unread : (me : ProcessId) (c : Case) (ls : List Envelope) → sent (is_read_message c) ls ≡ false
    → said_read me c ls ≡ false
unread me c ls e = by_test (said_read me c ls) refl
  where
    by_test : (b : Bool) → said_read me c ls ≡ b → said_read me c ls ≡ false
    by_test true f = absurd (let x = sym e ∙ read_sent me c ls f in cc)
    by_test false f = f

-- messages of another process are none of its words
pub others_unread : (me q : ProcessId) (c : Case) (ls : List Envelope) → (q ≡ me → ⊥) → AllSentBy q ls
    → said_read me c ls ≡ false
others_unread me q c [] f a = refl
others_unread me q c (l ∷ ls) f a =
    neither _ _ (ap (λ b. b && is_read_message c l.message) (apart (same_process l.from me) refl))
    (others_unread me q c ls f a.1)
  where
    apart : (b : Bool) → same_process l.from me ≡ b → same_process l.from me ≡ false
    apart false e = e
    apart true e = elim (same_process_tells l.from me) [
      | inl s ↦ absurd (f (sym a.0 ∙ s.1))
      | inr o ↦ o.0
    ]

pub first_or : {A : Type 0} (me : ProcessId) (c : Case) (xs ys : List Envelope) → said_read me c (xs ++ ys)
    ≡ true
    → (said_read me c xs ≡ true → A) → (said_read me c ys ≡ true → A) → A
first_or me c xs ys e f g = elim (either (said_read me c xs) (said_read me c ys)
    (sym (read_append me c xs ys) ∙ e)) [
      | inl x ↦ f x
      | inr y ↦ g y
    ]

pub none_read : (me : ProcessId) (c : Case) (xs ys : List Envelope) → said_read me c xs ≡ false
    → said_read me c ys ≡ false → said_read me c (xs ++ ys) ≡ false
none_read me c xs ys e f = read_append me c xs ys ∙ neither _ _ e f

-- The log after an event that appended these records.

pub record Appended (n k : Node) (c : Case) (xs : List Record) (was : Bool) : Type 0 where
  pub kept_then : kept k ≡ kept n ++ xs
  pub life_then : k.life ≡ reverse xs ++ n.life
  pub durable_from : has (is_prepare c) k.durable ≡ true → (has (is_prepare c) (kept k) ≡ true)
      ⊎ (has (is_prepare c) n.durable ≡ true)
  pub promise_was_open : has (is_prepare c) xs ≡ true → was ≡ true
  pub collecting_was_open : has (is_collecting c) xs ≡ true → was ≡ true

module _ (n k : Node) (c : Case) (xs : List Record) (was : Bool) (a : Appended n k c xs was)
    (old : has (is_prepare c) n.life ≡ true → has (is_collecting c) (kept n) ≡ true
    → (has (is_prepare c) (kept n) ≡ true) ⊎ (has (is_prepare c) n.durable ≡ false))
    (open_none : was ≡ true → has (is_prepare c) n.life ≡ false) where
  kept_if : (q : Record → Bool) → has q (kept n) ≡ true → has q (kept k) ≡ true
  kept_if q e = ap (has q) a.kept_then ∙ in_first q (kept n) xs e

  now_if : (q : Record → Bool) → has q xs ≡ true → has q (kept k) ≡ true
  now_if q e = ap (has q) a.kept_then ∙ in_second q (kept n) xs e

  pub life_of : has (is_prepare c) k.life ≡ true → (has (is_prepare c) xs ≡ true)
      ⊎ (has (is_prepare c) n.life ≡ true)
  life_of e = elim (in_either (is_prepare c) (reverse xs) n.life
      (ap (has (is_prepare c)) (sym a.life_then) ∙ e)) [
        | inl now ↦ inl (sym (has-reverse (is_prepare c) xs) ∙ now)
        | inr before ↦ inr before
      ]

  pub collected_then : has (is_prepare c) k.life ≡ true → has (is_collecting c) (kept k) ≡ true
      → (has (is_prepare c) (kept k) ≡ true) ⊎ (has (is_prepare c) k.durable ≡ false)
  collected_then e f = elim (life_of e) [
    | inl now ↦ inl (now_if (is_prepare c) now)
    | inr before ↦ by_kept before
        (in_either (is_collecting c) (kept n) xs (ap (has (is_collecting c)) (sym a.kept_then) ∙ f))
  ]
    where
      none_durable : (b : Bool) → has (is_prepare c) k.durable ≡ b → has (is_prepare c) n.durable ≡ false
          → (has (is_prepare c) (kept k) ≡ true) ⊎ (has (is_prepare c) k.durable ≡ false)
      none_durable false x g = inr x
      none_durable true x g = elim (a.durable_from x) [
        | inl y ↦ inl y
        | inr y ↦ not_both (is_prepare c) (has (is_prepare c) n.durable) y g
      ]

      by_kept : has (is_prepare c) n.life ≡ true
          → (has (is_collecting c) (kept n) ≡ true) ⊎ (has (is_collecting c) xs ≡ true)
          → (has (is_prepare c) (kept k) ≡ true) ⊎ (has (is_prepare c) k.durable ≡ false)
      by_kept g (inl x) = elim (old g x) [
        | inl y ↦ inl (kept_if (is_prepare c) y)
        | inr y ↦ none_durable (has (is_prepare c) k.durable) refl y
      ]
      by_kept g (inr x) = not_both (is_prepare c) (has (is_prepare c) n.life) g
          (open_none (a.collecting_was_open x))
