-- Words that spell nothing, and words that are parted.
use Rattle.std.proofs.Common.{◌≡◌, ℕ, Bool, not, ◌+◌, ◌-◌, ◌<◌, ◌≤◌, true, false, zero, suc, List, [], ◌∷◌, ◌++◌, length, get_or, take, drop, Bor, Option, Some, None, refl, sym, ap, ◌∙◌, subst, arith}
use Rattle.std.specs.Prelude.{IfNone, IfSome, codes, nat_eq}
use Rattle.std.specs.Cmp.Lexicographic.{bytes_decides, pointwise, same_text}
use Rattle.std.proofs.lemmas.Bool.{false≢true}
use Rattle.std.proofs.lemmas.List.{length-append, length-drop, take-map, drop-map, take_all}
use Rattle.std.proofs.Math.Seq.{drop-append-add, get_or-append_seam, split_at, take-append_seam}
use Rattle.script_words.proofs.Texts.{blank, long, text_at, texts}
use Rattle.xa_xid.specs.declared.xid.Xid.{Xid}
use Rattle.judge_rules.specs.declared.calls.HistoryEvent.{HistoryEvent}
use Rattle.judge_script.specs.Words.{IsName}
use Rattle.judge_script.specs.Answers.{AreNames, SaysAnswer}
use Rattle.xa_codes.specs.FlagNames.{IsFlagText}
use Rattle.judge_rules.specs.declared.calls.BranchVerb.{BranchVerb}
use Rattle.judge_script.specs.Askings.{AsksCall, IsWithOne, IsWithThree, IsWithTwo}
use Rattle.judge_script.specs.declared.asking.TranscriptCall.TheVariants as asked
use Rattle.judge_script.specs.declared.asking.CallWord.{CallWord}
use Rattle.judge_script.specs.declared.asking.CallWord.TheVariants as word
use Rattle.judge_script.specs.declared.asking.TranscriptCall.{TranscriptCall}
use Rattle.judge_script.specs.declared.answers.SaidAnswer.{SaidAnswer}
use Rattle.judge_script.specs.Numbers.{AreParted, IsLineAnswer, IsCall, IsLineEvent, NameTable}

-- each of the words that spell XIDs spells one
name_at : (ws : List (List ℕ)) (xs : List Xid) (i : ℕ) → AreNames ws xs → i < length ws
    → (x : Xid) × IsName (get_or ws i []) x
name_at [] xs i h lt = absurd (omega (arith, lt))
name_at (w ∷ ws) [] i h lt = absurd h
name_at (w ∷ ws) (x ∷ xs) zero h lt = (x, h.0)
name_at (w ∷ ws) (x ∷ xs) (suc i) h lt = name_at ws xs i h.1 (omega (arith, lt))

-- so words of which one spells none spell no list
pub no_names : (ws : List (Bor (List ℕ))) (i : ℕ) → i < length ws
    → ((x : Xid) → IsName (get_or ws i blank).now x → ⊥) → (xs : List Xid) → AreNames (texts ws) xs → ⊥
no_names ws i lt lacks xs h =
    let within : i < length (texts ws) = omega (arith, long ws) in
    let p = name_at (texts ws) xs i h within in
    lacks p.0 (subst (λ (w : List ℕ). IsName w p.0) (text_at ws i) p.1)

-- the words before and after a place
pub front_texts : (ws : List (Bor (List ℕ))) (i : ℕ) → take i (texts ws) ≡ texts (take i ws)
front_texts ws i = take-map (λ (s : Bor (List ℕ)). s.now) i ws

pub rest_texts : (ws : List (Bor (List ℕ))) (i : ℕ)
    → drop i (texts ws) ≡ texts (take (length ws - i) (drop i ws))
rest_texts ws i =
    let past : length (drop i ws) ≤ length ws - i = omega (arith, length-drop i ws) in
    drop-map (λ (s : Bor (List ℕ)). s.now) i ws
    ∙ ap texts (sym (take_all (length ws - i) (drop i ws) past))

-- a word that is the arrow, or is not
pub arrow_at : (ws : List (Bor (List ℕ))) (i : ℕ)
    → true ≡ pointwise nat_eq (get_or ws i blank).now (codes "->")
    → get_or (texts ws) i [] ≡ codes "->"
arrow_at ws i is = text_at ws i ∙ same_text (get_or ws i blank).now (codes "->") is

pub no_arrow : (ws : List (Bor (List ℕ))) (i : ℕ)
    → false ≡ pointwise nat_eq (get_or ws i blank).now (codes "->")
    → (a : TranscriptCall) (s : SaidAnswer) → AreParted (texts ws) i a s → ⊥
no_arrow ws i lacks a s h =
    let e : (get_or ws i blank).now ≡ codes "->" = sym (text_at ws i) ∙ h.arrow in
    false≢true (lacks ∙ (bytes_decides (get_or ws i blank).now (codes "->")).1 e)

-- what is parted at a place
pub parted_words : (ws : List (Bor (List ℕ))) (i : ℕ) (a : TranscriptCall) (s : SaidAnswer)
    → true ≡ pointwise nat_eq (get_or ws i blank).now (codes "->") → AsksCall (texts (take i ws)) a
    → SaysAnswer (texts (take (length ws - (i + 1)) (drop (i + 1) ws))) s → AreParted (texts ws) i a s
parted_words ws i a s is asks says = record {
  arrow = arrow_at ws i is;
  asks = subst (λ (q : List (List ℕ)). AsksCall q a) (sym (front_texts ws i)) asks;
  says = subst (λ (q : List (List ℕ)). SaysAnswer q s) (sym (rest_texts ws (i + 1))) says;
}

-- nothing is parted if no call is spelled, or no answer
pub no_call : (ws : List (Bor (List ℕ))) (i : ℕ) → ((a : TranscriptCall) → AsksCall (texts (take i ws)) a → ⊥)
    → (a : TranscriptCall) (s : SaidAnswer) → AreParted (texts ws) i a s → ⊥
no_call ws i lacks a s h = lacks a (subst (λ (q : List (List ℕ)). AsksCall q a) (front_texts ws i) h.asks)

pub no_answer : (ws : List (Bor (List ℕ))) (i : ℕ)
    → ((s : SaidAnswer) → SaysAnswer (texts (take (length ws - (i + 1)) (drop (i + 1) ws))) s → ⊥)
    → (a : TranscriptCall) (s : SaidAnswer) → AreParted (texts ws) i a s → ⊥
no_answer ws i lacks a s h = lacks s (subst (λ (q : List (List ℕ)). SaysAnswer q s)
    (rest_texts ws (i + 1)) h.says)

-- an event of words that are parted
pub parted_event : (n : NameTable) (ws : List (List ℕ)) (i : ℕ) (a : TranscriptCall) (s : SaidAnswer)
    (e : HistoryEvent) → i < length ws
    → AreParted ws i a s → IsCall n a e.call → IsLineAnswer n s e.answer → IsLineEvent n ws e
parted_event n ws i a s e lt h call answer =
    let next : suc i ≡ i + 1 = omega arith in
    record {
      call = take i ws;
      answer = drop (i + 1) ws;
      parts = split_at ws i [] lt ∙ ap (λ (w : List ℕ). take i ws ++ w ∷ drop (suc i) ws) h.arrow
          ∙ ap (λ (k : ℕ). take i ws ++ codes "->" ∷ drop k ws) next;
      asked = a;
      said = s;
      asks = h.asks;
      says = h.says;
      is_call = call;
      is_answer = answer;
    }

-- the words of an event are parted
event_parted : (n : NameTable) (ws : List (List ℕ)) (e : HistoryEvent) → (h : IsLineEvent n ws e)
    → AreParted ws (length h.call) h.asked h.said
event_parted n ws e h =
    let front : take (length h.call) ws ≡ h.call =
    ap (take (length h.call)) h.parts ∙ take-append_seam h.call (codes "->" ∷ h.answer) in
    let rest : drop (length h.call + 1) ws ≡ h.answer =
    ap (drop (length h.call + 1)) h.parts ∙ drop-append-add h.call (codes "->" ∷ h.answer) 1 in
    record {
      arrow = ap (λ (q : List (List ℕ)). get_or q (length h.call) []) h.parts
          ∙ get_or-append_seam h.call (codes "->") h.answer [];
      asks = subst (λ (q : List (List ℕ)). AsksCall q h.asked) (sym front) h.asks;
      says = subst (λ (q : List (List ℕ)). SaysAnswer q h.said) (sym rest) h.says;
    }

event_place : (n : NameTable) (ws : List (List ℕ)) (e : HistoryEvent) → (h : IsLineEvent n ws e)
    → length h.call < length ws
event_place n ws e h = omega (arith, ap length h.parts, length-append h.call (codes "->" ∷ h.answer))

-- so if nothing is parted there is no event
pub no_event : (ws : List (List ℕ))
    → ((i : ℕ) (a : TranscriptCall) (s : SaidAnswer) → i < length ws → AreParted ws i a s → ⊥)
    → (n : NameTable) (e : HistoryEvent) → IsLineEvent n ws e → ⊥
no_event ws lacks n e h = lacks (length h.call) h.asked h.said (event_place n ws e h) (event_parted n ws e h)

-- what holds anyway holds where there is nothing
pub if_none : {A : Type 0} (r : Option A) (P : Type 0) → P → IfNone r P
if_none None P h = h
if_none (Some x) P h = tt

-- a text that names no flags
abbrev NamesNone : List ℕ → Type 0
NamesNone text = (bits : ℕ) → IsFlagText text bits → ⊥

open_one : (x : List ℕ) → NamesNone x → (a : TranscriptCall) → IsWithOne word.Open x a → ⊥
open_one x none (asked.Open flags) h = none flags.0 h
open_one x none a h = absurd h

close_one : (x : List ℕ) → NamesNone x → (a : TranscriptCall) → IsWithOne word.Close x a → ⊥
close_one x none (asked.Close flags) h = none flags.0 h
close_one x none a h = absurd h

open_two : (x y : List ℕ) → NamesNone x → (a : TranscriptCall) → IsWithTwo word.Open x y a → ⊥
open_two x y none (asked.Open flags) h = none flags.0 h
open_two x y none a h = absurd h

recover_three : (x y z : List ℕ) → NamesNone z → (a : TranscriptCall) → IsWithThree word.Recover x y z a → ⊥
recover_three x y z none (asked.Recover thread count flags) h = none flags.0 h.2
recover_three x y z none a h = absurd h

-- calls whose flags are none
pub no_open : (w : CallWord) (x : List ℕ) → w ≡ word.Open → NamesNone x → (a : TranscriptCall)
    → IsWithOne w x a → ⊥
no_open w x is none a h = open_one x none a (subst (λ (q : CallWord). IsWithOne q x a) is h)

pub no_close : (w : CallWord) (x : List ℕ) → w ≡ word.Close → NamesNone x → (a : TranscriptCall)
    → IsWithOne w x a → ⊥
no_close w x is none a h = close_one x none a (subst (λ (q : CallWord). IsWithOne q x a) is h)

pub no_told_open : (w : CallWord) (x y : List ℕ) → w ≡ word.Open → NamesNone x → (a : TranscriptCall)
    → IsWithTwo w x y a → ⊥
no_told_open w x y is none a h = open_two x y none a (subst (λ (q : CallWord). IsWithTwo q x y a) is h)

pub no_recover : (w : CallWord) (x y z : List ℕ) → w ≡ word.Recover → NamesNone z → (a : TranscriptCall)
    → IsWithThree w x y z a → ⊥
no_recover w x y z is none a h = recover_three x y z none a
    (subst (λ (q : CallWord). IsWithThree q x y z a) is h)

pub no_branch : (v : BranchVerb) (x y z : List ℕ) → NamesNone z → (a : TranscriptCall)
    → IsWithThree (word.Branch v) x y z a → ⊥
no_branch v x y z none (asked.Branch f thread xid flags) h = none flags.0 h.3
no_branch v x y z none a h = absurd h

-- what is said of an option that is told
pub of_none : {A : Type 0} (o : Option A) (P : Type 0) → o ≡ None → IfNone o P → P
of_none o P is h = subst (λ (q : Option _). IfNone q P) is h

pub of_some : {A : Type 0} (o : Option A) (x : A) (P : A → Type 0) → o ≡ Some x → IfSome o P → P x
of_some o x P is h = subst (λ (q : Option _). IfSome q P) is h

pub not_false : (b : Bool) → false ≡ not b → true ≡ b
not_false true h = refl
not_false false h = absurd (false≢true h)

pub nothing_parted : (ws : List (Bor (List ℕ)))
    → ((i : ℕ) (a : TranscriptCall) (s : SaidAnswer) → i < length ws → AreParted (texts ws) i a s → ⊥)
    → (n : NameTable) (e : HistoryEvent) → IsLineEvent n (texts ws) e → ⊥
nothing_parted ws lacks = no_event (texts ws) (λ i a s lt h. lacks i a s (omega (arith, long ws, lt)) h)
