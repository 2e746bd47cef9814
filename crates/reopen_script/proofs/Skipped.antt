-- Lines ahead of the events that are all skipped.
use Rattle.std.proofs.Common.{◌≡◌, ◌∙◌, ◌+◌, ◌≤◌, ◌||◌, ap, sym, subst, refl, ℕ, suc, Bool, true, false, cond, not, List, [], ◌∷◌, ◌++◌, take, length, length-append, Option, None, Some, Ok, arith}
use Rattle.std.specs.List.{list_all, list_any}
use Rattle.std.proofs.lemmas.List.{take-append-drop}
use Rattle.std.proofs.lemmas.List.Folds.{length-prefix_len}
use Rattle.std.proofs.lemmas.List.Sums.{sum_by-append}
use Rattle.protocol.specs.declared.names.ProcessId.{ProcessId}
use Rattle.protocol.specs.declared.events.Event.{Event}
use Rattle.script_words.specs.Lines.{asked_in, is_skipped}
use Rattle.tree_script.specs.Events.{event_at}
use Rattle.tree_script.specs.Script.{events_at, line_then as event_then}
use Rattle.tree_script.proofs.Asked.{at_line as asks_line, at_skipped as asks_none}
use Rattle.log_script.specs.declared.line.ProcessLog.{ProcessLog}
use Rattle.log_script.specs.Lines.{log_at}
use Rattle.reopen_script.specs.Ahead.{ahead_in, behind_in, is_ahead, is_log, leading, line_then, logs_in}
use Rattle.reopen_script.proofs.LogLines.{at_end, at_line, at_skipped}
use Rattle.reopen_script.proofs.Words.{no_event}

-- each of these lines is skipped
abbrev pub AllSkipped : List (List ℕ) → Type 0
AllSkipped ls = list_all is_skipped ls ≡ true

skipped_parts : (l : List ℕ) (ls : List (List ℕ)) → AllSkipped (l ∷ ls) → (is_skipped l ≡ true)
    × AllSkipped ls
skipped_parts l ls h = by (is_skipped l) refl h
  where
    by : (b : Bool) → is_skipped l ≡ b → AllSkipped (l ∷ ls) → (is_skipped l ≡ true) × AllSkipped ls
    by true is h = (is, rw is at h)
    by false is h = absurd (let no : false ≡ true = rw is at h in cc)

more_skipped : (l : List ℕ) (ls : List (List ℕ)) → is_skipped l ≡ true → AllSkipped ls → AllSkipped (l ∷ ls)
more_skipped l ls is h = rw is h

-- They ask for nothing, and say no logs.

asked_both : (a b : List (List ℕ)) → asked_in (a ++ b) ≡ asked_in a + asked_in b
unfolding asked_in
asked_both a b = sum_by-append (λ (l : List ℕ). cond (not (is_skipped l)) 1 0) a b

asked_one : (l : List ℕ) → is_skipped l ≡ true → asked_in (l ∷ []) ≡ 0
unfolding asked_in
asked_one l h = ap (λ (b : Bool). 0 + cond (not b) 1 0) h

asked_nowhere : asked_in [] ≡ 0
unfolding asked_in
asked_nowhere = refl

asked_none : (a : List (List ℕ)) → AllSkipped a → asked_in a ≡ 0
asked_none [] h = asked_nowhere
asked_none (l ∷ a) h =
    let parts = skipped_parts l a h in
    let one = asked_one l parts.0 in
    let rest = asked_none a parts.1 in
    let sum : asked_in (l ∷ []) + asked_in a ≡ 0 = omega (arith, one, rest) in
    asked_both (l ∷ []) a ∙ sum

pub asked_behind : (a b : List (List ℕ)) → AllSkipped a → asked_in (a ++ b) ≡ asked_in b
asked_behind a b h =
    let none = asked_none a h in
    let sum : asked_in a + asked_in b ≡ asked_in b = omega (arith, none) in
    asked_both a b ∙ sum

pub events_behind : (read : List ℕ → Option Event) (n : ℕ) (a b : List (List ℕ)) → AllSkipped a
    → events_at read n (a ++ b) ≡ events_at read (n + length a) b
events_behind read n [] b h = let same : n + 0 ≡ n = omega arith in rw same refl
events_behind read n (l ∷ a) b h =
    let parts = skipped_parts l a h in
    let next : (n + 1) + length a ≡ n + length (l ∷ a) = omega arith in
    asks_none read n l (a ++ b) parts.0 ∙ events_behind read (n + 1) a b parts.1
    ∙ ap (λ (k : ℕ). events_at read k b) next

pub none_read : (n : ℕ) (ls : List ProcessLog) (a : List (List ℕ)) → AllSkipped a → logs_in ls n a ≡ Ok ls
none_read n ls [] h = at_end ls n
none_read n ls (l ∷ a) h =
    let parts = skipped_parts l a h in
    at_skipped ls n l a parts.0 ∙ none_read (n + 1) ls a parts.1

-- Where no log is said, each is skipped.

grows : (ms ls : List ProcessLog) (n : ℕ) (a : List (List ℕ)) → logs_in ls n a ≡ Ok ms → length ls ≤ length ms
grows ms ls n [] h =
    let both = sym (at_end ls n) ∙ h in
    let same : ls ≡ ms = cc in
    let size = ap length same in omega (arith, size)
grows ms ls n (l ∷ a) h =
    by (is_skipped l) refl (λ is. grows ms ls (n + 1) a (sym (at_skipped ls n l a is) ∙ h))
    (λ x e. grows ms (ls ++ x ∷ []) (n + 1) a e)
  where
    then_grows : (o : Option ProcessLog) → line_then ls n o (λ more. logs_in more (n + 1) a) ≡ Ok ms
        → ((x : ProcessLog) → logs_in (ls ++ x ∷ []) (n + 1) a ≡ Ok ms → length (ls ++ x ∷ []) ≤ length ms)
        → length ls ≤ length ms
    then_grows None e on = absurd cc
    then_grows (Some x) e on =
        let more = on x e in
        let size = length-append ls (x ∷ []) in omega (arith, more, size)

    by : (b : Bool) → is_skipped l ≡ b → (is_skipped l ≡ true → length ls ≤ length ms)
        → ((x : ProcessLog) → logs_in (ls ++ x ∷ []) (n + 1) a ≡ Ok ms → length (ls ++ x ∷ []) ≤ length ms)
        → length ls ≤ length ms
    by true is skips on = skips is
    by false is skips on = then_grows (log_at l) (sym (at_line ls n l a is) ∙ h) on

pub all_skipped : (ls : List ProcessLog) (n : ℕ) (a : List (List ℕ)) → logs_in ls n a ≡ Ok ls → AllSkipped a
all_skipped ls n [] h = refl
all_skipped ls n (l ∷ a) h =
    by (is_skipped l) refl (λ is. all_skipped ls (n + 1) a (sym (at_skipped ls n l a is) ∙ h))
  where
    never : (o : Option ProcessLog) → line_then ls n o (λ more. logs_in more (n + 1) a) ≡ Ok ls → ⊥
    never None e = absurd cc
    never (Some x) e =
        let more = grows ls (ls ++ x ∷ []) (n + 1) a e in
        let size = length-append ls (x ∷ []) in omega (arith, more, size)

    by : (b : Bool) → is_skipped l ≡ b → (is_skipped l ≡ true → AllSkipped a) → AllSkipped (l ∷ a)
    by true is rest = more_skipped l a is (rest is)
    by false is rest = absurd (never (log_at l) (sym (at_line ls n l a is) ∙ h))

-- The lines ahead of the events.

leads_more : (l : List ℕ) (ls : List (List ℕ)) → is_ahead l ≡ true → leading (l ∷ ls) ≡ suc (leading ls)
leads_more l ls h =
    let next : 1 + leading ls ≡ suc (leading ls) = omega arith in
    ap (λ (b : Bool). cond b (1 + leading ls) 0) h ∙ next

leads_none : (l : List ℕ) (ls : List (List ℕ)) → is_ahead l ≡ false → leading (l ∷ ls) ≡ 0
leads_none l ls h = ap (λ (b : Bool). cond b (1 + leading ls) 0) h

is_ahead_skipped : (l : List ℕ) → is_skipped l ≡ true → is_ahead l ≡ true
unfolding is_ahead
is_ahead_skipped l is = rw is refl

is_ahead_said : (l : List ℕ) → is_skipped l ≡ false → is_ahead l ≡ is_log l
unfolding is_ahead
is_ahead_said l is = rw is refl

ahead_more : (l : List ℕ) (ls : List (List ℕ)) → is_ahead l ≡ true → ahead_in (l ∷ ls) ≡ l ∷ ahead_in ls
ahead_more l ls h = ap (λ (k : ℕ). take k (l ∷ ls)) (leads_more l ls h)

ahead_none : (l : List ℕ) (ls : List (List ℕ)) → is_ahead l ≡ false → ahead_in (l ∷ ls) ≡ []
ahead_none l ls h = ap (λ (k : ℕ). take k (l ∷ ls)) (leads_none l ls h)

pub ahead_size : (ls : List (List ℕ)) → length (ahead_in ls) ≡ leading ls
ahead_size ls = length-prefix_len is_ahead ls

pub both_parts : (ls : List (List ℕ)) → ahead_in ls ++ behind_in ls ≡ ls
both_parts ls = take-append-drop (leading ls) ls

-- where each line is skipped or asks for an event, each that stands ahead of the events is skipped
pub skipped_in_events : (root : ProcessId) (n : ℕ) (es : List Event) (ls : List (List ℕ))
    → events_at (event_at root) n ls ≡ Ok es → AllSkipped (ahead_in ls)
skipped_in_events root n es [] h = refl
skipped_in_events root n es (l ∷ ls) h =
    by (is_skipped l) refl
    (λ is. skipped_in_events root (n + 1) es ls (sym (asks_none (event_at root) n l ls is) ∙ h))
  where
    then_ends : (o : Option Event) → o ≡ None → event_then n o (events_at (event_at root) (n + 1) ls) ≡ Ok es
        → ⊥
    then_ends None none e = absurd cc
    then_ends (Some x) none e = absurd cc

    said : (b : Bool) → is_skipped l ≡ false → is_log l ≡ b → AllSkipped (ahead_in (l ∷ ls))
    said true is log =
        absurd (then_ends (event_at root l) (no_event root l log)
        (sym (asks_line (event_at root) n l ls is) ∙ h))
    said false is log = subst AllSkipped (sym (ahead_none l ls (is_ahead_said l is ∙ log))) refl

    by : (b : Bool) → is_skipped l ≡ b → (is_skipped l ≡ true → AllSkipped (ahead_in ls))
        → AllSkipped (ahead_in (l ∷ ls))
    by false is rest = said (is_log l) is refl
    by true is rest =
        subst AllSkipped (sym (ahead_more l ls (is_ahead_skipped l is)))
        (more_skipped l (ahead_in ls) is (rest is))

-- where none of those that stand ahead of the events begins with the word `log`, each of them is skipped
pub skipped_without_logs : (ls : List (List ℕ)) → list_any is_log (ahead_in ls) ≡ false
    → AllSkipped (ahead_in ls)
skipped_without_logs [] h = refl
skipped_without_logs (l ∷ ls) h = by (is_skipped l) refl (λ none. skipped_without_logs ls none)
  where
    begins : is_ahead l ≡ true → (is_log l || list_any is_log (ahead_in ls)) ≡ false
    begins ahead = subst (λ (xs : List (List ℕ)). list_any is_log xs ≡ false) (ahead_more l ls ahead) h

    behind : (b : Bool) → (b || list_any is_log (ahead_in ls)) ≡ false → list_any is_log (ahead_in ls) ≡ false
    behind true e = absurd cc
    behind false e = e

    not_log : (b : Bool) → (b || list_any is_log (ahead_in ls)) ≡ false → b ≡ true → ⊥
    not_log true e log = absurd cc
    not_log false e log = absurd cc

    said : (b : Bool) → is_skipped l ≡ false → is_log l ≡ b → AllSkipped (ahead_in (l ∷ ls))
    said true is log = absurd (not_log (is_log l) (begins (is_ahead_said l is ∙ log)) log)
    said false is log = subst AllSkipped (sym (ahead_none l ls (is_ahead_said l is ∙ log))) refl

    by : (b : Bool) → is_skipped l ≡ b → (list_any is_log (ahead_in ls) ≡ false → AllSkipped (ahead_in ls))
        → AllSkipped (ahead_in (l ∷ ls))
    by false is rest = said (is_log l) is refl
    by true is rest =
        let ahead = is_ahead_skipped l is in
        subst AllSkipped (sym (ahead_more l ls ahead))
        (more_skipped l (ahead_in ls) is (rest (behind (is_log l) (begins ahead))))
