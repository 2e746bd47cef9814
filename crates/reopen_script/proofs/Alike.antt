-- Without logs ahead of its events a script is the same script.
use Rattle.std.proofs.Common.{◌≡◌, ◌∙◌, ◌+◌, ◌<◌, ◌≤◌, ◌⊎◌, inl, inr, ap, sym, subst, refl, ℕ, Bool, true, false, if◌then◌else◌, List, [], ◌∷◌, length, Option, None, Some, Result, Ok, Err, arith}
use Rattle.std.specs.Str.Lines.{lines_of_parts}
use Rattle.protocol.specs.declared.events.Event.{Event}
use Rattle.protocol.specs.declared.trees.TreeProcess.{TreeProcess}
use Rattle.protocol.specs.Trees.{root_of}
use Rattle.script_words.specs.Lines.{asked_in}
use Rattle.tree_script.specs.declared.script.ScriptFault.{ScriptFault}
use Rattle.tree_script.specs.declared.script.ScriptFault.TheVariants.{Utf8, TreeText, Tree, TooLong, Line}
use Rattle.tree_script.specs.Events.{event_at}
use Rattle.tree_script.specs.Inputs.{IsTreeFront, IsScript, IsScriptFault, asked_by, script_events}
use Rattle.tree_script.specs.Script.{events_at}
use Rattle.log_script.specs.declared.line.ProcessLog.{ProcessLog}
use Rattle.reopen_script.specs.Ahead.{ahead_in, are_of_all, behind_in, leading, logs_ahead, logs_in, logs_said, set_line, taken}
use Rattle.reopen_script.specs.Inputs.{IsReopenFault, IsReopenScript, lines_behind}
use Rattle.reopen_script.specs.Laws.{BeginsWithNone, FaultsAreThese, ScriptsAreThese}
use Rattle.reopen_script.proofs.LogLines.{none_said}
use Rattle.reopen_script.proofs.Skipped.{AllSkipped, ahead_size, all_skipped, asked_behind, both_parts, events_behind, none_read, skipped_in_events, skipped_without_logs}

-- Lines, of which those ahead of the events are skipped.

module _ (tree : List TreeProcess) (rule : ℕ) (lines : List (List ℕ)) (h : AllSkipped (ahead_in lines)) where
  asked_alike : asked_in lines ≡ asked_in (behind_in lines)
  asked_alike =
      ap asked_in (sym (both_parts lines)) ∙ asked_behind (ahead_in lines) (behind_in lines) h

  events_alike : events_at (event_at (root_of tree)) (rule + 1) lines
      ≡ asked_by (lines_behind tree rule lines)
  events_alike =
      let size = ahead_size lines in
      let next : (rule + 1) + length (ahead_in lines) ≡ (rule + leading lines) + 1 = omega (arith, size) in
      ap (events_at (event_at (root_of tree)) (rule + 1)) (sym (both_parts lines))
      ∙ events_behind (event_at (root_of tree)) (rule + 1) (ahead_in lines) (behind_in lines) h
      ∙ ap (λ (k : ℕ). events_at (event_at (root_of tree)) k (behind_in lines)) next

  no_logs : logs_ahead tree rule lines ≡ Ok None
  no_logs =
      none_said tree rule [] (ahead_in lines) (behind_in lines)
      (none_read (rule + 1) [] (ahead_in lines) h) refl

abbrev taken_by : List ProcessLog → ℕ → Bool → Result (Option (List ProcessLog)) ℕ
taken_by ls n b = if b then Ok (Some ls) else Err n

some_taken : (ls : List ProcessLog) (n : ℕ) (b : Bool) → taken_by ls n b ≡ Ok None → ⊥
some_taken ls n true h = absurd cc
some_taken ls n false h = absurd cc

-- no logs were said
none_taken : (es : List TreeProcess) (n : ℕ) (r : Result (List ProcessLog) ℕ) → taken es n r ≡ Ok None
    → r ≡ Ok []
none_taken es n (Err k) h = absurd cc
none_taken es n (Ok []) h = refl
none_taken es n (Ok (l ∷ ls)) h = absurd (some_taken (l ∷ ls) n (are_of_all es (l ∷ ls)) h)

skipped_by_none : (tree : List TreeProcess) (rule : ℕ) (lines : List (List ℕ))
    → logs_ahead tree rule lines ≡ Ok None
    → AllSkipped (ahead_in lines)
unfolding logs_said
skipped_by_none tree rule lines h =
    all_skipped [] (rule + 1) (ahead_in lines)
    (none_taken tree (set_line rule (ahead_in lines) (behind_in lines))
    (logs_in [] (rule + 1) (ahead_in lines)) h)

-- Scripts.

front_of : (bytes : List ℕ) (tree : List TreeProcess) (events : List Event) → IsScript bytes tree events
    → (rule : ℕ) × (lines : List (List ℕ)) × IsTreeFront bytes tree rule lines × (asked_in lines ≤ 100000)
    × (events_at (event_at (root_of tree)) (rule + 1) lines ≡ Ok events)
front_of bytes tree events (fronts, behind, text, is, few, asks) = (
  length fronts + 1,
  lines_of_parts behind,
  record {
    fronts = fronts;
    behind = behind;
    has_text = text;
    is_tree = is;
    rule_is = refl;
    lines_are = refl;
  },
  few,
  asks,
)

script_here : (bytes : List ℕ) (tree : List TreeProcess) (events : List Event) → IsScript bytes tree events
    → IsReopenScript bytes tree None events
script_here bytes tree events script =
    let (rule, lines, front, few, asks) = front_of bytes tree events script in
    let h = skipped_in_events (root_of tree) (rule + 1) events lines asks in
    record {
      rule = rule;
      lines = lines;
      has = record { front = front; few = subst (λ k. k ≤ 100000) (asked_alike tree rule lines h) few };
      logs_are = no_logs tree rule lines h;
      asks = sym (events_alike tree rule lines h) ∙ asks;
    }

-- what the lines of an input ask for, in the words of its text
events_of : (bytes : List ℕ) (tree : List TreeProcess) (rule : ℕ) (lines : List (List ℕ))
    (front : IsTreeFront bytes tree rule lines)
    → script_events front.fronts front.behind tree ≡ events_at (event_at (root_of tree)) (rule + 1) lines
events_of bytes tree rule lines front =
    ap (λ (k : ℕ). events_at (event_at (root_of tree)) (k + 1) (lines_of_parts front.behind))
    (sym front.rule_is)
    ∙ ap (events_at (event_at (root_of tree)) (rule + 1)) (sym front.lines_are)

pub script_there : (bytes : List ℕ) (tree : List TreeProcess) (events : List Event)
    → IsReopenScript bytes tree None events → IsScript bytes tree events
script_there bytes tree events s =
    let front = s.has.front in
    let h = skipped_by_none tree s.rule s.lines s.logs_are in (
      front.fronts,
      front.behind,
      front.has_text,
      front.is_tree,
      subst (λ (ls : List (List ℕ)). asked_in ls ≤ 100000) front.lines_are
          (subst (λ k. k ≤ 100000) (sym (asked_alike tree s.rule s.lines h)) s.has.few),
      events_of bytes tree s.rule s.lines front ∙ events_alike tree s.rule s.lines h ∙ s.asks,
    )

pub scripts_alike : ScriptsAreThese
scripts_alike = record { here = script_here; there = script_there }

-- Faults.

module _ (bytes : List ℕ) (none : BeginsWithNone bytes) where
  module _ (tree : List TreeProcess) (rule : ℕ) (lines : List (List ℕ))
      (front : IsTreeFront bytes tree rule lines) where
    skipped : AllSkipped (ahead_in lines)
    skipped = skipped_without_logs lines (none tree rule lines front)

  fault_here : (fault : ScriptFault) → IsScriptFault bytes fault → IsReopenFault bytes fault
  fault_here Utf8 there = there
  fault_here TreeText there = there
  fault_here (Tree cause) there = there
  fault_here TooLong (fronts, behind, tree, text, is, many) =
      let rule = length fronts + 1 in
      let lines = lines_of_parts behind in
      let front : IsTreeFront bytes tree rule lines = record {
        fronts = fronts;
        behind = behind;
        has_text = text;
        is_tree = is;
        rule_is = refl;
        lines_are = refl;
      } in (
        tree,
        rule,
        lines,
        front,
        subst (λ k. 100000 < k) (asked_alike tree rule lines (skipped tree rule lines front)) many,
      )
  fault_here (Line n) (fronts, behind, tree, text, is, few, wrong) =
      let rule = length fronts + 1 in
      let lines = lines_of_parts behind in
      let front : IsTreeFront bytes tree rule lines = record {
        fronts = fronts;
        behind = behind;
        has_text = text;
        is_tree = is;
        rule_is = refl;
        lines_are = refl;
      } in
      let h = skipped tree rule lines front in
      record {
        tree = tree;
        rule = rule;
        lines = lines;
        has = record { front = front; few = subst (λ k. k ≤ 100000) (asked_alike tree rule lines h) few };
        wrong = inr (None, no_logs tree rule lines h, sym (events_alike tree rule lines h) ∙ wrong);
      }

  fault_there : (fault : ScriptFault) → IsReopenFault bytes fault → IsScriptFault bytes fault
  fault_there Utf8 there = there
  fault_there TreeText there = there
  fault_there (Tree cause) there = there
  fault_there TooLong (tree, rule, lines, front, many) = (
    front.fronts,
    front.behind,
    tree,
    front.has_text,
    front.is_tree,
    subst (λ (ls : List (List ℕ)). 100000 < asked_in ls) front.lines_are
        (subst (λ k. 100000 < k) (sym (asked_alike tree rule lines (skipped tree rule lines front))) many),
  )
  fault_there (Line n) w =
      let front = w.has.front in
      let h = skipped w.tree w.rule w.lines front in (
        front.fronts,
        front.behind,
        w.tree,
        front.has_text,
        front.is_tree,
        subst (λ (ls : List (List ℕ)). asked_in ls ≤ 100000) front.lines_are
            (subst (λ k. k ≤ 100000) (sym (asked_alike w.tree w.rule w.lines h)) w.has.few),
        events_of bytes w.tree w.rule w.lines front ∙ events_alike w.tree w.rule w.lines h
            ∙ asks (no_logs w.tree w.rule w.lines h) w.wrong,
      )
    where
      asks : logs_ahead w.tree w.rule w.lines ≡ Ok None
          → (logs_ahead w.tree w.rule w.lines ≡ Err n)
          ⊎ ((logs : Option (List ProcessLog)) × (logs_ahead w.tree w.rule w.lines ≡ Ok logs)
          × (asked_by (lines_behind w.tree w.rule w.lines) ≡ Err n))
          → asked_by (lines_behind w.tree w.rule w.lines) ≡ Err n
      asks none (inl wrong) = absurd (let both = sym none ∙ wrong in cc)
      asks none (inr (logs, is, wrong)) = wrong

-- there are no logs where no line ahead of the events begins with the word `log`
pub none_begin : (bytes : List ℕ) (tree : List TreeProcess) (logs : List ProcessLog) (events : List Event)
    → BeginsWithNone bytes → IsReopenScript bytes tree (Some logs) events → ⊥
none_begin bytes tree logs events none s =
    let skip = skipped_without_logs s.lines (none tree s.rule s.lines s.has.front) in
    let both = sym (no_logs tree s.rule s.lines skip) ∙ s.logs_are in cc

pub faults_alike : FaultsAreThese
faults_alike = record {
  here = λ bytes fault none there. fault_here bytes none fault there;
  there = λ bytes fault none there. fault_there bytes none fault there;
}
