-- A step leaves the count that its reaction says.
use Rattle.std.proofs.Common.{◌≡◌, ◌∙◌, ◌+◌, ℕ, Bool, true, false, Option, Some, None, List, [], ◌∷◌, ◌++◌, length, map, refl, sym, ap, arith, if◌then◌else◌, append-nil, length-append, rules, ◌||◌}
use Rattle.std.proofs.lemmas.List.{append_cancel_left, length-map}
use Rattle.std.specs.List.{list_any}
use Rattle.protocol.specs.declared.events.Input.{Input}
use Rattle.protocol.specs.declared.events.Reaction.{Reaction}
use Rattle.protocol.specs.declared.records.LogRecord.{LogRecord}
use Rattle.protocol.specs.Nodes.{DataAnswer, Effect, Written, entries_written, is_any_forced, logged_of}
use Rattle.protocol.specs.Restarts.{forced_all}
use Rattle.log_records.specs.Sights.{LogSight, left_by, records_of, whole_within}
use Rattle.process_state.specs.States.{CoreState, log_behind, logged, wrote}
use Rattle.process_state.specs.Makes.{ProcessMakes, ProcessMoves}
use Rattle.process_state.specs.Restarting.{ProcessRestarts, ProcessTrims, reopened, restarted_log, trimmed_log}
use Rattle.process_state.specs.Turns.{Turn, Refuses, Begins, Issues, Takes, Handles, Says, reacted, turn_of}
use Rattle.protocol.specs.Views.{begin_effect}
use Rattle.protocol.specs.Reactions.{Does, leaf_effect, row_effect, sends_only}
use Rattle.tree_state.specs.Steps.{records_kept}
use Rattle.tree_state.specs.Worlds.{KeepsBytes}
use Rattle.tree_faults.specs.declared.count.Count.{Count}
use Rattle.tree_faults.specs.Counts.{after_written, all_forced, count_in}

-- the count of a log
abbrev pub count_of : LogSight → Count
count_of l = record { records = length (records_of l.kept); forced = length l.kept.forced }

forced_as : (ws : List Written) → list_any (λ w. w.forced) (map logged_of ws) ≡ is_any_forced ws
forced_as [] = refl
forced_as (w ∷ ws) = ap (λ b. w.is_forced || b) (forced_as ws)

-- records that are written are counted
pub wrote_count : (l : LogSight) (ws : List Written) (ls : List LogRecord) → length ls ≡ length ws
    → count_of (wrote l ws ls) ≡ after_written (count_of l) (map logged_of ws)
wrote_count l ws ls long = by_test (is_any_forced ws) refl
  where
    all : length (records_of l.kept) + length ls ≡ length (records_of l.kept) + length (map logged_of ws)
    all = ap (λ n. length (records_of l.kept) + n) (long ∙ sym (length-map ws logged_of))

    counted : ℕ → Bool → Count
    counted n b = record { records = n; forced = if b then n else length l.kept.forced }

    by_test : (b : Bool) → is_any_forced ws ≡ b
        → count_of (wrote l ws ls) ≡ after_written (count_of l) (map logged_of ws)
    by_test true any =
        ap (λ b. count_of (if b
        then record l { kept = record { forced = records_of l.kept ++ ls; unforced = [] }; behind = 0 }
        else record l { kept = record { forced = l.kept.forced; unforced = l.kept.unforced ++ ls } })) any
        ∙ (λ i. record { records = whole i; forced = front i })
        ∙ (λ i. counted (all i) (sym any i))
        ∙ ap (counted (length (records_of l.kept) + length (map logged_of ws))) (sym (forced_as ws))
      where
        front : length (records_of l.kept ++ ls) ≡ length (records_of l.kept) + length ls
        front = length-append (records_of l.kept) ls

        whole : length ((records_of l.kept ++ ls) ++ []) ≡ length (records_of l.kept) + length ls
        whole = omega (
          arith,
          length-append (records_of l.kept ++ ls) [],
          length-append (records_of l.kept) ls,
        )
    by_test false none =
        ap (λ b. count_of (if b
        then record l { kept = record { forced = records_of l.kept ++ ls; unforced = [] }; behind = 0 }
        else record l { kept = record { forced = l.kept.forced; unforced = l.kept.unforced ++ ls } })) none
        ∙ (λ i. record { records = whole i; forced = length l.kept.forced })
        ∙ (λ i. counted (all i) (sym none i))
        ∙ ap (counted (length (records_of l.kept) + length (map logged_of ws))) (sym (forced_as ws))
      where
        whole : length (l.kept.forced ++ (l.kept.unforced ++ ls)) ≡ length (records_of l.kept) + length ls
        whole = omega (
          arith,
          length-append l.kept.forced (l.kept.unforced ++ ls),
          length-append l.kept.unforced ls,
          length-append l.kept.forced l.kept.unforced,
        )

nothing_written : (c : Count) → c ≡ after_written c []
nothing_written c = λ i. record { records = same c.records i; forced = c.forced }
  where
    same : (n : ℕ) → n ≡ n + 0
    same n = omega arith

records_written : (s : CoreState) (ws : List Written) → length (logged s (entries_written ws)) ≡ length ws
records_written s ws = length-map (entries_written ws) _ ∙ length-map ws _

effect_of : {f e : Effect} → Does f ≡ Does e → f.written ≡ e.written
effect_of is = search rules

module _ (old new : CoreState) (i : Input) where
  -- a turn that writes nothing
  quiet : (f e : Effect) → f.written ≡ [] → new.log ≡ old.log → Does f ≡ Does e
      → count_in new ≡ after_written (count_in old) (map logged_of e.written)
  quiet f e none stays does =
      ap count_of stays ∙ nothing_written (count_in old)
      ∙ ap (λ ws. after_written (count_in old) (map logged_of ws)) (sym none ∙ effect_of does)

  -- one that writes these
  writes : (f e : Effect) → new.log ≡ log_behind old f.written → Does f ≡ Does e
      → count_in new ≡ after_written (count_in old) (map logged_of e.written)
  writes f e grows does =
      ap count_of grows
      ∙ wrote_count old.log f.written (logged old (entries_written f.written)) (records_written old f.written)
      ∙ ap (λ ws. after_written (count_in old) (map logged_of ws)) (effect_of does)

  by_turn : (turn : Turn) (e : Effect) → ProcessMoves old new i turn → reacted turn ≡ Does e
      → count_in new ≡ after_written (count_in old) (map logged_of e.written)
  by_turn (Refuses x) e moves does = absurd moves
  by_turn (Begins x) e moves does = quiet (begin_effect x) e refl moves.log does
  by_turn (Issues d t l) e moves does = quiet (sends_only (l ∷ [])) e refl moves.log does
  by_turn (Takes c row) e moves does = writes (row_effect c row) e moves.log does
  by_turn (Handles c row) e moves does = writes (leaf_effect row) e moves.log does
  by_turn (Says ls) e moves does = quiet (sends_only ls) e refl moves.log does

-- an input that was made
pub made_count : (old new : CoreState) (a : DataAnswer) (i : Input) (r : Reaction)
    → ProcessMakes old new a i r
    → count_in new ≡ after_written (count_in old) r.written
made_count old new a i r makes =
    by_turn old new i (turn_of old a makes.found i) makes.effect makes.moves makes.does
    ∙ ap (λ (x : Reaction). after_written (count_in old) x.written) (sym makes.shown)

-- a restart
pub restarted_count : (old new : CoreState) (keep : ℕ) (r : Reaction) → ProcessRestarts old keep new r
    → count_in new ≡ all_forced (((count_in old).forced + records_kept old keep) + length r.written)
restarted_count old new keep r restarts =
    ap count_of restarts.log
    ∙ (λ j. record { records = whole j; forced = front j })
    ∙ ap (λ (x : Reaction). all_forced (((count_in old).forced + records_kept old keep) + length x.written))
    (sym restarts.shown)
  where
    written : length (logged old (reopened old keep))
        ≡ length (map logged_of (forced_all (reopened old keep)))
    written = length-map (reopened old keep) _
        ∙ sym (length-map (forced_all (reopened old keep)) logged_of ∙ length-map (reopened old keep) _)

    front : length (restarted_log old keep)
        ≡ ((count_in old).forced + records_kept old keep)
        + length (map logged_of (forced_all (reopened old keep)))
    front = omega (
      arith,
      length-append (left_by old.log keep) (logged old (reopened old keep)),
      length-append old.log.kept.forced (whole_within (old.log.behind + keep) old.log.kept.unforced),
      written,
    )

    whole : length (restarted_log old keep ++ [])
        ≡ ((count_in old).forced + records_kept old keep)
        + length (map logged_of (forced_all (reopened old keep)))
    whole = ap (λ (xs : List LogRecord). length xs) (append-nil (restarted_log old keep)) ∙ front

-- a trim
pub trimmed_count : (old new : CoreState) (remain : ℕ) → ProcessTrims old new remain
    → count_in new ≡ all_forced remain
trimmed_count old new remain trims =
    ap count_of trims.log
    ∙ (λ j. record { records = whole j; forced = sym trims.counts j })
  where
    whole : length (trimmed_log old ++ []) ≡ remain
    whole = ap (λ (xs : List LogRecord). length xs) (append-nil (trimmed_log old)) ∙ sym trims.counts

-- How many unforced records a restart keeps that names N bytes.

all_within : (s : CoreState) (keep : ℕ) → left_by s.log keep ≡ records_of s.log.kept
    → records_kept s keep ≡ length s.log.kept.unforced
all_within s keep all = ap (λ (xs : List LogRecord). length xs) (append_cancel_left s.log.kept.forced _ _ all)

pub kept_alike : (s : CoreState) (bytes : Option ℕ) (one other : ℕ) → KeepsBytes s bytes one
    → KeepsBytes s bytes other
    → records_kept s one ≡ records_kept s other
kept_alike s (Some n) one other is so = ap (records_kept s) (is ∙ sym so)
kept_alike s None one other is so = all_within s one is ∙ sym (all_within s other so)

-- N records are left
pub left_count : (s : CoreState) (keep : ℕ) → length (left_by s.log keep)
    ≡ (count_in s).forced + records_kept s keep
left_count s keep = length-append s.log.kept.forced (whole_within (s.log.behind + keep) s.log.kept.unforced)
