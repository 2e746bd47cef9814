-- The flags of a call: which are wrong.
use Rattle.std.specs.Prelude.{ℕ, ◌+◌, Bool, ◌&&◌, ◌||◌, not, ◌==◌, bit_and, if◌then◌else◌}
use Rattle.xa_tables.specs.Calls.{async, one_phase, fail, no_wait, resume, success, suspend, start_scan, end_scan, join, migrate}
use Rattle.judge_rules.specs.declared.calls.BranchVerb.{BranchVerb}
use Rattle.judge_rules.specs.declared.calls.BranchVerb.TheVariants as verb

-- a flag is among these
abbrev pub has : ℕ → ℕ → Bool
has flags flag = bit_and flags flag == flag

-- none but these flags are among them
abbrev pub only : ℕ → ℕ → Bool
only flags allowed = bit_and flags allowed == flags

-- a start may join or resume, not both, and may say that it does not wait
abbrev pub wrong_at_start : ℕ → Bool
wrong_at_start f = not (only f (join + resume + no_wait + async)) || (has f join && has f resume)

-- just one of three
abbrev pub is_one_of : Bool → Bool → Bool → Bool
is_one_of a b c = if a then not (b || c) else if b then not c else c

-- an end suspends, succeeds or fails, just one of these, and migrates only where it suspends
abbrev pub wrong_at_end : ℕ → Bool
wrong_at_end f =
    not (only f (suspend + success + fail + migrate + async))
    || not (is_one_of (has f suspend) (has f success) (has f fail)) || (has f migrate && not (has f suspend))

-- a commit may have one phase, and may say that it does not wait
abbrev pub wrong_at_commit : ℕ → Bool
wrong_at_commit f = not (only f (one_phase + no_wait + async))

-- other calls take no flag
abbrev pub wrong_elsewhere : ℕ → Bool
wrong_elsewhere f = not (only f async)

-- a recover may start a scan and may end it; TMASYNC is not its flag
abbrev pub wrong_at_recover : ℕ → Bool
wrong_at_recover f = not (only f (start_scan + end_scan))

-- flags that are not a function's, TMASYNC aside
abbrev pub are_wrong : BranchVerb → ℕ → Bool
are_wrong verb.Start f = wrong_at_start f
are_wrong verb.End f = wrong_at_end f
are_wrong verb.Prepare f = wrong_elsewhere f
are_wrong verb.Commit f = wrong_at_commit f
are_wrong verb.Rollback f = wrong_elsewhere f
are_wrong verb.Forget f = wrong_elsewhere f
