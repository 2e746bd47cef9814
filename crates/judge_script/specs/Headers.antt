-- What the first lines of a transcript say of a manager.
use Rattle.std.specs.Prelude.{ℕ, List, [], ◌∷◌, true, false, codes, Option, Some, None, if◌then◌else◌}
use Rattle.script_words.specs.Steps.{same, ◌>>=◌}
use Rattle.judge_rules.specs.declared.words.Lacks.{Lacks}
use Rattle.judge_rules.specs.declared.words.Never.{Never}
use Rattle.judge_rules.specs.declared.words.Rules.{Rules}

-- a manager of which nothing is said
abbrev pub no_rules : Rules
no_rules = record {
  never = record { heuristics = false; failures = false; rollback = false };
  lacks = record {
    join = false;
    suspend = false;
    migrate = false;
    threads = false;
    scan = false;
    count = false;
    opening = false;
    forced = false;
    isolation = false;
    empty_bqual = false;
  };
}

-- one more promise
abbrev pub promised : Never → List ℕ → Option Never
promised n w =
    if same w (codes "heuristics") then Some (record n { heuristics = true })
    else if same w (codes "failures") then Some (record n { failures = true })
    else if same w (codes "rollback") then Some (record n { rollback = true })
    else None

-- one more excuse
abbrev pub excused : Lacks → List ℕ → Option Lacks
excused l w =
    if same w (codes "join") then Some (record l { join = true })
    else if same w (codes "suspend") then Some (record l { suspend = true })
    else if same w (codes "migrate") then Some (record l { migrate = true })
    else if same w (codes "threads") then Some (record l { threads = true })
    else if same w (codes "scan") then Some (record l { scan = true })
    else if same w (codes "count") then Some (record l { count = true })
    else if same w (codes "open") then Some (record l { opening = true })
    else if same w (codes "forced") then Some (record l { forced = true })
    else if same w (codes "isolation") then Some (record l { isolation = true })
    else if same w (codes "emptybqual") then Some (record l { empty_bqual = true })
    else None

-- what is promised after these words
abbrev pub promises : Never → List (List ℕ) → Option Never
promises n [] = Some n
promises n (w ∷ ws) = promised n w >>= λ m. promises m ws

-- what is lacking after these words
abbrev pub excuses : Lacks → List (List ℕ) → Option Lacks
excuses l [] = Some l
excuses l (w ∷ ws) = excused l w >>= λ m. excuses m ws

-- by what a manager is judged after one more of the first lines
abbrev pub ruled : Rules → List (List ℕ) → Option Rules
ruled r [] = None
ruled r (w ∷ ws) =
    if same w (codes "never") then promises r.never ws >>= (λ n. Some (record r { never = n }))
    else if same w (codes "lacks") then excuses r.lacks ws >>= (λ l. Some (record r { lacks = l }))
    else None
