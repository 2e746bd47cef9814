-- Which requests the lines of an XA script spell.
use Rattle.std.specs.Prelude.{◌≡◌, ℕ, ◌<◌, ◌≤◌, ◌^◌, Bool, true, not, ◌||◌, List, length, codes, Option, Some, None, IsSomeAnd, if◌then◌else◌}
use Rattle.std.specs.Char.{IsAsciiAlphabetic}
use Rattle.std.specs.List.{All}
use Rattle.xa_codes.specs.FlagNames.{IsFlagText}
use Rattle.spellings.specs.Numerals.{number_at}
use Rattle.xa_xid.specs.Text.{xid_text}
use Rattle.spellings.specs.Words.{cut_at}
use Rattle.xa_xid.specs.Xids.{IsXid}
use Rattle.xa_xid.specs.declared.xid.Xid.{Xid}
use Rattle.protocol.specs.declared.messages.Op.{Op}
use Rattle.protocol.specs.declared.names.Outcome.{Outcome}
use Rattle.script_words.specs.Steps.{same}
use Rattle.script_words.specs.Operations.{op_by}
use Rattle.script_words.specs.Outcomes.{outcome_at}
use Rattle.xa_engine.specs.declared.script.request.BranchCall.TheVariants.{Start, End, Prepare, Commit, Rollback, Forget}
use Rattle.xa_engine.specs.declared.script.request.RequestCall.{RequestCall}
use Rattle.xa_engine.specs.declared.script.request.RequestCall.TheVariants as call
use Rattle.xa_engine.specs.declared.script.request.RequestWord.{RequestWord}
use Rattle.xa_engine.specs.declared.script.request.RequestWord.TheVariants as word
use Rattle.xa_engine.specs.declared.script.request.Request.{Request}
use Rattle.xa_engine.specs.declared.script.request.Request.TheVariants.{Open, Close, Branch, Recover, Work, Restart, Trim, Decide}

-- what the first word of a line asks for
abbrev pub word_at : List ℕ → Option RequestWord
word_at w =
    if same w (codes "open") then Some (word.Call call.Open)
    else if same w (codes "close") then Some (word.Call call.Close)
    else if same w (codes "recover") then Some (word.Call call.Recover)
    else if same w (codes "restart") then Some (word.Call call.Restart)
    else if same w (codes "trim") then Some (word.Call call.Trim)
    else if same w (codes "heur") then Some (word.Call call.Decide)
    else if same w (codes "start") then Some (word.Call (call.Branch Start))
    else if same w (codes "end") then Some (word.Call (call.Branch End))
    else if same w (codes "prepare") then Some (word.Call (call.Branch Prepare))
    else if same w (codes "commit") then Some (word.Call (call.Branch Commit))
    else if same w (codes "rollback") then Some (word.Call (call.Branch Rollback))
    else if same w (codes "forget") then Some (word.Call (call.Branch Forget))
    else if same w (codes "get") || same w (codes "put") || same w (codes "del") then Some word.Work
    else None

-- a thread or a count: a number below 2^32 in decimal, without leading zeros
abbrev pub IsNumber : List ℕ → ℕ → Type 0
IsNumber w n = (number_at w ≡ Some n) × (n < 2 ^ 32)

-- the name of a branch, or the null XID
abbrev pub IsName : List ℕ → Xid → Type 0
IsName w x = IsXid x × (w ≡ xid_text x)

-- an information text: 1 to 32 ASCII letters
pub record IsInfoText (w : List ℕ) : Type 0 where
  pub some : 0 < length w
  pub short : length w ≤ 32
  pub letters : All IsAsciiAlphabetic w

-- what is after `open`: flags, and then the manager migrates; or flags and an information text, and then
-- it migrates unless the text is `nomigrate`
abbrev pub IsOpenOf : List ℕ → Option (List ℕ × List ℕ) → ℕ → Bool → Type 0
IsOpenOf rest None flags migrates = IsFlagText rest flags × (migrates ≡ true)
IsOpenOf rest (Some p) flags migrates =
    IsFlagText p.0 flags × IsInfoText p.1 × (migrates ≡ not (same p.1 (codes "nomigrate")))

-- what is after `open` spells these flags, and whether the manager migrates associations
abbrev pub SpellsOpen : List ℕ → ℕ → Bool → Type 0
SpellsOpen rest flags migrates = IsOpenOf rest (cut_at 32 rest) flags migrates

-- three words, of the first and the cut of what is after it
abbrev pub last_two : List ℕ → Option (List ℕ × List ℕ) → Option (List ℕ × List ℕ × List ℕ)
last_two first None = None
last_two first (Some q) = Some (first, q.0, q.1)

-- three words, of a first cut
abbrev pub first_of_three : Option (List ℕ × List ℕ) → Option (List ℕ × List ℕ × List ℕ)
first_of_three None = None
first_of_three (Some p) = last_two p.0 (cut_at 32 p.1)

-- two words, and what is after them, with one space between
unfoldable pub three_at : List ℕ → Option (List ℕ × List ℕ × List ℕ)
three_at rest = first_of_three (cut_at 32 rest)

-- what is after a function that is called on a branch: a thread, the name of a branch and flags
abbrev pub SpellsBranch : List ℕ → ℕ → Xid → ℕ → Type 0
SpellsBranch rest thread xid flags =
    IsSomeAnd (three_at rest) (λ p. IsNumber p.0 thread × IsName p.1 xid × IsFlagText p.2 flags)

-- what is after `recover`: a thread, a count and flags
abbrev pub SpellsRecover : List ℕ → ℕ → ℕ → ℕ → Type 0
SpellsRecover rest thread count flags =
    IsSomeAnd (three_at rest) (λ p. IsNumber p.0 thread × IsNumber p.1 count × IsFlagText p.2 flags)

-- what is after `restart`: how many bytes are kept
abbrev pub SpellsKeep : List ℕ → Option ℕ → Type 0
SpellsKeep rest keep = IsSomeAnd keep (λ n. number_at rest ≡ Some n)

-- what is after `heur`: the name of a branch, and what an operator decides
abbrev pub SpellsDecision : List ℕ → Xid → Outcome → Type 0
SpellsDecision rest xid o = IsSomeAnd (cut_at 32 rest) (λ p. IsName p.0 xid × (outcome_at p.1 ≡ Some o))

-- what is after the name of a call spells it
abbrev pub SpellsCall : RequestCall → List ℕ → Request → Type 0
SpellsCall c rest (Open flags migrates) = (c ≡ call.Open) × SpellsOpen rest flags.0 migrates
SpellsCall c rest (Close flags) = (c ≡ call.Close) × IsFlagText rest flags.0
SpellsCall c rest (Branch f thread xid flags) = (c ≡ call.Branch f) × SpellsBranch rest thread xid flags.0
SpellsCall c rest (Recover thread count flags) = (c ≡ call.Recover) × SpellsRecover rest thread count flags.0
SpellsCall c rest (Work thread op) = ⊥
SpellsCall c rest (Restart keep) = (c ≡ call.Restart) × SpellsKeep rest keep
SpellsCall c rest Trim = ⊥
SpellsCall c rest (Decide xid o) = (c ≡ call.Decide) × SpellsDecision rest xid o

-- what is after `put`, `get` and `del`: a thread, and the key with its value
abbrev pub SpellsTask : List ℕ → List ℕ → ℕ → Op → Type 0
SpellsTask verb rest thread op =
    IsSomeAnd (cut_at 32 rest) (λ p. IsNumber p.0 thread × (op_by verb p.1 ≡ Some op))

-- these words spell an operation on data
abbrev pub SpellsWork : List ℕ → List ℕ → Request → Type 0
SpellsWork verb rest (Work thread op) = SpellsTask verb rest thread op
SpellsWork verb rest _ = ⊥

-- the first word of a line and what is after it spell a request
abbrev pub SpellsBy : Option RequestWord → List ℕ → List ℕ → Request → Type 0
SpellsBy None first rest request = ⊥
SpellsBy (Some (word.Call c)) first rest request = SpellsCall c rest request
SpellsBy (Some word.Work) first rest request = SpellsWork first rest request

-- the request of a word that stands alone: `restart`, and all bytes are kept; or `trim`
abbrev pub alone_by : Option RequestWord → Option Request
alone_by (Some (word.Call call.Restart)) = Some (Restart None)
alone_by (Some (word.Call call.Trim)) = Some Trim
alone_by _ = None

-- a line of one word spells a request
abbrev pub IsAlone : List ℕ → Request → Type 0
IsAlone line request = alone_by (word_at line) ≡ Some request

-- a line spells a request, by where it is cut
abbrev pub SpellsCut : List ℕ → Option (List ℕ × List ℕ) → Request → Type 0
SpellsCut line None request = IsAlone line request
SpellsCut line (Some p) request = SpellsBy (word_at p.0) p.0 p.1 request

-- a line spells a request: its words, with one space between
abbrev pub SpellsRequest : List ℕ → Request → Type 0
SpellsRequest line request = SpellsCut line (cut_at 32 line) request
