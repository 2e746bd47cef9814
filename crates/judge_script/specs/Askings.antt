-- Which calls the words of a line spell.
use Rattle.std.specs.Prelude.{◌≡◌, ℕ, Bool, true, false, List, [], ◌∷◌, codes, Option, Some, None, IsSome, IsSomeAnd, if◌then◌else◌}
use Rattle.script_words.specs.Steps.{same}
use Rattle.spellings.specs.Numerals.{number_at}
use Rattle.xa_codes.specs.FlagNames.{IsFlagText}
use Rattle.judge_words.specs.verb
use Rattle.judge_script.specs.declared.asking.TranscriptCall.{TranscriptCall}
use Rattle.judge_script.specs.declared.asking.TranscriptCall.TheVariants.{Open, Close, Branch, Recover, Get, Put, Decide, Restart, Disconnect, Trim}
use Rattle.judge_script.specs.declared.asking.CallWord.{CallWord}
use Rattle.judge_script.specs.declared.asking.CallWord.TheVariants as word
use Rattle.judge_script.specs.Words.{IsName, IsNumber}

-- what the first word of a line asks for
abbrev pub word_at : List ℕ → Option CallWord
word_at w =
    if same w (codes "open") then Some word.Open
    else if same w (codes "close") then Some word.Close
    else if same w (codes "start") then Some (word.Branch verb.Start)
    else if same w (codes "end") then Some (word.Branch verb.End)
    else if same w (codes "prepare") then Some (word.Branch verb.Prepare)
    else if same w (codes "commit") then Some (word.Branch verb.Commit)
    else if same w (codes "rollback") then Some (word.Branch verb.Rollback)
    else if same w (codes "forget") then Some (word.Branch verb.Forget)
    else if same w (codes "recover") then Some word.Recover
    else if same w (codes "get") then Some word.Get
    else if same w (codes "put") then Some word.Put
    else if same w (codes "del") then Some word.Delete
    else if same w (codes "heur") then Some word.Decide
    else if same w (codes "restart") then Some word.Restart
    else if same w (codes "disconnect") then Some word.Disconnect
    else if same w (codes "trim") then Some word.Trim
    else None

-- whether an operator commits, by the word of the outcome
abbrev pub outcome_at : List ℕ → Option Bool
outcome_at w =
    if same w (codes "commit") then Some true
    else if same w (codes "rollback") then Some false
    else None

-- the call of a word alone
abbrev pub IsAlone : CallWord → TranscriptCall → Type 0
IsAlone word.Restart (Restart cut) = cut ≡ false
IsAlone word.Trim Trim = Unit {0}
IsAlone w _ = ⊥

-- the call of a word and another
abbrev pub IsWithOne : CallWord → List ℕ → TranscriptCall → Type 0
IsWithOne word.Open x (Open flags) = IsFlagText x flags.0
IsWithOne word.Close x (Close flags) = IsFlagText x flags.0
IsWithOne word.Restart x (Restart cut) = IsSome (number_at x) × (cut ≡ true)
IsWithOne word.Disconnect x (Disconnect thread) = IsNumber x thread
IsWithOne w x _ = ⊥

-- the call of a word and two others; what an open says besides is passed over
abbrev pub IsWithTwo : CallWord → List ℕ → List ℕ → TranscriptCall → Type 0
IsWithTwo word.Open x y (Open flags) = IsFlagText x flags.0
IsWithTwo word.Get x y (Get thread key) = IsNumber x thread × (y ≡ key.now)
IsWithTwo word.Delete x y (Put thread key value) =
    IsNumber x thread × (y ≡ key.now) × (value.now ≡ codes "none")
IsWithTwo word.Decide x y (Decide xid commits) = IsName x xid × (outcome_at y ≡ Some commits)
IsWithTwo w x y _ = ⊥

-- the call of a word and three others
abbrev pub IsWithThree : CallWord → List ℕ → List ℕ → List ℕ → TranscriptCall → Type 0
IsWithThree word.Put x y z (Put thread key value) = IsNumber x thread × (y ≡ key.now) × (z ≡ value.now)
IsWithThree word.Recover x y z (Recover thread count flags) =
    IsNumber x thread × IsNumber y count × IsFlagText z flags.0
IsWithThree (word.Branch v) x y z (Branch f thread xid flags) =
    (f ≡ v) × IsNumber x thread × IsName y xid × IsFlagText z flags.0
IsWithThree w x y z _ = ⊥

-- a word and those after it spell a call
abbrev pub AsksBy : CallWord → List (List ℕ) → TranscriptCall → Type 0
AsksBy w [] a = IsAlone w a
AsksBy w (x ∷ []) a = IsWithOne w x a
AsksBy w (x ∷ y ∷ []) a = IsWithTwo w x y a
AsksBy w (x ∷ y ∷ z ∷ []) a = IsWithThree w x y z a
AsksBy w _ a = ⊥

-- words spell a call
abbrev pub AsksCall : List (List ℕ) → TranscriptCall → Type 0
AsksCall [] a = ⊥
AsksCall (w ∷ ws) a = IsSomeAnd (word_at w) (λ k. AsksBy k ws a)
