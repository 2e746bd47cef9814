-- The lines of a plan.
use Rattle.std.specs.Prelude.{◌≡◌, ℕ, ◌%◌, ◌==◌, Bool, true, false, List, [], ◌∷◌, ◌++◌, length, codes, if◌then◌else◌}
use Rattle.std.specs.Fmt.{decimal}
use Rattle.std.specs.Int.{to_be_bytes, w16, w32}
use Rattle.std.specs.List.{flat_map}
use Rattle.hex.specs.Hex.{encode_lower}
use Rattle.judge_rules.specs.declared.calls.BranchVerb.{BranchVerb}
use Rattle.judge_words.specs.verb
use Rattle.judge_rules.specs.declared.calls.JudgedCall.{JudgedCall}
use Rattle.judge_words.specs.call
use Rattle.judge_rules.specs.declared.calls.Function.{Function}
use Rattle.judge_words.specs.function
use Rattle.judge_rules.specs.declared.calls.On.{On}
use Rattle.judge_rules.specs.declared.calls.XidName.{XidName}
use Rattle.judge_rules.specs.declared.calls.XidSort.{XidSort}
use Rattle.judge_rules.specs.declared.calls.XidSort.TheVariants as sort

-- the name of a branch's global transaction, in hexadecimal: two bytes of the plan and four of the branch
abbrev pub global_name : ℕ → ℕ → List ℕ
global_name seed n = encode_lower (to_be_bytes w16 (seed % 65536)) ++ encode_lower (to_be_bytes w32 n)

-- the XID of this global name, in text; the null XID has none
abbrev pub xid_by : XidSort → List ℕ → List ℕ
xid_by sort.Null g = codes "-1::"
xid_by _ g = codes "7:" ++ g ++ codes ":01"

-- the XID of a branch, in text
abbrev pub xid_name : ℕ → XidName → List ℕ
xid_name seed x = xid_by x.sort (global_name seed x.number)

-- the key of a branch
abbrev pub key_name : ℕ → ℕ → List ℕ
key_name seed n = codes "k" ++ global_name seed n

-- the first word of a call on a branch, and a space
abbrev pub verb_word : BranchVerb → List ℕ
verb_word verb.Start = codes "start "
verb_word verb.End = codes "end "
verb_word verb.Prepare = codes "prepare "
verb_word verb.Commit = codes "commit "
verb_word verb.Rollback = codes "rollback "
verb_word verb.Forget = codes "forget "

-- the names of flags, joined by plus signs: those of no plan are none
abbrev pub flags_text : ℕ → List ℕ
flags_text f =
    if f == 0x8000_0000 then codes "TMASYNC"
    else if f == 0x4000_0000 then codes "TMONEPHASE"
    else if f == 0x2000_0000 then codes "TMFAIL"
    else if f == 0x1000_0000 then codes "TMNOWAIT"
    else if f == 0x0800_0000 then codes "TMRESUME"
    else if f == 0x0400_0000 then codes "TMSUCCESS"
    else if f == 0x0200_0000 then codes "TMSUSPEND"
    else if f == 0x0100_0000 then codes "TMSTARTRSCAN"
    else if f == 0x0080_0000 then codes "TMENDRSCAN"
    else if f == 0x0020_0000 then codes "TMJOIN"
    else if f == 0x0180_0000 then codes "TMSTARTRSCAN+TMENDRSCAN"
    else if f == 0x0210_0000 then codes "TMSUSPEND+TMMIGRATE"
    else if f == 0x0820_0000 then codes "TMRESUME+TMJOIN"
    else if f == 0x2400_0000 then codes "TMFAIL+TMSUCCESS"
    else if f == 0x8020_0000 then codes "TMASYNC+TMJOIN"
    else if f == 0x8100_0000 then codes "TMASYNC+TMSTARTRSCAN"
    else if f == 0x8400_0000 then codes "TMASYNC+TMSUCCESS"
    else codes "TMNOFLAGS"

-- a call on a branch
abbrev pub branch_text : ℕ → BranchVerb → On → List ℕ
branch_text seed v o =
    verb_word v ++ decimal o.thread ++ codes " " ++ xid_name seed o.xid ++ codes " " ++ flags_text o.flags.0

-- a call of the interface
abbrev pub function_text : ℕ → Function → List ℕ
function_text seed (function.Open f) = codes "open " ++ flags_text f.0
function_text seed (function.Close f) = codes "close " ++ flags_text f.0
function_text seed (function.Branch v o) = branch_text seed v o
function_text seed (function.Recover t c f) =
    codes "recover " ++ decimal t ++ codes " " ++ decimal c ++ codes " " ++ flags_text f.0

-- a write: of no value, a deletion
abbrev pub put_text : ℕ → ℕ → ℕ → ℕ → List ℕ
put_text seed t k v =
    if v == 0 then codes "del " ++ decimal t ++ codes " " ++ key_name seed k
    else codes "put " ++ decimal t ++ codes " " ++ key_name seed k ++ codes " " ++ decimal v

-- the end of an operator's decision
abbrev pub outcome_text : Bool → List ℕ
outcome_text true = codes " commit"
outcome_text false = codes " rollback"

-- an operator's decision
abbrev pub decision_text : ℕ → ℕ → Bool → List ℕ
decision_text seed x c =
    codes "heur " ++ xid_name seed (record { number = x; sort = sort.Full }) ++ outcome_text c

-- a read
abbrev pub get_text : ℕ → ℕ → ℕ → List ℕ
get_text seed t k = codes "get " ++ decimal t ++ codes " " ++ key_name seed k

-- a call
abbrev pub call_text : ℕ → JudgedCall → List ℕ
call_text seed (call.Function f) = function_text seed f
call_text seed (call.Get t k) = get_text seed t k
call_text seed (call.Put t k v) = put_text seed t k v
call_text seed (call.Decide x c) = decision_text seed x c
call_text seed (call.Restart c) = codes "restart 0"
call_text seed (call.Disconnect t) = codes "disconnect " ++ decimal t
call_text seed call.Trim = codes "trim"

-- the line of a call
abbrev pub call_line : ℕ → JudgedCall → List ℕ
call_line seed c = call_text seed c ++ 10 ∷ []

-- the first of these calls opens the manager
abbrev pub OpensFirst : List JudgedCall → Type 0
OpensFirst [] = Unit {0}
OpensFirst (c ∷ cs) = c ≡ call.Function (function.Open (record { 0 = 0 }))

-- a text is a plan of this seed and N calls: the lines of as many calls, of which the first opens the manager
pub record IsPlan (seed count : ℕ) (text : List ℕ) : Type 0 where
  pub calls : List JudgedCall
  pub long : length calls ≡ count
  pub opens : OpensFirst calls
  pub lines : text ≡ flat_map (call_line seed) calls
