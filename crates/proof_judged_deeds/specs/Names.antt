-- The names of a script as numbers, and by what its answers are judged.
use Rattle.std.specs.Prelude.{◌≡◌, ℕ, Bool, true, false, List, [], Option, Some, None, if◌then◌else◌, codes}
use Rattle.xa_xid.specs.declared.xid.Xid.{Xid}
use Rattle.xa_xid.specs.Xids.{null_xid}
use Rattle.xa_branch.specs.Names.{same}
use Rattle.judge_rules.specs.declared.calls.XidSort.{XidSort}
use Rattle.judge_words.specs.sort
use Rattle.judge_rules.specs.declared.words.Rules.{Rules}

-- numbers for the names of branches, and for keys and values: no number two names; and 0 is that of the word
-- for no value
pub record NameNumbers : Type 0 where
  pub xid : Xid → ℕ
  pub word : List ℕ → ℕ
  pub xids_apart : (x y : Xid) → xid x ≡ xid y → x ≡ y
  pub words_apart : (k l : List ℕ) → word k ≡ word l → k ≡ l
  pub none : word (codes "none") ≡ 0

-- the number of what is under a key: 0 where there is nothing
abbrev pub value_number : NameNumbers → Option (List ℕ) → ℕ
value_number n None = 0
value_number n (Some v) = n.word v

-- bytes are none
abbrev pub are_none : List ℕ → Bool
are_none [] = true
are_none _ = false

-- what an XID is to the judge: the null XID, one without a branch qualifier, or a full one
abbrev pub sort_of : Xid → XidSort
sort_of x = if same x null_xid then sort.Null else if are_none x.bqual then sort.Bare else sort.Full

-- the key store promises that it decides no branch by itself, and lacks one thing: the end of a prepared
-- branch may not be forced, so that a crash may bring the branch back
abbrev pub lacks_forced : Rules
lacks_forced = record {
  never = record { heuristics = true; failures = false; rollback = false };
  lacks = record {
    join = false;
    suspend = false;
    migrate = false;
    threads = false;
    scan = false;
    count = false;
    opening = false;
    forced = true;
    isolation = false;
    empty_bqual = false;
  };
}
