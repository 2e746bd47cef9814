-- Where cases are looked up.
use Rattle.std.specs.Prelude.{◌≡◌, List}
use Rattle.protocol.specs.declared.trees.TreeProcess.{TreeProcess}
use Rattle.log_script.specs.declared.line.ProcessLog.{ProcessLog}
use Rattle.protocol.specs.Audits.{KeptLogs}
use Rattle.audit_tree.specs.Tables.{AreNotes}
use Rattle.audit_engine.specs.Chains.{AreNamings}
use Rattle.resolve_engine.specs.declared.asked.Trust.{Trust}
use Rattle.resolve_engine.specs.declared.finding.Finder.{Finder}

-- it looks in these logs of this tree, of which the caller says this
pub record Looks (trust : Trust) (tree : List TreeProcess) (logs : List ProcessLog)
    (f : Finder) : Type 0 where
  pub trusts : f.trust ≡ trust
  pub tree_is : f.tree.now ≡ tree
  pub logs_are : f.logs.now ≡ logs

-- what it keeps of the logs is what these kept lists say
pub record Finds (kept : KeptLogs) (f : Finder) : Type 0 where
  pub notes : AreNotes f.tree.now kept f.notes.now.entries
  pub namings : AreNamings f.tree.now kept f.namings.entries
