use Rattle.std.proofs.lemmas.Str.Pattern.{strip_prefix_char}
use Rattle.tree_script.proofs.Letters.{after_is}
use Rattle.tree_script.proofs.names.after.Goals as goal

pub returns : goal.returns
returns c = after_is _ _ _ (strip_prefix_char _ _ _ c.strip_prefix.ensures.cases c.requires)
