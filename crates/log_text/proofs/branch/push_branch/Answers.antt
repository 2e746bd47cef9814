use Rattle.std.proofs.Common.{◌∙◌, ◌++◌, ap, append_assoc, sym}
use Rattle.xa_xid.specs.Bytes.{xid_bytes}
use Rattle.log_text.specs.Branches.{rest_text}
use Rattle.log_text.specs.Parts.{name_in}
use Rattle.log_text.proofs.BranchFrames.{payload_is, sized_rest}
use Rattle.log_text.proofs.branch.push_branch.Goals as goal

pub push_rest-requires : goal.push_rest-requires
push_rest-requires c = sized_rest c.args.entry.now (name_in c.args.xid.now).1 c.requires

pub returns : goal.returns
returns c =
    c.in_ok-push_rest.ensures ∙ ap (λ t. t ++ rest_text c.args.entry.now) c.in_ok-push_xid.ensures
    ∙ append_assoc c.args.text.now.items (xid_bytes c.args.xid.now) (rest_text c.args.entry.now)
    ∙ ap (λ t. c.args.text.now.items ++ t) (sym (payload_is c.args.entry.now c.args.xid.now))
