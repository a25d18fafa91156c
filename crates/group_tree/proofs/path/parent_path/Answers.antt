use Rattle.std.proofs.Common.{◌∙◌, lit<}
use Rattle.std.proofs.lemmas.Str.Pattern.{rfind_char}
use Rattle.group_tree.proofs.PathLemmas.{from_start, only_zero, parent_path-found, parent_path-at_root}
use Rattle.group_tree.proofs.path.parent_path.Goals as goal
use Rattle.group_tree.proofs.path.parent_path.Goals.{in_default-via-in-Some+else-last_slash-gt0, in_default-via-in_default}

pub returns-in-Some : goal.returns-in-Some
returns-in-Some c =
    c.range.ensures.value ∙ from_start c.args.path.now c.in-Some.last_slash
    ∙ parent_path-found c.args.path.now c.rfind.result c.in-Some.last_slash (rfind_char 47 c.args.path.now c.rfind.result c.rfind.ensures.cases (lit< tt)) c.in-Some.is c.if-last_slash-gt0.true

pub returns-in_default : goal.returns-in_default
returns-in_default c =
    parent_path-at_root c.args.path.now c.rfind.result (rfind_char 47 c.args.path.now c.rfind.result c.rfind.ensures.cases (lit< tt))
    (elim c.in_default.branch [
      | in_default-via-in-Some+else-last_slash-gt0 w ↦ λ k is. only_zero c.rfind.result w.in-Some.last_slash k w.in-Some.is w.if-last_slash-gt0.false is
      | in_default-via-in_default w ↦ λ k is. absurd (w.in_default.not-Some k is)
    ])
