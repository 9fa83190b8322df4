use Rattle.std.proofs.Common.{arith}
use Rattle.std.proofs.lemmas.Bool.Decides.{nat_tests}
use Rattle.text_parts.proofs.Grouping.{no_groups, group_cut, groups_made}
use Rattle.text_parts.proofs.groups.cut_group.Goals as goal

pub returns-then-is_empty : goal.returns-then-is_empty
returns-then-is_empty g c = record {
  cut = no_groups _ _ (grind (arith, nat_tests, c.is_empty.ensures, c.if-is_empty.true));
  made = groups_made _ _ c.requires;
}

pub returns : goal.returns
returns g c = record {
  cut = group_cut _ _ _ _ c.min.result c.requires (grind (arith, nat_tests, c.is_empty.ensures, c.if-is_empty.false)) (omega (arith, c.min.ensures))
      c.split_at.ensures.front c.split_at.ensures.back;
  made = groups_made _ _ c.requires;
}
