-- How the rules of sound states are named.
use Rattle.std.specs.Prelude.{ℕ, List, codes}
use Rattle.fram_state.specs.declared.fault.Rule.{Rule}
use Rattle.fram_state.specs.declared.fault.Rule.TheVariants as rule

-- the name by which a refusal tells a rule
abbrev pub rule_name : Rule → List ℕ
rule_name rule.Gate = codes "GATE"
rule_name rule.CurrentTask = codes "CUR"
rule_name rule.Versions = codes "versions"
rule_name rule.Base = codes "BASE"
rule_name rule.ListLength = codes "CLN"
rule_name rule.EmitCount = codes "EN"
rule_name rule.NextTask = codes "NEXT"
rule_name rule.SentBase = codes "SB"
rule_name rule.List = codes "list"
rule_name rule.Ring = codes "ring"
