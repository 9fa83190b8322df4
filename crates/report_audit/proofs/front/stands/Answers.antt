use Rattle.std.proofs.Common.{arith}
use Rattle.std.proofs.lemmas.List.{take_rest}
use Rattle.report_audit.proofs.Compared.{stands_there, differs_there}
use Rattle.report_audit.proofs.front.stands.Goals as goal

pub returns-then-common-text-clause-stands : goal.returns-then-common-text-clause-stands
returns-then-common-text-clause-stands c =
    let rest = take_rest c.args.report.now c.args.at in
    let within = rw rest at c.common_len-common.ensures.within.0 in
    let same = rw rest at c.common_len-common.ensures.same in
    stands_there _ _ _ _ c.requires.inside within same c.if-common-text.true

pub returns-else-common-text-clause-differs : goal.returns-else-common-text-clause-differs
returns-else-common-text-clause-differs c =
    let rest = take_rest c.args.report.now c.args.at in
    let within = rw rest at c.common_len-common.ensures.within.0 in
    let same = rw rest at c.common_len-common.ensures.same in
    let differs = rw rest at c.common_len-common.ensures.differs in
    differs_there _ _ _ _ c.requires.inside within same c.common_len-common.ensures.within.1 (λ all. omega (arith, all)) differs
