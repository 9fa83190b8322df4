-- One level of the tree that a Rust tree stands for, and one more node at the front of a list.
use Rattle.std.proofs.Common.{◌≡◌, ℕ, rules, Option}
use Rattle.std.specs.declared.alloc.Global.{Global}
use Rattle.std.specs.declared.vec.Vec.{Vec}
use Rattle.task_ast.specs.Tree.{loop, choose}
use Rattle.task_ast.specs.View.{expression_of, statement_of, tested_of, block_view, choice_view}
use Rattle.task_ast.specs.declared.Stmt.{Stmt, the_lemmas}
use Rattle.task_ast.specs.declared.Stmt.TheVariants.{If, For}
use Rattle.task_ast.specs.declared.Arm.{Arm, out-Arm}

pub statement_of-For : {V T F : Type 0} (variable : V) (from : ℕ) (tested : V) (below : ℕ) (stepped : V) (body : Vec (Stmt V T F) Global)
    → statement_of (For variable from tested below stepped body) ≡ loop variable from tested below stepped (block_view body.items)
statement_of-For variable from tested below stepped body = search (rules, the_lemmas)

pub statement_of-If : {V T F : Type 0} (arms : Vec (Arm V T F) Global) (last : Option (Vec (Stmt V T F) Global))
    → statement_of (If arms last) ≡ choose (choice_view arms.items last)
statement_of-If arms last = search (rules, the_lemmas)

pub tested_of-block : {V T F : Type 0} (arm : Arm V T F) → (tested_of arm).block ≡ block_view (out-Arm V T F arm).block.items
tested_of-block arm = search (rules, the_lemmas)

pub tested_of-condition : {V T F : Type 0} (arm : Arm V T F) → (tested_of arm).condition ≡ expression_of (out-Arm V T F arm).condition
tested_of-condition arm = search (rules, the_lemmas)
