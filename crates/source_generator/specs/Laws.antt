-- What the definitions come to, row by row.
use Rattle.std.specs.Prelude.{◌≡◌, ◌∷◌, [], codes}
use Rattle.source_generator.specs.Draws.{drawn, draws, behind}
use Rattle.source_generator.specs.Source.{statement_text, task_end}

-- the first values and statements of the source of 0
pub record RowsOfZero : Type 0 where
  pub values : draws 8 0 ≡ 15470 ∷ 18256 ∷ 53708 ∷ 43769 ∷ 25170 ∷ 40750 ∷ 22526 ∷ 41945 ∷ []
  pub first : statement_text (drawn (behind 8 0)) ≡ codes "  a0[x2] = x5;\n"
  pub second : statement_text (drawn (behind 9 0)) ≡ codes "  for (i = 0; i < 8; i++) { a1[i] = a1[i] + x2; }\n"

-- one statement of each form, and tasks in a circle
pub record StatementRows : Type 0 where
  pub sum : statement_text 48 ≡ codes "  x0 = x1 + sense();\n"
  pub store : statement_text 391 ≡ codes "  a1[x1] = x0;\n"
  pub load : statement_text 65534 ≡ codes "  x2 = a0[x5 % 32] ^ 65534;\n"
  pub choice : statement_text 9 ≡ codes "  if (x1 < x0) { x1 = 9; } else { emit(x0); }\n"
  pub update : statement_text 4 ≡ codes "  for (i = 0; i < 8; i++) { a0[i] = a0[i] + x0; }\n"
  pub product : statement_text 59 ≡ codes "  emit(x1 * x1);\n"
  pub circle : task_end 15 5 ≡ codes "  transition_to(t2);\n}\n"
