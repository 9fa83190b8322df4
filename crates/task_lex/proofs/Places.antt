-- Where tokens in order begin.
use Rattle.std.proofs.Common.{ℕ, zero, suc, ◌<◌, ◌≤◌, List, [], ◌∷◌, arith}
use Rattle.std.specs.Prelude.{All}
use Rattle.task_lex.specs.declared.token.Token.{Token}
use Rattle.task_lex.specs.Spans.{InOrder}

pub all_within : (at end : ℕ) (ts : List Token) → InOrder at end ts → All (λ t. t.span.from ≤ end) ts
all_within at end [] h k d less = absurd (omega arith)
all_within at end (t ∷ ts) h zero d less = let some : t.span.from < t.span.to = h.1 in let fits : t.span.to ≤ end = h.2 in omega arith
all_within at end (t ∷ ts) h (suc k) d less = all_within t.span.to end ts h.3 k d (omega arith)
