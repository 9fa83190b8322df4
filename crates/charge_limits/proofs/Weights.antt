-- What effects weigh: a reading one, and a word that is offered any weight. So both are counted in one go.
use Rattle.std.proofs.Common.{◌≡◌, ℕ, suc, ◌+◌, ◌<◌, ◌≤◌, List, [], ◌∷◌, ◌++◌, length, arith}
use Rattle.machine_effects.specs.fram_board.Effects.{Effect, Store, Take, Outside, Offered, Looked}
use Rattle.machine_effects.specs.World.{readings_taken}
use Rattle.charge_limits.specs.Laws.{words_offered}

abbrev pub weighed : ℕ → List Effect → ℕ
weighed weight [] = 0
weighed weight (Store a v ∷ es) = weighed weight es
weighed weight (Take v ∷ es) = suc (weighed weight es)
weighed weight (Outside (Offered n v) ∷ es) = weight + weighed weight es
weighed weight (Outside (Looked look) ∷ es) = weighed weight es

pub weighed-append : (weight : ℕ) (a b : List Effect) → weighed weight (a ++ b) ≡ weighed weight a + weighed weight b
weighed-append weight [] b = omega arith
weighed-append weight (Store a v ∷ es) b = weighed-append weight es b
weighed-append weight (Take v ∷ es) b = let rest = weighed-append weight es b in omega (arith, rest)
weighed-append weight (Outside (Offered n v) ∷ es) b = let rest = weighed-append weight es b in omega (arith, rest)
weighed-append weight (Outside (Looked look) ∷ es) b = weighed-append weight es b

-- there are no more readings than that
pub readings_weigh : (weight : ℕ) (es : List Effect) → length (readings_taken es) ≤ weighed weight es
readings_weigh weight [] = omega arith
readings_weigh weight (Store a v ∷ es) = readings_weigh weight es
readings_weigh weight (Take v ∷ es) = let rest = readings_weigh weight es in omega (arith, rest)
readings_weigh weight (Outside (Offered n v) ∷ es) = let rest = readings_weigh weight es in omega (arith, rest)
readings_weigh weight (Outside (Looked look) ∷ es) = readings_weigh weight es

-- nor more words, where each weighs one
pub words_weigh : (es : List Effect) → length (words_offered es) ≤ weighed 1 es
words_weigh [] = omega arith
words_weigh (Store a v ∷ es) = words_weigh es
words_weigh (Take v ∷ es) = let rest = words_weigh es in omega (arith, rest)
words_weigh (Outside (Offered n v) ∷ es) = let rest = words_weigh es in omega (arith, rest)
words_weigh (Outside (Looked look) ∷ es) = words_weigh es

-- and none, where all weigh less than one of them
pub none_offered : (weight : ℕ) (es : List Effect) → weighed weight es < weight → length (words_offered es) ≡ 0
none_offered weight [] h = omega arith
none_offered weight (Store a v ∷ es) h = none_offered weight es h
none_offered weight (Take v ∷ es) h = none_offered weight es (omega (arith, h))
none_offered weight (Outside (Offered n v) ∷ es) h = absurd (omega (arith, h))
none_offered weight (Outside (Looked look) ∷ es) h = none_offered weight es h

-- words of effects, one stretch after another
pub offered-append : (a b : List Effect) → length (words_offered (a ++ b)) ≡ length (words_offered a) + length (words_offered b)
offered-append [] b = omega arith
offered-append (Store a v ∷ es) b = offered-append es b
offered-append (Take v ∷ es) b = offered-append es b
offered-append (Outside (Offered n v) ∷ es) b = let rest = offered-append es b in omega (arith, rest)
offered-append (Outside (Looked look) ∷ es) b = offered-append es b
