-- Four texts, one behind another.
use Rattle.std.proofs.Common.{ℕ, List, ◌++◌, Option, Result}
use Rattle.std.specs.Io.KnownBytes.{Appends}
use Rattle.plain_commands.specs.alp_io.Sink.{AppendsProperPrefix, Writes}
use Rattle.plain_commands.proofs.alp_io.Interface.{part_of_first, part_of_second, writes_then}

-- the second is written in part
pub in_second : (old x new : Option (List ℕ)) (a b c d : List ℕ) → Appends old x a → AppendsProperPrefix x new b
    → AppendsProperPrefix old new (a ++ (b ++ (c ++ d)))
in_second old x new a b c d first p = part_of_second old x new a (b ++ (c ++ d)) first (part_of_first x new b (c ++ d) p)

-- the third
pub in_third : (old x y new : Option (List ℕ)) (a b c d : List ℕ) → Appends old x a → Appends x y b → AppendsProperPrefix y new c
    → AppendsProperPrefix old new (a ++ (b ++ (c ++ d)))
in_third old x y new a b c d first second p =
    part_of_second old x new a (b ++ (c ++ d)) first (part_of_second x y new b (c ++ d) second (part_of_first y new c d p))

-- the fourth, whole or in part
pub all_four : {T E : Type 0} (old x y z new : Option (List ℕ)) (result : Result T E) (a b c d : List ℕ) → Appends old x a → Appends x y b → Appends y z c
    → Writes z new result d → Writes old new result (a ++ (b ++ (c ++ d)))
all_four old x y z new result a b c d first second third fourth =
    writes_then old x new result a (b ++ (c ++ d)) first (writes_then x y new result b (c ++ d) second (writes_then y z new result c d third fourth))
