-- The words of the runtime, in the order in which they stand.
use Rattle.std.specs.Prelude.{ℕ}
use Rattle.memory_map.specs.declared.words.RuntimeWord.{RuntimeWord}
use Rattle.memory_map.specs.declared.words.RuntimeWord.TheVariants.{CurrentTask, NextTask, Gate, ListLength, EmitCount, Base, SentBase, Version}

-- the number of a word in the row
abbrev pub index_of : RuntimeWord → ℕ
index_of CurrentTask = 0
index_of NextTask = 1
index_of Gate = 2
index_of ListLength = 3
index_of EmitCount = 4
index_of Base = 5
index_of SentBase = 6
index_of Version = 7

-- how many they are
abbrev pub row_words : ℕ
row_words = 8
