-- What the proofs of other crates cite.

-- The words after a command's name, as `clap`'s rules read them.
pub use Rattle.command_line.proofs.Files.{IsGiven, IsInOrder, IsJudged, Kind, built_subcommand, command_judged, ends, file_row, files_said, given_row}
pub use Rattle.command_line.proofs.Files.{kind_of_word, long, more_given, no_kind, plain, rows_for, short, some_char, walk_at}
-- Commands by their names.
pub use Rattle.command_line.proofs.FirstWord.{has_name, named, names_in}
-- The first word of a line of any program with such commands.
pub use Rattle.command_line.proofs.FirstWord.{built_app, fault_behind, no_fault, no_words_fail, rows_behind, unnamed_fails}
-- What a parse found, as the files of a line.
pub use Rattle.command_line.proofs.Commands.{are_texts, entered_is, has_met, is_there_by, lent, one_value, some_more, values_after}
