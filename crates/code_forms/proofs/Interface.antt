-- What the proofs of other crates cite.

-- The registers told apart.
pub use Rattle.code_forms.proofs.Registers.{powered_has_a_core}
-- Straight stretches of code, and stretches one after another.
pub use Rattle.code_forms.proofs.Blocks.{stands_front, stands_back, forms_behind, first_forms, forms_at, form_at, does, block, runs_within, hop, runs_on}
pub use Rattle.code_forms.proofs.Blocks.{dearer}
pub use Rattle.code_forms.proofs.Blocks.{nothing, starve, starves_on, dearer_starves, end_of, no_steps, comes_on, straight_comes, form_comes}
-- The rules of interrupts, in code that stays.
pub use Rattle.code_forms.proofs.Rules.{vector_stays, goes_kept, code_goes_undisturbed, code_stays_prepared, code_stays_open}
-- What they read stands at SP or above.
pub use Rattle.code_forms.proofs.FromSp.{forms_read_from_sp}
-- SP stays between the addresses of the code.
pub use Rattle.code_forms.proofs.Stacks.{forms_keep_the_stack}
-- Two machines that step alike where a fact holds; code by itself does under watch what it does.
pub use Rattle.code_forms.proofs.Agreeing.{EachFront, same_going, fronts_so, leads_so, stalls_so}
pub use Rattle.code_forms.proofs.Watched.{MayStand, leads_watched, stalls_watched, fronts_may, fronts_on_stack, stands_only, only_there}
pub use Rattle.code_forms.proofs.Watched.{only_is_part, only_is_tidy}
-- Instructions that stand one after another in FRAM, untouched, are what a machine fetches.
pub use Rattle.code_forms.proofs.Placed.{bytes_are, form_small, placed_next, placed_within, holds_front, holds_back, fram_word, fram_no_ram}
pub use Rattle.code_forms.proofs.Placed.{holds_stores, code_in_fram_steps}
pub use Rattle.code_forms.proofs.Placed.{placed_is_tidy}
pub use Rattle.code_forms.proofs.Placed.{forms_stand, forms_bytes-append, instructions-append, stands_at}
