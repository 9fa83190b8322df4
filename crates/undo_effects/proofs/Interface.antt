-- What the proofs of other crates cite.

-- Words put into FRAM, and what putting entries back makes of it.
pub use Rattle.undo_effects.proofs.Undone.{put_again, out_of, put_over, put_apart, undone_at, undone_other, undone_over, undone_beside, undone_last}
pub use Rattle.undo_effects.proofs.Undone.{logged_last, still_logged, is_logged_last, put_back_undoes, put_back_restores}
pub use Rattle.undo_effects.proofs.Undone.{put_back_last, put_back_takes, put_back_stores, logged_words, last_logged, logged_alike}
-- Where an attempt's opening stores.
pub use Rattle.undo_effects.proofs.Opening.{opening_stores}
