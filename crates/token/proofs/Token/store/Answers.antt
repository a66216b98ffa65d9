-- `token::Token::store` meets its contract: no place or no row for the handle, and a value that is kept.
-- Assumes nothing.
use native.Mathlib.Omega.{arith}
use Rattle.std.proofs.lemmas.Result.{err_from_is_err_and}
use Rattle.token.proofs.Chaining.{halts}
use Rattle.token.proofs.Storing.{handle_given, store_stops, stores}
use Rattle.token.proofs.Token.store.Goals as goal

pub returns-in_err-h-clause-performed : goal.returns-in_err-h-clause-performed
returns-in_err-h-clause-performed c =
    let kept = c.new_handle.ensures.keys_kept in
    let told = err_from_is_err_and c.from_residual.result c.from_residual.ensures.1 in
    λ σ S.
    rw (told.1, told.2, kept.0, kept.1)
    (store_stops S.carries S.few_atoms S.counts_are c.in_err-h.ensures.made _ _ (halts _ _))

pub keep-requires : goal.keep-requires
keep-requires c =
    let ready = c.requires in
    let same = c.new_handle.ensures.same_tables in
    let handle = handle_given c.in_ok-h.ensures.made in
    omega arith

pub returns-clause-performed : goal.returns-clause-performed
returns-clause-performed c =
    let byte = c.ranges.t in
    let kept = c.new_handle.ensures.keys_kept in
    λ σ S.
    rw c.keep.ensures.rows_kept
    (stores S.carries S.few_atoms S.counts_are c.in_ok-h.ensures.made (omega arith) c.requires.1
    (rw (kept.0, kept.1) at c.keep.ensures.kept))
